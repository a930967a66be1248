-- What the contracts of inner functions need beyond the words of the papers: nobody has to believe it.
-- Assumes nothing.
use Rattle.std.specs.Prelude.{ℕ, ◌+◌, ◌≤◌, List, ◌≡◌, ◌⊎◌}
use Rattle.spec.specs.Session.{Response}
use Rattle.spec.specs.Bytes.{Memory}
use Rattle.printing.specs.Inner.{answer_room, Put}

-- r is n, or the length of a buffer that has fewer than n bytes
abbrev pub Front : ℕ → ℕ → ℕ → Type 0
Front n len r = (r ≡ n) ⊎ ((r ≡ len) × (len ≤ n))

-- w is what the response leaves, and out, whose text ended at a place, has become out', whose text ends at used, with the response's text appended
pub record Spoken (p : Response) (w : Memory) (out : List ℕ) (at : ℕ) (out' : List ℕ) (used : ℕ) : Type 0 where
  pub memory : w ≡ p.memory
  pub text : Put out at p.text out' used
  pub room : used ≤ at + answer_room

-- a line, whose response is p, has found the memory w, and left w' and the text
abbrev pub Speaks : (Memory → Response) → Memory → Memory → List ℕ → ℕ → List ℕ → ℕ → Type 0
Speaks p w w' out at out' used = Spoken (p w) w' out at out' used
