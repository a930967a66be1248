-- What the contracts of inner functions need beyond the words of the papers: nobody has to believe it.
-- Assumes nothing.
use Rattle.std.specs.Prelude.{ℕ, ◌+◌, ◌/◌, ◌%◌, ◌≤◌, ◌≡◌, List, [], ◌∷◌, ◌++◌, length, take, drop}
use Rattle.spec.specs.Text.{decimal_of}

-- ---- What the printers promise. Assumes nothing.

-- out, whose text ended at a place, has become out', whose text ends at r, with w appended
pub record Put (out : List ℕ) (at : ℕ) (w : List ℕ) (out' : List ℕ) (r : ℕ) : Type 0 where
  pub place : r ≡ at + length w
  pub text : take r out' ≡ take at out ++ w

-- bytes, ten of them, end in the decimal digits of n, which begin at a place
pub record Spelled (n : ℕ) (bytes : List ℕ) (from : ℕ) : Type 0 where
  pub whole : drop from bytes ≡ decimal_of n
  pub ten : length bytes ≡ 10
  pub within : from ≤ 10

-- the two digits of a number below 100, a zero in front of one below 10
abbrev pub pair_of : ℕ → List ℕ
pair_of n = (48 + n / 10) ∷ (48 + n % 10) ∷ []

-- the room that an answer line may take, with its newline
abbrev pub answer_room : ℕ
answer_room = 90
