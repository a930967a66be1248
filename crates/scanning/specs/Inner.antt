-- What the contracts of inner functions need beyond the words of the papers: nobody has to believe it.
-- Assumes nothing.
use Rattle.std.specs.Prelude.{ℕ, ◌+◌, List, [], ◌∷◌, ◌≡◌, eqb, drop}
use Rattle.std.specs.Prelude.{if◌then◌else◌}

-- the place of the first newline of s, whose first byte is at i, or the place behind s
unfoldable pub newline_from : ℕ → List ℕ → ℕ
newline_from i [] = i
newline_from i (b ∷ s) = if eqb b 10 then i else newline_from (i + 1) s

-- the search for a newline in s from a place on comes to another place
abbrev pub NoNewline : List ℕ → ℕ → ℕ → Type 0
NoNewline s from to = newline_from from (drop from s) ≡ newline_from to (drop to s)

-- of a begun line so many bytes are kept: one more than a form may have, so that a line that is too long stays too long
abbrev pub most_kept : ℕ
most_kept = 81
