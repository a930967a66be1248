-- What the contracts of inner functions need beyond the words of the papers: nobody has to believe it.
-- Assumes nothing.
use Rattle.std.specs.Prelude.{ℕ, ◌+◌, ◌≤◌, ◌<◌, ◌≡◌, List, get_or}
use Rattle.spec.specs.Text.{hex_val}

-- v is the value of the byte that stands in s at a place, as a hexadecimal digit
abbrev pub HexValue : List ℕ → ℕ → ℕ → Type 0
HexValue s at v = (v ≡ hex_val (get_or s at 0)) × (v ≤ 16)

-- d has the values of the 32 bytes from a place on
abbrev pub HexValues : List ℕ → ℕ → List ℕ → Type 0
HexValues s at d = (j : ℕ) → j < 32 → HexValue s (at + j) (get_or d j 0)
