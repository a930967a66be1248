-- What the contracts of inner functions need beyond the words of the papers: nobody has to believe it.
-- Assumes nothing.
use Rattle.std.specs.Prelude.{ℕ, List, [], ◌∷◌, ◌++◌}

-- a result with what closes its line
abbrev pub line_closed : List ℕ → List ℕ
line_closed result = result ++ (41 ∷ 10 ∷ [])
