-- What the contracts of inner functions need beyond the words of the papers: nobody has to believe it.
-- Assumes nothing.
use Rattle.std.specs.Prelude.{ℕ, ◌*◌, ◌≤◌, ◌<◌, ◌≡◌, List, [], ◌∷◌, ◌++◌, length, get_or, set}
use Rattle.spec.specs.Rows.{Row, data_width, with_value, rows_in, data_rows_in, layout}

-- a buffer s in which n rows of width w are in use has become s', with the row r behind them
abbrev pub RowAdded : ℕ → ℕ → Row → List ℕ → List ℕ → Type 0
RowAdded w n r s s' = s' ≡ layout w n (rows_in w n s ++ (r ∷ [])) s

-- row i of the data buffer d has the value v in d', however many rows are in use
abbrev pub ValueReplaced : ℕ → List ℕ → List ℕ → List ℕ → Type 0
ValueReplaced i v d d' =
    (n : ℕ) → i < n → data_width * n ≤ length d
    → d' ≡ layout data_width n (set (data_rows_in n d) i (with_value v (get_or (data_rows_in n d) i []))) d
