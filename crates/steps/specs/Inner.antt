-- What the contracts of inner functions need beyond the words of the papers: nobody has to believe it.
-- Assumes nothing.
use Rattle.std.specs.Prelude.{ℕ, ◌≡◌, List}
use Rattle.spec.specs.Rows.{data_width, layout}
use Rattle.spec.specs.declared.Store.{Store}
use Rattle.spec.specs.Calls.{removed}
use Rattle.spec.specs.Bytes.{decode, store_of}

-- What removing a client's data rows and closing it leaves of a record s and the data buffer d, for the promise of `remove`, which Abandon
-- and the check share; whatever the committed buffer c and the version table v are.
pub record Removed (k : ℕ) (s : Store) (d : List ℕ) (s' : Store) (d' : List ℕ) : Type 0 where
  pub store : (c v : List ℕ) → s' ≡ store_of (removed k (decode s d c v))
  pub bytes : (c v : List ℕ) → d' ≡ layout data_width s.used (removed k (decode s d c v)).data_rows d
