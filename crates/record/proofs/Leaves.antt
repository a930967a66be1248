-- The laws by which the check finds what a call leaves, where its definition is unfolded, and `on_bytes` where it tests fitness: the image that a record,
-- two buffers and a version table show, field by field; an outcome laid out in their place; rows that are as they were.
-- Assumes nothing.
use Prim.Native.Nat.{ℕ}
use mathlib.Core.Path.{◌≡◌, refl}
use mathlib.Core.List.{List}
use lib.ListN.{length-append, length-set}
use Rattle.std.proofs.lemmas.Bool.Decides.{nat_tests}
use Rattle.spec.specs.Rows.{rows_in}
use Rattle.spec.proofs.Rows.{length_rows}
use Rattle.spec.proofs.Laid.{laid_same}
use Rattle.spec.specs.declared.Store.{Store}
use Rattle.spec.specs.Image.{empty}
use Rattle.spec.specs.Bytes.{counters_in, clients_in, decode}
use Rattle.record.proofs.Ending.{encode_is, store_of_is}

module _ (s : Store) (d c v : List ℕ) where
  pub rows_decoded : (decode s d c v).rows ≡ s.rows
  unfolding decode
  rows_decoded = refl

  pub limit_decoded : (decode s d c v).limit ≡ s.limit
  unfolding decode
  limit_decoded = refl

  pub counters_decoded : (decode s d c v).counters ≡ counters_in s
  unfolding decode
  counters_decoded = refl

  pub clients_decoded : (decode s d c v).clients ≡ clients_in s
  unfolding decode
  clients_decoded = refl

  pub data_decoded : (decode s d c v).data_rows ≡ rows_in 24 s.used d
  unfolding decode
  data_decoded = refl

  pub commits_decoded : (decode s d c v).commit_rows ≡ rows_in 8 s.entries c
  unfolding decode
  commits_decoded = refl

  pub versions_decoded : (decode s d c v).versions ≡ v
  unfolding decode
  versions_decoded = refl

pub rows-empty : (r l w : ℕ) → (empty r l w).rows ≡ r
unfolding empty
rows-empty r l w = refl

pub ruleset left_by_calls = (
  nat_tests,
  length-append,
  length-set,
  length_rows,
  laid_same,
  rows_decoded,
  limit_decoded,
  counters_decoded,
  clients_decoded,
  data_decoded,
  commits_decoded,
  versions_decoded,
  encode_is,
  store_of_is,
  rows-empty,
)
