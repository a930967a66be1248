-- `search::has_rows`: a pass from the end finds a row just if there is one.
use Prim.Native.Nat.{ℕ, ◌-◌}
use mathlib.Core.Path.{◌≡◌, refl, sym}
use mathlib.Core.Bool.{Bool, true, false}
use mathlib.Core.List.{List}
use native.Mathlib.Omega.{arith}
use lib.Dec.{ltb}
use borrow.Author.Tests.{ltb-true, ltb-false}
use Rattle.spec.specs.Rows.{row_at, rows_in, tag_of, has_tag}
use Rattle.spec.specs.Share.{any}
use Rattle.search.specs.Inner.{Last}
use Rattle.search.proofs.Folds.{tag_yes, tag_no, any_at, any_none}
use Rattle.search.proofs.has_rows.Goals as goal

found : (tag n r : ℕ) (s : List ℕ) → Last (λ k. tag_of (row_at 24 k s) ≡ tag) n r → ltb 0 r ≡ any (has_tag tag) (rows_in 24 n s)
found tag n r s pass = go (ltb 0 r) refl
  where
    go : (t : Bool) → ltb 0 r ≡ t → t ≡ any (has_tag tag) (rows_in 24 n s)
    go true e =
        sym (any_at (has_tag tag) 24 n s (r - 1) (omega (arith, ltb-true 0 r e, pass.end))
        (tag_yes tag (row_at 24 (r - 1) s) (pass.hit (ltb-true 0 r e))))
    go false e =
        sym (any_none (has_tag tag) 24 n s (λ k b. tag_no tag (row_at 24 k s) (pass.misses k (omega (arith, ltb-false 0 r e)) b)))

pub returns : goal.returns
returns c =
    let a = c.args in
    found a.tag a.used c.last_tagged.result a.rows.now c.last_tagged.ensures
