-- `search::wrote_from`: the pass finds a row of the transaction for the cell just if there is one.
use Prim.Native.Nat.{ℕ}
use mathlib.Core.Path.{◌≡◌, refl, sym, ◌∙◌}
use mathlib.Core.Bool.{Bool, true, false}
use mathlib.Core.List.{List}
use lib.Dec.{ltb}
use borrow.Author.Tests.{ltb-true, ltb-false}
use Rattle.std.proofs.Common.{rules}
use Rattle.std.proofs.lemmas.Bool.{false_from_ne_true}
use Rattle.spec.specs.Rows.{Row, row_at, rows_from}
use Rattle.spec.specs.Look.{is_own}
use Rattle.spec.specs.Share.{any, wrote}
use Rattle.search.specs.Inner.{Next}
use Rattle.search.proofs.Passes.{next_by, skip}
use Rattle.search.proofs.Folds.{any_step, any_end}
use Rattle.search.proofs.wrote_from.Goals as goal

found : (p : Row → Bool) (n from r : ℕ) (s : List ℕ) → Next (λ k. p (row_at 24 k s) ≡ true) from n r → ltb r n ≡ any p (rows_from 24 n from s)
found p n from r s pass =
    go (ltb r n) refl ∙ sym (skip (λ k. any p (rows_from 24 n k s)) pass (λ k l m. any_step p 24 n k s l ∙ rw (false_from_ne_true _ m)))
  where
    go : (t : Bool) → ltb r n ≡ t → t ≡ any p (rows_from 24 n r s)
    go true e = sym (any_step p 24 n r s (ltb-true r n e) ∙ rw (pass.hit (ltb-true r n e)))
    go false e = sym (any_end p 24 n r s (ltb-false r n e))

pub returns : goal.returns
unfolding is_own wrote
returns c =
    let a = c.args in
    found (is_own a.tag a.cell) a.used a.from c.first_hit.result a.rows.now
    (next_by c.first_hit.ensures (λ k l h. search rules) (λ k l h e. search rules))
