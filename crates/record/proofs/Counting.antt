-- The next number of a counter, by `checked_add` and `ok_or`, and where there is none the refusal that `?` passes on.
-- Assumes nothing.
use Prim.Native.Nat.{ℕ, ◌+◌, ◌^◌, ◌<◌}
use mathlib.Core.Path.{◌≡◌, sym, ap, ◌∙◌}
use mathlib.Core.Bool.{true, false}
use native.Mathlib.Omega.{arith}
use borrow.Author.Tests.{eq-eqb, ne_eqb}
use lib.Dec.{eqb}
use Rattle.std.specs.Prelude.{Option, Some, None, Result, Ok, Err}
use Rattle.std.specs.Option.{SomeIff, ok_or}
use Rattle.std.specs.Result.{IsErrAnd}
use Rattle.spec.specs.declared.Refusal.{Refusal}
use Rattle.spec.specs.Answers.{Refused, code, answer_of}
use Rattle.spec.specs.Numbers.{top}

-- there is one
pub counted_up : {E : Type 0} (n m : ℕ) (e : E) (o : Option ℕ) (r : Result ℕ E) → SomeIff o (n + 1 < 2 ^ 32) (n + 1) → r ≡ ok_or o e → r ≡ Ok m
    → (eqb n top ≡ false) × (m ≡ n + 1)
counted_up n m e None r h g f = absurd (cc)
counted_up n m e (Some x) r h g f = (ne_eqb n top (λ z. omega (arith, h.0)), let same : x ≡ m = cc in sym same ∙ h.1)

-- the largest is taken
pub used_up : {A : Type 0} (n : ℕ) (e f : Refusal) (o : Option ℕ) (r : Result ℕ Refusal) (q : Result A Refusal)
    → n < 2 ^ 32 → SomeIff o (n + 1 < 2 ^ 32) (n + 1) → r ≡ ok_or o e → r ≡ Err f → IsErrAnd q (λ g. g ≡ f)
    → (eqb n top ≡ true) × (answer_of q ≡ Refused (code e))
used_up n e f None r (Ok a) b h g i j = absurd j
used_up n e f None r (Err x) b h g i j = (eq-eqb n top (omega (arith, h)), let same : x ≡ e = cc in ap (λ y. Refused (code y)) same)
used_up n e f (Some x) r q b h g i j = absurd (cc)
