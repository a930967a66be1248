-- A call on an image does one of the things of Transition.antt, by the view. `Simulates i q o` says so of an outcome o; a chain of tests is walked by
-- `simulates_if`, one test at a time, and at its end `simulates` takes the model's change and the equation that the view of the outcome is that change.
-- Assumes nothing.
use Prim.Native.Nat.{ℕ, ◌≤◌}
use mathlib.Core.Path.{◌≡◌, refl, sym, ap, ◌∙◌, subst}
use mathlib.Core.Bool.{Bool, true, false, not}
use native.Mathlib.Omega.{arith}
use borrow.Author.Tests.{eqb-true, eqb-false, not-true, not-false}
use lib.Dec.{eqb}
use Rattle.std.specs.Prelude.{if◌then◌else◌}
use Rattle.spec.specs.Answers.{Answer}
use Rattle.spec.specs.Image.{Image, is_open, stage_of, number_of}
use Rattle.spec.specs.Calls.{Outcome}
use Rattle.spec.specs.Run.{Call, Result}
use Rattle.spec.specs.Table.{Observed, observe_answer}
use Rattle.history.proofs.Model.{Out, out}
use Rattle.history.proofs.Transition.{Transition}
use Rattle.history.proofs.View.{view, number_at_lem, stage_at}

-- an outcome as the model sees it
abbrev pub observed_outcome : (q : Call) → Outcome (Result q) → Out (Answer (Observed q))
observed_outcome q o = out (view o.image) (observe_answer q o.image.data_rows o.answer)

pub record Simulates (i : Image) (q : Call) (o : Outcome (Result q)) : Type 0 where
  pub did : Transition (view i) q (observed_outcome q o)

pub simulates : (i : Image) (q : Call) (o : Outcome (Result q)) {x : Out (Answer (Observed q))} → observed_outcome q o ≡ x
    → Transition (view i) q x → Simulates i q o
simulates i q o e t = record { did = subst (λ (y : Out (Answer (Observed q))). Transition (view i) q y) (sym e) t }

pub simulates_if : (i : Image) (q : Call) (b : Bool) {x y : Outcome (Result q)} → (b ≡ true → Simulates i q x)
    → (b ≡ false → Simulates i q y) → Simulates i q (if b then x else y)
simulates_if i q true f g = f refl
simulates_if i q false f g = g refl

-- ---- the tests of the calls, by the view

module _ (i : Image) (k : ℕ) where
  pub shut : is_open i k ≡ false → ((view i).cl k).number ≡ 0
  shut e = number_at_lem i k ∙ eqb-true (number_of i k) 0 (not-false (eqb (number_of i k) 0) e)

  pub same_open : not (eqb ((view i).cl k).number 0) ≡ is_open i k
  same_open = ap (λ (n : ℕ). not (eqb n 0)) (number_at_lem i k)

  pub not_open_lem : not (is_open i k) ≡ true → ((view i).cl k).number ≡ 0
  not_open_lem e = shut (not-true (is_open i k) e)

  pub open_number : not (is_open i k) ≡ false → 1 ≤ ((view i).cl k).number
  open_number e =
      let n : number_of i k ≡ 0 → ⊥ = eqb-false (number_of i k) 0 (not-true (eqb (number_of i k) 0) (not-false (is_open i k) e)) in
      omega (arith, n, number_at_lem i k)

  pub at_first : not (eqb (stage_of i k) 0) ≡ false → ((view i).cl k).stage ≡ 0
  at_first e = stage_at i k ∙ eqb-true (stage_of i k) 0 (not-false (eqb (stage_of i k) 0) e)
