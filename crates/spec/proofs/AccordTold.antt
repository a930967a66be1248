-- Answers as numbers, for programs in C: what they are, and that they tell all of an answer.
-- Assumes nothing.
use Prim.Native.Nat.{ℕ, zero, suc}
use mathlib.Core.Path.{◌≡◌, refl}
use lib.Dec.{eqb}
use Rattle.std.specs.Prelude.{if◌then◌else◌, None, Some}
use Rattle.spec.specs.declared.Begun.{Begun}
use Rattle.spec.specs.declared.Progress.{Progress}
use Rattle.spec.specs.declared.Progress.TheVariants.{Stage, Waiting, Conflict, Done}
use Rattle.spec.specs.Answers.{Answer, Answered, Refused, not_open, Reading}
use Rattle.spec.specs.Told.{Told, told_of, figure_told, begin_told, read_told, advance_told, in_numbers}

-- ---- literal answers

pub told_literally : (in_numbers figure_told (Answered 24) ≡ told_of 0 24 0)
    × (in_numbers begin_told (Answered (record { number = 9; snapshot = 4 })) ≡ told_of 0 9 4)
    × (in_numbers read_told (Answered (Some 0)) ≡ told_of 0 1 0) × (in_numbers read_told (Answered (Some 5)) ≡ told_of 0 1 5)
    × (in_numbers read_told (Answered None) ≡ told_of 0 0 0)
    × (in_numbers advance_told (Answered (Stage 12)) ≡ told_of 0 1 12) × (in_numbers advance_told (Answered (Waiting 3)) ≡ told_of 0 2 3)
    × (in_numbers advance_told (Answered (Conflict 7)) ≡ told_of 0 3 7) × (in_numbers advance_told (Answered (Done 8)) ≡ told_of 0 4 8)
    × (in_numbers advance_told (Refused not_open) ≡ told_of 6 0 0) × (in_numbers read_told (Refused not_open) ≡ told_of 6 0 0)
told_literally = (refl, refl, refl, refl, refl, refl, refl, refl, refl, refl, refl)

-- ---- the numbers tell all: who knows them knows the answer. No refusal's number is 0

-- the answer that numbers tell of, where g says what an answered call gives
abbrev heard : {A : Type 0} → (ℕ → ℕ → A) → ℕ → ℕ → ℕ → Answer A
heard g zero a b = Answered (g a b)
heard g (suc r) a b = Refused (suc r)

abbrev pub answer_in : {A : Type 0} → (ℕ → ℕ → A) → Told → Answer A
answer_in g t = heard g t.refusal t.first t.second

abbrev reading_in : ℕ → ℕ → Reading
reading_in zero at = None
reading_in (suc found) at = Some at

abbrev progress_in : ℕ → ℕ → Progress
progress_in k n =
    if eqb k 1 then Stage n else
    if eqb k 2 then Waiting n else
    if eqb k 3 then Conflict n else
    Done n

pub figures_told_whole : (n : ℕ) → answer_in (λ a b. a) (in_numbers figure_told (Answered n)) ≡ Answered n
figures_told_whole n = refl

pub begins_told_whole : (b : Begun) → answer_in (λ n s. record { number = n; snapshot = s }) (in_numbers begin_told (Answered b)) ≡ Answered b
begins_told_whole b = refl

pub readings_told_whole : (g : Reading) → answer_in reading_in (in_numbers read_told (Answered g)) ≡ Answered g
readings_told_whole (Some at) = refl
readings_told_whole None = refl

pub progress_told_whole : (p : Progress) → answer_in progress_in (in_numbers advance_told (Answered p)) ≡ Answered p
progress_told_whole (Stage n) = refl
progress_told_whole (Waiting n) = refl
progress_told_whole (Conflict n) = refl
progress_told_whole (Done n) = refl

pub refusals_told_whole : {A : Type 0} (g : ℕ → ℕ → A) (h : A → Told) (r : ℕ) → answer_in g (in_numbers h (Refused (suc r))) ≡ Refused (suc r)
refusals_told_whole g h r = refl
