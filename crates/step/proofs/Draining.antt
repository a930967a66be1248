-- Answering all whole lines of an input: what is left to answer stays what is to be answered, until no whole line is left.
-- Assumes nothing.
use Prim.Native.Nat.{ℕ, ◌≤◌}
use mathlib.Core.Path.{◌≡◌, sym, ap, subst, ◌∙◌}
use mathlib.Core.Bool.{true, false}
use mathlib.Core.Logic.{⊎_elim}
use mathlib.Core.List.{List}
use native.Mathlib.Omega.{arith}
use lib.ListN.{length, drop}
use Rattle.spec.specs.Bytes.{Memory}
use Rattle.scanning.specs.Inner.{newline_from}
use Rattle.session.specs.Inner.{lines_of, rest_of, Fed, Emptied}
use Rattle.spec.specs.Session.{memory_after}
use Rattle.scanning.proofs.Newlines.{newline_end}
use Rattle.session.proofs.Chunks.{no_line_left, after_nil}

-- where a write failed, nothing is promised of one that is fine
pub failed : {A : Type 0} → false ≡ true → A
failed e =
    let z : ◌≡◌ {A = ℕ} 0 1 = cc in
    absurd (omega arith)

module _ (s : List ℕ) (w₀ w : Memory) (from : ℕ)
    (state : memory_after w (lines_of (drop from s)) ≡ memory_after w₀ (lines_of s)) (rest : rest_of (drop from s) ≡ rest_of s) where
  no_newline : from ≤ length s → newline_from from (drop from s) ≡ length s → Emptied s w₀ w from
  no_newline h e =
      let n = no_line_left s from h e in
      record { memory = sym (after_nil w) ∙ ap (memory_after w) (sym n.0) ∙ state; begun = sym n.1 ∙ rest }

  -- at the end of the input
  pub ended : from ≤ length s → length s ≤ from → Emptied s w₀ w from
  ended h l =
      let e : from ≡ length s = omega arith in
      no_newline h (newline_end s from l ∙ e)

-- where no line was answered though out had room
pub stuck : (s : List ℕ) (w₀ w w' : Memory) (from to : ℕ) (out out' : List ℕ) (used : ℕ)
    → memory_after w (lines_of (drop from s)) ≡ memory_after w₀ (lines_of s) → rest_of (drop from s) ≡ rest_of s
    → Fed s from w out 0 to w' out' used → to ≤ from → 90 ≤ length out' → Emptied s w₀ w' from
stuck s w₀ w w' from to out out' used state rest f h room =
    let m : (to ≡ from) × (used ≡ 0) = ⊎_elim (λ l. absurd (omega (arith, l))) (λ e. e) f.moved in
    let n : newline_from to (drop to s) ≡ length s = ⊎_elim (λ l. absurd (omega (arith, l, m.1))) (λ e. e) f.stopped in
    subst (Emptied s w₀ w') m.0 (no_newline s w₀ w' to (f.state ∙ state) (f.rest ∙ rest) f.within n)
