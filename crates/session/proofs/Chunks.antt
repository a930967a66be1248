-- The lines of an input. The first line ends at the first newline, and the other lines are those of
-- what stands behind it; so an answer to that line, and the answers to the lines behind it, are the answers to all.
-- Assumes nothing.
use Prim.Native.Nat.{ℕ, suc, ◌+◌, ◌-◌, ◌≤◌, ◌<◌}
use mathlib.Core.Path.{◌≡◌, refl, sym, ap, ◌∙◌}
use mathlib.Core.Bool.{Bool, true, false}
use mathlib.Core.Logic.{◌⊎◌, inl, inr, ⊎_elim}
use mathlib.Core.List.{List, [], ◌∷◌, ◌++◌, append_assoc}
use native.Mathlib.Omega.{arith}
use lib.ListN.{length, take, drop, length-drop}
use lib.Seq.{drop-drop}
use lib.Dec.{eqb}
use Rattle.spec.specs.Session.{answer_to, answers, memory_after}
use Rattle.spec.specs.Bytes.{Memory}
use Rattle.scanning.specs.Inner.{newline_from}
use Rattle.session.specs.Inner.{push, lines_of, unless_lines, rest_of}
use Rattle.lines.specs.Inner.{Spoken}

-- ---- the lines, one clause each

pub either : (x : Bool) → (x ≡ true) ⊎ (x ≡ false)
either true = inl refl
either false = inr refl

newline_from_lem : (s : List ℕ) (i : ℕ) → i ≤ newline_from i s
unfolding newline_from
newline_from_lem [] i = omega arith
newline_from_lem (b ∷ s) i = ⊎_elim (λ e. rw e (omega arith)) (λ e. rw e (omega (arith, newline_from_lem s (i + 1)))) (either (eqb b 10))

newline_here : (b : ℕ) (t : List ℕ) (i : ℕ) → eqb b 10 ≡ true → newline_from i (b ∷ t) ≡ i
unfolding newline_from
newline_here b t i e = rw e

newline_past : (b : ℕ) (t : List ℕ) (i : ℕ) → eqb b 10 ≡ false → newline_from i (b ∷ t) ≡ newline_from (i + 1) t
unfolding newline_from
newline_past b t i e = rw e

newline_nil : (i : ℕ) → newline_from i [] ≡ i
unfolding newline_from
newline_nil i = refl

pub lines_nil : lines_of [] ≡ []
unfolding lines_of
lines_nil = refl

pub rest_nil : rest_of [] ≡ []
unfolding rest_of
rest_nil = refl

module _ (b : ℕ) (s : List ℕ) where
  pub lines_here : eqb b 10 ≡ true → lines_of (b ∷ s) ≡ [] ∷ lines_of s
  unfolding lines_of
  lines_here e = rw e

  pub lines_past : eqb b 10 ≡ false → lines_of (b ∷ s) ≡ push b (lines_of s)
  unfolding lines_of
  lines_past e = rw e

  pub rest_here : eqb b 10 ≡ true → rest_of (b ∷ s) ≡ rest_of s
  unfolding rest_of
  rest_here e = rw e

  pub rest_past : eqb b 10 ≡ false → rest_of (b ∷ s) ≡ unless_lines (lines_of s) b (rest_of s)
  unfolding rest_of
  rest_past e = rw e

-- the first line of t, and what follows it
lines_first : (t : List ℕ) (i e : ℕ) → newline_from i t ≡ e → e < i + length t → lines_of t ≡ take (e - i) t ∷ lines_of (drop (suc (e - i)) t)
lines_first [] i e h l = absurd (omega (arith, newline_nil i))
lines_first (b ∷ t) i e h l =
    ⊎_elim
    (λ q.
    let z : e - i ≡ 0 = omega (arith, newline_here b t i q) in
    rw z (lines_here b t q))
    (λ q.
    let g : newline_from (i + 1) t ≡ e = sym (newline_past b t i q) ∙ h in
    let m : i + 1 ≤ e = omega (arith, newline_from_lem t (i + 1)) in
    let z : e - i ≡ suc (e - (i + 1)) = omega arith in
    let k : e < i + 1 + length t = omega arith in
    rw z (lines_past b t q ∙ ap (push b) (lines_first t (i + 1) e g k)))
    (either (eqb b 10))

lines_at : (s : List ℕ) (from e : ℕ) → e ≡ newline_from from (drop from s) → from ≤ e → e < length s
    → lines_of (drop from s) ≡ take (e - from) (drop from s) ∷ lines_of (drop (e + 1) s)
lines_at s from e h m l =
    let k : e < from + length (drop from s) = simp length-drop (omega arith) in
    let z : from + suc (e - from) ≡ e + 1 = omega arith in
    lines_first (drop from s) from e (sym h) k ∙ rw (drop-drop, z)

-- what is begun behind the first line is what is begun
rest_first : (t : List ℕ) (i e : ℕ) → newline_from i t ≡ e → e < i + length t → rest_of t ≡ rest_of (drop (suc (e - i)) t)
rest_first [] i e h l = absurd (omega (arith, newline_nil i))
rest_first (b ∷ t) i e h l =
    ⊎_elim
    (λ q.
    let z : e - i ≡ 0 = omega (arith, newline_here b t i q) in
    rw z (rest_here b t q))
    (λ q.
    let g : newline_from (i + 1) t ≡ e = sym (newline_past b t i q) ∙ h in
    let m : i + 1 ≤ e = omega (arith, newline_from_lem t (i + 1)) in
    let z : e - i ≡ suc (e - (i + 1)) = omega arith in
    let k : e < i + 1 + length t = omega arith in
    rw z (rest_past b t q ∙ ap (λ ls. unless_lines ls b (rest_of t)) (lines_first t (i + 1) e g k) ∙ rest_first t (i + 1) e g k))
    (either (eqb b 10))

pub rest_at : (s : List ℕ) (from e : ℕ) → e ≡ newline_from from (drop from s) → from ≤ e → e < length s
    → rest_of (drop from s) ≡ rest_of (drop (e + 1) s)
rest_at s from e h m l =
    let k : e < from + length (drop from s) = simp length-drop (omega arith) in
    let z : from + suc (e - from) ≡ e + 1 = omega arith in
    rest_first (drop from s) from e (sym h) k ∙ rw (drop-drop, z)

-- where there is no newline, there is no whole line, and all is begun
none_first : (t : List ℕ) (i : ℕ) → newline_from i t ≡ i + length t → (lines_of t ≡ []) × (rest_of t ≡ t)
none_first [] i h = (lines_nil, rest_nil)
none_first (b ∷ t) i h =
    ⊎_elim
    (λ q. absurd (omega (arith, newline_here b t i q)))
    (λ q.
    let g : newline_from (i + 1) t ≡ i + 1 + length t = omega (arith, newline_past b t i q) in
    let n = none_first t (i + 1) g in
    (lines_past b t q ∙ ap (push b) n.0, rest_past b t q ∙ ap (λ ls. unless_lines ls b (rest_of t)) n.0 ∙ ap (λ r. b ∷ r) n.1))
    (either (eqb b 10))

pub no_line_left : (s : List ℕ) (from : ℕ) → from ≤ length s → newline_from from (drop from s) ≡ length s
    → (lines_of (drop from s) ≡ []) × (rest_of (drop from s) ≡ drop from s)
no_line_left s from m h =
    let k : length s ≡ from + length (drop from s) = simp length-drop (omega arith) in
    none_first (drop from s) from (h ∙ k)

-- ---- one turn of a loop over lines

pub answers-cons : (w : Memory) (l : List ℕ) (ls : List (List ℕ)) → answers w (l ∷ ls) ≡ (answer_to l w).text ++ answers (answer_to l w
    ).memory ls
unfolding answers
answers-cons w l ls = refl

pub after_nil : (w : Memory) → memory_after w [] ≡ w
unfolding memory_after
after_nil w = refl

pub after_cons : (w : Memory) (l : List ℕ) (ls : List (List ℕ)) → memory_after w (l ∷ ls) ≡ memory_after (answer_to l w).memory ls
unfolding memory_after
after_cons w l ls = refl

module _ (s : List ℕ) (from e : ℕ) (h : e ≡ newline_from from (drop from s)) (m : from ≤ e) (l : e < length s) (w w' : Memory)
    (out out' : List ℕ) (at used : ℕ) (p : Spoken (answer_to (take (e - from) (drop from s)) w) w' out at out' used) where
  pub text_more : (whole : List ℕ) → take at out ++ answers w (lines_of (drop from s)) ≡ whole
      → take used out' ++ answers w' (lines_of (drop (e + 1) s)) ≡ whole
  text_more whole a = rw (p.text.text, append_assoc, p.memory) (rw (lines_at s from e h m l, answers-cons) at a)

  pub state_more : (whole : Memory) → memory_after w (lines_of (drop from s)) ≡ whole → memory_after w' (lines_of (drop (e + 1) s)) ≡ whole
  state_more whole a = rw p.memory (rw (lines_at s from e h m l, after_cons) at a)
