-- Waiting lists: sets of clients that are made, struck and counted by the image's definitions are the model's lists. Both queues go alike:
-- who is in a queue, and whose number is noted, is read off the stage, and the model reads the same off the phase.
-- Assumes nothing.
use Prim.Native.Nat.{ℕ, zero, suc, ◌/◌, ◌^◌, min, ◌≤◌, ◌<◌}
use mathlib.Core.Path.{◌≡◌, refl, sym, ◌∙◌, fun_ext}
use mathlib.Core.Logic.{ite, if_pos, if_neg, by_cases}
use mathlib.Core.Bool.{Bool, true, false, not, ◌&&◌}
use native.Mathlib.Nat.{pow-suc}
use native.Mathlib.Decide.{ℕ_discrete, dec_lt, dec_le}
use native.Mathlib.Omega.{arith}
use borrow.Author.Tests.{lt-ltb, le-ltb, lt-leb, le-leb, eq-eqb, ne_eqb, not-true, not-false}
use lib.Dec.{eqb, ltb}
use Rattle.std.specs.Prelude.{if◌then◌else◌}
use Rattle.spec.specs.Set.{clients, bit, member, size, collect, strike}
use Rattle.spec.proofs.Sets.{bit-zero, bit-suc, bit-lt, member-false, member_above, member-collect, member-strike}
use Rattle.spec.specs.declared.Queue.{Queue}
use Rattle.spec.specs.Image.{Image, stage_of}
use Rattle.spec.specs.Steps.{request_queue, commit_queue, queued, struck, others}
use Rattle.history.proofs.Lists.{ite_elim}
use Rattle.history.proofs.Tickets as t
use Rattle.history.proofs.Tickets.{listing, look, list_size}
use Rattle.history.proofs.Model.{rphase, cphase}
use Rattle.history.proofs.Arms.{cph_in, cph_out}
use Rattle.history.proofs.Searches.{says, says_yes, says_no}

-- ---- how many are on a list

bit-member : (s k : ℕ) → t.one_if (member s k) ≡ bit s k
unfolding t.one_if member
bit-member s k =
    by_cases (ℕ_discrete (bit s k) 1)
    (λ e. rw (eq-eqb (bit s k) 1 e) (sym e))
    (λ n. rw (ne_eqb (bit s k) 1 n) (omega (arith, n, bit-lt s k)))

pub count_view : (n s : ℕ) → list_size n (member s) ≡ size n s
unfolding list_size size
count_view zero s = refl
count_view (suc n) s = rw (bit-member s n, count_view n s) (omega arith)

low_bit : (n s : ℕ) → s < 2 ^ suc n → bit s n ≡ 0 → s < 2 ^ n
low_bit zero s h e = omega (arith, bit-zero s)
low_bit (suc n) s h e = omega (arith, pow-suc 2 n, low_bit n (s / 2) (omega (arith, pow-suc 2 (suc n))) (sym (bit-suc s n) ∙ e))

pub size_none : (n s : ℕ) → s < 2 ^ n → size n s ≡ 0 → s ≡ 0
unfolding size
size_none zero s h e = omega arith
size_none (suc n) s h e = size_none n s (low_bit n s h (omega arith)) (omega arith)

pub size-zero : (n : ℕ) → size n 0 ≡ 0
unfolding size
size-zero zero = refl
size-zero (suc n) = rw (size-zero n, member-false 0 n (member_above 0 0 n (omega arith) (omega arith)))

-- ---- the phases of the two queues, by the stage

-- a queue and the phases that the model reads off the stages
pub record Phased (q : Queue) (ph : ℕ → ℕ) : Type 0 where
  pub within : (g : ℕ) → g ≤ 13 → says (dec_le 1 (ph g)) ≡ queued q g
  pub noted : (g : ℕ) → g ≤ 13 → 1 ≤ ph g → says (dec_le 3 (ph g)) ≡ not (ltb g q.noted)

pub phased_requests : Phased request_queue rphase
unfolding queued rphase
phased_requests = record {
  within = λ g h. by_cases (dec_lt g 1)
      (λ p. says_no (dec_le 1 (min g 5)) (λ q. omega arith) ∙ rw (lt-ltb g 1 p))
      (λ p. says_yes (dec_le 1 (min g 5)) (omega (arith, p)) ∙ rw (le-ltb g 1 (omega (arith, p)), le-leb g 13 h));
  noted = λ g h l. by_cases (dec_lt g 3)
      (λ p. says_no (dec_le 3 (min g 5)) (λ q. omega arith) ∙ rw (lt-ltb g 3 p))
      (λ p. says_yes (dec_le 3 (min g 5)) (omega (arith, p)) ∙ rw (le-ltb g 3 (omega (arith, p))));
}

commit_none : (g : ℕ) → g < 7 → 1 ≤ cphase g → ⊥
commit_none g h k = omega (arith, cph_in g (omega arith))

commit_gone : (g : ℕ) → 12 < g → 1 ≤ cphase g → ⊥
commit_gone g h k = omega (arith, cph_out g h)

commit_in : (g : ℕ) → 7 ≤ g → g ≤ 12 → 1 ≤ cphase g
commit_in g h k = omega (arith, cph_in g (omega arith))

commit_noted : (g : ℕ) → 9 ≤ g → g ≤ 12 → 3 ≤ cphase g
commit_noted g h k = omega (arith, cph_in g (omega arith))

commit_before : (g : ℕ) → g < 9 → 3 ≤ cphase g → ⊥
commit_before g h k = omega (arith, cph_in g (omega arith))

commit_last : (g : ℕ) → 1 ≤ cphase g → g ≤ 12
commit_last g h = by_cases (dec_lt 12 g) (λ p. absurd (commit_gone g p h)) (λ p. omega (arith, p))

pub phased_commits : Phased commit_queue cphase
unfolding queued
phased_commits = record {
  within = λ g h. by_cases (dec_lt g 7)
      (λ p. says_no (dec_le 1 (cphase g)) (commit_none g p) ∙ rw (lt-ltb g 7 p))
      (λ p. rw (le-ltb g 7 (omega (arith, p))) (by_cases (dec_lt 12 g)
      (λ q. says_no (dec_le 1 (cphase g)) (commit_gone g q) ∙ rw (lt-leb g 12 q))
      (λ q. says_yes (dec_le 1 (cphase g)) (commit_in g (omega (arith, p)) (omega (arith, q))) ∙ rw (le-leb g 12 (omega (arith, q))))));
  noted = λ g h l. by_cases (dec_lt g 9)
      (λ p. says_no (dec_le 3 (cphase g)) (commit_before g p) ∙ rw (lt-ltb g 9 p))
      (λ p. says_yes (dec_le 3 (cphase g)) (commit_noted g (omega (arith, p)) (commit_last g l)) ∙ rw (le-ltb g 9 (omega (arith, p))));
}

-- ---- lists made

listing_past : (ph : ℕ → ℕ) {P : ℕ → Type 0} (rel? : (b : ℕ) → Dec (P b)) (a i : ℕ) → clients ≤ i → listing ph rel? a i ≡ false
unfolding listing
listing_past ph rel? a i h = if_neg (dec_lt i clients) (λ k. omega arith) _ _

listing_is : (ph : ℕ → ℕ) {P : ℕ → Type 0} (rel? : (b : ℕ) → Dec (P b)) (k j : ℕ) (u v : Bool) → j < clients → says (dec_le 1 (ph j)) ≡ u
    → says (rel? j) ≡ v
    → listing ph rel? k j ≡ ((not (eqb j k) && u) && v)
unfolding listing
listing_is ph rel? k j u v h e f =
    if_pos (dec_lt j clients) h _ _ ∙ by_cases (ℕ_discrete j k)
    (λ p. if_pos (ℕ_discrete j k) p _ _ ∙ rw (eq-eqb j k p))
    (λ n. if_neg (ℕ_discrete j k) n _ _ ∙ rw (ne_eqb j k n) (by_cases (dec_le 1 (ph j))
    (λ p. if_pos (dec_le 1 (ph j)) p _ _ ∙ rw (sym e ∙ says_yes (dec_le 1 (ph j)) p) f)
    (λ p. if_neg (dec_le 1 (ph j)) p _ _ ∙ rw (sym e ∙ says_no (dec_le 1 (ph j)) p))))

collect_view : (p w : ℕ → Bool) → ((j : ℕ) → j < clients → w j ≡ p j) → ((j : ℕ) → clients ≤ j → w j ≡ false) → member (collect p clients) ≡ w
collect_view p w f g = fun_ext (λ j. member-collect p clients j (omega arith) ∙ by_cases (dec_lt j clients)
    (λ h. rw (lt-ltb j clients h) (sym (f j h)))
    (λ h. rw (le-ltb j clients (omega (arith, h))) (sym (g j (omega (arith, h))))))

and_true : (b : Bool) → (b && true) ≡ b
and_true true = refl
and_true false = refl

module _ (q : Queue) (ph : ℕ → ℕ) (phased : Phased q ph) (i : Image) (k : ℕ) (known : (j : ℕ) → stage_of i j ≤ 13) where
  others_at : (j : ℕ) → j < clients → member (others q k i) j ≡ (not (eqb j k) && queued q (stage_of i j))
  unfolding others
  others_at j h = member-collect (λ j. not (eqb j k) && queued q (stage_of i j)) clients j (omega arith) ∙ rw (lt-ltb j clients h)

  -- all others in the queue
  pub others_view : member (others q k i) ≡ listing (λ b. ph (stage_of i b)) {P = λ _. Unit {0}} (λ _. yes tt) k
  unfolding others
  others_view =
      collect_view (λ j. not (eqb j k) && queued q (stage_of i j)) (listing (λ b. ph (stage_of i b)) {P = λ _. Unit {0}} (λ _. yes tt) k)
      (λ j l. listing_is (λ b. ph (stage_of i b)) {P = λ _. Unit {0}} (λ _. yes tt) k j (queued q (stage_of i j)) true l
      (phased.within (stage_of i j) (known j)) refl ∙ and_true _)
      (λ j l. listing_past (λ b. ph (stage_of i b)) {P = λ _. Unit {0}} (λ _. yes tt) k j l)

  -- those of them that pass a test
  pub some_view : (p : ℕ → Bool) {P : ℕ → Type 0} (rel? : (b : ℕ) → Dec (P b)) → ((j : ℕ) → says (rel? j) ≡ p j)
      → member (collect (λ j. member (others q k i) j && p j) clients) ≡ listing (λ b. ph (stage_of i b)) rel? k
  some_view p rel? h =
      collect_view (λ j. member (others q k i) j && p j) (listing (λ b. ph (stage_of i b)) rel? k)
      (λ j l. listing_is (λ b. ph (stage_of i b)) rel? k j (queued q (stage_of i j)) (p j) l (phased.within (stage_of i j) (known j)) (h j) ∙
      rw (others_at j l))
      (λ j l. listing_past (λ b. ph (stage_of i b)) rel? k j l)

-- ---- a look

look_past : (ph num : ℕ → ℕ) (a : ℕ) (w : ℕ → Bool) (i : ℕ) → w i ≡ false → look ph num a w i ≡ false
unfolding look
look_past ph num a w i e =
    ite_elim (λ x. x ≡ false) (dec_le 1 (ph i)) (λ _. ite_elim (λ x. x ≡ false) (dec_le 3 (ph i))
    (λ _. ite_elim (λ x. x ≡ false) (dec_lt (num a) (num i)) (λ _. refl) (λ _. e)) (λ _. e)) (λ _. refl)

module _ (q : Queue) (ph : ℕ → ℕ) (phased : Phased q ph) (g n : ℕ → ℕ) (known : (j : ℕ) → g j ≤ 13) (a s : ℕ) (few : s < 2 ^ clients) where
  struck-look : (j : ℕ) → (if struck q (n a) (g j) (n j) then false else member s j) ≡ look (λ b. ph (g b)) n a (member s) j
  unfolding struck look
  struck-look j =
      let e = phased.within (g j) (known j) in
      by_cases (dec_le 1 (ph (g j)))
      (λ h. rw (
        sym e ∙ says_yes (dec_le 1 (ph (g j))) h,
        if_pos (dec_le 1 (ph (g j))) h
            (ite (dec_le 3 (ph (g j))) (ite (dec_lt (n a) (n j)) false (member s j)) (member s j)) false,
      )
      (let f = phased.noted (g j) (known j) h in
      by_cases (dec_le 3 (ph (g j)))
      (λ k. rw (
        not-true (ltb (g j) q.noted) (sym f ∙ says_yes (dec_le 3 (ph (g j))) k),
        if_pos (dec_le 3 (ph (g j))) k
            (ite (dec_lt (n a) (n j)) false (member s j)) (member s j),
      )
      (by_cases (dec_lt (n a) (n j))
      (λ p. rw (lt-ltb (n a) (n j) p) (sym (if_pos (dec_lt (n a) (n j)) p false (member s j))))
      (λ p. rw (le-ltb (n a) (n j) (omega (arith, p))) (sym (if_neg (dec_lt (n a) (n j)) p false (member s j))))))
      (λ k. rw (not-false (ltb (g j) q.noted) (sym f ∙ says_no (dec_le 3 (ph (g j))) k)) (sym (if_neg (dec_le 3 (ph (g j))) k _ (member s j))))))
      (λ h. rw (sym e ∙ says_no (dec_le 1 (ph (g j))) h) (sym (if_neg (dec_le 1 (ph (g j))) h _ false)))

  pub look_view : member (strike (λ j. struck q (n a) (g j) (n j)) s clients) ≡ look (λ b. ph (g b)) n a (member s)
  look_view = fun_ext (λ j. member-strike (λ j. struck q (n a) (g j) (n j)) s clients j ∙ by_cases (dec_lt j clients)
      (λ h. rw (lt-ltb j clients h) (struck-look j))
      (λ h. rw (le-ltb j clients (omega (arith, h)))
      (let z = member_above clients s j few (omega (arith, h)) in z ∙ sym (look_past (λ b. ph (g b)) n a (member s) j z))))
