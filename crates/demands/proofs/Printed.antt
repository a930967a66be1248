-- The step program end to end: what its definition prints for an input, from each set-up that is answered to the next one, are the answers of a list
-- of calls on what that set-up handed back, and these calls meet demand 3 (`right_text`); so from the last one on (`from_the_last`). Before the
-- first one every call gets 2 (`before_the_first`). Every input has a last one or none (`every_input`).
-- Assumes nothing.
use Prim.Native.Nat.{ℕ}
use mathlib.Core.Path.{◌≡◌, refl, sym, ap, subst, ◌∙◌}
use mathlib.Core.Logic.{◌⊎◌, inl, inr, ⊎_elim}
use mathlib.Core.Bool.{Bool, true, false, false≢true}
use mathlib.Core.List.{List, [], ◌∷◌, ◌++◌, append_assoc, append-nil}
use Rattle.spec.specs.declared.Form.{Form}
use Rattle.spec.specs.declared.Form.TheVariants.{SetUp, Begin, Read, Write, Advance, Abandon, Trim, Free, Other}
use Rattle.spec.specs.Image.{empty}
use Rattle.spec.specs.Bytes.{store_of, accepts, set_up, Memory}
use Rattle.spec.specs.Right.{AllUnfit}
use Rattle.spec.specs.Text.{form_of}
use Rattle.spec.specs.Session.{initial, front, response, answer_to, answers, lines, output, memory_after}
use Rattle.demands.specs.Demand.{Demand3}
use Rattle.demands.specs.Printed.{asked, asked_by, calls_in, printed, takes_effect, is_set_up, NoSetUp, Cut, data_at, commit_at, set_up_at}
use Rattle.demands.specs.Printed.{RightText, UnfitText, LastSetUp}
use Rattle.history.proofs.Decimals.{first_small}
use Rattle.demands.proofs.Fronts.{Housed, good_initial, set_up_on, set_up_answered, front_set_up, line_good, line_follows}
use Rattle.history.proofs.AllCalls.{all_unfit}
use Rattle.demands.proofs.Theorem.{theorem}

-- ---- lines one after the other

good_after : (ls : List (List ℕ)) (p : Memory) → Housed p → Housed (memory_after p ls)
unfolding memory_after
good_after [] p g = g
good_after (l ∷ ls) p g = good_after ls (answer_to l p).memory (line_good l p g)

memory_append : (xs ys : List (List ℕ)) (p : Memory) → memory_after p (xs ++ ys) ≡ memory_after (memory_after p xs) ys
unfolding memory_after
memory_append [] ys p = refl
memory_append (l ∷ xs) ys p = memory_append xs ys (answer_to l p).memory

answers-append : (xs ys : List (List ℕ)) (p : Memory) → answers p (xs ++ ys) ≡ answers p xs ++ answers (memory_after p xs) ys
unfolding answers memory_after
answers-append [] ys p = refl
answers-append (l ∷ xs) ys p = rw (answers-append xs ys (answer_to l p).memory, append_assoc)

-- lines of which none is a set-up that is answered
prints : (ls : List (List ℕ)) (p : Memory) → Housed p → NoSetUp ls → answers p ls ≡ printed (front p) ls
unfolding answers printed
prints [] p g h = refl
prints (l ∷ ls) p g h =
    let s = line_follows l p g h.0 in
    rw (s.text, prints ls (answer_to l p).memory (line_good l p g) h.1, s.left)

-- ---- from a set-up that is answered to the next one

-- p is the program's memory before the line l
set_up_front : (l : List ℕ) (r first limit : ℕ) (p : Memory) → Housed p → form_of l ≡ SetUp r first limit → takes_effect r first limit ≡ true
    → front (answer_to l p).memory ≡ (set_up_on r first limit p).memory
unfolding answer_to response
set_up_front l r first limit p g e t = rw e (front_set_up r first limit p g t (SetUp r first limit))

memory_behind : (before : List (List ℕ)) (l : List ℕ) (p : Memory) → memory_after p (before ++ (l ∷ [])) ≡ (answer_to l (memory_after p before)).memory
unfolding memory_after
memory_behind before l p = memory_append before (l ∷ []) p

-- the lines behind l stand behind the lines up to it
one_by_one : (before : List (List ℕ)) (l : List ℕ) (after : List (List ℕ)) → before ++ (l ∷ after) ≡ (before ++ (l ∷ [])) ++ after
one_by_one before l after = sym (append_assoc before (l ∷ []) after)

module _ (input : List ℕ) (before : List (List ℕ)) (l : List ℕ) (after rest : List (List ℕ)) (r first limit : ℕ)
    (cut : Cut input before l after rest r first limit) where
  good_before : Housed (memory_after initial before)
  good_before = good_after before initial good_initial

  handed_back : front (memory_after initial (before ++ (l ∷ []))) ≡ (set_up_at before r first limit).memory
  handed_back =
      ap front (memory_behind before l initial)
      ∙ set_up_front l r first limit (memory_after initial before) good_before cut.line cut.answered

  text_behind : answers (memory_after initial (before ++ (l ∷ []))) (after ++ rest)
      ≡ printed (set_up_at before r first limit).memory after ++ answers (memory_after initial (before ++ (l ∷ after))) rest
  text_behind =
      answers-append after rest (memory_after initial (before ++ (l ∷ [])))
      ∙ rw (
        prints after (memory_after initial (before ++ (l ∷ []))) (good_after (before ++ (l ∷ [])) initial good_initial) cut.only,
        handed_back,
        one_by_one before l after,
        memory_append (before ++ (l ∷ [])) after initial,
      )

  right_text : RightText input before l after rest r first limit
  unfolding output
  right_text = record {
    text =
        ap (answers initial) (cut.whole ∙ one_by_one before l (after ++ rest))
        ∙ answers-append (before ++ (l ∷ [])) (after ++ rest) initial
        ∙ ap (λ (t : List ℕ). answers initial (before ++ (l ∷ [])) ++ t) text_behind;
    answered = set_up_answered r first limit (memory_after initial before) good_before cut.answered;
    demand = theorem (data_at before r) (commit_at before r) first limit (first_small l r first limit cut.line) (calls_in after);
  }

-- ---- from the last one on

pub from_the_last : (input : List ℕ) (before : List (List ℕ)) (l : List ℕ) (after : List (List ℕ)) (r first limit : ℕ)
    → lines input ≡ before ++ (l ∷ after) → form_of l ≡ SetUp r first limit → takes_effect r first limit ≡ true → NoSetUp after
    → (output input ≡ answers initial (before ++ (l ∷ [])) ++ printed (set_up_at before r first limit).memory after)
    × Demand3 (data_at before r) (commit_at before r) first limit (calls_in after)
unfolding answers
from_the_last input before l after r first limit e f t h =
    let whole : lines input ≡ before ++ (l ∷ (after ++ [])) = e ∙ ap (λ (x : List (List ℕ)). before ++ (l ∷ x)) (sym (append-nil after)) in
    let z = right_text input before l after [] r first limit (record { whole = whole; line = f; answered = t; only = h }) in
    (rw (append-nil (printed (set_up_at before r first limit).memory after)) at z.text, z.demand)

-- ---- before the first one

no_rows : (set_up [] [] 0 0).memory ≡ front initial
unfolding set_up accepts initial store_of empty
no_rows = refl

pub before_the_first : (input : List ℕ) (before rest : List (List ℕ)) → lines input ≡ before ++ rest → NoSetUp before → UnfitText input before rest
unfolding output accepts
before_the_first input before rest e h = record {
  text =
      ap (answers initial) e
      ∙ answers-append before rest initial
      ∙ ap (λ (t : List ℕ). t ++ answers (memory_after initial before) rest) (prints before initial good_initial h);
  unfit = subst (λ (m : Memory). AllUnfit m (calls_in before)) no_rows (all_unfit [] [] 0 0 refl (calls_in before));
}

-- ---- every input has a last one, or none

-- a line that is one
is_set_up_lem : (l : List ℕ) → is_set_up (asked l) ≡ true
    → (r : ℕ) × (first : ℕ) × (limit : ℕ) × (form_of l ≡ SetUp r first limit) × (takes_effect r first limit ≡ true)
is_set_up_lem l e = go (form_of l) refl e
  where
    go : (f : Form) → form_of l ≡ f → is_set_up (asked_by f l) ≡ true
        → (r : ℕ) × (first : ℕ) × (limit : ℕ) × (form_of l ≡ SetUp r first limit) × (takes_effect r first limit ≡ true)
    go (SetUp r first limit) q t = (r, first, limit, q, t)
    go (Begin k) q t = absurd (false≢true t)
    go (Read k x) q t = absurd (false≢true t)
    go (Write k x v) q t = absurd (false≢true t)
    go (Advance k) q t = absurd (false≢true t)
    go (Abandon k) q t = absurd (false≢true t)
    go Trim q t = absurd (false≢true t)
    go Free q t = absurd (false≢true t)
    go Other q t = absurd (false≢true t)

-- the lines up to it, and behind it
abbrev Last : List (List ℕ) → Type 0
Last ls =
    (before : List (List ℕ)) × (l : List ℕ) × (after : List (List ℕ))
    × (ls ≡ before ++ (l ∷ after)) × (is_set_up (asked l) ≡ true) × NoSetUp after

last_of : (ls : List (List ℕ)) → NoSetUp ls ⊎ Last ls
last_of [] = inl tt
last_of (l ∷ ls) = go (last_of ls) (is_set_up (asked l)) refl
  where
    go : NoSetUp ls ⊎ Last ls → (b : Bool) → is_set_up (asked l) ≡ b → NoSetUp (l ∷ ls) ⊎ Last (l ∷ ls)
    go (inl h) true e = inr ([], l, ls, refl, e, h)
    go (inl h) false e = inl (e, h)
    go (inr z) b e = inr (l ∷ z.0, z.1, z.2, ap (λ (x : List (List ℕ)). l ∷ x) z.3, z.4, z.5)

pub every_input : (input : List ℕ) → NoSetUp (lines input) ⊎ LastSetUp input
every_input input = ⊎_elim (λ h. inl h) (λ z. inr (found z)) (last_of (lines input))
  where
    found : Last (lines input) → LastSetUp input
    found z =
        let s = is_set_up_lem z.1 z.4 in
        record {
          before = z.0;
          set_up_line = z.1;
          after = z.2;
          rows = s.0;
          first = s.1;
          limit = s.2;
          cut = record {
            whole = z.3 ∙ ap (λ (x : List (List ℕ)). z.0 ++ (z.1 ∷ x)) (sym (append-nil z.2));
            line = s.3;
            answered = s.4;
            only = z.5;
          };
        }
