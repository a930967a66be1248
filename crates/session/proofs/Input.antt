-- However an input is cut into chunks, what is printed for it chunk by chunk is what the definitions ask for of the whole input.
-- The argument: what is kept of a begun line is that line, or both are over 80 bytes and have no newline. Such lines are no form, whatever they
-- are and whatever follows in them, so the answers are the same; and what is begun and kept after the next chunk is so related again.
-- Assumes nothing.
use Prim.Native.Nat.{ℕ, zero, suc, ◌≤◌, ◌<◌}
use mathlib.Core.Path.{◌≡◌, refl, sym, ap, subst, ◌∙◌}
use mathlib.Core.Bool.{true, false}
use mathlib.Core.Logic.{◌⊎◌, inl, inr, ⊎_elim}
use mathlib.Core.List.{List, [], ◌∷◌, ◌++◌, append_assoc, append-nil}
use native.Mathlib.Omega.{arith}
use borrow.Author.Tests.{lt-ltb, leb-true, leb-false}
use lib.Dec.{eqb, leb}
use lib.ListN.{length, take, length-append}
use lib.Seq.{length-take-le, take_all}
use Rattle.spec.specs.Text.{form_of}
use Rattle.spec.specs.Session.{answer_to, answers, response, glue, lines, initial, output, memory_after}
use Rattle.spec.specs.Bytes.{Memory}
use Rattle.session.specs.Inner.{push, lines_of, unless_lines, rest_of, joined, unfinished, in_chunks}
use Rattle.session.proofs.Chunks.{either, lines_nil, rest_nil, lines_here, lines_past, rest_here, rest_past, answers-cons, after_cons}

-- ---- the lines of an input by those that end in a newline

glue_last : (b : ℕ) (ls : List (List ℕ)) (r t : List ℕ) (ks : List (List ℕ)) → ks ≡ lines (r ++ t) → eqb b 10 ≡ false
    → glue b (ls ++ ks) ≡ push b ls ++ lines (unless_lines ls b r ++ t)
unfolding lines
glue_last b [] r t ks e q = rw (q, e)
glue_last b (l ∷ ls) r t ks e q = rw e

module _ (b : ℕ) (s : List ℕ) where
  line_here : eqb b 10 ≡ true → lines (b ∷ s) ≡ [] ∷ lines s
  unfolding lines
  line_here e = rw e

  line_past : eqb b 10 ≡ false → lines (b ∷ s) ≡ glue b (lines s)
  unfolding lines
  line_past e = rw e

lines-append : (s t : List ℕ) → lines (s ++ t) ≡ lines_of s ++ lines (rest_of s ++ t)
lines-append [] t = rw (lines_nil, rest_nil)
lines-append (b ∷ s) t =
    ⊎_elim
    (λ q. rw (line_here b (s ++ t) q, lines_here b s q, rest_here b s q, lines-append s t))
    (λ q.
    rw (line_past b (s ++ t) q, lines_past b s q, rest_past b s q, lines-append s t)
    (glue_last b (lines_of s) (rest_of s) t (lines (rest_of s ++ t)) refl q))
    (either (eqb b 10))

-- ---- a begun line, which has no newline, in front of more

-- a text in front of the first line, if there is one
abbrev before : List ℕ → List (List ℕ) → List (List ℕ)
before k [] = []
before k (l ∷ ls) = (k ++ l) ∷ ls

-- what is begun behind lines: with the text in front where there is no line
abbrev left : List ℕ → List (List ℕ) → List ℕ → List ℕ
left k [] r = k ++ r
left k (l ∷ ls) r = r

before_nil : (ls : List (List ℕ)) → before [] ls ≡ ls
before_nil [] = refl
before_nil (l ∷ ls) = refl

left_nil : (ls : List (List ℕ)) (r : List ℕ) → left [] ls r ≡ r
left_nil [] r = refl
left_nil (l ∷ ls) r = refl

some : (l : List ℕ) (ls : List (List ℕ)) → l ∷ ls ≡ [] → ⊥
some l ls e = omega (arith, ap length e)

push_none : (b : ℕ) (ls : List (List ℕ)) → push b ls ≡ [] → ls ≡ []
push_none b [] e = refl
push_none b (l ∷ ls) e = absurd (some (b ∷ l) ls e)

-- the first byte of a begun line is no newline, and the rest is begun too
begun_tail : (b : ℕ) (k : List ℕ) → lines_of (b ∷ k) ≡ [] → (eqb b 10 ≡ false) × (lines_of k ≡ [])
begun_tail b k e =
    ⊎_elim
    (λ q. absurd (some [] (lines_of k) (sym (lines_here b k q) ∙ e)))
    (λ q. (q, push_none b (lines_of k) (sym (lines_past b k q) ∙ e)))
    (either (eqb b 10))

push-before : (b : ℕ) (k : List ℕ) (ls : List (List ℕ)) → push b (before k ls) ≡ before (b ∷ k) ls
push-before b k [] = refl
push-before b k (l ∷ ls) = refl

unless_left : (b : ℕ) (k : List ℕ) (ls : List (List ℕ)) (r : List ℕ) → unless_lines (before k ls) b (left k ls r) ≡ left (b ∷ k) ls r
unless_left b k [] r = refl
unless_left b k (l ∷ ls) r = refl

lines_begun : (k c : List ℕ) → lines_of k ≡ [] → lines_of (k ++ c) ≡ before k (lines_of c)
lines_begun [] c e = sym (before_nil (lines_of c))
lines_begun (b ∷ k) c e =
    let t = begun_tail b k e in
    rw (lines_past b (k ++ c) t.0, lines_begun k c t.1) (push-before b k (lines_of c))

rest_begun : (k c : List ℕ) → lines_of k ≡ [] → rest_of (k ++ c) ≡ left k (lines_of c) (rest_of c)
rest_begun [] c e = sym (left_nil (lines_of c) (rest_of c))
rest_begun (b ∷ k) c e =
    let t = begun_tail b k e in
    rw (rest_past b (k ++ c) t.0, lines_begun k c t.1, rest_begun k c t.1) (unless_left b k (lines_of c) (rest_of c))

-- what is begun has no newline
lines_rest : (s : List ℕ) → lines_of (rest_of s) ≡ []
lines_rest [] = rw (rest_nil, lines_nil)
lines_rest (b ∷ s) =
    ⊎_elim
    (λ q. rw (rest_here b s q) (lines_rest s))
    (λ q. rw (rest_past b s q) (unless-none q (lines_of s) (rest_of s) (lines_rest s)))
    (either (eqb b 10))
  where
    unless-none : eqb b 10 ≡ false → (ls : List (List ℕ)) (r : List ℕ) → lines_of r ≡ [] → lines_of (unless_lines ls b r) ≡ []
    unless-none q [] r e = rw (lines_past b r q, e)
    unless-none q (l ∷ ls) r e = e

-- nor has its front
lines_take : (n : ℕ) (k : List ℕ) → lines_of k ≡ [] → lines_of (take n k) ≡ []
lines_take zero k e = lines_nil
lines_take (suc n) [] e = lines_nil
lines_take (suc n) (b ∷ k) e =
    let t = begun_tail b k e in
    rw (lines_past b (take n k) t.0, lines_take n k t.1)

-- ---- what is kept of a begun line

-- "one over 80 bytes": no form, whatever it is
long_alike : (l m : List ℕ) (w : Memory) → 80 < length l → 80 < length m → answer_to l w ≡ answer_to m w
unfolding answer_to form_of response
long_alike l m w g h = rw (lt-ltb 80 (length l) g, lt-ltb 80 (length m) h)

-- k is kept of the begun line r
record Kept (k r : List ℕ) : Type 0 where
  begun : lines_of r ≡ []
  kept : lines_of k ≡ []
  same : (k ≡ r) ⊎ ((80 < length k) × (80 < length r))

module _ (w : Memory) where
  heads_alike : (k r l : List ℕ) (ls : List (List ℕ)) → 80 < length k → 80 < length r
      → (answers w ((k ++ l) ∷ ls) ≡ answers w ((r ++ l) ∷ ls)) × (memory_after w ((k ++ l) ∷ ls) ≡ memory_after w ((r ++ l) ∷ ls))
  heads_alike k r l ls g h =
      let e : answer_to (k ++ l) w ≡ answer_to (r ++ l) w = long_alike (k ++ l) (r ++ l) w (rw length-append (omega arith))
      (rw length-append (omega arith)) in
      (rw (answers-cons w (k ++ l) ls, answers-cons w (r ++ l) ls, e), rw (after_cons w (k ++ l) ls, after_cons w (r ++ l) ls, e))

-- the answers to lines behind lines
answers-append : (w : Memory) (ls ks : List (List ℕ)) → answers w (ls ++ ks) ≡ answers w ls ++ answers (memory_after w ls) ks
unfolding answers memory_after
answers-append w [] ks = refl
answers-append w (l ∷ ls) ks = rw (answers-append (answer_to l w).memory ls ks, append_assoc)

-- a chunk behind what was kept is answered as behind the line itself
module _ (w : Memory) (k r c : List ℕ) (h : Kept k r) where
  long_lines : (ls : List (List ℕ)) → 80 < length k → 80 < length r
      → (answers w (before k ls) ≡ answers w (before r ls)) × (memory_after w (before k ls) ≡ memory_after w (before r ls))
  long_lines [] g m = (refl, refl)
  long_lines (l ∷ ls) g m = heads_alike w k r l ls g m

  alike : (answers w (lines_of (k ++ c)) ≡ answers w (lines_of (r ++ c))) × (memory_after w (lines_of (k ++ c)) ≡ memory_after w (lines_of (r ++ c)))
  alike =
      ⊎_elim
      (λ e. (rw e, rw e))
      (λ g. rw (lines_begun k c h.kept, lines_begun r c h.begun) (long_lines (lines_of c) g.0 g.1))
      h.same

  -- and what it leaves begun is kept of what the line leaves begun
  long_rest : (ls : List (List ℕ)) (q : List ℕ) → 80 < length k → 80 < length r
      → (left k ls q ≡ left r ls q) ⊎ ((80 < length (left k ls q)) × (80 < length (left r ls q)))
  long_rest [] q g m = inr (rw length-append (omega arith), rw length-append (omega arith))
  long_rest (l ∷ ls) q g m = inl refl

  rest_kept : Kept (rest_of (k ++ c)) (rest_of (r ++ c))
  rest_kept = record {
    begun = lines_rest (r ++ c);
    kept = lines_rest (k ++ c);
    same = ⊎_elim (λ e. inl (rw e))
        (λ g. rw (rest_begun k c h.kept, rest_begun r c h.begun) (long_rest (lines_of c) (rest_of c) g.0 g.1)) h.same;
  }

-- a line cut to 81 bytes is kept where the line was
short_or_long : (n : ℕ) → (n ≤ 81) ⊎ (81 < n)
short_or_long n = ⊎_elim (λ e. inl (leb-true n 81 e)) (λ e. inr (leb-false n 81 e)) (either (leb n 81))

cut : (k r : List ℕ) → Kept k r → Kept (take 81 k) r
cut k r h =
    ⊎_elim
    (λ s. rw (take_all 81 k s) h)
    (λ g.
    let n : length (take 81 k) ≡ 81 = length-take-le 81 k (omega arith) in
    record {
      begun = h.begun;
      kept = lines_take 81 k h.kept;
      same = inr
          (omega arith, ⊎_elim (λ e. subst (λ m. 80 < length m) e (omega arith)) (λ p. p.1) h.same);
    })
    (short_or_long (length k))

-- ---- the whole input

last_lines : (r : List ℕ) → lines_of r ≡ [] → lines r ≡ unfinished r
unfolding lines
last_lines [] e = refl
last_lines (b ∷ r) e =
    let t = begun_tail b r e in
    rw (t.0, last_lines r t.1) (glue-one r)
  where
    glue-one : (r : List ℕ) → glue b (unfinished r) ≡ (b ∷ r) ∷ []
    glue-one [] = refl
    glue-one (x ∷ r) = refl

last_alike : (w : Memory) (k r : List ℕ) → Kept k r → answers w (unfinished k) ≡ answers w (unfinished r)
last_alike w k r h = ⊎_elim (λ e. ap (λ l. answers w (unfinished l)) e) (λ g. both_long k r g.0 g.1) h.same
  where
    both_long : (k r : List ℕ) → 80 < length k → 80 < length r → answers w (unfinished k) ≡ answers w (unfinished r)
    both_long [] r g m = absurd (omega (arith, g))
    both_long (x ∷ k) [] g m = absurd (omega (arith, m))
    both_long (x ∷ k) (y ∷ r) g m = rw (answers-cons w (x ∷ k) [], answers-cons w (y ∷ r) [], long_alike (x ∷ k) (y ∷ r) w g m)

chunked : (w : Memory) (cs : List (List ℕ)) (k r : List ℕ) → Kept k r → in_chunks w k cs ≡ answers w (lines (r ++ joined cs))
unfolding in_chunks joined
chunked w [] k r h = rw (append-nil, last_lines r h.begun) (last_alike w k r h)
chunked w (c ∷ cs) k r h =
    let a = alike w k r c h in
    let v : Memory = memory_after w (lines_of (r ++ c)) in
    let i = chunked v cs (take 81 (rest_of (k ++ c))) (rest_of (r ++ c)) (cut (rest_of (k ++ c)) (rest_of (r ++ c)) (rest_kept w k r c h)) in
    rw (
      a.0,
      a.1,
      i,
      ← append_assoc r c (joined cs),
      lines-append (r ++ c) (joined cs),
      answers-append w (lines_of (r ++ c))
          (lines (rest_of (r ++ c) ++ joined cs)),
    )

-- "forms from standard input, one a line (the last needs no newline)": the same answers however the input comes in
pub in_chunks_lem : (cs : List (List ℕ)) → in_chunks initial [] cs ≡ output (joined cs)
unfolding output
in_chunks_lem cs = chunked initial cs [] [] (record { begun = lines_nil; kept = lines_nil; same = inl refl })
