-- The step program's memory between two lines (`Housed`): its buffers have 24 × 1,024 and 8 × 1,024 bytes, and their front, with the record, is its
-- store: none yet, with 0 rows, or the layout of a well-formed image. Then a line's call on the front leaves what the same call on the store
-- leaves, and prints what the plain table is told; a set-up that is answered leaves what set-up hands back; any other line leaves all as it was.
-- Assumes nothing.
use Prim.Native.Nat.{ℕ, ◌*◌, ◌/◌, ◌≤◌}
use mathlib.Core.Path.{◌≡◌, refl, sym, ap, subst, ◌∙◌}
use mathlib.Core.Logic.{◌⊎◌, inl, inr}
use mathlib.Core.Bool.{Bool, true, false}
use mathlib.Core.List.{List, []}
use native.Mathlib.Omega.{arith}
use borrow.Author.Tests.{ltb-false, le-ltb}
use lib.ListN.{length, take, drop, length-append, length-drop, length-replicate}
use lib.Seq.{take_at, length-take-le}
use lib.Dec.{ltb}
use Rattle.std.specs.Prelude.{if◌then◌else◌}
use Rattle.spec.specs.declared.Form.{Form}
use Rattle.spec.specs.declared.Form.TheVariants as form
use Rattle.spec.specs.Answers.{Answer, Answered, Refused, bad_set_up}
use Rattle.spec.specs.Image.{Image, empty}
use Rattle.spec.specs.Bytes.{store_of, Memory, After, accepts, set_up}
use Rattle.spec.specs.Run.{Call, Begin, Read, Write, Advance, Abandon, Trim, Free, Result, perform, step}
use Rattle.spec.specs.Table.{observe, observe_answer}
use Rattle.spec.specs.Right.{observed}
use Rattle.spec.specs.Text.{form_of, value_in, free_text, refused_text, answer_text, line_text}
use Rattle.spec.specs.Session.{initial, front, behind, Response, responds, result_text, said, set_up_said, set_up_response, response, answer_to}
use Rattle.spec.specs.Rows.{Row, rows_in}
use Rattle.spec.proofs.Ends.{accepted}
use Rattle.demands.specs.Printed.{observed_text, Asked, ACall, asked, asked_by, printed_for, left_by, takes_effect, is_set_up}
use Rattle.history.proofs.Spread.{length-spread}
use Rattle.history.proofs.Wellformed.{Wellformed, perform_kept}
use Rattle.history.proofs.Bridge.{encoded, crossed, unused, refused_call, first_image, set_up_whole, first_fine}
use Rattle.demands.proofs.Handed.{read_printed}

-- ---- the store

-- none yet, or the layout of a well-formed image
abbrev Usable : Memory → Type 0
Usable m = (m ≡ unused [] []) ⊎ ((i : Image) × Wellformed i × (m ≡ encoded i))

-- the buffers have the bytes of the store's rows
record Sized (m : Memory) : Type 0 where
  most : m.store.rows ≤ 1024
  data_size : length m.data_bytes ≡ 24 * m.store.rows
  commit_size : length m.commit_bytes ≡ 8 * m.store.rows

unused_sized : Sized (unused [] [])
unfolding store_of empty
unused_sized = record { most = omega arith; data_size = refl; commit_size = refl }

encoded_sized : (i : Image) → Wellformed i → Sized (encoded i)
unfolding encoded store_of
encoded_sized i h = record {
  most = h.most;
  data_size = length-spread 24 i.rows i.data_rows h.data_wide h.data_fit;
  commit_size = length-spread 8 i.rows i.commit_rows h.commit_wide h.commit_fit;
}

sized : (m : Memory) → Usable m → Sized m
sized m (inl e) = subst Sized (sym e) unused_sized
sized m (inr u) = subst Sized (sym u.2) (encoded_sized u.0 u.1)

-- what a call leaves of it
record Next (q : Call) (m : Memory) : Type 0 where
  usable : Usable (step q m).memory
  rows : (step q m).memory.store.rows ≡ m.store.rows

encoded-rows : (i : Image) → (encoded i).store.rows ≡ i.rows
unfolding encoded store_of
encoded-rows i = refl

unused_next : (q : Call) → Next q (unused [] [])
unused_next q =
    let e = ap (λ (a : After (Result q)). a.memory) (refused_call [] [] q) in
    record { usable = inl e; rows = ap (λ (m : Memory). m.store.rows) e }

encoded_next : (q : Call) (i : Image) → Wellformed i → Next q (encoded i)
encoded_next q i h =
    let e = ap (λ (a : After (Result q)). a.memory) (crossed i h q) in
    let k = perform_kept q i h in
    record {
      usable = inr ((perform q i).image, k.fine, e);
      rows = ap (λ (m : Memory). m.store.rows) e ∙ encoded-rows (perform q i).image ∙ k.size ∙ sym (encoded-rows i);
    }

next : (q : Call) (m : Memory) → Usable m → Next q m
next q m (inl e) = subst (Next q) (sym e) (unused_next q)
next q m (inr u) = subst (Next q) (sym u.2) (encoded_next q u.0 u.1)

-- ---- the program's memory

pub record Housed (p : Memory) : Type 0 where
  pub data_size : length p.data_bytes ≡ 24576
  pub commit_size : length p.commit_bytes ≡ 8192
  pub usable : Usable (front p)

pub good_initial : Housed initial
unfolding initial store_of empty
good_initial = record { data_size = length-replicate {A = ℕ} 24576 0; commit_size = length-replicate {A = ℕ} 8192 0; usable = inl refl }

-- where its first r rows have become a store's memory
module _ (r : ℕ) (p m : Memory) (z : Sized m) (e : m.store.rows ≡ r) where
  front-behind : front (behind r p m) ≡ m
  front-behind =
      rw (
        take_at m.data_bytes (drop (24 * r) p.data_bytes) (24 * m.store.rows) z.data_size,
        take_at m.commit_bytes (drop (8 * r) p.commit_bytes) (8 * m.store.rows) z.commit_size,
      )

  good_behind : length p.data_bytes ≡ 24576 → length p.commit_bytes ≡ 8192 → Usable m → Housed (behind r p m)
  good_behind d c u = record {
    data_size =
        simp (length-append, length-drop) (omega (arith, d, z.most, z.data_size, e));
    commit_size =
        simp (length-append, length-drop) (omega (arith, c, z.most, z.commit_size, e));
    usable = subst Usable (sym front-behind) u;
  }

-- ---- a call

given_text : (q : Call) (d : List ℕ) (ds : List Row) → ((a : Result q) → result_text q d a ≡ observed_text q (observe q ds a))
    → (a : Answer (Result q)) → answer_text (result_text q d) a ≡ answer_text (observed_text q) (observe_answer q ds a)
given_text q d ds h (Answered a) = h a
given_text q d ds h (Refused n) = refl

-- the data rows in use when the call returns
abbrev rows_after : Call → Memory → List Row
rows_after q p = rows_in 24 (step q (front p)).memory.store.used (step q (front p)).memory.data_bytes

call_text : (q : Call) (p : Memory)
    → answer_text (result_text q p.data_bytes) (step q (front p)).answer ≡ answer_text (observed_text q) (observed q (front p))
call_text (Begin k) p = given_text (Begin k) p.data_bytes (rows_after (Begin k) p) (λ a. refl) (step (Begin k) (front p)).answer
call_text (Read k x) p = read_printed k x p
call_text (Write k x v) p = given_text (Write k x v) p.data_bytes (rows_after (Write k x v) p) (λ a. refl) (step (Write k x v) (front p)).answer
call_text (Advance k) p = given_text (Advance k) p.data_bytes (rows_after (Advance k) p) (λ a. refl) (step (Advance k) (front p)).answer
call_text (Abandon k) p = given_text (Abandon k) p.data_bytes (rows_after (Abandon k) p) (λ a. refl) (step (Abandon k) (front p)).answer
call_text Trim p = given_text Trim p.data_bytes (rows_after Trim p) (λ a. refl) (step Trim (front p)).answer
call_text Free p = given_text Free p.data_bytes (rows_after Free p) (λ a. refl) (step Free (front p)).answer

module _ (f : Form) (q : Call) (p : Memory) (g : Housed p) where
  front_next : front (said f q p).memory ≡ (step q (front p)).memory
  front_next =
      let m : Memory = (step q (front p)).memory in
      let n = next q (front p) g.usable in
      front-behind p.store.rows p m (sized m n.usable) n.rows

  good_next : Housed (said f q p).memory
  good_next =
      let m : Memory = (step q (front p)).memory in
      let n = next q (front p) g.usable in
      good_behind p.store.rows p m (sized m n.usable) n.rows g.data_size g.commit_size n.usable

-- ---- a set-up of r rows

module _ (r : ℕ) (p : Memory) (g : Housed p) (h : r ≤ 1024) where
  data_length : length (take (24 * r) p.data_bytes) ≡ 24 * r
  data_length = length-take-le (24 * r) p.data_bytes (omega (arith, g.data_size))

  commit_length : length (take (8 * r) p.commit_bytes) ≡ 8 * r
  commit_length = length-take-le (8 * r) p.commit_bytes (omega (arith, g.commit_size))

  -- the program's buffers have so many bytes
  given : (first limit : ℕ)
      → accepts (length (take (24 * r) p.data_bytes)) (length (take (8 * r) p.commit_bytes)) first limit ≡ accepts (24 * r) (8 * r) first limit
  given first limit = rw (data_length, commit_length)

-- what it is given of the program's memory, and what it leaves and answers
abbrev pub set_up_on : ℕ → ℕ → ℕ → Memory → After ℕ
set_up_on r first limit p = set_up (take (24 * r) p.data_bytes) (take (8 * r) p.commit_bytes) first limit

module _ (d c : List ℕ) (first limit : ℕ) where
  answered_by : accepts (length d) (length c) first limit ≡ true → (set_up d c first limit).answer ≡ Answered (length d / 24)
  unfolding set_up
  answered_by e = rw e

  refused_by : accepts (length d) (length c) first limit ≡ false → (set_up d c first limit).answer ≡ Refused bad_set_up
  unfolding set_up
  refused_by e = rw e

  first_rows : accepts (length d) (length c) first limit ≡ true → (set_up d c first limit).memory.store.rows ≡ length d / 24
  unfolding encoded store_of empty
  first_rows e = ap (λ (m : Memory). m.store.rows) (set_up_whole d c first limit e)

-- one that is answered
module _ (r first limit : ℕ) (p : Memory) (g : Housed p) (e : takes_effect r first limit ≡ true) where
  few : r ≤ 1024
  unfolding takes_effect
  few = omega (arith, (accepted (24 * r) (8 * r) first limit e).most)

  accepted_here : accepts (length (take (24 * r) p.data_bytes)) (length (take (8 * r) p.commit_bytes)) first limit ≡ true
  unfolding takes_effect
  accepted_here = given r p g few first limit ∙ e

  all_rows : length (take (24 * r) p.data_bytes) / 24 ≡ r
  all_rows = omega (arith, data_length r p g few)

  pub set_up_answered : (set_up_on r first limit p).answer ≡ Answered r
  set_up_answered = answered_by (take (24 * r) p.data_bytes) (take (8 * r) p.commit_bytes) first limit accepted_here ∙ ap Answered all_rows

  set_up_usable : Usable (set_up_on r first limit p).memory
  set_up_usable =
      let d : List ℕ = take (24 * r) p.data_bytes in
      let c : List ℕ = take (8 * r) p.commit_bytes in
      inr (first_image d first limit, first_fine d c first limit accepted_here, set_up_whole d c first limit accepted_here)

  set_up_rows : (set_up_on r first limit p).memory.store.rows ≡ r
  set_up_rows = first_rows (take (24 * r) p.data_bytes) (take (8 * r) p.commit_bytes) first limit accepted_here ∙ all_rows

  responds_set_up : (f : Form)
      → set_up_response f r first limit p ≡ responds (behind r p (set_up_on r first limit p).memory) (line_text f (free_text r))
  unfolding set_up_response
  responds_set_up f = rw (le-ltb 1024 r few, set_up_answered)

  pub front_set_up : (f : Form) → front (set_up_response f r first limit p).memory ≡ (set_up_on r first limit p).memory
  front_set_up f =
      let m : Memory = (set_up_on r first limit p).memory in
      rw (responds_set_up f) (front-behind r p m (sized m set_up_usable) set_up_rows)

  good_set_up : (f : Form) → Housed (set_up_response f r first limit p).memory
  good_set_up f =
      let m : Memory = (set_up_on r first limit p).memory in
      rw (responds_set_up f) (good_behind r p m (sized m set_up_usable) set_up_rows g.data_size g.commit_size set_up_usable)

-- one that is refused
no_set_up : (f : Form) (r first limit : ℕ) (p : Memory) → Housed p → takes_effect r first limit ≡ false
    → set_up_response f r first limit p ≡ responds p (line_text f (refused_text bad_set_up))
unfolding takes_effect set_up_response
no_set_up f r first limit p g = go (ltb 1024 r) refl
  where
    go : (b : Bool) → ltb 1024 r ≡ b → accepts (24 * r) (8 * r) first limit ≡ false
        → (if ltb 1024 r then responds p (line_text f (refused_text bad_set_up))
        else set_up_said f r p (set_up_on r first limit p) (set_up_on r first limit p).answer)
        ≡ responds p (line_text f (refused_text bad_set_up))
    go true b e = rw b
    go false b e =
        let n = given r p g (ltb-false 1024 r b) first limit ∙ e in
        rw (b, refused_by (take (24 * r) p.data_bytes) (take (8 * r) p.commit_bytes) first limit n)

-- ---- a line

-- of form f: it leaves a good memory
form_good : (f : Form) (l : List ℕ) (p : Memory) → Housed p → Housed (response f l p).memory
unfolding response
form_good (form.SetUp r first limit) l p g = go (takes_effect r first limit) refl
  where
    f : Form
    f = form.SetUp r first limit

    go : (b : Bool) → takes_effect r first limit ≡ b → Housed (set_up_response f r first limit p).memory
    go true e = good_set_up r first limit p g e f
    go false e = rw (no_set_up f r first limit p g e) g
form_good (form.Begin k) l p g = good_next (form.Begin k) (Begin k) p g
form_good (form.Read k x) l p g = good_next (form.Read k x) (Read k x) p g
form_good (form.Write k x v) l p g = good_next (form.Write k x v) (Write k x (value_in l v)) p g
form_good (form.Advance k) l p g = good_next (form.Advance k) (Advance k) p g
form_good (form.Abandon k) l p g = good_next (form.Abandon k) (Abandon k) p g
form_good form.Trim l p g = good_next form.Trim Trim p g
form_good form.Free l p g = good_next form.Free Free p g
form_good form.Other l p g = g

pub line_good : (l : List ℕ) (p : Memory) → Housed p → Housed (answer_to l p).memory
unfolding answer_to
line_good l p g = form_good (form_of l) l p g

-- one that is no set-up that is answered prints, and leaves of the store, what specs/Printed says
pub record LineFollows (f : Form) (a : Asked) (p : Memory) (s : Response) : Type 0 where
  pub text : s.text ≡ printed_for f a (front p)
  pub left : front s.memory ≡ left_by a (front p)

call_follows : (f : Form) (q : Call) (p : Memory) → Housed p → LineFollows f (ACall q) p (said f q p)
call_follows f q p g = record { text = ap (line_text f) (call_text q p); left = front_next f q p g }

form_follows : (f : Form) (l : List ℕ) (p : Memory) → Housed p → is_set_up (asked_by f l) ≡ false → LineFollows f (asked_by f l) p (response f l p)
unfolding response
form_follows (form.SetUp r first limit) l p g e = rw (no_set_up (form.SetUp r first limit) r first limit p g e) (record { text = refl; left = refl })
form_follows (form.Begin k) l p g e = call_follows (form.Begin k) (Begin k) p g
form_follows (form.Read k x) l p g e = call_follows (form.Read k x) (Read k x) p g
form_follows (form.Write k x v) l p g e = call_follows (form.Write k x v) (Write k x (value_in l v)) p g
form_follows (form.Advance k) l p g e = call_follows (form.Advance k) (Advance k) p g
form_follows (form.Abandon k) l p g e = call_follows (form.Abandon k) (Abandon k) p g
form_follows form.Trim l p g e = call_follows form.Trim Trim p g
form_follows form.Free l p g e = call_follows form.Free Free p g
form_follows form.Other l p g e = record { text = refl; left = refl }

pub line_follows : (l : List ℕ) (p : Memory) → Housed p → is_set_up (asked l) ≡ false → LineFollows (form_of l) (asked l) p (answer_to l p)
unfolding answer_to
line_follows l p g e = form_follows (form_of l) l p g e
