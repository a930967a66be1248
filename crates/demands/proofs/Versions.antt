-- The version table (specs/Versions), for every set-up and every list of calls. Of every image that calls have led to, crate history has that an open
-- client's look by the entry is the full look, and what the entries are by the proofs' book; here both are said of the memory and of the
-- statement's book. After a refused set-up no Read is answered, no client is open, and each entry is 0.
-- Assumes nothing.
use Prim.Native.Nat.{ℕ, ◌≤◌}
use mathlib.Core.Path.{◌≡◌, sym, ap, subst, ◌∙◌}
use mathlib.Core.Logic.{inl, inr}
use mathlib.Core.Bool.{true, false≢true}
use mathlib.Core.List.{List}
use native.Mathlib.Omega.{arith}
use lib.ListN.{length, get_or}
use Rattle.spec.specs.Set.{clients}
use Rattle.spec.specs.Rows.{cells}
use Rattle.spec.specs.Answers.{Answered, Refused, unfit, Reading}
use Rattle.spec.specs.Image.{Image, is_open, no_versions, empty}
use Rattle.spec.specs.Calls.{Outcome, reading, look_of, full_look, read}
use Rattle.spec.specs.Bytes.{After, Memory, decode, store_of, set_up}
use Rattle.spec.specs.Run.{Call, Read}
use Rattle.spec.specs.Table.{Table, blank}
use Rattle.spec.specs.Right.{Bounds}
use Rattle.history.proofs.Wellformed.{ReadEnds, refused, found, read_ends, zero_at, length_none}
use Rattle.history.proofs.Bridge.{encoded, decode-encoded, crossed, unused, refused_call}
use Rattle.history.proofs.Counts.{some_has}
use Rattle.history.proofs.Plain.{Entry, Plain}
use Rattle.history.proofs.Erase.{commit_entry, aged, aged_in, erase}
use Rattle.history.proofs.Versions.{EntryIn, full_look_lem}
use Rattle.history.proofs.AllCalls.{Reached}
use Rattle.demands.specs.Afterwards.{after_run, table_after}
use Rattle.demands.specs.Versions.{image_in, FullAnswer, FullFound, FullLooks, EntryOf, Entries}
use Rattle.demands.proofs.Rounds.{all_below, from_set_up}

-- what is claimed of a memory and the plain table
record Claims (m : Memory) (t : Table) : Type 0 where
  answer : (k x : ℕ) → FullAnswer m k x
  found : (k x : ℕ) → FullFound m k x
  size : length m.versions ≡ cells
  each : (x : ℕ) → EntryOf x (get_or m.versions x 0) t.book

-- ---- of an image that calls have led to

-- a Read that is answered gives what the full look finds, where its client's look does
full_answer : (k x : ℕ) (i : Image) → (is_open i k ≡ true → look_of k x i ≡ full_look k x i) → (a : Reading) → (read k x i).answer ≡ Answered a
    → a ≡ reading (full_look k x i)
full_answer k x i full a = go (read_ends k x i)
  where
    go : {o : Outcome Reading} → ReadEnds k x i o → o.answer ≡ Answered a → a ≡ reading (full_look k x i)
    go (refused n) e = let z : ◌≡◌ {A = ℕ} 0 1 = cc in absurd (omega arith)
    go (found o) e = let s : reading (look_of k x i) ≡ a = cc in sym s ∙ ap reading (full o)

-- an entry by the statement's book
entry_of_lem : (book : List Entry) (x n : ℕ) → EntryIn book x n → EntryOf x n (aged book)
unfolding commit_entry
entry_of_lem book x n (inl z) = inl z
entry_of_lem book x n (inr e) = inr (commit_entry e.0, aged_in e.0 book e.1, e.2, some_has (e.0.puts x) e.3)

module _ {bounds : Bounds} {w : ℕ} {i : Image} {p : Plain} (g : Reached bounds w i p) where
  full : (k x : ℕ) → is_open i k ≡ true → look_of k x i ≡ full_look k x i
  full = full_look_lem i g.inv g.known

  shown : image_in (encoded i) ≡ i
  shown = decode-encoded i g.fine

  reached : Claims (encoded i) (erase p)
  unfolding encoded erase
  reached = record {
    answer = λ k x a e. subst (λ (j : Image). a ≡ reading (full_look k x j)) (sym shown)
        (full_answer k x i (full k x) a (sym (ap (λ (r : After Reading). r.answer) (crossed i g.fine (Read k x))) ∙ e));
    found = λ k x. subst (λ (j : Image). is_open j k ≡ true → look_of k x j ≡ full_look k x j) (sym shown) (full k x);
    size = g.fine.table;
    each = λ x. entry_of_lem p.book x _ (g.known x);
  }

-- ---- of what a refused set-up hands back

none_open : (d c : List ℕ) (k : ℕ) → is_open (image_in (unused d c)) k ≡ true → ⊥
unfolding decode store_of empty
none_open d c k e = false≢true (rw (zero_at clients k) at e)

unread : (d c : List ℕ) → Claims (unused d c) blank
unfolding no_versions
unread d c = record {
  answer = λ k x a e.
      let f : Refused unfit ≡ Answered a = sym (ap (λ (r : After Reading). r.answer) (refused_call d c (Read k x))) ∙ e in
      let z : ◌≡◌ {A = ℕ} 0 1 = cc in
      absurd (omega arith);
  found = λ k x e. absurd (none_open d c k e);
  size = length_none;
  each = λ x. inl (zero_at cells x);
}

-- ---- the two claims

module _ (d c : List ℕ) (w l : ℕ) (lw : w ≤ 4294967295) (qs : List Call) where
  claims : Claims (after_run qs (set_up d c w l).memory) (table_after qs (set_up d c w l).memory blank)
  claims = from_set_up d c w l lw qs clients (all_below qs) Claims (λ s g. reached g.good) (unread d c)

  pub full_looks : FullLooks (set_up d c w l).memory qs
  full_looks = record { answer = claims.answer; found = claims.found }

  pub known_entries : Entries (set_up d c w l).memory qs
  known_entries = record { size = claims.size; each = claims.each }
