-- The version table in a store grown from set-up: a look by the entry finds what the full look finds (`full_look_lem`), and what it notes keeps that so
-- (`entries_known`).
-- On any bytes a look at the numbers from m on is the full look, with what it finds dropped if it is numbered below m (`newest-keep`). So the two
-- agree where the full look finds nothing, or a number that is not below m. In a store grown from set-up an entry is 0, or the number of a commit in
-- the book that wrote the cell (`Known`). If it is at most the reader's S, the commit that the reader's copy shows for the cell is that one or a
-- later one, and it has its row, trims or not (`Lookups.shown`): so the full look's number is not below the entry (`not_below`). `Known` says
-- nothing of readers and rows, so trims cannot break it: the book only grows (`grows`), only a Read notes an entry, and what it notes is the number
-- of a committed row, which is in the book (`Tab.sound`).
-- Assumes nothing.
use Prim.Native.Nat.{ℕ, ◌+◌, ◌≤◌, ◌<◌}
use mathlib.Core.Path.{◌≡◌, refl, sym, ap, ◌∙◌}
use mathlib.Core.Logic.{◌⊎◌, inl, inr, by_cases}
use mathlib.Core.Bool.{Bool, true, false, not}
use mathlib.Core.List.Memᴰ.{tail as there}
use mathlib.Core.List.{List, [], ◌∷◌, map, Memᴰ as In}
use mathlib.Core.Option.{Option, some, IsSome}
use native.Mathlib.Decide.{ℕ_discrete, dec_lt}
use native.Mathlib.Omega.{arith}
use borrow.Author.Tests.{lt-ltb, le-ltb, leb-true, ltb-true}
use lib.ListN.{get_or, set}
use lib.Dec.{leb, ltb}
use Rattle.std.specs.Prelude.{if◌then◌else◌, None, Some}
use Rattle.spec.specs.Rows.{Row, cells}
use Rattle.spec.specs.declared.Progress.TheVariants.{Stage, Waiting, Conflict, Done}
use Rattle.spec.specs.Numbers.{at_least, Number}
use Rattle.spec.specs.Look.{is_own, find, version_of, newer, version_at, newest, own_or, look_for, least_looked, version_from, look_from, versions_after, Found, Lookup, version}
use Rattle.spec.specs.Answers.{Answer, Answered, Refused}
use Rattle.spec.specs.Image.{Image, is_open, number_of, snapshot_of, entry_for, no_versions, empty}
use Rattle.spec.specs.Calls.{Outcome, look_of, full_look}
use Rattle.spec.specs.Run.{Call, Begin, Read, Write, Advance, Abandon, Trim, Free}
use Rattle.spec.specs.Table.{Observed}
use Rattle.spec.specs.Right.{Bounds}
use Rattle.history.proofs.Wellformed.{each_set, Kept, EntryNoted, zero_at}
use Rattle.history.proofs.Lists.{ite_elim, option_case}
use Rattle.history.proofs.Model.{DRow, read_key, largest}
use Rattle.history.proofs.Plain as own
use Rattle.history.proofs.Plain.{Entry, Plain, on_stageₚ, on_beginₚ, on_writeₚ, on_advanceₚ, on_progressₚ, on_abandonₚ, updateₚ}
use Rattle.history.proofs.Invariant.{Inv, RowOf, values_up_to}
use Rattle.history.proofs.Booked.{up_to_some, up_to_none}
use Rattle.history.proofs.Lookups.{read_some, read_is, largest-some, shown}
use Rattle.history.proofs.View.{data_row_of, commit_row_of, view, snapshot_at}
use Rattle.history.proofs.Searches.{version_in, newest_view}
use Rattle.history.proofs.Simulates.{open_number}

-- ---- a look at the numbers from m on

-- what was found, where its number is at least m
keep : ℕ → Lookup → Lookup
keep m None = None
keep m (Some f) = if ltb f.number m then None else Some f

keep_version : (m i : ℕ) (a : Number) → version_at i (at_least m a) ≡ keep m (version_at i a)
unfolding at_least keep version_at
keep_version m i None = refl
keep_version m i (Some n) = go (ltb n m)
  where
    go : (b : Bool) → version_at i (if b then None else Some n) ≡ (if b then None else Some (version i n))
    go true = refl
    go false = refl

newer_none : (a : Lookup) → newer a None ≡ a
unfolding newer
newer_none None = refl
newer_none (Some f) = refl

keep-newer : (m : ℕ) (a b : Lookup) → newer (keep m a) (keep m b) ≡ keep m (newer a b)
unfolding keep newer
keep-newer m None b = refl
keep-newer m (Some a) None = newer_none (if ltb a.number m then None else Some a)
keep-newer m (Some a) (Some b) =
    let n = a.number in
    let k = b.number in
    by_cases (dec_lt n k)
    (λ l. by_cases (dec_lt k m)
    (λ q. rw (lt-ltb n k l, lt-ltb k m q, lt-ltb n m (omega arith)))
    (λ q. by_cases (dec_lt n m)
    (λ p. rw (lt-ltb n k l, le-ltb k m (omega (arith, q)), lt-ltb n m p))
    (λ p. rw (lt-ltb n k l, le-ltb k m (omega (arith, q)), le-ltb n m (omega (arith, p)), lt-ltb n k l))))
    (λ l. by_cases (dec_lt n m)
    (λ p. rw (le-ltb n k (omega (arith, l)), lt-ltb n m p, lt-ltb k m (omega (arith, l))))
    (λ p. by_cases (dec_lt k m)
    (λ q. rw (le-ltb n k (omega (arith, l)), lt-ltb k m q, le-ltb n m (omega (arith, p))))
    (λ q. rw (le-ltb n k (omega (arith, l)), le-ltb k m (omega (arith, q)), le-ltb n m (omega (arith, p)), le-ltb n k (omega (arith, l))))))

newest-keep : (m : ℕ) (f : Row → Number) (i : ℕ) (ds : List Row) → newest (λ r. at_least m (f r)) i ds ≡ keep m (newest f i ds)
unfolding newest keep
newest-keep m f i [] = refl
newest-keep m f i (r ∷ rs) = rw (keep_version m i (f r), newest-keep m f (i + 1) rs) (keep-newer m (version_at i (f r)) (newest f (i + 1) rs))

keep_all : (m : ℕ) (a : Lookup) → ((j n : ℕ) → a ≡ Some (version j n) → m ≤ n) → keep m a ≡ a
unfolding keep
keep_all m None h = refl
keep_all m (Some f) h = rw (le-ltb f.number m (h f.at f.number refl))

-- ---- the entries of a version table

-- entry n of cell x: 0, or the number of a commit in the book that wrote the cell
abbrev pub EntryIn : List Entry → ℕ → ℕ → Type 0
EntryIn book x n = (n ≡ 0) ⊎ ((e : Entry) × In e book × (e.number ≡ n) × IsSome (e.puts x))

abbrev pub Known : List ℕ → List Entry → Type 0
Known v book = (x : ℕ) → EntryIn book x (get_or v x 0)

pub start_known : (r l w : ℕ) → Known (empty r l w).versions (own.emptyₚ).book
unfolding empty no_versions
start_known r l w x = inl (zero_at cells x)

-- ---- the look by an entry

module _ {bounds : Bounds} {p : Plain} (i : Image) (v : Inv bounds (view i) p) (known : Known i.versions p.book) (k x : ℕ)
    (isopen : is_open i k ≡ true) where
  abbrev S : ℕ
  S = snapshot_of i k

  abbrev e : ℕ
  e = entry_for i x

  -- all versions of the cell that the reader may see
  abbrev versions : Lookup
  versions = newest (version_of x S i.commit_rows) 0 i.data_rows

  not_below : (j n : ℕ) → versions ≡ Some (version j n) → e ≤ S → e ≤ n
  unfolding view
  not_below j n q l = go (known x)
    where
      key : DRow → Option ℕ
      key = read_key (map commit_row_of i.commit_rows) x S

      largest-is : largest key (map data_row_of i.data_rows) ≡ some (n, data_row_of (get_or i.data_rows j []))
      largest-is = sym (newest_view x S i.commit_rows i.data_rows) ∙ ap (version_in i.data_rows) q

      go : EntryIn p.book x e → e ≤ n
      go (inl z) = omega arith
      go (inr d) =
          option_case (values_up_to S p.book x)
          (λ z. absurd (up_to_none S p.book x z d.0 d.1 (omega (arith, d.2)) d.3))
          (λ w z. let t = up_to_some S p.book v.tab.rising x w z in
          let r = shown v.tab k (open_number i k (ap not isopen)) x w (rw (snapshot_at i k) t) in
          let a = (largest-some key (map data_row_of i.data_rows) _ largest-is).top r.0 t.entry.number r.1
          (read_is (map commit_row_of i.commit_rows) x S r.0 t.entry.number r.2 r.3 t.below) in
          let c = t.last d.0 d.1 (omega (arith, d.2)) d.3 in
          omega (arith, a, c, d.2))

  enough : (j n : ℕ) → versions ≡ Some (version j n) → least_looked e S ≤ n
  unfolding least_looked
  enough j n q = go (leb e S) refl
    where
      go : (b : Bool) → leb e S ≡ b → (if b then e else 0) ≤ n
      go true z = not_below j n q (leb-true e S z)
      go false z = omega arith

  pub full_look_lem : look_of k x i ≡ full_look k x i
  unfolding look_from look_for version_from
  full_look_lem =
      ap (own_or (find (is_own (number_of i k) x) 0 i.data_rows))
      (newest-keep (least_looked e S) (version_of x S i.commit_rows) 0 i.data_rows ∙ keep_all (least_looked e S) versions enough)

-- ---- the table after a Read

-- the number of what was found, 0 where nothing was
abbrev number_found : Lookup → ℕ
number_found None = 0
number_found (Some f) = f.number

-- a commit that the full look finds has its row
found_row : (i : Image) (k x j n : ℕ) → 0 < n → full_look k x i ≡ Some (version j n) → RowOf (view i).dat (view i).comm n x
unfolding look_for own_or view
found_row i k x j n h q = go (find (is_own (number_of i k) x) 0 i.data_rows) q
  where
    versions : Lookup
    versions = newest (version_of x (snapshot_of i k) i.commit_rows) 0 i.data_rows

    row : DRow
    row = data_row_of (get_or i.data_rows j [])

    go : (o : Found) → own_or o versions ≡ Some (version j n) → RowOf (map data_row_of i.data_rows) (map commit_row_of i.commit_rows) n x
    go (Some a) q = let z : 0 ≡ n = ap number_found q in absurd (omega arith)
    go None q =
        let key = read_key (map commit_row_of i.commit_rows) x (snapshot_of i k) in
        let b = largest-some key (map data_row_of i.data_rows) (n, row)
        (sym (newest_view x (snapshot_of i k) i.commit_rows i.data_rows) ∙ ap (version_in i.data_rows) q) in
        let r = read_some (map commit_row_of i.commit_rows) x (snapshot_of i k) row n b.key in
        (row, b.within, r.0, r.1)

noted_known : {bounds : Bounds} {p : Plain} (i : Image) → Inv bounds (view i) p → Known i.versions p.book → (k x : ℕ) (l : Lookup)
    → full_look k x i ≡ l → Known (versions_after x l i.versions) p.book
unfolding versions_after
noted_known i v known k x None q = known
noted_known {p = p} i v known k x (Some f) q = go (ltb (entry_for i x) f.number) refl
  where
    n : ℕ
    n = f.number

    new : entry_for i x < n → EntryIn p.book x n
    new l =
        let r = found_row i k x f.at n (omega arith) q in
        let e = v.tab.sound r.0 n r.1 r.3 in
        inr (e.0, e.1, e.2, rw (ap e.0.puts (sym r.2) ∙ e.3) tt)

    go : (b : Bool) → ltb (entry_for i x) n ≡ b → Known (if b then set i.versions x n else i.versions) p.book
    go true z = each_set (EntryIn p.book) i.versions x n (new (ltb-true (entry_for i x) n z)) known
    go false z = known

-- ---- the table after any call

-- the book grows
module _ (p : Plain) (e : Entry) (h : In e p.book) where
  grows_stage : (a g : ℕ) → In e (on_stageₚ p a g).book
  unfolding on_stageₚ
  grows_stage a g =
      ite_elim (λ (q : Plain). In e q.book) (ℕ_discrete g 8) (λ _. h)
      (λ _. ite_elim (λ (q : Plain). In e q.book) (ℕ_discrete g 12) (λ _. there h) (λ _. h))

  grows : (q : Call) (a : Answer (Observed q)) → In e (updateₚ p q a).book
  unfolding updateₚ on_beginₚ on_writeₚ on_advanceₚ on_progressₚ on_abandonₚ
  grows (Begin k) (Answered b) = h
  grows (Begin k) (Refused n) = h
  grows (Read k x) a = h
  grows (Write k x v) (Answered n) = h
  grows (Write k x v) (Refused n) = h
  grows (Advance k) (Answered (Stage g)) = grows_stage k g
  grows (Advance k) (Answered (Waiting n)) = h
  grows (Advance k) (Answered (Conflict n)) = h
  grows (Advance k) (Answered (Done n)) = h
  grows (Advance k) (Refused n) = h
  grows (Abandon k) (Answered n) = h
  grows (Abandon k) (Refused n) = h
  grows Trim a = h
  grows Free a = h

module _ {bounds : Bounds} {p : Plain} (i : Image) (v : Inv bounds (view i) p) (known : Known i.versions p.book) where
  -- by the book before the call
  still_known : (u : List ℕ) → (u ≡ i.versions) ⊎ EntryNoted i u → Known u p.book
  still_known u (inl e) = rw e known
  still_known u (inr r) = rw (r.3, full_look_lem i v known r.0 r.1 r.2) (noted_known i v known r.0 r.1 (full_look r.0 r.1 i) refl)

  pub entries_known : {A : Type 0} {o : Outcome A} → Kept i o → (q : Call) (a : Answer (Observed q)) → Known o.image.versions (updateₚ p q a).book
  entries_known {o = o} h q a x = go (still_known o.image.versions h.versions x)
    where
      go : EntryIn p.book x (get_or o.image.versions x 0) → EntryIn (updateₚ p q a).book x (get_or o.image.versions x 0)
      go (inl z) = inl z
      go (inr d) = inr (d.0, grows p d.0 d.1 q a, d.2, d.3)
