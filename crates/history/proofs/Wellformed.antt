-- Well-formed images, and that every call leads from a well-formed image to a well-formed image of as many rows.
-- An image is well-formed if it has 1 to 1,024 rows and no row count above that, its rows have their full width, each array has an entry for
-- each client and the version table one for each cell, stages are known, and waiting lists are sets of clients. The argument is one walk over the
-- calls: each way a call may end is one of a few changes, and each change keeps each of these facts; tests matter in three places only (a value of
-- 16 bytes, a free row, an open client). The walk also says what becomes of the version table: only a Read changes it (`Kept.versions`).
-- Assumes nothing.
use Prim.Native.Nat.{ℕ, zero, suc, ◌+◌, ◌^◌, ◌≤◌, ◌<◌}
use mathlib.Core.Path.{◌≡◌, refl, sym, ap, ◌∙◌}
use mathlib.Core.Logic.{◌⊎◌, inl, inr}
use mathlib.Core.Bool.{Bool, true, false, not, ◌&&◌}
use mathlib.Core.List.{List, [], ◌∷◌, ◌++◌, map}
use native.Mathlib.Omega.{arith}
use borrow.Author.Tests.{leb-false, eqb-true, not-false}
use lib.Dec.{eqb, leb, ltb}
use lib.ListN.{length, get_or, set, replicate, length-append, length-set, length-map, length-replicate, get_or-map}
use Rattle.std.specs.Prelude.{if◌then◌else◌, None, Some}
use Rattle.spec.specs.Set.{clients, member, remove, strike}
use Rattle.spec.proofs.Sets.{member_above, remove-le, collect-lt}
use Rattle.spec.specs.Rows.{Row, data_row, commit_row, with_value, filter, has_tag, cells}
use Rattle.spec.proofs.Bytes.{length-data_row, length-commit_row, length-spliced}
use Rattle.spec.proofs.Rows.{Wide, wide_append, filter_wide, filter_fewer}
use Rattle.spec.specs.Look.{is_own, find, versions_after, Found, Lookup, version}
use Rattle.spec.specs.Share.{any, cells_of, shares, conflict}
use Rattle.spec.specs.Trim.{stays, trimmed_rows, in_use, trimmed_commits}
use Rattle.spec.specs.declared.Progress.{Progress}
use Rattle.spec.specs.Answers.{Answer, unfit, no_client, no_cell, not_open, wrong_stage, Reading}
use Rattle.spec.specs.Image.{Clients, Image, set_stage, set_request, set_commit, set_request_waits, set_commit_waits, cleared, unlisted, opened}
use Rattle.spec.specs.Image.{closed, zeros, no_versions, empty, number_of, snapshot_of, request_of, stage_of, commit_number_of, is_open}
use Rattle.spec.specs.Calls.{Outcome, refuse, free, begun, begin, look_of, replies_found, read, replaced, added, stored, write, removed, abandon}
use Rattle.spec.specs.Calls.{low, trimmed_to, trim}
use Rattle.spec.specs.Numbers.{top, Number}
use Rattle.spec.specs.Steps.{request_queue, commit_queue, struck, others, go_on, finished, enter, take_request, list_requests, looked}
use Rattle.spec.specs.Steps.{look_requests, checked, check, take_commit, list_commits, look_commits, add_commit, leave_commits, leave_requests}
use Rattle.spec.specs.Steps.{steps, no_step, advance}
use Rattle.spec.specs.Run.{Call, Begin, Read, Write, Advance, Abandon, Trim, Free, perform}

-- ---- arrays

-- an array with an entry for each client, and P of each entry
pub record Array (P : ℕ → Type 0) (l : List ℕ) : Type 0 where
  pub size : length l ≡ clients
  pub each : (j : ℕ) → P (get_or l j 0)

-- P of each place and its entry
pub each_set : (P : ℕ → ℕ → Type 0) (l : List ℕ) (k v : ℕ) → P k v → ((j : ℕ) → P j (get_or l j 0)) → (j : ℕ) → P j (get_or (set l k v) j 0)
each_set P [] k v h all j = all j
each_set P (x ∷ l) zero v h all zero = h
each_set P (x ∷ l) zero v h all (suc j) = all (suc j)
each_set P (x ∷ l) (suc k) v h all zero = all zero
each_set P (x ∷ l) (suc k) v h all (suc j) = each_set (λ n. P (suc n)) l k v h (λ n. all (suc n)) j

array_set : {P : ℕ → Type 0} {l : List ℕ} → Array P l → (k v : ℕ) → P v → Array P (set l k v)
array_set {P} {l} a k v h = record { size = length-set l k v ∙ a.size; each = each_set (λ j. P) l k v h a.each }

-- a number of any size, a known stage, a set of clients
abbrev Any : ℕ → Type 0
Any n = Unit {0}

abbrev Known : ℕ → Type 0
Known g = g ≤ 13

abbrev Few : ℕ → Type 0
Few w = w < 2 ^ clients

remove-zero : (k : ℕ) → remove 0 k ≡ 0
unfolding remove
remove-zero k = rw (member_above 0 0 k (omega arith) (omega arith))

pub cleared_at : (l : List ℕ) (k j : ℕ) → get_or (cleared k l) j 0 ≡ remove (get_or l j 0) k
unfolding cleared
cleared_at l k j = ap (λ (z : ℕ). get_or (map (λ (w : ℕ). remove w k) l) j z) (sym (remove-zero k)) ∙ get_or-map (λ (w : ℕ). remove w k) l j 0

pub length-cleared : (k : ℕ) (l : List ℕ) → length (cleared k l) ≡ length l
unfolding cleared
length-cleared k l = length-map l (λ (w : ℕ). remove w k)

array_cleared : {l : List ℕ} → Array Few l → (k : ℕ) → Array Few (cleared k l)
array_cleared {l} a k = record {
  size = length-cleared k l ∙ a.size;
  each = λ j. rw (cleared_at l k j) (omega (arith, remove-le (get_or l j 0) k, a.each j));
}

pub strike-le : (p : ℕ → Bool) (s m : ℕ) → strike p s m ≤ s
unfolding strike
strike-le p s zero = omega arith
strike-le p s (suc m) = go (p m) (strike-le p s m)
  where
    go : (b : Bool) → strike p s m ≤ s → (if b then remove (strike p s m) m else strike p s m) ≤ s
    go true h = omega (arith, remove-le (strike p s m) m)
    go false h = h

pub record Tidy (c : Clients) : Type 0 where
  pub stage : Array Known c.stage
  pub number : Array Any c.number
  pub snapshot : Array Any c.snapshot
  pub request : Array Any c.request
  pub commit : Array Any c.commit
  pub request_waits : Array Few c.request_waits
  pub commit_waits : Array Few c.commit_waits

module _ {c : Clients} (z : Tidy c) (k : ℕ) where
  tidy_stage : (g : ℕ) → g ≤ 13 → Tidy (set_stage k g c)
  tidy_stage g h = record {
    stage = array_set z.stage k g h;
    number = z.number;
    snapshot = z.snapshot;
    request = z.request;
    commit = z.commit;
    request_waits = z.request_waits;
    commit_waits = z.commit_waits;
  }

  tidy_request : (n : ℕ) → Tidy (set_request k n c)
  tidy_request n = record {
    stage = z.stage;
    number = z.number;
    snapshot = z.snapshot;
    request = array_set z.request k n tt;
    commit = z.commit;
    request_waits = z.request_waits;
    commit_waits = z.commit_waits;
  }

  tidy_commit : (n : ℕ) → Tidy (set_commit k n c)
  tidy_commit n = record {
    stage = z.stage;
    number = z.number;
    snapshot = z.snapshot;
    request = z.request;
    commit = array_set
        z.commit k n tt;
    request_waits = z.request_waits;
    commit_waits = z.commit_waits;
  }

  tidy_request_waits : (w : ℕ) → w < 2 ^ clients → Tidy (set_request_waits k w c)
  tidy_request_waits w h = record {
    stage = z.stage;
    number = z.number;
    snapshot = z.snapshot;
    request = z.request;
    commit = z.commit;
    request_waits = array_set z.request_waits k w h;
    commit_waits = z.commit_waits;
  }

  tidy_commit_waits : (w : ℕ) → w < 2 ^ clients → Tidy (set_commit_waits k w c)
  tidy_commit_waits w h = record {
    stage = z.stage;
    number = z.number;
    snapshot = z.snapshot;
    request = z.request;
    commit = z.commit;
    request_waits = z.request_waits;
    commit_waits = array_set z.commit_waits k w h;
  }

  tidy_unlisted : Tidy (unlisted k c)
  tidy_unlisted = record {
    stage = z.stage;
    number = z.number;
    snapshot = z.snapshot;
    request = z.request;
    commit = z.commit;
    request_waits = z.request_waits;
    commit_waits = array_cleared z.commit_waits k;
  }

  tidy_opened : (n s : ℕ) → Tidy (opened k n s c)
  tidy_opened n s = record {
    stage = array_set z.stage k 0 (omega arith);
    number = array_set z.number k n tt;
    snapshot = array_set z.snapshot k s tt;
    request = array_set z.request k 0 tt;
    commit = array_set z.commit k 0 tt;
    request_waits = array_set z.request_waits k 0 (omega arith);
    commit_waits = array_set z.commit_waits k 0 (omega arith);
  }

  tidy_closed : Tidy (closed k c)
  unfolding closed
  tidy_closed = record {
    stage = array_set z.stage k 0 (omega arith);
    number = array_set z.number k 0 tt;
    snapshot = array_set z.snapshot k 0 tt;
    request = array_set z.request k 0 tt;
    commit = array_set z.commit k 0 tt;
    request_waits = array_set (array_cleared z.request_waits k) k 0 (omega arith);
    commit_waits = array_set (array_cleared z.commit_waits k) k 0 (omega arith);
  }

-- ---- images

pub record Fine (n : ℕ) (c : Clients) (d m : List Row) (v : List ℕ) : Type 0 where
  pub some : 1 ≤ n
  pub most : n ≤ 1024
  pub tidy : Tidy c
  pub data_wide : Wide 24 d
  pub commit_wide : Wide 8 m
  pub data_fit : length d ≤ n
  pub commit_fit : length m ≤ n
  pub table : length v ≡ cells

abbrev pub Wellformed : Image → Type 0
Wellformed i = Fine i.rows i.clients i.data_rows i.commit_rows i.versions

-- a version table in which what an open client has found is noted
abbrev pub EntryNoted : Image → List ℕ → Type 0
EntryNoted i v = (k : ℕ) × (x : ℕ) × (is_open i k ≡ true) × (v ≡ versions_after x (look_of k x i) i.versions)

-- what a call leaves is well-formed and of as many rows, with the version table as it was, or so noted
pub record Kept {A : Type 0} (i : Image) (o : Outcome A) : Type 0 where
  pub fine : Wellformed o.image
  pub size : o.image.rows ≡ i.rows
  pub versions : (o.image.versions ≡ i.versions) ⊎ EntryNoted i o.image.versions

-- what no call changes but a Read
abbrev fixed : Image → ℕ × List ℕ
fixed i = (i.rows, i.versions)

kept : {A : Type 0} {i : Image} {o : Outcome A} → Wellformed o.image → fixed o.image ≡ fixed i → Kept i o
kept s e = record { fine = s; size = ap (λ (f : ℕ × List ℕ). f.0) e; versions = inl (ap (λ (f : ℕ × List ℕ). f.1) e) }

module _ {n : ℕ} {c : Clients} {d m : List Row} {v : List ℕ} (h : Fine n c d m v) where
  fine_clients : (b : Clients) → Tidy b → Fine n b d m v
  fine_clients b t = record {
    some = h.some;
    most = h.most;
    tidy = t;
    data_wide = h.data_wide;
    commit_wide = h.commit_wide;
    data_fit = h.data_fit;
    commit_fit = h.commit_fit;
    table = h.table;
  }

  fine_data : (e : List Row) → Wide 24 e → length e ≤ n → Fine n c e m v
  fine_data e x l = record {
    some = h.some;
    most = h.most;
    tidy = h.tidy;
    data_wide = x;
    commit_wide = h.commit_wide;
    data_fit = l;
    commit_fit = h.commit_fit;
    table = h.table;
  }

  fine_commits : (e : List Row) → Wide 8 e → length e ≤ n → Fine n c d e v
  fine_commits e x l = record {
    some = h.some;
    most = h.most;
    tidy = h.tidy;
    data_wide = h.data_wide;
    commit_wide = x;
    data_fit = h.data_fit;
    commit_fit = l;
    table = h.table;
  }

  fine_versions : (e : List ℕ) → length e ≡ length v → Fine n c d m e
  fine_versions e l = record {
    some = h.some;
    most = h.most;
    tidy = h.tidy;
    data_wide = h.data_wide;
    commit_wide = h.commit_wide;
    data_fit = h.data_fit;
    commit_fit = h.commit_fit;
    table = l ∙ h.table;
  }

-- ---- tests

kept_if : {A : Type 0} {i : Image} (b : Bool) {x y : Outcome A} → Kept i x → Kept i y → Kept i (if b then x else y)
kept_if true p q = p
kept_if false p q = q

-- where the second outcome needs that the test failed
kept_else : {A : Type 0} {i : Image} (b : Bool) {x y : Outcome A} → Kept i x → (b ≡ false → Kept i y) → Kept i (if b then x else y)
kept_else true p q = p
kept_else false p q = q refl

-- ---- rows

-- the rows with row j's value written over, also where there is no row j
wide_value : (rs : List Row) (j : ℕ) (v : List ℕ) → length v ≡ 16 → Wide 24 rs → Wide 24 (set rs j (with_value v (get_or rs j [])))
unfolding with_value
wide_value [] j v g h = h
wide_value (x ∷ rs) zero v g h = (length-spliced 8 v x (8 + length v) refl (omega (arith, h.0)) ∙ h.0, h.1)
wide_value (x ∷ rs) (suc j) v g h = (h.0, wide_value rs j v g h.1)

-- ---- a Read

-- how a Read ends: it is refused, or its client is open, and it answers and notes what it has found
pub data ReadEnds (k x : ℕ) (i : Image) : Outcome Reading → Type 0 where
  refused : (n : ℕ) → ReadEnds k x i (refuse n i)
  found : is_open i k ≡ true → ReadEnds k x i (replies_found x (look_of k x i) i)

ends_if : {k x : ℕ} {i : Image} (b : Bool) (n : ℕ) {o : Outcome Reading} → (b ≡ false → ReadEnds k x i o)
    → ReadEnds k x i (if b then refuse n i else o)
ends_if true n f = refused n
ends_if false n f = f refl

pub read_ends : (k x : ℕ) (i : Image) → ReadEnds k x i (read k x i)
unfolding read
read_ends k x i =
    ends_if (not (eqb (length i.versions) cells)) unfit (λ _. ends_if (leb clients k) no_client (λ _. ends_if (leb cells x) no_cell (λ _.
    ends_if (not (is_open i k)) not_open (λ o. ends_if (ltb 11 (stage_of i k)) wrong_stage (λ _. found (not-false (is_open i k) o))))))

length_after : (x : ℕ) (l : Lookup) (v : List ℕ) → length (versions_after x l v) ≡ length v
unfolding versions_after
length_after x None v = refl
length_after x (Some f) v = go (ltb (get_or v x 0) f.number)
  where
    go : (b : Bool) → length (if b then set v x f.number else v) ≡ length v
    go true = length-set v x f.number
    go false = refl

-- ---- the calls

module _ (i : Image) (h : Wellformed i) where
  same : {A : Type 0} (a : Answer A) → Kept i (record { image = i; answer = a })
  same a = kept h refl

  begin_kept : (k : ℕ) → Kept i (begin k i)
  unfolding begin begun
  begin_kept k =
      kept_if (leb clients k) (same _) (kept_if (is_open i k) (same _) (kept_if (eqb i.counters.issued top) (same _)
      (kept (fine_clients h _ (tidy_opened h.tidy k _ _)) refl)))

  read_kept : (k x : ℕ) → Kept i (read k x i)
  read_kept k x = go (read_ends k x i)
    where
      go : {o : Outcome Reading} → ReadEnds k x i o → Kept i o
      go (refused n) = same _
      go (found e) = record {
        fine = fine_versions h _ (length_after x (look_of k x i) i.versions);
        size = refl;
        versions = inr (k, x, e, refl);
      }

  added_kept : (k x : ℕ) (v : List ℕ) → length v ≡ 16 → Kept i (added k x v i)
  unfolding added
  added_kept k x v l =
      let r : Row = data_row (number_of i k) x v in
      kept_if (leb i.limit (cells_of (number_of i k) i.data_rows)) (same _) (kept_else (leb i.rows (length i.data_rows)) (same _) (λ e.
      kept (fine_data h (i.data_rows ++ (r ∷ [])) (wide_append 24 i.data_rows (r ∷ []) h.data_wide (length-data_row (number_of i k) x v ∙ rw l, tt))
      (simp length-append (omega (arith, leb-false i.rows (length i.data_rows) e)))) refl))

  replaced_kept : (j : ℕ) (v : List ℕ) → length v ≡ 16 → Kept i (replaced j v i)
  unfolding replaced
  replaced_kept j v l = kept (fine_data h _ (wide_value i.data_rows j v l h.data_wide) (simp length-set h.data_fit)) refl

  stored_kept : (f : Found) (k x : ℕ) (v : List ℕ) → length v ≡ 16 → Kept i (stored f k x v i)
  stored_kept (Some j) k x v l = replaced_kept j v l
  stored_kept None k x v l = added_kept k x v l

  write_kept : (k x : ℕ) (v : List ℕ) → Kept i (write k x v i)
  unfolding write
  write_kept k x v =
      kept_if (leb clients k) (same _) (kept_if (leb cells x) (same _) (kept_else (not (eqb (length v) 16)) (same _) (λ e.
      kept_if (not (is_open i k)) (same _) (kept_if (not (eqb (stage_of i k) 0)) (same _)
      (stored_kept (find (is_own (number_of i k) x) 0 i.data_rows) k x v (eqb-true (length v) 16 (not-false (eqb (length v) 16) e)))))))

  removed_kept : (k : ℕ) → Wellformed (removed k i)
  unfolding removed
  removed_kept k =
      let p : Row → Bool = λ r. not (has_tag (number_of i k) r) in
      fine_clients (fine_data h (filter p i.data_rows) (filter_wide 24 p i.data_rows h.data_wide)
      (omega (arith, filter_fewer p i.data_rows, h.data_fit)))
      _ (tidy_closed h.tidy k)

  removed-fixed : (k : ℕ) → fixed (removed k i) ≡ fixed i
  unfolding removed
  removed-fixed k = refl

  abandon_kept : (k : ℕ) → Kept i (abandon k i)
  unfolding abandon
  abandon_kept k = kept_if (leb clients k) (same _) (kept_if (not (is_open i k)) (same _)
      (kept_if (leb 12 (stage_of i k)) (same _) (kept (removed_kept k) (removed-fixed k))))

  free_kept : Kept i (free i)
  unfolding free
  free_kept = kept h refl

  trim_kept : Kept i (trim i)
  unfolding trim trimmed_to trimmed_rows trimmed_commits
  trim_kept =
      let p : Row → Bool = stays (low i) i.data_rows i.commit_rows in
      let d : List Row = filter p i.data_rows in
      let q : Row → Bool = in_use d in
      let g = fine_data h d (filter_wide 24 p i.data_rows h.data_wide) (omega (arith, filter_fewer p i.data_rows, h.data_fit)) in
      kept (fine_commits g (filter q i.commit_rows) (filter_wide 8 q i.commit_rows h.commit_wide)
      (omega (arith, filter_fewer q i.commit_rows, h.commit_fit))) refl

-- ---- the steps of Advance: a claim about each step of the table

abbrev Keeps : (ℕ → Image → Outcome Progress) → Type 0
Keeps f = (k : ℕ) (i : Image) → Wellformed i → Kept i (f k i)

abbrev pub All : {A : Type 0} → (A → Type 0) → List A → Type 0
All Q [] = Unit {0}
All Q (a ∷ l) = Q a × All Q l

pub each_at : {A : Type 0} (Q : A → Type 0) (l : List A) (d : A) → All Q l → Q d → (n : ℕ) → Q (get_or l n d)
each_at Q [] d h g n = g
each_at Q (a ∷ l) d h g zero = h.0
each_at Q (a ∷ l) d h g (suc n) = each_at Q l d h.1 g n

go_on_kept : (g : ℕ) → g ≤ 13 → Keeps (go_on g)
unfolding go_on
go_on_kept g l k i h = kept (fine_clients h _ (tidy_stage h.tidy k g l)) refl

enter_kept : Keeps enter
unfolding enter finished
enter_kept k i h = kept_if (not (any (has_tag (number_of i k)) i.data_rows)) (kept (fine_clients h _ (tidy_closed h.tidy k)) refl)
    (go_on_kept 1 (omega arith) k i h)

take_request_kept : Keeps take_request
unfolding take_request go_on
take_request_kept k i h =
    kept_if (eqb i.counters.requested top) (kept h refl) (kept
    (fine_clients h _ (tidy_stage (tidy_request h.tidy k _) k 2 (omega arith))) refl)

-- after a look
looked_kept : (g : ℕ) → g ≤ 13 → (k w : ℕ) (i j : Image) → Wellformed j → fixed j ≡ fixed i → Kept i (looked g k w j)
unfolding looked go_on
looked_kept g l k w i j h e = kept_if (eqb w 0) (kept (fine_clients h _ (tidy_stage h.tidy k g l)) e) (kept h e)

list_requests_kept : Keeps list_requests
unfolding list_requests go_on
list_requests_kept k i h =
    kept (fine_clients h _ (tidy_stage (tidy_request_waits h.tidy k _
    (collect-lt (λ j. member (others request_queue k i) j && shares i.data_rows (number_of i k) (number_of i j)) clients)) k 4 (omega arith))) refl

look_requests_kept : Keeps look_requests
unfolding look_requests
look_requests_kept k i h =
    let w : ℕ = get_or i.clients.request_waits k 0 in
    let p : ℕ → Bool = λ j. struck request_queue (request_of i k) (stage_of i j) (request_of i j) in
    looked_kept 5 (omega arith) k (strike p w clients) i _ (fine_clients h _
    (tidy_request_waits h.tidy k _ (omega (arith, strike-le p w clients, h.tidy.request_waits.each k)))) refl

checked_kept : (c : Number) → Keeps (checked c)
checked_kept None k i h = go_on_kept 6 (omega arith) k i h
checked_kept (Some n) k i h = kept (removed_kept i h k) (removed-fixed i h k)

check_kept : Keeps check
unfolding check
check_kept k i h = checked_kept (conflict (number_of i k) (snapshot_of i k) i.data_rows i.commit_rows) k i h

take_commit_kept : Keeps take_commit
unfolding take_commit go_on
take_commit_kept k i h =
    kept_if (eqb i.counters.taken top) (kept h refl) (kept (fine_clients h _ (tidy_stage (tidy_commit h.tidy k _) k 8 (omega arith))) refl)

list_commits_kept : Keeps list_commits
unfolding list_commits go_on others
list_commits_kept k i h = kept (fine_clients h _ (tidy_stage (tidy_commit_waits h.tidy k _ (collect-lt _ clients)) k 10 (omega arith))) refl

look_commits_kept : Keeps look_commits
unfolding look_commits
look_commits_kept k i h =
    let w : ℕ = get_or i.clients.commit_waits k 0 in
    let p : ℕ → Bool = λ j. struck commit_queue (commit_number_of i k) (stage_of i j) (commit_number_of i j) in
    looked_kept 11 (omega arith) k (strike p w clients) i _ (fine_clients h _
    (tidy_commit_waits h.tidy k _ (omega (arith, strike-le p w clients, h.tidy.commit_waits.each k)))) refl

add_commit_kept : Keeps add_commit
unfolding add_commit go_on
add_commit_kept k i h =
    let r : Row = commit_row (commit_number_of i k) (number_of i k) in
    kept_else (leb i.rows (length i.commit_rows)) (kept h refl) (λ e.
    kept (fine_clients (fine_commits h (i.commit_rows ++ (r ∷ []))
    (wide_append 8 i.commit_rows (r ∷ []) h.commit_wide (length-commit_row (commit_number_of i k) (number_of i k), tt))
    (simp length-append (omega (arith, leb-false i.rows (length i.commit_rows) e)))) _ (tidy_stage h.tidy k 12 (omega arith))) refl)

leave_commits_kept : Keeps leave_commits
unfolding leave_commits go_on
leave_commits_kept k i h = kept (fine_clients h _ (tidy_stage (tidy_unlisted h.tidy k) k 13 (omega arith))) refl

leave_requests_kept : Keeps leave_requests
unfolding leave_requests finished
leave_requests_kept k i h = kept (fine_clients h _ (tidy_closed h.tidy k)) refl

steps_kept : All Keeps steps
steps_kept = (
  enter_kept,
  (
    take_request_kept,
    (
      go_on_kept 3 (omega arith),
      (
        list_requests_kept,
        (
          look_requests_kept,
          (
            check_kept,
            (
              go_on_kept 7 (omega arith),
              (
                take_commit_kept,
                (go_on_kept 9 (omega arith), (list_commits_kept, (look_commits_kept, (add_commit_kept, (leave_commits_kept, (leave_requests_kept, tt)))))),
              ),
            ),
          ),
        ),
      ),
    ),
  ),
)

advance_kept : Keeps advance
unfolding advance
advance_kept k i h =
    kept_if (leb clients k) (kept h refl) (kept_if (not (is_open i k)) (kept h refl)
    (each_at Keeps steps no_step steps_kept (λ k i h. kept h refl) (stage_of i k) k i h))

-- ---- every call

pub perform_kept : (q : Call) (i : Image) → Wellformed i → Kept i (perform q i)
perform_kept (Begin k) i h = begin_kept i h k
perform_kept (Read k x) i h = read_kept i h k x
perform_kept (Write k x v) i h = write_kept i h k x v
perform_kept (Advance k) i h = advance_kept k i h
perform_kept (Abandon k) i h = abandon_kept i h k
perform_kept Trim i h = trim_kept i h
perform_kept Free i h = free_kept i h

-- ---- set-up

pub zero_at : (n j : ℕ) → get_or {A = ℕ} (replicate n 0) j 0 ≡ 0
zero_at zero j = refl
zero_at (suc n) zero = refl
zero_at (suc n) (suc j) = zero_at n j

array_zeros : (P : ℕ → Type 0) → P 0 → Array P zeros
array_zeros P h = record { size = refl; each = λ j. rw (zero_at clients j) h }

pub length_none : length no_versions ≡ cells
unfolding no_versions
length_none = length-replicate {A = ℕ} cells 0

pub empty_fine : (r l w : ℕ) → 1 ≤ r → r ≤ 1024 → Wellformed (empty r l w)
unfolding empty
empty_fine r l w h g = record {
  some = h;
  most = g;
  tidy = record {
    stage = array_zeros Known (omega arith);
    number = array_zeros Any tt;
    snapshot = array_zeros Any tt;
    request = array_zeros Any tt;
    commit = array_zeros Any tt;
    request_waits = array_zeros Few (omega arith);
    commit_waits = array_zeros Few (omega arith);
  };
  data_wide = tt;
  commit_wide = tt;
  data_fit = omega arith;
  commit_fit = omega arith;
  table = length_none;
}
