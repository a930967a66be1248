-- The calls on an image: what each leaves and answers (document 01, "A transaction" and "Refusal by operation"). Tests stand in the order
-- in which document 01 gives the refusals, and a refused call leaves the image as it is. Refusal 2 for an unfit store comes before all of
-- these, in Bytes.antt; a Read is also unfit for its version table. Client k, cell x, value v. The steps of Advance are in Steps.antt.
-- Assumes nothing.
use Rattle.spec.specs.Answers.{Reading}
use Rattle.std.specs.Prelude.{ℕ, zero, suc, ◌+◌, ◌-◌, not, List, [], ◌∷◌, ◌++◌, length, get_or, set, leb, ltb, eqb, None, Some}
use Rattle.std.specs.Prelude.{if◌then◌else◌}
use Rattle.spec.specs.Set.{clients}
use Rattle.spec.specs.Rows.{cells, Row, data_row, with_value, filter, has_tag}
use Rattle.spec.specs.Numbers.{top, smallest, Number}
use Rattle.spec.specs.Look.{is_own, find, look_from, look_for, versions_after, Found, Lookup}
use Rattle.spec.specs.Share.{cells_of}
use Rattle.spec.specs.Trim.{trimmed_rows, trimmed_commits}
use Rattle.spec.specs.declared.Begun.{Begun}
use Rattle.spec.specs.Answers.{
  Answer,
  Answered,
  Refused,
  unfit,
  no_client,
  no_cell,
  already_open,
  not_open,
  wrong_stage,
  numbers_used_up,
  cell_limit,
  no_free_row,
  wrong_length,
}
use Rattle.spec.specs.Image.{Image, with_clients, with_rows, with_versions, with_issued, opened, closed, stage_of, number_of, snapshot_of, is_open}
use Rattle.spec.specs.Image.{entry_for}

-- what a call makes of an image
pub record Outcome (A : Type 0) : Type 0 where
  pub image : Image
  pub answer : Answer A

abbrev pub replies : {A : Type 0} → Image → A → Outcome A
replies i a = record { image = i; answer = Answered a }

abbrev pub refuse : {A : Type 0} → ℕ → Image → Outcome A
refuse n i = record { image = i; answer = Refused n }

-- ---- "Free figure: rows of the store less data rows in use."

abbrev pub free_rows : Image → ℕ
free_rows i = i.rows - length i.data_rows

abbrev pub replies_free : Image → Outcome ℕ
replies_free i = replies i (free_rows i)

unfoldable pub free : Image → Outcome ℕ
free i = replies_free i

-- ---- "Begin takes the next W and a snapshot S, the last commit number." "Begin: [..] 3 client above 31, 5 already open, 8 if W 4,294,967,295 has
-- been issued." Document 02, 12: "refusal 3 begins at 64".

unfoldable pub begun : ℕ → Image → Outcome Begun
begun k i =
    let n : ℕ = i.counters.issued + 1 in
    let s : ℕ = i.counters.last in
    replies (with_issued (with_clients i (opened k n s i.clients)) n) (record { number = n; snapshot = s })

unfoldable pub begin : ℕ → Image → Outcome Begun
begin k i =
    if leb clients k then refuse no_client i else
    if is_open i k then refuse already_open i else
    if eqb i.counters.issued top then refuse numbers_used_up i else
    begun k i

-- ---- "Read looks for a data row with the reader's tag and that cell; failing that, for the row of that cell whose tag is committed with the
-- largest commit number not above S; failing that it answers Unwritten." "Read: 2, 3, 4 cell above 1,023, 6 nothing open", and document 02, 1:
-- "Read now answers at stages 1 to 11 with the same snapshot and the transaction's own writes; stages 12 and 13 still give 7." Document 02, 3: it looks
-- by the version table, where what it finds is noted; the table is a lent buffer, unfit (2) where it has not "one entry for each of the 1,024 cells".

abbrev pub reading : Lookup → Reading
reading (Some f) = Some f.at
reading None = None

-- the row that client k finds for cell x; and "the full look", at all commits up to S, whatever the cell's entry
abbrev pub look_of : ℕ → ℕ → Image → Lookup
look_of k x i = look_from (entry_for i x) (number_of i k) x (snapshot_of i k) i.data_rows i.commit_rows

abbrev pub full_look : ℕ → ℕ → Image → Lookup
full_look k x i = look_for (number_of i k) x (snapshot_of i k) i.data_rows i.commit_rows

abbrev pub replies_found : ℕ → Lookup → Image → Outcome Reading
replies_found x l i = replies (with_versions i (versions_after x l i.versions)) (reading l)

unfoldable pub read : ℕ → ℕ → Image → Outcome Reading
read k x i =
    if not (eqb (length i.versions) cells) then refuse unfit i else
    if leb clients k then refuse no_client i else
    if leb cells x then refuse no_cell i else
    if not (is_open i k) then refuse not_open i else
    if ltb 11 (stage_of i k) then refuse wrong_stage i else
    replies_found x (look_of k x i) i

-- ---- "Where one client's transaction wrote a cell twice, the second write replaces the value in its row." "In each buffer new rows go in
-- directly behind the last one in use." "Write: 2, 3, 4, 12 value not 16 bytes, 6, 7; then, if it has no row for that cell yet, 9 cell limit
-- reached, 10 no free row." It answers the free figure.

unfoldable pub replaced : ℕ → List ℕ → Image → Outcome ℕ
replaced j v i = replies_free (with_rows i (set i.data_rows j (with_value v (get_or i.data_rows j []))) i.commit_rows)

unfoldable pub added : ℕ → ℕ → List ℕ → Image → Outcome ℕ
added k x v i =
    if leb i.limit (cells_of (number_of i k) i.data_rows) then refuse cell_limit i else
    if leb i.rows (length i.data_rows) then refuse no_free_row i else
    replies_free (with_rows i (i.data_rows ++ (data_row (number_of i k) x v ∷ [])) i.commit_rows)

abbrev pub stored : Found → ℕ → ℕ → List ℕ → Image → Outcome ℕ
stored (Some j) k x v i = replaced j v i
stored None k x v i = added k x v i

unfoldable pub write : ℕ → ℕ → List ℕ → Image → Outcome ℕ
write k x v i =
    if leb clients k then refuse no_client i else
    if leb cells x then refuse no_cell i else
    if not (eqb (length v) 16) then refuse wrong_length i else
    if not (is_open i k) then refuse not_open i else
    if not (eqb (stage_of i k) 0) then refuse wrong_stage i else
    stored (find (is_own (number_of i k) x) 0 i.data_rows) k x v i

-- ---- "Abandon removes the transaction's data rows and queue rows in one step." "Abandon: 2, 3, 6, 7 at stages 12 and 13." It answers the free
-- figure.

unfoldable pub removed : ℕ → Image → Image
removed k i = with_clients (with_rows i (filter (λ r. not (has_tag (number_of i k) r)) i.data_rows) i.commit_rows) (closed k i.clients)

unfoldable pub abandon : ℕ → Image → Outcome ℕ
abandon k i =
    if leb clients k then refuse no_client i else
    if not (is_open i k) then refuse not_open i else
    if leb 12 (stage_of i k) then refuse wrong_stage i else
    replies_free (removed k i)

-- ---- "Trim: low is the smallest S of open transactions, or the last commit number if none is open."

-- the snapshots that somebody reads at: those of the clients below m with an open transaction
unfoldable pub readers : Image → ℕ → List Number
readers i zero = []
readers i (suc k) = (if is_open i k then Some (snapshot_of i k) else None) ∷ readers i k

abbrev pub or_number : Number → ℕ → ℕ
or_number (Some n) z = n
or_number None z = z

unfoldable pub low : Image → ℕ
low i = or_number (smallest (readers i clients)) i.counters.last

-- "A committed data row goes if its cell has another with a larger commit number that is at most low. Committed rows with no data row left
-- go too. It answers how many data rows went."
unfoldable pub trimmed_to : List Row → Image → Outcome ℕ
trimmed_to d i = replies (with_rows i d (trimmed_commits d i.commit_rows)) (length i.data_rows - length d)

unfoldable pub trim : Image → Outcome ℕ
trim i = trimmed_to (trimmed_rows (low i) i.data_rows i.commit_rows) i
