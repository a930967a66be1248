-- A refused call changes no byte, no record and no version table, whatever they were (`unchanged`): document 01, "A refused call changes nothing",
-- said of the plain table, is so of the store. Each call is walked through its tests once: where it refuses, it leaves the image that it found,
-- and an image laid out in its own place changes nothing.
-- A refused set-up keeps both buffers' bytes, and every call on what it hands back gets 2 (`set_up_refused`).
-- Assumes nothing.
use Prim.Native.Nat.{ℕ, ◌/◌}
use mathlib.Core.Path.{◌≡◌, refl, sym, ap}
use mathlib.Core.Bool.{Bool, true, false, not}
use mathlib.Core.List.{List, [], ◌∷◌}
use native.Mathlib.Omega.{arith}
use lib.ListN.{length}
use lib.Dec.{leb, eqb}
use Rattle.std.specs.Prelude.{if◌then◌else◌, None, Some}
use Rattle.spec.specs.Set.{clients}
use Rattle.spec.specs.Rows.{has_tag, cells}
use Rattle.spec.specs.declared.Progress.{Progress}
use Rattle.spec.specs.declared.Store.{Store}
use Rattle.spec.specs.Look.{is_own, find, Found}
use Rattle.spec.specs.Share.{any, cells_of, conflict}
use Rattle.spec.specs.Answers.{Answered, Refused, Reading}
use Rattle.spec.specs.Image.{Image, stage_of, number_of, snapshot_of, is_open}
use Rattle.spec.specs.Calls.{Outcome, replies, refuse, free, begun, begin, read, replaced, added, stored, write, abandon, trimmed_to, trim}
use Rattle.spec.specs.Numbers.{top, Number}
use Rattle.spec.specs.Steps.{go_on, finished, enter, take_request, list_requests, looked, look_requests, checked, check, take_commit}
use Rattle.spec.specs.Steps.{list_commits, look_commits, add_commit, leave_commits, leave_requests, steps, no_step, advance}
use Rattle.spec.specs.Bytes.{decode, Memory, After, after_of, encode, fits, on_bytes, accepts, set_up}
use Rattle.spec.specs.Run.{Call, Begin, Read, Write, Advance, Abandon, Trim, Free, Result, perform, step}
use Rattle.spec.proofs.Ends.{image-stays}
use Rattle.demands.specs.OneCall.{Unchanged, SetUpRefused}
use Rattle.history.proofs.Wellformed.{All, each_at, ReadEnds, refused, found, read_ends}
use Rattle.history.proofs.Bridge.{refused_call}

-- ---- an outcome that leaves the image i, if it refuses

record Quiet {A : Type 0} (i : Image) (o : Outcome A) : Type 0 where
  same : (n : ℕ) → o.answer ≡ Refused n → o.image ≡ i

module _ {A : Type 0} (i : Image) where
  answers : (j : Image) (a : A) → Quiet i (replies j a)
  answers j a = record { same = λ n e. cc }

  refuses : (n : ℕ) → Quiet {A = A} i (refuse n i)
  refuses n = record { same = λ m e. refl }

  test : (b : Bool) {x y : Outcome A} → Quiet i x → Quiet i y → Quiet i (if b then x else y)
  test true p q = p
  test false p q = q

-- ---- the calls

begin_quiet : (k : ℕ) (i : Image) → Quiet i (begin k i)
unfolding begin begun
begin_quiet k i =
    test i (leb clients k) (refuses i _) (test i (is_open i k) (refuses i _) (test i (eqb i.counters.issued top) (refuses i _) (answers i _ _)))

read_quiet : (k x : ℕ) (i : Image) → Quiet i (read k x i)
read_quiet k x i = go (read_ends k x i)
  where
    go : {o : Outcome Reading} → ReadEnds k x i o → Quiet i o
    go (refused n) = refuses i n
    go (found e) = answers i _ _

stored_quiet : (f : Found) (k x : ℕ) (v : List ℕ) (i : Image) → Quiet i (stored f k x v i)
unfolding replaced added
stored_quiet (Some j) k x v i = answers i _ _
stored_quiet None k x v i =
    test i (leb i.limit (cells_of (number_of i k) i.data_rows)) (refuses i _)
    (test i (leb i.rows (length i.data_rows)) (refuses i _) (answers i _ _))

write_quiet : (k x : ℕ) (v : List ℕ) (i : Image) → Quiet i (write k x v i)
unfolding write
write_quiet k x v i =
    test i (leb clients k) (refuses i _) (test i (leb cells x) (refuses i _) (test i (not (eqb (length v) 16)) (refuses i _)
    (test i (not (is_open i k)) (refuses i _) (test i (not (eqb (stage_of i k) 0)) (refuses i _)
    (stored_quiet (find (is_own (number_of i k) x) 0 i.data_rows) k x v i)))))

abandon_quiet : (k : ℕ) (i : Image) → Quiet i (abandon k i)
unfolding abandon
abandon_quiet k i =
    test i (leb clients k) (refuses i _) (test i (not (is_open i k)) (refuses i _) (test i (leb 12 (stage_of i k)) (refuses i _) (answers i _ _)))

-- ---- the steps of Advance

abbrev Step : (ℕ → Image → Outcome Progress) → Type 0
Step f = (k : ℕ) (i : Image) → Quiet i (f k i)

go_on_quiet : (g : ℕ) → Step (go_on g)
unfolding go_on
go_on_quiet g k i = answers i _ _

looked_quiet : (g w k : ℕ) (i j : Image) → Quiet i (looked g k w j)
unfolding looked go_on
looked_quiet g w k i j = test i (eqb w 0) (answers i _ _) (answers i _ _)

enter_quiet : Step enter
unfolding enter finished go_on
enter_quiet k i = test i (not (any (has_tag (number_of i k)) i.data_rows)) (answers i _ _) (answers i _ _)

take_request_quiet : Step take_request
unfolding take_request go_on
take_request_quiet k i = test i (eqb i.counters.requested top) (refuses i _) (answers i _ _)

list_requests_quiet : Step list_requests
unfolding list_requests go_on
list_requests_quiet k i = answers i _ _

look_requests_quiet : Step look_requests
unfolding look_requests
look_requests_quiet k i = looked_quiet 5 _ k i _

checked_quiet : (c : Number) → Step (checked c)
checked_quiet None k i = go_on_quiet 6 k i
checked_quiet (Some n) k i = answers i _ _

check_quiet : Step check
unfolding check
check_quiet k i = checked_quiet (conflict (number_of i k) (snapshot_of i k) i.data_rows i.commit_rows) k i

take_commit_quiet : Step take_commit
unfolding take_commit go_on
take_commit_quiet k i = test i (eqb i.counters.taken top) (refuses i _) (answers i _ _)

list_commits_quiet : Step list_commits
unfolding list_commits go_on
list_commits_quiet k i = answers i _ _

look_commits_quiet : Step look_commits
unfolding look_commits
look_commits_quiet k i = looked_quiet 11 _ k i _

add_commit_quiet : Step add_commit
unfolding add_commit go_on
add_commit_quiet k i = test i (leb i.rows (length i.commit_rows)) (refuses i _) (answers i _ _)

leave_commits_quiet : Step leave_commits
unfolding leave_commits go_on
leave_commits_quiet k i = answers i _ _

leave_requests_quiet : Step leave_requests
unfolding leave_requests finished
leave_requests_quiet k i = answers i _ _

no_step_quiet : Step no_step
no_step_quiet k i = refuses i _

steps_quiet : All Step steps
steps_quiet =
    let late : All Step (look_commits ∷ add_commit ∷ leave_commits ∷ leave_requests ∷ []) =
    (look_commits_quiet, (add_commit_quiet, (leave_commits_quiet, (leave_requests_quiet, tt)))) in
    let half : All Step (go_on 7 ∷ take_commit ∷ go_on 9 ∷ list_commits ∷ look_commits ∷ add_commit ∷ leave_commits ∷ leave_requests ∷ []) =
    (go_on_quiet 7, (take_commit_quiet, (go_on_quiet 9, (list_commits_quiet, late)))) in
    (enter_quiet, (take_request_quiet, (go_on_quiet 3, (list_requests_quiet, (look_requests_quiet, (check_quiet, half))))))

advance_quiet : Step advance
unfolding advance
advance_quiet k i =
    test i (leb clients k) (refuses i _) (test i (not (is_open i k)) (refuses i _)
    (each_at Step steps no_step steps_quiet no_step_quiet (stage_of i k) k i))

-- ---- every call, on an image and on any record and bytes

perform_quiet : (q : Call) (i : Image) → Quiet i (perform q i)
unfolding free trim trimmed_to
perform_quiet (Begin k) i = begin_quiet k i
perform_quiet (Read k x) i = read_quiet k x i
perform_quiet (Write k x v) i = write_quiet k x v i
perform_quiet (Advance k) i = advance_quiet k i
perform_quiet (Abandon k) i = abandon_quiet k i
perform_quiet Trim i = answers i _ _
perform_quiet Free i = answers i _ _

-- an outcome with the image that a record, two buffers and a version table show leaves them as they are
pub encode_same : {A : Type 0} (s : Store) (d c v : List ℕ) (o : Outcome A) → o.image ≡ decode s d c v
    → encode s d c o ≡ after_of s d c v o.answer
encode_same s d c v o e = sym (image-stays s d c v o o.answer (ap (λ (j : Image). record { image = j; answer = o.answer }) e))

-- a call that is refused, with whatever number, leaves the record, each byte of both buffers and each entry of the version table as they were
pub unchanged : (q : Call) (m : Memory) → Unchanged q m
unfolding on_bytes encode
unchanged q m n = go (fits m.store (length m.data_bytes) (length m.commit_bytes)) refl
  where
    i : Image
    i = decode m.store m.data_bytes m.commit_bytes m.versions

    go : (b : Bool) → fits m.store (length m.data_bytes) (length m.commit_bytes) ≡ b → (step q m).answer ≡ Refused n → (step q m).memory ≡ m
    go true f e =
        rw f (ap (λ (a : After (Result q)). a.memory)
        (encode_same m.store m.data_bytes m.commit_bytes m.versions (perform q i) ((perform_quiet q i).same n (rw f at e))))
    go false f e = rw f

-- ---- set-up

pub set_up_refused : (d c : List ℕ) (w l n : ℕ) → (set_up d c w l).answer ≡ Refused n → SetUpRefused d c (set_up d c w l)
unfolding set_up
set_up_refused d c w l n = go (accepts (length d) (length c) w l) refl
  where
    go : (b : Bool) → accepts (length d) (length c) w l ≡ b → (set_up d c w l).answer ≡ Refused n → SetUpRefused d c (set_up d c w l)
    go true f e =
        let g : Answered (length d / 24) ≡ Refused n = rw f at e in
        let z : ◌≡◌ {A = ℕ} 0 1 = cc in
        absurd (omega arith)
    go false f e = rw f (record {
      number = refl;
      data_kept = refl;
      commit_kept = refl;
      all_zero = refl;
      new_table = refl;
      gets_two = λ q. ap (λ (a : After (Result q)). a.answer) (refused_call d c q);
      changes_nothing = λ q. ap (λ (a : After (Result q)). a.memory) (refused_call d c q);
    })
