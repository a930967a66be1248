-- A refused call gets one of the numbers that document 01 lists for it ("Refusal by operation"), whatever the record and the bytes: each call is
-- walked through its tests once, and each test refuses with a number of the list.
-- Assumes nothing.
use Prim.Native.Nat.{ℕ}
use mathlib.Core.Path.{◌≡◌, refl, sym, ◌∙◌, subst}
use mathlib.Core.Logic.{◌≢◌}
use mathlib.Core.Bool.{Bool, true, false, not, false≢true}
use mathlib.Core.List.Memᴰ.{head as here}
use mathlib.Core.List.Memᴰ.{tail as there}
use mathlib.Core.List.{List, [], ◌∷◌, Memᴰ as In}
use borrow.Author.Tests.{eqb-true, eq-eqb}
use lib.ListN.{length}
use lib.Dec.{leb, ltb, eqb}
use Rattle.std.specs.Prelude.{if◌then◌else◌, None, Some}
use Rattle.spec.specs.Set.{clients}
use Rattle.spec.specs.Rows.{has_tag, cells}
use Rattle.spec.specs.Look.{is_own, find, Found}
use Rattle.spec.specs.Share.{any, cells_of, conflict}
use Rattle.spec.specs.declared.Progress.{Progress}
use Rattle.spec.specs.Image.{Image, number_of, snapshot_of, stage_of, is_open}
use Rattle.spec.specs.Calls.{Outcome, replies, refuse, free, begun, begin, read, replaced, added, stored, write, abandon, trimmed_to, trim}
use Rattle.spec.specs.Numbers.{top, Number}
use Rattle.spec.specs.Steps.{go_on, finished, enter, take_request, list_requests, looked, look_requests, checked, check, take_commit}
use Rattle.spec.specs.Steps.{list_commits, look_commits, add_commit, leave_commits, leave_requests, steps, no_step, advance}
use Rattle.spec.specs.Answers.{Answer, Refused}
use Rattle.spec.specs.Bytes.{decode, After, encode, fits, on_bytes, Memory}
use Rattle.spec.specs.Run.{Call, Begin, Read, Write, Advance, Abandon, Trim, Free, Result, refusals, Listed, perform, step}
use Rattle.spec.specs.Right.{AllListed}
use Rattle.history.proofs.Lists.{in_nil, in_case}
use Rattle.history.proofs.Wellformed.{All, each_at}

-- ---- a number of a list, by a test that is computed

abbrev among : ℕ → List ℕ → Bool
among n [] = false
among n (m ∷ l) = if eqb n m then true else among n l

in_step : (n m : ℕ) (l : List ℕ) (b : Bool) → eqb n m ≡ b → (among n l ≡ true → In n l) → (if b then true else among n l) ≡ true → In n (m ∷ l)
in_step n m l true f g e = here (eqb-true n m f)
in_step n m l false f g e = there (g e)

in_list : (n : ℕ) (l : List ℕ) → among n l ≡ true → In n l
in_list n [] e = absurd (false≢true e)
in_list n (m ∷ l) e = in_step n m l (eqb n m) refl (λ f. in_list n l f) e

-- ---- an outcome that refuses with a number of the list l, if it refuses

record Lists {A : Type 0} (l : List ℕ) (o : Outcome A) : Type 0 where
  listed : Listed l o.answer

module _ {A : Type 0} {l : List ℕ} where
  answers : (i : Image) (a : A) → Lists l (replies i a)
  answers i a = record { listed = tt }

  refuses : (n : ℕ) (i : Image) → among n l ≡ true → Lists {A = A} l (refuse n i)
  refuses n i e = record { listed = in_list n l e }

  test : (b : Bool) {x y : Outcome A} → Lists l x → Lists l y → Lists l (if b then x else y)
  test true p q = p
  test false p q = q

-- ---- the calls

begin_listed : (k : ℕ) (i : Image) → Lists (refusals (Begin k)) (begin k i)
unfolding begin begun
begin_listed k i =
    test (leb clients k) (refuses 3 i refl) (test (is_open i k) (refuses 5 i refl)
    (test (eqb i.counters.issued top) (refuses 8 i refl) (answers _ _)))

read_listed : (k x : ℕ) (i : Image) → Lists (refusals (Read k x)) (read k x i)
unfolding read
read_listed k x i =
    test (not (eqb (length i.versions) cells)) (refuses 2 i refl) (test (leb clients k) (refuses 3 i refl) (test (leb cells x) (refuses 4 i refl)
    (test (not (is_open i k)) (refuses 6 i refl) (test (ltb 11 (stage_of i k)) (refuses 7 i refl) (answers _ _)))))

stored_listed : (f : Found) (k x : ℕ) (v : List ℕ) (i : Image) → Lists (refusals (Write k x v)) (stored f k x v i)
unfolding replaced added
stored_listed (Some j) k x v i = answers _ _
stored_listed None k x v i =
    test (leb i.limit (cells_of (number_of i k) i.data_rows)) (refuses 9 i refl)
    (test (leb i.rows (length i.data_rows)) (refuses 10 i refl) (answers _ _))

write_listed : (k x : ℕ) (v : List ℕ) (i : Image) → Lists (refusals (Write k x v)) (write k x v i)
unfolding write
write_listed k x v i =
    test (leb clients k) (refuses 3 i refl) (test (leb cells x) (refuses 4 i refl) (test (not (eqb (length v) 16)) (refuses 12 i refl)
    (test (not (is_open i k)) (refuses 6 i refl) (test (not (eqb (stage_of i k) 0)) (refuses 7 i refl)
    (stored_listed (find (is_own (number_of i k) x) 0 i.data_rows) k x v i)))))

abandon_listed : (k : ℕ) (i : Image) → Lists (refusals (Abandon k)) (abandon k i)
unfolding abandon
abandon_listed k i =
    test (leb clients k) (refuses 3 i refl) (test (not (is_open i k)) (refuses 6 i refl)
    (test (leb 12 (stage_of i k)) (refuses 7 i refl) (answers _ _)))

-- ---- the steps of Advance: 2 where there is no number or no row left, and no other refusal

abbrev Step : (ℕ → Image → Outcome Progress) → Type 0
Step f = (k : ℕ) (i : Image) → Lists (refusals (Advance k)) (f k i)

looked_listed : (g w k : ℕ) (i : Image) → Lists (refusals (Advance k)) (looked g k w i)
unfolding looked go_on
looked_listed g w k i = test (eqb w 0) (answers _ _) (answers _ _)

go_on_listed : (g : ℕ) → Step (go_on g)
unfolding go_on
go_on_listed g k i = answers _ _

enter_listed : Step enter
unfolding enter finished go_on
enter_listed k i = test (not (any (has_tag (number_of i k)) i.data_rows)) (answers _ _) (answers _ _)

take_request_listed : Step take_request
unfolding take_request go_on
take_request_listed k i = test (eqb i.counters.requested top) (refuses 2 i refl) (answers _ _)

list_requests_listed : Step list_requests
unfolding list_requests go_on
list_requests_listed k i = answers _ _

look_requests_listed : Step look_requests
unfolding look_requests
look_requests_listed k i = looked_listed 5 _ k _

checked_listed : (c : Number) → Step (checked c)
checked_listed None k i = go_on_listed 6 k i
checked_listed (Some n) k i = answers _ _

check_listed : Step check
unfolding check
check_listed k i = checked_listed (conflict (number_of i k) (snapshot_of i k) i.data_rows i.commit_rows) k i

take_commit_listed : Step take_commit
unfolding take_commit go_on
take_commit_listed k i = test (eqb i.counters.taken top) (refuses 2 i refl) (answers _ _)

list_commits_listed : Step list_commits
unfolding list_commits go_on
list_commits_listed k i = answers _ _

look_commits_listed : Step look_commits
unfolding look_commits
look_commits_listed k i = looked_listed 11 _ k _

add_commit_listed : Step add_commit
unfolding add_commit go_on
add_commit_listed k i = test (leb i.rows (length i.commit_rows)) (refuses 2 i refl) (answers _ _)

leave_commits_listed : Step leave_commits
unfolding leave_commits go_on
leave_commits_listed k i = answers _ _

leave_requests_listed : Step leave_requests
unfolding leave_requests finished
leave_requests_listed k i = answers _ _

no_step_listed : Step no_step
no_step_listed k i = refuses 2 i refl

steps_listed : All Step steps
steps_listed = (
  enter_listed,
  (
    take_request_listed,
    (
      go_on_listed 3,
      (
        list_requests_listed,
        (
          look_requests_listed,
          (
            check_listed,
            (
              go_on_listed 7,
              (
                take_commit_listed,
                (go_on_listed 9, (list_commits_listed, (look_commits_listed, (add_commit_listed, (leave_commits_listed, (leave_requests_listed, tt)))))),
              ),
            ),
          ),
        ),
      ),
    ),
  ),
)

advance_listed : Step advance
unfolding advance
advance_listed k i =
    test (leb clients k) (refuses 3 i refl) (test (not (is_open i k)) (refuses 6 i refl)
    (each_at Step steps no_step steps_listed no_step_listed (stage_of i k) k i))

-- ---- every call, on an image and on any record and bytes

perform_listed : (q : Call) (i : Image) → Lists (refusals q) (perform q i)
unfolding free trim trimmed_to
perform_listed (Begin k) i = begin_listed k i
perform_listed (Read k x) i = read_listed k x i
perform_listed (Write k x v) i = write_listed k x v i
perform_listed (Advance k) i = advance_listed k i
perform_listed (Abandon k) i = abandon_listed k i
perform_listed Trim i = answers _ _
perform_listed Free i = answers _ _

-- 2 comes first in every list
unfit_listed : (q : Call) → In 2 (refusals q)
unfit_listed (Begin k) = here refl
unfit_listed (Read k x) = here refl
unfit_listed (Write k x v) = here refl
unfit_listed (Advance k) = here refl
unfit_listed (Abandon k) = here refl
unfit_listed Trim = here refl
unfit_listed Free = here refl

listed_if : {A : Type 0} (l : List ℕ) (b : Bool) (x y : After A) → Listed l x.answer → Listed l y.answer
    → Listed l (if b then x else y).answer
listed_if l true x y p q = p
listed_if l false x y p q = q

refused_by_number : (q : Call) (m : Memory) → Listed (refusals q) (step q m).answer
unfolding on_bytes encode
refused_by_number q m =
    listed_if (refusals q) (fits m.store (length m.data_bytes) (length m.commit_bytes)) _ _
    (perform_listed q (decode m.store m.data_bytes m.commit_bytes m.versions)).listed (unfit_listed q)

pub all_listed : (qs : List Call) (m : Memory) → AllListed m qs
all_listed [] m = tt
all_listed (q ∷ qs) m = (refused_by_number q m, all_listed qs (step q m).memory)

-- ---- document 02, 2: "Refusal 11 never occurs any more": on no record and no bytes

or_true : (b : Bool) → (if b then true else true) ≡ true
or_true true = refl
or_true false = refl

list_in : (n : ℕ) (l : List ℕ) → In n l → among n l ≡ true
list_in n [] i = absurd (in_nil i)
list_in n (m ∷ l) i = in_case i (λ e. rw (eq-eqb n m e)) (λ j. rw (list_in n l j) (or_true (eqb n m)))

no_11 : (q : Call) → among 11 (refusals q) ≡ false
no_11 (Begin k) = refl
no_11 (Read k x) = refl
no_11 (Write k x v) = refl
no_11 (Advance k) = refl
no_11 (Abandon k) = refl
no_11 Trim = refl
no_11 Free = refl

pub never_11 : (q : Call) (m : Memory) → (step q m).answer ≢ Refused 11
never_11 q m e =
    let i : In 11 (refusals q) = subst (λ (a : Answer (Result q)). Listed (refusals q) a) e (refused_by_number q m) in
    false≢true (sym (no_11 q) ∙ list_in 11 (refusals q) i)
