-- A device of the proofs, not something to believe: the store with its rows as records, its clients as a function and its waiting lists as
-- tests, and the ways in which a call may change it. There is no second account of the calls: an image is seen as such a state (View.antt), and
-- each call on the image is shown to be one of the changes below (Transition.antt names them, with the tests that the call has passed).
-- The searches are decisions (`Dec`), so that the proofs receive the facts themselves.
-- Assumes nothing.
use Prim.Native.Nat.{ℕ, zero, suc, ◌-◌, min, ◌≤◌, ◌<◌}
use mathlib.Core.Path.{◌≡◌}
use mathlib.Core.Logic.Dec
use mathlib.Core.Logic.{ite}
use mathlib.Core.Bool.{Bool, false}
use mathlib.Core.List.{List, [], ◌∷◌, ◌++◌, Memᴰ as In}
use mathlib.Core.Option.{Option, none, some, IsSome}
use native.Mathlib.Decide.{ℕ_discrete, dec_le, dec_lt}
use lib.ListN.{length}
use Rattle.spec.specs.Set.{clients}
use Rattle.spec.specs.declared.Begun.{Begun}
use Rattle.spec.specs.declared.Progress.{Progress}
use Rattle.spec.specs.declared.Progress.TheVariants.{Stage, Waiting, Conflict}
use Rattle.spec.specs.Answers.{Answer, Answered}
use Rattle.spec.specs.Table.{Value, Values, or_else}
use Rattle.spec.specs.Right.{Bounds}
use Rattle.history.proofs.Lists.{On, on?, any?, drop?, first, best}
use Rattle.history.proofs.Tickets.{listing, clear, list_size}

-- ---- rows

pub record DRow : Type 0 where
  pub tag : ℕ
  pub cell : ℕ
  pub value : Value

pub record CRow : Type 0 where
  pub number : ℕ
  pub tag : ℕ

-- the value that transaction t wrote to cell x, by the rows
unfoldable pub value_atₛ : ℕ → ℕ → DRow → Option Value
value_atₛ t x r = ite (ℕ_discrete r.tag t) (ite (ℕ_discrete r.cell x) (some r.value) none) none

unfoldable pub findₛ : ℕ → ℕ → List DRow → Option Value
findₛ t x d = first (value_atₛ t x) d

-- the number under which tag t is committed
unfoldable pub number_at : ℕ → CRow → Option ℕ
number_at t c = ite (ℕ_discrete c.tag t) (some c.number) none

unfoldable pub num_of : ℕ → List CRow → Option ℕ
num_of t c = first (number_at t) c

unfoldable pub sift : {P : ℕ → Type 0} → ((n : ℕ) → Dec (P n)) → Option ℕ → Option ℕ
sift d none = none
sift d (some n) = ite (d n) (some n) none

unfoldable pub some? : {A : Type 0} (o : Option A) → Dec (IsSome o)
some? none = no (λ x. x)
some? (some a) = yes tt

-- the write of a row in its place
unfoldable pub replace : ℕ → ℕ → Value → List DRow → List DRow
replace t x v [] = []
replace t x v (r ∷ l) = ite (some? (value_atₛ t x r)) (record { tag = r.tag; cell = r.cell; value = v } ∷ l) (r ∷ replace t x v l)

-- ---- clients and states

pub record Client : Type 0 where
  pub number : ℕ
  pub stage : ℕ
  pub snapshot : ℕ
  pub request : ℕ
  pub commit : ℕ
  pub rwait : ℕ → Bool
  pub cwait : ℕ → Bool

unfoldable pub closedₛ : Client
closedₛ = record { number = 0; stage = 0; snapshot = 0; request = 0; commit = 0; rwait = λ _. false; cwait = λ _. false }

pub record State : Type 0 where
  pub bounds : Bounds
  pub W : ℕ
  pub R : ℕ
  pub C : ℕ
  pub last : ℕ
  pub dat : List DRow
  pub comm : List CRow
  pub cl : ℕ → Client

-- client a becomes c, and every other is touched by f
unfoldable pub putₛ : ℕ → Client → (Client → Client) → (ℕ → Client) → ℕ → Client
putₛ a c f cl b = ite (ℕ_discrete b a) c (f (cl b))

-- what leaving a queue does to the others
abbrev pub same : Client → Client
same c = c

abbrev pub clear_c : ℕ → Client → Client
clear_c a c = record {
  number = c.number;
  stage = c.stage;
  snapshot = c.snapshot;
  request = c.request;
  commit = c.commit;
  rwait = c.rwait;
  cwait = clear a c.cwait;
}

abbrev pub clear_both : ℕ → Client → Client
clear_both a c = record {
  number = c.number;
  stage = c.stage;
  snapshot = c.snapshot;
  request = c.request;
  commit = c.commit;
  rwait = clear a c.rwait;
  cwait = clear a c.cwait;
}

-- the phase in each queue, by the stage
unfoldable pub rphase : ℕ → ℕ
rphase k = min k 5

unfoldable pub cphase : ℕ → ℕ
cphase k = ite (dec_le 13 k) 0 (min (k - 6) 5)

abbrev pub rph : State → ℕ → ℕ
rph s b = rphase (s.cl b).stage

abbrev pub cph : State → ℕ → ℕ
cph s b = cphase (s.cl b).stage

-- what client a's transaction wrote, by the rows
abbrev pub writes_of : State → ℕ → Values
writes_of s a x = findₛ (s.cl a).number x s.dat

-- ---- searches

-- two transactions wrote one cell
unfoldable pub sharing? : (d : List DRow) (t u : ℕ) → Dec ((r : DRow) × In r d × ((r.tag ≡ t) × IsSome (findₛ u r.cell d)))
sharing? d t u = any? (λ r. Dec.and (ℕ_discrete r.tag t) (some? (findₛ u r.cell d))) d

-- the key of a row for a read at snapshot S, and for the check of transaction t at snapshot S
unfoldable pub read_key : List CRow → ℕ → ℕ → DRow → Option ℕ
read_key comm x S r = ite (ℕ_discrete r.cell x) (sift (λ n. dec_le n S) (num_of r.tag comm)) none

unfoldable pub check_key : List DRow → List CRow → ℕ → ℕ → DRow → Option ℕ
check_key d comm t S r = ite (some? (findₛ t r.cell d)) (sift (λ n. dec_lt S n) (num_of r.tag comm)) none

unfoldable pub largest : (DRow → Option ℕ) → List DRow → Option (ℕ × DRow)
largest k l = best (λ n m. n < m) (λ n m. dec_lt n m) k l

unfoldable pub smallestₛ : (DRow → Option ℕ) → List DRow → Option (ℕ × DRow)
smallestₛ k l = best (λ n m. m < n) (λ n m. dec_lt m n) k l

unfoldable pub value_ofₛ : Option (ℕ × DRow) → Option Value
value_ofₛ none = none
value_ofₛ (some w) = some w.1.value

unfoldable pub committed_at : State → ℕ → ℕ → Option Value
committed_at s x S = value_ofₛ (largest (read_key s.comm x S) s.dat)

unfoldable pub lookup : State → ℕ → ℕ → Option Value
lookup s a x = or_else (findₛ (s.cl a).number x s.dat) (committed_at s x (s.cl a).snapshot)

-- the smallest snapshot of the first n clients that are open
unfoldable pub lesserₛ : ℕ → Option ℕ → Option ℕ
lesserₛ n none = some n
lesserₛ n (some m) = some (min n m)

unfoldable pub snapshots : ℕ → (ℕ → Client) → Option ℕ
snapshots zero cl = none
snapshots (suc n) cl = ite (dec_le 1 (cl n).number) (lesserₛ (cl n).snapshot (snapshots n cl)) (snapshots n cl)

unfoldable pub default : ℕ → Option ℕ → ℕ
default d none = d
default d (some n) = n

unfoldable pub lowₛ : State → ℕ
lowₛ s = default s.last (snapshots clients s.cl)

-- a committed data row that trim drops: its cell has another with a larger commit number that is at most l
abbrev pub Passed : List DRow → List CRow → ℕ → DRow → Type 0
Passed d comm l r = On (λ n. (r' : DRow) × In r' d × ((r'.cell ≡ r.cell) × On (λ m. (n < m) × (m ≤ l)) (num_of r'.tag comm)))
    (num_of r.tag comm)

unfoldable pub passed? : (d : List DRow) (comm : List CRow) (l : ℕ) (r : DRow) → Dec (Passed d comm l r)
passed? d comm l r =
    on? (λ n. any? (λ r'. Dec.and (ℕ_discrete r'.cell r.cell) (on? (λ m. Dec.and (dec_lt n m) (dec_le m l)) (num_of r'.tag comm))) d)
    (num_of r.tag comm)

-- a committed row without a data row
abbrev Bare : List DRow → CRow → Type 0
Bare d c = ((r : DRow) × In r d × (r.tag ≡ c.tag)) → ⊥

unfoldable pub bare? : (d : List DRow) (c : CRow) → Dec (Bare d c)
bare? d c = Dec.not (any? (λ r. ℕ_discrete r.tag c.tag) d)

-- ---- what a call may do, each with its answer

pub record Out (X : Type 0) : Type 0 where
  pub state : State
  pub answer : X

abbrev pub out : {X : Type 0} → State → X → Out X
out s x = record { state = s; answer = x }

-- a state with the clients or the data rows replaced
abbrev pub with_clientsₛ : State → (ℕ → Client) → State
with_clientsₛ s cl = record { bounds = s.bounds; W = s.W; R = s.R; C = s.C; last = s.last; dat = s.dat; comm = s.comm; cl = cl }

abbrev pub with_data : State → List DRow → (ℕ → Client) → State
with_data s d cl = record { bounds = s.bounds; W = s.W; R = s.R; C = s.C; last = s.last; dat = d; comm = s.comm; cl = cl }

abbrev pub at_stageₛ : Client → ℕ → Client
at_stageₛ c k = record {
  number = c.number;
  stage = k;
  snapshot = c.snapshot;
  request = c.request;
  commit = c.commit;
  rwait = c.rwait;
  cwait = c.cwait;
}

abbrev pub with_request : Client → ℕ → ℕ → Client
with_request c k r = record {
  number = c.number;
  stage = k;
  snapshot = c.snapshot;
  request = r;
  commit = c.commit;
  rwait = c.rwait;
  cwait = c.cwait;
}

abbrev pub with_commit : Client → ℕ → ℕ → Client
with_commit c k n = record {
  number = c.number;
  stage = k;
  snapshot = c.snapshot;
  request = c.request;
  commit = n;
  rwait = c.rwait;
  cwait = c.cwait;
}

abbrev pub with_rwait : Client → ℕ → (ℕ → Bool) → Client
with_rwait c k w = record {
  number = c.number;
  stage = k;
  snapshot = c.snapshot;
  request = c.request;
  commit = c.commit;
  rwait = w;
  cwait = c.cwait;
}

abbrev pub with_cwait : Client → ℕ → (ℕ → Bool) → Client
with_cwait c k w = record {
  number = c.number;
  stage = k;
  snapshot = c.snapshot;
  request = c.request;
  commit = c.commit;
  rwait = c.rwait;
  cwait = w;
}

-- client a becomes c, nothing else changes
abbrev pub move : State → ℕ → Client → State
move s a c = with_clientsₛ s (putₛ a c same s.cl)

-- a client that has just begun
abbrev pub newcomer : State → Client
newcomer s = record { number = suc s.W; stage = 0; snapshot = s.last; request = 0; commit = 0; rwait = λ _. false; cwait = λ _. false }

unfoldable pub begunₛ : State → ℕ → Out (Answer Begun)
begunₛ s a = out
    record {
      bounds = s.bounds;
      W = suc s.W;
      R = s.R;
      C = s.C;
      last = s.last;
      dat = s.dat;
      comm = s.comm;
      cl = putₛ a (newcomer s)
          same s.cl;
    }
    (Answered (record { number = suc s.W; snapshot = s.last }))

unfoldable pub freeₛ : State → ℕ
freeₛ s = s.bounds.rows - length s.dat

-- a new state with its free figure
abbrev pub figured : State → Out (Answer ℕ)
figured s = out s (Answered (freeₛ s))

unfoldable pub overwritten : State → ℕ → ℕ → Value → Out (Answer ℕ)
overwritten s a x v = figured (with_data s (replace (s.cl a).number x v s.dat) s.cl)

unfoldable pub addedₛ : State → ℕ → ℕ → Value → Out (Answer ℕ)
addedₛ s a x v = figured (with_data s (s.dat ++ (record { tag = (s.cl a).number; cell = x; value = v } ∷ [])) s.cl)

-- the rows without those of transaction t
unfoldable pub without : ℕ → List DRow → List DRow
without t d = drop? (λ r. ℕ_discrete r.tag t) d

-- closed: all its fields are zero, and it is on no list
abbrev pub leave : State → ℕ → List DRow → State
leave s a d = with_data s d (putₛ a closedₛ (clear_both a) s.cl)

abbrev pub removedₛ : State → ℕ → State
removedₛ s a = leave s a (without (s.cl a).number s.dat)

-- the steps of Advance
abbrev pub step_to : State → ℕ → ℕ → Out (Answer Progress)
step_to s a k = out (move s a (at_stageₛ (s.cl a) k)) (Answered (Stage k))

unfoldable pub take_r : State → ℕ → Out (Answer Progress)
take_r s a = out
    record {
      bounds = s.bounds;
      W = s.W;
      R = suc s.R;
      C = s.C;
      last = s.last;
      dat = s.dat;
      comm = s.comm;
      cl = putₛ a
          (with_request (s.cl a) 2 (suc s.R)) same s.cl;
    }
    (Answered (Stage 2))

unfoldable pub take_c : State → ℕ → Out (Answer Progress)
take_c s a = out
    record {
      bounds = s.bounds;
      W = s.W;
      R = s.R;
      C = suc s.C;
      last = s.last;
      dat = s.dat;
      comm = s.comm;
      cl = putₛ a
          (with_commit (s.cl a) 8 (suc s.C)) same s.cl;
    }
    (Answered (Stage 8))

unfoldable pub list_r : State → ℕ → Out (Answer Progress)
list_r s a = out (move s a (with_rwait (s.cl a) 4 (listing (rph s) (λ b. sharing? s.dat (s.cl b).number (s.cl a).number) a)))
    (Answered (Stage 4))

unfoldable pub list_c : State → ℕ → Out (Answer Progress)
list_c s a = out (move s a (with_cwait (s.cl a) 10 (listing (cph s) {P = λ _. Unit {0}} (λ _. yes tt) a))) (Answered (Stage 10))

unfoldable pub look_r : State → ℕ → (ℕ → Bool) → Out (Answer Progress)
look_r s a w =
    ite (ℕ_discrete (list_size clients w) 0) (out (move s a (with_rwait (s.cl a) 5 w)) (Answered (Stage 5)))
    (out (move s a (with_rwait (s.cl a) 4 w)) (Answered (Waiting (list_size clients w))))

unfoldable pub look_c : State → ℕ → (ℕ → Bool) → Out (Answer Progress)
look_c s a w =
    ite (ℕ_discrete (list_size clients w) 0) (out (move s a (with_cwait (s.cl a) 11 w)) (Answered (Stage 11)))
    (out (move s a (with_cwait (s.cl a) 10 w)) (Answered (Waiting (list_size clients w))))

unfoldable pub checkedₛ : State → ℕ → Option (ℕ × DRow) → Out (Answer Progress)
checkedₛ s a none = step_to s a 6
checkedₛ s a (some w) = out (removedₛ s a) (Answered (Conflict w.0))

unfoldable pub committed : State → ℕ → Out (Answer Progress)
committed s a = out
    record {
      bounds = s.bounds;
      W = s.W;
      R = s.R;
      C = s.C;
      last = (s.cl a).commit;
      dat = s.dat;
      comm = s.comm ++ (record { number = (s.cl a).commit; tag = (s.cl a).number } ∷ []);
      cl = putₛ a (at_stageₛ (s.cl a) 12) same s.cl;
    }
    (Answered (Stage 12))

unfoldable pub trimmedₛ : State → Out (Answer ℕ)
trimmedₛ s =
    let d : List DRow = drop? (passed? s.dat s.comm (lowₛ s)) s.dat in
    out
    record { bounds = s.bounds; W = s.W; R = s.R; C = s.C; last = s.last; dat = d; comm = drop? (bare? d) s.comm; cl = s.cl }
    (Answered (length s.dat - length d))

-- a state after set-up
unfoldable pub fresh : Bounds → ℕ → State
fresh b w = record { bounds = b; W = w; R = 0; C = 0; last = 0; dat = []; comm = []; cl = λ _. closedₛ }
