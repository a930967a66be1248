-- The plain table as the proofs keep it, a device: its newest commit stands first in the book, and the book keeps what each commit wrote, so
-- that the rows can be held against the book. Erase.antt maps it to the plain table of the statement (specs/Table.antt), step by step.
-- Assumes nothing.
use Prim.Native.Nat.{ℕ, suc, ◌+◌, ◌≤◌, ◌<◌}
use mathlib.Core.Path.{◌≡◌}
use mathlib.Core.Logic.{◌⊎◌, ite}
use mathlib.Core.Bool.{Bool, true, false}
use mathlib.Core.List.{List, [], ◌∷◌, Memᴰ as In}
use mathlib.Core.Option.{Option, some, IsSome}
use native.Mathlib.Decide.{ℕ_discrete, dec_le}
use lib.ListN.{length}
use Rattle.spec.specs.declared.Begun.{Begun}
use Rattle.spec.specs.declared.Progress.{Progress}
use Rattle.spec.specs.declared.Progress.TheVariants.{Stage, Waiting, Conflict, Done}
use Rattle.spec.specs.Answers.{Answer, Answered, Refused}
use Rattle.spec.specs.Set.{clients}
use Rattle.spec.specs.Numbers.{top}
use Rattle.spec.specs.Rows.{cells}
use Rattle.spec.specs.Run.{Call, Begin, Read, Write, Advance, Abandon, Trim, Free}
use Rattle.spec.specs.Table.{Value, unwritten, override, or_else, overlay, Observed}
use Rattle.spec.specs.Right.{Bounds, valued, BeginRefusal, ReadRefusal, WriteAllowed, WriteRefusal, AbandonRefusal}

-- a commit: its number and what it wrote
pub record Entry : Type 0 where
  pub number : ℕ
  pub puts : ℕ → Option Value

pub record PClient : Type 0 where
  pub live : Bool
  pub copy : ℕ → Option Value
  pub since : ℕ
  pub writes : ℕ → Option Value
  pub stage : ℕ
  pub commit : ℕ

pub record Plain : Type 0 where
  pub table : ℕ → Option Value
  pub count : ℕ
  pub book : List Entry
  pub cl : ℕ → PClient

unfoldable pub none_yet : PClient
none_yet = record { live = false; copy = unwritten; since = 0; writes = unwritten; stage = 0; commit = 0 }

unfoldable pub emptyₚ : Plain
emptyₚ = record { table = unwritten; count = 0; book = []; cl = λ _. none_yet }

abbrev pub set_p : ℕ → PClient → (ℕ → PClient) → ℕ → PClient
set_p a c cl = override a c cl

abbrev pub written : (ℕ → Option Value) → ℕ → Value → ℕ → Option Value
written w x v = override x (some v) w

-- ---- what an answered call does

abbrev pub restaged : PClient → ℕ → ℕ → PClient
restaged q k n = record { live = q.live; copy = q.copy; since = q.since; writes = q.writes; stage = k; commit = n }

abbrev pub movedₚ : Plain → ℕ → ℕ → Plain
movedₚ p a k = record { table = p.table; count = p.count; book = p.book; cl = set_p a (restaged (p.cl a) k (p.cl a).commit) p.cl }

abbrev pub on_numberₚ : Plain → ℕ → Plain
on_numberₚ p a = record { table = p.table; count = suc p.count; book = p.book; cl = set_p a (restaged (p.cl a) 8 (suc p.count)) p.cl }

abbrev pub on_commitₚ : Plain → ℕ → Plain
on_commitₚ p a = record {
  table = overlay (p.cl a).writes p.table;
  count = p.count;
  book = record { number = (p.cl a).commit; puts = (p.cl a).writes } ∷ p.book;
  cl = set_p a (restaged (p.cl a) 12 (p.cl a).commit) p.cl;
}

abbrev pub on_closeₚ : Plain → ℕ → Plain
on_closeₚ p a = record { table = p.table; count = p.count; book = p.book; cl = set_p a none_yet p.cl }

unfoldable pub on_stageₚ : Plain → ℕ → ℕ → Plain
on_stageₚ p a k = ite (ℕ_discrete k 8) (on_numberₚ p a) (ite (ℕ_discrete k 12) (on_commitₚ p a) (movedₚ p a k))

unfoldable pub on_progressₚ : Plain → ℕ → Progress → Plain
on_progressₚ p a (Stage k) = on_stageₚ p a k
on_progressₚ p a (Waiting n) = p
on_progressₚ p a (Conflict n) = on_closeₚ p a
on_progressₚ p a (Done n) = on_closeₚ p a

unfoldable pub on_advanceₚ : Plain → ℕ → Answer Progress → Plain
on_advanceₚ p a (Answered g) = on_progressₚ p a g
on_advanceₚ p a (Refused r) = p

-- a client that begins
abbrev pub opening : Plain → PClient
opening p = record { live = true; copy = p.table; since = length p.book; writes = unwritten; stage = 0; commit = 0 }

unfoldable pub on_beginₚ : Plain → ℕ → Answer Begun → Plain
on_beginₚ p a (Answered b) = record { table = p.table; count = p.count; book = p.book; cl = set_p a (opening p) p.cl }
on_beginₚ p a (Refused r) = p

-- a client that writes
abbrev pub rewritten : PClient → ℕ → Value → PClient
rewritten q x v = record { live = q.live; copy = q.copy; since = q.since; writes = written q.writes x v; stage = q.stage; commit = q.commit }

unfoldable pub on_writeₚ : Plain → ℕ → ℕ → Value → Answer ℕ → Plain
on_writeₚ p a x v (Answered n) = record { table = p.table; count = p.count; book = p.book; cl = set_p a (rewritten (p.cl a) x v) p.cl }
on_writeₚ p a x v (Refused r) = p

unfoldable pub on_abandonₚ : Plain → ℕ → Answer ℕ → Plain
on_abandonₚ p a (Answered n) = on_closeₚ p a
on_abandonₚ p a (Refused r) = p

unfoldable pub updateₚ : Plain → (q : Call) → Answer (Observed q) → Plain
updateₚ p (Begin a) r = on_beginₚ p a r
updateₚ p (Read a x) r = p
updateₚ p (Write a x v) r = on_writeₚ p a x v r
updateₚ p (Advance a) r = on_advanceₚ p a r
updateₚ p (Abandon a) r = on_abandonₚ p a r
updateₚ p Trim r = p
updateₚ p Free r = p

-- ---- what is right

-- the last number in the book, 0 if there is none
unfoldable pub last_ofₚ : List Entry → ℕ
last_ofₚ [] = 0
last_ofₚ (e ∷ l) = e.number

-- the commits in the book since it had n of them
unfoldable pub newerₚ : ℕ → List Entry → List Entry
newerₚ n [] = []
newerₚ n (e ∷ l) = ite (dec_le n (length l)) (e ∷ newerₚ n l) []

-- the commits in the book when it had n of them
unfoldable pub olderₚ : ℕ → List Entry → List Entry
olderₚ n [] = []
olderₚ n (e ∷ l) = ite (dec_le n (length l)) (olderₚ n l) (e ∷ l)

abbrev pub Wroteₚ : PClient → Type 0
Wroteₚ q = (x : ℕ) × IsSome (q.writes x)

abbrev pub Sharesₚ : (ℕ → Option Value) → (ℕ → Option Value) → Type 0
Sharesₚ u w = (x : ℕ) × IsSome (u x) × IsSome (w x)

-- a commit since client a began that wrote a cell it wrote
abbrev pub Clashₚ : Plain → ℕ → Entry → Type 0
Clashₚ p a e = In e (newerₚ (p.cl a).since p.book) × Sharesₚ e.puts (p.cl a).writes

abbrev pub NoClashₚ : Plain → ℕ → Type 0
NoClashₚ p a = (e : Entry) → In e (newerₚ (p.cl a).since p.book) → Sharesₚ e.puts (p.cl a).writes → ⊥

-- w is the W before the call
abbrev RightBeginₚ : ℕ → Plain → ℕ → Answer Begun → Type 0
RightBeginₚ w p a (Answered b) = ((p.cl a).live ≡ false) × (b.snapshot ≡ last_ofₚ p.book) × (b.number ≡ suc w) × (w < top) × (a < clients)
RightBeginₚ w p a (Refused r) = BeginRefusal (suc w) a (p.cl a).live r

abbrev RightReadₚ : Plain → ℕ → ℕ → Answer (Option Value) → Type 0
RightReadₚ p a x (Answered v) = ((p.cl a).live ≡ true) × (v ≡ or_else ((p.cl a).writes x) ((p.cl a).copy x)) × ((p.cl a).stage ≤ 11) × (x < cells)
RightReadₚ p a x (Refused r) = (p.cl a).live ≡ true → ReadRefusal x (p.cl a).stage r

-- free is the free figure after the call
abbrev RightWriteₚ : ℕ → Plain → ℕ → ℕ → Value → Answer ℕ → ℕ → Type 0
RightWriteₚ limit p a x v (Answered n) free =
    ((p.cl a).live ≡ true) × WriteAllowed limit (p.cl a).stage (p.cl a).writes x v × (n ≡ free)
RightWriteₚ limit p a x v (Refused r) free = (p.cl a).live ≡ true → WriteRefusal limit (p.cl a).stage (p.cl a).writes x v (Answered free) r

abbrev RightAbandonₚ : Plain → ℕ → Answer ℕ → ℕ → Type 0
RightAbandonₚ p a (Answered n) free = ((p.cl a).live ≡ true) × ((p.cl a).stage < 12) × (n ≡ free)
RightAbandonₚ p a (Refused r) free = (p.cl a).live ≡ true → AbandonRefusal (p.cl a).stage r

abbrev pub RightProgressₚ : Plain → ℕ → Progress → Type 0
RightProgressₚ p a (Stage k) =
    (k ≡ suc (p.cl a).stage) × (k ≤ 13) × (k ≡ 1 → Wroteₚ (p.cl a)) × (k ≡ 6 → NoClashₚ p a)
    × (k ≡ 12 → NoClashₚ p a × (last_ofₚ p.book < (p.cl a).commit))
RightProgressₚ p a (Waiting n) = (((p.cl a).stage ≡ 4) ⊎ ((p.cl a).stage ≡ 10)) × (1 ≤ n)
RightProgressₚ p a (Conflict n) = ((p.cl a).stage ≡ 5) × ((e : Entry) × (e.number ≡ n) × Clashₚ p a e) × ((e : Entry) → Clashₚ p a e → n ≤ e.number)
RightProgressₚ p a (Done n) =
    (((p.cl a).stage ≡ 13) × (n ≡ (p.cl a).commit) × ((e : Entry) × In e p.book × (e.number ≡ n)))
    ⊎ (((p.cl a).stage ≡ 0) × (Wroteₚ (p.cl a) → ⊥) × (n ≡ last_ofₚ (olderₚ (p.cl a).since p.book)))

abbrev pub RightAdvanceₚ : Plain → ℕ → Answer Progress → Type 0
RightAdvanceₚ p a (Answered g) = ((p.cl a).live ≡ true) × RightProgressₚ p a g
RightAdvanceₚ p a (Refused r) = (p.cl a).live ≡ false

abbrev RightTrimₚ : ℕ → Plain → Answer ℕ → ℕ → Type 0
RightTrimₚ rows p (Answered n) free = ((a : ℕ) → (p.cl a).live ≡ false) → free + valued cells p.table ≡ rows
RightTrimₚ rows p (Refused r) free = Unit {0}

abbrev pub Rightₚ : Bounds → ℕ → Plain → (q : Call) → Answer (Observed q) → ℕ → Type 0
Rightₚ b w p (Begin a) r free = RightBeginₚ w p a r
Rightₚ b w p (Read a x) r free = RightReadₚ p a x r
Rightₚ b w p (Write a x v) r free = RightWriteₚ b.limit p a x v r free
Rightₚ b w p (Advance a) r free = RightAdvanceₚ p a r
Rightₚ b w p (Abandon a) r free = RightAbandonₚ p a r free
Rightₚ b w p Trim r free = RightTrimₚ b.rows p r free
Rightₚ b w p Free r free = Unit {0}
