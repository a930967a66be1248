-- What a read hands back is what demand 3 speaks of: the bytes that `store::value` and `store::lookup` promise, and the text that the step program
-- prints, are those of the value that the plain table is told, whatever the record and the bytes. A read names a row in use: a fit store's
-- buffer has it.
-- Assumes nothing.
use Rattle.spec.specs.Numbers.{Number}
use Prim.Native.Nat.{ℕ, ◌+◌, ◌*◌, ◌/◌, ◌≤◌, ◌<◌}
use mathlib.Core.Path.{◌≡◌, refl, sym, ap, ◌∙◌}
use mathlib.Core.Bool.{Bool, true, false}
use mathlib.Core.List.{List, [], ◌∷◌, ◌++◌, append-nil}
use native.Mathlib.Omega.{arith}
use borrow.Author.Tests.{lt-leb}
use lib.Dec.{ltb}
use lib.ListN.{length, drop, length-append, length-drop, take-append-drop}
use lib.Seq.{take-append-le, drop-append-le}
use Rattle.std.specs.Prelude.{if◌then◌else◌, None, Some}
use Rattle.spec.specs.Rows.{Row, rows_in, row_at}
use Rattle.spec.proofs.Rows.{rows_at, length_rows}
use Rattle.spec.specs.declared.Store.{Store}
use Rattle.spec.specs.Look.{is_own, find, newer, version_at, newest, own_or, least_looked, version_from, look_from, Lookup, version}
use Rattle.spec.specs.Answers.{Answer, Answered, Refused, Reading}
use Rattle.spec.specs.Image.{Image, with_versions, number_of, snapshot_of, entry_for}
use Rattle.spec.specs.Calls.{Outcome, read, reading, look_of}
use Rattle.spec.specs.Bytes.{decode, Memory, memory_of, after_of, encode, fits, on_bytes}
use Rattle.spec.specs.Run.{Read, step}
use Rattle.spec.specs.Table.{observe_answer}
use Rattle.spec.specs.Right.{observed}
use Rattle.spec.specs.Values.{value_read, value_from}
use Rattle.spec.specs.Text.{answer_text}
use Rattle.spec.specs.Session.{front, result_text}
use Rattle.spec.proofs.Ends.{fit_of}
use Rattle.history.proofs.Wellformed.{ReadEnds, refused, found, read_ends}
use Rattle.demands.specs.OneCall.{handed, bytes_in}
use Rattle.demands.specs.Printed.{observed_text}
use Rattle.demands.proofs.Unchanged.{encode_same}

-- ---- a row that is found is one of those searched

-- what was found is below row n
abbrev InUse : ℕ → Lookup → Type 0
InUse n None = Unit {0}
InUse n (Some f) = f.at < n

newer_in : (n : ℕ) (a b : Lookup) → InUse n a → InUse n b → InUse n (newer a b)
unfolding newer
newer_in n None b h g = g
newer_in n (Some a) None h g = h
newer_in n (Some a) (Some b) h g = go (ltb a.number b.number)
  where
    go : (t : Bool) → InUse n (if t then Some b else Some a)
    go true = g
    go false = h

version_in_lem : (n i : ℕ) (v : Number) → i < n → InUse n (version_at i v)
unfolding version_at
version_in_lem n i None h = tt
version_in_lem n i (Some m) h = h

newest_in : (f : Row → Number) (n i : ℕ) (rs : List Row) → i + length rs ≤ n → InUse n (newest f i rs)
unfolding newest
newest_in f n i [] h = tt
newest_in f n i (r ∷ rs) h =
    newer_in n (version_at i (f r)) (newest f (i + 1) rs) (version_in_lem n i (f r) (omega arith)) (newest_in f n (i + 1) rs (omega arith))

own_in : (p : Row → Bool) (n i : ℕ) (rs : List Row) (v : Lookup) → i + length rs ≤ n → InUse n v → InUse n (own_or (find p i rs) v)
unfolding find own_or
own_in p n i [] v h g = g
own_in p n i (r ∷ rs) v h g = go (p r) (own_in p n (i + 1) rs v (omega arith) g)
  where
    go : (t : Bool) → InUse n (own_or (find p (i + 1) rs) v) → InUse n (own_or (if t then Some i else find p (i + 1) rs) v)
    go true w = omega arith
    go false w = w

look_in : (e tag cell s : ℕ) (ds cs : List Row) → InUse (length ds) (look_from e tag cell s ds cs)
unfolding look_from
look_in e tag cell s ds cs =
    let f : Row → Number = version_from (least_looked e s) cell s cs in
    own_in (is_own tag cell) (length ds) 0 ds (newest f 0 ds) (omega arith) (newest_in f (length ds) 0 ds (omega arith))

-- ---- a read, on an image and on any record and bytes

-- a row that an answer names is below n
abbrev Names : ℕ → Answer Reading → Type 0
Names n (Answered (Some j)) = j < n
Names n (Answered None) = Unit {0}
Names n (Refused m) = Unit {0}

-- a read leaves all of the image but the version table, and names a row in use
record Looks (i : Image) (o : Outcome Reading) : Type 0 where
  same : o.image ≡ with_versions i o.image.versions
  below : Names (length i.data_rows) o.answer

named : (n : ℕ) (f : Lookup) → InUse n f → Names n (Answered (reading f))
named n (Some f) h = h
named n None h = tt

read_looks : (k x : ℕ) (i : Image) → Looks i (read k x i)
read_looks k x i = go (read_ends k x i)
  where
    go : {o : Outcome Reading} → ReadEnds k x i o → Looks i o
    go (refused n) = record { same = refl; below = tt }
    go (found e) = record {
      same = refl;
      below =
          named (length i.data_rows) (look_of k x i)
          (look_in (entry_for i x) (number_of i k) x (snapshot_of i k) i.data_rows i.commit_rows);
    }

-- a row that an answer names is one of m's rows in use, and m's data buffer has it
abbrev Has : Memory → Answer Reading → Type 0
Has m (Answered (Some j)) = (j < m.store.used) × (24 * j + 24 ≤ length m.data_bytes)
Has m (Answered None) = Unit {0}
Has m (Refused n) = Unit {0}

has_named : (m : Memory) → fits m.store (length m.data_bytes) (length m.commit_bytes) ≡ true
    → (a : Answer Reading) → Names m.store.used a → Has m a
has_named m e (Answered (Some j)) h =
    let f = fit_of m.store (length m.data_bytes) (length m.commit_bytes) e in
    (h, omega (arith, h, f.data_rows, f.data_length))
has_named m e (Answered None) h = tt
has_named m e (Refused n) h = tt

-- a read leaves the record and the bytes, and names a row that is there
record Handing (m u : Memory) (a : Answer Reading) : Type 0 where
  same : u ≡ memory_of m.store m.data_bytes m.commit_bytes u.versions
  there : Has m a

rows_shown : (s : Store) (d c v : List ℕ) → length (decode s d c v).data_rows ≡ s.used
unfolding decode
rows_shown s d c v = length_rows 24 s.used d

-- an outcome with all of the image but the version table leaves the record and the bytes
encode_rows : {A : Type 0} (s : Store) (d c v : List ℕ) (o : Outcome A) → o.image ≡ with_versions (decode s d c v) o.image.versions
    → encode s d c o ≡ after_of s d c o.image.versions o.answer
unfolding decode
encode_rows s d c v o e = encode_same s d c o.image.versions o e

hands : (k x : ℕ) (m : Memory) → Handing m (step (Read k x) m).memory (step (Read k x) m).answer
unfolding on_bytes
hands k x m = go (fits m.store (length m.data_bytes) (length m.commit_bytes)) refl
  where
    i : Image
    i = decode m.store m.data_bytes m.commit_bytes m.versions

    rows : length i.data_rows ≡ m.store.used
    rows = rows_shown m.store m.data_bytes m.commit_bytes m.versions

    go : (b : Bool) → fits m.store (length m.data_bytes) (length m.commit_bytes) ≡ b
        → Handing m (step (Read k x) m).memory (step (Read k x) m).answer
    go true e =
        rw (e, encode_rows m.store m.data_bytes m.commit_bytes m.versions (read k x i) (read_looks k x i).same)
        (record { same = refl; there = has_named m e (read k x i).answer (rw rows at (read_looks k x i).below) })
    go false e = rw e (record { same = refl; there = tt })

-- ---- the bytes that a read hands back

-- the same bytes, with more behind the buffer
row_with : (j : ℕ) (d rest : List ℕ) → 24 * j + 24 ≤ length d → row_at 24 j (d ++ rest) ≡ row_at 24 j d
unfolding row_at
row_with j d rest h =
    rw (drop-append-le (24 * j) d rest (omega arith)) (take-append-le 24 (drop (24 * j) d) rest (simp length-drop (omega arith)))

value_with : (m : Memory) (rest : List ℕ) (k x : ℕ) (a : Answer Reading) → Has m a
    → observe_answer (Read k x) (rows_in 24 m.store.used m.data_bytes) a ≡ handed (m.data_bytes ++ rest) a
unfolding value_read
value_with m rest k x (Answered (Some j)) h =
    let d : List ℕ = m.data_bytes in
    let l : j < length (d ++ rest) / 24 = omega (arith, h.1, length-append d rest) in
    rw (rows_at 24 m.store.used j d h.0, lt-leb (length (d ++ rest) / 24) j l, row_with j d rest h.1)
value_with m rest k x (Answered None) h = refl
value_with m rest k x (Refused n) h = refl

handed_with : (k x : ℕ) (m : Memory) (rest : List ℕ) → observed (Read k x) m ≡ handed (m.data_bytes ++ rest) (step (Read k x) m).answer
handed_with k x m rest =
    ap (λ (u : Memory). observe_answer (Read k x) (rows_in 24 u.store.used u.data_bytes) (step (Read k x) m).answer) (hands k x m).same
    ∙ value_with m rest k x (step (Read k x) m).answer (hands k x m).there

-- what demand 3 is told of a read are the bytes that `store::value` hands back for its answer
read_handed : (k x : ℕ) (m : Memory) → observed (Read k x) m ≡ handed m.data_bytes (step (Read k x) m).answer
read_handed k x m = handed_with k x m [] ∙ ap (λ (d : List ℕ). handed d (step (Read k x) m).answer) (append-nil m.data_bytes)

from_handed : (d : List ℕ) (a : Answer Reading) → value_from d a ≡ bytes_in (handed d a)
unfolding value_from
from_handed d (Answered (Some j)) = refl
from_handed d (Answered None) = refl
from_handed d (Refused n) = refl

-- what `store::lookup` hands back are the bytes that demand 3 is told
pub lookup_handed : (k x : ℕ) (m : Memory) → value_from m.data_bytes (step (Read k x) m).answer ≡ bytes_in (observed (Read k x) m)
lookup_handed k x m = from_handed m.data_bytes (step (Read k x) m).answer ∙ ap bytes_in (sym (read_handed k x m))

-- ---- the text that the program prints

text_handed : (k x : ℕ) (d : List ℕ) (a : Answer Reading)
    → answer_text (result_text (Read k x) d) a ≡ answer_text (observed_text (Read k x)) (handed d a)
text_handed k x d (Answered (Some j)) = refl
text_handed k x d (Answered None) = refl
text_handed k x d (Refused n) = refl

-- the program, whose memory is m, prints for a read the text of the value that demand 3 is told
pub read_printed : (k x : ℕ) (m : Memory)
    → answer_text (result_text (Read k x) m.data_bytes) (step (Read k x) (front m)).answer
    ≡ answer_text (observed_text (Read k x)) (observed (Read k x) (front m))
read_printed k x m =
    let n : ℕ = 24 * m.store.rows in
    let a : Answer Reading = (step (Read k x) (front m)).answer in
    text_handed k x m.data_bytes a
    ∙ ap (λ (d : List ℕ). answer_text (observed_text (Read k x)) (handed d a)) (sym (take-append-drop n m.data_bytes))
    ∙ ap (answer_text (observed_text (Read k x))) (sym (handed_with k x (front m) (drop n m.data_bytes)))
