-- The papers' sentences on set-up, in accord with the definitions: what it is given, and the record, the bytes of both buffers, the version table and
-- the answer, all written out.
-- Assumes nothing.
use Prim.Native.Nat.{ℕ, ◌*◌, ◌-◌}
use mathlib.Core.Path.{◌≡◌, refl}
use mathlib.Core.Bool.{true, false}
use mathlib.Core.List.{List, [], ◌∷◌, map}
use lib.ListN.{replicate}
use Rattle.spec.specs.Image.{no_versions, empty}
use Rattle.spec.specs.Bytes.{Memory, After, store_of, known, fits, on_bytes, accepts, set_up}
use Rattle.spec.specs.Run.{Call, Begin, Read, Write, Advance, Abandon, Trim, Free}
use Rattle.spec.specs.declared.Store.{Store}
use Rattle.spec.proofs.AccordTable.{sixteen, rubbish, counts, idle, holds, finds_with, leaves, keeps, Example, refusing, computed}

-- what a set-up is given, and what it leaves and answers
pub record Given : Type 0 where
  pub data_bytes : List ℕ
  pub commit_bytes : List ℕ
  pub first : ℕ
  pub limit : ℕ
  pub after : After ℕ

-- buffers of d and c bytes that are not zero, the first W and the limit
abbrev given : ℕ → ℕ → ℕ → ℕ → After ℕ → Given
given d c w l a = record { data_bytes = rubbish d; commit_bytes = rubbish c; first = w; limit = l; after = a }

abbrev worked : Given → Given
worked g = record {
  data_bytes = g.data_bytes;
  commit_bytes = g.commit_bytes;
  first = g.first;
  limit = g.limit;
  after = set_up g.data_bytes g.commit_bytes g.first g.limit;
}

-- document 02, 3, of the version table: "one entry for each of the 1,024 cells, all zero at set-up", whether it is refused or not
abbrev made_new : Store → List ℕ → List ℕ → Memory
made_new s d c = finds_with (replicate 1024 0) s d c

-- "Success zeroes both buffers", whole; "W starts one below the first W given at set-up, R and C at 0", "The last commit number is a field of its own,
-- 0 at first"; no row in use, nobody open; the answer is the free figure
abbrev accepted : ℕ → ℕ → ℕ → ℕ → Given
accepted r w l limit =
    given (24 * r) (8 * r) w l
    (leaves (made_new (holds r limit 0 0 (counts (w - 1) 0 0 0) idle) (replicate (24 * r) 0) (replicate (8 * r) 0)) r)

-- "The record handed back then has 0 rows and zeros in all else, and the buffers keep their bytes."
abbrev nothing : Store
nothing = holds 0 0 0 0 (counts 0 0 0 0) idle

abbrev refused : ℕ → ℕ → ℕ → ℕ → Given
refused d c w l = given d c w l (keeps (made_new nothing (rubbish d) (rubbish c)) 1)

abbrev pub set_ups : List Given
set_ups =
    -- two rows, first W 5, limit 3: 48 and 16 bytes, W at 4
    given 48 16 5 3
    (leaves (made_new (holds 2 3 0 0 (counts 4 0 0 0) idle) (replicate 48 0) (replicate 16 0)) 2)
    -- "the cell limit", 0 for 8 (document 02, 9), up to 64; the first W from 1 to 4,294,967,295
    ∷ accepted 1 1 0 8
    ∷ accepted 1 1 1 1
    ∷ accepted 4 7 16 16
    ∷ accepted 1 1 64 64
    ∷ accepted 1 4294967295 0 8
    -- "Refused 1 if the data length isn't 24 × rows with rows 1 to 1,024": a byte less, a byte more, none
    ∷ refused 47 16 1 3
    ∷ refused 49 16 1 3
    ∷ refused 0 0 1 3
    ∷ refused 8 24 1 3
    -- "the committed length isn't 8 × rows": a byte less, a byte more, a row less, none
    ∷ refused 48 15 1 3
    ∷ refused 48 17 1 3
    ∷ refused 48 8 1 3
    ∷ refused 48 0 1 3
    -- "the first W is 0, or the limit is above 64"
    ∷ refused 48 16 0 3
    ∷ refused 48 16 1 65
    ∷ refused 48 16 1 4294967295
    ∷ []

pub set_ups_lem : map worked set_ups ≡ set_ups
unfolding set_up accepts store_of no_versions empty
set_ups_lem = refl

-- the same by the lengths alone, up to 1,024 rows
pub lengths : map (λ (r : ℕ). accepts (24 * r) (8 * r) 1 0) (0 ∷ 1 ∷ 2 ∷ 1023 ∷ 1024 ∷ 1025 ∷ 2048 ∷ [])
    ≡ false ∷ true ∷ true ∷ true ∷ true ∷ false ∷ false ∷ []
unfolding accepts
lengths = refl

-- "after a refused one every call gets 2": on what it handed back, with the buffers as they were
abbrev pub after_refused : List Example
after_refused =
    map (λ (q : Call). refusing "2" q (set_up (rubbish 48) (rubbish 16) 0 3).memory 2)
    (Begin 0 ∷ Read 0 7 ∷ Write 0 7 (sixteen 0) ∷ Advance 0 ∷ Abandon 0 ∷ Trim ∷ Free ∷ [])

pub after_refused_lem : map computed after_refused ≡ after_refused
unfolding set_up accepts store_of empty on_bytes fits known
after_refused_lem = refl
