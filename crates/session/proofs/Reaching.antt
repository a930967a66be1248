-- What the program has come to after some chunks of input: it goes on from there as the whole input asks, and it is kept chunk by chunk.
-- Assumes nothing.
use Prim.Native.Nat.{ℕ}
use mathlib.Core.Path.{◌≡◌, refl, ◌∙◌}
use mathlib.Core.Bool.{Bool, true, false}
use mathlib.Core.List.{List, [], ◌∷◌, ◌++◌, append_assoc}
use lib.ListN.{take}
use Rattle.spec.specs.Bytes.{Memory}
use Rattle.spec.specs.Session.{initial, output, memory_after}
use Rattle.session.specs.Inner.{lines_of, rest_of, joined, in_chunks, memory_reached, kept_reached, printed_chunks, Turns, ProgramAt}
use Rattle.session.proofs.Input.{in_chunks_lem}

-- what is printed for chunks behind chunks is what is printed for these, and then what is printed from there
pub chunks_append : (w : Memory) (kept : List ℕ) (cs ds : List (List ℕ))
    → in_chunks w kept (cs ++ ds) ≡ printed_chunks w kept cs ++ in_chunks (memory_reached w kept cs) (kept_reached w kept cs) ds
unfolding in_chunks memory_reached kept_reached printed_chunks
chunks_append w kept [] ds = refl
chunks_append w kept (c ∷ cs) ds =
    rw (chunks_append (memory_after w (lines_of (kept ++ c))) (take 81 (rest_of (kept ++ c))) cs ds, append_assoc)

-- one chunk more
memory_more : (w : Memory) (kept : List ℕ) (cs : List (List ℕ)) (c : List ℕ)
    → memory_reached w kept (cs ++ (c ∷ [])) ≡ memory_after (memory_reached w kept cs) (lines_of (kept_reached w kept cs ++ c))
unfolding memory_reached kept_reached
memory_more w kept [] c = refl
memory_more w kept (d ∷ cs) c = memory_more (memory_after w (lines_of (kept ++ d))) (take 81 (rest_of (kept ++ d))) cs c

kept_more : (w : Memory) (kept : List ℕ) (cs : List (List ℕ)) (c : List ℕ)
    → kept_reached w kept (cs ++ (c ∷ [])) ≡ take 81 (rest_of (kept_reached w kept cs ++ c))
unfolding kept_reached
kept_more w kept [] c = refl
kept_more w kept (d ∷ cs) c = kept_more (memory_after w (lines_of (kept ++ d))) (take 81 (rest_of (kept ++ d))) cs c

-- the start
pub start : ProgramAt initial []
unfolding memory_reached kept_reached
start = record { chunks = []; memory = refl; begun = refl }

-- and one turn more
pub turned : (more : Bool) {w w' : Memory} {kept kept' : List ℕ} → ProgramAt w kept → Turns more w kept w' kept' → ProgramAt w' kept'
turned true {w} {w'} {kept} {kept'} r t =
    let cs = r.chunks in
    record {
      chunks = cs ++ (t.chunk ∷ []);
      memory = t.memory ∙ rw (r.memory, r.begun, memory_more initial [] cs t.chunk);
      begun = t.begun ∙ rw (r.begun, kept_more initial [] cs t.chunk);
    }
turned false r t = record { chunks = r.chunks; memory = t.0 ∙ r.memory; begun = t.1 ∙ r.begun }

-- what was printed on the way, and what is printed from there on, is what the whole input asks for
pub goes_on : {w : Memory} {kept : List ℕ} (r : ProgramAt w kept) (ds : List (List ℕ))
    → printed_chunks initial [] r.chunks ++ in_chunks w kept ds ≡ output (joined (r.chunks ++ ds))
goes_on r ds = rw (r.memory, r.begun, ← chunks_append initial [] r.chunks ds) (in_chunks_lem (r.chunks ++ ds))
