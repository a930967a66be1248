-- What the contracts of inner functions need beyond the words of the papers: nobody has to believe it.
-- Assumes nothing.
use Rattle.std.specs.Prelude.{ℕ, ◌+◌, ◌≤◌, ◌<◌, List, [], ◌∷◌, ◌++◌, eqb, Bool, true, false, ◌≡◌, ◌⊎◌, length, take, drop}
use Rattle.std.specs.Prelude.{if◌then◌else◌}
use Rattle.spec.specs.Session.{memory_after, answers, initial}
use Rattle.spec.specs.Bytes.{Memory}
use Rattle.printing.specs.Inner.{answer_room}
use Rattle.scanning.specs.Inner.{newline_from, most_kept}

-- ---- The lines of an input that end in a newline, and what stands behind the last of them.

-- a byte in front of the first line, if there is one
abbrev pub push : ℕ → List (List ℕ) → List (List ℕ)
push b [] = []
push b (l ∷ ls) = (b ∷ l) ∷ ls

-- the lines that end in a newline, without it
unfoldable pub lines_of : List ℕ → List (List ℕ)
lines_of [] = []
lines_of (b ∷ s) = if eqb b 10 then ([] ∷ lines_of s) else push b (lines_of s)

abbrev pub unless_lines : List (List ℕ) → ℕ → List ℕ → List ℕ
unless_lines [] b r = b ∷ r
unless_lines (l ∷ ls) b r = r

-- what stands behind the last newline
unfoldable pub rest_of : List ℕ → List ℕ
rest_of [] = []
rest_of (b ∷ s) = if eqb b 10 then rest_of s else unless_lines (lines_of s) b (rest_of s)

-- ---- What the answers to the whole lines of a chunk of input leave and print.

-- the text in out has grown by the answers to the lines of s between two places, and the state has gone along; what is begun at the end of s
-- is still to come; what is left has no whole line, or out has no room for an answer; where no line was answered, nothing was said
pub record Fed (s : List ℕ) (start : ℕ) (w : Memory) (out : List ℕ) (at : ℕ) (from : ℕ) (w' : Memory) (out' : List ℕ) (used : ℕ) : Type 0
  where
    pub text : take used out' ++ answers w' (lines_of (drop from s)) ≡ take at out ++ answers w (lines_of (drop start s))
    pub state : memory_after w' (lines_of (drop from s)) ≡ memory_after w (lines_of (drop start s))
    pub rest : rest_of (drop from s) ≡ rest_of (drop start s)
    pub within : from ≤ length s
    pub room : used ≤ length out'
    pub stopped : (length out' < used + answer_room) ⊎ (newline_from from (drop from s) ≡ length s)
    pub moved : (start < from) ⊎ ((from ≡ start) × (used ≡ at))

-- w' is what all whole lines of s leave of w, and from a place on stands what is behind the last newline
pub record Emptied (s : List ℕ) (w w' : Memory) (from : ℕ) : Type 0 where
  pub memory : w' ≡ memory_after w (lines_of s)
  pub begun : drop from s ≡ rest_of s

-- ---- An input that is read in chunks: what is printed for it, chunk by chunk, with a begun line kept from one chunk to the next. The program reads,
-- answers and keeps in this way (`chunk` and `keep`); proofs/Input.antt shows that it prints what the whole input asks for, however it is cut.

-- all chunks in a row
unfoldable pub joined : List (List ℕ) → List ℕ
joined [] = []
joined (c ∷ cs) = c ++ joined cs

-- "the last needs no newline": a begun line at the end is a line
abbrev pub unfinished : List ℕ → List (List ℕ)
unfinished [] = []
unfinished (b ∷ l) = (b ∷ l) ∷ []

-- the answers to the whole lines of a chunk behind what was kept; of the line that it leaves begun, 81 bytes at most are kept
unfoldable pub in_chunks : Memory → List ℕ → List (List ℕ) → List ℕ
in_chunks w kept [] = answers w (unfinished kept)
in_chunks w kept (c ∷ cs) =
    answers w (lines_of (kept ++ c)) ++ in_chunks (memory_after w (lines_of (kept ++ c))) (take most_kept (rest_of (kept ++ c))) cs

-- ---- What the program has come to after some chunks: the memory that their whole lines leave, and what is kept of the line that is begun.

unfoldable pub memory_reached : Memory → List ℕ → List (List ℕ) → Memory
memory_reached w kept [] = w
memory_reached w kept (c ∷ cs) = memory_reached (memory_after w (lines_of (kept ++ c))) (take most_kept (rest_of (kept ++ c))) cs

unfoldable pub kept_reached : Memory → List ℕ → List (List ℕ) → List ℕ
kept_reached w kept [] = kept
kept_reached w kept (c ∷ cs) = kept_reached (memory_after w (lines_of (kept ++ c))) (take most_kept (rest_of (kept ++ c))) cs

-- what is printed for them: the answers to their whole lines
unfoldable pub printed_chunks : Memory → List ℕ → List (List ℕ) → List ℕ
printed_chunks w kept [] = []
printed_chunks w kept (c ∷ cs) =
    answers w (lines_of (kept ++ c)) ++ printed_chunks (memory_after w (lines_of (kept ++ c))) (take most_kept (rest_of (kept ++ c))) cs

-- a chunk, of a byte at least, has come behind what was kept: its whole lines are answered, and of the line that it leaves begun, 81 bytes at most are kept
pub record Came (w : Memory) (kept : List ℕ) (w' : Memory) (kept' : List ℕ) : Type 0 where
  pub chunk : List ℕ
  pub came : 1 ≤ length chunk
  pub memory : w' ≡ memory_after w (lines_of (kept ++ chunk))
  pub begun : kept' ≡ take most_kept (rest_of (kept ++ chunk))

-- one turn: a chunk has come, or nothing more, and all is as it was
abbrev pub Turns : Bool → Memory → List ℕ → Memory → List ℕ → Type 0
Turns true w kept w' kept' = Came w kept w' kept'
Turns false w kept w' kept' = (w' ≡ w) × (kept' ≡ kept)

-- the program has come to this memory and these kept bytes from its start, by some chunks of input. "Before a set-up the store has 0 rows"
pub record ProgramAt (w : Memory) (kept : List ℕ) : Type 0 where
  pub chunks : List (List ℕ)
  pub memory : w ≡ memory_reached initial [] chunks
  pub begun : kept ≡ kept_reached initial [] chunks
