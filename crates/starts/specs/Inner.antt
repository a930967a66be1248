-- What the contracts of inner functions need beyond the words of the papers: nobody has to believe it.
-- Assumes nothing.
use Rattle.std.specs.Prelude.{ℕ, List, Result, Ok, Err}
use Rattle.spec.specs.declared.Refusal.{Refusal}
use Rattle.spec.specs.Answers.{Answered, Refused, code}
use Rattle.spec.specs.Image.{no_versions, empty}
use Rattle.spec.specs.Bytes.{memory_of, store_of, SetsUp}
use Rattle.record.specs.declared.Head.{Head}
use Rattle.record.specs.Inner.{whole, no_clients}

-- of a set-up, which was given the buffers d and c: the new record's numbers, by which zeros in all else are what it leaves; or why it is refused,
-- by which a record of zeros is
abbrev pub Made : List ℕ → List ℕ → ℕ → ℕ → List ℕ → List ℕ → Result Head Refusal → Type 0
Made d c w l d' c' (Ok h) = SetsUp d c w l (memory_of (whole h no_clients) d' c' no_versions) (Answered h.rows)
Made d c w l d' c' (Err r) = SetsUp d c w l (memory_of (store_of (empty 0 0 0)) d' c' no_versions) (Refused (code r))
