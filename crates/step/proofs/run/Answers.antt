-- No more than 81 bytes are kept, and the memory and the kept bytes are what the chunks read so far lead to from the start.
-- Assumes nothing.
use mathlib.Core.Path.{◌≡◌, sym, subst}
use mathlib.Core.List.{[]}
use native.Mathlib.Omega.{arith}
use lib.ListN.{replicate}
use Rattle.spec.specs.declared.Store.{Store}
use Rattle.spec.specs.Image.{no_versions, empty}
use Rattle.spec.specs.Bytes.{store_of, memory_of}
use Rattle.spec.specs.Session.{initial}
use Rattle.session.specs.Inner.{ProgramAt}
use Rattle.session.proofs.Reaching.{start}
use Rattle.step.proofs.run.Goals as goal

from_start : {s : Store} → s ≡ store_of (empty 0 0 0) → ProgramAt (memory_of s (replicate 24576 0) (replicate 8192 0) (replicate 1024 0)) []
unfolding initial no_versions
from_start e = subst (λ s. ProgramAt (memory_of s (replicate 24576 0) (replicate 8192 0) (replicate 1024 0)) []) (sym e) start

pub loop-init : goal.loop-init
loop-init g c = (omega arith, from_start c.fresh-store.ensures)
