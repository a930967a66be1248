-- A read that fails leaves the kept bytes and what is still to be read.
use Rattle.std.proofs.Common.{◌≡◌, take}
use Rattle.std.specs.Io.KnownBytes.{Keeps}
use Rattle.streams.proofs.read_after.Given as goal

abbrev pub invariant-loop : goal.invariant-loop
invariant-loop g l =
    (take l.fn.have l.buf ≡ take l.fn.have l.fn.buf)
    × Keeps (g.R.Read.remaining l.fn.input) (g.R.Read.remaining l.input)
