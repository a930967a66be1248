-- No newline is in an eight that is passed. Assumes nothing.
use Rattle.std.proofs.Common.{rules, tests, ◌≡◌, ◌-◌, ◌/◌, ◌∙◌, true, false, length, take, drop}
use native.Mathlib.Omega.{arith}
use lib.ListN.{length-drop}
use Rattle.std.specs.Simd.{first_chunks}
use Rattle.std.proofs.lemmas.List.{take_rest}
use Rattle.std.proofs.lemmas.Iterator.{IsFirst-from_position, YieldsList-from_slice}
use Rattle.scanning.proofs.Newlines.{has_newline, eights_found}
use Rattle.scanning.proofs.pass_eights.Goals as goal

pub returns-clause-no_newline : goal.returns-clause-no_newline
returns-clause-no_newline c =
    let s = c.args.s.now in
    let from = c.args.from in
    let t : take (length s - from) (drop from s) ≡ drop from s = take_rest s from in
    let m = length (drop from s) / 8 in
    let n : length (first_chunks 8 m (drop from s)) ≡ m = rw t at (rw c.as_chunks.ensures.front at c.as_chunks.ensures.front_len) in
    let f = IsFirst-from_position _ _ _ (λ x. has_newline x ≡ true) (λ x. has_newline x ≡ false) c.position-passed.ensures.ran
    (YieldsList-from_slice (first_chunks 8 m (drop from s)) (rw t at (c.iter.ensures.rest ∙ c.as_chunks.ensures.front)))
    (λ x q k. search (rules, tests)) (λ x q k. search (rules, tests)) in
    rw (c.unwrap_or.ensures, c.as_chunks.ensures.front_len, t)
    (eights_found s from m c.position-passed.result (omega (arith, length-drop from s)) (rw n at f))
