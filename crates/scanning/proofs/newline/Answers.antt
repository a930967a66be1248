-- The first newline behind the eights, or the end. Assumes nothing.
use Rattle.std.proofs.Common.{rules, tests, ◌≡◌, ◌-◌, ◌∙◌, sym, length, take, drop}
use Rattle.std.proofs.lemmas.List.{take_rest}
use Rattle.std.proofs.lemmas.Iterator.{IsFirst-from_position, YieldsList-from_slice}
use Rattle.scanning.proofs.Newlines.{newline_at}
use Rattle.scanning.proofs.newline.Goals as goal

pub returns-clause-value : goal.returns-clause-value
returns-clause-value c =
    let s = c.args.s.now in
    let at = c.pass_eights-at.result in
    let t : take (length s - at) (drop at s) ≡ drop at s = take_rest s at in
    let f = IsFirst-from_position _ _ _ (λ b. b ≡ 10) (λ b. b ≡ 10 → ⊥) c.position-found.ensures.ran
    (YieldsList-from_slice (drop at s) (c.iter.ensures.rest ∙ t)) (λ x q k. search (rules, tests)) (λ x q k. search (rules, tests)) in
    rw (c.unwrap_or.ensures, t) (newline_at s at c.position-found.result c.pass_eights-at.ensures.lower_bound.1 f ∙ sym c.pass_eights-at.ensures.no_newline)
