-- `session::feed`: what is left to say, behind what was said, is all that is to be said.
-- Assumes nothing.
use Prim.Native.Nat.{ℕ, ◌+◌, ◌≤◌, ◌<◌}
use mathlib.Core.Path.{◌≡◌, ◌∙◌, refl, sym}
use mathlib.Core.Logic.{◌⊎◌, inl, inr, ⊎_elim}
use native.Mathlib.Omega.{arith}
use lib.ListN.{length}
use Rattle.spec.specs.Bytes.{memory_of}
use Rattle.record.specs.Inner.{store_at}
use Rattle.scanning.proofs.Newlines.{newline_end}
use Rattle.session.proofs.Chunks.{rest_at, text_more, state_more}
use Rattle.session.proofs.feed.Goals as goal

onward : {start from used at e : ℕ} → (start < from) ⊎ ((from ≡ start) × (used ≡ at)) → from ≤ e → start < e + 1
onward p h = ⊎_elim (λ m. omega arith) (λ m. omega (arith, m.0)) p

-- from the invariant, where the loop ends
pub loop-from-init : goal.loop-from-init
loop-from-init c =
    ((refl, refl, refl, refl, refl, refl, refl), (omega arith, omega arith, refl, refl, refl, refl, refl, refl, inr (refl, refl)))

pub returns-then-out-lt-ANSWER_ROOM-clause-fed : goal.returns-then-out-lt-ANSWER_ROOM-clause-fed
returns-then-out-lt-ANSWER_ROOM-clause-fed c =
    let l = c.loop-from.invariant.1 in
    record { text = l.5; state = l.6; rest = l.7; within = l.0; room = l.1; stopped = inl (omega arith); moved = l.8 }

pub returns-then-out-used-clause-fed : goal.returns-then-out-used-clause-fed
returns-then-out-used-clause-fed c =
    let l = c.loop-from.invariant.1 in
    record { text = l.5; state = l.6; rest = l.7; within = l.0; room = l.1; stopped = inl (omega arith); moved = l.8 }

pub returns-then-buf-end-clause-fed : goal.returns-then-buf-end-clause-fed
returns-then-buf-end-clause-fed c =
    let l = c.loop-from.invariant.1 in
    let e : c.newline-end.result ≡ length c.args.buf.now = omega arith in
    record { text = l.5; state = l.6; rest = l.7; within = l.0; room = l.1; stopped = inr (sym c.newline-end.ensures.value ∙ e); moved = l.8 }

pub loop-from-smaller : goal.loop-from-smaller
loop-from-smaller c = omega (arith, c.newline-end.ensures.lower_bound.0, c.loop-from-test.true)

pub loop-from-preserved : goal.loop-from-preserved
loop-from-preserved c =
    let l = c.loop-from in
    let i = l.invariant.1 in
    let s = c.args.buf.now in
    let line = c.newline-end in
    let after = line.ensures.lower_bound.0 in
    let h : line.result < length s = omega (arith, c.if-buf-end.false) in
    let w = memory_of (store_at l.r) l.rows l.commits l.versions in
    let k = c.answer_line-used.new in
    let w' = memory_of (store_at k.r) k.rows k.commits k.versions in
    let says = c.answer_line-used.ensures.says in
    let size = c.answer_line-used.auto in
    let f = l.invariant.0 in
    let g = c.answer_line-used.ensures.same in (
      (g.0 ∙ f.0, g.1 ∙ f.1, g.2 ∙ f.2, g.3 ∙ f.3, g.4 ∙ f.4, g.5 ∙ f.5, g.6 ∙ f.6),
      (
        omega (arith, h),
        omega (arith, says.room, size.out, c.if-out-used.false, c.if-out-lt-ANSWER_ROOM.false),
        size.out ∙ i.2,
        size.rows ∙ i.3,
        size.commits ∙ i.4,
        text_more s l.from line.result line.ensures.value after h w w' l.out k.out l.used c.answer_line-used.result says _ i.5,
        state_more s l.from line.result line.ensures.value after h w w' l.out k.out l.used c.answer_line-used.result says _ i.6,
        sym (rest_at s l.from line.result line.ensures.value after h) ∙ i.7,
        inl (onward i.8 after),
      ),
    )

pub returns-clause-fed : goal.returns-clause-fed
returns-clause-fed c =
    let l = c.loop-from.invariant.1 in
    let s = c.args.buf.now in
    let e : c.loop-from.from ≡ length s = omega arith in
    record {
      text = l.5;
      state = l.6;
      rest = l.7;
      within = l.0;
      room = l.1;
      stopped = inr (newline_end s c.loop-from.from c.loop-from-test.false ∙ e);
      moved = l.8;
    }
