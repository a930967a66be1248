-- An enquiry. Begin answers the last number of the book and opens the client at stage 0 with no writes; while it neither writes nor advances, that
-- stays so, and the book as it was then stays its first part (`looks_lasts`). Of the right answers to its Advance only Done is left: stage 1 is
-- reached with writes alone, Waiting and Conflict come at later stages, Done at stage 13 too, and an open client is not refused. The number that
-- Done gives is the last of that part of the book: what Begin answered.
-- Assumes nothing.
use Prim.Native.Nat.{ℕ, ◌≤◌}
use mathlib.Core.Path.{◌≡◌, refl, sym, ap, ◌∙◌, subst}
use mathlib.Core.Logic.{⊎_elim}
use mathlib.Core.Bool.{false≢true}
use mathlib.Core.List.{List, [], ◌∷◌}
use mathlib.Core.Option.{some}
use native.Mathlib.Omega.{arith}
use lib.ListN.{length, take, length-append}
use lib.Seq.{take-length, take-append-le}
use Rattle.spec.specs.declared.Begun.{Begun}
use Rattle.spec.specs.declared.Progress.{Progress}
use Rattle.spec.specs.declared.Progress.TheVariants.{Stage, Waiting, Conflict, Done}
use Rattle.spec.specs.Answers.{Answer, Answered, Refused}
use Rattle.spec.specs.Run.{Call, Begin, Advance}
use Rattle.spec.specs.Bytes.{Memory}
use Rattle.spec.specs.Table.{Commit, Open, Table, newly_open, update}
use Rattle.spec.specs.Right.{Bounds, last_number, Wrote, RightBegin, RightProgress, RightAdvance, RightRun}
use Rattle.history.proofs.Lists.{none-some, same_some}
use Rattle.demands.specs.Demand.{Nowhere, Never, Enquiry}
use Rattle.demands.proofs.Between.{put_same, HoldsIn, Lasts, two-calls}

-- the client has only looked: it began with the book's first part, whose last number is s
record Looks (s : ℕ) (o : Open) (l : List Commit) : Type 0 where
  stage : o.stage ≡ 0
  nothing : Wrote o → ⊥
  since : o.since ≤ length l
  number : last_number (take o.since l) ≡ s

looks_lasts : (s : ℕ) → Lasts Nowhere Never (Looks s)
looks_lasts s = record {
  wrote = λ o l y b n h. absurd n;
  moved = λ o l g n r p h. absurd p;
  grown = λ o l e h. record {
    stage = h.stage;
    nothing = h.nothing;
    since = omega (arith, h.since, length-append l (e ∷ []));
    number = ap last_number (take-append-le o.since l (e ∷ []) h.since) ∙ h.number;
  };
  conflict = λ n p. p;
  done = λ n p. p;
}

begin_holds : (k w : ℕ) (b : Begun) (t : Table) → RightBegin w t k (Answered b) → HoldsIn k (Looks b.snapshot) (update (Begin k) (Answered b) t)
unfolding update
begin_holds k w b t r = (
  newly_open t,
  put_same k (some (newly_open t)) t.clients,
  record {
    stage = refl;
    nothing = λ h. false≢true h.1;
    since = omega arith;
    number = ap last_number (take-length t.book) ∙ sym r.snapshot;
  },
)

-- a right answer to the Advance of such a client
finishes : (s k : ℕ) (t : Table) → HoldsIn k (Looks s) t → (a : Answer Progress) → RightAdvance t k a → a ≡ Answered (Done s)
finishes s k t h (Refused n) r = absurd (none-some r h.1)
finishes s k t h (Answered a) r = ap (λ (y : Progress). Answered y)
    (only a (subst (λ (o : Open). RightProgress t o a) (same_some (sym r.found ∙ h.1)) r.progress))
  where
    only : (a : Progress) → RightProgress t h.0 a → a ≡ Done s
    only (Stage g) p = absurd (h.2.nothing (p.wrote (omega (arith, p.next, h.2.stage))))
    only (Waiting n) p = ⊎_elim (λ e. absurd (omega (arith, e, h.2.stage))) (λ e. absurd (omega (arith, e, h.2.stage))) p.stage
    only (Conflict n) p = absurd (omega (arith, p.stage, h.2.stage))
    only (Done n) p = ⊎_elim (λ d. absurd (omega (arith, d.from, h.2.stage))) (λ d. ap (λ (y : ℕ). Done y) (d.number ∙ h.2.number)) p

pub enquiry_run : (qs : List Call) (n : Bounds) (w : ℕ) (t : Table) (m : Memory) → RightRun n w t m qs → Enquiry m qs
enquiry_run qs n w t m r k before between rest b split e c =
    let z = two-calls Nowhere Never k (Looks b.snapshot) (looks_lasts b.snapshot) (Begin k) (Advance k) between rest b
    (λ n w t next s. begin_holds k w b t s) before n w t m (subst (RightRun n w t m) split r) e c in
    finishes b.snapshot k z.0 z.1 _ z.2.2
