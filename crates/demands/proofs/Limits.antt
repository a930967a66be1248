-- No transaction writes more cells than the limit. A client that begins has written none. An answered Write to a cell that the client has written
-- leaves the count of its cells; one to another cell adds one to it, and is answered only where it was below the limit (`WriteAllowed`). No other
-- call changes what a client wrote.
-- Assumes nothing.
use Prim.Native.Nat.{ℕ}
use mathlib.Core.Path.{◌≡◌, refl, sym, ap, ◌∙◌, subst}
use mathlib.Core.Logic.{◌≢◌, by_cases}
use mathlib.Core.Bool.{Bool, true, false}
use mathlib.Core.List.{List}
use mathlib.Core.Option.{Option, none, some}
use native.Mathlib.Decide.{ℕ_discrete}
use native.Mathlib.Omega.{arith}
use lib.Dec.{eqb}
use Rattle.spec.specs.declared.Progress.TheVariants.{Stage, Waiting, Conflict, Done}
use Rattle.spec.specs.Answers.{Answer, Answered, Refused}
use Rattle.spec.specs.Rows.{cells}
use Rattle.spec.specs.Run.{Call, Begin, Read, Write, Advance, Abandon, Trim, Free}
use Rattle.spec.specs.Bytes.{Memory}
use Rattle.spec.specs.Table.{Value, Values, has, Open, Table, blank, unwritten, override, with_client, with_writes, at_stage, newly_open}
use Rattle.spec.specs.Table.{on_stage, Observed, update}
use Rattle.spec.specs.Right.{Bounds, WriteAllowed, Right, RightRun}
use Rattle.history.proofs.Lists.{none-some, same_some}
use Rattle.history.proofs.Counts.{valued_none, valued_same, valued_more}
use Rattle.demands.specs.Afterwards.{table_after}
use Rattle.demands.specs.Demand.{Within, Capped}
use Rattle.demands.proofs.Book.{by_branch, along}
use Rattle.demands.proofs.Between.{put_same, put_other}

-- ---- one cell more

module _ (o : Open) (x : ℕ) (v : Value) where
  abbrev w : Values
  w = o.writes

  here : has (override x (some v) w x) ≡ true
  here = ap has (put_same x (some v) w)

  elsewhere : (y : ℕ) → y ≢ x → has (override x (some v) w y) ≡ has (w y)
  elsewhere y n = ap has (put_other x (some v) w y n)

  -- after an answered Write
  still_within : (limit : ℕ) → WriteAllowed limit o.stage w x v → Within limit o → Within limit (with_writes (override x (some v) w) o)
  still_within limit a h = go (has (w x)) refl
    where
      go : (b : Bool) → has (w x) ≡ b → Within limit (with_writes (override x (some v) w) o)
      go true e =
          omega (
            arith,
            h,
            valued_same cells (override x (some v) w) w (λ y _.
                by_cases (ℕ_discrete y x) (λ q. ap (λ (z : ℕ). has (override x (some v) w z)) q ∙ here ∙ sym e ∙ ap (λ (z : ℕ). has (w z))
                (sym q)) (elsewhere y)),
          )
      go false e = omega (arith, a.fewer e, valued_more cells (override x (some v) w) w x a.may.cell here e elsewhere)

-- ---- one call

module _ (limit : ℕ) (t : Table) (h : Capped limit t) where
  -- client k's entry is replaced
  entry : (k : ℕ) (a : Option Open) → ((o : Open) → a ≡ some o → Within limit o) → (j : ℕ) (o : Open) → override k a t.clients j ≡ some o
      → Within limit o
  entry k a g j o e =
      by_cases (ℕ_discrete j k)
      (λ q. g o (sym (put_same k a t.clients) ∙ ap (override k a t.clients) (sym q) ∙ e))
      (λ n. h j o (sym (put_other k a t.clients j n) ∙ e))

  open_capped : (k : ℕ) (o : Open) → Within limit o → Capped limit (with_client k (some o) t)
  open_capped k o c = entry k (some o) (λ p e. subst (Within limit) (same_some e) c)

  shut_capped : (k : ℕ) → Capped limit (with_client k none t)
  shut_capped k = entry k none (λ p e. absurd (none-some refl e))

  -- a step changes no writes
  stage_capped : (k g : ℕ) (o : Open) → t.clients k ≡ some o → Capped limit (on_stage k g t (some o))
  unfolding on_stage
  stage_capped k g o e =
      let c : (f n : ℕ) → Capped limit (with_client k (some (at_stage f n o)) t) = λ f n. open_capped k (at_stage f n o) (h k o e) in
      by_branch (Capped limit) (eqb g 8) (λ _. c 8 _) (λ _. by_branch (Capped limit) (eqb g 12) (λ _. c 12 _) (λ _. c g _))

call_capped : (n : Bounds) (w : ℕ) (t : Table) (q : Call) (a : Answer (Observed q)) (next : Answer ℕ) → Right n w t q a next → Capped n.limit t
    → Capped n.limit (update q a t)
unfolding update
call_capped n w t q (Refused m) next r h = h
call_capped n w t (Begin k) (Answered a) next r h = open_capped n.limit t h k (newly_open t)
    (omega (arith, valued_none cells unwritten (λ x. refl)))
call_capped n w t (Read k x) (Answered a) next r h = h
call_capped n w t (Write k x v) (Answered a) next r h =
    rw r.found (open_capped n.limit t h k _ (still_within r.entry x v n.limit r.allowed (h k r.entry r.found)))
call_capped n w t (Advance k) (Answered (Stage g)) next r h = rw r.found (stage_capped n.limit t h k g r.entry r.found)
call_capped n w t (Advance k) (Answered (Waiting m)) next r h = h
call_capped n w t (Advance k) (Answered (Conflict m)) next r h = shut_capped n.limit t h k
call_capped n w t (Advance k) (Answered (Done m)) next r h = shut_capped n.limit t h k
call_capped n w t (Abandon k) (Answered a) next r h = shut_capped n.limit t h k
call_capped n w t Trim (Answered a) next r h = h
call_capped n w t Free (Answered a) next r h = h

-- ---- lists of calls

pub capped_run : (qs : List Call) (n : Bounds) (w : ℕ) (m : Memory) → RightRun n w blank m qs → Capped n.limit (table_after qs m blank)
unfolding blank
capped_run qs n w m r = along n (Capped n.limit) (call_capped n) qs w blank m r (λ k o e. absurd (none-some refl e))
