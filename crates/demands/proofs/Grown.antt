-- A store grown from set-up where only clients below n are named (`Grown`): what holds between two calls, and what a call does to it. Beside what
-- demand 3 keeps, both queues' lists name only others that are in the queue, and the clients from n on are closed.
-- Assumes nothing.
use Prim.Native.Nat.{ℕ, ◌≤◌, ◌<◌}
use mathlib.Core.Path.{◌≡◌, refl, ap}
use mathlib.Core.Logic.{inl, inr, by_cases}
use mathlib.Core.Bool.{true}
use native.Mathlib.Decide.{ℕ_discrete, dec_lt}
use native.Mathlib.Omega.{arith}
use Rattle.spec.specs.Image.{Image}
use Rattle.spec.specs.Run.{Call, perform}
use Rattle.spec.specs.Right.{Bounds}
use Rattle.history.proofs.Model.{Client}
use Rattle.history.proofs.Plain.{Plain, updateₚ}
use Rattle.history.proofs.View.{view, stage_at}
use Rattle.history.proofs.Invariant.{Inv}
use Rattle.history.proofs.Simulates.{observed_outcome}
use Rattle.history.proofs.AllCalls.{Reached, transition_of, good_next, observed_by}
use Rattle.demands.specs.Rounds as calls
use Rattle.demands.specs.Rounds.{Below, serves}
use Rattle.history.proofs.Effects.{request_side, commit_side, OnLists, Same, Effect}
use Rattle.demands.proofs.Changes.{Change, change, call_effect, Brings, served_by}

-- what call c leaves of image s
abbrev pub next : Image → Call → Image
next s c = (perform c s).image

abbrev pub client : Image → ℕ → Client
client s b = (view s).cl b

pub record Grown (n : ℕ) (s : Image) : Type 0 where
  pub bounds : Bounds
  pub upcoming : ℕ
  pub table : Plain
  pub good : Reached bounds upcoming s table
  pub lists_R : OnLists request_side (view s).cl
  pub lists_C : OnLists commit_side (view s).cl
  pub named : (b : ℕ) → n ≤ b → (client s b).number ≡ 0

module _ {n : ℕ} (s : Image) (g : Grown n s) where
  pub inv : Inv g.bounds (view s) g.table
  inv = g.good.inv

  pub is_open_lem : (b : ℕ) → 1 ≤ (client s b).stage → 1 ≤ (client s b).number
  is_open_lem b h = by_cases (ℕ_discrete (client s b).number 0) (λ e. absurd (omega (arith, (inv.one b).idle e))) (λ m. omega arith)

  pub is_below : (b : ℕ) → 1 ≤ (client s b).stage → b < n
  is_below b h = by_cases (dec_lt b n) (λ k. k) (λ k. absurd (let o = is_open_lem b h in let z = g.named b (omega arith) in omega arith))

  pub at_most_13 : (b : ℕ) → (client s b).stage ≤ 13
  at_most_13 b = omega (arith, g.good.fine.tidy.stage.each b, stage_at s b)

  -- ---- one call

  pub changed : (c : Call) → Change (view s) c (observed_outcome c (perform c s))
  changed c = change (view s) (λ b. (inv.one b).idle) (transition_of g.good c)

  pub does : (c : Call) → Effect c (view s) (view (next s c))
  does c = call_effect (λ b. (inv.one b).idle) (changed c)

  pub gets : (c : Call) (b : ℕ) → serves b c (observed_by c s) ≡ true → 1 ≤ (client s b).stage → Brings (view s) (view (next s c)) b
  gets c b d h = served_by (changed c) b d h

pub grows : {n : ℕ} (s : Image) (c : Call) → Grown n s → Below n c → Grown n (next s c)
grows {n} s c g o =
    let x = does s g c in
    record {
      bounds = g.bounds;
      upcoming = _;
      table = _;
      good = good_next g.good c;
      lists_R = x.lists_R g.lists_R;
      lists_C = x.lists_C g.lists_C;
      named = λ b h. elim ((x.keep b).shut (g.named b h)) [ inl e ↦ e | inr e ↦ absurd (let l = o b (ap calls.named e.0) e.1 in omega arith) ];
    }

pub grows-table : {n : ℕ} (s : Image) (c : Call) (g : Grown n s) (o : Below n c) → (grows s c g o).table ≡ updateₚ g.table c (observed_by c s)
unfolding grows
grows-table s c g o = refl

-- a transaction at stage 2 or later after a call is the one before it
pub same_after : {n : ℕ} (s : Image) (c : Call) → Grown n s → Below n c → (b : ℕ) → 2 ≤ (client (next s c) b).stage
    → Same (client s b) (client (next s c) b)
same_after s c g o b h =
    let k = (does s g c).keep b in
    let e = k.alive h in
    let p = is_open_lem (next s c) (grows s c g o) b (omega arith) in
    let w = ((inv s g).tab.mine b (omega arith)).num_le in
    k.held p (omega arith)
