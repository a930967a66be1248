-- Passes over rows. A pass (`Next`) goes from row `from` to the next hit r: what holds on past every row that is no hit holds at r (`carry`), and
-- whatever takes no notice of such a row is the same from `from` on as from r on (`skip`). A pass that has found nothing before row i is
-- `Past Hit from i`: rows are added to it one by one, and a hit ends it. A pass from the end (`Last`) goes from row n to the last hit before it: what
-- holds before every row that is no hit if it holds behind it holds at its end (`carry_back`).
-- Assumes nothing.
use Prim.Native.Nat.{ℕ, zero, suc, ◌+◌, ◌-◌, ◌≤◌, ◌<◌}
use mathlib.Core.Path.{◌≡◌, refl, ◌∙◌}
use mathlib.Core.Bool.{Bool, true, false}
use native.Mathlib.Nat.{add-zero}
use native.Mathlib.Decide.{dec_lt}
use native.Mathlib.Omega.{arith}
use borrow.Author.Count.{below_more}
use Rattle.search.specs.Inner.{FirstBy, LastBy, Next, Last}

carry_by : (P : ℕ → Type 0) (d from : ℕ) → ((k : ℕ) → from ≤ k → k < from + d → P k → P (k + 1)) → P from → P (from + d)
carry_by P zero from more p = rw add-zero p
carry_by P (suc d) from more p =
    let e : from + 1 + d ≡ from + suc d = omega arith in
    rw (← e) (carry_by P d (from + 1) (λ k l b. more k (omega arith) (omega arith)) (more from (omega arith) (omega arith) p))

pub carry : {Hit : ℕ → Type 0} {from n r : ℕ} (P : ℕ → Type 0) → Next Hit from n r → ((k : ℕ) → k < n → (Hit k → ⊥) → P k → P (k + 1)) → P from → P r
carry {from = from} {r = r} P pass more p =
    let e : from + (r - from) ≡ r = omega (arith, pass.start) in
    let q : P (from + (r - from)) = carry_by P (r - from) from
    (λ k l b. more k (omega (arith, pass.end)) (pass.misses k l (omega (arith, pass.start)))) p in
    rw e at q

pub skip : {A : Type 0} {Hit : ℕ → Type 0} {from n r : ℕ} (F : ℕ → A) → Next Hit from n r
    → ((k : ℕ) → k < n → (Hit k → ⊥) → F k ≡ F (k + 1)) → F from ≡ F r
skip {from = from} F pass h = carry (λ k. F from ≡ F k) pass (λ k l m e. e ∙ h k l m) refl

-- ---- row by row

-- one more row that is no hit
pub miss_more : (Hit : ℕ → Type 0) (from i : ℕ) → ((k : ℕ) → from ≤ k → k < i → Hit k → ⊥) → (Hit i → ⊥) → (k : ℕ) → from ≤ k → k < i + 1 → Hit k → ⊥
miss_more Hit from i all here k l b = below_more (λ k. from ≤ k → Hit k → ⊥) i (λ k b l. all k l b) (λ l. here) k b l

abbrev pub Past : (ℕ → Type 0) → ℕ → ℕ → Type 0
Past Hit from i = Next Hit from i i

module _ {Hit : ℕ → Type 0} {from : ℕ} where
  -- no row passed yet
  pub past_none : {n : ℕ} → n ≡ from → Past Hit from n
  past_none e = record { start = omega arith; end = omega arith; misses = λ k l b h. omega arith; hit = λ l. absurd (omega arith) }

  module _ {i : ℕ} (pass : Past Hit from i) where
    pub past-miss : {n : ℕ} → n ≡ i + 1 → (Hit i → ⊥) → Past Hit from n
    past-miss e here =
        record {
          start = omega (arith, pass.start);
          end = omega arith;
          misses = λ k l b. miss_more Hit from i pass.misses here k l (omega arith);
          hit = λ l. absurd (omega arith);
        }

    -- a hit
    pub past-found : {n : ℕ} → i < n → Hit i → Next Hit from n i
    past-found l here = record { start = pass.start; end = omega arith; misses = pass.misses; hit = λ b. here }

    -- a pass over the rest
    pub past-joined : {n r : ℕ} → Next Hit i n r → Next Hit from n r
    past-joined {r = r} rest =
        record { start = omega (arith, pass.start, rest.start); end = rest.end; misses = λ k l b. misses k l b (dec_lt k i); hit = rest.hit }
      where
        misses : (k : ℕ) → from ≤ k → k < r → Dec (k < i) → Hit k → ⊥
        misses k l b (yes a) = pass.misses k l a
        misses k l b (no a) = rest.misses k (omega (arith, a)) b

-- ---- from the end

down_by : (P : ℕ → Type 0) (d r : ℕ) → ((k : ℕ) → r ≤ k → k < r + d → P (k + 1) → P k) → P (r + d) → P r
down_by P zero r more p =
    let q : P (r + zero) = p in
    rw add-zero at q
down_by P (suc d) r more p =
    let e : r + suc d ≡ r + d + 1 = omega arith in
    let q : P (r + suc d) = p in
    down_by P d r (λ k l b. more k l (omega arith)) (more (r + d) (omega arith) (omega arith) (rw e at q))

pub down_to : (P : ℕ → Type 0) (n r : ℕ) → r ≤ n → ((k : ℕ) → r ≤ k → k < n → P (k + 1) → P k) → P n → P r
down_to P n r h more p =
    let e : n ≡ r + (n - r) = omega arith in
    let q : P n = p in
    down_by P (n - r) r (λ k l b. more k l (omega arith)) (rw e at q)

pub carry_back : {Hit : ℕ → Type 0} {n r : ℕ} (P : ℕ → Type 0) → Last Hit n r → ((k : ℕ) → k < n → (Hit k → ⊥) → P (k + 1) → P k) → P n → P r
carry_back {n = n} {r = r} P pass more = down_to P n r pass.end (λ k l b. more k b (pass.misses k l b))

module _ {Hit : ℕ → Type 0} {n : ℕ} where
  -- no row is a hit
  pub last_none : ((k : ℕ) → k < n → Hit k → ⊥) → Last Hit n 0
  last_none all = record { end = omega arith; misses = λ k l b. all k b; hit = λ h. absurd (omega arith) }

-- ---- what a test's answers say of rows

-- a pass finds the next hit, where the test holds of hits and of nothing else
pub next_by : {Answers : ℕ → Bool → Type 0} {Hit : ℕ → Type 0} {from n r : ℕ} → FirstBy Answers from n r
    → ((k : ℕ) → k < n → Answers k true → Hit k) → ((k : ℕ) → k < n → Answers k false → Hit k → ⊥) → Next Hit from n r
next_by pass hits others =
    record {
      start = pass.start;
      end = pass.end;
      misses = λ k l b. others k (omega (arith, pass.end)) (pass.misses k l b);
      hit = λ b. hits _ b (pass.hit b);
    }

pub last_by : {Answers : ℕ → Bool → Type 0} {Hit : ℕ → Type 0} {n r : ℕ} → LastBy Answers n r
    → ((k : ℕ) → k < n → Answers k true → Hit k) → ((k : ℕ) → k < n → Answers k false → Hit k → ⊥) → Last Hit n r
last_by pass hits others =
    record {
      end = pass.end;
      misses = λ k l b. others k b (pass.misses k l b);
      hit = λ b. hits _ (omega (arith, pass.end)) (pass.hit b);
    }
