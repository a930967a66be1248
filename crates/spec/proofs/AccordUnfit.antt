-- "A store is unfit if a buffer's length isn't that of its set-up, a row count exceeds its rows, its rows aren't 1 to 1,024, or a stage is unknown", and
-- else it is fit: for every record and all lengths. The facts but the stages are FitFacts (Ends.antt); examples at the bounds are in AccordFit.antt.
-- Assumes nothing.
use Prim.Native.Nat.{ℕ, zero, suc, ◌*◌, ◌≤◌, ◌<◌}
use native.Mathlib.Omega.{arith}
use mathlib.Core.Path.{◌≡◌, refl}
use mathlib.Core.Bool.{true, not}
use mathlib.Core.List.{List, [], ◌∷◌}
use borrow.Author.Tests.{ltb-false, le-ltb, eq-eqb}
use lib.Dec.{eqb, ltb}
use lib.ListN.{get_or}
use Rattle.spec.specs.declared.Store.{Store}
use Rattle.spec.specs.Bytes.{known, fits}
use Rattle.spec.proofs.Ends.{unless, FitFacts}

-- the stages of the clients below n are known exactly where each is at most 13
known_each : (l : List ℕ) (n : ℕ) → known l n ≡ true → (k : ℕ) → k < n → get_or l k 0 ≤ 13
unfolding known
known_each l zero e k h = absurd (omega (arith, h))
known_each [] (suc n) e zero h = omega arith
known_each [] (suc n) e (suc k) h = omega arith
known_each (g ∷ l) (suc n) e zero h = ltb-false 13 g (unless (ltb 13 g) (known l n) e).0
known_each (g ∷ l) (suc n) e (suc k) h = known_each l n (unless (ltb 13 g) (known l n) e).1 k (omega (arith, h))

known_all : (l : List ℕ) (n : ℕ) → ((k : ℕ) → k < n → get_or l k 0 ≤ 13) → known l n ≡ true
unfolding known
known_all l zero h = refl
known_all [] (suc n) h = refl
known_all (g ∷ l) (suc n) h = rw (le-ltb 13 g (h 0 (omega arith))) (known_all l n (λ k q. h (suc k) (omega (arith, q))))

-- a fit store's stages are known, those of all 64 clients (document 02, 12)
pub stages_known : (s : Store) (d c : ℕ) → fits s d c ≡ true → (k : ℕ) → k < 64 → get_or s.stage k 0 ≤ 13
unfolding fits
stages_known s d c e =
    let a = unless (ltb s.rows 1) _ e in
    let b = unless (ltb 1024 s.rows) _ a.1 in
    let f = unless (not (eqb d (24 * s.rows))) _ b.1 in
    let g = unless (not (eqb c (8 * s.rows))) _ f.1 in
    let h = unless (ltb s.rows s.used) _ g.1 in
    let k = unless (ltb s.rows s.entries) _ h.1 in
    known_each s.stage 64 k.1

-- and nothing more is asked
pub fit_if : (s : Store) (d c : ℕ) → FitFacts s d c → ((k : ℕ) → k < 64 → get_or s.stage k 0 ≤ 13) → fits s d c ≡ true
unfolding fits
fit_if s d c f h =
    rw (
      le-ltb s.rows 1 f.some,
      le-ltb 1024 s.rows f.most,
      eq-eqb d (24 * s.rows) f.data_length,
      eq-eqb c (8 * s.rows) f.commit_length,
      le-ltb s.rows s.used f.data_rows,
      le-ltb s.rows s.entries f.commit_rows,
    ) (known_all s.stage 64 h)
