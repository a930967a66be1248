-- How a call ends: the laws by which each return of a call's code is shown to be what the call's definition leaves.
-- Assumes nothing.
use Prim.Native.Nat.{ℕ, zero, suc, ◌*◌, ◌/◌, ◌≤◌}
use mathlib.Core.Path.{◌≡◌, refl}
use mathlib.Core.Bool.{Bool, true, false, not, false≢true}
use mathlib.Core.List.{List, [], ◌∷◌}
use borrow.Author.Tests.{eqb-true, eqb-false, ltb-false, not-false}
use lib.Dec.{eqb, ltb}
use lib.ListN.{length, get_or}
use Rattle.std.specs.Prelude.{if◌then◌else◌}
use Rattle.spec.specs.Rows.{rows_in, layout}
use Rattle.spec.proofs.Rows.{length_rows}
use Rattle.spec.proofs.Laid.{laid_same}
use Rattle.spec.specs.declared.Store.{Store}
use Rattle.spec.specs.Answers.{Answer, Refused, unfit}
use Rattle.spec.specs.Image.{Counters, Clients, image_of, Image}
use Rattle.spec.specs.Calls.{Outcome}
use Rattle.spec.specs.Bytes.{counters_in, clients_in, record_of, decode, store_of, After, after_of, encode, known, fits, on_bytes, accepts}

-- the tests of a chain that ends in true
pub unless : (a b : Bool) → (if a then false else b) ≡ true → (a ≡ false) × (b ≡ true)
unless true b e = absurd (false≢true e)
unless false b e = (refl, e)

-- one client more
pub known_next : (l : List ℕ) (n : ℕ) → known l (suc n) ≡ (if ltb 13 (get_or l n 0) then false else known l n)
unfolding known
known_next [] zero = refl
known_next [] (suc n) = refl
known_next (g ∷ l) zero = refl
known_next (g ∷ l) (suc n) = rw (known_next l n) (swap (ltb 13 g) (ltb 13 (get_or l n 0)) (known l n))
  where
    swap : (a b c : Bool) → (if a then false else if b then false else c) ≡ (if b then false else if a then false else c)
    swap true true c = refl
    swap true false c = refl
    swap false b c = refl

-- what a fit store is
pub record FitFacts (s : Store) (d c : ℕ) : Type 0 where
  pub some : 1 ≤ s.rows
  pub most : s.rows ≤ 1024
  pub data_length : d ≡ 24 * s.rows
  pub commit_length : c ≡ 8 * s.rows
  pub data_rows : s.used ≤ s.rows
  pub commit_rows : s.entries ≤ s.rows

pub fit_of : (s : Store) (d c : ℕ) → fits s d c ≡ true → FitFacts s d c
unfolding fits
fit_of s d c e =
    let a = unless (ltb s.rows 1) _ e in
    let b = unless (ltb 1024 s.rows) _ a.1 in
    let f = unless (not (eqb d (24 * s.rows))) _ b.1 in
    let g = unless (not (eqb c (8 * s.rows))) _ f.1 in
    let h = unless (ltb s.rows s.used) _ g.1 in
    let k = unless (ltb s.rows s.entries) _ h.1 in
    record {
      some = ltb-false _ _ a.0;
      most = ltb-false _ _ b.0;
      data_length = eqb-true _ _ (not-false (eqb d (24 * s.rows)) f.0);
      commit_length = eqb-true _ _ (not-false (eqb c (8 * s.rows)) g.0);
      data_rows = ltb-false _ _ h.0;
      commit_rows = ltb-false _ _ k.0;
    }

-- what an accepted set-up was given
pub record Accepted (d c w l : ℕ) : Type 0 where
  pub data_length : d ≡ 24 * (d / 24)
  pub some : 1 ≤ d / 24
  pub most : d / 24 ≤ 1024
  pub commit_length : c ≡ 8 * (d / 24)
  pub first : w ≡ 0 → ⊥

pub accepted : (d c w l : ℕ) → accepts d c w l ≡ true → Accepted d c w l
unfolding accepts
accepted d c w l e =
    let f = unless (not (eqb d (24 * (d / 24)))) _ e in
    let g = unless (ltb (d / 24) 1) _ f.1 in
    let h = unless (ltb 1024 (d / 24)) _ g.1 in
    let k = unless (not (eqb c (8 * (d / 24)))) _ h.1 in
    let n = unless (eqb w 0) _ k.1 in
    record {
      data_length = eqb-true _ _ (not-false (eqb d (24 * (d / 24))) f.0);
      some = ltb-false _ _ g.0;
      most = ltb-false _ _ h.0;
      commit_length = eqb-true _ _ (not-false (eqb c (8 * (d / 24))) k.0);
      first = eqb-false _ _ n.0;
    }

module _ {A : Type 0} (s : Store) (d c : List ℕ) where
  -- an outcome laid out, by its record, its buffers and its version table
  pub ends : (o : Outcome A) (s' : Store) (d' c' : List ℕ) (a : Answer A)
      → s' ≡ store_of o.image → d' ≡ layout 24 s.used o.image.data_rows d → c' ≡ layout 8 s.entries o.image.commit_rows c
      → a ≡ o.answer
      → after_of s' d' c' o.image.versions a ≡ encode s d c o
  unfolding encode
  ends o s' d' c' a e f g h = rw (e, f, g, h)

  module _ (v : List ℕ) where
    -- one that leaves the rows as they were
    pub ends_same : (n : Counters) (k : Clients) (a : Answer A)
        → after_of (record_of s.rows s.limit n k s.used s.entries) d c v a
        ≡ encode s d c (record { image = image_of s.rows s.limit n k (rows_in 24 s.used d) (rows_in 8 s.entries c) v; answer = a })
    unfolding encode store_of
    ends_same n k a = rw (length_rows 24 s.used d, length_rows 8 s.entries c, laid_same 24 s.used d, laid_same 8 s.entries c)

    -- nothing changed
    pub image-stays : (o : Outcome A) (a : Answer A) → o ≡ record { image = decode s d c v; answer = a } → after_of s d c v a ≡ encode s d c o
    unfolding decode
    image-stays o a e = rw e (ends_same (counters_in s) (clients_in s) a)

    module _ (f : Image → Outcome A) where
      -- a store that is not fit
      pub ends-unfit : fits s (length d) (length c) ≡ false → after_of s d c v (Refused unfit) ≡ on_bytes f s d c v
      unfolding on_bytes
      ends-unfit e = rw e

      -- a fit one: what the call makes of the image, laid out
      pub goes : {o : After A} → fits s (length d) (length c) ≡ true → o ≡ encode s d c (f (decode s d c v)) → o ≡ on_bytes f s d c v
      unfolding on_bytes
      goes e h = rw e h

      -- a call that leaves the rows as they were
      pub settles : (n : Counters) (k : Clients) (a : Answer A) → fits s (length d) (length c) ≡ true
          → f (decode s d c v) ≡ record { image = image_of s.rows s.limit n k (rows_in 24 s.used d) (rows_in 8 s.entries c) v; answer = a }
          → after_of (record_of s.rows s.limit n k s.used s.entries) d c v a ≡ on_bytes f s d c v
      unfolding on_bytes
      settles n k a e h = rw (e, h) (ends_same n k a)

      -- a refusal
      pub refuses : (a : Answer A) → fits s (length d) (length c) ≡ true → f (decode s d c v) ≡ record { image = decode s d c v; answer = a }
          → after_of s d c v a ≡ on_bytes f s d c v
      unfolding decode
      refuses a e h = settles (counters_in s) (clients_in s) a e h
