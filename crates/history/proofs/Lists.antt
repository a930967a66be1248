-- Lists as tables, with the laws that the proofs cite: membership by cases, the first answer of a list (a transaction's value for a cell, a
-- tag's commit number), its best answer (the largest number for a read, the smallest for the check: one proof for both), the rows that a test
-- leaves. Tests are decisions, so that a proof receives the fact itself.
-- Assumes nothing.
use Prim.Native.Nat.{ℕ, ◌≤◌}
use mathlib.Core.Path.{◌≡◌, refl, sym, ◌∙◌, ap, subst}
use mathlib.Core.Logic.{◌⊎◌, inl, inr, ite}
use mathlib.Core.List.Memᴰ.{head as here}
use mathlib.Core.List.Memᴰ.{tail as there}
use mathlib.Core.List.{List, [], ◌∷◌, ◌++◌, Memᴰ as In}
use mathlib.Core.Option.{Option, none, some, some-injective}
use native.Mathlib.Omega.{arith}
use lib.ListN.{length}

-- A guarded value: to prove G of it, prove G of both branches.
pub ite_elim {ℓ κ} : {P : Type 0} {A : Type ℓ} (G : A → Type κ) {a b : A} (d : Dec P) → (P → G a) → ((P → ⊥) → G b) → G (ite d a b)
ite_elim G (yes p) f g = f p
ite_elim G (no n) f g = g n

-- What a value says, and the empty value says nothing.
abbrev pub On : {A : Type 0} → (A → Type 0) → Option A → Type 0
On P none = ⊥
On P (some a) = P a

unfoldable pub on? : {A : Type 0} {P : A → Type 0} → ((a : A) → Dec (P a)) → (o : Option A) → Dec (On P o)
on? d none = no (λ x. x)
on? d (some a) = d a

pub on_some : {A : Type 0} {P : A → Type 0} (o : Option A) → On P o → (a : A) × (o ≡ some a) × P a
on_some none h = absurd h
on_some (some a) h = (a, refl, h)

pub some_on : {A : Type 0} (P : A → Type 0) {o : Option A} {a : A} → o ≡ some a → P a → On P o
some_on P e h = rw e h

module _ {A : Type 0} where
  pub in_nil : {a : A} → In a [] → ⊥
  in_nil h = elim h [ ]

  pub in_cons : {a b : A} {l : List A} → In a (b ∷ l) → (a ≡ b) ⊎ In a l
  in_cons (here e) = inl e
  in_cons (there i) = inr i

  pub in_case {ℓ} : {a b : A} {l : List A} {C : Type ℓ} → In a (b ∷ l) → (a ≡ b → C) → (In a l → C) → C
  in_case (here e) f g = f e
  in_case (there i) f g = g i

  pub in_left : {a : A} {l : List A} (m : List A) → In a l → In a (l ++ m)
  in_left m (here e) = here e
  in_left m (there i) = there (in_left m i)

  pub in_right : {a : A} (l : List A) {m : List A} → In a m → In a (l ++ m)
  in_right [] h = h
  in_right (b ∷ l) h = there (in_right l h)

  pub append_case {ℓ} : {a : A} (l : List A) {m : List A} {C : Type ℓ} → In a (l ++ m) → (In a l → C) → (In a m → C) → C
  append_case [] i f g = g i
  append_case (b ∷ l) i f g = in_case i (λ e. f (here e)) (λ j. append_case l j (λ k. f (there k)) g)

  -- Is there one that answers?
  unfoldable pub any? : {P : A → Type 0} → ((a : A) → Dec (P a)) → (l : List A) → Dec ((a : A) × In a l × P a)
  any? d [] = no (λ h. in_nil h.1)
  any? {P} d (b ∷ l) = go (d b) (any? d l)
    where
      go : Dec (P b) → Dec ((a : A) × In a l × P a) → Dec ((a : A) × In a (b ∷ l) × P a)
      go (yes p) e = yes (b, here refl, p)
      go (no n) (yes h) = yes (h.0, there h.1, h.2)
      go (no n) (no m) = no (λ h. elim (in_cons h.1) as (λ _. ⊥) [ inl e ↦ n (subst P e h.2) | inr i ↦ m (h.0, i, h.2) ])

  -- The rows for which a test answers no.
  unfoldable pub drop? : {P : A → Type 0} → ((a : A) → Dec (P a)) → List A → List A
  drop? d [] = []
  drop? d (b ∷ l) = ite (d b) (drop? d l) (b ∷ drop? d l)

  pub drop_in : {P : A → Type 0} (d : (a : A) → Dec (P a)) (l : List A) (a : A) → In a (drop? d l) → In a l × (P a → ⊥)
  unfolding drop?
  drop_in d [] a h = absurd (in_nil h)
  drop_in {P} d (b ∷ l) a i =
      (ite_elim (λ L. In a L → In a (b ∷ l) × (P a → ⊥)) (d b)
      (λ p h. let r = drop_in d l a h in (there r.0, r.1))
      (λ n h. in_case h (λ e. (here e, λ p. n (subst P e p))) (λ j. (there (drop_in d l a j).0, (drop_in d l a j).1)))) i

  pub in_drop : {P : A → Type 0} (d : (a : A) → Dec (P a)) (l : List A) (a : A) → In a l → (P a → ⊥) → In a (drop? d l)
  unfolding drop?
  in_drop d [] a h n = absurd (in_nil h)
  in_drop {P} d (b ∷ l) a h n =
      ite_elim (λ L. In a L) (d b)
      (λ p. elim (in_cons h) [ inl e ↦ absurd (n (subst P (sym e) p)) | inr i ↦ in_drop d l a i n ])
      (λ _. elim (in_cons h) [ inl e ↦ here e | inr i ↦ there (in_drop d l a i n) ])

  pub length-drop? : {P : A → Type 0} (d : (a : A) → Dec (P a)) (l : List A) → length (drop? d l) ≤ length l
  unfolding drop?
  length-drop? d [] = omega arith
  length-drop? d (b ∷ l) =
      let h : length (drop? d l) ≤ length l = length-drop? d l in
      ite_elim (λ L. length L ≤ length (b ∷ l)) {a = drop? d l} {b = b ∷ drop? d l} (d b) (λ _. omega arith) (λ _. omega arith)

  abbrev pub or_next : Option A → Option A → Option A
  or_next none o = o
  or_next (some a) o = some a

pub option_case {ℓ} : {B : Type 0} {C : Type ℓ} (o : Option B) → (o ≡ none → C) → ((v : B) → o ≡ some v → C) → C
option_case none f g = f refl
option_case (some v) f g = g v refl

pub none-some : {B : Type 0} {o : Option B} {v : B} → o ≡ none → o ≡ some v → ⊥
none-some {B} {o} {v} p q = let z : ◌≡◌ {A = ℕ} 0 1 = cc in omega arith

pub same_some : {B : Type 0} {a b : B} → some a ≡ some b → a ≡ b
same_some {B} {a} {b} e = some-injective a b e

-- The first answer of a list.
module _ {A B : Type 0} where
  unfoldable pub first : (A → Option B) → List A → Option B
  first f [] = none
  first f (a ∷ l) = or_next (f a) (first f l)

  pub first_in : (f : A → Option B) (l : List A) (v : B) → first f l ≡ some v → (a : A) × In a l × (f a ≡ some v)
  unfolding first
  first_in f [] v e = absurd (none-some refl e)
  first_in f (a ∷ l) v e =
      option_case (f a)
      (λ h. let r = first_in f l v (rw h at e) in (r.0, there r.1, r.2))
      (λ w h. (a, here refl, h ∙ (rw h at e)))

  pub first-none : (f : A → Option B) (l : List A) (a : A) → first f l ≡ none → In a l → f a ≡ none
  unfolding first
  first-none f [] a e i = absurd (in_nil i)
  first-none f (b ∷ l) a e i =
      option_case (f b)
      (λ h. elim (in_cons i) [ inl p ↦ ap f p ∙ h | inr j ↦ first-none f l a (rw h at e) j ])
      (λ w h. absurd (none-some (rw h at e) refl))

  pub first-append : (f : A → Option B) (l m : List A) → first f (l ++ m) ≡ or_next (first f l) (first f m)
  unfolding first
  first-append f [] m = refl
  first-append f (a ∷ l) m = option_case (f a) (λ h. rw h (first-append f l m)) (λ v h. rw h)

  -- What a removal leaves of the first answer.
  pub first_keep : (f : A → Option B) {P : A → Type 0} (d : (a : A) → Dec (P a)) (l : List A)
      → ((a : A) → In a l → P a → f a ≡ none) → first f (drop? d l) ≡ first f l
  unfolding first drop?
  first_keep f d [] h = refl
  first_keep f d (a ∷ l) h =
      let r : first f (drop? d l) ≡ first f l = first_keep f d l (λ b i p. h b (there i) p) in
      ite_elim (λ L. first f L ≡ or_next (f a) (first f l)) {a = drop? d l} {b = a ∷ drop? d l} (d a)
      (λ p. rw (h a (here refl) p) r) (λ n. rw r)

  pub first_gone : (f : A → Option B) {P : A → Type 0} (d : (a : A) → Dec (P a)) (l : List A)
      → ((a : A) → In a l → (P a → ⊥) → f a ≡ none) → first f (drop? d l) ≡ none
  unfolding first drop?
  first_gone f d [] h = refl
  first_gone f d (a ∷ l) h =
      let r : first f (drop? d l) ≡ none = first_gone f d l (λ b i p. h b (there i) p) in
      ite_elim (λ L. first f L ≡ none) {a = drop? d l} {b = a ∷ drop? d l} (d a)
      (λ p. r) (λ n. rw (h a (here refl) n) r)

-- The best answer of a list: R n m says that m is better than n; of equal ones the first.
module _ {A : Type 0} (R : ℕ → ℕ → Type 0) (worse? : (n m : ℕ) → Dec (R n m)) where
  unfoldable pub better : Option ℕ → A → Option (ℕ × A) → Option (ℕ × A)
  better none a b = b
  better (some n) a none = some (n, a)
  better (some n) a (some w) = ite (worse? n w.0) (some w) (some (n, a))

  unfoldable pub best : (A → Option ℕ) → List A → Option (ℕ × A)
  best k [] = none
  best k (a ∷ l) = better (k a) a (best k l)

  pub best_none : (k : A → Option ℕ) (l : List A) (a : A) → best k l ≡ none → In a l → k a ≡ none
  unfolding best better
  best_none k [] a e i = absurd (in_nil i)
  best_none k (b ∷ l) a e i =
      option_case (k b)
      (λ h. elim (in_cons i) [ inl p ↦ ap k p ∙ h | inr j ↦ best_none k l a (rw h at e) j ])
      (λ n h. absurd (go n (best k l) (rw h at e)))
    where
      go : (n : ℕ) (o : Option (ℕ × A)) → better (some n) b o ≡ none → ⊥
      go n none e = none-some e refl
      go n (some w) e = ite_elim (λ x. x ≡ none → ⊥) {a = some w} {b = some (n, b)} (worse? n w.0) (λ _ q. none-some q refl)
          (λ _ q. none-some q refl) e

  pub record Best (k : A → Option ℕ) (l : List A) (n : ℕ) (a : A) : Type 0 where
    pub within : In a l
    pub key : k a ≡ some n
    pub top : (b : A) (m : ℕ) → In b l → k b ≡ some m → R n m → ⊥

  module _ (trans : (n m j : ℕ) → (R n m → ⊥) → (R m j → ⊥) → R n j → ⊥) (asym : (n m : ℕ) → R n m → R m n → ⊥) where
    pub best-some : (k : A → Option ℕ) (l : List A) (w : ℕ × A) → best k l ≡ some w → Best k l w.0 w.1
    unfolding best better
    best-some k [] w e = absurd (none-some refl e)
    best-some k (b ∷ l) w e =
        option_case (k b)
        (λ h. let r = best-some k l w (rw h at e) in cons w (there r.within) r.key (λ m q _. none-some h q) r.top)
        (λ n h. option_case (best k l)
        (λ h2. to (n, b) (rw h2 at (rw h at e)) (cons (n, b) (here refl) h (λ m q x. asym n m x (irr h q x))
        (λ a m i q _. none-some (best_none k l a h2 i) q)))
        (λ u h2. let r = best-some k l u h2 in
        (ite_elim (λ x. x ≡ some w → Best k (b ∷ l) w.0 w.1) {a = some u} {b = some (n, b)} (worse? n u.0)
        (λ p q. to u q (cons u (there r.within) r.key (λ m z x. asym n u.0 p (subst (R u.0) (eq z h) x)) r.top))
        (λ p q. to (n, b) q (cons (n, b) (here refl) h (λ m z x. asym n m x (irr h z x)) (λ a m i z. trans n u.0 m p (r.top a m i z)))))
        (rw h2 at (rw h at e))))
      where
        cons : (u : ℕ × A) → In u.1 (b ∷ l) → k u.1 ≡ some u.0 → ((m : ℕ) → k b ≡ some m → R u.0 m → ⊥)
            → ((a : A) (m : ℕ) → In a l → k a ≡ some m → R u.0 m → ⊥) → Best k (b ∷ l) u.0 u.1
        cons u i e f g = record {
          within = i;
          key = e;
          top = λ a m j q. in_case j (λ p. f m (ap k (sym p) ∙ q)) (λ j. g a m j q);
        }

        to : (u : ℕ × A) → some u ≡ some w → Best k (b ∷ l) u.0 u.1 → Best k (b ∷ l) w.0 w.1
        to u q r = subst (λ (x : ℕ × A). Best k (b ∷ l) x.0 x.1) (some-injective u w q) r

        eq : {x y : ℕ} → k b ≡ some x → k b ≡ some y → x ≡ y
        eq {x} {y} p q = cc

        irr : {x y : ℕ} → k b ≡ some x → k b ≡ some y → R x y → R y x
        irr {x} {y} p q r = let z : x ≡ y = cc in subst (R y) (sym z) (subst (λ (j : ℕ). R j y) z r)

pub in_one : {A : Type 0} {a b : A} → In a (b ∷ []) → a ≡ b
in_one i = in_case i (λ e. e) (λ j. absurd (in_nil j))
