-- A ticket queue, once for both queues of the store. A client's phase: 0 not in the queue, 1 entered, 2 has a number, 3 has noted it,
-- 4 has its list, 5 its list is empty. The store's stage gives the phase (`Model`).
-- The argument: of two clients with numbers that concern one another the one with the smaller number is on the other's list while that one
-- looks (`listed`), since it had entered before the other made its list, and a look strikes only who is gone or has a larger number. So nobody
-- passes before a smaller number that concerns him has left (`passed`), and no two that concern one another have both passed (`exclusive`).
-- A step of one client is one of three: it comes out without a number (`ticket_low`), takes the next number (`taken`), or keeps its number (`own`).
-- Assumes nothing.
use Prim.Native.Nat.{ℕ, zero, suc, ◌+◌, ◌≤◌, ◌<◌}
use mathlib.Core.Path.{◌≡◌, refl, sym, ◌∙◌, ap, subst}
use mathlib.Core.Logic.{◌≢◌, ite, if_pos, if_neg, by_cases}
use mathlib.Core.Bool.{Bool, true, false, false≢true}
use native.Mathlib.Decide.{ℕ_discrete, dec_le, dec_lt}
use native.Mathlib.Omega.{arith}
use Rattle.spec.specs.Set.{clients}
use Rattle.history.proofs.Lists.{ite_elim}

-- The waiting list that client a makes: every other client in the queue that concerns it.
unfoldable pub listing : (ℕ → ℕ) → {P : ℕ → Type 0} → ((b : ℕ) → Dec (P b)) → ℕ → ℕ → Bool
listing ph rel? a b = ite (dec_lt b clients) (ite (ℕ_discrete b a) false (ite (dec_le 1 (ph b)) (ite (rel? b) true false) false)) false

pub listing_has : (ph : ℕ → ℕ) {P : ℕ → Type 0} (rel? : (b : ℕ) → Dec (P b)) (a b : ℕ) → b < clients → b ≢ a → 1 ≤ ph b → P b
    → listing ph rel? a b ≡ true
unfolding listing
listing_has ph rel? a b h n q p = if_pos (dec_lt b clients) h _ _ ∙ if_neg (ℕ_discrete b a) n _ _ ∙ if_pos (dec_le 1 (ph b)) q _ _ ∙ if_pos
    (rel? b) p _ _

-- Only others in the queue are on it.
pub listing_only : (ph : ℕ → ℕ) {P : ℕ → Type 0} (rel? : (b : ℕ) → Dec (P b)) (a b : ℕ) → listing ph rel? a b ≡ true → (1 ≤ ph b) × (b ≢ a)
unfolding listing
listing_only ph rel? a b e =
    ite_elim Only (dec_lt b clients)
    (λ _. ite_elim Only (ℕ_discrete b a) nobody (λ n. ite_elim Only (dec_le 1 (ph b)) (λ h _. (h, n)) nobody))
    nobody e
  where
    Only : Bool → Type 0
    Only x = x ≡ true → (1 ≤ ph b) × (b ≢ a)

    nobody : {X : Type 0} → X → Only false
    nobody _ z = absurd (false≢true z)

-- A look by client a: those that are gone and those with a larger noted number are struck.
unfoldable pub look : (ℕ → ℕ) → (ℕ → ℕ) → ℕ → (ℕ → Bool) → ℕ → Bool
look ph num a w b = ite (dec_le 1 (ph b)) (ite (dec_le 3 (ph b)) (ite (dec_lt (num a) (num b)) false (w b)) (w b)) false

pub look_keeps : (ph num : ℕ → ℕ) (a : ℕ) (w : ℕ → Bool) (b : ℕ) → 1 ≤ ph b → num b ≤ num a → look ph num a w b ≡ w b
unfolding look
look_keeps ph num a w b h n = if_pos (dec_le 1 (ph b)) h _ _ ∙ go (dec_le 3 (ph b)) ∙ refl
  where
    inner : ite (dec_lt (num a) (num b)) false (w b) ≡ w b
    inner = if_neg (dec_lt (num a) (num b)) (λ x. omega arith) _ _

    go : (d : Dec (3 ≤ ph b)) → ite d (ite (dec_lt (num a) (num b)) false (w b)) (w b) ≡ w b
    go (yes p) = inner
    go (no p) = refl

look_larger : (ph num : ℕ → ℕ) (a : ℕ) (w : ℕ → Bool) (b : ℕ) → 3 ≤ ph b → num a < num b → look ph num a w b ≡ false
unfolding look
look_larger ph num a w b h n = if_pos (dec_le 1 (ph b)) (omega arith) _ _ ∙ if_pos (dec_le 3 (ph b)) h _ _ ∙ if_pos (dec_lt (num a) (num b)) n _ _

-- Nobody comes in by a look.
pub look_fewer : (ph num : ℕ → ℕ) (a : ℕ) (w : ℕ → Bool) (b : ℕ) → look ph num a w b ≡ true → w b ≡ true
unfolding look
look_fewer ph num a w b e =
    ite_elim Was (dec_le 1 (ph b))
    (λ _. ite_elim Was (dec_le 3 (ph b)) (λ _. ite_elim Was (dec_lt (num a) (num b)) struck (λ _ z. z)) (λ _ z. z))
    struck e
  where
    Was : Bool → Type 0
    Was x = x ≡ true → w b ≡ true

    struck : {X : Type 0} → X → Was false
    struck _ z = absurd (false≢true z)

-- Who has noted a larger number is struck.
pub look_strikes : (ph num : ℕ → ℕ) (a : ℕ) (w : ℕ → Bool) (b : ℕ) → (w b ≡ true → (3 ≤ ph b) × (num a < num b)) → look ph num a w b ≡ true → ⊥
look_strikes ph num a w b h e = let k = h (look_fewer ph num a w b e) in false≢true (sym (look_larger ph num a w b k.0 k.1) ∙ e)

-- Client a's bit is cleared.
unfoldable pub clear : ℕ → (ℕ → Bool) → ℕ → Bool
clear a w b = ite (ℕ_discrete b a) false (w b)

pub clear_other : (a : ℕ) (w : ℕ → Bool) (b : ℕ) → b ≢ a → clear a w b ≡ w b
unfolding clear
clear_other a w b n = if_neg (ℕ_discrete b a) n _ _

pub clear_own : (a : ℕ) (w : ℕ → Bool) → clear a w a ≡ true → ⊥
unfolding clear
clear_own a w e = false≢true (sym (if_pos (ℕ_discrete a a) refl _ _) ∙ e)

pub clear_fewer : (a : ℕ) (w : ℕ → Bool) (b : ℕ) → clear a w b ≡ true → w b ≡ true
unfolding clear
clear_fewer a w b e = by_cases (ℕ_discrete b a) (λ p. absurd (clear_own a w (ap (clear a w) (sym p) ∙ e))) (λ n. sym (clear_other a w b n) ∙ e)

-- How many of the first n clients are on a list.
unfoldable pub one_if : Bool → ℕ
one_if true = 1
one_if false = 0

bit_false : one_if false ≡ 0
unfolding one_if
bit_false = refl

unfoldable pub list_size : ℕ → (ℕ → Bool) → ℕ
list_size zero w = 0
list_size (suc n) w = one_if (w n) + list_size n w

pub count_none : (n : ℕ) (w : ℕ → Bool) → list_size n w ≡ 0 → (b : ℕ) → b < n → w b ≡ true → ⊥
unfolding list_size one_if
count_none zero w e b h t = omega arith
count_none (suc n) w e b h t =
    by_cases (ℕ_discrete b n)
    (λ p. let q : w n ≡ true = ap w (sym p) ∙ t in none1 (rw q at e))
    (λ p. count_none n w (omega arith) b (omega arith) t)
  where
    none1 : 1 + list_size n w ≡ 0 → ⊥
    none1 e = omega arith

pub count_zero : (n : ℕ) (w : ℕ → Bool) → ((b : ℕ) → w b ≡ true → ⊥) → list_size n w ≡ 0
unfolding list_size
count_zero zero w h = refl
count_zero (suc n) w h = omega (arith, count_zero n w h, absent (w n) (h n))
  where
    absent : (x : Bool) → (x ≡ true → ⊥) → one_if x ≡ 0
    absent true k = absurd (k refl)
    absent false k = bit_false

pub record TicketQueue (ph num : ℕ → ℕ) (list : ℕ → ℕ → Bool) (ctr : ℕ) (Rel : ℕ → ℕ → Type 0) : Type 0 where
  pub bound : (a : ℕ) → 2 ≤ ph a → num a ≤ ctr
  pub apart : (a b : ℕ) → a ≢ b → 2 ≤ ph a → 2 ≤ ph b → num a ≢ num b
  pub listed : (a b : ℕ) → a ≢ b → 2 ≤ ph a → ph b ≡ 4 → Rel a b → num a < num b → list b a ≡ true
  pub passed : (a b : ℕ) → a ≢ b → 2 ≤ ph a → 5 ≤ ph b → Rel a b → num a < num b → ⊥

-- With no number taken it holds.
pub idle_queue : {ph num : ℕ → ℕ} {list : ℕ → ℕ → Bool} {ctr : ℕ} {Rel : ℕ → ℕ → Type 0} → ((a : ℕ) → ph a ≤ 1) → TicketQueue ph num list ctr Rel
idle_queue h = record {
  bound = λ a k. absurd (omega (arith, h a));
  apart = λ a b n k. absurd (omega (arith, h a));
  listed = λ a b n k. absurd (omega (arith, h a));
  passed = λ a b n k. absurd (omega (arith, h a));
}

-- Two that have passed do not concern one another.
pub exclusive : {ph num : ℕ → ℕ} {list : ℕ → ℕ → Bool} {ctr : ℕ} {Rel : ℕ → ℕ → Type 0} → TicketQueue ph num list ctr Rel
    → (a b : ℕ) → a ≢ b → 5 ≤ ph a → 5 ≤ ph b → Rel a b → Rel b a → ⊥
exclusive {ph} {num} q a b n ha hb r r' = go (dec_lt (num a) (num b))
  where
    go : Dec (num a < num b) → ⊥
    go (yes h) = q.passed a b n (omega arith) hb r h
    go (no h) =
        let d : num a ≢ num b = q.apart a b n (omega arith) (omega arith) in
        q.passed b a (λ e. n (sym e)) (omega arith) ha r' (omega arith)

-- One step of client c: what it leaves to the others.
pub record Others (c : ℕ) (ph num : ℕ → ℕ) (list : ℕ → ℕ → Bool) (ctr : ℕ) (Rel : ℕ → ℕ → Type 0)
    (ph' num' : ℕ → ℕ) (list' : ℕ → ℕ → Bool) (ctr' : ℕ) (Rel' : ℕ → ℕ → Type 0) : Type 0 where
  pub phase : (b : ℕ) → b ≢ c → ph' b ≡ ph b
  pub number : (b : ℕ) → b ≢ c → num' b ≡ num b
  pub kept : (a b : ℕ) → b ≢ c → a ≢ c → list' b a ≡ list b a
  pub counter : ctr ≤ ctr'
  pub concerns : (a b : ℕ) → 2 ≤ ph' a → 2 ≤ ph' b → Rel' a b → Rel a b

module _ (c : ℕ) {ph num : ℕ → ℕ} {list : ℕ → ℕ → Bool} {ctr : ℕ} {Rel : ℕ → ℕ → Type 0}
    {ph' num' : ℕ → ℕ} {list' : ℕ → ℕ → Bool} {ctr' : ℕ} {Rel' : ℕ → ℕ → Type 0}
    (q : TicketQueue ph num list ctr Rel) (o : Others c ph num list ctr Rel ph' num' list' ctr' Rel') where
  old : (b : ℕ) → b ≢ c → (ph' b ≡ ph b) × (num' b ≡ num b)
  old b n = (o.phase b n, o.number b n)

  bound_old : (a : ℕ) → a ≢ c → 2 ≤ ph' a → num' a ≤ ctr
  bound_old a n h = let e = old a n in omega (arith, q.bound a (omega arith))

  apart_old : (a b : ℕ) → a ≢ c → b ≢ c → a ≢ b → 2 ≤ ph' a → 2 ≤ ph' b → num' a ≢ num' b
  apart_old a b na nb n ha hb = let ea = old a na in let eb = old b nb in let d = q.apart a b n (omega arith) (omega arith) in omega arith

  listed_old : (a b : ℕ) → a ≢ c → b ≢ c → a ≢ b → 2 ≤ ph' a → ph' b ≡ 4 → Rel' a b → num' a < num' b → list' b a ≡ true
  listed_old a b na nb n ha hb r l =
      let ea = old a na in let eb = old b nb in
      o.kept a b nb na ∙ q.listed a b n (omega arith) (omega arith) (o.concerns a b ha (omega arith) r) (omega arith)

  passed_old : (a b : ℕ) → a ≢ c → b ≢ c → a ≢ b → 2 ≤ ph' a → 5 ≤ ph' b → Rel' a b → num' a < num' b → ⊥
  passed_old a b na nb n ha hb r l =
      let ea = old a na in let eb = old b nb in q.passed a b n (omega arith) (omega arith) (o.concerns a b ha (omega arith) r) (omega arith)

  -- Client c comes out of the step with no number: it entered, left, or works outside the queue.
  pub ticket_low : ph' c ≤ 1 → TicketQueue ph' num' list' ctr' Rel'
  ticket_low h = record {
    bound = λ a ha. let g = o.counter in omega (arith, bound_old a (ne a ha) ha);
    apart = λ a b n ha hb. apart_old a b (ne a ha) (ne b hb) n ha hb;
    listed = λ a b n ha hb r l. listed_old a b (ne a ha) (ne b (omega arith)) n ha hb r l;
    passed = λ a b n ha hb r l. passed_old a b (ne a ha) (ne b (omega arith)) n ha hb r l;
  }
    where
      ne : (a : ℕ) → 2 ≤ ph' a → a ≢ c
      ne a ha e = omega (arith, ap ph' e)

  -- It takes the next number.
  pub taken : ph' c ≤ 3 → num' c ≡ suc ctr → ctr' ≡ suc ctr → TicketQueue ph' num' list' ctr' Rel'
  taken h f g = record {
    bound = λ a ha. by_cases (ℕ_discrete a c) (λ e. omega (arith, ap num' e)) (λ n. omega (arith, bound_old a n ha));
    apart = λ a b n ha hb.
        by_cases (ℕ_discrete a c)
        (λ e. let z = bound_old b (λ e'. n (e ∙ sym e')) hb in omega (arith, ap num' e))
        (λ na. by_cases (ℕ_discrete b c) (λ e. let z = bound_old a na ha in omega (arith, ap num' e)) (λ nb. apart_old a b na nb n ha hb));
    listed = λ a b n ha hb r l. listed_old a b (last a b n (omega arith) l) (early b (omega arith)) n ha hb r l;
    passed = λ a b n ha hb r l. passed_old a b (last a b n (omega arith) l) (early b (omega arith)) n ha hb r l;
  }
    where
      early : (b : ℕ) → 4 ≤ ph' b → b ≢ c
      early b hb e = omega (arith, ap ph' e)

      last : (a b : ℕ) → a ≢ b → 4 ≤ ph' b → num' a < num' b → a ≢ c
      last a b n hb l e = let z = bound_old b (early b hb) (omega arith) in omega (arith, ap num' e)

  -- It keeps its number, and its own list is what it must be.
  pub own : 2 ≤ ph c → num' c ≡ num c → ((b : ℕ) → b ≢ c → list' b c ≡ list b c)
      → (ph' c ≡ 4 → (a : ℕ) → a ≢ c → 2 ≤ ph a → Rel a c → num a < num c → list' c a ≡ true)
      → (5 ≤ ph' c → (a : ℕ) → a ≢ c → 2 ≤ ph a → Rel a c → num a < num c → ⊥)
      → TicketQueue ph' num' list' ctr' Rel'
  own h f keeps lists passes = record {
    bound = λ a ha. by_cases (ℕ_discrete a c) (λ e. omega (arith, ap num' e, q.bound c h, o.counter))
        (λ n. omega (arith, bound_old a n ha, o.counter));
    apart = λ a b n ha hb.
        by_cases (ℕ_discrete a c)
        (λ e. let nb : b ≢ c = λ e'. n (e ∙ sym e') in let eb = old b nb in let d = q.apart c b (λ z. nb (sym z)) h (omega arith) in omega
        (arith, ap num' e))
        (λ na. by_cases (ℕ_discrete b c)
        (λ e. let ea = old a na in let d = q.apart a c na (omega arith) h in omega (arith, ap num' e))
        (λ nb. apart_old a b na nb n ha hb));
    listed = λ a b n ha hb r l.
        by_cases (ℕ_discrete b c)
        (λ e. let na : a ≢ c = λ e'. n (e' ∙ sym e) in let ea = old a na in
        ap (λ (x : ℕ). list' x a) e ∙ lists (ap ph' (sym e) ∙ hb) a na (omega arith) (subst (Rel a) e (o.concerns a b ha (omega arith) r))
        (omega (arith, ap num' e)))
        (λ nb. by_cases (ℕ_discrete a c)
        (λ e. let eb = old b nb in let l' : num c < num b = omega (arith, ap num' e) in
        ap (list' b) e ∙ keeps b nb ∙ q.listed c b (λ z. nb (sym z)) h (omega arith)
        (subst (λ (x : ℕ). Rel x b) e (o.concerns a b ha (omega arith) r)) l')
        (λ na. listed_old a b na nb n ha hb r l));
    passed = λ a b n ha hb r l.
        by_cases (ℕ_discrete b c)
        (λ e. let na : a ≢ c = λ e'. n (e' ∙ sym e) in let ea = old a na in
        passes (subst (λ (x : ℕ). 5 ≤ ph' x) e hb) a na (omega arith) (subst (Rel a) e (o.concerns a b ha (omega arith) r))
        (omega (arith, ap num' e)))
        (λ nb. by_cases (ℕ_discrete a c)
        (λ e. let eb = old b nb in
        q.passed c b (λ z. nb (sym z)) h (omega arith) (subst (λ (x : ℕ). Rel x b) e (o.concerns a b ha (omega arith) r))
        (omega (arith, ap num' e)))
        (λ na. passed_old a b na nb n ha hb r l));
  }
