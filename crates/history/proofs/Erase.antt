-- From the plain table of the proofs to the plain table of the statement: the book turned about, so that the oldest commit stands first, and
-- without the values; a client that is not live as none. The map commutes with what the tables are told (`feeds`), and what is right by the one
-- is right by the other (`right`).
-- Assumes nothing.
use Prim.Native.Nat.{ℕ, zero, suc, ◌≤◌}
use mathlib.Core.Path.{◌≡◌, refl, sym, ◌∙◌, ap, subst, fun_ext}
use mathlib.Core.Logic.{inl, inr, ite, if_pos, if_neg, by_cases}
use mathlib.Core.Bool.{Bool, true, false}
use mathlib.Core.List.Memᴰ.{head as here}
use mathlib.Core.List.Memᴰ.{tail as there}
use mathlib.Core.List.{List, [], ◌∷◌, ◌++◌, Memᴰ as In}
use mathlib.Core.Option.{Option, none, some}
use native.Mathlib.Decide.{ℕ_discrete, dec_le}
use native.Mathlib.Numerals.{add-one}
use native.Mathlib.Omega.{arith}
use borrow.Author.Tests.{eq-eqb, ne_eqb}
use lib.ListN.{length, take, drop, length-append}
use lib.Seq.{take_all, take-append-le, drop-append-le}
use lib.Dec.{eqb}
use Rattle.std.specs.Prelude.{if◌then◌else◌}
use Rattle.spec.specs.declared.Progress.{Progress}
use Rattle.spec.specs.declared.Progress.TheVariants.{Stage, Waiting, Conflict, Done}
use Rattle.spec.specs.Answers.{Answer, Answered, Refused}
use Rattle.spec.specs.Run.{Call, Begin, Read, Write, Advance, Abandon, Trim, Free}
use Rattle.spec.specs.Table.{has, Commit, Open, Table, blank, override, on_stage, Observed, update}
use Rattle.spec.specs.Right as r
use Rattle.spec.specs.Right.{Bounds, last_number, Clash, BeginRefusal, ReadRefusal, WriteRefusal, AbandonRefusal}
use Rattle.history.proofs.Lists.{in_nil, in_case, in_one, in_left, in_right, append_case, none-some, same_some}
use Rattle.history.proofs.Counts.{has_some, some_has}
use Rattle.history.proofs.Plain as own
use Rattle.history.proofs.Plain.{Entry, PClient, Plain, none_yet, restaged, opening, rewritten, on_beginₚ, on_writeₚ, on_abandonₚ}
use Rattle.history.proofs.Plain.{on_advanceₚ, on_progressₚ, on_stageₚ, updateₚ, last_ofₚ, newerₚ, olderₚ}

-- ---- the map

unfoldable pub commit_entry : Entry → Commit
commit_entry e = record { number = e.number; wrote = λ x. has (e.puts x) }

-- the book with its oldest commit first
unfoldable pub aged : List Entry → List Commit
aged [] = []
aged (e ∷ l) = aged l ++ (commit_entry e ∷ [])

abbrev pub open_of : PClient → Open
open_of q = record { copy = q.copy; since = q.since; writes = q.writes; stage = q.stage; commit = q.commit }

unfoldable pub open_client : PClient → Option Open
open_client q = if q.live then some (open_of q) else none

unfoldable pub erase : Plain → Table
erase p = record { values = p.table; count = p.count; book = aged p.book; clients = λ k. open_client (p.cl k) }

pub erase_empty : erase own.emptyₚ ≡ blank
unfolding erase aged open_client own.emptyₚ none_yet blank
erase_empty = refl

-- ---- clients

pub live-some : (q : PClient) → q.live ≡ true → open_client q ≡ some (open_of q)
unfolding open_client
live-some q e = rw e

dead_none : (q : PClient) → q.live ≡ false → open_client q ≡ none
unfolding open_client
dead_none q e = rw e

pub some-live : (q : PClient) (o : Open) → open_client q ≡ some o → (q.live ≡ true) × (open_of q ≡ o)
unfolding open_client
some-live q o e = go q.live refl e
  where
    go : (b : Bool) → q.live ≡ b → (if b then some (open_of q) else none) ≡ some o → (q.live ≡ true) × (open_of q ≡ o)
    go true l e = (l, same_some e)
    go false l e = absurd (none-some refl e)

none_dead : (q : PClient) → open_client q ≡ none → q.live ≡ false
unfolding open_client
none_dead q e = go q.live refl e
  where
    go : (b : Bool) → q.live ≡ b → (if b then some (open_of q) else none) ≡ none → q.live ≡ false
    go true l e = absurd (none-some e refl)
    go false l e = l

has-live : (q : PClient) → has (open_client q) ≡ q.live
unfolding open_client
has-live q = go q.live
  where
    go : (b : Bool) → has (if b then some (open_of q) else none) ≡ b
    go true = refl
    go false = refl

-- one client replaced, in either table
choice : (b : Bool) (x y : PClient) → (if b then open_client x else open_client y) ≡ open_client (if b then x else y)
choice true x y = refl
choice false x y = refl

put_client : (k : ℕ) (c : PClient) (o : Option Open) (cl : ℕ → PClient) → o ≡ open_client c
    → override k o (λ j. open_client (cl j)) ≡ (λ j. open_client (override k c cl j))
unfolding override
put_client k c o cl e = fun_ext (λ j. rw e (choice (eqb j k) c (cl j)))

-- ---- the book

length-aged : (l : List Entry) → length (aged l) ≡ length l
unfolding aged
length-aged [] = refl
length-aged (e ∷ l) = length-append (aged l) (commit_entry e ∷ []) ∙ rw (length-aged l) (omega arith)

last_append : (l : List Commit) (e : Commit) → last_number (l ++ (e ∷ [])) ≡ e.number
unfolding last_number
last_append [] e = refl
last_append (d ∷ []) e = refl
last_append (d ∷ f ∷ l) e = last_append (f ∷ l) e

last_aged : (l : List Entry) → last_number (aged l) ≡ last_ofₚ l
unfolding aged last_ofₚ commit_entry last_number
last_aged [] = refl
last_aged (e ∷ l) = last_append (aged l) (commit_entry e)

drop_all : (n : ℕ) (l : List Commit) → length l ≤ n → drop n l ≡ []
drop_all zero [] h = refl
drop_all zero (e ∷ l) h = absurd (omega arith)
drop_all (suc n) [] h = refl
drop_all (suc n) (e ∷ l) h = drop_all n l (omega arith)

drop-aged : (n : ℕ) (l : List Entry) → drop n (aged l) ≡ aged (newerₚ n l)
unfolding aged newerₚ
drop-aged n [] = drop_all n [] (omega arith)
drop-aged n (e ∷ l) =
    by_cases (dec_le n (length l))
    (λ h. drop-append-le n (aged l) (commit_entry e ∷ []) (omega (arith, length-aged l)) ∙ rw (drop-aged n l)
    (ap aged (sym (if_pos (dec_le n (length l)) h (e ∷ newerₚ n l) []))))
    (λ h. drop_all n (aged l ++ (commit_entry e ∷ [])) (omega (arith, h, length-append (aged l) (commit_entry e ∷ []), length-aged l))
    ∙ ap aged (sym (if_neg (dec_le n (length l)) h (e ∷ newerₚ n l) [])))

take-aged : (n : ℕ) (l : List Entry) → take n (aged l) ≡ aged (olderₚ n l)
unfolding aged olderₚ
take-aged n [] = take_all n [] (omega arith)
take-aged n (e ∷ l) =
    by_cases (dec_le n (length l))
    (λ h. take-append-le n (aged l) (commit_entry e ∷ []) (omega (arith, length-aged l)) ∙ take-aged n l ∙ ap aged
    (sym (if_pos (dec_le n (length l)) h (olderₚ n l) (e ∷ l))))
    (λ h. take_all n (aged l ++ (commit_entry e ∷ [])) (omega (arith, h, length-append (aged l) (commit_entry e ∷ []), length-aged l))
    ∙ ap aged (sym (if_neg (dec_le n (length l)) h (olderₚ n l) (e ∷ l))))

pub aged_in : (e : Entry) (l : List Entry) → In e l → In (commit_entry e) (aged l)
unfolding aged
aged_in e [] i = absurd (in_nil i)
aged_in e (d ∷ l) i = in_case i (λ q. in_right (aged l) (here (ap commit_entry q))) (λ j. in_left (commit_entry d ∷ []) (aged_in e l j))

in_aged : (e : Commit) (l : List Entry) → In e (aged l) → (d : Entry) × In d l × (e ≡ commit_entry d)
unfolding aged
in_aged e [] i = absurd (in_nil i)
in_aged e (d ∷ l) i = append_case (aged l) i (λ j. let x = in_aged e l j in (x.0, there x.1, x.2)) (λ j. (d, here refl, in_one j))

-- ---- the tables are told alike

yet : none_yet.live ≡ false
unfolding none_yet
yet = refl

module _ (p : Plain) (k : ℕ) where
  stage_feeds : (g : ℕ) → (p.cl k).live ≡ true → on_stage k g (erase p) (some (open_of (p.cl k))) ≡ erase (on_stageₚ p k g)
  unfolding on_stage on_stageₚ erase aged commit_entry
  stage_feeds g l =
      by_cases (ℕ_discrete g 8)
      (λ e. rw (
        eq-eqb g 8 e,
        if_pos (ℕ_discrete g 8) e (own.on_numberₚ p k) (ite (ℕ_discrete g 12) (own.on_commitₚ p k) (own.movedₚ p k g)),
        add-one p.count,
      )
      (λ i. record {
        values = p.table;
        count = suc p.count;
        book = aged p.book;
        clients = put_client k (restaged (p.cl k) 8 (suc p.count)) _ p.cl (sym (live-some (restaged (p.cl k) 8 (suc p.count)) l)) i;
      }))
      (λ n. rw (ne_eqb g 8 n, if_neg (ℕ_discrete g 8) n (own.on_numberₚ p k) (ite (ℕ_discrete g 12) (own.on_commitₚ p k) (own.movedₚ p k g)))
      (by_cases (ℕ_discrete g 12)
      (λ e. rw (eq-eqb g 12 e, if_pos (ℕ_discrete g 12) e (own.on_commitₚ p k) (own.movedₚ p k g))
      (λ i. record {
        values = (own.on_commitₚ p k).table;
        count = p.count;
        book = aged (own.on_commitₚ p k).book;
        clients = put_client k (restaged (p.cl k) 12 (p.cl k).commit) _ p.cl (sym (live-some (restaged (p.cl k) 12 (p.cl k).commit) l)) i;
      }))
      (λ m. rw (ne_eqb g 12 m, if_neg (ℕ_discrete g 12) m (own.on_commitₚ p k) (own.movedₚ p k g))
      (λ i. record {
        values = p.table;
        count = p.count;
        book = aged p.book;
        clients = put_client k (restaged (p.cl k) g (p.cl k).commit) _ p.cl (sym (live-some (restaged (p.cl k) g (p.cl k).commit) l)) i;
      }))))

  ends_feed : erase (own.on_closeₚ p k) ≡ record {
    values = p.table;
    count = p.count;
    book = aged p.book;
    clients = override k none
        (λ j. open_client (p.cl j));
  }
  unfolding erase
  ends_feed = λ i. record {
    values = p.table;
    count = p.count;
    book = aged p.book;
    clients = sym (put_client k none_yet none p.cl (sym (dead_none none_yet yet))) i;
  }

module _ (bounds : Bounds) (w : ℕ) (p : Plain) where
  pub feeds : (q : Call) (a : Answer (Observed q)) (free : ℕ) → own.Rightₚ bounds w p q a free → update q a (erase p) ≡ erase (updateₚ p q a)
  unfolding update updateₚ on_beginₚ on_writeₚ on_advanceₚ on_progressₚ on_abandonₚ erase
  feeds (Begin k) (Answered b) free h = λ i. record {
    values = p.table;
    count = p.count;
    book = aged p.book;
    clients = (ap (λ (n : ℕ). override k (some (record { copy = p.table; since = n; writes = λ x. none; stage = 0; commit = 0 }))
        (λ j. open_client (p.cl j))) (length-aged p.book)
        ∙ put_client k (opening p) _ p.cl (sym (live-some (opening p) refl))) i;
  }
  feeds (Begin k) (Refused n) free h = refl
  feeds (Read k x) (Answered v) free h = refl
  feeds (Read k x) (Refused n) free h = refl
  feeds (Write k x v) (Answered n) free h = rw (live-some (p.cl k) h.0) (λ i. record {
    values = p.table;
    count = p.count;
    book = aged p.book;
    clients = put_client k (rewritten (p.cl k) x v) _ p.cl (sym (live-some (rewritten (p.cl k) x v) h.0)) i;
  })
  feeds (Write k x v) (Refused n) free h = refl
  feeds (Advance k) (Answered (Stage g)) free h = rw (live-some (p.cl k) h.0) (stage_feeds p k g h.0)
  feeds (Advance k) (Answered (Waiting n)) free h = refl
  feeds (Advance k) (Answered (Conflict n)) free h = sym (ends_feed p k)
  feeds (Advance k) (Answered (Done n)) free h = sym (ends_feed p k)
  feeds (Advance k) (Refused n) free h = refl
  feeds (Abandon k) (Answered n) free h = sym (ends_feed p k)
  feeds (Abandon k) (Refused n) free h = refl
  feeds Trim (Answered n) free h = refl
  feeds Trim (Refused n) free h = refl
  feeds Free (Answered n) free h = refl
  feeds Free (Refused n) free h = refl

-- ---- what is right by the one is right by the other

module _ (p : Plain) (k : ℕ) where
  clash : (e : Commit) → Clash (erase p) (open_of (p.cl k)) e → (d : Entry) × (e ≡ commit_entry d) × own.Clashₚ p k d
  unfolding erase commit_entry
  clash e h =
      let x = in_aged e (newerₚ (p.cl k).since p.book) (rw (drop-aged (p.cl k).since p.book) at h.since) in (
        x.0,
        x.2,
        (
          x.1,
          (
            h.shares.0,
            has_some (x.0.puts h.shares.0)
                (ap (λ (z : Commit). z.wrote h.shares.0) (sym x.2) ∙ h.shares.1),
            has_some ((p.cl k).writes h.shares.0)
                h.shares.2,
          ),
        ),
      )

  clash_back : (d : Entry) → own.Clashₚ p k d → Clash (erase p) (open_of (p.cl k)) (commit_entry d)
  unfolding erase commit_entry
  clash_back d h = record {
    since = rw (drop-aged (p.cl k).since p.book) (aged_in d _ h.0);
    shares = (h.1.0, some_has (d.puts h.1.0) h.1.1, some_has ((p.cl k).writes h.1.0) h.1.2);
  }

  no_clash : own.NoClashₚ p k → r.NoClash (erase p) (open_of (p.cl k))
  no_clash n e c = let x = clash e c in n x.0 x.2.0 x.2.1

  progress : (a : Progress) → own.RightProgressₚ p k a → r.RightProgress (erase p) (open_of (p.cl k)) a
  unfolding erase commit_entry
  progress (Stage g) h = record {
    next = omega (arith, h.0);
    most = h.1;
    wrote = λ e. let w = h.2 e in (w.0, some_has ((p.cl k).writes w.0) w.1);
    passed = λ e. no_clash (h.3 e);
    made = λ e. record { alone = no_clash (h.4 e).0; above = rw (last_aged p.book) (h.4 e).1 };
  }
  progress (Waiting n) h = record { stage = h.0; left = h.1 }
  progress (Conflict n) h = record {
    stage = h.0;
    commit = commit_entry h.1.0;
    number = h.1.1;
    clash = clash_back h.1.0 h.1.2;
    smallest = λ e c. let x = clash e c in rw x.1 (h.2 x.0 x.2);
  }
  progress (Done n) (inl h) = inl record {
    from = h.0;
    number = h.1;
    booked = (commit_entry h.2.0, h.2.2, aged_in h.2.0 p.book h.2.1);
  }
  progress (Done n) (inr h) = inr record {
    from = h.0;
    nothing = λ w. h.1 (w.0, has_some ((p.cl k).writes w.0) w.1);
    number = h.2 ∙ sym (ap last_number (take-aged (p.cl k).since p.book) ∙ last_aged (olderₚ (p.cl k).since p.book));
  }

same_figure : {m n : ℕ} → m ≡ n → Answered n ≡ Answered m
same_figure e = sym (ap (λ (z : ℕ). Answered z) e)

module _ (bounds : Bounds) (w W : ℕ) (issued : w ≡ suc W) (p : Plain) where
  pub right : (q : Call) (a : Answer (Observed q)) (free : ℕ) → own.Rightₚ bounds W p q a free → r.Right bounds w (erase p) q a (Answered free)
  unfolding erase
  right (Begin k) (Answered b) free h = record {
    client = h.4;
    closed = dead_none (p.cl k) h.0;
    number = h.2 ∙ sym issued;
    most = omega (arith, h.2, h.3);
    snapshot = h.1 ∙ sym (last_aged p.book);
  }
  right (Begin k) (Refused n) free h =
      subst (λ (z : ℕ). BeginRefusal z k (has (open_client (p.cl k))) n) (sym issued)
      (subst (λ (b : Bool). BeginRefusal (suc W) k b n) (sym (has-live (p.cl k))) h)
  right (Read k x) (Answered v) free h = record {
    entry = open_of (p.cl k);
    found = live-some (p.cl k) h.0;
    value = h.1;
    stage = h.2;
    cell = h.3;
  }
  right (Read k x) (Refused n) free h =
      λ o e. let y = some-live (p.cl k) o e in subst (λ (z : Open). ReadRefusal x z.stage n) y.1 (h y.0)
  right (Write k x v) (Answered n) free h = record {
    entry = open_of (p.cl k);
    found = live-some (p.cl k) h.0;
    allowed = h.1;
    figure = same_figure h.2;
  }
  right (Write k x v) (Refused n) free h =
      λ o e. let y = some-live (p.cl k) o e in subst (λ (z : Open). WriteRefusal bounds.limit z.stage z.writes x v (Answered free)
      n) y.1 (h y.0)
  right (Advance k) (Answered a) free h = record { entry = open_of (p.cl k); found = live-some (p.cl k) h.0; progress = progress p k a h.1 }
  right (Advance k) (Refused n) free h = dead_none (p.cl k) h
  right (Abandon k) (Answered n) free h = record {
    entry = open_of (p.cl k);
    found = live-some (p.cl k) h.0;
    stage = h.1;
    figure = same_figure h.2;
  }
  right (Abandon k) (Refused n) free h =
      λ o e. let y = some-live (p.cl k) o e in subst (λ (z : Open). AbandonRefusal z.stage n) y.1 (h y.0)
  right Trim (Answered n) free h =
      λ e. record { free = free; figure = refl; whole = h (λ k. none_dead (p.cl k) (e k)) }
  right Trim (Refused n) free h = tt
  right Free a free h = tt
