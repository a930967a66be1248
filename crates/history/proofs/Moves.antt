-- A change of one client, with the others touched at most in their waiting lists (`Tame`): what it leaves to the queues, to the other clients
-- and to rows and book. A step that changes no row and makes no commit keeps all that rows and book are held to (`moves`).
-- Assumes nothing.
use Prim.Native.Nat.{ℕ, ◌≤◌, ◌<◌}
use mathlib.Core.Path.{◌≡◌, refl, sym, ◌∙◌, ap, subst, fun_ext}
use mathlib.Core.Logic.{◌≢◌, if_pos, if_neg, by_cases}
use mathlib.Core.Bool.{true}
use mathlib.Core.List.{List, Memᴰ as In}
use mathlib.Core.Option.{IsSome}
use native.Mathlib.Decide.{ℕ_discrete}
use native.Mathlib.Omega.{arith}
use Rattle.history.proofs.Tickets.{Others, clear_other, clear_fewer}
use Rattle.spec.specs.Right.{Bounds}
use Rattle.history.proofs.Model.{DRow, Client, State, findₛ, rphase, cphase, putₛ, same, clear_c, clear_both}
use Rattle.history.proofs.Plain.{restaged, Entry, PClient, Plain, NoClashₚ, set_p}
use Rattle.history.proofs.Invariant.{Reader, reader_of, lateness, OneClient, Rel, Always, RQ, CQ, Inv}
use Rattle.spec.specs.Table as table
use borrow.Author.Tests.{eq-eqb, ne_eqb}

pub put_at : (a : ℕ) (c : Client) (f : Client → Client) (cl : ℕ → Client) → putₛ a c f cl a ≡ c
unfolding putₛ
put_at a c f cl = if_pos (ℕ_discrete a a) refl _ _

pub put_off : (a : ℕ) (c : Client) (f : Client → Client) (cl : ℕ → Client) (b : ℕ) → b ≢ a → putₛ a c f cl b ≡ f (cl b)
unfolding putₛ
put_off a c f cl b n = if_neg (ℕ_discrete b a) n _ _

pub set_p_at : (a : ℕ) (c : PClient) (cl : ℕ → PClient) → set_p a c cl a ≡ c
unfolding table.override
set_p_at a c cl = rw (eq-eqb a a refl)

pub set_p_off : (a : ℕ) (c : PClient) (cl : ℕ → PClient) (b : ℕ) → b ≢ a → set_p a c cl b ≡ cl b
unfolding table.override
set_p_off a c cl b n = rw (ne_eqb b a n)

-- A property of every index, from that of one and of the others.
pub each : (a : ℕ) (P : ℕ → Type 0) → P a → ((b : ℕ) → b ≢ a → P b) → (b : ℕ) → P b
each a P h g b = by_cases (ℕ_discrete b a) (λ e. subst P (sym e) h) (λ n. g b n)

-- What a step of client a may do to the others: clear its bit.
pub record Tame (a : ℕ) (f : Client → Client) : Type 0 where
  pub number : (c : Client) → (f c).number ≡ c.number
  pub stage : (c : Client) → (f c).stage ≡ c.stage
  pub snapshot : (c : Client) → (f c).snapshot ≡ c.snapshot
  pub request : (c : Client) → (f c).request ≡ c.request
  pub commit : (c : Client) → (f c).commit ≡ c.commit
  pub rwait : (c : Client) (b : ℕ) → b ≢ a → (f c).rwait b ≡ c.rwait b
  pub cwait : (c : Client) (b : ℕ) → b ≢ a → (f c).cwait b ≡ c.cwait b
  pub fewer_R : (c : Client) (b : ℕ) → (f c).rwait b ≡ true → c.rwait b ≡ true
  pub fewer_C : (c : Client) (b : ℕ) → (f c).cwait b ≡ true → c.cwait b ≡ true

pub tame_same : (a : ℕ) → Tame a same
tame_same a = record {
  number = λ c. refl;
  stage = λ c. refl;
  snapshot = λ c. refl;
  request = λ c. refl;
  commit = λ c. refl;
  rwait = λ c b n. refl;
  cwait = λ c b n. refl;
  fewer_R = λ c b e. e;
  fewer_C = λ c b e. e;
}

pub tame_C : (a : ℕ) → Tame a (clear_c a)
tame_C a = record {
  number = λ c. refl;
  stage = λ c. refl;
  snapshot = λ c. refl;
  request = λ c. refl;
  commit = λ c. refl;
  rwait = λ c b n. refl;
  cwait = λ c b n. clear_other a c.cwait b n;
  fewer_R = λ c b e. e;
  fewer_C = λ c b e. clear_fewer a c.cwait b e;
}

pub tame_both : (a : ℕ) → Tame a (clear_both a)
tame_both a = record {
  number = λ c. refl;
  stage = λ c. refl;
  snapshot = λ c. refl;
  request = λ c. refl;
  commit = λ c. refl;
  rwait = λ c b n. clear_other a c.rwait b n;
  cwait = λ c b n. clear_other a c.cwait b n;
  fewer_R = λ c b e. clear_fewer a c.rwait b e;
  fewer_C = λ c b e. clear_fewer a c.cwait b e;
}

module _ (a : ℕ) (c : Client) (f : Client → Client) (tame : Tame a f) (cl : ℕ → Client) where
  -- A field of another client.
  pub off : {X : Type 0} (g : Client → X) → ((d : Client) → g (f d) ≡ g d) → (b : ℕ) → b ≢ a → g (putₛ a c f cl b) ≡ g (cl b)
  off g h b n = ap g (put_off a c f cl b n) ∙ h (cl b)

  pub others_R : (dat dat' : List DRow) {R R' : ℕ} → R ≤ R'
      → ((b : ℕ) → 2 ≤ rphase (putₛ a c f cl b).stage → (x : ℕ) → IsSome (findₛ (putₛ a c f cl b).number x dat') → IsSome
      (findₛ (cl b).number x dat))
      → Others a (λ b. rphase (cl b).stage) (λ b. (cl b).request) (λ b. (cl b).rwait) R (Rel dat cl)
      (λ b. rphase (putₛ a c f cl b).stage) (λ b. (putₛ a c f cl b).request) (λ b. (putₛ a c f cl b).rwait) R' (Rel dat' (putₛ a c f cl))
  others_R dat dat' h g = record {
    phase = off (λ d. rphase d.stage) (λ d. ap rphase (tame.stage d));
    number = off (λ d. d.request) tame.request;
    kept = λ x b n m. ap (λ (d : Client). d.rwait x) (put_off a c f cl b n) ∙ tame.rwait (cl b) x m;
    counter = h;
    concerns = λ x y hx hy r. (r.0, g x hx r.0 r.1, g y hy r.0 r.2);
  }

  pub others_C : {C C' : ℕ} → C ≤ C'
      → Others a (λ b. cphase (cl b).stage) (λ b. (cl b).commit) (λ b. (cl b).cwait) C Always
      (λ b. cphase (putₛ a c f cl b).stage) (λ b. (putₛ a c f cl b).commit) (λ b. (putₛ a c f cl b).cwait) C' Always
  others_C h = record {
    phase = off (λ d. cphase d.stage) (λ d. ap cphase (tame.stage d));
    number = off (λ d. d.commit) tame.commit;
    kept = λ x b n m. ap (λ (d : Client). d.cwait x) (put_off a c f cl b n) ∙ tame.cwait (cl b) x m;
    counter = h;
    concerns = λ x y hx hy r. tt;
  }

-- What the rows and the book are held to of a client that the step leaves alone.
abbrev pub seen_of : Client → PClient → Reader
seen_of c q = record { num = c.number; snap = c.snapshot; late = lateness c.stage; since = q.since; copy = q.copy; writes = q.writes }

pub seen_off : (a : ℕ) (c : Client) (f : Client → Client) → Tame a f → (cl : ℕ → Client) (q : PClient) (pcl : ℕ → PClient) (b : ℕ) → b ≢ a
    → seen_of (putₛ a c f cl b) (set_p a q pcl b) ≡ seen_of (cl b) (pcl b)
seen_off a c f tame cl q pcl b n =
    rw (put_off a c f cl b n, set_p_off a q pcl b n)
    (λ i. record {
      num = tame.number (cl b) i;
      snap = tame.snapshot (cl b) i;
      late = lateness (tame.stage (cl b) i);
      since = (pcl
          b).since;
      copy = (pcl b).copy;
      writes = (pcl b).writes;
    })

pub seen_at : (a : ℕ) (c : Client) (f : Client → Client) (cl : ℕ → Client) (q : PClient) (pcl : ℕ → PClient)
    → seen_of (putₛ a c f cl a) (set_p a q pcl a) ≡ seen_of c q
seen_at a c f cl q pcl = rw (put_at a c f cl, set_p_at a q pcl)

-- A client other than a, by the plain table and the store.
pub one_off : (a : ℕ) (c : Client) (f : Client → Client) → Tame a f
    → (cl : ℕ → Client) (q : PClient) (pcl : ℕ → PClient) (last : ℕ) (book : List Entry) (b : ℕ) → b ≢ a
    → OneClient last book b (cl b).number (cl b).stage (cl b).commit (pcl b)
    → OneClient last book b (putₛ a c f cl b).number (putₛ a c f cl b).stage (putₛ a c f cl b).commit (set_p a q pcl b)
one_off a c f tame cl q pcl last book b n h = rw (
  put_off a c f cl b n,
  set_p_off a q pcl b n,
  tame.number (cl b),
  tame.stage (cl b),
  tame.commit (cl b),
) h

abbrev rewound : Plain → ℕ → (ℕ → PClient) → Plain
rewound p n cl = record { table = p.table; count = n; book = p.book; cl = cl }

abbrev pub stepped : State → ℕ → ℕ → (ℕ → Client) → State
stepped s R C cl = record { bounds = s.bounds; W = s.W; R = R; C = C; last = s.last; dat = s.dat; comm = s.comm; cl = cl }

module _ {bounds : Bounds} {s : State} {p : Plain} (inv : Inv bounds s p) (a : ℕ) (c : Client) (f : Client → Client) (tame : Tame a f)
    (R C m n : ℕ) (counted : m ≡ C) (pcl : ℕ → PClient)
    (at : pcl a ≡ restaged (p.cl a) c.stage n) (else : (b : ℕ) → b ≢ a → pcl b ≡ p.cl b)
    (number : c.number ≡ (s.cl a).number) (snapshot : c.snapshot ≡ (s.cl a).snapshot) (late : lateness c.stage ≡ lateness (s.cl a).stage)
    (isopen : 1 ≤ (s.cl a).number) where
  same_view : reader_of (stepped s R C (putₛ a c f s.cl)) (rewound p m pcl) ≡ reader_of s p
  same_view = fun_ext (each a (λ b. reader_of (stepped s R C (putₛ a c f s.cl)) (rewound p m pcl) b ≡ reader_of s p b) this that)
    where
      this : reader_of (stepped s R C (putₛ a c f s.cl)) (rewound p m pcl) a ≡ reader_of s p a
      this = rw (put_at a c f s.cl, at) (λ i. record {
        num = number i;
        snap = snapshot i;
        late = late i;
        since = (p.cl a).since;
        copy = (p.cl a).copy;
        writes = (p.cl a).writes;
      })

      that : (b : ℕ) → b ≢ a → reader_of (stepped s R C (putₛ a c f s.cl)) (rewound p m pcl) b ≡ reader_of s p b
      that b n = rw (put_off a c f s.cl b n, else b n)
          (λ i. record {
            num = tame.number (s.cl b) i;
            snap = tame.snapshot (s.cl b) i;
            late = lateness (tame.stage (s.cl b) i);
            since = (p.cl b).since;
            copy = (p.cl b).copy;
            writes = (p.cl b).writes;
          })

  pub moves : s.C ≤ C → RQ (stepped s R C (putₛ a c f s.cl)) → CQ (stepped s R C (putₛ a c f s.cl))
      → (8 ≤ c.stage → n ≡ c.commit)
      → (8 ≤ c.stage → c.stage ≤ 11 → s.last < c.commit)
      → (12 ≤ c.stage → (e : Entry) × In e p.book × (e.number ≡ c.commit))
      → (6 ≤ c.stage → c.stage ≤ 11 → NoClashₚ p a)
      → Inv bounds (stepped s R C (putₛ a c f s.cl)) (rewound p m pcl)
  moves ctr rq cq numbered ahead in_book fresh = record {
    same_bounds = inv.same_bounds;
    counted = counted;
    last_le = omega (arith, inv.last_le);
    one = each a (λ b. OneClient s.last p.book b (putₛ a c f s.cl b).number (putₛ a c f s.cl b).stage
        (putₛ a c f s.cl b).commit (pcl b))
        (rw (put_at a c f s.cl, at, number) record {
          on_stage = refl;
          live = (inv.one a).live;
          dead = λ h. absurd (nonzero h);
          idle = λ h. absurd (nonzero h);
          below = (inv.one a).below;
          numbered = numbered;
          ahead = ahead;
          in_book = in_book;
          fresh = fresh;
        })
        (λ b m. rw (put_off a c f s.cl b m, else b m, tame.number (s.cl b), tame.stage (s.cl b), tame.commit (s.cl b)) (inv.one b));
    rq = rq;
    cq = cq;
    tab = rw same_view inv.tab;
  }
    where
      nonzero : (s.cl a).number ≡ 0 → ⊥
      nonzero h = omega arith
