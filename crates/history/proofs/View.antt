-- The image of a store as a state of the model: clients as a function, rows as records, waiting lists as tests. And how a change of client
-- k's fields in the arrays is a change of that one client in the view: each step of a call changes some of the seven fields of one client and
-- leaves the rest, so each change is `put_one`, the seven fields replaced, where those that stay are replaced by themselves (`clients-put`).
-- A client that leaves a queue is cleared from every waiting list besides.
-- Assumes nothing.
use Prim.Native.Nat.{ℕ, ◌-◌, ◌≤◌, ◌<◌}
use mathlib.Core.Path.{◌≡◌, refl, sym, ap, ◌∙◌, fun_ext}
use mathlib.Core.Logic.{◌≢◌, if_pos, if_neg, by_cases}
use mathlib.Core.Bool.{false}
use mathlib.Core.List.{List, [], ◌∷◌, ◌++◌, map}
use native.Mathlib.Decide.{ℕ_discrete}
use native.Mathlib.Omega.{arith}
use borrow.Author.Tests.{eq-eqb, ne_eqb}
use lib.ListN.{length, get_or, set, get_or-eq_default, length-map}
use lib.Seq.{get_or-set_same, get_or-set_other, set-get_or}
use Rattle.spec.specs.Set.{clients, member, remove}
use Rattle.spec.proofs.Sets.{member_above, member-remove}
use Rattle.spec.specs.Rows.{Row, tag_of, cell_of, value_of, commit_number, commit_tag}
use Rattle.spec.specs.Image.{Clients, clients_of, Image, set_stage, set_request, set_commit, set_request_waits, set_commit_waits, cleared, unlisted}
use Rattle.spec.specs.Image.{closed, stage_of, number_of, snapshot_of, commit_number_of}
use Rattle.history.proofs.Wellformed.{Tidy, cleared_at, length-cleared}
use Rattle.history.proofs.Tickets.{clear}
use Rattle.history.proofs.Model as m
use Rattle.history.proofs.Model.{DRow, CRow, Client, State, putₛ, same, clear_c, clear_both, at_stageₛ, with_request, with_commit}
use Rattle.history.proofs.Model.{with_rwait, with_cwait}

unfoldable pub data_row_of : Row → DRow
data_row_of r = record { tag = tag_of r; cell = cell_of r; value = value_of r }

unfoldable pub commit_row_of : Row → CRow
commit_row_of r = record { number = commit_number r; tag = commit_tag r }

-- one client's seven fields
pub record Fields : Type 0 where
  pub stage : ℕ
  pub number : ℕ
  pub snapshot : ℕ
  pub request : ℕ
  pub commit : ℕ
  pub request_waits : ℕ
  pub commit_waits : ℕ

unfoldable pub client_of : Fields → Client
client_of o = record {
  number = o.number;
  stage = o.stage;
  snapshot = o.snapshot;
  request = o.request;
  commit = o.commit;
  rwait = member o.request_waits;
  cwait = member o.commit_waits;
}

abbrev at : Clients → ℕ → Fields
at c k = record {
  stage = get_or c.stage k 0;
  number = get_or c.number k 0;
  snapshot = get_or c.snapshot k 0;
  request = get_or c.request k 0;
  commit = get_or c.commit k 0;
  request_waits = get_or c.request_waits k 0;
  commit_waits = get_or c.commit_waits k 0;
}

-- client k's fields replaced
abbrev put_one : ℕ → Fields → Clients → Clients
put_one k o c =
    clients_of (set c.stage k o.stage) (set c.number k o.number) (set c.snapshot k o.snapshot) (set c.request k o.request)
    (set c.commit k o.commit) (set c.request_waits k o.request_waits) (set c.commit_waits k o.commit_waits)

unfoldable pub clients_as : Clients → ℕ → Client
clients_as c k = client_of (at c k)

unfoldable pub view : Image → State
view i = record {
  bounds = record { rows = i.rows; limit = i.limit };
  W = i.counters.issued;
  R = i.counters.requested;
  C = i.counters.taken;
  last = i.counters.last;
  dat = map data_row_of i.data_rows;
  comm = map commit_row_of i.commit_rows;
  cl = clients_as i.clients;
}

-- ---- what the view says of an image

module _ (i : Image) where
  pub number_at_lem : (k : ℕ) → ((view i).cl k).number ≡ number_of i k
  unfolding view clients_as client_of
  number_at_lem k = refl

  pub stage_at : (k : ℕ) → ((view i).cl k).stage ≡ stage_of i k
  unfolding view clients_as client_of
  stage_at k = refl

  pub snapshot_at : (k : ℕ) → ((view i).cl k).snapshot ≡ snapshot_of i k
  unfolding view clients_as client_of
  snapshot_at k = refl

  pub commit_at_lem : (k : ℕ) → ((view i).cl k).commit ≡ commit_number_of i k
  unfolding view clients_as client_of
  commit_at_lem k = refl

  pub W_at : (view i).W ≡ i.counters.issued
  unfolding view
  W_at = refl

  pub R_at : (view i).R ≡ i.counters.requested
  unfolding view
  R_at = refl

  pub C_at : (view i).C ≡ i.counters.taken
  unfolding view
  C_at = refl

  pub last_at : (view i).last ≡ i.counters.last
  unfolding view
  last_at = refl

  pub limit_at : (view i).bounds.limit ≡ i.limit
  unfolding view
  limit_at = refl

  pub size_at : (view i).bounds.rows ≡ i.rows
  unfolding view
  size_at = refl

  pub used_at : length (view i).dat ≡ length i.data_rows
  unfolding view
  used_at = length-map i.data_rows data_row_of

  pub entries_at : length (view i).comm ≡ length i.commit_rows
  unfolding view
  entries_at = length-map i.commit_rows commit_row_of

  pub free_at : m.freeₛ (view i) ≡ i.rows - length i.data_rows
  unfolding m.freeₛ view
  free_at = rw (length-map i.data_rows data_row_of)

  -- no client past the arrays' end is open
  pub past_number : Tidy i.clients → (k : ℕ) → clients ≤ k → ((view i).cl k).number ≡ 0
  past_number z k h = number_at_lem k ∙ get_or-eq_default i.clients.number 0 (omega (arith, z.number.size))

-- ---- rows of a list

pub map_join : {A B : Type 0} (f : A → B) (xs ys : List A) → map f (xs ++ ys) ≡ map f xs ++ map f ys
map_join f [] ys = refl
map_join {B = B} f (x ∷ xs) ys = ap (λ (l : List B). f x ∷ l) (map_join f xs ys)

-- ---- waiting lists

pub none_listed : member 0 ≡ (λ _. false)
none_listed = fun_ext (λ j. member_above 0 0 j (omega arith) (omega arith))

member-clear : (w k : ℕ) → member (remove w k) ≡ clear k (member w)
unfolding clear
member-clear w k = fun_ext (λ j. member-remove w k j ∙ by_cases (ℕ_discrete j k)
    (λ e. rw (eq-eqb j k e) (sym (if_pos (ℕ_discrete j k) e false (member w j))))
    (λ n. rw (ne_eqb j k n) (sym (if_neg (ℕ_discrete j k) n false (member w j)))))

-- ---- client k's fields replaced

module _ (c : Clients) (z : Tidy c) (k : ℕ) (h : k < clients) where
  module _ (o : Fields) where
    at_same : at (put_one k o c) k ≡ o
    at_same = λ i. record {
      stage = get_or-set_same c.stage k o.stage 0 (omega (arith, z.stage.size)) i;
      number = get_or-set_same c.number k o.number 0 (omega (arith, z.number.size)) i;
      snapshot = get_or-set_same c.snapshot k o.snapshot 0 (omega (arith, z.snapshot.size)) i;
      request = get_or-set_same c.request k o.request 0 (omega (arith, z.request.size)) i;
      commit = get_or-set_same c.commit k o.commit 0 (omega (arith, z.commit.size)) i;
      request_waits = get_or-set_same c.request_waits k o.request_waits 0 (omega (arith, z.request_waits.size)) i;
      commit_waits = get_or-set_same c.commit_waits k o.commit_waits 0 (omega (arith, z.commit_waits.size)) i;
    }

    at_other : (j : ℕ) → j ≢ k → at (put_one k o c) j ≡ at c j
    at_other j n = λ i. record {
      stage = get_or-set_other c.stage k j o.stage 0 n i;
      number = get_or-set_other c.number k j o.number 0 n i;
      snapshot = get_or-set_other c.snapshot k j o.snapshot 0 n i;
      request = get_or-set_other c.request k j o.request 0 n i;
      commit = get_or-set_other c.commit k j o.commit 0 n i;
      request_waits = get_or-set_other c.request_waits k j o.request_waits 0 n i;
      commit_waits = get_or-set_other c.commit_waits k j o.commit_waits 0 n i;
    }

    pub clients-put : clients_as (put_one k o c) ≡ putₛ k (client_of o) same (clients_as c)
    unfolding clients_as putₛ
    clients-put = fun_ext (λ j. by_cases (ℕ_discrete j k)
        (λ e. rw e (ap client_of at_same) ∙ sym (if_pos (ℕ_discrete j k) e (client_of o) (client_of (at c j))))
        (λ n. ap client_of (at_other j n) ∙ sym (if_neg (ℕ_discrete j k) n (client_of o) (client_of (at c j)))))

  -- the fields with another stage, request number, commit number and lists, where the others stay
  abbrev fields : ℕ → ℕ → ℕ → ℕ → ℕ → Fields
  fields g r n b a = record {
    stage = g;
    number = (at c k).number;
    snapshot = (at c k).snapshot;
    request = r;
    commit = n;
    request_waits = b;
    commit_waits = a;
  }

  pub stage_put : (g : ℕ) → clients_as (set_stage k g c) ≡ putₛ k (at_stageₛ (clients_as c k) g) same (clients_as c)
  unfolding clients_as client_of
  stage_put g = ap clients_as path ∙ clients-put o
    where
      o : Fields
      o = fields g (at c k).request (at c k).commit (at c k).request_waits (at c k).commit_waits

      path : set_stage k g c ≡ put_one k o c
      path = λ i. record {
        stage = set c.stage k g;
        number = sym (set-get_or c.number k 0) i;
        snapshot = sym (set-get_or c.snapshot k 0) i;
        request = sym (set-get_or c.request k 0) i;
        commit = sym (set-get_or c.commit k 0) i;
        request_waits = sym (set-get_or c.request_waits k 0) i;
        commit_waits = sym (set-get_or c.commit_waits k 0) i;
      }

  pub request_put : (g n : ℕ) → clients_as (set_stage k g (set_request k n c)) ≡ putₛ k (with_request (clients_as c k) g n) same (clients_as c)
  unfolding clients_as client_of
  request_put g n = ap clients_as path ∙ clients-put o
    where
      o : Fields
      o = fields g n (at c k).commit (at c k).request_waits (at c k).commit_waits

      path : set_stage k g (set_request k n c) ≡ put_one k o c
      path = λ i. record {
        stage = set c.stage k g;
        number = sym (set-get_or c.number k 0) i;
        snapshot = sym (set-get_or c.snapshot k 0) i;
        request = set c.request k n;
        commit = sym (set-get_or c.commit k 0) i;
        request_waits = sym (set-get_or c.request_waits k 0) i;
        commit_waits = sym (set-get_or c.commit_waits k 0) i;
      }

  pub commit_put : (g n : ℕ) → clients_as (set_stage k g (set_commit k n c)) ≡ putₛ k (with_commit (clients_as c k) g n) same (clients_as c)
  unfolding clients_as client_of
  commit_put g n = ap clients_as path ∙ clients-put o
    where
      o : Fields
      o = fields g (at c k).request n (at c k).request_waits (at c k).commit_waits

      path : set_stage k g (set_commit k n c) ≡ put_one k o c
      path = λ i. record {
        stage = set c.stage k g;
        number = sym (set-get_or c.number k 0) i;
        snapshot = sym (set-get_or c.snapshot k 0) i;
        request = sym (set-get_or c.request k 0) i;
        commit = set c.commit k n;
        request_waits = sym (set-get_or c.request_waits k 0) i;
        commit_waits = sym (set-get_or c.commit_waits k 0) i;
      }

  pub request_waits_put : (g w : ℕ)
      → clients_as (set_stage k g (set_request_waits k w c)) ≡ putₛ k (with_rwait (clients_as c k) g (member w)) same (clients_as c)
  unfolding clients_as client_of
  request_waits_put g w = ap clients_as path ∙ clients-put o
    where
      o : Fields
      o = fields g (at c k).request (at c k).commit w (at c k).commit_waits

      path : set_stage k g (set_request_waits k w c) ≡ put_one k o c
      path = λ i. record {
        stage = set c.stage k g;
        number = sym (set-get_or c.number k 0) i;
        snapshot = sym (set-get_or c.snapshot k 0) i;
        request = sym (set-get_or c.request k 0) i;
        commit = sym (set-get_or c.commit k 0) i;
        request_waits = set c.request_waits k w;
        commit_waits = sym (set-get_or c.commit_waits k 0) i;
      }

  pub commit_waits_put : (g w : ℕ)
      → clients_as (set_stage k g (set_commit_waits k w c)) ≡ putₛ k (with_cwait (clients_as c k) g (member w)) same (clients_as c)
  unfolding clients_as client_of
  commit_waits_put g w = ap clients_as path ∙ clients-put o
    where
      o : Fields
      o = fields g (at c k).request (at c k).commit (at c k).request_waits w

      path : set_stage k g (set_commit_waits k w c) ≡ put_one k o c
      path = λ i. record {
        stage = set c.stage k g;
        number = sym (set-get_or c.number k 0) i;
        snapshot = sym (set-get_or c.snapshot k 0) i;
        request = sym (set-get_or c.request k 0) i;
        commit = sym (set-get_or c.commit k 0) i;
        request_waits = sym (set-get_or c.request_waits k 0) i;
        commit_waits = set c.commit_waits k w;
      }

  -- client k closed
  same_set : (l : List ℕ) → length l ≡ clients → get_or (set l k 0) k 0 ≡ 0
  same_set l e = get_or-set_same l k 0 0 (omega arith)

  closed_same : clients_as (closed k c) k ≡ m.closedₛ
  unfolding clients_as client_of closed m.closedₛ
  closed_same = λ i. record {
    number = same_set c.number z.number.size i;
    stage = same_set c.stage z.stage.size i;
    snapshot = same_set c.snapshot z.snapshot.size i;
    request = same_set c.request z.request.size i;
    commit = same_set c.commit z.commit.size i;
    rwait = (ap member (same_set (cleared k c.request_waits) (length-cleared k c.request_waits ∙ z.request_waits.size)) ∙ none_listed) i;
    cwait = (ap member (same_set (cleared k c.commit_waits) (length-cleared k c.commit_waits ∙ z.commit_waits.size)) ∙ none_listed) i;
  }

  closed_other : (j : ℕ) → j ≢ k → clients_as (closed k c) j ≡ clear_both k (clients_as c j)
  unfolding clients_as client_of closed
  closed_other j n = λ i. record {
    number = get_or-set_other c.number k j 0 0 n i;
    stage = get_or-set_other c.stage k j 0 0 n i;
    snapshot = get_or-set_other c.snapshot k j 0 0 n i;
    request = get_or-set_other c.request k j 0 0 n i;
    commit = get_or-set_other c.commit k j 0 0 n i;
    rwait = (ap member (get_or-set_other (cleared k c.request_waits) k j 0 0 n ∙ cleared_at c.request_waits k j) ∙ member-clear
        (get_or c.request_waits j 0) k) i;
    cwait = (ap member (get_or-set_other (cleared k c.commit_waits) k j 0 0 n ∙ cleared_at c.commit_waits k j) ∙ member-clear
        (get_or c.commit_waits j 0) k) i;
  }

  pub closed_put : clients_as (closed k c) ≡ putₛ k m.closedₛ (clear_both k) (clients_as c)
  unfolding putₛ
  closed_put = fun_ext (λ j. by_cases (ℕ_discrete j k)
      (λ e. rw e closed_same ∙ sym (if_pos (ℕ_discrete j k) e m.closedₛ (clear_both k (clients_as c j))))
      (λ n. closed_other j n ∙ sym (if_neg (ℕ_discrete j k) n m.closedₛ (clear_both k (clients_as c j)))))

  -- leaving the commit queue
  left_same : clients_as (set_stage k 13 (unlisted k c)) k ≡ at_stageₛ (clear_c k (clients_as c k)) 13
  unfolding clients_as client_of
  left_same = λ i. record {
    number = get_or c.number k 0;
    stage = get_or-set_same c.stage k 13 0 (omega (arith, z.stage.size)) i;
    snapshot = get_or c.snapshot k 0;
    request = get_or c.request k 0;
    commit = get_or c.commit k 0;
    rwait = member (get_or c.request_waits k 0);
    cwait = (ap member (cleared_at c.commit_waits k k) ∙ member-clear (get_or c.commit_waits k 0) k) i;
  }

  left_other : (j : ℕ) → j ≢ k → clients_as (set_stage k 13 (unlisted k c)) j ≡ clear_c k (clients_as c j)
  unfolding clients_as client_of
  left_other j n = λ i. record {
    number = get_or c.number j 0;
    stage = get_or-set_other c.stage k j 13 0 n i;
    snapshot = get_or c.snapshot j 0;
    request = get_or c.request j 0;
    commit = get_or c.commit j 0;
    rwait = member (get_or c.request_waits j 0);
    cwait = (ap member (cleared_at c.commit_waits k j) ∙ member-clear (get_or c.commit_waits j 0) k) i;
  }

  pub left_put : clients_as (set_stage k 13 (unlisted k c)) ≡ putₛ k (at_stageₛ (clear_c k (clients_as c k)) 13) (clear_c k) (clients_as c)
  unfolding putₛ
  left_put = fun_ext (λ j. by_cases (ℕ_discrete j k)
      (λ e. rw e left_same ∙ sym (if_pos (ℕ_discrete j k) e (at_stageₛ (clear_c k (clients_as c k)) 13) (clear_c k (clients_as c j))))
      (λ n. left_other j n ∙ sym (if_neg (ℕ_discrete j k) n (at_stageₛ (clear_c k (clients_as c k)) 13) (clear_c k (clients_as c j)))))

-- a stage that stays
pub waits_put : (c : Clients) (k g : ℕ) → get_or c.stage k 0 ≡ g → c ≡ set_stage k g c
waits_put c k g e = λ i. record {
  stage = (sym (set-get_or c.stage k 0) ∙ ap (set c.stage k) e) i;
  number = c.number;
  snapshot = c.snapshot;
  request = c.request;
  commit = c.commit;
  request_waits = c.request_waits;
  commit_waits = c.commit_waits;
}
