-- How the rows and the book stay in step, one lemma for each kind of change: a client is done, is removed with its rows, begins, writes,
-- commits; a trim. A commit adds an entry to the book and a committed row for its tag, so that its own rows become rows of that entry, and every
-- older entry keeps its row. A trim drops a row only if its cell has a later one at most low, and low is no larger than any reader's snapshot
-- and the last number: so the book has a later entry for that cell which everyone sees (`Superseded`), and that one's row stays.
-- Assumes nothing.
use Prim.Native.Nat.{ℕ, suc, ◌≤◌, ◌<◌}
use mathlib.Core.Path.{◌≡◌, refl, sym, ◌∙◌, ap, subst}
use mathlib.Core.Logic.{◌≢◌, ◌⊎◌, inl, inr, by_cases}
use mathlib.Core.List.Memᴰ.{head as here}
use mathlib.Core.List.Memᴰ.{tail as there}
use mathlib.Core.List.{List, [], ◌∷◌, ◌++◌, Memᴰ as In}
use mathlib.Core.Option.{Option, none, some, IsSome, some-injective}
use native.Mathlib.Decide.{ℕ_discrete, dec_le}
use native.Mathlib.Omega.{arith}
use lib.ListN.{length}
use Rattle.history.proofs.Lists.{in_nil, in_case, none-some, option_case, drop?, drop_in, in_drop, first_keep, first_gone, On, on_some, any?}
use Rattle.history.proofs.Model.{DRow, CRow, findₛ, value_atₛ, num_of, number_at, without, passed?, bare?, Passed}
use Rattle.history.proofs.Plain.{Entry, last_ofₚ, written}
use Rattle.history.proofs.Invariant.{Reader, values_of, Superseded, RowOf, Mine, Tab}
use Rattle.history.proofs.Moves.{each}
use Rattle.history.proofs.Booked.{is_some, value_tag, find_row, none_found, find_uniq, uniq_drop, find_without, Written, book_max}
use Rattle.history.proofs.Booked.{newerₚ_none, newerₚ-cons, older_all, older_cons, up_to_whole, up_to_skip, row_number_at, num_old}
use Rattle.history.proofs.Booked.{num_new, num_none, num_case}
use Rattle.spec.specs.Table.{Value, override, or_else, overlay}
use Rattle.spec.specs.Rows.{cells}
use borrow.Author.Tests.{eq-eqb, ne_eqb}

-- What row_of says of a row.
abbrev Owned : List CRow → (ℕ → Reader) → DRow → Type 0
Owned comm v r = ((a : ℕ) × (1 ≤ (v a).num) × ((v a).late ≡ 0) × (r.tag ≡ (v a).num)) ⊎ ((n : ℕ) × (num_of r.tag comm ≡ some n))

module _ (a : ℕ) {v v' : ℕ → Reader} (else : (b : ℕ) → b ≢ a → v' b ≡ v b) where
  -- An owner other than client a stays.
  owner : (comm : List CRow) (r : DRow) → (1 ≤ (v a).num → (v a).late ≡ 0 → r.tag ≡ (v a).num → ⊥) → Owned comm v r → Owned comm v' r
  owner comm r n (inr h) = inr h
  owner comm r n (inl h) =
      by_cases (ℕ_discrete h.0 a)
      (λ e. absurd (n (subst (λ (b : ℕ). 1 ≤ (v b).num) e h.1) (subst (λ (b : ℕ). (v b).late ≡ 0) e h.2)
      (subst (λ (b : ℕ). r.tag ≡ (v b).num) e h.3)))
      (λ m. inl (h.0, rw (else h.0 m) h.1, rw (else h.0 m) h.2, rw (else h.0 m) h.3))

-- A later commit that all saw is still seen by all: an open client was open, or sees all.
abbrev Sees : ℕ → (ℕ → Reader) → (ℕ → Reader) → Type 0
Sees last v v' = (b : ℕ) → 1 ≤ (v' b).num → (last ≤ (v' b).snap) ⊎ ((1 ≤ (v b).num) × ((v b).snap ≤ (v' b).snap))

seen : (book book' : List Entry) (last last' : ℕ) (v v' : ℕ → Reader) → ((d : Entry) → In d book → In d book') → last ≤ last' → Sees last v v'
    → (e : Entry) (x : ℕ) → Superseded book last v e x → Superseded book' last' v' e x
seen book book' last last' v v' sub le sees e x d = (d.0, sub d.0 d.1, d.2, d.3, omega (arith, d.4), λ b h. go b (sees b h))
  where
    go : (b : ℕ) → (last ≤ (v' b).snap) ⊎ ((1 ≤ (v b).num) × ((v b).snap ≤ (v' b).snap)) → d.0.number ≤ (v' b).snap
    go b (inl h) = omega (arith, d.4)
    go b (inr h) = omega (arith, d.5 b h.0)

kept_map : {X X' Y Y' : Type 0} → (X → X') → (Y → Y') → X ⊎ Y → X' ⊎ Y'
kept_map f g (inl x) = inl (f x)
kept_map f g (inr y) = inr (g y)

module _ {dat : List DRow} {comm : List CRow} {last W : ℕ} {table : ℕ → Option Value} {book : List Entry} {v : ℕ → Reader}
    (t : Tab dat comm last W table book v) (a : ℕ) {v' : ℕ → Reader} (else : (b : ℕ) → b ≢ a → v' b ≡ v b) where
  sees_else : (1 ≤ (v' a).num → (last ≤ (v' a).snap) ⊎ ((1 ≤ (v a).num) × ((v a).snap ≤ (v' a).snap))) → Sees last v v'
  sees_else h = each a (λ b. 1 ≤ (v' b).num → (last ≤ (v' b).snap) ⊎ ((1 ≤ (v b).num) × ((v b).snap ≤ (v' b).snap))) h
      (λ b m k. inr (rw (else b m) at k, rw (else b m) (omega arith)))

  apart_else : ((b : ℕ) → b ≢ a → 1 ≤ (v' a).num → (v b).num ≢ (v' a).num) → (x y : ℕ) → x ≢ y → 1 ≤ (v' x).num → (v' x).num ≢ (v' y).num
  apart_else h x y n k =
      by_cases (ℕ_discrete x a)
      (λ e. let my : y ≢ a = λ q. n (e ∙ sym q) in
      rw (else y my) (λ q. h y my (subst (λ (z : ℕ). 1 ≤ (v' z).num) e k) (sym q ∙ ap (λ (z : ℕ). (v' z).num) e)))
      (λ mx. by_cases (ℕ_discrete y a)
      (λ e q. by_cases (dec_le 1 (v' a).num)
      (λ k'. h x mx k' (ap (λ (z : Reader). z.num) (sym (else x mx)) ∙ q ∙ ap (λ (z : ℕ). (v' z).num) e))
      (λ k'. omega (arith, ap (λ (z : ℕ). (v' z).num) e)))
      (λ my. rw (else x mx, else y my) (t.apart x y n (rw (else x mx) at k))))

  -- Client a is gone, and its commit was made before.
  pub tab_done : (v' a).num ≡ 0 → (v a).late ≢ 0 → Tab dat comm last W table book v'
  tab_done gone late = record {
    mine = each a (λ b. 1 ≤ (v' b).num → Mine dat comm last W book (v' b)) (λ h. absurd (omega arith)) (λ b m. rw (else b m) (t.mine b));
    apart = apart_else (λ b m h. absurd (omega arith));
    comm_le = t.comm_le;
    comm_inj = t.comm_inj;
    row_of = λ r i. owner a else comm r (λ _ l _. late l) (t.row_of r i);
    row_cell = t.row_cell;
    uniq = t.uniq;
    sound = t.sound;
    kept = λ e x i h. kept_map (λ k. k) (seen book book last last v v' (λ d j. j) (omega arith) (sees_else (λ h. absurd (omega arith))) e x)
        (t.kept e x i h);
    rising = t.rising;
    book_last = t.book_last;
    all_table = t.all_table;
  }

  -- Client a is gone, and its rows with it.
  pub tab_removed : (v' a).num ≡ 0 → 1 ≤ (v a).num → (v a).late ≡ 0 → Tab (without (v a).num dat) comm last W table book v'
  unfolding without
  tab_removed gone isopen late = record {
    mine = each a (λ b. 1 ≤ (v' b).num → Mine (without (v a).num dat) comm last W book (v' b)) (λ h. absurd (omega arith))
        (λ b m. rw (else b m) (λ h. let o = t.mine b h in record {
          num_le = o.num_le;
          not_yet = o.not_yet;
          held = λ l x. find_without (v a).num (v b).num x dat (t.apart b a m h) ∙ o.held l x;
          snap_le = o.snap_le;
          since_le = o.since_le;
          is_newer = o.is_newer;
          newer_is = o.newer_is;
          copied = o.copied;
          began = o.began;
        }));
    apart = apart_else (λ b m h. absurd (omega arith));
    comm_le = t.comm_le;
    comm_inj = t.comm_inj;
    row_of = λ r i. let j = drop_in own? dat r i in owner a else comm r (λ _ _ q. j.1 q) (t.row_of r j.0);
    row_cell = λ r i. t.row_cell r (drop_in own? dat r i).0;
    uniq = uniq_drop own? dat t.uniq;
    sound = λ r n i. t.sound r n (drop_in own? dat r i).0;
    kept = λ e x i h. kept_map
        (λ k. (
          k.0,
          in_drop own? dat k.0 k.1 (λ q. none-some ((t.mine a isopen).not_yet late)
              (ap (λ (z : ℕ). num_of z comm) (sym q) ∙ k.3)),
          k.2,
          k.3,
        ))
        (seen book book last last v v' (λ d j. j) (omega arith) (sees_else (λ h. absurd (omega arith))) e x) (t.kept e x i h);
    rising = t.rising;
    book_last = t.book_last;
    all_table = t.all_table;
  }
    where
      own? : (r : DRow) → Dec (r.tag ≡ (v a).num)
      own? r = ℕ_discrete r.tag (v a).num

  -- No row and no committed row has the next number.
  row_le : (r : DRow) → In r dat → r.tag ≤ W
  row_le r i = go (t.row_of r i)
    where
      go : Owned comm v r → r.tag ≤ W
      go (inl h) = omega (arith, (t.mine h.0 h.1).num_le, h.3)
      go (inr h) = (t.comm_le r.tag h.0 h.1).0

  next_comm : num_of (suc W) comm ≡ none
  next_comm = option_case (num_of (suc W) comm) (λ e. e) (λ n e. absurd (omega (arith, (t.comm_le (suc W) n e).0)))

  all_le : (e : Entry) → In e book → e.number ≤ last
  all_le e i = omega (arith, book_max book t.rising e i, t.book_last)

  -- Client a begins.
  pub tab_begun : (v a).num ≡ 0 → v' a ≡ record { num = suc W; snap = last; late = 0; since = length book; copy = table; writes = λ _. none }
      → Tab dat comm last (suc W) table book v'
  tab_begun was at = record {
    mine = each a (λ b. 1 ≤ (v' b).num → Mine dat comm last (suc W) book (v' b))
        (rw at (λ h. record {
          num_le = omega arith;
          not_yet = λ _. next_comm;
          held = λ _ x. none_found (suc W) x dat (λ r i e. omega (arith, row_le r i));
          snap_le = omega arith;
          since_le = omega arith;
          is_newer = λ e i. absurd (in_nil (rw (newerₚ_none book) at i));
          newer_is = λ e i h. absurd (omega (arith, all_le e i));
          copied = λ x. t.all_table x ∙ sym (up_to_whole last book x all_le);
          began = ap last_ofₚ (older_all book) ∙ t.book_last;
        }))
        (λ b m. rw (else b m) (λ h. let o = t.mine b h in record {
          num_le = omega (arith, o.num_le);
          not_yet = o.not_yet;
          held = o.held;
          snap_le = o.snap_le;
          since_le = o.since_le;
          is_newer = o.is_newer;
          newer_is = o.newer_is;
          copied = o.copied;
          began = o.began;
        }));
    apart = apart_else (λ b m h. rw at (λ q. by_cases (dec_le 1 (v b).num) (λ k. omega (arith, (t.mine b k).num_le)) (λ k. omega arith)));
    comm_le = λ u n e. let h = t.comm_le u n e in (omega arith, h.1);
    comm_inj = t.comm_inj;
    row_of = λ r i. owner a else comm r (λ h _ _. omega arith) (t.row_of r i);
    row_cell = t.row_cell;
    uniq = t.uniq;
    sound = t.sound;
    kept = λ e x i h. kept_map (λ k. k) (seen book book last last v v' (λ d j. j) (omega arith) (sees_else (λ h. inl (rw at (omega arith))))
        e x) (t.kept e x i h);
    rising = t.rising;
    book_last = t.book_last;
    all_table = t.all_table;
  }

  -- Client a writes.
  pub tab_written : (x : ℕ) (w : Value) (dat' : List DRow) → x < cells → 1 ≤ (v a).num → (v a).late ≡ 0 → Written (v a).num x w dat dat'
      → v' a ≡ record { num = (v a).num; snap = (v a).snap; late = (v a).late; since = (v a).since; copy = (v a).copy; writes = written (v a).writes x w }
      → Tab dat' comm last W table book v'
  unfolding override
  tab_written x w dat' below isopen late d at = record {
    mine = each a (λ b. 1 ≤ (v' b).num → Mine dat' comm last W book (v' b))
        (rw at (λ h. let o = t.mine a isopen in record {
          num_le = o.num_le;
          not_yet = o.not_yet;
          held = λ l y. by_cases (ℕ_discrete y x)
              (λ e. rw (eq-eqb y x e) (ap (λ (z : ℕ). findₛ (v a).num z dat') e ∙ d.this))
              (λ n. rw (ne_eqb y x n) (d.cells y n ∙ o.held l y));
          snap_le = o.snap_le;
          since_le = o.since_le;
          is_newer = o.is_newer;
          newer_is = o.newer_is;
          copied = o.copied;
          began = o.began;
        }))
        (λ b m. rw (else b m) (λ h. let o = t.mine b h in record {
          num_le = o.num_le;
          not_yet = o.not_yet;
          held = λ l y. d.tags (v b).num y (t.apart b a m h) ∙ o.held l y;
          snap_le = o.snap_le;
          since_le = o.since_le;
          is_newer = o.is_newer;
          newer_is = o.newer_is;
          copied = o.copied;
          began = o.began;
        }));
    apart = apart_else (λ b m h. rw at (λ q. t.apart a b (λ z. m (sym z)) isopen (sym q)));
    comm_le = t.comm_le;
    comm_inj = t.comm_inj;
    row_of = λ r i. owned r (d.new r i);
    row_cell = λ r i. celled r (d.new r i);
    uniq = d.uniq t.uniq;
    sound = λ r n i e. sounded r n (d.new r i) e;
    kept = λ e y i h. kept_map
        (λ k. (
          k.0,
          d.old k.0 k.1 (λ q. none-some ((t.mine a isopen).not_yet late) (ap (λ (z : ℕ). num_of z comm) (sym q) ∙ k.3)),
          k.2,
          k.3,
        ))
        (seen book book last last v v' (λ d j. j) (omega arith) (sees_else (λ h. inr (isopen, rw at (omega arith)))) e y) (t.kept e y i h);
    rising = t.rising;
    book_last = t.book_last;
    all_table = t.all_table;
  }
    where
      same-owner : (r : DRow) → Owned comm v r → Owned comm v' r
      same-owner r (inr h) = inr h
      same-owner r (inl h) = inl (
        h.0,
        each a (λ b. 1 ≤ (v b).num → 1 ≤ (v' b).num) (rw at (λ k. k)) (λ b m. rw (else b m) (λ k. k)) h.0 h.1,
        each a (λ b. (v b).late ≡ 0 → (v' b).late ≡ 0) (rw at (λ k. k)) (λ b m. rw (else b m) (λ k. k)) h.0 h.2,
        each a (λ b. r.tag ≡ (v b).num → r.tag ≡ (v' b).num) (rw at (λ k. k)) (λ b m. rw (else b m) (λ k. k)) h.0 h.3,
      )

      owned : (r : DRow) → In r dat ⊎ ((r.tag ≡ (v a).num) × (r.cell ≡ x)) → Owned comm v' r
      owned r (inl i) = same-owner r (t.row_of r i)
      owned r (inr q) = inl (a, rw at isopen, rw at late, rw at q.0)

      celled : (r : DRow) → In r dat ⊎ ((r.tag ≡ (v a).num) × (r.cell ≡ x)) → r.cell < cells
      celled r (inl i) = t.row_cell r i
      celled r (inr q) = omega (arith, q.1)

      sounded : (r : DRow) (n : ℕ) → In r dat ⊎ ((r.tag ≡ (v a).num) × (r.cell ≡ x)) → num_of r.tag comm ≡ some n
          → (e : Entry) × In e book × (e.number ≡ n) × (e.puts r.cell ≡ some r.value)
      sounded r n (inl i) e = t.sound r n i e
      sounded r n (inr q) e = absurd (none-some ((t.mine a isopen).not_yet late) (ap (λ (z : ℕ). num_of z comm) (sym q.0) ∙ e))

  -- Client a commits under number n.
  module _ (n : ℕ) (ahead : last < n) (isopen : 1 ≤ (v a).num) (late : (v a).late ≡ 0)
      (at : v' a ≡ record { num = (v a).num; snap = (v a).snap; late = 1; since = (v a).since; copy = (v a).copy; writes = (v a).writes }) where
    abbrev entry : Entry
    entry = record { number = n; puts = (v a).writes }

    abbrev comm' : List CRow
    comm' = comm ++ (record { number = n; tag = (v a).num } ∷ [])

    mine' : (z : Reader) → (z.late ≡ 0 → z.num ≢ (v a).num) → Mine dat comm last W book z → Mine dat comm' n W (entry ∷ book) z
    mine' z h o = record {
      num_le = o.num_le;
      not_yet = λ l. num_none comm n (v a).num z.num (o.not_yet l) (h l);
      held = o.held;
      snap_le = omega (arith, o.snap_le);
      since_le = omega (arith, o.since_le);
      is_newer = λ e i. in_case (rw (newerₚ-cons z.since entry book o.since_le) at i)
          (λ q. (here q, omega (arith, o.snap_le, ap (λ (z : Entry). z.number) q)))
          (λ j. let k = o.is_newer e j in (there k.0, k.1));
      newer_is = λ e i k. rw (newerₚ-cons z.since entry book o.since_le) (in_case i here (λ j. there (o.newer_is e j k)));
      copied = λ x. o.copied x ∙ sym (up_to_skip z.snap entry book x (omega (arith, o.snap_le)));
      began = ap last_ofₚ (older_cons z.since entry book o.since_le) ∙ o.began;
    }

    pub tab-committed : Tab dat comm' n W (overlay (v a).writes table) (entry ∷ book) v'
    unfolding last_ofₚ values_of
    tab-committed = record {
      mine = each a (λ b. 1 ≤ (v' b).num → Mine dat comm' n W (entry ∷ book) (v' b))
          (rw at (λ h. mine' _ (λ q. absurd (omega arith)) (relate (t.mine a isopen))))
          (λ b m. rw (else b m) (λ h. mine' (v b) (λ _. t.apart b a m h) (t.mine b h)));
      apart = apart_else (λ b m h. rw at (λ q. t.apart a b (λ z. m (sym z)) isopen (sym q)));
      comm_le = λ u m e. bounds u m (num_case comm n (v a).num u m e);
      comm_inj = λ x y m e f. inj x y m (num_case comm n (v a).num x m e) (num_case comm n (v a).num y m f);
      row_of = λ r i. owned r (t.row_of r i);
      row_cell = t.row_cell;
      uniq = t.uniq;
      sound = λ r m i e. sounded r m i (num_case comm n (v a).num r.tag m e);
      kept = λ e x i h. in_case i
          (λ q. inl (mine-row e x q h))
          (λ j. kept_map (λ k. (k.0, k.1, k.2, num_old comm n (v a).num k.0.tag e.number k.3))
          (seen book (entry ∷ book) last n v v' (λ d j. there j) (omega arith) (sees_else (λ h. inr (isopen, rw at (omega arith)))) e x)
          (t.kept e x j h));
      rising = (λ d i. omega (arith, all_le d i), t.rising);
      book_last = refl;
      all_table = λ x. ap (or_else ((v a).writes x)) (t.all_table x);
    }
      where
        relate : Mine dat comm last W book (v a)
            → Mine dat comm last W book (record {
              num = (v a).num;
              snap = (v a).snap;
              late = 1;
              since = (v a).since;
              copy = (v a).copy;
              writes = (v a).writes;
            })
        relate o = record {
          num_le = o.num_le;
          not_yet = λ q. absurd (omega arith);
          held = λ q. absurd (omega arith);
          snap_le = o.snap_le;
          since_le = o.since_le;
          is_newer = o.is_newer;
          newer_is = o.newer_is;
          copied = o.copied;
          began = o.began;
        }

        bounds : (u m : ℕ) → (num_of u comm ≡ some m) ⊎ ((num_of u comm ≡ none) × (u ≡ (v a).num) × (n ≡ m)) → (u ≤ W) × (m ≤ n)
        bounds u m (inl e) = let h = t.comm_le u m e in (h.0, omega arith)
        bounds u m (inr q) = (omega (arith, (t.mine a isopen).num_le), omega arith)

        inj : (x y m : ℕ) → (num_of x comm ≡ some m) ⊎ ((num_of x comm ≡ none) × (x ≡ (v a).num) × (n ≡ m))
            → (num_of y comm ≡ some m) ⊎ ((num_of y comm ≡ none) × (y ≡ (v a).num) × (n ≡ m)) → x ≡ y
        inj x y m (inl e) (inl f) = t.comm_inj x y m e f
        inj x y m (inl e) (inr q) = absurd (omega (arith, (t.comm_le x m e).1, q.2))
        inj x y m (inr q) (inl f) = absurd (omega (arith, (t.comm_le y m f).1, q.2))
        inj x y m (inr q) (inr p) = q.1 ∙ sym p.1

        owned : (r : DRow) → Owned comm v r → Owned comm' v' r
        owned r (inr h) = inr (h.0, num_old comm n (v a).num r.tag h.0 h.1)
        owned r (inl h) =
            by_cases (ℕ_discrete h.0 a)
            (λ e. let q : r.tag ≡ (v a).num = subst (λ (b : ℕ). r.tag ≡ (v b).num) e h.3 in
            inr (n, num_new comm n (v a).num r.tag (ap (λ (z : ℕ). num_of z comm) q ∙ (t.mine a isopen).not_yet late) q))
            (λ m. inl (h.0, rw (else h.0 m) h.1, rw (else h.0 m) h.2, rw (else h.0 m) h.3))

        sounded : (r : DRow) (m : ℕ) → In r dat → (num_of r.tag comm ≡ some m) ⊎ ((num_of r.tag comm ≡ none) × (r.tag ≡ (v a).num) × (n ≡ m))
            → (e : Entry) × In e (entry ∷ book) × (e.number ≡ m) × (e.puts r.cell ≡ some r.value)
        sounded r m i (inl e) = let h = t.sound r m i e in (h.0, there h.1, h.2, h.3)
        sounded r m i (inr q) = (
          entry,
          here refl,
          q.2,
          sym ((t.mine a isopen).held late r.cell) ∙ ap (λ (z : ℕ). findₛ z r.cell dat) (sym q.1) ∙ find_uniq dat t.uniq r i,
        )

        mine-row : (e : Entry) (x : ℕ) → e ≡ entry → IsSome (e.puts x) → RowOf dat comm' e.number x
        mine-row e x q h =
            let h' : IsSome ((v a).writes x) = subst (λ (z : Entry). IsSome (z.puts x)) q h in
            let w = is_some ((v a).writes x) h' in
            let r = find_row (v a).num x dat w.0 ((t.mine a isopen).held late x ∙ w.1) in (
              r.0,
              r.1,
              r.3,
              num_new comm n (v a).num r.0.tag (ap (λ (z : ℕ). num_of z comm) r.2 ∙ (t.mine a isopen).not_yet late) r.2
                  ∙ ap (λ (z : Entry). some z.number) (sym q),
            )

-- What a trim at l leaves.
abbrev pub trim_dat : List DRow → List CRow → ℕ → List DRow
trim_dat dat comm l = drop? (passed? dat comm l) dat

abbrev pub trim_comm : List DRow → List CRow → ℕ → List CRow
trim_comm dat comm l = drop? (bare? (trim_dat dat comm l)) comm

-- A trim at l: l is at most every snapshot.
module _ {dat : List DRow} {comm : List CRow} {last W : ℕ} {table : ℕ → Option Value} {book : List Entry} {v : ℕ → Reader}
    (t : Tab dat comm last W table book v) (l : ℕ) (low_last : l ≤ last) (low_snap : (a : ℕ) → 1 ≤ (v a).num → l ≤ (v a).snap) where
  -- A tag with a row left keeps its number, another has none.
  num_kept : (u : ℕ) (r : DRow) → In r (trim_dat dat comm l) → r.tag ≡ u → num_of u (trim_comm dat comm l) ≡ num_of u comm
  unfolding num_of
  num_kept u r i e =
      first_keep (number_at u) (bare? (trim_dat dat comm l)) comm
      (λ c j b. option_case (number_at u c) (λ q. q) (λ n q. absurd (b (r, i, e ∙ sym (row_number_at u c n q).0))))

  num_sub : (u n : ℕ) → num_of u (trim_comm dat comm l) ≡ some n → num_of u comm ≡ some n
  unfolding num_of
  num_sub u n e = go (any? (λ r. ℕ_discrete r.tag u) (trim_dat dat comm l))
    where
      go : Dec ((r : DRow) × In r (trim_dat dat comm l) × (r.tag ≡ u)) → num_of u comm ≡ some n
      go (yes h) = sym (num_kept u h.0 h.1 h.2) ∙ e
      go (no h) =
          absurd (none-some (first_gone (number_at u) (bare? (trim_dat dat comm l)) comm
          (λ c j b. option_case (number_at u c) (λ q. q) (λ m q. absurd (b (λ r. h (r.0, r.1, r.2 ∙ (row_number_at u c m q).0)))))) e)

  num_not : (u : ℕ) → num_of u comm ≡ none → num_of u (trim_comm dat comm l) ≡ none
  num_not u e = option_case (num_of u (trim_comm dat comm l)) (λ q. q) (λ n q. absurd (none-some e (num_sub u n q)))

  pub was : (r : DRow) → In r (trim_dat dat comm l) → In r dat × (Passed dat comm l r → ⊥)
  was r i = drop_in (passed? dat comm l) dat r i

  find_open : (u x : ℕ) → num_of u comm ≡ none → findₛ u x (trim_dat dat comm l) ≡ findₛ u x dat
  unfolding findₛ
  find_open u x e =
      first_keep (value_atₛ u x) (passed? dat comm l) dat
      (λ r i q. value_tag u x r (λ z. let n = on_some (num_of r.tag comm) q in none-some (ap (λ (y : ℕ). num_of y comm) z ∙ e) n.1))

  pub tab_trimmed : Tab (trim_dat dat comm l) (trim_comm dat comm l) last W table book v
  tab_trimmed = record {
    mine = λ a h. let o = t.mine a h in record {
      num_le = o.num_le;
      not_yet = λ q. num_not (v a).num (o.not_yet q);
      held = λ q x. find_open (v a).num x (o.not_yet q) ∙ o.held q x;
      snap_le = o.snap_le;
      since_le = o.since_le;
      is_newer = o.is_newer;
      newer_is = o.newer_is;
      copied = o.copied;
      began = o.began;
    };
    apart = t.apart;
    comm_le = λ u n e. t.comm_le u n (num_sub u n e);
    comm_inj = λ x y n e f. t.comm_inj x y n (num_sub x n e) (num_sub y n f);
    row_of = λ r i. kept_map (λ h. h) (λ h. (h.0, num_kept r.tag r i refl ∙ h.1)) (t.row_of r (was r i).0);
    row_cell = λ r i. t.row_cell r (was r i).0;
    uniq = uniq_drop (passed? dat comm l) dat t.uniq;
    sound = λ r n i e. t.sound r n (was r i).0 (num_sub r.tag n e);
    kept = λ e x i h. still e x (t.kept e x i h);
    rising = t.rising;
    book_last = t.book_last;
    all_table = t.all_table;
  }
    where
      still : (e : Entry) (x : ℕ) → RowOf dat comm e.number x ⊎ Superseded book last v e x
          → RowOf (trim_dat dat comm l) (trim_comm dat comm l) e.number x ⊎ Superseded book last v e x
      still e x (inr d) = inr d
      still e x (inl k) =
          by_cases (passed? dat comm l k.0)
          (λ q. inr (later (on_some (num_of k.0.tag comm) q)))
          (λ q. let i : In k.0 (trim_dat dat comm l) = in_drop (passed? dat comm l) dat k.0 k.1 q in
          inl (k.0, i, k.2, num_kept k.0.tag k.0 i refl ∙ k.3))
        where
          later : (n : ℕ) × (num_of k.0.tag comm ≡ some n) × ((r : DRow) × In r dat ×
              ((r.cell ≡ k.0.cell) × On (λ m. (n < m) × (m ≤ l)) (num_of r.tag comm)))
              → Superseded book last v e x
          later h =
              let m = on_some (num_of h.2.0.tag comm) h.2.2.1 in
              let d = t.sound h.2.0 m.0 h.2.1 m.1 in
              let q : e.number ≡ h.0 = some-injective e.number h.0 (sym k.3 ∙ h.1) in (
                d.0,
                d.1,
                omega (arith, m.2, d.2),
                rw (sym (h.2.2.0 ∙ k.2), d.3) tt,
                omega (arith, m.2, d.2),
                λ a z. omega
                    (arith, m.2, d.2, low_snap a z),
              )
