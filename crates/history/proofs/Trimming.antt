-- Trim on an image is, by the view, what Transition.antt says of it: low is the same number on both sides, and the same rows go.
-- Assumes nothing.
use Rattle.std.specs.Prelude.{None, Some}
use Prim.Native.Nat.{ℕ, zero, suc, ◌-◌}
use mathlib.Core.Path.{◌≡◌, refl, sym, ap, ◌∙◌}
use mathlib.Core.Logic.Dec
use mathlib.Core.Logic.{if_pos, if_neg, by_cases}
use mathlib.Core.Bool.{not}
use mathlib.Core.List.{List, map}
use mathlib.Core.Option.{some}
use native.Mathlib.Decide.{ℕ_discrete, dec_lt, dec_le}
use native.Mathlib.Omega.{arith}
use borrow.Author.Tests.{lt-ltb, le-ltb, eq-eqb, ne_eqb}
use lib.ListN.{length, length-map}
use Rattle.spec.specs.Set.{clients}
use Rattle.spec.specs.Rows.{Row, tag_of, cell_of, commit_tag, has_tag}
use Rattle.spec.specs.Numbers.{lesser, smallest, Number}
use Rattle.spec.specs.Look.{commit_of}
use Rattle.spec.specs.Trim.{between, later, overtaken, stays, trimmed_rows, in_use, trimmed_commits}
use Rattle.spec.specs.Answers.{Answered}
use Rattle.spec.specs.Image.{Image, with_rows, number_of, snapshot_of}
use Rattle.spec.specs.Calls.{readers, or_number, low, trimmed_to, trim}
use Rattle.spec.specs.Run.{Trim}
use Rattle.history.proofs.Lists.{drop?, on?, any?}
use Rattle.history.proofs.Wellformed.{Wellformed}
use Rattle.history.proofs.Model as m
use Rattle.history.proofs.Model.{out, passed?, bare?, num_of}
use Rattle.history.proofs.Transition.{trims}
use Rattle.history.proofs.View.{data_row_of, commit_row_of, view, number_at_lem, snapshot_at, last_at, size_at, used_at}
use Rattle.history.proofs.Searches.{says, says-and, says_eq, says_lt, says_le, says_yes, says_no, any_view, drop_view, tag_view}
use Rattle.history.proofs.Searches.{as_number, commit_view}
use Rattle.history.proofs.Simulates.{observed_outcome, Simulates, simulates}

-- ---- low

lesser_view : (n : ℕ) (l : Number) → m.lesserₛ n (as_number l) ≡ as_number (lesser (Some n) l)
unfolding m.lesserₛ lesser
lesser_view n None = refl
lesser_view n (Some k) =
    by_cases (dec_lt k n)
    (λ p. rw (lt-ltb k n p) (ap (λ (z : ℕ). some z) (omega arith)))
    (λ p. rw (le-ltb k n (omega (arith, p))) (ap (λ (z : ℕ). some z) (omega (arith, p))))

module _ (i : Image) where
  readers-view : (n : ℕ) → m.snapshots n (view i).cl ≡ as_number (smallest (readers i n))
  unfolding m.snapshots readers smallest lesser
  readers-view zero = refl
  readers-view (suc n) =
      by_cases (ℕ_discrete (number_of i n) 0)
      (λ e. rw (eq-eqb (number_of i n) 0 e) (if_neg (dec_le 1 ((view i).cl n).number) (λ p. omega (arith, p, e, number_at_lem i n)) _ _ ∙ readers-view n))
      (λ d. rw (ne_eqb (number_of i n) 0 d) (if_pos (dec_le 1 ((view i).cl n).number) (omega (arith, d, number_at_lem i n)) _ _
      ∙ rw (snapshot_at i n, readers-view n) (lesser_view (snapshot_of i n) (smallest (readers i n)))))

  or_view : (l : Number) → m.default (view i).last (as_number l) ≡ or_number l i.counters.last
  unfolding m.default
  or_view (Some n) = refl
  or_view None = last_at i

  low-view : m.lowₛ (view i) ≡ low i
  unfolding m.lowₛ low
  low-view = ap (m.default (view i).last) (readers-view clients) ∙ or_view (smallest (readers i clients))

-- ---- the rows that go

module _ (ds cs : List Row) (l : ℕ) where
  between_view : (n : ℕ) (c : Number) → says (on? (λ k. Dec.and (dec_lt n k) (dec_le k l)) (as_number c)) ≡ between n l c
  unfolding on? between
  between_view n None = refl
  between_view n (Some k) = says-and (dec_lt n k) (dec_le k l) ∙ rw (says_lt n k, says_le k l)

  later_view : (x n : ℕ) (q : Row)
      → says (Dec.and (ℕ_discrete (data_row_of q).cell x) (on? (λ k. Dec.and (dec_lt n k) (dec_le k l))
      (num_of (data_row_of q).tag (map commit_row_of cs)))) ≡ later cs l x n q
  unfolding later data_row_of
  later_view x n q =
      says-and (ℕ_discrete (cell_of q) x) (on? (λ k. Dec.and (dec_lt n k) (dec_le k l)) (num_of (tag_of q) (map commit_row_of cs)))
      ∙ rw (says_eq (cell_of q) x, commit_view (tag_of q) cs, between_view n (commit_of (tag_of q) cs))

  overtaken_view : (x : ℕ) (c : Number)
      → says (on? (λ n. any? (λ r'. Dec.and (ℕ_discrete r'.cell x)
      (on? (λ k. Dec.and (dec_lt n k) (dec_le k l)) (num_of r'.tag (map commit_row_of cs)))) (map data_row_of ds)) (as_number c)) ≡ overtaken
      l ds cs x c
  unfolding on? overtaken
  overtaken_view x None = refl
  overtaken_view x (Some n) =
      any_view (λ r'. Dec.and (ℕ_discrete r'.cell x) (on? (λ k. Dec.and (dec_lt n k) (dec_le k l)) (num_of r'.tag (map commit_row_of cs))))
      (later cs l x n) (later_view x n) ds

  passed_view : (r : Row) → not (says (passed? (map data_row_of ds) (map commit_row_of cs) l (data_row_of r))) ≡ stays l ds cs r
  unfolding passed? stays data_row_of
  passed_view r = rw (commit_view (tag_of r) cs) (ap not (overtaken_view (cell_of r) (commit_of (tag_of r) cs)))

  data_left : drop? (passed? (map data_row_of ds) (map commit_row_of cs) l) (map data_row_of ds) ≡ map data_row_of (trimmed_rows l ds cs)
  unfolding trimmed_rows
  data_left = drop_view data_row_of (passed? (map data_row_of ds) (map commit_row_of cs) l) (stays l ds cs) passed_view ds

not-not : {P : Type 0} (x : Dec P) → not (says (Dec.not x)) ≡ says x
not-not x = by_cases x
    (λ p. ap not (says_no (Dec.not x) (λ n. n p)) ∙ sym (says_yes x p))
    (λ n. ap not (says_yes (Dec.not x) n) ∙ sym (says_no x n))

bare_view : (ds : List Row) (c : Row) → not (says (bare? (map data_row_of ds) (commit_row_of c))) ≡ in_use ds c
unfolding bare? in_use commit_row_of
bare_view ds c = not-not (any? (λ r. ℕ_discrete r.tag (commit_tag c)) (map data_row_of ds)) ∙ any_view
    (λ r. ℕ_discrete r.tag (commit_tag c)) (has_tag (commit_tag c)) (tag_view (commit_tag c)) ds

commits_left : (ds cs : List Row) → drop? (bare? (map data_row_of ds)) (map commit_row_of cs) ≡ map commit_row_of (trimmed_commits ds cs)
unfolding trimmed_commits
commits_left ds cs = drop_view commit_row_of (bare? (map data_row_of ds)) (in_use ds) (bare_view ds) cs

-- ---- the call

module _ (i : Image) where
  rows_at : (l : ℕ) → drop? (passed? (view i).dat (view i).comm l) (view i).dat ≡ map data_row_of (trimmed_rows l i.data_rows i.commit_rows)
  unfolding view
  rows_at l = data_left i.data_rows i.commit_rows l

  rows_left : drop? (passed? (view i).dat (view i).comm (m.lowₛ (view i))) (view i).dat ≡ map data_row_of
      (trimmed_rows (low i) i.data_rows i.commit_rows)
  rows_left = rw (low-view i) (rows_at (low i))

  entries_left : (d : List Row) → drop? (bare? (map data_row_of d)) (view i).comm ≡ map commit_row_of (trimmed_commits d i.commit_rows)
  unfolding view
  entries_left d = commits_left d i.commit_rows

  left_as : (d c : List Row) (n : ℕ)
      → out (view (with_rows i d c)) (Answered n)
      ≡ out record {
        bounds = (view i).bounds;
        W = (view i).W;
        R = (view i).R;
        C = (view i).C;
        last = (view i).last;
        dat = map data_row_of d;
        comm = map commit_row_of c;
        cl = (view i).cl;
      } (Answered n)
  unfolding view
  left_as d c n = refl

  trimmed_view : observed_outcome Trim (trim i) ≡ m.trimmedₛ (view i)
  unfolding trim trimmed_to m.trimmedₛ
  trimmed_view =
      let d : List Row = trimmed_rows (low i) i.data_rows i.commit_rows in
      rw (rows_left, entries_left d, used_at i, length-map d data_row_of)
      (left_as d (trimmed_commits d i.commit_rows) (length i.data_rows - length d))

  pub trim_simulates : Wellformed i → Simulates i Trim (trim i)
  trim_simulates z = simulates i Trim (trim i) trimmed_view (trims (omega (arith, used_at i, size_at i, z.data_fit)))
