-- The calls that open, close, write, commit and trim: each keeps the invariant, and its answer is right. The commit is the heart: nobody else
-- past its wait wrote a cell that this client wrote (`no-share`, by the request queue), so all others stay fresh, and nobody else that has a
-- commit number has a smaller one (`first_one`, by the commit queue), so numbers in the book rise.
-- Assumes nothing.
use Prim.Native.Nat.{ℕ, zero, suc, ◌+◌, ◌-◌, min, ◌≤◌, ◌<◌}
use mathlib.Core.Path.{◌≡◌, refl, sym, ◌∙◌, ap, subst, fun_ext}
use mathlib.Core.Logic.{◌≢◌, inl, inr, if_pos, if_neg, by_cases}
use mathlib.Core.Bool.{false, true≢false}
use mathlib.Core.List.Memᴰ.{head as here}
use mathlib.Core.List.Memᴰ.{tail as there}
use mathlib.Core.List.{List, ◌∷◌}
use mathlib.Core.Option.{Option, none, some, IsSome, some-injective}
use native.Mathlib.Decide.{ℕ_discrete, dec_le, dec_lt}
use native.Mathlib.Omega.{arith}
use lib.ListN.{length}
use Rattle.history.proofs.Lists.{in_case, length-drop?, none-some, option_case}
use Rattle.history.proofs.Tickets.{TicketQueue, ticket_low, exclusive}
use Rattle.history.proofs.Model.{newcomer, DRow, Client, State, findₛ, writes_of, rphase, cphase, rph, cph, putₛ, same, closedₛ}
use Rattle.history.proofs.Model.{clear_both, at_stageₛ, out, checkedₛ, committed, begunₛ, lookup, committed_at, figured, freeₛ, without}
use Rattle.history.proofs.Model.{leave, removedₛ, with_data, trimmedₛ, smallestₛ, check_key, snapshots, lesserₛ, default, passed?}
use Rattle.history.proofs.Model.{lowₛ as low_of}
use Rattle.history.proofs.Plain.{restaged, on_progressₚ, opening, rewritten, Entry, PClient, Plain, NoClashₚ, set_p, updateₚ, on_beginₚ}
use Rattle.history.proofs.Plain.{on_writeₚ, on_abandonₚ, on_advanceₚ, on_stageₚ, on_commitₚ, on_closeₚ, none_yet, Sharesₚ}
use Rattle.history.proofs.Invariant.{Reader, reader_of, lateness, Tab, OneClient, Rel, Always, Inv}
use Rattle.history.proofs.Moves.{put_at, put_off, set_p_at, set_p_off, each, Tame, tame_same, tame_both, others_R, others_C, moves}
use Rattle.history.proofs.Moves.{seen_of, seen_off, seen_at, one_off}
use Rattle.history.proofs.Booked.{is_some, find_row, row_find, none_found, find_without, without_none, Written, newerₚ-cons}
use Rattle.history.proofs.Transition.{HasRow}
use Rattle.history.proofs.Tables.{tab_done, tab_removed, tab_begun, tab_written, tab-committed, tab_trimmed, trim_dat, was}
use Rattle.history.proofs.Lookups.{read_right, check-none, check-least, trim_count}
use Rattle.history.proofs.Arms.{Good, cph_in, on_stage_moved, R-past, C-low, C-own, late_step}
use Rattle.spec.specs.Table.{Value, Values, or_else}
use Rattle.spec.specs.Right.{Bounds, WriteAllowed, WriteRefusal, for_cell, for_length, for_stage, for_limit, for_rows}
use Rattle.spec.specs.declared.Progress.TheVariants.{Done}
use Rattle.spec.specs.Answers.{Answered, cell_limit, no_free_row}
use Rattle.spec.specs.Run.{Begin, Read, Write, Advance, Abandon, Trim}
use Rattle.spec.specs.Set.{clients}
use Rattle.spec.specs.Numbers.{top}
use Rattle.spec.specs.Rows.{cells}

module _ {bounds : Bounds} {s : State} {p : Plain} (inv : Inv bounds s p) (a : ℕ) where
  -- Client a ends outside both queues, and the rows of the others are no more than they were.
  module _ (c : Client) (f : Client → Client) (tame : Tame a f) (h : c.stage ≡ 0) where
    R-out : (dat' : List DRow)
        → ((b : ℕ) → b ≢ a → 1 ≤ (s.cl b).number → (x : ℕ) → IsSome (findₛ (s.cl b).number x dat')
        → IsSome (findₛ (s.cl b).number x s.dat))
        → TicketQueue (λ b. rphase (putₛ a c f s.cl b).stage) (λ b. (putₛ a c f s.cl b).request) (λ b. (putₛ a c f s.cl b).rwait)
        s.R (Rel dat' (putₛ a c f s.cl))
    unfolding rphase
    R-out dat' sub =
        ticket_low a inv.rq
        (others_R a c f tame s.cl s.dat dat' (omega arith)
        (each a (λ b. 2 ≤ rphase (putₛ a c f s.cl b).stage → (x : ℕ) → IsSome (findₛ (putₛ a c f s.cl b).number x dat') → IsSome
        (findₛ (s.cl b).number x s.dat))
        (λ k. absurd (omega (arith, ap (λ (d : Client). d.stage) (put_at a c f s.cl))))
        (λ b m. rw (put_off a c f s.cl b m, tame.stage (s.cl b), tame.number (s.cl b)) (λ k. sub b m (opened b k)))))
        (rw (put_at a c f s.cl) (omega arith))
      where
        opened : (b : ℕ) → 2 ≤ min (s.cl b).stage 5 → 1 ≤ (s.cl b).number
        opened b k = by_cases (ℕ_discrete (s.cl b).number 0) (λ e. absurd (omega (arith, (inv.one b).idle e))) (λ n. omega arith)

    C-out : TicketQueue (λ b. cphase (putₛ a c f s.cl b).stage) (λ b. (putₛ a c f s.cl b).commit) (λ b. (putₛ a c f s.cl b).cwait)
        s.C Always
    C-out = ticket_low a inv.cq (others_C a c f tame s.cl (omega arith)) (rw (put_at a c f s.cl, h) (omega (arith, cph_in 0 (omega arith))))

  pub begin_good : a < clients → (s.cl a).number ≡ 0 → s.W < top → Good bounds s p (Begin a) (begunₛ s a)
  unfolding begunₛ updateₚ on_beginₚ lateness
  begin_good h was left = (
    ((inv.one a).dead was, sym inv.tab.book_last, refl, left, h),
    record {
      same_bounds = inv.same_bounds;
      counted = inv.counted;
      last_le = inv.last_le;
      one = each a (λ b. OneClient s.last p.book b (putₛ a c same s.cl b).number (putₛ a c same s.cl b).stage
          (putₛ a c same s.cl b).commit (set_p a q p.cl b))
          (rw (put_at a c same s.cl, set_p_at a q p.cl) record {
            on_stage = refl;
            live = λ _. refl;
            dead = λ e. absurd (omega arith);
            idle = λ _. refl;
            below = λ _. h;
            numbered = λ k. absurd (omega arith);
            ahead = λ k. absurd (omega arith);
            in_book = λ k. absurd (omega arith);
            fresh = λ k. absurd (omega arith);
          })
          (λ b m. one_off a c same (tame_same a) s.cl q p.cl s.last p.book b m (inv.one b));
      rq = R-out c same (tame_same a) refl s.dat (λ b m k x i. i);
      cq = C-out c same (tame_same a) refl;
      tab = tab_begun inv.tab a (seen_off a c same (tame_same a) s.cl q p.cl) was (seen_at a c same s.cl q p.cl);
    },
  )
    where
      c : Client
      c = newcomer s

      q : PClient
      q = opening p

  -- Client a is closed.
  leaves : (dat' : List DRow)
      → ((b : ℕ) → b ≢ a → 1 ≤ (s.cl b).number → (x : ℕ) → IsSome (findₛ (s.cl b).number x dat')
      → IsSome (findₛ (s.cl b).number x s.dat))
      → Tab dat' s.comm s.last s.W p.table p.book (reader_of (leave s a dat') (on_closeₚ p a)) → Inv bounds (leave s a dat')
      (on_closeₚ p a)
  unfolding closedₛ none_yet
  leaves dat' sub tab = record {
    same_bounds = inv.same_bounds;
    counted = inv.counted;
    last_le = inv.last_le;
    one = each a (λ b. OneClient s.last p.book b (putₛ a closedₛ (clear_both a) s.cl b).number
        (putₛ a closedₛ (clear_both a) s.cl b).stage (putₛ a closedₛ (clear_both a) s.cl b).commit (set_p a none_yet p.cl b))
        (rw (put_at a closedₛ (clear_both a) s.cl, set_p_at a none_yet p.cl) record {
          on_stage = refl;
          live = λ k. absurd (omega arith);
          dead = λ _. refl;
          idle = λ _. refl;
          below = λ k. absurd (omega arith);
          numbered = λ k. absurd (omega arith);
          ahead = λ k. absurd (omega arith);
          in_book = λ k. absurd (omega arith);
          fresh = λ k. absurd (omega arith);
        })
        (λ b m. one_off a closedₛ (clear_both a) (tame_both a) s.cl none_yet p.cl s.last p.book b m (inv.one b));
    rq = R-out closedₛ (clear_both a) (tame_both a) refl dat' sub;
    cq = C-out closedₛ (clear_both a) (tame_both a) refl;
    tab = tab;
  }

  closed_view : (b : ℕ) → b ≢ a → reader_of (leave s a s.dat) (on_closeₚ p a) b ≡ reader_of s p b
  closed_view = seen_off a closedₛ (clear_both a) (tame_both a) s.cl none_yet p.cl

  closed_num : (reader_of (leave s a s.dat) (on_closeₚ p a) a).num ≡ 0
  unfolding closedₛ
  closed_num = ap (λ (z : Reader). z.num) (seen_at a closedₛ (clear_both a) s.cl none_yet p.cl)

  leaves_removed : 1 ≤ (s.cl a).number → (s.cl a).stage ≤ 11 → Inv bounds (removedₛ s a) (on_closeₚ p a)
  unfolding lateness
  leaves_removed isopen h =
      leaves (without (s.cl a).number s.dat)
      (λ b m k x i. rw (find_without (s.cl a).number (s.cl b).number x s.dat (inv.tab.apart b a m k)) at i)
      (tab_removed inv.tab a closed_view closed_num isopen (omega arith))

  pub abandon_good : 1 ≤ (s.cl a).number → (s.cl a).stage < 12 → Good bounds s p (Abandon a) (figured (removedₛ s a))
  unfolding updateₚ on_abandonₚ
  abandon_good isopen h = (((inv.one a).live isopen, omega (arith, (inv.one a).on_stage), refl), leaves_removed isopen (omega arith))

  pub arm13 : 1 ≤ (s.cl a).number → (s.cl a).stage ≡ 13 → Good bounds s p (Advance a) (out (leave s a s.dat) (Answered (Done (s.cl a).commit)))
  unfolding updateₚ on_advanceₚ on_progressₚ lateness
  arm13 isopen e = (
    ((inv.one a).live isopen, inl ((inv.one a).on_stage ∙ e, sym ((inv.one a).numbered (omega arith)), (inv.one a).in_book (omega arith))),
    leaves s.dat (λ b m k x i. i) (tab_done inv.tab a closed_view closed_num (omega arith)),
  )

  -- Client a ends with nothing written: it has no row to remove.
  pub arm0_ends : 1 ≤ (s.cl a).number → (s.cl a).stage ≡ 0 → (HasRow (s.cl a).number s.dat → ⊥)
      → Good bounds s p (Advance a) (out (leave s a s.dat) (Answered (Done (s.cl a).snapshot)))
  unfolding updateₚ on_advanceₚ on_progressₚ lateness
  arm0_ends isopen e n = (
    (
      (inv.one a).live isopen,
      inr (
        (inv.one a).on_stage ∙ e,
        λ w. let z = is_some ((p.cl a).writes w.0) w.1 in
            none-some (none_found (s.cl a).number w.0 s.dat (λ r i q. n (r, i, q)))
            ((inv.tab.mine a isopen).held (omega arith) w.0 ∙ z.1),
        sym (inv.tab.mine a isopen).began,
      ),
    ),
    subst (λ (d : List DRow). Inv bounds (leave s a d) (on_closeₚ p a)) (without_none (s.cl a).number s.dat n)
        (leaves_removed isopen (omega arith)),
  )

  module _ (isopen : 1 ≤ (s.cl a).number) (e : (s.cl a).stage ≡ 5) where
    passes : NoClashₚ p a → Good bounds s p (Advance a) (checkedₛ s a none)
    unfolding checkedₛ updateₚ on_advanceₚ on_progressₚ
    passes h = (
      ((inv.one a).live isopen, (omega (arith, (inv.one a).on_stage), omega arith, λ k. absurd (omega arith), λ _. h, λ k. absurd (omega arith))),
      rw (on_stage_moved p a 6 (omega arith) (omega arith))
          (moves inv a (at_stageₛ (s.cl a) 6) same (tame_same a) s.R s.C p.count (p.cl a).commit inv.counted
          (set_p a (restaged (p.cl a) 6 (p.cl a).commit) p.cl)
          (set_p_at a _ p.cl) (set_p_off a _ p.cl) refl refl (late_step (s.cl a).stage 6 (omega arith) (omega arith)) isopen (omega arith)
          (R-past inv a isopen (at_stageₛ (s.cl a) 6) same (tame_same a) (λ d. refl) refl s.C (omega arith) (omega arith) (omega arith) refl refl)
          (C-low inv a isopen (at_stageₛ (s.cl a) 6) same (tame_same a) refl s.R s.C (omega arith) (omega arith)
          (omega (arith, cph_in 6 (omega arith))))
          (λ k. absurd (omega arith))
          (λ k. absurd (omega arith))
          (λ k. absurd (omega arith))
          (λ _ _. h)),
    )

    early : lateness (s.cl a).stage ≡ 0
    unfolding lateness
    early = omega arith

    pub arm5 : Good bounds s p (Advance a) (checkedₛ s a (smallestₛ (check_key s.dat s.comm (s.cl a).number (s.cl a).snapshot) s.dat))
    unfolding checkedₛ updateₚ on_advanceₚ on_progressₚ
    arm5 =
        option_case (smallestₛ (check_key s.dat s.comm (s.cl a).number (s.cl a).snapshot) s.dat)
        (λ q. rw q (passes (check-none inv.tab a isopen early q)))
        (λ w q. rw q (let h = check-least inv.tab a isopen early w q in
        (((inv.one a).live isopen, ((inv.one a).on_stage ∙ e, h.0, h.1)), leaves_removed isopen (omega arith))))

  -- The commit.
  module _ (isopen : 1 ≤ (s.cl a).number) (e : (s.cl a).stage ≡ 11) where
    opened : (b : ℕ) → 1 ≤ (s.cl b).stage → 1 ≤ (s.cl b).number
    opened b k = by_cases (ℕ_discrete (s.cl b).number 0) (λ e. absurd (omega (arith, (inv.one b).idle e))) (λ n. omega arith)

    onStage-made : on_stageₚ p a 12 ≡ on_commitₚ p a
    unfolding on_stageₚ
    onStage-made = if_neg (ℕ_discrete 12 8) (omega arith) _ _ ∙ if_pos (ℕ_discrete 12 12) refl _ _

    five : cph s a ≡ 5
    five = omega (arith, cph_in (s.cl a).stage (omega arith))

    -- Whoever else has a commit number and has not committed has a larger one.
    first_one : (b : ℕ) → b ≢ a → 8 ≤ (s.cl b).stage → (s.cl b).stage ≤ 11 → (s.cl a).commit < (s.cl b).commit
    first_one b m h h' =
        let k : 2 ≤ cph s b = omega (arith, cph_in (s.cl b).stage (omega arith)) in
        let f = five in
        let d = inv.cq.apart b a m k (omega arith) in
        by_cases (dec_lt (s.cl b).commit (s.cl a).commit) (λ l. absurd (inv.cq.passed b a m k (omega arith) tt l)) (λ l. omega arith)

    -- No other past its wait wrote a cell that this one wrote.
    no-share : (b : ℕ) → b ≢ a → 6 ≤ (s.cl b).stage → (s.cl b).stage ≤ 11 → Sharesₚ (p.cl a).writes (p.cl b).writes → ⊥
    unfolding rphase lateness
    no-share b m h h' w =
        let ob = opened b (omega arith) in
        let x : IsSome (findₛ (s.cl a).number w.0 s.dat) = rw ((inv.tab.mine a isopen).held (omega arith) w.0) w.1 in
        let y : IsSome (findₛ (s.cl b).number w.0 s.dat) = rw ((inv.tab.mine b ob).held (omega arith) w.0) w.2 in
        exclusive inv.rq a b (λ z. m (sym z)) (omega arith) (omega arith) (w.0, x, y) (w.0, y, x)

    pub arm11 : Good bounds s p (Advance a) (committed s a)
    unfolding committed updateₚ on_advanceₚ on_progressₚ lateness
    arm11 = (
      (
        (inv.one a).live isopen,
        (
          omega (arith, (inv.one a).on_stage),
          omega arith,
          λ k. absurd (omega arith),
          λ k. absurd (omega arith),
          λ _. (
            (inv.one a).fresh (omega arith) (omega arith),
            omega (arith, inv.tab.book_last, (inv.one a).ahead (omega arith) (omega arith), (inv.one a).numbered (omega arith)),
          ),
        ),
      ),
      rw (onStage-made, (inv.one a).numbered (omega arith)) record {
        same_bounds = inv.same_bounds;
        counted = inv.counted;
        last_le = inv.cq.bound a (omega (arith, five));
        one = each a (λ b. OneClient (s.cl a).commit (entry ∷ p.book) b (putₛ a c same s.cl b).number
            (putₛ a c same s.cl b).stage (putₛ a c same s.cl b).commit (set_p a q p.cl b))
            (rw (put_at a c same s.cl, set_p_at a q p.cl) record {
              on_stage = refl;
              live = (inv.one a).live;
              dead = (inv.one a).dead;
              idle = λ z. absurd (omega arith);
              below = (inv.one a).below;
              numbered = λ _. refl;
              ahead = λ k k'. absurd (omega arith);
              in_book = λ _. (entry, here refl, refl);
              fresh = λ k k'. absurd (omega arith);
            })
            (λ b m. one_off a c same (tame_same a) s.cl q p.cl (s.cl a).commit (entry ∷ p.book) b m (other b m (inv.one b)));
        rq = R-past inv a isopen c same (tame_same a) (λ d. refl) refl s.C (omega arith) (omega arith) (omega arith) refl refl;
        cq = C-own inv a isopen c same (tame_same a) refl s.R s.C (omega arith) (omega arith) (λ d. refl) (omega (arith, five)) refl
            (λ k. absurd (omega (arith, cph_in 12 (omega arith)))) (λ k b m h r l. inv.cq.passed b a m h (omega (arith, five)) r l);
        tab = tab-committed inv.tab a (seen_off a c same (tame_same a) s.cl q p.cl) (s.cl a).commit
            ((inv.one a).ahead (omega arith) (omega arith)) isopen (omega arith)
            (seen_at a c same s.cl q p.cl);
      },
    )
      where
        entry : Entry
        entry = record { number = (s.cl a).commit; puts = (p.cl a).writes }

        c : Client
        c = at_stageₛ (s.cl a) 12

        q : PClient
        q = restaged (p.cl a) 12 (s.cl a).commit

        other : (b : ℕ) → b ≢ a → OneClient s.last p.book b (s.cl b).number (s.cl b).stage (s.cl b).commit (p.cl b)
            → OneClient (s.cl a).commit (entry ∷ p.book) b (s.cl b).number (s.cl b).stage (s.cl b).commit (p.cl b)
        other b m o = record {
          on_stage = o.on_stage;
          live = o.live;
          dead = o.dead;
          idle = o.idle;
          below = o.below;
          numbered = o.numbered;
          ahead = first_one b m;
          in_book = λ k. let h = o.in_book k in (h.0, there h.1, h.2);
          fresh = λ k k' d i w. in_case (rw (newerₚ-cons (p.cl b).since entry p.book (inv.tab.mine b (opened b (omega arith))).since_le) at i)
              (λ z. no-share b m k k' (subst (λ (y : Entry). Sharesₚ y.puts (p.cl b).writes) z w))
              (λ j. o.fresh k k' d j w);
        }

  -- A read.
  module _ (x : ℕ) (below : x < cells) (isopen : 1 ≤ (s.cl a).number) (e : (s.cl a).stage ≤ 11) where
    shows : lookup s a x ≡ or_else ((p.cl a).writes x) ((p.cl a).copy x)
    unfolding lookup committed_at lateness
    shows =
        rw ((inv.tab.mine a isopen).held (omega arith) x, read_right inv.tab a isopen x, (inv.tab.mine a isopen).copied x)

    pub read-good : Good bounds s p (Read a x) (out s (Answered (lookup s a x)))
    unfolding updateₚ
    read-good = (((inv.one a).live isopen, shows, omega (arith, (inv.one a).on_stage), below), inv)

  -- What client a wrote by its rows is, at stage 0, what it wrote by the plain table.
  same_writes : 1 ≤ (s.cl a).number → (s.cl a).stage ≡ 0 → writes_of s a ≡ (p.cl a).writes
  unfolding lateness
  same_writes isopen e = fun_ext (λ x. (inv.tab.mine a isopen).held (omega arith) x)

  -- So what is said of a write by the rows holds by the plain table.
  by_table : (F : ℕ → ℕ → Values → Type 0) → 1 ≤ (s.cl a).number → (s.cl a).stage ≡ 0 → F s.bounds.limit (s.cl a).stage (writes_of s a)
      → F bounds.limit (p.cl a).stage (p.cl a).writes
  by_table F isopen e h =
      subst (λ (w : Values). F bounds.limit (p.cl a).stage w) (same_writes isopen e)
      (subst (λ (g : ℕ). F bounds.limit g (writes_of s a)) (sym (inv.one a).on_stage)
      (subst (λ (b : Bounds). F b.limit (s.cl a).stage (writes_of s a)) inv.same_bounds h))

  pub write_refused : (x : ℕ) (v : Value) (r : ℕ) → 1 ≤ (s.cl a).number
      → WriteRefusal s.bounds.limit (s.cl a).stage (writes_of s a) x v (Answered (freeₛ s)) r
      → WriteRefusal bounds.limit (p.cl a).stage (p.cl a).writes x v (Answered (freeₛ s)) r
  write_refused x v r isopen (for_cell h) = for_cell h
  write_refused x v r isopen (for_length h l) = for_length h l
  write_refused x v r isopen (for_stage h l e) = for_stage h l (omega (arith, (inv.one a).on_stage))
  write_refused x v r isopen (for_limit h n m) = by_table (λ b g w. WriteRefusal b g w x v (Answered (freeₛ s)) cell_limit) isopen h.stage
      (for_limit h n m)
  write_refused x v r isopen (for_rows h n m f) = by_table (λ b g w. WriteRefusal b g w x v (Answered (freeₛ s)) no_free_row) isopen
      h.stage (for_rows h n m f)

  -- A write.
  module _ (x : ℕ) (v : Value) (fits : WriteAllowed s.bounds.limit (s.cl a).stage (writes_of s a) x v) (isopen : 1 ≤ (s.cl a).number) where
    pub write-good : (dat' : List DRow) → Written (s.cl a).number x v s.dat dat'
        → Good bounds s p (Write a x v) (figured (with_data s dat' s.cl))
    unfolding updateₚ on_writeₚ rphase lateness
    write-good dat' w = (
      ((inv.one a).live isopen, by_table (λ b g w. WriteAllowed b g w x v) isopen fits.may.stage fits, refl),
      record {
        same_bounds = inv.same_bounds;
        counted = inv.counted;
        last_le = inv.last_le;
        one = each a (λ b. OneClient s.last p.book b (s.cl b).number (s.cl b).stage (s.cl b).commit (set_p a q p.cl b))
            (rw (set_p_at a q p.cl) record {
              on_stage = (inv.one a).on_stage;
              live = (inv.one a).live;
              dead = (inv.one a).dead;
              idle = (inv.one a).idle;
              below = (inv.one a).below;
              numbered = (inv.one a).numbered;
              ahead = (inv.one a).ahead;
              in_book = (inv.one a).in_book;
              fresh = λ k. absurd (omega arith);
            })
            (λ b m. rw (set_p_off a q p.cl b m) (inv.one b));
        rq = ticket_low a inv.rq record {
          phase = λ b n. refl;
          number = λ b n. refl;
          kept = λ x b n m. refl;
          counter = omega arith;
          concerns = λ b d hb hd r. (r.0, others b hb r.0 r.1, others d hd r.0 r.2);
        } (omega arith);
        cq = inv.cq;
        tab = tab_written inv.tab a (λ b m. ap (λ (z : PClient). seen_of (s.cl b) z) (set_p_off a q p.cl b m)) x v dat'
            fits.may.cell isopen (omega (arith, e)) w
            (ap (λ (z : PClient). seen_of (s.cl a) z) (set_p_at a q p.cl));
      },
    )
      where
        e : (s.cl a).stage ≡ 0
        e = fits.may.stage

        q : PClient
        q = rewritten (p.cl a) x v

        others : (b : ℕ) → 2 ≤ min (s.cl b).stage 5 → (y : ℕ) → IsSome (findₛ (s.cl b).number y dat')
            → IsSome (findₛ (s.cl b).number y s.dat)
        others b h y i =
            let m : b ≢ a = λ z. omega (arith, ap (λ (k : ℕ). (s.cl k).stage) z) in
            let o : 1 ≤ (s.cl b).number = by_cases (ℕ_discrete (s.cl b).number 0) (λ z. absurd (omega (arith, (inv.one b).idle z)))
            (λ n. omega arith) in
            rw (w.tags (s.cl b).number y (inv.tab.apart b a m o)) at i

-- The snapshots of the open clients.
lesser_le : (n : ℕ) (o : Option ℕ) → (m : ℕ) × (lesserₛ n o ≡ some m) × (m ≤ n) × ((k : ℕ) → o ≡ some k → m ≤ k)
unfolding lesserₛ
lesser_le n none = (n, refl, omega arith, λ k e. absurd (none-some refl e))
lesser_le n (some j) = (min n j, refl, omega arith, λ k e. omega (arith, some-injective j k e))

snapshots-le : (n : ℕ) (cl : ℕ → Client) (a : ℕ) → a < n → 1 ≤ (cl a).number → (m : ℕ) × (snapshots n cl ≡ some m) × (m ≤ (cl a).snapshot)
unfolding snapshots lesserₛ
snapshots-le zero cl a h k = absurd (omega arith)
snapshots-le (suc n) cl a h k =
    by_cases (ℕ_discrete a n)
    (λ e. let z = lesser_le (cl n).snapshot (snapshots n cl) in (
      z.0,
      if_pos (dec_le 1 (cl n).number) (subst (λ (i : ℕ). 1 ≤ (cl i).number) e k) _ _ ∙ z.1,
      omega
          (arith, z.2, ap (λ (i : ℕ). (cl i).snapshot) e),
    ))
    (λ m. let q = snapshots-le n cl a (omega arith) k in
    by_cases (dec_le 1 (cl n).number)
    (λ p. let z = lesser_le (cl n).snapshot (snapshots n cl) in
    (z.0, if_pos (dec_le 1 (cl n).number) p _ _ ∙ z.1, omega (arith, z.3 q.0 q.1, q.2)))
    (λ p. (q.0, if_neg (dec_le 1 (cl n).number) p _ _ ∙ q.1, q.2)))

snapshots_bound : (n : ℕ) (cl : ℕ → Client) (K : ℕ) → ((a : ℕ) → 1 ≤ (cl a).number → (cl a).snapshot ≤ K) → (m : ℕ) → snapshots n cl ≡ some m → m ≤ K
unfolding snapshots lesserₛ
snapshots_bound zero cl K h m e = absurd (none-some refl e)
snapshots_bound (suc n) cl K h m e =
    by_cases (dec_le 1 (cl n).number)
    (λ p. let z = lesser_le (cl n).snapshot (snapshots n cl) in
    omega (arith, z.2, h n p, some-injective z.0 m (sym z.1 ∙ sym (if_pos (dec_le 1 (cl n).number) p _ _) ∙ e)))
    (λ p. snapshots_bound n cl K h m (sym (if_neg (dec_le 1 (cl n).number) p _ _) ∙ e))

snapshots-none : (n : ℕ) (cl : ℕ → Client) → ((a : ℕ) → (cl a).number ≡ 0) → snapshots n cl ≡ none
unfolding snapshots
snapshots-none zero cl h = refl
snapshots-none (suc n) cl h = if_neg (dec_le 1 (cl n).number) (λ k. omega (arith, h n)) _ _ ∙ snapshots-none n cl h

-- A trim.
module _ {bounds : Bounds} {s : State} {p : Plain} (inv : Inv bounds s p) where
  low_last : low_of s ≤ s.last
  unfolding low_of default
  low_last = option_case (snapshots clients s.cl) (λ e. rw e (omega arith))
      (λ m e. rw e (snapshots_bound clients s.cl s.last (λ a h. (inv.tab.mine a h).snap_le) m e))

  low_snap : (a : ℕ) → 1 ≤ (s.cl a).number → low_of s ≤ (s.cl a).snapshot
  unfolding low_of default
  low_snap a h = let q = snapshots-le clients s.cl a ((inv.one a).below h) h in rw q.1 q.2

  low_none : ((a : ℕ) → (s.cl a).number ≡ 0) → low_of s ≡ s.last
  unfolding low_of default
  low_none h = rw (snapshots-none clients s.cl h)

  all_closed : ((a : ℕ) → (p.cl a).live ≡ false) → (a : ℕ) → (s.cl a).number ≡ 0
  all_closed h a = by_cases (ℕ_discrete (s.cl a).number 0) (λ e. e) (λ n. absurd (true≢false (sym ((inv.one a).live (omega arith)) ∙ h a)))

  -- The rows that a trim leaves to a tag.
  sub_find : (u x : ℕ) → IsSome (findₛ u x (trim_dat s.dat s.comm (low_of s))) → IsSome (findₛ u x s.dat)
  sub_find u x h =
      let w = is_some (findₛ u x (trim_dat s.dat s.comm (low_of s))) h in
      let r = find_row u x (trim_dat s.dat s.comm (low_of s)) w.0 w.1 in
      row_find u x s.dat r.0 (was inv.tab (low_of s) low_last low_snap r.0 r.1).0 r.2 r.3

  nobody : rph s clients ≤ 1
  unfolding rphase
  nobody = by_cases (ℕ_discrete (s.cl clients).number 0) (λ e. omega (arith, (inv.one clients).idle e))
      (λ n. absurd (omega (arith, (inv.one clients).below (omega arith))))

  -- the free figure that it leaves, and the rows in use
  figure : (d : List DRow) → length d ≤ length s.dat → length s.dat ≤ s.bounds.rows → s.bounds.rows - length d + length d ≡ bounds.rows
  figure d l h = omega (arith, l, h, ap (λ (b : Bounds). b.rows) inv.same_bounds)

  pub trim_good : length s.dat ≤ s.bounds.rows → Good bounds s p Trim (trimmedₛ s)
  unfolding trimmedₛ updateₚ freeₛ
  trim_good fits = (
    λ h. rw (low_none (all_closed h), ← trim_count inv.tab (all_closed h))
        (figure (trim_dat s.dat s.comm s.last) (length-drop? (passed? s.dat s.comm s.last) s.dat) fits),
    record {
      same_bounds = inv.same_bounds;
      counted = inv.counted;
      last_le = inv.last_le;
      one = inv.one;
      rq = ticket_low clients inv.rq record {
        phase = λ b n. refl;
        number = λ b n. refl;
        kept = λ x b n m. refl;
        counter = omega arith;
        concerns = λ b d hb hd r. (r.0, sub_find (s.cl b).number r.0 r.1, sub_find (s.cl d).number r.0 r.2);
      } nobody;
      cq = inv.cq;
      tab = tab_trimmed inv.tab (low_of s) low_last low_snap;
    },
  )
