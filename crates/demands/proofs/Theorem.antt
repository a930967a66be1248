-- Demand 3 holds for every set-up, refused or not, and every list of calls: crate spec has that every answer is right, with which numbers calls are
-- refused, and whether the store is fit; what is said of the book, the values, repeated reads, enquiries and the cell limit follows from the
-- answers being right; that nobody waits for ever is shown of the queues themselves (Rounds), and that looks by the version table find what full
-- looks find of the table itself (Versions).
-- w, the first W, is a number of 32 bits by its type.
-- Assumes nothing.
use Prim.Native.Nat.{ℕ, ◌≤◌}
use mathlib.Core.List.{List}
use Rattle.spec.specs.Bytes.{set_up}
use Rattle.spec.specs.Run.{Call}
use Rattle.spec.specs.Table.{blank}
use Rattle.spec.specs.Right.{Bounds, bounds_of}
use Rattle.history.proofs.Refusals.{all_listed}
use Rattle.history.proofs.AllCalls.{demand3, all_unfit, all_fit}
use Rattle.demands.specs.Demand.{Demand3}
use Rattle.demands.proofs.Book.{rising_run, valued_run}
use Rattle.demands.proofs.Repeats.{steady_run, unbroken_run}
use Rattle.demands.proofs.Enquiries.{enquiry_run}
use Rattle.demands.proofs.Limits.{capped_run}
use Rattle.demands.proofs.Listing.{lists_name_transactions}
use Rattle.demands.proofs.Rounds.{nobody_waits, whoever_calls, rounds_exist}
use Rattle.demands.proofs.Versions.{full_looks, known_entries}

pub theorem : (d c : List ℕ) (w l : ℕ) → w ≤ 4294967295 → (qs : List Call) → Demand3 d c w l qs
theorem d c w l h qs =
    let r = demand3 d c w l h qs in
    let n : Bounds = bounds_of d l in
    record {
      right = r;
      rising = rising_run qs n w (set_up d c w l).memory r;
      valued = valued_run qs n w (set_up d c w l).memory r;
      steady = steady_run qs n w blank (set_up d c w l).memory r;
      unbroken = unbroken_run qs n w blank (set_up d c w l).memory r;
      enquiry = enquiry_run qs n w blank (set_up d c w l).memory r;
      capped = capped_run qs n w (set_up d c w l).memory r;
      nobody_waits = nobody_waits d c w l h qs;
      whoever_calls = whoever_calls d c w l h qs;
      rounds_exist = rounds_exist d c w l h qs;
      lists = lists_name_transactions d c w l h qs;
      full_looks = full_looks d c w l h qs;
      entries = known_entries d c w l h qs;
      listed = all_listed qs (set_up d c w l).memory;
      unfit = λ e. all_unfit d c w l e qs;
      fit = λ e. all_fit d c w l h e qs;
    }
