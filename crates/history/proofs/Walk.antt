-- Every call on an image does, by the view, one of the things of Transition.antt; and the image after set-up, by the view.
-- Assumes nothing.
use Prim.Native.Nat.{ℕ, ◌≤◌}
use mathlib.Core.Path.{◌≡◌, fun_ext}
use Rattle.spec.specs.Set.{clients}
use Rattle.spec.specs.Image.{Image, clients_of, zeros, empty}
use Rattle.spec.specs.Numbers.{top}
use Rattle.spec.specs.Run.{Call, Begin, Read, Write, Advance, Abandon, Trim, Free, perform}
use Rattle.history.proofs.Wellformed.{zero_at}
use Rattle.history.proofs.Model as m
use Rattle.history.proofs.View.{client_of, clients_as, view, none_listed}
use Rattle.history.proofs.Simulates.{Simulates}
use Rattle.history.proofs.Simple.{begin_simulates, read_simulates, abandon_simulates, free_simulates}
use Rattle.history.proofs.Storing.{write_simulates}
use Rattle.history.proofs.Trimming.{trim_simulates}
use Rattle.history.proofs.Advancing.{Ready, advance_simulates}

pub perform_simulates : (q : Call) (i : Image) → Ready i → i.counters.issued ≤ top → Simulates i q (perform q i)
perform_simulates (Begin k) i h w = begin_simulates i k h.fine w
perform_simulates (Read k x) i h w = read_simulates i k x h.fine (h.looks k x)
perform_simulates (Write k x v) i h w = write_simulates i k x v h.fine (h.numbers k) h.inside
perform_simulates (Advance k) i h w = advance_simulates i k h
perform_simulates (Abandon k) i h w = abandon_simulates i k h.fine
perform_simulates Trim i h w = trim_simulates i h.fine
perform_simulates Free i h w = free_simulates i

none_open : clients_as (clients_of zeros zeros zeros zeros zeros zeros zeros) ≡ (λ _. m.closedₛ)
unfolding clients_as client_of m.closedₛ
none_open = fun_ext (λ j. rw (zero_at clients j, none_listed))

pub empty-view : (n l w : ℕ) → view (empty n l w) ≡ m.fresh (record { rows = n; limit = l }) w
unfolding view empty m.fresh
empty-view n l w = rw none_open
