-- How a call ends, for the check's own search: the image read off and laid out again, rows that stay, a fit store, the next number of a counter.
-- Assumes nothing.
use Prim.Native.Nat.{ℕ}
use mathlib.Core.Path.{◌≡◌, refl}
use mathlib.Core.List.{List}
use lib.Dec.{eqb}
use mathlib.Core.Bool.{not, ◌&&◌}
use lib.ListN.{length, get_or, length-append}
use Rattle.spec.specs.Rows.{rows_in, layout}
use Rattle.spec.proofs.Rows.{length_rows, filter_fewer}
use Rattle.spec.proofs.Laid.{laid_same}
use Rattle.spec.specs.declared.Store.{Store}
use Rattle.spec.specs.Image.{Image, image_of}
use Rattle.spec.specs.Set.{clients, collect}
use Rattle.spec.specs.declared.Queue.{Queue}
use Rattle.spec.specs.Steps.{queued, others}
use Rattle.spec.specs.Calls.{Outcome}
use Rattle.spec.specs.Answers.{Refused, unfit}
use Rattle.std.specs.Prelude.{if◌then◌else◌}
use Rattle.spec.specs.Bytes.{counters_in, clients_in, record_of, decode, store_of, after_of, encode, fits, on_bytes}
use Rattle.spec.proofs.Ends.{fit_of}
use Rattle.record.proofs.Counting.{counted_up, used_up}

pub decode_is : (s : Store) (d c v : List ℕ) → decode s d c v
    ≡ image_of s.rows s.limit (counters_in s) (clients_in s) (rows_in 24 s.used d) (rows_in 8 s.entries c) v
unfolding decode
decode_is s d c v = refl

pub store_of_is : (i : Image) → store_of i ≡ record_of i.rows i.limit i.counters i.clients (length i.data_rows) (length i.commit_rows)
unfolding store_of
store_of_is i = refl

pub encode_is : {A : Type 0} (s : Store) (d c : List ℕ) (o : Outcome A) → encode s d c o
    ≡ after_of (store_of o.image) (layout 24 s.used o.image.data_rows d) (layout 8 s.entries o.image.commit_rows c) o.image.versions o.answer
unfolding encode
encode_is s d c o = refl

pub on_bytes_is : {A : Type 0} (f : Image → Outcome A) (s : Store) (d c v : List ℕ) → on_bytes f s d c v
    ≡ (if fits s (length d) (length c) then encode s d c (f (decode s d c v)) else after_of s d c v (Refused unfit))
unfolding on_bytes
on_bytes_is f s d c v = refl

pub others_is : (q : Queue) (k : ℕ) (i : Image) → others q k i ≡ collect (λ j. not (eqb j k) && queued q (get_or i.clients.stage j 0)) clients
unfolding others
others_is q k i = refl

pub ruleset ending = (
  on_bytes_is,
  decode_is,
  store_of_is,
  encode_is,
  others_is,
  length_rows,
  laid_same,
  filter_fewer,
  length-append,
  counted_up,
  used_up,
  fit_of,
)
