-- Bytes moved to the front of a buffer.
-- Assumes nothing.
use Prim.Native.Nat.{ℕ, ◌+◌, ◌-◌, ◌≤◌, min}
use mathlib.Core.Path.{◌≡◌}
use mathlib.Core.List.{List}
use native.Mathlib.Omega.{arith}
use lib.ListN.{length, take, drop, length-take, length-drop}
use Rattle.std.specs.List.{copy_within}
use Rattle.std.proofs.lemmas.List.{take-take, take_min}
use Rattle.std.proofs.lemmas.List.Edits.{take-paste}

pub moved_front : (b : List ℕ) (from end k : ℕ) → from ≤ end → end ≤ length b → k ≡ min 81 (end - from)
    → take k (copy_within b from (from + k) 0) ≡ take 81 (take (end - from) (drop from b))
moved_front b from end k h g e =
    let m : k ≤ end - from = omega arith in
    let n : from + k - from ≡ k = omega arith in
    let z : 0 + k ≡ k = omega arith in
    let s : k ≤ length (drop from b) = simp length-drop (omega arith) in
    let l : min 81 (length (take (end - from) (drop from b))) ≡ k = simp (length-take, length-drop) (omega arith) in
    rw (n, ← take_min 81 (take (end - from) (drop from b)), l, take-take k (end - from) (drop from b) m, z)
    (rw z at (take-paste b 0 (drop from b) k (omega arith) s))
