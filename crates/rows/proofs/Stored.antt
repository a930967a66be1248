-- Bytes that are copied into a part of a buffer, and a number's bytes.
-- Assumes nothing.
use Prim.Native.Nat.{ℕ, ◌+◌, ◌-◌}
use mathlib.Core.Path.{◌≡◌}
use mathlib.Core.List.{List, [], ◌∷◌, append_assoc}
use native.Mathlib.Nat.{add-sub_cancel_left, div-div-eq-div-mul}
use native.Mathlib.Omega.{arith}
use lib.ListN.{length}
use lib.Seq.{drop-drop}
use borrow.Rule.Slice.PartMut.{put_mid}
use Rattle.std.specs.Int.{w16, w32, from_le_bytes, to_le_bytes}
use Rattle.spec.specs.Rows.{number, spliced, bytes_of}

-- a part that was lent, `&mut s[at..at + k]`, and is now v
pub bytes_stored : (s v : List ℕ) (at k : ℕ) → length v ≡ k → put_mid at (at + k - at) s v ≡ spliced at v s
unfolding spliced
bytes_stored s v at k h = rw (add-sub_cancel_left, drop-drop, h, append_assoc)

pub two_read : (s : List ℕ) → length s ≡ 2 → from_le_bytes w16 s ≡ number s
unfolding number
two_read [] h = absurd (omega arith)
two_read (a ∷ []) h = absurd (omega arith)
two_read (a ∷ b ∷ []) h = omega arith
two_read (a ∷ b ∷ c ∷ s) h = absurd (omega arith)

pub four_read : (s : List ℕ) → length s ≡ 4 → from_le_bytes w32 s ≡ number s
unfolding number
four_read [] h = absurd (omega arith)
four_read (a ∷ []) h = absurd (omega arith)
four_read (a ∷ b ∷ []) h = absurd (omega arith)
four_read (a ∷ b ∷ c ∷ []) h = absurd (omega arith)
four_read (a ∷ b ∷ c ∷ d ∷ []) h = omega arith
four_read (a ∷ b ∷ c ∷ d ∷ e ∷ s) h = absurd (omega arith)

pub four_written : (x : ℕ) → to_le_bytes w32 x ≡ bytes_of 4 x
unfolding bytes_of
four_written x = simp div-div-eq-div-mul
