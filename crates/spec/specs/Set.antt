-- Sets of clients. A set is a number: client k is a member where its binary digit k is 1 (document 01: "a waiting list is a 32-bit set
-- of clients"; document 02, 12: "both waiting lists grow to 64 clients").
-- Assumes nothing.
use Rattle.std.specs.Prelude.{Bool, ℕ, zero, suc, ◌+◌, ◌-◌, ◌/◌, ◌%◌, ◌^◌, eqb, ltb}
use Rattle.std.specs.Prelude.{if◌then◌else◌}

-- document 02, 12: "64 clients, 0 to 63" (32 in document 01): the one place in the definitions that says how many
abbrev pub clients : ℕ
clients = 64

-- digit k of s, 0 or 1
unfoldable pub bit : ℕ → ℕ → ℕ
bit s k = s / 2 ^ k % 2

-- whether client k is in s
unfoldable pub member : ℕ → ℕ → Bool
member s k = eqb (bit s k) 1

-- s and k; s itself where k is no client of a set of w
unfoldable pub insert : ℕ → ℕ → ℕ → ℕ
insert w s k = if ltb k w then (if member s k then s else (s + 2 ^ k)) else s

-- s without k
unfoldable pub remove : ℕ → ℕ → ℕ
remove s k = if member s k then (s - 2 ^ k) else s

-- how many of the clients below w are in s
unfoldable pub size : ℕ → ℕ → ℕ
size zero s = 0
size (suc w) s = size w s + bit s w

-- the clients below m that p holds of
unfoldable pub collect : (ℕ → Bool) → ℕ → ℕ
collect p zero = 0
collect p (suc m) = if p m then insert clients (collect p m) m else collect p m

-- s without the clients below m that p holds of
unfoldable pub strike : (ℕ → Bool) → ℕ → ℕ → ℕ
strike p s zero = s
strike p s (suc m) = let t : ℕ = strike p s m in if p m then remove t m else t
