-- Sets of clients in accord with document 02, 12: "64 clients, 0 to 63". Examples that the definitions compute, at the last client and beyond it, and
-- at clients that a set of 32 bits, or an index of five bits, has no room for.
-- Assumes nothing.
use Prim.Native.Nat.{ℕ}
use mathlib.Core.Path.{◌≡◌, refl}
use mathlib.Core.Bool.{true, false}
use Rattle.spec.specs.Set.{clients, bit, member, insert, remove, size, collect, strike}

-- client 63 is the last: it is the highest of 64 digits, and there is no client 64
pub last_client : insert clients 0 63 ≡ 9223372036854775808
unfolding insert member bit
last_client = refl

pub no_further : insert clients 0 64 ≡ 0
unfolding insert member bit
no_further = refl

-- a set of all of them
pub everybody : collect (λ j. true) clients ≡ 18446744073709551615
unfolding collect insert member bit
everybody = refl

pub how_many : size clients 18446744073709551615 ≡ 64
unfolding size bit
how_many = refl

-- clients 40 and 63 are told from 8 and 31
abbrev both : ℕ
both = insert clients (insert clients 0 40) 63

pub both_digits : both ≡ 9223373136366403584
unfolding insert member bit
both_digits = refl

pub not_8 : member both 8 ≡ false
unfolding insert member bit
not_8 = refl

pub not_31 : member both 31 ≡ false
unfolding insert member bit
not_31 = refl

pub one_left : remove both 40 ≡ 9223372036854775808
unfolding remove insert member bit
one_left = refl

-- a look goes over all of them
pub none_left : strike (λ j. true) both clients ≡ 0
unfolding strike remove insert member bit
none_left = refl
