-- A number or none, and the smallest of several.
-- Assumes nothing.
use Rattle.std.specs.Prelude.{ℕ, List, [], ◌∷◌, ltb, leb, Option, Some, None}
use Rattle.std.specs.Prelude.{if◌then◌else◌}

-- a number, if there is one
abbrev pub Number : Type 0
Number = Option ℕ

-- the largest number of 32 bits
abbrev pub top : ℕ
top = 4294967295

unfoldable pub lesser : Number → Number → Number
lesser None n = n
lesser (Some m) None = Some m
lesser (Some m) (Some n) = if ltb n m then Some n else Some m

unfoldable pub smallest : List Number → Number
smallest [] = None
smallest (n ∷ ns) = lesser n (smallest ns)

-- the number, where it is above s
unfoldable pub above : ℕ → Number → Number
above s None = None
above s (Some n) = if ltb s n then Some n else None

-- the number, where it is at least m
unfoldable pub at_least : ℕ → Number → Number
at_least m None = None
at_least m (Some n) = if ltb n m then None else Some n

-- the number, where it is at most s
unfoldable pub up_to : ℕ → Number → Number
up_to s None = None
up_to s (Some n) = if leb n s then Some n else None
