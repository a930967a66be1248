-- What holds after a number of rounds, on images. Every claim here is one that all calls keep (`Stable`), so that a claim once true is carried on
-- freely; and one rule makes progress: in a round client b is served, and the call that serves it makes the next claim true (`one_round`).
-- Assumes nothing.
use Prim.Native.Nat.{ℕ, zero, suc, ◌+◌, ◌-◌, ◌≤◌}
use mathlib.Core.Path.{◌≡◌, refl, ◌∙◌}
use mathlib.Core.Bool.{Bool, true, false, ◌||◌, false≢true}
use mathlib.Core.List.{List, [], ◌∷◌}
use native.Mathlib.Omega.{arith}
use lib.ListN.{length}
use Rattle.spec.specs.Image.{Image}
use Rattle.spec.specs.Run.{Call}
use Rattle.history.proofs.AllCalls.{observed_by}
use Rattle.demands.specs.Rounds.{Below, AllBelow, serves}
use Rattle.demands.proofs.Grown.{next, client, Grown, grows}

-- ---- calls and rounds on images

abbrev pub run : Image → List Call → Image
run s [] = s
run s (c ∷ l) = run (next s c) l

abbrev pub runs : Image → List (List Call) → Image
runs s [] = s
runs s (r ∷ rs) = runs (run s r) rs

abbrev pub meets : ℕ → Image → List Call → Bool
meets b s [] = false
meets b s (c ∷ l) = serves b c (observed_by c s) || meets b (next s c) l

abbrev pub AllRounds : Image → List (List Call) → Type 0
AllRounds s [] = Unit {0}
AllRounds s (r ∷ rs) = ((b : ℕ) → 1 ≤ (client s b).stage → meets b s r ≡ true) × AllRounds (run s r) rs

abbrev pub AllNamed : ℕ → List (List Call) → Type 0
AllNamed n [] = Unit {0}
AllNamed n (r ∷ rs) = AllBelow n r × AllNamed n rs

-- X holds after any k rounds in which only clients below n are named
pub record Following (n k : ℕ) (X : Image → Type 0) (s : Image) : Type 0 where
  pub at : (rs : List (List Call)) → length rs ≡ k → AllNamed n rs → AllRounds s rs → X (runs s rs)

-- every call that names only clients below n keeps X
abbrev pub Stable : ℕ → (Image → Type 0) → Type 0
Stable n X = (s : Image) (c : Call) → Grown n s → Below n c → X s → X (next s c)

-- the call that serves client b turns X into Y
abbrev pub Hit : ℕ → ℕ → (Image → Type 0) → (Image → Type 0) → Type 0
Hit n b X Y = (s : Image) (c : Call) → Grown n s → Below n c → X s → serves b c (observed_by c s) ≡ true → Y (next s c)

module _ {n : ℕ} where
  run_grown : (s : Image) (l : List Call) → Grown n s → AllBelow n l → Grown n (run s l)
  run_grown s [] g o = g
  run_grown s (c ∷ l) g o = run_grown (next s c) l (grows s c g o.0) o.1

  run_keeps : {X : Image → Type 0} → Stable n X → (s : Image) (l : List Call) → Grown n s → AllBelow n l → X s → X (run s l)
  run_keeps st s [] g o x = x
  run_keeps st s (c ∷ l) g o x = run_keeps st (next s c) l (grows s c g o.0) o.1 (st s c g o.0 x)

  runs_keep : {X : Image → Type 0} → Stable n X → (s : Image) (rs : List (List Call)) → Grown n s → AllNamed n rs → X s → X (runs s rs)
  runs_keep st s [] g o x = x
  runs_keep st s (r ∷ rs) g o x = runs_keep st (run s r) rs (run_grown s r g o.0) o.1 (run_keeps st s r g o.0 x)

  pub following_stays : {X : Image → Type 0} → Stable n X → (k : ℕ) (s : Image) → Grown n s → X s → Following n k X s
  following_stays st k s g x = record { at = λ rs e o h. runs_keep st s rs g o x }

  -- ---- one after the other

  go : {X Y : Image → Type 0} (j k : ℕ) (s : Image) (rs : List (List Call)) → length rs ≡ j + k → Grown n s → AllNamed n rs → AllRounds s rs
      → ((qs : List (List Call)) → length qs ≡ j → AllNamed n qs → AllRounds s qs → X (runs s qs))
      → ((t : Image) → Grown n t → X t → Following n k Y t) → Y (runs s rs)
  go zero k s rs e g o h a f = (f s g (a [] refl tt tt)).at rs (omega arith) o h
  go (suc j) k s [] e g o h a f = absurd (omega arith)
  go (suc j) k s (r ∷ rs) e g o h a f =
      go j k (run s r) rs (omega arith) (run_grown s r g o.0) o.1 h.1 (λ qs e' o' h'. a (r ∷ qs) (omega arith) (o.0, o') (h.0, h')) f

  pub and_then : {X Y : Image → Type 0} (j k m : ℕ) → m ≡ j + k → (s : Image) → Grown n s → Following n j X s
      → ((t : Image) → Grown n t → X t → Following n k Y t) → Following n m Y s
  and_then j k m e s g a f = record { at = λ rs l o h. go j k s rs (l ∙ e) g o h a.at f }

  -- what follows at once
  pub so : {X Y : Image → Type 0} → Stable n Y → (k : ℕ) (s : Image) → Grown n s → Following n k X s → ((t : Image) → Grown n t → X t → Y t)
      → Following n k Y s
  so st k s g a f = and_then k 0 k (omega arith) s g a (λ t i x. following_stays st 0 t i (f t i x))

  pub following_later : {X : Image → Type 0} → Stable n X → (j m : ℕ) → j ≤ m → (s : Image) → Grown n s → Following n j X s → Following n m X s
  following_later st j m h s g a = and_then j (m - j) m (omega arith) s g a (λ t i x. following_stays st (m - j) t i x)

  pub every : {I : Type 0} {X : I → Image → Type 0} (k : ℕ) (s : Image) → ((i : I) → Following n k (X i) s) → Following n k (λ t. (i : I) → X i t) s
  every k s f = record { at = λ rs l o h i. (f i).at rs l o h }

  pub both : {X Y : Image → Type 0} (k : ℕ) (s : Image) → Following n k X s → Following n k Y s → Following n k (λ t. X t × Y t) s
  both k s x y = record { at = λ rs l o h. (x.at rs l o h, y.at rs l o h) }

  -- ---- one round: X holds until client b is served, and from then on Y

  met : {X Y : Image → Type 0} (b : ℕ) → Stable n X → Stable n Y → Hit n b X Y
      → (s : Image) (l : List Call) → Grown n s → AllBelow n l → X s → meets b s l ≡ true → Y (run s l)
  met b kx ky hit s [] g o x d = absurd (false≢true d)
  met {X} {Y} b kx ky hit s (c ∷ l) g o x d =
      go (serves b c (observed_by c s)) refl d (met b kx ky hit (next s c) l (grows s c g o.0) o.1 (kx s c g o.0 x))
    where
      go : (y : Bool) → serves b c (observed_by c s) ≡ y → (y || meets b (next s c) l) ≡ true
          → (meets b (next s c) l ≡ true → Y (run (next s c) l)) → Y (run (next s c) l)
      go true e d rest = run_keeps ky (next s c) l (grows s c g o.0) o.1 (hit s c g o.0 x e)
      go false e d rest = rest d

  pub one_round : {X Y : Image → Type 0} (b : ℕ) → Stable n X → Stable n Y → Hit n b X Y
      → (s : Image) → Grown n s → X s → 1 ≤ (client s b).stage → Following n 1 Y s
  one_round {X} {Y} b kx ky hit s g x h = record { at = single }
    where
      single : (rs : List (List Call)) → length rs ≡ 1 → AllNamed n rs → AllRounds s rs → Y (runs s rs)
      single [] e o d = absurd (omega arith)
      single (r ∷ []) e o d = met b kx ky hit s r g o.0 x (d.0 b h)
      single (r ∷ q ∷ rs) e o d = absurd (omega arith)
