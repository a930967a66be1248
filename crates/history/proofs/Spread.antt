-- Buffers with nothing but zero behind the rows in use. In a store grown from set-up both buffers are such, so that their bytes are a function
-- of the image: the rows one behind the other, then zero. What is read back from such a buffer are the rows (`rows_spread`), and a call leaves
-- such a buffer such (`laid_spread`): rows that were freed are zero, and so is what stood behind.
-- Assumes nothing.
use Prim.Native.Nat.{ℕ, ◌+◌, ◌*◌, ◌-◌, ◌≤◌}
use mathlib.Core.Path.{◌≡◌, sym, ap, ◌∙◌}
use mathlib.Core.List.{List, ◌++◌, append_assoc, flatten}
use native.Mathlib.Nat.{mul-add}
use native.Mathlib.Omega.{arith}
use lib.ListN.{length, drop, replicate, length-append, length-replicate, replicate-append-replicate}
use lib.Seq.{drop-append-add, drop_at}
use Rattle.spec.specs.Rows.{Row, rows_in, layout}
use Rattle.spec.proofs.Rows.{Wide, rows_flat, length_flat}

-- the rows rs of width w in a buffer of n rows
unfoldable pub spread : ℕ → ℕ → List Row → List ℕ
spread w n rs = flatten rs ++ replicate (w * (n - length rs)) 0

pub length-spread : (w n : ℕ) (rs : List Row) → Wide w rs → length rs ≤ n → length (spread w n rs) ≡ w * n
unfolding spread
length-spread w n rs h g =
    let e : w * (length rs + (n - length rs)) ≡ w * length rs + w * (n - length rs) = mul-add w (length rs) (n - length rs) in
    let f : length rs + (n - length rs) ≡ n = omega arith in
    length-append (flatten rs) (replicate (w * (n - length rs)) 0) ∙ rw (length-replicate {A = ℕ} (w * (n - length rs)) 0, length_flat w rs h, ← e, f)

pub rows_spread : (w n : ℕ) (rs : List Row) → Wide w rs → rows_in w (length rs) (spread w n rs) ≡ rs
unfolding spread
rows_spread w n rs h = rows_flat w rs (replicate (w * (n - length rs)) 0) h

drop_zeros : (k m : ℕ) → drop {A = ℕ} k (replicate (k + m) 0) ≡ replicate m 0
drop_zeros k m =
    ap (λ (l : List ℕ). drop k l) (sym (replicate-append-replicate {A = ℕ} k m 0)) ∙ drop_at {A = ℕ} (replicate k 0) (replicate m 0) k
    (length-replicate {A = ℕ} k 0)

pub laid_spread : (w n : ℕ) (rs rs' : List Row) → Wide w rs → length rs ≤ n → length rs' ≤ n
    → layout w (length rs) rs' (spread w n rs) ≡ spread w n rs'
unfolding layout spread
laid_spread w n rs rs' h g g' =
    let a : ℕ = length rs in
    let m : ℕ = length rs' in
    let x : ℕ = m + (a - m) in
    let split : x ≡ a + (x - a) = omega arith in
    let past : w * x ≡ length (flatten rs) + w * (x - a) = ap (λ (y : ℕ). w * y) split ∙ mul-add w a (x - a) ∙ rw (length_flat w rs h) in
    let left : w * (n - a) ≡ w * (x - a) + w * (n - x) = let e : n - a ≡ (x - a) + (n - x) = omega arith in rw e (mul-add w (x - a) (n - x)) in
    let zeros : drop (w * x) (flatten rs ++ replicate (w * (n - a)) 0) ≡ replicate (w * (n - x)) 0 =
    rw (past, drop-append-add (flatten rs) (replicate (w * (n - a)) 0) (w * (x - a)), left) (drop_zeros (w * (x - a)) (w * (n - x))) in
    let sum : w * (a - m) + w * (n - x) ≡ w * (n - m) = sym (mul-add w (a - m) (n - x)) ∙ ap (λ (y : ℕ). w * y) (omega arith) in
    rw (zeros, append_assoc, replicate-append-replicate, sum)
