-- One turn: a chunk has come behind the kept bytes, which stayed; its whole lines are answered, and what stands behind the last newline is moved to
-- the front, 81 bytes at most.
-- Assumes nothing.
use Prim.Native.Nat.{ℕ, ◌+◌, ◌-◌, ◌≤◌, ◌<◌}
use mathlib.Core.Path.{◌≡◌, sym, ap, ◌∙◌}
use mathlib.Core.List.{List, ◌++◌}
use native.Mathlib.Omega.{arith}
use lib.ListN.{length, take, drop, length-take, length-drop, take-append-drop}
use lib.Seq.{length-take-le, take-take, take-add, drop_at}
use Rattle.spec.specs.Bytes.{Memory}
use Rattle.session.specs.Inner.{lines_of, rest_of, Emptied, Came}
use Rattle.spec.specs.Session.{memory_after}

-- a part by its two ends
part : (b : List ℕ) (from n : ℕ) → from ≤ n → n ≤ length b → drop from (take n b) ≡ take (n - from) (drop from b)
part b from n h l =
    let e : from + (n - from) ≡ n = omega arith in
    let k : from ≤ length b = omega arith in
    ap (λ (m : ℕ). drop from (take m b)) (sym e)
    ∙ ap (drop from) (take-add from (n - from) b)
    ∙ drop_at (take from b) (take (n - from) (drop from b)) from (length-take-le from b k)

-- b₀ is the buffer before the read, b behind it and b' at the end; n is the end of what was read
module _ (b₀ b b' : List ℕ) (have n from left : ℕ) (stay : take have b ≡ take have b₀) (on : have < n) (l : n ≤ length b) where
  -- what was kept, and the chunk behind it
  whole : take have b₀ ++ drop have (take n b) ≡ take n b
  whole = ap (λ (k : List ℕ). k ++ drop have (take n b)) (sym stay ∙ sym (take-take have n b (omega arith))) ∙ take-append-drop have (take n b)

  pub came : (w w' : Memory) → from ≤ n → Emptied (take n b) w w' from → take left b' ≡ take 81 (take (n - from) (drop from b))
      → Came w (take have b₀) w' (take left b')
  came w w' h d e =
      record {
        chunk = drop have (take n b);
        came = simp (length-drop, length-take) (omega arith);
        memory = d.memory ∙ ap (λ (s : List ℕ). memory_after w (lines_of s)) (sym whole);
        begun = e ∙ ap (take 81) (sym (part b from n h l) ∙ d.begun ∙ ap rest_of (sym whole));
      }
