-- Lines put together: a word before a text, a result that is a word and a number, and a head with its result.
-- Assumes nothing.
use Prim.Native.Nat.{ℕ}
use mathlib.Core.Path.{◌≡◌}
use mathlib.Core.List.{List, [], ◌++◌, append_assoc}
use Rattle.spec.specs.Text.{str, numbered, head_text, line_text}
use Rattle.spec.specs.declared.Form.{Form}
use Rattle.printing.specs.Inner.{Put}
use Rattle.printing.proofs.Texts.{put_then}
use Rattle.reply.specs.Inner.{line_closed}

-- a number and a text behind it, before a word
pub head_end : (w : List ℕ) (n : ℕ) (e t : List ℕ) → numbered w n e ++ t ≡ w ++ (numbered [] n e ++ t)
unfolding numbered
head_end w n e t = simp append_assoc

figure_end : (w : List ℕ) (n : ℕ) → w ++ numbered [] n (line_closed (str ")")) ≡ line_closed (numbered w n (str ")"))
unfolding numbered
figure_end w n = simp append_assoc

pub put_closed_figure : {a b d w : List ℕ} {i j k : ℕ} (n : ℕ) → Put a i w b j → Put b j (numbered [] n (line_closed (str ")"))) d k
    → Put a i (line_closed (numbered w n (str ")"))) d k
put_closed_figure {w = w} n p q = rw (figure_end w n) at (put_then p q)

pub put_whole_line : {a b d : List ℕ} {i j k : ℕ} (f : Form) (t : List ℕ) → Put a i (head_text f) b j → Put b j (line_closed t) d k
    → Put a i (line_text f t) d k
unfolding line_text
put_whole_line f t p q = put_then p q
