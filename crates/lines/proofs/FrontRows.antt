-- A call is lent the front of the program's buffers: the bytes of the store's rows, or the whole buffer where it has fewer. Taking more bytes
-- of a list than it has gives the list, so this is the front that the definition takes; and what the call leaves in it, with the rest of the
-- buffer behind it, is what the definition leaves. A set-up that is refused leaves its front as it was, so the buffers are as they were, and with
-- the record it keeps the version table v; one that is answered leaves a new one.
-- Assumes nothing.
use Prim.Native.Nat.{ℕ, ◌+◌, ◌*◌, ◌-◌, ◌/◌, ◌≤◌, ◌<◌}
use mathlib.Core.Path.{◌≡◌, refl, sym, ap, subst, ◌∙◌}
use mathlib.Core.Bool.{Bool, true, false}
use mathlib.Core.Logic.{⊎_elim}
use mathlib.Core.List.{List, ◌++◌}
use native.Mathlib.Omega.{arith}
use borrow.Author.Tests.{le-ltb, lt-ltb}
use Rattle.std.specs.Prelude.{if◌then◌else◌}
use lib.ListN.{length, take, drop, replicate, take-append-drop, drop_of_length-le}
use lib.Seq.{take_all, take-length, drop-length}
use Rattle.spec.specs.declared.Store.{Store}
use Rattle.spec.specs.declared.Form.{Form}
use Rattle.spec.specs.Answers.{Answer, Answered, Refused, answer_of, bad_set_up}
use Rattle.spec.specs.Image.{no_versions, empty}
use Rattle.spec.specs.Run.{Call, Result, perform, step}
use Rattle.spec.specs.Bytes.{store_of, After, after_of, on_bytes, limit_of, accepts, set_up, Memory, memory_of, SetsUp}
use Rattle.spec.specs.Text.{form_of, free_text, answer_text, refused_text, line_text}
use Rattle.spec.specs.Session.{front, behind, result_text, said, set_up_said, set_up_response, response, answer_to}
use Rattle.printing.specs.Inner.{Put}
use Rattle.lines.specs.Inner.{Front, Spoken}

front_take : (n r : ℕ) (b : List ℕ) → Front n (length b) r → take r b ≡ take n b
front_take n r b f =
    ⊎_elim (λ e. ap (λ (m : ℕ). take m b) e) (λ e. ap (λ (m : ℕ). take m b) e.0 ∙ take-length b ∙ sym (take_all n b e.1)) f

front_drop : (n r : ℕ) (b : List ℕ) → Front n (length b) r → drop r b ≡ drop n b
front_drop n r b f =
    ⊎_elim (λ e. ap (λ (m : ℕ). drop m b) e) (λ e. ap (λ (m : ℕ). drop m b) e.0 ∙ drop-length b ∙ sym (drop_of_length-le b e.1)) f

module _ (store : Store) (b b₂ v : List ℕ) (out out' : List ℕ) (at used : ℕ) where
  -- the answer to a call: x and y are what it leaves of the fronts, d and c bytes long, and v' is the version table that it leaves
  pub spoken : (q : Call) (form : Form) (d c : ℕ) (s : Store) (x y d' c' v' : List ℕ) (a : Answer (Result q))
      → Front (24 * store.rows) (length b) d → Front (8 * store.rows) (length b₂) c
      → after_of s x y v' a ≡ on_bytes (perform q) store (take d b) (take c b₂) v → d' ≡ x ++ drop d b → c' ≡ y ++ drop c b₂
      → Put out at (line_text form (answer_text (result_text q b) a)) out' used → used ≤ at + 90
      → Spoken (said form q (memory_of store b b₂ v)) (memory_of s d' c' v') out at out' used
  spoken q form d c s x y d' c' v' a fd fc e p r u l =
      let m : Memory = memory_of store b b₂ v in
      let z : after_of s x y v' a ≡ step q (front m) = e ∙ rw (front_take (24 * store.rows) d b fd, front_take (8 * store.rows) c b₂ fc) in
      record {
        memory =
            rw (p, r, front_drop (24 * store.rows) d b fd, front_drop (8 * store.rows) c b₂ fc)
            (ap (λ (o : After (Result q)). behind store.rows m o.memory) z);
        text = subst (λ (o : After (Result q)). Put out at (line_text form (answer_text (result_text q b) o.answer)) out' used) z u;
        room = l;
      }

  -- a set-up of too many rows
  pub too_many : (form : Form) (r first limit : ℕ) → 1024 < r → Put out at (line_text form (refused_text 1)) out' used → used ≤ at + 90
      → Spoken (set_up_response form r first limit (memory_of store b b₂ v)) (memory_of store b b₂ v) out at out' used
  unfolding set_up_response
  too_many form r first limit h u l = rw (lt-ltb 1024 r h) (record { memory = refl; text = u; room = l })

  -- a refused set-up leaves the buffers
  left : (d c x y t : List ℕ) (first limit n : ℕ) (s : Store) → after_of {A = ℕ} s x y t (Refused n) ≡ set_up d c first limit → (x ≡ d) × (y ≡ c)
  unfolding set_up
  left d c x y t first limit n s e = go (accepts (length d) (length c) first limit) e
    where
      go : (ok : Bool)
          → after_of {A = ℕ} s x y t (Refused n) ≡ (if ok then after_of (store_of (empty (length d / 24) (limit_of limit) (first - 1)))
          (replicate (length d) 0) (replicate (length c) 0) no_versions (Answered (length d / 24)) else after_of (store_of (empty 0 0 0)) d c
          no_versions (Refused bad_set_up))
          → (x ≡ d) × (y ≡ c)
      go true q =
          let f : Refused n ≡ Answered (length d / 24) = ap (λ (o : After ℕ). o.answer) q in
          let z : ◌≡◌ {A = ℕ} 0 1 = cc in
          absurd (omega arith)
      go false q = (ap (λ (o : After ℕ). o.memory.data_bytes) q, ap (λ (o : After ℕ). o.memory.commit_bytes) q)

  -- an answered set-up leaves a new record s and a new version table
  pub set_up_made : (form : Form) (r first limit d c : ℕ) (s : Store) (x y d' c' : List ℕ) (n : ℕ) → r ≤ 1024
      → Front (24 * r) (length b) d → Front (8 * r) (length b₂) c
      → SetsUp (take d b) (take c b₂) first limit (memory_of s x y no_versions) (Answered n) → d' ≡ x ++ drop d b → c' ≡ y ++ drop c b₂
      → Put out at (line_text form (free_text n)) out' used → used ≤ at + 90
      → Spoken (set_up_response form r first limit (memory_of store b b₂ v)) (memory_of s d' c' no_versions) out at out' used
  unfolding set_up_response
  set_up_made form r first limit d c s x y d' c' n h fd fc e p q u l =
      rw (le-ltb 1024 r h)
      (subst
      (λ (o : After ℕ). Spoken (set_up_said form r (memory_of store b b₂ v) o o.answer) (memory_of s d' c' no_versions) out at out' used)
      {y = set_up (take (24 * r) b) (take (8 * r) b₂) first limit}
      (e ∙ rw (front_take (24 * r) d b fd, front_take (8 * r) c b₂ fc))
      (record { memory = rw (p, q, front_drop (24 * r) d b fd, front_drop (8 * r) c b₂ fc); text = u; room = l }))

  -- "a refused set-up keeps the old one"
  pub set_up_kept : (form : Form) (r first limit d c : ℕ) (s : Store) (x y d' c' : List ℕ) (n : ℕ) → r ≤ 1024
      → Front (24 * r) (length b) d → Front (8 * r) (length b₂) c
      → SetsUp (take d b) (take c b₂) first limit (memory_of s x y no_versions) (Refused n) → d' ≡ x ++ drop d b → c' ≡ y ++ drop c b₂
      → Put out at (line_text form (refused_text n)) out' used → used ≤ at + 90
      → Spoken (set_up_response form r first limit (memory_of store b b₂ v)) (memory_of store d' c' v) out at out' used
  unfolding set_up_response
  set_up_kept form r first limit d c s x y d' c' n h fd fc e p q u l =
      let k = left (take d b) (take c b₂) x y no_versions first limit n s e in
      rw (le-ltb 1024 r h)
      (subst
      (λ (o : After ℕ). Spoken (set_up_said form r (memory_of store b b₂ v) o o.answer) (memory_of store d' c' v) out at out' used)
      {y = set_up (take (24 * r) b) (take (8 * r) b₂) first limit}
      (e ∙ rw (front_take (24 * r) d b fd, front_take (8 * r) c b₂ fc))
      (record { memory = rw (p, q, k.0, k.1, take-append-drop d b, take-append-drop c b₂); text = u; room = l }))

-- a line is answered by its form
pub by_form : (l : List ℕ) (w : Memory) (f g : Form) → f ≡ form_of l → f ≡ g → answer_to l w ≡ response g l w
unfolding answer_to
by_form l w f g e q = rw (← e, q)
