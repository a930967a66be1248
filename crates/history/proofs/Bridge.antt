-- From images to the record, the bytes of both buffers and the version table. A well-formed image i has one layout, `encoded i`: its record, each
-- buffer with its rows and then zero, and its table. A call on that layout is the call on the image: the store is fit, the image is read back, and
-- what the call leaves is laid out as the layout of the image it leaves (`crossed`, for a call of any kind that keeps images well-formed). A set-up
-- that is not refused hands back the layout of the empty image. After a refused one the record has 0 rows, so that the store is unfit.
-- Assumes nothing.
use Prim.Native.Nat.{ℕ, ◌-◌, ◌/◌, ◌≤◌}
use mathlib.Core.Path.{◌≡◌, refl}
use mathlib.Core.Bool.{true, false}
use mathlib.Core.List.{List, flatten}
use native.Mathlib.Nat.{sub-zero}
use lib.ListN.{length}
use Rattle.spec.specs.Rows.{rows_in}
use Rattle.spec.specs.Answers.{Answer, Refused, unfit}
use Rattle.spec.specs.Image.{Image, no_versions, empty}
use Rattle.spec.specs.Calls.{Outcome}
use Rattle.spec.specs.Bytes.{After, after_of, memory_of, decode, store_of, encode, fits, on_bytes, on_memory, limit_of, accepts, set_up, Memory}
use Rattle.spec.specs.Run.{Call, perform, step}
use Rattle.spec.proofs.Ends.{accepted}
use Rattle.spec.proofs.AccordUnfit.{fit_if}
use Rattle.history.proofs.Spread.{spread, length-spread, rows_spread, laid_spread}
use Rattle.history.proofs.Wellformed.{Wellformed, Kept, perform_kept, empty_fine}

-- the layout of an image
unfoldable pub encoded : Image → Memory
encoded i = memory_of (store_of i) (spread 24 i.rows i.data_rows) (spread 8 i.rows i.commit_rows) i.versions

-- a layout and an answer
abbrev with : {A : Type 0} → Memory → Answer A → After A
with m a = after_of m.store m.data_bytes m.commit_bytes m.versions a

-- ---- one call, of any kind that keeps images well-formed

module _ (i : Image) (h : Wellformed i) where
  -- an image laid out is a fit store
  pub fits_whole : fits (encoded i).store (length (encoded i).data_bytes) (length (encoded i).commit_bytes) ≡ true
  unfolding encoded store_of
  fits_whole =
      fit_if (encoded i).store _ _
      (record {
        some = h.some;
        most = h.most;
        data_length = length-spread 24 i.rows i.data_rows h.data_wide h.data_fit;
        commit_length = length-spread 8 i.rows i.commit_rows h.commit_wide h.commit_fit;
        data_rows = h.data_fit;
        commit_rows = h.commit_fit;
      })
      (λ k q. h.tidy.stage.each k)

  -- and shows that image
  pub decode-encoded : decode (encoded i).store (encoded i).data_bytes (encoded i).commit_bytes (encoded i).versions ≡ i
  unfolding decode encoded store_of
  decode-encoded = rw (rows_spread 24 i.rows i.data_rows h.data_wide, rows_spread 8 i.rows i.commit_rows h.commit_wide)

  -- what a call makes of it, laid out in its place, is the call's image laid out
  encode-encoded : {A : Type 0} (o : Outcome A) → Kept i o
      → encode (encoded i).store (encoded i).data_bytes (encoded i).commit_bytes o ≡ with (encoded o.image) o.answer
  unfolding encode encoded store_of
  encode-encoded o k =
      let d : length o.image.data_rows ≤ i.rows = rw k.size at k.fine.data_fit in
      let c : length o.image.commit_rows ≤ i.rows = rw k.size at k.fine.commit_fit in
      rw (
        laid_spread 24 i.rows i.data_rows o.image.data_rows h.data_wide h.data_fit d,
        laid_spread 8 i.rows i.commit_rows o.image.commit_rows h.commit_wide h.commit_fit c,
        k.size,
      )

  bridge_call : {A : Type 0} (f : Image → Outcome A) → Kept i (f i)
      → on_memory f (encoded i) ≡ with (encoded (f i).image) (f i).answer
  unfolding on_bytes
  bridge_call f k = rw (fits_whole, decode-encoded) (encode-encoded (f i) k)

  -- so a call on the record and the buffers is the call on the image
  pub crossed : (q : Call) → step q (encoded i) ≡ with (encoded (perform q i).image) (perform q i).answer
  crossed q = bridge_call (perform q) (perform_kept q i h)

  -- the data rows in use
  pub used_rows : rows_in 24 (encoded i).store.used (encoded i).data_bytes ≡ i.data_rows
  unfolding encoded store_of
  used_rows = rows_spread 24 i.rows i.data_rows h.data_wide

-- ---- set-up

-- the image of a set-up that is not refused
abbrev pub first_image : List ℕ → ℕ → ℕ → Image
first_image d w l = empty (length d / 24) (limit_of l) (w - 1)

module _ (d c : List ℕ) (w l : ℕ) (e : accepts (length d) (length c) w l ≡ true) where
  pub set_up_whole : (set_up d c w l).memory ≡ encoded (first_image d w l)
  unfolding set_up encoded empty store_of spread flatten
  set_up_whole =
      let a = accepted (length d) (length c) w l e in
      rw (e, sub-zero (length d / 24), ← a.data_length, ← a.commit_length)

  pub first_fine : Wellformed (first_image d w l)
  first_fine = let a = accepted (length d) (length c) w l e in empty_fine (length d / 24) (limit_of l) (w - 1) a.some a.most

-- what a refused set-up hands back
abbrev pub unused : List ℕ → List ℕ → Memory
unused d c = memory_of (store_of (empty 0 0 0)) d c no_versions

pub refused_memory : (d c : List ℕ) (w l : ℕ) → accepts (length d) (length c) w l ≡ false → (set_up d c w l).memory ≡ unused d c
unfolding set_up
refused_memory d c w l e = rw e

pub refused_call : (d c : List ℕ) (q : Call) → step q (unused d c) ≡ with (unused d c) (Refused unfit)
unfolding on_bytes fits store_of empty
refused_call d c q = refl
