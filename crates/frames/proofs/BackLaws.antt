-- The way back, once over a frame's fields and its line's length: its fields come back.
use Rattle.std.proofs.Common.{◌≡◌, ℕ, suc, ◌^◌, ◌<◌, Bool, true, false, T, leb, List, [], ◌∷◌, ◌++◌, length, take, drop, refl, ap, ◌∙◌, append_assoc, arith, lit<, lit≤, take_at, drop_at, le-leb}
use native.Mathlib.Nat.{one-le-pow}
use lib.Seq.{split_at}
use lib.Ieee.{Float, binary64, fits, of_bits}
use Rattle.patterns.proofs.PatternLaws.{pattern_fits, float_back}
use Rattle.frames.specs.Bytes.{field, check}
use Rattle.frames.specs.Frames.{Field, Frame, wide, opening, all_fields, field_bytes, checked, frame_bytes, text, bits, byte_of}
use Rattle.frames.specs.Private.{InField, widths_of, field_at}
use Rattle.frames.specs.Reading.{value, float}
use Rattle.frames.proofs.ByteLaws.{field_length, number_back, number_small}
use Rattle.frames.proofs.FrameLaws.{fields_before, fields_join, text_bytes}

-- ---- a value that is read is small enough for its width, on every line
pub value_small : (line : List ℕ) (at width : ℕ) → value line at width < 256 ^ width
unfolding value
value_small line at width = go (leb width 8) refl
  where
    go : (b : Bool) → leb width 8 ≡ b → value line at width < 256 ^ width
    go true e = rw e (number_small line at width)
    go false e = rw e (one-le-pow width 256 (lit< tt))

-- ---- a frame's line
module _ (f : Frame) where
  -- a field x that stands after the fields a
  pub value_back : (a : List Field) (x : Field) (b : List Field) → all_fields f ≡ a ++ x ∷ b → InField x → value (text f) (length (field_bytes a)) x.width ≡ x.value
  unfolding value checked field_bytes
  value_back a x b e h =
      let y = field x.width x.value in
      let z = check (field_bytes (all_fields f)) ∷ [] in
      let r = field_bytes b ++ z in
      let split : frame_bytes f ≡ field_bytes a ++ (y ++ r) = ap (λ (l : List Field). field_bytes l ++ z) e ∙ rw (fields_join a (x ∷ b)) (simp append_assoc) in
      rw (le-leb x.width 8 h.narrow, text_bytes f, split, drop_at (field_bytes a) (y ++ r) (length (field_bytes a)) refl)
      (rw (take_at y r x.width (field_length x.width x.value)) (number_back x.width x.value h.small))

  -- field j of a frame is read back
  pub field_back : (j : ℕ) → j < length f.fields → InField (field_at f.fields j)
      → value (text f) (byte_of (widths_of f.fields) j) (field_at f.fields j).width ≡ (field_at f.fields j).value
  unfolding field_bytes field
  field_back j l h =
      let o = opening f.kind f.sequence in
      ap (λ (k : ℕ). value (text f) k (field_at f.fields j).width) (omega (arith, fields_before f.fields j))
      ∙ value_back (o ++ take j f.fields) (field_at f.fields j) (drop (suc j) f.fields)
      (ap (λ (l : List Field). o ++ l) (split_at f.fields j (wide 0 0) l)) h

  -- a float that is field j of a frame is read back
  pub float_field : (j : ℕ) → j < length f.fields → (x : Float) → field_at f.fields j ≡ wide 8 (bits x) → T (fits binary64 x)
      → float (text f) (byte_of (widths_of f.fields) j) ≡ x
  float_field j l x q h =
      let back = field_back j l (rw q (record { narrow = lit≤ tt; small = pattern_fits x h })) in
      ap (of_bits binary64) (rw q at back) ∙ float_back x h
