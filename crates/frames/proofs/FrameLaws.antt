-- Laws of a frame's line, once over its fields and its length: its bytes, and how long it is.
use Rattle.std.proofs.Common.{◌≡◌, ℕ, zero, suc, ◌+◌, ◌*◌, ◌%◌, List, [], ◌∷◌, ◌++◌, length, take, refl, ◌∙◌, append_assoc, append-nil, mod-lt, arith, lit<, length-append}
use Rattle.frames.specs.Bytes.{digits, bytes, field, sum, check}
use Rattle.frames.specs.Frames.{Field, Frame, all_fields, field_bytes, checked, frame_bytes, line_feed, text, digits_of, byte_of}
use Rattle.frames.specs.Private.{widths_of}
use Rattle.frames.proofs.ByteLaws.{Bytes, bytes_join, field_bytes_lem, bytes_back, digits_length, field_length, sum_join}

-- ---- the bytes of fields
pub one_more : (f : Field) (fs : List Field) → length (field_bytes (f ∷ fs)) ≡ f.width + length (field_bytes fs)
unfolding field_bytes
one_more f fs = length-append (field f.width f.value) (field_bytes fs) ∙ rw (field_length f.width f.value)

pub fields_digits : (fs : List Field) → 8 + 2 * length (field_bytes fs) ≡ digits_of (widths_of fs)
unfolding field_bytes
fields_digits [] = refl
fields_digits (f ∷ fs) = omega (arith, one_more f fs, fields_digits fs)

-- where field j starts
pub fields_before : (fs : List Field) (j : ℕ) → 3 + length (field_bytes (take j fs)) ≡ byte_of (widths_of fs) j
unfolding field_bytes
fields_before fs zero = refl
fields_before [] (suc j) = refl
fields_before (f ∷ fs) (suc j) = omega (arith, one_more f (take j fs), fields_before fs j)

pub fields_bytes : (fs : List Field) → Bytes (field_bytes fs)
unfolding field_bytes
fields_bytes [] = tt
fields_bytes (f ∷ fs) = bytes_join (field f.width f.value) (field_bytes fs) (field_bytes_lem f.width f.value) (fields_bytes fs)

pub fields_join : (a b : List Field) → field_bytes (a ++ b) ≡ field_bytes a ++ field_bytes b
unfolding field_bytes
fields_join [] b = refl
fields_join (f ∷ a) b = rw (fields_join a b, append_assoc)

-- "All frame bytes sum to 0 modulo 256."
pub checked_sum : (bs : List ℕ) → sum (checked bs) % 256 ≡ 0
unfolding checked check sum
checked_sum bs = rw (sum_join bs (check bs ∷ [])) (omega arith)

-- ---- a frame's line
module _ (f : Frame) where
  pub frame_bytes_lem : Bytes (frame_bytes f)
  unfolding checked check
  frame_bytes_lem = bytes_join (field_bytes (all_fields f)) _ (fields_bytes (all_fields f)) (mod-lt _ (lit< tt), tt)

  pub line_digits : length (digits (frame_bytes f)) ≡ digits_of (widths_of f.fields)
  unfolding checked field_bytes field
  line_digits =
      let b = field_bytes (all_fields f) in
      digits_length (frame_bytes f) ∙ rw (length-append b (check b ∷ [])) (omega (arith, fields_digits f.fields))

  -- two for each byte, and the line feed
  pub text_length : length (text f) ≡ digits_of (widths_of f.fields) + 1
  unfolding text
  text_length = length-append (digits (frame_bytes f)) (line_feed ∷ []) ∙ rw line_digits

  -- the bytes that are read are those that were written
  pub text_bytes : bytes (text f) ≡ frame_bytes f
  unfolding text bytes
  text_bytes = bytes_back (frame_bytes f) (line_feed ∷ []) frame_bytes_lem ∙ append-nil (frame_bytes f)
