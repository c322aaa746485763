-- The way on: a line whose fields are read as those of a frame, and whose bytes sum to 0, is that frame's line, in one of its spellings.
use Rattle.std.proofs.Common.{◌≡◌, ℕ, zero, suc, ◌+◌, ◌*◌, ◌/◌, ◌%◌, ◌<◌, ◌≤◌, Bool, true, ◌&&◌, leb, List, [], ◌∷◌, ◌++◌, length, get_or, take, drop, sym, refl, ap, ◌∙◌, add-one, arith, length-drop, get_or-drop, take_all, take-suc, drop-drop, take-add}
use Rattle.rows.proofs.ScanLaws.{both_left, both_right}
use Rattle.frames.specs.Bytes.{digits, bytes, all_digits, field, number, sum, check}
use Rattle.frames.specs.Frames.{Field, Frame, wide, all_fields, field_bytes, checked, frame_bytes, line_feed, text, digits_of}
use Rattle.frames.specs.Private.{widths_of}
use Rattle.frames.specs.Reading.{value}
use Rattle.frames.specs.Spelling.{in_upper}
use Rattle.frames.proofs.ByteLaws.{bytes_length, bytes_small, number_more, sum_join}
use Rattle.frames.proofs.FrameLaws.{one_more, fields_digits}
use Rattle.frames.proofs.SpellingLaws.{line_upper}

-- ---- fields
-- the bytes of a part of a line are the field of their number
part_written : (s : List ℕ) (at w : ℕ) → at + w ≤ length (bytes s) → field w (number (take w (drop at (bytes s)))) ≡ take w (drop at (bytes s))
unfolding field number
part_written s at zero h = refl
part_written s at (suc w) h =
    let bs = bytes s in
    let b = get_or bs (at + w) 0 in
    let v = number (take w (drop at bs)) in
    let l : w < length (drop at bs) = rw length-drop (omega arith) in
    let small = bytes_small s (at + w) in
    let n : number (take (suc w) (drop at bs)) ≡ v * 256 + b = rw add-one at (number_more bs at w (omega arith)) in
    let high : (v * 256 + b) / 256 ≡ v = omega arith in
    let low : (v * 256 + b) % 256 ≡ b = omega arith in
    rw (n, high, low, part_written s at w (omega arith)) (sym (take-suc (drop at bs) w 0 l ∙ rw (get_or-drop at bs w 0)))

-- fields of at most 8 bytes
abbrev pub narrow : List Field → Bool
narrow [] = true
narrow (f ∷ fs) = leb f.width 8 && narrow fs

-- the fields that stand from a frame byte on are read as these
abbrev pub Reads : List ℕ → ℕ → List Field → Type 0
Reads line at [] = Unit {0}
Reads line at (f ∷ fs) = (value line at f.width ≡ f.value) × Reads line (at + f.width) fs

fields_written : (line : List ℕ) (at : ℕ) (fs : List Field) → narrow fs ≡ true → Reads line at fs → at + length (field_bytes fs) ≤ length (bytes line)
    → field_bytes fs ≡ take (length (field_bytes fs)) (drop at (bytes line))
unfolding field_bytes value
fields_written line at [] e r h = refl
fields_written line at (f ∷ fs) e r h =
    let bs = bytes line in
    let w = f.width in
    let m = length (field_bytes fs) in
    let long = one_more f fs in
    let its : number (take w (drop at bs)) ≡ f.value = rw (both_left (leb w 8) (narrow fs) e) at r.0 in
    let first : field w f.value ≡ take w (drop at bs) = ap (field w) (sym its) ∙ part_written line at w (omega arith) in
    let rest : field_bytes fs ≡ take m (drop w (drop at bs)) = fields_written line (at + w) fs (both_right (leb w 8) (narrow fs) e) r.1 (omega arith) ∙ ap (take m) (sym (drop-drop w at bs)) in
    (λ i. first i ++ rest i) ∙ sym (take-add w m (drop at bs)) ∙ ap (λ (n : ℕ). take n (drop at bs)) (sym long)

-- ---- a line
module _ (f : Frame) (line : List ℕ) (long : length line ≡ digits_of (widths_of f.fields) + 1) where
  -- one byte more than kind, sequence and fields: the check byte
  one_left : length (bytes line) ≡ length (field_bytes (all_fields f)) + 1
  one_left =
      let all = one_more (wide 1 f.kind) (wide 2 f.sequence ∷ f.fields) in
      omega (arith, bytes_length line, all, one_more (wide 2 f.sequence) f.fields, fields_digits f.fields)

  bytes_written : narrow f.fields ≡ true → Reads line 0 (all_fields f) → sum (bytes line) % 256 ≡ 0 → bytes line ≡ frame_bytes f
  unfolding checked check sum
  bytes_written e r s =
      let fs = field_bytes (all_fields f) in
      let bs = bytes line in
      let m = length fs in
      let c = get_or bs m 0 in
      let whole : bs ≡ take m bs ++ (c ∷ []) = sym (take_all (suc m) bs (omega (arith, one_left))) ∙ take-suc bs m 0 (omega (arith, one_left)) in
      let start : fs ≡ take m bs = fields_written line 0 (all_fields f) e r (omega (arith, one_left)) in
      let split : bs ≡ fs ++ (c ∷ []) = whole ∙ ap (λ (l : List ℕ). l ++ (c ∷ [])) (sym start) in
      let total : (sum fs + (c + 0)) % 256 ≡ 0 = rw (split, sum_join) at s in
      split ∙ ap (λ (b : ℕ). fs ++ (b ∷ [])) (omega (arith, bytes_small line m))

  pub line_written : narrow f.fields ≡ true → Reads line 0 (all_fields f) → sum (bytes line) % 256 ≡ 0 → all_digits line ≡ true → get_or line (digits_of (widths_of f.fields)) 0 ≡ line_feed
      → in_upper line ≡ text f
  unfolding text
  line_written e r s right feed =
      let due = digits_of (widths_of f.fields) in
      let half = length (bytes line) in
      let even : due ≡ 2 * half = omega (arith, bytes_length line, fields_digits f.fields) in
      line_upper half line (omega arith) right (rw even at feed) ∙ ap (λ (bs : List ℕ). digits bs ++ (line_feed ∷ [])) (bytes_written e r s)
