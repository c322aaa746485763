-- A frame's line is read without fault, once over its fields and its length; and a line without fault is all there.
use Prim.Native.Nat.{ℕ, suc, ◌+◌, ◌%◌, ◌≤◌, ◌<◌}
use mathlib.Core.Path.{◌≡◌, refl, sym, ◌∙◌}
use mathlib.Core.List.{List, [], ◌∷◌}
use mathlib.Core.Bool.{true, ◌&&◌}
use native.Mathlib.Omega.{arith}
use borrow.Author.Tests.{eqb-true, eq-eqb}
use lib.Dec.{lit≤, eqb}
use lib.ListN.{length, drop, get_or, length-take, length-drop}
use lib.Seq.{get_or_at}
use Rattle.rows.specs.Scan.{accepted, ◌then◌}
use Rattle.rows.proofs.ScanLaws.{row_holds, row_passed, then_first, both_left}
use Rattle.frames.specs.Bytes.{digits, all_digits, field}
use Rattle.frames.specs.Frames.{Frame, Layout, wide, all_fields, field_bytes, frame_bytes, line_feed, text, digits_of}
use Rattle.frames.specs.Texts.{due, start_of, line_at}
use Rattle.frames.specs.Private.{widths_of}
use Rattle.frames.specs.Reading.{value}
use Rattle.frames.proofs.ByteLaws.{digits_right, digits_length}
use Rattle.frames.proofs.FrameLaws.{checked_sum, frame_bytes_lem, line_digits, text_length, text_bytes}
use Rattle.frames.proofs.BackLaws.{value_back}
use Rattle.faults.specs.Faults.{is_framed, row20, row21, row22, fault, line_fault}

module _ (f : Frame) where
  even : digits_of (widths_of f.fields) % 2 ≡ 0
  even = rw (← line_digits f, digits_length (frame_bytes f)) (omega arith)

  feed : get_or (text f) (digits_of (widths_of f.fields)) 0 ≡ line_feed
  unfolding text
  feed = get_or_at (digits (frame_bytes f)) line_feed [] 0 (digits_of (widths_of f.fields)) (line_digits f)

  right : all_digits (text f) ≡ true
  unfolding text all_digits
  right = digits_right (frame_bytes f) (line_feed ∷ []) (frame_bytes_lem f)

  -- a frame's line is read without fault, by its own digits, kind and sequence
  pub line_fine : (place : ℕ) → f.kind < 256 → f.sequence < 65536 → fault (text f) (digits_of (widths_of f.fields)) f.kind f.sequence place ≡ accepted
  unfolding fault row20 row21 row22 is_framed ◌then◌ field_bytes field text all_digits
  line_fine place k s =
      let kind : value (text f) 0 1 ≡ f.kind = value_back f [] (wide 1 f.kind) (wide 2 f.sequence ∷ f.fields) refl (record { narrow = lit≤ tt; small = k }) in
      let seq : value (text f) 1 2 ≡ f.sequence = value_back f (wide 1 f.kind ∷ []) (wide 2 f.sequence) f.fields refl (record { narrow = lit≤ tt; small = s }) in
      rw (eq-eqb _ _ (text_length f), eq-eqb _ _ even, eq-eqb _ _ feed, right, text_bytes f, eq-eqb _ _ (checked_sum (field_bytes (all_fields f))), eq-eqb _ _ kind, eq-eqb _ _ seq)
      (rw (row_holds {test = true} 20 place refl, row_holds {test = true} 21 place refl, row_holds {test = true} 22 place refl))

-- ---- a line without fault has the digits due and its line feed
pub fault_long : (line : List ℕ) (due kind sequence place : ℕ) → (fault line due kind sequence place).number ≡ 0 → length line ≡ due + 1
unfolding fault row20 is_framed
fault_long line due kind sequence place fine =
    let long = eqb (length line) (due + 1) in
    let even = eqb (due % 2) 0 in
    let ended = eqb (get_or line due 0) line_feed in
    let framed = row_passed (long && even && ended && all_digits line) 19 place (then_first _ _ fine) in
    eqb-true _ _ (both_left long even (both_left (long && even) ended (both_left (long && even && ended) (all_digits line) framed)))

-- so that the next line starts within the text
pub line_within : (layout : ℕ → Layout) (t : List ℕ) (j : ℕ) → (line_fault layout t j).number ≡ 0 → start_of layout (suc j) ≤ length t
unfolding line_fault start_of
line_within layout t j fine =
    let rest = drop (start_of layout j) t in
    let whole = sym (length-take (due layout j + 1) rest) ∙ fault_long (line_at layout t j) (due layout j) (layout j).kind j j fine in
    omega (arith, whole, length-drop (start_of layout j) t)
