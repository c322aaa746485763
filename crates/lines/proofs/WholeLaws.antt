-- A frame's line, built whole: what is begun, appended and sealed holds the frame's text. Once, over its fields.
use Prim.Native.Nat.{ℕ, ◌+◌, ◌≤◌, ◌<◌}
use mathlib.Core.Path.{◌≡◌, sym, ap, ◌∙◌}
use mathlib.Core.List.{List, [], ◌∷◌, ◌++◌, append_assoc, append-nil}
use native.Mathlib.Omega.{arith}
use lib.ListN.{length, length-append}
use Rattle.frames.specs.Bytes.{digits, bytes, field, check}
use Rattle.frames.specs.Frames.{Field, Frame, all_fields, field_bytes, checked, line_feed, text, digits_of}
use Rattle.frames.specs.Private.{widths_of}
use Rattle.frames.proofs.ByteLaws.{Bytes, bytes_back, digits_join, digits_length}
use Rattle.frames.proofs.FrameLaws.{fields_digits, fields_bytes}
use Rattle.lines.specs.Building.{longest, holding, with_fields, begun, sealed}
use Rattle.lines.proofs.BuildLaws.{written_holding, appended_holding}

-- ---- a line that holds fields
fields_holding : (t : List ℕ) (fs : List Field) → length t + length (digits (field_bytes fs)) ≤ longest → with_fields (holding t) fs ≡ holding (t ++ digits (field_bytes fs))
unfolding with_fields field_bytes digits
fields_holding t [] h = ap holding (sym (append-nil t))
fields_holding t (f ∷ fs) h =
    let u = digits (field f.width f.value) in
    let v = digits (field_bytes fs) in
    let both : digits (field_bytes (f ∷ fs)) ≡ u ++ v = digits_join (field f.width f.value) (field_bytes fs) in
    let n = simp (both, length-append) at h in
    let m = length-append t u in
    rw (both, appended_holding t u (omega arith), fields_holding (t ++ u) fs (omega arith), append_assoc)

sealed_holding : (bs : List ℕ) → Bytes bs → length (digits bs) + 3 ≤ longest → sealed (holding (digits bs)) ≡ holding (digits (checked bs) ++ (line_feed ∷ []))
unfolding sealed checked bytes digits
sealed_holding bs p h =
    let u = digits (check bs ∷ []) ++ (line_feed ∷ []) in
    let back : bytes (digits bs) ≡ bs = ap bytes (sym (append-nil (digits bs))) ∙ bytes_back bs [] p ∙ append-nil bs in
    rw (written_holding, back, appended_holding (digits bs) u h, digits_join bs (check bs ∷ []), append_assoc)

-- ---- what is begun, appended and sealed is the frame's line
pub built : (f : Frame) → digits_of (widths_of f.fields) < longest → sealed (with_fields (begun f.kind f.sequence) f.fields) ≡ holding (text f)
unfolding with_fields field_bytes field text
built f h =
    let b = field_bytes (all_fields f) in
    let n : length (digits b) + 2 ≡ digits_of (widths_of f.fields) = omega (arith, digits_length b, fields_digits f.fields) in
    ap sealed (fields_holding [] (all_fields f) (omega arith)) ∙ sealed_holding b (fields_bytes (all_fields f)) (omega arith)
