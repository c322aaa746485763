-- Document 02, #104: rows 20 to 22 of a line are those of the line in upper case; and a line that passes them, and is read as a frame, is that frame's.
use Prim.Native.Nat.{ℕ, ◌+◌, ◌%◌}
use mathlib.Core.Path.{◌≡◌}
use mathlib.Core.List.{List}
use mathlib.Core.Bool.{true, ◌&&◌}
use borrow.Author.Tests.{eqb-true}
use lib.Dec.{eqb}
use lib.ListN.{length, length-map, get_or}
use Rattle.rows.proofs.ScanLaws.{row_passed, then_first, then_rest, both_left, both_right}
use Rattle.frames.specs.Bytes.{all_digits}
use Rattle.frames.specs.Frames.{Frame, Layout, text, digits_of, line_feed}
use Rattle.frames.specs.Private.{widths_of}
use Rattle.frames.specs.Reading.{value}
use Rattle.frames.specs.Texts.{due, line_at}
use Rattle.frames.specs.Spelling.{upper, in_upper}
use Rattle.frames.proofs.SpellingLaws.{bytes_upper, right_upper, feed_at_upper, value_upper, line_at_upper}
use Rattle.frames.proofs.WrittenLaws.{narrow, Reads, line_written}
use Rattle.faults.specs.Faults.{is_framed, row20, row21, row22, fault, line_fault}

pub fault_upper : (line : List ℕ) (due kind sequence place : ℕ) → fault (in_upper line) due kind sequence place ≡ fault line due kind sequence place
unfolding fault row20 row21 row22 is_framed
fault_upper line due kind sequence place =
    rw (length-map line upper, feed_at_upper line due, right_upper line, bytes_upper line, value_upper line 0 1, value_upper line 1 2)

pub line_fault_upper : (layout : ℕ → Layout) (t : List ℕ) (j : ℕ) → line_fault layout (in_upper t) j ≡ line_fault layout t j
unfolding line_fault
line_fault_upper layout t j = rw (line_at_upper layout t j) (fault_upper (line_at layout t j) (due layout j) (layout j).kind j j)

-- a line without fault by a frame's digits, kind and sequence, whose fields are read as the frame's
pub fault_written : (f : Frame) (line : List ℕ) (place : ℕ) → (fault line (digits_of (widths_of f.fields)) f.kind f.sequence place).number ≡ 0
    → narrow f.fields ≡ true → Reads line 3 f.fields → in_upper line ≡ text f
unfolding fault row20 row21 row22 is_framed
fault_written f line place fine e r =
    let due = digits_of (widths_of f.fields) in
    let long = eqb (length line) (due + 1) in
    let even = eqb (due % 2) 0 in
    let ended = eqb (get_or line due 0) line_feed in
    let framed = long && even && ended in
    let twenty = row_passed (framed && all_digits line) 19 place (then_first _ _ fine) in
    let its = both_left framed (all_digits line) twenty in
    let after = then_rest _ _ fine in
    let kind = eqb (value line 0 1) f.kind in
    let sequence = eqb (value line 1 2) f.sequence in
    let same = row_passed (kind && sequence) 21 place (then_rest _ _ after) in
    line_written f line (eqb-true _ _ (both_left long even (both_left (long && even) ended its))) e
    (eqb-true _ _ (both_left kind sequence same), (eqb-true _ _ (both_right kind sequence same), r))
    (eqb-true _ _ (row_passed _ 20 place (then_first _ _ after))) (both_right framed (all_digits line) twenty)
    (eqb-true _ _ (both_right (long && even) ended its))
