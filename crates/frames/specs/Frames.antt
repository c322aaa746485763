-- Document 01, "Frames": a frame as its kind, its sequence and its fields, and the line of text that it is.
use Rattle.std.specs.Prelude.{ℕ, zero, suc, ◌+◌, ◌*◌, List, [], ◌∷◌, ◌++◌, to_bits, Float}
use Rattle.std.specs.Float.{binary64}
use Rattle.frames.specs.Bytes.{digits, field, check}

-- a number and the bytes that it takes, as in "N (2), E (2), step (4), Wx, Wy"
pub record Field : Type 0 where
  pub width : ℕ
  pub value : ℕ

pub record Frame : Type 0 where
  pub kind : ℕ
  pub sequence : ℕ
  pub fields : List Field

abbrev pub wide : ℕ → ℕ → Field
wide w v = record { width = w; value = v }

-- "kind byte, two-byte sequence, fields"
abbrev pub opening : ℕ → ℕ → List Field
opening kind sequence = wide 1 kind ∷ wide 2 sequence ∷ []

abbrev pub all_fields : Frame → List Field
all_fields f = opening f.kind f.sequence ++ f.fields

unfoldable pub field_bytes : List Field → List ℕ
field_bytes [] = []
field_bytes (f ∷ fs) = field f.width f.value ++ field_bytes fs

-- "fields, check byte"
unfoldable pub checked : List ℕ → List ℕ
checked bs = bs ++ (check bs ∷ [])

abbrev pub frame_bytes : Frame → List ℕ
frame_bytes f = checked (field_bytes (all_fields f))

abbrev pub line_feed : ℕ
line_feed = 10

-- "one frame a line, ended by a line feed"
unfoldable pub text : Frame → List ℕ
text f = digits (frame_bytes f) ++ (line_feed ∷ [])

-- ---- a line kind: the kind byte, and how many bytes each field has. Writing and reading share it
pub record Layout : Type 0 where
  pub kind : ℕ
  pub widths : List ℕ

abbrev pub laid_out : List ℕ → List ℕ → List Field
laid_out [] vs = []
laid_out (w ∷ ws) [] = []
laid_out (w ∷ ws) (v ∷ vs) = wide w v ∷ laid_out ws vs

-- the line of this layout with these values in its fields
abbrev pub line : Layout → ℕ → List ℕ → Frame
line l sequence values = record { kind = l.kind; sequence = sequence; fields = laid_out l.widths values }

-- "floats are their 8-byte patterns"
abbrev pub bits : Float → ℕ
bits x = to_bits binary64 x

-- ---- what follows from how many bytes each field has
-- a line's digits, as in "56 digits": two for each byte of kind, sequence, fields and check byte
abbrev pub digits_of : List ℕ → ℕ
digits_of [] = 8
digits_of (w ∷ ws) = 2 * w + digits_of ws

-- the frame byte at which field j starts, from 0: past kind and sequence, and the fields before it
abbrev pub byte_of : List ℕ → ℕ → ℕ
byte_of ws zero = 3
byte_of [] (suc j) = 3
byte_of (w ∷ ws) (suc j) = w + byte_of ws j
