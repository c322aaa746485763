-- How a line is taken apart, for laws and for the contracts of private functions. No public contract cites it.
use Rattle.std.specs.Prelude.{ℕ, ◌^◌, ◌<◌, ◌≤◌, List, [], ◌∷◌, slice_index_or}
use Rattle.frames.specs.Frames.{Field, wide}

-- how many bytes each field has
abbrev pub widths_of : List Field → List ℕ
widths_of [] = []
widths_of (f ∷ fs) = f.width ∷ widths_of fs

-- field j of a frame, from 0
abbrev pub field_at : List Field → ℕ → Field
field_at fields j = slice_index_or fields j (wide 0 0)

-- a value that its field can hold
pub record InField (f : Field) : Type 0 where
  pub narrow : f.width ≤ 8
  pub small : f.value < 256 ^ f.width
