-- The frames' worked examples of document 01, computed.
use Rattle.std.proofs.Common.{◌≡◌, [], ◌∷◌, refl, lit<, lit≤}
use Rattle.frames.specs.Frames.{Frame, wide, text, digits_of}
use Rattle.frames.specs.Private.{widths_of}
use Rattle.frames.specs.Reading.{value}
use Rattle.frames.proofs.BackLaws.{field_back}

-- the head of mesh T when cold
unfoldable head_t : Frame
head_t = record { kind = 1; sequence = 0; fields = wide 2 3 ∷ wide 2 1 ∷ wide 4 0 ∷ wide 8 0 ∷ wide 8 0 ∷ [] }

-- it has "56 digits", and its E is read back
head_digits : digits_of (widths_of head_t.fields) ≡ 56
unfolding head_t
head_digits = refl

head_back : value (text head_t) 5 2 ≡ 1
unfolding head_t
head_back = field_back head_t 1 (lit< tt) (record { narrow = lit≤ tt; small = lit< tt })
