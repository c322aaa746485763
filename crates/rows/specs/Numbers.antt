-- Document 01: what its limits and its refusals say of floats.
use Rattle.std.specs.Prelude.{ℕ, Bool, true, false, ◌&&◌, pos, Float}
use Rattle.std.specs.Float.{fin, binary64}
use Rattle.std.specs.Float.Ieee.{round, le}

abbrev pub plus0 : Float
plus0 = fin false 0 (pos 0)

-- "A range holds only if both comparisons are true, so a NaN is outside."
unfoldable pub within : Float → Float → Float → Bool
within low v high = le low v && le v high

-- "every limit written as a decimal is likewise the nearest binary64": n / d, and its negative
unfoldable pub decimal : ℕ → ℕ → Float
decimal n d = round binary64 false n d

unfoldable pub minus : ℕ → ℕ → Float
minus n d = round binary64 true n d

-- a size that is not "beyond" `most`
abbrev pub in_size : ℕ → Float → Bool
in_size most v = within (minus most 1) v (decimal most 1)
