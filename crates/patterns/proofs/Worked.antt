-- The patterns of document 01, computed.
use mathlib.Core.Path.{◌≡◌, refl}
use mathlib.Core.Bool.{true}
use lib.IntN.{pos}
use lib.Ieee.{nan, fin, binary64, to_bits, of_bits}

-- "-0 saved as +0" is a fault we have met; a NaN has one pattern, and each of its patterns is read as it
minus_zero : to_bits binary64 (fin true 0 (pos 0)) ≡ 0x8000000000000000
unfolding to_bits
minus_zero = refl

one_nan : to_bits binary64 nan ≡ 0x7FF8000000000000
unfolding to_bits
one_nan = refl

each_nan : of_bits binary64 0xFFFFFFFFFFFFFFFF ≡ nan
unfolding of_bits
each_nan = refl
