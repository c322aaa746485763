-- Patterns and the values that they are of.
use Prim.Native.Nat.{ℕ, ◌*◌, ◌^◌, ◌<◌}
use mathlib.Core.Path.{◌≡◌, refl}
use mathlib.Core.Bool.{Bool, true, false, not, beq}
use borrow.Author.Tests.{eq-eqb}
use lib.Dec.{T}
use lib.Ieee.{Float, nan, inf, fin, binary64, div, eq, ne, is_nan, fits, of_bits, to_bits, up, down}
use lib.Ieee.Bits.{of_bits-to_bits, to_bits-of_bits, to_bits-lt}

-- ---- the round trip: a pattern takes 8 bytes, a value comes back, and so does every pattern but a NaN's
pub pattern_fits : (x : Float) → T (fits binary64 x) → to_bits binary64 x < 256 ^ 8
pattern_fits x h = to_bits-lt binary64 x h

pub float_back : (x : Float) → T (fits binary64 x) → of_bits binary64 (to_bits binary64 x) ≡ x
float_back x h = of_bits-to_bits binary64 x h

pub pattern_back : (p : ℕ) → p < 256 ^ 8 → T (not (is_nan (of_bits binary64 p))) → to_bits binary64 (of_bits binary64 p) ≡ p
pattern_back p l h = to_bits-of_bits binary64 p l h

-- ---- NaN
pub nan_made : div binary64 (of_bits binary64 0) (of_bits binary64 0) ≡ nan
unfolding div of_bits
nan_made = refl

pub only_nan : (x : Float) → is_nan x ≡ true → x ≡ nan
unfolding is_nan
only_nan nan h = refl
only_nan (inf s) h = cc h
only_nan (fin s m e) h = cc h

same_sign : (s : Bool) → beq s s ≡ true
same_sign true = refl
same_sign false = refl

-- only a NaN differs from itself
pub ne_self : (x : Float) → ne x x ≡ is_nan x
unfolding ne eq is_nan
ne_self nan = refl
ne_self (inf s) = simp same_sign
ne_self (fin s m e) = simp (same_sign, eq-eqb (m * up e * down e) (m * up e * down e) refl)
