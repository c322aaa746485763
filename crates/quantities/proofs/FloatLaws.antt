-- Laws on floats: what is finite, what becomes of +0 and -0 in the operations, what is above zero. Each holds of every float of the logic, a binary64 or not.
use Prim.Native.Nat.{ℕ, ◌*◌, ◌<◌}
use mathlib.Core.Path.{◌≡◌, refl, sym, subst}
use mathlib.Core.Bool.{Bool, true, false}
use mathlib.Core.Logic.{inl, inr}
use native.Mathlib.Nat.{mul-zero, zero-mul, zero-lt-suc, mul-pos}
use native.Mathlib.Omega.{arith}
use borrow.Author.Tests.{ne_eqb}
use lib.Dec.{T, ltb→lt}
use lib.IntN.{pos}
use lib.Ieee.{Float, nan, inf, fin, binary64, up, down, unlike, round, add, sub, neg, mul, div, le}
use lib.Ieee.Fits.{up_pos, down_pos}
use lib.Ieee.Scale.{finite, round_same}
use lib.Ieee.Positive.{positive, above, positive-finite, between, above_of_le, mul_mono}
use Rattle.rows.specs.Numbers.{within, decimal}
use Rattle.rows.proofs.ScanLaws.{both_left, both_right}
use Rattle.quantities.specs.Operations.{◌⊖◌, ◌⊗◌, ◌⊘◌}
use Rattle.quantities.specs.Constants.{tenth, one, two, IsZero}

-- ---- a number in a range above zero is finite
pub within_finite : (low x high : Float) → T (positive low) → T (positive high) → within low x high ≡ true → T (finite x)
unfolding within
within_finite low x high l h e =
    let from : T (le low x) = subst T (sym (both_left (le low x) (le x high) e)) tt in
    let to : T (le x high) = subst T (sym (both_right (le low x) (le x high) e)) tt in
    positive-finite x (between low x high l h from to)

-- ---- zeros
-- a zero is one of the two
zero_of : (s : Bool) → IsZero (fin s 0 (pos 0))
zero_of false = inl refl
zero_of true = inr refl

by_sign : (P : Float → Type 0) → ((s : Bool) → P (fin s 0 (pos 0))) → (x : Float) → IsZero x → P x
by_sign P h x (inl e) = subst P (sym e) (h false)
by_sign P h x (inr e) = subst P (sym e) (h true)

-- 0 / d is rounded to a zero
round_zero : (s : Bool) (n d : ℕ) → n ≡ 0 → 0 < d → IsZero (round binary64 s n d)
unfolding round
round_zero s n d e h = rw e (subst IsZero (sym (round_same binary64 s 0 d 0 1 h (zero-lt-suc 0) (sym (zero-mul d)))) (zero_of s))

-- a finite number times a zero
pub times_zero : (x y : Float) → T (finite x) → IsZero y → IsZero (x ⊗ y)
unfolding mul
times_zero nan y h z = absurd h
times_zero (inf s) y h z = absurd h
times_zero (fin s m e) y h z =
    by_sign (λ (y : Float). IsZero (fin s m e ⊗ y))
    (λ t. round_zero (unlike s t) (m * up e * 0) (down e * 1) (mul-zero (m * up e)) (mul-pos (down_pos e) (zero-lt-suc 0)))
    y z

-- a zero over what is above zero
pub zero_over : (x y : Float) → IsZero x → T (above y) → IsZero (x ⊘ y)
unfolding div
zero_over x nan z h = absurd h
zero_over x (inf t) z h = by_sign (λ (x : Float). IsZero (x ⊘ inf t)) (λ s. zero_of (unlike s t)) x z
zero_over x (fin true n d) z h = absurd h
zero_over x (fin false n d) z h =
    let above : 0 < n = ltb→lt 0 n h in
    by_sign (λ (x : Float). IsZero (x ⊘ fin false n d))
    (λ s. rw (ne_eqb n 0 (λ q. omega (arith, q, above)))
    (round_zero (unlike s false) (0 * down d) (n * up d * 1) (zero-mul (down d)) (mul-pos (mul-pos above (up_pos d)) (zero-lt-suc 0))))
    x z

-- one minus a zero
one_minus : (s : Bool) → one ⊖ fin s 0 (pos 0) ≡ one
unfolding decimal round sub add neg
one_minus false = refl
one_minus true = refl

pub one_minus_zero : (x : Float) → IsZero x → one ⊖ x ≡ one
one_minus_zero = by_sign (λ (x : Float). one ⊖ x ≡ one) one_minus

-- ---- twice a number from 0.1 on is above zero, be it an infinity
positives : T (positive two) × T (positive tenth)
unfolding decimal round
positives = (tt, tt)

two_reaches : T (le two two)
unfolding decimal round le
two_reaches = tt

fifth_positive : T (positive (two ⊗ tenth))
unfolding decimal round mul
fifth_positive = tt

twice_infinite : T (above (two ⊗ inf false))
unfolding decimal round mul
twice_infinite = tt

twice_from : (y : Float) → T (above y) → T (le tenth y) → T (above (two ⊗ y))
twice_from nan a h = absurd a
twice_from (inf true) a h = absurd a
twice_from (inf false) a h = twice_infinite
twice_from (fin true n d) a h = absurd a
twice_from (fin false n d) a h =
    above_of_le (two ⊗ tenth) (two ⊗ fin false n d) fifth_positive
    (mul_mono binary64 two two tenth (fin false n d) positives.0 positives.0 positives.1 a two_reaches h)

pub twice_above : (y : Float) → le tenth y ≡ true → T (above (two ⊗ y))
twice_above y e = let h = subst T (sym e) tt in twice_from y (above_of_le tenth y positives.1 h) h
