-- The size of a whole number settles each range that a signed value has to meet: a bound on `nat_abs`, which omega reads.
use Rattle.std.proofs.Common.{◌≡◌, ℕ, zero, suc, ◌+◌, ◌-◌, ◌*◌, ◌^◌, ◌<◌, ◌≤◌, Bool, true, false, cond, ◌&&◌, T, ltb, leb, ℤ, pos, negsuc, ◌+ℤ◌, ◌-ℤ◌, ◌*ℤ◌, neg_ℤ, nat_abs, sym, refl, ◌∙◌, subst, le_refl, lt_of_le_of_lt, mul-le-mul, arith, le→leb, lt→ltb, to_z-of_z, w32, w64, SFits, to_z, of_z, ltb-true}
use lib.Dec.{leb-suc-suc}
use lib.IntN.{sub_ℕ}
use lib.Signed.{mag, le_z}
use lib.Ieee.{binary64, in_float, of_int}
use lib.Ieee.Back.{round_whole}
use mir.Syntax.{Width}
use mir.Val.{hbits}
use mir.Facts.{sfits_widen}
use Rattle.geometry.specs.Geometry.{Lossless}

-- ---- what a width holds
mag_le : (z : ℤ) → mag z ≤ nat_abs z
mag_le (pos n) = omega arith
mag_le (negsuc n) = omega arith

pub holds : (w : Width) (z : ℤ) → nat_abs z < 2 ^ hbits w → SFits w z
holds w z h = record { sfits = lt_of_le_of_lt (mag_le z) h }

held_size : (w : Width) (z : ℤ) → SFits w z → nat_abs z ≤ 2 ^ hbits w
held_size w (pos n) h = let k = h.sfits in omega arith
held_size w (negsuc n) h = h.sfits

-- ---- sums and products
size_neg : (z : ℤ) → nat_abs (neg_ℤ z) ≡ nat_abs z
size_neg (pos zero) = refl
size_neg (pos (suc n)) = refl
size_neg (negsuc n) = refl

size_sub : (a b : ℕ) → nat_abs (sub_ℕ a b) ≤ a + b
size_sub a b = go (ltb a b) refl
  where
    go : (c : Bool) → ltb a b ≡ c → nat_abs (cond c (negsuc (b - suc a)) (pos (a - b))) ≤ a + b
    go true e = omega (arith, ltb-true a b e)
    go false e = omega arith

size_plus : (a b : ℤ) → nat_abs (a +ℤ b) ≤ nat_abs a + nat_abs b
size_plus (pos a) (pos b) = le_refl (a + b)
size_plus (pos a) (negsuc b) = size_sub a (suc b)
size_plus (negsuc a) (pos b) = omega (arith, size_sub b (suc a))
size_plus (negsuc a) (negsuc b) = omega arith

pub size_minus : (a b : ℤ) → nat_abs (a -ℤ b) ≤ nat_abs a + nat_abs b
size_minus a b = subst (λ (n : ℕ). nat_abs (a -ℤ b) ≤ nat_abs a + n) (size_neg b) (size_plus a (neg_ℤ b))

size_times : (a b : ℤ) → nat_abs (a *ℤ b) ≡ nat_abs a * nat_abs b
size_times (pos a) (pos b) = refl
size_times (pos a) (negsuc b) = size_neg (pos (a * suc b))
size_times (negsuc a) (pos b) = size_neg (pos (suc a * b))
size_times (negsuc a) (negsuc b) = refl

pub size_product : (m n : ℕ) (a b : ℤ) → nat_abs a ≤ m → nat_abs b ≤ n → nat_abs (a *ℤ b) ≤ m * n
size_product m n a b h k = subst (λ (x : ℕ). x ≤ m * n) (sym (size_times a b)) (mul-le-mul h k)

-- ---- the two comparisons that test a size
pub size_test : (n : ℕ) (z : ℤ) → (le_z (neg_ℤ (pos (suc n))) z && le_z z (pos (suc n))) ≡ leb (nat_abs z) (suc n)
size_test n (pos a) = refl
size_test n (negsuc a) = go (leb a n) refl
  where
    go : (c : Bool) → leb a n ≡ c → (c && true) ≡ leb (suc a) (suc n)
    go true e = sym (leb-suc-suc a n ∙ e)
    go false e = sym (leb-suc-suc a n ∙ e)

-- ---- two 32-bit numbers and their difference, in 64 bits
pub record Gap (x y : ℤ) : Type 0 where
  pub x32 : SFits w32 x
  pub y32 : SFits w32 y
  pub x64 : SFits w64 x
  pub y64 : SFits w64 y
  pub d64 : SFits w64 (x -ℤ y)

pub gap_fits : (x y : ℤ) → SFits w32 x → SFits w32 y → Gap x y
gap_fits x y fx fy = record {
  x32 = fx;
  y32 = fy;
  x64 = sfits_widen tt fx;
  y64 = sfits_widen tt fy;
  d64 = holds w64 (x -ℤ y) (omega (arith, size_minus x y, held_size w32 x fx, held_size w32 y fy));
}

-- ---- a value that a call handed on as bits, and as 64 of them
pub kept_as : (w : Width) {r z : ℤ} → SFits w r → r ≡ z → to_z w (of_z w r) ≡ z
kept_as w fits e = to_z-of_z {w = w} fits ∙ e

pub kept : {r z : ℤ} → mag r < 2 ^ 63 → r ≡ z → to_z w64 (of_z w64 r) ≡ z
kept ok e = kept_as w64 (record { sfits = ok }) e

-- ---- a whole number of at most 2^53 is a float without loss
pub in_float_lem : (z : ℤ) → nat_abs z ≤ 2 ^ 53 → T (in_float binary64 z)
unfolding in_float
in_float_lem (pos n) h = le→leb n (2 ^ 53) h
in_float_lem (negsuc n) h = lt→ltb n (2 ^ 53) h

pub lossless : (z : ℤ) → nat_abs z ≤ 2 ^ 53 → Lossless z
unfolding of_int
lossless (pos n) h = round_whole binary64 false n h
lossless (negsuc n) h = round_whole binary64 true (suc n) h

-- ---- a difference of two 32-bit fields, as a call was handed them and handed it on
pub gap_kept : {r : ℤ} (x y : ℤ) → mag r < 2 ^ 63 → mag x < 2 ^ 31 → mag y < 2 ^ 31 → r ≡ to_z w32 (of_z w32 x) -ℤ to_z w32 (of_z w32 y)
    → to_z w64 (of_z w64 r) ≡ x -ℤ y
gap_kept x y ok fx fy e =
    kept ok (e ∙ (λ i. to_z-of_z {w = w32} {z = x} (record { sfits = fx }) i -ℤ to_z-of_z {w = w32} {z = y} (record { sfits = fy }) i))
