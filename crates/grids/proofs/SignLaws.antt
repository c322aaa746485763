-- A sign and a size as a whole number: how large it is, and that 32 and 64 bits and a float hold it.
use Rattle.std.proofs.Common.{◌≡◌, ℕ, zero, suc, ◌^◌, ◌≤◌, Bool, true, false, T, ℤ, pos, ◌-ℤ◌, neg_ℤ, nat_abs, sym, refl, ap, ◌∙◌, arith, to_z-of_z, w32, w64, SFits, to_z, of_z, leb-true}
use lib.IntN.{+ℤ_idl}
use lib.Ieee.{binary64, in_float}
use mir.Facts.{to_z_pos}
use Rattle.geometry.proofs.SizeLaws.{holds, in_float_lem}
use Rattle.grids.specs.Numbers.{signed, in32}
use Rattle.grids.proofs.RowLaws.{in_32}

size_signed : (m : Bool) (v : ℕ) → nat_abs (signed m v) ≡ v
size_signed false v = refl
size_signed true zero = refl
size_signed true (suc v) = refl

-- ---- 64 bits
module _ (v : ℕ) (small : v ≤ 2 ^ 53) where
  as_64 : to_z w64 v ≡ pos v
  as_64 = to_z_pos w64 (omega arith)

  signed_64 : (m : Bool) → SFits w64 (signed m v)
  signed_64 m = holds w64 (signed m v) (omega (arith, size_signed m v))

  negated : pos 0 -ℤ to_z w64 v ≡ signed true v
  negated = ap (λ (z : ℤ). pos 0 -ℤ z) as_64 ∙ +ℤ_idl (neg_ℤ (pos v))

  pub negated_fits : SFits w64 (pos 0 -ℤ to_z w64 v)
  negated_fits = rw negated (signed_64 true)

  pub made_minus : {m : Bool} → m ≡ true → to_z w64 (of_z w64 (pos 0 -ℤ to_z w64 v)) ≡ signed m v
  made_minus e = to_z-of_z {w = w64} negated_fits ∙ negated ∙ ap (λ (b : Bool). signed b v) (sym e)

  pub made_plus : {m : Bool} → m ≡ false → to_z w64 v ≡ signed m v
  made_plus e = as_64 ∙ ap (λ (b : Bool). signed b v) (sym e)

  -- what a call handed on, in 64 bits
  pub handed : {r : ℤ} (m : Bool) → r ≡ signed m v → to_z w64 (of_z w64 r) ≡ signed m v
  handed m e = ap (λ (z : ℤ). to_z w64 (of_z w64 z)) e ∙ to_z-of_z {w = w64} (signed_64 m)

  pub signed_float : (m : Bool) → T (in_float binary64 (signed m v))
  signed_float m = in_float_lem (signed m v) (omega (arith, size_signed m v))

-- ---- 32 bits
pub size_32 : (m : Bool) (v : ℕ) → in32 (signed m v) ≡ true → v ≤ 2147483648
size_32 false v e = omega (arith, leb-true v 2147483647 (in_32 false v ∙ e))
size_32 true v e = leb-true v 2147483648 (in_32 true v ∙ e)

pub signed_32 : (m : Bool) (v : ℕ) → in32 (signed m v) ≡ true → SFits w32 (signed m v)
signed_32 false v e = record { sfits = omega (arith, leb-true v 2147483647 (in_32 false v ∙ e)) }
signed_32 true zero e = record { sfits = omega arith }
signed_32 true (suc v) e = record { sfits = omega (arith, size_32 true (suc v) e) }

pub handed_32 : {r : ℤ} (m : Bool) (v : ℕ) → in32 (signed m v) ≡ true → r ≡ signed m v → to_z w32 (of_z w32 r) ≡ signed m v
handed_32 m v e is = ap (λ (z : ℤ). to_z w32 (of_z w32 z)) is ∙ to_z-of_z {w = w32} (signed_32 m v e)
