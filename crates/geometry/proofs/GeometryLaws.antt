-- What row 4 leaves of a triangle's a and b: each is small, and so are the products, D, and all of them as floats.
use Rattle.std.proofs.Common.{◌≡◌, ◌^◌, ◌≤◌, true, false, ◌&&◌, ℤ, pos, ◌-ℤ◌, ◌*ℤ◌, nat_abs, sym, ap, ◌∙◌, subst, arith, to_z-of_z, w64, SFits, to_z, of_z, leb-true}
use lib.Ieee.{Float, binary64, of_int}
use Rattle.rows.proofs.ScanLaws.{both_left, both_right}
use Rattle.geometry.specs.declared.WholeSides.{WholeSides}
use Rattle.geometry.specs.Geometry.{near, all_near, D, near_d}
use Rattle.geometry.proofs.SizeLaws.{holds, size_minus, size_product}

pub record Near (s : WholeSides) : Type 0 where
  pub a1 : nat_abs s.a1 ≤ 100000
  pub a2 : nat_abs s.a2 ≤ 100000
  pub a3 : nat_abs s.a3 ≤ 100000
  pub b1 : nat_abs s.b1 ≤ 100000
  pub b2 : nat_abs s.b2 ≤ 100000
  pub b3 : nat_abs s.b3 ≤ 100000

pub near_all : (s : WholeSides) → all_near s ≡ true → Near s
unfolding all_near
near_all s e =
    let e5 = both_left (near s.a1 && near s.a2 && near s.a3 && near s.b1 && near s.b2) (near s.b3) e in
    let e4 = both_left (near s.a1 && near s.a2 && near s.a3 && near s.b1) (near s.b2) e5 in
    let e3 = both_left (near s.a1 && near s.a2 && near s.a3) (near s.b1) e4 in
    let e2 = both_left (near s.a1 && near s.a2) (near s.a3) e3 in
    record {
      a1 = leb-true _ 100000 (both_left (near s.a1) (near s.a2) e2);
      a2 = leb-true _ 100000 (both_right (near s.a1) (near s.a2) e2);
      a3 = leb-true _ 100000 (both_right (near s.a1 && near s.a2) (near s.a3) e3);
      b1 = leb-true _ 100000 (both_right (near s.a1 && near s.a2 && near s.a3) (near s.b1) e4);
      b2 = leb-true _ 100000 (both_right (near s.a1 && near s.a2 && near s.a3 && near s.b1) (near s.b2) e5);
      b3 = leb-true _ 100000 (both_right (near s.a1 && near s.a2 && near s.a3 && near s.b1 && near s.b2) (near s.b3) e);
    }

-- a number of at most 2·10^10 in size; a record, so that the number is read off the fact
pub record Small (v : ℤ) : Type 0 where
  pub size : nat_abs v ≤ 20000000000

-- everything that D is made of, and D: "so D is at most 2·10^10"
pub record AllSmall (s : WholeSides) : Type 0 where
  pub a1 : Small s.a1
  pub a2 : Small s.a2
  pub a3 : Small s.a3
  pub b1 : Small s.b1
  pub b2 : Small s.b2
  pub b3 : Small s.b3
  pub left : Small (s.a3 *ℤ s.b2)
  pub right : Small (s.a2 *ℤ s.b3)
  pub d : Small (D s)

pub all_small : (s : WholeSides) → all_near s ≡ true → AllSmall s
all_small s e =
    let n = near_all s e in
    let l : nat_abs (s.a3 *ℤ s.b2) ≤ 10000000000 = size_product 100000 100000 s.a3 s.b2 n.a3 n.b2 in
    let r : nat_abs (s.a2 *ℤ s.b3) ≤ 10000000000 = size_product 100000 100000 s.a2 s.b3 n.a2 n.b3 in
    record {
      a1 = record { size = omega (arith, n.a1) };
      a2 = record { size = omega (arith, n.a2) };
      a3 = record { size = omega (arith, n.a3) };
      b1 = record { size = omega (arith, n.b1) };
      b2 = record { size = omega (arith, n.b2) };
      b3 = record { size = omega (arith, n.b3) };
      left = record { size = omega arith };
      right = record { size = omega arith };
      d = record { size = omega (arith, size_minus (s.a3 *ℤ s.b2) (s.a2 *ℤ s.b3)) };
    }

module _ {v : ℤ} (h : Small v) where
  small_holds : SFits w64 v
  small_holds = holds w64 v (omega (arith, h.size))

  small_back : to_z w64 (of_z w64 v) ≡ v
  small_back = to_z-of_z {w = w64} {z = v} small_holds

  pub small_exact : nat_abs (to_z w64 (of_z w64 v)) ≤ 2 ^ 53
  small_exact = subst (λ (z : ℤ). nat_abs z ≤ 2 ^ 53) (sym small_back) (omega (arith, h.size))

  pub small_float : {r : Float} → r ≡ of_int binary64 (to_z w64 (of_z w64 v)) → r ≡ of_int binary64 v
  small_float e = e ∙ ap (of_int binary64) small_back

-- ---- what D needs in 64 bits
-- each number on the way fits, and the difference the other way round too: a D of the wrong sign is refused for its value, and not for its size
pub record Fit (s : WholeSides) : Type 0 where
  pub a2 : SFits w64 s.a2
  pub a3 : SFits w64 s.a3
  pub b2 : SFits w64 s.b2
  pub b3 : SFits w64 s.b3
  pub left : SFits w64 (s.a3 *ℤ s.b2)
  pub right : SFits w64 (s.a2 *ℤ s.b3)
  pub d : SFits w64 (D s)
  pub turned : SFits w64 (s.a2 *ℤ s.b3 -ℤ s.a3 *ℤ s.b2)

pub fit : (s : WholeSides) → all_near s ≡ true → Fit s
fit s e =
    let n = all_small s e in
    record {
      a2 = small_holds n.a2;
      a3 = small_holds n.a3;
      b2 = small_holds n.b2;
      b3 = small_holds n.b3;
      left = small_holds n.left;
      right = small_holds n.right;
      d = small_holds n.d;
      turned = holds w64 _ (omega (arith, size_minus (s.a2 *ℤ s.b3) (s.a3 *ℤ s.b2), n.left.size, n.right.size));
    }

-- ---- where row 4 accepts, D for any sides is the document's
pub near_d_lem : (s : WholeSides) → all_near s ≡ true → near_d s ≡ D s
unfolding near_d
near_d_lem s e = rw e

pub far_d : (s : WholeSides) → all_near s ≡ false → near_d s ≡ pos 0
unfolding near_d
far_d s e = rw e
