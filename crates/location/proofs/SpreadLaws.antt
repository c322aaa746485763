-- The sizes of the sub-areas: with a 32-bit point for corner 2 or 3 each product has a side of the triangle in it, and 64 bits hold every number on the way.
use Rattle.std.proofs.Common.{◌≡◌, ℕ, ◌*◌, ◌^◌, ◌<◌, ◌≤◌, true, ℤ, ◌-ℤ◌, ◌*ℤ◌, nat_abs, ◌∙◌, lt_of_le_of_lt, arith, to_z-of_z, w64, SFits, to_z, of_z}
use lib.Signed.{mag, nat_abs-le}
use Rattle.geometry.specs.declared.Places.{Places}
use Rattle.geometry.specs.declared.WholeSides.{WholeSides}
use Rattle.geometry.specs.Geometry.{all_near, sides_at, D}
use Rattle.geometry.proofs.SizeLaws.{holds, size_minus, size_product}
use Rattle.geometry.proofs.GeometryLaws.{Fit, near_all}
use Rattle.location.specs.declared.seeking.Point.{Point}
use Rattle.location.specs.Private.{Short, for_second, for_third}

-- ---- what D needs in 64 bits
pub fitted : (s : WholeSides) → Short s → mag s.a2 < 2 ^ 63 → mag s.a3 < 2 ^ 63 → mag s.b2 < 2 ^ 63 → mag s.b3 < 2 ^ 63 → Fit s
fitted s h a2 a3 b2 b3 =
    let l = s.a3 *ℤ s.b2 in
    let r = s.a2 *ℤ s.b3 in
    record {
      a2 = record { sfits = a2 };
      a3 = record { sfits = a3 };
      b2 = record { sfits = b2 };
      b3 = record { sfits = b3 };
      left = holds w64 l (omega (arith, h.left));
      right = holds w64 r (omega (arith, h.right));
      d = holds w64 (l -ℤ r) (omega (arith, size_minus l r, h.left, h.right));
      turned = holds w64 (r -ℤ l) (omega (arith, size_minus r l, h.left, h.right));
    }

short_size : (s : WholeSides) → Short s → nat_abs (D s) < 2 ^ 61
short_size s h = omega (arith, size_minus (s.a3 *ℤ s.b2) (s.a2 *ℤ s.b3), h.left, h.right)

-- ---- a difference of 32-bit numbers, and its product with a side of the triangle
apart : (x y : ℤ) → mag x < 2 ^ 31 → mag y < 2 ^ 31 → nat_abs (x -ℤ y) ≤ 2 ^ 32
apart x y h k = omega (arith, size_minus x y, nat_abs-le x h, nat_abs-le y k)

small_product : (m n : ℕ) (a b : ℤ) → m * n < 2 ^ 60 → nat_abs a ≤ m → nat_abs b ≤ n → nat_abs (a *ℤ b) < 2 ^ 60
small_product m n a b l h k = lt_of_le_of_lt (size_product m n a b h k) l

-- what is known of the corners and the point: corner 1 and the point are 32-bit numbers
pub record Placed (c : Places) (p : Point) : Type 0 where
  pub near : all_near (sides_at c) ≡ true
  pub x1 : mag c.x1 < 2 ^ 31
  pub y1 : mag c.y1 < 2 ^ 31
  pub x : mag p.x < 2 ^ 31
  pub y : mag p.y < 2 ^ 31

module _ (c : Places) (p : Point) (h : Placed c p) where
  pub second_short : Short (sides_at (for_second c p))
  unfolding sides_at
  second_short =
      let n = near_all (sides_at c) h.near in
      record {
        left = small_product (2 ^ 32) 100000 (p.x -ℤ c.x1) (c.y3 -ℤ c.y1) (omega arith) (apart p.x c.x1 h.x h.x1) n.b2;
        right = small_product 100000 (2 ^ 32) (c.x1 -ℤ c.x3) (c.y1 -ℤ p.y) (omega arith) n.a2 (apart c.y1 p.y h.y1 h.y);
      }

  pub third_short : Short (sides_at (for_third c p))
  unfolding sides_at
  third_short =
      let n = near_all (sides_at c) h.near in
      record {
        left = small_product 100000 (2 ^ 32) (c.x2 -ℤ c.x1) (p.y -ℤ c.y1) (omega arith) n.a3 (apart p.y c.y1 h.y h.y1);
        right = small_product (2 ^ 32) 100000 (c.x1 -ℤ p.x) (c.y1 -ℤ c.y2) (omega arith) (apart c.x1 p.x h.x1 h.x) n.b3;
      }

  pub own_short : Short (sides_at c)
  own_short =
      let s = sides_at c in
      let n = near_all s h.near in
      record {
        left = small_product 100000 100000 s.a3 s.b2 (omega arith) n.a3 n.b2;
        right = small_product 100000 100000 s.a2 s.b3 (omega arith) n.a2 n.b3;
      }

-- ---- what two sub-areas leave of D, as the code has it: each number as it was handed on as bits
module _ (d s t : WholeSides) (hd : Short d) (hs : Short s) (ht : Short t) where
  once : SFits w64 (D d -ℤ D s)
  once = holds w64 _ (omega (arith, size_minus (D d) (D s), short_size d hd, short_size s hs))

  twice : SFits w64 (D d -ℤ D s -ℤ D t)
  twice =
      holds w64 _
      (omega (arith, size_minus (D d -ℤ D s) (D t), size_minus (D d) (D s), short_size d hd, short_size s hs, short_size t ht))

  module _ {u v w : ℤ} (a : u ≡ D d) (b : v ≡ D s) (c : w ≡ D t) where
    pub once_fits : SFits w64 (u -ℤ v)
    once_fits = rw (a, b) once

    once_kept : to_z w64 (of_z w64 (u -ℤ v)) ≡ D d -ℤ D s
    once_kept = to_z-of_z {w = w64} once_fits ∙ (λ i. a i -ℤ b i)

    pub twice_fits : SFits w64 (to_z w64 (of_z w64 (u -ℤ v)) -ℤ w)
    twice_fits = rw (once_kept, c) twice

    pub left_kept : to_z w64 (of_z w64 (to_z w64 (of_z w64 (u -ℤ v)) -ℤ w)) ≡ D d -ℤ D s -ℤ D t
    left_kept = to_z-of_z {w = w64} twice_fits ∙ (λ i. once_kept i -ℤ c i)
