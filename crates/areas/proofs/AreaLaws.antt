-- The sum of all D: what the code adds up is the mesh's sum where rows 1 to 5 accept the mesh, and 8 bytes hold it.
use Prim.Native.Nat.{ℕ, zero, suc, ◌+◌, ◌*◌, ◌^◌, ◌≤◌, ◌<◌}
use mathlib.Core.Path.{◌≡◌, refl, sym, ap, subst, ◌∙◌}
use mathlib.Core.Bool.{Bool, true, false, cond}
use mathlib.Core.List.{List}
use native.Mathlib.Nat.{le_refl}
use native.Mathlib.Omega.{arith}
use borrow.Author.Tests.{ltb-false, le-leb}
use lib.Dec.{T}
use lib.IntN.{ℤ, pos, negsuc, nat_abs}
use lib.Signed.{non_neg, lt_z}
use Rattle.geometry.specs.declared.WholeSides.{WholeSides}
use Rattle.geometry.specs.Geometry.{all_near, near_d}
use Rattle.geometry.proofs.GeometryLaws.{all_small, near_d_lem, far_d}
use Rattle.mesh.specs.Lent.{Mesh, E, corners}
use Rattle.mesh.specs.Geometry.{sides, area}
use Rattle.mesh.specs.Private.{Sound, Shaped}
use Rattle.areas.specs.Areas.{total, sum_d, above, counted, counted_sum}

-- ---- sums
pub total_none : (f : ℕ → ℕ) → total f 0 ≡ 0
unfolding total
total_none f = refl

pub total_more : (f : ℕ → ℕ) (n : ℕ) {s v : ℕ} → s ≡ total f n → v ≡ f n → s + v ≡ total f (n + 1)
unfolding total
total_more f n p q = let next : suc n ≡ n + 1 = omega arith in (λ i. p i + q i) ∙ ap (total f) next

total_same : (f g : ℕ → ℕ) (n : ℕ) → ((k : ℕ) → k < n → f k ≡ g k) → total f n ≡ total g n
unfolding total
total_same f g zero h = refl
total_same f g (suc n) h = λ i. total_same f g n (λ k l. h k (omega arith)) i + h n (le_refl (suc n)) i

-- each at most 2·10^10
total_small : (f : ℕ → ℕ) (n : ℕ) → ((k : ℕ) → k < n → f k ≤ 20000000000) → total f n ≤ n * 20000000000
unfolding total
total_small f zero h = le_refl 0
total_small f (suc n) h = omega (arith, total_small f n (λ k l. h k (omega arith)), h n (le_refl (suc n)))

-- ---- D as a count
pub count_above : (z : ℤ) → lt_z (pos 0) z ≡ true → T (non_neg z) × (nat_abs z ≡ above z)
count_above (pos n) e = (tt, refl)
count_above (negsuc n) e = absurd (subst T (sym e) tt)

pub count_none : (z : ℤ) → lt_z (pos 0) z ≡ false → 0 ≡ above z
count_none (pos zero) e = refl
count_none (pos (suc n)) e = absurd (omega (arith, ltb-false 0 (suc n) e))
count_none (negsuc n) e = refl

above_size : (z : ℤ) → above z ≤ nat_abs z
above_size (pos n) = le_refl n
above_size (negsuc n) = omega arith

pub near_size : (s : WholeSides) → nat_abs (near_d s) ≤ 20000000000
near_size s = go (all_near s) refl
  where
    go : (b : Bool) → all_near s ≡ b → nat_abs (near_d s) ≤ 20000000000
    go true e = rw (near_d_lem s e) (all_small s e).d.size
    go false e = rw (far_d s e) (omega arith)

module _ (x y : List ℤ) (tri : List ℕ) where
  pub counted_small : (t : ℕ) {v : ℕ} → v ≡ counted x y tri t → v ≤ 20000000000
  unfolding counted
  counted_small t e = let s = sides x y (corners tri t) in omega (arith, e, above_size (near_d s), near_size s)

  pub counts_small : (n : ℕ) {v : ℕ} → v ≡ total (counted x y tri) n → v ≤ n * 20000000000
  counts_small n e = omega (arith, e, total_small (counted x y tri) n (λ t h. counted_small t refl))

  -- where rows 4 and 5 accept a triangle, it counts with its D
  counted_sound : (t : ℕ) → Sound x y tri t → counted x y tri t ≡ area x y tri t
  unfolding counted
  counted_sound t s = ap above (near_d_lem _ s.small ∙ s.turns)

-- ---- the mesh's sum
pub all_counted : (m : Mesh) → Shaped m → counted_sum m.x m.y m.tri ≡ sum_d m
unfolding counted_sum sum_d
all_counted m s =
    ap (λ (b : Bool). total (counted m.x m.y m.tri) (cond b (E m) 8192)) (le-leb (E m) 8192 s.sized.most_triangles)
    ∙ total_same _ _ (E m) (λ t h. counted_sound _ _ _ t (s.triangles t h))

pub sum_small : (m : Mesh) → Shaped m → sum_d m < 256 ^ 8
unfolding sum_d
sum_small m s = omega (arith, total_small (area m.x m.y m.tri) (E m) (λ t h. (s.triangles t h).most), s.sized.most_triangles)
