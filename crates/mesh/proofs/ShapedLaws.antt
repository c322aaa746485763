-- Where the mesh's rows accept, the mesh is as `Shaped` says, and so is what the call asked before.
use Prim.Native.Nat.{ℕ, zero, suc, ◌/◌, ◌%◌, ◌<◌}
use mathlib.Core.Path.{◌≡◌, refl, sym, subst}
use mathlib.Core.Bool.{Bool, true, false, ◌&&◌}
use mathlib.Core.List.{List}
use native.Mathlib.Nat.{div-add-mod}
use native.Mathlib.Omega.{arith}
use borrow.Author.Tests.{leb-true, eqb-true}
use lib.Dec.{T, leb, eqb}
use lib.IntN.{ℤ, pos, negsuc, nat_abs}
use lib.Signed.{lt_z}
use lib.ListN.{length, get_or}
use Rattle.rows.specs.declared.Answer.{Answer}
use Rattle.lists.specs.Private.{Below}
use Rattle.rows.specs.Scan.{◌then◌}
use Rattle.rows.proofs.ScanLaws.{row_passed, then_first, then_rest, scan_clean, both_left, both_right}
use Rattle.geometry.specs.Geometry.{D, all_near}
use Rattle.geometry.proofs.GeometryLaws.{all_small}
use Rattle.mesh.specs.Lent.{Mesh, N, E, corner, corners}
use Rattle.mesh.specs.Geometry.{sides, area}
use Rattle.mesh.specs.Rows.{all_below, row1, row2, row3, row4, row5, triangle_rows, shape_rows}
use Rattle.mesh.specs.Private.{Sized, Sound, Shaped}
use Rattle.mesh.proofs.RowLaws.{below_all}

-- ---- rows 1 and 2
four : (a b c d : Bool) → (a && b && c && d) ≡ true → ((a ≡ true) × (b ≡ true)) × ((c ≡ true) × (d ≡ true))
four a b c d e =
    let abc = both_left (a && b && c) d e in
    let ab = both_left (a && b) c abc in
    ((both_left a b ab, both_right a b ab), (both_right (a && b) c abc, both_right (a && b && c) d e))

sized : (m : Mesh) → (row1 m).number ≡ 0 → (row2 m).number ≡ 0 → Sized m
unfolding row1 row2
sized m e f =
    let l = four (eqb (length m.y) (N m)) (eqb (length m.h) (N m)) (eqb (length m.kind) (N m)) (eqb (length m.tri % 3) 0) (row_passed _ 0 0 e) in
    let c = four (leb 3 (N m)) (leb (N m) 4096) (leb 1 (E m)) (leb (E m) 8192) (row_passed _ 1 0 f) in
    record {
      y = eqb-true _ _ l.0.0;
      h = eqb-true _ _ l.0.1;
      kind = eqb-true _ _ l.1.0;
      tri = let thirds : length m.tri % 3 ≡ 0 = eqb-true _ _ l.1.1 in omega (arith, thirds);
      most_nodes = leb-true _ 4096 c.0.1;
      most_triangles = leb-true _ 8192 c.1.1;
    }

-- ---- rows 3 to 5
above_zero : (z : ℤ) → lt_z (pos 0) z ≡ true → z ≡ pos (nat_abs z)
above_zero (pos n) e = refl
above_zero (negsuc n) e = absurd (differ e)
  where
    differ : false ≡ true → ⊥
    differ q = subst T (sym q) tt

module _ (x y : List ℤ) (tri : List ℕ) (t : ℕ) (e : (triangle_rows x y tri t).number ≡ 0) where
  passed_3 : all_below (corners tri t) (length x) ≡ true
  unfolding triangle_rows row3
  passed_3 = row_passed _ 2 t (then_first _ _ e)

  passed_4 : all_near (sides x y (corners tri t)) ≡ true
  unfolding triangle_rows row4
  passed_4 = row_passed _ 3 t (then_first _ _ (then_rest _ _ e))

  passed_5 : lt_z (pos 0) (D (sides x y (corners tri t))) ≡ true
  unfolding triangle_rows row5
  passed_5 = row_passed _ 4 t (then_rest _ _ (then_rest _ _ e))

  pub sound : Sound x y tri t
  unfolding area
  sound =
      record {
        nodes = below_all _ _ passed_3;
        small = passed_4;
        turns = above_zero (D (sides x y (corners tri t))) passed_5;
        most = (all_small _ passed_4).d.size;
      }

-- each number of the triangle list is a node, where each triangle's corners are
pub numbers_below : (m : Mesh) → Shaped m → (j : ℕ) → j < length m.tri → get_or m.tri j 0 < N m
numbers_below m s j h =
    subst (λ (k : ℕ). get_or m.tri k 0 < N m) (omega (arith, div-add-mod j 3)) (corner_below (j % 3) (omega arith))
  where
    its : Below (corners m.tri (j / 3)) (N m)
    its = (s.triangles (j / 3) (omega (arith, s.sized.tri))).nodes

    corner_below : (r : ℕ) → r < 3 → corner m.tri (j / 3) r < N m
    corner_below zero l = its.first
    corner_below (suc zero) l = its.second
    corner_below (suc (suc zero)) l = its.third
    corner_below (suc (suc (suc r))) l = absurd (omega arith)

-- ---- the rows in order
module _ (asked : Answer) (m : Mesh) where
  pub lent_sized : (asked then row1 m then row2 m).number ≡ 0 → Sized m
  lent_sized e = let rest = then_rest asked _ e in sized m (then_first _ _ rest) (then_rest _ _ rest)

  module _ (e : (shape_rows asked m).number ≡ 0) where
    pub shaped_asked : asked.number ≡ 0
    unfolding shape_rows
    shaped_asked = then_first _ _ e

    pub shaped : Shaped m
    unfolding shape_rows
    shaped =
        let e1 = then_rest _ _ e in
        let e2 = then_rest _ _ e1 in
        record {
          sized = sized m (then_first _ _ e1) (then_first _ _ e2);
          triangles = λ t h. sound m.x m.y m.tri t (scan_clean _ _ (then_rest _ _ e2) t h);
        }
