-- The sub-areas of a point in a triangle that contains it: natural numbers, which add up to a D above 0 and of at most 2·10^10.
use Rattle.std.proofs.Common.{◌≡◌, ℕ, ◌+◌, ◌<◌, ◌≤◌, true, ◌&&◌, T, List, ℤ, pos, negsuc, ◌+ℤ◌, nat_abs, sym, refl, ap, ◌∙◌, subst, ltb-true}
use lib.Signed.{le_z, lt_z}
use lib.Ieee.{Float}
use Rattle.rows.specs.declared.Answer.{Answer}
use Rattle.rows.proofs.ScanLaws.{row_passed, then_first, then_rest, scan_clean, both_left, both_right}
use Rattle.quantities.specs.declared.Parameters.{Parameters}
use Rattle.geometry.specs.Geometry.{D}
use Rattle.mesh.specs.Lent.{Mesh, E, corners}
use Rattle.mesh.specs.Geometry.{sides, area}
use Rattle.mesh.specs.Rows.{row5, triangle_rows, shape_rows}
use Rattle.mesh.specs.Private.{Sound}
use Rattle.nodes.proofs.PartLaws.{mesh_parts}
use Rattle.bounds.specs.State.{run_rows}
use Rattle.bounds.proofs.StateLaws.{accepted_run}
use Rattle.location.specs.declared.seeking.Point.{Point}
use Rattle.location.specs.declared.seeking.Weights.{Weights}
use Rattle.location.specs.Location.{weights, none_negative, weights_at, contains}
use Rattle.location.proofs.WeightLaws.{weights_sum}

pub record Inside (w : Weights) : Type 0 where
  pub u1 : ℕ
  pub u2 : ℕ
  pub u3 : ℕ
  pub d : ℕ
  pub first : w.w1 ≡ pos u1
  pub second : w.w2 ≡ pos u2
  pub third : w.w3 ≡ pos u3
  pub whole : w.d ≡ pos d
  pub sum : u1 + u2 + u3 ≡ d
  pub above : 0 < d
  pub most : d ≤ 20000000000

-- ---- not negative
counted : (z : ℤ) → le_z (pos 0) z ≡ true → z ≡ pos (nat_abs z)
counted (pos n) e = refl
counted (negsuc n) e = absurd (subst T (sym e) tt)

record AllCounted (w : Weights) : Type 0 where
  first : w.w1 ≡ pos (nat_abs w.w1)
  second : w.w2 ≡ pos (nat_abs w.w2)
  third : w.w3 ≡ pos (nat_abs w.w3)

all_counted : (w : Weights) → none_negative w ≡ true → AllCounted w
unfolding none_negative
all_counted w e =
    let a = le_z (pos 0) w.w1 in
    let b = le_z (pos 0) w.w2 in
    let c = le_z (pos 0) w.w3 in
    let two = both_left (a && b) c e in
    record {
      first = counted w.w1 (both_left a b two);
      second = counted w.w2 (both_right a b two);
      third = counted w.w3 (both_right (a && b) c e);
    }

-- ---- a triangle that contains the point
module _ (x y : List ℤ) (tri : List ℕ) (p : Point) (t : ℕ) where
  its_d : (weights_at x y tri p t).d ≡ D (sides x y (corners tri t))
  unfolding weights_at weights sides
  its_d = refl

  its_sum : (weights_at x y tri p t).w1 +ℤ (weights_at x y tri p t).w2 +ℤ (weights_at x y tri p t).w3 ≡ (weights_at x y tri p t).d
  unfolding weights_at
  its_sum = weights_sum _ _ p

  pub inside_weights : Sound x y tri t → 0 < area x y tri t → contains x y tri p t ≡ true → Inside (weights_at x y tri p t)
  inside_weights s h e =
      let w = weights_at x y tri p t in
      let n = all_counted w e in
      let whole = its_d ∙ s.turns in
      record {
        u1 = nat_abs w.w1;
        u2 = nat_abs w.w2;
        u3 = nat_abs w.w3;
        d = area x y tri t;
        first = n.first;
        second = n.second;
        third = n.third;
        whole = whole;
        sum = ap nat_abs (sym (λ i. n.first i +ℤ n.second i +ℤ n.third i) ∙ its_sum ∙ whole);
        above = h;
        most = s.most;
      }

-- ---- where rows 1 to 10 accept
row5_above : (x y : List ℤ) (tri : List ℕ) (t : ℕ) → Sound x y tri t → (triangle_rows x y tri t).number ≡ 0 → 0 < area x y tri t
unfolding triangle_rows row5
row5_above x y tri t s e =
    ltb-true 0 (area x y tri t) (ap (lt_z (pos 0)) (sym s.turns) ∙ row_passed _ 4 t (then_rest _ _ (then_rest _ _ e)))

shape_above : (asked : Answer) (m : Mesh) → (shape_rows asked m).number ≡ 0 → (t : ℕ) → t < E m → Sound m.x m.y m.tri t → 0 < area m.x m.y m.tri t
unfolding shape_rows
shape_above asked m e t h s =
    row5_above m.x m.y m.tri t s (scan_clean _ _ (then_rest _ _ (then_rest _ _ (then_rest asked _ e))) t h)

module _ (asked : Answer) (m : Mesh) (p : Parameters) (state : List Float) (ok : (run_rows asked m p state).number ≡ 0) (t : ℕ) (h : t < E m) where
  pub accepted_sound : Sound m.x m.y m.tri t
  accepted_sound = (accepted_run asked m p state ok).shape.triangles t h

  pub accepted_above : 0 < area m.x m.y m.tri t
  unfolding run_rows
  accepted_above = shape_above _ m (mesh_parts _ m p (then_first _ _ ok)).0 t h accepted_sound

  pub accepted_inside : (q : Point) → contains m.x m.y m.tri q t ≡ true → Inside (weights_at m.x m.y m.tri q t)
  accepted_inside q e = inside_weights m.x m.y m.tri q t accepted_sound accepted_above e
