-- What is seen of a point, as the code has it.
use Rattle.std.proofs.Common.{◌≡◌, ℕ, ◌/◌, ◌<◌, Bool, true, false, cond, eqb, Option, Some, None, unwrap_or, Result, Err, List, length, ℤ, refl, sym, ap, ◌∙◌, arith, le-ltb, lt-ltb, ltb-true, ltb-false, eq-eqb, ne_eqb}
use lib.Ieee.{Float}
use Rattle.std.specs.Result.{IsErrAnd}
use Rattle.std.proofs.lemmas.Result.{err_from_is_err_and}
use Rattle.rows.specs.declared.Answer.{Answer}
use Rattle.rows.specs.Numbers.{plus0}
use Rattle.quantities.specs.declared.Parameters.{Parameters}
use Rattle.mesh.specs.Lent.{Mesh, corners}
use Rattle.bounds.specs.State.{run_rows}
use Rattle.location.specs.declared.seeking.Point.{Point}
use Rattle.location.specs.declared.Points.{Points}
use Rattle.location.specs.declared.seeking.Sighting.{Sighting}
use Rattle.location.specs.Location.{elevation, levels, weights_at, contains, triangle_of, is_inside, level_of, sighted}
use Rattle.location.specs.Survey.{Sightings, seen, unseen, survey_of}
use Rattle.location.specs.Private.{where_inside}
use Rattle.location.proofs.LowestLaws.{lowest_most, lowest_none}

-- ---- a refusal that `?` hands back
pub handed_back : {A E : Type 0} (q : Result A E) (x : E) → IsErrAnd q (λ y. y ≡ x) → q ≡ Err x
handed_back q x e = let p = err_from_is_err_and q e in p.1 ∙ ap Err p.2

-- ---- what is found where some triangle contains a point
module _ {A : Type 0} where
  pub inside_some : (b : Bool) {v t : A} → Some t ≡ where_inside b v → (b ≡ true) × (t ≡ v)
  inside_some true e = (refl, cc)
  inside_some false e = absurd cc

  pub inside_none : (b : Bool) (v : A) → None ≡ where_inside b v → b ≡ false
  inside_none true v e = absurd cc
  inside_none false v e = refl

  pub found_there : {b : Bool} {v w : A} → b ≡ true → v ≡ w → Some v ≡ where_inside b w
  found_there e q = rw e (ap Some q)

  pub found_nowhere : {b : Bool} (v : A) → b ≡ false → None ≡ where_inside b v
  found_nowhere v e = rw e

module _ (x y : List ℤ) (tri : List ℕ) (p : Point) where
  pub is_there : {t : ℕ} → t ≡ triangle_of x y tri p → t < length tri / 3 → is_inside x y tri p ≡ true
  is_there e h = lt-ltb _ _ (rw e at h)

  pub is_nowhere : ((k : ℕ) → k < length tri / 3 → contains x y tri p k ≡ false) → is_inside x y tri p ≡ false
  unfolding triangle_of
  is_nowhere h = le-ltb _ _ (omega (arith, lowest_none (contains x y tri p) (length tri / 3) h))

  -- the triangle that was found
  pub found_below : {r : Option ℕ} {t : ℕ} → r ≡ Some t → r ≡ where_inside (is_inside x y tri p) (triangle_of x y tri p)
      → (is_inside x y tri p ≡ true) × (t ≡ triangle_of x y tri p) × (t < length tri / 3)
  found_below was e = let f = inside_some _ (sym was ∙ e) in (f.0, f.1, rw f.1 (ltb-true _ _ f.0))

  module _ (z : ℕ → Float) where
    -- the elevation in triangle t, where there is one
    abbrev inside : ℕ → Float
    inside t = elevation (weights_at x y tri p t) (levels z (corners tri t))

    abbrev with : ℕ → Float → Sighting
    with t v = record { triangle = t; level = v }

    pub seen_inside : {t : ℕ} {v : Float} → t ≡ triangle_of x y tri p → is_inside x y tri p ≡ true → v ≡ inside t → with t v ≡ sighted x y tri p z
    unfolding sighted level_of
    seen_inside e h q =
        let its = q ∙ ap inside e ∙ sym (ap (λ (b : Bool). cond b (inside (triangle_of x y tri p)) plus0) h) in
        λ i. with (e i) (its i)

    pub seen_outside : is_inside x y tri p ≡ false → with (length tri / 3) plus0 ≡ sighted x y tri p z
    unfolding sighted level_of triangle_of
    seen_outside h =
        let e : length tri / 3 ≡ triangle_of x y tri p = omega (arith, lowest_most (contains x y tri p) (length tri / 3), ltb-false _ _ h) in
        let its = sym (ap (λ (b : Bool). cond b (inside (triangle_of x y tri p)) plus0) h) in
        λ i. with (e i) (its i)

    pub seen_or_outside : unwrap_or (where_inside (is_inside x y tri p) (sighted x y tri p z)) (with (length tri / 3) plus0) ≡ sighted x y tri p z
    seen_or_outside = go (is_inside x y tri p) refl
      where
        go : (b : Bool) → is_inside x y tri p ≡ b → unwrap_or (where_inside b (sighted x y tri p z)) (with (length tri / 3) plus0) ≡ sighted x y tri p z
        go true h = refl
        go false h = seen_outside h

-- ---- what a call sees, by the answer of its rows
module _ (asked : Answer) (m : Mesh) (p : Parameters) (state : List Float) (ps : Points) {a : Answer} (e : a ≡ run_rows asked m p state) where
  abbrev by : Answer → Bool → Sightings
  by r b = cond b (seen r m state ps) (unseen r)

  pub survey_refused : (a.number ≡ 0 → ⊥) → unseen a ≡ survey_of asked m p state ps
  unfolding survey_of
  survey_refused h = ap (by a) (sym (ne_eqb a.number 0 h)) ∙ ap (λ (r : Answer). by r (eqb r.number 0)) e

  pub survey_accepted : a.number ≡ 0 → seen a m state ps ≡ survey_of asked m p state ps
  unfolding survey_of
  survey_accepted h = ap (by a) (sym (eq-eqb a.number 0 h)) ∙ ap (λ (r : Answer). by r (eqb r.number 0)) e
