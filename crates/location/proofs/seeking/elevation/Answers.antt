use Rattle.std.proofs.Common.{◌≡◌, ◌^◌, ◌<◌, ℤ, refl, ap, ◌∙◌, w64, to_z, of_z}
use lib.Signed.{mag}
use lib.Ieee.{Float, binary64, of_int}
use Rattle.geometry.proofs.SizeLaws.{kept}
use Rattle.quantities.specs.Operations.{◌⊕◌, ◌⊗◌, ◌⊘◌}
use Rattle.location.specs.Location.{elevation}
use Rattle.location.proofs.seeking.elevation.Goals as goal

-- the float of a field that was handed on as bits
part : (v : ℤ) {r : Float} → mag v < 2 ^ 63 → r ≡ of_int binary64 (to_z w64 (of_z w64 v)) → r ≡ of_int binary64 v
part v ok e = e ∙ ap (of_int binary64) (kept {r = v} ok refl)

pub returns : goal.returns
unfolding elevation
returns c =
    let a = c.args in
    let w = a.w in
    let g = c.well_formed.0.1.1 in
    λ i. ((part w.w1 g.0.1 c.nearest_i64_to_f64.ensures i ⊗ a.z1
    ⊕ part w.w2 g.1.0.1 c.nearest_i64_to_f64-2.ensures i ⊗ a.z2)
    ⊕ part w.w3 g.1.1.0.1 c.nearest_i64_to_f64-3.ensures i ⊗ a.z3)
    ⊘ part w.d g.1.1.1.0.1 c.nearest_i64_to_f64-4.ensures i
