use Rattle.std.proofs.Common.{◌≡◌, ◌^◌, ◌<◌, ◌&&◌, ℤ, pos, refl, ap, ◌∙◌, w64, to_z, of_z}
use lib.Signed.{mag, le_z}
use Rattle.geometry.proofs.SizeLaws.{kept}
use Rattle.location.specs.Location.{none_negative}
use Rattle.location.proofs.seeking.contains.Goals as goal

-- the test of a field that was handed on as bits
part : (v : ℤ) → mag v < 2 ^ 63 → le_z (pos 0) (to_z w64 (of_z w64 v)) ≡ le_z (pos 0) v
part v ok = ap (le_z (pos 0)) (kept {r = v} ok refl)

pub returns : goal.returns
unfolding none_negative
returns c =
    let w = c.weights_at-w.result in
    let g = c.weights_at-w.type_inv.1.1 in
    (λ i. part w.w1 g.0.1 i
    && part w.w2 g.1.0.1 i
    && part w.w3 g.1.1.0.1 i)
    ∙ ap none_negative c.weights_at-w.ensures
