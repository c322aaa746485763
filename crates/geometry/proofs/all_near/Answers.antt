use Rattle.std.proofs.Common.{◌≡◌, ◌^◌, ◌<◌, Bool, ◌&&◌, ℤ, refl, ap, ◌∙◌, w64, to_z, of_z, arith}
use lib.Signed.{mag}
use Rattle.geometry.specs.Geometry.{near, all_near}
use Rattle.geometry.proofs.SizeLaws.{kept}
use Rattle.geometry.proofs.all_near.Goals as goal

-- the test of a field that was handed on as bits
side : (v : ℤ) {b : Bool} → mag v < 2 ^ 63 → b ≡ near (to_z w64 (of_z w64 v)) → b ≡ near v
side v ok e = e ∙ ap near (kept {r = v} ok refl)

pub returns : goal.returns
unfolding all_near
returns c =
    let s = c.args.s in
    λ i. side s.a1 (omega arith) c.is_near.ensures i
    && side s.a2 (omega arith) c.is_near-2.ensures i
    && side s.a3 (omega arith) c.is_near-3.ensures i
    && side s.b1 (omega arith) c.is_near-4.ensures i
    && side s.b2 (omega arith) c.is_near-5.ensures i
    && side s.b3 (omega arith) c.is_near-6.ensures i
