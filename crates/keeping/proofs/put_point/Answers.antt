use Prim.Native.Nat.{ℕ, ◌^◌, ◌<◌}
use mathlib.Core.Path.{◌≡◌, refl, ap, ◌∙◌}
use lib.IntN.{ℤ}
use lib.Signed.{mag}
use mir.Syntax.{w32}
use mir.Val.{to_z, of_z}
use Rattle.geometry.proofs.SizeLaws.{kept_as}
use Rattle.crossing.specs.Crossing.{unsigned}
use Rattle.keeping.specs.Record.{with_point}
use Rattle.keeping.proofs.put_point.Goals as goal

-- the pattern of a coordinate that was handed on as 32 bits
handed : (z : ℤ) {v : ℕ} → mag z < 2 ^ 31 → v ≡ unsigned (to_z w32 (of_z w32 z)) → v ≡ unsigned z
handed z ok e = e ∙ ap unsigned (kept_as w32 {r = z} (record { sfits = ok }) refl)

pub returns : goal.returns
unfolding with_point
returns c =
    let q = c.args.q in
    let g = c.well_formed.1.1.0.1.1 in
    rw (c.put-2.ensures, handed q.y g.1.0.1 c.pattern_32-2.ensures, c.put.ensures, handed q.x g.0.1 c.pattern_32.ensures)
