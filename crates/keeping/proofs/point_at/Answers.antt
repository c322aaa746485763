use mathlib.Core.Path.{ap, ◌∙◌}
use mir.Syntax.{w32}
use Prim.Native.Nat.{ℕ}
use Rattle.geometry.proofs.SizeLaws.{kept_as}
use Rattle.crossing.specs.Crossing.{number_at, signed}
use Rattle.keeping.specs.Record.{point_in}
use Rattle.keeping.proofs.point_at.Goals as goal

pub returns : goal.returns
unfolding point_in
returns c =
    let b = c.args.kept.now in
    λ i. record {
      x = kept_as w32 (record { sfits = c.int_at.type_inv }) (c.int_at.ensures ∙ ap (λ (at : ℕ). signed (number_at b at 4)) c.place_of.ensures) i;
      y = kept_as w32 (record { sfits = c.int_at-2.type_inv }) (c.int_at-2.ensures ∙ ap (λ (at : ℕ). signed (number_at b at 4)) c.place_of-2.ensures) i;
    }
