use Prim.Native.Nat.{◌-◌, ◌+◌}
use mathlib.Core.Path.{◌≡◌, sym, ◌∙◌}
use native.Mathlib.Omega.{arith}
use lib.ListN.{length-set}
use Rattle.frames.specs.Bytes.{field}
use Rattle.lines.proofs.LaidLaws.{laid_none}
use Rattle.crossing.specs.Crossing.{written_at}
use Rattle.crossing.proofs.CrossLaws.{byte_turn}
use Rattle.crossing.proofs.put_number.Goals as goal

pub returns-then-not-is_within : goal.returns-then-not-is_within
unfolding written_at
returns-then-not-is_within c = rw (sym c.is_within.ensures ∙ c.if-not-is_within.true)

pub loop-k-preserved : goal.loop-k-preserved
loop-k-preserved c =
    let p = c.loop-k in
    let w = c.args.w in
    (simp length-set p.invariant.0, p.invariant.1, byte_turn p.b c.args.at (w - (p.k + 1)) p.rest (omega arith) (omega arith) (omega arith) ∙ p.invariant.2)

pub returns : goal.returns
unfolding written_at field
returns c =
    let p = c.loop-k in
    let z : c.args.w - p.k ≡ 0 = omega arith in
    sym (laid_none p.b _) ∙ (rw z at p.invariant.2) ∙ rw (sym c.is_within.ensures ∙ c.if-not-is_within.false)
