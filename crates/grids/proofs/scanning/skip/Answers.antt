use Rattle.std.proofs.Common.{◌≡◌, ℕ, ◌+◌, ◌<◌, length, drop, sym, ap, ◌∙◌, arith}
use Rattle.grids.specs.Private.{unspaced}
use Rattle.grids.proofs.LeftLaws.{space_more, space_none, front_there}
use Rattle.grids.proofs.scanning.skip.Goals as goal
use Rattle.grids.proofs.scanning.skip.Goals.{In-loop-j}

within : (c : In-loop-j) → let s = c.args in s.from + c.loop-j.j < length s.text.now
within c = omega (arith, c.if-text-from-ge8.true, c.loop-j-test.true, c.requires)

pub returns-then-byte-ne32 : goal.returns-then-byte-ne32
returns-then-byte-ne32 c =
    record {
      left = sym (space_none _ _ (within (goal.at.returns-then-byte-ne32 c).In-loop-j) c.if-byte-ne32.true) ∙ c.loop-j.invariant.1;
      stop = front_there _ _ (within (goal.at.returns-then-byte-ne32 c).In-loop-j);
      within = omega (arith, within (goal.at.returns-then-byte-ne32 c).In-loop-j);
    }

pub loop-j-preserved : goal.loop-j-preserved
loop-j-preserved c =
    let a = c.args in
    let step : a.from + (c.loop-j.j + 1) ≡ a.from + c.loop-j.j + 1 = omega arith in
    (omega (arith, c.loop-j-test.true), ap (λ (k : ℕ). unspaced (drop k a.text.now)) step ∙ sym (space_more _ _ (within (goal.at.loop-j-preserved c).In-loop-j) c.if-byte-ne32.false) ∙ c.loop-j.invariant.1)
