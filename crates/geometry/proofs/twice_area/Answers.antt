use Rattle.std.proofs.Common.{◌≡◌, true, sym, ◌∙◌, rules}
use Rattle.geometry.specs.Geometry.{all_near}
use Rattle.geometry.proofs.GeometryLaws.{fit, near_d_lem, far_d}
use Rattle.geometry.proofs.twice_area.Goals as goal
use Rattle.geometry.proofs.twice_area.Goals.{Then-all_near}

tested : (c : Then-all_near) → all_near c.args.s ≡ true
tested c = sym c.all_near.ensures ∙ c.if-all_near.true

pub overflow_mul-result : goal.overflow_mul-result
overflow_mul-result c = let f = fit _ (tested (goal.at.overflow_mul-result c).Then-all_near) in search rules

pub overflow_mul-result-then-all_near : goal.overflow_mul-result-then-all_near
overflow_mul-result-then-all_near c = let f = fit _ (tested (goal.at.overflow_mul-result-then-all_near c).Then-all_near) in search rules

pub overflow_sub-result : goal.overflow_sub-result
overflow_sub-result c = let f = fit _ (tested (goal.at.overflow_sub-result c).Then-all_near) in search rules

pub returns-then-all_near : goal.returns-then-all_near
returns-then-all_near c = let t = tested (goal.at.returns-then-all_near c).Then-all_near in let f = fit _ t in rw (near_d_lem _ t) (search rules)

pub returns-else-all_near : goal.returns-else-all_near
returns-else-all_near c = sym (far_d _ (sym c.all_near.ensures ∙ c.if-all_near.false))
