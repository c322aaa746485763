use Rattle.std.proofs.Common.{ℕ, eqb, List, drop, refl, eq-eqb, ne_eqb}
use Rattle.rows.proofs.ScanLaws.{both_left, both_right}
use Rattle.grids.specs.Private.{NumberSeen, WholeSeen}
use Rattle.grids.proofs.LeftLaws.{past_within}
use Rattle.grids.proofs.FieldLaws.{number_seen, whole_seen}
use Rattle.grids.proofs.LineLaws.{not_here, not_more, not_there, line_end, no_depth_there, node_line_lem, node_none}
use Rattle.grids.proofs.entries.node_at.Goals as goal
use Rattle.grids.proofs.entries.node_at.Goals.{After-is_number-3}

-- the fields before the depth, as they were read

-- what is left from a byte on
abbrev from : After-is_number-3 → ℕ → List ℕ
from c at = drop at c.args.text.now

n_seen : (c : After-is_number-3) → NumberSeen (from c c.args.from) c.is_number.result c.digits_at-number.result.value (from c c.digits_at-number.result.end)
n_seen c = number_seen c.skip-a.ensures c.digits_at-number.ensures c.is_number.ensures

x_seen : (c : After-is_number-3) → WholeSeen (from c c.digits_at-number.result.end) c.is_number-2.result (eqb c.skip-b.result.stop 45) c.digits_at-x.result.value (from c c.digits_at-x.result.end)
x_seen c = whole_seen c.skip-b.ensures c.past-x_from.ensures c.digits_at-x.ensures c.is_number-2.ensures

y_seen : (c : After-is_number-3) → WholeSeen (from c c.digits_at-x.result.end) c.is_number-3.result (eqb c.skip-c.result.stop 45) c.digits_at-y.result.value (from c c.digits_at-y.result.end)
y_seen c = whole_seen c.skip-c.ensures c.past-y_from.ensures c.digits_at-y.ensures c.is_number-3.ensures

pub returns-then-text-from : goal.returns-then-text-from
returns-then-text-from c = not_there _ _ c.if-text-from.true _ _

pub returns-then-not-is_number : goal.returns-then-not-is_number
returns-then-not-is_number c =
    let k = (goal.at.returns-then-not-is_number c).After-is_number-3 in
    not_more (n_seen k).seen c.if-not-is_number.true _ (λ f. not_more (x_seen k).seen f _ (λ g. not_here (y_seen k).seen g _))

pub returns-in_err-h : goal.returns-in_err-h
returns-in_err-h c =
    let k = (goal.at.returns-in_err-h c).After-is_number-3 in
    let all = c.if-not-is_number.false in
    let both = both_right c.is_number.result _ all in
    rw c.from_residual.ensures (no_depth_there (n_seen k) (both_left _ _ all) (x_seen k) (both_left _ _ both) (y_seen k) (both_right c.is_number-2.result _ both) c.in_err-h.ensures.depth_seen)

pub returns-then-end-ne10 : goal.returns-then-end-ne10
returns-then-end-ne10 c =
    let k = (goal.at.returns-then-end-ne10 c).After-is_number-3 in
    let all = c.if-not-is_number.false in
    let both = both_right c.is_number.result _ all in
    node_none (n_seen k) (both_left _ _ all) (x_seen k) (both_left _ _ both) (y_seen k) (both_right c.is_number-2.result _ both)
    c.in_ok-h.ensures.depth_seen (line_end c.skip_rest-end.ensures) (ne_eqb _ _ c.if-end-ne10.true)

pub returns : goal.returns
returns c =
    let k = (goal.at.returns c).After-is_number-3 in
    let all = c.if-not-is_number.false in
    let both = both_right c.is_number.result _ all in
    node_line_lem (n_seen k) (both_left _ _ all) (x_seen k) (both_left _ _ both) (y_seen k) (both_right c.is_number-2.result _ both)
    c.in_ok-h.ensures.depth_seen (line_end c.skip_rest-end.ensures) (eq-eqb _ _ c.if-end-ne10.false) _

pub digits_at-x-requires : goal.digits_at-x-requires
digits_at-x-requires c = past_within 45 refl _ _ c.skip-b.ensures.stop c.past-x_from.ensures c.skip-b.ensures.within

pub digits_at-y-requires : goal.digits_at-y-requires
digits_at-y-requires c = past_within 45 refl _ _ c.skip-c.ensures.stop c.past-y_from.ensures c.skip-c.ensures.within
