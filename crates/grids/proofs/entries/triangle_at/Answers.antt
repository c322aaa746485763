use Rattle.std.proofs.Common.{ℕ, List, drop}
use Rattle.rows.proofs.ScanLaws.{both_left, both_right}
use Rattle.grids.specs.Private.{NumberSeen}
use Rattle.grids.proofs.FieldLaws.{number_seen}
use Rattle.grids.proofs.LineLaws.{three_seen, not_here, not_more, not_there, line_end, corners_none, triangle_line_lem, triangle_none}
use Rattle.grids.proofs.entries.triangle_at.Goals as goal
use Rattle.grids.proofs.entries.triangle_at.Goals.{After-is_number-2, After-is_number-4}

-- what is left from a byte on
abbrev from : After-is_number-2 → ℕ → List ℕ
from c at = drop at c.args.text.now

-- the first two fields, as they were read

n_seen : (c : After-is_number-2) → NumberSeen (from c c.args.from) c.is_number-2.result c.digits_at-number.result.value (from c c.digits_at-number.result.end)
n_seen c = number_seen c.skip-a.ensures c.digits_at-number.ensures c.is_number-2.ensures

k_seen : (c : After-is_number-2) → NumberSeen (from c c.digits_at-number.result.end) c.is_number.result c.digits_at-three.result.value (from c c.digits_at-three.result.end)
k_seen c = number_seen c.skip-b.ensures c.digits_at-three.ensures c.is_number.ensures

pub returns-then-text-from : goal.returns-then-text-from
returns-then-text-from c = not_there _ _ c.if-text-from.true _ _

pub returns-then-not-is_number-kind : goal.returns-then-not-is_number-kind
returns-then-not-is_number-kind c =
    let k = (goal.at.returns-then-not-is_number-kind c).After-is_number-2 in
    not_more (n_seen k).seen c.if-not-is_number-kind.true _ (λ f. not_here (three_seen (k_seen k)) f _)

-- the first two corners

p_seen : (c : After-is_number-4) → NumberSeen (drop c.digits_at-three.result.end c.args.text.now) c.is_number-3.result c.digits_at-first.result.value (drop c.digits_at-first.result.end c.args.text.now)
p_seen c = number_seen c.skip-c.ensures c.digits_at-first.ensures c.is_number-3.ensures

q_seen : (c : After-is_number-4) → NumberSeen (drop c.digits_at-first.result.end c.args.text.now) c.is_number-4.result c.digits_at-second.result.value (drop c.digits_at-second.result.end c.args.text.now)
q_seen c = number_seen c.skip-d.ensures c.digits_at-second.ensures c.is_number-4.ensures

pub returns-then-not-is_number : goal.returns-then-not-is_number
returns-then-not-is_number c =
    let k = (goal.at.returns-then-not-is_number c).After-is_number-2 in
    let s = (goal.at.returns-then-not-is_number c).After-is_number-4 in
    let both = c.if-not-is_number-kind.false in
    corners_none (n_seen k) (both_left _ _ both) (k_seen k) (both_right c.is_number-2.result _ both) (p_seen s) (q_seen s) c.if-not-is_number.true

pub returns-then-not-is_number-end : goal.returns-then-not-is_number-end
returns-then-not-is_number-end c =
    let k = (goal.at.returns-then-not-is_number-end c).After-is_number-2 in
    let s = (goal.at.returns-then-not-is_number-end c).After-is_number-4 in
    let both = c.if-not-is_number-kind.false in
    let r-seen = number_seen c.skip-e.ensures c.digits_at-third.ensures c.is_number-5.ensures in
    triangle_none (n_seen k) (both_left _ _ both) (k_seen k) (both_right c.is_number-2.result _ both) (p_seen s) (q_seen s) c.if-not-is_number.false
    r-seen (line_end c.skip_rest-end.ensures) c.if-not-is_number-end.true

pub returns : goal.returns
returns c =
    let k = (goal.at.returns c).After-is_number-2 in
    let s = (goal.at.returns c).After-is_number-4 in
    let both = c.if-not-is_number-kind.false in
    let r-seen = number_seen c.skip-e.ensures c.digits_at-third.ensures c.is_number-5.ensures in
    triangle_line_lem (n_seen k) (both_left _ _ both) (k_seen k) (both_right c.is_number-2.result _ both) (p_seen s) (q_seen s) c.if-not-is_number.false
    r-seen (line_end c.skip_rest-end.ensures) c.if-not-is_number-end.false _
