use Rattle.std.proofs.Common.{drop}
use Rattle.grids.specs.Private.{NumberSeen}
use Rattle.grids.proofs.FieldLaws.{number_seen}
use Rattle.grids.proofs.LineLaws.{not_there, line_end, counts_line, counts_none}
use Rattle.grids.proofs.entries.counts_at.Goals as goal
use Rattle.grids.proofs.entries.counts_at.Goals.{After-is_number-2}

-- the two fields, as they were read

e_seen : (c : After-is_number-2) → NumberSeen (drop c.args.from c.args.text.now) c.is_number.result c.digits_at-e.result.value (drop c.digits_at-e.result.end c.args.text.now)
e_seen c = number_seen c.skip-a.ensures c.digits_at-e.ensures c.is_number.ensures

n_seen : (c : After-is_number-2) → NumberSeen (drop c.digits_at-e.result.end c.args.text.now) c.is_number-2.result c.digits_at-n.result.value (drop c.digits_at-n.result.end c.args.text.now)
n_seen c = number_seen c.skip-b.ensures c.digits_at-n.ensures c.is_number-2.ensures

pub returns-then-text-from : goal.returns-then-text-from
returns-then-text-from c = not_there _ _ c.if-text-from.true _ _

pub returns-then-not-is_number-end : goal.returns-then-not-is_number-end
returns-then-not-is_number-end c =
    let k = (goal.at.returns-then-not-is_number-end c).After-is_number-2 in
    counts_none (e_seen k) (n_seen k) (line_end c.skip_rest-end.ensures) c.if-not-is_number-end.true

pub returns : goal.returns
returns c =
    let k = (goal.at.returns c).After-is_number-2 in
    counts_line (e_seen k) (n_seen k) (line_end c.skip_rest-end.ensures) c.if-not-is_number-end.false _
