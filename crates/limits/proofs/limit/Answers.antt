use Rattle.limits.proofs.limit.Goals as goal

pub returns : goal.returns
returns c = rw (c.tested.ensures, c.in_range.ensures)
