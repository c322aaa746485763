use Rattle.grids.proofs.fields.is_number.Goals as goal

pub returns : goal.returns
returns c = rw c.is_end.ensures
