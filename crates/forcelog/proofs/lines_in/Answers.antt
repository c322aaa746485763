use Rattle.forcelog.proofs.lines_in.Goals as goal

pub returns-then-starts : goal.returns-then-starts
returns-then-starts c = rw (← c.starts.ensures, c.if-starts.true)

pub returns : goal.returns
returns c = rw (← c.starts.ensures, c.if-starts.false)
