use Rattle.forcelog.specs.Printed.{due_of}
use borrow.Author.Rules.{rules}
use Rattle.printing.proofs.due.Goals as goal

pub returns-then-starts : goal.returns-then-starts
unfolding due_of
returns-then-starts c = rw (← c.starts.ensures, c.if-starts.true)

pub returns : goal.returns
unfolding due_of
returns c = rw (← c.starts.ensures, c.if-starts.false)
