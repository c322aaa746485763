use mathlib.Core.Path.{◌≡◌}
use borrow.Author.Rules.{rules}
use lib.ListN.{take}
use Rattle.refusals.specs.Refusals.{numeral, words}
use Rattle.refusals.proofs.WordLaws.{is_numeral, refusal_joined}
use Rattle.refusals.proofs.refusal.Goals as goal
use Rattle.refusals.proofs.refusal.Goals.{After-decimal-p, After-decimal-r}

number : (c : After-decimal-r) → take c.decimal-r.result c.decimal-r.new.out ≡ numeral c.args.answer.number
number c = is_numeral c.decimal-r.new.out (search rules) c.decimal-r.ensures.len c.decimal-r.ensures.digits

place : (c : After-decimal-p) → take c.decimal-p.result c.decimal-p.new.out ≡ numeral c.args.answer.place
place c = is_numeral c.decimal-p.new.out (search rules) c.decimal-p.ensures.len c.decimal-p.ensures.digits

pub returns : goal.returns
unfolding words
returns c =
    rw (c.with.ensures, c.with-text-4.ensures, c.with-text-3.ensures, c.with-text-2.ensures, c.with-text.ensures)
    (refusal_joined c.args.answer (number (goal.at.returns c).After-decimal-r) (place (goal.at.returns c).After-decimal-p))
