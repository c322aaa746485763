use Rattle.std.proofs.Common.{◌≡◌, ◌-◌, cond, ◌&&◌, leb, ◌∙◌}
use Rattle.frames.specs.Bytes.{worth}
use Rattle.frames.proofs.digits.worth.Goals as goal
use Rattle.frames.proofs.digits.worth.Goals.{Joined-d-2, then-d, else-d, then-d-2, else-d-2}

letter : (c : Joined-d-2) → let d = c.args.d in c.if-d-2.letter ≡ cond (leb 65 d && leb d 70) (d - 55) (cond (leb 97 d && leb d 102) (d - 87) 16)
letter c =
    let low : let d = c.args.d in c.if-d.lower ≡ cond (leb 97 d && leb d 102) (d - 87) 16 =
    elim c.if-d.branch [ then-d w ↦ w.lower-is ∙ rw w.if-d.true | else-d w ↦ w.lower-is ∙ rw w.if-d.false ]
    in
    elim c.if-d-2.branch [ then-d-2 w ↦ w.letter-is ∙ rw w.if-d-2.true | else-d-2 w ↦ w.letter-is ∙ rw w.if-d-2.false low ]

pub returns-then-d-3 : goal.returns-then-d-3
unfolding worth
returns-then-d-3 c = rw c.if-d-3.true

pub returns-else-d-3 : goal.returns-else-d-3
unfolding worth
returns-else-d-3 c = rw c.if-d-3.false (letter (goal.at.returns-else-d-3 c).Joined-d-2)
