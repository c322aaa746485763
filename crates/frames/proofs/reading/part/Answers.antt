use Rattle.std.proofs.Common.{◌≡◌, ℕ, ◌+◌, ◌-◌, length, take, drop, sym, ap, ◌∙◌, arith, length-drop, drop_of_length-le, take_all}
use lib.Seq.{take-nil}
use Rattle.frames.proofs.reading.part.Goals as goal

-- past the end there is nothing
pub returns-then-text-from : goal.returns-then-text-from
returns-then-text-from c =
    let a = c.args in
    sym (ap (take a.count) (drop_of_length-le a.text.now {i = a.from} (omega arith)) ∙ take-nil a.count)

-- all that is left
pub returns-then-text-from-2 : goal.returns-then-text-from-2
returns-then-text-from-2 c =
    let a = c.args in
    let rest = drop a.from a.text.now in
    take_all (length a.text.now - a.from) rest (simp length-drop (omega arith)) ∙ sym (take_all a.count rest (simp length-drop (omega arith)))

pub returns : goal.returns
returns c =
    let a = c.args in
    let e : a.from + a.count - a.from ≡ a.count = omega arith in
    ap (λ (n : ℕ). take n (drop a.from a.text.now)) e
