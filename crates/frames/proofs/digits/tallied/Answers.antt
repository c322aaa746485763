use Rattle.std.proofs.Common.{◌≡◌, ◌*◌, ◌/◌, ◌%◌, ◌<◌, ◌≤◌, length, get_or, drop, sym, refl, ap, ◌∙◌, arith, length-drop}
use mathlib.Core.Bool.{and_assoc, and-true}
use Rattle.frames.specs.Bytes.{bytes, all_digits, sum}
use Rattle.frames.specs.Reading.{tallied}
use Rattle.frames.proofs.TallyLaws.{part, rest, rest_digits, part_high, part_low, sum_next, digits_next, sum_adds, sum_none, digits_end}
use Rattle.frames.proofs.digits.tallied.Goals as goal
use Rattle.frames.proofs.digits.tallied.Goals.{Joined-side-eq0, then-side-eq0, else-side-eq0}

pub loop-c-init : goal.loop-c-init
unfolding rest rest_digits
loop-c-init c = (refl, ap (λ x. x % 256) (omega arith), refl)

-- what the character adds
added : (j : Joined-side-eq0) → j.if-side-eq0.part ≡ part (j.loop-c.c % 2) (get_or j.args.text.now j.loop-c.c 0)
added j =
    let side = j.loop-c.invariant.0 in
    elim j.if-side-eq0.branch [
      | then-side-eq0 t ↦ t.part-is ∙ rw j.worth-digit.ensures (sym (part_high (j.loop-c.c % 2) _ (omega (arith, side, t.if-side-eq0.true))))
      | else-side-eq0 t ↦ t.part-is ∙ rw j.worth-digit.ensures (sym (part_low (j.loop-c.c % 2) _ (omega (arith, side, t.if-side-eq0.false))))
    ]

pub loop-c-preserved : goal.loop-c-preserved
loop-c-preserved c =
    let s = c.args.text.now in
    let k = c.loop-c.c in
    let n : k < length s / 2 * 2 = omega arith in (
      omega arith,
      rw (c.wrapping_add_u8-sum.ensures.value, sum_adds, added (goal.at.loop-c-preserved c).Joined-side-eq0, ← sum_next s k n) c.loop-c.invariant.1,
      rw (and_assoc, c.worth-digit.ensures, ← digits_next s k n) c.loop-c.invariant.2,
    )

pub returns : goal.returns
unfolding tallied
returns c =
    let s = c.args.text.now in
    let k = c.loop-c.c in
    let even : k % 2 ≡ 0 = omega arith in
    let last : length (drop k s) ≤ 1 = rw length-drop (omega arith) in
    let e : c.loop-c.sum ≡ sum (bytes s) % 256 = omega (arith, rw (even, sum_none (drop k s) last) at c.loop-c.invariant.1) in
    let d : c.loop-c.right ≡ all_digits s = sym (and-true _) ∙ (rw (even, digits_end (drop k s) last) at c.loop-c.invariant.2) in
    rw (e, d)
