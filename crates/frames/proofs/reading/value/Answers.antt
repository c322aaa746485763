use Rattle.std.proofs.Common.{◌+◌, ◌^◌, ◌<◌, ◌≤◌, length, sym, refl, ap, inl, inr, ⊎_elim, arith, drop_of_length-le, le-leb}
use native.Mathlib.Nat.{eq-or-lt_of_le}
use borrow.Author.Tests.{lt-leb}
use lib.Seq.{take-nil}
use Rattle.frames.specs.Bytes.{bytes, number}
use Rattle.frames.specs.Reading.{value}
use Rattle.frames.proofs.ByteLaws.{bytes_length, number_room, number_grows, number_more, number_ends}
use Rattle.frames.proofs.reading.value.Goals as goal
use Rattle.frames.proofs.reading.value.Goals.{In-loop-k}

small : (c : In-loop-k) → c.loop-k.v < 256 ^ 7
small c = number_room _ _ c.loop-k.invariant.0 (omega arith)

pub returns-then-bytes-at : goal.returns-then-bytes-at
unfolding value number
returns-then-bytes-at c =
    let a = c.args in
    let h : length (bytes a.line.now) ≤ a.at = rw bytes_length (omega arith) in
    rw (le-leb a.width 8 (omega arith), drop_of_length-le (bytes a.line.now) h) (ap number (sym (take-nil a.width)))

pub loop-k-preserved : goal.loop-k-preserved
loop-k-preserved c =
    let a = c.args in
    let l : a.at + c.loop-k.k < length (bytes a.line.now) = rw bytes_length (omega arith) in
    (number_grows _ _ _ c.loop-k.invariant.0 c.byte_at.ensures.1, rw (c.loop-k.invariant.1, c.byte_at.ensures.0) (sym (number_more (bytes a.line.now) a.at c.loop-k.k l)))

pub returns : goal.returns
unfolding value
returns c =
    let a = c.args in
    let n = bytes_length a.line.now in
    let k : c.loop-k.k ≤ a.width = omega arith in
    rw (le-leb a.width 8 (omega arith), c.loop-k.invariant.1)
    (number_ends (bytes a.line.now) a.at c.loop-k.k a.width k (⊎_elim inl (λ l. inr (omega arith)) (eq-or-lt_of_le k)))

pub returns-then-width-gt8 : goal.returns-then-width-gt8
unfolding value
returns-then-width-gt8 c = rw (lt-leb _ _ c.if-width-gt8.true)

pub loop-k-init : goal.loop-k-init
unfolding number
loop-k-init c = (omega arith, refl)

pub overflow_mul-v : goal.overflow_mul-v
overflow_mul-v c = omega (arith, small (goal.at.overflow_mul-v c).In-loop-k)

pub overflow_add-v : goal.overflow_add-v
overflow_add-v c = omega (arith, small (goal.at.overflow_add-v c).In-loop-k)
