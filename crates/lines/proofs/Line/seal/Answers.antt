use mathlib.Core.Path.{◌≡◌, sym, ◌∙◌}
use native.Mathlib.Nat.{sub-zero}
use native.Mathlib.Omega.{arith}
use borrow.Author.Rules.{rules}
use lib.ListN.{length}
use Rattle.frames.specs.Bytes.{digits}
use Rattle.frames.specs.Reading.{tallied}
use Rattle.lines.specs.Building.{longest, written, sealed}
use Rattle.lines.proofs.BuildLaws.{appended_full, sealed_room}
use Rattle.lines.proofs.Line.seal.Goals as goal

pub returns : goal.returns
unfolding tallied written
returns c =
    let a = c.args in
    let z : length a.self.bytes ≡ longest = search rules in
    sealed_room a.self c.append-line.result z (omega arith) (c.append-line.ensures ∙ rw (c.tallied-tally.ensures, sub-zero))

pub returns-then-at-gt-SEALABLE : goal.returns-then-at-gt-SEALABLE
unfolding sealed digits
returns-then-at-gt-SEALABLE c = sym (appended_full _ _ (omega arith))

pub overflow_sub-tally : goal.overflow_sub-tally
unfolding tallied
overflow_sub-tally c = rw c.tallied-tally.ensures (omega arith)
