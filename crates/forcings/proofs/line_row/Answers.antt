use Prim.Native.Nat.{◌-◌}
use mathlib.Core.Path.{ap, ◌∙◌}
use native.Mathlib.Omega.{arith}
use lib.ListN.{take}
use Rattle.frames.specs.Texts.{start_of}
use Rattle.faults.specs.Faults.{line_fault}
use Rattle.forcings.proofs.ForcingLaws.{line_left, wind_fault}
use Rattle.forcings.proofs.line_row.Goals as goal

pub returns-then-j-eq0 : goal.returns-then-j-eq0
unfolding line_fault start_of
returns-then-j-eq0 c = rw (c.if-j-eq0.true, c.fault.ensures, c.byte.ensures, c.part.ensures)

pub returns : goal.returns
returns c =
    let t = c.args.text.now in
    let start = line_left t (c.args.j - 1) (omega arith) (rw c.saturating_mul.ensures at c.saturating_add-at.ensures) in
    wind_fault t (c.args.j - 1) (omega arith) (c.part-line.ensures ∙ ap (take 41) start) (rw c.byte-2.ensures at c.fault-2.ensures)
