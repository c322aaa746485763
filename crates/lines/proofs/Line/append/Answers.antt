use Prim.Native.Nat.{suc, ◌-◌}
use mathlib.Core.Path.{◌≡◌, refl, sym, ◌∙◌}
use native.Mathlib.Omega.{arith}
use borrow.Author.Rules.{rules}
use lib.ListN.{length-set}
use Rattle.frames.specs.Bytes.{digits, field}
use Rattle.lines.specs.Building.{laid}
use Rattle.lines.proofs.LaidLaws.{laid_none}
use Rattle.lines.proofs.BuildLaws.{hex, hex_field, hex_turn, field_digits, appended_room, appended_full}
use Rattle.lines.proofs.Line.append.Goals as goal

pub loop-k-preserved : goal.loop-k-preserved
loop-k-preserved c =
    let a = c.args in
    let e : c.loop-k.k ≡ suc (c.loop-k.k - 1) = omega arith in (
      omega arith,
      simp length-set c.loop-k.invariant.1,
      rw c.digit.ensures (hex_turn c.loop-k.bytes a.self.len (c.loop-k.k - 1) c.loop-k.rest (omega arith) ∙ rw (← e) c.loop-k.invariant.2),
    )

pub returns : goal.returns
unfolding hex
returns c =
    let a = c.args in
    let t = digits (field a.width a.value) in
    let z : c.loop-k.k ≡ 0 = omega arith in
    let e : c.loop-k.bytes ≡ laid a.self.bytes a.self.len t = sym (laid_none c.loop-k.bytes a.self.len) ∙ (rw (z, hex_field) at c.loop-k.invariant.2) in
    rw (appended_room a.self t (rw field_digits (omega arith)), field_digits, e)

pub returns-then-at-gt-LONGEST : goal.returns-then-at-gt-LONGEST
returns-then-at-gt-LONGEST c = sym (appended_full _ _ (rw field_digits (omega arith)))

pub returns-then-at-width : goal.returns-then-at-width
returns-then-at-width c = sym (appended_full _ _ (rw field_digits (omega arith)))

pub loop-k-init : goal.loop-k-init
loop-k-init c = (omega arith, search rules, refl)
