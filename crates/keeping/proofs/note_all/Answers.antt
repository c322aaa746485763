use Prim.Native.Nat.{ℕ}
use mathlib.Core.Path.{◌≡◌, sym, ap, ◌∙◌}
use native.Mathlib.Omega.{arith}
use lib.ListN.{get_or}
use lib.Ieee.{nan}
use Rattle.keeping.specs.Record.{noted, all_noted}
use Rattle.keeping.proofs.RecordLaws.{noted_none, noted_more}
use Rattle.keeping.proofs.note_all.Goals as goal

pub loop-g-preserved : goal.loop-g-preserved
loop-g-preserved c =
    c.note.ensures ∙ ap (noted _ _ _) c.loop-g.invariant ∙ noted_more _ _ _ _

pub returns : goal.returns
returns c =
    let a = c.args in
    let done : c.loop-g.g ≡ a.count = omega arith in
    c.loop-g.invariant ∙ ap (λ (g : ℕ). all_noted (λ k. get_or a.level.now k nan) a.step g a.kept.now) done

pub loop-g-init : goal.loop-g-init
loop-g-init c = sym (noted_none _ _ _)
