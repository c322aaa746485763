use Prim.Native.Nat.{ℕ}
use mathlib.Core.Path.{◌≡◌, refl, ap, ◌∙◌}
use mathlib.Core.Bool.{false}
use native.Mathlib.Omega.{arith}
use lib.ListN.{length, length-set, get_or-replicate}
use Rattle.rows.specs.Scan.{some}
use Rattle.lists.proofs.TableLaws.{is_table}
use Rattle.nodes.specs.Rows.{is_named}
use Rattle.nodes.proofs.MarkLaws.{named_by, mark_more}
use Rattle.nodes.proofs.marks.marks.Goals as goal

pub loop-j-init : goal.loop-j-init
unfolding some
loop-j-init c = (refl, λ i h. get_or-replicate 4096 i false false h)

pub bounds-seen-node : goal.bounds-seen-node
bounds-seen-node c = c.requires _ c.loop-j-test.true

pub loop-j-preserved : goal.loop-j-preserved
loop-j-preserved c =
    let marked = c.loop-j.invariant in
    let node = c.requires _ c.loop-j-test.true in (
      simp length-set marked.0,
      λ i h. mark_more c.args.tri.now c.loop-j.seen i c.loop-j.j (omega (arith, marked.0, node)) (marked.1 i h),
    )

pub returns : goal.returns
unfolding is_named
returns c =
    let tri = c.args.tri.now in
    let all : c.loop-j.j ≡ length tri = omega arith in
    is_table false 4096 (is_named tri) c.loop-j.seen c.loop-j.invariant.0 (λ i h. c.loop-j.invariant.1 i h ∙ ap (λ (j : ℕ). named_by tri j i) all)
