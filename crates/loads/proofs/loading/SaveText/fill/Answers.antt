use Prim.Native.Nat.{◌*◌}
use mathlib.Core.Path.{◌≡◌, sym, ap, ◌∙◌}
use native.Mathlib.Omega.{arith}
use lib.ListN.{length}
use Rattle.lists.proofs.RunLaws.{runs_length}
use Rattle.bounds.specs.State.{state_runs}
use Rattle.editions.specs.Editions.{lines_of}
use Rattle.loads.proofs.NodeLaws.{filled_to, fill_none, fill_more, fill_all}
use Rattle.loads.proofs.loading.SaveText.fill.Goals as goal
use Rattle.loads.proofs.loading.SaveText.fill.Goals.{At-loop-i}

long : (l : At-loop-i) → length l.loop-i.state ≡ state_runs * l.args.self.now.n
long l = ap length l.loop-i.invariant ∙ runs_length _ _

pub loop-i-init : goal.loop-i-init
loop-i-init c =
    let s = c.args.self.now in
    fill_none (lines_of s.edition) s.n s.text.now c.args.h.now c.args.state.now c.requires.2

pub loop-i-preserved : goal.loop-i-preserved
loop-i-preserved c =
    let l = c.loop-i in
    let s = c.args.self.now in
    c.put_node.ensures ∙ fill_more (lines_of s.edition) s.n s.text.now c.args.h.now c.args.state.now l.i c.loop-i-test.true l.invariant c.node_at.ensures

pub returns : goal.returns
returns c =
    let s = c.args.self.now in
    let d = lines_of s.edition in
    let end : c.loop-i.i ≡ s.n = omega arith in
    c.loop-i.invariant ∙ ap (filled_to d s.n s.text.now c.args.h.now c.args.state.now) end ∙ fill_all d s.n s.text.now c.args.h.now c.args.state.now

pub put_node-requires : goal.put_node-requires
put_node-requires c = (c.loop-i-test.true, c.requires.0, long (goal.at.put_node-requires c).At-loop-i)

pub shape_of-state : goal.shape_of-state
shape_of-state c = long (goal.at.shape_of-state c).At-loop-i ∙ sym c.requires.2
