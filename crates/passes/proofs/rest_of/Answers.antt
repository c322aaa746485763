use Prim.Native.Nat.{ℕ, ◌*◌}
use mathlib.Core.Path.{sym, ap, ◌∙◌}
use lib.ListN.{length}
use lib.Seq.{length-take-le}
use Rattle.lists.specs.Table.{table, zeros}
use Rattle.passes.specs.Settle.{work_runs}
use Rattle.passes.proofs.TurnLaws.{put_back}
use Rattle.passes.proofs.rest_of.Goals as goal

pub further-made-requires : goal.further-made-requires
further-made-requires c =
    record { shaped = c.requires.shaped; next_len = (c.requires.next_len.0, length-take-le _ _ c.requires.next_len.1, c.requires.next_len.2); from_bound = c.requires.from_bound }

pub returns : goal.returns
returns c =
    let fits = c.requires.next_len.1 in
    let whole = put_back (work_runs * length c.args.m.now.x.now) c.further-made.new.work c.args.work.now (c.further-made.auto.work ∙ length-take-le _ _ fits) fits in
    record { step_value = c.further-made.ensures; work_after = (c.clear.ensures ∙ ap zeros whole, c.clear_whole.ensures ∙ ap (λ (n : ℕ). table n (λ _. 0)) c.further-made.auto.sums) }

pub slice_bounds-further-end : goal.slice_bounds-further-end
slice_bounds-further-end c = c.requires.next_len.1

pub slice_bounds-further-end-2 : goal.slice_bounds-further-end-2
slice_bounds-further-end-2 c = sym (length-take-le _ _ c.requires.next_len.1)
