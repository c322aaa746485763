use Prim.Native.Nat.{ℕ, ◌+◌, ◌*◌}
use mathlib.Core.Path.{◌≡◌, sym, ◌∙◌}
use mathlib.Core.List.{List}
use native.Mathlib.Omega.{arith}
use lib.ListN.{length, set, length-set}
use lib.Ieee.{Float}
use Rattle.frames.specs.Reading.{float}
use Rattle.forcings.specs.Forcings.{forcing10}
use Rattle.forcings.proofs.RoomLaws.{fill_none, fill_more, fill_all}
use Rattle.forcings.proofs.fill_10.Goals as goal

-- the line's wind, for every node
abbrev wx : List ℕ → ℕ → Float
wx text _ = float text 11

abbrev wy : List ℕ → ℕ → Float
wy text _ = float text 19

pub loop-i-init : goal.loop-i-init
loop-i-init c =
    let room = set c.args.room.now 0 c.float_at.result in
    let long : length room ≡ 1 + 2 * c.args.n = simp length-set c.requires in
    (omega arith, long, fill_none c.args.n (wx c.args.text.now) (wy c.args.text.now) room long)

pub loop-i-preserved : goal.loop-i-preserved
loop-i-preserved c =
    let room = set c.args.room.now 0 c.float_at.result in
    let put = c.put_wind.ensures in
    let more =
    fill_more c.args.n (wx c.args.text.now) (wy c.args.text.now) room c.loop-i.i c.loop-i-test.true c.loop-i.invariant.2 c.float_at-all_wx.ensures c.float_at-all_wy.ensures put in
    (omega arith, rw put (simp length-set c.loop-i.invariant.1), more)

pub returns : goal.returns
unfolding forcing10
returns c =
    let end : c.loop-i.i ≡ c.args.n = omega arith in
    c.loop-i.invariant.2 ∙ rw end (fill_all c.args.n (wx c.args.text.now) (wy c.args.text.now) c.args.room.now c.requires c.float_at.ensures)

pub put_wind-requires : goal.put_wind-requires
put_wind-requires c = (omega arith, c.loop-i.invariant.1)

pub shape_of-room : goal.shape_of-room
shape_of-room c = c.loop-i.invariant.1 ∙ sym c.requires
