use Prim.Native.Nat.{ℕ, suc, ◌+◌, ◌*◌}
use mathlib.Core.Path.{◌≡◌, sym, ap, ◌∙◌}
use mathlib.Core.List.{List}
use native.Mathlib.Omega.{arith}
use lib.ListN.{length, set, length-set}
use lib.Ieee.{Float}
use Rattle.frames.specs.Reading.{float}
use Rattle.frames.specs.Texts.{start_of, line_at}
use Rattle.forcings.specs.Forcings.{forcing_lines, forcing14}
use Rattle.forcings.proofs.ForcingLaws.{start_wind}
use Rattle.forcings.proofs.RoomLaws.{fill_none, fill_more, fill_all}
use Rattle.forcings.proofs.fill_14.Goals as goal
use Rattle.forcings.proofs.fill_14.Goals.{After-part-line}

-- each line's wind, for its node
abbrev wx : List ℕ → ℕ → Float
wx text k = float (line_at forcing_lines text (suc k)) 3

abbrev wy : List ℕ → ℕ → Float
wy text k = float (line_at forcing_lines text (suc k)) 11

pub loop-i-init : goal.loop-i-init
loop-i-init c =
    let room = set c.args.room.now 0 c.float_at.result in
    let long : length room ≡ 1 + 2 * c.args.n = simp length-set c.requires.0 in
    (omega arith, long, fill_none c.args.n (wx c.args.text.now) (wy c.args.text.now) room long)

-- the line of node i
its : (c : After-part-line) → c.part-line.result.now ≡ line_at forcing_lines c.args.text.now (suc c.loop-i.i)
its c = rw (start_wind c.loop-i.i) c.part-line.ensures

pub loop-i-preserved : goal.loop-i-preserved
loop-i-preserved c =
    let room = set c.args.room.now 0 c.float_at.result in
    let put = c.put_wind.ensures in
    let more =
    fill_more c.args.n (wx c.args.text.now) (wy c.args.text.now) room c.loop-i.i c.loop-i-test.true c.loop-i.invariant.2
    (c.float_at-wx.ensures ∙ ap (λ (line : List ℕ). float line 3) (its (goal.at.loop-i-preserved c).After-part-line)) (c.float_at-wy.ensures ∙ ap (λ (line : List ℕ). float line 11) (its (goal.at.loop-i-preserved c).After-part-line)) put in
    (omega arith, rw put (simp length-set c.loop-i.invariant.1), more)

pub returns : goal.returns
unfolding forcing14 start_of
returns c =
    let end : c.loop-i.i ≡ c.args.n = omega arith in
    c.loop-i.invariant.2
    ∙ rw end (fill_all c.args.n (wx c.args.text.now) (wy c.args.text.now) c.args.room.now c.requires.0 (c.float_at.ensures ∙ rw c.part.ensures))

pub put_wind-requires : goal.put_wind-requires
put_wind-requires c = (omega arith, c.loop-i.invariant.1)

pub shape_of-room : goal.shape_of-room
shape_of-room c = c.loop-i.invariant.1 ∙ sym c.requires.0
