use Prim.Native.Nat.{◌-◌}
use mathlib.Core.Path.{◌≡◌, refl, ap, ◌∙◌}
use lib.ListN.{length, take}
use Rattle.rows.proofs.RefusalLaws.{stands, stopped, went}
use Rattle.mesh.specs.Lent.{mesh_of}
use Rattle.bounds.specs.Forcing.{winds_of, elevation_of, row12, weather_rows}
use Rattle.bounds.proofs.ForcingLaws.{weather_long, past_first, long_winds}
use Rattle.passes.specs.Equations.{Given, given, next_state}
use Rattle.passes.specs.Row13.{row13}
use Rattle.passes.specs.Private.{of_forcing}
use Rattle.passes.proofs.SettleLaws.{kept, next_state_lem}
use Rattle.passes.proofs.TurnLaws.{later_lem}
use Rattle.passes.proofs.turns.go_on.Goals as goal
use Rattle.passes.proofs.turns.go_on.Goals.{Start}

-- what is given to the passes, with the winds as the part of the forcing past its elevation
abbrev lent : Start → Given
lent s = let a = s.args in given (mesh_of a.m.now) a.p a.next.now (elevation_of a.f.now) (take (length a.f.now - 1) (winds_of a.f.now))

same : (s : Start) → lent s ≡ of_forcing (mesh_of s.args.m.now) s.args.p s.args.f.now s.args.next.now
same s = let a = s.args in λ i. given (mesh_of a.m.now) a.p a.next.now (elevation_of a.f.now) (past_first a.f.now i)

-- a forcing of this length is asked row 12 alone
weather : (s : Start) → let a = s.args in weather_rows (length a.m.now.x.now) a.f.now ≡ row12 (length a.m.now.x.now) a.f.now
weather s = weather_long (length s.args.m.now.x.now) s.args.f.now s.requires.next_len.3

pub returns-in_err-may_count : goal.returns-in_err-may_count
returns-in_err-may_count c = (stopped _ _ _ c.from_residual.ensures.1 c.in_err-may_count.ensures ∙ later_lem _ _ _ _ _, kept _ _ c.from_residual.ensures.0)

pub returns-in_err-weather_rows : goal.returns-in_err-weather_rows
returns-in_err-weather_rows c =
    let s = (goal.at.returns-in_err-weather_rows c).Start in
    let r = c.from_residual-in_err-weather_rows.ensures in
    (went c.in_ok-may_count.ensures (stopped _ _ _ r.1 (c.in_err-weather_rows.ensures ∙ weather s)) ∙ later_lem _ _ _ _ _, kept _ _ r.0)

pub solve-requires : goal.solve-requires
solve-requires c =
    let f = c.args.f.now in record {
      fits = record { shape = c.requires.shaped; state = c.requires.next_len.0; setting = refl };
      work_len = (c.requires.next_len.1, c.requires.next_len.2, ap length (past_first f) ∙ long_winds (length c.args.m.now.x.now) f c.requires.next_len.3);
    }

pub returns-in_err-solve : goal.returns-in_err-solve
returns-in_err-solve c =
    let s = (goal.at.returns-in_err-solve c).Start in
    let r = c.from_residual-in_err-solve.ensures in
    (went c.in_ok-may_count.ensures (went (c.in_ok-weather_rows.ensures ∙ weather s) (stands _ _ r.1 (c.in_err-solve.ensures.0 ∙ ap row13 (same s)))) ∙ later_lem _ _ _ _ _, kept _ _ r.0)

pub replace-requires : goal.replace-requires
replace-requires c =
    let a = c.requires.next_len in
    (a.0, c.solve.auto.work ∙ a.1, ap length (past_first c.args.f.now) ∙ long_winds (length c.args.m.now.x.now) c.args.f.now a.3)

pub returns : goal.returns
returns c =
    let s = (goal.at.returns c).Start in (
      went c.in_ok-may_count.ensures (went (c.in_ok-weather_rows.ensures ∙ weather s) (c.in_ok-solve.ensures.0 ∙ ap row13 (same s))) ∙ later_lem _ _ _ _ _,
      next_state_lem (lent s) (c.in_ok-solve.ensures.1 refl) c.replace.ensures ∙ ap next_state (same s),
    )
