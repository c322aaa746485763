use Prim.Native.Nat.{ℕ, ◌+◌, ◌*◌, ◌/◌}
use mathlib.Core.Path.{◌≡◌, sym, ap, ◌∙◌}
use mathlib.Core.Bool.{Bool}
use lib.ListN.{length}
use lib.Dec.{leb}
use Rattle.rows.specs.Refusals.{answered_by}
use Rattle.rows.specs.Scan.{row}
use Rattle.rows.proofs.RefusalLaws.{stopped_by, made_by, turned_by, went}
use Rattle.bounds.specs.Forcing.{forcing_length, row14, list_rows}
use Rattle.bounds.proofs.ForcingLaws.{few_forcings}
use Rattle.bounds.proofs.list_rows.Goals as goal

few : (l n : ℕ) → row (leb ((l + 4095) / 4096) (forcing_length n)) 14 0 ≡ row (leb l (4096 * forcing_length n)) 14 0
few l n = ap (λ (b : Bool). row b 14 0) (few_forcings l (forcing_length n))

pub returns-in_err-tested : goal.returns-in_err-tested
unfolding list_rows row14
returns-in_err-tested g c =
    turned_by g.met.E.Says.laws _ _ _ c.from_residual.ensures.1 (c.in_err-tested.ensures ∙ few (length c.args.list.now) (length c.args.m.now.x.now))

pub returns-in_err-asked : goal.returns-in_err-asked
unfolding list_rows row14
returns-in_err-asked g c =
    went (c.in_ok-tested.ensures ∙ few (length c.args.list.now) (length c.args.m.now.x.now))
    (stopped_by g.met.E.Says.laws _ _ _ c.from_residual-in_err-asked.ensures.1 (sym (ap (answered_by g.E.Says.says) c.in_err-asked.was)))

pub returns-in_err-tested-2 : goal.returns-in_err-tested-2
unfolding list_rows row14
returns-in_err-tested-2 g c =
    went (c.in_ok-tested.ensures ∙ few (length c.args.list.now) (length c.args.m.now.x.now))
    (went (sym (ap (answered_by g.E.Says.says) c.in_ok-asked.was))
    (made_by g.met.E.Says.laws _ _ c.from_residual-in_err-tested-2.ensures.1 c.in_err-tested-2.ensures))

pub returns : goal.returns
unfolding list_rows row14
returns g c =
    went (c.in_ok-tested.ensures ∙ few (length c.args.list.now) (length c.args.m.now.x.now))
    (went (sym (ap (answered_by g.E.Says.says) c.in_ok-asked.was)) c.in_ok-tested-2.ensures)
