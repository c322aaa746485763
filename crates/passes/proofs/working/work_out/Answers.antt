use Prim.Native.Nat.{ℕ}
use mathlib.Core.Path.{sym, ap, ◌∙◌}
use mathlib.Core.Bool.{Bool, cond}
use Rattle.lists.specs.Table.{table, zeros}
use Rattle.passes.specs.Equations.{Given, next_state}
use Rattle.passes.proofs.SettleLaws.{next_state_lem}
use Rattle.passes.specs.Private.{given_of}
use Rattle.passes.proofs.working.work_out.Goals as goal
use Rattle.passes.proofs.working.work_out.Goals.{Start, then-is_ok, else-is_ok}

abbrev its : Start → Given
its s = given_of s.args.g.now

pub returns : goal.returns
returns c =
    let g = its (goal.at.returns c).Start in
    let left = λ (b : Bool). cond b (next_state g) c.args.next.now in record {
      value = (
        c.solve-asked.ensures.0,
        elim c.if-is_ok.branch [
          | then-is_ok w ↦ let e = sym c.is_ok.ensures.value ∙ w.if-is_ok.true in next_state_lem g (c.solve-asked.ensures.1 e) (w.next-is ∙ w.publish.ensures) ∙ sym (ap left e)
          | else-is_ok w ↦ let e = sym c.is_ok.ensures.value ∙ w.if-is_ok.false in w.next-is ∙ sym (ap left e)
        ],
      );
      work_after = (
        c.clear.ensures ∙ ap zeros (c.solve-asked.auto.work ∙ c.requires.next_len.1),
        c.clear_whole.ensures ∙ ap (λ (n : ℕ). table n (λ _. 0)) (c.solve-asked.auto.sums ∙ c.requires.next_len.2),
      );
    }

pub solve-asked-requires : goal.solve-asked-requires
solve-asked-requires c = record { fits = c.requires.fits; work_len = (c.requires.next_len.1, c.requires.next_len.2, c.requires.next_len.3) }

pub publish-requires : goal.publish-requires
publish-requires c = (c.requires.next_len.0, c.requires.fits.state, c.solve-asked.auto.work ∙ c.requires.next_len.1, c.requires.next_len.3)
