use Prim.Native.Nat.{ℕ}
use mathlib.Core.Path.{ap, ◌∙◌}
use lib.Dec.{ltb}
use Rattle.rows.specs.Scan.{row}
use Rattle.rows.proofs.RefusalLaws.{stopped, went}
use Rattle.keeping.specs.Record.{row42}
use Rattle.keeping.specs.Keeping.{number_rows}
use Rattle.keeping.proofs.number_rows.Goals as goal

pub returns-in_err-record_rows : goal.returns-in_err-record_rows
unfolding number_rows
returns-in_err-record_rows c = stopped _ _ _ c.from_residual.ensures.1 c.in_err-record_rows.ensures

pub returns : goal.returns
unfolding number_rows row42
returns c = went c.in_ok-record_rows.ensures (c.tested.ensures ∙ ap (λ (n : ℕ). row (ltb c.args.g n) 42 c.args.g) c.count.ensures.0)
