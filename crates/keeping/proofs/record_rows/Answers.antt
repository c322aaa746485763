use Rattle.std.proofs.Common.{rules}
use Prim.Native.Nat.{ℕ}
use mathlib.Core.Path.{ap, ◌∙◌}
use mathlib.Core.Bool.{◌&&◌}
use lib.Dec.{eqb, leb}
use lib.ListN.{length}
use Rattle.rows.specs.Scan.{row}
use Rattle.rows.proofs.RefusalLaws.{stopped, went}
use Rattle.location.specs.Survey.{most}
use Rattle.keeping.specs.Record.{record_bytes, row43}
use Rattle.keeping.proofs.RecordLaws.{seen_fine}
use Rattle.keeping.proofs.record_rows.Goals as goal

pub returns-in_err-tested : goal.returns-in_err-tested
unfolding row43
returns-in_err-tested c =
    stopped _ _ _ c.from_residual.ensures.1
    (c.in_err-tested.ensures ∙ ap (λ (n : ℕ). row (eqb (length c.args.kept.now) record_bytes && leb n most) 43 0) c.count.ensures.0)

pub returns : goal.returns
unfolding row43
returns c =
    went (c.in_ok-tested.ensures ∙ ap (λ (n : ℕ). row (eqb (length c.args.kept.now) record_bytes && leb n most) 43 0) c.count.ensures.0)
    (c.scan.ensures (λ g. row (seen_fine c.args.kept.now g) 43 g) (λ g r l p. search rules))
