use mathlib.Core.Path.{refl, ap, ◌∙◌}
use Rattle.saves.specs.Save.{SaveOut}
use Rattle.forcelog.proofs.SavableLaws.{end_saved, is_saved}
use Rattle.printing.proofs.save_text.Goals as goal

pub unwrap-requires : goal.unwrap-requires
unwrap-requires c = is_saved _ c.requires _ refl c.end.result _ c.end.ensures

pub returns : goal.returns
returns c = ap (λ (o : SaveOut). o.text) (c.end.ensures ∙ end_saved _ c.requires _ refl)
