use mathlib.Core.Path.{◌≡◌}
use Rattle.editions.specs.Editions.{lines_of}
use Rattle.loads.proofs.NodeLaws.{filled_to}
use Rattle.loads.proofs.loading.SaveText.fill.Given as goal

abbrev pub invariant-loop-i : goal.invariant-loop-i
invariant-loop-i l = l.state ≡ filled_to (lines_of l.self.edition) l.self.n l.self.text.now l.h l.initial.state l.i
