-- The examples of document 01 that are marked P hold, by computation.
use mathlib.Core.Path.{refl}
use Rattle.worked.specs.Examples.{examples, ExamplesHold}
use Rattle.worked.proofs.Computing.{arithmetic, tables, the_rows, the_formulas, the_equations, the_frames, the_calls}

pub examples_hold : ExamplesHold
unfolding examples arithmetic tables the_rows the_formulas the_equations the_frames the_calls
examples_hold = refl
