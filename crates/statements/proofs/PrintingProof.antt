-- What is said of the printing program holds.
use mathlib.Core.Path.{refl}
use Rattle.frames.proofs.SpellingLaws.{alike}
use Rattle.forcelog.specs.Printed.{printed}
use Rattle.forcelog.specs.MeshT.{T, T_parameters}
use Rattle.forcelog.proofs.WholeLaws.{by_wholes}
use Rattle.forcelog.proofs.SpellingLaws.{printed_upper}
use Rattle.forcelog.proofs.EmptyLaws.{empty_printed, empty_length}
use Rattle.statements.specs.Printing.{PrintingHolds}

pub printing_holds : PrintingHolds
unfolding T T_parameters
printing_holds =
    record { mesh = refl; parameters = refl; by_wholes = by_wholes; either_case = alike printed printed_upper; empty = empty_printed; six_lines_long = empty_length }
