use mathlib.Core.Path.{sym}
use lib.Seq.{length-take-le}
use Rattle.refusals.proofs.WordLaws.{words_fit}
use Rattle.printing.proofs.print_refusal.Goals as goal

pub slice_bounds-bytes-end : goal.slice_bounds-bytes-end
slice_bounds-bytes-end g c = words_fit _ _ c.refusal-words.ensures

pub slice_bounds-print-end : goal.slice_bounds-print-end
slice_bounds-print-end g c = sym (length-take-le _ _ (words_fit _ _ c.refusal-words.ensures))
