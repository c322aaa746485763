-- Document 01, row 13 of the refusal table: what becomes of a node, and the answer for it.
use Rattle.std.specs.Prelude.{ℕ, cond, Float}
use Rattle.std.specs.Float.Ieee.{le}
use Rattle.rows.specs.Scan.{accepted, ◌then◌}
use Rattle.rows.specs.Numbers.{in_size}
use Rattle.rows.specs.declared.Answer.{Answer}
use Rattle.quantities.specs.declared.Flow.{Flow}
use Rattle.quantities.specs.Operations.{◌⊕◌}
use Rattle.quantities.specs.Constants.{tenth}
use Rattle.outcomes.specs.declared.Outcome.{Outcome}
use Rattle.outcomes.specs.declared.Outcome.TheVariants.{Accepted, Elevation, Column, East, North}

-- "z' beyond 30, H' below 0.1"; "node by node, size, then H'"
unfoldable pub of_rise : Float → Float → Outcome
of_rise h z' =
    let H' = h ⊕ z' in
    cond (in_size 30 z') (cond (le tenth H') (Accepted z') (Column H')) (Elevation z')

-- "U' or V' beyond 20"
unfoldable pub speed : Float → Outcome → Outcome
speed v refusal = cond (in_size 20 v) (Accepted v) refusal

abbrev pub of_east : Float → Outcome
of_east U' = speed U' (East U')

abbrev pub of_north : Float → Outcome
of_north V' = speed V' (North V')

-- "The offending value comes back with its node: z', H', U' or V'."
abbrev pub offending : ℕ → Float → Answer
offending node v = record { number = 13; place = node; value = v }

-- "Where an answer is an enum, a definition sets out this paper's number and values for each of its cases."
abbrev pub answer_of : Outcome → ℕ → Answer
answer_of (Accepted v) node = accepted
answer_of (Elevation z') node = offending node z'
answer_of (Column H') node = offending node H'
answer_of (East U') node = offending node U'
answer_of (North V') node = offending node V'

-- | 13 | z' beyond 30, H' below 0.1, U' or V' beyond 20 | node |
-- "all z' first (node by node, size, then H')": of node i with depth h and z'
unfoldable pub rise_row : Float → Float → ℕ → Answer
rise_row h z' i = answer_of (of_rise h z') i

-- "then, node by node, U' before V'"
unfoldable pub flow_row : Flow → ℕ → Answer
flow_row v i = answer_of (of_east v.u) i then answer_of (of_north v.v) i
