-- The product's records, from the numbers that a C program passes and gets back one by one. What a call does is said by the product's own
-- definitions (open_of, step_of, step_all_of, save_of, load_of, taken_of, read_of) on these records, and by nothing else.
use Rattle.std.specs.Prelude.{ℕ, not, eqb, Float}
use Rattle.rows.specs.declared.Answer.{Answer}
use Rattle.quantities.specs.declared.Parameters.{Parameters}
use Rattle.surge.specs.declared.Clock.{Clock}
use Rattle.surge.specs.Lent.{Reply}
use Rattle.surge.specs.StepAll.{ListReply}

-- The setting crosses as a byte: 0 is off, every other value on.
abbrev pub parameters : Float → Float → Float → Float → ℕ → Parameters
parameters dt tau k f advection = record { dt = dt; tau = tau; k = k; f = f; advection = not (eqb advection 0) }

abbrev pub clock : ℕ → Clock
clock step = record { step = step }

-- the number is the function's result; the place and the value go through a pointer each
abbrev pub answer : ℕ → ℕ → Float → Answer
answer number place value = record { number = number; place = place; value = value }

abbrev pub reply : Answer → Clock → Reply
reply a k = record { answer = a; clock = k }

abbrev pub list_reply : Reply → ℕ → ListReply
list_reply r accepted = record { reply = r; accepted = accepted }
