-- Document 01, "Refusal table": what a row answers, rows in order, and the first place at which a row refuses.
use Rattle.std.specs.Prelude.{ℕ, zero, suc, Bool, true, false, ◌||◌}
use Rattle.rows.specs.declared.Answer.{Answer}
use Rattle.rows.specs.Numbers.{plus0}

-- "Each answer has number, place and value; the value is +0 except at 13"
abbrev pub refused : ℕ → ℕ → Answer
refused number place = record { number = number; place = place; value = plus0 }

-- "An accepted call has number 0 and place 0"
abbrev pub accepted : Answer
accepted = refused 0 0

-- a row: it accepts where its test holds, and refuses with its number at its place where it does not
unfoldable pub row : Bool → ℕ → ℕ → Answer
row true number place = accepted
row false number place = refused number place

-- the first of two answers that refuses
infixr 5 ◌then◌
unfoldable pub ◌then◌ : Answer → Answer → Answer
a then b = unless a.number
  where
    unless : ℕ → Answer
    unless zero = b
    unless (suc n) = a

-- "the first place in each": the answers at 0, 1, .. , n of them, each unless one before it refuses
unfoldable pub scan : (ℕ → Answer) → ℕ → Answer
scan f zero = accepted
scan f (suc n) = f zero then scan (λ k. f (suc k)) n

-- some place below n passes a test
unfoldable pub some : (ℕ → Bool) → ℕ → Bool
some test zero = false
some test (suc n) = some test n || test n
