-- What a type has to show whose values are handed on as refusals, beside the table's own.
use Rattle.std.specs.Prelude.{ℕ, ◌≡◌, cond, eqb, ltb, ◌+◌}
use Rattle.rows.specs.declared.Refusal.{Refusal}
use Rattle.rows.specs.declared.Answer.{Answer}
use Rattle.rows.specs.Refusals.{said}

-- made: which values are made of a refusal; says: what a value says
pub record SaysOf {E : Type 0} (made : Refusal → E → Type 0) (says : E → Answer) : Type 0 where
  -- one that is made of a refusal says that refusal
  pub refusal : (r : Refusal) (e : E) → made r e → says e ≡ said r
  -- each refuses
  pub refuses : (e : E) → (says e).number ≡ 0 → ⊥
  -- no two say the same
  pub one : (e f : E) → says e ≡ says f → e ≡ f

-- an answer that is handed on as a refusal says itself. One of number 0 refuses too, and says a number that no answer has, 2^32; those that no answer has
-- make room for it
unfoldable pub refusing : ℕ → ℕ
refusing n = cond (eqb n 0) 4294967296 (cond (ltb n 4294967296) n (n + 1))

abbrev pub itself : Answer → Answer
itself a = record { number = refusing a.number; place = a.place; value = a.value }
