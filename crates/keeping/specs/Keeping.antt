-- Document 02, #106: what is done with a record, after what a call tests before it. "Each leaves the peak record as found."
use Rattle.std.specs.Prelude.{ℕ, Bool, cond, List, Result, Ok, Err, eqb, Float}
use Rattle.rows.specs.declared.Answer.{Answer}
use Rattle.rows.specs.declared.Refusal.{Refusal}
use Rattle.rows.specs.Scan.{accepted, row, ◌then◌}
use Rattle.rows.specs.Refusals.{said}
use Rattle.location.specs.declared.seeking.Point.{Point}
use Rattle.keeping.specs.Record.{count_in, added, all_noted, row43, row41, row42}

-- what an accepted call gives, and what a refused one leaves
abbrev pub if_accepted : {A : Type 0} → Answer → A → A → A
if_accepted a found left = cond (eqb a.number 0) found left

-- "43 …, then 42 for a gauge number not yet given out"
unfoldable pub number_rows : List ℕ → ℕ → Answer
number_rows b g = row43 b then row42 b g

-- ---- a gauge more: the answer, and the number given out
pub record Given : Type 0 where
  pub answer : Answer
  pub gauge : ℕ

-- says: what an error says, be it a refusal of the table or another
abbrev pub given_by : {E : Type 0} → (E → Answer) → Result ℕ E → Given
given_by says (Ok g) = record { answer = accepted; gauge = g }
given_by says (Err e) = record { answer = says e; gauge = 0 }

abbrev pub given_of : Result ℕ Refusal → Given
given_of given = given_by said given

pub record AddOut : Type 0 where
  pub given : Given
  pub left : List ℕ

abbrev pub add_out : Given → List ℕ → AddOut
add_out given left = record { given = given; left = left }

-- asked: what the call tests before; inside: whether a triangle contains the point
unfoldable pub add_answer : Answer → Bool → List ℕ → Answer
add_answer asked inside b = asked then row43 b then row41 b then row inside 40 (count_in b)

unfoldable pub add_of : Answer → Bool → Point → List ℕ → AddOut
add_of asked inside q b =
    let a = add_answer asked inside b in
    add_out (record { answer = a; gauge = if_accepted a (count_in b) 0 }) (if_accepted a (added q b) b)

-- ---- an update. asked: what the call tests before; also: what it tests after 43
pub record UpdateOut : Type 0 where
  pub answer : Answer
  pub left : List ℕ

abbrev pub update_out : Answer → List ℕ → UpdateOut
update_out a left = record { answer = a; left = left }

unfoldable pub update_of : Answer → Answer → (ℕ → Float) → ℕ → List ℕ → UpdateOut
update_of asked also level step b =
    let a = asked then row43 b then also in
    update_out a (if_accepted a (all_noted level step (count_in b) b) b)
