-- The proofs that the trait `Says` asks for, of the table's refusals and of answers.
use Prim.Native.Nat.{ℕ, ◌+◌, ◌<◌}
use mathlib.Core.Path.{◌≡◌, refl, sym, ap, subst, ◌∙◌}
use mathlib.Core.Bool.{Bool, true, false}
use native.Mathlib.Omega.{arith}
use borrow.Author.Tests.{eq-eqb, eqb-true, ltb-true, ltb-false}
use mathlib.Core.Logic.{◌⊎◌, inl, inr}
use lib.Dec.{eqb, ltb, T}
use Rattle.std.specs.Prelude.{cond}
use Rattle.rows.specs.declared.Row.{Row}
use Rattle.rows.specs.declared.Row.TheVariants.{Lengths, Counts, Corner, Side, Area, Leg, Unnamed, Depth, Parameter, State, LastStep, Forcing, NextState, ListLength, Framing, CheckByte, Sequence, MeshSize, Room, Settings, GridField, GridOrder, GridRange, GridRooms, Outside, FullRecord, GaugeNumber, Record}
use Rattle.rows.specs.declared.Refusal.{Refusal}
use Rattle.rows.specs.declared.Answer.{Answer}
use Rattle.rows.specs.Refusals.{number_of, said}
use Rattle.rows.specs.Says.{SaysOf, refusing, itself}

-- ---- a row and its number
row_of : ℕ → Row
row_of n =
    cond (eqb n 2) Counts (cond (eqb n 3) Corner (cond (eqb n 4) Side (cond (eqb n 5) Area (cond (eqb n 6) Leg (cond (eqb n 7) Unnamed (cond (eqb n 8) Depth (cond (eqb n 9) Parameter (cond (eqb n 10) State (cond (eqb n 11) LastStep (cond (eqb n 12) Forcing (cond (eqb n 13) NextState (cond (eqb n 14) ListLength (cond (eqb n 20) Framing (cond (eqb n 21) CheckByte (cond (eqb n 22) Sequence (cond (eqb n 23) MeshSize (cond (eqb n 24) Room (cond (eqb n 25) Settings (cond (eqb n 30) GridField (cond (eqb n 31) GridOrder (cond (eqb n 32) GridRange (cond (eqb n 33) GridRooms (cond (eqb n 40) Outside (cond (eqb n 41) FullRecord (cond (eqb n 42) GaugeNumber (cond (eqb n 43) Record Lengths))))))))))))))))))))))))))

-- it is not 0, an answer has it, and no other row has
known : (r : Row) → (eqb (number_of r) 0 ≡ false) × (ltb (number_of r) 4294967296 ≡ true) × (row_of (number_of r) ≡ r)
unfolding row_of
known Lengths = (refl, refl, refl)
known Counts = (refl, refl, refl)
known Corner = (refl, refl, refl)
known Side = (refl, refl, refl)
known Area = (refl, refl, refl)
known Leg = (refl, refl, refl)
known Unnamed = (refl, refl, refl)
known Depth = (refl, refl, refl)
known Parameter = (refl, refl, refl)
known State = (refl, refl, refl)
known LastStep = (refl, refl, refl)
known Forcing = (refl, refl, refl)
known NextState = (refl, refl, refl)
known ListLength = (refl, refl, refl)
known Framing = (refl, refl, refl)
known CheckByte = (refl, refl, refl)
known Sequence = (refl, refl, refl)
known MeshSize = (refl, refl, refl)
known Room = (refl, refl, refl)
known Settings = (refl, refl, refl)
known GridField = (refl, refl, refl)
known GridOrder = (refl, refl, refl)
known GridRange = (refl, refl, refl)
known GridRooms = (refl, refl, refl)
known Outside = (refl, refl, refl)
known FullRecord = (refl, refl, refl)
known GaugeNumber = (refl, refl, refl)
known Record = (refl, refl, refl)

differ : false ≡ true → ⊥
differ e = subst T (sym e) tt

pub number_positive : (r : Row) → number_of r ≡ 0 → ⊥
number_positive r e = differ (sym (known r).0 ∙ eq-eqb _ 0 e)

pub refusal_same : (a b : Refusal) → said a ≡ said b → a ≡ b
refusal_same a b e =
    let row = sym (known a.row).2 ∙ ap (λ (x : Answer). row_of x.number) e ∙ (known b.row).2 in
    λ i. record { row = row i; place = ap (λ (x : Answer). x.place) e i; value = ap (λ (x : Answer). x.value) e i }

-- a refusal is made of itself
pub refusals_say : SaysOf (λ x r. r ≡ x) said
refusals_say = record { refusal = λ x r e. ap said e; refuses = λ r. number_positive r.row; one = refusal_same }

-- ---- an answer as a refusal
refusing_none : (n : ℕ) → refusing n ≡ 0 → ⊥
unfolding refusing
refusing_none n e = go (eqb n 0) (ltb n 4294967296) refl refl e
  where
    go : (z l : Bool) → eqb n 0 ≡ z → ltb n 4294967296 ≡ l → cond z 4294967296 (cond l n (n + 1)) ≡ 0 → ⊥
    go true l a b e = absurd (omega (arith, e))
    go false true a b e = absurd (differ (sym a ∙ eq-eqb n 0 e))
    go false false a b e = absurd (omega (arith, e))

-- what it is, in its three cases
Case : ℕ → ℕ → Type 0
Case n m = ((n ≡ 0) × (m ≡ 4294967296)) ⊎ (((n < 4294967296) × (m ≡ n)) ⊎ ((4294967296 < n + 1) × (m ≡ n + 1)))

case : (n : ℕ) → Case n (refusing n)
unfolding refusing Case
case n = go (eqb n 0) (ltb n 4294967296) refl refl
  where
    go : (z l : Bool) → eqb n 0 ≡ z → ltb n 4294967296 ≡ l → Case n (cond z 4294967296 (cond l n (n + 1)))
    go true l a b = inl (eqb-true n 0 a, refl)
    go false true a b = inr (inl (ltb-true n 4294967296 b, refl))
    go false false a b = inr (inr (omega (arith, ltb-false n 4294967296 b), refl))

-- the case of 0 apart from the second
refusing_one : (m n : ℕ) → refusing m ≡ refusing n → m ≡ n
unfolding Case
refusing_one m n e = go (case m) (case n)
  where
    go : Case m (refusing m) → Case n (refusing n) → m ≡ n
    go (inl (a, b)) (inl (c, d)) = omega (arith, a, c)
    go (inl (a, b)) (inr (inl (c, d))) = absurd (omega (arith, b, c, d, e))
    go (inl (a, b)) (inr (inr (c, d))) = absurd (omega (arith, b, c, d, e))
    go (inr (inl (a, b))) (inl (c, d)) = absurd (omega (arith, a, b, d, e))
    go (inr (inr (a, b))) (inl (c, d)) = absurd (omega (arith, a, b, d, e))
    go (inr (inl (a, b))) (inr (inl (c, d))) = omega (arith, b, d, e)
    go (inr (inl (a, b))) (inr (inr (c, d))) = absurd (omega (arith, a, b, c, d, e))
    go (inr (inr (a, b))) (inr (inl (c, d))) = absurd (omega (arith, a, b, c, d, e))
    go (inr (inr (a, b))) (inr (inr (c, d))) = omega (arith, b, d, e)

answer_one : (a b : Answer) → itself a ≡ itself b → a ≡ b
answer_one a b e =
    let number = refusing_one a.number b.number (ap (λ (x : Answer). x.number) e) in
    λ i. record { number = number i; place = ap (λ (x : Answer). x.place) e i; value = ap (λ (x : Answer). x.value) e i }

-- a number that is not 0 and that an answer has
pub refusing_same : (n : ℕ) → eqb n 0 ≡ false → ltb n 4294967296 ≡ true → refusing n ≡ n
unfolding refusing
refusing_same n z l = rw z (rw l)

pub itself_same : (a : Answer) → eqb a.number 0 ≡ false → ltb a.number 4294967296 ≡ true → itself a ≡ a
itself_same a z l = λ i. record { number = refusing_same a.number z l i; place = a.place; value = a.value }

-- what says a number that an answer has is that answer
pub itself_back : (a b : Answer) → b.number < 4294967296 → itself a ≡ b → a ≡ b
unfolding Case
itself_back a b l e =
    let number = numbered (case a.number) (ap (λ (x : Answer). x.number) e) in
    λ i. record { number = number i; place = ap (λ (x : Answer). x.place) e i; value = ap (λ (x : Answer). x.value) e i }
  where
    numbered : Case a.number (refusing a.number) → refusing a.number ≡ b.number → a.number ≡ b.number
    numbered (inl (c, d)) n = absurd (omega (arith, l, d, n))
    numbered (inr (inl (c, d))) n = sym d ∙ n
    numbered (inr (inr (c, d))) n = absurd (omega (arith, l, c, d, n))

refusal_itself : (r : Refusal) (a : Answer) → a ≡ said r → itself a ≡ said r
refusal_itself r a e =
    ap itself e ∙ (λ i. record { number = refusing_same (number_of r.row) (known r.row).0 (known r.row).1 i; place = r.place; value = r.value })

pub answers_say : SaysOf (λ r a. a ≡ said r) itself
answers_say = record { refusal = refusal_itself; refuses = λ a. refusing_none a.number; one = answer_one }
