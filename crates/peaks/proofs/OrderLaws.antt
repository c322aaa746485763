-- `le` is a total order on the floats of size at most 30, which an elevation is. A NaN or an infinity is not among them, and -0 stands level with +0.
use Prim.Native.Nat.{ℕ, ◌+◌, ◌*◌, ◌≤◌}
use mathlib.Core.Path.{◌≡◌, refl, sym, ◌∙◌}
use mathlib.Core.Bool.{Bool, true, false, not, ◌&&◌, ◌||◌, false≢true}
use native.Mathlib.Nat.{zero-mul, le_refl, le_of_lt, lt_of_not-le, mul-le-mul_right, le_of_mul-le-mul_right}
use native.Mathlib.Omega.{arith}
use borrow.Author.Tests.{ltb-true, ltb-false, leb-true, leb-false, le-leb, lt-leb, eqb-true, eq-eqb}
use lib.Dec.{T, leb, ltb, eqb}
use lib.Ieee.{Float, nan, inf, fin, up, down, round, below, level, le}
use lib.Ieee.Scale.{finite}
use lib.Ieee.Positive.{den, den_pos}
use Rattle.rows.specs.Numbers.{within, decimal, minus, in_size}
use Rattle.rows.proofs.ScanLaws.{both_left, both_right}

-- ---- A finite x is (`over x` - `under x`) / `den x`, where one of the two is 0. So `le`, which goes by cases of both signs, is one order of two sums.
abbrev pub part : Bool → ℕ → ℕ
part false a = a
part true a = 0

abbrev pub over : Float → ℕ
over nan = 0
over (inf s) = 0
over (fin s m e) = part s (m * up e)

abbrev pub under : Float → ℕ
under nan = 0
under (inf s) = 0
under (fin s m e) = part (not s) (m * up e)

part_times : (s : Bool) (a d : ℕ) → part s (a * d) ≡ part s a * d
part_times false a d = refl
part_times true a d = sym (zero-mul d)

-- a test that is one of two
either : (p q : Bool) (l r : ℕ) → (p ≡ true → l ≤ r) → (q ≡ true → l ≤ r) → (l ≤ r → p ≡ false → q ≡ true) → (p || q) ≡ leb l r
either true q l r h k n = sym (le-leb l r (h refl))
either false true l r h k n = sym (le-leb l r (k refl))
either false false l r h k n = sym (lt-leb l r (lt_of_not-le (λ c. false≢true (n c refl))))

-- `le` of two fractions with one divisor
signed : (s t : Bool) (a b : ℕ) → (below s a t b || level s a t b) ≡ leb (part s a + part (not t) b) (part t b + part (not s) a)
signed false false a b =
    either (ltb a b) (eqb a b && true) (a + 0) (b + 0)
    (λ h. omega (arith, ltb-true)) (λ h. omega (arith, eqb-true a b (both_left _ _ h))) (λ h k. rw (eq-eqb a b (omega (arith, ltb-false))))
signed false true a b =
    either false (eqb a b && eqb a 0) (a + b) 0
    (λ h. absurd (false≢true h)) (λ h. omega (arith, eqb-true a b (both_left _ _ h), eqb-true a 0 (both_right (eqb a b) _ h))) (λ h k. rw (eq-eqb a b (omega arith), eq-eqb a 0 (omega arith)))
signed true false a b =
    either (ltb 0 (a + b)) (eqb a b && eqb a 0) 0 (b + a)
    (λ h. omega arith) (λ h. omega arith) (λ h k. rw (eq-eqb a b (omega (arith, ltb-false)), eq-eqb a 0 (omega (arith, ltb-false))))
signed true true a b =
    either (ltb b a) (eqb a b && true) (0 + b) (0 + a)
    (λ h. omega (arith, ltb-true)) (λ h. omega (arith, eqb-true a b (both_left _ _ h))) (λ h k. rw (eq-eqb a b (omega (arith, ltb-false))))

-- x ≤ y says that `cross x y` ≤ `cross y x`
abbrev pub cross : Float → Float → ℕ
cross x y = over x * den y + under y * den x

le_is : (x y : Float) → T (finite x) → T (finite y) → le x y ≡ leb (cross x y) (cross y x)
unfolding le
le_is nan y h k = absurd h
le_is (inf s) y h k = absurd h
le_is (fin s m e) nan h k = absurd k
le_is (fin s m e) (inf t) h k = absurd k
le_is (fin s m e) (fin t n d) h k = simp (← part_times) (signed s t (m * up e * down d) (n * up d * down e))

module _ (x y : Float) (f : T (finite x)) (g : T (finite y)) where
  pub cross_of : le x y ≡ true → cross x y ≤ cross y x
  cross_of h = leb-true (cross x y) (cross y x) (sym (le_is x y f g) ∙ h)

  pub of_cross : cross x y ≤ cross y x → le x y ≡ true
  of_cross h = le_is x y f g ∙ le-leb (cross x y) (cross y x) h

  crossed : le x y ≡ false → cross y x ≤ cross x y
  crossed h = le_of_lt (leb-false (cross x y) (cross y x) (sym (le_is x y f g) ∙ h))

-- ---- the order
pub in_size_finite : (x : Float) → in_size 30 x ≡ true → T (finite x)
unfolding within minus decimal round le
in_size_finite nan e = false≢true e
in_size_finite (inf false) e = false≢true e
in_size_finite (inf true) e = false≢true e
in_size_finite (fin s m d) e = tt

pub le_reflexive : (x : Float) → in_size 30 x ≡ true → le x x ≡ true
le_reflexive x i = let f = in_size_finite x i in of_cross x x f f (le_refl (cross x x))

pub le_transitive : (x y z : Float) → in_size 30 x ≡ true → in_size 30 y ≡ true → in_size 30 z ≡ true → le x y ≡ true → le y z ≡ true → le x z ≡ true
le_transitive x y z i j k h l =
    let f = in_size_finite x i in
    let g = in_size_finite y j in
    let n = in_size_finite z k in
    let p = mul-le-mul_right (den z) (cross_of x y f g h) in
    let q = mul-le-mul_right (den x) (cross_of y z g n l) in
    of_cross x z f n (le_of_mul-le-mul_right (omega (arith, p, q)) (den_pos y))

pub le_total : (x y : Float) → in_size 30 x ≡ true → in_size 30 y ≡ true → le x y ≡ false → le y x ≡ true
le_total x y i j h = let f = in_size_finite x i in let g = in_size_finite y j in of_cross y x g f (crossed x y f g h)
