-- The elevation of a gauge is a mean with whole weights, rounded at each of its six operations. It is not beyond 30 in size where the three elevations are not.
-- A whole number b below 2^53 is a float, and rounding keeps the order, so that what is at most b in size is so when it is rounded too.
use Prim.Native.Nat.{ℕ, suc, ◌+◌, ◌-◌, ◌*◌, ◌/◌, ◌^◌, ◌≤◌, ◌<◌, zero-le}
use mathlib.Core.Path.{◌≡◌, sym, ap, ◌∙◌}
use mathlib.Core.Bool.{Bool, true, false, not, cond, beq}
use native.Mathlib.Nat.{le_refl, le_trans, le_of_eq, lt_of_le_of_lt, lt_of_lt_of_le, zero-lt-suc, mul-pos, mul_assoc, mul-one, mul-le-mul, mul-le-mul_right, mul-lt-mul_of_pos_right, le_of_mul-le-mul_right, mul-mul-mul_comm, div-one, mod-one, div-lt_iff_lt-mul}
use native.Mathlib.Omega.{arith}
use borrow.Author.Tests.{ne_eqb}
use lib.Dec.{ltb, lit≤, lit<}
use lib.IntN.{ℤ, pos}
use lib.Pow.{pow-add, pow_pos, pow_mono, shl_lt}
use lib.Ieee.{Float, nan, inf, fin, Format, binary32, binary64, prec, emax, low, up, down, round, add, mul, div, of_int, le}
use lib.Ieee.Digits.{size-le, back}
use lib.Ieee.Fits.{up_pos, down_pos, round_is}
use lib.Ieee.Exact.{HasValue, units_val}
use lib.Ieee.Back.{round_whole}
use lib.Ieee.Nearest.{closest, closest_mono}
use lib.Ieee.Order.{drop, kept}
use lib.Ieee.Positive.{first_pos}
use Rattle.rows.specs.Numbers.{within, decimal, minus, in_size}
use Rattle.rows.proofs.ScanLaws.{both_left, both_right}
use Rattle.quantities.specs.Operations.{◌⊕◌, ◌⊗◌, ◌⊘◌}
use Rattle.peaks.proofs.OrderLaws.{part, in_size_finite, cross_of, of_cross}

-- finite, and at most b in size
pub data AtMost (b : ℕ) : Float → Type 0 where
  at_most : (s : Bool) (m : ℕ) (e : ℤ) → m * up e ≤ b * down e → AtMost b (fin s m e)

-- ---- rounding
-- n / u of at most q, rounded to a whole number, is at most q
closest_under : (n u q : ℕ) → 0 < u → n ≤ q * u → closest n u ≤ q
closest_under n u q U h = le_trans (closest_mono n u q 1 U (zero-lt-suc 0) (omega arith)) (rw (div-one, mod-one) (le_refl q))

-- n / den is a fraction of at most b in units of 2 ^ -l. It drops only digits that stand after the point, where b has none: b is one of the numbers that it may be rounded to.
kept_under : (p l n den b : ℕ) → 0 < den → b < 2 ^ p → n ≤ b * 2 ^ l * den → kept p n den * 2 ^ drop p n den ≤ b * 2 ^ l
kept_under p l n den b D B h =
    let k = drop p n den in
    let q = b * 2 ^ (l - k) in
    let digits = size-le (n / den) (p + l) ((div-lt_iff_lt-mul D).1 (lt_of_le_of_lt h (mul-lt-mul_of_pos_right (shl_lt p l B) D))) in
    let whole : q * 2 ^ k ≡ b * 2 ^ l = mul_assoc b _ _ ∙ ap (λ (x : ℕ). b * x) (sym (pow-add 2 (l - k) k) ∙ ap (λ (x : ℕ). 2 ^ x) (back l k (omega arith))) in
    rw (← whole) (mul-le-mul_right (2 ^ k) (closest_under n (den * 2 ^ k) q (mul-pos D (pow_pos k)) (omega (arith, ap (λ (x : ℕ). x * den) whole))))

-- b is not so large that it would be an infinity
room : (f : Format) → prec f + low f ≤ low f + suc (emax f)
room binary32 = lit≤ tt
room binary64 = lit≤ tt

-- by the fraction a / c that x is in size
of_value : (x : Float) (s : Bool) {a b c : ℕ} → 0 < c → a ≤ b * c → HasValue x s a c → AtMost b x
of_value nan s C h v = absurd v
of_value (inf t) s C h v = absurd v
of_value (fin t m e) s C h v = at_most t m e (le_of_mul-le-mul_right (omega (arith, v.1, mul-le-mul_right (down e) h)) C)

pub round_at_most : (f : Format) (s : Bool) {num den b : ℕ} → 0 < den → b < 2 ^ prec f → num ≤ b * den → AtMost b (round f s num den)
round_at_most f s {num} {den} {b} D B h =
    let n = num * 2 ^ low f in
    let below = kept_under (prec f) (low f) n den b D B (omega (arith, mul-le-mul_right (2 ^ low f) h)) in
    let finite = lt_of_le_of_lt below (lt_of_lt_of_le (shl_lt (prec f) (low f) B) (pow_mono (room f))) in
    rw (round_is f s num den) (of_value _ s (pow_pos (low f)) below (units_val f s (kept (prec f) n den) (drop (prec f) n den) finite))

-- ---- the operations
pub whole_at_most : (n : ℕ) → n < 2 ^ 53 → AtMost n (of_int binary64 (pos n))
unfolding of_int
whole_at_most n B = round_at_most binary64 false (zero-lt-suc 0) B (le_of_eq (sym (mul-one n)))

pub times_at_most : {a b : ℕ} {x y : Float} → a * b < 2 ^ 53 → AtMost a x → AtMost b y → AtMost (a * b) (x ⊗ y)
unfolding mul
times_at_most {a} {b} B (at_most s m e h) (at_most t n d k) =
    round_at_most binary64 _ (mul-pos (down_pos e) (down_pos d)) B (le_trans (mul-le-mul h k) (le_of_eq (mul-mul-mul_comm a (down e) b (down d))))

choose : {b : ℕ} (c : Bool) {x y : Float} → AtMost b x → AtMost b y → AtMost b (cond c x y)
choose true h k = h
choose false h k = k

-- whatever the signs: what is rounded is the sum of the two sizes or a difference of them
pub plus_at_most : {a b : ℕ} {x y : Float} → a + b < 2 ^ 53 → AtMost a x → AtMost b y → AtMost (a + b) (x ⊕ y)
unfolding add
plus_at_most {a} {b} B (at_most s m e h) (at_most t n d k) =
    let p = mul-le-mul_right (down d) h in
    let q = mul-le-mul_right (down e) k in
    let c = mul-pos (down_pos e) (down_pos d) in
    choose (beq s t) (round_at_most binary64 _ c B (omega arith))
    (choose (ltb (m * up e * down d) (n * up d * down e)) (round_at_most binary64 _ c B (omega arith)) (round_at_most binary64 _ c B (omega arith)))

-- by a whole number c
pub over_at_most : {b c : ℕ} {x : Float} (y : Float) → b < 2 ^ 53 → 0 < c → AtMost (b * c) x → HasValue y false c 1 → AtMost b (x ⊘ y)
unfolding div
over_at_most nan B C h v = absurd v
over_at_most (inf u) B C h v = absurd v
over_at_most {b} {c} (fin u n d) B C (at_most s m e h) v =
    let N : 0 < n = first_pos n (up d) (omega (arith, v.1, mul-pos C (down_pos d))) in
    rw (ne_eqb n 0 (λ z. omega (arith, z)))
    (round_at_most binary64 _ (mul-pos (mul-pos N (up_pos d)) (down_pos e)) B (omega (arith, mul-le-mul_right (down d) h, ap (λ (z : ℕ). b * down e * z) v.1)))

-- ---- what the documents call a size of at most 30
-- of a number above zero the upper limit says it, of one below zero the lower
of_in_size : (x : Float) → in_size 30 x ≡ true → AtMost 30 x
unfolding within minus decimal round
of_in_size nan i = absurd (in_size_finite nan i)
of_in_size (inf s) i = absurd (in_size_finite (inf s) i)
of_in_size (fin false m e) i = let h = cross_of (fin false m e) (decimal 30 1) tt tt (both_right (le (minus 30 1) (fin false m e)) _ i) in at_most false m e (omega arith)
of_in_size (fin true m e) i = let h = cross_of (minus 30 1) (fin true m e) tt tt (both_left _ _ i) in at_most true m e (omega arith)

part_le : (s : Bool) (a : ℕ) → part s a ≤ a
part_le false a = le_refl a
part_le true a = zero-le

in_size_lem : {x : Float} → AtMost 30 x → in_size 30 x ≡ true
unfolding within minus decimal round
in_size_lem (at_most s m e h) =
    rw (of_cross (minus 30 1) (fin s m e) tt tt (omega (arith, part_le (not s) (m * up e))), of_cross (fin s m e) (decimal 30 1) tt tt (omega (arith, part_le s (m * up e))))

-- ---- the mean
weighed : (w : ℕ) (z : Float) → w ≤ 20000000000 → in_size 30 z ≡ true → AtMost (w * 30) (of_int binary64 (pos w) ⊗ z)
weighed w z l i = times_at_most (omega arith) (whole_at_most w (omega arith)) (of_in_size z i)

-- 30 * w1 + 30 * w2 + 30 * w3 is 30 * d, which is below 2^53
pub level_bounded : (w1 w2 w3 d : ℕ) (z1 z2 z3 : Float) → 0 < d → w1 + w2 + w3 ≡ d → d ≤ 20000000000
    → in_size 30 z1 ≡ true → in_size 30 z2 ≡ true → in_size 30 z3 ≡ true
    → in_size 30 (((of_int binary64 (pos w1) ⊗ z1 ⊕ of_int binary64 (pos w2) ⊗ z2) ⊕ of_int binary64 (pos w3) ⊗ z3) ⊘ of_int binary64 (pos d)) ≡ true
unfolding of_int
level_bounded w1 w2 w3 d z1 z2 z3 D e l i1 i2 i3 =
    let all : w1 * 30 + w2 * 30 + w3 * 30 ≡ 30 * d = omega arith in
    let total = plus_at_most (omega arith) (plus_at_most (omega arith) (weighed w1 z1 (omega arith) i1) (weighed w2 z2 (omega arith) i2)) (weighed w3 z3 (omega arith) i3) in
    in_size_lem (over_at_most (of_int binary64 (pos d)) (lit< tt) D (rw all at total) (round_whole binary64 false d (omega arith)))
