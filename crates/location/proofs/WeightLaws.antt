-- The sub-areas of a point: their sum is D, whatever the corners and the point.
use Rattle.std.proofs.Common.{◌≡◌, ℤ, ◌+ℤ◌, ◌-ℤ◌, ◌*ℤ◌, sym, ap, ◌∙◌}
use lib.IntN.{+ℤ_assoc, +ℤ_comm, +ℤ-neg_ℤ_cancel}
use Rattle.lists.specs.Gather.{Three}
use Rattle.location.specs.declared.seeking.Point.{Point}
use Rattle.location.specs.Location.{weights}
use Rattle.location.proofs.WholeLaws.{plus_left_comm, minus_plus, minus_minus, minus_cancel, minus_times_minus}

-- ---- D as three products less three: corner after corner, and back
module _ (x1 x2 x3 y1 y2 y3 : ℤ) where
  abbrev on : ℤ
  on = x1 *ℤ y2 +ℤ x2 *ℤ y3 +ℤ x3 *ℤ y1

  abbrev back : ℤ
  back = x2 *ℤ y1 +ℤ x3 *ℤ y2 +ℤ x1 *ℤ y3

-- the products of D, and what they have alike, k
parted : (a b c d e f k : ℤ) → (a +ℤ k -ℤ (b +ℤ c)) -ℤ (k +ℤ d -ℤ (e +ℤ f)) ≡ (e +ℤ a +ℤ f) -ℤ (b +ℤ d +ℤ c)
parted a b c d e f k =
    minus_minus (a +ℤ k) (b +ℤ c) (k +ℤ d) (e +ℤ f)
    ∙ (λ i. left i -ℤ right i)
    ∙ minus_cancel (e +ℤ a +ℤ f) (b +ℤ d +ℤ c) k
  where
    left : a +ℤ k +ℤ (e +ℤ f) ≡ e +ℤ a +ℤ f +ℤ k
    left = simp (+ℤ_assoc, +ℤ_comm, plus_left_comm)

    right : b +ℤ c +ℤ (k +ℤ d) ≡ b +ℤ d +ℤ c +ℤ k
    right = simp (+ℤ_assoc, +ℤ_comm)

turned : (x1 x2 x3 y1 y2 y3 : ℤ) → (x2 -ℤ x1) *ℤ (y3 -ℤ y1) -ℤ (x1 -ℤ x3) *ℤ (y1 -ℤ y2) ≡ on x1 x2 x3 y1 y2 y3 -ℤ back x1 x2 x3 y1 y2 y3
turned x1 x2 x3 y1 y2 y3 =
    (λ i. minus_times_minus x2 x1 y3 y1 i -ℤ minus_times_minus x1 x3 y1 y2 i)
    ∙ parted (x2 *ℤ y3) (x2 *ℤ y1) (x1 *ℤ y3) (x3 *ℤ y2) (x1 *ℤ y2) (x3 *ℤ y1) (x1 *ℤ y1)

-- ---- the sum
-- of three ways round, each with the point p for one corner: p2 + 23 + 3p, 1p + p3 + 31, 12 + 2p + p1
round : (a b c p2 p3 p1 q1 q2 q3 : ℤ)
    → (p2 +ℤ b +ℤ q3) +ℤ (q1 +ℤ p3 +ℤ c) +ℤ (a +ℤ q2 +ℤ p1) ≡ (a +ℤ b +ℤ c) +ℤ (p1 +ℤ p2 +ℤ p3 +ℤ q1 +ℤ q2 +ℤ q3)
round a b c p2 p3 p1 q1 q2 q3 = simp (+ℤ_assoc, +ℤ_comm, plus_left_comm)

rback : (a b c p2 p3 p1 q1 q2 q3 : ℤ)
    → (q2 +ℤ b +ℤ p3) +ℤ (p1 +ℤ q3 +ℤ c) +ℤ (a +ℤ p2 +ℤ q1) ≡ (a +ℤ b +ℤ c) +ℤ (p1 +ℤ p2 +ℤ p3 +ℤ q1 +ℤ q2 +ℤ q3)
rback a b c p2 p3 p1 q1 q2 q3 = simp (+ℤ_assoc, +ℤ_comm, plus_left_comm)

three : (a b c d e f : ℤ) → (a -ℤ b) +ℤ (c -ℤ d) +ℤ (e -ℤ f) ≡ (a +ℤ c +ℤ e) -ℤ (b +ℤ d +ℤ f)
three a b c d e f = ap (λ (z : ℤ). z +ℤ (e -ℤ f)) (minus_plus a b c d) ∙ minus_plus (a +ℤ c) (b +ℤ d) e f

module _ (x1 x2 x3 y1 y2 y3 p q : ℤ) where
  abbrev passing : ℤ
  passing = p *ℤ y1 +ℤ p *ℤ y2 +ℤ p *ℤ y3 +ℤ x1 *ℤ q +ℤ x2 *ℤ q +ℤ x3 *ℤ q

  ons : on p x2 x3 q y2 y3 +ℤ on x1 p x3 y1 q y3 +ℤ on x1 x2 p y1 y2 q ≡ on x1 x2 x3 y1 y2 y3 +ℤ passing
  ons = round (x1 *ℤ y2) (x2 *ℤ y3) (x3 *ℤ y1) (p *ℤ y2) (p *ℤ y3) (p *ℤ y1) (x1 *ℤ q) (x2 *ℤ q) (x3 *ℤ q)

  backs : back p x2 x3 q y2 y3 +ℤ back x1 p x3 y1 q y3 +ℤ back x1 x2 p y1 y2 q ≡ back x1 x2 x3 y1 y2 y3 +ℤ passing
  backs = rback (x2 *ℤ y1) (x3 *ℤ y2) (x1 *ℤ y3) (p *ℤ y2) (p *ℤ y3) (p *ℤ y1) (x1 *ℤ q) (x2 *ℤ q) (x3 *ℤ q)

pub weights_sum : (x y : Three ℤ) (p : Point) → (weights x y p).w1 +ℤ (weights x y p).w2 +ℤ (weights x y p).w3 ≡ (weights x y p).d
unfolding weights
weights_sum x y p =
    let x1 = x.first in
    let x2 = x.second in
    let x3 = x.third in
    let y1 = y.first in
    let y2 = y.second in
    let y3 = y.third in
    let e = p.x in
    let n = p.y in
    (λ i. turned e x2 x3 n y2 y3 i +ℤ turned x1 e x3 y1 n y3 i +ℤ turned x1 x2 e y1 y2 n i)
    ∙ three (on e x2 x3 n y2 y3) (back e x2 x3 n y2 y3) (on x1 e x3 y1 n y3) (back x1 e x3 y1 n y3) (on x1 x2 e y1 y2 n) (back x1 x2 e y1 y2 n)
    ∙ (λ i. ons x1 x2 x3 y1 y2 y3 e n i -ℤ backs x1 x2 x3 y1 y2 y3 e n i)
    ∙ minus_cancel (on x1 x2 x3 y1 y2 y3) (back x1 x2 x3 y1 y2 y3) (passing x1 x2 x3 y1 y2 y3 e n)
    ∙ sym (turned x1 x2 x3 y1 y2 y3)

-- what two of three summands leave
left_over : (a b c : ℤ) → (a +ℤ b +ℤ c) -ℤ b -ℤ c ≡ a
left_over a b c =
    ap (λ (z : ℤ). z -ℤ c) (ap (λ (z : ℤ). z -ℤ b) swapped ∙ +ℤ-neg_ℤ_cancel (a +ℤ c) b) ∙ +ℤ-neg_ℤ_cancel a c
  where
    swapped : a +ℤ b +ℤ c ≡ a +ℤ c +ℤ b
    swapped = +ℤ_assoc a b c ∙ ap (λ (z : ℤ). a +ℤ z) (+ℤ_comm b c) ∙ sym (+ℤ_assoc a c b)

pub first_weight : (x y : Three ℤ) (p : Point) → (weights x y p).d -ℤ (weights x y p).w2 -ℤ (weights x y p).w3 ≡ (weights x y p).w1
first_weight x y p =
    let w = weights x y p in
    ap (λ (z : ℤ). z -ℤ w.w2 -ℤ w.w3) (sym (weights_sum x y p)) ∙ left_over w.w1 w.w2 w.w3
