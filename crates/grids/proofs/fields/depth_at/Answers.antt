use Rattle.std.proofs.Common.{◌≡◌, ℕ, ◌-◌, ◌^◌, ◌<◌, ◌≤◌, Bool, true, ◌&&◌, ◌||◌, eqb, leb, List, drop, sym, refl, ap, ◌∙◌, arith, leb-true}
use Rattle.rows.proofs.ScanLaws.{both_left, both_right}
use Rattle.grids.specs.Numbers.{starts_with, without}
use Rattle.grids.specs.Private.{is_end}
use Rattle.grids.proofs.LeftLaws.{ends_front, starts_front, past_left, past_within}
use Rattle.grids.proofs.WordLaws.{never}
use Rattle.grids.proofs.FieldLaws.{run_below, Found, found_digits, found_places, depth_none, depth_seen}
use Rattle.grids.proofs.fields.depth_at.Goals as goal
use Rattle.grids.proofs.fields.depth_at.Goals.{After-digits_at-decimals, then-short, else-short}

-- where the digits, the point and the decimals were found

abbrev text : After-digits_at-decimals → List ℕ
text k = k.args.text.now

abbrev from : After-digits_at-decimals → ℕ
from k = k.past-first.result

abbrev mid : After-digits_at-decimals → ℕ
mid k = k.digits_at-whole.result.end

abbrev point : After-digits_at-decimals → ℕ
point k = k.past-point.result

abbrev end : After-digits_at-decimals → ℕ
end k = k.digits_at-decimals.result.end

found : (k : After-digits_at-decimals) → Found (text k) (from k) (mid k) (point k) (end k)
found k = record {
  digits = k.digits_at-whole.ensures.end;
  pointed = past_left 46 refl (text k) (mid k) k.digits_at-whole.ensures.stop k.past-point.ensures;
  decimals = k.digits_at-decimals.ensures.end;
}

-- a depth that is short has a small number of thousandths
small : (k : After-digits_at-decimals) → (leb (mid k - from k) 9 && leb (end k - point k) 3) ≡ true
    → (k.digits_at-whole.result.value < 10 ^ 9) × (k.digits_at-decimals.result.value < 1000) × (end k - point k ≤ 3)
small k s =
    let nine = leb-true (mid k - from k) 9 (both_left (leb (mid k - from k) 9) (leb (end k - point k) 3) s) in
    let three = leb-true (end k - point k) 3 (both_right (leb (mid k - from k) 9) (leb (end k - point k) 3) s) in (
      run_below (drop (from k) (text k)) 9 k.digits_at-whole.ensures.value (omega (arith, found_digits (found k), nine)),
      run_below (drop (point k) (text k)) 3 k.digits_at-decimals.ensures.value (omega (arith, found_places (found k), three)),
      three,
    )

-- what stands after the digits, and after the decimals

pointed : (k : After-digits_at-decimals) → eqb k.digits_at-whole.result.stop 46 ≡ starts_with 46 (drop (mid k) (text k))
pointed k = ap (λ (b : ℕ). eqb b 46) k.digits_at-whole.ensures.stop ∙ starts_front 46 refl _

ends : (k : After-digits_at-decimals) {e : Bool} → e ≡ (eqb k.digits_at-decimals.result.stop 32 || eqb k.digits_at-decimals.result.stop 10)
    → e ≡ is_end (drop (end k) (text k))
ends k is = is ∙ ap (λ (b : ℕ). eqb b 32 || eqb b 10) k.digits_at-decimals.ensures.stop ∙ ends_front _

signless : (k : After-digits_at-decimals) → drop (from k) (text k) ≡ without 45 (drop k.skip-gap.result.end (text k))
signless k = past_left 45 refl (text k) k.skip-gap.result.end k.skip-gap.ensures.stop k.past-first.ensures

pub returns-then-not-digits-parts-clause-depth_seen : goal.returns-then-not-digits-parts-clause-depth_seen
returns-then-not-digits-parts-clause-depth_seen c =
    let k = (goal.at.returns-then-not-digits-parts-clause-depth_seen c).After-digits_at-decimals in
    depth_none _ (text k) c.skip-gap.result.end c.skip-gap.ensures.left (signless k) (found k) _ _ (pointed k) (ends k c.is_end.ensures) c.if-not-digits-parts.true

pub returns-clause-depth_seen : goal.returns-clause-depth_seen
returns-clause-depth_seen c =
    let k = (goal.at.returns-clause-depth_seen c).After-digits_at-decimals in
    let gap = c.skip-gap.ensures in
    depth_seen _ (text k) c.skip-gap.result.end gap.left (signless k) (found k) _ _ (pointed k) (ends k c.is_end.ensures) c.if-not-digits-parts.false _ _ _ _
    (ap (λ (b : ℕ). eqb b 45) gap.stop ∙ starts_front 45 refl _)
    c.digits_at-whole.ensures.value c.digits_at-decimals.ensures.value
    (λ s. elim c.if-short.branch [ then-short a ↦ a.size-is ∙ a.thousandths-size.ensures.0 | else-short b ↦ absurd (never (sym s ∙ b.if-short.false)) ])
    (elim c.if-short.branch [ then-short a ↦ omega (arith, a.size-is, a.thousandths-size.ensures.1) | else-short b ↦ omega (arith, b.size-is) ])

pub digits_at-whole-requires : goal.digits_at-whole-requires
digits_at-whole-requires c = past_within 45 refl _ _ c.skip-gap.ensures.stop c.past-first.ensures c.skip-gap.ensures.within

pub digits_at-decimals-requires : goal.digits_at-decimals-requires
digits_at-decimals-requires c = past_within 46 refl _ _ c.digits_at-whole.ensures.stop c.past-point.ensures c.digits_at-whole.ensures.within

pub thousandths-size-requires : goal.thousandths-size-requires
thousandths-size-requires c = small (goal.at.thousandths-size-requires c).After-digits_at-decimals c.if-short.true
