use Prim.Native.Nat.{ℕ}
use mathlib.Core.Path.{◌≡◌, refl, sym, ap, ◌∙◌}
use native.Mathlib.Omega.{arith}
use borrow.Author.Count.{below_none, below_more}
use Rattle.rows.specs.declared.Answer.{Answer}
use Rattle.rows.specs.Scan.{refused}
use Rattle.rows.proofs.ScanLaws.{scan_none, scan_hit, some_none}
use Rattle.geometry.specs.Geometry.{nodes_of}
use Rattle.mesh.specs.Lent.{corners}
use Rattle.mesh.proofs.SideLaws.{corners_read}
use Rattle.legs.proofs.LegLaws.{corners_small, seen_leg, legs_new, leg_old}
use Rattle.legs.proofs.leg_rows.Goals as goal
use Rattle.legs.proofs.leg_rows.Goals.{At-loop-j, At-loop-s}

six : {a : Answer} {t : ℕ} → a ≡ refused 6 t → a.number ≡ 0 → ⊥
six e z = absurd (omega (arith, ap (λ (b : Answer). b.number) e, z))

-- the corners that were read are those of triangle t, and of the earlier triangle s
later : (l : At-loop-s) → nodes_of l.corners_of-its.result ≡ corners l.args.tri.now l.pairs.t
later l = corners_read _ _ l.pairs-test.true l.corners_of-its.ensures

earlier : (k : At-loop-j) → nodes_of k.corners_of-c.result ≡ corners k.args.tri.now k.loop-s.s
earlier k = corners_read _ _ (omega (arith, k.loop-s-test.true, k.pairs-test.true)) k.corners_of-c.ensures

pub pairs-init : goal.pairs-init
pairs-init c = (refl, below_none _)

pub loop-s-init : goal.loop-s-init
loop-s-init c = (c.pairs.invariant.0, below_none _)

pub loop-j-init : goal.loop-j-init
loop-j-init c = (c.loop-s.invariant.0, below_none _)

pub leg_seen-requires : goal.leg_seen-requires
leg_seen-requires c =
    let at = goal.at.leg_seen-requires c in
    let small = corners_small c.args.tri.now c.type_inv.tri in
    (c.loop-j-test.true, rw (later at.At-loop-s) (small c.pairs.t), rw (earlier at.At-loop-j) (small c.loop-s.s))

pub loop-j-preserved : goal.loop-j-preserved
loop-j-preserved c =
    let at = goal.at.loop-j-preserved c in
    let its = seen_leg c.args.tri.now c.pairs.t c.loop-j.j c.loop-s.s c.loop-j-test.true (later at.At-loop-s) (earlier at.At-loop-j) in
    (c.loop-j.invariant.0, below_more _ _ c.loop-j.invariant.1 (sym its ∙ sym c.leg_seen.ensures ∙ c.if-leg_seen.false))

pub loop-s-preserved : goal.loop-s-preserved
loop-s-preserved c = (c.loop-j.invariant.0, below_more _ _ c.loop-s.invariant.1 (some_none _ 3 (λ q h. c.loop-j.invariant.1 q (omega arith))))

pub pairs-preserved : goal.pairs-preserved
pairs-preserved c = (c.loop-s.invariant.0, below_more _ _ c.pairs.invariant.1 (legs_new _ _ (λ q h. c.loop-s.invariant.1 q (omega arith))))

pub returns-then-leg_seen : goal.returns-then-leg_seen
returns-then-leg_seen c =
    let at = goal.at.returns-then-leg_seen c in
    let its = seen_leg c.args.tri.now c.pairs.t c.loop-j.j c.loop-s.s c.loop-j-test.true (later at.At-loop-s) (earlier at.At-loop-j) in
    let old = leg_old _ _ _ _ c.loop-s-test.true c.loop-j-test.true (sym its ∙ sym c.leg_seen.ensures ∙ c.if-leg_seen.true) in
    c.refuse-answer.ensures ∙ sym old ∙ sym (scan_hit _ _ _ c.pairs-test.true c.pairs.invariant.1 (six old))

pub returns-after-pairs : goal.returns-after-pairs
returns-after-pairs c = c.pairs.invariant.0 ∙ sym (scan_none _ _ (λ k h. c.pairs.invariant.1 k (omega arith)))
