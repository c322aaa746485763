use Prim.Native.Nat.{◌/◌, ◌≤◌}
use mathlib.Core.Path.{◌≡◌, refl, sym, ap, ◌∙◌}
use mathlib.Core.Bool.{false}
use native.Mathlib.Omega.{arith}
use borrow.Author.Tests.{lt-ltb, le-ltb}
use lib.Dec.{ltb}
use lib.ListN.{length, get_or}
use lib.Ieee.{nan}
use mir.Syntax.{w32}
use mir.Val.{to_z, of_z}
use Rattle.rows.proofs.RefusalLaws.{refuses, accepts}
use Rattle.geometry.proofs.SizeLaws.{kept_as}
use Rattle.location.specs.Survey.{sightings_of, unseen}
use Rattle.location.proofs.SightLaws.{handed_back}
use Rattle.looking.specs.Lent.{lent_of}
use Rattle.looking.specs.Looking.{found_in, is_on, triangle_at, level_at}
use Rattle.looking.proofs.LookLaws.{elements_length, look_answer, triangle_seen, level_seen, sight_refused, sight_accepted, off_found, few_triangles}
use Rattle.looking.proofs.look_at.Goals as goal
use Rattle.looking.proofs.look_at.Goals.{In_ok-seen}

pub returns-in_err-seen : goal.returns-in_err-seen
unfolding unseen
returns-in_err-seen c =
    ap (found_in (lent_of c.args.lent.now)) (handed_back _ _ c.from_residual.ensures.1)
    ∙ sight_refused (lent_of c.args.lent.now) _ (look_answer _ _ (sym (ap sightings_of c.in_err-seen.was) ∙ c.look.ensures)) (refuses c.in_err-seen.field-0.0 refl)

-- where the rows accept: the point is the one that was asked, and what was seen there
here : (c : In_ok-seen) → record { x = to_z w32 (of_z w32 c.args.q.x); y = to_z w32 (of_z w32 c.args.q.y) } ≡ c.args.q
here c =
    let q = c.args.q in
    let g = c.well_formed.1.0.1.1 in
    λ i. record { x = kept_as w32 {r = q.x} (record { sfits = g.0.1 }) refl i; y = kept_as w32 {r = q.y} (record { sfits = g.1.0.1 }) refl i }

triangle : (c : In_ok-seen) → get_or c.in_ok-seen.seen.triangle 0 0 ≡ triangle_at (lent_of c.args.lent.now) c.args.q
triangle c =
    triangle_seen _ _ (sym (ap sightings_of c.in_ok-seen.was) ∙ c.look.ensures) refl 0 (omega arith) (omega arith) ∙ ap (triangle_at (lent_of c.args.lent.now)) (here c)

level : (c : In_ok-seen) → get_or c.in_ok-seen.seen.level 0 nan ≡ level_at (lent_of c.args.lent.now) c.args.q
level c = level_seen _ _ (sym (ap sightings_of c.in_ok-seen.was) ∙ c.look.ensures) refl 0 (omega arith) (omega arith) ∙ ap (level_at (lent_of c.args.lent.now)) (here c)

inside : (c : In_ok-seen) → ltb (get_or c.in_ok-seen.seen.triangle 0 0) (length c.args.lent.now.tri.now / 2 / 3) ≡ is_on (lent_of c.args.lent.now) c.args.q
inside c = λ i. ltb (triangle c i) (sym (elements_length 2 (λ n. n) c.args.lent.now.tri.now) i / 3)

few : (c : In_ok-seen) → get_or c.in_ok-seen.seen.triangle 0 0 ≤ 8192
few c = rw (triangle c) (few_triangles (lent_of c.args.lent.now) c.args.q (accepts (look_answer _ _ (sym (ap sightings_of c.in_ok-seen.was) ∙ c.look.ensures))))

pub overflow_cast-result : goal.overflow_cast-result
overflow_cast-result c = record { fits = omega (arith, few (goal.at.overflow_cast-result c).In_ok-seen) }

pub returns-then-triangle-lent : goal.returns-then-triangle-lent
returns-then-triangle-lent c =
    let e = (goal.at.returns-then-triangle-lent c).In_ok-seen in
    sight_accepted (lent_of c.args.lent.now) c.args.q (look_answer _ _ (sym (ap sightings_of c.in_ok-seen.was) ∙ c.look.ensures)) refl (triangle e) (sym (lt-ltb _ _ c.if-triangle-lent.true) ∙ inside e) (level e)

pub returns-else-triangle-lent : goal.returns-else-triangle-lent
returns-else-triangle-lent c =
    let e = (goal.at.returns-else-triangle-lent c).In_ok-seen in
    let off : false ≡ is_on (lent_of c.args.lent.now) c.args.q = sym (le-ltb _ _ c.if-triangle-lent.false) ∙ inside e in
    let found = off_found (lent_of c.args.lent.now) c.args.q (sym off) in
    sight_accepted (lent_of c.args.lent.now) c.args.q (look_answer _ _ (sym (ap sightings_of c.in_ok-seen.was) ∙ c.look.ensures)) refl found.0 off found.1
