use Rattle.std.proofs.Common.{◌≡◌, sym, ap, ◌∙◌, subst, w64, to_z, of_z}
use Rattle.geometry.specs.Geometry.{east_of, north_of, sides_at, D}
use Rattle.geometry.proofs.SizeLaws.{kept}
use Rattle.location.specs.Private.{Short, for_second, for_third}
use Rattle.location.specs.Location.{weights}
use Rattle.location.proofs.WeightLaws.{first_weight}
use Rattle.location.proofs.SpreadLaws.{Placed, second_short, third_short, own_short, once_fits, twice_fits, left_kept}
use Rattle.location.proofs.seeking.weights_of.Goals as goal
use Rattle.location.proofs.seeking.weights_of.Goals.{After-sides_of, After-sides_of-2, After-twice_area-d, Start}

placed : (s : Start) → Placed s.args.c s.args.p
placed s =
    let c = s.well_formed.0.1.1 in
    let p = s.well_formed.1.0.1.1 in
    record { near = s.requires; x1 = c.0.1; y1 = c.1.1.1.0.1; x = p.0.1; y = p.1.0.1 }

-- the sides with the point for corner 2, and for corner 3
second : (b : After-sides_of) → let a = b.args in b.sides_of.result ≡ sides_at (for_second a.c a.p)
second b = b.sides_of.ensures ∙ ap sides_at b.for_second.ensures

third : (b : After-sides_of-2) → let a = b.args in b.sides_of-2.result ≡ sides_at (for_third a.c a.p)
third b = b.sides_of-2.ensures ∙ ap sides_at b.for_third.ensures

pub twice_area-w2-requires : goal.twice_area-w2-requires
twice_area-w2-requires c = subst Short (sym (second (goal.at.twice_area-w2-requires c).After-sides_of)) (second_short _ _ (placed (goal.at.twice_area-w2-requires c).Start))

pub twice_area-w3-requires : goal.twice_area-w3-requires
twice_area-w3-requires c = subst Short (sym (third (goal.at.twice_area-w3-requires c).After-sides_of-2)) (third_short _ _ (placed (goal.at.twice_area-w3-requires c).Start))

pub twice_area-d-requires : goal.twice_area-d-requires
twice_area-d-requires c = subst Short (sym c.sides_of-3.ensures) (own_short _ _ (placed (goal.at.twice_area-d-requires c).Start))

w2 : (c : After-twice_area-d) → to_z w64 (of_z w64 c.twice_area-w2.result) ≡ D (sides_at (for_second c.args.c c.args.p))
w2 c =
    let second : let a = c.args in c.sides_of.result ≡ sides_at (for_second a.c a.p) = c.sides_of.ensures ∙ ap sides_at c.for_second.ensures in
    kept c.twice_area-w2.type_inv (c.twice_area-w2.ensures ∙ ap D (second))

w3 : (c : After-twice_area-d) → to_z w64 (of_z w64 c.twice_area-w3.result) ≡ D (sides_at (for_third c.args.c c.args.p))
w3 c =
    let third : let a = c.args in c.sides_of-2.result ≡ sides_at (for_third a.c a.p) = c.sides_of-2.ensures ∙ ap sides_at c.for_third.ensures in
    kept c.twice_area-w3.type_inv (c.twice_area-w3.ensures ∙ ap D (third))

d : (c : After-twice_area-d) → to_z w64 (of_z w64 c.twice_area-d.result) ≡ D (sides_at c.args.c)
d c = kept c.twice_area-d.type_inv (c.twice_area-d.ensures ∙ ap D c.sides_of-3.ensures)

pub overflow_sub-w1 : goal.overflow_sub-w1
overflow_sub-w1 c =
    let h = placed (goal.at.overflow_sub-w1 c).Start in
    once_fits _ _ _ (own_short _ _ h) (second_short _ _ h) (third_short _ _ h) (d (goal.at.overflow_sub-w1 c).After-twice_area-d) (w2 (goal.at.overflow_sub-w1 c).After-twice_area-d) (w3 (goal.at.overflow_sub-w1 c).After-twice_area-d)

pub overflow_sub-w1-2 : goal.overflow_sub-w1-2
overflow_sub-w1-2 c =
    let h = placed (goal.at.overflow_sub-w1-2 c).Start in
    twice_fits _ _ _ (own_short _ _ h) (second_short _ _ h) (third_short _ _ h) (d (goal.at.overflow_sub-w1-2 c).After-twice_area-d) (w2 (goal.at.overflow_sub-w1-2 c).After-twice_area-d) (w3 (goal.at.overflow_sub-w1-2 c).After-twice_area-d)

pub returns : goal.returns
unfolding weights sides_at
returns c =
    let h = placed (goal.at.returns c).Start in
    let a = c.args in
    let w1 = left_kept _ _ _ (own_short _ _ h) (second_short _ _ h) (third_short _ _ h) (d (goal.at.returns c).After-twice_area-d) (w2 (goal.at.returns c).After-twice_area-d) (w3 (goal.at.returns c).After-twice_area-d) in
    λ i. record { w1 = (w1 ∙ first_weight (east_of a.c) (north_of a.c) a.p) i; w2 = w2 (goal.at.returns c).After-twice_area-d i; w3 = w3 (goal.at.returns c).After-twice_area-d i; d = d (goal.at.returns c).After-twice_area-d i }
