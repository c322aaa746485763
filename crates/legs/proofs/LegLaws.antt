-- What row 6 comes to, as the code that tests it has it.
use Prim.Native.Nat.{ℕ, zero, suc, ◌+◌, ◌*◌, ◌%◌, ◌<◌}
use mathlib.Core.Path.{◌≡◌, refl, ap}
use mathlib.Core.Bool.{Bool, true, false, ◌||◌, ◌&&◌, not}
use mathlib.Core.List.{List}
use native.Mathlib.Omega.{arith}
use borrow.Author.Tests.{eqb-true, eqb-false, eq-eqb, ne_eqb}
use mir.Syntax.{w16}
use mir.Val.{Fits}
use lib.Dec.{eqb}
use lib.ListN.{get_or}
use Rattle.rows.specs.declared.Answer.{Answer}
use Rattle.lists.specs.Gather.{Three}
use Rattle.lists.specs.Private.{Below}
use Rattle.rows.specs.Scan.{refused, some}
use Rattle.rows.proofs.ScanLaws.{row_holds, row_fails, some_none, some_hit}
use Rattle.mesh.specs.Lent.{corner, corners}
use Rattle.legs.specs.Legs.{is_leg, leg_seen, row6}
use Rattle.legs.specs.Private.{corner_of}

-- two legs as numbers are equal only where both their ends are: the second end is below the 65536 that the first is counted in
same_leg : (a b c d : ℕ) → b < 65536 → d < 65536 → eqb (a * 65536 + b) (c * 65536 + d) ≡ (eqb a c && eqb b d)
same_leg a b c d h k = go (eqb a c) (eqb b d) refl refl
  where
    go : (p q : Bool) → eqb a c ≡ p → eqb b d ≡ q → eqb (a * 65536 + b) (c * 65536 + d) ≡ (p && q)
    go true true e f = eq-eqb (a * 65536 + b) (c * 65536 + d) (omega (arith, eqb-true a c e, eqb-true b d f))
    go true false e f = ne_eqb (a * 65536 + b) (c * 65536 + d) (λ n. eqb-false b d f (omega (arith, eqb-true a c e)))
    go false q e f = ne_eqb (a * 65536 + b) (c * 65536 + d) (λ n. eqb-false a c e (omega arith))

-- a leg as a number, compared with the three of a triangle
pub one_of_legs : (c : Three ℕ) (from to : ℕ) → Below c 65536 → to < 65536
    → let a = from * 65536 + to in
    (eqb a (c.first * 65536 + c.second) || eqb a (c.second * 65536 + c.third) || eqb a (c.third * 65536 + c.first)) ≡ is_leg c from to
unfolding is_leg
one_of_legs c from to b h =
    rw (same_leg from to c.first c.second h b.second, same_leg from to c.second c.third h b.third, same_leg from to c.third c.first h b.first)

pub corner_below : (c : Three ℕ) (n j : ℕ) → Below c n → corner_of c j < n
corner_below c n zero b = b.first
corner_below c n (suc zero) b = b.second
corner_below c n (suc (suc j)) b = b.third

read_corner : (tri : List ℕ) (t j : ℕ) → j < 3 → corner_of (corners tri t) j ≡ corner tri t j
read_corner tri t zero h = refl
read_corner tri t (suc zero) h = refl
read_corner tri t (suc (suc zero)) h = refl
read_corner tri t (suc (suc (suc j))) h = absurd (omega arith)

-- the corners in a list of numbers of 16 bits
pub corners_small : (tri : List ℕ) → ((k : ℕ) → Fits w16 (get_or tri k 0)) → (t : ℕ) → Below (corners tri t) 65536
corners_small tri f t = record { first = (f _).fits; second = (f _).fits; third = (f _).fits }

-- what is tested of the corners read is what the row says of the list
pub seen_leg : (tri : List ℕ) (t j s : ℕ) {k l : Three ℕ} → j < 3 → k ≡ corners tri t → l ≡ corners tri s
    → is_leg l (corner_of k j) (corner_of k ((j + 1) % 3)) ≡ leg_seen tri t j s
seen_leg tri t j s h p q = rw (p, q, read_corner tri t j h, read_corner tri t ((j + 1) % 3) (omega arith))

module _ (tri : List ℕ) (t : ℕ) where
  pub legs_new : ((s : ℕ) → s < t → some (λ j. leg_seen tri t j s) 3 ≡ false) → (row6 tri t).number ≡ 0
  unfolding row6
  legs_new h = ap (λ (a : Answer). a.number) (row_holds 6 t (ap not (some_none (λ s. some (λ j. leg_seen tri t j s) 3) t h)))

  pub leg_old : (s j : ℕ) → s < t → j < 3 → leg_seen tri t j s ≡ true → row6 tri t ≡ refused 6 t
  unfolding row6
  leg_old s j h k e = row_fails 6 t (ap not (some_hit (λ s. some (λ j. leg_seen tri t j s) 3) t s h (some_hit (λ j. leg_seen tri t j s) 3 j k e)))
