-- Row 40, and the lowest-numbered triangle that contains a point.
use Prim.Native.Nat.{ℕ, ◌<◌, ◌≤◌}
use mathlib.Core.Path.{◌≡◌, refl, sym, ap, subst, ◌∙◌}
use mathlib.Core.Bool.{Bool, true, false, not, false≢true}
use mathlib.Core.List.{List}
use native.Mathlib.Nat.{le_refl, lt_of_lt_of_le}
use native.Mathlib.Omega.{arith}
use borrow.Author.Tests.{eq-eqb, ltb-true, ltb-false, lt-ltb, le-ltb, not-true, not-false}
use lib.Dec.{ltb}
use Rattle.rows.specs.declared.Answer.{Answer}
use Rattle.rows.specs.Scan.{accepted, refused, row}
use Rattle.rows.proofs.ScanLaws.{row_holds, row_fails, row_passed, then_next, then_rest, row_hit, row_none}
use Rattle.mesh.specs.Lent.{E}
use Rattle.location.specs.declared.seeking.Point.{Point}
use Rattle.location.specs.Location.{lowest, triangle_of}
use Rattle.location.proofs.LowestLaws.{lowest_all, lowest_at, lowest_first}
use Rattle.keeping.specs.Record.{count_in, point_in}
use Rattle.keeping.specs.Keeping.{add_answer}
use Rattle.keeping.specs.Keeping as Keeping
use Rattle.looking.specs.Lent.{Lent, mesh_in}
use Rattle.looking.specs.Looking.{is_on, triangle_at}
use Rattle.gauges.specs.Calls.{row40, locate_answer, locate_of, add_of, elevation_answer, elevation_of, all_on, update_of}
use Rattle.boards.specs.Gauges.{holds, Outside, Lowest, Forty, FirstOutside, FortyFirst, ExactlyForty}

-- ---- one point
module _ (b : Lent) (q : Point) where
  pub on_lowest : is_on b q ≡ true → Lowest b q (triangle_at b q)
  unfolding triangle_of
  on_lowest e =
      let l = ltb-true (triangle_at b q) (E (mesh_in b)) e in
      record { there = l; inside = lowest_at (holds b q) (E (mesh_in b)) l; lower = lowest_first (holds b q) (E (mesh_in b)) }

  lowest_on : Lowest b q (triangle_at b q) → is_on b q ≡ true
  lowest_on h = lt-ltb (triangle_at b q) (E (mesh_in b)) h.there

  off_none : is_on b q ≡ false → (t : ℕ) → t < E (mesh_in b) → holds b q t ≡ false
  unfolding triangle_of
  off_none e t l = lowest_first (holds b q) (E (mesh_in b)) t (lt_of_lt_of_le l (ltb-false (triangle_at b q) (E (mesh_in b)) e))

  off_outside : is_on b q ≡ false → Outside b q
  off_outside e t l = off_none e t (omega arith)

  outside_off : Outside b q → is_on b q ≡ false
  unfolding triangle_of
  outside_off h = rw (lowest_all (holds b q) (E (mesh_in b)) h) (le-ltb (E (mesh_in b)) (E (mesh_in b)) (le_refl (E (mesh_in b))))

  -- a triangle that contains it
  pub held_on : (t : ℕ) → t < E (mesh_in b) → holds b q t ≡ true → is_on b q ≡ true
  held_on t l e = go (is_on b q) refl
    where
      go : (c : Bool) → is_on b q ≡ c → is_on b q ≡ true
      go true d = d
      go false d = absurd (false≢true (sym (off_none d t l) ∙ e))

  forty : (place : ℕ) → Forty b q place (row40 b q place)
  unfolding row40
  forty place =
      record {
        outside = λ h. row_fails 40 place (outside_off h);
        exactly = λ e. off_outside (off (is_on b q) refl e);
        otherwise = λ n. let on = is_on_lem (is_on b q) refl n in (row_holds 40 place on, on_lowest on);
      }
    where
      off : (c : Bool) → is_on b q ≡ c → (row c 40 place).number ≡ 40 → is_on b q ≡ false
      off true d e = absurd (omega (arith, ap (λ (a : Answer). a.number) (row_holds {test = true} 40 place refl), e))
      off false d e = d

      is_on_lem : (c : Bool) → is_on b q ≡ c → ((row c 40 place).number ≡ 40 → ⊥) → is_on b q ≡ true
      is_on_lem true d n = d
      is_on_lem false d n = absurd (n (ap (λ (a : Answer). a.number) (row_fails {test = false} 40 place refl)))

-- ---- the points of a record
module _ (b : Lent) (r : List ℕ) where
  abbrev on : ℕ → Bool
  on g = is_on b (point_in r g)

  abbrev first : ℕ
  first = lowest (λ g. not (on g)) (count_in r)

  earlier : (k : ℕ) → k < first → on k ≡ true
  earlier k l = not-false (on k) (lowest_first (λ g. not (on g)) (count_in r) k l)

  first_off : first < count_in r → on first ≡ false
  first_off l = not-true (on first) (lowest_at (λ g. not (on g)) (count_in r) l)

  all_off : (g : ℕ) → FirstOutside b r g → all_on b r ≡ refused 40 g
  unfolding all_on row40
  all_off g h = sym (row_hit on 39 (λ k. k) h.given_out (λ k l. lowest_on b (point_in r k) (h.before k l)) (outside_off b (point_in r g) h.outside))

  first_outside : first < count_in r → FirstOutside b r first
  first_outside l = record {
    given_out = l;
    outside = off_outside b (point_in r first) (first_off l);
    before = λ k m. on_lowest b (point_in r k) (earlier k m);
  }

  all_accept : count_in r ≤ first → all_on b r ≡ accepted
  unfolding all_on row40
  all_accept l = sym (row_none on 39 (λ k. k) (λ k m. earlier k (lt_of_lt_of_le m l)))

  forty_first : FortyFirst b r (all_on b r)
  forty_first = record { outside = all_off; exactly = λ e. hit (ltb first (count_in r)) refl e; otherwise = λ n. none (ltb first (count_in r)) refl n }
    where
      number : {a c : Answer} → a ≡ c → a.number ≡ c.number
      number e = ap (λ (a : Answer). a.number) e

      hit : (c : Bool) → ltb first (count_in r) ≡ c → (all_on b r).number ≡ 40 → FirstOutside b r (all_on b r).place
      hit true d e =
          let f = first_outside (ltb-true first (count_in r) d) in subst (FirstOutside b r) (sym (ap (λ (a : Answer). a.place) (all_off first f))) f
      hit false d e = absurd (omega (arith, number (all_accept (ltb-false first (count_in r) d)), e))

      none : (c : Bool) → ltb first (count_in r) ≡ c → ((all_on b r).number ≡ 40 → ⊥)
          → (all_on b r ≡ accepted) × ((g : ℕ) → g < count_in r → Lowest b (point_in r g) (triangle_at b (point_in r g)))
      none true d n = absurd (n (number (all_off first (first_outside (ltb-true first (count_in r) d)))))
      none false d n =
          let l = ltb-false first (count_in r) d in
          (all_accept l, λ g m. on_lowest b (point_in r g) (earlier g (lt_of_lt_of_le m l)))

-- ---- the calls
pub exactly_forty : ExactlyForty
unfolding locate_of locate_answer add_of Keeping.add_of add_answer elevation_of elevation_answer update_of Keeping.update_of row40
exactly_forty = record {
  locate = λ b q ok. subst (Forty b q 0) (sym (then_next _ _ ok)) (forty b q 0);
  found = λ b q e. rw (eq-eqb _ _ e) (on_lowest b q (row_passed _ 39 0 (then_rest _ _ e)));
  add = λ b r q ok shape room. subst (Forty b q (count_in r)) (sym (then_next _ _ ok ∙ then_next _ _ shape ∙ then_next _ _ room)) (forty b q (count_in r));
  elevation = λ b r g ok known. subst (Forty b (point_in r g) g) (sym (then_next _ _ ok ∙ then_next _ _ known)) (forty b (point_in r g) g);
  update = λ b r step ok shape. subst (FortyFirst b r) (sym (then_next _ _ ok ∙ then_next _ _ shape)) (forty_first b r);
}
