-- #107: the forcings of a lent list, each of its length and with the list's numbers.
use Prim.Native.Nat.{ℕ, suc, ◌+◌, ◌*◌, ◌/◌, ◌%◌, ◌<◌, ◌≤◌}
use mathlib.Core.Path.{◌≡◌, sym, ap, subst, ◌∙◌}
use mathlib.Core.List.{List, []}
use native.Mathlib.Nat.{div-add-mod', mul-le-mul_right}
use native.Mathlib.Omega.{arith}
use lib.ListN.{length, get_or, length-take, length-drop}
use lib.Seq.{get_or-take, get_or-drop}
use lib.Ieee.{Float}
use Rattle.lists.proofs.TableLaws.{length_table, get_d_table}
use Rattle.bounds.specs.Forcing.{forcing_length, forcing_at, forcings_of}

module _ (n : ℕ) (l : List Float) where
  pub count_forcings : length (forcings_of n l) ≡ length l / forcing_length n
  unfolding forcings_of
  count_forcings = length_table _ _

  -- an empty list has none, and one that is not empty and not uneven has some
  pub none_listed : length l ≡ 0 → length (forcings_of n l) ≡ 0
  none_listed e =
      let q = length l / forcing_length n in
      let whole : q * forcing_length n + length l % forcing_length n ≡ length l = div-add-mod' _ _ in
      omega (arith, whole, e, count_forcings)

  pub some_listed : length l % forcing_length n ≡ 0 → (length l ≡ 0 → ⊥) → length (forcings_of n l) ≡ 0 → ⊥
  some_listed e h none =
      let whole = div-add-mod' (length l) (forcing_length n) in
      let q : length l / forcing_length n ≡ 0 = sym count_forcings ∙ none in
      h (omega (arith, whole, e, ap (λ (k : ℕ). k * forcing_length n) q))

  module _ (j : ℕ) (listed : j < length (forcings_of n l)) where
    pub forcing_listed : get_or (forcings_of n l) j [] ≡ forcing_at n l j
    unfolding forcings_of
    forcing_listed = get_d_table _ _ j [] (rw length_table at listed)

    -- it lies in the list
    pub forcing_within : j * forcing_length n + forcing_length n ≤ length l
    forcing_within =
        let whole = div-add-mod' (length l) (forcing_length n) in
        let below : suc j ≤ length l / forcing_length n = rw count_forcings at listed in
        omega (arith, whole, mul-le-mul_right (forcing_length n) below)

    pub forcing_long : length (forcing_at n l j) ≡ forcing_length n
    forcing_long = simp (length-take, length-drop) (omega (arith, forcing_within))

  pub forcing_number : (j i : ℕ) (d : Float) → i < forcing_length n → get_or (forcing_at n l j) i d ≡ get_or l (j * forcing_length n + i) d
  forcing_number j i d h = get_or-take _ _ i d h ∙ get_or-drop _ l i d

  -- what holds of each of the list's numbers holds of a forcing's
  pub forcing_each : (P : Float → Type 0) (d : Float) → ((i : ℕ) → i < length l → P (get_or l i d))
      → (j i : ℕ) → i < length (forcing_at n l j) → P (get_or (forcing_at n l j) i d)
  forcing_each P d h j i b =
      let both = simp (length-take, length-drop) at b in
      subst P (sym (forcing_number j i d (omega (arith, both)))) (h (j * forcing_length n + i) (omega (arith, both)))
