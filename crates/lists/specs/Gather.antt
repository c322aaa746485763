-- Sums by node: each triangle gives a value to each of its three corners, and a node adds what it is given "by ascending triangle number".
use Rattle.std.specs.Prelude.{ℕ, zero, suc, ◌+◌, Bool, true, false, eqb}

-- one of something at each corner of a triangle
pub record Three (A : Type 0) : Type 0 where
  pub first : A
  pub second : A
  pub third : A

abbrev pub alike : {A : Type 0} → A → Three A
alike v = record { first = v; second = v; third = v }

-- what a sum starts from, and how a value is added to it
pub record Adding (A : Type 0) : Type 0 where
  pub start : A
  pub plus : A → A → A

-- whole numbers, from 0
abbrev pub whole : Adding ℕ
whole = record { start = 0; plus = ◌+◌ }

abbrev pub plus_if : {A : Type 0} → Adding A → Bool → A → A → A
plus_if add true s v = add.plus s v
plus_if add false s v = s

-- what a triangle with these corners and these values makes of the sum s of node i
unfoldable pub joined : {A : Type 0} → Adding A → Three ℕ → Three A → ℕ → A → A
joined add c v i s = plus_if add (eqb i c.third) (plus_if add (eqb i c.second) (plus_if add (eqb i c.first) s v.first) v.second) v.third

-- the sum of node i over the triangles below e
unfoldable pub gathered : {A : Type 0} → Adding A → (ℕ → Three ℕ) → (ℕ → Three A) → ℕ → ℕ → A
gathered add corners give zero i = add.start
gathered add corners give (suc e) i = joined add (corners e) (give e) i (gathered add corners give e i)
