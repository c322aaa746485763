-- Document 01: "Arithmetic is IEEE 754 binary64, rounded to nearest even once per operation."
-- "Products before sums, left to right unless bracketed."
use Rattle.std.specs.Prelude.{Bool, cond, Float}
use Rattle.std.specs.Float.Ieee as Ieee
use Rattle.std.specs.Float.{binary64}

infixl 6 ◌⊕◌
infixl 6 ◌⊖◌
infixl 7 ◌⊗◌
infixl 7 ◌⊘◌
abbrev pub ◌⊕◌ : Float → Float → Float
x ⊕ y = Ieee.add binary64 x y

abbrev pub ◌⊖◌ : Float → Float → Float
x ⊖ y = Ieee.sub binary64 x y

abbrev pub ◌⊗◌ : Float → Float → Float
x ⊗ y = Ieee.mul binary64 x y

abbrev pub ◌⊘◌ : Float → Float → Float
x ⊘ y = Ieee.div binary64 x y

-- How an advective term (document 02, #103) is taken from what stands before it
abbrev pub Taking : Type 0
Taking = Float → Float → Float

-- "under an on/off parameter": on, the term is taken; off, it is left out
abbrev pub less_if : Bool → Taking
less_if on = λ x term. cond on (x ⊖ term) x
