-- The constants of document 01's formulas. "g is the binary64 nearest 9.81; every limit written as a decimal is likewise the nearest binary64."
use Rattle.std.specs.Prelude.{◌≡◌, true, ◌⊎◌, pos, Float}
use Rattle.std.specs.Float.{fin}
use Rattle.rows.specs.Numbers.{plus0, decimal}

abbrev pub g : Float
g = decimal 981 100

abbrev pub tenth : Float
tenth = decimal 1 10

abbrev pub one : Float
one = decimal 1 1

abbrev pub two : Float
two = decimal 2 1

abbrev pub three : Float
three = decimal 3 1

abbrev pub six : Float
six = decimal 6 1

-- "+0" is plus0. A zero is "+0 or -0".
abbrev pub minus0 : Float
minus0 = fin true 0 (pos 0)

abbrev pub IsZero : Float → Type 0
IsZero x = (x ≡ plus0) ⊎ (x ≡ minus0)
