-- Document 02, #104: the spellings of a text, for what is said of the calls that read one. No function cites it.
use Rattle.std.specs.Prelude.{◌≡◌, ℕ, ◌-◌, cond, ◌&&◌, List, map, nat_le}

-- a to f as A to F, every other character as it is
unfoldable pub upper : ℕ → ℕ
upper d = cond (nat_le 97 d && nat_le d 102) (d - 32) d

-- a text with each of its characters in upper case
abbrev pub in_upper : List ℕ → List ℕ
in_upper t = map upper t

-- two texts that differ in nothing but the case of letters a to f, each letter by itself
abbrev pub Spells : List ℕ → List ℕ → Type 0
Spells s t = in_upper s ≡ in_upper t
