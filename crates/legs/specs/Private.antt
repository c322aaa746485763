-- A corner of three by its number, for laws and for the contracts of private functions. No public contract cites it.
use Rattle.std.specs.Prelude.{ℕ, zero, suc}
use Rattle.lists.specs.Gather.{Three}

-- the corner j, from 0, of three
abbrev pub corner_of : Three ℕ → ℕ → ℕ
corner_of c zero = c.first
corner_of c (suc zero) = c.second
corner_of c (suc (suc j)) = c.third
