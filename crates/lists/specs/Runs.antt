-- A slice of k runs of n: "The state is 4N numbers in four runs of N", and a work room likewise.
use Rattle.std.specs.Prelude.{ℕ, ◌+◌, ◌*◌, Bool, List, [], ◌∷◌, ◌++◌, eqb, get_or, Float}
use Rattle.std.specs.Float.{nan}
use Rattle.lists.specs.Table.{table}

-- a list of this length is k runs of n
abbrev pub is_runs : ℕ → ℕ → ℕ → Bool
is_runs long k n = eqb long (k * n)

-- place i of run k, from 0
abbrev pub in_run : ℕ → ℕ → List Float → ℕ → Float
in_run n k l i = get_or l (k * n + i) nan

-- runs of n, one after the other, each given by what stands at its places
unfoldable pub runs_of : {A : Type 0} → ℕ → List (ℕ → A) → List A
runs_of n [] = []
runs_of n (f ∷ fs) = table n f ++ runs_of n fs
