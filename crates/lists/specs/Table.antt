-- A list that is given by what stands at each place.
use Rattle.std.specs.Prelude.{ℕ, zero, suc, List, [], ◌∷◌, ◌++◌, length, take, drop, Float}
use Rattle.rows.specs.Numbers.{plus0}

-- f 0, f 1, .. , n of them
unfoldable pub table : {A : Type 0} → ℕ → (ℕ → A) → List A
table zero f = []
table (suc n) f = f zero ∷ table n (λ k. f (suc k))

-- n times +0
abbrev pub zeros : ℕ → List Float
zeros n = table n (λ _. plus0)

-- as many places of `to` as both have, written from `from`
unfoldable pub copied : {A : Type 0} → List A → List A → List A
copied from to = take (length to) from ++ drop (length from) to
