-- What the loops over lists do, for laws and for the contracts of private functions. No public contract cites it.
use Rattle.std.specs.Prelude.{ℕ, suc, ◌+◌, ◌*◌, ◌<◌, List, ◌++◌, get_or, set, take, drop}
use Rattle.lists.specs.Table.{table}
use Rattle.lists.specs.Gather.{Three, Adding}

-- l with its first n places written anew: what a loop that writes the places 0, 1, … in order has made of l after n of them
unfoldable pub up_to : {A : Type 0} → ℕ → (ℕ → A) → List A → List A
up_to n f l = table n f ++ drop n l

-- a list with run k written anew
unfoldable pub with_run : {A : Type 0} → ℕ → ℕ → (ℕ → A) → List A → List A
with_run n k f l = take (k * n) l ++ (table n f ++ drop (suc k * n) l)

-- ---- sums by node
-- each corner is a node below n
pub record Below (c : Three ℕ) (n : ℕ) : Type 0 where
  pub first : c.first < n
  pub second : c.second < n
  pub third : c.third < n

-- the same corners, m further on: in a run that starts at place m
abbrev pub past : ℕ → Three ℕ → Three ℕ
past m c = record { first = m + c.first; second = m + c.second; third = m + c.third }

-- a list with v added at place i; `none` stands for what is past its end
unfoldable pub added_at : {A : Type 0} → Adding A → A → List A → ℕ → A → List A
added_at add none l i v = set l i (add.plus (get_or l i none) v)

-- a list with a triangle's values added at its corners
unfoldable pub spread : {A : Type 0} → Adding A → A → Three ℕ → Three A → List A → List A
spread add none c v l =
    added_at add none (added_at add none (added_at add none l c.first v.first) c.second v.second) c.third v.third
