-- A room while it is filled: the elevation, and two runs that are written node by node.
use Prim.Native.Nat.{ℕ, suc, ◌+◌, ◌*◌, ◌<◌}
use mathlib.Core.Path.{◌≡◌, refl, sym, ap, ◌∙◌}
use mathlib.Core.List.{List, [], ◌∷◌}
use native.Mathlib.Omega.{arith}
use lib.Dec.{lit<}
use lib.ListN.{length, get_or, drop, set}
use lib.Seq.{get_or-set_same}
use lib.Ieee.{Float, nan}
use Rattle.lists.specs.Table.{table}
use Rattle.lists.specs.Runs.{in_run, runs_of}
use Rattle.lists.proofs.RunLaws.{as_runs, run_same, run_turn, turned, turn_none, turn_all}

-- a store past the first number
past_first : (x : Float) (l : List Float) (k : ℕ) (v : Float) → set (x ∷ l) (1 + k) v ≡ x ∷ set l k v
past_first x l k v = let e : 1 + k ≡ suc k = omega arith in rw e

module _ (n : ℕ) (wx wy : ℕ → Float) (old : List Float) where
  -- the two runs, as found
  abbrev xs : ℕ → Float
  xs = in_run n 0 (drop 1 old)

  abbrev ys : ℕ → Float
  ys = in_run n 1 (drop 1 old)

  -- the winds of the nodes below i are written
  abbrev pub filled_to : ℕ → List Float
  filled_to i = get_or old 0 nan ∷ runs_of n (turned i wx xs ∷ turned i wy ys ∷ [])

  -- one turn: node i's wind is put
  pub fill_more : (i : ℕ) {s new : List Float} {a b : Float} → i < n → s ≡ filled_to i → a ≡ wx i → b ≡ wy i
      → new ≡ set (set s (1 + (0 * n + i)) a) (1 + (1 * n + i)) b → new ≡ filled_to (i + 1)
  fill_more i l e ea eb put =
      let x = get_or old 0 nan in
      let r = runs_of n (turned i wx xs ∷ turned i wy ys ∷ []) in
      put
      ∙ (λ j. set (set (e j) (1 + (0 * n + i)) (ea j)) (1 + (1 * n + i)) (eb j))
      ∙ ap (λ (s : List Float). set s (1 + (1 * n + i)) (wy i)) (past_first x r (0 * n + i) (wx i))
      ∙ past_first x (set r (0 * n + i) (wx i)) (1 * n + i) (wy i)
      ∙ ap (λ (s : List Float). x ∷ set s (1 * n + i) (wy i)) (run_turn n (turned i wx xs ∷ turned i wy ys ∷ []) 0 wx xs i (wx i) (lit< tt) l refl)
      ∙ ap (λ (s : List Float). x ∷ s) (run_turn n (turned (i + 1) wx xs ∷ turned i wy ys ∷ []) 1 wy ys i (wy i) (lit< tt) l refl)

  all_written : filled_to n ≡ get_or old 0 nan ∷ runs_of n (wx ∷ wy ∷ [])
  all_written =
      ap (λ (s : List Float). get_or old 0 nan ∷ s)
      (run_same n (turned n wx xs ∷ turned n wy ys ∷ []) 0 (turned n wx xs) wx (turn_all wx xs n)
      ∙ run_same n (wx ∷ turned n wy ys ∷ []) 1 (turned n wy ys) wy (turn_all wy ys n))

-- from a room whose elevation is written, to one that is filled
module _ (n : ℕ) (wx wy : ℕ → Float) where
  pub fill_none : (old : List Float) → length old ≡ 1 + 2 * n → old ≡ filled_to n wx wy old 0
  unfolding table
  fill_none [] h = absurd (omega arith)
  fill_none (x ∷ l) h =
      ap (λ (r : List Float). x ∷ r)
      (as_runs n nan 2 l (omega arith) ∙ (λ j. runs_of n (sym (turn_none wx (in_run n 0 l)) j ∷ sym (turn_none wy (in_run n 1 l)) j ∷ [])))

  pub fill_all : (room : List Float) {x y : Float} → length room ≡ 1 + 2 * n → x ≡ y → filled_to n wx wy (set room 0 x) n ≡ y ∷ runs_of n (wx ∷ wy ∷ [])
  fill_all room {x} h e =
      all_written n wx wy (set room 0 x) ∙ ap (λ (z : Float). z ∷ runs_of n (wx ∷ wy ∷ [])) (get_or-set_same room 0 x nan (omega arith) ∙ e)
