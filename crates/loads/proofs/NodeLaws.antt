-- A state by its nodes: it is the loaded one where each of its nodes is as the text has it, and a load writes them one by one.
use Prim.Native.Nat.{ℕ, ◌+◌, ◌*◌, ◌<◌}
use mathlib.Core.Path.{◌≡◌, refl, sym, ap, ◌∙◌}
use mathlib.Core.List.{List, [], ◌∷◌}
use lib.Dec.{lit<}
use lib.ListN.{length, get_or, set}
use lib.Ieee.{Float, nan}
use Rattle.lists.specs.Table.{table}
use Rattle.lists.specs.Runs.{in_run, runs_of}
use Rattle.lists.proofs.RunLaws.{as_runs, run_same, run_turn, turned, turn_none, turn_all}
use Rattle.quantities.specs.declared.Node.{Node}
use Rattle.bounds.specs.State.{state_runs, node_of}
use Rattle.editions.specs.Lines.{Edition}
use Rattle.loads.specs.Load.{node_in, state_in}
use Rattle.loads.specs.Private.{stored}

module _ (d : Edition) (n : ℕ) (t : List ℕ) (h : List Float) where
  abbrev new : (Node → Float) → ℕ → Float
  new q j = q (node_in d n t h j)

  -- six runs that are, place by place, what the text has
  all_same : (a b u v x y : ℕ → Float)
      → ((i : ℕ) → i < n → record { h = get_or h i nan; earlier = a i; z = b i; u = u i; v = v i; wx = x i; wy = y i } ≡ node_in d n t h i)
      → runs_of n (a ∷ b ∷ u ∷ v ∷ x ∷ y ∷ []) ≡ state_in d n t h
  unfolding state_in
  all_same a b u v x y e =
      let a' = new (λ (q : Node). q.earlier) in
      let b' = new (λ (q : Node). q.z) in
      let u' = new (λ (q : Node). q.u) in
      let v' = new (λ (q : Node). q.v) in
      let x' = new (λ (q : Node). q.wx) in
      run_same n (a ∷ b ∷ u ∷ v ∷ x ∷ y ∷ []) 0 a a' (λ i l. ap (λ (q : Node). q.earlier) (e i l))
      ∙ run_same n (a' ∷ b ∷ u ∷ v ∷ x ∷ y ∷ []) 1 b b' (λ i l. ap (λ (q : Node). q.z) (e i l))
      ∙ run_same n (a' ∷ b' ∷ u ∷ v ∷ x ∷ y ∷ []) 2 u u' (λ i l. ap (λ (q : Node). q.u) (e i l))
      ∙ run_same n (a' ∷ b' ∷ u' ∷ v ∷ x ∷ y ∷ []) 3 v v' (λ i l. ap (λ (q : Node). q.v) (e i l))
      ∙ run_same n (a' ∷ b' ∷ u' ∷ v' ∷ x ∷ y ∷ []) 4 x x' (λ i l. ap (λ (q : Node). q.wx) (e i l))
      ∙ run_same n (a' ∷ b' ∷ u' ∷ v' ∷ x' ∷ y ∷ []) 5 y (new (λ (q : Node). q.wy)) (λ i l. ap (λ (q : Node). q.wy) (e i l))

  pub loaded_all : (state : List Float) → length state ≡ state_runs * n → ((i : ℕ) → i < n → node_of n h state i ≡ node_in d n t h i) → state ≡ state_in d n t h
  unfolding table
  loaded_all state long e = as_runs n nan state_runs state long ∙ all_same _ _ _ _ _ _ e

  -- ---- a state of which the nodes below i are written
  module _ (old : List Float) where
    abbrev part : (Node → Float) → ℕ → ℕ → ℕ → Float
    part q k i = turned i (new q) (in_run n k old)

    abbrev pub filled_to : ℕ → List Float
    filled_to i =
        runs_of n (
        part (λ (q : Node). q.earlier) 0 i
        ∷ part (λ (q : Node). q.z) 1 i
        ∷ part (λ (q : Node). q.u) 2 i
        ∷ part (λ (q : Node). q.v) 3 i
        ∷ part (λ (q : Node). q.wx) 4 i
        ∷ part (λ (q : Node). q.wy) 5 i
        ∷ [])

    pub fill_none : length old ≡ state_runs * n → old ≡ filled_to 0
    unfolding table
    fill_none long =
        as_runs n nan state_runs old long
        ∙ (λ j.
        runs_of n (
        sym (turn_none (new (λ (q : Node). q.earlier)) (in_run n 0 old)) j
        ∷ sym (turn_none (new (λ (q : Node). q.z)) (in_run n 1 old)) j
        ∷ sym (turn_none (new (λ (q : Node). q.u)) (in_run n 2 old)) j
        ∷ sym (turn_none (new (λ (q : Node). q.v)) (in_run n 3 old)) j
        ∷ sym (turn_none (new (λ (q : Node). q.wx)) (in_run n 4 old)) j
        ∷ sym (turn_none (new (λ (q : Node). q.wy)) (in_run n 5 old)) j
        ∷ []))

    pub fill_more : (i : ℕ) {s : List Float} {c : Node} → i < n → s ≡ filled_to i → c ≡ node_in d n t h i → stored n s i c ≡ filled_to (i + 1)
    fill_more i l es ec =
        let c = node_in d n t h i in
        let a = part (λ (q : Node). q.earlier) 0 in
        let b = part (λ (q : Node). q.z) 1 in
        let u = part (λ (q : Node). q.u) 2 in
        let v = part (λ (q : Node). q.v) 3 in
        let x = part (λ (q : Node). q.wx) 4 in
        let y = part (λ (q : Node). q.wy) 5 in
        let k = i + 1 in
        (λ j. stored n (es j) i (ec j))
        ∙ ap (λ (m : List Float). set (set (set (set (set m (1 * n + i) c.z) (2 * n + i) c.u) (3 * n + i) c.v) (4 * n + i) c.wx) (5 * n + i) c.wy)
        (run_turn n (a i ∷ b i ∷ u i ∷ v i ∷ x i ∷ y i ∷ []) 0 (new (λ (q : Node). q.earlier)) (in_run n 0 old) i c.earlier (lit< tt) l refl)
        ∙ ap (λ (m : List Float). set (set (set (set m (2 * n + i) c.u) (3 * n + i) c.v) (4 * n + i) c.wx) (5 * n + i) c.wy)
        (run_turn n (a k ∷ b i ∷ u i ∷ v i ∷ x i ∷ y i ∷ []) 1 (new (λ (q : Node). q.z)) (in_run n 1 old) i c.z (lit< tt) l refl)
        ∙ ap (λ (m : List Float). set (set (set m (3 * n + i) c.v) (4 * n + i) c.wx) (5 * n + i) c.wy)
        (run_turn n (a k ∷ b k ∷ u i ∷ v i ∷ x i ∷ y i ∷ []) 2 (new (λ (q : Node). q.u)) (in_run n 2 old) i c.u (lit< tt) l refl)
        ∙ ap (λ (m : List Float). set (set m (4 * n + i) c.wx) (5 * n + i) c.wy)
        (run_turn n (a k ∷ b k ∷ u k ∷ v i ∷ x i ∷ y i ∷ []) 3 (new (λ (q : Node). q.v)) (in_run n 3 old) i c.v (lit< tt) l refl)
        ∙ ap (λ (m : List Float). set m (5 * n + i) c.wy)
        (run_turn n (a k ∷ b k ∷ u k ∷ v k ∷ x i ∷ y i ∷ []) 4 (new (λ (q : Node). q.wx)) (in_run n 4 old) i c.wx (lit< tt) l refl)
        ∙ run_turn n (a k ∷ b k ∷ u k ∷ v k ∷ x k ∷ y i ∷ []) 5 (new (λ (q : Node). q.wy)) (in_run n 5 old) i c.wy (lit< tt) l refl

    pub fill_all : filled_to n ≡ state_in d n t h
    unfolding node_in
    fill_all = all_same _ _ _ _ _ _ (λ i l j. record {
      h = get_or h i nan;
      earlier = turn_all (new (λ (q : Node). q.earlier)) (in_run n 0 old) n i l j;
      z = turn_all (new (λ (q : Node). q.z)) (in_run n 1 old) n i l j;
      u = turn_all (new (λ (q : Node). q.u)) (in_run n 2 old) n i l j;
      v = turn_all (new (λ (q : Node). q.v)) (in_run n 3 old) n i l j;
      wx = turn_all (new (λ (q : Node). q.wx)) (in_run n 4 old) n i l j;
      wy = turn_all (new (λ (q : Node). q.wy)) (in_run n 5 old) n i l j;
    })
