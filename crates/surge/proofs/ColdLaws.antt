-- A cold start can be stepped and saved: it passes row 10 on every mesh that its rows accept.
use Prim.Native.Nat.{ℕ, ◌+◌, ◌*◌, ◌<◌, ◌≤◌}
use mathlib.Core.Path.{◌≡◌, refl}
use mathlib.Core.Bool.{Bool, true, false}
use native.Mathlib.Omega.{arith}
use lib.Count.{count_trailing_zeros}
use lib.Dec.{T, lit<}
use lib.IntN.{pos}
use lib.Ieee.{Float, nan, inf, fin, binary64, up, down, size, span, climb, units, odd, round, sum, add, le, lt, eq}
use lib.Ieee.Bits.{is_true}
use lib.Ieee.Fits.{down_pos}
use lib.Ieee.Order.{round_mono}
use lib.Ieee.Positive.{positive, le→cross, between}
use Rattle.rows.specs.declared.Answer.{Answer}
use Rattle.lists.specs.Runs.{in_run}
use Rattle.rows.specs.Scan.{accepted}
use Rattle.rows.specs.Numbers.{plus0, within, decimal, minus, in_size}
use Rattle.rows.proofs.ScanLaws.{both_left, both_right}
use Rattle.lists.proofs.TableLaws.{length_table, get_d_table}
use Rattle.lists.proofs.RunLaws.{in_runs}
use Rattle.quantities.specs.declared.Parameters.{Parameters}
use Rattle.quantities.specs.Operations.{◌⊕◌}
use Rattle.quantities.specs.Constants.{tenth}
use Rattle.limits.specs.Limits.{is_calm, in_bounds}
use Rattle.mesh.specs.Lent.{Mesh, N}
use Rattle.nodes.specs.Rows.{mesh_rows, open_rows}
use Rattle.nodes.proofs.PartLaws.{depth_in, mesh_parts, open_parts, parts_mesh}
use Rattle.bounds.specs.State.{state_runs, node_of, run_rows}
use Rattle.bounds.proofs.StateLaws.{in_bounds_lem}
use Rattle.surge.specs.Lent.{cold_state}
use Rattle.limits.proofs.BoundLaws.{all_bounded}

-- +0 is within every limit, and a depth of 1 or more is water enough
one_is : decimal 1 1 ≡ fin false 1 (pos 0)
unfolding decimal round size span climb units odd count_trailing_zeros
one_is = refl

most_positive : T (positive (decimal 12000 1))
unfolding decimal round size span climb units odd count_trailing_zeros
most_positive = tt

deep : (h : Float) → T (positive h) → T (le (fin false 1 (pos 0)) h) → T (le tenth (h ⊕ plus0))
unfolding decimal add sum
deep nan p l = absurd p
deep (inf s) p l = absurd p
deep (fin true m e) p l = absurd p
deep (fin false m e) p l =
    let cross : 1 * down e ≤ m * up e * 1 = le→cross (fin false 1 (pos 0)) (fin false m e) tt p l in
    round_mono binary64 1 10 (m * up e * 1 + 0 * 1 * down e) (down e * 1) (lit< tt) (omega (arith, down_pos e)) (omega (arith, cross))

deep_enough : (h : Float) → within (decimal 1 1) h (decimal 12000 1) ≡ true → le tenth (h ⊕ plus0) ≡ true
unfolding within
deep_enough h e =
    let above = true_is (le (decimal 1 1) h) (both_left (le (decimal 1 1) h) _ e) in
    let below = true_is (le h (decimal 12000 1)) (both_right (le (decimal 1 1) h) _ e) in
    let least : T (le (fin false 1 (pos 0)) h) = rw one_is at above in
    is_true _ (deep h (between (fin false 1 (pos 0)) h (decimal 12000 1) tt most_positive least below) least)
  where
    true_is : (b : Bool) → b ≡ true → T b
    true_is b q = rw q tt

zero_small : (in_size 30 plus0 ≡ true) × (in_size 20 plus0 ≡ true)
unfolding within decimal minus round size span climb units odd count_trailing_zeros le lt eq
zero_small = (refl, refl)

zero_calm : is_calm (record { x = plus0; y = plus0 }) ≡ true
unfolding is_calm within decimal minus round size span climb units odd count_trailing_zeros le lt eq
zero_calm = refl

module _ (m : Mesh) (p : Parameters) (ok : (mesh_rows accepted m p).number ≡ 0) where
  zero_at : (i k : ℕ) → k < state_runs → i < N m → in_run (N m) k (cold_state (N m)) i ≡ plus0
  zero_at i k h l = get_d_table (state_runs * N m) (λ _. plus0) (k * N m + i) nan (in_runs (N m) k state_runs i h l)

  cold_node : (i : ℕ) → i < N m → in_bounds (node_of (N m) m.h (cold_state (N m)) i) ≡ true
  cold_node i l =
      rw (zero_at i 0 (lit< tt) l, zero_at i 1 (lit< tt) l, zero_at i 2 (lit< tt) l, zero_at i 3 (lit< tt) l, zero_at i 4 (lit< tt) l, zero_at i 5 (lit< tt) l)
      (all_bounded _ (record {
        earlier = zero_small.0;
        z = zero_small.0;
        column = deep_enough _ (depth_in _ _ _ _ _ (mesh_parts _ m p ok).1 i l);
        u = zero_small.1;
        v = zero_small.1;
        wind = zero_calm;
      }))

  pub cold_rows : (run_rows accepted m p (cold_state (N m))).number ≡ 0
  cold_rows = in_bounds_lem m p (cold_state (N m)) ok (length_table (state_runs * N m) _) cold_node

-- ---- opening asks the same rows but for row 6
pub opened_mesh : (asked : Answer) (m : Mesh) (p : Parameters) → (open_rows asked m p).number ≡ 0 → (mesh_rows accepted m p).number ≡ 0
opened_mesh asked m p e = let parts = open_parts asked m p e in parts_mesh asked m p parts.0 parts.1
