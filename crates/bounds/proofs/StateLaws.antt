-- What is known where the rows of a call on a run accept: what a step and a save go on with.
use Prim.Native.Nat.{ℕ, ◌*◌, ◌<◌}
use mathlib.Core.Path.{◌≡◌, refl, ap, ◌∙◌}
use mathlib.Core.Bool.{true}
use mathlib.Core.List.{List, [], ◌∷◌}
use borrow.Author.Tests.{eqb-true, eq-eqb}
use lib.Dec.{lit<}
use lib.ListN.{length, get_or}
use lib.Ieee.{Float, nan}
use Rattle.rows.specs.declared.Answer.{Answer}
use Rattle.lists.specs.Runs.{runs_of}
use Rattle.lists.proofs.RunLaws.{run_read}
use Rattle.rows.specs.Scan.{accepted, ◌then◌}
use Rattle.rows.proofs.ScanLaws.{row_holds, row_passed, then_next, then_first, then_rest, scan_none, scan_clean}
use Rattle.quantities.specs.declared.Parameters.{Parameters}
use Rattle.limits.specs.Limits.{in_bounds}
use Rattle.mesh.specs.Lent.{Mesh, N}
use Rattle.nodes.specs.Rows.{mesh_rows}
use Rattle.mesh.specs.Private.{Shaped}
use Rattle.mesh.proofs.ShapedLaws.{shaped, shaped_asked}
use Rattle.nodes.proofs.PartLaws.{mesh_parts, mesh_asked}
use Rattle.bounds.specs.State.{state_runs, node_of, row1_state, row10, run_rows}

pub long_state : (m : Mesh) (state : List Float) → (row1_state m state).number ≡ 0 → length state ≡ state_runs * N m
long_state m state e = eqb-true _ _ (row_passed _ 0 0 e)

module _ (asked : Answer) (m : Mesh) (p : Parameters) (state : List Float) where
  pub record AcceptedRun : Type 0 where
    pub mesh : (mesh_rows accepted m p).number ≡ 0
    pub shape : Shaped m
    pub others : asked.number ≡ 0
    pub long : length state ≡ state_runs * N m
    pub bounds : (i : ℕ) → i < N m → in_bounds (node_of (N m) m.h state i) ≡ true

  pub accepted_run : (run_rows asked m p state).number ≡ 0 → AcceptedRun
  unfolding run_rows row10
  accepted_run ok =
      let lent = then_first _ _ ok in
      let s = (mesh_parts _ m p lent).0 in
      let before = shaped_asked _ m s in
      record {
        mesh = mesh_asked _ m p lent;
        shape = shaped _ m s;
        others = then_first asked _ before;
        long = long_state m state (then_rest asked _ before);
        bounds = λ i l. row_passed _ 9 i (scan_clean _ (N m) (then_rest _ _ ok) i l);
      }

-- a state of six runs with every node in bounds, on a mesh that its rows accept
pub in_bounds_lem : (m : Mesh) (p : Parameters) (state : List Float) → (mesh_rows accepted m p).number ≡ 0 → length state ≡ state_runs * N m
    → ((i : ℕ) → i < N m → in_bounds (node_of (N m) m.h state i) ≡ true) → (run_rows accepted m p state).number ≡ 0
unfolding run_rows row10
in_bounds_lem m p state ok long h =
    let fits : (accepted then row1_state m state) ≡ accepted = then_next accepted _ refl ∙ row_holds 1 0 (eq-eqb _ _ long) in
    ap (λ (a : Answer). a.number)
    (then_next _ _ (rw fits ok) ∙ scan_none _ (N m) (λ i l. ap (λ (a : Answer). a.number) (row_holds 10 i (h i l))))

-- node i of a state of six runs
pub six_runs : (n : ℕ) (h : List Float) (a b c d e f : ℕ → Float) (i : ℕ) → i < n
    → node_of n h (runs_of n (a ∷ b ∷ c ∷ d ∷ e ∷ f ∷ [])) i ≡ record { h = get_or h i nan; earlier = a i; z = b i; u = c i; v = d i; wx = e i; wy = f i }
six_runs n h a b c d e f i l =
    let fs = a ∷ b ∷ c ∷ d ∷ e ∷ f ∷ [] in
    λ j. record {
      h = get_or h i nan;
      earlier = run_read n fs 0 i nan (lit< tt) l j;
      z = run_read n fs 1 i nan (lit< tt) l j;
      u = run_read n fs 2 i nan (lit< tt) l j;
      v = run_read n fs 3 i nan (lit< tt) l j;
      wx = run_read n fs 4 i nan (lit< tt) l j;
      wy = run_read n fs 5 i nan (lit< tt) l j;
    }
