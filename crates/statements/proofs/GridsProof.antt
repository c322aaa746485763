-- The demands hold of a reading, and of a run on the mesh that it leaves.
use Prim.Native.Nat.{ℕ}
use mathlib.Core.Path.{◌≡◌, refl, sym, ap, subst, ◌∙◌}
use mathlib.Core.List.{List}
use borrow.Author.Tests.{eq-eqb, ne_eqb}
use Rattle.quantities.specs.declared.Parameters.{Parameters}
use Rattle.mesh.specs.Lent.{Mesh}
use Rattle.surge.specs.Step.{step_of}
use Rattle.grids.specs.Grid.{Grid, with_kinds, grid_mesh, read_of}
use Rattle.demands.specs.Demand3.{cold_run}
use Rattle.demands.proofs.Demand3Proof.{demand3_at_surge, opens_cold}
use Rattle.statements.specs.Grids.{GridSays, GridDemands, mesh_left, OnTheMesh, RunsOnMeshesRead}

grid_says : (r : Grid) (t : List ℕ) → GridSays r t (read_of r t)
unfolding read_of
grid_says r t = record { answer = refl; accepted = λ h. rw (eq-eqb _ _ h); refused = λ h. rw (ne_eqb _ _ h) }

pub grid_demands : GridDemands
grid_demands = record {
  grids_read_grid = λ κs a g x v met. subst (GridSays _ _) (sym met) (grid_says _ _);
  capi_surge_read_grid = λ κs a g x v met. subst (GridSays _ _) (sym met) (grid_says _ _);
  grids_read_grid_is = λ κs a g x v met. met;
  capi_surge_read_grid_is = λ κs a g x v met. met;
}

-- what holds of the mesh of the text holds of a mesh that is it
on_the_mesh : (t kind : List ℕ) (p : Parameters) (m : Mesh) → m ≡ grid_mesh t kind → OnTheMesh t kind p m
on_the_mesh t kind p m e = record {
  of_the_text = e;
  steps = λ s f rooms. ap (λ (n : Mesh). step_of n p s f rooms) e;
  cold = λ state h. opens_cold m p state h ∙ ap cold_run e;
  demand3 = demand3_at_surge (grid_mesh t kind) p;
}

pub runs_on_meshes_read : RunsOnMeshesRead
runs_on_meshes_read r t kind p h =
    on_the_mesh t kind p (mesh_left (read_of r t) kind)
    (ap (λ (g : Grid). with_kinds g kind) ((grid_says r t).accepted h))
