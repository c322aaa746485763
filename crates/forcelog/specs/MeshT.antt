-- Document 01, "The printing program": the mesh and the parameters that it holds.
use Rattle.std.specs.Prelude.{[], ◌∷◌, false, pos, replicate}
use Rattle.rows.specs.Numbers.{decimal}
use Rattle.quantities.specs.declared.Parameters.{Parameters}
use Rattle.mesh.specs.Lent.{Mesh, mesh}

-- "mesh T: (0,0), (100,0), (0,100), triangle 0 1 2, h 8, kinds 0"
unfoldable pub T : Mesh
T = mesh (pos 0 ∷ pos 100 ∷ pos 0 ∷ []) (pos 0 ∷ pos 0 ∷ pos 100 ∷ []) (0 ∷ 1 ∷ 2 ∷ []) (replicate 3 (decimal 8 1)) (replicate 3 0)

-- "dt 1, tau, K, f 0"; document 01 knows no advection
unfoldable pub T_parameters : Parameters
T_parameters = record { dt = decimal 1 1; tau = decimal 0 1; k = decimal 0 1; f = decimal 0 1; advection = false }
