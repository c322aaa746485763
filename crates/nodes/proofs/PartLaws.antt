-- What a mesh's rows are put together from: what each part asks and leaves where they accept.
use Prim.Native.Nat.{ℕ, ◌<◌, ◌≤◌}
use mathlib.Core.Path.{◌≡◌, refl, ap, ◌∙◌}
use mathlib.Core.Bool.{true}
use mathlib.Core.List.{List}
use lib.Dec.{leb}
use lib.ListN.{length, get_or}
use lib.Ieee.{Float, nan}
use Rattle.rows.specs.declared.Answer.{Answer}
use Rattle.rows.specs.Scan.{accepted}
use Rattle.rows.specs.Numbers.{within, decimal}
use Rattle.rows.proofs.ScanLaws.{row_passed, then_next, then_first, then_rest, scan_clean, both_left}
use Rattle.quantities.specs.declared.Parameters.{Parameters}
use Rattle.limits.specs.Limits.{is_node, row9}
use Rattle.mesh.specs.Lent.{Mesh, N}
use Rattle.mesh.specs.Rows.{shape_rows}
use Rattle.mesh.proofs.ShapedLaws.{shaped, numbers_below}
use Rattle.nodes.specs.Rows.{row8, node_rows, mesh_rows, open_rows}

-- what the rows of the nodes ask of the slices
pub for_nodes : (asked : Answer) (m : Mesh) → (shape_rows asked m).number ≡ 0
    → ((N m ≤ 4096) × (length m.h ≡ N m) × (length m.kind ≡ N m)) × ((j : ℕ) → j < length m.tri → get_or m.tri j 0 < N m)
for_nodes asked m e = let s = shaped asked m e in ((s.sized.most_nodes, s.sized.h, s.sized.kind), numbers_below m s)

-- row 8: each depth is in its range
pub depth_in : (n : ℕ) (tri : List ℕ) (h : List Float) (kind : List ℕ) (p : Parameters) → (node_rows n tri h kind p).number ≡ 0 → (i : ℕ) → i < n
    → within (decimal 1 1) (get_or h i nan) (decimal 12000 1) ≡ true
unfolding node_rows row8 is_node
depth_in n tri h kind p e i l = both_left _ (leb (get_or kind i 0) 2) (row_passed _ 7 i (scan_clean _ _ (then_first _ _ (then_rest _ _ e)) i l))

-- row 9: dt is in its range
pub dt_in : (n : ℕ) (tri : List ℕ) (h : List Float) (kind : List ℕ) (p : Parameters) → (node_rows n tri h kind p).number ≡ 0
    → within (decimal 125 1000) p.dt (decimal 60 1) ≡ true
unfolding node_rows row9
dt_in n tri h kind p e = row_passed _ 8 0 (then_first _ _ (then_rest _ _ (then_rest _ _ e)))

-- what both kinds of call ask
pub mesh_parts : (asked : Answer) (m : Mesh) (p : Parameters) → (mesh_rows asked m p).number ≡ 0
    → ((shape_rows asked m).number ≡ 0) × ((node_rows (N m) m.tri m.h m.kind p).number ≡ 0)
unfolding mesh_rows
mesh_parts asked m p e = (then_first _ _ e, then_rest _ _ e)

-- where they accept, so do the mesh's rows with nothing asked before
pub parts_mesh : (asked : Answer) (m : Mesh) (p : Parameters) → (shape_rows asked m).number ≡ 0 → (node_rows (N m) m.tri m.h m.kind p).number ≡ 0
    → (mesh_rows accepted m p).number ≡ 0
unfolding mesh_rows shape_rows
parts_mesh asked m p e f =
    let shape : (shape_rows accepted m).number ≡ 0 = ap (λ (a : Answer). a.number) (then_next accepted _ refl) ∙ then_rest asked _ e in
    ap (λ (a : Answer). a.number) (then_next _ _ shape) ∙ f

pub mesh_asked : (asked : Answer) (m : Mesh) (p : Parameters) → (mesh_rows asked m p).number ≡ 0 → (mesh_rows accepted m p).number ≡ 0
mesh_asked asked m p e = let parts = mesh_parts asked m p e in parts_mesh asked m p parts.0 parts.1

pub open_parts : (asked : Answer) (m : Mesh) (p : Parameters) → (open_rows asked m p).number ≡ 0
    → ((shape_rows asked m).number ≡ 0) × ((node_rows (N m) m.tri m.h m.kind p).number ≡ 0)
unfolding open_rows
open_parts asked m p e = (then_first _ _ e, then_rest _ _ (then_rest _ _ e))
