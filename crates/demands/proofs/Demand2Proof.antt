-- Demand 2: each outcome that meets a call's contract is its definition's, for the contract says so. And a, b, D and S become floats without loss.
use Prim.Native.Nat.{ℕ, ◌*◌, ◌≤◌}
use mathlib.Core.Path.{◌≡◌}
use mathlib.Core.Bool.{true}
use native.Mathlib.Omega.{arith}
use lib.IntN.{ℤ, pos}
use Rattle.lists.proofs.GatherLaws.{gathered_le}
use Rattle.geometry.specs.declared.WholeSides.{WholeSides}
use Rattle.geometry.specs.Geometry.{all_near, Lossless}
use Rattle.geometry.proofs.SizeLaws.{lossless}
use Rattle.geometry.proofs.GeometryLaws.{Small, all_small}
use Rattle.mesh.specs.Lent.{Mesh, E, corners}
use Rattle.mesh.specs.Geometry.{S, area}
use Rattle.mesh.specs.Private.{Shaped}
use Rattle.mesh.proofs.ShapedLaws.{shaped}
use Rattle.nodes.proofs.PartLaws.{open_parts}
use Rattle.surge.specs.Open.{open_answer}
use Rattle.lists.specs.Gather.{alike}
use Rattle.demands.specs.Demand2.{Demand2, SidesLossless, MeshLossless, FloatsWithoutLoss}

pub demand2 : Demand2
demand2 = record {
  surge_open = λ κs a g x v met. met;
  surge_step = λ κs a g x v met. met;
  surge_step_all = λ κs a g x v met. met;
  saves_save = λ κs a g x v met. met;
  loads_load = λ κs a g x v met. met;
  forcings_read_forcing = λ κs a g x v met. met;
  capi_surge_open = λ κs a g x v met. met;
  capi_surge_step = λ κs a g x v met. met;
  capi_surge_step_all = λ κs a g x v met. met;
  capi_surge_save = λ κs a g x v met. met;
  capi_surge_load = λ κs a g x v met. met;
  capi_surge_read_forcing = λ κs a g x v met. met;
}

-- ---- floats without loss
small_lossless : (z : ℤ) → Small z → Lossless z
small_lossless z h = lossless z (omega (arith, h.size))

sides_lossless : (s : WholeSides) → all_near s ≡ true → SidesLossless s
sides_lossless s e =
    let h = all_small s e in
    record {
      a1 = small_lossless _ h.a1;
      a2 = small_lossless _ h.a2;
      a3 = small_lossless _ h.a3;
      b1 = small_lossless _ h.b1;
      b2 = small_lossless _ h.b2;
      b3 = small_lossless _ h.b3;
      d = small_lossless _ h.d;
      d_size = h.d.size;
    }

module _ (m : Mesh) (h : Shaped m) where
  sum_small : (i : ℕ) → S m.x m.y m.tri i ≤ 60000000000 * E m
  sum_small i =
      gathered_le 20000000000 (corners m.tri) (λ t. alike (area m.x m.y m.tri t)) (E m) i
      (λ k l. let most = (h.triangles k l).most in record { first = most; second = most; third = most })

  mesh_lossless : MeshLossless m
  mesh_lossless = record {
    triangles = λ t l. sides_lossless _ (h.triangles t l).small;
    sums = λ i.
        let small = sum_small i in
        (omega (arith, small, h.sized.most_triangles), lossless (pos (S m.x m.y m.tri i)) (omega (arith, small, h.sized.most_triangles)));
  }

pub floats_without_loss : FloatsWithoutLoss
unfolding open_answer
floats_without_loss m p state e = mesh_lossless m (shaped _ m (open_parts _ m p e).0)
