-- A triangle's corners and sides, as they are read of the lent slices.
use Prim.Native.Nat.{ℕ, ◌/◌, ◌<◌}
use mathlib.Core.Path.{◌≡◌, refl, ap, ◌∙◌}
use mathlib.Core.List.{List}
use borrow.Author.Tests.{lt-ltb}
use lib.IntN.{ℤ}
use lib.ListN.{length}
use Rattle.lists.specs.Gather.{Three}
use Rattle.geometry.specs.declared.Corners.{Corners}
use Rattle.geometry.specs.declared.Places.{Places}
use Rattle.geometry.specs.Geometry.{sides_at, nodes_of}
use Rattle.mesh.specs.Lent.{corners, corners_at}
use Rattle.mesh.specs.Geometry.{sides, places_of}

pub corners_read : (tri : List ℕ) (t : ℕ) {c : Corners} → t < length tri / 3 → c ≡ corners_at tri t → nodes_of c ≡ corners tri t
unfolding corners_at
corners_read tri t h e = ap nodes_of e ∙ rw (lt-ltb t (length tri / 3) h)

module _ (x y : List ℤ) where
  placed : (c : Three ℕ) → sides_at (places_of x y c) ≡ sides x y c
  unfolding sides_at sides
  placed c = refl

  pub sides_read : (p : Places) (c k : Three ℕ) → p ≡ places_of x y c → c ≡ k → sides_at p ≡ sides x y k
  sides_read p c k e q = ap sides_at e ∙ placed c ∙ ap (sides x y) q
