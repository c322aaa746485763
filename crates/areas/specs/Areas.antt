-- Document 02, #105: "the sum of all D in 8 bytes".
use Rattle.std.specs.Prelude.{ℕ, zero, suc, ◌+◌, ◌/◌, cond, List, leb, ℤ, pos, negsuc, length}
use Rattle.geometry.specs.Geometry.{near_d}
use Rattle.mesh.specs.Lent.{Mesh, E, corners}
use Rattle.mesh.specs.Geometry.{sides, area}

-- f 0 + f 1 + .. , n of them
unfoldable pub total : (ℕ → ℕ) → ℕ → ℕ
total f zero = 0
total f (suc n) = total f n + f n

-- over the triangles, each once
unfoldable pub sum_d : Mesh → ℕ
sum_d m = total (area m.x m.y m.tri) (E m)

-- ---- the same for any slices: a triangle counts where row 4 accepts its sides and D is above 0, and none past the 8,192nd counts
abbrev pub above : ℤ → ℕ
above (pos n) = n
above (negsuc n) = 0

unfoldable pub counted : List ℤ → List ℤ → List ℕ → ℕ → ℕ
counted x y tri t = above (near_d (sides x y (corners tri t)))

unfoldable pub counted_sum : List ℤ → List ℤ → List ℕ → ℕ
counted_sum x y tri = let e = length tri / 3 in total (counted x y tri) (cond (leb e 8192) e 8192)
