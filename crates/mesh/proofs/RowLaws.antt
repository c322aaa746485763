-- What each row's definition comes to, as the code that tests it has it.
use Prim.Native.Nat.{ℕ}
use mathlib.Core.Path.{◌≡◌, refl, ap, ◌∙◌}
use mathlib.Core.Bool.{true, ◌&&◌}
use borrow.Author.Tests.{ltb-true}
use lib.Dec.{ltb}
use lib.ListN.{length}
use Rattle.rows.specs.declared.Answer.{Answer}
use Rattle.lists.specs.Gather.{Three}
use Rattle.lists.specs.Private.{Below}
use Rattle.rows.specs.Scan.{◌then◌, scan}
use Rattle.rows.proofs.ScanLaws.{then_assoc, both_left, both_right}
use Rattle.mesh.specs.Lent.{Mesh, N, E}
use Rattle.mesh.specs.Rows.{all_below, row1, row2, triangle_rows, size_rows, shape_rows}

-- ---- rows 1 to 5: rows 1 and 2 are asked together, of the lengths, and where they accept the rest decides
pub sizes_of : (asked : Answer) (m : Mesh) → size_rows asked (N m) (length m.y) (length m.tri) (length m.h) (length m.kind) ≡ (asked then row1 m then row2 m)
unfolding size_rows row1 row2
sizes_of asked m = refl

pub lent_first_lem : (asked : Answer) (m : Mesh) → ((asked then row1 m then row2 m) then scan (triangle_rows m.x m.y m.tri) (E m)) ≡ shape_rows asked m
unfolding shape_rows
lent_first_lem asked m = then_assoc _ _ _ ∙ ap (λ (a : Answer). asked then a) (then_assoc _ _ _)

-- ---- rows 3 to 5
pub below_all : (c : Three ℕ) (n : ℕ) → all_below c n ≡ true → Below c n
unfolding all_below
below_all c n e =
    let l = both_left (ltb c.first n && ltb c.second n) (ltb c.third n) e in
    record {
      first = ltb-true _ _ (both_left (ltb c.first n) (ltb c.second n) l);
      second = ltb-true _ _ (both_right (ltb c.first n) (ltb c.second n) l);
      third = ltb-true _ _ (both_right (ltb c.first n && ltb c.second n) (ltb c.third n) e);
    }
