use Prim.Native.Nat.{ℕ, ◌<◌}
use mathlib.Core.Path.{◌≡◌, ap, ◌∙◌}
use mathlib.Core.Bool.{Bool, false}
use mathlib.Core.List.{List}
use native.Mathlib.Nat.{lt_of_lt_of_le}
use native.Mathlib.Omega.{arith}
use borrow.Author.Rules.{rules}
use lib.ListN.{get_or}
use Rattle.rows.specs.Scan.{row}
use Rattle.lists.proofs.TableLaws.{get_d_table}
use Rattle.nodes.specs.Rows.{is_named, row7}
use Rattle.nodes.proofs.marks.named.Goals as goal
use Rattle.nodes.proofs.marks.named.Goals.{After-marks-seen}

-- a mark says whether a triangle names the node
mark : (c : After-marks-seen) (i : ℕ) → i < c.args.n → get_or c.marks-seen.result i false ≡ is_named c.args.tri.now i
mark c i l =
    ap (λ (s : List Bool). get_or s i false) c.marks-seen.ensures ∙ get_d_table 4096 (is_named c.args.tri.now) i false (omega (arith, c.requires.n_bound, l))

pub marks-seen-requires : goal.marks-seen-requires
marks-seen-requires c = λ j h. lt_of_lt_of_le (c.requires.by_index j h) c.requires.n_bound

pub returns : goal.returns
unfolding row7
returns c =
    let seen = mark (goal.at.returns c).After-marks-seen in
    c.scan.ensures _ (λ i r l p. (search rules) ∙ ap (λ (b : Bool). row b 7 i) (seen i l))
