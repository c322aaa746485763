use Rattle.std.proofs.Common.{◌≡◌, ℕ, ◌+◌, ◌*◌, ◌<◌, List, length, drop, sym, refl, ap, ◌∙◌, arith, rules}
use Rattle.std.proofs.lemmas.Option.{MatchOption-at_some}
use Rattle.lists.specs.Private.{up_to}
use Rattle.lists.proofs.TableLaws.{up_none, up_all}
use Rattle.grids.specs.Text.{line_of, field_of}
use Rattle.grids.specs.Numbers.{number_of}
use Rattle.grids.specs.Grid.{triangle_tests, triangle_line_rows, corner_in}
use Rattle.grids.specs.Private.{present, after_lines, TriangleSeen}
use Rattle.grids.specs.declared.entries.TriangleLine.{TriangleLine}
use Rattle.grids.proofs.FillLaws.{here, here_accepts, here_after, line_there, triangle_holds, three_more, corner_place, first_corner, second_corner, third_corner, triangle_after}
use Rattle.grids.proofs.filling.fill_triangles.Goals as goal
use Rattle.grids.proofs.filling.fill_triangles.Goals.{After-unwrap-its}

pub loop-k-init : goal.loop-k-init
unfolding after_lines
loop-k-init c = (search rules, (refl, sym (up_none _ _)))

-- the next triangle's line was accepted, so that it is there

pub unwrap-its-requires : goal.unwrap-its-requires
unwrap-its-requires c =
    let left = drop c.loop-k.at c.args.text.now in
    let accepted = c.requires.by_index c.loop-k.k (omega (arith, c.loop-k-test.true)) in
    let ok = here_accepts c.loop-k.k (drop c.args.from c.args.text.now) c.loop-k.invariant.1.0 (triangle_line_rows c.args.n) accepted in
    line_there triangle_tests left _ _ c.triangle_at.ensures (triangle_holds c.args.n c.loop-k.k left ok)

-- and was read

abbrev u : After-unwrap-its → List ℕ
u s = drop s.args.from s.args.text.now

abbrev k : After-unwrap-its → ℕ
k s = s.loop-k.k

abbrev r : After-unwrap-its → TriangleLine
r s = s.unwrap-its.result

seen : (s : After-unwrap-its) → TriangleSeen (drop s.loop-k.at s.args.text.now) (r s) (drop (r s).next s.args.text.now)
seen s = MatchOption-at_some _ _ _ s.unwrap-its.ensures s.triangle_at.ensures

at : (s : After-unwrap-its) → drop s.loop-k.at s.args.text.now ≡ after_lines (k s) (u s)
at s = s.loop-k.invariant.1.0

turn : (s : After-unwrap-its) → 3 * k s + 2 < length s.args.tri.now
turn s = omega (arith, s.loop-k-test.true)

ok : (s : After-unwrap-its) → (triangle_line_rows s.args.n (k s) (present (drop s.loop-k.at s.args.text.now))).number ≡ 0
ok s = here_accepts (k s) (u s) (at s) (triangle_line_rows s.args.n) (s.requires.by_index (k s) (omega (arith, turn s)))

pub loop-k-preserved : goal.loop-k-preserved
loop-k-preserved c =
    let s = (goal.at.loop-k-preserved c).After-unwrap-its in
    let n = c.args.n in
    let line = here (k s) (u s) (at s) in
    let its : (j : ℕ) → number_of (field_of (present (drop s.loop-k.at s.args.text.now)) j) ≡ number_of (field_of (line_of (u s) (k s)) j) =
    λ j. ap (λ (t : List ℕ). number_of (field_of t j)) line in (
      omega (arith, c.loop-k-test.true),
      (
        here_after (k s) (u s) (at s) (triangle_after n (k s) (seen s) (ok s)),
        three_more (k s) (corner_in (line_of (u s))) s.args.tri.now s.loop-k.invariant.1.1 (turn s)
            (c.node_of.ensures ∙ corner_place (u s) (k s) 0 (omega arith) ((first_corner n (k s) (seen s) (ok s)).0 ∙ its 2))
            (c.node_of-in-loop-k.ensures ∙ corner_place (u s) (k s) 1 (omega arith) ((second_corner n (k s) (seen s) (ok s)).0 ∙ its 3))
            (c.node_of-in-loop-k-2.ensures ∙ corner_place (u s) (k s) 2 (omega arith) ((third_corner n (k s) (seen s) (ok s)).0 ∙ its 4)),
      ),
    )

pub returns : goal.returns
returns c =
    let a = c.args in
    let f = corner_in (line_of (drop a.from a.text.now)) in
    let all : 3 * c.loop-k.k ≡ length a.tri.now = omega (arith, c.requires.tri_len) in
    c.loop-k.invariant.1.1 ∙ ap (λ (n : ℕ). up_to n f a.tri.now) all ∙ up_all f a.tri.now

pub node_of-requires : goal.node_of-requires
node_of-requires c = let s = (goal.at.node_of-requires c).After-unwrap-its in (first_corner s.args.n (k s) (seen s) (ok s)).1

pub node_of-requires-in-loop-k : goal.node_of-requires-in-loop-k
node_of-requires-in-loop-k c = let s = (goal.at.node_of-requires-in-loop-k c).After-unwrap-its in (second_corner s.args.n (k s) (seen s) (ok s)).1

pub node_of-requires-in-loop-k-2 : goal.node_of-requires-in-loop-k-2
node_of-requires-in-loop-k-2 c = let s = (goal.at.node_of-requires-in-loop-k-2 c).After-unwrap-its in (third_corner s.args.n (k s) (seen s) (ok s)).1
