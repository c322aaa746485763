use Rattle.std.proofs.Common.{◌≡◌, ℕ, List, length, drop, sym, refl, ap, ◌∙◌, arith, rules}
use Rattle.std.proofs.lemmas.Option.{MatchOption-at_some}
use Rattle.lists.specs.Table.{table}
use Rattle.lists.specs.Private.{up_to}
use Rattle.lists.proofs.TableLaws.{up_none, up_all, fill_more}
use Rattle.grids.specs.Text.{line_of, field_of}
use Rattle.grids.specs.Numbers.{whole_of, depth_of}
use Rattle.grids.specs.Grid.{node_tests, node_line_rows, x_in, y_in, h_in}
use Rattle.grids.specs.Private.{present, after_lines, NodeSeen, NodesFilled}
use Rattle.grids.specs.declared.entries.NodeLine.{NodeLine}
use Rattle.grids.proofs.SignLaws.{handed_32}
use Rattle.grids.proofs.FillLaws.{here, here_accepts, here_after, line_there, node_holds, x_value, y_value, x_fits, y_fits, h_value, node_after}
use Rattle.grids.proofs.filling.fill_nodes.Goals as goal
use Rattle.grids.proofs.filling.fill_nodes.Goals.{After-loop-i, After-unwrap-its}

pub loop-i-init : goal.loop-i-init
unfolding after_lines
loop-i-init c = (search rules, (refl, (sym (up_none _ _), (sym (up_none _ _), sym (up_none _ _)))))

-- the next node's line was accepted, so that it is there

pub unwrap-its-requires : goal.unwrap-its-requires
unwrap-its-requires c =
    let left = drop c.loop-i.at c.args.text.now in
    let accepted = c.requires.by_index c.loop-i.i c.loop-i-test.true in
    let ok = here_accepts c.loop-i.i (drop c.args.from c.args.text.now) c.loop-i.invariant.1.0 node_line_rows accepted in
    line_there node_tests left _ _ c.node_at.ensures (node_holds c.loop-i.i left ok)

-- and was read

abbrev u : After-unwrap-its → List ℕ
u k = drop k.args.from k.args.text.now

abbrev i : After-unwrap-its → ℕ
i k = k.loop-i.i

abbrev r : After-unwrap-its → NodeLine
r k = k.unwrap-its.result

seen : (k : After-unwrap-its) → NodeSeen (drop k.loop-i.at k.args.text.now) (r k) (drop (r k).next k.args.text.now)
seen k = MatchOption-at_some _ _ _ k.unwrap-its.ensures k.node_at.ensures

at : (k : After-unwrap-its) → drop k.loop-i.at k.args.text.now ≡ after_lines (i k) (u k)
at k = k.loop-i.invariant.1.0

ok : (k : After-unwrap-its) → (node_line_rows (i k) (present (drop k.loop-i.at k.args.text.now))).number ≡ 0
ok k = here_accepts (i k) (u k) (at k) node_line_rows (k.requires.by_index (i k) k.loop-i-test.true)

pub loop-i-preserved : goal.loop-i-preserved
loop-i-preserved c =
    let k = (goal.at.loop-i-preserved c).After-unwrap-its in
    let a = c.args in
    let turn = c.loop-i-test.true in
    let lengths = c.requires.y_len in
    let x = handed_32 (r k).x.minus (r k).x.size (x_fits (i k) (seen k) (ok k)) c.whole_of.ensures ∙ x_value (i k) (seen k) (ok k) in
    let y = handed_32 (r k).y.minus (r k).y.size (y_fits (i k) (seen k) (ok k)) c.whole_of-in-loop-i.ensures ∙ y_value (i k) (seen k) (ok k) in
    let h = c.depth_of.ensures ∙ h_value (i k) (seen k) (ok k) in
    let line = here (i k) (u k) (at k) in (
      omega (arith, turn),
      (
        here_after (i k) (u k) (at k) (node_after (i k) (seen k) (ok k)),
        (
          fill_more (i k) (x_in (line_of (u k))) a.x.now c.loop-i.invariant.1.1.0 turn (x ∙ ap (λ (t : List ℕ). whole_of (field_of t 1)) line),
          (
            fill_more (i k) (y_in (line_of (u k))) a.y.now c.loop-i.invariant.1.1.1.0 (omega (arith, turn, lengths.0)) (y ∙ ap (λ (t : List ℕ). whole_of (field_of t 2)) line),
            fill_more (i k) (h_in (line_of (u k))) a.h.now c.loop-i.invariant.1.1.1.1 (omega (arith, turn, lengths.1)) (h ∙ ap (λ (t : List ℕ). depth_of (field_of t 3)) line),
          ),
        ),
      ),
    )

-- every place is filled

abbrev lines : After-loop-i → List ℕ
lines c = drop c.args.from c.args.text.now

all : (c : After-loop-i) → c.loop-i.i ≡ length c.args.x.now
all c = omega arith

whole : (c : After-loop-i) {A : Type 0} (f : ℕ → A) (l₀ : List A) {l : List A} → length l₀ ≡ length c.args.x.now → l ≡ up_to c.loop-i.i f l₀
    → l ≡ table (length c.args.x.now) f
whole c f l₀ same filled = filled ∙ ap (λ (n : ℕ). up_to n f l₀) (all c ∙ sym same) ∙ up_all f l₀ ∙ ap (λ (n : ℕ). table n f) same

filled : (c : After-loop-i) → NodesFilled (length c.args.x.now) (lines c) c.loop-i.x c.loop-i.y c.loop-i.h (drop c.loop-i.at c.args.text.now)
filled c = record {
  its_x = whole c (x_in (line_of (lines c))) c.args.x.now refl c.loop-i.invariant.1.1.0;
  its_y = whole c (y_in (line_of (lines c))) c.args.y.now c.requires.y_len.0 c.loop-i.invariant.1.1.1.0;
  its_h = whole c (h_in (line_of (lines c))) c.args.h.now c.requires.y_len.1 c.loop-i.invariant.1.1.1.1;
  after = c.loop-i.invariant.1.0 ∙ ap (λ (k : ℕ). after_lines k (lines c)) (all c);
}

pub returns : goal.returns
returns c = filled (goal.at.returns c).After-loop-i

pub whole_of-requires : goal.whole_of-requires
whole_of-requires c = let k = (goal.at.whole_of-requires c).After-unwrap-its in x_fits (i k) (seen k) (ok k)

pub whole_of-requires-in-loop-i : goal.whole_of-requires-in-loop-i
whole_of-requires-in-loop-i c = let k = (goal.at.whole_of-requires-in-loop-i c).After-unwrap-its in y_fits (i k) (seen k) (ok k)

pub depth_of-requires : goal.depth_of-requires
depth_of-requires c = (seen (goal.at.depth_of-requires c).After-unwrap-its).h_small
