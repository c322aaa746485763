use Prim.Native.Nat.{ℕ, ◌*◌}
use mathlib.Core.Path.{◌≡◌, sym, ap, ◌∙◌}
use mathlib.Core.Bool.{Bool}
use mathlib.Core.List.{List}
use lib.ListN.{length}
use lib.Ieee.{Float}
use Rattle.std.specs.Prelude.{Err}
use Rattle.rows.specs.declared.Answer.{Answer}
use Rattle.rows.specs.declared.Refusal.{Refusal}
use Rattle.rows.specs.Scan.{row}
use Rattle.rows.specs.Refusals.{answered}
use Rattle.rows.proofs.ScanLaws.{then_stop, then_next}
use Rattle.rows.proofs.RefusalLaws.{refuses, accepts}
use Rattle.lists.specs.Runs.{is_runs}
use Rattle.quantities.specs.declared.Parameters.{Parameters}
use Rattle.mesh.specs.Lent.{Mesh, mesh_of, N, E}
use Rattle.mesh.specs.Private.{Shaped}
use Rattle.mesh.proofs.ShapedLaws.{shaped, shaped_asked}
use Rattle.areas.specs.Areas.{counted_sum}
use Rattle.areas.proofs.AreaLaws.{all_counted}
use Rattle.nodes.specs.Rows.{mesh_rows}
use Rattle.nodes.proofs.PartLaws.{mesh_parts}
use Rattle.bounds.specs.State.{state_runs, row1_state}
use Rattle.bounds.proofs.StateLaws.{long_state}
use Rattle.editions.specs.Lines.{Edition, edition_of}
use Rattle.surge.specs.Lent.{Reply, after}
use Rattle.surge.proofs.ReplyLaws.{refused_reply}
use Rattle.loads.specs.Load.{clock_in, rows_in, state_in, load_answer}
use Rattle.loads.proofs.LoadLaws.{load_refused, load_taken}
use Rattle.loads.proofs.load.Goals as goal
use Rattle.loads.proofs.load.Goals.{After-edition_of}

module _ (m : Mesh) (p : Parameters) (state : List Float) where
  -- the mesh's rows are asked with row 1 of the state
  asked : {is_long : Bool} {long lent : Answer} → is_long ≡ is_runs (length state) state_runs (N m) → long ≡ row is_long 1 0 → lent ≡ mesh_rows long m p
      → lent ≡ mesh_rows (row1_state m state) m p
  asked el ea e = e ∙ ap (λ (a : Answer). mesh_rows a m p) (ea ∙ ap (λ (b : Bool). row b 1 0) el)

  -- where they refuse
  mesh_refused : (x : Refusal) (t : List ℕ) → answered (Err x) ≡ mesh_rows (row1_state m state) m p → answered (Err x) ≡ load_answer m p t state
  unfolding load_answer
  mesh_refused x t e = e ∙ sym (then_stop _ _ (refuses x e))

  -- and where they pass
  module _ (ok : (mesh_rows (row1_state m state) m p).number ≡ 0) where
    shape : Shaped m
    shape = shaped _ m (mesh_parts _ _ _ ok).0

    long : length state ≡ state_runs * N m
    long = long_state m state (shaped_asked _ m (mesh_parts _ _ _ ok).0)

    -- those of the text are asked
    text_asked : (t : List ℕ) {d : Edition} {sum : ℕ} {r : Answer} → d ≡ edition_of t → sum ≡ counted_sum m.x m.y m.tri → r ≡ rows_in d (N m) t (E m) sum p m.h
        → r ≡ load_answer m p t state
    unfolding load_answer
    text_asked t ed es er = er ∙ (λ i. rows_in (ed i) (N m) t (E m) ((es ∙ all_counted m shape) i) p m.h) ∙ sym (then_next _ _ ok)

passed : (c : After-edition_of) → let m = mesh_of c.args.m.now in (mesh_rows (row1_state m c.args.state.now) m c.args.p).number ≡ 0
passed c = accepts (asked _ _ _ c.is_runs-long.ensures c.tested.ensures c.in_ok-mesh_rows.ensures)

pub returns-in_err-mesh_rows : goal.returns-in_err-mesh_rows
returns-in_err-mesh_rows c =
    λ clock.
    ap (λ (r : Reply). after r c.args.state.now) (refused_reply clock _ _ c.from_residual.ensures.1)
    ∙ load_refused _ _ _ _ clock _ (mesh_refused _ _ _ _ _ (asked _ _ _ c.is_runs-long.ensures c.tested.ensures c.in_err-mesh_rows.ensures))

pub text_rows-requires : goal.text_rows-requires
text_rows-requires c = let sized = (shape _ _ _ (passed (goal.at.text_rows-requires c).After-edition_of)).sized in (sized.h, sized.most_nodes)

pub returns-in_err-text_rows : goal.returns-in_err-text_rows
returns-in_err-text_rows c =
    let ok = passed (goal.at.returns-in_err-text_rows c).After-edition_of in
    λ clock.
    ap (λ (r : Reply). after r c.args.state.now) (refused_reply clock _ _ c.from_residual-in_err-text_rows.ensures.1)
    ∙ load_refused _ _ _ _ clock _ (text_asked _ _ _ ok _ c.edition_of.ensures c.twice_areas-sum.ensures c.in_err-text_rows.ensures)

pub fill-requires : goal.fill-requires
fill-requires c =
    let ok = passed (goal.at.fill-requires c).After-edition_of in
    let sized = (shape _ _ _ ok).sized in
    (sized.most_nodes, sized.h, long _ _ _ ok)

pub clock-requires : goal.clock-requires
clock-requires c = (shape _ _ _ (passed (goal.at.clock-requires c).After-edition_of)).sized.most_nodes

pub returns : goal.returns
returns c =
    let m = mesh_of c.args.m.now in
    let t = c.args.text.now in
    let ok = passed (goal.at.returns c).After-edition_of in
    let edition = c.edition_of.ensures in
    λ clock.
    load_taken m _ t _ clock
    (text_asked _ _ _ ok _ edition c.twice_areas-sum.ensures c.in_ok-text_rows.ensures)
    (c.clock.ensures ∙ ap (λ (d : Edition). clock_in d (N m) t) edition)
    (c.fill.ensures ∙ ap (λ (d : Edition). state_in d (N m) t m.h) edition)
