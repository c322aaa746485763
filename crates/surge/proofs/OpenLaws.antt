-- The two outcomes of opening a mesh.
use Prim.Native.Nat.{◌*◌}
use mathlib.Core.Path.{◌≡◌, sym, ap, ◌∙◌}
use mathlib.Core.Bool.{Bool, true, false, cond}
use mathlib.Core.List.{List}
use borrow.Author.Tests.{eqb-true}
use lib.Dec.{eqb}
use lib.ListN.{length}
use lib.Ieee.{Float}
use Rattle.std.specs.Prelude.{is_ok}
use Rattle.rows.specs.declared.Answer.{Answer}
use Rattle.rows.specs.Scan.{row}
use Rattle.rows.specs.Refusals.{answered}
use Rattle.rows.proofs.RefusalLaws.{Asked, answered_ok}
use Rattle.rows.proofs.ScanLaws.{same_number}
use Rattle.lists.specs.Table.{zeros}
use Rattle.lists.specs.Runs.{is_runs}
use Rattle.quantities.specs.declared.Parameters.{Parameters}
use Rattle.mesh.specs.Lent.{Mesh, N}
use Rattle.mesh.proofs.ShapedLaws.{shaped_asked}
use Rattle.nodes.specs.Rows.{open_rows}
use Rattle.nodes.proofs.PartLaws.{open_parts}
use Rattle.bounds.specs.State.{state_runs}
use Rattle.bounds.proofs.StateLaws.{long_state}
use Rattle.surge.specs.declared.Clock.{Clock}
use Rattle.surge.specs.Lent.{cold_state, cold_clock, after}
use Rattle.surge.specs.Open.{open_answer, open_of}

module _ (m : Mesh) (p : Parameters) (state : List Float) where
  -- the rows that are asked with row 1 of the state are its answer
  pub opened : {is_long : Bool} {long a : Answer} → is_long ≡ is_runs (length state) state_runs (N m) → long ≡ row is_long 1 0 → a ≡ open_rows long m p → a ≡ open_answer m p state
  unfolding open_answer
  opened el ea e = e ∙ ap (λ (b : Answer). open_rows b m p) (ea ∙ ap (λ (b : Bool). row b 1 0) el)

  module _ (q : Asked) (e : answered q ≡ open_answer m p state) (k : Clock) (cold : k ≡ cold_clock) where
    done : (b : Bool) → is_ok q ≡ b → (now : List Float) → now ≡ cond b (cold_state (N m)) state → after (record { answer = answered q; clock = k }) now ≡ open_of m p state
    unfolding open_of
    done b is now s =
        let left = λ (d : Bool). cond d (cold_state (N m)) state in
        (λ i. after (record { answer = answered q; clock = cold i }) ((s ∙ ap left (sym is ∙ answered_ok q)) i))
        ∙ ap (λ (a : Answer). after (record { answer = a; clock = cold_clock }) (left (eqb a.number 0))) e

    long : is_ok q ≡ true → length state ≡ state_runs * N m
    unfolding open_answer
    long is = long_state m state (shaped_asked _ m (open_parts _ m p (same_number e (eqb-true _ _ (sym (answered_ok q) ∙ is)))).0)

    pub open_accepted : is_ok q ≡ true → (now : List Float) → now ≡ zeros (length state) → after (record { answer = answered q; clock = k }) now ≡ open_of m p state
    open_accepted is now s = done true is now (s ∙ ap zeros (long is))

    pub open_refused : is_ok q ≡ false → (now : List Float) → now ≡ state → after (record { answer = answered q; clock = k }) now ≡ open_of m p state
    open_refused is now s = done false is now s
