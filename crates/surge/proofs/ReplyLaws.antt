-- A result that `?` hands back, as a call's reply.
use mathlib.Core.Path.{◌≡◌, ap, ◌∙◌}
use Rattle.std.specs.Prelude.{Result, Err}
use Rattle.std.specs.Result.{IsErrAnd}
use Rattle.std.proofs.lemmas.Result.{err_from_is_err_and}
use Rattle.rows.specs.declared.Refusal.{Refusal}
use Rattle.rows.specs.Refusals.{answered}
use Rattle.surge.specs.declared.Clock.{Clock}
use Rattle.surge.specs.Lent.{replied}

-- it is the refusal, with the clock that this leaves
pub refused_reply : (k : Clock) (q : Result Clock Refusal) (x : Refusal) → IsErrAnd q (λ y. y ≡ x) → replied k q ≡ record { answer = answered (Err x); clock = k }
refused_reply k q x e = let p = err_from_is_err_and q e in ap (replied k) (p.1 ∙ ap Err p.2)
