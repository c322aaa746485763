-- What the private functions are lent. No public contract cites it.
use Rattle.std.specs.Prelude.{ℕ, ◌/◌, ◌≤◌, length}
use Rattle.looking.specs.Lent.{Lent}

-- rooms of these lengths hold the elements of x, y, tri, h and state
pub record Sizes (b : Lent) (x y tri h state : ℕ) : Type 0 where
  pub holds_x : length b.x / 4 ≤ x
  pub holds_y : length b.y / 4 ≤ y
  pub holds_tri : length b.tri / 2 ≤ tri
  pub holds_h : length b.h / 8 ≤ h
  pub holds_state : length b.state / 8 ≤ state
