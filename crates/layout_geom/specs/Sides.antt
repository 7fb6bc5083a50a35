-- The sides that a rectangle may have.
use Rattle.std.specs.Prelude.{ℕ, ◌-◌, ◌*◌, ◌<◌, ◌≤◌}
use Rattle.layout_limits.specs.declared.TheConstants.{MAX_SIDE, MAX_PIXELS}

-- at least one pixel and at most MAX_PIXELS, within MAX_SIDE columns and as many rows
pub record AreSides (x0 y0 x1 y1 : ℕ) : Type 0 where
  pub wide : x0 < x1
  pub high : y0 < y1
  pub right : x1 ≤ MAX_SIDE
  pub bottom : y1 ≤ MAX_SIDE
  pub small : (x1 - x0) * (y1 - y0) ≤ MAX_PIXELS
