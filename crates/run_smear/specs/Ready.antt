-- A sweep that stands where the rows of a smear are painted.
use Rattle.std.specs.Prelude.{◌<◌, ◌≤◌, ◌+◌, ◌-◌, ℕ, min}
use Rattle.packed_rows.specs.Page.{Page}
use Rattle.run_smear.specs.declared.band.Sweep.{Sweep}
use Rattle.run_smear.specs.Columns.{AreKnown, AreWithin, IsSwept}

-- The rows from y on can be painted: the sweep began so far above them that each stretch that they have a part of begins within it, it
-- knows the fills that reach below row y, and where y is a row above `until` it has listed those that are near.
pub record IsReady (page : Page) (most y : ℕ) (sweep : Sweep) : Type 0 where
  pub first : ℕ
  pub early : first ≤ y - most
  pub begun : first ≤ sweep.next
  pub reach : sweep.next ≤ min page.height (sweep.until + most)
  pub slim : AreWithin page.width sweep.fills.items
  pub swept : IsSwept page most first y sweep.next sweep.behind.items sweep.fills.items
  pub near : y < sweep.until → AreKnown page most y sweep.until sweep.near.items
