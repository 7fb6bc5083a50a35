-- How many gaps a line has at most, and how wide they are together.
use Rattle.std.specs.Prelude.{ℕ, ◌≤◌, ◌+◌}
use Rattle.layout_limits.specs.declared.TheConstants.{MAX_SIDE}
use Rattle.word_split.specs.declared.parting.TheConstants.{MAX_MEMBERS}

-- the gaps of a line, which fit into a page: so many narrow ones and so many wide ones, with these sums in columns
pub record AreSmall (narrow_count narrow_sum wide_count wide_sum : ℕ) : Type 0 where
  pub few : narrow_count + wide_count ≤ MAX_MEMBERS
  pub slim : narrow_sum + wide_sum ≤ MAX_SIDE
