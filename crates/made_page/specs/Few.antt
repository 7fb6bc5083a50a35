-- How many components a made page has.
use Rattle.std.specs.Prelude.{ℕ, ◌+◌, ◌≤◌}
use Rattle.components.specs.Kept.{IsKeptCount}
use Rattle.made_page.specs.declared.blocks.TheConstants.{GLYPHS, ROWS}
use Rattle.made_page.specs.Made.{made_page}

-- at most one component is kept for each block, which is a glyph or a speck
abbrev pub MadePageHasFewComponents : Type 0
MadePageHasFewComponents = (seed count : ℕ) → IsKeptCount (made_page seed) count → count ≤ GLYPHS + ROWS
