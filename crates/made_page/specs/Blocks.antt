-- The blocks of the page of a seed.
use Rattle.std.specs.Prelude.{ℕ, ◌+◌, ◌-◌, ◌*◌, ◌/◌, ◌%◌, List, ◌++◌, map}
use Rattle.std.specs.List.{range_with_len}
use Rattle.made_page.specs.declared.block.Block.{Block}
use Rattle.made_page.specs.declared.blocks.TheConstants.{COLUMNS, COLUMN_STEP, FIRST_FOOT, FIRST_LEFT, GLYPHS, GLYPH_STEP, HEIGHTS}
use Rattle.made_page.specs.declared.blocks.TheConstants.{LEAST_SIDE, PLACES, ROWS, ROW_STEP, SPECK_LEFT, SPECK_SIDE, WIDTHS}
use Rattle.made_page.specs.Draws.{draw}

-- the rows of glyphs stand one under the other, and the blocks of a row stand on one foot
abbrev pub foot_of : ℕ → ℕ
foot_of row = FIRST_FOOT + ROW_STEP * row

-- the left edge of a glyph, by its column and its place there
abbrev pub glyph_left : ℕ → ℕ → ℕ
glyph_left column place = FIRST_LEFT + COLUMN_STEP * column + GLYPH_STEP * place

-- the block of this width and height, from its left edge and its foot
abbrev pub block_at : ℕ → ℕ → ℕ → ℕ → Block
block_at left foot width height = record { left = left; right = left + width; top = foot - height; foot = foot }

-- the glyphs are numbered from 0 by rows, in a row by its columns, and in a column by its places; each is as wide as the first of its
-- two draws says, and as high as the second
unfoldable pub glyph : ℕ → ℕ → Block
glyph seed number =
    block_at
    (glyph_left (number / PLACES % COLUMNS) (number % PLACES))
    (foot_of (number / (COLUMNS * PLACES)))
    (LEAST_SIDE + draw seed (2 * number) % WIDTHS)
    (LEAST_SIDE + draw seed (2 * number + 1) % HEIGHTS)

-- the speck of a row, between the columns, for which nothing is drawn
unfoldable pub speck : ℕ → Block
speck row = block_at SPECK_LEFT (foot_of row) SPECK_SIDE SPECK_SIDE

-- the first glyphs of the page, and the specks of its first rows
unfoldable pub glyphs_of : ℕ → ℕ → List Block
glyphs_of seed count = map (glyph seed) (range_with_len 0 count)

unfoldable pub specks_of : ℕ → List Block
specks_of rows = map speck (range_with_len 0 rows)

-- the glyphs of all rows, and a speck in each row
unfoldable pub blocks_of : ℕ → List Block
blocks_of seed = glyphs_of seed GLYPHS ++ specks_of ROWS
