-- The blocks of a made page end within its width.
use Rattle.std.proofs.Common.{ℕ, ◌≤◌, get_or, arith}
use Rattle.std.specs.Prelude.{All}
use Rattle.std.specs.List.{range_with_len}
use Rattle.std.proofs.lemmas.List.Elements.{All-append, All-map}
use Rattle.made_page.specs.declared.block.Block.{Block}
use Rattle.made_page.specs.Blocks.{glyph, speck, glyphs_of, specks_of, blocks_of}

abbrev pub IsWithin : Block → Type 0
IsWithin block = block.right ≤ 2480

glyph_within : (seed number : ℕ) → IsWithin (glyph seed number)
unfolding glyph
glyph_within seed number = omega arith

speck_within : (row : ℕ) → IsWithin (speck row)
unfolding speck
speck_within row = omega arith

glyphs_within : (seed count : ℕ) → All IsWithin (glyphs_of seed count)
unfolding glyphs_of
glyphs_within seed count = All-map IsWithin (glyph seed) (range_with_len 0 count) (λ i d below. glyph_within seed (get_or (range_with_len 0 count) i d))

specks_within : (rows : ℕ) → All IsWithin (specks_of rows)
unfolding specks_of
specks_within rows = All-map IsWithin speck (range_with_len 0 rows) (λ i d below. speck_within (get_or (range_with_len 0 rows) i d))

pub blocks_within : (seed : ℕ) → All IsWithin (blocks_of seed)
unfolding blocks_of
blocks_within seed = All-append IsWithin (glyphs_of seed 1936) (specks_of 44) (glyphs_within seed 1936) (specks_within 44)
