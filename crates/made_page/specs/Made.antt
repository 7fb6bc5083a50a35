-- The page of a seed.
use Rattle.std.specs.Prelude.{ℕ, Bool, ◌&&◌, List, nat_lt, nat_le}
use Rattle.std.specs.List.{list_any}
use Rattle.packed_rows.specs.Page.{Page, page_with}
use Rattle.made_page.specs.declared.block.Block.{Block}
use Rattle.made_page.specs.declared.painting.TheConstants.{HEIGHT, WIDTH}
use Rattle.made_page.specs.Blocks.{blocks_of}

-- whether the block has the place
unfoldable pub has_place : ℕ → ℕ → Block → Bool
has_place x y block = (nat_le block.left x && nat_lt x block.right) && (nat_le block.top y && nat_lt y block.foot)

-- the page, WIDTH wide and HEIGHT high, on which the places of these blocks are black
abbrev pub page_of_blocks : List Block → Page
page_of_blocks blocks = page_with WIDTH HEIGHT (λ x y. list_any (has_place x y) blocks)

-- the page of a seed
unfoldable pub made_page : ℕ → Page
made_page seed = page_of_blocks (blocks_of seed)
