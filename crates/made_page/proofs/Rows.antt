-- A page that gets its painted rows.
use Rattle.std.proofs.Common.{◌≡◌, ℕ, suc, ◌+◌, ◌<◌, Bool, cond, ◌&&◌, List, length, inl, inr, ap, sym, subst, ◌∙◌, arith}
use Rattle.std.specs.List.{list_any}
use Rattle.packed_rows.specs.Page.{Page, row_len, pixel, IsRowOf}
use Rattle.packed_rows.specs.PageLaws.{row_of_page, white_past}
use Rattle.page_runs.specs.Given.{AfterRows}
use Rattle.page_runs.specs.Packed.{Packed, IsWhole, Holds}
use Rattle.page_runs.specs.Rows.{Begun, Given, GivenPageIsHeld}
use Rattle.made_page.specs.declared.block.Block.{Block}
use Rattle.made_page.specs.Made.{has_place, page_of_blocks}
use Rattle.made_page.specs.declared.painting.TheConstants.{HEIGHT, WIDTH}

-- a painted row is that of the page
pub painted_row : (blocks : List Block) (y : ℕ) (bits : List ℕ) → y < HEIGHT → length bits ≡ row_len WIDTH
    → ((k : ℕ) → pixel bits k ≡ cond (list_any (has_place k y) blocks) 1 0) → IsRowOf (page_of_blocks blocks) y bits
painted_row blocks y bits below len painted =
    row_of_page WIDTH HEIGHT (λ x v. list_any (has_place x v) blocks) y bits (record { len = len; padding = λ x past. white_past bits x (omega (arith, len, past)) }) below (λ x in_row. painted x)

-- one more row was given
pub row_more : (page : Page) (y : ℕ) (first before after : Packed) (bits : List ℕ) → AfterRows Given page y first before → IsRowOf page y bits → Given before bits after
    → AfterRows Given page (y + 1) first after
row_more page y first before after bits rows row given =
    let e : suc y ≡ y + 1 = omega arith in
    let all : AfterRows Given page (suc y) first after = (before, bits, rows, row, given) in
    subst (λ (n : ℕ). AfterRows Given page n first after) e all

-- the page that got all rows is whole, and holds the page
pub all_given : GivenPageIsHeld → (page : Page) (y : ℕ) (old first new : Packed) → y ≡ page.height → Begun old page.width page.height first → AfterRows Given page y first new
    → IsWhole new × Holds new page
all_given law page y old first new all begun rows =
    law page old new (record { empty = first; begins = begun; rows = subst (λ (n : ℕ). AfterRows Given page n first new) all rows })
