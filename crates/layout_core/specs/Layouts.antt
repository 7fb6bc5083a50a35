-- The layout of a page, and those of the pages of an input.
use Rattle.std.specs.Prelude.{◌≡◌, ◌<◌, ◌≤◌, ◌⊎◌, ⊤, true, ℕ, ◌+◌, List, [], ◌∷◌, length, map, max}
use Rattle.page_runs.specs.Page.{Page}
use Rattle.page_runs.specs.Black.{black_of}
use Rattle.layout_geom.specs.declared.rect.Rect.{Rect}
use Rattle.layout_geom.specs.Rectangles.{HasSides}
use Rattle.components.specs.declared.kept.Kept.{Kept}
use Rattle.components.specs.declared.kept.TheConstants.{MAX_KEPT}
use Rattle.components.specs.Kept.{IsKeptOf, IsKeptList, IsKeptCount}
use Rattle.whitespace_cover.specs.Cover.{IsCover}
use Rattle.gutters.specs.Gutters.{gutters_of}
use Rattle.line_search.specs.declared.line.Line.{Line}
use Rattle.line_search.specs.Lines.{AreLinesOf}
use Rattle.reading_order.specs.Answers.{IsReadingOrder}
use Rattle.reading_order.specs.Areas.{AreAreasOf}
use Rattle.hocr_writer.specs.declared.layout.Layout.{Layout}
use Rattle.hocr_writer.specs.Listing.{listing_of}
use Rattle.command_words.specs.declared.plan.Plan.{Plan}
use Rattle.layout_core.specs.Numbering.{box_of, IsNumbered}
use Rattle.layout_core.specs.WordRows.{AreShownWords}
use Rattle.layout_core.specs.ShownCells.{AreShownCells}
use Rattle.layout_core.specs.ShownBlocks.{IsBlockSmear, AreShownBlocks}
use Rattle.layout_core.specs.declared.page_layout.TheConstants.{LEAST_SIZE}
use Rattle.layout_core.specs.declared.page_layout.CoreFault.{CoreFault}
use Rattle.layout_core.specs.declared.page_layout.CoreFault.TheVariants as faults

-- The layout of a page by a plan, as the page of a number: its kept components, the greedy cover of its white space by at most as many rectangles as
-- planned, each at least as wide and as high as the median height and as 8 pixels, the gutters among them, the greedy lines of its
-- text in the order of their numbers, the order in which they are read, or the cycle that forbids one, the areas that their
-- listing falls into, and, where the plan shows them, the words of each line by its number, the cells of the kept boxes, and the
-- blocks of the page.
pub record IsLayoutAs (number : ℕ) (plan : Plan) (page : Page) (layout : Layout) : Type 0 where
  pub kept : Kept
  pub is_kept : IsKeptOf page kept
  pub whole : Rect
  pub sides : HasSides whole 0 0 page.width page.height
  pub number_is : layout.page ≡ number
  pub width_is : layout.width ≡ page.width
  pub height_is : layout.height ≡ page.height
  pub black_is : layout.black ≡ black_of page
  pub kept_is : layout.kept ≡ length kept.boxes
  pub median_is : layout.median ≡ kept.median
  pub cover : IsCover whole kept.boxes (max kept.median LEAST_SIZE) plan.rects layout.whites
  pub gutters_are : layout.gutters ≡ gutters_of kept layout.whites
  pub image_is : layout.image ≡ plan.image
  pub found : List Line
  pub are_lines : AreLinesOf kept layout.gutters page.height found
  pub numbered : IsNumbered found layout.lines
  pub order_is : IsReadingOrder (map box_of layout.lines) layout.order
  pub areas_are : AreAreasOf (map box_of layout.lines) (listing_of layout) kept.median layout.areas
  pub with_words_is : layout.with_words ≡ plan.words
  pub words_are : AreShownWords plan.words kept numbered.numbered layout.words
  pub cells_are : AreShownCells plan.xy kept layout.cells
  pub blocks_are : AreShownBlocks plan.blocks page kept.median layout.blocks

-- The layout of a page that stands alone, or first: its number is 0.
abbrev pub IsLayout : Plan → Page → Layout → Type 0
IsLayout plan page layout = IsLayoutAs 0 plan page layout

-- The layouts of these pages one by one, whose numbers rise from this one.
abbrev pub AreLayoutsFrom : ℕ → Plan → List Page → List Layout → Type 0
AreLayoutsFrom number plan [] [] = ⊤
AreLayoutsFrom number plan (page ∷ pages) (layout ∷ layouts) =
    IsLayoutAs number plan page layout × AreLayoutsFrom (number + 1) plan pages layouts
AreLayoutsFrom number plan pages layouts = ⊥

-- The layouts of the pages of an input: one for each page, whose number is the page's place.
abbrev pub AreLayouts : Plan → List Page → List Layout → Type 0
AreLayouts plan pages layouts = AreLayoutsFrom 0 plan pages layouts

-- at most 60,000 components of the page are kept
pub record HasFewComponents (page : Page) : Type 0 where
  pub boxes : List Rect
  pub are_kept : IsKeptList page boxes
  pub few : length boxes ≤ MAX_KEPT

-- so many components of the page are kept, and that is more than 60,000
pub record HasTooManyComponents (page : Page) (count : ℕ) : Type 0 where
  pub counted : IsKeptCount page count
  pub many : MAX_KEPT < count

-- the smear of a page of few components has few components of its own
pub record HasFewBlocks (page : Page) : Type 0 where
  pub kept : Kept
  pub is_kept : IsKeptOf page kept
  pub smear : Page
  pub is_smear : IsBlockSmear page kept.median smear
  pub few : HasFewComponents smear

-- the smear of a page of few components has so many, which are too many
pub record HasTooManyBlocks (page : Page) (count : ℕ) : Type 0 where
  pub kept : Kept
  pub is_kept : IsKeptOf page kept
  pub smear : Page
  pub is_smear : IsBlockSmear page kept.median smear
  pub many : HasTooManyComponents smear count

-- at most 60,000 components of the page are kept, and it has at most 60,000 blocks where the plan shows them
pub record HasFew (plan : Plan) (page : Page) : Type 0 where
  pub components : HasFewComponents page
  pub blocks : plan.blocks ≡ true → HasFewBlocks page

-- it has so many components, which are too many, or few components and so many blocks, which the plan shows and which are too many
abbrev pub HasTooMany : Plan → Page → ℕ → Type 0
HasTooMany plan page count = HasTooManyComponents page count ⊎ ((plan.blocks ≡ true) × HasTooManyBlocks page count)

-- why a page has no layout by the plan
abbrev pub IsCoreFault : Plan → Page → CoreFault → Type 0
IsCoreFault plan page (faults.TooMany count) = HasTooMany plan page count
IsCoreFault plan page faults.Memory = ⊤
