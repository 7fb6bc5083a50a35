-- The document of the layouts of an input's pages, line by line: HTML in the manner of hOCR 1.2.
-- Each line ends with one line feed. A number is decimal, without leading zeros.
use Rattle.std.specs.List.{list_any}
use Rattle.std.specs.Prelude.{ℕ, Bool, true, false, List, [], ◌∷◌, take, drop, codes, decimal}
use Rattle.layout_geom.specs.declared.rect.Rect.{Rect}
use Rattle.layout_geom.specs.declared.area.Area.{Area}
use Rattle.layout_geom.specs.declared.order.Order.{Order}
use Rattle.layout_geom.specs.declared.order.Order.TheVariants.{Topological, Cycle}
use Rattle.hocr_writer.specs.declared.layout.Layout.{Layout}
use Rattle.hocr_writer.specs.Pieces.{joined_pieces, numbered_pieces, box_front}
use Rattle.hocr_writer.specs.Listing.{listing_of}
use Rattle.hocr_writer.specs.Lines.{line_of}
use Rattle.hocr_writer.specs.Cells.{cell_line}

-- The number of a line of a cycle, behind a space, whatever its place there.
abbrev pub cycle_number : ℕ → ℕ → List ℕ
cycle_number place line = joined_pieces (codes " " ∷ decimal line ∷ [])

-- The numbers of a cycle of lines.
abbrev pub cycle_text : List ℕ → List ℕ
cycle_text cycle = joined_pieces (codes "cycle" ∷ joined_pieces (numbered_pieces cycle_number 0 cycle) ∷ [])

-- How the text lines of the page are ordered: whether there is an order, or else a cycle that forbids it.
unfoldable pub order_text : Order → List ℕ
order_text (Topological order) = codes "topological"
order_text (Cycle cycle) = cycle_text cycle

-- The same, behind the page's number.
unfoldable pub order_line : Layout → List ℕ
order_line layout =
    joined_pieces
    (codes "<meta name='layout-order' content='"
    ∷ decimal layout.page
    ∷ codes " "
    ∷ order_text layout.order
    ∷ codes "'>\n"
    ∷ [])

-- The name of the page's image, where it has one.
unfoldable pub image_text : List ℕ → List ℕ
image_text [] = []
image_text (byte ∷ bytes) = joined_pieces (codes "image \"" ∷ (byte ∷ bytes) ∷ codes "\"; " ∷ [])

-- The page's element begins. Its title has the name of its image, its box, number and count of black pixels.
unfoldable pub page_line : Layout → List ℕ
page_line layout =
    joined_pieces
    (codes "<div class='ocr_page' id='page_"
    ∷ decimal layout.page
    ∷ codes "' title='"
    ∷ image_text layout.image
    ∷ codes "bbox 0 0 "
    ∷ decimal layout.width
    ∷ codes " "
    ∷ decimal layout.height
    ∷ codes "; ppageno "
    ∷ decimal layout.page
    ∷ codes "; x_black "
    ∷ decimal layout.black
    ∷ codes "'>\n"
    ∷ [])

-- An element of nothing but its box.
abbrev pub box_line : List ℕ → ℕ → ℕ → Rect → List ℕ
box_line opening page number box = joined_pieces (box_front opening page number box ∷ codes "'></div>\n" ∷ [])

-- A white rectangle of the page, by its number and its box.
abbrev pub white_line : ℕ → ℕ → Rect → List ℕ
white_line page = box_line (codes "<div class='ocrx_whitespace' id='white_") page

-- A gutter of the page, by its number and its box.
abbrev pub gutter_line : ℕ → ℕ → Rect → List ℕ
gutter_line page = box_line (codes "<div class='ocr_separator' id='gutter_") page

-- A block of the page, by its number and its box.
abbrev pub block_line : ℕ → ℕ → Rect → List ℕ
block_line page = box_line (codes "<div class='ocrx_block' id='block_") page

-- An area begins, by its number and its box.
abbrev pub area_line : ℕ → ℕ → Rect → List ℕ
area_line page number box = joined_pieces (box_front (codes "<div class='ocr_carea' id='area_") page number box ∷ codes "'>\n" ∷ [])

-- The numbers of the lines of an area, in the order of the listing.
abbrev pub lines_in : Layout → Area → List ℕ
lines_in layout area = take area.count (drop area.first (listing_of layout))

-- A line of an area, by its number, whatever its place there.
abbrev pub placed_line : Layout → ℕ → ℕ → List ℕ
placed_line layout place line = line_of layout line

-- A whole area: where it begins, its lines in the order of the listing, and where it ends.
abbrev pub area_text : Layout → ℕ → Area → List ℕ
area_text layout number area =
    joined_pieces
    (area_line layout.page number area.bbox
    ∷ joined_pieces (numbered_pieces (placed_line layout) 0 (lines_in layout area))
    ∷ codes "</div>\n"
    ∷ [])

-- How the lines of a page are ordered, whatever the page's place among the others.
abbrev pub placed_order : ℕ → Layout → List ℕ
placed_order place layout = order_line layout

-- One of the layouts shows the words of its lines.
abbrev pub shows_words : List Layout → Bool
shows_words = list_any (λ layout. layout.with_words)

-- The kind of the elements of words, where they are shown.
abbrev pub word_kind : Bool → List ℕ
word_kind true = codes " ocrx_word"
word_kind false = []

-- The kinds of elements that the document has, those of words only where they are shown.
unfoldable pub capabilities_line : Bool → List ℕ
capabilities_line with_words =
    joined_pieces
    (codes "<meta name='ocr-capabilities' content='ocr_page ocr_carea ocr_line ocr_separator"
    ∷ word_kind with_words
    ∷ codes "'>\n"
    ∷ [])

-- What stands in front of the body. It says of each page how its lines are ordered.
unfoldable pub head_text : List Layout → List ℕ
head_text layouts =
    joined_pieces
    (codes "<!DOCTYPE html>\n"
    ∷ codes "<html>\n"
    ∷ codes "<head>\n"
    ∷ codes "<title>layout</title>\n"
    ∷ codes "<meta charset='utf-8'>\n"
    ∷ codes "<meta name='ocr-system' content='layout'>\n"
    ∷ capabilities_line (shows_words layouts)
    ∷ joined_pieces (numbered_pieces placed_order 0 layouts)
    ∷ codes "</head>\n"
    ∷ [])

-- The page's element, with all that was found on the page.
unfoldable pub page_text : Layout → List ℕ
page_text layout =
    joined_pieces
    (page_line layout
    ∷ joined_pieces (numbered_pieces (white_line layout.page) 0 layout.whites)
    ∷ joined_pieces (numbered_pieces (gutter_line layout.page) 0 layout.gutters)
    ∷ joined_pieces (numbered_pieces (block_line layout.page) 0 layout.blocks)
    ∷ joined_pieces (numbered_pieces (cell_line layout.page) 0 layout.cells)
    ∷ joined_pieces (numbered_pieces (area_text layout) 0 layout.areas)
    ∷ codes "</div>\n"
    ∷ [])

-- The element of a page, whatever the page's place among the others.
abbrev pub placed_page : ℕ → Layout → List ℕ
placed_page place layout = page_text layout

-- The whole document: one head and one body, with the pages in their order.
unfoldable pub document_of : List Layout → List ℕ
document_of layouts =
    joined_pieces
    (head_text layouts
    ∷ codes "<body>\n"
    ∷ joined_pieces (numbered_pieces placed_page 0 layouts)
    ∷ codes "</body>\n"
    ∷ codes "</html>\n"
    ∷ [])
