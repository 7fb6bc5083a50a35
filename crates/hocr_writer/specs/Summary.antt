-- The summary of a layout, line by line: the counts of what was found on its page.
-- Each line ends with one line feed. A number is decimal, without leading zeros.
use Rattle.std.specs.Prelude.{ℕ, List, [], ◌∷◌, length, codes, decimal}
use Rattle.hocr_writer.specs.declared.layout.Layout.{Layout}
use Rattle.hocr_writer.specs.Pieces.{joined_pieces}
use Rattle.hocr_writer.specs.Document.{order_text}

-- The width and the height of the page, in pixels.
unfoldable pub size_line : Layout → List ℕ
size_line layout =
    joined_pieces
    (codes "page "
    ∷ decimal layout.width
    ∷ codes " "
    ∷ decimal layout.height
    ∷ codes "\n"
    ∷ [])

-- A count, behind what is counted.
abbrev pub count_line : List ℕ → ℕ → List ℕ
count_line counted count = joined_pieces (counted ∷ decimal count ∷ codes "\n" ∷ [])

-- How the text lines of the page are ordered, as in the document.
unfoldable pub found_order_line : Layout → List ℕ
found_order_line layout = joined_pieces (codes "order " ∷ order_text layout.order ∷ codes "\n" ∷ [])

-- The whole summary. The rectangles are the white ones.
unfoldable pub summary_of : Layout → List ℕ
summary_of layout =
    joined_pieces
    (size_line layout
    ∷ count_line (codes "black ") layout.black
    ∷ count_line (codes "components ") layout.kept
    ∷ count_line (codes "median ") layout.median
    ∷ count_line (codes "rectangles ") (length layout.whites)
    ∷ count_line (codes "gutters ") (length layout.gutters)
    ∷ count_line (codes "lines ") (length layout.lines)
    ∷ count_line (codes "areas ") (length layout.areas)
    ∷ found_order_line layout
    ∷ [])
