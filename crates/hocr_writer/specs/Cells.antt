-- The element of a cell: its box, and the path of cuts to it.
use Rattle.std.specs.Prelude.{ℕ, List, [], ◌∷◌, codes, map}
use Rattle.xy_cut.specs.declared.cell.Cell.{Cell}
use Rattle.xy_cut.specs.declared.cell.Side.{Side}
use Rattle.xy_cut.specs.declared.cell.Side.TheVariants.{Before, After}
use Rattle.hocr_writer.specs.Pieces.{joined_pieces, box_front}

-- A side of a cut as a digit: `0` before the band, `1` after it.
abbrev pub side_digit : Side → ℕ
side_digit Before = 48
side_digit After = 49

-- The path to a cell: a digit for each cut, from the first on, or `r` where there is none.
unfoldable pub path_text : List Side → List ℕ
path_text [] = codes "r"
path_text (side ∷ sides) = map side_digit (side ∷ sides)

-- A cell of the page, by its number, its box and its path.
abbrev pub cell_line : ℕ → ℕ → Cell → List ℕ
cell_line page number cell =
    joined_pieces
    (box_front (codes "<div class='ocrx_cell' id='cell_") page number cell.bbox
    ∷ codes "; x_path "
    ∷ path_text cell.path
    ∷ codes "'></div>\n"
    ∷ [])
