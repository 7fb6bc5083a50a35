-- The cells of the kept boxes of a page.
use Rattle.std.specs.Prelude.{◌≡◌, Bool, true, false, List, [], max}
use Rattle.components.specs.declared.kept.Kept.{Kept}
use Rattle.xy_cut.specs.declared.cell.Cell.{Cell}
use Rattle.xy_cut.specs.Cells.{AreCells}
use Rattle.layout_core.specs.declared.cells.TheConstants.{LEAST_BAND}

-- The cells that the kept boxes fall into at white bands of at least as many columns or rows as the median height, where they are shown,
-- and none where they are not.
abbrev pub AreShownCells : Bool → Kept → List Cell → Type 0
AreShownCells true kept cells = AreCells (max kept.median LEAST_BAND) [] kept.boxes cells
AreShownCells false kept cells = cells ≡ []
