-- The numbers of the text lines of a page.
use Rattle.std.specs.Prelude.{◌≡◌, ◌+◌, List, map}
use Rattle.std.specs.Ordering.{nat_cmp, ordering_then}
use Rattle.std.specs.declared.cmp.Ordering.{Ordering}
use Rattle.std.specs.List.Sorted.{IsPermutation, IsSorted, IsStable}
use Rattle.layout_geom.specs.declared.rect.Rect.{Rect}
use Rattle.line_search.specs.declared.line.Line.{Line}
use Rattle.hocr_writer.specs.declared.layout.Mark.{Mark}

-- What the document shows of a line.
abbrev pub mark_of : Line → Mark
mark_of line = record { bbox = line.bbox; slope = line.slope; offset = line.offset; depth = line.depth }

-- The box of a line that is shown.
abbrev pub box_of : Mark → Rect
box_of mark = mark.bbox

-- By the middle row (twice, so that it is a whole number), and then by the left side.
abbrev pub compare_lines : Line → Line → Ordering
compare_lines first second =
    ordering_then (nat_cmp (first.bbox.y0 + first.bbox.y1) (second.bbox.y0 + second.bbox.y1)) (nat_cmp first.bbox.x0 second.bbox.x0)

-- The lines that were found, in the order of their numbers: by their middles and left sides, and those that tie in the order
-- in which they were found.
pub record AreInOrder (found numbered : List Line) : Type 0 where
  pub rearranged : IsPermutation found numbered
  pub sorted : IsSorted compare_lines numbered
  pub stable : IsStable compare_lines found numbered

-- The marks are what is shown of the lines in the order of their numbers. So the number of a mark names a line, with its members.
pub record IsNumbered (found : List Line) (marks : List Mark) : Type 0 where
  pub numbered : List Line
  pub in_order : AreInOrder found numbered
  pub shown : marks ≡ map mark_of numbered
