use Rattle.std.proofs.Common.{◌≤◌, All}
use Rattle.layout_geom.specs.declared.rect.Rect.{Rect}
use Rattle.layout_geom.specs.Rectangles.{Encloses}
use Rattle.line_search.proofs.tests.both_forms.compare_forms.Given as goal

abbrev pub invariant-loop : goal.invariant-loop
invariant-loop g l = record {
  plain_high : l.plain.height ≤ 8192;
  counted_high : l.counted.height ≤ 8192;
  plain_contained : (outer : Rect) × All (Encloses outer) l.plain.boxes;
  counted_contained : (outer : Rect) × All (Encloses outer) l.counted.boxes;
}
