use Rattle.std.proofs.Common.{All, sym, subst}
use Rattle.layout_geom.specs.Rectangles.{Encloses}
use Rattle.xy_cut.proofs.alone.cells_alone.Goals as goal

pub cells_from-requires-clause-contained : goal.cells_from-requires-clause-contained
cells_from-requires-clause-contained c =
    (c.requires.contained.0, subst (All (Encloses c.requires.contained.0)) (sym c.in_ok-copy_of.ensures) c.requires.contained.1)
