use Rattle.std.proofs.Common.{All, sym, subst}
use Rattle.layout_geom.specs.Rectangles.{Encloses}
use Rattle.xy_cut.proofs.forked.cells.Goals as goal

pub cells_apart-requires-clause-contained : goal.cells_apart-requires-clause-contained
cells_apart-requires-clause-contained g c κs within =
    (c.requires.contained.0, subst (All (Encloses c.requires.contained.0)) (sym c.in_ok-copy_of.ensures) c.requires.contained.1)
