use Rattle.std.proofs.Common.{◌≡◌}
use Rattle.line_counts.specs.Fits.{slope_of, place_of}
use Rattle.line_counts.proofs.Places.{held_slope}
use Rattle.line_counts.proofs.table.own_cell.Goals as goal

pub returns-clause-value : goal.returns-clause-value
returns-clause-value c =
    let placed : c.place.result ≡ place_of (slope_of c.args.number) c.args.rect.now =
    rw (held_slope c.slope.result c.slope.ensures.of_grid, c.slope.ensures.value) at c.place.ensures.value in
    rw (c.len.ensures.value, c.requires.segment, placed) at c.cell.ensures.value
