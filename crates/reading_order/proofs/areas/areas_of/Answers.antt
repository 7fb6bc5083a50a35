use Rattle.std.proofs.Common.{[], ◌++◌, length, arith, ◌*◌}
use Rattle.std.proofs.lemmas.List.{append-nil}
use Rattle.reading_order.specs.Areas.{AreAreasFrom}
use Rattle.reading_order.proofs.Rounds.{listing_low}
use Rattle.reading_order.proofs.areas.areas_of.Goals as goal

pub area_at-area-requires-clause-low : goal.area_at-area-requires-clause-low
area_at-area-requires-clause-low c = listing_low (length c.args.lines.now) c.args.listing.now c.requires.listing

pub returns : goal.returns
returns c =
    let areas = c.loop-first.areas in
    let whole : AreAreasFrom c.args.lines.now c.args.listing.now (2 * c.args.median) 0 (areas ++ []) = c.loop-first.invariant.1 [] (omega (arith, c.loop-first.invariant.0, c.len.ensures.value)) in
    record { areas = rw append-nil at whole }
