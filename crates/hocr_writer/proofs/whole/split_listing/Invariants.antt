use Rattle.std.proofs.Common.{drop}
use Rattle.std.specs.Prelude.{◌↔◌}
use Rattle.hocr_writer.specs.Listing.{SplitListing}
use Rattle.hocr_writer.proofs.whole.split_listing.Given as goal

-- The areas split the listing exactly where those that are left split what is left of it.
abbrev pub invariant-loop-area : goal.invariant-loop-area
invariant-loop-area l = SplitListing 0 l.count l.areas ↔ SplitListing l.end l.count (drop l.area-index l.areas)
