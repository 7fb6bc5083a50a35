use Rattle.std.proofs.Common.{◌≡◌, take}
use Rattle.xy_cut.specs.Bands.{part_of}
use Rattle.xy_cut.proofs.parts.part_on.Given as goal

abbrev pub invariant-loop-rect : goal.invariant-loop-rect
invariant-loop-rect l = l.part ≡ part_of l.band l.side (take l.rect-index l.boxes)
