use Rattle.std.proofs.Common.{◌≡◌, take}
use Rattle.gutters.specs.Gutters.{gutters_of}
use Rattle.gutters.proofs.filter.gutters.Given as goal

-- So far the gutters among the first rectangles are found.
abbrev pub invariant-loop-white : goal.invariant-loop-white
invariant-loop-white l = l.found ≡ gutters_of l.kept (take l.white-index l.white-items)
