use Rattle.std.proofs.Common.{◌≡◌, ◌++◌}
use Rattle.made_page.specs.Blocks.{specks_of}
use Rattle.made_page.proofs.blocks.push_specks.Given as goal

abbrev pub invariant-loop-row : goal.invariant-loop-row
invariant-loop-row l = l.blocks.items ≡ l.initial.blocks.items ++ specks_of l.row
