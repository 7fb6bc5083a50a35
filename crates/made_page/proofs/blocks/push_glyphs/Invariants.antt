use Rattle.std.proofs.Common.{◌≡◌, ◌++◌, ◌*◌}
use Rattle.made_page.specs.Draws.{state_after}
use Rattle.made_page.specs.Blocks.{glyphs_of}
use Rattle.made_page.proofs.blocks.push_glyphs.Given as goal

abbrev pub invariant-loop-number : goal.invariant-loop-number
invariant-loop-number l = record {
  state : l.draws.state ≡ state_after l.seed (2 * l.number);
  blocks : l.blocks.items ≡ l.initial.blocks.items ++ glyphs_of l.seed l.number;
}
