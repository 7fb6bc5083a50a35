use Rattle.made_page.specs.Made.{made_page}
use Rattle.made_page.proofs.Within.{blocks_within}
use Rattle.made_page.proofs.made.make_page.Goals as goal

pub paint-requires : goal.paint-requires
paint-requires c = rw (c.deref.ensures.value, c.in_ok-blocks.ensures) (blocks_within c.args.seed)

pub returns-clause-held : goal.returns-clause-held
unfolding made_page
returns-clause-held c = rw (c.deref.ensures.value, c.in_ok-blocks.ensures) at c.paint.ensures.held
