use Rattle.search_trials.proofs.Replacing.{splits_whole}
use Rattle.search_trials.proofs.by_hand.replace.Goals as goal

pub returns-in-Split-clause-replaces : goal.returns-in-Split-clause-replaces
returns-in-Split-clause-replaces g c =
    let S = g.S.Space in
    let asked = S.problem c.args.space.now in
    let splits = rw c.in-Split.is at c.in_ok-key.ensures.step in
    splits_whole (S.admits asked) (S.lies_in asked) (S.fits asked) c.args.node.now c.read.result c.in-Split.nodes.items splits
