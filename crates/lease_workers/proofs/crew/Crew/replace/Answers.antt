use Rattle.std.proofs.Common.{◌<◌, sym, subst, List, ℤ, All}
use Rattle.std.specs.Prelude.{nat_lt}
use Rattle.std.proofs.lemmas.List.Elements.{All-filter}
use Rattle.box_search.specs.Leasing.{above}
use Rattle.box_search.specs.Shapes.{size}
use Rattle.box_search.specs.declared.space.Node.{Node}
use Rattle.frontier_turn.specs.Holding.{Replaces}
use Rattle.lease_workers.proofs.Replacing.{splits_above}
use Rattle.lease_workers.proofs.crew.Crew.replace.Goals as goal

pub returns-in-Split-clause-fits : goal.returns-in-Split-clause-fits
returns-in-Split-clause-fits g c =
    let S = g.S.Space in
    let W = g.row.S-Work.Denot in
    let asked = S.problem c.args.self.now.space.now in
    let word = c.read-seen.result in
    let kept : List (Node W) = above word c.in-Split.nodes.items in
    let splits = rw c.in-Split.is at c.in_ok-key.ensures.step in
    let fitting = All-filter (λ (node : Node W). nat_lt word node.bound) (S.fits asked) c.in-Split.nodes.items splits.fitting in
    subst (λ (nodes : List (Node W)). All (S.fits c.args.self.now.shards.now.problem) nodes) (sym c.keep_above.ensures.above)
    (subst (λ (p : List ℤ). All (S.fits p) kept) (sym c.requires.space) fitting)

pub returns-in-Split-clause-smaller : goal.returns-in-Split-clause-smaller
returns-in-Split-clause-smaller g c =
    let W = g.row.S-Work.Denot in
    let word = c.read-seen.result in
    let splits = rw c.in-Split.is at c.in_ok-key.ensures.step in
    let Less : Node W → Type 0 = λ node. size node.shape < size c.args.node.now.shape in
    subst (λ (nodes : List (Node W)). All Less nodes) (sym c.keep_above.ensures.above) (All-filter (λ (node : Node W). nat_lt word node.bound) Less c.in-Split.nodes.items splits.smaller)

pub returns-in-Split-clause-replaces : goal.returns-in-Split-clause-replaces
returns-in-Split-clause-replaces g c =
    let S = g.S.Space in
    let W = g.row.S-Work.Denot in
    let asked = S.problem c.args.self.now.space.now in
    let laws = g.met.S.Space g.world.𝓛 g.world.𝓜 g.world.𝓡 ((λ s a. a), (λ h. h), (λ n. n), (λ h. h)) in
    let word = c.read-seen.result in
    let kept : List (Node W) = above word c.in-Split.nodes.items in
    let splits = rw c.in-Split.is at c.in_ok-key.ensures.step in
    let replaced = splits_above (S.admits asked) (S.lies_in asked) (S.fits asked) (laws.bounded asked) c.args.node.now word c.in-Split.nodes.items splits in
    subst (λ (nodes : List (Node W)). Replaces (S.admits c.args.self.now.shards.now.problem) (S.lies_in c.args.self.now.shards.now.problem) c.args.node.now.shape word nodes) (sym c.keep_above.ensures.above)
    (subst (λ (p : List ℤ). Replaces (S.admits p) (S.lies_in p) c.args.node.now.shape word kept) (sym c.requires.space) replaced)
