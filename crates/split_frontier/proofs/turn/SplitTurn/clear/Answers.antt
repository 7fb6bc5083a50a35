use Rattle.std.proofs.Common.{arith, sym, ◌∙◌}
use Rattle.std.proofs.lemmas.List.{nil_from_length}
use Rattle.split_frontier.proofs.InTurn.{cleared_here}
use Rattle.split_frontier.proofs.turn.SplitTurn.clear.Goals as goal

pub invariant_of-self : goal.invariant_of-self
invariant_of-self g c =
    let S = g.S.Space in
    let laws = g.met.S.Space g.world.𝓛 g.world.𝓜 g.world.𝓡 ((λ s a. a), (λ h. h), (λ n. n), (λ h. h)) in
    let none = nil_from_length c.self.inside.frontier.leased (omega (arith, c.out.ensures.leased)) in
    cleared_here S.admits S.lies_in S.fits c.self.invariant c.self.view_is (laws.bounded _) c.in_ok-self-inside.field-0 c.args.seen c.requires.seen c.requires.low c.in_ok-self-inside.ensures.open
    (c.in_ok-self-inside.ensures.leased ∙ sym none)
