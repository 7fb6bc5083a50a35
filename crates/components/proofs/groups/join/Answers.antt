use Rattle.std.proofs.Common.{inl, inr, sym, ap, subst, ◌∙◌, arith}
use Rattle.components.specs.Runs.{first_of}
use Rattle.components.specs.Groups.{AreJoined}
use Rattle.components.proofs.Paths.{connected_back}
use Rattle.components.proofs.Grouping.{groups_merged}
use Rattle.components.proofs.Joining.{both_found, joined_before}
use Rattle.components.proofs.groups.join.Goals as goal

pub returns-then-first-second-clause-joined : goal.returns-then-first-second-clause-joined
returns-then-first-second-clause-joined c = λ page members root was m n m_in n_in m_one n_other linked.
    let f = c.root_of-first.ensures in
    let s = c.root_of-second.ensures in
    let found = both_found page members c.args.one c.args.other root _ _ _ _ _ was f.len f.bounds f.rooted s.len s.bounds s.rooted in
    subst (AreJoined page members c.args.one c.args.other root) (sym c.merge.ensures)
    (groups_merged page members _ root found.grouped m n m_in n_in linked _ _ c.if-first-second.true (ap root m_one ∙ sym found.first_is) (ap root n_other ∙ sym found.second_is)
    c.args.one c.args.other (inl (sym found.first_is, sym found.second_is)))

pub returns-then-second-first-clause-joined : goal.returns-then-second-first-clause-joined
returns-then-second-first-clause-joined c = λ page members root was m n m_in n_in m_one n_other linked.
    let f = c.root_of-first.ensures in
    let s = c.root_of-second.ensures in
    let found = both_found page members c.args.one c.args.other root _ _ _ _ _ was f.len f.bounds f.rooted s.len s.bounds s.rooted in
    subst (AreJoined page members c.args.one c.args.other root) (sym c.merge-then-second-first.ensures)
    (groups_merged page members _ root found.grouped n m n_in m_in (connected_back page (first_of m.run) (first_of n.run) linked) _ _ c.if-second-first.true
    (ap root n_other ∙ sym found.second_is) (ap root m_one ∙ sym found.first_is) c.args.one c.args.other (inr (sym found.first_is, sym found.second_is)))

pub returns-else-second-first-clause-joined : goal.returns-else-second-first-clause-joined
returns-else-second-first-clause-joined c = λ page members root was m n m_in n_in m_one n_other linked.
    let f = c.root_of-first.ensures in
    let s = c.root_of-second.ensures in
    let found = both_found page members c.args.one c.args.other root _ _ _ _ _ was f.len f.bounds f.rooted s.len s.bounds s.rooted in
    joined_before page members c.args.one c.args.other root _ _ _ found (omega (arith, c.if-first-second.false, c.if-second-first.false))
