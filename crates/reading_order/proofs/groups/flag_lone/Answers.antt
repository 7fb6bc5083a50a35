use Rattle.std.proofs.Common.{sym, ◌∙◌}
use Rattle.std.proofs.lemmas.Bool.{false≢true}
use Rattle.reading_order.proofs.Gathering.{flagged_lone}
use Rattle.reading_order.proofs.Gathered.{rings_of_several}
use Rattle.reading_order.proofs.groups.flag_lone.Goals as goal

pub returns-then-not-get-clause-none : goal.returns-then-not-get-clause-none
returns-then-not-get-clause-none c =
    let before = c.args.before.now in
    let levels = c.args.levels.now in
    flagged_lone before levels c.args.depth c.requires.settled c.args.flags.now c.in-Some.number c.requires.none c.requires.levels c.in-Some.ensures.lone
    (λ marks. false≢true (sym c.if-not-get.true ∙ (c.get.ensures ∙ marks)))

pub returns-in_default-clause-rings : goal.returns-in_default-clause-rings
returns-in_default-clause-rings c =
    rings_of_several c.args.before.now c.args.levels.now c.args.depth c.requires.levels c.args.flags.now c.requires.some c.requires.chained c.in_default.ensures.several
