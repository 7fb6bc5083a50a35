use Rattle.word_split.proofs.Best.{top_small}
use Rattle.word_split.proofs.parting.Parting.top.Goals as goal

pub returns-clause-small : goal.returns-clause-small
returns-clause-small c =
    let p = c.args.self.now in
    top_small p.narrow_count p.narrow_sum p.wide_count p.wide_sum c.abs_diff-apart.result p.small.few p.small.slim c.abs_diff-apart.ensures
