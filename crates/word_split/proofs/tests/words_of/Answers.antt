use Rattle.word_split.proofs.Gathered.{round_all}
use Rattle.word_split.proofs.tests.words_of.Goals as goal

pub word_boxes-requires-clause-contained : goal.word_boxes-requires-clause-contained
word_boxes-requires-clause-contained g c =
    let page = c.expect-page.result in
    (page, round_all c.args.boxes.now c.args.members.now page (c.contains_all.ensures.0 c.if-not-contains_all.false))
