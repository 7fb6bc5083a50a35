use Rattle.std.proofs.Common.{subst, sym, arith}
use Rattle.std.specs.Prelude.{List}
use Rattle.std.proofs.lemmas.List.{take_all}
use Rattle.line_search.specs.declared.line.Line.{Line}
use Rattle.layout_core.specs.WordRows.{AreWordsOfLines, HasMembers}
use Rattle.layout_core.proofs.Members.{one_more_row}
use Rattle.layout_core.proofs.words.words_of_lines.Goals as goal

pub word_boxes-requires : goal.word_boxes-requires
word_boxes-requires c =
    let has : HasMembers c.args.kept.now.boxes c.line-item.result = subst (HasMembers c.args.kept.now.boxes) (sym c.line-item.is) (c.requires c.loop-line.line-index c.line-item.result (omega arith)) in
    record { some = has.some; few = has.few; within = has.within; contained = has.contained }

pub loop-line-preserved : goal.loop-line-preserved
loop-line-preserved c =
    rw c.in_ok-push.ensures.grown
    (one_more_row c.args.kept.now c.args.lines.now c.loop-line.rows c.loop-line.line-index c.line-item.result c.in_ok-words.words (omega arith) c.line-item.is c.loop-line.invariant c.in_ok-words.ensures.words)

pub returns : goal.returns
returns c =
    subst (λ (lines : List Line). AreWordsOfLines c.args.kept.now lines c.loop-line.rows) (take_all c.loop-line.line-index c.args.lines.now (omega arith)) c.loop-line.invariant
