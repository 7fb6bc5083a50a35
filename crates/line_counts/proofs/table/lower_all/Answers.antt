use Rattle.std.proofs.Common.{◌+◌, ◌++◌, ℕ, List, get_or, drop, subst}
use Rattle.std.proofs.lemmas.List.{drop_all}
use Rattle.layout_geom.specs.declared.rect.Rect.{Rect}
use Rattle.line_counts.specs.Table.{AreCounts}
use Rattle.line_counts.proofs.Cells.{there, inside}
use Rattle.line_counts.proofs.Counting.{reads_next, counts_less, counts_own, next_first}
use Rattle.line_counts.proofs.table.lower_all.Goals as goal

pub lower-requires-clause-some : goal.lower-requires-clause-some
lower-requires-clause-some c = λ number numbered.
    let i = c.loop-member.member-index in
    let boxes : List Rect = c.args.boxes.now in
    let gutters : List Rect = c.args.gutters.now in
    let members : List ℕ = c.args.members.now in
    let r : Rect = c.get.result.now in
    let others : List ℕ = c.requires.all.0 in
    let read = reads_next boxes c.args.width members i r c.loop-member-test.true c.requires.within c.requires.wide.1.feet c.get.ensures.item in
    counts_own boxes gutters c.args.width (drop (i + 1) members ++ others) c.loop-member.cells (get_or members i 0) number r read.at numbered
    (there number gutters c.args.width r numbered read.wide) (inside number gutters c.args.width r numbered read.wide)
    (subst (λ (xs : List ℕ). AreCounts boxes gutters c.args.width xs c.loop-member.cells) (next_first members others i c.loop-member-test.true) (c.loop-member.invariant others c.requires.all.1))

pub loop-member-preserved : goal.loop-member-preserved
loop-member-preserved c = λ others before.
    let i = c.loop-member.member-index in
    let boxes : List Rect = c.args.boxes.now in
    let gutters : List Rect = c.args.gutters.now in
    let members : List ℕ = c.args.members.now in
    let read = reads_next boxes c.args.width members i c.get.result.now c.loop-member-test.true c.requires.within c.requires.wide.1.feet c.get.ensures.item in
    counts_less boxes gutters c.args.width (drop (i + 1) members ++ others) c.loop-member.cells c.lower.new.cells (get_or members i 0) c.get.result.now read.at
    (subst (λ (xs : List ℕ). AreCounts boxes gutters c.args.width xs c.loop-member.cells) (next_first members others i c.loop-member-test.true) (c.loop-member.invariant others before))
    c.lower.ensures

pub returns : goal.returns
returns c = λ others before.
    subst (λ (xs : List ℕ). AreCounts c.args.boxes.now c.args.gutters.now c.args.width (xs ++ others) c.loop-member.cells)
    (drop_all c.loop-member.member-index c.args.members.now c.loop-member-test.false) (c.loop-member.invariant others before)
