use Rattle.std.proofs.Common.{ℕ, List, get_or, take, arith, subst, sym}
use Rattle.std.proofs.lemmas.List.{take_more, length-take}
use Rattle.layout_geom.specs.declared.rect.Rect.{Rect}
use Rattle.line_quality.specs.Points.{middle_of}
use Rattle.line_counts.specs.Fits.{segment_of, place_of, slope_of}
use Rattle.line_counts.specs.Table.{AreCounts}
use Rattle.line_counts.proofs.Cells.{there, inside}
use Rattle.line_counts.proofs.Counting.{reads_next, counts_more, counts_small}
use Rattle.line_counts.proofs.table.count_all.Goals as goal

pub raise-requires-clause-room : goal.raise-requires-clause-room
raise-requires-clause-room c = λ number numbered.
    let i = c.loop-position.position-index in
    let boxes : List Rect = c.args.boxes.now in
    let gutters : List Rect = c.args.gutters.now in
    let positions : List ℕ = c.args.positions.now in
    let r : Rect = c.get.result.now in
    let read = reads_next boxes c.args.width positions i r c.loop-position-test.true c.requires.within c.requires.wide.1.feet c.get.ensures.item in
    omega (
      arith,
      c.loop-position-test.true,
      c.requires.few,
      length-take i positions,
      counts_small boxes gutters c.args.width (take i positions) c.loop-position.cells number (segment_of gutters (middle_of r)) (place_of (slope_of number) r) numbered
          (there number gutters c.args.width r numbered read.wide) (inside number gutters c.args.width r numbered read.wide) c.loop-position.invariant,
    )

pub loop-position-preserved : goal.loop-position-preserved
loop-position-preserved c =
    let i = c.loop-position.position-index in
    let boxes : List Rect = c.args.boxes.now in
    let gutters : List Rect = c.args.gutters.now in
    let positions : List ℕ = c.args.positions.now in
    let read = reads_next boxes c.args.width positions i c.get.result.now c.loop-position-test.true c.requires.within c.requires.wide.1.feet c.get.ensures.item in
    subst (λ (xs : List ℕ). AreCounts boxes gutters c.args.width xs c.raise.new.cells) (sym (take_more positions i 0 c.loop-position-test.true))
    (counts_more boxes gutters c.args.width (take i positions) c.loop-position.cells c.raise.new.cells (get_or positions i 0) c.get.result.now read.at c.loop-position.invariant c.raise.ensures)
