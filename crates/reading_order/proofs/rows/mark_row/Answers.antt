use Rattle.std.proofs.Common.{◌<◌, arith, sym, ◌∙◌}
use Rattle.std.proofs.lemmas.Bool.{false≢true}
use Rattle.reading_order.proofs.Marking.{number_marked, number_skipped}
use Rattle.reading_order.proofs.rows.mark_row.Goals as goal
use Rattle.reading_order.proofs.rows.mark_row.Goals.{then-is_before, else-is_before}

pub loop-earlier-preserved : goal.loop-earlier-preserved
loop-earlier-preserved c =
    let lines = c.args.lines.now in
    let old = c.args.table.now in
    let table = c.loop-earlier.table in
    let later = c.args.later in
    let earlier = c.loop-earlier.earlier in
    let inv = c.loop-earlier.invariant in
    let later_low : later < old.side = omega (arith, c.requires.side, c.requires.later) in
    let low : earlier < old.side = omega (arith, c.requires.side) in
    elim c.if-is_before.branch [
      | then-is_before w ↦
          rw w.table-is
          (number_marked lines old table later earlier inv later_low low w.mark.new.self (c.is_before.ensures.0 w.if-is_before.true) w.mark.ensures.side w.mark.ensures.marked w.mark.ensures.others)
      | else-is_before w ↦
          rw w.table-is
          (number_skipped lines old table later earlier inv later_low low (λ h. false≢true (sym w.if-is_before.false ∙ c.is_before.ensures.1 h)))
    ]
