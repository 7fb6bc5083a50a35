use Rattle.std.proofs.Common.{◌≡◌, length, arith, sym, ◌∙◌}
use Rattle.reading_order.specs.Shown.{IsShown}
use Rattle.reading_order.specs.Tables.{Marks}
use Rattle.reading_order.proofs.Taken.{taken_starts_none, taken_before}
use Rattle.reading_order.proofs.Answering.{topological, cyclic, least}
use Rattle.reading_order.proofs.order.order_of.Goals as goal

pub table_of-requires : goal.table_of-requires
table_of-requires c = rw c.as_slice.ensures.same (omega (arith, c.len-count.ensures.value, c.len-count.ensures.small))

pub returns-then-len-count : goal.returns-then-len-count
returns-then-len-count c =
    let lines = c.args.lines.now in
    let table = c.in_ok-before.before in
    let side : table.side ≡ length lines = rw c.as_slice.ensures.same at c.in_ok-before.ensures.side in
    let shown : IsShown lines table (length lines) = rw c.as_slice.ensures.same at c.in_ok-before.ensures.shown in
    let front = c.in_ok-order.field-0 in
    record { order = topological lines table side shown front.order c.in_ok-order.ensures.greedy (omega (arith, c.len.ensures.value, c.len-count.ensures.value, c.if-len-count.true)) }

pub least_cycle-requires : goal.least_cycle-requires
least_cycle-requires c =
    let lines = c.args.lines.now in
    let table = c.in_ok-before.before in
    let side : table.side ≡ length lines = rw c.as_slice.ensures.same at c.in_ok-before.ensures.side in
    let shown : IsShown lines table (length lines) = rw c.as_slice.ensures.same at c.in_ok-before.ensures.shown in
    let front = c.in_ok-order.field-0 in
    record {
      small = omega (arith, side, c.len-count.ensures.value, c.len-count.ensures.small);
      count = c.in_ok-order.ensures.count;
      closed = λ x y low y_low taken marks.
          c.in_ok-order.ensures.flags y y_low
          ∙ taken_before (Marks table) table.side front.order c.in_ok-order.ensures.greedy x y y_low (sym (c.in_ok-order.ensures.flags x low) ∙ taken) marks;
      none = λ x low taken. taken_starts_none (Marks table) table.side front.order c.in_ok-order.ensures.greedy x (sym (c.in_ok-order.ensures.flags x low) ∙ taken);
      cycle = cyclic lines table side shown front.order c.in_ok-order.ensures.greedy (λ e. c.if-len-count.false (omega (arith, e, c.len.ensures.value, c.len-count.ensures.value)));
    }

pub returns : goal.returns
returns c =
    let lines = c.args.lines.now in
    let table = c.in_ok-before.before in
    let side : table.side ≡ length lines = rw c.as_slice.ensures.same at c.in_ok-before.ensures.side in
    let shown : IsShown lines table (length lines) = rw c.as_slice.ensures.same at c.in_ok-before.ensures.shown in
    record { order = least lines table side shown c.in_ok-least_cycle.field-0 c.in_ok-least_cycle.ensures }
