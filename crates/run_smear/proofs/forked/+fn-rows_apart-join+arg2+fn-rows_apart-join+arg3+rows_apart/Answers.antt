use Rattle.std.proofs.Common.{◌<◌, ◌+◌, ◌-◌, ◌/◌, ℕ, arith}
use Rattle.std.proofs.lemmas.Result.{IfOk-weaker, IfOk-at_ok}
use Rattle.page_runs.specs.Packed.{page_of}
use Rattle.run_smear.specs.Smear.{IsBandOf}
use Rattle.run_smear.proofs.Stacking.{bands_stacked}
use Rattle.run_smear.proofs.forked.+fn-rows_apart-join+arg2+fn-rows_apart-join+arg3+rows_apart.Goals as goal

pub returns-clause-band : goal.returns-clause-band
returns-clause-band g t c =
    let page = page_of c.args.page.now in
    let from = c.args.rows.from in
    let to = c.args.rows.to in
    let middle : ℕ = from + (to - from) / 2 in
    let upper = IfOk-at_ok (λ band. IsBandOf page c.args.h c.args.v from middle (page_of band)) c.in_ok-upper.was c.join-upper.ensures.first.1 in
    let lower = IfOk-at_ok (λ band. IsBandOf page c.args.h c.args.v middle to (page_of band)) c.in_ok-lower.was c.join-upper.ensures.second.1 in
    let some : from < middle = omega (arith, c.if-half-lt-FEW_ROWS.false) in
    let more : middle < to = omega (arith, c.requires.some) in
    IfOk-weaker c.stacked-3.result _ _
    (λ band stack. bands_stacked page c.args.h c.args.v from middle to (page_of c.in_ok-upper.field-0) (page_of c.in_ok-lower.field-0) (page_of band) some more upper lower stack)
    c.stacked-3.ensures.stack
