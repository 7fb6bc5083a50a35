use Rattle.std.proofs.Common.{Err, Result, Option, ap, inl}
use Rattle.std.proofs.lemmas.Result.{err_from_is_err_and}
use Rattle.pbm_reader.specs.declared.fault.PageFault.{PageFault}
use Rattle.pbm_reader.specs.declared.fault.Size.{Size}
use Rattle.layout_core.proofs.Owing.{input_laws}
use Rattle.layout_core.proofs.Pages.{next_given, next_ends, next_fails}
use Rattle.layout_core.proofs.document.next_page.Goals as goal

pub returns-in-Some : goal.returns-in-Some
returns-in-Some g c =
    let e = c.in_ok-next.ensures in
    let given = rw c.in-Some.is at e.image in
    let opened = rw c.in-Some.is at e.open in
    let on = rw c.in-Some.is at e.ended in
    next_given c.args.images.now c.next.new.self (g.S.Source.view c.args.src.now) (g.S.Source.view c.next.new.src) c.empty-page.result c.next.new.rows c.in-Some.field-0 given e.end opened e.called on
    e.cause.later c.given_page_is_held.ensures

pub returns-in-None : goal.returns-in-None
returns-in-None g c =
    let e = c.in_ok-next.ensures in
    let ends = rw c.in-None.is at e.none in
    next_ends c.args.images.now c.next.new.self (g.S.Source.view c.args.src.now) (g.S.Source.view c.next.new.src) ends.0 e.end (λ ended. ap (λ s. g.S.Source.view s) (e.quiet (inl ended))) e.cause.later

pub returns-in_err-next : goal.returns-in_err-next
returns-in_err-next g c =
    let p = err_from_is_err_and c.from_residual.result c.from_residual.ensures.1 in
    let e = c.in_err-next.ensures in
    let judged = c.each_input_is_judged.ensures in
    let laws = input_laws c.kept_is_unique.ensures c.smear_is_unique.ensures.one_smear judged.one_page judged.never_both judged.one_list judged.one_pages_fault judged.never_pages_and_fault in
    rw (p.1, p.2)
    (next_fails laws c.args.images.now c.next.new.self (g.S.Source.view c.args.src.now) (g.S.Source.view c.next.new.src) c.in_err-next.field-0.0 e.fault e.ended e.cause.later
    (λ same. e.cause.failed (ap (λ (f : PageFault). let r : Result (Option Size) PageFault = Err f in r) same)))
