use Rattle.std.proofs.Common.{◌-◌, ◌≤◌, ℕ, [], ◌∷◌, ◌++◌, Err, ap, arith, length-append}
use Rattle.std.proofs.lemmas.Result.{err_from_is_err_and}
use Rattle.layout_core.specs.Refused.{refusal_of}
use Rattle.layout_core.specs.Run.{ReadsLayouts}
use Rattle.layout_core.proofs.Pages.{nothing_read, laid_more, count_low, few_pages, core_refused, answers_refused, not_read_fault, rose_from}
use Rattle.layout_core.proofs.document.read_layouts.Goals as goal

pub loop-layouts-init : goal.loop-layouts-init
loop-layouts-init g c =
    record {
      ready = c.requires.ready;
      laid = rw c.new-layouts.ensures.empty (nothing_read c.args.plan.now c.in_ok-images.images (g.S.Source.view c.args.src.now) c.in_ok-images.ensures);
      faults = omega arith;
    }

pub overflow_sub-number : goal.overflow_sub-number
overflow_sub-number g c =
    let h = c.loop-layouts.invariant.laid in
    let next = rw c.in-Some.is at c.in_ok-page.ensures.page in
    let r = next (g.S.Source.view c.args.src.now) h.pages h.read in
    omega (arith, c.count-number.ensures, (r.read).count_is, length-append h.pages (r.page ∷ []))

pub numbered_layout-requires-clause-whole : goal.numbered_layout-requires-clause-whole
numbered_layout-requires-clause-whole g c =
    let h = c.loop-layouts.invariant.laid in
    let next = rw c.in-Some.is at c.in_ok-page.ensures.page in
    (next (g.S.Source.view c.args.src.now) h.pages h.read).whole

pub loop-layouts-smaller : goal.loop-layouts-smaller
loop-layouts-smaller g c =
    let before = g.S.Source.view c.args.src.now in
    let h = c.loop-layouts.invariant.laid in
    let next = rw c.in-Some.is at c.in_ok-page.ensures.page in
    let r = next before h.pages h.read in
    omega (
      arith,
      count_low before (h.pages ++ r.page ∷ []) c.next_page.new.images (g.S.Source.view c.next_page.new.src) r.read,
      (r.read).count_is,
      (h.read).count_is,
      length-append h.pages (r.page ∷ []),
    )

pub loop-layouts-preserved : goal.loop-layouts-preserved
loop-layouts-preserved g c =
    let before = g.S.Source.view c.args.src.now in
    let source = g.S.Source.view c.loop-layouts.src in
    let later = g.S.Source.view c.next_page.new.src in
    let h = c.loop-layouts.invariant.laid in
    let next = rw c.in-Some.is at c.in_ok-page.ensures.page in
    let r = next before h.pages h.read in
    let at = ap (λ (n : ℕ). n - 1) c.count-number.ensures in
    record {
      ready = c.in_ok-layout.ensures.ready;
      laid = rw c.in_ok-push.ensures.grown
          (laid_more c.args.plan.now before c.loop-layouts.images c.next_page.new.images source later c.loop-layouts.layouts h c.in-Some.page r (c.count-number.result - 1) c.in_ok-layout.layout at
          (c.in_ok-layout.ensures.layout r.page r.held));
      faults = omega (arith, c.loop-layouts.invariant.faults, c.next_page.ensures.cause.later);
    }

pub returns-in_err-page : goal.returns-in_err-page
returns-in_err-page g c =
    let before = g.S.Source.view c.args.src.now in
    let source = g.S.Source.view c.loop-layouts.src in
    let later = g.S.Source.view c.next_page.new.src in
    let h = c.loop-layouts.invariant.laid in
    let e = c.in_err-page.ensures in
    let p = err_from_is_err_and c.from_residual-in_err-page.result c.from_residual-in_err-page.ensures.1 in
    let low : before.faults ≤ later.faults = omega (arith, c.loop-layouts.invariant.faults, e.cause.later) in
    rw (p.1, p.2)
    (answers_refused c.args.plan.now (ReadsLayouts c.args.plan.now before later) before later c.in_err-page.field-0.0 low
    (e.refused c.args.plan.now before h.pages h.read (few_pages 0 c.args.plan.now h.pages c.loop-layouts.layouts h.are_layouts))
    (λ same. rose_from before.faults source.faults later.faults c.loop-layouts.invariant.faults (e.cause.failed (ap (λ r. Err r) same))))

pub returns-in_err-layout : goal.returns-in_err-layout
returns-in_err-layout g c =
    let before = g.S.Source.view c.args.src.now in
    let later = g.S.Source.view c.next_page.new.src in
    let h = c.loop-layouts.invariant.laid in
    let next = rw c.in-Some.is at c.in_ok-page.ensures.page in
    let r = next before h.pages h.read in
    let fault = c.in_err-layout.field-0.0 in
    let p = err_from_is_err_and c.from_residual-in_err-layout.result c.from_residual-in_err-layout.ensures.1 in
    let low : before.faults ≤ later.faults = omega (arith, c.loop-layouts.invariant.faults, c.next_page.ensures.cause.later) in
    rw (p.1, p.2)
    (answers_refused c.args.plan.now (ReadsLayouts c.args.plan.now before later) before later (refusal_of fault) low
    (core_refused c.args.plan.now before h.pages r.page fault (few_pages 0 c.args.plan.now h.pages c.loop-layouts.layouts h.are_layouts) (c.in_err-layout.ensures.fault r.page r.held) c.next_page.new.images later r.read)
    (λ same. absurd (not_read_fault fault same)))
