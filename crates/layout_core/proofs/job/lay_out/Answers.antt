use Rattle.std.proofs.Common.{refl}
use Rattle.layout_core.proofs.Owing.{input_laws}
use Rattle.layout_core.proofs.Planning.{no_blocks}
use Rattle.layout_core.proofs.Endings.{document_ends, summary_ends}
use Rattle.layout_core.proofs.job.lay_out.Goals as goal

pub make_summary-text-requires-clause-no_blocks : goal.make_summary-text-requires-clause-no_blocks
make_summary-text-requires-clause-no_blocks g c = no_blocks _ _ c.args.job.now.plan c.in-Some.seed c.requires.planned c.in-Some.is

pub returns : goal.returns
returns g c =
    let judged = c.each_input_is_judged.ensures in
    let laws = input_laws c.kept_is_unique.ensures c.smear_is_unique.ensures.one_smear judged.one_page judged.never_both judged.one_list judged.one_pages_fault judged.never_pages_and_fault in
    let text = c.read_document-text in
    document_ends _ _ _ _ laws c.words_have_one_plan.ensures.one_plan c.args.job.now.plan c.requires.planned c.in-None.is text.result (λ t. t.items) text.ensures c.finish-2.ensures

pub returns-in-Some : goal.returns-in-Some
returns-in-Some g c =
    let text = c.make_summary-text in
    summary_ends _ _ _ _ c.words_have_one_plan.ensures.one_plan c.args.job.now.plan c.requires.planned c.in-Some.seed c.in-Some.is text.result (λ t. t.items)
    text.ensures.summary text.ensures.refused refl c.finish.ensures
