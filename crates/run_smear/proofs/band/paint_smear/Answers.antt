use Rattle.std.proofs.Common.{◌∙◌}
use Rattle.page_runs.specs.Packed.{page_of}
use Rattle.run_smear.specs.Smear.{IsInRowSmear, IsInColumnSmear}
use Rattle.run_smear.specs.Clipped.{page_clipped}
use Rattle.run_smear.proofs.Bands.{both_painted, packed_smear}
use Rattle.run_smear.proofs.band.paint_smear.Goals as goal

pub returns-clause-painted : goal.returns-clause-painted
returns-clause-painted c =
    let page = page_of c.args.page.now in
    both_painted (λ x. IsInRowSmear page c.args.most.columns x c.args.y) (λ x. IsInColumnSmear page c.args.most.rows x c.args.y) _ _ _ (c.paint_row_smear.ensures.painted page c.args.y c.row.ensures.runs)
    c.in_ok-paint_column_smear.ensures.painted c.keep_common.ensures.common

pub returns-clause-packed : goal.returns-clause-packed
returns-clause-packed c =
    let page = page_of c.args.page.now in
    packed_smear page c.args.most.columns c.args.most.rows c.args.y c.keep_common.new.bits (page_clipped c.args.page.now) (c.keep_common.ensures.len ∙ c.paint_row_smear.ensures.len ∙ c.requires.len)
    (both_painted (λ x. IsInRowSmear page c.args.most.columns x c.args.y) (λ x. IsInColumnSmear page c.args.most.rows x c.args.y) _ _ _ (c.paint_row_smear.ensures.painted page c.args.y c.row.ensures.runs)
    c.in_ok-paint_column_smear.ensures.painted c.keep_common.ensures.common)
