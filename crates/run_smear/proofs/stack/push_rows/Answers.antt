use Rattle.std.proofs.Common.{◌≡◌, ℕ, length, refl, arith, sym, subst, ◌∙◌}
use Rattle.packed_rows.specs.Page.{row_len, IsPackedRow}
use Rattle.page_runs.specs.Packed.{page_of}
use Rattle.run_smear.specs.Stacked.{HasMore}
use Rattle.run_smear.specs.Clipped.{page_clipped}
use Rattle.run_smear.proofs.Stacking.{no_more, one_more, plain_packed}
use Rattle.run_smear.proofs.stack.push_rows.Goals as goal

pub loop-y-init : goal.loop-y-init
loop-y-init c = record { len = refl; has = no_more c.args.page.now (page_of c.args.more.now) }

pub push_row-requires-clause-packed : goal.push_row-requires-clause-packed
push_row-requires-clause-packed c =
    let l = c.loop-y in
    let more = page_of c.args.more.now in
    let len : length c.paint_row_smear.new.bits ≡ row_len more.width = c.paint_row_smear.ensures.len ∙ l.invariant.len ∙ c.requires.len in
    subst (λ (width : ℕ). IsPackedRow width c.paint_row_smear.new.bits) (c.requires.width ∙ sym l.invariant.has.width_is)
    (plain_packed more l.y c.paint_row_smear.new.bits (page_clipped c.args.more.now) len (c.paint_row_smear.ensures.painted more l.y c.row.ensures.runs))

pub loop-y-preserved : goal.loop-y-preserved
loop-y-preserved c =
    let l = c.loop-y in
    let more = page_of c.args.more.now in
    record {
      len = c.paint_row_smear.ensures.len ∙ l.invariant.len;
      has = one_more c.args.page.now l.page c.push_row.new.self more l.y c.paint_row_smear.new.bits l.invariant.has c.in_ok-push_row.ensures.ok
          (c.paint_row_smear.ensures.painted more l.y c.row.ensures.runs);
    }

pub returns-clause-more : goal.returns-clause-more
returns-clause-more c =
    let l = c.loop-y in
    let last : l.y ≡ (page_of c.args.more.now).height = omega (arith, c.loop-y-test.false, l.auto.y-end, c.height-y-end.ensures.value) in
    subst (λ (n : ℕ). HasMore c.args.page.now (page_of c.args.more.now) n l.page) last l.invariant.has
