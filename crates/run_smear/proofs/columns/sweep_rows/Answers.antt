use Rattle.std.proofs.Common.{◌≡◌, ℕ, arith, subst, sym, ◌∙◌}
use Rattle.page_runs.specs.Packed.{page_of}
use Rattle.run_smear.specs.Columns.{AreWithin, IsSwept}
use Rattle.run_smear.proofs.Sweeping.{row_swept}
use Rattle.run_smear.proofs.columns.sweep_rows.Goals as goal

pub loop-y-preserved : goal.loop-y-preserved
loop-y-preserved c =
    let l = c.loop-y in
    let closed = c.in_ok-close_row.ensures in
    record {
      len = closed.closes.len ∙ l.invariant.len;
      slim = λ within.
          subst (λ (n : ℕ). AreWithin n c.close_row.new.fills.items) l.invariant.len
          (closed.slim (subst (λ (n : ℕ). AreWithin n l.fills.items) (sym l.invariant.len) (l.invariant.slim within)));
      swept = λ first low order start.
          row_swept (page_of c.args.page.now) c.args.most first low l.y c.row.result.now l.behind c.close_row.new.behind l.fills.items c.close_row.new.fills.items
          c.row.ensures.runs (omega (arith, order, l.auto.y)) (l.invariant.swept first low order start) closed.closes;
    }

pub returns-clause-swept : goal.returns-clause-swept
returns-clause-swept c = λ first low order start.
    let l = c.loop-y in
    let last : l.y ≡ c.args.to = omega (arith, c.loop-y-test.false, l.auto.y-end, c.requires.order) in
    subst (λ (n : ℕ). IsSwept (page_of c.args.page.now) c.args.most first low n l.behind l.fills.items) last (l.invariant.swept first low order start)
