use Rattle.std.proofs.Common.{arith, subst}
use Rattle.line_counts.specs.declared.stretch.Stretch.{Stretch}
use Rattle.line_counts.specs.Stretches.{IsKeyIn, IsGreaterKey}
use Rattle.line_counts.proofs.Joining.{no_offset, part_more, offset_all, from_none}
use Rattle.line_counts.proofs.counts.Counts.greatest.Goals as goal

pub loop-done-init : goal.loop-done-init
loop-done-init c = record { within = omega arith; exact = no_offset c.args.self.now c.args.least c.args.stretch.now 0 }

pub loop-done-preserved : goal.loop-done-preserved
loop-done-preserved c =
    let stretch = c.args.stretch.now in
    record {
      within = c.part_of-part.ensures.within;
      exact = part_more c.args.self.now c.args.least stretch c.loop-done.done c.part_of-part.result.offsets 0 c.loop-done.best c.greatest_in-best.result c.loop-done.invariant.exact
          (subst (λ (part : Stretch). IsGreaterKey (IsKeyIn c.args.self.now c.args.least part) c.loop-done.best c.greatest_in-best.result) c.part_of-part.ensures.part c.greatest_in-best.ensures);
    }

pub returns : goal.returns
returns c =
    from_none (IsKeyIn c.args.self.now c.args.least c.args.stretch.now) c.loop-done.best
    (offset_all c.args.self.now c.args.least c.args.stretch.now c.loop-done.done 0 c.loop-done.best (omega (arith, c.loop-done-test.false, c.loop-done.invariant.within)) c.loop-done.invariant.exact)
