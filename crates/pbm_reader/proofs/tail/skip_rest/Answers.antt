use Rattle.std.proofs.Common.{arith, ◌∙◌}
use Rattle.pbm_reader.proofs.TailLoop.{skipping_on, skipping_long}
use Rattle.pbm_reader.proofs.tail.skip_rest.Goals as goal

pub returns-then-count-left-clause-fault : goal.returns-then-count-left-clause-fault
returns-then-count-left-clause-fault g c =
    let old = c.args.feed.now.source in
    let middle = c.loop-count.feed.source in
    let new = c.drop_bytes.new.self.source in
    let d = c.in_ok-count.ensures.bytes in
    skipping_long old middle new c.args.start c.loop-count.left c.in_ok-count.count d.0 c.loop-count.invariant.skipping d.1 d.2 c.if-count-left.true

pub loop-count-preserved : goal.loop-count-preserved
loop-count-preserved g c =
    let old = c.args.feed.now.source in
    let middle = c.loop-count.feed.source in
    let new = c.drop_bytes.new.self.source in
    let d = c.in_ok-count.ensures.bytes in
    record {
      skipping = skipping_on old middle new c.args.start c.loop-count.left c.in_ok-count.count d.0 c.loop-count.invariant.skipping d.1 d.2 c.if-count-left.false;
      same = c.drop_bytes.ensures.same ∙ c.loop-count.invariant.same;
      later = omega arith;
    }
