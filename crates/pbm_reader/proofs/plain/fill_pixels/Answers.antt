use Rattle.std.proofs.Common.{refl, ◌∙◌, arith}
use Rattle.std.proofs.lemmas.Result.{err_from_is_err_and}
use Rattle.pbm_reader.proofs.PixelLoop.{filling_begins, filling_on, filling_white, filling_fails, filled}
use Rattle.pbm_reader.proofs.plain.fill_pixels.Goals as goal

pub loop-x-init : goal.loop-x-init
loop-x-init g c =
    let f = c.whiten.ensures in
    record {
      filling = filling_begins c.args.feed.now.source c.args.start c.whiten.new.bits c.requires.low f.pixels;
      buffer = f.len ∙ c.requires.len;
      low = c.requires.low;
      same = refl;
      later = omega arith;
    }

pub put_pixel-requires : goal.put_pixel-requires
put_pixel-requires g c =
    let old = c.args.feed.now.source in
    let middle = c.loop-x.feed.source in
    record {
      within = omega (arith, c.loop-x.invariant.buffer);
      white = filling_white old middle c.args.start c.loop-x.at c.loop-x.x c.loop-x.row c.loop-x.invariant.filling;
    }

pub loop-x-preserved : goal.loop-x-preserved
loop-x-preserved g c =
    let took = c.in_ok-pixel.ensures.pixel in
    record {
      filling = filling_on c.args.feed.now.source c.loop-x.feed.source c.next_pixel.new.feed.source c.args.start c.loop-x.at c.in_ok-pixel.pixel.end c.loop-x.x c.in_ok-pixel.pixel.is_black c.loop-x.row c.put_pixel.new.row c.loop-x.invariant.filling
          took c.put_pixel.ensures.pixels;
      buffer = c.put_pixel.ensures.len ∙ c.loop-x.invariant.buffer;
      low = took.low;
      same = c.next_pixel.ensures.same ∙ c.loop-x.invariant.same;
      later = omega arith;
    }

pub returns-in_err-pixel-clause-fault : goal.returns-in_err-pixel-clause-fault
returns-in_err-pixel-clause-fault g c =
    let p = err_from_is_err_and c.from_residual.result c.from_residual.ensures.1 in
    rw (p.1, p.2) (filling_fails c.args.feed.now.source c.loop-x.feed.source c.next_pixel.new.feed.source c.args.start c.loop-x.at c.loop-x.x c.args.width c.loop-x.row c.in_err-pixel.field-0.0 c.loop-x.invariant.filling (omega arith) c.in_err-pixel.ensures.fault)

pub returns-clause-ok : goal.returns-clause-ok
returns-clause-ok g c =
    let old = c.args.feed.now.source in
    let now = c.loop-x.feed.source in
    filled old now c.args.start c.loop-x.at c.loop-x.x c.args.width c.loop-x.row c.loop-x.invariant.filling (omega arith) c.loop-x.invariant.buffer
