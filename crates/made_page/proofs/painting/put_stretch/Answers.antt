use Rattle.std.proofs.Common.{refl, ◌∙◌, arith}
use Rattle.packed_rows.specs.Page.{pixel}
use Rattle.made_page.proofs.Pixels.{stretch_none, stretch_more, stretch_all}
use Rattle.made_page.proofs.painting.put_stretch.Goals as goal

pub loop-x-init : goal.loop-x-init
loop-x-init c = record { len = refl; pixels = λ k. stretch_none c.args.left k (pixel c.args.bits.now k); none = λ e. refl }

pub loop-x-preserved : goal.loop-x-preserved
loop-x-preserved c =
    let l = c.loop-x in
    record {
      len = c.set_pixel.ensures.len ∙ l.invariant.len;
      pixels = λ k. stretch_more c.args.left l.x k (pixel c.args.bits.now k) (pixel l.bits k) (pixel c.set_pixel.new.bits k) l.auto.x (l.invariant.pixels k) (c.set_pixel.ensures.pixels k);
      none = λ e. absurd (omega (arith, e, l.auto.x, c.loop-x-test.true));
    }

pub returns-clause-pixels : goal.returns-clause-pixels
returns-clause-pixels c = λ k.
    let l = c.loop-x in
    stretch_all c.args.left c.args.right l.x k (pixel c.args.bits.now k) (pixel l.bits k) c.loop-x-test.false l.auto.x-end l.invariant.none (l.invariant.pixels k)
