use Rattle.std.proofs.Common.{◌∙◌, ◌+◌, arith}
use Rattle.page_runs.specs.Packed.{page_of}
use Rattle.run_smear.specs.Clipped.{page_clipped}
use Rattle.run_smear.proofs.Bands.{apart_wider, column_painted, known_below}
use Rattle.run_smear.proofs.Sweeping.{swept_less}
use Rattle.run_smear.proofs.band.paint_column_smear.Goals as goal

pub paint_row_smear-requires : goal.paint_row_smear-requires
paint_row_smear-requires c =
    apart_wider (page_of c.args.page.now).width _ c.row.result.now c.row.ensures.runs.apart (omega (arith, c.requires.len))

pub paint_fills-requires : goal.paint_fills-requires
paint_fills-requires c =
    let known = c.in_ok-look_ahead.ensures.ready.near c.in_ok-look_ahead.ensures.ahead in
    rw c.deref.ensures.value (λ i there. omega (arith, known.slim i there, c.requires.len, c.paint_row_smear.ensures.len))

pub returns : goal.returns
returns c =
    let page = page_of c.args.page.now in
    let ready = c.in_ok-look_ahead.ensures.ready in
    let sweep = c.look_ahead.new.sweep in
    let y = c.args.y in
    let most = c.args.most in
    let known = ready.near c.in_ok-look_ahead.ensures.ahead in
    record {
      len = c.paint_fills.ensures.len ∙ c.paint_row_smear.ensures.len;
      ready = record {
        first = ready.first;
        early = omega (arith, ready.early);
        begun = ready.begun;
        reach = ready.reach;
        slim = ready.slim;
        swept = swept_less page most ready.first y (y + 1) sweep.next sweep.behind.items sweep.fills.items sweep.fills.items ready.swept (omega arith) (λ k top foot has below. has) (λ k top foot has. has);
        near = λ ahead. known_below page most y sweep.until sweep.near.items known;
      };
      painted =
          column_painted page most y sweep.until sweep.near.items c.paint_row_smear.new.bits c.paint_fills.new.bits known c.in_ok-look_ahead.ensures.ahead
          (c.paint_row_smear.ensures.painted page y c.row.ensures.runs) (rw c.deref.ensures.value at c.paint_fills.ensures);
    }
