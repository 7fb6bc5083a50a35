use Rattle.std.proofs.Common.{◌≡◌, ◌∙◌, ◌++◌, take, drop, List, ℕ, length, ap, subst, rules, arith}
use Rattle.std.proofs.lemmas.List.{take_at}
use Rattle.std.proofs.lemmas.Grind.{common_steps}
use Rattle.page_runs.specs.Packed.{page_of}
use Rattle.page_runs.specs.Rows.{Given}
use Rattle.run_smear.proofs.Bands.{row_smeared}
use Rattle.run_smear.proofs.band.smear_rows.Goals as goal

pub loop-y-init : goal.loop-y-init
loop-y-init c = record {
  len = search rules;
  other_len = search rules;
  ready = record {
    first = c.saturating_sub.result;
    early = omega (arith, c.saturating_sub.ensures);
    begun = omega arith;
    reach = omega (arith, c.saturating_sub.ensures, c.requires.some, c.requires.rows);
    slim = search rules;
    swept = grind (arith, common_steps);
    near = λ ahead. absurd (omega (arith, ahead));
  };
  width_is = search rules;
  height_is = search rules;
  rows_is = search rules;
  blacks = λ x k none. absurd (omega (arith, none));
}

pub loop-y-preserved : goal.loop-y-preserved
loop-y-preserved c =
    let l = c.loop-y in
    let inv = l.invariant in
    let bits = c.paint_smear.new.bits in
    let back : take l.bits.len (bits ++ drop (length bits) l.bits.items) ≡ bits = take_at bits _ l.bits.len (omega (arith, c.paint_smear.auto.bits, c.deref_mut.ensures.len)) in
    let other = c.paint_smear.new.other in
    let other_back : take l.other.len (other ++ drop (length other) l.other.items) ≡ other = take_at other _ l.other.len (omega (arith, c.paint_smear.auto.other, c.deref_mut-in-loop-y.ensures.len)) in
    let given : Given l.band bits c.push_row.new.self = subst (λ (b : List ℕ). Given l.band b c.push_row.new.self) (c.deref.ensures.value ∙ back) c.in_ok-push_row.ensures.ok in
    record {
      len = ap length back ∙ c.paint_smear.auto.bits ∙ ap length c.deref_mut.ensures.value ∙ inv.len;
      other_len = ap length other_back ∙ c.paint_smear.auto.other ∙ ap length c.deref_mut-in-loop-y.ensures.value ∙ inv.other_len;
      ready = c.in_ok-paint_smear.ensures.ready;
      width_is = given.width_is ∙ inv.width_is;
      height_is = given.height_is ∙ inv.height_is;
      rows_is = omega (arith, given.rows_is, inv.rows_is, l.auto.y);
      blacks = row_smeared (page_of c.args.page.now) c.args.h c.args.v c.args.from l.y l.band c.push_row.new.self bits given l.auto.y inv.rows_is c.in_ok-paint_smear.ensures.painted inv.blacks;
    }

pub returns-clause-band : goal.returns-clause-band
returns-clause-band c =
    let inv = c.loop-y.invariant in
    record { width_is = inv.width_is; height_is = inv.height_is; blacks = λ x k below. inv.blacks x k (omega (arith, below, c.loop-y-test.false)) }
