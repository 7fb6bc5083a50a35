use Rattle.std.proofs.Common.{◌≡◌, ◌≤◌, ◌+◌, ◌∙◌, min, List, ℕ, length, arith, ap, sym, subst}
use Rattle.std.proofs.lemmas.List.{take_at}
use Rattle.packed_rows.specs.Page.{IsPageSize}
use Rattle.page_runs.specs.Packed.{page_of}
use Rattle.run_smear.specs.declared.fills.Fill.{Fill}
use Rattle.run_smear.specs.Columns.{AreWithin, AreNear, IsSwept}
use Rattle.run_smear.specs.Clipped.{page_clipped}
use Rattle.run_smear.proofs.Bands.{near_known}
use Rattle.run_smear.proofs.Sweeping.{swept_less}
use Rattle.run_smear.proofs.band.look_ahead.Goals as goal

-- how far the sweep goes on: a sum that stops at the end of its type is above each page's height
reach_is : (height until most sum to : ℕ) → height ≤ 8192 → sum ≡ min (until + most) 65535 → to ≡ min height sum → to ≡ min height (until + most)
reach_is height until most sum to bound first is = omega (arith, bound, first, is)

within_on : (n width : ℕ) (old new : List Fill) → n ≡ width → (AreWithin n old → AreWithin n new) → AreWithin width old → AreWithin width new
within_on n width old new same on within = subst (λ (k : ℕ). AreWithin k new) same (on (subst (λ (k : ℕ). AreWithin k old) (sym same) within))

pub sweep_rows-requires : goal.sweep_rows-requires
sweep_rows-requires c =
    let page = page_of c.args.page.now in
    let size : IsPageSize page.width page.height = c.height.ensures.size (omega (arith, c.requires.row, c.height.ensures.value)) in
    let reach = reach_is page.height c.min-until.result c.args.most _ c.min-to.result size.height_bound c.saturating_add-2.ensures
    (c.min-to.ensures ∙ ap (λ (n : ℕ). min n c.saturating_add-2.result) c.height-2.ensures.value) in
    record {
      whole = c.requires.whole;
      order = omega (arith, reach, c.requires.ready.reach, c.if-y-sweep.false, c.min-until.ensures, c.saturating_add.ensures, c.height.ensures.value, c.requires.row, size.height_bound);
      rows = omega (arith, reach);
      columns = ap length c.deref_mut.ensures.value ∙ c.requires.ready.swept.len;
    }

pub returns : goal.returns
returns c =
    let page = page_of c.args.page.now in
    let ready = c.requires.ready in
    let y = c.args.y in
    let most = c.args.most in
    let until = c.min-until.result in
    let to = c.min-to.result in
    let behind = c.sweep_rows.new.behind in
    let fills = c.sweep_rows.new.fills.items in
    let less = c.forget_done.new.fills.items in
    let size : IsPageSize page.width page.height = c.height.ensures.size (omega (arith, c.requires.row, c.height.ensures.value)) in
    let reach = reach_is page.height until most _ to size.height_bound c.saturating_add-2.ensures
    (c.min-to.ensures ∙ ap (λ (n : ℕ). min n c.saturating_add-2.result) c.height-2.ensures.value) in
    let wide = ap length c.deref_mut.ensures.value ∙ ready.swept.len in
    let start = subst (λ (b : List ℕ). IsSwept page most ready.first y c.args.sweep.now.next b c.args.sweep.now.fills.items) (sym c.deref_mut.ensures.value) ready.swept in
    let on = c.in_ok-sweep_rows.ensures.swept ready.first y ready.begun start in
    let now = swept_less page most ready.first y y to behind fills less on (omega arith) c.forget_done.ensures.kept c.forget_done.ensures.only in
    let back = take_at behind _ c.args.sweep.now.behind.len (omega (arith, c.sweep_rows.auto.behind, c.deref_mut.ensures.len)) in
    let within = c.forget_done.ensures.slim page.width (within_on _ page.width _ _ wide c.in_ok-sweep_rows.ensures.slim ready.slim) in
    let near : AreNear less (length less) until c.list_near.new.near.items =
    subst (λ (fs : List Fill). AreNear fs (length fs) until c.list_near.new.near.items) c.deref.ensures.value c.in_ok-list_near.ensures in
    record {
      ready = record {
        first = ready.first;
        early = ready.early;
        begun = omega (arith, ready.begun, ready.reach, reach, c.if-y-sweep.false, c.min-until.ensures, c.saturating_add.ensures, c.height.ensures.value, c.requires.row, size.height_bound);
        reach = omega (arith, reach);
        slim = within;
        swept = subst (λ (b : List ℕ). IsSwept page most ready.first y to b less) (sym back) now;
        near = λ ahead. near_known page most ready.first y until to behind less c.list_near.new.near.items (page_clipped c.args.page.now) now ready.early reach within near;
      };
      ahead = omega (arith, c.min-until.ensures, c.saturating_add.ensures, c.height.ensures.value, c.requires.row, size.height_bound);
    }
