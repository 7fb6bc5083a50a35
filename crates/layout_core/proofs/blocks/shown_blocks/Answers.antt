use Rattle.std.proofs.Common.{◌≡◌, ◌*◌, ℕ, Bool, true, min, refl, sym, subst}
use Rattle.std.proofs.lemmas.Result.{err_from_is_err_and}
use Rattle.packed_rows.specs.Page.{Page, page_with}
use Rattle.page_runs.specs.Packed.{Packed, Holds, page_of}
use Rattle.components.specs.declared.kept.CompFault.{CompFault}
use Rattle.components.specs.declared.kept.CompFault.TheVariants as faults
use Rattle.components.specs.Kept.{IsFaultOf}
use Rattle.run_smear.specs.Smear.{IsSmearOf}
use Rattle.run_smear.specs.Clipped.{held_page}
use Rattle.layout_core.specs.Found.{core_fault_of}
use Rattle.layout_core.specs.ShownBlocks.{IsBlockSmear, AreShownBlocks, IsBlockFault}
use Rattle.layout_core.specs.declared.blocks.TheConstants.{MAX_STRETCH, COLUMNS_IN_MEDIANS, ROWS_IN_MEDIANS}
use Rattle.layout_core.proofs.Inside.{holds_itself}
use Rattle.layout_core.proofs.blocks.shown_blocks.Goals as goal

smeared : (p q : Packed) (held : Page) (median columns rows : ℕ) → Holds p held → columns ≡ min MAX_STRETCH (COLUMNS_IN_MEDIANS * median) → rows ≡ min MAX_STRETCH (ROWS_IN_MEDIANS * median)
    → IsSmearOf (page_of p) columns rows (page_of q) → IsBlockSmear held median (page_of q)
smeared p q held median columns rows holds wide high is =
    let here : IsSmearOf (page_with held.width held.height held.is_black) columns rows (page_of q) = subst (λ (page : Page). IsSmearOf page columns rows (page_of q)) (held_page p held holds) is in
    rw (wide, high) at here

faulted : (shown : Bool) (page : Page) (median : ℕ) (smear : Page) → shown ≡ true → IsBlockSmear page median smear → (fault : CompFault) → IsFaultOf smear fault
    → IsBlockFault shown page median (core_fault_of fault)
faulted shown page median smear flag is (faults.TooMany count) f = (flag, smear, is, f.0, f.1)
faulted shown page median smear flag is faults.Memory f = tt

pub returns-in_err-kept-clause-fault : goal.returns-in_err-kept-clause-fault
returns-in_err-kept-clause-fault g c =
    let p = err_from_is_err_and c.from_residual-in_err-kept.result c.from_residual-in_err-kept.ensures.1 in
    let rows = c.in_ok-smear.smear in
    λ held holds.
    rw (p.1, p.2)
    (faulted c.args.shown held c.args.median (page_of rows) c.if-not-shown.false
    (smeared c.args.page.now rows held c.args.median c.stretch_of-columns.result c.stretch_of-rows.result holds c.stretch_of-columns.ensures c.stretch_of-rows.ensures c.in_ok-smear.ensures.smear)
    c.in_err-kept.field-0.0 (c.in_err-kept.ensures.fault (page_of rows) (holds_itself rows)))

pub returns-clause-blocks : goal.returns-clause-blocks
returns-clause-blocks g c =
    let rows = c.in_ok-smear.smear in
    let kept = c.in_ok-kept.ensures.kept (page_of rows) (holds_itself rows) in
    λ held holds.
    subst (λ (shown : Bool). AreShownBlocks shown held c.args.median c.in_ok-kept.kept.boxes) (sym c.if-not-shown.false)
    (record {
      smear = page_of rows;
      is_smear = smeared c.args.page.now rows held c.args.median c.stretch_of-columns.result c.stretch_of-rows.result holds c.stretch_of-columns.ensures c.stretch_of-rows.ensures c.in_ok-smear.ensures.smear;
      are_kept = kept.boxes;
      few = kept.few;
    })
