use Rattle.std.proofs.Common.{◌≤◌, ◌∙◌, subst, sym, inl, inr, arith}
use Rattle.std.proofs.lemmas.Bool.{false≢true}
use Rattle.made_page.specs.Made.{made_page}
use Rattle.layout_core.specs.declared.page_layout.CoreFault.{CoreFault}
use Rattle.layout_core.specs.Layouts.{HasTooMany, IsCoreFault}
use Rattle.layout_core.proofs.summary.made_layout.Goals as goal

pub unreachable-requires : goal.unreachable-requires
unreachable-requires g c =
    let held = made_page c.args.seed in
    let P : CoreFault → Type 0 = λ fault. IsCoreFault c.args.plan.now held fault in
    let many : HasTooMany c.args.plan.now held c.in-TooMany.count = subst P c.in-TooMany.is (c.in-Err.ensures.fault held c.in_ok-page.ensures.held) in
    elim many [
      | inl many ↦
          let few : c.in-TooMany.count ≤ 1980 = c.made_page_has_few_components.ensures c.args.seed c.in-TooMany.count many.counted in
          omega (arith, few, many.many)
      | inr shown ↦ absurd (false≢true (sym c.requires.no_blocks ∙ shown.0))
    ]
