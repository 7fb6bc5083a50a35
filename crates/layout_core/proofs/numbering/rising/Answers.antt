use Rattle.std.proofs.Common.{ap, ◌∙◌, ◌∷◌, [], ◌++◌}
use Rattle.layout_core.proofs.Rising.{rising_more}
use Rattle.layout_core.proofs.numbering.rising.Goals as goal

pub loop-number-preserved : goal.loop-number-preserved
loop-number-preserved c = rw (rising_more c.loop-number.number) (c.in_ok-push.ensures.grown ∙ ap (λ xs. xs ++ c.loop-number.number ∷ []) c.loop-number.invariant)
