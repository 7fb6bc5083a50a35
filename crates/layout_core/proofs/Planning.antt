-- What the words tell a program is what their plan tells it, since they have one plan.
use Rattle.std.proofs.Common.{◌≡◌, ◌∙◌, ℕ, false, List, Option, None, Some, ap, subst, inl, inr}
use Rattle.std.specs.Prelude.{is_some}
use Rattle.command_words.specs.Items.{Text}
use Rattle.command_words.specs.Values.{IsSeedOf}
use Rattle.command_words.specs.declared.plan.Plan.{Plan}
use Rattle.command_words.specs.declared.plan.Program.{Program}
use Rattle.command_words.specs.Plans.{HasPlan}
use Rattle.layout_core.specs.Run.{IsReading, IsMaking}

-- words have one plan at most
abbrev pub OnePlan : Type 0
OnePlan = (program : Program) (words : List (List ℕ)) (p q : Plan) → HasPlan program words p → HasPlan program words q → p ≡ q

make_of : Plan → Option ℕ
make_of plan = plan.make

reads : OnePlan → (program : Program) (words : List (List ℕ)) (plan : Plan) → HasPlan program words plan → IsReading program words → plan.make ≡ None
unfolding make_of
reads one program words plan has told = ap make_of (one program words plan told.0 has told.1) ∙ told.2

makes : OnePlan → (program : Program) (words : List (List ℕ)) (plan : Plan) → HasPlan program words plan → (told : IsMaking program words) → plan.make ≡ Some told.1
unfolding make_of
makes one program words plan has told = ap make_of (one program words plan told.0 has told.2) ∙ told.3

never_both : (make : Option ℕ) (seed : ℕ) → make ≡ None → make ≡ Some seed → ⊥
never_both make seed none some = cc (none, some)

-- a plan with a seed shows no blocks
pub no_blocks : (program : Program) (words : List (List ℕ)) (plan : Plan) (seed : ℕ) → HasPlan program words plan → plan.make ≡ Some seed → plan.blocks ≡ false
no_blocks program words plan seed has some =
    elim has.blocks_apart [
      | inl none ↦ has.shows_blocks ∙ ap is_some none
      | inr none ↦ absurd (never_both plan.make seed (subst (λ (value : Option Text). IsSeedOf value plan.make) none has.make) some)
    ]

-- words whose plan has no seed make no page
pub not_making : OnePlan → (program : Program) (words : List (List ℕ)) (plan : Plan) → HasPlan program words plan → plan.make ≡ None → IsMaking program words → ⊥
not_making one program words plan has none told = never_both plan.make told.1 none (makes one program words plan has told)

-- words whose plan has a seed read no page
pub not_reading : OnePlan → (program : Program) (words : List (List ℕ)) (plan : Plan) (seed : ℕ) → HasPlan program words plan → plan.make ≡ Some seed → IsReading program words → ⊥
not_reading one program words plan seed has some told = never_both plan.make seed (reads one program words plan has told) some
