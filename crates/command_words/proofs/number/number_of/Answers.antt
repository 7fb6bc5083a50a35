use Rattle.std.proofs.Common.{◌<◌, ◌^◌, ℕ, subst, sym}
use Rattle.std.specs.Option.{IfNone}
use Rattle.command_words.specs.Values.{SpellsNumber}
use Rattle.command_words.proofs.Digits.{no_number}
use Rattle.command_words.proofs.number.number_of.Goals as goal

pub returns-clause-none : goal.returns-clause-none
returns-clause-none c =
    subst (λ o. IfNone o ((n : ℕ) → SpellsNumber c.args.text.now n → n < 2 ^ 64 → ⊥)) (sym c.ok.ensures.value)
    (no_number c.args.text.now c.parse.result c.parse.ensures.value.0)
