use Rattle.std.proofs.Common.{◌∙◌, sym, true≢false}
use Rattle.command_words.proofs.Known.{some_refused, none_refused_word}
use Rattle.command_words.proofs.told.told_words.Goals as goal

pub returns-then-has_refused-clause-usage : goal.returns-then-has_refused-clause-usage
returns-then-has_refused-clause-usage c = λ is. some_refused _ c.args.words.now (c.has_refused.ensures.refused.0 c.if-has_refused.true)

pub returns-clause-plain : goal.returns-clause-plain
returns-clause-plain c = none_refused_word _ c.args.words.now (λ any. true≢false (sym (c.has_refused.ensures.refused.1 any) ∙ c.if-has_refused.false))
