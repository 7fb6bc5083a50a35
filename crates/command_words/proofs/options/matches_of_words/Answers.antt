use Rattle.std.proofs.Common.{◌∙◌}
use Rattle.command_words.proofs.Known.{refused_words}
use Rattle.command_words.proofs.options.matches_of_words.Goals as goal

pub returns-in-Err-clause-refused : goal.returns-in-Err-clause-refused
returns-in-Err-clause-refused c =
    refused_words c.args.program _ _ c.in-Err.error c.fault_of_kind.result c.in_ok-command.ensures.app c.in-Err.ensures.kinds
    (λ oom. c.fault_of_kind.ensures.memory (c.kind.ensures ∙ oom))
