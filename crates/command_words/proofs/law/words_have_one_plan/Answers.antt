use Rattle.command_words.proofs.Deciding.{one_plan}
use Rattle.command_words.proofs.law.words_have_one_plan.Goals as goal

pub returns : goal.returns
returns c = record { one_plan = one_plan }
