use Rattle.word_split.proofs.Unique.{one_list}
use Rattle.word_split.proofs.law.words_are_unique.Goals as goal

pub returns : goal.returns
returns c = record { one_list = one_list }
