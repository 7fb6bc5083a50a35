use Rattle.page_runs.proofs.RowWords.{word_behind}
use Rattle.page_runs.proofs.row_words.word_at.Goals as goal

pub returns-in-Some : goal.returns-in-Some
returns-in-Some c = word_behind _ _ _ _ c.in-Some.ensures.cases.enough c.in-Some.ensures.cases.same (λ i. (c.type_inv.bits i).fits) c.from_be_bytes.ensures
