use Rattle.page_runs.proofs.RowWords.{word_padded}
use Rattle.page_runs.proofs.row_words.padded_word.Goals as goal

pub returns : goal.returns
returns c = word_padded _ _ _ c.requires c.copy_from_slice.ensures.after (λ i. (c.type_inv.rest i).fits) c.from_be_bytes.ensures
