use Rattle.made_page.proofs.Counting.{few_kept}
use Rattle.made_page.proofs.few.made_page_has_few_components.Goals as goal

pub returns : goal.returns
returns c = few_kept
