use Rattle.page_runs.proofs.Held.{given_page_held}
use Rattle.page_runs.proofs.run_page.given_page_is_held.Goals as goal

pub returns : goal.returns
returns c = given_page_held
