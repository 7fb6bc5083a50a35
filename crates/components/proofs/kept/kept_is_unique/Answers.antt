use Rattle.components.proofs.Exact.{same_list, same_count}
use Rattle.components.proofs.kept.kept_is_unique.Goals as goal

pub returns : goal.returns
returns c = λ page. record { one_list = same_list page; one_count = same_count page }
