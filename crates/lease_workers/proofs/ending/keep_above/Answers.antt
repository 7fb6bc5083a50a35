use Rattle.std.proofs.Common.{rules}
use Rattle.std.proofs.lemmas.Fn.{filter_same}
use Rattle.lease_workers.proofs.ending.keep_above.Goals as goal

pub returns : goal.returns
returns g c = record { above = filter_same _ _ _ (λ x b f' k. search rules) _ _ c.retain.ensures.filtered }
