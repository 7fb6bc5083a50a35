use Rattle.std.proofs.Common.{refl, inl}
use Rattle.layout_core.proofs.job.plan_of.Goals as goal

pub returns-in-Usage-clause-refused : goal.returns-in-Usage-clause-refused
returns-in-Usage-clause-refused c = inl (refl, c.in-Err.ensures.usage c.in-Usage.is)
