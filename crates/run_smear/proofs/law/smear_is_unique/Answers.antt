use Rattle.run_smear.proofs.Unique as unique
use Rattle.run_smear.proofs.law.smear_is_unique.Goals as goal

pub returns : goal.returns
returns c = record { one_smear = unique.one_smear }
