use Rattle.std.proofs.Common.{ℕ, ◌-◌, sum, refl, ap, ◌∙◌}
use Rattle.word_split.proofs.Best.{parting_of}
use Rattle.word_split.proofs.threshold.parting_at.Goals as goal

pub returns-clause-parting : goal.returns-clause-parting
returns-clause-parting c = parting_of c.args.rising.now c.requires.rises c.args.count _ refl c.requires.cut refl c.requires.narrow refl (ap (λ (n : ℕ). n - c.args.narrow_sum) c.requires.total ∙ ap (λ (n : ℕ). sum c.args.rising.now - n) c.requires.narrow)
