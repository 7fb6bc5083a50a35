use Rattle.std.proofs.Common.{ℕ, ap, ◌/◌, ◌^◌}
use Rattle.made_page.proofs.Drawing.{next_is}
use Rattle.made_page.proofs.draws.Draws.draw.Goals as goal

pub returns-clause-state : goal.returns-clause-state
returns-clause-state c = next_is c.args.self.now.state

pub returns-clause-value : goal.returns-clause-value
returns-clause-value c = ap (λ (state : ℕ). state / 2 ^ 33) (next_is c.args.self.now.state)
