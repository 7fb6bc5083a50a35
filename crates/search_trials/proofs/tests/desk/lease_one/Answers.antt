use Rattle.search_trials.proofs.HeldLeases.{holds_more}
use Rattle.search_trials.proofs.tests.desk.lease_one.Goals as goal

pub returns-in_ok-push-in-Leased : goal.returns-in_ok-push-in-Leased
returns-in_ok-push-in-Leased c =
    record { held = rw c.in_ok-push-in-Leased.ensures.items (holds_more c.args.frontier.now.leased c.lease.new.self.leased c.args.leases.now.items c.in-Leased.lease c.requires.held c.in-Leased.ensures.takes.leased) }
