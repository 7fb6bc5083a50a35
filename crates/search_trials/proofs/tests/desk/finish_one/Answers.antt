use Rattle.std.proofs.Common.{rules}
use Rattle.search_trials.proofs.HeldLeases.{held_is_out, holds_less}
use Rattle.search_trials.proofs.tests.desk.finish_one.Goals as goal

pub finish-requires : goal.finish-requires
finish-requires c = record { out = held_is_out c.args.frontier.now.leased c.args.leases.now.items c.args.place c.remove-lease.result c.requires.held (search rules) c.remove-lease.ensures.value }

pub returns : goal.returns
returns c =
    record { held = rw c.remove-lease.ensures.items (holds_less c.args.frontier.now.leased c.finish.new.self.leased c.args.leases.now.items c.args.place c.remove-lease.result c.requires.held (search rules) c.remove-lease.ensures.value c.in-Ok.ensures.ok.leased) }
