use Rattle.std.proofs.Common.{rules}
use Rattle.search_trials.proofs.HeldLeases.{held_is_out, holds_less}
use Rattle.search_trials.proofs.tests.desk.reopen_one.Goals as goal

pub reopen-requires : goal.reopen-requires
reopen-requires c = record { out = held_is_out c.args.frontier.now.leased c.args.leases.now.items c.args.place c.remove-lease.result c.requires.held (search rules) c.remove-lease.ensures.value }

pub returns : goal.returns
returns c =
    record { held = rw c.remove-lease.ensures.items (holds_less c.args.frontier.now.leased c.reopen.new.self.leased c.args.leases.now.items c.args.place c.remove-lease.result c.requires.held (search rules) c.remove-lease.ensures.value c.reopen.ensures.reopens.leased) }
