use Rattle.std.proofs.Common.{◌≡◌, ℕ, List, length}
use Rattle.page_runs.specs.Page.{Page}
use Rattle.components.specs.Groups.{Member, DoPointBack, CanJoin, AreAllJoined}
use Rattle.components.proofs.rows.join_touching.Given as goal

abbrev pub invariant-loop-i : goal.invariant-loop-i
invariant-loop-i l = record {
  back : DoPointBack l.groups.items;
  len : length l.groups.items ≡ length l.fn.groups.items;
  joined : (page : Page) (members : List Member) (root : ℕ → ℕ) → CanJoin page members l.up l.above l.from l.run l.group l.fn.groups.items root
      → AreAllJoined page members l.up l.above l.from l.i l.run l.group root l.groups.items;
}
