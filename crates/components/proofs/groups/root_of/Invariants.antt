use Rattle.std.proofs.Common.{◌≡◌, ◌<◌, ℕ, length}
use Rattle.components.specs.Groups.{AreRooted, DoPointBack, group_at}
use Rattle.components.proofs.groups.root_of.Given as goal

abbrev pub invariant-loop-parent : goal.invariant-loop-parent
invariant-loop-parent l = record {
  below : l.at < length l.groups.items;
  parent : l.parent ≡ (group_at l.groups.items l.at).parent;
  back : DoPointBack l.groups.items;
  len : length l.groups.items ≡ length l.fn.groups.items;
  bounds : (g : ℕ) → (group_at l.groups.items g).bounds ≡ (group_at l.fn.groups.items g).bounds;
  rooted : (root : ℕ → ℕ) → AreRooted l.fn.groups.items root → AreRooted l.groups.items root × (root l.at ≡ root l.fn.group);
}

abbrev pub decreases-loop-parent : goal.decreases-loop-parent
decreases-loop-parent l = l.at
