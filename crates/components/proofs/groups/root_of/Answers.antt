use Rattle.std.proofs.Common.{◌≡◌, List, length, set, refl, sym, ap, subst, ◌∙◌, arith}
use Rattle.std.proofs.lemmas.List.{length-set}
use Rattle.components.specs.declared.bounds.Bounds.{Bounds}
use Rattle.components.specs.declared.groups.Group.{Group}
use Rattle.components.specs.Groups.{AreRooted, DoPointBack, group_at}
use Rattle.components.proofs.Roots.{each_set, next_back, next_root, points_back, roots_kept}
use Rattle.components.proofs.groups.root_of.Goals as goal

pub loop-parent-preserved : goal.loop-parent-preserved
loop-parent-preserved c =
    let items = c.loop-parent.groups.items in
    let at = c.loop-parent.at in
    let next = c.parent_of-next.result in
    let inv = c.loop-parent.invariant in
    let bounds : Bounds = (group_at items at).bounds in
    let new : Group = record { parent = next; bounds = bounds } in
    let is_next : next ≡ (group_at items (group_at items at).parent).parent =
    c.parent_of-next.ensures
    ∙ ap (λ (gs : List Group). (group_at gs c.loop-parent.parent).parent) c.deref-in-loop-parent.ensures.value
    ∙ ap (λ p. (group_at items p).parent) inv.parent in
    let changed : c.point.new.groups.items ≡ set items at new = c.point.ensures in
    let len : length c.point.new.groups.items ≡ length items = ap length changed ∙ length-set items at new in
    record {
      below = omega (arith, next_back items at next bounds inv.below inv.back is_next, inv.below, len);
      parent = c.parent_of-parent-in-loop-parent.ensures ∙ ap (λ (gs : List Group). (group_at gs next).parent) c.deref-in-loop-parent-2.ensures.value;
      back = subst DoPointBack (sym changed) (points_back items at next bounds inv.below inv.back is_next);
      len = len ∙ inv.len;
      bounds = λ g. subst (λ (gs : List Group). (group_at gs g).bounds ≡ (group_at items g).bounds) (sym changed)
          (each_set (λ k r. r.bounds ≡ (group_at items k).bounds) items at new g inv.below refl (λ _. refl))
          ∙ inv.bounds g;
      rooted = λ root was. (
        subst (λ (gs : List Group). AreRooted gs root) (sym changed) (roots_kept items at next bounds inv.below inv.back is_next root (inv.rooted root was).0),
        next_root items at next bounds inv.below inv.back is_next root (inv.rooted root was).0 ∙ (inv.rooted root was).1,
      );
    }

pub returns-clause-rooted : goal.returns-clause-rooted
returns-clause-rooted c = λ root was.
    let inv = c.loop-parent.invariant in
    let now = inv.rooted root was in
    let ends : (group_at c.loop-parent.groups.items c.loop-parent.at).parent ≡ c.loop-parent.at = sym inv.parent ∙ c.loop-parent-test.false in
    (now.0, sym (now.0.itself c.loop-parent.at inv.below ends) ∙ now.1)
