use Rattle.std.proofs.Common.{◌≡◌, ℕ, ◌<◌, ◌≤◌, take, Any, length, get_or, Option, Some, None, List, arith, ◌∙◌, ap, map, sym, subst, Bool, cond, append-nil}
use Rattle.std.proofs.lemmas.List.{map-append, take_all}
use Rattle.std.proofs.lemmas.List.Elements.{All-push}
use Rattle.layout_geom.specs.declared.rect.Rect.{Rect}
use Rattle.box_search.specs.declared.space.Node.{Node}
use Rattle.whitespace_cover.specs.declared.region.Region.{Region}
use Rattle.whitespace_cover.specs.Regions.{IsRectNode, roomy_part, roomy_parts}
use Rattle.whitespace_cover.proofs.Cutting.{cut_smaller, one_more, roomy_is, kept_any}
use Rattle.whitespace_cover.proofs.Mapped.{Any-of_map}
use Rattle.layout_geom.specs.Rectangles.{Encloses}
use Rattle.whitespace_cover.proofs.region.parts.Goals as goal
use Rattle.whitespace_cover.proofs.region.parts.Goals.{in-Some+then-is_roomy+in_ok-push, in-Some+else-is_roomy, in_default}

pub loop-part-preserved : goal.loop-part-preserved
loop-part-preserved c =
    let rect_of : Node Region → Rect = λ node. node.work.rect in
    let part : Option Rect = get_or c.cut4.result c.loop-part.part-index c.part-item.result in
    let within : c.loop-part.part-index < length c.cut4.result = omega (arith, (cut_smaller c.args.rect.now c.args.pivot.now c.requires c.cut4.result c.cut4.ensures.cut).four, c.loop-part-test.true) in
    elim c.match-part.branch [
      | in-Some+then-is_roomy+in_ok-push w ↦
          let kept : roomy_part c.args.least part ≡ Some w.in-Some.inner =
          roomy_is c.args.least part w.in-Some.inner w.is_roomy.result w.in-Some.is w.is_roomy.ensures.value ∙ ap (λ (b : Bool). cond b (Some w.in-Some.inner) None) w.if-is_roomy.true in
          record {
            rects = rw (w.nodes-is, w.in_ok-push.ensures.items, map-append rect_of, w.node_of.ensures.rect)
                (one_more c.args.least c.cut4.result c.loop-part.part-index c.part-item.result (Some w.in-Some.inner) _ within kept c.loop-part.invariant.rects);
            nodes = rw (w.nodes-is, w.in_ok-push.ensures.items)
                (All-push IsRectNode c.loop-part.nodes.items w.node_of.result c.loop-part.invariant.nodes w.node_of.ensures.outline);
            masks = rw (w.nodes-is, w.in_ok-push.ensures.items)
                (All-push (λ (node : Node Region). node.work.mask ≡ c.args.mask) c.loop-part.nodes.items w.node_of.result c.loop-part.invariant.masks w.node_of.ensures.mask);
          }
      | in-Some+else-is_roomy w ↦
          let left : roomy_part c.args.least part ≡ None =
          roomy_is c.args.least part w.in-Some.inner w.is_roomy.result w.in-Some.is w.is_roomy.ensures.value ∙ ap (λ (b : Bool). cond b (Some w.in-Some.inner) None) w.if-is_roomy.false in
          record {
            rects = rw (w.nodes-is, ← append-nil (map rect_of c.loop-part.nodes.items))
                (one_more c.args.least c.cut4.result c.loop-part.part-index c.part-item.result None _ within left c.loop-part.invariant.rects);
            nodes = rw w.nodes-is c.loop-part.invariant.nodes;
            masks = rw w.nodes-is c.loop-part.invariant.masks;
          }
      | in_default w ↦
          let left : roomy_part c.args.least part ≡ None = ap (roomy_part c.args.least) w.in_default.is in
          record {
            rects = rw (w.nodes-is, ← append-nil (map rect_of c.loop-part.nodes.items))
                (one_more c.args.least c.cut4.result c.loop-part.part-index c.part-item.result None _ within left c.loop-part.invariant.rects);
            nodes = rw w.nodes-is c.loop-part.invariant.nodes;
            masks = rw w.nodes-is c.loop-part.invariant.masks;
          }
    ]

-- all four parts were visited
all_taken : (least : ℕ) (parts : List (Option Rect)) (i : ℕ) (rects : List Rect) → length parts ≤ i → rects ≡ roomy_parts least (take i parts) → rects ≡ roomy_parts least parts
all_taken least parts i rects all is = is ∙ ap (roomy_parts least) (take_all i parts all)

pub returns-clause-rects : goal.returns-clause-rects
returns-clause-rects c =
    let four = (cut_smaller c.args.rect.now c.args.pivot.now c.requires c.cut4.result c.cut4.ensures.cut).four in
    (c.cut4.result, c.cut4.ensures.cut, all_taken c.args.least c.cut4.result c.loop-part.part-index _ (omega (arith, four, c.loop-part-test.false)) c.loop-part.invariant.rects)

pub returns-clause-covering : goal.returns-clause-covering
returns-clause-covering c = λ inner inside apart roomy.
    let rect_of : Node Region → Rect = λ node. node.work.rect in
    let P : Rect → Type 0 = λ q. Encloses q inner in
    let four = (cut_smaller c.args.rect.now c.args.pivot.now c.requires c.cut4.result c.cut4.ensures.cut).four in
    let rects = all_taken c.args.least c.cut4.result c.loop-part.part-index _ (omega (arith, four, c.loop-part-test.false)) c.loop-part.invariant.rects in
    Any-of_map rect_of P c.loop-part.nodes.items
    (subst (λ (rs : List Rect). Any P rs) (sym rects) (kept_any c.args.least inner roomy c.cut4.result (c.cut4.ensures.covering inner inside apart)))
