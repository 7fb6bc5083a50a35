use Rattle.std.proofs.Common.{rules, ◌≡◌, ℕ, ◌-◌, ◌<◌, ◌≤◌, List, length, IsTrue, Contains, arith, sym, ◌∙◌, ap, subst, w64, ◌^◌}
use Rattle.std.specs.Prelude.{not}
use Rattle.std.specs.Int.{trailing_zeros}
use Rattle.std.proofs.lemmas.List.{get_or_default}
use Rattle.layout_geom.specs.declared.rect.Rect.{Rect}
use Rattle.layout_geom.specs.Rectangles.{Overlaps}
use Rattle.whitespace_cover.specs.Masks.{from_end, IsMask, IsClearOfLast}
use Rattle.whitespace_cover.proofs.Choosing.{left_then, none_left, some_left, still_some}
use Rattle.whitespace_cover.proofs.Masking.{without, mask_without, lowest_set, less_without, clear_of_last}
use Rattle.whitespace_cover.proofs.pivot.best_masked.Goals as goal

pub loop-rest-init : goal.loop-rest-init
loop-rest-init c = record { best = c.requires.mask; mask = c.requires.mask }

-- each turn takes out the lowest bit
lower : (rest reach : ℕ) → rest < 2 ^ 64 → reach ≤ 64 → trailing_zeros w64 rest < reach → without rest (trailing_zeros w64 rest) < rest
lower rest reach small few some =
    let bit : trailing_zeros w64 rest < 64 = omega (arith, few, some) in
    less_without rest (trailing_zeros w64 rest) bit (lowest_set rest small bit)

pub loop-rest-smaller-then-overlaps : goal.loop-rest-smaller-then-overlaps
loop-rest-smaller-then-overlaps c = lower c.loop-rest.rest c.args.reach (search rules) c.requires.few c.loop-rest-test.true

pub loop-rest-smaller-then-overlaps-2 : goal.loop-rest-smaller-then-overlaps-2
loop-rest-smaller-then-overlaps-2 c = lower c.loop-rest.rest c.args.reach (search rules) c.requires.few c.loop-rest-test.true

pub loop-rest-smaller : goal.loop-rest-smaller
loop-rest-smaller c = lower c.loop-rest.rest c.args.reach (search rules) c.requires.few c.loop-rest-test.true

pub loop-rest-preserved-then-overlaps : goal.loop-rest-preserved-then-overlaps
loop-rest-preserved-then-overlaps c =
    let place : ℕ = length c.args.obstacles.now - 1 - trailing_zeros w64 c.loop-rest.rest in
    record {
      best = (
        (place, omega (arith, c.requires.reach, c.loop-rest-test.true), sym c.index-obstacles-obstacles.is),
        c.overlaps.ensures.sides.0 c.if-overlaps.true,
      );
      mask = c.loop-rest.invariant.mask;
    }

pub loop-rest-preserved-then-overlaps-2 : goal.loop-rest-preserved-then-overlaps-2
loop-rest-preserved-then-overlaps-2 c =
    let obstacles : List Rect = c.args.obstacles.now in
    let r : Rect = c.args.region.now.rect in
    record {
      best = still_some (IsMask obstacles r c.loop-rest.rest) (IsMask obstacles r (without c.loop-rest.rest (trailing_zeros w64 c.loop-rest.rest)))
          (λ pivot. Contains obstacles pivot × Overlaps r pivot) c.loop-rest.pivot
          (c.is_none.ensures ∙ ap not c.if-is_none.false) c.loop-rest.invariant.best;
      mask = c.loop-rest.invariant.mask;
    }

pub loop-rest-preserved : goal.loop-rest-preserved
loop-rest-preserved c =
    let obstacles : List Rect = c.args.obstacles.now in
    let r : Rect = c.args.region.now.rect in
    let bit : ℕ = trailing_zeros w64 c.loop-rest.rest in
    let small : bit < 64 = omega (arith, c.requires.few, c.loop-rest-test.true) in
    let within : length obstacles - 1 - bit < length obstacles = omega (arith, c.requires.reach, c.loop-rest-test.true) in
    let apart : (d : Rect) → Overlaps r (from_end obstacles bit d) → ⊥ = λ d meets.
    let at : from_end obstacles bit d ≡ c.index-obstacles-obstacles.result =
    get_or_default obstacles (length obstacles - 1 - bit) d c.index-obstacles-obstacles.result within ∙ sym c.index-obstacles-obstacles.is in
    let told : IsTrue c.overlaps.result = c.overlaps.ensures.sides.1 (subst (λ (o : Rect). Overlaps r o) at meets) in
    cc in
    record {
      best = left_then (IsMask obstacles r c.loop-rest.rest) (IsMask obstacles r (without c.loop-rest.rest bit))
          (λ pivot. Contains obstacles pivot × Overlaps r pivot)
          (mask_without obstacles r c.loop-rest.rest bit small apart) c.loop-rest.pivot c.loop-rest.invariant.best;
      mask = mask_without obstacles r c.loop-rest.mask bit small apart c.loop-rest.invariant.mask;
    }

pub returns-clause-some : goal.returns-clause-some
returns-clause-some c =
    some_left (IsMask c.args.obstacles.now c.args.region.now.rect c.loop-rest.rest) (λ pivot. Contains c.args.obstacles.now pivot × Overlaps c.args.region.now.rect pivot)
    c.loop-rest.pivot c.loop-rest.invariant.best

pub returns-clause-none : goal.returns-clause-none
returns-clause-none c =
    let obstacles : List Rect = c.args.obstacles.now in
    let r : Rect = c.args.region.now.rect in
    none_left (IsMask obstacles r c.loop-rest.rest) (IsClearOfLast c.args.reach r obstacles) (λ pivot. Contains obstacles pivot × Overlaps r pivot)
    (clear_of_last obstacles r c.loop-rest.rest c.args.reach (search rules) c.requires.reach c.requires.few (omega (arith, c.loop-rest-test.false)))
    c.loop-rest.pivot c.loop-rest.invariant.best

pub returns-clause-mask : goal.returns-clause-mask
returns-clause-mask c = c.loop-rest.invariant.mask
