use Rattle.std.proofs.Common.{◌*◌, arith, refl, sym, ◌∙◌}
use Rattle.std.proofs.lemmas.Bool.{false≢true}
use Rattle.layout_geom.specs.Rectangles.{Encloses}
use Rattle.layout_geom.specs.PixelLaws.{hull_small}
use Rattle.reading_order.proofs.Rounds.{round_one, round_more, area_done, not_on, on_more, page_encloses}
use Rattle.reading_order.proofs.areas.area_at.Goals as goal

pub loop-position-init : goal.loop-position-init
loop-position-init c =
    (round_one c.args.lines.now c.args.listing.now c.args.first c.listed_line.result.now c.listed_line.ensures, λ k low high d. absurd (omega (arith, low, high)))

pub loop-position-preserved : goal.loop-position-preserved
loop-position-preserved c =
    let lines = c.args.lines.now in
    let listing = c.args.listing.now in
    let position = c.loop-position.position in
    let line = c.listed_line-line.result.now in
    let next = c.listed_line-next.result.now in
    let inv = c.loop-position.invariant in (
      round_more lines listing c.args.first position c.loop-position.bbox next c.hull-bbox.result (omega arith) inv.0 c.listed_line-next.ensures c.hull-bbox.ensures.sides,
      on_more lines listing c.args.first (2 * c.args.median) position line next (omega arith) c.listed_line-line.ensures c.listed_line-next.ensures (c.goes_on.ensures.0 c.if-not-goes_on.false) inv.1,
    )

pub hull-bbox-requires : goal.hull-bbox-requires
hull-bbox-requires c =
    let lines = c.args.lines.now in
    let listing = c.args.listing.now in
    let page = c.requires.contained.0 in
    let next = c.listed_line-next.result.now in
    let in_page = page_encloses lines listing page c.requires.contained.1 c.requires.low in
    let first : Encloses page c.loop-position.bbox = c.loop-position.invariant.0.least page (λ k d low high. in_page k d (omega (arith, high, c.len-count.ensures.value))) in
    let second : Encloses page next = rw (c.listed_line-next.ensures next) (in_page c.loop-position.position next (omega (arith, c.len-count.ensures.value))) in
    hull_small page c.loop-position.bbox next first second

pub returns-then-not-goes_on : goal.returns-then-not-goes_on
returns-then-not-goes_on c =
    let lines = c.args.lines.now in
    let listing = c.args.listing.now in
    let position = c.loop-position.position in
    let line = c.listed_line-line.result.now in
    let next = c.listed_line-next.result.now in
    let inv = c.loop-position.invariant in
    let reach = 2 * c.args.median in
    area_done lines listing c.args.first reach position _ refl refl (omega arith) (omega (arith, c.len-count.ensures.value)) inv.0 inv.1
    (λ more. not_on lines listing c.args.first reach position line next (omega arith) c.listed_line-line.ensures c.listed_line-next.ensures (λ h. false≢true (sym c.if-not-goes_on.true ∙ c.goes_on.ensures.1 h)))

pub returns : goal.returns
returns c =
    let inv = c.loop-position.invariant in
    area_done c.args.lines.now c.args.listing.now c.args.first (2 * c.args.median) c.loop-position.position _ refl (omega (arith, c.len-count.ensures.value)) (omega arith) (omega (arith, c.len-count.ensures.value)) inv.0 inv.1
    (λ more. absurd (omega (arith, more, c.len-count.ensures.value)))
