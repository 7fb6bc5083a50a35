use Rattle.std.proofs.Common.{ℕ, ◌+◌, ◌<◌, get_or, length, arith, refl, sym, ◌∙◌}
use Rattle.std.proofs.lemmas.Bool.{false≢true}
use Rattle.layout_geom.specs.Rectangles.{Encloses}
use Rattle.layout_geom.specs.PixelLaws.{hull_small}
use Rattle.word_split.specs.Partings.{IsAbove}
use Rattle.word_split.proofs.Rounds.{round_one, round_more, whole_more, word_done}
use Rattle.word_split.proofs.words.word_at.Goals as goal

pub loop-place-init : goal.loop-place-init
loop-place-init c = record {
  round = round_one c.args.line.now c.args.first c.index-line-first.result c.requires.first c.index-line-first.is;
  whole = λ k from to. absurd (omega (arith, from, to));
}

pub loop-place-preserved : goal.loop-place-preserved
loop-place-preserved c =
    let line = c.args.line.now in
    let place = c.loop-place.place in
    let Breaks : ℕ → Type 0 = λ k. IsAbove c.args.threshold (get_or c.args.gaps.now k 0) in
    let low : place + 1 < length line = omega (arith, c.loop-place-test.true, c.requires.count) in
    record {
      round = round_more line c.args.first (place + 1) c.loop-place.bbox c.index-line-place.result c.hull-bbox.result (omega arith) low c.index-line-place.is
          c.hull-bbox.ensures.first c.hull-bbox.ensures.second c.hull-bbox.ensures.least c.loop-place.invariant.round;
      whole = whole_more line Breaks c.args.first place c.loop-place.invariant.whole (λ breaks. false≢true (sym c.if-is_break.false ∙ c.is_break.ensures.1 breaks));
    }

pub hull-bbox-requires : goal.hull-bbox-requires
hull-bbox-requires c =
    let line = c.args.line.now in
    let outer = c.requires.contained.0 in
    let next = c.index-line-place.result in
    let low : c.loop-place.place + 1 < length line = omega (arith, c.loop-place-test.true, c.requires.count) in
    let first : Encloses outer c.loop-place.bbox = c.loop-place.invariant.round.least outer (λ k d from to. c.requires.contained.1 k d (omega (arith, to, low))) in
    let second : Encloses outer next = rw c.index-line-place.is (c.requires.contained.1 (c.loop-place.place + 1) next low) in
    hull_small outer c.loop-place.bbox next first second

pub returns-then-is_break : goal.returns-then-is_break
returns-then-is_break c =
    let Breaks : ℕ → Type 0 = λ k. IsAbove c.args.threshold (get_or c.args.gaps.now k 0) in
    word_done c.args.line.now Breaks c.args.first c.loop-place.place _ c.loop-place.bbox refl (omega arith) (omega (arith, c.loop-place-test.true, c.requires.count))
    c.loop-place.invariant.round c.loop-place.invariant.whole (λ more. c.is_break.ensures.0 c.if-is_break.true)

pub returns : goal.returns
returns c =
    let Breaks : ℕ → Type 0 = λ k. IsAbove c.args.threshold (get_or c.args.gaps.now k 0) in
    word_done c.args.line.now Breaks c.args.first c.loop-place.place _ c.loop-place.bbox (omega (arith, c.loop-place-test.false, c.requires.count)) (omega arith) (omega arith)
    c.loop-place.invariant.round c.loop-place.invariant.whole (λ more. absurd (omega (arith, more)))
