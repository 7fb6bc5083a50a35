use Rattle.std.proofs.Common.{arith, ◌≡◌, ◌<◌, refl, ℕ, length, get_or, slice_get, Some, subst, List}
use Rattle.std.proofs.lemmas.List.{take_all}
use Rattle.std.proofs.lemmas.List.Elements.{All-get_or}
use Rattle.std.proofs.lemmas.Option.{slice_get_read}
use Rattle.layout_geom.specs.PixelLaws.{hull_small}
use Rattle.line_search.specs.Lines.{IsRound}
use Rattle.line_search.proofs.Rounding.{round_more, least_more, round_all, box_in}
use Rattle.line_search.proofs.members.least_round.Goals as goal

pub hull-round-requires : goal.hull-round-requires
hull-round-requires c =
    let outer = c.requires.contained.0 in
    let i = c.loop-position.position-index in
    let position = get_or c.args.positions.now i 0 in
    let there : position < length c.args.boxes.now = All-get_or (λ (p : ℕ). p < length c.args.boxes.now) c.args.positions.now i 0 c.loop-position-test.true c.requires.within in
    let read : slice_get c.args.boxes.now position ≡ Some c.index-boxes-position.result = slice_get_read c.args.boxes.now (length c.args.boxes.now) position c.index-boxes-position.result refl there c.index-boxes-position.is in
    let all = round_all c.args.boxes.now c.args.positions.now outer c.requires.contained.1 in
    hull_small outer c.loop-position.round c.index-boxes-position.result (c.loop-position.invariant.least outer all) (box_in c.args.boxes.now c.args.positions.now i c.index-boxes-position.result outer c.loop-position-test.true read all)

pub loop-position-preserved : goal.loop-position-preserved
loop-position-preserved c =
    let i = c.loop-position.position-index in
    let position = get_or c.args.positions.now i 0 in
    let there : position < length c.args.boxes.now = All-get_or (λ (p : ℕ). p < length c.args.boxes.now) c.args.positions.now i 0 c.loop-position-test.true c.requires.within in
    let read : slice_get c.args.boxes.now position ≡ Some c.index-boxes-position.result = slice_get_read c.args.boxes.now (length c.args.boxes.now) position c.index-boxes-position.result refl there c.index-boxes-position.is in
    record {
      round = round_more c.args.boxes.now c.args.positions.now i c.loop-position.round c.hull-round.result c.index-boxes-position.result c.loop-position-test.true read c.hull-round.ensures.sides c.loop-position.invariant.round;
      least = least_more c.args.boxes.now c.args.positions.now i c.loop-position.round c.hull-round.result c.index-boxes-position.result c.loop-position-test.true read c.hull-round.ensures.sides c.loop-position.invariant.least;
    }

pub returns : goal.returns
returns c = record {
  round = subst (λ (xs : List ℕ). IsRound c.args.boxes.now xs c.loop-position.round) (take_all c.loop-position.position-index c.args.positions.now (omega arith)) c.loop-position.invariant.round;
  least = c.loop-position.invariant.least;
}
