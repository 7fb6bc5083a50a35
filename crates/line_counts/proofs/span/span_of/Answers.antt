use Rattle.std.proofs.Common.{◌<◌, ℕ, List, length, get_or, to_z, of_z, w8, arith, subst, refl}
use Rattle.std.proofs.lemmas.List.{take_all}
use Rattle.std.proofs.lemmas.List.Elements.{All-get_or}
use Rattle.std.proofs.lemmas.Option.{slice_get_read}
use Rattle.layout_geom.specs.declared.rect.Rect.{Rect}
use Rattle.line_counts.specs.declared.span.Span.{Span}
use Rattle.line_counts.specs.Blocks.{AreBetween}
use Rattle.line_counts.proofs.Spans.{span_more}
use Rattle.line_counts.proofs.span.span_of.Goals as goal

pub loop-member-preserved : goal.loop-member-preserved
loop-member-preserved c =
    let boxes : List Rect = c.args.boxes.now in
    let members : List ℕ = c.args.members.now in
    let i = c.loop-member.member-index in
    let span : Span = c.loop-member.span in
    let more : Span = record { slope = to_z w8 (of_z w8 c.args.slope); first = c.min.result; last = c.max.result } in
    let within : get_or members i 0 < length boxes = All-get_or (λ (p : ℕ). p < length boxes) members i 0 c.loop-member-test.true c.requires.within in
    record {
      slope = refl;
      between = span_more boxes members i span more c.get.result.now c.place-place.result c.loop-member-test.true c.loop-member.invariant.slope (omega (arith, c.min.ensures)) (omega (arith, c.max.ensures))
          (slice_get_read boxes (length boxes) (get_or members i 0) c.get.result.now refl within c.get.ensures.item)
          c.place-place.ensures.value (omega (arith, c.min.ensures)) (omega (arith, c.max.ensures)) c.loop-member.invariant.between;
    }

pub returns-clause-between : goal.returns-clause-between
returns-clause-between c =
    subst (λ (xs : List ℕ). AreBetween c.args.boxes.now c.loop-member.span xs) (take_all c.loop-member.member-index c.args.members.now c.loop-member-test.false) c.loop-member.invariant.between
