use Rattle.std.proofs.Common.{◌++◌, arith, refl, sym, ap, ◌∙◌}
use Rattle.std.proofs.lemmas.Option.{slice_get_read}
use Rattle.hocr_writer.specs.Listing.{listing_of}
use Rattle.hocr_writer.specs.Lines.{line_text, words_in}
use Rattle.hocr_writer.specs.Document.{placed_line, lines_in}
use Rattle.hocr_writer.proofs.Growing.{piece_more, piece_all}
use Rattle.hocr_writer.proofs.Wholes.{stretch_long, stretch_at}
use Rattle.hocr_writer.proofs.areas.put_lines.Goals as goal

pub loop-place-preserved : goal.loop-place-preserved
loop-place-preserved c =
    let layout = c.args.layout.now in
    let area = c.args.area.now in
    let number = c.number_at-number.result in
    let long = stretch_long (listing_of layout) area.first area.count c.requires.within in
    let shown = ap (line_text layout.page number (words_in layout number)) (slice_get_read layout.lines _ number c.get-mark.result.now refl c.number_at-number.ensures.is_line c.get-mark.ensures.item) in
    piece_more (placed_line layout) _ _ _ (lines_in layout area) c.loop-place.place number (omega (arith, long))
    (stretch_at (listing_of layout) area.first area.count c.loop-place.place number (omega arith) c.requires.within c.number_at-number.ensures.line)
    c.loop-place.invariant
    (rw c.words_at.ensures.words at c.in_ok-put_mark.ensures.grown ∙ ap (λ piece. c.loop-place.text ++ piece) (sym shown))

pub returns : goal.returns
returns c =
    let layout = c.args.layout.now in
    let area = c.args.area.now in
    record {
      grown = piece_all (placed_line layout) _ _ (lines_in layout area) _ (omega (arith, stretch_long (listing_of layout) area.first area.count c.requires.within)) c.loop-place.invariant;
    }
