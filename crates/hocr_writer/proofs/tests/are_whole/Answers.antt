use Rattle.std.proofs.Common.{◌≡◌, ◌∙◌, ◌<◌, List, length, get_or, take, Some, Option, false, refl, sym, ap, subst, arith, ⊎_elim}
use Rattle.std.specs.Prelude.{All}
use Rattle.std.proofs.lemmas.Bool.{false≢true, cases_lt}
use Rattle.std.proofs.lemmas.List.{take_all}
use Rattle.std.proofs.lemmas.List.Elements.{All-more}
use Rattle.std.proofs.lemmas.Option.{slice_get_read, slice_get_within}
use Rattle.std.specs.List.{slice_get}
use Rattle.hocr_writer.specs.declared.layout.Layout.{Layout}
use Rattle.hocr_writer.specs.Listing.{IsWholeLayout}
use Rattle.hocr_writer.proofs.tests.are_whole.Goals as goal

one_there : (l m : Layout) → (let o : Option Layout = Some l in o) ≡ Some m → l ≡ m
one_there l m e = cc

pub loop-place-preserved : goal.loop-place-preserved
loop-place-preserved c =
    let layouts = c.args.layouts.now in
    let place = c.loop-place.place in
    let layout = c.layout-item.result in
    let same = c.as_slice-layout-items.ensures.same in
    let long = ap (λ (l : List Layout). length l) same in
    let below : place < length layouts = omega (arith, long, c.loop-place-test.true) in
    let at : layout ≡ get_or layouts place layout = rw same at c.layout-item.is in
    let whole : IsWholeLayout layout = (c.is_whole.ensures).0 c.if-not-is_whole.false in
    let here : slice_get layouts place ≡ Some layout = slice_get_read layouts (length layouts) place layout refl below at in
    record {
      bare = All-more (λ (l : Layout). l.with_words ≡ false) layouts place layout below c.loop-place.invariant.bare (subst (λ (l : Layout). l.with_words ≡ false) at c.if-layout.false);
      whole = All-more IsWholeLayout layouts place layout below c.loop-place.invariant.whole (subst IsWholeLayout at whole);
      numbered = λ k other more there.
          ⊎_elim
          (λ less. c.loop-place.invariant.numbered k other less there)
          (λ over.
          let is : k ≡ place = omega (arith, over, more) in
          let found : slice_get layouts place ≡ Some other = subst (λ n. slice_get layouts n ≡ Some other) is there in
          let one : layout ≡ other = one_there layout other (sym here ∙ found) in
          let P : Layout → Type 0 = λ l. l.page ≡ k in
          subst P one (omega (arith, is, c.if-layout-place.false)))
          (cases_lt k place);
    }

pub returns : goal.returns
returns c =
    let layouts = c.args.layouts.now in
    let long = ap (λ (l : List Layout). length l) c.as_slice-layout-items.ensures.same in
    let all : take c.loop-place.place layouts ≡ layouts = take_all c.loop-place.place layouts (omega (arith, long, c.loop-place-test.false)) in
    λ yes.
    record {
      with_words = false;
      alike = subst (λ (l : List Layout). All (λ layout. layout.with_words ≡ false) l) all c.loop-place.invariant.bare;
      some = λ none. absurd (false≢true (sym c.if-is_empty.false ∙ (c.is_empty.ensures.empty).1 none));
      whole = subst (λ (l : List Layout). All IsWholeLayout l) all c.loop-place.invariant.whole;
      numbered = λ place layout at.
          c.loop-place.invariant.numbered place layout (omega (arith, long, c.loop-place-test.false, slice_get_within layouts place layout at)) at;
    }
