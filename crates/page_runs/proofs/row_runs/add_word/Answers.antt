use Rattle.std.proofs.Common.{◌≡◌, ◌≤◌, ◌+◌, ◌*◌, Some, None, sym, ◌∙◌, arith}
use Rattle.page_runs.specs.Runs.{AreAll}
use Rattle.page_runs.proofs.Walking.{word_shows, pixel_shown, walk_enters, walk_leaves, walk_through, one_more, enters_less, leaves_less, ends_less}
use Rattle.page_runs.proofs.row_runs.add_word.Goals as goal

pub loop-place-smaller-then-place-lt-WORD_PIXELS :
    goal.loop-place-smaller-then-place-lt-WORD_PIXELS
loop-place-smaller-then-place-lt-WORD_PIXELS c =
    let first = c.first_in_word-place.ensures in
    enters_less _ 0 c.word_at-word.result c.loop-place.place c.first_in_word-place.result c.in-None.is first.not_before c.if-place-lt-WORD_PIXELS.true
    (first.found c.if-place-lt-WORD_PIXELS.true)

pub loop-place-preserved-then-place-lt-WORD_PIXELS :
    goal.loop-place-preserved-then-place-lt-WORD_PIXELS
loop-place-preserved-then-place-lt-WORD_PIXELS c =
    let first = c.first_in_word-place.ensures in
    let up = rw c.in-None.is at c.loop-place.invariant.up_to in
    let whites : AreAll 0 c.args.bits.now (c.args.byte * 8 + c.loop-place.place) (c.args.byte * 8 + c.first_in_word-place.result) =
    word_shows 0 _ c.word_at-word.result (c.args.byte * 8) c.loop-place.place c.first_in_word-place.result c.word_at-word.ensures first.other first.within in
    record {
      within = first.within;
      up_to = record { few = omega (arith, up.few, first.not_before); before = omega arith };
      walked = λ old width begins.
          walk_enters _ width (c.args.byte * 8 + c.loop-place.place) (c.args.byte * 8 + c.first_in_word-place.result) old _ _
          (rw c.in-None.is at c.loop-place.invariant.walked old width begins) (omega (arith, first.not_before)) whites
          (pixel_shown _ _ (c.args.byte * 8) c.first_in_word-place.result 1 c.word_at-word.ensures c.if-place-lt-WORD_PIXELS.true (first.found c.if-place-lt-WORD_PIXELS.true));
      more = c.loop-place.invariant.more;
    }

pub loop-place-smaller-else-place-lt-WORD_PIXELS :
    goal.loop-place-smaller-else-place-lt-WORD_PIXELS
loop-place-smaller-else-place-lt-WORD_PIXELS c =
    ends_less _ c.word_at-word.result c.loop-place.place c.first_in_word-place.result c.loop-place-test.true (omega (arith, c.if-place-lt-WORD_PIXELS.false))

pub loop-place-preserved-else-place-lt-WORD_PIXELS :
    goal.loop-place-preserved-else-place-lt-WORD_PIXELS
loop-place-preserved-else-place-lt-WORD_PIXELS c =
    let first = c.first_in_word-place.ensures in
    let up = rw c.in-None.is at c.loop-place.invariant.up_to in
    let on : c.args.byte * 8 + c.loop-place.place ≤ c.args.byte * 8 + c.first_in_word-place.result = omega (arith, first.not_before) in
    record {
      within = first.within;
      up_to = rw c.in-None.is (record { few = omega (arith, up.few, first.not_before); before = omega arith });
      walked = λ old width begins.
          walk_through _ width (c.args.byte * 8 + c.loop-place.place) (c.args.byte * 8 + c.first_in_word-place.result) old _ _ _
          (c.loop-place.invariant.walked old width begins) on
          (λ none. word_shows 0 _ c.word_at-word.result (c.args.byte * 8) c.loop-place.place c.first_in_word-place.result c.word_at-word.ensures first.other first.within)
          (λ start is. let e : None ≡ Some start = sym c.in-None.is ∙ is in absurd cc);
      more = c.loop-place.invariant.more;
    }

pub loop-place-smaller-then-place-lt-WORD_PIXELS-2 :
    goal.loop-place-smaller-then-place-lt-WORD_PIXELS-2
loop-place-smaller-then-place-lt-WORD_PIXELS-2 c =
    let first = c.first_in_word-place-in-Some.ensures in
    leaves_less _ c.in-Some.start c.word_at-word.result c.loop-place.place c.first_in_word-place-in-Some.result c.in-Some.is first.not_before c.if-place-lt-WORD_PIXELS-2.true
    (first.found c.if-place-lt-WORD_PIXELS-2.true)

pub loop-place-preserved-then-place-lt-WORD_PIXELS-2 :
    goal.loop-place-preserved-then-place-lt-WORD_PIXELS-2
loop-place-preserved-then-place-lt-WORD_PIXELS-2 c =
    let first = c.first_in_word-place-in-Some.ensures in
    let up = rw c.in-Some.is at c.loop-place.invariant.up_to in
    let blacks : AreAll 1 c.args.bits.now (c.args.byte * 8 + c.loop-place.place) (c.args.byte * 8 + c.first_in_word-place-in-Some.result) =
    word_shows 1 _ c.word_at-word.result (c.args.byte * 8) c.loop-place.place c.first_in_word-place-in-Some.result c.word_at-word.ensures first.other first.within in
    record {
      within = first.within;
      up_to = record { few = omega (arith, up.few, up.before, first.not_before, c.from.ensures); before = omega arith };
      walked = λ old width begins.
          rw (c.in_ok-push-in-Some.ensures.items, c.from.ensures)
          (walk_leaves _ width (c.args.byte * 8 + c.loop-place.place) (c.args.byte * 8 + c.first_in_word-place-in-Some.result) old _ c.in-Some.start _
          (rw c.in-Some.is at c.loop-place.invariant.walked old width begins) up.before (omega (arith, first.not_before)) blacks
          (pixel_shown _ _ (c.args.byte * 8) c.first_in_word-place-in-Some.result 0 c.word_at-word.ensures c.if-place-lt-WORD_PIXELS-2.true (first.found c.if-place-lt-WORD_PIXELS-2.true)));
      more = one_more _ _ _ _ c.loop-place.invariant.more c.in_ok-push-in-Some.ensures.items;
    }

pub loop-place-smaller : goal.loop-place-smaller
loop-place-smaller c =
    ends_less _ c.word_at-word.result c.loop-place.place c.first_in_word-place-in-Some.result c.loop-place-test.true (omega (arith, c.if-place-lt-WORD_PIXELS-2.false))

pub loop-place-preserved : goal.loop-place-preserved
loop-place-preserved c =
    let first = c.first_in_word-place-in-Some.ensures in
    let up = rw c.in-Some.is at c.loop-place.invariant.up_to in
    let on : c.args.byte * 8 + c.loop-place.place ≤ c.args.byte * 8 + c.first_in_word-place-in-Some.result = omega (arith, first.not_before) in
    record {
      within = first.within;
      up_to = rw c.in-Some.is (record { few = up.few; before = omega (arith, up.before, on) });
      walked = λ old width begins.
          walk_through _ width (c.args.byte * 8 + c.loop-place.place) (c.args.byte * 8 + c.first_in_word-place-in-Some.result) old _ _ _
          (c.loop-place.invariant.walked old width begins) on
          (λ none. let e : Some c.in-Some.start ≡ None = sym c.in-Some.is ∙ none in absurd cc)
          (λ start is. word_shows 1 _ c.word_at-word.result (c.args.byte * 8) c.loop-place.place c.first_in_word-place-in-Some.result c.word_at-word.ensures first.other first.within);
      more = c.loop-place.invariant.more;
    }

pub returns-clause-walked : goal.returns-clause-walked
returns-clause-walked c =
    let e : c.loop-place.place ≡ 64 = omega (arith, c.loop-place-test.false, c.loop-place.invariant.within) in
    λ old width begins. rw e at c.loop-place.invariant.walked old width begins
