-- The lines of a page have members, and their words are one list of rows.
use Rattle.std.proofs.Common.{◌≡◌, ◌∙◌, ℕ, ◌+◌, ◌<◌, ◌≤◌, Bool, true, false, List, [], ◌∷◌, ◌++◌, length, take, get_or, slice_get, refl, sym, ap, ap₂, subst, arith}
use Rattle.std.specs.Prelude.{All}
use Rattle.std.specs.List.{AllZip, range_with_len, sum_by}
use Rattle.std.proofs.lemmas.List.{take_more}
use Rattle.std.proofs.lemmas.List.Elements.{All-nil, All-cons, All-filter}
use Rattle.std.proofs.lemmas.List.FromFn.{get_or-range_with_len, length-range_with_len}
use Rattle.std.proofs.lemmas.List.Sorted.{All-permutation, IsPermutation-refl}
use Rattle.std.proofs.lemmas.Slice.Zip.{AllZip-long}
use Rattle.layout_geom.specs.declared.rect.Rect.{Rect}
use Rattle.layout_geom.specs.Rectangles.{Encloses}
use Rattle.components.specs.declared.kept.Kept.{Kept}
use Rattle.line_quality.specs.Scores.{weight_of}
use Rattle.line_search.specs.declared.line.Line.{Line}
use Rattle.line_search.specs.Lines.{AreLinesOf, IsBestLine, IsLineList, characters_of, without}
use Rattle.word_split.specs.Words.{AreWordsOf, WordsAreUnique}
use Rattle.hocr_writer.specs.Listing.{HasWords}
use Rattle.layout_core.specs.Numbering.{AreInOrder}
use Rattle.layout_core.specs.WordRows.{AreShownWords, AreWordsOfLines, HasMembers}
use Rattle.layout_core.proofs.Inside.{filter_few, round_all}

-- ---- members

no_items : {X : Type 0} (xs : List X) → (xs ≡ [] → ⊥) → 0 < length xs
no_items [] some = absurd (some refl)
no_items (x ∷ xs) some = omega arith

module _ (boxes gutters : List Rect) (height median : ℕ) (whole : Rect) (all : All (Encloses whole) boxes) (few : length boxes ≤ 60000) where
  -- positions of boxes, and no more than there are boxes
  record ArePositions (alive : List ℕ) : Type 0 where
    within : All (λ position. position < length boxes) alive
    fewer : length alive ≤ length boxes

  line_members : (alive : List ℕ) (line : Line) → ArePositions alive → IsBestLine boxes gutters height median alive line → HasMembers boxes line
  line_members alive line are best =
      let scored = best.admissible.scored in
      let weight : List ℕ → ℕ = λ group. sum_by (λ position. weight_of line.slope line.offset line.depth (slice_get boxes position)) group in
      let fits : length line.members ≤ length alive = rw best.members (filter_few _ alive) in
      record {
        some = no_items line.members
            (λ none.
            let score : weight line.members ≡ line.score = ap weight best.members ∙ scored.scored.reached in
            let nothing : weight line.members ≡ 0 = ap weight none in
            omega (arith, best.admissible.enough, score, nothing));
        few = omega (arith, fits, are.fewer, few);
        within = rw best.members (All-filter _ (λ position. position < length boxes) alive are.within);
        contained = (whole, round_all boxes whole line.members all);
      }

  list_members : (alive : List ℕ) (lines : List Line) → ArePositions alive → IsLineList boxes gutters height median alive lines → All (HasMembers boxes) lines
  list_members alive [] are list = All-nil (HasMembers boxes)
  list_members alive (line ∷ lines) are list =
      All-cons (HasMembers boxes) line lines (line_members alive line are list.0)
      (list_members (without line.members alive) lines
      (record {
        within = All-filter _ (λ position. position < length boxes) alive are.within;
        fewer = omega (arith, are.fewer, (let fits : length (without line.members alive) ≤ length alive = filter_few _ alive in fits));
      })
      list.1)

-- the lines of a page, in whatever order, have members
pub ordered_members : (kept : Kept) (gutters : List Rect) (height : ℕ) (whole : Rect) (found lines : List Line) → All (Encloses whole) kept.boxes → length kept.boxes ≤ 60000
    → AreLinesOf kept gutters height found → AreInOrder found lines → All (HasMembers kept.boxes) lines
ordered_members kept gutters height whole found lines all few are order =
    let count = length kept.boxes in
    let below : All (λ position. position < count) (range_with_len 0 count)
    = λ k d inside. omega (arith, inside, length-range_with_len 0 count, get_or-range_with_len 0 count k d (omega (arith, inside, length-range_with_len 0 count))) in
    All-permutation (HasMembers kept.boxes) found lines order.rearranged
    (list_members kept.boxes gutters height kept.median whole all few (characters_of kept) found
    (record {
      within = All-filter _ (λ position. position < count) (range_with_len 0 count) below;
      fewer = omega (arith, length-range_with_len 0 count, (let fits : length (characters_of kept) ≤ length (range_with_len 0 count) = filter_few _ (range_with_len 0 count) in fits));
    })
    are)

-- ---- rows

zip_more : {X Y : Type 0} (R : X → Y → Type 0) (xs : List X) (ys : List Y) (x : X) (y : Y) → AllZip R xs ys → R x y → AllZip R (xs ++ x ∷ []) (ys ++ y ∷ [])
zip_more R [] [] x y zip is = (is, tt)
zip_more R [] (z ∷ ys) x y zip is = absurd zip
zip_more R (w ∷ xs) [] x y zip is = absurd zip
zip_more R (w ∷ xs) (z ∷ ys) x y zip is = (zip.0, zip_more R xs ys x y zip.1 is)

pub one_more_row : (kept : Kept) (lines : List Line) (rows : List (List Rect)) (k : ℕ) (line : Line) (words : List Rect) → k < length lines → line ≡ get_or lines k line
    → AreWordsOfLines kept (take k lines) rows → AreWordsOf kept.boxes line.members kept.median words → AreWordsOfLines kept (take (k + 1) lines) (rows ++ words ∷ [])
one_more_row kept lines rows k line words below is so_far are =
    subst (λ (ls : List Line). AreWordsOfLines kept ls (rows ++ words ∷ [])) (sym (take_more lines k line below ∙ ap (λ l. take k lines ++ l ∷ []) (sym is)))
    (zip_more (λ line words. AreWordsOf kept.boxes line.members kept.median words) (take k lines) rows line words so_far are)

-- a layout has an item of words for each line where it shows them
pub rows_long : (shown : Bool) (kept : Kept) (lines : List Line) (rows : List (List Rect)) → AreShownWords shown kept lines rows → HasWords shown (length lines) rows
rows_long true kept lines rows are = AllZip-long (λ (line : Line) (words : List Rect). AreWordsOf kept.boxes line.members kept.median words) lines rows are
rows_long false kept lines rows are = are

one_list_of_rows : WordsAreUnique → (kept : Kept) (lines : List Line) (xs ys : List (List Rect)) → AreWordsOfLines kept lines xs → AreWordsOfLines kept lines ys → xs ≡ ys
one_list_of_rows unique kept [] [] [] are are_too = refl
one_list_of_rows unique kept [] [] (y ∷ ys) are are_too = absurd are_too
one_list_of_rows unique kept [] (x ∷ xs) ys are are_too = absurd are
one_list_of_rows unique kept (line ∷ lines) [] ys are are_too = absurd are
one_list_of_rows unique kept (line ∷ lines) (x ∷ xs) [] are are_too = absurd are_too
one_list_of_rows unique kept (line ∷ lines) (x ∷ xs) (y ∷ ys) are are_too =
    ap₂ (λ (r : List Rect) (rs : List (List Rect)). r ∷ rs)
    (unique kept.boxes line.members line.members kept.median x y (IsPermutation-refl line.members) are.0 are_too.0)
    (one_list_of_rows unique kept lines xs ys are.1 are_too.1)

one_shown : WordsAreUnique → (shown : Bool) (kept : Kept) (lines : List Line) (xs ys : List (List Rect)) → AreShownWords shown kept lines xs → AreShownWords shown kept lines ys → xs ≡ ys
one_shown unique true kept lines xs ys are are_too = one_list_of_rows unique kept lines xs ys are are_too
one_shown unique false kept lines xs ys are are_too = are ∙ sym are_too

pub same_words : WordsAreUnique → (shown other : Bool) (kept second : Kept) (lines others : List Line) (xs ys : List (List Rect)) → shown ≡ other → kept ≡ second → lines ≡ others
    → AreShownWords shown kept lines xs → AreShownWords other second others ys → xs ≡ ys
same_words unique shown other kept second lines others xs ys flags kepts same are are_too =
    one_shown unique other second others xs ys
    (subst (λ (b : Bool). AreShownWords b second others xs) flags
    (subst (λ (k : Kept). AreShownWords shown k others xs) kepts (subst (λ (ls : List Line). AreShownWords shown kept ls xs) same are))) are_too
