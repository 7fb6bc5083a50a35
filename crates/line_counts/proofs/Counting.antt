-- What the cells count as a box comes or goes.
use Rattle.std.proofs.Common.{◌≡◌, ℕ, suc, ◌+◌, ◌*◌, ◌<◌, ◌≤◌, ◌&&◌, eqb, cond, List, [], ◌∷◌, ◌++◌, length, get_or, drop, drop-cons, replicate, arith, refl, sym, ◌∙◌, ap, ⊎_elim, Some, slice_get, All, subst}
use Rattle.std.specs.List.Sorted.{IsPermutation}
use Rattle.std.proofs.lemmas.List.{get_or-replicate, get_or_past, length-replicate}
use Rattle.std.proofs.lemmas.List.Sums.{sum_by-cons, sum_by_push, count_by-le-length}
use Rattle.std.proofs.lemmas.List.Sorted.{sum_by-IsPermutation}
use Rattle.std.proofs.lemmas.List.Elements.{All-get_or}
use Rattle.std.proofs.lemmas.Option.{slice_get_read}
use Rattle.std.proofs.lemmas.Bool.{cases_lt}
use Rattle.std.proofs.lemmas.Bool.Decides.{nat_tests}
use Rattle.layout_geom.specs.declared.rect.Rect.{Rect}
use Rattle.line_quality.specs.Points.{middle_of}
use Rattle.line_counts.specs.Fits.{slope_of, segment_of, place_of, is_in, place_in}
use Rattle.line_counts.proofs.Cells.{one_if}
use Rattle.line_counts.specs.Table.{cell_of, own_cell, counts_here, AreCounts, IsRaised}

pub zero_at : (count place : ℕ) → get_or (replicate {A = ℕ} count 0) place 0 ≡ 0
zero_at count place = ⊎_elim
    (λ within. get_or-replicate count place 0 0 within)
    (λ past. get_or_past (replicate count 0) place 0 (let long : length (replicate {A = ℕ} count 0) ≡ count = length-replicate count 0 in
    omega (arith, long)))
    (cases_lt place count)

-- at first nothing is counted
pub none_counted : (boxes gutters : List Rect) (width count : ℕ) → count ≡ 65 * (length gutters + 1) * width
    → AreCounts boxes gutters width [] (replicate {A = ℕ} count 0)
none_counted boxes gutters width count is = record {
  long = length-replicate {A = ℕ} count 0 ∙ is;
  counts = λ number segment place _ _ _. zero_at count (cell_of (length gutters + 1) width number segment place);
}

-- what a read position adds
counted_here : (boxes gutters : List Rect) (number segment place position : ℕ) (r : Rect) → slice_get boxes position ≡ Some r
    → cond (is_in gutters segment (slice_get boxes position) && eqb (place_in (slope_of number) (slice_get boxes position)) place) 1 0
    ≡ counts_here gutters number segment place r
counted_here boxes gutters number segment place position r read = rw read refl

module _ (boxes gutters : List Rect) (width : ℕ) where
  -- a box comes
  pub counts_more : (positions before after : List ℕ) (position : ℕ) (r : Rect) → slice_get boxes position ≡ Some r
      → AreCounts boxes gutters width positions before → IsRaised gutters width r before after
      → AreCounts boxes gutters width (positions ++ position ∷ []) after
  counts_more positions before after position r read are raised = record {
    long = raised.long ∙ are.long;
    counts = λ number segment place numbered few less.
        omega (
          arith,
          raised.each number segment place numbered few less,
          are.counts number segment place numbered few less,
          sum_by_push (λ (p : ℕ). cond (is_in gutters segment (slice_get boxes p) && eqb (place_in (slope_of number) (slice_get boxes p)) place) 1 0) positions position,
          counted_here boxes gutters number segment place position r read,
        );
  }

  -- a box goes
  pub counts_less : (positions before after : List ℕ) (position : ℕ) (r : Rect) → slice_get boxes position ≡ Some r
      → AreCounts boxes gutters width (position ∷ positions) before → IsRaised gutters width r after before
      → AreCounts boxes gutters width positions after
  counts_less positions before after position r read are raised = record {
    long = sym raised.long ∙ are.long;
    counts = λ number segment place numbered few less.
        omega (
          arith,
          raised.each number segment place numbered few less,
          are.counts number segment place numbered few less,
          sum_by-cons (λ (p : ℕ). cond (is_in gutters segment (slice_get boxes p) && eqb (place_in (slope_of number) (slice_get boxes p)) place) 1 0) position positions,
          counted_here boxes gutters number segment place position r read,
        );
  }

  -- in another order the counts are the same
  pub counts_shuffled : (xs ys cells : List ℕ) → IsPermutation xs ys → AreCounts boxes gutters width xs cells → AreCounts boxes gutters width ys cells
  counts_shuffled xs ys cells shuffled are = record {
    long = are.long;
    counts = λ number segment place numbered few less.
        are.counts number segment place numbered few less
        ∙ sym (sum_by-IsPermutation (λ (p : ℕ). cond (is_in gutters segment (slice_get boxes p) && eqb (place_in (slope_of number) (slice_get boxes p)) place) 1 0) xs ys shuffled);
  }

  -- no count is above the number of boxes
  pub counts_small : (positions cells : List ℕ) (number segment place : ℕ) → number < 65 → segment ≤ length gutters → place < width
      → AreCounts boxes gutters width positions cells
      → get_or cells (cell_of (length gutters + 1) width number segment place) 0 ≤ length positions
  counts_small positions cells number segment place numbered few less are =
      omega (
        arith,
        are.counts number segment place numbered few less,
        count_by-le-length (λ (p : ℕ). is_in gutters segment (slice_get boxes p) && eqb (place_in (slope_of number) (slice_get boxes p)) place) positions,
      )

  own_one : (segment place : ℕ) → one_if (eqb segment segment && eqb place place) ≡ 1
  own_one segment place = grind (arith, nat_tests)

  -- a box that is counted is counted in its own cells
  pub counts_own : (positions cells : List ℕ) (position number : ℕ) (r : Rect) → slice_get boxes position ≡ Some r → number < 65
      → segment_of gutters (middle_of r) ≤ length gutters → place_of (slope_of number) r < width
      → AreCounts boxes gutters width (position ∷ positions) cells → 0 < get_or cells (own_cell gutters width r number) 0
  counts_own positions cells position number r read numbered few less are =
      omega (
        arith,
        are.counts number (segment_of gutters (middle_of r)) (place_of (slope_of number) r) numbered few less,
        sum_by-cons (λ (p : ℕ). cond (is_in gutters (segment_of gutters (middle_of r)) (slice_get boxes p) && eqb (place_in (slope_of number) (slice_get boxes p)) (place_of (slope_of number) r)) 1 0) position positions,
        counted_here boxes gutters number (segment_of gutters (middle_of r)) (place_of (slope_of number) r) position r read,
        own_one (segment_of gutters (middle_of r)) (place_of (slope_of number) r),
      )

-- a box that is read at a position
pub record IsRead (boxes : List Rect) (width position : ℕ) (r : Rect) : Type 0 where
  pub at : slice_get boxes position ≡ Some r
  pub wide : r.y1 + 672 ≤ width

reads : (boxes : List Rect) (width position : ℕ) (r : Rect) → position < length boxes → All (λ box. box.y1 + 672 ≤ width) boxes
    → r ≡ get_or boxes position r → IsRead boxes width position r
reads boxes width position r within feet item = record {
  at = slice_get_read boxes (length boxes) position r refl within item;
  wide = subst (λ (box : Rect). box.y1 + 672 ≤ width) (sym item) (All-get_or (λ (box : Rect). box.y1 + 672 ≤ width) boxes position r within feet);
}

-- at the next of some positions
pub reads_next : (boxes : List Rect) (width : ℕ) (positions : List ℕ) (i : ℕ) (r : Rect) → i < length positions → All (λ position. position < length boxes) positions
    → All (λ box. box.y1 + 672 ≤ width) boxes → r ≡ get_or boxes (get_or positions i 0) r → IsRead boxes width (get_or positions i 0) r
reads_next boxes width positions i r more within feet item =
    reads boxes width (get_or positions i 0) r (All-get_or (λ (p : ℕ). p < length boxes) positions i 0 more within) feet item

left_from : (members others : List ℕ) (first i k : ℕ) → i ≡ k → first ∷ (drop i members ++ others) ≡ first ∷ (drop k members ++ others)
left_from members others first i k same = rw same refl

-- the next of a list comes first among those that are left
pub next_first : (members others : List ℕ) (i : ℕ) → i < length members
    → drop i members ++ others ≡ get_or members i 0 ∷ (drop (i + 1) members ++ others)
next_first members others i within =
    ap (λ (xs : List ℕ). xs ++ others) (drop-cons members i 0 within)
    ∙ left_from members others (get_or members i 0) (suc i) (i + 1) (omega arith)
