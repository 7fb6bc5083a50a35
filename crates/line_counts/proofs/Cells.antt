-- The cells of a table, each in its own place.
use Rattle.std.proofs.Common.{◌≡◌, ℕ, ◌+◌, ◌-◌, ◌*◌, ◌/◌, ◌%◌, ◌<◌, ◌≤◌, ◌&&◌, Bool, eqb, leb, ltb, cond, List, length, get_or, set, arith, refl, sym, ◌∙◌, ap, ⊎_elim, get_or-set_same, get_or-set_other, subst}
use Rattle.std.proofs.Math.ListN.{length-set}
use Rattle.std.proofs.lemmas.Nat.{mul-add-lt, div-mul-add, mod-mul-add}
use Rattle.std.proofs.lemmas.List.Sums.{count_by-le-length}
use Rattle.std.proofs.lemmas.Bool.{cases_eq}
use Rattle.std.proofs.lemmas.Bool.Decides.{nat_tests}
use Rattle.layout_geom.specs.declared.rect.Rect.{Rect}
use Rattle.line_quality.specs.Points.{middle_of}
use Rattle.line_counts.proofs.Places.{slope_in, place_within}
use Rattle.line_counts.specs.Fits.{slope_of, segment_of, place_of}
use Rattle.line_counts.specs.Table.{cell_of, own_cell, IsRaised}

-- a row and a place are those of one cell only
record AreSame (a b c d : ℕ) : Type 0 where
  rows : a ≡ c
  places : b ≡ d

same_digits : (a b c d w : ℕ) → b < w → d < w → a * w + b ≡ c * w + d → AreSame a b c d
same_digits a b c d w small less same = record {
  rows = sym (div-mul-add a w b small) ∙ ap (λ n. n / w) same ∙ div-mul-add c w d less;
  places = sym (mod-mul-add a w b small) ∙ ap (λ n. n % w) same ∙ mod-mul-add c w d less;
}

pub cell_within : (segments width number segment place : ℕ) → number < 65 → segment < segments → place < width
    → cell_of segments width number segment place < 65 * segments * width
cell_within segments width number segment place numbered there inside =
    let row : number * segments + segment < segments * 65 = mul-add-lt number segments segment 65 numbered there in
    omega (arith, mul-add-lt (number * segments + segment) width place (segments * 65) row inside)

-- 1 where the test holds
abbrev pub one_if : Bool → ℕ
one_if test = cond test 1 0

other_slope : (n k g s q p : ℕ) → (n ≡ k → ⊥) → one_if (ltb n (k + 1) && (eqb g s && eqb q p)) ≡ one_if (ltb n k && (eqb g s && eqb q p))
other_slope n k g s q p differs = grind (arith, nat_tests)

other_segment : (n k g s q p : ℕ) → (g ≡ s → ⊥) → one_if (ltb n (k + 1) && (eqb g s && eqb q p)) ≡ one_if (ltb n k && (eqb g s && eqb q p))
other_segment n k g s q p differs = grind (arith, nat_tests)

other_place : (n k g s q p : ℕ) → (q ≡ p → ⊥) → one_if (ltb n (k + 1) && (eqb g s && eqb q p)) ≡ one_if (ltb n k && (eqb g s && eqb q p))
other_place n k g s q p differs = grind (arith, nat_tests)

-- a slope more tells nothing of the other cells
not_own : (n k g s q p : ℕ) → (n ≡ k → g ≡ s → q ≡ p → ⊥) → one_if (ltb n (k + 1) && (eqb g s && eqb q p)) ≡ one_if (ltb n k && (eqb g s && eqb q p))
not_own n k g s q p other = ⊎_elim
    (λ slopes. ⊎_elim
    (λ segments. ⊎_elim (λ places. absurd (other slopes segments places)) (λ differs. other_place n k g s q p differs) (cases_eq q p))
    (λ differs. other_segment n k g s q p differs)
    (cases_eq g s))
    (λ differs. other_slope n k g s q p differs)
    (cases_eq n k)

now_own : (n k g s q p : ℕ) → n ≡ k → g ≡ s → q ≡ p → one_if (ltb n (k + 1) && (eqb g s && eqb q p)) ≡ 1
now_own n k g s q p slopes segments places = grind (arith, nat_tests)

not_yet : (n k g s q p : ℕ) → n ≡ k → one_if (ltb n k && (eqb g s && eqb q p)) ≡ 0
not_yet n k g s q p slopes = grind (arith, nat_tests)

-- the second cells are the first with one more box at the first slopes
pub record IsRaisedTo (count : ℕ) (gutters : List Rect) (width : ℕ) (r : Rect) (before after : List ℕ) : Type 0 where
  pub long : length after ≡ length before
  pub each : (number segment place : ℕ) → number < 65 → segment ≤ length gutters → place < width
      → get_or after (cell_of (length gutters + 1) width number segment place) 0
      ≡ get_or before (cell_of (length gutters + 1) width number segment place) 0
      + one_if (ltb number count && (eqb (segment_of gutters (middle_of r)) segment && eqb (place_of (slope_of number) r) place))

pub raised_none : (gutters : List Rect) (width : ℕ) (r : Rect) (cells : List ℕ) → IsRaisedTo 0 gutters width r cells cells
raised_none gutters width r cells = record {
  long = refl;
  each = λ number segment place _ _ _. grind (arith, nat_tests);
}

module _ (count : ℕ) (gutters : List Rect) (width : ℕ) (r : Rect) (counted : count < 65) (wide : r.y1 + 672 ≤ width) where
  pub there : segment_of gutters (middle_of r) ≤ length gutters
  there = count_by-le-length (λ (gutter : Rect). leb (middle_of gutter) (middle_of r)) gutters

  pub inside : place_of (slope_of count) r < width
  inside = omega (arith, wide, place_within (slope_of count) r (slope_in count counted))

  pub untouched : (before after : List ℕ) → IsRaisedTo count gutters width r before after
      → get_or after (own_cell gutters width r count) 0 ≡ get_or before (own_cell gutters width r count) 0
  untouched before after raised =
      omega (
        arith,
        raised.each count (segment_of gutters (middle_of r)) (place_of (slope_of count) r) counted there inside,
        not_yet count count (segment_of gutters (middle_of r)) (segment_of gutters (middle_of r)) (place_of (slope_of count) r) (place_of (slope_of count) r) refl,
      )

  -- only the own cell is the own cell
  only_own : (number segment place : ℕ) → segment ≤ length gutters → place < width
      → cell_of (length gutters + 1) width number segment place ≡ own_cell gutters width r count
      → (number ≡ count) × (segment ≡ segment_of gutters (middle_of r)) × (place ≡ place_of (slope_of count) r)
  only_own number segment place few less same =
      let rows = same_digits (number * (length gutters + 1) + segment) place (count * (length gutters + 1) + segment_of gutters (middle_of r)) (place_of (slope_of count) r) width less inside same in
      let slopes = same_digits number segment count (segment_of gutters (middle_of r)) (length gutters + 1) (omega arith) (omega (arith, there)) rows.rows in
      (slopes.rows, slopes.places, rows.places)

  at_slope : (number : ℕ) → number ≡ count → place_of (slope_of number) r ≡ place_of (slope_of count) r
  at_slope number same = ap (λ n. place_of (slope_of n) r) same

  same_cell : (number segment place : ℕ) → number ≡ count → segment_of gutters (middle_of r) ≡ segment → place_of (slope_of count) r ≡ place
      → cell_of (length gutters + 1) width number segment place ≡ own_cell gutters width r count
  same_cell number segment place slopes segments places = rw (slopes, ← segments, ← places) refl

  -- one more cell goes up
  raised_here : (before after : List ℕ) → IsRaisedTo count gutters width r before after → own_cell gutters width r count < length after
      → IsRaisedTo (count + 1) gutters width r before (set after (own_cell gutters width r count) (get_or after (own_cell gutters width r count) 0 + 1))
  raised_here before after raised within = record {
    long = length-set after (own_cell gutters width r count) (get_or after (own_cell gutters width r count) 0 + 1) ∙ raised.long;
    each = λ number segment place numbered few less. ⊎_elim
        (λ same.
        let is = only_own number segment place few less same in
        omega (
          arith,
          ap (λ (at : ℕ). get_or (set after (own_cell gutters width r count) (get_or after (own_cell gutters width r count) 0 + 1)) at 0) same,
          ap (λ (at : ℕ). get_or before at 0) same,
          get_or-set_same after (own_cell gutters width r count) (get_or after (own_cell gutters width r count) 0 + 1) 0 within,
          untouched before after raised,
          now_own number count (segment_of gutters (middle_of r)) segment (place_of (slope_of number) r) place is.0 (sym is.1) (at_slope number is.0 ∙ sym is.2),
        ))
        (λ differs.
        omega (
          arith,
          get_or-set_other after (own_cell gutters width r count) (cell_of (length gutters + 1) width number segment place) (get_or after (own_cell gutters width r count) 0 + 1) 0 differs,
          raised.each number segment place numbered few less,
          not_own number count (segment_of gutters (middle_of r)) segment (place_of (slope_of number) r) place
              (λ slopes segments places. differs (same_cell number segment place slopes segments (sym (at_slope number slopes) ∙ places))),
        ))
        (cases_eq (cell_of (length gutters + 1) width number segment place) (own_cell gutters width r count));
  }

  -- one more cell goes down
  lowered_here : (before after : List ℕ) → IsRaisedTo count gutters width r after before → own_cell gutters width r count < length after
      → 0 < get_or before (own_cell gutters width r count) 0
      → IsRaisedTo (count + 1) gutters width r (set after (own_cell gutters width r count) (get_or after (own_cell gutters width r count) 0 - 1)) before
  lowered_here before after raised within some = record {
    long = raised.long ∙ sym (length-set after (own_cell gutters width r count) (get_or after (own_cell gutters width r count) 0 - 1));
    each = λ number segment place numbered few less. ⊎_elim
        (λ same.
        let is = only_own number segment place few less same in
        omega (
          arith,
          ap (λ (at : ℕ). get_or (set after (own_cell gutters width r count) (get_or after (own_cell gutters width r count) 0 - 1)) at 0) same,
          ap (λ (at : ℕ). get_or before at 0) same,
          get_or-set_same after (own_cell gutters width r count) (get_or after (own_cell gutters width r count) 0 - 1) 0 within,
          untouched after before raised,
          some,
          now_own number count (segment_of gutters (middle_of r)) segment (place_of (slope_of number) r) place is.0 (sym is.1) (at_slope number is.0 ∙ sym is.2),
        ))
        (λ differs.
        omega (
          arith,
          get_or-set_other after (own_cell gutters width r count) (cell_of (length gutters + 1) width number segment place) (get_or after (own_cell gutters width r count) 0 - 1) 0 differs,
          raised.each number segment place numbered few less,
          not_own number count (segment_of gutters (middle_of r)) segment (place_of (slope_of number) r) place
              (λ slopes segments places. differs (same_cell number segment place slopes segments (sym (at_slope number slopes) ∙ places))),
        ))
        (cases_eq (cell_of (length gutters + 1) width number segment place) (own_cell gutters width r count));
  }

  -- by the place at which the code has it
  pub raised_more : (before after : List ℕ) (at : ℕ) → at ≡ own_cell gutters width r count → own_cell gutters width r count < length after → IsRaisedTo count gutters width r before after
      → IsRaisedTo (count + 1) gutters width r before (set after at (get_or after at 0 + 1))
  raised_more before after at is within raised =
      subst (λ (k : ℕ). IsRaisedTo (count + 1) gutters width r before (set after k (get_or after k 0 + 1))) (sym is) (raised_here before after raised within)

  pub lowered_more : (before after : List ℕ) (at : ℕ) → at ≡ own_cell gutters width r count → own_cell gutters width r count < length after → 0 < get_or before (own_cell gutters width r count) 0
      → IsRaisedTo count gutters width r after before → IsRaisedTo (count + 1) gutters width r (set after at (get_or after at 0 - 1)) before
  lowered_more before after at is within some raised =
      subst (λ (k : ℕ). IsRaisedTo (count + 1) gutters width r (set after k (get_or after k 0 - 1)) before) (sym is) (lowered_here before after raised within some)

all_slopes : (n g s q p : ℕ) → n < 65 → one_if (ltb n 65 && (eqb g s && eqb q p)) ≡ one_if (eqb g s && eqb q p)
all_slopes n g s q p numbered = grind (arith, nat_tests)

-- at all slopes it is one box more
pub raised_all : (gutters : List Rect) (width count : ℕ) (r : Rect) (before after : List ℕ) → count ≡ 65 → IsRaisedTo count gutters width r before after
    → IsRaised gutters width r before after
raised_all gutters width count r before after all raised = record {
  long = raised.long;
  each = λ number segment place numbered few less.
      raised.each number segment place numbered few less
      ∙ ap (λ n. get_or before (cell_of (length gutters + 1) width number segment place) 0 + n)
      (ap (λ k. one_if (ltb number k && (eqb (segment_of gutters (middle_of r)) segment && eqb (place_of (slope_of number) r) place))) all
      ∙ all_slopes number (segment_of gutters (middle_of r)) segment (place_of (slope_of number) r) place numbered);
}
