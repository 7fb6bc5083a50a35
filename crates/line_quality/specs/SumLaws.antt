-- The sums of the columns in an array, as they grow box by box, and the greatest of them.
use Rattle.std.proofs.Common.{◌≡◌, ℕ, ◌+◌, ◌*◌, ◌<◌, ◌≤◌, Bool, true, false, cond, eqb, List, [], ◌∷◌, ◌++◌, length}
use Rattle.std.proofs.Common.{get_or, take, set, replicate, arith, refl, sym, ◌∙◌, ap, ⊎_elim, get_or-set_same, get_or-set_other}
use Rattle.std.specs.List.{sum_by}
use Rattle.std.proofs.Math.ListN.{length-set}
use Rattle.std.proofs.lemmas.List.{get_or-take, length-take, get_or-replicate, get_or_past, length-replicate}
use Rattle.std.proofs.lemmas.List.Sums.{sum_by-append}
use Rattle.std.proofs.lemmas.Bool.{cases_lt, cases_eq}
use Rattle.std.proofs.lemmas.Bool.Decides.{nat_tests}
use Rattle.line_quality.specs.declared.limits.TheConstants.{MAX_COLUMNS, MAX_WEIGHT}
use Rattle.line_quality.specs.Scores.{IsGreatest}

zero_at : (count place : ℕ) → let zero_value : ℕ = 0 in get_or (replicate count zero_value) place zero_value ≡ zero_value
zero_at count place = ⊎_elim
    (λ within. get_or-replicate count place 0 0 within)
    (λ past. get_or_past (replicate count 0) place 0 (let long : length (replicate {A = ℕ} count 0) ≡ count = length-replicate count 0 in
    omega (arith, long)))
    (cases_lt place count)

-- one more element, if it is kept
pub one_more : {X : Type 0} (f : X → ℕ) (xs : List X) (b : Bool) (x : X)
    → sum_by f (xs ++ cond b (x ∷ []) []) ≡ sum_by f xs + cond b (f x) 0
one_more f xs true x = sum_by-append f xs (x ∷ []) ∙ ap (λ n. sum_by f xs + n) (omega arith)
one_more f xs false x = sum_by-append f xs []

same_column : (a w : ℕ) → cond (eqb a a) w 0 ≡ w
same_column a w = grind (arith, nat_tests)

other_column : (a b w : ℕ) → (a ≡ b → ⊥) → cond (eqb a b) w 0 ≡ 0
other_column a b w differs = grind (arith, nat_tests)

at_most : (a b w : ℕ) → cond (eqb a b) w 0 ≤ w
at_most a b w = grind (arith, nat_tests)

set_elsewhere : (sums : List ℕ) (i j value : ℕ) → (j ≡ i → ⊥) → get_or (set sums i value) j 0 ≡ get_or sums j 0 + 0
set_elsewhere sums i j value differs =
    let same : get_or (set sums i value) j 0 ≡ get_or sums j 0 = rw get_or-set_other refl in
    omega (arith, same)

set_sums : (sums : List ℕ) (a w other : ℕ) → a < length sums
    → get_or (set sums a (get_or sums a 0 + w)) other 0 ≡ get_or sums other 0 + cond (eqb a other) w 0
set_sums sums a w other within = ⊎_elim
    (λ same. rw (← same, same_column a w) (get_or-set_same sums a (get_or sums a 0 + w) 0 within))
    (λ differs. let e : other ≡ a → ⊥ = λ p. differs (sym p) in
    rw (other_column a other w differs) (set_elsewhere sums a other (get_or sums a 0 + w) e))
    (cases_eq a other)

-- the array has the total of each column among so many boxes, and 0 behind the last column
pub record AreSums (total : ℕ → ℕ) (boxes last : ℕ) (sums : List ℕ) : Type 0 where
  pub long : length sums ≡ MAX_COLUMNS
  pub totals : (column : ℕ) → get_or sums column 0 ≡ total column
  pub small : (column : ℕ) → get_or sums column 0 ≤ MAX_WEIGHT * boxes
  pub none : (column : ℕ) → last < column → get_or sums column 0 ≡ 0

pub no_sums : (total : ℕ → ℕ) (last : ℕ) → ((column : ℕ) → total column ≡ 0) → AreSums total 0 last (replicate MAX_COLUMNS 0)
no_sums total last empty = record {
  long = length-replicate {A = ℕ} MAX_COLUMNS 0;
  totals = λ column. zero_at MAX_COLUMNS column ∙ sym (empty column);
  small = λ column. omega (arith, zero_at MAX_COLUMNS column);
  none = λ column _. zero_at MAX_COLUMNS column;
}

-- a box that weighs something, in its column
pub sums_more : (total more : ℕ → ℕ) (boxes last column weight : ℕ) (sums : List ℕ) → AreSums total boxes last sums → column ≤ last
    → last < MAX_COLUMNS → weight ≤ MAX_WEIGHT → ((other : ℕ) → more other ≡ total other + cond (eqb column other) weight 0)
    → AreSums more (boxes + 1) last (set sums column (get_or sums column 0 + weight))
sums_more total more boxes last column weight sums are within few light grows =
    let summed : (other : ℕ) → get_or (set sums column (get_or sums column 0 + weight)) other 0
    ≡ get_or sums other 0 + cond (eqb column other) weight 0 = λ other. set_sums sums column weight other
    (omega (arith, are.long, within, few)) in
    record {
      long = rw length-set are.long;
      totals = λ other. omega (arith, summed other, are.totals other, grows other);
      small = λ other. omega (arith, summed other, are.small other, at_most column other weight, light);
      none = λ other above. omega (
        arith,
        summed other,
        are.none other above,
        other_column column other weight
            (λ same. omega (arith, same, above, within)),
      );
    }

-- a box that weighs nothing
pub sums_same : (total more : ℕ → ℕ) (boxes last : ℕ) (sums : List ℕ) → AreSums total boxes last sums
    → ((other : ℕ) → more other ≡ total other) → AreSums more (boxes + 1) last sums
sums_same total more boxes last sums are same = record {
  long = are.long;
  totals = λ other. are.totals other ∙ sym (same other);
  small = λ other. omega (arith, are.small other);
  none = are.none;
}

-- the greatest of the first sums is that of all totals, since the others are 0
pub greatest_sum : (total whole : ℕ → ℕ) (boxes last score in_column : ℕ) (sums : List ℕ) → AreSums total boxes last sums
    → ((column : ℕ) → total column ≡ whole column)
    → in_column < length (take (last + 1) sums) → get_or (take (last + 1) sums) in_column 0 ≡ score
    → ((other : ℕ) → get_or (take (last + 1) sums) other 0 ≤ score)
    → ((other : ℕ) → other < in_column → get_or (take (last + 1) sums) other 0 < score)
    → IsGreatest whole score in_column
greatest_sum total whole boxes last score in_column sums are all within reached greatest least =
    let first : in_column < last + 1 = omega (arith, within, length-take (last + 1) sums) in
    let at : (other : ℕ) → whole other ≡ get_or sums other 0 = λ other. sym (are.totals other ∙ all other) in
    record {
      reached = at in_column ∙ sym (get_or-take (last + 1) sums in_column 0 first) ∙ reached;
      greatest = λ other. ⊎_elim
          (λ below. omega (arith, at other, get_or-take (last + 1) sums other 0 below, greatest other))
          (λ above. omega (arith, at other, are.none other (omega (arith, above))))
          (cases_lt other (last + 1));
      least = λ other before. let below : other < last + 1 = omega (arith, before, first) in
          omega (arith, at other, get_or-take (last + 1) sums other 0 below, least other before);
    }
