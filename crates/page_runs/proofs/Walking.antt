-- Walking over a row from edge to edge.
use Rattle.std.proofs.Common.{◌≡◌, ◌<◌, ◌≤◌, ℕ, zero, suc, Bool, true, false, cond, eqb, ◌+◌, ◌-◌, ◌*◌, List, [], ◌∷◌, ◌++◌, Option, Some, None, inl, inr, refl, sym, ap, subst, ◌∙◌, arith}
use Rattle.std.specs.Int.{bit_at}
use Rattle.std.proofs.lemmas.Bool.{cases_lt}
use Rattle.std.proofs.lemmas.Nat.Bits.{bit_at-lt}
use Rattle.std.proofs.lemmas.List.{append_assoc}
use Rattle.packed_rows.specs.Page.{pixel, IsPackedRow}
use Rattle.page_runs.specs.declared.row_runs.Run.{Run}
use Rattle.page_runs.specs.Runs.{AddsRow, AreAll, Extends}
use Rattle.page_runs.specs.Black.{black_in}
use Rattle.page_runs.specs.Walk.{HasWalked, IsUpTo}
use Rattle.page_runs.proofs.Counting.{black_more, run_counted, white_run}
use Rattle.page_runs.proofs.RowRuns.{nothing_added, run_added, whites_added, row_ended}

-- ---- columns

-- what a word of the row shows
pub word_shows : (value : ℕ) (bits : List ℕ) (word x from place : ℕ) → ((k : ℕ) → k < 64 → bit_at word (63 - k) ≡ pixel bits (x + k))
    → ((k : ℕ) → from ≤ k → k < place → bit_at word (63 - k) ≡ value) → place ≤ 64 → AreAll value bits (x + from) (x + place)
word_shows value bits word x from place is shown within k left right =
    let j = k - x in
    let at : k ≡ x + j = omega (arith, left) in
    ap (pixel bits) at ∙ sym (is j (omega (arith, right, within, at))) ∙ shown j (omega (arith, left, at)) (omega (arith, right, at))

joined : (value : ℕ) (bits : List ℕ) (from middle to : ℕ) → AreAll value bits from middle → AreAll value bits middle to → AreAll value bits from to
joined value bits from middle to first last k left right = elim (cases_lt k middle) [
  | inl before ↦ first k left before
  | inr after ↦ last k after right
]

-- up to no column there are None
no_column : (value : ℕ) (bits : List ℕ) (x : ℕ) → AreAll value bits x x
no_column value bits x k left right = absurd (omega (arith, left, right))

whites_counted : (bits : List ℕ) (x next : ℕ) → x ≤ next → AreAll 0 bits x next → black_in next bits ≡ black_in x bits
whites_counted bits x next on whites =
    let e : x + (next - x) ≡ next = omega (arith, on) in
    ap (λ (n : ℕ). black_in n bits) (sym e) ∙ white_run bits x (next - x) (λ k left right. whites k left (omega (arith, right, e)))

-- ---- steps of a walk

-- the white columns at the front of a row
pub walk_begins : (bits : List ℕ) (width x : ℕ) (runs : List Run) → AreAll 0 bits 0 x → HasWalked bits width x runs runs None 0
walk_begins bits width x runs whites = record {
  added = nothing_added bits width x runs whites;
  counted = sym (whites_counted bits 0 x (omega arith) whites);
  starts = tt;
  going = no_column 1 bits x;
}

-- white columns behind the runs that ended
pub walk_on : (bits : List ℕ) (width x next : ℕ) (old now : List Run) (black : ℕ) → HasWalked bits width x old now None black → x ≤ next → AreAll 0 bits x next
    → HasWalked bits width next old now None black
walk_on bits width x next old now black walk on whites = record {
  added = whites_added bits width x next old now walk.added on whites;
  counted = walk.counted ∙ sym (whites_counted bits x next on whites);
  starts = tt;
  going = no_column 1 bits next;
}

-- black columns of the run that has begun
pub walk_along : (bits : List ℕ) (width x next : ℕ) (old now : List Run) (start black : ℕ) → HasWalked bits width x old now (Some start) black → AreAll 1 bits x next
    → HasWalked bits width next old now (Some start) black
walk_along bits width x next old now start black walk blacks = record {
  added = walk.added;
  counted = walk.counted;
  starts = walk.starts;
  going = joined 1 bits start x next walk.going blacks;
}

-- a run begins behind white columns
pub walk_enters : (bits : List ℕ) (width x next : ℕ) (old now : List Run) (black : ℕ) → HasWalked bits width x old now None black → x ≤ next → AreAll 0 bits x next
    → pixel bits next ≡ 1 → HasWalked bits width next old now (Some next) black
walk_enters bits width x next old now black walk on whites here =
    let there = walk_on bits width x next old now black walk on whites in
    record { added = there.added; counted = there.counted; starts = here; going = no_column 1 bits next }

-- the run that has begun ends at a white column
pub walk_leaves : (bits : List ℕ) (width x next : ℕ) (old now : List Run) (start black : ℕ) → HasWalked bits width x old now (Some start) black → start ≤ x → x ≤ next
    → AreAll 1 bits x next → pixel bits next ≡ 0 → HasWalked bits width next old (now ++ (record { x0 = start; x1 = next }) ∷ []) None (black + (next - start))
walk_leaves bits width x next old now start black walk begun on blacks here =
    let all = joined 1 bits start x next walk.going blacks in
    let longer : start < next = elim (cases_lt start next) [
      | inl less ↦ less
      | inr same ↦ let e : start ≡ next = omega (arith, same, begun, on) in absurd (omega (arith, walk.starts, ap (pixel bits) e, here))
    ] in
    record {
      added = run_added bits width start next next old now walk.added longer (omega arith) all (λ within. here) (no_column 0 bits next);
      counted = omega (arith, walk.counted, run_counted bits start next next (omega (arith, longer)) (omega arith) all (no_column 0 bits next));
      starts = tt;
      going = no_column 1 bits next;
    }

-- the white words behind a word in which no run stayed open, or else the next word
pub walk_next : (bits : List ℕ) (width x next : ℕ) (old now : List Run) (begun : Option ℕ) (black : ℕ) → HasWalked bits width x old now begun black → x ≤ next
    → AreAll 0 bits x next → ((start : ℕ) → begun ≡ Some start → next ≡ x) → HasWalked bits width next old now begun black
walk_next bits width x next old now None black walk on whites same = walk_on bits width x next old now black walk on whites
walk_next bits width x next old now (Some start) black walk on whites same =
    subst (λ (n : ℕ). HasWalked bits width n old now (Some start) black) (sym (same start refl)) walk

pub up_to_next : (begun : Option ℕ) (black x next : ℕ) → IsUpTo begun black x → x ≤ next → IsUpTo begun black next
up_to_next None black x next up on = record { few = omega (arith, up.few, on); before = omega arith }
up_to_next (Some start) black x next up on = record { few = up.few; before = omega (arith, up.before, on) }

-- ---- the end of the row

-- where no run is open all of the row was added
pub walk_ended : (bits : List ℕ) (width x : ℕ) (old now : List Run) (black : ℕ) → HasWalked bits width x old now None black → width ≤ x → IsPackedRow width bits
    → AddsRow bits width width old now × (black ≡ black_in width bits)
walk_ended bits width x old now black walk past row = (
  row_ended bits width x old now walk.added past row.padding,
  walk.counted ∙ whites_counted bits width x past (λ k left right. row.padding k left),
)

pub none_begun : (begun : Option ℕ) → ((start : ℕ) → begun ≡ Some start → ⊥) → begun ≡ None
none_begun None never = refl
none_begun (Some start) never = absurd (never start refl)

-- no more pixels are black than there are columns
pub few_black : (bits : List ℕ) (width : ℕ) → black_in width bits ≤ width
few_black bits zero = omega arith
few_black bits (suc width) =
    let e : width + 1 ≡ suc width = omega arith in
    omega (arith, few_black bits width, black_more bits width, ap (λ (n : ℕ). black_in n bits) e, one_at_most (eqb (pixel bits width) 1))
  where
    one_at_most : (b : Bool) → cond b 1 0 ≤ 1
    one_at_most true = omega arith
    one_at_most false = omega arith

-- where one is, it ends with the row
pub walk_closed : (bits : List ℕ) (width x : ℕ) (old now : List Run) (start black : ℕ) → HasWalked bits width x old now (Some start) black → width ≤ x → IsPackedRow width bits
    → (start < width) × AddsRow bits width width old (now ++ (record { x0 = start; x1 = width }) ∷ []) × (black + (width - start) ≡ black_in width bits)
walk_closed bits width x old now start black walk past row =
    let inside : start < width = elim (cases_lt start width) [
      | inl less ↦ less
      | inr outside ↦ absurd (omega (arith, walk.starts, row.padding start outside))
    ] in
    let all : AreAll 1 bits start width = λ k left right. walk.going k left (omega (arith, right, past)) in (
      inside,
      run_added bits width start width width old now walk.added inside (omega arith) all (λ within. absurd (omega (arith, within))) (no_column 0 bits width),
      omega (arith, walk.counted, run_counted bits start width width (omega (arith, inside)) (omega arith) all (no_column 0 bits width)),
    )

-- ---- how far a word is walked over

-- whether an edge lies at a place of a word: no run has begun and it is black, or one has and it is white
abbrev pub edge_at : Option ℕ → ℕ → ℕ → ℕ
edge_at None word place = bit_at word (63 - place)
edge_at (Some start) word place = 1 - bit_at word (63 - place)

edge_small : (begun : Option ℕ) (word place : ℕ) → edge_at begun word place ≤ 1
edge_small None word place = omega (arith, bit_at-lt word (63 - place))
edge_small (Some start) word place = omega arith

-- an edge is passed at a place, or the end of the word is reached
pub enters_less : (begun : Option ℕ) (start word place next : ℕ) → begun ≡ None → place ≤ next → next < 64 → bit_at word (63 - next) ≡ 1
    → 2 * (64 - next) + edge_at (Some start) word next < 2 * (64 - place) + edge_at begun word place
enters_less (Some old) start word place next is on inside black = absurd cc
enters_less None start word place next is on inside black = elim (cases_lt place next) [
  | inl later ↦ omega (arith, later, inside, black)
  | inr here ↦ let e : next ≡ place = omega (arith, here, on) in omega (arith, ap (λ (n : ℕ). bit_at word (63 - n)) e, black, e)
]

pub leaves_less : (begun : Option ℕ) (start word place next : ℕ) → begun ≡ Some start → place ≤ next → next < 64 → bit_at word (63 - next) ≡ 0
    → 2 * (64 - next) + edge_at None word next < 2 * (64 - place) + edge_at begun word place
leaves_less None start word place next is on inside white = absurd cc
leaves_less (Some old) start word place next is on inside white = elim (cases_lt place next) [
  | inl later ↦ omega (arith, later, inside, white)
  | inr here ↦ let e : next ≡ place = omega (arith, here, on) in omega (arith, ap (λ (n : ℕ). bit_at word (63 - n)) e, white, e)
]

pub ends_less : (begun : Option ℕ) (word place next : ℕ) → place < 64 → 64 ≤ next → 2 * (64 - next) + edge_at begun word next < 2 * (64 - place) + edge_at begun word place
ends_less begun word place next inside past = omega (arith, edge_small begun word next, inside, past)

-- ---- a step in a word

-- the columns up to the next place go on as they were
pub walk_through : (bits : List ℕ) (width x next : ℕ) (old now : List Run) (begun : Option ℕ) (black : ℕ) → HasWalked bits width x old now begun black → x ≤ next
    → (begun ≡ None → AreAll 0 bits x next) → ((start : ℕ) → begun ≡ Some start → AreAll 1 bits x next) → HasWalked bits width next old now begun black
walk_through bits width x next old now None black walk on whites blacks = walk_on bits width x next old now black walk on (whites refl)
walk_through bits width x next old now (Some start) black walk on whites blacks = walk_along bits width x next old now start black walk (blacks start refl)

-- the word shows the pixel at a place
pub pixel_shown : (bits : List ℕ) (word x place value : ℕ) → ((k : ℕ) → k < 64 → bit_at word (63 - k) ≡ pixel bits (x + k)) → place < 64
    → bit_at word (63 - place) ≡ value → pixel bits (x + place) ≡ value
pixel_shown bits word x place value is inside shown = sym (is place inside) ∙ shown

-- a list with some runs more got one more still
pub one_more : (old now grown : List Run) (run : Run) → Extends old now → grown ≡ now ++ run ∷ [] → Extends old grown
one_more old now grown run more is = (more.0 ++ run ∷ [], is ∙ ap (λ (l : List Run). l ++ run ∷ []) more.1 ∙ append_assoc old more.0 (run ∷ []))
