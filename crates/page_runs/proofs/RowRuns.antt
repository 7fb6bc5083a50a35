-- The runs of a row of packed bytes, from the left.
use Rattle.std.proofs.Common.{◌≡◌, ◌<◌, ◌≤◌, ℕ, zero, suc, ◌+◌, ◌-◌, ◌*◌, List, [], ◌∷◌, ◌++◌, length, get_or, inl, inr, refl, sym, ap, subst, ◌∙◌, arith}
use Rattle.std.specs.Int.{bit_at}
use Rattle.std.proofs.lemmas.Bool.{cases_lt}
use Rattle.std.proofs.lemmas.Nat.Bits.{bit_at-zero}
use Rattle.std.proofs.lemmas.List.{append-nil, append_assoc, get_or-append_right, get_or_append_left, length-append}
use Rattle.packed_rows.specs.Page.{pixel}
use Rattle.page_runs.specs.declared.row_runs.Run.{Run}
use Rattle.page_runs.specs.Runs.{run_at, no_run, AreApart, AreAll, AreRunsOfBits, AddsRow}

-- ---- the pixels of a word

-- a white word leaves the columns before the next one white
pub white_passed : (bits : List ℕ) (word from byte : ℕ) → AreAll 0 bits from (byte * 8)
    → ((k : ℕ) → k < 64 → bit_at word (63 - k) ≡ pixel bits (byte * 8 + k)) → word ≡ 0 → AreAll 0 bits from ((byte + 8) * 8)
white_passed bits word from byte all is white k left right = elim (cases_lt k (byte * 8)) [
  | inl passed ↦ all k left passed
  | inr here ↦
      let j = k - byte * 8 in
      let at : k ≡ byte * 8 + j = omega (arith, here) in
      ap (pixel bits) at ∙ sym (is j (omega (arith, here, right))) ∙ ap (λ (w : ℕ). bit_at w (63 - j)) white ∙ bit_at-zero (63 - j)
]

-- ---- one run more

at_old : (runs : List Run) (run : Run) (i : ℕ) → i < length runs → run_at (runs ++ run ∷ []) i ≡ run_at runs i
at_old runs run i below = get_or_append_left runs (run ∷ []) no_run i below

at_new : (runs : List Run) (run : Run) (i : ℕ) → i ≡ length runs → run_at (runs ++ run ∷ []) i ≡ run
at_new runs run i last =
    let e : i - i ≡ 0 = omega arith in
    get_or-append_right runs (run ∷ []) i i no_run (sym last) (omega arith) ∙ ap (λ (k : ℕ). get_or (run ∷ []) k no_run) e

each_run_more : (runs : List Run) (run : Run) (P : Run → Type 0) (i : ℕ) → i < length (runs ++ run ∷ [])
    → (i < length runs → P (run_at runs i)) → P run → P (run_at (runs ++ run ∷ []) i)
each_run_more runs run P i below old new = elim (cases_lt i (length runs)) [
  | inl before ↦ subst P (sym (at_old runs run i before)) (old before)
  | inr last ↦ subst P (sym (at_new runs run i (omega (arith, last, below, length-append runs (run ∷ []))))) new
]

-- no run of the row lies left of x
no_runs : (bits : List ℕ) (width x : ℕ) → AreAll 0 bits 0 x → AreRunsOfBits bits width x []
no_runs bits width x white = record {
  some = λ i below. absurd (omega (arith, below));
  left = λ i below. absurd (omega (arith, below));
  blacks = λ i k below. absurd (omega (arith, below));
  maximal = λ i below. absurd (omega (arith, below));
  order = λ i j less below. absurd (omega (arith, below));
  every = λ k left black. absurd (omega (arith, white k (omega arith) left, black));
  few = omega arith;
}

pub nothing_added : (bits : List ℕ) (width x : ℕ) (runs : List Run) → AreAll 0 bits 0 x → AddsRow bits width x runs runs
nothing_added bits width x runs white = record { more = []; is = sym (append-nil runs); are = no_runs bits width x white }

-- white columns add none
pub whites_added : (bits : List ℕ) (width x next : ℕ) (old now : List Run) → AddsRow bits width x old now → x ≤ next → AreAll 0 bits x next → AddsRow bits width next old now
whites_added bits width x next old now added on whites =
    let are = added.are in
    record {
      more = added.more;
      is = added.is;
      are = record {
        some = are.some;
        left = λ i below. omega (arith, are.left i below, on);
        blacks = are.blacks;
        maximal = are.maximal;
        order = are.order;
        every = λ k left black. elim (cases_lt k x) [
          | inl before ↦ are.every k before black
          | inr after ↦ absurd (omega (arith, whites k after left, black))
        ];
        few = omega (arith, are.few, on);
      };
    }

module _ (bits : List ℕ) (width x end next : ℕ) (runs : List Run) (are : AreRunsOfBits bits width x runs)
    (some : x < end) (on : end ≤ next) (blacks : AreAll 1 bits x end) (ended : end < width → pixel bits end ≡ 0) (whites : AreAll 0 bits end next) where
  abbrev run : Run
  run = record { x0 = x; x1 = end }

  one_run_more : AreRunsOfBits bits width next (runs ++ run ∷ [])
  one_run_more =
      let all : List Run = runs ++ run ∷ [] in
      let len : length all ≡ length runs + 1 = length-append runs (run ∷ []) in
      let here : run_at all (length runs) ≡ run = at_new runs run (length runs) refl in
      record {
        some = λ i below. each_run_more runs run (λ r. r.x0 < r.x1) i below (λ before. are.some i before) some;
        left = λ i below. each_run_more runs run (λ r. r.x1 ≤ next) i below (λ before. omega (arith, are.left i before, some, on)) on;
        blacks = λ i k below. each_run_more runs run (λ r. r.x0 ≤ k → k < r.x1 → pixel bits k ≡ 1) i below (λ before. are.blacks i k before) (blacks k);
        maximal = λ i below. each_run_more runs run (λ r. r.x1 < width → pixel bits r.x1 ≡ 0) i below (λ before. are.maximal i before) ended;
        order = λ i j less below.
            let first : run_at all i ≡ run_at runs i = at_old runs run i (omega (arith, less, below, len)) in
            each_run_more runs run (λ r. (run_at all i).x1 ≤ r.x0) j below
            (λ before. subst (λ (r : Run). r.x1 ≤ (run_at runs j).x0) (sym first) (are.order i j less before))
            (subst (λ (r : Run). r.x1 ≤ x) (sym first) (are.left i (omega (arith, less, below, len))));
        every = λ k left black. elim (cases_lt k x) [
          | inl before ↦
              let there = are.every k before black in
              let same : run_at all there.0 ≡ run_at runs there.0 = at_old runs run there.0 there.1 in
              (there.0, omega (arith, there.1, len), subst (λ (r : Run). r.x0 ≤ k) (sym same) there.2, subst (λ (r : Run). k < r.x1) (sym same) there.3)
          | inr from ↦ elim (cases_lt k end) [
            | inl inside ↦ (length runs, omega (arith, len), subst (λ (r : Run). r.x0 ≤ k) (sym here) from, subst (λ (r : Run). k < r.x1) (sym here) inside)
            | inr past ↦ absurd (omega (arith, whites k past left, black))
          ]
        ];
        few = omega (arith, are.few, len, some, on);
      }

pub run_added : (bits : List ℕ) (width x end next : ℕ) (old now : List Run) → AddsRow bits width x old now
    → x < end → end ≤ next → AreAll 1 bits x end → (end < width → pixel bits end ≡ 0) → AreAll 0 bits end next
    → AddsRow bits width next old (now ++ (record { x0 = x; x1 = end }) ∷ [])
run_added bits width x end next old now added some on blacks ended whites =
    let last : List Run = run bits width x end next added.more added.are some on blacks ended whites ∷ [] in
    record {
      more = added.more ++ last;
      is = ap (λ (l : List Run). l ++ last) added.is ∙ append_assoc old added.more last;
      are = one_run_more bits width x end next added.more added.are some on blacks ended whites;
    }

-- a white column is not the black one before
pub ends_after : (bits : List ℕ) (x end width : ℕ) → x ≤ end → x < width → pixel bits x ≡ 1 → (end < width → pixel bits end ≡ 0) → x < end
ends_after bits x end width from within black ended = elim (cases_lt x end) [
  | inl less ↦ less
  | inr not_less ↦
      let same : end ≡ x = omega (arith, from, not_less) in
      absurd (omega (arith, ended (omega (arith, same, within)), ap (pixel bits) same, black))
]

-- no maximal run touches the next one
pub runs_apart : (bits : List ℕ) (width : ℕ) (runs : List Run) → AreRunsOfBits bits width width runs → AreApart width runs
runs_apart bits width runs are = record {
  some = are.some;
  within = are.left;
  apart = λ i j less below. elim (cases_lt (run_at runs i).x1 (run_at runs j).x0) [
    | inl apart ↦ apart
    | inr touching ↦
        let right = are.some j below in
        let same : (run_at runs i).x1 ≡ (run_at runs j).x0 = omega (arith, touching, are.order i j less below) in
        let black = are.blacks j (run_at runs j).x0 below (omega arith) right in
        let white = are.maximal i (omega (arith, less, below)) (omega (arith, same, right, are.left j below)) in
        absurd (omega (arith, white, ap (pixel bits) same, black))
  ];
}

-- runs within some columns, none of which is empty or lies before the end of the one before, are at most as many as the columns
few_within : (width : ℕ) (runs : List Run) → ((i : ℕ) → i < length runs → (run_at runs i).x0 < (run_at runs i).x1) → ((i : ℕ) → i < length runs → (run_at runs i).x1 ≤ width)
    → ((i j : ℕ) → i < j → j < length runs → (run_at runs i).x1 ≤ (run_at runs j).x0) → length runs ≤ width
few_within width runs some within order = elim (cases_lt 0 (length runs)) [
  | inl one ↦
      let last = length runs - 1 in
      let below : last < length runs = omega (arith, one) in
      omega (arith, right last below, some last below, within last below)
  | inr none ↦ omega (arith, none)
]
  where
    right : (i : ℕ) → i < length runs → i ≤ (run_at runs i).x0
    right zero below = omega arith
    right (suc i) below =
        let before : i < length runs = omega (arith, below) in
        omega (arith, right i before, some i before, order i (suc i) (omega arith) below)

-- a row has at most as many runs as columns
pub few_runs : (width : ℕ) (runs : List Run) → AreApart width runs → length runs ≤ width
few_runs width runs are = few_within width runs are.some are.within (λ i j less below. omega (arith, are.apart i j less below))

-- what was walked over behind the width is padding
pub row_ended : (bits : List ℕ) (width x : ℕ) (old now : List Run) → AddsRow bits width x old now → width ≤ x → ((k : ℕ) → width ≤ k → pixel bits k ≡ 0) → AddsRow bits width width old now
row_ended bits width x old now added past padding =
    let are = added.are in
    let left : (i : ℕ) → i < length added.more → (run_at added.more i).x1 ≤ width = λ i below. elim (cases_lt width (run_at added.more i).x1) [
      | inl outside ↦
          let last = (run_at added.more i).x1 - 1 in
          let black = are.blacks i last below (omega (arith, are.some i below)) (omega (arith, outside)) in
          absurd (omega (arith, black, padding last (omega (arith, outside))))
      | inr inside ↦ inside
    ] in
    record {
      more = added.more;
      is = added.is;
      are = record {
        some = are.some;
        left = left;
        blacks = are.blacks;
        maximal = are.maximal;
        order = are.order;
        every = λ k before black. are.every k (omega (arith, before, past)) black;
        few = few_within width added.more are.some left are.order;
      };
    }
