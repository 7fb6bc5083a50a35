-- A place is black where a run of its row has it.
use Rattle.std.proofs.Common.{◌≡◌, ◌<◌, ◌≤◌, ℕ, Bool, true, false, ◌&&◌, eqb, ltb, List, length, refl, sym, subst, ◌∙◌, arith}
use Rattle.std.specs.List.{list_any}
use Rattle.std.proofs.lemmas.Bool.{lt-ltb, eqb-true}
use Rattle.std.proofs.lemmas.Bool.Decides.{nat_tests}
use Rattle.std.proofs.lemmas.List.{get_or_default}
use Rattle.std.proofs.lemmas.List.Folds.{Any-from_list_any, list_any_at}
use Rattle.packed_rows.specs.Page.{pixel}
use Rattle.page_runs.specs.declared.row_runs.Run.{Run}
use Rattle.page_runs.specs.Packed.{Packed, page_of, row_of}
use Rattle.page_runs.specs.Runs.{run_at, no_run, has_column, AreApart, AreRunsOf, AreRunsOfBits}

has_left : (x : ℕ) (run : Run) → has_column x run ≡ true → run.x0 ≤ x
has_left x run has = grind (arith, nat_tests)

has_right : (x : ℕ) (run : Run) → has_column x run ≡ true → x < run.x1
has_right x run has = grind (arith, nat_tests)

has_both : (x : ℕ) (run : Run) → run.x0 ≤ x → x < run.x1 → has_column x run ≡ true
has_both x run left right = grind (arith, nat_tests)

-- a run that has the column
pub record HasRunAt (x : ℕ) (runs : List Run) : Type 0 where
  pub index : ℕ
  pub below : index < length runs
  pub left : (run_at runs index).x0 ≤ x
  pub right : x < (run_at runs index).x1

pub run_found : (x : ℕ) (runs : List Run) → list_any (has_column x) runs ≡ true → HasRunAt x runs
run_found x runs some =
    let any = Any-from_list_any (has_column x) runs some in
    let is : run_at runs any.0 ≡ any.1 = sym (get_or_default runs any.0 any.1 no_run any.2) ∙ any.3 in
    record {
      index = any.0;
      below = any.2;
      left = subst (λ (r : Run). r.x0 ≤ x) (sym is) (has_left x any.1 any.4);
      right = subst (λ (r : Run). x < r.x1) (sym is) (has_right x any.1 any.4);
    }

pub run_finds : (x : ℕ) (runs : List Run) (i : ℕ) → i < length runs → (run_at runs i).x0 ≤ x → x < (run_at runs i).x1 → list_any (has_column x) runs ≡ true
run_finds x runs i below left right = list_any_at (has_column x) runs i no_run below (has_both x (run_at runs i) left right)

-- the runs of packed bytes have the columns of the black pixels
pub black_in_runs : (bits : List ℕ) (width : ℕ) (runs : List Run) (x : ℕ) → AreRunsOfBits bits width width runs → x < width
    → list_any (has_column x) runs ≡ eqb (pixel bits x) 1
black_in_runs bits width runs x are within = cases (list_any (has_column x) runs) (eqb (pixel bits x) 1) refl refl
  where
    cases : (a b : Bool) → list_any (has_column x) runs ≡ a → eqb (pixel bits x) 1 ≡ b → a ≡ b
    cases true true any one = refl
    cases false false any one = refl
    cases true false any one =
        let there = run_found x runs any in
        let black : pixel bits x ≡ 1 = are.blacks there.index x there.below there.left there.right in
        absurd (let e : eqb (pixel bits x) 1 ≡ true = grind (arith, nat_tests) in cc)
    cases false true any one =
        let there = are.every x within (eqb-true (pixel bits x) 1 one) in
        let found = run_finds x runs there.0 there.1 there.2 there.3 in
        absurd cc

both : (a b : Bool) → (a && b) ≡ true → b ≡ true
both true b is = is
both false b is = absurd cc

-- the runs of a row that is there are those of its black places
pub runs_of_row : (p : Packed) (y : ℕ) → y < p.height → AreApart p.width (row_of p y) → AreRunsOf (page_of p) y (row_of p y)
unfolding page_of
runs_of_row p y below apart = record {
  apart = apart;
  blacks = λ i x there left right.
      let found = run_finds x (row_of p y) i there left right in
      let narrow : ltb x p.width ≡ true = lt-ltb x p.width (omega (arith, right, apart.within i there)) in
      let high : ltb y p.height ≡ true = lt-ltb y p.height below in
      rw (narrow, high, found) refl;
  every = λ x black.
      let there = run_found x (row_of p y) (both (ltb x p.width && ltb y p.height) (list_any (has_column x) (row_of p y)) black) in
      (there.index, there.below, there.left, there.right);
}
