-- Places of runs that touch are connected, and places that are near one another lie in runs that touch.
use Rattle.std.proofs.Common.{◌≡◌, ◌<◌, ◌≤◌, ℕ, zero, suc, ◌+◌, ◌-◌, max, inl, inr, refl, sym, ap, subst, ◌∙◌, arith}
use Rattle.std.proofs.lemmas.Bool.{cases_lt}
use Rattle.page_runs.specs.Page.{Page}
use Rattle.components.specs.declared.place.Place.{Place}
use Rattle.components.specs.declared.placed_run.PlacedRun.{PlacedRun}
use Rattle.components.specs.Connected.{IsBlack, AreNeighbours, IsConnected}
use Rattle.components.specs.Runs.{IsInRun, IsBlackRun, AreTouching, first_of, last_of}
use Rattle.components.proofs.Paths.{connected_itself, one_step_path, onwards, connected_back}

abbrev at : ℕ → ℕ → Place
at x y = record { x = x; y = y }

place_in : (p : Place) (x y : ℕ) → p.x ≡ x → p.y ≡ y → at x y ≡ p
place_in p x y same_x same_y = ap (λ (u : ℕ). at u y) (sym same_x) ∙ ap (λ (v : ℕ). at p.x v) (sym same_y)

pub first_in : (page : Page) (run : PlacedRun) → IsBlackRun page run → IsInRun run (first_of run)
first_in page run is = record { level = refl; left = omega arith; right = is.some }

pub last_in : (page : Page) (run : PlacedRun) → IsBlackRun page run → IsInRun run (last_of run)
last_in page run is = record { level = refl; left = omega (arith, is.some); right = omega (arith, is.some) }

module _ (page : Page) (run : PlacedRun) (is : IsBlackRun page run) where
  black_at : (x : ℕ) → run.x0 ≤ x → x < run.x1 → IsBlack page (at x run.row)
  black_at x left right = is.blacks (at x run.row) (record { level = refl; left = left; right = right })

  -- the places of a run are connected, going right
  along : (x n : ℕ) → run.x0 ≤ x → x + n < run.x1 → IsConnected page (at x run.row) (at (x + n) run.row)
  along x zero left right =
      let e : x ≡ x + 0 = omega arith in
      subst (λ (k : ℕ). IsConnected page (at x run.row) (at k run.row)) e (connected_itself page (at x run.row) (black_at x left (omega (arith, right))))
  along x (suc n) left right =
      let before = along x n left (omega (arith, right)) in
      let e : x + n + 1 ≡ x + suc n = omega arith in
      let step : IsConnected page (at (x + n) run.row) (at (x + n + 1) run.row) =
      one_step_path page (at (x + n) run.row) (at (x + n + 1) run.row) (black_at (x + n) (omega (arith, left)) (omega (arith, right)))
      (black_at (x + n + 1) (omega (arith, left)) (omega (arith, right)))
      (record { left = omega arith; right = omega arith; above = omega arith; below = omega arith }) in
      onwards page (at x run.row) (at (x + n) run.row) (at (x + suc n) run.row) before
      (subst (λ (k : ℕ). IsConnected page (at (x + n) run.row) (at k run.row)) e step)

  going_right : (p q : Place) → IsInRun run p → IsInRun run q → p.x ≤ q.x → IsConnected page p q
  going_right p q p_in q_in order =
      let e : p.x + (q.x - p.x) ≡ q.x = omega (arith, order) in
      let there = along p.x (q.x - p.x) p_in.left (omega (arith, e, q_in.right)) in
      let from_p = subst (λ (s : Place). IsConnected page s (at (p.x + (q.x - p.x)) run.row)) (place_in p p.x run.row refl p_in.level) there in
      subst (IsConnected page p) (place_in q (p.x + (q.x - p.x)) run.row (sym e) q_in.level) from_p

  -- two places of one run are connected
  pub run_connected : (p q : Place) → IsInRun run p → IsInRun run q → IsConnected page p q
  run_connected p q p_in q_in = elim (cases_lt p.x q.x) [
    | inl less ↦ going_right p q p_in q_in (omega (arith, less))
    | inr not_less ↦ connected_back page q p (going_right q p q_in p_in not_less)
  ]

-- two places of runs that touch are connected
pub touching_connected : (page : Page) (run other : PlacedRun) → IsBlackRun page run → IsBlackRun page other → AreTouching run other
    → (p q : Place) → IsInRun run p → IsInRun other q → IsConnected page p q
touching_connected page run other is too touch p q p_in q_in =
    let s : Place = at (max run.x0 (other.x0 - 1)) run.row in
    let t : Place = at (max other.x0 (run.x0 - 1)) other.row in
    let s_in : IsInRun run s = record { level = refl; left = omega arith; right = omega (arith, is.some, touch.right) } in
    let t_in : IsInRun other t = record { level = refl; left = omega arith; right = omega (arith, too.some, touch.left) } in
    let near : AreNeighbours s t = record {
      left = omega (arith, is.some, too.some, touch.left, touch.right);
      right = omega (arith, is.some, too.some, touch.left, touch.right);
      above = touch.above;
      below = touch.below;
    } in
    let across : IsConnected page s t = one_step_path page s t (is.blacks s s_in) (too.blacks t t_in) near in
    onwards page p s q (run_connected page run is p s p_in s_in) (onwards page s t q across (run_connected page other too t q t_in q_in))

-- the other way round: near places lie in runs that touch
pub near_touching : (run other : PlacedRun) (p q : Place) → IsInRun run p → IsInRun other q → AreNeighbours p q → AreTouching run other
near_touching run other p q p_in q_in near = record {
  above = omega (arith, near.above, p_in.level, q_in.level);
  below = omega (arith, near.below, p_in.level, q_in.level);
  left = omega (arith, near.left, p_in.left, q_in.right);
  right = omega (arith, near.right, p_in.right, q_in.left);
}

pub touching_back : (run other : PlacedRun) → AreTouching run other → AreTouching other run
touching_back run other touch = record { above = touch.below; below = touch.above; left = touch.right; right = touch.left }
