-- The groups of runs that touch a run become one.
use Rattle.std.proofs.Common.{◌≡◌, ◌<◌, ◌≤◌, ℕ, ◌+◌, List, length, inl, inr, refl, sym, subst, ◌∙◌, arith}
use Rattle.std.specs.Prelude.{slice_index}
use Rattle.std.proofs.lemmas.Bool.{cases_lt}
use Rattle.page_runs.specs.Page.{Page}
use Rattle.page_runs.specs.Runs.{run_at, AreApart}
use Rattle.page_runs.specs.declared.row_runs.Run.{Run}
use Rattle.components.specs.declared.placed_run.PlacedRun.{PlacedRun}
use Rattle.components.specs.declared.groups.Group.{Group}
use Rattle.components.specs.Connected.{IsConnected}
use Rattle.components.specs.Runs.{AreTouching, first_of}
use Rattle.components.specs.Groups.{AreRooted, AreGrouped, AreJoined, AreAllJoined, CanJoin, Joins, Member, group_at, member_at}
use Rattle.components.proofs.Spreading.{first_in, touching_connected}
use Rattle.components.proofs.Grouping.{ways_changed}

-- groups of which two roots were looked for
pub record WereFound (page : Page) (members : List Member) (one other : ℕ) (root : ℕ → ℕ) (first second : ℕ) (groups : List Group) : Type 0 where
  pub grouped : AreGrouped page members groups root
  pub first_is : first ≡ root one
  pub second_is : second ≡ root other

pub both_found : (page : Page) (members : List Member) (one other : ℕ) (root : ℕ → ℕ) (first second : ℕ) (old mid new : List Group) → AreGrouped page members old root
    → length mid ≡ length old → ((g : ℕ) → (group_at mid g).bounds ≡ (group_at old g).bounds) → ((r : ℕ → ℕ) → AreRooted old r → AreRooted mid r × (first ≡ r one))
    → length new ≡ length mid → ((g : ℕ) → (group_at new g).bounds ≡ (group_at mid g).bounds) → ((r : ℕ → ℕ) → AreRooted mid r → AreRooted new r × (second ≡ r other))
    → WereFound page members one other root first second new
both_found page members one other root first second old mid new was mid_len mid_bounds mid_rooted new_len new_bounds new_rooted =
    let one_way = mid_rooted root was.rooted in
    let other_way = new_rooted root one_way.0 in
    record {
      grouped = ways_changed page members mid new root (ways_changed page members old mid root was one_way.0 mid_len mid_bounds) other_way.0 new_len new_bounds;
      first_is = one_way.1;
      second_is = other_way.1;
    }

-- they have one root already
pub joined_before : (page : Page) (members : List Member) (one other : ℕ) (root : ℕ → ℕ) (first second : ℕ) (groups : List Group) → WereFound page members one other root first second groups
    → first ≡ second → AreJoined page members one other root groups
joined_before page members one other root first second groups found same = record {
  now = root;
  grouped = found.grouped;
  coarser = λ g h e. e;
  together = sym found.first_is ∙ same ∙ found.second_is;
}

-- where one run begins right of a column, so do the next ones
pub all_right : (width : ℕ) (row : List Run) (x first : ℕ) → AreApart width row → first < length row → x < (run_at row first).x0
    → (k : ℕ) → first ≤ k → k < length row → x < (run_at row k).x0
all_right width row x first apart below right k from to = elim (cases_lt first k) [
  | inl less ↦ omega (arith, right, apart.some first below, apart.apart first k less to)
  | inr at ↦ let e : first ≡ k = omega (arith, at, from) in subst (λ (i : ℕ). x < (run_at row i).x0) e right
]

-- where one run ends at a column or right of it, so do the next ones
pub all_reach : (width : ℕ) (row : List Run) (x first : ℕ) → AreApart width row → first < length row → x ≤ (run_at row first).x1
    → (k : ℕ) → first ≤ k → k < length row → x ≤ (run_at row k).x1
all_reach width row x first apart below reach k from to = elim (cases_lt first k) [
  | inl less ↦ omega (arith, reach, apart.some k to, apart.apart first k less to)
  | inr at ↦ let e : first ≡ k = omega (arith, at, from) in subst (λ (i : ℕ). x ≤ (run_at row i).x1) e reach
]

module _ (page : Page) (members : List Member) (up : List Run) (above : List ℕ) (from : ℕ) (run : PlacedRun) (group : ℕ)
    (old : List Group) (root : ℕ → ℕ) (can : CanJoin page members up above from run group old root) where
  -- none was looked at
  pub none_joined : AreAllJoined page members up above from from run group root old
  none_joined = record { now = root; grouped = can.grouped; coarser = λ g h e. e; together = λ i begun less. absurd (omega (arith, begun, less)) }

  -- the next run touches
  pub one_joined : (i : ℕ) (mid new : List Group) → AreAllJoined page members up above from i run group root mid → from ≤ i → i < length up → length above ≡ length up
      → (run_at up i).x0 ≤ run.x1 → ((r : ℕ → ℕ) → Joins page members group (slice_index above i) mid r new)
      → AreAllJoined page members up above from (i + 1) run group root new
  one_joined i mid new before begun there len left joins =
      let listed = can.listed i (omega (arith, there, len)) in
      let member : Member = record { run = run; group = group } in
      let other : Member = member_at listed.0 up above i in
      let touch : AreTouching run other.run = record {
        above = omega (arith, listed.1);
        below = omega (arith, listed.1);
        left = can.right i begun there;
        right = left;
      } in
      let black = before.grouped.black member can.member in
      let too = before.grouped.black other listed.2 in
      let linked : IsConnected page (first_of run) (first_of other.run) =
      touching_connected page run other.run black too touch (first_of run) (first_of other.run) (first_in page run black) (first_in page other.run too) in
      let joined = joins before.now before.grouped member other can.member listed.2 refl refl linked in
      record {
        now = joined.now;
        grouped = joined.grouped;
        coarser = λ g h e. joined.coarser g h (before.coarser g h e);
        together = λ k after less reach. elim (cases_lt k i) [
          | inl earlier ↦ joined.coarser group (slice_index above k) (before.together k after earlier reach)
          | inr late ↦
              let here : i ≡ k = omega (arith, late, less) in
              subst (λ (j : ℕ). joined.now group ≡ joined.now (slice_index above j)) here joined.together
        ];
      }

  -- no further run touches
  pub rest_apart : (i : ℕ) (new : List Group) → AreAllJoined page members up above from i run group root new → i < length up → run.x1 < (run_at up i).x0
      → AreAllJoined page members up above from (length up) run group root new
  rest_apart i new before there right = record {
    now = before.now;
    grouped = before.grouped;
    coarser = before.coarser;
    together = λ k after less reach. elim (cases_lt k i) [
      | inl earlier ↦ before.together k after earlier reach
      | inr late ↦ absurd (omega (arith, reach, all_right page.width up run.x1 i can.apart there right k late less))
    ];
  }

  -- all were looked at
  pub all_joined : (i : ℕ) (new : List Group) → AreAllJoined page members up above from i run group root new → length up ≤ i
      → AreAllJoined page members up above from (length up) run group root new
  all_joined i new before end = record {
    now = before.now;
    grouped = before.grouped;
    coarser = before.coarser;
    together = λ k after less reach. before.together k after (omega (arith, less, end)) reach;
  }
