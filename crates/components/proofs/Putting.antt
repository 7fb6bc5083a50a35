-- Runs of a row are put into groups, one after the other.
use Rattle.std.proofs.Common.{◌≡◌, ◌<◌, ◌≤◌, ℕ, ◌+◌, ◌-◌, Result, Ok, Err, List, [], ◌∷◌, ◌++◌, length, get_or, set, inl, inr, refl, sym, ap, subst, ◌∙◌, arith}
use Rattle.std.specs.Prelude.{Contains, IfOk, slice_index}
use Rattle.std.proofs.lemmas.Bool.{cases_lt}
use Rattle.std.proofs.lemmas.List.{get_or-append_right, get_or_append_left, length-append}
use Rattle.page_runs.specs.Page.{Page}
use Rattle.page_runs.specs.Runs.{run_at, AreApart, AreRunsOf}
use Rattle.page_runs.specs.declared.row_runs.Run.{Run}
use Rattle.components.specs.declared.placed_run.PlacedRun.{PlacedRun}
use Rattle.components.specs.declared.groups.Group.{Group}
use Rattle.components.specs.Around.{bounds_of, widened}
use Rattle.components.specs.Runs.{IsBlackRun, AreTouching, placed}
use Rattle.components.specs.Groups.{AreRooted, AreGrouped, ArePartition, AreAllJoined, CanJoin, CanPut, IsDone, IsDoneAbove, IsDoneUpTo, IsRowListed, Member, group_at, member_at}
use Rattle.components.proofs.Spreading.{touching_back}
use Rattle.components.proofs.Grouping.{each_member, is_last, still_there, run_added, run_begun, ways_changed}
use Rattle.components.proofs.Joining.{all_reach, all_right}

pub if_both : {X Y : Type 0} (r : Result X Y) (P Q R : X → Type 0) → ((x : X) → P x → Q x → R x) → IfOk r P → IfOk r Q → IfOk r R
if_both (Ok x) P Q R both p q = both x p q
if_both (Err y) P Q R both p q = tt

-- ---- one run

module _ (page : Page) (members : List Member) (up : List Run) (above : List ℕ) (near : ℕ) (run : PlacedRun) (groups : List Group)
    (can : CanPut page members up above near run groups) where
  abbrev was : AreGrouped page members groups can.partition.root
  was = can.partition.grouped

  -- a member that touches the run is one of the runs of the row above
  above_or_no : (m : Member) → Contains members m → AreTouching run m.run → (i : ℕ) × (i < length above) × (m ≡ member_at m.run.row up above i)
  above_or_no m there touch = elim (cases_lt m.run.row run.row) [
    | inl higher ↦ can.listed.only m there (omega (arith, higher, touch.above))
    | inr level ↦ absurd (can.lone m there (omega (arith, level, can.not_below m there)) touch)
  ]

  -- no run of the row above touches
  pub none_touches : (near < length up → run.x1 < (run_at up near).x0) → (m : Member) → Contains members m → AreTouching run m.run → ⊥
  none_touches right m there touch =
      let found = above_or_no m there touch in
      let i = found.0 in
      let x0 : m.run.x0 ≡ (run_at up i).x0 = ap (λ (k : Member). k.run.x0) found.2 in
      let x1 : m.run.x1 ≡ (run_at up i).x1 = ap (λ (k : Member). k.run.x1) found.2 in
      elim (cases_lt i near) [
        | inl less ↦ omega (arith, can.left i less, x1, touch.left)
        | inr not_less ↦
            let inside : i < length up = omega (arith, found.1, can.listed.len) in
            let there : near < length up = omega (arith, not_less, inside) in
            omega (arith, all_right page.width up run.x1 near can.apart there (right there) i not_less inside, x0, touch.right)
      ]

  -- the run begins a group
  module _ (right : near < length up → run.x1 < (run_at up near).x0) where
    abbrev own : Member
    own = record { run = run; group = length groups }

    alone : ArePartition page (members ++ own ∷ []) (groups ++ (record { parent = length groups; bounds = bounds_of run }) ∷ [])
    alone = record {
      root = can.partition.root;
      grouped = run_begun page members groups can.partition.root was run can.black;
      met = λ m n m_in n_in. each_member page members own (λ m. AreTouching m.run n.run → can.partition.root m.group ≡ can.partition.root n.group)
          (λ m old. each_member page members own (λ n. AreTouching m.run n.run → can.partition.root m.group ≡ can.partition.root n.group)
          (λ n too. can.partition.met m n old too) (λ touch. absurd (none_touches right m old (touching_back m.run run touch))) n n_in)
          (each_member page members own (λ n. AreTouching run n.run → can.partition.root (length groups) ≡ can.partition.root n.group)
          (λ n too touch. absurd (none_touches right n too touch)) (λ _. refl) n n_in)
          m m_in;
    }

    pub put_alone : (g : ℕ) → g ≡ length groups → (new : List Group)
        → new ≡ groups ++ (record { parent = g; bounds = bounds_of run }) ∷ [] → ArePartition page (members ++ (record { run = run; group = g }) ∷ []) new
    put_alone g is new begun =
        subst (λ (k : ℕ). new ≡ groups ++ (record { parent = k; bounds = bounds_of run }) ∷ [] → ArePartition page (members ++ (record { run = run; group = k }) ∷ []) new) (sym is)
        (λ same. subst (ArePartition page (members ++ own ∷ [])) (sym same) alone) begun

  module _ (there : near < length up) (left : (run_at up near).x0 ≤ run.x1) (len : length above ≡ length up) where
    near_there : near < length above
    near_there = omega (arith, there, len)

    abbrev other : Member
    other = member_at (can.listed.has near near_there).0 up above near

    touches_near : AreTouching run other.run
    touches_near = record {
      above = omega (arith, (can.listed.has near near_there).1);
      below = omega (arith, (can.listed.has near near_there).1);
      left = can.right there;
      right = left;
    }

    module _ (g : ℕ) (found new : List Group)
        (rooted : (root : ℕ → ℕ) → AreRooted groups root → AreRooted found root × (g ≡ root (slice_index above near)))
        (found_len : length found ≡ length groups) (bounds : (h : ℕ) → (group_at found h).bounds ≡ (group_at groups h).bounds)
        (added : new ≡ set found g (record { parent = (group_at found g).parent; bounds = widened (group_at found g).bounds run })) where
      abbrev root : ℕ → ℕ
      root = can.partition.root

      abbrev last : Member
      last = record { run = run; group = g }

      same_roots : AreGrouped page members found root
      same_roots = ways_changed page members groups found root was (rooted root was.rooted).0 found_len bounds

      g_is : g ≡ root other.group
      g_is = (rooted root was.rooted).1

      with_run : AreGrouped page (members ++ last ∷ []) new root
      with_run = subst (λ (gs : List Group). AreGrouped page (members ++ last ∷ []) gs root) (sym added)
          (run_added page members found root same_roots run can.black other (can.listed.has near near_there).2 touches_near g g_is)

      pub can_join : CanJoin page (members ++ last ∷ []) up above (near + 1) run g new root
      can_join = record {
        grouped = with_run;
        member = is_last page members last;
        listed = λ i below.
            let has = can.listed.has i below in
            (has.0, has.1, still_there page members last (member_at has.0 up above i) has.2);
        apart = can.apart;
        right = λ i from below. all_reach page.width up run.x0 near can.apart there (can.right there) i (omega (arith, from)) below;
      }

      g_root : root g ≡ root other.group
      g_root =
          let valid = same_roots.rooted.within other.group (same_roots.valid other (can.listed.has near near_there).2) in
          ap root g_is ∙ same_roots.rooted.itself (root other.group) valid (same_roots.rooted.ends other.group (same_roots.valid other (can.listed.has near near_there).2))

      pub put_joined : (after : List Group) → AreAllJoined page (members ++ last ∷ []) up above (near + 1) (length up) run g root after
          → ArePartition page (members ++ last ∷ []) after
      put_joined after joined = record {
        root = joined.now;
        grouped = joined.grouped;
        met = λ m n m_in n_in. each_member page members last (λ m. AreTouching m.run n.run → joined.now m.group ≡ joined.now n.group)
            (λ m old. each_member page members last (λ n. AreTouching m.run n.run → joined.now m.group ≡ joined.now n.group)
            (λ n too touch. joined.coarser m.group n.group (can.partition.met m n old too touch)) (λ touch. sym (to_run m old (touching_back m.run run touch))) n n_in)
            (each_member page members last (λ n. AreTouching run n.run → joined.now g ≡ joined.now n.group)
            to_run (λ _. refl) n n_in)
            m m_in;
      }
        where
          at_place : (i : ℕ) → i < length up → AreTouching run (placed (run.row - 1) (run_at up i)) → joined.now g ≡ joined.now (slice_index above i)
          at_place i below touch = elim (cases_lt near i) [
            | inl right ↦ joined.together i (omega (arith, right)) below touch.right
            | inr not_right ↦ elim (cases_lt i near) [
              | inl before ↦ absurd (omega (arith, can.left i before, touch.left))
              | inr not_before ↦
                  let here : near ≡ i = omega (arith, not_right, not_before) in
                  subst (λ (k : ℕ). joined.now g ≡ joined.now (slice_index above k)) here (joined.coarser g other.group g_root)
            ]
          ]

          to_run : (m : Member) → Contains members m → AreTouching run m.run → joined.now g ≡ joined.now m.group
          to_run m m_in touch =
              let place = above_or_no m m_in touch in
              let x0 : m.run.x0 ≡ (run_at up place.0).x0 = ap (λ (k : Member). k.run.x0) place.2 in
              let x1 : m.run.x1 ≡ (run_at up place.0).x1 = ap (λ (k : Member). k.run.x1) place.2 in
              at_place place.0 (omega (arith, place.1, len)) (record { above = omega arith; below = omega arith; left = omega (arith, touch.left, x1); right = omega (arith, touch.right, x0) })
              ∙ ap (λ (k : Member). joined.now k.group) (sym place.2)

-- ---- the runs of a row

pub none_done : (page : Page) (y : ℕ) (up : List Run) (above : List ℕ) (row : List Run) (groups : List Group) → IsDoneAbove page y up above groups → IsDoneUpTo page y up above row [] groups
none_done page y up above row groups done = record {
  members = done.members;
  partition = done.partition;
  not_below = λ m there. omega (arith, done.above m there);
  every = done.every;
  listed = done.listed;
  here = record {
    len = omega arith;
    has = λ i below. absurd (omega (arith, below));
    only = λ m there level. absurd (omega (arith, level, done.above m there));
  };
}

module _ (page : Page) (y : ℕ) (up : List Run) (above : List ℕ) (row : List Run) (labels : List ℕ) (near place : ℕ) (groups : List Group)
    (are : AreRunsOf page y row) (high : y < page.height) (apart_up : AreApart page.width up) (done : IsDoneUpTo page y up above row labels groups)
    (len : length labels ≡ place) (there : place < length row) where
  abbrev run : PlacedRun
  run = placed y (run_at row place)

  run_black : IsBlackRun page run
  run_black = record {
    some = are.apart.some place there;
    blacks = λ p p_in. record {
      in_row = omega (arith, p_in.right, are.apart.within place there);
      in_column = omega (arith, p_in.level, high);
      black = ap (λ (v : ℕ). page.is_black p.x v) p_in.level ∙ are.blacks place p.x there p_in.left p_in.right;
    };
  }

  run_lone : (m : Member) → Contains done.members m → m.run.row ≡ y → AreTouching run m.run → ⊥
  run_lone m m_in level touch =
      let found = done.here.only m m_in (omega (arith, level)) in
      let x1 : m.run.x1 ≡ (run_at row found.0).x1 = ap (λ (k : Member). k.run.x1) found.2 in
      omega (arith, are.apart.apart found.0 place (omega (arith, found.1, len)) there, x1, touch.left)

  pub can_put : ((i : ℕ) → i < near → (run_at up i).x1 < run.x0) → (near < length up → run.x0 ≤ (run_at up near).x1) → CanPut page done.members up above near run groups
  can_put left right = record {
    partition = done.partition;
    black = run_black;
    not_below = done.not_below;
    lone = run_lone;
    listed = done.listed;
    apart = apart_up;
    left = left;
    right = right;
  }

  module _ (g : ℕ) (new : List Group) (put : ArePartition page (done.members ++ (record { run = run; group = g }) ∷ []) new) where
    abbrev newest : Member
    newest = record { run = run; group = g }

    abbrev all : List Member
    all = done.members ++ newest ∷ []

    label_old : (i : ℕ) → i < length labels → slice_index (labels ++ g ∷ []) i ≡ slice_index labels i
    label_old i below = get_or_append_left labels (g ∷ []) 0 i below

    label_new : (i : ℕ) → i ≡ length labels → slice_index (labels ++ g ∷ []) i ≡ g
    label_new i at =
        let e : i - i ≡ 0 = omega arith in
        get_or-append_right labels (g ∷ []) i i 0 (sym at) (omega arith) ∙ ap (λ (k : ℕ). get_or (g ∷ []) k 0) e

    labels_len : length (labels ++ g ∷ []) ≡ length labels + 1
    labels_len = length-append labels (g ∷ [])

    member_old : (v i : ℕ) → i < length labels → member_at v row labels i ≡ member_at v row (labels ++ g ∷ []) i
    member_old v i below =
        let at : ℕ → Member = λ k. record { run = placed v (run_at row i); group = k } in
        ap at (sym (label_old i below))

    member_new : newest ≡ member_at y row (labels ++ g ∷ []) place
    member_new =
        let at : ℕ → Member = λ k. record { run = run; group = k } in
        ap at (sym (label_new place (sym len)))

    listed_more : IsRowListed all (y + 1) row (labels ++ g ∷ [])
    listed_more = record {
      len = omega (arith, labels_len, len, there);
      has = λ i below. elim (cases_lt i (length labels)) [
        | inl old ↦
            let has = done.here.has i old in
            (has.0, has.1, still_there page done.members newest (member_at has.0 row (labels ++ g ∷ []) i) (subst (Contains done.members) (member_old has.0 i old) has.2))
        | inr late ↦
            let at : place ≡ i = omega (arith, late, below, labels_len, len) in
            (y, refl, subst (λ (k : ℕ). Contains all (member_at y row (labels ++ g ∷ []) k)) at (subst (Contains all) member_new (is_last page done.members newest)))
      ];
      only = λ m m_in. each_member page done.members newest
          (λ m. m.run.row + 1 ≡ y + 1 → (i : ℕ) × (i < length (labels ++ g ∷ [])) × (m ≡ member_at m.run.row row (labels ++ g ∷ []) i))
          (λ m old level. let found = done.here.only m old level in (found.0, omega (arith, found.1, labels_len), found.2 ∙ member_old m.run.row found.0 found.1))
          (λ _. (place, omega (arith, labels_len, len), member_new)) m m_in;
    }

    listed_still : IsRowListed all y up above
    listed_still = record {
      len = done.listed.len;
      has = λ i below. let has = done.listed.has i below in (has.0, has.1, still_there page done.members newest (member_at has.0 up above i) has.2);
      only = λ m m_in. each_member page done.members newest (λ m. m.run.row + 1 ≡ y → (i : ℕ) × (i < length above) × (m ≡ member_at m.run.row up above i))
          done.listed.only (λ level. absurd (omega (arith, level))) m m_in;
    }

    pub one_done : IsDoneUpTo page y up above row (labels ++ g ∷ []) new
    one_done = record {
      members = all;
      partition = put;
      not_below = each_member page done.members newest (λ m. m.run.row ≤ y) done.not_below (omega arith);
      every = λ p low black. let found = done.every p low black in (found.0, still_there page done.members newest found.0 found.1, found.2);
      listed = listed_still;
      here = listed_more;
    }

-- each run of the row has a group that is there
pub labels_valid : (labels : List ℕ) (g old new : ℕ) → ((i : ℕ) → i < length labels → slice_index labels i < old) → old ≤ new → g < new
    → (i : ℕ) → i < length (labels ++ g ∷ []) → slice_index (labels ++ g ∷ []) i < new
labels_valid labels g old new valid more below i there = elim (cases_lt i (length labels)) [
  | inl before ↦ omega (arith, get_or_append_left labels (g ∷ []) 0 i before, valid i before, more)
  | inr late ↦
      let at : i ≡ length labels = omega (arith, late, there, length-append labels (g ∷ [])) in
      let e : i - i ≡ 0 = omega arith in
      let is : get_or (labels ++ g ∷ []) i 0 ≡ g =
      get_or-append_right labels (g ∷ []) i i 0 (sym at) (omega arith) ∙ ap (λ (k : ℕ). get_or (g ∷ []) k 0) e in
      omega (arith, is, below)
]

-- all runs of the row are done
pub row_done : (page : Page) (y : ℕ) (up : List Run) (above : List ℕ) (row : List Run) (labels : List ℕ) (groups : List Group) → AreRunsOf page y row
    → IsDoneUpTo page y up above row labels groups → length labels ≡ length row → IsDoneAbove page (y + 1) row labels groups
row_done page y up above row labels groups are done len = record {
  members = done.members;
  partition = done.partition;
  above = λ m there. omega (arith, done.not_below m there);
  every = λ p low black. elim (cases_lt p.y y) [
    | inl higher ↦ done.every p higher black
    | inr not_higher ↦
        let level : p.y ≡ y = omega (arith, low, not_higher) in
        let found = are.every p.x (ap (λ (v : ℕ). page.is_black p.x v) (sym level) ∙ black.black) in
        let has = done.here.has found.0 (omega (arith, found.1, len)) in (
          member_at has.0 row labels found.0,
          has.2,
          record { level = omega (arith, level, has.1); left = found.2; right = found.3 },
        )
  ];
  listed = done.here;
  apart = are.apart;
}

-- no row is done
pub none_above : (page : Page) → IsDoneAbove page 0 [] [] []
none_above page = record {
  members = [];
  partition = record {
    root = λ g. g;
    grouped = record {
      rooted = record {
        back = λ g below. absurd (omega (arith, below));
        on_the_way = λ g below. absurd (omega (arith, below));
        itself = λ g below. absurd (omega (arith, below));
        within = λ g below. absurd (omega (arith, below));
        ends = λ g below. absurd (omega (arith, below));
        others = λ g behind. refl;
      };
      valid = λ m there. absurd (omega (arith, there.1));
      black = λ m there. absurd (omega (arith, there.1));
      sound = λ m n there. absurd (omega (arith, there.1));
      inside = λ m p there. absurd (omega (arith, there.1));
      some = λ g below. absurd (omega (arith, below));
    };
    met = λ m n there. absurd (omega (arith, there.1));
  };
  above = λ m there. absurd (omega (arith, there.1));
  every = λ p low. absurd (omega (arith, low));
  listed = record {
    len = omega arith;
    has = λ i below. absurd (omega (arith, below));
    only = λ m there. absurd (omega (arith, there.1));
  };
  apart = record {
    some = λ i below. absurd (omega (arith, below));
    within = λ i below. absurd (omega (arith, below));
    apart = λ i j less below. absurd (omega (arith, below));
  };
}

-- all rows are done
pub all_done : (page : Page) (y : ℕ) (row : List Run) (labels : List ℕ) (groups : List Group) → IsDoneAbove page y row labels groups → page.height ≤ y → IsDone page groups
all_done page y row labels groups done end = record {
  members = done.members;
  partition = done.partition;
  every = λ p black. done.every p (omega (arith, black.in_column, end)) black;
}
