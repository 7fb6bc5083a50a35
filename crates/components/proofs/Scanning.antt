-- Finding one component after the other.
use Rattle.std.proofs.Common.{◌≡◌, ◌≢◌, ◌<◌, ◌+◌, ℕ, List, [], ◌∷◌, ◌++◌, length, get_or, inl, inr, refl, sym, subst, ◌∙◌, arith}
use Rattle.std.specs.Prelude.{Any, Contains}
use Rattle.std.proofs.lemmas.Bool.{cases_lt}
use Rattle.std.specs.List.{AllZip}
use Rattle.std.proofs.lemmas.List.{get_or_append_left, length-append}
use Rattle.std.proofs.lemmas.List.Elements.{All-weaker, All-push, All-nil}
use Rattle.std.proofs.lemmas.List.Quantifiers.{Any-push, all_pairs_push}
use Rattle.page_runs.specs.Page.{Page, IsPageSize}
use Rattle.layout_geom.specs.Sides.{AreSides}
use Rattle.layout_geom.specs.declared.rect.Rect.{Rect}
use Rattle.layout_geom.specs.Rectangles.{Encloses, HasSides}
use Rattle.components.specs.declared.bounds.Bounds.{Bounds}
use Rattle.components.specs.declared.place.Place.{Place}
use Rattle.components.specs.Connected.{IsBlack, IsConnected}
use Rattle.components.specs.Boxes.{IsBoxOf, IsLarge, IsKept}
use Rattle.components.specs.declared.groups.Group.{Group}
use Rattle.components.specs.Runs.{IsInRun, first_of}
use Rattle.components.specs.Groups.{AreGrouped, HasPlace, HasSome, IsDone, Member, group_at}
use Rattle.components.specs.Scanning.{IsScanned, IsSeenBefore, SpreadsOver}
use Rattle.components.specs.Kept.{IsKeptBoxes}
use Rattle.components.proofs.Paths.{connected_itself, onwards, connected_back, end_is_black, spreads}
use Rattle.components.proofs.Spreading.{first_in, run_connected, near_touching}
use Rattle.components.proofs.Bounding.{is_box, are_sides}

-- the box of one place is the box of each place that is connected with it
pub box_moves : (page : Page) (p q : Place) (box : Rect) → IsConnected page p q → IsBoxOf page q box → IsBoxOf page p box
box_moves page p q box c is_box = record {
  round = λ r d. is_box.round r (onwards page q p r (connected_back page p q c) d);
  least = λ other holds. is_box.least other (λ r d. holds r (onwards page p q r c d));
}

-- two boxes of one component are as large
same_large : (page : Page) (p : Place) (box other : Rect) → IsBoxOf page p box → IsBoxOf page p other → IsLarge box → IsLarge other
same_large page p box other is_box is_other large =
    let outer : Encloses other box = is_box.least other is_other.round in
    elim large [
      | inl wide ↦ inl (omega (arith, outer.left, outer.right, wide))
      | inr high ↦ inr (omega (arith, outer.top, outer.bottom, high))
    ]

zip_push : {A B : Type 0} (R : A → B → Type 0) (xs : List A) (ys : List B) (x : A) (y : B) → AllZip R xs ys → R x y → AllZip R (xs ++ x ∷ []) (ys ++ y ∷ [])
zip_push R [] [] x y zip here = (here, tt)
zip_push R [] (w ∷ ys) x y zip here = absurd zip
zip_push R (v ∷ xs) [] x y zip here = absurd zip
zip_push R (v ∷ xs) (w ∷ ys) x y zip here = (zip.0, zip_push R xs ys x y zip.1 here)

any_more : (P : Place → Type 0) (places : List Place) (last : Place) → Any P places → Any P (places ++ last ∷ [])
any_more P places last any = (any.0, any.1, omega (arith, any.2, length-append places (last ∷ [])), get_or_append_left places (last ∷ []) any.1 any.0 any.2 ∙ any.3, any.4)

module _ (page : Page) (old new : Place → Type 0) (boxes : List Rect) (start : Place) (found : Rect)
    (scanned : IsScanned page old boxes) (black : IsBlack page start) (unseen : old start → ⊥)
    (marks : SpreadsOver page start old new) (is_box : IsBoxOf page start found) where
  blacks_still : (p : Place) → new p → IsBlack page p
  blacks_still p m = elim (marks.only p m) [ inl was ↦ scanned.blacks p was | inr c ↦ end_is_black page start p c ]

  closed_still : (p q : Place) → new p → IsConnected page p q → new q
  closed_still p q m c = elim (marks.only p m) [
    | inl was ↦ marks.keeps q (scanned.closed p q was c)
    | inr from ↦ marks.gains q (onwards page start p q from c)
  ]

  -- the component is noise
  pub noise : (IsLarge found → ⊥) → IsScanned page new boxes
  noise small = record {
    blacks = blacks_still;
    closed = closed_still;
    places = scanned.places;
    kept = scanned.kept;
    apart = scanned.apart;
    marked = All-weaker old new marks.keeps scanned.places scanned.marked;
    every = λ p box m kept. elim (marks.only p m) [
      | inl was ↦ scanned.every p box was kept
      | inr c ↦ absurd (small (same_large page start box found (box_moves page start p box c kept.is_box) is_box kept.large))
    ];
  }

  -- the component is kept
  pub one_more : IsLarge found → IsScanned page new (boxes ++ found ∷ [])
  one_more large = record {
    blacks = blacks_still;
    closed = closed_still;
    places = scanned.places ++ start ∷ [];
    kept = zip_push (IsKept page) scanned.places boxes start found scanned.kept (record { black = black; is_box = is_box; large = large });
    apart = all_pairs_push (λ p q. IsConnected page p q → ⊥) scanned.places start scanned.apart (λ k d lt c. unseen (scanned.closed (get_or scanned.places k d) start (scanned.marked k d lt) c));
    marked = All-push new scanned.places start (All-weaker old new marks.keeps scanned.places scanned.marked) (marks.gains start (connected_itself page start black));
    every = λ p box m kept. elim (marks.only p m) [
      | inl was ↦ any_more (IsConnected page p) scanned.places start (scanned.every p box was kept)
      | inr c ↦ Any-push (IsConnected page p) scanned.places start (connected_back page start p c)
    ];
  }

-- nothing was scanned yet
pub scan_begins : (page : Page) (seen : Place → Type 0) → ((p : Place) → seen p → ⊥) → IsScanned page seen []
scan_begins page seen none = record {
  blacks = λ p m. absurd (none p m);
  closed = λ p q m c. absurd (none p m);
  places = [];
  kept = tt;
  apart = λ i j d less lt. absurd (omega (arith, lt));
  marked = All-nil seen;
  every = λ p box m kept. absurd (none p m);
}

-- what was seen is said in another way
pub seen_again : (page : Page) (old new : Place → Type 0) (boxes : List Rect) → ((p : Place) → old p → new p) → ((p : Place) → new p → old p)
    → IsScanned page old boxes → IsScanned page new boxes
seen_again page old new boxes to from scanned = record {
  blacks = λ p m. scanned.blacks p (from p m);
  closed = λ p q m c. to q (scanned.closed p q (from p m) c);
  places = scanned.places;
  kept = scanned.kept;
  apart = scanned.apart;
  marked = All-weaker old new to scanned.places scanned.marked;
  every = λ p box m kept. scanned.every p box (from p m) kept;
}

-- all runs of the page are in groups, and those that touch have one root
module _ (page : Page) (groups : List Group) (done : IsDone page groups) where
  abbrev members : List Member
  members = done.members

  abbrev root : ℕ → ℕ
  root = done.partition.root

  abbrev grouped : AreGrouped page members groups root
  grouped = done.partition.grouped

  -- the place lies in a run of this root
  record IsOfRoot (g : ℕ) (p : Place) : Type 0 where
    one : Member
    listed : Contains members one
    same : root one.group ≡ g
    inside : IsInRun one.run p

  -- connected places lie in runs of one root
  of_one_root : (m : Member) → Contains members m → (p : Place) → IsConnected page (first_of m.run) p → IsOfRoot (root m.group) p
  of_one_root m there p c =
      let black = grouped.black m there in
      spreads page (IsOfRoot (root m.group)) (first_of m.run) (record { one = m; listed = there; same = refl; inside = first_in page m.run black })
      (λ q r to_q q_of r_black near.
      let next = done.every r r_black in
      record {
        one = next.0;
        listed = next.1;
        same = sym (done.partition.met q_of.one next.0 q_of.listed next.1 (near_touching q_of.one.run next.0.run q r q_of.inside next.2 near)) ∙ q_of.same;
        inside = next.2;
      })
      p c

  -- runs that share a place have one root
  one_root : (m n : Member) (p : Place) → Contains members m → Contains members n → IsInRun m.run p → IsInRun n.run p → root m.group ≡ root n.group
  one_root m n p m_in n_in p_in q_in =
      done.partition.met m n m_in n_in (near_touching m.run n.run p p p_in q_in (record { left = omega arith; right = omega arith; above = omega arith; below = omega arith }))

  module _ (g : ℕ) (below : g < length groups) (ends : (group_at groups g).parent ≡ g) where
    abbrev has : HasSome page members groups root g
    has = grouped.some g below (grouped.rooted.itself g below ends)

    abbrev start : Place
    start = first_of has.one.run

    start_in : IsInRun has.one.run start
    start_in = first_in page has.one.run (grouped.black has.one has.listed)

    pub start_black : IsBlack page start
    start_black = (grouped.black has.one has.listed).blacks start start_in

    all_within : (p : Place) → IsConnected page start p → HasPlace (group_at groups g).bounds p
    all_within p c =
        let there = of_one_root has.one has.listed p c in
        subst (λ (r : ℕ). HasPlace (group_at groups r).bounds p) (there.same ∙ has.in_group) (grouped.inside there.one p there.listed there.inside)

    pub root_sides : IsPageSize page.width page.height
        → (let b : Bounds = (group_at groups g).bounds in AreSides b.x0 b.y0 b.x1 b.y1)
    root_sides size = are_sides page start (group_at groups g).bounds has.touched all_within size

    pub root_box : (box : Rect) → (let b : Bounds = (group_at groups g).bounds in HasSides box b.x0 b.y0 b.x1 b.y1) → IsBoxOf page start box
    root_box box sides = is_box page start (group_at groups g).bounds box has.touched all_within sides

    pub start_unseen : IsSeenBefore members root g start → ⊥
    start_unseen seen = omega (arith, seen.before, one_root seen.one has.one start seen.listed has.listed seen.inside start_in, has.in_group)

    pub root_spreads : SpreadsOver page start (IsSeenBefore members root g) (IsSeenBefore members root (g + 1))
    root_spreads = record {
      keeps = λ p seen. record { one = seen.one; listed = seen.listed; before = omega (arith, seen.before); inside = seen.inside };
      gains = λ p c.
          let there = of_one_root has.one has.listed p c in
          record { one = there.one; listed = there.listed; before = omega (arith, there.same, has.in_group); inside = there.inside };
      only = λ p seen. elim (cases_lt (root seen.one.group) g) [
        | inl less ↦ inl (record { one = seen.one; listed = seen.listed; before = less; inside = seen.inside })
        | inr not_less ↦
            let same : root has.one.group ≡ root seen.one.group = omega (arith, has.in_group, not_less, seen.before) in
            let black = grouped.black seen.one seen.listed in
            inr (onwards page start (first_of seen.one.run) p (grouped.sound has.one seen.one has.listed seen.listed same)
            (run_connected page seen.one.run black (first_of seen.one.run) p (first_in page seen.one.run black) seen.inside))
      ];
    }

    module _ (boxes : List Rect) (box : Rect) (scanned : IsScanned page (IsSeenBefore members root g) boxes)
        (sides : let b : Bounds = (group_at groups g).bounds in HasSides box b.x0 b.y0 b.x1 b.y1) where
      pub box_kept : IsLarge box → IsScanned page (IsSeenBefore members root (g + 1)) (boxes ++ box ∷ [])
      box_kept large = one_more page (IsSeenBefore members root g) (IsSeenBefore members root (g + 1)) boxes start box scanned start_black start_unseen root_spreads (root_box box sides) large

      pub box_dropped : (IsLarge box → ⊥) → IsScanned page (IsSeenBefore members root (g + 1)) boxes
      box_dropped small = noise page (IsSeenBefore members root g) (IsSeenBefore members root (g + 1)) boxes start box scanned start_black start_unseen root_spreads (root_box box sides) small

  -- a group that points further has no runs of its own
  pub none_of_it : (g : ℕ) (boxes : List Rect) → g < length groups → (group_at groups g).parent ≢ g → IsScanned page (IsSeenBefore members root g) boxes
      → IsScanned page (IsSeenBefore members root (g + 1)) boxes
  none_of_it g boxes below other =
      seen_again page (IsSeenBefore members root g) (IsSeenBefore members root (g + 1)) boxes
      (λ p seen. record { one = seen.one; listed = seen.listed; before = omega (arith, seen.before); inside = seen.inside })
      (λ p seen. record { one = seen.one; listed = seen.listed; before = less seen.one seen.listed seen.before; inside = seen.inside })
    where
      less : (m : Member) → Contains members m → root m.group < g + 1 → root m.group < g
      less m there small = elim (cases_lt (root m.group) g) [
        | inl before ↦ before
        | inr not_before ↦
            let same : root m.group ≡ g = omega (arith, not_before, small) in
            absurd (other (subst (λ (r : ℕ). (group_at groups r).parent ≡ r) same (grouped.rooted.ends m.group (grouped.valid m there))))
      ]

  -- no root comes before the first group
  pub none_before : (p : Place) → IsSeenBefore members root 0 p → ⊥
  none_before p seen = omega (arith, seen.before)

  -- all groups were gone through
  pub scan_ends : (boxes : List Rect) → IsScanned page (IsSeenBefore members root (length groups)) boxes → IsKeptBoxes page boxes
  scan_ends boxes scanned = record {
    places = scanned.places;
    are_kept = record {
      kept = scanned.kept;
      apart = scanned.apart;
      every = λ p box kept.
          let there = done.every p kept.black in
          scanned.every p box (record { one = there.0; listed = there.1; before = grouped.rooted.within there.0.group (grouped.valid there.0 there.1); inside = there.2 }) kept;
    };
  }
