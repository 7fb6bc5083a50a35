-- Runs that are put into groups, and groups that become one.
use Rattle.std.proofs.Common.{◌≡◌, ◌≢◌, ◌<◌, ℕ, List, [], ◌∷◌, ◌++◌, length, set, ◌⊎◌, inl, inr, refl, sym, ap, subst, ◌∙◌, arith}
use Rattle.std.specs.Prelude.{Contains}
use Rattle.std.proofs.lemmas.List.{length-set}
use Rattle.std.proofs.lemmas.List.Elements.{Contains-push, Contains-push_cases, Contains-append_left}
use Rattle.page_runs.specs.Page.{Page}
use Rattle.components.specs.declared.place.Place.{Place}
use Rattle.components.specs.declared.placed_run.PlacedRun.{PlacedRun}
use Rattle.components.specs.declared.bounds.Bounds.{Bounds}
use Rattle.components.specs.declared.groups.Group.{Group}
use Rattle.components.specs.Connected.{IsConnected}
use Rattle.components.specs.Around.{around, bounds_of, widened}
use Rattle.components.specs.Runs.{IsInRun, IsBlackRun, AreTouching, first_of, last_of}
use Rattle.components.specs.Groups.{AreRooted, AreGrouped, AreJoined, HasPlace, HasSome, IsTouched, Member, group_at}
use Rattle.components.proofs.Paths.{onwards, connected_back}
use Rattle.components.proofs.Spreading.{first_in, last_in, run_connected, touching_connected, touching_back}
use Rattle.components.proofs.Bounding.{within_first, within_second, run_within, run_touched, around_touched, touched_weaker}
use Rattle.components.proofs.Roots.{apart_or_same, at_same, at_other, each_set, moved, moved_is, moved_same, joined_rooted, joined_len, more_rooted, more_len, more_old, more_new}

-- ---- other ways to the same roots

pub ways_changed : (page : Page) (members : List Member) (old new : List Group) (root : ℕ → ℕ) → AreGrouped page members old root → AreRooted new root
    → length new ≡ length old → ((g : ℕ) → (group_at new g).bounds ≡ (group_at old g).bounds) → AreGrouped page members new root
ways_changed page members old new root was rooted len same = record {
  rooted = rooted;
  valid = λ m there. omega (arith, was.valid m there, len);
  black = was.black;
  sound = was.sound;
  inside = λ m p there p_in. subst (λ (b : Bounds). HasPlace b p) (sym (same (root m.group))) (was.inside m p there p_in);
  some = λ g below is_root.
      let has = was.some g (omega (arith, below, len)) is_root in
      record {
        one = has.one;
        listed = has.listed;
        in_group = has.in_group;
        touched = subst (IsTouched (IsConnected page (first_of has.one.run))) (sym (same g)) has.touched;
      };
}

-- ---- one run more

module _ (page : Page) (members : List Member) (last : Member) where
  abbrev with_last : List Member
  with_last = members ++ last ∷ []

  pub is_last : Contains with_last last
  is_last = Contains-push members last

  pub still_there : (m : Member) → Contains members m → Contains with_last m
  still_there m there = Contains-append_left members (last ∷ []) m there

  pub each_member : (P : Member → Type 0) → ((m : Member) → Contains members m → P m) → P last → (m : Member) → Contains with_last m → P m
  each_member P old new m there = elim (Contains-push_cases members last m there) [
    | inl before ↦ old m before
    | inr same ↦ subst P same new
  ]

-- a run that begins a group of its own
module _ (page : Page) (members : List Member) (groups : List Group) (root : ℕ → ℕ) (was : AreGrouped page members groups root)
    (run : PlacedRun) (black : IsBlackRun page run) where
  abbrev n : ℕ
  n = length groups

  abbrev last : Member
  last = record { run = run; group = n }

  abbrev own : Group
  own = record { parent = n; bounds = bounds_of run }

  own_root : root n ≡ n
  own_root = was.rooted.others n (omega arith)

  -- no run was in this group
  not_own : (m : Member) → Contains members m → root m.group ≡ root n → ⊥
  not_own m there same = omega (arith, was.rooted.within m.group (was.valid m there), same, own_root)

  itself_connected : IsConnected page (first_of run) (first_of run)
  itself_connected = run_connected page run black (first_of run) (first_of run) (first_in page run black) (first_in page run black)

  to_last : IsConnected page (first_of run) (last_of run)
  to_last = run_connected page run black (first_of run) (last_of run) (first_in page run black) (last_in page run black)

  own_at : group_at (groups ++ own ∷ []) n ≡ own
  own_at = more_new groups root was.rooted own refl n refl

  root_at : (m : Member) → Contains members m → group_at (groups ++ own ∷ []) (root m.group) ≡ group_at groups (root m.group)
  root_at m there = more_old groups root was.rooted own refl (root m.group) (was.rooted.within m.group (was.valid m there))

  own_some : HasSome page (members ++ last ∷ []) (groups ++ own ∷ []) root n
  own_some = record {
    one = last;
    listed = is_last page members last;
    in_group = own_root;
    touched = subst (λ (r : Group). IsTouched (IsConnected page (first_of run)) r.bounds) (sym own_at)
        (run_touched (IsConnected page (first_of run)) run black.some itself_connected to_last);
  }

  pub run_begun : AreGrouped page (members ++ last ∷ []) (groups ++ own ∷ []) root
  run_begun =
      let rooted = more_rooted groups root was.rooted own refl in
      let len = more_len groups root was.rooted own refl in
      record {
        rooted = rooted;
        valid = each_member page members last (λ m. m.group < length (groups ++ own ∷ [])) (λ m there. omega (arith, was.valid m there, len)) (omega (arith, len));
        black = each_member page members last (λ m. IsBlackRun page m.run) was.black black;
        sound = λ m k m_in k_in.
            each_member page members last (λ m. root m.group ≡ root k.group → IsConnected page (first_of m.run) (first_of k.run))
            (λ m old. each_member page members last (λ k. root m.group ≡ root k.group → IsConnected page (first_of m.run) (first_of k.run))
            (λ k too. was.sound m k old too) (λ same. absurd (not_own m old same)) k k_in)
            (each_member page members last (λ k. root n ≡ root k.group → IsConnected page (first_of run) (first_of k.run))
            (λ k too same. absurd (not_own k too (sym same))) (λ _. itself_connected) k k_in)
            m m_in;
        inside = λ m p m_in. each_member page members last (λ m. IsInRun m.run p → HasPlace (group_at (groups ++ own ∷ []) (root m.group)).bounds p)
            (λ m old p_in. subst (λ (r : Group). HasPlace r.bounds p) (sym (root_at m old)) (was.inside m p old p_in))
            (λ p_in. subst (λ (r : Group). HasPlace r.bounds p) (sym own_at ∙ ap (group_at (groups ++ own ∷ [])) (sym own_root)) (run_within run p p_in)) m m_in;
        some = λ g below is_root. elim (apart_or_same g n) [
          | inl new ↦ subst (HasSome page (members ++ last ∷ []) (groups ++ own ∷ []) root) (sym new) own_some
          | inr old ↦
              let has = was.some g (omega (arith, below, len, old)) is_root in
              record {
                one = has.one;
                listed = still_there page members last has.one has.listed;
                in_group = has.in_group;
                touched = subst (λ (r : Group). IsTouched (IsConnected page (first_of has.one.run)) r.bounds)
                    (sym (more_old groups root was.rooted own refl g (omega (arith, below, len, old)))) has.touched;
              }
        ];
      }

-- a run that is put into the group of a run that it touches
module _ (page : Page) (members : List Member) (groups : List Group) (root : ℕ → ℕ) (was : AreGrouped page members groups root)
    (run : PlacedRun) (black : IsBlackRun page run) (near : Member) (there : Contains members near) (touch : AreTouching run near.run)
    (g : ℕ) (is : g ≡ root near.group) where
  abbrev added : Member
  added = record { run = run; group = g }

  abbrev wider : Group
  wider = record { parent = (group_at groups g).parent; bounds = widened (group_at groups g).bounds run }

  abbrev grown : List Group
  grown = set groups g wider

  g_below : g < length groups
  g_below = omega (arith, is, was.rooted.within near.group (was.valid near there))

  g_ends : (group_at groups g).parent ≡ g
  g_ends = subst (λ (r : ℕ). (group_at groups r).parent ≡ r) (sym is) (was.rooted.ends near.group (was.valid near there))

  g_root : root g ≡ g
  g_root = was.rooted.itself g g_below g_ends

  same_parent : (h : ℕ) → (group_at grown h).parent ≡ (group_at groups h).parent
  same_parent h = each_set (λ k r. r.parent ≡ (group_at groups k).parent) groups g wider h g_below refl (λ _. refl)

  grown_len : length grown ≡ length groups
  grown_len = length-set groups g wider

  grown_rooted : AreRooted grown root
  grown_rooted = record {
    back = λ h below. omega (arith, same_parent h, was.rooted.back h (omega (arith, below, grown_len)));
    on_the_way = λ h below. ap root (same_parent h) ∙ was.rooted.on_the_way h (omega (arith, below, grown_len));
    itself = λ h below same. was.rooted.itself h (omega (arith, below, grown_len)) (sym (same_parent h) ∙ same);
    within = λ h below. omega (arith, was.rooted.within h (omega (arith, below, grown_len)), grown_len);
    ends = λ h below. same_parent (root h) ∙ was.rooted.ends h (omega (arith, below, grown_len));
    others = λ h behind. was.rooted.others h (omega (arith, behind, grown_len));
  }

  to_near : (p : Place) → IsInRun run p → IsConnected page (first_of near.run) p
  to_near p p_in =
      let near_black = was.black near there in
      touching_connected page near.run run near_black black (touching_back run near.run touch) (first_of near.run) p (first_in page near.run near_black) p_in

  -- from a run of the group to the run
  to_run : (m : Member) → Contains members m → root m.group ≡ g → (p : Place) → IsInRun run p → IsConnected page (first_of m.run) p
  to_run m m_in same p p_in = onwards page (first_of m.run) (first_of near.run) p (was.sound m near m_in there (same ∙ is)) (to_near p p_in)

  still_has : (p : Place) (h : ℕ) → HasPlace (group_at groups h).bounds p → HasPlace (group_at grown h).bounds p
  still_has p h has = each_set (λ k r. k ≡ h → HasPlace r.bounds p) groups g wider h g_below
      (λ same. within_first (group_at groups g).bounds (bounds_of run) p (subst (λ (k : ℕ). HasPlace (group_at groups k).bounds p) (sym same) has))
      (λ _ _. has) refl

  now_at : group_at grown g ≡ wider
  now_at = at_same groups g wider g_below

  pub run_added : AreGrouped page (members ++ added ∷ []) grown root
  run_added = record {
    rooted = grown_rooted;
    valid = each_member page members added (λ m. m.group < length grown) (λ m m_in. omega (arith, was.valid m m_in, grown_len)) (omega (arith, g_below, grown_len));
    black = each_member page members added (λ m. IsBlackRun page m.run) was.black black;
    sound = λ m k m_in k_in.
        each_member page members added (λ m. root m.group ≡ root k.group → IsConnected page (first_of m.run) (first_of k.run))
        (λ m old. each_member page members added (λ k. root m.group ≡ root k.group → IsConnected page (first_of m.run) (first_of k.run))
        (λ k too. was.sound m k old too) (λ same. to_run m old (same ∙ g_root) (first_of run) (first_in page run black)) k k_in)
        (each_member page members added (λ k. root g ≡ root k.group → IsConnected page (first_of run) (first_of k.run))
        (λ k too same. connected_back page (first_of k.run) (first_of run) (to_run k too (sym same ∙ g_root) (first_of run) (first_in page run black)))
        (λ _. run_connected page run black (first_of run) (first_of run) (first_in page run black) (first_in page run black)) k k_in)
        m m_in;
    inside = λ m p m_in. each_member page members added (λ m. IsInRun m.run p → HasPlace (group_at grown (root m.group)).bounds p)
        (λ m old p_in. still_has p (root m.group) (was.inside m p old p_in))
        (λ p_in. subst (λ (r : Group). HasPlace r.bounds p) (sym now_at ∙ ap (group_at grown) (sym g_root))
        (within_second (group_at groups g).bounds (bounds_of run) p (run_within run p p_in))) m m_in;
    some = λ h below is_root.
        let has = was.some h (omega (arith, below, grown_len)) is_root in
        record {
          one = has.one;
          listed = still_there page members added has.one has.listed;
          in_group = has.in_group;
          touched = each_set (λ k r. k ≡ h → IsTouched (IsConnected page (first_of has.one.run)) r.bounds) groups g wider h g_below
              (λ same. around_touched (IsConnected page (first_of has.one.run)) (group_at groups g).bounds (bounds_of run)
              (subst (λ (k : ℕ). IsTouched (IsConnected page (first_of has.one.run)) (group_at groups k).bounds) (sym same) has.touched)
              (run_touched (IsConnected page (first_of has.one.run)) run black.some
              (to_run has.one has.listed (has.in_group ∙ sym same) (first_of run) (first_in page run black))
              (to_run has.one has.listed (has.in_group ∙ sym same) (last_of run) (last_in page run black))))
              (λ _ _. has.touched) refl;
        };
  }

-- two groups with runs that are connected
module _ (page : Page) (members : List Member) (groups : List Group) (root : ℕ → ℕ) (was : AreGrouped page members groups root)
    (m n : Member) (m_in : Contains members m) (n_in : Contains members n) (linked : IsConnected page (first_of m.run) (first_of n.run))
    (a b : ℕ) (less : a < b) (m_at : root m.group ≡ a) (n_at : root n.group ≡ b) where
  abbrev all : Group
  all = record { parent = a; bounds = around (group_at groups a).bounds (group_at groups b).bounds }

  abbrev given : Group
  given = record { parent = a; bounds = (group_at groups b).bounds }

  abbrev joined : List Group
  joined = set (set groups a all) b given

  abbrev now : ℕ → ℕ
  now = moved root a b

  b_below : b < length groups
  b_below = omega (arith, n_at, was.rooted.within n.group (was.valid n n_in))

  is_root : (k : Member) (r : ℕ) → Contains members k → root k.group ≡ r → root r ≡ r
  is_root k r k_in same =
      let valid = was.valid k k_in in
      was.rooted.itself r (omega (arith, sym same, was.rooted.within k.group valid)) (subst (λ (s : ℕ). (group_at groups s).parent ≡ s) same (was.rooted.ends k.group valid))

  a_root : root a ≡ a
  a_root = is_root m a m_in m_at

  b_root : root b ≡ b
  b_root = is_root n b n_in n_at

  len : length joined ≡ length groups
  len = joined_len groups root was.rooted a b less b_below a_root b_root all given refl refl

  still_rooted : AreRooted joined now
  still_rooted = joined_rooted groups root was.rooted a b less b_below a_root b_root all given refl refl

  -- from each run of the second group to each of the first
  across : (k l : Member) → Contains members k → Contains members l → root k.group ≡ a → root l.group ≡ b → IsConnected page (first_of k.run) (first_of l.run)
  across k l k_in l_in k_at l_at =
      onwards page (first_of k.run) (first_of m.run) (first_of l.run) (was.sound k m k_in m_in (k_at ∙ sym m_at))
      (onwards page (first_of m.run) (first_of n.run) (first_of l.run) linked (was.sound n l n_in l_in (n_at ∙ sym l_at)))

  still_sound : (k l : Member) → Contains members k → Contains members l → now k.group ≡ now l.group → IsConnected page (first_of k.run) (first_of l.run)
  still_sound k l k_in l_in same = elim (moved_is root a b k.group) [
    | inl k_hit ↦ elim (moved_is root a b l.group) [
      | inl l_hit ↦ was.sound k l k_in l_in (k_hit.0 ∙ sym l_hit.0)
      | inr l_miss ↦ connected_back page (first_of l.run) (first_of k.run) (across l k l_in k_in (sym l_miss.1 ∙ sym same ∙ k_hit.1) k_hit.0)
    ]
    | inr k_miss ↦ elim (moved_is root a b l.group) [
      | inl l_hit ↦ across k l k_in l_in (sym k_miss.1 ∙ same ∙ l_hit.1) l_hit.0
      | inr l_miss ↦ was.sound k l k_in l_in (sym k_miss.1 ∙ same ∙ l_miss.1)
    ]
  ]

  a_below : a < length groups
  a_below = omega (arith, less, b_below)

  at_a : group_at joined a ≡ all
  at_a = at_other (set groups a all) b a given (λ e. omega (arith, less, e)) ∙ at_same groups a all a_below

  at_rest : (h : ℕ) → h ≢ a → h ≢ b → group_at joined h ≡ group_at groups h
  at_rest h not_a not_b = at_other (set groups a all) b h given not_b ∙ at_other groups a h all not_a

  still_inside : (k : Member) (p : Place) → Contains members k → IsInRun k.run p → HasPlace (group_at joined (now k.group)).bounds p
  still_inside k p k_in p_in =
      let has = was.inside k p k_in p_in in
      elim (moved_is root a b k.group) [
        | inl hit ↦
            subst (λ (r : Group). HasPlace r.bounds p) (sym at_a ∙ ap (group_at joined) (sym hit.1))
            (within_second (group_at groups a).bounds (group_at groups b).bounds p (subst (λ (r : ℕ). HasPlace (group_at groups r).bounds p) hit.0 has))
        | inr miss ↦ elim (apart_or_same (root k.group) a) [
          | inl first ↦
              subst (λ (r : Group). HasPlace r.bounds p) (sym at_a ∙ ap (group_at joined) (sym first ∙ sym miss.1))
              (within_first (group_at groups a).bounds (group_at groups b).bounds p (subst (λ (r : ℕ). HasPlace (group_at groups r).bounds p) first has))
          | inr other ↦ subst (λ (r : Group). HasPlace r.bounds p) (sym (at_rest (root k.group) other miss.0) ∙ ap (group_at joined) (sym miss.1)) has
        ]
      ]

  a_some : HasSome page members joined now a
  a_some =
      let first = was.some a a_below a_root in
      let second = was.some b b_below b_root in
      let one = first.one in
      record {
        one = one;
        listed = first.listed;
        in_group = elim (moved_is root a b one.group) [ inl hit ↦ hit.1 | inr miss ↦ miss.1 ∙ first.in_group ];
        touched = subst (λ (r : Group). IsTouched (IsConnected page (first_of one.run)) r.bounds) (sym at_a)
            (around_touched (IsConnected page (first_of one.run)) (group_at groups a).bounds (group_at groups b).bounds first.touched
            (touched_weaker (IsConnected page (first_of second.one.run)) (IsConnected page (first_of one.run)) (group_at groups b).bounds
            (λ p c. onwards page (first_of one.run) (first_of second.one.run) p (across one second.one first.listed second.listed first.in_group second.in_group) c)
            second.touched));
      }

  rest_some : (h : ℕ) → h < length groups → h ≢ a → now h ≡ h → HasSome page members joined now h
  rest_some h below not_a itself =
      let not_b : h ≢ b = λ same. elim (moved_is root a b h) [
        | inl hit ↦ not_a (sym itself ∙ hit.1)
        | inr miss ↦ miss.0 (ap root same ∙ b_root)
      ] in
      let was_root : root h ≡ h = elim (moved_is root a b h) [ inl hit ↦ absurd (not_a (sym itself ∙ hit.1)) | inr miss ↦ sym miss.1 ∙ itself ] in
      let has = was.some h below was_root in
      record {
        one = has.one;
        listed = has.listed;
        in_group = elim (moved_is root a b has.one.group) [ inl hit ↦ absurd (not_b (sym has.in_group ∙ hit.0)) | inr miss ↦ miss.1 ∙ has.in_group ];
        touched = subst (λ (r : Group). IsTouched (IsConnected page (first_of has.one.run)) r.bounds) (sym (at_rest h not_a not_b)) has.touched;
      }

  still_grouped : AreGrouped page members joined now
  still_grouped = record {
    rooted = still_rooted;
    valid = λ k k_in. omega (arith, was.valid k k_in, len);
    black = was.black;
    sound = still_sound;
    inside = still_inside;
    some = λ h below itself. elim (apart_or_same h a) [
      | inl first ↦ subst (HasSome page members joined now) (sym first) a_some
      | inr other ↦ rest_some h (omega (arith, below, len)) other itself
    ];
  }

  -- their groups and all that had the roots of these have one root
  pub groups_merged : (one other : ℕ) → (root one ≡ a) × (root other ≡ b) ⊎ (root one ≡ b) × (root other ≡ a) → AreJoined page members one other root joined
  groups_merged one other which = record {
    now = now;
    grouped = still_grouped;
    coarser = moved_same root a b;
    together = elim which [ inl fit ↦ to_a one (inl fit.0) ∙ sym (to_a other (inr fit.1)) | inr fit ↦ to_a one (inr fit.0) ∙ sym (to_a other (inl fit.1)) ];
  }
    where
      to_a : (g : ℕ) → (root g ≡ a) ⊎ (root g ≡ b) → now g ≡ a
      to_a g which = elim (moved_is root a b g) [
        | inl hit ↦ hit.1
        | inr miss ↦ elim which [ inl first ↦ miss.1 ∙ first | inr second ↦ absurd (miss.0 second) ]
      ]
