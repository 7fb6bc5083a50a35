-- Groups whose roots do not change, and two groups that become one.
use Rattle.std.proofs.Common.{◌≡◌, ◌≢◌, ◌<◌, ◌≤◌, ℕ, ◌+◌, ◌-◌, Bool, true, false, cond, eqb, List, [], ◌∷◌, ◌++◌, length, set, ◌⊎◌, inl, inr, refl, sym, ap, subst, ◌∙◌, arith}
use Rattle.std.proofs.lemmas.Bool.{cases_lt, cases_order}
use Rattle.std.proofs.lemmas.Bool.Decides.{nat_tests}
use Rattle.std.proofs.lemmas.List.{get_or-set_same, get_or-set_other, length-set, length-append, get_or_append_left, get_or-append_right}
use Rattle.components.specs.declared.bounds.Bounds.{Bounds}
use Rattle.components.specs.declared.groups.Group.{Group}
use Rattle.components.specs.Groups.{AreRooted, DoPointBack, group_at, no_group}

pub apart_or_same : (g h : ℕ) → (g ≡ h) ⊎ (g ≢ h)
apart_or_same g h = elim (cases_order g h) [
  | inl same ↦ inl same
  | inr other ↦ inr (λ e. elim other [ inl l ↦ omega (arith, l, e) | inr l ↦ omega (arith, l, e) ])
]

-- ---- one group is changed

pub at_same : (groups : List Group) (g : ℕ) (new : Group) → g < length groups → group_at (set groups g new) g ≡ new
at_same groups g new below = get_or-set_same groups g new no_group below

pub at_other : (groups : List Group) (g h : ℕ) (new : Group) → h ≢ g → group_at (set groups g new) h ≡ group_at groups h
at_other groups g h new other = get_or-set_other groups g h new no_group other

-- a fact of each group, where it holds of the new one and of the others as they were
pub each_set : (P : ℕ → Group → Type 0) (groups : List Group) (g : ℕ) (new : Group) (h : ℕ) → g < length groups → P g new → (h ≢ g → P h (group_at groups h))
    → P h (group_at (set groups g new) h)
each_set P groups g new h below here others = elim (apart_or_same h g) [
  | inl same ↦ subst (λ (k : ℕ). P k (group_at (set groups g new) k)) (sym same) (subst (P g) (sym (at_same groups g new below)) here)
  | inr other ↦ subst (P h) (sym (at_other groups g h new other)) (others other)
]

-- ---- one group points further

module _ (groups : List Group) (g next : ℕ) (bounds : Bounds) (below : g < length groups) (back : DoPointBack groups)
    (is_next : next ≡ (group_at groups (group_at groups g).parent).parent) where
  abbrev shorter : List Group
  shorter = set groups g (record { parent = next; bounds = bounds })

  abbrev parent : ℕ
  parent = (group_at groups g).parent

  parent_below : parent < length groups
  parent_below = omega (arith, back g below, below)

  pub next_back : next ≤ g
  next_back = omega (arith, is_next, back g below, back parent parent_below)

  pub points_back : DoPointBack shorter
  points_back h there = each_set (λ k r. k < length shorter → r.parent ≤ k) groups g (record { parent = next; bounds = bounds }) h below (λ _. next_back)
      (λ other inside. back h (omega (arith, inside, length-set groups g (record { parent = next; bounds = bounds })))) there

  module _ (root : ℕ → ℕ) (rooted : AreRooted groups root) where
    len : length shorter ≡ length groups
    len = length-set groups g (record { parent = next; bounds = bounds })

    pub next_root : root next ≡ root g
    next_root = ap root is_next ∙ rooted.on_the_way parent parent_below ∙ rooted.on_the_way g below

    next_itself : next ≡ g → root g ≡ g
    next_itself same =
        let up : parent ≡ g = omega (arith, same, is_next, back g below, back parent parent_below) in
        rooted.itself g below up

    root_kept : (r : ℕ) → r < length groups → (group_at groups r).parent ≡ r → (group_at shorter r).parent ≡ r
    root_kept r inside ends = each_set (λ k s. k ≡ r → s.parent ≡ k) groups g (record { parent = next; bounds = bounds }) r below
        (λ same. is_next ∙ kept same)
        (λ other _. ends) refl
      where
        kept : g ≡ r → (group_at groups (group_at groups g).parent).parent ≡ g
        kept same =
            let up : (group_at groups g).parent ≡ g = ap (λ (k : ℕ). (group_at groups k).parent) same ∙ ends ∙ sym same in
            ap (λ (k : ℕ). (group_at groups k).parent) up ∙ up

    pub roots_kept : AreRooted shorter root
    roots_kept = record {
      back = points_back;
      on_the_way = λ h there. each_set (λ k r. k < length groups → root r.parent ≡ root k) groups g (record { parent = next; bounds = bounds }) h below
          (λ _. next_root) (λ other inside. rooted.on_the_way h inside) (omega (arith, there, len));
      itself = λ h there. each_set (λ k r. k < length groups → r.parent ≡ k → root k ≡ k) groups g (record { parent = next; bounds = bounds }) h below
          (λ _ same. next_itself same) (λ other inside same. rooted.itself h inside same) (omega (arith, there, len));
      within = λ h there. omega (arith, rooted.within h (omega (arith, there, len)), len);
      ends = λ h there.
          let inside : h < length groups = omega (arith, there, len) in
          root_kept (root h) (rooted.within h inside) (rooted.ends h inside);
      others = λ h behind. rooted.others h (omega (arith, behind, len));
    }

-- ---- the second group points at the first

-- what was at the root b is at a
abbrev pub moved : (ℕ → ℕ) → ℕ → ℕ → ℕ → ℕ
moved root a b g = cond (eqb (root g) b) a (root g)

pub moved_is : (root : ℕ → ℕ) (a b g : ℕ) → ((root g ≡ b) × (moved root a b g ≡ a)) ⊎ ((root g ≢ b) × (moved root a b g ≡ root g))
moved_is root a b g = elim (apart_or_same (root g) b) [
  | inl same ↦ inl (same, let test : eqb (root g) b ≡ true = grind (arith, nat_tests) in ap (λ (t : Bool). cond t a (root g)) test)
  | inr other ↦ inr (other, let test : eqb (root g) b ≡ false = grind (arith, nat_tests) in ap (λ (t : Bool). cond t a (root g)) test)
]

pub moved_same : (root : ℕ → ℕ) (a b g h : ℕ) → root g ≡ root h → moved root a b g ≡ moved root a b h
moved_same root a b g h same = ap (λ (r : ℕ). cond (eqb r b) a r) same

module _ (groups : List Group) (root : ℕ → ℕ) (rooted : AreRooted groups root) (a b : ℕ) (less : a < b) (below : b < length groups)
    (a_root : root a ≡ a) (b_root : root b ≡ b) (one two : Group) (one_parent : one.parent ≡ a) (two_parent : two.parent ≡ a) where
  abbrev joined : List Group
  joined = set (set groups a one) b two

  abbrev now : ℕ → ℕ
  now = moved root a b

  pub joined_len : length joined ≡ length groups
  joined_len = length-set (set groups a one) b two ∙ length-set groups a one

  -- a fact of each group after the two became one
  each_joined : (P : ℕ → Group → Type 0) (h : ℕ) → P a one → P b two → (h ≢ a → h ≢ b → P h (group_at groups h)) → P h (group_at joined h)
  each_joined P h first second others =
      each_set P (set groups a one) b two h (omega (arith, below, length-set groups a one)) second
      (λ not_b. each_set (λ k r. h ≢ b → k ≡ h → P k r) groups a one h (omega (arith, less, below)) (λ _ _. first) (λ not_a _ _. others not_a not_b) not_b refl)

  now_a : now a ≡ a
  now_a = elim (moved_is root a b a) [ inl hit ↦ hit.1 | inr miss ↦ miss.1 ∙ a_root ]

  now_b : now b ≡ a
  now_b = elim (moved_is root a b b) [ inl hit ↦ hit.1 | inr miss ↦ absurd (miss.0 b_root) ]

  parent_a : (group_at joined a).parent ≡ a
  parent_a = each_joined (λ k r. k ≡ a → r.parent ≡ a) a (λ _. one_parent) (λ _. two_parent) (λ not_a. absurd (not_a refl)) refl

  now_ends : (h : ℕ) → h < length groups → (group_at joined (now h)).parent ≡ now h
  now_ends h inside = elim (moved_is root a b h) [
    | inl hit ↦ subst (λ (r : ℕ). (group_at joined r).parent ≡ r) (sym hit.1) parent_a
    | inr miss ↦
        subst (λ (r : ℕ). (group_at joined r).parent ≡ r) (sym miss.1)
        (each_joined (λ k r. k ≡ root h → r.parent ≡ root h) (root h) (λ same. one_parent ∙ same) (λ same. absurd (miss.0 (sym same)))
        (λ not_a not_b _. rooted.ends h inside) refl)
  ]

  now_within : (h : ℕ) → h < length groups → now h < length groups
  now_within h inside = elim (moved_is root a b h) [
    | inl hit ↦ omega (arith, hit.1, less, below)
    | inr miss ↦ omega (arith, miss.1, rooted.within h inside)
  ]

  now_itself : (h : ℕ) → h < length groups → h ≢ b → (group_at groups h).parent ≡ h → now h ≡ h
  now_itself h inside not_b same = elim (moved_is root a b h) [
    | inl hit ↦ absurd (not_b (sym (rooted.itself h inside same) ∙ hit.0))
    | inr miss ↦ miss.1 ∙ rooted.itself h inside same
  ]

  pub joined_rooted : AreRooted joined now
  joined_rooted = record {
    back = λ h there. each_joined (λ k r. k < length groups → r.parent ≤ k) h (λ _. omega (arith, one_parent)) (λ _. omega (arith, two_parent, less))
        (λ not_a not_b inside. rooted.back h inside) (omega (arith, there, joined_len));
    on_the_way = λ h there. each_joined (λ k r. k < length groups → now r.parent ≡ now k) h (λ _. ap now one_parent) (λ _. ap now two_parent ∙ now_a ∙ sym now_b)
        (λ not_a not_b inside. moved_same root a b (group_at groups h).parent h (rooted.on_the_way h inside)) (omega (arith, there, joined_len));
    itself = λ h there. each_joined (λ k r. k < length groups → r.parent ≡ k → now k ≡ k) h (λ _ _. now_a)
        (λ _ same. absurd (omega (arith, same, two_parent, less)))
        (λ not_a not_b inside same. now_itself h inside not_b same) (omega (arith, there, joined_len));
    within = λ h there. omega (arith, now_within h (omega (arith, there, joined_len)), joined_len);
    ends = λ h there. now_ends h (omega (arith, there, joined_len));
    others = λ h behind.
        let past : length groups ≤ h = omega (arith, behind, joined_len) in
        elim (moved_is root a b h) [
          | inl hit ↦ absurd (omega (arith, hit.0, rooted.others h past, below, past))
          | inr miss ↦ miss.1 ∙ rooted.others h past
        ];
  }

-- ---- a group is begun

module _ (groups : List Group) (root : ℕ → ℕ) (rooted : AreRooted groups root) (new : Group) (parent_is : new.parent ≡ length groups) where
  abbrev more : List Group
  more = groups ++ new ∷ []

  pub more_len : length more ≡ length groups + 1
  more_len = length-append groups (new ∷ [])

  pub more_old : (h : ℕ) → h < length groups → group_at more h ≡ group_at groups h
  more_old h below = get_or_append_left groups (new ∷ []) no_group h below

  pub more_new : (h : ℕ) → h ≡ length groups → group_at more h ≡ new
  more_new h last =
      let e : h - h ≡ 0 = omega arith in
      get_or-append_right groups (new ∷ []) h h no_group (sym last) (omega arith) ∙ ap (λ (k : ℕ). group_at (new ∷ []) k) e

  each_more : (P : ℕ → Group → Type 0) (h : ℕ) → h < length more → (h < length groups → P h (group_at groups h)) → (h ≡ length groups → P h new) → P h (group_at more h)
  each_more P h there old last = elim (cases_lt h (length groups)) [
    | inl below ↦ subst (P h) (sym (more_old h below)) (old below)
    | inr not_below ↦
        let at : h ≡ length groups = omega (arith, not_below, there, more_len) in
        subst (P h) (sym (more_new h at)) (last at)
  ]

  end_is_new : root (length groups) ≡ length groups
  end_is_new = rooted.others (length groups) (omega arith)

  pub more_rooted : AreRooted more root
  more_rooted = record {
    back = λ h there. each_more (λ k r. r.parent ≤ k) h there (λ below. rooted.back h below) (λ last. omega (arith, last, parent_is));
    on_the_way = λ h there. each_more (λ k r. root r.parent ≡ root k) h there (λ below. rooted.on_the_way h below) (λ last. ap root (parent_is ∙ sym last));
    itself = λ h there. each_more (λ k r. r.parent ≡ k → root k ≡ k) h there (λ below same. rooted.itself h below same)
        (λ last _. rooted.others h (omega (arith, last)));
    within = λ h there. elim (cases_lt h (length groups)) [
      | inl below ↦ omega (arith, rooted.within h below, more_len)
      | inr late ↦ omega (arith, rooted.others h late, there)
    ];
    ends = λ h there. elim (cases_lt h (length groups)) [
      | inl below ↦ ap (λ (r : Group). r.parent) (more_old (root h) (rooted.within h below)) ∙ rooted.ends h below
      | inr late ↦
          let at : h ≡ length groups = omega (arith, late, there, more_len) in
          let itself : root h ≡ length groups = rooted.others h late ∙ at in
          ap (λ (r : Group). r.parent) (more_new (root h) itself) ∙ parent_is ∙ sym itself
    ];
    others = λ h behind. rooted.others h (omega (arith, behind, more_len));
  }
