-- The row smear of a row, by its runs.
use Rattle.std.proofs.Common.{◌≡◌, ◌<◌, ◌≤◌, ℕ, ◌+◌, ◌-◌, Bool, false, List, length, ◌⊎◌, inl, inr, refl, sym, ap, subst, ◌∙◌, arith}
use Rattle.std.proofs.lemmas.Bool.{cases_lt, cases_eq, false_from_ne_true, both_ways}
use Rattle.packed_rows.specs.Page.{Page, pixel}
use Rattle.page_runs.specs.declared.row_runs.Run.{Run}
use Rattle.page_runs.specs.Runs.{run_at, AreApart, AreRunsOf}
use Rattle.run_smear.specs.Smear.{IsStretch, IsFilled, IsInRowSmear}
use Rattle.run_smear.specs.Painted.{GotBlack, IsBetween, IsPainted, IsClosedEnd, IsInClosed}
use Rattle.run_smear.proofs.Blackening.{got_both}

pub closed_within : (width : ℕ) (runs : List Run) (most place end : ℕ) → AreApart width runs → place < length runs → IsClosedEnd runs place most end → end ≤ width
closed_within width runs most place end apart there closed = elim closed.is [
  | inl alone ↦ omega (arith, alone, apart.within place there)
  | inr next ↦ omega (arith, next.1, apart.some (place + 1) next.0, apart.within (place + 1) next.0)
]

one_end : (runs : List Run) (most place a b : ℕ) → IsClosedEnd runs place most a → IsClosedEnd runs place most b → a ≡ b
one_end runs most place a b first second = elim first.is [
  | inl alone ↦ elim second.is [
    | inl also ↦ alone ∙ sym also
    | inr next ↦ first.closes next.0 (omega (arith, next.1, next.2)) ∙ sym next.1
  ]
  | inr next ↦ next.1 ∙ sym (second.closes next.0 (omega (arith, next.1, next.2)))
]

-- a run more
pub one_run : (runs : List Run) (most place end : ℕ) (old mid new : List ℕ) → GotBlack (IsInClosed runs most place) old mid → IsClosedEnd runs place most end
    → GotBlack (IsBetween (run_at runs place).x0 end) mid new → GotBlack (IsInClosed runs most (place + 1)) old new
one_run runs most place end old mid new first closed second =
    got_both (IsInClosed runs most place) (IsBetween (run_at runs place).x0 end) (IsInClosed runs most (place + 1)) old mid new first second
    (λ k a. record { place = a.place; end = a.end; before = omega (arith, a.before); closed = a.closed; left = a.left; right = a.right })
    (λ k b. record { place = place; end = end; before = omega arith; closed = closed; left = b.0; right = b.1 })
    (λ k c. either k c)
  where
    either : (k : ℕ) → IsInClosed runs most (place + 1) k → IsInClosed runs most place k ⊎ IsBetween (run_at runs place).x0 end k
    either k c = elim (cases_lt c.place place) [
      | inl before ↦ inl (record { place = c.place; end = c.end; before = before; closed = c.closed; left = c.left; right = c.right })
      | inr late ↦
          let e : c.place ≡ place = omega (arith, late, c.before) in
          let same : c.end ≡ end = one_end runs most place c.end end (subst (λ (p : ℕ). IsClosedEnd runs p most c.end) e c.closed) closed in
          inr (omega (arith, c.left, ap (λ (p : ℕ). (run_at runs p).x0) e), omega (arith, c.right, same))
    ]

module _ (page : Page) (y : ℕ) (runs : List Run) (are : AreRunsOf page y runs) (most : ℕ) where
  abbrev line : ℕ → Bool
  line k = page.is_black k y

  abbrev start : ℕ → ℕ
  start i = (run_at runs i).x0

  abbrev end : ℕ → ℕ
  end i = (run_at runs i).x1

  ends_rise : (i j : ℕ) → i ≤ j → j < length runs → end i ≤ end j
  ends_rise i j order there = elim (cases_eq i j) [
    | inl same ↦ omega (arith, ap end same)
    | inr other ↦
        let less : i < j = omega (arith, order, other) in
        omega (arith, are.apart.apart i j less there, are.apart.some j there)
  ]

  starts_rise : (i j : ℕ) → i ≤ j → j < length runs → start i ≤ start j
  starts_rise i j order there = elim (cases_eq i j) [
    | inl same ↦ omega (arith, ap start same)
    | inr other ↦
        let less : i < j = omega (arith, order, other) in
        omega (arith, are.apart.apart i j less there, are.apart.some i (omega (arith, less, there)))
  ]

  gap_white : (i : ℕ) → i + 1 < length runs → (k : ℕ) → end i ≤ k → k < start (i + 1) → line k ≡ false
  gap_white i there k from to = false_from_ne_true (line k) (λ black.
      let at = are.every k black in
      elim (cases_lt i at.0) [
        | inl late ↦ omega (arith, starts_rise (i + 1) at.0 (omega (arith, late)) at.1, at.2, to)
        | inr early ↦ omega (arith, ends_rise at.0 i early (omega (arith, there)), at.3, from)
      ])

  gap_stretch : (i : ℕ) → i + 1 < length runs → IsStretch line (end i) (start (i + 1))
  gap_stretch i there =
      let here : i < length runs = omega (arith, there) in
      let some = are.apart.some i here in
      record {
        some = are.apart.apart i (i + 1) (omega arith) there;
        white = gap_white i there;
        begins = omega (arith, some);
        before = are.blacks i (end i - 1) here (omega (arith, some)) (omega (arith, some));
        behind = are.blacks (i + 1) (start (i + 1)) there (omega arith) (are.apart.some (i + 1) there);
      }

  in_smear : (k : ℕ) → IsInClosed runs most (length runs) k → IsInRowSmear page most k y
  in_smear k has = elim (cases_lt k (end has.place)) [
    | inl inside ↦ inl (are.blacks has.place k has.before has.left inside)
    | inr past ↦ elim has.closed.is [
      | inl alone ↦ absurd (omega (arith, alone, past, has.right))
      | inr next ↦ inr (record {
        from = end has.place;
        to = start (has.place + 1);
        stretch = gap_stretch has.place next.0;
        short = omega (arith, next.1, next.2);
        not_before = past;
        within = omega (arith, next.1, has.right);
      })
    ]
  ]

  -- each run has an end up to which it is closed
  closed_at : (i : ℕ) → (to : ℕ) × IsClosedEnd runs i most to × (end i ≤ to)
  closed_at i = elim (cases_lt (i + 1) (length runs)) [
    | inr last ↦ (end i, record { is = inl refl; closes = λ there short. absurd (omega (arith, there, last)) }, omega arith)
    | inl there ↦ elim (cases_lt (end i + most) (start (i + 1))) [
      | inl wide ↦ (end i, record { is = inl refl; closes = λ also short. absurd (omega (arith, short, wide)) }, omega arith)
      | inr short ↦ (
        start (i + 1),
        record { is = inr (there, refl, short); closes = λ also same. refl },
        omega (arith, are.apart.apart i (i + 1) (omega arith) there),
      )
    ]
  ]

  filled_closed : (k : ℕ) → IsFilled line most k → IsInClosed runs most (length runs) k
  filled_closed k filled =
      let s = filled.stretch in
      let a = are.every (filled.from - 1) s.before in
      let b = are.every filled.to s.behind in
      let i = a.0 in
      let from_is : end i ≡ filled.from = elim (cases_lt filled.from (end i)) [
        | inl inside ↦
            absurd (both_ways (line filled.from) (s.white filled.from (omega arith) s.some) (are.blacks i filled.from a.1 (omega (arith, a.2)) inside))
        | inr ends ↦ omega (arith, a.3, ends, s.begins)
      ] in
      let next : i < b.0 = elim (cases_lt i b.0) [
        | inl less ↦ less
        | inr order ↦ absurd (omega (arith, ends_rise b.0 i order a.1, from_is, s.some, b.3))
      ] in
      let there : i + 1 < length runs = omega (arith, next, b.1) in
      let not_past : start (i + 1) ≤ filled.to = omega (arith, starts_rise (i + 1) b.0 (omega (arith, next)) b.1, b.2) in
      let to_is : start (i + 1) ≡ filled.to = elim (cases_lt (start (i + 1)) filled.to) [
        | inl inside ↦
            absurd (both_ways (line (start (i + 1)))
            (s.white (start (i + 1)) (omega (arith, from_is, are.apart.apart i (i + 1) (omega arith) there)) inside)
            (are.blacks (i + 1) (start (i + 1)) there (omega arith) (are.apart.some (i + 1) there)))
        | inr ends ↦ omega (arith, ends, not_past)
      ] in
      record {
        place = i;
        end = filled.to;
        before = a.1;
        closed = record { is = inr (there, sym to_is, omega (arith, filled.short, from_is)); closes = λ also short. sym to_is };
        left = omega (arith, a.2, filled.not_before);
        right = filled.within;
      }

  in_closed : (k : ℕ) → IsInRowSmear page most k y → IsInClosed runs most (length runs) k
  in_closed k smeared = elim smeared [
    | inl black ↦
        let at = are.every k black in
        let closed = closed_at at.0 in
        record { place = at.0; end = closed.0; before = at.1; closed = closed.1; left = at.2; right = omega (arith, at.3, closed.2) }
    | inr filled ↦ filled_closed k filled
  ]

  pub row_painted : (count : ℕ) (white bits : List ℕ) → ((k : ℕ) → pixel white k ≡ 0) → GotBlack (IsInClosed runs most count) white bits → count ≡ length runs
      → IsPainted (λ x. IsInRowSmear page most x y) bits
  row_painted count white bits blank got all k = (
    λ black. elim (got.only k black) [
      | inl was ↦ absurd (omega (arith, blank k, was))
      | inr has ↦ in_smear k (subst (λ (n : ℕ). IsInClosed runs most n k) all has)
    ],
    λ smeared. got.more k (subst (λ (n : ℕ). IsInClosed runs most n k) (sym all) (in_closed k smeared)),
  )
