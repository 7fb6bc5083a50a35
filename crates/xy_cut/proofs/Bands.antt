-- The bands along an axis through boxes, where one more box begins no earlier than the others.
use Rattle.std.proofs.Common.{◌≡◌, ℕ, ◌+◌, ◌-◌, ◌<◌, ◌≤◌, ◌⊎◌, max, List, [], ◌∷◌, ◌++◌, Option, Some, None, All, length, length-take, take, get_or, arith, refl, sym, subst, inl, inr, ⊎_elim}
use Rattle.std.specs.List.{Any}
use Rattle.std.specs.List.Sorted.{IsNonDecreasingBy}
use Rattle.std.proofs.lemmas.Bool.{cases_lt}
use Rattle.std.proofs.lemmas.List.{get_or-take, get_or_read}
use Rattle.std.proofs.lemmas.List.Elements.{All-push, All-weaker}
use Rattle.std.proofs.lemmas.List.Quantifiers.{Any-push}
use Rattle.layout_geom.specs.declared.rect.Rect.{Rect}
use Rattle.xy_cut.specs.declared.axis.Axis.{Axis}
use Rattle.xy_cut.specs.declared.axis.Axis.TheVariants.{Across, Down}
use Rattle.xy_cut.specs.declared.band.Band.{Band}
use Rattle.xy_cut.specs.Bands.{start_of, end_of, width_of, IsBandAlong}
use Rattle.xy_cut.specs.Widest.{IsWider, Leads, IsWidestAlong}
use Rattle.xy_cut.proofs.Lists.{all_left, any_left, any_cases, all_at}

-- a box has a pixel
later : (axis : Axis) (r : Rect) → start_of axis r < end_of axis r
later Across r = r.sides.wide
later Down r = r.sides.high

abbrev pub EndsBy : Axis → ℕ → Rect → Type 0
EndsBy axis end box = end_of axis box ≤ end

abbrev pub EndsAt : Axis → ℕ → Rect → Type 0
EndsAt axis end box = end_of axis box ≡ end

abbrev pub BeginsBy : Axis → ℕ → Rect → Type 0
BeginsBy axis start box = start_of axis box ≤ start

abbrev pub BeginsAt : Axis → ℕ → Rect → Type 0
BeginsAt axis start box = start_of axis box ≡ start

abbrev pub LiesApart : Axis → ℕ → ℕ → Rect → Type 0
LiesApart axis low high box = (end_of axis box ≤ low) ⊎ (high ≤ start_of axis box)

-- where the last of the boxes ends
pub record IsFarthest (axis : Axis) (boxes : List Rect) (end : ℕ) : Type 0 where
  pub within : All (EndsBy axis end) boxes
  pub there : Any (EndsAt axis end) boxes

module _ (axis : Axis) (least : ℕ) (positive : 1 ≤ least) (xs : List Rect) (y : Rect) (end : ℕ) (rising : All (BeginsBy axis (start_of axis y)) xs) (far : IsFarthest axis xs end) where
  -- a band through the others is one still
  kept : (low high : ℕ) → IsBandAlong axis xs least low high → IsBandAlong axis (xs ++ y ∷ []) least low high
  kept low high band =
      let up : start_of axis band.begins.1 ≤ start_of axis y = all_at (BeginsBy axis (start_of axis y)) (BeginsAt axis high) xs rising band.begins in
      record {
        wide = band.wide;
        apart = All-push (LiesApart axis low high) xs y band.apart (inr (omega (arith, up, band.begins.4)));
        ends = any_left (EndsAt axis low) xs (y ∷ []) band.ends;
        begins = any_left (BeginsAt axis high) xs (y ∷ []) band.begins;
      }

  -- and there may be one before the box
  fresh : (low high : ℕ) → low ≡ end → high ≡ start_of axis y → low + least ≤ high → IsBandAlong axis (xs ++ y ∷ []) least low high
  fresh low high from to wide = record {
    wide = wide;
    apart = All-push (LiesApart axis low high) xs y (All-weaker (EndsBy axis end) (LiesApart axis low high) (λ box by. inl (omega (arith, by, from))) xs far.within) (inr (omega (arith, to)));
    ends = any_left (EndsAt axis low) xs (y ∷ []) (far.there.0, far.there.1, far.there.2, far.there.3, omega (arith, far.there.4, from));
    begins = Any-push (BeginsAt axis high) xs y (sym to);
  }

  -- there is no other
  either : (low high : ℕ) → IsBandAlong axis (xs ++ y ∷ []) least low high → IsBandAlong axis xs least low high ⊎ ((low ≡ end) × (high ≡ start_of axis y))
  either low high band =
      let apart : All (LiesApart axis low high) xs = all_left (LiesApart axis low high) xs (y ∷ []) band.apart in
      let begins : Any (BeginsAt axis high) xs ⊎ BeginsAt axis high y = any_cases (BeginsAt axis high) xs y band.begins in
      let up : high ≤ start_of axis y =
      ⊎_elim (λ some. let h : start_of axis some.1 ≤ start_of axis y = all_at (BeginsBy axis (start_of axis y)) (BeginsAt axis high) xs rising some in omega (arith, h, some.4)) (λ here. omega (arith, here)) begins in
      let ends : Any (EndsAt axis low) xs =
      ⊎_elim (λ some. some) (λ here. absurd (omega (arith, here, up, later axis y, band.wide))) (any_cases (EndsAt axis low) xs y band.ends) in
      ⊎_elim
      (λ some. inl (record { wide = band.wide; apart = apart; ends = ends; begins = some }))
      (λ here. ⊎_elim
      (λ less. ⊎_elim
      (λ before. absurd (omega (arith, before, less, far.there.4)))
      (λ behind.
      let h : start_of axis far.there.1 ≤ start_of axis y = all_at (BeginsBy axis (start_of axis y)) (EndsAt axis end) xs rising far.there in
      inl (record { wide = band.wide; apart = apart; ends = ends; begins = (far.there.0, far.there.1, far.there.2, far.there.3, omega (arith, h, here, behind)) }))
      (all_at (LiesApart axis low high) (EndsAt axis end) xs apart far.there))
      (λ most.
      let h : end_of axis ends.1 ≤ end = all_at (EndsBy axis end) (EndsAt axis low) xs far.within ends in
      inr (omega (arith, h, ends.4, most), sym here))
      (cases_lt low end))
      begins

  pub farther : IsFarthest axis (xs ++ y ∷ []) (max end (end_of axis y))
  farther = record {
    within = All-push (EndsBy axis (max end (end_of axis y))) xs y (All-weaker (EndsBy axis end) (EndsBy axis (max end (end_of axis y))) (λ box by. omega (arith, by)) xs far.within) (omega arith);
    there = ⊎_elim
        (λ less. Any-push (EndsAt axis (max end (end_of axis y))) xs y (omega (arith, less)))
        (λ most. any_left (EndsAt axis (max end (end_of axis y))) xs (y ∷ []) (far.there.0, far.there.1, far.there.2, far.there.3, omega (arith, far.there.4, most)))
        (cases_lt end (end_of axis y));
  }

  -- the widest band, where the box begins too early for another
  pub narrow : (widest : Option Band) → start_of axis y - end < least → IsWidestAlong axis xs least widest → IsWidestAlong axis (xs ++ y ∷ []) least widest
  narrow (Some band) close is = (is.0, kept band.low band.high is.1, λ low high other. ⊎_elim (λ old. is.2 low high old) (λ new. absurd (omega (arith, new.0, new.1, close, other.wide))) (either low high other))
  narrow None close is = λ low high other. ⊎_elim (λ old. is low high old) (λ new. absurd (omega (arith, new.0, new.1, close, other.wide))) (either low high other)

  -- and where it does not
  pub widened : (widest : Option Band) (band winner : Band) → band.axis ≡ axis → band.low ≡ end → band.high ≡ start_of axis y → least ≤ width_of band
      → IsWider widest band winner → IsWidestAlong axis xs least widest → IsWidestAlong axis (xs ++ y ∷ []) least (Some winner)
  widened (Some old) band winner along from to wide wins is =
      let Is : Band → Type 0 = λ w. IsWidestAlong axis (xs ++ y ∷ []) least (Some w) in
      let farthest : end_of axis is.1.ends.1 ≤ end = all_at (EndsBy axis end) (EndsAt axis old.low) xs far.within is.1.ends in
      ⊎_elim
      (λ first. subst Is (sym first.0) (
        is.0,
        kept old.low old.high is.1,
        λ low high other. ⊎_elim
            (λ before. is.2 low high before)
            (λ new. record { wide = omega (arith, new.0, new.1, first.1, from, to); early = λ same. omega (arith, farthest, is.1.ends.4, new.0) })
            (either low high other),
      ))
      (λ second. subst Is (sym second.0) (
        along,
        fresh band.low band.high from to (omega (arith, wide, positive)),
        λ low high other. ⊎_elim
            (λ before.
            let leads : Leads old low high = is.2 low high before in
            record { wide = omega (arith, leads.wide, second.1); early = λ same. absurd (omega (arith, leads.wide, second.1, same)) })
            (λ new. record { wide = omega (arith, new.0, new.1, from, to); early = λ same. omega (arith, new.0, from) })
            (either low high other),
      ))
      wins
  widened None band winner along from to wide wins is =
      let Is : Band → Type 0 = λ w. IsWidestAlong axis (xs ++ y ∷ []) least (Some w) in
      subst Is (sym wins) (
        along,
        fresh band.low band.high from to (omega (arith, wide, positive)),
        λ low high other. ⊎_elim
            (λ before. absurd (is low high before))
            (λ new. record { wide = omega (arith, new.0, new.1, from, to); early = λ same. omega (arith, new.0, from) })
            (either low high other),
      )

-- the boxes before a place begin no later than the box there
pub rising_before : (axis : Axis) (line : List Rect) (place : ℕ) (next : Rect) → place < length line → next ≡ get_or line place next
    → IsNonDecreasingBy (start_of axis) line → All (BeginsBy axis (start_of axis next)) (take place line)
rising_before axis line place next low at sorted k d before =
    let early : k < place = omega (arith, before, length-take place line) in
    let read : get_or (take place line) k d ≡ get_or line k d = get_or-take place line k d early in
    let here : get_or line place d ≡ next = sym (get_or_read line place next low at d) in
    subst (λ (r : Rect). BeginsBy axis (start_of axis next) r) (sym read)
    (subst (λ (r : Rect). start_of axis (get_or line k d) ≤ start_of axis r) here (sorted k place d (omega (arith, early)) low))

-- one box has no band, and ends where it ends
pub farthest_one : (axis : Axis) (r : Rect) → IsFarthest axis (r ∷ []) (end_of axis r)
farthest_one axis r = record {
  within = All-push (EndsBy axis (end_of axis r)) [] r (λ k d low. absurd (omega (arith, low))) (omega arith);
  there = Any-push (EndsAt axis (end_of axis r)) [] r refl;
}

pub widest_one : (axis : Axis) (least : ℕ) (r : Rect) → 1 ≤ least → IsWidestAlong axis (r ∷ []) least None
widest_one axis least r positive low high band =
    ⊎_elim
    (λ none. absurd (omega (arith, none.2)))
    (λ ends. ⊎_elim (λ none. absurd (omega (arith, none.2))) (λ begins. omega (arith, ends, begins, later axis r, band.wide)) (any_cases (BeginsAt axis high) [] r band.begins))
    (any_cases (EndsAt axis low) [] r band.ends)
