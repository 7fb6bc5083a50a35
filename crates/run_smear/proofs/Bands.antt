-- Rows of the smear of a page.
use Rattle.std.proofs.Common.{zero-add, ◌≡◌, ◌<◌, ◌≤◌, ℕ, ◌+◌, ◌-◌, true, eqb, min, List, length, ◌↔◌, inl, inr, refl, sym, subst, ◌∙◌, arith}
use Rattle.std.proofs.lemmas.Bool.{cases_lt, cases_eq, eq-eqb, ne_eqb, eqb-true}
use Rattle.packed_rows.specs.Page.{Page, pixel, row_len, IsClipped, IsPackedRow}
use Rattle.page_runs.specs.declared.row_runs.Run.{Run}
use Rattle.page_runs.specs.Packed.{Packed, page_of, rows_of}
use Rattle.page_runs.specs.Runs.{AreApart}
use Rattle.page_runs.specs.Rows.{Given}
use Rattle.run_smear.specs.declared.fills.Fill.{Fill}
use Rattle.run_smear.specs.Smear.{IsInRowSmear, IsInColumnSmear, IsInSmear, IsBandOf, IsSmearOf}
use Rattle.run_smear.specs.Painted.{GotBlack, IsPainted}
use Rattle.run_smear.specs.Columns.{HasFill, IsFilledAt, IsSwept, AreNear, AreKnown, AreWithin}
use Rattle.run_smear.proofs.Blackening.{pixel_below_two}
use Rattle.run_smear.proofs.Filling.{near_kept, near_only, near_within}

pub apart_wider : (width more : ℕ) (runs : List Run) → AreApart width runs → width ≤ more → AreApart more runs
apart_wider width more runs apart wide = record {
  some = apart.some;
  within = λ i there. omega (arith, apart.within i there, wide);
  apart = apart.apart;
}

-- the row smear is a row of the page, and so is the column smear a column
pub row_smear_inside : (page : Page) (h x y : ℕ) → IsClipped page → IsInRowSmear page h x y → (x < page.width) × (y < page.height)
row_smear_inside page h x y clipped smeared = elim smeared [
  | inl black ↦ clipped x y black
  | inr filled ↦ let edge = clipped filled.to y filled.stretch.behind in (omega (arith, filled.within, edge.0), edge.1)
]

-- ---- one row

-- the fills that are near are known by a sweep that went on as far as they reach
pub near_known : (page : Page) (most first y until next : ℕ) (behind : List ℕ) (fills near : List Fill) → IsClipped page
    → IsSwept page most first y next behind fills → first ≤ y - most → next ≡ min page.height (until + most)
    → AreWithin page.width fills → AreNear fills (length fills) until near → AreKnown page most y until near
near_known page most first y until next behind fills near clipped swept low reach within are = record {
  slim = near_within fills until near are page.width within;
  sound = λ x top foot has. swept.sound x top foot (near_only fills until near are x top foot has);
  complete = λ x top foot stretch short above below.
      let edge = clipped x foot stretch.behind in
      near_kept fills until near are x top foot
      (swept.complete x top foot stretch short (omega (arith, low, short, below, stretch.begins)) below (omega (arith, reach, edge.1, short, above))) above;
}

-- the row is passed
pub known_below : (page : Page) (most y until : ℕ) (near : List Fill) → AreKnown page most y until near → AreKnown page most (y + 1) until near
known_below page most y until near known = record {
  slim = known.slim;
  sound = known.sound;
  complete = λ x top foot stretch short above below. known.complete x top foot stretch short above (omega (arith, below));
}

pub column_painted : (page : Page) (most y until : ℕ) (near : List Fill) (blank bits : List ℕ) → AreKnown page most y until near → y < until
    → IsPainted (λ x. IsInRowSmear page 0 x y) blank → GotBlack (λ k. IsFilledAt near (length near) k y) blank bits
    → IsPainted (λ x. IsInColumnSmear page most x y) bits
column_painted page most y until near blank bits known ahead row got x = (
  λ black. elim (got.only x black) [
    | inl was ↦ elim ((row x).0 was) [
      | inl there ↦ inl there
      | inr filled ↦ absurd (omega (arith, filled.short, filled.stretch.some))
    ]
    | inr at ↦
        let has : HasFill near x _ _ = record { place = at.place; there = at.before; left = at.left; right = at.right; top_is = refl; foot_is = refl } in
        let sound = known.sound x _ _ has in
        inr (record { from = _; to = _; stretch = sound.0; short = sound.1; not_before = at.not_above; within = at.above_foot })
  ],
  λ smeared. elim smeared [
    | inl there ↦ got.kept x ((row x).1 (inl there))
    | inr filled ↦
        let has = known.complete x filled.from filled.to filled.stretch filled.short (omega (arith, ahead, filled.not_before)) filled.within in
        got.more x (record {
          place = has.place;
          before = has.there;
          left = has.left;
          right = has.right;
          not_above = omega (arith, has.top_is, filled.not_before);
          above_foot = omega (arith, has.foot_is, filled.within);
        })
  ],
)

pub both_painted : (P Q : ℕ → Type 0) (a b new : List ℕ) → IsPainted P a → IsPainted Q b → ((k : ℕ) → pixel new k ≡ min (pixel a k) (pixel b k)) → IsPainted (λ k. P k × Q k) new
both_painted P Q a b new first second common k = (
  λ black. (
    (first k).0 (omega (arith, black, common k, pixel_below_two a k, pixel_below_two b k)),
    (second k).0 (omega (arith, black, common k, pixel_below_two a k, pixel_below_two b k)),
  ),
  λ both. omega (arith, common k, (first k).1 both.0, (second k).1 both.1),
)

pub packed_smear : (page : Page) (h v y : ℕ) (bits : List ℕ) → IsClipped page → length bits ≡ row_len page.width → IsPainted (λ x. IsInSmear page h v x y) bits
    → IsPackedRow page.width bits
packed_smear page h v y bits clipped len painted = record {
  len = len;
  padding = λ x wide. elim (cases_eq (pixel bits x) 1) [
    | inl black ↦ absurd (omega (arith, wide, (row_smear_inside page h x y clipped ((painted x).0 black).0).0))
    | inr white ↦ omega (arith, white, pixel_below_two bits x)
  ];
}

-- ---- rows of a page

module _ (page : Page) (h v from y : ℕ) (old new : Packed) (bits : List ℕ) (given : Given old bits new) (order : from ≤ y) (rows : rows_of old ≡ y - from)
    (painted : IsPainted (λ x. IsInSmear page h v x y) bits)
    (above : (x k : ℕ) → k < y - from → ((page_of old).is_black x k ≡ true) ↔ IsInSmear page h v x (from + k)) where
  new_row : (x k : ℕ) → k ≡ rows_of old → ((page_of new).is_black x k ≡ true) ↔ IsInSmear page h v x (from + k)
  new_row x k last =
      let is : (page_of new).is_black x k ≡ eqb (pixel bits x) 1 = given.blacks x k ∙ rw (eq-eqb k (rows_of old) last) refl in
      let here : y ≡ from + k = omega (arith, last, rows, order) in (
        λ black. subst (λ (n : ℕ). IsInSmear page h v x n) here ((painted x).0 (eqb-true (pixel bits x) 1 (sym is ∙ black))),
        λ smeared. is ∙ eq-eqb (pixel bits x) 1 ((painted x).1 (subst (λ (n : ℕ). IsInSmear page h v x n) (sym here) smeared)),
      )

  old_row : (x k : ℕ) → k < y - from → ((page_of new).is_black x k ≡ true) ↔ IsInSmear page h v x (from + k)
  old_row x k before =
      let other : k ≡ rows_of old → ⊥ = λ e. omega (arith, e, rows, before) in
      let is : (page_of new).is_black x k ≡ (page_of old).is_black x k = given.blacks x k ∙ rw (ne_eqb k (rows_of old) other) refl in (
        λ black. (above x k before).0 (sym is ∙ black),
        λ smeared. is ∙ (above x k before).1 smeared,
      )

  pub row_smeared : (x k : ℕ) → k < y + 1 - from → ((page_of new).is_black x k ≡ true) ↔ IsInSmear page h v x (from + k)
  row_smeared x k below = elim (cases_lt k (y - from)) [
    | inl before ↦ old_row x k before
    | inr late ↦ new_row x k (omega (arith, late, below, rows, order))
  ]

-- the band of all rows is the smear
pub whole_band : (page : Page) (h v : ℕ) (band : Page) → IsClipped page → IsClipped band → IsBandOf page h v 0 page.height band → IsSmearOf page h v band
whole_band page h v band clipped within is = record {
  width_is = is.width_is;
  height_is = omega (arith, is.height_is);
  blacks = λ x y. (
    λ black. let at : y < page.height - 0 = omega (arith, is.height_is, (within x y black).1) in rw zero-add at ((is.blacks x y at).0 black),
    λ smeared.
        let at : y < page.height - 0 = omega (arith, (row_smear_inside page h x y clipped smeared.0).1) in
        (is.blacks x y at).1 (rw zero-add smeared),
  );
}
