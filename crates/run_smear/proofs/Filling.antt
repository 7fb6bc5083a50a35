-- Lists of fills.
use Rattle.std.proofs.Common.{◌≡◌, ◌<◌, ◌≤◌, ◌+◌, ℕ, zero, suc, Bool, true, false, cond, List, [], ◌∷◌, ◌++◌, length, inl, inr, refl, sym, ap, ◌∙◌, arith}
use Rattle.std.proofs.lemmas.Bool.{cases_lt}
use Rattle.std.proofs.lemmas.List.{length_push, get_or_append_left, get_or_push}
use Rattle.std.specs.List.{filter}
use Rattle.run_smear.specs.declared.fills.Fill.{Fill}
use Rattle.run_smear.specs.Columns.{no_fill, fill_at, HasFill, AreNear, AreWithin}

-- a fill that stands in another list too
moved : (fills more : List Fill) (k top foot : ℕ) (has : HasFill fills k top foot) (at : ℕ) → at < length more → fill_at more at ≡ fill_at fills has.place
    → HasFill more k top foot
moved fills more k top foot has at there same = record {
  place = at;
  there = there;
  left = omega (arith, has.left, ap (λ (g : Fill). g.x0) same);
  right = omega (arith, has.right, ap (λ (g : Fill). g.x1) same);
  top_is = ap (λ (g : Fill). g.top) same ∙ has.top_is;
  foot_is = ap (λ (g : Fill). g.foot) same ∙ has.foot_is;
}

-- ---- some fills are left out

-- each element that is kept stood in the list
stood_more : (b : Bool) (fill : Fill) (kept fills : List Fill) → ((i : ℕ) → i < length kept → (j : ℕ) × (j < length fills) × (fill_at fills j ≡ fill_at kept i))
    → (i : ℕ) → i < length (cond b (fill ∷ kept) kept) → (j : ℕ) × (j < length (fill ∷ fills)) × (fill_at (fill ∷ fills) j ≡ fill_at (cond b (fill ∷ kept) kept) i)
stood_more true fill kept fills rest zero below = (0, omega arith, refl)
stood_more true fill kept fills rest (suc i) below = let at = rest i (omega (arith, below)) in (suc at.0, omega (arith, at.1), at.2)
stood_more false fill kept fills rest i below = let at = rest i below in (suc at.0, omega (arith, at.1), at.2)

stood : (test : Fill → Bool) (fills : List Fill) (i : ℕ) → i < length (filter test fills) → (j : ℕ) × (j < length fills) × (fill_at fills j ≡ fill_at (filter test fills) i)
stood test [] i below = absurd (omega (arith, below))
stood test (fill ∷ fills) i below = stood_more (test fill) fill (filter test fills) fills (stood test fills) i below

-- each element that passes stands in what is kept
stands_more : (b : Bool) (fill wanted : Fill) (kept : List Fill) → (i : ℕ) × (i < length kept) × (fill_at kept i ≡ wanted)
    → (i : ℕ) × (i < length (cond b (fill ∷ kept) kept)) × (fill_at (cond b (fill ∷ kept) kept) i ≡ wanted)
stands_more true fill wanted kept at = (suc at.0, omega (arith, at.1), at.2)
stands_more false fill wanted kept at = at

stands : (test : Fill → Bool) (fills : List Fill) (j : ℕ) → j < length fills → test (fill_at fills j) ≡ true
    → (i : ℕ) × (i < length (filter test fills)) × (fill_at (filter test fills) i ≡ fill_at fills j)
stands test [] j below passes = absurd (omega (arith, below))
stands test (fill ∷ fills) zero below passes = rw passes (0, omega arith, refl)
stands test (fill ∷ fills) (suc j) below passes = stands_more (test fill) fill (fill_at fills j) (filter test fills) (stands test fills j (omega (arith, below)) passes)

module _ (test : Fill → Bool) (fills more : List Fill) (are : more ≡ filter test fills) where
  pub filtered_kept : (k top foot : ℕ) (has : HasFill fills k top foot) → test (fill_at fills has.place) ≡ true → HasFill more k top foot
  filtered_kept k top foot has passes =
      let at = stands test fills has.place has.there passes in
      rw are (moved fills (filter test fills) k top foot has at.0 at.1 at.2)

  pub filtered_only : (k top foot : ℕ) → HasFill more k top foot → HasFill fills k top foot
  filtered_only k top foot has =
      let was : HasFill (filter test fills) k top foot = rw are at has in
      let at = stood test fills was.place was.there in
      moved (filter test fills) fills k top foot was at.0 at.1 at.2

  pub filtered_within : (width : ℕ) → AreWithin width fills → AreWithin width more
  filtered_within width within = rw are (λ i below.
      let at = stood test fills i below in
      omega (arith, within at.0 at.1, ap (λ (g : Fill). g.x1) at.2))

-- ---- some fills are listed

-- a fill that goes to the end of the list stands there, and the others stand where they stood
pub near_more : (fills : List Fill) (count until : ℕ) (near : List Fill) → AreNear fills count until near → count < length fills
    → AreNear fills (count + 1) until (near ++ fill_at fills count ∷ [])
near_more fills count until near are there = record {
  kept = λ i below above. elim (cases_lt i count) [
    | inl before ↦
        let at = are.kept i before above in
        (at.0, omega (arith, at.1, length_push near (fill_at fills count)), get_or_append_left near (fill_at fills count ∷ []) no_fill at.0 at.1 ∙ at.2)
    | inr late ↦ (
      length near,
      omega (arith, length_push near (fill_at fills count)),
      get_or_push near (fill_at fills count) no_fill (length near) refl ∙ ap (λ (n : ℕ). fill_at fills n) (sym (same i late below)),
    )
  ];
  only = λ j below. elim (cases_lt j (length near)) [
    | inl before ↦ let at = are.only j before in (at.0, at.1, at.2 ∙ sym (get_or_append_left near (fill_at fills count ∷ []) no_fill j before))
    | inr late ↦
        let last : j ≡ length near = omega (arith, late, below, length_push near (fill_at fills count)) in
        (count, there, sym (ap (λ (n : ℕ). fill_at (near ++ fill_at fills count ∷ []) n) last ∙ get_or_push near (fill_at fills count) no_fill (length near) refl))
  ];
}
  where
    same : (i : ℕ) → count ≤ i → i < count + 1 → i ≡ count
    same i late below = omega (arith, late, below)

-- one that does not begin above the row is passed over
pub near_same : (fills : List Fill) (count until : ℕ) (near : List Fill) → AreNear fills count until near → until ≤ (fill_at fills count).top
    → AreNear fills (count + 1) until near
near_same fills count until near are low = record {
  kept = λ i below above. elim (cases_lt i count) [
    | inl before ↦ are.kept i before above
    | inr late ↦
        let last : i ≡ count = omega (arith, late, below) in
        absurd (omega (arith, above, low, ap (λ (n : ℕ). (fill_at fills n).top) last))
  ];
  only = are.only;
}

module _ (fills : List Fill) (until : ℕ) (near : List Fill) (are : AreNear fills (length fills) until near) where
  pub near_kept : (k top foot : ℕ) → HasFill fills k top foot → top < until → HasFill near k top foot
  near_kept k top foot has above =
      let at = are.kept has.place has.there (omega (arith, above, has.top_is)) in
      moved fills near k top foot has at.0 at.1 at.2

  pub near_only : (k top foot : ℕ) → HasFill near k top foot → HasFill fills k top foot
  near_only k top foot has =
      let at = are.only has.place has.there in
      moved near fills k top foot has at.0 at.1 at.2

  pub near_within : (width : ℕ) → AreWithin width fills → AreWithin width near
  near_within width within j below =
      let at = are.only j below in
      omega (arith, within at.0 at.1, ap (λ (g : Fill). g.x1) at.2)
