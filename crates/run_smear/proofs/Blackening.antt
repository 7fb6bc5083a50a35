-- Rows that got black pixels.
use Rattle.std.proofs.Common.{◌≡◌, ◌<◌, ◌≤◌, ℕ, ◌+◌, ◌-◌, ◌*◌, ◌/◌, ◌%◌, ◌^◌, bit_and, bit_or, List, length, get_or, set, min, ◌⊎◌, inl, inr, refl, sym, ap, subst, ◌∙◌, arith}
use Rattle.std.specs.Int.{bit_at}
use Rattle.std.proofs.lemmas.Bool.{cases_lt, cases_eq}
use Rattle.std.proofs.lemmas.List.{get_or_past, get_or-set_other, length-set}
use Rattle.std.proofs.lemmas.Grind.{get_or-set_at}
use Rattle.std.proofs.lemmas.Nat.Bits.{bit_at-lt, bit_at-zero, bit_at_and, bit_at_or, bit_at_ones, bit_at_mask_inside, bit_at_mask_below, bit_at_mask_above}
use Rattle.packed_rows.specs.Page.{pixel}
use Rattle.run_smear.specs.Painted.{GotBlack, IsBetween}

-- one part after the other
pub got_both : (A B C : ℕ → Type 0) (old mid new : List ℕ) → GotBlack A old mid → GotBlack B mid new
    → ((k : ℕ) → A k → C k) → ((k : ℕ) → B k → C k) → ((k : ℕ) → C k → A k ⊎ B k) → GotBlack C old new
got_both A B C old mid new first second in_a in_b either = record {
  len = second.len ∙ first.len;
  more = λ k has. elim (either k has) [ inl a ↦ second.kept k (first.more k a) | inr b ↦ second.more k b ];
  kept = λ k black. second.kept k (first.kept k black);
  only = λ k black. elim (second.only k black) [
    | inl before ↦ elim (first.only k before) [ inl was ↦ inl was | inr a ↦ inr (in_a k a) ]
    | inr b ↦ inr (in_b k b)
  ];
}

pub got_none : (A : ℕ → Type 0) (bits : List ℕ) → ((k : ℕ) → A k → ⊥) → GotBlack A bits bits
got_none A bits none = record {
  len = refl;
  more = λ k has. absurd (none k has);
  kept = λ k black. black;
  only = λ k black. inl black;
}

-- some columns, and those right of them
pub got_between : (from middle to : ℕ) (old mid new : List ℕ) → GotBlack (IsBetween from middle) old mid → GotBlack (IsBetween middle to) mid new
    → from ≤ middle → middle ≤ to → GotBlack (IsBetween from to) old new
got_between from middle to old mid new first second left right =
    got_both (IsBetween from middle) (IsBetween middle to) (IsBetween from to) old mid new first second
    (λ k a. (a.0, omega (arith, a.1, right))) (λ k b. (omega (arith, b.0, left), b.1))
    (λ k c. elim (cases_lt k middle) [ inl before ↦ inl (c.0, before) | inr past ↦ inr (past, c.1) ])

-- one byte that got black columns
module _ (old : List ℕ) (byte value from to : ℕ) (there : byte < length old) (inside : to ≤ 8)
    (more : (j : ℕ) → from ≤ j → j < to → bit_at value (7 - j) ≡ 1)
    (kept : (j : ℕ) → j < 8 → (j < from) ⊎ (to ≤ j) → bit_at value (7 - j) ≡ bit_at (get_or old byte 0) (7 - j)) where
  new_pixel : (k : ℕ) → k / 8 ≡ byte → pixel (set old byte value) k ≡ bit_at value (7 - k % 8)
  new_pixel k here = ap (λ (n : ℕ). bit_at n (7 - k % 8)) (get_or-set_at old byte (k / 8) value 0 here there)

  old_pixel : (k : ℕ) → k / 8 ≡ byte → (k % 8 < from) ⊎ (to ≤ k % 8) → pixel (set old byte value) k ≡ pixel old k
  old_pixel k here out = new_pixel k here ∙ kept (k % 8) (omega arith) out ∙ ap (λ (i : ℕ). bit_at (get_or old i 0) (7 - k % 8)) (sym here)

  same_or_black : (k : ℕ) → (pixel (set old byte value) k ≡ pixel old k) ⊎ (IsBetween (8 * byte + from) (8 * byte + to) k × (pixel (set old byte value) k ≡ 1))
  same_or_black k = elim (cases_eq (k / 8) byte) [
    | inr other ↦ inl (ap (λ (n : ℕ). bit_at n (7 - k % 8)) (get_or-set_other old byte (k / 8) value 0 other))
    | inl here ↦ elim (cases_lt (k % 8) from) [
      | inl left ↦ inl (old_pixel k here (inl left))
      | inr past ↦ elim (cases_lt (k % 8) to) [
        | inl within ↦ inr ((omega (arith, here, past), omega (arith, here, within)), new_pixel k here ∙ more (k % 8) past within)
        | inr right ↦ inl (old_pixel k here (inr right))
      ]
    ]
  ]

  pub got_byte : GotBlack (IsBetween (8 * byte + from) (8 * byte + to)) old (set old byte value)
  got_byte = record {
    len = length-set old byte value;
    more = λ k has. new_pixel k (omega (arith, has.0, has.1, inside)) ∙ more (k % 8) (omega (arith, has.0, has.1, inside)) (omega (arith, has.0, has.1, inside));
    kept = λ k black. elim (same_or_black k) [ inl same ↦ same ∙ black | inr got ↦ got.1 ];
    only = λ k black. elim (same_or_black k) [ inl same ↦ inl (sym same ∙ black) | inr got ↦ inr got.0 ];
  }

-- bytes that are black, and one more
pub got_bytes : (from byte : ℕ) (old mid : List ℕ) → GotBlack (IsBetween (8 * from) (8 * byte)) old mid → from ≤ byte → byte < length old
    → GotBlack (IsBetween (8 * from) (8 * (byte + 1))) old (set mid byte 255)
got_bytes from byte old mid first order there =
    subst (λ (to : ℕ). GotBlack (IsBetween (8 * from) to) old (set mid byte 255)) at
    (got_between (8 * from) (8 * byte + 0) (8 * byte + 8) old mid (set mid byte 255) (subst (λ (to : ℕ). GotBlack (IsBetween (8 * from) to) old mid) (sym start) first)
    (got_byte mid byte 255 0 8 (omega (arith, there, first.len)) (omega arith) (λ j left below. bit_at_ones 8 (7 - j) (omega arith)) (λ j below out. absurd (nowhere j below out)))
    (omega (arith, order)) (omega arith))
  where
    start : 8 * byte + 0 ≡ 8 * byte
    start = omega arith

    at : 8 * byte + 8 ≡ 8 * (byte + 1)
    at = omega arith

    nowhere : (j : ℕ) → j < 8 → (j < 0) ⊎ (8 ≤ j) → ⊥
    nowhere j below (inl left) = omega (arith, left)
    nowhere j below (inr right) = omega (arith, below, right)

pub got_masked : (old : List ℕ) (byte from to : ℕ) → byte < length old → from ≤ to → to ≤ 8
    → GotBlack (IsBetween (8 * byte + from) (8 * byte + to)) old (set old byte (bit_or (get_or old byte 0) (2 ^ (8 - from) - 2 ^ (8 - to))))
got_masked old byte from to there order inside = got_byte old byte (bit_or was mask) from to there inside
    (λ j left right. bit_at_or was mask (7 - j) ∙ omega (arith, bit_at-lt was (7 - j), bit_at_mask_inside (8 - to) (8 - from) (7 - j) (omega (arith, right)) (omega (arith, left, right, inside))))
    (λ j below out. bit_at_or was mask (7 - j) ∙ omega (arith, clear j below out))
  where
    was : ℕ
    was = get_or old byte 0

    mask : ℕ
    mask = 2 ^ (8 - from) - 2 ^ (8 - to)

    clear : (j : ℕ) → j < 8 → (j < from) ⊎ (to ≤ j) → bit_at mask (7 - j) ≡ 0
    clear j below (inl left) = bit_at_mask_above (8 - to) (8 - from) (7 - j) (omega (arith, left, below))
    clear j below (inr right) = bit_at_mask_below (8 - to) (8 - from) (7 - j) (omega (arith, right, below))

-- the pixels of bytes that were joined
pub common_pixels : (old others new : List ℕ) → length others ≡ length old → length new ≡ length old
    → ((i : ℕ) → i < length old → get_or new i 0 ≡ bit_and (get_or old i 0) (get_or others i 0)) → (k : ℕ) → pixel new k ≡ min (pixel old k) (pixel others k)
common_pixels old others new len same joined k = elim (cases_lt (k / 8) (length old)) [
  | inl inside ↦
      ap (λ (byte : ℕ). bit_at byte (7 - k % 8)) (joined (k / 8) inside) ∙ bit_at_and (get_or old (k / 8) 0) (get_or others (k / 8) 0) (7 - k % 8)
  | inr past ↦
      let a : pixel new k ≡ 0 = past_white new (omega (arith, past, same)) in
      let b : pixel old k ≡ 0 = past_white old past in
      let c : pixel others k ≡ 0 = past_white others (omega (arith, past, len)) in
      omega (arith, a, b, c)
]
  where
    past_white : (bits : List ℕ) → length bits ≤ k / 8 → pixel bits k ≡ 0
    past_white bits past = ap (λ (byte : ℕ). bit_at byte (7 - k % 8)) (get_or_past bits (k / 8) 0 past) ∙ bit_at-zero (7 - k % 8)

pub pixel_below_two : (bits : List ℕ) (k : ℕ) → pixel bits k < 2
pixel_below_two bits k = bit_at-lt (get_or bits (k / 8) 0) (7 - k % 8)
