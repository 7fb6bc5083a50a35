-- What masks leave out.
use Rattle.std.proofs.Common.{◌≡◌, ℕ, ◌+◌, ◌-◌, ◌*◌, ◌%◌, ◌^◌, ◌<◌, ◌≤◌, List, length, get_or, take, drop, arith, ap, sym, ◌∙◌, subst, inl, inr, ⊎_elim, w64}
use Rattle.std.specs.Prelude.{bit_and}
use Rattle.std.specs.Int.{bit_at, bit_not, trailing_zeros}
use Rattle.std.specs.Int.Count.{trailing_of_zero}
use Rattle.std.proofs.lemmas.Bool.{cases_eq, cases_lt}
use Rattle.std.proofs.lemmas.List.{get_or-drop, get_or-take, length-drop, length-take}
use Rattle.std.proofs.lemmas.Nat.{and_le_l}
use Rattle.std.proofs.lemmas.Nat.Bits.{bit_at-zero, bit_at_ones, bit_at_clear_same, bit_at_clear_other, bit_at-trailing_zeros}
use Rattle.layout_geom.specs.declared.rect.Rect.{Rect}
use Rattle.layout_geom.specs.Rectangles.{Overlaps, Encloses, IsClear}
use Rattle.whitespace_cover.specs.Masks.{from_end, IsMask, IsClearOfLast}

-- a mask with all bits leaves none out
pub mask_of_all : (obstacles : List Rect) (r : Rect) → IsMask obstacles r 18446744073709551615
mask_of_all obstacles r = λ k d small within gone meets. omega (arith, gone, bit_at_ones 64 k small)

-- what a rectangle does not overlap, none inside it does
pub mask_inside : (obstacles : List Rect) (r q : Rect) (mask : ℕ) → Encloses r q → IsMask obstacles r mask → IsMask obstacles q mask
mask_inside obstacles r q mask inside masked = λ k d small within gone meets.
    masked k d small within gone (record {
      left = omega (arith, inside.left, meets.left);
      right = omega (arith, inside.right, meets.right);
      top = omega (arith, inside.top, meets.top);
      bottom = omega (arith, inside.bottom, meets.bottom);
    })

-- a mask less one bit
abbrev pub without : ℕ → ℕ → ℕ
without mask bit = bit_and mask (bit_not w64 (1 * 2 ^ bit % 2 ^ 64))

-- the bit of an obstacle that is not overlapped can go
pub mask_without : (obstacles : List Rect) (r : Rect) (mask bit : ℕ) → bit < 64 → ((d : Rect) → Overlaps r (from_end obstacles bit d) → ⊥) → IsMask obstacles r mask → IsMask obstacles r (without mask bit)
mask_without obstacles r mask bit small apart masked = λ k d below within gone.
    elim (cases_eq k bit) [
      | inl same ↦ subst (λ (n : ℕ). Overlaps r (from_end obstacles n d) → ⊥) (sym same) (apart d)
      | inr other ↦ masked k d below within (sym (bit_at_clear_other w64 mask bit small k below other) ∙ gone)
    ]

-- no bit is set before the lowest one
pub none_below : (mask : ℕ) → mask < 2 ^ 64 → (k : ℕ) → k < trailing_zeros w64 mask → bit_at mask k ≡ 0
none_below mask small k below =
    elim (cases_eq mask 0) [
      | inl none ↦ ap (λ (m : ℕ). bit_at m k) none ∙ bit_at-zero k
      | inr other ↦ (bit_at-trailing_zeros w64 mask (omega (arith, other)) small).2 k below
    ]

-- and the lowest one is set, where there is one
pub lowest_set : (mask : ℕ) → mask < 2 ^ 64 → trailing_zeros w64 mask < 64 → bit_at mask (trailing_zeros w64 mask) ≡ 1
lowest_set mask small some =
    elim (cases_eq mask 0) [
      | inl none ↦ absurd (let far : trailing_zeros w64 mask ≡ 64 = ap (trailing_zeros w64) none ∙ trailing_of_zero 64 in omega (arith, far, some))
      | inr other ↦ (bit_at-trailing_zeros w64 mask (omega (arith, other)) small).1
    ]

-- without it the number is less
pub less_without : (mask bit : ℕ) → bit < 64 → bit_at mask bit ≡ 1 → without mask bit < mask
less_without mask bit small there =
    elim (cases_eq (without mask bit) mask) [
      | inl same ↦ absurd (omega (arith, bit_at_clear_same w64 mask bit small, ap (λ (m : ℕ). bit_at m bit) same, there))
      | inr other ↦ omega (arith, other, and_le_l mask (bit_not w64 (1 * 2 ^ bit % 2 ^ 64)))
    ]

-- where no bit is set before a place, the rectangle is clear of the obstacles before it
pub clear_of_last : (obstacles : List Rect) (r : Rect) (mask reach : ℕ) → mask < 2 ^ 64 → reach ≤ length obstacles → reach ≤ 64 → reach ≤ trailing_zeros w64 mask → IsMask obstacles r mask → IsClearOfLast reach r obstacles
clear_of_last obstacles r mask reach small there few far masked = λ k d below.
    masked k d (omega (arith, below, few)) (omega (arith, below, there)) (none_below mask small k (omega (arith, below, far)))

-- clear of the last ones and of those between them and the first
pub clear_behind : (obstacles : List Rect) (r : Rect) (count reach : ℕ) → count + reach ≤ length obstacles → IsClearOfLast reach r obstacles → IsClear r (take (length obstacles - reach - count) (drop count obstacles)) → IsClear r (drop count obstacles)
clear_behind obstacles r count reach within last others = λ k d inside.
    let between : ℕ = length obstacles - reach - count in
    let left = length-drop count obstacles in
    ⊎_elim
    (λ before.
    subst (λ (o : Rect). Overlaps r o → ⊥) (get_or-take between (drop count obstacles) k d before)
    (others k d (omega (arith, before, inside, length-take between (drop count obstacles)))))
    (λ behind.
    let at : get_or (drop count obstacles) k d ≡ from_end obstacles (length obstacles - 1 - (count + k)) d =
    get_or-drop count obstacles k d ∙ ap (λ (n : ℕ). get_or obstacles n d) (omega (arith, inside, left)) in
    subst (λ (o : Rect). Overlaps r o → ⊥) (sym at) (last (length obstacles - 1 - (count + k)) d (omega (arith, behind, inside, left))))
    (cases_lt k between)
