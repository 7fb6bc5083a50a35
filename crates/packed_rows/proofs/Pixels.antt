-- The pixels of packed bytes.
use Rattle.std.proofs.Common.{◌≡◌, ◌≢◌, Bool, true, false, cond, eqb, bit_or, w8, refl, ℕ, zero, suc, ◌+◌, ◌-◌, ◌*◌, ◌/◌, ◌%◌, ◌^◌, ◌<◌, ◌≤◌, List, length, get_or, set, sym, ap, ◌∙◌, inl, inr, arith}
use Rattle.std.proofs.Math.Nat.{div-div-eq-div-mul}
use Rattle.std.proofs.lemmas.Nat.{mod-pow-add}
use Rattle.std.proofs.lemmas.Nat.Bits.{bit_at-zero, bit_at-suc, bit_at_lowest, bit_at_set_same, bit_at_set_other}
use Rattle.std.proofs.lemmas.Bool.{cases_lt, cases_eq, lt-ltb, le-ltb, eqb-true, eqb-false}
use Rattle.std.proofs.lemmas.List.{get_or-set_same, get_or-set_other, get_or_past, length-set}
use Rattle.std.specs.Int.{bit_at}
use Rattle.packed_rows.specs.Page.{row_len, pixel, IsCleared}

-- the lowest p bits cleared
abbrev cleared : ℕ → ℕ → ℕ
cleared p b = b / 2 ^ p * 2 ^ p

cleared-suc : (p b : ℕ) → cleared (suc p) b ≡ 2 * cleared p (b / 2)
cleared-suc p b =
    let e : 2 ^ suc p ≡ 2 * 2 ^ p = omega arith in
    ap (λ (q : ℕ). b / q * q) e
    ∙ ap (λ (q : ℕ). q * (2 * 2 ^ p)) (sym (div-div-eq-div-mul b 2 (2 ^ p)))
    ∙ regroup (b / 2 / 2 ^ p) (2 ^ p)
  where
    regroup : (x y : ℕ) → x * (2 * y) ≡ 2 * (x * y)
    regroup x y = omega arith

bit_at-double : (n k : ℕ) → bit_at (2 * n) (suc k) ≡ bit_at n k
bit_at-double n k = bit_at-suc (2 * n) k ∙ ap (λ (m : ℕ). bit_at m k) (omega arith)

halves : (j n : ℕ) → n % 2 ^ suc j ≡ 2 * (n / 2 % 2 ^ j) + n % 2
halves j n = ap (λ (k : ℕ). n % 2 ^ k) (omega arith) ∙ mod-pow-add n j 1 ∙ omega arith

bit_at_kept : (p k b : ℕ) → p ≤ k → bit_at (cleared p b) k ≡ bit_at b k
bit_at_kept zero k b le = ap (λ (n : ℕ). bit_at n k) (omega arith)
bit_at_kept (suc p) zero b le = absurd (omega arith)
bit_at_kept (suc p) (suc k) b le =
    ap (λ (n : ℕ). bit_at n (suc k)) (cleared-suc p b) ∙ bit_at-double (cleared p (b / 2)) k ∙ bit_at_kept p k (b / 2) (omega arith) ∙ sym (bit_at-suc b k)

bit_at_cleared : (p k b : ℕ) → k < p → bit_at (cleared p b) k ≡ 0
bit_at_cleared zero k b lt = absurd (omega arith)
bit_at_cleared (suc p) zero b lt = ap (λ (n : ℕ). bit_at n 0) (cleared-suc p b) ∙ bit_at_lowest (2 * cleared p (b / 2)) ∙ omega arith
bit_at_cleared (suc p) (suc k) b lt =
    ap (λ (n : ℕ). bit_at n (suc k)) (cleared-suc p b) ∙ bit_at-double (cleared p (b / 2)) k ∙ bit_at_cleared p k (b / 2) (omega arith)

-- the low bits of a remainder
bit_at_low : (j k n : ℕ) → k < j → bit_at (n % 2 ^ j) k ≡ bit_at n k
bit_at_low zero k n lt = absurd (omega arith)
bit_at_low (suc j) zero n lt = bit_at_lowest (n % 2 ^ suc j) ∙ omega (arith, halves j n) ∙ sym (bit_at_lowest n)
bit_at_low (suc j) (suc k) n lt =
    bit_at-suc (n % 2 ^ suc j) k ∙ ap (λ (m : ℕ). bit_at m k) (omega (arith, halves j n)) ∙ bit_at_low j k (n / 2) (omega arith) ∙ sym (bit_at-suc n k)

-- a pixel of a row whose last byte was replaced
same_byte : (row : List ℕ) (last byte x : ℕ) → x / 8 ≢ last → pixel (set row last byte) x ≡ pixel row x
same_byte row last byte x other = ap (λ (n : ℕ). bit_at n (7 - x % 8)) (get_or-set_other row last (x / 8) byte 0 other)

last_byte : (row : List ℕ) (last byte x : ℕ) → last < length row → x / 8 ≡ last → pixel (set row last byte) x ≡ bit_at byte (7 - x % 8)
last_byte row last byte x within e =
    ap (λ (i : ℕ). bit_at (get_or (set row last byte) i 0) (7 - x % 8)) e ∙ ap (λ (n : ℕ). bit_at n (7 - x % 8)) (get_or-set_same row last byte 0 within)

inside : (row : List ℕ) (width x : ℕ) → length row ≡ row_len width → x < width
    → pixel (set row (length row - 1) (cleared (length row * 8 - width) (get_or row (length row - 1) 0) % 256)) x ≡ pixel row x
inside row width x len lt =
    let last = length row - 1 in
    let b = get_or row last 0 in
    let p = length row * 8 - width in
    let byte = cleared p b % 256 in
    elim (cases_lt (x / 8) last) [
      | inl before ↦ same_byte row last byte x (omega arith)
      | inr past ↦
          let at : x / 8 ≡ last = omega arith in
          last_byte row last byte x (omega arith) at
          ∙ bit_at_low 8 (7 - x % 8) (cleared p b) (omega arith)
          ∙ bit_at_kept p (7 - x % 8) b (omega arith)
          ∙ ap (λ (i : ℕ). bit_at (get_or row i 0) (7 - x % 8)) (sym at)
    ]

outside : (row : List ℕ) (width x : ℕ) → length row ≡ row_len width → 0 < length row → width ≤ x
    → pixel (set row (length row - 1) (cleared (length row * 8 - width) (get_or row (length row - 1) 0) % 256)) x ≡ 0
outside row width x len some le =
    let last = length row - 1 in
    let b = get_or row last 0 in
    let p = length row * 8 - width in
    let byte = cleared p b % 256 in
    elim (cases_lt (x / 8) (length row)) [
      | inl before ↦
          last_byte row last byte x (omega arith) (omega arith)
          ∙ bit_at_low 8 (7 - x % 8) (cleared p b) (omega arith)
          ∙ bit_at_cleared p (7 - x % 8) b (omega arith)
      | inr past ↦
          ap (λ (n : ℕ). bit_at n (7 - x % 8)) (get_or_past (set row last byte) (x / 8) 0 (omega (arith, length-set row last byte)))
          ∙ bit_at-zero (7 - x % 8)
    ]

-- ---- a pixel of a row made black

pub put_black : (row : List ℕ) (x i k : ℕ) → i ≡ x / 8 → i < length row
    → pixel (set row i (bit_or (get_or row i 0) (1 * 2 ^ (7 - x % 8) % 256))) k ≡ cond (eqb k x) 1 (pixel row k)
put_black row x i k place within = cases (eqb k x) refl
  where
    cases : (b : Bool) → eqb k x ≡ b → pixel (set row i (bit_or (get_or row i 0) (1 * 2 ^ (7 - x % 8) % 256))) k ≡ cond b 1 (pixel row k)
    cases true e =
        let same : k ≡ x = eqb-true k x e in
        let here : k / 8 ≡ i = ap (λ (n : ℕ). n / 8) same ∙ sym place in
        last_byte row i (bit_or (get_or row i 0) (1 * 2 ^ (7 - x % 8) % 256)) k within here
        ∙ ap (λ (n : ℕ). bit_at (bit_or (get_or row i 0) (1 * 2 ^ (7 - x % 8) % 256)) (7 - n % 8)) same
        ∙ bit_at_set_same w8 (get_or row i 0) (7 - x % 8) (omega arith)
    cases false e =
        let other = eqb-false k x e in
        elim (cases_eq (k / 8) i) [
          | inl here ↦
              last_byte row i (bit_or (get_or row i 0) (1 * 2 ^ (7 - x % 8) % 256)) k within here
              ∙ bit_at_set_other w8 (get_or row i 0) (7 - x % 8) (omega arith) (7 - k % 8) (λ q. other (omega (arith, q, here, place)))
              ∙ ap (λ (n : ℕ). bit_at (get_or row n 0) (7 - k % 8)) (sym here)
          | inr apart ↦ same_byte row i (bit_or (get_or row i 0) (1 * 2 ^ (7 - x % 8) % 256)) k apart
        ]

-- a row whose last byte has its padding bits cleared
pub cleared_row : (row : List ℕ) (width : ℕ) → length row ≡ row_len width → 0 < length row
    → IsCleared width row (set row (length row - 1) (cleared (length row * 8 - width) (get_or row (length row - 1) 0) % 256))
cleared_row row width len some = record {
  len = length-set row (length row - 1) (cleared (length row * 8 - width) (get_or row (length row - 1) 0) % 256);
  pixels = λ x.
      elim (cases_lt x width) [
        | inl lt ↦ rw (lt-ltb x width lt) (inside row width x len lt)
        | inr le ↦ rw (le-ltb x width le) (outside row width x len some le)
      ];
}

-- ---- a row of zeros

pub row_white : (size : ℕ) (row : List ℕ) → length row ≡ size → ((k d : ℕ) → k < size → get_or row k d ≡ 0) → (k : ℕ) → pixel row k ≡ 0
row_white size row len zeros k = ap (λ (n : ℕ). bit_at n (7 - k % 8)) byte ∙ bit_at-zero (7 - k % 8)
  where
    byte : get_or row (k / 8) 0 ≡ 0
    byte =
        elim (cases_lt (k / 8) size) [
          | inl lt ↦ zeros (k / 8) 0 lt
          | inr ge ↦ get_or_past row (k / 8) 0 (omega (arith, len, ge))
        ]
