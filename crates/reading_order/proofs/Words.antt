-- The bits of a row of words.
use Rattle.std.proofs.Common.{◌≡◌, ◌≢◌, ℕ, ◌*◌, ◌/◌, ◌%◌, ◌<◌, ◌≤◌, ◌^◌, true, false, List, length, get_or, set, replicate, bit_or, w64, eqb, arith, sym, ◌∙◌, ap, ⊎_elim}
use Rattle.std.specs.Int.{bit_at}
use Rattle.std.proofs.lemmas.Bool.{cases_eq, eq-eqb, cases_lt}
use Rattle.std.proofs.lemmas.List.{get_or-set_same, get_or-set_other, get_or-replicate, get_or_past, length-replicate}
use Rattle.std.proofs.lemmas.Nat.Bits.{bit_at-zero, bit_at_set_same, bit_at_set_other}
use Rattle.reading_order.specs.Tables.{is_set}

pub word_low : (limit place : ℕ) → place < limit → place / 64 ≤ limit / 64
word_low limit place low = omega arith

pub set_same : (words : List ℕ) (place : ℕ) → place / 64 < length words → is_set (set words (place / 64) (bit_or (get_or words (place / 64) 0) (1 * 2 ^ (place % 64) % 2 ^ 64))) place ≡ true
set_same words place within =
    let w = get_or words (place / 64) 0 in
    let new = bit_or w (1 * 2 ^ (place % 64) % 2 ^ 64) in
    let at : get_or (set words (place / 64) new) (place / 64) 0 ≡ new = get_or-set_same words (place / 64) new 0 within in
    eq-eqb _ _ (ap (λ v. bit_at v (place % 64)) at ∙ bit_at_set_same w64 w (place % 64) (omega arith))

pub set_other : (words : List ℕ) (place other : ℕ) → place / 64 < length words → other ≢ place → is_set (set words (place / 64) (bit_or (get_or words (place / 64) 0) (1 * 2 ^ (place % 64) % 2 ^ 64))) other ≡ is_set words other
set_other words place other within ne =
    let w = get_or words (place / 64) 0 in
    let new = bit_or w (1 * 2 ^ (place % 64) % 2 ^ 64) in
    ⊎_elim
    (λ same.
    let at : get_or (set words (place / 64) new) (other / 64) 0 ≡ new = ap (λ k. get_or (set words (place / 64) new) k 0) same ∙ get_or-set_same words (place / 64) new 0 within in
    let back : w ≡ get_or words (other / 64) 0 = ap (λ k. get_or words k 0) (sym same) in
    let apart : other % 64 ≢ place % 64 = omega arith in
    ap (λ v. eqb v 1) (ap (λ v. bit_at v (other % 64)) at ∙ bit_at_set_other w64 w (place % 64) (omega arith) (other % 64) apart ∙ ap (λ v. bit_at v (other % 64)) back))
    (λ apart. ap (λ v. eqb (bit_at v (other % 64)) 1) (get_or-set_other words (place / 64) (other / 64) new 0 apart))
    (cases_eq (other / 64) (place / 64))

pub blank : (n place : ℕ) → is_set (replicate n 0) place ≡ false
blank n place =
    let zero_word : get_or (replicate n 0) (place / 64) 0 ≡ 0 =
    ⊎_elim (λ low. get_or-replicate {A = ℕ} n (place / 64) 0 0 low) (λ high. get_or_past {X = ℕ} (replicate n 0) (place / 64) 0 (omega (arith, length-replicate {A = ℕ} n 0, high))) (cases_lt (place / 64) n) in
    ap (λ v. eqb v 1) (ap (λ v. bit_at v (place % 64)) zero_word ∙ bit_at-zero (place % 64))
