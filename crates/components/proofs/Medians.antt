-- The number in the middle of sorted numbers.
use Rattle.std.proofs.Common.{◌≡◌, ◌<◌, ℕ, ◌-◌, ◌/◌, Bool, false, eqb, List, length, get_or, refl, ap, ◌∙◌, arith}
use Rattle.std.specs.Prelude.{slice_index}
use Rattle.std.proofs.lemmas.Bool.Decides.{nat_tests}
use Rattle.std.proofs.lemmas.List.{get_or_read_under}

not_empty : (empty : Bool) (len : ℕ) → empty ≡ eqb len 0 → empty ≡ false → 0 < len
not_empty empty len says test = grind (arith, nat_tests)

pub middle_is : (rising : List ℕ) (len vec found : ℕ) (empty : Bool) → len ≡ vec → vec ≡ length rising → empty ≡ eqb vec 0 → empty ≡ false
    → found ≡ get_or rising ((len - 1) / 2) found → found ≡ slice_index rising ((length rising - 1) / 2)
middle_is rising len vec found empty e f says test read =
    let some : 0 < vec = not_empty empty vec says test in
    let all : len ≡ length rising = e ∙ f in
    let below : (len - 1) / 2 < length rising = omega arith in
    get_or_read_under rising ((len - 1) / 2) (length rising) found 0 read below refl ∙ ap (λ (n : ℕ). get_or rising ((n - 1) / 2) 0) all
