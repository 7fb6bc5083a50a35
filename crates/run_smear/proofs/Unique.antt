-- A page has one smear.
use Rattle.std.proofs.Common.{◌≡◌, ◌∙◌, ℕ, Bool, true, false, refl, sym}
use Rattle.std.proofs.Math.Path.{fun_ext}
use Rattle.packed_rows.specs.Page.{Page}
use Rattle.run_smear.specs.Smear.{IsSmearOf, SmearIsUnique}

-- two tests that are true at the same time are one
same_test : (a b : Bool) → (a ≡ true → b ≡ true) → (b ≡ true → a ≡ true) → a ≡ b
same_test true b first second = sym (first refl)
same_test false true first second = second refl
same_test false false first second = refl

pub one_smear : SmearIsUnique
one_smear page smear other h v is is_too =
    let wide : smear.width ≡ other.width = is.width_is ∙ sym is_too.width_is in
    let high : smear.height ≡ other.height = is.height_is ∙ sym is_too.height_is in
    let black : smear.is_black ≡ other.is_black = fun_ext λ x. fun_ext λ y.
    same_test (smear.is_black x y) (other.is_black x y) (λ at. (is_too.blacks x y).1 ((is.blacks x y).0 at)) (λ at. (is.blacks x y).1 ((is_too.blacks x y).0 at)) in
    λ i. record { width = wide i; height = high i; is_black = black i }
