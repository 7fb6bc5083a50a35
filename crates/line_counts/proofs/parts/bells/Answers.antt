use Rattle.std.proofs.Common.{◌<◌, ℕ, List, length, get_or, set, get_or-set_same, get_or-set_other, arith, ap, ◌∙◌, sym, ⊎_elim}
use Rattle.std.proofs.Math.ListN.{length-set}
use Rattle.std.proofs.lemmas.Bool.{cases_eq}
use Rattle.line_counts.specs.Tops.{weighed}
use Rattle.line_counts.proofs.parts.bells.Goals as goal

pub loop-place-preserved : goal.loop-place-preserved
loop-place-preserved c =
    let bells : List ℕ = c.loop-place.bells in
    let i = c.loop-place.place in
    let counts : List ℕ = c.args.counts.now in
    let within : i < length bells = omega (arith, c.loop-place-test.true, c.loop-place.invariant.long) in
    record {
      long = length-set bells i c.bell.result ∙ c.loop-place.invariant.long;
      value = λ k less. ⊎_elim
          (λ same.
          ap (λ (n : ℕ). get_or (set bells i c.bell.result) n 0) same
          ∙ get_or-set_same bells i c.bell.result 0 within
          ∙ c.bell.ensures
          ∙ ap (λ (n : ℕ). weighed counts n 0) (sym same))
          (λ differs. get_or-set_other bells i k c.bell.result 0 differs ∙ c.loop-place.invariant.value k (omega (arith, less, differs)))
          (cases_eq k i);
    }
