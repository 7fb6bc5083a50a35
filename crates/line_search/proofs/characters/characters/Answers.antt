use Rattle.std.proofs.Common.{arith, ◌≡◌, ◌<◌, ◌∙◌, ap, sym, refl, ℕ, Bool, List, length, get_or, slice_get, Some, length-append}
use Rattle.std.proofs.lemmas.List.Elements.{All-push}
use Rattle.std.proofs.lemmas.Option.{slice_get_read}
use Rattle.layout_geom.specs.declared.rect.Rect.{Rect}
use Rattle.line_search.specs.Lines.{is_character}
use Rattle.line_search.proofs.Rounding.{chosen_yes, chosen_no}
use Rattle.line_search.proofs.characters.characters.Goals as goal
use Rattle.line_search.proofs.characters.characters.Goals.{then-is_character+in_ok-push, else-is_character}

pub loop-position-preserved : goal.loop-position-preserved
loop-position-preserved c =
    let n = c.loop-position.position in
    let boxes : List Rect = c.args.kept.now.boxes in
    let median : ℕ = c.args.kept.now.median in
    let p : ℕ → Bool = λ q. is_character median (slice_get boxes q) in
    let same : c.as_slice-rect-items.result.now ≡ boxes = c.as_slice-rect-items.ensures.same in
    let within : n < length boxes = omega (arith, c.loop-position-test.true, ap (λ (l : List Rect). length l) same) in
    let is : c.rect-item.result ≡ get_or boxes n c.rect-item.result = c.rect-item.is ∙ ap (λ (l : List Rect). get_or l n c.rect-item.result) same in
    let read : slice_get boxes n ≡ Some c.rect-item.result = slice_get_read boxes (length boxes) n c.rect-item.result refl within is in
    let tested : c.is_character.result ≡ p n = c.is_character.ensures ∙ ap (is_character median) (sym read) in
    elim c.if-is_character.branch [
      | then-is_character+in_ok-push w ↦ record {
        value = rw (w.positions-is, w.in_ok-push.ensures.grown, c.loop-position.invariant.value) (sym (chosen_yes p n (sym tested ∙ w.if-is_character.true)));
        within = rw (w.positions-is, w.in_ok-push.ensures.grown) (All-push (λ (q : ℕ). q < length boxes) c.loop-position.positions n c.loop-position.invariant.within within);
        few = rw (w.positions-is, w.in_ok-push.ensures.grown) (omega (arith, length-append {A = ℕ}, c.loop-position.invariant.few));
      }
      | else-is_character w ↦ record {
        value = rw (w.positions-is, c.loop-position.invariant.value) (sym (chosen_no p n (sym tested ∙ w.if-is_character.false)));
        within = rw w.positions-is c.loop-position.invariant.within;
        few = rw w.positions-is (omega (arith, c.loop-position.invariant.few));
      }
    ]
