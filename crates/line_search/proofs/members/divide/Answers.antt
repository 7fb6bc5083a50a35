use Rattle.std.proofs.Common.{arith, ◌≡◌, ◌<◌, ◌∙◌, ap, sym, refl, ℕ, Bool, true, false, not, length, get_or, slice_get, Some, List}
use Rattle.std.specs.List.{filter}
use Rattle.std.proofs.lemmas.List.{take_all}
use Rattle.std.proofs.lemmas.List.Elements.{All-get_or}
use Rattle.std.proofs.lemmas.Option.{slice_get_read}
use Rattle.line_quality.specs.Scores.{is_of}
use Rattle.line_search.proofs.Rounding.{kept_yes, kept_no, not_true, not_false}
use Rattle.line_search.proofs.members.divide.Goals as goal
use Rattle.line_search.proofs.members.divide.Goals.{then-is_member+in_ok-push, else-is_member+in_ok-push-2}

pub loop-position-preserved : goal.loop-position-preserved
loop-position-preserved c =
    let i = c.loop-position.position-index in
    let alive = c.args.alive.now in
    let position = get_or c.args.alive.now i 0 in
    let same : c.as_slice-position-items.result.now ≡ alive = c.as_slice-position-items.ensures.same in
    let within : c.loop-position.position-index < length alive = omega (arith, c.loop-position-test.true, ap (λ (l : List ℕ). length l) same) in
    let p : ℕ → Bool = λ q. is_of c.args.winner.now.slope c.args.winner.now.offset c.args.winner.now.depth c.args.gutters.now c.args.winner.now.column (slice_get c.args.boxes.now q) in
    let there : position < length c.args.boxes.now = All-get_or (λ (q : ℕ). q < length c.args.boxes.now) alive i 0 within c.requires.positions in
    let is : c.get-rect.result.now ≡ get_or c.args.boxes.now position c.get-rect.result.now = c.get-rect.ensures.item ∙ ap (λ (l : List ℕ). get_or c.args.boxes.now (get_or l i 0) c.get-rect.result.now) same in
    let read : slice_get c.args.boxes.now position ≡ Some c.get-rect.result.now = slice_get_read c.args.boxes.now (length c.args.boxes.now) position c.get-rect.result.now refl there is in
    let tested : c.is_member.result ≡ p position = c.is_member.ensures ∙ ap (is_of c.args.winner.now.slope c.args.winner.now.offset c.args.winner.now.depth c.args.gutters.now c.args.winner.now.column) (sym read) in
    elim c.if-is_member.branch [
      | then-is_member+in_ok-push w ↦
          let passes : p position ≡ true = sym tested ∙ w.if-is_member.true in
          record {
            members = rw (w.members-is, w.in_ok-push.ensures.grown, same, c.loop-position.invariant.members) (sym (kept_yes p alive i within passes));
            others = rw (w.others-is, c.loop-position.invariant.others) (sym (kept_no (λ (q : ℕ). not (p q)) alive i within (not_true (p position) passes)));
          }
      | else-is_member+in_ok-push-2 w ↦
          let fails : p position ≡ false = sym tested ∙ w.if-is_member.false in
          record {
            members = rw (w.members-is, c.loop-position.invariant.members) (sym (kept_no p alive i within fails));
            others = rw (w.others-is, w.in_ok-push-2.ensures.grown, same, c.loop-position.invariant.others) (sym (kept_yes (λ (q : ℕ). not (p q)) alive i within (not_false (p position) fails)));
          }
    ]

pub returns-clause-members : goal.returns-clause-members
returns-clause-members c =
    c.loop-position.invariant.members ∙ ap (filter (λ (q : ℕ). is_of c.args.winner.now.slope c.args.winner.now.offset c.args.winner.now.depth c.args.gutters.now c.args.winner.now.column (slice_get c.args.boxes.now q)))
    (take_all c.loop-position.position-index c.args.alive.now (omega (arith, c.loop-position-test.false, ap (λ (l : List ℕ). length l) c.as_slice-position-items.ensures.same)))

pub returns-clause-others : goal.returns-clause-others
returns-clause-others c =
    c.loop-position.invariant.others ∙ ap (filter (λ (q : ℕ). not (is_of c.args.winner.now.slope c.args.winner.now.offset c.args.winner.now.depth c.args.gutters.now c.args.winner.now.column (slice_get c.args.boxes.now q))))
    (take_all c.loop-position.position-index c.args.alive.now (omega (arith, c.loop-position-test.false, ap (λ (l : List ℕ). length l) c.as_slice-position-items.ensures.same)))
