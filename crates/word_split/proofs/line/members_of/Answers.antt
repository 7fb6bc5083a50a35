use Rattle.std.proofs.Common.{arith, ◌≡◌, ◌<◌, ◌≤◌, ◌∙◌, ap, refl, ℕ, length, get_or, slice_get, Some, List, subst}
use Rattle.std.proofs.lemmas.List.{take_all}
use Rattle.std.proofs.lemmas.List.Elements.{All-get_or}
use Rattle.std.proofs.lemmas.Option.{slice_get_read}
use Rattle.word_split.specs.Members.{AreMembers}
use Rattle.word_split.proofs.Gathered.{members_more}
use Rattle.word_split.proofs.line.members_of.Goals as goal

pub loop-position-preserved : goal.loop-position-preserved
loop-position-preserved c =
    let i = c.loop-position.position-index in
    let boxes = c.args.boxes.now in
    let members = c.args.members.now in
    let position = get_or members i 0 in
    let same : c.as_slice-position-items.result.now ≡ members = c.as_slice-position-items.ensures.same in
    let within : i < length members = omega (arith, c.loop-position-test.true, ap (λ (l : List ℕ). length l) same) in
    let there : position < length boxes = All-get_or (λ (q : ℕ). q < length boxes) members i 0 within c.requires in
    let is : c.get.result.now ≡ get_or boxes position c.get.result.now = c.get.ensures.item ∙ ap (λ (l : List ℕ). get_or boxes (get_or l i 0) c.get.result.now) same in
    let read : slice_get boxes position ≡ Some c.get.result.now = slice_get_read boxes (length boxes) position c.get.result.now refl there is in
    rw c.in_ok-push.ensures.items (members_more boxes members c.loop-position.given.items i c.get.result.now within read c.loop-position.invariant)

pub returns : goal.returns
returns c =
    let members = c.args.members.now in
    let same : c.as_slice-position-items.result.now ≡ members = c.as_slice-position-items.ensures.same in
    let all : length members ≤ c.loop-position.position-index = omega (arith, c.loop-position-test.false, ap (λ (l : List ℕ). length l) same) in
    subst (λ (xs : List ℕ). AreMembers c.args.boxes.now xs c.loop-position.given.items) (take_all c.loop-position.position-index members all) c.loop-position.invariant
