use Rattle.std.proofs.Common.{◌≡◌, List, sym, ◌∙◌, subst}
use Rattle.std.specs.List.{AllZip}
use Rattle.std.proofs.lemmas.List.Sorted.{IsPermutation-sym}
use Rattle.layout_geom.specs.declared.rect.Rect.{Rect}
use Rattle.whitespace_cover.specs.Bars.{LeaveSame, IsTurned}
use Rattle.whitespace_cover.proofs.Barring.{same_turned, same_chain, same_order, all_back}
use Rattle.whitespace_cover.proofs.bars.bars.Goals as goal

pub returns : goal.returns
returns c =
    let boxes : List Rect = c.args.boxes.now in
    let lines : List Rect = c.in_ok-lines.lines.items in
    let columns : List Rect = c.in_ok-columns.columns.items in
    let upright : List Rect = c.in_ok-all_turned.field-0.items in
    let ended : List Rect = c.in_ok-bars.bars.items in
    let sorted : List Rect = c.sort_unstable_by_key.new.self.items in
    let copied : c.in_ok-from_slice.field-0.items ≡ boxes = c.in_ok-from_slice.ensures.items ∙ c.as_slice.ensures.same in
    let across : LeaveSame c.args.least lines boxes = subst (λ (xs : List Rect). LeaveSame c.args.least lines xs) copied c.in_ok-lines.ensures.same in
    let first : AllZip IsTurned lines upright = subst (λ (xs : List Rect). AllZip IsTurned xs upright) c.deref.ensures.value c.in_ok-all_turned.ensures in
    let second : AllZip IsTurned columns ended = subst (λ (xs : List Rect). AllZip IsTurned xs ended) c.deref-2.ensures.value c.in_ok-bars.ensures in
    let down : LeaveSame c.args.least ended lines = same_turned c.args.least columns upright ended lines second (all_back lines upright first) c.in_ok-columns.ensures.same in
    let order : LeaveSame c.args.least sorted ended = same_order c.args.least sorted ended (IsPermutation-sym ended sorted c.sort_unstable_by_key.ensures.permutation) in
    subst (λ (xs : List Rect). LeaveSame c.args.least xs boxes) (sym c.from_vec.ensures.same)
    (same_chain c.args.least sorted ended boxes order (same_chain c.args.least ended lines boxes down across))
