use Rattle.std.proofs.Common.{ℕ, List, IfOk, length, arith, ap, subst}
use Rattle.layout_geom.specs.declared.rect.Rect.{Rect}
use Rattle.word_split.specs.Gaps.{AreGapsOf}
use Rattle.word_split.specs.Thresholds.{IsThresholdOf}
use Rattle.word_split.proofs.Gathered.{length-line, line_within}
use Rattle.word_split.proofs.Found.{AreWordsAbove, words_found}
use Rattle.word_split.proofs.words.word_boxes.Goals as goal

pub gaps_of-requires : goal.gaps_of-requires
gaps_of-requires c =
    let count = length-line c.args.boxes.now c.args.members.now c.in_ok-line.line.items c.in_ok-line.ensures in
    omega (arith, count, ap (λ (l : List Rect). length l) c.deref.ensures.value, c.requires.some)

pub threshold_of-requires-clause-few : goal.threshold_of-requires-clause-few
threshold_of-requires-clause-few c =
    let count = length-line c.args.boxes.now c.args.members.now c.in_ok-line.line.items c.in_ok-line.ensures in
    let line = ap (λ (l : List Rect). length l) c.deref.ensures.value in
    let gaps = ap (λ (l : List ℕ). length l) c.deref-2.ensures.value in
    omega (arith, count, line, gaps, c.in_ok-gaps.ensures.gaps.count, c.requires.few)

pub split-requires-clause-contained : goal.split-requires-clause-contained
split-requires-clause-contained c =
    let outer = c.requires.contained.0 in
    let within = line_within c.args.boxes.now c.args.members.now c.in_ok-line.line.items outer c.in_ok-line.ensures c.requires.contained.1 in
    (outer, rw c.deref-3.ensures.value within)

pub returns : goal.returns
returns c =
    let line = c.in_ok-line.line.items in
    let gaps = c.in_ok-gaps.gaps.items in
    let threshold = c.in_ok-threshold.threshold in
    let between : AreGapsOf line gaps = subst (λ (l : List Rect). AreGapsOf l gaps) c.deref.ensures.value c.in_ok-gaps.ensures.gaps in
    let parts : IsThresholdOf gaps c.args.median threshold =
    subst (λ (g : List ℕ). IsThresholdOf g c.args.median threshold) c.deref-2.ensures.value c.in_ok-threshold.ensures in
    let above : IfOk c.split.result (AreWordsAbove line gaps threshold) =
    subst (λ (g : List ℕ). IfOk c.split.result (AreWordsAbove line g threshold)) c.deref-4.ensures.value
    (subst (λ (l : List Rect). IfOk c.split.result (AreWordsAbove l c.deref-4.result.now threshold)) c.deref-3.ensures.value c.split.ensures) in
    record { words = words_found c.args.boxes.now c.args.members.now c.args.median line gaps threshold c.split.result c.in_ok-line.ensures between parts above }
