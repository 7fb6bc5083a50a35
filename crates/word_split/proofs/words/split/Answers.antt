use Rattle.std.proofs.Common.{[], ◌∷◌, ◌++◌, arith, ℕ, get_or}
use Rattle.std.proofs.lemmas.List.{append-nil, append_assoc}
use Rattle.word_split.specs.Partings.{IsAbove}
use Rattle.word_split.specs.Words.{AreWordsFrom}
use Rattle.word_split.proofs.words.split.Goals as goal

pub loop-first-preserved : goal.loop-first-preserved
loop-first-preserved c =
    let word = c.word_at-word.result in
    let so_far = c.loop-first.invariant.1 in
    (c.word_at-word.ensures.fits, λ rest are. rw (c.in_ok-push.ensures.grown, append_assoc) (so_far (word.bbox ∷ rest) (word.end, c.word_at-word.ensures, are)))

pub returns : goal.returns
returns c =
    let words = c.loop-first.words in
    let Breaks : ℕ → Type 0 = λ k. IsAbove c.args.threshold (get_or c.args.gaps.now k 0) in
    let whole : AreWordsFrom c.args.line.now Breaks 0 (words ++ []) = c.loop-first.invariant.1 [] (omega (arith, c.loop-first.invariant.0)) in
    rw append-nil at whole
