use Rattle.std.proofs.Common.{◌≡◌, ℕ, sym, subst, arith}
use Rattle.std.specs.Int.{bit_not, w64}
use Rattle.page_runs.proofs.RowWords.{AreOfColour, whites_of}
use Rattle.page_runs.proofs.row_words.pixels_of.Goals as goal

pub returns-else-colour-eq-BLACK : goal.returns-else-colour-eq-BLACK
returns-else-colour-eq-BLACK c =
    let white : c.args.colour ≡ 0 = omega (arith, c.requires, c.if-colour-eq-BLACK.false) in
    subst (λ (colour : ℕ). AreOfColour colour c.args.word (bit_not w64 c.args.word)) (sym white) (whites_of c.args.word c.ranges.word.fits)
