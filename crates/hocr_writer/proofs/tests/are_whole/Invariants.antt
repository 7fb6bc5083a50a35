use Rattle.std.proofs.Common.{◌≡◌, ◌<◌, ℕ, take, Some, false}
use Rattle.std.specs.Prelude.{All}
use Rattle.std.specs.List.{slice_get}
use Rattle.hocr_writer.specs.declared.layout.Layout.{Layout}
use Rattle.hocr_writer.specs.Listing.{IsWholeLayout}
use Rattle.hocr_writer.proofs.tests.are_whole.Given as goal

-- The layouts so far can be written, and have their places as their pages' numbers.
abbrev pub invariant-loop-place : goal.invariant-loop-place
invariant-loop-place l = record {
  whole : All IsWholeLayout (take l.place l.layouts);
  bare : All (λ layout. layout.with_words ≡ false) (take l.place l.layouts);
  numbered : (k : ℕ) (layout : Layout) → k < l.place → slice_get l.layouts k ≡ Some layout → layout.page ≡ k;
}
