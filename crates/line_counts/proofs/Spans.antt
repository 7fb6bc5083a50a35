-- Spans as they grow by one member more.
use Rattle.std.proofs.Common.{◌≡◌, ℕ, ◌+◌, ◌<◌, ◌≤◌, List, length, get_or, take, Option, Some, None, IfSome, slice_get, arith, sym, ap, subst}
use Rattle.std.specs.Prelude.{ℤ}
use Rattle.std.proofs.lemmas.List.Elements.{All-more, All-weaker}
use Rattle.layout_geom.specs.declared.rect.Rect.{Rect}
use Rattle.line_counts.specs.declared.span.Span.{Span}
use Rattle.line_counts.specs.Fits.{place_of}
use Rattle.line_counts.specs.Blocks.{AreBetween}

abbrev between : Span → Option Rect → Type 0
between span o = IfSome o (λ box. (span.first ≤ place_of span.slope box) × (place_of span.slope box ≤ span.last))

wider : (span more : Span) → span.slope ≡ more.slope → more.first ≤ span.first → span.last ≤ more.last → (o : Option Rect) → between span o → between more o
wider span more same first last (Some r) is =
    let at : place_of span.slope r ≡ place_of more.slope r = ap (λ (s : ℤ). place_of s r) same in
    (omega (arith, is.0, first, at), omega (arith, is.1, last, at))
wider span more same first last None is = is

here : (more : Span) (o : Option Rect) (r : Rect) (place : ℕ) → o ≡ Some r → place ≡ place_of more.slope r → more.first ≤ place → place ≤ more.last → between more o
here more o r place read at first last = subst (between more) (sym read) (omega (arith, at, first), omega (arith, at, last))

-- one member more
pub span_more : (boxes : List Rect) (members : List ℕ) (i : ℕ) (span more : Span) (r : Rect) (place : ℕ) → i < length members → span.slope ≡ more.slope → more.first ≤ span.first → span.last ≤ more.last
    → slice_get boxes (get_or members i 0) ≡ Some r → place ≡ place_of more.slope r → more.first ≤ place → place ≤ more.last
    → AreBetween boxes span (take i members) → AreBetween boxes more (take (i + 1) members)
span_more boxes members i span more r place within same first last read at low high are =
    All-more (λ (m : ℕ). between more (slice_get boxes m)) members i 0 within
    (All-weaker (λ (m : ℕ). between span (slice_get boxes m)) (λ (m : ℕ). between more (slice_get boxes m)) (λ m is. wider span more same first last (slice_get boxes m) is) (take i members) are)
    (here more (slice_get boxes (get_or members i 0)) r place read at low high)
