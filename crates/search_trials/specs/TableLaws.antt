-- The laws of the space of a table.
use Rattle.std.specs.Prelude.{◌≡◌, ℕ, ◌<◌, ◌≤◌, ℤ, pos, List, [], ◌∷◌, slice_index, refl}
use Rattle.std.proofs.Common.{arith, ap, ◌∙◌, sym}
use Rattle.std.proofs.lemmas.Int.{ints}
use Rattle.box_search.specs.declared.space.Shape.{Shape}
use Rattle.box_search.specs.Search.{BoundsKeys}
use Rattle.search_trials.specs.Table.{table_problem, keys_of, span_shape, IsKey, LiesIn, FitsTable}

-- a table is read back from whole numbers
pub keys_back : (keys : List ℕ) → keys_of (table_problem keys) ≡ keys
keys_back [] = refl
keys_back (key ∷ keys) = ap (λ rest. key ∷ rest) (keys_back keys)

-- a shape has one range of places
pub same_span : (a b c d : ℕ) → span_shape a b ≡ span_shape c d → (a ≡ c) × (b ≡ d)
same_span a b c d e =
    let low : pos a ≡ pos c = ap (λ (shape : Shape). shape.a0) e in
    let high : pos b ≡ pos d = ap (λ (shape : Shape). shape.a1) e in
    (omega (arith, ints, low), omega (arith, ints, high))

pub table_positive : (problem : List ℤ) (key : ℕ) → IsKey (keys_of problem) key → 0 < key
table_positive problem key is = is.positive

pub table_bounded : (problem : List ℤ) → let keys = keys_of problem in BoundsKeys (IsKey keys) (LiesIn keys) (FitsTable keys)
table_bounded problem node key fits is lies =
    let same = same_span node.work.0 node.work.1 lies.from lies.to (sym fits.shape_is ∙ lies.shape_is) in
    let under : slice_index (keys_of problem) lies.place ≤ node.bound =
    fits.over lies.place (omega (arith, same.0, lies.low)) (omega (arith, same.1, lies.high)) in
    omega (arith, under, lies.there)
