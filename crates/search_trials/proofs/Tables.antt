-- The steps of the space of a table.
use Rattle.std.proofs.Common.{◌≡◌, ℕ, ◌+◌, ◌-◌, ◌<◌, ◌≤◌, List, [], ◌∷◌, ◌++◌, length, slice_index, Any, refl, arith, ap, sym, ◌∙◌, ◌⊎◌, inl, inr}
use Rattle.std.specs.Prelude.{pos, ◌-ℤ◌}
use Rattle.std.proofs.lemmas.Int.{ints}
use Rattle.std.proofs.lemmas.Bool.{cases_lt}
use Rattle.std.proofs.lemmas.List.Elements.{All-nil, All-cons, All-append}
use Rattle.box_search.specs.declared.space.Node.{Node}
use Rattle.box_search.specs.Shapes.{size, range_length, at_least_zero}
use Rattle.box_search.specs.Search.{AdmitsNone, IsRoot, Settles, Splits}
use Rattle.search_trials.specs.Table.{span_shape, IsKey, LiesIn, FitsTable, PartsUpTo}
use Rattle.search_trials.specs.TableLaws.{same_span}
use Rattle.box_search.proofs.Lists.{Any-append_left, Any-append_right}

range_between : (a b : ℕ) → a < b → range_length (pos a) (pos b) ≡ b - a
range_between a b h =
    let e : pos b -ℤ pos a ≡ pos (b - a) = omega (arith, ints) in
    ap at_least_zero e

size_of_span : (a b : ℕ) → a < b → size (span_shape a b) ≡ b - a
unfolding size
size_of_span a b h = rw (range_between a b h) (omega arith)

pub size_of_node : (keys : List ℕ) (node : Node (ℕ × ℕ)) → FitsTable keys node → size node.shape ≡ node.work.1 - node.work.0
size_of_node keys node fits = ap size fits.shape_is ∙ size_of_span node.work.0 node.work.1 fits.some

-- one more part
pub one_more : (keys : List ℕ) (node : Node (ℕ × ℕ)) (parts : List (Node (ℕ × ℕ))) (part : Node (ℕ × ℕ)) (cut next : ℕ) → FitsTable keys node → PartsUpTo keys node parts cut → FitsTable keys part → part.work.0 ≡ cut → part.work.1 ≡ next → part.bound ≤ node.bound → next + node.work.0 < node.work.1 + cut → next ≤ node.work.1 → cut < next → PartsUpTo keys node (parts ++ part ∷ []) next
one_more keys node parts part cut next fits before new from to bound shorter within some = record {
  fitting = All-append (FitsTable keys) parts (part ∷ []) before.fitting (All-cons (FitsTable keys) part [] new (All-nil (FitsTable keys)));
  smaller =
      let P : Node (ℕ × ℕ) → Type 0 = λ one. size one.shape < size node.shape in
      All-append P parts (part ∷ []) before.smaller (All-cons P part [] (omega (arith, size_of_node keys node fits, size_of_node keys part new, from, to)) (All-nil P));
  bounded =
      let P : Node (ℕ × ℕ) → Type 0 = λ one. one.bound ≤ node.bound in
      All-append P parts (part ∷ []) before.bounded (All-cons P part [] bound (All-nil P));
  reached = omega (arith, before.reached);
  covering = λ place low high.
      let P : Node (ℕ × ℕ) → Type 0 = λ one. LiesIn keys (slice_index keys place) one.shape in
      elim (below place) [
        | inl under ↦ Any-append_left P parts (part ∷ []) (before.covering place low under)
        | inr over ↦ Any-append_right P parts (part ∷ []) (0, part, omega arith, refl, record { from = part.work.0; to = part.work.1; place = place; shape_is = new.shape_is; low = omega (arith, from, over); high = omega (arith, to, high); there = refl })
      ];
} where
  below : (place : ℕ) → (place < cut) ⊎ (cut ≤ place)
  below place = cases_lt place cut

-- a range is split where the parts have all of its places
pub splits_of : (keys : List ℕ) (node : Node (ℕ × ℕ)) (parts : List (Node (ℕ × ℕ))) → FitsTable keys node → PartsUpTo keys node parts node.work.1 → length parts ≤ 8 → Splits (IsKey keys) (LiesIn keys) (FitsTable keys) node parts
splits_of keys node parts fits all few = record {
  few = few;
  fitting = all.fitting;
  smaller = all.smaller;
  bounded = all.bounded;
  covering = λ key is lies.
      let same = same_span node.work.0 node.work.1 lies.from lies.to (sym fits.shape_is ∙ lies.shape_is) in
      let found = all.covering lies.place (omega (arith, same.0, lies.low)) (omega (arith, same.1, lies.high)) in
      let at : (k : ℕ) → slice_index keys lies.place ≡ k → Any (λ part. LiesIn keys k part.shape) parts = λ k e. rw e at found in
      at key lies.there;
}

pub root_of : (keys : List ℕ) (node : Node (ℕ × ℕ)) → FitsTable keys node → node.work.0 ≡ 0 → node.work.1 ≡ length keys → IsRoot (IsKey keys) (LiesIn keys) (FitsTable keys) node
root_of keys node fits from to = record {
  fitting = fits;
  covering = λ key is. record { from = node.work.0; to = node.work.1; place = is.place; shape_is = fits.shape_is; low = omega (arith, from); high = omega (arith, to, is.within); there = is.there };
}

pub none_of : (keys : List ℕ) → length keys ≡ 0 → AdmitsNone (IsKey keys)
none_of keys empty key is = omega (arith, empty, is.within)

-- a range of one place
pub settles_of : (keys : List ℕ) (node : Node (ℕ × ℕ)) → FitsTable keys node → node.work.1 ≡ node.work.0 + 1 → 0 < node.bound → Settles (IsKey keys) (LiesIn keys) (FitsTable keys) node node.bound
settles_of keys node fits one some = record {
  admitted = record { positive = some; place = node.work.0; within = omega (arith, one, fits.within); there = fits.exact one };
  inside = record { from = node.work.0; to = node.work.1; place = node.work.0; shape_is = fits.shape_is; low = omega arith; high = omega (arith, one); there = fits.exact one };
  is_bound = refl;
}

pub ends_of : (keys : List ℕ) (node : Node (ℕ × ℕ)) → FitsTable keys node → node.work.1 ≡ node.work.0 + 1 → node.bound ≡ 0 → Splits (IsKey keys) (LiesIn keys) (FitsTable keys) node []
ends_of keys node fits one none = record {
  few = omega arith;
  fitting = All-nil (FitsTable keys);
  smaller = All-nil (λ part. size part.shape < size node.shape);
  bounded = All-nil (λ part. part.bound ≤ node.bound);
  covering = λ key is lies.
      let same = same_span node.work.0 node.work.1 lies.from lies.to (sym fits.shape_is ∙ lies.shape_is) in
      let under : slice_index keys lies.place ≤ node.bound = fits.over lies.place (omega (arith, same.0, lies.low)) (omega (arith, same.1, lies.high)) in
      absurd (omega (arith, under, lies.there, is.positive, none));
}
