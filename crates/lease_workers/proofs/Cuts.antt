-- What is known of a shape that was cut, from one lease of a turn to the next.
use Rattle.std.proofs.Common.{◌≡◌, ◌<◌, ◌≤◌, ◌++◌, ◌∷◌, ℕ, ℤ, Bool, true, List, All, inl, inr, subst, arith, IsPermutation}
use Rattle.std.specs.Prelude.{◌&&◌}
use Rattle.std.specs.Ordering.{int_eq}
use Rattle.std.proofs.lemmas.Bool.{and_parts}
use Rattle.std.proofs.lemmas.Bool.Decides.{Decides-int_eq}
use Rattle.std.proofs.lemmas.List.Elements.{All-contains, All-tail}
use Rattle.std.proofs.lemmas.List.Sorted.{All-permutation}
use Rattle.box_search.specs.declared.space.Node.{Node}
use Rattle.box_search.specs.declared.space.Shape.{Shape}
use Rattle.box_search.specs.Leasing.{above}
use Rattle.box_search.specs.Search.{BoundsKeys}
use Rattle.box_search.specs.Shapes.{size}
use Rattle.box_search.proofs.Lists.{Any-permutation, Any-append_left, Any-cons_cases, Any-weaker}
use Rattle.box_search.proofs.Pruning.{kept_above}
use Rattle.frontier_turn.specs.Holding.{Replaces}
use Rattle.lease_workers.specs.Cutting.{IsCut}

both : (m n : ℤ) (rest : Bool) → (int_eq m n && rest) ≡ true → (m ≡ n) × (rest ≡ true)
both m n rest e = let p = and_parts (int_eq m n) rest e in ((Decides-int_eq m n).0 p.0, p.1)

-- two shapes with the same ranges are one
pub shapes_are_one : (x y : Shape) → (int_eq x.a0 y.a0 && (int_eq x.a1 y.a1 && (int_eq x.b0 y.b0 && (int_eq x.b1 y.b1 && (int_eq x.c0 y.c0 && int_eq x.c1 y.c1))))) ≡ true → x ≡ y
shapes_are_one x y e =
    let (a0, e1) = both x.a0 y.a0 _ e in
    let (a1, e2) = both x.a1 y.a1 _ e1 in
    let (b0, e3) = both x.b0 y.b0 _ e2 in
    let (b1, e4) = both x.b1 y.b1 _ e3 in
    let (c0, e5) = both x.c0 y.c0 _ e4 in
    let c1 = (Decides-int_eq x.c1 y.c1).0 e5 in
    λ i. record { a0 = a0 i; a1 = a1 i; b0 = b0 i; b1 = b1 i; c0 = c0 i; c1 = c1 i }

module _ {W : Type 0} (admits : ℕ → Type 0) (lies_in : ℕ → Shape → Type 0) where
  abbrev Smaller : Shape → ℕ → Node W → Type 0
  Smaller shape key node = lies_in key node.shape × (size node.shape < size shape)

  -- a node of this shape is none of the smaller ones, so these stay open where it is leased
  pub cut_stays : (shape : Shape) (seen : ℕ) (olds news : List (Node W)) (node : Node W) → IsCut admits lies_in seen shape olds → IsPermutation olds (node ∷ news) → node.shape ≡ shape → IsCut admits lies_in seen shape news
  cut_stays shape seen olds news node cut moved same key fair inside = elim (cut key fair inside) [
    | inl le ↦ inl le
    | inr found ↦ elim (Any-cons_cases (Smaller shape key) node news (Any-permutation (Smaller shape key) olds (node ∷ news) moved found)) [
      | inl itself ↦ absurd (let less : size shape < size shape = subst (λ (s : Shape). size s < size shape) same itself.1 in omega arith)
      | inr rest ↦ inr rest
    ]
  ]

  -- so the keys of the node are open beside it
  pub beside : (shape : Shape) (seen : ℕ) (news : List (Node W)) (node : Node W) → IsCut admits lies_in seen shape news → node.shape ≡ shape → Replaces admits lies_in node.shape seen news
  beside shape seen news node cut same key fair inside = elim (cut key fair (subst (lies_in key) same inside)) [
    | inl le ↦ inl le
    | inr found ↦ inr (Any-weaker (Smaller shape key) (λ (one : Node W). lies_in key one.shape) (λ one both. both.0) news found)
  ]

  module _ (fits : Node W → Type 0) (bounded : BoundsKeys admits lies_in fits) where
    -- the keys of a node whose bound was seen were seen
    pub low_replaces : (node : Node W) (seen : ℕ) (news : List (Node W)) → fits node → node.bound ≤ seen → Replaces admits lies_in node.shape seen news
    low_replaces node seen news fit low key fair inside = let bound = bounded node key fit fair inside in inl (omega arith)

    -- a shape whose smaller parts are open now is cut
    pub cut_of_parts : (shape : Shape) (seen : ℕ) (parts olds news : List (Node W)) → All fits parts → All (λ (part : Node W). size part.shape < size shape) parts
        → Replaces admits lies_in shape seen parts → IsPermutation (above seen parts ++ olds) news → IsCut admits lies_in seen shape news
    cut_of_parts shape seen parts olds news fitting smaller replaces opened key fair inside = elim (replaces key fair inside) [
      | inl le ↦ inl le
      | inr (i, part, within, at, here) ↦
          elim (kept_above admits (λ k s. lies_in k s × (size s < size shape)) fits (λ node k fit fair' both. bounded node k fit fair' both.0) parts seen key fitting fair
          (i, part, within, at, (here, All-contains (λ (p : Node W). size p.shape < size shape) parts part smaller (i, within, at)))) [
            | inl le ↦ inl le
            | inr kept ↦ inr (Any-permutation (Smaller shape key) (above seen parts ++ olds) news opened (Any-append_left (Smaller shape key) (above seen parts) olds kept))
          ]
    ]

-- where a node of greatest bound goes out, the others are no greater
pub others_below : {W : Type 0} (olds news : List (Node W)) (node : Node W) → All (λ (other : Node W). other.bound ≤ node.bound) olds → IsPermutation olds (node ∷ news) → All (λ (other : Node W). other.bound ≤ node.bound) news
others_below olds news node bounds moved = All-tail (λ (other : Node _). other.bound ≤ node.bound) node news (All-permutation (λ (other : Node _). other.bound ≤ node.bound) olds (node ∷ news) moved bounds)
