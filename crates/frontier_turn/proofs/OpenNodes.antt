-- The open nodes of a frontier as its calls change them: which keys lie in their shapes, and that they fit.
use Rattle.std.proofs.Common.{◌≡◌, ℕ, ◌≤◌, ◌⊎◌, List, [], ◌∷◌, ◌++◌, map, sym, inl, inr, subst, arith, Any, Option, Some, None}
use Rattle.std.specs.Prelude.{nat_lt, All, IsPermutation, option_to_list}
use Rattle.std.proofs.lemmas.List.Sorted.{All-permutation}
use Rattle.std.proofs.lemmas.List.Elements.{All-nil, All-cons, All-append, All-filter, All-head}
use Rattle.box_search.specs.Contents.{Contents}
use Rattle.box_search.specs.Leasing.{Takes, above}
use Rattle.box_search.specs.Search.{BoundsKeys, IsRootOf}
use Rattle.box_search.specs.declared.space.Node.{Node}
use Rattle.box_search.specs.declared.space.Shape.{Shape}
use Rattle.box_search.specs.declared.lease.Take.{Take}
use Rattle.box_search.specs.declared.lease.Take.TheVariants.{Leased, Idle, Done}
use Rattle.box_search.proofs.Lists.{Any-permutation, Any-append_left, Any-append_right, Any-head, Any-tail, Any-cons_cases, Any-map, Any-from_map}
use Rattle.box_search.proofs.Pruning.{kept_above}
use Rattle.frontier_turn.specs.declared.view.Outline.{Outline}
use Rattle.frontier_turn.specs.Holding.{TakesFitting, Replaces}
use Rattle.frontier_turn.specs.Snapshots.{outline_of, snapshot_of}

-- the key lies in the shape
abbrev pub AtOutline : (ℕ → Shape → Type 0) → ℕ → Outline → Type 0
AtOutline lies_in k n = lies_in k n.shape

module _ {W : Type 0} (lies_in : ℕ → Shape → Type 0) (k : ℕ) where
  abbrev pub AtNode : Node W → Type 0
  AtNode n = lies_in k n.shape

  -- where a key is in the frontier, by its nodes
  pub in_nodes : (f : Contents W) → Any (AtOutline lies_in k) (map outline_of f.open_nodes) → Any AtNode f.open_nodes
  in_nodes f = Any-from_map outline_of (AtOutline lies_in k) f.open_nodes

  pub in_outlines : (f : Contents W) → Any AtNode f.open_nodes → Any (AtOutline lies_in k) (map outline_of f.open_nodes)
  in_outlines f = Any-map outline_of (AtOutline lies_in k) f.open_nodes

  -- a node came out of the open ones
  pub out_or_open : (n : Node W) (old new : List (Node W)) → IsPermutation old (n ∷ new) → Any AtNode old → lies_in k n.shape ⊎ Any AtNode new
  out_or_open n old new opened node = Any-cons_cases AtNode n new (Any-permutation AtNode old (n ∷ new) opened node)

  -- a node came back to the open ones
  pub stays_beside : (n : Node W) (old new : List (Node W)) → IsPermutation (n ∷ old) new → Any AtNode old → Any AtNode new
  stays_beside n old new opened node = Any-permutation AtNode (n ∷ old) new opened (Any-tail AtNode n old node)

  pub open_again : (n : Node W) (old new : List (Node W)) → IsPermutation (n ∷ old) new → lies_in k n.shape → Any AtNode new
  open_again n old new opened inside = Any-permutation AtNode (n ∷ old) new opened (Any-head AtNode n old inside)

module _ {W : Type 0} (fits : Node W → Type 0) where
  -- a node that goes out fits
  pub answered_fits : (old new : Contents W) (t : Take W) → All fits old.open_nodes → Takes old t new → TakesFitting fits t
  answered_fits old new (Leased l) fitting a = All-head fits l.node new.open_nodes (All-permutation fits old.open_nodes (l.node ∷ new.open_nodes) a.opened fitting)
  answered_fits old new Idle fitting a = tt
  answered_fits old new Done fitting a = tt

module _ {W : Type 0} (admits : ℕ → Type 0) (lies_in : ℕ → Shape → Type 0) (fits : Node W → Type 0) where
  -- nodes are opened that are above what was seen, in the place of a shape
  module _ (law : BoundsKeys admits lies_in fits) (old new nodes : List (Node W)) (seen : ℕ) (fit : All fits nodes) (opened : IsPermutation (above seen nodes ++ old) new) where
    pub stays_open : (k : ℕ) → Any (AtNode lies_in k) old → Any (AtNode lies_in k) new
    stays_open k node = Any-permutation (AtNode lies_in k) (above seen nodes ++ old) new opened (Any-append_right (AtNode lies_in k) (above seen nodes) old node)

    pub fitting_again : All fits old → All fits new
    fitting_again fitting = All-permutation fits (above seen nodes ++ old) new opened (All-append fits (above seen nodes) old (All-filter (λ n. nat_lt seen n.bound) fits nodes fit) fitting)

    pub seen_or_open : (shape : Shape) (known : ℕ) → seen ≤ known → Replaces admits lies_in shape seen nodes → (k : ℕ) → admits k → lies_in k shape → (k ≤ known) ⊎ Any (AtNode lies_in k) new
    seen_or_open shape known low replaces k fair inside = elim (replaces k fair inside) [
      | inl le ↦ inl (omega arith)
      | inr node ↦ elim (kept_above admits lies_in fits law nodes seen k fit fair node) [
        | inl le ↦ inl (omega arith)
        | inr kept ↦ inr (Any-permutation (AtNode lies_in k) (above seen nodes ++ old) new opened (Any-append_left (AtNode lies_in k) (above seen nodes) old kept))
      ]
    ]

  -- the root of a search has every admitted key, and fits
  pub root_open : (F : Contents W) (root : Option (Node W)) → IsRootOf admits lies_in fits root → F.open_nodes ≡ option_to_list root → (k : ℕ) → admits k → Any (AtOutline lies_in k) (snapshot_of F).open_nodes
  root_open F None law open_nodes k fair = absurd (law k fair)
  root_open F (Some n) law open_nodes k fair =
      let P : Outline → Type 0 = AtOutline lies_in k in
      subst (λ (ns : List (Node W)). Any P (map outline_of ns)) (sym open_nodes) (Any-head P (outline_of n) [] (law.covering k fair))

  pub root_fits : (root : Option (Node W)) → IsRootOf admits lies_in fits root → All fits (option_to_list root)
  root_fits None law = All-nil fits
  root_fits (Some n) law = All-cons fits n [] law.fitting (All-nil fits)
