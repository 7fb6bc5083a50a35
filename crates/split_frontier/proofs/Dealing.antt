-- The nodes at which a search begins, as they are dealt out to the shards.
use Rattle.std.proofs.Common.{◌≡◌, ℕ, zero, suc, ◌<◌, ◌⊎◌, List, [], ◌∷◌, ◌++◌, map, set, get_or, length, sym, refl, ap, ◌∙◌, subst, inl, inr, arith, append_assoc, Any, All, None}
use Rattle.std.specs.List.Sorted.{IsPermutation}
use Rattle.std.proofs.lemmas.List.Elements.{All-nil, All-cons, All-head, All-tail}
use Rattle.std.proofs.lemmas.List.Sorted.{IsPermutation-sym, IsPermutation-trans, IsPermutation-cons, IsPermutation-middle, IsPermutation-append_right, IsPermutation-append_comm}
use Rattle.std.proofs.lemmas.List.{length-map, map-set}
use Rattle.std.proofs.Math.ListN.{get_or-map}
use Rattle.box_search.specs.declared.space.Node.{Node}
use Rattle.box_search.specs.declared.space.Shape.{Shape}
use Rattle.box_search.specs.Leasing.{above}
use Rattle.box_search.specs.Search.{BoundsKeys, CoverAll}
use Rattle.box_search.proofs.Lists.{Any-permutation, Any-head, Any-tail, Any-cons_cases, no_Any}
use Rattle.box_search.proofs.Pruning.{kept_above}
use Rattle.box_search.proofs.Searching.{cover_in_any_order}
use Rattle.frontier_turn.specs.declared.view.Outline.{Outline}
use Rattle.frontier_turn.proofs.OpenNodes.{AtNode, in_outlines}
use Rattle.split_frontier.specs.Opening.{together, IsFresh, AreFresh, IsOpening}
use Rattle.split_frontier.specs.Rule.{Slot}
use Rattle.split_frontier.specs.Steps.{shown}

module _ {X : Type 0} (P : X → Type 0) where
  all_left : (xs ys : List X) → All P (xs ++ ys) → All P xs
  all_left [] ys all = All-nil P
  all_left (x ∷ xs) ys all = All-cons P x xs (All-head P x (xs ++ ys) all) (all_left xs ys (All-tail P x (xs ++ ys) all))

  all_right : (xs ys : List X) → All P (xs ++ ys) → All P ys
  all_right [] ys all = all
  all_right (x ∷ xs) ys all = all_right xs ys (All-tail P x (xs ++ ys) all)

  left_or_right : (xs ys : List X) → Any P (xs ++ ys) → Any P xs ⊎ Any P ys
  left_or_right [] ys some' = inr some'
  left_or_right (x ∷ xs) ys some' = elim (Any-cons_cases P x (xs ++ ys) some') [
    | inl here ↦ inl (Any-head P x xs here)
    | inr later ↦ elim (left_or_right xs ys later) [
      | inl found ↦ inl (Any-tail P x xs found)
      | inr found ↦ inr found
    ]
  ]

module _ {X : Type 0} where
  -- one more element goes to one of the shares
  pub dealt_one : (shares : List (List X)) (place : ℕ) (d : List X) (x : X) → place < length shares
      → IsPermutation (x ∷ together shares) (together (set shares place (get_or shares place d ++ x ∷ [])))
  dealt_one [] place d x there = absurd (omega arith)
  dealt_one (share ∷ shares) zero d x there =
      rw (append_assoc share (x ∷ []) (together shares)) (IsPermutation-sym _ _ (IsPermutation-middle share x (together shares)))
  dealt_one (share ∷ shares) (suc place) d x there =
      IsPermutation-trans _ _ _ (IsPermutation-sym _ _ (IsPermutation-middle share x (together shares)))
      (IsPermutation-append_right share (x ∷ together shares) (together (set shares place (get_or shares place d ++ x ∷ []))) (dealt_one shares place d x (omega arith)))

  -- a share without elements has none to add
  pub still_nothing : (shares : List (List X)) (share : List X) → together shares ≡ [] → share ≡ [] → together (shares ++ share ∷ []) ≡ []
  still_nothing [] share nothing none = rw none refl
  still_nothing ([] ∷ shares) share nothing none = still_nothing shares share nothing none
  still_nothing ((x ∷ xs) ∷ shares) share nothing none = let long : suc (length (xs ++ together shares)) ≡ 0 = ap length nothing in absurd (omega arith)

module _ {X V : Type 0} (items_of : V → List X) where
  -- the same of shares that are vectors: what was dealt so far, and then one more
  pub deals_one : (shares : List V) (place : ℕ) (old new : V) (x : X) (dealt : List X) → place < length shares → old ≡ get_or shares place old → items_of new ≡ items_of old ++ x ∷ []
      → IsPermutation dealt (together (map items_of shares)) → IsPermutation (dealt ++ x ∷ []) (together (map items_of (set shares place new)))
  deals_one shares place old new x dealt there is pushed before =
      let lists = map items_of shares in
      let at : get_or lists place (items_of old) ≡ items_of old = get_or-map items_of shares place old ∙ ap items_of (sym is) in
      let one = dealt_one lists place (items_of old) x (subst (λ (n : ℕ). place < n) (sym (length-map shares items_of)) there) in
      let set_so : set lists place (get_or lists place (items_of old) ++ x ∷ []) ≡ map items_of (set shares place new) =
      ap (λ (list : List X). set lists place (list ++ x ∷ [])) at ∙ (ap (λ (list : List X). set lists place list) (sym pushed) ∙ sym (map-set items_of shares place new)) in
      IsPermutation-trans _ _ _ (IsPermutation-append_comm dealt (x ∷ []))
      (IsPermutation-trans _ _ _ (IsPermutation-cons x dealt (together lists) before)
      (subst (λ (all : List (List X)). IsPermutation (x ∷ together lists) (together all)) set_so one))

module _ {W : Type 0} where
  -- one more shard begins with a share
  pub fresh_more : (shares : List (List (Node W))) (slots : List (Slot W)) (share : List (Node W)) (slot : Slot W) → AreFresh shares slots → IsFresh share slot → AreFresh (shares ++ share ∷ []) (slots ++ slot ∷ [])
  fresh_more [] [] share slot fresh one = (one, tt)
  fresh_more [] (other ∷ slots) share slot fresh one = absurd fresh
  fresh_more (other ∷ shares) [] share slot fresh one = absurd fresh
  fresh_more (other ∷ shares) (another ∷ slots) share slot fresh one = (fresh.0, fresh_more shares slots share slot fresh.1 one)

module _ {W : Type 0} (admits : ℕ → Type 0) (lies_in : ℕ → Shape → Type 0) (fits : Node W → Type 0) where
  -- each slot begins with a frontier that has a share of fitting nodes
  pub fresh_at : (shares : List (List (Node W))) (slots : List (Slot W)) → AreFresh shares slots → All fits (together shares) → (shard : ℕ) → shard < length slots → (nodes : List (Node W)) × IsFresh nodes (get_or slots shard None) × All fits nodes
  fresh_at [] [] fresh fitting shard there = absurd (omega arith)
  fresh_at [] (slot ∷ slots) fresh fitting shard there = absurd fresh
  fresh_at (share ∷ shares) [] fresh fitting shard there = absurd fresh
  fresh_at (share ∷ shares) (slot ∷ slots) fresh fitting zero there = (share, fresh.0, all_left fits share (together shares) fitting)
  fresh_at (share ∷ shares) (slot ∷ slots) fresh fitting (suc shard) there = fresh_at shares slots fresh.1 (all_right fits share (together shares) fitting) shard (omega arith)

  module _ (positive : (key : ℕ) → admits key → 0 < key) (bounded : BoundsKeys admits lies_in fits) where
    -- a key that lies in a node lies in one that is open in some slot
    opened_in : (shares : List (List (Node W))) (slots : List (Slot W)) → AreFresh shares slots → All fits (together shares) → (key : ℕ) → admits key → Any (AtNode lies_in key) (together shares)
        → (shard : ℕ) × Any (λ (o : Outline). lies_in key o.shape) (shown (get_or slots shard None)).open_nodes
    opened_in [] slots fresh fitting key fair found = absurd (no_Any (AtNode lies_in key) [] refl found)
    opened_in (share ∷ shares) [] fresh fitting key fair found = absurd fresh
    opened_in (share ∷ shares) (slot ∷ slots) fresh fitting key fair found = elim (left_or_right (AtNode lies_in key) share (together shares) found) [
      | inl here ↦ elim (kept_above admits lies_in fits bounded share 0 key (all_left fits share (together shares) fitting) fair here) [
        | inl low ↦ let high = positive key fair in absurd (omega arith)
        | inr kept ↦
            let first = fresh.0 in
            let at : Any (AtNode lies_in key) first.parked.frontier.open_nodes = Any-permutation (AtNode lies_in key) (above 0 share) first.parked.frontier.open_nodes first.opened kept in
            (0, subst (λ (z : Slot W). Any (λ (o : Outline). lies_in key o.shape) (shown z).open_nodes) (sym first.is) (in_outlines lies_in key first.parked.frontier at))
      ]
      | inr later ↦ let (shard, at) = opened_in shares slots fresh.1 (all_right fits share (together shares) fitting) key fair later in (suc shard, at)
    ]

    -- so all admitted keys are open as a search begins
    pub all_open : (nodes : List (Node W)) (slots : List (Slot W)) → CoverAll admits lies_in fits nodes → IsOpening nodes slots → (key : ℕ) → admits key
        → (shard : ℕ) × Any (λ (o : Outline). lies_in key o.shape) (shown (get_or slots shard None)).open_nodes
    all_open nodes slots covering opening key fair =
        let moved = cover_in_any_order admits lies_in fits nodes (together opening.shares) opening.dealt covering in
        opened_in opening.shares slots opening.fresh moved.fitting key fair (moved.covering key fair)
