-- What the parts of passes tell: a pass with all parts is the only one that has or names anything. It is said of any kind of view.
use Rattle.std.proofs.Common.{◌≡◌, ℕ, ◌+◌, ◌≤◌, ◌≢◌, List, set, sym, ap, ◌∙◌, ⊎_elim, arith}
use mathlib.Core.Option.{some}
use lib.ListN.{get_elem?}
use Rattle.atomic_table.proofs.Lists.{at_set, set_else}
use Rattle.frontier_turn.specs.Bags.{total}
use Rattle.frontier_turn.proofs.Bags.{total_set, total_part, total_none}

module _ {V : Type 0} (parts_of : V → ℕ) (blank : V) (no_parts : parts_of blank ≡ 0) (views : List V) (id : ℕ) (v : V) (at : get_elem? views id ≡ some v) where
  -- two passes have no more parts than all
  pub two_parts : (other : ℕ) (u : V) → get_elem? views other ≡ some u → other ≢ id → parts_of v + parts_of u ≤ total parts_of views
  two_parts other u u_at apart =
      let cut = total_set parts_of views id v blank at in
      let part = total_part parts_of (set views id blank) other u (set_else views id other blank apart ∙ u_at) in
      omega arith

  module _ (all : total parts_of views ≡ 18446744073709551616) (mine : parts_of v ≡ 18446744073709551616) (spent : (j : ℕ) (u : V) → get_elem? views j ≡ some u → parts_of u ≡ 0 → u ≡ blank) where
    pub others_blank : (j : ℕ) (u : V) → j ≢ id → get_elem? views j ≡ some u → u ≡ blank
    others_blank j u apart u_at = let both = two_parts j u u_at apart in spent j u u_at (omega arith)

    -- so a sum over all views is what this pass adds to it
    pub alone : (f : V → ℕ) → f blank ≡ 0 → total f views ≡ f v
    alone f none =
        let others = set views id blank in
        let zeros : total f others ≡ 0 = total_none f others (λ u u_at. ⊎_elim
        (λ (t : (u_at.0 ≡ id) × (blank ≡ u)). ap f (sym t.1) ∙ none)
        (λ (t : (u_at.0 ≢ id) × (get_elem? views u_at.0 ≡ some u)). ap f (others_blank u_at.0 u t.0 t.1) ∙ none)
        (at_set views id u_at.0 blank u u_at.1)) in
        let cut = total_set f views id v blank at in
        omega arith
