-- Two relations that agree below a limit have the same orders and cycles.
use Rattle.std.proofs.Common.{◌≡◌, ℕ, ◌<◌, List, [], ◌∷◌, length, get_or, arith, refl, ◌↔◌, All}
use Rattle.std.proofs.lemmas.List.Elements.{All-head, All-tail}
use Rattle.reading_order.specs.Orders.{IsTopologicalOrder, IsLeastTopologicalOrder}
use Rattle.reading_order.specs.Cycles.{Leads, IsRing, IsCycle, IsLeastCycle}
use Rattle.reading_order.proofs.Members.{place_of, in_at, in_whole, below_whole}

module _ (before other : ℕ → ℕ → Type 0) (limit : ℕ) (to : (a b : ℕ) → a < limit → b < limit → before a b → other a b) where
  leads_to : (x : ℕ) (xs : List ℕ) (y : ℕ) → x < limit → All (λ z. z < limit) xs → y < limit → Leads before x xs y → Leads other x xs y
  leads_to x [] y x_low below y_low h = to x y x_low y_low h
  leads_to x (z ∷ zs) y x_low below y_low h =
      let z_low : z < limit = All-head (λ w. w < limit) z zs below in
      (to x z x_low z_low h.0, leads_to z zs y z_low (All-tail (λ w. w < limit) z zs below) y_low h.1)

  ring_to : (xs : List ℕ) → All (λ z. z < limit) xs → IsRing before xs → IsRing other xs
  ring_to [] below ring = ring
  ring_to (x ∷ xs) below ring =
      let x_low : x < limit = All-head (λ w. w < limit) x xs below in
      leads_to x xs x x_low (All-tail (λ w. w < limit) x xs below) x_low ring

  pub cycle_to : (cycle : List ℕ) → IsCycle before limit cycle → IsCycle other limit cycle
  cycle_to cycle is = record { ring = ring_to cycle is.within is.ring; distinct = is.distinct; within = is.within }

  pub order_from : (order : List ℕ) → IsTopologicalOrder other limit order → IsTopologicalOrder before limit order
  order_from order is = record {
    whole = is.whole;
    obeys = λ i j low high h.
        let a = get_or order i 0 in
        let b = get_or order j 0 in
        is.obeys i j low high (to a b (below_whole limit order is.whole a (in_at a order i low refl)) (below_whole limit order is.whole b (in_at b order j high refl)) h);
  }

module _ (before other : ℕ → ℕ → Type 0) (limit : ℕ) (same : (a b : ℕ) → a < limit → b < limit → before a b ↔ other a b) where
  to : (a b : ℕ) → a < limit → b < limit → before a b → other a b
  to a b a_low b_low = (same a b a_low b_low).0

  from : (a b : ℕ) → a < limit → b < limit → other a b → before a b
  from a b a_low b_low = (same a b a_low b_low).1

  pub least_order_to : (order : List ℕ) → IsLeastTopologicalOrder before limit order → IsLeastTopologicalOrder other limit order
  least_order_to order is = record {
    is_order = order_from other before limit from order is.is_order;
    least = λ ys ys_is. is.least ys (order_from before other limit to ys ys_is);
  }

  pub least_cycle_to : (cycle : List ℕ) → IsLeastCycle before limit cycle → IsLeastCycle other limit cycle
  least_cycle_to cycle is = record {
    is_cycle = cycle_to before other limit to cycle is.is_cycle;
    start = λ ys ys_is. is.start ys (cycle_to other before limit from ys ys_is);
    shortest = λ ys ys_is alike. is.shortest ys (cycle_to other before limit from ys ys_is) alike;
    least = λ ys ys_is alike size. is.least ys (cycle_to other before limit from ys ys_is) alike size;
  }

-- where there is a cycle no order obeys
module _ (before : ℕ → ℕ → Type 0) (limit : ℕ) (order : List ℕ) (is : IsTopologicalOrder before limit order) where
  climbs : (x : ℕ) (xs : List ℕ) (y : ℕ) (i j : ℕ) → All (λ z. z < limit) xs → i < length order → get_or order i 0 ≡ x → j < length order → get_or order j 0 ≡ y → Leads before x xs y → i < j
  climbs x [] y i j below i_in i_at j_in j_at h = is.obeys i j i_in j_in (rw (i_at, j_at) h)
  climbs x (z ∷ zs) y i j below i_in i_at j_in j_at h =
      let p = place_of z order (in_whole limit order is.whole z (All-head (λ w. w < limit) z zs below)) in
      let first : i < p.0 = is.obeys i p.0 i_in p.1 (rw (i_at, p.2) h.0) in
      let second : p.0 < j = climbs z zs y p.0 j (All-tail (λ w. w < limit) z zs below) p.1 p.2 j_in j_at h.1 in
      omega (arith, first, second)

  pub no_order : (cycle : List ℕ) → IsCycle before limit cycle → ⊥
  no_order [] cycle = cycle.ring
  no_order (x ∷ xs) cycle =
      let p = place_of x order (in_whole limit order is.whole x (All-head (λ w. w < limit) x xs cycle.within)) in
      absurd (omega (arith, climbs x xs x p.0 p.0 (All-tail (λ w. w < limit) x xs cycle.within) p.1 p.2 p.1 p.2 cycle.ring))
