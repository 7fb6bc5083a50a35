-- A walk back to its start can be cut short to a cycle.
use Rattle.std.proofs.Common.{◌≡◌, ℕ, ◌<◌, ◌≤◌, List, [], ◌∷◌, Bool, true, false, length, get_or, eqb, arith, refl, subst, sym, ◌∙◌, ⊎_elim, All}
use Rattle.std.specs.List.{list_any, IsDistinct}
use Rattle.std.proofs.lemmas.Bool.{or_cases, cases_Bool, cases_lt, eqb-true, false≢true}
use Rattle.std.proofs.lemmas.List.Elements.{All-head, All-tail, All-cons}
use Rattle.std.proofs.lemmas.Map.Keys.{IsDistinct-tail, IsDistinct-cons, IsDistinct-from_apart}
use Rattle.reading_order.specs.Cycles.{Leads, IsCycle, AreOnNone}
use Rattle.reading_order.specs.declared.table.Table.{Table}
use Rattle.reading_order.specs.Tables.{Marks}
use Rattle.reading_order.specs.Steps.{AreSteps, AreAtLeast}
use Rattle.reading_order.specs.Groups.{IsWalk, AreFlaggedOrOnRings}
use Rattle.reading_order.proofs.Members.{IsIn}
use Rattle.reading_order.proofs.Stuck.{out_of_all}
use Rattle.reading_order.proofs.Turns.{none_below, start_low}
use Rattle.reading_order.proofs.Trails.{no_cycle_from}

module _ (before : ℕ → ℕ → Type 0) (limit : ℕ) where
  -- over distinct numbers from one number to another
  record IsPath (x y : ℕ) : Type 0 where
    over : List ℕ
    leads : Leads before x over y
    distinct : IsDistinct eqb (x ∷ over)
    below : All (λ z. z < limit) over

  cut_to : (x z : ℕ) (zs : List ℕ) (y : ℕ) → IsIn x (z ∷ zs) → Leads before z zs y → IsDistinct eqb (z ∷ zs) → All (λ w. w < limit) zs → IsPath x y
  cut_to x z [] y there leads distinct below =
      ⊎_elim
      (λ e. let P : ℕ → Type 0 = λ w. IsPath w y in subst P (sym (eqb-true x z e)) (record { over = []; leads = leads; distinct = distinct; below = below }))
      (λ e. absurd (false≢true e))
      (or_cases (eqb x z) false there)
  cut_to x z (w ∷ ws) y there leads distinct below =
      ⊎_elim
      (λ e. let P : ℕ → Type 0 = λ v. IsPath v y in subst P (sym (eqb-true x z e)) (record { over = w ∷ ws; leads = leads; distinct = distinct; below = below }))
      (λ e. cut_to x w ws y e leads.1 (IsDistinct-tail eqb z (w ∷ ws) distinct) (All-tail (λ v. v < limit) w ws below))
      (or_cases (eqb x z) (list_any (eqb x) (w ∷ ws)) there)

  shorten : (x : ℕ) (xs : List ℕ) (y : ℕ) → Leads before x xs y → All (λ z. z < limit) xs → IsPath x y
  shorten x [] y leads below = record {
    over = [];
    leads = leads;
    distinct = IsDistinct-cons eqb x [] tt (IsDistinct-from_apart eqb [] (λ i j d less l. absurd (omega arith)));
    below = below;
  }
  shorten x (z ∷ zs) y leads below =
      let rest = shorten z zs y leads.1 (All-tail (λ w. w < limit) z zs below) in
      ⊎_elim
      (λ there. cut_to x z rest.over y there rest.leads rest.distinct rest.below)
      (λ out. record {
        over = z ∷ rest.over;
        leads = (leads.0, rest.leads);
        distinct = IsDistinct-cons eqb x (z ∷ rest.over) (out_of_all x (z ∷ rest.over) out) rest.distinct;
        below = All-cons (λ w. w < limit) z rest.over (All-head (λ w. w < limit) z zs below) rest.below;
      })
      (cases_Bool (list_any (eqb x) (z ∷ rest.over)))

  pub cycle_of_walk : (x : ℕ) → x < limit → IsWalk before limit x x → (cycle : List ℕ) × IsCycle before limit cycle × (get_or cycle 0 0 ≡ x)
  cycle_of_walk x low walk =
      let path = shorten x walk.over x walk.leads walk.below in (
        x ∷ path.over,
        record { ring = path.leads; distinct = path.distinct; within = All-cons (λ z. z < limit) x path.over low path.below },
        refl,
      )

-- where exactly the numbers on no cycle are flagged, the least one that is not starts the least cycle
module _ (before : Table) (flags : List Bool) (count : length flags ≡ before.side) (none : AreOnNone (Marks before) before.side flags) where
  pub some_unflagged : (cycle : List ℕ) → IsCycle (Marks before) before.side cycle → (x : ℕ) × (x < length flags) × (get_or flags x false ≡ false)
  some_unflagged cycle is =
      let x = get_or cycle 0 0 in
      let low : x < before.side = start_low (Marks before) before.side cycle is in
      ⊎_elim
      (λ on. absurd (none x low on cycle is refl))
      (λ off. (x, omega (arith, low, count), off))
      (cases_Bool (get_or flags x false))

  pub first_unflagged : (start : ℕ) → start < length flags → ((x : ℕ) → x < start → get_or flags x false ≡ true) → (cycle : List ℕ) → IsCycle (Marks before) before.side cycle → All (λ x. start ≤ x) cycle
  first_unflagged start low least =
      none_below (Marks before) before.side start
      (λ cycle is less. none (get_or cycle 0 0) (omega (arith, less, low, count)) (least (get_or cycle 0 0) less) cycle is refl)

  pub whole_below : (start whole : ℕ) (steps : List ℕ) → start < length flags → get_or flags start false ≡ false → AreFlaggedOrOnRings before flags → AreSteps (Marks before) before.side start steps → AreAtLeast (Marks before) before.side steps start whole → whole ≤ before.side → whole < before.side
  whole_below start whole steps low off rings are least most =
      ⊎_elim
      (λ less. less)
      (λ more.
      let start_in : start < before.side = omega (arith, low, count) in
      let walk : IsWalk (Marks before) before.side start start = ⊎_elim (λ on. absurd (false≢true (sym off ∙ on))) (λ w. w) (rings start start_in) in
      let cycle = cycle_of_walk (Marks before) before.side start start_in walk in
      absurd (no_cycle_from (Marks before) before.side start steps are start_in (λ y y_low h. omega (arith, least y y_low h, more)) cycle.0 cycle.1 cycle.2))
      (cases_lt whole before.side)
