-- What the last pass knows as the search ends.
use Rattle.std.proofs.Common.{◌≡◌, ℕ, zero, suc, ◌+◌, ◌<◌, ◌≤◌, ◌≢◌, ◌⊎◌, List, ℤ, [], ◌∷◌, true, length, get_or, sym, refl, ap, ◌∙◌, inl, inr, ⊎_elim, subst, arith, ne_eqb, Option, Some, None, Any, All}
use Rattle.std.proofs.lemmas.Bool.{eq-eqb}
use mathlib.Core.Logic.{dite}
use native.Mathlib.Decide.{dec_le, ℕ_discrete}
use mathlib.Core.Option.{Option as Maybe, none, some, some-injective, some-ne-none}
use lib.ListN.{get_elem?}
use Rattle.atomic_table.specs.Table.{State, Final, Seen}
use Rattle.box_search.specs.declared.space.Node.{Node}
use Rattle.box_search.specs.declared.space.Shape.{Shape}
use Rattle.box_search.specs.declared.lease.Entry.{Entry}
use Rattle.box_search.specs.Search.{IsSound, IsGreatestKey}
use Rattle.frontier_turn.specs.declared.view.Outline.{Outline}
use Rattle.frontier_turn.specs.declared.view.Snapshot.{Snapshot}
use Rattle.frontier_turn.specs.Bags.{total, one_if}
use Rattle.frontier_turn.specs.Snapshots.{snapshot_of, nothing_left}
use Rattle.box_search.proofs.Lists.{no_Any}
use Rattle.frontier_turn.proofs.Bags.{total_part, total_none, total_alike, total_ones}
use Rattle.frontier_turn.proofs.Items.{here, within, IsItem, Contains-item}
use Rattle.frontier_turn.proofs.Parts.{others_blank, alone}
use Rattle.split_frontier.specs.declared.view.Claim.{Claim}
use Rattle.split_frontier.specs.declared.parked.Parked.{Parked}
use Rattle.split_frontier.specs.Claims.{of_home, CoversKey, IsClaimed}
use Rattle.split_frontier.specs.Closing.{open_in, leased_in, open_at, leased_at, IsAtHome, IsMoment}
use Rattle.split_frontier.specs.Views.{View, blank}
use Rattle.split_frontier.specs.Rule.{Slot, parts_of, is_shard, held_by, named_by, is_listed, IsFree, IsHeld, ShardsClauses, ShardsRule}
use Rattle.split_frontier.specs.Steps.{shown}

-- 1 for a lease whose home is one of so many shards from one on
abbrev is_within : ℕ → ℕ → Claim → ℕ
is_within from zero c = 0
is_within from (suc count) c = of_home from (λ _. 1) c + is_within (suc from) count c

home_one : (c : Claim) (home : ℕ) → c.home ≡ home → of_home home (λ _. 1) c ≡ 1
home_one c home is = rw (eq-eqb c.home home is) refl

home_none : (c : Claim) (home : ℕ) → c.home ≢ home → of_home home (λ _. 1) c ≡ 0
home_none c home apart = rw (ne_eqb c.home home apart) refl

within_none : (from count : ℕ) (c : Claim) → c.home < from → is_within from count c ≡ 0
within_none from zero c low = refl
within_none from (suc count) c low = let none = home_none c from (λ e. omega arith) in let rest = within_none (suc from) count c (omega arith) in omega arith

within_one : (from count : ℕ) (c : Claim) → from ≤ c.home → c.home < from + count → is_within from count c ≡ 1
within_one from zero c low high = absurd (omega arith)
within_one from (suc count) c low high = dite (ℕ_discrete c.home from)
    (λ (same : c.home ≡ from). let one = home_one c from same in let rest = within_none (suc from) count c (omega arith) in omega arith)
    (λ apart. let none = home_none c from apart in let rest = within_one (suc from) count c (omega arith) (omega arith) in omega arith)

-- the sums over what is at home are those over the slots
total_homes : {A : Type 0} (f : A → ℕ) (g : Maybe A → ℕ) → ((x : A) → g (some x) ≡ f x) → (homes : List (Maybe A)) (slots : List A) → length homes ≡ length slots
    → ((i : ℕ) (x : A) → get_elem? slots i ≡ some x → get_elem? homes i ≡ some (some x)) → total g homes ≡ total f slots
total_homes f g same [] [] long at = refl
total_homes f g same [] (x ∷ xs) long at = absurd (omega arith)
total_homes f g same (h ∷ hs) [] long at = absurd (omega arith)
total_homes f g same (h ∷ hs) (x ∷ xs) long at =
    let first : g h ≡ f x = ap g (some-injective h (some x) (at 0 x refl)) ∙ same x in
    let rest = total_homes f g same hs xs (omega arith) (λ i y e. at (suc i) y e) in
    omega arith

total_plus : {A : Type 0} (f g : A → ℕ) (xs : List A) → total (λ x. f x + g x) xs ≡ total f xs + total g xs
total_plus f g [] = refl
total_plus f g (x ∷ xs) = omega (arith, total_plus f g xs)

-- the leased entries of the shards are the leases of these homes
by_homes : {X : Type 0} (f : X → ℕ) (slots : List X) (claims : List Claim) (from : ℕ) → ((i : ℕ) (x : X) → get_elem? slots i ≡ some x → f x ≡ total (of_home (from + i) (λ _. 1)) claims) → total f slots ≡ total (is_within from (length slots)) claims
by_homes f [] claims from each = sym (total_none (is_within from 0) claims (λ _ _. refl))
by_homes f (x ∷ xs) claims from each =
    let first : f x ≡ total (of_home from (λ _. 1)) claims = each 0 x refl ∙ ap (λ (n : ℕ). total (of_home n (λ _. 1)) claims) (omega arith) in
    let rest = by_homes f xs claims (suc from) (λ i y at. each (suc i) y at ∙ ap (λ (n : ℕ). total (of_home n (λ _. 1)) claims) (omega arith)) in
    let cut = total_plus (of_home from (λ _. 1)) (is_within (suc from) (length xs)) claims in
    omega arith

module _ {W : Type 0} (p : List ℤ) (admits : ℕ → Type 0) (lies_in : ℕ → Shape → Type 0) (fits : Node W → Type 0) where
  -- what is known of the word, of the slots and of the last pass
  pub record Left (word : ℕ) (v : View) (slots : List (Slot W)) : Type 0 where
    pub sound : IsSound admits word
    pub seen : v.seen ≤ word
    pub parked : (shard : ℕ) (slot : Slot W) → get_elem? slots shard ≡ some slot → (P : Parked W) × (slot ≡ Some P)
    pub covered : (key : ℕ) → admits key → (key ≤ word) ⊎ (((shard : ℕ) × (slot : Slot W) × (get_elem? slots shard ≡ some slot) × Any (λ (o : Outline). lies_in key o.shape) (shown slot).open_nodes) ⊎ IsClaimed lies_in v.rest.leases key)
    pub leased : total leased_in slots ≡ length v.rest.leases
    pub empties : ((shard : ℕ) → shard < length slots → is_listed v.rest.empties shard ≡ true) → (shard : ℕ) (slot : Slot W) → get_elem? slots shard ≡ some slot → shown slot ≡ nothing_left

  module _ (words : List ℕ) (homes : List (Maybe (Slot W))) (views : List View) (k : ShardsClauses p admits lies_in fits words homes views) (id : ℕ) (v : View) (at : get_elem? views id ≡ some v) (all : v.rest.parts ≡ 18446744073709551616) (idle : v.rest.holds ≡ None)
      (slots : List (Slot W)) (long : length homes ≡ length slots) (same : (i : ℕ) (slot : Slot W) → get_elem? homes i ≡ some (some slot) → get_elem? slots i ≡ some slot) where
    none_else : (j : ℕ) (u : View) → j ≢ id → get_elem? views j ≡ some u → u ≡ blank
    none_else = others_blank parts_of blank refl views id v at k.parts all (λ j u u_at. (k.each j u u_at).spent)

    only : (f : View → ℕ) → f blank ≡ 0 → total f views ≡ f v
    only = alone parts_of blank refl views id v at k.parts all (λ j u u_at. (k.each j u u_at).spent)

    -- of each shard the frontier of the moment is at home, and in its slot
    home_is : (shard : ℕ) → shard < length homes → (P : Parked W) × (get_elem? homes shard ≡ some (some (Some P))) × (snapshot_of P.frontier ≡ k.now shard)
    home_is shard there =
        let home = get_or homes shard none in
        let home_at = here homes shard none there in
        let nobody : total (held_by shard) views ≡ 0 = only (held_by shard) refl ∙ ap (λ (h : Option ℕ). one_if (is_shard shard h)) idle in
        ⊎_elim
        (λ (f : IsFree p admits lies_in fits (get_or words (suc shard) 0) home (total (held_by shard) views) (k.now shard)). (f.parked, home_at ∙ ap some f.at_home, f.shows))
        (λ (h : IsHeld p admits lies_in fits (get_or words (suc shard) 0) home (total (held_by shard) views)). let somebody = h.somebody in absurd (omega arith))
        (k.turned shard home home_at)

    at_home : (shard : ℕ) → shard < length homes → (P : Parked W) × (get_elem? slots shard ≡ some (Some P)) × (snapshot_of P.frontier ≡ k.now shard)
    at_home shard there = let (P, P_at, shows) = home_is shard there in (P, same shard (Some P) P_at, shows)

    all_home : All IsAtHome homes
    all_home shard d there = let (P, P_at, shows) = home_is shard there in (P, some-injective (get_or homes shard d) (some (Some P)) (sym (here homes shard d there) ∙ P_at))

    home_at_slot : (shard : ℕ) (slot : Slot W) → get_elem? slots shard ≡ some slot → get_elem? homes shard ≡ some (some slot)
    home_at_slot shard slot slot_at =
        let (P, P_at, shows) = home_is shard (let l = (within slots shard slot slot_at).0 in omega arith) in
        P_at ∙ ap (λ (z : Slot W). some (some z)) (some-injective (Some P) slot (sym (same shard (Some P) P_at) ∙ slot_at))

    pub waiting_sum : total open_at homes ≡ total open_in slots
    waiting_sum = total_homes open_in open_at (λ slot. refl) homes slots long home_at_slot

    pub leased_sums : total leased_at homes ≡ total leased_in slots
    leased_sums = total_homes leased_in leased_at (λ slot. refl) homes slots long home_at_slot

    pub moment : IsMoment p admits lies_in fits v (get_or words 0 0) (length slots) (record { words = words; homes = homes; views = views })
    moment = record { rule = k; seated = Contains-item views v (id, at); word_is = refl; shards_are = long; at_home = all_home }

    at_slot : (shard : ℕ) (slot : Slot W) → get_elem? slots shard ≡ some slot → (P : Parked W) × (slot ≡ Some P) × (shown slot ≡ k.now shard)
    at_slot shard slot slot_at =
        let there : shard < length homes = let l = (within slots shard slot slot_at).0 in omega arith in
        let (P, P_at, shows) = at_home shard there in
        let is : slot ≡ Some P = some-injective slot (Some P) (sym slot_at ∙ P_at) in
        (P, is, ap shown is ∙ shows)

    named : (shard : ℕ) (h : Entry → ℕ) → total h (k.now shard).leased ≡ total (of_home shard h) v.rest.leases
    named shard h = sym (k.leases shard h) ∙ only (named_by shard h) refl

    -- no lease has a home beyond the shards
    home_there : (c : Claim) → IsItem v.rest.leases c → c.home < length slots
    home_there c item = dite (dec_le (length slots) c.home)
        (λ (far : length slots ≤ c.home).
        let none : total (λ _. 1) (k.now c.home).leased ≡ 0 = ap (λ (z : Snapshot). total (λ _. 1) z.leased) (k.beyond c.home (omega arith)) in
        let sum = named c.home (λ _. 1) in
        let part = total_part (of_home c.home (λ _. 1)) v.rest.leases item.0 c item.1 in
        let one = home_one c c.home refl in
        absurd (omega arith))
        (λ near. omega arith)

    leased_sum : total leased_in slots ≡ length v.rest.leases
    leased_sum =
        let sum = by_homes leased_in slots v.rest.leases 0 (λ i slot slot_at.
        let t = at_slot i slot slot_at in
        let count : length (shown slot).leased ≡ total (λ _. 1) (k.now i).leased = ap (λ (z : Snapshot). length z.leased) t.2 ∙ sym (total_ones (k.now i).leased) in
        let zero_on : 0 + i ≡ i = omega arith in
        count ∙ (named i (λ _. 1) ∙ ap (λ (n : ℕ). total (of_home n (λ _. 1)) v.rest.leases) (sym zero_on))) in
        let ones = total_alike (is_within 0 (length slots)) (λ _. 1) v.rest.leases (λ c item. within_one 0 (length slots) c (omega arith) (let there = home_there c item in omega arith)) in
        sum ∙ (ones ∙ total_ones v.rest.leases)

    pub ended : Left (get_or words 0 0) v slots
    ended =
        let mine = (k.each id v at).live (omega arith) in
        record {
          sound = k.sound;
          seen = mine.seen;
          parked = λ shard slot slot_at. let t = at_slot shard slot slot_at in (t.0, t.1);
          covered = λ key fair. elim (k.covered key fair) [
            | inl low ↦ inl low
            | inr (inl (shard, opened)) ↦ dite (dec_le (length homes) shard)
                (λ (far : length homes ≤ shard). absurd (no_Any (λ (o : Outline). lies_in key o.shape) (k.now shard).open_nodes (ap (λ (z : Snapshot). length z.open_nodes) (k.beyond shard far)) opened))
                (λ near. let (P, P_at, shows) = at_home shard (omega arith) in
                inr (inl (shard, Some P, P_at, subst (λ (z : Snapshot). Any (λ (o : Outline). lies_in key o.shape) z.open_nodes) (sym shows) opened)))
            | inr (inr (other, u, u_at, claimed)) ↦ dite (ℕ_discrete other id)
                (λ (mine : other ≡ id). let is : u ≡ v = some-injective u v (sym u_at ∙ (ap (λ (j : ℕ). get_elem? views j) mine ∙ at)) in
                inr (inr (subst (λ (x : View). IsClaimed lies_in x.rest.leases key) is claimed)))
                (λ apart. let is = none_else other u apart u_at in
                absurd (no_Any (CoversKey lies_in key) u.rest.leases (ap (λ (x : View). length x.rest.leases) is) claimed))
          ];
          leased = leased_sum;
          empties = λ listed shard slot slot_at. (at_slot shard slot slot_at).2 ∙ mine.empties all shard (listed shard (within slots shard slot slot_at).0);
        }

  -- the same of the word and the slots that were found, and the moment at which it is so
  pub record Ended (word : ℕ) (v : View) (slots : List (Slot W)) : Type 0 where
    pub left : Left word v slots
    pub state : State (Slot W) View
    pub moment : IsMoment p admits lies_in fits v word (length slots) state
    pub waiting : total open_at state.homes ≡ total open_in slots
    pub leased : total leased_at state.homes ≡ total leased_in slots

  closes : (ws : List ℕ) (xs : List (Slot W)) (id : ℕ) (v : View) → v.rest.parts ≡ 18446744073709551616 → v.rest.holds ≡ None → Final (Seen (ShardsRule p admits lies_in fits) id v) ws xs → Ended (get_or ws 0 0) v xs
  closes ws xs id v all idle final =
      let s = final.0 in
      subst (λ (ws' : List ℕ). Ended (get_or ws' 0 0) v xs) final.2 (record {
        left = ended s.words s.homes s.views final.1.0 id v final.1.1 all idle xs final.3 final.4;
        state = s;
        moment = moment s.words s.homes s.views final.1.0 id v final.1.1 all idle xs final.3 final.4;
        waiting = waiting_sum s.words s.homes s.views final.1.0 id v final.1.1 all idle xs final.3 final.4;
        leased = leased_sums s.words s.homes s.views final.1.0 id v final.1.1 all idle xs final.3 final.4;
      })

  word_at : (ws : List ℕ) (n : ℕ) → get_elem? ws 0 ≡ some n → get_or ws 0 0 ≡ n
  word_at [] n e = absurd (some-ne-none n (sym e))
  word_at (x ∷ ws) n e = some-injective x n e

  pub closes_at : (ws : List ℕ) (xs : List (Slot W)) (id : ℕ) (v : View) (word : ℕ) → v.rest.parts ≡ 18446744073709551616 → v.rest.holds ≡ None → Final (Seen (ShardsRule p admits lies_in fits) id v) ws xs → get_elem? ws 0 ≡ some word → Ended word v xs
  closes_at ws xs id v word all idle final is = subst (λ (n : ℕ). Ended n v xs) (word_at ws word is) (closes ws xs id v all idle final)

  -- where nothing is open and nothing leased, the word is the greatest admitted key
  pub greatest : ((key : ℕ) → admits key → 0 < key) → (word : ℕ) (v : View) (slots : List (Slot W)) → Left word v slots → total open_in slots ≡ 0 → total leased_in slots ≡ 0 → IsGreatestKey admits word
  greatest positive word v slots e waiting leased =
      let over : (k : ℕ) → admits k → k ≤ word = λ k fair. elim (e.covered k fair) [
        | inl low ↦ low
        | inr (inl (shard, slot, slot_at, opened)) ↦ let part = total_part open_in slots shard slot slot_at in absurd (no_Any (λ (o : Outline). lies_in k o.shape) (shown slot).open_nodes (omega arith) opened)
        | inr (inr claimed) ↦ absurd (no_Any (CoversKey lies_in k) v.rest.leases (sym e.leased ∙ leased) claimed)
      ] in record {
        sound = e.sound;
        greatest = over;
        none = λ zero' k fair. let some' = positive k fair in let low = over k fair in omega arith;
      }

  -- where all shards are among the empties, nothing is open or leased
  pub none_left : (word : ℕ) (v : View) (slots : List (Slot W)) → Left word v slots → ((shard : ℕ) → shard < length slots → is_listed v.rest.empties shard ≡ true) → (total open_in slots ≡ 0) × (total leased_in slots ≡ 0)
  none_left word v slots e listed = (
    total_none open_in slots (λ slot item. ap (λ (z : Snapshot). length z.open_nodes) (e.empties listed item.0 slot item.1)),
    total_none leased_in slots (λ slot item. ap (λ (z : Snapshot). length z.leased) (e.empties listed item.0 slot item.1)),
  )
