-- What the holder of a shard's turn does with leases leaves it free to give the frontier back.
use Rattle.std.proofs.Common.{◌≡◌, ℕ, ◌≤◌, ◌≢◌, ◌⊎◌, List, [], ◌∷◌, ◌++◌, Bool, true, false, cond, sym, refl, ap, ◌∙◌, inl, inr, subst, arith, rules, Any, Contains}
use Rattle.std.specs.Prelude.{All, IsPermutation}
use Rattle.std.proofs.lemmas.List.Sorted.{All-permutation}
use Rattle.std.proofs.lemmas.List.Elements.{All-nil, All-cons, All-tail, All-contains}
use mathlib.Core.Logic.{dite}
use native.Mathlib.Decide.{ℕ_discrete}
use Rattle.box_search.specs.Contents.{Contents}
use Rattle.box_search.specs.Search.{BoundsKeys}
use Rattle.box_search.specs.Leasing.{entry_of, Leases, Takes, above, Reopens, Ends}
use Rattle.box_search.specs.declared.space.Node.{Node}
use Rattle.box_search.specs.declared.space.Shape.{Shape}
use Rattle.box_search.specs.declared.lease.Entry.{Entry}
use Rattle.box_search.specs.declared.lease.Lease.{Lease}
use Rattle.box_search.specs.declared.lease.Take.{Take}
use Rattle.box_search.specs.declared.lease.Take.TheVariants.{Leased, Idle, Done}
use Rattle.frontier_turn.specs.Bags.{total}
use Rattle.frontier_turn.specs.Snapshots.{numbered, NumbersDiffer}
use Rattle.frontier_turn.specs.Holding.{Replaces}
use Rattle.box_search.proofs.Lists.{Any-permutation, Any-head, Any-tail, Any-cons_cases}
use Rattle.frontier_turn.proofs.OpenNodes.{AtNode, in_nodes, in_outlines, out_or_open, stays_beside, open_again, stays_open, fitting_again, seen_or_open}
use Rattle.frontier_turn.proofs.Bags.{numbers_more, numbers_fewer, permuted_total}
use Rattle.split_frontier.specs.declared.view.Claim.{Claim}
use Rattle.split_frontier.specs.Views.{View}
use Rattle.split_frontier.specs.Claims.{unspent, spent, of_home, unspent_of_home, ClaimsDiffer, without, CoversKey}
use Rattle.split_frontier.specs.Holding.{Spends}
use Rattle.split_frontier.specs.Steps.{MayReturn}
use Rattle.split_frontier.proofs.Named.{of_home_self, of_home_else, parted, is_entry}

unspent_else : (h : Entry → ℕ) (c : Claim) (home : ℕ) → c.home ≢ home → unspent_of_home home h c ≡ 0
unspent_else h c home apart = rw (of_home_else h c home apart) (either_way c.spent) where
  either_way : (b : Bool) → cond {A = ℕ} b 0 0 ≡ 0
  either_way true = refl
  either_way false = refl

module _ {W : Type 0} (admits : ℕ → Type 0) (lies_in : ℕ → Shape → Type 0) (fits : Node W → Type 0) (v : View) (shard : ℕ)
    (leased_before : (weight : Entry → ℕ) → total (of_home shard weight) v.rest.leases ≤ total weight v.rest.taken.leased) (differ_before : ClaimsDiffer v.rest.leases) where
  abbrev Back : Contents W → List Claim → Type 0
  Back = MayReturn admits lies_in fits v shard

  abbrev AtClaim : ℕ → Claim → Type 0
  AtClaim = CoversKey lies_in

  -- each lease of this shard is an entry
  pub leased_now : (f : Contents W) (cs : List Claim) → Back f cs → (weight : Entry → ℕ) → total (of_home shard weight) cs ≤ total weight f.leased
  leased_now f cs back h = let beside = back.others h in let before = leased_before h in omega arith

  pub differ_now : (f : Contents W) (cs : List Claim) → Back f cs → ClaimsDiffer cs
  differ_now f cs back home number = dite (ℕ_discrete home shard)
      (λ (same : home ≡ shard). subst (λ (k : ℕ). total (of_home k (numbered number)) cs ≤ 1) (sym same) (let now = leased_now f cs back (numbered number) in let once = back.numbers number in omega arith))
      (λ apart. let same = back.foreign home apart (numbered number) in let once = differ_before home number in omega arith)

  pub is_out : (f : Contents W) (cs : List Claim) (l : Lease W) (c : Claim) → Back f cs → c.home ≡ shard → c.entry ≡ entry_of l → Contains cs c → Contains f.leased (entry_of l)
  is_out f cs l c back home is there = subst (Contains f.leased) is (is_entry cs f.leased c (subst (λ (k : ℕ). (weight : Entry → ℕ) → total (of_home k weight) cs ≤ total weight f.leased) (sym home) (leased_now f cs back)) there)

  -- a lease is taken out
  pub leased : (old new : Contents W) (cs : List Claim) (l : Lease W) → Back old cs → Leases old l new → Back new (unspent shard l ∷ cs)
  leased old new cs l back step =
      let e = entry_of l in
      let c = unspent shard l in
      record {
        covers = λ k fair in_taken. elim (back.covers k fair in_taken) [
          | inl low ↦ inl low
          | inr (inl node) ↦ elim (out_or_open lies_in k l.node old.open_nodes new.open_nodes step.opened (in_nodes lies_in k old node)) [
            | inl inside ↦ inr (inr (Any-head (AtClaim k) c cs (record { unspent = refl; inside = inside })))
            | inr rest ↦ inr (inl (in_outlines lies_in k new rest))
          ]
          | inr (inr claimed) ↦ inr (inr (Any-tail (AtClaim k) c cs claimed))
        ];
        fitting = All-tail fits l.node new.open_nodes (All-permutation fits old.open_nodes (l.node ∷ new.open_nodes) step.opened back.fitting);
        others = λ h.
            let beside = back.others h in
            let more = permuted_total h (e ∷ old.leased) new.leased step.leased in
            let mine = of_home_self h c shard refl in
            omega arith;
        foreign = λ home apart h. let same = back.foreign home apart h in let none = of_home_else h c home (λ z. apart (sym z)) in omega arith;
        spent = λ home apart h. let less = back.spent home apart h in let none = unspent_else h c home (λ z. apart (sym z)) in omega arith;
        numbers = numbers_more e old.leased new.leased step.number.free step.leased back.numbers;
      }

  -- the leases after this answer
  abbrev pub claims_taken : List Claim → Take W → List Claim
  claims_taken cs (Leased l) = unspent shard l ∷ cs
  claims_taken cs Idle = cs
  claims_taken cs Done = cs

  pub leases_kept : (old new : Contents W) (cs : List Claim) (t : Take W) → Back old cs → Takes old t new → Back new (claims_taken cs t)
  leases_kept old new cs (Leased l) back a = leased old new cs l back a
  leases_kept old new cs Idle back a = subst (λ (f : Contents W). Back f cs) (sym a.same) back
  leases_kept old new cs Done back a = subst (λ (f : Contents W). Back f cs) (sym a.same) back

  -- a lease of this shard ends, and its keys are open or seen where it was unspent
  module _ (old new : Contents W) (cs : List Claim) (l : Lease W) (c : Claim) (home : c.home ≡ shard) (is : c.entry ≡ entry_of l) (there : Contains cs c) (listed : IsPermutation old.leased (entry_of l ∷ new.leased)) where
    abbrev fewer : List Claim
    fewer = without c.home c.entry.number cs

    pub unnamed : Back old cs → IsPermutation cs (c ∷ fewer)
    unnamed back = parted cs c there (differ_now old cs back)

    ends_lease : Back old cs → ((k : ℕ) → Any (AtNode lies_in k) old.open_nodes → Any (AtNode lies_in k) new.open_nodes) → All fits new.open_nodes
        → ((k : ℕ) → admits k → AtClaim k c → (k ≤ v.seen) ⊎ Any (AtNode lies_in k) new.open_nodes) → Back new fewer
    ends_lease back stay fitting replaced =
        let moved = unnamed back in
        record {
          covers = λ k fair in_taken. elim (back.covers k fair in_taken) [
            | inl low ↦ inl low
            | inr (inl node) ↦ inr (inl (in_outlines lies_in k new (stay k (in_nodes lies_in k old node))))
            | inr (inr claimed) ↦ elim (Any-cons_cases (AtClaim k) c fewer (Any-permutation (AtClaim k) cs (c ∷ fewer) moved claimed)) [
              | inl mine ↦ elim (replaced k fair mine) [
                | inl low ↦ inl low
                | inr node ↦ inr (inl (in_outlines lies_in k new node))
              ]
              | inr rest ↦ inr (inr rest)
            ]
          ];
          fitting = fitting;
          others = λ h.
              let beside = back.others h in
              let less = permuted_total h old.leased (entry_of l ∷ new.leased) listed in
              let less' = permuted_total (of_home shard h) cs (c ∷ fewer) moved in
              let mine : of_home shard h c ≡ h (entry_of l) = of_home_self h c shard home ∙ ap h is in
              omega arith;
          foreign = λ home' apart h.
              let same = back.foreign home' apart h in
              let less = permuted_total (of_home home' h) cs (c ∷ fewer) moved in
              let none = of_home_else h c home' (λ z. apart (sym z ∙ home)) in
              omega arith;
          spent = λ home' apart h.
              let below = back.spent home' apart h in
              let less = permuted_total (unspent_of_home home' h) cs (c ∷ fewer) moved in
              omega arith;
          numbers = numbers_fewer (entry_of l) old.leased new.leased listed back.numbers;
        }

  module _ (old new : Contents W) (cs : List Claim) (l : Lease W) (there : Contains cs (unspent shard l)) (back : Back old cs) where
    abbrev mine : Claim
    mine = unspent shard l

    pub reopened : fits l.node → Reopens old l new → Back new (without shard l.number cs)
    reopened fit step = ends_lease old new cs l mine refl refl there step.leased back
        (λ k. stays_beside lies_in k l.node old.open_nodes new.open_nodes step.opened)
        (All-permutation fits (l.node ∷ old.open_nodes) new.open_nodes step.opened (All-cons fits l.node old.open_nodes fit back.fitting))
        (λ k fair at. inr (open_again lies_in k l.node old.open_nodes new.open_nodes step.opened at.inside))

  -- a lease that is spent ends, and nothing else changes
  pub ended : (old new : Contents W) (cs : List Claim) (l : Lease W) → Contains cs (spent shard l) → Back old cs → Ends old l new → Back new (without shard l.number cs)
  ended old new cs l there back step = ends_lease old new cs l (spent shard l) refl refl there step.leased back
      (λ k. subst (Any (AtNode lies_in k)) (sym step.opened))
      (subst (All fits) (sym step.opened) back.fitting)
      (λ k fair at. absurd (apart at.unspent)) where
        apart : true ≡ false → ⊥
        apart e = absurd (search rules)

  -- a lease ends whose keys are seen, or open beside it, and nothing else changes
  pub passed_over : (old new : Contents W) (cs : List Claim) (l : Lease W) (seen : ℕ) → Contains cs (unspent shard l) → Back old cs → seen ≤ v.seen
      → Replaces admits lies_in l.node.shape seen old.open_nodes → Ends old l new → Back new (without shard l.number cs)
  passed_over old new cs l seen there back low replaces step = ends_lease old new cs l (unspent shard l) refl refl there step.leased back
      (λ k. subst (Any (AtNode lies_in k)) (sym step.opened))
      (subst (All fits) (sym step.opened) back.fitting)
      (λ k fair at. elim (replaces k fair at.inside) [
        | inl le ↦ inl (omega arith)
        | inr node ↦ inr (subst (Any (AtNode lies_in k)) (sym step.opened) node)
      ])

  -- all open nodes are dropped, none of which is above what was seen
  pub cleared : BoundsKeys admits lies_in fits → (old new : Contents W) (cs : List Claim) (seen : ℕ) → Back old cs → seen ≤ v.seen
      → All (λ (node : Node W). node.bound ≤ seen) old.open_nodes → new.open_nodes ≡ [] → new.leased ≡ old.leased → Back new cs
  cleared law old new cs seen back low bounds none same = record {
    covers = λ k fair in_taken. elim (back.covers k fair in_taken) [
      | inl le ↦ inl le
      | inr (inl node) ↦
          let (i, one, within, at, inside) = in_nodes lies_in k old node in
          let there : Contains old.open_nodes one = (i, within, at) in
          let bound = law one k (All-contains fits old.open_nodes one back.fitting there) fair inside in
          let top = All-contains (λ (n : Node W). n.bound ≤ seen) old.open_nodes one bounds there in
          inl (omega arith)
      | inr (inr claimed) ↦ inr (inr claimed)
    ];
    fitting = subst (All fits) (sym none) (All-nil fits);
    others = λ h. let beside = back.others h in let kept : total h new.leased ≡ total h old.leased = ap (total h) same in omega arith;
    foreign = back.foreign;
    spent = back.spent;
    numbers = subst NumbersDiffer (sym same) back.numbers;
  }

  module _ (law : BoundsKeys admits lies_in fits) (old new : Contents W) (cs : List Claim) (l : Lease W) (nodes : List (Node W)) (seen : ℕ)
      (back : Back old cs) (low : seen ≤ v.seen) (fit : All fits nodes) (replaces : Replaces admits lies_in l.node.shape seen nodes) (opened : IsPermutation (above seen nodes ++ old.open_nodes) new.open_nodes) where
    stay : (k : ℕ) → Any (AtNode lies_in k) old.open_nodes → Any (AtNode lies_in k) new.open_nodes
    stay = stays_open admits lies_in fits law old.open_nodes new.open_nodes nodes seen fit opened

    fit_again : All fits new.open_nodes
    fit_again = fitting_again admits lies_in fits law old.open_nodes new.open_nodes nodes seen fit opened back.fitting

    again : (k : ℕ) → admits k → lies_in k l.node.shape → (k ≤ v.seen) ⊎ Any (AtNode lies_in k) new.open_nodes
    again = seen_or_open admits lies_in fits law old.open_nodes new.open_nodes nodes seen fit opened l.node.shape v.seen low replaces

    pub finished : Contains cs (unspent shard l) → IsPermutation old.leased (entry_of l ∷ new.leased) → Back new (without shard l.number cs)
    finished there listed = ends_lease old new cs l (unspent shard l) refl refl there listed back stay fit_again (λ k fair at. again k fair at.inside)

    -- a lease of another home is spent, and its nodes are open here
    pub adopted : (home : ℕ) → home ≢ shard → Contains cs (unspent home l) → new.leased ≡ old.leased → Back new (spent home l ∷ without home l.number cs)
    adopted home apart there same =
        let c = unspent home l in
        let others' = without home l.number cs in
        let moved = parted cs c there (differ_now old cs back) in
        record {
          covers = λ k fair in_taken. elim (back.covers k fair in_taken) [
            | inl le ↦ inl le
            | inr (inl node) ↦ inr (inl (in_outlines lies_in k new (stay k (in_nodes lies_in k old node))))
            | inr (inr claimed) ↦ elim (Any-cons_cases (AtClaim k) c others' (Any-permutation (AtClaim k) cs (c ∷ others') moved claimed)) [
              | inl mine ↦ elim (again k fair mine.inside) [
                | inl le ↦ inl le
                | inr node ↦ inr (inl (in_outlines lies_in k new node))
              ]
              | inr rest ↦ inr (inr (Any-tail (AtClaim k) (spent home l) others' rest))
            ]
          ];
          fitting = fit_again;
          others = λ h.
              let beside = back.others h in
              let kept : total h new.leased ≡ total h old.leased = ap (total h) same in
              let less = permuted_total (of_home shard h) cs (c ∷ others') moved in
              omega arith;
          foreign = λ home' other h.
              let before = back.foreign home' other h in
              let less = permuted_total (of_home home' h) cs (c ∷ others') moved in
              omega arith;
          spent = λ home' other h.
              let below = back.spent home' other h in
              let less = permuted_total (unspent_of_home home' h) cs (c ∷ others') moved in
              omega arith;
          numbers = subst NumbersDiffer (sym same) back.numbers;
        }

    pub spends : (home : ℕ) → Contains cs (unspent home l) → Spends cs home l (spent home l ∷ without home l.number cs)
    spends home there = (without home l.number cs, parted cs (unspent home l) there (differ_now old cs back), refl)
