-- The rule as a search begins, and as passes are split and joined.
use Rattle.std.proofs.Common.{◌≡◌, ℕ, zero, suc, ◌<◌, ◌≤◌, List, ℤ, [], ◌∷◌, ◌++◌, map, length, get_or, set, replicate, sym, refl, ap, ◌∙◌, inl, inr, ⊎_elim, subst, arith, rules, Option, None}
use Rattle.std.specs.Prelude.{All, nat_lt}
use Rattle.std.proofs.lemmas.Bool.{cases_lt}
use Rattle.std.proofs.lemmas.List.{length-map, length-replicate, get_or-replicate, get_or_past}
use Rattle.std.proofs.lemmas.List.Elements.{All-filter}
use Rattle.std.proofs.lemmas.List.Sorted.{All-permutation}
use mathlib.Core.Option.{Option as Maybe, some, some-injective, some-ne-none}
use lib.ListN.{get_elem?}
use Rattle.atomic_table.specs.Table.{State, Splits, Joins, opening}
use Rattle.atomic_table.proofs.Lists.{set_else, at_snoc, at_longer}
use Rattle.box_search.specs.declared.space.Node.{Node}
use Rattle.box_search.specs.declared.space.Shape.{Shape}
use Rattle.box_search.specs.declared.lease.Entry.{Entry}
use Rattle.box_search.specs.Leasing.{above}
use Rattle.box_search.specs.Search.{BoundsKeys, CoverAll}
use Rattle.box_search.proofs.Searching.{cover_in_any_order}
use Rattle.frontier_turn.specs.declared.view.Snapshot.{Snapshot}
use Rattle.frontier_turn.specs.Bags.{total, one_if}
use Rattle.frontier_turn.specs.Snapshots.{nothing_left, numbered}
use Rattle.frontier_turn.proofs.Bags.{total_set, total_same, total_snoc, total_joined}
use Rattle.frontier_turn.proofs.Items.{within, each_set}
use Rattle.split_frontier.specs.Claims.{of_home, IsClaimed}
use Rattle.split_frontier.specs.Views.{View, blank, newcomer, split_left, split_right, joined}
use Rattle.split_frontier.specs.Rule.{Slot, parts_of, is_shard, held_by, named_by, IsPass, IsOut, IsFree, IsTurned, ShardsRule}
use Rattle.split_frontier.specs.Opening.{together, IsFresh, IsOpening}
use Rattle.split_frontier.specs.Steps.{shown}
use Rattle.split_frontier.proofs.Dealing.{fresh_at, all_open}
use Rattle.split_frontier.proofs.Moves.{out_set}

module _ {W : Type 0} (p : List ℤ) (admits : ℕ → Type 0) (lies_in : ℕ → Shape → Type 0) (fits : Node W → Type 0) where
  abbrev St : Type 0
  St = State (Slot W) View

  -- a shard's turn is as it was, where as many passes hold it
  still : (turn : ℕ) (home : Maybe (Slot W)) (holders holders' : ℕ) (now : Snapshot) → holders' ≡ holders → IsTurned p admits lies_in fits turn home holders now → IsTurned p admits lies_in fits turn home holders' now
  still turn home holders holders' now same = subst (λ (n : ℕ). IsTurned p admits lies_in fits turn home n now) (sym same)

  pub splits : (id : ℕ) (v : View) → 2 ≤ v.rest.parts → v.rest.holds ≡ None → Splits (ShardsRule p admits lies_in fits) id v (split_left v) (split_right v)
  splits id v several idle s k at =
      let a = split_left v in
      let b = split_right v in
      let word = get_or s.words 0 0 in
      let mine = (k.each id v at).live (omega arith) in
      let with_a = set s.views id a in
      let all = k.parts in
      let cut = total_set parts_of s.views id v a at in
      let more = total_snoc parts_of with_a b in
      record {
        now = k.now;
        beyond = k.beyond;
        turn_words = k.turn_words;
        parts = omega arith;
        each = λ j u u_at. ⊎_elim
            (λ (there : get_elem? with_a j ≡ some u). each_set (IsPass p word k.now) s.views id a
            (record { live = λ _. record { problem_is = mine.problem_is; seen = mine.seen; taken = mine.taken; empties = λ _ shard l. absurd (search rules) }; spent = λ z. absurd (omega arith) }) (λ i w _. k.each i w) j u there)
            (λ (is : b ≡ u). subst (IsPass p word k.now) is
            (record { live = λ _. record { problem_is = mine.problem_is; seen = mine.seen; taken = λ shard h. absurd (search rules); empties = λ _ shard l. absurd (search rules) }; spent = λ z. absurd (omega arith) }))
            (at_snoc with_a b u j u_at);
        sound = k.sound;
        turned = λ shard home home_at. still (get_or s.words (suc shard) 0) home (total (held_by shard) s.views) (total (held_by shard) (with_a ++ b ∷ [])) (k.now shard)
            (total_snoc (held_by shard) with_a b ∙ (let same = total_same (held_by shard) s.views id v a at refl in omega arith)) (k.turned shard home home_at);
        covered = λ key fair. elim (k.covered key fair) [
          | inl low ↦ inl low
          | inr (inl opened) ↦ inr (inl opened)
          | inr (inr out) ↦ let (other, u, there, claimed) = out_set lies_in s.views id v a key at (λ c. c) out in inr (inr (other, u, at_longer with_a (b ∷ []) other u there, claimed))
        ];
        leases = λ shard h. let same = total_same (named_by shard h) s.views id v a at refl in let snoc = total_snoc (named_by shard h) with_a b in let before = k.leases shard h in omega arith;
        numbers = k.numbers;
      }

  -- a lease that is out is not one of a pass that names none
  out_blank : (views : List View) (other : ℕ) (w : View) (key : ℕ) → get_elem? views other ≡ some w → w.rest.leases ≡ [] → IsOut lies_in views key → IsOut lies_in (set views other blank) key
  out_blank views other w key at unnamed = out_set lies_in views other w blank key at (subst (λ cs. IsClaimed lies_in cs key) unnamed)

  pub joins : (id : ℕ) (v : View) (other : ℕ) (w : View) → 0 < v.rest.parts → 0 < w.rest.parts → v.rest.holds ≡ None → w.rest.holds ≡ None → w.rest.leases ≡ []
      → Joins (ShardsRule p admits lies_in fits) id v other w (joined v w) blank
  joins id v other w live live' idle idle' unnamed s k at apart at' =
      let a = joined v w in
      let one = set s.views id a in
      let two = set one other blank in
      let mine = (k.each id v at).live live in
      let its = (k.each other w (sym (set_else s.views id other a apart) ∙ at')).live live' in
      record {
        now = k.now;
        beyond = k.beyond;
        turn_words = k.turn_words;
        parts = omega (arith, k.parts, total_joined parts_of s.views id v a other w blank at at');
        each = each_set (IsPass p (get_or s.words 0 0) k.now) one other blank (record { live = λ l. absurd (omega arith); spent = λ _. refl })
            (λ j u _ u_at. each_set (IsPass p (get_or s.words 0 0) k.now) s.views id a
            (record {
              live = λ _. record { problem_is = mine.problem_is; seen = omega (arith, mine.seen, its.seen); taken = mine.taken; empties = λ _ shard l. absurd (search rules) };
              spent = λ z. absurd (omega arith);
            })
            (λ i u' _. k.each i u') j u u_at);
        sound = k.sound;
        turned = λ shard home home_at. still (get_or s.words (suc shard) 0) home (total (held_by shard) s.views) (total (held_by shard) two) (k.now shard)
            (let none' : held_by shard w ≡ 0 = ap (λ (h : Option ℕ). one_if (is_shard shard h)) idle' in
            omega (arith, none', total_joined (held_by shard) s.views id v a other w blank at at')) (k.turned shard home home_at);
        covered = λ key fair. elim (k.covered key fair) [
          | inl low ↦ inl low
          | inr (inl opened) ↦ inr (inl opened)
          | inr (inr out) ↦ inr (inr (out_blank one other w key at' unnamed (out_set lies_in s.views id v a key at (λ c. c) out)))
        ];
        leases = λ shard h.
            let nothing_named : total (of_home shard h) w.rest.leases ≡ 0 = ap (total (of_home shard h)) unnamed in
            omega (arith, k.leases shard h, total_joined (named_by shard h) s.views id v a other w blank at at', nothing_named);
        numbers = k.numbers;
      }

  -- of each shard the slot that it begins with, as a frontier of the moment
  abbrev begun : List (Slot W) → ℕ → Snapshot
  begun slots shard = shown (get_or slots shard None)

  past_end : (slots : List (Slot W)) (shard : ℕ) → length slots ≤ shard → get_or slots shard None ≡ None
  past_end [] shard l = refl
  past_end (x ∷ xs) zero l = absurd (omega arith)
  past_end (x ∷ xs) (suc shard) l = past_end xs shard (omega arith)

  at_some : (slots : List (Slot W)) (shard : ℕ) (home : Maybe (Slot W)) → get_elem? (map some slots) shard ≡ some home → (home ≡ some (get_or slots shard None)) × (get_elem? slots shard ≡ some (get_or slots shard None))
  at_some [] shard home e = absurd (some-ne-none home (sym e))
  at_some (x ∷ xs) zero home e = (sym (some-injective (some x) home e), refl)
  at_some (x ∷ xs) (suc shard) home e = at_some xs shard home e

  first : (now : ℕ → Snapshot) (j : ℕ) (u : View) → get_elem? (newcomer p ∷ []) j ≡ some u → IsPass p 0 now u
  first now zero u at = subst (IsPass p 0 now) (some-injective (newcomer p) u at) (record {
    live = λ _. record { problem_is = refl; seen = omega arith; taken = λ shard h. absurd (search rules); empties = λ _ shard l. absurd (search rules) };
    spent = λ z. absurd (omega arith);
  })
  first now (suc j) u at = absurd (some-ne-none u (sym at))

  fresh_free : (slot : Slot W) (nodes : List (Node W)) → IsFresh nodes slot → All fits nodes → IsFree p admits lies_in fits 0 (some slot) 0 (shown slot)
  fresh_free slot nodes fresh fitting = record {
    zero = refl;
    nobody = refl;
    parked = fresh.parked;
    at_home = ap some fresh.is;
    shows = sym (ap shown fresh.is);
    fitting = All-permutation fits (above 0 nodes) fresh.parked.frontier.open_nodes fresh.opened (All-filter (λ one. nat_lt 0 one.bound) fits nodes fitting);
  }

  fresh_leased : (slot : Slot W) (nodes : List (Node W)) (h : Entry → ℕ) → IsFresh nodes slot → total h (shown slot).leased ≡ 0
  fresh_leased slot nodes h fresh = ap (λ (z : Slot W). total h (shown z).leased) fresh.is ∙ ap (total h) fresh.leased

  module _ (positive : (key : ℕ) → admits key → 0 < key) (bounded : BoundsKeys admits lies_in fits) where
    pub opens : (words : List ℕ) (slots : List (Slot W)) (nodes : List (Node W)) → CoverAll admits lies_in fits nodes → IsOpening nodes slots → length words ≡ suc (length slots) → ((i : ℕ) → get_or words i 0 ≡ 0)
        → ShardsRule p admits lies_in fits (opening words slots (newcomer p))
    opens words slots nodes covering begins long zeros =
        let now = begun slots in
        let dealt = cover_in_any_order admits lies_in fits nodes (together begins.shares) begins.dealt covering in
        let fresh_here : (shard : ℕ) → shard < length slots → (share : List (Node W)) × IsFresh share (get_or slots shard None) × All fits share = fresh_at admits lies_in fits begins.shares slots begins.fresh dealt.fitting in
        let empty : (shard : ℕ) → length slots ≤ shard → now shard ≡ nothing_left = λ shard l. ap shown (past_end slots shard l) in
        let none_leased : (shard : ℕ) (h : Entry → ℕ) → total h (now shard).leased ≡ 0 = λ shard h. ⊎_elim
        (λ (near : shard < length slots). let f = fresh_here shard near in fresh_leased (get_or slots shard None) f.0 h f.1)
        (λ (far : length slots ≤ shard). ap (λ (z : Snapshot). total h z.leased) (empty shard far)) (cases_lt shard (length slots)) in
        record {
          now = now;
          beyond = λ shard l. empty shard (subst (λ (n : ℕ). n ≤ shard) (length-map slots some) l);
          turn_words = long ∙ ap suc (sym (length-map slots some));
          parts = refl;
          each = λ j u at. subst (λ (n : ℕ). IsPass p n now u) (sym (zeros 0)) (first now j u at);
          sound = inl (zeros 0);
          turned = λ shard home home_at.
              let at = at_some slots shard home home_at in
              let f = fresh_here shard (within slots shard (get_or slots shard None) at.1).0 in
              subst (λ (z : ℕ × Maybe (Slot W)). IsTurned p admits lies_in fits z.0 z.1 0 (now shard)) (λ i. (sym (zeros (suc shard)) i, sym at.0 i)) (inl (fresh_free (get_or slots shard None) f.0 f.1 f.2));
          covered = λ key fair. inr (inl (all_open admits lies_in fits positive bounded nodes slots covering begins key fair));
          leases = λ shard h. sym (none_leased shard h);
          numbers = λ shard x. let none_there = none_leased shard (numbered x) in omega arith;
        }

pub zeros : (n i : ℕ) → get_or {A = ℕ} (replicate {A = ℕ} n 0) i 0 ≡ 0
zeros n i =
    let words : List ℕ = replicate n 0 in
    ⊎_elim (λ (l : i < n). get_or-replicate n i 0 0 l) (λ (l : n ≤ i). get_or_past words i 0 (subst (λ (k : ℕ). k ≤ i) (sym (length-replicate n 0)) l)) (cases_lt i n)
