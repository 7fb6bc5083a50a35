-- The step that takes the turn of a shard, or finds it held, keeps the rule of the split search.
use Rattle.std.proofs.Common.{◌≡◌, ℕ, suc, ◌<◌, ◌≤◌, ◌≢◌, List, ℤ, ◌∷◌, length, get_or, set, sym, refl, ap, ◌∙◌, inl, inr, ⊎_elim, subst, arith, ne_eqb, Option, Some, None, length-set, get_or-set_same, get_or-set_other}
use Rattle.std.specs.Prelude.{All}
use Rattle.std.proofs.lemmas.Bool.{eqb-true, eq-eqb}
use mathlib.Core.Option.{Option as Maybe, none, some}
use mathlib.Core.Logic.{dite}
use native.Mathlib.Decide.{ℕ_discrete}
use lib.ListN.{get_elem?}
use Rattle.atomic_table.specs.Table.{State, Me, Act, step, keeps, takes, stepped, carried_after, Valid, Allows}
use Rattle.atomic_table.proofs.Lists.{at_set}
use Rattle.box_search.specs.declared.space.Node.{Node}
use Rattle.box_search.specs.declared.space.Shape.{Shape}
use Rattle.box_search.specs.declared.lease.Entry.{Entry}
use Rattle.frontier_turn.specs.declared.view.Snapshot.{Snapshot}
use Rattle.frontier_turn.specs.Bags.{total, one_if}
use Rattle.frontier_turn.specs.Snapshots.{snapshot_of, numbered, NumbersDiffer}
use Rattle.frontier_turn.proofs.Bags.{total_set, total_same, total_part}
use Rattle.frontier_turn.proofs.Items.{here, each_set}
use Rattle.split_frontier.specs.declared.parked.Parked.{Parked}
use Rattle.split_frontier.specs.Claims.{of_home}
use Rattle.split_frontier.specs.Views.{View, meets, takes_turn}
use Rattle.split_frontier.specs.Rule.{Slot, parts_of, is_shard, held_by, named_by, IsPass, IsFree, IsHeld, IsTurned, ShardsClauses, ShardsRule}
use Rattle.split_frontier.specs.Steps.{Finds, TakesTurn}
use Rattle.split_frontier.proofs.Moves.{suc_same, out_set, higher, quiet}

module _ {W : Type 0} (p : List ℤ) (admits : ℕ → Type 0) (lies_in : ℕ → Shape → Type 0) (fits_of : List ℤ → Node W → Type 0) where
  abbrev fits : Node W → Type 0
  fits = fits_of p

  abbrev St : Type 0
  St = State (Slot W) View

  abbrev Home : Type 0
  Home = Maybe (Slot W)

  abbrev Rule : St → Type 0
  Rule = ShardsRule p admits lies_in fits

  abbrev K : List ℕ → List Home → List View → Type 0
  K = ShardsClauses p admits lies_in fits

  module _ (slots id : ℕ) (me : Me (Slot W) View) (own : me.0.rest.problem ≡ p) (live : 0 < me.0.rest.parts) (shard : ℕ) where
    abbrev turn : St → ℕ
    turn s = get_or s.words (suc shard) 0

    -- the turn word of the shard is written, and all other words stay
    word_stays : (words : List ℕ) (n : ℕ) → get_or (set words (suc shard) n) 0 0 ≡ get_or words 0 0
    word_stays words n = get_or-set_other words (suc shard) 0 n 0 (λ e. omega arith)

    turn_is : (words : List ℕ) (n : ℕ) → suc shard < length words → get_or (set words (suc shard) n) (suc shard) 0 ≡ n
    turn_is words n l = get_or-set_same words (suc shard) n 0 l

    turn_stays : (words : List ℕ) (n other : ℕ) → other ≢ shard → get_or (set words (suc shard) n) (suc other) 0 ≡ get_or words (suc other) 0
    turn_stays words n other apart = get_or-set_other words (suc shard) (suc other) n 0 (λ e. apart (omega arith))

    abbrev Taken : ℕ → ℕ → (s : St) → Type 0
    Taken a b s = (w : View) × (a' : Act (Slot W)) × Valid s.homes me.1 a' × Rule (stepped s (suc shard) 1 id me.1 w a') × TakesTurn fits_of (step slots (suc shard) a b none) me (turn s) (w, carried_after me.1 a')

    met : (a b : ℕ) (s : St) (r : Rule s) → shard < length s.homes → get_elem? s.views id ≡ some me.0 → (home : Home) → IsHeld p admits lies_in fits (turn s) home (total (held_by shard) s.views) → Taken a b s
    met a b s r there at home h =
        let w = meets shard me.0 in
        let mine = (r.each id me.0 at).live live in
        let seen = mine.seen in
        let long = r.turn_words in
        let one = h.one in
        let words = set s.words (suc shard) 1 in
        let stays = word_stays s.words 1 in (
          w,
          keeps,
          tt,
          quiet p admits lies_in fits s.words words s.homes s.views id me.0 w r at live refl refl refl refl refl refl (length-set s.words (suc shard) 1)
              (λ other. dite (ℕ_discrete other shard)
              (λ (same : other ≡ shard). subst (λ (k : ℕ). get_or words (suc k) 0 ≡ get_or s.words (suc k) 0) (sym same) (turn_is s.words 1 (omega arith) ∙ sym one))
              (turn_stays s.words 1 other)) (omega arith) (omega arith) (rw stays r.sound),
          (λ other is. ((λ z. absurd (omega arith)), (λ _. (ap (λ (k : ℕ). meets k me.0) (suc_same shard other is), refl)))),
        )

    -- the entries of the shard's frontier are the pass's leases of this home, and those of the others
    own_part : (words : List ℕ) (homes : List Home) (views : List View) (k : K words homes views) → get_elem? views id ≡ some me.0 → (home : ℕ) (h : Entry → ℕ) → total (of_home home h) me.0.rest.leases ≤ total h (k.now home).leased
    own_part words homes views k at home h = let all = k.leases home h in let part = total_part (named_by home h) views id me.0 at in omega arith

    won : me.0.rest.holds ≡ None → (a b : ℕ) (s : St) (r : Rule s) → shard < length s.homes → get_elem? s.views id ≡ some me.0 → (home : Home) → get_elem? s.homes shard ≡ some home
        → IsFree p admits lies_in fits (turn s) home (total (held_by shard) s.views) (r.now shard) → Taken a b s
    won idle a b s r there at home home_at f =
        let F = f.parked in
        let q = snapshot_of F.frontier in
        let w = takes_turn me.0 shard q in
        let words = set s.words (suc shard) 1 in
        let homes = set s.homes shard none in
        let mine = (r.each id me.0 at).live live in
        let long = r.turn_words in
        let stays = word_stays s.words 1 in
        let differ : NumbersDiffer F.frontier.leased = subst (λ (z : Snapshot). NumbersDiffer z.leased) (sym f.shows) (r.numbers shard) in
        let held_before : (t : ℕ) → held_by t me.0 ≡ 0 = λ t. ap (λ (h : Option ℕ). one_if (is_shard t h)) idle in
        let after : K words homes (set s.views id w) = record {
          now = r.now;
          beyond = λ t l. r.beyond t (subst (λ (n : ℕ). n ≤ t) (length-set s.homes shard none) l);
          turn_words = length-set s.words (suc shard) 1 ∙ (long ∙ ap suc (sym (length-set s.homes shard none)));
          parts = total_same parts_of s.views id me.0 w at refl ∙ r.parts;
          each = each_set (IsPass p (get_or words 0 0) r.now) s.views id w
              (record {
                live = λ _. record {
                  problem_is = mine.problem_is;
                  seen = subst (λ (n : ℕ). me.0.seen ≤ n) (sym stays) mine.seen;
                  taken = λ t its. f.shows ∙ ap r.now (eqb-true shard t its);
                  empties = mine.empties;
                };
                spent = λ z. absurd (omega arith);
              })
              (λ j u _ u_at. higher p (get_or s.words 0 0) (get_or words 0 0) r.now u (omega arith) (r.each j u u_at));
          sound = rw stays r.sound;
          turned = λ t h h_at. ⊎_elim
              (λ (e : (t ≡ shard) × (none ≡ h)).
              let cut = total_set (held_by shard) s.views id me.0 w at in
              let before = held_before shard in
              let nobody = f.nobody in
              let one : held_by shard w ≡ 1 = ap one_if (eq-eqb shard shard refl) in
              let held : IsHeld p admits lies_in fits (get_or words (suc shard) 0) h (total (held_by shard) (set s.views id w)) = record { one = turn_is s.words 1 (omega arith); somebody = omega arith; away = sym e.1 } in
              subst (λ (k : ℕ). IsTurned p admits lies_in fits (get_or words (suc k) 0) h (total (held_by k) (set s.views id w)) (r.now k)) (sym e.0) (inr held))
              (λ (e : (t ≢ shard) × (get_elem? s.homes t ≡ some h)).
              let apart = e.0 in
              let none_now : held_by t w ≡ 0 = ap one_if (ne_eqb shard t (λ z. apart (sym z))) in
              let held = total_same (held_by t) s.views id me.0 w at (none_now ∙ sym (held_before t)) in
              subst (λ (n : ℕ × ℕ). IsTurned p admits lies_in fits n.0 h n.1 (r.now t)) (λ i. (sym (turn_stays s.words 1 t apart) i, sym held i)) (r.turned t h e.1))
              (at_set s.homes shard t none h h_at);
          covered = λ key fair. elim (r.covered key fair) [
            | inl low ↦ inl (omega arith)
            | inr (inl opened) ↦ inr (inl opened)
            | inr (inr out) ↦ inr (inr (out_set lies_in s.views id me.0 w key at (λ c. c) out))
          ];
          leases = λ t h. total_same (named_by t h) s.views id me.0 w at refl ∙ r.leases t h;
          numbers = r.numbers;
        } in (
          w,
          takes shard (Some F),
          home_at ∙ ap some f.at_home,
          after,
          (λ other is. subst (λ (t : ℕ). (turn s ≡ 0 → (parked : Parked W) × (w ≡ takes_turn me.0 t (snapshot_of parked.frontier)) × ((shard, Some F) ∷ me.1 ≡ (t, Some parked) ∷ me.1) × Finds (fits_of me.0.rest.problem) t me.0.rest.leases parked.frontier)
              × (turn s ≢ 0 → (w ≡ meets t me.0) × ((shard, Some F) ∷ me.1 ≡ me.1))) (suc_same shard other is) (
                (λ _. (
                  F,
                  refl,
                  refl,
                  record {
                    fitting = subst (λ (z : List ℤ). All (fits_of z) F.frontier.open_nodes) (sym own) f.fitting;
                    numbers = differ;
                    leased = λ h. subst (λ (z : Snapshot). total (of_home shard h) me.0.rest.leases ≤ total h z.leased) (sym f.shows) (own_part s.words s.homes s.views r at shard h);
                    differ = λ t number. let once = r.numbers t number in let part = own_part s.words s.homes s.views r at t (numbered number) in omega arith;
                  },
                )),
                (λ no. absurd (no f.zero)),
              )),
        )

    pub takes_the_turn : me.0.rest.holds ≡ None → shard < slots → (i a b : ℕ) → i ≡ suc shard → Allows Rule slots id me i (λ _. 1) (TakesTurn fits_of (step slots i a b none) me)
    takes_the_turn idle there i a b is = subst (λ (i' : ℕ). Allows Rule slots id me i' (λ _. 1) (TakesTurn fits_of (step slots i' a b none) me)) (sym is) (λ s r long at _.
        let within : shard < length s.homes = omega arith in
        let home = get_or s.homes shard none in
        let home_at = here s.homes shard none within in
        ⊎_elim (won idle a b s r within at home home_at) (met a b s r within at home) (r.turned shard home home_at))
