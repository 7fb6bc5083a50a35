-- What each step makes of the view of its pass.
use Rattle.std.specs.Prelude.{◌≡◌, ℕ, zero, suc, ◌+◌, ◌-◌, ◌/◌, List, [], ◌∷◌, ℤ, Bool, not, cond, eqb, max, filter, Option, Some, None}
use Rattle.bound_word.specs.declared.view.View.{View as ViewOf}
use Rattle.bound_word.specs.Asking.{has_seen, with_rest}
use Rattle.frontier_turn.specs.declared.view.Snapshot.{Snapshot}
use Rattle.frontier_turn.specs.Sharing.{Parting, Standing}
use Rattle.frontier_turn.specs.Snapshots.{nothing_left, is_empty}
use Rattle.split_frontier.specs.declared.view.Claim.{Claim}
use Rattle.split_frontier.specs.declared.view.Rest.{Rest}

-- what a pass knows
abbrev pub View : Type 0
View = ViewOf Rest

-- what all steps ask of it
abbrev pub standing : Standing Rest
standing = record { problem = λ r. r.problem; parts = λ r. r.parts; is_idle = λ r. r.holds ≡ None; is_free = λ r. r.leases ≡ [] }

-- a pass that has seen a word, and neither holds a turn nor names a lease
abbrev pub pass_of : List ℤ → ℕ → ℕ → ℕ → View
pass_of problem seen splits parts = has_seen seen (record {
  problem = problem;
  met = 0;
  found = None;
  splits = splits;
  holds = None;
  taken = nothing_left;
  leases = [];
  empties = [];
  parts = parts;
})

-- the view of a pass that was joined away
abbrev pub blank : View
blank = pass_of [] 0 0 0

-- the first pass has all 2 ^ 64 parts
abbrev pub newcomer : List ℤ → View
newcomer problem = pass_of problem 0 0 18446744073709551616

-- the shard that the latest of some more such swaps found held
abbrev pub found_after : ℕ → ℕ → Option ℕ → Option ℕ
found_after zero shard found = found
found_after (suc times) shard found = Some shard

-- some more swaps found the turn of this shard held
abbrev pub meets_often : ℕ → ℕ → View → View
meets_often times shard view =
    let r = view.rest in
    with_rest view (record r { met = r.met + times; found = found_after times shard r.found })

-- take the turn of a shard, where it was held: one more swap found it so
abbrev pub meets : ℕ → View → View
meets shard view = meets_often 1 shard view

-- take the turn of a shard, where it was free: the pass holds it, and keeps what the frontier was
abbrev pub takes_turn : View → ℕ → Snapshot → View
takes_turn view shard snapshot = let r = view.rest in with_rest view (record r { holds = Some shard; taken = snapshot })

-- the shards but this one, and this one where it is empty
abbrev pub marked : ℕ → Bool → List ℕ → List ℕ
marked shard empty shards =
    let others = filter (λ other. not (eqb other shard)) shards in
    cond empty (shard ∷ others) others

-- give the turn of a shard back: the pass names the leases of the turn, and the shard is among its empties where nothing is left
abbrev pub leaves_turn : View → ℕ → Snapshot → List Claim → View
leaves_turn view shard snapshot claims =
    let r = view.rest in
    with_rest view (record r { holds = None; taken = nothing_left; leases = claims; empties = marked shard (is_empty snapshot) r.empties })

-- split: what the pass keeps
abbrev pub split_left : View → View
split_left view =
    let r = view.rest in
    with_rest view (record r { splits = r.splits + 1; empties = []; parts = r.parts - r.parts / 2 })

-- split: the new pass
abbrev pub split_right : View → View
split_right view = let r = view.rest in pass_of r.problem view.seen (r.splits + 1) (r.parts / 2)

-- join: the pass that remains
abbrev pub joined : View → View → View
joined view other = let r = view.rest in record {
  seen = max view.seen other.seen;
  asked = view.asked;
  last = view.last;
  rest = record r { splits = r.splits + 1; empties = []; parts = r.parts + other.rest.parts };
}

-- how views are cut in two and made one
abbrev pub parting : Parting Rest
parting = record { left = split_left; right = split_right; both = joined; spent = blank }
