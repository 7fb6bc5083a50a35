-- What the calls of a turn do to the leases that its pass names, as contracts see it.
use Rattle.std.proofs.Common.{◌≡◌, ◌≢◌, ◌≤◌, [], ◌∷◌, ◌++◌, ℕ, List, ℤ, Bool, true, false, refl, ap, sym, ◌∙◌, subst, All, Contains, IsPermutation}
use Rattle.atomic_table.specs.Seated.{TableId}
use Rattle.box_search.specs.Contents.{Contents}
use Rattle.box_search.specs.Leasing.{entry_of, above, Reopens, Ends}
use Rattle.box_search.specs.Search.{BoundsKeys}
use Rattle.box_search.specs.declared.space.Node.{Node}
use Rattle.box_search.specs.declared.space.Shape.{Shape}
use Rattle.box_search.specs.declared.lease.Lease.{Lease}
use Rattle.frontier_turn.specs.Holding.{Replaces}
use Rattle.split_frontier.specs.declared.parked.Naming.{Naming}
use Rattle.split_frontier.specs.declared.view.Claim.{Claim}
use Rattle.split_frontier.specs.Claims.{claim_of, claims_after, unspent, spent, without}
use Rattle.split_frontier.specs.Holding.{ShardHold, IsTurn, Unnames, Spends}
use Rattle.split_frontier.specs.Steps.{Seated, MayReturn}
use Rattle.split_frontier.proofs.Leases.{differ_now, is_out, ended, finished, reopened, adopted, passed_over, cleared}
use Rattle.split_frontier.proofs.Named.{parted}
use Rattle.split_frontier.proofs.Turns.{goes_on}

-- a turn as contracts see it
abbrev hold_of : {W : Type 0} → TableId → Seated W → ℕ → Contents W → Naming → ShardHold W
hold_of id me shard frontier naming = record { table_id = id; shard = shard; view = me.0; frontier = frontier; leases = claims_after me.0.rest.leases naming }

module _ {W : Type 0} (admits : List ℤ → ℕ → Type 0) (lies_in : List ℤ → ℕ → Shape → Type 0) (fits : List ℤ → Node W → Type 0) {p : List ℤ} {z z' : TableId} {me : Seated W} {shard : ℕ} {f : Contents W} {n : Naming} {t : ShardHold W}
    (turn : IsTurn p (admits p) (lies_in p) (fits p) z z' me shard f n) (is : hold_of z' me shard f n ≡ t) where
  -- the leases that the pass names now
  abbrev claims : List Claim
  claims = claims_after me.0.rest.leases n

  -- what it names after a call
  abbrev after : Naming → List Claim
  after n' = claims_after me.0.rest.leases n'

  abbrev Goes : Contents W → Naming → Type 0
  Goes f' n' = IsTurn p (admits p) (lies_in p) (fits p) z z' me shard f' n'

  -- the lease with this home is one of them
  there : (given : Bool) (l : Lease W) → Contains t.leases (claim_of t.shard l given) → Contains claims (claim_of shard l given)
  there given l = subst (λ (h : ShardHold W). Contains h.leases (claim_of h.shard l given)) (sym is)

  -- so the frontier has it out
  pub out_here : (given : Bool) (l : Lease W) → Contains t.leases (claim_of t.shard l given) → Contains f.leased (entry_of l)
  out_here given l named = is_out (admits p) (lies_in p) (fits p) me.0 shard turn.leased turn.differ f claims l (claim_of shard l given) turn.may_return refl refl (there given l named)

  -- and where the call took it away, the others are as before
  pub unnamed_here : (given : Bool) (l : Lease W) (n' : Naming) → Contains t.leases (claim_of t.shard l given) → after n' ≡ without shard l.number claims → Unnames t.leases (claim_of t.shard l given) (after n')
  unnamed_here given l n' named now =
      subst (λ (h : ShardHold W). IsPermutation h.leases (claim_of h.shard l given ∷ after n')) is
      (subst (λ (ds : List Claim). IsPermutation claims (claim_of shard l given ∷ ds)) (sym now)
      (parted claims (claim_of shard l given) (there given l named) (differ_now (admits p) (lies_in p) (fits p) me.0 shard turn.leased turn.differ f claims turn.may_return)))

  goes_with : (f' : Contents W) (n' : Naming) (cs : List Claim) → after n' ≡ cs → MayReturn (admits p) (lies_in p) (fits p) me.0 shard f' cs → Goes f' n'
  goes_with f' n' cs now back = goes_on p (admits p) (lies_in p) (fits p) z z' me shard f f' n n' turn (subst (MayReturn (admits p) (lies_in p) (fits p) me.0 shard f') (sym now) back)

  -- a spent lease ends
  pub ended_here : (f' : Contents W) (n' : Naming) (l : Lease W) → Contains t.leases (spent t.shard l) → after n' ≡ without shard l.number claims → Ends f l f' → Goes f' n'
  ended_here f' n' l named now step = goes_with f' n' (without shard l.number claims) now
      (ended (admits p) (lies_in p) (fits p) me.0 shard turn.leased turn.differ f f' claims l (there true l named) turn.may_return step)

  -- the problem of the turn is this one
  same : t.view.rest.problem ≡ p
  same = ap (λ (h : ShardHold W). h.view.rest.problem) (sym is) ∙ turn.problem_is

  -- a lease goes back
  pub reopened_here : (f' : Contents W) (n' : Naming) (l : Lease W) → Contains t.leases (unspent t.shard l) → fits t.view.rest.problem l.node → after n' ≡ without shard l.number claims → Reopens f l f' → Goes f' n'
  reopened_here f' n' l named fit now step = goes_with f' n' (without shard l.number claims) now
      (reopened (admits p) (lies_in p) (fits p) me.0 shard turn.leased turn.differ f f' claims l (there false l named) turn.may_return (subst (λ (q : List ℤ). fits q l.node) same fit) step)

  -- a lease is passed over
  pub passed_here : (f' : Contents W) (n' : Naming) (l : Lease W) (seen : ℕ) → Contains t.leases (unspent t.shard l) → seen ≤ t.view.seen
      → Replaces (admits t.view.rest.problem) (lies_in t.view.rest.problem) l.node.shape seen t.frontier.open_nodes → after n' ≡ without shard l.number claims → Ends f l f' → Goes f' n'
  passed_here f' n' l seen named below replaces now step = goes_with f' n' (without shard l.number claims) now
      (passed_over (admits p) (lies_in p) (fits p) me.0 shard turn.leased turn.differ f f' claims l seen (there false l named) turn.may_return
      (subst (λ (h : ShardHold W). seen ≤ h.view.seen) (sym is) below)
      (subst (λ (q : List ℤ). Replaces (admits q) (lies_in q) l.node.shape seen f.open_nodes) same
      (subst (λ (c : Contents W). Replaces (admits t.view.rest.problem) (lies_in t.view.rest.problem) l.node.shape seen c.open_nodes) (ap (λ (h : ShardHold W). h.frontier) (sym is)) replaces)) step)

  -- all open nodes are dropped
  pub cleared_here : BoundsKeys (admits p) (lies_in p) (fits p) → (f' : Contents W) (seen : ℕ) → seen ≤ t.view.seen → All (λ (node : Node W). node.bound ≤ seen) t.frontier.open_nodes
      → f'.open_nodes ≡ [] → f'.leased ≡ f.leased → Goes f' n
  cleared_here bounded f' seen below low none kept = goes_with f' n claims refl
      (cleared (admits p) (lies_in p) (fits p) me.0 shard turn.leased turn.differ bounded f f' claims seen turn.may_return
      (subst (λ (h : ShardHold W). seen ≤ h.view.seen) (sym is) below)
      (subst (λ (h : ShardHold W). All (λ (node : Node W). node.bound ≤ seen) h.frontier.open_nodes) (sym is) low) none kept)

  module _ (bounded : BoundsKeys (admits p) (lies_in p) (fits p)) (f' : Contents W) (n' : Naming) (l : Lease W) (nodes : List (Node W)) (seen : ℕ) (below : seen ≤ t.view.seen) (fitting : All (fits t.view.rest.problem) nodes)
      (replaces : Replaces (admits t.view.rest.problem) (lies_in t.view.rest.problem) l.node.shape seen nodes) (opened : IsPermutation (above seen nodes ++ f.open_nodes) f'.open_nodes) where
    low : seen ≤ me.0.seen
    low = subst (λ (h : ShardHold W). seen ≤ h.view.seen) (sym is) below

    fit : All (fits p) nodes
    fit = subst (λ (q : List ℤ). All (fits q) nodes) same fitting

    whole : Replaces (admits p) (lies_in p) l.node.shape seen nodes
    whole = subst (λ (q : List ℤ). Replaces (admits q) (lies_in q) l.node.shape seen nodes) same replaces

    -- nodes take the place of a lease of this shard
    pub finished_here : Contains t.leases (unspent t.shard l) → after n' ≡ without shard l.number claims → IsPermutation f.leased (entry_of l ∷ f'.leased) → Goes f' n'
    finished_here named now listed = goes_with f' n' (without shard l.number claims) now
        (finished (admits p) (lies_in p) (fits p) me.0 shard turn.leased turn.differ bounded f f' claims l nodes seen turn.may_return low fit whole opened (there false l named) listed)

    -- and of one of another shard
    pub adopted_here : (home : ℕ) → home ≢ t.shard → Contains t.leases (unspent home l) → after n' ≡ spent home l ∷ without home l.number claims → f'.leased ≡ f.leased → Goes f' n'
    adopted_here home foreign named now kept = goes_with f' n' (spent home l ∷ without home l.number claims) now
        (adopted (admits p) (lies_in p) (fits p) me.0 shard turn.leased turn.differ bounded f f' claims l nodes seen turn.may_return low fit whole opened home
        (subst (λ (h : ShardHold W). home ≢ h.shard) (sym is) foreign) (subst (λ (h : ShardHold W). Contains h.leases (unspent home l)) (sym is) named) kept)

  -- then it is spent, and the others are as before
  pub spends_here : (home : ℕ) (l : Lease W) (n' : Naming) → Contains t.leases (unspent home l) → after n' ≡ spent home l ∷ without home l.number claims → Spends t.leases home l (after n')
  spends_here home l n' named now =
      subst (λ (h : ShardHold W). Spends h.leases home l (after n')) is
      (subst (Spends claims home l) (sym now) (
        without home l.number claims,
        parted claims (unspent home l) (subst (λ (h : ShardHold W). Contains h.leases (unspent home l)) (sym is) named)
            (differ_now (admits p) (lies_in p) (fits p) me.0 shard turn.leased turn.differ f claims turn.may_return),
        refl,
      ))
