-- Being connected is an equivalence of black places.
use Rattle.std.proofs.Common.{List, [], ◌∷◌, ◌++◌, refl, sym, subst}
use Rattle.page_runs.specs.Page.{Page}
use Rattle.components.specs.declared.place.Place.{Place}
use Rattle.components.specs.Connected.{IsBlack, AreNeighbours, IsPath, IsConnected}

pub near_back : (p q : Place) → AreNeighbours p q → AreNeighbours q p
near_back p q near = record { left = near.right; right = near.left; above = near.below; below = near.above }

pub connected_itself : (page : Page) (p : Place) → IsBlack page p → IsConnected page p p
connected_itself page p black = record { from = black; path = []; leads = refl }

pub one_step_path : (page : Page) (p q : Place) → IsBlack page p → IsBlack page q → AreNeighbours p q → IsConnected page p q
one_step_path page p q black next near = record { from = black; path = q ∷ []; leads = (near, next, refl) }

paths_joined : (page : Page) (p : Place) (path : List Place) (q : Place) (more : List Place) (r : Place) → IsPath page p path q → IsPath page q more r → IsPath page p (path ++ more) r
paths_joined page p [] q more r leads on = subst (λ (s : Place). IsPath page s more r) (sym leads) on
paths_joined page p (s ∷ path) q more r leads on = (leads.0, leads.1, paths_joined page s path q more r leads.2 on)

pub onwards : (page : Page) (p q r : Place) → IsConnected page p q → IsConnected page q r → IsConnected page p r
onwards page p q r first second = record {
  from = first.from;
  path = first.path ++ second.path;
  leads = paths_joined page p first.path q second.path r first.leads second.leads;
}

backwards : (page : Page) (p : Place) (path : List Place) (q : Place) → IsBlack page p → IsPath page p path q → IsConnected page q p
backwards page p [] q black leads = subst (λ (s : Place). IsConnected page s p) leads (connected_itself page p black)
backwards page p (s ∷ path) q black leads =
    onwards page q s p (backwards page s path q leads.1 leads.2) (one_step_path page s p leads.1 black (near_back p s leads.0))

pub connected_back : (page : Page) (p q : Place) → IsConnected page p q → IsConnected page q p
connected_back page p q c = backwards page p c.path q c.from c.leads

-- the last place is black
pub end_is_black : (page : Page) (p q : Place) → IsConnected page p q → IsBlack page q
end_is_black page p q c = (connected_back page p q c).from

-- a set of places that is never left on the way
ends_inside : (page : Page) (S : Place → Type 0) (start : Place) → ((p q : Place) → IsConnected page start p → S p → IsBlack page q → AreNeighbours p q → S q)
    → (p : Place) (path : List Place) (q : Place) → IsConnected page start p → S p → IsPath page p path q → S q
ends_inside page S start stays p [] q to inside leads = subst S leads inside
ends_inside page S start stays p (s ∷ path) q to inside leads =
    ends_inside page S start stays s path q (onwards page start p s to (one_step_path page p s (end_is_black page start p to) leads.1 leads.0)) (stays p s to inside leads.1 leads.0) leads.2

-- what holds at a place and spreads from each connected place to its black neighbours holds in the whole component
pub spreads : (page : Page) (S : Place → Type 0) (start : Place) → S start
    → ((p q : Place) → IsConnected page start p → S p → IsBlack page q → AreNeighbours p q → S q)
    → (q : Place) → IsConnected page start q → S q
spreads page S start inside stays q c = ends_inside page S start stays start c.path q (connected_itself page start c.from) inside c.leads
