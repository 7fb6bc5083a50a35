-- Pages with the same black places have the same kept components.
use Rattle.std.proofs.Common.{◌<◌, List, [], ◌∷◌, sym, ◌∙◌, arith}
use Rattle.std.specs.Prelude.{Any}
use Rattle.std.specs.List.{AllZip}
use Rattle.page_runs.specs.Page.{Page}
use Rattle.page_runs.specs.Packed.{Packed, page_of, Holds}
use Rattle.layout_geom.specs.declared.rect.Rect.{Rect}
use Rattle.components.specs.declared.place.Place.{Place}
use Rattle.components.specs.Connected.{IsBlack, IsPath, IsConnected}
use Rattle.components.specs.Boxes.{IsBoxOf, IsKept}
use Rattle.components.specs.Kept.{IsKeptBoxes}

-- the black places of the one page are black on the other
abbrev AreBlackOn : Page → Page → Type 0
AreBlackOn page other = (p : Place) → IsBlack page p → IsBlack other p

path_moves : (page other : Page) → AreBlackOn page other → (p : Place) (path : List Place) (r : Place) → IsPath page p path r → IsPath other p path r
path_moves page other to p [] r leads = leads
path_moves page other to p (q ∷ path) r leads = (leads.0, to q leads.1, path_moves page other to q path r leads.2)

connected_moves : (page other : Page) → AreBlackOn page other → (p r : Place) → IsConnected page p r → IsConnected other p r
connected_moves page other to p r c = record { from = to p c.from; path = c.path; leads = path_moves page other to p c.path r c.leads }

box_moves : (page other : Page) → AreBlackOn page other → AreBlackOn other page → (p : Place) (box : Rect) → IsBoxOf page p box → IsBoxOf other p box
box_moves page other to from p box is = record {
  round = λ q c. is.round q (connected_moves other page from p q c);
  least = λ rect holds. is.least rect (λ q c. holds q (connected_moves page other to p q c));
}

kept_moves : (page other : Page) → AreBlackOn page other → AreBlackOn other page → (p : Place) (box : Rect) → IsKept page p box → IsKept other p box
kept_moves page other to from p box kept = record { black = to p kept.black; is_box = box_moves page other to from p box kept.is_box; large = kept.large }

zip_weaker : {A B : Type 0} (R S : A → B → Type 0) → ((a : A) (b : B) → R a b → S a b) → (xs : List A) (ys : List B) → AllZip R xs ys → AllZip S xs ys
zip_weaker R S weaker [] [] zip = tt
zip_weaker R S weaker [] (y ∷ ys) zip = absurd zip
zip_weaker R S weaker (x ∷ xs) [] zip = absurd zip
zip_weaker R S weaker (x ∷ xs) (y ∷ ys) zip = (weaker x y zip.0, zip_weaker R S weaker xs ys zip.1)

any_weaker : (P Q : Place → Type 0) → ((p : Place) → P p → Q p) → (places : List Place) → Any P places → Any Q places
any_weaker P Q weaker places any = (any.0, any.1, any.2, any.3, weaker any.1 any.4)

boxes_move : (page other : Page) → AreBlackOn page other → AreBlackOn other page → (boxes : List Rect) → IsKeptBoxes page boxes → IsKeptBoxes other boxes
boxes_move page other to from boxes kept = record {
  places = kept.places;
  are_kept = record {
    kept = zip_weaker (IsKept page) (IsKept other) (kept_moves page other to from) kept.places boxes kept.are_kept.kept;
    apart = λ i j d less below c. kept.are_kept.apart i j d less below (connected_moves other page from _ _ c);
    every = λ p box is. any_weaker (IsConnected page p) (IsConnected other p) (connected_moves page other to p) kept.places (kept.are_kept.every p box (kept_moves other page from to p box is));
  };
}

-- the two pages of a held page
to_held : (packed : Packed) (held : Page) → Holds packed held → AreBlackOn (page_of packed) held
to_held packed held holds p black =
    let in_row : p.x < held.width = omega (arith, black.in_row, holds.width_is) in
    let in_column : p.y < held.height = omega (arith, black.in_column, holds.height_is) in
    record { in_row = in_row; in_column = in_column; black = sym (holds.same p.x p.y in_row in_column) ∙ black.black }

from_held : (packed : Packed) (held : Page) → Holds packed held → AreBlackOn held (page_of packed)
from_held packed held holds p black = record {
  in_row = omega (arith, black.in_row, holds.width_is);
  in_column = omega (arith, black.in_column, holds.height_is);
  black = holds.same p.x p.y black.in_row black.in_column ∙ black.black;
}

pub boxes_held : (packed : Packed) (held : Page) → Holds packed held → (boxes : List Rect) → IsKeptBoxes (page_of packed) boxes → IsKeptBoxes held boxes
boxes_held packed held holds = boxes_move (page_of packed) held (to_held packed held holds) (from_held packed held holds)
