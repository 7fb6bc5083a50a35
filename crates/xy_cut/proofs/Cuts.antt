-- Cells from what the code knows of a cut.
use Rattle.std.proofs.Common.{◌≡◌, ℕ, ◌<◌, ◌↔◌, ◌∙◌, Bool, false, IsTrue, refl, List, [], ◌∷◌, ◌++◌, Option, Some, None, All, length, arith, sym, subst, inr}
use Rattle.std.proofs.lemmas.Bool.{false≢true}
use Rattle.std.proofs.lemmas.List.Elements.{All-filter}
use Rattle.layout_geom.specs.declared.rect.Rect.{Rect}
use Rattle.xy_cut.specs.declared.band.Band.{Band}
use Rattle.xy_cut.specs.declared.cell.Cell.{Cell}
use Rattle.xy_cut.specs.declared.cell.Side.{Side}
use Rattle.xy_cut.specs.declared.cell.Side.TheVariants.{Before, After}
use Rattle.xy_cut.specs.declared.cell.TheConstants.{MAX_CUTS}
use Rattle.xy_cut.specs.Bands.{is_on, part_of}
use Rattle.xy_cut.specs.Widest.{IsBestOf}
use Rattle.xy_cut.specs.Cells.{IsCellOf, AreWhole, IsCut, IsUncut, IsCutOf, AreCells, Parted}

pub whole_none : (path : List Side) (boxes : List Rect) (cells : List Cell) → boxes ≡ [] → cells ≡ [] → AreWhole path boxes cells
whole_none path [] cells none empty = empty
whole_none path (box ∷ boxes) cells none empty = absurd (cc)

pub whole_some : (path : List Side) (boxes : List Rect) (cells : List Cell) (cell : Cell) → 0 < length boxes → cells ≡ cell ∷ [] → IsCellOf path boxes cell → AreWhole path boxes cells
whole_some path [] cells cell some one is = absurd (omega (arith, some))
whole_some path (box ∷ boxes) cells cell some one is = (cell, one, is)

pub not_empty : (boxes : List Rect) (test : Bool) → (IsTrue test ↔ (boxes ≡ [])) → test ≡ false → 0 < length boxes
not_empty [] test is e = absurd (false≢true (sym e ∙ is.1 refl))
not_empty (box ∷ boxes) test is e = omega arith

-- the best band is the cut of a path that is not full
pub cut_at_best : (least : ℕ) (path : List Side) (boxes : List Rect) (best : Option Band) → length path < MAX_CUTS → IsBestOf boxes least best → IsCutOf least path boxes best
cut_at_best least path boxes (Some band) short is = record { short = short; best = is }
cut_at_best least path boxes None short is = inr is

pub uncut_of : (least : ℕ) (path : List Side) (boxes : List Rect) (cut : Option Band) → ((band : Band) → cut ≡ Some band → ⊥) → IsCutOf least path boxes cut → IsUncut least path boxes
uncut_of least path boxes (Some band) never is = absurd (never band refl)
uncut_of least path boxes None never is = is

-- no box has no band
pub uncut_none : (least : ℕ) (path : List Side) (boxes : List Rect) → boxes ≡ [] → IsUncut least path boxes
uncut_none least path [] none = inr (λ band is. omega (arith, is.ends.2))
uncut_none least path (box ∷ boxes) none = absurd (cc)

-- what holds of all boxes holds of those on a side
pub part_within : (P : Rect → Type 0) (boxes part : List Rect) (band : Band) (side : Side) → part ≡ part_of band side boxes → All P boxes → All P part
part_within P boxes part band side is all = subst (All P) (sym is) (All-filter (is_on band side) P boxes all)

-- the cells of both sides
pub parted : (least : ℕ) (path way other_way : List Side) (boxes before after : List Rect) (band : Band) (cells others all : List Cell)
    → IsCut least path boxes band → before ≡ part_of band Before boxes → after ≡ part_of band After boxes
    → way ≡ path ++ Before ∷ [] → other_way ≡ path ++ After ∷ [] → AreCells least way before cells → AreCells least other_way after others
    → all ≡ cells ++ others → AreCells least path boxes all
parted least path way other_way boxes before after band cells others all cut left right one other first second is =
    let on_left : AreCells least (path ++ Before ∷ []) (part_of band Before boxes) cells =
    subst (λ (w : List Side). AreCells least w (part_of band Before boxes) cells) one (subst (λ (b : List Rect). AreCells least way b cells) left first) in
    let on_right : AreCells least (path ++ After ∷ []) (part_of band After boxes) others =
    subst (λ (w : List Side). AreCells least w (part_of band After boxes) others) other (subst (λ (b : List Rect). AreCells least other_way b others) right second) in
    subst (AreCells least path boxes) (sym is) (Parted path boxes band cells others cut on_left on_right)
