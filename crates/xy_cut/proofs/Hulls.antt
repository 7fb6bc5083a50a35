-- The least rectangle round boxes, with one box more.
use Rattle.std.proofs.Common.{List, [], ◌∷◌, ◌++◌, arith}
use Rattle.std.proofs.lemmas.List.Elements.{All-push, All-weaker}
use Rattle.layout_geom.specs.declared.rect.Rect.{Rect}
use Rattle.layout_geom.specs.Rectangles.{Encloses}
use Rattle.layout_geom.specs.PixelLaws.{has_pixels_of, encloses}
use Rattle.xy_cut.specs.Cells.{IsHullOf}
use Rattle.xy_cut.proofs.Lists.{all_left, all_last}

pub hull_one : (r : Rect) → IsHullOf (r ∷ []) r
hull_one r = record {
  round = All-push (Encloses r) [] r (λ k d low. absurd (omega (arith, low))) (encloses r r (λ x y has. has));
  least = λ other all. all_last (Encloses other) [] r all;
}

pub hull_more : (xs : List Rect) (y r hull : Rect) → Encloses hull r → Encloses hull y
    → ((outer : Rect) → Encloses outer r → Encloses outer y → Encloses outer hull) → IsHullOf xs r → IsHullOf (xs ++ y ∷ []) hull
hull_more xs y r hull has_first has_next small is = record {
  round = All-push (Encloses hull) xs y
      (All-weaker (Encloses r) (Encloses hull) (λ s in_it. encloses hull s (λ x y has. has_pixels_of hull r has_first x y (has_pixels_of r s in_it x y has))) xs is.round) has_next;
  least = λ other all. small other (is.least other (all_left (Encloses other) xs (y ∷ []) all)) (all_last (Encloses other) xs y all);
}
