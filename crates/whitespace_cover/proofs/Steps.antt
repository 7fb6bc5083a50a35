-- The root and the steps of the search meet the laws of a space.
use Rattle.std.proofs.Common.{◌≡◌, ℕ, ◌-◌, ◌<◌, List, [], ◌∷◌, length, get_or, refl, pos, Option, All, Any, Contains, map, arith, ap, sym, ◌∙◌, subst}
use Rattle.std.specs.List.{AllZip}
use Rattle.std.proofs.lemmas.Int.{ints}
use lib.IntN.{◌-ℤ◌}
use Rattle.std.proofs.lemmas.List.{length-map}
use Rattle.std.proofs.lemmas.List.Elements.{All-contains, All-head, All-tail}
use Rattle.layout_geom.specs.declared.rect.Rect.{Rect}
use Rattle.layout_geom.specs.Rectangles.{area_of, Encloses, Overlaps, IsCut, IsClear}
use Rattle.layout_geom.specs.Keys.{rect_key}
use Rattle.layout_geom.specs.KeyLaws.{same_key, no_greater_key}
use Rattle.box_search.specs.declared.space.Shape.{Shape}
use Rattle.box_search.specs.declared.space.Node.{Node}
use Rattle.box_search.specs.Shapes.{size, range_length, at_least_zero}
use Rattle.box_search.specs.Problems.{on_numbers, of_numbers}
use Rattle.box_search.specs.Search.{AdmitsNone, IsRoot, Settles, Splits}
use Rattle.whitespace_cover.specs.declared.region.Region.{Region}
use Rattle.whitespace_cover.specs.Admissible.{IsRoomy}
use Rattle.whitespace_cover.specs.Masks.{IsMask}
use Rattle.whitespace_cover.specs.Problem.{WhiteProblem, white_numbers, HasRectOfKey, IsWhiteKey}
use Rattle.whitespace_cover.specs.Regions.{shape_of, IsRectWithin, RectLiesIn, IsNodeOf, IsRectNode, IsWhiteNode, FitsWhite, roomy_parts}
use Rattle.whitespace_cover.specs.WhiteLaws.{same_white_problem, enclosed, within_shape}
use Rattle.whitespace_cover.proofs.Cutting.{IsSmaller, IsFourSmaller, cut_smaller, kept_all, few_kept}
use Rattle.whitespace_cover.proofs.Masking.{mask_inside}
use Rattle.whitespace_cover.proofs.Mapped.{All-of_map}

abbrev pub rect_of : Node Region → Rect
rect_of node = node.work.rect

encloses_itself : (r : Rect) → Encloses r r
encloses_itself r = record { left = omega arith; top = omega arith; right = omega arith; bottom = omega arith }

range_between : (a b : ℕ) → a < b → range_length (pos a) (pos b) ≡ b - a
range_between a b h =
    let e : pos b -ℤ pos a ≡ pos (b - a) = omega (arith, ints) in
    ap at_least_zero e

-- the size of a rectangle's shape is its area
size_of_shape : (r : Rect) → size (shape_of r) ≡ area_of r
unfolding size
size_of_shape r = rw (range_between r.x0 r.x1 r.sides.wide, range_between r.y0 r.y1 r.sides.high) (omega arith)

-- the nodes are those of their rectangles
pub outlines_of : (nodes : List (Node Region)) → All IsRectNode nodes → AllZip IsNodeOf (map rect_of nodes) nodes
outlines_of [] all = tt
outlines_of (node ∷ nodes) all = (All-head IsRectNode node nodes all, outlines_of nodes (All-tail IsRectNode node nodes all))

module _ (p : WhiteProblem) where
  abbrev Admits : ℕ → Type 0
  Admits key = IsWhiteKey (white_numbers p) key

  abbrev Fits : Node Region → Type 0
  Fits node = FitsWhite (white_numbers p) node

  pub root_is : (node : Node Region) → node.work.rect ≡ p.page → IsNodeOf node.work.rect node → IsMask p.obstacles node.work.rect node.work.mask → IsRoomy p.least p.page → IsRoot Admits RectLiesIn Fits node
  root_is node whole outline mask roomy = record {
    fitting = on_numbers white_numbers (IsWhiteNode node) p (record {
      outline = outline;
      inside = subst (λ (r : Rect). Encloses p.page r) (sym whole) (encloses_itself p.page);
      roomy = subst (λ (r : Rect). IsRoomy p.least r) (sym whole) roomy;
      mask = mask;
    });
    covering = λ key admitted.
        let has : HasRectOfKey key p = of_numbers white_numbers same_white_problem (HasRectOfKey key) p admitted in
        record {
          rect = has.rect;
          has_key = has.has_key;
          within = subst (λ (s : Shape). IsRectWithin s has.rect) (sym (outline.shape ∙ ap shape_of whole)) (within_shape p.page has.rect has.admissible.inside);
        };
  }

  pub none_is : (IsRoomy p.least p.page → ⊥) → AdmitsNone Admits
  none_is small = λ key admitted.
      let has : HasRectOfKey key p = of_numbers white_numbers same_white_problem (HasRectOfKey key) p admitted in
      small (record {
        wide = omega (arith, has.admissible.roomy.wide, has.admissible.inside.left, has.admissible.inside.right);
        high = omega (arith, has.admissible.roomy.high, has.admissible.inside.top, has.admissible.inside.bottom);
      })

  pub settles_is : (node : Node Region) → IsWhiteNode node p → IsClear node.work.rect p.obstacles → Settles Admits RectLiesIn Fits node node.bound
  settles_is node fit clear = record {
    admitted = on_numbers white_numbers (HasRectOfKey node.bound) p (record {
      rect = node.work.rect;
      has_key = sym fit.outline.bound;
      admissible = record { inside = fit.inside; clear = clear; roomy = fit.roomy };
    });
    inside = record {
      rect = node.work.rect;
      has_key = sym fit.outline.bound;
      within = subst (λ (s : Shape). IsRectWithin s node.work.rect) (sym fit.outline.shape) (within_shape node.work.rect node.work.rect (encloses_itself node.work.rect));
    };
    is_bound = refl;
  }

  -- a part that is kept: smaller, and at least of the least size
  record IsKeptPart (r q : Rect) : Type 0 where
    pub part : IsSmaller r q
    pub roomy : IsRoomy p.least q

  kept_nodes : (r pivot : Rect) (parts : List (Option Rect)) (nodes : List (Node Region)) → Overlaps r pivot → IsCut r pivot parts → map rect_of nodes ≡ roomy_parts p.least parts → All (λ node. IsKeptPart r node.work.rect) nodes
  kept_nodes r pivot parts nodes meets cut rects =
      All-of_map rect_of (IsKeptPart r) nodes
      (subst (λ (rs : List Rect). All (IsKeptPart r) rs) (sym rects)
      (kept_all p.least (IsKeptPart r) (IsSmaller r) (λ q part roomy. record { part = part; roomy = roomy }) parts (cut_smaller r pivot meets parts cut).smaller))

  fits_in : (r : Rect) (mask : ℕ) (node : Node Region) → Encloses p.page r → IsMask p.obstacles r mask → IsKeptPart r node.work.rect → IsRectNode node → node.work.mask ≡ mask → Fits node
  fits_in r mask node inside masked kept outline same = on_numbers white_numbers (IsWhiteNode node) p (record {
    outline = outline;
    inside = record {
      left = omega (arith, inside.left, kept.part.inside.left);
      top = omega (arith, inside.top, kept.part.inside.top);
      right = omega (arith, inside.right, kept.part.inside.right);
      bottom = omega (arith, inside.bottom, kept.part.inside.bottom);
    };
    roomy = kept.roomy;
    mask = subst (λ (m : ℕ). IsMask p.obstacles node.work.rect m) (sym same) (mask_inside p.obstacles r node.work.rect mask kept.part.inside masked);
  })

  found : (key : ℕ) (r : Rect) → rect_key r ≡ key → (nodes : List (Node Region)) → All IsRectNode nodes → Any (λ node. Encloses node.work.rect r) nodes → Any (λ node. RectLiesIn key node.shape) nodes
  found key r is nodes outlines (k, node, within, at, round) =
      let outline : IsRectNode node = subst IsRectNode at (outlines k node within) in
      (k, node, within, at, record { rect = r; has_key = is; within = subst (λ (s : Shape). IsRectWithin s r) (sym outline.shape) (within_shape node.work.rect r round) })

  -- what the nodes of a split have to be, beside the nodes of the parts
  abbrev pub Covers : Rect → Rect → List (Node Region) → Type 0
  Covers r pivot nodes = (inner : Rect) → Encloses r inner → (Overlaps inner pivot → ⊥) → IsRoomy p.least inner → Any (λ node. Encloses node.work.rect inner) nodes

  covers_key : (node : Node Region) (pivot : Rect) (nodes : List (Node Region)) → IsWhiteNode node p → Contains p.obstacles pivot → All IsRectNode nodes → Covers node.work.rect pivot nodes → (key : ℕ) → Admits key → RectLiesIn key node.shape → Any (λ part. RectLiesIn key part.shape) nodes
  covers_key node pivot nodes fit there outlines covers key admitted lies =
      let has : HasRectOfKey key p = of_numbers white_numbers same_white_problem (HasRectOfKey key) p admitted in
      let one : lies.rect ≡ has.rect = same_key lies.rect has.rect (lies.has_key ∙ sym has.has_key) in
      let inside : Encloses node.work.rect lies.rect = enclosed node.work.rect lies.rect (subst (λ (s : Shape). IsRectWithin s lies.rect) fit.outline.shape lies.within) in
      found key has.rect has.has_key nodes outlines
      (covers has.rect (subst (λ (q : Rect). Encloses node.work.rect q) one inside)
      (All-contains (λ box. Overlaps has.rect box → ⊥) p.obstacles pivot has.admissible.clear there) has.admissible.roomy)

  pub splits_is : (node : Node Region) (pivot : Rect) (parts : List (Option Rect)) (nodes : List (Node Region)) (mask : ℕ) → IsWhiteNode node p → IsMask p.obstacles node.work.rect mask → Contains p.obstacles pivot → Overlaps node.work.rect pivot → IsCut node.work.rect pivot parts → map rect_of nodes ≡ roomy_parts p.least parts → All IsRectNode nodes → All (λ part. part.work.mask ≡ mask) nodes → Covers node.work.rect pivot nodes → Splits Admits RectLiesIn Fits node nodes
  splits_is node pivot parts nodes mask fit masked there meets cut rects outlines masks covers =
      let r : Rect = node.work.rect in
      let four : IsFourSmaller r parts = cut_smaller r pivot meets parts cut in
      let kept : All (λ part. IsKeptPart r part.work.rect) nodes = kept_nodes r pivot parts nodes meets cut rects in
      record {
        few = omega (arith, few_kept p.least parts, four.four, ap length rects, length-map nodes rect_of);
        fitting = λ k d within. fits_in r mask (get_or nodes k d) fit.inside masked (kept k d within) (outlines k d within) (masks k d within);
        smaller = λ k d within.
            let part : Node Region = get_or nodes k d in
            let less : area_of part.work.rect < area_of r = (kept k d within).part.smaller in
            omega (arith, less, ap size (outlines k d within).shape, size_of_shape part.work.rect, ap size fit.outline.shape, size_of_shape r);
        bounded = λ k d within.
            let part : Node Region = get_or nodes k d in
            omega (arith, (outlines k d within).bound, fit.outline.bound, no_greater_key r part.work.rect (kept k d within).part.inside);
        covering = λ key admitted lies. covers_key node pivot nodes fit there outlines covers key admitted lies;
      }
