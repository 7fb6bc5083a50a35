-- The layout of a page can be written, and those of the pages of an input together.
use Rattle.std.proofs.Common.{◌≡◌, ℕ, zero, suc, ◌+◌, ◌*◌, ◌<◌, ◌≤◌, eqb, Bool, List, [], ◌∷◌, length, map, get_or, Option, None, Some, sym, ◌∙◌, ap, subst, inl, inr, arith}
use Rattle.std.specs.Prelude.{All}
use Rattle.std.specs.List.{range_with_len, slice_get, IsDistinct}
use Rattle.std.specs.List.Sorted.{IsPermutation}
use Rattle.std.proofs.lemmas.List.{length-map}
use Rattle.std.proofs.lemmas.List.FromFn.{get_or-range_with_len, length-range_with_len}
use Rattle.std.proofs.lemmas.List.Sorted.{All-permutation, length_permutation}
use Rattle.std.proofs.lemmas.List.Elements.{All-nil, All-cons}
use Rattle.std.proofs.lemmas.Bool.{false≢true, eq-eqb, ne_eqb}
use Rattle.std.proofs.lemmas.Bool.Decides.{nat_tests}
use Rattle.std.proofs.lemmas.Map.Keys.{IsDistinct-from_apart, IsDistinct-IsPermutation, apart_from_distinct}
use Rattle.page_runs.specs.Page.{Page}
use Rattle.pbm_reader.specs.Images.{SpellsPages}
use Rattle.layout_geom.specs.declared.rect.Rect.{Rect}
use Rattle.layout_geom.specs.declared.area.Area.{Area}
use Rattle.layout_geom.specs.declared.order.Order.{Order}
use Rattle.layout_geom.specs.declared.order.Order.TheVariants.{Topological, Cycle}
use Rattle.reading_order.specs.Answers.{IsReadingOrder}
use Rattle.reading_order.specs.Areas.{AreAreasFrom}
use Rattle.hocr_writer.specs.declared.layout.Layout.{Layout}
use Rattle.hocr_writer.specs.Listing.{listing, HasEachOnce, NamesLines, SplitListing, HasWords, IsWholeLayout, AreWholeLayouts}
use Rattle.command_words.specs.declared.plan.Plan.{Plan}
use Rattle.layout_core.specs.Numbering.{box_of, mark_of}
use Rattle.layout_core.specs.Layouts.{IsLayoutAs, AreLayouts, AreLayoutsFrom}
use Rattle.layout_core.proofs.Inside.{numbered_on_grid}
use Rattle.layout_core.proofs.Members.{rows_long}

-- the numbers below a count differ
rising_distinct : (count : ℕ) → IsDistinct eqb (range_with_len 0 count)
rising_distinct count =
    IsDistinct-from_apart eqb (range_with_len 0 count)
    (λ i j d less within.
    let size = length-range_with_len 0 count in
    ne_eqb _ _ (λ e. absurd (omega (arith, e, less, get_or-range_with_len 0 count i d (omega arith), get_or-range_with_len 0 count j d (omega arith)))))

eqb_flips : (x y : ℕ) → eqb x y ≡ eqb y x
eqb_flips x y = grind (arith, nat_tests)

-- a rearrangement of the numbers below a count has each once
each_once : (count : ℕ) (numbers : List ℕ) → IsPermutation (range_with_len 0 count) numbers → HasEachOnce count numbers
each_once count numbers whole =
    let long : length numbers ≡ count = omega (arith, length_permutation (range_with_len 0 count) numbers whole, length-range_with_len 0 count) in
    record {
      long = long;
      below = All-permutation (λ k. k < count) (range_with_len 0 count) numbers whole
          (λ k d within. omega (arith, within, length-range_with_len 0 count, get_or-range_with_len 0 count k d (omega (arith, within, length-range_with_len 0 count))));
      apart = λ i j less within same.
          let distinct = IsDistinct-IsPermutation eqb eqb_flips (range_with_len 0 count) numbers whole (rising_distinct count) in
          false≢true (sym (apart_from_distinct eqb numbers i j 0 distinct less within) ∙ eq-eqb (get_or numbers i 0) (get_or numbers j 0) same);
    }

names : (lines : List Rect) (order : Order) → IsReadingOrder lines order → NamesLines order (length lines)
names lines (Topological order) is = each_once (length lines) order is.is_order.whole
names lines (Cycle cycle) is = is.0.is_cycle.within

listing_long : (order : Order) (count : ℕ) → NamesLines order count → length (listing order count) ≡ count
listing_long (Topological order) count named = named.long
listing_long (Cycle cycle) count named = length-range_with_len 0 count

split : (lines : List Rect) (listed : List ℕ) (reach from : ℕ) (areas : List Area) → AreAreasFrom lines listed reach from areas → SplitListing from (length listed) areas
split lines listed reach from [] are = are
split lines listed reach from (area ∷ areas) are = (are.0.starts, split lines listed reach (from + area.count) areas are.1)

pub whole_layout : (number : ℕ) (plan : Plan) (page : Page) (layout : Layout) → IsLayoutAs number plan page layout → IsWholeLayout layout
whole_layout number plan page layout is =
    let high : page.height ≤ 8192 = omega (arith, is.sides.bottom, is.whole.sides.bottom) in
    let boxes = map box_of layout.lines in
    let size : length boxes ≡ length layout.lines = length-map layout.lines box_of in
    let P : ℕ → Type 0 = λ count. NamesLines layout.order count in
    let named : NamesLines layout.order (length layout.lines) = subst P size (names boxes layout.order is.order_is) in
    let Q : ℕ → Type 0 = λ end. SplitListing 0 end layout.areas in
    record {
      order = named;
      areas = subst Q (listing_long layout.order (length layout.lines) named) (split boxes (listing layout.order (length layout.lines)) (2 * is.kept.median) 0 layout.areas is.areas_are);
      words = subst (λ (shown : Bool). HasWords shown (length layout.lines) layout.words) (sym is.with_words_is)
          (subst (λ (count : ℕ). HasWords plan.words count layout.words) (sym (ap length is.numbered.shown ∙ length-map is.numbered.numbered mark_of)) (rows_long plan.words is.kept is.numbered.numbered layout.words is.words_are));
      marks = numbered_on_grid is.kept.boxes layout.gutters page.height is.kept.median high _ is.found layout.lines is.are_lines is.numbered;
    }

-- ---- the layouts of an input

each_whole : (number : ℕ) (plan : Plan) (pages : List Page) (layouts : List Layout) → AreLayoutsFrom number plan pages layouts → All IsWholeLayout layouts
each_whole number plan [] [] are = All-nil IsWholeLayout
each_whole number plan [] (layout ∷ layouts) are = absurd are
each_whole number plan (page ∷ pages) [] are = absurd are
each_whole number plan (page ∷ pages) (layout ∷ layouts) are =
    All-cons IsWholeLayout layout layouts (whole_layout number plan page layout are.0) (each_whole (number + 1) plan pages layouts are.1)

none_there : (layout : Layout) → (let o : Option Layout = None in o) ≡ Some layout → ⊥
none_there layout e = cc

one_there : (l m : Layout) → (let o : Option Layout = Some l in o) ≡ Some m → l ≡ m
one_there l m e = cc

numbered_from : (number : ℕ) (plan : Plan) (pages : List Page) (layouts : List Layout) → AreLayoutsFrom number plan pages layouts → (place : ℕ) (layout : Layout) → slice_get layouts place ≡ Some layout
    → layout.page ≡ number + place
numbered_from number plan [] [] are place layout at = absurd (none_there layout at)
numbered_from number plan [] (l ∷ layouts) are place layout at = absurd are
numbered_from number plan (page ∷ pages) [] are place layout at = absurd are
numbered_from number plan (page ∷ pages) (l ∷ layouts) are zero layout at =
    let P : Layout → Type 0 = λ m. m.page ≡ number + 0 in
    subst P (one_there l layout at) (omega (arith, are.0.number_is))
numbered_from number plan (page ∷ pages) (l ∷ layouts) are (suc place) layout at =
    omega (arith, numbered_from (number + 1) plan pages layouts are.1 place layout at)

some_layout : (plan : Plan) (pages : List Page) (layouts : List Layout) → AreLayouts plan pages layouts → 0 < length pages → layouts ≡ [] → ⊥
some_layout plan [] layouts are some none = omega (arith, some)
some_layout plan (page ∷ pages) [] are some none = are
some_layout plan (page ∷ pages) (l ∷ layouts) are some none = omega (arith, ap length none)

all_alike : (number : ℕ) (plan : Plan) (pages : List Page) (layouts : List Layout) → AreLayoutsFrom number plan pages layouts → All (λ (layout : Layout). layout.with_words ≡ plan.words) layouts
all_alike number plan [] [] are = All-nil (λ (layout : Layout). layout.with_words ≡ plan.words)
all_alike number plan [] (layout ∷ layouts) are = absurd are
all_alike number plan (page ∷ pages) [] are = absurd are
all_alike number plan (page ∷ pages) (layout ∷ layouts) are =
    All-cons (λ (layout : Layout). layout.with_words ≡ plan.words) layout layouts are.0.with_words_is (all_alike (number + 1) plan pages layouts are.1)

-- the layouts of some pages can be written in one document
pub whole_layouts : (plan : Plan) (pages : List Page) (layouts : List Layout) → AreLayouts plan pages layouts → 0 < length pages → AreWholeLayouts layouts
whole_layouts plan pages layouts are some =
    record {
      some = some_layout plan pages layouts are some;
      whole = each_whole 0 plan pages layouts are;
      with_words = plan.words;
      alike = all_alike 0 plan pages layouts are;
      numbered = λ place layout at. omega (arith, numbered_from 0 plan pages layouts are place layout at);
    }

-- an input spells one page at least
pub some_page : (input : List ℕ) (pages : List Page) → SpellsPages input pages → 0 < length pages
some_page input pages (inl s) = omega (arith, ap length s.1)
some_page input pages (inr s) = s.some
