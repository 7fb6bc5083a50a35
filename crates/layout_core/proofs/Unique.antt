-- A page has one layout, the pages of an input have one list of layouts, and a run one output.
use Rattle.std.proofs.Common.{◌≡◌, ◌∙◌, ℕ, ◌+◌, ◌≤◌, max, Bool, true, false, List, [], ◌∷◌, length, map, Option, None, Some, refl, sym, ap, subst, arith, inl, inr}
use Rattle.std.specs.Prelude.{All}
use Rattle.std.specs.List.{AllZip}
use Rattle.std.proofs.lemmas.List.Elements.{All-nil, All-cons, All-head, All-tail}
use Rattle.std.specs.Ordering.{is_lt}
use Rattle.std.specs.Cmp.{IsStrictWeakOrder, then_total, on_total}
use Rattle.std.proofs.lemmas.Cmp.{nat_cmp_total}
use Rattle.std.proofs.lemmas.List.MinMax.{ranks_by}
use Rattle.std.specs.Io.KnownBytes.{append_known}
use Rattle.packed_rows.specs.Page.{HasPicture}
use Rattle.pbm_reader.specs.Page.{Page}
use Rattle.pbm_reader.specs.Spelling.{Spells}
use Rattle.pbm_reader.specs.Images.{AreImages, SpellsPages}
use Rattle.layout_geom.specs.declared.rect.Rect.{Rect}
use Rattle.layout_geom.specs.declared.area.Area.{Area}
use Rattle.layout_geom.specs.declared.order.Order.{Order}
use Rattle.layout_geom.specs.Rectangles.{HasSides, height_of}
use Rattle.layout_geom.specs.SameSides.{same_sides}
use Rattle.components.specs.declared.kept.Kept.{Kept}
use Rattle.components.specs.Kept.{IsKeptOf, IsKeptList, KeptIsUnique}
use Rattle.whitespace_cover.specs.Cover.{IsCover, CoverIsUnique}
use Rattle.gutters.specs.Gutters.{gutters_of}
use Rattle.line_search.specs.declared.line.Line.{Line}
use Rattle.line_search.specs.Lines.{AreLinesOf, LinesAreUnique}
use Rattle.reading_order.specs.Answers.{IsReadingOrder, OrderIsUnique}
use Rattle.reading_order.specs.Areas.{AreAreasOf, AreasAreUnique}
use Rattle.hocr_writer.specs.declared.layout.Layout.{Layout}
use Rattle.hocr_writer.specs.declared.layout.Mark.{Mark}
use Rattle.hocr_writer.specs.Listing.{listing}
use Rattle.hocr_writer.specs.Document.{document_of}
use Rattle.hocr_writer.specs.Summary.{summary_of}
use Rattle.made_page.specs.Made.{made_page}
use Rattle.command_words.specs.declared.plan.Plan.{Plan}
use Rattle.command_words.specs.Plans.{HasPlan}
use Rattle.layout_core.specs.declared.page_layout.TheConstants.{LEAST_SIZE}
use Rattle.layout_core.specs.Numbering.{mark_of, box_of, compare_lines, AreInOrder}
use Rattle.layout_core.specs.Layouts.{IsLayout, IsLayoutAs, AreLayouts, AreLayoutsFrom}
use Rattle.layout_core.specs.Run.{RunAccount, ReadsWhole, IsDocument, IsSummary, IsOutput, WritesOutput}
use Rattle.layout_core.specs.Unique.{AskTheSame, LayoutIsUnique}
use Rattle.word_split.specs.Words.{WordsAreUnique}
use Rattle.xy_cut.specs.declared.cell.Cell.{Cell}
use Rattle.xy_cut.specs.Cells.{CellsAreUnique}
use Rattle.layout_core.specs.ShownCells.{AreShownCells}
use Rattle.run_smear.specs.Smear.{SmearIsUnique}
use Rattle.layout_core.specs.ShownBlocks.{AreShownBlocks}
use Rattle.layout_core.specs.declared.cells.TheConstants.{LEAST_BAND}
use Rattle.layout_core.proofs.Members.{same_words}
use Rattle.layout_core.proofs.Stable.{one_stable_sort}
use Rattle.layout_core.proofs.Limits.{one_median, one_block_smear}
use Rattle.layout_core.proofs.Components.{whole_is}
use Rattle.layout_core.proofs.Planning.{OnePlan}

-- ---- the parts of a layout

-- what the crates below say of their answers
pub record Laws : Type 0 where
  pub kept : KeptIsUnique
  pub cover : CoverIsUnique
  pub lines : LinesAreUnique
  pub order : OrderIsUnique
  pub areas : AreasAreUnique
  pub words : WordsAreUnique
  pub cells : CellsAreUnique
  pub smear : SmearIsUnique

kept_with : List Rect → ℕ → Kept
kept_with boxes median = record { boxes = boxes; median = median }

same_kept : (k l : Kept) → k.boxes ≡ l.boxes → k.median ≡ l.median → k ≡ l
unfolding kept_with
same_kept k l boxes medians = let same : kept_with k.boxes k.median ≡ kept_with l.boxes l.median = cc in same

same_whole : (r s : Rect) (width height : ℕ) → HasSides r 0 0 width height → HasSides s 0 0 width height → r ≡ s
same_whole r s width height is is_too =
    same_sides r s (record { left = is.left ∙ sym is_too.left; top = is.top ∙ sym is_too.top; right = is.right ∙ sym is_too.right; bottom = is.bottom ∙ sym is_too.bottom })

low_enough : (r : Rect) (width height : ℕ) → HasSides r 0 0 width height → height ≤ 8192
low_enough r width height is = omega (arith, is.bottom, r.sides.bottom)

same_cover : CoverIsUnique → (w v : Rect) (bs cs : List Rect) (least low count many : ℕ) (xs ys : List Rect) → w ≡ v → bs ≡ cs → least ≡ low → count ≡ many → IsCover w bs least count xs → IsCover v cs low many ys → xs ≡ ys
same_cover unique w v bs cs least low count many xs ys wholes boxes leasts counts is is_too =
    let here : IsCover v cs low many xs = rw (wholes, boxes, leasts, counts) at is in
    unique v cs low many xs ys here is_too

same_lines : LinesAreUnique → (k l : Kept) (gs hs : List Rect) (height : ℕ) (xs ys : List Line) → height ≤ 8192 → k ≡ l → gs ≡ hs → AreLinesOf k gs height xs → AreLinesOf l hs height ys → xs ≡ ys
same_lines unique k l gs hs height xs ys low kepts gutters is is_too =
    let here : AreLinesOf l hs height xs = subst (λ (g : List Rect). AreLinesOf l g height xs) gutters (subst (λ (j : Kept). AreLinesOf j gs height xs) kepts is) in
    unique l hs height xs ys low here is_too

lines_rank : IsStrictWeakOrder (λ (x y : Line). is_lt (compare_lines x y))
lines_rank =
    ranks_by (then_total (on_total (λ (line : Line). line.bbox.y0 + line.bbox.y1) nat_cmp_total) (on_total (λ (line : Line). line.bbox.x0) nat_cmp_total)) (λ (line : Line). line)

same_numbered : (xs ys ns ms : List Line) → xs ≡ ys → AreInOrder xs ns → AreInOrder ys ms → ns ≡ ms
same_numbered xs ys ns ms found is is_too =
    let here : AreInOrder ys ns = rw found at is in
    one_stable_sort (λ (x y : Line). is_lt (compare_lines x y)) lines_rank ys ns ms here.sorted here.stable is_too.sorted is_too.stable

same_order : OrderIsUnique → (ms ns : List Mark) (o p : Order) → ms ≡ ns → IsReadingOrder (map box_of ms) o → IsReadingOrder (map box_of ns) p → o ≡ p
same_order unique ms ns o p marks is is_too =
    unique (map box_of ns) o p (subst (λ (l : List Mark). IsReadingOrder (map box_of l) o) marks is) is_too

same_areas : AreasAreUnique → (ms ns : List Mark) (o p : Order) (median middle : ℕ) (xs ys : List Area) → ms ≡ ns → o ≡ p → median ≡ middle → AreAreasOf (map box_of ms) (listing o (length ms)) median xs → AreAreasOf (map box_of ns) (listing p (length ns)) middle ys → xs ≡ ys
same_areas unique ms ns o p median middle xs ys marks orders medians is is_too =
    let here : AreAreasOf (map box_of ns) (listing o (length ns)) median xs = subst (λ (l : List Mark). AreAreasOf (map box_of l) (listing o (length l)) median xs) marks is in
    let there : AreAreasOf (map box_of ns) (listing p (length ns)) median xs = subst (λ (q : Order). AreAreasOf (map box_of ns) (listing q (length ns)) median xs) orders here in
    unique (map box_of ns) (listing p (length ns)) middle xs ys (subst (λ (m : ℕ). AreAreasOf (map box_of ns) (listing p (length ns)) m xs) medians there) is_too

same_gutters : (k l : Kept) (ws vs gs hs : List Rect) → k ≡ l → ws ≡ vs → gs ≡ gutters_of k ws → hs ≡ gutters_of l vs → gs ≡ hs
same_gutters k l ws vs gs hs kepts whites is is_too = cc (kepts, whites, is, is_too)

same_cells : CellsAreUnique → (shown shown_too : Bool) (k l : Kept) (xs ys : List Cell) → shown ≡ shown_too → k ≡ l → AreShownCells shown k xs → AreShownCells shown_too l ys → xs ≡ ys
same_cells unique shown shown_too k l xs ys flags kepts is is_too = there shown_too (subst (λ (flag : Bool). AreShownCells flag l xs) flags (subst (λ (kept : Kept). AreShownCells shown kept xs) kepts is)) is_too
  where
    there : (flag : Bool) → AreShownCells flag l xs → AreShownCells flag l ys → xs ≡ ys
    there true are are_too = unique (max l.median LEAST_BAND) [] l.boxes xs ys are are_too
    there false none none_too = none ∙ sym none_too

same_blocks : KeptIsUnique → SmearIsUnique → (shown shown_too : Bool) (page : Page) (k l : Kept) (xs ys : List Rect) → shown ≡ shown_too → IsKeptOf page k → IsKeptOf page l → AreShownBlocks shown page k.median xs → AreShownBlocks shown_too page l.median ys → xs ≡ ys
same_blocks kept smear shown shown_too page k l xs ys flags has has_too is is_too = there shown_too (subst (λ (flag : Bool). AreShownBlocks flag page k.median xs) flags is) is_too
  where
    there : (flag : Bool) → AreShownBlocks flag page k.median xs → AreShownBlocks flag page l.median ys → xs ≡ ys
    there true are are_too =
        let same : are.smear ≡ are_too.smear = one_block_smear kept smear page k l are.smear are_too.smear has has_too are.is_smear are_too.is_smear in
        (kept are_too.smear).one_list xs ys (subst (λ (p : Page). IsKeptList p xs) same are.are_kept) are_too.are_kept
    there false none none_too = none ∙ sym none_too

-- ---- the layout

layout_with : ℕ → ℕ → ℕ → ℕ → ℕ → ℕ → List ℕ → List Rect → List Rect → List Rect → List Cell → List Mark → Order → List Area → Bool → List (List Rect) → Layout
layout_with page width height black kept median image whites gutters blocks cells lines order areas with_words words =
    record { page = page; width = width; height = height; black = black; kept = kept; median = median; image = image; whites = whites; gutters = gutters; blocks = blocks; cells = cells; lines = lines; order = order; areas = areas; with_words = with_words; words = words }

-- a page has one layout of a number
one_numbered : Laws → (number : ℕ) (p q : Plan) → AskTheSame p q → (page : Page) (l m : Layout) → IsLayoutAs number p page l → IsLayoutAs number q page m → l ≡ m
unfolding layout_with
one_numbered laws number p q same page l m is is_too =
    let boxes : is.kept.boxes ≡ is_too.kept.boxes = (laws.kept page).one_list is.kept.boxes is_too.kept.boxes is.is_kept.boxes is_too.is_kept.boxes in
    let medians : is.kept.median ≡ is_too.kept.median = one_median (map height_of is.kept.boxes) (map height_of is_too.kept.boxes) is.kept.median is_too.kept.median (ap (map height_of) boxes) is.is_kept.median is_too.is_kept.median in
    let kepts : is.kept ≡ is_too.kept = same_kept is.kept is_too.kept boxes medians in
    let wholes : is.whole ≡ is_too.whole = same_whole is.whole is_too.whole page.width page.height is.sides is_too.sides in
    let whites : l.whites ≡ m.whites = same_cover laws.cover is.whole is_too.whole is.kept.boxes is_too.kept.boxes (max is.kept.median LEAST_SIZE) (max is_too.kept.median LEAST_SIZE) p.rects q.rects l.whites m.whites wholes boxes (ap (λ (n : ℕ). max n LEAST_SIZE) medians) same.rects is.cover is_too.cover in
    let gutters : l.gutters ≡ m.gutters = same_gutters is.kept is_too.kept l.whites m.whites l.gutters m.gutters kepts whites is.gutters_are is_too.gutters_are in
    let found : is.found ≡ is_too.found = same_lines laws.lines is.kept is_too.kept l.gutters m.gutters page.height is.found is_too.found (low_enough is.whole page.width page.height is.sides) kepts gutters is.are_lines is_too.are_lines in
    let numbered : is.numbered.numbered ≡ is_too.numbered.numbered = same_numbered is.found is_too.found is.numbered.numbered is_too.numbered.numbered found is.numbered.in_order is_too.numbered.in_order in
    let lines : l.lines ≡ m.lines = is.numbered.shown ∙ ap (map mark_of) numbered ∙ sym is_too.numbered.shown in
    let order : l.order ≡ m.order = same_order laws.order l.lines m.lines l.order m.order lines is.order_is is_too.order_is in
    let areas : l.areas ≡ m.areas = same_areas laws.areas l.lines m.lines l.order m.order is.kept.median is_too.kept.median l.areas m.areas lines order medians is.areas_are is_too.areas_are in
    let pages : l.page ≡ m.page = is.number_is ∙ sym is_too.number_is in
    let widths : l.width ≡ m.width = is.width_is ∙ sym is_too.width_is in
    let heights : l.height ≡ m.height = is.height_is ∙ sym is_too.height_is in
    let blacks : l.black ≡ m.black = is.black_is ∙ sym is_too.black_is in
    let counts : l.kept ≡ m.kept = is.kept_is ∙ ap length boxes ∙ sym is_too.kept_is in
    let middles : l.median ≡ m.median = is.median_is ∙ medians ∙ sym is_too.median_is in
    let images : l.image ≡ m.image = is.image_is ∙ same.image ∙ sym is_too.image_is in
    let flags : l.with_words ≡ m.with_words = is.with_words_is ∙ same.words ∙ sym is_too.with_words_is in
    let words : l.words ≡ m.words = same_words laws.words p.words q.words is.kept is_too.kept is.numbered.numbered is_too.numbered.numbered l.words m.words same.words kepts numbered is.words_are is_too.words_are in
    let cells : l.cells ≡ m.cells = same_cells laws.cells p.xy q.xy is.kept is_too.kept l.cells m.cells same.cells kepts is.cells_are is_too.cells_are in
    let blocks : l.blocks ≡ m.blocks = same_blocks laws.kept laws.smear p.blocks q.blocks page is.kept is_too.kept l.blocks m.blocks same.blocks is.is_kept is_too.is_kept is.blocks_are is_too.blocks_are in
    let both : layout_with l.page l.width l.height l.black l.kept l.median l.image l.whites l.gutters l.blocks l.cells l.lines l.order l.areas l.with_words l.words ≡ layout_with m.page m.width m.height m.black m.kept m.median m.image m.whites m.gutters m.blocks m.cells m.lines m.order m.areas m.with_words m.words = cc in
    both

pub one_layout : Laws → LayoutIsUnique
one_layout laws p q same page l m is is_too = one_numbered laws 0 p q same page l m is is_too

-- the pages of an input have one list of layouts
one_list_of_layouts : Laws → (number : ℕ) (p q : Plan) → AskTheSame p q → (pages : List Page) (ls ms : List Layout) → AreLayoutsFrom number p pages ls → AreLayoutsFrom number q pages ms → ls ≡ ms
one_list_of_layouts laws number p q same [] [] [] are are_too = refl
one_list_of_layouts laws number p q same [] [] (m ∷ ms) are are_too = absurd are_too
one_list_of_layouts laws number p q same [] (l ∷ ls) ms are are_too = absurd are
one_list_of_layouts laws number p q same (page ∷ pages) [] ms are are_too = absurd are
one_list_of_layouts laws number p q same (page ∷ pages) (l ∷ ls) [] are are_too = absurd are_too
one_list_of_layouts laws number p q same (page ∷ pages) (l ∷ ls) (m ∷ ms) are are_too =
    both l m ls ms (one_numbered laws number p q same page l m are.0 are_too.0) (one_list_of_layouts laws (number + 1) p q same pages ls ms are.1 are_too.1)
  where
    both : (l m : Layout) (ls ms : List Layout) → l ≡ m → ls ≡ ms → l ∷ ls ≡ m ∷ ms
    both l m ls ms e f = cc

-- ---- equal pictures

-- two inputs that spell one picture spell one page
abbrev pub PictureIsPage : Type 0
PictureIsPage = (a b : List ℕ) (p q : Page) → Spells a p → Spells b q → HasPicture p q → p ≡ q

-- each of the pages is spelled by some bytes
abbrev IsSpelled : Page → Type 0
IsSpelled page = (bytes : List ℕ) × Spells bytes page

images_spelled : (pages : List Page) (bytes : List ℕ) → AreImages pages bytes → All IsSpelled pages
images_spelled [] bytes are = All-nil IsSpelled
images_spelled (page ∷ pages) bytes are = All-cons IsSpelled page pages (are.0, are.3.0) (images_spelled pages are.1 are.4)

pages_spelled : (bytes : List ℕ) (pages : List Page) → SpellsPages bytes pages → All IsSpelled pages
pages_spelled bytes pages (inl s) =
    let P : List Page → Type 0 = λ l. All IsSpelled l in
    subst P (sym s.1) (All-cons IsSpelled s.0 [] (bytes, s.2.0) (All-nil IsSpelled))
pages_spelled bytes pages (inr s) = images_spelled pages bytes s.images

same_pictures : PictureIsPage → (pages pictures : List Page) → All IsSpelled pages → All IsSpelled pictures → AllZip HasPicture pages pictures → pages ≡ pictures
same_pictures one [] [] spelled spelled_too same = refl
same_pictures one [] (q ∷ pictures) spelled spelled_too same = absurd same
same_pictures one (p ∷ pages) [] spelled spelled_too same = absurd same
same_pictures one (p ∷ pages) (q ∷ pictures) spelled spelled_too same =
    let here = All-head IsSpelled p pages spelled in
    let there = All-head IsSpelled q pictures spelled_too in
    both (one here.0 there.0 p q here.1 there.1 same.0)
    (same_pictures one pages pictures (All-tail IsSpelled p pages spelled) (All-tail IsSpelled q pictures spelled_too) same.1)
  where
    both : p ≡ q → pages ≡ pictures → p ∷ pages ≡ q ∷ pictures
    both e f = cc

pub pictured_pages : PictureIsPage → (input respelled : List ℕ) (pages pictures : List Page) → SpellsPages input pages → SpellsPages respelled pictures → AllZip HasPicture pages pictures
    → pages ≡ pictures
pictured_pages one input respelled pages pictures spells spells_too same =
    same_pictures one pages pictures (pages_spelled input pages spells) (pages_spelled respelled pictures spells_too) same

-- ---- the output

make_in : Plan → Option ℕ
make_in plan = plan.make

rects_in : Plan → ℕ
rects_in plan = plan.rects

image_in : Plan → List ℕ
image_in plan = plan.image

shows_in : Plan → Bool
shows_in plan = plan.words

cuts_in : Plan → Bool
cuts_in plan = plan.xy

smears_in : Plan → Bool
smears_in plan = plan.blocks

-- plans of the same words as plans that ask for the same
also_same : (p q p' q' : Plan) → p' ≡ p → q' ≡ q → AskTheSame p q → AskTheSame p' q'
unfolding make_in rects_in image_in shows_in cuts_in smears_in
also_same p q p' q' first second same =
    record {
      rects = ap rects_in first ∙ same.rects ∙ sym (ap rects_in second);
      image = ap image_in first ∙ same.image ∙ sym (ap image_in second);
      make = ap make_in first ∙ same.make ∙ sym (ap make_in second);
      words = ap shows_in first ∙ same.words ∙ sym (ap shows_in second);
      cells = ap cuts_in first ∙ same.cells ∙ sym (ap cuts_in second);
      blocks = ap smears_in first ∙ same.blocks ∙ sym (ap smears_in second);
    }

-- an input spells one list of pages
abbrev pub SpellsOneList : Type 0
SpellsOneList = (input : List ℕ) (ps qs : List Page) → SpellsPages input ps → SpellsPages input qs → ps ≡ qs

module _ (laws : Laws) (one_list : SpellsOneList) (one_plan : OnePlan) (run other : RunAccount) (p q : Plan) (has : HasPlan run.program run.words p) (has_too : HasPlan other.program other.words q) (same : AskTheSame p q) where
  same_here : (p' q' : Plan) → HasPlan run.program run.words p' → HasPlan other.program other.words q' → AskTheSame p' q'
  same_here p' q' is is_too = also_same p q p' q' (one_plan run.program run.words p' p is has) (one_plan other.program other.words q' q is_too has_too) same

  never_both : (p' q' : Plan) (seed : ℕ) → AskTheSame p' q' → p'.make ≡ None → q'.make ≡ Some seed → ⊥
  never_both p' q' seed asks none some = cc (asks.make, none, some)

  never_so : (p' q' : Plan) (seed : ℕ) → AskTheSame p' q' → p'.make ≡ Some seed → q'.make ≡ None → ⊥
  never_so p' q' seed asks some none = cc (asks.make, none, some)

  one_seed : (p' q' : Plan) (seed other : ℕ) → AskTheSame p' q' → p'.make ≡ Some seed → q'.make ≡ Some other → seed ≡ other
  one_seed p' q' seed other asks some some_too = cc (asks.make, some, some_too)

  -- the pages that one run read are the pages that the other read
  abbrev pub SameRead : Type 0
  SameRead = (pages pages' : List Page) → ReadsWhole run.source_before run.source_after pages → ReadsWhole other.source_before other.source_after pages' → pages ≡ pages'

  same_documents : SameRead → (text text' : List ℕ) → IsDocument run text → IsDocument other text' → text ≡ text'
  same_documents read text text' d e =
      let asks = same_here d.plan e.plan d.planned e.planned in
      let p = d.document in
      let q = e.document in
      let r = p.read in
      let s = q.read in
      let pages : r.pages ≡ s.pages = read r.pages s.pages r.reads s.reads in
      let here : AreLayouts d.plan s.pages p.layouts = subst (λ (l : List Page). AreLayouts d.plan l p.layouts) pages r.are_layouts in
      let layouts : p.layouts ≡ q.layouts = one_list_of_layouts laws 0 d.plan e.plan asks s.pages p.layouts q.layouts here s.are_layouts in
      p.text_is ∙ ap document_of layouts ∙ sym q.text_is

  same_summaries : (text text' : List ℕ) → IsSummary run text → IsSummary other text' → text ≡ text'
  same_summaries text text' d e =
      let asks = same_here d.plan e.plan d.planned e.planned in
      let p = d.summary in
      let q = e.summary in
      let seeds : d.seed ≡ e.seed = one_seed d.plan e.plan d.seed e.seed asks d.making e.making in
      let here : IsLayout d.plan (made_page e.seed) p.layout = subst (λ (seed : ℕ). IsLayout d.plan (made_page seed) p.layout) seeds p.is_layout in
      let layouts : p.layout ≡ q.layout = one_layout laws d.plan e.plan asks (made_page e.seed) p.layout q.layout here q.is_layout in
      p.text_is ∙ ap summary_of layouts ∙ sym q.text_is

  same_texts : SameRead → (text text' : List ℕ) → IsOutput run text → IsOutput other text' → text ≡ text'
  same_texts read text text' (inl d) (inl e) = same_documents read text text' d e
  same_texts read text text' (inl d) (inr e) = absurd (never_both d.plan e.plan e.seed (same_here d.plan e.plan d.planned e.planned) d.reading e.making)
  same_texts read text text' (inr d) (inl e) = absurd (never_so d.plan e.plan d.seed (same_here d.plan e.plan d.planned e.planned) d.making e.reading)
  same_texts read text text' (inr d) (inr e) = same_summaries text text' d e

  pub one_output : SameRead → run.out_before.written ≡ other.out_before.written → WritesOutput run → WritesOutput other → run.out_after.written ≡ other.out_after.written
  one_output read before w v =
      w.whole
      ∙ ap (λ (text : List ℕ). append_known run.out_before.written text) (same_texts read w.text v.text w.is_output v.is_output)
      ∙ ap (λ (known : Option (List ℕ)). append_known known v.text) before
      ∙ sym v.whole

  -- both inputs spell the same pages
  pub same_spelled : (input input' : List ℕ) (pages pages' : List Page) → run.source_before.left ≡ Some input → other.source_before.left ≡ Some input'
      → SpellsPages input pages → SpellsPages input' pages' → pages ≡ pages' → SameRead
  same_spelled input input' pages pages' told told' spells spells' same read read' reads reads' =
      one_list input read pages (whole_is run.source_before run.source_after input read told reads) spells
      ∙ same
      ∙ one_list input' pages' read' spells' (whole_is other.source_before other.source_after input' read' told' reads')

  -- both inputs are one
  pub same_input : (input : List ℕ) → run.source_before.left ≡ Some input → other.source_before.left ≡ Some input → SameRead
  same_input input told told' read read' reads reads' =
      one_list input read read' (whole_is run.source_before run.source_after input read told reads) (whole_is other.source_before other.source_after input read' told' reads')
