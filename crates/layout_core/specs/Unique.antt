-- What is defined of a page and of a run is one thing, so that two runs on one input write the same.
use Rattle.std.specs.Prelude.{◌≡◌, ℕ, List, Some}
use Rattle.std.specs.List.{AllZip}
use Rattle.packed_rows.specs.Page.{Page, HasPicture}
use Rattle.pbm_reader.specs.Images.{SpellsPages}
use Rattle.command_words.specs.declared.plan.Plan.{Plan}
use Rattle.command_words.specs.Plans.{HasPlan}
use Rattle.hocr_writer.specs.declared.layout.Layout.{Layout}
use Rattle.layout_core.specs.Layouts.{IsLayout}
use Rattle.layout_core.specs.Run.{RunAccount, WritesOutput}

-- The plans ask for the same. They may differ in the number of workers.
pub record AskTheSame (p q : Plan) : Type 0 where
  pub rects : p.rects ≡ q.rects
  pub image : p.image ≡ q.image
  pub make : p.make ≡ q.make
  pub words : p.words ≡ q.words
  pub cells : p.xy ≡ q.xy
  pub blocks : p.blocks ≡ q.blocks

-- A page has one layout by plans that ask for the same.
abbrev pub LayoutIsUnique : Type 0
LayoutIsUnique = (p q : Plan) → AskTheSame p q → (page : Page) (l m : Layout) → IsLayout p page l → IsLayout q page m → l ≡ m

-- Two runs, of one program or of both, whose words have plans that ask for the same, write the same for one input.
abbrev pub OutputIsUnique : Type 0
OutputIsUnique =
    (run other : RunAccount) (p q : Plan) → HasPlan run.program run.words p → HasPlan other.program other.words q → AskTheSame p q
    → (input : List ℕ) → run.source_before.left ≡ Some input → other.source_before.left ≡ Some input
    → run.out_before.written ≡ other.out_before.written → WritesOutput run → WritesOutput other
    → run.out_after.written ≡ other.out_after.written

-- Equal pictures, equal documents: two such runs write the same for two inputs that spell as many pages, one by one of one size with the
-- same black places, however each spells them.
abbrev pub PictureDecidesOutput : Type 0
PictureDecidesOutput =
    (run other : RunAccount) (p q : Plan) → HasPlan run.program run.words p → HasPlan other.program other.words q → AskTheSame p q
    → (input respelled : List ℕ) (pages pictures : List Page)
    → run.source_before.left ≡ Some input → other.source_before.left ≡ Some respelled
    → SpellsPages input pages → SpellsPages respelled pictures → AllZip HasPicture pages pictures
    → run.out_before.written ≡ other.out_before.written → WritesOutput run → WritesOutput other
    → run.out_after.written ≡ other.out_after.written
