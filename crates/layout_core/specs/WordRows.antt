-- The words of the text lines of a page.
use Rattle.std.specs.Prelude.{◌≡◌, ◌<◌, ◌≤◌, Bool, true, false, List, [], length, All}
use Rattle.std.specs.List.{AllZip}
use Rattle.layout_geom.specs.declared.rect.Rect.{Rect}
use Rattle.components.specs.declared.kept.Kept.{Kept}
use Rattle.line_search.specs.declared.line.Line.{Line}
use Rattle.word_split.specs.declared.parting.TheConstants.{MAX_MEMBERS}
use Rattle.word_split.specs.Members.{IsRound}
use Rattle.word_split.specs.Words.{AreWordsOf}

-- A line has members, which are boxes of the page, in one rectangle.
pub record HasMembers (boxes : List Rect) (line : Line) : Type 0 where
  pub some : 0 < length line.members
  pub few : length line.members ≤ MAX_MEMBERS
  pub within : All (λ position. position < length boxes) line.members
  pub contained : (outer : Rect) × IsRound boxes line.members outer

-- Row by row, these are the words of the members of each line.
abbrev pub AreWordsOfLines : Kept → List Line → List (List Rect) → Type 0
AreWordsOfLines kept = AllZip (λ line words. AreWordsOf kept.boxes line.members kept.median words)

-- The words of each of the lines where they are shown, and none where they are not.
abbrev pub AreShownWords : Bool → Kept → List Line → List (List Rect) → Type 0
AreShownWords true kept lines rows = AreWordsOfLines kept lines rows
AreShownWords false kept lines rows = rows ≡ []
