-- What one more byte makes of a header that is read so far, and what the private calls of the header's reader took.
use Rattle.std.specs.Prelude.{ℕ, ◌+◌, ◌-◌, ◌*◌, ◌==◌, min, Option, Some, None, option_map, if◌then◌else◌, ◌≡◌, ◌≤◌, ◌<◌, ◌⊎◌, List, [], length, IfSome, codes, ⊤}
use Rattle.layout_outside.specs.Views.{SourceView}
use Rattle.layout_outside.specs.Taken.{HasEnded, Took}
use Rattle.pbm_reader.specs.declared.limits.TheConstants.{MAX_HEADER, MAX_NUMBER}
use Rattle.pbm_reader.specs.declared.header.Header.{Header}
use Rattle.pbm_reader.specs.Page.{IsPageSize}
use Rattle.pbm_reader.specs.declared.form.Form.{Form}
use Rattle.pbm_reader.specs.declared.form.Form.TheVariants.{Plain, Raw}
use Rattle.pbm_reader.specs.declared.state.HeaderState.{HeaderState}
use Rattle.pbm_reader.specs.declared.state.HeaderState.TheVariants.{Magic, Kind, Named, WidthGap, WidthComment}
use Rattle.pbm_reader.specs.declared.state.HeaderState.TheVariants.{Width, HeightGap, HeightComment, Height, Whole}
use Rattle.pbm_reader.specs.declared.fault.PageFault.{PageFault}
use Rattle.pbm_reader.specs.declared.fault.PageFault.TheVariants as faults
use Rattle.pbm_reader.specs.Fault.{IsMagicFault}
use Rattle.pbm_reader.specs.Spelling.{is_white, is_line_end, is_digit, IsHeader}

-- the form that this byte names behind a `P`
abbrev pub form_of : ℕ → Option Form
form_of byte = if byte == 49 then Some Plain else if byte == 52 then Some Raw else None

-- the number with one more digit behind it; numbers above 999,999,999 aren't told apart
abbrev pub longer : ℕ → ℕ → ℕ
longer number digit = min (10 * number + (digit - 48)) MAX_NUMBER

abbrev pub with_digit : ℕ → ℕ → Option ℕ
with_digit number byte = if is_digit byte then Some (longer number byte) else None

-- what is behind a byte where a gap may stand: the gap, a comment in it, or something else
abbrev pub in_gap : {State : Type 0} → State → State → Option State → ℕ → Option State
in_gap gap comment other byte = if is_white byte then Some gap else if byte == 35 then Some comment else other

-- a comment ends with its line
abbrev pub in_comment : {State : Type 0} → State → State → ℕ → Option State
in_comment gap comment byte = if is_line_end byte then Some gap else Some comment

-- what one more byte makes of a header, or none where no header has this byte here
abbrev pub next_state : HeaderState → ℕ → Option HeaderState
next_state Magic byte = if byte == 80 then Some Kind else None
next_state Kind byte = option_map (λ form. Named form) (form_of byte)
next_state (Named form) byte = in_gap (WidthGap form) (WidthComment form) None byte
next_state (WidthGap form) byte = in_gap (WidthGap form) (WidthComment form) (option_map (λ w. Width form w) (with_digit 0 byte)) byte
next_state (WidthComment form) byte = in_comment (WidthGap form) (WidthComment form) byte
next_state (Width form width) byte =
    in_gap (HeightGap form width) (HeightComment form width) (option_map (λ w. Width form w) (with_digit width byte)) byte
next_state (HeightGap form width) byte =
    in_gap (HeightGap form width) (HeightComment form width) (option_map (λ h. Height form width h) (with_digit 0 byte)) byte
next_state (HeightComment form width) byte = in_comment (HeightGap form width) (HeightComment form width) byte
next_state (Height form width height) byte = if is_white byte then Some (Whole form width height)
    else option_map (λ h. Height form width h) (with_digit height byte)
next_state (Whole form width height) byte = None

-- the fault where no header has this byte here
abbrev pub wrong_byte : HeaderState → ℕ → PageFault
wrong_byte Magic at = faults.Magic at
wrong_byte Kind at = faults.Magic at
wrong_byte state at = faults.Header at

-- the fault where the input ends here
abbrev pub missing_byte : HeaderState → ℕ → PageFault
missing_byte Magic at = faults.Magic at
missing_byte Kind at = faults.Magic at
missing_byte state at = faults.Truncated at

-- the name has a fault here; where it stands at the end of the input, this was answered
pub record IsNameFault (new : SourceView) (at : ℕ) (input : List ℕ) : Type 0 where
  pub fault : IsMagicFault input at
  pub ended : at ≡ length input → HasEnded new
  pub some : at ≡ 0 → 0 < length input

-- why the name of a form was not read
abbrev pub NameFails : SourceView → SourceView → PageFault → Type 0
NameFails old new (faults.Magic at) = IfSome old.left (λ input. IsNameFault new at input)
NameFails old new faults.ReadFault = (taken : List ℕ) × Took old new taken × ((taken ≡ []) ⊎ (taken ≡ codes "P"))
NameFails old new fault = ⊥

-- the fault is one that stands in a header, at one of its places, or a read failed there
abbrev pub IsOfHeader : PageFault → Type 0
IsOfHeader (faults.Magic at) = at ≤ MAX_HEADER
IsOfHeader (faults.Header at) = at ≤ MAX_HEADER
IsOfHeader (faults.Truncated at) = at ≤ MAX_HEADER
IsOfHeader (faults.Pixel at) = ⊥
IsOfHeader (faults.Trailing at) = ⊥
IsOfHeader faults.InputTooLong = ⊥
IsOfHeader faults.TooManyImages = ⊥
IsOfHeader faults.Memory = ⊥
IsOfHeader fault = ⊤

-- a header that a page can have was taken, of at most 65,536 bytes
pub record TookHeader (old new : SourceView) (header : Header) : Type 0 where
  pub bytes : List ℕ
  pub took : Took old new bytes
  pub is_header : IsHeader bytes header.form header.size.width header.size.height
  pub size : IsPageSize header.size.width header.size.height
  pub len : header.len ≡ length bytes
  pub short : length bytes ≤ MAX_HEADER
