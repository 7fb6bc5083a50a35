-- The line that a run writes to `err` for each refusal.
use Rattle.std.specs.Prelude.{ℕ, List, ◌++◌, codes, decimal}
use Rattle.pbm_reader.specs.declared.fault.PageFault.{PageFault}
use Rattle.pbm_reader.specs.declared.fault.PageFault.TheVariants as faults
use Rattle.command_words.specs.declared.plan.Program.{Program}
use Rattle.command_words.specs.declared.plan.Program.TheVariants.{Alone, Shared}
use Rattle.layout_core.specs.declared.refusal.Refusal.{Refusal}
use Rattle.layout_core.specs.declared.refusal.Refusal.TheVariants as refusals

-- what is wrong with a page, and at which byte
abbrev pub place_line : List ℕ → ℕ → List ℕ
place_line what at = codes "bad page: " ++ what ++ codes " at " ++ decimal at ++ codes "\n"

-- the sizes of a page that is too large
abbrev pub size_limit_line : ℕ → ℕ → List ℕ
size_limit_line width height = codes "limit: size " ++ decimal width ++ codes " by " ++ decimal height ++ codes "\n"

-- the line of a page that was not read
abbrev pub fault_line : PageFault → List ℕ
fault_line (faults.Magic at) = place_line (codes "magic") at
fault_line (faults.Header at) = place_line (codes "header") at
fault_line faults.HeaderTooLong = codes "limit: header over 65536 bytes\n"
fault_line faults.ZeroSize = codes "bad page: zero size\n"
fault_line (faults.TooLarge width height) = size_limit_line width height
fault_line (faults.Truncated at) = place_line (codes "truncated") at
fault_line (faults.Pixel at) = place_line (codes "pixel") at
fault_line (faults.Trailing at) = place_line (codes "trailing") at
fault_line faults.InputTooLong = codes "limit: input over 268435456 bytes\n"
fault_line faults.TooManyImages = codes "limit: over 256 images\n"
fault_line faults.ReadFault = codes "read failed\n"
fault_line faults.Memory = codes "out of memory\n"

-- the words that a program takes
abbrev pub usage_of : Program → List ℕ
usage_of Alone = codes "usage: layout1 [--rects N] [--image NAME] [--make SEED] [--words] [--blocks] [--xy]\n"
usage_of Shared = codes "usage: layout [--workers N] [--rects N] [--image NAME] [--make SEED] [--words] [--blocks] [--xy]\n"

-- the line of a run that ended without a document
unfoldable pub refusal_line : Refusal → List ℕ
refusal_line (refusals.Usage program) = usage_of program
refusal_line (refusals.Page fault) = fault_line fault
refusal_line (refusals.TooMany count) = codes "limit: " ++ decimal count ++ codes " components\n"
refusal_line refusals.WriteFault = codes "write failed\n"
refusal_line refusals.Memory = codes "out of memory\n"
