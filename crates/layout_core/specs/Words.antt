-- Why words are refused, and how a run of refused words ends.
use Rattle.std.specs.Prelude.{◌≡◌, ◌≢◌, ◌⊎◌, ℕ, List}
use Rattle.std.specs.declared.io.ErrorKind.{ErrorKind}
use Rattle.std.specs.declared.io.ErrorKind.TheVariants.{OutOfMemory}
use Rattle.layout_outside.specs.Views.{SourceView, SinkView}
use Rattle.layout_outside.specs.Written.{WritesText}
use Rattle.command_words.specs.declared.plan.Program.{Program}
use Rattle.command_words.specs.Plans.{HasNoPlan}
use Rattle.layout_core.specs.RefusalLines.{refusal_line}
use Rattle.layout_core.specs.Status.{Change, status_of}
use Rattle.layout_core.specs.declared.refusal.Refusal.{Refusal}
use Rattle.layout_core.specs.declared.refusal.Refusal.TheVariants.{Usage, Memory}

-- The words have no plan, or memory was refused.
abbrev pub RefusesWords : Program → List (List ℕ) → Refusal → Type 0
RefusesWords program words refusal = ((refusal ≡ Usage program) × HasNoPlan program words) ⊎ (refusal ≡ Memory)

-- The words could not be read, for want of memory or, by an error of another kind, since one is no text.
abbrev pub IsUnreadable : Program → ErrorKind → Refusal → Type 0
IsUnreadable program kind refusal =
    ((kind ≡ OutOfMemory) × (refusal ≡ Memory)) ⊎ ((kind ≢ OutOfMemory) × (refusal ≡ Usage program))

-- A run whose words could not be read, by an error of this kind, answered the status: 7 for want of memory and 2 for each other
-- kind. The line says so, and nothing was read or written to `out`.
pub record RunsUnread {S K E : Type 0} (program : Program) (kind : ErrorKind)
    (source : Change S SourceView) (out : Change K SinkView) (err : Change E SinkView) (status : ℕ) : Type 0 where
  pub refusal : Refusal
  pub unreadable : IsUnreadable program kind refusal
  pub status_is : status ≡ status_of refusal
  pub unread : source.after ≡ source.before
  pub unwritten : out.after ≡ out.before
  pub line : WritesText (err.view err.before) (err.view err.after) (refusal_line refusal)
