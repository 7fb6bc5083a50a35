-- A run that ends for a refusal with its cause, or with its output written, is a run as both programs promise it.
use Rattle.std.proofs.Common.{◌≡◌, ◌⊎◌, ℕ, List, Option, None, Some, Ok, Err, refl, ap, sym, ◌∙◌, subst, inl, inr, arith}
use Rattle.std.specs.Prelude.{All, IfSome, IfOk, IfErr, Result}
use Rattle.layout_outside.specs.Causes.{Rose}
use Rattle.layout_outside.specs.Views.{SourceView}
use Rattle.layout_outside.specs.Written.{Appended, AppendedPart}
use Rattle.pbm_reader.specs.declared.fault.PageFault.{PageFault}
use Rattle.pbm_reader.specs.declared.fault.PageFault.TheVariants as faults
use Rattle.pbm_reader.specs.Page.{Page}
use Rattle.pbm_reader.specs.Images.{SpellsPages}
use Rattle.command_words.specs.declared.plan.Plan.{Plan}
use Rattle.command_words.specs.Plans.{HasPlan, HasNoPlan}
use Rattle.layout_core.specs.declared.refusal.Refusal.{Refusal}
use Rattle.layout_core.specs.declared.refusal.Refusal.TheVariants as refusals
use Rattle.layout_core.specs.Layouts.{HasFew}
use Rattle.layout_core.specs.RefusalLines.{refusal_line}
use Rattle.layout_core.specs.Run.{RunAccount, IsPlanned, ReadsBy, IsMaking, ReadsDocument, IsSummaryOf, IsOutput, WritesOutput, WritesFront}
use Rattle.layout_core.specs.Owed.{Owes, IsOwed}
use Rattle.layout_core.specs.Status.{fault_status, status_of, Says, OwesTooMany, RefusesPage, RefusesComponents, RefusesLayouts, FailsToRead, FailsToWrite, EndsWith, EndsWritten, IsStatus, IsWantOfMemory, ToldWhole, AnswersPages, Finishes, IsRun}
use Rattle.layout_core.specs.Words.{RefusesWords}
use Rattle.layout_core.proofs.Planning.{OnePlan, not_making, not_reading}
use Rattle.layout_core.proofs.Components.{whole_is}
use Rattle.layout_core.proofs.Owing.{InputLaws, one_owed, none_owed}
use Rattle.layout_core.proofs.Pages.{few_pages}

-- the status of a page that was not read is 3, 4, 5 or 7
abbrev IsFaultStatus : ℕ → Type 0
IsFaultStatus status = (status ≡ 3) ⊎ (status ≡ 4) ⊎ (status ≡ 5) ⊎ (status ≡ 7)

fault_in : (fault : PageFault) → IsFaultStatus (fault_status fault)
fault_in faults.HeaderTooLong = inr (inl refl)
fault_in (faults.TooLarge width height) = inr (inl refl)
fault_in faults.InputTooLong = inr (inl refl)
fault_in faults.TooManyImages = inr (inl refl)
fault_in faults.ReadFault = inr (inr (inl refl))
fault_in faults.Memory = inr (inr (inr refl))
fault_in fault = inl refl

is_fault_status : (status from : ℕ) → IsFaultStatus from → status ≡ from → IsStatus status
is_fault_status status from (inl s) is = inr (inr (inl (is ∙ s)))
is_fault_status status from (inr (inl s)) is = inr (inr (inr (inl (is ∙ s))))
is_fault_status status from (inr (inr (inl s))) is = inr (inr (inr (inr (inl (is ∙ s)))))
is_fault_status status from (inr (inr (inr s))) is = inr (inr (inr (inr (inr (inr (is ∙ s))))))

-- a fault that is no failed read and no want of memory is owed to the input
fault_of : (plan : Plan) (before after : SourceView) (fault : PageFault) → (fault_status fault ≡ 3) ⊎ (fault_status fault ≡ 4) → RefusesLayouts plan before after (refusals.Page fault)
    → IfSome before.left (λ input. Owes plan input (refusals.Page fault))
fault_of plan before after faults.ReadFault (inl s) r = absurd (omega (arith, s))
fault_of plan before after faults.ReadFault (inr s) r = absurd (omega (arith, s))
fault_of plan before after faults.Memory (inl s) r = absurd (omega (arith, s))
fault_of plan before after faults.Memory (inr s) r = absurd (omega (arith, s))
fault_of plan before after fault s r = r

-- ---- the refusal that is owed

told_input : (left : Option (List ℕ)) (input : List ℕ) (P : List ℕ → Type 0) → left ≡ Some input → IfSome left P → P input
told_input left input P told p = let Q : Option (List ℕ) → Type 0 = λ o. IfSome o P in subst Q told p

-- a told input's refusal is answered, where no read of it failed
refusal_answered : InputLaws → (plan : Plan) (before after : SourceView) (input : List ℕ) (wanted refusal : Refusal) → ToldWhole before after input → Owes plan input wanted → RefusesLayouts plan before after refusal
    → (refusal ≡ refusals.Page faults.ReadFault → Rose before.faults after.faults) → (refusal ≡ wanted) ⊎ IsWantOfMemory refusal
refusal_answered laws plan before after input wanted (refusals.Page faults.ReadFault) told owes why rose = absurd (told.1 (rose refl))
refusal_answered laws plan before after input wanted (refusals.Page faults.Memory) told owes why rose = inr (inr refl)
refusal_answered laws plan before after input wanted (refusals.Page fault) told owes why rose =
    inl (one_owed laws plan input (refusals.Page fault) wanted (told_input before.left input (λ l. Owes plan l (refusals.Page fault)) told.0 why) owes)
refusal_answered laws plan before after input wanted (refusals.TooMany count) told owes why rose =
    let same : input ≡ why.input = told_input before.left input (λ l. l ≡ why.input) told.0 why.is_left in
    inl (one_owed laws plan input (refusals.TooMany count) wanted (subst (λ (l : List ℕ). Owes plan l (refusals.TooMany count)) (sym same) why.owes) owes)
refusal_answered laws plan before after input wanted refusals.Memory told owes why rose = inr (inl refl)
refusal_answered laws plan before after input wanted (refusals.Usage program) told owes why rose = absurd why
refusal_answered laws plan before after input wanted refusals.WriteFault told owes why rose = absurd why

-- pages of few components are refused for want of memory alone
few_answered : InputLaws → (plan : Plan) (before after : SourceView) (input : List ℕ) (pages : List Page) (refusal : Refusal) → ToldWhole before after input → SpellsPages input pages → All (HasFew plan) pages
    → RefusesLayouts plan before after refusal → (refusal ≡ refusals.Page faults.ReadFault → Rose before.faults after.faults) → IsWantOfMemory refusal
few_answered laws plan before after input pages (refusals.Page faults.ReadFault) told spells few why rose = absurd (told.1 (rose refl))
few_answered laws plan before after input pages (refusals.Page faults.Memory) told spells few why rose = inr refl
few_answered laws plan before after input pages (refusals.Page fault) told spells few why rose =
    absurd (none_owed laws plan input pages (refusals.Page fault) spells few (told_input before.left input (λ l. Owes plan l (refusals.Page fault)) told.0 why))
few_answered laws plan before after input pages (refusals.TooMany count) told spells few why rose =
    let same : input ≡ why.input = told_input before.left input (λ l. l ≡ why.input) told.0 why.is_left in
    absurd (none_owed laws plan input pages (refusals.TooMany count) spells few (subst (λ (l : List ℕ). Owes plan l (refusals.TooMany count)) (sym same) why.owes))
few_answered laws plan before after input pages refusals.Memory told spells few why rose = inl refl
few_answered laws plan before after input pages (refusals.Usage program) told spells few why rose = absurd why
few_answered laws plan before after input pages refusals.WriteFault told spells few why rose = absurd why

module _ (SourceStays OutStays ErrStays : Type 0) (run : RunAccount) where
  -- ---- what a refusal tells

  -- why the run ended for this refusal, and what it left alone
  abbrev IsCaused : Refusal → Type 0
  IsCaused (refusals.Usage program) = (program ≡ run.program) × HasNoPlan run.program run.words × SourceStays × OutStays
  IsCaused (refusals.Page fault) = ReadsBy run.program run.words (λ plan. RefusesLayouts plan run.source_before run.source_after (refusals.Page fault))
      × (fault ≡ faults.ReadFault → Rose run.source_before.faults run.source_after.faults) × OutStays
  IsCaused (refusals.TooMany count) = ReadsBy run.program run.words (λ plan. OwesTooMany plan run.source_before count) × OutStays
  IsCaused refusals.WriteFault = IsPlanned run.program run.words × Rose run.out_before.faults run.out_after.faults × WritesFront run
  IsCaused refusals.Memory = OutStays

  is_status : (refusal : Refusal) → run.status ≡ status_of refusal → IsStatus run.status
  is_status (refusals.Usage program) is = inr (inl is)
  is_status (refusals.Page fault) is = is_fault_status run.status (fault_status fault) (fault_in fault) is
  is_status (refusals.TooMany count) is = inr (inr (inr (inl is)))
  is_status refusals.WriteFault is = inr (inr (inr (inr (inr (inl is)))))
  is_status refusals.Memory is = inr (inr (inr (inr (inr (inr is)))))

  not_done : (refusal : Refusal) → status_of refusal ≡ 0 → ⊥
  not_done (refusals.Page fault) s = omega (arith, s, fault_in fault)
  not_done refusal s = omega (arith, s)

  usage : (refusal : Refusal) → IsCaused refusal → Says run refusal → status_of refusal ≡ 2 → HasNoPlan run.program run.words × SourceStays × Says run (refusals.Usage run.program)
  usage (refusals.Usage program) why line s = (why.1, why.2, subst (λ p. Says run (refusals.Usage p)) why.0 line)
  usage (refusals.Page fault) why line s = absurd (omega (arith, s, fault_in fault))
  usage refusal why line s = absurd (omega (arith, s))

  bad_page : (refusal : Refusal) → IsCaused refusal → Says run refusal → status_of refusal ≡ 3 → ReadsBy run.program run.words (λ plan. RefusesPage 3 plan run)
  bad_page (refusals.Page fault) why line s =
      let r = why.0 in (r.0, r.1, r.2, record { fault = fault; status_is = s; owes = fault_of r.0 run.source_before run.source_after fault (inl s) r.3; line = line })
  bad_page refusal why line s = absurd (omega (arith, s))

  limited : (refusal : Refusal) → IsCaused refusal → Says run refusal → status_of refusal ≡ 4 → ReadsBy run.program run.words (λ plan. RefusesPage 4 plan run ⊎ RefusesComponents plan run)
  limited (refusals.Page fault) why line s =
      let r = why.0 in (r.0, r.1, r.2, inl (record { fault = fault; status_is = s; owes = fault_of r.0 run.source_before run.source_after fault (inr s) r.3; line = line }))
  limited (refusals.TooMany count) why line s = let r = why.0 in (r.0, r.1, r.2, inr (record { count = count; too_many = r.3; line = line }))
  limited refusal why line s = absurd (omega (arith, s))

  read_fault : (refusal : Refusal) → IsCaused refusal → Says run refusal → status_of refusal ≡ 5 → ReadsBy run.program run.words (λ plan. FailsToRead plan run)
  read_fault (refusals.Page faults.ReadFault) why line s =
      let r = why.0 in (r.0, r.1, r.2, record { failed = why.1 refl; stops = r.3; line = line })
  read_fault (refusals.Page fault) why line s = absurd (omega (arith, s))
  read_fault refusal why line s = absurd (omega (arith, s))

  write_fault : (refusal : Refusal) → IsCaused refusal → Says run refusal → status_of refusal ≡ 6 → FailsToWrite run
  write_fault refusals.WriteFault why line s = record { failed = why.1; front = why.2; line = line }
  write_fault (refusals.Page fault) why line s = absurd (omega (arith, s, fault_in fault))
  write_fault refusal why line s = absurd (omega (arith, s))

  memory : (refusal : Refusal) → Says run refusal → status_of refusal ≡ 7 → Says run refusals.Memory
  unfolding refusal_line
  memory (refusals.Page faults.Memory) line s = line
  memory (refusals.Page fault) line s = absurd (omega (arith, s))
  memory refusals.Memory line s = line
  memory refusal line s = absurd (omega (arith, s))

  unwritten : (refusal : Refusal) → IsCaused refusal → (status_of refusal ≡ 6 → ⊥) → OutStays
  unwritten (refusals.Usage program) why not = why.3
  unwritten (refusals.Page fault) why not = why.2
  unwritten (refusals.TooMany count) why not = why.1
  unwritten refusals.WriteFault why not = absurd (not refl)
  unwritten refusals.Memory why not = why

  planned : (refusal : Refusal) → IsCaused refusal → (status_of refusal ≡ 2 → ⊥) → (status_of refusal ≡ 7 → ⊥) → IsPlanned run.program run.words
  planned (refusals.Usage program) why not_two not_seven = absurd (not_two refl)
  planned (refusals.Page fault) why not_two not_seven = let r = why.0 in (r.0, r.1)
  planned (refusals.TooMany count) why not_two not_seven = let r = why.0 in (r.0, r.1)
  planned refusals.WriteFault why not_two not_seven = why.0
  planned refusals.Memory why not_two not_seven = absurd (not_seven refl)

  -- ---- what a run owes

  -- when each status has to come
  record EndsAsOwed : Type 0 where
    planless : HasNoPlan run.program run.words → EndsWith run 2
    owed : (input : List ℕ) (refusal : Refusal) → ToldWhole run.source_before run.source_after input → IsOwed run.program run.words input refusal
        → EndsWith run (status_of refusal)
    complete : (input : List ℕ) (pages : List Page) → ToldWhole run.source_before run.source_after input → SpellsPages input pages
        → ReadsBy run.program run.words (λ plan. All (HasFew plan) pages) → EndsWritten run
    unread : IsMaking run.program run.words → SourceStays
    made : IsMaking run.program run.words → EndsWritten run

  -- of words with a plan a refusal of the input is owed
  owed_input : (HasNoPlan run.program run.words → ⊥) → (input : List ℕ) (refusal : Refusal) → IsOwed run.program run.words input refusal
      → ReadsBy run.program run.words (λ plan. Owes plan input refusal)
  owed_input planned input (refusals.Usage program) owed = absurd (planned owed.1)
  owed_input planned input refusal owed = owed

  ends_refused : (refusal : Refusal) → run.status ≡ status_of refusal → IsCaused refusal → Says run refusal → EndsAsOwed → IsRun SourceStays OutStays ErrStays run
  ends_refused refusal is why line owed =
      record {
        statuses = is_status refusal is;
        done = λ s. absurd (not_done refusal (sym is ∙ s));
        silent = λ s. absurd (not_done refusal (sym is ∙ s));
        usage = λ s. usage refusal why line (sym is ∙ s);
        bad_page = λ s. bad_page refusal why line (sym is ∙ s);
        limited = λ s. limited refusal why line (sym is ∙ s);
        read_fault = λ s. read_fault refusal why line (sym is ∙ s);
        write_fault = λ s. write_fault refusal why line (sym is ∙ s);
        memory = λ s. memory refusal line (sym is ∙ s);
        unwritten = λ not_done not_failed. unwritten refusal why (λ s. not_failed (is ∙ s));
        planless = owed.planless;
        planned = λ not_two not_seven. planned refusal why (λ s. not_two (is ∙ s)) (λ s. not_seven (is ∙ s));
        owed = owed.owed;
        complete = owed.complete;
        unread = owed.unread;
        made = owed.made;
      }

  ends_done : run.status ≡ 0 → IsPlanned run.program run.words → WritesOutput run → ErrStays → EndsAsOwed → IsRun SourceStays OutStays ErrStays run
  ends_done is told writes err owed =
      record {
        statuses = inl is;
        done = λ s. writes;
        silent = λ s. err;
        usage = λ s. absurd (omega (arith, is, s));
        bad_page = λ s. absurd (omega (arith, is, s));
        limited = λ s. absurd (omega (arith, is, s));
        read_fault = λ s. absurd (omega (arith, is, s));
        write_fault = λ s. absurd (omega (arith, is, s));
        memory = λ s. absurd (omega (arith, is, s));
        unwritten = λ not_done not_failed. absurd (not_done is);
        planless = owed.planless;
        planned = λ not_two not_seven. told;
        owed = owed.owed;
        complete = owed.complete;
        unread = owed.unread;
        made = owed.made;
      }

  -- want of memory owes nothing more
  owed_memory : run.status ≡ 7 → (IsMaking run.program run.words → SourceStays) → EndsAsOwed
  owed_memory is source =
      record {
        planless = λ none. inr is;
        owed = λ input refusal told owed. inr is;
        complete = λ input pages whole spells told. inr (inr is);
        unread = source;
        made = λ told. inr (inr is);
      }

  -- to words without a plan nothing but their own refusal is owed
  owed_usage : run.status ≡ 2 → HasNoPlan run.program run.words → EndsAsOwed
  owed_usage is none =
      record {
        planless = λ again. inl is;
        owed = λ input refusal told owed. usage_owed input refusal owed;
        complete = λ input pages whole spells told. absurd (none told.0 told.1);
        unread = λ told. absurd (none told.0 told.2);
        made = λ told. absurd (none told.0 told.2);
      }
    where
      usage_owed : (input : List ℕ) (refusal : Refusal) → IsOwed run.program run.words input refusal → EndsWith run (status_of refusal)
      usage_owed input (refusals.Usage program) owed = inl is
      usage_owed input refusal owed = absurd (none owed.0 owed.1)

  -- words without a plan, or want of memory before a plan was made
  pub ends_unplanned : (refusal : Refusal) → RefusesWords run.program run.words refusal → run.status ≡ status_of refusal → Says run refusal → SourceStays → OutStays
      → IsRun SourceStays OutStays ErrStays run
  ends_unplanned refusal (inl u) is line source out =
      let Ends : Refusal → Type 0 = λ r. run.status ≡ status_of r → IsCaused r → Says run r → IsRun SourceStays OutStays ErrStays run in
      let ends : Ends (refusals.Usage run.program) = λ two why said. ends_refused (refusals.Usage run.program) two why said (owed_usage two u.1) in
      let why : IsCaused refusal = subst IsCaused (sym u.0) (refl, u.1, source, out) in
      subst Ends (sym u.0) ends is why line
  ends_unplanned refusal (inr want) is line source out =
      let seven : run.status ≡ 7 = is ∙ ap status_of want in
      let why : IsCaused refusal = subst IsCaused (sym want) out in
      ends_refused refusal is why line (owed_memory seven (λ told. source))

  -- ---- a text that was answered, and written or refused

  answered : (wanted refusal : Refusal) → run.status ≡ status_of refusal → (refusal ≡ wanted) ⊎ IsWantOfMemory refusal → EndsWith run (status_of wanted)
  answered wanted refusal is (inl same) = inl (is ∙ ap status_of same)
  answered wanted refusal is (inr (inl want)) = inr (is ∙ ap status_of want)
  answered wanted refusal is (inr (inr want)) = inr (is ∙ ap status_of want)

  wanting : (refusal : Refusal) → run.status ≡ status_of refusal → IsWantOfMemory refusal → run.status ≡ 7
  wanting refusal is (inl want) = is ∙ ap status_of want
  wanting refusal is (inr want) = is ∙ ap status_of want

  -- the run read pages, and refused them
  module _ (laws : InputLaws) (one : OnePlan) (plan : Plan) (has : HasPlan run.program run.words plan) (none : plan.make ≡ None) where
    -- what holds of the plan by which pages are read holds of this one
    by_this : (Holds : Plan → Type 0) → ReadsBy run.program run.words Holds → Holds plan
    by_this Holds reads = subst Holds (one run.program run.words reads.0 plan reads.1 has) reads.3

    caused : (refusal : Refusal) → RefusesLayouts plan run.source_before run.source_after refusal
        → (refusal ≡ refusals.Page faults.ReadFault → Rose run.source_before.faults run.source_after.faults) → OutStays → IsCaused refusal
    caused (refusals.Usage program) why rose out = absurd why
    caused (refusals.Page fault) why rose out = ((plan, has, none, why), (λ same. rose (ap (λ f. refusals.Page f) same)), out)
    caused (refusals.TooMany count) why rose out = ((plan, has, none, why), out)
    caused refusals.WriteFault why rose out = absurd why
    caused refusals.Memory why rose out = out

    pages_refused : {T : Type 0} → (refusal : Refusal) (IsWanted : T → Type 0) → AnswersPages plan run.source_before run.source_after (let r : Result T Refusal = Err refusal in r) IsWanted
        → run.status ≡ status_of refusal → OutStays → Says run refusal → IsRun SourceStays OutStays ErrStays run
    pages_refused refusal IsWanted answer is out line =
        let rose : refusal ≡ refusals.Page faults.ReadFault → Rose run.source_before.faults run.source_after.faults = λ same. answer.cause.failed (ap (λ r. Err r) same) in
        ends_refused refusal is (caused refusal answer.refused rose out) line
        (record {
          planless = λ without. absurd (without plan has);
          owed = λ input wanted told owed.
              answered wanted refusal is
              (refusal_answered laws plan run.source_before run.source_after input wanted refusal told
              (by_this (λ p. Owes p input wanted) (owed_input (λ without. without plan has) input wanted owed)) answer.refused rose);
          complete = λ input pages told spells few.
              inr (inr (wanting refusal is
              (few_answered laws plan run.source_before run.source_after input pages refusal told spells (by_this (λ p. All (HasFew p) pages) few) answer.refused rose)));
          unread = λ told. absurd (not_making one run.program run.words plan has none told);
          made = λ told. absurd (not_making one run.program run.words plan has none told);
        })

  -- what is owed of an output that was answered
  owed_output : IsPlanned run.program run.words → EndsWritten run → (IsMaking run.program run.words → SourceStays)
      → ((input : List ℕ) (refusal : Refusal) → ToldWhole run.source_before run.source_after input → ReadsBy run.program run.words (λ plan. Owes plan input refusal) → ⊥)
      → EndsAsOwed
  owed_output told written source nothing =
      record {
        planless = λ without. absurd (without told.0 told.1);
        owed = λ input refusal whole owed. absurd (nothing input refusal whole (owed_input (λ without. without told.0 told.1) input refusal owed));
        complete = λ input pages whole spells few. written;
        unread = source;
        made = λ making. written;
      }

  finished : (text : List ℕ) → IsPlanned run.program run.words → IsOutput run text → (EndsWritten run → EndsAsOwed)
      → (run.status ≡ 0) ⊎ (run.status ≡ 6)
      → (run.status ≡ 0 → ErrStays × Appended run.out_before run.out_after text)
      → (run.status ≡ 6 → Rose run.out_before.faults run.out_after.faults × AppendedPart run.out_before run.out_after text × Says run refusals.WriteFault)
      → IsRun SourceStays OutStays ErrStays run
  finished text told output owed (inl is) done failed =
      ends_done is told (record { text = text; is_output = output; whole = (done is).1 }) (done is).0 (owed (inl is))
  finished text told output owed (inr is) done failed =
      let f = failed is in
      ends_refused refusals.WriteFault is (told, f.0, record { text = text; is_output = output; part = f.1 }) f.2 (owed (inr (inl (is, f.0))))

  -- pages were read, and their document was written, or a refusal's line
  pub document_ends : {T : Type 0} → InputLaws → OnePlan → (plan : Plan) → HasPlan run.program run.words plan → plan.make ≡ None → (text : Result T Refusal) → (bytes_of : T → List ℕ)
      → AnswersPages plan run.source_before run.source_after text (λ text. ReadsDocument plan run.source_before run.source_after (bytes_of text))
      → Finishes ErrStays OutStays run.out_before run.out_after run.err_before run.err_after text bytes_of run.status → IsRun SourceStays OutStays ErrStays run
  document_ends laws one plan has none (Ok text) bytes_of answer finishes =
      let read = answer.wanted.read in
      finished (bytes_of text) (plan, has) (inl (record { plan = plan; planned = has; reading = none; document = answer.wanted }))
      (λ written.
      owed_output (plan, has) written (λ told. absurd (not_making one run.program run.words plan has none told))
      (λ input refusal told owes.
      none_owed laws plan input read.pages refusal (whole_is run.source_before run.source_after input read.pages told.0 read.reads)
      (few_pages 0 plan read.pages answer.wanted.layouts read.are_layouts)
      (subst (λ (p : Plan). Owes p input refusal) (one run.program run.words owes.0 plan owes.1 has) owes.3)))
      finishes.ends finishes.done finishes.failed
  document_ends laws one plan has none (Err refusal) bytes_of answer finishes =
      let f = finishes.refused in
      pages_refused laws one plan has none refusal (λ text. ReadsDocument plan run.source_before run.source_after (bytes_of text)) answer f.0 f.1 f.2

  -- a page was made, and its summary was written, or the line of want of memory
  pub summary_ends : {T : Type 0} → OnePlan → (plan : Plan) → HasPlan run.program run.words plan → (seed : ℕ) → plan.make ≡ Some seed → (text : Result T Refusal) → (bytes_of : T → List ℕ)
      → IfOk text (λ text. IsSummaryOf plan seed (bytes_of text)) → IfErr text (λ refusal. refusal ≡ refusals.Memory) → SourceStays
      → Finishes ErrStays OutStays run.out_before run.out_after run.err_before run.err_after text bytes_of run.status → IsRun SourceStays OutStays ErrStays run
  summary_ends one plan has seed some (Ok text) bytes_of summary want source finishes =
      finished (bytes_of text) (plan, has) (inr (record { plan = plan; planned = has; seed = seed; making = some; summary = summary }))
      (λ written.
      owed_output (plan, has) written (λ told. source)
      (λ input refusal told owes. absurd (not_reading one run.program run.words plan seed has some (owes.0, owes.1, owes.2))))
      finishes.ends finishes.done finishes.failed
  summary_ends one plan has seed some (Err refusal) bytes_of summary want source finishes =
      let f = finishes.refused in
      let seven : run.status ≡ 7 = f.0 ∙ ap status_of want in
      ends_refused refusal f.0 (subst IsCaused (sym want) f.1) f.2 (owed_memory seven (λ told. source))
