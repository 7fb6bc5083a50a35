use Rattle.std.proofs.Common.{◌≡◌, ℕ, ◌+◌, ◌≤◌, ◌⊎◌, [], ◌∷◌, ◌++◌, length, Some, None, inr, sym, ◌∙◌, ap, subst, refl, arith}
use Rattle.std.proofs.lemmas.Result.{err_from_is_err_and}
use Rattle.pbm_reader.specs.declared.fault.PageFault.{PageFault}
use Rattle.pbm_reader.specs.declared.state.HeaderState.{HeaderState}
use Rattle.pbm_reader.specs.declared.state.HeaderState.TheVariants.{Whole}
use Rattle.layout_outside.specs.Views.{SourceView}
use Rattle.layout_outside.specs.Taken.{Took, TookAll}
use Rattle.pbm_reader.specs.Spelling.{magic}
use Rattle.pbm_reader.specs.Header.{next_state, IsOfHeader}
use Rattle.pbm_reader.specs.Reading.{Refuses}
use Rattle.pbm_reader.proofs.Taken.{some_of, none_of}
use Rattle.pbm_reader.proofs.HeaderLoop.{IsReading, header_taken, not_whole, size_of_header, sizes_fail, named_begins, named_on, reading_whole, wrong_of_header, missing_of_header, reading_undecided, wrong_fails, end_fails, limit_end, limit_more}
use Rattle.pbm_reader.specs.Held.{StaysInside}
use Rattle.pbm_reader.specs.Images.{AreUndecided}
use Rattle.pbm_reader.proofs.Held.{held_begins, held_long, held_no_size, held_on, held_sizes, held_spent, held_byte, held_wrong}
use Rattle.pbm_reader.proofs.header.read_sizes.Goals as goal

pub returns-in_err-byte-clause-fault : goal.returns-in_err-byte-clause-fault
returns-in_err-byte-clause-fault g c =
    let p = err_from_is_err_and c.from_residual.result c.from_residual.ensures.1 in
    let inv = c.loop-at.invariant.reading in
    let middle = c.loop-at.feed.source in
    let new = c.next_byte.new.self.source in
    rw (p.1, p.2) (λ first named.
    let u = reading_undecided first middle new c.loop-at.at c.loop-at.state (inv first named).reading c.in_err-byte.ensures.err (omega arith) in
    (u.0, u.1, u.2.0))

pub returns-in_err-byte-clause-cut : goal.returns-in_err-byte-clause-cut
returns-in_err-byte-clause-cut g c =
    λ is first named. reading_undecided first c.loop-at.feed.source c.next_byte.new.self.source c.loop-at.at c.loop-at.state (c.loop-at.invariant.reading first named).reading c.in_err-byte.ensures.err
    (omega arith)

pub returns-in_default-clause-fault : goal.returns-in_default-clause-fault
returns-in_default-clause-fault g c =
    let inv = c.loop-at.invariant.reading in
    let middle = c.loop-at.feed.source in
    let new = c.next_byte.new.self.source in
    let ended = none_of c.in_ok-byte.field-0 (TookAll middle new []) c.in_default.is c.in_ok-byte.ensures.end in
    let P : PageFault → Type 0 = λ fault. (first : SourceView) → Took first c.args.feed.now.source (magic c.args.form) → Refuses first new fault in
    subst P (sym c.missing_byte.ensures) (λ first named. end_fails first middle new c.loop-at.at c.loop-at.state (inv first named).reading ended (omega arith))

pub returns-in_default-next_state-clause-fault : goal.returns-in_default-next_state-clause-fault
returns-in_default-next_state-clause-fault g c =
    let inv = c.loop-at.invariant.reading in
    let middle = c.loop-at.feed.source in
    let new = c.next_byte.new.self.source in
    let took = some_of c.in_ok-byte.field-0 c.in-Some.byte (λ byte. Took middle new (byte ∷ [])) c.in-Some.is c.in_ok-byte.ensures.byte in
    let step : next_state c.loop-at.state c.in-Some.byte ≡ None = sym c.in_default-next_state.ensures in
    let P : PageFault → Type 0 = λ fault. (first : SourceView) → Took first c.args.feed.now.source (magic c.args.form) → Refuses first new fault in
    subst P (sym c.wrong_byte.ensures) (λ first named. wrong_fails first middle new c.loop-at.at c.in-Some.byte c.loop-at.state (inv first named).reading took step (omega arith))

pub returns-in-Whole-clause-header : goal.returns-in-Whole-clause-header
returns-in-Whole-clause-header g c =
    let middle = c.loop-at.feed.source in
    let new = c.next_byte.new.self.source in
    let took = some_of c.in_ok-byte.field-0 c.in-Some.byte (λ byte. Took middle new (byte ∷ [])) c.in-Some.is c.in_ok-byte.ensures.byte in
    let step : next_state c.loop-at.state c.in-Some.byte ≡ Some (Whole c.in-Whole.field-0 c.in-Whole.width c.in-Whole.height) =
    sym c.in-Some-next_state.ensures ∙ ap (λ (s : HeaderState). Some s) c.in-Whole.is in
    λ first named. header_taken first new c.args.form c.in-Whole.width c.in-Whole.height _ c.in_ok-size.size
    (reading_whole first middle new c.args.form c.loop-at.at c.in-Some.byte c.loop-at.state c.in-Whole.field-0 c.in-Whole.width c.in-Whole.height (c.loop-at.invariant.reading first named) took step (omega arith))
    c.in_ok-size.ensures.size

pub returns-in_err-size-clause-fault : goal.returns-in_err-size-clause-fault
returns-in_err-size-clause-fault g c =
    let p = err_from_is_err_and c.from_residual-in_err-size.result c.from_residual-in_err-size.ensures.1 in
    let middle = c.loop-at.feed.source in
    let new = c.next_byte.new.self.source in
    let took = some_of c.in_ok-byte.field-0 c.in-Some.byte (λ byte. Took middle new (byte ∷ [])) c.in-Some.is c.in_ok-byte.ensures.byte in
    let step : next_state c.loop-at.state c.in-Some.byte ≡ Some (Whole c.in-Whole.field-0 c.in-Whole.width c.in-Whole.height) =
    sym c.in-Some-next_state.ensures ∙ ap (λ (s : HeaderState). Some s) c.in-Whole.is in
    rw (p.1, p.2) (λ first named. sizes_fail first new c.args.form c.in-Whole.width c.in-Whole.height (c.loop-at.at + 1) c.in_err-size.field-0.0
    (reading_whole first middle new c.args.form c.loop-at.at c.in-Some.byte c.loop-at.state c.in-Whole.field-0 c.in-Whole.width c.in-Whole.height (c.loop-at.invariant.reading first named) took step
    (omega arith)) c.in_err-size.ensures.fault)

pub returns-in_err-size-clause-of_header : goal.returns-in_err-size-clause-of_header
returns-in_err-size-clause-of_header g c =
    let p = err_from_is_err_and c.from_residual-in_err-size.result c.from_residual-in_err-size.ensures.1 in
    rw (p.1, p.2) (size_of_header c.in-Whole.width c.in-Whole.height c.in_err-size.field-0.0 c.in_err-size.ensures.fault)

pub loop-at-preserved : goal.loop-at-preserved
loop-at-preserved g c =
    let inv = c.loop-at.invariant.reading in
    let middle = c.loop-at.feed.source in
    let new = c.next_byte.new.self.source in
    let took = some_of c.in_ok-byte.field-0 c.in-Some.byte (λ byte. Took middle new (byte ∷ [])) c.in-Some.is c.in_ok-byte.ensures.byte in
    let step : next_state c.loop-at.state c.in-Some.byte ≡ Some c.in-Some-next_state.next = sym c.in-Some-next_state.ensures in
    record {
      reading = λ first named. named_on first middle new c.args.form c.loop-at.at c.in-Some.byte c.loop-at.state c.in-Some-next_state.next (inv first named) took step (not_whole c.in-Some-next_state.next c.in_default-next.not-Whole);
      held = held_on c.args.feed.now c.args.form c.loop-at.feed c.next_byte.new.self c.loop-at.at c.in-Some.byte c.loop-at.state c.in-Some-next_state.next
          (held_byte c.args.feed.now c.args.form c.loop-at.feed c.next_byte.new.self c.loop-at.at c.loop-at.state c.in_ok-byte.field-0 c.in-Some.byte c.in-Some.is c.in_ok-byte.ensures.held
          c.loop-at.invariant.held (omega arith))
          step (not_whole c.in-Some-next_state.next c.in_default-next.not-Whole);
      same = c.next_byte.ensures.same ∙ c.loop-at.invariant.same;
      later = omega arith;
    }

-- the loop was left at its end
at_limit : (old now : SourceView) (at : ℕ) (state : HeaderState) → IsReading old now at state → at ≤ 65536 → 65536 ≤ at → IsReading old now 65536 state
at_limit old now at state r le ge = let e : at ≡ 65536 = omega (arith, le, ge) in subst (λ (n : ℕ). IsReading old now n state) e r

pub returns-in_err-next_byte-clause-fault : goal.returns-in_err-next_byte-clause-fault
returns-in_err-next_byte-clause-fault g c =
    let p = err_from_is_err_and c.from_residual-in_err-next_byte.result c.from_residual-in_err-next_byte.ensures.1 in
    let inv = c.loop-at.invariant.reading in
    let middle = c.loop-at.feed.source in
    let new = c.next_byte-2.new.self.source in
    rw (p.1, p.2) (λ first named.
    let u = reading_undecided first middle new c.loop-at.at c.loop-at.state (inv first named).reading c.in_err-next_byte.ensures.err (omega arith) in
    (u.0, u.1, u.2.0))

pub returns-in_err-next_byte-clause-cut : goal.returns-in_err-next_byte-clause-cut
returns-in_err-next_byte-clause-cut g c =
    λ is first named. reading_undecided first c.loop-at.feed.source c.next_byte-2.new.self.source c.loop-at.at c.loop-at.state (c.loop-at.invariant.reading first named).reading
    c.in_err-next_byte.ensures.err (omega arith)

pub returns-in-Some-2-clause-fault : goal.returns-in-Some-2-clause-fault
returns-in-Some-2-clause-fault g c =
    let inv = c.loop-at.invariant.reading in
    let middle = c.loop-at.feed.source in
    let new = c.next_byte-2.new.self.source in
    let took = some_of c.in_ok-next_byte.field-0 c.in-Some-2.field-0 (λ byte. Took middle new (byte ∷ [])) c.in-Some-2.is c.in_ok-next_byte.ensures.byte in
    λ first named. limit_more first middle new c.in-Some-2.field-0 c.loop-at.state (at_limit first middle c.loop-at.at c.loop-at.state (inv first named).reading (omega arith) (omega arith)) took

pub returns-in-None-clause-fault : goal.returns-in-None-clause-fault
returns-in-None-clause-fault g c =
    let inv = c.loop-at.invariant.reading in
    let middle = c.loop-at.feed.source in
    let new = c.next_byte-2.new.self.source in
    let ended = none_of c.in_ok-next_byte.field-0 (TookAll middle new []) c.in-None.is c.in_ok-next_byte.ensures.end in
    λ first named. limit_end first middle new c.loop-at.state (at_limit first middle c.loop-at.at c.loop-at.state (inv first named).reading (omega arith) (omega arith)) ended

pub loop-at-init : goal.loop-at-init
loop-at-init g c = record { reading = λ first named. named_begins first c.args.feed.now.source c.args.form named; held = held_begins c.args.feed.now c.args.form; same = refl; later = omega arith }

pub returns-in_default-clause-of_header : goal.returns-in_default-clause-of_header
returns-in_default-clause-of_header g c = subst IsOfHeader (sym c.missing_byte.ensures) (missing_of_header c.loop-at.state c.loop-at.at (omega arith))

pub returns-in_default-next_state-clause-of_header : goal.returns-in_default-next_state-clause-of_header
returns-in_default-next_state-clause-of_header g c = subst IsOfHeader (sym c.wrong_byte.ensures) (wrong_of_header c.loop-at.state c.loop-at.at (omega arith))

-- ---- what is held

pub returns-in_err-byte-clause-stays : goal.returns-in_err-byte-clause-stays
returns-in_err-byte-clause-stays g c =
    let p = err_from_is_err_and c.from_residual.result c.from_residual.ensures.1 in
    rw (p.1, p.2) (inr (held_spent c.args.feed.now c.args.form c.loop-at.feed c.loop-at.at c.loop-at.state c.loop-at.invariant.held c.in_err-byte.ensures.spent (omega arith)))

pub returns-in_default-clause-stays : goal.returns-in_default-clause-stays
returns-in_default-clause-stays g c =
    let none = none_of c.in_ok-byte.field-0 (c.loop-at.feed.unread ≡ []) c.in_default.is c.in_ok-byte.ensures.none in
    inr (held_spent c.args.feed.now c.args.form c.loop-at.feed c.loop-at.at c.loop-at.state c.loop-at.invariant.held none (omega arith))

pub returns-in_default-next_state-clause-stays : goal.returns-in_default-next_state-clause-stays
returns-in_default-next_state-clause-stays g c =
    let old = c.args.feed.now in
    let new = c.next_byte.new.self in
    let step = held_byte old c.args.form c.loop-at.feed new c.loop-at.at c.loop-at.state c.in_ok-byte.field-0 c.in-Some.byte c.in-Some.is c.in_ok-byte.ensures.held c.loop-at.invariant.held (omega arith) in
    let P : PageFault → Type 0 = λ fault. StaysInside old new (2 + length old.unread) fault ⊎ AreUndecided (magic c.args.form ++ old.unread) in
    subst P (sym c.wrong_byte.ensures) (held_wrong old c.args.form c.loop-at.feed new c.loop-at.at c.in-Some.byte c.loop-at.state step)

pub returns-in-Whole-clause-held : goal.returns-in-Whole-clause-held
returns-in-Whole-clause-held g c =
    let old = c.args.feed.now in
    let new = c.next_byte.new.self in
    let step = held_byte old c.args.form c.loop-at.feed new c.loop-at.at c.loop-at.state c.in_ok-byte.field-0 c.in-Some.byte c.in-Some.is c.in_ok-byte.ensures.held c.loop-at.invariant.held (omega arith) in
    let whole : next_state c.loop-at.state c.in-Some.byte ≡ Some (Whole c.in-Whole.field-0 c.in-Whole.width c.in-Whole.height) =
    sym c.in-Some-next_state.ensures ∙ ap (λ (s : HeaderState). Some s) c.in-Whole.is in
    held_sizes old c.args.form c.loop-at.feed new c.loop-at.at c.in-Some.byte c.loop-at.state c.in-Whole.field-0 c.in-Whole.width c.in-Whole.height c.in_ok-size.size step whole (omega arith)
    c.in_ok-size.ensures.size

pub returns-in_err-size-clause-stays : goal.returns-in_err-size-clause-stays
returns-in_err-size-clause-stays g c =
    let p = err_from_is_err_and c.from_residual-in_err-size.result c.from_residual-in_err-size.ensures.1 in
    let old = c.args.feed.now in
    let new = c.next_byte.new.self in
    let step = held_byte old c.args.form c.loop-at.feed new c.loop-at.at c.loop-at.state c.in_ok-byte.field-0 c.in-Some.byte c.in-Some.is c.in_ok-byte.ensures.held c.loop-at.invariant.held (omega arith) in
    rw (p.1, p.2) (held_no_size old c.args.form c.loop-at.feed new c.loop-at.at c.in-Some.byte c.loop-at.state c.in-Whole.width c.in-Whole.height c.in_err-size.field-0.0 step c.in_err-size.ensures.fault)

pub returns-in_err-next_byte-clause-stays : goal.returns-in_err-next_byte-clause-stays
returns-in_err-next_byte-clause-stays g c =
    let p = err_from_is_err_and c.from_residual-in_err-next_byte.result c.from_residual-in_err-next_byte.ensures.1 in
    rw (p.1, p.2) (inr (held_spent c.args.feed.now c.args.form c.loop-at.feed c.loop-at.at c.loop-at.state c.loop-at.invariant.held c.in_err-next_byte.ensures.spent (omega arith)))

pub returns-in-Some-2-clause-stays : goal.returns-in-Some-2-clause-stays
returns-in-Some-2-clause-stays g c =
    let old = c.args.feed.now in
    let new = c.next_byte-2.new.self in
    held_long old c.args.form c.loop-at.feed new c.loop-at.at c.in-Some-2.field-0 c.loop-at.state
    (held_byte old c.args.form c.loop-at.feed new c.loop-at.at c.loop-at.state c.in_ok-next_byte.field-0 c.in-Some-2.field-0 c.in-Some-2.is c.in_ok-next_byte.ensures.held c.loop-at.invariant.held (omega arith))

pub returns-in-None-clause-stays : goal.returns-in-None-clause-stays
returns-in-None-clause-stays g c =
    let none = none_of c.in_ok-next_byte.field-0 (c.loop-at.feed.unread ≡ []) c.in-None.is c.in_ok-next_byte.ensures.none in
    inr (held_spent c.args.feed.now c.args.form c.loop-at.feed c.loop-at.at c.loop-at.state c.loop-at.invariant.held none (omega arith))
