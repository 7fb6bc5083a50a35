use Rattle.std.proofs.Common.{◌≡◌, ℕ, [], ◌∷◌, sym, ◌∙◌, subst, arith, refl}
use Rattle.std.proofs.lemmas.Result.{err_from_is_err_and}
use Rattle.pbm_reader.specs.declared.fault.PageFault.TheVariants.{Truncated}
use Rattle.pbm_reader.specs.declared.plain.PixelStep.TheVariants.{Blank, Found, Wrong}
use Rattle.layout_outside.specs.Taken.{Took, TookAll}
use Rattle.pbm_reader.specs.Plain.{pixel_step, PixelsFail}
use Rattle.pbm_reader.proofs.Taken.{some_of, none_of}
use Rattle.pbm_reader.proofs.PixelLoop.{between_begins, between_on, between_found, between_wrong, between_end, between_unread, between_long}
use Rattle.pbm_reader.proofs.plain.next_pixel.Goals as goal

pub loop-at-init : goal.loop-at-init
loop-at-init g c = record { between = between_begins c.args.feed.now.source c.args.start; same = refl; later = omega arith }

pub returns-in_err-byte-clause-fault : goal.returns-in_err-byte-clause-fault
returns-in_err-byte-clause-fault g c =
    let p = err_from_is_err_and c.from_residual.result c.from_residual.ensures.1 in
    rw (p.1, p.2) (between_unread c.args.feed.now.source c.loop-at.feed.source c.next_byte.new.self.source c.args.start c.loop-at.at c.loop-at.in_comment c.loop-at.invariant.between c.in_err-byte.ensures.err (omega arith))

pub returns-in_default-clause-fault : goal.returns-in_default-clause-fault
returns-in_default-clause-fault g c =
    let old = c.args.feed.now.source in
    let middle = c.loop-at.feed.source in
    let new = c.next_byte.new.self.source in
    let ended = none_of c.in_ok-byte.field-0 (TookAll middle new []) c.in_default.is c.in_ok-byte.ensures.end in
    between_end old middle new c.args.start c.loop-at.at c.loop-at.in_comment c.loop-at.invariant.between ended (omega arith)

pub loop-at-preserved : goal.loop-at-preserved
loop-at-preserved g c =
    let old = c.args.feed.now.source in
    let middle = c.loop-at.feed.source in
    let new = c.next_byte.new.self.source in
    let took = some_of c.in_ok-byte.field-0 c.in-Some.byte (λ byte. Took middle new (byte ∷ [])) c.in-Some.is c.in_ok-byte.ensures.byte in
    let step : pixel_step c.loop-at.in_comment c.in-Some.byte ≡ Blank c.in-Blank.goes_on = sym c.pixel_step.ensures ∙ c.in-Blank.is in
    record {
      between = between_on old middle new c.args.start c.loop-at.at c.in-Some.byte c.loop-at.in_comment c.in-Blank.goes_on c.loop-at.invariant.between took step;
      same = c.next_byte.ensures.same ∙ c.loop-at.invariant.same;
      later = omega arith;
    }

pub returns-in-Found-clause-pixel : goal.returns-in-Found-clause-pixel
returns-in-Found-clause-pixel g c =
    let old = c.args.feed.now.source in
    let middle = c.loop-at.feed.source in
    let new = c.next_byte.new.self.source in
    let took = some_of c.in_ok-byte.field-0 c.in-Some.byte (λ byte. Took middle new (byte ∷ [])) c.in-Some.is c.in_ok-byte.ensures.byte in
    let step : pixel_step c.loop-at.in_comment c.in-Some.byte ≡ Found c.in-Found.is_black = sym c.pixel_step.ensures ∙ c.in-Found.is in
    between_found old middle new c.args.start c.loop-at.at c.in-Some.byte c.loop-at.in_comment c.in-Found.is_black c.loop-at.invariant.between took step (omega arith)

pub returns-in-Wrong-clause-fault : goal.returns-in-Wrong-clause-fault
returns-in-Wrong-clause-fault g c =
    let took = some_of c.in_ok-byte.field-0 c.in-Some.byte (λ byte. Took c.loop-at.feed.source c.next_byte.new.self.source (byte ∷ [])) c.in-Some.is c.in_ok-byte.ensures.byte in
    let step : pixel_step c.loop-at.in_comment c.in-Some.byte ≡ Wrong = sym c.pixel_step.ensures ∙ c.in-Wrong.is in
    between_wrong c.args.feed.now.source c.loop-at.feed.source c.next_byte.new.self.source c.args.start c.loop-at.at c.in-Some.byte c.loop-at.in_comment c.loop-at.invariant.between took step (omega arith)

pub returns-in_err-next_byte-clause-fault : goal.returns-in_err-next_byte-clause-fault
returns-in_err-next_byte-clause-fault g c =
    let p = err_from_is_err_and c.from_residual-in_err-next_byte.result c.from_residual-in_err-next_byte.ensures.1 in
    rw (p.1, p.2) (between_unread c.args.feed.now.source c.loop-at.feed.source c.next_byte-2.new.self.source c.args.start c.loop-at.at c.loop-at.in_comment c.loop-at.invariant.between c.in_err-next_byte.ensures.err (omega arith))

pub returns-in-Some-2-clause-fault : goal.returns-in-Some-2-clause-fault
returns-in-Some-2-clause-fault g c =
    let old = c.args.feed.now.source in
    let middle = c.loop-at.feed.source in
    let new = c.next_byte-2.new.self.source in
    let took = some_of c.in_ok-next_byte.field-0 c.in-Some-2.field-0 (λ byte. Took middle new (byte ∷ [])) c.in-Some-2.is c.in_ok-next_byte.ensures.byte in
    between_long old middle new c.args.start c.loop-at.at c.in-Some-2.field-0 c.loop-at.in_comment c.loop-at.invariant.between took (omega arith)

pub returns-in-None-clause-fault : goal.returns-in-None-clause-fault
returns-in-None-clause-fault g c =
    let old = c.args.feed.now.source in
    let middle = c.loop-at.feed.source in
    let new = c.next_byte-2.new.self.source in
    let ended = none_of c.in_ok-next_byte.field-0 (TookAll middle new []) c.in-None.is c.in_ok-next_byte.ensures.end in
    let limit : c.loop-at.at ≡ 268435456 = omega arith in
    subst (λ (n : ℕ). PixelsFail old new c.args.start 1 (Truncated n)) limit
    (between_end old middle new c.args.start c.loop-at.at c.loop-at.in_comment c.loop-at.invariant.between ended (omega arith))
