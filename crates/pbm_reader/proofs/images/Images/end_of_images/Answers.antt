use Rattle.std.proofs.Common.{◌≡◌, ◌<◌, ◌≤◌, ◌∙◌, [], length, arith, rules}
use Rattle.std.proofs.lemmas.Result.{err_from_is_err_and}
use Rattle.pbm_reader.specs.declared.fault.PageFault.TheVariants.{InputTooLong, TooManyImages}
use Rattle.pbm_reader.specs.Reader.{coming, IsNextFault}
use Rattle.pbm_reader.proofs.Taken.{known_map, prepend_nothing}
use Rattle.pbm_reader.proofs.WithinLimit.{last_more, last_long, last_undecided}
use Rattle.pbm_reader.proofs.images.Images.end_of_images.Goals as goal

pub returns-in_err-ends_here-clause-fault : goal.returns-in_err-ends_here-clause-fault
returns-in_err-ends_here-clause-fault g c =
    let p = err_from_is_err_and c.from_residual.result c.from_residual.ensures.1 in
    let old = c.args.self.now in
    let low : old.judged ≤ 268435456 = search rules in
    rw (p.1, p.2) ([], c.in_err-ends_here.ensures.err.0 ∙ prepend_nothing _, last_undecided old.count old.judged c.requires.full low, (λ n. let fewer = n.fewer in omega (arith, fewer, c.requires.full)), c.in_err-ends_here.ensures.none)

pub returns-then-is_full-clause-fault : goal.returns-then-is_full-clause-fault
returns-then-is_full-clause-fault g c =
    let old = c.args.self.now in
    let long : old.judged ≡ 268435456 = search rules in
    known_map (coming old (g.S.Source.view c.args.src.now)) (λ bytes. 0 < length bytes) (λ bytes. IsNextFault old.count old.judged bytes InputTooLong)
    (λ bytes some. last_long old.count old.judged bytes c.requires.full long some) (c.in_ok-ends_here.ensures.more (search rules))

pub returns-clause-fault : goal.returns-clause-fault
returns-clause-fault g c =
    let old = c.args.self.now in
    let low : old.judged < 268435456 = grind arith in
    known_map (coming old (g.S.Source.view c.args.src.now)) (λ bytes. 0 < length bytes) (λ bytes. IsNextFault old.count old.judged bytes TooManyImages)
    (λ bytes some. last_more old.count old.judged bytes c.requires.full low some) (c.in_ok-ends_here.ensures.more (search rules))
