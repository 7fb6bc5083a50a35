use Rattle.std.proofs.Common.{◌≡◌, sym, ap, ◌∙◌, subst, List, ℤ, []}
use Rattle.frontier_turn.specs.Views.{View}
use Rattle.std.specs.List.Sorted.{IsPermutation}
use Rattle.box_search.specs.declared.lease.Entry.{Entry}
use Rattle.frontier_turn.specs.Holding.{leases_of, NamesOnly, TakesFitting}
use Rattle.frontier_turn.proofs.Working.{names_only, nil_from_nil}
use Rattle.search_trials.proofs.by_hand.take_lease.Goals as goal

pub returns-clause-named : goal.returns-clause-named
returns-clause-named g c =
    let S = g.S.Space in
    let take = c.lease-take in
    let p = c.args.shared.now.problem in
    let none : leases_of c.enter-turn.result ≡ [] = nil_from_nil (leases_of c.enter-turn.result) (subst (λ (es : List Entry). IsPermutation es (leases_of c.enter-turn.result)) c.requires.unnamed c.enter-turn.ensures.leases) in
    let same : c.enter-turn.result.view.rest.problem ≡ p = ap (λ (v : View). v.rest.problem) c.enter-turn.ensures.view.1 ∙ c.requires.own.1 in
    let fit = subst (λ (q : List ℤ). TakesFitting (S.fits q) take.result) same take.ensures.fits in
    subst (NamesOnly (S.fits p) take.result) (sym (ap (λ (v : View). v.rest.leases) c.leave.ensures.view))
    (names_only (S.fits p) c.enter-turn.result take.new.self take.result none take.ensures.names fit)
