use Rattle.std.proofs.Common.{sym, subst, List, All}
use Rattle.box_search.specs.declared.space.Node.{Node}
use Rattle.whitespace_cover.specs.declared.region.Region.{Region}
use Rattle.whitespace_cover.specs.Problem.{white_numbers}
use Rattle.whitespace_cover.specs.Regions.{FitsWhite}
use Rattle.layout_cases.proofs.cases.word.bound_word_by_hand.Goals as goal

pub settle-requires-clause-fits : goal.settle-requires-clause-fits
settle-requires-clause-fits g c κs = subst (λ (xs : List (Node Region)). All (FitsWhite (white_numbers c.in_ok-white.white)) xs) (sym c.deref.ensures.value) c.in_ok-parts.ensures.fits

pub settle-requires-3-clause-fits : goal.settle-requires-3-clause-fits
settle-requires-3-clause-fits g c κs = subst (λ (xs : List (Node Region)). All (FitsWhite (white_numbers c.in_ok-white.white)) xs) (sym c.deref-3.ensures.value) c.in_ok-parts.ensures.fits

pub settle-requires-2-clause-fits : goal.settle-requires-2-clause-fits
settle-requires-2-clause-fits g c κs = subst (λ (xs : List (Node Region)). All (FitsWhite (white_numbers c.in_ok-white.white)) xs) (sym c.deref-2.ensures.value) c.in_ok-parts.ensures.fits
