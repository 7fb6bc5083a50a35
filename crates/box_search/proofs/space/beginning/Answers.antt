use Rattle.box_search.proofs.Searching.{searched_start}
use Rattle.box_search.proofs.space.beginning.Goals as goal
use Rattle.box_search.proofs.space.beginning.Goals.{in-Some+in_ok-push, in_default}

pub returns : goal.returns
returns g c =
    let p = g.S.Space.problem c.args.space.now in
    let start = searched_start (g.S.Space.admits p) (g.S.Space.lies_in p) (g.S.Space.fits p) c.in_ok-root.field-0 c.in_ok-root.ensures.root in
    elim c.match-branch-2.branch [
      | in-Some+in_ok-push w ↦ record { covering = rw (w.nodes-is, w.in_ok-push.ensures.items, c.new-nodes.ensures.items) (rw w.in-Some.is at start) }
      | in_default w ↦ record { covering = rw (w.nodes-is, c.new-nodes.ensures.items) (rw w.in_default.is at start) }
    ]
