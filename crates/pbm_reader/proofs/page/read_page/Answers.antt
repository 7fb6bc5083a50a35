use Rattle.std.proofs.Common.{◌≡◌, [], ◌∙◌, rules}
use Rattle.pbm_reader.specs.Feed.{with_unread}
use Rattle.pbm_reader.proofs.Fed.{left_first, calm_fed, refuses_from}
use Rattle.pbm_reader.proofs.TopRows.{top_from}
use Rattle.pbm_reader.proofs.WholePage.{only_memory, only_fault}
use Rattle.pbm_reader.proofs.page.read_page.Goals as goal

pub returns-clause-complete : goal.returns-clause-complete
returns-clause-complete g c =
    let old = g.S.Source.view c.args.src.now in
    let begins : c.new-feed.result.source ≡ with_unread [] old = search rules in
    λ input told page calm.
    only_memory c.new-feed.result.source c.read_from-result.new.feed.source c.read_from-result.result input c.read_from-result.ensures.fault c.read_from-result.ensures.cause
    (left_first old c.new-feed.result.source begins ∙ told) page (calm_fed old c.new-feed.result.source c.read_from-result.new.feed.source _ begins (search rules) calm)

pub returns-clause-faulty : goal.returns-clause-faulty
returns-clause-faulty g c =
    let old = g.S.Source.view c.args.src.now in
    let begins : c.new-feed.result.source ≡ with_unread [] old = search rules in
    λ input fault told has calm.
    only_fault g.R.RowSink.begun g.R.RowSink.given c.new-feed.result.source c.read_from-result.new.feed.source c.args.rows.now c.read_from-result.new.rows c.read_from-result.result input fault
    c.read_from-result.ensures.page c.read_from-result.ensures.fault c.read_from-result.ensures.cause
    (left_first old c.new-feed.result.source begins ∙ told) has (calm_fed old c.new-feed.result.source c.read_from-result.new.feed.source _ begins (search rules) calm)

pub returns-clause-top : goal.returns-clause-top
returns-clause-top g c =
    let old = g.S.Source.view c.args.src.now in
    let begins : c.new-feed.result.source ≡ with_unread [] old = search rules in
    top_from g.R.RowSink.begun g.R.RowSink.given g.R.RowSink.unchanged old _ c.new-feed.result.source c.read_from-result.new.feed.source c.read_from-result.new.feed.unread
    c.args.rows.now c.read_from-result.new.rows c.read_from-result.result (left_first old c.new-feed.result.source begins) (search rules) c.read_from-result.ensures.top

pub returns-clause-fault : goal.returns-clause-fault
returns-clause-fault g c =
    let old = g.S.Source.view c.args.src.now in
    let begins : c.new-feed.result.source ≡ with_unread [] old = search rules in
    refuses_from old (g.S.Source.view _) c.new-feed.result.source c.read_from-result.new.feed.source c.read_from-result.new.feed.unread c.read_from-result.result (left_first old c.new-feed.result.source begins) (search rules) c.read_from-result.ensures.drained
    c.read_from-result.ensures.fault
