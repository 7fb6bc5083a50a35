use Rattle.std.proofs.Common.{ap}
use Rattle.pbm_reader.specs.Reader.{ImagesView}
use Rattle.pbm_reader.proofs.NextLaws.{image_next, given_next, none_next, complete_next, faulty_next}
use Rattle.pbm_reader.proofs.images.Images.next.Goals as goal

pub returns-clause-image : goal.returns-clause-image
returns-clause-image g c =
    let is = c.self.view_is in
    image_next g.R.RowSink.begun g.R.RowSink.given c.args.self.now c.next_size-result.new.self (g.S.Source.view c.args.src.now) (g.S.Source.view c.next_size-result.new.src) c.args.rows.now
    c.next_size-result.new.rows _ c.next_size-result.result (ap (λ (v : ImagesView). v.judged) is) (ap (λ (v : ImagesView). v.count) is) (ap (λ (v : ImagesView). v.held) is)
    (ap (λ (v : ImagesView). v.has_ended) is) c.next_size-result.ensures.image

pub returns-clause-given : goal.returns-clause-given
returns-clause-given g c =
    let n = c.next_size-result.ensures in
    λ bytes told next calm. given_next g.R.RowSink.begun g.R.RowSink.given c.args.self.now c.next_size-result.new.self (g.S.Source.view c.args.src.now) (g.S.Source.view c.next_size-result.new.src)
    c.args.rows.now c.next_size-result.new.rows c.next_size-result.result bytes n.none n.fault n.cause told next calm

pub returns-clause-ends : goal.returns-clause-ends
returns-clause-ends g c =
    λ told. none_next g.R.RowSink.begun g.R.RowSink.given c.args.self.now c.next_size-result.new.self (g.S.Source.view c.args.src.now) (g.S.Source.view c.next_size-result.new.src) c.args.rows.now
    c.next_size-result.new.rows c.next_size-result.result c.next_size-result.ensures.image told

pub returns-clause-complete : goal.returns-clause-complete
returns-clause-complete g c =
    let n = c.next_size-result.ensures in
    λ images bytes were told pages calm. complete_next g.R.RowSink.begun g.R.RowSink.given c.args.self.now c.next_size-result.new.self (g.S.Source.view c.args.src.now)
    (g.S.Source.view c.next_size-result.new.src) c.args.rows.now c.next_size-result.new.rows c.next_size-result.result images bytes n.fault n.cause were told pages calm

pub returns-clause-faulty : goal.returns-clause-faulty
returns-clause-faulty g c =
    let n = c.next_size-result.ensures in
    λ images bytes fault were told has none calm. faulty_next g.R.RowSink.begun g.R.RowSink.given c.args.self.now c.next_size-result.new.self (g.S.Source.view c.args.src.now)
    (g.S.Source.view c.next_size-result.new.src) c.args.rows.now c.next_size-result.new.rows c.next_size-result.result images bytes fault n.image n.none n.fault n.cause n.bounds.0 n.bounds.1 were told has none
    calm
