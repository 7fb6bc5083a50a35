use Rattle.std.proofs.Common.{◌≡◌, ℕ, List, [], ◌∷◌, length, sym, ap, subst, ◌∙◌, arith}
use Rattle.std.specs.Io.KnownBytes.{prepend_known, IsAtEnd}
use Rattle.layout_outside.specs.Taken.{Took, TookAll}
use Rattle.pbm_reader.specs.Feed.{whole}
use Rattle.pbm_reader.specs.Reader.{ImagesView, coming, EndsHere}
use Rattle.pbm_reader.proofs.Taken.{prepend_nothing}
use Rattle.pbm_reader.proofs.Coming.{held_coming, piece_ended, next_map, none_map, on_err_map}
use Rattle.pbm_reader.proofs.images.Images.take_byte.Goals as goal

pub returns-clause-byte : goal.returns-clause-byte
returns-clause-byte g c =
    let source = g.S.Source.view c.args.src.now in
    let later = g.S.Source.view c.next_byte.new.src in
    let last = c.next_byte.new.self in
    let n = c.next_byte.ensures in
    next_map c.next_byte.result (λ byte. Took (whole c.limit.new.self source) (whole last later) (byte ∷ []))
    (λ byte. coming c.args.self.now source ≡ prepend_known (byte ∷ []) (prepend_known last.unread later.left))
    (λ byte took. held_coming _ c.args.self.now c.limit.new.self last _ source later (byte ∷ []) c.self.view_is c.limit.ensures.unread c.limit.ensures.room n.limited took n.unseen) n.byte

pub returns-clause-err : goal.returns-clause-err
returns-clause-err g c =
    let source = g.S.Source.view c.args.src.now in
    let later = g.S.Source.view c.next_byte.new.src in
    let last = c.next_byte.new.self in
    on_err_map c.next_byte.result (Took (whole c.limit.new.self source) (whole last later) []) (coming c.args.self.now source ≡ prepend_known last.unread later.left)
    (λ took.
    held_coming _ c.args.self.now c.limit.new.self last _ source later [] c.self.view_is c.limit.ensures.unread c.limit.ensures.room c.next_byte.ensures.limited took c.next_byte.ensures.unseen
    ∙ sym (prepend_nothing (prepend_known last.unread later.left)))
    c.next_byte.ensures.err

pub returns-clause-none : goal.returns-clause-none
returns-clause-none g c =
    let source = g.S.Source.view c.args.src.now in
    let later = g.S.Source.view c.next_byte.new.src in
    let first = c.limit.new.self in
    let last = c.next_byte.new.self in
    let n = c.next_byte.ensures in
    let s = c.self.inside in
    let new : ImagesView = record { judged = s.judged; count = s.count; held = last.unread; is_open = s.is_open; gave_byte = s.gave_byte; has_ended = s.has_ended } in
    none_map c.next_byte.result (TookAll (whole first source) (whole last later) []) ((last.room ≡ first.room) × (first.unread ≡ [])) (EndsHere c.args.self.now new source later)
    (λ took none.
    let nothing : s.piece.unread ≡ [] = sym c.limit.ensures.unread ∙ none.1 in
    let e = piece_ended last _ later (none.0 ∙ c.limit.ensures.room) (let low = c.requires.low in omega (arith, low, ap (λ (v : ImagesView). v.judged) c.self.view_is, c.len.ensures, ap length nothing)) took.end in
    let comes : coming c.args.self.now source ≡ prepend_known [] (prepend_known last.unread later.left) =
    held_coming _ c.args.self.now first last _ source later [] c.self.view_is c.limit.ensures.unread c.limit.ensures.room n.limited took.took n.unseen in
    let left : prepend_known [] (prepend_known last.unread later.left) ≡ later.left =
    sym (prepend_nothing (prepend_known last.unread later.left)) ∙ ap (λ (l : List ℕ). prepend_known l later.left) e.0 ∙ sym (prepend_nothing later.left) in
    record { nothing = subst IsAtEnd (sym (comes ∙ left)) e.1.nothing; took = comes ∙ sym (prepend_nothing (prepend_known last.unread later.left)); none = e.0; ended = e.1 })
    n.end n.none
