use Rattle.std.proofs.Common.{◌≡◌, ◌-◌, ℕ, List, ◌++◌, length, Option, Some, take, drop, sym, ap, subst, ◌∙◌, arith}
use Rattle.std.proofs.lemmas.List.{take_at}
use Rattle.layout_outside.specs.Taken.{Took}
use Rattle.pbm_reader.specs.Feed.{PieceView, seen, unseen}
use Rattle.pbm_reader.proofs.Seen.{seen_part, unseen_part}
use Rattle.pbm_reader.proofs.feed.Piece.refill.Goals as goal

pub returns-in_ok-self-inside-in-Some-clause-bytes : goal.returns-in_ok-self-inside-in-Some-clause-bytes
returns-in_ok-self-inside-in-Some-clause-bytes g c =
    let old = g.S.Source.view c.args.src.now in
    let new = g.S.Source.view c.read_within.new.src in
    let room = c.in-Some.room in
    let count = c.in_ok-self-inside-in-Some.field-0 in
    let read = c.in_ok-self-inside-in-Some.ensures.read in
    let limit : c.args.self.now.room ≡ Some room = ap (λ (v : PieceView). v.room) (sym c.self.view_is) ∙ c.in-Some.is in
    let P : Option ℕ → Type 0 = λ r. Took (seen r old) (seen (Some (room - count)) new) (take (count - 0) (take c.self.inside.bytes.len (c.read_within.new.bytes ++ drop (length c.read_within.new.bytes) c.self.inside.bytes.items))) in
    let R : List ℕ → Type 0 = λ l. Took (seen (Some room) old) (seen (Some (room - count)) new) (take (count - 0) l) in
    let whole = take_at c.read_within.new.bytes (drop (length c.read_within.new.bytes) c.self.inside.bytes.items) c.self.inside.bytes.len (omega arith) in
    let Q : ℕ → Type 0 = λ n. Took (seen (Some room) old) (seen (Some (room - count)) new) (take n c.read_within.new.bytes) in
    let all : count ≡ count - 0 = omega arith in
    subst P (sym limit) (subst R (sym whole) (subst Q all (seen_part old new c.read_within.new.bytes room count c.in_ok-self-inside-in-Some.ensures.fits read.bound read.bytes)))

pub returns-in_ok-self-inside-in-Some-clause-unseen : goal.returns-in_ok-self-inside-in-Some-clause-unseen
returns-in_ok-self-inside-in-Some-clause-unseen g c =
    let room = c.in-Some.room in
    let read = c.in_ok-self-inside-in-Some.ensures.read in
    subst (λ (r : Option ℕ). unseen (Some (room - c.in_ok-self-inside-in-Some.field-0)) (g.S.Source.view c.read_within.new.src) ≡ unseen r (g.S.Source.view c.args.src.now)) (sym (ap (λ (v : PieceView). v.room) (sym c.self.view_is) ∙ c.in-Some.is)) (unseen_part (g.S.Source.view c.args.src.now) (g.S.Source.view c.read_within.new.src) c.read_within.new.bytes room c.in_ok-self-inside-in-Some.field-0 c.in_ok-self-inside-in-Some.ensures.fits read.bound read.bytes)
