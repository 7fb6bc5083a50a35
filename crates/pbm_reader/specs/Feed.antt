-- A source within a call of the reader, behind the piece that was read of it last.
use Rattle.std.specs.Prelude.{ℕ, Bool, true, false, ◌==◌, ◌||◌, List, [], ◌∷◌, take, drop, Option, Some, None, option_map}
use Rattle.std.specs.Io.KnownBytes.{prepend_known}
use Rattle.layout_outside.specs.Views.{SourceView}

-- a source has not ended while bytes are unread
abbrev pub ended_behind : List ℕ → Bool → Bool
ended_behind [] ended = ended
ended_behind (byte ∷ unread) ended = false

-- the source with these bytes before what it has left
abbrev pub with_unread : List ℕ → SourceView → SourceView
with_unread unread source = record {
  left = prepend_known unread source.left;
  faults = source.faults;
  ended = ended_behind unread source.ended;
}

-- the source as it is seen where only so many bytes may be read of it: it ends behind them
abbrev pub seen : Option ℕ → SourceView → SourceView
seen None source = source
seen (Some room) source = record {
  left = option_map (λ bytes. take room bytes) source.left;
  faults = source.faults;
  ended = room == 0 || source.ended;
}

-- what is left behind the bytes that may be read
abbrev pub unseen : Option ℕ → SourceView → Option (List ℕ)
unseen None source = None
unseen (Some room) source = option_map (λ bytes. drop room bytes) source.left

abbrev pub is_limited : Option ℕ → Bool
is_limited None = false
is_limited (Some room) = true

-- A piece: its unread bytes; how many bytes may still be read behind them, where that is limited; and how many bytes it can hold.
pub record PieceView : Type 0 where
  pub unread : List ℕ
  pub room : Option ℕ
  pub space : ℕ

-- a source, as it is seen, with the unread bytes of a piece
abbrev pub whole : PieceView → SourceView → SourceView
whole piece source = with_unread piece.unread (seen piece.room source)

-- What no call of a feed changes: the name of the borrow of its source, by which a caller knows that a feed still has the source that
-- it was made of; whether what may be read is limited; what is left behind that; and how many bytes its piece can hold.
pub record Loan : Type 0 where
  pub name : ℕ
  pub is_limited : Bool
  pub unseen : Option (List ℕ)
  pub space : ℕ

-- A feed: its source itself; how that is seen, with the unread bytes of the piece; those bytes; and its loan.
pub record FeedView (Own : Type 0) : Type 0 where
  pub own : Own
  pub source : SourceView
  pub unread : List ℕ
  pub borrow : Loan

-- the feed of a source and a piece
abbrev pub fed : {Own : Type 0} → ℕ → Own → SourceView → PieceView → FeedView Own
fed name own source piece = record {
  own = own;
  source = whole piece source;
  unread = piece.unread;
  borrow = record { name = name; is_limited = is_limited piece.room; unseen = unseen piece.room source; space = piece.space };
}
