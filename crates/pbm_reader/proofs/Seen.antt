-- A source of which only so many bytes are seen.
use Rattle.std.proofs.Common.{◌≡◌, ℕ, ◌+◌, ◌-◌, ◌≤◌, List, ◌++◌, length, take, drop, Option, Some, None, sym, ap, ◌∙◌, arith}
use Rattle.std.specs.Prelude.{option_map}
use Rattle.std.proofs.Math.Seq.{take-append-add, drop-append-add}
use Rattle.std.proofs.lemmas.List.{length-take-le}
use Rattle.std.specs.Io.KnownBytes.{prepend_known}
use Rattle.layout_outside.specs.Views.{SourceView}
use Rattle.layout_outside.specs.Taken.{Took}
use Rattle.pbm_reader.specs.Feed.{seen, unseen}

front_of : (left after : Option (List ℕ)) (part : List ℕ) (room count : ℕ) → count ≤ room → length part ≡ count → left ≡ prepend_known part after
    → option_map (λ bytes. take room bytes) left ≡ prepend_known part (option_map (λ bytes. take (room - count) bytes) after)
front_of left None part room count fits len e = ap (λ (k : Option (List ℕ)). option_map (λ bytes. take room bytes) k) e
front_of left (Some after) part room count fits len e =
    let all : room ≡ length part + (room - count) = omega (arith, fits, len) in
    ap (λ (k : Option (List ℕ)). option_map (λ bytes. take room bytes) k) e
    ∙ ap (λ (n : ℕ). let o : Option (List ℕ) = Some (take n (part ++ after)) in o) all
    ∙ ap (λ (l : List ℕ). Some l) (take-append-add part after (room - count))

back_of : (left after : Option (List ℕ)) (part : List ℕ) (room count : ℕ) → count ≤ room → length part ≡ count → left ≡ prepend_known part after
    → option_map (λ bytes. drop (room - count) bytes) after ≡ option_map (λ bytes. drop room bytes) left
back_of left None part room count fits len e = sym (ap (λ (k : Option (List ℕ)). option_map (λ bytes. drop room bytes) k) e)
back_of left (Some after) part room count fits len e =
    let all : room ≡ length part + (room - count) = omega (arith, fits, len) in
    sym (ap (λ (k : Option (List ℕ)). option_map (λ bytes. drop room bytes) k) e
    ∙ ap (λ (n : ℕ). let o : Option (List ℕ) = Some (drop n (part ++ after)) in o) all
    ∙ ap (λ (l : List ℕ). Some l) (drop-append-add part after (room - count)))

-- a read takes what it puts at the front of a buffer from what is seen, and nothing from what is not
pub seen_part : (old new : SourceView) (buf : List ℕ) (room count : ℕ) → count ≤ room → count ≤ length buf → old.left ≡ prepend_known (take count buf) new.left
    → Took (seen (Some room) old) (seen (Some (room - count)) new) (take count buf)
seen_part old new buf room count fits within e = front_of old.left new.left (take count buf) room count fits (length-take-le count buf within) e

pub unseen_part : (old new : SourceView) (buf : List ℕ) (room count : ℕ) → count ≤ room → count ≤ length buf → old.left ≡ prepend_known (take count buf) new.left
    → unseen (Some (room - count)) new ≡ unseen (Some room) old
unseen_part old new buf room count fits within e = back_of old.left new.left (take count buf) room count fits (length-take-le count buf within) e
