-- Bytes that are copied from a piece to a buffer.
use Rattle.std.proofs.Common.{◌≡◌, ℕ, ◌+◌, ◌-◌, ◌≤◌, List, ◌++◌, length, take, drop, sym, ap, ◌∙◌, arith}
use Rattle.std.proofs.Math.Seq.{take-add, take-append-add}
use Rattle.std.proofs.lemmas.List.{take_at, length-drop, length-take, length-take-le, take-append-le, drop-drop}
use borrow.Rule.Slice.PartMut.{put_mid, post_of}

-- unread bytes were copied from a piece to the front of a buffer
pub copied_front : (bytes buf piece : List ℕ) (at end count : ℕ) → at + count ≤ end → end ≤ length bytes → piece ≡ take (at + count - at) (drop at bytes)
    → take (end - at) (drop at bytes) ≡ take count (piece ++ drop count buf) ++ take (end - (at + count)) (drop (at + count) bytes)
copied_front bytes buf piece at end count fits within copied =
    let unread = drop at bytes in
    let more = end - (at + count) in
    let same : at + count - at ≡ count = omega arith in
    let all : end - at ≡ count + more = omega arith in
    let is : piece ≡ take count unread = copied ∙ ap (λ (n : ℕ). take n unread) same in
    let len : length piece ≡ count = omega (arith, ap length is, length-take count unread, length-drop at bytes) in
    ap (λ (n : ℕ). take n unread) all
    ∙ take-add count more unread
    ∙ ap (λ (l : List ℕ). l ++ take more (drop count unread)) (sym is ∙ sym (take_at piece (drop count buf) count len))
    ∙ ap (λ (l : List ℕ). take count (piece ++ drop count buf) ++ take more l) (drop-drop count at bytes)

-- bytes were written to the part of a buffer behind its front
pub take_behind_part : (buf part : List ℕ) (at len count : ℕ) → at ≤ length buf → count ≤ length part
    → take (at + count) (put_mid at len buf part) ≡ take at buf ++ take count part
take_behind_part buf part at len count within fits =
    let front = take at buf in
    let after = post_of at len buf in
    let size : length front ≡ at = length-take-le at buf within in
    ap (λ (n : ℕ). take (n + count) (front ++ (part ++ after))) (sym size)
    ∙ take-append-add front (part ++ after) count
    ∙ ap (λ (l : List ℕ). front ++ l) (take-append-le count part after fits)
