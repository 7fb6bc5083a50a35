use Rattle.std.proofs.Common.{ℕ, ◌*◌, ◌≤◌}
use Rattle.std.proofs.Math.Nat.{mul-le-mul}
use Rattle.whitespace_cover.proofs.pivot.effort.Goals as goal

-- a square of at most 8192 times 8192
square : (w h : ℕ) → w ≤ 8192 → h ≤ 8192 → (w * h) * (w * h) ≤ 4503599627370496
square w h wide high =
    let area : w * h ≤ 67108864 = mul-le-mul wide high in
    mul-le-mul area area

pub returns : goal.returns
returns c = square c.args.width c.args.height c.requires.wide c.requires.high
