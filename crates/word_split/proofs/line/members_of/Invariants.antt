use Rattle.std.proofs.Common.{take}
use Rattle.word_split.specs.Members.{AreMembers}
use Rattle.word_split.proofs.line.members_of.Given as goal

abbrev pub invariant-loop-position : goal.invariant-loop-position
invariant-loop-position l = AreMembers l.boxes (take l.position-index l.members) l.given.items
