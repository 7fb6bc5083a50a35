use Rattle.std.proofs.Common.{◌≡◌, Contains, vec_len, inl, inr, refl, arith, rules}
use Rattle.layout_outside.proofs.mem_sink.MemSinkSink.write.Goals as goal
use Rattle.layout_outside.proofs.mem_sink.MemSinkSink.write.Goals.{then-room-eq0-via-then-room-eq0, then-room-eq0-via-else-room-eq0+then-contains}

-- a call without room, or one that is told to fail
pub returns-then-room-eq0-clause-fails : goal.returns-then-room-eq0-clause-fails
returns-then-room-eq0-clause-fails c =
    elim c.then-room-eq0.branch [
      | then-room-eq0-via-then-room-eq0 w ↦
          let full : c.args.self.now.room ≡ vec_len c.args.self.now.bytes = omega (arith, w.if-room-eq0.true) in
          (λ _. inr full, λ _. refl)
      | then-room-eq0-via-else-room-eq0+then-contains w ↦
          let told : Contains c.args.self.now.fails.items c.args.self.now.calls = search rules in
          (λ _. inl told, λ _. refl)
    ]
