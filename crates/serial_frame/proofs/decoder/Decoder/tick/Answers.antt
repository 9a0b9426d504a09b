use Rattle.std.proofs.Common.{◌≡◌, ◌+◌, ap, arith}
use Rattle.serial_frame.specs.Stream.{Rest}
use Rattle.serial_frame.proofs.Feeding.{nothing_held, something_held}
use Rattle.serial_frame.proofs.Streams.{goes-idle, goes-tick, goes-abort}
use Rattle.serial_frame.proofs.decoder.Decoder.tick.Goals as goal

pub returns-then-self-eq0-clause-stream : goal.returns-then-self-eq0-clause-stream
returns-then-self-eq0-clause-stream c =
    goes-idle c.args.self.now (nothing_held _ c.self.inside.held _ (ap (λ (r : Rest). r.bytes) c.self.view_is) c.if-self-eq0.true)

pub returns-then-self-lt-ABORT_TICKS-clause-stream : goal.returns-then-self-lt-ABORT_TICKS-clause-stream
returns-then-self-lt-ABORT_TICKS-clause-stream c =
    let bytes = ap (λ (r : Rest). r.bytes) c.self.view_is in
    let ticks : c.self.inside.ticks ≡ c.args.self.now.ticks = ap (λ (r : Rest). r.ticks) c.self.view_is in
    goes-tick c.args.self.now _
    (something_held c.self.inside.len c.self.inside.held _ bytes (omega (arith, c.self.told, c.self.invariant.room)) c.if-self-eq0.false)
    bytes (ap (λ n. n + 1) ticks) (omega (arith, c.if-self-lt-ABORT_TICKS.true))

pub returns-clause-stream : goal.returns-clause-stream
returns-clause-stream c =
    let bytes = ap (λ (r : Rest). r.bytes) c.self.view_is in
    let ticks : c.self.inside.ticks ≡ c.args.self.now.ticks = ap (λ (r : Rest). r.ticks) c.self.view_is in
    goes-abort c.args.self.now
    (something_held c.self.inside.len c.self.inside.held _ bytes (omega (arith, c.self.told, c.self.invariant.room)) c.if-self-eq0.false)
    (omega (arith, ticks, c.self.invariant.is_rest.ticks, c.if-self-lt-ABORT_TICKS.false))
