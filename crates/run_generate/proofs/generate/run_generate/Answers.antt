-- The summary, written whole or in part.
use Rattle.std.proofs.Common.{List, ℕ, subst}
use Rattle.std.specs.Io.KnownBytes.{Appends}
use Rattle.run_lines.specs.Writing.{AppendsPrefix}
use Rattle.run_generate.proofs.generate.run_generate.Goals as goal

pub returns-in-Ok-write_piece-clause-ran : goal.returns-in-Ok-write_piece-clause-ran
returns-in-Ok-write_piece-clause-ran g c = (
  _,
  c.in-Ok.ensures.ok,
  subst (λ (bytes : List ℕ). Appends (g.K.Sink.written c.args.sink.now) (g.K.Sink.written c.write_piece.new.sink) bytes) c.as_slice.ensures c.in-Ok-write_piece.ensures.written,
)

pub returns-in-Ok-clause-ran : goal.returns-in-Ok-clause-ran
returns-in-Ok-clause-ran g c = (
  _,
  c.in-Ok.ensures.ok,
  subst (λ (bytes : List ℕ). AppendsPrefix (g.K.Sink.written c.args.sink.now) (g.K.Sink.written c.write_piece.new.sink) bytes) c.as_slice.ensures c.in-Err-write_piece.ensures.prefix,
)
