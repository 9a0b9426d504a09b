use Rattle.std.proofs.Common.{◌≡◌, replicate}
use Rattle.s0_session.specs.Nonces.{unused}
use Rattle.s0_session.proofs.book.NonceBook.new.Given as goal

abbrev pub invariant-loop : goal.invariant-loop
invariant-loop l = l.accounts.items ≡ replicate l.counter unused
