-- What is sealed is what would be sealed for that nonce.
use Rattle.std.proofs.Common.{◌≡◌, ℕ, List, Option, Some, None, Ok, refl, ap, sym, ◌∙◌}
use Rattle.s0_session.specs.Sending.{Sending, SealsPending, WouldSeal}
use Rattle.s0_session.proofs.sender.Sender.offer.Goals as goal

pub returns-clause-sealed : goal.returns-clause-sealed
returns-clause-sealed c = λ bytes e.
    let would = c.in_ok-bytes.ensures.sealed bytes (ap (λ (b : Option (List ℕ)). Ok b) c.in-Some-2.is ∙ e) in
    record {
      plain = would.plain;
      was_pending = would.is_pending;
      seals = would.seals;
      counts = sym c.in_ok-seen.ensures.ok ∙ c.in-Some.is;
      after = ap (λ (s : Sending). record s { seen = c.in-Some.seen; pending = None }) c.self.view_is;
    }
