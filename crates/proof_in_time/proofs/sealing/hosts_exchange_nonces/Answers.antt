-- Each clause is a lemma on a host, over what it takes and what it makes of a Nonce Get.
use Rattle.std.proofs.Common.{refl}
use Rattle.proof_in_time.specs.Exchange.{IsForLive, OffersLive}
use Rattle.proof_in_time.proofs.SealedHosts.{get_offers, get_starts, none_waits, nonce_seals, offer_goes, sealed_over, text_gives}
use Rattle.proof_in_time.proofs.sealing.hosts_exchange_nonces.Goals as goal

pub returns-clause-starts : goal.returns-clause-starts
returns-clause-starts c = get_starts

pub returns-clause-takes : goal.returns-clause-takes
returns-clause-takes c = nonce_seals c.exchanges_go_on.ensures.takes

pub returns-clause-gives : goal.returns-clause-gives
returns-clause-gives c = λ n session passes ticks m device event payload. text_gives n passes ticks m event payload (IsForLive session device)

pub returns-clause-asked : goal.returns-clause-asked
returns-clause-asked c = get_offers c.exchanges_go_on.ensures.asked

pub returns-clause-offers : goal.returns-clause-offers
returns-clause-offers c = λ n passes ticks m event nonce paid waits no_text live.
    offer_goes n passes ticks m event nonce (OffersLive n m.host.state) paid waits no_text (record { nonce = nonce; live = live; is = refl })

pub returns-clause-ends : goal.returns-clause-ends
returns-clause-ends c = sealed_over

pub returns-clause-owes : goal.returns-clause-owes
returns-clause-owes c = none_waits
