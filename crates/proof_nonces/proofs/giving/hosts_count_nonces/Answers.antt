-- The walk over the requests of the host, its keys and what it has to seal.
use Rattle.s0_crypto.specs.declared.key_pair.Keys.{Keys}
use Rattle.proof_notes.specs.proof_attempts.Since.{AlongRuns}
use Rattle.proof_notes.proofs.Lasting.{along}
use Rattle.zw_base.proofs.Each.{all-left}
use Rattle.proof_notes.specs.proof_known.law_host.Nonces.{IsOffer}
use Rattle.proof_nonces.specs.Giving.{NotBelow}
use Rattle.proof_nonces.proofs.Ordered.{ordered-left}
use Rattle.proof_nonces.specs.Counted.{CountingGround, KnowsNonces}
use Rattle.proof_nonces.proofs.Counting.{counting_walk, first_nonces}
use Rattle.proof_nonces.proofs.Grounds.{ground_along}
use Rattle.proof_nonces.proofs.giving.hosts_count_nonces.Goals as goal

module _ (c : goal.After-hosts_seal_once) where
  ground : (keys : Keys) → AlongRuns keys (CountingGround keys)
  ground keys = λ here told m run. (
    ground_along keys (c.hosts_ask_as_told.ensures.run keys) c.hosts_know_what_was_told.ensures.walk (c.hosts_know_what_was_told.ensures.first keys) here told m run,
    c.hosts_seal_once.ensures.known keys here told m run,
  )

  known : (keys : Keys) → AlongRuns keys (KnowsNonces keys)
  known keys =
      let laws = c.attempts_have_what_they_give.ensures in
      let leave = c.hosts_leave_nonces.ensures in
      along keys (CountingGround keys) (KnowsNonces keys) (ground keys)
      (counting_walk keys (record { starts = laws.first_payload; segments = laws.segment_payload; texts = laws.text_payload })
      (record { aside = leave.aside; starts = leave.starts; seals = leave.seals; sends = leave.sends }) c.texts_give_one_thing.ensures.one) (first_nonces keys keys)

pub returns-clause-told : goal.returns-clause-told
returns-clause-told c = λ keys told run.
    let so = known c keys run.0 told run.1 run.2 in
    record {
      drawn = so.drawn;
      seven = so.seven;
      offers = so.gives.offers;
      reports = so.gives.reports;
      given = all-left (IsOffer so.drawn) so.gives.offers so.gives.waiting so.gives.given;
      in_order = ordered-left NotBelow so.gives.offers so.gives.waiting so.gives.in_order;
      openings = so.opens.openings;
      apart = so.opens.apart;
      tells = so.opens.tells;
    }

pub returns-clause-known : goal.returns-clause-known
returns-clause-known c = λ keys here told m run. known c keys here told m run
