use Rattle.std.proofs.Common.{[], ◌∷◌, refl, inl, inr, sym, arith}
use Rattle.std.specs.Prelude.{codes, take}
use Rattle.class_info.specs.InfoReading.{nonce_at}
use Rattle.host_heard.specs.declared.told.Told.TheVariants.{NonceGet, NonceReport}
use Rattle.law_transcript.specs.Nodes.{listing_of, always}
use Rattle.law_transcript.specs.Payloads.{IsToldSealed}
use Rattle.law_transcript.specs.Worked.{bytes, plain_exchange, repeated_exchange, lossy_exchange, cancelled_order, restarted_host, sleeping_node, sealed_exchange, long_message, the_switch, the_sensor, the_lock, the_plug, network_key}
use Rattle.law_transcript.specs.WorkedCases.{nonce_asked_sealed, nonce_given_sealed, nonces_wrapped, set_asked, get_asked, nonces_counted, sent_by_old_list, set_by_old_list, the_dimmer}
use Rattle.law_transcript.proofs.Entries.{sends_what_is_due}
use Rattle.law_transcript.proofs.Sealing.{by_lock, get_code, get_plain, get_text, given_code, given_plain, given_text, set_own, set_nonce, report_nonce, report_own, sealed_get, sealed_given, sealed_set}
use Rattle.law_transcript.proofs.Computing.{computing}
use Rattle.law_transcript.proofs.wire.worked_payloads.Goals as goal

pub returns-clause-plain : goal.returns-clause-plain
unfolding computing
returns-clause-plain c = sends_what_is_due (always (listing_of (the_switch ∷ []))) [] plain_exchange ((inl refl, tt), tt)

pub returns-clause-repeated : goal.returns-clause-repeated
unfolding computing
returns-clause-repeated c = sends_what_is_due (always (listing_of (the_switch ∷ []))) [] repeated_exchange ((inl refl, tt), ((inl refl, tt), tt))

pub returns-clause-lossy : goal.returns-clause-lossy
unfolding computing
returns-clause-lossy c = sends_what_is_due (always (listing_of (the_switch ∷ []))) [] lossy_exchange ((inl refl, tt), ((inl refl, tt), ((inl refl, tt), ((inl refl, tt), ((inl refl, tt), tt)))))

pub returns-clause-cancelled : goal.returns-clause-cancelled
unfolding computing
returns-clause-cancelled c = sends_what_is_due (always (listing_of (the_switch ∷ []))) [] cancelled_order ((inl refl, tt), tt)

pub returns-clause-restarted : goal.returns-clause-restarted
unfolding computing
returns-clause-restarted c = sends_what_is_due (always (listing_of (the_switch ∷ []))) [] restarted_host ((inl refl, tt), ((inl refl, tt), ((inl refl, tt), ((inl refl, tt), tt))))

pub returns-clause-sleeping : goal.returns-clause-sleeping
unfolding computing
returns-clause-sleeping c = sends_what_is_due (always (listing_of (the_sensor ∷ []))) [] sleeping_node ((inr (inr (inr (inl refl))), tt), ((inl refl, tt), ((inr (inr (inr (inl refl))), tt), tt)))

pub returns-clause-sealed : goal.returns-clause-sealed
unfolding computing nonce_at
returns-clause-sealed c = sends_what_is_due (always (listing_of (the_lock ∷ []))) network_key sealed_exchange (
  (inr (inl refl), tt),
  (
    (inr (inl refl), tt),
    (
      (
        inl (record {
          own = set_own;
          nonce = set_nonce;
          given = inl (inl refl);
          own_eight = refl;
          eight = refl;
          text = sym sealed_set;
        }),
        tt,
      ),
      (
        (
          inr (inr (inl (record {
            nonce = report_nonce;
            eight = refl;
            asked = inl (inr (inl refl));
            text = refl;
          }))),
          tt,
        ),
        tt,
      ),
    ),
  ),
)

pub returns-clause-cut : goal.returns-clause-cut
unfolding computing
returns-clause-cut c = sends_what_is_due (always (listing_of (the_plug ∷ []))) [] long_message (
  (inl (record { place = 0; within = omega arith; text = refl }), tt),
  (
    (
      inl (record {
        place = 1;
        within = omega arith;
        text = refl;
      }),
      tt,
    ),
    tt,
  ),
)

pub returns-clause-set : goal.returns-clause-set
unfolding computing
returns-clause-set c = sends_what_is_due (always (listing_of (the_switch ∷ []))) [] set_asked ((inr (inr (inr (inr (inl refl)))), tt), tt)

pub returns-clause-get : goal.returns-clause-get
unfolding computing
returns-clause-get c = sends_what_is_due (always (listing_of (the_switch ∷ []))) [] get_asked ((inr (inr (inr (inr (inl refl)))), tt), tt)

pub returns-clause-old_list : goal.returns-clause-old_list
unfolding computing
returns-clause-old_list c = sends_what_is_due (always (listing_of (the_dimmer ∷ []))) [] sent_by_old_list ((inl refl, tt), tt)

pub returns-clause-set_old_list : goal.returns-clause-set_old_list
unfolding computing
returns-clause-set_old_list c = sends_what_is_due (always (listing_of (the_dimmer ∷ []))) [] set_by_old_list ((inr (inr (inr (inr (inl refl)))), tt), tt)

pub returns-clause-nonces : goal.returns-clause-nonces
unfolding computing
returns-clause-nonces c = sends_what_is_due (always (listing_of (the_lock ∷ []))) network_key nonces_counted (
  (inr (inr (inl (record { nonce = bytes (codes "019E0A1249BB594F"); eight = refl; asked = inl (inl refl); text = refl }))), tt),
  (
    (inr (inr (inl (record { nonce = bytes (codes "019E0A1249BB594F"); eight = refl; asked = inl (inl refl); text = refl }))), tt),
    (
      (inr (inr (inl (record { nonce = bytes (codes "0201020304050607"); eight = refl; asked = inl (inl refl); text = refl }))), tt),
      tt,
    ),
  ),
)

pub returns-clause-wrapped : goal.returns-clause-wrapped
unfolding computing
returns-clause-wrapped c = sends_what_is_due (always (listing_of (the_lock ∷ []))) network_key nonces_wrapped (
  (inr (inr (inl (record { nonce = bytes (codes "01B8E0ADA0F13D90"); eight = refl; asked = inl (inl refl); text = refl }))), tt),
  ((inr (inr (inl (record { nonce = bytes (codes "01B8E0ADA0F13D90"); eight = refl; asked = inl (inl refl); text = refl }))), tt), tt),
)

asked_so : IsToldSealed network_key (take 1 nonce_asked_sealed) 4 NonceGet
unfolding computing
asked_so = record {
  payload = by_lock get_text get_code;
  brought = inl refl;
  own = report_own;
  nonce = report_nonce;
  plain = get_plain;
  own_eight = refl;
  eight = refl;
  text = sym sealed_get;
  tells = inl refl;
}

pub returns-clause-asked_sealed : goal.returns-clause-asked_sealed
unfolding computing
returns-clause-asked_sealed c = sends_what_is_due (always (listing_of (the_lock ∷ []))) network_key nonce_asked_sealed (
  (inr (inr (inl (record { nonce = bytes (codes "0201020304050607"); eight = refl; asked = inr asked_so; text = refl }))), tt),
  tt,
)

given_so : IsToldSealed network_key (take 6 nonce_given_sealed) 4 (NonceReport set_nonce)
unfolding computing nonce_at
given_so = record {
  payload = by_lock given_text given_code;
  brought = inl refl;
  own = report_own;
  nonce = report_nonce;
  plain = given_plain;
  own_eight = refl;
  eight = refl;
  text = sym sealed_given;
  tells = inl refl;
}

pub returns-clause-given_sealed : goal.returns-clause-given_sealed
unfolding computing nonce_at
returns-clause-given_sealed c = sends_what_is_due (always (listing_of (the_lock ∷ []))) network_key nonce_given_sealed (
  (inl (record { own = set_own; nonce = set_nonce; given = inr given_so; own_eight = refl; eight = refl; text = sym sealed_set }), tt),
  tt,
)
