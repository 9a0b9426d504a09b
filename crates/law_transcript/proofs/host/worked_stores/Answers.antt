use Rattle.std.proofs.Common.{◌≡◌, true, false, [], ◌∷◌, refl}
use Rattle.zw_base.specs.declared.property.Name.TheVariants as names
use Rattle.host_orders.specs.Settings.{setting}
use Rattle.zw_text.specs.declared.entry.Ended.TheVariants as endings
use Rattle.zw_text.specs.declared.entry.Entry.TheVariants.{Store}
use Rattle.law_transcript.specs.Worked.{plain_exchange, repeated_exchange, lossy_exchange, cancelled_order, restarted_host, sleeping_node, sealed_exchange, long_message}
use Rattle.law_transcript.specs.WorkedCases.{ended_so}
use Rattle.law_transcript.proofs.Entries.{stores_after}
use Rattle.law_transcript.proofs.Computing.{computing}
use Rattle.law_transcript.proofs.host.worked_stores.Goals as goal

pub returns-clause-plain : goal.returns-clause-plain
unfolding computing
returns-clause-plain c = record { asked = ([], refl); all = λ whole. refl; following = stores_after plain_exchange (tt, tt) }

pub returns-clause-repeated : goal.returns-clause-repeated
unfolding computing
returns-clause-repeated c = record { asked = ([], refl); all = λ whole. refl; following = stores_after repeated_exchange (tt, tt) }

pub returns-clause-lossy : goal.returns-clause-lossy
unfolding computing
returns-clause-lossy c = record { asked = ([], refl); all = λ whole. refl; following = stores_after lossy_exchange (tt, (tt, tt)) }

pub returns-clause-cancelled : goal.returns-clause-cancelled
unfolding computing
returns-clause-cancelled c = record { asked = ([], refl); all = λ whole. refl; following = stores_after cancelled_order (tt, tt) }

pub returns-clause-restarted : goal.returns-clause-restarted
unfolding computing
returns-clause-restarted c = record { asked = ([], refl); all = λ whole. refl; following = stores_after restarted_host (tt, tt) }

pub returns-clause-sleeping : goal.returns-clause-sleeping
unfolding computing
returns-clause-sleeping c = record { asked = ([], refl); all = λ whole. refl; following = stores_after sleeping_node (tt, tt) }

pub returns-clause-sealed : goal.returns-clause-sealed
unfolding computing
returns-clause-sealed c = record { asked = ([], refl); all = λ whole. refl; following = stores_after sealed_exchange (tt, tt) }

pub returns-clause-cut : goal.returns-clause-cut
unfolding computing
returns-clause-cut c = record {
  asked = ([], refl);
  all = λ whole. refl;
  following = stores_after long_message (
    tt,
    (
      tt,
      (
        tt,
        (
          tt,
          (
            tt,
            (
              tt,
              (
                tt,
                (
                  tt,
                  (
                    tt,
                    (
                      tt,
                      (
                        tt,
                        (
                          tt,
                          (
                            tt,
                            (
                              tt,
                              (
                                tt,
                                (tt, (tt, (tt, (tt, (tt, (tt, (tt, (tt, (tt, (tt, (tt, (tt, (tt, (tt, (tt, (tt, (tt, (tt, (tt, (tt, (tt, (tt, tt)))))))))))))))))))))),
                              ),
                            ),
                          ),
                        ),
                      ),
                    ),
                  ),
                ),
              ),
            ),
          ),
        ),
      ),
    ),
  );
}

not_true : false ≡ true → ⊥
not_true same = cc

pub returns-clause-stopped : goal.returns-clause-stopped
unfolding computing
returns-clause-stopped c = record {
  asked = (Store 2 (setting 0 names.Switch 255) ∷ [], refl);
  all = λ whole. absurd (not_true whole);
  following = stores_after (ended_so endings.Success) tt;
}
