use Rattle.std.proofs.Common.{◌≡◌, List, [], ◌∷◌, ◌++◌, refl, sym, ap, inl, inr}
use Rattle.std.specs.Prelude.{take}
use Rattle.std.specs.List.{flat_map}
use Rattle.law_transcript.specs.device_kinds.declared.change.Change.{Change}
use Rattle.law_transcript.specs.device_sim.Event.{DeviceEvent}
use Rattle.law_transcript.specs.device_sim.State.{State}
use Rattle.zw_text.specs.Transcript.{made}
use Rattle.zw_text.specs.declared.entry.Entry.{Entry}
use Rattle.law_transcript.specs.Devices.{after_events, brought, comings, made_by, replies_joined, sent_from, ticks_lived}
use Rattle.law_transcript.specs.Worked.{the_switch}
use Rattle.law_transcript.specs.WorkedDevices.{hand_events, switch_at_work, switch_events, tick}
use Rattle.law_wire.specs.Doings.{DidSoFar, IsAge}
use Rattle.law_wire.proofs.Computing.{reckoning}
use Rattle.law_wire.proofs.doings.worked_doings.Goals as goal

-- a switch that has not changed yet has had these events so far
did_of : (device : State) {past : List Entry} {entry : Entry} (events : List DeviceEvent) → device.journal ≡ [] → comings events ≡ brought 2 past
    → IsAge past entry (ticks_lived events) → made 2 past ≡ flat_map made_by (after_events device events).journal
    → sent_from 2 past ≡ replies_joined 2 past device events → DidSoFar 2 device past entry
did_of device {past} {entry} events fresh came lived entered answered = record {
  events = events;
  came = came;
  lived = lived;
  shows = record {
    changes = (after_events device events).journal;
    changed = ap (λ (journal : List Change). journal ++ (after_events device events).journal) (sym fresh);
    entered = entered;
  };
  answered = answered;
}

did : {past : List Entry} {entry : Entry} (events : List DeviceEvent) → comings events ≡ brought 2 past
    → IsAge past entry (ticks_lived events) → made 2 past ≡ flat_map made_by (after_events the_switch events).journal
    → sent_from 2 past ≡ replies_joined 2 past the_switch events → DidSoFar 2 the_switch past entry
did events came lived entered answered = did_of the_switch events refl came lived entered answered

pub returns-clause-plain : goal.returns-clause-plain
unfolding reckoning
returns-clause-plain c = (
  did ([]) refl (refl) refl refl,
  (
    did ([]) refl (inl refl) refl refl,
    (
      did ([]) refl (inl refl) refl refl,
      (
        did ([]) refl (inl refl) refl refl,
        (
          did ([]) refl (inl refl) refl refl,
          (
            did ([]) refl (inl refl) refl refl,
            (
              did ([]) refl (inl refl) refl refl,
              (
                did ([]) refl (inl refl) refl refl,
                (
                  did ([]) refl (refl) refl refl,
                  (
                    did ([]) refl (refl) refl refl,
                    (
                      did ([]) refl (inr refl) refl refl,
                      (
                        tt,
                        (
                          tt,
                          (
                            did (take 1 switch_events) refl (inr refl) refl refl,
                            (
                              did (take 1 switch_events) refl (inr refl) refl refl,
                              (
                                did (take 2 switch_events) refl (refl) refl refl,
                                (
                                  did (take 2 switch_events) refl (inr refl) refl refl,
                                  (
                                    did (take 2 switch_events) refl (inr refl) refl refl,
                                    (
                                      did (take 2 switch_events) refl (inr refl) refl refl,
                                      (
                                        did (take 2 switch_events) refl (inr refl) refl refl,
                                        (
                                          did (take 2 switch_events) refl (inr refl) refl refl,
                                          (did (switch_events) refl (refl) refl refl, tt),
                                        ),
                                      ),
                                    ),
                                  ),
                                ),
                              ),
                            ),
                          ),
                        ),
                      ),
                    ),
                  ),
                ),
              ),
            ),
          ),
        ),
      ),
    ),
  ),
)

pub returns-clause-by_hand : goal.returns-clause-by_hand
unfolding reckoning
returns-clause-by_hand c = (did [] refl refl refl refl, (tt, (tt, (did hand_events refl refl refl refl, tt))))

pub returns-clause-working : goal.returns-clause-working
unfolding reckoning
returns-clause-working c = (
  did_of switch_at_work [] refl refl refl refl refl,
  (
    did_of switch_at_work [] refl refl refl refl refl,
    (tt, (did_of switch_at_work (tick ∷ []) refl refl refl refl refl, tt)),
  ),
)

pub returns-clause-devices : goal.returns-clause-devices
unfolding reckoning
returns-clause-devices c = (
  tt,
  (
    tt,
    (
      tt,
      (
        tt,
        (
          tt,
          (
            tt,
            (
              tt,
              (
                tt,
                (
                  tt,
                  (
                    tt,
                    (
                      tt,
                      ((refl, tt), ((refl, tt), (tt, (tt, (tt, (tt, (tt, (tt, (tt, (tt, tt)))))))))),
                    ),
                  ),
                ),
              ),
            ),
          ),
        ),
      ),
    ),
  ),
)
