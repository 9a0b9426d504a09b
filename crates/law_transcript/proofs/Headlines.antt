-- The headline of the worked transcripts, each with the one device that it is about.
use Rattle.std.proofs.Common.{◌≡◌, ℕ, ◌==◌, Bool, true, false, List, [], ◌∷◌, Option, Some, refl, ap, subst, inl, inr, arith}
use Rattle.std.specs.Prelude.{if◌then◌else◌, unwrap_or, None}
use Rattle.std.proofs.lemmas.Bool.Decides.{nat_tests}
use Rattle.device_sim.specs.device_stack.State.{State}
use Rattle.zw_text.specs.declared.entry.Entry.{Entry}
use Rattle.law_transcript.specs.Headline.{Headline, HeadlineOf}
use Rattle.law_transcript.specs.Nodes.{listing_of, is_supervised, always}
use Rattle.law_transcript.specs.Once.{SucceedsAfterChange}
use Rattle.law_transcript.specs.Sessions.{KeepsSessions}
use Rattle.law_transcript.specs.Worked.{plain_exchange, repeated_exchange, lossy_exchange, cancelled_order, restarted_host, sleeping_node, sealed_exchange, long_message, the_switch, the_sensor, the_lock, the_plug, with_journal, turned_on, turned_on_and_off, set_apart, secured, configured}
use Rattle.law_transcript.specs.WorkedWrong.{turned_plainly, turned_twice}
use Rattle.law_transcript.specs.WorkedWrongLines.{the_relay}
use Rattle.law_transcript.proofs.Computing.{computing}
use Rattle.law_transcript.proofs.Entries.{keeps_sessions, succeeds_after}

-- what holds of a device at its node holds of the first device at any node, where it is the only one
only : (P : ℕ → State → Type 0) (at node : ℕ) (device found : State) (is : Bool) → (at == node) ≡ is
    → (if is then Some device else None) ≡ Some found → P at device → P node found
only P at node device found true is same holds =
    let here : at ≡ node = grind (arith, nat_tests) in
    subst (λ (node : ℕ). P node found) here
    (subst (λ (found : State). P at found) (ap (λ (found : Option State). unwrap_or found device) same) holds)
only P at node device found false is same holds = cc

-- the headline with one device
of_one : (before : List State) (device : State) (transcript : List Entry) → KeepsSessions transcript → SucceedsAfterChange transcript
    → HeadlineOf (always (listing_of before)) device.node transcript device → Headline before (device ∷ []) transcript
of_one before device transcript sessions successes holds = record {
  sessions_keep = sessions;
  succeeds = successes;
  devices = λ node found is supervised.
      only (λ (node : ℕ) (found : State). HeadlineOf (always (listing_of before)) node transcript found) device.node node device found (device.node == node) refl is holds;
}

pub plain_device : HeadlineOf (always (listing_of (the_switch ∷ []))) 2 plain_exchange (with_journal the_switch turned_on)
unfolding computing
plain_device = record {
  once = record {
    changes = record {
      sessions_rise = (tt, tt);
      sessions_begun = ((omega arith, omega arith), tt);
      settings = ((refl, tt), tt);
      never_plain = (λ by. cc, tt);
    };
    carries = record {
      commands_rise = (tt, tt);
      commands_accepted = (inl refl, tt);
    };
    ends = record {
      successful = (λ success. inl refl, tt);
      undone = (λ undone has. undone, tt);
    };
  };
  confirms = ((λ success. refl, tt), tt);
}

pub plain : Headline (the_switch ∷ []) (with_journal the_switch turned_on ∷ []) plain_exchange
unfolding computing
plain = of_one _ _ plain_exchange
    (keeps_sessions plain_exchange ((refl, tt), tt))
    (succeeds_after plain_exchange (record { node = 2; shown = inl refl }, tt))
    plain_device

pub repeated_device : HeadlineOf (always (listing_of (the_switch ∷ []))) 2 repeated_exchange (with_journal the_switch turned_on)
unfolding computing
repeated_device = record {
  once = record {
    changes = record {
      sessions_rise = (tt, tt);
      sessions_begun = ((omega arith, omega arith), tt);
      settings = ((refl, tt), tt);
      never_plain = (λ by. cc, tt);
    };
    carries = record {
      commands_rise = (tt, tt);
      commands_accepted = (inl refl, tt);
    };
    ends = record {
      successful = (λ success. inl refl, tt);
      undone = (λ undone has. undone, tt);
    };
  };
  confirms = ((λ success. refl, tt), tt);
}

pub repeated : Headline (the_switch ∷ []) (with_journal the_switch turned_on ∷ []) repeated_exchange
unfolding computing
repeated = of_one _ _ repeated_exchange
    (keeps_sessions repeated_exchange ((refl, tt), tt))
    (succeeds_after repeated_exchange (record { node = 2; shown = inl refl }, tt))
    repeated_device

pub lossy_device : HeadlineOf (always (listing_of (the_switch ∷ []))) 2 lossy_exchange (with_journal the_switch turned_on_and_off)
unfolding computing
lossy_device = record {
  once = record {
    changes = record {
      sessions_rise = ((omega arith, tt), (tt, tt));
      sessions_begun = ((omega arith, omega arith), ((omega arith, omega arith), tt));
      settings = ((refl, tt), ((refl, tt), tt));
      never_plain = (λ by. cc, (λ by. cc, tt));
    };
    carries = record {
      commands_rise = ((omega arith, tt), (tt, tt));
      commands_accepted = (inl refl, (inr (inl refl), tt));
    };
    ends = record {
      successful = (λ success. inl refl, (λ success. inr (inl refl), tt));
      undone = (λ undone has. undone, (λ undone has. undone, tt));
    };
  };
  confirms = ((λ success. refl, tt), ((λ success. refl, tt), tt));
}

pub lossy : Headline (the_switch ∷ []) (with_journal the_switch turned_on_and_off ∷ []) lossy_exchange
unfolding computing
lossy = of_one _ _ lossy_exchange
    (keeps_sessions lossy_exchange ((refl, tt), ((refl, (tt, tt)), tt)))
    (succeeds_after lossy_exchange (record { node = 2; shown = inl refl }, (record { node = 2; shown = inr (inl refl) }, tt)))
    lossy_device

pub cancelled_device : HeadlineOf (always (listing_of (the_switch ∷ []))) 2 cancelled_order (with_journal the_switch turned_on)
unfolding computing
cancelled_device = record {
  once = record {
    changes = record {
      sessions_rise = (tt, tt);
      sessions_begun = ((omega arith, omega arith), tt);
      settings = ((refl, tt), tt);
      never_plain = (λ by. cc, tt);
    };
    carries = record {
      commands_rise = (tt, tt);
      commands_accepted = (inl refl, tt);
    };
    ends = record {
      successful = (λ success. inl refl, (λ success. absurd cc, tt));
      undone = (λ undone has. undone, (λ undone has. elim has [ inl same ↦ omega (arith, same) | inr never ↦ never ], tt));
    };
  };
  confirms = ((λ success. refl, tt), tt);
}

pub cancelled : Headline (the_switch ∷ []) (with_journal the_switch turned_on ∷ []) cancelled_order
unfolding computing
cancelled = of_one _ _ cancelled_order
    (keeps_sessions cancelled_order ((refl, tt), tt))
    (succeeds_after cancelled_order (record { node = 2; shown = inl refl }, tt))
    cancelled_device

pub restarted_device : HeadlineOf (always (listing_of (the_switch ∷ []))) 2 restarted_host (with_journal the_switch turned_on)
unfolding computing
restarted_device = record {
  once = record {
    changes = record {
      sessions_rise = (tt, tt);
      sessions_begun = ((omega arith, omega arith), tt);
      settings = ((refl, tt), tt);
      never_plain = (λ by. cc, tt);
    };
    carries = record {
      commands_rise = (tt, tt);
      commands_accepted = (inl refl, tt);
    };
    ends = record {
      successful = (λ success. inl refl, tt);
      undone = (λ undone has. undone, tt);
    };
  };
  confirms = ((λ success. refl, tt), tt);
}

pub restarted : Headline (the_switch ∷ []) (with_journal the_switch turned_on ∷ []) restarted_host
unfolding computing
restarted = of_one _ _ restarted_host
    (keeps_sessions restarted_host ((refl, tt), tt))
    (succeeds_after restarted_host (record { node = 2; shown = inl refl }, tt))
    restarted_device

pub sleeping_device : HeadlineOf (always (listing_of (the_sensor ∷ []))) 5 sleeping_node (with_journal the_sensor set_apart)
unfolding computing
sleeping_device = record {
  once = record {
    changes = record {
      sessions_rise = (tt, tt);
      sessions_begun = ((omega arith, omega arith), tt);
      settings = ((refl, tt), tt);
      never_plain = (λ by. cc, tt);
    };
    carries = record {
      commands_rise = (tt, tt);
      commands_accepted = (inl refl, tt);
    };
    ends = record {
      successful = (λ success. inl refl, (λ success. absurd cc, tt));
      undone = (λ undone has. undone, (λ undone has. elim has [ inl same ↦ omega (arith, same) | inr never ↦ never ], tt));
    };
  };
  confirms = ((λ success. refl, tt), tt);
}

pub sleeping : Headline (the_sensor ∷ []) (with_journal the_sensor set_apart ∷ []) sleeping_node
unfolding computing
sleeping = of_one _ _ sleeping_node
    (keeps_sessions sleeping_node ((refl, tt), tt))
    (succeeds_after sleeping_node (record { node = 5; shown = inl refl }, tt))
    sleeping_device

pub sealed_device : HeadlineOf (always (listing_of (the_lock ∷ []))) 4 sealed_exchange (with_journal the_lock secured)
unfolding computing
sealed_device = record {
  once = record {
    changes = record {
      sessions_rise = (tt, tt);
      sessions_begun = ((omega arith, omega arith), tt);
      settings = ((refl, tt), tt);
      never_plain = (λ by. cc, tt);
    };
    carries = record {
      commands_rise = (tt, tt);
      commands_accepted = (inl refl, tt);
    };
    ends = record {
      successful = (λ success. inl refl, tt);
      undone = (λ undone has. undone, tt);
    };
  };
  confirms = ((λ success. refl, tt), tt);
}

pub sealed : Headline (the_lock ∷ []) (with_journal the_lock secured ∷ []) sealed_exchange
unfolding computing
sealed = of_one _ _ sealed_exchange
    (keeps_sessions sealed_exchange ((refl, tt), tt))
    (succeeds_after sealed_exchange (record { node = 4; shown = inl refl }, tt))
    sealed_device

pub cut_device : HeadlineOf (always (listing_of (the_plug ∷ []))) 8 long_message (with_journal the_plug configured)
unfolding computing
cut_device = record {
  once = record {
    changes = record {
      sessions_rise = (tt, tt);
      sessions_begun = ((omega arith, omega arith), tt);
      settings = ((refl, tt), tt);
      never_plain = (λ by. cc, tt);
    };
    carries = record {
      commands_rise = (tt, tt);
      commands_accepted = (inl refl, tt);
    };
    ends = record {
      successful = (λ success. inl refl, tt);
      undone = (λ undone has. undone, tt);
    };
  };
  confirms = (
    (λ success. refl, tt),
    (
      (λ success. refl, tt),
      (
        (λ success. refl, tt),
        (
          (λ success. refl, tt),
          (
            (
              λ success.
                  refl,
              tt,
            ),
            (
              (λ success. refl, tt),
              (
                (λ success. refl, tt),
                (
                  (λ success. refl, tt),
                  (
                    (λ success. refl, tt),
                    (
                      (
                        λ
                            success. refl,
                        tt,
                      ),
                      (
                        (λ success. refl, tt),
                        (
                          (λ success. refl, tt),
                          (
                            (λ success. refl, tt),
                            (
                              (
                                λ success. refl,
                                tt,
                              ),
                              (
                                (λ success. refl, tt),
                                (
                                  (λ success. refl, tt),
                                  (
                                    (λ success. refl, tt),
                                    (
                                      (λ success. refl, tt),
                                      (
                                        (
                                          λ
                                              success. refl,
                                          tt,
                                        ),
                                        (
                                          (λ success. refl, tt),
                                          (
                                            (λ success. refl, tt),
                                            (
                                              (λ success. refl, tt),
                                              (
                                                (
                                                  λ success. refl,
                                                  tt,
                                                ),
                                                (
                                                  (λ success. refl, tt),
                                                  (
                                                    (λ success. refl, tt),
                                                    (
                                                      (λ success. refl, tt),
                                                      (
                                                        (λ success. refl, tt),
                                                        (
                                                          (
                                                            λ
                                                                success. refl,
                                                            tt,
                                                          ),
                                                          (
                                                            (λ success. refl, tt),
                                                            (
                                                              (λ success. refl, tt),
                                                              (
                                                                (λ success. refl, tt),
                                                                (
                                                                  (
                                                                    λ success. refl,
                                                                    tt,
                                                                  ),
                                                                  (
                                                                    (λ success. refl, tt),
                                                                    (
                                                                      (λ success. refl, tt),
                                                                      (
                                                                        (λ success. refl, tt),
                                                                        (
                                                                          (λ success. refl, tt),
                                                                          (
                                                                            (
                                                                              λ
                                                                                  success. refl,
                                                                              tt,
                                                                            ),
                                                                            tt,
                                                                          ),
                                                                        ),
                                                                      ),
                                                                    ),
                                                                  ),
                                                                ),
                                                              ),
                                                            ),
                                                          ),
                                                        ),
                                                      ),
                                                    ),
                                                  ),
                                                ),
                                              ),
                                            ),
                                          ),
                                        ),
                                      ),
                                    ),
                                  ),
                                ),
                              ),
                            ),
                          ),
                        ),
                      ),
                    ),
                  ),
                ),
              ),
            ),
          ),
        ),
      ),
    ),
  );
}

pub cut : Headline (the_plug ∷ []) (with_journal the_plug configured ∷ []) long_message
unfolding computing
cut = of_one _ _ long_message
    (keeps_sessions long_message ((refl, tt), tt))
    (succeeds_after long_message (record { node = 8; shown = inl refl }, tt))
    cut_device

not_true : false ≡ true → ⊥
not_true same = cc

-- of a device that takes no commands in sessions it says nothing
pub unsupervised : Headline (the_relay ∷ []) (with_journal the_relay turned_plainly ∷ []) []
unfolding computing
unsupervised = record {
  sessions_keep = tt;
  succeeds = tt;
  devices = λ node found is supervised. absurd (
      only (λ (node : ℕ) (found : State). is_supervised found ≡ true → ⊥) 3 node (with_journal the_relay turned_plainly) found (3 == node) refl is not_true supervised);
}

-- what holds of the first of two devices at its node holds of the first device at any node, where both are at that one
first_only : (P : ℕ → State → Type 0) (at node : ℕ) (device other found : State) (is : Bool) → (at == node) ≡ is
    → (if is then Some device else (if is then Some other else None)) ≡ Some found → P at device → P node found
first_only P at node device other found true is same holds = only P at node device found true is same holds
first_only P at node device other found false is same holds = cc

-- and of a second device of a node neither
pub second : Headline (the_switch ∷ the_switch ∷ []) (with_journal the_switch turned_on ∷ with_journal the_switch turned_twice ∷ []) plain_exchange
unfolding computing
second = record {
  sessions_keep = plain.sessions_keep;
  succeeds = plain.succeeds;
  devices = λ node found is supervised.
      first_only (λ (node : ℕ) (found : State). HeadlineOf (always (listing_of (the_switch ∷ the_switch ∷ []))) node plain_exchange found) 2 node
      (with_journal the_switch turned_on) (with_journal the_switch turned_twice) found (2 == node) refl is second_device;
}
  where
    second_device : HeadlineOf (always (listing_of (the_switch ∷ the_switch ∷ []))) 2 plain_exchange (with_journal the_switch turned_on)
    second_device = record {
      once = record {
        changes = record {
          sessions_rise = (tt, tt);
          sessions_begun = ((omega arith, omega arith), tt);
          settings = ((refl, tt), tt);
          never_plain = (λ by. cc, tt);
        };
        carries = record {
          commands_rise = (tt, tt);
          commands_accepted = (inl refl, tt);
        };
        ends = record {
          successful = (λ success. inl refl, tt);
          undone = (λ undone has. undone, tt);
        };
      };
      confirms = ((λ success. refl, tt), tt);
    }
