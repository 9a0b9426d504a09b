-- What the chip does in the worked transcripts, law by law, and that with the course of its link it serves the host.
use Rattle.std.proofs.Common.{◌≡◌, List, [], ◌∷◌, ◌++◌, refl, sym, subst, inl}
use Rattle.std.specs.Prelude.{true, codes, take}
use Rattle.std.specs.List.{AllByRecursion}
use Rattle.std.proofs.lemmas.List.{append-nil, append_assoc}
use Rattle.law_transcript.specs.device_sim.State.{State}
use Rattle.zw_words.specs.declared.side.Side.TheVariants.{Chip}
use Rattle.zw_text.specs.declared.entry.Entry.{Entry}
use Rattle.zw_text.specs.declared.entry.Entry.TheVariants.{Said}
use Rattle.law_transcript.specs.Worked.{bytes, repeated_exchange, lossy_exchange, cancelled_order, restarted_host, sleeping_node, sealed_exchange, long_message, the_switch, the_sensor, the_lock, the_plug}
use Rattle.law_transcript.specs.Lists.{EachAfter}
use Rattle.law_transcript.proofs.Entries.{AllAsked}
use Rattle.law_wire.specs.Serial.{ended}
use Rattle.law_wire.specs.Links.{KeepsLink, joined}
use Rattle.law_wire.specs.Asked.{Course, course_of, Sending, sending_of}
use Rattle.law_wire.specs.Marks.{CollidesWhenAsked}
use Rattle.law_wire.specs.Networks.{chip_network}
use Rattle.law_wire.specs.Routes.{HasNoRoute}
use Rattle.law_wire.specs.Taking.{to_air, MayAir, AirsWhatIsTaken}
use Rattle.law_wire.specs.Answering.{AnswersInOrder, DropsWhenFull, ServesHost, waiting}
use Rattle.law_wire.specs.WorkedCourses.{without_copies, passed_in_repeated, passed_in_lossy, passed_in_cancelled, passed_in_restarted, passed_in_sleeping, passed_in_sealed, passed_in_cut}
use Rattle.law_wire.proofs.Computing.{reckoning}
use Rattle.law_wire.proofs.Entries.{collides_when_asked, airs_what_is_taken, answers_one_by_one, drops_when_few, is_turn, waits_while_busy}
use Rattle.law_wire.proofs.Walks.{direct}

-- ---- a frame is answered ACK

pub repeated_collides : CollidesWhenAsked repeated_exchange
unfolding reckoning
repeated_collides = collides_when_asked repeated_exchange (refl, (refl, tt))

pub lossy_collides : CollidesWhenAsked lossy_exchange
unfolding reckoning
lossy_collides = collides_when_asked lossy_exchange (refl, (refl, (refl, (refl, (refl, tt)))))

pub cancelled_collides : CollidesWhenAsked cancelled_order
unfolding reckoning
cancelled_collides = collides_when_asked cancelled_order (refl, tt)

pub restarted_collides : CollidesWhenAsked restarted_host
unfolding reckoning
restarted_collides = collides_when_asked restarted_host (refl, (refl, (refl, (refl, tt))))

pub sleeping_collides : CollidesWhenAsked sleeping_node
unfolding reckoning
sleeping_collides = collides_when_asked sleeping_node (refl, (refl, (refl, (refl, (refl, tt)))))

pub sealed_collides : CollidesWhenAsked sealed_exchange
unfolding reckoning
sealed_collides = collides_when_asked sealed_exchange (refl, (refl, (refl, (refl, (refl, (refl, tt))))))

pub cut_collides : CollidesWhenAsked long_message
unfolding reckoning
cut_collides = collides_when_asked long_message (refl, (refl, (refl, (refl, tt))))

-- ---- the frames on the air

pub restarted_airs : AirsWhatIsTaken (the_switch ∷ []) (without_copies passed_in_restarted restarted_host) restarted_host
unfolding reckoning
restarted_airs = (
  tt,
  (
    tt,
    (
      tt,
      (
        tt,
        (
          tt,
          (
            tt,
            (
              record { sending = sending_of (take 4 restarted_host) 2 (bytes (codes "6C0101032501FF")) 1; taken = inl refl; to_node = refl; with_payload = refl },
              (
                tt,
                (
                  tt,
                  (
                    tt,
                    (
                      tt,
                      (
                        tt,
                        (
                          tt,
                          (
                            tt,
                            (
                              tt,
                              (
                                tt,
                                (
                                  tt,
                                  (
                                    tt,
                                    (
                                      tt,
                                      (
                                        tt,
                                        (
                                          tt,
                                          (
                                            tt,
                                            (
                                              tt,
                                              (
                                                tt,
                                                (
                                                  tt,
                                                  (
                                                    tt,
                                                    (
                                                      tt,
                                                      (
                                                        tt,
                                                        (
                                                          tt,
                                                          (
                                                            tt,
                                                            (
                                                              tt,
                                                              (
                                                                tt,
                                                                (
                                                                  tt,
                                                                  (
                                                                    tt,
                                                                    (
                                                                      tt,
                                                                      tt,
                                                                    ),
                                                                  ),
                                                                ),
                                                              ),
                                                            ),
                                                          ),
                                                        ),
                                                      ),
                                                    ),
                                                  ),
                                                ),
                                              ),
                                            ),
                                          ),
                                        ),
                                      ),
                                    ),
                                  ),
                                ),
                              ),
                            ),
                          ),
                        ),
                      ),
                    ),
                  ),
                ),
              ),
            ),
          ),
        ),
      ),
    ),
  ),
)

pub repeated_airs : AirsWhatIsTaken (the_switch ∷ []) (without_copies passed_in_repeated repeated_exchange) repeated_exchange
unfolding reckoning
repeated_airs = airs_what_is_taken (the_switch ∷ []) (without_copies passed_in_repeated repeated_exchange) repeated_exchange (
  tt,
  (
    record { sending = sending_of (take 5 repeated_exchange) 2 (bytes (codes "6C0101032501FF")) 1; taken = inl refl; to_node = refl; with_payload = refl },
    (
      tt,
      (
        tt,
        (record { sending = sending_of (take 17 repeated_exchange) 2 (bytes (codes "6C0101032501FF")) 2; taken = inl refl; to_node = refl; with_payload = refl }, (tt, tt)),
      ),
    ),
  ),
)

pub lossy_airs : AirsWhatIsTaken (the_switch ∷ []) (without_copies passed_in_lossy lossy_exchange) lossy_exchange
unfolding reckoning
lossy_airs = airs_what_is_taken (the_switch ∷ []) (without_copies passed_in_lossy lossy_exchange) lossy_exchange (
  tt,
  (
    record { sending = sending_of (take 5 lossy_exchange) 2 (bytes (codes "6C0101032501FF")) 1; taken = inl refl; to_node = refl; with_payload = refl },
    (
      tt,
      (
        record { sending = sending_of (take 15 lossy_exchange) 2 (bytes (codes "6C0101032501FF")) 2; taken = inl refl; to_node = refl; with_payload = refl },
        (
          tt,
          (
            record { sending = sending_of (take 24 lossy_exchange) 2 (bytes (codes "6C0101032501FF")) 3; taken = inl refl; to_node = refl; with_payload = refl },
            (
              tt,
              (
                record { sending = sending_of (take 36 lossy_exchange) 2 (bytes (codes "6C0101032501FF")) 4; taken = inl refl; to_node = refl; with_payload = refl },
                (
                  tt,
                  (
                    tt,
                    (record { sending = sending_of (take 55 lossy_exchange) 2 (bytes (codes "6C010203250100")) 5; taken = inl refl; to_node = refl; with_payload = refl }, (tt, tt)),
                  ),
                ),
              ),
            ),
          ),
        ),
      ),
    ),
  ),
)

pub cancelled_airs : AirsWhatIsTaken (the_switch ∷ []) (without_copies passed_in_cancelled cancelled_order) cancelled_order
unfolding reckoning
cancelled_airs = airs_what_is_taken (the_switch ∷ []) (without_copies passed_in_cancelled cancelled_order) cancelled_order (
  tt,
  (record { sending = sending_of (take 4 cancelled_order) 2 (bytes (codes "6C0101032501FF")) 1; taken = inl refl; to_node = refl; with_payload = refl }, (tt, tt)),
)

pub sleeping_airs : AirsWhatIsTaken (the_sensor ∷ []) (without_copies passed_in_sleeping sleeping_node) sleeping_node
unfolding reckoning
sleeping_airs = airs_what_is_taken (the_sensor ∷ []) (without_copies passed_in_sleeping sleeping_node) sleeping_node (
  tt,
  (
    tt,
    (
      record { sending = sending_of (take 23 sleeping_node) 5 (bytes (codes "8408")) 1; taken = inl refl; to_node = refl; with_payload = refl },
      (
        tt,
        (
          tt,
          (
            record { sending = sending_of (take 44 sleeping_node) 5 (bytes (codes "6C010106840400012C01")) 2; taken = inl refl; to_node = refl; with_payload = refl },
            (
              tt,
              (
                tt,
                (record { sending = sending_of (take 61 sleeping_node) 5 (bytes (codes "8408")) 3; taken = inl refl; to_node = refl; with_payload = refl }, tt),
              ),
            ),
          ),
        ),
      ),
    ),
  ),
)

pub sealed_airs : AirsWhatIsTaken (the_lock ∷ []) (without_copies passed_in_sealed sealed_exchange) sealed_exchange
unfolding reckoning
sealed_airs = airs_what_is_taken (the_lock ∷ []) (without_copies passed_in_sealed sealed_exchange) sealed_exchange (
  tt,
  (
    record { sending = sending_of (take 20 sealed_exchange) 4 (bytes (codes "9840")) 1; taken = inl refl; to_node = refl; with_payload = refl },
    (
      tt,
      (
        tt,
        (
          record { sending = sending_of (take 36 sealed_exchange) 4 (bytes (codes "9840")) 2; taken = inl refl; to_node = refl; with_payload = refl },
          (
            tt,
            (
              tt,
              (
                record {
                  sending = sending_of (take 50 sealed_exchange) 4 (bytes (codes "98816B71E54E0F8EE3186CCEA9D132AB2C95018A573A88D6BE287E")) 3;
                  taken = inl refl;
                  to_node = refl;
                  with_payload = refl;
                },
                (
                  tt,
                  (
                    tt,
                    (
                      record {
                        sending = sending_of (take 65 sealed_exchange) 4 (bytes (codes "9880019E0A1249BB594F")) 4;
                        taken = inl refl;
                        to_node = refl;
                        with_payload = refl;
                      },
                      (tt, tt),
                    ),
                  ),
                ),
              ),
            ),
          ),
        ),
      ),
    ),
  ),
)

pub cut_airs : AirsWhatIsTaken (the_plug ∷ []) (without_copies passed_in_cut long_message) long_message
unfolding reckoning
cut_airs = airs_what_is_taken (the_plug ∷ []) (without_copies passed_in_cut long_message) long_message (
  tt,
  (
    record {
      sending = sending_of (take 20 long_message) 8 (bytes (codes "55C02F106C01012B70070000250101010101010101010101010101010101010101010101010101010101014E7A")) 1;
      taken = inl refl;
      to_node = refl;
      with_payload = refl;
    },
    (
      tt,
      (
        record {
          sending = sending_of (take 30 long_message) 8 (bytes (codes "55E02F102701010101010101018A77")) 2;
          taken = inl refl;
          to_node = refl;
          with_payload = refl;
        },
        (tt, (tt, tt)),
      ),
    ),
  ),
)

-- ---- the frames that the chip writes

pub restarted_answers : AnswersInOrder (the_switch ∷ []) (without_copies passed_in_restarted restarted_host) restarted_host
unfolding reckoning
restarted_answers = answers_one_by_one (the_switch ∷ []) (without_copies passed_in_restarted restarted_host) restarted_host refl (refl, (refl, (refl, (refl, (refl, (refl, tt))))))

pub repeated_answers : AnswersInOrder (the_switch ∷ []) (without_copies passed_in_repeated repeated_exchange) repeated_exchange
unfolding reckoning
repeated_answers = answers_one_by_one (the_switch ∷ []) (without_copies passed_in_repeated repeated_exchange) repeated_exchange refl (refl, (refl, (refl, (refl, (refl, (refl, tt))))))

pub lossy_answers : AnswersInOrder (the_switch ∷ []) (without_copies passed_in_lossy lossy_exchange) lossy_exchange
unfolding reckoning
lossy_answers = answers_one_by_one (the_switch ∷ []) (without_copies passed_in_lossy lossy_exchange) lossy_exchange refl (refl, (refl, (refl, (refl, (refl, (refl, (refl, (refl, (refl, (refl, (refl, (refl, tt))))))))))))

pub cancelled_answers : AnswersInOrder (the_switch ∷ []) (without_copies passed_in_cancelled cancelled_order) cancelled_order
unfolding reckoning
cancelled_answers = answers_one_by_one (the_switch ∷ []) (without_copies passed_in_cancelled cancelled_order) cancelled_order refl (refl, (refl, (refl, tt)))

pub sleeping_answers : AnswersInOrder (the_sensor ∷ []) (without_copies passed_in_sleeping sleeping_node) sleeping_node
unfolding reckoning
sleeping_answers = answers_one_by_one (the_sensor ∷ []) (without_copies passed_in_sleeping sleeping_node) sleeping_node refl (refl, (refl, (refl, ((inl (record { joined = refl; way = []; route = (direct _ _ 5 refl).walk; awake = refl }, refl)), (refl, (refl, (refl, (refl, (refl, (refl, (refl, (refl, tt))))))))))))

pub sealed_answers : AnswersInOrder (the_lock ∷ []) (without_copies passed_in_sealed sealed_exchange) sealed_exchange
unfolding reckoning
sealed_answers = answers_one_by_one (the_lock ∷ []) (without_copies passed_in_sealed sealed_exchange) sealed_exchange refl (refl, (refl, ((inl (record { joined = refl; way = []; route = (direct _ _ 4 refl).walk; awake = refl }, refl)), (refl, (refl, (refl, (refl, (refl, (refl, (refl, (refl, (refl, (refl, (refl, tt))))))))))))))

pub cut_answers : AnswersInOrder (the_plug ∷ []) (without_copies passed_in_cut long_message) long_message
unfolding reckoning
cut_answers = answers_one_by_one (the_plug ∷ []) (without_copies passed_in_cut long_message) long_message refl (refl, (refl, ((inl (record { joined = refl; way = []; route = (direct _ _ 8 refl).walk; awake = refl }, refl)), (refl, (refl, (refl, (refl, (refl, (refl, tt)))))))))

-- ---- nothing is dropped

pub repeated_drops : DropsWhenFull (the_switch ∷ []) (without_copies passed_in_repeated repeated_exchange) repeated_exchange
unfolding reckoning
repeated_drops = drops_when_few (the_switch ∷ []) (without_copies passed_in_repeated repeated_exchange) repeated_exchange refl refl

pub lossy_drops : DropsWhenFull (the_switch ∷ []) (without_copies passed_in_lossy lossy_exchange) lossy_exchange
unfolding reckoning
lossy_drops = drops_when_few (the_switch ∷ []) (without_copies passed_in_lossy lossy_exchange) lossy_exchange refl refl

pub cancelled_drops : DropsWhenFull (the_switch ∷ []) (without_copies passed_in_cancelled cancelled_order) cancelled_order
unfolding reckoning
cancelled_drops = drops_when_few (the_switch ∷ []) (without_copies passed_in_cancelled cancelled_order) cancelled_order refl refl

pub restarted_drops : DropsWhenFull (the_switch ∷ []) (without_copies passed_in_restarted restarted_host) restarted_host
unfolding reckoning
restarted_drops = drops_when_few (the_switch ∷ []) (without_copies passed_in_restarted restarted_host) restarted_host refl refl

pub sleeping_drops : DropsWhenFull (the_sensor ∷ []) (without_copies passed_in_sleeping sleeping_node) sleeping_node
unfolding reckoning
sleeping_drops = drops_when_few (the_sensor ∷ []) (without_copies passed_in_sleeping sleeping_node) sleeping_node refl refl

pub sealed_drops : DropsWhenFull (the_lock ∷ []) (without_copies passed_in_sealed sealed_exchange) sealed_exchange
unfolding reckoning
sealed_drops = drops_when_few (the_lock ∷ []) (without_copies passed_in_sealed sealed_exchange) sealed_exchange refl refl

pub cut_drops : DropsWhenFull (the_plug ∷ []) (without_copies passed_in_cut long_message) long_message
unfolding reckoning
cut_drops = drops_when_few (the_plug ∷ []) (without_copies passed_in_cut long_message) long_message refl refl

-- ---- all of it

-- with the course of its link the chip serves the host, up to the end of the run
pub serves : (devices : List State) (transcript : List Entry) (course : Course) (link : KeepsLink Chip (ended true transcript))
    → course_of (joined link.parts) ≡ course → CollidesWhenAsked transcript → AirsWhatIsTaken devices course (ended true transcript)
    → AnswersInOrder devices course transcript → DropsWhenFull devices course (ended true transcript)
    → AllAsked is_turn (λ past entry. waiting devices course past ≡ 0) [] (ended true transcript) → ServesHost true devices transcript
serves devices transcript course link same collides airs answers drops waits = record {
  link = link;
  collides = collides;
  airs = subst (λ (one : Course). AirsWhatIsTaken devices one (ended true transcript)) (sym same) airs;
  answers = subst (λ (one : Course). AnswersInOrder devices one transcript) (sym same) answers;
  drops = subst (λ (one : Course). DropsWhenFull devices one (ended true transcript)) (sym same) drops;
  waits = waits_while_busy devices link.parts course (ended true transcript) same waits;
}

-- what stands of each entry stands of one more
each_more : (Allowed : List Entry → Entry → Type 0) (past rest : List Entry) (entry : Entry) → EachAfter Allowed past rest → Allowed (past ++ rest) entry
    → EachAfter Allowed past (rest ++ entry ∷ [])
each_more Allowed past [] entry each last = (subst (λ (all : List Entry). Allowed all entry) (append-nil past) last, tt)
each_more Allowed past (first ∷ rest) entry each last = (
  each.0,
  each_more Allowed (past ++ first ∷ []) rest entry each.1 (subst (λ (all : List Entry). Allowed all entry) (sym (append_assoc past (first ∷ []) rest)) last),
)

pub airs_to_the_end : (devices : List State) (course : Course) (transcript : List Entry) → AirsWhatIsTaken devices course transcript
    → AllByRecursion (λ (sending : Sending). HasNoRoute (chip_network devices transcript) sending.node) (to_air course transcript)
    → AirsWhatIsTaken devices course (ended true transcript)
airs_to_the_end devices course transcript airs last = each_more (MayAir devices course) [] transcript (Said []) airs last
