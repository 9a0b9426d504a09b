-- What holds of a plain exchange.
use Rattle.std.proofs.Common.{[], ◌∷◌, refl, inl}
use Rattle.std.specs.Prelude.{codes, take}
use Rattle.law_transcript.specs.Worked.{bytes, plain_exchange, the_switch}
use Rattle.law_wire.specs.WorkedCourses.{chip_history}
use Rattle.law_wire.specs.Asked.{course_of, sending_of}
use Rattle.law_wire.specs.Marks.{CollidesWhenAsked}
use Rattle.law_wire.specs.Taking.{AirsWhatIsTaken}
use Rattle.law_wire.specs.Answering.{AnswersInOrder, DropsWhenFull}
use Rattle.law_wire.proofs.Computing.{reckoning}
use Rattle.law_wire.proofs.Entries.{drops_when_few}

pub plain_airs : AirsWhatIsTaken (the_switch ∷ []) (course_of chip_history) plain_exchange
unfolding reckoning
plain_airs = (
  tt,
  (
    tt,
    (
      tt,
      (
        tt,
        (
          tt,
          (
            tt,
            (
              record { sending = sending_of (take 4 plain_exchange) 2 (bytes (codes "6C0101032501FF")) 1; taken = inl refl; to_node = refl; with_payload = refl },
              (tt, (tt, (tt, (tt, (tt, (tt, (tt, (tt, (tt, (tt, (tt, (tt, (tt, (tt, tt)))))))))))))),
            ),
          ),
        ),
      ),
    ),
  ),
)

pub plain_answers : AnswersInOrder (the_switch ∷ []) (course_of chip_history) plain_exchange
unfolding reckoning
plain_answers = (
  tt,
  (
    tt,
    (
      tt,
      (
        tt,
        (
          tt,
          (
            (refl, tt),
            (
              tt,
              (
                tt,
                (
                  tt,
                  (
                    tt,
                    (
                      tt,
                      (
                        tt,
                        (
                          tt,
                          (
                            (refl, (refl, tt)),
                            (
                              tt,
                              (
                                tt,
                                (
                                  tt,
                                  (
                                    (refl, (refl, (refl, tt))),
                                    (
                                      tt,
                                      (tt, (tt, tt)),
                                    ),
                                  ),
                                ),
                              ),
                            ),
                          ),
                        ),
                      ),
                    ),
                  ),
                ),
              ),
            ),
          ),
        ),
      ),
    ),
  ),
)

pub plain_drops : DropsWhenFull (the_switch ∷ []) (course_of chip_history) plain_exchange
unfolding reckoning
plain_drops = drops_when_few (the_switch ∷ []) (course_of chip_history) plain_exchange refl refl

pub plain_collides : CollidesWhenAsked plain_exchange
unfolding reckoning
plain_collides =
    (tt, (tt, (tt, (tt, (refl, (tt, (tt, (tt, (tt, (tt, (tt, (tt, (tt, (tt, (tt, (tt, (tt, (tt, (tt, (tt, (tt, tt)))))))))))))))))))))
