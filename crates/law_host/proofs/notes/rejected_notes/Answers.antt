use Rattle.law_time.specs.Heeds.{heeds_of}
use Rattle.std.proofs.Common.{◌≡◌, Bool, true, false, ℕ, List, [], ◌∷◌, ◌++◌, refl}
use Rattle.std.specs.Prelude.{Option, drop}
use Rattle.law_host.specs.Following.{ended_whole}
use Rattle.law_host.specs.Notes.{course_of, first_start}
use Rattle.law_host.specs.Worked.{after_begun, after_later_nonce, after_lock_begun, after_sessions, after_sleeper_begun, after_values, after_waking, dropped_first, dropped_of_other, ended_by_first, ended_by_other, ended_by_refused, ended_by_work, ended_of_another, ended_openly, ended_sealed, ended_otherwise, given_up_by_other, hold_left_out, left_beside_copy, old_left_out, unkept_unasked, unread_left_out, value_again, value_left_out, value_otherwise, value_stored_though_full, value_twice, woken_by_another}
use Rattle.law_time.specs.WorkedWaits.{the_other_switch}
use Rattle.law_time.specs.WrongEnds.{awake_after_link, awake_in_next_line}
use Rattle.law_time.specs.law_transcript.Worked.{the_lock, the_sensor, the_switch}
use Rattle.law_time.proofs.Computing.{computing}
use Rattle.law_host.proofs.Noting.{unended, unfit}
use Rattle.law_host.proofs.notes.rejected_notes.Goals as goal

pub returns-clause-left_out : goal.returns-clause-left_out
unfolding computing
returns-clause-left_out c = unended [] (heeds_of (the_switch ∷ [])) first_start value_left_out (λ choices. refl)

pub returns-clause-twice : goal.returns-clause-twice
unfolding computing
returns-clause-twice c = unfit [] (heeds_of (the_switch ∷ [])) first_start value_twice (λ choices. refl)

pub returns-clause-again : goal.returns-clause-again
unfolding computing
returns-clause-again c = unfit [] (heeds_of (the_switch ∷ [])) first_start value_again (λ choices. refl)

pub returns-clause-beside_copy : goal.returns-clause-beside_copy
unfolding computing
returns-clause-beside_copy c = unended [] (heeds_of (the_switch ∷ [])) first_start left_beside_copy (λ choices. refl)

-- whether the record of the interview was kept or not, some entry may not stand
by_other_fails : (keepings : List Bool) (texts : List (Option (List ℕ)))
    → (course_of (heeds_of (the_switch ∷ the_other_switch ∷ [])) first_start given_up_by_other (record { keepings = keepings; texts = texts })).fits ≡ false
unfolding computing
by_other_fails [] texts = refl
by_other_fails (true ∷ keepings) texts = refl
by_other_fails (false ∷ keepings) texts = refl

pub returns-clause-by_other_request : goal.returns-clause-by_other_request
returns-clause-by_other_request c =
    unfit [] (heeds_of (the_switch ∷ the_other_switch ∷ [])) first_start given_up_by_other (λ choices. by_other_fails choices.keepings choices.texts)

-- whether the record of the outcome was kept or not, something is to be noted at the end
old_fails : (keepings : List Bool) (texts : List (Option (List ℕ)))
    → (ended_whole (heeds_of (the_switch ∷ [])) old_left_out (course_of (heeds_of (the_switch ∷ [])) first_start old_left_out (record { keepings = keepings; texts = texts }))).fits ≡ false
unfolding computing
old_fails [] texts = refl
old_fails (true ∷ keepings) texts = refl
old_fails (false ∷ keepings) texts = refl

pub returns-clause-old : goal.returns-clause-old
returns-clause-old c = unended [] (heeds_of (the_switch ∷ [])) first_start old_left_out (λ choices. old_fails choices.keepings choices.texts)

pub returns-clause-first : goal.returns-clause-first
unfolding computing
returns-clause-first c = unfit [] (heeds_of (the_switch ∷ [])) after_sessions ended_by_first (λ choices. refl)

pub returns-clause-value : goal.returns-clause-value
unfolding computing
returns-clause-value c = unfit [] (heeds_of (the_switch ∷ [])) first_start value_otherwise (λ choices. refl)

pub returns-clause-by_other : goal.returns-clause-by_other
unfolding computing
returns-clause-by_other c = unfit [] (heeds_of (the_switch ∷ [])) after_begun ended_by_other (λ choices. refl)

pub returns-clause-by_refused : goal.returns-clause-by_refused
unfolding computing
returns-clause-by_refused c = unfit [] (heeds_of (the_switch ∷ [])) after_begun ended_by_refused (λ choices. refl)

pub returns-clause-openly : goal.returns-clause-openly
unfolding computing
returns-clause-openly c = unfit [] (heeds_of (the_lock ∷ [])) after_lock_begun ended_openly (λ choices. refl)

pub returns-clause-woken : goal.returns-clause-woken
unfolding computing
returns-clause-woken c = unfit [] (heeds_of (the_sensor ∷ [])) first_start woken_by_another (λ choices. refl)

pub returns-clause-next_line : goal.returns-clause-next_line
unfolding computing
returns-clause-next_line c = unfit [] (heeds_of (the_sensor ∷ [])) after_waking (drop 1 awake_in_next_line) (λ choices. refl)

pub returns-clause-after_link : goal.returns-clause-after_link
unfolding computing
returns-clause-after_link c = unfit [] (heeds_of (the_sensor ∷ [])) after_waking (drop 1 awake_after_link) (λ choices. refl)

-- whether the record of the outcome was kept or not, it is that of the report and of its command
ended_fails : (keepings : List Bool) (texts : List (Option (List ℕ)))
    → (course_of (heeds_of (the_switch ∷ [])) after_begun ended_otherwise (record { keepings = keepings; texts = texts })).fits ≡ false
unfolding computing
ended_fails [] texts = refl
ended_fails (true ∷ keepings) texts = refl
ended_fails (false ∷ keepings) texts = refl

pub returns-clause-otherwise : goal.returns-clause-otherwise
returns-clause-otherwise c = unfit [] (heeds_of (the_switch ∷ [])) after_begun ended_otherwise (λ choices. ended_fails choices.keepings choices.texts)

another_fails : (keepings : List Bool) (texts : List (Option (List ℕ)))
    → (course_of (heeds_of (the_switch ∷ [])) after_begun ended_of_another (record { keepings = keepings; texts = texts })).fits ≡ false
unfolding computing
another_fails [] texts = refl
another_fails (true ∷ keepings) texts = refl
another_fails (false ∷ keepings) texts = refl

pub returns-clause-of_another : goal.returns-clause-of_another
returns-clause-of_another c = unfit [] (heeds_of (the_switch ∷ [])) after_begun ended_of_another (λ choices. another_fails choices.keepings choices.texts)

-- whether the record of the outcome was kept or not
hold_fails : (keepings : List Bool) (texts : List (Option (List ℕ)))
    → (ended_whole (heeds_of (the_sensor ∷ [])) (after_sleeper_begun.before ++ hold_left_out) (course_of (heeds_of (the_sensor ∷ [])) after_sleeper_begun hold_left_out (record { keepings = keepings; texts = texts }))).fits ≡ false
unfolding computing
hold_fails [] texts = refl
hold_fails (true ∷ keepings) texts = refl
hold_fails (false ∷ keepings) texts = refl

pub returns-clause-hold : goal.returns-clause-hold
returns-clause-hold c = unended [] (heeds_of (the_sensor ∷ [])) after_sleeper_begun hold_left_out (λ choices. hold_fails choices.keepings choices.texts)

pub returns-clause-unkept : goal.returns-clause-unkept
unfolding computing
returns-clause-unkept c = unfit [] (heeds_of (the_switch ∷ [])) first_start unkept_unasked (λ choices. refl)

-- whether the record of the nonce was kept or not
first_fails : (keepings : List Bool) (texts : List (Option (List ℕ)))
    → (course_of (heeds_of (the_switch ∷ [])) first_start dropped_first (record { keepings = keepings; texts = texts })).fits ≡ false
unfolding computing
first_fails [] texts = refl
first_fails (true ∷ keepings) texts = refl
first_fails (false ∷ keepings) texts = refl

pub returns-clause-dropped_first : goal.returns-clause-dropped_first
returns-clause-dropped_first c = unfit [] (heeds_of (the_switch ∷ [])) first_start dropped_first (λ choices. first_fails choices.keepings choices.texts)

other_fails : (keepings : List Bool) (texts : List (Option (List ℕ)))
    → (course_of (heeds_of (the_switch ∷ [])) first_start dropped_of_other (record { keepings = keepings; texts = texts })).fits ≡ false
unfolding computing
other_fails [] texts = refl
other_fails (true ∷ keepings) texts = refl
other_fails (false ∷ keepings) texts = refl

pub returns-clause-dropped_of_other : goal.returns-clause-dropped_of_other
returns-clause-dropped_of_other c = unfit [] (heeds_of (the_switch ∷ [])) first_start dropped_of_other (λ choices. other_fails choices.keepings choices.texts)

pub returns-clause-stored : goal.returns-clause-stored
unfolding computing
returns-clause-stored c = unfit [] (heeds_of (the_switch ∷ [])) after_values value_stored_though_full (λ choices. refl)

pub returns-clause-none_live : goal.returns-clause-none_live
unfolding computing
returns-clause-none_live c = unfit [] (heeds_of (the_lock ∷ [])) after_lock_begun ended_sealed (λ choices. refl)

pub returns-clause-later_live : goal.returns-clause-later_live
unfolding computing
returns-clause-later_live c = unfit [] (heeds_of (the_lock ∷ [])) after_later_nonce ended_sealed (λ choices. refl)

pub returns-clause-by_work : goal.returns-clause-by_work
unfolding computing
returns-clause-by_work c = unfit [] (heeds_of (the_switch ∷ [])) after_begun ended_by_work (λ choices. refl)

pub returns-clause-unread : goal.returns-clause-unread
unfolding computing
returns-clause-unread c = unended [] (heeds_of (the_switch ∷ [])) first_start unread_left_out (λ choices. refl)
