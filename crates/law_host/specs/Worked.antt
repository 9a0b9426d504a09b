-- Worked transcripts of notes and of nonces, and others with one thing wrong, made by hand in the form in which the program prints them, as a
-- host hears them.
use Rattle.std.specs.Prelude.{ℕ, ◌==◌, true, false, if◌then◌else◌, List, [], ◌∷◌, ◌++◌, codes, drop, map, take, None, Some}
use Rattle.std.specs.List.{flat_map, range_with_len}
use Rattle.zw_base.specs.declared.order.Word.TheVariants.{On, Off}
use Rattle.zw_base.specs.declared.order.What.TheVariants.{Value}
use Rattle.zw_base.specs.declared.property.Name.TheVariants as names
use Rattle.class_info.specs.declared.report_status.ReportStatus.TheVariants.{Working}
use Rattle.law_time.specs.law_transcript.device_stack.State.{State}
use Rattle.host_heard.specs.declared.told.Told.{Told}
use Rattle.host_heard.specs.declared.told.Told.TheVariants as told
use Rattle.host_keep.specs.declared.final_status.FinalStatus.TheVariants.{Success}
use Rattle.host_keep.specs.declared.record.Record.{Record}
use Rattle.host_keep.specs.declared.record.Record.TheVariants as records
use Rattle.host_orders.specs.Settings.{setting}
use Rattle.zw_words.specs.declared.side.Side.TheVariants.{Host, Chip}
use Rattle.zw_text.specs.declared.entry.Done.TheVariants as done
use Rattle.zw_text.specs.declared.entry.Ended.TheVariants as endings
use Rattle.zw_text.specs.declared.entry.Refusal.TheVariants as refusals
use Rattle.zw_text.specs.declared.entry.Entry.{Entry}
use Rattle.zw_text.specs.declared.entry.Entry.TheVariants.{Said, Accepted, Refused, Begin, Dropped, Garbled, Overrun, Air, Out, Store, Report, Unstored, Old, Unread, Awake, Interviewed, Done, ChipFull, QueueFull, Held, Json, Unkept, Time}
use Rattle.law_time.specs.law_transcript.Worked.{bytes, plain_exchange, repeated_exchange, sealed_exchange}
use Rattle.law_time.specs.Heeds.{heeds_of}
use Rattle.law_time.specs.WorkedWaking.{failing_report}
use Rattle.law_time.specs.WorkedWaits.{waited_attempts}
use Rattle.law_time.specs.WorkedTurns.{filled, given_up_plug, second_wanted}
use Rattle.law_time.specs.WorkedUnits.{by_chip, by_host, chip_acknowledges, delivered, host_acknowledges, message_sent, nonce_asked, notified, taken}
use Rattle.law_host.specs.Course.{Choices}
use Rattle.law_host.specs.Notes.{Start, course_of}
use Rattle.law_host.specs.Story.{interview_told}

-- every record is kept, and no message of a lock is heard
abbrev pub all_kept : Choices
all_kept = record { keepings = []; texts = [] }

-- ---- ticks

-- `set 2 on` and three attempts whose reports are lost, and then `drop h`, `send 2 on`, `tick 20`: the second copy of the Set stands in the tick in which the third
-- attempt is over, before the command is given up
abbrev pub given_up_beside_copy : List Entry
given_up_beside_copy =
    take 40 waited_attempts ++ Said (codes "tick 85") ∷ Time 203 ∷ by_chip (codes "010500130300EA") ∷ host_acknowledges ∷ Said (codes "drop h") ∷
    Said (codes "send 2 on") ∷ by_host (codes "010A001302032501FF25041D") ∷ Dropped Host ∷ Said (codes "tick 20") ∷ Time 303 ∷
    by_host (codes "010A001302032501FF25041D") ∷ Out 1 endings.Unanswered ∷ []

-- the command is given up, and that is not said
abbrev pub left_beside_copy : List Entry
left_beside_copy = take 51 given_up_beside_copy

-- `set 2 on`, `set 10 on`, whose reports never come: the last signs of both third attempts are of one tick, and a `get 10` that is not called back ends in silence in the tick in which both are over.
-- That request is of no attempt, so its end gives up no command: both are given up in the order of their nodes
abbrev pub given_up_in_order : List Entry
given_up_in_order =
    Said (codes "join 10") ∷ Said (codes "interview 10") ∷ by_host (codes "010400410AB0") ∷ chip_acknowledges ∷
    by_chip (codes "0109014180000004000032") ∷ host_acknowledges ∷ by_host (codes "010400600A91") ∷ chip_acknowledges ∷
    by_chip (codes "01040160019B") ∷ host_acknowledges ∷ by_chip (codes "010B0049840A05041001256C6A") ∷ host_acknowledges ∷ Interviewed 10 ∷
    Said (codes "tick 1") ∷ Said (codes "set 2 on") ∷ Accepted 1 2 ∷ Begin 2 1 1 ∷ message_sent ∷ Said (codes "set 10 on") ∷ Accepted 2 10 ∷
    chip_acknowledges ∷ taken ∷ host_acknowledges ∷ delivered ∷ host_acknowledges ∷ Begin 10 1 2 ∷
    by_host (codes "010E00130A076C0101032501FF25027C") ∷ chip_acknowledges ∷ taken ∷ host_acknowledges ∷ by_chip (codes "010500130200EB") ∷
    host_acknowledges ∷ Said (codes "tick 100") ∷ Time 101 ∷ by_host (codes "010E001302076C0101032501FF250375") ∷ chip_acknowledges ∷ taken ∷
    host_acknowledges ∷ by_chip (codes "010500130300EA") ∷ host_acknowledges ∷ by_host (codes "010E00130A076C0101032501FF25047A") ∷
    chip_acknowledges ∷ taken ∷ host_acknowledges ∷ by_chip (codes "010500130400ED") ∷ host_acknowledges ∷ Said (codes "tick 100") ∷ Time 201 ∷
    by_host (codes "010E001302076C0101032501FF250573") ∷ chip_acknowledges ∷ taken ∷ host_acknowledges ∷ by_chip (codes "010500130500EC") ∷
    host_acknowledges ∷ by_host (codes "010E00130A076C0101032501FF250678") ∷ chip_acknowledges ∷ taken ∷ host_acknowledges ∷
    by_chip (codes "010500130600EF") ∷ host_acknowledges ∷ Said (codes "tick 35") ∷ Said (codes "get 10") ∷
    by_host (codes "010900130A0225022507E8") ∷ chip_acknowledges ∷ taken ∷ host_acknowledges ∷ Said (codes "tick 70") ∷ Time 301 ∷
    Done 10 done.Silent ∷ Out 1 endings.Unanswered ∷ Out 2 endings.Unanswered ∷ by_host (codes "01030016EA") ∷ []

-- the command of the other node is given up first, as if by the end of that request
abbrev pub given_up_by_other : List Entry
given_up_by_other = take 69 given_up_in_order ++ Out 2 endings.Unanswered ∷ Out 1 endings.Unanswered ∷ []

-- ---- values

-- `get 2`, `tick 2`: a switch is asked for its value, and tells it
abbrev pub value_heard : List Entry
value_heard =
    Said (codes "get 2") ∷ by_host (codes "01090013020225022501E6") ∷ chip_acknowledges ∷ taken ∷ host_acknowledges ∷ Said (codes "tick 2") ∷
    Time 1 ∷ delivered ∷ host_acknowledges ∷ Done 2 done.Delivered ∷ Time 2 ∷ by_chip (codes "01090004000203250300D5") ∷ host_acknowledges ∷
    Report 2 (setting 0 names.Switch 0) ∷ []

-- it is left out, entered twice, entered as another, and entered again without being told
abbrev pub value_left_out : List Entry
value_left_out = take 13 value_heard

abbrev pub value_twice : List Entry
value_twice = value_heard ++ Report 2 (setting 0 names.Switch 0) ∷ []

abbrev pub value_otherwise : List Entry
value_otherwise = take 13 value_heard ++ Report 2 (setting 0 names.Switch 255) ∷ []

abbrev pub value_again : List Entry
value_again = value_heard ++ Said (codes "tick 1") ∷ Time 3 ∷ Report 2 (setting 0 names.Switch 0) ∷ []

-- node 2 has told values of 512 properties since the host started, and tells one of another: there is no room for it, or it is entered
abbrev pub values_before : List Entry
values_before = flat_map (λ number. Report 2 (setting 0 (names.Config number) 0) ∷ []) (range_with_len 1 512)

abbrev pub after_values : Start
after_values = record { before = values_before; books = [] }

abbrev pub value_unstored : List Entry
value_unstored =
    by_chip (codes "01090004000203250300D5") ∷ host_acknowledges ∷ Unstored 2 (record { end = 0; name = names.Switch }) ∷ []

abbrev pub value_stored_though_full : List Entry
value_stored_though_full = by_chip (codes "01090004000203250300D5") ∷ host_acknowledges ∷ Report 2 (setting 0 names.Switch 0) ∷ []

-- ---- values that are shown

-- `store 2` after the plain exchange: the value that was confirmed is shown
abbrev pub value_text : List ℕ
value_text = codes "{\"node\":2,\"values\":[{\"confirmed\":255,\"heard\":null,\"property\":\"0/switch\"}]}"

abbrev pub values_shown : List Entry
values_shown = Said (codes "store 2") ∷ Json value_text ∷ []

-- another value is, or none, or one is that no line asks for
abbrev pub values_otherwise : List Entry
values_otherwise =
    Said (codes "store 2") ∷ Json (codes "{\"node\":2,\"values\":[{\"confirmed\":0,\"heard\":null,\"property\":\"0/switch\"}]}") ∷ []

abbrev pub values_left_out : List Entry
values_left_out = Said (codes "store 2") ∷ []

abbrev pub values_unasked : List Entry
values_unasked = Json value_text ∷ []

-- ---- reports of sessions

-- the report that comes a second time is old, and that is left out
abbrev pub old_left_out : List Entry
old_left_out = take 35 repeated_exchange

-- 64 sessions of node 2 have succeeded, of the first of which the report stands there
abbrev pub sessions_before : List Entry
sessions_before = plain_exchange ++ flat_map (λ number. Begin 2 number number ∷ Out number endings.Success ∷ []) (range_with_len 2 63)

abbrev pub after_sessions : Start
after_sessions = record { before = sessions_before; books = [] }

-- the next session has the id of the first: its report comes, and it succeeds
abbrev pub last_session : List Entry
last_session =
    Said (codes "set 2 on") ∷ Accepted 65 2 ∷ Begin 2 65 65 ∷ by_host (codes "010E001302076C0101032501FF250274") ∷ chip_acknowledges ∷ taken ∷
    host_acknowledges ∷ Said (codes "tick 2") ∷ Time 3 ∷ by_chip (codes "010500130200EB") ∷ host_acknowledges ∷ Time 4 ∷
    by_chip (codes "010B00040002056C0201FF0067") ∷ host_acknowledges ∷ Out 65 endings.Success ∷ Store 2 (setting 0 names.Switch 255) ∷ []

-- it succeeds with the report of the first session alone
abbrev pub ended_by_first : List Entry
ended_by_first = take 12 last_session ++ Out 65 endings.Success ∷ Store 2 (setting 0 names.Switch 255) ∷ []

-- a command of node 2 is sent, and its report says that it failed, or is not supported, or is that of another session
abbrev pub begun : List Entry
begun = Said (codes "set 2 on") ∷ Accepted 1 2 ∷ Begin 2 1 1 ∷ []

abbrev pub after_begun : Start
after_begun = record { before = begun; books = [] }

abbrev pub judged : List ℕ → List Entry → List Entry
judged report notes = by_chip report ∷ host_acknowledges ∷ notes

abbrev pub failure_told : List Entry
failure_told = judged (codes "010B00040002056C020102009A") (Out 1 endings.Fail ∷ [])

abbrev pub unsupported_told : List Entry
unsupported_told = judged (codes "010B00040002056C0201000098") (Out 1 endings.NoSupport ∷ [])

abbrev pub other_told : List Entry
other_told = judged (codes "010B00040002056C0202FF0064") (Old 2 2 ∷ [])

-- its report says that the device is at work on it, of which nothing is noted; or it ends by that
abbrev pub work_told : List Entry
work_told = judged (codes "010B00040002056C0201010099") []

abbrev pub ended_by_work : List Entry
ended_by_work = judged (codes "010B00040002056C0201010099") (Out 1 endings.Success ∷ [])

-- its report is changed on the line, and so refused, and nothing is noted of it; or it ends by that
abbrev pub report_refused : List Entry
report_refused =
    by_chip (codes "010B00040002056C0201FF0066") ∷ Garbled Chip (bytes (codes "010B00040002056C0201FF0066")) ∷ by_host (codes "15") ∷ []

abbrev pub ended_by_refused : List Entry
ended_by_refused = report_refused ++ Out 1 endings.Success ∷ []

-- it ends otherwise than the report says, as another command, or by the report of another session
abbrev pub ended_otherwise : List Entry
ended_otherwise = judged (codes "010B00040002056C020102009A") (Out 1 endings.Success ∷ [])

abbrev pub ended_of_another : List Entry
ended_of_another = judged (codes "010B00040002056C020102009A") (Out 2 endings.Fail ∷ [])

abbrev pub ended_by_other : List Entry
ended_by_other = judged (codes "010B00040002056C0202FF0064") (Out 1 endings.Success ∷ [])

-- the report of a node that does not listen says that its command failed, and asks to be kept awake; that is done, or not
abbrev pub sleeper_begun : List Entry
sleeper_begun = Said (codes "interval 5 300") ∷ Accepted 1 5 ∷ Begin 5 1 1 ∷ []

abbrev pub after_sleeper_begun : Start
after_sleeper_begun = record { before = sleeper_begun; books = [] }

abbrev pub held_at_failure : List Entry
held_at_failure = judged failing_report (Out 1 endings.Fail ∷ Held 5 ∷ [])

abbrev pub hold_left_out : List Entry
hold_left_out = judged failing_report (Out 1 endings.Fail ∷ [])

-- a lock has a session; its report comes openly, and is not read
abbrev pub lock_begun : List Entry
lock_begun = Said (codes "join 4") ∷ Interviewed 4 ∷ Said (codes "set 4 on") ∷ Accepted 1 4 ∷ Begin 4 1 1 ∷ []

abbrev pub after_lock_begun : Start
after_lock_begun = record { before = lock_begun; books = [] }

abbrev pub told_openly : List Entry
told_openly = judged (codes "010B00040004056C0201FF0061") (Unread 4 (0x6C ∷ 0x02 ∷ 0x01 ∷ 0xFF ∷ 0x00 ∷ []) ∷ [])

-- it is taken for the report
abbrev pub ended_openly : List Entry
ended_openly = judged (codes "010B00040004056C0201FF0061") (Out 1 endings.Success ∷ Store 4 (setting 0 names.Lock 255) ∷ [])

-- it comes sealed for a nonce that was given before the host started, and was kept as live
abbrev pub after_nonce_given : Start
after_nonce_given = record {
  before = lock_begun;
  books = record { node = 4; sealer = record { seen = 1; pending = []; ready = [] }; giver = record { given = 1; live = true; offers = [] } } ∷ [];
}

abbrev pub told_sealed : List ℕ
told_sealed = codes "011F000400041998810AED115731C616E72C1D6945BFE201FE761C24E5DCC41E55"

-- where no nonce is live, or another than the message names, it is not read
abbrev pub after_later_nonce : Start
after_later_nonce = record {
  before = lock_begun;
  books = record { node = 4; sealer = record { seen = 1; pending = []; ready = [] }; giver = record { given = 2; live = true; offers = [] } } ∷ [];
}

abbrev pub unread_sealed : List Entry
unread_sealed = judged told_sealed (Unread 4 (bytes (codes "98810AED115731C616E72C1D6945BFE201FE761C24E5DCC41E")) ∷ [])

-- what is no message is not read, or is left out
abbrev pub unread_payload : List Entry
unread_payload = judged (codes "01090004000203250700D1") (Unread 2 (0x25 ∷ 0x07 ∷ 0x00 ∷ []) ∷ [])

abbrev pub unread_left_out : List Entry
unread_left_out = judged (codes "01090004000203250700D1") []

abbrev pub ended_sealed : List Entry
ended_sealed = judged told_sealed (Out 1 endings.Success ∷ Store 4 (setting 0 names.Lock 255) ∷ [])

-- ---- sessions that do not begin, and messages that are dropped

-- the record of a session is not kept; or nothing is to be kept
abbrev pub begun_unkept : List Entry
begun_unkept = Said (codes "set 2 on") ∷ Accepted 1 2 ∷ Unkept 2 ∷ []

abbrev pub unkept_unasked : List Entry
unkept_unasked = Unkept 2 ∷ []

-- while 64 requests wait a payload tells a value and asks for a nonce: that is dropped before the value is noted, or as if the node were another
abbrev pub value_and_nonce : List Entry → List Entry
value_and_nonce notes = filled ++ judged (codes "0110000400020A8F01020325030002984090") notes

abbrev pub dropped_first : List Entry
dropped_first = value_and_nonce (QueueFull 2 ∷ Report 2 (setting 0 names.Switch 0) ∷ [])

abbrev pub dropped_of_other : List Entry
dropped_of_other = value_and_nonce (Report 2 (setting 0 names.Switch 0) ∷ QueueFull 4 ∷ [])

-- ---- waking and sleep

-- a node tells that it is awake, or another does
abbrev pub woken : List Entry
woken = notified ∷ host_acknowledges ∷ Awake 5 ∷ []

abbrev pub woken_by_another : List Entry
woken_by_another = notified ∷ host_acknowledges ∷ Awake 6 ∷ []

-- a node is awake
abbrev pub after_waking : Start
after_waking = record { before = Awake 5 ∷ []; books = [] }

-- ---- nonces that the host takes

-- a message is sealed for the nonce that the lock gave, and is not heard
abbrev pub seal_unheard : List Entry
seal_unheard = take 54 sealed_exchange ++ Time 106 ∷ by_chip (codes "010500130301EB") ∷ host_acknowledges ∷ []

-- the next attempt asks for a nonce, or is sealed for the same one
abbrev pub asked_anew : List Entry
asked_anew = seal_unheard ++ by_host (codes "010900130402984025041A") ∷ []

abbrev pub nonce_again : List Entry
nonce_again =
    seal_unheard ++ by_host (codes "01220013041B98816B71E54E0F8EE3186CCEA9D132AB2C95018A573A88D6BE287E250488") ∷ []

-- ---- nonces that the host gives

-- node 4 asks for a nonce twice, and is given the live one
abbrev pub nonce_given : List Entry
nonce_given =
    nonce_asked ∷ host_acknowledges ∷ by_host (codes "01110013040A9880019E0A1249BB594F2501AC") ∷ chip_acknowledges ∷ taken ∷ host_acknowledges ∷
    delivered ∷ host_acknowledges ∷ nonce_asked ∷ host_acknowledges ∷ []

abbrev pub given_live : List Entry
given_live = nonce_given ++ by_host (codes "01110013040A9880019E0A1249BB594F2502AF") ∷ []

-- or a new one
abbrev pub given_new : List Entry
given_new = nonce_given ++ by_host (codes "01110013040A988002010203040506072502CE") ∷ []

-- or another with the number of the live one; and the first that is given has the number of the second
abbrev pub given_otherwise : List Entry
given_otherwise = nonce_given ++ by_host (codes "01110013040A988001FF0A1249BB594F2502CE") ∷ []

abbrev pub given_skipped : List Entry
given_skipped = nonce_asked ∷ host_acknowledges ∷ by_host (codes "01110013040A988002010203040506072501CD") ∷ []

-- the host starts again between the two: the live nonce is given again, or a new one
abbrev pub nonce_over_restart : List Entry
nonce_over_restart = take 8 nonce_given ++ Said (codes "restart") ∷ drop 8 nonce_given

abbrev pub live_over_restart : List Entry
live_over_restart = nonce_over_restart ++ by_host (codes "01110013040A9880019E0A1249BB594F2502AF") ∷ []

abbrev pub new_over_restart : List Entry
new_over_restart = nonce_over_restart ++ by_host (codes "01110013040A988002010203040506072502CE") ∷ []

-- ---- nonces over a restart, and which bytes count

-- a host that has counted so many nonces of node 4 starts again, asks it for one, is given this one, and seals its message for nonce 1
abbrev pub after_counting : ℕ → Start
after_counting count = record {
  before = lock_begun;
  books = record { node = 4; sealer = record { seen = count; pending = []; ready = [] }; giver = record { given = 0; live = false; offers = [] } } ∷ [];
}

abbrev pub sealed_over_restart : List ℕ → List Entry
sealed_over_restart given =
    Said (codes "restart") ∷ by_host (codes "010900130402984025011F") ∷ by_chip given ∷ host_acknowledges
    ∷ by_host (codes "01220013041B98816B71E54E0F8EE3186CCEA9D132AB2C95018A573A88D6BE287E25028E") ∷ []

-- that nonce, and another with the same first byte
abbrev pub first_given : List ℕ
first_given = codes "0110000400040A988001ED7E19638089D9C5"

abbrev pub other_given : List ℕ
other_given = codes "0110000400040A988001ED7E19638089D8C4"

-- the host gives node 4 the live nonce, for which this is then sealed
abbrev pub after_nonce_asked : Start
after_nonce_asked = record {
  before = lock_begun;
  books = record { node = 4; sealer = record { seen = 1; pending = []; ready = [] }; giver = record { given = 1; live = true; offers = 1 ∷ [] } } ∷ [];
}

abbrev pub given_then : List ℕ → List Entry → List Entry
given_then report notes = by_host (codes "01110013040A9880019E0A1249BB594F2501AC") ∷ judged report notes

-- the report with another code opens to nothing, and is not read; or that is left out
abbrev pub told_changed : List ℕ
told_changed = codes "011F000400041998810AED115731C616E72C1D6945BFE201FF761C24E5DCC41E54"

abbrev pub unopened : List Entry
unopened = given_then told_changed (Unread 4 (bytes (codes "98810AED115731C616E72C1D6945BFE201FF761C24E5DCC41E")) ∷ [])

abbrev pub unopened_left_out : List Entry
unopened_left_out = given_then told_changed []

-- the report is left out
abbrev pub sealed_left_out : List Entry
sealed_left_out = given_then told_sealed []

-- ---- what no entry shows

-- the report of the lock is judged, and one of two records is not kept: that the nonce is spent, or how the session ended; it asks for a nonce again
abbrev pub report_unkept : List Entry
report_unkept = take 78 sealed_exchange ++ Unkept 4 ∷ nonce_asked ∷ host_acknowledges ∷ []

-- where the nonce was not spent it is given again, and where it was, the next one
abbrev pub given_unspent : List Entry
given_unspent = report_unkept ++ by_host (codes "01110013040A9880019E0A1249BB594F2505A8") ∷ []

abbrev pub given_spent : List Entry
given_spent = report_unkept ++ by_host (codes "01110013040A988002010203040506072505C9") ∷ []

-- which records were kept, and what the report opens to where it is opened
abbrev pub sealed_report : List ℕ
sealed_report = 0x6C ∷ 0x02 ∷ 0x01 ∷ 0xFF ∷ 0x00 ∷ []

abbrev pub report_kept : Choices
report_kept = record { keepings = []; texts = Some sealed_report ∷ [] }

abbrev pub opened_to_nothing : Choices
opened_to_nothing = record { keepings = []; texts = None ∷ [] }

abbrev pub unspent : Choices
unspent = record { keepings = true ∷ true ∷ true ∷ false ∷ []; texts = [] }

abbrev pub spent : Choices
spent = record { keepings = true ∷ true ∷ true ∷ true ∷ false ∷ []; texts = Some sealed_report ∷ [] }

-- ---- what a host goes by

-- the messages of each payload by which a host goes that starts so, among these devices, with these choices
abbrev pub gone_by : List State → Start → List Entry → Choices → List (List Told)
gone_by devices start heard choices = map (λ heeding. heeding.messages) (course_of (heeds_of devices) start heard choices).heeded

-- one payload asks for a nonce and has the report of a session; one of the two records is not kept, the second or the first
abbrev pub nonce_and_report : List Entry
nonce_and_report = judged (codes "0112000400020C8F0102029840056C0201FF0024") []

abbrev pub first_kept : Choices
first_kept = record { keepings = true ∷ false ∷ []; texts = [] }

abbrev pub second_kept : Choices
second_kept = record { keepings = false ∷ true ∷ []; texts = [] }

-- where the second is not, the nonce is given
abbrev pub given_beside_unkept : List Entry
given_beside_unkept = nonce_and_report ++ Unkept 2 ∷ by_host (codes "01110013020A988001020304050607082501C1") ∷ []

-- a lock says openly that it is at work
abbrev pub working_openly : List Entry
working_openly = judged (codes "010B00040004056C020101009F") []

-- a sealed payload opens to a Nonce Get, and the nonce is given
abbrev pub opens_to_get : Choices
opens_to_get = record { keepings = []; texts = Some (0x98 ∷ 0x40 ∷ []) ∷ [] }

abbrev pub asked_sealed : List Entry
asked_sealed = judged told_sealed []

abbrev pub given_sealed : List Entry
given_sealed = asked_sealed ++ by_host (codes "01110013040A988001020304050607082501C7") ∷ []

-- a message in segments has been given up, and the node asks for its second segment
abbrev pub after_plug : Start
after_plug = record { before = given_up_plug; books = [] }

abbrev pub segment_asked : List Entry
segment_asked = second_wanted ∷ host_acknowledges ∷ []

-- what is gone by of a single payload: nothing, a Nonce Get, that the session is at work, and what asks for the second segment
abbrev pub by_nothing : List (List Told)
by_nothing = [] ∷ []

abbrev pub by_get : List (List Told)
by_get = (told.NonceGet ∷ []) ∷ []

abbrev pub by_work : List (List Told)
by_work = (told.Report 1 Working false ∷ []) ∷ []

abbrev pub by_segment : List (List Told)
by_segment = (told.SegmentRequest 1 39 ∷ []) ∷ []

-- ---- what a host hears

-- node 5 has listed two things in two interviews, between which a command of it was accepted
abbrev pub informed : List ℕ → List Entry
informed unit = by_chip unit ∷ host_acknowledges ∷ Interviewed 5 ∷ []

abbrev pub informed_twice : List Entry
informed_twice =
    Said (codes "join 5") ∷ informed (codes "010D00498405070400003180846C60") ++ Said (codes "interval 5 300") ∷ Accepted 1 5
    ∷ informed (codes "010C004984050604000084556C84")

-- what it hears of the plain exchange
abbrev pub plain_heard : List Entry
plain_heard =
    Said (codes "set 2 on") ∷ Accepted 1 2 ∷ Begin 2 1 1 ∷ by_host (codes "010E001302076C0101032501FF250177") ∷ chip_acknowledges ∷ taken ∷
    host_acknowledges ∷ Said (codes "tick 2") ∷ Time 1 ∷ delivered ∷ host_acknowledges ∷ Time 2 ∷ by_chip (codes "010B00040002056C0201FF0067") ∷
    host_acknowledges ∷ Out 1 endings.Success ∷ Store 2 (setting 0 names.Switch 255) ∷ []

-- units of the chip are lost, overrun and changed, and a unit of the host is lost; lines ask for a frame again and wake a node
abbrev pub mixed : List Entry
mixed =
    Said (codes "repeat 1") ∷ Refused refusals.NeverSent ∷ Said (codes "wake 5") ∷ Air 1 5 1 [] (0x84 ∷ 7 ∷ []) ∷ notified ∷ Dropped Chip ∷ notified ∷
    Overrun Chip ∷ notified ∷ Garbled Chip (bytes (codes "01080004000502840776")) ∷ by_host (codes "15") ∷ notified ∷ host_acknowledges ∷ Dropped Host ∷
    Awake 5 ∷ ChipFull ∷ Said (codes "cancel 1") ∷ Refused (refusals.NotWaiting 1) ∷ []

abbrev pub mixed_heard : List Entry
mixed_heard =
    Said (codes "repeat 1") ∷ Said (codes "wake 5") ∷ by_chip (codes "01080004000502840776") ∷ Garbled Chip (bytes (codes "01080004000502840776")) ∷ by_host (codes "15") ∷ notified ∷
    host_acknowledges ∷ Dropped Host ∷ Awake 5 ∷ Said (codes "cancel 1") ∷ Refused (refusals.NotWaiting 1) ∷ []

-- ---- a run that ends

-- `stall 5`, `drop h`, `set 2 on`: the run ends with the unit, and it is not told that it was lost
abbrev pub loss_untold : List Entry
loss_untold =
    Said (codes "stall 5") ∷ Said (codes "drop h") ∷ Said (codes "set 2 on") ∷ Accepted 1 2 ∷ Begin 2 1 1
    ∷ by_host (codes "010E001302076C0101032501FF250177") ∷ []

-- ---- starts

-- after the plain exchange, though the host goes on
abbrev pub after_exchange : Start
after_exchange = record { before = plain_exchange; books = [] }

-- a first life: node 5 joined and was interviewed, a command of node 2 succeeded, and one more was accepted before the host started again
abbrev pub first_life : List Entry
first_life =
    Said (codes "join 5") ∷ by_chip (codes "010D00498405070400003180846C60") ∷ host_acknowledges ∷ Interviewed 5
    ∷ Said (codes "set 2 on") ∷ Accepted 1 2 ∷ Begin 2 1 1 ∷ Out 1 endings.Success
    ∷ Store 2 (setting 0 names.Switch 255) ∷ Said (codes "set 2 off") ∷ Accepted 2 2 ∷ Said (codes "restart") ∷ []

abbrev pub after_life : Start
after_life = record { before = first_life; books = [] }

-- what was kept of it
abbrev pub life_records : List Record
life_records =
    records.Joined 5 ∷ records.Classes 5 false (0x31 ∷ 0x80 ∷ 0x84 ∷ 0x6C ∷ []) ∷ records.Accepted 1 (record { node = 2; end = 0; what = Value On })
    ∷ records.Begun 2 1 1 ∷ records.Final 2 1 Success ∷ records.Accepted 2 (record { node = 2; end = 0; what = Value Off }) ∷ []

-- a life of three ticks in which a session has begun and not ended, of which `begun_records` of `law_wire` were kept
abbrev pub open_life : List Entry
open_life = take 3 plain_exchange ++ Said (codes "tick 3") ∷ Said (codes "restart") ∷ []

abbrev pub after_open_life : Start
after_open_life = record { before = open_life; books = [] }

-- its message
abbrev pub message_again : Entry
message_again = by_host (codes "010E001302076C0101032501FF250177")

-- it is sent again, and a copy of it in the sixteenth tick from then on, which is acknowledged
abbrev pub session_resumed : List Entry
session_resumed = message_again ∷ Said (codes "tick 16") ∷ Time 19 ∷ message_again ∷ chip_acknowledges ∷ taken ∷ host_acknowledges ∷ []

-- the command that waits begins the next session, or the first one again
abbrev pub next_session : List Entry
next_session = Begin 2 2 2 ∷ by_host (codes "010E001302076C01020325010025018B") ∷ chip_acknowledges ∷ taken ∷ host_acknowledges ∷ []

abbrev pub session_again : List Entry
session_again = Begin 2 1 2 ∷ []

-- ---- records that no host of this program left

-- one nonce of node 3 was counted, though none of its sessions asked for one
abbrev pub counted_records : List Record
counted_records = records.Joined 3 ∷ records.Classes 3 true (0x98 ∷ 0x6C ∷ 0x25 ∷ []) ∷ records.Seen 3 1 ∷ []

-- their story
abbrev pub counted_story : List Entry
counted_story = Said (codes "join 3") ∷ Said (codes "interview 3") ∷ interview_told 3 true (0x98 ∷ 0x6C ∷ 0x25 ∷ [])

abbrev pub after_counted : Start
after_counted = record {
  before = counted_story ++ Said (codes "restart") ∷ [];
  books = record { node = 3; sealer = record { seen = 1; pending = []; ready = [] }; giver = record { given = 0; live = false; offers = [] } } ∷ [];
}

abbrev pub counted_nonces : ℕ → ℕ
counted_nonces node = if node == 3 then 1 else 0

-- the second nonce of node 3, which is taken
abbrev pub second_nonce : List Told
second_nonce = told.NonceReport (2 ∷ 7 ∷ 7 ∷ 7 ∷ 7 ∷ 7 ∷ 7 ∷ 7 ∷ []) ∷ []

abbrev pub second_taken : List Entry
second_taken =
    Said (codes "set 3 on") ∷ Accepted 1 3 ∷ Begin 3 1 1 ∷ by_host (codes "0109001303029840250118") ∷ chip_acknowledges ∷ taken ∷ host_acknowledges
    ∷ by_chip (codes "010500130100E8") ∷ host_acknowledges ∷ by_chip (codes "0110000400030A98800207070707070707FF") ∷ host_acknowledges
    ∷ by_host (codes "01220013031B98810909090909090909DBA3F22717ADA1F902B7148CEC757E539E2502A0") ∷ []
