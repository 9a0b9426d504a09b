-- Transcripts like those of waking and of holds that break the laws, one thing wrong in each.
use Rattle.std.specs.Prelude.{List, [], ◌∷◌, ◌++◌, codes, take}
use Rattle.zw_base.specs.declared.property.Name.TheVariants as names
use Rattle.zw_base.specs.declared.property.By.TheVariants.{Session}
use Rattle.zw_words.specs.declared.side.Side.TheVariants.{Chip}
use Rattle.host_orders.specs.Settings.{setting}
use Rattle.zw_text.specs.declared.entry.Refusal.TheVariants as refusals
use Rattle.zw_text.specs.declared.entry.Ended.TheVariants as endings
use Rattle.zw_text.specs.declared.entry.Entry.{Entry}
use Rattle.zw_text.specs.declared.entry.Entry.TheVariants.{Said, Awake, Held, Accepted, Air, Begin, ChipFull, Cleared, Dev, Forget, Heard, Lost, Refused, Time, Unheard, Unkept}
use Rattle.law_time.specs.WorkedUnits.{by_chip, host_acknowledges, chip_acknowledges}
use Rattle.law_time.specs.WorkedWaking.{ended_by, failing_report, unsupported_report, awake_by_sealed, both_ask, work_asks}

-- a node counts as awake by a payload that cannot be read
abbrev pub awake_by_unread : List Entry
awake_by_unread = by_chip (codes "01080004000502FF000B") ∷ host_acknowledges ∷ Awake 5 ∷ []

-- a node asks to be held as its command fails, or is not supported, and is not
abbrev pub not_held_failing : List Entry
not_held_failing = ended_by failing_report endings.Fail ++ Said (codes "tick 1") ∷ []

abbrev pub not_held_unsupported : List Entry
not_held_unsupported = ended_by unsupported_report endings.NoSupport ++ Said (codes "tick 1") ∷ []

-- it is held by a report of another session, and as its command is unanswered
abbrev pub held_by_other : List Entry
held_by_other = ended_by (codes "010B00040005056C0242FF0023") endings.Success ++ Held 5 ∷ []

abbrev pub held_unanswered : List Entry
held_unanswered = ended_by failing_report endings.Unanswered ++ Held 5 ∷ []

-- both reports of a payload ask, and it is not held; it is held by one that it is at work, and by what cannot be read
abbrev pub not_held_by_both : List Entry
not_held_by_both = ended_by both_ask endings.Fail ++ Said (codes "tick 1") ∷ []

abbrev pub held_by_work : List Entry
held_by_work = ended_by work_asks endings.Fail ++ Held 5 ∷ []

abbrev pub held_by_unread : List Entry
held_by_unread = ended_by (codes "01080004000502FF000B") endings.Fail ++ Held 5 ∷ []

-- a node counts as awake by what it has sealed, and something stands between
abbrev pub awake_following : Entry → List Entry
awake_following entry = take 2 awake_by_sealed ++ entry ∷ Awake 4 ∷ []

abbrev pub awake_after_line : List Entry
awake_after_line = awake_following (Said (codes "tick 1"))

abbrev pub awake_after_accepted : List Entry
awake_after_accepted = awake_following (Accepted 1 4)

abbrev pub awake_after_refused : List Entry
awake_after_refused = awake_following (Refused refusals.BadValue)

abbrev pub awake_after_tick : List Entry
awake_after_tick = awake_following (Time 1)

abbrev pub awake_after_frame : List Entry
awake_after_frame = awake_following (Air 1 4 1 [] [])

abbrev pub awake_after_hearing : List Entry
awake_after_hearing = awake_following (Heard 1)

abbrev pub awake_after_loss : List Entry
awake_after_loss = awake_following (Lost 1)

abbrev pub awake_after_unhearing : List Entry
awake_after_unhearing = awake_following (Unheard 1)

abbrev pub awake_after_change : List Entry
awake_after_change = awake_following (Dev 4 (Session 1) (setting 0 names.Lock 255))

abbrev pub awake_after_unit : List Entry
awake_after_unit = awake_following chip_acknowledges

abbrev pub awake_after_forgotten : List Entry
awake_after_forgotten = awake_following (Forget 1 4)

abbrev pub awake_after_full : List Entry
awake_after_full = awake_following ChipFull

abbrev pub awake_after_cleared : List Entry
awake_after_cleared = awake_following (Cleared Chip 1)

abbrev pub awake_after_session : List Entry
awake_after_session = awake_following (Begin 4 1 1)

-- or a tick and then a note
abbrev pub awake_after_note : List Entry
awake_after_note = take 2 awake_by_sealed ++ Time 1 ∷ Unkept 4 ∷ Awake 4 ∷ []
