-- Events after a payload of a node: what they note, and what that leaves of the request under way, of attempts that are late, and of those of a transcript that differs by what became of a unit.
use Rattle.std.proofs.Common.{◌≡◌, ◌⊎◌, ℕ, ◌==◌, Bool, true, false, if◌then◌else◌, inl, inr, List, [], ◌∷◌, ◌++◌, Some, refl, sym, ap, ap₂, ◌∙◌, subst, append-nil, append_assoc}
use Rattle.std.specs.List.{AllByRecursion, list_any}
use Rattle.std.proofs.lemmas.Bool.{cases_eq}
use Rattle.zw_base.specs.declared.property.Setting.{Setting}
use Rattle.zw_words.specs.declared.side.Side.TheVariants.{Host, Chip}
use Rattle.zw_text.specs.declared.entry.Ended.{Ended}
use Rattle.zw_text.specs.declared.entry.Entry.{Entry}
use Rattle.zw_text.specs.declared.entry.Entry.TheVariants as entry
use Rattle.zw_text.specs.Transcript.{session_at, sessions}
use Rattle.host_heard.specs.declared.told.Told.{Told}
use Rattle.host_keep.specs.declared.final_status.FinalStatus.{FinalStatus}
use Rattle.host_keep.specs.declared.final_status.FinalStatus.TheVariants as final
use Rattle.law_transcript.specs.Lists.{EachAfter}
use Rattle.law_transcript.specs.Units.{Carried}
use Rattle.law_time.specs.Attempts.{Attempts, anew, is_late as late_at}
use Rattle.law_time.specs.Heeds.{Heeds}
use Rattle.law_time.specs.Judged.{last_of}
use Rattle.law_time.specs.Moments.{clock}
use Rattle.law_time.specs.Sessions.{is_last_command}
use Rattle.host_model.specs.State.{HostState, command_at, node_of}
use Rattle.host_model.specs.Sessions.{open_command, settings_with}
use Rattle.host_model.specs.After.{after, is_full, is_held}
use Rattle.host_model.specs.Events.{HostEvent, Begins, Finishes, Gives, Has_no_room, Hears, Hears_value, Interview_unkept, Interviews, Is_unkept, Node_ticks, Notifies, Offers, Queues, Reports_old, Resends, Spends, Spends_unread, Takes_nonce, Unreads, Works}
use Rattle.host_model.specs.Facts.{HostFacts}
use Rattle.host_model.specs.May.{IsFinal, May}
use Rattle.host_model.specs.Outs.{dropped_if, ended_of, held_entries, noted, outs, stored_entries}
use Rattle.host_model.specs.declared.out.HostOut.{HostOut}
use Rattle.host_model.specs.declared.out.HostOut.TheVariants.{Note, Write}
use Rattle.proof_hearing.specs.proof_choice.proof_giving.Stays.{ShowsSessions}
use Rattle.proof_hearing.specs.proof_choice.proof_giving.Told.{attempts_so_far}
use Rattle.proof_hearing.proofs.Heeded.{follow_mild}
use Rattle.proof_hearing.proofs.Kept.{IsFollower}
use Rattle.proof_hearing.proofs.Opening.{open_last}
use Rattle.proof_hearing.proofs.Telling.{same_sessions_by}
use Rattle.proof_hearing.proofs.Told.{attempts_left, attempts_one, node_is}
use Rattle.proof_hearing.specs.Hearing.{NoOut, StaysLate}
use Rattle.proof_hearing.specs.proof_queue.proof_attempts.proof_requests.Asking.{Doing}
use Rattle.proof_hearing.specs.proof_queue.proof_attempts.proof_requests.law_host.Following.{is_note, is_noted}
use Rattle.proof_hearing.specs.proof_queue.proof_attempts.proof_requests.law_host.Heard.{heeds_alone}
use Rattle.proof_hearing.specs.proof_queue.proof_attempts.proof_requests.law_host.Nonces.{is_late}
use Rattle.proof_hearing.specs.proof_queue.proof_attempts.proof_requests.proof_alone.Steps.{AreTold}
use Rattle.proof_hearing.proofs.KeptAwake.{noted_told, opened_command}
use Rattle.proof_hearing.proofs.SeriesGoes.{lasts_of, others_by}
use Rattle.proof_hearing.proofs.proof_requests_Doing.{IsBeside, beside_same}
use Rattle.proof_noting.proofs.Lately.{KeepsLate, from_late, late_on, to_late}

abbrev AreNotes : List Entry → Type 0
AreNotes told = AllByRecursion (λ (e : Entry). is_note e ≡ true) told

-- ---- what they put out

-- a note, and none of how a command ended
abbrev IsQuietNote : HostOut → Type 0
IsQuietNote (Write unit) = ⊥
IsQuietNote (Note e) = (is_note e ≡ true) × NoOut e

record AreQuietNotes (told : List Entry) : Type 0 where
  notes : AreNotes told
  quiet : AllByRecursion NoOut told

quiet_told : (puts : List HostOut) (told : List Entry) → AreTold puts told → AllByRecursion IsQuietNote puts → AreQuietNotes told
quiet_told [] told is all = record { notes = subst AreNotes (sym is) tt; quiet = subst (AllByRecursion NoOut) (sym is) tt }
quiet_told (Note e ∷ puts) told (rest, is, more) all =
    let others = quiet_told puts rest more all.1 in
    record { notes = subst AreNotes (sym is) (all.0.0, others.notes); quiet = subst (AllByRecursion NoOut) (sym is) (all.0.1, others.quiet) }
quiet_told (Write unit ∷ puts) told is all = absurd all.0

dropped_quiet : (full : Bool) (n : ℕ) → AllByRecursion IsQuietNote (noted (dropped_if full n))
dropped_quiet true n = ((refl, tt), tt)
dropped_quiet false n = tt

stored_quiet : (n : ℕ) (settings : List Setting) (held : Bool) → AreQuietNotes (stored_entries n settings ++ held_entries n held)
stored_quiet n [] true = record { notes = (refl, tt); quiet = (tt, tt) }
stored_quiet n [] false = record { notes = tt; quiet = tt }
stored_quiet n (one ∷ settings) held = let more = stored_quiet n settings held in record { notes = (refl, more.notes); quiet = (tt, more.quiet) }

-- one at which no command ends
abbrev IsNotFinal : HostEvent → Type 0
IsNotFinal (Finishes n session id command status wake) = ⊥
IsNotFinal event = Unit {0}

event_quiet : (h : HostState) (n : ℕ) (event : HostEvent) → IsFollower n event → IsNotFinal event → AllByRecursion IsQuietNote (outs h event)
event_quiet h n (Unreads m payload) follows other = ((refl, tt), tt)
event_quiet h n (Is_unkept m) follows other = ((refl, tt), tt)
event_quiet h n (Reports_old m id) follows other = ((refl, tt), tt)
event_quiet h n (Works m id) follows other = tt
event_quiet h n (Finishes m session id command status wake) follows other = absurd other
event_quiet h n (Offers m) follows other = dropped_quiet (is_full h) m
event_quiet h n (Gives m drawn) follows other = dropped_quiet (is_full h) m
event_quiet h n (Spends m) follows other = tt
event_quiet h n (Spends_unread m payload) follows other = ((refl, tt), tt)
event_quiet h n (Takes_nonce m seen text) follows other = tt
event_quiet h n (Notifies m) follows other = ((refl, tt), tt)
event_quiet h n (Resends m payload) follows other = dropped_quiet (is_full h) m
event_quiet h n (Hears_value m setting) follows other = ((refl, tt), tt)
event_quiet h n (Has_no_room m property) follows other = ((refl, tt), tt)
event_quiet h n event follows other = absurd follows

final_noted : (status : FinalStatus) → is_noted (ended_of status) ≡ true
final_noted final.NoSupport = refl
final_noted final.Fail = refl
final_noted final.Success = refl

-- what a final report has noted: the outcome first
module _ (h : HostState) (n session id command : ℕ) (status : FinalStatus) (wake : Bool) (told : List Entry) (are : AreTold (outs h (Finishes n session id command status wake)) told) where
  abbrev outcome : Entry
  outcome = entry.Out command (ended_of status)

  abbrev stored : List Entry
  stored = stored_entries n (settings_with status (command_at h.commands command)) ++ held_entries n (is_held h n wake)

  final_told : told ≡ outcome ∷ stored
  final_told = noted_told (outcome ∷ stored) told are

  stored_so : AreQuietNotes stored
  stored_so = stored_quiet n (settings_with status (command_at h.commands command)) (is_held h n wake)

  final_notes : AreNotes told
  final_notes = subst AreNotes (sym final_told) (final_noted status, stored_so.notes)

-- all of them are notes
pub follower_notes : (h : HostState) (n : ℕ) (event : HostEvent) (told : List Entry) → IsFollower n event → AreTold (outs h event) told → AllByRecursion (λ (e : Entry). is_note e ≡ true) told
follower_notes h n (Finishes m session id command status wake) told follows are = final_notes h m session id command status wake told are
follower_notes h n event told follows are = (quiet_told (outs h event) told are (event_quiet h n event follows tt)).notes

-- ---- the request under way

follower_beside : (n : ℕ) (event : HostEvent) → IsFollower n event → IsBeside event
follower_beside n (Queues task) follows = absurd follows
follower_beside n (Hears item) follows = absurd follows
follower_beside n (Interviews m listens classes update) follows = absurd follows
follower_beside n (Interview_unkept m update) follows = absurd follows
follower_beside n (Node_ticks m) follows = absurd follows
follower_beside n (Begins m session command) follows = absurd follows
follower_beside n event follows = follow_mild n event follows

pub follower_same : (h : HostState) (n : ℕ) (event : HostEvent) → IsFollower n event → (after h event).requests.under_way ≡ h.requests.under_way
follower_same h n event follows = ap (λ (d : Doing). d.under_way) (beside_same h event (follower_beside n event follows))

-- ---- what is late

not_true : {A : Type 0} → false ≡ true → A
not_true is = absurd (let bad : false ≡ true = is in cc)

module _ (taken : List Entry → Carried → List Told) where
  abbrev heeds : Heeds
  heeds = heeds_alone taken

  abbrev so_far : ℕ → List Entry → Attempts
  so_far n past = attempts_so_far heeds n past

  note_late : (j : ℕ) (past : List Entry) (e : Entry) → is_note e ≡ true → NoOut e → KeepsLate taken j past e
  note_late j past (entry.Said words) note quiet = not_true note
  note_late j past (entry.Refused refusal) note quiet = not_true note
  note_late j past (entry.Time tick) note quiet = not_true note
  note_late j past (entry.Begin node session command) note quiet = not_true note
  note_late j past (entry.Out command how) note quiet = absurd quiet
  note_late j past (entry.Written Host unit) note quiet = not_true note
  note_late j past (entry.Written Chip unit) note quiet = tt
  note_late j past e note quiet = tt

  notes_late : (j : ℕ) (past told : List Entry) → AreNotes told → AllByRecursion NoOut told → EachAfter (KeepsLate taken j) past told
  notes_late j past [] notes quiet = tt
  notes_late j past (e ∷ told) notes quiet = (note_late j past e notes.0 quiet.0, notes_late j (past ++ e ∷ []) told notes.1 quiet.1)

  module _ (n : ℕ) (past told : List Entry) (h : HostState) (facts : HostFacts h) (shows : (j : ℕ) → ShowsSessions heeds past h j) where
    -- the command of one node is not the last of another
    not_last : (j k command : ℕ) → (k ≡ j → ⊥) → open_command (node_of h k) ≡ Some command → lasts_of (node_of h j) command ≡ false
    not_last j k command other opened =
        let none = others_by h.commands k j (node_of h k) (node_of h j) other (facts.owns k).sessions (facts.owns j).sessions (open_last (node_of h k)) in rw opened at none

    of_other : (j k session id command : ℕ) (status : FinalStatus) → (k ≡ j → ⊥) → IsFinal h k session id command status → is_last_command j past command ≡ false
    of_other j k session id command status other it =
        ap (λ (l : List ℕ). list_any (λ one. one == command) l) (shows j).last ∙ not_last j k command other (opened_command h k session id command status it)

    event_late : (j : ℕ) → (j ≡ n → AllByRecursion NoOut told) → (event : HostEvent) → IsFollower n event → May h event → AreTold (outs h event) told → EachAfter (KeepsLate taken j) past told
    event_late j quiet (Finishes k session id command status wake) follows may are = by (cases_eq k j)
      where
        so : AreQuietNotes (stored h k session id command status wake told are)
        so = stored_so h k session id command status wake told are

        by : (k ≡ j) ⊎ (k ≡ j → ⊥) → EachAfter (KeepsLate taken j) past told
        by (inl same) = notes_late j past told (final_notes h k session id command status wake told are) (quiet (sym same ∙ follows))
        by (inr other) =
            subst (λ (l : List Entry). EachAfter (KeepsLate taken j) past l) (sym (final_told h k session id command status wake told are)) (
              of_other j k session id command status other may,
              notes_late j (past ++ outcome h k session id command status wake told are ∷ []) (stored h k session id command status wake told are) so.notes so.quiet,
            )
    event_late j quiet event follows may are =
        let so = quiet_told (outs h event) told are (event_quiet h n event follows tt) in notes_late j past told so.notes so.quiet

    pub follower_late : (event : HostEvent) → IsFollower n event → May h event → AreTold (outs h event) told → StaysLate heeds n past told
    follower_late event follows may are = λ j is_node quiet late. late_on taken j past told (event_late j quiet event follows may are) late

  -- ---- a transcript that differs

  -- with the same attempts at one time, what is late is late in both
  pub late_alike : (n : ℕ) (past later : List Entry) → so_far n past ≡ so_far n later → clock later ≡ clock past → is_late heeds past n ≡ true → is_late heeds later n ≡ true
  late_alike n past later same time late = to_late taken n later (so_far n past) (sym same) (ap (λ (t : ℕ). late_at t (so_far n past)) time ∙ from_late taken n past late)

  note_unsaid : (n : ℕ) (e : Entry) → is_note e ≡ true → session_at n e ≡ []
  note_unsaid n (entry.Begin node session command) note = not_true note
  note_unsaid n e note = refl

  outcome_anew : (n : ℕ) (past : List Entry) (command : ℕ) (how : Ended)
      → so_far n (past ++ entry.Out command how ∷ []) ≡ (if is_last_command n past command then anew (so_far n past) else so_far n past)
  outcome_anew n past command how =
      attempts_one taken n past (entry.Out command how) tt ∙ ap (λ (k : ℕ). if is_last_command k past command then anew (so_far n past) else so_far n past) (node_is heeds n past)

  module _ (n : ℕ) where
    note_alike : (past later : List Entry) (e : Entry) → is_note e ≡ true → sessions n past ≡ sessions n later → so_far n past ≡ so_far n later → so_far n (past ++ e ∷ []) ≡ so_far n (later ++ e ∷ [])
    note_alike past later (entry.Said words) note shown same = not_true note
    note_alike past later (entry.Refused refusal) note shown same = not_true note
    note_alike past later (entry.Begin node session command) note shown same = not_true note
    note_alike past later (entry.Written side unit) note shown same = not_true note
    note_alike past later (entry.Out command how) note shown same =
        outcome_anew n past command how
        ∙ ap₂ (λ (l : List ℕ) (a : Attempts). if list_any (λ one. one == command) (last_of l) then anew a else a) shown same
        ∙ sym (outcome_anew n later command how)
    note_alike past later e note shown same = attempts_left taken n past (e ∷ []) (tt, tt) ∙ same ∙ sym (attempts_left taken n later (e ∷ []) (tt, tt))

    pub notes_alike : (past later told : List Entry) → AllByRecursion (λ (e : Entry). is_note e ≡ true) told → sessions n past ≡ sessions n later → so_far n past ≡ so_far n later
        → so_far n (past ++ told) ≡ so_far n (later ++ told)
    notes_alike past later [] notes shown same = ap (λ (l : List Entry). so_far n l) (append-nil past) ∙ same ∙ sym (ap (λ (l : List Entry). so_far n l) (append-nil later))
    notes_alike past later (e ∷ told) notes shown same =
        ap (λ (l : List Entry). so_far n l) (sym (append_assoc past (e ∷ []) told))
        ∙ notes_alike (past ++ e ∷ []) (later ++ e ∷ []) told notes.1
        (same_sessions_by n past e (note_unsaid n e notes.0) ∙ shown ∙ sym (same_sessions_by n later e (note_unsaid n e notes.0))) (note_alike past later e notes.0 shown same)
        ∙ ap (λ (l : List Entry). so_far n l) (append_assoc later (e ∷ []) told)
