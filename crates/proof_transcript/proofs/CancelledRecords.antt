-- The records of an event cancel the commands that its entries show to be taken back.
use Rattle.std.proofs.Common.{◌≡◌, ℕ, ◌==◌, Bool, true, false, if◌then◌else◌, List, [], ◌∷◌, ◌++◌, map, refl, sym, ap, ap₂, subst, ◌∙◌, append_assoc, append-nil}
use Rattle.std.specs.List.{flat_map}
use Rattle.std.proofs.lemmas.Grind.{flat_map-append}
use Rattle.zw_text.specs.declared.entry.Entry.{Entry}
use Rattle.zw_text.specs.declared.entry.Entry.TheVariants as entry
use Rattle.zw_text.specs.Transcript.{shown}
use Rattle.zw_text.proofs.Views.{shown-append}
use Rattle.host_keep.specs.Kept.{Kept, after as kept_after, after_all as kept_after_all}
use Rattle.host_keep.specs.declared.record.Record.{Record}
use Rattle.host_keep.specs.declared.record.Record.TheVariants as record_of
use Rattle.host_keep.specs.declared.final_status.FinalStatus.{FinalStatus}
use Rattle.host_keep.specs.declared.final_status.FinalStatus.TheVariants as final
use Rattle.law_host.specs.law_transcript.Records.{cancelled_at}
use Rattle.proof_air.specs.host_model.State.{HostState, node_of}
use Rattle.proof_air.specs.host_model.Events.{HostEvent, Accepts, Cancels, Interviews, Interview_unkept, Unreads, Is_unkept, Reports_old, Finishes, Spends_unread, Takes_nonce, Notifies, Hears_value, Has_no_room, Begins, Begin_unkept}
use Rattle.proof_air.specs.host_model.Records.{records_at}
use Rattle.proof_air.specs.host_model.After.{after}
use Rattle.proof_air.specs.host_model.Did.{records_all}
use Rattle.proof_air.specs.host_model.Outs.{outs, ended_of, Silent}
use Rattle.proof_air.specs.host_model.declared.out.HostOut.{HostOut}
use Rattle.proof_air.specs.host_model.declared.out.HostOut.TheVariants.{Write, Note}
use Rattle.proof_air.specs.proof_host.Entries.{IsAside, notes_of, entries_at}
use Rattle.proof_spoken.proofs.HostOuts.{OutsAre, OwnIs, SharedAre, outs_are}
use Rattle.proof_air.specs.world_model.State.{Machine, host_does, host_entries, routed}
use Rattle.proof_air.proofs.Hosting.{entries_cons}
use Rattle.proof_air.specs.outside_model.Events.{Host_notes}
use Rattle.proof_air.specs.outside_model.Did.{entries_all as entries_all_outside}
use Rattle.proof_spoken.proofs.Aside.{Asides}
use Rattle.proof_spoken.proofs.Notes.{Trailing, event_following}
use Rattle.proof_transcript.specs.Records.{cancelled_by}

-- ---- what records give

one_cancelled : (kept : Kept) (one : Record) → (kept_after kept one).cancelled ≡ kept.cancelled ++ cancelled_by one
one_cancelled kept (record_of.Cancelled command) = refl
one_cancelled kept (record_of.Accepted command order) = sym (append-nil kept.cancelled)
one_cancelled kept (record_of.Joined node) = sym (append-nil kept.cancelled)
one_cancelled kept (record_of.Classes node listens classes) = sym (append-nil kept.cancelled)
one_cancelled kept (record_of.Begun node session command) = sym (append-nil kept.cancelled)
one_cancelled kept (record_of.Final node session status) = sym (append-nil kept.cancelled)
one_cancelled kept (record_of.Given node given nonce) = sym (append-nil kept.cancelled)
one_cancelled kept (record_of.Spent node) = sym (append-nil kept.cancelled)
one_cancelled kept (record_of.Seen node seen) = sym (append-nil kept.cancelled)

pub all_cancelled : (kept : Kept) (records : List Record) → (kept_after_all kept records).cancelled ≡ kept.cancelled ++ flat_map cancelled_by records
unfolding kept_after_all
all_cancelled kept [] = sym (append-nil kept.cancelled)
all_cancelled kept (one ∷ more) =
    all_cancelled (kept_after kept one) more
    ∙ (ap (λ (l : List ℕ). l ++ flat_map cancelled_by more) (one_cancelled kept one) ∙ append_assoc kept.cancelled (cancelled_by one) (flat_map cancelled_by more))

-- ---- what an event enters and keeps

-- the command that an event cancels
abbrev cancels : HostEvent → List ℕ
cancels (Cancels command) = command ∷ []
cancels _ = []

-- an entry that takes no command back
abbrev TakesNoneBack : Entry → Type 0
TakesNoneBack e = cancelled_at e ≡ []

none_seen : (same : Bool) (n seen : ℕ) → flat_map cancelled_by (if same then [] else record_of.Seen n seen ∷ []) ≡ []
none_seen true n seen = refl
none_seen false n seen = refl

event_keeps : (h : HostState) (event : HostEvent) → flat_map cancelled_by (records_at h event) ≡ cancels event
event_keeps h (Takes_nonce n seen text) = none_seen ((node_of h n).seen == seen) n seen
event_keeps h event = refl

shared_none : SharedAre TakesNoneBack
shared_none = record {
  unanswered = λ command. refl;
  asleep = λ n. refl;
  done = λ n how. refl;
  uninterviewed = λ n. refl;
  neighbours = λ n nodes. refl;
  failed = λ n is_failed. refl;
  stored = λ n setting. refl;
  held = λ n. refl;
  full = λ n. refl;
}

final_none : (command : ℕ) (status : FinalStatus) → TakesNoneBack (entry.Out command (ended_of status))
final_none command final.NoSupport = refl
final_none command final.Fail = refl
final_none command final.Success = refl

notes_none : (puts : List HostOut) → OutsAre TakesNoneBack puts → shown cancelled_at (notes_of puts) ≡ []
notes_none [] are = refl
notes_none (Write unit ∷ puts) are = notes_none puts are.1
notes_none (Note e ∷ puts) are = ap₂ (λ (a b : List ℕ). a ++ b) are.0 (notes_none puts are.1)

quiet : (h : HostState) (event : HostEvent) → OwnIs TakesNoneBack event → shown cancelled_at (notes_of (outs h event)) ≡ []
quiet h event own = notes_none (outs h event) (outs_are TakesNoneBack shared_none h event own)

event_shows : (h : HostState) (event : HostEvent) → shown cancelled_at (entries_at h event) ≡ cancels event
event_shows h (Accepts order carriage) = refl
event_shows h (Cancels command) = refl
event_shows h (Finishes n session id command status wake_request) = quiet h (Finishes n session id command status wake_request) (final_none command status)
event_shows h (Interviews n listens classes update) = quiet h (Interviews n listens classes update) refl
event_shows h (Interview_unkept n update) = quiet h (Interview_unkept n update) refl
event_shows h (Unreads n payload) = quiet h (Unreads n payload) refl
event_shows h (Is_unkept n) = quiet h (Is_unkept n) refl
event_shows h (Reports_old n id) = quiet h (Reports_old n id) refl
event_shows h (Spends_unread n payload) = quiet h (Spends_unread n payload) refl
event_shows h (Notifies n) = quiet h (Notifies n) refl
event_shows h (Hears_value n setting) = quiet h (Hears_value n setting) refl
event_shows h (Has_no_room n property) = quiet h (Has_no_room n property) refl
event_shows h (Begins n session command) = quiet h (Begins n session command) refl
event_shows h (Begin_unkept n) = quiet h (Begin_unkept n) refl
event_shows h event = quiet h event tt

pub event_cancels : (h : HostState) (event : HostEvent) → flat_map cancelled_by (records_at h event) ≡ shown cancelled_at (entries_at h event)
event_cancels h event = event_keeps h event ∙ sym (event_shows h event)

-- ---- with what else is entered

aside_none : (e : Entry) → IsAside e → TakesNoneBack e
aside_none (entry.Out command how) aside = absurd aside
aside_none _ aside = refl

pub asides_none : (entries : List Entry) → Asides entries → shown cancelled_at entries ≡ []
asides_none [] are = refl
asides_none (e ∷ entries) are = ap₂ (λ (a b : List ℕ). a ++ b) (aside_none e are.0) (asides_none entries are.1)

pub trailing_same : (entries all : List Entry) → Trailing entries all → shown cancelled_at all ≡ shown cancelled_at entries
trailing_same entries all following =
    ap (λ (l : List Entry). shown cancelled_at l) following.are
    ∙ (shown-append cancelled_at following.prefix entries
    ∙ ap (λ (l : List ℕ). l ++ shown cancelled_at entries) (asides_none following.prefix following.asides))

-- events that answer no line, with what they put out routed
pub host_cancels : (m : Machine) (es : List HostEvent) → Silent es → flat_map cancelled_by (records_all m.host.state es) ≡ shown cancelled_at (host_entries m es)
host_cancels m [] silent = refl
host_cancels m (e ∷ es) silent =
    let h = m.host.state in
    let following : Trailing (entries_at h e) (host_entries m (e ∷ [])) =
    subst (λ (l : List Entry). Trailing (entries_at h e) l)
    (ap (λ (l : List Entry). entries_all_outside m.outside (routed (outs h e)) ++ entries_all_outside m.outside (map Host_notes l)) (silent.0 h)
    ∙ (append-nil (entries_all_outside m.outside (routed (outs h e)))
    ∙ ap (λ (l : List HostOut). entries_all_outside m.outside (routed l)) (sym (append-nil (outs h e)))))
    (event_following m.outside m.outside h e) in
    flat_map-append cancelled_by (records_at h e) (records_all (after h e) es)
    ∙ (ap₂ (λ (a b : List ℕ). a ++ b) (event_cancels h e ∙ sym (trailing_same (entries_at h e) (host_entries m (e ∷ [])) following)) (host_cancels (host_does m (e ∷ [])) es silent.1)
    ∙ (sym (shown-append cancelled_at (host_entries m (e ∷ [])) (host_entries (host_does m (e ∷ [])) es)) ∙ ap (λ (l : List Entry). shown cancelled_at l) (entries_cons m e es)))
