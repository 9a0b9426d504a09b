-- Which events of a host enter neither a success nor an interview that ended well: all but the end of a session with success and such an interview.
use Rattle.std.proofs.Common.{ℕ, Bool, List, ◌+◌, ◌++◌}
use Rattle.std.specs.List.{AllByRecursion}
use Rattle.zw_base.proofs.Each.{all-append}
use Rattle.zw_base.specs.declared.property.Setting.{Setting}
use Rattle.zw_text.specs.declared.entry.Ended.TheVariants as ended
use Rattle.zw_text.specs.declared.entry.Entry.{Entry}
use Rattle.zw_text.specs.declared.entry.Entry.TheVariants.{Interviewed, Out}
use Rattle.host_keep.specs.declared.final_status.FinalStatus.TheVariants as final
use Rattle.proof_world.specs.host_model.State.{HostState}
use Rattle.proof_world.specs.host_model.Outs.{held_entries, noted, outs, stored_entries, answers}
use Rattle.proof_world.specs.host_model.Events.{HostEvent, Accepts, Interviews, Finishes}
use Rattle.proof_once.specs.proof_host.Entries.{entries_at, notes_of}
use Rattle.proof_world.proofs.HostOuts.{OwnIs, SharedAre, answers_are, outs_are, session_are}
pub use Rattle.proof_world.proofs.Notes.{notes_are}

-- ---- the entries of an event

pub entries_are : (Is : Entry → Type 0) → SharedAre Is → (h : HostState) (event : HostEvent) → OwnIs Is event → AllByRecursion Is (entries_at h event)
entries_are Is shared h event own =
    all-append Is (answers h event) (notes_of (outs h event)) (answers_are Is h event own) (notes_are Is (outs h event) (outs_are Is shared h event own))

-- ---- neither of the two

-- an entry that tells neither
abbrev pub IsRoutine : Entry → Type 0
IsRoutine (Out number ended.Success) = ⊥
IsRoutine (Interviewed node) = ⊥
IsRoutine entry = Unit {0}

abbrev pub AreRoutine : List Entry → Type 0
AreRoutine entries = AllByRecursion IsRoutine entries

shared_routine : SharedAre IsRoutine
shared_routine = record {
  unanswered = λ command. tt;
  asleep = λ n. tt;
  done = λ n how. tt;
  uninterviewed = λ n. tt;
  neighbours = λ n nodes. tt;
  failed = λ n is_failed. tt;
  stored = λ n setting. tt;
  held = λ n. tt;
  full = λ n. tt;
}

-- after the end of a session
pub after_routine : (n : ℕ) (settings : List Setting) (held : Bool) → AreRoutine (notes_of (noted (stored_entries n settings ++ held_entries n held)))
after_routine n settings held = notes_are IsRoutine (noted (stored_entries n settings ++ held_entries n held)) (session_are IsRoutine n settings held (λ setting. tt) tt)

-- neither is what it does
abbrev pub DoesRoutine : HostEvent → Type 0
DoesRoutine (Finishes n session id command final.Success wake_request) = ⊥
DoesRoutine (Interviews n listens classes update) = ⊥
DoesRoutine event = Unit {0}

own_routine : (event : HostEvent) → DoesRoutine event → OwnIs IsRoutine event
own_routine (Accepts order carriage) does = λ number. tt
own_routine (Finishes n session id command final.Success wake_request) does = absurd does
own_routine (Finishes n session id command final.Fail wake_request) does = tt
own_routine (Finishes n session id command final.NoSupport wake_request) does = tt
own_routine (Interviews n listens classes update) does = absurd does
own_routine event does = tt

pub event_routine : (h : HostState) (event : HostEvent) → DoesRoutine event → AreRoutine (entries_at h event)
event_routine h event does = entries_are IsRoutine shared_routine h event (own_routine event does)
