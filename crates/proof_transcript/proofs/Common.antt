-- What a host enters at an event takes no command back and begins no session, but at the events that do so.
use Rattle.std.proofs.Common.{List}
use Rattle.std.specs.List.{AllByRecursion}
use Rattle.zw_text.specs.declared.entry.Ended.TheVariants as ended
use Rattle.zw_text.specs.declared.entry.Entry.{Entry}
use Rattle.zw_text.specs.declared.entry.Entry.TheVariants.{Begin, Out}
use Rattle.host_keep.specs.declared.final_status.FinalStatus.TheVariants as final
use Rattle.proof_air.specs.host_model.State.{HostState}
use Rattle.proof_air.specs.host_model.Events.{HostEvent, Accepts, Cancels, Finishes, Begins}
use Rattle.proof_air.specs.proof_host.Entries.{IsAside, entries_at}
use Rattle.proof_spoken.proofs.HostOuts.{OwnIs, SharedAre}
use Rattle.proof_spoken.proofs.RoutineNotes.{entries_are}

-- an entry that does neither
abbrev pub IsCommon : Entry → Type 0
IsCommon (Out number ended.Cancelled) = ⊥
IsCommon (Begin node session command) = ⊥
IsCommon entry = Unit {0}

abbrev AreCommon : List Entry → Type 0
AreCommon entries = AllByRecursion IsCommon entries

pub aside_common : (entry : Entry) → IsAside entry → IsCommon entry
aside_common (Out number how) aside = absurd aside
aside_common (Begin node session command) aside = absurd aside
aside_common entry aside = tt

shared_common : SharedAre IsCommon
shared_common = record {
  unanswered = λ command. tt;
  asleep = λ n. tt;
  done = λ n how. tt;
  uninterviewed = λ n. tt;
  neighbours = λ n nodes. tt;
  failed = λ n is_failed. tt;
  stored = λ n setting. tt;
  held = λ n. tt;
  full = λ n. tt;
}

-- it takes no command back
abbrev pub IsNoTaking : HostEvent → Type 0
IsNoTaking (Cancels command) = ⊥
IsNoTaking event = Unit {0}

-- it begins no session
abbrev pub IsNoBeginning : HostEvent → Type 0
IsNoBeginning (Begins n session command) = ⊥
IsNoBeginning event = Unit {0}

own_common : (event : HostEvent) → IsNoTaking event → IsNoBeginning event → OwnIs IsCommon event
own_common (Cancels command) no_taking no_beginning = absurd no_taking
own_common (Begins n session command) no_taking no_beginning = absurd no_beginning
own_common (Accepts order carriage) no_taking no_beginning = λ number. tt
own_common (Finishes n session id command final.NoSupport wake_request) no_taking no_beginning = tt
own_common (Finishes n session id command final.Fail wake_request) no_taking no_beginning = tt
own_common (Finishes n session id command final.Success wake_request) no_taking no_beginning = tt
own_common event no_taking no_beginning = tt

pub event_common : (h : HostState) (event : HostEvent) → IsNoTaking event → IsNoBeginning event → AreCommon (entries_at h event)
event_common h event no_taking no_beginning = entries_are IsCommon shared_common h event (own_common event no_taking no_beginning)
