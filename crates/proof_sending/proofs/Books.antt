-- What each event of a host leaves of the sessions of its nodes.
use Rattle.std.proofs.Common.{◌≡◌, ◌≢◌, ℕ, List, [], ◌∷◌, ◌++◌, refl, sym, ap, ◌∙◌, append-nil}
use Rattle.std.specs.List.{AllByRecursion}
use Rattle.zw_text.specs.declared.entry.Entry.{Entry}
use Rattle.zw_text.specs.declared.entry.Entry.TheVariants.{Begin}
use Rattle.zw_text.specs.Transcript.{session_at, sessions}
use Rattle.zw_text.proofs.Views.{shown-append}
use Rattle.host_model.specs.State.{HostState, node_of}
use Rattle.host_model.specs.After.{after}
use Rattle.host_model.specs.May.{May}
use Rattle.host_model.specs.Events.{HostEvent, Accepts, Begins}
use Rattle.proof_spoken.proofs.HostOuts.{OwnIs, SharedAre}
use Rattle.proof_line.specs.proof_host.Entries.{entries_at}
use Rattle.proof_line.specs.proof_host.Facts.{Facts}
use Rattle.proof_line.proofs.Views.{sessions-begun_other}
use Rattle.proof_spoken.proofs.RoutineNotes.{entries_are}

-- ---- sessions

-- an entry that begins no session
abbrev IsNoBegin : Entry → Type 0
IsNoBegin (Begin node session command) = ⊥
IsNoBegin entry = Unit {0}

-- an event that begins none
abbrev pub BeginsNone : HostEvent → Type 0
BeginsNone (Begins n session command) = ⊥
BeginsNone event = Unit {0}

shared_none : SharedAre IsNoBegin
shared_none = record {
  unanswered = λ command. tt;
  asleep = λ n. tt;
  done = λ n how. tt;
  uninterviewed = λ n. tt;
  neighbours = λ n nodes. tt;
  failed = λ n is_failed. tt;
  stored = λ n setting. tt;
  held = λ n. tt;
  full = λ n. tt;
}

own_none : (event : HostEvent) → BeginsNone event → OwnIs IsNoBegin event
own_none (Accepts order carriage) none = λ number. tt
own_none (Begins n session command) none = absurd none
own_none event none = tt

-- the sessions of each node are as they were
abbrev pub SameBooks : HostState → HostState → Type 0
SameBooks old new = (n : ℕ) → (node_of new n).book.commands ≡ (node_of old n).book.commands

-- the host keeps to its transcript, event by event
abbrev pub EventKeeps : Type 0
EventKeeps = (past : List Entry) (h : HostState) (event : HostEvent) → Facts past h → May h event → Facts (past ++ entries_at h event) (after h event)

none_begun : (n : ℕ) (told : List Entry) → AllByRecursion IsNoBegin told → sessions n told ≡ []
none_begun n [] none = refl
none_begun n (Begin node session command ∷ told) none = absurd none.0
none_begun n (e ∷ told) none = none_begun n told none.1

pub books_stay : EventKeeps → (past : List Entry) (h : HostState) (event : HostEvent) → Facts past h → May h event → BeginsNone event → SameBooks h (after h event)
books_stay go_on past h event facts may none n =
    let told : List Entry = entries_at h event in
    let same : sessions n (past ++ told) ≡ sessions n past
    = shown-append (session_at n) past told
    ∙ ap (λ (l : List ℕ). sessions n past ++ l) (none_begun n told (entries_are IsNoBegin shared_none h event (own_none event none)))
    ∙ append-nil (sessions n past) in
    sym ((go_on past h event facts may).begun n) ∙ same ∙ facts.begun n

-- where a session begins, those of the other nodes are
pub others_stay : EventKeeps → (past : List Entry) (h : HostState) (n session command : ℕ) → Facts past h → May h (Begins n session command) → (m : ℕ) → m ≢ n
    → (node_of (after h (Begins n session command)) m).book.commands ≡ (node_of h m).book.commands
others_stay go_on past h n session command facts may m other =
    sym ((go_on past h (Begins n session command) facts may).begun m) ∙ sessions-begun_other past n session command m other ∙ facts.begun m
