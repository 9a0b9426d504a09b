-- Each success stands after the change.
use Rattle.std.proofs.Common.{◌≡◌, ℕ, zero, suc, List, [], ◌∷◌, ◌++◌, All, map, Some, refl, sym, ap, subst, ◌∙◌, append_assoc, append-nil, arith}
use Rattle.std.specs.List.{AllByRecursion}
use Rattle.zw_base.proofs.Each.{all-weaker}
use Rattle.supervision.specs.Host.{command_at as session_at}
use Rattle.supervision.specs.declared.session.TheConstants.{SUCCESS}
use Rattle.supervision.proofs.OnceLemmas.{All-slice_get}
use Rattle.device_sim.specs.State.{State}
use Rattle.proof_messages.specs.Ending.{HasEnded}
use Rattle.proof_spoken.specs.proof_device.Showing.{IsShownAmong}
use Rattle.zw_text.specs.declared.entry.Ended.TheVariants as ended
use Rattle.zw_text.specs.declared.entry.Entry.{Entry}
use Rattle.zw_text.specs.declared.entry.Entry.TheVariants.{Out, Refused}
use Rattle.law_transcript.specs.Lists.{EachAfter, Has}
use Rattle.law_transcript.specs.Once.{MayEnd, commands_shown}
use Rattle.host_keep.specs.declared.final_status.FinalStatus.TheVariants as final
use Rattle.host_node.specs.TableState.{node_of}
use Rattle.host_model.specs.State.{HostState, Command, command_at}
use Rattle.host_model.specs.Facts.{IsCommandOf}
use Rattle.host_model.specs.Sessions.{settings_with}
use Rattle.host_model.specs.Events.{HostEvent, Finishes, Interviews}
use Rattle.host_model.specs.After.{after, is_held}
use Rattle.host_model.specs.Outs.{outs, answers, Silent}
use Rattle.host_model.specs.May.{May as MayHost}
use Rattle.host_model.specs.Did.{MayAll as MayAllHost}
use Rattle.host_model.specs.declared.out.HostOut.{HostOut}
use Rattle.proof_host.specs.Entries.{IsAside, entries_at}
use Rattle.proof_host.specs.Facts.{Facts}
use Rattle.proof_host.specs.Laws.{accepted_for}
use Rattle.proof_host.specs.Tables.{nodes_by}
use Rattle.proof_host.proofs.Lists.{each-append, each-anywhere}
use Rattle.outside_model.specs.Events.{Host_notes, entries as entries_outside, outcome}
use Rattle.outside_model.specs.Did.{entries_all as entries_all_outside}
use Rattle.world_model.specs.State.{Machine, host_does, host_entries, routed}
use Rattle.world_model.specs.Events.{Event, Outside_does, Host_does, Host_takes, Decoder_ticks, Refuses, Shows_values, Restarts, entries, fed, shown_values, May}
use Rattle.world_model.proofs.Hosting.{entries_cons}
use Rattle.host_model.proofs.Silence.{judged_silent}
use Rattle.proof_spoken.proofs.Aside.{Asides, own_aside, stamp_aside}
use Rattle.proof_spoken.proofs.Notes.{Trailing, event_following}
use Rattle.proof_spoken.proofs.FactsKept.{after_keeps, asides_keep, one_after}
use Rattle.proof_spoken.specs.proof_once.Tied.{MakesWhatIsTaken}
use Rattle.law_transcript.proofs.Having.{all_has}
use Rattle.proof_spoken.specs.proof_once.Truly.{IsDoneBy, IsTrue, TellTruly, TellsTruly}
use Rattle.proof_headline.specs.Truly.{MayEndOf}
use Rattle.proof_spoken.proofs.RoutineNotes.{AreRoutine, IsRoutine, after_routine, event_routine}

-- ---- entries that may stand anywhere

-- an entry that reports no success
abbrev pub IsNoSuccess : Entry → Type 0
IsNoSuccess (Out number ended.Success) = ⊥
IsNoSuccess entry = Unit {0}

abbrev NoSuccesses : List Entry → Type 0
NoSuccesses entries = AllByRecursion IsNoSuccess entries

aside_none : (entry : Entry) → IsAside entry → IsNoSuccess entry
aside_none (Out number how) aside = absurd aside
aside_none entry aside = tt

pub routine_none : (entry : Entry) → IsRoutine entry → IsNoSuccess entry
routine_none (Out number ended.Success) routine = absurd routine
routine_none entry routine = tt

-- what is asked of entries here asks nothing of those
abbrev pub Frees : (List Entry → Entry → Type 0) → Type 0
Frees Ends = (past : List Entry) (entry : Entry) → IsNoSuccess entry → Ends past entry

pub free_end : Frees MayEnd
free_end past (Out number ended.Success) none = absurd none
free_end past entry none = tt

pub free_end_of : (node : ℕ) → Frees (MayEndOf node)
free_end_of node past (Out number ended.Success) none = absurd none
free_end_of node past entry none = tt

module _ (Ends : List Entry → Entry → Type 0) (free : Frees Ends) where
  frees : (past es : List Entry) → NoSuccesses es → EachAfter Ends past es
  frees past es none = each-anywhere Ends IsNoSuccess free past es none

  asides_end : (past es : List Entry) → Asides es → EachAfter Ends past es
  asides_end past es asides = frees past es (all-weaker IsAside IsNoSuccess aside_none es asides)

  routines : (past es : List Entry) → AreRoutine es → EachAfter Ends past es
  routines past es routine = frees past es (all-weaker IsRoutine IsNoSuccess routine_none es routine)

-- more was entered since
pub record IsSince (past now : List Entry) : Type 0 where
  pub more : List Entry
  pub is : now ≡ past ++ more

since_more : (past now es : List Entry) → IsSince past now → IsSince past (now ++ es)
since_more past now es since = record { more = since.more ++ es; is = ap (λ (l : List Entry). l ++ es) since.is ∙ append_assoc past since.more es }

-- ---- the end of a session

abbrev pub EndingsShown : Type 0
EndingsShown = (past more : List Entry) (h : HostState) (device : State) (finals : List ℕ) (session number : ℕ) → Facts (past ++ more) h → IsShownAmong past device → HasEnded device finals
    → AllByRecursion (MakesWhatIsTaken h.commands (node_of h.nodes device.node).book.commands) device.journal
    → session_at (node_of h.nodes device.node).book.commands session ≡ Some number → session_at finals session ≡ Some SUCCESS → Has (commands_shown device.node (past ++ more)) number

-- the command of a session of a node was accepted for it, and for no other
pub owned : (commands : List Command) (n : ℕ) (numbers : List ℕ) (session number : ℕ) → All (IsCommandOf commands n) numbers → session_at numbers session ≡ Some number → IsCommandOf commands n number
owned commands n numbers zero number all e = absurd (grind (arith, e))
owned commands n numbers (suc before) number all e = All-slice_get (IsCommandOf commands n) numbers before number all e

accepted_once : (now : List Entry) (h : HostState) (n session command : ℕ) → Facts now h → session_at (node_of h.nodes n).book.commands session ≡ Some command → accepted_for command now ≡ n ∷ []
accepted_once now h n session command facts carried =
    let own = owned h.commands n (node_of h.nodes n).book.commands session command (facts.host.owns n).sessions carried in
    facts.accepted.nodes command ∙ (ap nodes_by own.found ∙ ap (λ (k : ℕ). k ∷ []) own.node)

-- where a success of one of these nodes is true, it may end so
abbrev pub MayFinish : (List Entry → Entry → Type 0) → (ℕ → Type 0) → Type 0
MayFinish Ends Of = (past now : List Entry) (h : HostState) (devices : List State) (n session command : ℕ) → IsSince past now → Facts now h → AllByRecursion (IsShownAmong past) devices
    → session_at (node_of h.nodes n).book.commands session ≡ Some command → (Of n → IsDoneBy h devices n session) → Ends now (Out command ended.Success)

-- any node
abbrev pub IsAny : ℕ → Type 0
IsAny n = Unit {0}

module _ (endings : EndingsShown) where
  done_shown : (past now : List Entry) (h : HostState) (devices : List State) (node session number : ℕ) → IsSince past now → Facts now h → AllByRecursion (IsShownAmong past) devices
      → IsDoneBy h devices node session → session_at (node_of h.nodes node).book.commands session ≡ Some number → Has (commands_shown node now) number
  done_shown past now h devices node session number since facts shown done carried =
      subst (λ (n : ℕ). Has (commands_shown n now) number) done.of_node
      (subst (λ (l : List Entry). Has (commands_shown done.device.node l) number) (sym since.is)
      (endings past since.more h done.device done.finals session number (subst (λ (l : List Entry). Facts l h) since.is facts) (all_has (IsShownAmong past) devices done.device shown done.among) done.ended
      (subst (λ (n : ℕ). AllByRecursion (MakesWhatIsTaken h.commands (node_of h.nodes n).book.commands) done.device.journal) (sym done.of_node) done.made)
      (subst (λ (n : ℕ). session_at (node_of h.nodes n).book.commands session ≡ Some number) (sym done.of_node) carried) done.success))

  pub any_finish : MayFinish MayEnd IsAny
  any_finish past now h devices n session command since facts shown carried done =
      record { node = n; shown = done_shown past now h devices n session command since facts shown (done tt) carried }

  pub finish_of : (node : ℕ) → MayFinish (MayEndOf node) (λ (n : ℕ). n ≡ node)
  finish_of node past now h devices n session command since facts shown carried done accepted =
      let both : n ∷ [] ≡ node ∷ [] = sym (accepted_once now h n session command facts carried) ∙ accepted in
      let same : n ≡ node = cc in
      subst (λ (k : ℕ). Has (commands_shown k now) command) same (done_shown past now h devices n session command since facts shown (done same) carried)

-- ---- events

module _ (each : (past : List Entry) (h : HostState) (event : HostEvent) → Facts past h → MayHost h event → Facts (past ++ entries_at h event) (after h event))
    (aside : (past : List Entry) (h : HostState) (entry : Entry) → Facts past h → IsAside entry → Facts (past ++ entry ∷ []) h) (Ends : List Entry → Entry → Type 0) (free : Frees Ends) (Of : ℕ → Type 0)
    (finish : MayFinish Ends Of) where
  -- ---- one event of a host

  event_ends : (past now : List Entry) (h : HostState) (devices : List State) (event : HostEvent) → IsSince past now → Facts now h → AllByRecursion (IsShownAmong past) devices → MayHost h event
      → ((node : ℕ) → Of node → TellsTruly node h devices event) → EachAfter Ends now (entries_at h event)
  event_ends past now h devices (Finishes n session id command final.Success wake_request) since facts shown may true = (
    finish past now h devices n session command since facts shown may.carried (λ of. true n of refl),
    routines Ends free (now ++ Out command ended.Success ∷ []) _ (after_routine n (settings_with final.Success (command_at h.commands command)) (is_held h n wake_request)),
  )
  event_ends past now h devices (Interviews n listens classes update) since facts shown may true = frees Ends free now (entries_at h (Interviews n listens classes update)) (tt, tt)
  event_ends past now h devices event since facts shown may true = routines Ends free now (entries_at h event) (event_routine h event tt)

  after_ends : (past now all : List Entry) (h : HostState) (devices : List State) (event : HostEvent) → IsSince past now → Facts now h → AllByRecursion (IsShownAmong past) devices → MayHost h event
      → ((node : ℕ) → Of node → TellsTruly node h devices event) → Trailing (entries_at h event) all → EachAfter Ends now all
  after_ends past now all h devices event since facts shown may true following =
      subst (λ (l : List Entry). EachAfter Ends now l) (sym following.are)
      (each-append Ends now following.prefix (entries_at h event) (asides_end Ends free now following.prefix following.asides)
      (event_ends past (now ++ following.prefix) h devices event (since_more past now following.prefix since) (asides_keep aside now h following.prefix facts following.asides) shown may true))

  -- ---- events that bytes of the chip make a host do

  events_end : (past now : List Entry) (m : Machine) (devices : List State) (events : List HostEvent) → IsSince past now → Facts now m.host.state → AllByRecursion (IsShownAmong past) devices
      → MayAllHost m.host.state events → Silent events → ((node : ℕ) → Of node → TellTruly node m.host.state devices events) → EachAfter Ends now (host_entries m events)
  events_end past now m devices [] since facts shown may silent true = tt
  events_end past now m devices (event ∷ events) since facts shown may silent true =
      let following = one_after m event silent.0 in
      let first = host_entries m (event ∷ []) in
      subst (λ (l : List Entry). EachAfter Ends now l) (entries_cons m event events)
      (each-append Ends now first (host_entries (host_does m (event ∷ [])) events) (after_ends past now first m.host.state devices event since facts shown may.0 (λ node of. (true node of).0) following)
      (events_end past (now ++ first) (host_does m (event ∷ [])) devices events (since_more past now first since) (after_keeps each aside now first m.host.state event facts may.0 following) shown may.1 silent.1
      (λ node of. (true node of).1)))

  -- ---- events of the machine

  note_ends : (past : List Entry) (m : Machine) (entry : Entry) → IsAside entry → EachAfter Ends past (entries_outside m.outside (Host_notes entry))
  unfolding outcome
  note_ends past m entry is = asides_end Ends free past _ (stamp_aside m.outside.outer (entry ∷ []) (is, tt))

  machine_ends : (past : List Entry) (m : Machine) (event : Event) → Facts past m.host.state → AllByRecursion (IsShownAmong past) m.outside.devices → May m event → ((node : ℕ) → Of node → IsTrue node m event)
      → EachAfter Ends past (entries m event)
  unfolding entries May
  machine_ends past m (Outside_does event) facts shown may true = asides_end Ends free past (entries_outside m.outside event) (own_aside m.outside event may.0)
  machine_ends past m (Host_does event) facts shown may true =
      after_ends past past (entries m (Host_does event)) m.host.state m.outside.devices event (record { more = []; is = sym (append-nil past) }) facts shown may.0 true
      (subst (λ (l : List HostOut). Trailing (entries_at m.host.state event)
      (entries_all_outside m.outside (routed l) ++ entries_all_outside (host_does m (event ∷ [])).outside (map Host_notes (answers m.host.state event))))
      (sym (append-nil (outs m.host.state event)))
      (event_following m.outside (host_does m (event ∷ [])).outside m.host.state event))
  machine_ends past m (Host_takes count rest items events) facts shown may true =
      events_end past past (fed m count rest) m.outside.devices events (record { more = []; is = sym (append-nil past) }) facts shown may.may
      (judged_silent m.host.state items events may.judged) true
  machine_ends past m Decoder_ticks facts shown may true = tt
  machine_ends past m (Refuses line refusal) facts shown may true = note_ends past m (Refused refusal) tt
  machine_ends past m (Shows_values node) facts shown may true = note_ends past m (shown_values m.host.state node) tt
  machine_ends past m (Restarts state) facts shown may true = tt

  pub event_succeeds : (past : List Entry) (m : Machine) (event : Event) → Facts past m.host.state → AllByRecursion (IsShownAmong past) m.outside.devices → May m event → ((node : ℕ) → Of node → IsTrue node m event)
      → EachAfter Ends [] past → EachAfter Ends [] (past ++ entries m event)
  event_succeeds past m event facts shown may true before = each-append Ends [] past (entries m event) before (machine_ends past m event facts shown may true)
