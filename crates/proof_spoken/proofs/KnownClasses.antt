-- The host knows the classes that the transcript shows, where each interview tells what the node lists.
use Rattle.std.proofs.Common.{◌≡◌, ℕ, zero, suc, ◌+◌, ◌==◌, ◌||◌, Bool, true, false, if◌then◌else◌, List, [], ◌∷◌, ◌++◌, length, Option, Some, None, inl, inr, refl, sym, ap, subst, ◌∙◌, append_assoc, append-nil, arith}
use Rattle.std.specs.List.{list_any}
use Rattle.std.proofs.lemmas.Bool.{cases_eq, eq-eqb, ne_eqb}
use Rattle.std.proofs.lemmas.List.{length-set}
use Rattle.zw_base.proofs.Each.{all-append, all-right, all-weaker}
use Rattle.zw_text.specs.declared.entry.Entry.{Entry}
use Rattle.zw_text.specs.declared.entry.Entry.TheVariants.{Accepted, Interviewed, InterviewFailed, Out, Refused, Said}
use Rattle.zw_text.specs.declared.entry.Ended.TheVariants as ended
use Rattle.zw_text.specs.Transcript.{interview_at, interviews}
use Rattle.zw_text.proofs.Views.{shown-append}
use Rattle.proof_once.specs.law_transcript.Nodes.{known_at_first, known_classes, always}
use Rattle.host_node.specs.Steps.{after_interview, after_join}
use Rattle.host_node.specs.TableState.{node_of, unknown_from, unknown_nodes, with_node}
use Rattle.proof_world.specs.host_model.State.{HostState, command_at, first_classes, first_host, first_nodes}
use Rattle.proof_world.specs.host_model.Sessions.{settings_with}
use Rattle.host_keep.specs.Kept.{Kept, classes_said, kept_of, node_of as kept_of_node}
use Rattle.host_keep.specs.Legal.{Give}
use Rattle.proof_world.specs.Restarts.{AreHeld}
use Rattle.host_keep.specs.declared.final_status.FinalStatus.TheVariants as final
use Rattle.chip_functions.specs.declared.notice.Update.{Update}
use Rattle.s0_crypto.specs.declared.key_pair.Keys.{Keys}
use Rattle.device_kinds.specs.Kind.{classes_of as kind_classes}
use Rattle.device_kinds.specs.declared.kind.Kind.TheVariants.{Switch}
use Rattle.proof_world.specs.host_model.Events.{HostEvent, Accepts, Cancels, Finishes, Interviews}
use Rattle.proof_world.specs.host_model.After.{after as host_after, is_held}
use Rattle.proof_world.specs.host_model.Did.{after_all as host_after_all}
use Rattle.proof_world.specs.host_model.Outs.{outs, answers}
use Rattle.proof_world.specs.host_model.declared.out.HostOut.{HostOut}
use Rattle.proof_world.specs.host_model.declared.out.HostOut.TheVariants.{Write, Note}
use Rattle.proof_once.specs.proof_host.Entries.{entries_at, notes_of}
use Rattle.proof_once.specs.outside_model.State.{Outside}
use Rattle.proof_once.specs.outside_model.Events.{Host_writes, Host_notes, Host_begins, entries as entries_outside, outcome, ticked_entry, happens as happens_outside}
use Rattle.proof_once.specs.outside_model.Did.{entries_all as entries_all_outside, happens_all as happens_all_outside}
use Rattle.proof_once.proofs.EventLists.{entries_all-append}
use Rattle.proof_once.specs.world_model.State.{Machine, begun_in, host_does, host_entries, noted_by, routed}
use Rattle.proof_once.specs.world_model.Events.{Event, Outside_does, Host_does, Host_takes, Decoder_ticks, Refuses, Shows_values, Restarts, entries, fed, happens, notes, shown_values, May}
use Rattle.proof_once.specs.world_model.Did.{happens_all, entries_all, MayAll}
use Rattle.proof_once.proofs.Hosting.{entries_cons}
use Rattle.proof_world.specs.world_lines.Spoken.{Spoken, after, after_all, entries_of, transcript_of}
use Rattle.proof_spoken.specs.Spoken.{AreSpoken}
use Rattle.proof_spoken.specs.Said.{AllKnow, AllTell, IsTrueInterview, KnowsAgain, KnowsListing, LinesTell, TellListing, TellsListing, Tells}
use Rattle.proof_spoken.proofs.Classes.{IsNoInterview, LeavesRecords, classes_of, event_kept, joined_place, set_here, set_there}
use Rattle.proof_spoken.proofs.RoutineNotes.{AreRoutine, IsRoutine, after_routine, event_routine}
use Rattle.proof_spoken.proofs.Outside.{AreForeign, IsForeign, own_foreign, stamp_foreign, ticked_foreign, write_foreign}
use Rattle.host_node.proofs.TableLists.{length-unknown_from as unknown_length}

-- ---- what entries show of interviews

pub or_none : (a b : Bool) → b ≡ false → a || b ≡ a
or_none true b none = refl
or_none false b none = none

any_append : (xs ys : List Bool) → list_any (λ one. one) (xs ++ ys) ≡ list_any (λ one. one) xs || list_any (λ one. one) ys
any_append [] ys = refl
any_append (true ∷ xs) ys = refl
any_append (false ∷ xs) ys = any_append xs ys

none_any : (b : Bool) → list_any (λ one. one) (if b then false ∷ [] else []) ≡ false
none_any true = refl
none_any false = refl

one_fails : (node : ℕ) (entry : Entry) → IsForeign entry → list_any (λ one. one) (interview_at node entry) ≡ false
one_fails node (Interviewed of) foreign = absurd foreign
one_fails node (InterviewFailed of) foreign = none_any (of == node)
one_fails node entry foreign = refl

foreign_fail : (node : ℕ) (es : List Entry) → AreForeign es → list_any (λ one. one) (interviews node es) ≡ false
foreign_fail node [] foreign = refl
foreign_fail node (entry ∷ es) foreign =
    any_append (interview_at node entry) (interviews node es)
    ∙ or_none (list_any (λ one. one) (interview_at node entry)) (list_any (λ one. one) (interviews node es)) (foreign_fail node es foreign.1) ∙ one_fails node entry foreign.0

module _ (listing : ℕ → List ℕ) where
  abbrev known_by : ℕ → Bool → Option (List ℕ)
  known_by node b = if b then Some (listing node) else known_at_first node

  -- entries of others change nothing
  known_more : (past es : List Entry) (node : ℕ) → AreForeign es → known_classes (always listing) (past ++ es) node ≡ known_classes (always listing) past node
  known_more past es node foreign =
      ap (known_by node)
      (ap (λ (l : List Bool). list_any (λ one. one) l) (shown-append (interview_at node) past es) ∙ any_append (interviews node past) (interviews node es)
      ∙ or_none (list_any (λ one. one) (interviews node past)) (list_any (λ one. one) (interviews node es)) (foreign_fail node es foreign))

  -- an interview that ended well
  or_true : (a b : Bool) → b ≡ true → a || b ≡ true
  or_true true b is = refl
  or_true false b is = is

  interviewed_here : (past : List Entry) (node : ℕ) → known_classes (always listing) (past ++ Interviewed node ∷ []) node ≡ Some (listing node)
  interviewed_here past node =
      ap (known_by node)
      (ap (λ (l : List Bool). list_any (λ one. one) l) (shown-append (interview_at node) past (Interviewed node ∷ [])) ∙ any_append (interviews node past) (interviews node (Interviewed node ∷ []))
      ∙ or_true (list_any (λ one. one) (interviews node past)) (list_any (λ one. one) (interviews node (Interviewed node ∷ [])))
      (ap (λ (b : Bool). list_any (λ one. one) ((if b then true ∷ [] else []) ++ [])) (eq-eqb node node refl)))

  interviewed_there : (past : List Entry) (node other : ℕ) → (other ≡ node → ⊥) → known_classes (always listing) (past ++ Interviewed node ∷ []) other ≡ known_classes (always listing) past other
  interviewed_there past node other differ =
      ap (known_by other)
      (ap (λ (l : List Bool). list_any (λ one. one) l) (shown-append (interview_at other) past (Interviewed node ∷ [])) ∙ any_append (interviews other past) (interviews other (Interviewed node ∷ []))
      ∙ or_none (list_any (λ one. one) (interviews other past)) (list_any (λ one. one) (interviews other (Interviewed node ∷ [])))
      (ap (λ (b : Bool). list_any (λ one. one) ((if b then true ∷ [] else []) ++ [])) (ne_eqb node other (λ same. differ (sym same)))))

-- ---- what a host enters

routine_foreign : (entry : Entry) → IsRoutine entry → IsForeign entry
routine_foreign (Interviewed node) routine = absurd routine
routine_foreign entry routine = tt

noted_foreign : (w : Outside) (begun : Option (ℕ × ℕ)) (entry : Entry) → IsForeign entry → AreForeign (entries_all_outside w (noted_by begun entry))
unfolding outcome
noted_foreign w None entry foreign = all-append IsForeign (entries_outside w (Host_notes entry)) [] (stamp_foreign w.outer (entry ∷ []) (foreign, tt)) tt
noted_foreign w (Some begun) entry foreign =
    all-append IsForeign (entries_outside (happens_outside w (Host_begins begun.0 begun.1)) (Host_notes entry)) []
    (stamp_foreign (happens_outside w (Host_begins begun.0 begun.1)).outer (entry ∷ []) (foreign, tt)) tt

pub routed_foreign : (w : Outside) (puts : List HostOut) → AreForeign (notes_of puts) → AreForeign (entries_all_outside w (routed puts))
routed_foreign w [] foreign = tt
routed_foreign w (Write unit ∷ puts) foreign =
    all-append IsForeign (entries_outside w (Host_writes unit)) (entries_all_outside (happens_outside w (Host_writes unit)) (routed puts)) (write_foreign w unit)
    (routed_foreign (happens_outside w (Host_writes unit)) puts foreign)
routed_foreign w (Note entry ∷ puts) foreign =
    let first = noted_by (begun_in entry) entry in
    subst AreForeign (sym (entries_all-append w first (routed puts)))
    (all-append IsForeign (entries_all_outside w first) (entries_all_outside (happens_all_outside w first) (routed puts)) (noted_foreign w (begun_in entry) entry foreign.0)
    (routed_foreign (happens_all_outside w first) puts foreign.1))

routines_foreign : (es : List Entry) → AreRoutine es → AreForeign es
routines_foreign es routine = all-weaker IsRoutine IsForeign routine_foreign es routine

notes_foreign : (h : HostState) (event : HostEvent) → IsNoInterview event → AreForeign (notes_of (outs h event))
notes_foreign h (Interviews n listens classes update) none = absurd none
notes_foreign h (Finishes n session id command final.Success wake_request) none =
    (tt, routines_foreign _ (after_routine n (settings_with final.Success (command_at h.commands command)) (is_held h n wake_request)))
notes_foreign h event none = all-right IsForeign (answers h event) (notes_of (outs h event)) (routines_foreign (entries_at h event) (event_routine h event tt))

answers_foreign : (w : Outside) (h : HostState) (event : HostEvent) → AreForeign (entries_all_outside w (notes (answers h event)))
answers_foreign w h (Accepts order carriage) = noted_foreign w None (Accepted (length h.commands + 1) order.node) tt
answers_foreign w h (Cancels command) = noted_foreign w None (Out command ended.Cancelled) tt
answers_foreign w h event = tt

-- ---- what the host knows

module _ (law : LeavesRecords) (listing : ℕ → List ℕ) where
  foreign_knows : (past es : List Entry) (h : HostState) → AreForeign es → KnowsListing (always listing) past h → KnowsListing (always listing) (past ++ es) h
  foreign_knows past es h foreign knows node = knows node ∙ sym (known_more listing past es node foreign)

  interview_knows : (past : List Entry) (h : HostState) (n : ℕ) (listens : Bool) (classes : List ℕ) (update : Update) → IsTrueInterview listing h n classes → KnowsListing (always listing) past h
      → KnowsListing (always listing) (past ++ Interviewed n ∷ []) (host_after h (Interviews n listens classes update))
  interview_knows past h n listens classes update tells knows node = elim (cases_eq node n) [
    | inl same ↦
        subst (λ (k : ℕ). classes_of (host_after h (Interviews n listens classes update)).nodes k ≡ known_classes (always listing) (past ++ Interviewed n ∷ []) k) (sym same)
        (set_here h.nodes n (after_interview (node_of h.nodes n) listens classes) (joined_place h.nodes n tells.joined)
        ∙ ap (λ (l : List ℕ). Some l) tells.lists ∙ sym (interviewed_here listing past n))
    | inr other ↦
        set_there h.nodes n (after_interview (node_of h.nodes n) listens classes) node other ∙ knows node ∙ sym (interviewed_there listing past n node other)
  ]

  interview_entries : (m : Machine) (n : ℕ) (listens : Bool) (classes : List ℕ) (update : Update)
      → host_entries m (Interviews n listens classes update ∷ []) ≡ ticked_entry m.outside.outer ++ Interviewed n ∷ []
  unfolding outcome
  interview_entries m n listens classes update = append-nil (ticked_entry m.outside.outer ++ Interviewed n ∷ [])

  host_knows : (past : List Entry) (m : Machine) (event : HostEvent) → TellsListing listing m.host.state event → KnowsListing (always listing) past m.host.state
      → KnowsListing (always listing) (past ++ host_entries m (event ∷ [])) (host_after m.host.state event)
  host_knows past m (Interviews n listens classes update) tells knows =
      let ticked = ticked_entry m.outside.outer in
      let h = m.host.state in
      subst (λ (l : List Entry). KnowsListing (always listing) l (host_after h (Interviews n listens classes update)))
      (append_assoc past ticked (Interviewed n ∷ []) ∙ ap (λ (l : List Entry). past ++ l) (sym (interview_entries m n listens classes update)))
      (interview_knows (past ++ ticked) h n listens classes update tells (foreign_knows past ticked h (ticked_foreign m.outside.outer) knows))
  host_knows past m event tells knows = λ node.
      event_kept law m.host.state event tt node
      ∙ foreign_knows past (host_entries m (event ∷ [])) m.host.state
      (routed_foreign m.outside (outs m.host.state event ++ [])
      (subst (λ (l : List HostOut). AreForeign (notes_of l)) (sym (append-nil (outs m.host.state event))) (notes_foreign m.host.state event tt))) knows node

  hosts_know : (past : List Entry) (m : Machine) (events : List HostEvent) → TellListing listing m.host.state events → KnowsListing (always listing) past m.host.state
      → KnowsListing (always listing) (past ++ host_entries m events) (host_after_all m.host.state events)
  hosts_know past m [] tells knows = foreign_knows past [] m.host.state tt knows
  hosts_know past m (event ∷ events) tells knows =
      let first = host_entries m (event ∷ []) in
      subst (λ (l : List Entry). KnowsListing (always listing) l (host_after_all (host_after m.host.state event) events))
      (append_assoc past first (host_entries (host_does m (event ∷ [])) events) ∙ ap (λ (l : List Entry). past ++ l) (entries_cons m event events))
      (hosts_know (past ++ first) (host_does m (event ∷ [])) events tells.1 (host_knows past m event tells.0 knows))

  note_knows : (past : List Entry) (m : Machine) (entry : Entry) → IsForeign entry → KnowsListing (always listing) past m.host.state
      → KnowsListing (always listing) (past ++ entries_outside m.outside (Host_notes entry)) m.host.state
  unfolding outcome
  note_knows past m entry foreign knows = foreign_knows past _ m.host.state (stamp_foreign m.outside.outer (entry ∷ []) (foreign, tt)) knows

  pub machine_knows : (past : List Entry) (m : Machine) (event : Event) → May m event → Tells listing m event → KnowsListing (always listing) past m.host.state
      → KnowsListing (always listing) (past ++ entries m event) (happens m event).host.state
  unfolding happens entries May
  machine_knows past m (Outside_does event) may tells knows = foreign_knows past (entries_outside m.outside event) m.host.state (own_foreign m.outside event may.0) knows
  machine_knows past m (Host_does event) may tells knows =
      let first = host_entries m (event ∷ []) in
      let answered = entries_all_outside (host_does m (event ∷ [])).outside (notes (answers m.host.state event)) in
      subst (λ (l : List Entry). KnowsListing (always listing) l (host_after m.host.state event)) (append_assoc past first answered)
      (foreign_knows (past ++ first) answered (host_after m.host.state event) (answers_foreign (host_does m (event ∷ [])).outside m.host.state event) (host_knows past m event tells knows))
  machine_knows past m (Host_takes count rest items events) may tells knows = hosts_know past (fed m count rest) events tells knows
  machine_knows past m Decoder_ticks may tells knows = foreign_knows past [] m.host.state tt knows
  machine_knows past m (Refuses line refusal) may tells knows = note_knows past m (Refused refusal) tt knows
  machine_knows past m (Shows_values node) may tells knows = note_knows past m (shown_values m.host.state node) tt knows
  machine_knows past m (Restarts state) may tells knows = λ node. tells node ∙ foreign_knows past [] m.host.state tt knows node

  events_know : (past : List Entry) (m : Machine) (events : List Event) → MayAll m events → AllTell listing m events → KnowsListing (always listing) past m.host.state
      → KnowsListing (always listing) (past ++ entries_all m events) (happens_all m events).host.state
  events_know past m [] may tells knows = foreign_knows past [] m.host.state tt knows
  events_know past m (event ∷ events) may tells knows =
      subst (λ (l : List Entry). KnowsListing (always listing) l (happens_all (happens m event) events).host.state) (append_assoc past (entries m event) (entries_all (happens m event) events))
      (events_know (past ++ entries m event) (happens m event) events may.1 tells.1 (machine_knows past m event may.0 tells.0 knows))

  pub lines_know : (past : List Entry) (m : Machine) (lines : List Spoken) → AreSpoken m lines → LinesTell listing m lines → KnowsListing (always listing) past m.host.state
      → AllKnow listing past m lines × KnowsListing (always listing) (past ++ transcript_of m lines) (after_all m lines).host.state
  lines_know past m [] are tells knows = (tt, foreign_knows past [] m.host.state tt knows)
  lines_know past m (spoken ∷ more) are tells knows =
      let begun = foreign_knows past (Said spoken.words ∷ []) m.host.state (tt, tt) knows in
      let done : KnowsListing (always listing) (past ++ entries_of m spoken) (after m spoken).host.state
      = subst (λ (l : List Entry). KnowsListing (always listing) l (after m spoken).host.state) (append_assoc past (Said spoken.words ∷ []) (entries_all m spoken.events))
      (events_know (past ++ Said spoken.words ∷ []) m spoken.events are.0.may tells.0 begun) in
      let later = lines_know (past ++ entries_of m spoken) (after m spoken) more are.1 tells.1 done in (
        (knows, later.0),
        subst (λ (l : List Entry). KnowsListing (always listing) l (after_all (after m spoken) more).host.state) (append_assoc past (entries_of m spoken) (transcript_of (after m spoken) more)) later.1,
      )

-- ---- at first

unknown_classes : (from count m : ℕ) → (node_of (unknown_from from count) m).classes ≡ None
unknown_classes from zero m = refl
unknown_classes from (suc count) zero = refl
unknown_classes from (suc count) (suc m) = unknown_classes (suc from) count m

all_unknown : (m : ℕ) → classes_of unknown_nodes m ≡ None
unfolding unknown_nodes
all_unknown zero = refl
all_unknown (suc m) = unknown_classes 1 232 m

pub all_length : length unknown_nodes ≡ 233
unfolding unknown_nodes
all_length = ap suc (unknown_length 1 232)

pub first_known : (listing : ℕ → List ℕ) (keys : Keys) → KnowsListing (always listing) [] (first_host keys)
unfolding first_nodes
first_known listing keys node =
    let joined = after_join (node_of unknown_nodes 2) in
    let once = with_node unknown_nodes 2 joined in
    let known = after_interview (node_of once 2) true first_classes in
    let places : length once ≡ 233 = length-set unknown_nodes 2 joined ∙ all_length in
    elim (cases_eq node 2) [
      | inl same ↦ subst (λ (k : ℕ). classes_of (with_node once 2 known) k ≡ known_at_first k) (sym same) (set_here once 2 known (omega (arith, places)))
      | inr other ↦
          set_there once 2 known node other ∙ set_there unknown_nodes 2 joined node other ∙ all_unknown node
          ∙ sym (ap (λ (b : Bool). if b then Some (kind_classes Switch) else None) (ne_eqb node 2 other))
    ]

-- ---- records

-- hosts that have the same records know the same
pub same_records : ((texts : List (List ℕ)) (kept other : Kept) → Give texts kept → Give texts other → kept ≡ other) → (old new : HostState) (texts : List (List ℕ)) → AreHeld old texts → AreHeld new texts
    → KnowsAgain old new
same_records one old new texts was now node =
    let first : Give texts (kept_of was.records) = record { records = was.records; are = was.are; legal = was.legal; gives = refl } in
    let later : Give texts (kept_of now.records) = record { records = now.records; are = now.are; legal = now.legal; gives = refl } in
    (now.holds.nodes node).classes
    ∙ ap (λ (k : Kept). classes_said (kept_of_node k node).interview) (one texts (kept_of now.records) (kept_of was.records) later first)
    ∙ sym (was.holds.nodes node).classes
