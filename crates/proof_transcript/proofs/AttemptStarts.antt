-- Directly after a session that begins stands the unit of its attempt.
use Rattle.std.proofs.Common.{◌≡◌, ℕ, ◌≤◌, ◌&&◌, ◌||◌, ◌⊎◌, not, Bool, true, false, if◌then◌else◌, List, [], ◌∷◌, ◌++◌, length, Option, Some, None, inl, inr, refl, sym, ap, subst, ◌∙◌, append_assoc, append-nil, arith}
use Rattle.std.specs.List.{AllByRecursion}
use Rattle.std.specs.Option.{option_or}
use Rattle.zw_base.proofs.Each.{all-weaker}
use Rattle.zw_words.specs.declared.side.Side.TheVariants.{Host as by_host}
use Rattle.zw_text.specs.declared.entry.Entry.{Entry}
use Rattle.zw_text.specs.declared.entry.Entry.TheVariants.{Begin, Said, Time, Written}
use Rattle.law_host.specs.law_transcript.Lists.{EachAfter}
use Rattle.law_host.specs.law_transcript.Payloads.{FollowsBegin, GoesTo}
use Rattle.law_host.specs.law_transcript.Units.{sending_in}
use Rattle.serial_frame.specs.Items.{unit_text}
use Rattle.serial_frame.specs.declared.unit.Unit.{Unit as LineUnit}
use Rattle.serial_frame.specs.declared.unit.Unit.TheVariants.{Framed}
use Rattle.serial_pipes.specs.Events.{told, told_by}
use Rattle.serial_pipes.specs.State.{mark_for}
use Rattle.chip_functions.specs.Field.{IsNode}
use Rattle.host_requests.specs.declared.task.Purpose.TheVariants.{Attempt}
use Rattle.host_requests.specs.Frames.{frame_of}
use Rattle.host_requests.specs.State.{next_id}
use Rattle.host_node.specs.State.{has_work}
use Rattle.host_node.specs.declared.attempt.Plan.{Plan}
use Rattle.host_node.specs.Search.{least_above, next_of}
use Rattle.host_node.specs.TableState.{node_of as node_among}
use Rattle.host_node.proofs.Searches.{what_is_least}
use Rattle.proof_air.specs.host_model.State.{HostState}
use Rattle.proof_air.specs.host_model.Facts.{HostFacts}
use Rattle.proof_air.specs.host_model.May.{IsStart}
use Rattle.proof_air.specs.host_model.Events.{HostEvent, Begins, Cancels, Starts}
use Rattle.proof_air.specs.proof_host.Entries.{IsAside, entries_at}
use Rattle.proof_air.specs.proof_host.Facts.{Facts}
use Rattle.proof_air.proofs.Lists.{each-append}
use Rattle.proof_air.specs.outside_model.State.{OuterState}
use Rattle.proof_air.specs.outside_model.Events.{devices_after, outcome, ticked_entry}
use Rattle.proof_air.specs.world_model.State.{Machine}
use Rattle.proof_air.specs.world_model.Events.{Event, Host_does, Host_takes, entries, happens, May}
use Rattle.proof_air.specs.world_model.Did.{happens_all, entries_all, MayAll}
use Rattle.proof_spoken.specs.Restarts.{AllStartWell, StartsWell}
use Rattle.proof_spoken.proofs.Aside.{Asides, told_aside}
use Rattle.proof_air.specs.world_lines.Spoken.{Spoken, after, entries_of, transcript_of}
use Rattle.proof_spoken.specs.Spoken.{AreSpoken, IsSpoken}
use Rattle.proof_spoken.proofs.Plain.{spoken_part}
use Rattle.proof_transcript.proofs.Common.{IsCommon, IsNoBeginning, aside_common, event_common}
use Rattle.proof_transcript.proofs.HostLaws.{IsOf, event_free}
use Rattle.proof_transcript.proofs.Heard.{judged_none}
use Rattle.proof_transcript.proofs.PairedEvents.{Paired, PairedBy, BeginsNone, StartsNext}
use Rattle.proof_transcript.proofs.AttemptUnits.{attempt_goes}
use Rattle.proof_transcript.proofs.CommandsWalking.{line_paired}

-- ---- entries

-- an entry that begins no session
abbrev pub IsNoBegin : Entry → Type 0
IsNoBegin (Begin node session command) = ⊥
IsNoBegin entry = Unit {0}

common_none : (entry : Entry) → IsCommon entry → IsNoBegin entry
common_none (Begin node session command) common = absurd common
common_none entry common = tt

aside_none : (entry : Entry) → IsAside entry → IsNoBegin entry
aside_none entry aside = common_none entry (aside_common entry aside)

host_none : (h : HostState) (event : HostEvent) → IsNoBeginning event → AllByRecursion IsNoBegin (entries_at h event)
host_none h (Cancels command) none = (tt, tt)
host_none h (Begins n session command) none = absurd none
host_none h event none = all-weaker IsCommon IsNoBegin common_none (entries_at h event) (event_common h event tt tt)

-- after it anything may stand
pub after_free : (last entry : Entry) → IsNoBegin last → FollowsBegin (last ∷ []) entry
after_free (Begin node session command) entry none = absurd none
after_free last entry none = tt

follows_cons : (first next : Entry) (rest : List Entry) (entry : Entry) → FollowsBegin (next ∷ rest) entry → FollowsBegin (first ∷ next ∷ rest) entry
follows_cons (Begin node session command) next rest entry follows = follows
follows_cons first next rest entry follows = follows

pub follows_last : (past : List Entry) (last entry : Entry) → FollowsBegin (last ∷ []) entry → FollowsBegin (past ++ last ∷ []) entry
follows_last [] last entry follows = follows
follows_last (x ∷ []) last entry follows = follows_cons x last [] entry follows
follows_last (x ∷ y ∷ past) last entry follows = follows_cons x y (past ++ last ∷ []) entry (follows_last (y ∷ past) last entry follows)

-- ---- where no unit is awaited

abbrev pub Rests : List Entry → Type 0
Rests past = (entry : Entry) → FollowsBegin past entry

record AreFollowed (past es : List Entry) : Type 0 where
  pub each : EachAfter FollowsBegin past es
  pub rests : Rests (past ++ es)

none_followed : (past : List Entry) → Rests past → AreFollowed past []
none_followed past rests = record { each = tt; rests = subst Rests (sym (append-nil past)) rests }

both_followed : (past a b : List Entry) → EachAfter FollowsBegin past a → AreFollowed (past ++ a) b → AreFollowed past (a ++ b)
both_followed past a b first later = record { each = each-append FollowsBegin past a b first later.each; rests = subst Rests (append_assoc past a b) later.rests }

free_followed : (past es : List Entry) → Rests past → AllByRecursion IsNoBegin es → AreFollowed past es
free_followed past [] rests none = none_followed past rests
free_followed past (e ∷ es) rests none =
    both_followed past (e ∷ []) es (rests e, tt) (free_followed (past ++ e ∷ []) es (λ entry. follows_last past e entry (after_free e entry none.0)) none.1)

-- ---- a session that begins, and its unit

ticked_none : (o : OuterState) → AllByRecursion IsNoBegin (ticked_entry o)
ticked_none o = by (o.in_tick && not o.stamped)
  where
    by : (b : Bool) → AllByRecursion IsNoBegin (if b then Time o.clock ∷ [] else [])
    by true = (tt, tt)
    by false = tt

begin_entries : (m : Machine) (n session command : ℕ) → entries m (Host_does (Begins n session command)) ≡ ticked_entry m.outside.outer ++ Begin n session command ∷ []
unfolding entries happens outcome devices_after
begin_entries m n session command =
    let one = ticked_entry m.outside.outer ++ Begin n session command ∷ [] in
    append-nil (one ++ []) ∙ append-nil one

-- the number of the tick was entered
stamped_either : (tick stamped : Bool) → (tick && not (tick || stamped)) ≡ false
stamped_either true stamped = refl
stamped_either false stamped = refl

abbrev IsStamped : OuterState → Type 0
IsStamped o = (o.in_tick && not o.stamped) ≡ false

begin_stamps : (m : Machine) (n session command : ℕ) → IsStamped (happens m (Host_does (Begins n session command))).outside.outer
unfolding happens outcome devices_after
begin_stamps m n session command = stamped_either m.outside.outer.in_tick m.outside.outer.stamped

abbrev unit_of : HostState → ℕ → Bool → List ℕ → LineUnit
unit_of h n more payload = Framed (frame_of (Attempt n more payload) (next_id h.requests.last_id))

start_entries : (m : Machine) (n : ℕ) (plan : Plan) (more : Bool) (payload : List ℕ) → IsStamped m.outside.outer
    → entries m (Host_does (Starts n plan more payload)) ≡ told by_host m.outside.outer.to_chip (unit_of m.host.state n more payload)
unfolding entries happens outcome devices_after
start_entries m n plan more payload stamped =
    let o = m.outside.outer in
    let told_so = told by_host o.to_chip (unit_of m.host.state n more payload) in
    append-nil ((ticked_entry o ++ told_so) ++ []) ∙ append-nil (ticked_entry o ++ told_so)
    ∙ ap (λ (b : Bool). (if b then Time o.clock ∷ [] else []) ++ told_so) stamped

-- the unit of a node is awaited: it comes next
record Awaits (past : List Entry) (m : Machine) (events : List Event) : Type 0 where
  pub node : ℕ
  pub goes : (unit : List ℕ) → GoesTo node (sending_in unit) → FollowsBegin past (Written by_host unit)
  pub next : StartsNext node events
  pub stamped : IsStamped m.outside.outer

abbrev Stands : List Entry → Machine → List Event → Type 0
Stands past m events = Rests past ⊎ Awaits past m events

-- one event, and how it then stands
record Step (past : List Entry) (m : Machine) (event : Event) (events : List Event) : Type 0 where
  pub each : EachAfter FollowsBegin past (entries m event)
  pub stands : Stands (past ++ entries m event) (happens m event) events

free_step : (past : List Entry) (m : Machine) (event : Event) (events : List Event) → Rests past → AllByRecursion IsNoBegin (entries m event) → Step past m event events
free_step past m event events rests none = let are = free_followed past (entries m event) rests none in record { each = are.each; stands = inl are.rests }

begin_step : (past : List Entry) (m : Machine) (n session command : ℕ) (events : List Event) → Rests past → StartsNext n events → Step past m (Host_does (Begins n session command)) events
begin_step past m n session command events rests next =
    let begun = Begin n session command in
    let prefix = ticked_entry m.outside.outer in
    let are = begin_entries m n session command in
    let before = free_followed past prefix rests (ticked_none m.outside.outer) in
    record {
      each = subst (λ (l : List Entry). EachAfter FollowsBegin past l) (sym are) (each-append FollowsBegin past prefix (begun ∷ []) before.each (before.rests begun, tt));
      stands = inr (record {
        node = n;
        goes = λ unit goes. subst (λ (l : List Entry). FollowsBegin l (Written by_host unit)) (append_assoc past prefix (begun ∷ []) ∙ ap (λ (l : List Entry). past ++ l) (sym are))
            (follows_last (past ++ prefix) begun (Written by_host unit) goes);
        next = next;
        stamped = begin_stamps m n session command;
      });
    }

told_none : (m : Machine) (unit : LineUnit) → AllByRecursion IsNoBegin (told by_host m.outside.outer.to_chip unit)
told_none m unit = asides_none (told by_host m.outside.outer.to_chip unit) (told_aside by_host m.outside.outer.to_chip unit)
  where
    asides_none : (es : List Entry) → Asides es → AllByRecursion IsNoBegin es
    asides_none es all = all-weaker IsAside IsNoBegin aside_none es all

start_step : (past : List Entry) (m : Machine) (n : ℕ) (plan : Plan) (more : Bool) (payload : List ℕ) (events : List Event)
    → ((unit : List ℕ) → GoesTo n (sending_in unit) → FollowsBegin past (Written by_host unit)) → IsStamped m.outside.outer → GoesTo n (sending_in (unit_text (unit_of m.host.state n more payload)))
    → Step past m (Host_does (Starts n plan more payload)) events
start_step past m n plan more payload events follows stamped goes =
    let unit = unit_of m.host.state n more payload in
    let text = unit_text unit in
    let way = m.outside.outer.to_chip in
    let later = told_by by_host way.bytes (mark_for way.marks unit) text in
    let none : AllByRecursion IsNoBegin (Written by_host text ∷ later) = told_none m unit in
    let written = Written by_host text in
    let rest = free_followed (past ++ written ∷ []) later (λ entry. follows_last past written entry tt) none.1 in
    let all = both_followed past (written ∷ []) later (follows text goes, tt) rest in
    let are = start_entries m n plan more payload stamped in
    record {
      each = subst (λ (l : List Entry). EachAfter FollowsBegin past l) (sym are) all.each;
      stands = inl (subst (λ (l : List Entry). Rests (past ++ l)) (sym are) all.rests);
    }

-- ---- the node of an attempt

least_is_node : (passes : ℕ → Bool) (number n : ℕ) → least_above passes number ≡ Some n → IsNode n
least_is_node passes number n e = let f = what_is_least passes number n e in (omega (arith, f.from), omega (arith, f.from, f.to))

either_is_node : (a b : Option ℕ) (n : ℕ) → option_or a b ≡ Some n → (a ≡ Some n → IsNode n) → (b ≡ Some n → IsNode n) → IsNode n
either_is_node None b n e first second = second e
either_is_node (Some k) b n e first second = first e

next_is_node : (h : HostState) (n : ℕ) → next_of h.nodes h.served ≡ Some n → IsNode n
next_is_node h n e =
    let works : ℕ → Bool = λ node. has_work (node_among h.nodes node) in
    either_is_node (least_above works h.served) (least_above works 0) n e (least_is_node works h.served n) (least_is_node works 0 n)

-- ---- each event

-- a session begins, or none does
begins_or : (event : HostEvent) → ((n : ℕ) × (session : ℕ) × (command : ℕ) × (event ≡ Begins n session command)) ⊎ IsNoBeginning event
begins_or (Begins n session command) = inl (n, session, command, refl)
begins_or event = inr tt

none_of : (m : Machine) (event : Event) → BeginsNone event → May m event → IsOf IsNoBegin IsNoBeginning aside_none host_none event
unfolding May
none_of m (Host_does event) none may = none
none_of m (Host_takes count rest items events) none may = judged_none m.host.state items events may.judged
none_of m event none may = tt

none_step : (past : List Entry) (m : Machine) (event : Event) (events : List Event) → BeginsNone event → May m event → Rests past → Step past m event events
none_step past m event events none may rests =
    free_step past m event events rests (event_free IsNoBegin IsNoBeginning aside_none host_none m event (none_of m event none may) may)

rest_step : (past : List Entry) (m : Machine) (event : Event) (events : List Event) → Paired (event ∷ events) → May m event → Rests past → Step past m event events
rest_step past m (Host_does event) events paired may rests = elim (begins_or event) [
  | inl (n, session, command, is) ↦
      subst (λ (e : HostEvent). Step past m (Host_does e) events) (sym is) (begin_step past m n session command events rests (subst (λ (e : HostEvent). PairedBy e events) is paired.0))
  | inr none ↦ none_step past m (Host_does event) events none may rests
]
rest_step past m event events paired may rests = none_step past m event events tt may rests

rest_paired : (event : Event) (events : List Event) → Paired (event ∷ events) → Paired events
rest_paired (Host_does event) events paired = paired.1
rest_paired event events paired = paired

module _ (some : (h : HostState) (n : ℕ) (plan : Plan) (more : Bool) (payload : List ℕ) → HostFacts h → IsStart h n plan more payload → (1 ≤ length payload) × (length payload ≤ 46))
    (from : (last : ℕ) → 1 ≤ next_id last) (to : (last : ℕ) → next_id last ≤ 255) where
  start_goes : (m : Machine) (n : ℕ) (plan : Plan) (more : Bool) (payload : List ℕ) → HostFacts m.host.state → May m (Host_does (Starts n plan more payload))
      → GoesTo n (sending_in (unit_text (unit_of m.host.state n more payload)))
  unfolding May
  start_goes m n plan more payload facts may =
      let h = m.host.state in
      let (served, start, fits) = may.0 in
      attempt_goes n more payload (next_id h.requests.last_id) (next_is_node h n served.next) (some h n plan more payload facts start).0
      (from h.requests.last_id) (to h.requests.last_id)

  host_step : (past : List Entry) (m : Machine) (event : HostEvent) (events : List Event) (awaits : Awaits past m (Host_does event ∷ events)) → May m (Host_does event) → HostFacts m.host.state
      → Step past m (Host_does event) events
  host_step past m (Starts n plan more payload) events awaits may facts =
      start_step past m n plan more payload events (subst (λ (k : ℕ). (unit : List ℕ) → GoesTo k (sending_in unit) → FollowsBegin past (Written by_host unit)) (sym awaits.next) awaits.goes)
      awaits.stamped (start_goes m n plan more payload facts may)
  host_step past m event events awaits may facts = absurd awaits.next

  await_step : (past : List Entry) (m : Machine) (event : Event) (events : List Event) → Awaits past m (event ∷ events) → May m event → HostFacts m.host.state → Step past m event events
  await_step past m (Host_does event) events awaits may facts = host_step past m event events awaits may facts
  await_step past m event events awaits may facts = absurd awaits.next

  one_step : (past : List Entry) (m : Machine) (event : Event) (events : List Event) → Paired (event ∷ events) → May m event → HostFacts m.host.state → Stands past m (event ∷ events)
      → Step past m event events
  one_step past m event events paired may facts (inl rests) = rest_step past m event events paired may rests
  one_step past m event events paired may facts (inr awaits) = await_step past m event events awaits may facts

  -- ---- events and lines

  module _ (keeps : (past : List Entry) (m : Machine) (event : Event) → Facts past m.host.state → May m event → StartsWell m event → Facts (past ++ entries m event) (happens m event).host.state)
      (aside : (past : List Entry) (h : HostState) (entry : Entry) → Facts past h → IsAside entry → Facts (past ++ entry ∷ []) h) where
    -- with the facts of the host, which go on
    record IsSo (past es : List Entry) (m : Machine) : Type 0 where
      pub followed : AreFollowed past es
      pub facts : Facts (past ++ es) m.host.state

    events_so : (past : List Entry) (m : Machine) (events : List Event) → Paired events → MayAll m events → AllStartWell m events → Facts past m.host.state → Stands past m events
        → IsSo past (entries_all m events) (happens_all m events)
    events_so past m [] paired may well facts (inl rests) = record { followed = none_followed past rests; facts = subst (λ (l : List Entry). Facts l m.host.state) (sym (append-nil past)) facts }
    events_so past m [] paired may well facts (inr awaits) = absurd awaits.next
    events_so past m (event ∷ events) paired may well facts stands =
        let step = one_step past m event events paired may.0 facts.host stands in
        let es = entries m event in
        let next = happens m event in
        let later = events_so (past ++ es) next events (rest_paired event events paired) may.1 well.1 (keeps past m event facts may.0 well.0) step.stands in
        record {
          followed = both_followed past es (entries_all next events) step.each later.followed;
          facts = subst (λ (l : List Entry). Facts l (happens_all next events).host.state) (append_assoc past es (entries_all next events)) later.facts;
        }

    line_so : (past : List Entry) (m : Machine) (spoken : Spoken) (more : List Spoken) → IsSpoken more m spoken → Facts past m.host.state → Rests past → IsSo past (entries_of m spoken) (after m spoken)
    line_so past m spoken more is facts rests =
        let said = Said spoken.words in
        let before = past ++ said ∷ [] in
        let later = events_so before m spoken.events (line_paired spoken.line m spoken.events (spoken_part more m spoken is)) is.may is.well (aside past m.host.state said facts tt)
        (inl (λ entry. follows_last past said entry tt)) in
        record {
          followed = both_followed past (said ∷ []) (entries_all m spoken.events) (rests said, tt) later.followed;
          facts = subst (λ (l : List Entry). Facts l (after m spoken).host.state) (append_assoc past (said ∷ []) (entries_all m spoken.events)) later.facts;
        }

    lines_followed : (past : List Entry) (m : Machine) (lines : List Spoken) → AreSpoken m lines → Facts past m.host.state → Rests past → EachAfter FollowsBegin past (transcript_of m lines)
    lines_followed past m [] are facts rests = tt
    lines_followed past m (spoken ∷ more) are facts rests =
        let so = line_so past m spoken more are.0 facts rests in
        each-append FollowsBegin past (entries_of m spoken) (transcript_of (after m spoken) more) so.followed.each
        (lines_followed (past ++ entries_of m spoken) (after m spoken) more are.1 so.facts so.followed.rests)

    pub lines_begin_with_units : (m : Machine) (lines : List Spoken) → AreSpoken m lines → Facts [] m.host.state → EachAfter FollowsBegin [] (transcript_of m lines)
    lines_begin_with_units m lines are facts = lines_followed [] m lines are facts (λ entry. tt)
