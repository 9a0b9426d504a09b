-- What the entries of lines tell of commands: which were accepted, and that those whose sessions are past have final outcomes.
use Rattle.std.proofs.Common.{◌≡◌, ◌≢◌, ◌≤◌, ◌<◌, ℕ, zero, suc, ◌+◌, ◌-◌, ◌==◌, ◌||◌, not, inl, inr, Bool, true, false, if◌then◌else◌, List, [], ◌∷◌, ◌++◌, length, length-append, append_assoc, append-nil, refl, sym, ap, ◌∙◌, subst, arith}
use Rattle.std.proofs.lemmas.Bool.{eq-eqb, eqb-true}
use Rattle.std.proofs.lemmas.List.Concat.{flat_map-append}
use Rattle.std.proofs.lemmas.List.Elements.{filter_agree}
use Rattle.std.specs.Option.{is_some}
use Rattle.std.specs.Prelude.{◌⊎◌, Option, Some, None, drop, filter, slice_get}
use Rattle.std.specs.List.{AllByRecursion, list_any}
use Rattle.zw_base.proofs.Each.{all-get}
use Rattle.zw_text.specs.declared.entry.Entry.{Entry}
use Rattle.zw_text.specs.declared.entry.Entry.TheVariants.{Accepted, Said}
use Rattle.zw_text.specs.declared.entry.Outcome.{Outcome}
use Rattle.zw_text.specs.declared.entry.Outcome.TheVariants.{Waiting, Begun, Success, Fail, NoSupport, Unanswered}
use Rattle.zw_text.specs.Transcript.{accepted, accepted_number, accepted_numbers, lines_run, outcome, shown}
use Rattle.law_transcript.specs.Commands.{is_waiting, numbers_of, waiting}
use Rattle.law_transcript.specs.Lists.{EachAfter, Has, Rises}
use Rattle.law_transcript.specs.Sessions.{IsFinal}
use Rattle.law_transcript.specs.Stores.{node_at}
use Rattle.law_transcript.proofs.Having.{has_either, has_left, has_right}
use Rattle.law_time.specs.Judged.{last_of}
use Rattle.law_time.specs.Sessions.{is_final, is_open}
use Rattle.law_time.specs.Stretches.{accepted_for}
use Rattle.supervision.specs.Host.{HostBook, begun_of, command_at as command_of_session, open_session}
use Rattle.host_node.specs.Facts.{NodeFacts, SeriesFacts}
use Rattle.host_node.specs.State.{NodeState}
use Rattle.host_node.specs.declared.series.Series.{Series}
use Rattle.host_node.specs.declared.series.Series.TheVariants as series
use Rattle.host_model.specs.Sessions.{command_by, open_command}
use Rattle.host_model.specs.State.{Command, HostState, command_at, node_of}
use Rattle.world_model.specs.Did.{MayAll, entries_all, happens_all}
use Rattle.world_model.specs.Events.{Event}
use Rattle.world_model.specs.State.{Machine}
use Rattle.world_lines.specs.Spoken.{Spoken, after, after_all, transcript_of}
use Rattle.world_lines.specs.Done.{AreDone}
use Rattle.world_lines.specs.Whole.{AreWhole}
use Rattle.proof_walk.specs.Time.{KnowTime, MayCount}
use Rattle.proof_walk.specs.Phases.{Between}
use Rattle.proof_walk.specs.Walk.{Walk}
use Rattle.proof_walk.proofs.Lines.{lines_lead}
use Rattle.law_transcript.specs.Restarts.{ticks_asked}
use Rattle.proof_in_time.specs.InHand.{ticks_begun}
use Rattle.proof_host.specs.Entries.{IsAside}
use Rattle.proof_host.specs.Facts.{AreInOrder, Facts}
use Rattle.proof_host.specs.Laws.{IsUnderWay, MayStand, accepted_for as nodes_accepted, numbers_for}
use Rattle.proof_host.specs.Tables.{nodes_by, outcome_in, recorded}
use Rattle.proof_host.proofs.Lists.{rises-left}
use Rattle.proof_host.proofs.Over.{each-right}
use Rattle.proof_spoken.specs.Spoken.{AreSpoken}
use Rattle.proof_spoken.specs.Restarts.{AllStartWell}
use Rattle.proof_in_time.specs.InHand.{HasEnded, IsInHand, IsPast, RestsBefore, StandsAt, Unopened}
use Rattle.proof_in_time.proofs.Bounded.{some_by}
use Rattle.proof_in_time.proofs.InHand.{begun_is}

-- ---- the facts of the host, over lines

pub lines_keep_facts : ((past : List Entry) (h : HostState) (entry : Entry) → Facts past h → IsAside entry → Facts (past ++ entry ∷ []) h)
    → ((past : List Entry) (m : Machine) (events : List Event) → Facts past m.host.state → MayAll m events → AllStartWell m events → Facts (past ++ entries_all m events) (happens_all m events).host.state) → (past : List Entry)
    (m : Machine) (lines : List Spoken) → AreSpoken m lines → Facts past m.host.state → Facts (past ++ transcript_of m lines) (after_all m lines).host.state
lines_keep_facts aside all past m [] are facts = subst (λ (T : List Entry). Facts T m.host.state) (sym (append-nil past)) facts
lines_keep_facts aside all past m (spoken ∷ more) (is, are) facts =
    let told : List Entry = entries_all m spoken.events in
    let words : Facts (past ++ Said spoken.words ∷ []) m.host.state = aside past m.host.state (Said spoken.words) facts tt in
    let rest = lines_keep_facts aside all ((past ++ Said spoken.words ∷ []) ++ told) (after m spoken) more are (all (past ++ Said spoken.words ∷ []) m spoken.events words is.may is.well) in
    subst (λ (T : List Entry). Facts T (after_all (after m spoken) more).host.state)
    (append_assoc (past ++ Said spoken.words ∷ []) told (transcript_of (after m spoken) more) ∙ append_assoc past (Said spoken.words ∷ []) (told ++ transcript_of (after m spoken) more)) rest

-- ---- its clock, over lines

-- so many ticks have begun as lines asked for
pub clock_is : Walk MayCount KnowTime → (m : Machine) (lines : List Spoken) → KnowTime Between [] m → AreDone m lines → AreWhole m lines → ticks_begun (after_all m lines) ≡ ticks_asked (lines_run (transcript_of m lines))
clock_is walk m lines first are whole = let known = (lines_lead MayCount KnowTime walk [] m lines are whole first).1 in let clock = known.0.0.clock in omega (arith, clock)

-- ---- a command whose acceptance was entered

pub is_accepted : (n command : ℕ) (entry : Entry) → Has (accepted_for n entry) command → entry ≡ Accepted command n
is_accepted n command (Accepted number node) has = by (node == n) refl has
  where
    by : (b : Bool) → (node == n) ≡ b → Has (if b then number ∷ [] else []) command → Accepted number node ≡ Accepted command n
    by true same (inl is) = ap (λ (k : ℕ). Accepted number k) (eqb-true node n same) ∙ ap (λ (k : ℕ). Accepted k n) is
    by true same (inr none) = absurd none
    by false other none = absurd none
is_accepted n command entry has = absurd has

pub numbers_grow : (past more : List Entry) → length (accepted_numbers past) ≤ length (accepted_numbers (past ++ more))
numbers_grow past more =
    let all : length (accepted_numbers (past ++ more)) ≡ length (accepted_numbers past) + length (accepted_numbers more) =
    ap (λ (l : List ℕ). length l) (flat_map-append accepted_number past more) ∙ length-append (accepted_numbers past) (accepted_numbers more) in
    omega (arith, all)

own_node : (command n : ℕ) → Has (node_at command (Accepted command n)) n
own_node command n = subst (λ (b : Bool). Has (if b then n ∷ [] else []) n) (sym (eq-eqb command command refl)) (inl refl)

-- its number is above those before, and it is entered for that node
pub record WasAccepted (n command : ℕ) (past told : List Entry) : Type 0 where
  pub later : length (accepted_numbers past) + 1 ≤ command
  pub node : Has (nodes_accepted command told) n

pub accepted_at : (n command : ℕ) (past told : List Entry) → EachAfter MayStand past told → Has (shown (accepted_for n) told) command → WasAccepted n command past told
accepted_at n command past [] stand has = absurd has
accepted_at n command past (entry ∷ told) stand has =
    by (has_either (accepted_for n entry) (shown (accepted_for n) told) command has) (λ later. accepted_at n command (past ++ entry ∷ []) told stand.1 later)
  where
    here : Has (accepted_for n entry) command → WasAccepted n command past (entry ∷ told)
    here own =
        let is : entry ≡ Accepted command n = is_accepted n command entry own in
        let number : command ≡ length (accepted_numbers past) + 1 = (subst (MayStand past) is stand.0).accept in
        record {
          later = omega (arith, number);
          node = has_left (node_at command entry) (nodes_accepted command told) n (subst (λ (e : Entry). Has (node_at command e) n) (sym is) (own_node command n));
        }

    there : WasAccepted n command (past ++ entry ∷ []) told → WasAccepted n command past (entry ∷ told)
    there was =
        let more = numbers_grow past (entry ∷ []) in
        let above = was.later in
        record { later = omega (arith, more, above); node = has_right (node_at command entry) (nodes_accepted command told) n was.node }

    by : Has (accepted_for n entry) command ⊎ Has (shown (accepted_for n) told) command → (Has (shown (accepted_for n) told) command → WasAccepted n command (past ++ entry ∷ []) told) → WasAccepted n command past (entry ∷ told)
    by (inl own) rest = here own
    by (inr later) rest = there (rest later)

-- so the table has it
pub record IsInTable (n command : ℕ) (commands : List Command) : Type 0 where
  pub found : Command
  pub is : command_at commands command ≡ Some found
  pub node : found.order.node ≡ n

in_table : (n command : ℕ) (commands : List Command) → Has (nodes_by (command_at commands command)) n → IsInTable n command commands
in_table n command commands has = by (command_at commands command) refl has
  where
    by : (o : Option Command) → command_at commands command ≡ o → Has (nodes_by o) n → IsInTable n command commands
    by None is none = absurd none
    by (Some found) is (inl same) = record { found = found; is = is; node = same }
    by (Some found) is (inr none) = absurd none

pub table_has : (n command : ℕ) (past told : List Entry) (h : HostState) → Facts (past ++ told) h → Has (shown (accepted_for n) told) command
    → (length (accepted_numbers past) + 1 ≤ command) × IsInTable n command h.commands
table_has n command past told h facts has =
    let was = accepted_at n command past told (each-right MayStand [] past told facts.stand) has in
    let nodes : nodes_accepted command (past ++ told) ≡ nodes_accepted command past ++ nodes_accepted command told = flat_map-append (node_at command) past told in
    let there : Has (nodes_accepted command (past ++ told)) n = subst (λ (l : List ℕ). Has l n) (sym nodes) (has_right (nodes_accepted command past) (nodes_accepted command told) n was.node) in
    (was.later, in_table n command h.commands (subst (λ (l : List ℕ). Has l n) (facts.accepted.nodes command) there))

-- ---- a session that is past

-- numbers that rise are apart
apart_at : (numbers : List ℕ) (place other number : ℕ) → Rises numbers → slice_get numbers place ≡ Some number → slice_get numbers other ≡ Some number → place < other → ⊥
apart_at [] place other number rise one two less = absurd (let no : None ≡ Some number = one in cc)
apart_at (first ∷ numbers) place zero number rise one two less = absurd (omega (arith, less))
apart_at (first ∷ numbers) zero (suc other) number rise one two less =
    let is : first ≡ number = cc in
    let above : first < number = all-get (λ (later : ℕ). first < later) numbers other number rise.0 two in
    absurd (omega (arith, is, above))
apart_at (first ∷ numbers) (suc place) (suc other) number rise one two less = apart_at numbers place other number rise.1 one two (omega (arith, less))

apart_sessions : (commands : List ℕ) (session last number : ℕ) → Rises commands → command_of_session commands session ≡ Some number → command_of_session commands last ≡ Some number → session < last → ⊥
apart_sessions commands zero last number rise one two less = absurd (let no : None ≡ Some number = one in cc)
apart_sessions commands (suc place) zero number rise one two less = absurd (omega (arith, less))
apart_sessions commands (suc place) (suc other) number rise one two less = apart_at commands place other number rise one two (omega (arith, less))

begun_all : (P : ℕ → Type 0) (commands : List ℕ) (session number : ℕ) → AllByRecursion P commands → command_of_session commands session ≡ Some number → P number
begun_all P commands zero number all is = absurd (let no : None ≡ Some number = is in cc)
begun_all P commands (suc place) number all is = all-get P commands place number all is

-- it is not the one that is open
not_open : (x : NodeState) (session number : ℕ) → Rises x.book.commands → command_of_session x.book.commands session ≡ Some number → IsPast session x.book → open_command x ≡ Some number → ⊥
not_open x session number rise was past opened = by (open_session x.book) refl past
  where
    by : (o : Option ℕ) → open_session x.book ≡ o → IsPast session x.book → ⊥
    by None none over = absurd (let no : None ≡ Some number = sym (ap (λ (o : Option ℕ). command_by x o) none) ∙ opened in cc)
    by (Some last) is (inr (same, none)) = absurd (let no : Some last ≡ None = sym is ∙ none in cc)
    by (Some last) is (inl more) =
        let begun : begun_of x.book ≡ last = begun_is x.book last is in
        let other : command_of_session x.book.commands last ≡ Some number = sym (ap (λ (o : Option ℕ). command_by x o) is) ∙ opened in
        apart_sessions x.book.commands session last number rise was other (omega (arith, more, begun))

final_recorded : (o : Outcome) → IsFinal o → IsFinal (recorded o)
final_recorded Success is = tt
final_recorded Fail is = tt
final_recorded NoSupport is = tt
final_recorded o is = absurd is

recorded_final : (o : Outcome) → IsFinal (recorded o) → is_final o ≡ true
recorded_final Success is = refl
recorded_final Fail is = refl
recorded_final NoSupport is = refl
recorded_final Unanswered is = absurd is
recorded_final o is = absurd is

pub ended_final : (n command : ℕ) (past : List Entry) (h : HostState) → Facts past h → HasEnded command (node_of h n).book → is_final (outcome command past) ≡ true
ended_final n command past h facts ended =
    let x : NodeState = node_of h n in
    let order : AreInOrder h.commands x.book.commands x.waiting (open_command x) = facts.in_order n in
    let rise : Rises x.book.commands = rises-left x.book.commands x.waiting order.rise in
    let final : IsFinal (outcome_in h.commands command) =
    begun_all (λ (number : ℕ). (open_command x ≡ Some number → ⊥) → IsFinal (outcome_in h.commands number)) x.book.commands ended.session command order.ended ended.was (not_open x ended.session command rise ended.was ended.past) in
    recorded_final (outcome command past) (subst IsFinal (sym (facts.entered command)) (final_recorded (outcome_in h.commands command) final))

-- ---- a command that waits, where no session of its node is open, or the series of the one that is open is over

-- the last of numbers
last_at : (numbers : List ℕ) → 1 ≤ length numbers → (number : ℕ) × ((last_of numbers ≡ number ∷ []) × (command_of_session numbers (length numbers) ≡ Some number))
last_at [] some = absurd (omega (arith, some))
last_at (number ∷ []) some = (number, (refl, refl))
last_at (first ∷ second ∷ numbers) some =
    let rest = last_at (second ∷ numbers) (omega arith) in
    let one : length (first ∷ second ∷ numbers) - 1 ≡ suc (length (second ∷ numbers) - 1) = omega arith in
    (rest.0, (ap (λ (k : ℕ). drop k (first ∷ second ∷ numbers)) one ∙ rest.1.0, rest.1.1))

begun_recorded : (o : Outcome) → IsUnderWay o → recorded o ≡ Begun
begun_recorded Begun way = refl
begun_recorded Unanswered way = refl
begun_recorded o way = absurd way

not_final : (o : Outcome) → recorded o ≡ Begun → is_final o ≡ false
not_final Success is = absurd cc
not_final Fail is = absurd cc
not_final NoSupport is = absurd cc
not_final o is = refl

none_open : (n : ℕ) (past : List Entry) (h : HostState) → Facts past h → is_open n past ≡ false → open_session (node_of h n).book ≡ None
none_open n past h facts closed = by (open_session (node_of h n).book) refl
  where
    by : (o : Option ℕ) → open_session (node_of h n).book ≡ o → open_session (node_of h n).book ≡ None
    by None is = is
    by (Some session) is =
        let book : HostBook = (node_of h n).book in
        let last = last_at book.commands (some_by book.commands book.outcome book.attempts (ap (λ (o : Option ℕ). is_some o) is)) in
        let at : command_of_session book.commands session ≡ Some last.0 = subst (λ (k : ℕ). command_of_session book.commands k ≡ Some last.0) (begun_is book session is) last.1.1 in
        let way = (facts.in_order n).under_way last.0 (ap (λ (o : Option ℕ). command_by (node_of h n) o) is ∙ at) in
        let open_still : is_final (outcome last.0 past) ≡ false = not_final (outcome last.0 past) (facts.entered last.0 ∙ begun_recorded (outcome_in h.commands last.0) way) in
        let yes : is_open n past ≡ true =
        ap (λ (l : List ℕ). list_any (λ (c : ℕ). not (is_final (outcome c past))) (last_of l)) (facts.begun n) ∙ ap (λ (l : List ℕ). list_any (λ (c : ℕ). not (is_final (outcome c past))) l) last.1.0
        ∙ ap (λ (b : Bool). not b || false) open_still in
        absurd (let wrong : true ≡ false = sym yes ∙ closed in cc)

stands_in : (numbers : List ℕ) (number : ℕ) → Has numbers number → (place : ℕ) × ((place + 1 ≤ length numbers) × StandsAt number place numbers)
stands_in [] number has = absurd has
stands_in (first ∷ numbers) number (inl same) = (0, (omega arith, record { before = []; behind = numbers; are = ap (λ (k : ℕ). k ∷ numbers) same; place_is = refl }))
stands_in (first ∷ numbers) number (inr has) =
    let rest = stands_in numbers number has in
    let within = rest.1.0 in
    let at = rest.1.1 in
    (suc rest.0, (omega (arith, within), record { before = first ∷ at.before; behind = at.behind; are = ap (λ (l : List ℕ). first ∷ l) at.are; place_is = ap suc at.place_is }))

waiting_recorded : (o : Outcome) → is_waiting (recorded o) ≡ is_waiting o
waiting_recorded Waiting = refl
waiting_recorded o = refl

pub waiting_is : (n : ℕ) (past : List Entry) (h : HostState) → Facts past h → numbers_of (accepted n past) ≡ numbers_for n past → (node_of h n).waiting ≡ waiting n past
waiting_is n past h facts numbers =
    facts.waiting n ∙ filter_agree (λ (k : ℕ). is_waiting (outcome_in h.commands k)) (λ (k : ℕ). is_waiting (outcome k past))
    (λ k. sym (waiting_recorded (outcome_in h.commands k)) ∙ ap is_waiting (sym (facts.entered k)) ∙ waiting_recorded (outcome k past)) (numbers_for n past)
    ∙ ap (λ (l : List ℕ). filter (λ (k : ℕ). is_waiting (outcome k past)) l) (sym numbers)

-- it stands behind fewer than there are
pub record StandsSoon (n command : ℕ) (h : HostState) : Type 0 where
  pub more : ℕ
  pub within : more + 1 ≤ length (node_of h n).waiting
  pub stands : StandsAt command more (node_of h n).waiting

pub stands_soon : (n command : ℕ) (past : List Entry) (h : HostState) → Facts past h → numbers_of (accepted n past) ≡ numbers_for n past → Has (waiting n past) command → StandsSoon n command h
stands_soon n command past h facts numbers has =
    let at = stands_in (node_of h n).waiting command (subst (λ (l : List ℕ). Has l command) (sym (waiting_is n past h facts numbers)) has) in
    record { more = at.0; within = at.1.0; stands = at.1.1 }

-- so it is in hand
pub record IsInHandSoon (n command : ℕ) (h : HostState) : Type 0 where
  pub more : ℕ
  pub within : more + 1 ≤ length (node_of h n).waiting
  pub hand : IsInHand command more (node_of h n)

pub waiting_soon : (n command : ℕ) (past : List Entry) (h : HostState) → Facts past h → numbers_of (accepted n past) ≡ numbers_for n past → Has (waiting n past) command → is_open n past ≡ false → IsInHandSoon n command h
waiting_soon n command past h facts numbers has closed = let at = stands_soon n command past h facts numbers has in record { more = at.more; within = at.within; hand = Unopened (none_open n past h facts closed) at.stands }

-- or it comes after a session whose series is over, where its wait runs
pub record RestsSoon (n command : ℕ) (h : HostState) : Type 0 where
  pub more : ℕ
  pub within : more + 1 ≤ length (node_of h n).waiting
  pub rests : RestsBefore command more (node_of h n)
  pub wait : (node_of h n).again_wait ≤ 101

rests_before : (x : NodeState) (command more : ℕ) → NodeFacts x → x.again_wait ≢ 0 → StandsAt command more x.waiting → RestsBefore command more x
rests_before x command more facts runs stands = by (open_session x.book) x.series x.again_wait refl refl refl facts.series
  where
    by : (o : Option ℕ) (s : Series) (wait : ℕ) → open_session x.book ≡ o → x.series ≡ s → x.again_wait ≡ wait → SeriesFacts s x.book x.attempt_wait x.again_wait x.next_segment x.segments x.text x.pending → RestsBefore command more x
    by o s zero opened is none so = absurd (runs none)
    by (Some session) series.Idle (suc wait) opened is again so = record { session = session; opened = opened; idle = is; wait = wait; again = again; stands = stands }
    by None series.Idle (suc wait) closed is again so = absurd (runs (so.0.closed closed).1)
    by o series.Due (suc wait) opened is again so = absurd (runs so.1)
    by o series.Running (suc wait) opened is again so = absurd (runs so.1)

pub rests_soon : (n command : ℕ) (past : List Entry) (h : HostState) → Facts past h → numbers_of (accepted n past) ≡ numbers_for n past → Has (waiting n past) command → (node_of h n).again_wait ≢ 0 → RestsSoon n command h
rests_soon n command past h facts numbers has runs =
    let at = stands_soon n command past h facts numbers has in
    let node = facts.host.nodes.facts n in
    record { more = at.more; within = at.within; rests = rests_before (node_of h n) command at.more node runs at.stands; wait = node.again_wait }
