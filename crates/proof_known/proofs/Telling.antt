-- At each step of a host alone the joined nodes are those of lines, and what was heard of each property is what its node reported since the host started.
use Rattle.std.proofs.Common.{◌≡◌, ℕ, ◌<◌, ◌==◌, ◌||◌, Bool, true, false, inl, inr, List, [], ◌∷◌, ◌++◌, length, refl, sym, ap, ◌∙◌, subst, append-nil, append_assoc, arith}
use Rattle.std.specs.Prelude.{Option, Some, None, Result, Ok, Err}
use Rattle.std.specs.List.{AllByRecursion, flat_map, list_any}
use Rattle.std.proofs.lemmas.Bool.{both_ways, cases_eq, eq-eqb, ne_eqb, or_right}
use Rattle.std.proofs.lemmas.Grind.{flat_map-append}
use Rattle.std.proofs.lemmas.List.Folds.{list_any-append}
use Rattle.zw_base.proofs.Each.{all-weaker}
use Rattle.zw_base.specs.declared.property.Property.{Property}
use Rattle.zw_base.specs.declared.property.Setting.{Setting}
use Rattle.s0_crypto.specs.declared.key_pair.Keys.{Keys}
use Rattle.serial_frame.specs.Items.{unit_text}
use Rattle.serial_frame.specs.declared.unit.Unit.TheVariants.{Framed}
use Rattle.zw_words.specs.declared.fault.LineFault.{LineFault}
use Rattle.zw_text.specs.Line.{IsNode, LineText, line_at}
use Rattle.zw_text.specs.declared.line.Line.{Line}
use Rattle.zw_text.specs.declared.line.Line.TheVariants as lines
use Rattle.zw_text.specs.declared.entry.Refusal.{Refusal}
use Rattle.zw_text.specs.declared.entry.Entry.{Entry}
use Rattle.zw_text.specs.declared.entry.Entry.TheVariants as entry
use Rattle.zw_text.specs.Transcript.{Doing, doing_lines, doing_step, join_of, line_of, lines_done, read_as, reported, reported_at}
use Rattle.zw_text.proofs.TextLaws.{line_takes}
use Rattle.zw_text.proofs.Views.{folded-append, shown-append}
use Rattle.proof_transcript.specs.law_transcript.Nodes.{is_joined}
use Rattle.proof_transcript.specs.law_transcript.Restarts.{is_restart, since_restart}
use Rattle.proof_transcript.specs.law_transcript.Stores.{heard_value, last_value}
use Rattle.proof_transcript.specs.law_time.Moments.{Allows}
use Rattle.proof_transcript.specs.law_time.Waking.{may_wake}
use Rattle.host_node.specs.State.{NodeState}
use Rattle.host_node.specs.Steps.{after_join}
use Rattle.host_node.specs.TableState.{node_of as node_at, with_node}
use Rattle.proof_waking.specs.host_model.State.{HostState, first_host}
use Rattle.proof_waking.specs.host_model.Events.{HostEvent, Hears, Joins, IsOwn}
use Rattle.proof_waking.specs.host_model.After.{after}
use Rattle.proof_waking.specs.host_model.Facts.{HostFacts}
use Rattle.proof_waking.specs.host_model.Outs.{answers, outs}
use Rattle.proof_waking.specs.host_model.declared.out.HostOut.{HostOut}
use Rattle.proof_transcript.specs.world_model.State.{Machine}
use Rattle.proof_transcript.specs.world_model.Events as world
use Rattle.proof_transcript.specs.world_model.Events.{Event, OpensFrom, shown_values}
use Rattle.proof_transcript.specs.proof_host.Entries.{notes_of}
use Rattle.proof_transcript.specs.proof_spoken.Restarts.{IsHeld, KeepsWell, StartsWell}
use Rattle.proof_transcript.proofs.FirstMachine.{first_told as first_machine_told}
use Rattle.proof_transcript.proofs.Hosts.{IsNoJoin, LeavesRecords, heard_in, joined_here, joined_in, joined_there}
use Rattle.proof_transcript.proofs.Over.{OneThing, Opens, starts_over}
use Rattle.proof_transcript.proofs.TicksBegun.{event_goes_host, last_append}
use Rattle.proof_waking.specs.proof_alone.State.{HostMachine, with_world}
use Rattle.proof_waking.specs.proof_alone.Steps.{AreTold, AsksNothing, IsAskedBy, IsOfOthers, Step, Tells, Comes, Misses, Says, Says_nothing, Asks, Refuses, Shows, Restarts, Begins_tick, Numbers, Judges, Does, entries, happens}
use Rattle.proof_waking.specs.proof_alone.Phases.{Phase, Resting, Asked, Risen, Ticking, Open, Behind, Sleeping, Submitting, May, Turns}
use Rattle.proof_waking.specs.proof_alone.Runs.{WalkOver}
use Rattle.proof_waking.specs.proof_alone.Tables.{TieTables}
use Rattle.proof_waking.proofs.proof_alone_Apart.{AreOfLine, missed_are}
use Rattle.proof_waking.proofs.InOrder.{asked_puts, is_asked}
use Rattle.proof_waking.specs.Judged.{KnowsJudged}
use Rattle.proof_waking.proofs.Apart.{IsWordless, said_anew, said_in_vain, said_on, wordless_more}
use Rattle.proof_waking.proofs.Followed.{MayFollow}
use Rattle.proof_waking.proofs.Judging.{asked_on, nothing_on}
pub use Rattle.proof_waking.specs.Judged.{IsElse}
pub use Rattle.proof_waking.proofs.Judging.{between_else, by_else}
use Rattle.proof_waking.proofs.Parts.{told_wordless}
use Rattle.proof_waking.proofs.Settling.{may_come, request_follows}
use Rattle.proof_known.specs.Known.{KnowsNodes, KnowsTold, TieTold, ToldBefore}
use Rattle.proof_known.proofs.Listing.{or_none}
use Rattle.proof_known.proofs.Events.{AreAnswers, IsPartOf, answers_are, event_at, told_shown}

-- ---- entries

-- it says no line and refuses none; nor does it report a value
abbrev IsPlain : Entry → Type 0
IsPlain (entry.Report node setting) = ⊥
IsPlain e = IsWordless e

plain_wordless : (e : Entry) → IsPlain e → IsWordless e
plain_wordless (entry.Report node setting) plain = absurd plain
plain_wordless e plain = plain

others_plain : (e : Entry) → IsOfOthers e → IsPlain e
others_plain (entry.Said words) others = absurd others
others_plain (entry.Refused refusal) others = absurd others
others_plain (entry.Report node setting) others = absurd others
others_plain e others = tt

line_plain : AreOfLine IsPlain
line_plain = record { written = λ side text. tt; dropped = λ side. tt; garbled = λ side text. tt; overrun = λ side. tt }

answers_plain : AreAnswers IsPlain
answers_plain = record { accepted = λ command node. tt; taken_back = λ command. tt }

all_wordless : (told : List Entry) → AllByRecursion IsPlain told → AllByRecursion IsWordless told
all_wordless told all = all-weaker IsPlain IsWordless plain_wordless told all

-- ---- what is reported

plain_reports : (node : ℕ) (told : List Entry) → AllByRecursion IsPlain told → reported node told ≡ []
plain_reports node [] all = refl
plain_reports node (entry.Report n setting ∷ told) all = absurd all.0
plain_reports node (e ∷ told) all = plain_reports node told all.1

line_reports : (node : ℕ) → AreOfLine (λ e. reported_at node e ≡ [])
line_reports node = record { written = λ side text. refl; dropped = λ side. refl; garbled = λ side text. refl; overrun = λ side. refl }

-- how what was heard grows
grown : (start told : List Entry) (node : ℕ) (p : Property) → last_value None (reported node (start ++ told)) p ≡ last_value (last_value None (reported node start) p) (reported node told) p
grown start told node p = ap (λ (l : List Setting). last_value None l p) (shown-append (reported_at node) start told) ∙ last_append None (reported node start) (reported node told) p

since : (past : List Entry) (start : List Entry) → since_restart past ≡ start → (node : ℕ) (p : Property) → heard_value past node p ≡ last_value None (reported node start) p
since past start is node p = ap (λ (l : List Entry). last_value None (reported node l) p) is

-- ---- nodes that joined

abbrev nothing_done : Doing
nothing_done = record { earlier = []; last = [] }

done_one : (past : List Entry) (e : Entry) → IsWordless e → lines_done (past ++ e ∷ []) ≡ lines_done past
done_one past (entry.Said words) none = absurd none
done_one past (entry.Refused refusal) none = absurd none
done_one past e none = ap doing_lines (folded-append doing_step nothing_done past (e ∷ [])) ∙ append-nil (lines_done past)

pub done_more : (past told : List Entry) → AllByRecursion IsWordless told → lines_done (past ++ told) ≡ lines_done past
done_more past [] all = ap lines_done (append-nil past)
done_more past (e ∷ told) all = ap lines_done (sym (append_assoc past (e ∷ []) told)) ∙ done_more (past ++ e ∷ []) told all.1 ∙ done_one past e all.0

abbrev among : ℕ → List Line → Bool
among node done = list_any (λ one. one == node) (2 ∷ flat_map join_of done)

joined_more : (past told : List Entry) (node : ℕ) → AllByRecursion IsWordless told → is_joined (past ++ told) node ≡ is_joined past node
joined_more past told node all = ap (among node) (done_more past told all)

-- words that no node joins by; and those that were refused
joined_said : (past : List Entry) (words : List ℕ) (node : ℕ) → flat_map join_of (line_of (entry.Said words)) ≡ [] → is_joined (past ++ entry.Said words ∷ []) node ≡ is_joined past node
joined_said past words node none =
    ap (among node) (ap doing_lines (folded-append doing_step nothing_done past (entry.Said words ∷ [])))
    ∙ ap (λ (l : List ℕ). list_any (λ one. one == node) (2 ∷ l))
    (flat_map-append join_of (lines_done past) (line_of (entry.Said words)) ∙ ap (λ (l : List ℕ). flat_map join_of (lines_done past) ++ l) none ∙ append-nil (flat_map join_of (lines_done past)))

joined_refused : (past : List Entry) (words : List ℕ) (refusal : Refusal) (node : ℕ) → is_joined (past ++ entry.Said words ∷ (entry.Refused refusal ∷ [])) node ≡ is_joined past node
joined_refused past words refusal node =
    ap (among node) (ap doing_lines (folded-append doing_step nothing_done past (entry.Said words ∷ (entry.Refused refusal ∷ []))) ∙ append-nil (lines_done past))

-- the words of a `join`
joined_by : (past : List Entry) (words : List ℕ) (n node : ℕ) → line_of (entry.Said words) ≡ lines.Join n ∷ [] → is_joined (past ++ entry.Said words ∷ []) node ≡ is_joined past node || n == node
joined_by past words n node read =
    ap (among node) (ap doing_lines (folded-append doing_step nothing_done past (entry.Said words ∷ [])) ∙ ap (λ (l : List Line). lines_done past ++ l) read)
    ∙ ap (λ (l : List ℕ). list_any (λ one. one == node) (2 ∷ l)) (flat_map-append join_of (lines_done past) (lines.Join n ∷ []))
    ∙ list_any-append (λ one. one == node) (2 ∷ flat_map join_of (lines_done past)) (n ∷ []) ∙ ap (λ (b : Bool). is_joined past node || b) (or_false (n == node))
  where
    or_false : (b : Bool) → b || false ≡ b
    or_false true = refl
    or_false false = refl

-- ---- the tie

-- after entries of which none says or refuses a line
more_told : (past told : List Entry) (h later : HostState) → AllByRecursion IsWordless told → ((node : ℕ) → joined_in later.nodes node ≡ joined_in h.nodes node)
    → ((node : ℕ) (p : Property) → heard_in later.store node p ≡ last_value (heard_in h.store node p) (reported node told) p) → TieTold past h → TieTold (past ++ told) later
more_told past told h later all joins grows tie = record {
  joined = λ node. joins node ∙ tie.joined node ∙ sym (joined_more past told node all);
  heard = λ node p. grows node p ∙ ap (λ (o : Option ℕ). last_value o (reported node told) p) (tie.heard node p)
      ∙ sym (since (past ++ told) (since_restart past ++ told) (wordless_more past told all) node p ∙ grown (since_restart past) told node p);
}

quiet_told : (past told : List Entry) (h : HostState) → AllByRecursion IsPlain told → TieTold past h → TieTold (past ++ told) h
quiet_told past told h all tie =
    more_told past told h h (all_wordless told all) (λ node. refl) (λ node p. sym (ap (λ (l : List Setting). last_value (heard_in h.store node p) l p) (plain_reports node told all))) tie

-- words that do not start the host again, by which no node joins; and those that were refused
said_told : (past : List Entry) (words : List ℕ) (h : HostState) → is_restart (line_of (entry.Said words)) ≡ false → flat_map join_of (line_of (entry.Said words)) ≡ [] → TieTold past h
    → TieTold (past ++ entry.Said words ∷ []) h
said_told past words h goes_on none tie = record {
  joined = λ node. tie.joined node ∙ sym (joined_said past words node none);
  heard = λ node p. tie.heard node p
      ∙ sym (since (past ++ entry.Said words ∷ []) (since_restart past ++ entry.Said words ∷ []) (said_on past words goes_on) node p ∙ grown (since_restart past) (entry.Said words ∷ []) node p);
}

refused_told : (past : List Entry) (words : List ℕ) (refusal : Refusal) (h : HostState) → TieTold past h → TieTold (past ++ entry.Said words ∷ (entry.Refused refusal ∷ [])) h
refused_told past words refusal h tie =
    let told : List Entry = entry.Said words ∷ (entry.Refused refusal ∷ []) in
    record {
      joined = λ node. tie.joined node ∙ sym (joined_refused past words refusal node);
      heard = λ node p. tie.heard node p ∙ sym (since (past ++ told) (since_restart past ++ told) (said_in_vain past words refusal) node p ∙ grown (since_restart past) told node p);
    }

-- ---- lines

-- words that stand last, by which no node joins and no host starts again
pub after_words : (line : Line) (past : List Entry) (h : HostState) → is_restart (line ∷ []) ≡ false → join_of line ≡ [] → ToldBefore line past h → TieTold past h
after_words line past h goes_on none known =
    subst (λ (l : List Entry). TieTold l h) (sym known.are)
    (said_told known.before known.words h (ap is_restart known.read ∙ goes_on)
    (ap (λ (l : List Line). flat_map join_of l) known.read ∙ append-nil (join_of line) ∙ none) known.told)

-- the node of a `join` line is in range
pub read_join : (words : List ℕ) (n : ℕ) (read : Result (Option Line) LineFault) → line_at words ≡ read → read_as read ≡ lines.Join n ∷ [] → IsNode 1 n
read_join words n (Ok (Some line)) is are =
    let same : line ≡ lines.Join n = cc in
    let text : LineText words (lines.Join n) = line_takes words (Some (lines.Join n)) (subst (λ (l : Line). line_at words ≡ Ok (Some l)) same is) in
    text.stands.0
read_join words n (Ok None) is are = absurd (let bad : [] ≡ lines.Join n ∷ [] = are in cc)
read_join words n (Err fault) is are = absurd (let bad : [] ≡ lines.Join n ∷ [] = are in cc)

-- a node joins
join_told : (n : ℕ) (past : List Entry) (h : HostState) → length h.nodes ≡ 233 → ToldBefore (lines.Join n) past h → TieTold past (after h (Joins n))
join_told n past h places known =
    let range : IsNode 1 n = read_join known.words n (line_at known.words) refl known.read in
    let state : NodeState = after_join (node_at h.nodes n) in
    let within : n < length h.nodes = omega (arith, range, places) in
    subst (λ (l : List Entry). TieTold l (after h (Joins n))) (sym known.are) (record {
      joined = λ node. elim (cases_eq node n) [
        | inl same ↦
            subst (λ (k : ℕ). joined_in (with_node h.nodes n state) k ≡ is_joined (known.before ++ entry.Said known.words ∷ []) k) (sym same)
            (joined_here h.nodes n state within
            ∙ sym (joined_by known.before known.words n n known.read ∙ or_right (is_joined known.before n) (n == n) (eq-eqb n n refl)))
        | inr other ↦
            joined_there h.nodes n state node other ∙ known.told.joined node
            ∙ sym (joined_by known.before known.words n node known.read ∙ or_none (is_joined known.before node) (n == node) (ne_eqb n node (λ same. other (sym same))))
      ];
      heard = λ node p. known.told.heard node p
          ∙ sym (since (known.before ++ entry.Said known.words ∷ []) (since_restart known.before ++ entry.Said known.words ∷ []) (said_on known.before known.words (ap is_restart known.read)) node p
          ∙ grown (since_restart known.before) (entry.Said known.words ∷ []) node p);
    })

refuses_told : (line : Line) (past : List Entry) (h : HostState) (refusal : Refusal) → ToldBefore line past h → TieTold (past ++ entry.Refused refusal ∷ []) h
refuses_told line past h refusal known =
    let e : Entry = entry.Refused refusal in
    subst (λ (l : List Entry). TieTold (l ++ e ∷ []) h) (sym known.are)
    (subst (λ (l : List Entry). TieTold l h) (sym (append_assoc known.before (entry.Said known.words ∷ []) (e ∷ []))) (refused_told known.before known.words refusal h known.told))

nothing_joins : (line : Line) → AsksNothing line → join_of line ≡ []
nothing_joins (lines.Join node) nothing = absurd nothing
nothing_joins line nothing = refl

-- at first node 2 is joined, and nothing was heard
pub first_told : (keys : Keys) → TieTold [] (first_host keys)
first_told keys = let first = first_machine_told keys None [] in record { joined = first.are_joined; heard = first.heard }

-- ---- phases

pub rest_of : (here : Phase) (past : List Entry) (m : HostMachine) → IsElse here → KnowsTold here past m → TieTold past m.state
rest_of (Asked line) past m other known = absurd other
rest_of here past m other known = known

of_rest : (here : Phase) (past : List Entry) (m : HostMachine) → IsElse here → TieTold past m.state → KnowsTold here past m
of_rest (Asked line) past m other rest = absurd other
of_rest here past m other rest = rest

leads_to : (next to : Phase) (past : List Entry) (m : HostMachine) → IsElse to → next ≡ to → TieTold past m.state → KnowsTold next past m
leads_to next to past m other is rest = subst (λ (p : Phase). KnowsTold p past m) (sym is) (of_rest to past m other rest)

-- while the number of a tick is to be entered no words of a line stand last
pub numbered_else : (here : Phase) (past : List Entry) (m : HostMachine) → m.awaits ≡ true → KnowsJudged here past m → IsElse here
numbered_else (Asked line) past m awaits judged = absurd (both_ways m.awaits judged.unnumbered awaits)
numbered_else here past m awaits judged = tt

-- ---- which events let no node join

own_joins : (event : HostEvent) → IsOwn event → IsNoJoin event
own_joins (Joins node) own = absurd own
own_joins event own = tt

follow_joins : (unit : List ℕ) (event : HostEvent) → MayFollow unit event → IsNoJoin event
follow_joins unit (Joins node) may = absurd may
follow_joins unit event may = tt

part_joins : (past : List Entry) (m : HostMachine) (event : HostEvent) → IsPartOf past m event → IsNoJoin event
part_joins past m event (inl own) = own_joins event own
part_joins past m event (inr (inl of_it)) = follow_joins [] event (request_follows [] event of_it)
part_joins past m event (inr (inr (left, behind))) = follow_joins (unit_text (Framed behind.frame.frame)) event (may_come past left event behind.frame)

module _ (law : LeavesRecords) (one : OneThing) (opens : Opens)
    (goes_on : (m : Machine) (event : Event) → HostFacts m.host.state → IsHeld m.host.state m.records → world.May m event → KeepsWell m event
    → StartsWell m event × IsHeld (world.happens m event).host.state (world.happens m event).records) where
  event_told : (past told : List Entry) (h : HostState) (event : HostEvent) → IsNoJoin event → AreTold (outs h event) told → TieTold past h → TieTold (past ++ told) (after h event)
  event_told past told h event none are tie =
      let goes = event_goes_host law h event none in
      more_told past told h (after h event) (told_wordless h event told are) goes.joined
      (λ node p. goes.heard node p ∙ ap (λ (l : List Setting). last_value (heard_in h.store node p) l p) (sym (told_shown (reported_at node) (line_reports node) (outs h event) told are))) tie

  -- what a line asks for, by which no node joins
  asked_told : (line : Line) (past : List Entry) (h : HostState) (event : HostEvent) → IsAskedBy line h event → join_of line ≡ [] → IsNoJoin event → ToldBefore line past h
      → TieTold (past ++ answers h event) (after h event)
  asked_told line past h event is none joins known =
      let goes = event_goes_host law h event joins in
      let all = answers_are IsPlain answers_plain h event in
      more_told past (answers h event) h (after h event) (all_wordless (answers h event) all) goes.joined
      (λ node p. goes.heard node p ∙ ap (λ (l : List HostOut). last_value (heard_in h.store node p) (reported node (notes_of l)) p) (asked_puts h event (is_asked line h event is))
      ∙ sym (ap (λ (l : List Setting). last_value (heard_in h.store node p) l p) (plain_reports node (answers h event) all)))
      (after_words line past h (asked_on line h event is) none known)

  asked_so : (line : Line) (past : List Entry) (h : HostState) (event these : HostEvent) → event ≡ these → IsAskedBy line h these → join_of line ≡ [] → IsNoJoin these → ToldBefore line past h
      → TieTold (past ++ answers h event) (after h event)
  asked_so line past h event these is asked none joins known =
      subst (λ (e : HostEvent). TieTold (past ++ answers h e) (after h e)) (sym is) (asked_told line past h these asked none joins known)

  asks_told : (line : Line) (past : List Entry) (h : HostState) (event : HostEvent) → length h.nodes ≡ 233 → IsAskedBy line h event → ToldBefore line past h
      → TieTold (past ++ answers h event) (after h event)
  asks_told (lines.Join node) past h event places is known =
      subst (λ (e : HostEvent). TieTold (past ++ answers h e) (after h e)) (sym is)
      (subst (λ (l : List Entry). TieTold l (after h (Joins node))) (sym (append-nil past)) (join_told node past h places known))
  asks_told (lines.Command order) past h event places is known = asked_so (lines.Command order) past h event _ is refl refl tt known
  asks_told (lines.Send node word) past h event places is known = asked_so (lines.Send node word) past h event _ is.1 (is.0, refl) refl tt known
  asks_told (lines.Get node end) past h event places is known = asked_so (lines.Get node end) past h event _ is.1 (is.0, refl) refl tt known
  asks_told (lines.Interview node) past h event places is known = asked_so (lines.Interview node) past h event _ is.1 (is.0, refl) refl tt known
  asks_told (lines.Cancel command) past h event places is known = asked_so (lines.Cancel command) past h event _ is refl refl tt known
  asks_told lines.Discover past h event places is known = asked_so lines.Discover past h event _ is.1 (is.0, refl) refl tt known
  asks_told (lines.Neighbours node) past h event places is known = asked_so (lines.Neighbours node) past h event _ is.1 (is.0, refl) refl tt known
  asks_told (lines.Failed node) past h event places is known = asked_so (lines.Failed node) past h event _ is.1 (is.0, refl) refl tt known
  asks_told lines.Probe past h event places is known = asked_so lines.Probe past h event _ is.1 (is.0, refl) refl tt known
  asks_told line past h event places is known = absurd is

  -- a host that starts from the records has the joined nodes of the one before, and has heard nothing
  restarts_told : (past : List Entry) (m : HostMachine) (state : HostState) → TieTables past m.state m.records → OpensFrom m.keys m.records state → ToldBefore lines.Restart past m.state
      → TieTold (past ++ []) state
  unfolding world.happens world.May
  restarts_told past m state tie from known =
      let got = goes_on (with_world m) (world.Restarts state) tie.facts.host tie.held from tie.told in
      let over = starts_over one opens m.keys m.state state m.records tie.told tie.held got.1 from in
      subst (λ (l : List Entry). TieTold l state) (sym (append-nil past)) (record {
        joined = λ node. over.joined node ∙ known.told.joined node
            ∙ sym (ap (λ (l : List Entry). is_joined l node) known.are ∙ joined_said known.before known.words node (ap (λ (l : List Line). flat_map join_of l) known.read));
        heard = λ node p. over.unheard node p ∙ sym (since past [] (ap since_restart known.are ∙ said_anew known.before known.words (ap is_restart known.read)) node p);
      })

  -- ---- the walk

  as_known : (here is : Phase) (past : List Entry) (m : HostMachine) → here ≡ is → KnowsTold here past m → KnowsTold is past m
  as_known here is past m same known = subst (λ (p : Phase). KnowsTold p past m) same known

  plain_goes : (here next : Phase) (past : List Entry) (m : HostMachine) (one : Step) → IsElse here → next ≡ here → (happens m one).state ≡ m.state → AllByRecursion IsPlain (entries m one)
      → KnowsTold here past m → KnowsTold next (past ++ entries m one) (happens m one)
  plain_goes here next past m one other is same all known =
      leads_to next here (past ++ entries m one) (happens m one) other is
      (subst (λ (h : HostState). TieTold (past ++ entries m one) h) (sym same) (quiet_told past (entries m one) m.state all (rest_of here past m other known)))

  step_goes : (here next : Phase) (past : List Entry) (m : HostMachine) (one : Step) → May here m one next → TieTables past m.state m.records → KnowsJudged here past m → KnowsTold here past m
      → KnowsTold next (past ++ entries m one) (happens m one)
  step_goes here next past m (Tells e) may tie judged known = plain_goes here next past m (Tells e) (between_else here may.0) may.3 refl (others_plain e may.1, tt) known
  step_goes here next past m (Comes unit) may tie judged known = plain_goes here next past m (Comes unit) (between_else here may.0) may.2 refl (tt, tt) known
  step_goes here next past m (Misses text marks) may tie judged known =
      plain_goes here next past m (Misses text marks) (between_else here may.0) may.3 refl (tt, missed_are IsPlain line_plain marks may.1) known
  step_goes here next past m (Says words line) may tie judged known =
      subst (λ (p : Phase). KnowsTold p (past ++ entry.Said words ∷ []) (happens m (Says words line))) (sym may.3)
      (record { before = past; words = words; are = refl; read = may.2; told = rest_of Resting past m tt (as_known here Resting past m may.0 known) })
  step_goes here next past m (Says_nothing words) may tie judged known =
      leads_to next Resting (past ++ entry.Said words ∷ []) (happens m (Says_nothing words)) tt (may.3 ∙ may.0)
      (said_told past words m.state (ap is_restart may.2) (ap (λ (l : List Line). flat_map join_of l) may.2) (rest_of Resting past m tt (as_known here Resting past m may.0 known)))
  step_goes here next past m (Asks event) (line, here_is, is, may, numbered, next_is) tie judged known =
      leads_to next Open (past ++ answers m.state event) (happens m (Asks event)) tt next_is
      (asks_told line past m.state event tie.facts.host.nodes.places is (as_known here (Asked line) past m here_is known))
  step_goes here next past m (Refuses refusal) (line, here_is, why, numbered, next_is) tie judged known =
      leads_to next Open (past ++ entry.Refused refusal ∷ []) (happens m (Refuses refusal)) tt next_is
      (refuses_told line past m.state refusal (as_known here (Asked line) past m here_is known))
  step_goes here next past m (Shows node) may tie judged known =
      leads_to next Open (past ++ shown_values m.state node ∷ []) (happens m (Shows node)) tt may.2
      (quiet_told past (shown_values m.state node ∷ []) m.state (tt, tt)
      (after_words (lines.Store node) past m.state refl refl (as_known here (Asked (lines.Store node)) past m may.0 known)))
  step_goes here next past m (Restarts state) may tie judged known =
      leads_to next Open (past ++ []) (happens m (Restarts state)) tt may.2 (restarts_told past m state tie may.1 (as_known here (Asked lines.Restart) past m may.0 known))
  step_goes here next past m (Begins_tick left) may tie judged known =
      leads_to next Risen (past ++ []) (happens m (Begins_tick left)) tt may.2
      (subst (λ (l : List Entry). TieTold l m.state) (sym (append-nil past)) (rest_of Resting past m tt (as_known here Resting past m may.0 known)))
  step_goes here next past m Numbers may tie judged known = plain_goes here next past m Numbers (numbered_else here past m may.0 judged) may.1 refl (tt, tt) known
  step_goes here next past m (Judges item rest behind told) may tie judged known =
      leads_to next (Behind behind) (past ++ told) (happens m (Judges item rest behind told)) tt may.2
      (event_told past told m.state (Hears item) tt may.1.told_so (rest_of Open past m tt (as_known here Open past m may.0 known)))
  step_goes here next past m (Does event told) may tie judged known =
      let else_so = by_else here next m.state event may.0 in
      of_rest next (past ++ told) (happens m (Does event told)) else_so.1
      (event_told past told m.state event (part_joins past m event (event_at here next past m event told may judged)) may.2 (rest_of here past m else_so.0 known))

  turn_goes : (here next : Phase) (past : List Entry) (m : HostMachine) → Turns here m next → KnowsTold here past m → KnowsTold next past m
  turn_goes Resting next past m is known = leads_to next Open past m tt is known
  turn_goes (Asked line) next past m (inl (nothing, is)) known = leads_to next Open past m tt is (after_words line past m.state (nothing_on line nothing) (nothing_joins line nothing) known)
  turn_goes (Asked line) next past m (inr (ticks, line_is, is)) known =
      leads_to next Resting past m tt is (after_words line past m.state (ap (λ (l : Line). is_restart (l ∷ [])) line_is) (ap join_of line_is) known)
  turn_goes Risen next past m is known = leads_to next (Ticking _) past m tt is known
  turn_goes (Ticking []) next past m is known = leads_to next Open past m tt is known
  turn_goes (Ticking (event ∷ left)) next past m is known = absurd is
  turn_goes Open next past m is known = leads_to next Sleeping past m tt is known
  turn_goes (Behind []) next past m is known = leads_to next Open past m tt is known
  turn_goes (Behind (event ∷ left)) next past m is known = absurd is
  turn_goes Sleeping next past m is known = leads_to next Submitting past m tt is.1 known
  turn_goes Submitting next past m is known = leads_to next Resting past m tt is.1 known

  pub told_walk : WalkOver KnowsNodes (Allows may_wake) (Allows may_wake) KnowsTold
  told_walk = record {
    step = λ here next past m one may ground stand known. (stand, step_goes here next past m one may ground.0.0.0 ground.0.1 known);
    turn = λ here next past m turns ground known. turn_goes here next past m turns known;
  }
