-- At each step of a host alone what waits to be asked can be read.
use Rattle.std.proofs.Common.{◌≡◌, ℕ, false, inl, inr, List, [], ◌∷◌, ◌++◌, refl, sym, ap, ◌∙◌, subst}
use Rattle.std.specs.Prelude.{Option, Some, None, IsSome, Result, Ok, Err}
use Rattle.zw_words.specs.declared.fault.LineFault.{LineFault}
use Rattle.zw_text.specs.declared.line.Line.{Line}
use Rattle.zw_text.specs.declared.line.Line.TheVariants as lines
use Rattle.zw_text.specs.declared.entry.Entry.{Entry}
use Rattle.zw_text.specs.declared.entry.Entry.TheVariants as entry
use Rattle.zw_text.specs.Line.{LineWords, line_at}
use Rattle.zw_text.specs.Transcript.{line_of, read_as}
use Rattle.zw_text.proofs.TextLaws.{line_takes}
use Rattle.s0_crypto.specs.declared.key_pair.Keys.{Keys}
use Rattle.serial_link.specs.State.{Side}
use Rattle.supervision.specs.Host.{command_at as command_of_session}
use Rattle.host_keep.specs.declared.final_status.FinalStatus.{FinalStatus}
use Rattle.host_keep.specs.declared.record.Record.{Record}
use Rattle.host_keep.specs.declared.record.Record.TheVariants.{Final}
use Rattle.s0_crypto.proofs.SealingLemmas.{sealed_is}
use Rattle.host_orders.specs.Refusals.{classes_of}
use Rattle.host_node.specs.State.{SealsText, ends_to}
use Rattle.host_node.specs.declared.attempt.Plan.TheVariants.{Sealed}
use Rattle.host_requests.specs.State.{RequestsState}
use Rattle.proof_messages.specs.host_model.State.{HostState, first_host, node_of}
use Rattle.proof_messages.specs.host_model.After.{after}
use Rattle.proof_messages.specs.host_model.Did.{MayAll}
use Rattle.proof_messages.specs.host_model.Events.{HostEvent, Hears, Queues_no_more, Starts, Takes_nonce, IsOwn}
use Rattle.proof_messages.specs.host_model.Facts.{HostFacts}
use Rattle.proof_messages.specs.host_model.May.{May as may_event, known_of}
use Rattle.proof_messages.specs.host_model.Opening.{opened, restored_all}
use Rattle.proof_messages.specs.host_model.Restoring.{ending, restored}
use Rattle.proof_messages.proofs.Own.{sleepers_own, submitted_own}
use Rattle.proof_messages.proofs.Submitted.{next_is, no_more_is}
use Rattle.proof_waking.specs.world_model.Events.{OpensFrom}
use Rattle.proof_waking.specs.proof_alone.State.{HostMachine}
use Rattle.proof_waking.specs.proof_alone.Steps.{IsAskedBy, Step, Tells, Comes, Misses, Says, Says_nothing, Asks, Refuses, Shows, Restarts, Begins_tick, Numbers, Judges, Does, entries, happens}
use Rattle.proof_waking.specs.proof_alone.Phases.{Phase, Resting, Asked, Risen, Ticking, Open, Behind, Sleeping, Submitting, May, Turns}
use Rattle.proof_waking.specs.proof_alone.Runs.{WalkOver, both_know}
use Rattle.proof_waking.specs.Judged.{KnowsJudged}
use Rattle.proof_requests.specs.Carrying.{is_errand}
use Rattle.proof_requests.specs.Walking.{AddAt, AddsWell, AreRead, HaveTexts, KnowsCame, KnowsHost, KnowsQueue}
use Rattle.proof_messages.proofs.SealedTexts.{BringsText, TextsLeft, bare_texts, first_bare, has_place, restarting_bare, texts_go}
use Rattle.proof_requests.proofs.Carried.{get_errand, sealed_none, send_errand}
use Rattle.proof_requests.proofs.Doing.{asks_of}
use Rattle.proof_requests.proofs.Queued.{PayloadsBring, behind_adds, event_read, own_adds, wanting_is_node}

-- ---- what a line asks for

line_stands : (words : List ℕ) (line : Line) → line_of (entry.Said words) ≡ line ∷ [] → (rest : List (List ℕ)) × LineWords line rest
line_stands words line is = by (line_at words) refl is
  where
    by : (read : Result (Option Line) LineFault) → line_at words ≡ read → read_as read ≡ line ∷ [] → (rest : List (List ℕ)) × LineWords line rest
    by (Ok (Some found)) reads is =
        let same : found ≡ line = cc in
        let text = line_takes words (Some line) (subst (λ (l : Line). line_at words ≡ Ok (Some l)) same reads) in (text.rest, text.stands)
    by (Ok None) reads is = absurd (let bad : [] ≡ line ∷ [] = is in cc)
    by (Err fault) reads is = absurd (let bad : [] ≡ line ∷ [] = is in cc)

adds_so : (event these : HostEvent) → event ≡ these → AddsWell these → AddsWell event
adds_so event these same adds = subst AddsWell (sym same) adds

may_so : (h : HostState) (event these : HostEvent) → event ≡ these → may_event h event → may_event h these
may_so h event these same may = subst (may_event h) same may

asked_adds : (line : Line) (rest : List (List ℕ)) (h : HostState) (event : HostEvent) → LineWords line rest → IsAskedBy line h event → may_event h event → AddsWell event
asked_adds (lines.Command order) rest h event stands is may = adds_so event _ is tt
asked_adds (lines.Send node word) rest h event stands is may =
    adds_so event _ is.1 ((λ id from to. (stands.0, (may_so h event _ is.1 may).0, from, to)), send_errand (classes_of (known_of (node_of h node))) word)
asked_adds (lines.Get node end) rest h event stands is may =
    adds_so event _ is.1 ((λ id from to. (stands.0, (may_so h event _ is.1 may).0, from, to)), get_errand (classes_of (known_of (node_of h node))) end)
asked_adds (lines.Join node) rest h event stands is may = adds_so event _ is tt
asked_adds (lines.Interview node) rest h event stands is may = adds_so event _ is.1 stands.0
asked_adds (lines.Cancel command) rest h event stands is may = adds_so event _ is tt
asked_adds lines.Discover rest h event stands is may = adds_so event _ is.1 ((λ id from to. tt), tt)
asked_adds (lines.Neighbours node) rest h event stands is may = adds_so event _ is.1 ((λ id from to. stands.0), tt)
asked_adds (lines.Failed node) rest h event stands is may = adds_so event _ is.1 ((λ id from to. stands.0), tt)
asked_adds lines.Probe rest h event stands is may = adds_so event _ is.1 tt
asked_adds line rest h event stands is may = absurd is

-- ---- a host that starts again

ending_asks : (h : HostState) (n session : ℕ) (status : FinalStatus) (command : Option ℕ) → asks_of (ending h n session status command) ≡ asks_of h
ending_asks h n session status None = refl
ending_asks h n session status (Some command) = refl

restored_asks : (h : HostState) (one : Record) → asks_of (restored h one) ≡ asks_of h
restored_asks h (Final n session status) = ending_asks h n session status (command_of_session (node_of h n).book.commands session)
restored_asks h one = refl

all_asks : (h : HostState) (records : List Record) → asks_of (restored_all h records) ≡ asks_of h
unfolding restored_all
all_asks h [] = refl
all_asks h (one ∷ more) = all_asks (restored h one) more ∙ restored_asks h one

-- it asks what a first one asks
pub opened_asks : (keys : Keys) (records : Option (List (List ℕ))) (state : HostState) → IsSome records → OpensFrom keys records state → asks_of state ≡ asks_of (first_host keys)
opened_asks keys None state some opens = absurd cc
opened_asks keys (Some texts) state some (records, are, legal, is) = ap asks_of is ∙ all_asks (first_host keys) records

-- ---- phases

at_phase : (next phase : Phase) (h : HostState) → next ≡ phase → AddAt phase → AreRead h.requests.queue → AreRead h.requests.queue × AddAt next
at_phase next phase h is adds are = (are, subst AddAt (sym is) adds)

-- ---- events

-- ---- sealed texts

text_sealed : (h : HostState) (n : ℕ) (own nonce text : List ℕ) → SealsText (node_of h n) h.keys own nonce text → is_errand text ≡ false
text_sealed h n own nonce text seals =
    ap is_errand (sealed_is h.keys own nonce (ends_to (node_of h n).node) seals.plain text seals.seals) ∙ sealed_none h.keys own nonce (ends_to (node_of h n).node) seals.plain

brings_text : (n : ℕ) (h : HostState) (event : HostEvent) → may_event h event → BringsText (λ text. is_errand text ≡ false) (λ plain. Unit {0}) n event
brings_text n h (Starts m (Sealed plain) more payload) may = λ same. tt
brings_text n h (Takes_nonce m seen text) (nonce, own, count, seals, eight) = λ same. text_sealed h m own nonce text seals
brings_text n h event may = tt

-- a host at first, and one that starts from its records, has none
abbrev IsNone : List ℕ → Type 0
IsNone text = is_errand text ≡ false

abbrev IsAny : List ℕ → Type 0
IsAny plain = Unit {0}

pub first_texts : (keys : Keys) → HaveTexts (first_host keys)
first_texts keys n node = bare_texts IsNone IsAny (node_of (first_host keys) n) (first_bare n)

opened_texts : (keys : Keys) (records : Option (List (List ℕ))) (state : HostState) → IsSome records → OpensFrom keys records state → HaveTexts state
opened_texts keys None state some opens = absurd cc
opened_texts keys (Some texts) state some (records, are, legal, is) = subst HaveTexts (sym is)
    (λ n node. bare_texts IsNone IsAny (node_of (opened keys records) n) (restarting_bare (restored_all (first_host keys) records).nodes n node.0))

module _ (brings : PayloadsBring) (left : TextsLeft) where
  own_goes : (next phase : Phase) (m : HostMachine) (event : HostEvent) → MayAll m.state (event ∷ []) → IsOwn event → AddAt phase → next ≡ phase → AreRead m.state.requests.queue
      → AreRead (after m.state event).requests.queue × AddAt next
  own_goes next phase m event may own adds is are =
      let well : AddsWell event = own_adds event own (λ n same. wanting_is_node m.state.nodes n (may_so m.state event (Queues_no_more n) same may.0).0) in
      at_phase next phase (after m.state event) is adds (event_read brings m.state event may.0 well are)

  does : (here next : Phase) (past : List Entry) (m : HostMachine) (event : HostEvent) (told : List Entry) → May here m (Does event told) next → KnowsJudged here past m → KnowsQueue here past m
      → AreRead (after m.state event).requests.queue × AddAt next
  does (Ticking (first ∷ left)) next past m event told may judged known = own_goes next (Ticking left) m event may.1 (subst IsOwn (sym may.0.0) judged.0.0) tt may.0.1 known.0
  does (Behind (first ∷ left)) next past m event told may judged known =
      at_phase next (Behind left) (after m.state event) may.0.1 known.1.1 (event_read brings m.state event may.1.0 (subst AddsWell (sym may.0.0) known.1.0) known.0)
  does Sleeping next past m event told may judged known =
      let (node, wants, is, next_is) = may.0 in
      own_goes next Sleeping m event may.1 (subst IsOwn (sym is) (no_more_is IsOwn sleepers_own m.state node)) tt next_is known.0
  does Submitting next past m event told may judged known = own_goes next Submitting m event may.1 (next_is IsOwn submitted_own m.state event may.0.0) tt may.0.1 known.0
  does (Ticking []) next past m event told may judged known = absurd may.0
  does (Behind []) next past m event told may judged known = absurd may.0
  does Resting next past m event told may judged known = absurd may.0
  does (Asked line) next past m event told may judged known = absurd may.0
  does Risen next past m event told may judged known = absurd may.0
  does Open next past m event told may judged known = absurd may.0

  asks : (here next : Phase) (past : List Entry) (m : HostMachine) (event : HostEvent) → May here m (Asks event) next → KnowsJudged here past m → AreRead m.state.requests.queue
      → AreRead (after m.state event).requests.queue × AddAt next
  asks here next past m event (line, here_is, asked, may, numbered, is) judged are =
      let said = subst (λ (p : Phase). KnowsJudged p past m) here_is judged in
      let words = line_stands said.words line said.read in
      at_phase next Open (after m.state event) is tt (event_read brings m.state event may.0 (asked_adds line words.0 m.state event words.1 asked may.0) are)

  step_tasks : (here next : Phase) (past : List Entry) (m : HostMachine) (one : Step) → May here m one next → KnowsHost here past m → KnowsQueue here past m
      → AreRead (happens m one).state.requests.queue × AddAt next
  step_tasks here next past m (Tells e) may ground known = at_phase next here m.state may.3 known.1 known.0
  step_tasks here next past m (Comes unit) may ground known = at_phase next here m.state may.2 known.1 known.0
  step_tasks here next past m (Misses text marks) may ground known = at_phase next here m.state may.3 known.1 known.0
  step_tasks here next past m (Says words line) may ground known = at_phase next (Asked line) m.state may.3 tt known.0
  step_tasks here next past m (Says_nothing words) may ground known = at_phase next here m.state may.3 known.1 known.0
  step_tasks here next past m (Asks event) may ground known = asks here next past m event may ground.1 known.0
  step_tasks here next past m (Refuses refusal) may ground known = at_phase next Open m.state may.4 tt known.0
  step_tasks here next past m (Shows node) may ground known = at_phase next Open m.state may.2 tt known.0
  step_tasks here next past m (Restarts state) may ground known =
      at_phase next Open state may.2 tt (subst AreRead (sym (ap (λ (p : Side × RequestsState). p.1.queue) (opened_asks m.keys m.records state ground.0.0.0.told may.1))) (tt, refl, tt))
  step_tasks here next past m (Begins_tick left) may ground known = at_phase next Risen m.state may.2 tt known.0
  step_tasks here next past m Numbers may ground known = at_phase next here m.state may.1 known.1 known.0
  step_tasks here next past m (Judges item rest behind told) may ground known =
      at_phase next (Behind behind) (after m.state (Hears item)) may.2 (behind_adds (after m.state (Hears item)) m.state.side.turn item behind may.1.followed) known.0
  step_tasks here next past m (Does event told) may ground known = does here next past m event told may ground.1 known

  -- sealed texts
  texts_then : (h : HostState) (event : HostEvent) → HostFacts h → MayAll h (event ∷ []) → HaveTexts h → HaveTexts (after h event)
  texts_then h event facts may has n node =
      texts_go left (λ text. is_errand text ≡ false) (λ plain. Unit {0}) n h event (has_place h n facts node) (brings_text n h event may.0) (has n node)

  step_texts : (here next : Phase) (past : List Entry) (m : HostMachine) (one : Step) → May here m one next → KnowsHost here past m → HaveTexts m.state → HaveTexts (happens m one).state
  step_texts here next past m (Tells e) may ground has = has
  step_texts here next past m (Comes unit) may ground has = has
  step_texts here next past m (Misses text marks) may ground has = has
  step_texts here next past m (Says words line) may ground has = has
  step_texts here next past m (Says_nothing words) may ground has = has
  step_texts here next past m (Asks event) may ground has = texts_then m.state event ground.0.0.0.facts.host may.3 has
  step_texts here next past m (Refuses refusal) may ground has = has
  step_texts here next past m (Shows node) may ground has = has
  step_texts here next past m (Restarts state) may ground has = opened_texts m.keys m.records state ground.0.0.0.told may.1
  step_texts here next past m (Begins_tick left_ticks) may ground has = has
  step_texts here next past m Numbers may ground has = has
  step_texts here next past m (Judges item rest behind told) may ground has = texts_then m.state (Hears item) ground.0.0.0.facts.host may.1.may has
  step_texts here next past m (Does event told) may ground has = texts_then m.state event ground.0.0.0.facts.host may.1 has

  step_goes : (here next : Phase) (past : List Entry) (m : HostMachine) (one : Step) → May here m one next → KnowsHost here past m → KnowsQueue here past m
      → KnowsQueue next (past ++ entries m one) (happens m one)
  step_goes here next past m one may ground known =
      let tasks = step_tasks here next past m one may ground known in (tasks.0, tasks.1, step_texts here next past m one may ground known.2)

  turn_tasks : (here next : Phase) (past : List Entry) (m : HostMachine) → Turns here m next → KnowsQueue here past m → AreRead m.state.requests.queue × AddAt next
  turn_tasks Resting next past m is known = at_phase next Open m.state is tt known.0
  turn_tasks (Asked line) next past m (inl (nothing, is)) known = at_phase next Open m.state is tt known.0
  turn_tasks (Asked line) next past m (inr (ticks, line_is, is)) known = at_phase next Resting m.state is tt known.0
  turn_tasks Risen next past m is known = at_phase next (Ticking _) m.state is tt known.0
  turn_tasks (Ticking []) next past m is known = at_phase next Open m.state is tt known.0
  turn_tasks (Ticking (first ∷ left)) next past m is known = absurd is
  turn_tasks Open next past m is known = at_phase next Sleeping m.state is tt known.0
  turn_tasks (Behind []) next past m is known = at_phase next Open m.state is tt known.0
  turn_tasks (Behind (first ∷ left)) next past m is known = absurd is
  turn_tasks Sleeping next past m is known = at_phase next Submitting m.state is.1 tt known.0
  turn_tasks Submitting next past m is known = at_phase next Resting m.state is.1 tt known.0

  turn_goes : (here next : Phase) (past : List Entry) (m : HostMachine) → Turns here m next → KnowsQueue here past m → KnowsQueue next past m
  turn_goes here next past m turns known = let tasks = turn_tasks here next past m turns known in (tasks.0, tasks.1, known.2)

  pub queue_walk : (First : List Entry → Entry → Type 0) → WalkOver (both_know KnowsHost KnowsCame) First First KnowsQueue
  queue_walk First = record {
    step = λ here next past m one may ground stand known. (stand, step_goes here next past m one may ground.0 known);
    turn = λ here next past m turns ground known. turn_goes here next past m turns known;
  }
