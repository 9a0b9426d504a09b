-- At each step of a host alone each order that was accepted stands in its table as it was said.
use Rattle.std.proofs.Common.{◌≡◌, ℕ, ◌+◌, List, [], ◌∷◌, ◌++◌, length, unwrap_or, refl, sym, ap, ◌∙◌, subst}
use Rattle.std.specs.Prelude.{Option}
use Rattle.std.specs.List.{AllByRecursion}
use Rattle.zw_base.specs.declared.order.Order.{Order}
use Rattle.zw_words.specs.declared.side.Side.TheVariants.{Chip}
use Rattle.zw_text.specs.declared.line.Line.{Line}
use Rattle.zw_text.specs.declared.line.Line.TheVariants as lines
use Rattle.zw_text.specs.declared.entry.Entry.{Entry}
use Rattle.zw_text.specs.declared.entry.Entry.TheVariants as entry
use Rattle.zw_text.specs.declared.entry.Outcome.TheVariants.{Waiting}
use Rattle.zw_text.specs.Transcript.{line_last}
use Rattle.proof_transcript.specs.law_transcript.Nodes.{host_list}
use Rattle.proof_transcript.specs.law_time.Moments.{Allows}
use Rattle.proof_transcript.specs.law_time.Waking.{may_wake}
use Rattle.proof_transcript.specs.law_host.Heard.{listing_heard}
use Rattle.host_orders.specs.Wrapping.{carriage_of}
use Rattle.host_orders.specs.declared.carriage.Carriage.{Carriage}
use Rattle.proof_waking.specs.host_model.State.{Command, HostState}
use Rattle.proof_waking.specs.host_model.Events.{HostEvent, Accepts, Hears}
use Rattle.proof_waking.specs.host_model.After.{after}
use Rattle.proof_waking.specs.host_model.Asking.{carriage_for}
use Rattle.proof_waking.specs.host_model.Facts.{HostFacts}
use Rattle.proof_waking.specs.host_model.May.{IsAccepted, May as MayHost}
use Rattle.proof_waking.specs.host_model.Outs.{answers, outs}
use Rattle.proof_transcript.specs.world_model.State.{Machine}
use Rattle.proof_transcript.specs.world_model.Events as world
use Rattle.proof_transcript.specs.world_model.Events.{Event, OpensFrom}
use Rattle.proof_transcript.proofs.Lists.{each-anywhere, each-append, each-weaker}
use Rattle.proof_transcript.specs.proof_once.Tied.{KeepsOrders}
use Rattle.proof_transcript.specs.proof_spoken.Restarts.{IsHeld, KeepsWell, StartsWell}
use Rattle.proof_transcript.specs.proof_spoken.Said.{AreSaid, IsSaid, KnowsListing, MayAnswer}
use Rattle.proof_transcript.proofs.Orders.{push_is}
use Rattle.proof_transcript.specs.proof_walk.Outside.{IsHostNote}
use Rattle.proof_transcript.proofs.ByLine.{last_is}
use Rattle.proof_waking.specs.proof_alone.State.{HostMachine, with_world}
use Rattle.proof_waking.specs.proof_alone.Steps.{AreTold, IsAskedBy, IsOfOthers, Step, Tells, Comes, Misses, Says, Says_nothing, Asks, Refuses, Shows, Restarts, Begins_tick, Numbers, Judges, Does, entries, happens}
use Rattle.proof_waking.specs.proof_alone.Phases.{Phase, May}
use Rattle.proof_waking.specs.proof_alone.Runs.{WalkOver}
use Rattle.proof_waking.specs.proof_alone.Tables.{TieTables}
use Rattle.proof_waking.proofs.proof_alone_Apart.{AreOfLine, missed_are, told_are}
use Rattle.proof_waking.specs.Judged.{AfterWords, KnowsJudged}
use Rattle.proof_known.specs.Known.{KnowsNodes, KnowsSaid}
use Rattle.proof_known.proofs.Events.{event_notes}

-- ---- entries that show no order as accepted

abbrev pub AcceptsNone : Entry → Type 0
AcceptsNone (entry.Accepted command node) = ⊥
AcceptsNone e = Unit {0}

pub others_none : (e : Entry) → IsOfOthers e → AcceptsNone e
others_none (entry.Accepted command node) others = absurd others
others_none e others = tt

note_none : (e : Entry) → IsHostNote e → AcceptsNone e
note_none (entry.Accepted command node) note = absurd note
note_none e note = tt

pub line_none : AreOfLine AcceptsNone
line_none = record { written = λ side text. tt; dropped = λ side. tt; garbled = λ side text. tt; overrun = λ side. tt }

pub told_none : (h : HostState) (event : HostEvent) (told : List Entry) → AreTold (outs h event) told → AllByRecursion AcceptsNone told
told_none h event told are = told_are AcceptsNone line_none note_none (outs h event) told (event_notes h event) are

-- ---- what is said of orders

one_stays : (old new : List Command) → KeepsOrders old new → (past : List Entry) (e : Entry) → MayAnswer listing_heard old past e → MayAnswer listing_heard new past e
one_stays old new keeps past (entry.Accepted command node) is = record {
  order = is.order;
  carriage = is.carriage;
  said = is.said;
  of_node = is.of_node;
  taken = keeps command (record { order = is.order; carriage = is.carriage }) is.taken;
  carried = is.carried;
}
one_stays old new keeps past e is = tt

all_stay : (old new : List Command) (past : List Entry) → KeepsOrders old new → AreSaid listing_heard old past → AreSaid listing_heard new past
all_stay old new past keeps said = each-weaker (MayAnswer listing_heard old) (MayAnswer listing_heard new) (one_stays old new keeps) [] past said

none_answer : (commands : List Command) (past : List Entry) (e : Entry) → AcceptsNone e → MayAnswer listing_heard commands past e
none_answer commands past (entry.Accepted command node) none = absurd none
none_answer commands past e none = tt

said_more : (commands : List Command) (past told : List Entry) → AllByRecursion AcceptsNone told → AreSaid listing_heard commands past → AreSaid listing_heard commands (past ++ told)
said_more commands past told none said =
    each-append (MayAnswer listing_heard commands) [] past told said (each-anywhere (MayAnswer listing_heard commands) AcceptsNone (none_answer commands) past told none)

module _ (keeps : (h : HostState) (event : HostEvent) → KeepsOrders h.commands (after h event).commands)
    (goes_on : (m : Machine) (event : Event) → HostFacts m.host.state → IsHeld m.host.state m.records → world.May m event → KeepsWell m event
    → StartsWell m event × IsHeld (world.happens m event).host.state (world.happens m event).records) where
  -- what an event makes of it
  abbrev After : List Entry → List Entry → HostState → HostEvent → Type 0
  After past told h event = AreSaid listing_heard (after h event).commands (past ++ told)

  event_said : (past told : List Entry) (h : HostState) (event : HostEvent) → AllByRecursion AcceptsNone told → AreSaid listing_heard h.commands past → After past told h event
  event_said past told h event none said = said_more (after h event).commands past told none (all_stay h.commands (after h event).commands past (keeps h event) said)

  -- an order is accepted
  order_said : (past : List Entry) (h : HostState) (order : Order) (carriage : Carriage) → line_last past ≡ lines.Command order ∷ [] → IsAccepted h order carriage
      → KnowsListing listing_heard past h → AreSaid listing_heard h.commands past → After past (answers h (Accepts order carriage)) h (Accepts order carriage)
  order_said past h order carriage words accepts knows said =
      let one : Command = record { order = order; carriage = carriage; outcome = Waiting } in
      let new : List Command = h.commands ++ one ∷ [] in
      let classes : host_list listing_heard past order.node ≡ accepts.classes = ap (λ (o : Option (List ℕ)). unwrap_or o []) (sym (knows order.node) ∙ accepts.listed) in
      let answer : IsSaid listing_heard new past (length h.commands + 1) order.node = record {
        order = order;
        carriage = carriage;
        said = words;
        of_node = refl;
        taken = push_is h.commands one;
        carried = accepts.carried ∙ ap (λ (l : List ℕ). carriage_of l order) (sym classes);
      } in
      each-append (MayAnswer listing_heard new) [] past (entry.Accepted (length h.commands + 1) order.node ∷ []) (all_stay h.commands new past (keeps h (Accepts order carriage)) said) (answer, tt)

  -- what a line asks for
  as_asked : (past : List Entry) (h : HostState) (event these : HostEvent) → event ≡ these → AllByRecursion AcceptsNone (answers h these) → AreSaid listing_heard h.commands past
      → After past (answers h event) h event
  as_asked past h event these is none said = subst (λ (e : HostEvent). After past (answers h e) h e) (sym is) (event_said past (answers h these) h these none said)

  asked_said : (line : Line) (past : List Entry) (h : HostState) (event : HostEvent) → IsAskedBy line h event → line_last past ≡ line ∷ [] → MayHost h event
      → KnowsListing listing_heard past h → AreSaid listing_heard h.commands past → After past (answers h event) h event
  asked_said (lines.Command order) past h event is words may knows said =
      let these : HostEvent = Accepts order (carriage_for h order) in
      subst (λ (e : HostEvent). After past (answers h e) h e) (sym is)
      (order_said past h order (carriage_for h order) words (subst (λ (e : HostEvent). MayHost h e) is may) knows said)
  asked_said (lines.Send node word) past h event is words may knows said = as_asked past h event _ is.1 tt said
  asked_said (lines.Get node end) past h event is words may knows said = as_asked past h event _ is.1 tt said
  asked_said (lines.Join node) past h event is words may knows said = as_asked past h event _ is tt said
  asked_said (lines.Interview node) past h event is words may knows said = as_asked past h event _ is.1 tt said
  asked_said (lines.Cancel command) past h event is words may knows said = as_asked past h event _ is (tt, tt) said
  asked_said lines.Discover past h event is words may knows said = as_asked past h event _ is.1 tt said
  asked_said (lines.Neighbours node) past h event is words may knows said = as_asked past h event _ is.1 tt said
  asked_said (lines.Failed node) past h event is words may knows said = as_asked past h event _ is.1 tt said
  asked_said lines.Probe past h event is words may knows said = as_asked past h event _ is.1 tt said
  asked_said line past h event is words may knows said = absurd is

  words_last : (line : Line) (past : List Entry) (m : HostMachine) → AfterWords line past m → line_last past ≡ line ∷ []
  words_last line past m words = ap line_last words.are ∙ last_is words.before (entry.Said words.words) ∙ words.read

  -- a host that starts from the records
  starts_said : (past : List Entry) (m : HostMachine) (state : HostState) → OpensFrom m.keys m.records state → TieTables past m.state m.records → AreSaid listing_heard m.state.commands past
      → AreSaid listing_heard state.commands (past ++ [])
  unfolding world.happens world.May
  starts_said past m state opens tie said =
      let got = goes_on (with_world m) (world.Restarts state) tie.facts.host tie.held opens tie.told in
      said_more state.commands past [] tt (all_stay m.state.commands state.commands past (λ number taken e. got.0.taken number ∙ e) said)

  -- ---- the walk

  step_said : (here next : Phase) (past : List Entry) (m : HostMachine) (one : Step) → May here m one next → TieTables past m.state m.records → KnowsJudged here past m
      → KnowsListing listing_heard past m.state → AreSaid listing_heard m.state.commands past → AreSaid listing_heard (happens m one).state.commands (past ++ entries m one)
  step_said here next past m (Tells e) may tie judged knows said = said_more m.state.commands past (e ∷ []) (others_none e may.1, tt) said
  step_said here next past m (Comes unit) may tie judged knows said = said_more m.state.commands past _ (tt, tt) said
  step_said here next past m (Misses text marks) may tie judged knows said =
      said_more m.state.commands past (entry.Written Chip text ∷ marks) (tt, missed_are AcceptsNone line_none marks may.1) said
  step_said here next past m (Says words line) may tie judged knows said = said_more m.state.commands past _ (tt, tt) said
  step_said here next past m (Says_nothing words) may tie judged knows said = said_more m.state.commands past _ (tt, tt) said
  step_said here next past m (Asks event) (line, here_is, asked, may, numbered, is) tie judged knows said =
      asked_said line past m.state event asked (words_last line past m (subst (λ (p : Phase). KnowsJudged p past m) here_is judged)) may.0 knows said
  step_said here next past m (Refuses refusal) may tie judged knows said = said_more m.state.commands past _ (tt, tt) said
  step_said here next past m (Shows node) may tie judged knows said = said_more m.state.commands past _ (tt, tt) said
  step_said here next past m (Restarts state) may tie judged knows said = starts_said past m state may.1 tie said
  step_said here next past m (Begins_tick left) may tie judged knows said = said_more m.state.commands past [] tt said
  step_said here next past m Numbers may tie judged knows said = said_more m.state.commands past _ (tt, tt) said
  step_said here next past m (Judges item rest behind told) may tie judged knows said =
      event_said past told m.state (Hears item) (told_none m.state (Hears item) told may.1.told_so) said
  step_said here next past m (Does event told) may tie judged knows said = event_said past told m.state event (told_none m.state event told may.2) said

  pub said_walk : WalkOver KnowsNodes (Allows may_wake) (Allows may_wake) KnowsSaid
  said_walk = record {
    step = λ here next past m one may ground stand known. (stand, step_said here next past m one may ground.0.0.0 ground.0.1 ground.1 known);
    turn = λ here next past m turns ground known. known;
  }
