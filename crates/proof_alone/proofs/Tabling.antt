-- The tables of a host alone are what its transcript shows, at each phase.
use Rattle.std.proofs.Common.{◌≡◌, ℕ, inl, inr, List, [], ◌∷◌, ◌++◌, map, refl, sym, ap, ◌∙◌, subst, append-nil, append_assoc}
use Rattle.std.specs.Prelude.{Option, Some}
use Rattle.zw_base.proofs.Each.{all-append}
use Rattle.serial_frame.specs.Items.{unit_text}
use Rattle.serial_frame.specs.declared.unit.Unit.{Unit as LineUnit}
use Rattle.s0_crypto.specs.declared.key_pair.Keys.{Keys}
use Rattle.zw_words.specs.declared.side.Side.TheVariants.{Host, Chip}
use Rattle.zw_text.specs.declared.entry.Entry.{Entry}
use Rattle.zw_text.specs.declared.entry.Entry.TheVariants as entry
use Rattle.law_host.specs.law_transcript.Lists.{EachAfter}
use Rattle.proof_line.specs.host_model.State.{HostState, first_host}
use Rattle.proof_line.specs.host_model.Events.{HostEvent, Hears}
use Rattle.proof_line.specs.host_model.After.{after}
use Rattle.proof_line.specs.host_model.Did.{MayAll, records_all, texts_of}
use Rattle.proof_line.specs.host_model.Facts.{HostFacts}
use Rattle.proof_line.specs.host_model.May.{May as MayHost}
use Rattle.proof_line.specs.host_model.Outs.{answers, outs}
use Rattle.proof_line.specs.host_model.declared.out.HostOut.{HostOut}
use Rattle.proof_line.specs.host_model.declared.out.HostOut.TheVariants.{Note, Write}
use Rattle.proof_line.specs.world_model.State.{Machine}
use Rattle.proof_line.specs.world_model.Events as world
use Rattle.proof_line.specs.world_model.Events.{Event, Host_does, OpensFrom}
use Rattle.proof_line.specs.proof_host.Entries.{IsAside, entries_at, notes_of}
use Rattle.proof_line.specs.proof_host.Facts.{Facts, StartsAs}
use Rattle.proof_line.specs.proof_host.Laws.{MayStand}
use Rattle.proof_line.specs.Restarts.{IsHeld, KeepsWell, StartsWell}
use Rattle.proof_line.proofs.Aside.{Asides}
use Rattle.proof_line.proofs.FactsKept.{asides_keep}
use Rattle.proof_line.proofs.FirstHosts.{first_asks}
use Rattle.proof_line.proofs.Hosts.{event_asks, of_joined}
use Rattle.proof_line.proofs.Notes.{Puts, Trailing, puts_at}
use Rattle.proof_line.specs.proof_walk.ByLine.{IsAsked}
use Rattle.proof_alone.specs.State.{HostMachine, done, first_alone, with_world}
use Rattle.proof_alone.specs.Steps.{AreTold, IsOfOthers, Step, Tells, Comes, Misses, Says, Says_nothing, Asks, Refuses, Shows, Restarts, Begins_tick, Numbers, Judges, Does, entries, happens}
use Rattle.proof_alone.specs.Phases.{Phase, Resting, Asked, Risen, Ticking, Open, Behind, Sleeping, Submitting, May, Turns}
use Rattle.proof_alone.specs.Runs.{Walk}
use Rattle.proof_alone.specs.Tables.{AreInOrder, IsInOrder, KnowsTables, TieTables, to_come}
use Rattle.proof_alone.proofs.Apart.{AreOfLine, marks_are, missed_are}
use Rattle.proof_alone.proofs.InOrder.{asked_in_order, asked_puts, behind_in_order, event_in_part, is_asked, none_to_come, tick_in_order}
use Rattle.proof_line.proofs.Runs.{opens_asks, still_told}

-- ---- entries that speak of no command

others_aside : (e : Entry) → IsOfOthers e → IsAside e
others_aside (entry.Accepted command node) is = absurd is
others_aside (entry.Begin node session command) is = absurd is
others_aside (entry.Out command ended) is = absurd is
others_aside (entry.Store node setting) is = absurd is
others_aside e is = tt

line_aside : AreOfLine IsAside
line_aside = record { written = λ side text. tt; dropped = λ side. tt; garbled = λ side text. tt; overrun = λ side. tt }

-- ---- what a host puts out: what it notes is told last

notes_told : (notes told : List Entry) → AreTold (map Note notes) told → told ≡ notes
notes_told [] told are = are
notes_told (e ∷ notes) told (rest, is, more) = is ∙ ap (λ (l : List Entry). e ∷ l) (notes_told notes rest more)

units_told : (units : List LineUnit) (notes told : List Entry) → AreTold (map Write units ++ map Note notes) told → Trailing notes told
units_told [] notes told are = record { prefix = []; asides = tt; are = notes_told notes told are }
units_told (unit ∷ units) notes told (marks, rest, is, all, more) =
    let got = units_told units notes rest more in
    let one : Entry = entry.Written Host (unit_text unit) in
    record {
      prefix = one ∷ (marks ++ got.prefix);
      asides = (tt, all-append IsAside marks got.prefix (marks_are IsAside line_aside marks all) got.asides);
      are = is ∙ ap (λ (l : List Entry). one ∷ l) (ap (λ (l : List Entry). marks ++ l) got.are ∙ sym (append_assoc marks got.prefix notes));
    }

notes_are : (units : List LineUnit) (notes : List Entry) → notes_of (map Write units ++ map Note notes) ≡ notes
notes_are [] [] = refl
notes_are [] (e ∷ notes) = ap (λ (l : List Entry). e ∷ l) (notes_are [] notes)
notes_are (unit ∷ units) notes = notes_are units notes

-- the entries of an event that answers no line stand last
event_told : (h : HostState) (event : HostEvent) (told : List Entry) → answers h event ≡ [] → AreTold (outs h event) told → Trailing (entries_at h event) told
event_told h event told none are =
    let puts : Puts (outs h event) = puts_at h event in
    let same : entries_at h event ≡ puts.entries =
    ap (λ (l : List Entry). l ++ notes_of (outs h event)) none ∙ ap (λ (l : List HostOut). notes_of l) puts.are ∙ notes_are puts.units puts.entries in
    subst (λ (l : List Entry). Trailing l told) (sym same) (units_told puts.units puts.entries told (subst (λ (l : List HostOut). AreTold l told) puts.are are))

-- ---- lists

pub rest_stands : (before past told : List Entry) → EachAfter MayStand before (past ++ told) → EachAfter MayStand (before ++ past) told
rest_stands before [] told all = subst (λ (l : List Entry). EachAfter MayStand l told) (sym (append-nil before)) all
rest_stands before (e ∷ past) told all = subst (λ (l : List Entry). EachAfter MayStand l told) (append_assoc before (e ∷ []) past) (rest_stands (before ++ e ∷ []) past told all.1)

-- ---- steps

module _ (each : (past : List Entry) (h : HostState) (event : HostEvent) → Facts past h → MayHost h event → Facts (past ++ entries_at h event) (after h event))
    (aside : (past : List Entry) (h : HostState) (entry : Entry) → Facts past h → IsAside entry → Facts (past ++ entry ∷ []) h)
    (starts : (past : List Entry) (old new : HostState) → Facts past old → StartsAs old new → Facts past new)
    (goes_on : (m : Machine) (event : Event) → HostFacts m.host.state → IsHeld m.host.state m.records → world.May m event → KeepsWell m event
    → StartsWell m event × IsHeld (world.happens m event).host.state (world.happens m event).records) where
  aside_tie : (past told : List Entry) (h : HostState) (records : Option (List (List ℕ))) → Asides told → TieTables past h records → TieTables (past ++ told) h records
  aside_tie past told h records all tie = record { facts = asides_keep aside past h told tie.facts all; held = tie.held; asks = tie.asks; told = tie.told }

  -- an event, with what is entered of it
  event_tie : (past told : List Entry) (m : HostMachine) (event : HostEvent) → MayAll m.state (event ∷ []) → IsInOrder m.state event → Facts (past ++ told) (after m.state event)
      → TieTables past m.state m.records → TieTables (past ++ told) (done m event).state (done m event).records
  unfolding world.happens world.May
  event_tie past told m event may ordered facts tie =
      let held = goes_on (with_world m) (Host_does event) tie.facts.host tie.held may (of_joined m.state event tie.asks may.0) in
      record { facts = facts; held = held.1; asks = event_asks m.state event tie.asks may.0 ordered; told = still_told m.records (texts_of (records_all m.state (event ∷ []))) tie.told }

  told_tie : (past told : List Entry) (m : HostMachine) (event : HostEvent) → MayAll m.state (event ∷ []) → IsInOrder m.state event → answers m.state event ≡ [] → AreTold (outs m.state event) told
      → TieTables past m.state m.records → TieTables (past ++ told) (done m event).state (done m event).records
  told_tie past told m event may ordered none are tie =
      let last = event_told m.state event told none are in
      let facts =
      subst (λ (l : List Entry). Facts l (after m.state event)) (append_assoc past last.prefix (entries_at m.state event) ∙ ap (λ (l : List Entry). past ++ l) (sym last.are))
      (each (past ++ last.prefix) m.state event (asides_keep aside past m.state last.prefix tie.facts last.asides) may.0) in
      event_tie past told m event may ordered facts tie

  asked_tie : (past : List Entry) (m : HostMachine) (event : HostEvent) → MayAll m.state (event ∷ []) → IsInOrder m.state event → IsAsked event
      → TieTables past m.state m.records → TieTables (past ++ answers m.state event) (done m event).state (done m event).records
  asked_tie past m event may ordered asked tie =
      let same : entries_at m.state event ≡ answers m.state event = ap (λ (l : List Entry). answers m.state event ++ l) (ap (λ (l : List HostOut). notes_of l) (asked_puts m.state event asked)) ∙ append-nil (answers m.state event) in
      event_tie past (answers m.state event) m event may ordered
      (subst (λ (l : List Entry). Facts (past ++ l) (after m.state event)) same (each past m.state event tie.facts may.0)) tie

  -- a host that starts from the records goes on
  starts_tie : (past : List Entry) (m : HostMachine) (state : HostState) → OpensFrom m.keys m.records state → TieTables past m.state m.records → TieTables (past ++ []) state m.records
  unfolding world.happens world.May
  starts_tie past m state opens tie =
      let got = goes_on (with_world m) (world.Restarts state) tie.facts.host tie.held opens tie.told in
      subst (λ (l : List Entry). TieTables l state m.records) (sym (append-nil past))
      (record { facts = starts past m.state state tie.facts got.0; held = got.1; asks = opens_asks m.keys m.records state tie.told opens; told = tie.told })

  -- ---- the walk

  abbrev Goes : Phase → List Entry → HostMachine → Step → Type 0
  Goes next past m one = EachAfter MayStand past (entries m one) × KnowsTables next (past ++ entries m one) (happens m one)

  goes : (next : Phase) (past : List Entry) (m : HostMachine) (one : Step) → TieTables (past ++ entries m one) (happens m one).state (happens m one).records → AreInOrder (to_come next) → Goes next past m one
  goes next past m one tie order = (rest_stands [] past (entries m one) tie.facts.stand, (tie, order))

  stays : (here next : Phase) → next ≡ here → AreInOrder (to_come here) → AreInOrder (to_come next)
  stays here next is order = subst (λ (p : Phase). AreInOrder (to_come p)) (sym is) order

  step_goes : (here next : Phase) (past : List Entry) (m : HostMachine) (one : Step) → May here m one next → KnowsTables here past m → Goes next past m one
  step_goes here next past m (Tells e) (between, others, numbered, is) known =
      goes next past m (Tells e) (aside_tie past (e ∷ []) m.state m.records (others_aside e others, tt) known.0) (stays here next is known.1)
  step_goes here next past m (Comes unit) (between, numbered, is, frames) known = goes next past m (Comes unit) (aside_tie past _ m.state m.records (tt, tt) known.0) (stays here next is known.1)
  step_goes here next past m (Misses text marks) (between, none, numbered, is, frames) known =
      goes next past m (Misses text marks) (aside_tie past (entry.Written Chip text ∷ marks) m.state m.records (tt, missed_are IsAside line_aside marks none) known.0) (stays here next is known.1)
  step_goes here next past m (Says words line) (rests, left, line_is, is) known =
      goes next past m (Says words line) (aside_tie past _ m.state m.records (tt, tt) known.0) (stays (Asked line) next is none_to_come)
  step_goes here next past m (Says_nothing words) (rests, left, line_is, is) known =
      goes next past m (Says_nothing words) (aside_tie past _ m.state m.records (tt, tt) known.0) (stays here next is known.1)
  step_goes here next past m (Asks event) (line, here_is, asked, may, numbered, is) known =
      goes next past m (Asks event) (asked_tie past m event may (asked_in_order line m.state event asked) (is_asked line m.state event asked) known.0) (stays Open next is none_to_come)
  step_goes here next past m (Refuses refusal) (line, here_is, refused, numbered, is) known =
      goes next past m (Refuses refusal) (aside_tie past _ m.state m.records (tt, tt) known.0) (stays Open next is none_to_come)
  step_goes here next past m (Shows node) (here_is, numbered, is) known =
      goes next past m (Shows node) (aside_tie past _ m.state m.records (tt, tt) known.0) (stays Open next is none_to_come)
  step_goes here next past m (Restarts state) (here_is, opens, is) known =
      goes next past m (Restarts state) (starts_tie past m state opens known.0) (stays Open next is none_to_come)
  step_goes here next past m (Begins_tick left) (rests, left_is, is) known =
      goes next past m (Begins_tick left) (aside_tie past [] m.state m.records tt known.0) (stays Risen next is none_to_come)
  step_goes here next past m Numbers (awaits, is) known = goes next past m Numbers (aside_tie past _ m.state m.records (tt, tt) known.0) (stays here next is known.1)
  step_goes here next past m (Judges item rest behind told) (here_is, now, is) known =
      goes next past m (Judges item rest behind told) (told_tie past told m (Hears item) now.may tt refl now.told_so known.0)
      (stays (Behind behind) next is (behind_in_order m.state item behind now.followed))
  step_goes here next past m (Does event told) (by, may, are, numbered) known =
      let part = event_in_part here next m.state event by known.1 in
      goes next past m (Does event told) (told_tie past told m event may part.ordered part.silent are known.0) part.left

  turn_goes : (here next : Phase) (past : List Entry) (m : HostMachine) → Turns here m next → KnowsTables here past m → KnowsTables next past m
  turn_goes Resting next past m is known = (known.0, stays Open next is none_to_come)
  turn_goes (Asked line) next past m (inl (nothing, is)) known = (known.0, stays Open next is none_to_come)
  turn_goes (Asked line) next past m (inr (ticks, line_is, is)) known = (known.0, stays Resting next is none_to_come)
  turn_goes Risen next past m is known = (known.0, stays (Ticking _) next is (tick_in_order m.state))
  turn_goes (Ticking []) next past m is known = (known.0, stays Open next is none_to_come)
  turn_goes (Ticking (event ∷ left)) next past m is known = absurd is
  turn_goes Open next past m is known = (known.0, stays Sleeping next is none_to_come)
  turn_goes (Behind []) next past m is known = (known.0, stays Open next is none_to_come)
  turn_goes (Behind (event ∷ left)) next past m is known = absurd is
  turn_goes Sleeping next past m (none, is, frames) known = (known.0, stays Submitting next is none_to_come)
  turn_goes Submitting next past m (pumped, is) known = (known.0, stays Resting next is none_to_come)

  pub tables_walk : Walk MayStand KnowsTables
  tables_walk = record { step = step_goes; turn = turn_goes }

-- at first
pub first_tables : (keys : Keys) → Facts [] (first_host keys) → IsHeld (first_host keys) (Some []) → KnowsTables Resting [] (first_alone keys (Some []))
first_tables keys facts held = (record { facts = facts; held = held; asks = first_asks keys; told = refl }, none_to_come)
