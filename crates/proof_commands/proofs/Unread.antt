-- The records of the keeper are read at a `restart` alone: lines that are none go the same way over a keeper that holds other records, with the same entries.
use Rattle.std.proofs.Common.{◌≡◌, ℕ, zero, suc, Bool, true, false, ◌||◌, List, [], ◌∷◌, ◌++◌, length, map, inl, inr, refl, sym, ap, subst, ◌∙◌}
use Rattle.std.specs.Prelude.{Option, Some, None}
use Rattle.std.specs.List.{AllByRecursion}
use Rattle.zw_base.proofs.Each.{all-append, all-left}
use Rattle.zw_text.specs.declared.line.Line.{Line}
use Rattle.zw_text.specs.declared.line.Line.TheVariants.{Command, Tick, Cut, Stall, Drop, Garble, Collide, Send, Get, Join, Interview, Lose, LoseAck, Repeat, Wake, Cancel, Link, Unlink, Discover, Neighbours, Failed, Probe, Local, Show, Store, Restart}
use Rattle.zw_text.specs.declared.entry.Entry.{Entry}
use Rattle.zw_text.specs.declared.entry.Entry.TheVariants.{Said}
use Rattle.zw_text.specs.declared.entry.Refusal.{Refusal}
use Rattle.host_orders.specs.declared.refused.Refused.{Refused}
use Rattle.host_orders.specs.Refusals.{classes_of}
use Rattle.host_orders.specs.Errands.{send_refusal, send_text, get_refusal, get_text}
use Rattle.host_requests.specs.declared.task.Task.TheVariants as task
use Rattle.host_model.specs.State.{node_of}
use Rattle.host_model.specs.Events.{HostEvent, Queues, Queues_interview, Queues_probe}
use Rattle.host_model.specs.May.{known_of}
use Rattle.host_model.specs.Asking.{places_refusal, interview_refusal}
use Rattle.outside_model.specs.Events.{OuterEvent, Discovers}
use Rattle.outside_model.specs.Schedules.{IsRepeat, IsWake, IsSet}
use Rattle.world_model.specs.State.{Machine}
use Rattle.world_model.specs.Refusals.{IsRefused}
use Rattle.world_model.specs.Events.{Event, Outside_does, Host_does, Host_takes, Decoder_ticks, Refuses, Shows_values, Restarts, happens, entries, May}
use Rattle.world_model.specs.Did.{happens_all, entries_all, MayAll, Schedule, Then, Nothing, PrefixOf, ThenPrefix}
use Rattle.world_model.specs.Settling.{Outside, IsPump, IsChipPart, IsHostPart, IsMove, IfMoved, Passes, Settles}
use Rattle.world_model.specs.Ticking.{IsClockTick, IsDelivery, IsGiving, IsDeviceTick, IsChipTick, IsOutsideTick, IsHostTick, IsTick, Ticks}
use Rattle.world_model.specs.Lines.{IsRefusal, IsDone, Asks, IsEffect, IsLineBegin, IsLineRest, IsLine}
use Rattle.world_model.specs.Prefixes.{PassesPrefix, SettlesPrefix, OutsideTickPrefix, TickPrefix, TicksPrefix, EffectPrefix, LineRestPrefix, LinePart, IsLineBefore}
use Rattle.world_model.proofs.Pieces.{Of, Law, Pieces, of_line_before}
use Rattle.world_model.proofs.Along.{IsOfPart, pieces_along, anywhere}
use Rattle.law_transcript.specs.Restarts.{is_restart}
use Rattle.run_lines.specs.Pieces.{said_text}
use Rattle.proof_answers.specs.proof_chip.proof_world.Restarts.{AllKeepWell, AllStartWell, KeepsWell, StartsWell}
use Rattle.proof_commands.specs.Laws.{Ran, AreBegun, AreSchedules, events_of, has_restart, transcript_from}

-- the records of a keeper, where it tells them
abbrev Records : Type 0
Records = Option (List (List ℕ))

-- the machine over a keeper that holds these records
abbrev pub over : Machine → Records → Machine
over m records = record m { records = records }

-- ---- events

one_over : (m : Machine) (records : Records) (event : Event) → happens (over m records) event ≡ over (happens m event) (happens (over m records) event).records
unfolding happens
one_over m records (Outside_does event) = refl
one_over m records (Host_does event) = refl
one_over m records (Host_takes count rest items events) = refl
one_over m records Decoder_ticks = refl
one_over m records (Refuses line refusal) = refl
one_over m records (Shows_values node) = refl
one_over m records (Restarts state) = refl

enters_over : (m : Machine) (records : Records) (event : Event) → entries (over m records) event ≡ entries m event
unfolding entries
enters_over m records (Outside_does event) = refl
enters_over m records (Host_does event) = refl
enters_over m records (Host_takes count rest items events) = refl
enters_over m records Decoder_ticks = refl
enters_over m records (Refuses line refusal) = refl
enters_over m records (Shows_values node) = refl
enters_over m records (Restarts state) = refl

-- the records after events
abbrev kept_after : Machine → Records → List Event → Records
kept_after m records events = (happens_all (over m records) events).records

pub all_over : (m : Machine) (records : Records) (events : List Event)
    → happens_all (over m records) events ≡ over (happens_all m events) (kept_after m records events)
all_over m records [] = refl
all_over m records (event ∷ events) =
    let kept = (happens (over m records) event).records in
    let first = one_over m records event in
    ap (λ (x : Machine). happens_all x events) first
    ∙ (all_over (happens m event) kept events ∙ ap (λ (x : Machine). over (happens_all (happens m event) events) (happens_all x events).records) (sym first))

all_enter_over : (m : Machine) (records : Records) (events : List Event) → entries_all (over m records) events ≡ entries_all m events
all_enter_over m records [] = refl
all_enter_over m records (event ∷ events) =
    ap (λ (l : List Entry). l ++ entries_all (happens (over m records) event) events) (enters_over m records event)
    ∙ ap (λ (l : List Entry). entries m event ++ l)
    (ap (λ (x : Machine). entries_all x events) (one_over m records event) ∙ all_enter_over (happens m event) (happens (over m records) event).records events)

-- ---- events that do not read the records

-- a line that is no `restart`
abbrev pub IsOther : Line → Type 0
IsOther Restart = ⊥
IsOther line = Unit {0}

-- no host starts again, and no `restart` is refused
abbrev pub IsUnread : Event → Type 0
IsUnread (Refuses line refusal) = IsOther line
IsUnread (Restarts state) = ⊥
IsUnread event = Unit {0}

refused_over : (m : Machine) (records : Records) (line : Line) (refusal : Refusal) → IsOther line → IsRefused m line refusal
    → IsRefused (over m records) line refusal
refused_over m records Restart refusal other is = absurd other
refused_over m records line refusal other is = is

may_over : (m : Machine) (records : Records) (event : Event) → IsUnread event → May m event → May (over m records) event
unfolding May
may_over m records (Outside_does event) unread may = may
may_over m records (Host_does event) unread may = may
may_over m records (Host_takes count rest items events) unread may =
    record { moves = may.moves; feeds = may.feeds; judged = may.judged; may = may.may }
may_over m records Decoder_ticks unread may = may
may_over m records (Refuses line refusal) unread may = refused_over m records line refusal unread may
may_over m records (Shows_values node) unread may = may
may_over m records (Restarts state) unread may = absurd unread

pub all_may_over : (m : Machine) (records : Records) (events : List Event) → AllByRecursion IsUnread events → MayAll m events → MayAll (over m records) events
all_may_over m records [] unread may = tt
all_may_over m records (event ∷ events) unread may = (
  may_over m records event unread.0 may.0,
  subst (λ (x : Machine). MayAll x events) (sym (one_over m records event))
      (all_may_over (happens m event) (happens (over m records) event).records events unread.1 may.1),
)

-- ---- schedules

-- a schedule is the same over every keeper
abbrev IsBlind : Schedule → Type 0
IsBlind Kind = (m : Machine) (records : Records) (events : List Event) → Kind m events → Kind (over m records) events

then_blind : (First Second : Schedule) → IsBlind First → IsBlind Second → IsBlind (Then First Second)
then_blind First Second first second m records events (a, b, are, is_first, is_second) = (
  a,
  b,
  are,
  first m records a is_first,
  subst (λ (x : Machine). Second x b) (sym (all_over m records a)) (second (happens_all m a) (kept_after m records a) b is_second),
)

none_blind : IsBlind Nothing
none_blind m records events is = is

prefix_blind : (Kind : Schedule) → IsBlind Kind → IsBlind (PrefixOf Kind)
prefix_blind Kind blind m records events (inl none) = inl none
prefix_blind Kind blind m records events (inr (rest, is)) = inr (rest, blind m records (events ++ rest) is)

then_prefix_blind : (FirstPrefix First SecondPrefix : Schedule) → IsBlind FirstPrefix → IsBlind First → IsBlind SecondPrefix
    → IsBlind (ThenPrefix FirstPrefix First SecondPrefix)
then_prefix_blind FirstPrefix First SecondPrefix prefix first second m records events (inl is) = inl (prefix m records events is)
then_prefix_blind FirstPrefix First SecondPrefix prefix first second m records events (inr is) =
    inr (then_blind First SecondPrefix first second m records events is)

if_moved_blind : (moved : List Event) (More : Schedule) → IsBlind More → IsBlind (IfMoved moved More)
if_moved_blind [] More more m records events is = is
if_moved_blind (one ∷ moved) More more m records events is = more m records events is

begin_blind : IsBlind IsLineBegin
begin_blind m records events is = is

pump_blind : IsBlind IsPump
pump_blind m records events is = is

chip_part_blind : IsBlind IsChipPart
chip_part_blind m records events is = is

host_part_blind : IsBlind IsHostPart
host_part_blind m records events is = is

clock_blind : IsBlind IsClockTick
clock_blind m records events is = is

delivery_blind : IsBlind IsDelivery
delivery_blind m records events is = is

giving_blind : IsBlind IsGiving
giving_blind m records events is = is

device_tick_blind : IsBlind IsDeviceTick
device_tick_blind m records events is = is

chip_tick_blind : IsBlind IsChipTick
chip_tick_blind m records events is = is

host_tick_blind : IsBlind IsHostTick
host_tick_blind m records events is = is

-- ---- a settling

move_blind : IsBlind IsMove
move_blind = then_blind IsChipPart IsHostPart chip_part_blind host_part_blind

passes_blind : (count : ℕ) → IsBlind (Passes count)
passes_blind zero m records events is = is
passes_blind (suc more) m records events (moves, rest, are, moved, after) = (
  moves,
  rest,
  are,
  move_blind m records moves moved,
  subst (λ (x : Machine). Then IsPump (IfMoved moves (Passes more)) x rest) (sym (all_over m records moves))
      (then_blind IsPump (IfMoved moves (Passes more)) pump_blind (if_moved_blind moves (Passes more) (passes_blind more)) (happens_all m moves)
      (kept_after m records moves) rest after),
)

settling_blind : IsBlind Settles
settling_blind = then_blind IsPump (Passes 64) pump_blind (passes_blind 64)

passes_prefix_blind : (count : ℕ) → IsBlind (PassesPrefix count)
passes_prefix_blind zero m records events is = is
passes_prefix_blind (suc more) m records events (inl is) =
    inl (then_prefix_blind Nothing IsChipPart Nothing none_blind chip_part_blind none_blind m records events is)
passes_prefix_blind (suc more) m records events (inr (moves, rest, are, moved, after)) = inr (
  moves,
  rest,
  are,
  move_blind m records moves moved,
  subst (λ (x : Machine). ThenPrefix Nothing IsPump (IfMoved moves (PassesPrefix more)) x rest) (sym (all_over m records moves))
      (then_prefix_blind Nothing IsPump (IfMoved moves (PassesPrefix more)) none_blind pump_blind
      (if_moved_blind moves (PassesPrefix more) (passes_prefix_blind more)) (happens_all m moves) (kept_after m records moves) rest after),
)

settling_prefix_blind : IsBlind SettlesPrefix
settling_prefix_blind = then_prefix_blind Nothing IsPump (PassesPrefix 64) none_blind pump_blind (passes_prefix_blind 64)

-- ---- ticks

outside_tick_blind : IsBlind IsOutsideTick
outside_tick_blind =
    then_blind IsDelivery (Then IsGiving (Then IsDeviceTick IsChipTick)) delivery_blind
    (then_blind IsGiving (Then IsDeviceTick IsChipTick) giving_blind (then_blind IsDeviceTick IsChipTick device_tick_blind chip_tick_blind))

tick_blind : IsBlind IsTick
tick_blind =
    then_blind IsClockTick (Then IsOutsideTick (Then IsHostTick Settles)) clock_blind
    (then_blind IsOutsideTick (Then IsHostTick Settles) outside_tick_blind (then_blind IsHostTick Settles host_tick_blind settling_blind))

ticks_blind : (count : ℕ) → IsBlind (Ticks count)
ticks_blind zero m records events is = is
ticks_blind (suc more) m records events is = then_blind IsTick (Ticks more) tick_blind (ticks_blind more) m records events is

outside_tick_prefix_blind : IsBlind OutsideTickPrefix
outside_tick_prefix_blind =
    let devices : Schedule = ThenPrefix (PrefixOf IsDeviceTick) IsDeviceTick Nothing in
    then_prefix_blind (PrefixOf IsDelivery) IsDelivery (ThenPrefix (PrefixOf IsGiving) IsGiving devices) (prefix_blind IsDelivery delivery_blind) delivery_blind
    (then_prefix_blind (PrefixOf IsGiving) IsGiving devices (prefix_blind IsGiving giving_blind) giving_blind
    (then_prefix_blind (PrefixOf IsDeviceTick) IsDeviceTick Nothing (prefix_blind IsDeviceTick device_tick_blind) device_tick_blind none_blind))

tick_prefix_blind : IsBlind TickPrefix
tick_prefix_blind =
    let host : Schedule = ThenPrefix Nothing IsHostTick SettlesPrefix in
    then_prefix_blind Nothing IsClockTick (ThenPrefix OutsideTickPrefix IsOutsideTick host) none_blind clock_blind
    (then_prefix_blind OutsideTickPrefix IsOutsideTick host outside_tick_prefix_blind outside_tick_blind
    (then_prefix_blind Nothing IsHostTick SettlesPrefix none_blind host_tick_blind settling_prefix_blind))

ticks_prefix_blind : (count : ℕ) → IsBlind (TicksPrefix count)
ticks_prefix_blind zero m records events is = is
ticks_prefix_blind (suc more) m records events is =
    then_prefix_blind TickPrefix IsTick (TicksPrefix more) tick_prefix_blind tick_blind (ticks_prefix_blind more) m records events is

-- ---- lines

effect_blind : (line : Line) → IsBlind (IsEffect line)
effect_blind line m records events is = blind line is
  where
    blind : (line : Line) → IsEffect line m events → IsEffect line (over m records) events
    blind Restart is = is
    blind line is = is

effect_prefix_blind : (line : Line) → IsBlind (EffectPrefix line)
effect_prefix_blind Restart m records events is = is
effect_prefix_blind line m records events is = prefix_blind (IsEffect line) (effect_blind line) m records events is

rest_blind : (line : Line) → IsBlind (IsLineRest line)
rest_blind (Tick count) = ticks_blind count
rest_blind line = then_blind (IsEffect line) Settles (effect_blind line) settling_blind

rest_prefix_blind : (line : Line) → IsBlind (LineRestPrefix line)
rest_prefix_blind (Tick count) = ticks_prefix_blind count
rest_prefix_blind line =
    then_prefix_blind (EffectPrefix line) (IsEffect line) SettlesPrefix (effect_prefix_blind line) (effect_blind line) settling_prefix_blind

line_blind : (line : Line) → IsBlind (IsLine line)
line_blind line = then_blind IsLineBegin (IsLineRest line) begin_blind (rest_blind line)

part_blind : (line : Line) → IsBlind (LinePart line)
part_blind line m records events (inl is) = inl (line_blind line m records events is)
part_blind line m records events (inr is) =
    inr (then_prefix_blind Nothing IsLineBegin (LineRestPrefix line) none_blind begin_blind (rest_prefix_blind line) m records events is)

before_blind : {A : Type 0} (more : List A) (line : Line) → IsBlind (IsLineBefore more line)
before_blind [] line = part_blind line
before_blind (next ∷ more) line = line_blind line

-- ---- which events a line is that is no `restart`

-- each event of the list is so
abbrev AreUnread : Schedule
AreUnread m events = AllByRecursion IsUnread events

law : Law AreUnread
law = record {
  none = λ m. tt;
  both = λ m a b first later. all-append IsUnread a b first later;
  prefix = λ m a b all. all-left IsUnread a b all;
}

part_unread : (m : Machine) (event : Event) → IsOfPart m event → IsUnread event
part_unread m (Refuses line refusal) is = absurd is
part_unread m (Restarts state) is = absurd is
part_unread m event is = tt

pieces : Pieces AreUnread
pieces =
    let all = pieces_along (λ m event. IsUnread event) part_unread in
    record {
      begins = λ m events is. anywhere IsUnread m events (all.begins m events is);
      pump = λ m events is. anywhere IsUnread m events (all.pump m events is);
      chip_part = λ m events is. anywhere IsUnread m events (all.chip_part m events is);
      host_part = λ m events is. anywhere IsUnread m events (all.host_part m events is);
      clock = λ m events is. anywhere IsUnread m events (all.clock m events is);
      delivery = λ m events is. anywhere IsUnread m events (all.delivery m events is);
      giving = λ m events is. anywhere IsUnread m events (all.giving m events is);
      device_tick = λ m events is. anywhere IsUnread m events (all.device_tick m events is);
      chip_tick = λ m events is. anywhere IsUnread m events (all.chip_tick m events is);
      host_tick = λ m events is. anywhere IsUnread m events (all.host_tick m events is);
    }

are_these : (events these : List Event) → events ≡ these → AllByRecursion IsUnread these → AllByRecursion IsUnread events
are_these events these are all = subst (λ (l : List Event). AllByRecursion IsUnread l) (sym are) all

refusal_unread : (line : Line) → IsOther line → (events : List Event) → IsRefusal line events → AllByRecursion IsUnread events
refusal_unread line other events (refusal, are) = are_these events (Refuses line refusal ∷ []) are (other, tt)

done_unread : (line : Line) → IsOther line → (these events : List Event) → AllByRecursion IsUnread these → IsDone line these events
    → AllByRecursion IsUnread events
done_unread line other these events all (inl are) = are_these events these are all
done_unread line other these events all (inr refused) = refusal_unread line other events refused

asks_unread : (rule : Option Refused) (line : Line) → IsOther line → (event : HostEvent) (events : List Event) → Asks rule line event events
    → AllByRecursion IsUnread events
asks_unread None line other event events are = are_these events (Host_does event ∷ []) are (tt, tt)
asks_unread (Some refused) line other event events (refusal, shown, are) = refusal_unread line other events (refusal, are)

outer_unread : (inner : List OuterEvent) → AllByRecursion IsUnread (map Outside_does inner)
outer_unread [] = tt
outer_unread (event ∷ inner) = (tt, outer_unread inner)

outside_unread : (Kind : List OuterEvent → Type 0) (events : List Event) → Outside Kind events → AllByRecursion IsUnread events
outside_unread Kind events (inner, is, are) = are_these events (map Outside_does inner) are (outer_unread inner)

one_unread : (event : OuterEvent) (events : List Event) → events ≡ Outside_does event ∷ [] → AllByRecursion IsUnread events
one_unread event events are = are_these events (Outside_does event ∷ []) are (tt, tt)

effect_unread : (line : Line) → IsOther line → Of AreUnread (IsEffect line)
effect_unread (Command order) other m events is = done_unread (Command order) tt _ events (tt, tt) is
effect_unread (Tick count) other m events is = absurd is
effect_unread (Cut size) other m events is = one_unread _ events is
effect_unread (Stall ticks) other m events is = one_unread _ events is
effect_unread (Drop by) other m events is = one_unread _ events is
effect_unread (Garble by place xor) other m events is = one_unread _ events is
effect_unread Collide other m events is = one_unread _ events is
effect_unread (Send node word) other m events is =
    asks_unread (send_refusal (known_of (node_of m.host.state node)) (length m.host.state.requests.queue) word) (Send node word) tt
    (Queues (task.Plain node (send_text (classes_of (known_of (node_of m.host.state node))) word))) events is
effect_unread (Get node end) other m events is =
    asks_unread (get_refusal (known_of (node_of m.host.state node)) (length m.host.state.requests.queue) end) (Get node end) tt
    (Queues (task.Plain node (get_text (classes_of (known_of (node_of m.host.state node))) end))) events is
effect_unread (Join node) other m events is = done_unread (Join node) tt _ events (tt, (tt, tt)) is
effect_unread (Interview node) other m events is =
    asks_unread (interview_refusal m.host.state node) (Interview node) tt (Queues_interview node) events is
effect_unread (Lose count) other m events is = one_unread _ events is
effect_unread (LoseAck count) other m events is = one_unread _ events is
effect_unread (Repeat frame) other m events is = outside_unread (IsRepeat frame) events is
effect_unread (Wake node) other m events is = outside_unread (IsWake node) events is
effect_unread (Cancel command) other m events is = done_unread (Cancel command) tt _ events (tt, tt) is
effect_unread (Link first second) other m events is = one_unread _ events is
effect_unread (Unlink first second) other m events is = one_unread _ events is
effect_unread Discover other m events (asked, asks, are) =
    are_these events (Outside_does Discovers ∷ asked) are (tt, asks_unread (places_refusal m.host.state 1) Discover tt (Queues task.Members) asked asks)
effect_unread (Neighbours node) other m events is =
    asks_unread (places_refusal m.host.state 1) (Neighbours node) tt (Queues (task.Neighbours node)) events is
effect_unread (Failed node) other m events is =
    asks_unread (places_refusal m.host.state 1) (Failed node) tt (Queues (task.IsFailed node)) events is
effect_unread Probe other m events is = asks_unread (places_refusal m.host.state 3) Probe tt Queues_probe events is
effect_unread (Local node value) other m events is = outside_unread (IsSet node value) events is
effect_unread (Show node) other m events is = one_unread _ events is
effect_unread (Store node) other m events is = are_these events (Shows_values node ∷ []) is (tt, tt)
effect_unread Restart other m events is = absurd other

line_unread : (more : List Ran) (line : Line) → IsOther line → Of AreUnread (IsLineBefore more line)
line_unread more line other = of_line_before AreUnread law pieces more line (effect_unread line other)

-- ---- stories

is_other : (line : Line) → is_restart (line ∷ []) ≡ false → IsOther line
is_other Restart none = absurd cc
is_other line none = tt

-- neither of two
not_either : (a b : Bool) → (a || b) ≡ false → (a ≡ false) × (b ≡ false)
not_either true b none = absurd cc
not_either false b none = (refl, none)

pub story_unread : (m : Machine) (story : List Ran) → has_restart story ≡ false → AreBegun m story → AllByRecursion IsUnread (events_of story)
story_unread m [] none begun = tt
story_unread m (ran ∷ more) none begun =
    let neither = not_either (is_restart (ran.line.line ∷ [])) (has_restart more) none in
    all-append IsUnread ran.events (events_of more) (line_unread more ran.line.line (is_other ran.line.line neither.0) m ran.events begun.0)
    (story_unread (happens_all m ran.events) more neither.1 begun.1)

pub begun_over : (m : Machine) (records : Records) (story : List Ran) → AreBegun m story → AreBegun (over m records) story
begun_over m records [] begun = tt
begun_over m records (ran ∷ more) begun = (
  before_blind more ran.line.line m records ran.events begun.0,
  subst (λ (x : Machine). AreBegun x more) (sym (all_over m records ran.events))
      (begun_over (happens_all m ran.events) (kept_after m records ran.events) more begun.1),
)

pub schedules_over : (m : Machine) (records : Records) (story : List Ran) → AreSchedules m story → AreSchedules (over m records) story
schedules_over m records [] are = tt
schedules_over m records (ran ∷ more) are = (
  line_blind ran.line.line m records ran.events are.0,
  subst (λ (x : Machine). AreSchedules x more) (sym (all_over m records ran.events))
      (schedules_over (happens_all m ran.events) (kept_after m records ran.events) more are.1),
)

pub transcript_over : (m : Machine) (records : Records) (story : List Ran) → transcript_from (over m records) story ≡ transcript_from m story
transcript_over m records [] = refl
transcript_over m records (ran ∷ more) =
    let next = happens_all m ran.events in
    let later : transcript_from (happens_all (over m records) ran.events) more ≡ transcript_from next more
    = ap (λ (x : Machine). transcript_from x more) (all_over m records ran.events)
    ∙ transcript_over next (kept_after m records ran.events) more in
    let here : entries_all (over m records) ran.events ≡ entries_all m ran.events = all_enter_over m records ran.events in
    ap (λ (l : List Entry). Said (said_text ran.line.text) ∷ (l ++ transcript_from (happens_all (over m records) ran.events) more)) here
    ∙ ap (λ (l : List Entry). Said (said_text ran.line.text) ∷ (entries_all m ran.events ++ l)) later

-- ---- what is assumed of restarts

keeps_over : (m : Machine) (records : Records) (event : Event) → IsUnread event → KeepsWell m event → KeepsWell (over m records) event
keeps_over m records (Restarts state) unread well = absurd unread
keeps_over m records event unread well = well

pub all_keep_over : (m : Machine) (records : Records) (events : List Event) → AllByRecursion IsUnread events → AllKeepWell m events
    → AllKeepWell (over m records) events
all_keep_over m records [] unread well = tt
all_keep_over m records (event ∷ events) unread well = (
  keeps_over m records event unread.0 well.0,
  subst (λ (x : Machine). AllKeepWell x events) (sym (one_over m records event))
      (all_keep_over (happens m event) (happens (over m records) event).records events unread.1 well.1),
)

starts_unread : (m : Machine) (event : Event) → IsUnread event → StartsWell m event
starts_unread m (Restarts state) unread = absurd unread
starts_unread m event unread = tt

pub all_start_unread : (m : Machine) (events : List Event) → AllByRecursion IsUnread events → AllStartWell m events
all_start_unread m [] unread = tt
all_start_unread m (event ∷ events) unread = (starts_unread m event unread.0, all_start_unread (happens m event) events unread.1)
