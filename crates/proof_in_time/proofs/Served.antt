-- Which node was served last, and how many ticks have begun, after each event.
use Rattle.std.proofs.Common.{◌≡◌, ℕ, ◌+◌, inl, inr, Bool, List, [], ◌∷◌, refl, ap, ◌∙◌}
use Rattle.std.specs.Prelude.{◌⊎◌, Option, Some, None}
use Rattle.std.specs.List.{AllByRecursion}
use Rattle.zw_base.proofs.Each.{all-append}
use Rattle.zw_text.specs.declared.entry.Entry.{Entry}
use Rattle.zw_text.specs.declared.entry.Entry.TheVariants.{Refused}
use Rattle.serial_frame.specs.Frame.{FrameParts}
use Rattle.host_heard.specs.Telling.{heard_at}
use Rattle.host_node.specs.Search.{next_of}
use Rattle.host_model.specs.After.{after}
use Rattle.host_model.specs.Did.{after_all as after_events, outs_all}
use Rattle.host_model.specs.Outs.{answers}
use Rattle.host_model.specs.Events.{HostEvent, Starts, Gives_text, Gives_segment}
use Rattle.host_model.specs.May.{May}
use Rattle.host_model.specs.State.{HostState}
use Rattle.host_model.specs.declared.out.HostOut.{HostOut}
use Rattle.host_model.specs.declared.out.HostOut.TheVariants.{Write, Note}
use Rattle.outside_model.specs.Did.{happens_all as happens_all_outside}
use Rattle.outside_model.specs.Events.{OuterEvent, Begins_line, Begins_tick, Host_notes, Host_takes as host_takes, has_entered, outcome, happens as happens_outside}
use Rattle.outside_model.specs.State.{OuterState, Outside}
use Rattle.world_model.specs.Events.{Event, Outside_does, Host_does, Host_takes, Decoder_ticks, Refuses, Shows_values, Restarts, happens, notes, shown_values}
use Rattle.world_model.specs.State.{Machine, begun_in, host_does, noted_by, routed, routed_one}
use Rattle.proof_spoken.proofs.Keeping.{GivesNoPart, served_same}
use Rattle.proof_answered.proofs.Followed.{FollowersAre, payload_all}
use Rattle.proof_answered.proofs.Judging.{EachFollows}
use Rattle.proof_in_time.specs.InHand.{ticks_begun}
use Rattle.proof_answered.proofs.Times.{IsWithin, outcome_time}

-- ---- which node was served last

-- an event that gives a part of an attempt of a node
abbrev pub IsPartOf : HostEvent → ℕ → Type 0
IsPartOf (Starts k plan more payload) node = k ≡ node
IsPartOf (Gives_text k payload) node = k ≡ node
IsPartOf (Gives_segment k more payload) node = k ≡ node
IsPartOf event node = ⊥

-- so the one that was next is served last
pub record ServesNext (h : HostState) (event : HostEvent) : Type 0 where
  pub node : ℕ
  pub is_next : next_of h.nodes h.served ≡ Some node
  pub served : (after h event).served ≡ node
  pub part : IsPartOf event node

pub served_now : (h : HostState) (event : HostEvent) → May h event → ((after h event).served ≡ h.served) ⊎ ServesNext h event
served_now h (Starts n plan more payload) may = inr (record { node = n; is_next = may.0.next; served = refl; part = refl })
served_now h (Gives_text n payload) may = inr (record { node = n; is_next = may.0.next; served = refl; part = refl })
served_now h (Gives_segment n more payload) may = inr (record { node = n; is_next = may.0.next; served = refl; part = refl })
served_now h event may = inl (served_same h event tt)

-- so none of the events that a payload leads to, nor any that the host is told
no_part_follows : (n : ℕ) → FollowersAre GivesNoPart n
no_part_follows n = record {
  unread = λ payload. tt;
  unkept = tt;
  old = λ id. tt;
  works = λ id. tt;
  finishes = λ session id command status wake. tt;
  offers = tt;
  gives = λ drawn. tt;
  spends = tt;
  in_vain = λ payload. tt;
  takes = λ seen text. tt;
  resends = λ payload. tt;
  hears = λ setting. tt;
  no_room = λ property. tt;
}

pub each_no_part : (Says : FrameParts → Type 0) (joined : List Bool) → EachFollows GivesNoPart Says joined
each_no_part Says joined = record {
  hears = λ item. tt;
  told = λ event told. tt;
  brings = λ h n payload events member says is. payload_all GivesNoPart n (no_part_follows n) h payload (heard_at payload) events (λ tells. tt) is;
}

pub events_served : (h : HostState) (events : List HostEvent) → AllByRecursion GivesNoPart events → (after_events h events).served ≡ h.served
events_served h [] none = refl
events_served h (event ∷ events) none = events_served (after h event) events none.1 ∙ served_same h event none.0

-- ---- how many ticks have begun

abbrev pub clock_of : Outside → ℕ
clock_of w = w.outer.clock

entered_clock : (o : OuterState) (told : List Entry) → (has_entered o told).clock ≡ o.clock
entered_clock o [] = refl
entered_clock o (entry ∷ told) = refl

pub outside_clock : (w : Outside) (event : OuterEvent) → IsWithin event → clock_of (happens_outside w event) ≡ clock_of w
outside_clock w event within = entered_clock (outcome w event).outer (outcome w event).entries ∙ ap (λ (t : Bool × Bool × ℕ). t.2) (outcome_time w event within)

all_clock : (w : Outside) (events : List OuterEvent) → AllByRecursion IsWithin events → clock_of (happens_all_outside w events) ≡ clock_of w
all_clock w [] within = refl
all_clock w (event ∷ events) within = all_clock (happens_outside w event) events within.1 ∙ outside_clock w event within.0

noted_within : (begun : Option (ℕ × ℕ)) (entry : Entry) → AllByRecursion IsWithin (noted_by begun entry)
noted_within None entry = (tt, tt)
noted_within (Some begun) entry = (tt, (tt, tt))

one_within : (out : HostOut) → AllByRecursion IsWithin (routed_one out)
one_within (Write unit) = (tt, tt)
one_within (Note entry) = noted_within (begun_in entry) entry

routed_within : (outs : List HostOut) → AllByRecursion IsWithin (routed outs)
routed_within [] = tt
routed_within (out ∷ outs) = all-append IsWithin (routed_one out) (routed outs) (one_within out) (routed_within outs)

notes_within : (entries : List Entry) → AllByRecursion IsWithin (notes entries)
notes_within [] = tt
notes_within (entry ∷ entries) = (tt, notes_within entries)

-- no tick begins at it
abbrev pub BeginsNone : OuterEvent → Type 0
BeginsNone Begins_tick = ⊥
BeginsNone event = Unit {0}

abbrev pub BeginsNoTick : Event → Type 0
BeginsNoTick (Outside_does event) = BeginsNone event
BeginsNoTick event = Unit {0}

outer_clock : (w : Outside) (event : OuterEvent) → BeginsNone event → clock_of (happens_outside w event) ≡ clock_of w
unfolding outcome
outer_clock w Begins_line none = refl
outer_clock w Begins_tick none = absurd none
outer_clock w event none = outside_clock w event tt

pub event_clock : (m : Machine) (event : Event) → BeginsNoTick event → ticks_begun (happens m event) ≡ ticks_begun m
unfolding happens
event_clock m (Outside_does event) none = outer_clock m.outside event none
event_clock m (Host_does event) none =
    all_clock (host_does m (event ∷ [])).outside (notes (answers m.host.state event)) (notes_within (answers m.host.state event))
    ∙ all_clock m.outside (routed (outs_all m.host.state (event ∷ []))) (routed_within (outs_all m.host.state (event ∷ [])))
event_clock m (Host_takes count rest items events) none =
    all_clock (happens_outside m.outside (host_takes count)) (routed (outs_all m.host.state events)) (routed_within (outs_all m.host.state events)) ∙ outside_clock m.outside (host_takes count) tt
event_clock m Decoder_ticks none = refl
event_clock m (Refuses line refusal) none = outside_clock m.outside (Host_notes (Refused refusal)) tt
event_clock m (Shows_values node) none = outside_clock m.outside (Host_notes (shown_values m.host.state node)) tt
event_clock m (Restarts state) none = refl

pub tick_clock : (m : Machine) → ticks_begun (happens m (Outside_does Begins_tick)) ≡ ticks_begun m + 1
unfolding happens outcome
tick_clock m = refl
