-- What the host puts out at an event is entered as it notes it, after what speaks of no command.
use Rattle.std.proofs.Common.{◌≡◌, ℕ, ◌&&◌, ◌||◌, not, Bool, true, false, if◌then◌else◌, Option, Some, None, List, [], ◌∷◌, ◌++◌, map, refl, ap, sym, ◌∙◌, subst, append_assoc, append-nil}
use Rattle.std.specs.List.{AllByRecursion}
use Rattle.zw_base.proofs.Each.{all-append}
use Rattle.zw_text.specs.declared.entry.Entry.{Entry}
use Rattle.zw_text.specs.declared.entry.Entry.TheVariants.{Time}
use Rattle.serial_frame.specs.Frame.{FrameParts}
use Rattle.serial_frame.specs.declared.unit.Unit.{Unit as LineUnit}
use Rattle.serial_frame.specs.declared.unit.Unit.TheVariants.{Ack, Nak, Can, Framed}
use Rattle.serial_frame.specs.declared.item.Item.{Item}
use Rattle.serial_frame.specs.declared.item.Item.TheVariants.{Good, Refused}
use Rattle.serial_frame.specs.declared.item.Refusal.TheVariants.{Stray, BadLength, BadSum, BadKind, Aborted}
use Rattle.serial_link.specs.State.{copy_due}
use Rattle.proof_host.specs.host_model.State.{HostState}
use Rattle.proof_host.specs.host_model.Events.{HostEvent, Accepts, Cancels, Joins, Queues, Queues_interview, Queues_probe, Hears, Requests_do, Interviews, Interview_unkept, Unreads, Is_unkept, Reports_old, Works, Finishes, Offers, Gives, Spends, Spends_unread, Takes_nonce, Notifies, Resends, Hears_value, Has_no_room, Line_ticks, Node_ticks, Queues_no_more, Drops_no_more, Submits_abort, Submits_front, Starts, Gives_text, Gives_segment, Begins, Begin_unkept}
use Rattle.proof_host.specs.host_model.Outs.{outs, answer_to, copy_out, noted, answers}
use Rattle.proof_host.specs.host_model.declared.out.HostOut.{HostOut}
use Rattle.proof_host.specs.host_model.declared.out.HostOut.TheVariants.{Write, Note}
use Rattle.proof_device.specs.outside_model.State.{Outside, OuterState}
use Rattle.proof_device.specs.outside_model.Events.{Host_writes, Host_notes, Host_begins, happens, entries, outcome, devices_after, ticked_entry}
use Rattle.proof_device.specs.outside_model.Did.{entries_all}
use Rattle.proof_device.specs.world_model.State.{begun_in, noted_by, routed}
use Rattle.proof_device.proofs.HostOuts.{OutsAre}
use Rattle.proof_host.specs.Entries.{IsAside, note_of, notes_of, entries_at}
use Rattle.proof_world.proofs.Aside.{Asides, ticked_aside, write_aside}

-- ---- what a host puts out: units, and then what it notes

pub record Puts (puts : List HostOut) : Type 0 where
  pub units : List LineUnit
  pub entries : List Entry
  pub are : puts ≡ map Write units ++ map Note entries

-- all that is noted is so
pub notes_are : (Is : Entry → Type 0) (puts : List HostOut) → OutsAre Is puts → AllByRecursion Is (notes_of puts)
notes_are Is [] are = tt
notes_are Is (Write unit ∷ puts) are = notes_are Is puts are.1
notes_are Is (Note entry ∷ puts) are = (are.0, notes_are Is puts are.1)

puts_notes : (entries : List Entry) → Puts (noted entries)
puts_notes entries = record { units = []; entries = entries; are = refl }

puts_unit : (unit : LineUnit) → Puts (Write unit ∷ [])
puts_unit unit = record { units = unit ∷ []; entries = []; are = refl }

puts_answer : (item : Item) → Puts (answer_to item)
puts_answer (Good (Framed f)) = puts_unit Ack
puts_answer (Good Ack) = puts_notes []
puts_answer (Good Nak) = puts_notes []
puts_answer (Good Can) = puts_notes []
puts_answer (Refused (BadSum want got)) = puts_unit Nak
puts_answer (Refused (BadKind x)) = puts_unit Nak
puts_answer (Refused (Stray x)) = puts_notes []
puts_answer (Refused (BadLength n)) = puts_notes []
puts_answer (Refused Aborted) = puts_notes []

puts_copy : (copy : Option FrameParts) (entries : List Entry) → Puts (copy_out copy ++ noted entries)
puts_copy None entries = puts_notes entries
puts_copy (Some f) entries = record { units = Framed f ∷ []; entries = entries; are = refl }

pub puts_at : (h : HostState) (event : HostEvent) → Puts (outs h event)
puts_at h (Accepts order carriage) = puts_notes []
puts_at h (Cancels command) = puts_notes []
puts_at h (Joins n) = puts_notes []
puts_at h (Queues task) = puts_notes []
puts_at h (Queues_interview n) = puts_notes []
puts_at h Queues_probe = puts_notes []
puts_at h (Hears item) = puts_answer item
puts_at h (Requests_do event moment) = puts_notes _
puts_at h (Interviews n listens classes update) = puts_notes (_ ∷ [])
puts_at h (Interview_unkept n update) = puts_notes (_ ∷ [])
puts_at h (Unreads n payload) = puts_notes (_ ∷ [])
puts_at h (Is_unkept n) = puts_notes (_ ∷ [])
puts_at h (Reports_old n id) = puts_notes (_ ∷ [])
puts_at h (Works n id) = puts_notes []
puts_at h (Finishes n session id command status wake_request) = puts_notes (_ ∷ _)
puts_at h (Offers n) = puts_notes _
puts_at h (Gives n drawn) = puts_notes _
puts_at h (Spends n) = puts_notes []
puts_at h (Spends_unread n payload) = puts_notes (_ ∷ [])
puts_at h (Takes_nonce n seen text) = puts_notes []
puts_at h (Notifies n) = puts_notes (_ ∷ [])
puts_at h (Resends n payload) = puts_notes _
puts_at h (Hears_value n setting) = puts_notes (_ ∷ [])
puts_at h (Has_no_room n property) = puts_notes (_ ∷ [])
puts_at h Line_ticks = puts_copy (copy_due h.side.turn) _
puts_at h (Node_ticks n) = puts_notes _
puts_at h (Queues_no_more n) = puts_notes []
puts_at h (Drops_no_more n) = puts_notes (_ ∷ [])
puts_at h Submits_abort = puts_unit _
puts_at h Submits_front = puts_unit _
puts_at h (Starts n plan more payload) = puts_unit _
puts_at h (Gives_text n payload) = puts_unit _
puts_at h (Gives_segment n more payload) = puts_unit _
puts_at h (Begins n session command) = puts_notes (_ ∷ [])
puts_at h (Begin_unkept n) = puts_notes (_ ∷ [])

notes_of-append : (a b : List HostOut) → notes_of (a ++ b) ≡ notes_of a ++ notes_of b
notes_of-append [] b = refl
notes_of-append (x ∷ a) b = ap (λ (l : List Entry). note_of x ++ l) (notes_of-append a b) ∙ sym (append_assoc (note_of x) (notes_of a) (notes_of b))

units_note : (units : List LineUnit) → notes_of (map Write units) ≡ []
units_note [] = refl
units_note (u ∷ units) = units_note units

notes_note : (entries : List Entry) → notes_of (map Note entries) ≡ entries
notes_note [] = refl
notes_note (e ∷ entries) = ap (λ (l : List Entry). e ∷ l) (notes_note entries)

-- ---- entries of what is routed

-- These entries stand after others that speak of no command.
pub record Trailing (entries all : List Entry) : Type 0 where
  pub prefix : List Entry
  pub asides : Asides prefix
  pub are : all ≡ prefix ++ entries

pub after_nothing : (entries : List Entry) → Trailing entries entries
after_nothing entries = record { prefix = []; asides = tt; are = refl }

after_more : (before entries all : List Entry) → Asides before → Trailing entries all → Trailing entries (before ++ all)
after_more before entries all aside following = record {
  prefix = before ++ following.prefix;
  asides = all-append IsAside before following.prefix aside following.asides;
  are = ap (λ (l : List Entry). before ++ l) following.are ∙ sym (append_assoc before following.prefix entries);
}

stamped_after : (tick stamped : Bool) → (tick && not (tick || stamped)) ≡ false
stamped_after true stamped = refl
stamped_after false stamped = refl

no_time : (o : OuterState) → (o.in_tick && not o.stamped) ≡ false → ticked_entry o ≡ []
no_time o none = ap (λ (b : Bool). if b then Time o.clock ∷ [] else []) none

-- where the number of the tick is entered, or no tick runs, notes are entered as they are
abbrev AreAsNoted : List Entry → Type 0
AreAsNoted notes = (w : Outside) → (w.outer.in_tick && not w.outer.stamped) ≡ false → entries_all w (routed (map Note notes)) ≡ notes

-- and else the number of the tick comes first
one_noted : (w : Outside) (begun : Option (ℕ × ℕ)) (e : Entry) (notes : List Entry) → AreAsNoted notes
    → entries_all w (noted_by begun e ++ routed (map Note notes)) ≡ ticked_entry w.outer ++ e ∷ notes
unfolding outcome devices_after
one_noted w None e notes rest =
    ap (λ (l : List Entry). (ticked_entry w.outer ++ e ∷ []) ++ l) (rest (happens w (Host_notes e)) (stamped_after w.outer.in_tick w.outer.stamped))
    ∙ append_assoc (ticked_entry w.outer) (e ∷ []) notes
one_noted w (Some begun) e notes rest =
    ap (λ (l : List Entry). (ticked_entry w.outer ++ e ∷ []) ++ l)
    (rest (happens (happens w (Host_begins begun.0 begun.1)) (Host_notes e)) (stamped_after w.outer.in_tick w.outer.stamped))
    ∙ append_assoc (ticked_entry w.outer) (e ∷ []) notes

as_noted : (notes : List Entry) → AreAsNoted notes
as_noted [] w none = refl
as_noted (e ∷ notes) w none = one_noted w (begun_in e) e notes (as_noted notes) ∙ ap (λ (l : List Entry). l ++ e ∷ notes) (no_time w.outer none)

notes_after : (w : Outside) (notes : List Entry) → Trailing notes (entries_all w (routed (map Note notes)))
notes_after w [] = after_nothing []
notes_after w (e ∷ notes) = record { prefix = ticked_entry w.outer; asides = ticked_aside w.outer; are = one_noted w (begun_in e) e notes (as_noted notes) }

units_after : (w : Outside) (units : List LineUnit) (notes : List Entry) → Trailing notes (entries_all w (routed (map Write units ++ map Note notes)))
units_after w [] notes = notes_after w notes
units_after w (u ∷ units) notes =
    after_more (entries w (Host_writes u)) notes (entries_all (happens w (Host_writes u)) (routed (map Write units ++ map Note notes))) (write_aside w u)
    (units_after (happens w (Host_writes u)) units notes)

-- what a host puts out is entered after others
pub puts_after : (w : Outside) (puts : List HostOut) → Puts puts → Trailing (notes_of puts) (entries_all w (routed puts))
puts_after w puts is =
    let noted_are : notes_of puts ≡ is.entries =
    ap (λ (l : List HostOut). notes_of l) is.are
    ∙ (notes_of-append (map Write is.units) (map Note is.entries)
    ∙ (ap (λ (l : List Entry). l ++ notes_of (map Note is.entries)) (units_note is.units) ∙ notes_note is.entries)) in
    subst (λ (l : List Entry). Trailing l (entries_all w (routed puts))) (sym noted_are)
    (subst (λ (l : List HostOut). Trailing is.entries (entries_all w (routed l))) (sym is.are) (units_after w is.units is.entries))

-- ---- answers

answered : (w : Outside) (e : Entry) → Trailing (e ∷ []) (entries_all w (Host_notes e ∷ []))
unfolding outcome
answered w e = record { prefix = ticked_entry w.outer; asides = ticked_aside w.outer; are = append-nil (ticked_entry w.outer ++ e ∷ []) }

own_after : (w : Outside) (h : HostState) (event : HostEvent) → Trailing (notes_of (outs h event)) (entries_all w (routed (outs h event)) ++ [])
own_after w h event =
    subst (λ (l : List Entry). Trailing (notes_of (outs h event)) l) (sym (append-nil (entries_all w (routed (outs h event))))) (puts_after w (outs h event) (puts_at h event))

-- what an event enters, with the answer to the line that asked for it
pub event_following : (w v : Outside) (h : HostState) (event : HostEvent)
    → Trailing (entries_at h event) (entries_all w (routed (outs h event)) ++ entries_all v (map Host_notes (answers h event)))
event_following w v h (Accepts order carriage) = answered v _
event_following w v h (Cancels command) = answered v _
event_following w v h (Joins n) = own_after w h (Joins n)
event_following w v h (Queues task) = own_after w h (Queues task)
event_following w v h (Queues_interview n) = own_after w h (Queues_interview n)
event_following w v h Queues_probe = own_after w h Queues_probe
event_following w v h (Hears item) = own_after w h (Hears item)
event_following w v h (Requests_do event moment) = own_after w h (Requests_do event moment)
event_following w v h (Interviews n listens classes update) = own_after w h (Interviews n listens classes update)
event_following w v h (Interview_unkept n update) = own_after w h (Interview_unkept n update)
event_following w v h (Unreads n payload) = own_after w h (Unreads n payload)
event_following w v h (Is_unkept n) = own_after w h (Is_unkept n)
event_following w v h (Reports_old n id) = own_after w h (Reports_old n id)
event_following w v h (Works n id) = own_after w h (Works n id)
event_following w v h (Finishes n session id command status wake_request) = own_after w h (Finishes n session id command status wake_request)
event_following w v h (Offers n) = own_after w h (Offers n)
event_following w v h (Gives n drawn) = own_after w h (Gives n drawn)
event_following w v h (Spends n) = own_after w h (Spends n)
event_following w v h (Spends_unread n payload) = own_after w h (Spends_unread n payload)
event_following w v h (Takes_nonce n seen text) = own_after w h (Takes_nonce n seen text)
event_following w v h (Notifies n) = own_after w h (Notifies n)
event_following w v h (Resends n payload) = own_after w h (Resends n payload)
event_following w v h (Hears_value n setting) = own_after w h (Hears_value n setting)
event_following w v h (Has_no_room n property) = own_after w h (Has_no_room n property)
event_following w v h Line_ticks = own_after w h Line_ticks
event_following w v h (Node_ticks n) = own_after w h (Node_ticks n)
event_following w v h (Queues_no_more n) = own_after w h (Queues_no_more n)
event_following w v h (Drops_no_more n) = own_after w h (Drops_no_more n)
event_following w v h Submits_abort = own_after w h Submits_abort
event_following w v h Submits_front = own_after w h Submits_front
event_following w v h (Starts n plan more payload) = own_after w h (Starts n plan more payload)
event_following w v h (Gives_text n payload) = own_after w h (Gives_text n payload)
event_following w v h (Gives_segment n more payload) = own_after w h (Gives_segment n more payload)
event_following w v h (Begins n session command) = own_after w h (Begins n session command)
event_following w v h (Begin_unkept n) = own_after w h (Begin_unkept n)
