-- What the chip writes brings what was heard, or nothing, where it holds of the frames that its port has; and so does all that it is given but payloads.
use Rattle.std.proofs.Common.{◌≡◌, ℕ, List, [], ◌∷◌, ◌++◌, refl, sym, ap, subst, append_assoc, append-nil}
use Rattle.std.specs.Prelude.{Option}
use Rattle.std.specs.List.{AllByRecursion}
use Rattle.zw_base.proofs.Each.{all-weaker}
use Rattle.serial_frame.specs.Items.{unit_text}
use Rattle.serial_frame.specs.declared.unit.Unit.{Unit as LineUnit}
use Rattle.serial_frame.specs.declared.unit.Unit.TheVariants.{Ack, Nak, Can, Framed}
use Rattle.serial_pipes.specs.State.{WayState, mark_for}
use Rattle.serial_pipes.specs.Events.{told, told_by}
use Rattle.route_table.specs.declared.route.Route.{Route}
use Rattle.chip_sim.specs.State.{ChipParts, ChipState}
use Rattle.chip_sim.specs.Events.{ChipEvent, Done, Informed, Forgets, after, outs}
use Rattle.chip_sim.specs.declared.out.ChipOut.{ChipOut}
use Rattle.chip_sim.specs.declared.out.ChipOut.TheVariants.{Write, OnAir, NoRoute, AskInfo, Full}
use Rattle.law_wire.specs.device_sim.State.{State}
use Rattle.zw_words.specs.declared.side.Side.{Side}
use Rattle.zw_words.specs.declared.side.Side.TheVariants.{Host as by_host, Chip as by_chip}
use Rattle.zw_text.specs.declared.entry.Entry.{Entry}
use Rattle.zw_text.specs.declared.entry.Entry.TheVariants as entry
use Rattle.law_wire.specs.law_transcript.Lists.{EachAfter}
use Rattle.law_wire.specs.law_transcript.Units.{bringing_in}
use Rattle.law_wire.specs.law_transcript.Carrying.{heard_home, WereHeard, MayBring}
use Rattle.proof_walk.proofs.Lists.{each-append, each-anywhere}
use Rattle.proof_walk.specs.outside_model.declared.waits.Due.{Due}
use Rattle.proof_walk.specs.outside_model.State.{OuterState, Outside, outside, Outcome, silent as silently, tells, each, and_then, with_chip}
use Rattle.proof_walk.specs.outside_model.Chip.{put_out, chip_does}
use Rattle.proof_walk.specs.outside_model.Results.{frame_ends, gives}
use Rattle.proof_walk.specs.outside_model.Events.{OuterEvent, outcome}
use Rattle.proof_walk.specs.Outside.{Pending, Judging, Dealing, IsNote, IsOfAir}
use Rattle.proof_walk.proofs.Times.{puts_chip}
use Rattle.proof_walk.proofs.Entered.{IsMark, told_by_marks, IsChange}
use Rattle.proof_walk.proofs.Results.{IsResult, Calls, due_goes, end_goes}
use Rattle.proof_walk.proofs.Entering.{IsOfPipe, IsOfPipes, pipes_enter}
use Rattle.proof_air.specs.Carrying.{Brings, PortHas, PendingCome, Holds}
use Rattle.proof_air.proofs.Homes.{brings_stays, port_stays, come_after}
use Rattle.proof_air.proofs.Brought.{response_brings, callback_brings, update_brings}
use Rattle.proof_air.proofs.Ports.{UnitHas, PutHas, PutsHave, Posted, HearsSo, after_has, outs_have}

-- ---- entries that are no unit of the chip

abbrev IsHost : Side → Type 0
IsHost by_host = Unit {0}
IsHost by_chip = ⊥

abbrev pub BringsNone : Entry → Type 0
BringsNone (entry.Written side unit) = IsHost side
BringsNone _ = Unit {0}

abbrev pub BringNone : List Entry → Type 0
BringNone told = AllByRecursion BringsNone told

may_stand : (past : List Entry) (e : Entry) → BringsNone e → MayBring past e
may_stand past (entry.Written by_host unit) none = tt
may_stand past (entry.Written by_chip unit) none = absurd none
may_stand past e none = tt

pub all_stand : (past told : List Entry) → BringNone told → EachAfter MayBring past told
all_stand past told none = each-anywhere MayBring BringsNone may_stand past told none

pipe_none : (e : Entry) → IsOfPipe by_host e → BringsNone e
pipe_none (entry.Written by_host unit) of_pipe = tt
pipe_none (entry.Written by_chip unit) of_pipe = absurd (let bad : by_host ≡ by_chip = of_pipe in cc)
pipe_none e of_pipe = tt

pub pipes_none : (w : Outside) (event : OuterEvent) → IsOfPipes event → BringNone (outcome w event).entries
pipes_none w event is = all-weaker (IsOfPipe by_host) BringsNone pipe_none (outcome w event).entries (pipes_enter w event is)

mark_none : (e : Entry) → IsMark e → BringsNone e
mark_none (entry.Written side unit) mark = absurd mark
mark_none e mark = tt

pub change_none : (e : Entry) → IsChange e → BringsNone e
change_none (entry.Written side unit) change = absurd change
change_none e change = tt

pub note_none : (e : Entry) → IsNote e → BringsNone e
note_none (entry.Written side unit) note = absurd note
note_none e note = tt

pub air_none : (e : Entry) → IsOfAir e → BringsNone e
air_none (entry.Written side unit) of_air = absurd of_air
air_none e of_air = tt

pub marks_none : (side : Side) (way : WayState) (unit : LineUnit) → BringNone (told_by side way.bytes (mark_for way.marks unit) (unit_text unit))
marks_none side way unit = all-weaker IsMark BringsNone mark_none _ (told_by_marks side way.bytes (mark_for way.marks unit) (unit_text unit))

-- ---- what goes on

-- where it is known with these to come, these entries may stand next, and then it is known with those to come
abbrev pub Kept : Pending → Outside → List Entry → Pending → Outside → Type 0
Kept before w told after later = (past : List Entry) → Holds before past w → EachAfter MayBring past told × Holds after (past ++ told) later

pending_stays : (p : Pending) (past told : List Entry) → PendingCome p past → PendingCome p (past ++ told)
pending_stays (Judging ways) past told come = tt
pending_stays (Dealing events) past told come = come_after past told events come

pub quiet : (p : Pending) (w later : Outside) (told : List Entry) → BringNone told → later.outer.chip.state.port ≡ w.outer.chip.state.port → Kept p w told p later
quiet p w later told none is past holds = (
  all_stand past told none,
  record { port = subst (PortHas (Brings (past ++ told))) (sym is) (port_stays past told w.outer.chip.state.port holds.port); come = pending_stays p past told holds.come },
)

-- ---- what the chip does

-- of the port of the chip alone
abbrev pub Puts_on : OuterState → Outcome → Type 0
Puts_on o x = (past : List Entry) → PortHas (Brings past) o.chip.state.port → EachAfter MayBring past x.entries × PortHas (Brings (past ++ x.entries)) x.outer.chip.state.port

pub chip_kept : (p : Pending) (o : OuterState) (x : Outcome) (devices later : List State) → Puts_on o x → Kept p (outside o devices) x.entries p (outside x.outer later)
chip_kept p o x devices later puts past holds = let got = puts past holds.port in (got.0, record { port = got.1; come = pending_stays p past x.entries holds.come })

pub still_on : (o q : OuterState) → q.chip.state.port ≡ o.chip.state.port → Puts_on o (silently q)
still_on o q is past has = (tt, subst (λ (l : List Entry). PortHas (Brings l) q.chip.state.port) (sym (append-nil past)) (subst (PortHas (Brings past)) (sym is) has))

-- one thing after another
both_on : (past : List Entry) (xs ys : List Entry) (o : OuterState) → EachAfter MayBring past xs → EachAfter MayBring (past ++ xs) ys × PortHas (Brings ((past ++ xs) ++ ys)) o.chip.state.port
    → EachAfter MayBring past (xs ++ ys) × PortHas (Brings (past ++ (xs ++ ys))) o.chip.state.port
both_on past xs ys o first later =
    (each-append MayBring past xs ys first later.0, subst (λ (l : List Entry). PortHas (Brings l) o.chip.state.port) (append_assoc past xs ys) later.1)

then_on : (o : OuterState) (first : Outcome) (next : OuterState → Outcome) → Puts_on o first → ((q : OuterState) → Puts_on q (next q)) → Puts_on o (and_then first next)
then_on o first next one later past has =
    let got = one past has in
    both_on past first.entries (next first.outer).entries (next first.outer).outer got.0 (later first.outer (past ++ first.entries) got.1)

unit_on : (past : List Entry) (unit : LineUnit) → UnitHas (Brings past) unit → WereHeard (heard_home past) (bringing_in (unit_text unit))
unit_on past Ack has = tt
unit_on past Nak has = tt
unit_on past Can has = tt
unit_on past (Framed f) has = has

put_on : (past : List Entry) (o : OuterState) (out : ChipOut) → PutHas (Brings past) out → EachAfter MayBring past (put_out o out).entries
put_on past o (Write unit) has = (unit_on past unit has, all_stand (past ++ entry.Written by_chip (unit_text unit) ∷ []) _ (marks_none by_chip o.to_host unit))
put_on past o (OnAir to route payload) has = (tt, tt)
put_on past o NoRoute has = tt
put_on past o (AskInfo node) has = tt
put_on past o Full has = (tt, tt)

put_port : (o : OuterState) (out : ChipOut) → (put_out o out).outer.chip.state.port ≡ o.chip.state.port
put_port o out = ap (λ (c : ChipParts). c.state.port) (puts_chip o out)

unit_stays : (past told : List Entry) (unit : LineUnit) → UnitHas (Brings past) unit → UnitHas (Brings (past ++ told)) unit
unit_stays past told Ack has = tt
unit_stays past told Nak has = tt
unit_stays past told Can has = tt
unit_stays past told (Framed f) has = brings_stays past told f has

put_stays : (past told : List Entry) (out : ChipOut) → PutHas (Brings past) out → PutHas (Brings (past ++ told)) out
put_stays past told (Write unit) has = unit_stays past told unit has
put_stays past told (OnAir to route payload) has = tt
put_stays past told NoRoute has = tt
put_stays past told (AskInfo node) has = tt
put_stays past told Full has = tt

puts_on : (puts : List ChipOut) (o : OuterState) (past : List Entry) → PutsHave (Brings past) puts → PortHas (Brings past) o.chip.state.port
    → EachAfter MayBring past (each put_out o puts).entries × PortHas (Brings (past ++ (each put_out o puts).entries)) (each put_out o puts).outer.chip.state.port
puts_on [] o past have has = still_on o o refl past has
puts_on (out ∷ puts) o past have has =
    let one : Outcome = put_out o out in
    both_on past one.entries (each put_out one.outer puts).entries (each put_out one.outer puts).outer (put_on past o out have.0)
    (puts_on puts one.outer (past ++ one.entries) (all-weaker (PutHas (Brings past)) (PutHas (Brings (past ++ one.entries))) (put_stays past one.entries) puts have.1)
    (subst (PortHas (Brings (past ++ one.entries))) (sym (put_port o out)) (port_stays past one.entries o.chip.state.port has)))

pub posted : (past : List Entry) → Posted (Brings past)
posted past = record { response = response_brings past; callback = callback_brings past; update = update_brings past }

pub does_on : (o : OuterState) (event : ChipEvent) (past : List Entry) → HearsSo (Brings past) event → PortHas (Brings past) o.chip.state.port
    → EachAfter MayBring past (chip_does o event).entries × PortHas (Brings (past ++ (chip_does o event).entries)) (chip_does o event).outer.chip.state.port
unfolding chip_does
does_on o event past hears has =
    puts_on (outs o.chip.state event) (with_chip o (after o.chip.state event)) past (outs_have (Brings past) (posted past) o.chip.state event hears has)
    (after_has (Brings past) (posted past) o.chip.state event hears has)

-- ---- results, of which none is a payload

-- only an entry, and the port stays
tells_on : (o q : OuterState) (told : List Entry) → BringNone told → q.chip.state.port ≡ o.chip.state.port → Puts_on o (tells q told)
tells_on o q told none is past has = (all_stand past told none, subst (PortHas (Brings (past ++ told))) (sym is) (port_stays past told o.chip.state.port has))

result_on : (o : OuterState) (event : ChipEvent) → IsResult event → Puts_on o (chip_does o event)
result_on o (Done status) is past has = does_on o (Done status) past tt has
result_on o (Informed node profile) is past has = does_on o (Informed node profile) past tt has
result_on o event is past has = absurd is

calls : Calls Puts_on
calls = record {
  still = λ o p is. still_on o p (ap (λ (s : ChipState). s.port) is.chip);
  both = then_on;
  later = λ o p x is goes past has. goes past (subst (PortHas (Brings past)) (sym (ap (λ (s : ChipState). s.port) is.chip)) has);
  result = result_on;
}

pub ends_on : (o : OuterState) (status : ℕ) (dead : Option (ℕ × ℕ)) → Puts_on o (frame_ends o status dead)
ends_on o status dead = end_goes Puts_on calls (λ o a b. tells_on o (with_chip o (after o.chip.state (Forgets a b))) (entry.Forget a b ∷ []) (tt, tt) refl) o status dead

pub gives_on : (o : OuterState) (devices : List State) (due : List Due) (route : Option Route) → Puts_on o (gives o devices due route)
gives_on o devices due route = due_goes Puts_on calls o devices due route
