-- What units and drops of the chip leave of what it waits for: its calls, what is due and the air; and how it looks then.
use Rattle.std.proofs.Common.{◌≡◌, ℕ, ◌+◌, Bool, true, false, if◌then◌else◌, List, [], ◌∷◌, refl, ap, ap₂, ◌∙◌}
use Rattle.std.specs.Prelude.{Option, Some, None}
use Rattle.std.specs.List.{AllByRecursion}
use Rattle.serial_frame.specs.Frame.{FrameParts}
use Rattle.serial_frame.specs.declared.item.Item.{Item}
use Rattle.serial_frame.specs.declared.item.Item.TheVariants.{Good, Refused}
use Rattle.serial_frame.specs.declared.item.Refusal.TheVariants.{Stray, BadLength, BadSum, BadKind, Aborted}
use Rattle.serial_frame.specs.declared.unit.Unit.TheVariants.{Ack, Nak, Can, Framed}
use Rattle.serial_link.specs.declared.turn.Turn.{Turn}
use Rattle.serial_link.specs.declared.turn.Turn.TheVariants.{Idle, Copied, Paused}
use Rattle.chip_sim.specs.Waiting.{PortState, is_full, queued_outs_at, written}
use Rattle.chip_sim.specs.State.{ChipState}
use Rattle.chip_sim.specs.Requests.{answer_outs, given_outs}
use Rattle.chip_sim.specs.declared.out.ChipOut.{ChipOut}
use Rattle.chip_sim.specs.declared.out.ChipOut.TheVariants.{Write, OnAir, NoRoute, AskInfo, Full}
use Rattle.mesh_sim.specs.Air.{AirState}
use Rattle.outside_model.specs.declared.waits.Call.{Call}
use Rattle.outside_model.specs.declared.waits.Due.{Due}
use Rattle.outside_model.specs.State.{OuterState, each}
use Rattle.outside_model.specs.Chip.{put_out}
use Rattle.std.specs.Option.{is_some}
use Rattle.law_transcript.specs.Lists.{last_or}
use Rattle.proof_line.specs.proof_traffic.OnAir.{on_air}
use Rattle.proof_line.specs.proof_traffic.OutsideTraffic.{flags}
use Rattle.proof_chip.specs.Tally.{Outlook, infos_in, numbers_from, outlook}

-- ---- what is left as it is

pub record Rests (o p : OuterState) : Type 0 where
  pub calls : p.calls ≡ o.calls
  pub due : p.due ≡ o.due
  pub air : p.air ≡ o.air

-- ---- units and drops

abbrev pub LeavesAll : ChipOut → Type 0
LeavesAll (Write unit) = Unit {0}
LeavesAll Full = Unit {0}
LeavesAll out = ⊥

abbrev pub AreLeaving : List ChipOut → Type 0
AreLeaving puts = AllByRecursion LeavesAll puts

pub rests_none : (o : OuterState) → Rests o o
rests_none o = record { calls = refl; due = refl; air = refl }

pub rests_both : (o p q : OuterState) → Rests o p → Rests p q → Rests o q
rests_both o p q first later = record { calls = later.calls ∙ first.calls; due = later.due ∙ first.due; air = later.air ∙ first.air }

put_rests : (out : ChipOut) (o : OuterState) → LeavesAll out → Rests o (put_out o out).outer
put_rests (Write unit) o leaves = record { calls = refl; due = refl; air = refl }
put_rests Full o leaves = record { calls = refl; due = refl; air = refl }
put_rests (OnAir to route payload) o leaves = absurd leaves
put_rests NoRoute o leaves = absurd leaves
put_rests (AskInfo node) o leaves = absurd leaves

pub each_rests : (puts : List ChipOut) (o : OuterState) → AreLeaving puts → Rests o (each put_out o puts).outer
each_rests [] o leaves = rests_none o
each_rests (out ∷ puts) o leaves = rests_both o (put_out o out).outer (each put_out o (out ∷ puts)).outer (put_rests out o leaves.0) (each_rests puts (put_out o out).outer leaves.1)

full_leaves : (b : Bool) → AreLeaving (if b then Full ∷ [] else [])
full_leaves true = (tt, tt)
full_leaves false = tt

pub queued_leaves : (turn : Turn) (port : PortState) (f : FrameParts) → AreLeaving (queued_outs_at turn port f)
queued_leaves Idle port f = (tt, tt)
queued_leaves (Copied g copies ticks) port f = full_leaves (is_full port.waiting)
queued_leaves (Paused g copies ticks) port f = full_leaves (is_full port.waiting)

pub given_leaves : (s : ChipState) (o : Option FrameParts) → AreLeaving (given_outs s o)
given_leaves s None = tt
given_leaves s (Some f) = queued_leaves s.port.side.turn s.port f

pub written_leaves : (next : Option FrameParts) → AreLeaving (written next)
written_leaves None = tt
written_leaves (Some f) = (tt, tt)

pub answer_leaves : (b : Bool) (item : Item) → AreLeaving (answer_outs b item)
answer_leaves b (Good Ack) = tt
answer_leaves b (Good Nak) = tt
answer_leaves b (Good Can) = tt
answer_leaves true (Good (Framed f)) = (tt, tt)
answer_leaves false (Good (Framed f)) = (tt, tt)
answer_leaves b (Refused (Stray x)) = tt
answer_leaves b (Refused (BadLength n)) = tt
answer_leaves b (Refused (BadSum want got)) = (tt, tt)
answer_leaves b (Refused (BadKind x)) = (tt, tt)
answer_leaves b (Refused Aborted) = tt

-- ---- how it looks

-- what the chip waits for, and the numbers of its frames on the air
pub record Stays (o p : OuterState) : Type 0 where
  pub calls : p.calls ≡ o.calls
  pub due : p.due ≡ o.due
  pub numbers : numbers_from (p.air.frames.landed + 1) (on_air p.air.frames) ≡ numbers_from (o.air.frames.landed + 1) (on_air o.air.frames)

abbrev look_by : Bool → List Call → List ℕ → List Due → ℕ → Outlook
look_by sending calls numbers due clock = record { sending = sending; by_frame = last_or false (flags calls); numbers = numbers; infos = infos_in due; clock = clock }

pub stays_looks : (o p : OuterState) → Stays o p → is_some p.chip.state.sending ≡ is_some o.chip.state.sending → p.clock ≡ o.clock → outlook p ≡ outlook o
stays_looks o p stays sending clock =
    ap₂ (λ (b : Bool) (calls : List Call). look_by b calls (outlook p).numbers p.due p.clock) sending stays.calls
    ∙ (ap₂ (λ (numbers : List ℕ) (due : List Due). look_by (is_some o.chip.state.sending) o.calls numbers due p.clock) stays.numbers stays.due
    ∙ ap (λ (n : ℕ). look_by (is_some o.chip.state.sending) o.calls (outlook o).numbers o.due n) clock)

pub rests_stay : (o p : OuterState) → Rests o p → Stays o p
rests_stay o p rests = record { calls = rests.calls; due = rests.due; numbers = ap (λ (a : AirState). numbers_from (a.frames.landed + 1) (on_air a.frames)) rests.air }

pub rests_look : (o p : OuterState) → Rests o p → is_some p.chip.state.sending ≡ is_some o.chip.state.sending → p.clock ≡ o.clock → outlook p ≡ outlook o
rests_look o p rests sending clock = stays_looks o p (rests_stay o p rests) sending clock
