-- Outputs of the chip that neither go on the air nor wait for a result.
use Rattle.std.proofs.Common.{◌≡◌, ℕ, ◌+◌, Bool, true, false, if◌then◌else◌, Option, Some, None, List, [], ◌∷◌, ◌++◌, length, refl, ap, sym, subst, ◌∙◌, arith}
use Rattle.std.specs.Option.{is_some}
use Rattle.std.specs.List.{AllByRecursion}
use Rattle.serial_frame.specs.Frame.{FrameParts}
use Rattle.serial_frame.specs.declared.item.Item.{Item}
use Rattle.serial_frame.specs.declared.item.Item.TheVariants.{Good, Refused}
use Rattle.serial_frame.specs.declared.item.Refusal.TheVariants.{Stray, BadLength, BadSum, BadKind, Aborted}
use Rattle.serial_frame.specs.declared.unit.Unit.TheVariants.{Ack, Nak, Can, Framed}
use Rattle.serial_link.specs.declared.turn.Turn.{Turn}
use Rattle.serial_link.specs.declared.turn.Turn.TheVariants.{Idle, Copied, Paused}
use Rattle.chip_sim.specs.declared.out.ChipOut.{ChipOut}
use Rattle.chip_sim.specs.declared.out.ChipOut.TheVariants.{Write, OnAir, NoRoute, AskInfo, Full}
use Rattle.chip_sim.specs.State.{ChipState}
use Rattle.chip_sim.specs.Waiting.{PortState, is_full, queued_outs_at, queued_outs, next_at, written, served_outs}
use Rattle.chip_sim.specs.Requests.{answer_outs, given_outs}
use Rattle.chip_sim.specs.Events.{ChipEvent, after, outs}
use Rattle.air_frames.specs.Flown.{Flown}
use Rattle.air_frames.specs.History.{Mark}
use Rattle.proof_traffic.specs.Flights.{Fly}
use Rattle.proof_device.specs.outside_model.declared.waits.Due.{Due}
use Rattle.proof_device.specs.outside_model.declared.waits.Due.TheVariants.{Info}
use Rattle.proof_device.specs.outside_model.declared.waits.Call.{Call}
use Rattle.proof_device.specs.outside_model.State.{OuterState, with_chip, each}
use Rattle.proof_device.specs.outside_model.Chip.{put_out, chip_does}
use Rattle.proof_device.specs.mesh_sim.Air.{AirState}
use Rattle.proof_traffic.specs.Requests.{Traffic}
use Rattle.proof_traffic.specs.Facts.{flying_in}
use Rattle.proof_traffic.specs.OutsideTraffic.{flags, no_routes_due, without_frame, Follows}

abbrev pub IsMild : ChipOut → Type 0
IsMild (Write unit) = Unit {0}
IsMild (OnAir to route payload) = ⊥
IsMild NoRoute = ⊥
IsMild (AskInfo node) = Unit {0}
IsMild Full = Unit {0}

abbrev pub AreMild : List ChipOut → Type 0
AreMild outs = AllByRecursion IsMild outs

pub mild-append : (a b : List ChipOut) → AreMild a → AreMild b → AreMild (a ++ b)
mild-append [] b first later = later
mild-append (out ∷ a) b first later = (first.0, mild-append a b first.1 later)

-- the chip, the air and the calls are as they were, and as many results without a route are due
pub record Untouched (o p : OuterState) : Type 0 where
  pub chip : p.chip.state ≡ o.chip.state
  pub air : p.air ≡ o.air
  pub calls : p.calls ≡ o.calls
  pub due : no_routes_due p.due ≡ no_routes_due o.due

pub untouched_both : (a b c : OuterState) → Untouched a b → Untouched b c → Untouched a c
untouched_both a b c first later = record { chip = later.chip ∙ first.chip; air = later.air ∙ first.air; calls = later.calls ∙ first.calls; due = later.due ∙ first.due }

pub no_routes-append : (a b : List Due) → no_routes_due (a ++ b) ≡ no_routes_due a + no_routes_due b
no_routes-append [] b = omega arith
no_routes-append (due ∷ a) b = omega (arith, no_routes-append a b)

put_mild : (o : OuterState) (out : ChipOut) → IsMild out → Untouched o (put_out o out).outer
put_mild o (Write unit) mild = record { chip = refl; air = refl; calls = refl; due = refl }
put_mild o (OnAir to route payload) mild = absurd mild
put_mild o NoRoute mild = absurd mild
put_mild o (AskInfo node) mild = record { chip = refl; air = refl; calls = refl; due = no_routes-append o.due (Info node ∷ []) ∙ no_more (no_routes_due o.due) }
  where
    no_more : (n : ℕ) → n + 0 ≡ n
    no_more n = omega arith
put_mild o Full mild = record { chip = refl; air = refl; calls = refl; due = refl }

pub each_mild : (o : OuterState) (outs : List ChipOut) → AreMild outs → Untouched o (each put_out o outs).outer
each_mild o [] mild = record { chip = refl; air = refl; calls = refl; due = refl }
each_mild o (out ∷ outs) mild =
    untouched_both o (put_out o out).outer (each put_out (put_out o out).outer outs).outer (put_mild o out mild.0) (each_mild (put_out o out).outer outs mild.1)

pub each-append : (o : OuterState) (a b : List ChipOut) → (each put_out o (a ++ b)).outer ≡ (each put_out (each put_out o a).outer b).outer
each-append o [] b = refl
each-append o (out ∷ a) b = each-append (put_out o out).outer a b

-- ---- which are mild

pub written_mild : (f : Option FrameParts) → AreMild (written f)
written_mild None = tt
written_mild (Some f) = (tt, tt)

full_mild : (b : Bool) → AreMild (if b then Full ∷ [] else [])
full_mild true = (tt, tt)
full_mild false = tt

queued_at_mild : (turn : Turn) (p : PortState) (f : FrameParts) → AreMild (queued_outs_at turn p f)
queued_at_mild Idle p f = (tt, tt)
queued_at_mild (Copied g copies ticks) p f = full_mild (is_full p.waiting)
queued_at_mild (Paused g copies ticks) p f = full_mild (is_full p.waiting)

pub queued_mild : (p : PortState) (f : FrameParts) → AreMild (queued_outs p f)
queued_mild p f = queued_at_mild p.side.turn p f

pub given_mild : (s : ChipState) (f : Option FrameParts) → AreMild (given_outs s f)
given_mild s None = tt
given_mild s (Some f) = queued_mild s.port f

pub served_mild : (p : PortState) → AreMild (served_outs p)
served_mild p = written_mild (next_at p.side.turn p.waiting)

pub answer_mild : (collides : Bool) (item : Item) → AreMild (answer_outs collides item)
answer_mild collides (Good Ack) = tt
answer_mild collides (Good Nak) = tt
answer_mild collides (Good Can) = tt
answer_mild true (Good (Framed f)) = (tt, tt)
answer_mild false (Good (Framed f)) = (tt, tt)
answer_mild collides (Refused (Stray x)) = tt
answer_mild collides (Refused (BadLength n)) = tt
answer_mild collides (Refused (BadSum want got)) = (tt, tt)
answer_mild collides (Refused (BadKind x)) = (tt, tt)
answer_mild collides (Refused Aborted) = tt

-- ---- the course follows

-- the chip is at another moment, with the same payloads under way
pub record SameChip (s r : ChipState) : Type 0 where
  pub aborted : r.aborted ≡ s.aborted
  pub sending : is_some r.sending ≡ is_some s.sending
  pub joined : length r.joined ≡ length s.joined

pub follows_chip : (t : Traffic) (log : List Mark) (flights : List Flown) (o : OuterState) (r : ChipState) → SameChip o.chip.state r → Follows t log flights o → Follows t log flights (with_chip o r)
follows_chip t log flights o r same f = record {
  knows = record { aborted = f.knows.aborted ∙ sym same.aborted; sending = f.knows.sending ∙ sym same.sending; calls = f.knows.calls };
  await = record { frames = f.await.frames; results = f.await.results };
  fly = f.fly;
  joined = same.joined ∙ f.joined;
}

pub follows_untouched : (t : Traffic) (log : List Mark) (flights : List Flown) (o p : OuterState) → Untouched o p → Follows t log flights o → Follows t log flights p
follows_untouched t log flights o p u f = record {
  knows = record {
    aborted = f.knows.aborted ∙ ap (λ (s : ChipState). s.aborted) (sym u.chip);
    sending = f.knows.sending ∙ ap (λ (s : ChipState). is_some s.sending) (sym u.chip);
    calls = f.knows.calls ∙ ap flags (sym u.calls);
  };
  await = record {
    frames = f.await.frames ∙ ap (λ (c : List Call). flying_in (flags c)) (sym u.calls);
    results = u.due ∙ f.await.results ∙ ap (λ (c : List Call). without_frame (flags c)) (sym u.calls);
  };
  fly = subst (λ (a : AirState). Fly log flights a.frames) (sym u.air) f.fly;
  joined = ap (λ (s : ChipState). length s.joined) u.chip ∙ f.joined;
}

-- an event of the chip that touches no payload under way, and puts out nothing but these
pub does_mild : (t : Traffic) (log : List Mark) (flights : List Flown) (o : OuterState) (event : ChipEvent) → SameChip o.chip.state (after o.chip.state event) → AreMild (outs o.chip.state event) → Follows t log flights o
    → Follows t log flights (chip_does o event).outer
unfolding chip_does
does_mild t log flights o event same mild f =
    follows_untouched t log flights (with_chip o (after o.chip.state event)) (each put_out (with_chip o (after o.chip.state event)) (outs o.chip.state event)).outer
    (each_mild (with_chip o (after o.chip.state event)) (outs o.chip.state event) mild) (follows_chip t log flights o (after o.chip.state event) same f)
