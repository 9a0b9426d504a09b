-- Answers of the chip are judged before a host alone goes on: elsewhere what has come is frames alone.
use Rattle.std.proofs.Common.{◌≡◌, inl, inr, List, [], ◌∷◌, ◌++◌, sym, subst}
use Rattle.zw_base.proofs.Each.{all-append}
use Rattle.serial_frame.specs.declared.unit.Unit.{Unit as LineUnit}
use Rattle.zw_text.specs.declared.entry.Entry.{Entry}
use Rattle.proof_messages.specs.host_model.Events.{HostEvent}
use Rattle.proof_waking.specs.proof_alone.State.{HostMachine}
use Rattle.proof_waking.specs.proof_alone.Steps.{AreFrames, IsFramed, Step, Tells, Comes, Misses, Says, Says_nothing, Asks, Refuses, Shows, Restarts, Begins_tick, Numbers, Judges, Does, entries, happens}
use Rattle.proof_waking.specs.proof_alone.Phases.{Phase, Resting, Asked, Risen, Ticking, Open, Behind, Sleeping, Submitting, MayCome, May, Turns}
use Rattle.proof_waking.specs.proof_alone.Runs.{Knowledge, WalkOver}
use Rattle.proof_requests.specs.Walking.{CameAt, KnowsCame}

came_to : (next phase : Phase) (came : List LineUnit) → next ≡ phase → CameAt phase came → CameAt next came
came_to next phase came is known = subst (λ (p : Phase). CameAt p came) (sym is) known

came_at : (here phase : Phase) (came : List LineUnit) → here ≡ phase → CameAt here came → CameAt phase came
came_at here phase came is known = subst (λ (p : Phase). CameAt p came) is known

-- one more unit comes
more_frames : (came : List LineUnit) (unit : LineUnit) → IsFramed unit → AreFrames came → AreFrames (came ++ unit ∷ [])
more_frames came unit framed frames = all-append IsFramed came (unit ∷ []) frames (framed, tt)

frame_came : (here : Phase) (came : List LineUnit) (unit : LineUnit) → IsFramed unit → CameAt here came → CameAt here (came ++ unit ∷ [])
frame_came Open came unit framed known = tt
frame_came (Behind left) came unit framed known = tt
frame_came Sleeping came unit framed known = tt
frame_came Resting came unit framed known = more_frames came unit framed known
frame_came (Asked line) came unit framed known = more_frames came unit framed known
frame_came Risen came unit framed known = more_frames came unit framed known
frame_came (Ticking left) came unit framed known = more_frames came unit framed known
frame_came Submitting came unit framed known = more_frames came unit framed known

comes : (here : Phase) (came : List LineUnit) (unit : LineUnit) → MayCome here unit → CameAt here came → CameAt here (came ++ unit ∷ [])
comes here came unit (inl framed) known = frame_came here came unit framed known
comes here came unit (inr there) known = came_to here Open (came ++ unit ∷ []) there tt

does : (here next : Phase) (past : List Entry) (m : HostMachine) (event : HostEvent) (told : List Entry) → May here m (Does event told) next → CameAt here m.came → CameAt next m.came
does (Ticking (first ∷ left)) next past m event told may known = came_to next (Ticking left) m.came may.0.1 known
does (Behind (first ∷ left)) next past m event told may known = came_to next (Behind left) m.came may.0.1 tt
does Sleeping next past m event told may known =
    let (node, wants, is, next_is) = may.0 in came_to next Sleeping m.came next_is tt
does Submitting next past m event told may known = came_to next Submitting m.came may.0.1 known
does (Ticking []) next past m event told may known = absurd may.0
does (Behind []) next past m event told may known = absurd may.0
does Resting next past m event told may known = absurd may.0
does (Asked line) next past m event told may known = absurd may.0
does Risen next past m event told may known = absurd may.0
does Open next past m event told may known = absurd may.0

step_goes : (here next : Phase) (past : List Entry) (m : HostMachine) (one : Step) → May here m one next → KnowsCame here past m → KnowsCame next (past ++ entries m one) (happens m one)
step_goes here next past m (Tells e) may known = came_to next here m.came may.3 known
step_goes here next past m (Comes unit) may known = came_to next here (m.came ++ unit ∷ []) may.2 (comes here m.came unit may.3 known)
step_goes here next past m (Misses text marks) may known = came_to next here m.came may.3 known
step_goes here next past m (Says words line) may known = came_to next (Asked line) m.came may.3 (came_at here Resting m.came may.0 known)
step_goes here next past m (Says_nothing words) may known = came_to next here m.came may.3 known
step_goes here next past m (Asks event) may known = came_to next Open m.came may.5 tt
step_goes here next past m (Refuses refusal) may known = came_to next Open m.came may.4 tt
step_goes here next past m (Shows node) may known = came_to next Open m.came may.2 tt
step_goes here next past m (Restarts state) may known = came_to next Open [] may.2 tt
step_goes here next past m (Begins_tick left) may known = came_to next Risen m.came may.2 (came_at here Resting m.came may.0 known)
step_goes here next past m Numbers may known = came_to next here m.came may.1 known
step_goes here next past m (Judges item rest behind told) may known = came_to next (Behind behind) rest may.2 tt
step_goes here next past m (Does event told) may known = does here next past m event told may known

turn_goes : (here next : Phase) (past : List Entry) (m : HostMachine) → Turns here m next → KnowsCame here past m → KnowsCame next past m
turn_goes Resting next past m is known = came_to next Open m.came is tt
turn_goes (Asked line) next past m (inl (nothing, is)) known = came_to next Open m.came is tt
turn_goes (Asked line) next past m (inr (ticks, line_is, is)) known = came_to next Resting m.came is known
turn_goes Risen next past m is known = came_to next (Ticking _) m.came is known
turn_goes (Ticking []) next past m is known = came_to next Open m.came is tt
turn_goes (Ticking (first ∷ left)) next past m is known = absurd is
turn_goes Open next past m is known = came_to next Sleeping m.came is tt
turn_goes (Behind []) next past m is known = came_to next Open m.came is tt
turn_goes (Behind (first ∷ left)) next past m is known = absurd is
turn_goes Sleeping next past m is known = came_to next Submitting m.came is.1 is.2
turn_goes Submitting next past m is known = came_to next Resting m.came is.1 known

pub came_walk : (Below : Knowledge) (First : List Entry → Entry → Type 0) → WalkOver Below First First KnowsCame
came_walk Below First = record {
  step = λ here next past m one may ground stand known. (stand, step_goes here next past m one may known);
  turn = λ here next past m turns ground known. turn_goes here next past m turns known;
}
