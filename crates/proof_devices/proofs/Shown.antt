-- What a transcript shows to have come to a node grows with what is heard and with the words of lines, and with nothing else.
use Rattle.std.proofs.Common.{◌≡◌, ◌≢◌, ℕ, ◌+◌, ◌==◌, Bool, true, false, if◌then◌else◌, List, [], ◌∷◌, ◌++◌, refl, sym, ap, ◌∙◌, append-nil, arith}
use Rattle.std.proofs.lemmas.Bool.{ne_eqb, eqb-true}
use Rattle.std.specs.Prelude.{Option, Some, None}
use Rattle.zw_text.specs.declared.line.Line.{Line}
use Rattle.zw_text.specs.declared.line.Line.TheVariants as lines
use Rattle.zw_text.specs.declared.entry.Entry.{Entry}
use Rattle.zw_text.specs.declared.entry.Entry.TheVariants as entry
use Rattle.zw_text.specs.Transcript.{AirFrame, line_of, lines_run}
use Rattle.device_sim.specs.State.{State}
use Rattle.device_sim.specs.Event.{DeviceEvent, device_after}
use Rattle.law_transcript.specs.Lists.{shown_after}
use Rattle.law_transcript.specs.Nodes.{controller}
use Rattle.law_transcript.specs.Repeats.{frame_of}
use Rattle.law_transcript.specs.Restarts.{ticks_asked}
use Rattle.law_transcript.specs.Units.{Carried}
use Rattle.law_transcript.specs.Carrying.{homeward}
use Rattle.law_transcript.specs.Devices.{ComingAt, coming_of, ticks_in, ticks_lived, comings, after_events, lived_by, brought_by, asked_by, brought_at, brought}
use Rattle.proof_air.proofs.Shown.{shown_both}
use Rattle.proof_devices.specs.Living.{LivedWith, IsActing}
use Rattle.proof_devices.proofs.Quiet.{IsQuiet, AreQuiet}

-- ---- what comes to a node

pub quiet_at : (node : ℕ) (past : List Entry) (e : Entry) → IsQuiet e → brought_at node past e ≡ []
quiet_at node past (entry.Said words) quiet = absurd quiet
quiet_at node past (entry.Heard frame) quiet = absurd quiet
quiet_at node past e quiet = refl

none_shown : (node : ℕ) (past told : List Entry) → AreQuiet told → shown_after (brought_at node) past told ≡ []
none_shown node past [] quiet = refl
none_shown node past (e ∷ told) quiet =
    ap (λ (l : List ComingAt). l ++ shown_after (brought_at node) (past ++ e ∷ []) told) (quiet_at node past e quiet.0) ∙ none_shown node (past ++ e ∷ []) told quiet.1

pub still_brought : (node : ℕ) (past told : List Entry) → AreQuiet told → brought node (past ++ told) ≡ brought node past
still_brought node past told quiet =
    shown_both (brought_at node) [] past told ∙ (ap (λ (l : List ComingAt). brought node past ++ l) (none_shown node past told quiet) ∙ append-nil (brought node past))

-- that a frame is heard, and what is quiet after it
pub heard_brought : (node : ℕ) (past : List Entry) (number : ℕ) (told : List Entry) → AreQuiet told
    → brought node (past ++ entry.Heard number ∷ told) ≡ brought node past ++ brought_by node (lived_by past) (frame_of past number)
heard_brought node past number told quiet =
    shown_both (brought_at node) [] past (entry.Heard number ∷ told)
    ∙ ap (λ (l : List ComingAt). brought node past ++ l)
    (ap (λ (l : List ComingAt). brought_by node (lived_by past) (frame_of past number) ++ l) (none_shown node (past ++ entry.Heard number ∷ []) told quiet)
    ∙ append-nil (brought_by node (lived_by past) (frame_of past number)))

-- the words of a line
pub said_brought : (node : ℕ) (past : List Entry) (words : List ℕ) (line : Line) → line_of (entry.Said words) ≡ line ∷ []
    → brought node (past ++ entry.Said words ∷ []) ≡ brought node past ++ asked_by node (ticks_asked (lines_run past)) (line ∷ [])
said_brought node past words line read =
    shown_both (brought_at node) [] past (entry.Said words ∷ [])
    ∙ ap (λ (l : List ComingAt). brought node past ++ l)
    (append-nil (asked_by node (ticks_asked (lines_run past)) (line_of (entry.Said words))) ∙ ap (λ (l : List Line). asked_by node (ticks_asked (lines_run past)) l) read)

-- a line that wakes or sets none brings nothing
pub asks_none : (node ticks : ℕ) (line : Line) → (IsActing line → ⊥) → asked_by node ticks (line ∷ []) ≡ []
asks_none node ticks (lines.Wake at) none = absurd (none tt)
asks_none node ticks (lines.Local at value) none = absurd (none tt)
asks_none node ticks line none = refl

-- ---- frames

-- the frame of a number goes to a node and carries this
pub record IsOut (past : List Entry) (number node : ℕ) (payload : List ℕ) : Type 0 where
  pub frame : AirFrame
  pub found : frame_of past number ≡ Some frame
  pub receiver : frame.receiver ≡ node
  pub payload_is : frame.payload ≡ payload

-- one for the controller brings no other node anything
pub home_brings : (node ticks : ℕ) (found : Option AirFrame) (carried : Carried) → node ≢ controller → homeward found ≡ carried ∷ [] → brought_by node ticks found ≡ []
home_brings node ticks None carried apart home = refl
home_brings node ticks (Some frame) carried apart home = by (frame.receiver == controller) refl home
  where
    by : (b : Bool) → (frame.receiver == controller) ≡ b → if◌then◌else◌ {A = List Carried} b (record { node = frame.sender; payload = frame.payload } ∷ []) [] ≡ carried ∷ []
        → brought_by node ticks (Some frame) ≡ []
    by true is home =
        let receiver : frame.receiver ≡ controller = eqb-true frame.receiver controller is in
        let other : (frame.receiver == node) ≡ false = ne_eqb frame.receiver node (λ same. apart (sym same ∙ receiver)) in
        rw other refl
    by false is home = absurd cc

-- ---- a device has one event more

after_one : (device : State) (events : List DeviceEvent) (event : DeviceEvent) → after_events device (events ++ event ∷ []) ≡ device_after (after_events device events) event
after_one device [] event = refl
after_one device (first ∷ events) event = after_one (device_after device first) events event

pub ticks_one : (events : List DeviceEvent) (event : DeviceEvent) → ticks_lived (events ++ event ∷ []) ≡ ticks_lived events + ticks_in event
ticks_one [] event = omega arith
ticks_one (first ∷ events) event = let rest = ticks_one events event in omega (arith, rest)

-- what else is kept of it may go by all that is known of its events
pub lived_on : (Was Now : List DeviceEvent → Type 0) (ticks : ℕ) (came : List ComingAt) (old new : State) (event : DeviceEvent)
    → ((events : List DeviceEvent) → new ≡ after_events old events → comings events ≡ came → ticks_lived events ≡ ticks → comings (events ++ event ∷ []) ≡ came ++ coming_of ticks event → ticks_lived (events ++ event ∷ []) ≡ ticks + ticks_in event
    → Was events → Now (events ++ event ∷ [])) → LivedWith Was ticks came old new → LivedWith Now (ticks + ticks_in event) (came ++ coming_of ticks event) old (device_after new event)
lived_on Was Now ticks came old new event also lived =
    let comes : comings (lived.events ++ event ∷ []) ≡ came ++ coming_of ticks event
    = shown_both (λ (past : List DeviceEvent) (one : DeviceEvent). coming_of (ticks_lived past) one) [] lived.events (event ∷ [])
    ∙ (ap (λ (l : List ComingAt). l ++ (coming_of (ticks_lived lived.events) event ++ [])) lived.comes
    ∙ (ap (λ (n : ℕ). came ++ (coming_of n event ++ [])) lived.ticked ∙ ap (λ (l : List ComingAt). came ++ l) (append-nil (coming_of ticks event)))) in
    let ticked : ticks_lived (lived.events ++ event ∷ []) ≡ ticks + ticks_in event = ticks_one lived.events event ∙ ap (λ (n : ℕ). n + ticks_in event) lived.ticked in
    record {
      events = lived.events ++ event ∷ [];
      runs = ap (λ (s : State). device_after s event) lived.runs ∙ sym (after_one old lived.events event);
      comes = comes;
      ticked = ticked;
      also = also lived.events lived.runs lived.comes lived.ticked comes ticked lived.also;
    }

pub lived_as : (Was Now : List DeviceEvent → Type 0) (ticks now : ℕ) (came comes : List ComingAt) (old new : State) → now ≡ ticks → comes ≡ came
    → ((events : List DeviceEvent) → comings events ≡ came → ticks_lived events ≡ ticks → Was events → Now events) → LivedWith Was ticks came old new → LivedWith Now now comes old new
lived_as Was Now ticks now came comes old new same shown also lived = record {
  events = lived.events;
  runs = lived.runs;
  comes = lived.comes ∙ sym shown;
  ticked = lived.ticked ∙ sym same;
  also = also lived.events lived.comes lived.ticked lived.also;
}
