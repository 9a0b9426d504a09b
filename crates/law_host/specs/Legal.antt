-- Whether a run of `sim` is legal (this project's own rule): the laws of lines, devices, air, serial line, chip and host that every run keeps,
-- as one.
use Rattle.std.specs.Prelude.{◌≡◌, ℕ, Bool, true, false, List, [], Option, Some, IfSome}
use Rattle.law_time.specs.law_transcript.device_stack.State.{State}
use Rattle.zw_text.specs.declared.entry.Entry.{Entry}
use Rattle.law_time.specs.law_transcript.Answers.{AnswersLines, CancelsWhenAsked}
use Rattle.law_time.specs.law_transcript.Carrying.{BringsWhatWasHeard, CarriesUnits}
use Rattle.law_time.specs.law_transcript.Devices.{RanAsShown}
use Rattle.law_time.specs.law_transcript.Fates.{FaresInTurn, LosesMarked, NumbersFrames}
use Rattle.law_time.specs.law_transcript.Lists.{EachAfter}
use Rattle.law_time.specs.law_transcript.Nodes.{always, device_of, listing_of}
use Rattle.law_time.specs.law_transcript.Payloads.{SendsWhatIsDue}
use Rattle.law_time.specs.law_transcript.Records.{KeepsRecords}
use Rattle.law_time.specs.law_transcript.Stores.{StoresConfirmed}
use Rattle.law_time.specs.law_wire.Answering.{ServesHost}
use Rattle.law_time.specs.law_wire.Arriving.{ForgetsDeadHops, LandsInTime, MeetsWhatIsDue, RepeatsWhatIsAsked}
use Rattle.law_time.specs.law_wire.Clearing.{ClearsLine}
use Rattle.law_time.specs.law_wire.Doings.{DoesAtOnce, DoneByDevices}
use Rattle.law_time.specs.law_wire.Halted.{RanAsFar}
use Rattle.law_time.specs.law_wire.Links.{KeepsLinks}
use Rattle.law_time.specs.law_wire.Marks.{CollidesWhenAsked, MarksUnits}
use Rattle.law_time.specs.law_wire.Pipes.{OverrunsWhenFull}
use Rattle.law_time.specs.law_wire.Routes.{GoesByRoute}
use Rattle.law_time.specs.law_wire.Serial.{ended}
use Rattle.law_time.specs.law_wire.Shown.{ShowsDevices}
use Rattle.law_time.specs.law_wire.Times.{TellsTime}
use Rattle.law_host.specs.Heard.{heard_by_host}
use Rattle.law_host.specs.HostLegal.{IsLegalAlone, ShowsValues}
use Rattle.law_host.specs.Notes.{first_start}

-- the device of a node did what came to it, as far as the run went
abbrev pub DidAsShown : Bool → ℕ → List Entry → State → State → Type 0
DidAsShown true node transcript old new = RanAsShown node transcript old new
DidAsShown false node transcript old new = RanAsFar node transcript old new

-- the first device of each node did, at once, and nothing is done by a node without one
pub record DevicesDid (whole : Bool) (before after : List State) (transcript : List Entry) : Type 0 where
  pub each : (node : ℕ) (old new : State) → device_of node before ≡ Some old → device_of node after ≡ Some new → DidAsShown whole node transcript old new
  pub at_once : (node : ℕ) (old : State) → device_of node before ≡ Some old → DoesAtOnce node old (ended whole transcript)
  pub alone : DoneByDevices before transcript

-- frames are numbered and go by their routes; each meets its fate when it is due, in the tick after, or is heard again as a line asks; dead hops are
-- forgotten
pub record IsLegalOnAir (whole : Bool) (devices : List State) (transcript : List Entry) : Type 0 where
  pub numbers : NumbersFrames transcript
  pub routes : GoesByRoute devices transcript
  pub fares : FaresInTurn (ended whole transcript)
  pub lands : LandsInTime (ended whole transcript)
  pub meets : MeetsWhatIsDue devices transcript
  pub loses : LosesMarked transcript
  pub repeats : RepeatsWhatIsAsked devices (ended whole transcript)
  pub forgets : ForgetsDeadHops (ended whole transcript)

-- both sides keep the rules of the serial link; units are lost, changed, refused and cleared as lines ask, and overrun where there is no room; the
-- chip puts on the air what it was sent, and serves the host with what it heard; the number of each tick is told
pub record IsLegalOnLine (whole : Bool) (devices : List State) (transcript : List Entry) : Type 0 where
  pub links : KeepsLinks whole transcript
  pub marks : MarksUnits (ended whole transcript)
  pub collides : CollidesWhenAsked transcript
  pub overruns : OverrunsWhenFull (ended whole transcript)
  pub clears : ClearsLine whole transcript
  pub carries : CarriesUnits transcript
  pub brings : BringsWhatWasHeard transcript
  pub serves : ServesHost whole devices transcript
  pub times : TellsTime (ended whole transcript)

-- lines are answered, devices do what comes to them, air and serial line keep their laws; over what it heard of the run the host is legal and prompt as
-- one alone is; it sends what is due by what devices list, takes back what it is asked to and stores what is confirmed; what lines ask for of devices
-- and stored values is shown; and its records, where they are told, say what it showed
pub record IsLegal (key : List ℕ) (before after : List State) (whole : Bool) (transcript : List Entry)
    (told : Option (List (List ℕ))) : Type 0 where
  pub answers : AnswersLines whole before transcript
  pub devices : DevicesDid whole before after transcript
  pub air : IsLegalOnAir whole before transcript
  pub line : IsLegalOnLine whole before transcript
  pub host : IsLegalAlone key first_start whole (heard_by_host transcript) told
  pub sends : SendsWhatIsDue (always (listing_of before)) key transcript
  pub cancels : CancelsWhenAsked transcript
  pub stores : StoresConfirmed whole (always (listing_of before)) transcript
  pub shows : ShowsDevices before (ended whole transcript)
  pub values : EachAfter (ShowsValues (always (listing_of before))) [] (ended whole transcript)
  pub records : whole ≡ true → IfSome told (KeepsRecords transcript)
