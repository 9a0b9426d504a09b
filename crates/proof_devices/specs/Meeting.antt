-- Which fate of a frame is due, over the ways of frames that the transcript shows, in order (this project's own rule): so it is judged without asking where in the transcript a frame went on the air.
use Rattle.std.specs.Prelude.{◌≡◌, ℕ, suc, ◌==◌, ◌&&◌, ◌||◌, not, Bool, true, false, if◌then◌else◌, List, filter, length, slice_get, Some, ⊤}
use Rattle.device_sim.specs.State.{State}
use Rattle.zw_text.specs.declared.entry.Entry.{Entry}
use Rattle.zw_text.specs.declared.entry.Entry.TheVariants.{Heard, Lost, Unheard}
use Rattle.zw_text.specs.Transcript.{Fate}
use Rattle.zw_text.specs.Transcript.Fate.{WasHeard, WasLost, WasUnheard}
use Rattle.law_transcript.specs.Nodes.{controller, device_of}
use Rattle.law_transcript.specs.Restarts.{repeats}
use Rattle.law_wire.specs.Arriving.{hops, hears_again, is_awake}
use Rattle.law_wire.specs.Networks.{are_linked, air_links}
use Rattle.world_model.specs.State.{Machine}
use Rattle.proof_air.specs.proof_walk.Phases.{Phase}
use Rattle.proof_air.specs.proof_walk.Walk.{both_know}
use Rattle.proof_routes.specs.Forgetting.{Passage, passages, KnowPassages}
use Rattle.proof_routes.specs.Knowing.{KnowNetworks}
use Rattle.proof_devices.specs.Answering as answering

-- what becomes of a frame with these ends and this way that arrives now
abbrev pub fate_over : List State → List Entry → Bool → ℕ → List ℕ → ℕ → Fate
fate_over devices past lost sender over receiver =
    if lost then WasLost
    else if (length (filter (λ hop. not (are_linked (air_links past) hop.from hop.to)) (hops sender over receiver)) == 0)
    && ((receiver == controller) || is_awake past (device_of receiver devices)) then WasHeard else WasUnheard

-- the frame of that number, which has this way, meets this
pub record Meets (devices : List State) (past : List Entry) (number : ℕ) (fate : Fate) : Type 0 where
  pub at : ℕ
  pub number_is : number ≡ suc at
  pub passage : Passage
  pub there : slice_get (passages past) at ≡ Some passage
  pub fate_is : fate_over devices past passage.lost passage.sender passage.over passage.receiver ≡ fate

-- a frame is heard in its tick where that is due, or at a line that repeats it where somebody hears it
abbrev pub IsHeardSo : Bool → List State → List Entry → ℕ → Type 0
IsHeardSo true devices past number = hears_again devices past number ≡ true
IsHeardSo false devices past number = Meets devices past number WasHeard

abbrev pub MayMeetSo : List State → List Entry → Entry → Type 0
MayMeetSo devices past (Heard number) = IsHeardSo (repeats past) devices past number
MayMeetSo devices past (Lost number) = Meets devices past number WasLost
MayMeetSo devices past (Unheard number) = Meets devices past number WasUnheard
MayMeetSo devices past _ = ⊤

-- where the networks and the ways of frames are known beside the history of the air, time and the devices
abbrev pub Ground : List State → Phase → List Entry → Machine → Type 0
Ground devices = both_know (answering.Ground devices) (both_know (KnowNetworks devices) KnowPassages)

-- nothing more is known
abbrev pub KnowNothing : Phase → List Entry → Machine → Type 0
KnowNothing here past m = Unit {0}
