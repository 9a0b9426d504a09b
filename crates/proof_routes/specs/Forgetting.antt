-- What is known of the frames on the air (this project's own rule): between which ends and over which way each of them goes, and whether it arrives nowhere. That is enough to say
-- what becomes of a frame that arrives, and which hop of one that nobody heard is dead.
use Rattle.std.specs.Prelude.{◌≡◌, ◌≢◌, ◌≤◌, ◌⊎◌, ℕ, ◌+◌, ◌-◌, ◌==◌, ◌&&◌, ◌||◌, not, nat_lt, Bool, List, [], ◌∷◌, filter, map, drop, length}
use Rattle.std.specs.List.{AllByRecursion}
use Rattle.route_table.specs.Network.{Link}
use Rattle.route_table.specs.declared.route.Route.{Route}
use Rattle.route_table.specs.Route.{via}
use Rattle.air_frames.specs.declared.frame.Heading.{Heading}
use Rattle.air_frames.specs.declared.frame.Heading.TheVariants.{Outward, Homeward}
use Rattle.air_frames.specs.Flown.{Flown}
use Rattle.air_frames.specs.Frames.{FramesState, kept}
use Rattle.zw_text.specs.declared.line.Line.{Line}
use Rattle.zw_text.specs.declared.line.Line.TheVariants.{Lose}
use Rattle.zw_text.specs.declared.entry.Entry.{Entry}
use Rattle.zw_text.specs.declared.entry.Entry.TheVariants.{Air}
use Rattle.law_wire.specs.law_transcript.Fates.{marks_asked, marks_left}
use Rattle.law_wire.specs.law_transcript.Lists.{shown_after}
use Rattle.law_wire.specs.law_transcript.Nodes.{controller}
use Rattle.law_wire.specs.Arriving.{hops, forgets, IsForgotten}
use Rattle.law_wire.specs.Networks.{are_linked, air_links}
use Rattle.outside_model.specs.Events.{OuterEvent, Loses}
use Rattle.proof_walk.specs.world_model.State.{Machine}
use Rattle.proof_walk.specs.world_model.Lines.{IsEffect}
use Rattle.proof_walk.specs.Outside.{CoversOuter}
use Rattle.proof_walk.specs.Phases.{Phase, Said_line, Begun, Doing}

-- ---- the law

-- a hop that is to be forgotten is entered, and no other is
abbrev pub MayForget : List Entry → Entry → Type 0
MayForget past e = IsForgotten (forgets past) e

-- ---- passages

-- from a sender to a receiver over repeaters; whether it arrives nowhere
pub record Passage : Type 0 where
  pub sender : ℕ
  pub receiver : ℕ
  pub over : List ℕ
  pub lost : Bool

-- a frame of a device whose way has a hop that is no link
abbrev pub has_no_way : List Link → ℕ → List ℕ → ℕ → Bool
has_no_way links sender over receiver =
    not (sender == controller) && not (length (filter (λ hop. not (are_linked links hop.from hop.to)) (hops sender over receiver)) == 0)

-- that of a frame: one that uses up a mark of `lose` arrives nowhere, nor does one of a device without a way
abbrev pub passage_at : List Entry → Entry → List Passage
passage_at past (Air frame sender receiver repeaters payload) = record {
  sender = sender;
  receiver = receiver;
  over = repeaters;
  lost = nat_lt 0 (marks_left past) || has_no_way (air_links past) sender repeaters receiver;
} ∷ []
passage_at past _ = []

-- those of a transcript
abbrev pub passages : List Entry → List Passage
passages past = shown_after passage_at [] past

abbrev pub passage_by : Heading → ℕ → Route → Bool → Passage
passage_by Outward node route lost = record { sender = controller; receiver = node; over = via route; lost = lost }
passage_by Homeward node route lost = record { sender = node; receiver = controller; over = via route; lost = lost }

abbrev pub passage_flown : Flown → Passage
passage_flown frame = passage_by frame.heading frame.node frame.route frame.lost

-- it goes from one node to another
abbrev pub IsApartFrom : Passage → Type 0
IsApartFrom passage = passage.sender ≢ passage.receiver

-- the air has sent these, and keeps the last of them
pub record HasPassages (shown : List Passage) (state : FramesState) : Type 0 where
  pub sent : state.sent ≡ length shown
  pub order : state.landed ≤ state.sent
  pub stay : map passage_flown state.frames ≡ drop (state.sent - kept state.sent state.landed) shown
  pub apart : AllByRecursion IsApartFrom shown

-- ---- marks

-- an event that marks no frames
abbrev pub LosesNone : OuterEvent → Type 0
LosesNone (Loses count) = ⊥
LosesNone event = Unit {0}

-- a line that does
abbrev pub IsLosing : Line → Type 0
IsLosing (Lose count) = Unit {0}
IsLosing line = ⊥

-- as many are left as the air has
abbrev pub HasMarks : List Entry → Machine → Type 0
HasMarks past m = marks_left past ≡ m.outside.outer.air.losing

-- with those that the line asks for, which are counted with its words
abbrev pub AwaitsMarks : Line → List Entry → Machine → Type 0
AwaitsMarks line past m = marks_left past ≡ m.outside.outer.air.losing + marks_asked (line ∷ [])

-- ---- at each phase of a line

abbrev pub KnowMarks : Phase → List Entry → Machine → Type 0
KnowMarks (Said_line line) past m = AwaitsMarks line past m
KnowMarks (Begun line) past m = AwaitsMarks line past m
KnowMarks (Doing line left) past m = (IsLosing line × IsEffect line m left × AwaitsMarks line past m) ⊎ (AllByRecursion (CoversOuter LosesNone) left × HasMarks past m)
KnowMarks here past m = HasMarks past m

-- no hop is to be forgotten
abbrev pub KnowsFrames : List Entry → Machine → Type 0
KnowsFrames past m = HasPassages (passages past) m.outside.outer.air.frames × (forgets past ≡ [])

abbrev pub KnowPassages : Phase → List Entry → Machine → Type 0
KnowPassages here past m = KnowsFrames past m × KnowMarks here past m
