-- What the chip puts on the air goes to a node that has a place, and is none of the controller's own.
use Rattle.std.proofs.Common.{◌≡◌, ◌≤◌, ◌<◌, ℕ, ◌&&◌, Bool, true, false, if◌then◌else◌, List, [], ◌∷◌, ◌-◌, ◌==◌, length, length-set, filter, refl, sym, subst, ◌∙◌, inl, inr, ◌⊎◌}
use Rattle.std.proofs.lemmas.List.{get_or_past}
use Rattle.std.proofs.lemmas.Bool.{cases_lt}
use Rattle.std.specs.Prelude.{Option, Some, None}
use Rattle.std.specs.List.{AllByRecursion}
use Rattle.serial_frame.specs.Frame.{FrameParts}
use Rattle.serial_frame.specs.declared.item.Item.{Item}
use Rattle.route_table.specs.declared.route.Route.{Route}
use Rattle.chip_functions.specs.declared.request.Request.{Request}
use Rattle.chip_functions.specs.declared.request.Request.TheVariants.{SendData, SendDataAbort}
use Rattle.chip_sim.specs.State.{ChipState}
use Rattle.chip_sim.specs.declared.out.Sending.{Sending}
use Rattle.chip_sim.specs.Did.{after_all}
use Rattle.chip_functions.specs.declared.notice.TransmitStatus.{TransmitStatus}
use Rattle.chip_sim.specs.Nodes.{is_marked}
use Rattle.chip_sim.specs.Answers.{is_idle, takes}
use Rattle.chip_sim.specs.Requests.{IsWayIf, HasWay, JudgedWay, asked, heard, passed, sent, given_if, stopped, reply_to, performed, requested, judged_frame}
use Rattle.chip_sim.specs.Events.{ChipEvent, Judged, Ticked, Heard, Done, Informed, Joined, Linked, Forgets, Collides, collides, ended, after, outs, May}
use Rattle.chip_sim.specs.Rules.{is_start, requested_starts, judged_starts, starts}
use Rattle.chip_sim.specs.declared.out.ChipOut.{ChipOut}
use Rattle.chip_sim.specs.declared.out.ChipOut.TheVariants.{Write, OnAir, NoRoute, AskInfo, Full}
use Rattle.proof_air.proofs.Airing.{IsPlace}

-- a frame for the air goes to such a node
abbrev pub GoesWell : ChipOut → Type 0
GoesWell (OnAir to route payload) = IsPlace to
GoesWell _ = Unit {0}

abbrev pub AllGoWell : List ChipOut → Type 0
AllGoWell puts = AllByRecursion GoesWell puts

-- where those that begin a SendData do, all do
all_go : (puts : List ChipOut) → AllGoWell (filter is_start puts) → AllGoWell puts
all_go [] well = tt
all_go (Write unit ∷ puts) well = (tt, all_go puts well)
all_go (OnAir to route payload ∷ puts) well = (well.0, all_go puts well.1)
all_go (NoRoute ∷ puts) well = (tt, all_go puts well.1)
all_go (AskInfo node ∷ puts) well = (tt, all_go puts well)
all_go (Full ∷ puts) well = (tt, all_go puts well)

-- ---- a SendData that is taken

pub both_true : (a b : Bool) → a && b ≡ true → (a ≡ true) × (b ≡ true)
both_true true b is = (refl, is)
both_true false b is = let none : false ≡ true = is in absurd cc

module _ (s : ChipState) (many : length s.joined ≡ 233) where
  marked_within : (n : ℕ) → is_marked s.joined n ≡ true → n < 233
  marked_within n marked = by (cases_lt n (length s.joined))
    where
      by : (n < length s.joined) ⊎ (length s.joined ≤ n) → n < 233
      by (inl below) = subst (λ (k : ℕ). n < k) many below
      by (inr past) = let out : false ≡ true = sym (get_or_past s.joined n false past) ∙ marked in absurd cc

  taken_within : (n : ℕ) (payload : List ℕ) → takes s n payload ≡ true → n < 233
  taken_within n payload is =
      marked_within n (both_true (is_marked s.joined n) _ (both_true (is_idle s.sending) _ is).1).0

  sent_well : (n : ℕ) (payload : List ℕ) (way : Option Route) → n < 233 → IsWayIf true s.table n way → AllGoWell (sent n payload way)
  sent_well n payload None within way = (tt, tt)
  sent_well n payload (Some route) within way = ((within, way.not_home), tt)

  data_well : (b : Bool) (n : ℕ) (payload : List ℕ) (way : Option Route) → takes s n payload ≡ b → IsWayIf b s.table n way → AllGoWell (if b then sent n payload way else [])
  data_well true n payload way is has = sent_well n payload way (taken_within n payload is) has
  data_well false n payload way is has = tt

  request_well : (request : Option Request) (way : Option Route) → HasWay request s way → AllGoWell (requested_starts request s way)
  request_well None way has = tt
  request_well (Some (SendData n payload options id)) way has = data_well (takes s n payload) n payload way refl has
  request_well (Some request) way has = tt

  frame_well : (found : Option FrameParts) (way : Option Route) → JudgedWay found s way → AllGoWell (judged_starts found s way)
  frame_well None way has = tt
  frame_well (Some f) way has = request_well (asked f) way has

-- ---- events of the chip

-- what begins a SendData is what the chip's rules say (`rules_of_events` of chip_sim)
abbrev pub StartsSo : Type 0
StartsSo = (s : ChipState) (event : ChipEvent) → filter is_start (outs s event) ≡ starts s event

-- an event that judges nothing
abbrev pub JudgesNone : ChipEvent → Type 0
JudgesNone (Judged item way) = ⊥
JudgesNone event = Unit {0}

-- what puts nothing on the air
abbrev pub NoFrame : ChipOut → Type 0
NoFrame (OnAir to route payload) = ⊥
NoFrame _ = Unit {0}

module _ (rules : StartsSo) where
  from_starts : (s : ChipState) (event : ChipEvent) → AllGoWell (starts s event) → AllGoWell (outs s event)
  from_starts s event well = all_go (outs s event) (subst AllGoWell (sym (rules s event)) well)

  pub judged_well : (s : ChipState) (item : Item) (way : Option Route) → length s.joined ≡ 233 → May s (Judged item way) → AllGoWell (outs s (Judged item way))
  judged_well s item way many may = from_starts s (Judged item way) (frame_well (heard s item) many (passed (collides s) item) way may)

  starts_none : (s : ChipState) (event : ChipEvent) → JudgesNone event → starts s event ≡ []
  starts_none s (Judged item way) none = absurd none
  starts_none s event none = refl

  no_frames : (puts : List ChipOut) → filter is_start puts ≡ [] → AllByRecursion NoFrame puts
  no_frames [] none = tt
  no_frames (Write unit ∷ puts) none = (tt, no_frames puts none)
  no_frames (OnAir to route payload ∷ puts) none = let is : OnAir to route payload ∷ filter is_start puts ≡ [] = none in absurd cc
  no_frames (NoRoute ∷ puts) none = let is : NoRoute ∷ filter is_start puts ≡ [] = none in absurd cc
  no_frames (AskInfo node ∷ puts) none = (tt, no_frames puts none)
  no_frames (Full ∷ puts) none = (tt, no_frames puts none)

  pub none_flies : (s : ChipState) (event : ChipEvent) → JudgesNone event → AllByRecursion NoFrame (outs s event)
  none_flies s event none = no_frames (outs s event) (rules s event ∙ starts_none s event none)

-- ---- the nodes that the chip knows

performed_joined : (request : Request) (s : ChipState) → length (performed request s).joined ≡ length s.joined
performed_joined (SendData n payload options id) s = by (takes s n payload)
  where
    by : (b : Bool) → length (if b then record s { sending = Some (record { node = n; callback_id = id }) } else s).joined ≡ length s.joined
    by true = refl
    by false = refl
performed_joined SendDataAbort s = by s.sending
  where
    by : (sending : Option Sending) → length (stopped sending s).joined ≡ length s.joined
    by None = refl
    by (Some sending) = refl
performed_joined request s = refl

given_joined : (reply : Option FrameParts) (s : ChipState) → length (given_if s reply).joined ≡ length s.joined
given_joined None s = refl
given_joined (Some f) s = refl

requested_joined : (request : Option Request) (s : ChipState) → length (requested request s).joined ≡ length s.joined
requested_joined None s = refl
requested_joined (Some request) s = performed_joined request (given_if s (reply_to s request)) ∙ given_joined (reply_to s request) s

frame_joined : (found : Option FrameParts) (s : ChipState) → length (judged_frame found s).joined ≡ length s.joined
frame_joined None s = refl
frame_joined (Some f) s = requested_joined (asked f) s

done_joined : (b : Bool) (s : ChipState) (status : TransmitStatus) → length (if b then ended s.sending s status else record s { aborted = s.aborted - 1 }).joined ≡ length s.joined
done_joined true s status = by s.sending
  where
    by : (sending : Option Sending) → length (ended sending s status).joined ≡ length s.joined
    by None = refl
    by (Some sending) = refl
done_joined false s status = refl

pub after_joined : (s : ChipState) (event : ChipEvent) → length (after s event).joined ≡ length s.joined
after_joined s (Judged item way) = frame_joined (passed (collides s) item) (heard s item)
after_joined s Ticked = refl
after_joined s (Heard n payload) = refl
after_joined s (Done status) = done_joined (s.aborted == 0) s status
after_joined s (Informed n profile) = refl
after_joined s (Joined n listening) = length-set s.joined n true
after_joined s (Linked a b live) = refl
after_joined s (Forgets a b) = refl
after_joined s Collides = refl

pub all_joined : (events : List ChipEvent) (s : ChipState) → length (after_all s events).joined ≡ length s.joined
all_joined [] s = refl
all_joined (event ∷ events) s = all_joined events (after s event) ∙ after_joined s event
