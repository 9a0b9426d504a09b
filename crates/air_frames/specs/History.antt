-- All frames ever sent, with the sessions that began between them, and the ages that they give (this project's own rule,
-- docs/AIR.md).
use Rattle.std.specs.Prelude.{◌≡◌, ℕ, zero, suc, ◌+◌, ◌-◌, ◌<◌, ◌≤◌, ◌==◌, ◌&&◌, nat_lt, Bool, true, false, if◌then◌else◌, Option, Some, None, List, [], ◌∷◌, ◌++◌, length, drop}
use Rattle.air_frames.specs.declared.ages.Refusal.{Refusal}
use Rattle.air_frames.specs.declared.ages.Refusal.TheVariants.{NeverSent, Forgotten}
use Rattle.air_frames.specs.declared.frame.Departure.{Departure}
use Rattle.air_frames.specs.declared.frame.Heading.{Heading}
use Rattle.air_frames.specs.declared.frame.Heading.TheVariants.{Outward, Homeward}
use Rattle.air_frames.specs.Nonces.{nonce_in, is_news, last_of}
use Rattle.air_frames.specs.Flown.{Flown}
use Rattle.air_frames.specs.Frames.{FramesState, peer_of, kept}
use Rattle.air_frames.specs.Ages.{stale_by}

-- a frame goes on the air, or a session of a node begins
pub data Mark : Type 0 where
  Goes : (departure : Departure) → Mark
  Begins : (node : ℕ) → Mark

-- how many frames were sent
abbrev pub goes_in : List Mark → ℕ
goes_in [] = 0
goes_in (Goes departure ∷ log) = suc (goes_in log)
goes_in (Begins node ∷ log) = goes_in log

-- how many sessions of a node began
abbrev pub begins_in : ℕ → List Mark → ℕ
begins_in node [] = 0
begins_in node (Goes departure ∷ log) = begins_in node log
begins_in node (Begins other ∷ log) = (if other == node then 1 else 0) + begins_in node log

-- the two directions are one
abbrev pub same_heading : Heading → Heading → Bool
same_heading Outward Outward = true
same_heading Outward Homeward = false
same_heading Homeward Outward = false
same_heading Homeward Homeward = true

-- the nonce of the report, if there is one, or the one before
abbrev pub later_nonce : Option (List ℕ) → Option (List ℕ) → Option (List ℕ)
later_nonce None before = before
later_nonce (Some nonce) before = Some nonce

-- the nonce that the frame's sender showed its receiver last, after it and the one before
abbrev pub last_after : ℕ → Heading → Departure → Option (List ℕ) → Option (List ℕ)
last_after node heading departure before =
    if (departure.node == node) && same_heading departure.heading heading then later_nonce (nonce_in departure.payload) before else before

-- the nonce that was last shown between node 1 and a node in a direction, where there was one before
abbrev pub last_in : ℕ → Heading → Option (List ℕ) → List Mark → Option (List ℕ)
last_in node heading before [] = before
last_in node heading before (Goes departure ∷ log) = last_in node heading (last_after node heading departure before) log
last_in node heading before (Begins other ∷ log) = last_in node heading before log

-- 1 where a nonce is news
abbrev pub news_by : Option (List ℕ) → Option (List ℕ) → ℕ
news_by last None = 0
news_by last (Some nonce) = if is_news last nonce then 1 else 0

-- 1 where the frame is between node 1 and the node and a Nonce Report whose nonce is the first that its sender showed its
-- receiver, or another than the one that it showed last, after the log so far
abbrev pub new_in : ℕ → List Mark → Departure → ℕ
new_in node log departure =
    if departure.node == node then news_by (last_in node departure.heading None log) (nonce_in departure.payload) else 0

-- how many such frames follow a log
abbrev pub news_after : ℕ → List Mark → List Mark → ℕ
news_after node log [] = 0
news_after node log (Goes departure ∷ more) = new_in node log departure + news_after node (log ++ Goes departure ∷ []) more
news_after node log (Begins other ∷ more) = news_after node (log ++ Begins other ∷ []) more

-- the marks up to the frame of that number, counted from 0, and those after it
abbrev pub through : List Mark → ℕ → List Mark
through [] number = []
through (Goes departure ∷ log) zero = Goes departure ∷ []
through (Goes departure ∷ log) (suc number) = Goes departure ∷ through log number
through (Begins node ∷ log) number = Begins node ∷ through log number

abbrev pub since : List Mark → ℕ → List Mark
since [] number = []
since (Goes departure ∷ log) zero = log
since (Goes departure ∷ log) (suc number) = since log number
since (Begins node ∷ log) number = since log number

-- the frame of that number, counted from 0
abbrev pub departure_at : List Mark → ℕ → Option Departure
departure_at [] number = None
departure_at (Goes departure ∷ log) zero = Some departure
departure_at (Goes departure ∷ log) (suc number) = departure_at log number
departure_at (Begins node ∷ log) number = departure_at log number

-- how many later sessions of a node began since that frame
abbrev pub Later : List Mark → ℕ → ℕ → ℕ
Later log node number = begins_in node (since log number)

-- how many new nonces were shown since that frame between node 1 and a node
abbrev pub NewNonces : List Mark → ℕ → ℕ → ℕ
NewNonces log node number = news_after node (through log number) (since log number)

-- the frames with the counts of their nodes as they stood, after a log
abbrev pub stamped : List Mark → List Mark → List Flown
stamped before [] = []
stamped before (Begins node ∷ log) = stamped (before ++ Begins node ∷ []) log
stamped before (Goes departure ∷ log) = record {
  node = departure.node;
  heading = departure.heading;
  route = departure.route;
  lost = departure.lost;
  payload = departure.payload;
  begun = begins_in departure.node before;
  shown = news_after departure.node [] (before ++ Goes departure ∷ []);
} ∷ stamped (before ++ Goes departure ∷ []) log

-- each frame is of a node whose number has a place
abbrev pub GoBetweenNodes : List Mark → Type 0
GoBetweenNodes [] = Unit {0}
GoBetweenNodes (Goes departure ∷ log) = (departure.node < 233) × GoBetweenNodes log
GoBetweenNodes (Begins node ∷ log) = GoBetweenNodes log

-- what is kept is what this history leaves: the last frames, and the counts of each node
pub record IsOf (log : List Mark) (state : FramesState) : Type 0 where
  pub sent : state.sent ≡ goes_in log
  pub order : state.landed ≤ state.sent
  pub frames : state.frames ≡ drop (state.sent - kept state.sent state.landed) (stamped [] log)
  pub peers : length state.peers ≡ 233
  pub begun : (node : ℕ) → node < 233 → (peer_of state node).begun ≡ begins_in node log
  pub shown : (node : ℕ) → node < 233 → (peer_of state node).nonces.shown ≡ news_after node [] log
  pub last : (node : ℕ) (heading : Heading) → node < 233 → last_of (peer_of state node).nonces heading ≡ last_in node heading None log
  pub nodes : GoBetweenNodes log

-- why the frame of a number, counted from 1, is not repeated, by the whole history
abbrev pub stale_in : List Mark → ℕ → Option Departure → Option Refusal
stale_in log number None = Some NeverSent
stale_in log number (Some departure) =
    if nat_lt (number + 4097) (goes_in log) then Some Forgotten
    else stale_by departure.payload (Later log departure.node number) (NewNonces log departure.node number)

abbrev pub refusal_in : List Mark → ℕ → Option Refusal
refusal_in log zero = Some NeverSent
refusal_in log (suc number) = stale_in log number (departure_at log number)
