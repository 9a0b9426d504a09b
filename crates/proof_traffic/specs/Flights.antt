-- The frames on the air as a list, oldest first, and all that ever went there (this project's own rule, docs/AIR.md).
use Rattle.std.specs.Prelude.{◌≡◌, List, [], ◌∷◌, ◌++◌, drop}
use Rattle.air_frames.specs.declared.frame.Departure.{Departure}
use Rattle.air_frames.specs.Flown.{Flown}
use Rattle.air_frames.specs.Frames.{FramesState}
use Rattle.air_frames.specs.History.{Mark, Goes, IsOf, begins_in, news_after, stamped}

-- all frames that ever went on the air, after a history
abbrev pub flown_in : List Mark → List Flown
flown_in log = stamped [] log

-- a frame that goes there now
abbrev pub flown_now : List Mark → Departure → Flown
flown_now log departure = record {
  node = departure.node;
  heading = departure.heading;
  route = departure.route;
  lost = departure.lost;
  payload = departure.payload;
  begun = begins_in departure.node log;
  shown = news_after departure.node [] (log ++ Goes departure ∷ []);
}

-- these frames are on the air, after that history
pub record Fly (log : List Mark) (flights : List Flown) (frames : FramesState) : Type 0 where
  pub history : IsOf log frames
  pub are : flights ≡ drop frames.landed (flown_in log)
