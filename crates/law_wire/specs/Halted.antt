-- What a device did in a run that an allocation failure ended in its last line (this project's own model of devices): as the transcript shows up to that
-- line; of the last line something may not have come to it, or not have been entered.
use Rattle.std.specs.Prelude.{◌≡◌, ◌≤◌, ℕ, suc, List, [], ◌∷◌, ◌++◌, length}
use Rattle.law_transcript.specs.device_sim.State.{State}
use Rattle.law_transcript.specs.device_sim.Event.{DeviceEvent}
use Rattle.zw_text.specs.declared.entry.Entry.{Entry}
use Rattle.zw_text.specs.declared.entry.Entry.TheVariants.{Said}
use Rattle.zw_text.specs.Transcript.{lines_run}
use Rattle.law_transcript.specs.Devices.{CameAsShown, ChangedAsShown, after_events, brought, comings, replies_joined, sent_from, ticks_lived}
use Rattle.law_transcript.specs.Lists.{IsPrefixOf}
use Rattle.law_transcript.specs.Restarts.{ticks_asked}

-- the entries before the last line
abbrev pub before_line_from : List Entry → List Entry → List Entry → List Entry
before_line_from found past [] = found
before_line_from found past (Said words ∷ rest) = before_line_from past (past ++ Said words ∷ []) rest
before_line_from found past (entry ∷ rest) = before_line_from found (past ++ entry ∷ []) rest

abbrev pub before_line : List Entry → List Entry
before_line transcript = before_line_from [] [] transcript

-- before the last line all came to a device that the transcript shows, in the ticks that lines ask for, and its answers are its frames
pub record RanBefore (node : ℕ) (transcript : List Entry) (old : State) (earlier : List DeviceEvent) : Type 0 where
  pub comes : CameAsShown node (before_line transcript) earlier
  pub answered : sent_from node (before_line transcript) ≡ replies_joined node (before_line transcript) old earlier

-- these entries may be lacking: no line, and at most one payload more for the node
pub record MayLack (node : ℕ) (transcript more : List Entry) : Type 0 where
  pub unsaid : lines_run more ≡ []
  pub one_more : length (brought node (transcript ++ more)) ≤ suc (length (brought node transcript))

-- in all a prefix came of what is shown with them, in no more ticks than lines ask for, and later answers may not be on the air
pub record RanAfter (node : ℕ) (transcript more : List Entry) (old : State) (events : List DeviceEvent) : Type 0 where
  pub came : IsPrefixOf (comings events) (brought node (transcript ++ more))
  pub ticked : ticks_lived events ≤ ticks_asked (lines_run transcript)
  pub answered : IsPrefixOf (sent_from node transcript) (replies_joined node transcript old events)

-- the device of a node went from its state at entry to that at exit by what the transcript shows before the last line, and then by a prefix of
-- what it shows of the last line with what is lacking there
pub record RanAsFar (node : ℕ) (transcript : List Entry) (old new : State) : Type 0 where
  pub earlier : List DeviceEvent
  pub late : List DeviceEvent
  pub more : List Entry
  pub runs : new ≡ after_events old (earlier ++ late)
  pub before : RanBefore node transcript old earlier
  pub lacks : MayLack node transcript more
  pub following : RanAfter node transcript more old (earlier ++ late)
  pub changes : ChangedAsShown node (transcript ++ more) old new
