-- The headline: what holds of a run's transcript and of its devices, whatever is lost, delayed, repeated or restarted (this
-- project's own theorem).
use Rattle.std.specs.Prelude.{◌≡◌, ◌≤◌, ℕ, true, List, Some}
use Rattle.device_sim.specs.device_stack.State.{State, fresh}
use Rattle.zw_text.specs.declared.entry.Entry.{Entry}
use Rattle.law_transcript.specs.Nodes.{device_of, listing_of, is_supervised, always}
use Rattle.law_transcript.specs.Sessions.{KeepsSessions}
use Rattle.law_transcript.specs.Once.{Once, SucceedsAfterChange}
use Rattle.law_transcript.specs.Values.{ConfirmsLast}

-- a device as its maker leaves it, with this key, at a node from 2 to 232
pub record IsAsMade (key : List ℕ) (device : State) : Type 0 where
  pub from_two : 2 ≤ device.node
  pub to_max : device.node ≤ 232
  pub made : device ≡ fresh device.node device.kind key

-- what the headline says of the device of a node at exit
pub record HeadlineOf (listing : List Entry → ℕ → List ℕ) (node : ℕ) (transcript : List Entry) (device : State) : Type 0 where
  pub once : Once listing node transcript device.journal
  pub confirms : ConfirmsLast listing node transcript device

-- the rule of sessions holds, success is reported after the change, and each supervised device is once-only and has the
-- values that its last changes confirm
pub record Headline (before after : List State) (transcript : List Entry) : Type 0 where
  pub sessions_keep : KeepsSessions transcript
  pub succeeds : SucceedsAfterChange transcript
  pub devices : (node : ℕ) (device : State) → device_of node after ≡ Some device → is_supervised device ≡ true →
      HeadlineOf (always (listing_of before)) node transcript device
