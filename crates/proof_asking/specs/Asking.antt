-- What is known, at each phase of a host alone, of what it has to send (this project's own rule): it is due by what it heard so far, but while a line is asked by what stood before
-- its words, and behind an item by what stood before that was judged.
use Rattle.std.specs.Prelude.{◌≡◌, ℕ, false, List, [], ◌∷◌, ◌++◌}
use Rattle.std.specs.List.{AllByRecursion}
use Rattle.serial_frame.specs.Items.{unit_text}
use Rattle.serial_frame.specs.declared.unit.Unit.{Unit as LineUnit}
use Rattle.s0_crypto.specs.declared.key_pair.Keys.{Keys}
use Rattle.s0_crypto.specs.Sealing.{keys_of}
use Rattle.zw_words.specs.declared.side.Side.TheVariants.{Chip}
use Rattle.zw_text.specs.declared.line.Line.{Line}
use Rattle.zw_text.specs.declared.entry.Entry.{Entry}
use Rattle.zw_text.specs.declared.entry.Entry.TheVariants.{Said}
use Rattle.zw_text.specs.Transcript.{line_of}
use Rattle.law_transcript.specs.Lists.{Has}
use Rattle.law_transcript.specs.Restarts.{begins_refused}
use Rattle.law_transcript.specs.Units.{arrived}
use Rattle.proof_known.specs.law_host.Heard.{listing_heard}
use Rattle.host_model.specs.State.{HostState}
use Rattle.host_model.specs.Events.{HostEvent}
use Rattle.proof_sending.specs.proof_spoken.Said.{KnowsListing}
use Rattle.proof_sending.specs.Arriving.{BringsMore}
use Rattle.proof_sending.specs.Due.{IsShown}
use Rattle.proof_sending.specs.Heard.{GiveReasons}
use Rattle.proof_sending.specs.Reasons.{Reason, IsReasoned}
use Rattle.proof_known.specs.proof_alone.Phases.{Asked, Behind}
use Rattle.proof_known.specs.proof_alone.Runs.{Knowledge}

-- what a host heard is a reason
abbrev pub IsHeardOf : List ℕ → List Entry → Reason → Type 0
IsHeardOf key past = IsShown listing_heard key past

-- these units of the chip came by the transcript
abbrev pub HaveCome : List Entry → List LineUnit → Type 0
HaveCome past came = AllByRecursion (λ unit. Has (arrived Chip past) (unit_text unit)) came

-- the host has the keys of this network, the units that wait came, and what it has to send is due
pub record TieDue (key : List ℕ) (past : List Entry) (keys : Keys) (came : List LineUnit) (h : HostState) : Type 0 where
  pub same : keys ≡ keys_of key
  pub have : HaveCome past came
  pub reasoned : IsReasoned (IsHeardOf key past) (keys_of key) h

-- the words of a line stand last, and so it was before them
pub record DueBefore (key : List ℕ) (line : Line) (past : List Entry) (keys : Keys) (came : List LineUnit) (h : HostState) : Type 0 where
  pub before : List Entry
  pub words : List ℕ
  pub are : past ≡ before ++ Said words ∷ []
  pub read : line_of (Said words) ≡ line ∷ []
  pub knew : KnowsListing listing_heard before h
  pub tie : TieDue key before keys came h

-- an item was judged, and what it told was told by then; these events behind it are to come, each with its reason
pub record DueBehind (key : List ℕ) (left : List HostEvent) (past : List Entry) (keys : Keys) (came : List LineUnit) (h : HostState) : Type 0 where
  pub before : List Entry
  pub told : List Entry
  pub are : past ≡ before ++ told
  pub unrefused : begins_refused told ≡ false
  pub more : BringsMore before past
  pub same : keys ≡ keys_of key
  pub have : HaveCome past came
  pub reasoned : IsReasoned (IsHeardOf key before) (keys_of key) h
  pub reasons : GiveReasons (IsHeardOf key before) (keys_of key) h left

abbrev pub KnowsDue : List ℕ → Knowledge
KnowsDue key (Asked line) past m = DueBefore key line past m.keys m.came m.state
KnowsDue key (Behind left) past m = DueBehind key left past m.keys m.came m.state
KnowsDue key here past m = TieDue key past m.keys m.came m.state
