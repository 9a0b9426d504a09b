-- What a host alone knows of its nodes and of what it was asked, by its transcript (this project's own rule): of each node the classes that it listed in its last interview, and of each
-- order what was said.
use Rattle.std.specs.Prelude.{◌≡◌, ◌⊎◌, ℕ, ◌≤◌, Bool, true, false, List, [], ◌∷◌, ◌++◌, Option, Some, None, IfSome, IsTrue, is_some}
use Rattle.std.specs.List.{AllByRecursion}
use Rattle.zw_base.specs.declared.property.Property.{Property}
use Rattle.s0_crypto.specs.declared.key_pair.Keys.{Keys}
use Rattle.zw_text.specs.declared.line.Line.{Line}
use Rattle.zw_text.specs.declared.entry.Entry.{Entry}
use Rattle.zw_text.specs.declared.entry.Entry.TheVariants.{Said}
use Rattle.zw_text.specs.Transcript.{line_last, line_of}
use Rattle.proof_transcript.specs.law_transcript.Answers.{AnswersAfter, MayAnswer, MayCancel, before_last, refusals_by_host}
use Rattle.proof_transcript.specs.law_transcript.Lists.{EachAfter}
use Rattle.proof_transcript.specs.law_transcript.Nodes.{is_joined, known_classes}
use Rattle.proof_transcript.specs.law_transcript.Once.{CarriesOnce}
use Rattle.proof_transcript.specs.law_transcript.Records.{KeepsRecords}
use Rattle.proof_transcript.specs.law_transcript.Sessions.{MayBegin}
use Rattle.proof_transcript.specs.law_transcript.Stores.{StoresConfirmed, heard_value}
use Rattle.proof_transcript.specs.law_wire.Serial.{ended}
use Rattle.proof_transcript.specs.law_host.Heard.{is_of_others, is_refusal_of_others, listing_heard}
use Rattle.proof_transcript.specs.law_host.HostLegal.{ShowsValues}
use Rattle.value_store.specs.Values.{IsReserved, is_among, stored_of}
use Rattle.host_keep.specs.Kept.{Taken, classes_said, node_of as kept_of_node, properties_for}
use Rattle.proof_waking.specs.host_model.Holding.{listens_said}
use Rattle.proof_waking.specs.host_model.State.{Command, HostState, node_of}
use Rattle.proof_transcript.specs.proof_spoken.Said.{AreSaid, KnowsListing}
use Rattle.proof_transcript.specs.Answering.{HostTies, IsAnswered}
use Rattle.proof_transcript.specs.Records.{TellsCancelled}
use Rattle.proof_transcript.specs.proof_host.Tables.{taken_at}
use Rattle.proof_transcript.specs.Showing.{AsksForNone}
use Rattle.proof_waking.specs.proof_alone.Phases.{Asked}
use Rattle.proof_waking.specs.proof_alone.Runs.{Knowledge, both_know}
use Rattle.proof_waking.specs.proof_alone.Tables.{KnowsTables}
use Rattle.proof_waking.specs.Judged.{KnowsJudged}

-- at each phase it knows of each node what that listed in its last interview, and of a node without one what it knows at first
abbrev pub KnowsHeard : Knowledge
KnowsHeard here past m = KnowsListing listing_heard past m.state

-- and its tables, and what it judged
abbrev pub KnowsNodes : Knowledge
KnowsNodes = both_know (both_know KnowsTables KnowsJudged) KnowsHeard

-- each order that was accepted stands in the table as it was said
abbrev pub KnowsSaid : Knowledge
KnowsSaid here past m = AreSaid listing_heard m.state.commands past

abbrev pub KnowsOrders : Knowledge
KnowsOrders = both_know KnowsNodes KnowsSaid

-- ---- nodes and values

-- the joined nodes are node 2 and those of the `join` lines that were not refused, and what was heard of each property is what its node reported since the host started
pub record TieTold (past : List Entry) (h : HostState) : Type 0 where
  pub joined : (node : ℕ) → (node_of h node).joined ≡ is_joined past node
  pub heard : (node : ℕ) (property : Property) → (stored_of h.store node property).heard ≡ heard_value past node property

-- the words of a line stand last, and so it is of what stood before them
pub record ToldBefore (line : Line) (past : List Entry) (h : HostState) : Type 0 where
  pub before : List Entry
  pub words : List ℕ
  pub are : past ≡ before ++ Said words ∷ []
  pub read : line_of (Said words) ≡ line ∷ []
  pub told : TieTold before h

abbrev pub KnowsTold : Knowledge
KnowsTold (Asked line) past m = ToldBefore line past m.state
KnowsTold here past m = TieTold past m.state

abbrev pub KnowsAll : Knowledge
KnowsAll = both_know KnowsOrders KnowsTold

-- ---- values that are shown

-- none are asked for but where the host is asked
abbrev pub KnowsAsked : Knowledge
KnowsAsked (Asked line) past m = Unit {0}
KnowsAsked here past m = AsksForNone (line_last past)

-- ---- records

-- the keeper's records cancel the commands that the transcript shows to be taken back, in the same order
abbrev pub KnowsCancelled : Knowledge
KnowsCancelled here past m = TellsCancelled past m.records

-- the records are legal and give what is shown, and what a node is taken to list, of nodes of a network alone; and the host has of each whether it listens as they give it
pub record KnowsRecords (told : List Entry) (h : HostState) (texts : List (List ℕ)) : Type 0 where
  pub keeps : KeepsRecords told texts
  pub lists : (node : ℕ) → known_classes listing_heard told node ≡ classes_said (kept_of_node keeps.kept node).interview
  pub listens : (node : ℕ) → (node_of h node).listens ≡ listens_said (kept_of_node keeps.kept node).interview
  pub beyond : (node : ℕ) → 233 ≤ node → (kept_of_node keeps.kept node).interview ≡ None

-- ---- keys

-- its keys are these
abbrev pub KnowsKeys : Keys → Knowledge
KnowsKeys keys here past m = (m.keys ≡ keys) × (m.state.keys ≡ keys)

-- ---- answers

-- a command of the node sets the property
pub record IsSetBy (commands : List Command) (n : ℕ) (p : Property) : Type 0 where
  pub number : ℕ
  pub taken : Taken
  pub at : taken_at commands number ≡ Some taken
  pub sets : IsTrue (is_among (properties_for n taken) p)

-- it has places in its store only for what its commands set, and for what it heard
abbrev pub HasPlaces : HostState → Type 0
HasPlaces h = (n : ℕ) (p : Property) → IsReserved h.store n p → IsSetBy h.commands n p ⊎ IsTrue (is_some (stored_of h.store n p).heard)

abbrev pub KnowsPlaces : Knowledge
KnowsPlaces here past m = HasPlaces m.state

-- all that decides what it answers and stores
abbrev pub KnowsWhole : Knowledge
KnowsWhole = both_know KnowsAll KnowsPlaces

-- the words of a line stand last, and what decides its answer is of what stood before them
pub record AnswersBefore (line : Line) (past : List Entry) (h : HostState) : Type 0 where
  pub before : List Entry
  pub words : List ℕ
  pub are : past ≡ before ++ Said words ∷ []
  pub read : line_of (Said words) ≡ line ∷ []
  pub ties : HostTies listing_heard before h

-- elsewhere no answer is due
abbrev pub IsSettled : List Entry → Type 0
IsSettled past = IsAnswered (refusals_by_host listing_heard) (before_last past) (line_last past)

abbrev pub KnowsAnswered : Knowledge
KnowsAnswered (Asked line) past m = AnswersBefore line past m.state
KnowsAnswered here past m = IsSettled past

-- each entry is an answer exactly where it must be one, but for refusals of lines that are for others
abbrev pub IsAnswerAlone : List Entry → Entry → Type 0
IsAnswerAlone past entry = (is_refusal_of_others (line_last past) entry ≡ true) ⊎ MayAnswer listing_heard (refusals_by_host listing_heard) past entry

-- none of these is such a refusal
abbrev pub IsForHost : List Entry → Entry → Type 0
IsForHost past entry = is_refusal_of_others (line_last past) entry ≡ false

abbrev pub AreForHost : List Entry → Type 0
AreForHost told = EachAfter IsForHost [] told

-- so it is where no line is for others
abbrev pub IsSaidToHost : Entry → Type 0
IsSaidToHost entry = is_of_others (line_of entry) ≡ false

abbrev pub AreSaidToHost : List Entry → Type 0
AreSaidToHost told = AllByRecursion IsSaidToHost told

-- what is proved of a host that starts with nothing kept, over what it heard, and of its keeper's records
pub record KeepsWhatIsSaid (whole : Bool) (heard : List Entry) (records : Option (List (List ℕ))) : Type 0 where
  pub answers : AnswersAfter [] whole listing_heard (refusals_by_host listing_heard) heard
  pub cancels : EachAfter MayCancel [] heard
  pub sessions : EachAfter MayBegin [] heard
  pub carries : (node : ℕ) → CarriesOnce node heard
  pub stores : StoresConfirmed whole listing_heard heard
  pub values : EachAfter (ShowsValues listing_heard) [] (ended whole heard)
  pub records_kept : whole ≡ true → IfSome records (KeepsRecords heard)
