-- What is known of the nonces that a host alone gives, at each phase (this project's own rule): those that it gave and that wait to be given, in order; the live one of each node; and for which
-- of them what was judged opened, or may open behind it.
use Rattle.std.specs.Prelude.{◌≡◌, ◌⊎◌, ℕ, ◌<◌, ◌≤◌, ◌-◌, List, [], ◌++◌, length, map, Option, Some, None}
use Rattle.std.specs.List.{AllByRecursion}
use Rattle.s0_crypto.specs.declared.key_pair.Keys.{Keys}
use Rattle.s0_session.specs.declared.account.Account.{Account}
use Rattle.s0_session.specs.Nonces.{account_of, given_of, live_of}
use Rattle.zw_text.specs.declared.entry.Entry.{Entry}
use Rattle.law_transcript.specs.Lists.{EachAfter, shown_after}
use Rattle.law_transcript.specs.Units.{Carried}
use Rattle.proof_notes.specs.law_time.Judged.{brought_here}
use Rattle.host_heard.specs.Telling.{heard_at}
use Rattle.host_heard.specs.declared.payload.Heard.{Heard}
use Rattle.host_heard.specs.declared.payload.Heard.TheVariants.{Sealed}
use Rattle.host_requests.specs.declared.task.Task.{Task}
use Rattle.host_model.specs.State.{HostState}
use Rattle.host_model.specs.Events.{HostEvent, Finishes, Hears_value, Has_no_room, Reports_old}
use Rattle.host_model.specs.Taking.{SealedEvents, named_by}
use Rattle.proof_notes.specs.proof_known.law_host.Course.{Offer}
use Rattle.proof_notes.specs.proof_known.law_host.Nonces.{IsOffer, nonce_with}
use Rattle.proof_notes.specs.proof_known.proof_alone.Phases.{Phase, Behind}
use Rattle.proof_notes.specs.proof_known.proof_alone.Runs.{Knowledge, both_know}
use Rattle.proof_nonces.specs.Giving.{IsBefore, IsOpenedOnce, MayTell, NotBelow, Opened, Ordered, before_judged, report_of, reports_at}
use Rattle.proof_nonces.specs.Known.{Ground, KnowsSealing, offered_in}

-- ---- accounts

-- how many of a node's nonces are live no more
abbrev pub spent_by : Option (List ℕ) → ℕ → ℕ
spent_by None given = given
spent_by (Some nonce) given = given - 1

abbrev pub spent_of : List Account → ℕ → ℕ
spent_of nonces node = spent_by (account_of nonces node).live (account_of nonces node).given

-- the live one is the last that was given
pub record IsLast (drawn : ℕ → ℕ → List ℕ) (node : ℕ) (nonce : List ℕ) (given : ℕ) : Type 0 where
  pub is : nonce ≡ nonce_with drawn node given
  pub some : 0 < given

abbrev pub LiveSo : (ℕ → ℕ → List ℕ) → List Account → Type 0
LiveSo drawn nonces = (node : ℕ) (nonce : List ℕ) → live_of nonces node ≡ Some nonce → IsLast drawn node nonce (given_of nonces node)

-- ---- behind a frame

-- notes none of what is asked of
abbrev pub TellsNothing : HostEvent → Type 0
TellsNothing (Finishes n session id command status wake_request) = ⊥
TellsNothing (Reports_old n id) = ⊥
TellsNothing (Hears_value n setting) = ⊥
TellsNothing (Has_no_room n property) = ⊥
TellsNothing event = Unit {0}

-- a sealed payload is still to be opened, with these events; or it opened; or nothing of what is asked of is noted
pub record IsToOpen (h : HostState) (left : List HostEvent) (openings : List Opened) (past : List Entry) (carried : Carried) : Type 0 where
  pub events : SealedEvents h carried.node carried.payload (named_by carried.payload (live_of h.nonces carried.node)) left
  pub later : AllByRecursion (λ one. length one.before < length (before_judged past)) openings
  pub shorter : length (before_judged past) < length past

abbrev pub BehindSo : Keys → (ℕ → ℕ → List ℕ) → List Opened → HostState → List HostEvent → List Entry → Carried → Heard → Type 0
BehindSo keys drawn openings h left past carried Sealed =
    IsToOpen h left openings past carried ⊎ (IsOpenedOnce keys drawn openings (before_judged past) carried ⊎ AllByRecursion TellsNothing left)
BehindSo keys drawn openings h left past carried heard = Unit {0}

abbrev pub AreBehind : Keys → (ℕ → ℕ → List ℕ) → List Opened → HostState → List HostEvent → List Entry → List Carried → Type 0
AreBehind keys drawn openings h left past brought = AllByRecursion (λ carried. BehindSo keys drawn openings h left past carried (heard_at carried.payload)) brought

abbrev pub AtPhase : Phase → Keys → (ℕ → ℕ → List ℕ) → List Opened → List Entry → HostState → Type 0
AtPhase (Behind left) keys drawn openings past h = AreBehind keys drawn openings h left past (brought_here past)
AtPhase here keys drawn openings past h = Unit {0}

-- ---- the whole

-- the Nonce Reports that were sent, and those that wait
pub record GivenSo (drawn : ℕ → ℕ → List ℕ) (past : List Entry) (queue : List Task) (nonces : List Account) : Type 0 where
  pub offers : List Offer
  pub reports : shown_after reports_at [] past ≡ map report_of offers
  pub waiting : List Offer
  pub waits : offered_in queue ≡ map report_of waiting
  pub given : AllByRecursion (IsOffer drawn) (offers ++ waiting)
  pub in_order : Ordered NotBelow (offers ++ waiting)
  pub low : AllByRecursion (λ offer. offer.number ≤ given_of nonces offer.node) (offers ++ waiting)

-- what opened
pub record OpenedSo (keys : Keys) (drawn : ℕ → ℕ → List ℕ) (here : Phase) (past : List Entry) (h : HostState) : Type 0 where
  pub openings : List Opened
  pub apart : Ordered IsBefore openings
  pub early : AllByRecursion (λ one. length one.before < length past) openings
  pub spent : AllByRecursion (λ one. one.number ≤ spent_of h.nonces one.node) openings
  pub tells : EachAfter (MayTell keys drawn openings) [] past
  pub behind : AtPhase here keys drawn openings past h

pub record NoncesSo (keys : Keys) (here : Phase) (past : List Entry) (h : HostState) : Type 0 where
  pub drawn : ℕ → ℕ → List ℕ
  pub seven : (node number : ℕ) → length (drawn node number) ≡ 7
  pub live : LiveSo drawn h.nonces
  pub gives : GivenSo drawn past h.requests.queue h.nonces
  pub opens : OpenedSo keys drawn here past h

abbrev pub KnowsNonces : Keys → Knowledge
KnowsNonces keys here past m = NoncesSo keys here past m.state

-- the ground: and what it has to seal
abbrev pub CountingGround : Keys → Knowledge
CountingGround keys = both_know (Ground keys) (KnowsSealing keys)
