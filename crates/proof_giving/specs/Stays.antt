-- What stays where an event begins no session and submits no request (this project's own rule): the sessions and orders of a node, and how the last request stands.
use Rattle.std.specs.Prelude.{◌≡◌, ℕ, Bool, true, is_none, None, Some, List}
use Rattle.supervision.specs.Host.{open_session}
use Rattle.zw_text.specs.declared.entry.Entry.{Entry}
use Rattle.zw_text.specs.Transcript.{sessions}
use Rattle.law_time.specs.Attempts.{ends_badly}
use Rattle.law_time.specs.Heeds.{Heeds}
use Rattle.law_time.specs.Judged.{last_of}
use Rattle.law_time.specs.Requests.{asked}
use Rattle.law_time.specs.Sessions.{is_open, last_command}
use Rattle.host_requests.specs.State.{RequestsState}
use Rattle.host_requests.specs.declared.under_way.UnderWay.{UnderWay}
use Rattle.host_node.specs.State.{NodeState, is_open as has_open}
use Rattle.host_node.specs.declared.series.Series.TheVariants.{Running}
use Rattle.host_model.specs.Events.{HostEvent, Begins, Starts, Takes_nonce}
use Rattle.host_model.specs.Facts.{HostFacts}
use Rattle.host_model.specs.State.{Command, HostState, command_at, node_of}
use Rattle.proof_host.specs.Tables.{taken_at}
use Rattle.proof_queue.specs.proof_sending.Due.{AreCarried}
use Rattle.proof_giving.specs.Told.{attempts_so_far}
use Rattle.proof_giving.specs.Tie.{has_text}

-- the transcript shows the sessions of a node, and which is open, and how orders are carried
pub record ShowsSessions (heeds : Heeds) (past : List Entry) (h : HostState) (n : ℕ) : Type 0 where
  pub sessions_are : sessions n past ≡ (node_of h n).book.commands
  pub opened : is_open n past ≡ has_open (node_of h n)
  pub last : last_command n past ≡ last_of (node_of h n).book.commands
  pub carried : AreCarried heeds.listing past h.commands

-- no session begins
abbrev pub NoSession : HostEvent → Type 0
NoSession (Begins node session command) = ⊥
NoSession event = Unit {0}

-- nor an attempt, and no text is sealed
abbrev pub NothingBegins : HostEvent → Type 0
NothingBegins (Begins node session command) = ⊥
NothingBegins (Starts node plan more payload) = ⊥
NothingBegins (Takes_nonce node seen text) = ⊥
NothingBegins event = Unit {0}

-- the sessions of a node are those that they were, none is open that was not, and each order is as it was
pub record KeepsSessions (h g : HostState) (n : ℕ) : Type 0 where
  pub commands : (node_of g n).book.commands ≡ (node_of h n).book.commands
  pub opens : (session : ℕ) → open_session (node_of g n).book ≡ Some session → open_session (node_of h n).book ≡ Some session
  pub orders : (number : ℕ) (c : Command) → command_at h.commands number ≡ Some c → taken_at g.commands number ≡ taken_at h.commands number

-- no attempt of a node has begun, and none of its texts is another session's
pub record NoneBegun (s t : NodeState) : Type 0 where
  pub runs : t.series ≡ Running → s.series ≡ Running
  pub seals : has_text t ≡ true → has_text s ≡ true

-- the request under way stays what it is for, and none ends
pub record SamePurpose (s t : RequestsState) : Type 0 where
  pub none : is_none t.under_way ≡ is_none s.under_way
  pub same : (u : UnderWay) → t.under_way ≡ Some u → (v : UnderWay) × (s.under_way ≡ Some v) × (v.purpose ≡ u.purpose)

-- after entries and an event the last request stands as it did, where it is of an attempt of the node
pub record Stays (heeds : Heeds) (n : ℕ) (past later : List Entry) (h g : HostState) (now : ℕ) : Type 0 where
  pub under : SamePurpose h.requests g.requests
  pub frame : (attempts_so_far heeds n past).own ≡ true → (asked later).frame ≡ (asked past).frame
  pub ended : (attempts_so_far heeds n past).own ≡ true → h.requests.under_way ≡ None → (inner : Bool) → ends_badly (asked later) inner now ≡ ends_badly (asked past) inner now
  pub shows : ShowsSessions heeds past h n
  pub showing : ShowsSessions heeds later g n
  pub facts : HostFacts h
  pub others : HostFacts g
  pub keeps : KeepsSessions h g n
  pub fewer : NoneBegun (node_of h n) (node_of g n)
