-- Which nonces the host gives, and for which of them what nodes seal opens (Security 0 Command Class; that nonces count on is this project's own rule).
use Rattle.std.specs.Prelude.{◌≡◌, ℕ, ◌<◌, ◌≤◌, if◌then◌else◌, Bool, List, [], ◌∷◌, ◌++◌, length, filter, map, ⊤}
use Rattle.std.specs.List.{AllByRecursion}
use Rattle.s0_crypto.specs.declared.key_pair.Keys.{Keys}
use Rattle.s0_crypto.specs.Opening.{sender_nonce_in}
use Rattle.s0_crypto.specs.Seal.{Seals}
use Rattle.encap.specs.Opening.{begins_with}
use Rattle.host_heard.specs.Telling.{heard_at}
use Rattle.host_heard.specs.declared.payload.Heard.{Heard}
use Rattle.host_heard.specs.declared.payload.Heard.TheVariants.{Sealed}
use Rattle.zw_words.specs.declared.side.Side.TheVariants.{Host}
use Rattle.zw_text.specs.declared.entry.Ended.TheVariants as endings
use Rattle.zw_text.specs.declared.entry.Entry.{Entry}
use Rattle.zw_text.specs.declared.entry.Entry.TheVariants.{Written, Out, Report, Unstored, Old}
use Rattle.zw_text.specs.Transcript.{folded}
use Rattle.law_transcript.specs.Lists.{EachAfter, Has, shown_after}
use Rattle.law_transcript.specs.Nodes.{controller}
use Rattle.law_transcript.specs.Payloads.{nonce_report}
use Rattle.law_transcript.specs.Units.{Carried, sending_in}
use Rattle.proof_notes.specs.law_time.Judged.{brought_here, is_acknowledgement}
use Rattle.proof_notes.specs.law_time.Requests.{asked, is_new}
use Rattle.proof_notes.specs.proof_known.law_host.Course.{Offer}
use Rattle.proof_notes.specs.proof_known.law_host.Nonces.{IsOffer, nonce_with}

-- each of some items stands in this relation to all that follow it
abbrev pub Ordered : {A : Type 0} → (A → A → Type 0) → List A → Type 0
Ordered Before [] = ⊤
Ordered Before (item ∷ rest) = AllByRecursion (Before item) rest × Ordered Before rest

-- ---- Nonce Reports

abbrev pub is_report : List ℕ → Bool
is_report payload = begins_with payload 0x98 0x80

-- those that the host's new requests send
abbrev pub reports_at : List Entry → Entry → List Carried
reports_at past (Written Host unit) = if is_new (asked past) unit then filter (λ one. is_report one.payload) (sending_in unit) else []
reports_at past entry = []

abbrev pub report_of : Offer → Carried
report_of offer = record { node = offer.node; payload = nonce_report offer.nonce }

-- of one node, the later one has no number below
abbrev pub NotBelow : Offer → Offer → Type 0
NotBelow first later = later.node ≡ first.node → first.number ≤ later.number

-- ---- what is sealed

-- what stands before the last acknowledgement of the host, and all that stands
pub record Acknowledged : Type 0 where
  pub before : List Entry
  pub all : List Entry

abbrev pub acknowledged_step : Acknowledged → Entry → Acknowledged
acknowledged_step s (Written Host unit) = record { before = if is_acknowledgement unit then s.all else s.before; all = s.all ++ Written Host unit ∷ [] }
acknowledged_step s entry = record { before = s.before; all = s.all ++ entry ∷ [] }

abbrev pub before_judged : List Entry → List Entry
before_judged past = (folded acknowledged_step (record { before = []; all = [] }) past).before

-- a payload of a node that opened for the nonce of this number, and what stood before it was judged
pub record Opened : Type 0 where
  pub before : List Entry
  pub node : ℕ
  pub number : ℕ

-- the later one was judged later; of one node, for a nonce with a number above
pub record IsBefore (first later : Opened) : Type 0 where
  pub judged : length first.before < length later.before
  pub above : later.node ≡ first.node → first.number < later.number

-- the node sealed it with these keys for this nonce
pub record OpensFor (keys : Keys) (nonce : List ℕ) (carried : Carried) : Type 0 where
  pub plain : List ℕ
  pub seals : Seals keys (sender_nonce_in carried.payload) nonce (record { sender = carried.node; receiver = controller }) plain carried.payload

-- it is one of those that opened, for its nonce
pub record IsOpenedOnce (keys : Keys) (drawn : ℕ → ℕ → List ℕ) (openings : List Opened) (before : List Entry) (carried : Carried) : Type 0 where
  pub number : ℕ
  pub has : Has openings (record { before = before; node = carried.node; number = number })
  pub opens : OpensFor keys (nonce_with drawn carried.node number) carried

-- where it is sealed
abbrev pub OpensOnce : Keys → (ℕ → ℕ → List ℕ) → List Opened → List Entry → Carried → Heard → Type 0
OpensOnce keys drawn openings before carried Sealed = IsOpenedOnce keys drawn openings before carried
OpensOnce keys drawn openings before carried heard = ⊤

abbrev pub AllOpen : Keys → (ℕ → ℕ → List ℕ) → List Opened → List Entry → Type 0
AllOpen keys drawn openings past =
    AllByRecursion (λ carried. OpensOnce keys drawn openings (before_judged past) carried (heard_at carried.payload)) (brought_here past)

-- an outcome by a report, a value and an old report stand only where what was judged, if it is sealed, opened so
abbrev pub MayTell : Keys → (ℕ → ℕ → List ℕ) → List Opened → List Entry → Entry → Type 0
MayTell keys drawn openings past (Out command endings.Success) = AllOpen keys drawn openings past
MayTell keys drawn openings past (Out command endings.Fail) = AllOpen keys drawn openings past
MayTell keys drawn openings past (Out command endings.NoSupport) = AllOpen keys drawn openings past
MayTell keys drawn openings past (Report node setting) = AllOpen keys drawn openings past
MayTell keys drawn openings past (Unstored node property) = AllOpen keys drawn openings past
MayTell keys drawn openings past (Old node id) = AllOpen keys drawn openings past
MayTell keys drawn openings past entry = ⊤

-- ---- the law

-- Nonces have numbers, by which their first bytes count, and seven bytes that were drawn; each Nonce Report gives one, with no number below those that its node was given before. What a node
-- seals opens for such a nonce, each time for one with a number above those for which it opened before. Numbers may be passed over, and two may have the same bytes.
pub record CountsNonces (keys : Keys) (transcript : List Entry) : Type 0 where
  pub drawn : ℕ → ℕ → List ℕ
  pub seven : (node number : ℕ) → length (drawn node number) ≡ 7
  pub offers : List Offer
  pub reports : shown_after reports_at [] transcript ≡ map report_of offers
  pub given : AllByRecursion (IsOffer drawn) offers
  pub in_order : Ordered NotBelow offers
  pub openings : List Opened
  pub apart : Ordered IsBefore openings
  pub tells : EachAfter (MayTell keys drawn openings) [] transcript
