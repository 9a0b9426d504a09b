-- For which nonces the host seals messages (Security 0 Command Class; that each nonce serves once is this project's own rule): a message is sealed for a nonce that its node told after the
-- host had asked it for one, and that nothing was sealed for since.
use Rattle.std.specs.Prelude.{◌≡◌, ℕ, bytes_eq, Bool, true, false, List, [], ◌∷◌, ◌++◌, length, ⊤}
use Rattle.std.specs.List.{AllByRecursion}
use Rattle.s0_crypto.specs.declared.key_pair.Keys.{Keys}
use Rattle.s0_crypto.specs.Seal.{Seals}
use Rattle.encap.specs.Opening.{begins_with}
use Rattle.host_heard.specs.Telling.{heard_at}
use Rattle.host_heard.specs.declared.told.Told.{Told}
use Rattle.host_heard.specs.declared.told.Told.TheVariants.{NonceReport}
use Rattle.zw_words.specs.declared.side.Side.TheVariants.{Host}
use Rattle.zw_text.specs.declared.entry.Entry.{Entry}
use Rattle.zw_text.specs.declared.entry.Entry.TheVariants.{Written}
use Rattle.law_transcript.specs.Lists.{EachAfter, Has}
use Rattle.law_transcript.specs.Nodes.{controller}
use Rattle.law_transcript.specs.Payloads.{nonce_get}
use Rattle.law_transcript.specs.Units.{Carried, sending_in}
use Rattle.proof_notes.specs.law_time.Judged.{brought_here, may_tell}
use Rattle.proof_notes.specs.law_time.Requests.{asked, is_new}
use Rattle.proof_notes.specs.proof_known.Noted.{IsOpenedIf}

-- ---- what a payload is, and tells

abbrev pub is_sealed : List ℕ → Bool
is_sealed payload = begins_with payload 0x98 0x81

-- a Nonce Report of this nonce
abbrev pub tells_nonce : List ℕ → Told → Bool
tells_nonce nonce (NonceReport other) = bytes_eq nonce other
tells_nonce nonce message = false

-- it tells such a message, as it came or in what it opens to
abbrev pub IsTold : Keys → (Told → Bool) → Carried → Type 0
IsTold keys such carried = (may_tell such (heard_at carried.payload) ≡ true) × IsOpenedIf keys such carried (heard_at carried.payload)

-- ---- a question

-- no new request seals anything for the node
abbrev pub SealsNothing : ℕ → List Entry → Entry → Type 0
SealsNothing node past (Written Host unit) =
    is_new (asked past) unit ≡ true → AllByRecursion (λ carried. carried.node ≡ node → is_sealed carried.payload ≡ false) (sending_in unit)
SealsNothing node past entry = ⊤

-- a Nonce Get was sent to the node, and nothing was sealed for it since
pub record HasAsked (node : ℕ) (past : List Entry) : Type 0 where
  pub before : List Entry
  pub unit : List ℕ
  pub since : List Entry
  pub are : past ≡ (before ++ Written Host unit ∷ []) ++ since
  pub new : is_new (asked before) unit ≡ true
  pub asks : Has (sending_in unit) (record { node = node; payload = nonce_get })
  pub unused : EachAfter (SealsNothing node) (before ++ Written Host unit ∷ []) since

-- the node told this nonce in a payload that was judged after some past
pub record IsToldSince (keys : Keys) (node : ℕ) (upto since : List Entry) (nonce : List ℕ) : Type 0 where
  pub first : List Entry
  pub later : List Entry
  pub are : since ≡ first ++ later
  pub one : Carried
  pub brought : Has (brought_here (upto ++ first)) one
  pub of : one.node ≡ node
  pub tells : IsTold keys (tells_nonce nonce) one

-- ---- the law

-- the payload is sealed under eight bytes of the host's own for a nonce that answers such a question
pub record IsSealedSo (keys : Keys) (past : List Entry) (carried : Carried) : Type 0 where
  pub question : HasAsked carried.node past
  pub own : List ℕ
  pub nonce : List ℕ
  pub text : List ℕ
  pub own_eight : length own ≡ 8
  pub seals : Seals keys own nonce (record { sender = controller; receiver = carried.node }) text carried.payload
  pub told : IsToldSince keys carried.node (question.before ++ Written Host question.unit ∷ []) question.since nonce

-- what a new request asks to be sent is, where it is sealed
abbrev pub MaySeal : Keys → List Entry → Entry → Type 0
MaySeal keys past (Written Host unit) =
    is_new (asked past) unit ≡ true → AllByRecursion (λ carried. is_sealed carried.payload ≡ true → IsSealedSo keys past carried) (sending_in unit)
MaySeal keys past entry = ⊤

abbrev pub SealsOnce : Keys → List Entry → Type 0
SealsOnce keys transcript = EachAfter (MaySeal keys) [] transcript
