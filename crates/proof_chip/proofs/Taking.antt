-- The chip takes the SendData that the transcript says it may, and has it under way then as the transcript has: so through each event at which a frame is answered.
use Rattle.std.proofs.Common.{◌≡◌, ◌≤◌, ℕ, ◌==◌, ◌&&◌, nat_le, Bool, true, false, if◌then◌else◌, List, [], ◌∷◌, ◌++◌, map, length, refl, sym, ap, ap₂, ◌∙◌, subst, le-leb, eq-eqb}
use Rattle.std.specs.Prelude.{Option, Some, None, slice_get}
use Rattle.std.specs.List.{AllByRecursion}
use Rattle.serial_frame.specs.Frame.{FrameParts}
use Rattle.chip_functions.specs.declared.request.Request.{Request}
use Rattle.chip_functions.specs.declared.request.Request.TheVariants.{GetInitData, GetCapabilities, SendData, GetVersion, SendDataAbort, MemoryGetId, GetNodeProtocolInfo, AddNode, RequestNodeInfo, IsFailedNode, GetRoutingInfo}
use Rattle.chip_sim.specs.State.{ChipState}
use Rattle.chip_sim.specs.Answers.{is_idle, takes as takes_of}
use Rattle.chip_sim.specs.Requests.{asked as asked_of, given_if, reply_to, requested, stopped}
use Rattle.chip_sim.specs.Rules.{listed as listed_of}
use Rattle.chip_sim.specs.declared.out.Sending.{Sending as SendingParts}
use Rattle.zw_text.specs.declared.entry.Entry.{Entry}
use Rattle.law_transcript.specs.Nodes.{is_joined}
use Rattle.law_wire.specs.Asked.{Course, Sending, acks, clock_of, in_tick, last_sending, sending_after, sending_by, sending_of, takes}
use Rattle.proof_chip.specs.Sending.{AreSending, TieJoined}
use Rattle.proof_chip.proofs.Airing.{IsNoAck, answer, last_answered}

-- ---- which may be taken

idle_same : (o : Option SendingParts) (sendings : List Sending) → AreSending o sendings → is_idle o ≡ (length sendings == 0)
idle_same None sendings are = sym (ap (λ (l : List Sending). length l == 0) are)
idle_same (Some parts) sendings are = sym (ap (λ (l : List Sending). length l == 0) are.1)

-- a payload of a request has a byte at least
pub takes_same : (s : ChipState) (past : List Entry) (sendings : List Sending) (node : ℕ) (payload : List ℕ) → AreSending s.sending sendings → TieJoined past s → 1 ≤ length payload
    → takes_of s node payload ≡ takes past sendings node payload
takes_same s past sendings node payload are joined some =
    ap₂ (λ (a b : Bool). a && (b && (nat_le 1 (length payload) && nat_le (length payload) 46))) (idle_same s.sending sendings are) (joined node)
    ∙ ap (λ (b : Bool). (length sendings == 0) && (is_joined past node && (b && nat_le (length payload) 46))) (le-leb 1 (length payload) some)

-- ---- after a request

in_again : (clock : ℕ) (sendings : List Sending) → in_tick clock (in_tick clock sendings) ≡ in_tick clock sendings
in_again clock [] = refl
in_again clock (one ∷ sendings) = by (one.clock == clock) refl (in_again clock sendings)
  where
    by : (b : Bool) → (one.clock == clock) ≡ b → in_tick clock (in_tick clock sendings) ≡ in_tick clock sendings
        → in_tick clock (if b then one ∷ in_tick clock sendings else in_tick clock sendings) ≡ (if b then one ∷ in_tick clock sendings else in_tick clock sendings)
    by true is rest = ap (λ (b : Bool). if b then one ∷ in_tick clock (in_tick clock sendings) else in_tick clock (in_tick clock sendings)) is ∙ ap (λ (l : List Sending). one ∷ l) rest
    by false is rest = rest

module _ (past : List Entry) (clock : ℕ) (now : clock_of past ≡ clock) (last : List Sending) where
  abbrev under : List Sending
  under = in_tick (clock_of past) last

  -- the ones under way before it are those that were
  under_again : in_tick clock under ≡ in_tick clock last
  under_again = ap (λ (n : ℕ). in_tick clock (in_tick n last)) now ∙ in_again clock last

  abbrev Ties : ChipState → List Sending → Type 0
  Ties s sendings = AreSending s.sending (in_tick clock sendings)

  same_ties : (s later : ChipState) → later.sending ≡ s.sending → Ties s last → Ties later under
  same_ties s later same ties =
      subst (λ (o : Option SendingParts). AreSending o (in_tick clock under)) (sym same) (subst (λ (l : List Sending). AreSending s.sending l) (sym under_again) ties)

  given_same : (o : Option FrameParts) (s : ChipState) → (given_if s o).sending ≡ s.sending
  given_same None s = refl
  given_same (Some f) s = refl

  stopped_none : (o : Option SendingParts) (s : ChipState) → s.sending ≡ o → (stopped o s).sending ≡ None
  stopped_none None s is = is
  stopped_none (Some parts) s is = refl

  send_ties : (s : ChipState) (node : ℕ) (payload : List ℕ) (options id : ℕ) → takes_of s node payload ≡ takes past under node payload → Ties s last
      → Ties (requested (Some (SendData node payload options id)) s) (sending_by past under (SendData node payload options id))
  send_ties s node payload options id agree ties = by (takes_of s node payload) refl
    where
      parts : SendingParts
      parts = record { node = node; callback_id = id }

      by : (b : Bool) → takes_of s node payload ≡ b → Ties (requested (Some (SendData node payload options id)) s) (sending_by past under (SendData node payload options id))
      by true is =
          rw (sym agree ∙ is)
          (rw is (
            sending_of past node payload id,
            ap (λ (b : Bool). if b then sending_of past node payload id ∷ [] else []) (ap (λ (n : ℕ). n == clock) now ∙ eq-eqb clock clock refl),
            refl,
            refl,
          ))
      by false is =
          rw (sym agree ∙ is)
          (rw is (same_ties s (given_if s (reply_to s (SendData node payload options id))) (given_same (reply_to s (SendData node payload options id)) s) ties))

  request_ties : (request : Request) (s : ChipState)
      → ((node : ℕ) (payload : List ℕ) (options id : ℕ) → request ≡ SendData node payload options id → takes_of s node payload ≡ takes past under node payload)
      → Ties s last → Ties (requested (Some request) s) (sending_by past under request)
  request_ties (SendData node payload options id) s agree ties = send_ties s node payload options id (agree node payload options id refl) ties
  request_ties SendDataAbort s agree ties =
      let given : ChipState = given_if s (reply_to s SendDataAbort) in
      subst (λ (o : Option SendingParts). AreSending o []) (sym (stopped_none given.sending given refl)) refl
  request_ties GetInitData s agree ties = same_ties s (given_if s (reply_to s GetInitData)) (given_same (reply_to s GetInitData) s) ties
  request_ties GetCapabilities s agree ties = same_ties s (given_if s (reply_to s GetCapabilities)) (given_same (reply_to s GetCapabilities) s) ties
  request_ties GetVersion s agree ties = same_ties s (given_if s (reply_to s GetVersion)) (given_same (reply_to s GetVersion) s) ties
  request_ties MemoryGetId s agree ties = same_ties s (given_if s (reply_to s MemoryGetId)) (given_same (reply_to s MemoryGetId) s) ties
  request_ties (GetNodeProtocolInfo node) s agree ties =
      same_ties s (given_if s (reply_to s (GetNodeProtocolInfo node))) (given_same (reply_to s (GetNodeProtocolInfo node)) s) ties
  request_ties (AddNode mode id) s agree ties = same_ties s (given_if s (reply_to s (AddNode mode id))) (given_same (reply_to s (AddNode mode id)) s) ties
  request_ties (RequestNodeInfo node) s agree ties = same_ties s (given_if s (reply_to s (RequestNodeInfo node))) (given_same (reply_to s (RequestNodeInfo node)) s) ties
  request_ties (IsFailedNode node) s agree ties = same_ties s (given_if s (reply_to s (IsFailedNode node))) (given_same (reply_to s (IsFailedNode node)) s) ties
  request_ties (GetRoutingInfo node x y z) s agree ties =
      same_ties s (given_if s (reply_to s (GetRoutingInfo node x y z))) (given_same (reply_to s (GetRoutingInfo node x y z)) s) ties

  -- after the frame that was answered
  pub requested_ties : (o : Option Request) (s : ChipState)
      → ((node : ℕ) (payload : List ℕ) (options id : ℕ) → o ≡ Some (SendData node payload options id) → takes_of s node payload ≡ takes past under node payload)
      → Ties s last → Ties (requested o s) (sending_after last (map (λ (request : Request). record { request = request; past = past }) (listed_of o)))
  requested_ties None s agree ties = ties
  requested_ties (Some request) s agree ties = request_ties request s (λ node payload options id is. agree node payload options id (ap (λ (r : Request). Some r) is)) ties

-- the frame that is answered, with all that is told of it
pub answered_ties : (course : Course) (past told : List Entry) (clock : ℕ) (f : FrameParts) (s : ChipState) → clock_of past ≡ clock → slice_get course.passed (acks past) ≡ Some f → AllByRecursion IsNoAck told
    → ((node : ℕ) (payload : List ℕ) (options id : ℕ) → asked_of f ≡ Some (SendData node payload options id)
    → takes_of s node payload ≡ takes past (in_tick (clock_of past) (last_sending course past)) node payload)
    → AreSending s.sending (in_tick clock (last_sending course past)) → AreSending (requested (asked_of f) s).sending (in_tick clock (last_sending course (past ++ answer ∷ told)))
answered_ties course past told clock f s now passed none agree ties =
    subst (λ (l : List Sending). AreSending (requested (asked_of f) s).sending (in_tick clock l)) (sym (last_answered course past told f passed none))
    (requested_ties past clock now (last_sending course past) (asked_of f) s agree ties)
