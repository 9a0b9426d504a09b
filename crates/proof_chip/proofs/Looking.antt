-- What the count needs to be known of chip, calls and air, after a request that the chip serves.
use Rattle.std.proofs.Common.{◌≡◌, ℕ, ◌+◌, ◌||◌, Bool, true, false, if◌then◌else◌, List, [], ◌∷◌, ◌++◌, refl, sym, ap, ◌∙◌, subst, arith}
use Rattle.std.specs.Prelude.{Option, Some, None}
use Rattle.std.specs.Option.{is_some}
use Rattle.chip_functions.specs.declared.request.Request.{Request}
use Rattle.chip_functions.specs.declared.request.Request.TheVariants.{GetInitData, GetCapabilities, SendData, GetVersion, SendDataAbort, MemoryGetId, GetNodeProtocolInfo, AddNode, RequestNodeInfo, IsFailedNode, GetRoutingInfo}
use Rattle.chip_sim.specs.State.{ChipState}
use Rattle.chip_sim.specs.Answers.{takes as takes_of}
use Rattle.chip_sim.specs.Requests.{given_if, reply_to, requested, stopped}
use Rattle.chip_sim.specs.Events.{ChipEvent}
use Rattle.chip_sim.specs.declared.out.Sending.{Sending as SendingParts}
use Rattle.mesh_sim.specs.Air.{AirState}
use Rattle.law_transcript.specs.Lists.{last_or}
use Rattle.outside_model.specs.declared.waits.Call.{Call}
use Rattle.outside_model.specs.declared.waits.Call.TheVariants.{OfFrame, NoRoute as no_route_call}
use Rattle.outside_model.specs.declared.waits.Due.{Due}
use Rattle.outside_model.specs.declared.waits.Due.TheVariants.{Info, NoRoute as no_route_due}
use Rattle.outside_model.specs.State.{OuterState}
use Rattle.outside_model.specs.Chip.{chip_does}
use Rattle.proof_air.proofs.Times.{does_time}
use Rattle.proof_line.specs.proof_traffic.OnAir.{on_air}
use Rattle.proof_line.specs.proof_traffic.OutsideTraffic.{flags, of_frame}
use Rattle.proof_chip.specs.Tally.{Outlook, infos_in, numbers_from, outlook}
use Rattle.proof_chip.proofs.Giving.{Turns}
use Rattle.proof_chip.proofs.Leaving.{LeavesSo, LeavesTaken}
use Rattle.proof_chip.proofs.Resting.{Rests, rests_both}
use Rattle.proof_chip.proofs.Replied.{LooksSo, LooksTaken}

-- ---- how it looks

pub does_clock : (o : OuterState) (e : ChipEvent) → (chip_does o e).outer.clock ≡ o.clock
does_clock o e = ap (λ (t : Bool × Bool × ℕ). t.2) (does_time o e)

-- ---- the SendData under way

stopped_none : (x : Option SendingParts) (s : ChipState) → s.sending ≡ x → is_some (stopped x s).sending ≡ false
stopped_none None s is = ap (λ (x : Option SendingParts). is_some x) is
stopped_none (Some parts) s is = refl

-- after a request
abbrev pub SendsSo : ChipState → Bool → Option Request → Type 0
SendsSo s later (Some (SendData node payload options id)) = later ≡ (takes_of s node payload || is_some s.sending)
SendsSo s later (Some SendDataAbort) = later ≡ false
SendsSo s later asked = later ≡ is_some s.sending

pub sends_so : (s : ChipState) (asked : Option Request) → SendsSo s (is_some (requested asked s).sending) asked
sends_so s None = refl
sends_so s (Some (SendData node payload options id)) = by (takes_of s node payload)
  where
    after_reply : ChipState
    after_reply = given_if s (reply_to s (SendData node payload options id))

    by : (b : Bool) → is_some (if b then record after_reply { sending = Some (record { node = node; callback_id = id }) } else after_reply).sending ≡ (b || is_some s.sending)
    by true = refl
    by false = refl
sends_so s (Some SendDataAbort) = stopped_none (given_if s (reply_to s SendDataAbort)).sending (given_if s (reply_to s SendDataAbort)) refl
sends_so s (Some GetInitData) = refl
sends_so s (Some GetCapabilities) = refl
sends_so s (Some GetVersion) = refl
sends_so s (Some MemoryGetId) = refl
sends_so s (Some (GetNodeProtocolInfo node)) = refl
sends_so s (Some (AddNode mode id)) = refl
sends_so s (Some (RequestNodeInfo node)) = refl
sends_so s (Some (IsFailedNode node)) = refl
sends_so s (Some (GetRoutingInfo node a b c)) = refl

-- ---- how it looks after a request

pub last_call : (calls : List Call) (call : Call) (b : Bool) → last_or b (flags (calls ++ call ∷ [])) ≡ last_or false (flags (call ∷ []))
last_call [] OfFrame b = refl
last_call [] no_route_call b = refl
last_call (first ∷ calls) call b = last_call calls call (of_frame first)

infos_more : (due : List Due) (more : Due) → infos_in (due ++ more ∷ []) ≡ infos_in due + infos_in (more ∷ [])
infos_more [] more = zero_plus (infos_in (more ∷ []))
  where
    zero_plus : (n : ℕ) → n ≡ 0 + n
    zero_plus n = omega arith
infos_more (Info node ∷ due) more = let rest = infos_more due more in omega (arith, rest)
infos_more (no_route_due ∷ due) more = infos_more due more

plus_none : (n : ℕ) → n ≡ n + 0
plus_none n = omega arith

-- these were as before, and what is under way as told
turns_of : (o p : OuterState) → Rests o p → is_some p.chip.state.sending ≡ is_some o.chip.state.sending → p.clock ≡ o.clock → Turns (outlook o) (outlook p)
turns_of o p rests sending clock = record {
  sending = sending;
  by_frame = ap (λ (calls : List Call). last_or false (flags calls)) rests.calls;
  numbers = ap (λ (air : AirState). numbers_from (air.frames.landed + 1) (on_air air.frames)) rests.air;
  clock = clock;
}

same_infos : (o p : OuterState) → Rests o p → (outlook p).infos ≡ (outlook o).infos + 0
same_infos o p rests = ap infos_in rests.due ∙ plus_none (infos_in o.due)

module _ (s : ChipState) (o from p : OuterState) (same : s.sending ≡ o.chip.state.sending) (first : Rests o from) (clock : p.clock ≡ o.clock) where
  sending_same : is_some p.chip.state.sending ≡ is_some s.sending → is_some p.chip.state.sending ≡ is_some o.chip.state.sending
  sending_same is = is ∙ ap (λ (x : Option SendingParts). is_some x) same

  looks_rest : Rests from p → is_some p.chip.state.sending ≡ is_some s.sending → Turns (outlook o) (outlook p) × ((outlook p).infos ≡ (outlook o).infos + 0)
  looks_rest rests sending = let all = rests_both o from p first rests in (turns_of o p all (sending_same sending) clock, same_infos o p all)

  looks_taken : (b : Bool) → LeavesTaken b from p → is_some p.chip.state.sending ≡ (b || is_some s.sending) → LooksTaken b (outlook o) (outlook p)
  looks_taken true (calls, due, air) sending = (
    sending,
    ap (λ (l : List Call). last_or false (flags l)) calls ∙ last_call from.calls no_route_call false,
    ap (λ (a : AirState). numbers_from (a.frames.landed + 1) (on_air a.frames)) (air ∙ first.air),
    ap infos_in due ∙ (infos_more from.due no_route_due ∙ (sym (plus_none (infos_in from.due)) ∙ ap infos_in first.due)),
  )
  looks_taken false rests sending = looks_rest rests sending

  pub looks_so : (asked : Option Request) → LeavesSo s from p asked → SendsSo s (is_some p.chip.state.sending) asked → LooksSo (λ node payload. takes_of s node payload) (outlook o) (outlook p) asked
  looks_so None rests sending = looks_rest rests sending
  looks_so (Some (SendData node payload options id)) leaves sending = looks_taken (takes_of s node payload) leaves sending
  looks_so (Some SendDataAbort) rests sending = (sending, same_infos o p (rests_both o from p first rests))
  looks_so (Some (RequestNodeInfo node)) (calls, due, air) sending = (
    record {
      sending = sending_same sending;
      by_frame = ap (λ (l : List Call). last_or false (flags l)) (calls ∙ first.calls);
      numbers = ap (λ (a : AirState). numbers_from (a.frames.landed + 1) (on_air a.frames)) (air ∙ first.air);
      clock = clock;
    },
    ap infos_in due ∙ (infos_more from.due (Info node) ∙ ap (λ (l : List Due). infos_in l + 1) first.due),
  )
  looks_so (Some GetInitData) rests sending = looks_rest rests sending
  looks_so (Some GetCapabilities) rests sending = looks_rest rests sending
  looks_so (Some GetVersion) rests sending = looks_rest rests sending
  looks_so (Some MemoryGetId) rests sending = looks_rest rests sending
  looks_so (Some (GetNodeProtocolInfo node)) rests sending = looks_rest rests sending
  looks_so (Some (AddNode mode id)) rests sending = looks_rest rests sending
  looks_so (Some (IsFailedNode node)) rests sending = looks_rest rests sending
  looks_so (Some (GetRoutingInfo node a b c)) rests sending = looks_rest rests sending

-- by the transcript
pub looks_by : (one other : ℕ → List ℕ → Bool) (v later : Outlook) (asked : Option Request)
    → ((node : ℕ) (payload : List ℕ) (options id : ℕ) → asked ≡ Some (SendData node payload options id) → one node payload ≡ other node payload)
    → LooksSo one v later asked → LooksSo other v later asked
looks_by one other v later None agree looks = looks
looks_by one other v later (Some (SendData node payload options id)) agree looks = subst (λ (b : Bool). LooksTaken b v later) (agree node payload options id refl) looks
looks_by one other v later (Some SendDataAbort) agree looks = looks
looks_by one other v later (Some (RequestNodeInfo node)) agree looks = looks
looks_by one other v later (Some GetInitData) agree looks = looks
looks_by one other v later (Some GetCapabilities) agree looks = looks
looks_by one other v later (Some GetVersion) agree looks = looks
looks_by one other v later (Some MemoryGetId) agree looks = looks
looks_by one other v later (Some (GetNodeProtocolInfo node)) agree looks = looks
looks_by one other v later (Some (AddNode mode id)) agree looks = looks
looks_by one other v later (Some (IsFailedNode node)) agree looks = looks
looks_by one other v later (Some (GetRoutingInfo node a b c)) agree looks = looks
