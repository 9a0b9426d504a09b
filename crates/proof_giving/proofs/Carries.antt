-- Whether a request of an attempt carries what others follow: by the transcript as the host has it.
use Rattle.std.proofs.Common.{◌≡◌, ◌⊎◌, ℕ, ◌+◌, ◌≤◌, ◌<◌, Bool, true, false, if◌then◌else◌, inl, inr, List, [], ◌∷◌, length, Option, Some, None, refl, sym, ap, ◌∙◌, subst, arith}
use Rattle.std.specs.Prelude.{nat_lt}
use Rattle.std.proofs.lemmas.Bool.{lt-ltb, ltb-true}
use Rattle.supervision.specs.Host.{open_session}
use Rattle.host_orders.specs.Wrapping.{form_of}
use Rattle.host_orders.specs.declared.carriage.Form.{Form}
use Rattle.host_orders.specs.declared.carriage.Form.TheVariants.{Plain, Cut, Sealed}
use Rattle.zw_text.specs.declared.entry.Entry.{Entry}
use Rattle.host_heard.specs.declared.told.Told.{Told}
use Rattle.law_transcript.specs.Units.{Carried, sending_in}
use Rattle.host_node.specs.declared.attempt.Plan.{Plan}
use Rattle.host_node.specs.declared.attempt.Plan.TheVariants as plan
use Rattle.host_node.specs.State.{has_segment}
use Rattle.host_model.specs.State.{Command, HostState, node_of}
use Rattle.host_model.specs.Sessions.{command_if, message_for, open_segment, segment_at, segment_by, segment_count, segment_of, start_by}
use Rattle.host_model.specs.Facts.{FitsForm, HasSegments, HostFacts, IsSound}
use Rattle.host_model.specs.May.{IsStart}
use Rattle.proof_queue.proofs.Segments.{Shows}
use Rattle.proof_giving.specs.Tie.{IsSealing}
use Rattle.host_model.proofs.Pumps.{found_is}
use Rattle.proof_giving.proofs.Inner.{inner_at, inner_by, inner_told}
use Rattle.proof_giving.proofs.Segments.{segment_inner}

-- ---- of a form

cut_inner : (session : ℕ) (message : List ℕ) (k n : ℕ) (unit : List ℕ) → 1 ≤ length message → k < segment_count message
    → sending_in unit ≡ record { node = n; payload = segment_at session message k } ∷ [] → inner_by Cut session message unit ≡ nat_lt (k + 1) (segment_count message)
cut_inner session message k n unit some within carries = segment_inner (record { node = n; number = session; message = message; form = Cut }) k n unit some within carries

start_inner : (f : Form) (session : ℕ) (message : List ℕ) (n : ℕ) (unit : List ℕ) → FitsForm f message → sending_in unit ≡ record { node = n; payload = (start_by f session message).payload } ∷ []
    → inner_by f session message unit ≡ (start_by f session message).more
start_inner Plain session message n unit fits carries = refl
start_inner Sealed session message n unit fits carries = refl
start_inner Cut session message n unit fits carries = let some = fits.0 in cut_inner session message 0 n unit fits.0 (omega (arith, some)) carries

sealed_form : (f : Form) (session : ℕ) (message text : List ℕ) → plan.Sealed text ≡ (start_by f session message).plan → f ≡ Sealed
sealed_form Plain session message text is = absurd (let bad : plan.Sealed text ≡ plan.Whole = is in cc)
sealed_form Cut session message text is = absurd (let bad : plan.Sealed text ≡ plan.Segments (segment_count message) = is in cc)
sealed_form Sealed session message text is = refl

-- ---- of a host

module _ (taken : List Entry → Carried → List Told) (past : List Entry) (h : HostState) (n : ℕ) (shows : Shows past h n) (facts : HostFacts h) (unit : List ℕ) where
  -- what begins an attempt
  pub starts_inner : (plan : Plan) (more : Bool) (payload : List ℕ) → IsStart h n plan more payload → sending_in unit ≡ record { node = n; payload = payload } ∷ [] → inner_told taken past n unit ≡ more
  starts_inner plan more payload s carries =
      let sound : IsSound h.store s.command = found_is (IsSound h.store) h.commands s.carried.0 s.command s.carried.2 facts.commands in
      inner_at taken past h n shows facts s.session s.carried.0 s.command s.opened s.carried.1 s.carried.2 unit
      ∙ start_inner (form_of s.command.carriage.outer) s.session (message_for s.command s.session) n unit (sound.form s.session)
      (carries ∙ ap (λ (l : List ℕ). record { node = n; payload = l } ∷ []) s.payload_is) ∙ sym s.more_is

  -- a further segment
  pub segments_inner : (more : Bool) (payload : List ℕ) → has_segment (node_of h n) ≡ true
      → open_segment h (node_of h n) (open_session (node_of h n).book) (node_of h n).next_segment ≡ Some payload → more ≡ nat_lt ((node_of h n).next_segment + 1) (node_of h n).segments
      → sending_in unit ≡ record { node = n; payload = payload } ∷ [] → inner_told taken past n unit ≡ more
  segments_inner more payload has given more_is carries = by (facts.owns n).segments
    where
      k : ℕ
      k = (node_of h n).next_segment

      less : k < (node_of h n).segments
      less = ltb-true (node_of h n).next_segment (node_of h n).segments has

      text_is : (b : Bool) (text : List ℕ) → b ≡ true → (if b then Some text else None) ≡ Some payload → payload ≡ text
      text_is true text is same = cc
      text_is false text is same = absurd (let bad : false ≡ true = is in cc)

      by : ((node_of h n).segments ≡ 0) ⊎ HasSegments h.commands (node_of h n) → inner_told taken past n unit ≡ more
      by (inl none) = absurd (omega (arith, none, less))
      by (inr s) =
          let message : List ℕ = message_for s.command s.session in
          let sound : IsSound h.store s.command = found_is (IsSound h.store) h.commands s.number s.command s.found facts.commands in
          let fits : FitsForm Cut message = subst (λ (f : Form). FitsForm f message) s.form (sound.form s.session) in
          let count = s.count in
          let within : k < segment_count message = omega (arith, less, count) in
          let cut : segment_by Cut s.session message k ≡ Some payload
          = sym (ap (λ (o : Option ℕ). open_segment h (node_of h n) o k) s.opened
          ∙ ap (λ (o : Option ℕ). segment_of (command_if h.commands o) s.session k) s.carried ∙ ap (λ (o : Option Command). segment_of o s.session k) s.found
          ∙ ap (λ (f : Form). segment_by f s.session message k) s.form) ∙ given in
          let text : payload ≡ segment_at s.session message k = text_is (nat_lt k (segment_count message)) (segment_at s.session message k) (lt-ltb k (segment_count message) within) cut in
          inner_at taken past h n shows facts s.session s.number s.command s.opened s.carried s.found unit
          ∙ ap (λ (f : Form). inner_by f s.session message unit) s.form
          ∙ cut_inner s.session message k n unit fits.0 within (carries ∙ ap (λ (l : List ℕ). record { node = n; payload = l } ∷ []) text)
          ∙ sym (more_is ∙ ap (λ (c : ℕ). nat_lt (k + 1) c) count)

  -- a sealed text
  pub texts_inner : IsSealing h n → inner_told taken past n unit ≡ false
  texts_inner s =
      inner_at taken past h n shows facts s.session s.number s.command s.opened s.carried s.found unit
      ∙ ap (λ (f : Form). inner_by f s.session (message_for s.command s.session) unit) s.form

-- an attempt that begins with a Nonce Get is of a session that is carried sealed
pub starts_sealing : (h : HostState) (n : ℕ) (text : List ℕ) (more : Bool) (payload : List ℕ) → IsStart h n (plan.Sealed text) more payload → IsSealing h n
starts_sealing h n text more payload s = record {
  session = s.session;
  opened = s.opened;
  number = s.carried.0;
  carried = s.carried.1;
  command = s.command;
  found = s.carried.2;
  form = sealed_form (form_of s.command.carriage.outer) s.session (message_for s.command s.session) text s.plan_is;
}
