-- Commands of a node that are not over go sealed, where the host knew as it accepted each that the device of the node lists Security 0.
use Rattle.std.proofs.Common.{◌≡◌, ◌<◌, ◌≤◌, ◌&&◌, ℕ, zero, suc, not, inl, inr, Bool, true, false, if◌then◌else◌, Option, Some, None, List, [], ◌∷◌, refl, sym, ap, ◌∙◌, subst}
use Rattle.std.specs.Prelude.{◌⊎◌, filter, slice_get}
use Rattle.std.specs.List.{AllByRecursion}
use Rattle.zw_base.specs.declared.order.Order.{Order}
use Rattle.zw_text.specs.declared.entry.Entry.{Entry}
use Rattle.zw_text.specs.declared.entry.Outcome.{Outcome}
use Rattle.zw_text.specs.declared.entry.Outcome.TheVariants.{Waiting, Begun, Success, Fail, NoSupport, Unanswered, Cancelled}
use Rattle.zw_text.specs.Transcript.{outcome, sessions}
use Rattle.law_transcript.specs.Commands.{classes_for, is_waiting}
use Rattle.law_transcript.specs.Lists.{Has}
use Rattle.law_transcript.specs.Nodes.{always}
use Rattle.law_transcript.proofs.Having.{all_has}
use Rattle.law_time.specs.Sessions.{is_final}
use Rattle.law_time.specs.Stretches.{is_open, is_taken_back}
use Rattle.supervision.specs.Host.{command_at as command_of_session, open_session}
use Rattle.host_keep.specs.Kept.{Taken}
use Rattle.host_orders.specs.Classes.{actuator_of, lists}
use Rattle.host_orders.specs.Wrapping.{carriage_of, wrapped_len}
use Rattle.host_orders.specs.declared.carriage.Carriage.{Carriage}
use Rattle.host_model.specs.Facts.{IsCommandOf}
use Rattle.host_model.specs.Sessions.{command_by, open_command}
use Rattle.host_model.specs.State.{Command, HostState, command_at, node_of}
use Rattle.world_model.specs.Did.{MayAll, happens_all}
use Rattle.world_model.specs.Events.{Event, happens}
use Rattle.world_model.specs.State.{Machine}
use Rattle.proof_course_plain.specs.proof_host.Tables.{outcome_in, recorded, taken_at, taken_by}
use Rattle.proof_course_plain.proofs.HostEvents.{owned}
use Rattle.proof_host.specs.Facts.{Facts}
use Rattle.proof_host.specs.Laws.{IsUnderWay, numbers_for}
use Rattle.proof_spoken.specs.Restarts.{AllStartWell}
use Rattle.proof_in_time.specs.Exchanging.{GoSealed}
use Rattle.proof_in_time.proofs.Commands.{AllGo, AreNearAt, machine_goes, sound_at}
use Rattle.proof_in_time.proofs.GoingSealed.{own_waits, sealed_outer}

-- ---- end points

-- an order is for an end point that has a number on the wire
abbrev pub NamesEnd : Order → Carriage → Type 0
NamesEnd order carriage = order.end ≤ 127

pub all_near : (these : List Bool) (m : Machine) (events : List Event) → MayAll m events → AllStartWell m events → AllByRecursion (AreNearAt these) events → AllGo NamesEnd these m.host.state.commands
    → AllGo NamesEnd these (happens_all m events).host.state.commands
all_near these m [] may starts near go = go
all_near these m (event ∷ events) may starts near go =
    all_near these (happens m event) events may.1 starts.1 near.1
    (machine_goes NamesEnd (λ classes. false) (λ h order carriage accepted none end. end) these m event starts.0 may.0 (λ n marked. refl) near.0 go)

-- ---- lists

filter_has : (so : ℕ → Bool) (l : List ℕ) (number : ℕ) → Has (filter so l) number → Has l number
filter_has so [] number has = has
filter_has so (one ∷ l) number has = by (so one) has (filter_has so l number)
  where
    by : (b : Bool) → Has (if b then one ∷ filter so l else filter so l) number → (Has (filter so l) number → Has l number) → Has (one ∷ l) number
    by true (inl same) rest = inl same
    by true (inr later) rest = inr (rest later)
    by false later rest = inr (rest later)

got_has : (l : List ℕ) (place number : ℕ) → slice_get l place ≡ Some number → Has l number
got_has [] place number is = absurd cc
got_has (one ∷ l) zero number is = inl cc
got_has (one ∷ l) (suc place) number is = inr (got_has l place number is)

session_has : (l : List ℕ) (session number : ℕ) → command_of_session l session ≡ Some number → Has l number
session_has l zero number is = absurd (let wrong : None ≡ Some number = is in cc)
session_has l (suc place) number is = got_has l place number is

-- ---- outcomes

-- a command that waits, or is under way, is open
still_open : (o : Outcome) → (recorded o ≡ Waiting) ⊎ (recorded o ≡ Begun) → not (is_final o) && not (is_taken_back o) ≡ true
still_open Waiting is = refl
still_open Begun is = refl
still_open Unanswered is = refl
still_open Success (inl is) = absurd cc
still_open Success (inr is) = absurd cc
still_open Fail (inl is) = absurd cc
still_open Fail (inr is) = absurd cc
still_open NoSupport (inl is) = absurd cc
still_open NoSupport (inr is) = absurd cc
still_open Cancelled (inl is) = absurd cc
still_open Cancelled (inr is) = absurd cc

way_recorded : (o : Outcome) → IsUnderWay o → recorded o ≡ Begun
way_recorded Begun way = refl
way_recorded Unanswered way = refl
way_recorded o way = absurd way

-- ---- a node

module _ (n : ℕ) (within : n < 233) (listing : ℕ → List ℕ) (past : List Entry) (h : HostState) (facts : Facts past h) (begun : AllByRecursion (Has (numbers_for n past)) (sessions n past))
    (carried : (number : ℕ) (taken : Taken) → Has (numbers_for n past) number → taken_at h.commands number ≡ Some taken → taken.carriage ≡ carriage_of (classes_for (always listing) past n number) taken.order)
    (ends : (number : ℕ) (command : Command) → command_at h.commands number ≡ Some command → command.order.node ≡ n → command.order.end ≤ 127) (secure : lists (listing n) 0x98 ≡ true)
    (knew : (number : ℕ) → Has (numbers_for n past) number → is_open past number ≡ true → classes_for (always listing) past n number ≡ listing n) where
  abbrev IsThere : ℕ → Type 0
  IsThere number = Has (node_of h n).waiting number ⊎ (open_command (node_of h n) ≡ Some number)

  -- the session of one that is open
  session_of : (number : ℕ) → open_command (node_of h n) ≡ Some number → (session : ℕ) × (command_of_session (node_of h n).book.commands session ≡ Some number)
  session_of number opened = by (open_session (node_of h n).book) refl
    where
      by : (o : Option ℕ) → open_session (node_of h n).book ≡ o → (session : ℕ) × (command_of_session (node_of h n).book.commands session ≡ Some number)
      by None none = absurd (let wrong : None ≡ Some number = sym (ap (λ (o : Option ℕ). command_by (node_of h n) o) none) ∙ opened in cc)
      by (Some session) some = (session, sym (ap (λ (o : Option ℕ). command_by (node_of h n) o) some) ∙ opened)

  numbered : (number : ℕ) → IsThere number → Has (numbers_for n past) number
  numbered number (inl has) = filter_has (λ k. is_waiting (outcome_in h.commands k)) (numbers_for n past) number (subst (λ (l : List ℕ). Has l number) (facts.waiting n) has)
  numbered number (inr opened) =
      let session = session_of number opened in
      all_has (Has (numbers_for n past)) (sessions n past) number begun
      (subst (λ (l : List ℕ). Has l number) (sym (facts.begun n)) (session_has (node_of h n).book.commands session.0 number session.1))

  opens : (number : ℕ) → IsThere number → is_open past number ≡ true
  opens number (inl has) =
      let waits : outcome_in h.commands number ≡ Waiting = all_has (λ (k : ℕ). outcome_in h.commands k ≡ Waiting) (node_of h n).waiting number (facts.in_order n).wait has in
      still_open (outcome number past) (inl (facts.entered number ∙ ap recorded waits))
  opens number (inr opened) = still_open (outcome number past) (inr (facts.entered number ∙ way_recorded (outcome_in h.commands number) ((facts.in_order n).under_way number opened)))

  own : (number : ℕ) → IsThere number → IsCommandOf h.commands n number
  own number (inl has) = own_waits n within h.commands (node_of h n).waiting number (facts.host.owns n).waiting has
  own number (inr opened) = let session = session_of number opened in owned h.commands n (node_of h n).book.commands session.0 number (facts.host.owns n).sessions session.1

  pub go_sealed : GoSealed n h
  go_sealed number command found there =
      let is = own number there in
      let both : Some is.command ≡ Some command = sym is.found ∙ found in
      let same : is.command ≡ command = cc in
      let in_all = numbered number there in
      let carriage : command.carriage ≡ carriage_of (classes_for (always listing) past n number) command.order = carried number (record { order = command.order; carriage = command.carriage }) in_all (ap taken_by found) in
      record {
        fit = (sound_at h facts.host number command found).fit;
        end = ends number command found (ap (λ (c : Command). c.order.node) (sym same) ∙ is.node);
        outer = ap (λ (c : Carriage). c.outer) carriage
            ∙ sealed_outer (classes_for (always listing) past n number) (wrapped_len (actuator_of (classes_for (always listing) past n number)) command.order)
            (ap (λ (l : List ℕ). lists l 0x98) (knew number in_all (opens number there)) ∙ secure);
      }
