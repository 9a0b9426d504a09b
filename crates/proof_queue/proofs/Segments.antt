-- A segment that a node asks for again is the one of its open session, by the transcript as in the host.
use Rattle.std.proofs.Common.{◌≡◌, ◌<◌, ℕ, ◌+◌, ◌-◌, ◌/◌, ◌%◌, ◌==◌, ◌&&◌, Bool, true, false, if◌then◌else◌, List, [], ◌∷◌, ◌++◌, length, refl, sym, ap, ap₂, ◌∙◌, subst, arith}
use Rattle.std.specs.Prelude.{Option, Some, None, drop, is_some, nat_lt, slice_get}
use Rattle.std.specs.List.{flat_map}
use Rattle.std.proofs.lemmas.Bool.{and_from, eq-eqb, eqb-true, lt-ltb, ltb-true}
use Rattle.supervision.specs.Host.{HostBook, command_at as command_of_session, open_session}
use Rattle.zw_base.specs.declared.order.Order.{Order}
use Rattle.zw_text.specs.declared.entry.Entry.{Entry}
use Rattle.zw_text.specs.Transcript.{accepted, sessions}
use Rattle.chip_functions.specs.declared.function.TheConstants.{SEND_DATA}
use Rattle.host_orders.specs.Wrapping.{carriage_of, form_of, message_of}
use Rattle.host_orders.specs.declared.carriage.Carriage.{Carriage}
use Rattle.host_orders.specs.declared.carriage.Form.{Form}
use Rattle.host_orders.specs.declared.carriage.Form.TheVariants.{Plain, Cut, Sealed}
use Rattle.law_transcript.specs.Commands.{classes_for, message_by, message_for as message_told, order_of}
use Rattle.law_transcript.specs.Payloads.{form_by}
use Rattle.law_time.specs.Judged.{last_of}
use Rattle.law_time.specs.Sessions.{Session, is_open, last_command, segment_at as segment_told, session_of}
use Rattle.law_time.specs.Wants.{has_segment, segment_asked, segment_of as segment_wanted, segments_wanted}
use Rattle.host_node.specs.State.{is_open as has_open}
use Rattle.host_model.specs.State.{Command, HostState, command_at, node_of}
use Rattle.host_model.specs.Sessions.{command_if, message_for, open_segment, segment_at, segment_by, segment_count, segment_of}
use Rattle.host_model.specs.Taking.{wanted_segment}
use Rattle.proof_attempts.specs.proof_host.Tables.{taken_at, taken_by}
use Rattle.proof_attempts.specs.proof_requests.law_host.Heard.{listing_heard}
use Rattle.proof_sending.specs.Due.{AreCarried}

-- ---- the last session

-- the last of a list, by its place
last_at : (first : ℕ) (more : List ℕ) (number : ℕ) → slice_get (first ∷ more) (length more) ≡ Some number → drop (length more) (first ∷ more) ≡ number ∷ []
last_at first [] number at = ap (λ (k : ℕ). k ∷ []) (let same : first ≡ number = cc in same)
last_at first (next ∷ more) number at = last_at next more number at

pub session_last : (commands : List ℕ) (number : ℕ) → command_of_session commands (length commands) ≡ Some number → last_of commands ≡ number ∷ []
session_last [] number at = absurd (let bad : ◌≡◌ {A = Option ℕ} None (Some number) = at in cc)
session_last (first ∷ more) number at =
    let before : length (first ∷ more) - 1 ≡ length more = omega arith in
    subst (λ (k : ℕ). drop k (first ∷ more) ≡ number ∷ []) (sym before) (last_at first more number at)

open_last : (outcome : Option ℕ) (commands : List ℕ) (attempts s : ℕ) → open_session (record { commands = commands; outcome = outcome; attempts = attempts }) ≡ Some s → s ≡ length commands
open_last (Some status) commands attempts s is = absurd (let bad : ◌≡◌ {A = Option ℕ} None (Some s) = is in cc)
open_last None [] attempts s is = absurd (let bad : ◌≡◌ {A = Option ℕ} None (Some s) = is in cc)
open_last None (first ∷ more) attempts s is = let same : length (first ∷ more) ≡ s = cc in sym same

pub open_is_last : (book : HostBook) (s : ℕ) → open_session book ≡ Some s → s ≡ length book.commands
open_is_last book s is = open_last book.outcome book.commands book.attempts s is

-- ---- what is known

-- where a payload was acknowledged: the sessions of the node are those of its book, and orders are carried as they were said
pub record Shows (past : List Entry) (h : HostState) (n : ℕ) : Type 0 where
  pub sessions_are : sessions n past ≡ (node_of h n).book.commands
  pub opened : is_open n past ≡ has_open (node_of h n)
  pub last : last_command n past ≡ last_of (node_of h n).book.commands
  pub carried : AreCarried listing_heard past h.commands

-- behind it: no session began, none is open that was not, and no order has changed
pub record Keeps (h now : HostState) (n : ℕ) : Type 0 where
  pub commands : (node_of now n).book.commands ≡ (node_of h n).book.commands
  pub opens : (s : ℕ) → open_session (node_of now n).book ≡ Some s → open_session (node_of h n).book ≡ Some s
  pub taken : (number : ℕ) → taken_at now.commands number ≡ taken_at h.commands number

-- ---- the segment

-- the offset is that of a segment that is there
offset_there : (offset size : ℕ) → offset % 39 ≡ 0 → offset / 39 < (size + 38) / 39 → offset < size
offset_there offset size even within = omega (arith, even, within)

pub record IsSegment (form : Form) (s : ℕ) (message : List ℕ) (k : ℕ) (payload : List ℕ) : Type 0 where
  pub cut : form ≡ Cut
  pub within : k < segment_count message
  pub text : segment_at s message k ≡ payload

by_form : (form : Form) (s : ℕ) (message : List ℕ) (k : ℕ) (payload : List ℕ) → segment_by form s message k ≡ Some payload → IsSegment form s message k payload
by_form Plain s message k payload is = absurd (let bad : ◌≡◌ {A = Option (List ℕ)} None (Some payload) = is in cc)
by_form Sealed s message k payload is = absurd (let bad : ◌≡◌ {A = Option (List ℕ)} None (Some payload) = is in cc)
by_form Cut s message k payload is = by (nat_lt k (segment_count message)) refl is
  where
    by : (b : Bool) → nat_lt k (segment_count message) ≡ b → (if b then Some (segment_at s message k) else None) ≡ Some payload → IsSegment Cut s message k payload
    by true within is = record { cut = refl; within = ltb-true k (segment_count message) within; text = cc }
    by false within is = absurd (let bad : ◌≡◌ {A = Option (List ℕ)} None (Some payload) = is in cc)

-- what is wanted is this segment of a session
pub record IsWanted (past : List Entry) (n id offset : ℕ) (payload : List ℕ) : Type 0 where
  pub is : segments_wanted listing_heard past n id offset ≡ (SEND_DATA ∷ n ∷ payload) ∷ []
  pub session : ℕ
  pub message : List ℕ
  pub text : segment_at session message (offset / 39) ≡ payload

module _ (past : List Entry) (h now : HostState) (n : ℕ) (shows : Shows past h n) (keeps : Keeps h now n) (id offset : ℕ) (payload : List ℕ) where
  abbrev Wanted : Type 0
  Wanted = IsWanted past n id offset payload

  module _ (s : ℕ) (is_open_now : open_session (node_of now n).book ≡ Some s) (same_id : s % 16 ≡ id) (even : offset % 39 ≡ 0) where
    count : length (sessions n past) ≡ s
    count = ap (λ (l : List ℕ). length l) shows.sessions_are ∙ sym (open_is_last (node_of h n).book s (keeps.opens s is_open_now))

    opened : is_open n past ≡ true
    opened = shows.opened ∙ ap (λ (o : Option ℕ). is_some o) (keeps.opens s is_open_now)

    -- with its command
    module _ (number : ℕ) (command : Command) (at : command_of_session (node_of now n).book.commands s ≡ Some number) (found : command_at now.commands number ≡ Some command)
        (segment : IsSegment (form_of command.carriage.outer) s (message_for command s) (offset / 39) payload) where
      at_then : command_of_session (sessions n past) s ≡ Some number
      at_then = ap (λ (l : List ℕ). command_of_session l s) (shows.sessions_are ∙ sym keeps.commands) ∙ at

      last : last_command n past ≡ number ∷ []
      last =
          shows.last ∙ session_last (node_of h n).book.commands number
          (ap (λ (k : ℕ). command_of_session (node_of h n).book.commands k) (sym (open_is_last (node_of h n).book s (keeps.opens s is_open_now)))
          ∙ ap (λ (l : List ℕ). command_of_session l s) (sym keeps.commands) ∙ at)

      taken_so : (order_of number (accepted n past) ≡ Some command.order) × (command.carriage ≡ carriage_of (classes_for listing_heard past n number) command.order)
      taken_so = shows.carried n s number (record { order = command.order; carriage = command.carriage }) at_then (sym (keeps.taken number) ∙ ap taken_by found)

      abbrev session : Session
      session = session_of listing_heard past n number

      message : session.message ≡ message_for command s
      message =
          ap (λ (k : ℕ). message_told listing_heard past n k number) count
          ∙ ap (λ (o : Option Order). message_by (classes_for listing_heard past n number) s o) taken_so.0
          ∙ ap (λ (c : Carriage). message_of c command.order s) (sym taken_so.1)

      form : session.form ≡ Cut
      form = ap (λ (o : Option Order). form_by (classes_for listing_heard past n number) o) taken_so.0 ∙ ap (λ (c : Carriage). form_of c.outer) (sym taken_so.1) ∙ segment.cut

      there : has_segment id offset session ≡ true
      there =
          and_from ((session.number % 16 == id) && (offset % 39 == 0)) (nat_lt offset (length session.message))
          (and_from (session.number % 16 == id) (offset % 39 == 0) (eq-eqb (session.number % 16) id (ap (λ (k : ℕ). k % 16) count ∙ same_id)) (eq-eqb (offset % 39) 0 even))
          (ap (λ (m : List ℕ). nat_lt offset (length m)) message ∙ lt-ltb offset (length (message_for command s)) (offset_there offset (length (message_for command s)) even segment.within))

      text : segment_told session (offset / 39) ≡ payload
      text = ap₂ (λ (k : ℕ) (m : List ℕ). segment_at k m (offset / 39)) count message ∙ segment.text

      wanted : segments_wanted listing_heard past n id offset ≡ (SEND_DATA ∷ n ∷ payload) ∷ []
      wanted =
          ap (λ (b : Bool). if b then flat_map (segment_wanted listing_heard past n id offset) (last_command n past) else []) opened
          ∙ ap (λ (l : List ℕ). flat_map (segment_wanted listing_heard past n id offset) l) last
          ∙ ap (λ (f : Form). segment_asked id offset session f ++ []) form
          ∙ ap (λ (b : Bool). (if b then (SEND_DATA ∷ n ∷ segment_told session (offset / 39)) ∷ [] else []) ++ []) there
          ∙ ap (λ (p : List ℕ). (SEND_DATA ∷ n ∷ p) ∷ []) text

      segment_is : Wanted
      segment_is = record { is = wanted; session = s; message = message_for command s; text = segment.text }

    by_command : (number : ℕ) (found : Option Command) → command_of_session (node_of now n).book.commands s ≡ Some number → command_at now.commands number ≡ found
        → segment_of found s (offset / 39) ≡ Some payload → Wanted
    by_command number None at found is = absurd (let bad : ◌≡◌ {A = Option (List ℕ)} None (Some payload) = is in cc)
    by_command number (Some command) at found is = segment_is number command at found (by_form (form_of command.carriage.outer) s (message_for command s) (offset / 39) payload is)

    by_number : (number : Option ℕ) → command_of_session (node_of now n).book.commands s ≡ number → segment_of (command_if now.commands number) s (offset / 39) ≡ Some payload → Wanted
    by_number None at is = absurd (let bad : ◌≡◌ {A = Option (List ℕ)} None (Some payload) = is in cc)
    by_number (Some number) at is = by_command number (command_at now.commands number) at refl is

  by_tests : (s : ℕ) → open_session (node_of now n).book ≡ Some s → (a b : Bool) → (id == s % 16) ≡ a → (offset % 39 == 0) ≡ b
      → (if a && b then open_segment now (node_of now n) (Some s) (offset / 39) else None) ≡ Some payload → Wanted
  by_tests s opened true true same even is =
      by_number s opened (sym (eqb-true id (s % 16) same)) (eqb-true (offset % 39) 0 even) (command_of_session (node_of now n).book.commands s) refl is
  by_tests s opened true false same even is = absurd (let bad : ◌≡◌ {A = Option (List ℕ)} None (Some payload) = is in cc)
  by_tests s opened false b same even is = absurd (let bad : ◌≡◌ {A = Option (List ℕ)} None (Some payload) = is in cc)

  by_session : (session : Option ℕ) → open_session (node_of now n).book ≡ session → wanted_segment now n session id offset ≡ Some payload → Wanted
  by_session None opened is = absurd (let bad : ◌≡◌ {A = Option (List ℕ)} None (Some payload) = is in cc)
  by_session (Some s) opened is = by_tests s opened (id == s % 16) (offset % 39 == 0) refl refl is

  pub resent_is_wanted : wanted_segment now n (open_session (node_of now n).book) id offset ≡ Some payload → Wanted
  resent_is_wanted is = by_session (open_session (node_of now n).book) refl is
