-- Where the host has no segment to send again, the transcript wants none: and so it wants just what the host sends again.
use Rattle.std.proofs.Common.{◌≡◌, ◌≤◌, ℕ, ◌+◌, ◌/◌, ◌%◌, ◌==◌, ◌&&◌, nat_lt, Bool, true, false, if◌then◌else◌, List, [], ◌∷◌, ◌++◌, length, refl, sym, ap, ◌∙◌, subst, arith}
use Rattle.std.specs.Prelude.{◌-◌, Option, Some, None, drop, is_some}
use Rattle.std.specs.List.{AllByRecursion, flat_map}
use Rattle.std.proofs.lemmas.Bool.{and_left, and_right, both_ways, eq-eqb, eqb-true, le-ltb, ltb-false, ne_eqb}
use Rattle.std.proofs.lemmas.List.Elements.{recursion_from_All}
use Rattle.supervision.specs.Host.{command_at as command_of_session, open_session}
use Rattle.zw_base.specs.declared.order.Order.{Order}
use Rattle.zw_text.specs.declared.entry.Entry.{Entry}
use Rattle.zw_text.specs.Transcript.{accepted, sessions}
use Rattle.chip_functions.specs.declared.function.TheConstants.{SEND_DATA}
use Rattle.host_orders.specs.Wrapping.{carriage_of, form_of, message_of}
use Rattle.host_orders.specs.declared.carriage.Carriage.{Carriage}
use Rattle.host_orders.specs.declared.carriage.Form.{Form}
use Rattle.host_orders.specs.declared.carriage.Form.TheVariants.{Plain, Cut, Sealed}
use Rattle.law_transcript.specs.Commands.{classes_for, message_by, message_for as message_told, order_of}
use Rattle.law_transcript.specs.Payloads.{form_by}
use Rattle.law_time.specs.Judged.{last_of}
use Rattle.law_time.specs.Sessions.{Session, last_command, segment_at as segment_told, session_of}
use Rattle.law_time.specs.Wants.{has_segment, segment_asked, segment_of as segment_wanted, segments_wanted}
use Rattle.host_model.specs.State.{Command, HostState, command_at, node_of}
use Rattle.host_model.specs.Facts.{IsCommandOf}
use Rattle.host_model.specs.Sessions.{command_if, message_for, open_segment, segment_at, segment_by, segment_count, segment_of}
use Rattle.host_model.specs.Taking.{wanted_segment}
use Rattle.proof_host.specs.Tables.{taken_by}
use Rattle.proof_choice.specs.proof_ends.proof_requests.law_host.Heard.{listing_heard}
use Rattle.proof_choice.specs.proof_ends.proof_notes.Ties.{Ties}
use Rattle.proof_choice.proofs.ByMessage.{last_some}
use Rattle.proof_choice.specs.proof_giving.proof_queue.proof_sending.Due.{AreCarried}
use Rattle.proof_choice.proofs.Kept.{keeps_first}
use Rattle.proof_choice.proofs.proof_queue_Segments.{IsWanted, Shows, open_is_last, resent_is_wanted, session_last}

-- ---- the session that is open

no_session : (s : ℕ) → ◌≡◌ {A = Option ℕ} None (Some s) → ⊥
no_session s is = cc

-- it is the last one, and has a command
pub record IsLast (P : ℕ → Type 0) (commands : List ℕ) (s : ℕ) : Type 0 where
  pub number : ℕ
  pub at : command_of_session commands s ≡ Some number
  pub last : last_of commands ≡ number ∷ []
  pub owned : AllByRecursion P commands → P number

open_last : (P : ℕ → Type 0) (commands : List ℕ) (outcome : Option ℕ) (attempts s : ℕ) → open_session (record { commands = commands; outcome = outcome; attempts = attempts }) ≡ Some s
    → IsLast P commands s
open_last P commands (Some status) attempts s is = absurd (no_session s is)
open_last P [] None attempts s is = absurd (no_session s is)
open_last P (first ∷ more) None attempts s is =
    let (number, got, last, owned) = last_some P first more in
    let count : length (first ∷ more) ≡ s = some_same (length (first ∷ more)) s is in
    let before : length (first ∷ more) - 1 ≡ length more = omega arith in
    record {
      number = number;
      at = subst (λ (k : ℕ). command_of_session (first ∷ more) k ≡ Some number) count got;
      last = ap (λ (k : ℕ). drop k (first ∷ more)) before ∙ last;
      owned = owned;
    }
  where
    some_same : (a b : ℕ) → Some a ≡ Some b → a ≡ b
    some_same a b e = cc

-- ---- a segment that is not there

beyond : (offset size : ℕ) → offset % 39 ≡ 0 → (size + 38) / 39 ≤ offset / 39 → size ≤ offset
beyond offset size even past = omega (arith, even, past)

cut_none : (b : Bool) (text : List ℕ) → (if b then Some text else None) ≡ None → b ≡ false
cut_none true text is = absurd (let bad : ◌≡◌ {A = Option (List ℕ)} (Some text) None = is in cc)
cut_none false text is = refl

flip : (a b : ℕ) → (a == b) ≡ false → (b == a) ≡ false
flip a b is = ne_eqb b a (λ same. both_ways (a == b) is (eq-eqb a b (sym same)))

-- it has a command, the last
pub last_open : (h : HostState) (n s : ℕ) → open_session (node_of h n).book ≡ Some s → IsLast (IsCommandOf h.commands n) (node_of h n).book.commands s
last_open h n s opened = open_last (IsCommandOf h.commands n) (node_of h n).book.commands (node_of h n).book.outcome (node_of h n).book.attempts s opened

module _ (past : List Entry) (h : HostState) (ties : Ties past h) (carried : AreCarried listing_heard past h.commands) (n : ℕ) where
  -- ---- a session that is open, by the transcript

  module _ (s number : ℕ) (command : Command) (opened : open_session (node_of h n).book ≡ Some s) (at : command_of_session (node_of h n).book.commands s ≡ Some number)
      (found : command_at h.commands number ≡ Some command) where
    count : length (sessions n past) ≡ s
    count = ap (λ (l : List ℕ). length l) (ties.facts.begun n) ∙ sym (open_is_last (node_of h n).book s opened)

    taken_so : (order_of number (accepted n past) ≡ Some command.order) × (command.carriage ≡ carriage_of (classes_for listing_heard past n number) command.order)
    taken_so =
        carried n s number (record { order = command.order; carriage = command.carriage }) (ap (λ (l : List ℕ). command_of_session l s) (ties.facts.begun n) ∙ at) (ap taken_by found)

    abbrev pub session : Session
    session = session_of listing_heard past n number

    pub message : session.message ≡ message_for command s
    message =
        ap (λ (k : ℕ). message_told listing_heard past n k number) count
        ∙ ap (λ (o : Option Order). message_by (classes_for listing_heard past n number) s o) taken_so.0
        ∙ ap (λ (c : Carriage). message_of c command.order s) (sym taken_so.1)

    form : session.form ≡ form_of command.carriage.outer
    form = ap (λ (o : Option Order). form_by (classes_for listing_heard past n number) o) taken_so.0 ∙ ap (λ (c : Carriage). form_of c.outer) (sym taken_so.1)

    pub last : last_command n past ≡ number ∷ []
    last =
        ap (λ (l : List ℕ). last_of l) (ties.facts.begun n)
        ∙ session_last (node_of h n).book.commands number (ap (λ (k : ℕ). command_of_session (node_of h n).book.commands k) (sym (open_is_last (node_of h n).book s opened)) ∙ at)

    -- ---- no segment of it is wanted

    module _ (id offset : ℕ) where
      -- the host has none of that number
      abbrev Lacks : Form → Type 0
      Lacks f = segment_by f s (message_for command s) (offset / 39) ≡ None

      abbrev is_named : Bool
      is_named = (session.number % 16 == id) && (offset % 39 == 0)

      not_of : (session.number % 16 == id) ≡ false → has_segment id offset session ≡ false
      not_of other = and_left is_named (nat_lt offset (length session.message)) (and_left (session.number % 16 == id) (offset % 39 == 0) other)

      not_even : (offset % 39 == 0) ≡ false → has_segment id offset session ≡ false
      not_even odd = and_left is_named (nat_lt offset (length session.message)) (and_right (session.number % 16 == id) (offset % 39 == 0) odd)

      not_there : (offset % 39 == 0) ≡ true → Lacks Cut → has_segment id offset session ≡ false
      not_there even lacks =
          let past_it : segment_count (message_for command s) ≤ offset / 39 =
          ltb-false (offset / 39) (segment_count (message_for command s))
          (cut_none (nat_lt (offset / 39) (segment_count (message_for command s))) (segment_at s (message_for command s) (offset / 39)) lacks) in
          and_right is_named (nat_lt offset (length session.message))
          (ap (λ (m : List ℕ). nat_lt offset (length m)) message
          ∙ le-ltb offset (length (message_for command s)) (beyond offset (length (message_for command s)) (eqb-true (offset % 39) 0 even) past_it))

      asked_none : (f : Form) → (f ≡ Cut → has_segment id offset session ≡ false) → segment_asked id offset session f ≡ []
      asked_none Plain none = refl
      asked_none Sealed none = refl
      asked_none Cut none = ap (λ (b : Bool). if b then (SEND_DATA ∷ session.node ∷ segment_told session (offset / 39)) ∷ [] else []) (none refl)

      none_so : (form_of command.carriage.outer ≡ Cut → has_segment id offset session ≡ false) → segments_wanted listing_heard past n id offset ≡ []
      none_so none =
          ap (λ (b : Bool). if b then flat_map (segment_wanted listing_heard past n id offset) (last_command n past) else []) (ties.opened n ∙ ap (λ (o : Option ℕ). is_some o) opened)
          ∙ ap (λ (l : List ℕ). flat_map (segment_wanted listing_heard past n id offset) l) last
          ∙ ap (λ (f : Form). segment_asked id offset session f ++ []) form
          ∙ ap (λ (l : List (List ℕ)). l ++ []) (asked_none (form_of command.carriage.outer) none)

      lacks_so : open_segment h (node_of h n) (Some s) (offset / 39) ≡ None → Lacks (form_of command.carriage.outer)
      lacks_so is = ap (λ (o : Option Command). segment_of o s (offset / 39)) (sym (ap (λ (k : Option ℕ). command_if h.commands k) at ∙ found)) ∙ is

      by_tests : (a b : Bool) → (id == s % 16) ≡ a → (offset % 39 == 0) ≡ b → (if a && b then open_segment h (node_of h n) (Some s) (offset / 39) else None) ≡ None
          → segments_wanted listing_heard past n id offset ≡ []
      by_tests true true same even is = none_so (λ cut. not_there even (subst Lacks cut (lacks_so is)))
      by_tests true false same odd is = none_so (λ cut. not_even odd)
      by_tests false b other even is = none_so (λ cut. not_of (ap (λ (k : ℕ). k % 16 == id) count ∙ flip id (s % 16) other))

  -- ---- a segment request

  module _ (id offset : ℕ) where
    by_session : (o : Option ℕ) → open_session (node_of h n).book ≡ o → wanted_segment h n o id offset ≡ None → segments_wanted listing_heard past n id offset ≡ []
    by_session None closed is =
        ap (λ (b : Bool). if b then flat_map (segment_wanted listing_heard past n id offset) (last_command n past) else []) (ties.opened n ∙ ap (λ (o : Option ℕ). is_some o) closed)
    by_session (Some s) opened is =
        let it = last_open h n s opened in
        let owned = it.owned (recursion_from_All (IsCommandOf h.commands n) (node_of h n).book.commands (ties.facts.host.owns n).sessions) in
        by_tests s it.number owned.command opened it.at owned.found id offset (id == s % 16) (offset % 39 == 0) refl refl is

    pub unwanted : wanted_segment h n (open_session (node_of h n).book) id offset ≡ None → segments_wanted listing_heard past n id offset ≡ []
    unwanted is = by_session (open_session (node_of h n).book) refl is

    pub wanted : (payload : List ℕ) → wanted_segment h n (open_session (node_of h n).book) id offset ≡ Some payload → IsWanted past n id offset payload
    wanted payload is = resent_is_wanted past h h n shows (keeps_first h n) id offset payload is
      where
        shows : Shows past h n
        shows = record { sessions_are = ties.facts.begun n; opened = ties.opened n; last = ap (λ (l : List ℕ). last_of l) (ties.facts.begun n); carried = carried }
