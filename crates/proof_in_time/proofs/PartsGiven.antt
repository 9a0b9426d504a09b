-- What the host gives of a message that goes in segments: its attempt begins with the first, goes on with the next, and what is asked for is one of them.
use Rattle.std.proofs.Common.{◌≡◌, ◌≤◌, ◌<◌, ℕ, ◌+◌, ◌*◌, ◌/◌, ◌%◌, ◌==◌, ◌&&◌, nat_lt, inl, inr, Bool, true, false, if◌then◌else◌, List, map, length, refl, sym, ap, ◌∙◌, subst, arith}
use Rattle.std.proofs.lemmas.Bool.{eq-eqb, lt-ltb}
use Rattle.std.proofs.lemmas.Bool.Decides.{nat_tests}
use Rattle.std.specs.Prelude.{◌⊎◌, Option, Some, None}
use Rattle.zw_base.specs.declared.order.Order.{Order}
use Rattle.encap.specs.Written.{addressed_form, checked_form, supervised_form}
use Rattle.encap.specs.declared.plan.Ends.{Ends}
use Rattle.encap.specs.declared.plan.Outer.{Outer}
use Rattle.encap.specs.declared.plan.Outer.TheVariants.{None as no_outer, Crc16, Security, Transport}
use Rattle.supervision.specs.Host.{begun_of, command_at as command_of_session, open_session}
use Rattle.chip_sim.specs.Nodes.{is_marked}
use Rattle.host_orders.specs.Refusals.{IsFit}
use Rattle.host_orders.specs.Wrapping.{ends_of, form_of, message_of, supervised_of, supervised_text}
use Rattle.host_orders.specs.declared.carriage.Carriage.{Carriage}
use Rattle.host_orders.specs.declared.carriage.Form.{Form}
use Rattle.host_orders.specs.declared.carriage.Form.TheVariants.{Cut, Plain, Sealed}
use Rattle.host_node.specs.declared.attempt.Plan.{Plan}
use Rattle.host_node.specs.declared.attempt.Plan.TheVariants.{Segments, Whole}
use Rattle.host_model.specs.Facts.{HostFacts, IsCommandOf}
use Rattle.host_model.specs.May.{IsStart}
use Rattle.host_model.specs.Sessions.{Start, command_if, message_for, open_segment, segment_at, segment_by, segment_count, segment_of, start_by}
use Rattle.host_model.specs.State.{Command, HostState, command_at, node_of}
use Rattle.host_model.specs.Taking.{wanted_segment}
use Rattle.proof_course_plain.specs.Host.{asked_of}
use Rattle.proof_course_plain.specs.Meaning.{IsSegmentOf}
use Rattle.proof_course_plain.proofs.HostEvents.{open_is, owned, segment_of_command}
use Rattle.proof_in_time.specs.Coming.{IsMessage}
use Rattle.proof_in_time.specs.Openly.{GoOpenly, GoesOpenly}
use Rattle.proof_in_time.specs.Parts.{IsCut}
use Rattle.proof_in_time.proofs.Commands.{sound_at}

-- ---- how long a message is

addressed_long : (ends : Option Ends) (inner : List ℕ) → length (addressed_form ends inner) ≤ 4 + length inner
addressed_long None inner = omega arith
addressed_long (Some ends) inner = omega arith

-- in segments it has no more than 7
cut_long : (outer : Outer) (text : List ℕ) → form_of outer ≡ Cut → length (checked_form outer text) ≡ length text
cut_long no_outer text cut = absurd (let wrong : ◌≡◌ {A = Form} Plain Cut = cut in cc)
cut_long Crc16 text cut = absurd (let wrong : ◌≡◌ {A = Form} Plain Cut = cut in cc)
cut_long Transport text cut = refl
cut_long Security text cut = absurd (let wrong : ◌≡◌ {A = Form} Sealed Cut = cut in cc)

message_long : (carriage : Carriage) (order : Order) (session : ℕ) → form_of carriage.outer ≡ Cut → IsFit carriage.actuator order → length (message_of carriage order session) ≤ 273
message_long carriage order session cut fit =
    let text : List ℕ = supervised_text carriage.actuator order in
    let inner : List ℕ = supervised_form (Some (supervised_of carriage.actuator order session)) text in
    let whole : length (message_of carriage order session) ≡ length (addressed_form (ends_of order.end) inner) = cut_long carriage.outer (addressed_form (ends_of order.end) inner) cut in
    let address = addressed_long (ends_of order.end) inner in
    let supervised : length inner ≡ 4 + length text = omega arith in
    let short : length text ≤ 255 = short_text (length text) fit.short in
    omega (arith, whole, address, supervised, short)
  where
    short_text : (len : ℕ) → nat_lt 255 len ≡ false → len ≤ 255
    short_text len is = grind (arith, nat_tests, is)

-- and some bytes
addressed_some : (ends : Option Ends) (inner : List ℕ) → length inner ≤ length (addressed_form ends inner)
addressed_some None inner = omega arith
addressed_some (Some ends) inner = omega arith

message_some : (carriage : Carriage) (order : Order) (session : ℕ) → form_of carriage.outer ≡ Cut → 1 ≤ length (message_of carriage order session)
message_some carriage order session cut =
    let text : List ℕ = supervised_text carriage.actuator order in
    let inner : List ℕ = supervised_form (Some (supervised_of carriage.actuator order session)) text in
    let whole : length (message_of carriage order session) ≡ length (addressed_form (ends_of order.end) inner) = cut_long carriage.outer (addressed_form (ends_of order.end) inner) cut in
    let address = addressed_some (ends_of order.end) inner in
    let supervised : length inner ≡ 4 + length text = omega arith in
    omega (arith, whole, address, supervised)

-- ---- one of its segments

-- what an attempt gives next, or again, of a message that is cut
segment_if : (b : Bool) (session : ℕ) (message : List ℕ) (k : ℕ) (payload : List ℕ) → nat_lt k (segment_count message) ≡ b → (if b then Some (segment_at session message k) else None) ≡ Some payload → (k < segment_count message) × (payload ≡ segment_at session message k)
segment_if true session message k payload less is = let text : payload ≡ segment_at session message k = cc in (grind (arith, nat_tests, less), text)
segment_if false session message k payload less is = absurd (let wrong : None ≡ Some payload = is in cc)

module _ (n session : ℕ) (message : List ℕ) (h : HostState) (cut : IsCut n session message h) where
  open_is_cut : (k : ℕ) → open_session (node_of h n).book ≡ Some session → open_segment h (node_of h n) (open_session (node_of h n).book) k ≡ (if nat_lt k (segment_count message) then Some (segment_at session message k) else None)
  open_is_cut k opened =
      ap (λ (s : Option ℕ). open_segment h (node_of h n) s k) opened
      ∙ (ap (λ (number : Option ℕ). segment_of (command_if h.commands number) session k) cut.carried
      ∙ (ap (λ (command : Option Command). segment_of command session k) cut.found
      ∙ (ap (λ (form : Form). segment_by form session (message_for cut.command session) k) cut.form
      ∙ ap (λ (text : List ℕ). if nat_lt k (segment_count text) then Some (segment_at session text k) else None) (sym cut.text))))

  pub given_at : (k : ℕ) (payload : List ℕ) → open_session (node_of h n).book ≡ Some session → open_segment h (node_of h n) (open_session (node_of h n).book) k ≡ Some payload → (k < segment_count message) × (payload ≡ segment_at session message k)
  given_at k payload opened is = segment_if (nat_lt k (segment_count message)) session message k payload refl (sym (open_is_cut k opened) ∙ is)

  there_is : (k : ℕ) → k < segment_count message → open_session (node_of h n).book ≡ Some session → open_segment h (node_of h n) (open_session (node_of h n).book) k ≡ Some (segment_at session message k)
  there_is k less opened = open_is_cut k opened ∙ ap (λ (b : Bool). if b then Some (segment_at session message k) else None) (lt-ltb k (segment_count message) less)

  -- what is asked for by its first byte
  pub wanted_at : (k : ℕ) → k < segment_count message → open_session (node_of h n).book ≡ Some session → wanted_segment h n (open_session (node_of h n).book) (session % 16) (39 * k) ≡ Some (segment_at session message k)
  wanted_at k less opened =
      ap (λ (s : Option ℕ). wanted_segment h n s (session % 16) (39 * k)) opened
      ∙ (ap (λ (b : Bool). if b then open_segment h (node_of h n) (Some session) (39 * k / 39) else None) (both (session % 16 == session % 16) (39 * k % 39 == 0) (eq-eqb (session % 16) (session % 16) refl) (eq-eqb (39 * k % 39) 0 (omega arith)))
      ∙ (ap (λ (j : ℕ). open_segment h (node_of h n) (Some session) j) (let same : 39 * k / 39 ≡ k = omega arith in same)
      ∙ (ap (λ (s : Option ℕ). open_segment h (node_of h n) s k) (sym opened) ∙ there_is k less opened)))
    where
      both : (a b : Bool) → a ≡ true → b ≡ true → (a && b) ≡ true
      both a b one two = rw (one, two) refl

-- ---- what the host knows of them

module _ (these : List Bool) (h : HostState) (n : ℕ) (facts : HostFacts h) (go : GoOpenly these h.commands) (marked : is_marked these n ≡ true) where
  -- the command of a session of the node goes unsealed
  goes_so : (session number : ℕ) (command : Command) → command_of_session (node_of h n).book.commands session ≡ Some number → command_at h.commands number ≡ Some command → GoesOpenly command.order command.carriage
  goes_so session number command carried found =
      let own : IsCommandOf h.commands n number = owned h.commands n (node_of h n).book.commands session number (facts.owns n).sessions carried in
      let same : own.command ≡ command = let both : Some own.command ≡ Some command = sym own.found ∙ found in cc in
      go number command found (ap (λ (c : Command). is_marked these c.order.node) (sym same) ∙ (ap (is_marked these) own.node ∙ marked))

  module _ (session : ℕ) (message : List ℕ) (cut : IsCut n session message h) where
    pub few_bytes : length message ≤ 273
    few_bytes = subst (λ (text : List ℕ). length text ≤ 273) (sym cut.text) (message_long cut.command.carriage cut.command.order session cut.form (sound_at h facts cut.number cut.command cut.found).fit)

    pub some_bytes : 1 ≤ length message
    some_bytes = subst (λ (text : List ℕ). 1 ≤ length text) (sym cut.text) (message_some cut.command.carriage cut.command.order session cut.form)

    -- each is one of the message of the session
    pub part_of : (k : ℕ) → k < segment_count message
        → (is : IsSegmentOf (map asked_of h.commands) (node_of h n).book.commands session (segment_at session message k)) × ((is.message ≡ message) × (is.place ≡ k))
    part_of k less =
        subst (λ (text : List ℕ). k < segment_count text → (is : IsSegmentOf (map asked_of h.commands) (node_of h n).book.commands session (segment_at session text k)) × ((is.message ≡ text) × (is.place ≡ k))) (sym cut.text)
        (λ within.
        segment_of_command h.commands (node_of h n).book.commands h.store session cut.number cut.command k cut.carried cut.found (sound_at h facts cut.number cut.command cut.found)
        (goes_so session cut.number cut.command cut.carried cut.found).end cut.form within) less

  -- ---- an attempt begins

  -- with the message whole
  pub record GivesWhole (plan : Plan) (payload : List ℕ) : Type 0 where
    pub message : IsMessage (begun_of (node_of h n).book) payload
    pub plan_is : plan ≡ Whole

  -- or with the first of them
  pub record GivesFirst (plan : Plan) (payload : List ℕ) : Type 0 where
    pub message : List ℕ
    pub cut : IsCut n (begun_of (node_of h n).book) message h
    pub plan_is : plan ≡ Segments (segment_count message)
    pub text : payload ≡ segment_at (begun_of (node_of h n).book) message 0

  pub gives_part : (plan : Plan) (more : Bool) (payload : List ℕ) → IsStart h n plan more payload → GivesWhole plan payload ⊎ GivesFirst plan payload
  gives_part plan more payload start = by (form_of start.command.carriage.outer) refl
    where
      goes : GoesOpenly start.command.order start.command.carriage
      goes = goes_so start.session start.carried.0 start.command start.carried.1 start.carried.2

      begun : start.session ≡ begun_of (node_of h n).book
      begun = (open_is (node_of h n).book start.session start.opened).0

      start_is : (form : Form) → form_of start.command.carriage.outer ≡ form → start_by (form_of start.command.carriage.outer) start.session (message_for start.command start.session) ≡ start_by form start.session (message_for start.command start.session)
      start_is form is = ap (λ (f : Form). start_by f start.session (message_for start.command start.session)) is

      by : (form : Form) → form_of start.command.carriage.outer ≡ form → GivesWhole plan payload ⊎ GivesFirst plan payload
      by Sealed is = absurd (goes.unsealed is)
      by Plain is =
          inl (record {
            message = record {
              carriage = start.command.carriage;
              order = start.command.order;
              fit = (sound_at h facts start.carried.0 start.command start.carried.2).fit;
              end = goes.end;
              is = start.payload_is ∙ (ap (λ (s : Start). s.payload) (start_is Plain is) ∙ ap (message_for start.command) begun);
            };
            plan_is = start.plan_is ∙ ap (λ (s : Start). s.plan) (start_is Plain is);
          })
      by Cut is =
          inr (record {
            message = message_for start.command (begun_of (node_of h n).book);
            cut = record {
              number = start.carried.0;
              command = start.command;
              carried = subst (λ (s : ℕ). command_of_session (node_of h n).book.commands s ≡ Some start.carried.0) begun start.carried.1;
              found = start.carried.2;
              form = is;
              text = refl;
            };
            plan_is = start.plan_is ∙ (ap (λ (s : Start). s.plan) (start_is Cut is) ∙ ap (λ (s : ℕ). Segments (segment_count (message_for start.command s))) begun);
            text = start.payload_is ∙ (ap (λ (s : Start). s.payload) (start_is Cut is) ∙ ap (λ (s : ℕ). segment_at s (message_for start.command s) 0) begun);
          })
