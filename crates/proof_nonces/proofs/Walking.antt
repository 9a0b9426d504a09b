-- At each step of a host alone what it has to seal answers a question, and so does what it asks its chip to send sealed.
use Rattle.std.proofs.Common.{◌≡◌, ◌≢◌, ◌⊎◌, ℕ, ◌&&◌, Bool, true, false, inl, inr, List, [], ◌∷◌, ◌++◌, length, refl, sym, ap, ◌∙◌, subst, append-nil, append_assoc, arith}
use Rattle.std.specs.Prelude.{Option, Some, None, IsSome, is_some}
use Rattle.std.specs.List.{AllByRecursion, flat_map}
use Rattle.std.proofs.lemmas.Bool.{both_ways, cases_eq}
use Rattle.zw_base.proofs.Each.{all-weaker}
use Rattle.chip_functions.specs.Field.{IsNode}
use Rattle.chip_functions.specs.declared.request.Request.{Request}
use Rattle.s0_crypto.specs.declared.key_pair.Keys.{Keys}
use Rattle.s0_crypto.specs.Seal.{Seals}
use Rattle.serial_frame.specs.Items.{unit_text}
use Rattle.serial_frame.specs.declared.unit.Unit.TheVariants.{Framed}
use Rattle.zw_words.specs.declared.side.Side.TheVariants.{Host}
use Rattle.zw_text.specs.declared.line.Line.{Line}
use Rattle.zw_text.specs.declared.entry.Entry.{Entry}
use Rattle.zw_text.specs.declared.entry.Entry.TheVariants as entry
use Rattle.law_transcript.specs.Lists.{EachAfter, Has}
use Rattle.law_transcript.specs.Payloads.{nonce_get}
use Rattle.law_transcript.specs.Units.{Carried, bringing_in, sending_in, sending_of}
use Rattle.proof_notes.specs.law_time.Judged.{brought_here}
use Rattle.proof_notes.specs.law_time.Requests.{asked, is_new}
use Rattle.host_orders.specs.declared.carriage.Form.{Form}
use Rattle.host_orders.specs.declared.carriage.Form.TheVariants.{Plain as whole, Cut, Sealed as in_seal}
use Rattle.host_orders.specs.Wrapping.{form_of}
use Rattle.host_node.specs.State.{NodeState, SealsText, ends_to}
use Rattle.host_node.specs.Steps.{after_text}
use Rattle.host_node.specs.Facts.{NodeFacts, SeriesFacts}
use Rattle.host_node.specs.declared.attempt.Plan.{Plan}
use Rattle.host_node.specs.declared.attempt.Plan.TheVariants.{Whole, Segments, Sealed}
use Rattle.host_node.specs.declared.series.Series.{Series}
use Rattle.host_node.specs.declared.series.Series.TheVariants.{Idle, Due, Running}
use Rattle.supervision.specs.Host.{open_session}
use Rattle.host_requests.specs.Frames.{frame_of, request_of}
use Rattle.host_requests.specs.State.{next_id}
use Rattle.host_requests.specs.declared.task.Task.{Task}
use Rattle.host_requests.specs.declared.task.Task.TheVariants.{Plain, Offer, Segment, NoMore, First, Second, Members, Neighbours, IsFailed, Version, MemoryId, Capabilities}
use Rattle.host_requests.specs.declared.task.Purpose.{Purpose}
use Rattle.host_requests.specs.declared.task.Purpose.TheVariants.{Housekeeping, Attempt, Abort}
use Rattle.host_model.specs.State.{HostState, first_host, node_of}
use Rattle.host_model.specs.Sessions.{message_for, start_by}
use Rattle.host_model.specs.Facts.{HostFacts}
use Rattle.host_model.specs.After.{after, task_purpose}
use Rattle.host_model.specs.Did.{MayAll}
use Rattle.host_model.specs.May.{May}
use Rattle.host_model.specs.Opening.{opened, restored_all}
use Rattle.host_model.specs.Outs.{answers, outs}
use Rattle.host_model.specs.Pumping.{IsNext}
use Rattle.host_model.specs.Events.{HostEvent, Hears, Takes_nonce, Submits_abort, Submits_front, Starts, Gives_text, Gives_segment, Begins, Begin_unkept, IsOwn}
use Rattle.host_model.specs.declared.out.HostOut.TheVariants.{Write}
use Rattle.host_model.proofs.Submitted.{next_is}
use Rattle.proof_notes.specs.proof_messages.Hosts.{HasTexts}
use Rattle.proof_notes.proofs.SealedByNumber.{sealed_length}
use Rattle.proof_notes.proofs.SealedTexts.{BringsText, TextsLeft, bare_texts, first_bare, has_place, restarting_bare, texts_go}
use Rattle.proof_notes.specs.proof_attempts.proof_requests.Walking.{ReadsAs}
use Rattle.proof_notes.proofs.Queued.{PayloadsBring, served_is_node}
use Rattle.proof_notes.proofs.Requested.{Unsubmitted}
use Rattle.proof_notes.proofs.Stepping.{IsSubmission, event_is_read, submissions}
use Rattle.proof_notes.proofs.proof_attempts_Walking.{is_fresh}
use Rattle.proof_notes.proofs.Wrote.{Wrote, writes}
use Rattle.proof_notes.proofs.Wrote.Wrote.{Quietly, Again, Anew}
use Rattle.proof_notes.specs.proof_attempts.proof_requests.Asking.{doing_of}
use Rattle.proof_notes.specs.proof_known.proof_transcript.world_model.Events.{OpensFrom}
use Rattle.proof_notes.specs.proof_known.proof_alone.State.{HostMachine}
use Rattle.proof_notes.specs.proof_known.proof_alone.Steps.{AreTold, IsAskedBy, Step, Tells, Comes, Misses, Says, Says_nothing, Asks, Refuses, Shows, Restarts, Begins_tick, Numbers, Judges, Does, entries, happens}
use Rattle.proof_notes.specs.proof_known.proof_alone.Phases.{Phase, Submitting, May as MayStep}
use Rattle.proof_notes.specs.proof_known.proof_alone.Runs.{WalkOver}
use Rattle.proof_notes.specs.proof_known.proof_waking.Judged.{IsBehindFrame, IsOfRequest}
use Rattle.proof_notes.specs.proof_attempts.proof_walk.ByLine.{IsAsked}
use Rattle.proof_notes.proofs.Events.{event_at}
use Rattle.proof_notes.proofs.KeptKeys.{all_keys}
use Rattle.proof_notes.proofs.Settling.{behind_brought}
use Rattle.proof_notes.proofs.InOrder.{is_asked}
use Rattle.proof_nonces.specs.Sealing.{HasAsked, IsSealedSo, MaySeal, SealsNothing, is_sealed}
use Rattle.proof_nonces.specs.Known.{AreOther, AsksOther, Ground, IsUnsealed, KnowsSealing, PlainSo, TextSo, TieSealing}
use Rattle.proof_nonces.proofs.Payloads.{either_unsealed, open_other, other_unsealed, report_unsealed, start_is}
use Rattle.proof_nonces.proofs.Queued.{asked_adds, does_add, event_other, opened_other}
use Rattle.proof_nonces.proofs.Since.{IsWritten, NoRequest, all_may, all_nothing, answers_none, asked_on, item_none, missed_none, others_none, quiets_none, sealed_on, unit_may, unit_nothing, written_so}
use Rattle.proof_nonces.proofs.Taking.{TakenTold, TakesTold, along-right, frame_takes}

-- ---- which events bring a text to seal, or a sealed one

abbrev BringsNone : HostEvent → Type 0
BringsNone (Starts n plan more payload) = ⊥
BringsNone (Takes_nonce n seen text) = ⊥
BringsNone event = Unit {0}

none_brought : (Of_text Of_plain : List ℕ → Type 0) (n : ℕ) (event : HostEvent) → BringsNone event → BringsText Of_text Of_plain n event
none_brought Of_text Of_plain n (Starts m plan more payload) none = absurd none
none_brought Of_text Of_plain n (Takes_nonce m seen text) none = absurd none
none_brought Of_text Of_plain n event none = tt

asked_none : (line : Line) (h : HostState) (event : HostEvent) → IsAskedBy line h event → BringsNone event
asked_none line h event is = by event (is_asked line h event is)
  where
    by : (e : HostEvent) → IsAsked e → BringsNone e
    by (Starts n plan more payload) asked = absurd asked
    by (Takes_nonce n seen text) asked = absurd asked
    by e asked = tt

-- ---- what a request carries

abbrev pub carried_by : Purpose → ℕ → List Carried
carried_by purpose id = flat_map sending_of (request_of purpose id ∷ [])

abbrev pub unit_of : HostState → Purpose → List ℕ
unit_of h purpose = unit_text (Framed (frame_of purpose (next_id h.requests.last_id)))

pub sends_so : (h : HostState) (purpose : Purpose) → ReadsAs h purpose → sending_in (unit_of h purpose) ≡ carried_by purpose (next_id h.requests.last_id)
sends_so h purpose read = ap (λ (l : List Request). flat_map sending_of l) read

abbrev AllUnsealed : List Carried → Type 0
AllUnsealed carried = AllByRecursion (λ one. IsUnsealed one.payload) carried

task_carries : (task : Task) (id : ℕ) → AsksOther task → AllUnsealed (carried_by (Housekeeping task) id)
task_carries (Plain n payload) id is = (other_unsealed payload is, tt)
task_carries (Offer n nonce) id is = (report_unsealed nonce, tt)
task_carries (Segment n payload) id is = (other_unsealed payload is, tt)
task_carries (NoMore n) id is = (refl, tt)
task_carries (First n) id is = tt
task_carries (Second n) id is = tt
task_carries Members id is = tt
task_carries (Neighbours n) id is = tt
task_carries (IsFailed n) id is = tt
task_carries Version id is = tt
task_carries MemoryId id is = tt
task_carries Capabilities id is = tt

front_carries : (queue : List Task) (id : ℕ) → AreOther queue → AllUnsealed (carried_by (task_purpose queue) id)
front_carries [] id are = tt
front_carries (task ∷ rest) id are = task_carries task id are.0

-- ---- a text that is given

-- then none waits for a nonce
pub none_pending : (n : NodeState) (payload : List ℕ) → NodeFacts n → n.text ≡ Some payload → n.pending ≡ None
none_pending n payload facts is = by n.series facts.series
  where
    by_pending : (o : Option (List ℕ)) → (is_some n.text && is_some o) ≡ false → o ≡ None
    by_pending None both = refl
    by_pending (Some plain) both = absurd (both_ways (is_some n.text && true) both (ap (λ (o : Option (List ℕ)). is_some o && true) is))

    by : (series : Series) → SeriesFacts series n.book n.attempt_wait n.again_wait n.next_segment n.segments n.text n.pending → n.pending ≡ None
    by Idle f = f.1.no_pending
    by Due f = f.2.no_pending
    by Running f = by_pending n.pending f.3

-- what is to be sealed begins with a Nonce Get
seal_starts : (f : Form) (session : ℕ) (message plain : List ℕ) → Sealed plain ≡ (start_by f session message).plan → (start_by f session message).payload ≡ nonce_get
seal_starts whole session message plain is = absurd (let bad = is in cc)
seal_starts Cut session message plain is = absurd (let bad = is in cc)
seal_starts in_seal session message plain is = refl

-- the nonces of the two ends that seal one text are as long, for it is one plain text
pub own_long : (n : NodeState) (keys : Keys) (own other nonce another text : List ℕ) → SealsText n keys own nonce text → SealsText n keys other another text → length other ≡ 8 → length own ≡ 8
own_long n keys own other nonce another text x y eight =
    let plain : x.plain ≡ y.plain = same_some x.plain y.plain (sym x.is_pending ∙ y.is_pending) in
    let one = sealed_length keys own nonce (ends_to n.node) x.plain text x.seals in
    let two = sealed_length keys other another (ends_to n.node) y.plain text y.seals in
    let long : length x.plain ≡ length y.plain = ap length plain in
    omega (arith, one, two, long, eight)
  where
    same_some : (a b : List ℕ) → Some a ≡ Some b → a ≡ b
    same_some a b e = cc

module _ (keys : Keys) (brings : PayloadsBring) (left : TextsLeft) where
  abbrev Stands : List Entry → List Entry → HostState → Type 0
  Stands past told h = EachAfter (MaySeal keys) past told × AreOther h.requests.queue × TieSealing keys (past ++ told) h

  -- ---- entries, and events

  tie_on : (past told : List Entry) (h : HostState) → ((node : ℕ) → EachAfter (SealsNothing node) past told) → TieSealing keys past h → TieSealing keys (past ++ told) h
  tie_on past told h none tie node is = record {
    text = λ text at. sealed_on keys past told (record { node = node; payload = text }) (none node) ((tie node is).text text at);
    pending = λ plain at. asked_on node past told (none node) ((tie node is).pending plain at);
  }

  event_tie : (past : List Entry) (h : HostState) (event : HostEvent) → HostFacts h → ((node : ℕ) → IsNode node → BringsText (TextSo keys node past) (PlainSo node past) node event) → TieSealing keys past h
      → TieSealing keys past (after h event)
  event_tie past h event facts brought tie node is =
      texts_go left (TextSo keys node past) (PlainSo node past) node h event (has_place h node facts is) (brought node is) (tie node is)

  none_tie : (past : List Entry) (h : HostState) (event : HostEvent) → HostFacts h → BringsNone event → TieSealing keys past h → TieSealing keys past (after h event)
  none_tie past h event facts none tie = event_tie past h event facts (λ node is. none_brought (TextSo keys node past) (PlainSo node past) node event none) tie

  quiet_stands : (past told : List Entry) (h : HostState) → AllByRecursion NoRequest told → AreOther h.requests.queue × TieSealing keys past h → Stands past told h
  quiet_stands past told h all known = (all_may keys past told all, known.0, tie_on past told h (λ node. all_nothing node past told all) known.1)

  -- ---- a nonce that is taken

  taken_so : (past : List Entry) (m : HostMachine) (node seen : ℕ) (text : List ℕ) (rest : List HostEvent) → IsNode node → HostFacts m.state → m.state.keys ≡ keys → May m.state (Takes_nonce node seen text)
      → IsBehindFrame past m (Takes_nonce node seen text ∷ rest) → TieSealing keys past m.state → TextSo keys node past text
  taken_so past m node seen text rest is facts same (another, other, count, sealed, eight) behind tie =
      let f = behind.frame in
      let event : HostEvent = Takes_nonce node seen text in
      let unit : List ℕ = unit_text (Framed f.frame) in
      let first_keys : f.first.keys ≡ keys = sym (all_keys f.first f.gone) ∙ ap (λ (h : HostState). h.keys) (sym behind.state) ∙ same in
      let along = along-right (TakesTold keys (bringing_in unit)) f.first f.gone (event ∷ rest) (frame_takes keys f.first f.frame (f.gone ++ event ∷ rest) first_keys f.followed) in
      let taken : TakenTold keys (bringing_in unit) m.state node text = subst (λ (h : HostState). TakenTold keys (bringing_in unit) h node text) (sym behind.state) along.0 in
      let question : HasAsked node past = (tie node is).pending taken.seals.plain taken.seals.is_pending in
      let number : (node_of m.state node).node ≡ node = facts.nodes.numbers node is.0 is.1 in
      record {
        question = question;
        own = taken.own;
        nonce = taken.nonce;
        text = taken.seals.plain;
        own_eight = own_long (node_of m.state node) m.state.keys taken.own other taken.nonce another text taken.seals sealed eight;
        seals = subst (λ (k : Keys). Seals k taken.own taken.nonce (ends_to node) taken.seals.plain text) same
            (subst (λ (n : ℕ). Seals m.state.keys taken.own taken.nonce (ends_to n) taken.seals.plain text) number taken.seals.seals);
        told = record {
          first = question.since;
          later = [];
          are = sym (append-nil question.since);
          one = taken.one;
          brought = subst (λ (l : List Entry). Has (brought_here l) taken.one) question.are (subst (λ (l : List Carried). Has l taken.one) (sym (behind_brought past m (event ∷ rest) behind)) taken.has);
          of = taken.of;
          tells = taken.tells;
        };
      }

  -- what an event that submits nothing brings
  brought_so : (past : List Entry) (m : HostMachine) (event : HostEvent) (node : ℕ) → IsNode node → HostFacts m.state → m.state.keys ≡ keys → May m.state event → Unsubmitted event
      → IsOwn event ⊎ (IsOfRequest event ⊎ ((rest : List HostEvent) × IsBehindFrame past m (event ∷ rest))) → TieSealing keys past m.state → BringsText (TextSo keys node past) (PlainSo node past) node event
  brought_so past m (Starts n plan more payload) node is facts same may un at tie = absurd un
  brought_so past m (Takes_nonce n seen text) node is facts same may un (inl own) tie = absurd own
  brought_so past m (Takes_nonce n seen text) node is facts same may un (inr (inl request)) tie = absurd request
  brought_so past m (Takes_nonce n seen text) node is facts same may un (inr (inr (rest, behind))) tie =
      λ of. subst (λ (k : ℕ). TextSo keys k past text) (sym of) (taken_so past m n seen text rest (subst IsNode of is) facts same may behind tie)
  brought_so past m event node is facts same may un at tie = tt

  -- ---- what is submitted

  unsealed_stands : (past told : List Entry) (h : HostState) (event : HostEvent) (purpose : Purpose) → HostFacts h → BringsNone event → AreOther (after h event).requests.queue
      → AreTold (Write (Framed (frame_of purpose (next_id h.requests.last_id))) ∷ []) told → ReadsAs h purpose → AllUnsealed (carried_by purpose (next_id h.requests.last_id)) → TieSealing keys past h
      → Stands past told (after h event)
  unsealed_stands past told h event purpose facts none queue are read all tie =
      let unit : List ℕ = unit_of h purpose in
      let written = written_so (frame_of purpose (next_id h.requests.last_id)) told are in
      let unsealed : AllUnsealed (sending_in unit) = subst AllUnsealed (sym (sends_so h purpose read)) all in (
        unit_may keys past told unit written
            (λ new. all-weaker (λ one. IsUnsealed one.payload) (λ one. is_sealed one.payload ≡ true → IsSealedSo keys past one) (λ one un is. absurd (both_ways (is_sealed one.payload) un is)) (sending_in unit) unsealed),
        queue,
        none_tie (past ++ told) h event facts none (tie_on past told h (λ node. nothing node unit written unsealed) tie),
      )
    where
      nothing : (node : ℕ) (unit : List ℕ) → IsWritten unit told → AllUnsealed (sending_in unit) → EachAfter (SealsNothing node) past told
      nothing node unit written unsealed =
          unit_nothing node past told unit written
          (λ new. all-weaker (λ one. IsUnsealed one.payload) (λ one. one.node ≡ node → is_sealed one.payload ≡ false) (λ one un of. un) (sending_in unit) unsealed)

  -- an attempt that begins: with a Nonce Get, where its text is to be sealed
  start_stands : (past told : List Entry) (m : HostMachine) (n : ℕ) (plan : Plan) (more : Bool) (payload : List ℕ) → HostFacts m.state → May m.state (Starts n plan more payload)
      → AreTold (Write (Framed (frame_of (Attempt n more payload) (next_id m.state.requests.last_id))) ∷ []) told → ReadsAs m.state (Attempt n more payload)
      → is_new (asked past) (unit_of m.state (Attempt n more payload)) ≡ true → AreOther m.state.requests.queue × TieSealing keys past m.state → Stands past told (after m.state (Starts n plan more payload))
  start_stands past told m n plan more payload facts may are read new known =
      let h : HostState = m.state in
      let purpose : Purpose = Attempt n more payload in
      let unit : List ℕ = unit_of h purpose in
      let written = written_so (frame_of purpose (next_id h.requests.last_id)) told are in
      let start = may.1 in
      let carried : sending_in unit ≡ record { node = n; payload = payload } ∷ [] = sends_so h purpose read in
      let unsealed : IsUnsealed payload = either_unsealed payload (start_is payload start.command start.session start.payload_is) in (
        unit_may keys past told unit written (λ new. subst (AllByRecursion (λ one. is_sealed one.payload ≡ true → IsSealedSo keys past one)) (sym carried) ((λ is. absurd (both_ways (is_sealed payload) unsealed is)), tt)),
        known.0,
        event_tie (past ++ told) h (Starts n plan more payload) facts (λ node is. brought node plan start.plan_is start.payload_is written carried)
            (tie_on past told h (λ node. unit_nothing node past told unit written (λ new. subst (AllByRecursion (λ one. one.node ≡ node → is_sealed one.payload ≡ false)) (sym carried) ((λ of. unsealed), tt))) known.1),
      )
    where
      unit : List ℕ
      unit = unit_of m.state (Attempt n more payload)

      form : Form
      form = form_of may.1.command.carriage.outer

      message : List ℕ
      message = message_for may.1.command may.1.session

      brought : (node : ℕ) (plan : Plan) → plan ≡ (start_by form may.1.session message).plan → payload ≡ (start_by form may.1.session message).payload → IsWritten unit told
          → sending_in unit ≡ record { node = n; payload = payload } ∷ [] → BringsText (TextSo keys node (past ++ told)) (PlainSo node (past ++ told)) node (Starts n plan more payload)
      brought node Whole plan_is payload_is written carried = tt
      brought node (Segments count) plan_is payload_is written carried = tt
      brought node (Sealed plain) plan_is payload_is written carried = λ of.
          let get : payload ≡ nonce_get = payload_is ∙ seal_starts form may.1.session message plain plan_is in
          let asks : Has (sending_in unit) (record { node = node; payload = nonce_get }) =
          subst (λ (l : List Carried). Has l (record { node = node; payload = nonce_get })) (sym carried)
          (inl (subst (λ (k : ℕ). ◌≡◌ {A = Carried} (record { node = n; payload = payload }) (record { node = k; payload = nonce_get })) (sym of) (ap (λ (p : List ℕ). record { node = n; payload = p }) get))) in
          let joined : past ++ told ≡ (past ++ entry.Written Host unit ∷ []) ++ written.marks =
          ap (λ (l : List Entry). past ++ l) written.are ∙ sym (append_assoc past (entry.Written Host unit ∷ []) written.marks) in
          record {
            before = past;
            unit = unit;
            since = written.marks;
            are = joined;
            new = new;
            asks = asks;
            unused = all_nothing node (past ++ entry.Written Host unit ∷ []) written.marks written.none;
          }

  -- the sealed text is given, and no more is to be sealed
  text_stands : (past told : List Entry) (m : HostMachine) (n : ℕ) (payload : List ℕ) → HostFacts m.state → May m.state (Gives_text n payload)
      → AreTold (Write (Framed (frame_of (Attempt n false payload) (next_id m.state.requests.last_id))) ∷ []) told → ReadsAs m.state (Attempt n false payload)
      → AreOther m.state.requests.queue × TieSealing keys past m.state → Stands past told (after m.state (Gives_text n payload))
  text_stands past told m n payload facts may are read known =
      let h : HostState = m.state in
      let purpose : Purpose = Attempt n false payload in
      let unit : List ℕ = unit_of h purpose in
      let written = written_so (frame_of purpose (next_id h.requests.last_id)) told are in
      let carried : sending_in unit ≡ record { node = n; payload = payload } ∷ [] = sends_so h purpose read in
      let is : IsNode n = served_is_node h n may.0.next in (
        unit_may keys past told unit written (λ new. subst (AllByRecursion (λ one. is_sealed one.payload ≡ true → IsSealedSo keys past one)) (sym carried) ((λ sealed. (known.1 n is).text payload may.1), tt)),
        known.0,
        λ node of. elim (cases_eq node n) [
          | inl same ↦ subst (λ (k : ℕ). HasTexts (TextSo keys k (past ++ told)) (PlainSo k (past ++ told)) (node_of (after h (Gives_text n payload)) k)) (sym same) (given is)
          | inr other ↦ texts_go left (TextSo keys node (past ++ told)) (PlainSo node (past ++ told)) node h (Gives_text n payload) (has_place h node facts of) tt (on node of unit written carried other)
        ],
      )
    where
      given : IsNode n → HasTexts (TextSo keys n (past ++ told)) (PlainSo n (past ++ told)) (node_of (after m.state (Gives_text n payload)) n)
      given is =
          subst (λ (s : NodeState). HasTexts (TextSo keys n (past ++ told)) (PlainSo n (past ++ told)) s) (sym (left.sends n m.state payload (has_place m.state n facts is)))
          (bare_texts (TextSo keys n (past ++ told)) (PlainSo n (past ++ told)) (after_text (node_of m.state n)) (refl, none_pending (node_of m.state n) payload (facts.nodes.facts n) may.1))

      on : (node : ℕ) → IsNode node → (unit : List ℕ) → IsWritten unit told → sending_in unit ≡ record { node = n; payload = payload } ∷ [] → node ≢ n
          → HasTexts (TextSo keys node (past ++ told)) (PlainSo node (past ++ told)) (node_of m.state node)
      on node of unit written carried other =
          let none : EachAfter (SealsNothing node) past told =
          unit_nothing node past told unit written (λ new. subst (AllByRecursion (λ one. one.node ≡ node → is_sealed one.payload ≡ false)) (sym carried) ((λ same. absurd (other (sym same))), tt)) in
          record {
            text = λ text at. sealed_on keys past told (record { node = node; payload = text }) none ((known.1 node of).text text at);
            pending = λ plain at. asked_on node past told none ((known.1 node of).pending plain at);
          }

  module _ (past told : List Entry) (m : HostMachine) (ground : Ground keys Submitting past m) (known : AreOther m.state.requests.queue × TieSealing keys past m.state) where
    facts : HostFacts m.state
    facts = ground.0.0.0.0.0.0.0.facts.host

    abbrev Submits_so : HostEvent → Type 0
    Submits_so event = Stands past told (after m.state event)

    fresh : (purpose : Purpose) (event : HostEvent) → IsNext m.state event → is_new (asked past) (unit_of m.state purpose) ≡ true
    fresh purpose event next = is_fresh past m.clock m.came (doing_of m.state) (frame_of purpose (next_id m.state.requests.last_id)) next.0.free_line ground.0.1

    submits : (event : HostEvent) → IsSubmission event → IsNext m.state event → MayAll m.state (event ∷ []) → AreTold (outs m.state event) told → Submits_so event
    submits Submits_abort sub next may are =
        unsealed_stands past told m.state Submits_abort Abort facts tt (event_other m.state Submits_abort may.0 tt known.0) are
        (event_is_read brings m.state Submits_abort facts may.0 ground.0.0.1.0) tt known.1
    submits Submits_front sub next may are =
        unsealed_stands past told m.state Submits_front (task_purpose m.state.requests.queue) facts tt (event_other m.state Submits_front may.0 tt known.0) are
        (event_is_read brings m.state Submits_front facts may.0 ground.0.0.1.0) (front_carries m.state.requests.queue (next_id m.state.requests.last_id) known.0) known.1
    submits (Starts n plan more payload) sub next may are =
        start_stands past told m n plan more payload facts may.0 are (event_is_read brings m.state (Starts n plan more payload) facts may.0 ground.0.0.1.0)
        (fresh (Attempt n more payload) (Starts n plan more payload) next) known
    submits (Gives_text n payload) sub next may are =
        text_stands past told m n payload facts may.0 are (event_is_read brings m.state (Gives_text n payload) facts may.0 ground.0.0.1.0) known
    submits (Gives_segment n more payload) sub next may are =
        unsealed_stands past told m.state (Gives_segment n more payload) (Attempt n more payload) facts tt known.0 are
        (event_is_read brings m.state (Gives_segment n more payload) facts may.0 ground.0.0.1.0)
        (other_unsealed payload (open_other m.state (node_of m.state n) (open_session (node_of m.state n).book) (node_of m.state n).next_segment payload may.0.2), tt) known.1
    submits (Begins n session command) sub next may (rest, is, none) =
        let all : AllByRecursion NoRequest told = subst (AllByRecursion NoRequest) (sym is) (tt, subst (AllByRecursion NoRequest) (sym none) tt) in
        quiet_stands past told (after m.state (Begins n session command)) all (known.0, none_tie past m.state (Begins n session command) facts tt known.1)
    submits (Begin_unkept n) sub next may (rest, is, none) =
        let all : AllByRecursion NoRequest told = subst (AllByRecursion NoRequest) (sym is) (tt, subst (AllByRecursion NoRequest) (sym none) tt) in
        quiet_stands past told (after m.state (Begin_unkept n)) all (known.0, none_tie past m.state (Begin_unkept n) facts tt known.1)
    submits event sub next may are = absurd sub

  -- ---- the walk

  abbrev Leads : Phase → List Entry → HostMachine → Step → Type 0
  Leads next past m one = EachAfter (MaySeal keys) past (entries m one) × KnowsSealing keys next (past ++ entries m one) (happens m one)

  led : (next : Phase) (past : List Entry) (m : HostMachine) (one : Step) → Stands past (entries m one) (happens m one).state → Leads next past m one
  led next past m one stands = (stands.0, (stands.1, stands.2))

  quiet_leads : (next : Phase) (past : List Entry) (m : HostMachine) (one : Step) → (happens m one).state ≡ m.state → AllByRecursion NoRequest (entries m one)
      → AreOther m.state.requests.queue × TieSealing keys past m.state → Leads next past m one
  quiet_leads next past m one same all known =
      led next past m one (subst (λ (h : HostState). Stands past (entries m one) h) (sym same) (quiet_stands past (entries m one) m.state all known))

  does : (here next : Phase) (past : List Entry) (m : HostMachine) (event : HostEvent) (told : List Entry) → MayStep here m (Does event told) next → Ground keys here past m
      → AreOther m.state.requests.queue × TieSealing keys past m.state → Stands past told (after m.state event)
  does here next past m event told may ground known = by (writes here next past told m event may ground.0.0 ground.0.1)
    where
      facts : HostFacts m.state
      facts = ground.0.0.0.0.0.0.0.facts.host

      queue : AreOther (after m.state event).requests.queue
      queue = event_other m.state event may.1.0 (does_add here next past m event told may ground.0.0) known.0

      tie : Unsubmitted event → TieSealing keys past (after m.state event)
      tie un =
          event_tie past m.state event facts
          (λ node is. brought_so past m event node is facts ground.1.1 may.1.0 un (event_at here next past m event told may ground.0.0.0.0.1) known.1) known.1

      by : Wrote here past told m.state event → Stands past told (after m.state event)
      by (Quietly un quiet) = quiet_stands past told (after m.state event) (quiets_none told quiet) (queue, tie un)
      by (Again f rest un are old quiet) =
          let unit : List ℕ = unit_text (Framed f) in
          let written : IsWritten unit told = record { marks = rest; are = are; none = quiets_none rest quiet } in (
            unit_may keys past told unit written (λ new. absurd (both_ways (is_new (asked past) unit) old new)),
            queue,
            tie_on past told (after m.state event) (λ node. unit_nothing node past told unit written (λ new. absurd (both_ways (is_new (asked past) unit) old new))) (tie un),
          )
      by (Anew purpose f marks at free are new units now) =
          let goes = subst (λ (p : Phase). MayStep p m (Does event told) next) at may in
          submits past told m (subst (λ (p : Phase). Ground keys p past m) at ground) known event (next_is IsSubmission submissions m.state event goes.0.0) goes.0.0 may.1 may.2

  -- a host that starts again has nothing to seal
  starts_tie : (past : List Entry) (records : Option (List (List ℕ))) (own : Keys) (state : HostState) → IsSome records → OpensFrom own records state → TieSealing keys past state
  starts_tie past None own state some opens = absurd (let bad : false ≡ true = some in cc)
  starts_tie past (Some texts) own state some (records, are, legal, is) =
      subst (TieSealing keys past) (sym is)
      (λ node of. bare_texts (TextSo keys node past) (PlainSo node past) (node_of (opened own records) node) (restarting_bare (restored_all (first_host own) records).nodes node of.0))

  step_goes : (here next : Phase) (past : List Entry) (m : HostMachine) (one : Step) → MayStep here m one next → Ground keys here past m → KnowsSealing keys here past m → Leads next past m one
  step_goes here next past m (Tells e) may ground known = quiet_leads next past m (Tells e) refl (others_none e may.1, tt) known
  step_goes here next past m (Comes unit) may ground known = quiet_leads next past m (Comes unit) refl (tt, tt) known
  step_goes here next past m (Misses text marks) may ground known = quiet_leads next past m (Misses text marks) refl (tt, missed_none marks may.1) known
  step_goes here next past m (Says words line) may ground known = quiet_leads next past m (Says words line) refl (tt, tt) known
  step_goes here next past m (Says_nothing words) may ground known = quiet_leads next past m (Says_nothing words) refl (tt, tt) known
  step_goes here next past m (Asks event) (line, here_is, is, may, numbered, to_is) ground known =
      led next past m (Asks event)
      (quiet_stands past (answers m.state event) (after m.state event) (answers_none m.state event) (
        event_other m.state event may.0 (asked_adds line m.state event is) known.0,
        none_tie past m.state event ground.0.0.0.0.0.0.0.facts.host (asked_none line m.state event is) known.1,
      ))
  step_goes here next past m (Refuses refusal) may ground known = quiet_leads next past m (Refuses refusal) refl (tt, tt) known
  step_goes here next past m (Shows node) may ground known = quiet_leads next past m (Shows node) refl (tt, tt) known
  step_goes here next past m (Restarts state) may ground known =
      led next past m (Restarts state)
      (quiet_stands past [] state tt
      (opened_other m.keys m.records state ground.0.0.0.0.0.0.0.told may.1, starts_tie past m.records m.keys state ground.0.0.0.0.0.0.0.told may.1))
  step_goes here next past m (Begins_tick ticks) may ground known = quiet_leads next past m (Begins_tick ticks) refl tt known
  step_goes here next past m Numbers may ground known = quiet_leads next past m Numbers refl (tt, tt) known
  step_goes here next past m (Judges item rest behind told) may ground known =
      led next past m (Judges item rest behind told)
      (quiet_stands past told (after m.state (Hears item)) (item_none item told may.1.told_so) (known.0, none_tie past m.state (Hears item) ground.0.0.0.0.0.0.0.facts.host tt known.1))
  step_goes here next past m (Does event told) may ground known = led next past m (Does event told) (does here next past m event told may ground known)

  pub sealing_walk : WalkOver (Ground keys) (λ past e. Unit {0}) (MaySeal keys) (KnowsSealing keys)
  sealing_walk = record {
    step = λ here next past m one may ground stand known. step_goes here next past m one may ground known;
    turn = λ here next past m turns ground known. known;
  }

-- at first there is nothing to seal
pub first_tie : (keys own : Keys) → TieSealing keys [] (first_host own)
first_tie keys own node of = bare_texts (TextSo keys node []) (PlainSo node []) (node_of (first_host own) node) (first_bare node)
