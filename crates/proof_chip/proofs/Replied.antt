-- The count of the frames for the host goes on with the answer to a frame: it grows by what the request gives, and what is owed by what it asks for.
use Rattle.std.proofs.Common.{◌≡◌, ◌<◌, ℕ, ◌+◌, ◌==◌, ◌&&◌, not, Bool, true, false, if◌then◌else◌, List, [], ◌∷◌, ◌++◌, map, length, refl, sym, ap, ap₂, ◌∙◌, subst, append-nil, append_assoc, length-append, arith}
use Rattle.std.specs.Prelude.{Option, Some, None, slice_get}
use Rattle.std.specs.Option.{is_some}
use Rattle.std.specs.List.{AllByRecursion}
use Rattle.zw_base.proofs.Each.{all-append, all-right, all-weaker}
use Rattle.serial_frame.specs.Frame.{FrameParts}
use Rattle.chip_functions.specs.declared.request.Request.{Request}
use Rattle.chip_functions.specs.declared.request.Request.TheVariants.{GetInitData, GetCapabilities, SendData, GetVersion, SendDataAbort, MemoryGetId, GetNodeProtocolInfo, AddNode, RequestNodeInfo, IsFailedNode, GetRoutingInfo}
use Rattle.chip_sim.specs.Requests.{asked as asked_of}
use Rattle.chip_sim.specs.Rules.{listed as listed_of}
use Rattle.chip_sim.specs.declared.out.Sending.{Sending as SendingParts}
use Rattle.zw_text.specs.declared.entry.Entry.{Entry}
use Rattle.zw_text.specs.declared.entry.Entry.TheVariants as entry
use Rattle.zw_text.specs.Transcript.{frames}
use Rattle.law_transcript.specs.Lists.{EachAfter}
use Rattle.law_wire.specs.Asked.{Asked, Course, Sending, acks, asked, asked_at, clock_of, in_tick, last_sending, sending_after, sending_of, takes}
use Rattle.law_wire.specs.Results.{is_outward, settled_clock}
use Rattle.law_wire.specs.Given.{Given, given, given_at}
use Rattle.law_wire.specs.Answering.{MayWait}
use Rattle.outside_model.specs.Devices.{State}
use Rattle.proof_host.proofs.Lists.{each-append}
use Rattle.proof_air.proofs.Fateless.{IsFateless}
use Rattle.proof_air.proofs.Untimed.{IsUntimed}
use Rattle.proof_line.specs.proof_traffic.Facts.{one_if}
use Rattle.proof_chip.specs.Sending.{AreSending}
use Rattle.proof_chip.specs.Tally.{AreNumbered, AreOwn, IsBefore, IsIn, IsWithin, Outlook, TallyNow, Timed, informed, infos_asked, owed}
use Rattle.proof_chip.proofs.Airing.{IsNoAck, answer, asked_here, last_answered, none_asked, same_last, taken_before}
use Rattle.proof_chip.proofs.Answered.{GivesNone, given_answered, given_quietly}
use Rattle.proof_chip.proofs.Giving.{Turns, numbered_as}
use Rattle.proof_chip.proofs.Numbering.{lacks_above}
use Rattle.proof_chip.proofs.Passing.{others_no_ack}
use Rattle.proof_chip.proofs.Picking.{shown_both}
use Rattle.proof_chip.proofs.Settling.{AreIdle, IsIdle, IsNoTick, asked_still, frames_devices, idle_fateless, idle_no_tick, idle_others, idle_untimed, outward_by, outward_next, outward_sent, own_later}
use Rattle.proof_chip.proofs.Reckoning.{none_within, settled_now, timed_through}
use Rattle.proof_chip.proofs.Totals.{IsApartFrom, WasAsked, elsewhere, ends_one, infos_both, total_is, totals, totals_both, totals_none, totals_same, was_asked, with_frame}

-- ---- the SendData under way

-- the only one that is not over is under way, where the chip has one
pub under_all : (parts : SendingParts) (clock : ℕ) (last : List Sending) → AreSending (Some parts) (in_tick clock last) → (one : Sending) → last ≡ one ∷ [] → in_tick clock last ≡ last
under_all parts clock last (first, alone, node, id) one is =
    ap (λ (l : List Sending). in_tick clock l) is ∙ (by (one.clock == clock) (sym (ap (λ (l : List Sending). in_tick clock l) is) ∙ alone) ∙ sym is)
  where
    by : (b : Bool) → (if b then one ∷ [] else []) ≡ first ∷ [] → (if b then one ∷ [] else []) ≡ one ∷ []
    by true here = refl
    by false here = absurd (let no : [] ≡ first ∷ [] = here in cc)

only_one : (by_frame : Bool) (numbers : List ℕ) (last : List Sending) → AreNumbered true by_frame numbers last → (one : Sending) × (last ≡ one ∷ [])
only_one true numbers last (one, is, before, rest) = (one, is)
only_one false numbers last (one, is, lacks) = (one, is)

-- ---- what is asked

abbrev asked_now : List Entry → Option Request → List Asked
asked_now past o = map (λ (request : Request). record { request = request; past = past }) (listed_of o)

abbrev sent_now : List Entry → List Sending → Option Request → List Sending
sent_now past last o = sending_after last (asked_now past o)

abbrev informs_by : Option Request → ℕ
informs_by None = 0
informs_by (Some request) = informed request

infos_now : (past : List Entry) (o : Option Request) → infos_asked (asked_now past o) ≡ informs_by o
infos_now past None = refl
infos_now past (Some request) = plus_none (informed request)
  where
    plus_none : (n : ℕ) → n + 0 ≡ n
    plus_none n = omega arith

-- how it looks after a request, where a SendData is taken or not
abbrev pub LooksTaken : Bool → Outlook → Outlook → Type 0
LooksTaken true v later = (later.sending ≡ true) × (later.by_frame ≡ false) × (later.numbers ≡ v.numbers) × (later.infos ≡ v.infos)
LooksTaken false v later = Turns v later × (later.infos ≡ v.infos + 0)

abbrev pub LooksSo : (ℕ → List ℕ → Bool) → Outlook → Outlook → Option Request → Type 0
LooksSo takes_it v later None = Turns v later × (later.infos ≡ v.infos + 0)
LooksSo takes_it v later (Some (SendData node payload options id)) = LooksTaken (takes_it node payload) v later
LooksSo takes_it v later (Some SendDataAbort) = (later.sending ≡ false) × (later.infos ≡ v.infos + 0)
LooksSo takes_it v later (Some request) = Turns v later × (later.infos ≡ v.infos + informed request)

module _ (course : Course) (past all : List Entry) (same_outward : (number : ℕ) → is_outward all number ≡ is_outward past number) (v later : Outlook) where
  abbrev last : List Sending
  last = last_sending course past

  abbrev under : List Sending
  under = in_tick (clock_of past) last

  -- with what is asked there, and these SendData
  pub record Keeps (now : List Asked) (sendings : List Sending) : Type 0 where
    pub numbered : AreNumbered later.sending later.by_frame later.numbers sendings
    pub owes : (here : List Asked) → AllByRecursion (WasAsked (acks past)) here → totals past last here ≡ owed v → infos_asked here ≡ v.infos → totals all sendings (here ++ now) ≡ owed later
    pub informs : (here : List Asked) → infos_asked here ≡ v.infos → infos_asked (here ++ now) ≡ later.infos

  outward_all : (sendings : List Sending) → AllByRecursion (λ (s : Sending). is_outward all s.frame ≡ is_outward past s.frame) sendings
  outward_all [] = tt
  outward_all (s ∷ sendings) = (same_outward s.frame, outward_all sendings)

  -- what was taken before this answer was not taken at it
  apart_one : (sendings : List Sending) (one : Asked) → one.past ≡ past → AllByRecursion (λ (s : Sending). s.place < acks past) sendings → AllByRecursion (IsApartFrom all one) sendings
  apart_one [] one is before = tt
  apart_one (s ∷ sendings) one is before =
      (elsewhere all one s (λ same. let below = before.0 in let at = ap acks is in omega (arith, same, below, at)), apart_one sendings one is before.1)

  apart_now : (requests : List Request) → AllByRecursion (λ (one : Asked). AllByRecursion (IsApartFrom all one) last) (map (λ (request : Request). record { request = request; past = past }) requests)
  apart_now [] = tt
  apart_now (request ∷ requests) = (apart_one last (record { request = request; past = past }) refl (taken_before course past), apart_now requests)

  -- the same SendData is under way
  same_keeps : (o : Option Request) → sent_now past last o ≡ last → Turns v later → later.infos ≡ v.infos + informs_by o → AreNumbered v.sending v.by_frame v.numbers last
      → Keeps (asked_now past o) (sent_now past last o)
  same_keeps o is same infos was = record {
    numbered = subst (λ (l : List Sending). AreNumbered later.sending later.by_frame later.numbers l) (sym is) (numbered_as v later same last was);
    owes = λ here before owes informs.
        let parts = totals_both all last here (asked_now past o) in
        let first = totals_same all past last (outward_all last) here in
        let more = totals_none all last (asked_now past o) (apart_now (listed_of o)) in
        let asks = infos_now past o in
        let flag : one_if (later.sending && not later.by_frame) ≡ one_if (v.sending && not v.by_frame) = ap₂ (λ (a b : Bool). one_if (a && not b)) same.sending same.by_frame in
        ap (λ (l : List Sending). totals all l (here ++ asked_now past o)) is ∙ omega (arith, parts, first, more, asks, flag, owes, infos);
    informs = λ here informs. let parts = infos_both here (asked_now past o) in let asks = infos_now past o in omega (arith, parts, asks, informs, infos);
  }

  apart_none : (asked_all : List Asked) → AllByRecursion (λ (one : Asked). AllByRecursion (IsApartFrom all one) []) asked_all
  apart_none [] = tt
  apart_none (one ∷ asked_all) = (tt, apart_none asked_all)

  -- none is
  none_keeps : (o : Option Request) → sent_now past last o ≡ [] → later.sending ≡ false → later.infos ≡ v.infos + informs_by o → Keeps (asked_now past o) (sent_now past last o)
  none_keeps o is none infos = record {
    numbered = subst (λ (l : List Sending). AreNumbered later.sending later.by_frame later.numbers l) (sym is) (subst (λ (b : Bool). AreNumbered b later.by_frame later.numbers []) (sym none) tt);
    owes = λ here before owes informs.
        let whole = totals_none all [] (here ++ asked_now past o) (apart_none (here ++ asked_now past o)) in
        let parts = infos_both here (asked_now past o) in
        let asks = infos_now past o in
        let flag : one_if (later.sending && not later.by_frame) ≡ 0 = ap (λ (b : Bool). one_if (b && not later.by_frame)) none in
        ap (λ (l : List Sending). totals all l (here ++ asked_now past o)) is ∙ omega (arith, whole, parts, asks, flag, informs, infos);
    informs = λ here informs. let parts = infos_both here (asked_now past o) in let asks = infos_now past o in omega (arith, parts, asks, informs, infos);
  }

  -- those under way are those that were, or none
  stays_keeps : (o : Option Request) (x : Option SendingParts) → sent_now past last o ≡ under → AreSending x under → v.sending ≡ is_some x → Turns v later → later.infos ≡ v.infos + informs_by o
      → AreNumbered v.sending v.by_frame v.numbers last → Keeps (asked_now past o) (sent_now past last o)
  stays_keeps o None is are sending same infos was = none_keeps o (is ∙ are) (same.sending ∙ sending) infos
  stays_keeps o (Some parts) is are sending same infos was =
      let one = only_one v.by_frame v.numbers last (subst (λ (b : Bool). AreNumbered b v.by_frame v.numbers last) sending was) in
      same_keeps o (is ∙ under_all parts (clock_of past) last are one.0 one.1) same infos was

  -- one is taken
  taken_keeps : (node : ℕ) (payload : List ℕ) (options id : ℕ) → sent_now past last (Some (SendData node payload options id)) ≡ sending_of past node payload id ∷ [] → later.sending ≡ true → later.by_frame ≡ false
      → later.numbers ≡ v.numbers → later.infos ≡ v.infos → AllByRecursion (λ (n : ℕ). n < length (frames past) + 1) v.numbers → is_outward past (length (frames past) + 1) ≡ false
      → Keeps (asked_now past (Some (SendData node payload options id))) (sent_now past last (Some (SendData node payload options id)))
  taken_keeps node payload options id is sending by_frame numbers infos below out = record {
    numbered =
        subst (λ (l : List Sending). AreNumbered later.sending later.by_frame later.numbers l) (sym is)
        (subst (λ (a : Bool). AreNumbered a later.by_frame later.numbers (new ∷ [])) (sym sending)
        (subst (λ (b : Bool). AreNumbered true b later.numbers (new ∷ [])) (sym by_frame)
        (subst (λ (l : List ℕ). AreNumbered true false l (new ∷ [])) (sym numbers) (new, refl, lacks_above (length (frames past) + 1) v.numbers below))));
    owes = λ here before owes informs.
        let parts = totals_both all (new ∷ []) here (asked_now past asks) in
        let first = totals_none all (new ∷ []) here (earlier here before) in
        let one = ends_one all (record { request = SendData node payload options id; past = past }) new refl (same_outward (length (frames past) + 1) ∙ out) in
        let flag : one_if (later.sending && not later.by_frame) ≡ 1 = ap₂ (λ (a b : Bool). one_if (a && not b)) sending by_frame in
        ap (λ (l : List Sending). totals all l (here ++ asked_now past asks)) is ∙ omega (arith, parts, first, one, flag, informs, infos);
    informs = λ here informs. let both = infos_both here (asked_now past asks) in omega (arith, both, informs, infos);
  }
    where
      new : Sending
      new = sending_of past node payload id

      asks : Option Request
      asks = Some (SendData node payload options id)

      earlier : (here : List Asked) → AllByRecursion (WasAsked (acks past)) here → AllByRecursion (λ (one : Asked). AllByRecursion (IsApartFrom all one) (new ∷ [])) here
      earlier [] before = tt
      earlier (one ∷ here) before = ((elsewhere all one new (λ same. let below = before.0 in omega (arith, same, below)), tt), earlier here before.1)

  module _ (x : Option SendingParts) (are : AreSending x under) (sending : v.sending ≡ is_some x) (was : AreNumbered v.sending v.by_frame v.numbers last)
      (below : AllByRecursion (λ (n : ℕ). n < length (frames past) + 1) v.numbers) (out : is_outward past (length (frames past) + 1) ≡ false) where
    send_keeps : (node : ℕ) (payload : List ℕ) (options id : ℕ) (b : Bool) → takes past under node payload ≡ b → LooksTaken b v later
        → Keeps (asked_now past (Some (SendData node payload options id))) (sent_now past last (Some (SendData node payload options id)))
    send_keeps node payload options id true takes_it (is_sending, by_frame, numbers, infos) =
        taken_keeps node payload options id (ap (λ (b : Bool). if b then sending_of past node payload id ∷ [] else under) takes_it) is_sending by_frame numbers infos below out
    send_keeps node payload options id false takes_it (same, infos) =
        stays_keeps (Some (SendData node payload options id)) x (ap (λ (b : Bool). if b then sending_of past node payload id ∷ [] else under) takes_it) are sending same infos was

    pub request_keeps : (o : Option Request) → LooksSo (λ node payload. takes past under node payload) v later o → Keeps (asked_now past o) (sent_now past last o)
    request_keeps None (same, infos) = same_keeps None refl same infos was
    request_keeps (Some (SendData node payload options id)) looks = send_keeps node payload options id (takes past under node payload) refl looks
    request_keeps (Some SendDataAbort) (none, infos) = none_keeps (Some SendDataAbort) refl none infos
    request_keeps (Some GetInitData) (same, infos) = stays_keeps (Some GetInitData) x refl are sending same infos was
    request_keeps (Some GetCapabilities) (same, infos) = stays_keeps (Some GetCapabilities) x refl are sending same infos was
    request_keeps (Some GetVersion) (same, infos) = stays_keeps (Some GetVersion) x refl are sending same infos was
    request_keeps (Some MemoryGetId) (same, infos) = stays_keeps (Some MemoryGetId) x refl are sending same infos was
    request_keeps (Some (GetNodeProtocolInfo node)) (same, infos) = stays_keeps (Some (GetNodeProtocolInfo node)) x refl are sending same infos was
    request_keeps (Some (AddNode mode id)) (same, infos) = stays_keeps (Some (AddNode mode id)) x refl are sending same infos was
    request_keeps (Some (RequestNodeInfo node)) (same, infos) = stays_keeps (Some (RequestNodeInfo node)) x refl are sending same infos was
    request_keeps (Some (IsFailedNode node)) (same, infos) = stays_keeps (Some (IsFailedNode node)) x refl are sending same infos was
    request_keeps (Some (GetRoutingInfo node a b c)) (same, infos) = stays_keeps (Some (GetRoutingInfo node a b c)) x refl are sending same infos was

-- ---- the answer, and what stands behind it

module _ (devices : List State) (course : Course) (past rest : List Entry) (f : FrameParts) (passed : slice_get course.passed (acks past) ≡ Some f) (idle : AreIdle rest) where
  abbrev whole : List Entry
  whole = past ++ answer ∷ rest

  abbrev now : List Asked
  now = asked_now past (asked_of f)

  no_ack : AllByRecursion IsNoAck rest
  no_ack = others_no_ack rest (idle_others rest idle)

  asked_more : asked course whole ≡ asked course past ++ now
  asked_more =
      shown_both (asked_at course) [] past (answer ∷ rest)
      ∙ ap (λ (l : List Asked). asked course past ++ (asked_at course past answer ++ l)) (none_asked course rest (past ++ answer ∷ []) no_ack)
      ∙ ap (λ (l : List Asked). asked course past ++ l) (append-nil (asked_at course past answer) ∙ asked_here course past f passed)

  given_more : length (given devices course whole) ≡ length (given devices course past) + length (given_at devices course past answer)
  given_more =
      ap (λ (l : List Given). length l) (given_answered devices course past rest (all-weaker IsIdle GivesNone (λ e is. is.0) rest idle))
      ∙ length-append (given devices course past) (given_at devices course past answer)

  same_outward : (number : ℕ) → is_outward whole number ≡ is_outward past number
  same_outward number = outward_by past (answer ∷ rest) (frames_devices rest (idle_others rest idle)) number

  in_here : (clock : ℕ) → clock_of past ≡ clock → (requests : List Request) → AllByRecursion (IsIn clock) (map (λ (request : Request). record { request = request; past = past }) requests)
  in_here clock is [] = tt
  in_here clock is (request ∷ requests) = (is, in_here clock is requests)

  pub answered_now : (v later : Outlook) (x : Option SendingParts) (count more : ℕ) → later.clock ≡ v.clock → later.numbers ≡ v.numbers → AreSending x (in_tick (clock_of past) (last_sending course past)) → v.sending ≡ is_some x
      → AllByRecursion (λ (n : ℕ). n < length (frames past) + 1) v.numbers → LooksSo (λ node payload. takes past (in_tick (clock_of past) (last_sending course past)) node payload) v later (asked_of f)
      → length (given_at devices course past answer) ≡ more → EachAfter (MayWait devices course) past (answer ∷ rest)
      → TallyNow devices v false 0 count course past → TallyNow devices later false 0 (count + more) course whole
  answered_now v later x count more clock same_numbers are sending below looks many waits was =
      let timed : Timed v.clock 0 false whole =
      timed_through v.clock 0 past (answer ∷ rest) (tt, all-weaker IsIdle IsUntimed idle_untimed rest idle) (tt, all-weaker IsIdle IsFateless idle_fateless rest idle)
      (tt, all-weaker IsIdle IsNoTick idle_no_tick rest idle) was.timed in
      let at_end : settled_clock whole ≡ v.clock = settled_now v.clock whole timed in
      let at_first : settled_clock past ≡ v.clock = settled_now v.clock past was.timed in
      let same : settled_clock past ≡ settled_clock whole = at_first ∙ sym at_end in
      let before : AllByRecursion (WasAsked (acks past)) was.here =
      all-right (WasAsked (acks past)) was.silent was.here
      (all-right (WasAsked (acks past)) was.old (was.silent ++ was.here) (subst (λ (l : List Asked). AllByRecursion (WasAsked (acks past)) l) was.are (was_asked course past))) in
      let keeps = request_keeps course past whole same_outward v later x are sending was.numbered below (outward_next past) (asked_of f) looks in
      let last_is = last_answered course past rest f passed no_ack in
      let was_many = was.many in
      let none_before = none_within course past (settled_clock past) v.clock (omega (arith, at_first)) was.silent was.unsettled in
      let none_after = none_within course whole (settled_clock past) v.clock (omega (arith, at_first)) was.silent was.unsettled in
      let grown = given_more in
      record {
        waits = each-append (MayWait devices course) [] past (answer ∷ rest) was.waits waits;
        numbered = subst (λ (l : List Sending). AreNumbered later.sending later.by_frame later.numbers l) (sym last_is) keeps.numbered;
        own = subst (λ (l : List ℕ). AreOwn whole l) (sym same_numbers) (own_later past (answer ∷ rest) v.numbers was.own);
        timed = subst (λ (n : ℕ). Timed n 0 false whole) (sym clock) timed;
        old = was.old;
        silent = was.silent;
        here = was.here ++ now;
        are =
            asked_more ∙ ap (λ (l : List Asked). l ++ now) was.are ∙ append_assoc was.old (was.silent ++ was.here) now
            ∙ ap (λ (l : List Asked). was.old ++ l) (append_assoc was.silent was.here now);
        settled = subst (λ (n : ℕ). AllByRecursion (IsBefore n) was.old) same was.settled;
        unsettled =
            subst (λ (n : ℕ). AllByRecursion (IsWithin n later.clock) was.silent) same
            (subst (λ (n : ℕ). AllByRecursion (IsWithin (settled_clock past) n) was.silent) (sym clock) was.unsettled);
        new =
            subst (λ (n : ℕ). AllByRecursion (IsIn n) (was.here ++ now)) (sym clock)
            (all-append (IsIn v.clock) was.here now was.new (in_here v.clock (was.timed.now refl) (listed_of (asked_of f))));
        informs = keeps.informs was.here was.informs;
        owes =
            total_is course whole (was.here ++ now) ∙ ap (λ (l : List Sending). totals whole l (was.here ++ now)) last_is
            ∙ keeps.owes was.here before (sym (total_is course past was.here) ∙ was.owes) was.informs;
        many = omega (arith, was_many, none_before, none_after, grown, many);
      }

-- ---- the frame of a SendData goes on the air

module _ (devices : List State) (course : Course) (past : List Entry) (number node : ℕ) (repeaters payload : List ℕ) where
  abbrev air : Entry
  air = entry.Air number 1 node repeaters payload

  -- it is the next one
  pub aired_now : (v later : Outlook) (count : ℕ) → v.sending ≡ true → v.by_frame ≡ false → later.sending ≡ true → later.by_frame ≡ true → later.infos ≡ v.infos → later.clock ≡ v.clock
      → later.numbers ≡ v.numbers ++ (length (frames past) + 1) ∷ [] → (one : Sending) → last_sending course past ≡ one ∷ [] → one.frame ≡ length (frames past) + 1
      → TallyNow devices v false 0 count course past → TallyNow devices later false 0 count course (past ++ air ∷ [])
  aired_now v later count was_sending was_by sending by_frame infos clock numbers one alone frame was =
      let whole : List Entry = past ++ air ∷ [] in
      let timed : Timed v.clock 0 false whole = timed_through v.clock 0 past (air ∷ []) (tt, tt) (tt, tt) (tt, tt) was.timed in
      let at_end : settled_clock whole ≡ v.clock = settled_now v.clock whole timed in
      let at_first : settled_clock past ≡ v.clock = settled_now v.clock past was.timed in
      let same : settled_clock past ≡ settled_clock whole = at_first ∙ sym at_end in
      let last_is : last_sending course whole ≡ one ∷ [] = same_last course past (air ∷ []) (tt, tt) ∙ alone in
      let out : is_outward whole one.frame ≡ true = ap (λ (n : ℕ). is_outward whole n) frame ∙ outward_sent past number node repeaters payload in
      let was_many = was.many in
      let none_before = none_within course past (settled_clock past) v.clock (omega (arith, at_first)) was.silent was.unsettled in
      let none_after = none_within course whole (settled_clock past) v.clock (omega (arith, at_first)) was.silent was.unsettled in
      let same_given = ap (λ (l : List Given). length l) (given_quietly devices course past (air ∷ []) (tt, tt)) in
      let flag : one_if (later.sending && not later.by_frame) ≡ 0 = ap₂ (λ (a b : Bool). one_if (a && not b)) sending by_frame in
      let owes = totals_none whole (one ∷ []) was.here (all_aired out was.here) in
      let informs = was.informs in
      record {
        waits = each-append (MayWait devices course) [] past (air ∷ []) was.waits (tt, tt);
        numbered =
            subst (λ (l : List Sending). AreNumbered later.sending later.by_frame later.numbers l) (sym last_is)
            (subst (λ (a : Bool). AreNumbered a later.by_frame later.numbers (one ∷ [])) (sym sending)
            (subst (λ (b : Bool). AreNumbered true b later.numbers (one ∷ [])) (sym by_frame)
            (one, refl, v.numbers, numbers ∙ ap (λ (n : ℕ). v.numbers ++ n ∷ []) (sym frame))));
        own =
            subst (λ (l : List ℕ). AreOwn whole l) (sym numbers)
            (all-append (λ (n : ℕ). is_outward whole n ≡ true) v.numbers ((length (frames past) + 1) ∷ []) (own_later past (air ∷ []) v.numbers was.own) (outward_sent past number node repeaters payload, tt));
        timed = subst (λ (n : ℕ). Timed n 0 false whole) (sym clock) timed;
        old = was.old;
        silent = was.silent;
        here = was.here;
        are = asked_still course past (air ∷ []) (tt, tt) ∙ was.are;
        settled = subst (λ (n : ℕ). AllByRecursion (IsBefore n) was.old) same was.settled;
        unsettled =
            subst (λ (n : ℕ). AllByRecursion (IsWithin n later.clock) was.silent) same
            (subst (λ (n : ℕ). AllByRecursion (IsWithin (settled_clock past) n) was.silent) (sym clock) was.unsettled);
        new = subst (λ (n : ℕ). AllByRecursion (IsIn n) was.here) (sym clock) was.new;
        informs = informs ∙ sym infos;
        owes = total_is course whole was.here ∙ ap (λ (l : List Sending). totals whole l was.here) last_is ∙ omega (arith, owes, informs, infos, flag);
        many = omega (arith, was_many, none_before, none_after, same_given);
      }
    where
      all_aired : is_outward (past ++ air ∷ []) one.frame ≡ true → (asked_all : List Asked) → AllByRecursion (λ (other : Asked). AllByRecursion (IsApartFrom (past ++ air ∷ []) other) (one ∷ [])) asked_all
      all_aired out [] = tt
      all_aired out (other ∷ asked_all) = ((with_frame (past ++ air ∷ []) other one out, tt), all_aired out asked_all)
