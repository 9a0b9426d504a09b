-- An event of the chip keeps the law of what goes on the air, where chip and transcript agree on which SendData may be taken: directly after the answer to one that is taken stands its
-- frame, unless it has no way, and nothing else goes on the air.
use Rattle.std.proofs.Common.{◌≡◌, ◌⊎◌, ℕ, ◌+◌, ◌==◌, ◌&&◌, ◌||◌, Bool, true, false, if◌then◌else◌, List, [], ◌∷◌, ◌++◌, filter, inl, inr, refl, sym, ap, ap₂, ◌∙◌, subst, append_assoc, arith}
use Rattle.std.specs.Prelude.{Option, Some, None, slice_get}
use Rattle.std.specs.List.{AllByRecursion}
use Rattle.zw_base.proofs.Each.{all-append}
use Rattle.serial_frame.specs.Frame.{FrameParts}
use Rattle.serial_frame.specs.Items.{unit_text}
use Rattle.serial_frame.specs.declared.unit.Unit.TheVariants.{Ack}
use Rattle.serial_pipes.specs.State.{mark_for}
use Rattle.serial_pipes.specs.Events.{told_by}
use Rattle.route_table.specs.declared.route.Route.{Route}
use Rattle.chip_functions.specs.declared.request.Request.{Request}
use Rattle.chip_functions.specs.declared.request.Request.TheVariants.{GetInitData, GetCapabilities, SendData, GetVersion, SendDataAbort, MemoryGetId, GetNodeProtocolInfo, AddNode, RequestNodeInfo, IsFailedNode, GetRoutingInfo}
use Rattle.chip_sim.specs.State.{ChipState}
use Rattle.chip_sim.specs.Answers.{takes as takes_of}
use Rattle.chip_sim.specs.Requests.{asked as asked_of, given_outs, performed_outs, reply_to, requested_outs, sent}
use Rattle.chip_sim.specs.declared.out.ChipOut.{ChipOut}
use Rattle.chip_sim.specs.declared.out.ChipOut.TheVariants.{Write}
use Rattle.zw_words.specs.declared.side.Side.TheVariants.{Chip as by_chip}
use Rattle.zw_text.specs.declared.entry.Entry.{Entry}
use Rattle.zw_text.specs.declared.entry.Entry.TheVariants as entry
use Rattle.zw_text.specs.Transcript.{folded}
use Rattle.zw_text.proofs.Views.{folded-append}
use Rattle.law_transcript.specs.Lists.{EachAfter}
use Rattle.law_wire.specs.Asked.{Course, Sending, acks, clock_of, in_tick, last_sending, sending_of, takes}
use Rattle.law_wire.specs.Taking.{AsksFor, IsPassedOver, MayAir, answer_step, is_answering, to_air}
use Rattle.outside_model.specs.Devices.{State}
use Rattle.outside_model.specs.State.{OuterState, each}
use Rattle.outside_model.specs.Chip.{put_out, shown_via}
use Rattle.proof_host.proofs.Lists.{each-append, each-anywhere}
use Rattle.proof_chip.proofs.Agreeing.{acks_more}
use Rattle.proof_chip.proofs.Airing.{IsMore, IsNoAck, air_of, answer, no_acks, same_last, taken_by}
use Rattle.proof_chip.proofs.Quieting.{given_quiet, marks_more, puts_more}
use Rattle.proof_chip.proofs.Telling.{puts_both}

-- ---- whether the chip is at an answer

-- no answer begins, so there is one only where there was one
no_begin : (told : List Entry) → AllByRecursion IsNoAck told → folded answer_step false told ≡ false
no_begin [] none = refl
no_begin (e ∷ told) none = ap (λ (b : Bool). folded answer_step b told) (step e none.0) ∙ no_begin told none.1
  where
    step : (e : Entry) → IsNoAck e → answer_step false e ≡ false
    step (entry.Written by_chip unit) no_ack = ap (λ (b : Bool). b || false) no_ack
    step e no_ack = refl

module _ (course : Course) where
  -- what is to go on the air stays so, or nothing is
  pub air_later : (past told : List Entry) → AllByRecursion IsNoAck told → (to_air course (past ++ told) ≡ to_air course past) ⊎ (to_air course (past ++ told) ≡ [])
  air_later past told none = by (is_answering (past ++ told)) (is_answering past) refl refl
    where
      same_acks : acks (past ++ told) ≡ acks past
      same_acks = let more = acks_more past told in let no = no_acks told none in omega (arith, more, no)

      by : (after before : Bool) → is_answering (past ++ told) ≡ after → is_answering past ≡ before → (to_air course (past ++ told) ≡ to_air course past) ⊎ (to_air course (past ++ told) ≡ [])
      by false before is was = inr (ap (λ (b : Bool). if b then filter (λ (sending : Sending). sending.place + 1 == acks (past ++ told)) (last_sending course (past ++ told)) else []) is)
      by true true is was = inl (
          ap (λ (b : Bool). if b then filter (λ (sending : Sending). sending.place + 1 == acks (past ++ told)) (last_sending course (past ++ told)) else []) is
          ∙ ap₂ (λ (n : ℕ) (l : List Sending). filter (λ (sending : Sending). sending.place + 1 == n) l) same_acks (same_last course past told none)
          ∙ sym (ap (λ (b : Bool). if b then filter (λ (sending : Sending). sending.place + 1 == acks past) (last_sending course past) else []) was)
          )
      by true false is was =
          absurd (let none_now : true ≡ false = sym is ∙ folded-append answer_step false past told ∙ ap (λ (b : Bool). folded answer_step b told) was ∙ no_begin told none in cc)

-- ---- entries of an answer

module _ (devices : List State) (course : Course) where
  more_stands : (past : List Entry) (e : Entry) → IsMore e → MayAir devices course past e
  more_stands past (entry.Air frame sender receiver repeaters payload) more = absurd (let none : false ≡ true = more.0 in cc)
  more_stands past e more = subst (λ (b : Bool). IsPassedOver b devices course past) (sym more.0) tt

  all_stand : (past told : List Entry) → AllByRecursion IsMore told → EachAfter (MayAir devices course) past told
  all_stand past told all = each-anywhere (MayAir devices course) IsMore more_stands past told all

  abbrev pub AirsFor : List Entry → List Entry → List Sending → Type 0
  AirsFor past told sendings = EachAfter (MayAir devices course) past told × (to_air course (past ++ told) ≡ sendings)

  -- ---- a frame that is answered

  -- what is then still to go on the air: nothing, where it has
  abbrev pub left_over : Option Route → List Sending → List Sending
  left_over None sendings = sendings
  left_over (Some route) sendings = []

  left_none : (way : Option Route) → left_over way [] ≡ []
  left_none None = refl
  left_none (Some route) = refl

  module _ (past : List Entry) (f : FrameParts) (passed : slice_get course.passed (acks past) ≡ Some f) (over : IsPassedOver false devices course past) where
    abbrev under : List Sending
    under = in_tick (clock_of past) (last_sending course past)

    -- nothing goes on the air
    answered_airs : (quiet : List Entry) → AllByRecursion IsMore quiet → AirsFor past (answer ∷ quiet) (taken_by past under (asked_of f))
    answered_airs quiet more = ((over, all_stand (past ++ answer ∷ []) quiet more), air_of course past quiet more f passed)

    -- the frame of the SendData that is taken does
    frame_airs : (quiet : List Entry) (number node : ℕ) (payload repeaters : List ℕ) (options id : ℕ) → AllByRecursion IsMore quiet → asked_of f ≡ Some (SendData node payload options id)
        → takes past under node payload ≡ true → AirsFor past (answer ∷ (quiet ++ entry.Air number 1 node repeaters payload ∷ [])) []
    frame_airs quiet number node payload repeaters options id more is taken =
        let air : Entry = entry.Air number 1 node repeaters payload in
        let here : List Entry = past ++ answer ∷ quiet in
        let there : to_air course here ≡ sending_of past node payload id ∷ [] =
        air_of course past quiet more f passed ∙ ap (λ (o : Option Request). taken_by past under o) is ∙ ap (λ (b : Bool). if b then sending_of past node payload id ∷ [] else []) taken in
        let asks : AsksFor node payload (to_air course here) =
        subst (λ (l : List Sending). AsksFor node payload l) (sym there) (record { sending = sending_of past node payload id; taken = inl refl; to_node = refl; with_payload = refl }) in
        let all : here ++ air ∷ [] ≡ past ++ answer ∷ (quiet ++ air ∷ []) = append_assoc past (answer ∷ quiet) (air ∷ []) in
        let ends : is_answering (here ++ air ∷ []) ≡ false = folded-append answer_step false here (air ∷ []) ∙ and_false (is_answering here) in (
          each-append (MayAir devices course) past (answer ∷ quiet) (air ∷ []) (over, all_stand (past ++ answer ∷ []) quiet more) (asks, tt),
          subst (λ (l : List Entry). to_air course l ≡ []) all
              (ap (λ (b : Bool). if b then filter (λ (sending : Sending). sending.place + 1 == acks (here ++ air ∷ [])) (last_sending course (here ++ air ∷ [])) else []) ends),
        )
      where
        and_false : (b : Bool) → (false || (b && false)) ≡ false
        and_false true = refl
        and_false false = refl

    module _ (s : ChipState) (way : Option Route)
        (agree : (node : ℕ) (payload : List ℕ) (options id : ℕ) → asked_of f ≡ Some (SendData node payload options id) → takes_of s node payload ≡ takes past under node payload) where
      -- nothing more goes on the air
      quiet_ends : (o : Option Request) → asked_of f ≡ o → (w : Option Route) → left_over w (taken_by past under o) ≡ taken_by past under o → (quiet : List Entry) → AllByRecursion IsMore quiet
          → AirsFor past (answer ∷ quiet) (left_over w (taken_by past under o))
      quiet_ends o is w same quiet more =
          subst (λ (l : List Sending). AirsFor past (answer ∷ quiet) l) (ap (λ (x : Option Request). taken_by past under x) is ∙ sym same) (answered_airs quiet more)

      none_ends : (request : Request) → asked_of f ≡ Some request → taken_by past under (Some request) ≡ [] → (w : Option Route) → (quiet : List Entry) → AllByRecursion IsMore quiet
          → AirsFor past (answer ∷ (quiet ++ [])) (left_over w (taken_by past under (Some request)))
      none_ends request is none w quiet more =
          quiet_ends (Some request) is w (ap (λ (l : List Sending). left_over w l) none ∙ left_none w ∙ sym none) (quiet ++ []) (all-append IsMore quiet [] more tt)

      sent_ends : (node : ℕ) (payload : List ℕ) (options id : ℕ) → asked_of f ≡ Some (SendData node payload options id) → (quiet : List Entry) → AllByRecursion IsMore quiet → (p : OuterState)
          → (b : Bool) → takes_of s node payload ≡ b → (w : Option Route)
          → AirsFor past (answer ∷ (quiet ++ (each put_out p (if b then sent node payload w else [])).entries)) (left_over w (taken_by past under (Some (SendData node payload options id))))
      sent_ends node payload options id is quiet more p false takes_it w =
          none_ends (SendData node payload options id) is
          (ap (λ (b : Bool). if b then sending_of past node payload id ∷ [] else []) (sym (agree node payload options id is) ∙ takes_it)) w quiet more
      sent_ends node payload options id is quiet more p true takes_it None =
          quiet_ends (Some (SendData node payload options id)) is None refl (quiet ++ []) (all-append IsMore quiet [] more tt)
      sent_ends node payload options id is quiet more p true takes_it (Some route) =
          frame_airs quiet (p.air.frames.sent + 1) node payload (shown_via route) options id more is (sym (agree node payload options id is) ∙ takes_it)

      performed_ends : (request : Request) → asked_of f ≡ Some request → (quiet : List Entry) → AllByRecursion IsMore quiet → (p : OuterState)
          → AirsFor past (answer ∷ (quiet ++ (each put_out p (performed_outs request s way)).entries)) (left_over way (taken_by past under (Some request)))
      performed_ends (SendData node payload options id) is quiet more p = sent_ends node payload options id is quiet more p (takes_of s node payload) refl way
      performed_ends GetInitData is quiet more p = none_ends GetInitData is refl way quiet more
      performed_ends GetCapabilities is quiet more p = none_ends GetCapabilities is refl way quiet more
      performed_ends GetVersion is quiet more p = none_ends GetVersion is refl way quiet more
      performed_ends SendDataAbort is quiet more p = none_ends SendDataAbort is refl way quiet more
      performed_ends MemoryGetId is quiet more p = none_ends MemoryGetId is refl way quiet more
      performed_ends (GetNodeProtocolInfo node) is quiet more p = none_ends (GetNodeProtocolInfo node) is refl way quiet more
      performed_ends (AddNode mode id) is quiet more p = none_ends (AddNode mode id) is refl way quiet more
      performed_ends (RequestNodeInfo node) is quiet more p = none_ends (RequestNodeInfo node) is refl way quiet more
      performed_ends (IsFailedNode node) is quiet more p = none_ends (IsFailedNode node) is refl way quiet more
      performed_ends (GetRoutingInfo node x y z) is quiet more p = none_ends (GetRoutingInfo node x y z) is refl way quiet more

      requested_ends : (o : Option Request) → asked_of f ≡ o → (marks : List Entry) → AllByRecursion IsMore marks → (p : OuterState)
          → AirsFor past (answer ∷ (marks ++ (each put_out p (requested_outs o s way)).entries)) (left_over way (taken_by past under o))
      requested_ends None is marks more p = quiet_ends None is way (left_none way) (marks ++ []) (all-append IsMore marks [] more tt)
      requested_ends (Some request) is marks more p =
          let given : List ChipOut = given_outs s (reply_to s request) in
          let first : List Entry = (each put_out p given).entries in
          let later : OuterState = (each put_out p given).outer in
          let last : List Entry = (each put_out later (performed_outs request s way)).entries in
          let parts : marks ++ (each put_out p (given ++ performed_outs request s way)).entries ≡ (marks ++ first) ++ last =
          ap (λ (l : List Entry). marks ++ l) (puts_both given (performed_outs request s way) p) ∙ sym (append_assoc marks first last) in
          subst (λ (l : List Entry). AirsFor past (answer ∷ l) (left_over way (taken_by past under (Some request)))) (sym parts)
          (performed_ends request is (marks ++ first) (all-append IsMore marks first more (puts_more given p (given_quiet (reply_to s request) s))) later)

      pub frame_put : (p : OuterState) → AirsFor past (each put_out p (Write Ack ∷ requested_outs (asked_of f) s way)).entries (left_over way (taken_by past under (asked_of f)))
      frame_put p =
          requested_ends (asked_of f) refl (told_by by_chip p.to_host.bytes (mark_for p.to_host.marks Ack) (unit_text Ack)) (marks_more p.to_host.bytes (mark_for p.to_host.marks Ack) (unit_text Ack))
          (put_out p (Write Ack)).outer
