-- Where the chip answers a frame and was given just what the transcript says, it still is after that; the frame that it begins is the next one, it drops one only where 32 wait, and no more
-- than these wait before it.
use Rattle.std.proofs.Common.{◌≡◌, ℕ, Bool, true, false, if◌then◌else◌, List, [], ◌∷◌, ◌++◌, map, length, refl, sym, ap, ap₂, ◌∙◌, subst, append-nil, length-append, arith}
use Rattle.std.specs.Prelude.{Option, Some, None, slice_get}
use Rattle.std.specs.List.{flat_map, AllByRecursion}
use Rattle.zw_base.proofs.Each.{all-append, all-weaker}
use Rattle.serial_frame.specs.Frame.{FrameParts}
use Rattle.serial_frame.specs.Items.{unit_text}
use Rattle.serial_frame.specs.declared.unit.Unit.TheVariants.{Ack, Nak, Can, Framed}
use Rattle.serial_frame.specs.declared.item.Item.TheVariants.{Good}
use Rattle.serial_pipes.specs.State.{mark_for}
use Rattle.route_table.specs.declared.route.Route.{Route}
use Rattle.chip_functions.specs.declared.request.Request.{Request}
use Rattle.chip_functions.specs.declared.request.Request.TheVariants.{GetInitData, GetCapabilities, SendData, GetVersion, SendDataAbort, MemoryGetId, GetNodeProtocolInfo, AddNode, RequestNodeInfo, IsFailedNode, GetRoutingInfo}
use Rattle.chip_functions.specs.declared.response.Response.{Response}
use Rattle.chip_sim.specs.State.{ChipState}
use Rattle.chip_sim.specs.Answers.{takes}
use Rattle.chip_sim.specs.Events.{Judged, collides, outs}
use Rattle.chip_sim.specs.Requests.{answer_outs, asked as asked_of, given_outs, heard, judged_outs, passed, performed_outs, reply_to, requested_outs, sent}
use Rattle.chip_sim.specs.declared.out.ChipOut.{ChipOut}
use Rattle.chip_sim.specs.declared.out.ChipOut.TheVariants.{Write, OnAir, NoRoute, AskInfo, Full}
use Rattle.zw_words.specs.declared.side.Side.TheVariants.{Chip as by_chip}
use Rattle.zw_text.specs.declared.entry.Entry.{Entry}
use Rattle.zw_text.specs.declared.entry.Entry.TheVariants as entry
use Rattle.law_transcript.specs.Lists.{listed, shown_after}
use Rattle.law_wire.specs.Asked.{Asked, Course, acks, asked, is_ack, requests_of}
use Rattle.law_wire.specs.Results.{aborted_by, came_due, settled_clock}
use Rattle.law_wire.specs.Given.{Frame, Given, callback_of, given, given_at, response_frame, response_to, results_of}
use Rattle.law_wire.specs.Answering.{AreOf}
use Rattle.outside_model.specs.Devices.{State}
use Rattle.outside_model.specs.State.{OuterState, each}
use Rattle.outside_model.specs.Chip.{put_out}
use Rattle.proof_air.proofs.Entered.{IsMark, told_by_marks}
use Rattle.proof_chip.specs.Serving.{HasGiven, as_given, frame_texts}
use Rattle.proof_chip.proofs.Airing.{answer}
use Rattle.proof_chip.proofs.Growing.{frames_both, many_given, many_frames}
use Rattle.proof_chip.proofs.Picking.{shown_both}
use Rattle.proof_chip.proofs.Quieting.{IsQuiet, given_quiet}
use Rattle.proof_chip.proofs.Replying.{none_filtered, settled_same}

-- ---- entries at which nothing is given

-- neither words of a line, the number of a tick, a fate nor the answer to a good frame
abbrev pub GivesNone : Entry → Type 0
GivesNone (entry.Said words) = ⊥
GivesNone (entry.Time tick) = ⊥
GivesNone (entry.Heard frame) = ⊥
GivesNone (entry.Lost frame) = ⊥
GivesNone (entry.Unheard frame) = ⊥
GivesNone (entry.Written by_chip unit) = is_ack unit ≡ false
GivesNone e = Unit {0}

pub still_settled : (past : List Entry) (e : Entry) → GivesNone e → settled_clock (past ++ e ∷ []) ≡ settled_clock past
still_settled past (entry.Said words) none = absurd none
still_settled past (entry.Time tick) none = absurd none
still_settled past (entry.Heard frame) none = absurd none
still_settled past (entry.Lost frame) none = absurd none
still_settled past (entry.Unheard frame) none = absurd none
still_settled past e none = settled_same past e tt refl (λ all. refl)

module _ (devices : List State) (course : Course) where
  none_due : (past : List Entry) (e : Entry) → GivesNone e → came_due course past e ≡ []
  none_due past e none = none_filtered (settled_clock past) (settled_clock (past ++ e ∷ [])) (still_settled past e none) (asked course past)

  none_at : (past : List Entry) (e : Entry) → GivesNone e → given_at devices course past e ≡ []
  none_at past (entry.Said words) none = absurd none
  none_at past (entry.Time tick) none = absurd none
  none_at past (entry.Heard frame) none = absurd none
  none_at past (entry.Lost frame) none = absurd none
  none_at past (entry.Unheard frame) none = absurd none
  none_at past (entry.Written by_chip unit) none =
      ap₂ (λ (requests : List Request) (due : List Asked). ((map (λ (response : Response). Frame (response_frame response)) (flat_map (response_to devices course past) requests) ++ [])
      ++ map callback_of (flat_map (aborted_by course past) requests)) ++ flat_map (results_of course past (entry.Written by_chip unit)) due)
      (ap (λ (b : Bool). if b then flat_map requests_of (listed (slice_get course.passed (acks past))) else []) none) (none_due past (entry.Written by_chip unit) none)
  none_at past e none = ap (λ (due : List Asked). flat_map (results_of course past e) due) (none_due past e none)

  none_given : (told past : List Entry) → AllByRecursion GivesNone told → shown_after (given_at devices course) past told ≡ []
  none_given [] past none = refl
  none_given (e ∷ told) past none = ap₂ (λ (a b : List Given). a ++ b) (none_at past e none.0) (none_given told (past ++ e ∷ []) none.1)

  -- after the answer just what it gives is more
  pub given_answered : (past rest : List Entry) → AllByRecursion GivesNone rest → given devices course (past ++ answer ∷ rest) ≡ given devices course past ++ given_at devices course past answer
  given_answered past rest none =
      shown_both (given_at devices course) [] past (answer ∷ rest)
      ∙ ap (λ (l : List Given). given devices course past ++ (given_at devices course past answer ++ l)) (none_given rest (past ++ answer ∷ []) none)
      ∙ ap (λ (l : List Given). given devices course past ++ l) (append-nil (given_at devices course past answer))

  pub given_quietly : (past told : List Entry) → AllByRecursion GivesNone told → given devices course (past ++ told) ≡ given devices course past
  given_quietly past told none =
      shown_both (given_at devices course) [] past told ∙ ap (λ (l : List Given). given devices course past ++ l) (none_given told past none) ∙ append-nil (given devices course past)

-- ---- frames that are given

module _ (devices : List State) where
  own_are : (frames : List FrameParts) → AreOf devices (frame_texts frames) (as_given frames)
  own_are [] = tt
  own_are (f ∷ frames) = (refl, own_are frames)

  more_given : (texts : List (List ℕ)) (all : List Given) (frames : List FrameParts) → AreOf devices texts all → length all ≡ length texts → AreOf devices (texts ++ frame_texts frames) (all ++ as_given frames)
  more_given [] [] frames are same = own_are frames
  more_given [] (one ∷ all) frames are same = absurd (omega (arith, same))
  more_given (text ∷ texts) [] frames are same = absurd are
  more_given (text ∷ texts) (one ∷ all) frames are same = (are.0, more_given texts all frames are.1 (omega (arith, same)))

  -- what comes to both
  pub has_more : (course : Course) (frames more : List FrameParts) (past all : List Entry) → given devices course all ≡ given devices course past ++ as_given more → HasGiven devices course frames past
      → HasGiven devices course (frames ++ more) all
  has_more course frames more past all is has = record {
    are =
        subst (λ (l : List Given). AreOf devices (frame_texts (frames ++ more)) l) (sym is)
        (subst (λ (l : List (List ℕ)). AreOf devices l (given devices course past ++ as_given more)) (sym (frames_both frames more))
        (more_given (frame_texts frames) (given devices course past) more has.are (has.many ∙ sym (many_frames frames))));
    many =
        let parts = ap (λ (l : List Given). length l) is ∙ length-append (given devices course past) (as_given more) in
        let first = has.many in
        let last = many_given more in
        let sum = length-append frames more in
        omega (arith, parts, first, last, sum);
  }

-- ---- what is put out after the answer

-- no answer to a good frame
abbrev pub IsNone : ChipOut → Type 0
IsNone (Write Ack) = ⊥
IsNone out = Unit {0}

quiet_is : (out : ChipOut) → IsQuiet out → IsNone out
quiet_is (Write Ack) quiet = absurd quiet
quiet_is (Write Nak) quiet = tt
quiet_is (Write Can) quiet = tt
quiet_is (Write (Framed f)) quiet = tt
quiet_is out quiet = tt

sent_is : (b : Bool) (node : ℕ) (payload : List ℕ) (way : Option Route) → AllByRecursion IsNone (if b then sent node payload way else [])
sent_is false node payload way = tt
sent_is true node payload None = (tt, tt)
sent_is true node payload (Some route) = (tt, tt)

performed_is : (request : Request) (s : ChipState) (way : Option Route) → AllByRecursion IsNone (performed_outs request s way)
performed_is (SendData node payload options id) s way = sent_is (takes s node payload) node payload way
performed_is GetInitData s way = tt
performed_is GetCapabilities s way = tt
performed_is GetVersion s way = tt
performed_is SendDataAbort s way = tt
performed_is MemoryGetId s way = tt
performed_is (GetNodeProtocolInfo node) s way = tt
performed_is (AddNode mode id) s way = tt
performed_is (RequestNodeInfo node) s way = (tt, tt)
performed_is (IsFailedNode node) s way = tt
performed_is (GetRoutingInfo node x y z) s way = tt

requested_is : (o : Option Request) (s : ChipState) (way : Option Route) → AllByRecursion IsNone (requested_outs o s way)
requested_is None s way = tt
requested_is (Some request) s way =
    all-append IsNone (given_outs s (reply_to s request)) (performed_outs request s way)
    (all-weaker IsQuiet IsNone quiet_is (given_outs s (reply_to s request)) (given_quiet (reply_to s request) s)) (performed_is request s way)

mark_none : (e : Entry) → IsMark e → GivesNone e
mark_none (entry.Dropped side) mark = tt
mark_none (entry.Garbled side unit) mark = tt
mark_none (entry.Overrun side) mark = tt
mark_none e mark = absurd mark

put_none : (o : OuterState) (out : ChipOut) → IsNone out → AllByRecursion GivesNone (put_out o out).entries
put_none o (Write Ack) none = absurd none
put_none o (Write Nak) none = (refl, all-weaker IsMark GivesNone mark_none _ (told_by_marks by_chip o.to_host.bytes (mark_for o.to_host.marks Nak) (unit_text Nak)))
put_none o (Write Can) none = (refl, all-weaker IsMark GivesNone mark_none _ (told_by_marks by_chip o.to_host.bytes (mark_for o.to_host.marks Can) (unit_text Can)))
put_none o (Write (Framed f)) none = (refl, all-weaker IsMark GivesNone mark_none _ (told_by_marks by_chip o.to_host.bytes (mark_for o.to_host.marks (Framed f)) (unit_text (Framed f))))
put_none o (OnAir to route payload) none = (tt, tt)
put_none o NoRoute none = tt
put_none o (AskInfo node) none = tt
put_none o Full none = (tt, tt)

pub puts_none : (puts : List ChipOut) (o : OuterState) → AllByRecursion IsNone puts → AllByRecursion GivesNone (each put_out o puts).entries
puts_none [] o none = tt
puts_none (out ∷ puts) o none =
    all-append GivesNone (put_out o out).entries (each put_out (put_out o out).outer puts).entries (put_none o out none.0) (puts_none puts (put_out o out).outer none.1)

pub answered_outs : (s : ChipState) (f : FrameParts) (way : Option Route) → collides s ≡ false → outs s (Judged (Good (Framed f)) way) ≡ Write Ack ∷ requested_outs (asked_of f) (heard s (Good (Framed f))) way
answered_outs s f way free = ap (λ (b : Bool). answer_outs b (Good (Framed f)) ++ judged_outs (passed b (Good (Framed f))) (heard s (Good (Framed f))) way) free

-- what stands behind the answer to a good frame, and what that gives the host
pub record IsAnswered (past told : List Entry) : Type 0 where
  pub rest : List Entry
  pub is : told ≡ answer ∷ rest
  pub none : AllByRecursion GivesNone rest

pub answered_told : (past : List Entry) (p : OuterState) (o : Option Request) (s : ChipState) (way : Option Route) → IsAnswered past (each put_out p (Write Ack ∷ requested_outs o s way)).entries
answered_told past p o s way = record {
  rest = _;
  is = refl;
  none =
      all-append GivesNone _ (each put_out (put_out p (Write Ack)).outer (requested_outs o s way)).entries
      (all-weaker IsMark GivesNone mark_none _ (told_by_marks by_chip p.to_host.bytes (mark_for p.to_host.marks Ack) (unit_text Ack)))
      (puts_none (requested_outs o s way) (put_out p (Write Ack)).outer (requested_is o s way));
}
