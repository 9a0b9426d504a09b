-- The chip judges items of the host: a payload is taken to be sent, one is given up, or nothing of that.
use Rattle.std.proofs.Common.{◌≡◌, ℕ, ◌+◌, ◌<◌, inl, inr, Bool, true, false, Option, Some, None, List, [], ◌∷◌, ◌++◌, length, map, refl, ap, sym, subst, ◌∙◌, arith, append-nil, append_assoc}
use Rattle.std.specs.Prelude.{◌&&◌, ◌||◌, nat_lt, Result, Ok, Err, drop}
use Rattle.std.specs.Option.{is_some}
use Rattle.std.specs.List.{remove}
use Rattle.std.proofs.lemmas.List.{get_or_past, map-append}
use Rattle.std.proofs.lemmas.Bool.{cases_lt}
use Rattle.serial_frame.specs.Frame.{FrameParts}
use Rattle.serial_frame.specs.declared.frame.Kind.{Kind}
use Rattle.serial_frame.specs.declared.frame.Kind.TheVariants.{Request as of_request, Response as of_response}
use Rattle.serial_frame.specs.declared.item.Item.{Item}
use Rattle.serial_frame.specs.declared.item.Item.TheVariants.{Good, Refused}
use Rattle.serial_frame.specs.declared.unit.Unit.TheVariants.{Ack, Nak, Can, Framed}
use Rattle.route_table.specs.declared.route.Route.{Route}
use Rattle.chip_functions.specs.declared.fault.BodyFault.{BodyFault}
use Rattle.chip_functions.specs.declared.add_node.AddMode.{AddMode}
use Rattle.chip_functions.specs.declared.request.Request.{Request}
use Rattle.chip_functions.specs.declared.request.Request.TheVariants.{GetInitData, GetCapabilities, SendData, GetVersion, SendDataAbort, MemoryGetId, GetNodeProtocolInfo, AddNode, RequestNodeInfo, IsFailedNode, GetRoutingInfo}
use Rattle.chip_functions.specs.Request.{request_of, request_function}
use Rattle.chip_sim.specs.declared.out.ChipOut.{ChipOut}
use Rattle.chip_sim.specs.declared.out.Sending.{Sending}
use Rattle.chip_sim.specs.Answers.{takes, is_idle}
use Rattle.chip_sim.specs.Nodes.{is_marked}
use Rattle.chip_sim.specs.State.{ChipState}
use Rattle.chip_sim.specs.Requests.{passed, answer_outs, read_of, asked_by, asked, given_if, given_outs, reply_to, sent, performed, performed_outs, heard}
use Rattle.chip_sim.specs.Did.{judged_all}
use Rattle.chip_sim.specs.Events.{Judged, collides, after, outs}
use Rattle.air_frames.specs.declared.frame.Departure.{Departure}
use Rattle.air_frames.specs.declared.frame.Heading.{Heading}
use Rattle.air_frames.specs.declared.frame.Heading.TheVariants.{Outward}
use Rattle.air_frames.specs.Flown.{Flown}
use Rattle.air_frames.specs.Frames.{FramesState, putting}
use Rattle.air_frames.specs.History.{Mark, Goes as goes_mark}
use Rattle.proof_traffic.specs.Flights.{Fly, flown_now}
use Rattle.proof_device.specs.outside_model.declared.waits.Due.TheVariants.{NoRoute as no_route_due}
use Rattle.proof_device.specs.outside_model.declared.waits.Call.{Call}
use Rattle.proof_device.specs.outside_model.declared.waits.Call.TheVariants.{OfFrame, NoRoute as no_route_call}
use Rattle.proof_device.specs.outside_model.State.{OuterState, with_chip, each}
use Rattle.proof_device.specs.outside_model.Chip.{put_out, chip_does}
use Rattle.proof_traffic.specs.Requests.{Word, Send, Abort, Traffic, Step, judged}
use Rattle.proof_traffic.specs.Requests as course
use Rattle.proof_traffic.specs.Facts.{flying_in}
use Rattle.proof_traffic.specs.HostTraffic.{word_of}
use Rattle.proof_traffic.specs.OutsideTraffic.{words_of, words_all, of_frame, flags, one_outward, outward, without_frame, Follows, HostStays, Goes}
use Rattle.proof_traffic.proofs.Functions.{function_of_read}
use Rattle.proof_traffic.proofs.Mild.{AreMild, mild-append, each_mild, each-append, no_routes-append, given_mild, served_mild, answer_mild, queued_mild, SameChip, follows_untouched, does_mild}

-- ---- a frame that is judged is on its way no longer

-- how a history goes on when frames go on the air
abbrev pub Flying : Type 0
Flying = (log : List Mark) (flights : List Flown) (frames : FramesState) (departure : Departure) → departure.node < 233 → Fly log flights frames →
    Fly (log ++ goes_mark departure ∷ []) (flights ++ flown_now log departure ∷ []) (putting frames departure)

-- the same history
same_log : (t : Traffic) (log : List Mark) (flights : List Flown) (o : OuterState) → Follows t log flights o → Follows t (log ++ []) flights o
same_log t log flights o f = subst (λ (l : List Mark). Follows t l flights o) (sym (append-nil log)) f

-- nothing but that happens
goes_mildly : (t : Traffic) (log : List Mark) (flights : List Flown) (o : OuterState) (item : Item) (rest : List Word) → t.up ≡ words_of item ++ rest → Follows t log flights o → Goes t log flights o rest
goes_mildly t log flights o item rest is f = by item is
  where
    nothing : t.up ≡ rest → Goes t log flights o rest
    nothing e = record { steps = []; may = tt; more = []; now = flights; follows = same_log t log flights o f; up_is = e; host = record { link = refl; pending = refl; owes = refl } }

    lost : (word : Word) → t.up ≡ word ∷ rest → Goes t log flights o rest
    lost word e = record {
      steps = course.Loses 0 ∷ [];
      may = (tt, tt);
      more = [];
      now = flights;
      follows = same_log (course.after t (course.Loses 0)) log flights o (record { knows = record { aborted = f.knows.aborted; sending = f.knows.sending; calls = f.knows.calls }; await = f.await; fly = f.fly; joined = f.joined });
      up_is = ap (λ (up : List Word). remove up 0) e;
      host = record { link = refl; pending = refl; owes = refl };
    }

    by : (item : Item) → t.up ≡ words_of item ++ rest → Goes t log flights o rest
    by (Good Ack) e = nothing e
    by (Good Nak) e = nothing e
    by (Good Can) e = nothing e
    by (Good (Framed f)) e = lost (word_of f.func) e
    by (Refused refusal) e = nothing e

-- ---- what a request does

-- the chip with an answer is the same chip
given_same : (s : ChipState) (reply : Option FrameParts) → SameChip s (given_if s reply)
given_same s None = record { aborted = refl; sending = refl; joined = refl }
given_same s (Some f) = record { aborted = refl; sending = refl; joined = refl }

-- a request that sends nothing and gives nothing up
data IsPlain : Request → Type 0 where
  Init : IsPlain GetInitData
  Capable : IsPlain GetCapabilities
  Version : IsPlain GetVersion
  Memory : IsPlain MemoryGetId
  Protocol : (n : ℕ) → IsPlain (GetNodeProtocolInfo n)
  Adds : (mode : AddMode) (id : ℕ) → IsPlain (AddNode mode id)
  Asks : (n : ℕ) → IsPlain (RequestNodeInfo n)
  Fails : (n : ℕ) → IsPlain (IsFailedNode n)
  Routes : (n x y z : ℕ) → IsPlain (GetRoutingInfo n x y z)

plain_same : (request : Request) (s : ChipState) → IsPlain request → SameChip s (performed request s)
plain_same request s Init = record { aborted = refl; sending = refl; joined = refl }
plain_same request s Capable = record { aborted = refl; sending = refl; joined = refl }
plain_same request s Version = record { aborted = refl; sending = refl; joined = refl }
plain_same request s Memory = record { aborted = refl; sending = refl; joined = refl }
plain_same request s (Protocol n) = record { aborted = refl; sending = refl; joined = refl }
plain_same request s (Adds mode id) = record { aborted = refl; sending = refl; joined = refl }
plain_same request s (Asks n) = record { aborted = refl; sending = refl; joined = refl }
plain_same request s (Fails n) = record { aborted = refl; sending = refl; joined = refl }
plain_same request s (Routes n x y z) = record { aborted = refl; sending = refl; joined = refl }

plain_mild : (request : Request) (s : ChipState) (way : Option Route) → IsPlain request → AreMild (performed_outs request s way)
plain_mild request s way Init = tt
plain_mild request s way Capable = tt
plain_mild request s way Version = tt
plain_mild request s way Memory = tt
plain_mild request s way (Protocol n) = tt
plain_mild request s way (Adds mode id) = tt
plain_mild request s way (Asks n) = (tt, tt)
plain_mild request s way (Fails n) = tt
plain_mild request s way (Routes n x y z) = tt

same_both : (a b c : ChipState) → SameChip a b → SameChip b c → SameChip a c
same_both a b c first later = record { aborted = later.aborted ∙ first.aborted; sending = later.sending ∙ first.sending; joined = later.joined ∙ first.joined }

heard_same : (s : ChipState) (item : Item) → SameChip s (heard s item)
heard_same s item = record { aborted = refl; sending = refl; joined = refl }

-- ---- the word of a frame that the chip reads

asked_function : (f : FrameParts) (request : Request) → asked f ≡ Some request → f.func ≡ request_function request
asked_function f request e = by f.kind e
  where
    read : (r : Result Request BodyFault) → request_of f.func f.body ≡ r → read_of r ≡ Some request → f.func ≡ request_function request
    read (Ok found) is same = function_of_read f.func f.body request (is ∙ ap (λ (x : Request). Ok x) (grind (arith, same)))
    read (Err fault) is same = absurd (grind (arith, same))

    by : (kind : Kind) → asked_by kind f.func f.body ≡ Some request → f.func ≡ request_function request
    by of_request same = read (request_of f.func f.body) refl same
    by of_response same = absurd (grind (arith, same))

-- the frame that the link passes up is the item
pub passed_item : (b : Bool) (item : Item) (f : FrameParts) → passed b item ≡ Some f → item ≡ Good (Framed f)
passed_item true item f e = absurd (grind (arith, e))
passed_item false (Good Ack) f e = absurd (grind (arith, e))
passed_item false (Good Nak) f e = absurd (grind (arith, e))
passed_item false (Good Can) f e = absurd (grind (arith, e))
passed_item false (Good (Framed g)) f e = ap (λ (x : FrameParts). Good (Framed x)) (grind (arith, e))
passed_item false (Refused refusal) f e = absurd (grind (arith, e))

-- ---- one item

module _ (flying : Flying) (t : Traffic) (log : List Mark) (flights : List Flown) (o : OuterState) (item : Item) (way : Option Route) (rest : List Word) (f : Follows t log flights o) (is : t.up ≡ words_of item ++ rest) where
  -- the chip, and what it has heard
  abbrev s : ChipState
  s = o.chip.state

  abbrev hs : ChipState
  hs = heard o.chip.state item

  -- an event that touches no payload under way
  calmly : SameChip s (after s (Judged item way)) → AreMild (outs s (Judged item way)) → Goes t log flights (chip_does o (Judged item way)).outer rest
  calmly same mild = goes_mildly t log flights (chip_does o (Judged item way)).outer item rest is (does_mild t log flights o (Judged item way) same mild f)

  not_passed : passed (collides s) item ≡ None → Goes t log flights (chip_does o (Judged item way)).outer rest
  not_passed e =
      calmly (rw e (record { aborted = refl; sending = refl; joined = refl }))
      (rw e (mild-append (answer_outs (collides s) item) _ (answer_mild (collides s) item) (served_mild hs.port)))

  no_request : (g : FrameParts) → passed (collides s) item ≡ Some g → asked g ≡ None → Goes t log flights (chip_does o (Judged item way)).outer rest
  no_request g e a =
      calmly (rw e (rw a (record { aborted = refl; sending = refl; joined = refl })))
      (rw e (rw a (mild-append (answer_outs (collides s) item) [] (answer_mild (collides s) item) tt)))

  plain_request : (g : FrameParts) (request : Request) → passed (collides s) item ≡ Some g → asked g ≡ Some request → IsPlain request → Goes t log flights (chip_does o (Judged item way)).outer rest
  plain_request g request e a plain =
      calmly
      (rw e (rw a (same_both s (given_if hs (reply_to hs request)) (performed request (given_if hs (reply_to hs request)))
      (same_both s hs (given_if hs (reply_to hs request)) (heard_same s item) (given_same hs (reply_to hs request))) (plain_same request (given_if hs (reply_to hs request)) plain))))
      (rw e (rw a (mild-append (answer_outs (collides s) item) (given_outs hs (reply_to hs request) ++ performed_outs request hs way) (answer_mild (collides s) item)
      (mild-append (given_outs hs (reply_to hs request)) (performed_outs request hs way) (given_mild hs (reply_to hs request)) (plain_mild request hs way plain)))))

  -- ---- a payload is given up

  up_is : (g : FrameParts) → passed (collides s) item ≡ Some g → t.up ≡ word_of g.func ∷ rest
  up_is g e = is ∙ ap (λ (i : Item). words_of i ++ rest) (passed_item (collides s) item g e)

  -- the course knows the chip at another moment
  follows_then : (u : Traffic) → u.aborted ≡ (after s (Judged item way)).aborted → u.sending ≡ is_some (after s (Judged item way)).sending → u.calls ≡ flags o.calls
      → length (after s (Judged item way)).joined ≡ length s.joined → Follows u log flights (with_chip o (after s (Judged item way)))
  follows_then u aborted sending calls joined = record {
    knows = record { aborted = aborted; sending = sending; calls = calls };
    await = record { frames = f.await.frames; results = f.await.results };
    fly = f.fly;
    joined = joined ∙ f.joined;
  }

  stops : (g : FrameParts) (sending : Option Sending) → s.sending ≡ sending → passed (collides s) item ≡ Some g → asked g ≡ Some SendDataAbort → Goes t log flights (chip_does o (Judged item way)).outer rest
  unfolding chip_does
  stops g None idle e a =
      calmly (rw e (rw a (rw idle (record { aborted = refl; sending = refl; joined = refl })))) (rw e (rw a (rw idle (mild-append (answer_outs (collides s) item) [] (answer_mild (collides s) item) tt))))
  stops g (Some sending) busy e a =
      let u : Traffic = course.after t course.Stops in
      let word : word_of g.func ≡ Abort = ap word_of (asked_function g SendDataAbort a) in
      let moved : Follows u log flights (with_chip o (after s (Judged item way))) =
      follows_then u (ap (λ (n : ℕ). n + 1) f.knows.aborted ∙ sym (rw e (rw a (rw busy refl)))) (sym (rw e (rw a (rw busy refl)))) f.knows.calls (rw e (rw a (rw busy refl))) in
      let mild : AreMild (outs s (Judged item way)) =
      rw e (rw a (rw busy (mild-append (answer_outs (collides s) item) _ (answer_mild (collides s) item) (mild-append _ [] (queued_mild hs.port _) tt)))) in
      record {
        steps = course.Stops ∷ [];
        may = (((rest, up_is g e ∙ ap (λ (w : Word). w ∷ rest) word), f.knows.sending ∙ ap is_some busy), tt);
        more = [];
        now = flights;
        follows = same_log u log flights _ (follows_untouched u log flights (with_chip o (after s (Judged item way))) _ (each_mild (with_chip o (after s (Judged item way))) (outs s (Judged item way)) mild) moved);
        up_is = ap (drop 1) (up_is g e);
        host = record { link = refl; pending = refl; owes = refl };
      }

  -- ---- a payload is taken to be sent

  -- the node of a payload that is taken has a place in the tables
  joined_within : (n : ℕ) → is_marked s.joined n ≡ true → n < 233
  joined_within n marked = elim (cases_lt n (length s.joined)) [
    | inl within ↦ let all : length s.joined ≡ 233 = f.joined in omega arith
    | inr past ↦ let none : is_marked s.joined n ≡ false = get_or_past s.joined n false past in absurd (grind (arith, sym none ∙ marked))
  ]

  -- it goes on the air, over a route, or waits for the result that there is none
  abbrev flies_by : Option Route → Bool
  flies_by None = false
  flies_by (Some route) = true

  abbrev departs : ℕ → Route → List ℕ → OuterState → Departure
  departs n route payload p = record { node = n; heading = Outward; route = route; lost = nat_lt 0 p.air.losing || false; payload = payload }

  one_more : (flights : List Flown) (flight : Flown) → flight.heading ≡ Outward → outward (flights ++ flight ∷ []) ≡ outward flights + 1
  one_more [] flight out = ap (λ (h : Heading). one_outward h + 0) out
  one_more (first ∷ flights) flight out = let later : outward (flights ++ flight ∷ []) ≡ outward flights + 1 = one_more flights flight out in omega arith

  flying_more : (calls : List Bool) → flying_in (calls ++ true ∷ []) ≡ flying_in calls + 1
  flying_more [] = refl
  flying_more (call ∷ calls) = let later : flying_in (calls ++ true ∷ []) ≡ flying_in calls + 1 = flying_more calls in omega arith

  flying_same : (calls : List Bool) → flying_in (calls ++ false ∷ []) ≡ flying_in calls
  flying_same [] = refl
  flying_same (call ∷ calls) = let later : flying_in (calls ++ false ∷ []) ≡ flying_in calls = flying_same calls in omega arith

  without_more : (calls : List Bool) → without_frame (calls ++ false ∷ []) ≡ without_frame calls + 1
  without_more [] = refl
  without_more (call ∷ calls) = let later : without_frame (calls ++ false ∷ []) ≡ without_frame calls + 1 = without_more calls in omega arith

  without_same : (calls : List Bool) → without_frame (calls ++ true ∷ []) ≡ without_frame calls
  without_same [] = refl
  without_same (call ∷ calls) = let later : without_frame (calls ++ true ∷ []) ≡ without_frame calls = without_same calls in omega arith

  flags_more : (calls : List Call) (call : Call) → flags (calls ++ call ∷ []) ≡ flags calls ++ of_frame call ∷ []
  flags_more calls call = map-append of_frame calls (call ∷ [])

  record Flown_off (u : Traffic) (p : OuterState) (flies : Bool) : Type 0 where
    more : List Mark
    now : List Flown
    follows : Follows (record u { calls = u.calls ++ flies ∷ [] }) (log ++ more) now p

  sent_off : (u : Traffic) (p : OuterState) (n : ℕ) (payload : List ℕ) (way : Option Route) → n < 233 → Follows u log flights p → Flown_off u (each put_out p (sent n payload way)).outer (flies_by way)
  sent_off u p n payload None within g = record {
    more = [];
    now = flights;
    follows = subst (λ (l : List Mark). Follows (record u { calls = u.calls ++ false ∷ [] }) l flights (each put_out p (sent n payload None)).outer) (sym (append-nil log))
        (record {
          knows = record { aborted = g.knows.aborted; sending = g.knows.sending; calls = ap (λ (c : List Bool). c ++ false ∷ []) g.knows.calls ∙ sym (flags_more p.calls no_route_call) };
          await = record {
            frames = g.await.frames ∙ sym (flying_same (flags p.calls)) ∙ ap flying_in (sym (flags_more p.calls no_route_call));
            results = no_routes-append p.due (no_route_due ∷ []) ∙ ap (λ (k : ℕ). k + 1) g.await.results ∙ sym (without_more (flags p.calls)) ∙ ap without_frame (sym (flags_more p.calls no_route_call));
          };
          fly = g.fly;
          joined = g.joined;
        });
  }
  sent_off u p n payload (Some route) within g = record {
    more = goes_mark (departs n route payload p) ∷ [];
    now = flights ++ flown_now log (departs n route payload p) ∷ [];
    follows = record {
      knows = record { aborted = g.knows.aborted; sending = g.knows.sending; calls = ap (λ (c : List Bool). c ++ true ∷ []) g.knows.calls ∙ sym (flags_more p.calls OfFrame) };
      await = record {
        frames = one_more flights (flown_now log (departs n route payload p)) refl ∙ ap (λ (k : ℕ). k + 1) g.await.frames ∙ sym (flying_more (flags p.calls)) ∙ ap flying_in (sym (flags_more p.calls OfFrame));
        results = g.await.results ∙ sym (without_same (flags p.calls)) ∙ ap without_frame (sym (flags_more p.calls OfFrame));
      };
      fly = flying log flights p.air.frames (departs n route payload p) within g.fly;
      joined = g.joined;
    };
  }

  and_first : (a b : Bool) → (a && b) ≡ true → a ≡ true
  and_first true b e = refl
  and_first false b e = e

  and_second : (a b : Bool) → (a && b) ≡ true → b ≡ true
  and_second true b e = e
  and_second false b e = absurd (grind (arith, e))

  idle_none : (sending : Option Sending) → is_idle sending ≡ true → is_some sending ≡ false
  idle_none None e = refl
  idle_none (Some x) e = absurd (grind (arith, e))

  takes_it : (g : FrameParts) (n : ℕ) (payload : List ℕ) (options id : ℕ) → takes s n payload ≡ true → passed (collides s) item ≡ Some g → asked g ≡ Some (SendData n payload options id)
      → Goes t log flights (chip_does o (Judged item way)).outer rest
  unfolding chip_does
  takes_it g n payload options id took e a =
      let p : OuterState = with_chip o (after s (Judged item way)) in
      let u : Traffic = record (judged t) { sending = true } in
      let idle : is_some s.sending ≡ false = idle_none s.sending (and_first (is_idle s.sending) _ took) in
      let word : word_of g.func ≡ Send = ap word_of (asked_function g (SendData n payload options id) a) in
      let moved : Follows u log flights p =
      follows_then u (f.knows.aborted ∙ sym (rw e (rw a (rw took refl)))) (sym (rw e (rw a (rw took refl)))) f.knows.calls (rw e (rw a (rw took refl))) in
      let prefix : List ChipOut = answer_outs (collides s) item ++ given_outs hs (reply_to hs (SendData n payload options id)) in
      let outs_are : outs s (Judged item way) ≡ prefix ++ sent n payload way =
      (rw e (rw a (rw took refl))) ∙ sym (append_assoc (answer_outs (collides s) item) (given_outs hs (reply_to hs (SendData n payload options id))) (sent n payload way)) in
      let mild : AreMild prefix = mild-append (answer_outs (collides s) item) (given_outs hs (reply_to hs (SendData n payload options id))) (answer_mild (collides s) item) (given_mild hs (reply_to hs (SendData n payload options id))) in
      let before : OuterState = (each put_out p prefix).outer in
      let ready : Follows u log flights before = follows_untouched u log flights p before (each_mild p prefix mild) moved in
      let off : Flown_off u (each put_out before (sent n payload way)).outer (flies_by way) = sent_off u before n payload way (joined_within n (and_first (is_marked s.joined n) _ (and_second (is_idle s.sending) _ took))) ready in
      let same : (each put_out p (outs s (Judged item way))).outer ≡ (each put_out before (sent n payload way)).outer = ap (λ (os : List ChipOut). (each put_out p os).outer) outs_are ∙ each-append p prefix (sent n payload way) in
      record {
        steps = course.Takes (flies_by way) ∷ [];
        may = (((rest, up_is g e ∙ ap (λ (w : Word). w ∷ rest) word), f.knows.sending ∙ idle), tt);
        more = off.more;
        now = off.now;
        follows = subst (λ (q : OuterState). Follows (course.after t (course.Takes (flies_by way))) (log ++ off.more) off.now q) (sym same) off.follows;
        up_is = ap (drop 1) (up_is g e);
        host = record { link = refl; pending = refl; owes = refl };
      }

  leaves_it : (g : FrameParts) (n : ℕ) (payload : List ℕ) (options id : ℕ) → takes s n payload ≡ false → passed (collides s) item ≡ Some g → asked g ≡ Some (SendData n payload options id)
      → Goes t log flights (chip_does o (Judged item way)).outer rest
  leaves_it g n payload options id left e a =
      calmly (rw e (rw a (rw left (record { aborted = refl; sending = refl; joined = refl }))))
      (rw e (rw a (rw left (mild-append (answer_outs (collides s) item) _ (answer_mild (collides s) item) (mild-append _ [] (queued_mild hs.port _) tt)))))

  by_request : (g : FrameParts) (request : Request) → passed (collides s) item ≡ Some g → asked g ≡ Some request → Goes t log flights (chip_does o (Judged item way)).outer rest
  by_request g GetInitData e a = plain_request g GetInitData e a Init
  by_request g GetCapabilities e a = plain_request g GetCapabilities e a Capable
  by_request g (SendData n payload options id) e a = by (takes s n payload) refl
    where
      by : (took : Bool) → takes s n payload ≡ took → Goes t log flights (chip_does o (Judged item way)).outer rest
      by true took = takes_it g n payload options id took e a
      by false left = leaves_it g n payload options id left e a
  by_request g GetVersion e a = plain_request g GetVersion e a Version
  by_request g SendDataAbort e a = stops g s.sending refl e a
  by_request g MemoryGetId e a = plain_request g MemoryGetId e a Memory
  by_request g (GetNodeProtocolInfo n) e a = plain_request g (GetNodeProtocolInfo n) e a (Protocol n)
  by_request g (AddNode mode id) e a = plain_request g (AddNode mode id) e a (Adds mode id)
  by_request g (RequestNodeInfo n) e a = plain_request g (RequestNodeInfo n) e a (Asks n)
  by_request g (IsFailedNode n) e a = plain_request g (IsFailedNode n) e a (Fails n)
  by_request g (GetRoutingInfo n x y z) e a = plain_request g (GetRoutingInfo n x y z) e a (Routes n x y z)

  by_frame : (g : FrameParts) (request : Option Request) → passed (collides s) item ≡ Some g → asked g ≡ request → Goes t log flights (chip_does o (Judged item way)).outer rest
  by_frame g None e a = no_request g e a
  by_frame g (Some request) e a = by_request g request e a

  by_passed : (g : Option FrameParts) → passed (collides s) item ≡ g → Goes t log flights (chip_does o (Judged item way)).outer rest
  by_passed None e = not_passed e
  by_passed (Some g) e = by_frame g (asked g) e refl

  pub judged_goes : Goes t log flights (chip_does o (Judged item way)).outer rest
  judged_goes = by_passed (passed (collides s) item) refl

-- ---- items, one after another

pub steps-append : (t : Traffic) (a b : List Step) → course.after_all t (a ++ b) ≡ course.after_all (course.after_all t a) b
steps-append t [] b = refl
steps-append t (step ∷ a) b = steps-append (course.after t step) a b

pub may-append : (t : Traffic) (a b : List Step) → course.MayAll t a → course.MayAll (course.after_all t a) b → course.MayAll t (a ++ b)
may-append t [] b first later = later
may-append t (step ∷ a) b first later = (first.0, may-append (course.after t step) a b first.1 later)

-- one thing goes on from where another led
pub goes_on : (t : Traffic) (log : List Mark) (flights : List Flown) (o p : OuterState) (mid rest : List Word) (first : Goes t log flights o mid)
    → Goes (course.after_all t first.steps) (log ++ first.more) first.now p rest → Goes t log flights p rest
goes_on t log flights o p mid rest first later = record {
  steps = first.steps ++ later.steps;
  may = may-append t first.steps later.steps first.may later.may;
  more = first.more ++ later.more;
  now = later.now;
  follows = subst (λ (x : Traffic). Follows x (log ++ (first.more ++ later.more)) later.now p) (sym (steps-append t first.steps later.steps))
      (subst (λ (l : List Mark). Follows (course.after_all (course.after_all t first.steps) later.steps) l later.now p) (append_assoc log first.more later.more) later.follows);
  up_is = ap (λ (x : Traffic). x.up) (steps-append t first.steps later.steps) ∙ later.up_is;
  host = subst (λ (x : Traffic). HostStays t x) (sym (steps-append t first.steps later.steps))
      (record { link = later.host.link ∙ first.host.link; pending = later.host.pending ∙ first.host.pending; owes = later.host.owes ∙ first.host.owes });
}

pub items_go : (flying : Flying) (t : Traffic) (log : List Mark) (flights : List Flown) (o : OuterState) (ways : List (Item × Option Route)) (rest : List Word)
    → Follows t log flights o → t.up ≡ words_all (map (λ w. w.0) ways) ++ rest → Goes t log flights (each chip_does o (judged_all ways)).outer rest
items_go flying t log flights o [] rest f is =
    record { steps = []; may = tt; more = []; now = flights; follows = same_log t log flights o f; up_is = is; host = record { link = refl; pending = refl; owes = refl } }
items_go flying t log flights o (way ∷ ways) rest f is =
    let later : List Word = words_all (map (λ w. w.0) ways) ++ rest in
    let first : Goes t log flights (chip_does o (Judged way.0 way.1)).outer later = judged_goes flying t log flights o way.0 way.1 later f (is ∙ append_assoc (words_of way.0) (words_all (map (λ w. w.0) ways)) rest) in
    goes_on t log flights (chip_does o (Judged way.0 way.1)).outer (each chip_does o (judged_all (way ∷ ways))).outer later rest first
    (items_go flying (course.after_all t first.steps) (log ++ first.more) first.now (chip_does o (Judged way.0 way.1)).outer ways rest first.follows first.up_is)
