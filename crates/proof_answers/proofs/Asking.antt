-- What the chip owes, and which SendData is under way, after the answer to a frame: by the transcript and by what is outside the host.
use Rattle.std.proofs.Common.{◌≡◌, ◌<◌, ℕ, ◌&&◌, not, Bool, true, false, if◌then◌else◌, List, [], ◌∷◌, ◌++◌, filter, map, refl, sym, ap, ap₂, ◌∙◌, subst, append-nil, append_assoc, eq-eqb, arith}
use Rattle.std.proofs.lemmas.Grind.{flat_map-append}
use Rattle.std.proofs.lemmas.List.Elements.{filter-append}
use Rattle.std.specs.Prelude.{Option, Some, None, slice_get}
use Rattle.std.specs.Option.{is_some}
use Rattle.std.specs.List.{AllByRecursion, flat_map}
use Rattle.serial_frame.specs.Frame.{FrameParts}
use Rattle.chip_functions.specs.declared.request.Request.{Request}
use Rattle.chip_functions.specs.declared.request.Request.TheVariants.{SendData, RequestNodeInfo}
use Rattle.chip_functions.specs.declared.notice.TransmitStatus.TheVariants.{NoRoute}
use Rattle.chip_sim.specs.Requests.{asked as asked_of}
use Rattle.chip_sim.specs.Rules.{listed as listed_of}
use Rattle.chip_sim.specs.declared.out.Sending.{Sending as SendingParts}
use Rattle.zw_text.specs.declared.entry.Entry.{Entry}
use Rattle.law_transcript.specs.Lists.{last_or}
use Rattle.law_wire.specs.Asked.{Asked, Course, Sending, acks, asked, asked_at, clock_of, last_sending, sending_after, sending_of}
use Rattle.law_wire.specs.Results.{Called, called, called_at, came_due, ended_at, ended_by, ended_without, is_outward, settled_clock}
use Rattle.outside_model.specs.declared.waits.Call.{Call}
use Rattle.outside_model.specs.declared.waits.Due.{Due}
use Rattle.outside_model.specs.declared.waits.Due.TheVariants.{Info, NoRoute as no_route_due}
use Rattle.outside_model.specs.State.{OuterState}
use Rattle.proof_chip.specs.proof_line.proof_traffic.OutsideTraffic.{flags}
use Rattle.proof_chip.proofs.Airing.{IsNoAck, answer, asked_here, last_answered, none_asked, taken_before}
use Rattle.proof_chip.proofs.Answered.{GivesNone}
use Rattle.proof_chip.proofs.Picking.{shown_both}
use Rattle.proof_chip.proofs.Replying.{none_filtered, settled_same}
use Rattle.proof_chip.proofs.Totals.{IsApartFrom, WasAsked, elsewhere, stays_out, was_asked, none_out}
use Rattle.proof_answers.specs.Owing.{Ends, Informs, Owed, asked_in_tick, dues, has_no_route, informs, is_of_tick, owed_by, owed_in, owed_now, owed_of, unrouted}
use Rattle.proof_answers.proofs.Entering.{none_called, owed_both, owed_same}

-- ---- what is due, with one more

has_info : (due : List Due) (node : ℕ) → has_no_route (due ++ Info node ∷ []) ≡ has_no_route due
has_info [] node = refl
has_info (no_route_due ∷ due) node = refl
has_info (Info other ∷ due) node = has_info due node

has_route : (due : List Due) → has_no_route (due ++ no_route_due ∷ []) ≡ true
has_route [] = refl
has_route (no_route_due ∷ due) = refl
has_route (Info other ∷ due) = has_route due

pub dues_info : (own : List Owed) (ticks : ℕ) (due : List Due) (node : ℕ) → dues own ticks (due ++ Info node ∷ []) ≡ dues own ticks due ++ Informs node ticks ∷ []
dues_info own ticks [] node = refl
dues_info own ticks (Info other ∷ due) node = ap (λ (l : List Owed). Informs other ticks ∷ l) (dues_info own ticks due node)
dues_info own ticks (no_route_due ∷ due) node =
    ap₂ (λ (b : Bool) (l : List Owed). (if b then [] else own) ++ l) (has_info due node) (dues_info own ticks due node)
    ∙ sym (append_assoc (if has_no_route due then [] else own) (dues own ticks due) (Informs node ticks ∷ []))

none_if : (b : Bool) (l : List Owed) → (if b then [] else []) ++ l ≡ l
none_if true l = refl
none_if false l = refl

-- the last result without a route is that one
dues_route : (own : List Owed) (ticks : ℕ) (due : List Due) → dues own ticks (due ++ no_route_due ∷ []) ≡ dues [] ticks due ++ own
dues_route own ticks [] = append-nil own
dues_route own ticks (Info other ∷ due) = ap (λ (l : List Owed). Informs other ticks ∷ l) (dues_route own ticks due)
dues_route own ticks (no_route_due ∷ due) =
    ap₂ (λ (b : Bool) (l : List Owed). (if b then [] else own) ++ l) (has_route due) (dues_route own ticks due)
    ∙ ap (λ (l : List Owed). l ++ own) (sym (none_if (has_no_route due) (dues [] ticks due)))

-- ---- informations alone

abbrev only_informs : List Owed → List Owed
only_informs [] = []
only_informs (Ends one ∷ more) = only_informs more
only_informs (Informs node ticks ∷ more) = Informs node ticks ∷ only_informs more

only_both : (one more : List Owed) → only_informs (one ++ more) ≡ only_informs one ++ only_informs more
only_both [] more = refl
only_both (Ends called ∷ one) more = only_both one more
only_both (Informs node ticks ∷ one) more = ap (λ (l : List Owed). Informs node ticks ∷ l) (only_both one more)

only_ends : (all : List Called) → only_informs (map (λ (one : Called). Ends one) all) ≡ []
only_ends [] = refl
only_ends (one ∷ all) = only_ends all

abbrev pub informs_all : List Asked → List Owed
informs_all all = flat_map (λ (one : Asked). informs (clock_of one.past) one.request) all

only_informed : (ticks : ℕ) (request : Request) → only_informs (informs ticks request) ≡ informs ticks request
only_informed ticks (RequestNodeInfo node) = refl
only_informed ticks request = refl

only_owed : (course : Course) (past : List Entry) (all : List Asked) → only_informs (owed_in course past all) ≡ informs_all all
only_owed course past [] = refl
only_owed course past (one ∷ all) =
    only_both (owed_of course past one) (owed_in course past all)
    ∙ ap₂ (λ (a b : List Owed). a ++ b)
    (only_both (informs (clock_of one.past) one.request) (map (λ (called : Called). Ends called) (ended_without course past one))
    ∙ (ap₂ (λ (a b : List Owed). a ++ b) (only_informed (clock_of one.past) one.request) (only_ends (ended_without course past one)) ∙ append-nil (informs (clock_of one.past) one.request)))
    (only_owed course past all)

only_dues : (all : List Called) (ticks : ℕ) (due : List Due) → only_informs (dues (map (λ (one : Called). Ends one) all) ticks due) ≡ dues [] ticks due
only_dues all ticks [] = refl
only_dues all ticks (Info node ∷ due) = ap (λ (l : List Owed). Informs node ticks ∷ l) (only_dues all ticks due)
only_dues all ticks (no_route_due ∷ due) =
    only_both (if has_no_route due then [] else map (λ (one : Called). Ends one) all) (dues (map (λ (one : Called). Ends one) all) ticks due)
    ∙ (ap₂ (λ (a b : List Owed). a ++ b) (by (has_no_route due)) (only_dues all ticks due) ∙ sym (none_if (has_no_route due) (dues [] ticks due)))
  where
    by : (b : Bool) → only_informs (if b then [] else map (λ (one : Called). Ends one) all) ≡ []
    by true = refl
    by false = only_ends all

-- ---- where other SendData are under way

-- none of them was taken there, or each has its frame
owed_apart : (course : Course) (past : List Entry) (all : List Asked) → AllByRecursion (λ (one : Asked). AllByRecursion (IsApartFrom past one) (last_sending course past)) all → owed_in course past all ≡ informs_all all
owed_apart course past [] apart = refl
owed_apart course past (one ∷ all) apart =
    ap₂ (λ (l : List Sending) (more : List Owed). (informs (clock_of one.past) one.request ++ map (λ (called : Called). Ends called) (ended_by NoRoute l)) ++ more)
    (none_out past one (last_sending course past) apart.0) (owed_apart course past all apart.1)
    ∙ ap (λ (l : List Owed). l ++ informs_all all) (append-nil (informs (clock_of one.past) one.request))

-- ---- the answer

module _ (course : Course) (past tail : List Entry) (f : FrameParts) (passed : slice_get course.passed (acks past) ≡ Some f) (none : AllByRecursion GivesNone tail) (no_ack : AllByRecursion IsNoAck tail) where
  abbrev whole : List Entry
  whole = past ++ answer ∷ tail

  abbrev now : List Asked
  now = map (λ (request : Request). record { request = request; past = past }) (listed_of (asked_of f))

  asked_whole : asked course (past ++ answer ∷ tail) ≡ asked course past ++ map (λ (request : Request). record { request = request; past = past }) (listed_of (asked_of f))
  asked_whole =
      shown_both (asked_at course) [] past (answer ∷ tail)
      ∙ ap (λ (l : List Asked). asked course past ++ (asked_at course past answer ++ l)) (none_asked course tail (past ++ answer ∷ []) no_ack)
      ∙ ap (λ (l : List Asked). asked course past ++ l) (append-nil (asked_at course past answer) ∙ asked_here course past f passed)

  pub last_whole : last_sending course (past ++ answer ∷ tail) ≡ sending_after (last_sending course past) (map (λ (request : Request). record { request = request; past = past }) (listed_of (asked_of f)))
  last_whole = last_answered course past tail f passed no_ack

  no_results : came_due course past answer ≡ []
  no_results = none_filtered (settled_clock past) (settled_clock (past ++ answer ∷ [])) (settled_same past answer tt refl (λ all. refl)) (asked course past)

  pub called_whole : called course (past ++ answer ∷ tail) ≡ called course past ++ ended_at course past answer
  called_whole =
      shown_both (called_at course) [] past (answer ∷ tail)
      ∙ (ap (λ (l : List Called). called course past ++ (called_at course past answer ++ l)) (none_called course tail (past ++ answer ∷ []) none)
      ∙ ap (λ (l : List Called). called course past ++ l)
      (append-nil (called_at course past answer) ∙ (ap (λ (l : List Asked). ended_at course past answer ++ flat_map (ended_without course past) l) no_results ∙ append-nil (ended_at course past answer))))

  -- what was asked in the tick, and what is asked there
  tick_whole : (clock : ℕ) → clock_of past ≡ clock
      → asked_in_tick clock course (past ++ answer ∷ tail) ≡ asked_in_tick clock course past ++ map (λ (request : Request). record { request = request; past = past }) (listed_of (asked_of f))
  tick_whole clock at =
      ap (λ (l : List Asked). filter (is_of_tick clock) l) asked_whole
      ∙ (filter-append (is_of_tick clock) (asked course past) now ∙ ap (λ (l : List Asked). asked_in_tick clock course past ++ l) (all_now (listed_of (asked_of f))))
    where
      all_now : (requests : List Request) → filter (is_of_tick clock) (map (λ (request : Request). record { request = request; past = past }) requests) ≡ map (λ (request : Request). record { request = request; past = past }) requests
      all_now [] = refl
      all_now (request ∷ requests) =
          ap₂ (λ (b : Bool) (l : List Asked). if b then record { request = request; past = past } ∷ l else l) (eq-eqb (clock_of past) clock at) (all_now requests)

  -- ---- what is owed then

  module _ (o p : OuterState) (at : clock_of past ≡ o.clock) (time : p.clock ≡ o.clock) (owes : owed_in course past (asked_in_tick o.clock course past) ≡ owed_now course past o.clock o) where
    abbrev here : List Asked
    here = asked_in_tick o.clock course past

    abbrev last : List Sending
    last = last_sending course past

    informs_here : informs_all (asked_in_tick o.clock course past) ≡ dues [] o.clock o.due
    informs_here = sym (only_owed course past here) ∙ (ap (λ (l : List Owed). only_informs l) owes ∙ only_dues (unrouted last o.chip.state.sending o.calls) o.clock o.due)

    asked_both : owed_in course whole (asked_in_tick p.clock course whole) ≡ owed_in course whole (asked_in_tick o.clock course past) ++ owed_in course whole now
    asked_both = ap (λ (n : ℕ). owed_in course whole (asked_in_tick n course whole)) time ∙ (ap (λ (l : List Asked). owed_in course whole l) (tick_whole o.clock at) ∙ owed_both course whole here now)

    informs_both : informs_all (asked_in_tick o.clock course past ++ now) ≡ informs_all (asked_in_tick o.clock course past) ++ informs_all now
    informs_both = flat_map-append (λ (one : Asked). informs (clock_of one.past) one.request) here now

    -- what was taken before was not taken there
    apart_one : (sendings : List Sending) (one : Asked) → one.past ≡ past → AllByRecursion (λ (s : Sending). s.place < acks past) sendings → AllByRecursion (IsApartFrom whole one) sendings
    apart_one [] one is before = tt
    apart_one (s ∷ sendings) one is before =
        (elsewhere whole one s (λ same. let below = before.0 in let there = ap acks is in omega (arith, same, below, there)), apart_one sendings one is before.1)

    apart_now : (requests : List Request) (sendings : List Sending) → AllByRecursion (λ (s : Sending). s.place < acks past) sendings
        → AllByRecursion (λ (one : Asked). AllByRecursion (IsApartFrom whole one) sendings) (map (λ (request : Request). record { request = request; past = past }) requests)
    apart_now [] sendings before = tt
    apart_now (request ∷ requests) sendings before = (apart_one sendings (record { request = request; past = past }) refl before, apart_now requests sendings before)

    module _ (extra : List Due) (more : List Owed) (grows : (own : List Owed) → dues own o.clock (o.due ++ extra) ≡ dues own o.clock o.due ++ more)
        (informed : informs_all (map (λ (request : Request). record { request = request; past = past }) (listed_of (asked_of f))) ≡ more) (due : p.due ≡ o.due ++ extra) where
      -- the same SendData is under way
      pub same_owes : (outward : (number : ℕ) → is_outward (past ++ answer ∷ tail) number ≡ is_outward past number)
          → sending_after (last_sending course past) (map (λ (request : Request). record { request = request; past = past }) (listed_of (asked_of f))) ≡ last_sending course past
          → p.chip.state.sending ≡ o.chip.state.sending → p.calls ≡ o.calls
          → owed_in course (past ++ answer ∷ tail) (asked_in_tick p.clock course (past ++ answer ∷ tail)) ≡ owed_now course (past ++ answer ∷ tail) p.clock p
      same_owes outward stays sending calls =
          let last_same : last_sending course whole ≡ last = last_whole ∙ stays in
          asked_both
          ∙ (ap₂ (λ (a b : List Owed). a ++ b) (owed_same course past whole last_same outward here ∙ owes)
          (owed_apart course whole now (subst (λ (l : List Sending). AllByRecursion (λ (one : Asked). AllByRecursion (IsApartFrom whole one) l) now) (sym last_same) (apart_now (listed_of (asked_of f)) last (taken_before course past))) ∙ informed)
          ∙ (sym (grows (map (λ (one : Called). Ends one) (unrouted last o.chip.state.sending o.calls)))
          ∙ sym (ap₂ (λ (l : List Sending) (n : ℕ). owed_by l p.chip.state.sending p.calls n p.due) last_same time
          ∙ (ap₂ (λ (x : Option SendingParts) (c : List Call). owed_by last x c o.clock p.due) sending calls ∙ ap (λ (d : List Due). owed_by last o.chip.state.sending o.calls o.clock d) due))))

      no_sendings : (all : List Asked) → AllByRecursion (λ (one : Asked). AllByRecursion (IsApartFrom whole one) []) all
      no_sendings [] = tt
      no_sendings (one ∷ all) = (tt, no_sendings all)

      -- none is
      pub none_owes : sending_after (last_sending course past) (map (λ (request : Request). record { request = request; past = past }) (listed_of (asked_of f))) ≡ [] → p.chip.state.sending ≡ None
          → owed_in course (past ++ answer ∷ tail) (asked_in_tick p.clock course (past ++ answer ∷ tail)) ≡ owed_now course (past ++ answer ∷ tail) p.clock p
      none_owes stays sending =
          let last_none : last_sending course whole ≡ [] = last_whole ∙ stays in
          ap (λ (n : ℕ). owed_in course whole (asked_in_tick n course whole)) time
          ∙ (ap (λ (l : List Asked). owed_in course whole l) (tick_whole o.clock at)
          ∙ (owed_apart course whole (here ++ now) (subst (λ (l : List Sending). AllByRecursion (λ (one : Asked). AllByRecursion (IsApartFrom whole one) l) (here ++ now)) (sym last_none) (no_sendings (here ++ now)))
          ∙ (informs_both
          ∙ (ap₂ (λ (a b : List Owed). a ++ b) informs_here informed
          ∙ (sym (grows [])
          ∙ sym (ap₂ (λ (x : Option SendingParts) (n : ℕ). owed_by (last_sending course whole) x p.calls n p.due) sending time ∙ ap (λ (d : List Due). dues [] o.clock d) due))))))

    -- ---- a SendData is taken there

    module _ (node : ℕ) (payload : List ℕ) (options id : ℕ) (is : asked_of f ≡ Some (SendData node payload options id)) (last_new : last_sending course (past ++ answer ∷ tail) ≡ sending_of past node payload id ∷ []) where
      abbrev new : Sending
      new = sending_of past node payload id

      now_is : map {B = Asked} (λ (request : Request). record { request = request; past = past }) (listed_of (asked_of f)) ≡ record { request = SendData node payload options id; past = past } ∷ []
      now_is = ap (λ (r : Option Request). map {B = Asked} (λ (request : Request). record { request = request; past = past }) (listed_of r)) is

      earlier : (all : List Asked) → AllByRecursion (WasAsked (acks past)) all → AllByRecursion (λ (one : Asked). AllByRecursion (IsApartFrom whole one) (new ∷ [])) all
      earlier [] before = tt
      earlier (one ∷ all) before = ((elsewhere whole one new (λ same. let below = before.0 in omega (arith, same, below)), tt), earlier all before.1)

      kept : (all : List Asked) → AllByRecursion (WasAsked (acks past)) all → AllByRecursion (WasAsked (acks past)) (filter (is_of_tick o.clock) all)
      kept [] before = tt
      kept (one ∷ all) before = by (is_of_tick o.clock one) (kept all before.1)
        where
          by : (b : Bool) → AllByRecursion (WasAsked (acks past)) (filter (is_of_tick o.clock) all) → AllByRecursion (WasAsked (acks past)) (if b then one ∷ filter (is_of_tick o.clock) all else filter (is_of_tick o.clock) all)
          by true rest = (before.0, rest)
          by false rest = rest

      here_before : AllByRecursion (WasAsked (acks past)) (asked_in_tick o.clock course past)
      here_before = kept (asked course past) (was_asked course past)

      owed_here : owed_in course whole (asked_in_tick o.clock course past) ≡ dues [] o.clock o.due
      owed_here =
          owed_apart course whole here (subst (λ (l : List Sending). AllByRecursion (λ (one : Asked). AllByRecursion (IsApartFrom whole one) l) here) (sym last_new) (earlier here here_before)) ∙ informs_here

      -- without a way its result is due
      pub unrouted_owes : is_outward (past ++ answer ∷ tail) (sending_of past node payload id).frame ≡ false → (parts : SendingParts) → p.chip.state.sending ≡ Some parts → last_or false (flags p.calls) ≡ false → p.due ≡ o.due ++ no_route_due ∷ []
          → owed_in course (past ++ answer ∷ tail) (asked_in_tick p.clock course (past ++ answer ∷ tail)) ≡ owed_now course (past ++ answer ∷ tail) p.clock p
      unrouted_owes out parts sending call due =
          let over : List Owed = Ends (record { sending = new; status = NoRoute }) ∷ [] in
          asked_both
          ∙ (ap₂ (λ (a b : List Owed). a ++ b) owed_here
          (ap (λ (l : List Asked). owed_in course whole l) now_is
          ∙ (ap (λ (l : List Sending). map (λ (called : Called). Ends called) (ended_by NoRoute (filter (stays_out whole (record { request = SendData node payload options id; past = past })) l)) ++ []) last_new
          ∙ ap₂ (λ (a b : Bool). map (λ (called : Called). Ends called) (ended_by NoRoute (if a && not b then new ∷ [] else [])) ++ []) (eq-eqb (acks past) (acks past) refl) out))
          ∙ (sym (dues_route over o.clock o.due)
          ∙ sym (ap₂ (λ (l : List Sending) (n : ℕ). owed_by l p.chip.state.sending p.calls n p.due) last_new time
          ∙ (ap₂ (λ (x : Option SendingParts) (b : Bool). dues (map (λ (one : Called). Ends one) (if is_some x && not b then ended_by NoRoute (new ∷ []) else [])) o.clock p.due) sending call
          ∙ ap (λ (d : List Due). dues over o.clock d) due))))

      -- with a way it is on the air
      pub routed_owes : is_outward (past ++ answer ∷ tail) (sending_of past node payload id).frame ≡ true → (parts : SendingParts) → p.chip.state.sending ≡ Some parts → last_or false (flags p.calls) ≡ true → p.due ≡ o.due
          → owed_in course (past ++ answer ∷ tail) (asked_in_tick p.clock course (past ++ answer ∷ tail)) ≡ owed_now course (past ++ answer ∷ tail) p.clock p
      routed_owes out parts sending call due =
          asked_both
          ∙ (ap₂ (λ (a b : List Owed). a ++ b) owed_here
          (ap (λ (l : List Asked). owed_in course whole l) now_is
          ∙ (ap (λ (l : List Sending). map (λ (called : Called). Ends called) (ended_by NoRoute (filter (stays_out whole (record { request = SendData node payload options id; past = past })) l)) ++ []) last_new
          ∙ ap₂ (λ (a b : Bool). map (λ (called : Called). Ends called) (ended_by NoRoute (if a && not b then new ∷ [] else [])) ++ []) (eq-eqb (acks past) (acks past) refl) out))
          ∙ (append-nil (dues [] o.clock o.due)
          ∙ sym (ap₂ (λ (l : List Sending) (n : ℕ). owed_by l p.chip.state.sending p.calls n p.due) last_new time
          ∙ (ap₂ (λ (x : Option SendingParts) (b : Bool). dues (map (λ (one : Called). Ends one) (if is_some x && not b then ended_by NoRoute (new ∷ []) else [])) o.clock p.due) sending call
          ∙ ap (λ (d : List Due). dues [] o.clock d) due))))
