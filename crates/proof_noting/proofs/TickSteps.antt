-- Each part of the host's own tick: the course goes on with it. Where the tick begins nothing is noted, and where it is over nothing is due.
use Rattle.host_heard.specs.declared.told.Told.{Told}
use Rattle.host_model.specs.After.{after, failing_if, gives_up, line_ticked, requests_do}
use Rattle.host_model.specs.Did.{after_all}
use Rattle.host_model.specs.Ends.{after_end_if, end_entries_if}
use Rattle.host_model.specs.Events.{HostEvent, Line_ticks, Node_ticks, Requests_do}
use Rattle.host_model.specs.Outs.{copy_out, failing_entries, noted, request_entries}
use Rattle.host_model.specs.State.{HostState}
use Rattle.host_model.specs.Ticking.{first_ticks}
use Rattle.host_node.specs.declared.attempt.Moment.TheVariants.{BeforeItsTick}
use Rattle.host_requests.specs.Events.RequestsEvent.{Fails as request_fails, Ticks as request_ticks}
use Rattle.host_requests.specs.Next.{at_tick, counted_down, end_from, end_of, next_from, on_with, went_on}
use Rattle.host_requests.specs.State.{RequestsState}
use Rattle.host_requests.specs.declared.end.End.{End}
use Rattle.host_requests.specs.declared.end.How.{How}
use Rattle.host_requests.specs.declared.end.How.TheVariants.{LinkFailed, Silent}
use Rattle.host_requests.specs.declared.next.Next.{Next}
use Rattle.host_requests.specs.declared.next.Next.TheVariants.{Ends as ends_so, GoesOn}
use Rattle.host_requests.specs.declared.under_way.Progress.{Progress}
use Rattle.host_requests.specs.declared.under_way.UnderWay.{UnderWay}
use Rattle.law_time.specs.Heeds.{Heeds}
use Rattle.law_time.specs.Judged.{acknowledged}
use Rattle.law_time.specs.Requests.{Failing, are_none, asked, is_new}
use Rattle.law_time.specs.Unanswered.{to_give_up}
use Rattle.law_transcript.specs.Lists.{Has}
use Rattle.law_transcript.specs.Units.{Carried}
use Rattle.proof_hearing.proofs.EndsTold.{given_up_at, silent_at}
use Rattle.proof_hearing.proofs.ReadyTie.{asked_of, ground_of}
use Rattle.proof_hearing.proofs.Ticking.{nodes_rest, none_gone}
use Rattle.proof_hearing.proofs.proof_ends_Walking.{carries_by, ticks_ascend}
use Rattle.proof_hearing.specs.proof_choice.proof_following.Ended.{IsLate, rest_of}
use Rattle.proof_hearing.specs.proof_choice.proof_following.Quiet.{NoneGone}
use Rattle.proof_hearing.proofs.Line.{failing_few, few_is}
use Rattle.proof_hearing.proofs.Requesting.{requests_are}
use Rattle.proof_hearing.proofs.proof_queue_Stepping.{first_same, left_same}
use Rattle.proof_hearing.proofs.Ticked.{unended}
use Rattle.proof_hearing.proofs.Wrote.{paused_old}
use Rattle.proof_hearing.proofs.proof_attempts_Walking.{IsWritten, copy_line, line_outs}
use Rattle.proof_hearing.proofs.proof_requests_EndsHere.{cannot_end}
use Rattle.proof_hearing.proofs.Beginning.{uses_nonces}
use Rattle.proof_hearing.proofs.KeptAwake.{noted_told}
use Rattle.proof_hearing.specs.Hearing.{choosing}
use Rattle.proof_hearing.specs.proof_queue.proof_attempts.Asleep.{TicksNode}
use Rattle.proof_hearing.specs.proof_queue.proof_attempts.proof_requests.Asking.{IsPaused, TieAsked, TieLine, doing_of}
use Rattle.proof_hearing.specs.proof_queue.proof_attempts.proof_requests.Standing.{Standing, failing_in, giving_up_in, standing_of}
use Rattle.proof_hearing.specs.proof_queue.proof_attempts.proof_requests.Walking.{BeforeTick, HalfTick, IsNodeTick, IsTied, KnowsTick}
use Rattle.proof_hearing.specs.proof_queue.proof_attempts.proof_requests.law_host.Course.{Course, Heeding}
use Rattle.proof_hearing.specs.proof_queue.proof_attempts.proof_requests.law_host.Heard.{heeds_alone}
use Rattle.proof_hearing.specs.proof_queue.proof_attempts.proof_requests.law_host.HostLegal.{IsHeeded}
use Rattle.proof_hearing.specs.proof_queue.proof_attempts.proof_requests.law_host.Nonces.{UsesNonces}
use Rattle.proof_hearing.specs.proof_queue.proof_attempts.proof_requests.law_host.Ticks.{is_denied, nodes_in_order}
use Rattle.proof_hearing.specs.proof_queue.proof_attempts.proof_requests.proof_alone.Phases.{May, Phase, Risen, Ticking}
use Rattle.proof_hearing.specs.proof_queue.proof_attempts.proof_requests.proof_alone.State.{HostMachine, done}
use Rattle.proof_hearing.specs.proof_queue.proof_attempts.proof_requests.proof_alone.Steps.{AreFrames, AreTold, Does}
use Rattle.proof_noting.specs.Following.{Outset, course_since}
use Rattle.proof_noting.proofs.Fitted.{before_last, fits_by, follows_fit, uses_same}
use Rattle.proof_noting.proofs.Followed.{follows_by}
use Rattle.proof_noting.proofs.Quietly.{in_order_nodes, none_ticked}
use Rattle.proof_noting.proofs.TickChosen.{ticking}
use Rattle.proof_noting.proofs.TickGround.{TickGround, TickLaws, falls_quiet, nodes_idle, tick_frames, tick_numbered, tick_time, ticks_ground}
use Rattle.proof_noting.proofs.TickLines.{after_fails, copy_goes, idle_never, none_goes, none_some, side_books}
use Rattle.proof_noting.proofs.TickNodes.{node_none, node_some}
use Rattle.proof_noting.proofs.TickNoted.{nothing_told, still_some}
use Rattle.proof_noting.proofs.TickRequests.{end_goes}
use Rattle.proof_noting.specs.Behind.{AtOpen}
use Rattle.proof_noting.specs.Ground.{NotingGround}
use Rattle.proof_noting.specs.Noting.{KnowsCourse}
use Rattle.proof_noting.specs.Steps.{Fitting, StepFollows, TurnFollows, first_of}
use Rattle.proof_hearing.specs.proof_choice.proof_ends.Ascending.{Ascends}
use Rattle.proof_noting.specs.Ticking.{IsIdleAt, NoneNoted, SomeNoted, TickSo}
use Rattle.proof_noting.specs.Ticking.TickSo.{Nothing, Something}
use Rattle.serial_frame.specs.Frame.{FrameParts}
use Rattle.serial_frame.specs.Items.{unit_text}
use Rattle.serial_frame.specs.declared.unit.Unit.TheVariants.{Framed}
use Rattle.serial_link.specs.State.{pause_after, turn_ticked}
use Rattle.serial_link.specs.declared.turn.Turn.{Turn}
use Rattle.serial_link.specs.declared.turn.Turn.TheVariants.{Copied, Idle, Paused}
use Rattle.std.proofs.Common.{Bool, List, None, Option, Some, [], ap, append_assoc, ap₂, arith, false, if◌then◌else◌, inl, inr, not, refl, subst, sym, true, ℕ, ◌&&◌, ◌++◌, ◌+◌, ◌==◌, ◌∙◌, ◌∷◌, ◌≡◌}
use Rattle.std.proofs.lemmas.Bool.{and_right}
use Rattle.std.specs.List.{AllByRecursion, list_any}
use Rattle.std.specs.Prelude.{is_none, nat_le}
use Rattle.zw_text.specs.declared.entry.Entry.{Entry}
use Rattle.zw_words.specs.declared.side.Side.TheVariants.{Host}
use Rattle.zw_text.specs.declared.entry.Entry.TheVariants as entry

busy_keeps : (f : FrameParts) (copies ticks : ℕ) (b : Bool) → gives_up (Paused f copies ticks) (if b then Copied f (copies + 1) 0 else Paused f copies (ticks + 1)) ≡ false
busy_keeps f copies ticks true = refl
busy_keeps f copies ticks false = refl

late_how : (o : Option Progress) (how : How) → on_with o ≡ ends_so how → IsLate how
late_how (Some progress) how is = absurd (cannot_end progress how is)
late_how None how is = let same : Silent ≡ how = cc in subst IsLate same tt

-- what stands behind others stands there
has_later : (front back : List ℕ) (k : ℕ) → Has back k → Has (front ++ back) k
has_later [] back k has = has
has_later (j ∷ front) back k has = inr (has_later front back k has)

no_more : (noted more : List Entry) → noted ++ more ≡ noted → more ≡ []
no_more [] more is = is
no_more (e ∷ noted) more is = no_more noted more (let tails : noted ++ more ≡ noted = cc in tails)

-- ---- the line

module _ (key : List ℕ) (taken : List Entry → Carried → List Told) (from : Outset) (left : List HostEvent) (past told : List Entry) (m : HostMachine) (s : TickGround taken Line_ticks left past told m)
    (nodes : List HostEvent)
    (left_is : left ≡ Requests_do request_ticks BeforeItsTick ∷ nodes) (before : BeforeTick past m) (known : NoneNoted key taken from past m) (above : Ascends 0 left) where
  abbrev h : HostState
  h = m.state

  abbrev lined : HostState
  lined = line_ticked m.state

  abbrev r : Option (List (List ℕ))
  r = (done m Line_ticks).records

  abbrev Goal : HostState → Type 0
  Goal g = TickSo key taken from (past ++ told) (record m { state = g; records = r }) left

  frames : AreFrames m.came
  frames = tick_frames taken Line_ticks left past told m s

  as_host : (b : Bool) → gives_up h.side.turn (turn_ticked h.side.turn) ≡ b → Goal (failing_if b lined) → TickSo key taken from (past ++ told) (done m Line_ticks) left
  as_host b is goal = subst Goal (sym (after_fails h b is)) goal

  still : told ≡ [] → Goal lined
  still none = none_goes key taken from left past told m known lined.side h.requests r refl refl (λ is. is) none above

  fails : gives_up h.side.turn (turn_ticked h.side.turn) ≡ true → told ≡ failing_entries true lined → Goal (failing_if true lined)
  fails gives are = by h.requests.under_way refl
    where
      by : (o : Option UnderWay) → h.requests.under_way ≡ o → Goal (failing_if true lined)
      by None is =
          subst Goal
          (sym (ap (λ (o : Option UnderWay). after_end_if (record lined { requests = next_from h.requests (λ u. ends_so LinkFailed) o }) (end_from (λ u. ends_so LinkFailed) o) BeforeItsTick) is))
          (still (are ∙ ap (λ (o : Option UnderWay). end_entries_if (requests_do lined request_fails) (end_from (λ u. ends_so LinkFailed) o)) is))
      by (Some u) is =
          let ends = ap (λ (o : Option UnderWay). end_from (λ u. ends_so LinkFailed) o) is in
          let over = ap (λ (o : Option UnderWay). (next_from h.requests (λ u. ends_so LinkFailed) o).under_way) is in
          end_goes key taken from Line_ticks left past told m s known lined.side request_fails tt u.purpose u.progress is LinkFailed tt ends over
          (carries_by past before.before before.before m.came (doing_of h) u is before.tie) (unended past before.before before.before m.came (doing_of h) u is before.tie) r
          (are ∙ ap (λ (o : Option End). end_entries_if (requests_do lined request_fails) o) ends)
          (λ some. given_up_at past m left u (ground_of (Ticking (Line_ticks ∷ left)) past m s.ground.grounds, asked_of (Ticking (Line_ticks ∷ left)) past m s.ground.grounds)
          (tick_time taken Line_ticks left past told m s some) is gives)
          above
          (subst (λ (l : List HostEvent). IsIdleAt l (record m { state = failing_if true lined; records = r })) (sym left_is)
          (ap (λ (q : RequestsState). q.under_way) (requests_are lined request_fails BeforeItsTick) ∙ over))

  no_copy : (b : Bool) → gives_up h.side.turn (turn_ticked h.side.turn) ≡ b → told ≡ failing_entries b lined → TickSo key taken from (past ++ told) (done m Line_ticks) left
  no_copy false is are = as_host false is (still are)
  no_copy true is are = as_host true is (fails is are)

  -- at a copy no answer has had the line give it up
  undenied_so : (f : FrameParts) (copies ticks : ℕ) → h.side.turn ≡ Paused f copies ticks → is_denied past ≡ false
  undenied_so f copies ticks is = by before.tie
    where
      by : TieAsked past before.before before.before m.came (doing_of h) → is_denied past ≡ false
      by (inl nothing) = idle_never h.side.turn f copies ticks nothing.idle is
      by (inr (was, asks)) =
          let x : Standing = standing_of (asked past) in
          let line : IsPaused x before.before (acknowledged past) m.came f copies = subst (λ (t : Turn). TieLine x before.before (acknowledged past) m.came t) is asks.line in
          let none : failing_in x ≡ [] = failing_few x (few_is x.copies (let are = line.copies_are in let few = line.few in omega (arith, are, few))) in
          and_right (not (are_none (giving_up_in x))) (list_any (λ one. one.at_answer && nat_le one.frames (acknowledged past)) (failing_in x))
          (ap (λ (l : List Failing). list_any (λ one. one.at_answer && nat_le one.frames (acknowledged past)) l) none)

  copies_it : (f : FrameParts) (copies ticks : ℕ) → h.side.turn ≡ Paused f copies ticks → (ticks + 1 == pause_after copies) ≡ true → AreTold (line_outs h (Paused f copies ticks)) told
      → TickSo key taken from (past ++ told) (done m Line_ticks) left
  copies_it f copies ticks is due are =
      let written : IsWritten (unit_text (Framed f)) told = copy_line h f copies ticks told due are in
      let old : is_new (asked past) (unit_text (Framed f)) ≡ false
      = paused_old (Ticking (Line_ticks ∷ left)) past told m before.before frames before.tie f copies ticks is in
      let some : told ≡ [] → ⊥ = λ none. let bad : entry.Written Host (unit_text (Framed f)) ∷ written.rest ≡ [] = sym written.are ∙ none in cc in
      as_host false (ap (λ (t : Turn). gives_up t (turn_ticked t)) is ∙ busy_keeps f copies ticks (ticks + 1 == pause_after copies))
      (Nothing above
      (subst (λ (l : List Entry). NoneNoted key taken from (past ++ l) (record m { state = lined; records = r })) (sym written.are)
      (copy_goes key taken from left past told m known (unit_text (Framed f)) written.rest refl refl old written.marks (undenied_so f copies ticks is) lined r (tick_numbered taken Line_ticks left past told m s some)
      (λ d books. side_books key taken from left past told m known lined.side h.requests refl (past ++ entry.Written Host (unit_text (Framed f)) ∷ written.rest) d books) refl
      (falls_quiet h lined (λ n falls. falls)))))

  line_by : (turn : Turn) → h.side.turn ≡ turn → AreTold (line_outs h turn) told → TickSo key taken from (past ++ told) (done m Line_ticks) left
  line_by Idle is are = no_copy false (ap (λ (t : Turn). gives_up t (turn_ticked t)) is) are
  line_by (Copied f copies ticks) is are =
      let gives : Bool = gives_up (Copied f copies ticks) (turn_ticked (Copied f copies ticks)) in
      no_copy gives (ap (λ (t : Turn). gives_up t (turn_ticked t)) is) (noted_told (failing_entries gives lined) told are)
  line_by (Paused f copies ticks) is are = by (ticks + 1 == pause_after copies) refl are
    where
      by : (b : Bool) → (ticks + 1 == pause_after copies) ≡ b
          → AreTold (copy_out (if b then Some f else None) ++ noted (failing_entries (gives_up (Paused f copies ticks) (if b then Copied f (copies + 1) 0 else Paused f copies (ticks + 1))) lined)) told
          → TickSo key taken from (past ++ told) (done m Line_ticks) left
      by true due now =
          copies_it f copies ticks is due
          (subst (λ (b : Bool). AreTold (copy_out (if b then Some f else None)
          ++ noted (failing_entries (gives_up (Paused f copies ticks) (if b then Copied f (copies + 1) 0 else Paused f copies (ticks + 1))) lined)) told) (sym due) now)
      by false due now = no_copy false (ap (λ (t : Turn). gives_up t (turn_ticked t)) is ∙ busy_keeps f copies ticks (ticks + 1 == pause_after copies)) now

  pub line_goes : TickSo key taken from (past ++ told) (done m Line_ticks) left
  line_goes = line_by h.side.turn refl s.told_so

-- ---- the request under way

module _ (key : List ℕ) (taken : List Entry → Carried → List Told) (from : Outset) (left : List HostEvent) (past told : List Entry) (m : HostMachine)
    (s : TickGround taken (Requests_do request_ticks BeforeItsTick) left past told m) (all : AllByRecursion IsNodeTick left) (half : HalfTick past m) where
  abbrev asking : HostState
  asking = m.state

  abbrev ticks_it : HostEvent
  ticks_it = Requests_do request_ticks BeforeItsTick

  abbrev kept_then : Option (List (List ℕ))
  kept_then = (done m (Requests_do request_ticks BeforeItsTick)).records

  abbrev Reaches : HostState → Type 0
  Reaches g = TickSo key taken from (past ++ told) (record m { state = g; records = kept_then }) left

  told_is : told ≡ request_entries asking request_ticks
  told_is = noted_told (request_entries asking request_ticks) told s.told_so

  by_way : (o : Option UnderWay) → asking.requests.under_way ≡ o
      → after asking ticks_it ≡ after_end_if (record m.state { requests = next_from asking.requests at_tick o }) (end_from at_tick o) BeforeItsTick
  by_way o is = ap (λ (o : Option UnderWay). after_end_if (record m.state { requests = next_from asking.requests at_tick o }) (end_from at_tick o) BeforeItsTick) is

  told_by : (o : Option UnderWay) → asking.requests.under_way ≡ o → told ≡ end_entries_if (requests_do asking request_ticks) (end_from at_tick o)
  told_by o is = told_is ∙ ap (λ (o : Option UnderWay). end_entries_if (requests_do asking request_ticks) (end_from at_tick o)) is

  pub request_some : SomeNoted key taken from past m (Requests_do request_ticks BeforeItsTick ∷ left) → SomeNoted key taken from (past ++ told) (done m (Requests_do request_ticks BeforeItsTick)) left
  request_some t =
      nothing_told (λ (l : List Entry). SomeNoted key taken from l (done m ticks_it) left) past told (told_by None t.idle)
      (subst (λ (g : HostState). SomeNoted key taken from past (record m { state = g; records = kept_then }) left) (sym (by_way None t.idle))
      (still_some key taken from past m asking kept_then ticks_it left t t.above t.over (nodes_idle left (record m { state = asking; records = kept_then }) all) t.books))

  pub request_none : NoneNoted key taken from past m → Ascends 0 left → TickSo key taken from (past ++ told) (done m (Requests_do request_ticks BeforeItsTick)) left
  request_none known above = by asking.requests.under_way refl
    where
      by_next : (u : UnderWay) → asking.requests.under_way ≡ Some u → (n : Next) → at_tick u ≡ n → Reaches (after asking ticks_it)
      by_next u is (GoesOn progress) same =
          subst Reaches
          (sym (by_way (Some u) is ∙ ap (λ (n : Next). after_end_if (record m.state { requests = went_on asking.requests u n }) (end_of u n) BeforeItsTick) same))
          (none_goes key taken from left past told m known asking.side (went_on asking.requests u (GoesOn progress)) kept_then refl (sym (ap (λ (o : Option UnderWay). is_none o) is))
          (λ none. none_some asking.requests.under_way u none is) (told_by (Some u) is ∙ ap (λ (n : Next). end_entries_if (requests_do asking request_ticks) (end_of u n)) same) above)
      by_next u is (ends_so how) same =
          let ends = ap (λ (o : Option UnderWay). end_from at_tick o) is ∙ ap (λ (n : Next). end_of u n) same in
          let over = ap (λ (o : Option UnderWay). (next_from asking.requests at_tick o).under_way) is ∙ ap (λ (n : Next). (went_on asking.requests u n).under_way) same in
          end_goes key taken from ticks_it left past told m s known asking.side request_ticks tt u.purpose u.progress is how (late_how (counted_down u.progress) how same) ends over
          (carries_by past m.clock half.before m.came (doing_of asking) u is half.tie) (unended past m.clock half.before m.came (doing_of asking) u is half.tie) kept_then
          (told_is ∙ ap (λ (o : Option End). end_entries_if (requests_do asking request_ticks) o) ends)
          (λ some. silent_at past m left u how (asked_of (Ticking (ticks_it ∷ left)) past m s.ground.grounds) (tick_time taken ticks_it left past told m s some) is same) above
          (nodes_idle left (record m { state = after asking ticks_it; records = kept_then }) all)

      by : (o : Option UnderWay) → asking.requests.under_way ≡ o → Reaches (after asking ticks_it)
      by None is = subst Reaches (sym (by_way None is)) (none_goes key taken from left past told m known asking.side asking.requests kept_then refl refl (λ none. none) (told_by None is) above)
      by (Some u) is = by_next u is (at_tick u) refl

-- ---- each of them

module _ (key : List ℕ) (taken : List Entry → Carried → List Told) (from : Outset) (laws : TickLaws key taken) where
  abbrev heeds : Heeds
  heeds = heeds_alone taken

  module _ (left : List HostEvent) (past told : List Entry) (m : HostMachine) where
    line_event : TickGround taken Line_ticks left past told m → (nodes : List HostEvent) → left ≡ Requests_do request_ticks BeforeItsTick ∷ nodes → BeforeTick past m
        → TickSo key taken from past m (Line_ticks ∷ left) → TickSo key taken from (past ++ told) (done m Line_ticks) left
    line_event s nodes is before (Nothing above known) = line_goes key taken from left past told m s nodes is before known above
    line_event s nodes is before (Something t) = absurd t.idle

    request_event : TickGround taken (Requests_do request_ticks BeforeItsTick) left past told m → AllByRecursion IsNodeTick left → HalfTick past m
        → TickSo key taken from past m (Requests_do request_ticks BeforeItsTick ∷ left) → TickSo key taken from (past ++ told) (done m (Requests_do request_ticks BeforeItsTick)) left
    request_event s all half (Nothing above known) = request_none key taken from left past told m s all half known above
    request_event s all half (Something t) = Something (request_some key taken from left past told m s all half t)

    node_event : (one : HostEvent) → IsNodeTick one → TicksNode one → TickGround taken one left past told m → AllByRecursion IsNodeTick left → IsTied past m
        → TickSo key taken from past m (one ∷ left) → TickSo key taken from (past ++ told) (done m one) left
    node_event (Node_ticks n) node is s all tie (Nothing above known) = node_none key taken from n left past told m s is all tie known above
    node_event (Node_ticks n) node is s all tie (Something t) = Something (node_some key taken from n left past told m s is all tie t)
    node_event one node is s all tie known = absurd node

    tick_by : (first : HostEvent) → TickGround taken first left past told m → KnowsTick (first ∷ left) past m → TickSo key taken from past m (first ∷ left) → TickSo key taken from (past ++ told) (done m first) left
    tick_by first s (inl (nodes, these, all, before)) known =
        subst (λ (f : HostEvent). TickGround taken f left past told m → TickSo key taken from past m (f ∷ left) → TickSo key taken from (past ++ told) (done m f) left)
        (sym (first_same first Line_ticks left (Requests_do request_ticks BeforeItsTick ∷ nodes) these))
        (λ s known. line_event s nodes (left_same first Line_ticks left (Requests_do request_ticks BeforeItsTick ∷ nodes) these) before known) s known
    tick_by first s (inr (inl (nodes, these, all, half))) known =
        subst (λ (f : HostEvent). TickGround taken f left past told m → TickSo key taken from past m (f ∷ left) → TickSo key taken from (past ++ told) (done m f) left)
        (sym (first_same first (Requests_do request_ticks BeforeItsTick) left nodes these))
        (λ s known. request_event s (subst (AllByRecursion IsNodeTick) (sym (left_same first (Requests_do request_ticks BeforeItsTick) left nodes these)) all) half known) s known
    tick_by first s (inr (inr (all, tie))) known = node_event first all.0 s.ground.grounds.sleep.1.1.0 s all.1 tie known

  pub tick_step : (left : List HostEvent) (next : Phase) (past told : List Entry) (m : HostMachine) (one : HostEvent) → StepFollows key taken from (Ticking left) past m (Does one told) next
  tick_step [] next past told m one sure well may known = absurd may.0
  tick_step (first ∷ left) next past told m one sure well may known =
      subst (λ (o : HostEvent). May (Ticking (first ∷ left)) m (Does o told) next → KnowsCourse key taken from (first_of key) next (past ++ told) (done m o)) (sym may.0.0)
      (subst (λ (n : Phase). May (Ticking (first ∷ left)) m (Does first told) n → KnowsCourse key taken from (first_of key) n (past ++ told) (done m first)) (sym may.0.1)
      (λ may.
      let s : TickGround taken first left past told m = ticks_ground key taken laws first left past told m sure may in
      tick_by left past told m first s (asked_of (Ticking (first ∷ left)) past m s.ground.grounds) known)) may

  -- ---- it begins

  pub tick_begins : (next : Phase) (past : List Entry) (m : HostMachine) → TurnFollows key taken from Risen next past m
  tick_begins next past m sure well turns known =
      subst (λ (n : Phase). KnowsCourse key taken from (first_of key) n past m) (sym turns) (Nothing (ticks_ascend (after_all m.state first_ticks)) known)

  -- ---- it is over

  module _ (past : List Entry) (m : HostMachine) (ground : NotingGround taken (Ticking []) past m) (s : SomeNoted key taken from past m []) where
    tied : KnowsTick [] past m → IsTied past m
    tied (inl (nodes, these, all, before)) = absurd (let bad : [] ≡ Line_ticks ∷ Requests_do request_ticks BeforeItsTick ∷ nodes = these in cc)
    tied (inr (inl (nodes, these, all, half))) = absurd (let bad : [] ≡ Requests_do request_ticks BeforeItsTick ∷ nodes = these in cc)
    tied (inr (inr (all, tie))) = tie

    tie : IsTied past m
    tie = tied (asked_of (Ticking []) past m ground.grounds)

    there : s.start ++ s.mid.due ≡ past
    there = ap (λ (l : List Entry). s.start ++ l) s.due ∙ sym s.are

    none_left : (front rest : List ℕ) → nodes_in_order s.start ≡ front ++ rest → NoneGone heeds m.clock (s.start ++ s.mid.due) rest
    none_left front [] are = tt
    none_left front (n ∷ rest) are =
        let range = in_order_nodes s.start n (subst (λ (l : List ℕ). Has l n) (sym are) (has_later front (n ∷ rest) n (inl refl))) in (
          ap (λ (l : List Entry). to_give_up heeds l m.clock n) there ∙ none_ticked taken [] past m ground tie s.frames ground.counts n range.0 range.1 refl,
          none_left (front ++ n ∷ []) rest (are ∙ sym (append_assoc front (n ∷ []) rest)),
        )

    abbrev course : Course
    course = record s.mid { due = [] }

    is_so : (keepings : List Bool) (texts : List (Option (List ℕ)))
        → course_since heeds from s.heard (record { keepings = s.kept ++ keepings; texts = s.opened ++ texts }) ≡ choosing keepings texts course
    is_so keepings texts =
        let (more, due_is, course_is) = s.is keepings texts in
        let same = none_gone heeds s.start m.clock s.rest (choosing keepings texts s.mid) (none_left s.front s.rest s.nodes) in
        let nothing : more ≡ [] = no_more s.noted more (sym due_is ∙ ap (λ (d : Course). d.due) same ∙ s.due) in
        course_is ∙ ap₂ (λ (d : Course) (l : List Entry). record d { due = l }) same nothing

    some_over : AtOpen key taken from past m
    some_over = record {
      course = course;
      of = record { heard = s.heard; split = s.split; kept = s.kept; opened = s.opened; is = is_so };
      follows = follows_by key taken past m course s.fits refl (let at = s.ticked in omega (arith, at)) s.heeded s.numbered s.over s.books;
      answered = inl s.frames;
    }

  tick_over : (past : List Entry) (m : HostMachine) → NotingGround taken (Ticking []) past m → TickSo key taken from past m [] → AtOpen key taken from past m
  tick_over past m ground (Nothing above known) = record { course = known.course; of = known.of; follows = known.follows; answered = inl known.frames }
  tick_over past m ground (Something s) = some_over past m ground s

  pub tick_ends : (left : List HostEvent) (next : Phase) (past : List Entry) (m : HostMachine) → TurnFollows key taken from (Ticking left) next past m
  tick_ends [] next past m sure well turns known =
      subst (λ (n : Phase). KnowsCourse key taken from (first_of key) n past m) (sym turns) (tick_over past m (laws.along (Ticking []) past m sure) known)
  tick_ends (first ∷ left) next past m sure well turns known = absurd turns

-- ---- it fits

module _ (key : List ℕ) (taken : List Entry → Carried → List Told) (from : Outset) (past : List Entry) (m : HostMachine) (left : List HostEvent) where
  some_fits : SomeNoted key taken from past m left → Fitting key taken from past
  some_fits s =
      let (more, due_is, course_is) = s.is [] [] in
      let d : Course = ticking (heeds_alone taken) s.start m.clock s.rest (choosing [] [] s.mid) in
      let same : rest_of d ≡ rest_of (choosing [] [] s.mid) = nodes_rest (heeds_alone taken) s.start m.clock s.rest (choosing [] [] s.mid) in
      let uses : UsesNonces key s.books.drawn s.mid = uses_nonces key (heeds_alone taken) past m.state s.mid s.books in
      fits_by key taken from past s.heard s.split (record { keepings = s.kept ++ []; texts = s.opened ++ [] }) (record d { due = more }) course_is (ap (λ (c : Course). c.fits) same ∙ s.fits)
      (before_last (IsHeeded taken) d.heeded (subst (λ (l : List Heeding). AllByRecursion (IsHeeded taken) l) (sym (ap (λ (c : Course). c.heeded) same)) s.heeded)) s.books.drawn
      (uses_same key s.books.drawn (record d { due = more }) s.mid (sym (ap (λ (c : Course). c.offered) same)) (sym (ap (λ (c : Course). c.opened) same)) (sym (ap (λ (c : Course). c.sealed) same)) uses)

  pub tick_fits : TickSo key taken from past m left → Fitting key taken from past
  tick_fits (Nothing above known) = follows_fit key taken from past m known.course known.of known.follows
  tick_fits (Something s) = some_fits s
