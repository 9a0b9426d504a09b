-- In a tick the line counts, then the request, then each node that has a wait: and each node stays tied to its attempts, at its own time.
use Rattle.std.proofs.Common.{◌≡◌, ℕ, ◌+◌, ◌-◌, ◌≤◌, ◌==◌, ◌||◌, Bool, true, false, if◌then◌else◌, inl, inr, List, [], ◌∷◌, ◌++◌, map, Option, Some, None, refl, sym, ap, ◌∙◌, subst, append_assoc, arith}
use Rattle.std.specs.Prelude.{nat_lt}
use Rattle.std.specs.List.{AllByRecursion}
use Rattle.std.proofs.lemmas.Bool.{both_ways, eq-eqb, eqb-true, false_from_ne_true, ltb-false, or_right}
use Rattle.std.proofs.lemmas.Slice.Eq.{bytes_eq-Decides}
use Rattle.zw_base.proofs.Each.{all-weaker}
use Rattle.serial_frame.specs.Frame.{FrameParts}
use Rattle.serial_frame.specs.Items.{unit_text}
use Rattle.serial_frame.specs.declared.unit.Unit.{Unit as LineUnit}
use Rattle.serial_frame.specs.declared.unit.Unit.TheVariants.{Framed}
use Rattle.serial_link.specs.State.{copy_due, pause_after, turn_ticked}
use Rattle.serial_link.specs.declared.turn.Turn.{Turn}
use Rattle.serial_link.specs.declared.turn.Turn.TheVariants.{Idle, Copied, Paused}
use Rattle.zw_words.specs.declared.side.Side.TheVariants.{Host}
use Rattle.zw_text.specs.declared.entry.Entry.{Entry}
use Rattle.zw_text.specs.declared.entry.Entry.TheVariants as entry
use Rattle.zw_text.specs.Transcript.{folded}
use Rattle.host_heard.specs.declared.told.Told.{Told}
use Rattle.law_transcript.specs.Units.{Carried}
use Rattle.law_time.specs.Attempts.{Attempts, ends_badly}
use Rattle.law_time.specs.Ends.{is_abort_frame}
use Rattle.law_time.specs.Heeds.{Heeds}
use Rattle.law_time.specs.Judged.{acknowledged, is_data}
use Rattle.law_time.specs.Moments.{clock}
use Rattle.law_time.specs.Requests.{Asked, asked, is_new}
use Rattle.host_requests.specs.Events.{end_at}
use Rattle.host_requests.specs.Events.RequestsEvent.{Fails, Ticks}
use Rattle.host_requests.specs.Next.{at_tick, counted_down, on_with}
use Rattle.host_requests.specs.State.{RequestsState}
use Rattle.host_requests.specs.declared.end.How.{How}
use Rattle.host_requests.specs.declared.end.How.TheVariants.{LinkFailed, Silent}
use Rattle.host_requests.specs.declared.next.Next.TheVariants.{Ends}
use Rattle.host_requests.specs.declared.under_way.Progress.{Progress}
use Rattle.host_requests.specs.declared.task.Purpose.{Purpose}
use Rattle.host_requests.specs.declared.task.Purpose.TheVariants.{Attempt}
use Rattle.host_requests.specs.declared.under_way.UnderWay.{UnderWay}
use Rattle.host_node.specs.declared.attempt.Moment.TheVariants.{BeforeItsTick}
use Rattle.host_node.specs.declared.series.Series.TheVariants.{Running}
use Rattle.host_node.specs.State.{NodeState, needs_tick}
use Rattle.host_node.specs.Steps.{tick_end}
use Rattle.host_model.specs.State.{HostState, node_of}
use Rattle.host_model.specs.Sessions.{open_command}
use Rattle.host_model.specs.After.{after, failing_if, gives_up, line_ticked}
use Rattle.host_model.specs.Ends.{Bad, attempt_entries, part_end}
use Rattle.host_model.specs.Events.{HostEvent, Line_ticks, Node_ticks, Requests_do}
use Rattle.host_model.specs.Facts.{HostFacts}
use Rattle.host_model.specs.Outs.{failing_entries, noted, outs, request_entries}
use Rattle.host_model.specs.Ticking.{ticking_nodes}
use Rattle.proof_queue.specs.proof_attempts.Since.{is_to_tick, node_clock}
use Rattle.proof_queue.specs.proof_attempts.proof_requests.Asking.{Doing, IsPaused, TieAsked, TieLine, TieUnderWay, WasAsked, doing_of}
use Rattle.proof_queue.specs.proof_attempts.proof_requests.Standing.{Standing, first_ending, standing_of, with_copy}
use Rattle.proof_queue.specs.proof_attempts.proof_requests.law_host.Heard.{heeds_alone}
use Rattle.proof_queue.specs.proof_attempts.proof_requests.proof_alone.Phases.{Ticking}
use Rattle.proof_queue.specs.proof_attempts.proof_requests.proof_alone.Steps.{AreFrames, AreTold, IsOfUnit}
use Rattle.proof_queue.specs.proof_attempts.proof_walk.Outside.{IsHostNote}
use Rattle.proof_queue.proofs.Books.{last_is}
use Rattle.proof_queue.proofs.EndsLate.{silent_so}
use Rattle.proof_queue.proofs.HostOuts.{OutsAre}
use Rattle.proof_queue.proofs.Nodes.{copy_notes, notes_noted}
use Rattle.proof_queue.proofs.OnLine.{paused_unsent}
use Rattle.proof_queue.proofs.Ticking.{waits_tick}
use Rattle.proof_queue.proofs.proof_attempts_Walking.{IsWritten, copy_line, event_hosts, is_old, line_outs, line_ticks_tie, quiet_line, request_ticks_tie}
use Rattle.proof_queue.proofs.proof_requests_Doing.{beside_same}
use Rattle.proof_queue.proofs.proof_requests_Ended.{ended_later}
use Rattle.proof_queue.proofs.proof_requests_EndsHere.{cannot_end, ends_same}
use Rattle.proof_queue.proofs.proof_requests_Growing.{asked_copy}
use Rattle.proof_queue.proofs.proof_requests_Standing.{stands_aside, stands_copied}
use Rattle.proof_queue.proofs.proof_requests_Telling.{IsQuiet, clock_same, quiet_asides, quiet_on}
use Rattle.proof_giving.specs.Told.{LeavesAttempts, attempts_so_far}
use Rattle.proof_giving.specs.Stays.{ShowsSessions}
use Rattle.proof_giving.specs.Tie.{AttemptsAs, AttemptsSo, IsOver, IsSealing, NodeSo, anew_step, is_bad_part, is_badly_over, is_for, is_good_for, is_last_of}
use Rattle.proof_giving.proofs.Along.{goes_on}
use Rattle.proof_giving.proofs.Asking.{mark_leaves}
use Rattle.proof_giving.proofs.Badly.{badly_copied, badly_in, unframed_badly}
use Rattle.proof_giving.proofs.Fewer.{fewer_kept}
use Rattle.proof_giving.proofs.Finished.{EndsWith}
use Rattle.proof_giving.proofs.Quiet.{later_so, no_wait_so}
use Rattle.proof_giving.proofs.Orders.{event_keeps}
use Rattle.proof_giving.proofs.Requesting.{NoGood, bad_failed, bad_silent, failing_no_good, how_not_good, next_no_good, request_goes}
use Rattle.proof_giving.proofs.Staying.{leaves_so, same_purpose}
use Rattle.proof_giving.proofs.Stays.{over_of, stays_later, stays_quiet}
use Rattle.proof_giving.proofs.Told.{attempts_again, attempts_left}

-- ---- a request that no frame has ended

-- what was under way has not ended by a frame
pub unended : (past : List Entry) (line_now now : ℕ) (came : List LineUnit) (d : Doing) (u : UnderWay) → d.under_way ≡ Some u → TieAsked past line_now now came d → first_ending (standing_of (asked past)) ≡ []
unended past line_now now came d u is (inl nothing) = absurd (let none = nothing.none in let bad : ◌≡◌ {A = Option UnderWay} None (Some u) = sym none ∙ is in cc)
unended past line_now now came d u is (inr (was, asks)) =
    let under = subst (λ (o : Option UnderWay). TieUnderWay (standing_of (asked past)) line_now now (acknowledged past) d.turn d.id d.leaving o) is asks.under_way in under.0.unended

-- and once it ends, with entries that its rules do not look at, it has ended badly
pub badly_unframed : (past told : List Entry) (line_now now : ℕ) (came : List LineUnit) (d : Doing) → AllByRecursion IsQuiet told → is_data (asked past).frame ≡ true → is_abort_frame (asked past).frame ≡ false
    → first_ending (standing_of (asked past)) ≡ [] → TieAsked (past ++ told) line_now now came d → d.under_way ≡ None → (inner : Bool) → ends_badly (asked (past ++ told)) inner line_now ≡ true
badly_unframed past told line_now now came d quiet framed other first tie none inner =
    let on = quiet_on past told quiet in
    let frame : (asked (past ++ told)).frame ≡ (asked past).frame = ap (λ (a : Asked). a.frame) on in
    let over : IsOver (past ++ told) line_now d = over_of (past ++ told) line_now now came d tie none (ap is_data frame ∙ framed) in
    unframed_badly inner (standing_of (asked (past ++ told))) line_now (acknowledged (past ++ told)) d.leaving (ap is_abort_frame frame ∙ other)
    (ap first_ending (ap standing_of on ∙ stands_aside (asked past) told framed (quiet_asides told quiet)) ∙ first) over.ended

bad_end : (it : How) (more : Bool) → ((more : Bool) → part_end more it ≡ Bad) → true ≡ is_bad_part (part_end more it)
bad_end it more bad = sym (ap is_bad_part (bad more))

-- ---- a tick of a node

abbrev pub TicksWith : Type 0
TicksWith =
    (h : HostState) (k n : ℕ) (told : Attempts) (time : ℕ) (badly : Bool) → HostFacts h → n ≤ 232 → NodeSo told (node_of h n) time badly
    → NodeSo (folded (anew_step (is_last_of (node_of h n))) told (attempt_entries k (tick_end (node_of h k)) (open_command (node_of h k)))) (node_of (after h (Node_ticks k)) n) (if k == n then time + 1 else time) badly

abbrev node_time : Bool → ℕ → ℕ
node_time left now = if left then now - 1 else now

time_is : (b left : Bool) (now : ℕ) → (b ≡ true → left ≡ false) → 1 ≤ now → (if b then node_time (b || left) now + 1 else node_time (b || left) now) ≡ node_time left now
time_is true true now once some = absurd (let bad : true ≡ false = once refl in cc)
time_is true false now once some = omega (arith, some)
time_is false left now once some = refl

pub node_ticks_so : TicksWith → (taken : List Entry → Carried → List Told) (n : ℕ) → n ≤ 232 → (past told : List Entry) (h : HostState) (k : ℕ) (left : List HostEvent) → AreTold (outs h (Node_ticks k)) told
    → AllByRecursion IsQuiet told → HostFacts h → HostFacts (after h (Node_ticks k)) → ShowsSessions (heeds_alone taken) past h n → ShowsSessions (heeds_alone taken) (past ++ told) (after h (Node_ticks k)) n
    → (now : ℕ) → 1 ≤ now → (k ≡ n → is_to_tick n left ≡ false) → AttemptsSo (heeds_alone taken) n past h (node_clock (Ticking (Node_ticks k ∷ left)) now n) now
    → AttemptsSo (heeds_alone taken) n (past ++ told) (after h (Node_ticks k)) (node_clock (Ticking left) now n) now
node_ticks_so ticks taken n to past told h k left are quiet facts others shows showing now some once so =
    leaves_so taken n to past told h (Node_ticks k) are quiet tt facts others shows showing false false (node_time ((k == n) || is_to_tick n left) now) (node_time (is_to_tick n left) now) now so
    (same_purpose h (after h (Node_ticks k)) (ap (λ (d : Doing). d.under_way) (beside_same h (Node_ticks k) tt)))
    (fewer_kept h (Node_ticks k) n (let all = facts.nodes.places in omega (arith, all, to)) tt)
    (λ badly tie.
    subst (λ (l : List Entry). NodeSo (folded (anew_step (is_last_of (node_of h n))) (attempts_so_far (heeds_alone taken) n past) l) (node_of (after h (Node_ticks k)) n) (node_time (is_to_tick n left) now) badly)
    (sym (notes_noted (attempt_entries k (tick_end (node_of h k)) (open_command (node_of h k)))))
    (subst (λ (t : ℕ). NodeSo (folded (anew_step (is_last_of (node_of h n))) (attempts_so_far (heeds_alone taken) n past) (attempt_entries k (tick_end (node_of h k)) (open_command (node_of h k))))
    (node_of (after h (Node_ticks k)) n) t badly) (time_is (k == n) (is_to_tick n left) now (λ is. once (eqb-true k n is)) some)
    (ticks h k n (attempts_so_far (heeds_alone taken) n past) (node_time ((k == n) || is_to_tick n left) now) badly facts to tie)))

-- a node that is not to tick has no wait
pub not_ticking : (taken : List Entry → Carried → List Told) (n : ℕ) → 1 ≤ n → n ≤ 232 → (past : List Entry) (h : HostState) (left : List HostEvent) → left ≡ map Node_ticks (ticking_nodes h) → (now : ℕ) → 1 ≤ now
    → AttemptsSo (heeds_alone taken) n past h (now - 1) now → AttemptsSo (heeds_alone taken) n past h (node_clock (Ticking left) now n) now
not_ticking taken n from to past h left are now some so = by (is_to_tick n left) refl
  where
    by : (b : Bool) → is_to_tick n left ≡ b → AttemptsSo (heeds_alone taken) n past h (if b then now - 1 else now) now
    by true is = so
    by false is =
        let none : needs_tick (node_of h n) ≡ false
        = false_from_ne_true (needs_tick (node_of h n)) (λ needs. both_ways (is_to_tick n left) is (ap (λ (l : List HostEvent). is_to_tick n l) are ∙ waits_tick h n from to needs)) in
        let waits : (node_of h n).attempt_wait ≡ 0 = no_wait (node_of h n) none in
        let next : now - 1 + 1 ≡ now = omega (arith, some) in
        record {
          node = subst (λ (t : ℕ). NodeSo (attempts_so_far (heeds_alone taken) n past) (node_of h n) t (is_badly_over (heeds_alone taken) n past h now)) next
              (no_wait_so (attempts_so_far (heeds_alone taken) n past) (node_of h n) (now - 1) (is_badly_over (heeds_alone taken) n past h now) waits so.node);
          own = so.own;
          inner = so.inner;
          sends = so.sends;
          seals = so.seals;
        }
      where
        no_wait : (s : NodeState) → needs_tick s ≡ false → s.attempt_wait ≡ 0
        no_wait s none = each (nat_lt 0 s.attempt_wait) refl
          where
            each : (b : Bool) → nat_lt 0 s.attempt_wait ≡ b → s.attempt_wait ≡ 0
            each true is = absurd (both_ways (needs_tick s) none (or_right (s.blocked || nat_lt 0 s.hold || nat_lt 0 s.again_wait) (nat_lt 0 s.attempt_wait) is))
            each false is = let least = ltb-false 0 s.attempt_wait is in omega (arith, least)

-- ---- a tick of the request

on_silent : (o : Option Progress) (it : How) → on_with o ≡ Ends it → it ≡ Silent
on_silent None it is = sym (silent_so it is)
on_silent (Some progress) it is = absurd (cannot_end progress it is)

tick_no_good : (n : ℕ) (s : RequestsState) → is_good_for n (end_at s Ticks) ≡ false
tick_no_good n s = next_no_good n s at_tick (λ u. by u.purpose (counted_down u.progress))
  where
    by : (p : Purpose) (o : Option Progress) → NoGood n p (on_with o)
    by p (Some progress) = tt
    by p None = how_not_good n p Silent bad_silent

module _ (ends : EndsWith) (taken : List Entry → Carried → List Told) (n : ℕ) (to : n ≤ 232) (past told : List Entry) (h : HostState) (came : List LineUnit) (before now : ℕ) (next : now ≡ before + 1) (quiet : AllByRecursion IsQuiet told)
    (facts : HostFacts h) (shows : ShowsSessions (heeds_alone taken) past h n) (time : ℕ) where
  abbrev heeds : Heeds
  heeds = heeds_alone taken

  -- an attempt of the node that runs has asked
  asks_of : AttemptsSo heeds n past h time now → (node_of h n).series ≡ Running → (u : UnderWay) (more : Bool) (payload : List ℕ) → h.requests.under_way ≡ Some u → u.purpose ≡ Attempt n more payload
      → (is_data (asked past).frame ≡ true) × (is_abort_frame (asked past).frame ≡ false)
  asks_of so runs u more payload under purpose = so.sends (so.own runs u under ∙ ap (λ (p : Purpose). is_for n p) purpose ∙ eq-eqb n n refl)

  pub request_ticks_so : AreTold (outs h (Requests_do Ticks BeforeItsTick)) told → HostFacts (after h (Requests_do Ticks BeforeItsTick)) → ShowsSessions heeds (past ++ told) (after h (Requests_do Ticks BeforeItsTick)) n
      → TieAsked past now before came (doing_of h) → AttemptsSo heeds n past h time now → AttemptsSo heeds n (past ++ told) (after h (Requests_do Ticks BeforeItsTick)) time now
  request_ticks_so are others showing tie so =
      request_goes ends taken n to past told h Ticks BeforeItsTick time now now tt are quiet facts others shows showing
      (subst (λ (b : Bool). AttemptsAs b heeds n past h time now) (sym (tick_no_good n h.requests)) so) (λ own none inner. refl)
      (λ u it under ends_it end_is none more payload purpose runs.
      let asks = asks_of so runs u more payload under purpose in
      let silent : it ≡ Silent = on_silent (counted_down u.progress) it ends_it in
      badly_unframed past told now now came (doing_of (after h (Requests_do Ticks BeforeItsTick))) quiet asks.0 asks.1 (unended past now before came (doing_of h) u under tie)
      (request_ticks_tie past told before now came h next are tie) none _
      ∙ bad_end it more (λ m. ap (λ (x : How). part_end m x) silent ∙ bad_silent m))

-- ---- a tick of the line

module _ (ends : EndsWith) (taken : List Entry → Carried → List Told) (n : ℕ) (to : n ≤ 232) (past told : List Entry) (h : HostState) (came : List LineUnit) (before now : ℕ) (next : now ≡ before + 1) (frames : AreFrames came)
    (at : (e : Entry) (more : List Entry) → told ≡ e ∷ more → clock past ≡ now) (are : AreTold (outs h Line_ticks) told) (facts : HostFacts h) (others : HostFacts (after h Line_ticks))
    (shows : ShowsSessions (heeds_alone taken) past h n) (showing : ShowsSessions (heeds_alone taken) (past ++ told) (after h Line_ticks) n) (tie : TieAsked past before before came (doing_of h)) (time : ℕ)
    (so : AttemptsSo (heeds_alone taken) n past h time before) where
  abbrev hears : Heeds
  hears = heeds_alone taken

  abbrev ticked : HostState
  ticked = line_ticked h

  abbrev gives : Bool
  gives = gives_up h.side.turn (turn_ticked h.side.turn)

  abbrev Goes : HostState → Type 0
  Goes g = AttemptsSo hears n (past ++ told) g time now

  -- the time has gone on
  stays : (attempts_so_far hears n past).own ≡ true → h.requests.under_way ≡ None → (inner : Bool) → ends_badly (asked past) inner now ≡ ends_badly (asked past) inner before
  stays own none inner =
      stays_later inner past before (doing_of h) (over_of past before before came (doing_of h) tie none (so.sends own).0) (so.sends own).1 now (omega (arith, next))

  -- the line gives it up
  gives_so : gives ≡ true → AllByRecursion IsQuiet told → AreTold (noted (request_entries ticked Fails)) told → Goes (after h Line_ticks)
  gives_so is quiet puts =
      let same : after h Line_ticks ≡ after ticked (Requests_do Fails BeforeItsTick) = ap (λ (b : Bool). failing_if b ticked) is in
      let later : TieAsked (past ++ told) now before came (doing_of (after h Line_ticks)) = line_ticks_tie past told before now came h next frames at are tie in
      subst Goes (sym same)
      (request_goes ends taken n to past told ticked Fails BeforeItsTick time before now tt puts quiet
      (record { nodes = facts.nodes; commands = facts.commands; owns = facts.owns; nonces = facts.nonces; served = facts.served })
      (subst (λ (g : HostState). HostFacts g) same others)
      (record { sessions_are = shows.sessions_are; opened = shows.opened; last = shows.last; carried = shows.carried })
      (subst (λ (g : HostState). ShowsSessions hears (past ++ told) g n) same showing)
      (subst (λ (b : Bool). AttemptsAs b hears n past ticked time before) (sym (failing_no_good n h.requests))
      (record { node = so.node; own = so.own; inner = so.inner; sends = so.sends; seals = λ has. still (so.seals has) })) stays
      (λ u it under ends_it end_is none more payload purpose runs.
      let asks = so.sends (so.own runs u under ∙ ap (λ (p : Purpose). is_for n p) purpose ∙ eq-eqb n n refl) in
      let failed : it ≡ LinkFailed = sym (ends_same LinkFailed it ends_it) in
      badly_unframed past told now before came (doing_of (after h Line_ticks)) quiet asks.0 asks.1 (unended past before before came (doing_of h) u under tie) later
      (ap (λ (g : HostState). g.requests.under_way) same ∙ none) _
      ∙ bad_end it more (λ m. ap (λ (x : How). part_end m x) failed ∙ bad_failed m)))
    where
      still : IsSealing h n → IsSealing ticked n
      still s = record { session = s.session; opened = s.opened; number = s.number; carried = s.carried; command = s.command; found = s.found; form = s.form }

  -- it goes on, with nothing told
  quiet_so : gives ≡ false → AllByRecursion IsQuiet told → Goes (after h Line_ticks)
  quiet_so is quiet =
      let same : after h Line_ticks ≡ ticked = ap (λ (b : Bool). failing_if b ticked) is in
      leaves_so taken n to past told h Line_ticks are quiet tt facts others shows showing false false time time now (later_so taken n false past h time before so now stays)
      (same_purpose h (after h Line_ticks) (ap (λ (g : HostState). g.requests.under_way) same)) (fewer_kept h Line_ticks n (let all = facts.nodes.places in omega (arith, all, to)) tt)
      (λ badly tied.
      subst (λ (l : List Entry). NodeSo (folded (anew_step (is_last_of (node_of h n))) (attempts_so_far hears n past) l) (node_of (after h Line_ticks) n) time badly)
      (sym (copy_notes (copy_due h.side.turn) (failing_entries gives ticked) ∙ ap (λ (b : Bool). failing_entries b ticked) is))
      (subst (λ (g : HostState). NodeSo (attempts_so_far hears n past) (node_of g n) time badly) (sym same) tied))

  -- with another copy
  copy_so : (f : FrameParts) (copies ticks : ℕ) → h.side.turn ≡ Paused f copies ticks → gives ≡ false → IsWritten (unit_text (Framed f)) told → Goes (after h Line_ticks)
  copy_so f copies ticks turn_is is wrote =
      goes_on taken n past (past ++ told) h (after h Line_ticks) now
      (record {
        under = same_purpose h (after h Line_ticks) (ap (λ (g : HostState). g.requests.under_way) same);
        frame = λ own. frame_is;
        ended = λ own none inner. ended own none inner (paused own);
        shows = shows;
        showing = showing;
        facts = facts;
        others = others;
        keeps = event_keeps h Line_ticks n (let all = facts.nodes.places in omega (arith, all, to)) tt;
        fewer = fewer_kept h Line_ticks n (let all = facts.nodes.places in omega (arith, all, to)) tt;
      }) false time left (later_so taken n false past h time before so now stays)
      (λ badly tied. subst (λ (g : HostState). NodeSo (attempts_so_far hears n past) (node_of g n) time badly) (sym same) tied)
    where
      unit : List ℕ
      unit = unit_text (Framed f)

      first : List Entry
      first = past ++ entry.Written Host unit ∷ []

      same : after h Line_ticks ≡ ticked
      same = ap (λ (b : Bool). failing_if b ticked) is

      all_is : past ++ told ≡ first ++ wrote.rest
      all_is = ap (λ (l : List Entry). past ++ l) wrote.are ∙ sym (append_assoc past (entry.Written Host unit ∷ []) wrote.rest)

      old : is_new (asked past) unit ≡ false
      old = by tie
        where
          by : TieAsked past before before came (doing_of h) → is_new (asked past) unit ≡ false
          by (inl nothing) = absurd (let idle = nothing.idle in let bad : Idle ≡ Paused f copies ticks = sym idle ∙ turn_is in cc)
          by (inr (was, asks)) = is_old past before came f copies ticks frames (subst (λ (t : Turn). TieLine (standing_of (asked past)) before (acknowledged past) came t) turn_is asks.line)

      frame_is : (asked (past ++ told)).frame ≡ (asked past).frame
      frame_is =
          ap (λ (l : List Entry). (asked l).frame) all_is ∙ ap (λ (a : Asked). a.frame) (quiet_on first wrote.rest wrote.quiet) ∙ ap (λ (a : Asked). a.frame) (asked_copy past unit old)

      left : attempts_so_far hears n (past ++ told) ≡ attempts_so_far hears n past
      left =
          ap (λ (l : List Entry). attempts_so_far hears n l) all_is
          ∙ attempts_left taken n first wrote.rest (all-weaker IsOfUnit LeavesAttempts mark_leaves wrote.rest wrote.marks)
          ∙ attempts_again taken n past unit refl (ap (λ (a : Asked). is_new a unit) (last_is taken past) ∙ old)

      paused : (attempts_so_far hears n past).own ≡ true → WasAsked past × IsPaused (standing_of (asked past)) before (acknowledged past) came f copies
      paused own = by tie
        where
          by : TieAsked past before before came (doing_of h) → WasAsked past × IsPaused (standing_of (asked past)) before (acknowledged past) came f copies
          by (inl nothing) = absurd (let bad : false ≡ true = sym (ap is_data nothing.unasked) ∙ (so.sends own).0 in cc)
          by (inr (was, asks)) = (was, subst (λ (t : Turn). TieLine (standing_of (asked past)) before (acknowledged past) came t) turn_is asks.line)

      ended : (attempts_so_far hears n past).own ≡ true → h.requests.under_way ≡ None → (inner : Bool) → WasAsked past × IsPaused (standing_of (asked past)) before (acknowledged past) came f copies
          → ends_badly (asked (past ++ told)) inner now ≡ ends_badly (asked past) inner now
      ended own none inner (was, line) =
          let s : Standing = standing_of (asked past) in
          let framed : is_data (asked past).frame ≡ true = (so.sends own).0 in
          let over : IsOver past before (doing_of h) = over_of past before before came (doing_of h) tie none framed in
          let later = ended_later s before now (acknowledged past) (acknowledged past) (doing_of h).leaving (omega (arith, next)) (omega arith) over.ended in
          let on = asked_copy past unit old in
          let copied : standing_of (asked first) ≡ with_copy s now
          = ap standing_of on ∙ stands_copied (asked past) unit framed ((bytes_eq-Decides unit (asked past).frame).1 (sym line.frame))
          ∙ ap (λ (l : List Entry). with_copy s (clock (l ++ entry.Written Host unit ∷ []))) was.whole
          ∙ ap (λ (t : ℕ). with_copy s t) (clock_same past (entry.Written Host unit ∷ []) (tt, tt) ∙ at (entry.Written Host unit) wrote.rest wrote.are) in
          let are = line.copies_are in
          let few = line.few in
          ap (λ (l : List Entry). ends_badly (asked l) inner now) all_is
          ∙ stays_quiet inner first now wrote.rest (ap (λ (a : Asked). is_data a.frame) on ∙ framed) wrote.quiet
          ∙ ap (λ (t : Standing). badly_in inner t now) copied
          ∙ badly_copied inner s now (acknowledged past) (doing_of h).leaving (so.sends own).1 (omega (arith, are, few)) (paused_unsent s before (acknowledged past) came f copies frames line) later

  pub line_ticks_so : Goes (after h Line_ticks)
  line_ticks_so = by h.side.turn refl are (event_hosts h Line_ticks)
    where
      by : (turn : Turn) → h.side.turn ≡ turn → AreTold (line_outs h turn) told → OutsAre IsHostNote (line_outs h turn) → Goes (after h Line_ticks)
      by Idle is puts hosts = quiet_so (ap (λ (t : Turn). gives_up t (turn_ticked t)) is) (quiet_line h Idle told refl hosts puts)
      by (Copied f copies ticks) is puts hosts = each (gives_up (Copied f copies ticks) (turn_ticked (Copied f copies ticks))) refl
        where
          quiet : AllByRecursion IsQuiet told
          quiet = quiet_line h (Copied f copies ticks) told refl hosts puts

          each : (b : Bool) → gives_up (Copied f copies ticks) (turn_ticked (Copied f copies ticks)) ≡ b → Goes (after h Line_ticks)
          each true given =
              gives_so (ap (λ (t : Turn). gives_up t (turn_ticked t)) is ∙ given) quiet (subst (λ (b : Bool). AreTold (noted (failing_entries b ticked)) told) given puts)
          each false given = quiet_so (ap (λ (t : Turn). gives_up t (turn_ticked t)) is ∙ given) quiet
      by (Paused f copies ticks) is puts hosts = each (ticks + 1 == pause_after copies) refl
        where
          none : gives ≡ false
          none = ap (λ (t : Turn). gives_up t (turn_ticked t)) is ∙ never (ticks + 1 == pause_after copies)
            where
              never : (b : Bool) → gives_up (Paused f copies ticks) (if b then Copied f (copies + 1) 0 else Paused f copies (ticks + 1)) ≡ false
              never true = refl
              never false = refl

          each : (b : Bool) → (ticks + 1 == pause_after copies) ≡ b → Goes (after h Line_ticks)
          each true due = copy_so f copies ticks is none (copy_line h f copies ticks told due puts)
          each false due = quiet_so none (quiet_line h (Paused f copies ticks) told due hosts puts)
