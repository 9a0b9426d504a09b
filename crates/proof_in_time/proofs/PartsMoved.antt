-- The chip takes its bytes: the segment whose request is on its way to it goes on the air, behind the frames of devices; and else nothing goes.
use Rattle.std.proofs.Common.{◌≡◌, ◌≤◌, ◌<◌, ℕ, ◌+◌, Bool, true, false, List, [], ◌∷◌, ◌++◌, length, refl, sym, ap, ◌∙◌, append_assoc, arith}
use Rattle.std.proofs.lemmas.List.{append-nil}
use Rattle.std.specs.Prelude.{◌⊎◌, Option, Some, None}
use Rattle.std.specs.Option.{is_some}
use Rattle.std.specs.List.{AllByRecursion}
use Rattle.serial_frame.specs.Frame.{FrameParts}
use Rattle.serial_frame.specs.Stream.{Rest}
use Rattle.serial_frame.specs.declared.item.Item.{Item}
use Rattle.route_table.specs.declared.route.Route.{Route}
use Rattle.chip_functions.specs.Field.{IsNode}
use Rattle.chip_sim.specs.Nodes.{is_marked}
use Rattle.chip_sim.specs.declared.out.Sending.{Sending}
use Rattle.air_frames.specs.Flown.{Flown}
use Rattle.air_frames.specs.declared.frame.Heading.{Heading}
use Rattle.host_requests.specs.Frames.{frame_of, request_of, send}
use Rattle.host_requests.specs.declared.task.Purpose.{Purpose}
use Rattle.host_requests.specs.declared.under_way.UnderWay.{UnderWay}
use Rattle.host_model.specs.Sessions.{segment_at}
use Rattle.outside_model.specs.Events.{Chip_takes}
use Rattle.world_model.specs.Events.{Outside_does}
use Rattle.world_model.specs.State.{Machine}
use Rattle.proof_messages.specs.Reporting.{TellsPlainly}
use Rattle.proof_answered.specs.proof_calm.proof_traffic.Facts.{one_if}
use Rattle.proof_answered.specs.proof_calm.proof_traffic.OnAir.{on_air}
use Rattle.proof_answered.specs.proof_calm.proof_traffic.OutsideTraffic.{one_outward, outward}
use Rattle.proof_answered.specs.proof_calm.proof_work.proof_walk.Phases.{Moved, Moving}
use Rattle.proof_answered.specs.proof_calm.Awaited.{Awaits}
use Rattle.proof_answered.specs.proof_calm.Calls.{answer_taken}
use Rattle.proof_answered.specs.proof_calm.Passes.{ChipMayTake, chip_taken}
use Rattle.proof_answered.specs.proof_calm.Resting.{CanMove}
use Rattle.proof_answered.specs.proof_calm.Settling.{HasMoved, IsDone}
use Rattle.proof_answered.specs.proof_calm.Tied.{At_chip, Called, HasRoom, IsPeopled, Nowhere, On_way, Tied, TieOf, ends_of, on_line, unheard}
use Rattle.proof_answered.specs.Outward.{IsSentTo}
use Rattle.proof_answered.specs.Workers.{IsFromSaying}
use Rattle.proof_answered.proofs.Arrivals.{outward-append}
use Rattle.proof_answered.proofs.Outwards.{IsSentFor}
use Rattle.proof_answered.proofs.Unheard.{chip_part_says}
use Rattle.proof_answered.proofs.proof_traffic_Parts.{Airs}
use Rattle.proof_in_time.specs.Coming.{IsOnAir}
use Rattle.proof_in_time.specs.Owed.{IsFreeNow}
use Rattle.proof_in_time.specs.Parts.{Aired, Aired_told, Aired_two, AllPlain, Amid, Asks, Asks_told, Asks_told_two, By_attempt, By_task, Carries, ComesPlainly, Given, Hears_one, Hears_two, IsAsk, IsToGive, OnWay, Owed, Parts, To_give, To_give_two, ToHear, Waits}
use Rattle.proof_in_time.proofs.Aired.{Departs, frame_departs, never_idle, request_taken}
use Rattle.proof_in_time.proofs.Grown.{Sends, takes_sent}
use Rattle.proof_in_time.proofs.InTurn.{takes_free}
use Rattle.proof_in_time.proofs.PartsArrived.{outside_host}
use Rattle.proof_in_time.proofs.PartsCarried.{SameFor, Wraps, all_wrapped, itself_wraps, same_for, way_on, wraps_pile}
use Rattle.proof_in_time.proofs.PartsFlying.{amid_out, amid_two_out}
use Rattle.proof_in_time.proofs.PartsPhases.{cut_so, same_first, within_so}
use Rattle.proof_in_time.proofs.Settled.{chip_devices}

-- ---- frames

sent_out : (these : List Bool) (more : List Flown) → AllByRecursion (IsSentFor these) more → outward more ≡ length more
sent_out these [] all = refl
sent_out these (frame ∷ more) all =
    let one : outward (frame ∷ more) ≡ 1 + outward more = ap (λ (h : Heading). one_outward h + outward more) all.0.1 in
    let rest = sent_out these more all.1 in
    omega (arith, one, rest)

one_most : (b : Bool) → one_if b ≤ 1
one_most true = omega arith
one_most false = omega arith

none_long : (more : List Flown) → length more ≡ 0 → more ≡ []
none_long [] none = refl
none_long (frame ∷ more) none = absurd (omega (arith, none))

pub answer_told : (these : List Bool) → IsFromSaying these TellsPlainly answer_taken
answer_told these n payload e = let no = ap (λ (f : FrameParts). f.kind) e in absurd cc

-- what gives the node a payload asks to send that
pub carried_sends : (n : ℕ) (payload : List ℕ) (purpose : Purpose) → Carries n payload purpose → (id : ℕ) → request_of purpose id ≡ send n payload id
carried_sends n payload purpose (By_attempt more is) id = ap (λ (p : Purpose). request_of p id) is
carried_sends n payload purpose (By_task is) id = ap (λ (p : Purpose). request_of p id) is

module _ (airs : Airs) (these : List Bool) (many : length these ≡ 233) (n session : ℕ) (marked : is_marked these n ≡ true) (node : IsNode n) (within : n < 233) (passes ticks : ℕ) (m : Machine) (rest : Rest) (ways : List (Item × Option Route)) (awaits : Awaits m)
    (may : ChipMayTake m rest ways) (at : IsDone m ⊎ CanMove passes m) (room : HasRoom m.outside.outer.chip.state) (tie : TieOf true m (on_line m.host.state.side.turn)) (later : IsDone (chip_taken m rest ways) ⊎ HasMoved true passes (chip_taken m rest ways))
    (later_tie : TieOf true (chip_taken m rest ways) []) (sent : IsSentTo these m (Outside_does (Chip_takes (length m.outside.outer.to_chip.bytes) rest ways))) (peopled : IsPeopled these m)
    (sends : one_if (is_some m.outside.outer.chip.state.sending) ≡ outward (on_air m.outside.outer.air.frames))
    (then_sends : one_if (is_some (chip_taken m rest ways).outside.outer.chip.state.sending) ≡ outward (on_air (chip_taken m rest ways).outside.outer.air.frames)) where
  abbrev Comes : FrameParts → Type 0
  Comes frame = IsFromSaying these TellsPlainly frame

  grows : Sends these (on_air m.outside.outer.air.frames) (on_air (chip_taken m rest ways).outside.outer.air.frames)
  grows = takes_sent airs m awaits these many (length m.outside.outer.to_chip.bytes) rest ways sent

  -- as many of the host's as before: so nothing goes
  same_air : outward (on_air (chip_taken m rest ways).outside.outer.air.frames) ≡ outward (on_air m.outside.outer.air.frames) → on_air (chip_taken m rest ways).outside.outer.air.frames ≡ on_air m.outside.outer.air.frames
  same_air as_many =
      let all = ap outward grows.are in
      let both = outward-append (on_air m.outside.outer.air.frames) grows.more in
      let more = sent_out these grows.more grows.sent in
      let none : length grows.more ≡ 0 = omega (arith, all, both, more, as_many) in
      grows.are ∙ (ap (λ (l : List Flown). on_air m.outside.outer.air.frames ++ l) (none_long grows.more none) ∙ append-nil (on_air m.outside.outer.air.frames))

  -- where nothing of the host is on its way
  free_then : IsFreeNow m → IsFreeNow (chip_taken m rest ways)
  free_then free = takes_free airs these n marked node passes ticks m rest ways may at room tie later later_tie free

  sends_none : (k : Machine) → IsFreeNow k → one_if (is_some k.outside.outer.chip.state.sending) ≡ 0
  sends_none k free = ap (λ (s : Option Sending). one_if (is_some s)) free.quiet

  pub free_air : IsFreeNow m → on_air (chip_taken m rest ways).outside.outer.air.frames ≡ on_air m.outside.outer.air.frames
  free_air free =
      let before = sends_none m free in
      let after = sends_none (chip_taken m rest ways) (free_then free) in
      same_air (omega (arith, before, after, sends, then_sends))

  -- where one flies
  pub busy_air : outward (on_air m.outside.outer.air.frames) ≡ 1 → on_air (chip_taken m rest ways).outside.outer.air.frames ≡ on_air m.outside.outer.air.frames
  busy_air one =
      let all = ap outward grows.are in
      let both = outward-append (on_air m.outside.outer.air.frames) grows.more in
      let most = one_most (is_some (chip_taken m rest ways).outside.outer.chip.state.sending) in
      same_air (omega (arith, all, both, one, most, then_sends))

  busy_line : outward (on_air m.outside.outer.air.frames) ≡ 1 → on_line m.host.state.side.turn ≡ []
  busy_line one = by tie.tied
    where
      idle : m.outside.outer.chip.state.sending ≡ None → on_line m.host.state.side.turn ≡ []
      idle is = let no : one_if (is_some m.outside.outer.chip.state.sending) ≡ 0 = ap (λ (s : Option Sending). one_if (is_some s)) is in absurd (omega (arith, sends, one, no))

      by : Tied true (ends_of m.host.state m.outside.outer.chip.state) (unheard m.outside.outer) (on_line m.host.state.side.turn) → on_line m.host.state.side.turn ≡ []
      by (Nowhere is) = is.nothing
      by (On_way u of fresh is) = idle is.idle
      by (At_chip u of fresh is) = is.nothing
      by (Called u of fresh is) = is.nothing

  told : Wraps (IsFromSaying these TellsPlainly) (unheard m.outside.outer) (unheard (chip_taken m rest ways).outside.outer)
  told = chip_part_says Comes (Wraps Comes (unheard m.outside.outer)) (wraps_pile Comes (unheard m.outside.outer)) (answer_told these) passes m rest ways may at room tie later (itself_wraps Comes (unheard m.outside.outer))

  same : SameFor n (Moving passes ticks) m.host.state (chip_taken m rest ways).host.state
  same = same_for n (Moving passes ticks) m.host.state (chip_taken m rest ways).host.state (outside_host m (Chip_takes (length m.outside.outer.to_chip.bytes) rest ways))

  module _ (message : List ℕ) (next late : ℕ) (hears : ToHear) where
    -- nothing goes
    moves_quietly : on_line m.host.state.side.turn ≡ [] → on_air (chip_taken m rest ways).outside.outer.air.frames ≡ on_air m.outside.outer.air.frames → OnWay these n session message next late (Moving passes ticks) m hears
        → OnWay these n session message next late (Moved true passes ticks) (chip_taken m rest ways) hears
    moves_quietly quiet air way =
        way_on these n session message (Moving passes ticks) (Moved true passes ticks) m (chip_taken m rest ways) same (λ free due. free_then free) (λ free home. free_then free)
        (λ asking frame on. absurd (let wrong : [] ≡ frame ∷ [] = sym quiet ∙ on in cc)) told next late late [] (air ∙ sym (append-nil (on_air m.outside.outer.air.frames))) tt
        (record { joint = λ place in_it. omega arith; apart = λ gives place in_it one. refl; some = λ gives some. some; level = λ first second before in_it level. omega arith; fewer = omega arith }) hears way

    -- the segment goes
    departs : (place : ℕ) (request : UnderWay) → m.host.state.requests.under_way ≡ Some request → Carries n (segment_at session message place) request.purpose → on_line m.host.state.side.turn ≡ frame_of request.purpose m.host.state.requests.last_id ∷ []
        → Departs n (segment_at session message place) (on_air m.outside.outer.air.frames) (on_air (chip_taken m rest ways).outside.outer.air.frames)
    departs place request under_way carries line =
        let sends_it = carried_sends n (segment_at session message place) request.purpose carries in
        frame_departs airs m awaits n (segment_at session message place) within these marked (never_idle m n (segment_at session message place) request under_way sends_it line)
        (λ t f turn takes_it. request_taken m n (segment_at session message place) request under_way sends_it line t f turn tie takes_it) passes rest ways may at room tie peopled

    told_plain : AllByRecursion Comes (unheard m.outside.outer) → AllByRecursion Comes (unheard (chip_taken m rest ways).outside.outer)
    told_plain all = all_wrapped Comes (unheard m.outside.outer) (unheard (chip_taken m rest ways).outside.outer) told all

    give_moves : (place : ℕ) → hears ≡ Hears_one place → IsToGive n session message place next (Moving passes ticks) m → AllPlain these (on_air m.outside.outer.air.frames) → AllByRecursion Comes (unheard m.outside.outer) → 1 ≤ late
        → OnWay these n session message next late (Moving passes ticks) m hears → OnWay these n session message next late (Moved true passes ticks) (chip_taken m rest ways) hears
    give_moves place is (Owed free none next_is less follows) all told_all some way = moves_quietly free.silent (free_air free) way
    give_moves place is (Waits free waits next_is) all told_all some way = moves_quietly free.silent (free_air free) way
    give_moves place is (Given request asking none under_way carries line next_is) all told_all some way =
        let d = departs place request under_way carries line in
        Aired place is (record { no_task = same.queue ∙ none; next_is = same.next_is ∙ next_is })
        (record { before = on_air m.outside.outer.air.frames; one = d.frame; behind = []; are = d.are; each = all; is = d.is; rest = tt }) (told_plain told_all) some

    give_two_moves : (place k : ℕ) → hears ≡ Hears_two place k → IsToGive n session message place next (Moving passes ticks) m → Amid (ComesPlainly these) (IsAsk n session k) (on_air m.outside.outer.air.frames) → AllByRecursion Comes (unheard m.outside.outer) → 1 ≤ late
        → OnWay these n session message next late (Moving passes ticks) m hears → OnWay these n session message next late (Moved true passes ticks) (chip_taken m rest ways) hears
    give_two_moves place k is (Owed free none next_is less follows) ask told_all some way = moves_quietly free.silent (free_air free) way
    give_two_moves place k is (Waits free waits next_is) ask told_all some way = moves_quietly free.silent (free_air free) way
    give_two_moves place k is (Given request asking none under_way carries line next_is) ask told_all some way =
        let d = departs place request under_way carries line in
        Aired_two place k is (record { no_task = same.queue ∙ none; next_is = same.next_is ∙ next_is })
        (record {
          before = ask.before;
          first = ask.one;
          behind = ask.behind ++ d.frame ∷ [];
          are = d.are ∙ (ap (λ (l : List Flown). l ++ d.frame ∷ []) ask.are ∙ append_assoc ask.before (ask.one ∷ ask.behind) (d.frame ∷ []));
          each = ask.each;
          is = ask.is;
          rest = record { before = ask.behind; one = d.frame; behind = []; are = refl; each = ask.rest; is = d.is; rest = tt };
        }) (told_plain told_all) (omega arith) some

    pub way_moves : OnWay these n session message next late (Moving passes ticks) m hears → OnWay these n session message next late (Moved true passes ticks) (chip_taken m rest ways) hears
    way_moves way = by way
      where
        flies : outward (on_air m.outside.outer.air.frames) ≡ 1 → OnWay these n session message next late (Moved true passes ticks) (chip_taken m rest ways) hears
        flies one = moves_quietly (busy_line one) (busy_air one) way

        free_way : IsFreeNow m → OnWay these n session message next late (Moved true passes ticks) (chip_taken m rest ways) hears
        free_way free = moves_quietly free.silent (free_air free) way

        by : OnWay these n session message next late (Moving passes ticks) m hears → OnWay these n session message next late (Moved true passes ticks) (chip_taken m rest ways) hears
        by (To_give place is give all told_all some) = give_moves place is give all told_all some way
        by (Aired place is other on told_all few) = flies (amid_out these (IsOnAir n (segment_at session message place)) (on_air m.outside.outer.air.frames) (λ frame f. f.out) on)
        by (To_give_two place k is give ask one told_all some) = give_two_moves place k is give ask told_all some way
        by (Aired_two place k is other on told_all level few) =
            flies (amid_two_out these (IsAsk n session k) (IsOnAir n (segment_at session message place)) (on_air m.outside.outer.air.frames) (λ frame f. f.home) (λ frame f. f.out) on)
        by (Aired_told place k is other on asked few) = flies (amid_out these (IsOnAir n (segment_at session message place)) (on_air m.outside.outer.air.frames) (λ frame f. f.out) on)
        by (Asks place is other free none on told_all few) = free_way free
        by (Asks_told place is other free all asked) = free_way free
        by (Asks_told_two place k is other free asked on one some) = free_way free

  pub parts_move : (left : ℕ) → Parts these n session left (Moving passes ticks) m → Parts these n session left (Moved true passes ticks) (chip_taken m rest ways)
  parts_move left parts =
      let host = outside_host m (Chip_takes (length m.outside.outer.to_chip.bytes) rest ways) in
      let first = same_first n m.outside.devices (chip_taken m rest ways).outside.devices (chip_devices m (length m.outside.outer.to_chip.bytes) rest ways) parts.stands in
      record {
        message = parts.message;
        cut = cut_so n session parts.message m.host.state (chip_taken m rest ways).host.state host parts.cut;
        count = same.count ∙ parts.count;
        no_text = same.text_is ∙ parts.no_text;
        no_pending = same.pending_is ∙ parts.no_pending;
        stands = first.0;
        hears = parts.hears;
        inside = parts.inside;
        next = parts.next;
        later = parts.later;
        way = way_moves parts.message parts.next parts.later parts.hears parts.way;
        ticks = parts.ticks;
        within = within_so session parts.message parts.stands.device first.0.device first.1 parts.hears parts.next parts.ticks parts.within;
        few = parts.few;
      }
