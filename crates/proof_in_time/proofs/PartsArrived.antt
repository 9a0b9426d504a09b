-- A frame arrives while segments are on their way: it is one of a device, which the chip tells the host of, or the segment that the device of the node hears next.
use Rattle.std.proofs.Common.{◌≡◌, ◌≤◌, ◌<◌, ℕ, suc, ◌+◌, nat_lt, inl, inr, Bool, true, if◌then◌else◌, List, [], ◌∷◌, ◌++◌, length, refl, sym, ap, ◌∙◌, subst, arith}
use Rattle.std.proofs.lemmas.Bool.Decides.{nat_tests}
use Rattle.std.specs.Prelude.{◌⊎◌, Option, drop, slice_index}
use Rattle.zw_base.proofs.Each.{all-append}
use Rattle.serial_frame.specs.Frame.{FrameParts}
use Rattle.route_table.specs.declared.route.Route.{Route}
use Rattle.chip_functions.specs.declared.notice.Notice.TheVariants.{ApplicationUpdate}
use Rattle.chip_functions.specs.declared.notice.TransmitStatus.{TransmitStatus}
use Rattle.chip_functions.specs.declared.notice.Update.{Update}
use Rattle.chip_sim.specs.Answers.{notice_frame}
use Rattle.chip_sim.specs.Nodes.{is_marked}
use Rattle.chip_sim.specs.Requests.{callback_frame}
use Rattle.chip_sim.specs.declared.out.Sending.{Sending}
use Rattle.air_frames.specs.Flown.{Flown}
use Rattle.air_frames.specs.declared.frame.Heading.TheVariants.{Homeward}
use Rattle.host_model.specs.Sessions.{segment_at}
use Rattle.host_model.specs.State.{node_of}
use Rattle.outside_model.specs.Events.{OuterEvent, Arrives}
use Rattle.world_model.specs.Events.{Outside_does, happens}
use Rattle.world_model.specs.State.{Machine}
use Rattle.proof_messages.specs.Reporting.{TellsPlainly}
use Rattle.proof_answered.specs.proof_calm.proof_traffic.OnAir.{on_air}
use Rattle.proof_answered.specs.proof_calm.proof_work.proof_walk.Phases.{Arriving}
use Rattle.proof_answered.specs.proof_calm.Awaited.{Awaits}
use Rattle.proof_answered.specs.proof_calm.Live.{IsLive}
use Rattle.proof_answered.specs.proof_calm.Resting.{IsGiven}
use Rattle.proof_answered.specs.proof_calm.Tied.{unheard}
use Rattle.proof_answered.specs.Workers.{IsFromSaying}
use Rattle.proof_answered.proofs.proof_traffic_Parts.{Airs}
use Rattle.proof_in_time.specs.Coming.{IsOnAir, brings, one_later}
use Rattle.proof_in_time.specs.Parts.{Aired, Aired_told, Aired_two, AllPlain, AllTold, Amid, AmidTwo, Asked, Asks, Asks_one, Asks_told, Asks_told_two, ComesPlainly, Given, HasCall, Hears_one, Hears_two, IsAsk, IsAskTold, IsElse, IsToGive, OnWay, Owed, To_give, To_give_two, ToHear, Waits, heard_first}
use Rattle.proof_in_time.proofs.Carried.{later_once}
use Rattle.proof_in_time.proofs.Grown.{Arrived}
use Rattle.proof_answered.proofs.Brought.{home_comes}
use Rattle.proof_in_time.proofs.PartsCarried.{SameFor, amid_more, amid_next, amid_two_next, call_before, same_for}
use Rattle.proof_in_time.proofs.PartsLanded.{More, home_leaves, homeward_unheard}

-- ---- how soon one arrives

-- one frame behind the first comes nearer
shifted : (frames ticks place then_place : ℕ) → place ≡ suc then_place → one_later (Arriving (suc frames) ticks) place ≡ one_later (Arriving frames ticks) then_place
shifted frames ticks place then_place is = ap (λ (k : ℕ). one_later (Arriving (suc frames) ticks) k) is ∙ later_once then_place frames

nearer : (x y later : ℕ) → x ≡ y → 0 + x ≤ later → 0 + y ≤ later
nearer x y later same few = omega (arith, same, few)

-- the first arrives in this tick
not_first : (frames ticks place : ℕ) → place ≡ 0 → one_later (Arriving (suc frames) ticks) place ≡ 1 → ⊥
not_first frames ticks place none one =
    let soon : nat_lt place (suc frames) ≡ true = grind (arith, nat_tests, none) in
    let here : one_later (Arriving (suc frames) ticks) place ≡ 0 = ap (λ (b : Bool). if b then 0 else 1) soon in
    absurd (omega (arith, one, here))

first_now : (frames ticks place : ℕ) → place ≡ 0 → one_later (Arriving (suc frames) ticks) place ≡ 0
first_now frames ticks place none = ap (λ (b : Bool). if b then 0 else 1) (let soon : nat_lt place (suc frames) ≡ true = grind (arith, nat_tests, none) in soon)

same_now : (x y : ℕ) → x ≡ y → 0 + x ≡ 0 → 0 + y ≡ 0
same_now x y same none = omega (arith, same, none)

level_now : (x y z : ℕ) → x ≡ y → z ≡ 0 → x ≤ z → 0 + y ≡ 0
level_now x y z same none level = omega (arith, same, none, level)

level_then : (x y z w : ℕ) → x ≡ y → z ≡ w → x ≤ z → y ≤ w
level_then x y z w first second level = omega (arith, first, second, level)

-- ---- what the chip tells

module _ (these : List Bool) where
  abbrev pub Comes : FrameParts → Type 0
  Comes frame = IsFromSaying these TellsPlainly frame

  pub update_told : (update : Update) → Comes (notice_frame (ApplicationUpdate update))
  update_told update n payload e = let no = ap (λ (f : FrameParts). f.func) e in absurd cc

  pub call_told : (sent : Sending) (status : TransmitStatus) → Comes (callback_frame sent status)
  call_told sent status n payload e = let no = ap (λ (f : FrameParts). f.func) e in absurd cc

  plain_told : (frame : Flown) → ComesPlainly these frame → Comes (brings frame.node frame.payload)
  plain_told frame is n other e =
      let same : frame.node ≡ n = ap (λ (f : FrameParts). slice_index f.body 1) e in
      let text : frame.payload ≡ other = ap (λ (f : FrameParts). drop 3 f.body) e in
      (subst (λ (k : ℕ). is_marked these k ≡ true) same is.of, subst TellsPlainly text is.plain)

pub outside_host : (m : Machine) (event : OuterEvent) → (happens m (Outside_does event)).host.state ≡ m.host.state
unfolding happens
outside_host m event = refl

-- ---- a frame arrives

module _ (airs : Airs) (these : List Bool) (n session : ℕ) (message : List ℕ) (m : Machine) (is : Awaits m) (drawn : List ℕ) (route : Option Route) (at : Arrived airs m is drawn route) (given : IsGiven 0 m)
    (then_given : IsGiven 0 (happens m (Outside_does (Arrives drawn route)))) (room : length m.outside.outer.chip.state.port.waiting ≤ 31) (live : IsLive m.outside.outer.air.network at.frame) (frames ticks : ℕ) where
  abbrev then_there : Machine
  then_there = happens m (Outside_does (Arrives drawn route))

  host_same : SameFor n (Arriving (suc frames) ticks) m.host.state then_there.host.state
  host_same = same_for n (Arriving (suc frames) ticks) m.host.state then_there.host.state (outside_host m (Arrives drawn route))

  -- one of a device
  module _ (home : at.frame.heading ≡ Homeward) where
    air_then : on_air then_there.outside.outer.air.frames ≡ at.rest
    air_then = home_leaves airs m is drawn route at home live

    amid_then : (Is : Flown → Type 0) (on : Amid (ComesPlainly these) Is at.rest) → (there : Amid (ComesPlainly these) Is (on_air then_there.outside.outer.air.frames)) × (there.before ≡ on.before)
    amid_then Is on = (record { before = on.before; one = on.one; behind = on.behind; are = air_then ∙ on.are; each = on.each; is = on.is; rest = on.rest }, refl)

    amid_two_then : (First Second : Flown → Type 0) (on : AmidTwo (ComesPlainly these) First Second at.rest) → (there : AmidTwo (ComesPlainly these) First Second (on_air then_there.outside.outer.air.frames)) × ((there.before ≡ on.before) × (there.rest.before ≡ on.rest.before))
    amid_two_then First Second on = (record { before = on.before; first = on.first; behind = on.behind; are = air_then ∙ on.are; each = on.each; is = on.is; rest = on.rest }, (refl, refl))

  else_then : (next : ℕ) → IsElse n next m → IsElse n next then_there
  else_then next e = record { no_task = host_same.queue ∙ e.no_task; next_is = host_same.next_is ∙ e.next_is }

  give_then : (place next : ℕ) → IsToGive n session message place next (Arriving (suc frames) ticks) m → IsToGive n session message place next (Arriving frames ticks) then_there
  give_then place next (Owed owed none next_is less follows) = Owed tt (host_same.queue ∙ none) (host_same.next_is ∙ next_is) (subst (λ (k : ℕ). place < k) (sym host_same.count) less) follows
  give_then place next (Waits owed waits next_is) = Waits tt (host_same.queue ∙ waits) (host_same.next_is ∙ next_is)
  give_then place next (Given request asking none under_way carries line next_is) = absurd asking

  -- what the chip has for the host then
  module _ (more : More (Comes these) (unheard m.outside.outer) (unheard then_there.outside.outer)) where
    told_then : AllTold these (unheard m.outside.outer) → AllTold these (unheard then_there.outside.outer)
    told_then all = subst (AllTold these) (sym more.are) (all-append (Comes these) (unheard m.outside.outer) more.more all more.each)

    asked_then : (place : ℕ) → Asked these n session place m → Asked these n session place then_there
    asked_then place asked =
        let on = amid_more (Comes these) (IsAskTold n session place) (unheard m.outside.outer) (unheard then_there.outside.outer) more.more more.are more.each asked.at in
        record { at = on.0; first = subst (λ (behind : List FrameParts). HasCall then_there.host.state.requests.last_id behind ⊎ ((node_of then_there.host.state n).segments ≤ (node_of then_there.host.state n).next_segment)) (sym on.1.1) (by asked.first) }
      where
        by : HasCall m.host.state.requests.last_id asked.at.behind ⊎ ((node_of m.host.state n).segments ≤ (node_of m.host.state n).next_segment)
            → HasCall then_there.host.state.requests.last_id (asked.at.behind ++ more.more) ⊎ ((node_of then_there.host.state n).segments ≤ (node_of then_there.host.state n).next_segment)
        by (inl call) = inl (call_before then_there.host.state.requests.last_id asked.at.behind more.more (subst (λ (id : ℕ). HasCall id asked.at.behind) (sym host_same.last_id) call))
        by (inr none) = inr (subst (λ (k : ℕ). k ≤ (node_of then_there.host.state n).next_segment) (sym host_same.count) (subst (λ (k : ℕ). (node_of m.host.state n).segments ≤ k) (sym host_same.next_is) none))

  -- of a device, which asks for nothing
  plain_more : ComesPlainly these at.frame → More (Comes these) (unheard m.outside.outer) (unheard then_there.outside.outer)
  plain_more plain = homeward_unheard (Comes these) (update_told these) (call_told these) m drawn route given then_given at.frame at.next plain.home live (plain_told these at.frame plain)

  -- of the device, which asks for a segment: the chip has that for the host
  ask_told : (place : ℕ) → IsAsk n session place at.frame → AllTold these (unheard m.outside.outer) → (told : Amid (Comes these) (IsAskTold n session place) (unheard then_there.outside.outer)) × (told.behind ≡ [])
  ask_told place ask all =
      let are : unheard then_there.outside.outer ≡ unheard m.outside.outer ++ brings at.frame.node at.frame.payload ∷ [] = home_comes m drawn route at.frame at.next ask.home live ask.asks.some ask.asks.few given then_given room in (
        record {
          before = unheard m.outside.outer;
          one = brings at.frame.node at.frame.payload;
          behind = [];
          are = are;
          each = all;
          is = record { payload = at.frame.payload; asks = ask.asks; is = ap (λ (k : ℕ). brings k at.frame.payload) ask.node };
          rest = tt;
        },
        refl,
      )

  -- it is the segment that the device is to hear, and no other frame of the host is on the air
  pub record HearsNow (next : ℕ) (hears : ToHear) : Type 0 where
    pub place : ℕ
    pub first_is : heard_first hears ≡ place
    pub frame_is : IsOnAir n (segment_at session message place) at.frame
    pub plain : AllPlain these at.rest
    pub other : IsElse n next m
    pub told : ((hears ≡ Hears_one place) × AllTold these (unheard m.outside.outer)) ⊎ ((k : ℕ) × ((hears ≡ Hears_two place k) × Amid (Comes these) (IsAskTold n session k) (unheard m.outside.outer)))

  abbrev StaysOr : ℕ → ℕ → ToHear → Type 0
  StaysOr next later hears = ((at.frame.heading ≡ Homeward) × OnWay these n session message next later (Arriving frames ticks) then_there hears) ⊎ HearsNow next hears

  module _ (next later : ℕ) (hears : ToHear) where
    aired_arrives : (place : ℕ) → hears ≡ Hears_one place → IsElse n next m → (on : Amid (ComesPlainly these) (IsOnAir n (segment_at session message place)) (at.frame ∷ at.rest)) → AllTold these (unheard m.outside.outer)
        → 0 + one_later (Arriving (suc frames) ticks) (length on.before) ≤ later → StaysOr next later hears
    aired_arrives place is_one other on told few = by (amid_next (ComesPlainly these) (IsOnAir n (segment_at session message place)) at.frame at.rest on)
      where
        by : (IsOnAir n (segment_at session message place) at.frame × (AllPlain these at.rest × (length on.before ≡ 0)))
            ⊎ (ComesPlainly these at.frame × ((then_on : Amid (ComesPlainly these) (IsOnAir n (segment_at session message place)) at.rest) × ((length on.before ≡ suc (length then_on.before)) × (then_on.behind ≡ on.behind)))) → StaysOr next later hears
        by (inl (frame_is, (plain, none))) = inr (record { place = place; first_is = ap heard_first is_one; frame_is = frame_is; plain = plain; other = other; told = inl (is_one, told) })
        by (inr (plain, (then_on, (place_is, same)))) =
            let there = amid_then plain.home (IsOnAir n (segment_at session message place)) then_on in
            let place_then : length on.before ≡ suc (length there.0.before) = place_is ∙ ap (λ (l : List Flown). suc (length l)) (sym there.1) in
            inl (
              plain.home,
              Aired place is_one (else_then next other) there.0 (told_then (plain_more plain) told)
                  (nearer (one_later (Arriving (suc frames) ticks) (length on.before)) (one_later (Arriving frames ticks) (length there.0.before)) later (shifted frames ticks (length on.before) (length there.0.before) place_then) few),
            )

    aired_told_arrives : (place k : ℕ) → hears ≡ Hears_two place k → IsElse n next m → (on : Amid (ComesPlainly these) (IsOnAir n (segment_at session message place)) (at.frame ∷ at.rest)) → Amid (Comes these) (IsAskTold n session k) (unheard m.outside.outer)
        → 0 + one_later (Arriving (suc frames) ticks) (length on.before) ≡ 0 → StaysOr next later hears
    aired_told_arrives place k is_two other on told few = by (amid_next (ComesPlainly these) (IsOnAir n (segment_at session message place)) at.frame at.rest on)
      where
        by : (IsOnAir n (segment_at session message place) at.frame × (AllPlain these at.rest × (length on.before ≡ 0)))
            ⊎ (ComesPlainly these at.frame × ((then_on : Amid (ComesPlainly these) (IsOnAir n (segment_at session message place)) at.rest) × ((length on.before ≡ suc (length then_on.before)) × (then_on.behind ≡ on.behind)))) → StaysOr next later hears
        by (inl (frame_is, (plain, none))) = inr (record { place = place; first_is = ap heard_first is_two; frame_is = frame_is; plain = plain; other = other; told = inr (k, (is_two, told)) })
        by (inr (plain, (then_on, (place_is, same)))) =
            let there = amid_then plain.home (IsOnAir n (segment_at session message place)) then_on in
            let place_then : length on.before ≡ suc (length there.0.before) = place_is ∙ ap (λ (l : List Flown). suc (length l)) (sym there.1) in
            let more = plain_more plain in
            inl (
              plain.home,
              Aired_told place k is_two (else_then next other) there.0 (amid_more (Comes these) (IsAskTold n session k) (unheard m.outside.outer) (unheard then_there.outside.outer) more.more more.are more.each told).0
                  (same_now (one_later (Arriving (suc frames) ticks) (length on.before)) (one_later (Arriving frames ticks) (length there.0.before)) (shifted frames ticks (length on.before) (length there.0.before) place_then) few),
            )

    aired_two_arrives : (place k : ℕ) → hears ≡ Hears_two place k → IsElse n next m → (on : AmidTwo (ComesPlainly these) (IsAsk n session k) (IsOnAir n (segment_at session message place)) (at.frame ∷ at.rest)) → AllTold these (unheard m.outside.outer)
        → one_later (Arriving (suc frames) ticks) (length on.before + (1 + length on.rest.before)) ≤ one_later (Arriving (suc frames) ticks) (length on.before) → 0 + one_later (Arriving (suc frames) ticks) (length on.before + (1 + length on.rest.before)) ≤ later → StaysOr next later hears
    aired_two_arrives place k is_two other on told level few = by (amid_two_next (ComesPlainly these) (IsAsk n session k) (IsOnAir n (segment_at session message place)) at.frame at.rest on)
      where
        by : (IsAsk n session k at.frame × ((then_on : Amid (ComesPlainly these) (IsOnAir n (segment_at session message place)) at.rest) × ((length on.before ≡ 0) × (length then_on.before ≡ length on.rest.before))))
            ⊎ (ComesPlainly these at.frame × ((then_on : AmidTwo (ComesPlainly these) (IsAsk n session k) (IsOnAir n (segment_at session message place)) at.rest) × ((length on.before ≡ suc (length then_on.before)) × (length then_on.rest.before ≡ length on.rest.before))))
            → StaysOr next later hears
        by (inl (ask, (then_on, (none, rest_is)))) =
            let there = amid_then ask.home (IsOnAir n (segment_at session message place)) then_on in
            let then_is : length there.0.before ≡ length then_on.before = ap (λ (l : List Flown). length l) there.1 in
            let place_then : length on.before + (1 + length on.rest.before) ≡ suc (length there.0.before) = omega (arith, none, rest_is, then_is) in
            inl (
              ask.home,
              Aired_told place k is_two (else_then next other) there.0 (ask_told k ask told).0
                  (level_now (one_later (Arriving (suc frames) ticks) (length on.before + (1 + length on.rest.before))) (one_later (Arriving frames ticks) (length there.0.before)) (one_later (Arriving (suc frames) ticks) (length on.before))
                  (shifted frames ticks (length on.before + (1 + length on.rest.before)) (length there.0.before) place_then) (first_now frames ticks (length on.before) none) level),
            )
        by (inr (plain, (then_on, (place_is, rest_is)))) =
            let there = amid_two_then plain.home (IsAsk n session k) (IsOnAir n (segment_at session message place)) then_on in
            let first_is : length there.0.before ≡ length then_on.before = ap (λ (l : List Flown). length l) there.1.0 in
            let second_is : length there.0.rest.before ≡ length then_on.rest.before = ap (λ (l : List Flown). length l) there.1.1 in
            let place_then : length on.before + (1 + length on.rest.before) ≡ suc (length there.0.before + (1 + length there.0.rest.before)) = omega (arith, place_is, rest_is, first_is, second_is) in
            inl (
              plain.home,
              Aired_two place k is_two (else_then next other) there.0 (told_then (plain_more plain) told)
                  (level_then (one_later (Arriving (suc frames) ticks) (length on.before + (1 + length on.rest.before))) (one_later (Arriving frames ticks) (length there.0.before + (1 + length there.0.rest.before)))
                  (one_later (Arriving (suc frames) ticks) (length on.before)) (one_later (Arriving frames ticks) (length there.0.before))
                  (shifted frames ticks (length on.before + (1 + length on.rest.before)) (length there.0.before + (1 + length there.0.rest.before)) place_then)
                  (shifted frames ticks (length on.before) (length there.0.before) (omega (arith, place_is, first_is))) level)
                  (nearer (one_later (Arriving (suc frames) ticks) (length on.before + (1 + length on.rest.before))) (one_later (Arriving frames ticks) (length there.0.before + (1 + length there.0.rest.before))) later
                  (shifted frames ticks (length on.before + (1 + length on.rest.before)) (length there.0.before + (1 + length there.0.rest.before)) place_then) few),
            )

    -- a Segment Request that arrives in the next tick
    later_ask : (k : ℕ) → (on : Amid (ComesPlainly these) (IsAsk n session k) (at.frame ∷ at.rest)) → one_later (Arriving (suc frames) ticks) (length on.before) ≡ 1
        → ComesPlainly these at.frame × ((there : Amid (ComesPlainly these) (IsAsk n session k) (on_air then_there.outside.outer.air.frames)) × (one_later (Arriving frames ticks) (length there.before) ≡ 1))
    later_ask k on one = by (amid_next (ComesPlainly these) (IsAsk n session k) at.frame at.rest on)
      where
        by : (IsAsk n session k at.frame × (AllPlain these at.rest × (length on.before ≡ 0)))
            ⊎ (ComesPlainly these at.frame × ((then_on : Amid (ComesPlainly these) (IsAsk n session k) at.rest) × ((length on.before ≡ suc (length then_on.before)) × (then_on.behind ≡ on.behind))))
            → ComesPlainly these at.frame × ((there : Amid (ComesPlainly these) (IsAsk n session k) (on_air then_there.outside.outer.air.frames)) × (one_later (Arriving frames ticks) (length there.before) ≡ 1))
        by (inl (ask, (all, none))) = absurd (not_first frames ticks (length on.before) none one)
        by (inr (plain, (then_on, (place_is, same)))) =
            let there = amid_then plain.home (IsAsk n session k) then_on in
            let place_then : length on.before ≡ suc (length there.0.before) = place_is ∙ ap (λ (l : List Flown). suc (length l)) (sym there.1) in
            (plain, (there.0, sym (shifted frames ticks (length on.before) (length there.0.before) place_then) ∙ one))

    asks_arrives : (place : ℕ) → hears ≡ Asks_one place → IsElse n next m → (node_of m.host.state n).segments ≤ next → (on : Amid (ComesPlainly these) (IsAsk n session place) (at.frame ∷ at.rest)) → AllTold these (unheard m.outside.outer)
        → 0 + one_later (Arriving (suc frames) ticks) (length on.before) ≤ later → StaysOr next later hears
    asks_arrives place is_one other none on told few = by (amid_next (ComesPlainly these) (IsAsk n session place) at.frame at.rest on)
      where
        none_then : (node_of then_there.host.state n).segments ≤ next
        none_then = subst (λ (k : ℕ). k ≤ next) (sym host_same.count) none

        by : (IsAsk n session place at.frame × (AllPlain these at.rest × (length on.before ≡ 0)))
            ⊎ (ComesPlainly these at.frame × ((then_on : Amid (ComesPlainly these) (IsAsk n session place) at.rest) × ((length on.before ≡ suc (length then_on.before)) × (then_on.behind ≡ on.behind)))) → StaysOr next later hears
        by (inl (ask, (plain, first))) =
            inl (
              ask.home,
              Asks_told place is_one (else_then next other) tt (subst (AllPlain these) (sym (air_then ask.home)) plain)
                  (record { at = (ask_told place ask told).0; first = inr (subst (λ (k : ℕ). (node_of then_there.host.state n).segments ≤ k) (sym (else_then next other).next_is) none_then) }),
            )
        by (inr (plain, (then_on, (place_is, same)))) =
            let there = amid_then plain.home (IsAsk n session place) then_on in
            let place_then : length on.before ≡ suc (length there.0.before) = place_is ∙ ap (λ (l : List Flown). suc (length l)) (sym there.1) in
            inl (
              plain.home,
              Asks place is_one (else_then next other) tt none_then there.0 (told_then (plain_more plain) told)
                  (nearer (one_later (Arriving (suc frames) ticks) (length on.before)) (one_later (Arriving frames ticks) (length there.0.before)) later (shifted frames ticks (length on.before) (length there.0.before) place_then) few),
            )

    -- the frames as they were, the first of which arrives
    first_of : (Is : Flown → Type 0) (on : Amid (ComesPlainly these) Is (on_air m.outside.outer.air.frames)) → (first : Amid (ComesPlainly these) Is (at.frame ∷ at.rest)) × (first.before ≡ on.before)
    first_of Is on = (record { before = on.before; one = on.one; behind = on.behind; are = sym at.were ∙ on.are; each = on.each; is = on.is; rest = on.rest }, refl)

    pub arrives_or : OnWay these n session message next later (Arriving (suc frames) ticks) m hears → StaysOr next later hears
    arrives_or (To_give place is_one give all told some) =
        let plain = subst (AllPlain these) at.were all in
        inl (plain.0.home, To_give place is_one (give_then place next give) (subst (AllPlain these) (sym (air_then plain.0.home)) plain.1) (told_then (plain_more plain.0) told) some)
    arrives_or (Aired place is_one other on told few) =
        let first = first_of (IsOnAir n (segment_at session message place)) on in
        aired_arrives place is_one other first.0 told (subst (λ (l : List Flown). 0 + one_later (Arriving (suc frames) ticks) (length l) ≤ later) (sym first.1) few)
    arrives_or (To_give_two place k is_two give on one told some) =
        let first = first_of (IsAsk n session k) on in
        let there = later_ask k first.0 (ap (λ (l : List Flown). one_later (Arriving (suc frames) ticks) (length l)) first.1 ∙ one) in
        inl (there.0.home, To_give_two place k is_two (give_then place next give) there.1.0 there.1.1 (told_then (plain_more there.0) told) some)
    arrives_or (Aired_two place k is_two other on told level few) =
        aired_two_arrives place k is_two other (record { before = on.before; first = on.first; behind = on.behind; are = sym at.were ∙ on.are; each = on.each; is = on.is; rest = on.rest }) told level few
    arrives_or (Aired_told place k is_two other on told few) =
        let first = first_of (IsOnAir n (segment_at session message place)) on in
        aired_told_arrives place k is_two other first.0 told (subst (λ (l : List Flown). 0 + one_later (Arriving (suc frames) ticks) (length l) ≡ 0) (sym first.1) few)
    arrives_or (Asks place is_one other is_free none on told few) =
        let first = first_of (IsAsk n session place) on in
        asks_arrives place is_one other none first.0 told (subst (λ (l : List Flown). 0 + one_later (Arriving (suc frames) ticks) (length l) ≤ later) (sym first.1) few)
    arrives_or (Asks_told place is_one other owed all asked) =
        let plain = subst (AllPlain these) at.were all in
        inl (plain.0.home, Asks_told place is_one (else_then next other) tt (subst (AllPlain these) (sym (air_then plain.0.home)) plain.1) (asked_then (plain_more plain.0) place asked))
    arrives_or (Asks_told_two place k is_two other owed asked on one some) =
        let first = first_of (IsAsk n session k) on in
        let there = later_ask k first.0 (ap (λ (l : List Flown). one_later (Arriving (suc frames) ticks) (length l)) first.1 ∙ one) in
        inl (there.0.home, Asks_told_two place k is_two (else_then next other) tt (asked_then (plain_more there.0) place asked) there.1.0 there.1.1 some)
