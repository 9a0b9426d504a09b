-- What the chip writes keeps the count of collisions: a good frame is answered CAN where one is still to come, which uses it up, and ACK where none is.
use Rattle.std.proofs.Common.{◌≡◌, ℕ, suc, ◌+◌, ◌-◌, ◌<◌, Bool, true, false, List, [], ◌∷◌, ◌++◌, map, filter, nat_lt, refl, sym, ap, ◌∙◌, subst, arith}
use Rattle.std.specs.Prelude.{Option}
use Rattle.std.specs.List.{flat_map, range_with_len, AllByRecursion}
use Rattle.std.proofs.lemmas.Bool.{ltb-true, ltb-false}
use Rattle.zw_base.proofs.Each.{all-append}
use Rattle.serial_frame.specs.Frame.{FrameParts}
use Rattle.serial_frame.specs.Items.{unit_text}
use Rattle.serial_frame.specs.declared.item.Item.TheVariants.{Good, Refused}
use Rattle.serial_frame.specs.declared.unit.Unit.TheVariants.{Ack, Nak, Can, Framed}
use Rattle.route_table.specs.declared.route.Route.{Route}
use Rattle.serial_pipes.specs.State.{mark_for}
use Rattle.serial_pipes.specs.Events.{told, told_by}
use Rattle.zw_words.specs.declared.side.Side.TheVariants.{Host as by_host, Chip as by_chip}
use Rattle.zw_text.specs.declared.entry.Entry.{Entry}
use Rattle.zw_text.specs.declared.entry.Entry.TheVariants as entry
use Rattle.law_wire.specs.Marks.{collisions, cans, MayCollide}
use Rattle.chip_sim.specs.Waiting.{PortState}
use Rattle.chip_sim.specs.State.{ChipState}
use Rattle.chip_sim.specs.Requests.{passed, heard, answer_outs, judged_outs}
use Rattle.chip_sim.specs.Events.{ChipEvent, Judged, Ticked, Heard, Done, Informed, Joined, Linked, Forgets, Collides, after, outs, collides}
use Rattle.chip_sim.specs.Did.{after_all}
use Rattle.chip_sim.specs.declared.out.ChipOut.{ChipOut}
use Rattle.chip_sim.specs.declared.out.ChipOut.TheVariants.{Write, OnAir, NoRoute, AskInfo, Full}
use Rattle.proof_world.specs.device_sim.State.{State}
use Rattle.proof_walk.specs.mesh_sim.Air.{AirState, joining}
use Rattle.proof_walk.specs.mesh_sim.Fates.{place_of}
use Rattle.proof_walk.proofs.Lists.{each-anywhere}
use Rattle.proof_walk.specs.outside_model.State.{OuterState, Outside, outside, Outcome, each, with_chip}
use Rattle.proof_walk.specs.outside_model.Chip.{put_out, chip_does}
use Rattle.proof_walk.specs.outside_model.Results.{device_at}
use Rattle.proof_walk.specs.outside_model.Nodes.{links_of, pairs_of, all_pairs, listens_at, joins, discovers, is_known}
use Rattle.proof_walk.specs.outside_model.Events.{OuterEvent, Host_writes, Host_takes, Host_notes, Shows, Joins, Discovers, Links, Loses, Loses_acks, Marks_loss, Marks_change, Clears_pipe, Collides_next, Stalls, Cuts, outcome}
use Rattle.proof_walk.specs.Outside.{Moves, Comes, Link, IsSimple, IsDone}
use Rattle.proof_walk.proofs.Moving.{moves_none, moves_both}
use Rattle.proof_line.specs.Collisions.{link_collisions, Tie, IsNoCollision}
use Rattle.proof_line.proofs.Units.{IsOther, AreOther, IsNoAnswer, event_other, judged_other, event_left, frame_left, AsksNoCollision}
use Rattle.proof_line.proofs.Counting.{cans_grow, collisions_grow, IsUncounted, AreUncounted, uncounted, uncounted_stands, note_uncounted, air_uncounted, told_by_uncounted, host_uncounted, cleared_uncounted, shown_uncounted}

-- ---- sums

counted_same : (c c' n n' x k k' : ℕ) → c' ≡ c + 0 → n' ≡ n → k' ≡ k + 0 → c + (n + x) ≡ k → c' + (n' + x) ≡ k'
counted_same c c' n n' x k k' cans link asked ties = omega arith

counted_used : (c c' n n' k k' : ℕ) → 0 < n → n' ≡ n - 1 → c' ≡ c + 1 → k' ≡ k + 0 → c + (n + 0) ≡ k → c' + (n' + 0) ≡ k'
counted_used c c' n n' k k' some link cans asked ties = omega arith

-- ---- nothing is counted

module _ (extra : ℕ) where
  pub unchanged : (w later : Outside) (told : List Entry) → AreUncounted told → link_collisions later.outer ≡ link_collisions w.outer → Moves MayCollide (Tie extra) w told (Tie extra) later
  unchanged w later told none same awaits past silent ties =
      let added = uncounted told none in
      let more : cans (past ++ told) ≡ cans past + 0 = cans_grow past told ∙ ap (λ (n : ℕ). cans past + n) added.0 in
      let asked : collisions (past ++ told) ≡ collisions past + 0 = collisions_grow past told ∙ ap (λ (n : ℕ). collisions past + n) added.1 in (
        each-anywhere MayCollide IsUncounted uncounted_stands past told none,
        counted_same (cans past) (cans (past ++ told)) (link_collisions w.outer) (link_collisions later.outer) extra (collisions past) (collisions (past ++ told)) more same asked ties,
      )

  module _ (devices : List State) where
    put_moves : (o : OuterState) (out : ChipOut) → IsOther out → Comes MayCollide (Tie extra) (outside o devices) (put_out o out) devices (Tie extra)
    put_moves o (Write Ack) other = absurd other
    put_moves o (Write Can) other = absurd other
    put_moves o (Write Nak) other =
        unchanged (outside o devices) (outside (put_out o (Write Nak)).outer devices) (told by_chip o.to_host Nak)
        ((refl, refl), told_by_uncounted by_chip o.to_host.bytes (mark_for o.to_host.marks Nak) (unit_text Nak)) refl
    put_moves o (Write (Framed f)) other =
        unchanged (outside o devices) (outside (put_out o (Write (Framed f))).outer devices) (told by_chip o.to_host (Framed f))
        ((refl, refl), told_by_uncounted by_chip o.to_host.bytes (mark_for o.to_host.marks (Framed f)) (unit_text (Framed f))) refl
    put_moves o (OnAir to route payload) other = unchanged (outside o devices) (outside (put_out o (OnAir to route payload)).outer devices) (put_out o (OnAir to route payload)).entries (tt, tt) refl
    put_moves o NoRoute other = unchanged (outside o devices) (outside (put_out o NoRoute).outer devices) [] tt refl
    put_moves o (AskInfo node) other = unchanged (outside o devices) (outside (put_out o (AskInfo node)).outer devices) [] tt refl
    put_moves o Full other = unchanged (outside o devices) (outside (put_out o Full).outer devices) (entry.ChipFull ∷ []) (tt, tt) refl

    puts_move : (puts : List ChipOut) (o : OuterState) → AreOther puts → Comes MayCollide (Tie extra) (outside o devices) (each put_out o puts) devices (Tie extra)
    puts_move [] o other = moves_none MayCollide (Tie extra) (outside o devices)
    puts_move (out ∷ puts) o other =
        let one : Outcome = put_out o out in
        moves_both MayCollide (Tie extra) (Tie extra) (Tie extra) (outside o devices) (outside one.outer devices) (outside (each put_out one.outer puts).outer devices)
        one.entries (each put_out one.outer puts).entries (put_moves o out other.0) (puts_move puts one.outer other.1)

-- ---- a good frame is answered

module _ (devices : List State) (o p : OuterState) where
  can_comes : 0 < link_collisions o → link_collisions p ≡ link_collisions o - 1 → Comes MayCollide (Tie 0) (outside o devices) (put_out p (Write Can)) devices (Tie 0)
  can_comes some used awaits past silent ties =
      let rest : List Entry = told_by by_chip p.to_host.bytes (mark_for p.to_host.marks Can) (unit_text Can) in
      let whole : List Entry = entry.Written by_chip (unit_text Can) ∷ rest in
      let none = told_by_uncounted by_chip p.to_host.bytes (mark_for p.to_host.marks Can) (unit_text Can) in
      let added = uncounted rest none in
      let more : cans (past ++ whole) ≡ cans past + 1 = cans_grow past whole ∙ ap (λ (n : ℕ). cans past + suc n) added.0 in
      let asked : collisions (past ++ whole) ≡ collisions past + 0 = collisions_grow past whole ∙ ap (λ (n : ℕ). collisions past + n) added.1 in
      let below : cans past < collisions past = can_below (cans past) (link_collisions o) (collisions past) some ties in (
        (below, each-anywhere MayCollide IsUncounted uncounted_stands (past ++ entry.Written by_chip (unit_text Can) ∷ []) rest none),
        counted_used (cans past) (cans (past ++ whole)) (link_collisions o) (link_collisions p) (collisions past) (collisions (past ++ whole)) some used more asked ties,
      )
    where
      can_below : (c n k : ℕ) → 0 < n → c + (n + 0) ≡ k → c < k
      can_below c n k some ties = omega arith

  ack_comes : link_collisions o ≡ 0 → link_collisions p ≡ link_collisions o - 1 → Comes MayCollide (Tie 0) (outside o devices) (put_out p (Write Ack)) devices (Tie 0)
  ack_comes none used awaits past silent ties =
      let rest : List Entry = told_by by_chip p.to_host.bytes (mark_for p.to_host.marks Ack) (unit_text Ack) in
      let whole : List Entry = entry.Written by_chip (unit_text Ack) ∷ rest in
      let free = told_by_uncounted by_chip p.to_host.bytes (mark_for p.to_host.marks Ack) (unit_text Ack) in
      let added = uncounted rest free in
      let more : cans (past ++ whole) ≡ cans past + 0 = cans_grow past whole ∙ ap (λ (n : ℕ). cans past + n) added.0 in
      let asked : collisions (past ++ whole) ≡ collisions past + 0 = collisions_grow past whole ∙ ap (λ (n : ℕ). collisions past + n) added.1 in (
        (all_come (cans past) (link_collisions o) (collisions past) none ties, each-anywhere MayCollide IsUncounted uncounted_stands (past ++ entry.Written by_chip (unit_text Ack) ∷ []) rest free),
        counted_same (cans past) (cans (past ++ whole)) (link_collisions o) (link_collisions p) 0 (collisions past) (collisions (past ++ whole)) more (still (link_collisions o) (link_collisions p) none used) asked ties,
      )
    where
      all_come : (c n k : ℕ) → n ≡ 0 → c + (n + 0) ≡ k → c ≡ k
      all_come c n k none ties = omega arith

      still : (n n' : ℕ) → n ≡ 0 → n' ≡ n - 1 → n' ≡ n
      still n n' none used = omega arith

  answered : (b : Bool) (f : FrameParts) (rest : List ChipOut) → nat_lt 0 (link_collisions o) ≡ b → link_collisions p ≡ link_collisions o - 1 → AreOther rest
      → Comes MayCollide (Tie 0) (outside o devices) (each put_out p (answer_outs b (Good (Framed f)) ++ rest)) devices (Tie 0)
  answered true f rest is used other =
      let one : Outcome = put_out p (Write Can) in
      moves_both MayCollide (Tie 0) (Tie 0) (Tie 0) (outside o devices) (outside one.outer devices) (outside (each put_out one.outer rest).outer devices)
      one.entries (each put_out one.outer rest).entries (can_comes (ltb-true 0 (link_collisions o) is) used) (puts_move 0 devices rest one.outer other)
  answered false f rest is used other =
      let one : Outcome = put_out p (Write Ack) in
      moves_both MayCollide (Tie 0) (Tie 0) (Tie 0) (outside o devices) (outside one.outer devices) (outside (each put_out one.outer rest).outer devices)
      one.entries (each put_out one.outer rest).entries (ack_comes (no_more (link_collisions o) is) used) (puts_move 0 devices rest one.outer other)
    where
      no_more : (n : ℕ) → nat_lt 0 n ≡ false → n ≡ 0
      no_more n is = let few = ltb-false 0 n is in omega arith

-- ---- events of the chip

other_comes : (w : Outside) (event : ChipEvent) → IsNoAnswer event → AsksNoCollision event → Comes MayCollide (Tie 0) w (chip_does w.outer event) w.devices (Tie 0)
unfolding chip_does
other_comes w event no_answer asks_none =
    let p : OuterState = with_chip w.outer (after w.outer.chip.state event) in
    let x : Outcome = each put_out p (outs w.outer.chip.state event) in
    moves_both MayCollide (Tie 0) (Tie 0) (Tie 0) w (outside p w.devices) (outside x.outer w.devices) [] x.entries
    (unchanged 0 w (outside p w.devices) [] tt (event_left w.outer.chip.state event no_answer asks_none))
    (puts_move 0 w.devices (outs w.outer.chip.state event) p (event_other w.outer.chip.state event no_answer))

frame_comes : (w : Outside) (f : FrameParts) (way : Option Route) → Comes MayCollide (Tie 0) w (chip_does w.outer (Judged (Good (Framed f)) way)) w.devices (Tie 0)
unfolding chip_does
frame_comes w f way =
    let s : ChipState = w.outer.chip.state in
    answered w.devices w.outer (with_chip w.outer (after s (Judged (Good (Framed f)) way))) (collides s) f (judged_outs (passed (collides s) (Good (Framed f))) (heard s (Good (Framed f))) way) refl
    (frame_left s f way) (judged_other (passed (collides s) (Good (Framed f))) (heard s (Good (Framed f))) way)

chip_comes : (w : Outside) (event : ChipEvent) → IsDone event → Comes MayCollide (Tie 0) w (chip_does w.outer event) w.devices (Tie 0)
chip_comes w (Judged (Good (Framed f)) way) done = frame_comes w f way
chip_comes w (Judged (Good Ack) way) done = other_comes w (Judged (Good Ack) way) tt tt
chip_comes w (Judged (Good Nak) way) done = other_comes w (Judged (Good Nak) way) tt tt
chip_comes w (Judged (Good Can) way) done = other_comes w (Judged (Good Can) way) tt tt
chip_comes w (Judged (Refused r) way) done = other_comes w (Judged (Refused r) way) tt tt
chip_comes w Ticked done = other_comes w Ticked tt tt
chip_comes w (Heard n payload) done = other_comes w (Heard n payload) tt tt
chip_comes w (Done status) done = other_comes w (Done status) tt tt
chip_comes w (Informed n profile) done = other_comes w (Informed n profile) tt tt
chip_comes w (Forgets a b) done = other_comes w (Forgets a b) tt tt
chip_comes w (Joined n listening) done = absurd done
chip_comes w (Linked a b live) done = absurd done
chip_comes w Collides done = absurd done

-- ---- what the chip learns of links

abbrev pub IsLinked : ChipEvent → Type 0
IsLinked (Linked a b live) = Unit {0}
IsLinked _ = ⊥

linked_port : (events : List ChipEvent) (s : ChipState) → AllByRecursion IsLinked events → (after_all s events).port ≡ s.port
linked_port [] s linked = refl
linked_port (Linked a b live ∷ events) s linked = linked_port events (after s (Linked a b live)) linked.1
linked_port (event ∷ events) s linked = absurd linked.0

pub all_linked : (links : ℕ → ChipEvent) → ((n : ℕ) → IsLinked (links n)) → (l : List ℕ) → AllByRecursion IsLinked (map links l)
all_linked links are [] = tt
all_linked links are (n ∷ l) = (are n, all_linked links are l)

pub pairs_linked : (air : AirState) (l : List ℕ) → AllByRecursion IsLinked (flat_map (λ (node : ℕ). pairs_of air node) l)
pairs_linked air [] = tt
pairs_linked air (node ∷ l) = all-append IsLinked (pairs_of air node) (flat_map (λ (n : ℕ). pairs_of air n) l) (all_linked _ (λ n. tt) _) (pairs_linked air l)

-- its port stays
pub joins_port : (o : OuterState) (node : ℕ) (listening : Bool) → (joins o node listening).chip.state.port ≡ o.chip.state.port
joins_port o node listening = linked_port (links_of (joining o.air node listening) node) (after o.chip.state (Joined node listening)) (all_linked _ (λ n. tt) _)

pub discovers_port : (o : OuterState) → (discovers o).chip.state.port ≡ o.chip.state.port
unfolding all_pairs
discovers_port o = linked_port (all_pairs o.air) o.chip.state (pairs_linked o.air (filter (λ (node : ℕ). is_known o.air node) (range_with_len 1 232)))

-- ---- simple events

simple_comes : (w : Outside) (event : OuterEvent) → IsSimple event → IsNoCollision event → Comes MayCollide (Tie 0) w (outcome w event) w.devices (Tie 0)
unfolding outcome
simple_comes w Collides_next simple none = absurd none
simple_comes w (Host_writes unit) simple none = unchanged 0 w (outside (outcome w (Host_writes unit)).outer w.devices) (told by_host w.outer.to_chip unit) (host_uncounted w.outer.to_chip unit) refl
simple_comes w (Host_takes count) simple none = unchanged 0 w (outside (outcome w (Host_takes count)).outer w.devices) [] tt refl
simple_comes w (Host_notes note) simple none = unchanged 0 w w (note ∷ []) (note_uncounted note simple.0, tt) refl
simple_comes w (Shows node) simple none =
    unchanged 0 w w (outcome w (Shows node)).entries (shown_uncounted node (device_at w.devices (place_of node w.devices))) refl
simple_comes w (Joins node) simple none =
    unchanged 0 w (outside (outcome w (Joins node)).outer w.devices) [] tt (ap (λ (p : PortState). p.side.collisions) (joins_port w.outer node (listens_at (device_at w.devices (place_of node w.devices)))))
simple_comes w Discovers simple none = unchanged 0 w (outside (outcome w Discovers).outer w.devices) [] tt (ap (λ (p : PortState). p.side.collisions) (discovers_port w.outer))
simple_comes w (Links a b live) simple none = unchanged 0 w (outside (outcome w (Links a b live)).outer w.devices) [] tt refl
simple_comes w (Loses count) simple none = unchanged 0 w (outside (outcome w (Loses count)).outer w.devices) [] tt refl
simple_comes w (Loses_acks count) simple none = unchanged 0 w (outside (outcome w (Loses_acks count)).outer w.devices) [] tt refl
simple_comes w (Marks_loss by_host) simple none = unchanged 0 w (outside (outcome w (Marks_loss by_host)).outer w.devices) [] tt refl
simple_comes w (Marks_loss by_chip) simple none = unchanged 0 w (outside (outcome w (Marks_loss by_chip)).outer w.devices) [] tt refl
simple_comes w (Marks_change by_host garble) simple none = unchanged 0 w (outside (outcome w (Marks_change by_host garble)).outer w.devices) [] tt refl
simple_comes w (Marks_change by_chip garble) simple none = unchanged 0 w (outside (outcome w (Marks_change by_chip garble)).outer w.devices) [] tt refl
simple_comes w (Clears_pipe by_host) simple none =
    unchanged 0 w (outside (outcome w (Clears_pipe by_host)).outer w.devices) (outcome w (Clears_pipe by_host)).entries (cleared_uncounted by_host _) refl
simple_comes w (Clears_pipe by_chip) simple none =
    unchanged 0 w (outside (outcome w (Clears_pipe by_chip)).outer w.devices) (outcome w (Clears_pipe by_chip)).entries (cleared_uncounted by_chip _) refl
simple_comes w (Stalls ticks) simple none = unchanged 0 w (outside (outcome w (Stalls ticks)).outer w.devices) [] tt refl
simple_comes w (Cuts size) simple none = unchanged 0 w (outside (outcome w (Cuts size)).outer w.devices) [] tt refl
simple_comes w event simple none = absurd simple

-- ---- all of it

pub counts : Link MayCollide (Tie 0) IsNoCollision
counts = record {
  line = λ covers awaits past w ties. ties;
  tick = λ covers awaits past w ties. (tt, ties);
  number = λ past w ties. (unchanged 0 w w (entry.Time w.outer.clock ∷ []) (tt, tt) refl false past (λ (is : false ≡ true). absurd cc) ties).1;
  simple = simple_comes;
  session = λ w node session command. unchanged 0 w w (entry.Begin node session command ∷ []) (tt, tt) refl;
  chip = chip_comes;
  air = λ w told of_air. unchanged 0 w w (told ∷ []) (air_uncounted told of_air, tt) refl;
  same = λ awaits past w later is ties. subst (λ (s : ChipState). cans past + (s.port.side.collisions + 0) ≡ collisions past) (sym is.chip) ties;
}
