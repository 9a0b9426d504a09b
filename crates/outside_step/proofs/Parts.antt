-- The state by its parts.
use Rattle.std.proofs.Common.{◌≡◌, ℕ, ◌+◌, Bool, true, false, List, [], ◌∷◌, ◌++◌, ap, sym, ◌∙◌, subst, append_assoc, ◌≤◌, ◌<◌}
use Rattle.std.specs.Prelude.{max, nat_le, if◌then◌else◌, ◌||◌}
use Rattle.std.proofs.lemmas.Bool.{le-leb, lt-leb}
use Rattle.serial_frame.specs.Stream.{Rest, no_rest}
use Rattle.air_frames.specs.Frames.{peer_of}
use Rattle.chip_sim.specs.State.{ChipState, ChipParts, fresh_chip}
use Rattle.chip_sim.specs.Events.{Joined, Linked}
use Rattle.chip_sim.specs.Events as chip
use Rattle.chip_sim.specs.Did.{after_all}
use Rattle.mesh_sim.specs.Air.{AirState, first_air, linking, joining, beginning}
use Rattle.serial_pipes.specs.State.{WayState, empty_way}
use Rattle.serial_pipes.specs.Events.{WayEvent}
use Rattle.serial_pipes.specs.Events as way
use Rattle.zw_words.specs.declared.side.Side.{Side}
use Rattle.zw_words.specs.declared.side.Side.TheVariants.{Host, Chip}
use Rattle.zw_text.specs.declared.entry.Entry.{Entry}
use Rattle.outside_model.specs.declared.waits.Due.{Due}
use Rattle.outside_model.specs.declared.waits.Call.{Call}
use Rattle.outside_model.specs.State.{OuterState, first_outer, tells, with_chip}
use Rattle.outside_model.specs.Nodes.{joins, links_of}
use Rattle.outside_model.specs.Events.{begins, way_of, with_way, ticked_entry}
use Rattle.outside_model.specs.Did.{Enters}

-- a chip by its parts
pub chip_is : (o : OuterState) (asked : ChipParts) (state : ChipState) → asked.decoder ≡ o.chip.decoder → asked.state ≡ state → record o { chip = asked } ≡ with_chip o state
chip_is o asked state decoder is =
    ap (λ (d : Rest). record o { chip = record { decoder = d; state = asked.state } }) decoder ∙ ap (λ (t : ChipState). record o { chip = record { decoder = o.chip.decoder; state = t } }) is

-- the direction of a side
pub way_host : (o : OuterState) (side : Side) (w : WayState) (event : WayEvent) → side ≡ Host → w ≡ way.after o.to_chip event → record o { to_chip = w } ≡ with_way o side (way.after (way_of o side) event)
way_host o side w event is done =
    subst (λ (s : Side). record o { to_chip = w } ≡ with_way o s (way.after (way_of o s) event)) (sym is) (ap (λ (x : WayState). record o { to_chip = x }) done)

pub way_chip : (o : OuterState) (side : Side) (w : WayState) (event : WayEvent) → side ≡ Chip → w ≡ way.after o.to_host event → record o { to_host = w } ≡ with_way o side (way.after (way_of o side) event)
way_chip o side w event is done =
    subst (λ (s : Side). record o { to_host = w } ≡ with_way o s (way.after (way_of o s) event)) (sym is) (ap (λ (x : WayState). record o { to_host = x }) done)

-- two stalls
pub stalls : (o : OuterState) (ticks until given : ℕ) → until ≡ max o.stalled_until (o.clock + given) → given ≡ ticks
    → record o { stalled_until = until } ≡ record o { stalled_until = max o.stalled_until (o.clock + ticks) }
stalls o ticks until given is same = ap (λ n. record o { stalled_until = n }) (is ∙ ap (λ n. max o.stalled_until (o.clock + n)) same)

-- sessions begin, or would be fewer
pub begins_more : (o : OuterState) (air : AirState) (node sessions begun : ℕ) → begun ≡ (peer_of o.air.frames node).begun → begun ≤ sessions → air ≡ beginning o.air node sessions
    → record o { air = air } ≡ record o { air = begins o.air node sessions }
begins_more o air node sessions begun is le done =
    let test : nat_le (peer_of o.air.frames node).begun sessions ≡ true = le-leb _ _ (subst (λ n. n ≤ sessions) is le) in
    ap (λ (a : AirState). record o { air = a }) (done ∙ sym (ap (λ (b : Bool). if b then beginning o.air node sessions else o.air) test))

pub begins_fewer : (o : OuterState) (node sessions begun : ℕ) → begun ≡ (peer_of o.air.frames node).begun → sessions < begun
    → o ≡ record o { air = begins o.air node sessions }
begins_fewer o node sessions begun is lt =
    let test : nat_le (peer_of o.air.frames node).begun sessions ≡ false = lt-leb _ _ (subst (λ n. sessions < n) is lt) in
    ap (λ (a : AirState). record o { air = a }) (sym (ap (λ (b : Bool). if b then beginning o.air node sessions else o.air) test))

-- one entry
pub noted : (o new : OuterState) (entry : Entry) (before start mid all : List Entry) → start ≡ before → new ≡ record o { stamped = o.in_tick || o.stamped }
    → mid ≡ start ++ ticked_entry o → all ≡ mid ++ entry ∷ [] → Enters (tells o (entry ∷ [])) new before all
noted o new entry before start mid all same outer ticked put = record {
  outer = outer;
  entries = put ∙ (ap (λ (l : List Entry). l ++ entry ∷ []) (ticked ∙ ap (λ (l : List Entry). l ++ ticked_entry o) same) ∙ append_assoc before (ticked_entry o) (entry ∷ []));
}

-- a node joined
pub joined_is : (o mid new : OuterState) (moved : ChipParts) (air : AirState) (node : ℕ) (listening : Bool) → mid ≡ record o { chip = moved; air = air }
    → moved.decoder ≡ o.chip.decoder → moved.state ≡ chip.after o.chip.state (Joined node listening) → air ≡ joining o.air node listening
    → new ≡ with_chip mid (after_all mid.chip.state (links_of mid.air node)) → new ≡ joins o node listening
joined_is o mid new moved air node listening is decoder state joined learned =
    learned
    ∙ (ap (λ (p : OuterState). with_chip p (after_all p.chip.state (links_of p.air node))) is
    ∙ (ap (λ (a : AirState). with_chip (record o { chip = moved; air = a }) (after_all moved.state (links_of a node))) joined
    ∙ (ap (λ (d : Rest). with_chip (record o { chip = record { decoder = d; state = moved.state }; air = joining o.air node listening }) (after_all moved.state (links_of (joining o.air node listening) node))) decoder
    ∙ ap (λ (s : ChipState). record (with_chip o (after_all s (links_of (joining o.air node listening) node))) { air = joining o.air node listening }) state)))

-- all of it at the beginning
parts_are : (c : ChipParts) (d : Rest) (s : ChipState) → c.decoder ≡ d → c.state ≡ s → c ≡ record { decoder = d; state = s }
parts_are c d s decoder state = ap (λ (x : Rest). record { decoder = x; state = c.state }) decoder ∙ ap (λ (t : ChipState). record { decoder = d; state = t }) state

pub first_is : (given : ChipParts) (air : AirState) (to_chip to_host : WayState) (due : List Due) (calls : List Call)
    → given.decoder ≡ no_rest → given.state ≡ chip.after (chip.after fresh_chip (Joined 2 true)) (Linked 1 2 true) → air ≡ linking (joining first_air 2 true) 1 2 true
    → to_chip ≡ empty_way → to_host ≡ empty_way → due ≡ [] → calls ≡ []
    → record { chip = given; air = air; to_chip = to_chip; to_host = to_host; piece = 0; stalled_until = 0; clock = 0; in_tick = false; stamped = false; due = due; calls = calls } ≡ first_outer
unfolding first_outer
first_is given air to_chip to_host due calls decoder state air_is e1 e2 e3 e4 =
    let chip_first : given ≡ record { decoder = no_rest; state = chip.after (chip.after fresh_chip (Joined 2 true)) (Linked 1 2 true) } = parts_are given _ _ decoder state in
    cc
