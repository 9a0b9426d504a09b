-- Bytes that are taken item by item.
use Rattle.std.proofs.Common.{◌≡◌, ℕ, ◌<◌, List, [], ◌∷◌, ◌++◌, length, refl, ap, sym, ◌∙◌, subst, append_assoc}
use Rattle.std.specs.Prelude.{Option, Some, None, map}
use Rattle.std.proofs.lemmas.List.{append-nil, map-append}
use Rattle.serial_frame.specs.Stream.{Rest, IsRest, Signal, Feeds, GoesOn, FeedsOne, Splits, piece_of}
use Rattle.serial_frame.specs.declared.item.Item.{Item}
use Rattle.serial_frame.proofs.Streams.{piece_of-append}
use Rattle.serial_link.proofs.Taking.{feeds-append}
use Rattle.route_table.specs.declared.route.Route.{Route}
use Rattle.chip_sim.specs.Waiting.{PortState, PortParts}
use Rattle.chip_sim.specs.State.{ChipState, ChipParts}
use Rattle.chip_sim.specs.declared.chip.Chip.TheInside.{Inside}
use Rattle.chip_sim.specs.Events.{ChipEvent, Judged, after, outs, May}
use Rattle.chip_sim.specs.Did.{Did, judged_all, Fed, FedPrefix}
use Rattle.chip_sim.specs.declared.out.ChipOut.{ChipOut}
use Rattle.chip_sim.proofs.EventLists.{did_nothing, did_one, did_both}

goes-append : (a : Rest) (s : List Signal) (b : Rest) (i : List Item) (t : List Signal) (c : Rest) (j : List Item) → GoesOn a s b i → GoesOn b t c j → GoesOn a (s ++ t) c (i ++ j)
goes-append a s b i t c j first later stream items splits =
    subst (λ (u : List Signal). Splits u (items ++ (i ++ j)) c) (append_assoc stream s t)
    (subst (λ (u : List Item). Splits ((stream ++ s) ++ t) u c) (append_assoc items i j) (later (stream ++ s) (items ++ i) (first stream items splits)))

-- all bytes end no item
pub fed_none : (old : ChipParts) (bytes : List ℕ) (new : ChipParts) (before all : List ChipOut) → Feeds old.decoder bytes new.decoder [] → GoesOn old.decoder (piece_of bytes) new.decoder []
    → new.state ≡ old.state → all ≡ before → Fed old bytes new before all
fed_none old bytes new before all feeds goes state outs = record { ways = []; feeds = feeds; stream = goes; did = did_nothing old.state new.state before all state outs }

-- one item was judged
pub fed_item : (old : ChipParts) (bytes : List ℕ) (new : ChipParts) (before all : List ChipOut) (item : Item) (way : Option Route)
    → Feeds old.decoder bytes new.decoder (item ∷ []) → GoesOn old.decoder (piece_of bytes) new.decoder (item ∷ [])
    → May old.state (Judged item way) → new.state ≡ after old.state (Judged item way) → all ≡ before ++ outs old.state (Judged item way) → Fed old bytes new before all
fed_item old bytes new before all item way feeds goes may state put =
    record { ways = (item, way) ∷ []; feeds = feeds; stream = goes; did = did_one (Judged item way) old.state new.state before all may state put }

-- bytes were taken after others
pub fed-append : (a : ChipParts) (p : List ℕ) (b : ChipParts) (q : List ℕ) (c : ChipParts) (x y z : List ChipOut) → Fed a p b x y → Fed b q c y z → Fed a (p ++ q) c x z
fed-append a p b q c x y z first later =
    let item_of = λ (w : Item × Option Route). w.0 in
    let items : map item_of (first.ways ++ later.ways) ≡ map item_of first.ways ++ map item_of later.ways = map-append item_of first.ways later.ways in
    let events : judged_all (first.ways ++ later.ways) ≡ judged_all first.ways ++ judged_all later.ways = map-append (λ (w : Item × Option Route). Judged w.0 w.1) first.ways later.ways in
    record {
      ways = first.ways ++ later.ways;
      feeds = subst (λ (i : List Item). Feeds a.decoder (p ++ q) c.decoder i) (sym items)
          (feeds-append a.decoder p b.decoder (map item_of first.ways) q c.decoder (map item_of later.ways) first.feeds later.feeds);
      stream = subst (λ (i : List Item). GoesOn a.decoder (piece_of (p ++ q)) c.decoder i) (sym items)
          (subst (λ (s : List Signal). GoesOn a.decoder s c.decoder (map item_of first.ways ++ map item_of later.ways)) (sym (piece_of-append p q))
          (goes-append a.decoder (piece_of p) b.decoder (map item_of first.ways) (piece_of q) c.decoder (map item_of later.ways) first.stream later.stream));
      did = subst (λ (e : List ChipEvent). Did e a.state c.state x z) (sym events) (did_both (judged_all first.ways) (judged_all later.ways) a.state b.state c.state x y z first.did later.did);
    }

-- the chip with its fields as they are
abbrev pub chip_of : Inside → ChipParts
chip_of c = record { decoder = c.port.decoder; state = record { port = c.port.port; table = c.table; joined = c.joined; listening = c.listening; failing = c.failing; sending = c.sending; aborted = c.aborted } }

-- the same fields with another port
abbrev pub with_port : Inside → PortParts → ChipParts
with_port c p = record { decoder = p.decoder; state = record { port = p.port; table = c.table; joined = c.joined; listening = c.listening; failing = c.failing; sending = c.sending; aborted = c.aborted } }

-- no bytes were taken
pub fed_nothing : (old new : ChipParts) (before all : List ChipOut) → IsRest old.decoder → new ≡ old → all ≡ before → Fed old [] new before all
fed_nothing old new before all rest same outs =
    subst (λ (s : ChipParts). Fed old [] s before all) (sym same)
    (fed_none old [] old before all
    (record { reads = (rest.unfinished, append-nil old.decoder.bytes); ticks = refl })
    (λ stream items splits.
    subst (λ (t : List Signal). Splits t (items ++ []) old.decoder) (sym (append-nil stream)) (subst (λ (t : List Item). Splits stream t old.decoder) (sym (append-nil items)) splits))
    refl outs)

-- an item that the decoder gave was judged
pub fed_judged : (c : Inside) (mid : PortParts) (new : ChipParts) (bytes : List ℕ) (before all : List ChipOut) (item : Item) (way : Option Route)
    → Feeds c.port.decoder bytes mid.decoder (item ∷ []) → GoesOn c.port.decoder (piece_of bytes) mid.decoder (item ∷ []) → mid.port ≡ c.port.port → new.decoder ≡ mid.decoder
    → May (with_port c mid).state (Judged item way) → new.state ≡ after (with_port c mid).state (Judged item way) → all ≡ before ++ outs (with_port c mid).state (Judged item way)
    → Fed (chip_of c) bytes new before all
fed_judged c mid new bytes before all item way feeds goes port decoder may state put =
    let same : (with_port c mid).state ≡ (chip_of c).state = ap (λ (p : PortState). (with_port c (record { decoder = mid.decoder; port = p })).state) port in
    fed_item (chip_of c) bytes new before all item way
    (subst (λ (d : Rest). Feeds c.port.decoder bytes d (item ∷ [])) (sym decoder) feeds)
    (subst (λ (d : Rest). GoesOn c.port.decoder (piece_of bytes) d (item ∷ [])) (sym decoder) goes)
    (subst (λ (s : ChipState). May s (Judged item way)) same may)
    (state ∙ ap (λ (s : ChipState). after s (Judged item way)) same)
    (put ∙ ap (λ (s : ChipState). before ++ outs s (Judged item way)) same)
