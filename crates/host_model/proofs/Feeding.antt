-- Bytes that are taken item by item.
use Rattle.std.proofs.Common.{◌≡◌, ℕ, ◌≤◌, List, [], ◌∷◌, ◌++◌, refl, ap, sym, ◌∙◌, subst, append_assoc}
use Rattle.std.proofs.lemmas.List.{append-nil}
use Rattle.serial_frame.specs.Stream.{Rest, IsRest, Signal, Feeds, GoesOn, Splits, piece_of}
use Rattle.serial_frame.specs.declared.item.Item.{Item}
use Rattle.serial_frame.proofs.Streams.{piece_of-append}
use Rattle.serial_link.proofs.Taking.{feeds-append}
use Rattle.host_keep.specs.Keeping.{OptAdds, Shelf}
use Rattle.host_model.specs.State.{HostState, HostParts}
use Rattle.host_model.specs.Events.{HostEvent}
use Rattle.host_model.specs.Did.{after_all, Did}
use Rattle.host_model.specs.Taking.{IsJudged, AreJudged, Fed, FedPrefix}
use Rattle.host_model.specs.declared.out.HostOut.{HostOut}
use Rattle.host_model.proofs.EventLists.{after_all-append, did_nothing, did_both}

-- items were judged after others
pub judged-append : (h : HostState) (a b : List Item) (x y : List HostEvent) → AreJudged h a x → AreJudged (after_all h x) b y → AreJudged h (a ++ b) (x ++ y)
judged-append h [] b x y first later =
    subst (λ (l : List HostEvent). AreJudged h b (l ++ y)) (sym first) (subst (λ (l : List HostEvent). AreJudged (after_all h l) b y) first later)
judged-append h (item ∷ more) b x y first later =
    let head = first.0 in
    let rest = first.1 in
    let parts : x ≡ head ++ rest = first.2 in
    let after : after_all h x ≡ after_all (after_all h head) rest = ap (λ (l : List HostEvent). after_all h l) parts ∙ after_all-append h head rest in (
      head,
      rest ++ y,
      ap (λ (l : List HostEvent). l ++ y) parts ∙ append_assoc head rest y,
      first.3,
      judged-append (after_all h head) more b rest y first.4 (subst (λ (s : HostState). AreJudged s b y) after later),
    )

-- one item was judged
pub judged_one : (h : HostState) (item : Item) (events : List HostEvent) → IsJudged h item events → AreJudged h (item ∷ []) events
judged_one h item events judged = (events, [], sym (append-nil events), judged, refl)

goes-append : (a : Rest) (s : List Signal) (b : Rest) (i : List Item) (t : List Signal) (c : Rest) (j : List Item) → GoesOn a s b i → GoesOn b t c j → GoesOn a (s ++ t) c (i ++ j)
goes-append a s b i t c j first later stream items splits =
    subst (λ (u : List Signal). Splits u (items ++ (i ++ j)) c) (append_assoc stream s t)
    (subst (λ (u : List Item). Splits ((stream ++ s) ++ t) u c) (append_assoc items i j) (later (stream ++ s) (items ++ i) (first stream items splits)))

-- bytes were taken after others
pub fed-append : (a : HostParts) (p : List ℕ) (b : HostParts) (q : List ℕ) (c : HostParts) (x y z : List HostOut) (s t u : Shelf) → Fed a p b x y s t → Fed b q c y z t u → Fed a (p ++ q) c x z s u
fed-append a p b q c x y z s t u first later =
    record {
      items = first.items ++ later.items;
      events = first.events ++ later.events;
      feeds = feeds-append a.decoder p b.decoder first.items q c.decoder later.items first.feeds later.feeds;
      stream = subst (λ (l : List Signal). GoesOn a.decoder l c.decoder (first.items ++ later.items)) (sym (piece_of-append p q))
          (goes-append a.decoder (piece_of p) b.decoder first.items (piece_of q) c.decoder later.items first.stream later.stream);
      judged = judged-append a.state first.items later.items first.events later.events first.judged (subst (λ (h : HostState). AreJudged h later.items later.events) first.did.state later.judged);
      did = did_both first.events later.events a.state b.state c.state x y z s t u first.did later.did;
    }

-- these bytes end no item
pub fed_none : (old : HostParts) (bytes : List ℕ) (new : HostParts) (before all : List HostOut) (shelf shelf' : Shelf) → Feeds old.decoder bytes new.decoder [] → GoesOn old.decoder (piece_of bytes) new.decoder []
    → new.state ≡ old.state → all ≡ before → OptAdds shelf.records shelf'.records [] → shelf.faults ≤ shelf'.faults → Fed old bytes new before all shelf shelf'
fed_none old bytes new before all shelf shelf' feeds goes state outs records falls =
    record { items = []; events = []; feeds = feeds; stream = goes; judged = refl; did = did_nothing old.state new.state before all shelf shelf' state outs records falls }

-- one item ended with these bytes, and was judged
pub fed_item : (old : HostParts) (bytes : List ℕ) (new : HostParts) (before all : List HostOut) (shelf shelf' : Shelf) (item : Item) (events : List HostEvent)
    → Feeds old.decoder bytes new.decoder (item ∷ []) → GoesOn old.decoder (piece_of bytes) new.decoder (item ∷ [])
    → IsJudged old.state item events → Did events old.state new.state before all shelf shelf' → Fed old bytes new before all shelf shelf'
fed_item old bytes new before all shelf shelf' item events feeds goes judged did =
    record { items = item ∷ []; events = events; feeds = feeds; stream = goes; judged = judged_one old.state item events judged; did = did }

-- no bytes were taken
pub fed_nothing : (old new : HostParts) (before all : List HostOut) (shelf shelf' : Shelf) → IsRest old.decoder → new ≡ old → all ≡ before → OptAdds shelf.records shelf'.records [] → shelf.faults ≤ shelf'.faults
    → Fed old [] new before all shelf shelf'
fed_nothing old new before all shelf shelf' rest same outs records falls =
    subst (λ (s : HostParts). Fed old [] s before all shelf shelf') (sym same)
    (fed_none old [] old before all shelf shelf'
    (record { reads = (rest.unfinished, append-nil old.decoder.bytes); ticks = refl })
    (λ stream items splits.
    subst (λ (t : List Signal). Splits t (items ++ []) old.decoder) (sym (append-nil stream)) (subst (λ (t : List Item). Splits stream t old.decoder) (sym (append-nil items)) splits))
    refl outs records falls)

-- a prefix of the bytes was taken after others
pub fed_prefix-append : (a : HostParts) (p : List ℕ) (b : HostParts) (q : List ℕ) (c : HostParts) (x y z : List HostOut) (s t u : Shelf) → Fed a p b x y s t → FedPrefix b q c y z t u → FedPrefix a (p ++ q) c x z s u
fed_prefix-append a p b q c x y z s t u first later =
    record {
      prefix = p ++ later.prefix;
      left = later.left;
      parts = ap (λ (l : List ℕ). p ++ l) later.parts ∙ sym (append_assoc p later.prefix later.left);
      mid = later.mid;
      some = later.some;
      kept = later.kept;
      fed = fed-append a p b later.prefix later.mid x y later.some s t later.kept first later.fed;
      begun = later.begun;
      did = later.did;
    }
