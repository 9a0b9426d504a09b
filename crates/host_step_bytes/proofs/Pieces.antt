-- The items of a piece, one after another.
use Rattle.std.proofs.Common.{◌≡◌, ℕ, ◌<◌, ◌≤◌, List, [], ◌∷◌, ◌++◌, length, refl, ap, sym, ◌∙◌, subst, append_assoc, arith}
use Rattle.std.specs.Prelude.{Some, None}
use Rattle.serial_frame.specs.Stream.{Rest, IsRest, Feeds, GoesOn, piece_of}
use Rattle.serial_frame.specs.declared.item.Item.{Item}
use Rattle.host_keep.specs.Keeping.{OptAdds, Shelf}
use Rattle.host_model.specs.State.{HostState, HostParts}
use Rattle.host_model.specs.Events.{HostEvent, Hears}
use Rattle.host_model.specs.After.{after}
use Rattle.host_model.specs.Outs.{outs}
use Rattle.host_model.specs.Did.{Did}
use Rattle.host_model.specs.Taking.{IsJudged, IsFollowed, Fed, FedPrefix}
use Rattle.host_model.specs.declared.out.HostOut.{HostOut}
use Rattle.host_model.proofs.EventLists.{none_added}
use Rattle.host_model.proofs.Feeding.{fed-append, fed_prefix-append, fed_item, fed_nothing}
use Rattle.host_step_bytes.specs.Calls.{Scene, Does, Stops, TakesOne, Are}
use Rattle.host_step_bytes.proofs.CallLists.{does_one, then_does}

-- what is taken from here on is taken from the beginning on
pub record FedSoFar (old : HostParts) (before : List HostOut) (first : Shelf) (piece : List ℕ) (now : HostParts) (some : List HostOut) (mid : Shelf) (left : List ℕ) : Type 0 where
  pub prefix : List ℕ
  pub parts : piece ≡ prefix ++ left
  pub fed : (bytes : List ℕ) (new : HostParts) (all : List HostOut) (last : Shelf) → Fed now bytes new some all mid last → Fed old (prefix ++ bytes) new before all first last
  pub stops : (bytes : List ℕ) (new : HostParts) (all : List HostOut) (last : Shelf) → FedPrefix now bytes new some all mid last → FedPrefix old (prefix ++ bytes) new before all first last

pub nothing_so_far : (old : HostParts) (before : List HostOut) (first : Shelf) (piece : List ℕ) → FedSoFar old before first piece old before first piece
nothing_so_far old before first piece =
    record { prefix = []; parts = refl; fed = λ bytes new all last so. so; stops = λ bytes new all last so. so }

pub item_so_far : (old : HostParts) (before : List HostOut) (first : Shelf) (piece : List ℕ) (now : HostParts) (a : Scene) (left : List ℕ) (new : HostParts) (b : Scene) (rest : List ℕ)
    → FedSoFar old before first piece now a.outs a.shelf left → TakesOne now left new a b (Some rest) → FedSoFar old before first piece new b.outs b.shelf rest
item_so_far old before first piece now a left new b rest so_far one =
    let taken : List ℕ = one.0 in
    record {
      prefix = so_far.prefix ++ taken;
      parts = so_far.parts ∙ ap (λ (l : List ℕ). so_far.prefix ++ l) one.1 ∙ sym (append_assoc so_far.prefix taken rest);
      fed = λ bytes end all last more.
          subst (λ (l : List ℕ). Fed old l end before all first last) (sym (append_assoc so_far.prefix taken bytes))
          (so_far.fed (taken ++ bytes) end all last (fed-append now taken new bytes end a.outs b.outs all a.shelf b.shelf last one.3 more));
      stops = λ bytes end all last more.
          subst (λ (l : List ℕ). FedPrefix old l end before all first last) (sym (append_assoc so_far.prefix taken bytes))
          (so_far.stops (taken ++ bytes) end all last (fed_prefix-append now taken new bytes end a.outs b.outs all a.shelf b.shelf last one.3 more));
    }

pub all_fed : (old : HostParts) (before : List HostOut) (first : Shelf) (piece : List ℕ) (now : HostParts) (a : Scene) (left : List ℕ) (new : HostParts) (b : Scene)
    → FedSoFar old before first piece now a.outs a.shelf left → TakesOne now left new a b None → Fed old piece new before b.outs first b.shelf
all_fed old before first piece now a left new b so_far rest =
    subst (λ (l : List ℕ). Fed old l new before b.outs first b.shelf) (sym so_far.parts) (so_far.fed left new b.outs b.shelf rest)

pub prefix_fed : (old : HostParts) (before : List HostOut) (first : Shelf) (piece : List ℕ) (now : HostParts) (a : Scene) (left : List ℕ) (new : HostParts) (b : Scene)
    → FedSoFar old before first piece now a.outs a.shelf left → FedPrefix now left new a.outs b.outs a.shelf b.shelf → FedPrefix old piece new before b.outs first b.shelf
prefix_fed old before first piece now a left new b so_far prefix =
    subst (λ (l : List ℕ). FedPrefix old l new before b.outs first b.shelf) (sym so_far.parts) (so_far.stops left new b.outs b.shelf prefix)

-- ---- one item

-- an item ended in these bytes, and was judged
pub takes_item : (old mid new : HostParts) (a b : Scene) (bytes taken left : List ℕ) (item : Item) → a.host ≡ old.state → mid.state ≡ old.state → b.host ≡ new.state → new.decoder ≡ mid.decoder
    → bytes ≡ taken ++ left → length left < length bytes → Feeds old.decoder taken mid.decoder (item ∷ []) → GoesOn old.decoder (piece_of taken) mid.decoder (item ∷ [])
    → Does (IsJudged old.state item) a b → TakesOne old bytes new a b (Some left)
takes_item old mid new a b bytes taken left item at_old kept at_new rest parts shorter feeds goes judged = (
  taken,
  parts,
  shorter,
  fed_item old taken new a.outs b.outs a.shelf b.shelf item judged.events (subst (λ (r : Rest). Feeds old.decoder taken r (item ∷ [])) (sym rest) feeds)
      (subst (λ (r : Rest). GoesOn old.decoder (piece_of taken) r (item ∷ [])) (sym rest) goes) judged.are
      (subst (λ (h : HostState). Did judged.events old.state h a.outs b.outs a.shelf b.shelf) at_new (subst (λ (h : HostState). Did judged.events h b.host a.outs b.outs a.shelf b.shelf) at_old judged.did)),
)

-- no item was begun to be judged, or some of its events happened
pub stops_in_item : (old new : HostParts) (a b : Scene) (bytes : List ℕ) → IsRest old.decoder → a.host ≡ old.state → b.host ≡ new.state → Stops a b → FedPrefix old bytes new a.outs b.outs a.shelf b.shelf
stops_in_item old new a b bytes rest at_old at_new stops =
    record {
      prefix = [];
      left = bytes;
      parts = refl;
      mid = old;
      some = a.outs;
      kept = a.shelf;
      fed = fed_nothing old old a.outs a.outs a.shelf a.shelf rest refl refl (none_added a.shelf.records) (omega arith);
      begun = stops.events;
      did = subst (λ (h : HostState). Did stops.events old.state h a.outs b.outs a.shelf b.shelf) at_new (subst (λ (h : HostState). Did stops.events h b.host a.outs b.outs a.shelf b.shelf) at_old stops.did);
    }

-- an item is heard
pub hears : (item : Item) (a b : Scene) → b.host ≡ after a.host (Hears item) → b.outs ≡ a.outs ++ outs a.host (Hears item) → b.shelf ≡ a.shelf → Does (Are (Hears item ∷ [])) a b
hears item a b host put same =
    does_one (Are (Hears item ∷ [])) (Hears item) a b refl tt tt host put (subst (λ (s : Shelf). OptAdds a.shelf.records s.records []) (sym same) (none_added a.shelf.records)) tt
    (subst (λ (s : Shelf). a.shelf.faults ≤ s.faults) (sym same) (omega arith))

-- an item is heard, and then followed
pub judges : (item : Item) (a b c : Scene) → b.host ≡ after a.host (Hears item) → b.outs ≡ a.outs ++ outs a.host (Hears item) → b.shelf ≡ a.shelf
    → Does (IsFollowed b.host a.host.side.turn item) b c → Does (IsJudged a.host item) a c
judges item a b c host put same follows =
    then_does (Are (Hears item ∷ [])) (IsFollowed b.host a.host.side.turn item) (IsJudged a.host item) a b c (hears item a b host put same) follows
    (λ (x : List HostEvent) (y : List HostEvent) state first later.
    subst (λ (l : List HostEvent). IsJudged a.host item (l ++ y)) (sym first) (y, refl, subst (λ (h : HostState). IsFollowed h a.host.side.turn item y) host later))
