-- What a call leaves of what is known of every transcript.
use Rattle.std.proofs.Common.{◌≡◌, ℕ, List, [], ◌++◌, length, Result, Ok, Err, IfOk, OnOk, OnErr, refl, ap, sym, ◌∙◌}
use Rattle.include_text.specs.declared.entry.IncludeEntry.{IncludeEntry}
use Rattle.include_text.specs.declared.line.IncludeLine.{IncludeLine}
use Rattle.include_world.specs.World.{WorldState, IncludeEvent, Did, first_world, after_all, entries_all}
use Rattle.include_world.specs.Line.{IsLine}
use Rattle.include_world.specs.Added.{Reached, TellsOn}
use Rattle.include_world.proofs.DoneEvents.{AllDrawn-append, after_all-append, entries_all-append}
use Rattle.include_world.proofs.Events.{added}

first_reached : (key : List ℕ) (w : WorldState) → length key ≡ 16 → w ≡ first_world key → Reached key [] w
first_reached key w sixteen is_first = record { events = []; sixteen = sixteen; drawn = tt; state = is_first; entries = refl }

pub first_if : {E : Type 0} (key : List ℕ) (r : Result WorldState E) → length key ≡ 16 → IfOk r (λ w. w ≡ first_world key) → IfOk r (λ w. Reached key [] w)
first_if key (Ok w) sixteen is_first = first_reached key w sixteen is_first
first_if key (Err e) sixteen is_first = tt

reached_more : (key : List ℕ) (T : List IncludeEntry) (old new : WorldState) (events : List IncludeEvent) (before all : List IncludeEntry) → Reached key T old → Did events old new before all
    → Reached key (T ++ entries_all old events) new
reached_more key T old new events before all r did = record {
  events = r.events ++ events;
  sixteen = r.sixteen;
  drawn = AllDrawn-append r.events events r.drawn did.drawn;
  state = did.state ∙ (ap (λ (w : WorldState). after_all w events) r.state ∙ sym (after_all-append (first_world key) r.events events));
  entries = ap (λ (w : WorldState). T ++ entries_all w events) r.state
      ∙ (ap (λ (l : List IncludeEntry). l ++ entries_all (after_all (first_world key) r.events) events) r.entries ∙ sym (entries_all-append (first_world key) r.events events));
}

tells : (key : List ℕ) (T : List IncludeEntry) (old new : WorldState) (events : List IncludeEvent) (before all : List IncludeEntry) → Reached key T old → Did events old new before all
    → TellsOn key T new before all
tells key T old new events before all r did =
    let more = reached_more key T old new events before all r did in
    record { told = entries_all old events; made = did.entries; reached = more; added = added key (T ++ entries_all old events) new more }

pub tells_on : {V E : Type 0} (line : IncludeLine) (r : Result V E) (old new : WorldState) (before all : List IncludeEntry)
    → OnOk r ((events : List IncludeEvent) × IsLine line old events × Did events old new before all) → OnErr r ((events : List IncludeEvent) × Did events old new before all)
    → (key : List ℕ) (T : List IncludeEntry) → Reached key T old → TellsOn key T new before all
tells_on line (Ok v) old new before all ok err key T reached = tells key T old new ok.0 before all reached ok.2
tells_on line (Err e) old new before all ok err key T reached = tells key T old new err.0 before all reached err.1
