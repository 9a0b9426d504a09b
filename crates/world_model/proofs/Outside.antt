-- Events outside the host, as the machine's.
use Rattle.std.proofs.Common.{◌≡◌, ℕ, List, [], ◌∷◌, ◌++◌, map, refl, ap, sym, ◌∙◌, subst, arith}
use Rattle.std.specs.Prelude.{Option, Some, None}
use Rattle.std.proofs.lemmas.List.{append-nil}
use Rattle.zw_text.specs.declared.entry.Entry.{Entry}
use Rattle.host_model.specs.Did.{RoseBy}
use Rattle.host_model.proofs.EventLists.{rose_none}
use Rattle.outside_model.specs.State.{Outside}
use Rattle.outside_model.specs.Events.{OuterEvent, AreOwn, happens as happens_outside, entries as entries_outside}
use Rattle.outside_model.specs.Did.{happens_all as happens_all_outside, entries_all as entries_all_outside, MayAll as MayAllOutside, Run as RunOutside, last_of as outer_last, Stops as StopsOutside}
use Rattle.world_model.specs.State.{Machine, with_outside}
use Rattle.world_model.specs.Events.{Event, Outside_does, happens, entries, May}
use Rattle.world_model.specs.Did.{happens_all, entries_all, MayAll, unkept_in, Counted, Run, Schedule, last_of, Stops}

pub happens_outside-all : (m : Machine) (es : List OuterEvent) → happens_all m (map Outside_does es) ≡ with_outside m (happens_all_outside m.outside es)
unfolding happens
happens_outside-all m [] = refl
happens_outside-all m (e ∷ es) = happens_outside-all (with_outside m (happens_outside m.outside e)) es

pub entries_outside-all : (m : Machine) (es : List OuterEvent) → entries_all m (map Outside_does es) ≡ entries_all_outside m.outside es
unfolding happens entries
entries_outside-all m [] = refl
entries_outside-all m (e ∷ es) = ap (λ (l : List Entry). entries_outside m.outside e ++ l) (entries_outside-all (with_outside m (happens_outside m.outside e)) es)

pub may_outside-all : (m : Machine) (es : List OuterEvent) → AreOwn es → MayAllOutside m.outside es → MayAll m (map Outside_does es)
unfolding happens May
may_outside-all m [] own may = tt
may_outside-all m (e ∷ es) own may = ((own.0, may.0), may_outside-all (with_outside m (happens_outside m.outside e)) es own.1 may.1)

kept_outside : (es : List OuterEvent) → unkept_in (map Outside_does es) ≡ 0
kept_outside [] = refl
kept_outside (e ∷ es) = omega (arith, kept_outside es)

pub counted_outside : (es : List OuterEvent) (faults : ℕ) → Counted (map Outside_does es) faults faults
counted_outside es faults = record { rose = subst (λ (n : ℕ). RoseBy n faults faults) (sym (kept_outside es)) (rose_none faults faults (omega arith)); never_falls = omega arith }

-- events outside were done
pub ran_outside : (es : List OuterEvent) (m : Machine) (w : Outside) (before all : List Entry) (faults : ℕ) → AreOwn es → RunOutside es m.outside w before all
    → Run (map Outside_does es) (record { machine = m; entries = before; faults = faults }) (record { machine = with_outside m w; entries = all; faults = faults })
ran_outside es m w before all faults own run = record {
  may = may_outside-all m es own run.may;
  state = ap (λ (x : Outside). with_outside m x) run.state ∙ sym (happens_outside-all m es);
  entries = run.entries ∙ ap (λ (l : List Entry). before ++ l) (sym (entries_outside-all m es));
  counted = counted_outside es faults;
}

-- they were done in part
last_outside : (last : Option OuterEvent) → last_of last ≡ map Outside_does (outer_last last)
last_outside None = refl
last_outside (Some event) = refl

pub prefix_outside : (whole : List OuterEvent) (last : Option OuterEvent) → map Outside_does (whole ++ outer_last last) ≡ map Outside_does whole ++ last_of last
prefix_outside [] last = sym (last_outside last)
prefix_outside (event ∷ whole) last = ap (λ (l : List Event). Outside_does event ∷ l) (prefix_outside whole last)

pub stopped_outside : (Prefix : Schedule) (OuterPrefix : List OuterEvent → Type 0) (m new : Machine) (before all : List Entry) (faults : ℕ) → ((a b : List OuterEvent) → OuterPrefix (a ++ b) → OuterPrefix a)
    → ((events : List OuterEvent) → OuterPrefix events → Prefix m (map Outside_does events)) → new.records ≡ m.records → StopsOutside OuterPrefix m.outside new.outside.devices before all
    → Stops Prefix (record { machine = m; entries = before; faults = faults }) (record { machine = new; entries = all; faults = faults })
stopped_outside Prefix OuterPrefix m new before all faults prefixes goes records stops =
    let ends : List OuterEvent = stops.whole ++ outer_last stops.last in
    let is : map Outside_does ends ≡ (map Outside_does stops.whole ++ last_of stops.last) ++ [] =
    prefix_outside stops.whole stops.last ∙ sym (append-nil (map Outside_does stops.whole ++ last_of stops.last)) in
    let after : with_outside m (happens_all_outside m.outside ends) ≡ happens_all m ((map Outside_does stops.whole ++ last_of stops.last) ++ []) =
    sym (happens_outside-all m ends) ∙ ap (λ (l : List Event). happens_all m l) is in
    record {
      whole = map Outside_does stops.whole;
      last = stops.last;
      prefix = goes stops.whole (prefixes stops.whole (outer_last stops.last) stops.prefix);
      moved = subst (λ (l : List Event). Prefix m l) (prefix_outside stops.whole stops.last) (goes ends stops.prefix);
      kept = [];
      of_host = tt;
      may = subst (λ (l : List Event). MayAll m l) is (may_outside-all m ends stops.own stops.may);
      devices = stops.devices_are ∙ ap (λ (x : Machine). x.outside.devices) after;
      records = records ∙ ap (λ (x : Machine). x.records) after;
      entered = stops.entered ∙ ap (λ (l : List Entry). before ++ l) (sym (entries_outside-all m stops.whole));
      counted = counted_outside stops.whole faults;
    }
