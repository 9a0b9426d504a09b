-- Lists of events that were done one after another.
use Rattle.std.proofs.Common.{◌≡◌, ℕ, ◌+◌, ◌≤◌, List, [], ◌∷◌, ◌++◌, refl, ap, sym, ◌∙◌, subst, append_assoc, arith}
use Rattle.std.specs.Prelude.{None}
use Rattle.std.proofs.lemmas.List.{append-nil}
use Rattle.zw_text.specs.declared.entry.Entry.{Entry}
use Rattle.host_model.specs.Did.{RoseBy}
use Rattle.host_model.proofs.EventLists.{rose_both, rose_none}
use Rattle.world_model.specs.State.{Machine}
use Rattle.world_model.specs.Events.{Event, happens, entries}
use Rattle.world_model.specs.Did.{happens_all, entries_all, MayAll, unkept_of, unkept_in, Counted, Scene, Run, Schedule, last_of, Stops}

pub happens_all-append : (m : Machine) (a b : List Event) → happens_all m (a ++ b) ≡ happens_all (happens_all m a) b
happens_all-append m [] b = refl
happens_all-append m (e ∷ a) b = happens_all-append (happens m e) a b

pub entries_all-append : (m : Machine) (a b : List Event) → entries_all m (a ++ b) ≡ entries_all m a ++ entries_all (happens_all m a) b
entries_all-append m [] b = refl
entries_all-append m (e ∷ a) b =
    ap (λ (t : List Entry). entries m e ++ t) (entries_all-append (happens m e) a b)
    ∙ sym (append_assoc (entries m e) (entries_all (happens m e) a) (entries_all (happens_all (happens m e) a) b))

pub may_all-append : (m : Machine) (a b : List Event) → MayAll m a → MayAll (happens_all m a) b → MayAll m (a ++ b)
may_all-append m [] b first later = later
may_all-append m (e ∷ a) b first later = (first.0, may_all-append (happens m e) a b first.1 later)

-- ---- faults of the keeper

unkept-append : (a b : List Event) → unkept_in (a ++ b) ≡ unkept_in a + unkept_in b
unkept-append [] b = omega arith
unkept-append (e ∷ a) b = omega (arith, unkept-append a b)

pub counted_none : (f g : ℕ) → f ≤ g → Counted [] f g
counted_none f g falls = record { rose = rose_none f g falls; never_falls = falls }

-- one event has its own alone
unkept_alone : (e : Event) → unkept_of e ≡ unkept_in (e ∷ [])
unkept_alone e = let same : unkept_of e ≡ unkept_of e + 0 = omega arith in same

pub counted_one : (e : Event) (f g : ℕ) → RoseBy (unkept_of e) f g → f ≤ g → Counted (e ∷ []) f g
counted_one e f g rose falls = record { rose = subst (λ (n : ℕ). RoseBy n f g) (unkept_alone e) rose; never_falls = falls }

-- an event at which all is done that asks the keeper
pub counted_kept : (e : Event) (f g : ℕ) → unkept_of e ≡ 0 → f ≤ g → Counted (e ∷ []) f g
counted_kept e f g kept falls = counted_one e f g (subst (λ (n : ℕ). RoseBy n f g) (sym kept) (rose_none f g falls)) falls

pub counted_both : (a b : List Event) (f g k : ℕ) → Counted a f g → Counted b g k → Counted (a ++ b) f k
counted_both a b f g k first later = record {
  rose = subst (λ (n : ℕ). RoseBy n f k) (sym (unkept-append a b))
      (rose_both (unkept_in a) (unkept_in b) f g k first.rose later.rose);
  never_falls = omega (arith, first.never_falls, later.never_falls);
}

-- ---- runs

pub ran_nothing : (s : Scene) → Run [] s s
ran_nothing s = record { may = tt; state = refl; entries = sym (append-nil s.entries); counted = counted_none s.faults s.faults (omega arith) }

pub entries_on : (a b : List Event) (old : Machine) (mid : Machine) (before some all : List Entry) → mid ≡ happens_all old a
    → some ≡ before ++ entries_all old a → all ≡ some ++ entries_all mid b → all ≡ before ++ entries_all old (a ++ b)
entries_on a b old mid before some all there first later =
    later
    ∙ (ap (λ (l : List Entry). l ++ entries_all mid b) first
    ∙ (append_assoc before (entries_all old a) (entries_all mid b)
    ∙ (ap (λ (m : Machine). before ++ (entries_all old a ++ entries_all m b)) there
    ∙ ap (λ (l : List Entry). before ++ l) (sym (entries_all-append old a b)))))

pub ran_both : (a b : List Event) (old mid new : Scene) → Run a old mid → Run b mid new → Run (a ++ b) old new
ran_both a b old mid new first later =
    let there : mid.machine ≡ happens_all old.machine a = first.state in
    record {
      may = may_all-append old.machine a b first.may (subst (λ (m : Machine). MayAll m b) there later.may);
      state = later.state ∙ (ap (λ (m : Machine). happens_all m b) there ∙ sym (happens_all-append old.machine a b));
      entries = entries_on a b old.machine mid.machine old.entries mid.entries new.entries there first.entries later.entries;
      counted = counted_both a b old.faults mid.faults new.faults first.counted later.counted;
    }

-- ---- what was done where memory ran out

pub stopped_now : (Prefix : Schedule) (s : Scene) → Prefix s.machine [] → Stops Prefix s s
stopped_now Prefix s none = record {
  whole = [];
  last = None;
  prefix = none;
  moved = none;
  kept = [];
  of_host = tt;
  may = tt;
  devices = refl;
  records = refl;
  entered = sym (append-nil s.entries);
  counted = counted_none s.faults s.faults (omega arith);
}

-- a prefix of one thing is a prefix of another
pub stopped_as : (A B : Schedule) (s t : Scene) → ((events : List Event) → A s.machine events → B s.machine events) → Stops A s t → Stops B s t
stopped_as A B s t goes stops = record {
  whole = stops.whole;
  last = stops.last;
  prefix = goes stops.whole stops.prefix;
  moved = goes (stops.whole ++ last_of stops.last) stops.moved;
  kept = stops.kept;
  of_host = stops.of_host;
  may = stops.may;
  devices = stops.devices;
  records = stops.records;
  entered = stops.entered;
  counted = stops.counted;
}

-- events were done, and then it stopped
pub stopped_later : (A B : Schedule) (a : List Event) (old mid new : Scene) → ((events : List Event) → B mid.machine events → A old.machine (a ++ events)) → Run a old mid → Stops B mid new → Stops A old new
stopped_later A B a old mid new goes first later =
    let there : mid.machine ≡ happens_all old.machine a = first.state in
    let ends : List Event = later.whole ++ last_of later.last in
    let prefix : a ++ ends ≡ (a ++ later.whole) ++ last_of later.last = sym (append_assoc a later.whole (last_of later.last)) in
    let all : a ++ (ends ++ later.kept) ≡ ((a ++ later.whole) ++ last_of later.last) ++ later.kept =
    sym (append_assoc a ends later.kept) ∙ ap (λ (l : List Event). l ++ later.kept) prefix in
    let after : happens_all mid.machine (ends ++ later.kept) ≡ happens_all old.machine (((a ++ later.whole) ++ last_of later.last) ++ later.kept) =
    ap (λ (m : Machine). happens_all m (ends ++ later.kept)) there ∙ (sym (happens_all-append old.machine a (ends ++ later.kept)) ∙ ap (λ (l : List Event). happens_all old.machine l) all) in
    record {
      whole = a ++ later.whole;
      last = later.last;
      prefix = goes later.whole later.prefix;
      moved = subst (λ (l : List Event). A old.machine l) prefix (goes ends later.moved);
      kept = later.kept;
      of_host = later.of_host;
      may = subst (λ (l : List Event). MayAll old.machine l) all
          (may_all-append old.machine a (ends ++ later.kept) first.may (subst (λ (m : Machine). MayAll m (ends ++ later.kept)) there later.may));
      devices = later.devices ∙ ap (λ (m : Machine). m.outside.devices) after;
      records = later.records ∙ ap (λ (m : Machine). m.records) after;
      entered = entries_on a later.whole old.machine mid.machine old.entries mid.entries new.entries there first.entries later.entered;
      counted = counted_both a later.whole old.faults mid.faults new.faults first.counted later.counted;
    }
