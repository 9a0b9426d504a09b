-- Events of a host alone, one after another.
use Rattle.std.proofs.Common.{◌≡◌, ℕ, ◌+◌, ◌≤◌, List, [], ◌∷◌, ◌++◌, refl, ap, sym, ◌∙◌, subst, append_assoc, arith}
use Rattle.std.proofs.lemmas.List.{append-nil}
use Rattle.zw_text.specs.declared.entry.Entry.{Entry}
use Rattle.host_model.specs.Did.{RoseBy}
use Rattle.host_model.proofs.EventLists.{rose_both, rose_none}
use Rattle.run_replay.specs.Machine.{Lone, Event, Scene, Schedule, Run, Does, Stops, Then, May, MayAll, happens, happens_all, entries, entries_all, unkept_of, unkept_in}

pub happens_all-append : (m : Lone) (a b : List Event) → happens_all m (a ++ b) ≡ happens_all (happens_all m a) b
happens_all-append m [] b = refl
happens_all-append m (e ∷ a) b = happens_all-append (happens m e) a b

pub entries_all-append : (m : Lone) (a b : List Event) → entries_all m (a ++ b) ≡ entries_all m a ++ entries_all (happens_all m a) b
entries_all-append m [] b = refl
entries_all-append m (e ∷ a) b =
    ap (λ (t : List Entry). entries m e ++ t) (entries_all-append (happens m e) a b)
    ∙ sym (append_assoc (entries m e) (entries_all (happens m e) a) (entries_all (happens_all (happens m e) a) b))

pub may_all-append : (m : Lone) (a b : List Event) → MayAll m a → MayAll (happens_all m a) b → MayAll m (a ++ b)
may_all-append m [] b first later = later
may_all-append m (e ∷ a) b first later = (first.0, may_all-append (happens m e) a b first.1 later)

-- ---- faults of the keeper

unkept-append : (a b : List Event) → unkept_in (a ++ b) ≡ unkept_in a + unkept_in b
unkept-append [] b = omega arith
unkept-append (e ∷ a) b = omega (arith, unkept-append a b)

-- those of one event are its own
alone_rose : (e : Event) (f g : ℕ) → RoseBy (unkept_of e) f g → RoseBy (unkept_in (e ∷ [])) f g
alone_rose e f g rose = let same : unkept_of e ≡ unkept_of e + 0 = omega arith in subst (λ (n : ℕ). RoseBy n f g) same rose

-- those of two lists are both
both_rose : (a b : List Event) (f g k : ℕ) → RoseBy (unkept_in a) f g → RoseBy (unkept_in b) g k → RoseBy (unkept_in (a ++ b)) f k
both_rose a b f g k first last =
    subst (λ (n : ℕ). RoseBy n f k) (sym (unkept-append a b)) (rose_both (unkept_in a) (unkept_in b) f g k first last)

-- ---- runs

pub ran_nothing : (s : Scene) → Run [] s s
ran_nothing s = record { may = tt; state = refl; entered = sym (append-nil s.entries); rose = rose_none s.faults s.faults (omega arith); never_falls = omega arith }

-- one event
pub ran_one : (e : Event) (m new : Lone) (before all : List Entry) (f g : ℕ) → May m e → new ≡ happens m e → all ≡ before ++ entries m e → RoseBy (unkept_of e) f g → f ≤ g
    → Run (e ∷ []) (record { lone = m; entries = before; faults = f }) (record { lone = new; entries = all; faults = g })
ran_one e m new before all f g may state entered rose falls = record {
  may = (may, tt);
  state = state;
  entered = entered ∙ ap (λ (l : List Entry). before ++ l) (sym (append-nil (entries m e)));
  rose = alone_rose e f g rose;
  never_falls = falls;
}

entered_on : (a b : List Event) (old mid : Lone) (before some all : List Entry) → mid ≡ happens_all old a
    → some ≡ before ++ entries_all old a → all ≡ some ++ entries_all mid b → all ≡ before ++ entries_all old (a ++ b)
entered_on a b old mid before some all there first later =
    later
    ∙ (ap (λ (l : List Entry). l ++ entries_all mid b) first
    ∙ (append_assoc before (entries_all old a) (entries_all mid b)
    ∙ (ap (λ (m : Lone). before ++ (entries_all old a ++ entries_all m b)) there
    ∙ ap (λ (l : List Entry). before ++ l) (sym (entries_all-append old a b)))))

pub ran_both : (a b : List Event) (old mid new : Scene) → Run a old mid → Run b mid new → Run (a ++ b) old new
ran_both a b old mid new first later =
    let there : mid.lone ≡ happens_all old.lone a = first.state in
    record {
      may = may_all-append old.lone a b first.may (subst (λ (m : Lone). MayAll m b) there later.may);
      state = later.state ∙ (ap (λ (m : Lone). happens_all m b) there ∙ sym (happens_all-append old.lone a b));
      entered = entered_on a b old.lone mid.lone old.entries mid.entries new.entries there first.entered later.entered;
      rose = both_rose a b old.faults mid.faults new.faults first.rose later.rose;
      never_falls = omega (arith, first.never_falls, later.never_falls);
    }

-- ---- an allocation failure

-- one event happened, and a prefix of its entries was made
pub stopped_in : (e : Event) (m new : Lone) (before all : List Entry) (f g : ℕ) → May m e → new.records ≡ (happens m e).records
    → ((more : List Entry) × (all ++ more ≡ before ++ entries m e)) → RoseBy (unkept_of e) f g → f ≤ g
    → Stops (record { lone = m; entries = before; faults = f }) (record { lone = new; entries = all; faults = g })
stopped_in e m new before all f g may records prefix rose falls = record {
  events = e ∷ [];
  may = (may, tt);
  records = records;
  more = prefix.0;
  prefix = prefix.1 ∙ ap (λ (l : List Entry). before ++ l) (sym (append-nil (entries m e)));
  rose = alone_rose e f g rose;
  never_falls = falls;
}

-- nothing was done
pub stopped_still : (m new : Lone) (before all : List Entry) (f g : ℕ) → new.records ≡ m.records → all ≡ before → f ≤ g
    → Stops (record { lone = m; entries = before; faults = f }) (record { lone = new; entries = all; faults = g })
stopped_still m new before all f g records same falls = record {
  events = [];
  may = tt;
  records = records;
  more = [];
  prefix = ap (λ (l : List Entry). l ++ []) same;
  rose = rose_none f g falls;
  never_falls = falls;
}

pub stopped_later : (a : List Event) (old mid new : Scene) → Run a old mid → Stops mid new → Stops old new
stopped_later a old mid new first later =
    let there : mid.lone ≡ happens_all old.lone a = first.state in
    let after : happens_all mid.lone later.events ≡ happens_all old.lone (a ++ later.events) =
    ap (λ (m : Lone). happens_all m later.events) there ∙ sym (happens_all-append old.lone a later.events) in
    record {
      events = a ++ later.events;
      may = may_all-append old.lone a later.events first.may (subst (λ (m : Lone). MayAll m later.events) there later.may);
      records = later.records ∙ ap (λ (m : Lone). m.records) after;
      more = later.more;
      prefix = entered_on a later.events old.lone mid.lone old.entries mid.entries (new.entries ++ later.more) there first.entered later.prefix;
      rose = both_rose a later.events old.faults mid.faults new.faults first.rose later.rose;
      never_falls = omega (arith, first.never_falls, later.never_falls);
    }

-- ---- schedules

pub did_then : (A B : Schedule) (s t u : Scene) → Does A s t → Does B t u → Does (Then A B) s u
did_then A B s t u first later =
    (first.0 ++ later.0, (first.0, later.0, refl, first.1, subst (λ (m : Lone). B m later.0) first.2.state later.1), ran_both first.0 later.0 s t u first.2 later.2)

pub stopped_then : (A : Schedule) (s t u : Scene) → Does A s t → Stops t u → Stops s u
stopped_then A s t u first stops = stopped_later first.0 s t u first.2 stops
