-- Lists of events that happened one after another.
use Rattle.std.proofs.Common.{◌≡◌, ℕ, ◌+◌, ◌≤◌, List, [], ◌∷◌, ◌++◌, inl, inr, refl, ap, sym, ◌∙◌, subst, append_assoc, arith}
use Rattle.std.specs.Prelude.{Option, Some, None, Bool, true, false}
use Rattle.std.specs.List.{AllByRecursion}
use Rattle.std.proofs.lemmas.List.{append-nil, map-append}
use Rattle.host_keep.specs.Keeping.{OptAdds, Shelf}
use Rattle.host_keep.specs.RecordText.{record_text}
use Rattle.host_keep.specs.Rows.{IsRecord}
use Rattle.host_keep.specs.declared.record.Record.{Record}
use Rattle.host_model.specs.State.{HostState}
use Rattle.host_model.specs.Events.{HostEvent}
use Rattle.host_model.specs.After.{after}
use Rattle.host_model.specs.Outs.{outs}
use Rattle.host_model.specs.Records.{records_at, KeepsInRange}
use Rattle.host_model.specs.May.{May}
use Rattle.host_model.specs.Did.{after_all, outs_all, records_all, texts_of, MayAll, is_unkept, RoseIf, RoseBy, one_if, unkept_in, Did}
use Rattle.host_model.specs.declared.out.HostOut.{HostOut}

pub after_all-append : (h : HostState) (a b : List HostEvent) → after_all h (a ++ b) ≡ after_all (after_all h a) b
after_all-append h [] b = refl
after_all-append h (e ∷ a) b = after_all-append (after h e) a b

pub outs_all-append : (h : HostState) (a b : List HostEvent) → outs_all h (a ++ b) ≡ outs_all h a ++ outs_all (after_all h a) b
outs_all-append h [] b = refl
outs_all-append h (e ∷ a) b = ap (λ (t : List HostOut). outs h e ++ t) (outs_all-append (after h e) a b) ∙ sym (append_assoc (outs h e) (outs_all (after h e) a) (outs_all (after_all (after h e) a) b))

pub records_all-append : (h : HostState) (a b : List HostEvent) → records_all h (a ++ b) ≡ records_all h a ++ records_all (after_all h a) b
records_all-append h [] b = refl
records_all-append h (e ∷ a) b = ap (λ (t : List Record). records_at h e ++ t) (records_all-append (after h e) a b) ∙ sym (append_assoc (records_at h e) (records_all (after h e) a) (records_all (after_all (after h e) a) b))

pub may_all-append : (h : HostState) (a b : List HostEvent) → MayAll h a → MayAll (after_all h a) b → MayAll h (a ++ b)
may_all-append h [] b first later = later
may_all-append h (e ∷ a) b first later = (first.0, may_all-append (after h e) a b first.1 later, first.2)

-- ---- records

-- each record of one list, and of another, is in range
all_of_both : (a b : List Record) → AllByRecursion IsRecord a → AllByRecursion IsRecord b → AllByRecursion IsRecord (a ++ b)
all_of_both [] b first later = later
all_of_both (one ∷ a) b first later = (first.0, all_of_both a b first.1 later)

pub all_in_range : (h : HostState) (events : List HostEvent) → MayAll h events → AllByRecursion IsRecord (records_all h events)
all_in_range h [] may = tt
all_in_range h (e ∷ events) may = all_of_both (records_at h e) (records_all (after h e) events) may.2 (all_in_range (after h e) events may.1)

pub texts-append : (a b : List Record) → texts_of (a ++ b) ≡ texts_of a ++ texts_of b
texts-append a b = map-append record_text a b

pub none_added : (records : Option (List (List ℕ))) → OptAdds records records []
none_added None = refl
none_added (Some kept) = ap (λ (k : List (List ℕ)). Some k) (sym (append-nil kept))

adds_both : (a b c : Option (List (List ℕ))) (x y : List (List ℕ)) → OptAdds a b x → OptAdds b c y → OptAdds a c (x ++ y)
adds_both None b c x y first later = subst (λ (o : Option (List (List ℕ))). OptAdds o c y) first later
adds_both (Some kept) b c x y first later =
    subst (λ (o : Option (List (List ℕ))). OptAdds o c y) first later ∙ ap (λ (k : List (List ℕ)). Some k) (append_assoc kept x y)

-- ---- faults

-- what rose twice rose by both
pub rose_both : (a b f g k : ℕ) → RoseBy a f g → RoseBy b g k → RoseBy (a + b) f k
rose_both a b f g k (inl first) (inl last) = inl (omega (arith, first, last))
rose_both a b f g k first (inr top) = inr top
rose_both a b f g k (inr top) (inl last) = inr (omega (arith, top, last))

-- what rose by more rose by less
pub rose_less : (a b f g : ℕ) → a ≤ b → RoseBy b f g → RoseBy a f g
rose_less a b f g less (inl rose) = inl (omega (arith, less, rose))
rose_less a b f g less (inr top) = inr top

pub rose_one : (b : Bool) (f g : ℕ) → f ≤ g → RoseIf b f g → RoseBy (one_if b) f g
rose_one true f g falls (inl rose) = inl (omega (arith, rose))
rose_one true f g falls (inr top) = inr (omega (arith, top))
rose_one false f g falls rose = inl (omega (arith, falls))

pub rose_none : (f g : ℕ) → f ≤ g → RoseBy 0 f g
rose_none f g falls = inl (omega (arith, falls))

-- one event has its own alone
pub unkept_alone : (e : HostEvent) → one_if (is_unkept e) ≡ unkept_in (e ∷ [])
unkept_alone e = let same : one_if (is_unkept e) ≡ one_if (is_unkept e) + 0 = omega arith in same

unkept-append : (a b : List HostEvent) → unkept_in (a ++ b) ≡ unkept_in a + unkept_in b
unkept-append [] b = omega arith
unkept-append (e ∷ a) b = omega (arith, unkept-append a b)

-- ---- what was done

-- no event happened, and the keeper has what it had
pub did_nothing : (old new : HostState) (before all : List HostOut) (shelf shelf' : Shelf) → new ≡ old → all ≡ before → OptAdds shelf.records shelf'.records [] → shelf.faults ≤ shelf'.faults
    → Did [] old new before all shelf shelf'
did_nothing old new before all shelf shelf' state outs records falls =
    record { may = tt; state = state; outs = outs ∙ sym (append-nil before); records = records; rose = rose_none shelf.faults shelf'.faults falls; never_falls = falls }

-- one event happened
pub did_one : (e : HostEvent) (old new : HostState) (before all : List HostOut) (shelf shelf' : Shelf) → May old e → KeepsInRange old e → new ≡ after old e → all ≡ before ++ outs old e
    → OptAdds shelf.records shelf'.records (texts_of (records_at old e)) → RoseIf (is_unkept e) shelf.faults shelf'.faults → shelf.faults ≤ shelf'.faults
    → Did (e ∷ []) old new before all shelf shelf'
did_one e old new before all shelf shelf' may range state put records rose falls =
    record {
      may = (may, tt, range);
      state = state;
      outs = put ∙ ap (λ (t : List HostOut). before ++ t) (sym (append-nil (outs old e)));
      records = subst (λ (t : List Record). OptAdds shelf.records shelf'.records (texts_of t)) (sym (append-nil (records_at old e))) records;
      rose = subst (λ (n : ℕ). RoseBy n shelf.faults shelf'.faults) (unkept_alone e) (rose_one (is_unkept e) shelf.faults shelf'.faults falls rose);
      never_falls = falls;
    }

-- two lists happened, one after the other
pub did_both : (a b : List HostEvent) (old mid new : HostState) (before some all : List HostOut) (s t u : Shelf) → Did a old mid before some s t → Did b mid new some all t u
    → Did (a ++ b) old new before all s u
did_both a b old mid new before some all s t u first later =
    record {
      may = may_all-append old a b first.may (subst (λ (h : HostState). MayAll h b) first.state later.may);
      state = later.state ∙ ap (λ (h : HostState). after_all h b) first.state ∙ sym (after_all-append old a b);
      outs = later.outs ∙ ap (λ (l : List HostOut). l ++ outs_all mid b) first.outs
          ∙ append_assoc before (outs_all old a) (outs_all mid b)
          ∙ ap (λ (l : List HostOut). before ++ l) (ap (λ (h : HostState). outs_all old a ++ outs_all h b) first.state ∙ sym (outs_all-append old a b));
      records = subst (λ (l : List (List ℕ)). OptAdds s.records u.records l)
          (sym (texts-append (records_all old a) (records_all mid b))
          ∙ ap (λ (l : List Record). texts_of l) (ap (λ (h : HostState). records_all old a ++ records_all h b) first.state ∙ sym (records_all-append old a b)))
          (adds_both s.records t.records u.records (texts_of (records_all old a)) (texts_of (records_all mid b)) first.records later.records);
      rose = subst (λ (n : ℕ). RoseBy n s.faults u.faults) (sym (unkept-append a b))
          (rose_both (unkept_in a) (unkept_in b) s.faults t.faults u.faults first.rose later.rose);
      never_falls = omega (arith, first.never_falls, later.never_falls);
    }
