-- Single events that were done.
use Rattle.std.proofs.Common.{◌≡◌, true, Some, None, List, [], ◌∷◌, ◌++◌, ap, sym, ◌∙◌, subst, append_assoc, Result, Ok, Err, OnOk}
use Rattle.std.proofs.lemmas.List.{append-nil}
use Rattle.device_sim.specs.State.{State}
use Rattle.zw_text.specs.declared.entry.Entry.{Entry}
use Rattle.outside_model.specs.State.{OuterState, Outside, outside, Outcome, silent, Does}
use Rattle.outside_model.specs.Events.{OuterEvent, outcome, devices_after, May, stamp, has_entered, entries, is_own, AreOwn}
use Rattle.outside_model.proofs.EventLists.{happens_all-append, entries_all-append, may_all-append}
use Rattle.outside_model.specs.Did.{happens_all, entries_all, MayAll, Run, Goes, Enters, last_of, Stops}

-- what was told of an outcome was entered
pub entered : (out : Outcome) (mid new : OuterState) (start told before all : List Entry)
    → start ≡ [] → Does out mid start told → new ≡ has_entered mid told → all ≡ before ++ stamp mid told → Enters out new before all
entered out mid new start told before all none done outer put =
    let is : told ≡ out.entries = done.entries ∙ ap (λ (l : List Entry). l ++ out.entries) none in
    record {
      outer = outer ∙ (ap (λ (o : OuterState). has_entered o told) done.outer ∙ ap (λ (l : List Entry). has_entered out.outer l) is);
      entries = put ∙ (ap (λ (o : OuterState). before ++ stamp o told) done.outer ∙ ap (λ (l : List Entry). before ++ stamp out.outer l) is);
    }

pub entered_ok : {V E : Type 0} (r : Result V E) (out : Outcome) (mid new : OuterState) (start told before all : List Entry)
    → start ≡ [] → Does out mid start told → OnOk r (new ≡ has_entered mid told) → OnOk r (all ≡ before ++ stamp mid told) → OnOk r (Enters out new before all)
entered_ok (Ok v) out mid new start told before all none done outer put = entered out mid new start told before all none done outer put
entered_ok (Err e) out mid new start told before all none done outer put = tt

-- an event was done
pub run_one : (e : OuterEvent) (w : Outside) (new : OuterState) (later : List State) (before all : List Entry)
    → May w e → Enters (outcome w e) new before all → later ≡ devices_after w e → Run (e ∷ []) w (outside new later) before all
run_one e w new later before all may done devices = record {
  may = (may, tt);
  state = ap (λ (o : OuterState). outside o later) done.outer ∙ ap (λ (ds : List State). outside (has_entered (outcome w e).outer (outcome w e).entries) ds) devices;
  entries = done.entries ∙ ap (λ (l : List Entry). before ++ l) (sym (append-nil (entries w e)));
}

-- whatever the devices are
pub goes_one : (e : OuterEvent) (old new : OuterState) (before all : List Entry) → ((ds : List State) → May (outside old ds) e)
    → ((ds : List State) → Enters (outcome (outside old ds) e) new before all) → ((ds : List State) → ds ≡ devices_after (outside old ds) e) → Goes (e ∷ []) old new before all
goes_one e old new before all may done still ds = run_one e (outside old ds) new ds before all (may ds) (done ds) (still ds)

-- nothing was told
pub enters_silent : (o new : OuterState) (all : List Entry) → new ≡ o → Enters (silent o) new all all
enters_silent o new all same = record { outer = same; entries = sym (append-nil all) }

-- it stops before anything was done
pub stops_now : (Prefix : List OuterEvent → Type 0) (old : Outside) (devices : List State) (before all : List Entry)
    → Prefix [] → devices ≡ old.devices → all ≡ before → Stops Prefix old devices before all
stops_now Prefix old devices before all prefix same put = record {
  whole = [];
  last = None;
  prefix = prefix;
  own = tt;
  may = tt;
  devices_are = same;
  entered = put ∙ sym (append-nil before);
}

-- it stops in an event whose device has done its part
pub stops_in : (Prefix : List OuterEvent → Type 0) (e : OuterEvent) (old : Outside) (devices : List State) (before all : List Entry)
    → Prefix (e ∷ []) → is_own e ≡ true → May old e → devices ≡ devices_after old e → all ≡ before → Stops Prefix old devices before all
stops_in Prefix e old devices before all prefix own may same put = record {
  whole = [];
  last = Some e;
  prefix = prefix;
  own = (own, tt);
  may = (may, tt);
  devices_are = same;
  entered = put ∙ sym (append-nil before);
}

-- ---- lists of events

AreOwn-append : (xs ys : List OuterEvent) → AreOwn xs → AreOwn ys → AreOwn (xs ++ ys)
AreOwn-append [] ys first more = more
AreOwn-append (x ∷ xs) ys first more = (first.0, AreOwn-append xs ys first.1 more)

-- it stops after events, which what follows makes a prefix of another kind
pub stops_after : (Later Prefix : List OuterEvent → Type 0) (xs : List OuterEvent) (a b : Outside) (devices : List State) (before mid all : List Entry)
    → ((events : List OuterEvent) → Later events → Prefix (xs ++ events)) → AreOwn xs → Run xs a b before mid → Stops Later b devices mid all → Stops Prefix a devices before all
stops_after Later Prefix xs a b devices before mid all goes own first more = record {
  whole = xs ++ more.whole;
  last = more.last;
  prefix = subst (λ (l : List OuterEvent). Prefix l) joined (goes done more.prefix);
  own = subst (λ (l : List OuterEvent). AreOwn l) joined (AreOwn-append xs done own more.own);
  may = subst (λ (l : List OuterEvent). MayAll a l) joined (may_all-append a xs done first.may (subst (λ (w : Outside). MayAll w done) first.state more.may));
  devices_are = more.devices_are ∙ ap (λ (w : Outside). w.devices)
      (ap (λ (w : Outside). happens_all w done) first.state ∙ (sym (happens_all-append a xs done) ∙ ap (λ (l : List OuterEvent). happens_all a l) joined));
  entered = more.entered ∙ (ap (λ (l : List Entry). l ++ entries_all b more.whole) first.entries
      ∙ (append_assoc before (entries_all a xs) (entries_all b more.whole)
      ∙ ap (λ (l : List Entry). before ++ l) (ap (λ (w : Outside). entries_all a xs ++ entries_all w more.whole) first.state ∙ sym (entries_all-append a xs more.whole))));
}
  where
    done : List OuterEvent
    done = more.whole ++ last_of more.last

    joined : xs ++ done ≡ (xs ++ more.whole) ++ last_of more.last
    joined = sym (append_assoc xs more.whole (last_of more.last))
