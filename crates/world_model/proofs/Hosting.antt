-- Events of the host, as the machine's: what it puts out is routed once they are all done.
use Rattle.std.proofs.Common.{◌≡◌, ℕ, ◌+◌, ◌≤◌, List, [], ◌∷◌, ◌++◌, map, refl, ap, sym, ◌∙◌, subst, append_assoc}
use Rattle.std.specs.Prelude.{Option, Some, None}
use Rattle.std.specs.List.{AllByRecursion}
use Rattle.std.proofs.lemmas.List.{append-nil, map-append}
use Rattle.zw_text.specs.declared.entry.Entry.{Entry}
use Rattle.host_model.specs.host_keep.Keeping.{OptAdds}
use Rattle.host_model.specs.host_keep.declared.record.Record.{Record}
use Rattle.host_model.specs.host_keep.RecordText.{record_text}
use Rattle.host_model.specs.State.{HostState}
use Rattle.host_model.specs.Events.{HostEvent}
use Rattle.host_model.specs.After.{after}
use Rattle.host_model.specs.Outs.{outs, answers, Silent}
use Rattle.host_model.specs.Records.{records_at}
use Rattle.host_model.specs.Did.{after_all, outs_all, records_all, texts_of, MayAll as MayAllHost, is_unkept, unkept_in as unkept_by_host, one_if, RoseBy, Did}
use Rattle.host_model.specs.declared.out.HostOut.{HostOut}
use Rattle.host_model.specs.declared.out.HostOut.TheVariants.{Write, Note}
use Rattle.outside_model.specs.State.{Outside, OuterState, outside}
use Rattle.outside_model.specs.Events.{OuterEvent, Host_notes, happens as happens_outside, devices_after}
use Rattle.outside_model.specs.Did.{happens_all as happens_all_outside, entries_all as entries_all_outside, Goes}
use Rattle.outside_model.proofs.EventLists.{happens_all-append as outside-append, entries_all-append as outside_entries-append}
use Rattle.world_model.specs.State.{Machine, begun_in, noted_by, routed, routed_one, with_texts, host_does, host_entries}
use Rattle.world_model.specs.Events.{Event, Host_does, happens, entries, May}
use Rattle.world_model.specs.Did.{happens_all, entries_all, MayAll, unkept_in, Counted, Run, Schedule, IsOfHost, Stops}
use Rattle.world_model.proofs.EventLists.{counted_none}

-- ---- records

with_texts-append : (r : Option (List (List ℕ))) (a b : List (List ℕ)) → with_texts (with_texts r a) b ≡ with_texts r (a ++ b)
with_texts-append None a b = refl
with_texts-append (Some kept) a b = ap (λ (l : List (List ℕ)). Some l) (append_assoc kept a b)

pub adds_is : (r r' : Option (List (List ℕ))) (texts : List (List ℕ)) → OptAdds r r' texts → r' ≡ with_texts r texts
adds_is None r' texts adds = adds
adds_is (Some kept) r' texts adds = adds

texts_nil : (r : Option (List (List ℕ))) → with_texts r [] ≡ r
texts_nil None = refl
texts_nil (Some kept) = ap (λ (l : List (List ℕ)). Some l) (append-nil kept)

-- ---- routing

pub routed-append : (a b : List HostOut) → routed (a ++ b) ≡ routed a ++ routed b
routed-append [] b = refl
routed-append (x ∷ a) b = ap (λ (l : List OuterEvent). routed_one x ++ l) (routed-append a b) ∙ sym (append_assoc (routed_one x) (routed a) (routed b))

-- ---- one event and then others

does_cons : (m : Machine) (e : HostEvent) (es : List HostEvent) → host_does (host_does m (e ∷ [])) es ≡ host_does m (e ∷ es)
does_cons m e es =
    let h = m.host.state in
    let rest = outs_all (after h e) es in
    let first : outs_all h (e ∷ []) ≡ outs h e = append-nil (outs h e) in
    let kept : records_all h (e ∷ []) ≡ records_at h e = append-nil (records_at h e) in
    ap (λ (l : List HostOut). record {
      keys = m.keys;
      host = record { decoder = m.host.decoder; state = after_all (after h e) es };
      records = with_texts (with_texts m.records (texts_of (records_all h (e ∷ [])))) (texts_of (records_all (after h e) es));
      outside = happens_all_outside (happens_all_outside m.outside (routed l)) (routed rest);
    }) first
    ∙ (ap (λ (l : List Record). record {
      keys = m.keys;
      host = record { decoder = m.host.decoder; state = after_all (after h e) es };
      records = with_texts (with_texts m.records (texts_of l)) (texts_of (records_all (after h e) es));
      outside = happens_all_outside (happens_all_outside m.outside (routed (outs h e))) (routed rest);
    }) kept
    ∙ (ap (λ (r : Option (List (List ℕ))). record {
      keys = m.keys;
      host = record { decoder = m.host.decoder; state = after_all (after h e) es };
      records = r;
      outside = happens_all_outside (happens_all_outside m.outside (routed (outs h e))) (routed rest);
    })
    (with_texts-append m.records (texts_of (records_at h e)) (texts_of (records_all (after h e) es))
    ∙ ap (λ (l : List (List ℕ)). with_texts m.records l) (sym (map-append record_text (records_at h e) (records_all (after h e) es))))
    ∙ ap (λ (w : Outside). record {
      keys = m.keys;
      host = record { decoder = m.host.decoder; state = after_all (after h e) es };
      records = with_texts m.records (texts_of (records_all h (e ∷ es)));
      outside = w;
    })
    (sym (outside-append m.outside (routed (outs h e)) (routed rest))
    ∙ ap (λ (l : List OuterEvent). happens_all_outside m.outside l) (sym (routed-append (outs h e) rest)))))

pub entries_cons : (m : Machine) (e : HostEvent) (es : List HostEvent) → host_entries m (e ∷ []) ++ host_entries (host_does m (e ∷ [])) es ≡ host_entries m (e ∷ es)
entries_cons m e es =
    let h = m.host.state in
    let rest = outs_all (after h e) es in
    ap (λ (l : List HostOut). entries_all_outside m.outside (routed l) ++ entries_all_outside (happens_all_outside m.outside (routed l)) (routed rest)) (append-nil (outs h e))
    ∙ (sym (outside_entries-append m.outside (routed (outs h e)) (routed rest))
    ∙ ap (λ (l : List OuterEvent). entries_all_outside m.outside l) (sym (routed-append (outs h e) rest)))

-- ---- events that answer no line

silent_happens : (m : Machine) (e : HostEvent) → answers m.host.state e ≡ [] → happens m (Host_does e) ≡ host_does m (e ∷ [])
unfolding happens
silent_happens m e none =
    ap (λ (l : List Entry). record (host_does m (e ∷ [])) { outside = happens_all_outside (host_does m (e ∷ [])).outside (map Host_notes l) }) none

silent_entries : (m : Machine) (e : HostEvent) → answers m.host.state e ≡ [] → entries m (Host_does e) ≡ host_entries m (e ∷ [])
unfolding entries
silent_entries m e none =
    ap (λ (l : List Entry). host_entries m (e ∷ []) ++ entries_all_outside (host_does m (e ∷ [])).outside (map Host_notes l)) none ∙ append-nil (host_entries m (e ∷ []))

does_nothing : (m : Machine) → m ≡ host_does m []
does_nothing m = ap (λ (r : Option (List (List ℕ))). record m { records = r }) (sym (texts_nil m.records))

pub happens_host-all : (m : Machine) (es : List HostEvent) → Silent es → happens_all m (map Host_does es) ≡ host_does m es
happens_host-all m [] silent = does_nothing m
happens_host-all m (e ∷ es) silent =
    ap (λ (x : Machine). happens_all x (map Host_does es)) (silent_happens m e (silent.0 m.host.state))
    ∙ (happens_host-all (host_does m (e ∷ [])) es silent.1 ∙ does_cons m e es)

pub entries_host-all : (m : Machine) (es : List HostEvent) → Silent es → entries_all m (map Host_does es) ≡ host_entries m es
entries_host-all m [] silent = refl
entries_host-all m (e ∷ es) silent =
    ap (λ (l : List Entry). l ++ entries_all (happens m (Host_does e)) (map Host_does es)) (silent_entries m e (silent.0 m.host.state))
    ∙ (ap (λ (x : Machine). host_entries m (e ∷ []) ++ entries_all x (map Host_does es)) (silent_happens m e (silent.0 m.host.state))
    ∙ (ap (λ (l : List Entry). host_entries m (e ∷ []) ++ l) (entries_host-all (host_does m (e ∷ [])) es silent.1) ∙ entries_cons m e es))

pub may_host-all : (m : Machine) (es : List HostEvent) → MayAllHost m.host.state es → MayAll m (map Host_does es)
unfolding happens May
may_host-all m [] may = tt
may_host-all m (e ∷ es) may = ((may.0, tt, may.2), may_host-all (happens m (Host_does e)) es may.1)

unkept_is : (es : List HostEvent) → unkept_in (map Host_does es) ≡ unkept_by_host es
unkept_is [] = refl
unkept_is (e ∷ es) = ap (λ (n : ℕ). one_if (is_unkept e) + n) (unkept_is es)

counted_host : (es : List HostEvent) (f g : ℕ) → RoseBy (unkept_by_host es) f g → f ≤ g → Counted (map Host_does es) f g
counted_host es f g rose falls = record { rose = subst (λ (n : ℕ). RoseBy n f g) (sym (unkept_is es)) rose; never_falls = falls }

-- ---- what is routed moves no device

pub still_note : (w : Outside) (begun : Option (ℕ × ℕ)) (entry : Entry) → (happens_all_outside w (noted_by begun entry)).devices ≡ w.devices
unfolding devices_after
still_note w None entry = refl
still_note w (Some begun) entry = refl

pub still_one : (w : Outside) (x : HostOut) → (happens_all_outside w (routed_one x)).devices ≡ w.devices
unfolding devices_after
still_one w (Write unit) = refl
still_one w (Note entry) = still_note w (begun_in entry) entry

pub routed_still : (w : Outside) (xs : List HostOut) → (happens_all_outside w (routed xs)).devices ≡ w.devices
routed_still w [] = refl
routed_still w (x ∷ xs) =
    ap (λ (v : Outside). v.devices) (outside-append w (routed_one x) (routed xs))
    ∙ (routed_still (happens_all_outside w (routed_one x)) xs ∙ still_one w x)

noted_still : (w : Outside) (entries : List Entry) → (happens_all_outside w (map Host_notes entries)).devices ≡ w.devices
unfolding devices_after
noted_still w [] = refl
noted_still w (entry ∷ entries) = noted_still (happens_outside w (Host_notes entry)) entries

pub devices_host-all : (m : Machine) (es : List HostEvent) → (happens_all m (map Host_does es)).outside.devices ≡ m.outside.devices
unfolding happens
devices_host-all m [] = refl
devices_host-all m (e ∷ es) =
    devices_host-all (happens m (Host_does e)) es
    ∙ (noted_still (host_does m (e ∷ [])).outside (answers m.host.state e) ∙ routed_still m.outside (outs_all m.host.state (e ∷ [])))

pub records_host-all : (m : Machine) (es : List HostEvent) → (happens_all m (map Host_does es)).records ≡ with_texts m.records (texts_of (records_all m.host.state es))
unfolding happens
records_host-all m [] = sym (texts_nil m.records)
records_host-all m (e ∷ es) =
    let h = m.host.state in
    records_host-all (happens m (Host_does e)) es
    ∙ (ap (λ (l : List Record). with_texts (with_texts m.records (texts_of l)) (texts_of (records_all (after h e) es))) (append-nil (records_at h e))
    ∙ (with_texts-append m.records (texts_of (records_at h e)) (texts_of (records_all (after h e) es))
    ∙ ap (λ (l : List (List ℕ)). with_texts m.records l) (sym (map-append record_text (records_at h e) (records_all (after h e) es)))))

-- ---- what a call of the host did

-- the machine with another host, other records, and what is outside it moved on
abbrev pub hosted : Machine → HostState → Option (List (List ℕ)) → OuterState → Machine
hosted m state records o = record {
  keys = m.keys;
  host = record { decoder = m.host.decoder; state = state };
  records = records;
  outside = outside o m.outside.devices;
}

module _ (es : List HostEvent) (m : Machine) (state : HostState) (puts : List HostOut) (records : Option (List (List ℕ))) (f g : ℕ) (before all : List Entry)
    (did : Did es m.host.state state [] puts (record { records = m.records; faults = f }) (record { records = records; faults = g })) where
  outs_are : puts ≡ outs_all m.host.state es
  outs_are = did.outs

  records_are : records ≡ with_texts m.records (texts_of (records_all m.host.state es))
  records_are = adds_is m.records records (texts_of (records_all m.host.state es)) did.records

  -- it was done, and what it put out was routed
  pub ran_host : (o : OuterState) → Silent es → Goes (routed puts) m.outside.outer o before all
      → Run (map Host_does es) (record { machine = m; entries = before; faults = f }) (record { machine = hosted m state records o; entries = all; faults = g })
  ran_host o silent goes =
      let went = goes m.outside.devices in
      record {
        may = may_host-all m es did.may;
        state = ap (λ (w : Outside). record { keys = m.keys; host = record { decoder = m.host.decoder; state = state }; records = records; outside = w }) went.state
            ∙ (ap (λ (l : List HostOut). record { keys = m.keys; host = record { decoder = m.host.decoder; state = state }; records = records; outside = happens_all_outside m.outside (routed l) }) outs_are
            ∙ (ap (λ (s : HostState). record { keys = m.keys; host = record { decoder = m.host.decoder; state = s }; records = records; outside = happens_all_outside m.outside (routed (outs_all m.host.state es)) }) did.state
            ∙ (ap (λ (r : Option (List (List ℕ))). record { keys = m.keys; host = record { decoder = m.host.decoder; state = after_all m.host.state es }; records = r; outside = happens_all_outside m.outside (routed (outs_all m.host.state es)) }) records_are
            ∙ sym (happens_host-all m es silent))));
        entries = went.entries
            ∙ (ap (λ (l : List HostOut). before ++ entries_all_outside m.outside (routed l)) outs_are
            ∙ ap (λ (l : List Entry). before ++ l) (sym (entries_host-all m es silent)));
        counted = counted_host es f g did.rose did.never_falls;
      }

-- ---- what was done where memory ran out

-- the host did events of which nothing was entered
pub stopped_by : (Prefix : Schedule) (es : List Event) (m new : Machine) (before all : List Entry) (f g : ℕ) → Prefix m [] → AllByRecursion IsOfHost es → MayAll m es → new.outside.devices ≡ (happens_all m es).outside.devices
    → new.records ≡ (happens_all m es).records → all ≡ before → f ≤ g
    → Stops Prefix (record { machine = m; entries = before; faults = f }) (record { machine = new; entries = all; faults = g })
stopped_by Prefix es m new before all f g none hosts may devices records same falls = record {
  whole = [];
  last = None;
  prefix = none;
  moved = none;
  kept = es;
  of_host = hosts;
  may = may;
  devices = devices;
  records = records;
  entered = same ∙ sym (append-nil before);
  counted = counted_none f g falls;
}

pub all_of_host : (es : List HostEvent) → AllByRecursion IsOfHost (map Host_does es)
all_of_host [] = tt
all_of_host (e ∷ es) = (tt, all_of_host es)

-- a call of the host was done in part, or what it put out was not routed
pub stopped_host : (Prefix : Schedule) (es : List HostEvent) (m new : Machine) (state : HostState) (put puts : List HostOut) (records : Option (List (List ℕ))) (f g : ℕ) (before all : List Entry) → Prefix m []
    → Did es m.host.state state put puts (record { records = m.records; faults = f }) (record { records = records; faults = g })
    → new.outside.devices ≡ m.outside.devices → new.records ≡ records → all ≡ before
    → Stops Prefix (record { machine = m; entries = before; faults = f }) (record { machine = new; entries = all; faults = g })
stopped_host Prefix es m new state put puts records f g before all none did devices kept same =
    stopped_by Prefix (map Host_does es) m new before all f g none (all_of_host es) (may_host-all m es did.may) (devices ∙ sym (devices_host-all m es))
    (kept ∙ (adds_is m.records records (texts_of (records_all m.host.state es)) did.records ∙ sym (records_host-all m es))) same did.never_falls
