-- What calls of the host are as events of a host alone.
use Rattle.std.proofs.Common.{◌≡◌, ℕ, ◌+◌, List, [], ◌∷◌, ◌++◌, refl, ap, sym, ◌∙◌, subst, append_assoc}
use Rattle.std.specs.Prelude.{Option, Result, Ok, Err, OnOk, OnErr}
use Rattle.std.proofs.lemmas.List.{map-append}
use Rattle.serial_frame.specs.Stream.{Rest, after_tick}
use Rattle.zw_text.specs.declared.entry.Entry.{Entry}
use Rattle.host_model.specs.State.{HostState, HostParts}
use Rattle.host_model.specs.Events.{HostEvent}
use Rattle.host_keep.specs.Keeping.{Shelf}
use Rattle.host_model.specs.Did.{Did, after_all, outs_all, records_all, texts_of}
use Rattle.host_model.specs.Pumping.{Pumps}
use Rattle.host_model.specs.Taking.{Fed, FedPrefix}
use Rattle.host_model.specs.Ticking.{tick_events}
use Rattle.host_model.specs.declared.out.HostOut.{HostOut}
use Rattle.host_model.proofs.EventLists.{did_both}
use Rattle.host_core.specs.Calls.{Are, scene, shelf_of}
use Rattle.host_core.specs.Calls as calls
use Rattle.world_model.specs.State.{with_texts}
use Rattle.world_model.proofs.Hosting.{adds_is}
use Rattle.run_replay.specs.Machine.{Event, Does_itself, Takes, Ticks, Scene, Run, Does, Stops, May, happens, entries, entries_of, entry_of, timed, hosted}
use Rattle.run_replay.specs.Lines.{IsPump, IsTaking, IsTick}
use Rattle.run_replay.proofs.EventLists.{ran_one, stopped_in, stopped_then}

-- a scene by its parts
abbrev pub at : HostParts → ℕ → Option (List (List ℕ)) → List Entry → ℕ → Scene
at host clock records before faults = record { lone = record { host = host; clock = clock; records = records }; entries = before; faults = faults }

-- ---- what is entered

-- one output more
pub told_more : (before some all : List Entry) (done : List HostOut) (one : HostOut) (entry : Entry) → some ≡ before ++ entries_of done → entry ≡ entry_of one → all ≡ some ++ entry ∷ []
    → all ≡ before ++ entries_of (done ++ one ∷ [])
told_more before some all done one entry so_far is more =
    more
    ∙ (ap (λ (l : List Entry). l ++ entry ∷ []) so_far
    ∙ (append_assoc before (entries_of done) (entry ∷ [])
    ∙ (ap (λ (e : Entry). before ++ (entries_of done ++ e ∷ [])) is ∙ ap (λ (l : List Entry). before ++ l) (sym (map-append entry_of done (one ∷ []))))))

-- ---- one event

module _ (es : List HostEvent) (host : HostParts) (state : HostState) (puts : List HostOut) (r r' : Option (List (List ℕ))) (f g clock : ℕ)
    (did : Did es host.state state [] puts (shelf_of r f) (shelf_of r' g)) where
  outs_are : puts ≡ outs_all host.state es
  outs_are = did.outs

  records_are : r' ≡ with_texts r (texts_of (records_all host.state es))
  records_are = adds_is r r' (texts_of (records_all host.state es)) did.records

  -- the host after them
  pub hosted_is : (decoder : Rest) (later : ℕ) → record { host = record { decoder = decoder; state = state }; clock = later; records = r' } ≡ hosted (record { host = host; clock = clock; records = r }) decoder later es
  hosted_is decoder later =
      ap (λ (s : HostState). record { host = record { decoder = decoder; state = s }; clock = later; records = r' }) did.state
      ∙ ap (λ (x : Option (List (List ℕ))). record { host = record { decoder = decoder; state = after_all host.state es }; clock = later; records = x }) records_are

  pub itself_ran : (before all : List Entry) → all ≡ before ++ entries_of puts
      → Run (Does_itself es ∷ []) (at host clock r before f) (at (record { decoder = host.decoder; state = state }) clock r' all g)
  unfolding happens entries May
  itself_ran before all entered =
      ran_one (Does_itself es) _ _ before all f g did.may (hosted_is host.decoder clock)
      (entered ∙ ap (λ (l : List HostOut). before ++ entries_of l) outs_are) did.rose did.never_falls

  pub tick_ran : (before all : List Entry) → all ≡ before ++ timed (clock + 1) puts
      → Run (Ticks es ∷ []) (at host clock r before f) (at (record { decoder = after_tick host.decoder; state = state }) (clock + 1) r' all g)
  unfolding happens entries May
  tick_ran before all entered =
      ran_one (Ticks es) _ _ before all f g did.may (hosted_is (after_tick host.decoder) (clock + 1))
      (entered ∙ ap (λ (l : List HostOut). before ++ timed (clock + 1) l) outs_are) did.rose did.never_falls

  -- a prefix of what it put out was entered
  pub itself_stops : (new : HostParts) (later : ℕ) (before all : List Entry) → ((rest : List Entry) × (all ++ rest ≡ before ++ entries_of puts))
      → Stops (at host clock r before f) (at new later r' all g)
  unfolding happens entries May
  itself_stops new later before all prefix =
      stopped_in (Does_itself es) _ _ before all f g did.may records_are
      (prefix.0, prefix.1 ∙ ap (λ (l : List HostOut). before ++ entries_of l) outs_are) did.rose did.never_falls

  pub tick_stops : (new : HostParts) (later : ℕ) (before all : List Entry) → ((rest : List Entry) × (all ++ rest ≡ before ++ timed (clock + 1) puts))
      → Stops (at host clock r before f) (at new later r' all g)
  unfolding happens entries May
  tick_stops new later before all prefix =
      stopped_in (Ticks es) _ _ before all f g did.may records_are
      (prefix.0, prefix.1 ∙ ap (λ (l : List HostOut). before ++ timed (clock + 1) l) outs_are) did.rose did.never_falls

-- nothing of it was entered
pub none_entered : (before all more : List Entry) → all ≡ before → (rest : List Entry) × (all ++ rest ≡ before ++ more)
none_entered before all more same = (more, ap (λ (l : List Entry). l ++ more) same)

-- ---- calls of the host

-- from an empty list
from_none : (es : List HostEvent) (h h' : HostState) (put puts : List HostOut) (s t : Shelf) → put ≡ [] → Did es h h' put puts s t → Did es h h' [] puts s t
from_none es h h' put puts s t none did = subst (λ (l : List HostOut). Did es h h' l puts s t) none did

-- what was put out before is left out
afresh : (es : List HostEvent) (h h' : HostState) (put puts : List HostOut) (s t : Shelf) → Did es h h' put puts s t → Did es h h' [] (outs_all h es) s t
afresh es h h' put puts s t did = record { may = did.may; state = did.state; outs = refl; records = did.records; rose = did.rose; never_falls = did.never_falls }

-- the host pumped
pub pumped : {T E : Type 0} (answer : Result T E) (host host' : HostParts) (clock : ℕ) (r r' : Option (List (List ℕ))) (put puts : List HostOut) (before all : List Entry) (f g : ℕ)
    → put ≡ [] → calls.Does (Pumps host.state) (scene host.state put (shelf_of r f)) (scene host'.state puts (shelf_of r' g)) → host'.decoder ≡ host.decoder
    → OnOk answer (all ≡ before ++ entries_of puts)
    → OnOk answer (Does IsPump (at host clock r before f) (at host' clock r' all g))
pumped (Err fault) host host' clock r r' put puts before all f g none does decoder entered = tt
pumped (Ok value) host host' clock r r' put puts before all f g none does decoder entered = (
  Does_itself does.events ∷ [],
  (does.events, does.are, refl),
  subst (λ (d : Rest). Run (Does_itself does.events ∷ []) (at host clock r before f) (at (record { decoder = d; state = host'.state }) clock r' all g)) (sym decoder)
      (itself_ran does.events host host'.state puts r r' f g clock (from_none does.events host.state host'.state put puts (shelf_of r f) (shelf_of r' g) none does.did) before all entered),
)

pub pump_stops : {T E : Type 0} (answer : Result T E) (host host' : HostParts) (clock : ℕ) (r r' : Option (List (List ℕ))) (put puts : List HostOut) (before all : List Entry) (f g : ℕ)
    → put ≡ [] → calls.Does (Pumps host.state) (scene host.state put (shelf_of r f)) (scene host'.state puts (shelf_of r' g))
    → OnErr answer (all ≡ before)
    → OnErr answer (Stops (at host clock r before f) (at host' clock r' all g))
pump_stops (Ok value) host host' clock r r' put puts before all f g none does prefix = tt
pump_stops (Err fault) host host' clock r r' put puts before all f g none does prefix =
    itself_stops does.events host host'.state puts r r' f g clock (from_none does.events host.state host'.state put puts (shelf_of r f) (shelf_of r' g) none does.did) host' clock before all (none_entered before all (entries_of puts) prefix)

-- a call of the host was done in part
pub call_stops : {T E : Type 0} (answer : Result T E) (host host' : HostParts) (clock : ℕ) (r r' : Option (List (List ℕ))) (put puts : List HostOut) (before : List Entry) (f g : ℕ)
    → put ≡ [] → calls.Stops (scene host.state put (shelf_of r f)) (scene host'.state puts (shelf_of r' g))
    → OnErr answer (Stops (at host clock r before f) (at host' clock r' before g))
call_stops (Ok value) host host' clock r r' put puts before f g none stops = tt
call_stops (Err fault) host host' clock r r' put puts before f g none stops =
    itself_stops stops.events host host'.state puts r r' f g clock (from_none stops.events host.state host'.state put puts (shelf_of r f) (shelf_of r' g) none stops.did) host' clock before before
    (none_entered before before (entries_of puts) refl)

-- the host took bytes
module _ (bytes : List ℕ) (host host' : HostParts) (clock : ℕ) (r r' : Option (List (List ℕ))) (puts : List HostOut) (f g : ℕ) (fed : Fed host bytes host' [] puts (shelf_of r f) (shelf_of r' g)) where
  abbrev taken : Event
  taken = Takes bytes host'.decoder fed.items fed.events

  may_take : May (record { host = host; clock = clock; records = r }) taken
  unfolding May
  may_take = record { feeds = fed.feeds; stream = fed.stream; judged = fed.judged; may = fed.did.may }

  pub take_ran : (before all : List Entry) → all ≡ before ++ entries_of puts → Run (taken ∷ []) (at host clock r before f) (at host' clock r' all g)
  unfolding happens entries
  take_ran before all entered =
      ran_one taken _ _ before all f g may_take (hosted_is fed.events host host'.state puts r r' f g clock fed.did host'.decoder clock)
      (entered ∙ ap (λ (l : List HostOut). before ++ entries_of l) fed.did.outs) fed.did.rose fed.did.never_falls

  pub take_stops : (new : HostParts) (later : ℕ) (before all : List Entry) → ((rest : List Entry) × (all ++ rest ≡ before ++ entries_of puts))
      → Stops (at host clock r before f) (at new later r' all g)
  unfolding happens entries
  take_stops new later before all prefix =
      stopped_in taken _ _ before all f g may_take (adds_is r r' (texts_of (records_all host.state fed.events)) fed.did.records)
      (prefix.0, prefix.1 ∙ ap (λ (l : List HostOut). before ++ entries_of l) fed.did.outs) fed.did.rose fed.did.never_falls

fed_from_none : (bytes : List ℕ) (host host' : HostParts) (put puts : List HostOut) (s t : Shelf) → put ≡ [] → Fed host bytes host' put puts s t → Fed host bytes host' [] puts s t
fed_from_none bytes host host' put puts s t none fed = subst (λ (l : List HostOut). Fed host bytes host' l puts s t) none fed

pub bytes_taken : {T E : Type 0} (answer : Result T E) (bytes : List ℕ) (host host' : HostParts) (clock : ℕ) (r r' : Option (List (List ℕ))) (put puts : List HostOut) (before all : List Entry) (f g : ℕ)
    → put ≡ [] → Fed host bytes host' put puts (shelf_of r f) (shelf_of r' g) → OnOk answer (all ≡ before ++ entries_of puts)
    → OnOk answer (Does (IsTaking bytes) (at host clock r before f) (at host' clock r' all g))
bytes_taken (Err fault) bytes host host' clock r r' put puts before all f g none fed entered = tt
bytes_taken (Ok value) bytes host host' clock r r' put puts before all f g none fed entered =
    let it : Fed host bytes host' [] puts (shelf_of r f) (shelf_of r' g) = fed_from_none bytes host host' put puts (shelf_of r f) (shelf_of r' g) none fed in (
      Takes bytes host'.decoder it.items it.events ∷ [],
      (host'.decoder, it.items, it.events, refl),
      take_ran bytes host host' clock r r' puts f g it before all entered,
    )

pub bytes_stop : {T E : Type 0} (answer : Result T E) (bytes : List ℕ) (host host' : HostParts) (clock : ℕ) (r r' : Option (List (List ℕ))) (put puts : List HostOut) (before all : List Entry) (f g : ℕ)
    → put ≡ [] → Fed host bytes host' put puts (shelf_of r f) (shelf_of r' g) → OnErr answer (all ≡ before)
    → OnErr answer (Stops (at host clock r before f) (at host' clock r' all g))
bytes_stop (Ok value) bytes host host' clock r r' put puts before all f g none fed prefix = tt
bytes_stop (Err fault) bytes host host' clock r r' put puts before all f g none fed prefix =
    take_stops bytes host host' clock r r' puts f g (fed_from_none bytes host host' put puts (shelf_of r f) (shelf_of r' g) none fed) host' clock before all (none_entered before all (entries_of puts) prefix)

-- a prefix of the bytes was taken, and some events of the next item
pub bytes_cut : {T E : Type 0} (answer : Result T E) (bytes : List ℕ) (host host' : HostParts) (clock : ℕ) (r r' : Option (List (List ℕ))) (put puts : List HostOut) (before : List Entry) (f g : ℕ)
    → put ≡ [] → FedPrefix host bytes host' put puts (shelf_of r f) (shelf_of r' g)
    → OnErr answer (Stops (at host clock r before f) (at host' clock r' before g))
bytes_cut (Ok value) bytes host host' clock r r' put puts before f g none part = tt
bytes_cut (Err fault) bytes host host' clock r r' put puts before f g none part =
    let it : Fed host part.prefix part.mid [] part.some (shelf_of r f) part.kept = fed_from_none part.prefix host part.mid put part.some (shelf_of r f) part.kept none part.fed in
    let some : List Entry = entries_of part.some in
    let more : List Entry = entries_of (outs_all part.mid.state part.begun) in
    stopped_then (IsTaking part.prefix) (at host clock r before f) (at part.mid clock part.kept.records (before ++ some) part.kept.faults) (at host' clock r' before g)
    (Takes part.prefix part.mid.decoder it.items it.events ∷ [], (part.mid.decoder, it.items, it.events, refl), take_ran part.prefix host part.mid clock r part.kept.records part.some f part.kept.faults it before (before ++ some) refl)
    (itself_stops part.begun part.mid host'.state (outs_all part.mid.state part.begun) part.kept.records r' part.kept.faults g clock (afresh part.begun part.mid.state host'.state part.some puts part.kept (shelf_of r' g) part.did)
    host' clock (before ++ some) before (some ++ more, sym (append_assoc before some more)))

-- the host ticked, and then it pumped
pub ticked : (host mid host' : HostParts) (clock : ℕ) (r r1 r' : Option (List (List ℕ))) (put some puts : List HostOut) (f f1 g : ℕ)
    → put ≡ [] → calls.Does (Are (tick_events host.state)) (scene host.state put (shelf_of r f)) (scene mid.state some (shelf_of r1 f1)) → calls.Does (Pumps mid.state) (scene mid.state some (shelf_of r1 f1)) (scene host'.state puts (shelf_of r' g))
    → (pump : List HostEvent) × Pumps (after_all host.state (tick_events host.state)) pump × Did (tick_events host.state ++ pump) host.state host'.state [] puts (shelf_of r f) (shelf_of r' g)
ticked host mid host' clock r r1 r' put some puts f f1 g none ticks pumps =
    let es : List HostEvent = tick_events host.state in
    let did : Did es host.state mid.state [] some (shelf_of r f) (shelf_of r1 f1) =
    from_none es host.state mid.state put some (shelf_of r f) (shelf_of r1 f1) none (subst (λ (l : List HostEvent). Did l host.state mid.state put some (shelf_of r f) (shelf_of r1 f1)) ticks.are ticks.did) in (
      pumps.events,
      subst (λ (h : HostState). Pumps h pumps.events) did.state pumps.are,
      did_both es pumps.events host.state mid.state host'.state [] some puts (shelf_of r f) (shelf_of r1 f1) (shelf_of r' g) did pumps.did,
    )

pub tick_done : {T E : Type 0} (answer : Result T E) (host mid host' : HostParts) (clock later : ℕ) (r r1 r' : Option (List (List ℕ))) (put some puts : List HostOut) (before all : List Entry) (f f1 g : ℕ)
    → put ≡ [] → later ≡ clock + 1
    → calls.Does (Are (tick_events host.state)) (scene host.state put (shelf_of r f)) (scene mid.state some (shelf_of r1 f1)) → mid.decoder ≡ after_tick host.decoder
    → calls.Does (Pumps mid.state) (scene mid.state some (shelf_of r1 f1)) (scene host'.state puts (shelf_of r' g)) → host'.decoder ≡ mid.decoder
    → OnOk answer (all ≡ before ++ timed later puts)
    → OnOk answer (Does IsTick (at host clock r before f) (at host' later r' all g))
tick_done (Err fault) host mid host' clock later r r1 r' put some puts before all f f1 g none is ticks decoder pumps same entered = tt
tick_done (Ok value) host mid host' clock later r r1 r' put some puts before all f f1 g none is ticks decoder pumps same entered =
    let (pump, pumps, did) = ticked host mid host' clock r r1 r' put some puts f f1 g none ticks pumps in
    let es : List HostEvent = tick_events host.state ++ pump in
    let ran : Run (Ticks es ∷ []) (at host clock r before f) (at (record { decoder = after_tick host.decoder; state = host'.state }) (clock + 1) r' all g) =
    tick_ran es host host'.state puts r r' f g clock did before all (entered ∙ ap (λ (t : ℕ). before ++ timed t puts) is) in (
      Ticks es ∷ [],
      (pump, pumps, refl),
      subst (λ (t : ℕ). Run (Ticks es ∷ []) (at host clock r before f) (at host' t r' all g)) (sym is)
          (subst (λ (d : Rest). Run (Ticks es ∷ []) (at host clock r before f) (at (record { decoder = d; state = host'.state }) (clock + 1) r' all g)) (sym (same ∙ decoder)) ran),
    )

pub tick_cut : {T E : Type 0} (answer : Result T E) (host mid host' : HostParts) (clock later : ℕ) (r r1 r' : Option (List (List ℕ))) (put some puts : List HostOut) (before all : List Entry) (f f1 g : ℕ)
    → put ≡ [] → later ≡ clock + 1
    → calls.Does (Are (tick_events host.state)) (scene host.state put (shelf_of r f)) (scene mid.state some (shelf_of r1 f1))
    → calls.Does (Pumps mid.state) (scene mid.state some (shelf_of r1 f1)) (scene host'.state puts (shelf_of r' g))
    → OnErr answer (all ≡ before)
    → OnErr answer (Stops (at host clock r before f) (at host' later r' all g))
tick_cut (Ok value) host mid host' clock later r r1 r' put some puts before all f f1 g none is ticks pumps prefix = tt
tick_cut (Err fault) host mid host' clock later r r1 r' put some puts before all f f1 g none is ticks pumps prefix =
    let (pump, pumps, did) = ticked host mid host' clock r r1 r' put some puts f f1 g none ticks pumps in
    tick_stops (tick_events host.state ++ pump) host host'.state puts r r' f g clock did host' later before all (none_entered before all (timed (clock + 1) puts) prefix)

-- the host ticked, and pumped in part
pub tick_pump_stops : {T E : Type 0} (answer : Result T E) (host mid host' : HostParts) (clock : ℕ) (r r1 r' : Option (List (List ℕ))) (put some puts : List HostOut) (before : List Entry) (f f1 g : ℕ)
    → put ≡ [] → calls.Does (Are (tick_events host.state)) (scene host.state put (shelf_of r f)) (scene mid.state some (shelf_of r1 f1))
    → calls.Stops (scene mid.state some (shelf_of r1 f1)) (scene host'.state puts (shelf_of r' g))
    → OnErr answer (Stops (at host clock r before f) (at host' clock r' before g))
tick_pump_stops (Ok value) host mid host' clock r r1 r' put some puts before f f1 g none ticks stops = tt
tick_pump_stops (Err fault) host mid host' clock r r1 r' put some puts before f f1 g none ticks stops =
    let first : Did ticks.events host.state mid.state [] some (shelf_of r f) (shelf_of r1 f1) = from_none ticks.events host.state mid.state put some (shelf_of r f) (shelf_of r1 f1) none ticks.did in
    itself_stops (ticks.events ++ stops.events) host host'.state puts r r' f g clock
    (did_both ticks.events stops.events host.state mid.state host'.state [] some puts (shelf_of r f) (shelf_of r1 f1) (shelf_of r' g) first stops.did)
    host' clock before before (none_entered before before (entries_of puts) refl)
