-- What a line asks of the host alone: it is done, or refused.
use Rattle.std.proofs.Common.{◌≡◌, ℕ, ◌+◌, ◌≤◌, Bool, false, List, [], ◌∷◌, ◌++◌, length, refl, ap, sym, ◌∙◌, subst, inl, inr, arith}
use Rattle.std.specs.Prelude.{Option, Some, None, Result, Ok, Err, OnOk, OnErr, ◌&&◌}
use Rattle.std.specs.List.{flat_map}
use Rattle.std.proofs.lemmas.List.{append-nil}
use Rattle.serial_frame.specs.Stream.{Rest}
use Rattle.zw_base.specs.declared.order.Order.{Order}
use Rattle.zw_text.specs.declared.line.Line.{Line}
use Rattle.zw_text.specs.declared.line.Line.TheVariants.{Command, Join, Cancel, Store}
use Rattle.zw_text.specs.declared.entry.Entry.{Entry}
use Rattle.zw_text.specs.declared.entry.Entry.TheVariants.{Refused as refused_entry, Accepted, Out, Json}
use Rattle.zw_text.specs.declared.entry.Ended.TheVariants.{Cancelled}
use Rattle.zw_text.specs.declared.entry.Refusal.{Refusal}
use Rattle.value_store.specs.Values.{held_of}
use Rattle.value_store.specs.ValueText.{values_text}
use Rattle.host_orders.specs.declared.refused.Refused.{Refused}
use Rattle.host_orders.specs.Refusals.{Refuses as RefusesBy}
use Rattle.host_orders.specs.Errands.{RefusesOrNone}
use Rattle.host_keep.specs.Keeping.{OptAdds}
use Rattle.host_model.specs.State.{HostParts}
use Rattle.host_model.specs.Events.{HostEvent, Accepts, Cancels}
use Rattle.host_model.specs.Events.{Joins as joins_host}
use Rattle.host_model.specs.Did.{Did, RoseIf, RoseBy, is_unkept, one_if, unkept_in, records_all, texts_of}
use Rattle.host_model.proofs.EventLists.{rose_one, rose_none, unkept_alone}
use Rattle.host_model.specs.Asking.{carriage_for}
use Rattle.host_model.specs.declared.out.HostOut.{HostOut}
use Rattle.host_model.specs.Outs.{answers}
use Rattle.host_core.specs.Calls.{DoesAlone, Are, scene}
use Rattle.host_core.specs.Calls as calls
use Rattle.world_model.specs.Refusals.{shown, IsRefused, IsRefusedBy}
use Rattle.world_model.specs.Events.{Host_does, Refuses as refuses_there, Shows_values as shows_there}
use Rattle.world_model.specs.Events.{Event as MachineEvent}
use Rattle.host_model.specs.Refusals.{is_keeper_fault}
use Rattle.world_model.specs.Lines.{IsDone}
use Rattle.world_model.specs.Lines.{Asks as AsksThere}
use Rattle.world_model.proofs.Hosting.{adds_is}
use Rattle.run_replay.specs.Machine.{Lone, Event, Does_asked, Refuses, Shows_values, Run, Does, Stops, May, happens, entries, entries_of, alone, asks_keeper}
use Rattle.run_replay.specs.Lines.{IsEffect, by_host}
use Rattle.run_replay.specs.Asking.{Answers, Enters}
use Rattle.run_replay.proofs.EventLists.{ran_one, stopped_in, stopped_still}
use Rattle.host_core.specs.Calls.{shelf_of}
use Rattle.run_replay.proofs.Hosting.{at, hosted_is, none_entered}
use Rattle.host_core.proofs.Refusing.{IsNothing, by_rule}

-- no record was added
none_more : (r r' : Option (List (List ℕ))) → OptAdds r r' [] → r' ≡ r
none_more None r' adds = adds
none_more (Some kept) r' adds = adds ∙ ap (λ (l : List (List ℕ)). Some l) (append-nil kept)

-- ---- one event

asked_rose : (e : HostEvent) (f g : ℕ) → RoseBy (unkept_in (e ∷ [])) f g → RoseBy (one_if (is_unkept e)) f g
asked_rose e f g rose = subst (λ (n : ℕ). RoseBy n f g) (sym (unkept_alone e)) rose

-- the host does what was asked, and answers
asked_ran : (e : HostEvent) (host host' : HostParts) (clock : ℕ) (r r' : Option (List (List ℕ))) (before all : List Entry) (f g : ℕ)
    → Did (e ∷ []) host.state host'.state [] [] (shelf_of r f) (shelf_of r' g) → host'.decoder ≡ host.decoder → all ≡ before ++ answers host.state e
    → Run (Does_asked e ∷ []) (at host clock r before f) (at host' clock r' all g)
unfolding happens entries May
asked_ran e host host' clock r r' before all f g did decoder entered =
    ran_one (Does_asked e) _ _ before all f g did.may
    (ap (λ (d : Rest). record { host = record { decoder = d; state = host'.state }; clock = clock; records = r' }) decoder ∙ hosted_is (e ∷ []) host host'.state [] r r' f g clock did host.decoder clock)
    (entered ∙ ap (λ (l : List HostOut). before ++ (entries_of l ++ answers host.state e)) did.outs) (asked_rose e f g did.rose) did.never_falls

-- it did it, and nothing of that was entered
pub event_stops : {T E : Type 0} (answer : Result T E) (e : HostEvent) (host host' : HostParts) (clock : ℕ) (r r' : Option (List (List ℕ))) (before all : List Entry) (f g : ℕ)
    → calls.Does (Are (e ∷ [])) (scene host.state [] (shelf_of r f)) (scene host'.state [] (shelf_of r' g)) → OnErr answer (all ≡ before)
    → OnErr answer (Stops (at host clock r before f) (at host' clock r' all g))
unfolding happens May
event_stops (Ok value) e host host' clock r r' before all f g does same = tt
event_stops (Err fault) e host host' clock r r' before all f g does same =
    let did : Did (e ∷ []) host.state host'.state [] [] (shelf_of r f) (shelf_of r' g) =
    subst (λ (l : List HostEvent). Did l host.state host'.state [] [] (shelf_of r f) (shelf_of r' g)) does.are does.did in
    stopped_in (Does_asked e) _ _ before all f g did.may (adds_is r r' (texts_of (records_all host.state (e ∷ []))) did.records)
    (none_entered before all (entries _ (Does_asked e)) same) (asked_rose e f g did.rose) did.never_falls

-- a line is refused
refuses_ran : (line : Line) (entered : Refusal) (host host' : HostParts) (clock : ℕ) (r r' : Option (List (List ℕ))) (before all : List Entry) (f g : ℕ)
    → host' ≡ host → r' ≡ r → IsRefused (alone (record { host = host; clock = clock; records = r })) line entered → all ≡ before ++ refused_entry entered ∷ []
    → RoseIf (asks_keeper line && is_keeper_fault entered) f g → f ≤ g
    → Run (Refuses line entered ∷ []) (at host clock r before f) (at host' clock r' all g)
unfolding happens entries May
refuses_ran line entered host host' clock r r' before all f g same kept may is rose falls =
    ran_one (Refuses line entered) _ _ before all f g may
    (ap (λ (h : HostParts). record { host = h; clock = clock; records = r' }) same ∙ ap (λ (x : Option (List (List ℕ))). record { host = host; clock = clock; records = x }) kept) is
    (rose_one (asks_keeper line && is_keeper_fault entered) f g falls rose) falls

-- ---- what asks no keeper

quiet_rose : (b c : Bool) (f : ℕ) → b ≡ false → RoseIf (b && c) f f
quiet_rose b c f is = subst (λ (x : Bool). RoseIf (x && c) f f) (sym is) tt

-- what the host does of the line's own effect
abbrev AsksBy : Option Refused → Line → HostEvent → List Event → Type 0
AsksBy rule line e events = (there : List MachineEvent) × AsksThere rule line e there × (events ≡ flat_map by_host there)

asks : {A : Type 0} (answer : Result A Refused) (rule : Option Refused) (line : Line) (e : HostEvent) (host host' : HostParts) (clock : ℕ) (r : Option (List (List ℕ))) (before all : List Entry) (f : ℕ)
    → asks_keeper line ≡ false → answers host.state e ≡ []
    → ((entered : Refusal) → IsRefusedBy rule entered → IsRefused (alone (record { host = host; clock = clock; records = r })) line entered)
    → RefusesOrNone answer rule → OnOk answer (DoesAlone (Are (e ∷ [])) host.state [] host'.state []) → host'.decoder ≡ host.decoder → OnErr answer (host' ≡ host)
    → Answers answer before all
    → Does (λ (m : Lone) (es : List Event). AsksBy rule line e es) (at host clock r before f) (at host' clock r all f)
asks (Ok value) rule line e host host' clock r before all f quiet silent refused judged does decoder same done =
    let call = does (shelf_of r f) in (
      Does_asked e ∷ [],
      (Host_does e ∷ [], subst (λ (x : Option Refused). AsksThere x line e (Host_does e ∷ [])) (sym judged) refl, refl),
      asked_ran e host host' clock r r before all f f (subst (λ (l : List HostEvent). Did l host.state host'.state [] [] (shelf_of r f) (shelf_of r f)) call.are call.did) decoder
          (done ∙ (sym (append-nil before) ∙ ap (λ (l : List Entry). before ++ l) (sym silent))),
    )
asks (Err why) rule line e host host' clock r before all f quiet silent refused (inl judged) does decoder same (entered, seen, is) = (
  Refuses line entered ∷ [],
  (refuses_there line entered ∷ [], subst (λ (x : Option Refused). AsksThere x line e (refuses_there line entered ∷ [])) (sym judged) (entered, seen, refl), refl),
  refuses_ran line entered host host' clock r r before all f f same refl (refused entered (by_rule rule why entered judged seen)) is
      (quiet_rose (asks_keeper line) (is_keeper_fault entered) f quiet) (omega arith),
)
asks (Err why) rule line e host host' clock r before all f quiet silent refused (inr judged) does decoder same (entered, seen, is) =
    absurd (subst IsNothing (sym (ap shown judged.0) ∙ seen) tt)

-- a call that refuses exactly as said
pub or_none : {A : Type 0} (answer : Result A Refused) (rule : Option Refused) → RefusesBy answer rule → RefusesOrNone answer rule
or_none (Ok value) rule judged = judged
or_none (Err why) rule judged = inl judged

pub asked : {A T E : Type 0} (answer : Result T E) (said : Result A Refused) (rule : Option Refused) (line : Line) (e : HostEvent) (host host' : HostParts) (clock : ℕ) (before all : List Entry)
    → asks_keeper line ≡ false → answers host.state e ≡ []
    → ((r : Option (List (List ℕ))) (entered : Refusal) → IsRefusedBy rule entered → IsRefused (alone (record { host = host; clock = clock; records = r })) line entered)
    → RefusesOrNone said rule → OnOk said (DoesAlone (Are (e ∷ [])) host.state [] host'.state []) → host'.decoder ≡ host.decoder → OnErr said (host' ≡ host)
    → OnOk answer (Answers said before all)
    → OnOk answer ((r : Option (List (List ℕ))) (f : ℕ) → Does (λ (m : Lone) (es : List Event). AsksBy rule line e es) (at host clock r before f) (at host' clock r all f))
asked (Err fault) said rule line e host host' clock before all quiet silent refused judged does decoder same done = tt
asked (Ok value) said rule line e host host' clock before all quiet silent refused judged does decoder same done = λ r f.
    asks said rule line e host host' clock r before all f quiet silent (refused r) judged does decoder same done

-- ---- what asks the keeper

-- the line is done by this, or refused
abbrev DoneBy : Line → List MachineEvent → List Event → Type 0
DoneBy line these events = (there : List MachineEvent) × IsDone line these there × (events ≡ flat_map by_host there)

pub refusal_done : {T E : Type 0} (answer : Result T E) (line : Line) (these : List MachineEvent) (seen : Option Refusal) (host host' : HostParts) (clock : ℕ) (r r' : Option (List (List ℕ))) (before all : List Entry) (f g : ℕ)
    → ((entered : Refusal) → seen ≡ Some entered → IsRefused (alone (record { host = host; clock = clock; records = r })) line entered)
    → ((entered : Refusal) → seen ≡ Some entered → RoseIf (asks_keeper line && is_keeper_fault entered) f g)
    → host' ≡ host → OptAdds r r' [] → f ≤ g → OnOk answer (Enters seen before all)
    → OnOk answer (Does (λ (m : Lone) (es : List Event). DoneBy line these es) (at host clock r before f) (at host' clock r' all g))
refusal_done (Err fault) line these seen host host' clock r r' before all f g may rose same kept falls done = tt
refusal_done (Ok value) line these seen host host' clock r r' before all f g may rose same kept falls (entered, is, entry) = (
  Refuses line entered ∷ [],
  (refuses_there line entered ∷ [], inr (entered, refl), refl),
  refuses_ran line entered host host' clock r r' before all f g same (none_more r r' kept) (may entered is) entry (rose entered is) falls,
)

pub refusal_stops : {T E : Type 0} (answer : Result T E) (host host' : HostParts) (clock : ℕ) (r r' : Option (List (List ℕ))) (before all : List Entry) (f g : ℕ)
    → OptAdds r r' [] → f ≤ g → OnErr answer (all ≡ before) → OnErr answer (Stops (at host clock r before f) (at host' clock r' all g))
refusal_stops (Ok value) host host' clock r r' before all f g kept falls same = tt
refusal_stops (Err fault) host host' clock r r' before all f g kept falls same = stopped_still _ _ before all f g (none_more r r' kept) same falls

pub accepted : {T E : Type 0} (answer : Result T E) (order : Order) (number : ℕ) (host host' : HostParts) (clock : ℕ) (r r' : Option (List (List ℕ))) (before all : List Entry) (f g : ℕ)
    → calls.Does (Are (Accepts order (carriage_for host.state order) ∷ [])) (scene host.state [] (shelf_of r f)) (scene host'.state [] (shelf_of r' g)) → host'.decoder ≡ host.decoder
    → number ≡ length host.state.commands + 1 → OnOk answer (all ≡ before ++ Accepted number order.node ∷ [])
    → OnOk answer (Does (IsEffect (Command order)) (at host clock r before f) (at host' clock r' all g))
accepted (Err fault) order number host host' clock r r' before all f g does decoder is entered = tt
accepted (Ok value) order number host host' clock r r' before all f g does decoder is entered =
    let e : HostEvent = Accepts order (carriage_for host.state order) in (
      Does_asked e ∷ [],
      (Host_does e ∷ [], inl refl, refl),
      asked_ran e host host' clock r r' before all f g (subst (λ (l : List HostEvent). Did l host.state host'.state [] [] (shelf_of r f) (shelf_of r' g)) does.are does.did) decoder
          (entered ∙ ap (λ (n : ℕ). before ++ Accepted n order.node ∷ []) is),
    )

pub cancelled : {T E : Type 0} (answer : Result T E) (command : ℕ) (host host' : HostParts) (clock : ℕ) (r r' : Option (List (List ℕ))) (before all : List Entry) (f g : ℕ)
    → calls.Does (Are (Cancels command ∷ [])) (scene host.state [] (shelf_of r f)) (scene host'.state [] (shelf_of r' g)) → host'.decoder ≡ host.decoder
    → OnOk answer (all ≡ before ++ Out command Cancelled ∷ [])
    → OnOk answer (Does (IsEffect (Cancel command)) (at host clock r before f) (at host' clock r' all g))
cancelled (Err fault) command host host' clock r r' before all f g does decoder entered = tt
cancelled (Ok value) command host host' clock r r' before all f g does decoder entered = (
  Does_asked (Cancels command) ∷ [],
  (Host_does (Cancels command) ∷ [], inl refl, refl),
  asked_ran (Cancels command) host host' clock r r' before all f g (subst (λ (l : List HostEvent). Did l host.state host'.state [] [] (shelf_of r f) (shelf_of r' g)) does.are does.did) decoder entered,
)

pub joined : (node : ℕ) (host host' : HostParts) (clock : ℕ) (r r' : Option (List (List ℕ))) (before : List Entry) (f g : ℕ)
    → calls.Does (Are (joins_host node ∷ [])) (scene host.state [] (shelf_of r f)) (scene host'.state [] (shelf_of r' g)) → host'.decoder ≡ host.decoder
    → Does (IsEffect (Join node)) (at host clock r before f) (at host' clock r' before g)
joined node host host' clock r r' before f g does decoder = (
  Does_asked (joins_host node) ∷ [],
  (_, inl refl, refl),
  asked_ran (joins_host node) host host' clock r r' before before f g (subst (λ (l : List HostEvent). Did l host.state host'.state [] [] (shelf_of r f) (shelf_of r' g)) does.are does.did) decoder (sym (append-nil before)),
)

-- ---- the stored values of a node are shown

shows_ran : (node : ℕ) (host : HostParts) (clock : ℕ) (r : Option (List (List ℕ))) (before all : List Entry) (f : ℕ) → all ≡ before ++ Json (values_text node (held_of host.state.store node)) ∷ []
    → Run (Shows_values node ∷ []) (at host clock r before f) (at host clock r all f)
unfolding happens entries May
shows_ran node host clock r before all f entered = ran_one (Shows_values node) _ _ before all f f tt refl entered (rose_none f f (omega arith)) (omega arith)

pub shows_values : {T E : Type 0} (answer : Result T E) (node : ℕ) (text : List ℕ) (host : HostParts) (clock : ℕ) (before all : List Entry)
    → text ≡ values_text node (held_of host.state.store node) → OnOk answer (all ≡ before ++ Json text ∷ [])
    → OnOk answer ((r : Option (List (List ℕ))) (f : ℕ) → Does (IsEffect (Store node)) (at host clock r before f) (at host clock r all f))
shows_values (Err fault) node text host clock before all is entered = tt
shows_values (Ok value) node text host clock before all is entered = λ r f. (
  Shows_values node ∷ [],
  (shows_there node ∷ [], refl, refl),
  shows_ran node host clock r before all f (entered ∙ ap (λ (t : List ℕ). before ++ Json t ∷ []) is),
)
