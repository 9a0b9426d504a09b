-- What a line asks of the host: it is done, or refused.
use Rattle.std.proofs.Common.{◌≡◌, ℕ, ◌+◌, ◌≤◌, Bool, true, false, List, [], ◌∷◌, ◌++◌, length, refl, ap, sym, ◌∙◌, subst, inl, inr, arith}
use Rattle.std.specs.Prelude.{Option, Some, None, Result, Ok, Err, OnOk, OnErr, nat_lt, nat_le, not, is_some, if◌then◌else◌}
use Rattle.std.proofs.lemmas.List.{append-nil}
use Rattle.zw_base.specs.Faults.{Rose}
use Rattle.serial_frame.specs.Stream.{Rest}
use Rattle.s0_crypto.specs.declared.key_pair.Keys.{Keys}
use Rattle.device_sim.specs.State.{State}
use Rattle.zw_base.specs.declared.order.Word.{Word}
use Rattle.zw_base.specs.declared.order.Order.{Order}
use Rattle.zw_text.specs.declared.line.Line.{Line}
use Rattle.zw_text.specs.declared.line.Line.TheVariants.{Command, Join, Cancel, Store}
use Rattle.zw_text.specs.declared.entry.Entry.{Entry}
use Rattle.zw_text.specs.declared.entry.Entry.TheVariants.{Refused as refused_entry, Accepted, Out, Json}
use Rattle.zw_text.specs.declared.entry.Ended.TheVariants.{Cancelled}
use Rattle.value_store.specs.Values.{held_of}
use Rattle.value_store.specs.ValueText.{values_text}
use Rattle.zw_text.specs.declared.entry.Refusal.{Refusal}
use Rattle.host_orders.specs.declared.refused.Refused.{Refused}
use Rattle.host_orders.specs.declared.refused.Refused.TheVariants.{NotJoined, NotInterviewed, Unsupported, BadValue, Secured, QueueFull, KeeperFault}
use Rattle.host_orders.specs.Classes.{lists, class_of}
use Rattle.host_orders.specs.Refusals.{Known, Refuses, classes_of, first_some, unless, unsupported, is_bad_word}
use Rattle.host_orders.specs.Errands.{RefusesOrNone, send_refusal, sendable_refusal, get_refusal, gettable_refusal, gettable_of, gettable_class, secured, queue_full, sendable_of}
use Rattle.host_orders.specs.Messages.{channel_class}
use Rattle.host_keep.specs.Keeping.{OptAdds}
use Rattle.host_model.specs.State.{HostState, HostParts}
use Rattle.host_model.specs.Events.{HostEvent, Accepts, Cancels}
use Rattle.host_model.specs.Events.{Joins as joins_host}
use Rattle.host_model.specs.Did.{Did, RoseIf, after_all, outs_all, records_all, texts_of}
use Rattle.host_model.specs.Asking.{places_refusal, carriage_for}
use Rattle.host_model.specs.declared.out.HostOut.{HostOut}
use Rattle.host_model.specs.Outs.{answers, Silent}
use Rattle.host_core.specs.Calls.{DoesAlone, Are, scene, shelf_of}
use Rattle.host_core.specs.Calls as calls
use Rattle.host_core.specs.Orders.{question_event, places_of}
use Rattle.host_core.specs.declared.orders.Question.{Question}
use Rattle.host_core.specs.declared.orders.Question.TheVariants.{Members, Neighbours, Failed, Probe}
use Rattle.outside_model.specs.State.{OuterState, Outside, outside}
use Rattle.outside_model.specs.Events.{Host_notes, Joins, Discovers}
use Rattle.outside_model.specs.Did.{Goes, GoesFor, happens_all as happens_all_outside, entries_all as entries_all_outside}
use Rattle.outside_model.specs.Schedules.{IsOne}
use Rattle.world_model.specs.State.{Machine, machine, routed, with_texts}
use Rattle.world_model.specs.Refusals.{shown, IsRefused, IsRefusedBy}
use Rattle.world_model.specs.Events.{Event, Host_does, Outside_does, Refuses as refuses, Shows_values, notes, happens, entries, May}
use Rattle.world_model.specs.Did.{Run, Does, Nothing, Stops}
use Rattle.host_model.specs.Refusals.{is_keeper_fault}
use Rattle.world_model.specs.Lines.{Asks, IsDone, IsDiscovery, IsEffect}
use Rattle.world_model.proofs.EventLists.{counted_kept, ran_both}
use Rattle.world_model.proofs.Hosting.{adds_is}
use Rattle.world_model.proofs.Outside.{ran_outside}
use Rattle.world_step.specs.Scene.{scene_of}
use Rattle.world_step.proofs.Scenes.{ran_hosted, nothing_goes, quiet_goes, stopped_hosted, stopped_still}
use Rattle.zw_world.specs.Effects.{Answers, IsAsked}
use Rattle.zw_world.proofs.Scenes.{ran_refuses, quiet_run, none_more, did_as}
use Rattle.host_core.proofs.Refusing.{IsNothing, rose_entered, by_rule}

-- ---- which rules are no fault of the keeper

abbrev pub is_fault : Option Refused → Bool
is_fault None = false
is_fault (Some KeeperFault) = true
is_fault (Some refused) = false

if_fair : (b : Bool) (r : Refused) → is_fault (Some r) ≡ false → is_fault (if b then Some r else None) ≡ false
if_fair true r fair = fair
if_fair false r fair = refl

unless_fair : (b : Bool) (r : Refused) → is_fault (Some r) ≡ false → is_fault (unless b r) ≡ false
unless_fair true r fair = refl
unless_fair false r fair = fair

or_fair : (b : Bool) (rest : Option Refused) (r : Refused) → is_fault rest ≡ false → is_fault (Some r) ≡ false → is_fault (if b then rest else Some r) ≡ false
or_fair true rest r fair last = fair
or_fair false rest r fair last = last

first_fair : (rule : Option Refused) (more : List (Option Refused)) → is_fault rule ≡ false → is_fault (first_some more) ≡ false → is_fault (first_some (rule ∷ more)) ≡ false
first_fair None more fair later = later
first_fair (Some r) more fair later = fair

unsupported_fair : (classes needed : List ℕ) → is_fault (unsupported classes needed) ≡ false
unsupported_fair classes [] = refl
unsupported_fair classes (class ∷ more) = or_fair (lists classes class) (unsupported classes more) (Unsupported class) (unsupported_fair classes more) refl

pub places_fair : (h : HostState) (places : ℕ) → is_fault (places_refusal h places) ≡ false
places_fair h places = if_fair (nat_lt 64 (length h.requests.queue + places)) (QueueFull 64) refl

pub interview_fair : (b : Bool) (h : HostState) → is_fault (if b then places_refusal h 2 else Some NotJoined) ≡ false
interview_fair b h = or_fair b (places_refusal h 2) NotJoined (places_fair h 2) refl

unknown_fair : (known : Known) (rest : Option Refused) → is_fault rest ≡ false → is_fault (first_some (unless known.joined NotJoined ∷ unless (is_some known.classes) NotInterviewed ∷ rest ∷ [])) ≡ false
unknown_fair known rest fair =
    first_fair (unless known.joined NotJoined) (unless (is_some known.classes) NotInterviewed ∷ rest ∷ []) (unless_fair known.joined NotJoined refl)
    (first_fair (unless (is_some known.classes) NotInterviewed) (rest ∷ []) (unless_fair (is_some known.classes) NotInterviewed refl)
    (first_fair rest [] fair refl))

sendable_fair : (classes : List ℕ) (queued : ℕ) (word : Word) → is_fault (sendable_refusal classes queued word) ≡ false
unfolding sendable_refusal
sendable_fair classes queued word =
    let last = queue_full queued ∷ [] in
    let bad = unless (not (is_bad_word (sendable_of classes) word)) BadValue in
    let needed = unsupported classes (class_of (sendable_of classes) ∷ []) in
    first_fair (secured classes) (needed ∷ bad ∷ last) (if_fair (lists classes 0x98) Secured refl)
    (first_fair needed (bad ∷ last) (unsupported_fair classes (class_of (sendable_of classes) ∷ []))
    (first_fair bad last (unless_fair (not (is_bad_word (sendable_of classes) word)) BadValue refl)
    (first_fair (queue_full queued) [] (if_fair (nat_le 64 queued) (QueueFull 64) refl) refl)))

pub send_fair : (known : Known) (queued : ℕ) (word : Word) → is_fault (send_refusal known queued word) ≡ false
unfolding send_refusal
send_fair known queued word = unknown_fair known (sendable_refusal (classes_of known) queued word) (sendable_fair (classes_of known) queued word)

gettable_fair : (classes : List ℕ) (queued end : ℕ) → is_fault (gettable_refusal classes queued end) ≡ false
unfolding gettable_refusal
gettable_fair classes queued end =
    let last = queue_full queued ∷ [] in
    let needed = unsupported classes (gettable_class (gettable_of classes) ∷ channel_class end) in
    first_fair (secured classes) (needed ∷ last) (if_fair (lists classes 0x98) Secured refl)
    (first_fair needed last (unsupported_fair classes (gettable_class (gettable_of classes) ∷ channel_class end))
    (first_fair (queue_full queued) [] (if_fair (nat_le 64 queued) (QueueFull 64) refl) refl))

pub get_fair : (known : Known) (queued end : ℕ) → is_fault (get_refusal known queued end) ≡ false
unfolding get_refusal
get_fair known queued end = unknown_fair known (gettable_refusal (classes_of known) queued end) (gettable_fair (classes_of known) queued end)

-- ---- what is entered of a refusal

abbrev pub So : Bool → Type 0
So true = Unit {0}
So false = ⊥

fair_rose : (rule : Option Refused) (refused : Refused) (f : ℕ) → is_fault rule ≡ false → rule ≡ Some refused → refused ≡ KeeperFault → Rose f f
fair_rose rule refused f fair is fault =
    absurd (subst So (sym (ap (λ (x : Refused). is_fault (Some x)) fault) ∙ (sym (ap is_fault is) ∙ fair)) tt)

-- ---- what asks no keeper

-- the event of a call that asks none
alone_did : (e : HostEvent) (h h' : HostState) (r : Option (List (List ℕ))) (f : ℕ) → DoesAlone (Are (e ∷ [])) h [] h' [] → Did (e ∷ []) h h' [] [] (record { records = r; faults = f }) (record { records = r; faults = f })
alone_did e h h' r f does =
    let did = does (record { records = r; faults = f }) in
    subst (λ (l : List HostEvent). Did l h h' [] [] (record { records = r; faults = f }) (record { records = r; faults = f })) did.are did.did

pub asks : {A : Type 0} (answer : Result A Refused) (rule : Option Refused) (line : Line) (e : HostEvent) (keys : Keys) (host host' : HostParts) (o o' : OuterState) (ds : List State) (r : Option (List (List ℕ))) (before all : List Entry) (f : ℕ)
    → Silent (e ∷ []) → is_fault rule ≡ false → ((entered : Refusal) → IsRefusedBy rule entered → IsRefused (machine keys host o r ds) line entered)
    → RefusesOrNone answer rule → OnOk answer (DoesAlone (Are (e ∷ [])) host.state [] host'.state []) → host'.decoder ≡ host.decoder → OnErr answer (host' ≡ host)
    → Answers answer o o' before all
    → Does (λ (m : Machine) (es : List Event). Asks rule line e es) (scene_of keys host o ds (shelf_of r f) before) (scene_of keys host' o' ds (shelf_of r f) all)
asks (Ok value) rule line e keys host host' o o' ds r before all f silent fair refused judged does decoder same done =
    let ran : Run (Host_does e ∷ []) (scene_of keys host o ds (shelf_of r f) before) (scene_of keys host' o ds (shelf_of r f) before) =
    ran_hosted (e ∷ []) keys host host' o o ds r r [] [] before before f f silent refl (alone_did e host.state host'.state r f does) decoder (nothing_goes o before) in (
      Host_does e ∷ [],
      subst (λ (x : Option Refused). Asks x line e (Host_does e ∷ [])) (sym judged) refl,
      subst (λ (l : List Entry). Run (Host_does e ∷ []) (scene_of keys host o ds (shelf_of r f) before) (scene_of keys host' o' ds (shelf_of r f) l)) (sym done.1)
          (subst (λ (x : OuterState). Run (Host_does e ∷ []) (scene_of keys host o ds (shelf_of r f) before) (scene_of keys host' x ds (shelf_of r f) before)) (sym done.0) ran),
    )
asks (Err why) rule line e keys host host' o o' ds r before all f silent fair refused (inl judged) does decoder same done =
    let (entered, seen, goes) = done in
    let ran : Run (refuses line entered ∷ []) (scene_of keys host o ds (shelf_of r f) before) (scene_of keys host o' ds (shelf_of r f) all) =
    ran_refuses line entered keys host o o' ds r before all f f (refused entered (by_rule rule why entered judged seen)) goes
    (rose_entered why entered f f seen (fair_rose rule why f fair judged)) (omega arith) in (
      refuses line entered ∷ [],
      subst (λ (x : Option Refused). Asks x line e (refuses line entered ∷ [])) (sym judged) (entered, seen, refl),
      subst (λ (x : HostParts). Run (refuses line entered ∷ []) (scene_of keys host o ds (shelf_of r f) before) (scene_of keys x o' ds (shelf_of r f) all)) (sym same) ran,
    )
asks (Err why) rule line e keys host host' o o' ds r before all f silent fair refused (inr judged) does decoder same done =
    let (entered, seen, goes) = done in
    absurd (subst IsNothing (sym (ap shown judged.0) ∙ seen) tt)

-- a call that refuses exactly as said
pub or_none : {A : Type 0} (answer : Result A Refused) (rule : Option Refused) → Refuses answer rule → RefusesOrNone answer rule
or_none (Ok value) rule judged = judged
or_none (Err why) rule judged = inl judged

pub question_silent : (question : Question) → Silent (question_event question ∷ [])
question_silent Members = ((λ h. refl), tt)
question_silent (Neighbours node) = ((λ h. refl), tt)
question_silent (Failed node) = ((λ h. refl), tt)
question_silent Probe = ((λ h. refl), tt)

-- what refuses a question
pub question_refused : (question : Question) (keys : Keys) (host : HostParts) (o : OuterState) (ds : List State) (r : Option (List (List ℕ))) (entered : Refusal)
    → IsRefusedBy (places_refusal host.state (places_of question)) entered → IsRefused (machine keys host o r ds) (Rattle.zw_world.specs.Effects.line_of question) entered
question_refused Members keys host o ds r entered by = by
question_refused (Neighbours node) keys host o ds r entered by = by
question_refused (Failed node) keys host o ds r entered by = by
question_refused Probe keys host o ds r entered by = by

-- the chip's table is made, and then the members are asked for
pub discovers : (keys keys' : Keys) (host host' : HostParts) (o mid o' : OuterState) (ds : List State) (r : Option (List (List ℕ))) (before all : List Entry) (f : ℕ)
    → Goes (Discovers ∷ []) o mid [] [] → Does (IsAsked Members) (scene_of keys host mid ds (shelf_of r f) before) (scene_of keys' host' o' ds (shelf_of r f) all)
    → Does IsDiscovery (scene_of keys host o ds (shelf_of r f) before) (scene_of keys' host' o' ds (shelf_of r f) all)
discovers keys keys' host host' o mid o' ds r before all f goes (asked, are, ran) = (
  Outside_does Discovers ∷ asked,
  (asked, are, refl),
  ran_both (Outside_does Discovers ∷ []) asked (scene_of keys host o ds (shelf_of r f) before) (scene_of keys host mid ds (shelf_of r f) before) (scene_of keys' host' o' ds (shelf_of r f) all)
      (ran_outside (Discovers ∷ []) (machine keys host o r ds) (outside mid ds) before before f (refl, tt) (quiet_goes (Discovers ∷ []) o mid before goes ds)) ran,
)

-- ---- what asks the keeper

-- an event that puts nothing out, and answers the line
pub ran_answered : (e : HostEvent) (keys : Keys) (host host' : HostParts) (o o' : OuterState) (ds : List State) (r r' : Option (List (List ℕ))) (before all : List Entry) (f g : ℕ)
    → Did (e ∷ []) host.state host'.state [] [] (record { records = r; faults = f }) (record { records = r'; faults = g }) → host'.decoder ≡ host.decoder
    → Goes (notes (answers host.state e)) o o' before all
    → Run (Host_does e ∷ []) (scene_of keys host o ds (shelf_of r f) before) (scene_of keys host' o' ds (shelf_of r' g) all)
unfolding happens entries May
ran_answered e keys host host' o o' ds r r' before all f g did decoder goes =
    let went = goes ds in
    let m = machine keys host o r ds in
    let h = host.state in
    let n = notes (answers h e) in
    let w = outside o ds in
    let kept : r' ≡ with_texts r (texts_of (records_all h (e ∷ []))) = adds_is r r' (texts_of (records_all h (e ∷ []))) did.records in
    record {
      may = (did.may, tt);
      state = ap (λ (x : Outside). record { keys = keys; host = host'; records = r'; outside = x }) went.state
          ∙ (ap (λ (l : List HostOut). record { keys = keys; host = host'; records = r'; outside = happens_all_outside (happens_all_outside w (routed l)) n }) did.outs
          ∙ (ap (λ (d : Rest). record { keys = keys; host = record { decoder = d; state = host'.state }; records = r'; outside = happens_all_outside (happens_all_outside w (routed (outs_all h (e ∷ [])))) n }) decoder
          ∙ (ap (λ (s : HostState). record { keys = keys; host = record { decoder = host.decoder; state = s }; records = r'; outside = happens_all_outside (happens_all_outside w (routed (outs_all h (e ∷ [])))) n }) did.state
          ∙ ap (λ (x : Option (List (List ℕ))). record { keys = keys; host = record { decoder = host.decoder; state = after_all h (e ∷ []) }; records = x; outside = happens_all_outside (happens_all_outside w (routed (outs_all h (e ∷ [])))) n }) kept)));
      entries = went.entries
          ∙ (ap (λ (l : List HostOut). before ++ (entries_all_outside w (routed l) ++ entries_all_outside (happens_all_outside w (routed l)) n)) did.outs
          ∙ ap (λ (l : List Entry). before ++ l) (sym (append-nil (entries m (Host_does e)))));
      counted = record { rose = did.rose; never_falls = did.never_falls };
    }

-- a line is refused, and nothing is kept
pub refused_done : (line : Line) (these : List Event) (entered : Refusal) (keys : Keys) (host host' : HostParts) (o o' : OuterState) (ds : List State) (r r' : Option (List (List ℕ))) (before all : List Entry) (f g : ℕ)
    → host' ≡ host → OptAdds r r' [] → IsRefused (machine keys host o r ds) line entered → Goes (Host_notes (refused_entry entered) ∷ []) o o' before all
    → RoseIf (is_keeper_fault entered) f g → f ≤ g
    → Does (λ (m : Machine) (es : List Event). IsDone line these es) (scene_of keys host o ds (shelf_of r f) before) (scene_of keys host' o' ds (shelf_of r' g) all)
refused_done line these entered keys host host' o o' ds r r' before all f g same kept may goes rose falls = (
  refuses line entered ∷ [],
  inr (entered, refl),
  subst (λ (x : Option (List (List ℕ))). Run (refuses line entered ∷ []) (scene_of keys host o ds (shelf_of r f) before) (scene_of keys host' o' ds (shelf_of x g) all)) (sym (none_more r r' kept))
      (subst (λ (x : HostParts). Run (refuses line entered ∷ []) (scene_of keys host o ds (shelf_of r f) before) (scene_of keys x o' ds (shelf_of r g) all)) (sym same)
      (ran_refuses line entered keys host o o' ds r before all f g may goes rose falls)),
)

-- a node joins: the host, and then the air and the chip
pub joins : (node : ℕ) (keys : Keys) (host host' : HostParts) (o o' : OuterState) (ds : List State) (r r' : Option (List (List ℕ))) (before : List Entry) (f g : ℕ)
    → Did (joins_host node ∷ []) host.state host'.state [] [] (record { records = r; faults = f }) (record { records = r'; faults = g }) → host'.decoder ≡ host.decoder
    → GoesFor ds (IsOne (Joins node)) o o' [] []
    → Does (λ (m : Machine) (es : List Event). IsDone (Join node) (Host_does (joins_host node) ∷ Outside_does (Joins node) ∷ []) es) (scene_of keys host o ds (shelf_of r f) before) (scene_of keys host' o' ds (shelf_of r' g) before)
joins node keys host host' o o' ds r r' before f g did decoder (es, are, run) = (
  Host_does (joins_host node) ∷ Outside_does (Joins node) ∷ [],
  inl refl,
  ran_both (Host_does (joins_host node) ∷ []) (Outside_does (Joins node) ∷ []) (scene_of keys host o ds (shelf_of r f) before) (scene_of keys host' o ds (shelf_of r' g) before) (scene_of keys host' o' ds (shelf_of r' g) before)
      (ran_hosted (joins_host node ∷ []) keys host host' o o ds r r' [] [] before before f g ((λ h. refl), tt) refl did decoder (nothing_goes o before))
      (ran_outside (Joins node ∷ []) (machine keys host' o r' ds) (outside o' ds) before before g (refl, tt)
      (quiet_run (Joins node ∷ []) (outside o ds) (outside o' ds) before (subst (λ x. Rattle.outside_model.specs.Did.Run x (outside o ds) (outside o' ds) [] []) are run))),
)

-- ---- whole lines, by what a call of the host answered

pub accepted : {T E : Type 0} (answer : Result T E) (order : Order) (number : ℕ) (keys keys' : Keys) (host mid host' : HostParts) (o o' : OuterState) (r r' : Option (List (List ℕ))) (before all : List Entry) (f g : ℕ)
    → calls.Does (Are (Accepts order (carriage_for host.state order) ∷ [])) (scene host.state [] (shelf_of r f)) (scene mid.state [] (shelf_of r' g)) → mid.decoder ≡ host.decoder
    → number ≡ length host.state.commands + 1 → keys' ≡ keys → host' ≡ mid
    → OnOk answer (Goes (Host_notes (Accepted number order.node) ∷ []) o o' before all)
    → OnOk answer ((ds : List State) → Does (IsEffect (Command order)) (scene_of keys host o ds (shelf_of r f) before) (scene_of keys' host' o' ds (shelf_of r' g) all))
accepted (Err fault) order number keys keys' host mid host' o o' r r' before all f g does decoder is same_keys same_host goes = tt
accepted (Ok value) order number keys keys' host mid host' o o' r r' before all f g does decoder is same_keys same_host goes = λ ds.
    let e = Accepts order (carriage_for host.state order) in
    did_as (IsEffect (Command order)) (scene_of keys host o ds (shelf_of r f) before) keys keys' mid host' o' ds r' all g same_keys same_host (
      Host_does e ∷ [],
      inl refl,
      ran_answered e keys host mid o o' ds r r' before all f g
          (subst (λ (l : List HostEvent). Did l host.state mid.state [] [] (record { records = r; faults = f }) (record { records = r'; faults = g })) does.are does.did) decoder
          (subst (λ (n : ℕ). Goes (Host_notes (Accepted n order.node) ∷ []) o o' before all) is goes),
    )

pub cancelled : {T E : Type 0} (answer : Result T E) (command : ℕ) (keys keys' : Keys) (host mid host' : HostParts) (o o' : OuterState) (r r' : Option (List (List ℕ))) (before all : List Entry) (f g : ℕ)
    → calls.Does (Are (Cancels command ∷ [])) (scene host.state [] (shelf_of r f)) (scene mid.state [] (shelf_of r' g)) → mid.decoder ≡ host.decoder → keys' ≡ keys → host' ≡ mid
    → OnOk answer (Goes (Host_notes (Out command Cancelled) ∷ []) o o' before all)
    → OnOk answer ((ds : List State) → Does (IsEffect (Cancel command)) (scene_of keys host o ds (shelf_of r f) before) (scene_of keys' host' o' ds (shelf_of r' g) all))
cancelled (Err fault) command keys keys' host mid host' o o' r r' before all f g does decoder same_keys same_host goes = tt
cancelled (Ok value) command keys keys' host mid host' o o' r r' before all f g does decoder same_keys same_host goes = λ ds.
    did_as (IsEffect (Cancel command)) (scene_of keys host o ds (shelf_of r f) before) keys keys' mid host' o' ds r' all g same_keys same_host (
      Host_does (Cancels command) ∷ [],
      inl refl,
      ran_answered (Cancels command) keys host mid o o' ds r r' before all f g
          (subst (λ (l : List HostEvent). Did l host.state mid.state [] [] (record { records = r; faults = f }) (record { records = r'; faults = g })) does.are does.did) decoder goes,
    )

-- the host did its event, and then memory ran out
pub event_stops : {T E : Type 0} (answer : Result T E) (e : HostEvent) (keys keys' : Keys) (host mid host' : HostParts) (o o' : OuterState) (r r' : Option (List (List ℕ))) (before all : List Entry) (f g : ℕ)
    → calls.Does (Are (e ∷ [])) (scene host.state [] (shelf_of r f)) (scene mid.state [] (shelf_of r' g)) → OnErr answer (all ≡ before)
    → OnErr answer ((ds : List State) → Stops Nothing (scene_of keys host o ds (shelf_of r f) before) (scene_of keys' host' o' ds (shelf_of r' g) all))
event_stops (Ok value) e keys keys' host mid host' o o' r r' before all f g does same = tt
event_stops (Err fault) e keys keys' host mid host' o o' r r' before all f g does same = λ ds.
    stopped_hosted does.events keys keys' host host' o o' ds r r' mid.state [] [] before all f g does.did same

-- the line is refused, or memory ran out
pub refusal_done : {T E : Type 0} (answer : Result T E) (line : Line) (these : List Event) (seen : Option Refusal) (keys keys' : Keys) (host mid host' : HostParts) (o o' : OuterState) (r r' : Option (List (List ℕ))) (before all : List Entry) (f g : ℕ)
    → ((entered : Refusal) → seen ≡ Some entered → (ds : List State) → IsRefused (machine keys host o r ds) line entered)
    → ((entered : Refusal) → seen ≡ Some entered → RoseIf (is_keeper_fault entered) f g)
    → mid ≡ host → OptAdds r r' [] → f ≤ g → keys' ≡ keys → host' ≡ mid
    → OnOk answer ((entered : Refusal) × (seen ≡ Some entered) × Goes (Host_notes (refused_entry entered) ∷ []) o o' before all)
    → OnOk answer ((ds : List State) → Does (λ (m : Machine) (es : List Event). IsDone line these es) (scene_of keys host o ds (shelf_of r f) before) (scene_of keys' host' o' ds (shelf_of r' g) all))
refusal_done (Err fault) line these seen keys keys' host mid host' o o' r r' before all f g may rose same kept falls same_keys same_host goes = tt
refusal_done (Ok value) line these seen keys keys' host mid host' o o' r r' before all f g may rose same kept falls same_keys same_host (entered, is, goes) = λ ds.
    did_as (λ (m : Machine) (es : List Event). IsDone line these es) (scene_of keys host o ds (shelf_of r f) before) keys keys' mid host' o' ds r' all g same_keys same_host
    (refused_done line these entered keys host mid o o' ds r r' before all f g same kept (may entered is ds) goes (rose entered is) falls)

pub refusal_stops : {T E : Type 0} (answer : Result T E) (keys keys' : Keys) (host host' : HostParts) (o o' : OuterState) (r r' : Option (List (List ℕ))) (before all : List Entry) (f g : ℕ)
    → OptAdds r r' [] → f ≤ g → OnErr answer (all ≡ before) → OnErr answer ((ds : List State) → Stops Nothing (scene_of keys host o ds (shelf_of r f) before) (scene_of keys' host' o' ds (shelf_of r' g) all))
refusal_stops (Ok value) keys keys' host host' o o' r r' before all f g kept falls same = tt
refusal_stops (Err fault) keys keys' host host' o o' r r' before all f g kept falls same = λ ds.
    stopped_still Nothing keys keys' host host' o o' ds r r' before all f g refl (none_more r r' kept) same falls

-- what asks no keeper, in all
pub asked : {A T E : Type 0} (answer : Result T E) (said : Result A Refused) (rule : Option Refused) (line : Line) (e : HostEvent) (keys keys' : Keys) (host mid host' : HostParts) (o o' : OuterState) (before all : List Entry)
    → Silent (e ∷ []) → is_fault rule ≡ false → ((ds : List State) (r : Option (List (List ℕ))) (entered : Refusal) → IsRefusedBy rule entered → IsRefused (machine keys host o r ds) line entered)
    → RefusesOrNone said rule → OnOk said (DoesAlone (Are (e ∷ [])) host.state [] mid.state []) → mid.decoder ≡ host.decoder → OnErr said (mid ≡ host) → keys' ≡ keys → host' ≡ mid
    → OnOk answer (Answers said o o' before all)
    → OnOk answer ((ds : List State) (r : Option (List (List ℕ))) (f : ℕ) → Does (λ (m : Machine) (es : List Event). Asks rule line e es) (scene_of keys host o ds (shelf_of r f) before) (scene_of keys' host' o' ds (shelf_of r f) all))
asked (Err fault) said rule line e keys keys' host mid host' o o' before all silent fair refused judged does decoder same same_keys same_host done = tt
asked (Ok value) said rule line e keys keys' host mid host' o o' before all silent fair refused judged does decoder same same_keys same_host done = λ ds r f.
    did_as (λ (m : Machine) (es : List Event). Asks rule line e es) (scene_of keys host o ds (shelf_of r f) before) keys keys' mid host' o' ds r all f same_keys same_host
    (asks said rule line e keys host mid o o' ds r before all f silent fair (refused ds r) judged does decoder same done)

ran_shows : (node : ℕ) (keys : Keys) (host : HostParts) (o o' : OuterState) (ds : List State) (r : Option (List (List ℕ))) (before all : List Entry) (f : ℕ)
    → Goes (Host_notes (Json (values_text node (held_of host.state.store node))) ∷ []) o o' before all
    → Run (Shows_values node ∷ []) (scene_of keys host o ds (shelf_of r f) before) (scene_of keys host o' ds (shelf_of r f) all)
unfolding happens entries May
ran_shows node keys host o o' ds r before all f goes =
    let went = goes ds in
    record {
      may = (tt, tt);
      state = ap (λ (w : Outside). record { keys = keys; host = host; records = r; outside = w }) went.state;
      entries = went.entries;
      counted = counted_kept (Shows_values node) f f refl (omega arith);
    }

-- the stored values of a node are shown
pub shows_values : {T E : Type 0} (answer : Result T E) (node : ℕ) (text : List ℕ) (keys keys' : Keys) (host host' : HostParts) (o o' : OuterState) (before all : List Entry)
    → text ≡ values_text node (held_of host.state.store node) → keys' ≡ keys → host' ≡ host → OnOk answer (Goes (Host_notes (Json text) ∷ []) o o' before all)
    → OnOk answer ((ds : List State) (r : Option (List (List ℕ))) (f : ℕ) → Does (IsEffect (Store node)) (scene_of keys host o ds (shelf_of r f) before) (scene_of keys' host' o' ds (shelf_of r f) all))
shows_values (Err fault) node text keys keys' host host' o o' before all is same_keys same_host goes = tt
shows_values (Ok value) node text keys keys' host host' o o' before all is same_keys same_host goes = λ ds r f.
    did_as (IsEffect (Store node)) (scene_of keys host o ds (shelf_of r f) before) keys keys' host host' o' ds r all f same_keys same_host
    (Shows_values node ∷ [], refl, ran_shows node keys host o o' ds r before all f (subst (λ (t : List ℕ). Goes (Host_notes (Json t) ∷ []) o o' before all) is goes))

-- a node joins, in all
pub joined : {T E : Type 0} (answer : Result T E) (node : ℕ) (keys : Keys) (host mid : HostParts) (o o' : OuterState) (ds : List State) (r r' : Option (List (List ℕ))) (before : List Entry) (f g : ℕ)
    → calls.Does (Are (joins_host node ∷ [])) (scene host.state [] (shelf_of r f)) (scene mid.state [] (shelf_of r' g)) → mid.decoder ≡ host.decoder → OnOk answer (GoesFor ds (IsOne (Joins node)) o o' [] [])
    → OnOk answer (Does (IsEffect (Join node)) (scene_of keys host o ds (shelf_of r f) before) (scene_of keys mid o' ds (shelf_of r' g) before))
joined (Err fault) node keys host mid o o' ds r r' before f g does decoder goes = tt
joined (Ok value) node keys host mid o o' ds r r' before f g does decoder goes =
    joins node keys host mid o o' ds r r' before f g
    (subst (λ (l : List HostEvent). Did l host.state mid.state [] [] (record { records = r; faults = f }) (record { records = r'; faults = g })) does.are does.did) decoder goes
