-- One step of the host, with what is written at it.
use Rattle.std.proofs.Common.{◌≡◌, ℕ, suc, ◌+◌, ◌≤◌, ◌<◌, List, [], ◌∷◌, ◌++◌, length, length-append, take, drop, get_or, take-append-drop, Result, Ok, Err, refl, ap, sym, ◌∙◌, subst, append_assoc, append-nil, arith}
use Rattle.std.specs.Prelude.{Option, Some, None, OnOk, IfErr}
use Rattle.std.specs.Io.KnownBytes.{Consumes, Appends}
use Rattle.std.proofs.KnownBytes.{Consumes-nil, Appends-nil, Keeps-refl}
use Rattle.run_lines.specs.Writing.{AppendsPrefix}
use Rattle.run_lines.specs.declared.reader.TheConstants.{PIECE, MAX_INPUT}
use Rattle.host_model.specs.State.{HostParts}
use Rattle.host_model.specs.declared.out.HostOut.{HostOut}
use Rattle.host_model.proofs.EventLists.{none_added, did_nothing}
use Rattle.host_keep.specs.Keeping.{Shelf}
use Rattle.host_core.specs.Calls.{Stops}
use Rattle.port_run.specs.declared.stop.Stop.{Stop}
use Rattle.port_run.specs.declared.stop.Stop.TheVariants.{ReadFault, WriteFault, InputTooLong, NoMemory}
use Rattle.port_run.specs.Steps.{Place, Step, Asks, Takes, Ticks, Pumps, Ran}
use Rattle.port_run.specs.Schedule.{IsLate}
use Rattle.port_run.specs.Serving.{units_of, WritesPart, WritesFirst, WritesSome, Halts, bytes_of, Reads, Went, EndsReading, Broke}
use Rattle.port_run.proofs.StepLists.{units-append, ran_one, went_one}
use Rattle.port_run.proofs.Joining.{WentStill, BrokeStill}
use Rattle.run_lines.proofs.Pieces.{AppendsPrefix-append, AppendsPrefix-more}
use Rattle.serial_frame.specs.Stream.{after_tick}
use Rattle.host_core.specs.Calls.{Does, Are, scene}
use Rattle.host_model.specs.Pumping.{Pumps as pump_events}
use Rattle.host_model.specs.Ticking.{tick_events}
use Rattle.host_model.specs.Taking.{Fed, FedPrefix}
use Rattle.port_run.specs.Steps.{place, Asked, IsStill}
use Rattle.port_run.specs.Schedule.{CutPlain}
use Rattle.zw_text.specs.declared.line.Line.{Line}
use Rattle.port_run.specs.declared.asking.Answer.{Answer}
use Rattle.port_run.specs.declared.asking.Answer.TheVariants as answer
use Rattle.port_run.specs.Schedule.{CutTaking}
use Rattle.port_run.specs.Serving.{unit_bytes}
use Rattle.std.proofs.Math.Seq.{drop-cons}

-- bytes that are read in two parts
consumed_parts : (l m : Option (List ℕ)) (prefix left : List ℕ) → Consumes l m (prefix ++ left) → (k : Option (List ℕ)) × Consumes l k prefix × Consumes k m left
consumed_parts None m prefix left took = (None, tt, tt)
consumed_parts (Some xs) None prefix left took = absurd took
consumed_parts (Some xs) (Some ys) prefix left took = (Some (left ++ ys), took ∙ append_assoc prefix left ys, refl)

none_written : (s : Option (List ℕ)) (outs : List HostOut) → WritesFirst s s outs
none_written s outs = ([], outs, refl, Appends-nil s)

-- the step was done, and its units were written in part
half : (stop : Stop) (step : Step) (old new : Place) (outs : List HostOut) (s t : Option (List ℕ)) → Ran step old new outs → WritesSome stop s t outs → Halts stop (step ∷ []) old new s t
half ReadFault step old new outs s t ran part = absurd part
half InputTooLong step old new outs s t ran part = absurd part
half WriteFault step old new outs s t ran part = record { outs = outs; ran = ran_one step old new outs ran; written = part }
half NoMemory step old new outs s t ran part = record {
  mid = new;
  some = outs;
  all = outs;
  ran = ran_one step old new outs ran;
  events = [];
  did = did_nothing new.host.state new.host.state outs outs new.shelf new.shelf refl refl (none_added new.shelf.records) (omega arith);
  written = part;
}

is_late : (stop : Stop) (s t : Option (List ℕ)) (outs : List HostOut) → WritesSome stop s t outs → IsLate stop
is_late ReadFault s t outs part = part
is_late InputTooLong s t outs part = part
is_late WriteFault s t outs part = tt
is_late NoMemory s t outs part = tt

ends_late : (stop : Stop) (n : ℕ) → IsLate stop → n ≤ MAX_INPUT → EndsReading stop n []
ends_late ReadFault n late within = absurd late
ends_late InputTooLong n late within = absurd late
ends_late WriteFault n late within = refl
ends_late NoMemory n late within = omega (arith, within)

pub broke_write : (Cut : Stop → List Step → Type 0) (step : Step) (stop : Stop) (old new : Place) (outs : List HostOut) (s t l m : Option (List ℕ)) (n : ℕ) → Ran step old new outs
    → WritesSome stop s t outs → Reads (step ∷ []) l m → n + length (bytes_of (step ∷ [])) ≤ MAX_INPUT → (IsLate stop → Cut stop (step ∷ [])) → Broke Cut stop old new s t l m n
broke_write Cut step stop old new outs s t l m n ran part reads within cut = record {
  steps = step ∷ [];
  cut = cut (is_late stop s t outs part);
  halts = half stop step old new outs s t ran part;
  mid = m;
  reads = reads;
  rest = [];
  consumed = Consumes-nil m;
  short = omega arith;
  within = within;
  ends = ends_late stop (n + length (bytes_of (step ∷ []))) (is_late stop s t outs part) within;
}

-- there was no memory before the step was done; nothing was written
pub broke_host : (Cut : Stop → List Step → Type 0) (old new : Place) (outs : List HostOut) (s l : Option (List ℕ)) (n : ℕ) → Stops (scene old.host.state [] old.shelf) (scene new.host.state outs new.shelf)
    → n ≤ MAX_INPUT → Cut NoMemory [] → Broke Cut NoMemory old new s s l l n
broke_host Cut old new outs s l n stops within cut = record {
  steps = [];
  cut = cut;
  halts = record {
    mid = old;
    some = [];
    all = outs;
    ran = (refl, refl);
    events = stops.events;
    did = stops.did;
    written = none_written s outs;
  };
  mid = l;
  reads = Keeps-refl l;
  rest = [];
  consumed = Consumes-nil l;
  short = omega arith;
  within = omega (arith, within);
  ends = omega (arith, within);
}

-- one that reads nothing
pub step_ok : {T E : Type 0} (answer : Result T E) (step : Step) (old new : Place) (outs shown : List HostOut) (s t : Option (List ℕ)) → ((l : Option (List ℕ)) → Reads (step ∷ []) l l) → bytes_of (step ∷ []) ≡ []
    → shown ≡ outs → Ran step old new outs → OnOk answer (Appends s t (units_of shown)) → OnOk answer (WentStill (step ∷ []) old new s t)
step_ok (Err fault) step old new outs shown s t reads none same ran written = tt
step_ok (Ok value) step old new outs shown s t reads none same ran written = λ l n.
    went_one step old new outs s t l l n n ran (subst (λ (o : List HostOut). Appends s t (units_of o)) same written) (reads l) (omega (arith, ap length none))

pub step_err : {T : Type 0} (answer : Result T Stop) (Cut : Stop → List Step → Type 0) (step : Step) (old new : Place) (outs shown : List HostOut) (s t : Option (List ℕ)) → ((l : Option (List ℕ)) → Reads (step ∷ []) l l)
    → bytes_of (step ∷ []) ≡ [] → shown ≡ outs → Ran step old new outs → ((stop : Stop) → IsLate stop → Cut stop (step ∷ [])) → IfErr answer (λ stop. WritesSome stop s t shown)
    → IfErr answer (λ stop. BrokeStill Cut stop old new s t)
step_err (Ok value) Cut step old new outs shown s t reads none same ran cut part = tt
step_err (Err stop) Cut step old new outs shown s t reads none same ran cut part =
    λ l n within. broke_write Cut step stop old new outs s t l l n ran (subst (λ (o : List HostOut). WritesSome stop s t o) same part) (reads l) (omega (arith, within, ap length none)) (cut stop)

-- bytes were taken
pub take_ok : {T E : Type 0} (answer : Result T E) (bytes : List ℕ) (old new : Place) (outs shown : List HostOut) (s t : Option (List ℕ)) → shown ≡ outs → Ran (Takes bytes) old new outs → OnOk answer (Appends s t (units_of shown))
    → OnOk answer ((l m : Option (List ℕ)) (n : ℕ) → Consumes l m bytes → Went (Takes bytes ∷ []) old new s t l m n (n + length bytes))
take_ok (Err fault) bytes old new outs shown s t same ran written = tt
take_ok (Ok value) bytes old new outs shown s t same ran written = λ l m n took.
    went_one (Takes bytes) old new outs s t l m n (n + length bytes) ran (subst (λ (o : List HostOut). Appends s t (units_of o)) same written) (m, took, Keeps-refl m)
    (ap (λ (b : List ℕ). n + length b) (sym (append-nil bytes)))

pub take_err : {T : Type 0} (answer : Result T Stop) (bytes : List ℕ) (old new : Place) (outs shown : List HostOut) (s t : Option (List ℕ)) → shown ≡ outs → Ran (Takes bytes) old new outs
    → IfErr answer (λ stop. WritesSome stop s t shown)
    → IfErr answer (λ stop. (l m : Option (List ℕ)) (n : ℕ) → Consumes l m bytes → n + length bytes ≤ MAX_INPUT → Broke (CutTaking bytes) stop old new s t l m n)
take_err (Ok value) bytes old new outs shown s t same ran part = tt
take_err (Err stop) bytes old new outs shown s t same ran part = λ l m n took within.
    broke_write (CutTaking bytes) (Takes bytes) stop old new outs s t l m n ran (subst (λ (o : List HostOut). WritesSome stop s t o) same part) (m, took, Keeps-refl m)
    (omega (arith, within, ap length (append-nil bytes))) (cut_taken bytes stop)
  where
    cut_taken : (bytes' : List ℕ) (stop' : Stop) → IsLate stop' → CutTaking bytes' stop' (Takes bytes' ∷ [])
    cut_taken bytes' ReadFault late = absurd late
    cut_taken bytes' InputTooLong late = absurd late
    cut_taken bytes' WriteFault late = refl
    cut_taken bytes' NoMemory late = (bytes', [], sym (append-nil bytes'), refl)

-- of bytes a prefix was taken, and of the next item some events happened; nothing was written
pub broke_feed : (old new : Place) (bytes : List ℕ) (outs : List HostOut) (s l m : Option (List ℕ)) (n : ℕ) → FedPrefix old.host bytes new.host [] outs old.shelf new.shelf → Consumes l m bytes → length bytes ≤ PIECE
    → n + length bytes ≤ MAX_INPUT → Broke (CutTaking bytes) NoMemory old new s s l m n
broke_feed old new bytes outs s l m n fed took short within =
    let mid : Place = record { host = fed.mid; shelf = fed.kept } in
    let parts : length bytes ≡ length fed.prefix + length fed.left = ap length fed.parts ∙ length-append fed.prefix fed.left in
    let own : length (bytes_of (Takes fed.prefix ∷ [])) ≡ length fed.prefix = ap length (append-nil fed.prefix) in
    let cut = consumed_parts l m fed.prefix fed.left (subst (λ (b : List ℕ). Consumes l m b) fed.parts took) in
    record {
      steps = Takes fed.prefix ∷ [];
      cut = (fed.prefix, fed.left, fed.parts, refl);
      halts = record {
        mid = mid;
        some = fed.some;
        all = outs;
        ran = ran_one (Takes fed.prefix) old mid fed.some fed.fed;
        events = fed.begun;
        did = fed.did;
        written = none_written s outs;
      };
      mid = cut.0;
      reads = (cut.0, cut.1, Keeps-refl cut.0);
      rest = fed.left;
      consumed = cut.2;
      short = omega (arith, short, parts);
      within = omega (arith, within, parts, own);
      ends = omega (arith, within, parts, own);
    }

-- ---- calls of the host

pub pump_ran : (host host' : HostParts) (a b : Shelf) (puts outs : List HostOut) → puts ≡ [] → Does (pump_events host.state) (scene host.state puts a) (scene host'.state outs b)
    → host'.decoder ≡ host.decoder → Ran Pumps (place host a) (place host' b) outs
pump_ran host host' a b puts outs none does decoder =
    (subst (λ (o : List HostOut). Does (pump_events host.state) (scene host.state o a) (scene host'.state outs b)) none does, decoder)

pub tick_ran : (host host' : HostParts) (a b : Shelf) (puts outs : List HostOut) → puts ≡ [] → Does (Are (tick_events host.state)) (scene host.state puts a) (scene host'.state outs b)
    → host'.decoder ≡ after_tick host.decoder → Ran Ticks (place host a) (place host' b) outs
tick_ran host host' a b puts outs none does decoder =
    (subst (λ (o : List HostOut). Does (Are (tick_events host.state)) (scene host.state o a) (scene host'.state outs b)) none does, decoder)

pub feed_ran : (host host' : HostParts) (bytes : List ℕ) (a b : Shelf) (puts outs : List HostOut) → puts ≡ []
    → Fed host bytes host' puts outs a b → Ran (Takes bytes) (place host a) (place host' b) outs
feed_ran host host' bytes a b puts outs none fed =
    subst (λ (o : List HostOut). Fed host bytes host' o outs a b) none fed

pub call_stopped : (Cut : Stop → List Step → Type 0) (host host' : HostParts) (a b : Shelf) (puts outs : List HostOut) (s : Option (List ℕ)) → puts ≡ [] → Stops (scene host.state puts a) (scene host'.state outs b)
    → Cut NoMemory [] → BrokeStill Cut NoMemory (place host a) (place host' b) s s
call_stopped Cut host host' a b puts outs s none stops cut = λ l n within.
    broke_host Cut (place host a) (place host' b) outs s l n
    (subst (λ (o : List HostOut). Stops (scene host.state o a) (scene host'.state outs b)) none stops) within cut

pub feed_stopped : (host host' : HostParts) (bytes : List ℕ) (a b : Shelf) (puts outs : List HostOut) (s : Option (List ℕ)) → puts ≡ []
    → FedPrefix host bytes host' puts outs a b → length bytes ≤ PIECE
    → (l m : Option (List ℕ)) (n : ℕ) → Consumes l m bytes → n + length bytes ≤ MAX_INPUT → Broke (CutTaking bytes) NoMemory (place host a) (place host' b) s s l m n
feed_stopped host host' bytes a b puts outs s none fed short l m n took within =
    broke_feed (place host a) (place host' b) bytes outs s l m n
    (subst (λ (o : List HostOut). FedPrefix host bytes host' o outs a b) none fed) took short within

-- ---- units

-- of a list of outputs a prefix was written, and then a part of the next
pub outs_part : (stop : Stop) (a b c : Option (List ℕ)) (outs : List HostOut) (i : ℕ) (one : HostOut) → i < length outs → one ≡ get_or outs i one → Appends a b (units_of (take i outs))
    → WritesPart stop b c (unit_bytes one) → WritesSome stop a c outs
outs_part ReadFault a b c outs i one within at so_far part = absurd part
outs_part InputTooLong a b c outs i one within at so_far part = absurd part
outs_part NoMemory a b c outs i one within at so_far none =
    (take i outs, drop i outs, sym (take-append-drop i outs), subst (λ (s : Option (List ℕ)). Appends a s (units_of (take i outs))) (sym none) so_far)
outs_part WriteFault a b c outs i one within at so_far part =
    let before : List ℕ = units_of (take i outs) in
    let after : List ℕ = units_of (drop (suc i) outs) in
    let whole : units_of outs ≡ (before ++ unit_bytes one) ++ after =
    ap (λ (l : List HostOut). units_of l) (sym (take-append-drop i outs))
    ∙ units-append (take i outs) (drop i outs)
    ∙ ap (λ (l : List HostOut). before ++ units_of l) (drop-cons outs i one within)
    ∙ ap (λ (o : HostOut). before ++ (unit_bytes o ++ after)) (sym at)
    ∙ sym (append_assoc before (unit_bytes one) after) in
    subst (λ (l : List ℕ). AppendsPrefix a c l) (sym whole) (AppendsPrefix-more a c (before ++ unit_bytes one) after (AppendsPrefix-append a b c before (unit_bytes one) so_far part))

-- ---- a line

pub asked_went : (line : Line) (answer : Answer) (old new : Place) (s : Option (List ℕ)) → Asked line answer old new → WentStill (Asks line answer ∷ []) old new s s
asked_went line answer old new s asked = λ l n. went_one (Asks line answer) old new [] s s l l n n (asked, refl) (Appends-nil s) (Keeps-refl l) (omega arith)

pub unasked : (line : Line) (old new : Place) (s : Option (List ℕ)) → IsStill old new → BrokeStill (CutPlain line) NoMemory old new s s
unasked line old new s still = λ l n within. record {
  steps = [];
  cut = (answer.Taken, (tt, (Asks line answer.Taken ∷ Pumps ∷ [], refl)));
  halts = record {
    mid = old;
    some = [];
    all = [];
    ran = (refl, refl);
    events = [];
    did = did_nothing old.host.state new.host.state [] [] old.shelf new.shelf (ap (λ (p : HostParts). p.state) still.host) refl still.records still.never_falls;
    written = none_written s [];
  };
  mid = l;
  reads = Keeps-refl l;
  rest = [];
  consumed = Consumes-nil l;
  short = omega arith;
  within = omega (arith, within);
  ends = omega (arith, within);
}
