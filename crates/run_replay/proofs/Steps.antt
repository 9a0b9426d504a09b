-- Ticks one after another, and whole lines.
use Rattle.std.proofs.Common.{◌≡◌, ℕ, suc, ◌+◌, ◌-◌, ◌≤◌, ◌<◌, Bool, true, false, List, [], ◌++◌, refl, sym, subst, append_assoc, arith}
use Rattle.std.specs.Prelude.{Result, Ok, Err, OnOk, OnErr}
use Rattle.zw_base.specs.declared.order.Order.{Order}
use Rattle.zw_base.specs.declared.order.Word.{Word}
use Rattle.zw_text.specs.Line.{ReplayText}
use Rattle.zw_text.specs.declared.line.Line.{Line}
use Rattle.zw_text.specs.declared.line.Line.TheVariants.{Command, Tick, Send, Get, Join, Interview, Cancel, Neighbours, Failed, Probe, Store}
use Rattle.zw_text.specs.declared.line.ReplayLine.{ReplayLine}
use Rattle.zw_text.specs.declared.line.ReplayLine.TheVariants.{Plain, Chip}
use Rattle.run_replay.specs.Machine.{Lone, Event, Scene, Run, Does, Stops, Then}
use Rattle.run_replay.specs.Lines.{IsReplayed, IsEffect, IsPump, IsTaking, IsTick, AreTicks, IsPlain, IsLine}
use Rattle.run_replay.proofs.EventLists.{ran_nothing, ran_both, did_then, stopped_then, stopped_later}

-- ---- ticks

-- so many ticks passed, and with what completes the others all of them have
pub record TicksSoFar (count passed : ℕ) (first now : Scene) : Type 0 where
  pub prefix : List Event
  pub ran : Run prefix first now
  pub completes : (rest : List Event) → AreTicks (count - passed) now.lone rest → AreTicks count first.lone (prefix ++ rest)

pub no_ticks : (count : ℕ) (s : Scene) → TicksSoFar count 0 s s
no_ticks count s =
    let same : count - 0 ≡ count = omega arith in
    record { prefix = []; ran = ran_nothing s; completes = λ rest are. subst (λ (n : ℕ). AreTicks n s.lone rest) same are }

pub tick_so_far : (count i : ℕ) (s t u : Scene) → i < count → TicksSoFar count i s t → Does IsTick t u → TicksSoFar count (i + 1) s u
tick_so_far count i s t u fits so_far (events, tick, ran) =
    let left : suc (count - (i + 1)) ≡ count - i = omega (arith, fits) in
    record {
      prefix = so_far.prefix ++ events;
      ran = ran_both so_far.prefix events s t u so_far.ran ran;
      completes = λ rest are.
          subst (λ (l : List Event). AreTicks count s.lone l) (sym (append_assoc so_far.prefix events rest))
          (so_far.completes (events ++ rest)
          (subst (λ (n : ℕ). AreTicks n t.lone (events ++ rest)) left (events, rest, refl, tick, subst (λ (m : Lone). AreTicks (count - (i + 1)) m rest) ran.state are)));
    }

pub all_ticks : (count i : ℕ) (s t : Scene) → count ≤ i → TicksSoFar count i s t → Does (AreTicks count) s t
all_ticks count i s t full so_far =
    let none : 0 ≡ count - i = omega (arith, full) in (
      so_far.prefix ++ [],
      so_far.completes [] (subst (λ (n : ℕ). AreTicks n t.lone []) none refl),
      ran_both so_far.prefix [] s t t so_far.ran (ran_nothing t),
    )

pub ticks_stop : {T E : Type 0} (answer : Result T E) (count i : ℕ) (s t u : Scene) → TicksSoFar count i s t → Stops t u → OnErr answer (Stops s u)
ticks_stop (Ok value) count i s t u so_far stops = tt
ticks_stop (Err fault) count i s t u so_far stops = stopped_later so_far.prefix s t u so_far.ran stops

-- ---- lines

pub ok_then : {T E P Q : Type 0} (r : Result T E) → OnOk r P → (P → Q) → OnOk r Q
ok_then (Ok x) p go = go p
ok_then (Err e) p go = tt

pub err_then : {T E P Q : Type 0} (r : Result T E) → OnErr r P → (P → Q) → OnErr r Q
err_then (Ok x) p go = tt
err_then (Err e) p go = go p

-- the effect of a line that was matched
pub effect_as : {T E : Type 0} (answer : Result T E) (line known : Line) (s u : Scene) → line ≡ known → OnOk answer (Does (IsEffect known) s u) → OnOk answer (Does (IsEffect line) s u)
effect_as answer line known s u is done = subst (λ (l : Line). OnOk answer (Does (IsEffect l) s u)) (sym is) done

pub ticks_as : {T E : Type 0} (answer : Result T E) (line : Line) (count : ℕ) (s u : Scene) → line ≡ Tick count → OnOk answer (Does (AreTicks count) s u) → OnOk answer (Does (IsPlain line) s u)
ticks_as answer line count s u is done = subst (λ (l : Line). OnOk answer (Does (IsPlain l) s u)) (sym is) done

plain_as : (line : Line) (s u : Scene) → ((count : ℕ) → line ≡ Tick count → ⊥) → Does (Then (IsEffect line) IsPump) s u → Does (IsPlain line) s u
plain_as (Tick count) s u not done = absurd (not count refl)
plain_as line s u not done = done

pub plain_done : {T E : Type 0} (answer : Result T E) (line : Line) (s t u : Scene) → ((count : ℕ) → line ≡ Tick count → ⊥) → Does (IsEffect line) s t → OnOk answer (Does IsPump t u) → OnOk answer (Does (IsPlain line) s u)
plain_done (Ok value) line s t u not first later = plain_as line s u not (did_then (IsEffect line) IsPump s t u first later)
plain_done (Err fault) line s t u not first later = tt

pub plain_stops : {T E : Type 0} (answer : Result T E) (line : Line) (s t u : Scene) → Does (IsEffect line) s t → OnErr answer (Stops t u) → OnErr answer (Stops s u)
plain_stops (Ok value) line s t u first later = tt
plain_stops (Err fault) line s t u first later = stopped_then (IsEffect line) s t u first later

pub line_as : {T E : Type 0} (answer : Result T E) (line : ReplayLine) (plain : Line) (s u : Scene) → line ≡ Plain plain → OnOk answer (Does (IsPlain plain) s u) → OnOk answer (Does (IsLine line) s u)
line_as answer line plain s u is done = subst (λ (l : ReplayLine). OnOk answer (Does (IsLine l) s u)) (sym is) done

pub chip_done : {T E : Type 0} (answer : Result T E) (line : ReplayLine) (bytes : List ℕ) (s t u : Scene) → line ≡ Chip bytes → Does (IsTaking bytes) s t → OnOk answer (Does IsPump t u) → OnOk answer (Does (IsLine line) s u)
chip_done (Ok value) line bytes s t u is first later = subst (λ (l : ReplayLine). Does (IsLine l) s u) (sym is) (did_then (IsTaking bytes) IsPump s t u first later)
chip_done (Err fault) line bytes s t u is first later = tt

pub chip_stops : {T E : Type 0} (answer : Result T E) (bytes : List ℕ) (s t u : Scene) → Does (IsTaking bytes) s t → OnErr answer (Stops t u) → OnErr answer (Stops s u)
chip_stops (Ok value) bytes s t u first later = tt
chip_stops (Err fault) bytes s t u first later = stopped_then (IsTaking bytes) s t u first later

-- ---- which lines there are

-- what is read is a line of `replay`
pub replayed : (text : List ℕ) (line : ReplayLine) → ReplayText text line → IsReplayed line
replayed text (Plain line) stands = stands.1
replayed text (Chip bytes) stands = tt

pub plain_is : (line : ReplayLine) (plain : Line) → line ≡ Plain plain → IsReplayed line → IsReplayed (Plain plain)
plain_is line plain is stands = subst IsReplayed is stands

abbrev So : Bool → Type 0
So true = Unit {0}
So false = ⊥

-- no other line is one
pub no_other : (line : Line) → IsReplayed (Plain line) → ((count : ℕ) → line ≡ Tick count → ⊥)
    → ((order : Order) → line ≡ Command order → ⊥)
    → ((node : ℕ) (word : Word) → line ≡ Send node word → ⊥)
    → ((node end : ℕ) → line ≡ Get node end → ⊥)
    → ((node : ℕ) → line ≡ Interview node → ⊥)
    → ((node : ℕ) → line ≡ Join node → ⊥)
    → ((command : ℕ) → line ≡ Cancel command → ⊥)
    → ((node : ℕ) → line ≡ Neighbours node → ⊥)
    → ((node : ℕ) → line ≡ Failed node → ⊥)
    → (line ≡ Probe → ⊥)
    → ((node : ℕ) → line ≡ Store node → ⊥)
    → ⊥
no_other (Tick count) stands not n0 n1 n2 n3 n4 n5 n6 n7 n8 n9 = not count refl
no_other (Command order) stands not n0 n1 n2 n3 n4 n5 n6 n7 n8 n9 = n0 order refl
no_other (Send node word) stands not n0 n1 n2 n3 n4 n5 n6 n7 n8 n9 = n1 node word refl
no_other (Get node end) stands not n0 n1 n2 n3 n4 n5 n6 n7 n8 n9 = n2 node end refl
no_other (Interview node) stands not n0 n1 n2 n3 n4 n5 n6 n7 n8 n9 = n3 node refl
no_other (Join node) stands not n0 n1 n2 n3 n4 n5 n6 n7 n8 n9 = n4 node refl
no_other (Cancel command) stands not n0 n1 n2 n3 n4 n5 n6 n7 n8 n9 = n5 command refl
no_other (Neighbours node) stands not n0 n1 n2 n3 n4 n5 n6 n7 n8 n9 = n6 node refl
no_other (Failed node) stands not n0 n1 n2 n3 n4 n5 n6 n7 n8 n9 = n7 node refl
no_other Probe stands not n0 n1 n2 n3 n4 n5 n6 n7 n8 n9 = n8 refl
no_other (Store node) stands not n0 n1 n2 n3 n4 n5 n6 n7 n8 n9 = n9 node refl
no_other line stands not n0 n1 n2 n3 n4 n5 n6 n7 n8 n9 = subst So (sym stands) tt
