-- What a call did to the parts of a host, or left as it was, seen from the whole.
use Rattle.std.proofs.Common.{◌≡◌, ◌++◌, List, sym, ap, ◌∙◌, subst}
use Rattle.std.specs.Prelude.{Result, Ok, Err, OnOk, OnErr}
use Rattle.zw_base.specs.declared.order.Order.{Order}
use Rattle.serial_frame.specs.Stream.{Rest, after_tick}
use Rattle.host_requests.specs.Events.{May as request_may}
use Rattle.host_requests.specs.State.{RequestsState}
use Rattle.host_model.specs.State.{HostState, HostParts}
use Rattle.host_model.specs.Events.{HostEvent, Accepts, Line_ticks}
use Rattle.host_model.specs.After.{after}
use Rattle.host_model.specs.Outs.{outs}
use Rattle.host_model.specs.May.{May}
use Rattle.host_model.specs.Asking.{carriage_for}
use Rattle.host_model.specs.Facts.{HostFacts}
use Rattle.host_model.specs.declared.out.HostOut.{HostOut}
use Rattle.host_parts.specs.Heard.{heard_as}
use Rattle.host_parts.specs.declared.hearing.Heard.{Heard}
use Rattle.host_parts.specs.declared.hearing.Heard.TheVariants.{Sent, Failed, Responded, CalledBack, Updated, Ticked}
use Rattle.host_step.proofs.Kept.{Keeps, whole_is}

-- the host has its facts then
pub facts_hold : {A E : Type 0} (r : Result A E) (h new : HostState) (e : HostEvent) → Keeps → HostFacts h → OnOk r (May h e) → OnOk r (new ≡ after h e) → OnErr r (new ≡ h) → HostFacts new
facts_hold (Ok value) h new e keeps facts may done stayed = subst (λ (s : HostState). HostFacts s) (sym done) (keeps h e facts may)
facts_hold (Err fault) h new e keeps facts may done stayed = subst (λ (s : HostState). HostFacts s) (sym stayed) facts

pub always : {A E : Type 0} (r : Result A E) (P : Type 0) → P → OnOk r P
always (Ok value) P holds = holds
always (Err fault) P holds = tt

pub host_stayed : {A E : Type 0} (r : Result A E) (P Q : Type 0) → OnErr r (P × Q) → OnErr r P
host_stayed (Ok value) P Q both = tt
host_stayed (Err fault) P Q both = both.0

-- what may happen to it may happen to what its fields say
pub may_here : (mine was : HostParts) (e : HostEvent) → mine ≡ was → May was.state e → May mine.state e
may_here mine was e view may = subst (λ (s : HostParts). May s.state e) (sym view) may

-- what is heard comes at any time
pub heard_may : (s : RequestsState) (heard : Heard) → request_may s (heard_as heard)
heard_may s Sent = tt
heard_may s Failed = tt
heard_may s (Responded response) = tt
heard_may s (CalledBack id status) = tt
heard_may s (Updated update) = tt
heard_may s Ticked = tt

-- the clauses of a call that did it
pub state_done : {A E : Type 0} (r : Result A E) (mine was : HostParts) (new : HostState) (e : HostEvent) → mine ≡ was → OnOk r (new ≡ after mine.state e)
    → OnOk r (let p : HostParts = record mine { state = new } in p ≡ record was { state = after was.state e })
state_done (Ok value) mine was new e view done = whole_is mine was new e view done
state_done (Err fault) mine was new e view done = tt

pub outs_done : {A E : Type 0} (r : Result A E) (mine was : HostParts) (e : HostEvent) (before all : List HostOut) → mine ≡ was → OnOk r (all ≡ before ++ outs mine.state e) → OnOk r (all ≡ before ++ outs was.state e)
outs_done (Ok value) mine was e before all view done = subst (λ (s : HostParts). all ≡ before ++ outs s.state e) view done
outs_done (Err fault) mine was e before all view done = tt

pub nothing_done : {A E : Type 0} (r : Result A E) (mine was : HostParts) (new : HostState) (before all : List HostOut) → mine ≡ was → OnErr r ((new ≡ mine.state) × (all ≡ before))
    → OnErr r ((let p : HostParts = record mine { state = new } in p ≡ was) × (all ≡ before))
nothing_done (Ok value) mine was new before all view stayed = tt
nothing_done (Err fault) mine was new before all view stayed = (ap (λ (s : HostState). let p : HostParts = record mine { state = s } in p) stayed.0 ∙ view, stayed.1)

-- and of the tick of the line, which changes what is unfinished too
pub line_done : {A E : Type 0} (r : Result A E) (mine was new : HostParts) → mine ≡ was → OnOk r (new.decoder ≡ after_tick mine.decoder) → OnOk r (new.state ≡ after mine.state Line_ticks)
    → OnOk r (let p : HostParts = record { decoder = after_tick was.decoder; state = after was.state Line_ticks } in new ≡ p)
line_done (Ok value) mine was new view decoder state =
    ap (λ (d : Rest). let p : HostParts = record { decoder = d; state = new.state } in p) decoder
    ∙ ap (λ (s : HostState). let p : HostParts = record { decoder = after_tick mine.decoder; state = s } in p) state
    ∙ ap (λ (x : HostParts). let p : HostParts = record { decoder = after_tick x.decoder; state = after x.state Line_ticks } in p) view
line_done (Err fault) mine was new view decoder state = tt

pub line_stayed : {A E : Type 0} (r : Result A E) (mine was new : HostParts) (before all : List HostOut) → mine ≡ was → OnErr r (new.decoder ≡ mine.decoder) → OnErr r ((new.state ≡ mine.state) × (all ≡ before))
    → OnErr r ((new ≡ was) × (all ≡ before))
line_stayed (Ok value) mine was new before all view decoder stayed = tt
line_stayed (Err fault) mine was new before all view decoder stayed = (
  ap (λ (d : Rest). let p : HostParts = record { decoder = d; state = new.state } in p) decoder ∙ ap (λ (s : HostState). let p : HostParts = record { decoder = mine.decoder; state = s } in p) stayed.0 ∙ view,
  stayed.1,
)

-- an order that was accepted, or not
pub accepted_whole : {A E : Type 0} (r : Result A E) (mine was : HostParts) (new : HostState) (order : Order) → mine ≡ was → OnOk r (new ≡ after mine.state (Accepts order (carriage_for mine.state order)))
    → OnOk r (let p : HostParts = record mine { state = new } in p ≡ record was { state = after was.state (Accepts order (carriage_for was.state order)) })
accepted_whole (Ok value) mine was new order view done =
    ap (λ (s : HostState). let p : HostParts = record mine { state = s } in p) done
    ∙ ap (λ (x : HostParts). let p : HostParts = record x { state = after x.state (Accepts order (carriage_for x.state order)) } in p) view
accepted_whole (Err fault) mine was new order view done = tt

pub refused_whole : {A E : Type 0} (r : Result A E) (mine was : HostParts) (new : HostState) → mine ≡ was → OnErr r (new ≡ mine.state) → OnErr r (let p : HostParts = record mine { state = new } in p ≡ was)
refused_whole (Ok value) mine was new view stayed = tt
refused_whole (Err fault) mine was new view stayed = ap (λ (s : HostState). let p : HostParts = record mine { state = s } in p) stayed ∙ view
