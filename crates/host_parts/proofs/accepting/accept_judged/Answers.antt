use Rattle.std.proofs.Common.{◌≡◌, ◌⊎◌, ◌≤◌, ◌<◌, ◌+◌, ◌++◌, ◌∷◌, [], ℕ, List, length, ap, ◌∙◌, subst}
use Rattle.std.proofs.lemmas.Result.{err_from_is_err_and}
use Rattle.zw_base.specs.declared.property.Property.{Property}
use Rattle.value_store.specs.Values.{count_with, releasing, reserving}
use Rattle.host_node.specs.State.{NodeState}
use Rattle.host_node.specs.Events.NodeEvent.{Puts, Takes_back, Accepts as node_accepts}
use Rattle.host_node.specs.TableState.{node_of, nodes_after}
use Rattle.host_orders.specs.Settings.{settings, properties_of}
use Rattle.host_orders.specs.declared.carriage.Carriage.{Carriage}
use Rattle.host_orders.specs.declared.refused.Refused.TheVariants.{NoMemory, StoreFull}
use Rattle.host_model.specs.State.{HostState, Command}
use Rattle.host_model.specs.May.{known_of}
use Rattle.host_model.proofs.Accepted.{accepted_has_place}
use Rattle.host_model.specs.Asking.{carriage_for}
use Rattle.zw_base.proofs.Results.{on_err}
use Rattle.host_parts.proofs.Judged.{taken, taken_back, released, may_be_accepted, taken_command, accepted_state, same_parts, judged_by_store, judged_by_keeper}
use Rattle.host_parts.proofs.accepting.accept_judged.Goals as goal

pub prepare-requires-clause-waiting : goal.prepare-requires-clause-waiting
prepare-requires-clause-waiting g c = accepted_has_place (known_of (node_of c.args.nodes.now c.args.order.now.node)) c.args.order.now c.requires.unrefused

pub returns-in_err-copy-clause-judges : goal.returns-in_err-copy-clause-judges
returns-in_err-copy-clause-judges g c = λ (h : HostState).
    let refused = err_from_is_err_and c.from_residual.result c.from_residual.ensures.1 in
    rw (refused.1, refused.2)
    (judged_by_store (record h { nodes = c.args.nodes.now; commands = c.args.commands.now.items; store = c.args.store.now }) c.args.order.now c.args.judged.now.carriage c.in_err-copy.field-0.0 c.requires.unrefused c.requires.carried
    (subst (λ (ps : List Property). (c.in_err-copy.field-0.0 ≡ NoMemory) ⊎ ((c.in_err-copy.field-0.0 ≡ StoreFull 512) × (512 < count_with c.args.store.now c.args.order.now.node ps))) c.requires.properties c.in_err-copy.ensures.judges))

pub returns-in_err-copy-clause-err : goal.returns-in_err-copy-clause-err
returns-in_err-copy-clause-err g c = λ (h : HostState).
    on_err c.from_residual.result
    (same_parts h c.prepare.new.nodes c.args.nodes.now c.prepare.new.commands.items c.args.commands.now.items c.prepare.new.store c.args.store.now c.in_err-copy.ensures.err.0 c.prepare.ensures.commands c.in_err-copy.ensures.err.1)

pub returns-in-Err-clause-judges : goal.returns-in-Err-clause-judges
returns-in-Err-clause-judges g c = λ (h : HostState).
    let few : count_with c.args.store.now c.args.order.now.node (properties_of (settings c.args.judged.now.carriage.actuator c.args.order.now)) ≤ 512
    = subst (λ (ps : List Property). count_with c.args.store.now c.args.order.now.node ps ≤ 512) c.requires.properties c.in_ok-copy.ensures.few in
    let k : HostState = record h { nodes = c.args.nodes.now; commands = c.args.commands.now.items; store = c.args.store.now } in
    judged_by_keeper k c.args.order.now c.in-Err.fault (taken k c.args.order.now c.args.judged.now.carriage c.requires.unrefused c.requires.carried few) c.in-Err.ensures.faults

pub returns-in-Err-clause-err : goal.returns-in-Err-clause-err
returns-in-Err-clause-err g c = λ (h : HostState).
    let n = c.args.order.now.node in
    let nodes : c.take_back.new.nodes ≡ c.args.nodes.now
    = c.take_back.ensures.nodes ∙ ap (λ (ns : List NodeState). nodes_after ns n Takes_back) c.in_ok-copy.ensures.nodes ∙ taken_back c.what_is_taken_back_is_undone.ensures c.args.nodes.now n c.args.judged.now.number in
    let release = c.take_back.ensures.store ∙ ap (λ (ps : List Property). releasing c.prepare.new.store n ps) c.as_slice.ensures in
    let store : c.take_back.new.store ≡ c.args.store.now
    = released c.what_is_released_is_undone.ensures c.args.store.now c.prepare.new.store c.take_back.new.store n c.args.judged.now.properties.items c.args.judged.now.missing.items
    c.in_ok-copy.ensures.store c.requires.missing release in
    same_parts h c.take_back.new.nodes c.args.nodes.now c.prepare.new.commands.items c.args.commands.now.items c.take_back.new.store c.args.store.now nodes c.prepare.ensures.commands store

pub returns-clause-judges : goal.returns-clause-judges
returns-clause-judges g c = λ (h : HostState).
    let few : count_with c.args.store.now c.args.order.now.node (properties_of (settings c.args.judged.now.carriage.actuator c.args.order.now)) ≤ 512
    = subst (λ (ps : List Property). count_with c.args.store.now c.args.order.now.node ps ≤ 512) c.requires.properties c.in_ok-copy.ensures.few in
    taken (record h { nodes = c.args.nodes.now; commands = c.args.commands.now.items; store = c.args.store.now }) c.args.order.now c.args.judged.now.carriage c.requires.unrefused c.requires.carried few

pub returns-clause-may : goal.returns-clause-may
returns-clause-may g c = λ (h : HostState).
    let few : count_with c.args.store.now c.args.order.now.node (properties_of (settings c.args.judged.now.carriage.actuator c.args.order.now)) ≤ 512
    = subst (λ (ps : List Property). count_with c.args.store.now c.args.order.now.node ps ≤ 512) c.requires.properties c.in_ok-copy.ensures.few in
    may_be_accepted (record h { nodes = c.args.nodes.now; commands = c.args.commands.now.items; store = c.args.store.now }) c.args.order.now c.args.judged.now.carriage c.requires.unrefused c.requires.carried few

pub returns-clause-state : goal.returns-clause-state
returns-clause-state g c = λ (h : HostState).
    let k : HostState = record h { nodes = c.args.nodes.now; commands = c.args.commands.now.items; store = c.args.store.now } in
    let order = c.args.order.now in
    let nodes : c.accept.new.self ≡ nodes_after (nodes_after c.args.nodes.now order.node (Puts (length c.args.commands.now.items + 1))) order.node node_accepts
    = c.accept.ensures ∙ ap (λ (ns : List NodeState). nodes_after ns order.node node_accepts) (c.in_ok-copy.ensures.nodes ∙ ap (λ (j : ℕ). nodes_after c.args.nodes.now order.node (Puts j)) c.requires.number) in
    let one : c.new.result ≡ taken_command order (carriage_for k order)
    = c.new.ensures ∙ ap (λ (o : _). taken_command o c.args.judged.now.carriage) c.in_ok-copy.ensures.copy ∙ ap (λ (j : Carriage). taken_command order j) c.requires.carried in
    let commands : c.push_reserved.new.self.items ≡ c.args.commands.now.items ++ taken_command order (carriage_for k order) ∷ []
    = c.push_reserved.ensures.items ∙ ap (λ (cs : List Command). cs ++ c.new.result ∷ []) c.prepare.ensures.commands ∙ ap (λ (j : Command). c.args.commands.now.items ++ j ∷ []) one in
    let store : c.prepare.new.store ≡ reserving c.args.store.now order.node (properties_of (settings (carriage_for k order).actuator order))
    = c.in_ok-copy.ensures.store ∙ ap (λ (ps : List Property). reserving c.args.store.now order.node ps) (c.requires.properties ∙ ap (λ (j : Carriage). properties_of (settings j.actuator order)) c.requires.carried) in
    accepted_state k order (carriage_for k order) c.accept.new.self c.push_reserved.new.self.items c.prepare.new.store nodes commands store
