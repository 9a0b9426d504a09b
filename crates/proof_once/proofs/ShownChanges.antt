-- A session that ended with success is shown to have changed its device.
use Rattle.std.proofs.Common.{◌≡◌, ℕ, zero, suc, false, List, [], ◌∷◌, ◌++◌, length, map, All, Option, Some, inl, inr, refl, sym, ap, subst, ◌∙◌, arith}
use Rattle.std.specs.List.{AllByRecursion, flat_map}
use Rattle.std.proofs.lemmas.Grind.{flat_map-append}
use Rattle.std.proofs.lemmas.List.Elements.{recursion_from_All}
use Rattle.zw_base.specs.declared.property.By.{By}
use Rattle.zw_base.specs.declared.property.By.TheVariants.{Session}
use Rattle.zw_base.specs.declared.property.Setting.{Setting}
use Rattle.zw_base.specs.declared.order.What.{What}
use Rattle.zw_base.specs.declared.order.What.TheVariants as what
use Rattle.zw_base.specs.declared.order.Order.{Order}
use Rattle.supervision.specs.Host.{command_at as session_at}
use Rattle.supervision.specs.declared.session.TheConstants.{SUCCESS}
use Rattle.supervision.proofs.OnceLemmas.{All-slice_get}
use Rattle.device_kinds.specs.declared.change.Change.{Change}
use Rattle.proof_messages.specs.device_sim.State.{State}
use Rattle.proof_messages.specs.Ending.{HasEnded}
use Rattle.proof_device.specs.Showing.{IsShownAmong}
use Rattle.zw_text.specs.declared.entry.Entry.{Entry}
use Rattle.zw_text.specs.Transcript.{Made, applied, by_session, made, made_at}
use Rattle.zw_text.proofs.Views.{shown-append}
use Rattle.proof_host.specs.law_transcript.Devices.{made_by}
use Rattle.proof_host.specs.law_transcript.Lists.{Has}
use Rattle.proof_host.specs.law_transcript.Once.{carried_by, commands_shown, sessions_by}
use Rattle.host_orders.specs.Refusals.{is_bad, is_bad_bulk}
use Rattle.host_orders.specs.Settings.{config_settings, settings, settings_by}
use Rattle.host_orders.specs.declared.actuator.Actuator.{Actuator}
use Rattle.host_orders.specs.declared.actuator.Actuator.TheVariants.{Binary, Multilevel, Lock}
use Rattle.host_node.specs.TableState.{node_of}
use Rattle.proof_host.specs.host_model.State.{HostState, Command, command_at}
use Rattle.proof_host.specs.host_model.Facts.{IsCommandOf, IsSound}
use Rattle.proof_host.specs.Facts.{Facts}
use Rattle.proof_host.specs.Tables.{taken_at, taken_by}
use Rattle.proof_once.specs.Tied.{MakesWhatIsTaken, settings_taken}
use Rattle.proof_host.proofs.Having.{all_has, has_left, has_shown}
use Rattle.proof_device.proofs.Once.{numbers_are}
use Rattle.proof_once.proofs.CommandsOfSessions.{carried_has, has_change, session_has}
use Rattle.proof_once.proofs.Successes.{success_has}

-- ---- an order sets something

-- an item is there
pub record IsSome {A : Type 0} (xs : List A) : Type 0 where
  pub item : A
  pub among : Has xs item

abbrev at_first : {A : Type 0} (x : A) (xs : List A) → IsSome (x ∷ xs)
at_first x xs = record { item = x; among = inl refl }

bulk_sets : (end offset : ℕ) (values : List ℕ) → is_bad_bulk offset (length values) ≡ false → IsSome (config_settings end offset values)
bulk_sets end offset [] fit = absurd (grind arith)
bulk_sets end offset (value ∷ more) fit = at_first _ _

order_sets : (actuator : Actuator) (order : Order) → is_bad actuator order.what ≡ false → IsSome (settings actuator order)
order_sets actuator order fit = by actuator order.end order.what fit
  where
    by : (a : Actuator) (end : ℕ) (w : What) → is_bad a w ≡ false → IsSome (settings_by a end w)
    by Binary end (what.Value word) fit = at_first _ _
    by Multilevel end (what.Value word) fit = at_first _ _
    by Lock end (what.Value word) fit = at_first _ _
    by a end (what.Mode mode) fit = at_first _ _
    by a end (what.Setpoint kind tenths) fit = at_first _ _
    by a end (what.Config parameter value) fit = at_first _ _
    by a end (what.Bulk offset values) fit = bulk_sets end offset values fit
    by a end (what.Associate group member) fit = at_first _ _
    by a end (what.Dissociate group member) fit = at_first _ _
    by a end (what.Interval seconds) fit = at_first _ _
    by a end (what.Comfort mode kind tenths) fit = at_first _ _

sound_at : (h : HostState) (number : ℕ) (command : Command) → All (IsSound h.store) h.commands → command_at h.commands number ≡ Some command → IsSound h.store command
sound_at h zero command all found = absurd (grind arith)
sound_at h (suc before) command all found = All-slice_get (IsSound h.store) h.commands before command all found

command_sets : (h : HostState) (n number : ℕ) → All (IsSound h.store) h.commands → IsCommandOf h.commands n number → IsSome (settings_taken (taken_at h.commands number))
command_sets h n number all one =
    subst (λ (o : Option Command). IsSome (settings_taken (taken_by o))) (sym one.found)
    (order_sets one.command.carriage.actuator one.command.order (sound_at h number one.command all one.found).fit.good)

-- ---- a change that sets something is shown

-- a setting that one made
abbrev made_of : By → Setting → Made
made_of by setting = record { by = by; setting = setting }

made_has : (sets : List Setting) (by : By) (setting : Setting) → Has sets setting → Has (map (made_of by) sets) (made_of by setting)
made_has [] by setting has = absurd has
made_has (first ∷ sets) by setting (inl e) = inl (ap (made_of by) e)
made_has (first ∷ sets) by setting (inr has) = inr (made_has sets by setting has)

change_shown : (past : List Entry) (device : State) (change : Change) (session : ℕ) → IsShownAmong past device → Has device.journal change → change.by ≡ Session session → IsSome change.settings
    → Has (applied device.node past) session
change_shown past device change session shown among is some =
    let one = made_of change.by some.item in
    let entered : Has (made device.node past) one
    = shown one (has_shown made_by device.journal change one among (made_has change.settings change.by some.item some.among)) in
    has_shown (λ (made : Made). by_session made.by) (made device.node past) one session entered (subst (λ (b : By). Has (by_session b) session) (sym is) (inl refl))

-- and stays so
applied_more : (past more : List Entry) (node session : ℕ) → Has (applied node past) session → Has (applied node (past ++ more)) session
applied_more past more node session has =
    subst (λ (l : List ℕ). Has l session)
    (sym (ap (λ (l : List Made). flat_map (λ (made : Made). by_session made.by) l) (shown-append (made_at node) past more)
    ∙ flat_map-append (λ (made : Made). by_session made.by) (made node past) (made node more)))
    (has_left (applied node past) (applied node more) session has)

module _ (past more : List Entry) (h : HostState) (device : State) (finals : List ℕ) (session number : ℕ) (facts : Facts (past ++ more) h) (shown : IsShownAmong past device) (ended : HasEnded device finals)
    (all : AllByRecursion (MakesWhatIsTaken h.commands (node_of h.nodes device.node).book.commands) device.journal)
    (at : session_at (node_of h.nodes device.node).book.commands session ≡ Some number) (success : session_at finals session ≡ Some SUCCESS) where
  pub ending_shown : Has (commands_shown device.node (past ++ more)) number
  ending_shown =
      let begun = (node_of h.nodes device.node).book.commands in
      let by_it : Has (sessions_by device.journal) session
      = subst (λ (l : List ℕ). Has l session) (sym ended.changed ∙ numbers_are device.journal) (success_has finals session success) in
      let one = has_change device.journal session by_it in
      let listed : Has (by_session one.change.by) session = subst (λ (b : By). Has (by_session b) session) (sym one.is) (inl refl) in
      let same : one.change.settings ≡ settings_taken (taken_at h.commands number)
      = all_has (λ k. one.change.settings ≡ settings_taken (taken_at h.commands k)) (carried_by begun (by_session one.change.by)) number
      (all_has (MakesWhatIsTaken h.commands begun) device.journal one.change all one.among) (carried_has begun (by_session one.change.by) session number listed at) in
      let of_node = all_has (IsCommandOf h.commands device.node) begun number (recursion_from_All (IsCommandOf h.commands device.node) begun (facts.host.owns device.node).sessions)
      (session_has begun session number at) in
      let some : IsSome one.change.settings = subst (λ (l : List Setting). IsSome l) (sym same) (command_sets h device.node number facts.host.commands of_node) in
      let shown_by = applied_more past more device.node session (change_shown past device one.change session shown one.among one.is some) in
      subst (λ (l : List ℕ). Has (carried_by l (applied device.node (past ++ more))) number) (sym (facts.begun device.node))
      (carried_has begun (applied device.node (past ++ more)) session number shown_by at)
