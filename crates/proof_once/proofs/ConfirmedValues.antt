-- The confirmed value of a property is the device's, where the last change of it is by a session whose command is reported successful.
use Rattle.std.proofs.Common.{◌≡◌, ℕ, ◌<◌, Bool, true, false, if◌then◌else◌, List, [], ◌∷◌, ◌++◌, Option, Some, None, inl, inr, refl, sym, ap, subst, ◌∙◌}
use Rattle.std.specs.List.{AllByRecursion, flat_map}
use Rattle.zw_base.proofs.Each.{all-right}
use Rattle.zw_base.specs.declared.property.By.{By}
use Rattle.zw_base.specs.declared.property.By.TheVariants.{Session, Plain, Local}
use Rattle.zw_base.specs.declared.property.Property.{Property}
use Rattle.zw_base.specs.declared.property.Setting.{Setting}
use Rattle.zw_base.specs.declared.order.Order.{Order}
use Rattle.supervision.specs.Host.{command_at as session_at}
use Rattle.device_kinds.specs.declared.change.Change.{Change}
use Rattle.proof_messages.specs.device_stack.State.{State, value_of}
use Rattle.zw_text.specs.declared.entry.Entry.{Entry}
use Rattle.zw_text.specs.declared.entry.Outcome.{Outcome}
use Rattle.zw_text.specs.declared.entry.Outcome.TheVariants.{Success}
use Rattle.zw_text.specs.Transcript.{by_session, outcome, sessions}
use Rattle.proof_host.specs.law_transcript.Lists.{Has, Rises, listed}
use Rattle.proof_host.specs.law_transcript.Once.{carried_by, sessions_by}
use Rattle.proof_host.specs.law_transcript.Values.{is_success, last_command, last_given, last_setter, sets}
use Rattle.value_store.specs.Values.{stored_of}
use Rattle.host_orders.specs.Settings.{settings}
use Rattle.host_orders.specs.declared.actuator.Actuator.{Actuator}
use Rattle.host_keep.specs.Kept.{Taken, value_among, value_by as value_taken}
use Rattle.host_node.specs.TableState.{node_of}
use Rattle.proof_host.specs.host_model.State.{HostState}
use Rattle.proof_host.specs.Facts.{AreShown, Facts}
use Rattle.proof_host.specs.Stores.{AreSorted, StoresLaw, given_by}
use Rattle.proof_host.specs.Tables.{taken_at}
use Rattle.proof_once.specs.Tied.{IsTied, MakesWhatIsTaken, settings_taken}
use Rattle.proof_once.specs.ByTable.{ConfirmsByTable}
use Rattle.proof_host.proofs.Having.{above_after, all_has, all_of}
use Rattle.proof_once.proofs.CommandsOfSessions.{carried_has, has_carried, has_change, sessions_by-append}
use Rattle.proof_once.proofs.Successes.{successes_rise}
use Rattle.proof_once.proofs.Once.{changed, succeeded, success_in}
use Rattle.proof_once.proofs.SettingValues.{IsLast, last_given_at, last_gives, last_is, not_given}

-- ---- settings of orders

pub value_settings : (taken : Option Taken) (property : Property) → value_taken taken property ≡ value_among (settings_taken taken) property
value_settings None property = refl
value_settings (Some taken) property = refl

taken_sorted : ((actuator : Actuator) (order : Order) → AreSorted (settings actuator order)) → (taken : Option Taken) → AreSorted (settings_taken taken)
taken_sorted sorted None = tt
taken_sorted sorted (Some taken) = sorted taken.carriage.actuator taken.order

-- a command that did not succeed gives nothing
gives_or : (b : Bool) (value : Option ℕ) → (b ≡ true → value ≡ None) → (if b then value else None) ≡ None
gives_or true value none = none refl
gives_or false value none = refl

succeeds : (o : Outcome) → is_success o ≡ true → o ≡ Success
succeeds o e = by o e
  where
    by : (o : Outcome) → is_success o ≡ true → o ≡ Success
    by Success e = refl
    by _ e = cc

-- what made the last change, where it was a session
setter_listed : (o : Option By) (session : ℕ) → Has (flat_map by_session (listed o)) session → o ≡ Some (Session session)
setter_listed None session has = absurd has
setter_listed (Some (Session number)) session (inl e) = ap (λ (k : ℕ). Some (Session k)) e
setter_listed (Some (Session number)) session (inr has) = absurd has
setter_listed (Some Plain) session has = absurd has
setter_listed (Some Local) session has = absurd has

module _ (past : List Entry) (h : HostState) (node : ℕ) (device : State) (finals told : List ℕ) (facts : Facts past h) (tables : AreShown past h) (stores : StoresLaw past h)
    (sorted : (actuator : Actuator) (order : Order) → AreSorted (settings actuator order)) (tied : IsTied h.commands (node_of h.nodes node).book device finals told) where
  abbrev begun_here : List ℕ
  begun_here = (node_of h.nodes node).book.commands

  -- a change by a session makes what its command asks for
  makes : (changes : List Change) → AllByRecursion (MakesWhatIsTaken h.commands begun_here) changes → (change : Change) (session number : ℕ) → Has changes change
      → change.by ≡ Session session → session_at begun_here session ≡ Some number → change.settings ≡ settings_taken (taken_at h.commands number)
  makes changes all change session number has is at =
      let made = all_has (MakesWhatIsTaken h.commands begun_here) changes change all has in
      let by : Has (by_session change.by) session = subst (λ (b : By). Has (by_session b) session) (sym is) (inl refl) in
      all_has (λ k. change.settings ≡ settings_taken (taken_at h.commands k)) (carried_by begun_here (by_session change.by)) number made
      (carried_has begun_here (by_session change.by) session number by at)

  module _ (property : Property) (session number : ℕ) (at : session_at begun_here session ≡ Some number) (success : outcome number past ≡ Success)
      (last : IsLast device.journal property (Session session)) where
    abbrev gives : ℕ → Option ℕ
    gives = given_by h.commands (λ k. outcome k past) property

    parted : sessions_by device.journal ≡ sessions_by last.prefix ++ session ∷ sessions_by last.later
    parted =
        ap sessions_by last.is ∙ sessions_by-append last.prefix (last.change ∷ last.later)
        ∙ ap (λ (b : By). sessions_by last.prefix ++ (by_session b ++ sessions_by last.later)) last.made

    all_later : AllByRecursion (MakesWhatIsTaken h.commands begun_here) last.later
    all_later =
        (all-right (MakesWhatIsTaken h.commands begun_here) last.prefix (last.change ∷ last.later)
        (subst (λ (l : List Change). AllByRecursion (MakesWhatIsTaken h.commands begun_here) l) last.is tied.made)).1

    -- later sessions give the property nothing
    later_none : (later other : ℕ) → session < later → session_at begun_here later ≡ Some other → gives other ≡ None
    later_none later other more found =
        gives_or (is_success (outcome other past)) (value_taken (taken_at h.commands other) property) (λ is.
        let done = succeeded h.commands (node_of h.nodes node) (facts.in_order node) device finals told tied later other found
        (success_in past h other tables (succeeds (outcome other past) is)) in
        let rise : Rises (sessions_by device.journal)
        = subst Rises (sym (changed h.commands (node_of h.nodes node) (facts.in_order node) device finals told tied)) (successes_rise 1 finals) in
        let following = above_after (sessions_by last.prefix) session (sessions_by last.later) later (subst Rises parted rise)
        (subst (λ (l : List ℕ). Has l later) parted done) more in
        let one = has_change last.later later following in
        let same = makes last.later all_later one.change later other one.among one.is found in
        value_settings (taken_at h.commands other) property
        ∙ ap (λ (l : List Setting). value_among l property) (sym same)
        ∙ not_given one.change.settings property (all_has (λ c. sets c property ≡ false) last.later one.change last.none one.among))

    here : gives number ≡ Some (value_of device property)
    here =
        let among : Has device.journal last.change = subst (λ (l : List Change). Has l last.change) (sym last.is) (middle last.prefix last.change last.later) in
        let same = makes device.journal tied.made last.change session number among last.made at in
        let order : AreSorted last.change.settings = subst AreSorted (sym same) (taken_sorted sorted (taken_at h.commands number)) in
        ap (λ (o : Outcome). if is_success o then value_taken (taken_at h.commands number) property else None) success
        ∙ value_settings (taken_at h.commands number) property
        ∙ ap (λ (l : List Setting). value_among l property) (sym same)
        ∙ last_gives device.journal property (Session session) last order
      where
        middle : (prefix : List Change) (change : Change) (later : List Change) → Has (prefix ++ change ∷ later) change
        middle [] change later = inl refl
        middle (first ∷ prefix) change later = inr (middle prefix change later)

    is_confirmed : (stored_of h.store node property).confirmed ≡ Some (value_of device property)
    is_confirmed =
        stores.confirmed node property ∙ ap (λ (l : List ℕ). last_given gives l) (sym (tables.sessions_are node))
        ∙ last_given_at gives begun_here session number (value_of device property) at here later_none

  pub confirms : ConfirmsByTable node past h.store device
  confirms property =
      all_of (λ number. outcome number past ≡ Success → (stored_of h.store node property).confirmed ≡ Some (value_of device property))
      (last_command (sessions node past) device.journal property) (λ number has success.
      let one = has_carried (sessions node past) (flat_map by_session (listed (last_setter None device.journal property))) number has in
      let last = last_is device.journal property (Session one.session) (setter_listed (last_setter None device.journal property) one.session one.among) in
      is_confirmed property one.session number (subst (λ (l : List ℕ). session_at l one.session ≡ Some number) (sym (tables.sessions_are node)) one.at) success last)
