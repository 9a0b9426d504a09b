-- At each event of a host, the values of a success stand directly after it, by what its table has of the command.
use Rattle.std.proofs.Common.{◌≡◌, ℕ, Bool, true, false, List, [], ◌∷◌, ◌++◌, drop, Option, Some, refl, sym, ap, ap₂, subst, ◌∙◌}
use Rattle.std.specs.List.{AllByRecursion}
use Rattle.zw_base.proofs.Each.{all-append, all-weaker}
use Rattle.zw_base.specs.declared.property.Setting.{Setting}
use Rattle.zw_text.specs.declared.entry.Ended.TheVariants as ended
use Rattle.zw_text.specs.declared.entry.Entry.{Entry}
use Rattle.zw_text.specs.declared.entry.Entry.TheVariants.{Accepted, Begin, Out, Store}
use Rattle.zw_text.specs.Transcript.{shown}
use Rattle.zw_text.proofs.Views.{shown-append}
use Rattle.law_transcript.specs.Stores.{store_at}
use Rattle.host_keep.specs.Kept.{Taken}
use Rattle.host_keep.specs.declared.final_status.FinalStatus.TheVariants as final
use Rattle.host_node.specs.TableState.{node_of}
use Rattle.host_model.specs.State.{Command, HostState, command_at}
use Rattle.host_model.specs.Events.{HostEvent, Finishes, Interviews}
use Rattle.host_model.specs.After.{after, is_held}
use Rattle.host_model.specs.May.{May as MayHost}
use Rattle.host_model.specs.Outs.{held_entries, stored_entries}
use Rattle.host_model.specs.Sessions.{settings_with}
use Rattle.host_model.specs.Facts.{IsCommandOf}
use Rattle.proof_host.specs.Entries.{IsAside, entries_at}
use Rattle.proof_host.specs.Facts.{Facts}
use Rattle.proof_host.specs.Stores.{stores_at, stores_by}
use Rattle.proof_host.specs.Tables.{taken_at, taken_by}
use Rattle.proof_transcript.specs.proof_once.Tied.{KeepsOrders}
use Rattle.proof_transcript.proofs.RoutineNotes.{IsRoutine, event_routine}
use Rattle.proof_audit.specs.Tables.{IsToStore}
use Rattle.proof_host.proofs.Effects.{notes_noted as notes-noted}
use Rattle.proof_headline.proofs.Succeeding.{owned, routine_none}

-- ---- values in their place, by what each command asks for

abbrev pub due_step : (ℕ → List Entry) → List Entry → Entry → List Entry
due_step asks due (Out command ended.Success) = asks command
due_step asks due (Store node setting) = drop 1 due
due_step asks due _ = []

-- each of them stands where it is due, and in the end none is
abbrev pub AreInPlace : (ℕ → List Entry) → List Entry → List Entry → Type 0
AreInPlace asks due [] = due ≡ []
AreInPlace asks due (entry ∷ rest) = IsToStore due entry × AreInPlace asks (due_step asks due entry) rest

pub in-place-then : (asks : ℕ → List Entry) (due first later : List Entry) → AreInPlace asks due first → AreInPlace asks [] later → AreInPlace asks due (first ++ later)
in-place-then asks due [] later done next = subst (λ (l : List Entry). AreInPlace asks l later) (sym done) next
in-place-then asks due (entry ∷ first) later are next = (are.0, in-place-then asks (due_step asks due entry) first later are.1 next)

-- ---- entries that ask for no value and are none

abbrev IsNoSuccess : Entry → Type 0
IsNoSuccess (Out command ended.Success) = ⊥
IsNoSuccess _ = Unit {0}

abbrev pub IsCalm : Entry → Type 0
IsCalm (Out command ended.Success) = ⊥
IsCalm (Store node setting) = ⊥
IsCalm _ = Unit {0}

aside-calm : (entry : Entry) → IsAside entry → IsCalm entry
aside-calm (Accepted command node) aside = absurd aside
aside-calm (Begin node session command) aside = absurd aside
aside-calm (Out command how) aside = absurd aside
aside-calm (Store node setting) aside = absurd aside
aside-calm entry aside = tt

calm-stands : (entry : Entry) → IsCalm entry → IsToStore [] entry
calm-stands (Out command ended.Success) calm = absurd calm
calm-stands (Store node setting) calm = absurd calm
calm-stands entry calm = tt

calm-leaves : (asks : ℕ → List Entry) (entry : Entry) → IsCalm entry → due_step asks [] entry ≡ []
calm-leaves asks (Out command ended.Success) calm = absurd calm
calm-leaves asks (Store node setting) calm = absurd calm
calm-leaves asks entry calm = refl

all-calm : (asks : ℕ → List Entry) (entries : List Entry) → AllByRecursion IsCalm entries → AreInPlace asks [] entries
all-calm asks [] calm = refl
all-calm asks (entry ∷ entries) calm =
    (calm-stands entry calm.0, subst (λ (due : List Entry). AreInPlace asks due entries) (sym (calm-leaves asks entry calm.0)) (all-calm asks entries calm.1))

-- ---- the table

abbrev pub asks_by : List Command → ℕ → List Entry
asks_by commands number = stores_by (taken_at commands number)

-- the table has the commands that succeeded
abbrev pub IsInTable : List Command → Entry → Type 0
IsInTable commands (Out command ended.Success) = (taken : Taken) × (taken_at commands command ≡ Some taken)
IsInTable commands _ = Unit {0}

calm-in-table : (commands : List Command) (entry : Entry) → IsCalm entry → IsInTable commands entry
calm-in-table commands (Out command ended.Success) calm = absurd calm
calm-in-table commands entry calm = tt

stays-in-table : (old new : List Command) → KeepsOrders old new → (entry : Entry) → IsInTable old entry → IsInTable new entry
stays-in-table old new keeps (Out command ended.Success) is = (is.0, keeps command is.0 is.1)
stays-in-table old new keeps entry is = tt

same-step : (old new : List Command) → KeepsOrders old new → (due : List Entry) (entry : Entry) → IsInTable old entry → due_step (asks_by old) due entry ≡ due_step (asks_by new) due entry
same-step old new keeps due (Out command ended.Success) is = ap stores_by (is.1 ∙ sym (keeps command is.0 is.1))
same-step old new keeps due (Out command ended.Fail) is = refl
same-step old new keeps due (Out command ended.NoSupport) is = refl
same-step old new keeps due (Out command ended.Unanswered) is = refl
same-step old new keeps due (Out command ended.Cancelled) is = refl
same-step old new keeps due (Store node setting) is = refl
same-step old new keeps due entry is = refl

stays-in-place : (old new : List Command) → KeepsOrders old new → (due entries : List Entry) → AllByRecursion (IsInTable old) entries → AreInPlace (asks_by old) due entries → AreInPlace (asks_by new) due entries
stays-in-place old new keeps due [] known are = are
stays-in-place old new keeps due (entry ∷ entries) known are = (
  are.0,
  stays-in-place old new keeps (due_step (asks_by new) due entry) entries known.1
      (subst (λ (next : List Entry). AreInPlace (asks_by old) next entries) (same-step old new keeps due entry known.0) are.1),
)

-- all of these entries are in place, by this table
pub record IsStored (commands : List Command) (entries : List Entry) : Type 0 where
  pub known : AllByRecursion (IsInTable commands) entries
  pub are : AreInPlace (asks_by commands) [] entries

pub stored-on : (old new : List Command) (entries : List Entry) → KeepsOrders old new → IsStored old entries → IsStored new entries
stored-on old new entries keeps stored = record {
  known = all-weaker (IsInTable old) (IsInTable new) (stays-in-table old new keeps) entries stored.known;
  are = stays-in-place old new keeps [] entries stored.known stored.are;
}

pub stored-then : (commands : List Command) (first later : List Entry) → IsStored commands first → IsStored commands later → IsStored commands (first ++ later)
stored-then commands first later one other = record {
  known = all-append (IsInTable commands) first later one.known other.known;
  are = in-place-then (asks_by commands) [] first later one.are other.are;
}

stored-calm : (commands : List Command) (entries : List Entry) → AllByRecursion IsCalm entries → IsStored commands entries
stored-calm commands entries calm = record { known = all-weaker IsCalm (IsInTable commands) (calm-in-table commands) entries calm; are = all-calm (asks_by commands) entries calm }

pub stored-asides : (commands : List Command) (entries : List Entry) → AllByRecursion IsAside entries → IsStored commands entries
stored-asides commands entries asides = stored-calm commands entries (all-weaker IsAside IsCalm aside-calm entries asides)

-- ---- a success

values-in-place : (asks : ℕ → List Entry) (node : ℕ) (made : List Setting) (more : List Entry) → AllByRecursion IsCalm more → AreInPlace asks (stored_entries node made) (stored_entries node made ++ more)
values-in-place asks node [] more calm = all-calm asks more calm
values-in-place asks node (setting ∷ made) more calm = (refl, values-in-place asks node made more calm)

values-known : (commands : List Command) (node : ℕ) (made : List Setting) (more : List Entry) → AllByRecursion IsCalm more → AllByRecursion (IsInTable commands) (stored_entries node made ++ more)
values-known commands node [] more calm = all-weaker IsCalm (IsInTable commands) (calm-in-table commands) more calm
values-known commands node (setting ∷ made) more calm = (tt, values-known commands node made more calm)

-- entries without a success and without a value
none-asked : (commands : List Command) (entries : List Entry) → AllByRecursion IsNoSuccess entries → shown (stores_at commands) entries ≡ []
none-asked commands [] none = refl
none-asked commands (entry ∷ entries) none = ap₂ (λ (a b : List Entry). a ++ b) (one entry none.0) (none-asked commands entries none.1)
  where
    one : (entry : Entry) → IsNoSuccess entry → stores_at commands entry ≡ []
    one (Out command ended.Success) quiet = absurd quiet
    one (Out command ended.Fail) quiet = refl
    one (Out command ended.NoSupport) quiet = refl
    one (Out command ended.Unanswered) quiet = refl
    one (Out command ended.Cancelled) quiet = refl
    one entry quiet = refl

calm-of : (entries : List Entry) → AllByRecursion IsNoSuccess entries → shown store_at entries ≡ [] → AllByRecursion IsCalm entries
calm-of [] none no_store = tt
calm-of (Out command ended.Success ∷ entries) none no_store = absurd none.0
calm-of (Store node setting ∷ entries) none no_store = absurd cc
calm-of (Out command ended.Fail ∷ entries) none no_store = (tt, calm-of entries none.1 no_store)
calm-of (Out command ended.NoSupport ∷ entries) none no_store = (tt, calm-of entries none.1 no_store)
calm-of (Out command ended.Unanswered ∷ entries) none no_store = (tt, calm-of entries none.1 no_store)
calm-of (Out command ended.Cancelled ∷ entries) none no_store = (tt, calm-of entries none.1 no_store)
calm-of (entry ∷ entries) none no_store = (tt, calm-of entries none.1 no_store)

-- what entries ask for is the same by a later table
asked-alike : (old new : List Command) → KeepsOrders old new → (entries : List Entry) → AllByRecursion (IsInTable old) entries → shown (stores_at new) entries ≡ shown (stores_at old) entries
asked-alike old new keeps [] known = refl
asked-alike old new keeps (entry ∷ entries) known = ap₂ (λ (a b : List Entry). a ++ b) (one entry known.0) (asked-alike old new keeps entries known.1)
  where
    one : (entry : Entry) → IsInTable old entry → stores_at new entry ≡ stores_at old entry
    one (Out command ended.Success) is = ap stores_by (keeps command is.0 is.1 ∙ sym is.1)
    one (Out command ended.Fail) is = refl
    one (Out command ended.NoSupport) is = refl
    one (Out command ended.Unanswered) is = refl
    one (Out command ended.Cancelled) is = refl
    one entry is = refl

left-cancel : (xs ys zs : List Entry) → xs ++ ys ≡ xs ++ zs → ys ≡ zs
left-cancel [] ys zs is = is
left-cancel (x ∷ xs) ys zs is = left-cancel xs ys zs (let rest : xs ++ ys ≡ xs ++ zs = cc in rest)

-- an event without a success enters no value, since the values that are entered are those that successes ask for
calm-event : (past entries : List Entry) (old new : HostState) → KeepsOrders old.commands new.commands → Facts past old → Facts (past ++ entries) new → AllByRecursion (IsInTable old.commands) past
    → AllByRecursion IsNoSuccess entries → AllByRecursion IsCalm entries
calm-event past entries old new keeps facts later known none =
    let same : shown store_at past ++ shown store_at entries ≡ shown store_at past ++ shown (stores_at new.commands) entries =
    sym (shown-append store_at past entries)
    ∙ (later.stored.entered
    ∙ (shown-append (stores_at new.commands) past entries
    ∙ ap (λ (l : List Entry). l ++ shown (stores_at new.commands) entries) (asked-alike old.commands new.commands keeps past known ∙ sym facts.stored.entered))) in
    calm-of entries none (left-cancel (shown store_at past) (shown store_at entries) (shown (stores_at new.commands) entries) same ∙ none-asked new.commands entries none)

held-calm : (node : ℕ) (held : Bool) → AllByRecursion IsCalm (held_entries node held)
held-calm node true = (tt, tt)
held-calm node false = tt

-- a success, with the values that it confirms
success-stores : (old new : List Command) (node number : ℕ) (more : List Entry) → KeepsOrders old new → IsCommandOf old node number → AllByRecursion IsCalm more
    → IsStored new (Out number ended.Success ∷ (stored_entries node (settings_with final.Success (command_at old number)) ++ more))
success-stores old new node number more keeps one calm =
    let made = settings_with final.Success (Some one.command) in
    let taken : taken_at new number ≡ taken_by (Some one.command) = keeps number (record { order = one.command.order; carriage = one.command.carriage }) (ap taken_by one.found) in
    let asks : asks_by new number ≡ stored_entries node made = ap stores_by taken ∙ ap (λ (n : ℕ). stored_entries n made) one.node in
    subst (λ (o : Option Command). IsStored new (Out number ended.Success ∷ (stored_entries node (settings_with final.Success o) ++ more))) (sym one.found)
    (record {
      known = ((record { order = one.command.order; carriage = one.command.carriage }, taken), values-known new node made more calm);
      are = (tt, subst (λ (due : List Entry). AreInPlace (asks_by new) due (stored_entries node made ++ more)) (sym asks) (values-in-place (asks_by new) node made more calm));
    })

-- ---- each event

abbrev pub HostKeepsOrders : Type 0
HostKeepsOrders = (h : HostState) (event : HostEvent) → KeepsOrders h.commands (after h event).commands

module _ (keeps : HostKeepsOrders) where
  routine-stores : (past : List Entry) (h : HostState) (event : HostEvent) → Facts past h → Facts (past ++ entries_at h event) (after h event) → IsStored h.commands past → AllByRecursion IsNoSuccess (entries_at h event)
      → IsStored (after h event).commands (entries_at h event)
  routine-stores past h event facts later stored none =
      stored-calm (after h event).commands (entries_at h event) (calm-event past (entries_at h event) h (after h event) (keeps h event) facts later stored.known none)

  event-stores : (past : List Entry) (h : HostState) (event : HostEvent) → Facts past h → MayHost h event → Facts (past ++ entries_at h event) (after h event) → IsStored h.commands past
      → IsStored (after h event).commands (entries_at h event)
  event-stores past h (Finishes n session id command final.Success wake_request) facts may later stored =
      let event = Finishes n session id command final.Success wake_request in
      let made = stored_entries n (settings_with final.Success (command_at h.commands command)) in
      let held = held_entries n (is_held h n wake_request) in
      subst (λ (l : List Entry). IsStored (after h event).commands (Out command ended.Success ∷ l)) (sym (notes-noted (made ++ held)))
      (success-stores h.commands (after h event).commands n command held (keeps h event) (owned h.commands n (node_of h.nodes n).book.commands session command (facts.host.owns n).sessions may.carried)
      (held-calm n (is_held h n wake_request)))
  event-stores past h (Interviews n listens classes update) facts may later stored = stored-calm (after h (Interviews n listens classes update)).commands (entries_at h (Interviews n listens classes update)) (tt, tt)
  event-stores past h event facts may later stored =
      routine-stores past h event facts later stored (all-weaker IsRoutine IsNoSuccess routine_none (entries_at h event) (event_routine h event tt))

  -- the transcript goes on in place
  pub event-goes-on : (past : List Entry) (h : HostState) (event : HostEvent) → Facts past h → MayHost h event → Facts (past ++ entries_at h event) (after h event) → IsStored h.commands past
      → IsStored (after h event).commands (past ++ entries_at h event)
  event-goes-on past h event facts may later stored =
      stored-then (after h event).commands past (entries_at h event) (stored-on h.commands (after h event).commands past (keeps h event) stored) (event-stores past h event facts may later stored)
