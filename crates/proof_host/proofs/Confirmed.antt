-- The confirmed values are those that the last successful commands give.
use Rattle.std.proofs.Common.{◌≡◌, ℕ, ◌+◌, ◌<◌, Bool, false, if◌then◌else◌, List, [], ◌∷◌, ◌++◌, length, Option, Some, None, inl, inr, refl, sym, ap, ap₂, subst, ◌∙◌, arith}
use Rattle.std.specs.List.{AllByRecursion}
use Rattle.std.proofs.lemmas.Bool.{cases_eq}
use Rattle.zw_base.proofs.Each.{all-weaker}
use Rattle.zw_base.specs.declared.property.Property.{Property}
use Rattle.zw_base.specs.declared.property.Setting.{Setting}
use Rattle.zw_text.specs.declared.entry.Entry.{Entry}
use Rattle.zw_text.specs.declared.entry.Outcome.{Outcome}
use Rattle.zw_text.specs.declared.entry.Outcome.TheVariants.{Waiting, Begun, Success, Fail, NoSupport, Unanswered, Cancelled}
use Rattle.law_transcript.specs.Values.{is_success, last_given}
use Rattle.law_transcript.specs.Lists.{Rises}
use Rattle.value_store.specs.Values.{Values, stored_of}
use Rattle.host_model.specs.host_keep.Kept.{Taken, or_else, value_among, value_by}
use Rattle.host_model.specs.host_keep.declared.final_status.FinalStatus.{FinalStatus}
use Rattle.host_model.specs.host_keep.declared.final_status.FinalStatus.TheVariants as final
use Rattle.host_model.specs.host_node.State.{NodeState}
use Rattle.host_model.specs.host_node.Steps.{oldest}
use Rattle.host_model.specs.host_node.TableState.{node_of}
use Rattle.host_model.specs.State.{Command, command_at, with_outcome}
use Rattle.host_model.specs.Sessions.{open_command, settings_with}
use Rattle.host_model.specs.After.{outcome_of, confirming}
use Rattle.host_model.specs.Facts.{OwnsCommands}
use Rattle.proof_host.specs.Laws.{IsUnderWay}
use Rattle.proof_host.specs.Tables.{outcome_in, taken_at, taken_by, recorded}
use Rattle.proof_host.specs.Stores.{given_by, AreConfirmed}
use Rattle.proof_host.specs.Facts.{IsInOrder}
use Rattle.proof_host.proofs.Lists.{rises-left, below_later}
use Rattle.proof_host.proofs.Commands.{outcome_other, outcome_same, outcome_pushed, outcome_past, taken_set, taken_pushed}
use Rattle.proof_host.proofs.Owned.{apart, opened_ends}
use Rattle.proof_host.proofs.Effect.{SameConfirmed, Begins, Finishes, Effect, Leaving, Unanswering, Accepting, Cancelling, Beginning, Finishing}
use Rattle.proof_host.proofs.Values.{AreDistinct, confirming_here, confirming_other, settings_distinct}
use Rattle.proof_host.proofs.InOrder.{opened_is, waiting_is, oldest_is, waiting_waits, oldest_waits}
use Rattle.proof_host.proofs.CommandEnds.{same_sessions, one_sessions}
use Rattle.host_model.proofs.Confirmed.{either_first}

-- ---- what commands give

abbrev given : List Command → Property → ℕ → Option ℕ
given cs p k = given_by cs (outcome_in cs) p k

abbrev value_of : Outcome → Option Taken → Property → Option ℕ
value_of o taken p = if is_success o then value_by taken p else None

no_value : (o : Outcome) (taken : Option Taken) (p : Property) → is_success o ≡ false → value_of o taken p ≡ None
no_value o taken p e = ap (λ (b : Bool). if b then value_by taken p else None) e

under_way_gives : (o : Outcome) → IsUnderWay o → is_success o ≡ false
under_way_gives Begun u = refl
under_way_gives Unanswered u = refl
under_way_gives Waiting u = absurd u
under_way_gives Success u = absurd u
under_way_gives Fail u = absurd u
under_way_gives NoSupport u = absurd u
under_way_gives Cancelled u = absurd u

-- a command of another outcome
given_other : (cs : List Command) (c : ℕ) (what : Outcome) (p : Property) (k : ℕ) → (k ≡ c → ⊥) → given (with_outcome cs c what) p k ≡ given cs p k
given_other cs c what p k other = ap₂ (λ (o : Outcome) (t : Option Taken). value_of o t p) (outcome_other cs c what k other) (taken_set cs c what k)

-- that succeeded neither before nor now
given_set : (cs : List Command) (c : ℕ) (what : Outcome) (taken : Command) → command_at cs c ≡ Some taken → is_success what ≡ false → is_success (outcome_in cs c) ≡ false
    → (p : Property) (k : ℕ) → given (with_outcome cs c what) p k ≡ given cs p k
given_set cs c what taken found now before p k = elim (cases_eq k c) [
  | inl same ↦ subst (λ (i : ℕ). given (with_outcome cs c what) p i ≡ given cs p i) (sym same)
      (no_value (outcome_in (with_outcome cs c what) c) (taken_at (with_outcome cs c what) c) p (ap is_success (outcome_same cs c what taken found) ∙ now)
      ∙ sym (no_value (outcome_in cs c) (taken_at cs c) p before))
  | inr other ↦ given_other cs c what p k other
]

-- one more command, which waits
given_pushed : (cs : List Command) (one : Command) → one.outcome ≡ Waiting → (p : Property) (k : ℕ) → given (cs ++ one ∷ []) p k ≡ given cs p k
given_pushed cs one waits p k = elim (cases_eq k (length cs + 1)) [
  | inl same ↦ subst (λ (i : ℕ). given (cs ++ one ∷ []) p i ≡ given cs p i) (sym same)
      (no_value (outcome_in (cs ++ one ∷ []) (length cs + 1)) (taken_at (cs ++ one ∷ []) (length cs + 1)) p (ap is_success (outcome_pushed cs one waits (length cs + 1) ∙ outcome_past cs))
      ∙ sym (no_value (outcome_in cs (length cs + 1)) (taken_at cs (length cs + 1)) p (ap is_success (outcome_past cs))))
  | inr other ↦ ap₂ (λ (o : Outcome) (t : Option Taken). value_of o t p) (outcome_pushed cs one waits k) (taken_pushed cs one k other)
]

-- ---- the last of them

pub last_agree : (g g' : ℕ → Option ℕ) (l : List ℕ) → AllByRecursion (λ k. g' k ≡ g k) l → last_given g' l ≡ last_given g l
last_agree g g' [] all = refl
last_agree g g' (x ∷ l) all = ap₂ (λ (a b : Option ℕ). or_else a b) (last_agree g g' l all.1) all.0

all_agree : (g g' : ℕ → Option ℕ) → ((k : ℕ) → g' k ≡ g k) → (l : List ℕ) → AllByRecursion (λ k. g' k ≡ g k) l
all_agree g g' same [] = tt
all_agree g g' same (x ∷ l) = (same x, all_agree g g' same l)

or_else-none : (a : Option ℕ) → or_else a None ≡ a
or_else-none None = refl
or_else-none (Some v) = refl

last_push : (g : ℕ → Option ℕ) (l : List ℕ) (c : ℕ) → last_given g (l ++ c ∷ []) ≡ or_else (g c) (last_given g l)
last_push g [] c = sym (or_else-none (g c))
last_push g (x ∷ l) c = ap (λ (o : Option ℕ). or_else o (g x)) (last_push g l c) ∙ either_first (g c) (last_given g l) (g x)

-- ---- where no value is confirmed

unchanged : (cs cs' : List Command) (nodes nodes' : List NodeState) (store store' : Values) → ((p : Property) (k : ℕ) → given cs' p k ≡ given cs p k)
    → ((m : ℕ) → (node_of nodes' m).book.commands ≡ (node_of nodes m).book.commands) → SameConfirmed store store' → AreConfirmed cs nodes store → AreConfirmed cs' nodes' store'
unchanged cs cs' nodes nodes' store store' gives sessions same f m p =
    same m p ∙ f m p
    ∙ sym (last_agree (given cs p) (given cs' p) (node_of nodes m).book.commands (all_agree (given cs p) (given cs' p) (gives p) (node_of nodes m).book.commands))
    ∙ ap (λ (l : List ℕ). last_given (given cs' p) l) (sym (sessions m))

by_table : (cs' now cs : List Command) → cs' ≡ now → ((p : Property) (k : ℕ) → given now p k ≡ given cs p k) → (p : Property) (k : ℕ) → given cs' p k ≡ given cs p k
by_table cs' now cs e gives p k = ap (λ (l : List Command). given l p k) e ∙ gives p k

-- ---- where some are

-- what a final status confirms of a command
final_gives : (status : FinalStatus) (command : Command) (p : Property) → value_among (settings_with status (Some command)) p ≡ value_of (outcome_of status) (taken_by (Some command)) p
final_gives final.NoSupport command p = refl
final_gives final.Fail command p = refl
final_gives final.Success command p = refl

final_distinct : (status : FinalStatus) (command : Command) → AreDistinct (settings_with status (Some command))
final_distinct final.NoSupport command = tt
final_distinct final.Fail command = tt
final_distinct final.Success command = settings_distinct command.carriage.actuator command.order

module _ (cs : List Command) (nodes : List NodeState) (store : Values) (owns : (m : ℕ) → OwnsCommands cs m (node_of nodes m)) (orders : (m : ℕ) → IsInOrder cs (node_of nodes m))
    (f : AreConfirmed cs nodes store) where
  -- at the node whose session ends
  confirmed_here : (n c : ℕ) (status : FinalStatus) (opened : open_command (node_of nodes n) ≡ Some c) (p : Property)
      → (stored_of (confirming store n (settings_with status (command_at cs c))) n p).confirmed ≡ last_given (given (with_outcome cs c (outcome_of status)) p) (node_of nodes n).book.commands
  confirmed_here n c status opened p =
      let s = node_of nodes n in
      let one = opened_is cs nodes owns orders n c opened in
      let now = with_outcome cs c (outcome_of status) in
      let parts = opened_ends s c opened in
      let prefix = parts.0 in
      let rise : Rises (prefix ++ c ∷ []) = subst Rises parts.1 (rises-left s.book.commands s.waiting (orders n).rise) in
      let others : AllByRecursion (λ k. given now p k ≡ given cs p k) prefix
      = all-weaker (λ k. k < c) (λ k. given now p k ≡ given cs p k) (λ k below. given_other cs c (outcome_of status) p k (λ e. omega arith)) prefix (below_later prefix c [] rise) in
      let before : given cs p c ≡ None = no_value (outcome_in cs c) (taken_at cs c) p (under_way_gives (outcome_in cs c) ((orders n).under_way c opened)) in
      let here : given now p c ≡ value_among (settings_with status (command_at cs c)) p
      = ap₂ (λ (o : Outcome) (t : Option Taken). value_of o t p) (outcome_same cs c (outcome_of status) one.command one.found) (taken_set cs c (outcome_of status) c ∙ ap taken_by one.found)
      ∙ sym (final_gives status one.command p) ∙ ap (λ (o : Option Command). value_among (settings_with status o) p) (sym one.found) in
      let kept : (stored_of store n p).confirmed ≡ last_given (given cs p) prefix
      = f n p ∙ ap (λ (l : List ℕ). last_given (given cs p) l) parts.1 ∙ last_push (given cs p) prefix c ∙ ap (λ (o : Option ℕ). or_else o (last_given (given cs p) prefix)) before in
      ap (λ (o : Option Command). (stored_of (confirming store n (settings_with status o)) n p).confirmed) one.found
      ∙ confirming_here store n (settings_with status (Some one.command)) p (final_distinct status one.command)
      ∙ ap (λ (o : Option Command). or_else (value_among (settings_with status o) p) (stored_of store n p).confirmed) (sym one.found)
      ∙ ap₂ (λ (a b : Option ℕ). or_else a b) (sym here) (kept ∙ sym (last_agree (given cs p) (given now p) prefix others))
      ∙ sym (last_push (given now p) prefix c)
      ∙ ap (λ (l : List ℕ). last_given (given now p) l) (sym parts.1)

  -- at the others
  confirmed_there : (n c : ℕ) (status : FinalStatus) (made : List Setting) → open_command (node_of nodes n) ≡ Some c → (m : ℕ) → (m ≡ n → ⊥) → (p : Property)
      → (stored_of (confirming store n made) m p).confirmed ≡ last_given (given (with_outcome cs c (outcome_of status)) p) (node_of nodes m).book.commands
  confirmed_there n c status made opened m other p =
      let one = opened_is cs nodes owns orders n c opened in
      let now = with_outcome cs c (outcome_of status) in
      let begun = (node_of nodes m).book.commands in
      confirming_other store n made m p other ∙ f m p
      ∙ sym (last_agree (given cs p) (given now p) begun
      (all-weaker (λ k. k ≡ c → ⊥) (λ k. given now p k ≡ given cs p k) (λ k apart_so. given_other cs c (outcome_of status) p k apart_so) begun (apart cs m n c other one begun (owns m).sessions)))

  module _ (cs' : List Command) (nodes' : List NodeState) (store' : Values) (entries : List Entry) where
    confirmed_finished : (e : Finishes cs cs' nodes nodes' entries) → store' ≡ confirming store e.node (settings_with e.status (command_at cs e.command)) → AreConfirmed cs' nodes' store'
    confirmed_finished e is m p =
        let n = e.node in
        let now = with_outcome cs e.command (outcome_of e.status) in
        let made = settings_with e.status (command_at cs e.command) in
        ap (λ (v : Values). (stored_of v m p).confirmed) is
        ∙ elim (cases_eq m n) [
          | inl same ↦ subst (λ (i : ℕ). (stored_of (confirming store n made) i p).confirmed ≡ last_given (given now p) (node_of nodes i).book.commands) (sym same) (confirmed_here n e.command e.status e.opened p)
          | inr other ↦ confirmed_there n e.command e.status made e.opened m other p
        ]
        ∙ ap (λ (l : List ℕ). last_given (given now p) l) (sym (one_sessions nodes nodes' n _ e.nodes_are refl m))
        ∙ ap (λ (l : List Command). last_given (given l p) (node_of nodes' m).book.commands) (sym e.commands_are)

    confirmed_begun : (e : Begins cs cs' nodes nodes' entries) → SameConfirmed store store' → AreConfirmed cs' nodes' store'
    confirmed_begun e same m p =
        let n = e.node in
        let s = node_of nodes n in
        let c = oldest s in
        let one = oldest_is cs nodes owns orders n e.some_wait in
        let gives : (k : ℕ) → given cs' p k ≡ given cs p k
        = by_table cs' (with_outcome cs c Begun) cs e.commands_are (given_set cs c Begun one.command one.found refl (ap is_success (oldest_waits cs nodes owns orders n e.some_wait))) p in
        let agree : (l : List ℕ) → last_given (given cs p) l ≡ last_given (given cs' p) l = λ l. sym (last_agree (given cs p) (given cs' p) l (all_agree (given cs p) (given cs' p) gives l)) in
        let nothing : given cs' p c ≡ None = gives c ∙ no_value (outcome_in cs c) (taken_at cs c) p (ap is_success (oldest_waits cs nodes owns orders n e.some_wait)) in
        same m p ∙ f m p ∙ agree (node_of nodes m).book.commands ∙ elim (cases_eq m n) [
          | inl at ↦ subst (λ (i : ℕ). last_given (given cs' p) (node_of nodes i).book.commands ≡ last_given (given cs' p) (node_of nodes' i).book.commands) (sym at)
              (ap (λ (o : Option ℕ). or_else o (last_given (given cs' p) s.book.commands)) (sym nothing)
              ∙ sym (last_push (given cs' p) s.book.commands c)
              ∙ ap (λ (r : NodeState). last_given (given cs' p) r.book.commands) (sym e.nodes_are.here))
          | inr other ↦ ap (λ (r : NodeState). last_given (given cs' p) r.book.commands) (sym (e.nodes_are.there m other))
        ]

    pub confirmed_kept : Effect cs cs' nodes nodes' store store' entries → AreConfirmed cs' nodes' store'
    confirmed_kept (Leaving e same) =
        unchanged cs cs' nodes nodes' store store' (by_table cs' cs cs e.commands_are (λ p k. refl)) (same_sessions nodes nodes' e.nodes_are) same f
    confirmed_kept (Unanswering e same) =
        let one = opened_is cs nodes owns orders e.node e.command e.opened in
        unchanged cs cs' nodes nodes' store store'
        (by_table cs' (with_outcome cs e.command Unanswered) cs e.commands_are
        (given_set cs e.command Unanswered one.command one.found refl (under_way_gives (outcome_in cs e.command) ((orders e.node).under_way e.command e.opened))))
        (same_sessions nodes nodes' e.nodes_are) same f
    confirmed_kept (Cancelling e same) =
        let one = waiting_is cs nodes owns orders e.node e.command e.waits in
        unchanged cs cs' nodes nodes' store store'
        (by_table cs' (with_outcome cs e.command Cancelled) cs e.commands_are
        (given_set cs e.command Cancelled one.command one.found refl (ap is_success (waiting_waits cs nodes owns orders e.node e.command e.waits))))
        (one_sessions nodes nodes' e.node _ e.nodes_are refl) same f
    confirmed_kept (Accepting e same) =
        unchanged cs cs' nodes nodes' store store' (by_table cs' (cs ++ e.taken ∷ []) cs e.commands_are (given_pushed cs e.taken e.waits)) (one_sessions nodes nodes' e.taken.order.node _ e.nodes_are refl) same f
    confirmed_kept (Beginning e same) = confirmed_begun e same
    confirmed_kept (Finishing e is) = confirmed_finished e is

-- ---- by the entries

success_recorded : (a : Outcome) → is_success (recorded a) ≡ is_success a
success_recorded Waiting = refl
success_recorded Begun = refl
success_recorded Success = refl
success_recorded Fail = refl
success_recorded NoSupport = refl
success_recorded Unanswered = refl
success_recorded Cancelled = refl

-- outcomes that are recorded alike give the same
pub given_alike : (cs : List Command) (outs outs' : ℕ → Outcome) → ((k : ℕ) → recorded (outs' k) ≡ recorded (outs k)) → (p : Property) (l : List ℕ)
    → last_given (given_by cs outs' p) l ≡ last_given (given_by cs outs p) l
given_alike cs outs outs' same p l = last_agree (given_by cs outs p) (given_by cs outs' p) l (all_agree (given_by cs outs p) (given_by cs outs' p)
    (λ k. ap (λ (b : Bool). if b then value_by (taken_at cs k) p else None) (sym (success_recorded (outs' k)) ∙ ap is_success (same k) ∙ success_recorded (outs k))) l)

-- and so do the same orders
pub taken_alike : (cs cs' : List Command) (outs : ℕ → Outcome) → ((k : ℕ) → taken_at cs' k ≡ taken_at cs k) → (p : Property) (l : List ℕ)
    → last_given (given_by cs' outs p) l ≡ last_given (given_by cs outs p) l
taken_alike cs cs' outs same p l = last_agree (given_by cs outs p) (given_by cs' outs p) l (all_agree (given_by cs outs p) (given_by cs' outs p)
    (λ k. ap (λ (t : Option Taken). value_of (outs k) t p) (same k)) l)
