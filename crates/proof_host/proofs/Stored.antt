-- The values that are entered are those that the successful commands ask for, each after its success.
use Rattle.std.proofs.Common.{◌≡◌, ℕ, ◌+◌, ◌<◌, ◌≤◌, List, [], ◌∷◌, ◌++◌, length, Option, Some, None, refl, sym, ap, ap₂, subst, ◌∙◌, arith}
use Rattle.std.specs.List.{AllByRecursion}
use Rattle.std.proofs.lemmas.List.{length_push}
use Rattle.zw_base.proofs.Each.{all-append, all-weaker}
use Rattle.zw_base.specs.declared.property.Setting.{Setting}
use Rattle.zw_text.specs.declared.entry.Ended.{Ended}
use Rattle.zw_text.specs.declared.entry.Ended.TheVariants as ended
use Rattle.zw_text.specs.declared.entry.Entry.{Entry}
use Rattle.zw_text.specs.declared.entry.Entry.TheVariants.{Accepted, Begin, Out, Store}
use Rattle.zw_text.specs.declared.entry.Outcome.{Outcome}
use Rattle.zw_text.specs.declared.entry.Outcome.TheVariants.{Begun, Unanswered, Cancelled}
use Rattle.zw_text.specs.Transcript.{shown}
use Rattle.zw_text.proofs.Views.{shown-append}
use Rattle.law_transcript.specs.Lists.{EachAfter}
use Rattle.law_transcript.specs.Stores.{store_at, FollowsSuccess, MayStore}
use Rattle.value_store.specs.Values.{Values}
use Rattle.law_transcript.specs.host_orders.Settings.{settings}
use Rattle.host_model.specs.host_keep.declared.final_status.FinalStatus.{FinalStatus}
use Rattle.host_model.specs.host_keep.declared.final_status.FinalStatus.TheVariants as final
use Rattle.supervision.specs.Host.{begun_of}
use Rattle.host_model.specs.host_node.State.{NodeState}
use Rattle.host_model.specs.host_node.Steps.{oldest}
use Rattle.host_model.specs.host_node.TableState.{node_of}
use Rattle.host_model.specs.State.{Command, command_at, with_outcome}
use Rattle.host_model.specs.Sessions.{settings_with}
use Rattle.host_model.specs.After.{outcome_of}
use Rattle.host_model.specs.Outs.{ended_of, stored_entries}
use Rattle.host_model.specs.Facts.{IsCommandOf, OwnsCommands}
use Rattle.proof_host.specs.Entries.{IsAside}
use Rattle.proof_host.specs.Tables.{taken_at, taken_by}
use Rattle.proof_host.specs.Stores.{stores_by, stores_at, IsKnown, AreStored}
use Rattle.proof_host.specs.Facts.{IsInOrder}
use Rattle.proof_host.proofs.Lists.{each-append, each-anywhere}
use Rattle.proof_host.proofs.Commands.{taken_set, taken_pushed, length-outcome}
use Rattle.proof_host.proofs.Owned.{number_within}
use Rattle.proof_host.proofs.Effect.{Finishes, Effect, Leaving, Unanswering, Accepting, Cancelling, Beginning, Finishing}
use Rattle.proof_host.proofs.InOrder.{opened_is, waiting_is}

-- ---- entries

aside_store : (e : Entry) → IsAside e → store_at e ≡ []
aside_store (Store node setting) aside = absurd aside
aside_store _ aside = refl

aside_stores : (cs : List Command) (e : Entry) → IsAside e → stores_at cs e ≡ []
aside_stores cs (Out command how) aside = absurd aside
aside_stores cs _ aside = refl

aside_known : (count : ℕ) (e : Entry) → IsAside e → IsKnown count e
aside_known count (Out command how) aside = absurd aside
aside_known count _ aside = tt

aside_may : (past : List Entry) (e : Entry) → IsAside e → MayStore past e
aside_may past (Store node setting) aside = absurd aside
aside_may past _ aside = tt

none_by : {A : Type 0} (view : Entry → List A) → ((e : Entry) → IsAside e → view e ≡ []) → (es : List Entry) → AllByRecursion IsAside es → shown view es ≡ []
none_by view none [] all = refl
none_by view none (e ∷ es) all = ap (λ (l : List _). l ++ shown view es) (none e all.0) ∙ none_by view none es all.1

-- entries of values show themselves, and ask for none
stores_shown : (n : ℕ) (made : List Setting) → shown store_at (stored_entries n made) ≡ stored_entries n made
stores_shown n [] = refl
stores_shown n (s ∷ made) = ap (λ (l : List Entry). Store n s ∷ l) (stores_shown n made)

stores_ask : (cs : List Command) (n : ℕ) (made : List Setting) → shown (stores_at cs) (stored_entries n made) ≡ []
stores_ask cs n [] = refl
stores_ask cs n (s ∷ made) = stores_ask cs n made

stores_known : (count n : ℕ) (made : List Setting) → AllByRecursion (IsKnown count) (stored_entries n made)
stores_known count n [] = tt
stores_known count n (s ∷ made) = (tt, stores_known count n made)

-- ---- after a success

follows_cons : (x next : Entry) (rest : List Entry) → FollowsSuccess (next ∷ rest) → FollowsSuccess (x ∷ next ∷ rest)
follows_cons (Out command ended.Success) next rest f = f
follows_cons (Out command ended.Fail) next rest f = f
follows_cons (Out command ended.NoSupport) next rest f = f
follows_cons (Out command ended.Unanswered) next rest f = f
follows_cons (Out command ended.Cancelled) next rest f = f
follows_cons _ next rest f = f

follows_last : (xs : List Entry) (e : Entry) → FollowsSuccess (e ∷ []) → FollowsSuccess (xs ++ e ∷ [])
follows_last [] e f = f
follows_last (x ∷ []) e f = follows_cons x e [] f
follows_last (x ∷ y ∷ xs) e f = follows_cons x y (xs ++ e ∷ []) (follows_last (y ∷ xs) e f)

stores_follow : (past : List Entry) (n : ℕ) (made : List Setting) → FollowsSuccess past → EachAfter MayStore past (stored_entries n made)
stores_follow past n [] follows = tt
stores_follow past n (s ∷ made) follows = (follows, stores_follow (past ++ Store n s ∷ []) n made (follows_last past (Store n s) tt))

final_follows : (past : List Entry) (c n : ℕ) (status : FinalStatus) (taken : Option Command) → EachAfter MayStore (past ++ Out c (ended_of status) ∷ []) (stored_entries n (settings_with status taken))
final_follows past c n status None = tt
final_follows past c n final.NoSupport (Some command) = tt
final_follows past c n final.Fail (Some command) = tt
final_follows past c n final.Success (Some command) = stores_follow (past ++ Out c ended.Success ∷ []) n (settings command.carriage.actuator command.order) (follows_last past (Out c ended.Success) tt)

asides_follow : (past es : List Entry) → AllByRecursion IsAside es → EachAfter MayStore past es
asides_follow past es all = each-anywhere MayStore IsAside aside_may past es all

-- ---- what is asked for, by the table

asks_alike : (cs cs' : List Command) (e : Entry) → ((k : ℕ) → k < length cs + 1 → taken_at cs' k ≡ taken_at cs k) → IsKnown (length cs) e → stores_at cs' e ≡ stores_at cs e
asks_alike cs cs' (Out k ended.Success) same known = ap stores_by (same k known)
asks_alike cs cs' (Out k ended.Fail) same known = refl
asks_alike cs cs' (Out k ended.NoSupport) same known = refl
asks_alike cs cs' (Out k ended.Unanswered) same known = refl
asks_alike cs cs' (Out k ended.Cancelled) same known = refl
asks_alike cs cs' _ same known = refl

pub asked_alike : (cs cs' : List Command) (T : List Entry) → ((k : ℕ) → k < length cs + 1 → taken_at cs' k ≡ taken_at cs k) → AllByRecursion (IsKnown (length cs)) T → shown (stores_at cs') T ≡ shown (stores_at cs) T
asked_alike cs cs' [] same known = refl
asked_alike cs cs' (e ∷ T) same known = ap₂ (λ (a b : List Entry). a ++ b) (asks_alike cs cs' e same known.0) (asked_alike cs cs' T same known.1)

known_more : (few many : ℕ) → few ≤ many → (e : Entry) → IsKnown few e → IsKnown many e
known_more few many more (Out k how) known = let h : k < few + 1 = known in omega arith
known_more few many more _ known = tt

-- what a final status asks for is what is entered
final_asks : (cs : List Command) (c n : ℕ) (status : FinalStatus) (command : Command) → taken_at cs c ≡ taken_by (Some command) → command.order.node ≡ n
    → stores_at cs (Out c (ended_of status)) ≡ stored_entries n (settings_with status (Some command))
final_asks cs c n final.NoSupport command e node = refl
final_asks cs c n final.Fail command e node = refl
final_asks cs c n final.Success command e node = ap stores_by e ∙ ap (λ (m : ℕ). stored_entries m (settings command.carriage.actuator command.order)) node

-- ---- each event

module _ (T : List Entry) (cs : List Command) (nodes : List NodeState) (owns : (m : ℕ) → OwnsCommands cs m (node_of nodes m)) (orders : (m : ℕ) → IsInOrder cs (node_of nodes m))
    (f : AreStored T cs) (cs' : List Command) (nodes' : List NodeState) (store store' : Values) (entries : List Entry) where
  -- these entries come, which show and ask for the same
  added : (es : List Entry) → entries ≡ es → ((k : ℕ) → k < length cs + 1 → taken_at cs' k ≡ taken_at cs k) → length cs ≤ length cs' → shown store_at es ≡ shown (stores_at cs') es
      → EachAfter MayStore T es → AllByRecursion (IsKnown (length cs')) es → AreStored (T ++ entries) cs'
  added es is same more shows follow known = subst (λ (l : List Entry). AreStored (T ++ l) cs') (sym is) (record {
    entered =
        shown-append store_at T es
        ∙ ap₂ (λ (a b : List Entry). a ++ b) (f.entered ∙ sym (asked_alike cs cs' T same f.known)) shows
        ∙ sym (shown-append (stores_at cs') T es);
    following = each-append MayStore [] T es f.following follow;
    known = all-append (IsKnown (length cs')) T es (all-weaker (IsKnown (length cs)) (IsKnown (length cs')) (known_more (length cs) (length cs') more) T f.known) known;
  })

  -- the table has another outcome
  with_other : (c : ℕ) (what : Outcome) → cs' ≡ with_outcome cs c what → ((k : ℕ) → k < length cs + 1 → taken_at cs' k ≡ taken_at cs k) × (length cs' ≡ length cs)
  with_other c what is = (λ k below. ap (λ (l : List Command). taken_at l k) is ∙ taken_set cs c what k, ap (λ (l : List Command). length l) is ∙ length-outcome cs c what)

  -- asides after one that ends a command otherwise than by success
  ended_aside : (c n : ℕ) (what : Outcome) (how : Ended) (more : List Entry) → stores_at cs' (Out c how) ≡ [] → IsCommandOf cs n c → cs' ≡ with_outcome cs c what → entries ≡ Out c how ∷ more → AllByRecursion IsAside more
      → AreStored (T ++ entries) cs'
  ended_aside c n what how more asks one is entries_are asides =
      let table = with_other c what is in
      let within : c < length cs + 1 = number_within cs n c one in
      added (Out c how ∷ more) entries_are table.0 (omega (arith, table.1))
      (none_by store_at aside_store more asides ∙ sym (ap (λ (l : List Entry). l ++ shown (stores_at cs') more) asks ∙ none_by (stores_at cs') (aside_stores cs') more asides))
      (tt, asides_follow (T ++ Out c how ∷ []) more asides)
      (omega (arith, within, table.1), all-weaker IsAside (IsKnown (length cs')) (aside_known (length cs')) more asides)

  finished : (e : Finishes cs cs' nodes nodes' entries) → AreStored (T ++ entries) cs'
  finished e =
      let n = e.node in
      let c = e.command in
      let one = opened_is cs nodes owns orders n c e.opened in
      let table = with_other c (outcome_of e.status) e.commands_are in
      let within : c < length cs + 1 = number_within cs n c one in
      let made = settings_with e.status (command_at cs c) in
      let taken : taken_at cs' c ≡ taken_by (Some one.command) = table.0 c within ∙ ap taken_by one.found in
      let asks : stores_at cs' (Out c (ended_of e.status)) ≡ stored_entries n made
      = final_asks cs' c n e.status one.command taken one.node ∙ ap (λ (o : Option Command). stored_entries n (settings_with e.status o)) (sym one.found) in
      let stores = stored_entries n made in
      added (Out c (ended_of e.status) ∷ (stores ++ e.more)) e.entries_are table.0 (omega (arith, table.1))
      (shown-append store_at stores e.more
      ∙ ap₂ (λ (a b : List Entry). a ++ b) (stores_shown n made) (none_by store_at aside_store e.more e.asides)
      ∙ sym (ap₂ (λ (a b : List Entry). a ++ b) asks
      (shown-append (stores_at cs') stores e.more
      ∙ ap₂ (λ (a b : List Entry). a ++ b) (stores_ask cs' n made) (none_by (stores_at cs') (aside_stores cs') e.more e.asides)))) (
        tt,
        each-append MayStore (T ++ Out c (ended_of e.status) ∷ []) stores e.more (final_follows T c n e.status (command_at cs c))
            (asides_follow ((T ++ Out c (ended_of e.status) ∷ []) ++ stores) e.more e.asides),
      ) (
        omega (arith, within, table.1),
        all-append (IsKnown (length cs')) stores e.more (stores_known (length cs') n made)
            (all-weaker IsAside (IsKnown (length cs')) (aside_known (length cs')) e.more e.asides),
      )

  pub stored_kept : Effect cs cs' nodes nodes' store store' entries → AreStored (T ++ entries) cs'
  stored_kept (Leaving e same) =
      let is : length cs' ≡ length cs = ap (λ (l : List Command). length l) e.commands_are in
      added entries refl (λ k below. ap (λ (l : List Command). taken_at l k) e.commands_are) (omega (arith, is))
      (none_by store_at aside_store entries e.asides ∙ sym (none_by (stores_at cs') (aside_stores cs') entries e.asides))
      (asides_follow T entries e.asides) (all-weaker IsAside (IsKnown (length cs')) (aside_known (length cs')) entries e.asides)
  stored_kept (Unanswering e same) =
      ended_aside e.command e.node Unanswered ended.Unanswered e.more refl (opened_is cs nodes owns orders e.node e.command e.opened) e.commands_are e.entries_are e.asides
  stored_kept (Cancelling e same) =
      ended_aside e.command e.node Cancelled ended.Cancelled [] refl (waiting_is cs nodes owns orders e.node e.command e.waits) e.commands_are e.entries_are tt
  stored_kept (Beginning e same) =
      let s = node_of nodes e.node in
      let table = with_other (oldest s) Begun e.commands_are in
      added (Begin e.node (begun_of s.book + 1) (oldest s) ∷ []) e.entries_are table.0 (omega (arith, table.1)) refl (tt, tt) (tt, tt)
  stored_kept (Accepting e same) =
      let is : length cs' ≡ length cs + 1 = ap (λ (l : List Command). length l) e.commands_are ∙ length_push cs e.taken in
      added (Accepted (length cs + 1) e.taken.order.node ∷ []) e.entries_are
      (λ k below. ap (λ (l : List Command). taken_at l k) e.commands_are ∙ taken_pushed cs e.taken k (λ here. omega arith))
      (omega (arith, is)) refl (tt, tt) (tt, tt)
  stored_kept (Finishing e is) = finished e

-- an aside changes nothing
pub stored_aside : (T : List Entry) (cs : List Command) (entry : Entry) → IsAside entry → AreStored T cs → AreStored (T ++ entry ∷ []) cs
stored_aside T cs entry aside f =
    record {
      entered =
          shown-append store_at T (entry ∷ [])
          ∙ ap₂ (λ (a b : List Entry). a ++ b) f.entered (none_by store_at aside_store (entry ∷ []) (aside, tt) ∙ sym (none_by (stores_at cs) (aside_stores cs) (entry ∷ []) (aside, tt)))
          ∙ sym (shown-append (stores_at cs) T (entry ∷ []));
      following = each-append MayStore [] T (entry ∷ []) f.following (asides_follow T (entry ∷ []) (aside, tt));
      known = all-append (IsKnown (length cs)) T (entry ∷ []) f.known (aside_known (length cs) entry aside, tt);
    }
