-- What is known of the host by the transcript goes on with each event of the machine, and with the words of a line.
use Rattle.std.proofs.Common.{◌≡◌, ◌≤◌, ℕ, ◌&&◌, not, Bool, true, false, if◌then◌else◌, List, [], ◌∷◌, ◌++◌, zero, suc, refl, sym, ap, subst, ◌∙◌, append-nil}
use Rattle.std.specs.Prelude.{Option, Some, None}
use Rattle.std.specs.List.{list_any}
use Rattle.zw_base.proofs.Each.{all-get}
use Rattle.zw_text.specs.declared.entry.Entry.{Entry}
use Rattle.zw_text.specs.declared.entry.Entry.TheVariants.{Said, Time}
use Rattle.zw_text.specs.Transcript.{accepted, interview_at, interviews, sessions}
use Rattle.zw_text.proofs.Views.{shown-append}
use Rattle.proof_air.specs.law_transcript.Commands.{classes_for, order_of}
use Rattle.proof_air.specs.law_transcript.Lists.{Has}
use Rattle.proof_air.specs.law_transcript.Nodes.{known_at_first, always}
use Rattle.host_keep.specs.Kept.{Taken}
use Rattle.host_orders.specs.Wrapping.{carriage_of}
use Rattle.host_requests.specs.State.{next_id}
use Rattle.host_model.specs.State.{Command, HostState}
use Rattle.outside_model.specs.State.{OuterState}
use Rattle.outside_model.specs.Events.{ticked_entry}
use Rattle.proof_air.specs.world_model.State.{Machine}
use Rattle.proof_air.specs.world_model.Events.{Event, happens, entries, May}
use Rattle.proof_air.specs.world_model.Did.{entries_all}
use Rattle.proof_line.specs.proof_host.Entries.{IsAside}
use Rattle.proof_line.specs.proof_host.Facts.{Facts}
use Rattle.proof_line.specs.proof_host.Laws.{HostLaws, numbers_for}
use Rattle.proof_line.specs.proof_host.Tables.{taken_at}
use Rattle.proof_line.proofs.Lists.{each-append}
use Rattle.proof_spoken.specs.Said.{AreSaid, KnowsListing, MayAnswer, Tells}
use Rattle.proof_spoken.proofs.Plain.{IsPlain}
use Rattle.proof_spoken.proofs.SaidOrders.{AsidesKeep, FactsGoOn, plain_so}
use Rattle.proof_line.specs.Restarts.{StartsWell}
use Rattle.proof_sending.specs.Due.{AreCarried}
use Rattle.proof_sending.specs.Knowing.{Grounded}
use Rattle.proof_sending.proofs.Arrivals.{IsNoUnit}
use Rattle.proof_sending.proofs.Growing.{event_arrives, one_arrives}
use Rattle.proof_sending.proofs.Reasoned.{Laws}

-- the laws of hosts follow from what keeps to a transcript
abbrev pub LawsFollow : Type 0
LawsFollow = (past : List Entry) (h : HostState) → Facts past h → HostLaws past

-- an order that was said is carried so
abbrev pub CarriesAsSaid : Type 0
CarriesAsSaid =
    (listing : List Entry → ℕ → List ℕ) (past : List Entry) (h : HostState) (node number : ℕ) (taken : Taken) → Facts past h → AreSaid listing h.commands past
    → Has (numbers_for node past) number → taken_at h.commands number ≡ Some taken
    → (order_of number (accepted node past) ≡ Some taken.order) × (taken.carriage ≡ carriage_of (classes_for listing past node number) taken.order)

-- what is proved of hosts and of the machine
pub record WalkLaws : Type 0 where
  pub hosts : Laws
  pub go_on : FactsGoOn
  pub aside : AsidesKeep
  pub stand : LawsFollow
  pub knows : (listing : ℕ → List ℕ) (past : List Entry) (m : Machine) (event : Event) → May m event → Tells listing m event → KnowsListing (always listing) past m.host.state
      → KnowsListing (always listing) (past ++ entries m event) (happens m event).host.state
  pub carried : CarriesAsSaid
  pub from : (last : ℕ) → 1 ≤ next_id last
  pub to : (last : ℕ) → next_id last ≤ 255

-- what is carried by sessions is as it was said
pub carried_so : LawsFollow → CarriesAsSaid → (listing : List Entry → ℕ → List ℕ) (past : List Entry) (h : HostState) → Facts past h → AreSaid listing h.commands past
    → AreCarried listing past h.commands
carried_so stand carried listing past h facts said node zero number taken at found = absurd (let bad : ◌≡◌ {A = Option ℕ} None (Some number) = at in cc)
carried_so stand carried listing past h facts said node (suc k) number taken at found =
    carried listing past h node number taken facts said
    (all-get (Has (numbers_for node past)) (sessions node past) k number ((stand past h facts).accepted node) at) found

module _ (listing : ℕ → List ℕ) (laws : WalkLaws) where
  -- ---- an entry that changes nothing of it

  abbrev known_by : ℕ → List Bool → Option (List ℕ)
  known_by node succeeded = if list_any (λ one. one) succeeded then Some (listing node) else known_at_first node

  ground_more : (past : List Entry) (m : Machine) (e : Entry) → IsAside e → IsNoUnit e → ((node : ℕ) → interview_at node e ≡ []) → ((commands : List Command) → MayAnswer (always listing) commands past e)
      → Grounded listing past m → Grounded listing (past ++ e ∷ []) m
  ground_more past m e aside no_unit none answer ground = record {
    facts = laws.aside past m.host.state e ground.facts aside;
    knows = λ node. ground.knows node ∙ ap (known_by node) (sym (shown-append (interview_at node) past (e ∷ [])
        ∙ (ap (λ (l : List Bool). interviews node past ++ (l ++ [])) (none node) ∙ append-nil (interviews node past))));
    said = each-append (MayAnswer (always listing) m.host.state.commands) [] past (e ∷ []) ground.said (answer m.host.state.commands, tt);
    arrives = one_arrives past e no_unit ground.arrives;
  }

  pub ground_said : (past : List Entry) (m : Machine) (words : List ℕ) → Grounded listing past m → Grounded listing (past ++ Said words ∷ []) m
  ground_said past m words ground = ground_more past m (Said words) tt tt (λ node. refl) (λ commands. tt) ground

  pub ground_ticked : (past : List Entry) (m : Machine) (o : OuterState) → Grounded listing past m → Grounded listing (past ++ ticked_entry o) m
  ground_ticked past m o ground = by (o.in_tick && not o.stamped)
    where
      by : (b : Bool) → Grounded listing (past ++ (if b then Time o.clock ∷ [] else [])) m
      by true = ground_more past m (Time o.clock) tt tt (λ node. refl) (λ commands. tt) ground
      by false = subst (λ (l : List Entry). Grounded listing l m) (sym (append-nil past)) ground

  -- ---- an event that accepts no order

  pub ground_goes : (past : List Entry) (m : Machine) (event : Event) → IsPlain event → May m event → StartsWell m event → Tells listing m event → Grounded listing past m
      → Grounded listing (past ++ entries m event) (happens m event)
  ground_goes past m event plain may well tells ground =
      let so = plain_so laws.go_on listing past m (event ∷ []) (plain, tt) (may, tt) (well, tt) (record { facts = ground.facts; said = ground.said }) in
      let are : past ++ entries_all m (event ∷ []) ≡ past ++ entries m event = ap (λ (l : List Entry). past ++ l) (append-nil (entries m event)) in
      record {
        facts = subst (λ (l : List Entry). Facts l (happens m event).host.state) are so.facts;
        knows = laws.knows listing past m event may tells ground.knows;
        said = subst (λ (l : List Entry). AreSaid (always listing) (happens m event).host.state.commands l) are so.said;
        arrives = event_arrives past m event may ground.arrives;
      }
