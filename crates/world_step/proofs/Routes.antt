-- Where what the host puts out goes.
use Rattle.std.proofs.Common.{◌≡◌, ℕ, List, [], ◌∷◌, ◌++◌, refl, ap, sym, ◌∙◌, subst}
use Rattle.std.specs.Prelude.{Option, Some, None}
use Rattle.std.proofs.lemmas.List.{append-nil}
use Rattle.std.proofs.lemmas.Grind.{flat_map-append}
use Rattle.zw_text.specs.declared.entry.Entry.{Entry}
use Rattle.host_model.specs.declared.out.HostOut.{HostOut}
use Rattle.outside_model.specs.State.{OuterState, outside}
use Rattle.outside_model.specs.Events.{OuterEvent, Host_notes}
use Rattle.outside_model.specs.Did.{entries_all, Goes}
use Rattle.outside_model.proofs.EventLists.{ran_both}
use Rattle.world_model.specs.State.{begun_in, noted_by, routed, routed_one}
use Rattle.world_step.specs.Routing.{begins_by}
use Rattle.world_step.proofs.Scenes.{quiet_goes}

pub goes_then : (a b : List OuterEvent) (o mid o' : OuterState) (before some all : List Entry) → Goes a o mid before some → Goes b mid o' some all → Goes (a ++ b) o o' before all
goes_then a b o mid o' before some all first later ds = ran_both a b (outside o ds) (outside mid ds) (outside o' ds) before some all (first ds) (later ds)

-- what was entered into a list of its own
pub goes_into : (es : List OuterEvent) (o o' : OuterState) (start told before all : List Entry) → Goes es o o' start told → start ≡ [] → all ≡ before ++ told → Goes es o o' before all
goes_into es o o' start told before all goes none put ds =
    let went = goes ds in
    record {
      may = went.may;
      state = went.state;
      entries = put ∙ ap (λ (l : List Entry). before ++ l) (went.entries ∙ ap (λ (l : List Entry). l ++ entries_all (outside o ds) es) none);
    }

-- nothing that was put out goes nowhere
pub goes_nowhere : (outs : List HostOut) (o : OuterState) (all : List Entry) → outs ≡ [] → Goes (routed outs) o o all all
goes_nowhere outs o all none =
    subst (λ (l : List HostOut). Goes (routed l) o o all all) (sym none)
    (λ ds. record { may = tt; state = refl; entries = sym (append-nil all) })

noted_is : (begun : Option (ℕ × ℕ)) (entry : Entry) → begins_by begun ++ Host_notes entry ∷ [] ≡ noted_by begun entry
noted_is None entry = refl
noted_is (Some begun) entry = refl

pub noted : (entry : Entry) (o mid o' : OuterState) (before all : List Entry) → Goes (begins_by (begun_in entry)) o mid [] [] → Goes (Host_notes entry ∷ []) mid o' before all
    → Goes (noted_by (begun_in entry) entry) o o' before all
noted entry o mid o' before all first later =
    subst (λ (l : List OuterEvent). Goes l o o' before all) (noted_is (begun_in entry) entry)
    (goes_then (begins_by (begun_in entry)) (Host_notes entry ∷ []) o mid o' before before all (quiet_goes (begins_by (begun_in entry)) o mid before first) later)

-- one output more
pub routed_more : (outs : List HostOut) (one : HostOut) (o mid o' : OuterState) (before some all : List Entry) → Goes (routed outs) o mid before some → Goes (routed_one one) mid o' some all
    → Goes (routed (outs ++ one ∷ [])) o o' before all
routed_more outs one o mid o' before some all first later =
    subst (λ (l : List OuterEvent). Goes l o o' before all)
    (sym (flat_map-append routed_one outs (one ∷ []) ∙ ap (λ (l : List OuterEvent). routed outs ++ l) (append-nil (routed_one one))))
    (goes_then (routed outs) (routed_one one) o mid o' before some all first later)
