-- Values that a node reports, one after another.
use Rattle.std.proofs.Common.{◌≡◌, ℕ, ◌<◌, ◌≤◌, ◌+◌, ◌%◌, ◌/◌, List, [], ◌∷◌, ◌++◌, length, take, get_or, refl, ap, sym, ◌∙◌, subst, arith}
use Rattle.std.proofs.lemmas.List.{take_more}
use Rattle.std.proofs.lemmas.Bool.Decides.{nat_tests}
use Rattle.std.specs.Prelude.{Bool, true, false, nat_lt, ◌==◌, ◌&&◌, if◌then◌else◌, Option, Some, None}
use Rattle.supervision.specs.Host.{open_session}
use Rattle.host_model.specs.Sessions.{open_segment}
use Rattle.zw_base.specs.declared.property.Setting.{Setting}
use Rattle.value_store.specs.Values.{count_with}
use Rattle.host_model.specs.State.{HostState, node_of}
use Rattle.host_model.specs.Events.{HostEvent, Hears_value, Has_no_room, Resends}
use Rattle.host_model.specs.After.{after}
use Rattle.host_model.specs.Outs.{outs}
use Rattle.host_model.specs.Records.{records_at}
use Rattle.host_model.specs.May.{May}
use Rattle.host_model.specs.Did.{after_all, is_unkept}
use Rattle.host_model.specs.Taking.{value_event, value_events, resent, wanted_segment}
use Rattle.host_model.specs.declared.out.HostOut.{HostOut}
use Rattle.host_step_bytes.specs.Calls.{DoesAlone, Are}
use Rattle.host_step_bytes.proofs.CallLists.{one_alone, alone_then}

value_alone : (full : Bool) (h : HostState) (n : ℕ) (v : Setting) (new : HostState) (before all : List HostOut) → nat_lt 512 (count_with h.store n (v.property ∷ [])) ≡ full
    → new ≡ after h (value_event h n v) → all ≡ before ++ outs h (value_event h n v) → DoesAlone (Are (value_event h n v ∷ [])) h before new all
value_alone true h n v new before all full host put =
    let e : value_event h n v ≡ Has_no_room n v.property = rw full refl in
    let many : 512 < count_with h.store n (v.property ∷ []) = grind (arith, nat_tests) in
    one_alone (Are (value_event h n v ∷ [])) (value_event h n v) h new before all refl (subst (λ (x : HostEvent). May h x) (sym e) many)
    (ap (λ (x : HostEvent). records_at h x) e) (ap (λ (x : HostEvent). is_unkept x) e) host put
value_alone false h n v new before all full host put =
    let e : value_event h n v ≡ Hears_value n v = rw full refl in
    let few : count_with h.store n (v.property ∷ []) ≤ 512 = grind (arith, nat_tests) in
    one_alone (Are (value_event h n v ∷ [])) (value_event h n v) h new before all refl (subst (λ (x : HostEvent). May h x) (sym e) few)
    (ap (λ (x : HostEvent). records_at h x) e) (ap (λ (x : HostEvent). is_unkept x) e) host put

-- values go on
abbrev pub GoesOn : Type 0
GoesOn = (h : HostState) (n : ℕ) (a b : List Setting) → value_events h n (a ++ b) ≡ value_events h n a ++ value_events (after_all h (value_events h n a)) n b

-- one more value is heard
pub value_heard : GoesOn → (h : HostState) (n : ℕ) (settings : List Setting) (i : ℕ) (v : Setting) (mid new : HostState) (before some all : List HostOut) → v ≡ get_or settings i v → i < length settings
    → DoesAlone (Are (value_events h n (take i settings))) h before mid some → new ≡ after mid (value_event mid n v) → all ≡ some ++ outs mid (value_event mid n v)
    → DoesAlone (Are (value_events h n (take (i + 1) settings))) h before new all
value_heard law h n settings i v mid new before some all is within first host put =
    alone_then (Are (value_events h n (take i settings))) (Are (value_event mid n v ∷ [])) (Are (value_events h n (take (i + 1) settings))) h mid new before some all first
    (value_alone (nat_lt 512 (count_with mid.store n (v.property ∷ []))) mid n v new some all refl host put)
    (λ (x : List HostEvent) (y : List HostEvent) state one two.
    let next : HostEvent = value_event mid n v in
    ap (λ (l : List HostEvent). l ++ y) one ∙ ap (λ (l : List HostEvent). value_events h n (take i settings) ++ l) two
    ∙ ap (λ (m : HostState). value_events h n (take i settings) ++ value_event m n v ∷ []) (state ∙ ap (λ (l : List HostEvent). after_all h l) one)
    ∙ sym (law h n (take i settings) (v ∷ []))
    ∙ ap (λ (l : List Setting). value_events h n l) (sym (take_more settings i v within ∙ ap (λ (t : Setting). take i settings ++ t ∷ []) (sym is))))

-- ---- segments

same_test : (a b : ℕ) → a ≡ b → (a == b) ≡ true
same_test a b e = grind (arith, nat_tests)

where_both : {X : Type 0} (x y : Bool) (o : Option X) → x ≡ true → y ≡ true → (if x && y then o else None) ≡ o
where_both true true o p q = refl
where_both true false o p q = cc
where_both false y o p q = cc

-- the segment that is wanted is sent again
pub resent_alone : (h new : HostState) (n session id offset : ℕ) (payload : List ℕ) (before all : List HostOut) → open_session (node_of h n).book ≡ Some session → id ≡ session % 16 → offset % 39 ≡ 0
    → open_segment h (node_of h n) (Some session) (offset / 39) ≡ Some payload → new ≡ after h (Resends n payload) → all ≡ before ++ outs h (Resends n payload)
    → DoesAlone (Are (resent n (wanted_segment h n (open_session (node_of h n).book) id offset))) h before new all
resent_alone h new n session id offset payload before all opened same whole found host put =
    let wanted : wanted_segment h n (open_session (node_of h n).book) id offset ≡ Some payload =
    ap (λ (o : Option ℕ). wanted_segment h n o id offset) opened
    ∙ where_both (id == session % 16) (offset % 39 == 0) (open_segment h (node_of h n) (Some session) (offset / 39)) (same_test id (session % 16) same) (same_test (offset % 39) 0 whole)
    ∙ found in
    subst (λ (o : Option (List ℕ)). DoesAlone (Are (resent n o)) h before new all) (sym wanted)
    (one_alone (Are (Resends n payload ∷ [])) (Resends n payload) h new before all refl (offset / 39, ap (λ (o : Option ℕ). open_segment h (node_of h n) o (offset / 39)) opened ∙ found) refl refl host put)
