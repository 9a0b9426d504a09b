-- What the facts say of a world.
use Rattle.std.proofs.Common.{◌≡◌, ◌≢◌, ℕ, zero, suc, ◌<◌, Bool, true, false, ◌==◌, List, [], ◌∷◌, get_or, Some, refl, sym, ap, ◌∙◌, inl, inr, arith, eq-eqb}
use Rattle.std.specs.Prelude.{filter, All, AllPairs, Contains, if◌then◌else◌}
use Rattle.std.proofs.lemmas.Bool.Decides.{nat_tests, leb_tells}
use Rattle.std.proofs.lemmas.List.Elements.{All-weaker, All-filter, All-contains, All-contains_itself, filter_passes}
use Rattle.std.proofs.lemmas.List.{get_or_default}
use Rattle.std.proofs.lemmas.List.Kept.{AllPairs-filter}
use Rattle.supervision.specs.Session.{wire_id}
use Rattle.supervision.specs.Host.{begun_of, open_session, told_of}
use Rattle.supervision.specs.Ends.{Get, Report, GetFits, ReportFits, IsSettled}
use Rattle.supervision.specs.Once.{Ended, IsEarlier, World, changes, GetsNameOne, ReportsNameOne, MayHearGet, MayHearReport, KnowsEnd, SuccessIsChange, RefusalIsNoChange}
use Rattle.supervision.specs.declared.session.TheConstants.{SUCCESS}
use Rattle.supervision.specs.declared.host_node.Told.{Told}
use Rattle.supervision.specs.declared.host_node.Told.TheVariants.{Final, Working as still_working, Old as unknown}
use Rattle.supervision.proofs.EndsLemmas.{GetNames, get_in_time, ReportNames, report_in_time}
use Rattle.supervision.proofs.OnceLemmas.{Facts}

abbrev is_success : Ended → Bool
is_success e = e.status == SUCCESS

Contains-filter : {X : Type 0} (p : X → Bool) (xs : List X) (x : X) → Contains xs x → p x ≡ true → Contains (filter p xs) x
Contains-filter p [] x is e = absurd (omega (arith, is.1))
Contains-filter p (y ∷ ys) x (zero, lt, here) e =
    let kept : p y ≡ true = ap p here ∙ e in rw kept (zero, omega arith, here)
Contains-filter p (y ∷ ys) x (suc k, lt, there) e =
    let rest : Contains (filter p ys) x = Contains-filter p ys x (k, omega arith, there) e in
    elim (p y) as (λ b. Contains (if b then y ∷ filter p ys else filter p ys) x) [
      | true ↦ (suc rest.0, omega arith, rest.2)
      | false ↦ rest
    ]

-- in a rising list the one that stands before has a smaller session
earlier : (xs : List Ended) (a b : Ended) → AllPairs IsEarlier xs → (in_a : Contains xs a) (in_b : Contains xs b) → in_a.0 < in_b.0 → a.session ≢ b.session
earlier xs a b rise in_a in_b before same =
    let less : IsEarlier (get_or xs in_a.0 a) (get_or xs in_b.0 a) = rise in_a.0 in_b.0 a before in_b.1 in
    let is_b : get_or xs in_b.0 a ≡ b = get_or_default xs in_b.0 a b in_b.1 ∙ in_b.2 in
    let first : (get_or xs in_a.0 a).session ≡ a.session = ap (λ (e : Ended). e.session) in_a.2 in
    let second : (get_or xs in_b.0 a).session ≡ b.session = ap (λ (e : Ended). e.session) is_b in
    omega arith

-- of two in a rising list with one session the one is the other
same_ended : (xs : List Ended) (a b : Ended) → AllPairs IsEarlier xs → Contains xs a → Contains xs b → a.session ≡ b.session → a ≡ b
same_ended xs a b rise in_a in_b same =
    elim (leb_tells in_a.0 in_b.0) [
      | inl up ↦
          elim (leb_tells in_b.0 in_a.0) [
            | inl down ↦
                let place : in_a.0 ≡ in_b.0 = omega (arith, up.1, down.1) in
                sym in_a.2 ∙ (get_or_default xs in_a.0 a b in_a.1 ∙ (ap (λ (k : ℕ). get_or xs k b) place ∙ in_b.2))
            | inr below ↦ absurd (earlier xs a b rise in_a in_b below.1 same)
          ]
      | inr above ↦ absurd (earlier xs b a rise in_b in_a above.1 (sym same))
    ]

pub changes-rise : (w : World) → Facts w → AllPairs IsEarlier (changes w)
changes-rise w facts = AllPairs-filter IsEarlier is_success w.done facts.done.rise

pub get_names_one : (w : World) → Facts w → (get : Get) → MayHearGet w get → GetsNameOne w get
get_names_one w facts get may =
    let fits : GetFits w.host.commands get = All-contains (GetFits w.host.commands) w.gets get facts.gets may.0 in
    let names : GetNames w.device get = get_in_time w.host w.device get facts.agree fits (grind (arith, nat_tests)) in
    record { taken_as = λ session e. (names.fresh session e).0; repeated_as = λ status e. sym (names.again status e) }

report_is_open : (w : World) (report : Report) (told : Told) → told_of w.host (wire_id report.session) report.status ≡ told → told ≢ unknown → ReportNames w.host w.device report → open_session w.host ≡ Some report.session
report_is_open w report (Final session) e some names = (names.final session e).1
report_is_open w report still_working e some names = names.working e
report_is_open w report unknown e some names = absurd (some refl)

pub report_names_one : (w : World) → Facts w → (report : Report) → MayHearReport w report → ReportsNameOne w report
report_names_one w facts report may =
    let fits : ReportFits (begun_of w.host) w.device report = All-contains (ReportFits (begun_of w.host) w.device) w.reports report facts.reports may.0 in
    let names : ReportNames w.host w.device report = report_in_time w.host w.device report facts.agree fits (grind (arith, nat_tests)) in
    record {
      ends = λ session e. (names.final session e).0;
      is_open = λ some. report_is_open w report _ refl some names;
    }

pub told-success : (w : World) → Facts w → All (SuccessIsChange w) w.told
told-success w facts =
    All-weaker (Contains w.done) (SuccessIsChange w)
    (λ e is success. Contains-filter is_success w.done e is (eq-eqb e.status SUCCESS success)) w.told facts.told.was_done

pub told-refusal : (w : World) → Facts w → All (RefusalIsNoChange w) w.told
told-refusal w facts =
    All-weaker (Contains w.done) (RefusalIsNoChange w)
    (λ told is refused k d below same.
    let done : Contains w.done (get_or (changes w) k d) =
    All-filter is_success (Contains w.done) w.done (All-contains_itself w.done) k d below in
    let success : is_success (get_or (changes w) k d) ≡ true = filter_passes is_success w.done k d below in
    let one : get_or (changes w) k d ≡ told = same_ended w.done (get_or (changes w) k d) told facts.done.rise done is same in
    let succeeded : is_success told ≡ true = ap is_success (sym one) ∙ success in
    refused (grind (arith, nat_tests)))
    w.told facts.told.was_done

pub end_known : (w : World) → Facts w → (status : ℕ) → w.host.outcome ≡ Some status → KnowsEnd w status
end_known w facts status e =
    let settled : IsSettled w.host w.device status = facts.agree.settled status e in
    record { taken = settled.taken; status_kept = settled.status_kept }
