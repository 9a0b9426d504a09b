-- A host that starts from records has what the one before recorded.
use Rattle.std.proofs.Common.{◌≡◌, ℕ, zero, suc, List, [], ◌∷◌, ◌++◌, length, map, Option, Some, None, refl, sym, ap, ap₂, subst, ◌∙◌, append_assoc, append-nil}
use Rattle.std.specs.Prelude.{slice_get}
use Rattle.std.proofs.lemmas.List.{length-map}
use Rattle.s0_crypto.specs.declared.key_pair.Keys.{Keys}
use Rattle.zw_base.specs.declared.order.Order.{Order}
use Rattle.zw_text.specs.declared.entry.Entry.{Entry}
use Rattle.zw_text.specs.declared.entry.Outcome.{Outcome}
use Rattle.zw_text.specs.declared.entry.Outcome.TheVariants.{Waiting, Begun, Success, Fail, NoSupport, Unanswered, Cancelled}
use Rattle.supervision.specs.Host.{HostBook, open_session}
use Rattle.host_model.specs.host_keep.Kept.{Kept, Taken, command_of, kept_of, first_kept, node_of as kept_of_node, after_all as kept_after_all}
use Rattle.host_model.specs.host_keep.Legal.{AreLegal, first_illegal}
use Rattle.host_model.specs.host_keep.declared.record.Record.{Record}
use Rattle.host_model.specs.State.{HostState, Command, command_at, node_of}
use Rattle.host_model.specs.Events.{HostEvent}
use Rattle.host_model.specs.Did.{after_all, records_all, MayAll}
use Rattle.host_model.specs.Facts.{HostFacts}
use Rattle.host_model.specs.Opening.{opened}
use Rattle.host_model.specs.Recording.{AllOfJoined}
use Rattle.host_model.specs.Holding.{Holds, HoldsAlone, taken_as, as_kept, outcome_kept}
use Rattle.proof_host.specs.Entries.{entries_all}
use Rattle.proof_host.specs.Tables.{outcome_by, recorded, taken_at, taken_by}
use Rattle.proof_host.specs.Facts.{Facts, StartsAs}
use Rattle.proof_host.specs.Lives.{AreLives, with_records, entries_of_lives, last_of_lives}
use Rattle.host_model.proofs.Recorded.{legal-append as legal_both}

-- ---- one host after another

place_taken : (commands : List Command) (k : ℕ) → taken_by (slice_get commands k) ≡ slice_get (map taken_as commands) k
place_taken [] k = refl
place_taken (first ∷ rest) zero = refl
place_taken (first ∷ rest) (suc k) = place_taken rest k

pub taken_kept : (commands : List Command) (number : ℕ) → taken_at commands number ≡ command_of (map taken_as commands) number
taken_kept commands zero = refl
taken_kept commands (suc k) = place_taken commands k

as_recorded_so : (o : Outcome) → as_kept o ≡ recorded o
as_recorded_so Waiting = refl
as_recorded_so Begun = refl
as_recorded_so Success = refl
as_recorded_so Fail = refl
as_recorded_so NoSupport = refl
as_recorded_so Unanswered = refl
as_recorded_so Cancelled = refl

pub open_alike : (a b : HostBook) → a.commands ≡ b.commands → a.outcome ≡ b.outcome → open_session a ≡ open_session b
open_alike a b commands outcome = ap₂ (λ (l : List ℕ) (o : Option ℕ). open_session (record { commands = l; outcome = o; attempts = 0 })) commands outcome

same_order : (a b : Command) → taken_by (Some b) ≡ taken_by (Some a) → b.order ≡ a.order
same_order a b e = let same : taken_as b ≡ taken_as a = cc in ap (λ (t : Taken). t.order) same

pub starts_as : (old new : HostState) (kept : Kept) → Holds old kept → HoldsAlone new kept → HostFacts new → StartsAs old new
starts_as old new kept f g host =
    let commands : map taken_as new.commands ≡ map taken_as old.commands = g.holds.commands ∙ sym f.commands in
    let taken : (number : ℕ) → taken_at new.commands number ≡ taken_at old.commands number
    = λ k. taken_kept new.commands k ∙ ap (λ (l : List Taken). command_of l k) commands ∙ sym (taken_kept old.commands k) in
    record {
      host = host;
      count = sym (length-map new.commands taken_as) ∙ ap (λ (l : List Taken). length l) commands ∙ length-map old.commands taken_as;
      taken = taken;
      outcomes = λ k. outcome_so k (command_at old.commands k) (command_at new.commands k) refl refl (taken k);
      begun = λ n. (g.holds.nodes n).sessions ∙ sym (f.nodes n).sessions;
      opened = λ n. open_alike (node_of new n).book (node_of old n).book ((g.holds.nodes n).sessions ∙ sym (f.nodes n).sessions) ((g.holds.nodes n).ended ∙ sym (f.nodes n).ended);
      waiting = λ n. (g.holds.nodes n).waiting ∙ sym (f.nodes n).waiting;
      confirmed = λ n p. g.holds.confirmed n p ∙ sym (f.confirmed n p);
    }
  where
    outcome_so : (k : ℕ) (before now : Option Command) → command_at old.commands k ≡ before → command_at new.commands k ≡ now → taken_by now ≡ taken_by before
        → outcome_by now ≡ recorded (outcome_by before)
    outcome_so k None None e d same = refl
    outcome_so k None (Some b) e d same = cc
    outcome_so k (Some a) None e d same = cc
    outcome_so k (Some a) (Some b) e d same =
        g.outcomes k b d
        ∙ ap (λ (o : Order). outcome_kept (kept_of_node kept o.node) k) (same_order a b same)
        ∙ sym (f.outcomes k a e) ∙ as_recorded_so a.outcome

-- ---- records one after another

pub nothing_kept : kept_of [] ≡ first_kept
unfolding kept_after_all
nothing_kept = refl

pub nothing_legal : AreLegal []
unfolding first_illegal
nothing_legal = refl

-- ---- lives

abbrev pub EventsKeep : Type 0
EventsKeep = (past : List Entry) (h : HostState) (events : List HostEvent) → Facts past h → MayAll h events → Facts (past ++ entries_all h events) (after_all h events)

abbrev pub RestartKeeps : Type 0
RestartKeeps = (past : List Entry) (old new : HostState) → Facts past old → StartsAs old new → Facts past new

abbrev pub KeptStarts : Type 0
KeptStarts = (old new : HostState) (kept : Kept) → Holds old kept → HoldsAlone new kept → HostFacts new → StartsAs old new

abbrev pub KeptGoesOn : Type 0
KeptGoesOn = (kept : Kept) (records more : List Record) → kept_after_all kept (records ++ more) ≡ kept_after_all (kept_after_all kept records) more

abbrev pub EventsHold : Type 0
EventsHold = (h : HostState) (kept : Kept) (events : List HostEvent) → HostFacts h → MayAll h events → Holds h kept → Holds (after_all h events) (kept_after_all kept (records_all h events))

abbrev pub EventsAreLegal : Type 0
EventsAreLegal = (h : HostState) (kept : Kept) (events : List HostEvent) → HostFacts h → MayAll h events → AllOfJoined h events → Holds h kept → first_illegal kept (records_all h events) ≡ None

abbrev pub OpenedHolds : Type 0
OpenedHolds = (keys : Keys) (records : List Record) → AreLegal records → HoldsAlone (opened keys records) (kept_of records)

abbrev pub OpenedFacts : Type 0
OpenedFacts = (keys : Keys) (records : List Record) → AreLegal records → HostFacts (opened keys records)

module _ (events_keep : EventsKeep) (restart : RestartKeeps) (starts : KeptStarts) (goes_on : KeptGoesOn) (events_hold : EventsHold) (are_legal : EventsAreLegal) (opened_holds : OpenedHolds) (opened_facts : OpenedFacts) where
  pub lives_kept : (keys : Keys) (past : List Entry) (h : HostState) (records : List Record) (lives : List (List HostEvent)) → Facts past h → Holds h (kept_of records) → AreLegal records
      → AreLives keys h records lives → Facts (past ++ entries_of_lives keys h records lives) (last_of_lives keys h records lives)
  lives_kept keys past h records [] f holds legal are = subst (λ (T : List Entry). Facts T h) (sym (append-nil past)) f
  lives_kept keys past h records (events ∷ more) f holds legal are =
      let all = with_records h records events in
      let ended = after_all h events in
      let next = opened keys all in
      let facts : Facts (past ++ entries_all h events) ended = events_keep past h events f are.0 in
      let kept : Holds ended (kept_of all) = subst (λ (k : Kept). Holds ended k) (sym (goes_on first_kept records (records_all h events))) (events_hold h (kept_of records) events f.host are.0 holds) in
      let legal_all : AreLegal all = legal_both first_kept records (records_all h events) legal (are_legal h (kept_of records) events f.host are.0 are.1 holds) in
      let again = opened_holds keys all legal_all in
      subst (λ (T : List Entry). Facts T (last_of_lives keys next all more)) (append_assoc past (entries_all h events) (entries_of_lives keys next all more))
      (lives_kept keys (past ++ entries_all h events) next all more
      (restart (past ++ entries_all h events) ended next facts (starts ended next (kept_of all) kept again (opened_facts keys all legal_all)))
      again.holds legal_all are.2)
