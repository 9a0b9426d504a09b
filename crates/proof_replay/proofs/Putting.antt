-- What a host alone puts out is entered as it is, with the number of a tick before the first of it where a tick runs: a clock is all that stands beside it.
use Rattle.std.proofs.Common.{◌≡◌, ℕ, Bool, true, false, List, [], ◌∷◌, ◌++◌, refl, sym, ap, ◌∙◌}
use Rattle.std.proofs.lemmas.List.{map-append}
use Rattle.std.specs.Prelude.{Option}
use Rattle.s0_crypto.specs.declared.key_pair.Keys.{Keys}
use Rattle.serial_frame.specs.declared.unit.Unit.{Unit as LineUnit}
use Rattle.zw_text.specs.declared.entry.Entry.{Entry}
use Rattle.host_model.specs.State.{HostState}
use Rattle.host_model.specs.declared.out.HostOut.{HostOut}
use Rattle.host_model.specs.declared.out.HostOut.TheVariants.{Note, Write}
use Rattle.outside_model.specs.State.{OuterState, first_outer}
use Rattle.outside_model.specs.Events.{has_entered, stamp}
use Rattle.run_replay.specs.Machine.{entries_of, entry_of, timed}
use Rattle.proof_noting.proofs.Times.{time_of}
use Rattle.proof_asking.specs.proof_requests.proof_alone.State.{HostMachine, host_machine}
use Rattle.proof_asking.specs.proof_requests.proof_alone.Steps.{AreTold}
use Rattle.proof_asking.specs.proof_requests.proof_alone.Phases.{Phase, Resting}
use Rattle.proof_asking.specs.proof_requests.proof_alone.Careful.{Stage}
use Rattle.proof_asking.proofs.Coming.{at_time}
use Rattle.proof_asking.proofs.Hosting.{Enters}
use Rattle.proof_asking.proofs.Stamps.{entered_still, stamp_both}

abbrev pub clock_at : ℕ → Bool → OuterState
clock_at clock in_tick = record first_outer { clock = clock; in_tick = in_tick; stamped = false }

abbrev pub alone_at : OuterState → OuterState
alone_at o = o

abbrev pub alone_put : OuterState → List HostOut → List Entry
alone_put o puts = stamp o (entries_of puts)

abbrev pub alone_next : OuterState → List HostOut → OuterState
alone_next o puts = has_entered o (entries_of puts)

are_told : (puts : List HostOut) → AreTold puts (entries_of puts)
are_told [] = refl
are_told (Write unit ∷ puts) = ([], entries_of puts, refl, tt, are_told puts)
are_told (Note e ∷ puts) = (entries_of puts, refl, are_told puts)

entered_both : (o : OuterState) (a b : List Entry) → has_entered o (a ++ b) ≡ has_entered (has_entered o a) b
entered_both o [] b = refl
entered_both o (e ∷ a) [] = refl
entered_both o (e ∷ a) (f ∷ b) = ap (λ (x : Bool). record o { stamped = x }) (sym (entered_still o.in_tick o.stamped))

pub alone_enters : Enters OuterState alone_at alone_put alone_next
alone_enters = record {
  none_put = λ o. refl;
  none_next = λ o. refl;
  both_put = λ o a b. ap (λ (l : List Entry). stamp o l) (map-append entry_of a b) ∙ sym (stamp_both o (entries_of a) (entries_of b));
  both_next = λ o a b. ap (λ (l : List Entry). has_entered o l) (map-append entry_of a b) ∙ entered_both o (entries_of a) (entries_of b);
  is_put = λ puts o. record { told = entries_of puts; are = are_told puts; stamped = refl; time = refl };
}

-- whether the number of a tick is still to be entered
abbrev pub awaiting : List HostOut → Bool
awaiting [] = true
awaiting (one ∷ puts) = false

module _ (Led : Stage → Phase → List Entry → HostMachine → Type 0) (stage : Stage) (keys : Keys) (records : Option (List (List ℕ))) (h : HostState) (came : List LineUnit) (left clock : ℕ) where
  -- no tick runs: nothing is added
  pub untimed : (here : Phase) (past told : List Entry)
      → Led stage here (past ++ stamp (clock_at clock false) told) (at_time keys records h came left (time_of (has_entered (clock_at clock false) told)))
      → Led stage here (past ++ told) (host_machine keys records h came clock left false)
  untimed here past [] run = run
  untimed here past (e ∷ told) run = run

  -- in a tick its number is entered where anything is put out
  pub in_tick : (past : List Entry) (puts : List HostOut)
      → Led stage Resting (past ++ stamp (clock_at clock true) (entries_of puts)) (at_time keys records h came left (time_of (has_entered (clock_at clock true) (entries_of puts))))
      → Led stage Resting (past ++ timed clock puts) (host_machine keys records h came clock left (awaiting puts))
  in_tick past [] run = run
  in_tick past (one ∷ puts) run = run
