use Rattle.std.proofs.Common.{◌≡◌, Bool, true, false, ℕ, List, [], ◌∷◌, length, refl, sym, ◌==◌}
use Rattle.std.specs.Prelude.{if◌then◌else◌}
use Rattle.law_host.specs.Nonces.{IsSeal}
use Rattle.law_host.specs.Worked.{all_kept, opened_to_nothing, report_kept, spent, unspent}
use Rattle.law_time.specs.law_transcript.Worked.{network_key}
use Rattle.law_time.proofs.Sealing.{opened_changed, opened_report, sealed_set, set_code, set_nonce, set_own, set_plain, set_with}
use Rattle.law_time.proofs.Computing.{computing}
use Rattle.law_host.proofs.nonces.worked_nonces.Goals as goal

-- the bytes that the host drew for its first nonce, and for all others
abbrev first_drawn : List ℕ
first_drawn = 0x9E ∷ 0x0A ∷ 0x12 ∷ 0x49 ∷ 0xBB ∷ 0x59 ∷ 0x4F ∷ []

abbrev next_drawn : List ℕ
next_drawn = 1 ∷ 2 ∷ 3 ∷ 4 ∷ 5 ∷ 6 ∷ 7 ∷ []

abbrev drawn : ℕ → ℕ → List ℕ
drawn node number = if number == 1 then first_drawn else next_drawn

seven_of : (is_first : Bool) → length (if is_first then first_drawn else next_drawn) ≡ 7
seven_of true = refl
seven_of false = refl

-- the text of the lock's command is sealed for the nonce that it gave
is_seal : IsSeal network_key (record { node = 4; ready = record { nonce = set_nonce; text = set_plain }; payload = set_with set_code })
is_seal = record { own = set_own; own_eight = refl; text = sym sealed_set }

pub returns-clause-sealed : goal.returns-clause-sealed
unfolding computing
returns-clause-sealed c = record {
  choices = report_kept;
  drawn = drawn;
  fits = refl;
  in_the_end = λ whole. refl;
  nonces = record { seven = λ node number. seven_of (number == 1); offered = (refl, tt); opened = (opened_report, tt); sealed = (is_seal, tt) };
}

pub returns-clause-anew : goal.returns-clause-anew
unfolding computing
returns-clause-anew c = record {
  choices = all_kept;
  drawn = drawn;
  fits = refl;
  in_the_end = λ whole. refl;
  nonces = record { seven = λ node number. seven_of (number == 1); offered = tt; opened = tt; sealed = (is_seal, tt) };
}

pub returns-clause-live : goal.returns-clause-live
unfolding computing
returns-clause-live c = record {
  choices = all_kept;
  drawn = drawn;
  fits = refl;
  in_the_end = λ whole. refl;
  nonces = record { seven = λ node number. seven_of (number == 1); offered = (refl, (refl, tt)); opened = tt; sealed = tt };
}

pub returns-clause-unspent : goal.returns-clause-unspent
unfolding computing
returns-clause-unspent c = record {
  choices = unspent;
  drawn = drawn;
  fits = refl;
  in_the_end = λ whole. refl;
  nonces = record { seven = λ node number. seven_of (number == 1); offered = (refl, (refl, tt)); opened = tt; sealed = (is_seal, tt) };
}

pub returns-clause-spent : goal.returns-clause-spent
unfolding computing
returns-clause-spent c = record {
  choices = spent;
  drawn = drawn;
  fits = refl;
  in_the_end = λ whole. refl;
  nonces = record { seven = λ node number. seven_of (number == 1); offered = (refl, (refl, tt)); opened = (opened_report, tt); sealed = (is_seal, tt) };
}

pub returns-clause-kept : goal.returns-clause-kept
unfolding computing
returns-clause-kept c = record {
  choices = report_kept;
  drawn = drawn;
  fits = refl;
  in_the_end = λ whole. refl;
  nonces = record { seven = λ node number. seven_of (number == 1); offered = tt; opened = (opened_report, tt); sealed = tt };
}

pub returns-clause-over_restart : goal.returns-clause-over_restart
unfolding computing
returns-clause-over_restart c = record {
  choices = all_kept;
  drawn = drawn;
  fits = refl;
  in_the_end = λ whole. refl;
  nonces = record { seven = λ node number. seven_of (number == 1); offered = (refl, (refl, tt)); opened = tt; sealed = tt };
}

pub returns-clause-counted : goal.returns-clause-counted
unfolding computing
returns-clause-counted c = record {
  choices = all_kept;
  drawn = drawn;
  fits = refl;
  in_the_end = λ whole. refl;
  nonces = record { seven = λ node number. seven_of (number == 1); offered = tt; opened = tt; sealed = (is_seal, tt) };
}

pub returns-clause-unopened : goal.returns-clause-unopened
unfolding computing
returns-clause-unopened c = record {
  choices = opened_to_nothing;
  drawn = drawn;
  fits = refl;
  in_the_end = λ whole. refl;
  nonces = record { seven = λ node number. seven_of (number == 1); offered = (refl, tt); opened = (opened_changed, tt); sealed = tt };
}
