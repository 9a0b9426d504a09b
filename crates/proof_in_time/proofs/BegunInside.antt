-- A command of a stretch that has a final outcome had its session begun in the stretch.
use Rattle.std.proofs.Common.{◌≡◌, ◌≤◌, ℕ, zero, suc, ◌+◌, ◌==◌, inl, inr, Bool, true, false, if◌then◌else◌, List, [], ◌∷◌, ◌++◌, length, Option, Some, None, refl, sym, subst, arith}
use Rattle.std.proofs.lemmas.Bool.{eq-eqb}
use Rattle.std.proofs.lemmas.Option.{slice_get_within}
use Rattle.std.specs.Prelude.{◌⊎◌, filter, slice_get}
use Rattle.zw_text.specs.declared.entry.Entry.{Entry}
use Rattle.zw_text.specs.declared.entry.Entry.TheVariants.{Accepted, Begin}
use Rattle.zw_text.specs.declared.entry.Outcome.{Outcome}
use Rattle.zw_text.specs.declared.entry.Outcome.TheVariants.{Waiting, Begun, Success, Fail, NoSupport, Unanswered, Cancelled}
use Rattle.zw_text.specs.Transcript.{accepted, accepted_numbers, carried, carried_at, endings, outcome, session_at, sessions, shown}
use Rattle.zw_text.proofs.Views.{shown-append}
use Rattle.law_transcript.specs.Commands.{is_waiting, numbers_of, waiting}
use Rattle.law_transcript.specs.Lists.{Has}
use Rattle.law_transcript.specs.Stores.{node_at}
use Rattle.law_transcript.proofs.Having.{all_has, has_either, has_left, has_right, has_shown, shown_has}
use Rattle.law_time.specs.Sessions.{is_final}
use Rattle.law_time.specs.Stretches.{accepted_for, commands_in}
use Rattle.host_model.specs.State.{Command, HostState, command_at}
use Rattle.proof_host.specs.Facts.{Facts}
use Rattle.proof_host.specs.Laws.{HostLaws, MayStand, number_for, numbers_for}
use Rattle.proof_host.specs.Tables.{nodes_by}
use Rattle.proof_host.proofs.Over.{each-right}
use Rattle.proof_spoken.proofs.BegunCommands.{IsStarted, accepted_here, started_has}
use Rattle.proof_walk.proofs.Moving.{both_none}
use Rattle.proof_in_time.proofs.BegunBefore.{same_has, waits_unbegun}
use Rattle.proof_in_time.proofs.Endings.{accepted_at, is_accepted}

-- ---- before the stretch

-- what carries no command has no session of it
none_carried : (n command : ℕ) (past : List Entry) → carried command past ≡ [] → Has (sessions n past) command → ⊥
none_carried n command [] none has = has
none_carried n command (Begin node session number ∷ past) none has =
    by (has_either (session_at n (Begin node session number)) (sessions n past) command has) (λ later. none_carried n command past (both_none (carried_at command (Begin node session number)) (carried command past) none).1 later)
  where
    by : Has (session_at n (Begin node session number)) command ⊎ Has (sessions n past) command → (Has (sessions n past) command → ⊥) → ⊥
    by (inl own) rest =
        let is : (number == command) ≡ true = eq-eqb number command (same_has (node == n) number command own) in
        let here : (if number == command then session ∷ [] else []) ≡ [] = (both_none (carried_at command (Begin node session number)) (carried command past) none).0 in
        let some : session ∷ [] ≡ [] = subst (λ (b : Bool). (if b then session ∷ [] else []) ≡ []) is here in
        absurd cc
    by (inr later) rest = rest later
none_carried n command (entry ∷ past) none has = none_carried n command past none has

is_waiting_one : (o : Outcome) → is_waiting o ≡ true → o ≡ Waiting
is_waiting_one Waiting e = refl
is_waiting_one Begun e = absurd cc
is_waiting_one Success e = absurd cc
is_waiting_one Fail e = absurd cc
is_waiting_one NoSupport e = absurd cc
is_waiting_one Unanswered e = absurd cc
is_waiting_one Cancelled e = absurd cc

filtered : (test : ℕ → Bool) (xs : List ℕ) (x : ℕ) → Has (filter test xs) x → Has xs x × (test x ≡ true)
filtered test [] x has = absurd has
filtered test (first ∷ xs) x has = by (test first) refl has (λ later. filtered test xs x later)
  where
    by : (b : Bool) → test first ≡ b → Has (if b then first ∷ filter test xs else filter test xs) x → (Has (filter test xs) x → Has xs x × (test x ≡ true)) → Has (first ∷ xs) x × (test x ≡ true)
    by true e (inl is) rest = (inl is, subst (λ (k : ℕ). test k ≡ true) is e)
    by true e (inr later) rest = let more = rest later in (inr more.0, more.1)
    by false e later rest = let more = rest later in (inr more.0, more.1)

waited_unbegun : (n command : ℕ) (past : List Entry) → outcome command past ≡ Waiting → Has (sessions n past) command → ⊥
waited_unbegun n command past waits = none_carried n command past (waits_unbegun (carried command past) (endings command past) waits)

-- a number of the table
few_commands : (commands : List Command) (n command : ℕ) → Has (nodes_by (command_at commands command)) n → command ≤ length commands
few_commands commands n zero has = omega arith
few_commands commands n (suc k) has = by (slice_get commands k) refl has
  where
    by : (o : Option Command) → slice_get commands k ≡ o → Has (nodes_by o) n → suc k ≤ length commands
    by None e none = absurd none
    by (Some found) e some = let less = slice_get_within commands k found e in omega (arith, less)

later_unbegun : (n command : ℕ) (past : List Entry) (h : HostState) → Facts past h → HostLaws past → length (accepted_numbers past) + 1 ≤ command → Has (sessions n past) command → ⊥
later_unbegun n command past h facts laws above has =
    let numbered : Has (numbers_for n past) command = all_has (Has (numbers_for n past)) (sessions n past) command (laws.accepted n) has in
    let one = shown_has (number_for n) past command numbered in
    let for = has_shown (node_at command) past one.by n one.among (accepted_here n command one.by one.shows) in
    let few = few_commands h.commands n command (subst (λ (l : List ℕ). Has l n) (facts.accepted.nodes command) for) in
    let count = facts.accepted.count in
    absurd (omega (arith, above, few, count))

-- ---- in it

number_has : (n command : ℕ) (told : List Entry) → Has (shown (accepted_for n) told) command → Has (numbers_for n told) command
number_has n command told has =
    let one = shown_has (accepted_for n) told command has in
    let own : Has (number_for n (Accepted command n)) command = subst (λ (b : Bool). Has (if b then command ∷ [] else []) command) (sym (eq-eqb n n refl)) (inl refl) in
    has_shown (number_for n) told one.by command one.among (subst (λ (e : Entry). Has (number_for n e) command) (sym (is_accepted n command one.by one.shows)) own)

final_started : (o : Outcome) → is_final o ≡ true → IsStarted o
final_started Success e = tt
final_started Fail e = tt
final_started NoSupport e = tt
final_started Waiting e = absurd cc
final_started Begun e = absurd cc
final_started Unanswered e = absurd cc
final_started Cancelled e = absurd cc

pub begun_inside : (n command : ℕ) (past told : List Entry) (was h : HostState) → Facts past was → HostLaws past → Facts (past ++ told) h → numbers_of (accepted n past) ≡ numbers_for n past → Has (commands_in past told n) command
    → is_final (outcome command (past ++ told)) ≡ true → Has (sessions n told) command
begun_inside n command past told was h before laws facts numbers has over = by (has_either (waiting n past) (shown (accepted_for n) told) command has)
  where
    begun : Has (numbers_for n (past ++ told)) command → (Has (sessions n past) command → ⊥) → Has (sessions n told) command
    begun numbered none =
        let all = started_has (past ++ told) h.commands n command facts.stand (facts.accepted.nodes command) numbered (final_started (outcome command (past ++ told)) over) in
        inside (has_either (sessions n past) (sessions n told) command (subst (λ (l : List ℕ). Has l command) (shown-append (session_at n) past told) all))
      where
        inside : Has (sessions n past) command ⊎ Has (sessions n told) command → Has (sessions n told) command
        inside (inl own) = absurd (none own)
        inside (inr later) = later

    in_all : Has (numbers_for n past ++ numbers_for n told) command → Has (numbers_for n (past ++ told)) command
    in_all some = subst (λ (l : List ℕ). Has l command) (sym (shown-append (number_for n) past told)) some

    by : Has (waiting n past) command ⊎ Has (shown (accepted_for n) told) command → Has (sessions n told) command
    by (inl waits) =
        let one = filtered (λ number. is_waiting (outcome number past)) (numbers_of (accepted n past)) command waits in
        begun (in_all (has_left (numbers_for n past) (numbers_for n told) command (subst (λ (l : List ℕ). Has l command) numbers one.0))) (waited_unbegun n command past (is_waiting_one (outcome command past) one.1))
    by (inr accepted) =
        let was_accepted = accepted_at n command past told (each-right MayStand [] past told facts.stand) accepted in
        begun (in_all (has_right (numbers_for n past) (numbers_for n told) command (number_has n command told accepted))) (later_unbegun n command past was before laws was_accepted.later)
