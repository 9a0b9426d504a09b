-- The open session of a node, by what is kept of its sessions, and what reports make of it.
use Rattle.std.proofs.Common.{◌≡◌, ℕ, zero, suc, ◌==◌, Bool, true, false, if◌then◌else◌, List, [], ◌∷◌, length, Option, Some, None, is_none, option_map, refl, sym, ap, ◌∙◌}
use Rattle.std.specs.Prelude.{slice_get}
use Rattle.std.specs.Option.{option_or}
use Rattle.std.proofs.lemmas.Bool.{eq-eqb}
use Rattle.supervision.specs.Host.{HostBook, open_session, told_of, command_at as command_of_session}
use Rattle.supervision.specs.Session.{wire_id}
use Rattle.supervision.specs.declared.session.TheConstants.{WORKING}
use Rattle.supervision.specs.declared.host_node.Told.TheVariants.{Final, Working, Old}
use Rattle.host_keep.specs.Kept.{Session, is_open}
use Rattle.host_keep.specs.Status.{status_byte}
use Rattle.host_keep.specs.declared.final_status.FinalStatus.{FinalStatus}
use Rattle.host_keep.specs.declared.final_status.FinalStatus.TheVariants as final
use Rattle.host_model.specs.Holding.{last_ended, commands_of, ended_in}
use Rattle.host_model.proofs.Ended.{last_command}
use Rattle.host_model.proofs.Opened.{is_open-last, opened_by}

-- the last of some sessions has this command and has not ended
pub record IsGoing (sessions : List Session) (command : ℕ) : Type 0 where
  pub one : Session
  pub more : List Session
  pub is : sessions ≡ one ∷ more
  pub going : last_ended (one ∷ more) ≡ None
  pub last : last_command one more ≡ command

last_at : (one : Session) (more : List Session) (k : ℕ) → suc k ≡ length (one ∷ more) → slice_get (commands_of (one ∷ more)) k ≡ Some (last_command one more)
last_at one [] k e = let z : k ≡ 0 = cc in ap (λ (j : ℕ). slice_get (one.command ∷ []) j) z
last_at one (next ∷ more) zero e = absurd (none e)
  where
    none : suc zero ≡ suc (suc (length more)) → ⊥
    none f = cc
last_at one (next ∷ more) (suc k) e = last_at next more k cc

none_of : (o : Option FinalStatus) → is_none o ≡ true → o ≡ None
none_of None e = refl
none_of (Some status) e = cc

if_some : (b : Bool) (k session : ℕ) → (if b then Some k else None) ≡ Some session → (b ≡ true) × (k ≡ session)
if_some true k session e = (refl, cc)
if_some false k session e = absurd cc

pub going_of : (book : HostBook) (sessions : List Session) (session command : ℕ) → book.commands ≡ commands_of sessions → book.outcome ≡ option_map status_byte (last_ended sessions)
    → open_session book ≡ Some session → command_of_session book.commands session ≡ Some command → IsGoing sessions command × (session ≡ length sessions)
going_of book [] session command commands outcome opened carried = absurd (never (sym (opened_by book [] commands outcome) ∙ opened))
  where
    never : None ≡ Some session → ⊥
    never e = cc
going_of book (one ∷ more) session command commands outcome opened carried =
    let both = if_some (is_open (one ∷ more)) (length (one ∷ more)) session (sym (opened_by book (one ∷ more) commands outcome) ∙ opened) in (
      record {
        one = one;
        more = more;
        is = refl;
        going = none_of (last_ended (one ∷ more)) (sym (is_open-last one more) ∙ both.0);
        last = some_is (sym (last_at one more (length more) refl) ∙ ap (λ (l : List ℕ). command_of_session l (length (one ∷ more))) (sym commands)
            ∙ ap (λ (k : ℕ). command_of_session book.commands k) both.1 ∙ carried);
      },
      sym both.1,
    )
  where
    some_is : Some (last_command one more) ≡ Some command → last_command one more ≡ command
    some_is e = cc

pub same_if : (b : Bool) (x : Option FinalStatus) → b ≡ true → option_or None (if b then Some x else None) ≡ Some x
same_if true x e = refl
same_if false x e = cc

pub ended_in-last : (one : Session) (more : List Session) → ended_in (one ∷ more) (last_command one more) ≡ Some (last_ended (one ∷ more))
ended_in-last one [] = same_if (one.command == one.command) one.ended (eq-eqb one.command one.command refl)
ended_in-last one (next ∷ more) =
    ap (λ (o : Option (Option FinalStatus)). option_or o (if one.command == last_command next more then Some one.ended else None)) (ended_in-last next more)

-- ---- reports

told_by : (a b : Bool) (k session : ℕ) → (if a then (if b then Working else Final k) else Old) ≡ Final session → k ≡ session
told_by true true k session e = cc
told_by true false k session e = cc
told_by false b k session e = cc

final_is_open : (commands : List ℕ) (outcome : Option ℕ) (attempts id status session : ℕ)
    → told_of (record { commands = commands; outcome = outcome; attempts = attempts }) id status ≡ Final session
    → open_session (record { commands = commands; outcome = outcome; attempts = attempts }) ≡ Some session
final_is_open [] None attempts id status session e = cc
final_is_open (command ∷ more) None attempts id status session e =
    ap (λ (k : ℕ). Some k) (told_by (id == wire_id (length (command ∷ more))) (status == WORKING) (length (command ∷ more)) session e)
final_is_open commands (Some ended) attempts id status session e = cc

-- what a report ends is the open session
pub final_session : (book : HostBook) (id status session : ℕ) → told_of book id status ≡ Final session → open_session book ≡ Some session
final_session book id status session e = final_is_open book.commands book.outcome book.attempts id status session e

not_working : (status : FinalStatus) → (status_byte status == WORKING) ≡ false
not_working final.NoSupport = refl
not_working final.Fail = refl
not_working final.Success = refl

told_final : (a b : Bool) (k session : ℕ) → a ≡ true → b ≡ false → k ≡ session → (if a then (if b then Working else Final k) else Old) ≡ Final session
told_final true false k session p q e = ap (λ (j : ℕ). Final j) e
told_final true true k session p q e = cc
told_final false b k session p q e = cc

open_is_told : (commands : List ℕ) (outcome : Option ℕ) (attempts session : ℕ) (status : FinalStatus)
    → open_session (record { commands = commands; outcome = outcome; attempts = attempts }) ≡ Some session
    → told_of (record { commands = commands; outcome = outcome; attempts = attempts }) (wire_id session) (status_byte status) ≡ Final session
open_is_told [] None attempts session status e = cc
open_is_told (command ∷ more) None attempts session status e =
    let same : length (command ∷ more) ≡ session = cc in
    told_final (wire_id session == wire_id (length (command ∷ more))) (status_byte status == WORKING) (length (command ∷ more)) session
    (eq-eqb (wire_id session) (wire_id (length (command ∷ more))) (ap (λ (k : ℕ). wire_id k) (sym same))) (not_working status) same
open_is_told commands (Some ended) attempts session status e = cc

-- the open session is ended by a report with its number
pub told_session : (book : HostBook) (session : ℕ) (status : FinalStatus) → open_session book ≡ Some session → told_of book (wire_id session) (status_byte status) ≡ Final session
told_session book session status e = open_is_told book.commands book.outcome book.attempts session status e
