-- Which session of a node is open, by what is kept of its sessions.
use Rattle.std.proofs.Common.{◌≡◌, ℕ, Bool, if◌then◌else◌, List, [], ◌∷◌, length, Option, Some, None, is_none, option_map, refl, sym, ap, ◌∙◌}
use Rattle.std.proofs.lemmas.List.{length-map}
use Rattle.supervision.specs.Host.{HostBook, open_session}
use Rattle.host_keep.specs.Kept.{Session, is_open}
use Rattle.host_keep.specs.Status.{status_byte}
use Rattle.host_keep.specs.declared.final_status.FinalStatus.{FinalStatus}
use Rattle.host_model.specs.Holding.{last_ended, commands_of}

pub is_open-last : (one : Session) (more : List Session) → is_open (one ∷ more) ≡ is_none (last_ended (one ∷ more))
is_open-last one [] = refl
is_open-last one (next ∷ more) = is_open-last next more

-- a book of these sessions
abbrev book_of : List Session → ℕ → HostBook
book_of sessions attempts = record { commands = commands_of sessions; outcome = option_map status_byte (last_ended sessions); attempts = attempts }

open_one : (one : Session) (more : List Session) (attempts : ℕ) (ended : Option FinalStatus) → last_ended (one ∷ more) ≡ ended
    → open_session (record { commands = commands_of (one ∷ more); outcome = option_map status_byte ended; attempts = attempts })
    ≡ (if is_none ended then Some (length (commands_of (one ∷ more))) else None)
open_one one more attempts None e = refl
open_one one more attempts (Some status) e = refl

open_of : (sessions : List Session) (attempts : ℕ) → open_session (book_of sessions attempts) ≡ (if is_open sessions then Some (length (commands_of sessions)) else None)
open_of [] attempts = refl
open_of (one ∷ more) attempts =
    open_one one more attempts (last_ended (one ∷ more)) refl
    ∙ ap (λ (b : Bool). if b then Some (length (commands_of (one ∷ more))) else None) (sym (is_open-last one more))

pub opened_by : (book : HostBook) (sessions : List Session) → book.commands ≡ commands_of sessions → book.outcome ≡ option_map status_byte (last_ended sessions)
    → open_session book ≡ (if is_open sessions then Some (length sessions) else None)
opened_by book sessions commands outcome =
    ap (λ (o : Option ℕ). open_session (record book { outcome = o })) outcome
    ∙ ap (λ (l : List ℕ). open_session (record { commands = l; outcome = option_map status_byte (last_ended sessions); attempts = book.attempts })) commands
    ∙ open_of sessions book.attempts
    ∙ ap (λ (k : ℕ). if is_open sessions then Some k else None) (length-map sessions (λ session. session.command))
