-- The value that the sessions of a node confirm, with one session more, once the last one ends, and with one command more.
use Rattle.std.proofs.Common.{◌≡◌, ℕ, zero, suc, ◌≤◌, List, [], ◌∷◌, ◌++◌, length, All, Option, Some, None, refl, ap, ◌∙◌, arith}
use Rattle.std.specs.Prelude.{slice_get}
use Rattle.std.proofs.lemmas.List.Elements.{All-head, All-tail}
use Rattle.zw_base.specs.declared.property.Property.{Property}
use Rattle.host_keep.specs.Kept.{Session, Taken, command_of, ending, value_by, value_ended, or_else, confirmed_in}
use Rattle.host_keep.specs.declared.final_status.FinalStatus.{FinalStatus}
use Rattle.host_model.specs.Holding.{last_ended, commands_of}
use Rattle.host_model.proofs.Ended.{opening, last_command}

pub confirmed_in-push : (commands : List Taken) (sessions : List Session) (command : ℕ) (p : Property) → confirmed_in commands (sessions ++ opening command ∷ []) p ≡ confirmed_in commands sessions p
confirmed_in-push commands [] command p = refl
confirmed_in-push commands (first ∷ rest) command p =
    ap (λ (o : Option ℕ). or_else o (value_ended first.ended (value_by (command_of commands first.command) p))) (confirmed_in-push commands rest command p)

-- the value that the last one confirms, once it ended so
abbrev pub last_value : List Taken → FinalStatus → ℕ → Property → Option ℕ
last_value commands status command p = value_ended (Some status) (value_by (command_of commands command) p)

pub either_first : (a b c : Option ℕ) → or_else (or_else a b) c ≡ or_else a (or_else b c)
either_first None b c = refl
either_first (Some v) b c = refl

-- the last of these has not ended, and ends so
none_yet : (a : Option FinalStatus) (now value : Option ℕ) → a ≡ None → or_else None now ≡ or_else now (or_else None (value_ended a value))
none_yet None None value e = refl
none_yet None (Some v) value e = refl
none_yet (Some status) now value e = cc

pub confirmed_in-ending : (commands : List Taken) (one : Session) (more : List Session) (status : FinalStatus) (p : Property) → last_ended (one ∷ more) ≡ None
    → confirmed_in commands (ending (one ∷ more) status) p ≡ or_else (last_value commands status (last_command one more) p) (confirmed_in commands (one ∷ more) p)
confirmed_in-ending commands one [] status p going = none_yet one.ended (last_value commands status one.command p) (value_by (command_of commands one.command) p) going
confirmed_in-ending commands one (next ∷ more) status p going =
    ap (λ (o : Option ℕ). or_else o (value_ended one.ended (value_by (command_of commands one.command) p))) (confirmed_in-ending commands next more status p going)
    ∙ either_first (last_value commands status (last_command next more) p) (confirmed_in commands (next ∷ more) p) (value_ended one.ended (value_by (command_of commands one.command) p))

-- ---- one more command

got_still : (commands : List Taken) (one : Taken) (k : ℕ) → suc k ≤ length commands → slice_get (commands ++ one ∷ []) k ≡ slice_get commands k
got_still [] one k within = absurd (omega arith)
got_still (first ∷ rest) one zero within = refl
got_still (first ∷ rest) one (suc k) within = got_still rest one k (omega arith)

pub command_still : (commands : List Taken) (one : Taken) (number : ℕ) → number ≤ length commands → command_of (commands ++ one ∷ []) number ≡ command_of commands number
command_still commands one zero within = refl
command_still commands one (suc k) within = got_still commands one k within

pub confirmed_in-more : (commands : List Taken) (one : Taken) (sessions : List Session) (p : Property) → All (λ number. number ≤ length commands) (commands_of sessions)
    → confirmed_in (commands ++ one ∷ []) sessions p ≡ confirmed_in commands sessions p
confirmed_in-more commands one [] p all = refl
confirmed_in-more commands one (first ∷ rest) p all =
    let bound : first.command ≤ length commands = All-head (λ number. number ≤ length commands) first.command (commands_of rest) all in
    ap (λ (o : Option ℕ). or_else o (value_ended first.ended (value_by (command_of (commands ++ one ∷ []) first.command) p)))
    (confirmed_in-more commands one rest p (All-tail (λ number. number ≤ length commands) first.command (commands_of rest) all))
    ∙ ap (λ (t : Option Taken). or_else (confirmed_in commands rest p) (value_ended first.ended (value_by t p))) (command_still commands one first.command bound)
