-- How the history that a transcript shows grows, and that routes and what arrives count nothing in it.
use Rattle.std.proofs.Common.{◌≡◌, ℕ, zero, suc, ◌+◌, ◌==◌, if◌then◌else◌, List, [], ◌∷◌, ◌++◌, refl, sym, ap, ap₂, ◌∙◌, nat_lt, replicate}
use Rattle.std.specs.Prelude.{Option, Some, None}
use Rattle.std.specs.Option.{option_map}
use Rattle.std.specs.List.{AllByRecursion}
use Rattle.air_frames.specs.declared.frame.Departure.{Departure}
use Rattle.air_frames.specs.declared.frame.Heading.{Heading}
use Rattle.air_frames.specs.declared.ages.Refusal.TheVariants.{Forgotten}
use Rattle.air_frames.specs.Ages.{stale_by}
use Rattle.air_frames.specs.Nonces.{nonce_in}
use Rattle.air_frames.specs.History.{Mark, Goes, Begins, goes_in, begins_in, last_after, last_in, news_by, new_in, news_after, through, since, departure_at, Later, NewNonces, stale_in, refusal_in}
use Rattle.zw_text.specs.declared.entry.Entry.{Entry}
use Rattle.zw_text.specs.Transcript.{folded}
use Rattle.zw_text.proofs.Views.{folded-append}
use Rattle.proof_air.specs.Logs.{mark_step, log_of, plain, plain_mark, plain_log, IsApart}

-- ---- a transcript

pub log_grows : (past told : List Entry) → log_of (past ++ told) ≡ folded mark_step (log_of past) told
log_grows past told = folded-append mark_step [] past told

-- ---- a history without routes

pub plain-append : (xs ys : List Mark) → plain_log (xs ++ ys) ≡ plain_log xs ++ plain_log ys
plain-append [] ys = refl
plain-append (x ∷ xs) ys = ap (λ (l : List Mark). plain_mark x ∷ l) (plain-append xs ys)

pub plain-begins : (k node : ℕ) → plain_log (replicate k (Begins node)) ≡ replicate k (Begins node)
plain-begins zero node = refl
plain-begins (suc k) node = ap (λ (l : List Mark). Begins node ∷ l) (plain-begins k node)

pub plain_begun : (node : ℕ) (log : List Mark) → begins_in node (plain_log log) ≡ begins_in node log
plain_begun node [] = refl
plain_begun node (Goes departure ∷ log) = plain_begun node log
plain_begun node (Begins other ∷ log) = ap (λ (n : ℕ). (if other == node then 1 else 0) + n) (plain_begun node log)

pub plain_sent : (log : List Mark) → goes_in (plain_log log) ≡ goes_in log
plain_sent [] = refl
plain_sent (Goes departure ∷ log) = ap suc (plain_sent log)
plain_sent (Begins node ∷ log) = plain_sent log

plain_last : (node : ℕ) (heading : Heading) (before : Option (List ℕ)) (log : List Mark) → last_in node heading before (plain_log log) ≡ last_in node heading before log
plain_last node heading before [] = refl
plain_last node heading before (Goes departure ∷ log) = plain_last node heading (last_after node heading departure before) log
plain_last node heading before (Begins other ∷ log) = plain_last node heading before log

plain_new : (node : ℕ) (log : List Mark) (departure : Departure) → new_in node (plain_log log) (plain departure) ≡ new_in node log departure
plain_new node log departure =
    ap (λ (last : Option (List ℕ)). if departure.node == node then news_by last (nonce_in departure.payload) else 0) (plain_last node departure.heading None log)

plain_news : (node : ℕ) (log more : List Mark) → news_after node (plain_log log) (plain_log more) ≡ news_after node log more
plain_news node log [] = refl
plain_news node log (Goes departure ∷ more) =
    ap₂ (λ (a b : ℕ). a + b) (plain_new node log departure)
    (ap (λ (l : List Mark). news_after node l (plain_log more)) (sym (plain-append log (Goes departure ∷ []))) ∙ plain_news node (log ++ Goes departure ∷ []) more)
plain_news node log (Begins other ∷ more) =
    ap (λ (l : List Mark). news_after node l (plain_log more)) (sym (plain-append log (Begins other ∷ []))) ∙ plain_news node (log ++ Begins other ∷ []) more

plain_through : (log : List Mark) (number : ℕ) → through (plain_log log) number ≡ plain_log (through log number)
plain_through [] number = refl
plain_through (Goes departure ∷ log) zero = refl
plain_through (Goes departure ∷ log) (suc number) = ap (λ (l : List Mark). Goes (plain departure) ∷ l) (plain_through log number)
plain_through (Begins node ∷ log) number = ap (λ (l : List Mark). Begins node ∷ l) (plain_through log number)

plain_since : (log : List Mark) (number : ℕ) → since (plain_log log) number ≡ plain_log (since log number)
plain_since [] number = refl
plain_since (Goes departure ∷ log) zero = refl
plain_since (Goes departure ∷ log) (suc number) = plain_since log number
plain_since (Begins node ∷ log) number = plain_since log number

pub plain_at : (log : List Mark) (number : ℕ) → departure_at (plain_log log) number ≡ option_map plain (departure_at log number)
plain_at [] number = refl
plain_at (Goes departure ∷ log) zero = refl
plain_at (Goes departure ∷ log) (suc number) = plain_at log number
plain_at (Begins node ∷ log) number = plain_at log number

plain_later : (log : List Mark) (node number : ℕ) → Later (plain_log log) node number ≡ Later log node number
plain_later log node number = ap (λ (l : List Mark). begins_in node l) (plain_since log number) ∙ plain_begun node (since log number)

plain_nonces : (log : List Mark) (node number : ℕ) → NewNonces (plain_log log) node number ≡ NewNonces log node number
plain_nonces log node number =
    ap₂ (λ (a b : List Mark). news_after node a b) (plain_through log number) (plain_since log number) ∙ plain_news node (through log number) (since log number)

plain_stale : (log : List Mark) (number : ℕ) (found : Option Departure) → stale_in (plain_log log) number (option_map plain found) ≡ stale_in log number found
plain_stale log number None = refl
plain_stale log number (Some departure) =
    ap (λ (sent : ℕ). if nat_lt (number + 4097) sent then Some Forgotten else stale_by departure.payload (Later (plain_log log) departure.node number) (NewNonces (plain_log log) departure.node number))
    (plain_sent log)
    ∙ ap₂ (λ (later nonces : ℕ). if nat_lt (number + 4097) (goes_in log) then Some Forgotten else stale_by departure.payload later nonces)
    (plain_later log departure.node number) (plain_nonces log departure.node number)

-- why a frame is not repeated is the same
pub plain_refusal : (log : List Mark) (number : ℕ) → refusal_in (plain_log log) number ≡ refusal_in log number
plain_refusal log zero = refl
plain_refusal log (suc number) = ap (λ (found : Option Departure). stale_in (plain_log log) number found) (plain_at log number) ∙ plain_stale log number (departure_at log number)

-- each of its frames has a node that is none of the controller's own still
pub plain_apart : (log : List Mark) → AllByRecursion IsApart log → AllByRecursion IsApart (plain_log log)
plain_apart [] apart = tt
plain_apart (Goes departure ∷ log) apart = (apart.0, plain_apart log apart.1)
plain_apart (Begins node ∷ log) apart = (tt, plain_apart log apart.1)
