-- How the node that was served last by a transcript goes on with entries.
use Rattle.std.proofs.Common.{◌≡◌, ℕ, ◌&&◌, not, Bool, true, false, if◌then◌else◌, List, [], ◌∷◌, ◌++◌, map, refl, sym, ap, ap₂, ◌∙◌, append-nil, append_assoc}
use Rattle.std.specs.List.{AllByRecursion}
use Rattle.zw_words.specs.declared.side.Side.TheVariants.{Host, Chip}
use Rattle.zw_text.specs.declared.entry.Refusal.{Refusal}
use Rattle.zw_text.specs.declared.entry.Entry.{Entry}
use Rattle.zw_text.specs.declared.entry.Entry.TheVariants as entry
use Rattle.zw_text.specs.Transcript.{line_of}
use Rattle.host_heard.specs.declared.told.Told.{Told}
use Rattle.law_transcript.specs.Lists.{last_or}
use Rattle.law_transcript.specs.Nodes.{controller}
use Rattle.law_transcript.specs.Restarts.{begins_refused, is_restart}
use Rattle.law_transcript.specs.Units.{Carried, sending_in}
use Rattle.law_time.specs.Attempts.{Serving, no_attempts, served_step, serving, serving_after, serving_from}
use Rattle.law_time.specs.Heeds.{Heeds}
use Rattle.law_time.specs.Queue.{Requests, no_requests, queue_before, requests, requests_after, requests_from}
use Rattle.law_time.specs.Requests.{Asked, are_none, asked, is_new}
use Rattle.proof_giving.specs.proof_queue.proof_attempts.Series.{IsOfNoLine}
use Rattle.proof_giving.specs.proof_queue.proof_attempts.proof_requests.law_host.Heard.{heeds_alone}
use Rattle.proof_giving.proofs.Ahead.{ahead_from, ahead_joined}
use Rattle.proof_giving.proofs.Books.{last_is, same_step}
use Rattle.proof_choice.specs.Served.{served_from, served_so_far}

served_of : (heeds : Heeds) (past : List Entry) (s : Serving) (told : List Entry) → (serving_from heeds past s told).served ≡ served_from heeds past s.requests s.served told
served_of heeds past s [] = refl
served_of heeds past s (e ∷ told) = served_of heeds (past ++ e ∷ []) (serving_after heeds past s e told) told

pub served_is : (heeds : Heeds) (nodes : List ℕ) (past : List Entry) → (serving heeds nodes past).served ≡ served_so_far heeds past
served_is heeds nodes past = served_of heeds [] (record { requests = no_requests; served = controller; each = map (λ node. no_attempts (heeds.counted node) node) nodes }) past

-- neither a line or its refusal, nor a unit of the host
abbrev pub LeavesServed : Entry → Type 0
LeavesServed (entry.Said words) = ⊥
LeavesServed (entry.Refused refusal) = ⊥
LeavesServed (entry.Written Host unit) = ⊥
LeavesServed e = Unit {0}

-- the last request and what waits, with the node
record Both : Type 0 where
  asks : Requests
  node : ℕ

module _ (taken : List Entry → Carried → List Told) where
  abbrev heeds : Heeds
  heeds = heeds_alone taken

  abbrev both_step : List Entry → Both → Entry → List Entry → Both
  both_step past s e rest = record { asks = requests_after heeds past s.asks e rest; node = served_step heeds past s.asks s.node e rest }

  same_served : (past : List Entry) (r : Requests) (node : ℕ) (e : Entry) (rest other : List Entry) → begins_refused rest ≡ begins_refused other
      → served_step heeds past r node e rest ≡ served_step heeds past r node e other
  same_served past r node (entry.Said words) rest other is = ap (λ (b : Bool). if is_restart (line_of (entry.Said words)) && not b then controller else node) is
  same_served past r node (entry.Written Host unit) rest other is = refl
  same_served past r node (entry.Written Chip unit) rest other is = refl
  same_served past r node e rest other is = refl

  same_both : (past : List Entry) (s : Both) (e : Entry) (rest other : List Entry) → begins_refused rest ≡ begins_refused other → both_step past s e rest ≡ both_step past s e other
  same_both past s e rest other is =
      ap₂ (λ (r : Requests) (k : ℕ). record { asks = r; node = k }) (same_step taken past s.asks e rest other is) (same_served past s.asks s.node e rest other is)

  as_ahead : (past : List Entry) (s : Both) (told : List Entry) → served_from heeds past s.asks s.node told ≡ (ahead_from both_step same_both past s told).node
  as_ahead past s [] = refl
  as_ahead past s (e ∷ told) = as_ahead (past ++ e ∷ []) (both_step past s e told) told

  asks_ahead : (past : List Entry) (s : Both) (told : List Entry) → requests_from heeds past s.asks told ≡ (ahead_from both_step same_both past s told).asks
  asks_ahead past s [] = refl
  asks_ahead past s (e ∷ told) = asks_ahead (past ++ e ∷ []) (both_step past s e told) told

  abbrev first : Both
  first = record { asks = no_requests; node = controller }

  so_far : (past : List Entry) → ahead_from both_step same_both [] first past ≡ record { asks = requests heeds past; node = served_so_far heeds past }
  so_far past = ap₂ (λ (r : Requests) (k : ℕ). record { asks = r; node = k }) (sym (asks_ahead [] first past)) (sym (as_ahead [] first past))

  served_joined : (past told : List Entry) → begins_refused told ≡ false → served_so_far heeds (past ++ told) ≡ served_from heeds past (requests heeds past) (served_so_far heeds past) told
  served_joined past told fresh =
      as_ahead [] first (past ++ told)
      ∙ ap (λ (s : Both). s.node) (ahead_joined both_step same_both [] first past told fresh)
      ∙ ap (λ (s : Both). (ahead_from both_step same_both past s told).node) (so_far past)
      ∙ sym (as_ahead past (record { asks = requests heeds past; node = served_so_far heeds past }) told)

  -- ---- one entry more

  not_refused : (e : Entry) → IsOfNoLine e → begins_refused (e ∷ []) ≡ false
  not_refused (entry.Said words) is = absurd is
  not_refused (entry.Refused refusal) is = absurd is
  not_refused e is = refl

  served_one : (past : List Entry) (e : Entry) → IsOfNoLine e → served_so_far heeds (past ++ e ∷ []) ≡ served_step heeds past (requests heeds past) (served_so_far heeds past) e []
  served_one past e none = served_joined past (e ∷ []) (not_refused e none)

  -- the words of a line that does not start the host again, and of one that does; and those of one that is refused
  by_words : (past : List Entry) (words : List ℕ) (starts : Bool) → is_restart (line_of (entry.Said words)) ≡ starts
      → served_so_far heeds (past ++ entry.Said words ∷ []) ≡ (if starts && true then controller else served_so_far heeds past)
  by_words past words starts is =
      served_joined past (entry.Said words ∷ []) refl ∙ ap (λ (b : Bool). if b && true then controller else served_so_far heeds past) is

  pub served_said : (past : List Entry) (words : List ℕ) → is_restart (line_of (entry.Said words)) ≡ false → served_so_far heeds (past ++ entry.Said words ∷ []) ≡ served_so_far heeds past
  served_said past words is = by_words past words false is

  pub served_start : (past : List Entry) (words : List ℕ) → is_restart (line_of (entry.Said words)) ≡ true → served_so_far heeds (past ++ entry.Said words ∷ []) ≡ controller
  served_start past words is = by_words past words true is

  pub served_in_vain : (past : List Entry) (words : List ℕ) (refusal : Refusal) → served_so_far heeds (past ++ entry.Said words ∷ (entry.Refused refusal ∷ [])) ≡ served_so_far heeds past
  served_in_vain past words refusal = served_joined past (entry.Said words ∷ (entry.Refused refusal ∷ [])) refl ∙ by (is_restart (line_of (entry.Said words)))
    where
      by : (b : Bool) → (if b && false then controller else served_so_far heeds past) ≡ served_so_far heeds past
      by true = refl
      by false = refl

  -- ---- entries that leave it

  leaves_one : (past : List Entry) (e : Entry) → LeavesServed e → served_so_far heeds (past ++ e ∷ []) ≡ served_so_far heeds past
  leaves_one past (entry.Said words) leaves = absurd leaves
  leaves_one past (entry.Refused refusal) leaves = absurd leaves
  leaves_one past (entry.Written Host unit) leaves = absurd leaves
  leaves_one past (entry.Written Chip unit) leaves = served_one past (entry.Written Chip unit) tt
  leaves_one past e leaves = served_one past e tt

  pub served_left : (past told : List Entry) → AllByRecursion LeavesServed told → served_so_far heeds (past ++ told) ≡ served_so_far heeds past
  served_left past [] all = ap (λ (l : List Entry). served_so_far heeds l) (append-nil past)
  served_left past (e ∷ told) all =
      ap (λ (l : List Entry). served_so_far heeds l) (sym (append_assoc past (e ∷ []) told)) ∙ served_left (past ++ e ∷ []) told all.1 ∙ leaves_one past e all.0

  -- a unit of the host that is no new request, and one that is
  abbrev by_unit : List Entry → List ℕ → Bool → Bool → ℕ
  by_unit past unit new none = if new && none then last_or (served_so_far heeds past) (map (λ (carried : Carried). carried.node) (sending_in unit)) else served_so_far heeds past

  unit_is : (past : List Entry) (unit : List ℕ) (new : Bool) → is_new (asked past) unit ≡ new
      → served_so_far heeds (past ++ entry.Written Host unit ∷ []) ≡ by_unit past unit new (are_none (queue_before heeds past (entry.Written Host unit)).wants)
  unit_is past unit new is =
      served_one past (entry.Written Host unit) tt
      ∙ ap (λ (b : Bool). by_unit past unit b (are_none (queue_before heeds past (entry.Written Host unit)).wants)) (ap (λ (a : Asked). is_new a unit) (last_is taken past) ∙ is)

  pub served_again : (past : List Entry) (unit : List ℕ) → is_new (asked past) unit ≡ false → served_so_far heeds (past ++ entry.Written Host unit ∷ []) ≡ served_so_far heeds past
  served_again past unit old = unit_is past unit false old

  -- one that has waited, and one for which none waits
  pub served_waited : (past : List Entry) (unit : List ℕ) → is_new (asked past) unit ≡ true → are_none (queue_before heeds past (entry.Written Host unit)).wants ≡ false
      → served_so_far heeds (past ++ entry.Written Host unit ∷ []) ≡ served_so_far heeds past
  served_waited past unit new some = unit_is past unit true new ∙ ap (λ (b : Bool). by_unit past unit true b) some

  pub served_sent : (past : List Entry) (unit : List ℕ) → is_new (asked past) unit ≡ true → are_none (queue_before heeds past (entry.Written Host unit)).wants ≡ true
      → served_so_far heeds (past ++ entry.Written Host unit ∷ []) ≡ last_or (served_so_far heeds past) (map (λ (carried : Carried). carried.node) (sending_in unit))
  served_sent past unit new none = unit_is past unit true new ∙ ap (λ (b : Bool). by_unit past unit true b) none
