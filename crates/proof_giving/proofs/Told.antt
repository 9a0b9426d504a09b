-- How the attempts of a node grow by entries, and that those of several nodes are those of each.
use Rattle.std.proofs.Common.{◌≡◌, ℕ, ◌+◌, ◌&&◌, not, Bool, true, false, if◌then◌else◌, List, [], ◌∷◌, ◌++◌, map, refl, sym, ap, ap₂, ◌∙◌, append-nil, append_assoc}
use Rattle.std.specs.List.{AllByRecursion, list_any}
use Rattle.zw_words.specs.declared.side.Side.TheVariants.{Host, Chip}
use Rattle.zw_text.specs.declared.entry.Refusal.{Refusal}
use Rattle.zw_text.specs.declared.entry.Entry.{Entry}
use Rattle.zw_text.specs.declared.entry.Entry.TheVariants as entry
use Rattle.zw_text.specs.Transcript.{line_of}
use Rattle.host_heard.specs.declared.told.Told.{Told}
use Rattle.law_transcript.specs.Nodes.{controller}
use Rattle.law_transcript.specs.Restarts.{begins_refused, is_restart}
use Rattle.law_transcript.specs.Units.{Carried, sending_in}
use Rattle.law_time.specs.Attempts.{Attempts, Serving, anew, attempts_by_request, attempts_by_unit, attempts_step, begins_anew, goes_on, is_last_nonce, is_late, is_next_nonce, is_of_attempt, is_sign, attempt_is_over, no_attempts, serving, serving_after, serving_from, with_nonce, with_nonces, with_nonces_here, with_sign, waits_for_nonce}
use Rattle.law_time.specs.Heeds.{Heeds}
use Rattle.law_time.specs.Judged.{is_acknowledgement}
use Rattle.law_time.specs.Moments.{clock}
use Rattle.law_time.specs.Queue.{Requests, no_requests, requests, requests_after, requests_from}
use Rattle.law_time.specs.Requests.{Asked, are_none, is_new}
use Rattle.proof_queue.specs.proof_attempts.Series.{IsOfNoLine}
use Rattle.proof_queue.specs.proof_attempts.proof_requests.law_host.Heard.{heeds_alone}
use Rattle.proof_queue.proofs.Ahead.{ahead_from, ahead_joined}
use Rattle.proof_queue.proofs.Books.{same_step}
use Rattle.proof_giving.specs.Told.{LeavesAttempts, attempts_from, attempts_so_far}

-- ---- several nodes

all_same : {A : Type 0} (items : List A) → items ≡ map (λ item. item) items
all_same [] = refl
all_same {A} (item ∷ items) = ap (λ (l : List A). item ∷ l) (all_same items)

map_twice : {A B C : Type 0} (f : B → C) (g : A → B) (items : List A) → map f (map g items) ≡ map (λ item. f (g item)) items
map_twice f g [] = refl
map_twice {C = C} f g (item ∷ items) = ap (λ (l : List C). f (g item) ∷ l) (map_twice f g items)

each_from : (heeds : Heeds) (past : List Entry) (s : Serving) (told : List Entry) → (serving_from heeds past s told).each ≡ map (λ a. attempts_from heeds past s.requests a told) s.each
each_from heeds past s [] = all_same s.each
each_from heeds past s (e ∷ told) =
    each_from heeds (past ++ e ∷ []) (serving_after heeds past s e told) told
    ∙ map_twice (λ a. attempts_from heeds (past ++ e ∷ []) (requests_after heeds past s.requests e told) a told) (attempts_step heeds past s.requests e told) s.each

pub each_is : (heeds : Heeds) (nodes : List ℕ) (past : List Entry) → (serving heeds nodes past).each ≡ map (λ n. attempts_so_far heeds n past) nodes
each_is heeds nodes past =
    each_from heeds [] (record { requests = no_requests; served = controller; each = map (λ node. no_attempts (heeds.counted node) node) nodes }) past
    ∙ map_twice (λ a. attempts_from heeds [] no_requests a past) (λ node. no_attempts (heeds.counted node) node) nodes

requests_of : (heeds : Heeds) (past : List Entry) (s : Serving) (told : List Entry) → (serving_from heeds past s told).requests ≡ requests_from heeds past s.requests told
requests_of heeds past s [] = refl
requests_of heeds past s (e ∷ told) = requests_of heeds (past ++ e ∷ []) (serving_after heeds past s e told) told

pub requests_are : (heeds : Heeds) (nodes : List ℕ) (past : List Entry) → (serving heeds nodes past).requests ≡ requests heeds past
requests_are heeds nodes past = requests_of heeds [] (record { requests = no_requests; served = controller; each = map (λ node. no_attempts (heeds.counted node) node) nodes }) past

-- ---- they are of their node

either_of : {A : Type 0} (of : Attempts → A) (b : Bool) (x y : Attempts) (a : A) → of x ≡ a → of y ≡ a → of (if b then x else y) ≡ a
either_of of true x y a p q = p
either_of of false x y a p q = q

one_nonce : (a : Attempts) (nonce : List ℕ) → (with_nonce a nonce).node ≡ a.node
one_nonce a nonce =
    either_of (λ t. t.node) (is_last_nonce a.seen nonce) _ (if is_next_nonce a.seen nonce then _ else a) a.node refl
    (either_of (λ t. t.node) (is_next_nonce a.seen nonce) _ a a.node refl refl)

nonces_node : (a : Attempts) (nonces : List (List ℕ)) → (with_nonces a nonces).node ≡ a.node
nonces_node a [] = refl
nonces_node a (nonce ∷ more) = either_of (λ t. t.node) (are_none a.ready) (with_nonces (with_nonce a nonce) more) a a.node (nonces_node (with_nonce a nonce) more ∙ one_nonce a nonce) refl

module _ (heeds : Heeds) where
  sign_node : (past rest : List Entry) (a : Attempts) → (with_sign heeds past rest a).node ≡ a.node
  sign_node past rest a =
      either_of (λ t. t.node) (is_late (clock past) a) (record a { over = true }) (if is_sign heeds a.node a.own past rest then record a { sign = clock past ∷ [] } else a) a.node refl
      (either_of (λ t. t.node) (is_sign heeds a.node a.own past rest) (record a { sign = clock past ∷ [] }) a a.node refl refl)

  given_node : (past : List Entry) (last : Asked) (rest : List Entry) (a : Attempts) → (with_nonces_here heeds past last rest a).node ≡ a.node
  given_node past last rest a =
      either_of (λ t. t.node) (waits_for_nonce heeds past last a) (with_nonces a _) a a.node (nonces_node a _) refl

  request_node : (own over : Bool) (unit : List ℕ) (a : Attempts) → (attempts_by_request own over unit a).node ≡ a.node
  request_node false over unit a = refl
  request_node true over unit a =
      either_of (λ t. t.node) (list_any (λ carried. goes_on carried.payload) (sending_in unit)) (record a { sent = a.sent + 1; own = true; ready = [] })
      (record (anew a) { begun = a.begun + 1; sent = 1; own = true }) a.node refl refl

  unit_node : (past : List Entry) (r : Requests) (unit : List ℕ) (rest : List Entry) (a : Attempts) → (attempts_by_unit heeds past r unit rest a).node ≡ a.node
  unit_node past r unit rest a =
      let acked : List Entry = past ++ entry.Written Host unit ∷ [] in
      either_of (λ t. t.node) (is_acknowledgement unit) (with_nonces_here heeds acked r.last rest (with_sign heeds acked rest a)) (if is_new r.last unit then attempts_by_request _ _ unit a else a) a.node
      (given_node acked r.last rest (with_sign heeds acked rest a) ∙ sign_node acked rest a)
      (either_of (λ t. t.node) (is_new r.last unit) (attempts_by_request _ _ unit a) a a.node (request_node _ _ unit a) refl)

  anew_node : (past : List Entry) (e : Entry) (rest : List Entry) (a : Attempts) → (if begins_anew a.node past e rest then anew a else a).node ≡ a.node
  anew_node past e rest a = either_of (λ t. t.node) (begins_anew a.node past e rest) (anew a) a a.node refl refl

  step_node : (past : List Entry) (r : Requests) (e : Entry) (rest : List Entry) (a : Attempts) → (attempts_step heeds past r e rest a).node ≡ a.node
  step_node past r (entry.Written Host unit) rest a = unit_node past r unit rest a
  step_node past r (entry.Written Chip unit) rest a = refl
  step_node past r e rest a = anew_node past e rest a

  from_node : (past : List Entry) (r : Requests) (a : Attempts) (told : List Entry) → (attempts_from heeds past r a told).node ≡ a.node
  from_node past r a [] = refl
  from_node past r a (e ∷ told) = from_node (past ++ e ∷ []) (requests_after heeds past r e told) (attempts_step heeds past r e told a) told ∙ step_node past r e told a

  pub node_is : (n : ℕ) (past : List Entry) → (attempts_so_far heeds n past).node ≡ n
  node_is n past = from_node [] no_requests (no_attempts (heeds.counted n) n) past

-- ---- one list behind another

-- the last request and what waits, with the attempts
record Both : Type 0 where
  asks : Requests
  attempts : Attempts

module _ (taken : List Entry → Carried → List Told) where
  abbrev heeds : Heeds
  heeds = heeds_alone taken

  abbrev both_step : List Entry → Both → Entry → List Entry → Both
  both_step past s e rest = record { asks = requests_after heeds past s.asks e rest; attempts = attempts_step heeds past s.asks e rest s.attempts }

  same_attempts : (past : List Entry) (r : Requests) (a : Attempts) (e : Entry) (rest other : List Entry) → begins_refused rest ≡ begins_refused other
      → attempts_step heeds past r e rest a ≡ attempts_step heeds past r e other a
  same_attempts past r a (entry.Said words) rest other is = ap (λ (b : Bool). if is_restart (line_of (entry.Said words)) && not b then anew a else a) is
  same_attempts past r a (entry.Written Host unit) rest other is = refl
  same_attempts past r a (entry.Written Chip unit) rest other is = refl
  same_attempts past r a e rest other is = refl

  same_both : (past : List Entry) (s : Both) (e : Entry) (rest other : List Entry) → begins_refused rest ≡ begins_refused other → both_step past s e rest ≡ both_step past s e other
  same_both past s e rest other is =
      ap₂ (λ (r : Requests) (a : Attempts). record { asks = r; attempts = a }) (same_step taken past s.asks e rest other is) (same_attempts past s.asks s.attempts e rest other is)

  as_ahead : (past : List Entry) (s : Both) (told : List Entry) → attempts_from heeds past s.asks s.attempts told ≡ (ahead_from both_step same_both past s told).attempts
  as_ahead past s [] = refl
  as_ahead past s (e ∷ told) = as_ahead (past ++ e ∷ []) (both_step past s e told) told

  asks_ahead : (past : List Entry) (s : Both) (told : List Entry) → requests_from heeds past s.asks told ≡ (ahead_from both_step same_both past s told).asks
  asks_ahead past s [] = refl
  asks_ahead past s (e ∷ told) = asks_ahead (past ++ e ∷ []) (both_step past s e told) told

  abbrev first : ℕ → Both
  first n = record { asks = no_requests; attempts = no_attempts (heeds.counted n) n }

  so_far : (n : ℕ) (past : List Entry) → ahead_from both_step same_both [] (first n) past ≡ record { asks = requests heeds past; attempts = attempts_so_far heeds n past }
  so_far n past = ap₂ (λ (r : Requests) (a : Attempts). record { asks = r; attempts = a }) (sym (asks_ahead [] (first n) past)) (sym (as_ahead [] (first n) past))

  pub attempts_joined : (n : ℕ) (past told : List Entry) → begins_refused told ≡ false
      → attempts_so_far heeds n (past ++ told) ≡ attempts_from heeds past (requests heeds past) (attempts_so_far heeds n past) told
  attempts_joined n past told fresh =
      as_ahead [] (first n) (past ++ told)
      ∙ ap (λ (s : Both). s.attempts) (ahead_joined both_step same_both [] (first n) past told fresh)
      ∙ ap (λ (s : Both). (ahead_from both_step same_both past s told).attempts) (so_far n past)
      ∙ sym (as_ahead past (record { asks = requests heeds past; attempts = attempts_so_far heeds n past }) told)

  -- ---- one entry more

  not_refused : (e : Entry) → IsOfNoLine e → begins_refused (e ∷ []) ≡ false
  not_refused (entry.Said words) is = absurd is
  not_refused (entry.Refused refusal) is = absurd is
  not_refused e is = refl

  pub attempts_one : (n : ℕ) (past : List Entry) (e : Entry) → IsOfNoLine e
      → attempts_so_far heeds n (past ++ e ∷ []) ≡ attempts_step heeds past (requests heeds past) e [] (attempts_so_far heeds n past)
  attempts_one n past e none = attempts_joined n past (e ∷ []) (not_refused e none)

  -- the words of a line that does not start the host again, and of one that does; and those of one that is refused
  by_words : (n : ℕ) (past : List Entry) (words : List ℕ) (starts : Bool) → is_restart (line_of (entry.Said words)) ≡ starts
      → attempts_so_far heeds n (past ++ entry.Said words ∷ []) ≡ (if starts && true then anew (attempts_so_far heeds n past) else attempts_so_far heeds n past)
  by_words n past words starts is =
      attempts_joined n past (entry.Said words ∷ []) refl
      ∙ ap (λ (b : Bool). if b && true then anew (attempts_so_far heeds n past) else attempts_so_far heeds n past) is

  pub attempts_said : (n : ℕ) (past : List Entry) (words : List ℕ) → is_restart (line_of (entry.Said words)) ≡ false
      → attempts_so_far heeds n (past ++ entry.Said words ∷ []) ≡ attempts_so_far heeds n past
  attempts_said n past words is = by_words n past words false is

  pub attempts_start : (n : ℕ) (past : List Entry) (words : List ℕ) → is_restart (line_of (entry.Said words)) ≡ true
      → attempts_so_far heeds n (past ++ entry.Said words ∷ []) ≡ anew (attempts_so_far heeds n past)
  attempts_start n past words is = by_words n past words true is

  pub attempts_in_vain : (n : ℕ) (past : List Entry) (words : List ℕ) (refusal : Refusal)
      → attempts_so_far heeds n (past ++ entry.Said words ∷ (entry.Refused refusal ∷ [])) ≡ attempts_so_far heeds n past
  attempts_in_vain n past words refusal =
      attempts_joined n past (entry.Said words ∷ (entry.Refused refusal ∷ [])) refl ∙ by (is_restart (line_of (entry.Said words)))
    where
      by : (b : Bool) → (if b && false then anew (attempts_so_far heeds n past) else attempts_so_far heeds n past) ≡ attempts_so_far heeds n past
      by true = refl
      by false = refl

  -- ---- entries that leave them

  leaves_one : (n : ℕ) (past : List Entry) (e : Entry) → LeavesAttempts e → attempts_so_far heeds n (past ++ e ∷ []) ≡ attempts_so_far heeds n past
  leaves_one n past (entry.Said words) leaves = absurd leaves
  leaves_one n past (entry.Refused refusal) leaves = absurd leaves
  leaves_one n past (entry.Written Host unit) leaves = absurd leaves
  leaves_one n past (entry.Begin node session command) leaves = absurd leaves
  leaves_one n past (entry.Out command ended) leaves = absurd leaves
  leaves_one n past (entry.Written Chip unit) leaves = attempts_one n past (entry.Written Chip unit) tt
  leaves_one n past e leaves = attempts_one n past e tt

  pub attempts_left : (n : ℕ) (past told : List Entry) → AllByRecursion LeavesAttempts told → attempts_so_far heeds n (past ++ told) ≡ attempts_so_far heeds n past
  attempts_left n past [] all = ap (λ (l : List Entry). attempts_so_far heeds n l) (append-nil past)
  attempts_left n past (e ∷ told) all =
      ap (λ (l : List Entry). attempts_so_far heeds n l) (sym (append_assoc past (e ∷ []) told)) ∙ attempts_left n (past ++ e ∷ []) told all.1 ∙ leaves_one n past e all.0

  -- a unit of the host that acknowledges nothing and is no new request: another copy, or a denial
  pub attempts_again : (n : ℕ) (past : List Entry) (unit : List ℕ) → is_acknowledgement unit ≡ false → is_new (requests heeds past).last unit ≡ false
      → attempts_so_far heeds n (past ++ entry.Written Host unit ∷ []) ≡ attempts_so_far heeds n past
  attempts_again n past unit other old = attempts_one n past (entry.Written Host unit) tt ∙ neither _ _ _ _ _ other old
    where
      neither : {A : Type 0} (acks new : Bool) (x y a : A) → acks ≡ false → new ≡ false → (if acks then x else (if new then y else a)) ≡ a
      neither false false x y a other old = refl
      neither true new x y a other old = absurd (let bad : true ≡ false = other in cc)
      neither false true x y a other old = absurd (let bad : true ≡ false = old in cc)

  -- and one that is a new request
  pub attempts_asked : (n : ℕ) (past : List Entry) (unit : List ℕ) → is_acknowledgement unit ≡ false → is_new (requests heeds past).last unit ≡ true
      → attempts_so_far heeds n (past ++ entry.Written Host unit ∷ [])
      ≡ attempts_by_request (is_of_attempt heeds n past (requests heeds past) unit)
      (attempt_is_over heeds past (requests heeds past).last (clock past) (attempts_so_far heeds n past)) unit (attempts_so_far heeds n past)
  attempts_asked n past unit other new =
      attempts_one n past (entry.Written Host unit) tt ∙ the_second _ _ _ _ _ other new
      ∙ ap (λ (k : ℕ). attempts_by_request (is_of_attempt heeds k past (requests heeds past) unit)
      (attempt_is_over heeds past (requests heeds past).last (clock past) (attempts_so_far heeds n past)) unit (attempts_so_far heeds n past)) (node_is heeds n past)
    where
      the_second : {A : Type 0} (acks new : Bool) (x y a : A) → acks ≡ false → new ≡ true → (if acks then x else (if new then y else a)) ≡ y
      the_second false true x y a other new = refl
      the_second true new x y a other is = absurd (let bad : true ≡ false = other in cc)
      the_second false false x y a other is = absurd (let bad : false ≡ true = is in cc)
