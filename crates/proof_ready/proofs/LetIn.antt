-- Each entry of an acceptance is of an order that was let in, by the answer that its line has.
use Rattle.std.proofs.Common.{◌≡◌, ℕ, ◌+◌, ◌==◌, Bool, true, if◌then◌else◌, List, [], ◌∷◌, ◌++◌, length, append-nil, inl, inr, refl, sym, ap, subst, ◌∙◌}
use Rattle.std.proofs.lemmas.List.Concat.{flat_map-append}
use Rattle.std.specs.Prelude.{Option, Some, None, unwrap_or}
use Rattle.std.specs.List.{flat_map, list_any}
use Rattle.zw_base.specs.declared.order.Order.{Order}
use Rattle.zw_text.specs.declared.line.Line.{Line}
use Rattle.zw_text.specs.declared.line.Line.TheVariants.{Command as Commanded}
use Rattle.zw_text.specs.declared.entry.Entry.{Entry}
use Rattle.zw_text.specs.declared.entry.Entry.TheVariants.{Accepted, Said}
use Rattle.zw_text.specs.Transcript.{accepted_number, accepted_numbers, doing_lines, doing_step, interview_at, interviews, join_of, line_last, line_of, lines_done}
use Rattle.zw_text.proofs.Views.{folded-append, shown-append}
use Rattle.host_orders.specs.Classes.{lists}
use Rattle.host_orders.specs.Refusals.{first_refusal, refusal_of, refusal_or}
use Rattle.host_orders.specs.declared.refused.Refused.{Refused as HostRefusal}
use Rattle.host_orders.specs.declared.refused.Refused.TheVariants as host
use Rattle.law_wire.specs.law_transcript.Answers.{Follows, IsAnswer, MayAnswer, answer_to, answered_by, before_last, known_of, properties_with, refusal_entry, refusals_to}
use Rattle.law_wire.specs.law_transcript.Lists.{EachAfter}
use Rattle.law_wire.specs.law_transcript.Nodes.{always, host_list, is_joined, known_at_first, listing_of}
use Rattle.proof_rests.specs.proof_attempts.proof_host.device_sim.State.{State}
use Rattle.proof_rests.specs.proof_requests.host_model.State.{Command}
use Rattle.proof_rests.specs.proof_nonces.proof_known.proof_transcript.proof_spoken.Said.{IsSaid, MayAnswer as MaySay}
use Rattle.proof_rests.proofs.proof_transcript_Answering.{before_is}
use Rattle.proof_in_time.proofs.Commands.{passes}
use Rattle.proof_ready.specs.LetIn.{IsLetIn, MayBeLetIn}

-- ---- the answer

no_refusal : (refusal : HostRefusal) (command node : ℕ) → refusal_entry refusal ≡ Accepted command node ∷ [] → ⊥
no_refusal host.NoMemory command node is = cc
no_refusal _ command node is = cc

record IsTaken (past : List Entry) (node command n : ℕ) (refusal : Option HostRefusal) : Type 0 where
  none : refusal ≡ None
  same : node ≡ n
  number : command ≡ length (accepted_numbers past) + 1

taken : (past : List Entry) (node command n : ℕ) (refusal : Option HostRefusal) → answered_by past node refusal ≡ Accepted command n ∷ [] → IsTaken past node command n refusal
taken past node command n None is = record { none = refl; same = cc; number = cc }
taken past node command n (Some refusal) is = absurd (no_refusal refusal command n is)

answer_is : (answer : List Entry) (command n : ℕ) → IsAnswer answer (Accepted command n) → answer ≡ Accepted command n ∷ []
answer_is answer command n (inl is) = is
answer_is answer command n (inr (lets, other)) = absurd cc

rule_none : (first : Option HostRefusal) (properties : ℕ) → refusal_or first properties ≡ None → first ≡ None
rule_none None properties is = refl
rule_none (Some refused) properties is = absurd cc

-- ---- the line that asks

-- the last entry is that of an order
record Asks (past : List Entry) (order : Order) : Type 0 where
  before : List Entry
  words : List ℕ
  are : past ≡ before ++ Said words ∷ []
  read : line_of (Said words) ≡ Commanded order ∷ []

asks_by : (e : Entry) (order : Order) → line_of e ≡ Commanded order ∷ [] → Asks (e ∷ []) order
asks_by (Said words) order is = record { before = []; words = words; are = refl; read = is }
asks_by e order is = absurd cc

asks_from : (e : Entry) (rest : List Entry) (order : Order) → line_last (e ∷ rest) ≡ Commanded order ∷ [] → Asks (e ∷ rest) order
asks_from e [] order is = asks_by e order is
asks_from e (next ∷ rest) order is =
    let more = asks_from next rest order is in record { before = e ∷ more.before; words = more.words; are = ap (λ (l : List Entry). e ∷ l) more.are; read = more.read }

asks : (past : List Entry) (order : Order) → line_last past ≡ Commanded order ∷ [] → Asks past order
asks [] order is = absurd cc
asks (e ∷ rest) order is = asks_from e rest order is

joined_said : (before : List Entry) (words : List ℕ) (order : Order) (n : ℕ) → line_of (Said words) ≡ Commanded order ∷ [] → is_joined (before ++ Said words ∷ []) n ≡ is_joined before n
joined_said before words order n read =
    let done : lines_done (before ++ Said words ∷ []) ≡ lines_done before ++ line_of (Said words) = ap doing_lines (folded-append doing_step (record { earlier = []; last = [] }) before (Said words ∷ [])) in
    ap (λ (l : List Line). list_any (λ one. one == n) (2 ∷ flat_map join_of l)) (done ∙ ap (λ (l : List Line). lines_done before ++ l) read)
    ∙ ap (λ (l : List ℕ). list_any (λ one. one == n) (2 ∷ l)) (flat_map-append join_of (lines_done before) (Commanded order ∷ []) ∙ append-nil (flat_map join_of (lines_done before)))

listed_said : (listing : ℕ → List ℕ) (before : List Entry) (words : List ℕ) (n : ℕ) → host_list (always listing) (before ++ Said words ∷ []) n ≡ host_list (always listing) before n
listed_said listing before words n =
    ap (λ (l : List Bool). unwrap_or (if list_any (λ succeeded. succeeded) l then Some (listing n) else known_at_first n) [])
    (shown-append (interview_at n) before (Said words ∷ []) ∙ append-nil (interviews n before))

counted_said : (before : List Entry) (words : List ℕ) → accepted_numbers (before ++ Said words ∷ []) ≡ accepted_numbers before
counted_said before words = shown-append accepted_number before (Said words ∷ []) ∙ append-nil (accepted_numbers before)

-- ---- an acceptance

let_in_at : (devices : List State) (before : List Entry) (words : List ℕ) (order : Order) (command n : ℕ) → line_of (Said words) ≡ Commanded order ∷ []
    → IsAnswer (answer_to (always (listing_of devices)) before order) (Accepted command n) → IsLetIn (listing_of devices) (before ++ Said words ∷ []) command n
let_in_at devices before words order command n read answers =
    let listing : ℕ → List ℕ = listing_of devices in
    let known = known_of (always listing) before order.node in
    let properties : ℕ = properties_with (always listing) before order in
    let got = taken before order.node command n (refusal_of known properties order) (answer_is (answer_to (always listing) before order) command n answers) in
    let two = passes known order (rule_none (first_refusal known order) properties got.none) in
    record {
      joined = joined_said before words order n read ∙ subst (λ (k : ℕ). is_joined before k ≡ true) got.same two.0;
      supervised = ap (λ (l : List ℕ). lists l 0x6C) (listed_said listing before words n) ∙ subst (λ (k : ℕ). lists (host_list (always listing) before k) 0x6C ≡ true) got.same two.1;
      number = got.number ∙ ap (λ (l : List ℕ). length l + 1) (sym (counted_said before words));
    }

let_in : (devices : List State) (commands : List Command) (past : List Entry) (command n : ℕ) → IsSaid (always (listing_of devices)) commands past command n
    → Follows (always (listing_of devices)) (refusals_to devices) (before_last past) (line_last past) (Accepted command n) → IsLetIn (listing_of devices) past command n
let_in devices commands past command n said answers =
    let listing : List Entry → ℕ → List ℕ = always (listing_of devices) in
    let at = asks past said.order said.said in
    let answer : IsAnswer (answer_to listing (before_last past) said.order) (Accepted command n) =
    subst (λ (l : List Line). Follows listing (refusals_to devices) (before_last past) l (Accepted command n)) said.said answers in
    let before : before_last past ≡ at.before = ap (λ (l : List Entry). before_last l) at.are ∙ before_is at.before (Said at.words) in
    subst (λ (l : List Entry). IsLetIn (listing_of devices) l command n) (sym at.are)
    (let_in_at devices at.before at.words said.order command n at.read (subst (λ (l : List Entry). IsAnswer (answer_to listing l said.order) (Accepted command n)) before answer))

one_let_in : (devices : List State) (commands : List Command) (past : List Entry) (entry : Entry) → MaySay (always (listing_of devices)) commands past entry
    → MayAnswer (always (listing_of devices)) (refusals_to devices) past entry → MayBeLetIn (listing_of devices) past entry
one_let_in devices commands past (Accepted command n) said answers = let_in devices commands past command n said answers
one_let_in devices commands past entry said answers = tt

pub each_let_in : (devices : List State) (commands : List Command) (past told : List Entry) → EachAfter (MaySay (always (listing_of devices)) commands) past told
    → EachAfter (MayAnswer (always (listing_of devices)) (refusals_to devices)) past told → EachAfter (MayBeLetIn (listing_of devices)) past told
each_let_in devices commands past [] said answers = tt
each_let_in devices commands past (entry ∷ told) said answers =
    (one_let_in devices commands past entry said.0 answers.0, each_let_in devices commands (past ++ entry ∷ []) told said.1 answers.1)
