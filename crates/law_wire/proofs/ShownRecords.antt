-- Transcripts that say nothing of later nodes, and records that are legal: what is kept by them is what is shown.
use Rattle.std.proofs.Common.{◌≡◌, ℕ, zero, suc, ◌+◌, ◌^◌, ◌<◌, ◌==◌, ◌&&◌, ◌||◌, Bool, true, false, List, [], ◌∷◌, ◌++◌, map, refl, sym, ap, subst, ◌∙◌, arith}
use Rattle.std.specs.Prelude.{⊤, replicate, slice_index_or, filter, nat_lt, if◌then◌else◌}
use Rattle.std.specs.List.{flat_map, list_any, AllByRecursion}
use Rattle.std.proofs.lemmas.Bool.Decides.{nat_tests}
use Rattle.zw_base.specs.declared.order.Word.TheVariants.{On, Off}
use Rattle.zw_base.specs.declared.order.What.{What}
use Rattle.zw_base.specs.declared.order.What.TheVariants.{Value, Bulk, Interval}
use Rattle.law_transcript.specs.host_keep.Kept.{Kept, KeptNode, blank_node, node_of, kept_of}
use Rattle.law_transcript.specs.host_keep.Legal.{Give, AreTextsOf, AreLegal, first_illegal}
use Rattle.law_transcript.specs.host_keep.RecordText.{record_text, IsTextOf}
use Rattle.law_transcript.specs.host_keep.Rows.{IsNode, IsWhat, IsRecord, AreBytes}
use Rattle.law_transcript.specs.host_keep.declared.record.Record.{Record}
use Rattle.law_transcript.specs.host_keep.declared.record.Record.TheVariants as records
use Rattle.law_transcript.specs.host_keep.declared.final_status.FinalStatus.TheVariants.{Success}
use Rattle.zw_text.specs.declared.line.Line.{Line}
use Rattle.zw_text.specs.declared.entry.Entry.{Entry}
use Rattle.zw_text.specs.declared.entry.Entry.TheVariants.{Accepted, Begin, Interviewed, InterviewFailed}
use Rattle.zw_text.specs.Transcript.{Command, Accepting, shown, folded, accepting, not_accepting, accepted_at, numbered, order_for, session_at, sessions, interview_at, interviews, outcome, joined}
use Rattle.law_transcript.specs.Commands.{numbers_of, is_waiting}
use Rattle.law_transcript.specs.Records.{ShowsNode, final_of}
use Rattle.law_transcript.specs.WorkedDevices.{plain_records}
use Rattle.law_wire.specs.WorkedRecords.{begun_records, cancelling_records, ordered_otherwise, lossy_records, cancelled_records, sleeping_records, sealed_records, cut_records}
use Rattle.law_transcript.proofs.Deciding.{first_of, second_of}
use Rattle.law_wire.proofs.Computing.{reckoning}

-- ---- later nodes

-- nothing is kept of a node after those that are set
pub blank_at : (count place : ℕ) → slice_index_or (replicate count blank_node) place blank_node ≡ blank_node
blank_at zero place = refl
blank_at (suc count) zero = refl
blank_at (suc count) (suc place) = blank_at count place

-- a node so far above others
abbrev pub above : ℕ → ℕ → ℕ
above zero more = more
above (suc bound) more = suc (above bound more)

above_is : (bound more : ℕ) → above bound more ≡ bound + more
above_is zero more = omega arith
above_is (suc bound) more = let is = above_is bound more in omega (arith, is)

-- what holds of each node below a bound, and of each one above these, holds of every node
abbrev pub EachBelow : ℕ → (ℕ → Type 0) → Type 0
EachBelow zero P = ⊤
EachBelow (suc bound) P = P 0 × EachBelow bound (λ node. P (suc node))

pub every : (bound : ℕ) (P : ℕ → Type 0) → EachBelow bound P → ((more : ℕ) → P (above bound more)) → (node : ℕ) → P node
every zero P below others node = others node
every (suc bound) P below others zero = below.0
every (suc bound) P below others (suc node) = every bound (λ node. P (suc node)) below.1 others node

-- whether the nodes, and those of which entries show commands, sessions or interviews, are below a bound
abbrev pub are_below : ℕ → List ℕ → Bool
are_below bound [] = true
are_below bound (node ∷ nodes) = nat_lt node bound && are_below bound nodes

abbrev pub shows_below : ℕ → Entry → Bool
shows_below bound (Accepted command node) = nat_lt node bound
shows_below bound (Begin node session command) = nat_lt node bound
shows_below bound (Interviewed node) = nat_lt node bound
shows_below bound (InterviewFailed node) = nat_lt node bound
shows_below bound _ = true

abbrev pub all_below : ℕ → List Entry → Bool
all_below bound [] = true
all_below bound (entry ∷ entries) = shows_below bound entry && all_below bound entries

-- a node below the bound is none above it
pub is_other : (bound more node : ℕ) → nat_lt node bound ≡ true → (node == above bound more) ≡ false
is_other bound more node low = let is = above_is bound more in grind (arith, nat_tests, low, is)

pub others_are : (bound more node : ℕ) → nat_lt node bound ≡ true → (above bound more == node) ≡ false
others_are bound more node low = let is = above_is bound more in grind (arith, nat_tests, low, is)

none_joined : (bound more : ℕ) (nodes : List ℕ) → are_below bound nodes ≡ true → list_any (λ one. one == above bound more) nodes ≡ false
none_joined bound more [] low = refl
none_joined bound more (node ∷ nodes) low =
    ap (λ (same : Bool). same || list_any (λ one. one == above bound more) nodes) (is_other bound more node (first_of _ _ low))
    ∙ none_joined bound more nodes (second_of (nat_lt node bound) _ low)

-- so nothing is shown of a node above it
none_accepted_at : (bound more : ℕ) (lines : List Line) (entry : Entry) → shows_below bound entry ≡ true → accepted_at (above bound more) lines entry ≡ []
none_accepted_at bound more lines (Accepted command node) low =
    ap (λ (same : Bool). if same then numbered command (flat_map (order_for (above bound more)) lines) else []) (is_other bound more node low)
none_accepted_at bound more lines _ low = refl

none_begun_at : (bound more : ℕ) (entry : Entry) → shows_below bound entry ≡ true → session_at (above bound more) entry ≡ []
none_begun_at bound more (Begin node session command) low = ap (λ (same : Bool). if same then command ∷ [] else []) (is_other bound more node low)
none_begun_at bound more _ low = refl

none_asked_at : (bound more : ℕ) (entry : Entry) → shows_below bound entry ≡ true → interview_at (above bound more) entry ≡ []
none_asked_at bound more (Interviewed node) low = ap (λ (same : Bool). if same then true ∷ [] else []) (is_other bound more node low)
none_asked_at bound more (InterviewFailed node) low = ap (λ (same : Bool). if same then false ∷ [] else []) (is_other bound more node low)
none_asked_at bound more _ low = refl

none_accepted : (bound more : ℕ) (so_far : Accepting) (entries : List Entry) → all_below bound entries ≡ true → so_far.commands ≡ []
    → (folded (accepting (above bound more)) so_far entries).commands ≡ []
none_accepted bound more so_far [] low none = none
none_accepted bound more so_far (entry ∷ entries) low none =
    none_accepted bound more (accepting (above bound more) so_far entry) entries (second_of (shows_below bound entry) _ low)
    (ap (λ (before : List Command). before ++ accepted_at (above bound more) so_far.line entry) none
    ∙ none_accepted_at bound more so_far.line entry (first_of _ _ low))

none_shown : {A : Type 0} (bound : ℕ) (f : Entry → List A) → ((entry : Entry) → shows_below bound entry ≡ true → f entry ≡ [])
    → (entries : List Entry) → all_below bound entries ≡ true → shown f entries ≡ []
none_shown bound f none [] low = refl
none_shown {A} bound f none (entry ∷ entries) low =
    ap (λ (shows : List A). shows ++ shown f entries) (none entry (first_of _ _ low)) ∙ none_shown bound f none entries (second_of (shows_below bound entry) _ low)

pub none_begun : (bound more : ℕ) (transcript : List Entry) → all_below bound transcript ≡ true → sessions (above bound more) transcript ≡ []
none_begun bound more transcript low = none_shown bound (session_at (above bound more)) (none_begun_at bound more) transcript low

pub none_asked : (bound more : ℕ) (transcript : List Entry) → all_below bound transcript ≡ true → interviews (above bound more) transcript ≡ []
none_asked bound more transcript low = none_shown bound (interview_at (above bound more)) (none_asked_at bound more) transcript low

-- what nothing was said of is shown as at first
later_node : (transcript : List Entry) (kept : Kept) (bound more : ℕ) → node_of kept (above bound more) ≡ blank_node
    → nat_lt 2 bound ≡ true → are_below bound (joined transcript) ≡ true → all_below bound transcript ≡ true
    → ShowsNode transcript (above bound more) (node_of kept (above bound more))
later_node transcript kept bound more blank first joins low =
    let node = above bound more in
    let begins = none_begun bound more transcript low in
    subst (λ (one : KeptNode). ShowsNode transcript node one) (sym blank) (record {
      joined = sym (none_joined bound more (joined transcript) joins);
      interviewed = sym (ap (λ (list : List Bool). list_any (λ succeeded. succeeded) list || (node == 2))
          (none_asked bound more transcript low) ∙ others_are bound more 2 first);
      waits = sym (ap (λ (commands : List Command). filter (λ number. is_waiting (outcome number transcript)) (numbers_of commands))
          (none_accepted bound more not_accepting transcript low refl));
      begun = sym begins;
      ended = sym (ap (λ (numbers : List ℕ). map (λ number. final_of (outcome number transcript)) numbers) begins);
    })

-- all nodes are kept as they are shown where those below a bound are, and nothing is kept or shown of the others
pub shows_nodes : (transcript : List Entry) (kept : Kept) (bound : ℕ) → EachBelow bound (λ node. ShowsNode transcript node (node_of kept node))
    → ((more : ℕ) → node_of kept (above bound more) ≡ blank_node) → nat_lt 2 bound ≡ true → are_below bound (joined transcript) ≡ true
    → all_below bound transcript ≡ true → (node : ℕ) → ShowsNode transcript node (node_of kept node)
shows_nodes transcript kept bound below blank first joins low =
    every bound (λ node. ShowsNode transcript node (node_of kept node)) below (λ more. later_node transcript kept bound more (blank more) first joins low)

-- ---- records

-- numbers below 256 are bytes
pub bytes_are : (numbers : List ℕ) → are_below 256 numbers ≡ true → AreBytes numbers
bytes_are [] low k within = absurd (omega (arith, within))
bytes_are (number ∷ numbers) low zero within = let small = first_of (nat_lt number 256) _ low in grind (arith, nat_tests, small)
bytes_are (number ∷ numbers) low (suc k) within = bytes_are numbers (second_of (nat_lt number 256) _ low) k (omega (arith, within))

-- an order for a device itself is in its ranges
pub order_in : (command node : ℕ) (what : What) → command < 2 ^ 32 → IsNode node → IsWhat what
    → IsRecord (records.Accepted command (record { node = node; end = 0; what = what }))
order_in command node what counts is well = (counts, record { node = is; end = omega arith; what = well })

pub node_2 : IsNode 2
node_2 = (omega arith, omega arith)

pub on_in : IsRecord (records.Accepted 1 (record { node = 2; end = 0; what = Value On }))
on_in = order_in 1 2 (Value On) (omega arith) node_2 tt

pub begun_in : IsRecord (records.Begun 2 1 1)
begun_in = (node_2, omega arith, omega arith)

pub ended_in : IsRecord (records.Final 2 1 Success)
ended_in = (node_2, omega arith)

pub spent_well : IsTextOf (records.Spent 2) (record_text (records.Spent 2))
spent_well = record { in_range = node_2; text = refl }

-- legal records in their ranges give what is kept by them
are_texts : (kept : List Record) → AllByRecursion IsRecord kept → AreTextsOf kept (map record_text kept)
are_texts [] well = tt
are_texts (one ∷ more) well = (record { in_range = well.0; text = refl }, are_texts more well.1)

pub gives : (kept : List Record) → AllByRecursion IsRecord kept → AreLegal kept → Give (map record_text kept) (kept_of kept)
gives kept well legal = record { records = kept; are = are_texts kept well; legal = legal; gives = refl }

pub gives_plain : Give (map record_text plain_records) (kept_of plain_records)
unfolding reckoning first_illegal
gives_plain = gives plain_records (on_in, (begun_in, (ended_in, tt))) refl

pub gives_begun : Give (map record_text begun_records) (kept_of begun_records)
unfolding reckoning first_illegal
gives_begun = gives begun_records (on_in, (begun_in, tt)) refl

pub gives_cancelling : Give (map record_text cancelling_records) (kept_of cancelling_records)
unfolding reckoning first_illegal
gives_cancelling = gives cancelling_records (on_in, (omega arith, tt)) refl

pub gives_otherwise : Give (map record_text ordered_otherwise) (kept_of ordered_otherwise)
unfolding reckoning first_illegal
gives_otherwise = gives ordered_otherwise (order_in 1 2 (Value Off) (omega arith) node_2 tt, (begun_in, (ended_in, tt))) refl

pub gives_lossy : Give (map record_text lossy_records) (kept_of lossy_records)
unfolding reckoning first_illegal
gives_lossy = gives lossy_records (
  on_in,
  (begun_in, (order_in 2 2 (Value Off) (omega arith) node_2 tt, (ended_in, ((node_2, omega arith, omega arith), ((node_2, omega arith), tt))))),
) refl

pub gives_cancelled : Give (map record_text cancelled_records) (kept_of cancelled_records)
unfolding reckoning first_illegal
gives_cancelled = gives cancelled_records (on_in, (begun_in, (order_in 2 2 (Value Off) (omega arith) node_2 tt, (omega arith, (ended_in, tt))))) refl

pub node_5 : IsNode 5
node_5 = (omega arith, omega arith)

pub gives_sleeping : Give (map record_text sleeping_records) (kept_of sleeping_records)
unfolding reckoning first_illegal
gives_sleeping = gives sleeping_records (
  node_5,
  (
    (node_5, bytes_are (0x31 ∷ 0x80 ∷ 0x84 ∷ 0x6C ∷ []) refl),
    (
      order_in 1 5 (Interval 300) (omega arith) node_5 (omega arith),
      (
        (node_5, omega arith, omega arith),
        ((node_5, omega arith), (order_in 2 5 (Interval 600) (omega arith) node_5 (omega arith), tt)),
      ),
    ),
  ),
) refl

node_4 : IsNode 4
node_4 = (omega arith, omega arith)

pub gives_sealed : Give (map record_text sealed_records) (kept_of sealed_records)
unfolding reckoning first_illegal
gives_sealed = gives sealed_records (
  node_4,
  (
    (node_4, bytes_are (0x62 ∷ 0x98 ∷ 0x6C ∷ []) refl),
    (
      order_in 1 4 (Value On) (omega arith) node_4 tt,
      (
        (node_4, omega arith, omega arith),
        ((node_4, omega arith), ((node_4, omega arith, refl, bytes_are (0x01 ∷ 0x9E ∷ 0x0A ∷ 0x12 ∷ 0x49 ∷ 0xBB ∷ 0x59 ∷ 0x4F ∷ []) refl), (node_4, ((node_4, omega arith), tt)))),
      ),
    ),
  ),
) refl

node_8 : IsNode 8
node_8 = (omega arith, omega arith)

pub gives_cut : Give (map record_text cut_records) (kept_of cut_records)
unfolding reckoning first_illegal
gives_cut = gives cut_records (
  node_8,
  (
    (node_8, bytes_are (0x70 ∷ 0x55 ∷ 0x6C ∷ []) refl),
    (
      order_in 1 8 (Bulk 0 (replicate 37 1)) (omega arith) node_8 (omega arith, bytes_are (replicate 37 1) refl),
      ((node_8, omega arith, omega arith), ((node_8, omega arith), tt)),
    ),
  ),
) refl
