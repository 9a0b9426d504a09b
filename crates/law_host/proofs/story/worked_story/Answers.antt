-- The story of records that count a nonce, and the turn of the message that is sealed for the next one.
use Rattle.std.proofs.Common.{◌≡◌, ℕ, Bool, true, if◌then◌else◌, [], ◌∷◌, ◌++◌, map, refl, sym, ap, ◌∙◌, arith}
use Rattle.std.specs.Prelude.{codes}
use Rattle.zw_text.specs.declared.entry.Entry.TheVariants.{Said}
use Rattle.host_keep.specs.Kept.{KeptNode, first_kept, kept_of, node_of}
use Rattle.host_keep.specs.Legal.{AreLegal, AreTextsOf, first_illegal}
use Rattle.host_keep.specs.RecordText.{record_text}
use Rattle.host_keep.specs.Rows.{IsNode}
use Rattle.law_time.specs.Choice.{may_send}
use Rattle.law_host.specs.Course.{blank_book, book_of}
use Rattle.law_host.specs.Heard.{heeds_from}
use Rattle.law_host.specs.Starting.{book_kept}
use Rattle.law_host.specs.Story.{IsStory, interview_told}
use Rattle.law_host.specs.Worked.{after_counted, counted_nonces, counted_records, counted_story, second_nonce, second_taken}
use Rattle.law_time.proofs.law_transcript_Computing.{computing_devices}
use Rattle.law_time.proofs.Computing.{computing}
use Rattle.law_time.proofs.Deciding.{kept}
use Rattle.law_time.proofs.ShownRecords.{above, blank_at, bytes_are, every, is_other, others_are}
use Rattle.law_host.proofs.story.worked_story.Goals as goal

node_3 : IsNode 3
node_3 = (omega arith, omega arith)

are : AreTextsOf counted_records (map record_text counted_records)
are = (
  record { in_range = node_3; text = refl },
  (record { in_range = (node_3, bytes_are (0x98 ∷ 0x6C ∷ 0x25 ∷ []) refl); text = refl }, (record { in_range = (node_3, omega arith); text = refl }, tt)),
)

legal : AreLegal counted_records
unfolding computing_devices first_illegal
legal = refl

tells : IsStory first_kept counted_records counted_story
unfolding computing_devices
tells = (
  Said (codes "join 3") ∷ [],
  Said (codes "interview 3") ∷ interview_told 3 true (0x98 ∷ 0x6C ∷ 0x25 ∷ []),
  (codes "join 3", refl, refl),
  (Said (codes "interview 3") ∷ interview_told 3 true (0x98 ∷ 0x6C ∷ 0x25 ∷ []), [], (codes "interview 3", refl, refl), ([], [], refl, refl, refl), refl),
  refl,
)

booked : (node : ℕ) → book_of node after_counted.books ≡ book_kept node (node_of (kept_of counted_records) node)
unfolding computing_devices
booked = every 4 (λ node. book_of node after_counted.books ≡ book_kept node (node_of (kept_of counted_records) node)) (refl, (refl, (refl, (refl, tt))))
    (λ more. ap (λ (is : Bool). if is then book_of 3 after_counted.books else blank_book (above 4 more)) (is_other 4 more 3 refl)
    ∙ ap (λ (one : KeptNode). book_kept (above 4 more) one) (sym (blank_at 229 more)))

counted : (node : ℕ) → counted_nonces node ≡ (node_of (kept_of counted_records) node).seen
unfolding computing_devices
counted = every 4 (λ node. counted_nonces node ≡ (node_of (kept_of counted_records) node).seen) (refl, (refl, (refl, (refl, tt))))
    (λ more. ap (λ (is : Bool). if is then 1 else 0) (others_are 4 more 3 refl) ∙ ap (λ (one : KeptNode). one.seen) (sym (blank_at 229 more)))

pub returns-clause-starts : goal.returns-clause-starts
unfolding computing_devices
returns-clause-starts c = record {
  records = counted_records;
  are = are;
  legal = legal;
  story = counted_story;
  tells = tells;
  words = codes "restart";
  restart = refl;
  before = refl;
  books = booked;
  counts = counted;
}

pub returns-clause-turn : goal.returns-clause-turn
unfolding computing
returns-clause-turn c = kept (may_send (heeds_from counted_nonces (λ past carried. second_nonce))) (after_counted.before ++ second_taken) refl
