-- How the course of a transcript goes on with more entries, whatever is chosen later; notes that are due and marks go on so, and the end of a request with nothing to note leaves what is chosen.
use Rattle.std.proofs.Common.{◌≡◌, ℕ, Bool, true, false, if◌then◌else◌, List, [], ◌∷◌, ◌++◌, Option, refl, sym, ap, ap₂, ◌∙◌, append-nil, append_assoc}
use Rattle.std.specs.List.{AllByRecursion}
use Rattle.zw_text.specs.declared.entry.Entry.{Entry}
use Rattle.law_transcript.specs.Restarts.{begins_refused}
use Rattle.law_transcript.specs.Units.{Carried, sending_in}
use Rattle.law_time.specs.Heeds.{Heeds}
use Rattle.law_time.specs.Judged.{is_mark}
use Rattle.law_time.specs.Requests.{asked}
use Rattle.proof_hearing.specs.Hearing.{choosing}
use Rattle.proof_hearing.specs.proof_queue.proof_attempts.proof_requests.law_host.Course.{Book, Choices, Course, book_of, each_in_turn, nothing_sealed, with_book, without_texts}
use Rattle.proof_hearing.specs.proof_queue.proof_attempts.proof_requests.law_host.Ends.{ends_sealing, is_of_sealed}
use Rattle.proof_hearing.specs.proof_queue.proof_attempts.proof_requests.law_host.Following.{comes_to, course_after, is_note, may_stand}
use Rattle.proof_hearing.specs.proof_choice.proof_following.Quiet.{IsPlainly, ended_silently}
use Rattle.proof_hearing.proofs.Entering.{course_both, makes_none, marks_after, notes_after, plain_after}
use Rattle.proof_noting.specs.Following.{CourseOf, Goes, Outset, course_since, first_course}

-- ---- the end of a request with nothing to note

abbrev sealed_book : Carried → List Book → List Book
sealed_book one books =
    if is_of_sealed one then with_book (record (book_of one.node books) { sealer = nothing_sealed (book_of one.node books).sealer }) books else books

abbrev pub sealed_books : List Carried → List Book → List Book
sealed_books [] books = books
sealed_books (one ∷ sent) books = sealed_books sent (sealed_book one books)

one_sealed : (one : Carried) (c : Course) → ends_sealing one c ≡ record c { books = sealed_book one c.books }
one_sealed one c = by (is_of_sealed one)
  where
    by : (b : Bool) → (if b then without_texts one.node c else c)
        ≡ record c { books = if b then with_book (record (book_of one.node c.books) { sealer = nothing_sealed (book_of one.node c.books).sealer }) c.books else c.books }
    by true = refl
    by false = refl

all_sealed : (sent : List Carried) (c : Course) → each_in_turn ends_sealing sent c ≡ record c { books = sealed_books sent c.books }
all_sealed [] c = refl
all_sealed (one ∷ sent) c = ap (λ (d : Course). each_in_turn ends_sealing sent d) (one_sealed one c) ∙ all_sealed sent (record c { books = sealed_book one c.books })

-- it is over, and books change, which no choice tells
pub silently_is : (past : List Entry) (c : Course) → ended_silently past c ≡ record c { over = true; books = sealed_books (sending_in (asked past).frame) c.books }
silently_is past c = all_sealed (sending_in (asked past).frame) (record c { over = true })

pub silently_chosen : (past : List Entry) (keepings : List Bool) (texts : List (Option (List ℕ))) (c : Course)
    → ended_silently past (choosing keepings texts c) ≡ choosing keepings texts (ended_silently past c)
silently_chosen past keepings texts c = silently_is past (choosing keepings texts c) ∙ sym (ap (choosing keepings texts) (silently_is past c))

-- ---- more entries

pub cancel : (first one other : List Entry) → first ++ one ≡ first ++ other → one ≡ other
cancel [] one other is = is
cancel (e ∷ first) one other is = cancel first one other (let tails : first ++ one ≡ first ++ other = cc in tails)

module _ (heeds : Heeds) where
  -- where nothing is chosen
  pub goes_on : (past told : List Entry) (c next : Course)
      → ((keepings : List Bool) (texts : List (Option (List ℕ))) → course_after heeds past told (choosing keepings texts c) ≡ choosing keepings texts next) → Goes heeds past told c next
  goes_on past told c next goes = record { kept = []; opened = []; goes = goes }

  pub goes_nowhere : (past : List Entry) (c : Course) → Goes heeds past [] c c
  goes_nowhere past c = goes_on past [] c c (λ keepings texts. refl)

  -- by an entry that may stand where nothing is due
  pub goes_plain : (past : List Entry) (e : Entry) (c next : Course) → IsPlainly e → is_mark e ≡ false → may_stand past e ≡ true → c.fits ≡ true → next.fits ≡ true → next.due ≡ []
      → ((keepings : List Bool) (texts : List (Option (List ℕ))) → comes_to heeds past e (choosing keepings texts c) ≡ choosing keepings texts next) → Goes heeds past (e ∷ []) c next
  goes_plain past e c next plainly mark may fits well none comes =
      goes_on past (e ∷ []) c next
      (λ keepings texts. plain_after heeds past e [] (choosing keepings texts c) (choosing keepings texts next) mark fits (comes keepings texts) none well may
      ∙ makes_none heeds past e [] (choosing keepings texts next) plainly)

  -- by notes that are due
  pub notes_goes : (past told : List Entry) (c : Course) → AllByRecursion (λ e. is_note e ≡ true) told → c.fits ≡ true → c.due ≡ told → Goes heeds past told c (record c { due = [] })
  notes_goes past told c all fits due =
      goes_on past told c (record c { due = [] })
      (λ keepings texts. notes_after heeds past told [] (choosing keepings texts c) all fits (due ∙ sym (append-nil told)))

  -- by what became of a unit
  pub marks_goes : (past marks : List Entry) (c : Course) → AllByRecursion (λ e. is_mark e ≡ true) marks → Goes heeds past marks c c
  marks_goes past marks c all = goes_on past marks c c (λ keepings texts. marks_after heeds past marks (choosing keepings texts c) all)

  -- by these and then those
  pub goes_both : (past first later : List Entry) (c mid next : Course) → begins_refused later ≡ false → Goes heeds past first c mid → Goes heeds (past ++ first) later mid next
      → Goes heeds past (first ++ later) c next
  goes_both past first later c mid next unrefused one two = record {
    kept = one.kept ++ two.kept;
    opened = one.opened ++ two.opened;
    goes = λ keepings texts.
        ap₂ (λ (k : List Bool) (t : List (Option (List ℕ))). course_after heeds past (first ++ later) (choosing k t c)) (append_assoc one.kept two.kept keepings)
        (append_assoc one.opened two.opened texts)
        ∙ course_both heeds past first later (choosing (one.kept ++ (two.kept ++ keepings)) (one.opened ++ (two.opened ++ texts)) c) unrefused
        ∙ ap (λ (d : Course). course_after heeds (past ++ first) later d) (one.goes (two.kept ++ keepings) (two.opened ++ texts))
        ∙ two.goes keepings texts;
  }

  -- what was heard since the start is more, and so is the course
  pub split_on : (from : Outset) (past heard told : List Entry) → past ≡ from.before ++ heard → past ++ told ≡ from.before ++ (heard ++ told)
  split_on from past heard told split = ap (λ (l : List Entry). l ++ told) split ∙ append_assoc from.before heard told

  pub course_on : (from : Outset) (past heard told : List Entry) (choices : Choices) → past ≡ from.before ++ heard → begins_refused told ≡ false
      → course_since heeds from (heard ++ told) choices ≡ course_after heeds past told (course_since heeds from heard choices)
  course_on from past heard told choices split unrefused =
      course_both heeds from.before heard told (first_course from choices) unrefused
      ∙ ap (λ (l : List Entry). course_after heeds l told (course_since heeds from heard choices)) (sym split)

  -- the course of a transcript goes on so
  pub course_goes : (from : Outset) (past told : List Entry) (c next : Course) → begins_refused told ≡ false → CourseOf heeds from past c → Goes heeds past told c next → CourseOf heeds from (past ++ told) next
  course_goes from past told c next unrefused of goes = record {
    heard = of.heard ++ told;
    split = split_on from past of.heard told of.split;
    kept = of.kept ++ goes.kept;
    opened = of.opened ++ goes.opened;
    is = λ keepings texts.
        ap₂ (λ (k : List Bool) (t : List (Option (List ℕ))). course_since heeds from (of.heard ++ told) (record { keepings = k; texts = t })) (append_assoc of.kept goes.kept keepings)
        (append_assoc of.opened goes.opened texts)
        ∙ course_on from past of.heard told (record { keepings = of.kept ++ (goes.kept ++ keepings); texts = of.opened ++ (goes.opened ++ texts) }) of.split unrefused
        ∙ ap (λ (d : Course). course_after heeds past told d) (of.is (goes.kept ++ keepings) (goes.opened ++ texts))
        ∙ goes.goes keepings texts;
  }

  -- and the course itself, where its choices alone are told
  pub course_is : (from : Outset) (past : List Entry) (c next : Course) → c ≡ next → CourseOf heeds from past c → CourseOf heeds from past next
  course_is from past c next same of = record { heard = of.heard; split = of.split; kept = of.kept; opened = of.opened; is = λ keepings texts. of.is keepings texts ∙ ap (choosing keepings texts) same }
