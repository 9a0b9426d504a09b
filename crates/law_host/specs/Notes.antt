-- The law of the host's notes and nonces, over whatever records its keeper kept (this project's own rule).
use Rattle.std.specs.Prelude.{◌≡◌, ℕ, Bool, true, List, [], ◌++◌}
use Rattle.zw_text.specs.declared.entry.Entry.{Entry}
use Rattle.law_time.specs.Heeds.{Heeds}
use Rattle.law_host.specs.Course.{Book, Choices, Course, course_from}
use Rattle.law_host.specs.Following.{course_after, ended_whole}
use Rattle.law_host.specs.Nonces.{UsesNonces}

-- how a host starts: with what stood before, which shows what was kept, and with what was kept of its nonces
pub record Start : Type 0 where
  pub before : List Entry
  pub books : List Book

-- nothing was kept
abbrev pub first_start : Start
first_start = record { before = []; books = [] }

abbrev pub course_of : Heeds → Start → List Entry → Choices → Course
course_of heeds start heard choices = course_after heeds start.before heard (course_from start.books choices)

-- the host notes what happens, and nothing else; each text is sealed for a nonce of its own, and each nonce that is given counts on
pub record NotesWhatHappens (key : List ℕ) (heeds : Heeds) (start : Start) (whole : Bool) (heard : List Entry) : Type 0 where
  pub choices : Choices
  pub drawn : ℕ → ℕ → List ℕ
  pub fits : (course_of heeds start heard choices).fits ≡ true
  pub in_the_end : whole ≡ true → (ended_whole heeds (start.before ++ heard) (course_of heeds start heard choices)).fits ≡ true
  pub nonces : UsesNonces key drawn (course_of heeds start heard choices)
