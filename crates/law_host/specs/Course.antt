-- The course of a host: which of its notes stand next, and what no entry shows (this project's own rule): which records its keeper kept, and
-- how far it is with the nonces of each node.
use Rattle.std.specs.Prelude.{ℕ, ◌==◌, Bool, true, false, if◌then◌else◌, List, [], ◌∷◌, ◌++◌, map, drop, Option}
use Rattle.host_heard.specs.declared.told.Told.{Told}
use Rattle.zw_text.specs.declared.entry.Entry.{Entry}
use Rattle.zw_text.specs.declared.entry.Entry.TheVariants.{Unkept}
use Rattle.law_time.specs.law_transcript.Units.{Carried}

-- ---- nonces

-- a text and the nonce of the node that it is to be sealed for
pub record Ready : Type 0 where
  pub nonce : List ℕ
  pub text : List ℕ

-- what the host has of a node's nonces: how many it has counted, the text that waits for one, and the one that has its nonce
pub record Sealer : Type 0 where
  pub seen : ℕ
  pub pending : List (List ℕ)
  pub ready : List Ready

-- what it has given a node: how many nonces, whether the last is live, and the numbers of those whose Nonce Reports wait, in order
pub record Giver : Type 0 where
  pub given : ℕ
  pub live : Bool
  pub offers : List ℕ

pub record Book : Type 0 where
  pub node : ℕ
  pub sealer : Sealer
  pub giver : Giver

abbrev pub blank_book : ℕ → Book
blank_book node = record {
  node = node;
  sealer = record { seen = 0; pending = []; ready = [] };
  giver = record { given = 0; live = false; offers = [] };
}

-- the book of a node, and the books with that one in its place
abbrev pub book_of : ℕ → List Book → Book
book_of node [] = blank_book node
book_of node (book ∷ books) = if book.node == node then book else book_of node books

abbrev pub with_book : Book → List Book → List Book
with_book book [] = book ∷ []
with_book book (first ∷ books) = if first.node == book.node then book ∷ books else first ∷ with_book book books

-- ---- what is said of nonces

-- the Nonce Report of the nonce of a node with that number
pub record Offer : Type 0 where
  pub node : ℕ
  pub number : ℕ
  pub nonce : List ℕ

-- what a message of a node opened to that was sealed for the nonce with that number, where it did
pub record Opening : Type 0 where
  pub node : ℕ
  pub number : ℕ
  pub payload : List ℕ
  pub text : Option (List ℕ)

-- what the host sent a node, sealed for a nonce of it
pub record Seal : Type 0 where
  pub node : ℕ
  pub ready : Ready
  pub payload : List ℕ

-- ---- what is gone by

-- the messages of a payload, up to its acknowledgement, by which its requests and attempts go: a report of the open session that the node is at work,
-- a Nonce Get whose nonce it has, a Nonce Report that it took, and what asks for a segment
pub record Heeding : Type 0 where
  pub past : List Entry
  pub carried : Carried
  pub messages : List Told

-- ---- the course

-- the notes that stand next; whether all entries so far may stand; how many requests the event has put into the queue; whether no request is
-- under way; up to which tick the host has gone; the books; whether each further record is kept, and what each further message opens to;
-- what was offered, opened and sealed so far; and by which messages of the payload that is judged it goes so far, and of all that were
pub record Course : Type 0 where
  pub due : List Entry
  pub fits : Bool
  pub put : ℕ
  pub over : Bool
  pub ticked : ℕ
  pub books : List Book
  pub keepings : List Bool
  pub texts : List (Option (List ℕ))
  pub offered : List Offer
  pub opened : List Opening
  pub sealed : List Seal
  pub taken : List Told
  pub heeded : List Heeding

-- what no entry shows of a host's life: whether each record was kept that its notes ask for, in order (those after the last were), and what
-- each message opened to that named a live nonce
pub record Choices : Type 0 where
  pub keepings : List Bool
  pub texts : List (Option (List ℕ))

-- the course as a host starts, with what was kept of its nonces
abbrev pub course_from : List Book → Choices → Course
course_from books choices = record {
  due = [];
  fits = true;
  put = 0;
  over = true;
  ticked = 0;
  books = books;
  keepings = choices.keepings;
  texts = choices.texts;
  offered = [];
  opened = [];
  sealed = [];
  taken = [];
  heeded = [];
}

-- ---- notes

-- further notes
abbrev pub with_notes : List Entry → Course → Course
with_notes notes course = record course { due = course.due ++ notes }

abbrev pub with_note : Entry → Course → Course
with_note note course = with_notes (note ∷ []) course

-- whether the next record is kept
abbrev pub is_kept : List Bool → Bool
is_kept [] = true
is_kept (kept ∷ more) = kept

-- a record of a node is asked for: where it is kept the host goes on so; else this is said, and nothing is done
abbrev pub if_kept : ℕ → (Course → Course) → Course → Course
if_kept node goes_on course =
    let next : Course = record course { keepings = drop 1 course.keepings } in
    if is_kept course.keepings then goes_on next else with_note (Unkept node) next

-- it goes by a message of the payload that is judged, and by these of a payload
abbrev pub with_taken : Told → Course → Course
with_taken message course = record course { taken = course.taken ++ message ∷ [] }

abbrev pub with_heeded : List Entry → Carried → Course → Course
with_heeded past carried course =
    record course { heeded = course.heeded ++ record { past = past; carried = carried; messages = course.taken } ∷ [] }

-- one after another
abbrev pub each_in_turn : {A : Type 0} → (A → Course → Course) → List A → Course → Course
each_in_turn goes [] course = course
each_in_turn goes (item ∷ items) course = each_in_turn goes items (goes item course)

-- ---- the books of a course

abbrev pub sealer_of : ℕ → Course → Sealer
sealer_of node course = (book_of node course.books).sealer

abbrev pub giver_of : ℕ → Course → Giver
giver_of node course = (book_of node course.books).giver

abbrev pub with_sealer : ℕ → Sealer → Course → Course
with_sealer node sealer course = record course { books = with_book (record (book_of node course.books) { sealer = sealer }) course.books }

abbrev pub with_giver : ℕ → Giver → Course → Course
with_giver node giver course = record course { books = with_book (record (book_of node course.books) { giver = giver }) course.books }

-- no text of a node waits for a nonce or has one
abbrev pub nothing_sealed : Sealer → Sealer
nothing_sealed sealer = record sealer { pending = []; ready = [] }

abbrev pub without_texts : ℕ → Course → Course
without_texts node course = with_sealer node (nothing_sealed (sealer_of node course)) course

-- a restart leaves what was kept: how many nonces were counted and given, and whether the last is live
abbrev pub restarted_book : Book → Book
restarted_book book = record book { sealer = nothing_sealed book.sealer; giver = record book.giver { offers = [] } }

abbrev pub restarted : Course → Course
restarted course = record course { over = true; books = map restarted_book course.books }
