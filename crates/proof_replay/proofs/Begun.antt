-- A host that starts from records does so after entries that show what these give, and with the nonces that were counted.
use Rattle.std.proofs.Common.{◌≡◌, ℕ, zero, suc, ◌+◌, ◌≤◌, nat_eq, nat_le, Bool, true, false, if◌then◌else◌, ◌&&◌, List, [], ◌∷◌, ◌++◌, slice_index_or, refl, sym, ap, ◌∙◌, subst, arith}
use Rattle.std.proofs.lemmas.Bool.{eqb-false, eqb-true, leb-false, leb-true}
use Rattle.std.specs.Prelude.{Option, Some, None}
use Rattle.std.specs.List.{list_any}
use Rattle.host_keep.specs.Kept.{Interview, Kept, KeptNode, blank_node}
use Rattle.host_keep.specs.Kept as kept
use Rattle.host_model.specs.Holding.{listens_said}
use Rattle.host_model.specs.State.{HostState}
use Rattle.zw_text.specs.declared.line.Line.{Line}
use Rattle.zw_text.specs.declared.entry.Entry.{Entry}
use Rattle.zw_text.specs.declared.entry.Entry.TheVariants.{Interviewed, Said}
use Rattle.zw_text.specs.Transcript.{interview_at, interviews}
use Rattle.law_transcript.specs.Lists.{last_or, shown_after}
use Rattle.law_transcript.specs.Nodes.{is_interviewed, known_at_first, known_classes}
use Rattle.law_transcript.specs.Restarts.{is_restart, since_restart_from}
use Rattle.law_time.specs.Ends.{ending}
use Rattle.law_time.specs.Requests.{asked_before}
use Rattle.law_time.specs.Interviews.{listening_at, listens, says_listening}
use Rattle.proof_asking.specs.proof_requests.law_host.Course.{Book, book_of}
use Rattle.proof_asking.specs.proof_requests.law_host.Heard.{listing_heard}
use Rattle.proof_asking.specs.proof_requests.law_host.Starting.{book_kept}
use Rattle.proof_asking.specs.proof_requests.law_host.Starting as starting
use Rattle.proof_asking.specs.proof_requests.proof_alone.Listening.{ListensAsTold}
use Rattle.proof_asking.specs.proof_known.Known.{KnowsRecords}
use Rattle.proof_replay.specs.HostSteps.{StartsAfter, restart_word}
use Rattle.proof_replay.proofs.Serving.{restart_is}

-- ---- books

abbrev books_from : ℕ → List KeptNode → List Book
books_from at [] = []
books_from at (node ∷ nodes) = book_kept at node ∷ books_from (at + 1) nodes

books_are : (nodes : List KeptNode) (at place n : ℕ) → n ≡ at + place → book_of n (books_from at nodes) ≡ book_kept n (slice_index_or nodes place blank_node)
books_are [] at place n is = refl
books_are (node ∷ nodes) at zero n is = by (nat_eq at n) refl
  where
    same : at ≡ n
    same = omega (arith, is)

    by : (b : Bool) → nat_eq at n ≡ b → book_of n (books_from at (node ∷ nodes)) ≡ book_kept n node
    by true found =
        ap (λ (b : Bool). if b then book_kept at node else book_of n (books_from (at + 1) nodes)) found ∙ ap (λ (k : ℕ). book_kept k node) same
    by false none = absurd (eqb-false at n none same)
books_are (node ∷ nodes) at (suc place) n is = by (nat_eq at n) refl (books_are nodes (at + 1) place n (omega (arith, is)))
  where
    by : (b : Bool) → nat_eq at n ≡ b → book_of n (books_from (at + 1) nodes) ≡ book_kept n (slice_index_or nodes place blank_node)
        → book_of n (books_from at (node ∷ nodes)) ≡ book_kept n (slice_index_or nodes place blank_node)
    by true found later = let same = eqb-true at n found in absurd (omega (arith, same, is))
    by false none later = ap (λ (b : Bool). if b then book_kept at node else book_of n (books_from (at + 1) nodes)) none ∙ later

-- ---- a new host

anew_from : (past acc : List Entry) → since_restart_from acc (past ++ Said restart_word ∷ []) ≡ []
anew_from [] acc = ap (λ (l : List Line). if is_restart l && true then [] else acc ++ Said restart_word ∷ []) restart_is
anew_from (e ∷ past) acc = anew_from past _

-- ---- which nodes listen

none_right : (xs ys : List Bool) → list_any (λ (b : Bool). b) (xs ++ ys) ≡ false → list_any (λ (b : Bool). b) ys ≡ false
none_right [] ys none = none
none_right (true ∷ xs) ys none = absurd (let bad : true ≡ false = none in cc)
none_right (false ∷ xs) ys none = none_right xs ys none

-- an entry that ends no interview of a node well says nothing of its listening
unheard : (n : ℕ) (before : List Entry) (e : Entry) (rest : List Bool) → list_any (λ (b : Bool). b) (interview_at n e ++ rest) ≡ false → listening_at n before e ≡ []
unheard n before (Interviewed node) rest none = by (nat_eq node n) refl none
  where
    by : (b : Bool) → nat_eq node n ≡ b → list_any (λ (b : Bool). b) ((if nat_eq node n then true ∷ [] else []) ++ rest) ≡ false → listening_at n before (Interviewed node) ≡ []
    by true found bad = absurd (let is : true ≡ false = subst (λ (b : Bool). list_any (λ (b : Bool). b) ((if b then true ∷ [] else []) ++ rest) ≡ false) found bad in cc)
    by false other fine = ap (λ (b : Bool). if b then list_any (λ one. says_listening one.unit) (ending (asked_before before)) ∷ [] else []) other
unheard n before e rest none = refl

all_unheard : (n : ℕ) (past before : List Entry) → list_any (λ (b : Bool). b) (interviews n past) ≡ false → shown_after (listening_at n) before past ≡ []
all_unheard n [] before none = refl
all_unheard n (e ∷ past) before none =
    ap (λ (l : List Bool). l ++ shown_after (listening_at n) (before ++ e ∷ []) past) (unheard n before e (interviews n past) none)
    ∙ all_unheard n past (before ++ e ∷ []) (none_right (interview_at n e) (interviews n past) none)

-- a node whose classes are not known was not interviewed
not_interviewed : (past : List Entry) (n : ℕ) → known_classes listing_heard past n ≡ None → is_interviewed past n ≡ false
not_interviewed past n none = by (is_interviewed past n) refl
  where
    by : (b : Bool) → is_interviewed past n ≡ b → is_interviewed past n ≡ false
    by true is = absurd (let bad : Some (listing_heard past n) ≡ None =
        sym (ap (λ (b : Bool). if b then Some (listing_heard past n) else known_at_first n) is) ∙ none in cc)
    by false is = is

beyond_first : (n : ℕ) → 233 ≤ n → nat_eq n 2 ≡ false
beyond_first n far = by (nat_eq n 2) refl
  where
    by : (b : Bool) → nat_eq n 2 ≡ b → nat_eq n 2 ≡ false
    by true is = let same = eqb-true n 2 is in absurd (omega (arith, same, far))
    by false is = is

-- ---- the start

said_same : (interview : Option Interview) → listens_said interview ≡ starting.listens_said interview
said_same None = refl
said_same (Some interview) = refl

module _ (past : List Entry) (texts : List (List ℕ)) (h : HostState) (knows : KnowsRecords (past ++ Said restart_word ∷ []) h texts) (told : ListensAsTold (past ++ Said restart_word ∷ []) h) where
  abbrev before : List Entry
  before = past ++ Said restart_word ∷ []

  abbrev given : Kept
  given = knows.keeps.kept

  listens_beyond : (n : ℕ) → 233 ≤ n → listens n before ≡ starting.listens_said (kept.node_of given n).interview
  listens_beyond n far =
      let none : (kept.node_of given n).interview ≡ None = knows.beyond n far in
      let silent = all_unheard n before [] (not_interviewed before n (knows.lists n ∙ ap (λ (o : Option Interview). kept.classes_said o) none)) in
      ap (λ (l : List Bool). last_or (nat_eq n 2) l) silent ∙ (beyond_first n far ∙ sym (ap (λ (o : Option Interview). starting.listens_said o) none))

  listens_so : (n : ℕ) → listens n before ≡ starting.listens_said (kept.node_of given n).interview
  listens_so n = by (nat_le n 232) refl
    where
      by : (b : Bool) → nat_le n 232 ≡ b → listens n before ≡ starting.listens_said (kept.node_of given n).interview
      by true within = told n (leb-true n 232 within) ∙ (knows.listens n ∙ said_same (kept.node_of given n).interview)
      by false far = (let above = leb-false n 232 far in listens_beyond n (omega (arith, above)))

  pub begun : StartsAfter before texts
  begun = (
    record { before = before; books = books_from 0 given.nodes },
    record {
      kept = given;
      gives = knows.keeps.gives;
      shows = knows.keeps.shows;
      anew = anew_from past [];
      knows = λ node. record { lists = knows.lists node; listening = listens_so node };
      books = λ node. books_are given.nodes 0 node node (omega arith);
    },
    refl,
  )
