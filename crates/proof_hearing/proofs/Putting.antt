-- The book of a node among books, where one is put.
use Rattle.std.proofs.Common.{◌≡◌, ℕ, ◌==◌, Bool, true, false, if◌then◌else◌, inl, inr, List, [], ◌∷◌, refl, sym, ap, ◌∙◌, subst}
use Rattle.std.proofs.lemmas.Bool.{cases_eq, eq-eqb, eqb-true, ne_eqb}
use Rattle.proof_choice.specs.proof_ends.proof_requests.law_host.Course.{Book, Giver, Sealer, blank_book, book_of, with_book}

pub book_node : (node : ℕ) (books : List Book) → (book_of node books).node ≡ node
book_node node [] = refl
book_node node (book ∷ books) = by (book.node == node) refl (book_node node books)
  where
    by : (b : Bool) → (book.node == node) ≡ b → (book_of node books).node ≡ node → (if b then book else book_of node books).node ≡ node
    by true is later = eqb-true book.node node is
    by false is later = later

put_here : (book : Book) (books : List Book) → book_of book.node (with_book book books) ≡ book
put_here book [] = ap (λ (b : Bool). if b then book else blank_book book.node) (eq-eqb book.node book.node refl)
put_here book (first ∷ books) = by (first.node == book.node) refl (put_here book books)
  where
    by : (b : Bool) → (first.node == book.node) ≡ b → book_of book.node (with_book book books) ≡ book → book_of book.node (if b then book ∷ books else first ∷ with_book book books) ≡ book
    by true is later = ap (λ (b : Bool). if b then book else book_of book.node books) (eq-eqb book.node book.node refl)
    by false is later = ap (λ (b : Bool). if b then first else book_of book.node (with_book book books)) is ∙ later

put_other : (node : ℕ) (book : Book) (books : List Book) → (book.node ≡ node → ⊥) → book_of node (with_book book books) ≡ book_of node books
put_other node book [] other = ap (λ (b : Bool). if b then book else blank_book node) (ne_eqb book.node node other)
put_other node book (first ∷ books) other = by (first.node == book.node) refl (put_other node book books other)
  where
    by : (b : Bool) → (first.node == book.node) ≡ b → book_of node (with_book book books) ≡ book_of node books
        → book_of node (if b then book ∷ books else first ∷ with_book book books) ≡ book_of node (first ∷ books)
    by true is later =
        ap (λ (b : Bool). if b then book else book_of node books) (ne_eqb book.node node other)
        ∙ sym (ap (λ (b : Bool). if b then first else book_of node books) (ne_eqb first.node node (λ same. other (sym (eqb-true first.node book.node is) ∙ same))))
    by false is later = ap (λ (l : Book). if first.node == node then first else l) later

-- the books with another one for a node
abbrev pub with_giver_book : ℕ → Giver → List Book → List Book
with_giver_book node giver books = with_book (record (book_of node books) { giver = giver }) books

abbrev pub with_sealer_book : ℕ → Sealer → List Book → List Book
with_sealer_book node sealer books = with_book (record (book_of node books) { sealer = sealer }) books

pub giver_here : (node : ℕ) (giver : Giver) (books : List Book) → book_of node (with_giver_book node giver books) ≡ record (book_of node books) { giver = giver }
giver_here node giver books =
    let book : Book = record (book_of node books) { giver = giver } in
    subst (λ (k : ℕ). book_of k (with_book book books) ≡ book) (book_node node books) (put_here book books)

pub giver_other : (node at : ℕ) (giver : Giver) (books : List Book) → (at ≡ node → ⊥) → book_of node (with_giver_book at giver books) ≡ book_of node books
giver_other node at giver books other = put_other node (record (book_of at books) { giver = giver }) books (λ same. other (sym (book_node at books) ∙ same))

pub sealer_here : (node : ℕ) (sealer : Sealer) (books : List Book) → book_of node (with_sealer_book node sealer books) ≡ record (book_of node books) { sealer = sealer }
sealer_here node sealer books =
    let book : Book = record (book_of node books) { sealer = sealer } in
    subst (λ (k : ℕ). book_of k (with_book book books) ≡ book) (book_node node books) (put_here book books)

pub sealer_other : (node at : ℕ) (sealer : Sealer) (books : List Book) → (at ≡ node → ⊥) → book_of node (with_sealer_book at sealer books) ≡ book_of node books
sealer_other node at sealer books other = put_other node (record (book_of at books) { sealer = sealer }) books (λ same. other (sym (book_node at books) ∙ same))

-- a new giver leaves all sealers, and a new sealer all givers
pub sealers_stay : (node at : ℕ) (giver : Giver) (books : List Book) → (book_of node (with_giver_book at giver books)).sealer ≡ (book_of node books).sealer
sealers_stay node at giver books = elim (cases_eq at node) [
  | inl same ↦ subst (λ (k : ℕ). (book_of k (with_giver_book at giver books)).sealer ≡ (book_of k books).sealer) same (ap (λ (b : Book). b.sealer) (giver_here at giver books))
  | inr other ↦ ap (λ (b : Book). b.sealer) (giver_other node at giver books other)
]

pub givers_stay : (node at : ℕ) (sealer : Sealer) (books : List Book) → (book_of node (with_sealer_book at sealer books)).giver ≡ (book_of node books).giver
givers_stay node at sealer books = elim (cases_eq at node) [
  | inl same ↦ subst (λ (k : ℕ). (book_of k (with_sealer_book at sealer books)).giver ≡ (book_of k books).giver) same (ap (λ (b : Book). b.giver) (sealer_here at sealer books))
  | inr other ↦ ap (λ (b : Book). b.giver) (sealer_other node at sealer books other)
]
