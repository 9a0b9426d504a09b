-- What a new request leaves of a course besides its books, whatever is chosen later; and what a restart leaves of the books.
use Rattle.std.proofs.Common.{◌≡◌, ◌≤◌, ℕ, ◌==◌, Bool, true, false, if◌then◌else◌, inl, List, [], ◌∷◌, map, refl, sym, ap, ◌∙◌, subst}
use Rattle.std.specs.Prelude.{Option, Some, None, bytes_eq, is_some}
use Rattle.zw_base.proofs.Each.{all-weaker}
use Rattle.chip_functions.specs.Field.{IsNode}
use Rattle.encap.specs.Opening.{begins_with}
use Rattle.s0_session.specs.Nonces.{given_of}
use Rattle.zw_text.specs.declared.entry.Entry.{Entry}
use Rattle.law_transcript.specs.Payloads.{nonce_get}
use Rattle.law_transcript.specs.Units.{Carried, sending_in}
use Rattle.law_time.specs.Heeds.{Heeds}
use Rattle.host_model.specs.State.{HostState, node_of}
use Rattle.proof_choice.specs.proof_ends.proof_nonces.Counted.{IsLast, LiveSo}
use Rattle.proof_choice.specs.proof_ends.proof_requests.law_host.Course.{Book, Course, book_of, each_in_turn, nothing_sealed, restarted, restarted_book}
use Rattle.proof_choice.specs.proof_ends.proof_requests.law_host.Nonces.{asks_nonce, sends, sends_carried, shows_nonce, uses_nonce}
use Rattle.proof_choice.proofs.Accounts.{SameAccount}
use Rattle.proof_hearing.specs.Books.{BooksSo, GiverSo, IsLowOffer, IsLowOpening, SealerSo, nonces_to}
use Rattle.proof_hearing.specs.Hearing.{choosing}
use Rattle.proof_hearing.proofs.Alike.{Cleared}

-- ---- a request

-- all of a course that no request changes by what it carries
abbrev pub unsent : Course → Course
unsent course = record course { books = []; offered = []; sealed = [] }

module _ (heeds : Heeds) (past : List Entry) where
  one_else : (carried : Carried) (course : Course) → unsent (sends_carried heeds past carried course) ≡ unsent course
  one_else carried course = by (bytes_eq carried.payload nonce_get) (begins_with carried.payload 0x98 0x80) (begins_with carried.payload 0x98 0x81)
    where
      by : (a b c : Bool) → unsent (if a then asks_nonce heeds past carried.node course else (if b then shows_nonce carried course else (if c then uses_nonce carried course else course))) ≡ unsent course
      by true b c = refl
      by false true c = refl
      by false false true = refl
      by false false false = refl

  one_chosen : (keepings : List Bool) (texts : List (Option (List ℕ))) (carried : Carried) (course : Course)
      → sends_carried heeds past carried (choosing keepings texts course) ≡ choosing keepings texts (sends_carried heeds past carried course)
  one_chosen keepings texts carried course = by (bytes_eq carried.payload nonce_get) (begins_with carried.payload 0x98 0x80) (begins_with carried.payload 0x98 0x81)
    where
      by : (a b c : Bool)
          → (if a then asks_nonce heeds past carried.node (choosing keepings texts course) else (if b then shows_nonce carried (choosing keepings texts course)
          else (if c then uses_nonce carried (choosing keepings texts course) else choosing keepings texts course)))
          ≡ choosing keepings texts (if a then asks_nonce heeds past carried.node course else (if b then shows_nonce carried course else (if c then uses_nonce carried course else course)))
      by true b c = refl
      by false true c = refl
      by false false true = refl
      by false false false = refl

  each_else : (all : List Carried) (course : Course) → unsent (each_in_turn (sends_carried heeds past) all course) ≡ unsent course
  each_else [] course = refl
  each_else (carried ∷ all) course = each_else all (sends_carried heeds past carried course) ∙ one_else carried course

  each_chosen : (keepings : List Bool) (texts : List (Option (List ℕ))) (all : List Carried) (course : Course)
      → each_in_turn (sends_carried heeds past) all (choosing keepings texts course) ≡ choosing keepings texts (each_in_turn (sends_carried heeds past) all course)
  each_chosen keepings texts [] course = refl
  each_chosen keepings texts (carried ∷ all) course =
      ap (λ (c : Course). each_in_turn (sends_carried heeds past) all c) (one_chosen keepings texts carried course) ∙ each_chosen keepings texts all (sends_carried heeds past carried course)

  pub sends_else : (unit : List ℕ) (course : Course) → unsent (sends heeds past unit course) ≡ unsent course
  sends_else unit course = each_else (sending_in unit) course

  pub sends_chosen : (keepings : List Bool) (texts : List (Option (List ℕ))) (unit : List ℕ) (course : Course) → sends heeds past unit (choosing keepings texts course) ≡ choosing keepings texts (sends heeds past unit course)
  sends_chosen keepings texts unit course = each_chosen keepings texts (sending_in unit) course

-- ---- a restart

restarted_here : (node : ℕ) (books : List Book) → book_of node (map restarted_book books) ≡ restarted_book (book_of node books)
restarted_here node [] = refl
restarted_here node (book ∷ books) = by (book.node == node) (restarted_here node books)
  where
    by : (b : Bool) → book_of node (map restarted_book books) ≡ restarted_book (book_of node books)
        → (if b then restarted_book book else book_of node (map restarted_book books)) ≡ restarted_book (if b then book else book_of node books)
    by true later = refl
    by false later = later

-- the nonces of a host that starts again are those that it had; nothing waits, and nothing is to be sealed
pub books_restarted : (key : List ℕ) (heeds : Heeds) (past later : List Entry) (h g : HostState) (course : Course) → ((k : ℕ) → SameAccount h.nonces g.nonces k) → g.requests.queue ≡ []
    → ((m : ℕ) → IsNode m → Cleared (node_of h m) (node_of g m)) → BooksSo key heeds past h course → BooksSo key heeds later g (restarted course)
books_restarted key heeds past later h g course accounts queue bare so = record {
  drawn = so.drawn;
  seven = so.seven;
  live = live;
  givers = λ m is. subst (λ (b : Book). GiverSo so.drawn m g b.giver) (sym (restarted_here m course.books)) (giver m is);
  sealers = λ m is. subst (λ (b : Book). SealerSo key heeds later m g b.sealer) (sym (restarted_here m course.books)) (sealer m is);
  were_offered = all-weaker (IsLowOffer so.drawn h.nonces) (IsLowOffer so.drawn g.nonces) (λ offer was. record { is = was.is; low = low offer.number offer.node was.low }) course.offered so.were_offered;
  were_opened = all-weaker (IsLowOpening key so.drawn h.nonces) (IsLowOpening key so.drawn g.nonces) (λ opening was. record { is = was.is; low = low opening.number opening.node was.low }) course.opened so.were_opened;
  were_sealed = so.were_sealed;
}
  where
    low : (number node : ℕ) → number ≤ given_of h.nonces node → number ≤ given_of g.nonces node
    low number node is = subst (λ (k : ℕ). number ≤ k) (sym (accounts node).given) is

    live : LiveSo so.drawn g.nonces
    live node nonce at = subst (λ (k : ℕ). IsLast so.drawn node nonce k) (sym (accounts node).given) (so.live node nonce (sym (accounts node).live ∙ at))

    giver : (m : ℕ) → IsNode m → GiverSo so.drawn m g (record (book_of m course.books).giver { offers = [] })
    giver m is = record {
      given = (so.givers m is).given ∙ sym (accounts m).given;
      live = (so.givers m is).live ∙ ap (λ (o : Option (List ℕ)). is_some o) (sym (accounts m).live);
      offers = ap (nonces_to m) queue;
      low = tt;
    }

    no_some : (x : List ℕ) (o : Option (List ℕ)) → o ≡ None → o ≡ Some x → ⊥
    no_some x o none at = let bad : ◌≡◌ {A = Option (List ℕ)} None (Some x) = sym none ∙ at in cc

    sealer : (m : ℕ) → IsNode m → SealerSo key heeds later m g (nothing_sealed (book_of m course.books).sealer)
    sealer m is = record {
      seen = (so.sealers m is).seen ∙ sym (bare m is).seen;
      texts = record { text = λ t at. absurd (no_some t (node_of g m).text (bare m is).text at); pending = λ p at. absurd (no_some p (node_of g m).pending (bare m is).pending at) };
      waits = λ none. inl refl;
    }
