-- How the books of a course go with those of a host, at what an event after a payload does: what leaves them, a nonce that is given, offered or spent, a nonce that is taken, and an outcome.
use Rattle.std.proofs.Common.{◌≡◌, ◌⊎◌, ◌<◌, ◌≤◌, ℕ, ◌+◌, ◌%◌, Bool, true, false, if◌then◌else◌, inl, inr, List, [], ◌∷◌, ◌++◌, length, map, refl, sym, ap, ap₂, ◌∙◌, subst, append-nil, arith}
use Rattle.std.specs.Prelude.{Option, Some, None, is_some, slice_set}
use Rattle.std.specs.List.{AllByRecursion, flat_map}
use Rattle.std.proofs.lemmas.Bool.{cases_eq, eq-eqb, ne_eqb}
use Rattle.std.proofs.lemmas.Grind.{flat_map-append}
use Rattle.std.proofs.lemmas.List.{get_or-set_same, get_or-set_other, map-append}
use Rattle.zw_base.proofs.Each.{all-append, all-weaker}
use Rattle.chip_functions.specs.Field.{IsNode}
use Rattle.s0_crypto.specs.Sealing.{keys_of, unsealed_at}
use Rattle.s0_session.specs.declared.account.Account.{Account}
use Rattle.s0_session.specs.Nonces.{account_of, after_give, given_of, live_of, unused}
use Rattle.zw_text.specs.declared.entry.Entry.{Entry}
use Rattle.law_transcript.specs.Nodes.{controller}
use Rattle.law_time.specs.Heeds.{Heeds}
use Rattle.host_keep.specs.Kept.{Taken}
use Rattle.host_requests.specs.declared.task.Task.{Task}
use Rattle.host_requests.specs.declared.task.Task.TheVariants.{Offer as waits_offer, Segment as waits_segment}
use Rattle.host_requests.specs.Events.RequestsEvent.{Pushes}
use Rattle.supervision.specs.Host.{command_at as command_of_session}
use Rattle.host_model.specs.State.{HostState, node_of}
use Rattle.host_model.specs.After.{giving, requests_do, spending}
use Rattle.proof_host.specs.Tables.{taken_at}
use Rattle.proof_choice.specs.proof_ends.proof_requests.law_host.Course.{Book, Giver, Offer, Opening, Seal, Sealer, book_of, nothing_sealed}
use Rattle.proof_choice.specs.proof_ends.proof_requests.law_host.Nonces.{IsOpening, IsSeal, is_late, nonce_with}
use Rattle.proof_choice.specs.proof_ends.proof_nonces.Counted.{LiveSo}
use Rattle.proof_choice.proofs.Accounts.{Redrawn, SetTo, given_next, gave_grown, gives_drawn, same_grown, set_goes, spends_grown, spent_live}
use Rattle.proof_hearing.specs.Books.{BooksOf, GiverSo, IsLowOffer, IsLowOpening, IsReady, SealedOpen, SealerSo, nonce_to, nonces_to}
use Rattle.proof_hearing.proofs.Alike.{Alike, Cleared}
use Rattle.proof_hearing.proofs.Putting.{giver_here, giver_other, givers_stay, sealer_here, sealer_other, sealers_stay, with_giver_book, with_sealer_book}

-- ---- what waits

one_to : (n : ℕ) (nonce : List ℕ) → nonces_to n (waits_offer n nonce ∷ []) ≡ nonce ∷ []
one_to n nonce = ap (λ (b : Bool). (if b then nonce ∷ [] else []) ++ []) (eq-eqb n n refl)

none_to : (m n : ℕ) (nonce : List ℕ) → (n ≡ m → ⊥) → nonces_to m (waits_offer n nonce ∷ []) ≡ []
none_to m n nonce other = ap (λ (b : Bool). (if b then nonce ∷ [] else []) ++ []) (ne_eqb n m other)

pub segment_to : (m n : ℕ) (queue : List Task) (payload : List ℕ) → nonces_to m (queue ++ waits_segment n payload ∷ []) ≡ nonces_to m queue
segment_to m n queue payload = flat_map-append (nonce_to m) queue (waits_segment n payload ∷ []) ∙ append-nil (nonces_to m queue)

-- numbers of nonces that are drawn as before
map_low : (first next : ℕ → List ℕ) (top : ℕ) → ((number : ℕ) → number ≤ top → next number ≡ first number) → (numbers : List ℕ) → AllByRecursion (λ number. number ≤ top) numbers → map first numbers ≡ map next numbers
map_low first next top agrees [] all = refl
map_low first next top agrees (number ∷ more) all = ap₂ (λ (x : List ℕ) (l : List (List ℕ)). x ∷ l) (sym (agrees number all.0)) (map_low first next top agrees more all.1)

no_more : (a b : ℕ) → a ≡ b → a ≤ b
no_more a b is = omega (arith, is)

up_to : (a b c : ℕ) → a ≤ b → b ≤ c → a ≤ c
up_to a b c first next = omega (arith, first, next)

-- no fewer are given, whatever is given or spent
gave_more : (nonces : List Account) (n : ℕ) (bytes : List ℕ) → live_of nonces n ≡ None → (node : ℕ) → given_of nonces node ≤ given_of (slice_set nonces n (after_give (account_of nonces n) bytes)) node
gave_more nonces n bytes none node = by (set_goes nonces n (after_give (account_of nonces n) bytes) node)
  where
    by : SetTo node n (after_give (account_of nonces n) bytes) nonces (slice_set nonces n (after_give (account_of nonces n) bytes))
        → given_of nonces node ≤ given_of (slice_set nonces n (after_give (account_of nonces n) bytes)) node
    by (inl gave) = (gave_grown nonces (slice_set nonces n (after_give (account_of nonces n) bytes)) node n bytes none gave).given
    by (inr same) = (same_grown nonces (slice_set nonces n (after_give (account_of nonces n) bytes)) node same).given

spent_more : (nonces : List Account) (n node : ℕ) → given_of nonces node ≤ given_of (slice_set nonces n (record (account_of nonces n) { live = None })) node
spent_more nonces n node = by (set_goes nonces n (record (account_of nonces n) { live = None }) node)
  where
    by : SetTo node n (record (account_of nonces n) { live = None }) nonces (slice_set nonces n (record (account_of nonces n) { live = None }))
        → given_of nonces node ≤ given_of (slice_set nonces n (record (account_of nonces n) { live = None })) node
    by (inl spent) = (spends_grown nonces (slice_set nonces n (record (account_of nonces n) { live = None })) node n spent).given
    by (inr same) = (same_grown nonces (slice_set nonces n (record (account_of nonces n) { live = None })) node same).given

-- ---- givers

pub giver_on : (drawn : ℕ → ℕ → List ℕ) (m : ℕ) (h g : HostState) (giver : Giver) → g.nonces ≡ h.nonces → nonces_to m g.requests.queue ≡ nonces_to m h.requests.queue → GiverSo drawn m h giver → GiverSo drawn m g giver
giver_on drawn m h g giver nonces queue so = record {
  given = so.given ∙ ap (λ (l : List Account). given_of l m) (sym nonces);
  live = so.live ∙ ap (λ (l : List Account). is_some (live_of l m)) (sym nonces);
  offers = queue ∙ so.offers;
  low = subst (λ (l : List Account). AllByRecursion (λ number. number ≤ given_of l m) giver.offers) (sym nonces) so.low;
}

-- by what is drawn then, where as many were given
giver_by : (drawn next : ℕ → ℕ → List ℕ) (m : ℕ) (h g : HostState) (giver : Giver) → account_of g.nonces m ≡ account_of h.nonces m → nonces_to m g.requests.queue ≡ nonces_to m h.requests.queue
    → ((number : ℕ) → number ≤ given_of h.nonces m → next m number ≡ drawn m number) → GiverSo drawn m h giver → GiverSo next m g giver
giver_by drawn next m h g giver account queue agrees so = record {
  given = so.given ∙ ap (λ (a : Account). a.given) (sym account);
  live = so.live ∙ ap (λ (a : Account). is_some a.live) (sym account);
  offers = queue ∙ so.offers ∙ map_low (nonce_with drawn m) (nonce_with next m) (given_of h.nonces m) (λ number low. ap (λ (b : List ℕ). number % 256 ∷ b) (agrees number low)) giver.offers so.low;
  low = subst (λ (a : Account). AllByRecursion (λ number. number ≤ a.given) giver.offers) (sym account) so.low;
}

-- its last nonce is offered
abbrev pub one_offered : Giver → Giver
one_offered giver = record giver { offers = giver.offers ++ giver.given ∷ [] }

-- one more is given, and live
abbrev pub one_given : Giver → Giver
one_given giver = record giver { given = giver.given + 1; live = true }

-- the live one is spent
abbrev pub none_live : Giver → Giver
none_live giver = record giver { live = false }

-- each order that was taken stays, and how it is carried
abbrev pub KeepsOrders : HostState → HostState → Type 0
KeepsOrders h g = (number : ℕ) (taken : Taken) → taken_at h.commands number ≡ Some taken → taken_at g.commands number ≡ Some taken

-- ---- sealers

module _ (key : List ℕ) (heeds : Heeds) where
  -- a session that is open stays so
  pub open_on : (h g : HostState) (m : ℕ) → Alike (node_of h m) (node_of g m) → KeepsOrders h g → SealedOpen h m → SealedOpen g m
  open_on h g m alike orders was = record {
    session = was.session;
    opened = alike.opened ∙ was.opened;
    number = was.number;
    at = ap (λ (l : List ℕ). command_of_session l was.session) alike.commands ∙ was.at;
    taken = was.taken;
    found = orders was.number was.taken was.found;
    form = was.form;
  }

  pub sealer_on : (past later : List Entry) (m : ℕ) (h g : HostState) (sealer : Sealer) → Alike (node_of h m) (node_of g m) → KeepsOrders h g
      → (is_late heeds past m ≡ true → is_late heeds later m ≡ true) → SealerSo key heeds past m h sealer → SealerSo key heeds later m g sealer
  sealer_on past later m h g sealer alike orders late so = record {
    seen = so.seen ∙ sym alike.seen;
    texts = record { text = λ t at. so.texts.text t (sym alike.text ∙ at); pending = λ p at. so.texts.pending p (sym alike.pending ∙ at) };
    waits = λ none. on (so.waits (sym alike.pending ∙ none));
  }
    where
      on : (sealer.pending ≡ []) ⊎ ((is_late heeds past m ≡ true) × SealedOpen h m) → (sealer.pending ≡ []) ⊎ ((is_late heeds later m ≡ true) × SealedOpen g m)
      on (inl is) = inl is
      on (inr is) = inr (late is.0, open_on h g m alike orders is.1)

  none_some : (t : List ℕ) (o : Option (List ℕ)) → o ≡ None → o ≡ Some t → ⊥
  none_some t o none at = let bad : ◌≡◌ {A = Option (List ℕ)} None (Some t) = sym none ∙ at in cc

  some_same : (t u : List ℕ) → Some t ≡ Some u → t ≡ u
  some_same t u e = cc

  sealer_cleared : (past later : List Entry) (m : ℕ) (h g : HostState) (sealer : Sealer) → Cleared (node_of h m) (node_of g m) → SealerSo key heeds past m h sealer → SealerSo key heeds later m g (nothing_sealed sealer)
  sealer_cleared past later m h g sealer clear so = record {
    seen = so.seen ∙ sym clear.seen;
    texts = record { text = λ t at. absurd (none_some t (node_of g m).text clear.text at); pending = λ p at. absurd (none_some p (node_of g m).pending clear.pending at) };
    waits = λ none. inl refl;
  }

  -- an attempt that is over without a sign keeps its plain text in the book
  sealer_late : (past later : List Entry) (m : ℕ) (h g : HostState) (sealer : Sealer) → Cleared (node_of h m) (node_of g m) → (sealer.pending ≡ []) ⊎ ((is_late heeds later m ≡ true) × SealedOpen g m)
      → SealerSo key heeds past m h sealer → SealerSo key heeds later m g sealer
  sealer_late past later m h g sealer clear late so = record {
    seen = so.seen ∙ sym clear.seen;
    texts = record { text = λ t at. absurd (none_some t (node_of g m).text clear.text at); pending = λ p at. absurd (none_some p (node_of g m).pending clear.pending at) };
    waits = λ none. late;
  }

  -- a plain text is sealed for a nonce that is ready
  abbrev pub ready_by : List ℕ → ℕ → Sealer → Sealer
  ready_by nonce seen sealer = record { seen = seen; pending = []; ready = flat_map (λ (text : List ℕ). record { nonce = nonce; text = text } ∷ []) sealer.pending }

  sealer_taken : (later : List Entry) (m : ℕ) (g : HostState) (sealer : Sealer) (nonce plain text : List ℕ) (seen : ℕ) → sealer.pending ≡ plain ∷ []
      → IsSeal key (record { node = m; ready = record { nonce = nonce; text = plain }; payload = text })
      → (node_of g m).seen ≡ seen → (node_of g m).text ≡ Some text → (node_of g m).pending ≡ None → SealerSo key heeds later m g (ready_by nonce seen sealer)
  sealer_taken later m g sealer nonce plain text seen was seal seen_so text_so pending_so = record {
    seen = sym seen_so;
    texts = record {
      text = λ t at. subst (IsReady key m (ready_by nonce seen sealer)) (some_same text t (sym text_so ∙ at))
          (record {
            one = record { nonce = nonce; text = plain };
            is = ap (λ (l : List (List ℕ)). flat_map (λ (one : List ℕ). record { nonce = nonce; text = one } ∷ []) l) was;
            seal = seal;
          });
      pending = λ p at. absurd (none_some p (node_of g m).pending pending_so at);
    };
    waits = λ none. inl refl;
  }

  -- ---- all books

  module _ (past later : List Entry) (h : HostState) (books : List Book) (offered : List Offer) (opened : List Opening) (sealed : List Seal)
      (so : BooksOf key heeds past h books offered opened sealed) where
    abbrev pub LateOn : Type 0
    LateOn = (m : ℕ) → IsNode m → is_late heeds past m ≡ true → is_late heeds later m ≡ true

    -- the books stay, where what the host has sealed stays as they say
    books_stay : (g : HostState) → g.nonces ≡ h.nonces → ((m : ℕ) → nonces_to m g.requests.queue ≡ nonces_to m h.requests.queue)
        → ((m : ℕ) → IsNode m → SealerSo key heeds later m g (book_of m books).sealer) → BooksOf key heeds later g books offered opened sealed
    books_stay g nonces queue sealers = record {
      drawn = so.drawn;
      seven = so.seven;
      live = subst (LiveSo so.drawn) (sym nonces) so.live;
      givers = λ m is. giver_on so.drawn m h g (book_of m books).giver nonces (queue m) (so.givers m is);
      sealers = sealers;
      were_offered = subst (λ (l : List Account). AllByRecursion (IsLowOffer so.drawn l) offered) (sym nonces) so.were_offered;
      were_opened = subst (λ (l : List Account). AllByRecursion (IsLowOpening key so.drawn l) opened) (sym nonces) so.were_opened;
      were_sealed = so.were_sealed;
    }

    -- an event that leaves them
    pub books_on : (g : HostState) → g.nonces ≡ h.nonces → ((m : ℕ) → nonces_to m g.requests.queue ≡ nonces_to m h.requests.queue) → ((m : ℕ) → IsNode m → Alike (node_of h m) (node_of g m)) → KeepsOrders h g → LateOn
        → BooksOf key heeds later g books offered opened sealed
    books_on g nonces queue alike orders late = books_stay g nonces queue (λ m is. sealer_on past later m h g (book_of m books).sealer (alike m is) orders (late m is) (so.sealers m is))

    -- the sealer of one node changes
    pub sealers_at : (g : HostState) (n : ℕ) (sealer : Sealer) → g.nonces ≡ h.nonces → ((m : ℕ) → nonces_to m g.requests.queue ≡ nonces_to m h.requests.queue)
        → ((m : ℕ) → IsNode m → (m ≡ n → ⊥) → SealerSo key heeds later m g (book_of m books).sealer) → SealerSo key heeds later n g sealer
        → BooksOf key heeds later g (with_sealer_book n sealer books) offered opened sealed
    sealers_at g n sealer nonces queue others this = record {
      drawn = so.drawn;
      seven = so.seven;
      live = subst (LiveSo so.drawn) (sym nonces) so.live;
      givers = λ m is. subst (GiverSo so.drawn m g) (sym (givers_stay m n sealer books)) (giver_on so.drawn m h g (book_of m books).giver nonces (queue m) (so.givers m is));
      sealers = λ m is. by m is;
      were_offered = subst (λ (l : List Account). AllByRecursion (IsLowOffer so.drawn l) offered) (sym nonces) so.were_offered;
      were_opened = subst (λ (l : List Account). AllByRecursion (IsLowOpening key so.drawn l) opened) (sym nonces) so.were_opened;
      were_sealed = so.were_sealed;
    }
      where
        by : (m : ℕ) → IsNode m → SealerSo key heeds later m g (book_of m (with_sealer_book n sealer books)).sealer
        by m is = elim (cases_eq m n) [
          | inl same ↦ subst (λ (k : ℕ). SealerSo key heeds later k g (book_of k (with_sealer_book n sealer books)).sealer) (sym same)
              (subst (λ (b : Book). SealerSo key heeds later n g b.sealer) (sym (sealer_here n sealer books)) this)
          | inr other ↦ subst (λ (b : Book). SealerSo key heeds later m g b.sealer) (sym (sealer_other m n sealer books (λ same. other (sym same)))) (others m is other)
        ]

    -- a command has ended
    pub books_end : (g : HostState) (n : ℕ) → IsNode n → g.nonces ≡ h.nonces → ((m : ℕ) → nonces_to m g.requests.queue ≡ nonces_to m h.requests.queue)
        → ((m : ℕ) → (m ≡ n → ⊥) → Alike (node_of h m) (node_of g m)) → Cleared (node_of h n) (node_of g n) → KeepsOrders h g → ((m : ℕ) → IsNode m → (m ≡ n → ⊥) → is_late heeds past m ≡ true → is_late heeds later m ≡ true)
        → BooksOf key heeds later g (with_sealer_book n (nothing_sealed (book_of n books).sealer) books) offered opened sealed
    books_end g n is_node nonces queue alike clear orders late =
        sealers_at g n (nothing_sealed (book_of n books).sealer) nonces queue
        (λ m is other. sealer_on past later m h g (book_of m books).sealer (alike m other) orders (late m is other) (so.sealers m is))
        (sealer_cleared past later n h g (book_of n books).sealer clear (so.sealers n is_node))

    -- the books stay, and one node is looked at by itself
    pub books_one : (g : HostState) (n : ℕ) → g.nonces ≡ h.nonces → ((m : ℕ) → nonces_to m g.requests.queue ≡ nonces_to m h.requests.queue)
        → ((m : ℕ) → IsNode m → (m ≡ n → ⊥) → SealerSo key heeds later m g (book_of m books).sealer) → SealerSo key heeds later n g (book_of n books).sealer
        → BooksOf key heeds later g books offered opened sealed
    books_one g n nonces queue others this = books_stay g nonces queue by
      where
        by : (m : ℕ) → IsNode m → SealerSo key heeds later m g (book_of m books).sealer
        by m is = elim (cases_eq m n) [
          | inl same ↦ subst (λ (k : ℕ). SealerSo key heeds later k g (book_of k books).sealer) (sym same) this
          | inr other ↦ others m is other
        ]

    -- an attempt is over without a sign
    pub books_late : (g : HostState) (n : ℕ) → IsNode n → g.nonces ≡ h.nonces → ((m : ℕ) → nonces_to m g.requests.queue ≡ nonces_to m h.requests.queue)
        → ((m : ℕ) → (m ≡ n → ⊥) → Alike (node_of h m) (node_of g m)) → Cleared (node_of h n) (node_of g n) → KeepsOrders h g
        → ((m : ℕ) → IsNode m → (m ≡ n → ⊥) → is_late heeds past m ≡ true → is_late heeds later m ≡ true)
        → ((book_of n books).sealer.pending ≡ []) ⊎ ((is_late heeds later n ≡ true) × SealedOpen g n) → BooksOf key heeds later g books offered opened sealed
    books_late g n is_node nonces queue alike clear orders late stale =
        books_one g n nonces queue (λ m is other. sealer_on past later m h g (book_of m books).sealer (alike m other) orders (late m is other) (so.sealers m is))
        (sealer_late past later n h g (book_of n books).sealer clear stale (so.sealers n is_node))

    -- a nonce is taken
    pub books_take : (g : HostState) (n seen : ℕ) (nonce plain text : List ℕ) → g.nonces ≡ h.nonces → ((m : ℕ) → nonces_to m g.requests.queue ≡ nonces_to m h.requests.queue)
        → ((m : ℕ) → (m ≡ n → ⊥) → Alike (node_of h m) (node_of g m)) → KeepsOrders h g → LateOn → (book_of n books).sealer.pending ≡ plain ∷ []
        → IsSeal key (record { node = n; ready = record { nonce = nonce; text = plain }; payload = text }) → (node_of g n).seen ≡ seen → (node_of g n).text ≡ Some text → (node_of g n).pending ≡ None
        → BooksOf key heeds later g (with_sealer_book n (ready_by nonce seen (book_of n books).sealer) books) offered opened sealed
    books_take g n seen nonce plain text nonces queue alike orders late was seal seen_so text_so pending_so =
        sealers_at g n (ready_by nonce seen (book_of n books).sealer) nonces queue
        (λ m is other. sealer_on past later m h g (book_of m books).sealer (alike m other) orders (late m is) (so.sealers m is))
        (sealer_taken later n g (book_of n books).sealer nonce plain text seen was seal seen_so text_so pending_so)

    -- ---- nonces

    -- its Nonce Report waits
    pub books_offer : (n : ℕ) (nonce : List ℕ) → IsNode n → live_of h.nonces n ≡ Some nonce → LateOn
        → BooksOf key heeds later (requests_do h (Pushes (waits_offer n nonce))) (with_giver_book n (one_offered (book_of n books).giver) books) offered opened sealed
    books_offer n nonce is_node live late = record {
      drawn = so.drawn;
      seven = so.seven;
      live = so.live;
      givers = λ m is. by m is;
      sealers = λ m is. subst (SealerSo key heeds later m (requests_do h (Pushes (waits_offer n nonce)))) (sym (sealers_stay m n (one_offered (book_of n books).giver) books))
          (sealer_on past later m h (requests_do h (Pushes (waits_offer n nonce))) (book_of m books).sealer (record { seen = refl; text = refl; pending = refl; opened = refl; commands = refl }) (λ number taken found. found) (late m is) (so.sealers m is));
      were_offered = so.were_offered;
      were_opened = so.were_opened;
      were_sealed = so.were_sealed;
    }
      where
        made : nonce ≡ nonce_with so.drawn n (book_of n books).giver.given
        made = (so.live n nonce live).is ∙ ap (λ (k : ℕ). nonce_with so.drawn n k) (sym (so.givers n is_node).given)

        here : GiverSo so.drawn n (requests_do h (Pushes (waits_offer n nonce))) (one_offered (book_of n books).giver)
        here =
            let was = so.givers n is_node in
            record {
              given = was.given;
              live = was.live;
              offers = flat_map-append (nonce_to n) h.requests.queue (waits_offer n nonce ∷ []) ∙ ap (λ (l : List (List ℕ)). nonces_to n h.requests.queue ++ l) (one_to n nonce)
                  ∙ ap₂ (λ (a : List (List ℕ)) (b : List ℕ). a ++ b ∷ []) was.offers made
                  ∙ sym (map-append (nonce_with so.drawn n) (book_of n books).giver.offers ((book_of n books).giver.given ∷ []));
              low = all-append (λ number. number ≤ given_of h.nonces n) (book_of n books).giver.offers ((book_of n books).giver.given ∷ []) was.low
                  (no_more (book_of n books).giver.given (given_of h.nonces n) was.given, tt);
            }

        by : (m : ℕ) → IsNode m → GiverSo so.drawn m (requests_do h (Pushes (waits_offer n nonce))) (book_of m (with_giver_book n (one_offered (book_of n books).giver) books)).giver
        by m is = elim (cases_eq n m) [
          | inl same ↦ subst (λ (k : ℕ). GiverSo so.drawn k (requests_do h (Pushes (waits_offer n nonce))) (book_of k (with_giver_book n (one_offered (book_of n books).giver) books)).giver) same
              (subst (λ (b : Book). GiverSo so.drawn n (requests_do h (Pushes (waits_offer n nonce))) b.giver) (sym (giver_here n (one_offered (book_of n books).giver) books)) here)
          | inr other ↦ subst (λ (b : Book). GiverSo so.drawn m (requests_do h (Pushes (waits_offer n nonce))) b.giver) (sym (giver_other m n (one_offered (book_of n books).giver) books other))
              (giver_on so.drawn m h (requests_do h (Pushes (waits_offer n nonce))) (book_of m books).giver refl
              (flat_map-append (nonce_to m) h.requests.queue (waits_offer n nonce ∷ []) ∙ ap (λ (l : List (List ℕ)). nonces_to m h.requests.queue ++ l) (none_to m n nonce other)
              ∙ append-nil (nonces_to m h.requests.queue)) (so.givers m is))
        ]

    -- the accounts of a host, one of which is set
    abbrev Set : ℕ → Account → List Account
    Set n account = slice_set h.nonces n account

    other_account : (n m : ℕ) (account : Account) → (n ≡ m → ⊥) → account_of (Set n account) m ≡ account_of h.nonces m
    other_account n m account other = get_or-set_other h.nonces n m account unused (λ same. other (sym same))

    here_account : (n : ℕ) (account : Account) → n < length h.nonces → account_of (Set n account) n ≡ account
    here_account n account within = get_or-set_same h.nonces n account unused within

    -- what was given stays so, by what is drawn then
    offers_low : (drawn next : ℕ → ℕ → List ℕ) (nonces : List Account) → ((node number : ℕ) → number ≤ given_of h.nonces node → next node number ≡ drawn node number)
        → ((node : ℕ) → given_of h.nonces node ≤ given_of nonces node) → (offers : List Offer) → AllByRecursion (IsLowOffer drawn h.nonces) offers → AllByRecursion (IsLowOffer next nonces) offers
    offers_low drawn next nonces agrees grown offers all =
        all-weaker (IsLowOffer drawn h.nonces) (IsLowOffer next nonces)
        (λ offer was. record {
          is = was.is ∙ ap (λ (b : List ℕ). offer.number % 256 ∷ b) (sym (agrees offer.node offer.number was.low));
          low = up_to offer.number (given_of h.nonces offer.node) (given_of nonces offer.node) was.low (grown offer.node);
        }) offers all

    openings_low : (drawn next : ℕ → ℕ → List ℕ) (nonces : List Account) → ((node number : ℕ) → number ≤ given_of h.nonces node → next node number ≡ drawn node number)
        → ((node : ℕ) → given_of h.nonces node ≤ given_of nonces node) → (openings : List Opening) → AllByRecursion (IsLowOpening key drawn h.nonces) openings
        → AllByRecursion (IsLowOpening key next nonces) openings
    openings_low drawn next nonces agrees grown openings all =
        all-weaker (IsLowOpening key drawn h.nonces) (IsLowOpening key next nonces)
        (λ opening was. record {
          is = ap (λ (nonce : List ℕ). unsealed_at (keys_of key) nonce (record { sender = opening.node; receiver = controller }) opening.payload)
              (ap (λ (b : List ℕ). opening.number % 256 ∷ b) (agrees opening.node opening.number was.low)) ∙ was.is;
          low = up_to opening.number (given_of h.nonces opening.node) (given_of nonces opening.node) was.low (grown opening.node);
        }) openings all

    -- one more is given
    pub books_give : (n : ℕ) (bytes : List ℕ) → IsNode n → n < length h.nonces → live_of h.nonces n ≡ None → length bytes ≡ 8 → BooksOf key heeds past (giving h n bytes) (with_giver_book n (one_given (book_of n books).giver) books) offered opened sealed
    books_give n bytes is_node within none eight = record {
      drawn = redrawn.next;
      seven = redrawn.seven;
      live = redrawn.live;
      givers = λ m is. by m is;
      sealers = λ m is. subst (SealerSo key heeds past m (giving h n bytes)) (sym (sealers_stay m n (one_given (book_of n books).giver) books))
          (sealer_on past past m h (giving h n bytes) (book_of m books).sealer (record { seen = refl; text = refl; pending = refl; opened = refl; commands = refl }) (λ number taken found. found) (λ late. late) (so.sealers m is));
      were_offered = offers_low so.drawn redrawn.next (giving h n bytes).nonces redrawn.agrees grown offered so.were_offered;
      were_opened = openings_low so.drawn redrawn.next (giving h n bytes).nonces redrawn.agrees grown opened so.were_opened;
      were_sealed = so.were_sealed;
    }
      where
        redrawn : Redrawn so.drawn h.nonces (slice_set h.nonces n (after_give (account_of h.nonces n) bytes))
        redrawn = gives_drawn so.drawn h.nonces (slice_set h.nonces n (after_give (account_of h.nonces n) bytes)) n bytes so.seven so.live none eight (set_goes h.nonces n (after_give (account_of h.nonces n) bytes))

        grown : (node : ℕ) → given_of h.nonces node ≤ given_of (giving h n bytes).nonces node
        grown node = gave_more h.nonces n bytes none node

        here : GiverSo redrawn.next n (giving h n bytes) (one_given (book_of n books).giver)
        here =
            let was = so.givers n is_node in
            let account = here_account n (after_give (account_of h.nonces n) bytes) within in
            let more : given_of (giving h n bytes).nonces n ≡ given_of h.nonces n + 1 =
            ap (λ (a : Account). a.given) account ∙ given_next (account_of h.nonces n).live (account_of h.nonces n).given none in
            record {
              given = ap (λ (k : ℕ). k + 1) was.given ∙ sym more;
              live = sym (ap (λ (a : Account). is_some a.live) account);
              offers = was.offers ∙ map_low (nonce_with so.drawn n) (nonce_with redrawn.next n) (given_of h.nonces n) (λ number low. ap (λ (b : List ℕ). number % 256 ∷ b) (redrawn.agrees n number low))
                  (book_of n books).giver.offers was.low;
              low = all-weaker (λ number. number ≤ given_of h.nonces n) (λ number. number ≤ given_of (giving h n bytes).nonces n)
                  (λ number low. up_to number (given_of h.nonces n) (given_of (giving h n bytes).nonces n) low (grown n)) (book_of n books).giver.offers was.low;
            }

        by : (m : ℕ) → IsNode m → GiverSo redrawn.next m (giving h n bytes) (book_of m (with_giver_book n (one_given (book_of n books).giver) books)).giver
        by m is = elim (cases_eq n m) [
          | inl same ↦ subst (λ (k : ℕ). GiverSo redrawn.next k (giving h n bytes) (book_of k (with_giver_book n (one_given (book_of n books).giver) books)).giver) same
              (subst (λ (b : Book). GiverSo redrawn.next n (giving h n bytes) b.giver) (sym (giver_here n (one_given (book_of n books).giver) books)) here)
          | inr other ↦ subst (λ (b : Book). GiverSo redrawn.next m (giving h n bytes) b.giver) (sym (giver_other m n (one_given (book_of n books).giver) books other))
              (giver_by so.drawn redrawn.next m h (giving h n bytes) (book_of m books).giver (other_account n m (after_give (account_of h.nonces n) bytes) other) refl
              (λ number low. redrawn.agrees m number low) (so.givers m is))
        ]

    -- the live one is spent, on a message that opens to this
    pub books_spend : (n : ℕ) (one : Opening) → IsNode n → n < length h.nonces → LateOn → one.node ≡ n → one.number ≡ (book_of n books).giver.given → IsOpening key so.drawn one
        → BooksOf key heeds later (spending h n) (with_giver_book n (none_live (book_of n books).giver) books) offered (opened ++ one ∷ []) sealed
    books_spend n one is_node within late of number opens = record {
      drawn = so.drawn;
      seven = so.seven;
      live = spent_live so.drawn h.nonces (spending h n).nonces n so.live (set_goes h.nonces n (record (account_of h.nonces n) { live = None }));
      givers = λ m is. by m is;
      sealers = λ m is. subst (SealerSo key heeds later m (spending h n)) (sym (sealers_stay m n (none_live (book_of n books).giver) books))
          (sealer_on past later m h (spending h n) (book_of m books).sealer (record { seen = refl; text = refl; pending = refl; opened = refl; commands = refl }) (λ number taken found. found) (late m is) (so.sealers m is));
      were_offered = offers_low so.drawn so.drawn (spending h n).nonces (λ node number low. refl) grown offered so.were_offered;
      were_opened = all-append (IsLowOpening key so.drawn (spending h n).nonces) opened (one ∷ [])
          (openings_low so.drawn so.drawn (spending h n).nonces (λ node number low. refl) grown opened so.were_opened)
          (record { is = opens; low = low }, tt);
      were_sealed = so.were_sealed;
    }
      where
        grown : (node : ℕ) → given_of h.nonces node ≤ given_of (spending h n).nonces node
        grown node = spent_more h.nonces n node

        low : one.number ≤ given_of (spending h n).nonces one.node
        low =
            subst (λ (k : ℕ). one.number ≤ given_of (spending h n).nonces k) (sym of)
            (up_to one.number (given_of h.nonces n) (given_of (spending h n).nonces n)
            (no_more one.number (given_of h.nonces n) (number ∙ (so.givers n is_node).given)) (grown n))

        here : GiverSo so.drawn n (spending h n) (none_live (book_of n books).giver)
        here =
            let was = so.givers n is_node in
            let account = here_account n (record (account_of h.nonces n) { live = None }) within in
            record {
              given = was.given ∙ sym (ap (λ (a : Account). a.given) account);
              live = sym (ap (λ (a : Account). is_some a.live) account);
              offers = was.offers;
              low = all-weaker (λ number. number ≤ given_of h.nonces n) (λ number. number ≤ given_of (spending h n).nonces n)
                  (λ number low. up_to number (given_of h.nonces n) (given_of (spending h n).nonces n) low (grown n)) (book_of n books).giver.offers was.low;
            }

        by : (m : ℕ) → IsNode m → GiverSo so.drawn m (spending h n) (book_of m (with_giver_book n (none_live (book_of n books).giver) books)).giver
        by m is = elim (cases_eq n m) [
          | inl same ↦ subst (λ (k : ℕ). GiverSo so.drawn k (spending h n) (book_of k (with_giver_book n (none_live (book_of n books).giver) books)).giver) same
              (subst (λ (b : Book). GiverSo so.drawn n (spending h n) b.giver) (sym (giver_here n (none_live (book_of n books).giver) books)) here)
          | inr other ↦ subst (λ (b : Book). GiverSo so.drawn m (spending h n) b.giver) (sym (giver_other m n (none_live (book_of n books).giver) books other))
              (giver_by so.drawn so.drawn m h (spending h n) (book_of m books).giver (other_account n m (record (account_of h.nonces n) { live = None }) other) refl (λ number low. refl) (so.givers m is))
        ]
