-- The books that were kept are those of the host that starts from the records, and so are the nonces that were live.
use Rattle.std.proofs.Common.{◌≡◌, ◌≤◌, ℕ, inl, List, [], ◌∷◌, Option, Some, None, refl, sym, ap, ◌∙◌, subst, arith}
use Rattle.std.specs.Prelude.{IfSome, is_some, length}
use Rattle.chip_functions.specs.Field.{IsNode}
use Rattle.zw_text.specs.declared.entry.Entry.{Entry}
use Rattle.law_time.specs.Heeds.{Heeds}
use Rattle.host_keep.specs.Kept.{Kept, kept_of, node_of as kept_of_node}
use Rattle.host_keep.specs.Legal.{Give}
use Rattle.host_model.specs.State.{HostState, node_of}
use Rattle.proof_hearing.proofs.ReadyStarts.{GiveOne}
use Rattle.proof_messages.proofs.SealedTexts.{IsBare, bare_texts}
use Rattle.proof_hearing.specs.Books.{BooksOf, GiverSo, IsLowOffer, IsReady, SealerSo, nonces_to}
use Rattle.proof_hearing.specs.proof_nonces.Counted.{LiveSo}
use Rattle.proof_hearing.specs.proof_queue.proof_world.Restarts.{AreHeld}
use Rattle.proof_hearing.specs.proof_queue.proof_attempts.proof_requests.law_host.Course.{Book, book_of}
use Rattle.proof_hearing.specs.proof_queue.proof_attempts.proof_requests.law_host.Nonces.{nonce_with}
use Rattle.proof_hearing.specs.proof_queue.proof_attempts.proof_requests.law_host.Starting.{book_kept}
use Rattle.proof_noting.proofs.KeptNonces.{all_kept, offers_kept}

module _ (one : GiveOne) (key : List ℕ) (heeds : Heeds) (past : List Entry) (state : HostState) (books : List Book) (drawn : ℕ → ℕ → List ℕ) (queue : state.requests.queue ≡ [])
    (bare : (k : ℕ) → IsNode k → IsBare (node_of state k)) (records : List (List ℕ)) (held : AreHeld state records) (kept : Kept) (gives : Give records kept)
    (are : (node : ℕ) → book_of node books ≡ book_kept node (kept_of_node kept node)) where
  same : kept_of held.records ≡ kept
  same = one records (kept_of held.records) kept (record { records = held.records; are = held.are; legal = held.legal; gives = refl }) gives

  giver : (k : ℕ) → IsNode k → GiverSo drawn k state (book_of k books).giver
  giver k is =
      subst (λ (b : Book). GiverSo drawn k state b.giver) (sym (are k))
      (record {
        given = sym ((held.holds.nodes k).given ∙ ap (λ (all : Kept). (kept_of_node all k).given) same);
        live = ap (λ (o : Option (List ℕ)). is_some o) (sym ((held.holds.nodes k).live ∙ ap (λ (all : Kept). (kept_of_node all k).live) same));
        offers = ap (nonces_to k) queue;
        low = tt;
      })

  sealer : (k : ℕ) → IsNode k → SealerSo key heeds past k state (book_of k books).sealer
  sealer k is =
      subst (λ (b : Book). SealerSo key heeds past k state b.sealer) (sym (are k))
      (record {
        seen = sym ((held.holds.nodes k).seen ∙ ap (λ (all : Kept). (kept_of_node all k).seen) same);
        texts = bare_texts (IsReady key k (book_kept k (kept_of_node kept k)).sealer) (λ plain. (book_kept k (kept_of_node kept k)).sealer.pending ≡ plain ∷ []) (node_of state k) (bare k is);
        waits = λ none. inl refl;
      })

  module _ (seven : (node number : ℕ) → length (drawn node number) ≡ 7) (live : LiveSo drawn state.nonces) where
    -- that of a node is the one of the number that was given last
    live_kept : (k : ℕ) (nonces : Option (List ℕ)) → (kept_of_node kept k).live ≡ nonces
        → IfSome nonces (λ nonce. IsLowOffer drawn state.nonces (record { node = k; number = (kept_of_node kept k).given; nonce = nonce }))
    live_kept k None at = tt
    live_kept k (Some nonce) at =
        let given_is = (held.holds.nodes k).given ∙ ap (λ (all : Kept). (kept_of_node all k).given) same in
        let live_is = (held.holds.nodes k).live ∙ ap (λ (all : Kept). (kept_of_node all k).live) same ∙ at in
        record { is = (live k nonce live_is).is ∙ ap (nonce_with drawn k) given_is; low = subst (λ (g : ℕ). (kept_of_node kept k).given ≤ g) (sym given_is) (omega arith) }

    pub books_kept : BooksOf key heeds past state books (offers_kept kept) [] []
    books_kept = record {
      drawn = drawn;
      seven = seven;
      live = live;
      givers = giver;
      sealers = sealer;
      were_offered = all_kept (IsLowOffer drawn state.nonces) kept (λ k. live_kept k (kept_of_node kept k).live refl);
      were_opened = tt;
      were_sealed = tt;
    }
