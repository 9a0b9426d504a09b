-- The books of a course at the end of a request of a host alone, by a frame or without one, and at the tick of a node: they are the host's still.
use Rattle.std.proofs.Common.{◌≡◌, ◌⊎◌, ℕ, ◌==◌, ◌||◌, Bool, true, false, if◌then◌else◌, inl, inr, List, [], ◌∷◌, Option, Some, None, refl, sym, ap, ap₂, ◌∙◌, subst}
use Rattle.std.specs.Prelude.{drop, slice_index}
use Rattle.std.proofs.lemmas.Bool.{both_ways, eqb-true}
use Rattle.chip_functions.specs.Field.{IsNode}
use Rattle.supervision.specs.Host.{command_at as command_of_session}
use Rattle.zw_text.specs.declared.entry.Entry.{Entry}
use Rattle.host_heard.specs.declared.told.Told.{Told}
use Rattle.law_transcript.specs.Payloads.{nonce_get}
use Rattle.law_transcript.specs.Units.{Carried}
use Rattle.law_time.specs.Heeds.{Heeds}
use Rattle.host_requests.specs.declared.task.Task.{Task}
use Rattle.host_requests.specs.declared.task.Task.TheVariants as task
use Rattle.host_requests.specs.declared.task.Purpose.TheVariants.{Housekeeping}
use Rattle.host_model.specs.State.{HostState, node_of}
use Rattle.proof_hearing.specs.Books.{BooksSo, SealedOpen, nonces_to}
use Rattle.proof_hearing.specs.proof_queue.proof_attempts.proof_requests.Carrying.{CarriesSo, is_asked_class, is_errand, unaddressed, unchecked}
use Rattle.proof_hearing.specs.proof_queue.proof_attempts.proof_requests.law_host.Course.{Course, book_of, each_in_turn, with_notes, without_texts}
use Rattle.proof_hearing.specs.proof_queue.proof_attempts.proof_requests.law_host.Ends.{ends_sealing, is_of_sealed}
use Rattle.proof_hearing.specs.proof_queue.proof_attempts.proof_requests.law_host.Heard.{heeds_alone}
use Rattle.proof_hearing.specs.proof_queue.proof_attempts.proof_requests.law_host.Nonces.{is_late}
use Rattle.proof_hearing.proofs.Alike.{Alike}
use Rattle.proof_hearing.proofs.BooksGo.{books_end, books_late, books_on}
use Rattle.proof_hearing.proofs.Sent.{begins_else, begins_not}
use Rattle.proof_hearing.specs.proof_choice.proof_following.Ended.{GaveUp, sent_by}
use Rattle.proof_noting.proofs.EndLeaves.{CutOff, EndLeaves}

-- ---- which payloads are of what is sealed

other_unsealed : (n : ℕ) (payload : List ℕ) → (slice_index payload 0 == 0x98) ≡ false → is_of_sealed (record { node = n; payload = payload }) ≡ false
other_unsealed n payload other = ap₂ (λ (a b : Bool). a || b) (begins_not payload 0x40 other) (begins_not payload 0x81 other)

errand_other : (payload : List ℕ) → is_errand payload ≡ true → (slice_index payload 0 == 0x98) ≡ false
errand_other payload errand = by (slice_index payload 0 == 0x98) refl
  where
    by : (b : Bool) → (slice_index payload 0 == 0x98) ≡ b → b ≡ false
    by false is = refl
    by true is =
        let first : slice_index payload 0 ≡ 0x98 = eqb-true (slice_index payload 0) 0x98 is in
        let bare : unchecked payload ≡ payload = ap (λ (k : ℕ). if k == 0x56 then drop 2 payload else payload) first in
        let own : unaddressed (unchecked payload) ≡ payload = ap unaddressed bare ∙ ap (λ (k : ℕ). if k == 0x60 then drop 4 payload else payload) first in
        absurd (both_ways (is_errand payload) (ap (λ (l : List ℕ). is_asked_class (slice_index l 0)) own ∙ ap is_asked_class first) errand)

-- what a task sends is of nothing that is sealed
abbrev pub AreUnsealed : List Carried → Type 0
AreUnsealed [] = Unit {0}
AreUnsealed (one ∷ sent) = (is_of_sealed one ≡ false) × AreUnsealed sent

pub task_unsealed : (id : ℕ) (t : Task) → CarriesSo (Housekeeping t) → ((n : ℕ) (payload : List ℕ) → t ≡ task.Segment n payload → (slice_index payload 0 == 0x98) ≡ false)
    → AreUnsealed (sent_by (Housekeeping t) id)
task_unsealed id (task.Plain n payload) carries again = (other_unsealed n payload (errand_other payload carries), tt)
task_unsealed id (task.Offer n nonce) carries again =
    (ap₂ (λ (a b : Bool). a || b) (begins_else 0x80 0x40 nonce refl) (begins_else 0x80 0x81 nonce refl), tt)
task_unsealed id (task.Segment n payload) carries again = (other_unsealed n payload (again n payload refl), tt)
task_unsealed id (task.NoMore n) carries again = (other_unsealed n (132 ∷ 8 ∷ []) refl, tt)
task_unsealed id t carries again = tt

pub unsealed_same : (sent : List Carried) → AreUnsealed sent → (c : Course) → each_in_turn ends_sealing sent c ≡ c
unsealed_same [] all c = refl
unsealed_same (one ∷ sent) all c =
    ap (λ (b : Bool). each_in_turn ends_sealing sent (if b then without_texts one.node c else c)) all.0 ∙ unsealed_same sent all.1 c

-- a Nonce Get is of an attempt that is sealed
pub get_sealed : (n : ℕ) (payload : List ℕ) → payload ≡ nonce_get → is_of_sealed (record { node = n; payload = payload }) ≡ true
get_sealed n payload is = ap (λ (l : List ℕ). is_of_sealed (record { node = n; payload = l })) is

-- ---- books

module _ (key : List ℕ) (taken : List Entry → Carried → List Told) (past later : List Entry) (h g : HostState) (kept : EndLeaves h g) where
  abbrev heeds : Heeds
  heeds = heeds_alone taken

  abbrev pub LateOn : Type 0
  LateOn = (m : ℕ) → IsNode m → is_late heeds past m ≡ true → is_late heeds later m ≡ true

  same_queue : (m : ℕ) → nonces_to m g.requests.queue ≡ nonces_to m h.requests.queue
  same_queue m = ap (nonces_to m) kept.queue

  -- no node has less to be sealed
  pub kept_books : (c : Course) → ((m : ℕ) → IsNode m → Alike (node_of h m) (node_of g m)) → LateOn → BooksSo key heeds past h c → BooksSo key heeds later g c
  kept_books c alike late so = books_on key heeds past later h c.books c.offered c.opened c.sealed so g kept.nonces same_queue alike kept.orders late

  module _ (n : ℕ) (is_node : IsNode n) (others : (m : ℕ) → (m ≡ n → ⊥) → Alike (node_of h m) (node_of g m)) (freed : CutOff (node_of h n) (node_of g n))
      (late_others : (m : ℕ) → IsNode m → (m ≡ n → ⊥) → is_late heeds past m ≡ true → is_late heeds later m ≡ true) where
    abbrev pub Stale : Course → Type 0
    Stale c = ((book_of n c.books).sealer.pending ≡ []) ⊎ ((is_late heeds later n ≡ true) × SealedOpen g n)

    -- its session is open still, of the same command
    pub open_kept : SealedOpen h n → SealedOpen g n
    open_kept was = record {
      session = was.session;
      opened = freed.opened ∙ was.opened;
      number = was.number;
      at = ap (λ (l : List ℕ). command_of_session l was.session) freed.commands ∙ was.at;
      taken = was.taken;
      found = kept.orders was.number was.taken was.found;
      form = was.form;
    }

    -- in the book either
    pub end_books : (c : Course) → BooksSo key heeds past h c → BooksSo key heeds later g (without_texts n c)
    end_books c so = books_end key heeds past later h c.books c.offered c.opened c.sealed so g n is_node kept.nonces same_queue others freed.cleared kept.orders late_others

    -- but in the book
    pub late_books : (c : Course) → Stale c → BooksSo key heeds past h c → BooksSo key heeds later g c
    late_books c stale so = books_late key heeds past later h c.books c.offered c.opened c.sealed so g n is_node kept.nonces same_queue others freed.cleared kept.orders late_others stale

    -- where nothing waited in the host the book has nothing either, or an attempt that is over
    pub stale_so : (c : Course) → (node_of h n).pending ≡ None → (is_late heeds past n ≡ true → is_late heeds later n ≡ true) → BooksSo key heeds past h c → Stale c
    stale_so c none late so = by ((so.sealers n is_node).waits none)
      where
        by : ((book_of n c.books).sealer.pending ≡ []) ⊎ ((is_late heeds past n ≡ true) × SealedOpen h n) → Stale c
        by (inl is) = inl is
        by (inr (is, open_so)) = inr (late is, open_kept open_so)

    -- cleared once more
    again_books : (c : Course) → BooksSo key heeds later g c → BooksSo key heeds later g (without_texts n c)
    again_books c so =
        books_end key heeds later later g c.books c.offered c.opened c.sealed so g n is_node refl (λ m. refl) (λ m other. record { seen = refl; text = refl; pending = refl; opened = refl; commands = refl })
        (record { seen = refl; text = freed.cleared.text; pending = freed.cleared.pending }) (λ number taken_so found. found) (λ m is other late. late)

    -- an attempt of the node has ended badly, with this payload: what is sealed waits no more, and its command is given up, or not
    pub bad_books : (payload : List ℕ) (outcome : List Entry) (c e : Course) → ((plain : List ℕ) → (node_of h n).pending ≡ Some plain → payload ≡ nonce_get)
        → (outcome ≡ [] → is_late heeds past n ≡ true → is_late heeds later n ≡ true) → GaveUp (ends_sealing (record { node = n; payload = payload }) c) n outcome e → BooksSo key heeds past h c
        → BooksSo key heeds later g e
    bad_books payload outcome c e asks late gave so = by (is_of_sealed (record { node = n; payload = payload })) refl gave
      where
        none : is_of_sealed (record { node = n; payload = payload }) ≡ false → (node_of h n).pending ≡ None
        none other = each (node_of h n).pending refl
          where
            each : (o : Option (List ℕ)) → (node_of h n).pending ≡ o → o ≡ None
            each None is = refl
            each (Some plain) is = absurd (both_ways (is_of_sealed (record { node = n; payload = payload })) other (get_sealed n payload (asks plain is)))

        by : (b : Bool) → is_of_sealed (record { node = n; payload = payload }) ≡ b → GaveUp (if is_of_sealed (record { node = n; payload = payload }) then without_texts n c else c) n outcome e
            → BooksSo key heeds later g e
        by true is (inl (nothing, same)) =
            subst (λ (d : Course). BooksSo key heeds later g d) (sym (same ∙ ap (λ (b : Bool). if b then without_texts n c else c) is)) (end_books c so)
        by true is (inr same) =
            subst (λ (d : Course). BooksSo key heeds later g d) (sym (same ∙ ap (λ (b : Bool). without_texts n (with_notes outcome (if b then without_texts n c else c))) is))
            (again_books (without_texts n c) (end_books c so))
        by false is (inl (nothing, same)) =
            subst (λ (d : Course). BooksSo key heeds later g d) (sym (same ∙ ap (λ (b : Bool). if b then without_texts n c else c) is)) (late_books c (stale_so c (none is) (late nothing) so) so)
        by false is (inr same) =
            subst (λ (d : Course). BooksSo key heeds later g d) (sym (same ∙ ap (λ (b : Bool). without_texts n (with_notes outcome (if b then without_texts n c else c))) is)) (end_books c so)
