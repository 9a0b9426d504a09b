-- What a line asks for by the transcript is what the host puts into its queue.
use Rattle.std.proofs.Common.{◌≡◌, ◌⊎◌, ◌≤◌, ℕ, ◌+◌, ◌==◌, ◌&&◌, Bool, true, false, if◌then◌else◌, inl, inr, List, [], ◌∷◌, ◌++◌, length, map, refl, sym, ap, ap₂, ◌∙◌, subst, append-nil}
use Rattle.std.specs.Prelude.{drop, slice_index}
use Rattle.std.specs.List.{flat_map}
use Rattle.std.proofs.lemmas.Bool.{both_ways, eqb-true}
use Rattle.std.proofs.lemmas.List.{length-map, map-append}
use Rattle.zw_text.specs.declared.line.Line.{Line}
use Rattle.zw_text.specs.declared.line.Line.TheVariants as lines
use Rattle.zw_text.specs.declared.entry.Refusal.{Refusal}
use Rattle.zw_text.specs.declared.entry.Refusal.TheVariants as refusal
use Rattle.zw_text.specs.declared.entry.Entry.{Entry}
use Rattle.zw_text.specs.declared.entry.Entry.TheVariants as entry
use Rattle.zw_text.specs.Transcript.{line_of}
use Rattle.chip_functions.specs.declared.function.TheConstants.{SEND_DATA}
use Rattle.encap.specs.Opening.{begins_with}
use Rattle.host_heard.specs.declared.told.Told.{Told}
use Rattle.host_orders.specs.Errands.{get_text, send_text}
use Rattle.host_orders.specs.Refusals.{classes_of}
use Rattle.law_transcript.specs.Nodes.{host_list}
use Rattle.law_transcript.specs.Restarts.{is_restart}
use Rattle.law_transcript.specs.Units.{Carried}
use Rattle.law_time.specs.Wants.{told_of, wants_of}
use Rattle.law_time.specs.Queue.{Queue, Requests, lacks_places, may_queue, no_queue, places, queue_before, waits_before_line}
use Rattle.host_requests.specs.declared.task.Task.{Task}
use Rattle.host_requests.specs.declared.task.Task.TheVariants.{Plain, First, Second, Members, Neighbours, IsFailed, Version, MemoryId, Capabilities}
use Rattle.host_model.specs.State.{HostState, node_of}
use Rattle.host_model.specs.After.{after}
use Rattle.host_model.specs.Events.{HostEvent}
use Rattle.host_model.specs.May.{May as may_event, known_of}
use Rattle.proof_attempts.specs.proof_requests.law_host.Heard.{heeds_alone, listing_heard}
use Rattle.proof_attempts.specs.proof_requests.proof_alone.Steps.{AsksNothing, IsAskedBy}
use Rattle.proof_attempts.specs.proof_requests.Carrying.{is_asked_class, is_errand, unaddressed}
use Rattle.proof_attempts.proofs.proof_requests_Carried.{get_errand, send_errand}
use Rattle.proof_queue.specs.Waiting.{queue_of, want_of_task}
use Rattle.proof_queue.proofs.Books.{before_line, book_joined, last_line}
use Rattle.proof_queue.proofs.Sleeps.{Stands}
use Rattle.proof_queue.proofs.Ties.{TiesSo, one_more}
use Rattle.proof_queue.proofs.Refused.{FitsRefusal, lacks, lacks_not, lacks_so}

-- ---- a Set or Get by itself is no Nonce Report

second_true : (a b c : Bool) → (a && b && c) ≡ true → b ≡ true
second_true a true c is = refl
second_true true false c is = absurd (let bad : false ≡ true = is in cc)
second_true false false c is = absurd (let bad : false ≡ true = is in cc)

sealed_first : (payload : List ℕ) → slice_index payload 0 ≡ 0x98 → is_errand payload ≡ false
sealed_first payload first =
    ap (λ (p : List ℕ). is_asked_class (slice_index (unaddressed p) 0)) (ap (λ (n : ℕ). if n == 0x56 then drop 2 payload else payload) first)
    ∙ ap (λ (p : List ℕ). is_asked_class (slice_index p 0)) (ap (λ (n : ℕ). if n == 0x60 then drop 4 payload else payload) first)
    ∙ ap is_asked_class first

errand_plain : (payload : List ℕ) → is_errand payload ≡ true → told_of payload ≡ payload
errand_plain payload errand = by (begins_with payload 0x98 0x80) refl
  where
    by : (b : Bool) → begins_with payload 0x98 0x80 ≡ b → (if b then 0x98 ∷ 0x80 ∷ [] else payload) ≡ payload
    by false is = refl
    by true is =
        absurd (both_ways (is_errand payload) (sealed_first payload (eqb-true (slice_index payload 0) 0x98 (second_true _ (slice_index payload 0 == 0x98) (slice_index payload 1 == 0x80) is))) errand)

-- ---- what a line puts in

-- the host knows of each node the classes that the transcript shows it to know
abbrev pub Lists : List Entry → HostState → Type 0
Lists past h = (node : ℕ) → host_list listing_heard past node ≡ classes_of (known_of (node_of h node))

abbrev Wanted : Line → List Entry → HostState → HostEvent → Type 0
Wanted line before h event = map want_of_task (after h event).requests.queue ≡ map want_of_task h.requests.queue ++ wants_of listing_heard before line

as_wanted : (line : Line) (before : List Entry) (h : HostState) (event these : HostEvent) → event ≡ these → Wanted line before h these → Wanted line before h event
as_wanted line before h event these is wanted = subst (Wanted line before h) (sym is) wanted

none_wanted : (h : HostState) → map want_of_task h.requests.queue ≡ map want_of_task h.requests.queue ++ []
none_wanted h = sym (append-nil (map want_of_task h.requests.queue))

text_wanted : (h : HostState) (node : ℕ) (payload text : List ℕ) → is_errand payload ≡ true → payload ≡ text
    → map want_of_task (h.requests.queue ++ Plain node payload ∷ []) ≡ map want_of_task h.requests.queue ++ (SEND_DATA ∷ node ∷ text) ∷ []
text_wanted h node payload text errand is =
    map-append want_of_task h.requests.queue (Plain node payload ∷ [])
    ∙ ap (λ (p : List ℕ). map want_of_task h.requests.queue ++ (SEND_DATA ∷ node ∷ p) ∷ []) (errand_plain payload errand ∙ is)

pub asked_wants : (line : Line) (before : List Entry) (h : HostState) (event : HostEvent) → Lists before h → IsAskedBy line h event → Wanted line before h event
asked_wants (lines.Command order) before h event lists is = as_wanted (lines.Command order) before h event _ is (none_wanted h)
asked_wants (lines.Send node word) before h event lists is =
    as_wanted (lines.Send node word) before h event _ is.1
    (text_wanted h node _ _ (send_errand (classes_of (known_of (node_of h node))) word) (ap (λ (c : List ℕ). send_text c word) (sym (lists node))))
asked_wants (lines.Get node end) before h event lists is =
    as_wanted (lines.Get node end) before h event _ is.1
    (text_wanted h node _ _ (get_errand (classes_of (known_of (node_of h node))) end) (ap (λ (c : List ℕ). get_text c end) (sym (lists node))))
asked_wants (lines.Join node) before h event lists is = as_wanted (lines.Join node) before h event _ is (none_wanted h)
asked_wants (lines.Interview node) before h event lists is = as_wanted (lines.Interview node) before h event _ is.1 (map-append want_of_task h.requests.queue (First node ∷ Second node ∷ []))
asked_wants (lines.Cancel command) before h event lists is = as_wanted (lines.Cancel command) before h event _ is (none_wanted h)
asked_wants lines.Discover before h event lists is = as_wanted lines.Discover before h event _ is.1 (map-append want_of_task h.requests.queue (Members ∷ []))
asked_wants (lines.Neighbours node) before h event lists is = as_wanted (lines.Neighbours node) before h event _ is.1 (map-append want_of_task h.requests.queue (Neighbours node ∷ []))
asked_wants (lines.Failed node) before h event lists is = as_wanted (lines.Failed node) before h event _ is.1 (map-append want_of_task h.requests.queue (IsFailed node ∷ []))
asked_wants lines.Probe before h event lists is = as_wanted lines.Probe before h event _ is.1 (map-append want_of_task h.requests.queue (Version ∷ MemoryId ∷ Capabilities ∷ []))
asked_wants line before h event lists is = absurd is

-- for which there are places
abbrev Rooms : Line → List Entry → HostState → Type 0
Rooms line before h = (length (wants_of listing_heard before line) ≡ 0) ⊎ (length h.requests.queue + length (wants_of listing_heard before line) ≤ 64)

may_so : (h : HostState) (event these : HostEvent) → event ≡ these → may_event h event → may_event h these
may_so h event these is may = subst (may_event h) is may

pub asked_rooms : (line : Line) (before : List Entry) (h : HostState) (event : HostEvent) → IsAskedBy line h event → may_event h event → Rooms line before h
asked_rooms (lines.Command order) before h event is may = inl refl
asked_rooms (lines.Send node word) before h event is may = inr (may_so h event _ is.1 may).1
asked_rooms (lines.Get node end) before h event is may = inr (may_so h event _ is.1 may).1
asked_rooms (lines.Join node) before h event is may = inl refl
asked_rooms (lines.Interview node) before h event is may = inr (may_so h event _ is.1 may)
asked_rooms (lines.Cancel command) before h event is may = inl refl
asked_rooms lines.Discover before h event is may = inr (may_so h event _ is.1 may).1
asked_rooms (lines.Neighbours node) before h event is may = inr (may_so h event _ is.1 may).1
asked_rooms (lines.Failed node) before h event is may = inr (may_so h event _ is.1 may).1
asked_rooms lines.Probe before h event is may = inr (may_so h event _ is.1 may)
asked_rooms line before h event is may = absurd is

-- a line that asks nothing of the host wants nothing
pub nothing_wanted : (line : Line) (before : List Entry) → AsksNothing line → wants_of listing_heard before line ≡ []
nothing_wanted (lines.Send node word) before none = absurd none
nothing_wanted (lines.Get node end) before none = absurd none
nothing_wanted (lines.Interview node) before none = absurd none
nothing_wanted lines.Discover before none = absurd none
nothing_wanted (lines.Neighbours node) before none = absurd none
nothing_wanted (lines.Failed node) before none = absurd none
nothing_wanted lines.Probe before none = absurd none
nothing_wanted line before none = refl

-- ---- behind the words of a line

module _ (taken : List Entry → Carried → List Told) (before : List Entry) (words : List ℕ) (line : Line) (h : HostState) (drops : ℕ → Bool) (read : line_of (entry.Said words) ≡ line ∷ [])
    (stands : Stands (queue_before (heeds_alone taken) before (entry.Said words)) h.requests.queue [] drops) where
  abbrev said : List Entry
  said = before ++ entry.Said words ∷ []

  abbrev wanted : List (List ℕ)
  wanted = wants_of listing_heard before line

  abbrev waits : Queue
  waits = queue_before (heeds_alone taken) before (entry.Said words)

  places_are : places (heeds_alone taken) said ≡ length wanted
  places_are =
      ap₂ (λ (b : List Entry) (ls : List Line). length (flat_map (wants_of listing_heard b) ls)) (before_line before (entry.Said words)) (last_line before (entry.Said words) ∙ read)
      ∙ ap length (append-nil wanted)

  -- what waits before words is the same before any
  waits_are : waits_before_line (heeds_alone taken) said ≡ length h.requests.queue
  waits_are =
      ap (λ (b : List Entry). length (queue_before (heeds_alone taken) b (entry.Said [])).wants) (before_line before (entry.Said words)) ∙ ap length stands.wants_are
      ∙ length-map h.requests.queue want_of_task

  pub lacks_is : lacks_places (heeds_alone taken) said ≡ lacks (length h.requests.queue) (length wanted)
  lacks_is = ap₂ (λ (w n : ℕ). lacks w n) waits_are places_are

  -- it puts in what it wants, unless it starts the host again
  line_queue : (anew : Bool) → is_restart (line ∷ []) ≡ anew
      → queue_of (heeds_alone taken) said ≡ (if anew && true then no_queue else record waits { wants = waits.wants ++ flat_map (wants_of listing_heard before) (line ∷ []) })
  line_queue anew is =
      one_more taken before (entry.Said words) refl
      ∙ ap (λ (ls : List Line). if is_restart ls && true then no_queue else record waits { wants = waits.wants ++ flat_map (wants_of listing_heard before) ls }) read
      ∙ ap (λ (b : Bool). if b && true then no_queue else record waits { wants = waits.wants ++ flat_map (wants_of listing_heard before) (line ∷ []) }) is

  pub said_ties : (tasks : List Task) (kept : ℕ → Bool) → is_restart (line ∷ []) ≡ false → map want_of_task tasks ≡ map want_of_task h.requests.queue ++ wanted
      → (length wanted ≡ 0) ⊎ (length h.requests.queue + length wanted ≤ 64) → ((n : ℕ) → 1 ≤ n → n ≤ 232 → drops n ≡ kept n)
      → TiesSo (heeds_alone taken) (queue_of (heeds_alone taken) said) said tasks [] kept
  said_ties tasks kept goes are rooms same = record {
    stands = subst (λ (q : Queue). Stands q tasks [] kept) (sym (line_queue false goes))
        (record {
          wants_are = ap₂ (λ (a b : List (List ℕ)). a ++ b) stands.wants_are (append-nil wanted) ∙ sym are;
          owed_are = stands.owed_are;
          dropped = λ n from to. stands.dropped n from to ∙ same n from to;
        });
    answered = lacks_is ∙ lacks_not (length h.requests.queue) (length wanted) rooms;
  }

  pub anew_ties : (tasks : List Task) (kept : ℕ → Bool) → is_restart (line ∷ []) ≡ true → length wanted ≡ 0 → tasks ≡ [] → ((n : ℕ) → 1 ≤ n → n ≤ 232 → kept n ≡ false)
      → TiesSo (heeds_alone taken) (queue_of (heeds_alone taken) said) said tasks [] kept
  anew_ties tasks kept starts nothing are none = record {
    stands = subst (λ (q : Queue). Stands q tasks [] kept) (sym (line_queue true starts))
        (record { wants_are = sym (ap (λ (l : List Task). map want_of_task l) are); owed_are = refl; dropped = λ n from to. sym (none n from to) });
    answered = lacks_is ∙ lacks_not (length h.requests.queue) (length wanted) (inl nothing);
  }

  -- ---- where it is refused

  pub refused_stands : (r : Refusal) → FitsRefusal (length h.requests.queue) (length wanted) r → may_queue (heeds_alone taken) said (entry.Refused r) ≡ true
  refused_stands (refusal.QueueFull waiting) (is, some, more) =
      ap₂ (λ (n : ℕ) (b : Bool). (n == 64) && b) is (lacks_is ∙ lacks_so (length h.requests.queue) (length wanted) some more)
  refused_stands r fits = refl

  pub refused_queue : (r : Refusal) → queue_of (heeds_alone taken) (before ++ entry.Said words ∷ (entry.Refused r ∷ [])) ≡ waits
  refused_queue r = ap (λ (b : Requests). b.queue) (book_joined taken before (entry.Said words ∷ (entry.Refused r ∷ [])) refl)
