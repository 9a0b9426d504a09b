-- What the host judges came from the chip: each payload that an item brings has arrived by the transcript, so what it tells was told.
use Rattle.std.proofs.Common.{◌≡◌, ℕ, ◌≤◌, ◌&&◌, not, Bool, true, false, if◌then◌else◌, inl, inr, List, [], ◌∷◌, ◌++◌, length, take, refl, sym, ap, subst, ◌∙◌, append_assoc, append-nil, length-drop, arith}
use Rattle.std.proofs.lemmas.Bool.{eq-eqb}
use Rattle.std.proofs.lemmas.List.{length-take}
use Rattle.std.specs.Prelude.{Result, Ok}
use Rattle.std.specs.List.{flat_map, AllByRecursion}
use Rattle.zw_base.proofs.Each.{all-left}
use Rattle.serial_frame.specs.Frame.{FrameParts, framed, kind_code, checksum}
use Rattle.serial_frame.specs.Items.{unit_text, ItemText}
use Rattle.serial_frame.specs.Stream.{Rest, Feeds, no_rest}
use Rattle.serial_frame.specs.declared.frame.Kind.{Kind}
use Rattle.serial_frame.specs.declared.frame.Kind.TheVariants.{Request as of_request, Response as of_response}
use Rattle.serial_frame.specs.declared.item.Item.{Item}
use Rattle.serial_frame.specs.declared.item.Item.TheVariants.{Good, Refused}
use Rattle.serial_frame.specs.declared.unit.Unit.TheVariants.{Ack, Nak, Can, Framed}
use Rattle.s0_crypto.specs.declared.ends.SealEnds.{SealEnds}
use Rattle.s0_crypto.specs.declared.key_pair.Keys.{Keys}
use Rattle.s0_crypto.specs.Opening.{sender_nonce_in}
use Rattle.s0_crypto.specs.Seal.{Seals}
use Rattle.chip_functions.specs.declared.fault.BodyFault.{BodyFault}
use Rattle.chip_functions.specs.declared.notice.Notice.{Notice}
use Rattle.chip_functions.specs.declared.notice.Notice.TheVariants.{ApplicationCommandHandler}
use Rattle.chip_functions.specs.Notice.{notice_of}
use Rattle.s0_crypto.specs.Sealing.{keys_of}
use Rattle.s0_crypto.proofs.SealingLemmas.{sealed_is}
use Rattle.host_heard.specs.Telling.{heard_at}
use Rattle.host_heard.specs.declared.payload.Heard.{Heard}
use Rattle.host_heard.specs.declared.payload.Heard.TheVariants.{Messages}
use Rattle.host_heard.specs.declared.told.Told.{Told}
use Rattle.host_heard.specs.declared.told.Told.TheVariants.{NonceGet, NonceReport}
use Rattle.host_model.specs.Events.{HostEvent}
use Rattle.host_model.specs.Taking.{ends_from}
use Rattle.zw_words.specs.declared.side.Side.TheVariants.{Host as by_host, Chip as by_chip}
use Rattle.zw_text.specs.declared.entry.Entry.{Entry}
use Rattle.zw_text.specs.declared.entry.Entry.TheVariants as entry
use Rattle.zw_text.specs.Transcript.{line_of}
use Rattle.proof_air.specs.law_transcript.Lists.{Has}
use Rattle.proof_air.specs.law_transcript.Payloads.{messages_of, IsToldBy}
use Rattle.proof_air.specs.law_transcript.Restarts.{is_restart, begins_refused}
use Rattle.proof_air.specs.law_transcript.Units.{Carried, arrived, bringing_in, bringing_of, bringings, from_node, payloads_from, read_well}
use Rattle.proof_air.proofs.Having.{all_of, has_either, has_left, has_right, has_shown}
use Rattle.proof_air.specs.law_wire.Serial.{arriving_of}
use Rattle.proof_air.specs.world_model.State.{Machine}
use Rattle.proof_air.specs.world_model.Events.{Host_takes, May}
use Rattle.proof_spoken.proofs.Ways.{carries_left}
use Rattle.proof_air.proofs.Bodies.{body_is}
use Rattle.proof_line.specs.Arrivals.{AreTexts, arrived_from}
use Rattle.proof_line.specs.Arrivals as line
use Rattle.proof_line.specs.Rooms.{Shown}
use Rattle.proof_sending.specs.Arriving.{ArrivesSo, all_arriving}
use Rattle.proof_sending.specs.Heard.{IsHeardOf, ItemTells, PayloadTells}
use Rattle.proof_sending.specs.Reasons.{Reason}
use Rattle.proof_spoken.proofs.SealedByNumber.{sealed_length}
use Rattle.proof_sending.specs.Due.{IsShown}

-- ---- since the last restart

kept_of : (b : Bool) (texts : List (List ℕ)) (text : List ℕ) → Has (if b then [] else texts) text → Has texts text
kept_of true texts text has = absurd has
kept_of false texts text has = has

-- what has arrived since then has arrived
arrived_once : (texts : List (List ℕ)) (past : List Entry) (text : List ℕ) → Has (arrived_from by_chip texts past) text → Has (texts ++ all_arriving past) text
arrived_once texts [] text has = has_left texts [] text has
arrived_once texts (entry.Written by_chip unit ∷ past) text has =
    subst (λ (l : List (List ℕ)). Has l text) (append_assoc texts (arriving_of by_chip unit past) (all_arriving past)) (arrived_once (texts ++ arriving_of by_chip unit past) past text has)
arrived_once texts (entry.Written by_host unit ∷ past) text has =
    subst (λ (l : List (List ℕ)). Has (l ++ all_arriving past) text) (append-nil texts) (arrived_once (texts ++ []) past text has)
arrived_once texts (entry.Said words ∷ past) text has =
    let restarts : Bool = is_restart (line_of (entry.Said words)) && not (begins_refused past) in
    elim (has_either (if restarts then [] else texts) (all_arriving past) text (arrived_once (if restarts then [] else texts) past text has)) [
      | inl first ↦ has_left texts (all_arriving past) text (kept_of restarts texts text first)
      | inr later ↦ has_right texts (all_arriving past) text later
    ]
arrived_once texts (e ∷ past) text has = arrived_once texts past text has

has_arrived : (past : List Entry) (text : List ℕ) → ArrivesSo past → Has (line.arrived by_chip past) text → Has (arrived by_chip past) text
has_arrived past text so has = subst (λ (l : List (List ℕ)). Has l text) so (arrived_once [] past text has)

-- ---- a frame

abbrev brought_of : Result Notice BodyFault → List Carried
brought_of read = flat_map bringing_of (read_well read)

-- a request of the chip brings what its function and body say
frame_brings : (kind : Kind) (func : ℕ) (body : List ℕ) (sum status source : ℕ) (payload : List ℕ) → kind ≡ of_request
    → notice_of func body ≡ Ok (ApplicationCommandHandler status source payload) → Has (bringing_in (framed (kind_code kind ∷ func ∷ body) sum)) (record { node = source; payload = payload })
frame_brings of_request func body sum status source payload is read =
    subst (λ (l : List Carried). Has l (record { node = source; payload = payload }))
    (sym (ap (λ (b : List ℕ). brought_of (notice_of func b)) (body_is body func sum) ∙ ap brought_of read)) (inl refl)
frame_brings of_response func body sum status source payload is read = absurd (let bad : of_response ≡ of_request = is in cc)

own_payload : (node : ℕ) (payload : List ℕ) → Has (from_node node (record { node = node; payload = payload })) payload
own_payload node payload = subst (λ (b : Bool). Has (if b then payload ∷ [] else []) payload) (sym (eq-eqb node node refl)) (inl refl)

-- so the payload is among those of its node
pub frame_brought : (past : List Entry) (f : FrameParts) (text : List ℕ) → Has (arrived by_chip past) text → text ≡ unit_text (Framed f) → f.kind ≡ of_request
    → (status source : ℕ) (payload : List ℕ) → notice_of f.func f.body ≡ Ok (ApplicationCommandHandler status source payload) → Has (payloads_from source past) payload
frame_brought past f text has is request status source payload read =
    let one : Carried = record { node = source; payload = payload } in
    has_shown (from_node source) (bringings past) one payload
    (has_shown bringing_in (arrived by_chip past) text one has
    (subst (λ (t : List ℕ). Has (bringing_in t) one) (sym is)
    (frame_brings f.kind f.func f.body (checksum (kind_code f.kind ∷ f.func ∷ f.body)) status source payload request read)))
    (own_payload source payload)

-- ---- what it tells

-- what is sealed shows eight bytes of its sender
nonce_eight : (keys : Keys) (nonce : List ℕ) (ends : SealEnds) (plain payload : List ℕ) → Seals keys (sender_nonce_in payload) nonce ends plain payload → length (sender_nonce_in payload) ≡ 8
nonce_eight keys nonce ends plain payload seals =
    let size = sealed_length keys (sender_nonce_in payload) nonce ends plain payload seals in
    let long : 12 ≤ length payload = omega (arith, size) in
    simp (length-take, length-drop) (omega (arith, long))

module _ (listing : List Entry → ℕ → List ℕ) (key : List ℕ) (past : List Entry) where
  abbrev Holds : Reason → Type 0
  Holds = IsShown listing key past

  told_of : (node : ℕ) (message : Told) → IsToldBy key past node message → IsHeardOf Holds node message
  told_of node NonceGet told = told
  told_of node (NonceReport nonce) told = told
  told_of node message told = tt

  has_in : (heard : Heard) (messages : List Told) (message : Told) → heard ≡ Messages messages → Has messages message → Has (messages_of heard) message
  has_in heard messages message is has = subst (λ (h : Heard). Has (messages_of h) message) (sym is) has

  pub payload_tells : (node : ℕ) (payload : List ℕ) → Has (payloads_from node past) payload → PayloadTells Holds (keys_of key) node payload
  payload_tells node payload brought = record {
    plainly = λ messages heard. all_of (IsHeardOf Holds node) messages (λ message has. told_of node message
        (inl (has_shown (λ (bytes : List ℕ). messages_of (heard_at bytes)) (payloads_from node past) payload message brought (has_in (heard_at payload) messages message heard has))));
    sealed = λ nonce plain messages eight seals heard. all_of (IsHeardOf Holds node) messages (λ message has. told_of node message (inr (record {
      payload = payload;
      brought = brought;
      own = sender_nonce_in payload;
      nonce = nonce;
      plain = plain;
      own_eight = nonce_eight (keys_of key) nonce (ends_from node) plain payload seals;
      eight = eight;
      text = sealed_is (keys_of key) (sender_nonce_in payload) nonce (ends_from node) plain payload seals;
      tells = has_in (heard_at plain) messages message heard has;
    })));
  }

  item_tells : (item : Item) (text : List ℕ) → Has (arrived by_chip past) text → ItemText item text → ItemTells Holds (keys_of key) item
  item_tells (Good Ack) text has is = tt
  item_tells (Good Nak) text has is = tt
  item_tells (Good Can) text has is = tt
  item_tells (Good (Framed f)) text has is = λ request status source payload read. payload_tells source payload (frame_brought past f text has is.1 request status source payload read)
  item_tells (Refused refusal) text has is = tt

  texts_tell : (items : List Item) (texts : List (List ℕ)) → ((text : List ℕ) → Has texts text → Has (arrived by_chip past) text) → AreTexts items texts
      → AllByRecursion (ItemTells Holds (keys_of key)) items
  texts_tell [] texts have are = tt
  texts_tell (item ∷ items) [] have are = absurd are
  texts_tell (item ∷ items) (text ∷ texts) have are = (item_tells item text (have text (inl refl)) are.0, texts_tell items texts (λ t has. have t (inr has)) are.1)

  -- ---- what the host judges

  pub items_tell : (m : Machine) (count : ℕ) (rest : Rest) (items : List Item) (events : List HostEvent) → May m (Host_takes count rest items events) → Shown past m → ArrivesSo past
      → AllByRecursion (ItemTells Holds (keys_of key)) items
  unfolding May
  items_tell m count rest items events may shown so =
      let comes = shown.down_comes in
      let left = carries_left no_rest rest count m.outside.outer.to_host comes.items items
      (subst (λ (r : Rest). Feeds r (take count m.outside.outer.to_host.bytes) rest items) shown.rests.host may.feeds) comes.carries in
      all-left (ItemTells Holds (keys_of key)) items left.left
      (subst (λ (l : List Item). AllByRecursion (ItemTells Holds (keys_of key)) l) left.parts
      (texts_tell comes.items comes.ahead
      (λ text has. has_arrived past text so (subst (λ (l : List (List ℕ)). Has l text) (sym comes.parts) (has_right comes.earlier comes.ahead text has))) comes.coming))
