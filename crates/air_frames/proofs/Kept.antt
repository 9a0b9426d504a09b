-- The ring and what is kept apart, against the list of frames that are kept: over plain lists.
use Rattle.std.proofs.Common.{◌≡◌, ℕ, ◌+◌, ◌-◌, ◌<◌, ◌≤◌, ◌⊎◌, inl, inr, Bool, true, false, ltb, min, if◌then◌else◌, Option, Some, None, List, [], ◌∷◌, ◌++◌, length, take, drop, get_or, set, replicate, All, subst, refl, ap, sym, ◌∙◌, append_assoc, length-append, length-drop, arith}
use Rattle.std.proofs.lemmas.Bool.{ltb-true, ltb-false}
use Rattle.std.proofs.lemmas.List.{take-append-drop, append-nil}
use Rattle.std.proofs.lemmas.List.{get_or_default}
use Rattle.std.proofs.lemmas.List.Elements.{All-set, All-weaker, All-get_or}
use Rattle.circular_buffer.specs.Buffer.{keep_last}
use Rattle.air_frames.specs.declared.frame.Heading.{Heading}
use Rattle.air_frames.specs.declared.frame.Heading.TheVariants.{Outward, Homeward}
use Rattle.air_frames.specs.declared.frame.Departure.{Departure}
use Rattle.air_frames.specs.declared.nonces.Nonces.{Nonces}
use Rattle.air_frames.specs.declared.peer.Peer.{Peer}
use Rattle.air_frames.specs.Nonces.{nonce_in, is_news, counting_nonce}
use Rattle.air_frames.specs.Peer.{no_counts, showing}
use Rattle.air_frames.specs.Flown.{Flown, flown}
use Rattle.air_frames.specs.Frames.{kept, pushed_out, no_frames, putting, landing}

-- what a test of two numbers tells
ltb_tells : (a b : ℕ) → ((ltb a b ≡ true) × (a < b)) ⊎ ((ltb a b ≡ false) × (b ≤ a))
ltb_tells a b = by (ltb a b) refl
  where
    by : (t : Bool) → ltb a b ≡ t → ((ltb a b ≡ true) × (a < b)) ⊎ ((ltb a b ≡ false) × (b ≤ a))
    by true e = inl (e, ltb-true a b e)
    by false e = inr (e, ltb-false a b e)

-- the next frame has arrived
pub land_frames : {A : Type 0} (s l : ℕ) (late ring : List A) → l < s → length ring ≡ min s 4097 → length late ≡ (s - l) - 4097
    → drop 1 late ++ ring ≡ keep_last (kept s (l + 1)) (late ++ ring)
land_frames s l [] ring below full apart =
    let e : length ring - kept s (l + 1) ≡ 0 = omega arith in rw e refl
land_frames s l (x ∷ late) ring below full apart =
    let e : length (x ∷ late ++ ring) - kept s (l + 1) ≡ 1 = omega (arith, length-append late ring) in rw e refl

module _ {A : Type 0} (s l : ℕ) (late ring : List A) (f : A) (order : l ≤ s) (full : length ring ≡ min s 4097) (apart : length late ≡ (s - l) - 4097) where
  put_full : 4097 < s + 1 - l → (late ++ take 1 (ring ++ f ∷ [])) ++ keep_last 4097 (ring ++ f ∷ []) ≡ keep_last (kept (s + 1) l) ((late ++ ring) ++ f ∷ [])
  put_full over =
      let one : length (ring ++ f ∷ []) - 4097 ≡ 1 = omega (arith, length-append ring (f ∷ [])) in
      let none : length ((late ++ ring) ++ f ∷ []) - kept (s + 1) l ≡ 0 = omega (arith, length-append (late ++ ring) (f ∷ []), length-append late ring) in
      ap (λ n. (late ++ take 1 (ring ++ f ∷ [])) ++ drop n (ring ++ f ∷ [])) one
      ∙ (append_assoc late (take 1 (ring ++ f ∷ [])) (drop 1 (ring ++ f ∷ []))
      ∙ (ap (λ xs. late ++ xs) (take-append-drop 1 (ring ++ f ∷ []))
      ∙ (sym (append_assoc late ring (f ∷ [])) ∙ sym (ap (λ n. drop n ((late ++ ring) ++ f ∷ [])) none))))

  put_few : s + 1 - l ≤ 4097 → (late ++ []) ++ keep_last 4097 (ring ++ f ∷ []) ≡ keep_last (kept (s + 1) l) ((late ++ ring) ++ f ∷ [])
  put_few under = go late apart
    where
      go : (late : List A) → length late ≡ (s - l) - 4097 → (late ++ []) ++ keep_last 4097 (ring ++ f ∷ []) ≡ keep_last (kept (s + 1) l) ((late ++ ring) ++ f ∷ [])
      go [] apart =
          let e : length (ring ++ f ∷ []) - 4097 ≡ length (ring ++ f ∷ []) - kept (s + 1) l = omega (arith, length-append ring (f ∷ [])) in
          ap (λ n. drop n (ring ++ f ∷ [])) e
      go (x ∷ xs) apart = absurd (omega arith)

  put_by : (b : Bool) → ((b ≡ true) × (4097 < s + 1 - l)) ⊎ ((b ≡ false) × (s + 1 - l ≤ 4097)) →
      (late ++ pushed_out b (ring ++ f ∷ [])) ++ keep_last 4097 (ring ++ f ∷ []) ≡ keep_last (kept (s + 1) l) ((late ++ ring) ++ f ∷ [])
  put_by b (inl (e, over)) = rw e (put_full over)
  put_by b (inr (e, under)) = rw e (put_few under)

  -- a frame goes on the air
  pub put_frames : (late ++ pushed_out (ltb 4097 (s + 1 - l)) (ring ++ f ∷ [])) ++ keep_last 4097 (ring ++ f ∷ []) ≡ keep_last (kept (s + 1) l) ((late ++ ring) ++ f ∷ [])
  put_frames = put_by (ltb 4097 (s + 1 - l)) (ltb_tells 4097 (s + 1 - l))

  late_full : 4097 < s + 1 - l → length (late ++ take 1 (ring ++ f ∷ [])) ≡ (s + 1 - l) - 4097
  late_full over = go ring full
    where
      go : (ring : List A) → length ring ≡ min s 4097 → length (late ++ take 1 (ring ++ f ∷ [])) ≡ (s + 1 - l) - 4097
      go [] full = absurd (omega arith)
      go (x ∷ ring) full = omega (arith, length-append late (x ∷ []))

  late_few : s + 1 - l ≤ 4097 → length (late ++ []) ≡ (s + 1 - l) - 4097
  late_few under = rw append-nil (omega arith)

  pub put_late : length (late ++ pushed_out (ltb 4097 (s + 1 - l)) (ring ++ f ∷ [])) ≡ (s + 1 - l) - 4097
  put_late = by (ltb 4097 (s + 1 - l)) (ltb_tells 4097 (s + 1 - l))
    where
      by : (b : Bool) → ((b ≡ true) × (4097 < s + 1 - l)) ⊎ ((b ≡ false) × (s + 1 - l ≤ 4097)) → length (late ++ pushed_out b (ring ++ f ∷ [])) ≡ (s + 1 - l) - 4097
      by b (inl (e, over)) = rw e (late_full over)
      by b (inr (e, under)) = rw e (late_few under)

  pub put_ring : length (keep_last 4097 (ring ++ f ∷ [])) ≡ min (s + 1) 4097
  put_ring = omega (arith, length-drop (length (ring ++ f ∷ []) - 4097) (ring ++ f ∷ []), length-append ring (f ∷ []))

-- the state after a frame has arrived
pub landed_state : (s l : ℕ) (late ring rest : List Flown) (peers : List Peer) → l < s → length ring ≡ min s 4097 → length late ≡ (s - l) - 4097 → rest ≡ drop 1 late
    → record { sent = s; landed = l + 1; frames = rest ++ ring; peers = peers } ≡ landing (record { sent = s; landed = l; frames = late ++ ring; peers = peers })
unfolding landing
landed_state s l late ring rest peers below full apart e =
    ap (λ (frames : List Flown). record { sent = s; landed = l + 1; frames = frames; peers = peers })
    (ap (λ xs. xs ++ ring) e ∙ land_frames s l late ring below full apart)

-- the counts of a node, whatever stands where there is none
pub peer_at : (peers : List Peer) (node : ℕ) (read : Peer) → node < length peers → read ≡ get_or peers node read → read ≡ get_or peers node no_counts
peer_at peers node read within at = at ∙ get_or_default peers node read no_counts within

-- the state after a frame went on the air
pub put_state : (s l : ℕ) (late ring late' ring' : List Flown) (peers : List Peer) (departure : Departure) (shown : Peer) (frame : Flown)
    → l ≤ s → length ring ≡ min s 4097 → length late ≡ (s - l) - 4097
    → shown ≡ showing (get_or peers departure.node no_counts) departure.heading departure.payload → frame ≡ flown departure shown
    → late' ≡ late ++ pushed_out (ltb 4097 (s + 1 - l)) (ring ++ frame ∷ []) → ring' ≡ keep_last 4097 (ring ++ frame ∷ [])
    → record { sent = s + 1; landed = l; frames = late' ++ ring'; peers = set peers departure.node shown }
    ≡ putting (record { sent = s; landed = l; frames = late ++ ring; peers = peers }) departure
unfolding putting
put_state s l late ring late' ring' peers departure shown frame order full apart counted is apart' ring_is =
    let frames : late' ++ ring' ≡ keep_last (kept (s + 1) l) ((late ++ ring) ++ frame ∷ []) =
    ap (λ xs. xs ++ ring') apart' ∙ (ap (λ xs. (late ++ pushed_out (ltb 4097 (s + 1 - l)) (ring ++ frame ∷ [])) ++ xs) ring_is ∙ put_frames s l late ring frame order full apart) in
    ap (λ (fs : List Flown). record { sent = s + 1; landed = l; frames = fs; peers = set peers departure.node shown }) (frames ∙ ap (λ (f : Flown). keep_last (kept (s + 1) l) ((late ++ ring) ++ f ∷ [])) is)
    ∙ ap (λ (p : Peer). record { sent = s + 1; landed = l; frames = keep_last (kept (s + 1) l) ((late ++ ring) ++ flown departure p ∷ []); peers = set peers departure.node p }) counted

-- no count of nonces passes the number of frames
shown_more : (nonces : Nonces) (heading : Heading) (nonce : Option (List ℕ)) (s : ℕ) → nonces.shown ≤ s → (counting_nonce nonces heading nonce).shown ≤ s + 1
shown_more nonces heading None s few = omega arith
shown_more nonces Outward (Some nonce) s few = by (is_news nonces.outward nonce)
  where
    by : (b : Bool) → (if b then nonces.shown + 1 else nonces.shown) ≤ s + 1
    by true = omega arith
    by false = omega arith
shown_more nonces Homeward (Some nonce) s few = by (is_news nonces.homeward nonce)
  where
    by : (b : Bool) → (if b then nonces.shown + 1 else nonces.shown) ≤ s + 1
    by true = omega arith
    by false = omega arith

pub put_counts : (peers : List Peer) (node s : ℕ) (shown : Peer) (heading : Heading) (payload : List ℕ) → node < length peers → All (λ peer. peer.nonces.shown ≤ s) peers
    → shown ≡ showing (get_or peers node no_counts) heading payload → All (λ peer. peer.nonces.shown ≤ s + 1) (set peers node shown)
put_counts peers node s shown heading payload within few counted =
    All-set (λ (peer : Peer). peer.nonces.shown ≤ s + 1) peers node shown
    (subst (λ (peer : Peer). peer.nonces.shown ≤ s + 1) (sym counted) (shown_more (get_or peers node no_counts).nonces heading (nonce_in payload) s (All-get_or (λ (peer : Peer). peer.nonces.shown ≤ s) peers node no_counts within few)))
    (All-weaker (λ (peer : Peer). peer.nonces.shown ≤ s) (λ (peer : Peer). peer.nonces.shown ≤ s + 1) (λ peer h. omega arith) peers few)

-- the counts of the node of a departure, as they are read and changed
pub shown_of : (peers : List Peer) (node read_at : ℕ) (read shown : Peer) (heading : Heading) (payload bytes : List ℕ) → read_at ≡ node → node < length peers
    → read ≡ get_or peers read_at read → bytes ≡ payload → shown ≡ showing read heading bytes → shown ≡ showing (get_or peers node no_counts) heading payload
shown_of peers node read_at read shown heading payload bytes at within is same counted =
    counted ∙ (ap (λ (p : Peer). showing p heading bytes) (peer_at peers node read within (is ∙ ap (λ i. get_or peers i read) at))
    ∙ ap (λ b. showing (get_or peers node no_counts) heading b) same)

-- nothing was sent
pub none_sent : (late ring : List Flown) (peers : List Peer) → late ≡ [] → ring ≡ [] → peers ≡ replicate 233 no_counts
    → record { sent = 0; landed = 0; frames = late ++ ring; peers = peers } ≡ no_frames
unfolding no_frames
none_sent late ring peers e f g =
    ap (λ (ps : List Peer). record { sent = 0; landed = 0; frames = late ++ ring; peers = ps }) g
    ∙ (ap (λ xs. record { sent = 0; landed = 0; frames = xs ++ ring; peers = replicate 233 no_counts }) e
    ∙ ap (λ (xs : List Flown). record { sent = 0; landed = 0; frames = xs; peers = replicate 233 no_counts }) f)
