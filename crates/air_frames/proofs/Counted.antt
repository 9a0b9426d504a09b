-- What is kept after each event is of the history with its mark.
use Rattle.std.proofs.Common.{◌≡◌, ◌≢◌, ℕ, zero, suc, ◌+◌, ◌-◌, ◌<◌, ◌≤◌, ◌==◌, ◌⊎◌, inl, inr, if◌then◌else◌, Bool, true, false, Option, Some, None, List, [], ◌∷◌, ◌++◌, length, drop, replicate, get_or, set, refl, ap, sym, subst, ◌∙◌, length-append, length-drop, length-set, get_or-set_same, get_or-set_other, arith}
use Rattle.std.proofs.lemmas.Bool.Decides.{eqb_tells}
use Rattle.std.proofs.lemmas.List.{append-nil, drop-drop, drop-append-le, length-replicate}
use Rattle.circular_buffer.specs.Buffer.{keep_last}
use Rattle.air_frames.specs.declared.frame.Departure.{Departure}
use Rattle.air_frames.specs.declared.frame.Heading.{Heading}
use Rattle.air_frames.specs.declared.frame.Heading.TheVariants.{Outward, Homeward}
use Rattle.air_frames.specs.declared.nonces.Nonces.{Nonces}
use Rattle.air_frames.specs.declared.peer.Peer.{Peer}
use Rattle.air_frames.specs.Nonces.{nonce_in, is_news, last_of, counting_nonce}
use Rattle.air_frames.specs.Peer.{no_counts, showing}
use Rattle.air_frames.specs.Flown.{flown}
use Rattle.air_frames.specs.Frames.{FramesState, no_frames, peer_of, kept, putting, landing}
use Rattle.air_frames.specs.History.{Mark, Goes, Begins, IsOf, begins_in, last_in, last_after, later_nonce, same_heading, news_by, news_after, new_in, stamped}
use Rattle.air_frames.proofs.Logs.{goes_in-append, begins_in-append, last_in-append, news_after-append, stamped-append, length-stamped, GoBetweenNodes-append, goes_in-begins, news_after-begins, last_in-begins, stamped-begins, between-begins, begins_in-begins}

-- the last frames of the last frames
pub keep_from : {A : Type 0} (n m k : ℕ) (xs : List A) → length xs ≡ n → m + k ≤ n → keep_last k (drop m xs) ≡ drop (n - k) xs
keep_from n m k xs long few =
    let e : m + (length (drop m xs) - k) ≡ n - k = omega (arith, length-drop m xs) in
    drop-drop (length (drop m xs) - k) m xs ∙ ap (λ i. drop i xs) e

-- what a payload does to the counts
one_more : (b : Bool) (k : ℕ) → (if b then k + 1 else k) ≡ k + (if b then 1 else 0)
one_more true k = refl
one_more false k = omega arith

counting-shown : (nonces : Nonces) (heading : Heading) (nonce : Option (List ℕ))
    → (counting_nonce nonces heading nonce).shown ≡ nonces.shown + news_by (last_of nonces heading) nonce
counting-shown nonces heading None = omega arith
counting-shown nonces Outward (Some nonce) = one_more (is_news nonces.outward nonce) nonces.shown
counting-shown nonces Homeward (Some nonce) = one_more (is_news nonces.homeward nonce) nonces.shown

counting-last : (nonces : Nonces) (heading other : Heading) (nonce : Option (List ℕ))
    → last_of (counting_nonce nonces heading nonce) other ≡ (if same_heading heading other then later_nonce nonce (last_of nonces other) else last_of nonces other)
counting-last nonces Outward Outward None = refl
counting-last nonces Outward Homeward None = refl
counting-last nonces Homeward Outward None = refl
counting-last nonces Homeward Homeward None = refl
counting-last nonces Outward Outward (Some nonce) = refl
counting-last nonces Outward Homeward (Some nonce) = refl
counting-last nonces Homeward Outward (Some nonce) = refl
counting-last nonces Homeward Homeward (Some nonce) = refl

-- the next frame has arrived
pub IsOf-lands : (log : List Mark) (state : FramesState) → state.landed < state.sent → IsOf log state → IsOf log (landing state)
unfolding landing
IsOf-lands log state flying old = record {
  sent = old.sent;
  order = omega (arith, old.order);
  frames =
      let long : length (stamped [] log) ≡ state.sent = length-stamped [] log ∙ sym old.sent in
      ap (λ fs. keep_last (kept state.sent (state.landed + 1)) fs) old.frames
      ∙ keep_from state.sent (state.sent - kept state.sent state.landed) (kept state.sent (state.landed + 1)) (stamped [] log) long (let o = old.order in omega arith);
  peers = old.peers;
  begun = old.begun;
  shown = old.shown;
  last = old.last;
  nodes = old.nodes;
}

module _ (log : List Mark) (state : FramesState) (d : Departure) (within : d.node < 233) (old : IsOf log state) where
  abbrev peer : Peer
  peer = peer_of state d.node

  abbrev counted : Peer
  counted = showing peer d.heading d.payload

  abbrev more : List Mark
  more = log ++ Goes d ∷ []

  begun_now : counted.begun ≡ begins_in d.node log
  begun_now = old.begun d.node within

  news_one : (node : ℕ) → news_after node [] more ≡ news_after node [] log + (new_in node log d + 0)
  news_one node = news_after-append node [] log (Goes d ∷ [])

  own_new : new_in d.node log d ≡ news_by (last_of peer.nonces d.heading) (nonce_in d.payload)
  own_new = own (eqb_tells d.node d.node)
    where
      own : (((d.node == d.node) ≡ true) × (d.node ≡ d.node)) ⊎ (((d.node == d.node) ≡ false) × (d.node ≢ d.node)) → new_in d.node log d ≡ news_by (last_of peer.nonces d.heading) (nonce_in d.payload)
      own (inl (e, same)) = rw e (ap (λ l. news_by l (nonce_in d.payload)) (sym (old.last d.node d.heading within)))
      own (inr (e, other)) = absurd (other refl)

  shown_now : counted.nonces.shown ≡ news_after d.node [] more
  shown_now =
      let e = counting-shown peer.nonces d.heading (nonce_in d.payload) in
      let f = old.shown d.node within in
      let g = news_one d.node in
      let h = own_new in
      sums counted.nonces.shown peer.nonces.shown (news_by (last_of peer.nonces d.heading) (nonce_in d.payload)) (news_after d.node [] log) (news_after d.node [] more) (new_in d.node log d) e f g h
    where
      sums : (a b c e f g : ℕ) → a ≡ b + c → b ≡ e → f ≡ e + (g + 0) → g ≡ c → a ≡ f
      sums a b c e f g p q r s = omega arith

  stamps : stamped [] more ≡ stamped [] log ++ flown d counted ∷ []
  stamps =
      stamped-append [] log (Goes d ∷ [])
      ∙ (ap (λ (b : ℕ). stamped [] log ++ record { node = d.node; heading = d.heading; route = d.route; lost = d.lost; payload = d.payload; begun = b; shown = news_after d.node [] more } ∷ []) (sym begun_now)
      ∙ ap (λ (w : ℕ). stamped [] log ++ record { node = d.node; heading = d.heading; route = d.route; lost = d.lost; payload = d.payload; begun = counted.begun; shown = w } ∷ []) (sym shown_now))

  long : length (stamped [] log) ≡ state.sent
  long = length-stamped [] log ∙ sym old.sent

  frames_now : keep_last (kept (state.sent + 1) state.landed) (state.frames ++ flown d counted ∷ []) ≡ drop ((state.sent + 1) - kept (state.sent + 1) state.landed) (stamped [] more)
  frames_now =
      let o = old.order in
      let m : ℕ = state.sent - kept state.sent state.landed in
      let fits : m ≤ length (stamped [] log) = omega (arith, long) in
      let longer : length (stamped [] log ++ flown d counted ∷ []) ≡ state.sent + 1 = length-append (stamped [] log) (flown d counted ∷ []) ∙ ap (λ n. n + 1) long in
      ap (λ fs. keep_last (kept (state.sent + 1) state.landed) (fs ++ flown d counted ∷ [])) old.frames
      ∙ (ap (λ fs. keep_last (kept (state.sent + 1) state.landed) fs) (sym (drop-append-le m (stamped [] log) (flown d counted ∷ []) fits))
      ∙ (keep_from (state.sent + 1) m (kept (state.sent + 1) state.landed) (stamped [] log ++ flown d counted ∷ []) longer (omega arith)
      ∙ ap (λ fs. drop ((state.sent + 1) - kept (state.sent + 1) state.landed) fs) (sym stamps)))

  -- the counts of a node: of the frame's own, and of others
  abbrev peers : List Peer
  peers = set state.peers d.node counted

  at_own : get_or peers d.node no_counts ≡ counted
  at_own = let p = old.peers in let w : d.node < length state.peers = omega arith in get_or-set_same state.peers d.node counted no_counts w

  at_other : (node : ℕ) → d.node ≢ node → get_or peers node no_counts ≡ get_or state.peers node no_counts
  at_other node other = get_or-set_other state.peers d.node node counted no_counts (λ e. other (sym e))

  begun_all : (node : ℕ) → node < 233 → (get_or peers node no_counts).begun ≡ begins_in node more
  begun_all node fits = by (eqb_tells d.node node)
    where
      same_count : begins_in node more ≡ begins_in node log
      same_count = begins_in-append node log (Goes d ∷ []) ∙ (let z : (k : ℕ) → k + 0 ≡ k = λ k. omega arith in z (begins_in node log))

      by : (((d.node == node) ≡ true) × (d.node ≡ node)) ⊎ (((d.node == node) ≡ false) × (d.node ≢ node)) → (get_or peers node no_counts).begun ≡ begins_in node more
      by (inl (e, same)) = subst (λ (n : ℕ). (get_or peers n no_counts).begun ≡ begins_in n log) same (ap (λ (p : Peer). p.begun) at_own ∙ begun_now) ∙ sym same_count
      by (inr (e, other)) = ap (λ (p : Peer). p.begun) (at_other node other) ∙ (old.begun node fits ∙ sym same_count)

  shown_all : (node : ℕ) → node < 233 → (get_or peers node no_counts).nonces.shown ≡ news_after node [] more
  shown_all node fits = by (eqb_tells d.node node)
    where
      by : (((d.node == node) ≡ true) × (d.node ≡ node)) ⊎ (((d.node == node) ≡ false) × (d.node ≢ node)) → (get_or peers node no_counts).nonces.shown ≡ news_after node [] more
      by (inl (e, same)) = subst (λ (n : ℕ). (get_or peers n no_counts).nonces.shown ≡ news_after n [] more) same (ap (λ (p : Peer). p.nonces.shown) at_own ∙ shown_now)
      by (inr (e, other)) =
          let none : new_in node log d ≡ 0 = rw e refl in
          let z : (a b c : ℕ) → a ≡ b + (c + 0) → c ≡ 0 → b ≡ a = λ a b c p q. omega arith in
          ap (λ (p : Peer). p.nonces.shown) (at_other node other) ∙ (old.shown node fits ∙ z (news_after node [] more) (news_after node [] log) (new_in node log d) (news_one node) none)

  last_all : (node : ℕ) (heading : Heading) → node < 233 → last_of (get_or peers node no_counts).nonces heading ≡ last_in node heading None more
  last_all node heading fits = by (eqb_tells d.node node)
    where
      goes_on : last_in node heading None more ≡ last_after node heading d (last_in node heading None log)
      goes_on = last_in-append node heading None log (Goes d ∷ [])

      by : (((d.node == node) ≡ true) × (d.node ≡ node)) ⊎ (((d.node == node) ≡ false) × (d.node ≢ node)) → last_of (get_or peers node no_counts).nonces heading ≡ last_in node heading None more
      by (inl (e, same)) =
          let own : last_of (get_or peers d.node no_counts).nonces heading ≡ (if same_heading d.heading heading then later_nonce (nonce_in d.payload) (last_of peer.nonces heading) else last_of peer.nonces heading) =
          ap (λ (p : Peer). last_of p.nonces heading) at_own ∙ counting-last peer.nonces d.heading heading (nonce_in d.payload) in
          subst (λ (n : ℕ). last_of (get_or peers n no_counts).nonces heading ≡ (if same_heading d.heading heading then later_nonce (nonce_in d.payload) (last_of (get_or state.peers n no_counts).nonces heading) else last_of (get_or state.peers n no_counts).nonces heading)) same own
          ∙ (ap (λ (l : Option (List ℕ)). if same_heading d.heading heading then later_nonce (nonce_in d.payload) l else l) (old.last node heading fits)
          ∙ (let step : (if same_heading d.heading heading then later_nonce (nonce_in d.payload) (last_in node heading None log) else last_in node heading None log) ≡ last_after node heading d (last_in node heading None log) = rw e refl in step ∙ sym goes_on))
      by (inr (e, other)) =
          let step : last_after node heading d (last_in node heading None log) ≡ last_in node heading None log = rw e refl in
          ap (λ (p : Peer). last_of p.nonces heading) (at_other node other) ∙ (old.last node heading fits ∙ sym (goes_on ∙ step))

  -- a frame goes on the air
  pub IsOf-goes : IsOf (log ++ Goes d ∷ []) (putting state d)
  unfolding putting
  IsOf-goes = record {
    sent = ap (λ n. n + 1) old.sent ∙ sym (goes_in-append log (Goes d ∷ []));
    order = let o = old.order in omega arith;
    frames = frames_now;
    peers = length-set state.peers d.node counted ∙ old.peers;
    begun = begun_all;
    shown = shown_all;
    last = last_all;
    nodes = GoBetweenNodes-append log (Goes d ∷ []) old.nodes (within, tt);
  }

-- nothing was sent
nobody_counted : (node : ℕ) → get_or (replicate 233 no_counts) node no_counts ≡ no_counts
nobody_counted node = all 233 node
  where
    all : (k i : ℕ) → get_or (replicate k no_counts) i no_counts ≡ no_counts
    all zero i = refl
    all (suc k) zero = refl
    all (suc k) (suc i) = all k i

nobody_last : (heading : Heading) → last_of no_counts.nonces heading ≡ None
nobody_last Outward = refl
nobody_last Homeward = refl

pub IsOf-first : IsOf [] no_frames
unfolding no_frames
IsOf-first = record {
  sent = refl;
  order = omega arith;
  frames = refl;
  peers = length-replicate 233 no_counts;
  begun = λ node fits. ap (λ (p : Peer). p.begun) (nobody_counted node);
  shown = λ node fits. ap (λ (p : Peer). p.nonces.shown) (nobody_counted node);
  last = λ node heading fits. ap (λ (p : Peer). last_of p.nonces heading) (nobody_counted node) ∙ nobody_last heading;
  nodes = tt;
}

-- sessions of a node begin
module _ (log : List Mark) (state : FramesState) (node sessions : ℕ) (within : node < 233) (rise : (peer_of state node).begun ≤ sessions) (old : IsOf log state) where
  abbrev rise_by : ℕ
  rise_by = sessions - (peer_of state node).begun

  abbrev begins : List Mark
  begins = replicate rise_by (Begins node)

  abbrev after : Peer
  after = record (peer_of state node) { begun = sessions }

  at_node : get_or (set state.peers node after) node no_counts ≡ after
  at_node = let p = old.peers in let w : node < length state.peers = omega arith in get_or-set_same state.peers node after no_counts w

  at_others : (other : ℕ) → node ≢ other → get_or (set state.peers node after) other no_counts ≡ get_or state.peers other no_counts
  at_others other apart = get_or-set_other state.peers node other after no_counts (λ e. apart (sym e))

  no_news : (other : ℕ) → news_after other [] (log ++ begins) ≡ news_after other [] log
  no_news other = news_after-append other [] log begins ∙ (ap (λ k. news_after other [] log + k) (news_after-begins other log node rise_by) ∙ z (news_after other [] log))
    where
      z : (k : ℕ) → k + 0 ≡ k
      z k = omega arith

  same_last : (other : ℕ) (heading : Heading) → last_in other heading None (log ++ begins) ≡ last_in other heading None log
  same_last other heading = last_in-append other heading None log begins ∙ last_in-begins other heading (last_in other heading None log) node rise_by

  begun_then : (other : ℕ) → other < 233 → (get_or (set state.peers node after) other no_counts).begun ≡ begins_in other (log ++ begins)
  begun_then other fits = by (eqb_tells node other)
    where
      by : (((node == other) ≡ true) × (node ≡ other)) ⊎ (((node == other) ≡ false) × (node ≢ other)) → (get_or (set state.peers node after) other no_counts).begun ≡ begins_in other (log ++ begins)
      by (inl (e, same)) =
          let own : begins_in other begins ≡ rise_by = begins_in-begins other node rise_by true e in
          let had : (peer_of state node).begun ≡ begins_in other log = old.begun node within ∙ ap (λ n. begins_in n log) same in
          let sums : (b s k t : ℕ) → b ≤ s → b ≡ k → t ≡ s - b → s ≡ k + t = λ b s k t p q r. omega arith in
          subst (λ (n : ℕ). (get_or (set state.peers node after) n no_counts).begun ≡ sessions) same (ap (λ (p : Peer). p.begun) at_node)
          ∙ (sums (peer_of state node).begun sessions (begins_in other log) (begins_in other begins) rise had own ∙ sym (begins_in-append other log begins))
      by (inr (e, apart)) =
          let none : begins_in other begins ≡ 0 = begins_in-begins other node rise_by false e in
          let sums : (k t : ℕ) → t ≡ 0 → k ≡ k + t = λ k t p. omega arith in
          ap (λ (p : Peer). p.begun) (at_others other apart) ∙ (old.begun other fits ∙ (sums (begins_in other log) (begins_in other begins) none ∙ sym (begins_in-append other log begins)))

  shown_then : (other : ℕ) → other < 233 → (get_or (set state.peers node after) other no_counts).nonces.shown ≡ news_after other [] (log ++ begins)
  shown_then other fits = by (eqb_tells node other)
    where
      by : (((node == other) ≡ true) × (node ≡ other)) ⊎ (((node == other) ≡ false) × (node ≢ other)) → (get_or (set state.peers node after) other no_counts).nonces.shown ≡ news_after other [] (log ++ begins)
      by (inl (e, same)) = subst (λ (n : ℕ). (get_or (set state.peers node after) n no_counts).nonces.shown ≡ news_after n [] log) same (ap (λ (p : Peer). p.nonces.shown) at_node ∙ old.shown node within) ∙ sym (no_news other)
      by (inr (e, apart)) = ap (λ (p : Peer). p.nonces.shown) (at_others other apart) ∙ (old.shown other fits ∙ sym (no_news other))

  last_then : (other : ℕ) (heading : Heading) → other < 233 → last_of (get_or (set state.peers node after) other no_counts).nonces heading ≡ last_in other heading None (log ++ begins)
  last_then other heading fits = by (eqb_tells node other)
    where
      by : (((node == other) ≡ true) × (node ≡ other)) ⊎ (((node == other) ≡ false) × (node ≢ other)) → last_of (get_or (set state.peers node after) other no_counts).nonces heading ≡ last_in other heading None (log ++ begins)
      by (inl (e, same)) =
          subst (λ (n : ℕ). last_of (get_or (set state.peers node after) n no_counts).nonces heading ≡ last_in n heading None log) same
          (ap (λ (p : Peer). last_of p.nonces heading) at_node ∙ old.last node heading within)
          ∙ sym (same_last other heading)
      by (inr (e, apart)) = ap (λ (p : Peer). last_of p.nonces heading) (at_others other apart) ∙ (old.last other heading fits ∙ sym (same_last other heading))

  pub IsOf-begins : IsOf (log ++ begins) (record state { peers = set state.peers node after })
  IsOf-begins = record {
    sent = let e = goes_in-begins node rise_by in let f = goes_in-append log begins in let g = old.sent in omega arith;
    order = old.order;
    frames = old.frames ∙ ap (λ fs. drop (state.sent - kept state.sent state.landed) fs)
        (sym (stamped-append [] log begins ∙ (ap (λ fs. stamped [] log ++ fs) (stamped-begins log node rise_by) ∙ append-nil (stamped [] log))));
    peers = length-set state.peers node after ∙ old.peers;
    begun = begun_then;
    shown = shown_then;
    last = last_then;
    nodes = GoBetweenNodes-append log begins old.nodes (between-begins node rise_by);
  }
