-- Which of a lock's nonces each frame carries: the one with its first byte that is near to the last one given.
use Rattle.std.proofs.Common.{◌≡◌, ℕ, ◌+◌, ◌%◌, ◌<◌, ◌≤◌, Bool, true, false, cond, ◌&&◌, not, Option, Some, None, List, [], ◌∷◌, length, refl, ap, sym, subst, ◌∙◌, ⊎_elim, arith}
use Rattle.std.specs.Prelude.{slice_index, nat_eq}
use Rattle.std.specs.Cmp.Lexicographic.{pointwise}
use Rattle.std.proofs.lemmas.List.{get_or-set_same, get_or-set_other, take_all}
use Rattle.std.proofs.lemmas.Bool.{cases_eq, cond_both, le-leb, ne_eqb}
use Rattle.inclusion.specs.declared.message.Message.{Message}
use Rattle.inclusion.specs.declared.message.Message.TheVariants.{SchemeGet, SchemeReport, NonceGet, NonceReport, Sealed, Other}
use Rattle.inclusion.specs.Messages.{message_of, nonce_named, nonce_report}
use Rattle.air_frames.specs.declared.frame.Heading.{Heading}
use Rattle.air_frames.specs.declared.frame.Heading.TheVariants.{Outward, Homeward}
use Rattle.include_world.specs.declared.flight.Flight.{Flight}
use Rattle.include_world.specs.declared.flight.Pair.{Pair}
use Rattle.air_frames.specs.declared.nonces.Nonces.{Nonces}
use Rattle.air_frames.specs.Nonces.{nonce_in, is_news, counting_nonce}
use Rattle.include_world.specs.Air.{AirState, pair_of, flight, departing, sending, showing, no_counts}
use Rattle.include_world.proofs.AirFacts.{Each, began_pairs}
use Rattle.proof_include.proofs.Stages.{nonce_told}
use Rattle.proof_include.proofs.Flights.{Flights, flights_departing, flights_map}

-- the first byte of a nonce of the lock that a message carries: one that it gave, or one that the host sealed for
abbrev pub byte_in : Heading → List ℕ → Message → Option ℕ
byte_in Homeward payload (NonceReport nonce) = Some (slice_index nonce 0)
byte_in Homeward payload SchemeGet = None
byte_in Homeward payload SchemeReport = None
byte_in Homeward payload NonceGet = None
byte_in Homeward payload Sealed = None
byte_in Homeward payload Other = None
byte_in Outward payload Sealed = Some (nonce_named payload)
byte_in Outward payload SchemeGet = None
byte_in Outward payload SchemeReport = None
byte_in Outward payload NonceGet = None
byte_in Outward payload (NonceReport nonce) = None
byte_in Outward payload Other = None

-- of a byte, if there is one
abbrev pub OfByte : Option ℕ → (ℕ → Type 0) → Type 0
OfByte None P = Unit {0}
OfByte (Some byte) P = P byte

-- how many nonces a lock gave, how many of them the host took and may take at most before the next tick ends, how many were shown
-- between the two, how many frames have landed, and how many there were as the tick began
pub record Tally : Type 0 where
  pub given : ℕ
  pub taken : ℕ
  pub may : ℕ
  pub shown : ℕ
  pub landed : ℕ
  pub most : ℕ

-- the last nonce that a frame of that heading can carry
abbrev pub top : Tally → Heading → ℕ
top t Homeward = t.given
top t Outward = t.taken

-- the frame at a place carries a nonce with this first byte: its number, how far the lock came since, and the host while it flies
pub record Numbered (t : Tally) (heading : Heading) (i shown byte : ℕ) : Type 0 where
  pub number : ℕ
  pub is : byte ≡ number % 256
  pub within : number ≤ top t heading
  pub since : t.given + shown ≤ number + 1 + t.shown
  pub recent : t.landed ≤ i → t.may ≤ number + 4
  pub newer : t.landed ≤ i → t.most ≤ i → t.may ≤ number + 3

abbrev pub Carries : Tally → ℕ → Flight → Type 0
Carries t i f = OfByte (byte_in f.heading f.payload (message_of f.payload)) (λ byte. Numbered t f.heading i f.shown byte)

-- a byte stands for a number near to the last one
abbrev pub Near_number : ℕ → ℕ → ℕ → Type 0
Near_number given limit byte = (number : ℕ) × (byte ≡ number % 256) × (number ≤ limit) × (given ≤ number + 200)

abbrev pub Close : ℕ → ℕ → Heading → List ℕ → Type 0
Close given taken Homeward payload = OfByte (byte_in Homeward payload (message_of payload)) (λ byte. Near_number given given byte)
Close given taken Outward payload = OfByte (byte_in Outward payload (message_of payload)) (λ byte. Near_number given taken byte)

close_by : (t : Tally) (heading : Heading) (payload : List ℕ) (o : Option ℕ) → byte_in heading payload (message_of payload) ≡ o
    → OfByte o (λ byte. Near_number t.given (top t heading) byte) → Close t.given t.taken heading payload
close_by t Homeward payload o e c = subst (λ (x : Option ℕ). OfByte x (λ byte. Near_number t.given t.given byte)) (sym e) c
close_by t Outward payload o e c = subst (λ (x : Option ℕ). OfByte x (λ byte. Near_number t.given t.taken byte)) (sym e) c

of_byte : (o : Option ℕ) (P Q : ℕ → Type 0) → ((byte : ℕ) → P byte → Q byte) → OfByte o P → OfByte o Q
of_byte None P Q f p = tt
of_byte (Some byte) P Q f p = f byte p

-- the next frame to land, and one that is fresh, stand for numbers near to the last one
pub close_landing : (t : Tally) (f : Flight) → t.given ≤ t.may + 1 → Carries t t.landed f → Close t.given t.taken f.heading f.payload
close_landing t f below c = close_by t f.heading f.payload (byte_in f.heading f.payload (message_of f.payload)) refl
    (of_byte (byte_in f.heading f.payload (message_of f.payload)) (λ byte. Numbered t f.heading t.landed f.shown byte) (λ byte. Near_number t.given (top t f.heading) byte)
    (λ byte n. (n.number, n.is, n.within, let may = n.recent (omega arith) in omega (arith, may, below))) c)

pub close_fresh : (t : Tally) (i : ℕ) (f : Flight) → t.shown < f.shown + 120 → Carries t i f → Close t.given t.taken f.heading f.payload
close_fresh t i f fresh c = close_by t f.heading f.payload (byte_in f.heading f.payload (message_of f.payload)) refl
    (of_byte (byte_in f.heading f.payload (message_of f.payload)) (λ byte. Numbered t f.heading i f.shown byte) (λ byte. Near_number t.given (top t f.heading) byte)
    (λ byte n. (n.number, n.is, n.within, omega (arith, n.since, fresh))) c)

-- ---- the tally goes on

-- each nonce that the lock gave since was shown; the host took more, and may take no more than before
pub record Later (old new : Tally) : Type 0 where
  pub given : old.given ≤ new.given
  pub taken : old.taken ≤ new.taken
  pub may : new.may ≤ old.may
  pub shows : new.given + old.shown ≤ old.given + new.shown
  pub landed : old.landed ≤ new.landed
  pub most : old.most ≤ new.most

top_on : (old new : Tally) (heading : Heading) → old.given ≤ new.given → old.taken ≤ new.taken → top old heading ≤ top new heading
top_on old new Homeward given taken = given
top_on old new Outward given taken = taken

pub carries_on : (old new : Tally) → Later old new → (i : ℕ) (f : Flight) → Carries old i f → Carries new i f
carries_on old new l i f c =
    of_byte (byte_in f.heading f.payload (message_of f.payload)) (λ byte. Numbered old f.heading i f.shown byte) (λ byte. Numbered new f.heading i f.shown byte)
    (λ byte n. record {
      number = n.number;
      is = n.is;
      within = let on = top_on old new f.heading l.given l.taken in omega (arith, n.within, on);
      since = omega (arith, n.since, l.shows);
      recent = λ flies. let may = n.recent (omega (arith, flies, l.landed)) in omega (arith, may, l.may);
      newer = λ flies late. let may = n.newer (omega (arith, flies, l.landed)) (omega (arith, late, l.most)) in omega (arith, may, l.may);
    }) c

-- as a tick ends: all frames that were there as it began have landed, and one exchange more may begin
pub carries_ends : (old new : Tally) → new.given ≡ old.given → new.taken ≡ old.taken → new.may ≤ old.may + 1 → new.shown ≡ old.shown → new.landed ≡ old.landed → old.landed ≡ old.most
    → (i : ℕ) (f : Flight) → i < new.most → Carries old i f → Carries new i f
carries_ends old new given taken may shown landed all i f within c =
    of_byte (byte_in f.heading f.payload (message_of f.payload)) (λ byte. Numbered old f.heading i f.shown byte) (λ byte. Numbered new f.heading i f.shown byte)
    (λ byte n. record {
      number = n.number;
      is = n.is;
      within = let on = top_on old new f.heading (omega (arith, given)) (omega (arith, taken)) in omega (arith, n.within, on);
      since = omega (arith, n.since, given, shown);
      recent = λ flies. let before = n.newer (omega (arith, flies, landed)) (omega (arith, flies, landed, all)) in omega (arith, before, may);
      newer = λ flies late. absurd (omega (arith, late, within));
    }) c

-- as a tick begins: all frames that are there were there before
pub carries_most : (old new : Tally) → new.given ≡ old.given → new.taken ≡ old.taken → new.may ≡ old.may → new.shown ≡ old.shown → new.landed ≡ old.landed
    → (i : ℕ) (f : Flight) → i < new.most → Carries old i f → Carries new i f
carries_most old new given taken may shown landed i f within c =
    of_byte (byte_in f.heading f.payload (message_of f.payload)) (λ byte. Numbered old f.heading i f.shown byte) (λ byte. Numbered new f.heading i f.shown byte)
    (λ byte n. record {
      number = n.number;
      is = n.is;
      within = let on = top_on old new f.heading (omega (arith, given)) (omega (arith, taken)) in omega (arith, n.within, on);
      since = omega (arith, n.since, given, shown);
      recent = λ flies. let before = n.recent (omega (arith, flies, landed)) in omega (arith, before, may);
      newer = λ flies late. absurd (omega (arith, late, within));
    }) c

-- ---- the air of a node

-- the nonce that a lock showed last has the first byte of the last one given
abbrev pub LastIs : ℕ → Option (List ℕ) → Type 0
LastIs given None = Unit {0}
LastIs given (Some nonce) = (length nonce ≡ 8) × (slice_index nonce 0 ≡ given % 256)

abbrev pub tally : ℕ → ℕ → ℕ → ℕ → ℕ → AirState → Tally
tally node given taken may most air = record { given = given; taken = taken; may = may; shown = (pair_of air node).nonces.shown; landed = air.landed; most = most }

pub record AirCounts (node given taken may most : ℕ) (air : AirState) : Type 0 where
  pub last : LastIs given (pair_of air node).nonces.homeward
  pub flights : Flights node (Carries (tally node given taken may most air)) air

-- nothing was sent
pub air_on : (node given taken may most taken' may' most' : ℕ) (air : AirState) → taken ≤ taken' → may' ≤ may → most ≤ most' → AirCounts node given taken may most air
    → AirCounts node given taken' may' most' air
air_on node given taken may most taken' may' most' air more less later a = record {
  last = a.last;
  flights = flights_map node (Carries (tally node given taken may most air)) (Carries (tally node given taken' may' most' air)) air
      (λ i f within. carries_on (tally node given taken may most air) (tally node given taken' may' most' air)
      (record { given = omega arith; taken = more; may = less; shows = omega arith; landed = omega arith; most = later }) i f) a.flights;
}

-- the counts after a nonce, or after a payload without one
abbrev shown_as : Pair → Heading → Option (List ℕ) → Pair
shown_as pair heading o = record pair { nonces = counting_nonce pair.nonces heading o }

-- nonces that are shown count up
shown_grows : (nonces : Nonces) (heading : Heading) (o : Option (List ℕ)) → nonces.shown ≤ (counting_nonce nonces heading o).shown
shown_grows nonces heading None = omega arith
shown_grows nonces Outward (Some nonce) = cond_both (is_news nonces.outward nonce) (nonces.shown + 1) nonces.shown (λ n. nonces.shown ≤ n) (λ e. omega arith) (λ e. omega arith)
shown_grows nonces Homeward (Some nonce) = cond_both (is_news nonces.homeward nonce) (nonces.shown + 1) nonces.shown (λ n. nonces.shown ≤ n) (λ e. omega arith) (λ e. omega arith)

outward_keeps : (nonces : Nonces) (o : Option (List ℕ)) → (counting_nonce nonces Outward o).homeward ≡ nonces.homeward
outward_keeps nonces None = refl
outward_keeps nonces (Some nonce) = refl

pair_here : (node : ℕ) (air : AirState) (heading : Heading) (payload : List ℕ) → node < length air.pairs → pair_of (departing air node heading payload) node ≡ showing (pair_of air node) heading payload
unfolding departing
pair_here node air heading payload within = get_or-set_same air.pairs node (showing (pair_of air node) heading payload) no_counts within

pair_away : (node : ℕ) (air : AirState) (at : ℕ) (heading : Heading) (payload : List ℕ) → (node ≡ at → ⊥) → pair_of (departing air at heading payload) node ≡ pair_of air node
unfolding departing
pair_away node air at heading payload differ = get_or-set_other air.pairs at node (showing (pair_of air at) heading payload) no_counts differ

landed_same : (air : AirState) (at : ℕ) (heading : Heading) (payload : List ℕ) → (departing air at heading payload).landed ≡ air.landed
unfolding departing
landed_same air at heading payload = refl

-- a frame between other ends
pub air_away : (node given taken may most : ℕ) (air : AirState) (at : ℕ) (heading : Heading) (payload : List ℕ) → (node ≡ at → ⊥) → AirCounts node given taken may most air
    → AirCounts node given taken may most (departing air at heading payload)
air_away node given taken may most air at heading payload differ a =
    let pair = pair_away node air at heading payload differ in
    let old : Tally = tally node given taken may most air in
    let new : Tally = tally node given taken may most (departing air at heading payload) in
    let landed = landed_same air at heading payload in
    let shown : (pair_of (departing air at heading payload) node).nonces.shown ≡ (pair_of air node).nonces.shown = ap (λ (p : Pair). p.nonces.shown) pair in
    record {
      last = subst (λ (p : Pair). LastIs given p.nonces.homeward) (sym pair) a.last;
      flights = flights_departing node (Carries old) (Carries new) air at heading payload
          (λ i f within. carries_on old new (record { given = omega arith; taken = omega arith; may = omega arith; shows = omega (arith, shown); landed = omega (arith, landed); most = omega arith }) i f)
          (λ e. absurd (differ (sym e))) a.flights;
    }

pub sending_away : (node given taken may most : ℕ) (air : AirState) (at : ℕ) (heading : Heading) (replies : List (List ℕ)) → (node ≡ at → ⊥) → AirCounts node given taken may most air
    → AirCounts node given taken may most (sending air at heading replies)
sending_away node given taken may most air at heading [] differ a = a
sending_away node given taken may most air at heading (payload ∷ more) differ a =
    sending_away node given taken may most (departing air at heading payload) at heading more differ (air_away node given taken may most air at heading payload differ a)

-- what goes out without a new nonce of the lock: homeward no nonce, outward what is sealed for the last one taken
abbrev pub Sends : ℕ → Heading → List ℕ → Type 0
Sends taken Homeward payload = (byte_in Homeward payload (message_of payload) ≡ None) × (nonce_in payload ≡ None)
Sends taken Outward payload = OfByte (byte_in Outward payload (message_of payload)) (λ byte. byte ≡ taken % 256)

-- a frame of the node, once it is known what it carries and shows
goes_out : (node given taken may most given' : ℕ) (air : AirState) (heading : Heading) (payload : List ℕ) → node < length air.pairs → given ≤ given'
    → given' + (pair_of air node).nonces.shown ≤ given + (showing (pair_of air node) heading payload).nonces.shown → LastIs given' (showing (pair_of air node) heading payload).nonces.homeward
    → Carries (tally node given' taken may most (departing air node heading payload)) (length air.frames) (flight air node heading payload)
    → AirCounts node given taken may most air → AirCounts node given' taken may most (departing air node heading payload)
goes_out node given taken may most given' air heading payload within more shows last new a =
    let pair = pair_here node air heading payload within in
    let old : Tally = tally node given taken may most air in
    let next : Tally = tally node given' taken may most (departing air node heading payload) in
    let landed = landed_same air node heading payload in
    let shown : (pair_of (departing air node heading payload) node).nonces.shown ≡ (showing (pair_of air node) heading payload).nonces.shown = ap (λ (p : Pair). p.nonces.shown) pair in
    record {
      last = subst (λ (p : Pair). LastIs given' p.nonces.homeward) (sym pair) last;
      flights = flights_departing node (Carries old) (Carries next) air node heading payload
          (λ i f there. carries_on old next (record { given = more; taken = omega arith; may = omega arith; shows = omega (arith, shown, shows); landed = omega (arith, landed); most = omega arith }) i f)
          (λ e. new) a.flights;
    }

none_carried : (t : Tally) (heading : Heading) (i shown : ℕ) (o : Option ℕ) → o ≡ None → OfByte o (λ byte. Numbered t heading i shown byte)
none_carried t heading i shown None e = tt
none_carried t heading i shown (Some byte) e = absurd cc

pub air_sends : (node given taken may most : ℕ) (air : AirState) (heading : Heading) (payload : List ℕ) → node < length air.pairs → given ≤ taken + 1 → may ≤ taken + 1 → Sends taken heading payload
    → AirCounts node given taken may most air → AirCounts node given taken may most (departing air node heading payload)
air_sends node given taken may most air Homeward payload within ahead few s a =
    let same : showing (pair_of air node) Homeward payload ≡ pair_of air node = ap (shown_as (pair_of air node) Homeward) s.1 in
    let shown : (showing (pair_of air node) Homeward payload).nonces.shown ≡ (pair_of air node).nonces.shown = ap (λ (p : Pair). p.nonces.shown) same in
    goes_out node given taken may most given air Homeward payload within (omega arith) (omega (arith, shown)) (subst (λ (p : Pair). LastIs given p.nonces.homeward) (sym same) a.last)
    (none_carried (tally node given taken may most (departing air node Homeward payload)) Homeward (length air.frames) (flight air node Homeward payload).shown
    (byte_in Homeward payload (message_of payload)) s.0) a
air_sends node given taken may most air Outward payload within ahead few s a =
    let grows = shown_grows (pair_of air node).nonces Outward (nonce_in payload) in
    let shown : (pair_of (departing air node Outward payload) node).nonces.shown ≡ (showing (pair_of air node) Outward payload).nonces.shown = ap (λ (p : Pair). p.nonces.shown) (pair_here node air Outward payload within) in
    goes_out node given taken may most given air Outward payload within (omega arith) (omega (arith, grows))
    (subst (λ (o : Option (List ℕ)). LastIs given o) (sym (outward_keeps (pair_of air node).nonces (nonce_in payload))) a.last)
    (of_byte (byte_in Outward payload (message_of payload)) (λ byte. byte ≡ taken % 256)
    (λ byte. Numbered (tally node given taken may most (departing air node Outward payload)) Outward (length air.frames) (flight air node Outward payload).shown byte)
    (λ byte is. record {
      number = taken;
      is = is;
      within = omega arith;
      since = omega (arith, ahead, shown);
      recent = λ flies. omega (arith, few);
      newer = λ flies late. omega (arith, few);
    }) s) a

pub sending_sends : (node given taken may most : ℕ) (air : AirState) (heading : Heading) (replies : List (List ℕ)) → node < length air.pairs → given ≤ taken + 1 → may ≤ taken + 1
    → Each (Sends taken heading) replies → AirCounts node given taken may most air → AirCounts node given taken may most (sending air node heading replies)
sending_sends node given taken may most air heading [] within ahead few s a = a
sending_sends node given taken may most air heading (payload ∷ more) within ahead few s a =
    sending_sends node given taken may most (departing air node heading payload) heading more (omega (arith, within, began_pairs air node heading payload)) ahead few s.1
    (air_sends node given taken may most air heading payload within ahead few s.0 a)

-- ---- a nonce that the lock gives

other_byte : (a b : ℕ) (xs ys : List ℕ) → (a ≡ b → ⊥) → pointwise nat_eq (a ∷ xs) (b ∷ ys) ≡ false
other_byte a b xs ys differ = ap (λ (x : Bool). x && pointwise nat_eq xs ys) (ne_eqb a b differ)

is_other : (before nonce : List ℕ) → length before ≡ 8 → length nonce ≡ 8 → (slice_index before 0 ≡ slice_index nonce 0 → ⊥) → is_news (Some before) nonce ≡ true
is_other [] nonce eight eight' differ = absurd (omega (arith, eight))
is_other (b ∷ bs) [] eight eight' differ = absurd (omega (arith, eight'))
is_other (b ∷ bs) (n ∷ ns) eight eight' differ = ap not (other_byte b n bs ns differ)

-- the next one is news
next_is_news : (given : ℕ) (last : Option (List ℕ)) (nonce : List ℕ) → length nonce ≡ 8 → slice_index nonce 0 ≡ (given + 1) % 256 → LastIs given last → is_news last nonce ≡ true
next_is_news given None nonce eight next l = refl
next_is_news given (Some before) nonce eight next l = is_other before nonce l.0 eight (λ same. absurd (omega (arith, same, next, l.1)))

nonce_in_report : (nonce : List ℕ) → length nonce ≡ 8 → nonce_in (nonce_report nonce) ≡ Some nonce
nonce_in_report nonce eight = rw (le-leb 10 (length (nonce_report nonce)) (omega (arith, eight))) (ap Some (take_all 8 nonce (omega (arith, eight))))

-- it goes out, new or again
pub air_reports : (node given taken may most given' : ℕ) (air : AirState) (nonce : List ℕ) → node < length air.pairs → length nonce ≡ 8 → slice_index nonce 0 ≡ given' % 256
    → given ≤ given' → given' ≤ given + 1 → taken ≤ given' → may ≤ taken + 1
    → AirCounts node given taken may most air → AirCounts node given' taken may most (departing air node Homeward (nonce_report nonce))
air_reports node given taken may most given' air nonce within eight is more one below few a =
    let pair = pair_here node air Homeward (nonce_report nonce) within in
    let in_it = nonce_in_report nonce eight in
    let is_shown : showing (pair_of air node) Homeward (nonce_report nonce) ≡ shown_as (pair_of air node) Homeward (Some nonce) = ap (shown_as (pair_of air node) Homeward) in_it in
    let shown : (showing (pair_of air node) Homeward (nonce_report nonce)).nonces.shown ≡ cond (is_news (pair_of air node).nonces.homeward nonce) ((pair_of air node).nonces.shown + 1) (pair_of air node).nonces.shown
    = ap (λ (p : Pair). p.nonces.shown) is_shown in
    let counted : given' + (pair_of air node).nonces.shown ≤ given + (showing (pair_of air node) Homeward (nonce_report nonce)).nonces.shown = ⊎_elim
    (λ same. let grows = shown_grows (pair_of air node).nonces Homeward (nonce_in (nonce_report nonce)) in omega (arith, same, grows))
    (λ differ.
    let next : given' ≡ given + 1 = omega (arith, differ, more, one) in
    let news = next_is_news given (pair_of air node).nonces.homeward nonce eight (is ∙ ap (λ (n : ℕ). n % 256) next) a.last in
    let counts : (showing (pair_of air node) Homeward (nonce_report nonce)).nonces.shown ≡ (pair_of air node).nonces.shown + 1
    = shown ∙ ap (λ (b : Bool). cond b ((pair_of air node).nonces.shown + 1) (pair_of air node).nonces.shown) news in
    omega (arith, next, counts))
    (cases_eq given' given) in
    let at : (pair_of (departing air node Homeward (nonce_report nonce)) node).nonces.shown ≡ (showing (pair_of air node) Homeward (nonce_report nonce)).nonces.shown = ap (λ (p : Pair). p.nonces.shown) pair in
    goes_out node given taken may most given' air Homeward (nonce_report nonce) within more counted
    (subst (λ (p : Pair). LastIs given' p.nonces.homeward) (sym is_shown) (eight, is))
    (subst (λ (m : Message). OfByte (byte_in Homeward (nonce_report nonce) m)
    (λ byte. Numbered (tally node given' taken may most (departing air node Homeward (nonce_report nonce))) Homeward (length air.frames) (flight air node Homeward (nonce_report nonce)).shown byte))
    (sym (nonce_told nonce eight))
    (record {
      number = given';
      is = is;
      within = omega arith;
      since = omega (arith, at);
      recent = λ flies. omega (arith, few, below);
      newer = λ flies late. omega (arith, few, below);
    })) a
