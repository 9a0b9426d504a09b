-- The frames on the air go with the transcript, and judge the next entry as the rule of the air.
use Rattle.std.proofs.Common.{◌≡◌, ℕ, zero, suc, ◌<◌, ◌≤◌, ◌+◌, ◌-◌, cond, eqb, leb, ltb, not, Bool, true, false, List, [], ◌∷◌, ◌++◌, length, map, Option, Some, None, is_none, arith, ap, ap₂, refl, sym, subst, ◌∙◌, append-nil, length-append}
use Rattle.std.specs.Prelude.{◌||◌, ◌&&◌, nat_le, nat_lt, option_map, slice_get}
use Rattle.std.specs.List.{flat_map, list_any}
use Rattle.std.proofs.Math.Bool.{or-false}
use Rattle.std.proofs.Math.ListN.{set}
use Rattle.std.proofs.lemmas.Bool.{false≢true, and_parts, eq-eqb, ne_eqb, eqb-true, not-false, or_parts, or_right as or-true}
use Rattle.std.proofs.lemmas.Bool.Decides.{leb_tells, eqb_tells}
use Rattle.std.proofs.lemmas.List.{append_assoc, get_or-replicate, length-map, length-replicate, map-append}
use Rattle.std.proofs.lemmas.List.Folds.{list_any-append}
use Rattle.std.proofs.lemmas.Option.{slice_get-map}
use Rattle.air_frames.specs.Ages.{is_class, stale_by}
use Rattle.air_frames.specs.Nonces.{nonce_in}
use Rattle.air_frames.specs.declared.ages.Refusal.TheVariants.{Stale}
use Rattle.zw_text.specs.declared.line.Line.{Line}
use Rattle.zw_text.specs.declared.line.Line.TheVariants as lines
use Rattle.zw_text.specs.declared.entry.Entry.{Entry}
use Rattle.zw_text.specs.declared.entry.Entry.TheVariants.{Air, Heard, Lost, Unheard, Begin}
use Rattle.zw_text.specs.Fits.{EntryFits}
use Rattle.zw_text.specs.Transcript.{AirFrame, frame_at, frames, line_last, session_at, session_number_at, session_numbers, sessions}
use Rattle.zw_text.proofs.Views.{shown-append}
use Rattle.law_transcript.specs.Lists.{shown_after}
use Rattle.law_transcript.specs.Nodes.{controller}
use Rattle.law_transcript.specs.Repeats.{frame_of, later_nonces, later_sessions, new_nonces, node_of, nonces_shown, up_to_frame}
use Rattle.audit_books.specs.Scenes.{Scenery}
use Rattle.audit_books.specs.Beginning.{sessions_of}
use Rattle.audit_books.specs.Keeping.{lines_of}
use Rattle.audit_rules.specs.declared.frames.Flown.{Flown}
use Rattle.audit_rules.specs.Ticks.{runs_ticks}
use Rattle.audit_rules.specs.AirRule.{asks_for, breaks_air, breaks_fate, fate_of, has_landed, is_fresh, is_sent, landed, landed_at}
use Rattle.audit_rules.specs.Flying.{Flying, no_nonces as blank, at_number, breaks_flying, breaks_landing, flying_after, is_fresh_now, is_there, is_true, is_young, landing_if, lands, no_frames, node_between, none_shown, repeats_frame, sending, showing, shown_at, shown_count}
use Rattle.audit_rules.specs.KeepingFrames.{AreFlyingOf, AreNumbered, flown_of, shown_by}
use Rattle.audit_rules.proofs.Nonces.{counts-are, homeward-more, outward-more, places-shown, showing_of}

-- ---- lists

-- what each entry shows by those before it
after-more : {A B : Type 0} (shows : List A → A → List B) (past xs : List A) (x : A) →
    shown_after shows past (xs ++ (x ∷ [])) ≡ shown_after shows past xs ++ shows (past ++ xs) x
after-more shows past [] x = append-nil (shows past x) ∙ ap (λ l. shows l x) (sym (append-nil past))
after-more shows past (y ∷ xs) x =
    ap (λ l. shows past y ++ l) (after-more shows (past ++ (y ∷ [])) xs x)
    ∙ sym (append_assoc (shows past y) (shown_after shows (past ++ (y ∷ [])) xs) (shows ((past ++ (y ∷ [])) ++ xs) x))
    ∙ ap (λ l. (shows past y ++ shown_after shows (past ++ (y ∷ [])) xs) ++ shows l x) (append_assoc past (y ∷ []) xs)

-- ---- numbers

pub any-numbered : (first : ℕ) (fs : List AirFrame) (k : ℕ) → AreNumbered first fs →
    list_any (λ (f : AirFrame). eqb f.number k) fs ≡ (leb first k && ltb k (first + length fs))
any-numbered first [] k are = grind (arith, leb_tells first k, leb_tells (suc k) (first + 0))
any-numbered first (f ∷ fs) k are =
    ap₂ (λ a b. eqb a k || b) are.0 (any-numbered (suc first) fs k are.2)
    ∙ grind (arith, eqb_tells first k, leb_tells first k, leb_tells (suc first) k, leb_tells (suc k) (suc first + length fs), leb_tells (suc k) (first + suc (length fs)))

pub numbered-more : (first : ℕ) (fs : List AirFrame) (f : AirFrame) → AreNumbered first fs → f.number ≡ first + length fs → node_of f < 233 → AreNumbered first (fs ++ (f ∷ []))
numbered-more first [] f are is within = (omega (arith, is), within, tt)
numbered-more first (g ∷ fs) f are is within = (are.0, are.1, numbered-more (suc first) fs f are.2 (omega (arith, is)) within)

none-is-some : {A : Type 0} {x : A} → None ≡ Some x → ⊥
none-is-some {A} {x} e = subst G e tt
  where
    G : Option A → Type 0
    G None = Unit {0}
    G (Some y) = ⊥

abbrev or_some : {A : Type 0} → A → Option A → A
or_some d None = d
or_some d (Some x) = x

plus-zero : (n : ℕ) → n ≡ n + 0
plus-zero n = omega arith

pub numbered-at : (first : ℕ) (fs : List AirFrame) (k : ℕ) (f : AirFrame) → AreNumbered first fs → slice_get fs k ≡ Some f → (f.number ≡ first + k) × (node_of f < 233)
numbered-at first [] k f are is = absurd (none-is-some is)
numbered-at first (g ∷ fs) zero f are is =
    let e : g ≡ f = ap (or_some g) is in
    (ap (λ (h : AirFrame). h.number) (sym e) ∙ are.0 ∙ plus-zero first, subst (λ (h : AirFrame). node_of h < 233) e are.1)
numbered-at first (g ∷ fs) (suc k) f are is =
    let more = numbered-at (suc first) fs k f are.2 is in
    (omega (arith, more.0), more.1)

-- ---- the entries up to a frame

abbrev pub has_number : List Entry → ℕ → Bool
has_number past number = list_any (λ (f : AirFrame). eqb f.number number) (frames past)

found-more : (b : Bool) (number : ℕ) (rest : List Entry) (more : List Entry) → (b || has_number rest number) ≡ true →
    (has_number rest number ≡ true → up_to_frame number (rest ++ more) ≡ up_to_frame number rest) →
    cond b [] (up_to_frame number (rest ++ more)) ≡ cond b [] (up_to_frame number rest)
found-more true number rest more e same = refl
found-more false number rest more e same = same e

-- where the frame was sent, what comes later changes nothing
pub up-kept : (number : ℕ) (past more : List Entry) → has_number past number ≡ true → up_to_frame number (past ++ more) ≡ up_to_frame number past
up-kept number [] more e = absurd (false≢true e)
up-kept number (Air frame sender receiver repeaters payload ∷ rest) more e =
    ap (λ l. Air frame sender receiver repeaters payload ∷ l) (found-more (eqb frame number) number rest more e (up-kept number rest more))
up-kept number (entry ∷ rest) more e = ap (λ l. entry ∷ l) (up-kept number rest more e)

missing-more : (b : Bool) (number : ℕ) (rest more : List Entry) → (b || has_number rest number) ≡ false →
    (has_number rest number ≡ false → up_to_frame number (rest ++ more) ≡ rest ++ up_to_frame number more) →
    cond b [] (up_to_frame number (rest ++ more)) ≡ rest ++ up_to_frame number more
missing-more true number rest more e same = absurd (false≢true (sym e))
missing-more false number rest more e same = same e

-- where it was not, they are all of them, and those up to it after them
pub up-missing : (number : ℕ) (past more : List Entry) → has_number past number ≡ false → up_to_frame number (past ++ more) ≡ past ++ up_to_frame number more
up-missing number [] more e = refl
up-missing number (Air frame sender receiver repeaters payload ∷ rest) more e =
    ap (λ l. Air frame sender receiver repeaters payload ∷ l) (missing-more (eqb frame number) number rest more e (up-missing number rest more))
up-missing number (entry ∷ rest) more e = ap (λ l. entry ∷ l) (up-missing number rest more e)

up-seam : (frame sender receiver : ℕ) (repeaters payload : List ℕ) → up_to_frame frame (Air frame sender receiver repeaters payload ∷ []) ≡ Air frame sender receiver repeaters payload ∷ []
up-seam frame sender receiver repeaters payload = ap (λ b. Air frame sender receiver repeaters payload ∷ cond b [] []) (eq-eqb frame frame refl)

-- ---- what is kept of frames

head-any : (number : ℕ) (fs : List AirFrame) → (eqb number number || list_any (λ (f : AirFrame). eqb f.number number) fs) ≡ true
head-any number fs = ap (λ b. b || list_any (λ (f : AirFrame). eqb f.number number) fs) (eq-eqb number number refl)

-- what depends on the numbers of frames alone
map-numbers : {B : Type 0} (fs : List AirFrame) (f g : AirFrame → B) →
    ((one : AirFrame) → list_any (λ (h : AirFrame). eqb h.number one.number) fs ≡ true → f one ≡ g one) → map f fs ≡ map g fs
map-numbers [] f g same = refl
map-numbers (one ∷ fs) f g same =
    ap₂ (λ x l. x ∷ l) (same one (head-any one.number fs))
    (map-numbers fs f g (λ other e. same other (or-true (eqb one.number other.number) _ e)))

flown-kept : (past : List Entry) (entry : Entry) (one : AirFrame) → has_number past one.number ≡ true → flown_of (past ++ (entry ∷ [])) one ≡ flown_of past one
flown-kept past entry one e =
    ap (λ (l : List Entry). record {
      node = node_of one;
      segment = is_class one.payload 0x55;
      sealed = is_class one.payload 0x98;
      begun = length (session_numbers (node_of one) l);
      shown = new_nonces (node_of one) l;
    }) (up-kept one.number past (entry ∷ []) e)

pub flown-all-kept : (past : List Entry) (entry : Entry) → map (flown_of (past ++ (entry ∷ []))) (frames past) ≡ map (flown_of past) (frames past)
flown-all-kept past entry = map-numbers (frames past) (flown_of (past ++ (entry ∷ []))) (flown_of past) (flown-kept past entry)

-- as many sessions as commands of sessions
same-lengths : (b : Bool) (session command : ℕ) → length (cond b (session ∷ []) []) ≡ length (cond b (command ∷ []) [])
same-lengths true session command = refl
same-lengths false session command = refl

one-length : (node : ℕ) (entry : Entry) → length (session_number_at node entry) ≡ length (session_at node entry)
one-length node (Begin at session command) = same-lengths (eqb at node) session command
one-length node entry = refl

pub sessions-length : (node : ℕ) (past : List Entry) → length (session_numbers node past) ≡ length (sessions node past)
sessions-length node [] = refl
sessions-length node (entry ∷ past) =
    length-append (session_number_at node entry) (session_numbers node past)
    ∙ ap₂ (λ a b. a + b) (one-length node entry) (sessions-length node past)
    ∙ sym (length-append (session_at node entry) (sessions node past))

-- ---- freshness

not-le : (n m : ℕ) → ltb n m ≡ not (leb m n)
not-le n m = grind (arith, leb_tells (suc n) m, leb_tells m n)

young-table : (a c d s x : Bool) (later nonces : ℕ) → (not a && ((not s || not c) && (not x || not d))) ≡ is_none (cond (a || (s && c)) (Some (Stale later)) (cond (x && d) (Some (Stale nonces)) None))
young-table true c d s x later nonces = refl
young-table false true d true x later nonces = refl
young-table false false true true true later nonces = refl
young-table false false true true false later nonces = refl
young-table false false false true true later nonces = refl
young-table false false false true false later nonces = refl
young-table false c true false true later nonces = refl
young-table false c true false false later nonces = refl
young-table false c false false true later nonces = refl
young-table false c false false false later nonces = refl

young-is : (payload : List ℕ) (later nonces : ℕ) → is_young (is_class payload 0x55) (is_class payload 0x98) later nonces ≡ is_none (stale_by payload later nonces)
young-is payload later nonces =
    ap₂ (λ a b. a && b) (not-le later 62)
    (ap₂ (λ a b. (not (is_class payload 0x55) || a) && (not (is_class payload 0x98) || b)) (not-le later 14) (not-le nonces 120))
    ∙ young-table (leb 62 later) (leb 14 later) (leb 120 nonces) (is_class payload 0x55) (is_class payload 0x98) later nonces

fresh-flown : (flying : Flying) (nodes : List (List ℕ)) (past : List Entry) (found : Option AirFrame) →
    ((f : AirFrame) → found ≡ Some f → (length (sessions_of nodes (node_of f)) ≡ length (session_numbers (node_of f) past)) × (shown_count flying (node_of f) ≡ new_nonces (node_of f) past)) →
    is_fresh_now flying nodes (option_map (flown_of past) found) ≡ is_fresh past found
fresh-flown flying nodes past None are = refl
fresh-flown flying nodes past (Some f) are =
    let counts = are f refl in
    ap₂ (λ a b. is_young (is_class f.payload 0x55) (is_class f.payload 0x98)
    (a - length (session_numbers (node_of f) (up_to_frame f.number past))) (b - new_nonces (node_of f) (up_to_frame f.number past))) counts.0 counts.1
    ∙ young-is f.payload (later_sessions past f) (later_nonces past f)

-- the tables of the sessions that the rule asks for
abbrev pub AreSessions : List (List ℕ) → List Entry → Type 0
AreSessions nodes past = (node : ℕ) → node < 233 → sessions_of nodes node ≡ sessions node past

at-map : (past : List Entry) (number : ℕ) → at_number (map (flown_of past) (frames past)) number ≡ option_map (flown_of past) (frame_of past number)
at-map past number = by (ltb 0 number)
  where
    by : (b : Bool) → cond b (slice_get (map (flown_of past) (frames past)) (number - 1)) None ≡ option_map (flown_of past) (cond b (slice_get (frames past) (number - 1)) None)
    by true = slice_get-map (flown_of past) (frames past) (number - 1)
    by false = refl

above-zero : (number : ℕ) → ltb 0 number ≡ true → 1 + (number - 1) ≡ number
above-zero number e = grind (arith, e, leb_tells 1 number)

found-within : (past : List Entry) (number : ℕ) (f : AirFrame) → AreNumbered 1 (frames past) → frame_of past number ≡ Some f → (f.number ≡ number) × (node_of f < 233)
found-within past number f are is = by (ltb 0 number) refl is
  where
    by : (b : Bool) → ltb 0 number ≡ b → cond b (slice_get (frames past) (number - 1)) None ≡ Some f → (f.number ≡ number) × (node_of f < 233)
    by false e is = absurd (none-is-some is)
    by true e is =
        let found = numbered-at 1 (frames past) (number - 1) f are is in
        (found.0 ∙ above-zero number e, found.1)

pub fresh-is : (flying : Flying) (nodes : List (List ℕ)) (past : List Entry) (number : ℕ) → AreFlyingOf flying past → AreSessions nodes past →
    is_fresh_now flying nodes (at_number flying.frames number) ≡ is_fresh past (frame_of past number)
fresh-is flying nodes past number are begun =
    ap (λ l. is_fresh_now flying nodes (at_number l number)) are.frames_are
    ∙ ap (is_fresh_now flying nodes) (at-map past number)
    ∙ fresh-flown flying nodes past (frame_of past number)
    (λ f is.
    let within = (found-within past number f are.numbered is).1 in (
      ap length (begun (node_of f) within) ∙ sym (sessions-length (node_of f) past),
      counts-are flying past (node_of f) (are.outward_are (node_of f) within) (are.homeward_are (node_of f) within),
    ))

-- ---- judging

there-is : (flying : Flying) (past : List Entry) (number : ℕ) → AreFlyingOf flying past → is_there flying number ≡ is_sent past number
there-is flying past number are =
    ap (λ n. nat_lt 0 number && nat_le number n) (ap length are.frames_are ∙ length-map (frames past) (flown_of past))

lands-found : (past : List Entry) (number : ℕ) (found : Option AirFrame) → ((f : AirFrame) → found ≡ Some f → f.number ≡ number) → (found ≡ None → has_landed past number ≡ false) →
    is_true (option_map (λ (f : AirFrame). has_landed past f.number) found) ≡ has_landed past number
lands-found past number None same none = sym (none refl)
lands-found past number (Some f) same none = ap (has_landed past) (same f refl)

at-none : {A : Type 0} (fs : List A) (k : ℕ) → slice_get fs k ≡ None → length fs ≤ k
at-none [] k e = omega arith
at-none (f ∷ fs) zero e = absurd (none-is-some (sym e))
at-none (f ∷ fs) (suc k) e = let more = at-none fs k e in omega (arith, more)

none-sent : (past : List Entry) (number : ℕ) → frame_of past number ≡ None → is_sent past number ≡ false
none-sent past number e = by (ltb 0 number) refl e
  where
    by : (b : Bool) → ltb 0 number ≡ b → cond b (slice_get (frames past) (number - 1)) None ≡ None → (b && leb number (length (frames past))) ≡ false
    by false z e = refl
    by true z e =
        let high = at-none (frames past) (number - 1) e in
        let is = above-zero number z in
        grind (arith, high, is, leb_tells number (length (frames past)))

at-landed : (past : List Entry) (number : ℕ) →
    at_number (map (λ (f : AirFrame). has_landed past f.number) (frames past)) number ≡ option_map (λ (f : AirFrame). has_landed past f.number) (frame_of past number)
at-landed past number = by (ltb 0 number)
  where
    by : (b : Bool) →
        cond b (slice_get (map (λ (f : AirFrame). has_landed past f.number) (frames past)) (number - 1)) None
        ≡ option_map (λ (f : AirFrame). has_landed past f.number) (cond b (slice_get (frames past) (number - 1)) None)
    by true = slice_get-map (λ (f : AirFrame). has_landed past f.number) (frames past) (number - 1)
    by false = refl

lands-is : (flying : Flying) (past : List Entry) (number : ℕ) → AreFlyingOf flying past → lands flying number ≡ has_landed past number
lands-is flying past number are =
    ap (λ l. is_true (at_number l number)) are.landed_are ∙ ap is_true (at-landed past number)
    ∙ lands-found past number (frame_of past number) (λ f is. (found-within past number f are.numbered is).0) (λ none. are.beyond number (none-sent past number none))

repeats-is : (line : Option Line) (number : ℕ) → repeats_frame line number ≡ asks_for (lines_of line) number
repeats-is None number = refl
repeats-is (Some (lines.Repeat asked)) number = refl
repeats-is (Some line) number = refl

fate-is : (flying : Flying) (scene : Scenery) (past : List Entry) (number : ℕ) → AreFlyingOf flying past → scene.ticks ≡ runs_ticks past →
    breaks_landing flying scene number ≡ breaks_fate past number
fate-is flying scene past number are ticks =
    ap₂ (λ a b. not a || b) (there-is flying past number are) (ap₂ (λ a b. a && b) ticks (lands-is flying past number are))

pub judges-air : (flying : Flying) (scene : Scenery) (nodes : List (List ℕ)) (past : List Entry) (entry : Entry) →
    AreFlyingOf flying past → scene.ticks ≡ runs_ticks past → lines_of scene.line ≡ line_last past → AreSessions nodes past →
    breaks_flying flying scene nodes entry ≡ breaks_air past entry
judges-air flying scene nodes past (Air frame sender receiver repeaters payload) are ticks line begun =
    ap (λ n. not (eqb frame (n + 1))) (ap length are.frames_are ∙ length-map (frames past) (flown_of past))
judges-air flying scene nodes past (Heard frame) are ticks line begun =
    ap₂ (λ a b. a || not b) (fate-is flying scene past frame are ticks)
    (ap₂ (λ a b. a || b) ticks (ap₂ (λ a b. a && b) (repeats-is scene.line frame ∙ ap (λ l. asks_for l frame) line) (fresh-is flying nodes past frame are begun)))
judges-air flying scene nodes past (Lost frame) are ticks line begun = fate-is flying scene past frame are ticks
judges-air flying scene nodes past (Unheard frame) are ticks line begun = fate-is flying scene past frame are ticks
judges-air flying scene nodes past other are ticks line begun = refl

-- ---- the first tables

pub air-begins : AreFlyingOf no_frames []
unfolding none_shown
air-begins = record {
  frames_are = refl;
  landed_are = refl;
  outward_places = length-replicate 233 blank;
  homeward_places = length-replicate 233 blank;
  outward_are = λ node within. get_or-replicate 233 node blank blank within;
  homeward_are = λ node within. get_or-replicate 233 node blank blank within;
  numbered = tt;
  beyond = λ number none. refl;
}

-- ---- one entry more

landed-more : (past : List Entry) (entry : Entry) (k : ℕ) → has_landed (past ++ (entry ∷ [])) k ≡ (has_landed past k || list_any (λ other. eqb other k) (landed_at past entry))
landed-more past entry k =
    ap (list_any (λ other. eqb other k)) (after-more landed_at [] past entry)
    ∙ list_any-append (λ other. eqb other k) (landed past) (landed_at past entry)

-- an entry that neither sends a frame nor says what became of one
quiet-landed : (past : List Entry) (entry : Entry) (k : ℕ) → landed_at past entry ≡ [] → has_landed (past ++ (entry ∷ [])) k ≡ has_landed past k
quiet-landed past entry k none = landed-more past entry k ∙ ap (λ l. has_landed past k || list_any (λ other. eqb other k) l) none ∙ or-false (has_landed past k)

frames-same : (past : List Entry) (entry : Entry) → frame_at entry ≡ [] → frames (past ++ (entry ∷ [])) ≡ frames past
frames-same past entry none = shown-append frame_at past (entry ∷ []) ∙ ap (λ l. frames past ++ (l ++ [])) none ∙ append-nil (frames past)

flown-same : (past : List Entry) (entry : Entry) → frame_at entry ≡ [] → map (flown_of (past ++ (entry ∷ []))) (frames (past ++ (entry ∷ []))) ≡ map (flown_of past) (frames past)
flown-same past entry none = ap (map (flown_of (past ++ (entry ∷ [])))) (frames-same past entry none) ∙ flown-all-kept past entry

sent-same : (past : List Entry) (entry : Entry) (k : ℕ) → frame_at entry ≡ [] → is_sent (past ++ (entry ∷ [])) k ≡ is_sent past k
sent-same past entry k none = ap (λ l. nat_lt 0 k && nat_le k (length l)) (frames-same past entry none)

shown-same : (sender receiver : ℕ) (past : List Entry) (entry : Entry) → frame_at entry ≡ [] → nonces_shown sender receiver (past ++ (entry ∷ [])) ≡ nonces_shown sender receiver past
shown-same sender receiver past entry none = ap (flat_map (showing_of sender receiver)) (frames-same past entry none)

map-same : {A B : Type 0} (f g : A → B) (xs : List A) → ((x : A) → f x ≡ g x) → map f xs ≡ map g xs
map-same f g [] same = refl
map-same f g (x ∷ xs) same = ap₂ (λ y l. y ∷ l) (same x) (map-same f g xs same)

-- such an entry leaves the tables, but for what became of frames
kept-with : (flying : Flying) (past : List Entry) (entry : Entry) (landings : List Bool) → AreFlyingOf flying past → frame_at entry ≡ [] →
    landings ≡ map (λ (f : AirFrame). has_landed (past ++ (entry ∷ [])) f.number) (frames past) →
    ((k : ℕ) → is_sent past k ≡ false → has_landed (past ++ (entry ∷ [])) k ≡ false) →
    AreFlyingOf (record flying { landed = landings }) (past ++ (entry ∷ []))
kept-with flying past entry landings are none lands beyond = record {
  frames_are = are.frames_are ∙ sym (flown-same past entry none);
  landed_are = lands ∙ ap (map (λ (f : AirFrame). has_landed (past ++ (entry ∷ [])) f.number)) (sym (frames-same past entry none));
  outward_places = are.outward_places;
  homeward_places = are.homeward_places;
  outward_are = λ node within. are.outward_are node within ∙ ap shown_by (sym (shown-same controller node past entry none));
  homeward_are = λ node within. are.homeward_are node within ∙ ap shown_by (sym (shown-same node controller past entry none));
  numbered = subst (AreNumbered 1) (sym (frames-same past entry none)) are.numbered;
  beyond = λ k e. beyond k (sym (sent-same past entry k none) ∙ e);
}

pub quiet-air : (flying : Flying) (past : List Entry) (entry : Entry) → AreFlyingOf flying past → frame_at entry ≡ [] → landed_at past entry ≡ [] → AreFlyingOf flying (past ++ (entry ∷ []))
quiet-air flying past entry are none still =
    kept-with flying past entry flying.landed are none
    (are.landed_are ∙ map-same (λ (f : AirFrame). has_landed past f.number) (λ (f : AirFrame). has_landed (past ++ (entry ∷ [])) f.number) (frames past) (λ f. sym (quiet-landed past entry f.number still)))
    (λ k e. quiet-landed past entry k still ∙ are.beyond k e)

-- what became of a frame, at its place
landing-at : (first : ℕ) (fs : List AirFrame) (h : ℕ → Bool) (m j : ℕ) → AreNumbered first fs → m ≡ first + j → j < length fs →
    set (map (λ (f : AirFrame). h f.number) fs) j true ≡ map (λ (f : AirFrame). h f.number || (eqb m f.number || false)) fs
landing-at first [] h m j are is within = absurd (omega (arith, within))
landing-at first (f ∷ fs) h m zero are is within =
    ap₂ (λ x l. x ∷ l) (sym (or-true (h f.number) (eqb m f.number || false) (or-false (eqb m f.number) ∙ eq-eqb m f.number (omega (arith, is, are.0)))))
    (later (suc first) fs are.2 (omega (arith, is)))
  where
    later : (next : ℕ) (gs : List AirFrame) → AreNumbered next gs → m < next → map (λ (g : AirFrame). h g.number) gs ≡ map (λ (g : AirFrame). h g.number || (eqb m g.number || false)) gs
    later next [] are low = refl
    later next (g ∷ gs) are low =
        ap₂ (λ x l. x ∷ l) (sym (ap (λ b. h g.number || b) (or-false (eqb m g.number) ∙ ne_eqb m g.number (λ e. omega (arith, e, low, are.0))) ∙ or-false (h g.number)))
        (later (suc next) gs are.2 (omega (arith, low)))
landing-at first (f ∷ fs) h m (suc j) are is within =
    ap₂ (λ x l. x ∷ l) (sym (ap (λ b. h f.number || b) (or-false (eqb m f.number) ∙ ne_eqb m f.number (λ e. omega (arith, e, is, are.0))) ∙ or-false (h f.number)))
    (landing-at (suc first) fs h m j are.2 (omega (arith, is)) (omega (arith, within)))

-- an entry that says what became of a frame that was sent
abbrev Fates : Entry → ℕ → Type 0
Fates entry number = (fate_of entry ≡ number ∷ []) × (frame_at entry ≡ [])

sent-within : (past : List Entry) (number : ℕ) → is_sent past number ≡ true → (1 + (number - 1) ≡ number) × (number - 1 < length (frames past))
sent-within past number sent =
    let both = and_parts (ltb 0 number) (leb number (length (frames past))) sent in
    let is = above-zero number both.0 in
    (is, grind (arith, is, both.1, leb_tells number (length (frames past))))

one-landed : (past : List Entry) (entry : Entry) (number : ℕ) → landed_at past entry ≡ number ∷ [] → (k : ℕ) →
    has_landed (past ++ (entry ∷ [])) k ≡ (has_landed past k || (eqb number k || false))
one-landed past entry number lands k = landed-more past entry k ∙ ap (λ l. has_landed past k || list_any (λ other. eqb other k) l) lands

sent-not-beyond : (past : List Entry) (number k : ℕ) → is_sent past number ≡ true → is_sent past k ≡ false → eqb number k ≡ false
sent-not-beyond past number k sent beyond = ne_eqb number k (λ e. false≢true (sym beyond ∙ ap (is_sent past) (sym e) ∙ sent))

lands-more : (ticks : Bool) (flying : Flying) (past : List Entry) (entry : Entry) (number : ℕ) → AreFlyingOf flying past → Fates entry number →
    runs_ticks past ≡ ticks → is_sent past number ≡ true → AreFlyingOf (landing_if ticks flying number) (past ++ (entry ∷ []))
lands-more false flying past entry number are fates ticks sent =
    quiet-air flying past entry are fates.1 (ap (λ b. cond b (fate_of entry) []) ticks)
lands-more true flying past entry number are fates ticks sent =
    let lands : landed_at past entry ≡ number ∷ [] = ap (λ b. cond b (fate_of entry) []) ticks ∙ fates.0 in
    let within = sent-within past number sent in
    let moved : AreFlyingOf (record flying { landed = set flying.landed (number - 1) true }) (past ++ (entry ∷ [])) =
    kept-with flying past entry (set flying.landed (number - 1) true) are fates.1
    (ap (λ l. set l (number - 1) true) are.landed_are
    ∙ landing-at 1 (frames past) (has_landed past) number (number - 1) are.numbered (sym within.0) within.1
    ∙ map-same _ (λ (f : AirFrame). has_landed (past ++ (entry ∷ [])) f.number) (frames past) (λ f. sym (one-landed past entry number lands f.number)))
    (λ j beyond.
    one-landed past entry number lands j
    ∙ ap₂ (λ a b. a || (b || false)) (are.beyond j beyond) (sent-not-beyond past number j sent beyond)) in
    subst (λ b. AreFlyingOf (cond b (record flying { landed = set flying.landed (number - 1) true }) flying) (past ++ (entry ∷ [])))
    (sym ((and_parts (ltb 0 number) (leb number (length (frames past))) sent).0)) moved

-- ---- a frame more

number-next : (frame count : ℕ) → not (eqb frame (count + 1)) ≡ false → frame ≡ count + 1
number-next frame count keeps = eqb-true frame (count + 1) (not-false (eqb frame (count + 1)) keeps)

new-missing : (past : List Entry) (frame : ℕ) → AreNumbered 1 (frames past) → frame ≡ length (frames past) + 1 → has_number past frame ≡ false
new-missing past frame are is =
    any-numbered 1 (frames past) frame are ∙ grind (arith, is, leb_tells 1 frame, leb_tells (suc frame) (1 + length (frames past)))

new-unsent : (past : List Entry) (frame : ℕ) → frame ≡ length (frames past) + 1 → is_sent past frame ≡ false
new-unsent past frame is = grind (arith, is, leb_tells 1 frame, leb_tells frame (length (frames past)))

frames-more : (past : List Entry) (frame sender receiver : ℕ) (repeaters payload : List ℕ) →
    frames (past ++ (Air frame sender receiver repeaters payload ∷ []))
    ≡ frames past ++ (record { number = frame; sender = sender; receiver = receiver; repeaters = repeaters; payload = payload } ∷ [])
frames-more past frame sender receiver repeaters payload = shown-append frame_at past (Air frame sender receiver repeaters payload ∷ [])

unsent-before : (past : List Entry) (entry : Entry) (f : AirFrame) (k : ℕ) → frames (past ++ (entry ∷ [])) ≡ frames past ++ (f ∷ []) → is_sent (past ++ (entry ∷ [])) k ≡ false → is_sent past k ≡ false
unsent-before past entry f k more e =
    let fewer = sym (ap (λ l. nat_lt 0 k && nat_le k (length l)) more ∙ ap (λ n. nat_lt 0 k && nat_le k n) (length-append (frames past) (f ∷ []))) ∙ e in
    low (ltb 0 k) fewer
  where
    low : (b : Bool) → (b && leb k (length (frames past) + 1)) ≡ false → (b && leb k (length (frames past))) ≡ false
    low false e = refl
    low true e = grind (arith, e, leb_tells k (length (frames past)), leb_tells k (length (frames past) + 1))

up-new : (past : List Entry) (frame sender receiver : ℕ) (repeaters payload : List ℕ) → has_number past frame ≡ false →
    up_to_frame frame (past ++ (Air frame sender receiver repeaters payload ∷ [])) ≡ past ++ (Air frame sender receiver repeaters payload ∷ [])
up-new past frame sender receiver repeaters payload missing =
    up-missing frame past (Air frame sender receiver repeaters payload ∷ []) missing ∙ ap (λ l. past ++ l) (up-seam frame sender receiver repeaters payload)

begun-same : (node : ℕ) (past : List Entry) (frame sender receiver : ℕ) (repeaters payload : List ℕ) →
    session_numbers node (past ++ (Air frame sender receiver repeaters payload ∷ [])) ≡ session_numbers node past
begun-same node past frame sender receiver repeaters payload =
    shown-append (session_number_at node) past (Air frame sender receiver repeaters payload ∷ []) ∙ append-nil (session_numbers node past)

node-within : (b : Bool) (sender receiver : ℕ) → sender < 233 → receiver < 233 → cond b receiver sender < 233
node-within true sender receiver s r = r
node-within false sender receiver s r = s

pub sends-more : (flying : Flying) (nodes : List (List ℕ)) (past : List Entry) (frame sender receiver : ℕ) (repeaters payload : List ℕ) →
    AreFlyingOf flying past → AreSessions nodes past → sender < 233 → receiver < 233 → frame ≡ length (frames past) + 1 →
    AreFlyingOf (sending flying nodes sender receiver payload) (past ++ (Air frame sender receiver repeaters payload ∷ []))
sends-more flying nodes past frame sender receiver repeaters payload are begun s r is =
    let entry : Entry = Air frame sender receiver repeaters payload in
    let one : AirFrame = record { number = frame; sender = sender; receiver = receiver; repeaters = repeaters; payload = payload } in
    let node = node_between sender receiver in
    let within : node < 233 = node-within (eqb sender controller) sender receiver s r in
    let shown = showing flying sender receiver payload in
    let outward : (n : ℕ) → n < 233 → shown_at shown.outward n ≡ shown_by (nonces_shown controller n (past ++ (entry ∷ []))) =
    λ n below. outward-more flying.outward past frame sender receiver repeaters payload n (omega (arith, r, are.outward_places)) (are.outward_are n below) in
    let homeward : (n : ℕ) → n < 233 → shown_at shown.homeward n ≡ shown_by (nonces_shown n controller (past ++ (entry ∷ []))) =
    λ n below. homeward-more flying.homeward past frame sender receiver repeaters payload n (omega (arith, s, are.homeward_places)) (are.homeward_are n below) in
    let up : up_to_frame frame (past ++ (entry ∷ [])) ≡ past ++ (entry ∷ []) = up-new past frame sender receiver repeaters payload (new-missing past frame are.numbered is) in
    let lands : (k : ℕ) → has_landed (past ++ (entry ∷ [])) k ≡ has_landed past k = λ k. quiet-landed past entry k (no-fate (runs_ticks past)) in
    record {
      frames_are =
          ap₂ (λ l f. l ++ (f ∷ [])) (are.frames_are ∙ sym (flown-all-kept past entry))
          (ap₂ (λ b c. flown-record node payload b c)
          (ap length (begun node within) ∙ sym (sessions-length node past) ∙ ap length (sym (begun-same node past frame sender receiver repeaters payload)) ∙ ap (λ l. length (session_numbers node l)) (sym up))
          (counts-are shown (past ++ (entry ∷ [])) node (outward node within) (homeward node within) ∙ ap (new_nonces node) (sym up)))
          ∙ sym (map-append (flown_of (past ++ (entry ∷ []))) (frames past) (one ∷ []))
          ∙ ap (map (flown_of (past ++ (entry ∷ [])))) (sym (frames-more past frame sender receiver repeaters payload));
      landed_are =
          ap₂ (λ l b. l ++ (b ∷ []))
          (are.landed_are ∙ map-same (λ (f : AirFrame). has_landed past f.number) (λ (f : AirFrame). has_landed (past ++ (entry ∷ [])) f.number) (frames past) (λ f. sym (lands f.number)))
          (sym (lands frame ∙ are.beyond frame (new-unsent past frame is)))
          ∙ sym (map-append (λ (f : AirFrame). has_landed (past ++ (entry ∷ [])) f.number) (frames past) (one ∷ []))
          ∙ ap (map (λ (f : AirFrame). has_landed (past ++ (entry ∷ [])) f.number)) (sym (frames-more past frame sender receiver repeaters payload));
      outward_places = places-shown flying.outward (eqb sender controller) receiver (nonce_in payload) ∙ are.outward_places;
      homeward_places = places-shown flying.homeward (eqb receiver controller) sender (nonce_in payload) ∙ are.homeward_places;
      outward_are = outward;
      homeward_are = homeward;
      numbered = subst (AreNumbered 1) (sym (frames-more past frame sender receiver repeaters payload))
          (numbered-more 1 (frames past) one are.numbered (omega (arith, is)) within);
      beyond = λ k e. lands k ∙ are.beyond k (unsent-before past entry one k (frames-more past frame sender receiver repeaters payload) e);
    }
  where
    no-fate : (b : Bool) → cond {A = List ℕ} b [] [] ≡ []
    no-fate true = refl
    no-fate false = refl

    flown-record : ℕ → List ℕ → ℕ → ℕ → Flown
    flown-record node payload b c = record { node = node; segment = is_class payload 0x55; sealed = is_class payload 0x98; begun = b; shown = c }

pub goes-air : (flying : Flying) (scene : Scenery) (nodes : List (List ℕ)) (past : List Entry) (entry : Entry) →
    AreFlyingOf flying past → scene.ticks ≡ runs_ticks past → AreSessions nodes past → EntryFits entry → breaks_air past entry ≡ false →
    AreFlyingOf (flying_after flying scene nodes entry) (past ++ (entry ∷ []))
goes-air flying scene nodes past (Air frame sender receiver repeaters payload) are ticks begun fits keeps =
    sends-more flying nodes past frame sender receiver repeaters payload are begun (omega (arith, fits.1.1)) (omega (arith, fits.2.1)) (number-next frame (length (frames past)) keeps)
goes-air flying scene nodes past (Heard frame) are ticks begun fits keeps =
    lands-more scene.ticks flying past (Heard frame) frame are (refl, refl) (sym ticks) (not-false (is_sent past frame) ((or_parts _ _ ((or_parts _ _ keeps).0)).0))
goes-air flying scene nodes past (Lost frame) are ticks begun fits keeps =
    lands-more scene.ticks flying past (Lost frame) frame are (refl, refl) (sym ticks) (not-false (is_sent past frame) ((or_parts _ _ keeps).0))
goes-air flying scene nodes past (Unheard frame) are ticks begun fits keeps =
    lands-more scene.ticks flying past (Unheard frame) frame are (refl, refl) (sym ticks) (not-false (is_sent past frame) ((or_parts _ _ keeps).0))
goes-air flying scene nodes past other are ticks begun fits keeps = quiet-air flying past other are refl (no-fates (runs_ticks past))
  where
    no-fates : (b : Bool) → cond {A = List ℕ} b [] [] ≡ []
    no-fates true = refl
    no-fates false = refl
