-- Each entry is found again from its text, so that no two have the same; and no text of an entry has a line feed.
use Rattle.std.proofs.Common.{◌≡◌, ℕ, ◌≤◌, eqb, ltb, le-ltb, length, Bool, true, false, cond, not, List, [], ◌∷◌, ◌++◌, get_or, codes, decimal, arith, ap, ap₂, refl, ◌∙◌}
use Rattle.std.specs.List.{AllByRecursion, join_with_byte, list_all}
use Rattle.std.proofs.lemmas.Bool.{and_from}
use Rattle.std.proofs.lemmas.List.Sums.{sum_by-cons}
use Rattle.hex.specs.Hex.{encode_upper}
use Rattle.zw_words.specs.declared.side.Side.TheVariants.{Host, Chip}
use Rattle.zw_text.specs.declared.entry.Refusal.{Refusal}
use Rattle.zw_text.specs.declared.entry.Refusal.TheVariants.{NotJoined, NotInterviewed, Unsupported, BadValue, Unsupervised, TooLong, MailboxFull, StoreFull, Secured, QueueFull as QueueIsFull, AlreadyJoined, KeeperFault, NotWaiting, NeverSent, Forgotten, Stale, NoDevice, BadRecord}
use Rattle.zw_text.specs.declared.entry.Entry.{Entry}
use Rattle.zw_text.specs.declared.entry.Entry.TheVariants.{Said, Accepted, Refused, Begin, Written, Dropped, Garbled, Overrun, Air, Heard, Lost, Unheard, Dev, Forget, Out, Store, Report, Unstored, Old, Unread, Awake, Asleep, Interviewed, InterviewFailed, Done, Neighbours, Failed, ChipFull, QueueFull, Device, Json, Held, Cleared, Unkept, Time, TableEnd, TableNode, TableValue, BadLine}
use Rattle.zw_base.specs.PropertyWord.{property_word}
use Rattle.zw_text.specs.Entry.{by_word, ends_word, entry_text, entry_words, number_word, number_words, refusal_words}
use Rattle.zw_text.specs.Fits.{AreBytes, EntryFits, IsEight, IsFour, IsNode, IsOneLine, RefusalFits, feeds}
use Rattle.zw_parse.specs.Reading.{air_back, at, back, but_last, by_back, class_back, command_back, eight_back, fate_back, four_back, last_of, node_back, node_row_back, node_word_back, nodes_back, option_back, parts, payload_back, refusal_back, refused_back, setting_back, side_row_back, text_back, text_of, unit_back, valued_back, value_back}
use Rattle.zw_parse.proofs.Pieces.{Lacks, Solid, all-lack, hex-back, hex-solid, lacks-append, number-lacks, number-solid, parts-at, parts-joined}
use Rattle.zw_parse.proofs.Words.{side-back, side-solid, ended-back, ended-solid, done-back, done-solid, fault-back, fault-solid, failed-back, failed-solid, node64, byte64, two64, four64, each, eight-back, four-back, two-back, byte-back, node-back, by-back, by-solid, option-back, option-solid, nodes-back, numbers-back, but-last-numbers, last-numbers, numbers-solid, solid_byte, property-back, property-solid, setting-back}

-- ---- refusals

refused-back : (r : Refusal) → RefusalFits r → refused_back (codes "refused" ∷ refusal_words r) ≡ Refused r
unfolding refused_back refusal_back valued_back class_back
refused-back NotJoined fits = refl
refused-back NotInterviewed fits = refl
refused-back (Unsupported class) fits = ap (λ (bytes : List ℕ). Refused (Unsupported (get_or bytes 0 0))) (hex-back (class ∷ []) (fits, tt))
refused-back BadValue fits = refl
refused-back Unsupervised fits = refl
refused-back (TooLong n) fits = ap (λ x. Refused (TooLong x)) (two-back n fits)
refused-back (MailboxFull n) fits = ap (λ x. Refused (MailboxFull x)) (byte-back n fits)
refused-back (StoreFull n) fits = ap (λ x. Refused (StoreFull x)) (two-back n fits)
refused-back Secured fits = refl
refused-back (QueueIsFull n) fits = ap (λ x. Refused (QueueIsFull x)) (byte-back n fits)
refused-back AlreadyJoined fits = refl
refused-back KeeperFault fits = refl
refused-back (NotWaiting n) fits = ap (λ x. Refused (NotWaiting x)) (four-back n fits)
refused-back NeverSent fits = refl
refused-back Forgotten fits = refl
refused-back (Stale n) fits = ap (λ x. Refused (Stale x)) (eight-back n fits)
refused-back NoDevice fits = refl
refused-back (BadRecord n) fits = ap (λ x. Refused (BadRecord x)) (eight-back n fits)

refusal-solid : (r : Refusal) → RefusalFits r → AllByRecursion Solid (refusal_words r)
refusal-solid NotJoined fits = (refl, tt)
refusal-solid NotInterviewed fits = (refl, tt)
refusal-solid (Unsupported class) fits = (refl, (hex-solid (class ∷ []) (fits, tt), tt))
refusal-solid BadValue fits = (refl, tt)
refusal-solid Unsupervised fits = (refl, tt)
refusal-solid (TooLong n) fits = (refl, (number-solid n (two64 n fits), tt))
refusal-solid (MailboxFull n) fits = (refl, (number-solid n (byte64 n fits), tt))
refusal-solid (StoreFull n) fits = (refl, (number-solid n (two64 n fits), tt))
refusal-solid Secured fits = (refl, tt)
refusal-solid (QueueIsFull n) fits = (refl, (number-solid n (byte64 n fits), tt))
refusal-solid AlreadyJoined fits = (refl, tt)
refusal-solid KeeperFault fits = (refl, tt)
refusal-solid (NotWaiting n) fits = (refl, (number-solid n (four64 n fits), tt))
refusal-solid NeverSent fits = (refl, tt)
refusal-solid Forgotten fits = (refl, tt)
refusal-solid (Stale n) fits = (refl, (number-solid n fits, tt))
refusal-solid NoDevice fits = (refl, tt)
refusal-solid (BadRecord n) fits = (refl, (number-solid n fits, tt))

-- ---- the two ends of a frame

abbrev ends_parts : List (List ℕ) → (frame : ℕ) → List ℕ → List ℕ → Entry
ends_parts ps frame repeaters payload = Air frame (node_back (at 0 ps)) (node_back (at 1 ps)) repeaters payload

ends-back : (a b frame : ℕ) (repeaters payload : List ℕ) → IsNode a → IsNode b → ends_parts (parts 62 (ends_word a b)) frame repeaters payload ≡ Air frame a b repeaters payload
ends-back a b frame repeaters payload low high =
    ap (λ (ps : List (List ℕ)). ends_parts ps frame repeaters payload) (parts-joined 62 (decimal a) (decimal b ∷ []) (number-lacks 62 a (omega arith) (node64 a low), (number-lacks 62 b (omega arith) (node64 b high), tt)))
    ∙ ap₂ (λ (x y : ℕ). Air frame x y repeaters payload) (node-back a low) (node-back b high)

payload-back : (p : List ℕ) → AreBytes p → length p ≤ 46 → payload_back (encode_upper p) ≡ p
unfolding payload_back
payload-back p are short =
    ap (λ (bytes : List ℕ). cond (ltb 46 (length bytes)) [] bytes) (hex-back p are)
    ∙ ap (λ t. cond t [] p) (le-ltb 46 (length p) short)

pub ends-solid : (a b : ℕ) → IsNode a → IsNode b → Solid (ends_word a b)
ends-solid a b low high =
    lacks-append solid_byte (decimal a) (codes ">" ++ decimal b) (number-solid a (node64 a low)) (number-solid b (node64 b high))

-- ---- entries

-- ---- each of them

-- an entry that is found again, and whose text has no line feed where what it took from outside has none
pub record Taken (e : Entry) : Type 0 where
  pub comes : text_back (entry_text e) ≡ e
  pub feedless : IsOneLine e → Lacks 10 (entry_text e)

join-lacks : (ws : List (List ℕ)) → AllByRecursion (Lacks 10) ws → Lacks 10 (join_with_byte 32 ws)
join-lacks [] lack = refl
join-lacks (x ∷ []) lack = lack.0
join-lacks (x ∷ y ∷ xs) lack = lacks-append (λ b. not (eqb b 10)) x (32 ∷ join_with_byte 32 (y ∷ xs)) lack.0 (join-lacks (y ∷ xs) lack.1)

by_words : (e : Entry) (w : List ℕ) (ws : List (List ℕ)) → entry_words e ≡ w ∷ ws → AllByRecursion Solid (w ∷ ws) → text_of (join_with_byte 32 (w ∷ ws)) (w ∷ ws) ≡ e → Taken e
unfolding entry_text
by_words e w ws are solid found =
    record {
      comes =
          ap (λ (vs : List (List ℕ)). text_back (join_with_byte 32 vs)) are
          ∙ ap (text_of (join_with_byte 32 (w ∷ ws))) (parts-joined 32 w ws (all-lack 32 (omega arith) (w ∷ ws) solid))
          ∙ found;
      feedless = λ one.
          ap (λ (vs : List (List ℕ)). list_all (λ b. not (eqb b 10)) (join_with_byte 32 vs)) are
          ∙ join-lacks (w ∷ ws) (all-lack 10 (omega arith) (w ∷ ws) solid);
    }

abbrev pub one_if : Bool → ℕ
one_if t = cond t 1 0

no-feeds : (text : List ℕ) → feeds text ≡ 0 → Lacks 10 text
no-feeds [] none = refl
no-feeds (b ∷ bs) none = step b bs none (λ rest. no-feeds bs rest) (eqb b 10) refl
  where
    step : (b : ℕ) (bs : List ℕ) → feeds (b ∷ bs) ≡ 0 → (feeds bs ≡ 0 → Lacks 10 bs) → (t : Bool) → eqb b 10 ≡ t → Lacks 10 (b ∷ bs)
    step b bs none further true e = absurd (omega (arith, sum_by-cons (λ y. cond (eqb y 10) 1 0) b bs, ap one_if e, none))
    step b bs none further false e =
        and_from (not (eqb b 10)) (list_all (λ x. not (eqb x 10)) bs) (ap not e)
        (further (omega (arith, sum_by-cons (λ y. cond (eqb y 10) 1 0) b bs, ap one_if e, none)))

free : (e : Entry) (w text : List ℕ) → entry_words e ≡ w ∷ text ∷ [] → Solid w → (IsOneLine e → feeds text ≡ 0) → ((ws : List (List ℕ)) → text_of (w ++ (32 ∷ text)) (w ∷ ws) ≡ e) → Taken e
unfolding entry_text
free e w text are solid one found =
    record {
      comes =
          ap (λ (vs : List (List ℕ)). text_back (join_with_byte 32 vs)) are
          ∙ ap (text_of (w ++ (32 ∷ text))) (parts-at 32 w text ((all-lack 32 (omega arith) (w ∷ []) (solid, tt)).0))
          ∙ found (parts 32 text);
      feedless = λ is.
          ap (λ (vs : List (List ℕ)). list_all (λ b. not (eqb b 10)) (join_with_byte 32 vs)) are
          ∙ join-lacks (w ∷ text ∷ []) ((all-lack 10 (omega arith) (w ∷ []) (solid, tt)).0, (no-feeds text (one is), tt));
    }

num : (n : ℕ) → IsEight n → Solid (decimal n)
num n fits = number-solid n fits

pub taken : (e : Entry) → EntryFits e → Taken e
unfolding text_of back unit_back node_word_back node_row_back value_back fate_back side_row_back command_back air_back
taken (Said text) fits = free (Said text) (codes ">") text refl refl (λ one. one) (λ ws. refl)
taken (Json text) fits = free (Json text) (codes "json") text refl refl (λ one. one) (λ ws. refl)
taken (Accepted c n) fits =
    by_words (Accepted c n) _ _ refl (refl, (num c (four64 c fits.0), (refl, (num n (node64 n fits.1), tt))))
    (ap₂ Accepted (four-back c fits.0) (node-back n fits.1))
taken (Refused r) fits = by_words (Refused r) _ _ refl (refl, refusal-solid r fits) (refused-back r fits)
taken (Begin n s c) fits =
    by_words (Begin n s c) _ _ refl (refl, (num n (node64 n fits.0), (num s fits.1, (num c (four64 c fits.2), tt))))
    (ap (λ x. Begin x (eight_back (decimal s)) (four_back (decimal c))) (node-back n fits.0) ∙ ap₂ (Begin n) (eight-back s fits.1) (four-back c fits.2))
taken (Written Host unit) fits = by_words (Written Host unit) _ _ refl (refl, (hex-solid unit fits, tt)) (ap (Written Host) (hex-back unit fits))
taken (Written Chip unit) fits = by_words (Written Chip unit) _ _ refl (refl, (hex-solid unit fits, tt)) (ap (Written Chip) (hex-back unit fits))
taken (Dropped side) fits = by_words (Dropped side) _ _ refl (refl, (side-solid side, tt)) (ap Dropped (side-back side))
taken (Garbled side unit) fits = by_words (Garbled side unit) _ _ refl (refl, (side-solid side, (hex-solid unit fits, tt))) (ap₂ Garbled (side-back side) (hex-back unit fits))
taken (Overrun side) fits = by_words (Overrun side) _ _ refl (refl, (side-solid side, tt)) (ap Overrun (side-back side))
taken (Air i a b r p) fits =
    let ws = number_words r (encode_upper p ∷ []) in
    by_words (Air i a b r p) _ _ refl (refl, (num i fits.0, (ends-solid a b fits.1 fits.2, (refl, numbers-solid r (encode_upper p ∷ []) (each IsNode IsEight node64 r fits.3) (hex-solid p fits.4, tt)))))
    (ends-back a b (eight_back (decimal i)) (nodes_back (but_last ws)) (payload_back (last_of ws)) fits.1 fits.2
    ∙ ap (λ x. Air x a b (nodes_back (but_last ws)) (payload_back (last_of ws))) (eight-back i fits.0)
    ∙ ap₂ (Air i a b) (ap nodes_back (but-last-numbers r (encode_upper p)) ∙ nodes-back r fits.3) (ap payload_back (last-numbers r (encode_upper p)) ∙ payload-back p fits.4 fits.5))
taken (Heard i) fits = by_words (Heard i) _ _ refl (refl, (num i fits, tt)) (ap Heard (eight-back i fits))
taken (Lost i) fits = by_words (Lost i) _ _ refl (refl, (num i fits, tt)) (ap Lost (eight-back i fits))
taken (Unheard i) fits = by_words (Unheard i) _ _ refl (refl, (num i fits, tt)) (ap Unheard (eight-back i fits))
taken (Dev n by s) fits =
    by_words (Dev n by s) _ _ refl (refl, (num n (node64 n fits.0), (by-solid by fits.1, (property-solid s.property fits.2.0, (num s.value (four64 s.value fits.2.1), tt)))))
    (ap (λ x. Dev x (by_back (by_word by)) (setting_back (property_word s.property) (decimal s.value))) (node-back n fits.0) ∙ ap₂ (Dev n) (by-back by fits.1) (setting-back s fits.2))
taken (Forget a b) fits =
    by_words (Forget a b) _ _ refl (refl, (num a (node64 a fits.0), (num b (node64 b fits.1), tt))) (ap₂ Forget (node-back a fits.0) (node-back b fits.1))
taken (Out c e) fits = by_words (Out c e) _ _ refl (refl, (num c (four64 c fits), (ended-solid e, tt))) (ap₂ Out (four-back c fits) (ended-back e))
taken (Store n s) fits =
    by_words (Store n s) _ _ refl (refl, (num n (node64 n fits.0), (property-solid s.property fits.1.0, (num s.value (four64 s.value fits.1.1), tt))))
    (ap₂ Store (node-back n fits.0) (setting-back s fits.1))
taken (Report n s) fits =
    by_words (Report n s) _ _ refl (refl, (num n (node64 n fits.0), (property-solid s.property fits.1.0, (num s.value (four64 s.value fits.1.1), tt))))
    (ap₂ Report (node-back n fits.0) (setting-back s fits.1))
taken (Unstored n p) fits = by_words (Unstored n p) _ _ refl (refl, (num n (node64 n fits.0), (property-solid p fits.1, tt))) (ap₂ Unstored (node-back n fits.0) (property-back p fits.1))
taken (Old n i) fits = by_words (Old n i) _ _ refl (refl, (num n (node64 n fits.0), (num i (byte64 i fits.1), tt))) (ap₂ Old (node-back n fits.0) (byte-back i fits.1))
taken (Unread n p) fits = by_words (Unread n p) _ _ refl (refl, (num n (node64 n fits.0), (hex-solid p fits.1, tt))) (ap₂ Unread (node-back n fits.0) (hex-back p fits.1))
taken (Awake n) fits = by_words (Awake n) _ _ refl (refl, (num n (node64 n fits), tt)) (ap Awake (node-back n fits))
taken (Asleep n) fits = by_words (Asleep n) _ _ refl (refl, (num n (node64 n fits), tt)) (ap Asleep (node-back n fits))
taken (Interviewed n) fits = by_words (Interviewed n) _ _ refl (refl, (num n (node64 n fits), tt)) (ap Interviewed (node-back n fits))
taken (InterviewFailed n) fits = by_words (InterviewFailed n) _ _ refl (refl, (num n (node64 n fits), (refl, tt))) (ap InterviewFailed (node-back n fits))
taken (Done n d) fits = by_words (Done n d) _ _ refl (refl, (num n (node64 n fits), (done-solid d, tt))) (ap₂ Done (node-back n fits) (done-back d))
taken (Neighbours n list) fits =
    let nodes = each IsNode IsEight node64 list fits.1 in
    by_words (Neighbours n list) _ _ refl (refl, (num n (node64 n fits.0), numbers-solid list [] nodes tt)) (ap₂ Neighbours (node-back n fits.0) (nodes-back list fits.1))
taken (Failed n b) fits = by_words (Failed n b) _ _ refl (refl, (num n (node64 n fits), (failed-solid b, tt))) (ap₂ Failed (node-back n fits) (failed-back b))
taken ChipFull fits = by_words ChipFull _ _ refl (refl, tt) refl
taken (QueueFull n) fits = by_words (QueueFull n) _ _ refl (refl, (num n (node64 n fits), tt)) (ap QueueFull (node-back n fits))
taken (Device n s) fits =
    by_words (Device n s) _ _ refl (refl, (num n (node64 n fits.0), (property-solid s.property fits.1.0, (num s.value (four64 s.value fits.1.1), tt))))
    (ap₂ Device (node-back n fits.0) (setting-back s fits.1))
taken (Held n) fits = by_words (Held n) _ _ refl (refl, (num n (node64 n fits), tt)) (ap Held (node-back n fits))
taken (Cleared side k) fits = by_words (Cleared side k) _ _ refl (refl, (side-solid side, (num k fits, tt))) (ap₂ Cleared (side-back side) (eight-back k fits))
taken (Unkept n) fits = by_words (Unkept n) _ _ refl (refl, (num n (node64 n fits), tt)) (ap Unkept (node-back n fits))
taken (Time i) fits = by_words (Time i) _ _ refl (refl, (num i fits, tt)) (ap Time (eight-back i fits))
taken (TableEnd i) fits = by_words (TableEnd i) _ _ refl (refl, (num i fits, tt)) (ap TableEnd (eight-back i fits))
taken (TableNode n list) fits =
    let numbers = each IsFour IsEight four64 list fits.1 in
    by_words (TableNode n list) _ _ refl (refl, (num n (node64 n fits.0), (refl, numbers-solid list [] numbers tt))) (ap₂ TableNode (node-back n fits.0) (numbers-back list fits.1))
taken (TableValue n p c h) fits =
    by_words (TableValue n p c h) _ _ refl (refl, (num n (node64 n fits.0), (property-solid p fits.1, (refl, (option-solid c fits.2, (refl, (option-solid h fits.3, tt)))))))
    (ap₂ (λ x q. TableValue x q (option_back (number_word c)) (option_back (number_word h))) (node-back n fits.0) (property-back p fits.1) ∙ ap₂ (TableValue n p) (option-back c fits.2) (option-back h fits.3))
taken (BadLine i f) fits = by_words (BadLine i f) _ _ refl (refl, (num i (four64 i fits), (fault-solid f, tt))) (ap₂ BadLine (four-back i fits) (fault-back f))
