-- How many new nonces a history has shown, frame by frame.
use Rattle.std.proofs.Common.{◌≡◌, ◌≢◌, ℕ, zero, suc, ◌+◌, ◌-◌, ◌<◌, ◌≤◌, ◌==◌, Bool, true, false, not, if◌then◌else◌, Option, Some, None, List, [], ◌∷◌, ◌++◌, length, take, refl, ap, sym, ◌∙◌, subst, ◌⊎◌, inl, inr, arith}
use Rattle.std.specs.Prelude.{◌&&◌, ◌||◌, ◌%◌, slice_index, nat_le, nat_eq}
use Rattle.std.specs.Cmp.Lexicographic.{pointwise}
use Rattle.std.proofs.Math.Seq.{take-length}
use Rattle.std.proofs.lemmas.Bool.{eq-eqb, eqb-true}
use Rattle.std.proofs.lemmas.Bool.Decides.{nat_tests}
use Rattle.air_frames.specs.declared.ages.Refusal.TheVariants.{Stale}
use Rattle.air_frames.specs.declared.frame.Departure.{Departure}
use Rattle.air_frames.specs.declared.frame.Heading.{Heading}
use Rattle.air_frames.specs.declared.frame.Heading.TheVariants.{Outward, Homeward}
use Rattle.air_frames.specs.Ages.{is_class, stale_by}
use Rattle.air_frames.specs.History.{Mark, Goes, Begins, same_heading, later_nonce, last_after, last_in, news_by, new_in, news_after}
use Rattle.air_frames.specs.Nonces.{nonce_in}
use Rattle.air_frames.proofs.Logs.{last_in-append, news_after-append}
use Rattle.proof_messages.specs.Numbers.{IsNonce}
use Rattle.proof_messages.specs.Payloads.{report_of, IsOffer}
use Rattle.proof_messages.specs.Shown.{IsLast, HasShown}
use Rattle.proof_messages.proofs.NonceNumbers.{one_nonce, nonce_stays}

-- ---- which nonce is news

ne_eqb : (a b : ℕ) → a ≢ b → nat_eq a b ≡ false
ne_eqb a b ne = by (nat_eq a b) refl
  where
    by : (r : Bool) → nat_eq a b ≡ r → nat_eq a b ≡ false
    by true e = absurd (ne (eqb-true a b e))
    by false e = e

same_bytes : (xs : List ℕ) → pointwise nat_eq xs xs ≡ true
same_bytes [] = refl
same_bytes (x ∷ xs) = ap (λ (b : Bool). b && pointwise nat_eq xs xs) (eq-eqb x x refl) ∙ same_bytes xs

other_bytes : (xs ys : List ℕ) → slice_index xs 0 ≢ slice_index ys 0 → pointwise nat_eq xs ys ≡ false
other_bytes [] [] ne = absurd (ne refl)
other_bytes [] (y ∷ ys) ne = refl
other_bytes (x ∷ xs) [] ne = refl
other_bytes (x ∷ xs) (y ∷ ys) ne = ap (λ (b : Bool). b && pointwise nat_eq xs ys) (ne_eqb x y ne)

next_differs : (number : ℕ) → number % 256 ≢ (number + 1) % 256
next_differs number e = omega (arith, e)

-- the nonce after the last, or the last again: one more, or none
adds_up : (nonces : List (List ℕ)) (before number : ℕ) (last : Option (List ℕ)) (nonce : List ℕ) → IsLast nonces before last → IsNonce nonces number nonce → 0 < number → before ≤ number → number ≤ before + 1
    → before + news_by last (Some nonce) ≡ number
adds_up nonces zero number last nonce e is some low high =
    subst (λ (o : Option (List ℕ)). 0 + news_by o (Some nonce) ≡ number) (sym e) (omega arith)
adds_up nonces (suc before) number last nonce (own, (e, was)) is some low high =
    subst (λ (o : Option (List ℕ)). suc before + news_by o (Some nonce) ≡ number) (sym e) (by (which before number low high))
  where
    which : (before number : ℕ) → suc before ≤ number → number ≤ suc before + 1 → (number ≡ suc before) ⊎ (number ≡ suc before + 1)
    which before number low high = grind arith

    by : (number ≡ suc before) ⊎ (number ≡ suc before + 1) → suc before + (if not (pointwise nat_eq own nonce) then 1 else 0) ≡ number
    by (inl again) =
        let same : own ≡ nonce = one_nonce nonces (suc before) own nonce was (subst (λ (n : ℕ). IsNonce nonces n nonce) again is) in
        let bytes : pointwise nat_eq own nonce ≡ true = subst (λ (n : List ℕ). pointwise nat_eq own n ≡ true) same (same_bytes own) in
        rw bytes (omega (arith, again))
    by (inr next) =
        let first : slice_index own 0 ≢ slice_index nonce 0 = λ e. next_differs (suc before) (sym was.first ∙ (e ∙ (is.first ∙ ap (λ (n : ℕ). n % 256) next))) in
        rw (other_bytes own nonce first) (omega (arith, next))

last_is : (nonces : List (List ℕ)) (number : ℕ) (nonce : List ℕ) → 0 < number → IsNonce nonces number nonce → IsLast nonces number (Some nonce)
last_is nonces zero nonce some is = absurd (omega (arith, some))
last_is nonces (suc before) nonce some is = (nonce, (refl, is))

report_has : (nonce : List ℕ) → length nonce ≡ 8 → nonce_in (report_of nonce) ≡ Some nonce
report_has nonce eight =
    let long : nat_le 10 (length (report_of nonce)) ≡ true = grind (arith, nat_tests, eight) in
    let all : take 8 nonce ≡ nonce = ap (λ (n : ℕ). take n nonce) (sym eight) ∙ take-length nonce in
    ap (λ (b : Bool). if b && true then Some (take 8 nonce) else None) long ∙ ap Some all

-- ---- one frame more

news_more : (node : ℕ) (log : List Mark) (d : Departure) → news_after node [] (log ++ Goes d ∷ []) ≡ news_after node [] log + new_in node log d
news_more node log d = let more = news_after-append node [] log (Goes d ∷ []) in omega (arith, more)

new_own : (node : ℕ) (log : List Mark) (d : Departure) → d.node ≡ node → new_in node log d ≡ news_by (last_in node d.heading None log) (nonce_in d.payload)
new_own node log d e = ap (λ (b : Bool). if b then news_by (last_in node d.heading None log) (nonce_in d.payload) else 0) (eq-eqb d.node node e)

new_other : (node : ℕ) (log : List Mark) (d : Departure) → d.node ≢ node → new_in node log d ≡ 0
new_other node log d other = ap (λ (b : Bool). if b then news_by (last_in node d.heading None log) (nonce_in d.payload) else 0) (ne_eqb d.node node other)

last_more : (node : ℕ) (heading : Heading) (log : List Mark) (d : Departure) → last_in node heading None (log ++ Goes d ∷ []) ≡ last_after node heading d (last_in node heading None log)
last_more node heading log d = last_in-append node heading None log (Goes d ∷ [])

last_own : (node : ℕ) (heading : Heading) (d : Departure) (before : Option (List ℕ)) → d.node ≡ node
    → last_after node heading d before ≡ (if same_heading d.heading heading then later_nonce (nonce_in d.payload) before else before)
last_own node heading d before e = ap (λ (b : Bool). if b && same_heading d.heading heading then later_nonce (nonce_in d.payload) before else before) (eq-eqb d.node node e)

last_other : (node : ℕ) (heading : Heading) (d : Departure) (before : Option (List ℕ)) → d.node ≢ node → last_after node heading d before ≡ before
last_other node heading d before other = ap (λ (b : Bool). if b && same_heading d.heading heading then later_nonce (nonce_in d.payload) before else before) (ne_eqb d.node node other)

pub first_shown : (node : ℕ) → HasShown node [] [] [] 0 0
first_shown node = record { count = refl; homeward = refl; outward = refl }

pub begins_shown : (node other : ℕ) (log : List Mark) (given shown : List (List ℕ)) (of_node of_host : ℕ) → HasShown node log given shown of_node of_host → HasShown node (log ++ Begins other ∷ []) given shown of_node of_host
begins_shown node other log given shown of_node of_host is =
    let more = news_after-append node [] log (Begins other ∷ []) in
    record {
      count = omega (arith, more, is.count);
      homeward = subst (λ (o : Option (List ℕ)). IsLast given of_node o) (sym (last_in-append node Homeward None log (Begins other ∷ []))) is.homeward;
      outward = subst (λ (o : Option (List ℕ)). IsLast shown of_host o) (sym (last_in-append node Outward None log (Begins other ∷ []))) is.outward;
    }

-- nothing is shown by a frame at which neither last nonce changes
quiet_shown : (node : ℕ) (log : List Mark) (given shown : List (List ℕ)) (of_node of_host : ℕ) (d : Departure) → HasShown node log given shown of_node of_host → new_in node log d ≡ 0
    → ((heading : Heading) → last_after node heading d (last_in node heading None log) ≡ last_in node heading None log) → HasShown node (log ++ Goes d ∷ []) given shown of_node of_host
quiet_shown node log given shown of_node of_host d is none same =
    let more = news_more node log d in
    record {
      count = omega (arith, more, none, is.count);
      homeward = subst (λ (o : Option (List ℕ)). IsLast given of_node o) (sym (last_more node Homeward log d ∙ same Homeward)) is.homeward;
      outward = subst (λ (o : Option (List ℕ)). IsLast shown of_host o) (sym (last_more node Outward log d ∙ same Outward)) is.outward;
    }

pub elsewhere_shown : (node : ℕ) (log : List Mark) (given shown : List (List ℕ)) (of_node of_host : ℕ) (d : Departure) → HasShown node log given shown of_node of_host → d.node ≢ node
    → HasShown node (log ++ Goes d ∷ []) given shown of_node of_host
elsewhere_shown node log given shown of_node of_host d is other =
    quiet_shown node log given shown of_node of_host d is (new_other node log d other) (λ heading. last_other node heading d (last_in node heading None log) other)

pub none_shown : (node : ℕ) (log : List Mark) (given shown : List (List ℕ)) (of_node of_host : ℕ) (d : Departure) → HasShown node log given shown of_node of_host → nonce_in d.payload ≡ None
    → HasShown node (log ++ Goes d ∷ []) given shown of_node of_host
none_shown node log given shown of_node of_host d is none = quiet_shown node log given shown of_node of_host d is (counts (d.node == node)) (λ heading. stays heading ((d.node == node) && same_heading d.heading heading))
  where
    counts : (b : Bool) → (if b then news_by (last_in node d.heading None log) (nonce_in d.payload) else 0) ≡ 0
    counts true = ap (λ (o : Option (List ℕ)). news_by (last_in node d.heading None log) o) none
    counts false = refl

    stays : (heading : Heading) (b : Bool) → (if b then later_nonce (nonce_in d.payload) (last_in node heading None log) else last_in node heading None log) ≡ last_in node heading None log
    stays heading true = ap (λ (o : Option (List ℕ)). later_nonce o (last_in node heading None log)) none
    stays heading false = refl

offer_has : (nonces : List (List ℕ)) (number : ℕ) (payload : List ℕ) (offer : IsOffer nonces number payload) → nonce_in payload ≡ Some offer.nonce
offer_has nonces number payload offer = ap nonce_in offer.text ∙ report_has offer.nonce offer.is.eight

-- the count of a frame of this heading with a nonce, and what is last in each heading then
own_news : (node : ℕ) (log : List Mark) (heading : Heading) (nonce : List ℕ) (d : Departure) → d.node ≡ node → d.heading ≡ heading → nonce_in d.payload ≡ Some nonce
    → new_in node log d ≡ news_by (last_in node heading None log) (Some nonce)
own_news node log heading nonce d own is has =
    new_own node log d own ∙ (ap (λ (h : Heading). news_by (last_in node h None log) (nonce_in d.payload)) is ∙ ap (λ (o : Option (List ℕ)). news_by (last_in node heading None log) o) has)

own_last : (node : ℕ) (log : List Mark) (at heading : Heading) (nonce : List ℕ) (d : Departure) → d.node ≡ node → d.heading ≡ heading → nonce_in d.payload ≡ Some nonce
    → last_in node at None (log ++ Goes d ∷ []) ≡ (if same_heading heading at then Some nonce else last_in node at None log)
own_last node log at heading nonce d own is has =
    last_more node at log d ∙ (last_own node at d (last_in node at None log) own
    ∙ (ap (λ (h : Heading). if same_heading h at then later_nonce (nonce_in d.payload) (last_in node at None log) else last_in node at None log) is
    ∙ ap (λ (o : Option (List ℕ)). if same_heading heading at then later_nonce o (last_in node at None log) else last_in node at None log) has))

pub homeward_shown : (node : ℕ) (log : List Mark) (given shown : List (List ℕ)) (of_node of_host number : ℕ) (d : Departure) → HasShown node log given shown of_node of_host → d.node ≡ node → d.heading ≡ Homeward
    → IsOffer given number d.payload → 0 < number → of_node ≤ number → number ≤ of_node + 1 → HasShown node (log ++ Goes d ∷ []) given shown number of_host
homeward_shown node log given shown of_node of_host number d is own way offer some low high =
    let has = offer_has given number d.payload offer in
    let more = news_more node log d in
    let new : new_in node log d ≡ news_by (last_in node Homeward None log) (Some offer.nonce) = own_news node log Homeward offer.nonce d own way has in
    let sum : of_node + news_by (last_in node Homeward None log) (Some offer.nonce) ≡ number = adds_up given of_node number (last_in node Homeward None log) offer.nonce is.homeward offer.is some low high in
    record {
      count = omega (arith, more, new, sum, is.count);
      homeward = subst (λ (o : Option (List ℕ)). IsLast given number o) (sym (own_last node log Homeward Homeward offer.nonce d own way has)) (last_is given number offer.nonce some offer.is);
      outward = subst (λ (o : Option (List ℕ)). IsLast shown of_host o) (sym (own_last node log Outward Homeward offer.nonce d own way has)) is.outward;
    }

pub outward_shown : (node : ℕ) (log : List Mark) (given shown : List (List ℕ)) (of_node of_host number : ℕ) (d : Departure) → HasShown node log given shown of_node of_host → d.node ≡ node → d.heading ≡ Outward
    → IsOffer shown number d.payload → 0 < number → of_host ≤ number → number ≤ of_host + 1 → HasShown node (log ++ Goes d ∷ []) given shown of_node number
outward_shown node log given shown of_node of_host number d is own way offer some low high =
    let has = offer_has shown number d.payload offer in
    let more = news_more node log d in
    let new : new_in node log d ≡ news_by (last_in node Outward None log) (Some offer.nonce) = own_news node log Outward offer.nonce d own way has in
    let sum : of_host + news_by (last_in node Outward None log) (Some offer.nonce) ≡ number = adds_up shown of_host number (last_in node Outward None log) offer.nonce is.outward offer.is some low high in
    record {
      count = omega (arith, more, new, sum, is.count);
      homeward = subst (λ (o : Option (List ℕ)). IsLast given of_node o) (sym (own_last node log Homeward Outward offer.nonce d own way has)) is.homeward;
      outward = subst (λ (o : Option (List ℕ)). IsLast shown number o) (sym (own_last node log Outward Outward offer.nonce d own way has)) (last_is shown number offer.nonce some offer.is);
    }

last_stays : (nonces more : List (List ℕ)) (number : ℕ) (last : Option (List ℕ)) → IsLast nonces number last → IsLast (nonces ++ more) number last
last_stays nonces more zero last is = is
last_stays nonces more (suc before) last (nonce, (e, is)) = (nonce, (e, nonce_stays nonces more (suc before) nonce is))

pub more_shown : (node : ℕ) (log : List Mark) (given shown new other : List (List ℕ)) (of_node of_host : ℕ) → HasShown node log given shown of_node of_host → HasShown node log (given ++ new) (shown ++ other) of_node of_host
more_shown node log given shown new other of_node of_host is = record {
  count = is.count;
  homeward = last_stays given new of_node (last_in node Homeward None log) is.homeward;
  outward = last_stays shown other of_host (last_in node Outward None log) is.outward;
}

-- ---- a frame that is not stale

not_old : (payload : List ℕ) (later nonces : ℕ) → is_class payload 0x98 ≡ true → stale_by payload later nonces ≡ None → nonces < 120
not_old payload later nonces class e = by (nat_le 62 later || (is_class payload 0x55 && nat_le 14 later)) (nat_le 120 nonces) refl
    (subst (λ (b : Bool). (if nat_le 62 later || (is_class payload 0x55 && nat_le 14 later) then Some (Stale later) else (if b && nat_le 120 nonces then Some (Stale nonces) else None)) ≡ None) class e)
  where
    by : (a b : Bool) → nat_le 120 nonces ≡ b → (if a then Some (Stale later) else (if true && b then Some (Stale nonces) else None)) ≡ None → nonces < 120
    by true b is none = absurd (grind (arith, none))
    by false true is none = absurd (grind (arith, none))
    by false false is none = grind (arith, nat_tests, is)

pub fresh_nonces : (payload : List ℕ) (later of_node of_host since_node since_host : ℕ) → is_class payload 0x98 ≡ true → since_node ≤ of_node → since_host ≤ of_host
    → stale_by payload later ((of_node + of_host) - (since_node + since_host)) ≡ None → (of_node < since_node + 120) × (of_host < since_host + 120)
fresh_nonces payload later of_node of_host since_node since_host class low below none =
    let few : (of_node + of_host) - (since_node + since_host) < 120 = not_old payload later ((of_node + of_host) - (since_node + since_host)) class none in
    (omega (arith, few, low, below), omega (arith, few, low, below))
