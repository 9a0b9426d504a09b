-- Where a frame of the chip is acknowledged each node gives a sign as the transcript tells, and nonces that it gives change nothing else.
use Rattle.std.proofs.Common.{◌≡◌, ℕ, ◌+◌, Bool, true, false, if◌then◌else◌, List, [], ◌∷◌, ◌++◌, refl, sym, ap, ap₂, ◌∙◌, subst, append_assoc}
use Rattle.std.specs.Prelude.{slice_index}
use Rattle.std.specs.List.{AllByRecursion, flat_map}
use Rattle.zw_base.proofs.Each.{all-weaker}
use Rattle.serial_frame.specs.declared.unit.TheConstants.{ACK}
use Rattle.zw_words.specs.declared.side.Side.TheVariants.{Host}
use Rattle.zw_text.specs.declared.entry.Entry.{Entry}
use Rattle.zw_text.specs.declared.entry.Entry.TheVariants as entry
use Rattle.host_heard.specs.declared.told.Told.{Told}
use Rattle.law_transcript.specs.Units.{Carried}
use Rattle.law_time.specs.Attempts.{Attempts, is_last_nonce, is_late, is_next_nonce, is_sign, nonce_told, waits_for_nonce, with_nonce, with_nonces, with_nonces_here, with_sign}
use Rattle.law_time.specs.Heeds.{Heeds, taken_here}
use Rattle.law_time.specs.Moments.{clock}
use Rattle.law_time.specs.Queue.{requests}
use Rattle.law_time.specs.Requests.{Asked, are_none}
use Rattle.host_node.specs.State.{NodeState}
use Rattle.host_node.specs.Steps.{after_sign}
use Rattle.host_node.specs.declared.series.Series.{Series}
use Rattle.host_node.specs.declared.series.Series.TheVariants.{Idle, Due, Running}
use Rattle.proof_queue.specs.proof_attempts.Attempts.{LastIs}
use Rattle.proof_queue.specs.proof_attempts.proof_requests.law_host.Heard.{heeds_alone}
use Rattle.proof_queue.specs.proof_attempts.proof_requests.proof_alone.Steps.{IsOfUnit}
use Rattle.proof_queue.proofs.proof_requests_Telling.{clock_same}
use Rattle.proof_giving.specs.Told.{LeavesAttempts, attempts_so_far}
use Rattle.proof_giving.specs.Tie.{NodeSo}
use Rattle.proof_giving.proofs.Asking.{mark_leaves}
use Rattle.proof_giving.proofs.NodesGo.{sign_so}
use Rattle.proof_giving.proofs.Told.{attempts_left, attempts_one, node_is}

-- ---- nonces

module _ (s : NodeState) (time : ℕ) (badly : Bool) where
  abbrev So : Attempts → Type 0
  So a = NodeSo a s time badly

  ready_so : (a : Attempts) (first : List ℕ) (count : ℕ) → So a → So (record a { ready = first; seen = count })
  ready_so a first count so =
      record { are = record { begun = so.are.begun; last = by s.series so.are.last }; sent = λ is. let was = so.sent is in record { some = was.some; segments = was.segments }; text = so.text }
    where
      by : (x : Series) → LastIs x s.book.attempts a s.attempt_wait time badly → LastIs x s.book.attempts (record a { ready = first; seen = count }) s.attempt_wait time badly
      by Idle last = tt
      by Due last = last
      by Running last = record { not_over = last.not_over; sign = last.sign; not_badly = last.not_badly }

  either : (b : Bool) (x y : Attempts) → So x → So y → So (if b then x else y)
  either true x y one other = one
  either false x y one other = other

  one_so : (a : Attempts) (nonce : List ℕ) → So a → So (with_nonce a nonce)
  one_so a nonce so =
      either (is_last_nonce a.seen nonce) (record a { ready = slice_index nonce 0 ∷ [] })
      (if is_next_nonce a.seen nonce then record a { ready = slice_index nonce 0 ∷ []; seen = a.seen + 1 } else a) (ready_so a (slice_index nonce 0 ∷ []) a.seen so)
      (either (is_next_nonce a.seen nonce) (record a { ready = slice_index nonce 0 ∷ []; seen = a.seen + 1 }) a (ready_so a (slice_index nonce 0 ∷ []) (a.seen + 1) so) so)

  all_so : (a : Attempts) (nonces : List (List ℕ)) → So a → So (with_nonces a nonces)
  all_so a [] so = so
  all_so a (nonce ∷ more) so = either (are_none a.ready) (with_nonces (with_nonce a nonce) more) a (all_so (with_nonce a nonce) more (one_so a nonce so)) so

  nonces_so : (heeds : Heeds) (past : List Entry) (last : Asked) (rest : List Entry) (a : Attempts) → So a → So (with_nonces_here heeds past last rest a)
  nonces_so heeds past last rest a so =
      either (waits_for_nonce heeds past last a) (with_nonces a (flat_map nonce_told (taken_here heeds a.node past rest))) a (all_so a (flat_map nonce_told (taken_here heeds a.node past rest)) so) so

-- ---- a frame

module _ (taken : List Entry → Carried → List Told) (n : ℕ) (past marks : List Entry) (now : ℕ) (s : NodeState) (badly : Bool) (marked : AllByRecursion IsOfUnit marks) (time : clock past ≡ now)
    (so : NodeSo (attempts_so_far (heeds_alone taken) n past) s now badly) where
  abbrev heeds : Heeds
  heeds = heeds_alone taken

  abbrev a : Attempts
  a = attempts_so_far heeds n past

  abbrev acked : List Entry
  acked = past ++ entry.Written Host (ACK ∷ []) ∷ []

  -- the node gives a sign here
  abbrev signs : Bool
  signs = is_sign heeds n a.own acked []

  later : clock acked ≡ now
  later = clock_same past (entry.Written Host (ACK ∷ []) ∷ []) (tt, tt) ∙ time

  signed_is : with_sign heeds acked [] a ≡ (if is_late now a then record a { over = true } else (if signs then record a { sign = now ∷ [] } else a))
  signed_is =
      ap₂ (λ (t k : ℕ). if is_late t a then record a { over = true } else (if is_sign heeds k a.own acked [] then record a { sign = t ∷ [] } else a)) later (node_is heeds n past)

  pub acked_so : NodeSo (attempts_so_far heeds n (past ++ entry.Written Host (ACK ∷ []) ∷ marks)) (if signs then after_sign s else s) now badly
  acked_so =
      subst (λ (l : List Entry). NodeSo (attempts_so_far heeds n l) (if signs then after_sign s else s) now badly) (append_assoc past (entry.Written Host (ACK ∷ []) ∷ []) marks)
      (subst (λ (b : Attempts). NodeSo b (if signs then after_sign s else s) now badly)
      (sym (attempts_left taken n acked marks (all-weaker IsOfUnit LeavesAttempts mark_leaves marks marked) ∙ attempts_one taken n past (entry.Written Host (ACK ∷ [])) tt))
      (nonces_so (if signs then after_sign s else s) now badly heeds acked (requests heeds past).last [] (with_sign heeds acked [] a)
      (subst (λ (b : Attempts). NodeSo b (if signs then after_sign s else s) now badly) (sym signed_is) (sign_so a s now badly so signs))))

-- whether the last request is of them stays
either_own : (b : Bool) (x y : Attempts) (o : Bool) → x.own ≡ o → y.own ≡ o → (if b then x else y).own ≡ o
either_own true x y o one other = one
either_own false x y o one other = other

one_own : (a : Attempts) (nonce : List ℕ) → (with_nonce a nonce).own ≡ a.own
one_own a nonce =
    either_own (is_last_nonce a.seen nonce) (record a { ready = slice_index nonce 0 ∷ [] })
    (if is_next_nonce a.seen nonce then record a { ready = slice_index nonce 0 ∷ []; seen = a.seen + 1 } else a) a.own refl
    (either_own (is_next_nonce a.seen nonce) (record a { ready = slice_index nonce 0 ∷ []; seen = a.seen + 1 }) a a.own refl refl)

all_own : (a : Attempts) (nonces : List (List ℕ)) → (with_nonces a nonces).own ≡ a.own
all_own a [] = refl
all_own a (nonce ∷ more) =
    either_own (are_none a.ready) (with_nonces (with_nonce a nonce) more) a a.own (all_own (with_nonce a nonce) more ∙ one_own a nonce) refl

pub acked_own : (taken : List Entry → Carried → List Told) (n : ℕ) (past marks : List Entry) → AllByRecursion IsOfUnit marks
    → (attempts_so_far (heeds_alone taken) n (past ++ entry.Written Host (ACK ∷ []) ∷ marks)).own ≡ (attempts_so_far (heeds_alone taken) n past).own
acked_own taken n past marks marked =
    let heeds : Heeds = heeds_alone taken in
    let a : Attempts = attempts_so_far heeds n past in
    let acked : List Entry = past ++ entry.Written Host (ACK ∷ []) ∷ [] in
    let signed : Attempts = with_sign heeds acked [] a in
    ap (λ (l : List Entry). (attempts_so_far heeds n l).own) (sym (append_assoc past (entry.Written Host (ACK ∷ []) ∷ []) marks))
    ∙ ap (λ (b : Attempts). b.own) (attempts_left taken n acked marks (all-weaker IsOfUnit LeavesAttempts mark_leaves marks marked) ∙ attempts_one taken n past (entry.Written Host (ACK ∷ [])) tt)
    ∙ either_own (waits_for_nonce heeds acked (requests heeds past).last signed) (with_nonces signed (flat_map nonce_told (taken_here heeds signed.node acked []))) signed signed.own
    (all_own signed (flat_map nonce_told (taken_here heeds signed.node acked []))) refl
    ∙ either_own (is_late (clock acked) a) (record a { over = true }) (if is_sign heeds a.node a.own acked [] then record a { sign = clock acked ∷ [] } else a) a.own refl
    (either_own (is_sign heeds a.node a.own acked []) (record a { sign = clock acked ∷ [] }) a a.own refl refl)
