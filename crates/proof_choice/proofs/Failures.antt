-- How what the keeper has failed to keep in a tick goes on with entries.
use Rattle.std.proofs.Common.{◌≡◌, ℕ, ◌+◌, ◌≤◌, ◌==◌, ◌&&◌, ◌||◌, not, Bool, true, false, if◌then◌else◌, List, [], ◌∷◌, ◌++◌, refl, sym, ap, ap₂, ◌∙◌, subst, append-nil, append_assoc, arith}
use Rattle.std.specs.List.{AllByRecursion, list_any}
use Rattle.std.proofs.lemmas.Bool.{and_right, eq-eqb, ne_eqb}
use Rattle.zw_text.specs.declared.entry.Entry.{Entry}
use Rattle.zw_text.specs.declared.entry.Entry.TheVariants as entry
use Rattle.zw_text.specs.Transcript.{folded, line_of}
use Rattle.zw_text.proofs.Views.{folded-append}
use Rattle.law_transcript.specs.Lists.{shown_after}
use Rattle.law_transcript.specs.Restarts.{begins_refused, is_restart, since_restart, since_restart_from}
use Rattle.law_time.specs.Choice.{is_in_tick, unbegun_when, unkept_when}
use Rattle.law_time.specs.Judged.{after_step, is_following, last_of}
use Rattle.law_time.specs.Moments.{clock}
use Rattle.law_time.specs.Requests.{are_none}
use Rattle.host_node.specs.State.{NodeState}
use Rattle.proof_giving.proofs.Opening.{last_is}
use Rattle.proof_giving.proofs.proof_waking_Apart.{said_anew}
use Rattle.proof_giving.proofs.proof_requests_Judging.{or_false}
use Rattle.proof_choice.specs.Blocked.{BlockedSo}

shown_joined : (shows : List Entry → Entry → List ℕ) (start past told : List Entry) → shown_after shows start (past ++ told) ≡ shown_after shows start past ++ shown_after shows (start ++ past) told
shown_joined shows start [] told = ap (λ (l : List Entry). shown_after shows l told) (sym (append-nil start))
shown_joined shows start (e ∷ past) told =
    let next : List Entry = start ++ e ∷ [] in
    ap (λ (l : List ℕ). shows start e ++ l)
    (shown_joined shows next past told ∙ ap (λ (l : List Entry). shown_after shows next past ++ shown_after shows l told) (append_assoc start (e ∷ []) past))
    ∙ sym (append_assoc (shows start e) (shown_after shows next past) (shown_after shows (start ++ e ∷ past) told))

abbrev Shows : Type 0
Shows = List Entry → Entry → List ℕ

-- ---- entries that show nothing

shown_more : (shows : Shows) (start past told : List Entry) → shown_after shows (start ++ past) told ≡ [] → shown_after shows start (past ++ told) ≡ shown_after shows start past
shown_more shows start past told none =
    shown_joined shows start past told ∙ ap (λ (l : List ℕ). shown_after shows start past ++ l) none ∙ append-nil (shown_after shows start past)

in_tick_same : (shows : Shows) (past told : List Entry) (now : ℕ) → since_restart (past ++ told) ≡ since_restart past ++ told → ((before : List Entry) → shown_after shows before told ≡ [])
    → is_in_tick shows (past ++ told) now ≡ is_in_tick shows past now
in_tick_same shows past told now since none =
    ap₂ (λ (l k : List ℕ). not (are_none l) && list_any (λ tick. tick == now) (last_of k))
    (ap (λ (l : List Entry). shown_after shows [] l) since ∙ shown_more shows [] (since_restart past) told (none (since_restart past)))
    (shown_more shows [] past told (none past))

-- it tells of no failure of the keeper
abbrev pub IsKept : Entry → Type 0
IsKept (entry.Unkept node) = ⊥
IsKept e = Unit {0}

kept_none : (n : ℕ) (before told : List Entry) → AllByRecursion IsKept told → shown_after (unkept_when n) before told ≡ []
kept_none n before [] all = refl
kept_none n before (entry.Unkept node ∷ told) all = absurd all.0
kept_none n before (e ∷ told) all = kept_none n (before ++ e ∷ []) told all.1

begun_none : (n : ℕ) (before told : List Entry) → AllByRecursion IsKept told → shown_after (unbegun_when n) before told ≡ []
begun_none n before [] all = refl
begun_none n before (entry.Unkept node ∷ told) all = absurd all.0
begun_none n before (e ∷ told) all = begun_none n (before ++ e ∷ []) told all.1

abbrev ticks_of : ℕ → List Entry → List ℕ
ticks_of n past = shown_after (unbegun_when n) [] past

abbrev IsEarly : ℕ → List Entry → ℕ → Type 0
IsEarly n past time = are_none (ticks_of n (since_restart past)) ≡ false → AllByRecursion (λ tick. tick ≤ time) (last_of (ticks_of n past))

-- of no more sessions it is told that they were not kept
early_same : (n : ℕ) (past told : List Entry) (time : ℕ) → since_restart (past ++ told) ≡ since_restart past ++ told → shown_after (unbegun_when n) past told ≡ [] → shown_after (unbegun_when n) (since_restart past) told ≡ []
    → IsEarly n past time → IsEarly n (past ++ told) time
early_same n past told time since none also early =
    subst (λ (l : List ℕ). are_none (ticks_of n (since_restart (past ++ told))) ≡ false → AllByRecursion (λ tick. tick ≤ time) (last_of l)) (sym (shown_more (unbegun_when n) [] past told none))
    (λ some. early (sym (ap (λ (l : List ℕ). are_none l) (ap (λ (l : List Entry). ticks_of n l) since ∙ shown_more (unbegun_when n) [] (since_restart past) told also)) ∙ some))

-- by such entries a node stays so, and by a later time where it is not blocked
pub blocked_more : (n : ℕ) (past told : List Entry) (s t : NodeState) (time : ℕ) → since_restart (past ++ told) ≡ since_restart past ++ told → AllByRecursion IsKept told → t.blocked ≡ s.blocked
    → BlockedSo n past s time → BlockedSo n (past ++ told) t time
blocked_more n past told s t time since all same so = record {
  early = early_same n past told time since (begun_none n past told all) (begun_none n (since_restart past) told all) so.early;
  kept = λ is. in_tick_same (unkept_when n) past told time since (λ before. kept_none n before told all) ∙ so.kept (sym same ∙ is);
  free = λ is. in_tick_same (unbegun_when n) past told time since (λ before. begun_none n before told all) ∙ so.free (sym same ∙ is);
}

none_now : (ticks : List ℕ) (time : ℕ) → AllByRecursion (λ tick. tick ≤ time) ticks → list_any (λ tick. tick == time + 1) ticks ≡ false
none_now [] time all = refl
none_now (tick ∷ ticks) time all =
    let least = all.0 in
    ap₂ (λ (a b : Bool). a || b) (ne_eqb tick (time + 1) (λ same. absurd (omega (arith, same, least)))) (none_now ticks time all.1)

all_later : (ticks : List ℕ) (time : ℕ) → AllByRecursion (λ tick. tick ≤ time) ticks → AllByRecursion (λ tick. tick ≤ time + 1) ticks
all_later [] time all = tt
all_later (tick ∷ ticks) time all = (let least = all.0 in omega (arith, least), all_later ticks time all.1)

pub blocked_later : (n : ℕ) (past : List Entry) (s t : NodeState) (time : ℕ) → t.blocked ≡ false → BlockedSo n past s time → BlockedSo n past t (time + 1)
blocked_later n past s t time free so = record {
  early = λ some. all_later (last_of (ticks_of n past)) time (so.early some);
  kept = λ is. absurd (let bad : false ≡ true = sym free ∙ is in cc);
  free = λ is. by (are_none (ticks_of n (since_restart past))) refl;
}
  where
    by : (b : Bool) → are_none (ticks_of n (since_restart past)) ≡ b → (not b && list_any (λ tick. tick == time + 1) (last_of (ticks_of n past))) ≡ false
    by true none = refl
    by false some = none_now (last_of (ticks_of n past)) time (so.early some)

-- ---- where the host starts again

pub blocked_anew : (n : ℕ) (past : List Entry) (words : List ℕ) (s : NodeState) (time : ℕ) → is_restart (line_of (entry.Said words)) ≡ true → s.blocked ≡ false → BlockedSo n (past ++ entry.Said words ∷ []) s time
blocked_anew n past words s time anew free = record {
  early = λ some. absurd (let bad : true ≡ false = sym (ap (λ (l : List Entry). are_none (ticks_of n l)) (said_anew past words anew)) ∙ some in cc);
  kept = λ is. absurd (let bad : false ≡ true = sym free ∙ is in cc);
  free = λ is. ap (λ (l : List Entry). not (are_none (ticks_of n l)) && list_any (λ tick. tick == time) (last_of (ticks_of n (past ++ entry.Said words ∷ [])))) (said_anew past words anew);
}

-- ---- a failure

-- what stands after an acknowledgement is the same since the host started
restart_stops : (e : Entry) (rest : List Entry) (following : Bool) → (is_restart (line_of e) && not (begins_refused rest)) ≡ true → after_step following e ≡ false
restart_stops (entry.Said words) rest following is = and_right following false refl
restart_stops (entry.Written side unit) rest following is = absurd (let bad : false ≡ true = is in cc)
restart_stops e rest following is = absurd (let bad : false ≡ true = is in cc)

following_from : (before rest : List Entry) → is_following (since_restart_from before rest) ≡ folded after_step (is_following before) rest
following_from before [] = refl
following_from before (e ∷ rest) = by (is_restart (line_of e) && not (begins_refused rest)) refl (following_from [] rest) (following_from (before ++ e ∷ []) rest)
  where
    by : (b : Bool) → (is_restart (line_of e) && not (begins_refused rest)) ≡ b → is_following (since_restart_from [] rest) ≡ folded after_step false rest
        → is_following (since_restart_from (before ++ e ∷ []) rest) ≡ folded after_step (is_following (before ++ e ∷ [])) rest
        → is_following (since_restart_from (if b then [] else before ++ e ∷ []) rest) ≡ folded after_step (after_step (is_following before) e) rest
    by true is anew more = anew ∙ ap (λ (f : Bool). folded after_step f rest) (sym (restart_stops e rest (is_following before) is))
    by false is anew more = more ∙ ap (λ (f : Bool). folded after_step f rest) (folded-append after_step false before (e ∷ []))

pub following_since : (past : List Entry) → is_following (since_restart past) ≡ is_following past
following_since past = following_from [] past

not_none : (items : List ℕ) (item : ℕ) → not (are_none (items ++ item ∷ [])) ≡ true
not_none [] item = refl
not_none (first ∷ items) item = refl

unkept_at : (n k : ℕ) (before : List Entry) → (k == n) ≡ true → shown_after (unkept_when n) before (entry.Unkept k ∷ []) ≡ clock before ∷ []
unkept_at n k before same = ap (λ (b : Bool). (if b then clock before ∷ [] else []) ++ []) same

-- the keeper has failed for this node now
fails_now : (n k : ℕ) (past : List Entry) (time : ℕ) → (k == n) ≡ true → clock past ≡ time → since_restart (past ++ entry.Unkept k ∷ []) ≡ since_restart past ++ entry.Unkept k ∷ []
    → is_in_tick (unkept_when n) (past ++ entry.Unkept k ∷ []) time ≡ true
fails_now n k past time same now since =
    let shown : List ℕ = shown_after (unkept_when n) [] past in
    let after : shown_after (unkept_when n) [] (past ++ entry.Unkept k ∷ []) ≡ shown ++ clock past ∷ []
    = shown_joined (unkept_when n) [] past (entry.Unkept k ∷ []) ∙ ap (λ (l : List ℕ). shown ++ l) (unkept_at n k past same) in
    let later : shown_after (unkept_when n) [] (since_restart (past ++ entry.Unkept k ∷ [])) ≡ shown_after (unkept_when n) [] (since_restart past) ++ clock (since_restart past) ∷ []
    = ap (λ (l : List Entry). shown_after (unkept_when n) [] l) since ∙ shown_joined (unkept_when n) [] (since_restart past) (entry.Unkept k ∷ [])
    ∙ ap (λ (l : List ℕ). shown_after (unkept_when n) [] (since_restart past) ++ l) (unkept_at n k (since_restart past) same) in
    ap₂ (λ (l k : List ℕ). not (are_none l) && list_any (λ tick. tick == time) (last_of k)) later after
    ∙ ap₂ (λ (b : Bool) (l : List ℕ). b && list_any (λ tick. tick == time) l) (not_none (shown_after (unkept_when n) [] (since_restart past)) (clock (since_restart past))) (last_is shown (clock past))
    ∙ or_false (clock past == time) ∙ eq-eqb (clock past) time now

abbrev IsMore : List Entry → ℕ → Type 0
IsMore past k = since_restart (past ++ entry.Unkept k ∷ []) ≡ since_restart past ++ entry.Unkept k ∷ []

-- a failure of which it is told behind a frame begins no session
begun_behind : (n k : ℕ) (before : List Entry) → is_following before ≡ true → shown_after (unbegun_when n) before (entry.Unkept k ∷ []) ≡ []
begun_behind n k before follows = ap (λ (b : Bool). (if b then [] else (if k == n then clock before ∷ [] else [])) ++ []) follows

in_tick_two : (shows : Shows) (past told : List Entry) (now : ℕ) → since_restart (past ++ told) ≡ since_restart past ++ told → shown_after shows past told ≡ [] → shown_after shows (since_restart past) told ≡ []
    → is_in_tick shows (past ++ told) now ≡ is_in_tick shows past now
in_tick_two shows past told now since none also =
    ap₂ (λ (l k : List ℕ). not (are_none l) && list_any (λ tick. tick == now) (last_of k))
    (ap (λ (l : List Entry). shown_after shows [] l) since ∙ shown_more shows [] (since_restart past) told also) (shown_more shows [] past told none)

other_none : (n k : ℕ) (before : List Entry) → (k == n) ≡ false → shown_after (unkept_when n) before (entry.Unkept k ∷ []) ≡ []
other_none n k before other = ap (λ (b : Bool). (if b then clock before ∷ [] else []) ++ []) other

pub blocked_behind : (n k : ℕ) (past : List Entry) (s t : NodeState) (time : ℕ) → IsMore past k → is_following past ≡ true → clock past ≡ time → t.blocked ≡ s.blocked
    → BlockedSo n past s time → BlockedSo n (past ++ entry.Unkept k ∷ []) t time
blocked_behind n k past s t time since follows now same so = record {
  early = early_same n past (entry.Unkept k ∷ []) time since (begun_behind n k past follows) (begun_behind n k (since_restart past) (following_since past ∙ follows)) so.early;
  kept = λ is. by (k == n) refl is;
  free = λ is.
      in_tick_two (unbegun_when n) past (entry.Unkept k ∷ []) time since (begun_behind n k past follows) (begun_behind n k (since_restart past) (following_since past ∙ follows))
      ∙ so.free (sym same ∙ is);
}
  where
    by : (b : Bool) → (k == n) ≡ b → t.blocked ≡ true → is_in_tick (unkept_when n) (past ++ entry.Unkept k ∷ []) time ≡ true
    by true it is = fails_now n k past time it now since
    by false it is = in_tick_two (unkept_when n) past (entry.Unkept k ∷ []) time since (other_none n k past it) (other_none n k (since_restart past) it) ∙ so.kept (sym same ∙ is)

-- a session that is not kept to begin blocks its node
pub blocked_begin : (n k : ℕ) (past : List Entry) (s t : NodeState) (time : ℕ) → IsMore past k → clock past ≡ time → t.blocked ≡ (if k == n then true else s.blocked)
    → BlockedSo n past s time → BlockedSo n (past ++ entry.Unkept k ∷ []) t time
blocked_begin n k past s t time since now became so = by (k == n) refl became
  where
    last_one : (shown : List ℕ) → AllByRecursion (λ tick. tick ≤ time) (last_of (shown ++ clock past ∷ []))
    last_one shown = subst (λ (l : List ℕ). AllByRecursion (λ tick. tick ≤ time) l) (sym (last_is shown (clock past))) (omega (arith, now), tt)

    begun : (b following : Bool) → (k == n) ≡ b → is_following past ≡ following → shown_after (unbegun_when n) past (entry.Unkept k ∷ []) ≡ (if following then [] else (if b then clock past ∷ [] else []))
    begun b following it follows =
        ap₂ (λ (f c : Bool). (if f then [] else (if c then clock past ∷ [] else [])) ++ []) follows it ∙ append-nil (if following then [] else (if b then clock past ∷ [] else []))

    early_by : (following : Bool) → is_following past ≡ following → (k == n) ≡ true → IsEarly n (past ++ entry.Unkept k ∷ []) time
    early_by true follows it =
        early_same n past (entry.Unkept k ∷ []) time since (begun_behind n k past follows) (begun_behind n k (since_restart past) (following_since past ∙ follows)) so.early
    early_by false follows it = λ some.
        subst (λ (l : List ℕ). AllByRecursion (λ tick. tick ≤ time) (last_of l))
        (sym (shown_joined (unbegun_when n) [] past (entry.Unkept k ∷ []) ∙ ap (λ (l : List ℕ). ticks_of n past ++ l) (begun true false it follows))) (last_one (ticks_of n past))

    other_begun : (before : List Entry) → (k == n) ≡ false → shown_after (unbegun_when n) before (entry.Unkept k ∷ []) ≡ []
    other_begun before it = ap (λ (b : Bool). (if is_following before then [] else (if b then clock before ∷ [] else [])) ++ []) it ∙ either (is_following before)
      where
        either : (b : Bool) → ◌≡◌ {A = List ℕ} ((if b then [] else []) ++ []) []
        either true = refl
        either false = refl

    by : (b : Bool) → (k == n) ≡ b → t.blocked ≡ (if b then true else s.blocked) → BlockedSo n (past ++ entry.Unkept k ∷ []) t time
    by true it is = record {
      early = early_by (is_following past) refl it;
      kept = λ blocked. fails_now n k past time it now since;
      free = λ not_blocked. absurd (let bad : true ≡ false = sym is ∙ not_blocked in cc);
    }
    by false it is = record {
      early = early_same n past (entry.Unkept k ∷ []) time since (other_begun past it) (other_begun (since_restart past) it) so.early;
      kept = λ blocked.
          in_tick_two (unkept_when n) past (entry.Unkept k ∷ []) time since (other_none n k past it) (other_none n k (since_restart past) it) ∙ so.kept (sym is ∙ blocked);
      free = λ blocked.
          in_tick_two (unbegun_when n) past (entry.Unkept k ∷ []) time since (other_begun past it) (other_begun (since_restart past) it) ∙ so.free (sym is ∙ blocked);
    }
