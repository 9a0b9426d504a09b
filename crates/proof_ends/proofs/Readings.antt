-- How a transcript is read on over entries that stand beside, and what a reading says of how a Set or Get ended that is said last.
use Rattle.std.proofs.Common.{◌≡◌, ℕ, ◌&&◌, Bool, true, false, if◌then◌else◌, inl, inr, List, [], ◌∷◌, ◌++◌, refl, sym, ap, ◌∙◌, subst, append-nil, append_assoc}
use Rattle.std.specs.List.{AllByRecursion, flat_map}
use Rattle.std.proofs.lemmas.List.{append_cancel_right}
use Rattle.std.proofs.lemmas.Bool.{and_parts}
use Rattle.zw_base.proofs.Each.{all-append, all-right}
use Rattle.chip_functions.specs.declared.request.Request.{Request}
use Rattle.chip_functions.specs.declared.request.Request.TheVariants as requests
use Rattle.chip_functions.specs.declared.response.Response.{Response}
use Rattle.chip_functions.specs.declared.response.Response.TheVariants as responses
use Rattle.zw_words.specs.declared.side.Side.TheVariants.{Host}
use Rattle.zw_text.specs.declared.entry.Done.{Done as HowDone}
use Rattle.zw_text.specs.declared.entry.Entry.{Entry}
use Rattle.zw_text.specs.declared.entry.Entry.TheVariants as entry
use Rattle.law_time.specs.Ends.{ends_here}
use Rattle.law_time.specs.Judged.{last_of}
use Rattle.law_time.specs.Waking.{is_awake_sleeper, nodes_told}
use Rattle.law_time.specs.Requests.{asked}
use Rattle.proof_rests.specs.proof_requests.law_host.Ends.{answer_to, sleep_note, sleep_notes}
use Rattle.proof_rests.proofs.Opening.{last_is}
use Rattle.proof_ends.specs.Ends.{AnswerNotes, DoneNotes, EndNotes, GiveUps, GivesUp, InterviewNotes, OutcomeNotes, Reads, may_stand}
use Rattle.proof_ends.specs.Ends.GiveUps.{None_yet, One_more}
use Rattle.proof_ends.specs.Ends.Reads.{Starts, Stands, Asks, Ends, Passes, Ticks, Ticks_late, Restarts, Refuses}
use Rattle.proof_ends.proofs.Noting.{View, view}
use Rattle.proof_ends.proofs.Standing.{nothing_read}

-- ---- entries that stand beside

abbrev pub stand_all : Bool → List Entry → List Entry → Bool
stand_all over past [] = true
stand_all over past (e ∷ told) = may_stand over past e && stand_all over (past ++ e ∷ []) told

pub read_on : (over : Bool) (past told : List Entry) → stand_all over past told ≡ true → Reads over past → Reads over (past ++ told)
read_on over past [] all reads = nothing_read over past [] refl reads
read_on over past (e ∷ told) all reads =
    let (one, rest) = and_parts (may_stand over past e) (stand_all over (past ++ e ∷ []) told) all in
    subst (Reads over) (append_assoc past (e ∷ []) told) (read_on over (past ++ e ∷ []) told rest (Stands e refl one reads))

-- ---- the last entry

one_same : (x y : Entry) → x ∷ [] ≡ y ∷ [] → x ≡ y
one_same x y is = cc

same_last : (a b : List Entry) (x y : Entry) → a ++ x ∷ [] ≡ b ++ y ∷ [] → x ≡ y
same_last a b x y is = one_same x y (sym (last_is a x) ∙ ap (λ (l : List Entry). last_of l) is ∙ last_is b y)

same_front : (a b : List Entry) (x y : Entry) → a ++ x ∷ [] ≡ b ++ y ∷ [] → a ≡ b
same_front a b x y is = append_cancel_right a b (y ∷ []) (ap (λ (e : Entry). a ++ e ∷ []) (sym (same_last a b x y is)) ∙ is)

-- ---- notes that do not say how a Set or Get ended

abbrev NoDone : Entry → Type 0
NoDone (entry.Done node how) = ⊥
NoDone e = Unit {0}

none_last : (l past before : List Entry) (node : ℕ) (how : HowDone) → AllByRecursion NoDone l → past ++ entry.Done node how ∷ [] ≡ before ++ l → l ≡ []
none_last l past before node how all is = by (view l)
  where
    by : View l → l ≡ []
    by (inl none) = none
    by (inr (front, last, are)) =
        let e : Entry = entry.Done node how in
        let same : e ≡ last = same_last past (before ++ front) e last (is ∙ ap (λ (m : List Entry). before ++ m) are ∙ sym (append_assoc before front (last ∷ []))) in
        absurd (subst NoDone (sym same) (all-right NoDone front (last ∷ []) (subst (AllByRecursion NoDone) are all)).0)

sleep_none : (past : List Entry) (n : ℕ) → AllByRecursion NoDone (sleep_note past n)
sleep_none past n = by (is_awake_sleeper n past)
  where
    by : (b : Bool) → AllByRecursion NoDone (if b then entry.Asleep n ∷ [] else [])
    by true = (tt, tt)
    by false = tt

sleeps_none : (past : List Entry) (nodes : List ℕ) → AllByRecursion NoDone (flat_map (sleep_note past) nodes)
sleeps_none past [] = tt
sleeps_none past (n ∷ nodes) = all-append NoDone (sleep_note past n) (flat_map (sleep_note past) nodes) (sleep_none past n) (sleeps_none past nodes)

answered_none : (q : List Request) (r : List Response) → AllByRecursion NoDone (answer_to q r)
answered_none (requests.GetRoutingInfo node bad others id ∷ more) (responses.GetRoutingInfo nodes ∷ rest) = (tt, tt)
answered_none (requests.IsFailedNode node ∷ more) (responses.IsFailedNode has_failed ∷ rest) = (tt, tt)
answered_none q r = tt

as_none : (some are : List Entry) → some ≡ are → AllByRecursion NoDone are → AllByRecursion NoDone some
as_none some are is all = subst (AllByRecursion NoDone) (sym is) all

interview_none : (node : ℕ) (past some : List Entry) → InterviewNotes node past some → AllByRecursion NoDone some
interview_none node past some (inl (so, inl is)) = as_none some (entry.Interviewed node ∷ []) is (tt, tt)
interview_none node past some (inl (so, inr is)) = as_none some (entry.Unkept node ∷ []) is (tt, tt)
interview_none node past some (inr (so, is)) = as_none some (entry.InterviewFailed node ∷ []) is (tt, tt)

answer_none : (past some : List Entry) → AnswerNotes past some → AllByRecursion NoDone some
answer_none past some (inl (none, is)) = as_none some (answer_to _ _) is (answered_none _ _)
answer_none past some (inr (node, is, notes)) = interview_none node past some notes

gives_none : (past some : List Entry) (node : ℕ) → GivesUp past node some → AllByRecursion NoDone some
gives_none past some node (opened, command, last, is) = as_none some (entry.Out command _ ∷ sleep_note past node) is (tt, sleep_none past node)

outcome_none : (past some : List Entry) → OutcomeNotes past some → AllByRecursion NoDone some
outcome_none past some (inl none) = as_none some [] none tt
outcome_none past some (inr (carried, is, badly, gives)) = gives_none past some carried.node gives

chain_none : {past : List Entry} {last : ℕ} {notes : List Entry} → GiveUps past last notes → AllByRecursion NoDone notes
chain_none None_yet = tt
chain_none {past = past} (One_more {notes = notes} {all = all} node some are less gives rest) =
    as_none all (notes ++ some) are (all-append NoDone notes some (chain_none rest) (gives_none (past ++ notes) some node gives))

-- ---- where it is said last

abbrev pub SaidDone : List Entry → HowDone → Type 0
SaidDone past how = Reads false past × (ends_here past how ≡ true)

ended_done : (before notes past : List Entry) (node : ℕ) (how : HowDone) → EndNotes before notes → past ++ entry.Done node how ∷ [] ≡ before ++ notes → Reads false before
    → (before ≡ past ++ entry.Done node how ∷ [] → ⊥) → SaidDone past how
ended_done before notes past node how n is reads never = by n.done_so
  where
    rest : List Entry
    rest = sleep_notes before ++ (n.answer ++ n.outcome)

    whole : past ++ entry.Done node how ∷ [] ≡ (before ++ n.done) ++ rest
    whole = is ∙ ap (λ (l : List Entry). before ++ l) n.are ∙ sym (append_assoc before n.done rest)

    none : rest ≡ []
    none =
        none_last rest past (before ++ n.done) node how
        (all-append NoDone (sleep_notes before) (n.answer ++ n.outcome) (sleeps_none before (nodes_told (asked before).frame))
        (all-append NoDone n.answer n.outcome (answer_none before n.answer n.answer_so) (outcome_none before n.outcome n.outcome_so))) whole

    upto : past ++ entry.Done node how ∷ [] ≡ before ++ n.done
    upto = whole ∙ ap (λ (l : List Entry). (before ++ n.done) ++ l) none ∙ append-nil (before ++ n.done)

    same_how : (m : ℕ) (h : HowDone) → entry.Done node how ≡ entry.Done m h → h ≡ how
    same_how m h same = cc

    by : DoneNotes before n.done → SaidDone past how
    by (inl (asks, nothing)) = absurd (never (sym (upto ∙ ap (λ (l : List Entry). before ++ l) nothing ∙ append-nil before)))
    by (inr (m, h, asks, ends, are)) =
        let both : past ++ entry.Done node how ∷ [] ≡ before ++ entry.Done m h ∷ [] = upto ∙ ap (λ (l : List Entry). before ++ l) are in
        let front : past ≡ before = same_front past before (entry.Done node how) (entry.Done m h) both in
        subst (λ (l : List Entry). SaidDone l how) (sym front)
        (reads, subst (λ (k : HowDone). ends_here before k ≡ true) (same_how m h (same_last past before (entry.Done node how) (entry.Done m h) both)) ends)

not_false : false ≡ true → ⊥
not_false is = cc

pub last_done : {over : Bool} {told : List Entry} → Reads over told → (past : List Entry) (node : ℕ) (how : HowDone) → told ≡ past ++ entry.Done node how ∷ []
    → (over ≡ true) × Reads false past × (ends_here past how ≡ true)
last_done Starts past node how is = absurd (let bad : [] ≡ entry.Done node how ∷ [] = ap (λ (l : List Entry). last_of l) is ∙ last_is past (entry.Done node how) in cc)
last_done (Stands {over = over} {past = before} e are may reads) past node how is =
    let same : e ≡ entry.Done node how = same_last before past e (entry.Done node how) (sym are ∙ is) in
    absurd (not_false (subst (λ (d : Entry). may_stand over before d ≡ true) same may))
last_done (Asks {past = before} unit are new owes reads) past node how is =
    absurd (let bad : entry.Written Host unit ≡ entry.Done node how = same_last before past (entry.Written Host unit) (entry.Done node how) (sym are ∙ is) in cc)
last_done (Ends {past = before} notes are n now reads) past node how is =
    let so = ended_done before notes past node how n (sym is ∙ are) reads (λ same. not_false (last_done reads past node how same).0) in (refl, so.0, so.1)
last_done (Passes nothing reads) past node how is = absurd (not_false (last_done reads past node how is).0)
last_done (Ticks {over = over} {past = before} last notes are ticking gives reads) past node how is =
    let none : notes ≡ [] = none_last notes past before node how (chain_none gives) (sym is ∙ are) in
    last_done reads past node how (sym (append-nil before) ∙ ap (λ (l : List Entry). before ++ l) (sym none) ∙ sym are ∙ is)
last_done (Ticks_late {past = before} last ending notes are ticking n late gives reads) past node how is =
    let none : notes ≡ [] = none_last notes past (before ++ ending) node how (chain_none gives) (sym is ∙ are) in
    let upto : past ++ entry.Done node how ∷ [] ≡ before ++ ending = sym is ∙ are ∙ ap (λ (l : List Entry). (before ++ ending) ++ l) none ∙ append-nil (before ++ ending) in
    let so = ended_done before ending past node how n upto reads (λ same. not_false (last_done reads past node how same).0) in (refl, so.0, so.1)
last_done (Restarts {past = before} words are starts owes reads) past node how is =
    absurd (let bad : entry.Said words ≡ entry.Done node how = same_last before past (entry.Said words) (entry.Done node how) (sym are ∙ is) in cc)
last_done (Refuses {past = before} words refusal are starts owes reads) past node how is =
    absurd (let bad : entry.Refused refusal ≡ entry.Done node how =
    same_last (before ++ entry.Said words ∷ []) past (entry.Refused refusal) (entry.Done node how) (append_assoc before (entry.Said words ∷ []) (entry.Refused refusal ∷ []) ∙ sym are ∙ is) in cc)
