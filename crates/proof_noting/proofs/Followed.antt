-- Where the course follows the host by what is under way in both: a request is under way in it where one is in the host, or an abort that is over.
use Rattle.std.specs.Prelude.{◌≤◌, Option, is_none}
use Rattle.std.specs.List.{AllByRecursion}
use Rattle.std.proofs.Common.{◌≡◌, ◌⊎◌, ℕ, Bool, true, false, if◌then◌else◌, inl, inr, List, [], ◌∷◌, ◌++◌, refl, sym, ap, ◌∙◌, subst}
use Rattle.zw_text.specs.declared.entry.Entry.{Entry}
use Rattle.zw_text.specs.declared.entry.Entry.TheVariants.{Time}
use Rattle.host_heard.specs.declared.told.Told.{Told}
use Rattle.host_requests.specs.declared.task.Purpose.TheVariants.{Abort}
use Rattle.host_requests.specs.declared.under_way.UnderWay.{UnderWay}
use Rattle.law_transcript.specs.Units.{Carried}
use Rattle.law_time.specs.Requests.{asked, judged_since, request_last}
use Rattle.proof_hearing.specs.Books.{BooksSo}
use Rattle.proof_hearing.specs.proof_queue.proof_attempts.proof_requests.law_host.Course.{Course, each_in_turn}
use Rattle.proof_hearing.specs.proof_queue.proof_attempts.proof_requests.law_host.Ends.{ends_sealing}
use Rattle.proof_hearing.specs.proof_queue.proof_attempts.proof_requests.law_host.Heard.{heeds_alone}
use Rattle.proof_hearing.specs.proof_queue.proof_attempts.proof_requests.law_host.HostLegal.{IsHeeded}
use Rattle.proof_hearing.specs.proof_queue.proof_attempts.proof_requests.proof_alone.State.{HostMachine}
use Rattle.proof_hearing.specs.proof_choice.proof_following.Quiet.{ended_silently}
use Rattle.proof_noting.specs.Following.{Follows, Lags, Level, timed}
use Rattle.proof_noting.specs.Ticking.{OverSo}
use Rattle.proof_noting.proofs.Aborts.{abort_unended}
use Rattle.proof_noting.proofs.Requested.{abort_sends}

-- as long as the last request is the same, and the host and the course have as much under way
pub over_on : (past later : List Entry) (m k : HostMachine) (c d : Course) → request_last later ≡ request_last past → k.state.requests.under_way ≡ m.state.requests.under_way → d.over ≡ c.over
    → OverSo past m c → OverSo later k d
over_on past later m k c d request under over (inl is) = inl (over ∙ is ∙ ap (λ (o : Option UnderWay). is_none o) (sym under))
over_on past later m k c d request under over (inr (running, none, (id, is))) = inr (over ∙ running, under ∙ none, (id, request ∙ is))

pub follows_by : (key : List ℕ) (taken : List Entry → Carried → List Told) (past : List Entry) (m : HostMachine) (c : Course) → c.fits ≡ true → c.due ≡ [] → c.ticked ≤ m.clock
    → AllByRecursion (IsHeeded taken) c.heeded → m.awaits ≡ false → OverSo past m c → BooksSo key (heeds_alone taken) past m.state c → Follows key taken past m c
follows_by key taken past m c fits none low heeded unnumbered over books = record { fits = fits; none_due = none; low = low; heeded = heeded; so = by over }
  where
    at : timed m past ≡ past
    at = ap (λ (b : Bool). if b then past ++ Time m.clock ∷ [] else past) unnumbered

    now : (d : Course) → BooksSo key (heeds_alone taken) past m.state d → BooksSo key (heeds_alone taken) (timed m past) m.state d
    now d so = subst (λ (l : List Entry). BooksSo key (heeds_alone taken) l m.state d) (sym at) so

    by : OverSo past m c → Level key (heeds_alone taken) past m c ⊎ Lags key (heeds_alone taken) past m c
    by (inl level) = inl (record { over = level; books = now c books })
    by (inr (running, idle, (id, request))) =
        let same : ended_silently past c ≡ record c { over = true }
        = ap (λ (l : List Carried). each_in_turn ends_sealing l (record c { over = true })) (abort_sends past id request) in
        inr (record {
          running = running;
          none = idle;
          purpose = Abort;
          id = id;
          request = request;
          carries = tt;
          well = tt;
          unended = abort_unended past id request true (judged_since (asked past));
          quiet = record { errands = refl; sleeps = refl; interviews = refl };
          books = subst (λ (d : Course). BooksSo key (heeds_alone taken) (timed m past) m.state d) (sym same) (now (record c { over = true }) books);
          why = inr (inr refl);
        })
