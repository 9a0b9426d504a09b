-- What a line asks of a host leaves each node tied to its attempts: a command that is accepted, or cancelled while it waits, a node that joins, and requests that are to wait.
use Rattle.std.proofs.Common.{◌≡◌, ℕ, ◌+◌, ◌≤◌, ◌<◌, Bool, false, if◌then◌else◌, List, [], ◌∷◌, ◌++◌, length, sym, ap, ◌∙◌, subst, append-nil, arith}
use Rattle.std.specs.List.{AllByRecursion}
use Rattle.zw_text.specs.declared.entry.Ended.TheVariants.{Cancelled}
use Rattle.zw_text.specs.declared.entry.Entry.{Entry}
use Rattle.zw_text.specs.declared.entry.Entry.TheVariants as entry
use Rattle.zw_text.specs.Transcript.{folded}
use Rattle.host_heard.specs.declared.told.Told.{Told}
use Rattle.law_transcript.specs.Units.{Carried}
use Rattle.law_time.specs.Attempts.{Attempts, anew}
use Rattle.law_time.specs.Heeds.{Heeds}
use Rattle.law_time.specs.Requests.{Asked}
use Rattle.law_time.specs.Sessions.{is_last_command}
use Rattle.host_node.specs.State.{NodeState}
use Rattle.host_model.specs.State.{HostState, node_of}
use Rattle.host_model.specs.After.{after, node_for}
use Rattle.host_model.specs.Events.{HostEvent, Accepts, Cancels, Joins, Queues, Queues_interview, Queues_probe}
use Rattle.host_model.specs.Facts.{HostFacts}
use Rattle.host_model.specs.May.{May}
use Rattle.host_model.specs.Outs.{answers}
use Rattle.host_model.specs.declared.out.HostOut.{HostOut}
use Rattle.proof_host.specs.Entries.{notes_of}
use Rattle.proof_host.specs.Facts.{Facts}
use Rattle.proof_queue.specs.proof_attempts.proof_requests.law_host.Heard.{heeds_alone}
use Rattle.proof_queue.specs.proof_attempts.proof_walk.ByLine.{IsAsked}
use Rattle.proof_queue.proofs.Doings.{did, does_at, node_after}
use Rattle.proof_queue.proofs.SeriesTie.{waits_still}
use Rattle.proof_queue.proofs.proof_requests_Telling.{IsQuiet, quiet_on}
use Rattle.proof_queue.proofs.InOrder.{asked_puts}
use Rattle.proof_giving.specs.Told.{attempts_so_far}
use Rattle.proof_giving.specs.Stays.{ShowsSessions}
use Rattle.proof_giving.specs.Tie.{AttemptsSo, NodeSo, anew_step, is_last_of}
use Rattle.proof_giving.proofs.Along.{goes_on}
use Rattle.proof_giving.proofs.Mild.{IsNoSign, mild_goes}
use Rattle.proof_giving.proofs.Orders.{event_keeps}
use Rattle.proof_giving.proofs.Staying.{IsCalm, calm_mild, calm_purpose, mild_fewer, mild_session}
use Rattle.proof_giving.proofs.Stays.{stays_quiet}
use Rattle.proof_giving.proofs.Told.{attempts_left, attempts_one, node_is}

asked_calm : (event : HostEvent) → IsAsked event → IsCalm event
asked_calm (Accepts order carriage) is = tt
asked_calm (Cancels command) is = tt
asked_calm (Joins n) is = tt
asked_calm (Queues task) is = tt
asked_calm (Queues_interview n) is = tt
asked_calm Queues_probe is = tt
asked_calm event is = absurd is

asked_unsigned : (event : HostEvent) → IsAsked event → IsNoSign event
asked_unsigned (Accepts order carriage) is = tt
asked_unsigned (Cancels command) is = tt
asked_unsigned (Joins n) is = tt
asked_unsigned (Queues task) is = tt
asked_unsigned (Queues_interview n) is = tt
asked_unsigned Queues_probe is = tt
asked_unsigned event is = absurd is

pub answers_quiet : (h : HostState) (event : HostEvent) → IsAsked event → AllByRecursion IsQuiet (answers h event)
answers_quiet h (Accepts order carriage) is = (tt, tt)
answers_quiet h (Cancels command) is = (tt, tt)
answers_quiet h (Joins n) is = tt
answers_quiet h (Queues task) is = tt
answers_quiet h (Queues_interview n) is = tt
answers_quiet h Queues_probe is = tt
answers_quiet h event is = absurd is

module _ (taken : List Entry → Carried → List Told) (n : ℕ) (to : n ≤ 232) (past : List Entry) (h : HostState) where
  abbrev heeds : Heeds
  heeds = heeds_alone taken

  abbrev so_far : List Entry → Attempts
  so_far past = attempts_so_far heeds n past

  nothing_told : so_far (past ++ []) ≡ so_far past
  nothing_told = ap so_far (append-nil past)

  -- a command that waits is that of no session
  pub answers_leave : (event : HostEvent) → IsAsked event → May h event → Facts past h → so_far (past ++ answers h event) ≡ so_far past
  answers_leave (Accepts order carriage) is may facts = attempts_left taken n past (entry.Accepted (length h.commands + 1) order.node ∷ []) (tt, tt)
  answers_leave (Cancels command) is may facts =
      attempts_one taken n past (entry.Out command Cancelled) tt ∙ ap (λ (k : ℕ). if is_last_command k past command then anew (so_far past) else so_far past) (node_is heeds n past)
      ∙ ap (λ (b : Bool). if b then anew (so_far past) else so_far past) (waits_still past h command (node_for h command) n facts may)
  answers_leave (Joins k) is may facts = nothing_told
  answers_leave (Queues task) is may facts = nothing_told
  answers_leave (Queues_interview k) is may facts = nothing_told
  answers_leave Queues_probe is may facts = nothing_told
  answers_leave event is may facts = absurd is

  pub asked_goes : (event : HostEvent) → IsAsked event → May h event → Facts past h → HostFacts (after h event) → ShowsSessions heeds past h n → ShowsSessions heeds (past ++ answers h event) (after h event) n → (now : ℕ)
      → AttemptsSo heeds n past h now now → AttemptsSo heeds n (past ++ answers h event) (after h event) now now
  asked_goes event is may facts others shows showing now so =
      let all = facts.host.nodes.places in
      let within : n < length h.nodes = omega (arith, all, to) in
      let quiet : AllByRecursion IsQuiet (answers h event) = answers_quiet h event is in
      goes_on taken n past (past ++ answers h event) h (after h event) now
      (record {
        under = calm_purpose h event (asked_calm event is);
        frame = λ own. ap (λ (a : Asked). a.frame) (quiet_on past (answers h event) quiet);
        ended = λ own none inner. stays_quiet inner past now (answers h event) (so.sends own).0 quiet;
        shows = shows;
        showing = showing;
        facts = facts.host;
        others = others;
        keeps = event_keeps h event n within (mild_session event (calm_mild event (asked_calm event is)));
        fewer = mild_fewer h event n within may (calm_mild event (asked_calm event is));
      }) false now (answers_leave event is may facts) so
      (λ badly tied.
      subst (λ (t : NodeState). NodeSo (so_far past) t now badly) (sym (node_after h event n within))
      (subst (λ (l : List HostOut). NodeSo (folded (anew_step (is_last_of (node_of h n))) (so_far past) (notes_of l)) (does_at n (node_of h n) (did h event)) now badly) (asked_puts h event is)
      (mild_goes h n facts.host (so_far past) now badly false event may (asked_unsigned event is) tied)))
