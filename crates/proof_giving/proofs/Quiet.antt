-- Entries that leave the attempts of a node, time that passes, and where a session begins.
use Rattle.std.proofs.Common.{◌≡◌, ℕ, ◌+◌, ◌≤◌, ◌<◌, ◌==◌, ◌&&◌, Bool, true, false, if◌then◌else◌, List, [], ◌∷◌, ◌++◌, length, Option, Some, None, refl, sym, ap, ◌∙◌, subst, arith}
use Rattle.std.specs.Prelude.{IsSome, is_none}
use Rattle.std.specs.List.{AllByRecursion}
use Rattle.std.proofs.lemmas.Bool.{both_ways}
use Rattle.serial_frame.specs.declared.unit.Unit.{Unit as LineUnit}
use Rattle.zw_words.specs.declared.side.Side.TheVariants.{Chip}
use Rattle.zw_text.specs.declared.entry.Refusal.{Refusal}
use Rattle.zw_text.specs.declared.entry.Entry.{Entry}
use Rattle.zw_text.specs.declared.entry.Entry.TheVariants as entry
use Rattle.zw_text.specs.Transcript.{line_of}
use Rattle.host_heard.specs.declared.told.Told.{Told}
use Rattle.law_transcript.specs.Restarts.{is_restart}
use Rattle.law_transcript.specs.Units.{Carried}
use Rattle.law_time.specs.Attempts.{Attempts, anew, ends_badly}
use Rattle.law_time.specs.Heeds.{Heeds}
use Rattle.law_time.specs.Moments.{clock}
use Rattle.law_time.specs.Requests.{Asked, asked, is_answer}
use Rattle.host_requests.specs.declared.under_way.UnderWay.{UnderWay}
use Rattle.host_node.specs.State.{NodeState, is_idle, is_open as has_open, is_up, unknown}
use Rattle.host_node.specs.declared.series.Series.{Series}
use Rattle.host_node.specs.declared.series.Series.TheVariants.{Idle, Due, Running}
use Rattle.s0_crypto.specs.declared.key_pair.Keys.{Keys}
use Rattle.supervision.specs.Host.{open_session}
use Rattle.host_node.specs.Steps.{after_begin, after_restart, as_recorded, new_series}
use Rattle.host_model.specs.After.{after}
use Rattle.host_model.specs.Events.{Begins}
use Rattle.world_model.specs.Events.{OpensFrom}
use Rattle.host_model.specs.State.{HostState, node_of}
use Rattle.host_model.specs.Facts.{HostFacts}
use Rattle.proof_queue.specs.proof_attempts.Attempts.{IsSign, LastIs, has_ended_badly}
use Rattle.proof_queue.specs.proof_attempts.proof_requests.Asking.{Doing}
use Rattle.proof_queue.specs.proof_attempts.proof_requests.Standing.{IsAside, Standing, with_entries}
use Rattle.proof_queue.specs.proof_attempts.proof_requests.law_host.Heard.{heeds_alone}
use Rattle.proof_queue.specs.proof_attempts.proof_requests.proof_alone.Steps.{ChangesFrame, DidNotCome}
use Rattle.proof_queue.specs.proof_attempts.proof_requests.proof_waking.Judged.{TieFrames}
use Rattle.proof_queue.proofs.AttemptsGo.{over_later}
use Rattle.proof_queue.proofs.proof_requests_Growing.{asked_in_vain, asked_on, asked_said}
use Rattle.proof_queue.proofs.proof_requests_Telling.{IsQuiet, quiet_asides, quiet_on}
use Rattle.proof_giving.specs.Told.{LeavesAttempts, attempts_so_far}
use Rattle.proof_giving.specs.Stays.{KeepsSessions, ShowsSessions}
use Rattle.proof_giving.specs.Tie.{AttemptsAs, AttemptsSo, IsOver, NodeSo, has_text, is_badly_over, signed}
use Rattle.proof_giving.proofs.Along.{goes_on, masked_so, texts_run}
use Rattle.proof_giving.proofs.Badly.{badly_in}
use Rattle.proof_giving.proofs.Stays.{missed_lost, stays_answered, stays_in_vain, stays_on, stays_quiet, stays_said}
use Rattle.proof_giving.proofs.Told.{attempts_in_vain, attempts_left, attempts_one, attempts_said, attempts_start, node_is}
use Rattle.proof_giving.proofs.NodesGo.{begin_so, idle_so, restart_so}
use Rattle.proof_giving.proofs.Orders.{orders_kept}
use Rattle.proof_queue.proofs.Counting.{each_restarts}
use Rattle.proof_queue.proofs.Doings.{node_after}

-- ---- time

-- of a node without a wait
sign_none : (sign : List ℕ) (time : ℕ) → IsSign sign time 0 → IsSign sign (time + 1) 0
sign_none [] time is = refl
sign_none (tick ∷ more) time is = absurd (let some = is.1 in omega (arith, some))

pub no_wait_so : (a : Attempts) (s : NodeState) (time : ℕ) (badly : Bool) → s.attempt_wait ≡ 0 → NodeSo a s time badly → NodeSo a s (time + 1) badly
no_wait_so a s time badly none so = record { are = record { begun = so.are.begun; last = by s.series so.are.last }; sent = so.sent; text = so.text }
  where
    by : (x : Series) → LastIs x s.book.attempts a s.attempt_wait time badly → LastIs x s.book.attempts a s.attempt_wait (time + 1) badly
    by Idle last = tt
    by Due last = λ some. over_later a time badly badly (λ is. is) (last some)
    by Running last = record {
      not_over = last.not_over;
      sign = subst (λ (k : ℕ). IsSign a.sign (time + 1) k) (sym none) (sign_none a.sign time (subst (λ (k : ℕ). IsSign a.sign time k) none last.sign));
      not_badly = last.not_badly;
    }

module _ (taken : List Entry → Carried → List Told) (n : ℕ) where
  abbrev heeds : Heeds
  heeds = heeds_alone taken

  abbrev so_far : List Entry → Attempts
  so_far past = attempts_so_far heeds n past

  module _ (b : Bool) (past : List Entry) (h : HostState) (time now : ℕ) (so : AttemptsAs b heeds n past h time now) where
    -- once the last request has ended, at a later time
    pub later_so : (later : ℕ) → ((so_far past).own ≡ true → h.requests.under_way ≡ None → (inner : Bool) → ends_badly (asked past) inner later ≡ ends_badly (asked past) inner now)
        → AttemptsAs b heeds n past h time later
    later_so later stays = record {
      node = masked_so (so_far past) (signed b (node_of h n)) time (is_badly_over heeds n past h now) (is_badly_over heeds n past h later) (λ busy. by (so_far past).own refl) so.node;
      own = so.own;
      inner = so.inner;
      sends = so.sends;
      seals = so.seals;
    }
      where
        ended : (so_far past).own ≡ true → (o : Option UnderWay) → h.requests.under_way ≡ o
            → (is_none h.requests.under_way && has_ended_badly heeds past (asked past) later n) ≡ (is_none h.requests.under_way && has_ended_badly heeds past (asked past) now n)
        ended own None is = ap (λ (b : Bool). is_none h.requests.under_way && b) (stays own is _)
        ended own (Some u) is =
            ap (λ (o : Option UnderWay). is_none o && has_ended_badly heeds past (asked past) later n) is
            ∙ sym (ap (λ (o : Option UnderWay). is_none o && has_ended_badly heeds past (asked past) now n) is)

        by : (o : Bool) → (so_far past).own ≡ o → (o && is_badly_over heeds n past h later) ≡ (o && is_badly_over heeds n past h now)
        by true own = ended own h.requests.under_way refl
        by false own = refl

    -- ---- entries

    module _ (facts : HostFacts h) (shows : ShowsSessions heeds past h n) where
      keeps : KeepsSessions h h n
      keeps = record { commands = refl; opens = λ session is. is; orders = λ number c found. refl }

      same_host : (later : List Entry) → ShowsSessions heeds later h n → so_far later ≡ so_far past → ((so_far past).own ≡ true → (asked later).frame ≡ (asked past).frame)
          → ((so_far past).own ≡ true → h.requests.under_way ≡ None → (inner : Bool) → ends_badly (asked later) inner now ≡ ends_badly (asked past) inner now) → AttemptsAs b heeds n later h time now
      same_host later showing left frame ended =
          goes_on taken n past later h h now
          (record {
            under = record { none = refl; same = λ u is. (u, is, refl) };
            frame = frame;
            ended = ended;
            shows = shows;
            showing = showing;
            facts = facts;
            others = facts;
            keeps = keeps;
            fewer = record { runs = λ is. is; seals = λ is. is };
          }) b time left so (λ badly tie. tie)

      -- that its rules do not look at
      pub aside_so : (told : List Entry) → asked (past ++ told) ≡ with_entries (asked past) told → AllByRecursion IsAside told → AllByRecursion LeavesAttempts told
          → ShowsSessions heeds (past ++ told) h n → AttemptsAs b heeds n (past ++ told) h time now
      aside_so told on asides leaves showing =
          same_host (past ++ told) showing (attempts_left taken n past told leaves) (λ own. ap (λ (a : Asked). a.frame) on)
          (λ own none inner. stays_on inner past now told (so.sends own).0 on asides)

      -- the words of a line
      pub said_so : (words : List ℕ) → is_restart (line_of (entry.Said words)) ≡ false → ShowsSessions heeds (past ++ entry.Said words ∷ []) h n → AttemptsAs b heeds n (past ++ entry.Said words ∷ []) h time now
      said_so words goes_on showing =
          same_host (past ++ entry.Said words ∷ []) showing (attempts_said taken n past words goes_on) (λ own. ap (λ (a : Asked). a.frame) (asked_said past words goes_on))
          (λ own none inner. stays_said inner past now words (so.sends own).0 goes_on)

      pub vain_so : (words : List ℕ) (refusal : Refusal) → ShowsSessions heeds (past ++ entry.Said words ∷ (entry.Refused refusal ∷ [])) h n
          → AttemptsAs b heeds n (past ++ entry.Said words ∷ (entry.Refused refusal ∷ [])) h time now
      vain_so words refusal showing =
          same_host (past ++ entry.Said words ∷ (entry.Refused refusal ∷ [])) showing (attempts_in_vain taken n past words refusal) (λ own. ap (λ (a : Asked). a.frame) (asked_in_vain past words refusal))
          (λ own none inner. stays_in_vain inner past now words refusal (so.sends own).0)

      -- an answer of the chip, where the last request has ended once none is under way
      pub answered_so : (d : Doing) (unit : List ℕ) (came : List LineUnit) → (h.requests.under_way ≡ None → (so_far past).own ≡ true → IsOver past now d) → is_answer unit ≡ true → clock past ≡ now
          → TieFrames past came → ShowsSessions heeds (past ++ entry.Written Chip unit ∷ []) h n → AttemptsAs b heeds n (past ++ entry.Written Chip unit ∷ []) h time now
      answered_so d unit came over answers at frames showing =
          same_host (past ++ entry.Written Chip unit ∷ []) showing (attempts_left taken n past (entry.Written Chip unit ∷ []) (tt, tt))
          (λ own. ap (λ (a : Asked). a.frame) (asked_on past (entry.Written Chip unit ∷ []) refl (tt, tt)))
          (λ own none inner. stays_answered inner past now d (over none own) (so.sends own).1 unit came answers at frames)

      -- of others, of the host's notes or of time
      pub quiet_so : (told : List Entry) → AllByRecursion IsQuiet told → AllByRecursion LeavesAttempts told → ShowsSessions heeds (past ++ told) h n → AttemptsAs b heeds n (past ++ told) h time now
      quiet_so told quiet leaves showing = aside_so told (quiet_on past told quiet) (quiet_asides told quiet) leaves showing

      -- a unit of the chip does not come as it was written
      pub missed_so : (text : List ℕ) (marks : List Entry) → DidNotCome marks → ChangesFrame text marks → ShowsSessions heeds (past ++ entry.Written Chip text ∷ marks) h n
          → AttemptsAs b heeds n (past ++ entry.Written Chip text ∷ marks) h time now
      missed_so text marks did changes showing =
          let lost = missed_lost past text marks did changes in
          same_host (past ++ entry.Written Chip text ∷ marks) showing (attempts_left taken n past (entry.Written Chip text ∷ marks) (tt, lost.leaves))
          (λ own. ap (λ (a : Asked). a.frame) lost.on)
          (λ own none inner. ap (λ (a : Asked). ends_badly a inner now) lost.on ∙ ap (λ (s : Standing). badly_in inner s now) (lost.stands (so.sends own).0))

  -- ---- where a session begins

  module _ (past : List Entry) (h : HostState) (time now : ℕ) (so : AttemptsSo heeds n past h time now) where
    module _ (k session command : ℕ) (to : n < length h.nodes) (none : h.requests.under_way ≡ None) (facts : HostFacts h) (shows : ShowsSessions heeds past h n)
        (others : HostFacts (after h (Begins k session command))) (showing : ShowsSessions heeds (past ++ entry.Begin k session command ∷ []) (after h (Begins k session command)) n) where
      abbrev begun : Entry
      begun = entry.Begin k session command

      abbrev g : HostState
      g = after h (Begins k session command)

      told_is : so_far (past ++ begun ∷ []) ≡ (if k == n then anew (so_far past) else so_far past)
      told_is = attempts_one taken n past begun tt ∙ ap (λ (m : ℕ). if k == m then anew (so_far past) else so_far past) (node_is heeds n past)

      node_is_so : node_of g n ≡ (if k == n then after_begin (node_of h n) else node_of h n)
      node_is_so = node_after h (Begins k session command) n to

      same_frame : (asked (past ++ begun ∷ [])).frame ≡ (asked past).frame
      same_frame = ap (λ (a : Asked). a.frame) (quiet_on past (begun ∷ []) (tt, tt))

      none_under : {A : Type 0} (u : UnderWay) → h.requests.under_way ≡ Some u → A
      none_under u it = absurd (let no : ◌≡◌ {A = Option UnderWay} None (Some u) = sym none ∙ it in cc)

      of_it : (k == n) ≡ true → AttemptsSo heeds n (past ++ begun ∷ []) g time now
      of_it is =
          let told : so_far (past ++ begun ∷ []) ≡ anew (so_far past) = told_is ∙ ap (λ (b : Bool). if b then anew (so_far past) else so_far past) is in
          let node : node_of g n ≡ after_begin (node_of h n) = node_is_so ∙ ap (λ (b : Bool). if b then after_begin (node_of h n) else node_of h n) is in
          record {
            node = subst (λ (a : Attempts). NodeSo a (node_of g n) time (is_badly_over heeds n (past ++ begun ∷ []) g now)) (sym told)
                (subst (λ (s : NodeState). NodeSo (anew (so_far past)) s time (is_badly_over heeds n (past ++ begun ∷ []) g now)) (sym node)
                (begin_so (so_far past) (node_of h n) time (is_badly_over heeds n (past ++ begun ∷ []) g now) so.node.text));
            own = λ runs u it. none_under u it;
            inner = λ runs u more payload it purpose. none_under u it;
            sends = λ it. absurd (let no : false ≡ true = sym (ap (λ (a : Attempts). a.own) told) ∙ it in cc);
            seals = λ has. absurd (let bad : Due ≡ Running = sym (ap (λ (s : NodeState). s.series) node) ∙ texts_run (node_of g n) (others.nodes.facts n) has in cc);
          }

      of_others : (k == n) ≡ false → AttemptsSo heeds n (past ++ begun ∷ []) g time now
      of_others is =
          let told : so_far (past ++ begun ∷ []) ≡ so_far past = told_is ∙ ap (λ (b : Bool). if b then anew (so_far past) else so_far past) is in
          let node : node_of g n ≡ node_of h n = node_is_so ∙ ap (λ (b : Bool). if b then after_begin (node_of h n) else node_of h n) is in
          goes_on taken n past (past ++ begun ∷ []) h g now
          (record {
            under = record { none = refl; same = λ u it. (u, it, refl) };
            frame = λ own. same_frame;
            ended = λ own idle inner. stays_quiet inner past now (begun ∷ []) (so.sends own).0 (tt, tt);
            shows = shows;
            showing = showing;
            facts = facts;
            others = others;
            keeps = record {
              commands = ap (λ (s : NodeState). s.book.commands) node;
              opens = λ one opened. ap (λ (s : NodeState). open_session s.book) (sym node) ∙ opened;
              orders = λ number c found. orders_kept number h (Begins k session command) c found;
            };
            fewer = record {
              runs = λ is. ap (λ (s : NodeState). s.series) (sym node) ∙ is;
              seals = λ is. ap (λ (s : NodeState). has_text s) (sym node) ∙ is;
            };
          }) false time told so (λ badly tie. subst (λ (s : NodeState). NodeSo (so_far past) s time badly) (sym node) tie)

      pub begins_goes : AttemptsSo heeds n (past ++ begun ∷ []) g time now
      begins_goes = by (k == n) refl
        where
          by : (b : Bool) → (k == n) ≡ b → AttemptsSo heeds n (past ++ begun ∷ []) g time now
          by true is = of_it is
          by false is = of_others is

  -- the host starts
  pub starts_goes : (past : List Entry) (words : List ℕ) (keys : Keys) (records : Option (List (List ℕ))) (state : HostState) (time now : ℕ) → is_restart (line_of (entry.Said words)) ≡ true → IsSome records
      → OpensFrom keys records state → state.requests.under_way ≡ None → 1 ≤ n → AttemptsSo heeds n (past ++ entry.Said words ∷ []) state time now
  starts_goes past words keys records state time now anew_is told opens none from =
      let is : so_far (past ++ entry.Said words ∷ []) ≡ anew (so_far past) = attempts_start taken n past words anew_is in
      record {
        node = subst (λ (a : Attempts). NodeSo a (node_of state n) time (is_badly_over heeds n (past ++ entry.Said words ∷ []) state now)) (sym is)
            (each_restarts (λ s. NodeSo (anew (so_far past)) s time (is_badly_over heeds n (past ++ entry.Said words ∷ []) state now))
            (λ s. restart_so (so_far past) s time (is_badly_over heeds n (past ++ entry.Said words ∷ []) state now))
            (idle_so (anew (so_far past)) (unknown 0) time (is_badly_over heeds n (past ++ entry.Said words ∷ []) state now) refl refl
            (λ sealed bad. absurd (let no : ◌≡◌ {A = Option (List ℕ)} None (Some sealed) = bad in cc))) keys records state told opens n from);
        own = λ runs u it. none_under u it;
        inner = λ runs u more payload it purpose. none_under u it;
        sends = λ it. absurd (let no : false ≡ true = sym (ap (λ (a : Attempts). a.own) is) ∙ it in cc);
        seals = λ has. absurd (both_ways (has_text (node_of state n)) (each_restarts (λ (s : NodeState). has_text s ≡ false) restart_textless refl keys records state told opens n from) has);
      }
    where
      none_under : {A : Type 0} (u : UnderWay) → state.requests.under_way ≡ Some u → A
      none_under u it = absurd (let no : ◌≡◌ {A = Option UnderWay} None (Some u) = sym none ∙ it in cc)

      restart_textless : (s : NodeState) → has_text (after_restart s) ≡ false
      restart_textless s = by (has_open (as_recorded s) && is_up (as_recorded s) && is_idle (as_recorded s).series)
        where
          by : (c : Bool) → has_text (if c then new_series (as_recorded s) else as_recorded s) ≡ false
          by true = refl
          by false = refl
