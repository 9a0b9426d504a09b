-- A host that starts again has no request under way, and the books that its course has restarted.
use Rattle.std.proofs.Common.{◌≡◌, ℕ, Option, None, inl, List, [], ◌++◌, refl, sym, ap, subst, append-nil}
use Rattle.std.specs.Prelude.{is_none}
use Rattle.chip_functions.specs.Field.{IsNode}
use Rattle.serial_link.specs.State.{Side}
use Rattle.zw_text.specs.declared.line.Line.TheVariants as lines
use Rattle.zw_text.specs.declared.entry.Entry.{Entry}
use Rattle.host_heard.specs.declared.told.Told.{Told}
use Rattle.law_transcript.specs.Units.{Carried}
use Rattle.host_requests.specs.State.{RequestsState}
use Rattle.host_requests.specs.declared.under_way.UnderWay.{UnderWay}
use Rattle.host_model.specs.State.{HostState, node_of}
use Rattle.proof_messages.proofs.SealedTexts.{IsBare}
use Rattle.proof_hearing.specs.proof_queue.proof_attempts.proof_requests.law_host.Course.{restarted}
use Rattle.proof_hearing.specs.proof_queue.proof_attempts.proof_requests.law_host.Heard.{heeds_alone}
use Rattle.proof_hearing.specs.proof_queue.proof_attempts.proof_requests.proof_alone.Phases.{Asked, Phase}
use Rattle.proof_hearing.specs.proof_queue.proof_attempts.proof_requests.proof_alone.State.{HostMachine}
use Rattle.proof_hearing.specs.proof_queue.proof_attempts.proof_requests.proof_alone.Steps.{Restarts}
use Rattle.proof_hearing.specs.proof_queue.proof_attempts.proof_requests.proof_alone.Tables.{TieTables}
use Rattle.proof_hearing.proofs.Accounts.{SameAccount, restart_same}
use Rattle.proof_hearing.proofs.Alike.{Cleared}
use Rattle.proof_hearing.proofs.Around.{books_restarted}
use Rattle.proof_hearing.proofs.Queueing.{opened_asks}
use Rattle.proof_hearing.proofs.Counting.{each_starts}
use Rattle.proof_hearing.proofs.ReadyStarts.{GiveOne, seen_starts}
use Rattle.proof_noting.specs.Behind.{AtOpen}
use Rattle.proof_noting.specs.Following.{CourseOf, Outset, timed}
use Rattle.proof_noting.specs.Ground.{GroundAlong, NotingGround}
use Rattle.proof_noting.specs.Noting.{Anew, KnowsCourse}
use Rattle.proof_noting.specs.Steps.{StepFollows, first_of}
use Rattle.proof_noting.proofs.Surely.{sure_step}

pub starts_again : GiveOne → (key : List ℕ) (taken : List Entry → Carried → List Told) (from : Outset) → GroundAlong taken (first_of key) → (next : Phase) (past : List Entry) (m : HostMachine) (state : HostState)
    → StepFollows key taken from (Asked lines.Restart) past m (Restarts state) next
starts_again one key taken from along next past m state sure step may known =
    subst (λ (p : Phase). KnowsCourse key taken from (first_of key) p (past ++ []) (record m { state = state; came = [] })) (sym may.2) open_so
  where
    anew : Anew key taken from past m
    anew = known.anew refl

    now : NotingGround taken next (past ++ []) (record m { state = state; came = [] })
    now = along next (past ++ []) (record m { state = state; came = [] }) (sure_step taken (first_of key) sure (Restarts state) may step)

    old_tables : TieTables past m.state m.records
    old_tables = (along (Asked lines.Restart) past m sure).asks.0.0.0.0.0.0.0

    new_tables : TieTables (past ++ []) state m.records
    new_tables = now.asks.0.0.0.0.0.0.0

    none_asked : state.requests.under_way ≡ None
    none_asked = ap (λ (p : Side × RequestsState). p.1.under_way) (opened_asks m.keys m.records state old_tables.told may.1)

    nothing_waits : state.requests.queue ≡ []
    nothing_waits = ap (λ (p : Side × RequestsState). p.1.queue) (opened_asks m.keys m.records state old_tables.told may.1)

    accounts : (k : ℕ) → SameAccount m.state.nonces state.nonces k
    accounts k = restart_same one past (past ++ []) m.state state m.records old_tables new_tables k

    none_sealed : (k : ℕ) → IsNode k → IsBare (node_of state k)
    none_sealed k is = each_starts IsBare (λ s. (refl, refl)) (λ s. (refl, refl)) (refl, refl) m.keys m.records state old_tables.told may.1 k is.0

    cleared : (k : ℕ) → IsNode k → Cleared (node_of m.state k) (node_of state k)
    cleared k is = record { seen = seen_starts one m.state state m.records old_tables.told old_tables.held new_tables.held k; text = (none_sealed k is).0; pending = (none_sealed k is).1 }

    open_so : AtOpen key taken from (past ++ []) (record m { state = state; came = [] })
    open_so = record {
      course = restarted anew.course;
      of = subst (λ (l : List Entry). CourseOf (heeds_alone taken) from l (restarted anew.course)) (sym (append-nil past)) anew.of;
      follows = record {
        fits = anew.fits;
        none_due = anew.none_due;
        low = anew.low;
        heeded = anew.heeded;
        so = inl (record {
          over = sym (ap (λ (o : Option UnderWay). is_none o) none_asked);
          books = books_restarted key (heeds_alone taken) anew.somewhere (timed (record m { state = state; came = [] }) (past ++ [])) m.state state anew.course accounts nothing_waits cleared anew.books;
        });
      };
      answered = inl tt;
    }
