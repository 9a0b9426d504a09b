-- What the host of `host` hears at its steps (this project's own rule). A line is its words, and one that was refused has its refusal. Bytes that were read are
-- the word `chip`, which is no line, and what came in them; a tick is a line `tick 1`; and a start from records is a line `restart` after what
-- hosts heard before.
use Rattle.std.specs.Prelude.{◌≡◌, ℕ, ◌+◌, Bool, true, false, List, [], ◌∷◌, ◌++◌, codes, Option, Some, None, IsSome}
use Rattle.std.specs.List.{flat_map}
use Rattle.s0_crypto.specs.declared.key_pair.Keys.{Keys}
use Rattle.zw_words.specs.declared.side.Side.TheVariants.{Host}
use Rattle.law_wire.specs.Links.{KeepsLink}
use Rattle.law_wire.specs.Serial.{ended}
use Rattle.zw_text.specs.Line.{first_word}
use Rattle.zw_text.specs.Transcript.{line_of}
use Rattle.zw_text.specs.declared.line.Line.{Line}
use Rattle.zw_text.specs.declared.entry.Entry.{Entry}
use Rattle.zw_text.specs.declared.entry.Entry.TheVariants.{Said}
use Rattle.zw_text.specs.declared.entry.Entry.TheVariants as entry
use Rattle.zw_text.specs.declared.entry.Refusal.{Refusal}
use Rattle.port_run.specs.host_core.Network.{keys_of}
use Rattle.host_model.specs.State.{HostState}
use Rattle.host_model.specs.Outs.{answers}
use Rattle.host_model.specs.declared.out.HostOut.{HostOut}
use Rattle.port_run.specs.Lines.{is_served}
use Rattle.port_run.specs.Steps.{Place, Step, Asks, Takes, Rests, Ticks, Pumps, Ran, asked_by}
use Rattle.port_run.specs.declared.asking.Answer.TheVariants.{Refused}
use Rattle.port_run.specs.declared.line.PortLine.{PortLine}
use Rattle.port_run.specs.declared.line.PortLine.TheVariants.{Plain, Wait}
use Rattle.world_model.specs.Refusals.{IsRefused}
use Rattle.run_replay.specs.Machine.{Lone, alone, entries_of, timed}
use Rattle.proof_asking.specs.proof_requests.law_host.HostLegal.{IsLegalAlone}
use Rattle.proof_asking.specs.proof_requests.law_host.Notes.{Start, first_start}
use Rattle.proof_asking.specs.proof_requests.law_host.Starting.{IsLegalFrom, StartsFrom}
use Rattle.proof_asking.specs.proof_requests.proof_alone.State.{HostMachine, first_alone, host_machine}
use Rattle.proof_asking.specs.proof_requests.proof_alone.Phases.{Phase, Resting}
use Rattle.proof_asking.specs.proof_requests.proof_alone.Runs.{Run}
use Rattle.proof_asking.specs.proof_requests.proof_alone.Careful.{Careful, RunCarefully}
use Rattle.proof_asking.specs.proof_known.Known.{AreForHost, AreSaidToHost}
use Rattle.proof_noting.specs.Starts.{HasStarted}
use Rattle.proof_replay.specs.Heard.{came_of}
use Rattle.proof_replay.specs.Linked.{LineRests}
use Rattle.proof_replay.specs.Laws.{Agrees, HostsKeepLaws}

-- ---- words

abbrev pub chip_word : List ℕ
chip_word = codes "chip"

abbrev pub tick_words : List ℕ
tick_words = codes "tick 1"

abbrev pub restart_word : List ℕ
restart_word = codes "restart"

-- a line that speaks to the host, and some words of it
abbrev pub IsServed : Line → Type 0
IsServed line = (words : List ℕ) × (line_of (Said words) ≡ line ∷ []) × (is_served (first_word line) ≡ true)

-- a wait has none
abbrev pub IsServedLine : PortLine → Type 0
IsServedLine (Plain line) = IsServed line
IsServedLine (Wait ticks) = Unit {0}

-- ---- steps

-- a step, and the pump that follows it, with what the host put out at each
pub record WithPump (step : Step) (old new : Place) : Type 0 where
  pub mid : Place
  pub first : List HostOut
  pub rest : List HostOut
  pub ran : Ran step old mid first
  pub pumped : Ran Pumps mid new rest

-- the host at a place, after so many ticks
abbrev pub lone_at : Place → ℕ → Lone
lone_at place clock = record { host = place.host; clock = clock; records = place.shelf.records }

-- what is heard of them
abbrev pub HearsPart : ℕ → (step : Step) (old new : Place) → WithPump step old new → List Entry → Type 0
HearsPart clock (Asks line Refused) old new both part =
    (words : List ℕ) × (line_of (Said words) ≡ line ∷ []) × (refusal : Refusal) × IsRefused (alone (lone_at old clock)) line refusal
    × (part ≡ Said words ∷ (entry.Refused refusal ∷ entries_of both.rest))
HearsPart clock (Asks line answer) old new both part =
    (words : List ℕ) × (line_of (Said words) ≡ line ∷ []) × (part ≡ Said words ∷ (flat_map (answers old.host.state) (asked_by old.host.state line) ++ entries_of both.rest))
HearsPart clock (Takes bytes) old new both part =
    part ≡ Said chip_word ∷ (came_of both.ran.items (old.host.decoder.bytes ++ bytes) ++ (entries_of both.first ++ entries_of both.rest))
HearsPart clock Ticks old new both part = part ≡ Said tick_words ∷ timed (clock + 1) (both.first ++ both.rest)
HearsPart clock Rests old new both part = ⊥
HearsPart clock Pumps old new both part = ⊥

abbrev pub clock_after : Step → ℕ → ℕ
clock_after Ticks clock = clock + 1
clock_after step clock = clock

-- Steps were done one after another, and this was heard. Where they were cut short after a step, nothing of that one is heard.
abbrev pub HearsSteps : ℕ → List Step → Place → Place → List Entry → Type 0
HearsSteps clock [] old new heard = (new ≡ old) × (heard ≡ [])
HearsSteps clock (Rests ∷ steps) old new heard = HearsSteps clock steps old new heard
HearsSteps clock (step ∷ Pumps ∷ steps) old new heard =
    (mid : Place) × (both : WithPump step old mid) × (part more : List Entry) × HearsPart clock step old mid both part
    × HearsSteps (clock_after step clock) steps mid new more × (heard ≡ part ++ more)
HearsSteps clock (step ∷ []) old new heard = heard ≡ []
HearsSteps clock (step ∷ other ∷ steps) old new heard = ⊥

-- all of a run, which begins with a pump
abbrev pub HearsRun : ℕ → List Step → Place → Place → List Entry → Type 0
HearsRun clock [] old new heard = (new ≡ old) × (heard ≡ [])
HearsRun clock (Pumps ∷ steps) old new heard =
    (mid : Place) × (outs : List HostOut) × (more : List Entry) × Ran Pumps old mid outs × HearsSteps clock steps mid new more × (heard ≡ entries_of outs ++ more)
HearsRun clock (step ∷ steps) old new heard = ⊥

-- ---- which steps come so: each but a read without bytes is followed by a pump, but for the last one where they were cut short

abbrev pub IsPumpedStep : Step → Type 0
IsPumpedStep (Asks line answer) = IsServed line
IsPumpedStep (Takes bytes) = Unit {0}
IsPumpedStep Ticks = Unit {0}
IsPumpedStep Rests = ⊥
IsPumpedStep Pumps = ⊥

abbrev pub AreOrderly : Bool → List Step → Type 0
AreOrderly whole [] = Unit {0}
AreOrderly whole (Rests ∷ steps) = AreOrderly whole steps
AreOrderly whole (step ∷ Pumps ∷ steps) = IsPumpedStep step × AreOrderly whole steps
AreOrderly whole (step ∷ []) = whole ≡ false
AreOrderly whole (step ∷ other ∷ steps) = ⊥

abbrev pub IsRunSteps : Bool → List Step → Type 0
IsRunSteps whole [] = whole ≡ false
IsRunSteps whole (Pumps ∷ steps) = AreOrderly whole steps
IsRunSteps whole (step ∷ steps) = ⊥

-- ---- starts

-- a host that starts from these records does so after these entries, which show what they give
abbrev pub StartsAfter : List Entry → List (List ℕ) → Type 0
StartsAfter before texts = (start : Start) × StartsFrom texts start × (start.before ≡ before)

-- ---- hosts before

-- a keeper that holds so many records tells these; or it tells none, and holds none
abbrev pub Holds : ℕ → Option (List (List ℕ)) → Option (List (List ℕ)) → Type 0
Holds number None held = (number ≡ 0) × (held ≡ Some [])
Holds number (Some texts) held = held ≡ Some texts

-- the records that it holds so
abbrev pub texts_told : Option (List (List ℕ)) → List (List ℕ)
texts_told None = []
texts_told (Some texts) = texts

-- From this machine on hosts with these keys have heard this, in earlier runs, over a keeper that holds so many records now and tells these; so many ticks have passed. The last
-- one was at rest, they judged what came as programs do, their links have kept the rules, and no line was for others.
pub record RanBefore (start : HostMachine) (keys : Keys) (number : ℕ) (told : Option (List (List ℕ))) (past : List Entry) : Type 0 where
  pub held : Option (List (List ℕ))
  pub state : HostState
  pub clock : ℕ
  pub awaits : Bool
  pub run : Run start Resting past (host_machine keys held state [] clock 0 awaits)
  pub careful : Careful run
  pub line : LineRests past awaits clock 0 state
  pub holds : Holds number told held
  pub said : AreSaidToHost past

-- so it is of hosts of which the first had nothing kept
abbrev pub HaveHeard : Keys → ℕ → Option (List (List ℕ)) → List Entry → Type 0
HaveHeard keys number told past = RanBefore (first_alone keys (Some [])) keys number told past

-- From its start a host did these steps and heard this, whatever records it started from: with what hosts heard before, a run of a host alone from that machine on tells it, which has gone
-- through this start. It judged what came as programs do, no line was for others, and its link kept the rules. Where it came to rest, and its keeper tells its records, hosts have heard all
-- that when the next one starts.
pub record HearsFrom (start : HostMachine) (keys : Keys) (past : List Entry) (clock : ℕ) (whole : Bool) (steps : List Step) (old new : Place) : Type 0 where
  pub heard : List Entry
  pub hears : HearsRun clock steps old new heard
  pub here : Phase
  pub last : HostMachine
  pub run : RunCarefully start here ((past ++ Said restart_word ∷ []) ++ heard) last
  pub has : HasStarted (past ++ Said restart_word ∷ []) (texts_told old.shelf.records) run.0
  pub rests : whole ≡ true → (here ≡ Resting) × (last.left ≡ 0)
  pub agrees : whole ≡ true → Agrees new.shelf.records last.records
  pub for_host : AreForHost ((past ++ Said restart_word ∷ []) ++ heard)
  pub link : KeepsLink Host (ended whole ((past ++ Said restart_word ∷ []) ++ heard))
  pub next : whole ≡ true → (many : ℕ) → IsSome new.shelf.records → RanBefore start keys many new.shelf.records ((past ++ Said restart_word ∷ []) ++ heard)

-- From its start a host did these steps and heard this, and over what hosts have heard by now these laws hold; with a network key they are legal as one host alone is. What stood before it shows
-- what its keeper's records give, and with a network key it is legal from such a start, by what it heard itself. Where it came to rest, and its keeper tells its records, hosts have heard all that
-- when the next one starts.
pub record HearsMore (keys : Keys) (past : List Entry) (clock : ℕ) (whole : Bool) (steps : List Step) (old new : Place) : Type 0 where
  pub heard : List Entry
  pub hears : HearsRun clock steps old new heard
  pub keeps : HostsKeepLaws keys whole (past ++ Said restart_word ∷ heard) new.shelf.records
  pub legal : (key : List ℕ) → keys ≡ keys_of key → IsLegalAlone key first_start whole (past ++ Said restart_word ∷ heard) new.shelf.records
  pub starts : StartsAfter (past ++ Said restart_word ∷ []) (texts_told old.shelf.records)
  pub legal_from : (key : List ℕ) → keys ≡ keys_of key → IsLegalFrom key (texts_told old.shelf.records) whole heard new.shelf.records
  pub next : whole ≡ true → (many : ℕ) → IsSome new.shelf.records → HaveHeard keys many new.shelf.records (past ++ Said restart_word ∷ heard)
