-- The commands of the sessions that have begun, at each cut of a transcript.
use Rattle.std.proofs.Common.{◌≡◌, ℕ, zero, suc, ◌-◌, ◌≤◌, cond, eqb, Bool, true, false, List, [], ◌∷◌, ◌++◌, length, get_or, Option, Some, None, inl, inr, arith, refl, sym, ap, ap₂, subst, ◌∙◌}
use Rattle.std.specs.Prelude.{slice_get}
use Rattle.std.proofs.lemmas.Bool.{eqb-true}
use Rattle.std.proofs.lemmas.Option.{slice_get-get_or}
use Rattle.std.proofs.Math.Dec.{eqb-suc-zero}
use Rattle.supervision.specs.Host.{command_at as command_in}
use Rattle.zw_text.specs.declared.entry.Entry.{Entry}
use Rattle.zw_text.specs.declared.entry.Entry.TheVariants.{Accepted, Begin}
use Rattle.zw_text.specs.Transcript.{session_at, sessions}
use Rattle.zw_text.proofs.Views.{shown-append}
use Rattle.law_transcript.specs.Lists.{Has}
use Rattle.law_transcript.proofs.Having.{shown_has}
use Rattle.proof_host.specs.Laws.{HostLaws, MayAccept, MayCarry}
use Rattle.audit_books.specs.Beginning.{command_at}
use Rattle.proof_audit.specs.Books.{AreAsked, MayBeAsked}
use Rattle.proof_audit.proofs.Cutting.{Stands, each-before, each-cut, stands, stands-on}
use Rattle.proof_audit.proofs.GivenOrders.{IsGiven, accepted-stands, is-given}

-- ---- the command of a session

pub same-command : (begun : List ℕ) (session : ℕ) → command_in begun session ≡ command_at begun session
same-command begun zero = refl
same-command begun (suc k) =
    let at : suc k - 1 ≡ k = omega arith in
    sym (ap₂ (λ (b : Bool) (j : ℕ). cond b None (slice_get begun j)) (eqb-suc-zero k) at)

get-on : (items more : List ℕ) (at : ℕ) (item : ℕ) → slice_get items at ≡ Some item → slice_get (items ++ more) at ≡ Some item
get-on [] more at item is = absurd cc
get-on (first ∷ items) more zero item is = is
get-on (first ∷ items) more (suc at) item is = get-on items more at item is

get-has : (items : List ℕ) (at item : ℕ) → slice_get items at ≡ Some item → Has items item
get-has [] at item is = absurd cc
get-has (first ∷ items) zero item is = let same : first ≡ item = cc in inl same
get-has (first ∷ items) (suc at) item is = inr (get-has items at item is)

got-if : (b : Bool) (o : Option ℕ) (command : ℕ) → cond b None o ≡ Some command → o ≡ Some command
got-if true o command is = absurd cc
got-if false o command is = is

pub command-on : (begun more : List ℕ) (session command : ℕ) → command_at begun session ≡ Some command → command_at (begun ++ more) session ≡ Some command
command-on begun more zero command is = absurd cc
command-on begun more (suc k) command is =
    sym (same-command (begun ++ more) (suc k)) ∙ get-on begun more k command (same-command begun (suc k) ∙ is)

pub command-begun : (begun : List ℕ) (session command : ℕ) → command_at begun session ≡ Some command → Has begun command
command-begun begun session command is = get-has begun (session - 1) command (got-if (eqb session 0) (slice_get begun (session - 1)) command is)

-- a session that has begun has a command
pub record CommandOf (begun : List ℕ) (session : ℕ) : Type 0 where
  pub command : ℕ
  pub is : command_at begun session ≡ Some command

pub command-of : (begun : List ℕ) (session : ℕ) → 1 ≤ session → session ≤ length begun → CommandOf begun session
command-of begun zero from_one most = absurd (omega (arith, from_one))
command-of begun (suc k) from_one most =
    record { command = get_or begun k 0; is = sym (same-command begun (suc k)) ∙ slice_get-get_or begun k 0 (omega (arith, most)) }

-- ---- at a cut

session-entry : (node command : ℕ) (entry : Entry) → Has (session_at node entry) command → (session : ℕ) × (entry ≡ Begin node session command)
session-entry node command (Begin at session number) has = by (eqb at node) refl has
  where
    by : (b : Bool) → eqb at node ≡ b → Has (cond b (number ∷ []) []) command → (s : ℕ) × (Begin at session number ≡ Begin node s command)
    by true same (inl is) = (session, ap₂ (λ (n c : ℕ). Begin n session c) (eqb-true at node same) is)
    by true same (inr none) = absurd none
    by false same has = absurd has
session-entry node command entry has = absurd has

module _ (listing : ℕ → List ℕ) (transcript : List Entry) (laws : HostLaws transcript) (asked : AreAsked listing transcript) where
  -- the command of a session that has begun was accepted before
  pub begun-given : (past rest : List Entry) (node command : ℕ) → transcript ≡ past ++ rest → Has (sessions node past) command → IsGiven listing past command node
  begun-given past rest node command is has =
      let one = shown_has (session_at node) past command has in
      let begin = session-entry node command one.by one.shows in
      let entry : Entry = Begin node begin.0 command in
      let there : Stands past entry = stands past entry (subst (λ (e : Entry). Has past e) begin.1 one.among) in
      let carry = each-cut MayCarry transcript there.before entry (there.later ++ rest) (stands-on transcript past rest there.before there.later entry is there.is) laws.carries in
      let accepted = accepted-stands there.before command node (subst (λ (l : List ℕ). Has l node) (sym carry.0) (inl refl)) in
      is-given listing past (each-before MayAccept transcript past rest is laws.accepts) (each-before (MayBeAsked listing) transcript past rest is asked) command node
      (record { before = accepted.before; later = accepted.later ++ (entry ∷ there.later); is = stands-on past there.before (entry ∷ there.later) accepted.before accepted.later (Accepted command node) there.is accepted.is })

  -- sessions that have begun are the first of all
  pub sessions-on : (past rest : List Entry) (node : ℕ) → transcript ≡ past ++ rest → sessions node transcript ≡ sessions node past ++ sessions node rest
  sessions-on past rest node is = ap (sessions node) is ∙ shown-append (session_at node) past rest
