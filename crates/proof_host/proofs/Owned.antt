-- Commands of different nodes are different, and numbers are found among those of a node.
use Rattle.std.proofs.Common.{◌≡◌, ℕ, zero, suc, ◌+◌, ◌<◌, List, [], ◌∷◌, ◌++◌, length, All, Option, Some, None, refl, sym, ap, subst, ◌∙◌, arith}
use Rattle.std.specs.Prelude.{slice_get}
use Rattle.std.specs.List.{AllByRecursion}
use Rattle.std.proofs.lemmas.List.Elements.{recursion_from_All}
use Rattle.zw_base.proofs.Each.{all-weaker}
use Rattle.supervision.specs.Host.{open_session, command_at as command_of_session}
use Rattle.host_model.specs.host_node.State.{NodeState}
use Rattle.host_model.specs.State.{Command, command_at}
use Rattle.host_model.specs.Sessions.{command_by, open_command}
use Rattle.host_model.specs.Facts.{IsCommandOf}
use Rattle.proof_host.specs.Tables.{nodes_by}

-- ---- commands of nodes

one_command : (found other : Option Command) (a b : Command) → found ≡ other → found ≡ Some a → other ≡ Some b → a ≡ b
one_command found other a b e f g = cc

-- one command is for one node
pub one_node : (commands : List Command) (m n k c : ℕ) → IsCommandOf commands m k → IsCommandOf commands n c → k ≡ c → m ≡ n
one_node commands m n k c one other same =
    sym one.node
    ∙ ap (λ (x : Command). x.order.node) (one_command (command_at commands k) (command_at commands c) one.command other.command (ap (λ (i : ℕ). command_at commands i) same) one.found other.found)
    ∙ other.node

-- so the commands of another node are others
pub apart : (commands : List Command) (m n c : ℕ) → (m ≡ n → ⊥) → IsCommandOf commands n c → (l : List ℕ) → All (IsCommandOf commands m) l → AllByRecursion (λ k. k ≡ c → ⊥) l
apart commands m n c other one l all =
    all-weaker (IsCommandOf commands m) (λ k. k ≡ c → ⊥) (λ k of same. other (one_node commands m n k c of one same)) l (recursion_from_All (IsCommandOf commands m) l all)

-- numbers of commands are at most as many as there are
found_within : (commands : List Command) (k : ℕ) (command : Command) → slice_get commands k ≡ Some command → k < length commands
found_within [] k command e = cc
found_within (first ∷ rest) zero command e = omega arith
found_within (first ∷ rest) (suc k) command e = let h : k < length rest = found_within rest k command e in omega arith

pub number_within : (commands : List Command) (n k : ℕ) → IsCommandOf commands n k → k < length commands + 1
number_within commands n zero one = omega arith
number_within commands n (suc k) one = let h : k < length commands = found_within commands k one.command one.found in omega arith

pub node_found : (commands : List Command) (n c : ℕ) → IsCommandOf commands n c → nodes_by (command_at commands c) ≡ n ∷ []
node_found commands n c one = ap nodes_by one.found ∙ ap (λ (m : ℕ). m ∷ []) one.node

-- ---- the open session's command

at_place : (P : ℕ → Type 0) (l : List ℕ) (k c : ℕ) → slice_get l k ≡ Some c → AllByRecursion P l → P c
at_place P [] k c e all = cc
at_place P (x ∷ l) zero c e all = let same : x ≡ c = cc in subst P same all.0
at_place P (x ∷ l) (suc k) c e all = at_place P l k c e all.1

at_session : (P : ℕ → Type 0) (l : List ℕ) (session c : ℕ) → command_of_session l session ≡ Some c → AllByRecursion P l → P c
at_session P l zero c e all = cc
at_session P l (suc k) c e all = at_place P l k c e all

-- it is one of those of the sessions
pub of_opened : (P : ℕ → Type 0) (n : NodeState) → AllByRecursion P n.book.commands → (c : ℕ) → open_command n ≡ Some c → P c
of_opened P n all c opened = by (open_session n.book) opened
  where
    by : (o : Option ℕ) → command_by n o ≡ Some c → P c
    by None e = cc
    by (Some session) e = at_session P n.book.commands session c e all

pub closed_none : (n : NodeState) → open_session n.book ≡ None → open_command n ≡ None
closed_none n closed = ap (λ (o : Option ℕ). command_by n o) closed

last_place : (l : List ℕ) (c : ℕ) → slice_get (l ++ c ∷ []) (length l) ≡ Some c
last_place [] c = refl
last_place (x ∷ l) c = last_place l c

length_more : (l : List ℕ) (c : ℕ) → length (l ++ c ∷ []) ≡ suc (length l)
length_more [] c = refl
length_more (x ∷ l) c = ap suc (length_more l c)

last_session : (l : List ℕ) (c : ℕ) → command_of_session (l ++ c ∷ []) (length (l ++ c ∷ [])) ≡ Some c
last_session l c = ap (λ (k : ℕ). command_of_session (l ++ c ∷ []) k) (length_more l c) ∙ last_place l c

-- the one that began last is open
pub opened_last : (n : NodeState) (l : List ℕ) (c : ℕ) → open_command (record n { book = record { commands = l ++ c ∷ []; outcome = None; attempts = 0 } }) ≡ Some c
opened_last n [] c = refl
opened_last n (x ∷ l) c = last_session (x ∷ l) c

-- the command of the last session stands last
last_split : (l : List ℕ) (c : ℕ) → command_of_session l (length l) ≡ Some c → (prefix : List ℕ) × (l ≡ prefix ++ c ∷ [])
last_split [] c e = cc
last_split (x ∷ []) c e = let same : x ≡ c = cc in ([], ap (λ (k : ℕ). k ∷ []) same)
last_split (x ∷ y ∷ l) c e = let rest = last_split (y ∷ l) c e in (x ∷ rest.0, ap (λ (r : List ℕ). x ∷ r) rest.1)

pub opened_ends : (n : NodeState) (c : ℕ) → open_command n ≡ Some c → (prefix : List ℕ) × (n.book.commands ≡ prefix ++ c ∷ [])
opened_ends n c opened = last_split n.book.commands c (by n.book.outcome n.book.commands n.book.attempts opened)
  where
    by : (o : Option ℕ) (l : List ℕ) (attempts : ℕ) → open_command (record n { book = record { commands = l; outcome = o; attempts = attempts } }) ≡ Some c → command_of_session l (length l) ≡ Some c
    by (Some status) l attempts e = cc
    by None [] attempts e = cc
    by None (x ∷ l) attempts e = e
