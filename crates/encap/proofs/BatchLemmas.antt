-- Lists of commands, each after its length.
use Rattle.std.proofs.Common.{◌≡◌, ℕ, ◌≤◌, List, [], ◌∷◌, ◌++◌, length, true, refl, sym, ◌∙◌, ap, subst, inl, inr, arith, length-append, append_assoc, append-nil}
use Rattle.encap.specs.Wraps.{listed, AllFit, IsListOf, IsCommand, AllCommands}
use Rattle.encap.specs.Faults.{IsCutShort, IsCommandFault, IsFirstFault}
use Rattle.encap.specs.declared.fault.WrapFault.{WrapFault}

-- two texts of one length that are followed by something
pub apart : (x y a b : List ℕ) → length x ≡ length y → x ++ a ≡ y ++ b → (x ≡ y) × (a ≡ b)
apart [] [] a b len e = (refl, e)
apart [] (y ∷ ys) a b len e = absurd (omega arith)
apart (x ∷ xs) [] a b len e = absurd (omega arith)
apart (x ∷ xs) (y ∷ ys) a b len e =
    let first : x ≡ y = cc in
    let rest : xs ++ a ≡ ys ++ b = cc in
    let more = apart xs ys a b (omega arith) rest in
    (let tail : xs ≡ ys = more.0 in cc, more.1)

-- the list of a rest that begins with a command begins with it
pub list_head : (left : List (List ℕ)) (rest command after : List ℕ) → IsListOf left rest
    → rest ≡ length command ∷ (command ++ after)
    → (more : List (List ℕ)) × (left ≡ command ∷ more) × IsListOf more after
list_head [] rest command after is e = let none : rest ≡ [] = is.text in absurd (cc)
list_head (first ∷ more) rest command after is e =
    let text : rest ≡ length first ∷ (first ++ listed more) = is.text in
    let len : length first ≡ length command = cc in
    let tail : first ++ listed more ≡ command ++ after = cc in
    let both = apart first command (listed more) after len tail in
    (more, ap (λ (x : List ℕ). x ∷ more) both.0, record { fit = is.fit.1; text = sym both.1 })

-- the list of a rest that is cut short has nothing left
pub list_end : (left : List (List ℕ)) (rest : List ℕ) → IsListOf left rest → IsCutShort rest → left ≡ []
list_end [] rest is short = refl
list_end (first ∷ more) rest is (inl none) = let text : rest ≡ length first ∷ (first ++ listed more) = is.text in absurd (cc)
list_end (first ∷ more) rest is (inr (len, tail, e, less)) =
    let text : rest ≡ length first ∷ (first ++ listed more) = is.text in
    let same : length first ≡ len = cc in
    let rests : tail ≡ first ++ listed more = cc in
    absurd (omega (arith, length-append first (listed more), ap length rests))

pub fit-push : (commands : List (List ℕ)) (command : List ℕ) → AllFit commands → length command ≤ 255 → AllFit (commands ++ command ∷ [])
fit-push [] command all fits = (fits, tt)
fit-push (first ∷ commands) command all fits = (all.0, fit-push commands command all.1 fits)

pub listed-push : (commands : List (List ℕ)) (command after : List ℕ)
    → listed (commands ++ command ∷ []) ++ after ≡ listed commands ++ (length command ∷ (command ++ after))
listed-push [] command after = ap (λ (x : List ℕ). length command ∷ x) (ap (λ (x : List ℕ). x ++ after) (append-nil command))
listed-push (first ∷ commands) command after =
    ap (λ (x : List ℕ). length first ∷ x)
    (append_assoc first (listed (commands ++ command ∷ [])) after
    ∙ ap (λ (x : List ℕ). first ++ x) (listed-push commands command after)
    ∙ sym (append_assoc first (listed commands) (length command ∷ (command ++ after))))

-- one more command read: the rest is a list of those that are left
pub one_read : (left : List (List ℕ)) (rest command after : List ℕ) (commands done : List (List ℕ))
    → IsListOf left rest → rest ≡ length command ∷ (command ++ after) → commands ≡ done ++ left
    → (more : List (List ℕ)) × IsListOf more after × (commands ≡ (done ++ command ∷ []) ++ more)
one_read left rest command after commands done is e same =
    let head = list_head left rest command after is e in
    (head.0, head.2, same ∙ ap (λ (x : List (List ℕ)). done ++ x) head.1 ∙ sym (append_assoc done (command ∷ []) head.0))

-- what is left after one more command that is one
pub one_judged : (left : List (List ℕ)) (rest command after : List ℕ) (commands : List (List ℕ))
    → IsListOf left rest → rest ≡ length command ∷ (command ++ after) → IsCommand true command
    → (AllCommands true left → AllCommands true commands)
    → ((fault : WrapFault) → IsFirstFault true left fault → IsFirstFault true commands fault)
    → (more : List (List ℕ)) × IsListOf more after × (AllCommands true more → AllCommands true commands)
    × ((fault : WrapFault) → IsFirstFault true more fault → IsFirstFault true commands fault)
one_judged left rest command after commands is e good all first =
    let head = list_head left rest command after is e in (
      head.0,
      head.2,
      (λ rest_all. all (subst (λ (x : List (List ℕ)). AllCommands true x) (sym head.1) (good, rest_all))),
      (λ fault later. first fault (subst (λ (x : List (List ℕ)). IsFirstFault true x fault) (sym head.1) (inr (good, later)))),
    )

-- one that is not
pub one_refused : (left : List (List ℕ)) (rest command after : List ℕ) (fault : WrapFault)
    → IsListOf left rest → rest ≡ length command ∷ (command ++ after) → IsCommandFault true command fault → IsFirstFault true left fault
one_refused left rest command after fault is e bad =
    let head = list_head left rest command after is e in
    subst (λ (x : List (List ℕ)). IsFirstFault true x fault) (sym head.1) (inl bad)
