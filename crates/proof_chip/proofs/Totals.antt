-- How many results what was asked still has, where another SendData is under way than before: none for one that was taken at another answer.
use Rattle.std.proofs.Common.{◌≡◌, ◌<◌, ℕ, ◌+◌, ◌==◌, ◌&&◌, not, Bool, true, false, if◌then◌else◌, List, [], ◌∷◌, ◌++◌, map, filter, length, refl, ap, ap₂, ◌∙◌, subst, append_assoc, eq-eqb, ne_eqb, arith}
use Rattle.std.specs.Prelude.{slice_get}
use Rattle.std.specs.List.{AllByRecursion, flat_map}
use Rattle.zw_base.proofs.Each.{all-append}
use Rattle.chip_functions.specs.declared.request.Request.{Request}
use Rattle.chip_functions.specs.declared.request.Request.TheVariants.{RequestNodeInfo}
use Rattle.chip_functions.specs.declared.notice.TransmitStatus.TheVariants.{NoRoute}
use Rattle.zw_words.specs.declared.side.Side.TheVariants.{Host as by_host, Chip as by_chip}
use Rattle.zw_text.specs.declared.entry.Entry.{Entry}
use Rattle.zw_text.specs.declared.entry.Entry.TheVariants as entry
use Rattle.law_transcript.specs.Lists.{listed, shown_after}
use Rattle.law_wire.specs.Asked.{Asked, Course, Sending, acks, asked, asked_at, is_ack, last_sending, requests_of}
use Rattle.law_wire.specs.Results.{ended_by, is_outward}
use Rattle.law_wire.specs.Given.{information_of}
use Rattle.proof_chip.specs.Tally.{informed, infos_asked, total}
use Rattle.proof_chip.proofs.Agreeing.{acks_more}

-- ---- with these SendData under way

-- it was taken at that answer, and has no frame
abbrev pub stays_out : List Entry → Asked → Sending → Bool
stays_out past one sending = (sending.place == acks one.past) && not (is_outward past sending.frame)

abbrev pub ends_out : List Entry → List Sending → Asked → ℕ
ends_out past sendings one = length (ended_by NoRoute (filter (stays_out past one) sendings))

abbrev pub totals : List Entry → List Sending → List Asked → ℕ
totals past sendings [] = 0
totals past sendings (one ∷ more) = (informed one.request + ends_out past sendings one) + totals past sendings more

informed_is : (past : List Entry) (one : Asked) (request : Request) → length (information_of past one request) ≡ informed request
informed_is past one (RequestNodeInfo node) = refl
informed_is past one request = refl

pub total_is : (course : Course) (past : List Entry) (all : List Asked) → total course past all ≡ totals past (last_sending course past) all
total_is course past [] = refl
total_is course past (one ∷ all) =
    ap₂ (λ (m n : ℕ). (m + ends_out past (last_sending course past) one) + n) (informed_is past one one.request) (total_is course past all)

pub totals_both : (past : List Entry) (sendings : List Sending) (one more : List Asked) → totals past sendings (one ++ more) ≡ totals past sendings one + totals past sendings more
totals_both past sendings [] more = zero_plus (totals past sendings more)
  where
    zero_plus : (n : ℕ) → n ≡ 0 + n
    zero_plus n = omega arith
totals_both past sendings (first ∷ one) more = let rest = totals_both past sendings one more in omega (arith, rest)

pub infos_both : (one more : List Asked) → infos_asked (one ++ more) ≡ infos_asked one + infos_asked more
infos_both [] more = zero_plus (infos_asked more)
  where
    zero_plus : (n : ℕ) → n ≡ 0 + n
    zero_plus n = omega arith
infos_both (first ∷ one) more = let rest = infos_both one more in omega (arith, rest)

-- ---- at other entries

out_same : (later past : List Entry) (one : Asked) (sendings : List Sending) → AllByRecursion (λ (s : Sending). is_outward later s.frame ≡ is_outward past s.frame) sendings
    → filter (stays_out later one) sendings ≡ filter (stays_out past one) sendings
out_same later past one [] same = refl
out_same later past one (sending ∷ sendings) same =
    ap₂ (λ (b : Bool) (l : List Sending). if (sending.place == acks one.past) && not b then sending ∷ l else l) same.0 (out_same later past one sendings same.1)

pub totals_same : (later past : List Entry) (sendings : List Sending) → AllByRecursion (λ (s : Sending). is_outward later s.frame ≡ is_outward past s.frame) sendings → (all : List Asked)
    → totals later sendings all ≡ totals past sendings all
totals_same later past sendings same [] = refl
totals_same later past sendings same (one ∷ all) =
    ap₂ (λ (l : List Sending) (n : ℕ). (informed one.request + length (ended_by NoRoute l)) + n) (out_same later past one sendings same) (totals_same later past sendings same all)

-- ---- taken at other answers, or with a frame

abbrev pub IsApartFrom : List Entry → Asked → Sending → Type 0
IsApartFrom past one s = stays_out past one s ≡ false

pub none_out : (past : List Entry) (one : Asked) (sendings : List Sending) → AllByRecursion (IsApartFrom past one) sendings → filter (stays_out past one) sendings ≡ []
none_out past one [] apart = refl
none_out past one (s ∷ sendings) apart = ap₂ (λ (b : Bool) (l : List Sending). if b then s ∷ l else l) apart.0 (none_out past one sendings apart.1)

pub ends_none : (past : List Entry) (one : Asked) (sendings : List Sending) → AllByRecursion (IsApartFrom past one) sendings → ends_out past sendings one ≡ 0
ends_none past one sendings apart = ap (λ (l : List Sending). length (ended_by NoRoute l)) (none_out past one sendings apart)

pub totals_none : (past : List Entry) (sendings : List Sending) (all : List Asked) → AllByRecursion (λ (one : Asked). AllByRecursion (IsApartFrom past one) sendings) all → totals past sendings all ≡ infos_asked all
totals_none past sendings [] apart = refl
totals_none past sendings (one ∷ all) apart =
    let here = ends_none past one sendings apart.0 in
    let rest = totals_none past sendings all apart.1 in
    omega (arith, here, rest)

pub elsewhere : (past : List Entry) (one : Asked) (s : Sending) → (s.place ≡ acks one.past → ⊥) → IsApartFrom past one s
elsewhere past one s other = ap (λ (b : Bool). b && not (is_outward past s.frame)) (ne_eqb s.place (acks one.past) other)

pub with_frame : (past : List Entry) (one : Asked) (s : Sending) → is_outward past s.frame ≡ true → IsApartFrom past one s
with_frame past one s is = ap (λ (b : Bool). (s.place == acks one.past) && not b) is ∙ and_false (s.place == acks one.past)
  where
    and_false : (b : Bool) → (b && false) ≡ false
    and_false true = refl
    and_false false = refl

-- one that was taken there has its own
pub ends_one : (past : List Entry) (one : Asked) (s : Sending) → s.place ≡ acks one.past → is_outward past s.frame ≡ false → ends_out past (s ∷ []) one ≡ 1
ends_one past one s there out =
    ap₂ (λ (a b : Bool). length (ended_by NoRoute (if a && not b then s ∷ [] else []))) (eq-eqb s.place (acks one.past) there) out

-- ---- when it was asked

abbrev pub WasAsked : ℕ → Asked → Type 0
WasAsked count one = acks one.past < count

here_asked : (past : List Entry) (count : ℕ) → acks past < count → (requests : List Request) → AllByRecursion (WasAsked count) (map (λ (request : Request). record { request = request; past = past }) requests)
here_asked past count below [] = tt
here_asked past count below (request ∷ requests) = (below, here_asked past count below requests)

module _ (course : Course) where
  at_asked : (past told : List Entry) (e : Entry) → AllByRecursion (WasAsked (acks (past ++ e ∷ told))) (asked_at course past e)
  at_asked past told (entry.Written by_chip unit) = by (is_ack unit) refl
    where
      count : (b : Bool) → is_ack unit ≡ b → acks (entry.Written by_chip unit ∷ []) ≡ length (if b then unit ∷ [] else [])
      count b ack = ap (λ (x : Bool). length (if x then unit ∷ [] else [])) ack

      by : (b : Bool) → is_ack unit ≡ b
          → AllByRecursion (WasAsked (acks (past ++ entry.Written by_chip unit ∷ told)))
          (map (λ (request : Request). record { request = request; past = past }) (if b then flat_map requests_of (listed (slice_get course.passed (acks past))) else []))
      by true ack =
          let more = acks_more past (entry.Written by_chip unit ∷ told) in
          let first = acks_more (entry.Written by_chip unit ∷ []) told in
          let one = count true ack in
          here_asked past (acks (past ++ entry.Written by_chip unit ∷ told)) (omega (arith, more, first, one)) (flat_map requests_of (listed (slice_get course.passed (acks past))))
      by false ack = tt
  at_asked past told (entry.Written by_host unit) = tt
  at_asked past told e = tt

  asked_from : (told past : List Entry) → AllByRecursion (WasAsked (acks (past ++ told))) (shown_after (asked_at course) past told)
  asked_from [] past = tt
  asked_from (e ∷ told) past =
      all-append (WasAsked (acks (past ++ e ∷ told))) (asked_at course past e) (shown_after (asked_at course) (past ++ e ∷ []) told) (at_asked past told e)
      (subst (λ (l : List Entry). AllByRecursion (WasAsked (acks l)) (shown_after (asked_at course) (past ++ e ∷ []) told)) (append_assoc past (e ∷ []) told) (asked_from told (past ++ e ∷ [])))

  -- before the answers so far
  pub was_asked : (past : List Entry) → AllByRecursion (WasAsked (acks past)) (asked course past)
  was_asked past = asked_from past []
