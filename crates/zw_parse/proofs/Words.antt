-- What entry has a text: each entry is found again from its text, so that no two have the same. It is by words here, and
-- it tells nothing of a text that no entry has.
use Rattle.std.proofs.Common.{◌≡◌, ℕ, ◌<◌, ◌≤◌, ◌^◌, eqb, ltb, Bool, true, false, cond, not, Option, Some, None, List, [], ◌∷◌, ◌++◌, get_or, map, codes, decimal, bytes_eq, arith, ap, ap₂, refl, ◌∙◌, sym, append-nil, le-ltb}
use Rattle.std.specs.List.{AllByRecursion}
use Rattle.std.proofs.lemmas.Fmt.{decimal_is_IsNumeral}
use Rattle.std.proofs.lemmas.Str.Parse.{digit_at}
use Rattle.zw_base.specs.declared.property.By.{By}
use Rattle.zw_base.specs.declared.property.By.TheVariants.{Session, Local, Plain}
use Rattle.zw_base.specs.declared.property.Name.{Name}
use Rattle.zw_base.specs.declared.property.Name.TheVariants.{Switch, Level, Lock, Mode, Setpoint, Config, Member, Interval, Sensor, Battery}
use Rattle.zw_base.specs.declared.property.Property.{Property}
use Rattle.zw_base.specs.declared.property.Setting.{Setting}
use Rattle.zw_words.specs.declared.fault.LineFault.{LineFault}
use Rattle.zw_words.specs.declared.fault.LineFault.TheVariants.{Unknown, Missing, Number, Extra, TooLong as LineTooLong}
use Rattle.zw_words.specs.declared.side.Side.{Side}
use Rattle.zw_words.specs.declared.side.Side.TheVariants.{Host, Chip}
use Rattle.zw_text.specs.declared.entry.Ended.{Ended}
use Rattle.zw_text.specs.declared.entry.Ended.TheVariants.{Success, Fail, NoSupport, Unanswered, Cancelled}
use Rattle.zw_text.specs.declared.entry.Done.{Done as HowDone}
use Rattle.zw_text.specs.declared.entry.Done.TheVariants.{Delivered, NoAck, Fail as DoneFail, NotIdle, NoRoute, Refused as DoneRefused, Silent, LinkFailed}
use Rattle.zw_words.specs.Texts.{side_word}
use Rattle.zw_base.specs.PropertyWord.{name_word, property_word}
use Rattle.zw_text.specs.Entry.{by_word, done_word, ended_word, failed_word, fault_word, number_word, number_words}
use Rattle.zw_text.specs.Fits.{ByFits, IsByte, IsEight, IsFour, IsNode, IsTwo, NameFits, OptionFits, PropertyFits, SettingFits}
use Rattle.std.specs.Prelude.{unwrap_or}
use Rattle.zw_words.proofs.FormLaws.{between_again, number_again}
use Rattle.zw_parse.specs.Reading.{at, but_last, by_back, byte_back, done_back, eight_back, end_back, ended_back, failed_back, fault_back, four_back, last_of, make_property, make_setting, name_back, node_back, nodes_back, numbers_back, option_back, property_back, setting_back, side_back, some_number, two_back, unless_none}
use Rattle.zw_parse.proofs.Pieces.{Lacks, Solid, but-last, lacks-append, last-of, number-lacks, number-solid, parts-joined, slash-lacks}

-- ---- what words stand for

pub side-back : (s : Side) → side_back (side_word s) ≡ s
unfolding side_back
side-back Host = refl
side-back Chip = refl

pub side-solid : (s : Side) → Solid (side_word s)
side-solid Host = refl
side-solid Chip = refl

pub ended-back : (e : Ended) → ended_back (ended_word e) ≡ e
unfolding ended_back
ended-back Success = refl
ended-back Fail = refl
ended-back NoSupport = refl
ended-back Unanswered = refl
ended-back Cancelled = refl

pub ended-solid : (e : Ended) → Solid (ended_word e)
ended-solid Success = refl
ended-solid Fail = refl
ended-solid NoSupport = refl
ended-solid Unanswered = refl
ended-solid Cancelled = refl

pub done-back : (d : HowDone) → done_back (done_word d) ≡ d
unfolding done_back
done-back Delivered = refl
done-back NoAck = refl
done-back DoneFail = refl
done-back NotIdle = refl
done-back NoRoute = refl
done-back DoneRefused = refl
done-back Silent = refl
done-back LinkFailed = refl

pub done-solid : (d : HowDone) → Solid (done_word d)
done-solid Delivered = refl
done-solid NoAck = refl
done-solid DoneFail = refl
done-solid NotIdle = refl
done-solid NoRoute = refl
done-solid DoneRefused = refl
done-solid Silent = refl
done-solid LinkFailed = refl

pub fault-back : (f : LineFault) → fault_back (fault_word f) ≡ f
unfolding fault_back
fault-back Unknown = refl
fault-back Missing = refl
fault-back Number = refl
fault-back Extra = refl
fault-back LineTooLong = refl

pub fault-solid : (f : LineFault) → Solid (fault_word f)
fault-solid Unknown = refl
fault-solid Missing = refl
fault-solid Number = refl
fault-solid Extra = refl
fault-solid LineTooLong = refl

pub failed-back : (b : Bool) → failed_back (failed_word b) ≡ b
unfolding failed_back
failed-back true = refl
failed-back false = refl

pub failed-solid : (b : Bool) → Solid (failed_word b)
failed-solid true = refl
failed-solid false = refl

-- ---- ranges

pub node64 : (n : ℕ) → IsNode n → n < 2 ^ 64
node64 n h = omega (arith, h.1)

pub byte64 : (n : ℕ) → IsByte n → n < 2 ^ 64
byte64 n h = omega (arith, h)

pub two64 : (n : ℕ) → IsTwo n → n < 2 ^ 64
two64 n h = omega (arith, h)

pub four64 : (n : ℕ) → IsFour n → n < 2 ^ 64
four64 n h = omega (arith, h)

pub each : (P Q : ℕ → Type 0) → ((n : ℕ) → P n → Q n) → (ns : List ℕ) → AllByRecursion P ns → AllByRecursion Q ns
each P Q step [] all = tt
each P Q step (n ∷ ns) all = (step n all.0, each P Q step ns all.1)

-- a number's text begins with a digit
pub first-digit : (n : ℕ) → n < 2 ^ 64 → (48 ≤ get_or (decimal n) 0 0) × (get_or (decimal n) 0 0 ≤ 57)
first-digit n small =
    let is = (decimal_is_IsNumeral n small).0 in
    let digit = digit_at (decimal n) 0 is.1 is.0 in (omega (arith, digit), omega (arith, digit))

-- ---- numbers of each size

pub eight-back : (n : ℕ) → IsEight n → eight_back (decimal n) ≡ n
unfolding eight_back
eight-back n fits = ap (λ (o : Option ℕ). unwrap_or o 0) (number_again n fits)

pub four-back : (n : ℕ) → IsFour n → four_back (decimal n) ≡ n
unfolding four_back
four-back n fits = ap (λ (o : Option ℕ). unwrap_or o 0) (between_again 0 4294967295 n (omega arith) (omega (arith, fits)) (omega (arith, fits)))

pub two-back : (n : ℕ) → IsTwo n → two_back (decimal n) ≡ n
unfolding two_back
two-back n fits = ap (λ (o : Option ℕ). unwrap_or o 0) (between_again 0 65535 n (omega arith) (omega (arith, fits)) (omega (arith, fits)))

pub byte-back : (n : ℕ) → IsByte n → byte_back (decimal n) ≡ n
unfolding byte_back
byte-back n fits = ap (λ (o : Option ℕ). unwrap_or o 0) (between_again 0 255 n (omega arith) (omega (arith, fits)) (omega (arith, fits)))

pub end-back : (n : ℕ) → n ≤ 127 → end_back (decimal n) ≡ n
unfolding end_back
end-back n fits = ap (λ (o : Option ℕ). unwrap_or o 0) (between_again 0 127 n (omega arith) fits (omega (arith, fits)))

pub node-back : (n : ℕ) → IsNode n → node_back (decimal n) ≡ n
unfolding node_back
node-back n fits = ap (λ (o : Option ℕ). unwrap_or o 1) (between_again 1 232 n fits.0 fits.1 (omega (arith, fits.1)))

-- ---- what made a change

pub by-back : (b : By) → ByFits b → by_back (by_word b) ≡ b
unfolding by_back
by-back (Session s) fits =
    ap (λ t. cond t (cond (bytes_eq (decimal s) (codes "local")) Local Plain) (Session (eight_back (decimal s)))) (le-ltb 57 (get_or (decimal s) 0 0) (first-digit s fits).1)
    ∙ ap Session (eight-back s fits)
by-back Local fits = refl
by-back Plain fits = refl

pub by-solid : (b : By) → ByFits b → Solid (by_word b)
by-solid (Session s) fits = number-solid s fits
by-solid Local fits = refl
by-solid Plain fits = refl

-- ---- a number, or `-`

pub option-back : (o : Option ℕ) → OptionFits o → option_back (number_word o) ≡ o
unfolding option_back
option-back None fits = refl
option-back (Some n) fits =
    ap (λ t. cond t None (some_number (four_back (decimal n)))) (le-ltb (get_or (decimal n) 0 0) 48 (first-digit n (four64 n fits)).0)
    ∙ ap some_number (four-back n fits)

pub option-solid : (o : Option ℕ) → OptionFits o → Solid (number_word o)
option-solid None fits = refl
option-solid (Some n) fits = number-solid n (four64 n fits)

-- ---- numbers, or `-`

pub maps-back : (f : List ℕ → ℕ) (P : ℕ → Type 0) → ((n : ℕ) → P n → f (decimal n) ≡ n) → (ns : List ℕ) → AllByRecursion P ns → map f (map decimal ns) ≡ ns
maps-back f P law [] fit = refl
maps-back f P law (n ∷ ns) fit = ap₂ ◌∷◌ (law n fit.0) (maps-back f P law ns fit.1)

pub listed-back : (f : List ℕ → ℕ) (P : ℕ → Type 0) → ((n : ℕ) → P n → n < 2 ^ 64) → ((n : ℕ) → P n → f (decimal n) ≡ n) → (ns : List ℕ) → AllByRecursion P ns → unless_none (number_words ns []) (map f (number_words ns [])) ≡ ns
listed-back f P small law [] fit = refl
listed-back f P small law (n ∷ ns) fit =
    ap (λ t. cond t [] (map f (decimal n ∷ map decimal ns ++ []))) (le-ltb (get_or (decimal n) 0 0) 48 (first-digit n (small n fit.0)).0)
    ∙ ap₂ ◌∷◌ (law n fit.0) (ap (map f) (append-nil (map decimal ns)) ∙ maps-back f P law ns fit.1)

pub nodes-back : (ns : List ℕ) → AllByRecursion IsNode ns → nodes_back (number_words ns []) ≡ ns
unfolding nodes_back
nodes-back ns fit = listed-back node_back IsNode node64 node-back ns fit

pub numbers-back : (ns : List ℕ) → AllByRecursion IsFour ns → numbers_back (number_words ns []) ≡ ns
unfolding numbers_back
numbers-back ns fit = listed-back four_back IsFour four64 four-back ns fit

-- numbers before a last word
pub but-last-numbers : (ns : List ℕ) (x : List ℕ) → but_last (number_words ns (x ∷ [])) ≡ number_words ns []
but-last-numbers [] x = refl
but-last-numbers (n ∷ ns) x =
    but-last (decimal n ∷ map decimal ns) x ∙ ap (λ (r : List (List ℕ)). decimal n ∷ r) (sym (append-nil (map decimal ns)))

pub last-numbers : (ns : List ℕ) (x : List ℕ) → last_of (number_words ns (x ∷ [])) ≡ x
last-numbers [] x = refl
last-numbers (n ∷ ns) x = last-of (decimal n ∷ map decimal ns) x

pub maps-solid : (ns : List ℕ) (rest : List (List ℕ)) → AllByRecursion IsEight ns → AllByRecursion Solid rest → AllByRecursion Solid (map decimal ns ++ rest)
maps-solid [] rest fit solid = solid
maps-solid (n ∷ ns) rest fit solid = (number-solid n fit.0, maps-solid ns rest fit.1 solid)

pub numbers-solid : (ns : List ℕ) (rest : List (List ℕ)) → AllByRecursion IsEight ns → AllByRecursion Solid rest → AllByRecursion Solid (number_words ns rest)
numbers-solid [] rest fit solid = (refl, solid)
numbers-solid (n ∷ ns) rest fit solid = (number-solid n fit.0, maps-solid ns rest fit.1 solid)

-- ---- properties

-- the name of the parts of its word
abbrev name_of : List (List ℕ) → Name
name_of ps =
    cond (bytes_eq (at 0 ps) (codes "switch")) Switch
    (cond (bytes_eq (at 0 ps) (codes "level")) Level
    (cond (bytes_eq (at 0 ps) (codes "lock")) Lock
    (cond (bytes_eq (at 0 ps) (codes "mode")) Mode
    (cond (bytes_eq (at 0 ps) (codes "interval")) Interval
    (cond (bytes_eq (at 0 ps) (codes "sensor")) Sensor
    (cond (bytes_eq (at 0 ps) (codes "battery")) Battery
    (cond (bytes_eq (at 0 ps) (codes "setpoint")) (Setpoint (byte_back (at 1 ps)))
    (cond (bytes_eq (at 0 ps) (codes "config")) (Config (byte_back (at 1 ps)))
    (Member (byte_back (at 1 ps)) (node_back (at 2 ps)))))))))))

pub name-back : (n : Name) → NameFits n → name_back (name_word n) ≡ n
unfolding name_back
name-back Switch fits = refl
name-back Level fits = refl
name-back Lock fits = refl
name-back Mode fits = refl
name-back (Setpoint kind) fits =
    ap name_of (parts-joined 58 (codes "setpoint") (decimal kind ∷ []) (refl, (number-lacks 58 kind (omega arith) (byte64 kind fits), tt)))
    ∙ ap Setpoint (byte-back kind fits)
name-back (Config parameter) fits =
    ap name_of (parts-joined 58 (codes "config") (decimal parameter ∷ []) (refl, (number-lacks 58 parameter (omega arith) (byte64 parameter fits), tt)))
    ∙ ap Config (byte-back parameter fits)
name-back (Member group node) fits =
    ap name_of (parts-joined 58 (codes "member") (decimal group ∷ decimal node ∷ []) (refl, (number-lacks 58 group (omega arith) (byte64 group fits.0), (number-lacks 58 node (omega arith) (node64 node fits.1), tt))))
    ∙ ap₂ Member (byte-back group fits.0) (node-back node fits.1)
name-back Interval fits = refl
name-back Sensor fits = refl
name-back Battery fits = refl

abbrev pub unslashed : ℕ → Bool
unslashed b = not (eqb b 47)

pub name-lacks : (n : Name) → NameFits n → Lacks 47 (name_word n)
name-lacks Switch fits = refl
name-lacks Level fits = refl
name-lacks Lock fits = refl
name-lacks Mode fits = refl
name-lacks (Setpoint kind) fits = lacks-append unslashed (codes "setpoint:") (decimal kind) refl (slash-lacks kind (byte64 kind fits))
name-lacks (Config parameter) fits = lacks-append unslashed (codes "config:") (decimal parameter) refl (slash-lacks parameter (byte64 parameter fits))
name-lacks (Member group node) fits =
    lacks-append unslashed (codes "member:") (decimal group ++ (codes ":" ++ decimal node)) refl
    (lacks-append unslashed (decimal group) (codes ":" ++ decimal node) (slash-lacks group (byte64 group fits.0)) (slash-lacks node (node64 node fits.1)))
name-lacks Interval fits = refl
name-lacks Sensor fits = refl
name-lacks Battery fits = refl

abbrev pub solid_byte : ℕ → Bool
solid_byte b = ltb 32 b

pub name-solid : (n : Name) → NameFits n → Solid (name_word n)
name-solid Switch fits = refl
name-solid Level fits = refl
name-solid Lock fits = refl
name-solid Mode fits = refl
name-solid (Setpoint kind) fits = lacks-append solid_byte (codes "setpoint:") (decimal kind) refl (number-solid kind (byte64 kind fits))
name-solid (Config parameter) fits = lacks-append solid_byte (codes "config:") (decimal parameter) refl (number-solid parameter (byte64 parameter fits))
name-solid (Member group node) fits =
    lacks-append solid_byte (codes "member:") (decimal group ++ (codes ":" ++ decimal node)) refl
    (lacks-append solid_byte (decimal group) (codes ":" ++ decimal node) (number-solid group (byte64 group fits.0)) (number-solid node (node64 node fits.1)))
name-solid Interval fits = refl
name-solid Sensor fits = refl
name-solid Battery fits = refl

pub end64 : (p : Property) → PropertyFits p → p.end < 2 ^ 64
end64 p fits = omega (arith, fits.0)

-- the property of the parts of its word
abbrev property_of : List (List ℕ) → Property
property_of ps = make_property (end_back (at 0 ps)) (name_back (at 1 ps))

pub property-back : (p : Property) → PropertyFits p → property_back (property_word p) ≡ p
unfolding property_back
property-back p fits =
    ap property_of (parts-joined 47 (decimal p.end) (name_word p.name ∷ []) (slash-lacks p.end (end64 p fits), (name-lacks p.name fits.1, tt)))
    ∙ ap₂ make_property (end-back p.end fits.0) (name-back p.name fits.1)

pub property-solid : (p : Property) → PropertyFits p → Solid (property_word p)
property-solid p fits =
    lacks-append solid_byte (decimal p.end) (codes "/" ++ name_word p.name) (number-solid p.end (end64 p fits)) (name-solid p.name fits.1)

pub setting-back : (s : Setting) → SettingFits s → setting_back (property_word s.property) (decimal s.value) ≡ s
unfolding setting_back
setting-back s fits = ap₂ make_setting (property-back s.property fits.0) (four-back s.value fits.1)
