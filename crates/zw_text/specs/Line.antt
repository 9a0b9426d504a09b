-- The lines of a scenario and of `replay`: which words each has, and what a text is read as from left to right. All of it is this project's own rule.
use Rattle.std.specs.Prelude.{◌≡◌, ℕ, ◌≤◌, ◌⊎◌, if◌then◌else◌, Bool, true, false, List, [], ◌∷◌, length, codes, decimal, bytes_eq, find, Option, Some, None, Result, Ok, Err, IsTrue}
use Rattle.hex.specs.Hex.{decode_of}
use Rattle.zw_base.specs.declared.order.What.{What}
use Rattle.zw_base.specs.declared.order.What.TheVariants.{Value, Mode, Setpoint, Config, Bulk, Associate, Dissociate, Interval, Comfort}
use Rattle.zw_base.specs.declared.order.Word.{Word}
use Rattle.zw_base.specs.declared.order.Word.TheVariants.{On, Off, Level}
use Rattle.zw_words.specs.declared.fault.LineFault.{LineFault}
use Rattle.zw_words.specs.declared.fault.LineFault.TheVariants.{Unknown}
use Rattle.zw_words.specs.Words.{is_remark, without_return, words}
use Rattle.zw_words.specs.Forms.{between_in, hex_in, node_in, side_in, target_in, value_in}
use Rattle.zw_words.specs.Texts.{side_word, target_word, value_word}
use Rattle.zw_words.specs.Fields.{◌>>=◌, ends, last, make, next, of_text}
use Rattle.zw_text.specs.declared.line.Line.{Line}
use Rattle.zw_text.specs.declared.line.Line.TheVariants.{Command, Tick, Cut, Stall, Drop, Garble, Collide, Send, Get, Join, Interview, Lose, LoseAck, Repeat, Wake, Cancel, Link, Unlink, Discover, Neighbours, Failed, Probe, Local, Show, Store, Restart}
use Rattle.zw_text.specs.declared.line.ReplayLine.{ReplayLine}
use Rattle.zw_text.specs.declared.line.ReplayLine.TheVariants.{Plain, Chip}
use Rattle.zw_text.specs.declared.word.LineWord.{LineWord}
use Rattle.zw_text.specs.declared.word.LineWord.TheVariants.{Set as WSet, Mode as WMode, Setpoint as WSetpoint, Comfort as WComfort, Config as WConfig, Bulk as WBulk, Assoc as WAssoc, Unassoc as WUnassoc, Interval as WInterval, Tick as WTick, Cut as WCut, Stall as WStall, Drop as WDrop, Garble as WGarble, Collide as WCollide, Send as WSend, Get as WGet, Join as WJoin, Interview as WInterview, Lose as WLose, LoseAck as WLoseAck, Repeat as WRepeat, Wake as WWake, Cancel as WCancel, Link as WLink, Unlink as WUnlink, Discover as WDiscover, Neighbours as WNeighbours, Failed as WFailed, Probe as WProbe, Local as WLocal, Show as WShow, Store as WStore, Restart as WRestart}

-- the text of a first word
abbrev pub word_text : LineWord → List ℕ
word_text WSet = codes "set"
word_text WMode = codes "mode"
word_text WSetpoint = codes "setpoint"
word_text WComfort = codes "comfort"
word_text WConfig = codes "config"
word_text WBulk = codes "bulk"
word_text WAssoc = codes "assoc"
word_text WUnassoc = codes "unassoc"
word_text WInterval = codes "interval"
word_text WTick = codes "tick"
word_text WCut = codes "cut"
word_text WStall = codes "stall"
word_text WDrop = codes "drop"
word_text WGarble = codes "garble"
word_text WCollide = codes "collide"
word_text WSend = codes "send"
word_text WGet = codes "get"
word_text WJoin = codes "join"
word_text WInterview = codes "interview"
word_text WLose = codes "lose"
word_text WLoseAck = codes "loseack"
word_text WRepeat = codes "repeat"
word_text WWake = codes "wake"
word_text WCancel = codes "cancel"
word_text WLink = codes "link"
word_text WUnlink = codes "unlink"
word_text WDiscover = codes "discover"
word_text WNeighbours = codes "neighbours"
word_text WFailed = codes "failed"
word_text WProbe = codes "probe"
word_text WLocal = codes "local"
word_text WShow = codes "show"
word_text WStore = codes "store"
word_text WRestart = codes "restart"

-- all first words
abbrev pub line_words_all : List LineWord
line_words_all = WSet ∷ WMode ∷ WSetpoint ∷ WComfort ∷ WConfig ∷ WBulk ∷ WAssoc ∷ WUnassoc ∷ WInterval ∷ WTick ∷ WCut ∷ WStall ∷ WDrop ∷ WGarble ∷ WCollide ∷ WSend ∷ WGet ∷ WJoin ∷ WInterview ∷ WLose ∷ WLoseAck ∷ WRepeat ∷ WWake ∷ WCancel ∷ WLink ∷ WUnlink ∷ WDiscover ∷ WNeighbours ∷ WFailed ∷ WProbe ∷ WLocal ∷ WShow ∷ WStore ∷ WRestart ∷ []

-- the first word that these bytes are
unfoldable pub line_word_in : List ℕ → Option LineWord
line_word_in word = find (λ w. bytes_eq word (word_text w)) line_words_all

-- whether a word begins lines of `replay` too
abbrev pub is_replayed : LineWord → Bool
is_replayed WSet = true
is_replayed WMode = true
is_replayed WSetpoint = true
is_replayed WComfort = true
is_replayed WConfig = true
is_replayed WBulk = true
is_replayed WAssoc = true
is_replayed WUnassoc = true
is_replayed WInterval = true
is_replayed WTick = true
is_replayed WSend = true
is_replayed WGet = true
is_replayed WJoin = true
is_replayed WInterview = true
is_replayed WCancel = true
is_replayed WNeighbours = true
is_replayed WFailed = true
is_replayed WProbe = true
is_replayed WStore = true
is_replayed _ = false

-- ---- which words a line has

-- the first word of a line
abbrev pub what_word : What → LineWord
what_word (Value word) = WSet
what_word (Mode mode) = WMode
what_word (Setpoint kind tenths) = WSetpoint
what_word (Config parameter value) = WConfig
what_word (Bulk offset values) = WBulk
what_word (Associate group member) = WAssoc
what_word (Dissociate group member) = WUnassoc
what_word (Interval seconds) = WInterval
what_word (Comfort mode kind tenths) = WComfort

abbrev pub first_word : Line → LineWord
first_word (Command order) = what_word order.what
first_word (Tick count) = WTick
first_word (Cut size) = WCut
first_word (Stall ticks) = WStall
first_word (Drop side) = WDrop
first_word (Garble side place mask) = WGarble
first_word Collide = WCollide
first_word (Send node word) = WSend
first_word (Get node end) = WGet
first_word (Join node) = WJoin
first_word (Interview node) = WInterview
first_word (Lose count) = WLose
first_word (LoseAck count) = WLoseAck
first_word (Repeat frame) = WRepeat
first_word (Wake node) = WWake
first_word (Cancel command) = WCancel
first_word (Link first second) = WLink
first_word (Unlink first second) = WUnlink
first_word Discover = WDiscover
first_word (Neighbours node) = WNeighbours
first_word (Failed node) = WFailed
first_word Probe = WProbe
first_word (Local node value) = WLocal
first_word (Show node) = WShow
first_word (Store node) = WStore
first_word Restart = WRestart

-- a number from the least to the most
abbrev pub IsIn : ℕ → ℕ → ℕ → Type 0
IsIn least most n = (least ≤ n) × (n ≤ most)

-- a node from the least one that is allowed on
abbrev pub IsNode : ℕ → ℕ → Type 0
IsNode least n = IsIn least 232 n

-- a level is up to 99
abbrev pub IsValue : Word → Type 0
IsValue On = Unit {0}
IsValue Off = Unit {0}
IsValue (Level level) = level ≤ 99

-- what stands after the node of an order; bytes may be in hex of either case
abbrev pub WhatWords : What → List (List ℕ) → Type 0
WhatWords (Value word) ws = IsValue word × (ws ≡ value_word word ∷ [])
WhatWords (Mode mode) ws = (mode ≤ 255) × (ws ≡ decimal mode ∷ [])
WhatWords (Setpoint kind tenths) ws = (kind ≤ 15) × (tenths ≤ 65535) × (ws ≡ decimal kind ∷ decimal tenths ∷ [])
WhatWords (Config parameter value) ws = (parameter ≤ 255) × (value ≤ 999999999) × (ws ≡ decimal parameter ∷ decimal value ∷ [])
WhatWords (Bulk offset values) ws = (offset ≤ 255) × (1 ≤ length values) × (length values ≤ 512) × ((hex : List ℕ) × (decode_of hex ≡ Ok values) × (ws ≡ decimal offset ∷ hex ∷ []))
WhatWords (Associate group member) ws = IsIn 1 255 group × IsNode 1 member × (ws ≡ decimal group ∷ decimal member ∷ [])
WhatWords (Dissociate group member) ws = IsIn 1 255 group × IsNode 1 member × (ws ≡ decimal group ∷ decimal member ∷ [])
WhatWords (Interval seconds) ws = (seconds ≤ 999999999) × (ws ≡ decimal seconds ∷ [])
WhatWords (Comfort mode kind tenths) ws = (mode ≤ 255) × (kind ≤ 15) × (tenths ≤ 65535) × (ws ≡ decimal mode ∷ decimal kind ∷ decimal tenths ∷ [])

-- the end point that an order may name: only `set` has one
abbrev pub EndStands : What → ℕ → Type 0
EndStands (Value word) end = end ≤ 127
EndStands _ end = end ≡ 0

-- what stands after the first word of a line, each number in its range; the node of an order is 2 to 232
abbrev pub LineWords : Line → List (List ℕ) → Type 0
LineWords (Command order) ws =
    IsNode 2 order.node × EndStands order.what order.end × ((more : List (List ℕ)) × WhatWords order.what more × (ws ≡ target_word order.node order.end ∷ more))
LineWords (Tick count) ws = IsIn 1 100000 count × (ws ≡ decimal count ∷ [])
LineWords (Cut size) ws = (size ≤ 4096) × (ws ≡ decimal size ∷ [])
LineWords (Stall ticks) ws = IsIn 1 1000 ticks × (ws ≡ decimal ticks ∷ [])
LineWords (Drop side) ws = ws ≡ side_word side ∷ []
LineWords (Garble side place mask) ws = (place ≤ 255) × IsIn 1 255 mask × (ws ≡ side_word side ∷ decimal place ∷ decimal mask ∷ [])
LineWords Collide ws = ws ≡ []
LineWords (Send node word) ws = IsNode 1 node × IsValue word × (ws ≡ decimal node ∷ value_word word ∷ [])
LineWords (Get node end) ws = IsNode 1 node × (end ≤ 127) × (ws ≡ target_word node end ∷ [])
LineWords (Join node) ws = IsNode 1 node × (ws ≡ decimal node ∷ [])
LineWords (Interview node) ws = IsNode 1 node × (ws ≡ decimal node ∷ [])
LineWords (Lose count) ws = IsIn 1 1000 count × (ws ≡ decimal count ∷ [])
LineWords (LoseAck count) ws = IsIn 1 1000 count × (ws ≡ decimal count ∷ [])
LineWords (Repeat frame) ws = IsIn 1 999999999 frame × (ws ≡ decimal frame ∷ [])
LineWords (Wake node) ws = IsNode 1 node × (ws ≡ decimal node ∷ [])
LineWords (Cancel command) ws = IsIn 1 999999999 command × (ws ≡ decimal command ∷ [])
LineWords (Link first second) ws = IsNode 1 first × IsNode 1 second × (ws ≡ decimal first ∷ decimal second ∷ [])
LineWords (Unlink first second) ws = IsNode 1 first × IsNode 1 second × (ws ≡ decimal first ∷ decimal second ∷ [])
LineWords Discover ws = ws ≡ []
LineWords (Neighbours node) ws = IsNode 1 node × (ws ≡ decimal node ∷ [])
LineWords (Failed node) ws = IsNode 1 node × (ws ≡ decimal node ∷ [])
LineWords Probe ws = ws ≡ []
LineWords (Local node value) ws = IsNode 1 node × (value ≤ 255) × (ws ≡ decimal node ∷ decimal value ∷ [])
LineWords (Show node) ws = IsNode 1 node × (ws ≡ decimal node ∷ [])
LineWords (Store node) ws = IsNode 1 node × (ws ≡ decimal node ∷ [])
LineWords Restart ws = ws ≡ []

-- a text that may be a line: at most 1,024 bytes, a carriage return included, and no remark
pub record MayBeLine (text : List ℕ) : Type 0 where
  pub short : length text ≤ 1024
  pub no_remark : is_remark text ≡ false

-- the text is that of the line
pub record LineText (text : List ℕ) (line : Line) : Type 0 where
  pub may_be : MayBeLine text
  pub rest : List (List ℕ)
  pub stands : LineWords line rest
  pub words_are : words (without_return text) ≡ word_text (first_word line) ∷ rest

-- the text stands for no line, and is no fault: it has no word, or is a remark
pub record IsNoLine (text : List ℕ) : Type 0 where
  pub short : length text ≤ 1024
  pub empty : (is_remark text ≡ true) ⊎ (words (without_return text) ≡ [])

-- the text is that of the line of `replay`
abbrev pub ReplayText : List ℕ → ReplayLine → Type 0
ReplayText text (Plain line) = LineText text line × IsTrue (is_replayed (first_word line))
ReplayText text (Chip bytes) = MayBeLine text × (1 ≤ length bytes) × (length bytes ≤ 508) × ((hex : List ℕ) × (decode_of hex ≡ Ok bytes) × (words (without_return text) ≡ codes "chip" ∷ hex ∷ []))

-- ---- reading from left to right, with the first fault

-- an order to the node itself
abbrev pub order_line : ℕ → What → Line
order_line node what = Command (record { node = node; end = 0; what = what })

-- the words of each line after the first
unfoldable pub line_by : LineWord → List (List ℕ) → Result Line LineFault
line_by WSet ws = do
  target ← next (target_in 2) ws
  make (λ word. Command (record { node = target.value.node; end = target.value.end; what = Value word })) (last value_in target.rest)
line_by WMode ws = do
  node ← next (node_in 2) ws
  make (λ mode. order_line node.value (Mode mode)) (last (between_in 0 255) node.rest)
line_by WSetpoint ws = do
  node ← next (node_in 2) ws
  kind ← next (between_in 0 15) node.rest
  make (λ tenths. order_line node.value (Setpoint kind.value tenths)) (last (between_in 0 65535) kind.rest)
line_by WComfort ws = do
  node ← next (node_in 2) ws
  mode ← next (between_in 0 255) node.rest
  kind ← next (between_in 0 15) mode.rest
  make (λ tenths. order_line node.value (Comfort mode.value kind.value tenths)) (last (between_in 0 65535) kind.rest)
line_by WConfig ws = do
  node ← next (node_in 2) ws
  parameter ← next (between_in 0 255) node.rest
  make (λ value. order_line node.value (Config parameter.value value)) (last (between_in 0 999999999) parameter.rest)
line_by WBulk ws = do
  node ← next (node_in 2) ws
  offset ← next (between_in 0 255) node.rest
  make (λ values. order_line node.value (Bulk offset.value values)) (last (hex_in 1 512) offset.rest)
line_by WAssoc ws = do
  node ← next (node_in 2) ws
  group ← next (between_in 1 255) node.rest
  make (λ member. order_line node.value (Associate group.value member)) (last (node_in 1) group.rest)
line_by WUnassoc ws = do
  node ← next (node_in 2) ws
  group ← next (between_in 1 255) node.rest
  make (λ member. order_line node.value (Dissociate group.value member)) (last (node_in 1) group.rest)
line_by WInterval ws = do
  node ← next (node_in 2) ws
  make (λ seconds. order_line node.value (Interval seconds)) (last (between_in 0 999999999) node.rest)
line_by WTick ws = make Tick (last (between_in 1 100000) ws)
line_by WCut ws = make Cut (last (between_in 0 4096) ws)
line_by WStall ws = make Stall (last (between_in 1 1000) ws)
line_by WDrop ws = make Drop (last side_in ws)
line_by WGarble ws = do
  side ← next side_in ws
  place ← next (between_in 0 255) side.rest
  make (Garble side.value place.value) (last (between_in 1 255) place.rest)
line_by WCollide ws = make (λ _. Collide) (ends ws)
line_by WSend ws = do
  node ← next (node_in 1) ws
  make (Send node.value) (last value_in node.rest)
line_by WGet ws = make (λ target. Get target.node target.end) (last (target_in 1) ws)
line_by WJoin ws = make Join (last (node_in 1) ws)
line_by WInterview ws = make Interview (last (node_in 1) ws)
line_by WLose ws = make Lose (last (between_in 1 1000) ws)
line_by WLoseAck ws = make LoseAck (last (between_in 1 1000) ws)
line_by WRepeat ws = make Repeat (last (between_in 1 999999999) ws)
line_by WWake ws = make Wake (last (node_in 1) ws)
line_by WCancel ws = make Cancel (last (between_in 1 999999999) ws)
line_by WLink ws = do
  first ← next (node_in 1) ws
  make (Link first.value) (last (node_in 1) first.rest)
line_by WUnlink ws = do
  first ← next (node_in 1) ws
  make (Unlink first.value) (last (node_in 1) first.rest)
line_by WDiscover ws = make (λ _. Discover) (ends ws)
line_by WNeighbours ws = make Neighbours (last (node_in 1) ws)
line_by WFailed ws = make Failed (last (node_in 1) ws)
line_by WProbe ws = make (λ _. Probe) (ends ws)
line_by WLocal ws = do
  node ← next (node_in 1) ws
  make (Local node.value) (last (between_in 0 255) node.rest)
line_by WShow ws = make Show (last (node_in 1) ws)
line_by WStore ws = make Store (last (node_in 1) ws)
line_by WRestart ws = make (λ _. Restart) (ends ws)

-- the line of a first word, which has to be one
abbrev pub line_of_word : Option LineWord → List (List ℕ) → Result Line LineFault
line_of_word None ws = Err Unknown
line_of_word (Some word) ws = line_by word ws

-- the line that the words of a text are
abbrev pub line_from : List ℕ → List (List ℕ) → Result Line LineFault
line_from word ws = line_of_word (line_word_in word) ws

-- what a text is read as: a line, none, or the first fault
abbrev pub line_at : List ℕ → Result (Option Line) LineFault
line_at text = of_text line_from text

-- the same for the lines of `replay`
abbrev pub replay_word : Option LineWord → Option LineWord
replay_word None = None
replay_word (Some word) = if is_replayed word then Some word else None

abbrev pub replay_from : List ℕ → List (List ℕ) → Result ReplayLine LineFault
replay_from word ws =
    if bytes_eq word (codes "chip") then make Chip (last (hex_in 1 508) ws)
    else make Plain (line_of_word (replay_word (line_word_in word)) ws)

abbrev pub replay_at : List ℕ → Result (Option ReplayLine) LineFault
replay_at text = of_text replay_from text
