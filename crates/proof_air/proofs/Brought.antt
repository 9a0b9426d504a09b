-- What the chip's frames bring: an ApplicationCommandHandler its own payload, and all other frames none.
use Rattle.std.proofs.Common.{◌≡◌, ◌≤◌, ◌⊎◌, ℕ, ◌&&◌, Bool, true, false, inl, inr, List, [], ◌∷◌, ◌++◌, length, refl, sym, ap, subst, ◌∙◌, append-nil, nat_le}
use Rattle.std.proofs.lemmas.Bool.{leb-true}
use Rattle.std.specs.Prelude.{Result, Ok, Err}
use Rattle.std.specs.List.{flat_map}
use Rattle.serial_frame.specs.Frame.{checksum}
use Rattle.serial_frame.specs.Items.{counted_of, unit_text}
use Rattle.serial_frame.specs.declared.frame.Kind.TheVariants.{Response as of_response}
use Rattle.serial_frame.specs.declared.unit.Unit.TheVariants.{Framed}
use Rattle.chip_functions.specs.declared.fault.BodyFault.{BodyFault}
use Rattle.chip_functions.specs.declared.fault.BodyFault.TheVariants.{BadField}
use Rattle.chip_functions.specs.declared.function.TheConstants.{APPLICATION_COMMAND_HANDLER, SEND_DATA, APPLICATION_UPDATE}
use Rattle.chip_functions.specs.declared.notice.Notice.{Notice}
use Rattle.chip_functions.specs.declared.notice.Notice.TheVariants.{ApplicationCommandHandler, SendData, ApplicationUpdate}
use Rattle.chip_functions.specs.declared.notice.Update.{Update}
use Rattle.chip_functions.specs.declared.notice.TransmitStatus.{TransmitStatus}
use Rattle.chip_functions.specs.Place.{Reading, ◌>>=◌, start_of}
use Rattle.chip_functions.specs.Field.{IsNode, read_as}
use Rattle.chip_functions.specs.Notice.{callback, update, notice_function, notice_body, handler_at, callback_at, update_at, notice_at, notice_of}
use Rattle.chip_functions.proofs.NoticeLaws.{notice_only}
use Rattle.chip_sim.specs.Answers.{notice_frame}
use Rattle.chip_sim.specs.Requests.{callback_frame}
use Rattle.chip_sim.specs.declared.out.Sending.{Sending}
use Rattle.zw_text.specs.declared.entry.Entry.{Entry}
use Rattle.law_wire.specs.law_transcript.Units.{Carried, read_well, bringing_of, bringing_in}
use Rattle.law_wire.specs.law_transcript.Carrying.{ArePicked, heard_home, WereHeard}
use Rattle.proof_walk.proofs.Bodies.{body_is}
use Rattle.proof_air.specs.Carrying.{Brings}
use Rattle.proof_air.proofs.Judging.{both_true}

-- ---- a notice is read as it was written

-- what is brought by what is read
abbrev brought_of : Result Notice BodyFault → List Carried
brought_of read = flat_map bringing_of (read_well read)

notice_brings : (n : Notice) → bringing_in (unit_text (Framed (notice_frame n))) ≡ brought_of (notice_of (notice_function n) (notice_body n))
notice_brings n =
    ap (λ (b : List ℕ). brought_of (notice_of (notice_function n) b)) (body_is (notice_body n) (notice_function n) (checksum (counted_of (notice_frame n))))

-- ---- frames that bring nothing

none_brought : {A : Type 0} (make : A → Notice) → ((x : A) → bringing_of (make x) ≡ []) → (r : Reading A) → brought_of (read_as make r >>= λ x. Ok x.0) ≡ []
none_brought make none (Ok x) = ap (λ (l : List Carried). l ++ []) (none x.0)
none_brought make none (Err fault) = refl

callback_none : (body : List ℕ) → brought_of (notice_of SEND_DATA body) ≡ []
unfolding notice_of notice_at callback_at
callback_none body = none_brought (λ (x : ℕ × TransmitStatus). SendData x.0 x.1) (λ x. refl) (callback.read (start_of body))

update_none : (body : List ℕ) → brought_of (notice_of APPLICATION_UPDATE body) ≡ []
unfolding notice_of notice_at update_at
update_none body = none_brought (λ (u : Update). ApplicationUpdate u) (λ u. refl) (update.read (start_of body))

these : (past : List Entry) (brought is : List Carried) → brought ≡ is → WereHeard (heard_home past) is → WereHeard (heard_home past) brought
these past brought is same were = subst (λ (l : List Carried). WereHeard (heard_home past) l) (sym same) were

pub response_brings : (past : List Entry) (func : ℕ) (body : List ℕ) → Brings past (record { kind = of_response; func = func; body = body })
response_brings past func body = tt

pub callback_bringing : (sending : Sending) (status : TransmitStatus) → bringing_in (unit_text (Framed (callback_frame sending status))) ≡ []
callback_bringing sending status = notice_brings (SendData sending.callback_id status) ∙ callback_none (notice_body (SendData sending.callback_id status))

pub update_bringing : (u : Update) → bringing_in (unit_text (Framed (notice_frame (ApplicationUpdate u)))) ≡ []
update_bringing u = notice_brings (ApplicationUpdate u) ∙ update_none (notice_body (ApplicationUpdate u))

pub callback_brings : (past : List Entry) (sending : Sending) (status : TransmitStatus) → Brings past (callback_frame sending status)
callback_brings past sending status = these past _ [] (callback_bringing sending status) tt

pub update_brings : (past : List Entry) (u : Update) → Brings past (notice_frame (ApplicationUpdate u))
update_brings past u = these past _ [] (update_bringing u) tt

-- ---- a frame that brings a payload

-- from no node it is not read
not_read : (source : ℕ) (payload : List ℕ) → nat_le 1 source && nat_le source 232 ≡ false
    → notice_of APPLICATION_COMMAND_HANDLER (notice_body (ApplicationCommandHandler 0 source payload)) ≡ Err (BadField 1)
unfolding notice_of notice_at handler_at
not_read source payload none = rw none refl

-- it brings its payload, or nothing
abbrev pub BringsOwn : ℕ → List ℕ → Type 0
BringsOwn source payload =
    let brought : List Carried = bringing_in (unit_text (Framed (notice_frame (ApplicationCommandHandler 0 source payload)))) in
    (brought ≡ []) ⊎ (brought ≡ record { node = source; payload = payload } ∷ [])

pub handler_bringing : (source : ℕ) (payload : List ℕ) → 1 ≤ length payload → BringsOwn source payload
handler_bringing source payload some = by (nat_le 1 source && nat_le source 232) refl
  where
    by : (b : Bool) → nat_le 1 source && nat_le source 232 ≡ b → BringsOwn source payload
    by true is =
        let parts = both_true (nat_le 1 source) (nat_le source 232) is in
        let node : IsNode source = (leb-true 1 source parts.0, leb-true source 232 parts.1) in
        let read : notice_of APPLICATION_COMMAND_HANDLER (notice_body (ApplicationCommandHandler 0 source payload)) ≡ Ok (ApplicationCommandHandler 0 source payload)
        = notice_only APPLICATION_COMMAND_HANDLER (notice_body (ApplicationCommandHandler 0 source payload)) (ApplicationCommandHandler 0 source payload)
        (record { row = (node, some); function = refl; tail = []; text = sym (append-nil (notice_body (ApplicationCommandHandler 0 source payload))) }) in
        inr (notice_brings (ApplicationCommandHandler 0 source payload) ∙ ap brought_of read)
    by false is = inl (notice_brings (ApplicationCommandHandler 0 source payload) ∙ ap brought_of (not_read source payload is))

pub handler_brings : (past : List Entry) (source : ℕ) (payload : List ℕ) → 1 ≤ length payload → ArePicked (record { node = source; payload = payload } ∷ []) (heard_home past)
    → Brings past (notice_frame (ApplicationCommandHandler 0 source payload))
handler_brings past source payload some picked = by (handler_bringing source payload some)
  where
    by : BringsOwn source payload → Brings past (notice_frame (ApplicationCommandHandler 0 source payload))
    by (inl none) = these past _ [] none tt
    by (inr one) = these past _ (record { node = source; payload = payload } ∷ []) one (picked, tt)
