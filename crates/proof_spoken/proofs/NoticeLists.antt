-- What is read of a notice: an update of a node tells what the node's kind lists, and no other notice tells a list.
use Rattle.std.proofs.Common.{◌≡◌, ℕ, ◌&&◌, Bool, true, false, List, refl, sym, subst, ◌∙◌}
use Rattle.std.specs.Prelude.{Some, Ok, Err, nat_le}
use Rattle.chip_functions.specs.declared.fault.BodyFault.{BodyFault}
use Rattle.chip_functions.specs.declared.fault.BodyFault.TheVariants.{UnknownFunction, BadField}
use Rattle.chip_functions.specs.declared.function.TheConstants.{APPLICATION_COMMAND_HANDLER, SEND_DATA, ADD_NODE, APPLICATION_UPDATE}
use Rattle.chip_functions.specs.declared.notice.Notice.{Notice}
use Rattle.chip_functions.specs.declared.notice.Notice.TheVariants.{ApplicationUpdate}
use Rattle.chip_functions.specs.declared.notice.Update.{Update}
use Rattle.chip_functions.specs.declared.notice.Update.TheVariants.{Received, RequestFailed}
use Rattle.chip_functions.specs.Place.{Place, start_of}
use Rattle.chip_functions.specs.Field.{Field, read_as}
use Rattle.chip_functions.specs.Notice.{handler, callback, update, handler_at, callback_at, add_notice_at, update_at, received_at, request_failed_at, notice_at, notice_of, notice_body}
use Rattle.chip_functions.specs.AddNode.{add_notice}
use Rattle.chip_functions.proofs.FieldLaws.{bind_ok, ok_is, as_takes}
use Rattle.chip_functions.proofs.RowLaws.{row_cases, no_row}
use Rattle.chip_sim.specs.Events.{update_of}
use Rattle.device_kinds.specs.declared.kind.Kind.{Kind}
use Rattle.device_kinds.specs.declared.kind.Kind.TheVariants.{Relay, Switch, Dimmer, Lock, Sensor, Thermostat, Strip, Configurable}
use Rattle.device_kinds.specs.Kind.{classes_of}
use Rattle.proof_once.specs.outside_model.Results.{profile_of}

-- ---- the update of a node of a kind

abbrev told_of : ℕ → Kind → Notice
told_of n kind = ApplicationUpdate (update_of n (Some (profile_of kind)))

-- it is read where the node's number is one
kind_read : (kind : Kind) (n : ℕ) → (nat_le 1 n && nat_le n 232) ≡ true → notice_of APPLICATION_UPDATE (notice_body (told_of n kind)) ≡ Ok (told_of n kind)
unfolding notice_of notice_at update_at received_at
kind_read Relay n is = rw is refl
kind_read Switch n is = rw is refl
kind_read Dimmer n is = rw is refl
kind_read Lock n is = rw is refl
kind_read Sensor n is = rw is refl
kind_read Thermostat n is = rw is refl
kind_read Strip n is = rw is refl
kind_read Configurable n is = rw is refl

kind_refused : (kind : Kind) (n : ℕ) → (nat_le 1 n && nat_le n 232) ≡ false → notice_of APPLICATION_UPDATE (notice_body (told_of n kind)) ≡ Err (BadField 1)
unfolding notice_of notice_at update_at received_at
kind_refused kind n is = rw is refl

wrong : (fault : BodyFault) (v : Notice) → Err fault ≡ Ok v → ⊥
wrong fault v is = absurd cc

kind_is : (kind : Kind) (n : ℕ) (v : Notice) → notice_of APPLICATION_UPDATE (notice_body (told_of n kind)) ≡ Ok v → told_of n kind ≡ v
kind_is kind n v is = by (nat_le 1 n && nat_le n 232) refl
  where
    by : (b : Bool) → (nat_le 1 n && nat_le n 232) ≡ b → told_of n kind ≡ v
    by true e = ok_is (told_of n kind) v (sym (kind_read kind n e) ∙ is)
    by false e = absurd (wrong (BadField 1) v (sym (kind_refused kind n e) ∙ is))

-- what each node lists
module _ (listing : ℕ → List ℕ) where
  abbrev pub UpdateTells : Update → Type 0
  UpdateTells (Received n basic generic specific classes) = classes ≡ listing n
  UpdateTells RequestFailed = Unit {0}

  -- where a notice tells a class list, it is that of its node
  abbrev pub NoticeTells : Notice → Type 0
  NoticeTells (ApplicationUpdate update) = UpdateTells update
  NoticeTells notice = Unit {0}

  -- ---- other notices

  -- what a row reads
  read_row : {A V : Type 0} (field : Field A) (make : A → V) (P : V → Type 0) (p q : Place) (v : V) → ((x : A) → P (make x)) → read_as make (field.read p) ≡ Ok (v, q) → P v
  read_row field make P p q v gives is = let a = as_takes make (field.read p) v q is in subst P a.2 (gives a.0)

  at_others : (function : ℕ) (p q : Place) (v : Notice) → (function ≡ APPLICATION_UPDATE → ⊥) → notice_at function p ≡ Ok (v, q) → NoticeTells v
  unfolding notice_at handler_at callback_at add_notice_at update_at
  at_others function p q v other e =
      row_cases function APPLICATION_COMMAND_HANDLER _ _ _ e (λ f h. read_row handler _ NoticeTells p q v (λ x. tt) h) (λ e.
      row_cases function SEND_DATA _ _ _ e (λ f h. read_row callback _ NoticeTells p q v (λ x. tt) h) (λ e.
      row_cases function ADD_NODE _ _ _ e (λ f h. read_row add_notice _ NoticeTells p q v (λ x. tt) h) (λ e.
      row_cases function APPLICATION_UPDATE _ _ _ e (λ f h. absurd (other f)) (λ e.
      absurd (no_row (UnknownFunction function) v q e)))))

  pub others_tell : (function : ℕ) (body : List ℕ) (v : Notice) → (function ≡ APPLICATION_UPDATE → ⊥) → notice_of function body ≡ Ok v → NoticeTells v
  unfolding notice_of
  others_tell function body v other is =
      let a = bind_ok (notice_at function (start_of body)) (λ x. Ok x.0) v is in
      subst NoticeTells (ok_is a.0.0 v a.2) (at_others function (start_of body) a.0.1 a.0.0 other a.1)

  -- ---- updates

  pub failed_tells : (v : Notice) → notice_of APPLICATION_UPDATE (notice_body (ApplicationUpdate RequestFailed)) ≡ Ok v → NoticeTells v
  unfolding notice_of notice_at update_at request_failed_at
  failed_tells v is = subst NoticeTells (ok_is (ApplicationUpdate RequestFailed) v is) tt

  pub kind_tells : (n : ℕ) (kind : Kind) → classes_of kind ≡ listing n → (v : Notice) → notice_of APPLICATION_UPDATE (notice_body (ApplicationUpdate (update_of n (Some (profile_of kind))))) ≡ Ok v
      → NoticeTells v
  kind_tells n kind lists v is = subst NoticeTells (kind_is kind n v is) lists
