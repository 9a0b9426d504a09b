-- The device of a course makes of its sessions what is asked of it, as it hears a frame of the course, ticks, or is woken.
use Rattle.std.proofs.Common.{◌≡◌, ℕ, ◌<◌, ◌==◌, Bool, true, Some, None, List, [], ◌∷◌, refl, ap, sym, ◌∙◌, subst, arith}
use Rattle.std.proofs.lemmas.Bool.{eq-eqb}
use Rattle.proof_course.specs.Flying.{Flight}
use Rattle.proof_course.specs.SessionFacts.{CourseFacts}
use Rattle.proof_course.specs.Sessions.{Course, Cargo}
use Rattle.air_frames.specs.declared.frame.Heading.{Heading}
use Rattle.air_frames.specs.declared.frame.Heading.TheVariants.{Outward}
use Rattle.air_frames.specs.Ages.{refusal_of}
use Rattle.air_frames.specs.Flown.{Flown}
use Rattle.air_frames.specs.Frames.{landing, next_of, remembered}
use Rattle.device_sim.specs.State.{State}
use Rattle.device_sim.specs.Event.{Hears, device_after}
use Rattle.mesh_sim.specs.Fates.{Mesh}
use Rattle.proof_traffic.proofs.ChangesOutside.{place_is}
use Rattle.proof_course_plain.specs.Air.{BearsBy, OnAir, Lands, WasThere}
use Rattle.proof_course_plain.specs.Judged.{Judges, JudgesEach}
use Rattle.proof_course_plain.specs.Making.{Names}
use Rattle.proof_course_plain.specs.Meaning.{Asked}
use Rattle.proof_course_plain.specs.Mesh.{InMesh}
use Rattle.proof_course_plain.proofs.Arrivals.{Laws, arriving_lands, arriving_named, named_again}
use Rattle.proof_course_plain.proofs.JudgedMessages.{Judging, ticks_judge, wakes_judge}
use Rattle.proof_course_plain.proofs.Replies.{stands_of}

module _ (laws : Laws) (judges : Judging) (node : ℕ) (orders : List Asked) (c : Course) (m : Mesh) (is : InMesh node orders c m) (course : CourseFacts c) (within : node < 233) where
  abbrev device : State
  device = is.device.device

  -- a frame of the course
  heard : (frame : Flown) (flight : Flight Cargo) (drawn : List ℕ) → BearsBy Outward (frame.node == node) orders c.host.commands frame flight → Names c.device flight.cargo → frame.node ≡ node → device.awake ≡ true
      → Judges orders c.host.commands device (device_after device (Hears frame.payload drawn))
  heard frame flight drawn bears names own awake =
      let means = subst (λ (b : Bool). BearsBy Outward b orders c.host.commands frame flight) (eq-eqb frame.node node own) bears in
      judges orders c.host.commands c device flight.cargo frame.payload drawn is.device.at awake means.1 names
      (is.made is.device.place device is.device.stands (place_is node m.devices is.device.place device is.device.first is.device.stands))

  arrives : (frame : Flown) (drawn : List ℕ) → next_of m.air.frames ≡ Some frame → frame.node ≡ node → frame.heading ≡ Outward → device.awake ≡ true → Judges orders c.host.commands device (device_after device (Hears frame.payload drawn))
  arrives frame drawn next own outward awake = by is.flights is.on_air
    where
      by : (flights : List Flown) → OnAir node orders c.host c.air c.old is.log flights m.air.frames → Judges orders c.host.commands device (device_after device (Hears frame.payload drawn))
      by [] on_air = absurd (let bad : None ≡ Some frame = sym (laws.none is.log m.air.frames on_air.fly) ∙ next in grind (arith, bad))
      by (one ∷ later) on_air =
          let found : Some one ≡ Some frame = sym (laws.next is.log one later m.air.frames on_air.fly) ∙ next in
          let same : one ≡ frame = cc in
          let l : Lands node orders c.host c.air c.old is.log one later (landing m.air.frames) = arriving_lands laws node orders c m one later is.log on_air (stands_of node orders c m is) course drawn None in
          subst (λ (f : Flown). Judges orders c.host.commands device (device_after device (Hears f.payload drawn))) same
          (heard one l.flight drawn (subst (λ (heading : Heading). BearsBy heading (one.node == node) orders c.host.commands one l.flight) (ap (λ (f : Flown). f.heading) same ∙ outward) l.bears)
          (arriving_named laws node orders c m one later is.log on_air (stands_of node orders c m is) course drawn None l.flight.cargo refl) (ap (λ (f : Flown). f.node) same ∙ own) awake)

  repeats : (number : ℕ) (frame : Flown) (drawn : List ℕ) → refusal_of m.air.frames number ≡ None → remembered m.air.frames number ≡ Some frame → frame.node ≡ node → frame.heading ≡ Outward → device.awake ≡ true
      → Judges orders c.host.commands device (device_after device (Hears frame.payload drawn))
  repeats number frame drawn fresh known own outward awake =
      let was : WasThere node orders c.host c.old frame = laws.repeated node orders c.host c.air c.old is.log is.flights m.air.frames number frame within is.on_air fresh known in
      heard frame was.flight drawn (subst (λ (heading : Heading). BearsBy heading (frame.node == node) orders c.host.commands frame was.flight) outward was.bears)
      (named_again laws node orders c m number frame course is was drawn None was.flight.cargo refl) own awake

  pub judges_each : JudgesEach node orders c.host.commands m.air.frames device
  judges_each = record {
    arrives = arrives;
    repeats = repeats;
    ticks = ticks_judge orders c.host.commands c.ends device is.device.at.ended;
    wakes = wakes_judge orders c.host.commands c.ends device is.device.at.ended;
  }
