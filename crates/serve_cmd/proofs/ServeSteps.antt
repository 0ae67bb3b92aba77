-- What `serve` answers, by what opening the door and serving its ends answer.
use Rattle.std.proofs.Common.{◌≡◌, ◌∙◌, ℕ, ◌+◌, ◌<◌, List, [], ◌∷◌, ◌++◌, length, length-append, codes, ◌≢◌, ◌-◌, ◌≤◌, ◌⊎◌, take, Option, Some, None, IfSome, ap, sym, inr, subst, arith}
use Rattle.std.proofs.Math.Seq.{take-append_seam}
use Rattle.vol_base.specs.Causes.{most_count}
use Rattle.vol_base.specs.Outside.{Ended, Objects}
use Rattle.range_server.specs.Bodies.{WhereTold}
use Rattle.range_server.specs.Serving.{AddsServed, AtMostBroken, EndsBy, EndsCutShort, EndsServed, GaveBefore, NotesGiven}
use Rattle.range_server.specs.declared.fault.DoorRefusal.{DoorRefusal}
use Rattle.range_server.specs.declared.fault.DoorRefusal.TheVariants as refusal
use Rattle.vol_spec.proofs.Told.{in_told}
use Rattle.std.specs.Fmt.{decimal}
use Rattle.vol_base.specs.FaultTexts.{texts}
use Rattle.vol_base.specs.Gains.{Gains}
use Rattle.vol_shell.specs.Lines.{line_feed}
use Rattle.serve_cmd.specs.Lines.{listening_line}
use Rattle.vol_spec.specs.Types.{Bytes, Name}
use Rattle.command_base.specs.Outlets.{Outlets, Tells}
use Rattle.serve_cmd.specs.Servings.{AcceptsEnds, AreServed, BreaksFew, Doorway, Ends, FewBroken, IsBoundTo, NotesEnds, PortTold, SaysFixed, ServeLeaves, serve_status, ServeShows, TellsFirst, TellsPort}
use Rattle.command_base.specs.Statuses.{fixed_line}
use Rattle.serve_cmd.specs.declared.refusal.ServeRefusal.{ServeRefusal}
use Rattle.serve_cmd.specs.declared.refusal.ServeRefusal.TheVariants as refused
use Rattle.command_base.specs.declared.status.Status.{Status}
use Rattle.command_base.specs.declared.status.Status.TheVariants.{Ok}

-- a refusal of the door, as one of `serve`
abbrev pub by_door : DoorRefusal → ServeRefusal
by_door refusal.DoorFault = refused.DoorFault
by_door refusal.OutOfMemory = refused.NoMemory

abbrev door_status : DoorRefusal → Status
door_status why = serve_status (by_door why)

-- that few of the ends that were served are broken
abbrev pub FewLaw : Type 0
FewLaw = (m : Objects) (dataset : List ℕ) (before now : ℕ) (ends : List Ended) → EndsServed m dataset before now ends → (most_count ≤ now) ⊎ AtMostBroken m dataset ends (now - before)

served_later : (m : Objects) (dataset : Name) (before mid now : ℕ) (ends : Ends) → mid ≤ now → EndsServed m dataset before mid ends → EndsServed m dataset before now ends
served_later m dataset before mid now [] le h = omega (arith, le, h)
served_later m dataset before mid now (end ∷ ends) le h = (h.0, h.1, h.2, h.3, h.4, served_later m dataset h.1 mid now ends le h.5)

all_but_last : (first : Ends) (last : Ended) → take (length (first ++ last ∷ []) - 1) (first ++ last ∷ []) ≡ first
all_but_last first last =
    let count : length (first ++ last ∷ []) - 1 ≡ length first = omega (arith, length-append first (last ∷ [])) in
    ap (λ n. take n (first ++ last ∷ [])) count ∙ take-append_seam first (last ∷ [])

-- of ends amid the last of which memory ran out, few of the others are broken
cut_few : FewLaw → (m : Objects) (dataset : Name) (from to : ℕ) (ends : Ends) → EndsCutShort m dataset from to ends → FewBroken m dataset from to (take (length ends - 1) ends)
cut_few few m dataset from to ends (mid, first, last, is, served, le, stopped) =
    let one : FewBroken m dataset from to first = few m dataset from to first (served_later m dataset from mid to first le served) in
    subst (λ all. FewBroken m dataset from to (take (length all - 1) all)) (sym is) (subst (λ some. FewBroken m dataset from to some) (sym (all_but_last first last)) one)

module _ (objects : Option Objects) (dataset : Name) (before mid after : Doorway) (from to : ℕ) (same : mid.served ≡ before.served) (none : mid.accepted ≡ before.accepted) where
  -- all the ends were served
  pub all_shown : FewLaw → (wanted : ℕ) → WhereTold objects (λ m. WhereTold mid.served (λ list. AddsServed m dataset wanted from to list after.served))
      → IfSome objects (λ m. ServeShows Ok m dataset before after from to)
  all_shown few wanted adds =
      in_told objects _ (λ m told. in_told before.served _ (λ list noted.
      let h = adds m told list (same ∙ noted) in (h.0, h.1, h.3, few m dataset from to h.0 h.3)))

  -- and noted
  pub ends_noted : NotesGiven mid.served after.served mid.accepted after.accepted → NotesEnds before after
  ends_noted notes = in_told before.served _ (λ list told.
      let h = notes list (same ∙ told) in (h.0, h.1, h.2 ∙ ap (λ n. n + length h.0) none))

  -- the door refused
  pub some_shown : FewLaw → (found why : DoorRefusal) (wanted : ℕ) → found ≡ why
      → WhereTold objects (λ m. WhereTold mid.served (λ list. (ends : List Ended) × (after.served ≡ Some (list ++ ends)) × (after.accepted ≡ mid.accepted + length ends)
      × EndsBy m dataset found wanted from to ends))
      → IfSome objects (λ m. ServeShows (door_status why) m dataset before after from to)
  some_shown few found why wanted is adds =
      in_told objects _ (λ m told. in_told before.served _ (λ list noted.
      let h = adds m told list (same ∙ noted) in
      let shown = by_refusal why m h.0 (subst (λ r. EndsBy m dataset r wanted from to h.0) is h.3) in
      (h.0, h.1, shown.0, shown.1)))
    where
      by_refusal : (why : DoorRefusal) (m : Objects) (ends : Ends) → EndsBy m dataset why wanted from to ends
          → AreServed (door_status why) m dataset from to ends × BreaksFew (door_status why) m dataset from to ends
      by_refusal refusal.DoorFault m ends h = (h.1, few m dataset from to ends h.1)
      by_refusal refusal.OutOfMemory m ends h = (inr h.1, cut_few few m dataset from to ends h.1)

  fewer_given : (why : DoorRefusal) (wanted : ℕ) → GaveBefore why wanted mid.accepted after.accepted → AcceptsEnds (door_status why) wanted before after
  fewer_given refusal.DoorFault wanted h = (after.accepted - before.accepted, omega (arith, none, h.0, h.1), omega (arith, none, h.0, h.1))
  fewer_given refusal.OutOfMemory wanted h = (after.accepted - before.accepted, omega (arith, none, h.0, h.1), omega (arith, none, h.0, h.1))

  pub some_given : (found why : DoorRefusal) (wanted told : ℕ) → found ≡ why → told ≡ wanted → GaveBefore found told mid.accepted after.accepted → AcceptsEnds (door_status why) wanted before after
  some_given found why wanted told is same_count h =
      fewer_given why wanted (subst (λ r. GaveBefore r wanted mid.accepted after.accepted) is (subst (λ n. GaveBefore found n mid.accepted after.accepted) same_count h))

-- each refusal has a line that is always the same
pub has_line : (why : ServeRefusal) (status : Status) → status ≡ serve_status why → fixed_line status ≢ None
has_line why status e = subst (λ s. fixed_line s ≢ None) (sym e) (by_case why)
  where
    by_case : (why : ServeRefusal) → fixed_line (serve_status why) ≢ None
    by_case refused.OutFault told = cc told
    by_case refused.NoMemory told = cc told
    by_case refused.DoorFault told = cc told

says_line : (why : ServeRefusal) (o : Outlets) → IfSome (fixed_line (serve_status why)) (Tells o) → SaysFixed (fixed_line (serve_status why)) o
says_line refused.OutFault o said = said
says_line refused.NoMemory o said = said
says_line refused.DoorFault o said = said

pub serve_left : (why : ServeRefusal) (status : Status) (port : ℕ) (bound : Option ℕ) (o : Outlets) → status ≡ serve_status why → IsBoundTo port bound
    → PortTold (serve_status why) bound o.out_old o.out_new → IfSome (fixed_line status) (Tells o) → ServeLeaves status port bound o
serve_left why status port bound o e asked told said =
    (asked, subst (λ s. PortTold s bound o.out_old o.out_new) (sym e) told, subst (λ s. SaysFixed (fixed_line s) o) (sym e) (says_line why o (subst (λ s. IfSome (fixed_line s) (Tells o)) e said)))

pub not_quiet : {A : Type 0} (why : ServeRefusal) (status : Status) → status ≡ serve_status why → status ≡ Ok → A
not_quiet why status e done = by_case why (sym e ∙ done)
  where
    by_case : {A : Type 0} (why : ServeRefusal) → serve_status why ≡ Ok → A
    by_case refused.OutFault e = absurd (cc e)
    by_case refused.NoMemory e = absurd (cc e)
    by_case refused.DoorFault e = absurd (cc e)

-- an output that gained the port's line gained something
line_of_port : (port : ℕ) → 0 < length (listening_line port)
line_of_port port = omega (arith, length-append (codes "listening ") (texts (decimal port ∷ line_feed ∷ [])))

gained_some : (old new : Option Bytes) (line : Bytes) (before after : Doorway) → 0 < length line → Gains old new line → TellsFirst old new before after
gained_some None new line before after some gains = tt
gained_some (Some bytes) new line before after some gains = λ same.
    let longer : bytes ++ line ≡ bytes = cc (gains, same) in
    absurd (omega (arith, some, ap length longer, length-append bytes line))

pub told_first : (bound : Option ℕ) (old new : Option Bytes) (before after : Doorway) → TellsPort bound old new → TellsFirst old new before after
told_first None old new before after told = absurd told
told_first (Some port) old new before after told = gained_some old new (listening_line port) before after (line_of_port port) told
