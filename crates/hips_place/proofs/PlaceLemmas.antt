-- One place of the server.
use Rattle.std.proofs.Common.{◌≡◌, ◌≢◌, ◌⊎◌, inl, inr, ℕ, ◌+◌, ◌<◌, ◌≤◌, List, [], ◌∷◌, ◌++◌, length, map, Option, Some, None, refl, sym, ap, ◌∙◌, subst, arith, append_assoc, length-append}
use Rattle.std.specs.Prelude.{◌↔◌, IsSome, IsNone, All, Contains, option_map}
use Rattle.std.specs.List.{concat}
use Rattle.std.proofs.lemmas.List.{length-map, map-append, append-nil}
use Rattle.std.proofs.lemmas.Grind.{common_steps}
use Rattle.std.proofs.lemmas.List.Elements.{All-nil, All-push, Contains-append_left, Contains-append_right}
use Rattle.survey_link.specs.Door.{Numbered, HasNumber, AreNumbered, Connections, Takes, NoneWaits, given_back}
use Rattle.survey_link.specs.Link.{Rises}
use Rattle.survey_link.specs.declared.faults.DoorFault.{DoorFault}
use Rattle.survey_link.specs.declared.faults.DoorFault.TheVariants as fault
use Rattle.http_frame.specs.Frame.{FrameState}
use Rattle.survey_core.specs.History.{IsHistory}
use Rattle.survey_core.specs.HistoryLaws.{begins_itself, begins_trans}
use Rattle.reader_pin.specs.Board.{BoardContent, IsOwned}
use Rattle.reader_pin.specs.SeatLaws.{keeps_itself, keeps_trans}
use Rattle.hips_http.specs.declared.served.SessionEnd.{SessionEnd}
use Rattle.hips_http.specs.declared.served.SessionEnd.TheVariants.{OutOfMemory as RanOut}
use Rattle.hips_http.specs.SessionRun.{Goes}
use Rattle.hips_place.specs.declared.place.PlaceEnd.{PlaceEnd}
use Rattle.hips_place.specs.declared.place.PlaceEnd.TheVariants.{Done, Failed, OutOfMemory}
use Rattle.hips_place.specs.Place.{DoorContent, AllReturned, OpenedAndClosed, PlaceMoment, OneSession, IsServedOnce, GivesBack, PlaceRun, OutOfMemoryFirst, TookAll, EndsBy, OnePlace, owns_of, PlaceGoes, IsServedPlace}

-- ---- what a board has seen

goes_first : (board : BoardContent) → IsHistory board.opening board.history → IsOwned board → PlaceGoes board board []
goes_first board legal owned = record {
  conf = refl;
  opening = refl;
  legal = legal;
  begins = begins_itself board.history;
  seat = keeps_itself board owned;
  own_is = sym (append-nil board.own);
  few = omega arith;
}

concat_more : (owns : List (List ℕ)) (own : List ℕ) → concat (owns ++ own ∷ []) ≡ concat owns ++ own
concat_more [] own = append-nil own
concat_more (first ∷ owns) own = ap (λ (rest : List ℕ). first ++ rest) (concat_more owns own) ∙ sym (append_assoc first (concat owns) own)

goes_more : (old mid new : BoardContent) (owns : List (List ℕ)) (own : List ℕ) → PlaceGoes old mid owns → (goes : Goes mid new) → own ≡ goes.own → PlaceGoes old new (owns ++ own ∷ [])
goes_more old mid new owns own so_far goes is =
    let all : concat (owns ++ own ∷ []) ≡ concat owns ++ goes.own = concat_more owns own ∙ ap (λ (o : List ℕ). concat owns ++ o) is in
    record {
      conf = goes.conf ∙ so_far.conf;
      opening = goes.opening ∙ so_far.opening;
      legal = goes.legal;
      begins = begins_trans old.history mid.history new.history so_far.begins goes.begins;
      seat = keeps_trans old mid new so_far.seat goes.seat;
      own_is = goes.own_is ∙ ap (λ xs. xs ++ goes.own) so_far.own_is ∙ append_assoc old.own (concat owns) goes.own ∙ ap (λ xs. old.own ++ xs) (sym all);
      few = (let before = so_far.few in let more = goes.few in let whole = ap length all ∙ length-append (concat owns) goes.own in omega (arith, whole, length-append owns (own ∷ [])));
    }

-- ---- one connection more

run_more : (old mid new : PlaceMoment) (sessions : List OneSession) (session : OneSession) → PlaceRun old sessions mid → IsServedOnce mid new session → PlaceRun old (sessions ++ session ∷ []) new
run_more old mid new [] session run served = (new, subst (λ (m : PlaceMoment). IsServedOnce m new session) run served, refl)
run_more old mid new (first ∷ later) session run served = (run.0, run.1, run_more run.0 mid new later session run.2 served)

numbered_more : (number : ℕ) (opened : List Numbered) (taken : Numbered) → AreNumbered number opened → HasNumber (number + length opened) taken → AreNumbered number (opened ++ taken ∷ [])
numbered_more number [] taken are has =
    let here : number + 0 ≡ number = omega arith in
    (subst (λ (n : ℕ). HasNumber n taken) here has, tt)
numbered_more number (first ∷ opened) taken are has =
    let there : number + length (first ∷ opened) ≡ number + 1 + length opened = omega arith in
    (are.0, numbered_more (number + 1) opened taken are.1 (subst (λ (n : ℕ). HasNumber n taken) there has))

-- it is given back where fewer were given back than taken
returns : (back : Numbered) (mid : Connections) → length mid.returned < length mid.taken → given_back back mid ≡ record mid { returned = mid.returned ++ back ∷ [] }
returns back mid fewer = grind (arith, common_steps)

none_handed : (door : Option Connections) → OpenedAndClosed door [] [] door
none_handed None = tt
none_handed (Some told) = (refl, grind (arith, common_steps), grind (arith, common_steps), tt)

handed_more : (door now mid : Option Connections) (opened closed : List Numbered) (taken back : Numbered) → AllReturned door → length opened ≡ length closed
    → OpenedAndClosed door opened closed now → Takes now mid taken → OpenedAndClosed door (opened ++ taken ∷ []) (closed ++ back ∷ []) (option_map (given_back back) mid)
handed_more None now mid opened closed taken back all same handed takes = tt
handed_more (Some old) None mid opened closed taken back all same handed takes = absurd handed
handed_more (Some old) (Some now) None opened closed taken back all same handed takes = absurd takes
handed_more (Some old) (Some now) (Some mid) opened closed taken back all same handed takes =
    let fewer : length mid.returned < length mid.taken
    = omega (arith, ap length handed.2, ap length handed.1, ap length takes.1, ap length takes.2, length-append old.returned closed, length-append old.taken opened, length-append now.taken (taken ∷ [])) in
    subst (λ (new : Connections). OpenedAndClosed (Some old) (opened ++ taken ∷ []) (closed ++ back ∷ []) (Some new)) (sym (returns back mid fewer)) (
      handed.0 ∙ ap (λ xs. opened ++ xs) takes.0 ∙ sym (append_assoc opened (taken ∷ []) mid.waiting),
      takes.1 ∙ ap (λ xs. xs ++ taken ∷ []) handed.1 ∙ append_assoc old.taken opened (taken ∷ []),
      ap (λ xs. xs ++ back ∷ []) (takes.2 ∙ handed.2) ∙ append_assoc old.returned closed (back ∷ []),
      numbered_more (length old.taken) opened taken handed.3 (subst (λ (n : ℕ). HasNumber n taken) (ap length handed.1 ∙ length-append old.taken opened) takes.3),
    )

-- ---- out of memory

-- there was no frame so far, or there is one now
abbrev Framed : Option FrameState → (sessions : List OneSession) → OutOfMemoryFirst sessions → Type 0
Framed frame sessions memory_first = (memory_first.after ≡ []) ⊎ IsSome frame

abbrev none_ran_out : OutOfMemoryFirst []
none_ran_out = record {
  before = [];
  after = [];
  are = refl;
  ran_out = All-nil (λ (session : OneSession). session.served.end ≡ RanOut);
  others = All-nil (λ (session : OneSession). session.served.end ≢ RanOut);
}

-- a session more, which runs out of memory if and only if there is no frame when it begins
framed_more : (frame frame1 frame2 : Option FrameState) (sessions : List OneSession) (session : OneSession) (m : OutOfMemoryFirst sessions) → Framed frame sessions m → (IsSome frame → IsSome frame1)
    → (session.served.end ≡ RanOut) ↔ IsNone frame1 → (IsSome frame1 → IsSome frame2) → (m' : OutOfMemoryFirst (sessions ++ session ∷ [])) × Framed frame2 (sessions ++ session ∷ []) m'
framed_more frame (Some f) frame2 sessions session m framed asked ran_out kept = (
  record {
    before = m.before;
    after = m.after ++ session ∷ [];
    are = ap (λ xs. xs ++ session ∷ []) m.are ∙ append_assoc m.before m.after (session ∷ []);
    ran_out = m.ran_out;
    others = All-push (λ (session : OneSession). session.served.end ≢ RanOut) m.after session m.others (λ is. cc (ran_out.0 is));
  },
  inr (kept refl),
)
framed_more frame None frame2 sessions session m (inr some) asked ran_out kept = absurd (cc (asked some))
framed_more frame None frame2 sessions session m (inl none) asked ran_out kept = (
  record {
    before = m.before ++ session ∷ [];
    after = [];
    are = ap (λ xs. xs ++ session ∷ []) (m.are ∙ ap (λ xs. m.before ++ xs) none ∙ append-nil m.before) ∙ sym (append-nil (m.before ++ session ∷ []));
    ran_out = All-push (λ (session : OneSession). session.served.end ≡ RanOut) m.before session m.ran_out (ran_out.1 refl);
    others = All-nil (λ (session : OneSession). session.served.end ≢ RanOut);
  },
  inl refl,
)

-- whether a session ran out of memory, as a place ends that took all
abbrev SaysWhetherRanOut : List OneSession → PlaceEnd → Type 0
SaysWhetherRanOut sessions Done = All (λ session. session.served.end ≢ RanOut) sessions
SaysWhetherRanOut sessions Failed = ⊥
SaysWhetherRanOut sessions OutOfMemory = Contains (map (λ session. session.served.end) sessions) RanOut

says_more : (sessions : List OneSession) (session : OneSession) (frame : Option FrameState) (end end' : PlaceEnd) → SaysWhetherRanOut sessions end → (session.served.end ≡ RanOut) ↔ IsNone frame
    → (session.served.end ≡ RanOut → end' ≡ OutOfMemory) → (session.served.end ≢ RanOut → end' ≡ end) → SaysWhetherRanOut (sessions ++ session ∷ []) end'
says_more sessions session None end end' says ran_out here other =
    subst (λ (e : PlaceEnd). SaysWhetherRanOut (sessions ++ session ∷ []) e) (sym (here (ran_out.1 refl)))
    (subst (λ xs. Contains xs RanOut) (sym (map-append (λ (s : OneSession). s.served.end) sessions (session ∷ [])))
    (Contains-append_right (map (λ (s : OneSession). s.served.end) sessions) (session.served.end ∷ []) RanOut (0, omega arith, ran_out.1 refl)))
says_more sessions session (Some f) end end' says ran_out here other =
    subst (λ (e : PlaceEnd). SaysWhetherRanOut (sessions ++ session ∷ []) e) (sym (other not_out)) (so end says)
  where
    not_out : session.served.end ≢ RanOut
    not_out is = cc (ran_out.0 is)

    so : (end : PlaceEnd) → SaysWhetherRanOut sessions end → SaysWhetherRanOut (sessions ++ session ∷ []) end
    so Done says = All-push (λ (session : OneSession). session.served.end ≢ RanOut) sessions session says not_out
    so Failed says = says
    so OutOfMemory says = subst (λ xs. Contains xs RanOut) (sym (map-append (λ (s : OneSession). s.served.end) sessions (session ∷ [])))
        (Contains-append_left (map (λ (s : OneSession). s.served.end) sessions) (session.served.end ∷ []) RanOut says)

-- ---- the loop

-- what was done after so many connections; `place.end` is how the place ends if it takes no more
pub record SoFar (count : ℕ) (frame : Option FrameState) (place : OnePlace) : Type 0 where
  pub goes : PlaceGoes place.first.board place.last.board (owns_of place)
  pub run : PlaceRun place.first place.sessions place.last
  pub handed : AllReturned place.door.connections → OpenedAndClosed place.door.connections
      (map (λ session. session.taken) place.sessions) (map (λ session. session.back) place.sessions) place.door_then.connections
  pub memory_first : OutOfMemoryFirst place.sessions
  pub count_is : length place.sessions ≡ count
  pub faults : place.door_then.faults ≡ place.door.faults
  pub memory_faults : place.door_then.memory_faults ≡ place.door.memory_faults
  pub framed : Framed frame place.sessions memory_first
  pub says : SaysWhetherRanOut place.sessions place.end

abbrev pub place_of : PlaceMoment → PlaceMoment → DoorContent → DoorContent → PlaceEnd → List OneSession → OnePlace
place_of first last door door' end sessions = record { first = first; last = last; door = door; door_then = door'; sessions = sessions; end = end }

pub begins_place : (first : PlaceMoment) (door : DoorContent) → IsHistory first.board.opening first.board.history → IsOwned first.board → SoFar 0 None (place_of first first door door Done [])
begins_place first door legal owned = record {
  goes = goes_first first.board legal owned;
  run = refl;
  handed = λ _. none_handed door.connections;
  memory_first = none_ran_out;
  count_is = refl;
  faults = refl;
  memory_faults = refl;
  framed = inl refl;
  says = All-nil (λ (session : OneSession). session.served.end ≢ RanOut);
}

-- a connection is taken from the door and given back
handed_on : (place : OnePlace) (mid door' : DoorContent) (session : OneSession)
    → (AllReturned place.door.connections → OpenedAndClosed place.door.connections (map (λ (s : OneSession). s.taken) place.sessions) (map (λ (s : OneSession). s.back) place.sessions) place.door_then.connections)
    → Takes place.door_then.connections mid.connections session.taken
    → door' ≡ record mid { connections = option_map (given_back session.back) mid.connections } → AllReturned place.door.connections
    → OpenedAndClosed place.door.connections (map (λ (s : OneSession). s.taken) (place.sessions ++ session ∷ [])) (map (λ (s : OneSession). s.back) (place.sessions ++ session ∷ [])) door'.connections
handed_on place mid door' session handed takes is all =
    rw (map-append (λ (s : OneSession). s.taken) place.sessions (session ∷ []), map-append (λ (s : OneSession). s.back) place.sessions (session ∷ []), is)
    (handed_more place.door.connections place.door_then.connections mid.connections (map (λ (s : OneSession). s.taken) place.sessions) (map (λ (s : OneSession). s.back) place.sessions) session.taken session.back all
    (length-map place.sessions (λ (s : OneSession). s.taken) ∙ sym (length-map place.sessions (λ (s : OneSession). s.back))) (handed all) takes)

module _ (count : ℕ) (frame frame1 frame2 : Option FrameState) (place : OnePlace) (s : SoFar count frame place) (mid door' : DoorContent) (new : PlaceMoment) (taken : Numbered) (end : SessionEnd) (ended : PlaceEnd) where
  -- and it is served meanwhile
  pub one_more : Takes place.door_then.connections mid.connections taken → mid.faults ≡ place.door_then.faults → mid.memory_faults ≡ place.door_then.memory_faults → (given : GivesBack place.last new mid door' taken end)
      → (IsSome frame → IsSome frame1) → (end ≡ RanOut) ↔ IsNone frame1 → (IsSome frame1 → IsSome frame2) → (end ≡ RanOut → ended ≡ OutOfMemory) → (end ≢ RanOut → ended ≡ place.end)
      → SoFar (count + 1) frame2 (place_of place.first new place.door door' ended (place.sessions ++ given.session ∷ []))
  one_more takes faults memory_faults given asked ran_out kept here other =
      let session = given.session in
      let none : (session.served.end ≡ RanOut) ↔ IsNone frame1 = subst (λ (e : SessionEnd). (e ≡ RanOut) ↔ IsNone frame1) (sym given.end_is) ran_out in
      let memory = framed_more frame frame1 frame2 place.sessions session s.memory_first s.framed asked none kept in
      let takes_it : Takes place.door_then.connections mid.connections session.taken = subst (Takes place.door_then.connections mid.connections) (sym given.taken_is) takes in
      record {
        goes = rw (map-append (λ (s : OneSession). s.own) place.sessions (session ∷ []))
            (goes_more place.first.board place.last.board new.board (owns_of place) session.own s.goes given.served.goes given.served.own_is);
        run = run_more place.first place.last new place.sessions session s.run given.served;
        handed = handed_on place mid door' session s.handed takes_it given.returned;
        memory_first = memory.0;
        count_is = length-append place.sessions (session ∷ []) ∙ ap (λ n. n + 1) s.count_is;
        faults = ap (λ (d : DoorContent). d.faults) given.returned ∙ (faults ∙ s.faults);
        memory_faults = ap (λ (d : DoorContent). d.memory_faults) given.returned ∙ (memory_faults ∙ s.memory_faults);
        framed = memory.1;
        says = says_more place.sessions session frame1 place.end ended s.says none (λ is. here (sym given.end_is ∙ is)) (λ not_out. other (λ is. not_out (given.end_is ∙ is)));
      }

-- ---- how it ends

took_all : (most : ℕ) (door door' : DoorContent) (sessions : List OneSession) (end : PlaceEnd) → TookAll most door door' sessions → SaysWhetherRanOut sessions end → EndsBy most door door' sessions end
took_all most door door' sessions Done took says = (took, says)
took_all most door door' sessions Failed took says = absurd says
took_all most door door' sessions OutOfMemory took says = inr (took, says)

module _ (count most : ℕ) (frame : Option FrameState) (place : OnePlace) (s : SoFar count frame place) (few : count ≤ most) where
  few_sessions : length place.sessions ≤ most
  few_sessions = (let is = s.count_is in omega (arith, is, few))

  -- it took all
  pub ends_whole : (door' : DoorContent) (end : PlaceEnd) → door' ≡ place.door_then → end ≡ place.end → (count ≡ most) ⊎ NoneWaits door'.connections → IsServedPlace most (record place { door_then = door'; end = end })
  ends_whole door' end same is all = rw (same, is) (record {
    goes = s.goes;
    run = s.run;
    handed = s.handed;
    few = few_sessions;
    ends = took_all most place.door place.door_then place.sessions place.end
        (record { all = elim all [ inl whole ↦ inl (s.count_is ∙ whole) | inr none ↦ inr (rw (← same) none) ]; faults = s.faults; memory_faults = s.memory_faults }) s.says;
    memory_first = s.memory_first;
  })

  -- an accept was refused
  pub ends_refused : (why : DoorFault) (door' : DoorContent) (end : PlaceEnd) → door'.connections ≡ place.door_then.connections
      → (why ≡ fault.Failed → (end ≡ Failed) × Rises place.door_then.faults door'.faults × (door'.memory_faults ≡ place.door_then.memory_faults))
      → (why ≡ fault.OutOfMemory → (end ≡ OutOfMemory) × Rises place.door_then.memory_faults door'.memory_faults × (door'.faults ≡ place.door_then.faults))
      → IsServedPlace most (record place { door_then = door'; end = end })
  ends_refused why door' end same failed ran_out = record {
    goes = s.goes;
    run = s.run;
    handed = λ all. rw same (s.handed all);
    few = few_sessions;
    ends = refused why failed ran_out;
    memory_first = s.memory_first;
  }
    where
      refused : (why : DoorFault) → (why ≡ fault.Failed → (end ≡ Failed) × Rises place.door_then.faults door'.faults × (door'.memory_faults ≡ place.door_then.memory_faults))
          → (why ≡ fault.OutOfMemory → (end ≡ OutOfMemory) × Rises place.door_then.memory_faults door'.memory_faults × (door'.faults ≡ place.door_then.faults))
          → EndsBy most place.door door' place.sessions end
      refused fault.Failed failed ran_out = let is = failed refl in rw (is.0, ← s.faults, ← s.memory_faults) (is.1, is.2)
      refused fault.OutOfMemory failed ran_out = let is = ran_out refl in rw (is.0, ← s.faults, ← s.memory_faults) (inl (is.1, is.2))
