-- Places of the server: the connections that each takes from its door, serves one after another, and gives back. This
-- project's profile.
use Rattle.std.specs.Prelude.{◌≡◌, ◌≢◌, ◌⊎◌, ℕ, ◌+◌, ◌*◌, ◌<◌, ◌≤◌, List, [], ◌∷◌, ◌++◌, length, map, slice_index_or, All, Contains, Option, Some, None, IfSome, option_map, Result, Ok, Err, ⊤}
use Rattle.std.specs.List.{concat, range_with_len}
use Rattle.survey_conf.specs.Description.{Description}
use Rattle.survey_link.specs.Link.{Rises}
use Rattle.survey_link.specs.Door.{Numbered, AreNumbered, Connections, NoneWaits, given_back}
use Rattle.survey_link.specs.declared.door.Door.{Ghosts as DoorTells}
use Rattle.edit_journal.specs.Leaves.{LeafTiles}
use Rattle.survey_core.specs.History.{SurveyState, opening_state, IsHistory, Begins}
use Rattle.survey_core.specs.State.{StateContent}
use Rattle.shared_history.specs.Histories.{SeatContent, places_of, one_state}
use Rattle.reader_pin.specs.Board.{BoardSeat, BoardContent, KeepsSeat}
use Rattle.hips_http.specs.declared.served.Served.{Served}
use Rattle.hips_http.specs.declared.served.SessionEnd.{SessionEnd}
use Rattle.hips_http.specs.declared.served.SessionEnd.TheVariants.{OutOfMemory as RanOut}
use Rattle.hips_http.specs.SessionRun.{IsServed, Goes, most_requests}
use Rattle.hips_place.specs.declared.place.PlaceEnd.{PlaceEnd}
use Rattle.hips_place.specs.declared.place.PlaceEnd.TheVariants.{Done, Failed, OutOfMemory}
use Rattle.hips_place.specs.declared.doors.ServeRefusal.{ServeRefusal}
use Rattle.hips_place.specs.declared.doors.ServeRefusal.TheVariants.{NotOpened, NotMet}

-- ---- a door

-- it has no open connection, where the proof can see them: all that were taken were given back
abbrev pub AllReturned : Option Connections → Type 0
AllReturned None = ⊤
AllReturned (Some told) = length told.returned ≡ length told.taken

-- these connections of the door were opened, each with a number of its own, and closed like that, where the proof can see
-- them
abbrev pub OpenedAndClosed : Option Connections → List Numbered → List Numbered → Option Connections → Type 0
OpenedAndClosed None opened closed new = ⊤
OpenedAndClosed (Some old) opened closed None = ⊥
OpenedAndClosed (Some old) opened closed (Some new) =
    (old.waiting ≡ opened ++ new.waiting) × (new.taken ≡ old.taken ++ opened) × (new.returned ≡ old.returned ++ closed)
    × AreNumbered (length old.taken) opened

-- a door at one moment: its connections, where the proof can see them, how often it has failed, and how often it had no
-- memory to accept a connection
pub record DoorContent : Type 0 where
  pub connections : Option Connections
  pub faults : ℕ
  pub memory_faults : ℕ

abbrev pub door_of : {D I O : Type 0} → DoorTells D I O → D → DoorContent
door_of told door = record { connections = told.connections door; faults = told.faults door; memory_faults = told.memory_faults door }

-- ---- a connection

-- what a place goes on from: what its board has seen, and its count of steps
pub record PlaceMoment : Type 0 where
  pub board : BoardContent
  pub steps : ℕ

-- a connection that a place served: as it was taken and as it was given back, what came of it, and the places of its events
pub record OneSession : Type 0 where
  pub taken : Numbered
  pub back : Numbered
  pub served : Served
  pub own : List ℕ

-- it was served over its own two ends: the history goes on, with these events of its own, and by a session where the proof can
-- see the source's bytes
pub record IsServedOnce (old new : PlaceMoment) (session : OneSession) : Type 0 where
  pub source : session.back.source ≡ session.taken.source
  pub sink : session.back.sink ≡ session.taken.sink
  pub goes : Goes old.board new.board
  pub own_is : session.own ≡ goes.own
  pub served : IfSome session.taken.told.unread (λ input.
      IsServed old.board new.board input session.taken.told session.back.told old.steps new.steps session.served)

-- a connection that was taken like this was served so and given back
pub record GivesBack (old new : PlaceMoment) (door door' : DoorContent) (taken : Numbered) (end : SessionEnd) : Type 0 where
  pub session : OneSession
  pub taken_is : session.taken ≡ taken
  pub end_is : session.served.end ≡ end
  pub served : IsServedOnce old new session
  pub returned : door' ≡ record door { connections = option_map (given_back session.back) door.connections }

-- ---- a place

-- sessions lead from one moment to another, one after another
abbrev pub PlaceRun : PlaceMoment → List OneSession → PlaceMoment → Type 0
PlaceRun old [] new = new ≡ old
PlaceRun old (session ∷ later) new = (mid : PlaceMoment) × IsServedOnce old mid session × PlaceRun mid later new

-- those that ran out of memory come before all others
pub record OutOfMemoryFirst (sessions : List OneSession) : Type 0 where
  pub before : List OneSession
  pub after : List OneSession
  pub are : sessions ≡ before ++ after
  pub ran_out : All (λ session. session.served.end ≡ RanOut) before
  pub others : All (λ session. session.served.end ≢ RanOut) after

-- no accept was refused, and the limit of connections is reached or none is left
pub record TookAll (most : ℕ) (door door' : DoorContent) (sessions : List OneSession) : Type 0 where
  pub all : (length sessions ≡ most) ⊎ NoneWaits door'.connections
  pub faults : door'.faults ≡ door.faults
  pub memory_faults : door'.memory_faults ≡ door.memory_faults

-- what a place's end says, whatever became of other places. Done: it took all, and no session ran out of memory. Failed: an
-- accept failed. Out of memory: an accept ran out of it, or the place took all and a session ran out of it
abbrev pub EndsBy : ℕ → DoorContent → DoorContent → List OneSession → PlaceEnd → Type 0
EndsBy most door door' sessions Done = TookAll most door door' sessions × All (λ session. session.served.end ≢ RanOut) sessions
EndsBy most door door' sessions Failed = Rises door.faults door'.faults × (door'.memory_faults ≡ door.memory_faults)
EndsBy most door door' sessions OutOfMemory = (Rises door.memory_faults door'.memory_faults × (door'.faults ≡ door.faults))
    ⊎ (TookAll most door door' sessions × Contains (map (λ session. session.served.end) sessions) RanOut)

-- a place: its first and its last moment, its door before and after, the connections that it served, and how it ended
pub record OnePlace : Type 0 where
  pub first : PlaceMoment
  pub last : PlaceMoment
  pub door : DoorContent
  pub door_then : DoorContent
  pub sessions : List OneSession
  pub end : PlaceEnd

-- the events of each of its sessions
abbrev pub owns_of : OnePlace → List (List ℕ)
owns_of place = map (λ session. session.own) place.sessions

-- the history that a board sees goes on, by these events of its own, of so many sessions, and by those of other boards
pub record PlaceGoes (old new : BoardContent) (owns : List (List ℕ)) : Type 0 where
  pub conf : new.conf ≡ old.conf
  pub opening : new.opening ≡ old.opening
  pub legal : IsHistory new.opening new.history
  pub begins : Begins old.history new.history
  pub seat : KeepsSeat old new
  pub own_is : new.own ≡ old.own ++ concat owns
  pub few : length (concat owns) ≤ length owns * most_requests

-- it took these connections from its door and gave them back, up to this limit, and so it ended
pub record IsServedPlace (most : ℕ) (place : OnePlace) : Type 0 where
  pub goes : PlaceGoes place.first.board place.last.board (owns_of place)
  pub run : PlaceRun place.first place.sessions place.last
  pub handed : AllReturned place.door.connections → OpenedAndClosed place.door.connections
      (map (λ session. session.taken) place.sessions) (map (λ session. session.back) place.sessions) place.door_then.connections
  pub few : length place.sessions ≤ most
  pub ends : EndsBy most place.door place.door_then place.sessions place.end
  pub memory_first : OutOfMemoryFirst place.sessions

-- some sessions were those of such a place
pub record ServesPlace (first last : PlaceMoment) (door door' : DoorContent) (most : ℕ) (end : PlaceEnd) : Type 0 where
  pub sessions : List OneSession
  pub served : IsServedPlace most (record { first = first; last = last; door = door; door_then = door'; sessions = sessions; end = end })

-- ---- the places of a server

-- the worse of two ends: `Failed`, before `OutOfMemory`, before `Done`
abbrev pub worse : PlaceEnd → PlaceEnd → PlaceEnd
worse Done other = other
worse Failed other = Failed
worse OutOfMemory Failed = Failed
worse OutOfMemory other = OutOfMemory

-- places that ended so ended all in all so: `Failed` where one did so; else `OutOfMemory` where one did; else `Done`
abbrev pub EndAs : List PlaceEnd → PlaceEnd → Type 0
EndAs ends Done = All (λ each. each ≡ Done) ends
EndAs ends Failed = Contains ends Failed
EndAs ends OutOfMemory = Contains ends OutOfMemory × All (λ each. each ≢ Failed) ends

-- the places of a server, one for each board and the door beside it, each with this limit of connections
pub record ArePlaces (most : ℕ) (boards boards' : List BoardContent) (doors doors' : List DoorContent) (end : PlaceEnd) : Type 0 where
  pub places : List OnePlace
  pub each : All (IsServedPlace most) places
  pub boards_are : map (λ p. p.first.board) places ≡ boards
  pub boards_then : map (λ p. p.last.board) places ≡ boards'
  pub doors_are : map (λ p. p.door) places ≡ doors
  pub doors_then : map (λ p. p.door_then) places ≡ doors'
  pub ends : EndAs (map (λ p. p.end) places) end

-- ---- the doors of a survey's server

-- the board at a seat of a survey that nobody has changed yet
abbrev pub first_board : BoardSeat → Description → LeafTiles → BoardContent
first_board seat conf opening = record {
  conf = conf;
  opening = opening;
  history = opening_state ∷ [];
  owners = [];
  seat = seat;
  own = [];
  held = None;
}

-- the doors of a server, each by itself: the boards of their places begin at the survey's first state
pub record ServesApart (conf : Description) (opening : LeafTiles) (most : ℕ) (doors doors' : List DoorContent) (end : PlaceEnd) : Type 0 where
  pub boards : List BoardContent
  pub boards_then : List BoardContent
  pub first : All (λ board. board ≡ first_board board.seat conf opening) boards
  pub served : ArePlaces most boards boards_then doors doors' end

-- the places of the events of a session, by the place of its door and its own there
abbrev pub own_at : List (List (List ℕ)) → ℕ → ℕ → List ℕ
own_at owns door session = slice_index_or (slice_index_or owns door []) session []

-- the state at a place is the event of some session of some door, and no other's
pub record IsOneSessions (owns : List (List (List ℕ))) (place : ℕ) : Type 0 where
  pub door : ℕ
  pub session : ℕ
  pub own : Contains (own_at owns door session) place
  pub alone : (other another : ℕ) → Contains (own_at owns other another) place → (other ≡ door) × (another ≡ session)

-- the same, and one history holds what happened at all of them: each of its states but the first is one session's event
pub record ServesDoors (conf : Description) (opening : LeafTiles) (most : ℕ) (doors doors' : List DoorContent) (end : PlaceEnd) : Type 0 where
  pub apart : ServesApart conf opening most doors doors' end
  pub states : List SurveyState
  pub legal : IsHistory opening states
  pub begins : All (λ board. Begins board.history states) apart.boards_then
  pub owned : (place : ℕ) → 0 < place → place < length states → IsOneSessions (map owns_of apart.served.places) place

-- the doors were served, and their places ended all in all so; or the survey wasn't opened, and they stay; or the boards
-- couldn't meet in the end
abbrev pub ServesAs : Description → LeafTiles → ℕ → List DoorContent → List DoorContent → Result PlaceEnd ServeRefusal → Type 0
ServesAs conf opening most doors doors' (Ok end) = ServesDoors conf opening most doors doors' end
ServesAs conf opening most doors doors' (Err NotOpened) = doors' ≡ doors
ServesAs conf opening most doors doors' (Err (NotMet end)) = ServesApart conf opening most doors doors' end

-- the count of one of them rose
abbrev pub SomeRises : List ℕ → List ℕ → Type 0
SomeRises (old ∷ olds) (new ∷ news) = Rises old new ⊎ SomeRises olds news
SomeRises olds news = ⊥

-- the seats of a survey that was just opened in its first state
pub record AreFirstSeats (state : StateContent) (seats : List (SeatContent StateContent)) : Type 0 where
  pub numbers : map (λ seat. seat.number) seats ≡ range_with_len 0 (length seats)
  pub seen : All (λ seat. seat.seen ≡ one_state (length seats) state) seats
  pub batches : state.batches ≡ []
  pub tip : state.tip ≡ 0

-- what each of the boards has seen is the beginning of the states of one history, each of which but the first has an owner; and
-- the events of each board are all those of its seat
pub record HaveAllMet (boards : List BoardContent) : Type 0 where
  pub states : List SurveyState
  pub owners : List ℕ
  pub legal : (opening : LeafTiles) → All (λ board. board.opening ≡ opening) boards → IsHistory opening states
  pub owned : length states ≡ length owners + 1
  pub seated : All (λ board. All (λ owner. owner < board.seat.seats) owners) boards
  pub each : All (λ board. Begins board.history states) boards
  pub own : All (λ board. board.own ≡ places_of board.seat.number owners) boards

-- a board's events are all those of its seat among the states that the first board has seen, and both have the same seats
pub record OwnsAmong (first board : BoardContent) : Type 0 where
  pub own : board.own ≡ places_of board.seat.number first.owners
  pub seats : board.seat.seats ≡ first.seat.seats
