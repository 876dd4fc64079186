-- The doors of a survey.
use Rattle.std.proofs.Common.{◌≡◌, ◌≢◌, inl, inr, ℕ, zero, suc, ◌+◌, ◌<◌, List, [], ◌∷◌, ◌++◌, length, map, take, drop, get_or, slice_set, add-one, drop-cons, None, refl, sym, ap, ap₂, ◌∙◌, subst, arith}
use Rattle.std.specs.Prelude.{All, Contains, slice_index_or, Result, Ok, Err, OnOk, IfOk}
use Rattle.std.specs.List.{AllZip, concat, range_with_len}
use Rattle.std.proofs.lemmas.List.{length-set, length-map, take_all, take_more, take_more_set, drop-set-lt}
use Rattle.std.proofs.lemmas.List.Elements.{All-nil, All-cons, All-head, All-tail, All-push, All-weaker, All-map, AllZip-push}
use Rattle.survey_conf.specs.Description.{Description}
use Rattle.survey_link.specs.Link.{Rises}
use Rattle.edit_journal.specs.Leaves.{LeafTiles}
use Rattle.shared_history.specs.Histories.{SeenHistory, SeatContent, places_of, one_state}
use Rattle.shared_history.specs.Laws.{PlacesAreOwn, EachIsOneSeats}
use Rattle.survey_core.specs.History.{SurveyState, IsHistory, Begins}
use Rattle.survey_core.specs.HistoryLaws.{begins_itself, begins_trans}
use Rattle.survey_core.specs.State.{StateContent}
use Rattle.reader_pin.specs.Board.{BoardSeat, BoardContent, IsOwned, Stays}
use Rattle.reader_pin.specs.SeatLaws.{keeps_itself, keeps_trans}
use Rattle.reader_pin.specs.Shared.{seated, HaveMet}
use Rattle.hips_place.specs.declared.place.PlaceEnd.{PlaceEnd}
use Rattle.hips_place.specs.declared.place.PlaceEnd.TheVariants.{Done, Failed, OutOfMemory}
use Rattle.hips_place.specs.declared.doors.ServeRefusal.{ServeRefusal}
use Rattle.hips_place.specs.Place.{DoorContent, OneSession, EndsBy, OnePlace, owns_of, IsServedPlace, ArePlaces, first_board, ServesApart, ServesDoors, ServesAs, SomeRises, AreFirstSeats, HaveAllMet, OwnsAmong}
use Rattle.hips_place.proofs.PlacesLemmas.{none_failed}
use Rattle.hips_place.proofs.OneOwner.{one_sessions, each_door}

-- ---- boards that meet

pub stays_itself : (board : BoardContent) → IsHistory board.opening board.history → IsOwned board → Stays board board
stays_itself board legal owned = record { conf = refl; opening = refl; legal = legal; earlier = begins_itself board.history; seat = keeps_itself board owned; own = refl; held = refl }

stays_on : (old mid new : BoardContent) → Stays old mid → Stays mid new → Stays old new
stays_on old mid new one two = record {
  conf = two.conf ∙ one.conf;
  opening = two.opening ∙ one.opening;
  legal = two.legal;
  earlier = begins_trans old.history mid.history new.history one.earlier two.earlier;
  seat = keeps_trans old mid new one.seat two.seat;
  own = two.own ∙ one.own;
  held = two.held ∙ one.held;
}

-- the first board and those that it has met
pub record HasMet (first now : BoardContent) (met : List BoardContent) : Type 0 where
  pub stays : Stays first now
  pub each : All (λ board. Begins board.history now.history) met

pub meets_none : (first : BoardContent) → IsHistory first.opening first.history → IsOwned first → HasMet first first []
meets_none first legal owned = record { stays = stays_itself first legal owned; each = All-nil (λ board. Begins board.history first.history) }

pub meets_more : (first now new : BoardContent) (met : List BoardContent) (other other' : BoardContent) → HasMet first now met → Stays now new → Stays other other' → HaveMet new other'
    → HasMet first new (met ++ other ∷ [])
meets_more first now new met other other' so_far stays that both = record {
  stays = stays_on first now new so_far.stays stays;
  each = All-push (λ board. Begins board.history new.history) met other
      (All-weaker (λ board. Begins board.history now.history) (λ board. Begins board.history new.history)
      (λ board begins. begins_trans board.history now.history new.history begins stays.earlier) met so_far.each)
      (subst (λ (states : List SurveyState). Begins other.history states) (sym both.history) that.earlier);
}

-- lists that are the same from a place on
same_from : {X : Type 0} (xs ys : List X) (i : ℕ) (d : X) → i < length xs → i < length ys → drop i xs ≡ drop i ys → (get_or xs i d ≡ get_or ys i d) × (drop (i + 1) xs ≡ drop (i + 1) ys)
same_from xs ys i d within within' same =
    let one : drop i xs ≡ get_or xs i d ∷ drop (i + 1) xs = rw (add-one, drop-cons xs i d) in
    let other : drop i ys ≡ get_or ys i d ∷ drop (i + 1) ys = rw (add-one, drop-cons ys i d) in
    (cc, cc)

-- the loop over boards, of which the first ones were met
pub record IsMeeting (first now : BoardContent) (initial items : List BoardContent) (count : ℕ) : Type 0 where
  pub met : HasMet first now (take count initial)
  pub stay : AllZip Stays (take count initial) (take count items)
  pub rest : drop count items ≡ drop count initial
  pub len : length items ≡ length initial

pub meets_first : (first : BoardContent) (boards : List BoardContent) → IsHistory first.opening first.history → IsOwned first → IsMeeting first first boards boards 0
meets_first first boards legal owned = record { met = meets_none first legal owned; stay = tt; rest = refl; len = refl }

pub meets_next : (first now new : BoardContent) (initial items : List BoardContent) (count : ℕ) (other other' : BoardContent) → IsMeeting first now initial items count → count < length initial
    → other ≡ get_or items count other → Stays now new → Stays other other' → HaveMet new other' → IsMeeting first new initial (slice_set items count other') (count + 1)
meets_next first now new initial items count other other' so_far within is stays that both =
    let inside : count < length items = (let len = so_far.len in omega arith) in
    let same = same_from items initial count other inside within so_far.rest in
    let more : take (count + 1) initial ≡ take count initial ++ other ∷ [] = take_more initial count other within ∙ ap (λ b. take count initial ++ b ∷ []) (sym (is ∙ same.0)) in
    let more' : take (count + 1) (slice_set items count other') ≡ take count items ++ other' ∷ [] = take_more_set items count other' inside in
    record {
      met = subst (λ (met : List BoardContent). HasMet first new met) (sym more) (meets_more first now new (take count initial) other other' so_far.met stays that both);
      stay = rw (more, more') (AllZip-push Stays (take count initial) (take count items) other other' so_far.stay that);
      rest = drop-set-lt (count + 1) items count other' (omega arith) ∙ same.1;
      len = length-set items count other' ∙ so_far.len;
    }

pub meets_all : (first now : BoardContent) (initial items : List BoardContent) → IsMeeting first now initial items (length initial) → AllZip Stays initial items
meets_all first now initial items so_far =
    rw (← take_all (length initial) initial (omega arith), ← take_all (length initial) items (omega (arith, so_far.len))) so_far.stay

-- ---- boards that go on to what the first one has seen

-- the loop over them
pub record IsFollowing (first : BoardContent) (initial items : List BoardContent) (count : ℕ) : Type 0 where
  pub owns : All (OwnsAmong first) (take count initial)
  pub rest : drop count items ≡ drop count initial
  pub len : length items ≡ length initial

pub follows_first : (first : BoardContent) (boards : List BoardContent) → IsFollowing first boards boards 0
follows_first first boards = record { owns = All-nil (OwnsAmong first); rest = refl; len = refl }

owns_among : (first other other' : BoardContent) → Stays other other' → HaveMet other' first → OwnsAmong first other
owns_among first other other' stays met = record {
  own = sym stays.own ∙ (stays.seat.owned.own ∙ (ap (λ (seat : BoardSeat). places_of seat.number other'.owners) stays.seat.seat ∙ ap (places_of other.seat.number) met.owners));
  seats = sym (ap (λ (seat : BoardSeat). seat.seats) stays.seat.seat) ∙ met.seats;
}

pub follows_next : (first : BoardContent) (initial items : List BoardContent) (count : ℕ) (other other' : BoardContent) → IsFollowing first initial items count → count < length initial
    → other ≡ get_or items count other → Stays other other' → HaveMet other' first → IsFollowing first initial (slice_set items count other') (count + 1)
follows_next first initial items count other other' so_far within is stays met =
    let inside : count < length items = (let len = so_far.len in omega arith) in
    let same = same_from items initial count other inside within so_far.rest in
    let more : take (count + 1) initial ≡ take count initial ++ other ∷ [] = take_more initial count other within ∙ ap (λ b. take count initial ++ b ∷ []) (sym (is ∙ same.0)) in
    record {
      owns = subst (All (OwnsAmong first)) (sym more) (All-push (OwnsAmong first) (take count initial) other so_far.owns (owns_among first other other' stays met));
      rest = drop-set-lt (count + 1) items count other' (omega arith) ∙ same.1;
      len = length-set items count other' ∙ so_far.len;
    }

-- what is true of boards then was true before they met
owns_before : (first : BoardContent) (olds mids : List BoardContent) → AllZip Stays olds mids → All (OwnsAmong first) mids → All (OwnsAmong first) olds
owns_before first [] [] stay all = All-nil (OwnsAmong first)
owns_before first [] (m ∷ mids) stay all = absurd stay
owns_before first (o ∷ olds) [] stay all = absurd stay
owns_before first (o ∷ olds) (m ∷ mids) stay all =
    let mid = All-head (OwnsAmong first) m mids all in
    let here : OwnsAmong first o = record {
      own = sym stay.0.own ∙ (mid.own ∙ ap (λ (seat : BoardSeat). places_of seat.number first.owners) stay.0.seat.seat);
      seats = sym (ap (λ (seat : BoardSeat). seat.seats) stay.0.seat.seat) ∙ mid.seats;
    } in
    All-cons (OwnsAmong first) o olds here (owns_before first olds mids stay.1 (All-tail (OwnsAmong first) m mids all))

owns_first : (first now : BoardContent) → Stays first now → OwnsAmong now first
owns_first first now stays = record {
  own = sym stays.own ∙ (stays.seat.owned.own ∙ ap (λ (seat : BoardSeat). places_of seat.number now.owners) stays.seat.seat);
  seats = sym (ap (λ (seat : BoardSeat). seat.seats) stays.seat.seat);
}

pub all_met : (first now : BoardContent) (others : List BoardContent) → Stays first now → All (λ board. Begins board.history now.history) others → All (OwnsAmong now) others → HaveAllMet (first ∷ others)
all_met first now others stays met owns =
    let all : All (OwnsAmong now) (first ∷ others) = All-cons (OwnsAmong now) first others (owns_first first now stays) owns in
    record {
      states = now.history;
      owners = now.owners;
      legal = λ opening all. subst (λ (o : LeafTiles). IsHistory o now.history) (stays.opening ∙ All-head (λ board. board.opening ≡ opening) first others all) stays.legal;
      owned = stays.seat.owned.each;
      seated = All-weaker (OwnsAmong now) (λ board. All (λ owner. owner < board.seat.seats) now.owners)
          (λ board own. subst (λ (n : ℕ). All (λ owner. owner < n) now.owners) (sym own.seats) stays.seat.owned.seated) (first ∷ others) all;
      each = All-cons (λ board. Begins board.history now.history) first others stays.earlier met;
      own = All-weaker (OwnsAmong now) (λ board. board.own ≡ places_of board.seat.number now.owners) (λ board own. own.own) (first ∷ others) all;
    }

one_item : {X : Type 0} (xs : List X) (d : X) → length xs ≡ 1 → xs ≡ get_or xs 0 d ∷ []
one_item [] d one = absurd (omega arith)
one_item (x ∷ []) d one = refl
one_item (x ∷ y ∷ xs) d one = absurd (omega arith)

-- the front of some boards, one of them, meets the rest, which then follow it
pub front_met : {A E : Type 0} (r : Result A E) (boards front rest mids : List BoardContent) (d now : BoardContent) → boards ≡ front ++ rest → length front ≡ 1
    → Stays (get_or front 0 d) now → AllZip Stays rest mids → All (λ board. Begins board.history now.history) rest → OnOk r (All (OwnsAmong now) mids) → OnOk r (HaveAllMet boards)
front_met (Ok done) boards front rest mids d now is one stays stay met owns =
    subst HaveAllMet (sym (is ∙ ap (λ xs. xs ++ rest) (one_item front d one))) (all_met (get_or front 0 d) now rest stays met (owns_before now rest mids stay owns))
front_met (Err error) boards front rest mids d now is one stays stay met owns = tt

-- ---- lists of what items have

map_of_map : {X Y Z : Type 0} (f : Y → Z) (g : X → Y) (xs : List X) → map f (map g xs) ≡ map (λ x. f (g x)) xs
map_of_map f g [] = refl
map_of_map f g (x ∷ xs) = ap (λ zs. f (g x) ∷ zs) (map_of_map f g xs)

pub map_same : {X : Type 0} (xs : List X) → map (λ x. x) xs ≡ xs
map_same [] = refl
map_same (x ∷ xs) = ap (λ ys. x ∷ ys) (map_same xs)

all_unmapped : {X Y : Type 0} (P : Y → Type 0) (f : X → Y) (xs : List X) → All P (map f xs) → All (λ x. P (f x)) xs
all_unmapped P f [] all = All-nil (λ x. P (f x))
all_unmapped P f (x ∷ xs) all = All-cons (λ x. P (f x)) x xs (All-head P (f x) (map f xs) all) (all_unmapped P f xs (All-tail P (f x) (map f xs) all))

-- items that are alike one by one in what is asked of them
map_alike : {X Y : Type 0} (f g : X → Y) (xs : List X) → All (λ x. f x ≡ g x) xs → map f xs ≡ map g xs
map_alike f g [] all = refl
map_alike f g (x ∷ xs) all = ap₂ (λ y ys. y ∷ ys) (All-head (λ x. f x ≡ g x) x xs all) (map_alike f g xs (All-tail (λ x. f x ≡ g x) x xs all))

-- ---- the doors

-- the board at a seat of a survey in its first state
seated_first : (state : StateContent) (seats : ℕ) (seat : SeatContent StateContent) → state.batches ≡ [] → state.tip ≡ 0 → seat.seen ≡ one_state seats state
    → seated seat ≡ first_board (record { number = seat.number; seats = seats }) state.conf state.opening
seated_first state seats seat none zero_tip is =
    ap (λ (seen : SeenHistory StateContent). seated (let one : SeatContent StateContent = record { number = seat.number; seen = seen } in one)) is ∙ (λ i. record {
      conf = state.conf;
      opening = state.opening;
      history = record { batches = none i; tip = zero_tip i } ∷ [];
      owners = [];
      seat = record { number = seat.number; seats = seats };
      own = [];
      held = None;
    })

module _ (state : StateContent) (seats : List (SeatContent StateContent)) (are : AreFirstSeats state seats) (most : ℕ) (boards' : List BoardContent) (doors doors' : List DoorContent) (end : PlaceEnd)
    (a : ArePlaces most (map seated seats) boards' doors doors' end) where
  abbrev IsFirst : BoardContent → Type 0
  IsFirst board = board ≡ first_board (record { number = board.seat.number; seats = length seats }) state.conf state.opening

  are_first : All IsFirst (map seated seats)
  are_first = All-map IsFirst seated seats
      (All-weaker (λ seat. seat.seen ≡ one_state (length seats) state) (λ seat. IsFirst (seated seat)) (λ seat is. seated_first state (length seats) seat are.batches are.tip is) seats are.seen)

  from_first : All (λ p. IsFirst p.first.board) a.places
  from_first = all_unmapped IsFirst (λ (p : OnePlace). p.first.board) a.places (subst (All IsFirst) (sym a.boards_are) are_first)

  pub serves_apart : ServesApart state.conf state.opening most doors doors' end
  serves_apart = record {
    boards = map seated seats;
    boards_then = boards';
    first = All-weaker IsFirst (λ board. board ≡ first_board board.seat state.conf state.opening)
        (λ board is. is ∙ ap (λ (seat : BoardSeat). first_board seat state.conf state.opening) (sym (ap (λ (b : BoardContent). b.seat) is))) (map seated seats) are_first;
    served = a;
  }

  -- the boards are still those of the survey
  abbrev IsStill : BoardContent → Type 0
  IsStill board = (board.opening ≡ state.opening) × (board.seat.seats ≡ length seats)

  are_still : All IsStill boards'
  are_still = subst (All IsStill) a.boards_then (All-map IsStill (λ (p : OnePlace). p.last.board) a.places (λ k p within.
      let goes = (a.each k p within).goes in
      let first = from_first k p within in
      (goes.opening ∙ ap (λ (b : BoardContent). b.opening) first, ap (λ (seat : BoardSeat). seat.seats) goes.seat.seat ∙ ap (λ (b : BoardContent). b.seat.seats) first)))

  as_many : length a.places ≡ length seats
  as_many = sym (length-map a.places (λ (p : OnePlace). p.first.board)) ∙ (ap length a.boards_are ∙ length-map seats seated)

  -- each owner is one of the seats
  owners_below : (owners : List ℕ) → 0 < length seats → All (λ board. All (λ owner. owner < board.seat.seats) owners) boards' → All (λ owner. owner < length seats) owners
  owners_below owners some below =
      let any = first_board (record { number = 0; seats = 0 }) state.conf state.opening in
      let within : 0 < length boards' = omega (arith, some, as_many, length-map a.places (λ (p : OnePlace). p.last.board), ap length a.boards_then) in
      subst (λ (n : ℕ). All (λ owner. owner < n) owners) (are_still 0 any within).1 (below 0 any within)

  -- the sessions of each place have all that is its seat's
  own_all : (owners : List ℕ) → All (λ board. board.own ≡ places_of board.seat.number owners) boards' → All (λ p. concat (owns_of p) ≡ places_of p.first.board.seat.number owners) a.places
  own_all owners own =
      let theirs = all_unmapped (λ board. board.own ≡ places_of board.seat.number owners) (λ (p : OnePlace). p.last.board) a.places
      (subst (All (λ board. board.own ≡ places_of board.seat.number owners)) (sym a.boards_then) own) in
      λ k p within.
      let place = get_or a.places k p in
      let goes = (a.each k p within).goes in
      let none : place.first.board.own ≡ [] = ap (λ (b : BoardContent). b.own) (from_first k p within) in
      sym (goes.own_is ∙ ap (λ (own : List ℕ). own ++ concat (owns_of place)) none) ∙ (theirs k p within ∙ ap (λ (seat : BoardSeat). places_of seat.number owners) goes.seat.seat)

  pub serves_doors : PlacesAreOwn → EachIsOneSeats → 0 < length seats → HaveAllMet boards' → ServesDoors state.conf state.opening most doors doors' end
  unfolding serves_apart
  serves_doors own one some met =
      let ps = a.places in
      let owns : List (List (List ℕ)) = map owns_of ps in
      let same : length owns ≡ length seats = length-map ps owns_of ∙ as_many in
      let in_order : map (λ (p : OnePlace). p.first.board.seat.number) ps ≡ range_with_len 0 (length ps) =
      sym (map_of_map (λ (b : BoardContent). b.seat.number) (λ (p : OnePlace). p.first.board) ps) ∙ (ap (map (λ (b : BoardContent). b.seat.number)) a.boards_are
      ∙ (map_of_map (λ (b : BoardContent). b.seat.number) seated seats ∙ (are.numbers ∙ ap (range_with_len 0) (sym as_many)))) in
      let doors_own : (d : ℕ) → d < length owns → concat (slice_index_or owns d []) ≡ places_of d met.owners =
      λ d inside. (let zero_plus : 0 + d ≡ d = omega arith in each_door met.owners ps 0 (own_all met.owners met.own) in_order d (omega (arith, inside, length-map ps owns_of)) ∙ ap (λ (k : ℕ). places_of k met.owners) zero_plus) in
      record {
        apart = serves_apart;
        states = met.states;
        legal = met.legal state.opening (λ k board within. (are_still k board within).0);
        begins = met.each;
        owned = λ place after within. one_sessions own one owns met.owners doors_own
            (subst (λ (n : ℕ). All (λ owner. owner < n) met.owners) (sym same) (owners_below met.owners some met.seated)) place after (omega (arith, within, met.owned));
      }

-- places of the boards at a survey's seats, which are seen as they are
pub as_seated : (seats : List (SeatContent StateContent)) (most : ℕ) (boards boards' : List BoardContent) (doors doors' : List DoorContent) (end : PlaceEnd)
    → boards ≡ map seated seats → ArePlaces most (map (λ (b : BoardContent). b) boards) (map (λ (b : BoardContent). b) boards') doors doors' end → ArePlaces most (map seated seats) boards' doors doors' end
as_seated seats most boards boards' doors doors' end is a =
    subst (λ (bs : List BoardContent). ArePlaces most bs boards' doors doors' end) (map_same boards ∙ is)
    (subst (λ (bs : List BoardContent). ArePlaces most (map (λ (b : BoardContent). b) boards) bs doors doors' end) (map_same boards') a)

-- ---- the counts of doors

ends_rise : (most : ℕ) (p : OnePlace) → IsServedPlace most p → p.end ≡ Failed → Rises p.door.faults p.door_then.faults
ends_rise most p served is = (subst (EndsBy most p.door p.door_then p.sessions) is served.ends).0

ends_still : (most : ℕ) (door door' : DoorContent) (sessions : List OneSession) (end : PlaceEnd) → end ≢ Failed → EndsBy most door door' sessions end → door'.faults ≡ door.faults
ends_still most door door' sessions Done other e = e.0.faults
ends_still most door door' sessions OutOfMemory other (inl refused) = refused.1
ends_still most door door' sessions OutOfMemory other (inr took) = took.0.faults
ends_still most door door' sessions Failed other e = absurd (other refl)

ends_done : (most : ℕ) (p : OnePlace) → IsServedPlace most p → p.end ≡ Done → p.door_then.memory_faults ≡ p.door.memory_faults
ends_done most p served is = (subst (EndsBy most p.door p.door_then p.sessions) is served.ends).0.memory_faults

rises_at : (most : ℕ) (ps : List OnePlace) → All (IsServedPlace most) ps → Contains (map (λ (p : OnePlace). p.end) ps) Failed
    → SomeRises (map (λ (p : OnePlace). p.door.faults) ps) (map (λ (p : OnePlace). p.door_then.faults) ps)
rises_at most [] each (k, within, is) = absurd (omega arith)
rises_at most (p ∷ ps) each (zero, within, is) = inl (ends_rise most p (All-head (IsServedPlace most) p ps each) is)
rises_at most (p ∷ ps) each (suc k, within, is) = inr (rises_at most ps (All-tail (IsServedPlace most) p ps each) (k, omega arith, is))

module _ {D : Type 0} (content : D → DoorContent) (conf : Description) (opening : LeafTiles) (most : ℕ) (doors doors' : List D) where
  -- what the doors tell, by the places
  told : {Y : Type 0} (of : DoorContent → Y) (at : OnePlace → DoorContent) (ps : List OnePlace) (ds : List D) → map at ps ≡ map content ds → map (λ p. of (at p)) ps ≡ map (λ d. of (content d)) ds
  told of at ps ds are = sym (map_of_map of at ps) ∙ (ap (map of) are ∙ map_of_map of content ds)

  same_then : {Y : Type 0} (of : DoorContent → Y) (ps : List OnePlace) → map (λ (p : OnePlace). p.door) ps ≡ map content doors → map (λ (p : OnePlace). p.door_then) ps ≡ map content doors'
      → All (λ (p : OnePlace). of p.door_then ≡ of p.door) ps → map (λ d. of (content d)) doors' ≡ map (λ d. of (content d)) doors
  same_then of ps are then same = sym (told of (λ (p : OnePlace). p.door_then) ps doors' then)
      ∙ (map_alike (λ (p : OnePlace). of p.door_then) (λ (p : OnePlace). of p.door) ps same ∙ told of (λ (p : OnePlace). p.door) ps doors are)

  pub failed_rises : (result : Result PlaceEnd ServeRefusal) → ServesAs conf opening most (map content doors) (map content doors') result → result ≡ Ok Failed
      → SomeRises (map (λ d. (content d).faults) doors) (map (λ d. (content d).faults) doors')
  failed_rises result serves is =
      let a = (subst (ServesAs conf opening most (map content doors) (map content doors')) is serves).apart.served in
      subst (λ (ns : List ℕ). SomeRises ns (map (λ d. (content d).faults) doors')) (told (λ d. d.faults) (λ (p : OnePlace). p.door) a.places doors a.doors_are)
      (subst (λ (ns : List ℕ). SomeRises (map (λ (p : OnePlace). p.door.faults) a.places) ns) (told (λ d. d.faults) (λ (p : OnePlace). p.door_then) a.places doors' a.doors_then)
      (rises_at most a.places a.each a.ends))

  pub failed_only : (result : Result PlaceEnd ServeRefusal) → ServesAs conf opening most (map content doors) (map content doors') result
      → IfOk result (λ end. end ≢ Failed → map (λ d. (content d).faults) doors' ≡ map (λ d. (content d).faults) doors)
  failed_only (Ok end) serves = λ other.
      let a = serves.apart.served in
      let none = all_unmapped (λ each. each ≢ Failed) (λ (p : OnePlace). p.end) a.places (none_failed (map (λ (p : OnePlace). p.end) a.places) end a.ends other) in
      same_then (λ d. d.faults) a.places a.doors_are a.doors_then (λ k p within.
      let place = get_or a.places k p in ends_still most place.door place.door_then place.sessions place.end (none k p within) (a.each k p within).ends)
  failed_only (Err why) serves = tt

  pub done_only : (result : Result PlaceEnd ServeRefusal) → ServesAs conf opening most (map content doors) (map content doors') result → result ≡ Ok Done
      → map (λ d. (content d).memory_faults) doors' ≡ map (λ d. (content d).memory_faults) doors
  done_only result serves is =
      let a = (subst (ServesAs conf opening most (map content doors) (map content doors')) is serves).apart.served in
      let done = all_unmapped (λ each. each ≡ Done) (λ (p : OnePlace). p.end) a.places a.ends in
      same_then (λ d. d.memory_faults) a.places a.doors_are a.doors_then (λ k p within. ends_done most (get_or a.places k p) (a.each k p within) (done k p within))
