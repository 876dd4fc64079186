-- The places of a server.
use Rattle.std.proofs.Common.{◌≡◌, ◌≢◌, List, [], ◌∷◌, ◌++◌, length, get_or, map, slice_set, refl, sym, ap₂, ◌∙◌, subst, arith}
use Rattle.std.specs.Prelude.{ℕ, All}
use Rattle.std.proofs.lemmas.List.{map-append}
use Rattle.std.proofs.lemmas.List.Elements.{All-nil, All-cons, All-append, All-weaker, Contains-append_left, Contains-append_right}
use Rattle.reader_pin.specs.Board.{BoardContent}
use Rattle.hips_place.specs.declared.place.PlaceEnd.{PlaceEnd}
use Rattle.hips_place.specs.declared.place.PlaceEnd.TheVariants.{Done, Failed, OutOfMemory}
use Rattle.hips_place.specs.Place.{DoorContent, OnePlace, IsServedPlace, ServesPlace, EndAs, ArePlaces, worse}

-- ---- how places end

done_not_failed : (ends : List PlaceEnd) → All (λ each. each ≡ Done) ends → All (λ each. each ≢ Failed) ends
done_not_failed ends all = All-weaker (λ each. each ≡ Done) (λ each. each ≢ Failed) (λ each is failed. cc) ends all

pub none_failed : (ends : List PlaceEnd) (end : PlaceEnd) → EndAs ends end → end ≢ Failed → All (λ each. each ≢ Failed) ends
none_failed ends Done e other = done_not_failed ends e
none_failed ends OutOfMemory e other = e.1
none_failed ends Failed e other = absurd (other refl)

ends_both : (a b : PlaceEnd) (ends others : List PlaceEnd) → EndAs ends a → EndAs others b → EndAs (ends ++ others) (worse a b)
ends_both Failed b ends others first second = Contains-append_left ends others Failed first
ends_both OutOfMemory Failed ends others first second = Contains-append_right ends others Failed second
ends_both OutOfMemory OutOfMemory ends others first second = (Contains-append_left ends others OutOfMemory first.0, All-append (λ each. each ≢ Failed) ends others first.1 second.1)
ends_both OutOfMemory Done ends others first second =
    (Contains-append_left ends others OutOfMemory first.0, All-append (λ each. each ≢ Failed) ends others first.1 (done_not_failed others second))
ends_both Done Failed ends others first second = Contains-append_right ends others Failed second
ends_both Done OutOfMemory ends others first second =
    (Contains-append_right ends others OutOfMemory second.0, All-append (λ each. each ≢ Failed) ends others (done_not_failed ends first) second.1)
ends_both Done Done ends others first second = All-append (λ each. each ≡ Done) ends others first second

one_end : (end : PlaceEnd) → EndAs (end ∷ []) end
one_end Done = All-cons (λ each. each ≡ Done) Done [] refl (All-nil (λ each. each ≡ Done))
one_end Failed = (0, omega arith, refl)
one_end OutOfMemory = ((0, omega arith, refl), All-cons (λ each. each ≢ Failed) OutOfMemory [] (λ failed. cc) (All-nil (λ each. each ≢ Failed)))

-- ---- the places

no_places : (most : ℕ) → ArePlaces most [] [] [] [] Done
no_places most = record {
  places = [];
  each = All-nil (IsServedPlace most);
  boards_are = refl;
  boards_then = refl;
  doors_are = refl;
  doors_then = refl;
  ends = All-nil (λ each. each ≡ Done);
}

one_place : (most : ℕ) (place : OnePlace) → IsServedPlace most place
    → ArePlaces most (place.first.board ∷ []) (place.last.board ∷ []) (place.door ∷ []) (place.door_then ∷ []) place.end
one_place most place is = record {
  places = place ∷ [];
  each = All-cons (IsServedPlace most) place [] is (All-nil (IsServedPlace most));
  boards_are = refl;
  boards_then = refl;
  doors_are = refl;
  doors_then = refl;
  ends = one_end place.end;
}

pub both_places : (most : ℕ) (boards boards' more more' : List BoardContent) (doors doors' further further' : List DoorContent) (end other : PlaceEnd)
    → ArePlaces most boards boards' doors doors' end → ArePlaces most more more' further further' other
    → ArePlaces most (boards ++ more) (boards' ++ more') (doors ++ further) (doors' ++ further') (worse end other)
both_places most boards boards' more more' doors doors' further further' end other a b = record {
  places = a.places ++ b.places;
  each = All-append (IsServedPlace most) a.places b.places a.each b.each;
  boards_are = map-append (λ (p : OnePlace). p.first.board) a.places b.places ∙ ap₂ ◌++◌ a.boards_are b.boards_are;
  boards_then = map-append (λ (p : OnePlace). p.last.board) a.places b.places ∙ ap₂ ◌++◌ a.boards_then b.boards_then;
  doors_are = map-append (λ (p : OnePlace). p.door) a.places b.places ∙ ap₂ ◌++◌ a.doors_are b.doors_are;
  doors_then = map-append (λ (p : OnePlace). p.door_then) a.places b.places ∙ ap₂ ◌++◌ a.doors_then b.doors_then;
  ends = subst (λ (ends : List PlaceEnd). EndAs ends (worse end other)) (sym (map-append (λ (p : OnePlace). p.end) a.places b.places))
      (ends_both end other (map (λ (p : OnePlace). p.end) a.places) (map (λ (p : OnePlace). p.end) b.places) a.ends b.ends);
}

module _ {B D : Type 0} (content : B → BoardContent) (told : D → DoorContent) (most : ℕ) where
  -- no board and no door
  pub empty_places : (boards : List B) (doors : List D) → length boards ≡ 0 → length doors ≡ 0 → ArePlaces most (map content boards) (map content boards) (map told doors) (map told doors) Done
  empty_places [] [] none same = no_places most
  empty_places [] (d ∷ doors) none same = absurd (omega arith)
  empty_places (b ∷ boards) doors none same = absurd (omega arith)

  -- one board and one door
  pub first_place : (boards : List B) (doors : List D) (b b' : B) (d d' : D) (steps steps' : ℕ) (end : PlaceEnd) → length boards ≡ 1 → length doors ≡ 1 → b ≡ get_or boards 0 b → d ≡ get_or doors 0 d
      → ServesPlace (record { board = content b; steps = steps }) (record { board = content b'; steps = steps' }) (told d) (told d') most end
      → ArePlaces most (map content boards) (map content (slice_set boards 0 b')) (map told doors) (map told (slice_set doors 0 d')) end
  first_place [] doors b b' d d' steps steps' end one same is_b is_d serves = absurd (omega arith)
  first_place (x ∷ y ∷ boards) doors b b' d d' steps steps' end one same is_b is_d serves = absurd (omega arith)
  first_place (x ∷ []) [] b b' d d' steps steps' end one same is_b is_d serves = absurd (omega arith)
  first_place (x ∷ []) (y ∷ z ∷ doors) b b' d d' steps steps' end one same is_b is_d serves = absurd (omega arith)
  first_place (x ∷ []) (y ∷ []) b b' d d' steps steps' end one same is_b is_d serves =
      subst (λ (b : B). ArePlaces most (content b ∷ []) (content b' ∷ []) (told y ∷ []) (told d' ∷ []) end) is_b
      (subst (λ (d : D). ArePlaces most (content b ∷ []) (content b' ∷ []) (told d ∷ []) (told d' ∷ []) end) is_d (one_place most _ serves.served))

  -- two parts of the boards and doors, joined
  pub are_joined : (boards b1 b2 b1' b2' : List B) (doors d1 d2 d1' d2' : List D) (end : PlaceEnd) → boards ≡ b1 ++ b2 → doors ≡ d1 ++ d2
      → ArePlaces most (map content b1 ++ map content b2) (map content b1' ++ map content b2') (map told d1 ++ map told d2) (map told d1' ++ map told d2') end
      → ArePlaces most (map content boards) (map content (b1' ++ b2')) (map told doors) (map told (d1' ++ d2')) end
  are_joined boards b1 b2 b1' b2' doors d1 d2 d1' d2' end bs ds are =
      rw (bs, ds, map-append content b1 b2, map-append content b1' b2', map-append told d1 d2, map-append told d1' d2') are
