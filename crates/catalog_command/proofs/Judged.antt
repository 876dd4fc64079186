-- What stands next in an input, judged as the line of its number, is what the definition says of it.
use Rattle.std.proofs.Common.{◌≡◌, ℕ, ◌+◌, ◌<◌, ◌≤◌, Bool, true, false, cond, List, [], ◌∷◌, ◌++◌, length, take, drop, Option, Some, None, Result, Ok, Err, refl, ap, ◌∙◌, subst, arith}
use Rattle.std.specs.Prelude.{nat_lt, nat_le}
use Rattle.std.specs.Io.KnownBytes.{IsAtEnd}
use Rattle.std.proofs.lemmas.Bool.Decides.{nat_tests}
use Rattle.std.proofs.lemmas.List.{append-nil, length-take-le}
use Rattle.hips_catalog.specs.Catalogue.{Catalogue}
use Rattle.catalog_command.specs.declared.refusal.LineFault.{LineFault}
use Rattle.catalog_command.specs.declared.refusal.LineFault.TheVariants.{Long, Many}
use Rattle.catalog_command.specs.declared.refusal.CatalogRefusal.{CatalogRefusal}
use Rattle.catalog_command.specs.declared.refusal.CatalogRefusal.TheVariants.{Cut, Line, OutOfMemory}
use Rattle.catalog_command.specs.declared.line.LineRefusal.TheVariants.{Fault, OutOfMemory as NoRoom}
use Rattle.catalog_command.specs.declared.found.Found.{Found}
use Rattle.catalog_command.specs.declared.found.Found.TheVariants.{Line as Whole, Long as Front, Cut as Short, End}
use Rattle.catalog_command.specs.Lines.{most_lines, most_bytes, bad_line, where_allowed, at_last, then_lines, after_line, after_parts, after_input, parts}
use Rattle.catalog_command.specs.Input.{MayFollow}
use Rattle.catalog_command.specs.Unread.{place_of_feed, IsFound}
use Rattle.catalog_command.specs.Judging.{judged, numbered}
use Rattle.catalog_command.specs.Stops.{TellsStop}
use Rattle.catalog_command.specs.Answers.{Answer, IsAnswered}
use Rattle.catalog_command.proofs.Inputs.{nothing_follows}
use Rattle.catalog_command.proofs.Feeds.{feed_inside, parts_line, parts_none, some_parts, parts_long}

-- ---- what the definition says of bytes of which this stands first

pub after_end : (c : Catalogue) (n : ℕ) → after_input c n [] ≡ Ok c
unfolding after_input
after_end c n = refl

last_some : (c : Catalogue) (n : ℕ) (part : List ℕ) → 0 < length part → at_last c n part ≡ where_allowed n part (Err Cut)
last_some c n [] some = absurd (omega (arith, some))
last_some c n (b ∷ bs) some = refl

after_cut : (c : Catalogue) (n : ℕ) (bytes : List ℕ) → 0 < length bytes → place_of_feed bytes ≡ None → after_input c n bytes ≡ where_allowed n bytes (Err Cut)
unfolding after_input
after_cut c n bytes some none = ap (after_parts c n) (parts_none bytes none) ∙ last_some c n bytes some

record IsAllowed (c : Catalogue) (n : ℕ) (part : List ℕ) (ps : List (List ℕ)) : Type 0 where
  otherwise : Result Catalogue CatalogRefusal
  is : after_parts c n (part ∷ ps) ≡ where_allowed n part otherwise

first_allowed : (c : Catalogue) (n : ℕ) (part : List ℕ) (ps : List (List ℕ)) → 0 < length part → IsAllowed c n part ps
first_allowed c n part [] some = record { otherwise = Err Cut; is = last_some c n part some }
first_allowed c n part (next ∷ more) some = record { otherwise = then_lines n (after_line c part) (λ d. after_parts d (n + 1) (next ∷ more)); is = refl }

-- what is too long is refused as such, unless there are too many lines
too_long : (n : ℕ) (part : List ℕ) (otherwise : Result Catalogue CatalogRefusal) → most_bytes ≤ length part → where_allowed n part otherwise ≡ cond (nat_lt most_lines n) (bad_line n Many) (bad_line n Long)
too_long n part otherwise long =
    let test : nat_le most_bytes (length part) ≡ true = grind (arith, nat_tests) in
    ap (λ t. cond (nat_lt most_lines n) (bad_line n Many) (cond t (bad_line n Long) otherwise)) test

not_long : (n : ℕ) (part : List ℕ) (otherwise : Result Catalogue CatalogRefusal) → length part < most_bytes → where_allowed n part otherwise ≡ cond (nat_lt most_lines n) (bad_line n Many) otherwise
not_long n part otherwise short =
    let test : nat_le most_bytes (length part) ≡ false = grind (arith, nat_tests) in
    ap (λ t. cond (nat_lt most_lines n) (bad_line n Many) (cond t (bad_line n Long) otherwise)) test

after_front : (c : Catalogue) (n : ℕ) (front more : List ℕ) → most_bytes ≤ length front → place_of_feed (take most_bytes front) ≡ None → after_input c n (front ++ more) ≡ cond (nat_lt most_lines n) (bad_line n Many) (bad_line n Long)
unfolding after_input
after_front c n front more fits none =
    let long = parts_long front more fits none in
    let big : most_bytes ≤ length long.part = long.long in
    let first = first_allowed c n long.part long.more (omega (arith, big)) in
    ap (after_parts c n) long.is ∙ first.is ∙ too_long n long.part first.otherwise long.long

line_first : (c : Catalogue) (n : ℕ) (part : List ℕ) (ps : List (List ℕ)) → 0 < length ps → after_parts c n (part ∷ ps) ≡ where_allowed n part (then_lines n (after_line c part) (λ d. after_parts d (n + 1) ps))
line_first c n part [] some = absurd (omega (arith, some))
line_first c n part (next ∷ more) some = refl

abbrev pub next_lines : Catalogue → ℕ → List ℕ → List ℕ → ℕ → Result Catalogue CatalogRefusal
next_lines c n held more count = then_lines n (after_line c (take count held)) (λ d. after_input d (n + 1) (drop (count + 1) held ++ more))

after_whole : (c : Catalogue) (n : ℕ) (held more : List ℕ) (count : ℕ) → place_of_feed held ≡ Some count → count < most_bytes →
    after_input c n (held ++ more) ≡ cond (nat_lt most_lines n) (bad_line n Many) (next_lines c n held more count)
unfolding after_input
after_whole c n held more count at short =
    let inside = feed_inside held count at in
    let size = length-take-le count held (omega (arith, inside)) in
    ap (after_parts c n) (parts_line held more count at)
    ∙ line_first c n (take count held) (parts (drop (count + 1) held ++ more)) (some_parts (drop (count + 1) held ++ more))
    ∙ not_long n (take count held) (next_lines c n held more count) (omega (arith, size, short))

-- ---- what is judged

pub judged_none : (n : ℕ) (found : Found) (held : List ℕ) (left : Option (List ℕ)) → judged n found ≡ Ok None → IsFound held left found → (held ≡ []) × IsAtEnd left
judged_none n End held left e is = is
judged_none n (Whole count) held left e is = at (nat_lt most_lines n) e
  where
    at : (t : Bool) → cond {A = Result (Option ℕ) CatalogRefusal} t (bad_line n Many) (Ok (Some count)) ≡ Ok None → (held ≡ []) × IsAtEnd left
    at true e = cc
    at false e = cc
judged_none n Front held left e is = at (nat_lt most_lines n) e
  where
    at : (t : Bool) → cond {A = Result (Option ℕ) CatalogRefusal} t (bad_line n Many) (bad_line n Long) ≡ Ok None → (held ≡ []) × IsAtEnd left
    at true e = cc
    at false e = cc
judged_none n Short held left e is = at (nat_lt most_lines n) e
  where
    at : (t : Bool) → cond {A = Result (Option ℕ) CatalogRefusal} t (bad_line n Many) (Err Cut) ≡ Ok None → (held ≡ []) × IsAtEnd left
    at true e = cc
    at false e = cc

-- the end of the input
pub ends : (c : Catalogue) (n : ℕ) (found : Found) (held : List ℕ) (left : Option (List ℕ)) (more : List ℕ) → judged n found ≡ Ok None → IsFound held left found → MayFollow left more
    → after_input c n (held ++ more) ≡ Ok c
ends c n found held left more e is may =
    let now = judged_none n found held left e is in
    ap (λ bytes. after_input c n (bytes ++ more)) now.0 ∙ ap (after_input c n) (nothing_follows left more now.1 may) ∙ after_end c n

-- the stop is what a result says
said : (made : Result Catalogue CatalogRefusal) (own stop : CatalogRefusal) → made ≡ Err own → own ≡ stop → TellsStop made own → TellsStop made stop
said made own stop e same tells = subst (TellsStop made) same tells

bad : (made : Result Catalogue CatalogRefusal) (n : ℕ) (fault : LineFault) (stop : CatalogRefusal) → made ≡ bad_line n fault → Line (record { line = n; fault = fault }) ≡ stop → TellsStop made stop
bad made n fault stop e same = subst (TellsStop made) same e

pub stops : (c : Catalogue) (n : ℕ) (found : Found) (held : List ℕ) (left : Option (List ℕ)) (more : List ℕ) (stop : CatalogRefusal) →
    judged n found ≡ Err stop → IsFound held left found → MayFollow left more → TellsStop (after_input c n (held ++ more)) stop
stops c n End held left more stop e is may = cc
stops c n (Whole count) held left more stop e is may =
    at (next_lines c n held more count) (nat_lt most_lines n) (after_whole c n held more count is.0 is.1) e
  where
    at : (otherwise : Result Catalogue CatalogRefusal) (t : Bool) → after_input c n (held ++ more) ≡ cond t (bad_line n Many) otherwise → cond {A = Result (Option ℕ) CatalogRefusal} t (bad_line n Many) (Ok (Some count)) ≡ Err stop → TellsStop (after_input c n (held ++ more)) stop
    at otherwise true made e = bad (after_input c n (held ++ more)) n Many stop made cc
    at otherwise false made e = cc
stops c n Front held left more stop e is may =
    at (nat_lt most_lines n) (after_front c n held more is.0 is.1) e
  where
    at : (t : Bool) → after_input c n (held ++ more) ≡ cond {A = Result Catalogue CatalogRefusal} t (bad_line n Many) (bad_line n Long) → cond {A = Result (Option ℕ) CatalogRefusal} t (bad_line n Many) (bad_line n Long) ≡ Err stop → TellsStop (after_input c n (held ++ more)) stop
    at true made e = bad (after_input c n (held ++ more)) n Many stop made cc
    at false made e = bad (after_input c n (held ++ more)) n Long stop made cc
stops c n Short held left more stop e is may =
    let whole : held ++ more ≡ held = ap (λ behind. held ++ behind) (nothing_follows left more is.3 may) ∙ append-nil held in
    at (nat_lt most_lines n) (ap (after_input c n) whole ∙ after_cut c n held is.0 is.2 ∙ not_long n held (Err Cut) is.1) e
  where
    at : (t : Bool) → after_input c n (held ++ more) ≡ cond {A = Result Catalogue CatalogRefusal} t (bad_line n Many) (Err Cut) → cond {A = Result (Option ℕ) CatalogRefusal} t (bad_line n Many) (Err Cut) ≡ Err stop → TellsStop (after_input c n (held ++ more)) stop
    at true made e = bad (after_input c n (held ++ more)) n Many stop made cc
    at false made e = let same : Cut ≡ stop = cc in subst (TellsStop (after_input c n (held ++ more))) same made

-- a line stands next, and is allowed
pub record IsLine (n : ℕ) (held : List ℕ) (count : ℕ) : Type 0 where
  pub allowed : n ≤ most_lines
  pub within : count < length held

line_of : (n : ℕ) (found : Found) (held : List ℕ) (left : Option (List ℕ)) (count : ℕ) → judged n found ≡ Ok (Some count) → IsFound held left found → (n ≤ most_lines) × (found ≡ Whole count)
line_of n End held left count e is = cc
line_of n (Whole m) held left count e is = at (nat_lt most_lines n) refl e
  where
    at : (t : Bool) → nat_lt most_lines n ≡ t → cond {A = Result (Option ℕ) CatalogRefusal} t (bad_line n Many) (Ok (Some m)) ≡ Ok (Some count) → (n ≤ most_lines) × (Whole m ≡ Whole count)
    at true is e = cc
    at false is e = let same : m ≡ count = cc in (grind (arith, nat_tests), ap Whole same)
line_of n Front held left count e is = at (nat_lt most_lines n) e
  where
    at : (t : Bool) → cond {A = Result (Option ℕ) CatalogRefusal} t (bad_line n Many) (bad_line n Long) ≡ Ok (Some count) → (n ≤ most_lines) × (Front ≡ Whole count)
    at true e = cc
    at false e = cc
line_of n Short held left count e is = at (nat_lt most_lines n) e
  where
    at : (t : Bool) → cond {A = Result (Option ℕ) CatalogRefusal} t (bad_line n Many) (Err Cut) ≡ Ok (Some count) → (n ≤ most_lines) × (Short ≡ Whole count)
    at true e = cc
    at false e = cc

pub is_line : (n : ℕ) (found : Found) (held : List ℕ) (left : Option (List ℕ)) (count : ℕ) → judged n found ≡ Ok (Some count) → IsFound held left found → IsLine n held count
is_line n found held left count e is =
    let line = line_of n found held left count e is in
    let here : IsFound held left (Whole count) = subst (IsFound held left) line.1 is in
    record { allowed = line.0; within = feed_inside held count here.0 }

-- whatever follows it
pub is_next : (c : Catalogue) (n : ℕ) (found : Found) (held : List ℕ) (left : Option (List ℕ)) (count : ℕ) → judged n found ≡ Ok (Some count) → IsFound held left found → (more : List ℕ)
    → after_input c n (held ++ more) ≡ next_lines c n held more count
is_next c n found held left count e is more =
    let line = line_of n found held left count e is in
    let here : IsFound held left (Whole count) = subst (IsFound held left) line.1 is in
    let few : n ≤ most_lines = line.0 in
    let test : nat_lt most_lines n ≡ false = grind (arith, nat_tests) in
    after_whole c n held more count here.0 here.1 ∙ ap (λ t. cond t (bad_line n Many) (next_lines c n held more count)) test

-- ---- what use was made of the line

pub used_stop : (n : ℕ) (made : Result Catalogue LineFault) (next : Catalogue → Result Catalogue CatalogRefusal) (old new : Catalogue) (answer : Answer) (stop : CatalogRefusal) (all : Result Catalogue CatalogRefusal) →
    all ≡ then_lines n made next → IsAnswered made old answer new → numbered n answer ≡ Err stop → TellsStop all stop
used_stop n made next old new (Ok done) stop all is answered e = cc
used_stop n made next old new (Err (Fault fault)) stop all is answered e = bad all n fault stop (is ∙ ap (λ m. then_lines n m next) answered.0) cc
used_stop n made next old new (Err NoRoom) stop all is answered e = let same : OutOfMemory ≡ stop = cc in subst (TellsStop all) same tt

pub used_ok : (n : ℕ) (made : Result Catalogue LineFault) (old new : Catalogue) (answer : Answer) (done : Unit {0}) → IsAnswered made old answer new → numbered n answer ≡ Ok done → made ≡ Ok new
used_ok n made old new (Ok own) done answered e = answered
used_ok n made old new (Err (Fault fault)) done answered e = cc
used_ok n made old new (Err NoRoom) done answered e = cc
