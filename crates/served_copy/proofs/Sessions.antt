-- What a session answers to the requests of a copy.
use Rattle.std.proofs.Common.{◌≡◌, ◌⊎◌, inl, inr, ℕ, ◌+◌, ◌-◌, ◌<◌, ◌≤◌, ◌^◌, Bool, true, false, List, [], ◌∷◌, ◌++◌, Option, Some, None, length, map, drop, flat_map, refl, sym, ap, ◌∙◌, subst, arith, append_assoc, length-append, codes}
use Rattle.std.specs.Prelude.{slice_get, slice_index, All, ⊤, ◌==◌, unwrap_or}
use Rattle.std.specs.List.{concat}
use Rattle.std.specs.Option.{option_map_or}
use Rattle.std.specs.Map.{keys_of}
use Rattle.std.proofs.lemmas.Bool.{true≢false}
use Rattle.std.proofs.lemmas.Bool.Decides.{nat_tests}
use Rattle.std.proofs.lemmas.List.{append-nil, length-map}
use Rattle.std.proofs.lemmas.List.Elements.{All-head, All-tail, All-nil, All-cons}
use Rattle.healpix_nested.specs.Cells.{NestedCell, cell_count}
use Rattle.healpix_nested.specs.CellLaws.{four_pow_mono}
use Rattle.survey_conf.specs.Description.{Description}
use Rattle.edit_journal.specs.Leaves.{LeafTiles}
use Rattle.tile_path.specs.Laws.{SpellingsDiffer}
use Rattle.tile_path.specs.Spelling.{IsPath, spelling}
use Rattle.tile_path.specs.declared.path.Path.{Path}
use Rattle.tile_path.specs.declared.path.Path.TheVariants as path
use Rattle.http_frame.specs.Next.{no_request, whole_request, IsWhole}
use Rattle.http_frame.specs.Laws.{NextIsOne}
use Rattle.http_frame.specs.declared.request.Request.{Request}
use Rattle.http_frame.specs.declared.reply.Number.TheVariants as number
use Rattle.survey_link.specs.Link.{CountsFault}
use Rattle.survey_core.specs.History.{SurveyState}
use Rattle.survey_core.specs.Reply.{file_at}
use Rattle.hips_http.specs.declared.served.SessionEnd.{SessionEnd}
use Rattle.hips_http.specs.declared.served.SessionEnd.TheVariants as end
use Rattle.hips_http.specs.declared.call.PathKind.{PathKind}
use Rattle.hips_http.specs.declared.call.PathKind.TheVariants as kind
use Rattle.hips_http.specs.declared.call.Call.{Call}
use Rattle.hips_http.specs.declared.call.Call.TheVariants as call
use Rattle.hips_http.specs.Paths.{IsOfKind, call_of}
use Rattle.hips_http.specs.Replies.{output_of, released, file_answer, found_answer, not_found}
use Rattle.hips_http.specs.Answers.{Asking, Point, Answers, Reads, Pins}
use Rattle.hips_http.specs.SessionRun.{most_requests, room_of, AreRequests, IsOutput, AreAnswered, Exchange, input_of, input_seen, is_read_fault, Ends, AllFlushed, first_point}
use Rattle.hips_http.specs.Fulfilled.{IsSoundCall, IsSound, IsSoundInput, IsAcceptedCall, AreAccepted}
use Rattle.hips_http.specs.Laws.{Connection, IsUnbroken, EachAccepted, FulfilsAll, NeverBegins, Completeness}
use Rattle.hips_http.proofs.OneKind.{one_kind}
use Rattle.mirror_frame.specs.declared.ask.Ask.{Ask}
use Rattle.mirror_frame.specs.declared.ask.Ask.TheVariants.{Pin, File, Unpin}
use Rattle.mirror_frame.specs.Requests.{request_bytes, leaf_ask, mosaic_asks, asks, mirror_requests}
use Rattle.hips_mirror.specs.Mirror.{most_leaves}
use Rattle.hips_mirror.specs.Peer.{bytes_of, found_reply, text_reply, reply_to, published, peer_bytes}
use Rattle.hips_mirror.specs.Peer.{closes as closes_after}
use Rattle.served_copy.specs.Served.{IsSeen, AsksForCopy, AnswersCopy, replies_of}
use Rattle.served_copy.proofs.Requests.{HasNumbersIn, plain_request, method_in, asks_close, path_in, read_whole}

-- ---- the requests of a copy

-- what is asked for is a file that a survey can have, or no file
abbrev IsAsk : Ask → Type 0
IsAsk Pin = ⊤
IsAsk (File file) = IsPath file
IsAsk Unpin = ⊤

abbrev AreAsks : List Ask → Type 0
AreAsks [] = ⊤
AreAsks (ask ∷ list) = IsAsk ask × AreAsks list

abbrev AreFiles : List Ask → Type 0
AreFiles [] = ⊤
AreFiles (Pin ∷ list) = ⊥
AreFiles (File file ∷ list) = IsPath file × AreFiles list
AreFiles (Unpin ∷ list) = ⊥

-- the files that are asked for
abbrev files_of : ℕ → List ℕ → List Ask
files_of top leaves = File path.Properties ∷ File path.Moc ∷ (map (leaf_ask top) leaves ++ mosaic_asks leaves)

-- some files, and the end
abbrev with_end : List Ask → List Ask
with_end files = files ++ Unpin ∷ []

files_then : (files : List Ask) → AreFiles files → AreAsks (with_end files)
files_then [] are = (tt, tt)
files_then (Pin ∷ list) are = absurd are
files_then (File file ∷ list) are = (are.0, files_then list are.1)
files_then (Unpin ∷ list) are = absurd are

leaves_are : (top : ℕ) (leaves : List ℕ) (more : List Ask) → top ≤ 11 → All (λ leaf. leaf < cell_count top) leaves → AreFiles more → AreFiles (map (leaf_ask top) leaves ++ more)
leaves_are top [] more low cells are = are
leaves_are top (leaf ∷ leaves) more low cells are =
    let cell : leaf < cell_count top = All-head (λ leaf. leaf < cell_count top) leaf leaves cells in (
      record { cell = record { known_order = omega (arith, low); in_order = cell }; order_at_most_11 = low },
      leaves_are top leaves more low (All-tail (λ leaf. leaf < cell_count top) leaf leaves cells) are,
    )

mosaic_is : (leaves : List ℕ) → AreFiles (mosaic_asks leaves)
mosaic_is [] = tt
mosaic_is (leaf ∷ leaves) = (tt, tt)

files_are : (top : ℕ) (leaves : List ℕ) → top ≤ 11 → All (λ leaf. leaf < cell_count top) leaves → AreFiles (files_of top leaves)
files_are top leaves low cells = (tt, (tt, leaves_are top leaves (mosaic_asks leaves) low cells (mosaic_is leaves)))

few_files : (top : ℕ) (leaves : List ℕ) → length leaves ≤ most_leaves → length (files_of top leaves) + 2 < most_requests
few_files top leaves few =
    let mosaic : length (mosaic_asks leaves) ≤ 1 = at_most leaves in
    omega (arith, few, mosaic, length-append (map (leaf_ask top) leaves) (mosaic_asks leaves), length-map leaves (leaf_ask top))
  where
    at_most : (leaves : List ℕ) → length (mosaic_asks leaves) ≤ 1
    at_most [] = omega arith
    at_most (leaf ∷ leaves) = omega arith

-- ---- as a session reads them

asking_of : Ask → Asking
asking_of ask = record { asked = plain_request (method_in ask) (asks_close ask); path = Some (path_in ask); body = [] }

has_numbers : (ask : Ask) → IsAsk ask → HasNumbersIn ask
has_numbers Pin is = tt
has_numbers (File path.Properties) is = tt
has_numbers (File path.Moc) is = tt
has_numbers (File path.Allsky) is = tt
has_numbers (File (path.Tile cell)) is = (omega (arith, is.order_at_most_11), within cell.order cell.npix is.order_at_most_11 is.cell.in_order)
  where
    within : (order npix : ℕ) → order ≤ 11 → npix < cell_count order → npix < 2 ^ 64
    within order npix low cell = let most : 4 ^ order ≤ 4 ^ 11 = four_pow_mono order 11 low in omega (arith, most, cell)
has_numbers Unpin is = tt

are_requests : (room : ℕ) (list : List Ask) (rest : List ℕ) → AreAsks list → AreRequests room (flat_map request_bytes list ++ rest) (map asking_of list) rest
unfolding asking_of
are_requests room [] rest are = refl
are_requests room (ask ∷ list) rest are =
    let later : List ℕ = flat_map request_bytes list in (
      later ++ rest,
      subst (λ t. IsWhole room t (plain_request (method_in ask) (asks_close ask)) (Some (path_in ask)) [] (later ++ rest)) (sym (append_assoc (request_bytes ask) later rest))
          (read_whole room ask (later ++ rest) (has_numbers ask are.0)),
      are_requests room list rest are.1,
    )

-- the call that a request is
abbrev IsCallOf : Ask → Call → Type 0
IsCallOf Pin wanted = wanted ≡ call.Pin
IsCallOf (File file) wanted = (found : Option Path) × (wanted ≡ call.File found)
IsCallOf Unpin wanted = wanted ≡ call.Unpin

record Read (top : ℕ) (ask : Ask) : Type 0 where
  of : PathKind
  of_kind : IsOfKind top (Some (path_in ask)) of
  call : IsCallOf ask (call_of (method_in ask) of)

-- a file that is no leaf's
other_file : SpellingsDiffer → (top : ℕ) (file : Path) → IsPath file → ((cell : NestedCell) → cell.order ≡ top → file ≡ path.Tile cell → ⊥) → (first : ℕ) (rest : List ℕ) → spelling file ≡ first ∷ rest
    → (first ≡ 112 → slice_index rest 0 ≡ 114) → (first ≡ 117 → ⊥) → (first ≡ 98 → ⊥) → Read top (File file)
other_file differ top file is other first rest spelled p u b = record {
  of = kind.Other (Some file);
  of_kind = record {
    publish = λ e. let q : slice_index rest 0 ≡ 114 = p (byte 0 (codes "publish") e) in let r : slice_index rest 0 ≡ 117 = byte 1 (codes "publish") e in absurd (omega (arith, q, r));
    pin = λ e. let q : slice_index rest 0 ≡ 114 = p (byte 0 (codes "pin") e) in let r : slice_index rest 0 ≡ 105 = byte 1 (codes "pin") e in absurd (omega (arith, q, r));
    unpin = λ e. u (byte 0 (codes "unpin") e);
    batch = λ e. b (byte 0 (codes "batch") e);
    leaf = λ leaf of.
        let same : spelling file ≡ spelling (path.Tile leaf) = let e = of.tile.spelled in cc in
        other leaf of.order_is (differ file (path.Tile leaf) is of.tile.known same);
    file_is = record { known = is; spelled = refl };
  };
  call = (Some file, refl);
}
  where
    byte : (i : ℕ) (text : List ℕ) → Some (spelling file) ≡ Some text → slice_index (first ∷ rest) i ≡ slice_index text i
    byte i text e = ap (λ (t : List ℕ). slice_index t i) (sym spelled) ∙ ap (λ o. slice_index (unwrap_or o []) i) e

read_tile : SpellingsDiffer → (top : ℕ) (cell : NestedCell) → IsPath (path.Tile cell) → Read top (File (path.Tile cell))
read_tile differ top cell is = by (cell.order == top) refl
  where
    same_order : (order : ℕ) → (order == top) ≡ true → order ≡ top
    same_order order e = grind (arith, nat_tests)

    other_order : (order : ℕ) → (order == top) ≡ false → order ≡ top → ⊥
    other_order order e same = absurd (grind (arith, nat_tests))

    by : (b : Bool) → (cell.order == top) ≡ b → Read top (File (path.Tile cell))
    by true e = record {
      of = kind.Leaf cell;
      of_kind = record { order_is = same_order cell.order e; tile = record { known = is; spelled = refl } };
      call = (Some (path.Tile cell), refl);
    }
    by false e =
        other_file differ top (path.Tile cell) is (λ other order same. let one : cell.order ≡ other.order = cc in other_order cell.order e (one ∙ order)) 78 (drop 1 (spelling (path.Tile cell))) refl
        (λ f. absurd (omega (arith, f))) (λ f. absurd (omega (arith, f))) (λ f. absurd (omega (arith, f)))

read_ask : SpellingsDiffer → (top : ℕ) (ask : Ask) → IsAsk ask → Read top ask
read_ask differ top Pin is = record { of = kind.Pin; of_kind = refl; call = refl }
read_ask differ top (File path.Properties) is =
    other_file differ top path.Properties tt (λ cell order e. cc) 112 (codes "roperties") refl (λ f. refl) (λ f. absurd (omega (arith, f))) (λ f. absurd (omega (arith, f)))
read_ask differ top (File path.Moc) is =
    other_file differ top path.Moc tt (λ cell order e. cc) 77 (codes "oc.fits") refl (λ f. absurd (omega (arith, f))) (λ f. absurd (omega (arith, f))) (λ f. absurd (omega (arith, f)))
read_ask differ top (File path.Allsky) is =
    other_file differ top path.Allsky tt (λ cell order e. cc) 78 (codes "order3/Allsky.fits") refl (λ f. absurd (omega (arith, f))) (λ f. absurd (omega (arith, f))) (λ f. absurd (omega (arith, f)))
read_ask differ top (File (path.Tile cell)) is = read_tile differ top cell is
read_ask differ top Unpin is = record { of = kind.Unpin; of_kind = refl; call = refl }

sound_call : (conf : Description) (ask : Ask) (wanted : Call) → IsCallOf ask wanted → IsSoundCall conf [] wanted
sound_call conf Pin wanted is = subst (IsSoundCall conf []) (sym is) tt
sound_call conf (File file) wanted is = subst (IsSoundCall conf []) (sym is.1) tt
sound_call conf Unpin wanted is = subst (IsSoundCall conf []) (sym is) tt

sound : SpellingsDiffer → (conf : Description) (list : List Ask) → AreAsks list → All (IsSound conf) (map asking_of list)
unfolding asking_of
sound differ conf [] are = All-nil (IsSound conf)
sound differ conf (ask ∷ list) are =
    let read = read_ask differ conf.shape.top ask are.0 in
    All-cons (IsSound conf) (asking_of ask) (map asking_of list) (record { kind = read.of; of_kind = read.of_kind; call = sound_call conf ask (call_of (method_in ask) read.of) read.call }) (sound differ conf list are.1)

-- ---- what one of them is answered

-- what is written where a file is found or not
file_written : (tip : ℕ) (text : List ℕ) (file : Option (List ℕ))
    → output_of false (plain_request (method_in (File path.Properties)) false) (option_map_or (found_answer tip text) file (not_found tip))
    ≡ bytes_of false (option_map_or (found_reply tip text) file (text_reply 404 (number.Prefix tip) (codes "not found")))
file_written tip text None = refl
file_written tip text (Some file) = refl

not_last : (count : ℕ) → count + 1 < most_requests → (count + 1 == most_requests) ≡ false
not_last count few = grind (arith, nat_tests)

module _ (differ : SpellingsDiffer) (conf : Description) (opening : LeafTiles) (states : List SurveyState) (count : ℕ) (p a : Point) (output : List ℕ) where
  record AnswersPin : Type 0 where
    state : SurveyState
    there : slice_get states a.place ≡ Some state
    held : a.held ≡ Some a.place
    later : p.place ≤ a.place
    written : output ≡ bytes_of false (reply_to conf opening state Pin)

  pin_answered : count + 1 < most_requests → IsOutput conf opening states count (asking_of Pin) p a output → AnswersPin
  unfolding asking_of
  pin_answered few is =
      let same : is.answered.kind ≡ kind.Pin = one_kind differ conf.shape.top (Some (codes "pin")) is.answered.kind kind.Pin is.answered.of_kind refl in
      let pins : Pins states p a is.answer = subst (λ k. Answers conf opening states (asking_of Pin) (call_of (method_in Pin) k) p a is.answer) same is.answered.answers in
      record {
        state = pins.state;
        there = pins.there;
        held = pins.holds.held;
        later = is.answered.never_falls;
        written = is.output_is ∙ ap (λ b. output_of b (plain_request (method_in Pin) false) is.answer) (not_last count few) ∙ ap (output_of false (plain_request (method_in Pin) false)) pins.answer_is;
      }

  record AnswersFile (place : ℕ) (state : SurveyState) (file : Path) : Type 0 where
    held : a.held ≡ Some place
    written : output ≡ bytes_of false (reply_to conf opening state (File file))

  file_answered : (place : ℕ) (state : SurveyState) (file : Path) → IsPath file → count + 1 < most_requests → p.held ≡ Some place → slice_get states place ≡ Some state
      → IsOutput conf opening states count (asking_of (File file)) p a output → AnswersFile place state file
  unfolding asking_of
  file_answered place state file asked few held there is =
      let read = read_ask differ conf.shape.top (File file) asked in
      let same : is.answered.kind ≡ read.of = one_kind differ conf.shape.top (Some (spelling file)) is.answered.kind read.of is.answered.of_kind read.of_kind in
      let reads : Reads conf opening states (Some (spelling file)) p a is.answer =
      subst (λ w. Answers conf opening states (asking_of (File file)) w p a is.answer) read.call.1
      (subst (λ k. Answers conf opening states (asking_of (File file)) (call_of (method_in (File file)) k) p a is.answer) same is.answered.answers) in
      let one : Some reads.state ≡ Some state = sym reads.there ∙ ap (λ h. slice_get states (unwrap_or h a.place)) held ∙ there in
      let state_is : reads.state ≡ state = cc in
      record {
        held = reads.kept.held ∙ held;
        written = is.output_is ∙ ap (λ b. output_of b (plain_request (method_in (File file)) false) is.answer) (not_last count few)
            ∙ ap (output_of false (plain_request (method_in (File file)) false)) (reads.answer_is ∙ ap (λ s. file_answer conf opening s (Some (spelling file))) state_is)
            ∙ file_written state.tip (spelling file) (file_at conf opening state (spelling file));
      }

  unpin_answered : (state : SurveyState) → IsOutput conf opening states count (asking_of Unpin) p a output → output ≡ bytes_of true (reply_to conf opening state Unpin)
  unfolding asking_of
  unpin_answered state is =
      let same : is.answered.kind ≡ kind.Unpin = one_kind differ conf.shape.top (Some (codes "unpin")) is.answered.kind kind.Unpin is.answered.of_kind refl in
      let answer : is.answer ≡ released = (subst (λ k. Answers conf opening states (asking_of Unpin) (call_of (method_in Unpin) k) p a is.answer) same is.answered.answers).1 in
      is.output_is ∙ ap (output_of true (plain_request (method_in Unpin) true)) answer

-- ---- what all of them are answered

module _ (differ : SpellingsDiffer) (conf : Description) (opening : LeafTiles) (states : List SurveyState) where
  abbrev sent_to : SurveyState → Ask → List ℕ
  sent_to state ask = bytes_of (closes_after ask) (reply_to conf opening state ask)

  later_answered : (place : ℕ) (state : SurveyState) → slice_get states place ≡ Some state → (files : List Ask) (count : ℕ) (p last : Point) (outputs : List (List ℕ))
      → AreFiles files → count + length files + 1 < most_requests → p.held ≡ Some place → AreAnswered conf opening states count p (map asking_of (with_end files)) last outputs
      → concat outputs ≡ flat_map (sent_to state) (with_end files)
  later_answered place state there [] count p last [] are few held is = absurd is
  later_answered place state there [] count p last (output ∷ outputs) are few held is =
      let none : outputs ≡ [] = is.2.1 in
      let one = unpin_answered differ conf opening states count p is.0 output state is.1 in
      ap (λ os. output ++ concat os) none ∙ ap (λ o. o ++ []) one
  later_answered place state there (Pin ∷ files) count p last outputs are few held is = absurd are
  later_answered place state there (Unpin ∷ files) count p last outputs are few held is = absurd are
  later_answered place state there (File file ∷ files) count p last [] are few held is = absurd is
  later_answered place state there (File file ∷ files) count p last (output ∷ outputs) are few held is =
      let one = file_answered differ conf opening states count p is.0 output place state file are.0 (omega (arith, few)) held there is.1 in
      let more = later_answered place state there files (count + 1) is.0 last outputs are.1 (omega (arith, few)) one.held is.2 in
      ap (λ o. o ++ concat outputs) one.written ∙ ap (λ os. sent_to state (File file) ++ os) more

  record AnswersAll (files : List Ask) (first : Point) (outputs : List (List ℕ)) : Type 0 where
    place : ℕ
    state : SurveyState
    there : slice_get states place ≡ Some state
    late : first.place ≤ place
    written : concat outputs ≡ flat_map (sent_to state) (Pin ∷ with_end files)

  all_answered : (files : List Ask) (first last : Point) (outputs : List (List ℕ)) → AreFiles files → length files + 2 < most_requests
      → AreAnswered conf opening states 0 first (map asking_of (Pin ∷ with_end files)) last outputs → AnswersAll files first outputs
  all_answered files first last [] are few is = absurd is
  all_answered files first last (output ∷ outputs) are few is =
      let one = pin_answered differ conf opening states 0 first is.0 output (omega arith) is.1 in
      let more = later_answered is.0.place one.state one.there files 1 is.0 last outputs are (omega (arith, few)) one.held is.2 in
      record {
        place = is.0.place;
        state = one.state;
        there = one.there;
        late = one.later;
        written = ap (λ o. o ++ concat outputs) one.written ∙ ap (λ os. sent_to one.state Pin ++ os) more;
      }

-- ---- which requests a session has that is sent these

module _ (one : NextIsOne) (differ : SpellingsDiffer) (conf : Description) (opening : LeafTiles) (states : List SurveyState) where
  same_next : (asked asked' : Request) (path path' : Option (List ℕ)) (body body' more more' : List ℕ) → whole_request asked path body more ≡ whole_request asked' path' body' more'
      → (let r : Asking = record { asked = asked; path = path; body = body } in let s : Asking = record { asked = asked'; path = path'; body = body' } in (r ≡ s) × (more ≡ more'))
  same_next asked asked' path path' body body' more more' e = (cc, cc)

  plain_call : (ask : Ask) (wanted : Call) (p a : Point) → IsCallOf ask wanted → IsAcceptedCall conf opening states (asking_of ask) wanted p a
  plain_call Pin wanted p a is = subst (λ w. IsAcceptedCall conf opening states (asking_of Pin) w p a) (sym is) tt
  plain_call (File file) wanted p a is = subst (λ w. IsAcceptedCall conf opening states (asking_of (File file)) w p a) (sym is.1) tt
  plain_call Unpin wanted p a is = subst (λ w. IsAcceptedCall conf opening states (asking_of Unpin) w p a) (sym is) tt

  -- none of them is a change
  accepted : (list : List Ask) → AreAsks list → (bytes : List ℕ) → bytes ≡ flat_map request_bytes list → (requests : List Asking) (rest : List ℕ)
      → AreRequests (room_of conf) bytes requests rest → (count : ℕ) (p last : Point) (outputs : List (List ℕ)) → (answered : AreAnswered conf opening states count p requests last outputs)
      → AreAccepted conf opening states count p requests last outputs answered
  unfolding asking_of
  accepted list are bytes is [] rest requests count p last outputs answered = tt
  accepted list are bytes is (request ∷ requests) rest of count p last [] answered = tt
  accepted [] are bytes is (request ∷ requests) rest of count p last (output ∷ outputs) answered =
      absurd (let e = one (room_of conf) bytes no_request (whole_request request.asked request.path request.body of.0) is of.1 in cc)
  accepted (ask ∷ list) are bytes is (request ∷ requests) rest of count p last (output ∷ outputs) answered =
      let later : List ℕ = flat_map request_bytes list in
      let next : IsWhole (room_of conf) bytes (plain_request (method_in ask) (asks_close ask)) (Some (path_in ask)) [] later =
      subst (λ t. IsWhole (room_of conf) t (plain_request (method_in ask) (asks_close ask)) (Some (path_in ask)) [] later) (sym is)
      (read_whole (room_of conf) ask later (has_numbers ask are.0)) in
      let same = same_next request.asked (plain_request (method_in ask) (asks_close ask)) request.path (Some (path_in ask)) request.body [] of.0 later
      (one (room_of conf) bytes (whole_request request.asked request.path request.body of.0) (whole_request (plain_request (method_in ask) (asks_close ask)) (Some (path_in ask)) [] later) of.1 next) in
      let read = read_ask differ conf.shape.top ask are.0 in
      let kinds : answered.1.answered.kind ≡ read.of =
      one_kind differ conf.shape.top (Some (path_in ask)) answered.1.answered.kind read.of (subst (λ (r : Asking). IsOfKind conf.shape.top r.path answered.1.answered.kind) same.0 answered.1.answered.of_kind) read.of_kind in (
        subst (λ (r : Asking). IsAcceptedCall conf opening states r (call_of r.asked.method answered.1.answered.kind) p answered.0) (sym same.0)
            (subst (λ k. IsAcceptedCall conf opening states (asking_of ask) (call_of (method_in ask) k) p answered.0) (sym kinds) (plain_call ask (call_of (method_in ask) read.of) p answered.0 read.call)),
        accepted list are.1 of.0 same.1 requests rest of.2 (count + 1) answered.0 last outputs answered.2,
      )

-- ---- a whole session

seen_input : (ended : SessionEnd) (exchange : Exchange) → IsUnbroken exchange → CountsFault (is_read_fault ended) exchange.source_faults exchange.source_faults_then → input_seen ended exchange ≡ input_of exchange
seen_input end.Closed exchange unbroken faults = refl
seen_input end.Asked exchange unbroken faults = refl
seen_input (end.Refused code) exchange unbroken faults = refl
seen_input end.Cut exchange unbroken faults = refl
seen_input end.Spent exchange unbroken faults = refl
seen_input end.ReadFault exchange unbroken faults = absurd (unbroken.source faults)
seen_input end.WriteFault exchange unbroken faults = refl
seen_input end.OutOfMemory exchange unbroken faults = refl

abbrev StaysOpen : Asking → Type 0
StaysOpen request = request.asked.close ≡ false

closes_last : (files : List Ask) → All StaysOpen (map asking_of (with_end files)) → ⊥
unfolding asking_of
closes_last [] all = true≢false (All-head StaysOpen (asking_of Unpin) [] all)
closes_last (ask ∷ files) all = closes_last files (All-tail StaysOpen (asking_of ask) (map asking_of (with_end files)) all)

stay_open : (files : List Ask) → AreFiles files → All StaysOpen (map asking_of (Pin ∷ files))
unfolding asking_of
stay_open files are = All-cons StaysOpen (asking_of Pin) (map asking_of files) refl (later files are)
  where
    later : (files : List Ask) → AreFiles files → All StaysOpen (map asking_of files)
    later [] are = All-nil StaysOpen
    later (Pin ∷ files) are = absurd are
    later (Unpin ∷ files) are = absurd are
    later (File file ∷ files) are = All-cons StaysOpen (asking_of (File file)) (map asking_of files) refl (later files are.1)

joined : (files : List Ask) → map asking_of (with_end files) ≡ map asking_of files ++ asking_of Unpin ∷ []
joined [] = refl
joined (ask ∷ files) = ap (λ rs. asking_of ask ∷ rs) (joined files)

input_is : (input : List ℕ) (top : ℕ) (leaves : List ℕ) → input ≡ mirror_requests top leaves → input ≡ flat_map request_bytes (Pin ∷ with_end (files_of top leaves))
unfolding mirror_requests
input_is input top leaves is = is

pub peer_is : (conf : Description) (opening : LeafTiles) (state : SurveyState) (leaves : List ℕ) → keys_of (published opening state) ≡ leaves → replies_of conf opening state leaves ≡ peer_bytes conf opening state
unfolding peer_bytes
peer_is conf opening state leaves same = ap (replies_of conf opening state) (sym same)

-- the requests of a copy of leaves of any order
pub record Asks {conf : Description} {opening : LeafTiles} {states : List SurveyState} (c : Connection conf opening states) (top : ℕ) (leaves : List ℕ) : Type 0 where
  pub low : top ≤ 11
  pub cells : All (λ leaf. leaf < cell_count top) leaves
  pub few : length leaves ≤ most_leaves
  pub input : input_of c.exchange ≡ mirror_requests top leaves
  pub unbroken : IsUnbroken c.exchange

abbrev pub replies : Description → LeafTiles → SurveyState → ℕ → List ℕ → List ℕ
replies conf opening state top leaves = flat_map (λ ask. bytes_of (closes_after ask) (reply_to conf opening state ask)) (asks top leaves)

pub record Replies {conf : Description} {opening : LeafTiles} {states : List SurveyState} (c : Connection conf opening states) (top : ℕ) (leaves : List ℕ) : Type 0 where
  pub state : SurveyState
  pub seen : IsSeen c state
  pub ended : c.end ≡ end.Asked
  pub written : c.exchange.written ≡ replies conf opening state top leaves
  pub flushed : c.exchange.flushed ≡ replies conf opening state top leaves

module _ (one : NextIsOne) (differ : SpellingsDiffer) (complete : Completeness) (conf : Description) (opening : LeafTiles) (states : List SurveyState) (c : Connection conf opening states) where
  module _ (top : ℕ) (leaves : List ℕ) (asked : Asks c top leaves) where
    abbrev files : List Ask
    files = files_of top leaves

    abbrev requests : List Asking
    requests = map asking_of (Pin ∷ with_end files)

    all_files : AreFiles files
    all_files = files_are top leaves asked.low asked.cells

    all_asks : AreAsks (Pin ∷ with_end files)
    all_asks = (tt, files_then files all_files)

    all_input : input_of c.exchange ≡ flat_map request_bytes (Pin ∷ with_end files)
    all_input = input_is (input_of c.exchange) top leaves asked.input

    sound_input : IsSoundInput conf (input_of c.exchange) requests
    unfolding asking_of
    sound_input =
        let few = few_files top leaves asked.few in
        let bytes : flat_map request_bytes (Pin ∷ with_end files) ++ [] ≡ input_of c.exchange = append-nil (flat_map request_bytes (Pin ∷ with_end files)) ∙ sym all_input in
        record {
          rest = [];
          are_requests = subst (λ t. AreRequests (room_of conf) t requests []) bytes (are_requests (room_of conf) (Pin ∷ with_end files) [] all_asks);
          ends = inr (record {
            last = asking_of Unpin;
            ends = record {
              before = map asking_of (Pin ∷ files);
              is = joined (Pin ∷ files);
              went_on = record { none_closes = stay_open files all_files; few = omega (arith, few, length-map (Pin ∷ files) asking_of) };
            };
            closes = refl;
          });
          sound = sound differ conf (Pin ∷ with_end files) all_asks;
        }

    each_accepted : EachAccepted c
    each_accepted =
        accepted one differ conf opening c.later (Pin ∷ with_end files) all_asks (input_seen c.end c.exchange)
        (seen_input c.end c.exchange asked.unbroken c.run.faults.read ∙ all_input) c.run.requests c.run.rest c.run.are_requests 0 (first_point states) c.run.last
        c.run.outputs c.run.answered

    asked_to_close : FulfilsAll c requests → c.end ≡ end.Asked
    asked_to_close all = elim all.ended [
      | inl closed ↦
          let ends : Ends end.Closed (room_of conf) c.run.requests c.run.rest c.run.outputs c.exchange =
          subst (λ (e : SessionEnd). Ends e (room_of conf) c.run.requests c.run.rest c.run.outputs c.exchange) closed c.run.ended in
          absurd (closes_last (Pin ∷ files) (subst (λ rs. All StaysOpen rs) all.answered ends.0.none_closes))
      | inr done ↦ done
    ]

    answers_all : FulfilsAll c requests → Replies c top leaves
    answers_all all =
        let answered : AreAnswered conf opening c.later 0 (first_point states) requests c.run.last c.run.outputs =
        subst (λ rs. AreAnswered conf opening c.later 0 (first_point states) rs c.run.last c.run.outputs) all.answered c.run.answered in
        let by = all_answered differ conf opening c.later files (first_point states) c.run.last c.run.outputs all_files (few_files top leaves asked.few) answered in
        let ended : c.end ≡ end.Asked = asked_to_close all in
        let written : c.exchange.written ≡ replies conf opening by.state top leaves = all.written ∙ by.written in
        let late : length states - 1 ≤ by.place = by.late in
        record {
          state = by.state;
          seen = record { place = by.place; there = by.there; late = omega (arith, late) };
          ended = ended;
          written = written;
          flushed = subst (λ (e : SessionEnd). AllFlushed e c.exchange) ended c.run.flushed ∙ written;
        }

    pub session_replies : Replies c top leaves ⊎ NeverBegins c
    session_replies = elim (complete conf opening states c requests sound_input each_accepted asked.unbroken) [
      | inl all ↦ inl (answers_all all)
      | inr none ↦ inr none
    ]

  pub session_answers : (leaves : List ℕ) → AsksForCopy c leaves → ((state : SurveyState) × AnswersCopy c leaves state) ⊎ NeverBegins c
  session_answers leaves asked =
      elim (session_replies conf.shape.top leaves (record { low = asked.description.shape.greatest_top; cells = asked.cells; few = asked.few; input = asked.input; unbroken = asked.unbroken })) [
        | inl by ↦ inl (
          by.state,
          record {
            seen = by.seen;
            ended = by.ended;
            written = by.written;
            flushed = by.flushed;
            in_order = λ same. by.flushed ∙ peer_is conf opening by.state leaves same;
          },
        )
        | inr none ↦ inr none
      ]
