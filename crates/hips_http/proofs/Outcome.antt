-- The law of one outcome.
use Rattle.std.proofs.Common.{◌≡◌, ◌⊎◌, inl, inr, ℕ, suc, ◌+◌, ◌-◌, ◌<◌, ◌≤◌, Bool, true, false, List, [], ◌∷◌, ◌++◌, length, get_or, Option, Some, refl, sym, ap, ◌∙◌, subst, arith}
use Rattle.std.specs.Prelude.{slice_get, All, Contains}
use Rattle.std.specs.List.{concat}
use Rattle.std.proofs.lemmas.Bool.{true≢false, cases_lt}
use Rattle.std.proofs.lemmas.Option.{none-some, slice_get-get_or, slice_get_past}
use Rattle.std.proofs.lemmas.List.Elements.{All-head, All-tail}
use Rattle.survey_conf.specs.Description.{Description}
use Rattle.edit_journal.specs.Leaves.{LeafTiles}
use Rattle.tile_path.specs.Laws.{SpellingsDiffer}
use Rattle.http_frame.specs.declared.request.Request.{Request}
use Rattle.http_frame.specs.Next.{cut_off, found, no_request, cut_request, refused_request, whole_request, IsNext, IsWhole, IsCut, IsCutInBody, IsRefusedNext}
use Rattle.http_frame.specs.Laws.{NextIsOne, NextHeadIsOne}
use Rattle.survey_core.specs.History.{SurveyState, opening_state, IsHistory, Begins}
use Rattle.survey_core.specs.HistoryLaws.{begins_length, history_some}
use Rattle.hips_http.specs.declared.served.SessionEnd.{SessionEnd}
use Rattle.hips_http.specs.declared.served.SessionEnd.TheVariants as end
use Rattle.hips_http.specs.declared.call.PathKind.{PathKind}
use Rattle.hips_http.specs.Paths.{call_of}
use Rattle.hips_http.specs.Replies.{Answer, leave_bytes, output_of, refusal_bytes}
use Rattle.hips_http.specs.Answers.{Asking, Point, Answers}
use Rattle.hips_http.specs.SessionRun.{most_requests, room_of, AreRequests, AreAnswered, IsOutput, closes, EndsWith, IsCutInput, Exchange, input_of, input_seen, Ends, first_point}
use Rattle.hips_http.specs.Laws.{Connection, IsNewest, AreNewest, OwnsAll, IsFaultless, IsUndisturbed, IsSameOutcome, EachNewest}
use Rattle.hips_http.proofs.Points.{stays_there}
use Rattle.hips_http.proofs.OneKind.{one_kind}
use Rattle.hips_http.proofs.Same.{IsSame, answers_same}
use Rattle.hips_http.proofs.Effects.{wants_rise, OwnSeen, at_end, are_newest}

-- ---- which requests a connection has

-- no whole request stands next
abbrev pub NoWhole : ℕ → List ℕ → Type 0
NoWhole room bytes = (asked : Request) (path : Option (List ℕ)) (body more : List ℕ) → IsWhole room bytes asked path body more → ⊥

-- the requests that are answered of these bytes, `count` others before them, of which the last asked to close or not: they go
-- on as long as none asked to close, there are not too many, and a whole one stands next
abbrev pub AreAll : ℕ → Bool → ℕ → List ℕ → List Asking → List ℕ → Type 0
AreAll room closed count bytes [] rest = (rest ≡ bytes) × ((closed ≡ true) ⊎ ((count ≡ most_requests) ⊎ NoWhole room bytes))
AreAll room closed count bytes (request ∷ requests) rest = (more : List ℕ) × (closed ≡ false) × (count < most_requests)
    × IsWhole room bytes request.asked request.path request.body more × AreAll room request.asked.close (count + 1) more requests rest

abbrev pub StaysOpen : Asking → Type 0
StaysOpen request = request.asked.close ≡ false

pub open_all : (room count : ℕ) (bytes : List ℕ) (requests : List Asking) (rest : List ℕ) → All StaysOpen requests → count + length requests ≤ most_requests
    → (count + length requests ≡ most_requests) ⊎ NoWhole room rest → AreRequests room bytes requests rest → AreAll room false count bytes requests rest
open_all room count bytes [] rest none few (inl all) are = (are, inr (inl (omega (arith, all))))
open_all room count bytes [] rest none few (inr lacks) are = (are, inr (inr (subst (λ (b : List ℕ). NoWhole room b) are lacks)))
open_all room count bytes (request ∷ requests) rest none few why are = (
  are.0,
  refl,
  omega (arith, few),
  are.1,
  subst (λ (c : Bool). AreAll room c (count + 1) are.0 requests rest) (sym (All-head StaysOpen request requests none))
      (open_all room (count + 1) are.0 requests rest (All-tail StaysOpen request requests none) (omega (arith, few)) (moved why) are.2),
)
  where
    moved : (count + length (request ∷ requests) ≡ most_requests) ⊎ NoWhole room rest → (count + 1 + length requests ≡ most_requests) ⊎ NoWhole room rest
    moved (inl all) = inl (omega (arith, all))
    moved (inr lacks) = inr lacks

pub asked_all : (room count : ℕ) (bytes : List ℕ) (before : List Asking) (last : Asking) (rest : List ℕ) → All StaysOpen before → count + length before < most_requests → last.asked.close ≡ true
    → AreRequests room bytes (before ++ last ∷ []) rest → AreAll room false count bytes (before ++ last ∷ []) rest
asked_all room count bytes [] last rest none few close are = (are.0, refl, omega (arith, few), are.1, (are.2, inl close))
asked_all room count bytes (request ∷ before) last rest none few close are = (
  are.0,
  refl,
  omega (arith, few),
  are.1,
  subst (λ (c : Bool). AreAll room c (count + 1) are.0 (before ++ last ∷ []) rest) (sym (All-head StaysOpen request before none))
      (asked_all room (count + 1) are.0 before last rest (All-tail StaysOpen request before none) (omega (arith, few)) close are.2),
)

-- a whole request that stands next is answered, but for one that comes too late
pub goes_on : (room : ℕ) (closed : Bool) (count : ℕ) (bytes : List ℕ) (request : Asking) (more : List ℕ) → closed ≡ false → count < most_requests → IsWhole room bytes request.asked request.path request.body more
    → (closed ≡ true) ⊎ ((count ≡ most_requests) ⊎ NoWhole room bytes) → ⊥
goes_on room closed count bytes request more still few whole (inl close) = true≢false (sym close ∙ still)
goes_on room closed count bytes request more still few whole (inr (inl all)) = absurd (omega (arith, few, all))
goes_on room closed count bytes request more still few whole (inr (inr lacks)) = lacks request.asked request.path request.body more whole

module _ (one : NextIsOne) (heads : NextHeadIsOne) where
  pub no_end : (room : ℕ) (bytes : List ℕ) → bytes ≡ [] → NoWhole room bytes
  no_end room bytes is asked path body more whole = let same = one room bytes no_request (whole_request asked path body more) is whole in cc

  no_refusal : (room : ℕ) (bytes : List ℕ) (code : ℕ) → IsRefusedNext room bytes code → NoWhole room bytes
  no_refusal room bytes code is asked path body more whole = let same = one room bytes (refused_request code) (whole_request asked path body more) is whole in cc

  -- the input ends within a request
  cut_next : (room : ℕ) (rest extra : List ℕ) → IsCutInput room rest extra → IsNext room rest cut_request
  cut_next room rest extra cut = elim cut.cut [ inl head ↦ inl head.0 | inr body ↦ inr body.0 ]

  no_cut : (room : ℕ) (rest : List ℕ) → IsNext room rest cut_request → NoWhole room rest
  no_cut room rest is asked path body more whole = let same = one room rest cut_request (whole_request asked path body more) is whole in cc

  extra_same : (room : ℕ) (rest extra extra' : List ℕ) → IsCutInput room rest extra → IsCutInput room rest extra' → extra ≡ extra'
  extra_same room rest extra extra' a b = go a.cut b.cut
    where
      go : (IsCut rest × (extra ≡ [])) ⊎ ((body : IsCutInBody room rest) × (extra ≡ leave_bytes body.asked))
          → (IsCut rest × (extra' ≡ [])) ⊎ ((body : IsCutInBody room rest) × (extra' ≡ leave_bytes body.asked)) → extra ≡ extra'
      go (inl h) (inl k) = h.1 ∙ sym k.1
      go (inl h) (inr k) = absurd (let same = heads room rest cut_off (found k.0.asked k.0.path k.0.after) h.0 k.0.head in cc)
      go (inr h) (inl k) = absurd (let same = heads room rest (found h.0.asked h.0.path h.0.after) cut_off h.0.head k.0 in cc)
      go (inr h) (inr k) =
          let same = heads room rest (found h.0.asked h.0.path h.0.after) (found k.0.asked k.0.path k.0.after) h.0.head k.0.head in
          let asked : h.0.asked ≡ k.0.asked = cc in
          h.1 ∙ ap leave_bytes asked ∙ sym k.1

  pub all_of : (ended : SessionEnd) (room : ℕ) (bytes : List ℕ) (requests : List Asking) (rest : List ℕ) (outputs : List (List ℕ)) (exchange : Exchange) → IsFaultless ended
      → AreRequests room bytes requests rest → Ends ended room requests rest outputs exchange → AreAll room false 0 bytes requests rest
  all_of end.Closed room bytes requests rest outputs exchange f are ends =
      let few = ends.0.few in
      open_all room 0 bytes requests rest ends.0.none_closes (omega (arith, few)) (inr (no_end room rest ends.1)) are
  all_of end.Asked room bytes requests rest outputs exchange f are ends =
      let last_is = ends.0.1 in
      let few = last_is.went_on.few in
      subst (λ (rs : List Asking). AreAll room false 0 bytes rs rest) (sym last_is.is)
      (asked_all room 0 bytes last_is.before ends.0.0 rest last_is.went_on.none_closes (omega (arith, few)) ends.0.2 (subst (λ (rs : List Asking). AreRequests room bytes rs rest) last_is.is are))
  all_of (end.Refused code) room bytes requests rest outputs exchange f are ends =
      let few = ends.0.few in
      open_all room 0 bytes requests rest ends.0.none_closes (omega (arith, few)) (inr (no_refusal room rest code ends.1)) are
  all_of end.Cut room bytes requests rest outputs exchange f are ends =
      let few = ends.0.few in
      open_all room 0 bytes requests rest ends.0.none_closes (omega (arith, few)) (inr (no_cut room rest (cut_next room rest ends.1.0 ends.1.1))) are
  all_of end.Spent room bytes requests rest outputs exchange f are ends =
      let all = ends.0 in
      open_all room 0 bytes requests rest ends.1 (omega (arith, all)) (inl (omega (arith, all))) are
  all_of end.ReadFault room bytes requests rest outputs exchange f are ends = absurd f
  all_of end.WriteFault room bytes requests rest outputs exchange f are ends = absurd f
  all_of end.OutOfMemory room bytes requests rest outputs exchange f are ends = absurd f

  -- ---- the same requests, answers and states

  pub asking_same : (asked asked' : Request) (path path' : Option (List ℕ)) (body body' more more' : List ℕ) → whole_request asked path body more ≡ whole_request asked' path' body' more' →
      (let r : Asking = record { asked = asked; path = path; body = body } in let s : Asking = record { asked = asked'; path = path'; body = body' } in s ≡ r)
  asking_same asked asked' path path' body body' more more' e = cc

  pub more_same : (asked asked' : Request) (path path' : Option (List ℕ)) (body body' more more' : List ℕ) → whole_request asked path body more ≡ whole_request asked' path' body' more' → more' ≡ more
  more_same asked asked' path path' body body' more more' e = cc

  pub record RunsSame (states later later' : List SurveyState) (requests requests' : List Asking) (rest rest' : List ℕ) (last last' : Point) (outputs outputs' : List (List ℕ)) : Type 0 where
    pub requests_same : requests' ≡ requests
    pub rest_same : rest' ≡ rest
    pub outputs_same : outputs' ≡ outputs
    pub point : IsSame states later later' last last'

  module _ (differ : SpellingsDiffer) (conf : Description) (opening : LeafTiles) (states later later' : List SurveyState) (room : ℕ) where
    -- one request
    record OneSame (a b : Point) (output output' : List ℕ) : Type 0 where
      answer_is : output' ≡ output
      point : IsSame states later later' a b

    output_same : (count : ℕ) (request : Asking) (p q a b : Point) (output output' : List ℕ) → IsSame states later later' p q → IsOutput conf opening later count request p a output
        → IsOutput conf opening later' count request q b output' → IsNewest states a → IsNewest states b → a.memory_faults ≡ 0 → b.memory_faults ≡ 0 → OneSame a b output output'
    output_same count request p q a b output output' same is is' na nb none none' =
        let kinds : is'.answered.kind ≡ is.answered.kind = one_kind differ conf.shape.top request.path is'.answered.kind is.answered.kind is'.answered.of_kind is.answered.of_kind in
        let answers : Answers conf opening later' request (call_of request.asked.method is.answered.kind) q b is'.answer =
        subst (λ (k : PathKind). Answers conf opening later' request (call_of request.asked.method k) q b is'.answer) kinds is'.answered.answers in
        let comes = answers_same states later later' p q same a b na nb opening is.answer is'.answer none none' conf request (call_of request.asked.method is.answered.kind) is.answered.answers answers in
        record {
          answer_is = is'.output_is ∙ ap (λ (x : Answer). output_of (closes count request) request.asked x) comes.answer_is ∙ sym is.output_is;
          point = comes.point;
        }

    runs_same : (closed : Bool) (count : ℕ) (bytes : List ℕ) (p q : Point) (requests requests' : List Asking) (rest rest' : List ℕ) (last last' : Point) (outputs outputs' : List (List ℕ))
        → IsSame states later later' p q → AreAll room closed count bytes requests rest → AreAll room closed count bytes requests' rest'
        → (answered : AreAnswered conf opening later count p requests last outputs) → AreNewest states conf opening later count p requests last outputs answered → last.memory_faults ≡ 0
        → (answered' : AreAnswered conf opening later' count q requests' last' outputs') → AreNewest states conf opening later' count q requests' last' outputs' answered' → last'.memory_faults ≡ 0
        → RunsSame states later later' requests requests' rest rest' last last' outputs outputs'
    runs_same closed count bytes p q [] [] rest rest' last last' outputs outputs' same all all' is n none is' n' none' = record {
      requests_same = refl;
      rest_same = all'.0 ∙ sym all.0;
      outputs_same = is'.1 ∙ sym is.1;
      point = subst (λ (x : Point). IsSame states later later' x last') (sym is.0) (subst (λ (x : Point). IsSame states later later' p x) (sym is'.0) same);
    }
    runs_same closed count bytes p q [] (r' ∷ rs') rest rest' last last' outputs outputs' same all all' is n none is' n' none' =
        absurd (goes_on room closed count bytes r' all'.0 all'.1 all'.2 all'.3 all.1)
    runs_same closed count bytes p q (r ∷ rs) [] rest rest' last last' outputs outputs' same all all' is n none is' n' none' =
        absurd (goes_on room closed count bytes r all.0 all.1 all.2 all.3 all'.1)
    runs_same closed count bytes p q (r ∷ rs) (r' ∷ rs') rest rest' last last' [] outputs' same all all' is n none is' n' none' = absurd is
    runs_same closed count bytes p q (r ∷ rs) (r' ∷ rs') rest rest' last last' (o ∷ os) [] same all all' is n none is' n' none' = absurd is'
    runs_same closed count bytes p q (r ∷ rs) (r' ∷ rs') rest rest' last last' (o ∷ os) (o' ∷ os') same all all' is n none is' n' none' =
        let next = one room bytes (whole_request r.asked r.path r.body all.0) (whole_request r'.asked r'.path r'.body all'.0) all.3 all'.3 in
        let request : r' ≡ r = asking_same r.asked r'.asked r.path r'.path r.body r'.body all.0 all'.0 next in
        let more : all'.0 ≡ all.0 = more_same r.asked r'.asked r.path r'.path r.body r'.body all.0 all'.0 next in
        let rise = wants_rise conf opening later (count + 1) is.0 rs last os is.2 in
        let rise' = wants_rise conf opening later' (count + 1) is'.0 rs' last' os' is'.2 in
        let output' : IsOutput conf opening later' count r q is'.0 o' = subst (λ (x : Asking). IsOutput conf opening later' count x q is'.0 o') request is'.1 in
        let step = output_same count r p q is.0 is'.0 o o' same is.1 output' n.0 n'.0 (omega (arith, rise, none)) (omega (arith, rise', none')) in
        let tail' : AreAll room r.asked.close (count + 1) all.0 rs' rest' =
        subst (λ (b : List ℕ). AreAll room r.asked.close (count + 1) b rs' rest') more (subst (λ (x : Asking). AreAll room x.asked.close (count + 1) all'.0 rs' rest') request all'.4) in
        let go = runs_same r.asked.close (count + 1) all.0 is.0 is'.0 rs rs' rest rest' last last' os os' step.point all.4 tail' is.2 n.1 none is'.2 n'.1 none' in
        record {
          requests_same = rw (request, go.requests_same) refl;
          rest_same = go.rest_same;
          outputs_same = rw (step.answer_is, go.outputs_same) refl;
          point = go.point;
        }

  -- ---- the same end

  pub record EndsSame (ended ended' : SessionEnd) (written written' : List ℕ) : Type 0 where
    pub end_same : ended ≡ ended'
    pub written_same : written ≡ written'

  closes_not : (requests : List Asking) (last : Asking) → All StaysOpen requests → EndsWith requests last → last.asked.close ≡ true → ⊥
  closes_not requests last none ends close = true≢false (sym close ∙ last_open ends.before (subst (λ (rs : List Asking). All StaysOpen rs) ends.is none))
    where
      last_open : (before : List Asking) → All StaysOpen (before ++ last ∷ []) → last.asked.close ≡ false
      last_open [] all = All-head StaysOpen last [] all
      last_open (x ∷ before) all = last_open before (All-tail StaysOpen x (before ++ last ∷ []) all)

  module _ (room : ℕ) (requests : List Asking) (rest : List ℕ) (outputs : List (List ℕ)) (x y : Exchange) where
    pub ends_same : (ended ended' : SessionEnd) → IsFaultless ended → IsFaultless ended' → Ends ended room requests rest outputs x → Ends ended' room requests rest outputs y
        → EndsSame ended ended' x.written y.written
    ends_same end.Closed end.Closed f f' a b = record { end_same = refl; written_same = a.2 ∙ sym b.2 }
    ends_same end.Closed end.Asked f f' a b = absurd (closes_not requests b.0.0 a.0.none_closes b.0.1 b.0.2)
    ends_same end.Closed (end.Refused code) f f' a b = absurd (let same = one room rest no_request (refused_request code) a.1 b.1 in cc)
    ends_same end.Closed end.Cut f f' a b = absurd (let same = one room rest no_request cut_request a.1 (cut_next room rest b.1.0 b.1.1) in cc)
    ends_same end.Closed end.Spent f f' a b = absurd (let few = a.0.few in let all = b.0 in omega (arith, few, all))
    ends_same end.Asked end.Closed f f' a b = absurd (closes_not requests a.0.0 b.0.none_closes a.0.1 a.0.2)
    ends_same end.Asked end.Asked f f' a b = record { end_same = refl; written_same = a.1 ∙ sym b.1 }
    ends_same end.Asked (end.Refused code) f f' a b = absurd (closes_not requests a.0.0 b.0.none_closes a.0.1 a.0.2)
    ends_same end.Asked end.Cut f f' a b = absurd (closes_not requests a.0.0 b.0.none_closes a.0.1 a.0.2)
    ends_same end.Asked end.Spent f f' a b = absurd (closes_not requests a.0.0 b.1 a.0.1 a.0.2)
    ends_same (end.Refused code) end.Closed f f' a b = absurd (let same = one room rest (refused_request code) no_request a.1 b.1 in cc)
    ends_same (end.Refused code) end.Asked f f' a b = absurd (closes_not requests b.0.0 a.0.none_closes b.0.1 b.0.2)
    ends_same (end.Refused code) (end.Refused code') f f' a b =
        let next = one room rest (refused_request code) (refused_request code') a.1 b.1 in
        let codes_same : code ≡ code' = cc in
        record { end_same = ap end.Refused codes_same; written_same = a.2 ∙ ap (λ (n : ℕ). concat outputs ++ refusal_bytes n) codes_same ∙ sym b.2 }
    ends_same (end.Refused code) end.Cut f f' a b = absurd (let same = one room rest (refused_request code) cut_request a.1 (cut_next room rest b.1.0 b.1.1) in cc)
    ends_same (end.Refused code) end.Spent f f' a b = absurd (let few = a.0.few in let all = b.0 in omega (arith, few, all))
    ends_same end.Cut end.Closed f f' a b = absurd (let same = one room rest cut_request no_request (cut_next room rest a.1.0 a.1.1) b.1 in cc)
    ends_same end.Cut end.Asked f f' a b = absurd (closes_not requests b.0.0 a.0.none_closes b.0.1 b.0.2)
    ends_same end.Cut (end.Refused code) f f' a b = absurd (let same = one room rest cut_request (refused_request code) (cut_next room rest a.1.0 a.1.1) b.1 in cc)
    ends_same end.Cut end.Cut f f' a b = record {
      end_same = refl;
      written_same = a.1.2 ∙ ap (λ (e : List ℕ). concat outputs ++ e) (extra_same room rest a.1.0 b.1.0 a.1.1 b.1.1) ∙ sym b.1.2;
    }
    ends_same end.Cut end.Spent f f' a b = absurd (let few = a.0.few in let all = b.0 in omega (arith, few, all))
    ends_same end.Spent end.Closed f f' a b = absurd (let few = b.0.few in let all = a.0 in omega (arith, few, all))
    ends_same end.Spent end.Asked f f' a b = absurd (closes_not requests b.0.0 a.1 b.0.1 b.0.2)
    ends_same end.Spent (end.Refused code) f f' a b = absurd (let few = b.0.few in let all = a.0 in omega (arith, few, all))
    ends_same end.Spent end.Cut f f' a b = absurd (let few = b.0.few in let all = a.0 in omega (arith, few, all))
    ends_same end.Spent end.Spent f f' a b = record { end_same = refl; written_same = a.2 ∙ sym b.2 }
    ends_same end.ReadFault ended' f f' a b = absurd f
    ends_same end.WriteFault ended' f f' a b = absurd f
    ends_same end.OutOfMemory ended' f f' a b = absurd f
    ends_same other end.ReadFault f f' a b = absurd f'
    ends_same other end.WriteFault f f' a b = absurd f'
    ends_same other end.OutOfMemory f f' a b = absurd f'

-- ---- the whole

pub told_input : (ended : SessionEnd) (exchange : Exchange) → IsFaultless ended → input_seen ended exchange ≡ input_of exchange
told_input end.Closed exchange f = refl
told_input end.Asked exchange f = refl
told_input (end.Refused code) exchange f = refl
told_input end.Cut exchange f = refl
told_input end.Spent exchange f = refl
told_input end.ReadFault exchange f = absurd f
told_input end.WriteFault exchange f = absurd f
told_input end.OutOfMemory exchange f = absurd f

lists_same : (xs ys : List SurveyState) → ((i : ℕ) → slice_get ys i ≡ slice_get xs i) → xs ≡ ys
lists_same [] [] h = refl
lists_same [] (y ∷ ys) h = absurd (none-some y (sym (h 0)))
lists_same (x ∷ xs) [] h = absurd (none-some x (h 0))
lists_same (x ∷ xs) (y ∷ ys) h =
    let first : Some y ≡ Some x = h 0 in
    let rest : xs ≡ ys = lists_same xs ys (λ i. h (suc i)) in
    cc

module _ (states : List SurveyState) (some : 0 < length states) where
  first_newest : IsNewest states (first_point states)
  first_newest = omega (arith, some)

  first_seen : OwnSeen (first_point states)
  first_seen o there = absurd (let fits = there.1 in omega (arith, fits))

  known_first : (later : List SurveyState) → Begins states later → (i : ℕ) → i ≤ length states - 1 → slice_get later i ≡ Some (get_or states i opening_state)
  known_first later begins i low = stays_there states later i (get_or states i opening_state) begins (slice_get-get_or states i opening_state (omega (arith, low, some)))

  first_same : (later later' : List SurveyState) → Begins states later → Begins states later' → IsSame states later later' (first_point states) (first_point states)
  first_same later later' begins begins' = record {
    place = refl;
    held = refl;
    own = refl;
    newest = first_newest;
    seen = λ h e. absurd (none-some h e);
    known = λ i low. known_first later' begins' i low ∙ sym (known_first later begins i low);
  }

module _ (conf : Description) (opening : LeafTiles) (states : List SurveyState) (history : IsHistory opening states) where
  some_states : 0 < length states
  some_states = history_some opening states history

  within_first : (later : List SurveyState) → Begins states later → length states - 1 < length later
  within_first later begins = omega (arith, some_states, begins_length states later begins)

  -- the last place of a connection is that of the last state
  last_place : (c : Connection conf opening states) → OwnsAll states c.later c.own → IsNewest states c.run.last → c.run.last.place + 1 ≡ length c.later
  last_place c owns newest =
      let e = at_end conf opening c.later 0 (first_point states) c.run.requests c.run.last c.run.outputs (first_seen states some_states) (within_first c.later c.run.begins) c.run.answered in
      let within = e.within in
      let low : length c.later - 1 ≤ c.run.last.place = low_of e.seen (cases_lt (length c.later - 1) (length states)) in
      omega (arith, within, low)
    where
      low_of : OwnSeen c.run.last → (length c.later - 1 < length states) ⊎ (length states ≤ length c.later - 1) → length c.later - 1 ≤ c.run.last.place
      low_of seen (inr late) =
          seen (length c.later - 1) (subst (λ (xs : List ℕ). Contains xs (length c.later - 1)) c.run.own_is
          (owns (length c.later - 1) late (let long = within_first c.later c.run.begins in omega (arith, long))))
      low_of seen (inl early) = omega (arith, newest, early)

  pub own_is_newest : (c : Connection conf opening states) → OwnsAll states c.later c.own → EachNewest c
  own_is_newest c owns =
      are_newest conf opening c.later states c.own owns 0 (first_point states) c.run.requests c.run.last c.run.outputs (first_newest states some_states) (first_seen states some_states) c.run.own_is c.run.answered

  module _ (one : NextIsOne) (heads : NextHeadIsOne) (differ : SpellingsDiffer) where
    all_requests : (c : Connection conf opening states) → IsFaultless c.end → (input : List ℕ) → input_of c.exchange ≡ input → AreAll (room_of conf) false 0 input c.run.requests c.run.rest
    all_requests c f input is =
        all_of one heads c.end (room_of conf) input c.run.requests c.run.rest c.run.outputs c.exchange f
        (subst (λ (b : List ℕ). AreRequests (room_of conf) b c.run.requests c.run.rest) (told_input c.end c.exchange f ∙ is) c.run.are_requests) c.run.ended

    pub one_outcome : (c d : Connection conf opening states) → IsUndisturbed c → IsUndisturbed d → input_of c.exchange ≡ input_of d.exchange → IsSameOutcome c d
    one_outcome c d u v input =
        let go = runs_same one heads differ conf opening states c.later d.later (room_of conf) false 0 (input_of d.exchange) (first_point states) (first_point states)
        c.run.requests d.run.requests c.run.rest d.run.rest c.run.last d.run.last c.run.outputs d.run.outputs
        (first_same states some_states c.later d.later c.run.begins d.run.begins) (all_requests c u.faultless (input_of d.exchange) input) (all_requests d v.faultless (input_of d.exchange) refl)
        c.run.answered u.newest (sym c.run.memory_faults_is ∙ u.memory) d.run.answered v.newest (sym d.run.memory_faults_is ∙ v.memory) in
        let place : c.run.last.place + 1 ≡ length c.later = last_place c u.owns go.point.newest in
        let newest' : IsNewest states d.run.last = (let n = go.point.newest in let e = go.point.place in omega (arith, n, e, ap length go.point.own)) in
        let place' : d.run.last.place + 1 ≡ length d.later = last_place d v.owns newest' in
        let same_length : length d.later ≡ length c.later = (let e = go.point.place in omega (arith, place, place', e)) in
        let ended : Ends d.end (room_of conf) c.run.requests c.run.rest c.run.outputs d.exchange =
        subst (λ (os : List (List ℕ)). Ends d.end (room_of conf) c.run.requests c.run.rest os d.exchange) go.outputs_same
        (subst (λ (b : List ℕ). Ends d.end (room_of conf) c.run.requests b d.run.outputs d.exchange) go.rest_same
        (subst (λ (rs : List Asking). Ends d.end (room_of conf) rs d.run.rest d.run.outputs d.exchange) go.requests_same d.run.ended)) in
        let same = ends_same one heads (room_of conf) c.run.requests c.run.rest c.run.outputs c.exchange d.exchange c.end d.end u.faultless v.faultless c.run.ended ended in
        record {
          written = same.written_same;
          later = lists_same c.later d.later (λ i. at_each i go.point.known place same_length (cases_lt c.run.last.place i));
          end = same.end_same;
        }
      where
        at_each : (i : ℕ) → ((j : ℕ) → j ≤ c.run.last.place → slice_get d.later j ≡ slice_get c.later j) → c.run.last.place + 1 ≡ length c.later → length d.later ≡ length c.later
            → (c.run.last.place < i) ⊎ (i ≤ c.run.last.place) → slice_get d.later i ≡ slice_get c.later i
        at_each i known place same_length (inr low) = known i low
        at_each i known place same_length (inl high) = slice_get_past d.later i (omega (arith, high, place, same_length)) ∙ sym (slice_get_past c.later i (omega (arith, high, place)))
