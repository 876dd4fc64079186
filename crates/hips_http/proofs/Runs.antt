-- Runs over several requests: they go on by one more, and stay runs where more states follow.
use Rattle.std.proofs.Common.{◌≡◌, inl, inr, ℕ, ◌+◌, ◌-◌, ◌<◌, List, [], ◌∷◌, ◌++◌, length, get_or, Ok, Err, refl, sym, ap, ◌∙◌, subst, arith}
use Rattle.std.specs.Prelude.{slice_get, unwrap_or}
use Rattle.std.proofs.lemmas.Option.{slice_get-get_or}
use Rattle.survey_conf.specs.Description.{Description}
use Rattle.edit_journal.specs.Leaves.{LeafTiles}
use Rattle.http_frame.specs.Next.{IsWhole}
use Rattle.survey_core.specs.History.{SurveyState, opening_state, Begins}
use Rattle.survey_core.specs.HistoryLaws.{begins_length}
use Rattle.hips_http.specs.declared.call.Call.{Call}
use Rattle.hips_http.specs.declared.call.Call.TheVariants as call
use Rattle.hips_http.specs.Paths.{call_of}
use Rattle.hips_http.specs.Replies.{Answer}
use Rattle.hips_http.specs.Answers.{Asking, Point, Asked, asked_put, asked_delete, asked_batch, Judges, Changes, Answers, cost_of}
use Rattle.hips_http.specs.SessionRun.{AreRequests, AreAnswered, IsOutput}
use Rattle.hips_http.proofs.Points.{stays_there}

-- ---- more states follow

module _ (conf : Description) (opening : LeafTiles) (states more : List SurveyState) (begins : Begins states more) where
  judges_more : (asked : Asked) (before after : Point) (answer : Answer) → Judges opening states asked before after answer → Judges opening more asked before after answer
  judges_more (Err refusal) before after answer is = is
  judges_more (Ok change) before after answer (inl r) = inl (record {
    state = r.state;
    there = stays_there states more after.place r.state begins r.there;
    seen = r.seen;
    answer_is = r.answer_is;
    kept = r.kept;
  })
  judges_more (Ok change) before after answer (inr a) = inr (record {
    old = a.old;
    new = a.new;
    items = a.items;
    old_there = stays_there states more (after.place - 1) a.old begins a.old_there;
    new_there = stays_there states more after.place a.new begins a.new_there;
    judged = a.judged;
    appended = a.appended;
    answer_is = a.answer_is;
    step = a.step;
  })

  changes_more : (asked : Asked) (before after : Point) (answer : Answer) → Changes opening states asked before after answer → Changes opening more asked before after answer
  changes_more asked before after answer (inl judged) = inl (judges_more asked before after answer judged)
  changes_more asked before after answer (inr none) = inr none

  answers_more : (request : Asking) (wanted : Call) (before after : Point) (answer : Answer) → Answers conf opening states request wanted before after answer
      → Answers conf opening more request wanted before after answer
  answers_more request (call.NotAllowed allow) before after answer is = is
  answers_more request (call.File file) before after answer is = record {
    state = is.state;
    there = stays_there states more (unwrap_or before.held after.place) is.state begins is.there;
    answer_is = is.answer_is;
    kept = is.kept;
  }
  answers_more request call.Pin before after answer is = record {
    state = is.state;
    there = stays_there states more after.place is.state begins is.there;
    answer_is = is.answer_is;
    holds = is.holds;
  }
  answers_more request call.Unpin before after answer is = is
  answers_more request call.Publish before after answer (inl p) = inl (record {
    known = p.known;
    old = p.old;
    new = p.new;
    known_there = stays_there states more before.place p.known begins p.known_there;
    old_there = stays_there states more (after.place - 1) p.old begins p.old_there;
    new_there = stays_there states more after.place p.new begins p.new_there;
    publication = p.publication;
    all = p.all;
    answer_is = p.answer_is;
    step = p.step;
  })
  answers_more request call.Publish before after answer (inr (inl h)) = inr (inl (record {
    state = h.state;
    there = stays_there states more after.place h.state begins h.there;
    all = h.all;
    answer_is = h.answer_is;
    kept = h.kept;
  }))
  answers_more request call.Publish before after answer (inr (inr none)) = inr (inr none)
  answers_more request call.Batch before after answer is = changes_more (asked_batch conf request) before after answer is
  answers_more request (call.Put leaf) before after answer is = changes_more (asked_put conf request leaf) before after answer is
  answers_more request (call.Delete leaf) before after answer is = changes_more (asked_delete request leaf) before after answer is

  -- a place that is there shows the same state
  same_there : (place : ℕ) → place < length states → slice_get more place ≡ slice_get states place
  same_there place within =
      let there = slice_get-get_or states place opening_state within in
      stays_there states more place (get_or states place opening_state) begins there ∙ sym there

  cost_more : (request : Asking) (wanted : Call) (from to : ℕ) → from < length states → to < length states → cost_of conf more request wanted from to ≡ cost_of conf states request wanted from to
  cost_more request (call.NotAllowed allow) from to low high = refl
  cost_more request (call.File file) from to low high = refl
  cost_more request call.Pin from to low high = refl
  cost_more request call.Unpin from to low high = refl
  cost_more request call.Publish from to low high = rw (same_there from low, same_there to high) refl
  cost_more request call.Batch from to low high = refl
  cost_more request (call.Put leaf) from to low high = refl
  cost_more request (call.Delete leaf) from to low high = refl

  output_more : (count : ℕ) (request : Asking) (before after : Point) (output : List ℕ) → IsOutput conf opening states count request before after output
      → IsOutput conf opening more count request before after output
  output_more count request before after output is =
      let a = is.answered in
      let low : before.place < length states = let rises = a.never_falls in let within = a.within in omega arith in
      record {
        answer = is.answer;
        answered = record {
          kind = a.kind;
          of_kind = a.of_kind;
          never_falls = a.never_falls;
          within = (let within = a.within in omega (arith, begins_length states more begins));
          answers = answers_more request (call_of request.asked.method a.kind) before after is.answer a.answers;
          cost = a.cost ∙ ap (λ n. before.cost + n) (sym (cost_more request (call_of request.asked.method a.kind) before.place after.place low a.within));
        };
        output_is = is.output_is;
      }

  pub answered_more : (count : ℕ) (before : Point) (requests : List Asking) (after : Point) (outputs : List (List ℕ)) → AreAnswered conf opening states count before requests after outputs
      → AreAnswered conf opening more count before requests after outputs
  answered_more count before [] after outputs is = is
  answered_more count before (request ∷ requests) after [] is = absurd is
  answered_more count before (request ∷ requests) after (output ∷ outputs) is =
      (is.0, output_more count request before is.0 output is.1, answered_more (count + 1) is.0 requests after outputs is.2)

-- ---- one more request

pub answered_push : (conf : Description) (opening : LeafTiles) (states : List SurveyState) (count count' : ℕ) (before : Point) (requests : List Asking) (mid : Point) (outputs : List (List ℕ)) (request : Asking) (after : Point) (output : List ℕ)
    → count' ≡ count + length requests → AreAnswered conf opening states count before requests mid outputs → IsOutput conf opening states count' request mid after output
    → AreAnswered conf opening states count before (requests ++ request ∷ []) after (outputs ++ output ∷ [])
answered_push conf opening states count count' before [] mid outputs request after output place is one =
    let start : mid ≡ before = is.0 in
    let none : outputs ≡ [] = is.1 in
    let same : count' ≡ count = place ∙ omega arith in
    let here : IsOutput conf opening states count request before after output = subst (λ n. IsOutput conf opening states n request before after output) same (subst (λ p. IsOutput conf opening states count' request p after output) start one) in
    rw none (after, here, (refl, refl))
answered_push conf opening states count count' before (first ∷ requests) mid [] request after output place is one = absurd is
answered_push conf opening states count count' before (first ∷ requests) mid (out ∷ outputs) request after output place is one =
    (is.0, is.1, answered_push conf opening states (count + 1) count' is.0 requests mid outputs request after output (place ∙ omega arith) is.2 one)

pub requests_push : (room : ℕ) (bytes : List ℕ) (requests : List Asking) (rest : List ℕ) (request : Asking) (more : List ℕ) → AreRequests room bytes requests rest
    → IsWhole room rest request.asked request.path request.body more → AreRequests room bytes (requests ++ request ∷ []) more
requests_push room bytes [] rest request more is whole =
    (more, subst (λ (b : List ℕ). IsWhole room b request.asked request.path request.body more) is whole, refl)
requests_push room bytes (first ∷ requests) rest request more is whole = (is.0, is.1, requests_push room is.0 requests rest request more is.2 whole)
