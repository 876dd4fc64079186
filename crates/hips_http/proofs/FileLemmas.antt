-- Files, as they are answered.
use Rattle.std.proofs.Common.{◌≡◌, ℕ, ◌+◌, ◌-◌, ◌<◌, ◌≤◌, inl, inr, Bool, List, ◌++◌, length, length-append, Option, Some, None, refl, sym, ap, subst, ◌∙◌, arith}
use Rattle.std.specs.Prelude.{slice_get, unwrap_or, option_map, IsSome}
use Rattle.std.proofs.lemmas.Bool.{true≢false}
use Rattle.std.specs.Option.{option_map_or}
use Rattle.tile_path.specs.declared.path.Path.{Path}
use Rattle.survey_conf.specs.Description.{Description}
use Rattle.edit_journal.specs.Leaves.{LeafTiles}
use Rattle.survey_core.specs.History.{SurveyState, IsHistory}
use Rattle.survey_core.specs.HistoryLaws.{begins_length, history_some}
use Rattle.survey_core.specs.State.{StateContent, survey_state}
use Rattle.survey_core.specs.Reply.{file_at}
use Rattle.reader_pin.specs.SeatLaws.{keeps_itself}
use Rattle.reader_pin.specs.Board.{BoardContent, IsOwned, Stays, last_seen, state_in}
use Rattle.hips_http.specs.declared.call.Call.TheVariants as call
use Rattle.tile_path.specs.Spelling.{spelling}
use Rattle.http_frame.specs.declared.request.Request.{Request}
use Rattle.http_frame.specs.declared.reply.Allow.TheVariants as allow
use Rattle.http_frame.specs.declared.reply.Kind.{Kind}
use Rattle.http_frame.specs.declared.reply.Number.TheVariants as number
use Rattle.http_frame.specs.declared.reply.Reply.{Reply}
use Rattle.http_frame.specs.Reply.{reply_bytes}
use Rattle.hips_http.specs.Paths.{IsFilePath}
use Rattle.hips_http.specs.Replies.{Answer, IsReplyOf, sent_body, file_kind, found_answer, not_found, file_answer}
use Rattle.hips_http.specs.Answers.{Asking}
use Rattle.hips_http.specs.Progress.{IsHeld, Looks, Serves, reply_of}
use Rattle.hips_http.proofs.Points.{IsFound, last_there, kept_point, kept_at, kept_keeps, place_rises}
use Rattle.hips_http.proofs.Changes.{stays_itself}

path_found : (tip : ℕ) (path : List ℕ) (file : Option (List ℕ)) → IsFound (option_map_or (found_answer tip path) file (not_found tip))
path_found tip path None = refl
path_found tip path (Some file) = refl

pub file_found : (conf : Description) (opening : LeafTiles) (state : SurveyState) (path : Option (List ℕ)) → IsFound (file_answer conf opening state path)
file_found conf opening state None = refl
file_found conf opening state (Some path) = path_found state.tip path (file_at conf opening state path)

-- the answer at the path of a file
pub answered_by : (conf : Description) (opening : LeafTiles) (state : SurveyState) (path : Option (List ℕ)) (file : Path) → IsFilePath path file
    → file_answer conf opening state path ≡ option_map_or (found_answer state.tip (spelling file)) (file_at conf opening state (spelling file)) (not_found state.tip)
answered_by conf opening state path file is =
    subst (λ (p : Option (List ℕ)). file_answer conf opening state p ≡ option_map_or (found_answer state.tip (spelling file)) (file_at conf opening state (spelling file)) (not_found state.tip)) (sym is.spelled) refl

-- the reply with a file, whose bytes are three parts
pub found_is : (close : Bool) (tip tip' : ℕ) (path : List ℕ) (kind : Kind) (front kept zeros : List ℕ) → kind ≡ file_kind path → tip' ≡ tip
    → IsReplyOf close (found_answer tip path (front ++ kept ++ zeros))
    (record { code = 200; allow = allow.Absent; kind = kind; number = number.Prefix tip'; length = length front + length kept + length zeros; close = close }) (front ++ kept ++ zeros)
found_is close tip tip' path kind front kept zeros kind_is tip_is = record { head_is = rw (kind_is, tip_is, length-append (front ++ kept) zeros, length-append front kept) refl; body_is = refl }

-- the bytes of a reply whose head and body these are
pub reply_is : (close : Bool) (asked : Request) (answer : Answer) (head : Reply) (body sent : List ℕ) → IsReplyOf close answer head body → sent ≡ sent_body asked.method body → reply_bytes head sent ≡ reply_of close asked answer
reply_is close asked answer head body sent is sent_is = rw (is.head_is, sent_is, is.body_is) refl

none_held : (states : List SurveyState) (place : Option ℕ) (held : Option SurveyState) → IsHeld states place held → held ≡ None → place ≡ None
none_held states None held is none = refl
none_held states (Some place) held is none = absurd (let e = is.2 in cc)

some_held : (states : List SurveyState) (place : Option ℕ) (held : Option SurveyState) (state : SurveyState) (default : ℕ) → IsHeld states place held → held ≡ Some state
    → slice_get states (unwrap_or place default) ≡ Some state
some_held states None held state default is some = absurd (let e : held ≡ None = is in cc)
some_held states (Some place) held state default is some = let e : Some is.0 ≡ Some state = sym is.2 ∙ some in is.1 ∙ e

-- the state that a board holds
pub record HoldsState (board : BoardContent) (held : Option SurveyState) (state : StateContent) : Type 0 where
  pub of_survey : SurveyState
  pub held_is : held ≡ Some of_survey
  pub is : state ≡ state_in board of_survey

holds_shown : (board : BoardContent) (held : Option SurveyState) (state : StateContent) → IsSome held → state ≡ state_in board (unwrap_or held (last_seen board)) → HoldsState board held state
holds_shown board None state some is = absurd (true≢false (sym some))
holds_shown board (Some s) state some is = record { of_survey = s; held_is = refl; is = is }

-- what a board answers when it is asked for the state that it holds
pub held_none : (board : BoardContent) (held : Option SurveyState) → None ≡ option_map (state_in board) held → held ≡ None
held_none board None is = refl
held_none board (Some s) is = absurd (cc)

pub held_some : (board : BoardContent) (held : Option SurveyState) (state : StateContent) → Some state ≡ option_map (state_in board) held → IsSome held
held_some board None state is = absurd (cc)
held_some board (Some s) state is = refl

pub held_shown : (board : BoardContent) (held : Option SurveyState) (state : StateContent) (last : SurveyState) → Some state ≡ option_map (state_in board) held → state ≡ state_in board (unwrap_or held last)
held_shown board None state last is = absurd (cc)
held_shown board (Some s) state last is = let e : state ≡ state_in board s = cc in e

module _ (request : Asking) (file : Option Path) (path : Option (List ℕ)) (path_is : request.path ≡ path) (steps : ℕ) where
  -- by the newest state, where none is held
  pub newest_serves : (old new : BoardContent) (state : StateContent) → Stays old new → old.held ≡ None → state ≡ state_in new (last_seen new)
      → Serves request (call.File file) old new steps steps (file_answer state.conf state.opening (survey_state state) path)
  newest_serves old new state stays none is = record {
    conf = stays.conf;
    opening = stays.opening;
    legal = stays.legal;
    begins = stays.earlier;
    seat = stays.seat;
    at_each = λ first_own first_steps memory_faults before at.
        let place = length new.history - 1 in
        let some : 0 < length new.history = history_some new.opening new.history stays.legal in
        let late : length old.history ≤ place + 1 = omega (arith, begins_length old.history new.history stays.earlier) in
        let within : place < length new.history = omega arith in
        let bound : steps ≤ steps + 0 = omega arith in
        let free : before.held ≡ None = none_held old.history before.held old.held at.held none in
        record {
          after = kept_point place 0 before;
          at = kept_at first_own first_steps old new steps steps memory_faults 0 place before at late within bound stays (file_answer state.conf state.opening (survey_state state) path)
              (file_found state.conf state.opening (survey_state state) path);
          never_falls = place_rises first_own first_steps old new steps steps memory_faults 0 place before at late within bound;
          answers = record {
            state = last_seen new;
            there = rw free (last_there new.history some);
            answer_is = rw (path_is, is) refl;
            kept = kept_keeps place 0 before;
          };
          cost = refl;
        };
  }

  -- by the state that is held
  pub held_serves : (board : BoardContent) (state : StateContent) → IsHistory board.opening board.history → IsOwned board → HoldsState board board.held state
      → Serves request (call.File file) board board steps steps (file_answer state.conf state.opening (survey_state state) path)
  held_serves board state legal owned holds = record {
    conf = refl;
    opening = refl;
    legal = legal;
    begins = (stays_itself board legal owned).earlier;
    seat = keeps_itself board owned;
    at_each = λ first_own first_steps memory_faults before at.
        let place = length board.history - 1 in
        let some : 0 < length board.history = history_some board.opening board.history legal in
        let late : length board.history ≤ place + 1 = omega arith in
        let within : place < length board.history = omega arith in
        let bound : steps ≤ steps + 0 = omega arith in
        record {
          after = kept_point place 0 before;
          at = kept_at first_own first_steps board board steps steps memory_faults 0 place before at late within bound (stays_itself board legal owned) (file_answer state.conf state.opening (survey_state state) path)
              (file_found state.conf state.opening (survey_state state) path);
          never_falls = place_rises first_own first_steps board board steps steps memory_faults 0 place before at late within bound;
          answers = record {
            state = holds.of_survey;
            there = some_held board.history before.held board.held holds.of_survey place at.held holds.held_is;
            answer_is = rw (path_is, holds.is) refl;
            kept = kept_keeps place 0 before;
          };
          cost = refl;
        };
  }

  -- by the state that is shown after a look
  pub shown_serves : (old new : BoardContent) (state : StateContent) → IsHistory new.opening new.history → IsOwned new → Looks old new → state ≡ state_in new (unwrap_or new.held (last_seen new))
      → Serves request (call.File file) old new steps steps (file_answer state.conf state.opening (survey_state state) path)
  shown_serves old new state legal owned (inl same) is =
      subst (λ (board : BoardContent). Serves request (call.File file) board new steps steps (file_answer state.conf state.opening (survey_state state) path)) same.0
      (held_serves new state legal owned (holds_shown new new.held state (subst (λ (board : BoardContent). IsSome board.held) (sym same.0) same.1) is))
  shown_serves old new state legal owned (inr stays) is =
      let none : new.held ≡ None = stays.0.held ∙ stays.1 in
      newest_serves old new state stays.0 stays.1 (is ∙ ap (λ (held : Option SurveyState). state_in new (unwrap_or held (last_seen new))) none)
