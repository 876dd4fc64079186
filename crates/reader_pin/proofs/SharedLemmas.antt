-- What a board of a shared survey tells, from before it caught up.
use Rattle.std.proofs.Common.{◌≡◌, ℕ, ◌+◌, ◌-◌, ◌*◌, ◌^◌, ◌<◌, ◌≤◌, min, List, [], ◌∷◌, ◌++◌, length, map, take, drop, get_or, sym, ap, ◌∙◌, subst, arith, length-append}
use Rattle.std.specs.Prelude.{All, Contains, Result, Ok, Err, IfOk, OnOk, not}
use Rattle.std.proofs.lemmas.List.{drop-map, take_all, length-drop, map-append, get_or-drop, get_or_append_left}
use Rattle.std.proofs.lemmas.List.Elements.{All-contains_itself}
use Rattle.pyramid_model.specs.Shape.{PyramidShape}
use Rattle.dirty_plan.specs.Dirty.{work, steps_after}
use Rattle.dirty_plan.specs.Laws.{MoreTouchedIsMoreWork}
use Rattle.generation.specs.Steps.{touched}
use Rattle.edit_journal.specs.Edit.{LeafEdit, leaf_of}
use Rattle.edit_journal.specs.Leaves.{LeafTiles, leaves_of}
use Rattle.edit_journal.specs.Faults.{has_leaf}
use Rattle.survey_core.specs.History.{SurveyState, edits_at, AppendsBatch, IsHistory, Begins, Precedes}
use Rattle.survey_core.specs.HistoryLaws.{begins_itself, begins_trans, begins_length, prefix_precedes, history_some}
use Rattle.reader_pin.specs.declared.answer.Accepted.{Accepted}
use Rattle.reader_pin.specs.declared.answer.BoardRefusal.{BoardRefusal}
use Rattle.reader_pin.specs.declared.answer.BoardRefusal.TheVariants.{Fault, OutOfMemory}
use Rattle.reader_pin.specs.declared.answer.BoardBatch.{BoardBatch}
use Rattle.reader_pin.specs.declared.answer.BoardBatch.TheVariants.{Fault as Faulty, OutOfMemory as NoMemory}
use Rattle.reader_pin.specs.declared.answer.Published.{Published}
use Rattle.reader_pin.specs.declared.answer.Published.TheVariants.{New, Already}
use Rattle.reader_pin.specs.Board.{BoardContent, Stays, Happens, InOne, Publishes, last_of, last_seen, state_in, edit_count, publish_work}
use Rattle.reader_pin.specs.SeatLaws.{keeps_trans}
use Rattle.reader_pin.specs.Build.{build_work}
use Rattle.reader_pin.specs.Answers.{Accepts, AcceptsAll, IsRefused, AreRefused, TellsRefusal, TellsBatchRefusal, TellsPublished}
use Rattle.reader_pin.proofs.SoloLemmas.{last_there}

pub stays_stays : (old mid new : BoardContent) → Stays old mid → Stays mid new → Stays old new
stays_stays old mid new one two = record {
  conf = two.conf ∙ one.conf;
  opening = two.opening ∙ one.opening;
  legal = two.legal;
  earlier = begins_trans old.history mid.history new.history one.earlier two.earlier;
  seat = keeps_trans old mid new one.seat two.seat;
  own = two.own ∙ one.own;
  held = two.held ∙ one.held;
}

pub stays_happens : (IsOne IsOther : SurveyState → SurveyState → Type 0) (old mid new : BoardContent) → Stays old mid → ((before after : SurveyState) → IsOne before after → IsOther before after) →
    Happens IsOne mid new → Happens IsOther old new
stays_happens IsOne IsOther old mid new stays also happens = record {
  conf = happens.conf ∙ stays.conf;
  opening = happens.opening ∙ stays.opening;
  legal = happens.legal;
  before = happens.before;
  state = happens.state;
  earlier = begins_trans old.history mid.history happens.before stays.earlier happens.earlier;
  event = also (last_of happens.before) happens.state happens.event;
  history = happens.history;
  seat = keeps_trans old mid new stays.seat happens.seat;
  own = happens.own ∙ ap (λ (own : List ℕ). own ++ length happens.before ∷ []) stays.own;
  held = happens.held ∙ stays.held;
}

in_later : (IsThat IsThis : SurveyState → Type 0) (old mid new : BoardContent) → Stays old mid → ((state : SurveyState) → IsThat state → IsThis state) → InOne mid new IsThat → InOne old new IsThis
in_later IsThat IsThis old mid new stays also one =
    let shorter : length old.history ≤ length mid.history = begins_length old.history mid.history stays.earlier in
    let late : length mid.history ≤ one.place + 1 = one.late in
    record { place = one.place; late = omega arith; state = one.state; there = one.there; holds = also one.state one.holds }

-- ---- edits and batches

appends_too : (batch : List LeafEdit) (old mid : BoardContent) → Stays old mid → (before after : SurveyState) → AppendsBatch mid.opening batch before after → AppendsBatch old.opening batch before after
appends_too batch old mid stays before after appends = subst (λ (o : LeafTiles). AppendsBatch o batch before after) stays.opening appends

pub accepts_later : (edit : LeafEdit) (old mid new : BoardContent) (accepted : Accepted) → Stays old mid → Accepts edit mid new accepted → Accepts edit old new accepted
unfolding stays_happens
accepts_later edit old mid new accepted stays accepts = record {
  happens = stays_happens (AppendsBatch mid.opening (edit ∷ [])) (AppendsBatch old.opening (edit ∷ [])) old mid new stays (appends_too (edit ∷ []) old mid stays) accepts.happens;
  number = accepts.number;
  created = subst (λ (o : LeafTiles). accepted.created ≡ not (has_leaf (leaf_of edit) (leaves_of o (edits_at (last_of accepts.happens.before))))) stays.opening accepts.created;
}

pub accepts_all_later : (batch : List LeafEdit) (old mid new : BoardContent) (count : ℕ) → Stays old mid → AcceptsAll batch mid new count → AcceptsAll batch old new count
unfolding stays_happens
accepts_all_later batch old mid new count stays accepts = record {
  happens = stays_happens (AppendsBatch mid.opening batch) (AppendsBatch old.opening batch) old mid new stays (appends_too batch old mid stays) accepts.happens;
  count = accepts.count;
}

pub refused_later : (edit : LeafEdit) (old mid : BoardContent) (refusal : BoardRefusal) → Stays old mid → TellsRefusal edit mid mid refusal → TellsRefusal edit old mid refusal
refused_later edit old mid (Fault fault edits) stays tells =
    in_later (IsRefused mid.opening edit fault edits) (IsRefused old.opening edit fault edits) old mid mid stays
    (λ state is. subst (λ (o : LeafTiles). IsRefused o edit fault edits state) stays.opening is) tells
refused_later edit old mid OutOfMemory stays tells = tt

pub all_refused_later : (batch : List LeafEdit) (old mid : BoardContent) (refusal : BoardBatch) → Stays old mid → TellsBatchRefusal batch mid mid refusal → TellsBatchRefusal batch old mid refusal
all_refused_later batch old mid (Faulty at fault edits) stays tells =
    in_later (AreRefused mid.opening batch (record { at = at; fault = fault }) edits) (AreRefused old.opening batch (record { at = at; fault = fault }) edits) old mid mid stays
    (λ state is. subst (λ (o : LeafTiles). AreRefused o batch (record { at = at; fault = fault }) edits state) stays.opening is) tells
all_refused_later batch old mid NoMemory stays tells = tt

-- ---- publications

pub last_precedes : (old new : BoardContent) → IsHistory old.opening old.history → IsHistory new.opening new.history → Begins old.history new.history → Precedes (last_seen old) (last_seen new)
last_precedes old new is_old is_new begins =
    let some : 0 < length old.history = history_some old.opening old.history is_old in
    let longer : length old.history ≤ length new.history = begins_length old.history new.history begins in
    prefix_precedes new.opening old.history new.history (length old.history - 1) (length new.history - 1) (last_seen old) (last_seen new) is_new begins (omega arith)
    (last_there old.history some) (last_there new.history (omega arith))

pub published_later : (old mid new : BoardContent) (published : Published) → IsHistory old.opening old.history → Stays old mid → TellsPublished mid new published → TellsPublished old new published
published_later old mid new (New k) legal stays tells =
    let edits : edit_count (last_seen old) ≤ edit_count (last_seen mid) =
    begins_length (edits_at (last_seen old)) (edits_at (last_seen mid)) (last_precedes old mid legal stays.legal stays.earlier).edits in
    (stays_happens (Publishes k) (Publishes k) old mid new stays (λ before after event. event) tells.0, omega (arith, edits, tells.1))
published_later old mid new (Already k) legal stays tells = (stays_stays old mid new stays tells.0, tells.1)

-- what was told of a publication shows that the history went on
pub record GoesOn (old new : BoardContent) : Type 0 where
  pub conf : new.conf ≡ old.conf
  pub legal : IsHistory new.opening new.history
  pub earlier : Begins old.history new.history

pub told_goes_on : (old new : BoardContent) (published : Published) → TellsPublished old new published → GoesOn old new
told_goes_on old new (New k) tells = record {
  conf = tells.0.conf;
  legal = tells.0.legal;
  earlier = begins_trans old.history tells.0.before new.history tells.0.earlier (let begins : Begins tells.0.before new.history = record { rest = tells.0.state ∷ []; is = tells.0.history } in begins);
}
told_goes_on old new (Already k) tells = record { conf = tells.0.conf; legal = tells.0.legal; earlier = tells.0.earlier }

-- ---- its steps

touched_from : (edits : List LeafEdit) (from : ℕ) → touched edits from (length edits) ≡ drop from (map leaf_of edits)
touched_from edits from =
    let whole : take (length edits - from) (drop from edits) ≡ drop from edits = take_all (length edits - from) (drop from edits) (omega (arith, length-drop from edits)) in
    ap (λ (es : List LeafEdit). map leaf_of es) whole ∙ sym (drop-map leaf_of from edits)

-- what holds from an earlier place of a longer list on holds from a later place of a front
all_part : {X : Type 0} (P : X → Type 0) (early late : ℕ) (xs rest : List X) → early ≤ late → All P (drop early (xs ++ rest)) → All P (drop late xs)
all_part P early late xs rest h all = λ k d within.
    let here : late + k < length xs = omega (arith, length-drop late xs) in
    let place : late - early + k < length (drop early (xs ++ rest)) = omega (arith, length-drop early (xs ++ rest), length-append xs rest) in
    let same : early + (late - early + k) ≡ late + k = omega arith in
    subst P
    (get_or-drop early (xs ++ rest) (late - early + k) d ∙ ap (λ (i : ℕ). get_or (xs ++ rest) i d) same ∙ (get_or_append_left xs rest d (late + k) here ∙ sym (get_or-drop late xs k d)))
    (all (late - early + k) d place)

-- from an earlier place on of more edits there is no less work
pub part_work : MoreTouchedIsMoreWork → (shape : PyramidShape) (few many : List LeafEdit) (early late : ℕ) → Begins few many → early ≤ late →
    work shape.top shape.low (touched few late (length few)) ≤ work shape.top shape.low (touched many early (length many))
part_work law shape few many early late begins h =
    let leaves : map leaf_of many ≡ map leaf_of few ++ map leaf_of begins.rest = ap (map leaf_of) begins.is ∙ map-append leaf_of few begins.rest in
    let P : ℕ → Type 0 = Contains (drop early (map leaf_of many)) in
    let all : All P (drop early (map leaf_of few ++ map leaf_of begins.rest)) = subst (λ (ls : List ℕ). All P (drop early ls)) leaves (All-contains_itself (drop early (map leaf_of many))) in
    rw (touched_from few late, touched_from many early) (law shape.top shape.low (drop late (map leaf_of few)) (drop early (map leaf_of many)) (all_part P early late (map leaf_of few) (map leaf_of begins.rest) h all))

-- what is bounded from a later state on is bounded from an earlier one
pub publish_work-later : MoreTouchedIsMoreWork → (old mid new : BoardContent) → IsHistory old.opening old.history → Stays old mid → publish_work mid new ≤ publish_work old new
publish_work-later law old mid new legal stays =
    let tip : (last_seen old).tip ≤ (last_seen mid).tip = (last_precedes old mid legal stays.legal stays.earlier).tip in
    rw stays.conf (part_work law old.conf.shape (edits_at (last_seen new)) (edits_at (last_seen new)) (last_seen old).tip (last_seen mid).tip (begins_itself (edits_at (last_seen new))) tip)

-- the work of the last state seen is part of that
pub build_work-part : MoreTouchedIsMoreWork → (old mid new : BoardContent) → IsHistory old.opening old.history → Stays old mid → GoesOn mid new → build_work (state_in mid (last_seen mid)) ≤ publish_work old new
build_work-part law old mid new legal stays on =
    let tip : (last_seen old).tip ≤ (last_seen mid).tip = (last_precedes old mid legal stays.legal stays.earlier).tip in
    let edits : Begins (edits_at (last_seen mid)) (edits_at (last_seen new)) = (last_precedes mid new stays.legal on.legal on.earlier).edits in
    rw stays.conf (part_work law old.conf.shape (edits_at (last_seen mid)) (edits_at (last_seen new)) (last_seen old).tip (last_seen mid).tip edits tip)

-- ---- results of publications

pub installed_tells : {E : Type 0} → (old mid new : BoardContent) (k : ℕ) (result : Result Published E) → Stays old mid → edit_count (last_seen old) ≤ k
    → IfOk result (λ published. published ≡ New k) → OnOk result (Happens (Publishes k) mid new) → IfOk result (TellsPublished old new)
installed_tells old mid new k (Ok published) stays all is happens =
    subst (TellsPublished old new) (sym is) (stays_happens (Publishes k) (Publishes k) old mid new stays (λ before after event. event) happens, all)
installed_tells old mid new k (Err error) stays all is happens = tt

pub result_later : {E : Type 0} → (old mid new : BoardContent) (result : Result Published E) → IsHistory old.opening old.history → Stays old mid → IfOk result (TellsPublished mid new) → IfOk result (TellsPublished old new)
result_later old mid new (Ok published) legal stays tells = published_later old mid new published legal stays tells
result_later old mid new (Err error) legal stays tells = tt

pub steps_later : {E : Type 0} → MoreTouchedIsMoreWork → (old mid new : BoardContent) (result : Result Published E) (steps steps' : ℕ) → IsHistory old.opening old.history → Stays old mid
    → OnOk result (steps' ≤ steps_after steps (publish_work mid new)) → OnOk result (steps' ≤ steps_after steps (publish_work old new))
steps_later law old mid new (Ok published) steps steps' legal stays bound =
    let less : publish_work mid new ≤ publish_work old new = publish_work-later law old mid new legal stays in
    let before : steps' ≤ min (steps + publish_work mid new) (2 ^ 64 - 1) = bound in
    omega arith
steps_later law old mid new (Err error) steps steps' legal stays bound = tt

pub steps_of_both : {E : Type 0} → MoreTouchedIsMoreWork → (old mid new : BoardContent) (result : Result Published E) (first second third : ℕ) → IsHistory old.opening old.history → Stays old mid
    → IfOk result (TellsPublished mid new) → second ≤ steps_after first (build_work (state_in mid (last_seen mid)))
    → OnOk result (third ≤ steps_after second (publish_work mid new)) → OnOk result (third ≤ steps_after first (2 * publish_work old new))
steps_of_both law old mid new (Ok published) first second third legal stays tells built bound =
    let less : publish_work mid new ≤ publish_work old new = publish_work-later law old mid new legal stays in
    let part : build_work (state_in mid (last_seen mid)) ≤ publish_work old new = build_work-part law old mid new legal stays (told_goes_on mid new published tells) in
    let one : second ≤ min (first + build_work (state_in mid (last_seen mid))) (2 ^ 64 - 1) = built in
    let two : third ≤ min (second + publish_work mid new) (2 ^ 64 - 1) = bound in
    omega arith
steps_of_both law old mid new (Err error) first second third legal stays tells built bound = tt
