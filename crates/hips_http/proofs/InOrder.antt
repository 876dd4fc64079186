-- In which order a connection is read and answered.
use Rattle.std.proofs.Common.{◌≡◌, ℕ, ◌+◌, ◌<◌, ◌≤◌, List, [], ◌++◌, length, take, drop, Option, Some, None, refl, sym, ap, subst, ◌∙◌, arith, append_assoc, length-append}
use Rattle.std.specs.Prelude.{IfSome, IsSome}
use Rattle.std.specs.List.{concat}
use Rattle.std.proofs.lemmas.Bool.{true≢false}
use Rattle.std.proofs.lemmas.List.{take-append-drop, take-append-le}
use Rattle.std.proofs.lemmas.List.Folds.{concat-append}
use Rattle.survey_link.specs.Door.{Connection}
use Rattle.survey_link.specs.declared.source.Source as source
use Rattle.survey_link.specs.declared.sink.Sink as sink
use Rattle.reader_pin.specs.Board.{BoardContent, holding_none}
use Rattle.hips_http.specs.declared.served.Served.{Served}
use Rattle.hips_http.specs.declared.served.SessionEnd.{SessionEnd}
use Rattle.hips_http.specs.Moment.{Moment, connection_of, ReadsWhere}
use Rattle.hips_http.specs.SessionRun.{room_of, IsServed}
use Rattle.hips_http.specs.Progress.{IsServedTo}
use Rattle.hips_http.specs.Readings.{NeedsNext, FollowsReplies}
use Rattle.http_frame.proofs.ReadLemmas.{reads_for, reads_none}
use Rattle.hips_http.proofs.ReadRequests.{NeedsAmong}

-- so many replies are the first outputs, and were flushed
pub record FlushesReplies (count : ℕ) (outputs : List (List ℕ)) (flushed : List ℕ) : Type 0 where
  pub replies : List (List ℕ)
  pub count_is : length replies ≡ count
  pub later : List (List ℕ)
  pub outputs_are : outputs ≡ replies ++ later
  pub more : List ℕ
  pub flushed_is : flushed ≡ concat replies ++ more

front_flushed : (n : ℕ) (replies later : List (List ℕ)) (more : List ℕ) → n ≤ length replies
    → concat replies ++ more ≡ concat (take n (replies ++ later)) ++ (concat (drop n replies) ++ more)
front_flushed n replies later more within =
    ap (λ (all : List (List ℕ)). concat all ++ more) (sym (take-append-drop n replies))
    ∙ ap (λ (bytes : List ℕ). bytes ++ more) (concat-append (take n replies) (drop n replies))
    ∙ append_assoc (concat (take n replies)) (concat (drop n replies)) more
    ∙ ap (λ (front : List (List ℕ)). concat front ++ (concat (drop n replies) ++ more)) (sym (take-append-le n replies later within))

-- what was needed after fewer requests came after their replies
pub follows_replies : (room count : ℕ) (outputs : List (List ℕ)) (flushed came : List ℕ) → FlushesReplies count outputs flushed → (needed : NeedsNext room came) → length needed.requests < count + 1
    → FollowsReplies room outputs flushed came
follows_replies room count outputs flushed came f needed fewer =
    let n = length needed.requests in
    let count_is : length f.replies ≡ count = f.count_is in
    let within : n ≤ length f.replies = omega arith in
    record {
      next = needed;
      answered = omega (arith, ap length f.outputs_are, length-append f.replies f.later);
      more = concat (drop n f.replies) ++ f.more;
      flushed_is = f.flushed_is ∙ front_flushed n f.replies f.later f.more within ∙ ap (λ (all : List (List ℕ)). concat (take n all) ++ (concat (drop n f.replies) ++ f.more)) (sym f.outputs_are);
    }

-- a connection is served, with so many replies flushed
pub record ServedAfter (count : ℕ) (first last : Moment) (end : SessionEnd) (input : List ℕ) : Type 0 where
  pub served : IsServedTo first last end input
  pub replies : FlushesReplies count served.run.outputs served.passed

-- where it was read only for requests among these, each reading came after the replies to the requests before
pub in_order : {S : Type 0} (told : source.Ghosts S) (room count : ℕ) (first last : Moment) (end : SessionEnd) (a b : S) (left : Option (List ℕ)) → IfSome left (ServedAfter count first last end)
    → (IsSome left → ReadsWhere told (NeedsAmong room (count + 1)) [] a b)
    → IfSome left (λ input. (served : IsServedTo first last end input) × ReadsWhere told (FollowsReplies room served.run.outputs served.passed) [] a b)
in_order told room count first last end a b None after read = tt
in_order told room count first last end a b (Some input) after read =
    let some = read refl in (
      after.served,
      (
        some.0,
        reads_for told.left told.readings (NeedsAmong room (count + 1)) (FollowsReplies room after.served.run.outputs after.served.passed) [] [] some.0
            (λ more needed. follows_replies room count after.served.run.outputs after.served.passed more after.replies needed.next needed.fewer) a b some.1,
      ),
    )

-- ---- at the surface: what the board held before is of no matter

pub order_from : {S : Type 0} (told : source.Ghosts S) (old released new : BoardContent) (unread : Option (List ℕ)) (taken back : Connection) (steps steps' : ℕ) (served : Served) (a b : S)
    → released ≡ holding_none old
    → IfSome unread (λ input. (s : IsServed released new input taken back steps steps' served) × ReadsWhere told (FollowsReplies (room_of released.conf) s.run.outputs s.passed) [] a b)
    → IfSome unread (λ input. (s : IsServed old new input taken back steps steps' served) × ReadsWhere told (FollowsReplies (room_of old.conf) s.run.outputs s.passed) [] a b)
order_from told old released new None taken back steps steps' served a b is h = tt
order_from {S} told old released new (Some input) taken back steps steps' served a b is h =
    let r = subst (λ (board : BoardContent). (s : IsServed board new input taken back steps steps' served) × ReadsWhere told (FollowsReplies (room_of board.conf) s.run.outputs s.passed) [] a b) is h in
    let s = r.0 in (
      record {
        read = s.read;
        rest = s.rest;
        out = s.out;
        own = s.own;
        input_is = s.input_is;
        left_is = s.left_is;
        appended = s.appended;
        passed = s.passed;
        passed_is = s.passed_is;
        own_is = s.own_is;
        run = s.run;
        steps_are = s.steps_are;
      },
      r.1,
    )

pub served_from : {S : Type 0} (told : source.Ghosts S) (old released new : BoardContent) (unread : Option (List ℕ)) (taken back : Connection) (steps steps' : ℕ) (served : Served) (a b : S)
    → released ≡ holding_none old
    → IfSome unread (λ input. (s : IsServed released new input taken back steps steps' served) × ReadsWhere told (FollowsReplies (room_of released.conf) s.run.outputs s.passed) [] a b)
    → IfSome unread (λ input. IsServed old new input taken back steps steps' served)
served_from told old released new None taken back steps steps' served a b is h = tt
served_from told old released new (Some input) taken back steps steps' served a b is h = (order_from told old released new (Some input) taken back steps steps' served a b is h).0

pub reads_from : {S : Type 0} (told : source.Ghosts S) (old released new : BoardContent) (unread : Option (List ℕ)) (taken back : Connection) (steps steps' : ℕ) (served : Served) (a b : S)
    → released ≡ holding_none old
    → IfSome unread (λ input. (s : IsServed released new input taken back steps steps' served) × ReadsWhere told (FollowsReplies (room_of released.conf) s.run.outputs s.passed) [] a b)
    → IsSome unread → ReadsWhere told (NeedsNext (room_of old.conf)) [] a b
reads_from told old released new None taken back steps steps' served a b is h some = absurd (true≢false (sym some))
reads_from told old released new (Some input) taken back steps steps' served a b is h some =
    let o = order_from told old released new (Some input) taken back steps steps' served a b is h in
    let r = o.1 in
    (r.0, reads_for told.left told.readings (FollowsReplies (room_of old.conf) o.0.run.outputs o.0.passed) (NeedsNext (room_of old.conf)) [] [] r.0 (λ more needed. needed.next) a b r.1)

-- so served, with these ends given back
abbrev pub Ordered : {B S K : Type 0} → source.Ghosts S → sink.Ghosts K → (B → BoardContent) → BoardContent → Option (List ℕ) → Connection → ℕ → Served → S → B → S → K → ℕ → Type 0
Ordered told told_sink content old unread taken steps served a board src out steps' =
    IfSome unread (λ input. (s : IsServed old (content board) input taken (connection_of told told_sink src out) steps steps' served) × ReadsWhere told (FollowsReplies (room_of old.conf) s.run.outputs s.passed) [] a src)

-- it is so of the same ends
pub order_at : {B S K : Type 0} (told : source.Ghosts S) (told_sink : sink.Ghosts K) (content : B → BoardContent) (old : BoardContent) (unread : Option (List ℕ)) (taken : Connection) (steps : ℕ) (served : Served) (a : S)
    (board board' : B) (src src' : S) (out out' : K) (count count' : ℕ) → board ≡ board' → src ≡ src' → out ≡ out' → count ≡ count'
    → Ordered told told_sink content old unread taken steps served a board src out count → Ordered told told_sink content old unread taken steps served a board' src' out' count'
order_at {B} {S} {K} told told_sink content old unread taken steps served a board board' src src' out out' count count' b s o n h =
    subst (λ (x : B). Ordered told told_sink content old unread taken steps served a x src' out' count') b
    (subst (λ (x : S). Ordered told told_sink content old unread taken steps served a board x out' count') s
    (subst (λ (x : K). Ordered told told_sink content old unread taken steps served a board src x count') o (subst (λ (x : ℕ). Ordered told told_sink content old unread taken steps served a board src out x) n h)))

-- without a frame nothing is read
pub no_order : {S : Type 0} (told : source.Ghosts S) (old new : BoardContent) (unread : Option (List ℕ)) (connection : Connection) (steps : ℕ) (served : Served) (a : S)
    → IfSome unread (λ input. IsServed old new input connection connection steps steps served)
    → IfSome unread (λ input. (s : IsServed old new input connection connection steps steps served) × ReadsWhere told (FollowsReplies (room_of old.conf) s.run.outputs s.passed) [] a a)
no_order told old new None connection steps served a h = tt
no_order told old new (Some input) connection steps served a h =
    (h, ([], reads_none told.left told.readings (FollowsReplies (room_of old.conf) h.run.outputs h.passed) [] a))
