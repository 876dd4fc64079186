-- One request, from its parts.
use Rattle.std.proofs.Common.{◌≡◌, ◌⊎◌, inl, inr, ℕ, zero, suc, ◌+◌, ◌-◌, ◌<◌, ◌≤◌, ◌||◌, ◌==◌, Bool, true, false, List, [], ◌∷◌, ◌++◌, length, take, drop, Option, Some, None, Ok, Err, refl, sym, ap, ◌∙◌, subst, arith, append_assoc}
use Rattle.std.specs.Prelude.{◌≢◌, Result, IfSome, IsSomeAnd, if◌then◌else◌}
use Rattle.std.specs.Io.KnownBytes.{Appends, prepend_known}
use Rattle.std.proofs.lemmas.List.{take-append-drop}
use Rattle.survey_link.specs.Link.{AppendsPrefix, CountsFault}
use Rattle.survey_conf.specs.Description.{Description}
use Rattle.hips_http.specs.declared.call.Call.{Call}
use Rattle.hips_http.specs.Paths.{IsOfKind}
use Rattle.http_frame.specs.declared.request.Request.{Request}
use Rattle.http_frame.specs.declared.stop.FrameStop.{FrameStop}
use Rattle.http_frame.specs.declared.stop.FrameStop.TheVariants.{End, Cut, ReadFault, Refuse}
use Rattle.http_frame.specs.Fill.{read_failed}
use Rattle.http_frame.specs.declared.stop.Turn.TheVariants.{AtBody}
use Rattle.http_frame.specs.Frame.{FrameState, unread, StopsHead, StopsBody, KeepsUnread, LeavesBody, LeavesBodyAt, LeavesBodyOf}
use Rattle.http_frame.specs.Next.{IsFound, IsWhole, IsRefusedNext, IsCut}
use Rattle.http_frame.specs.Reply.{is_reply_code, continue_bytes}
use Rattle.hips_http.specs.declared.served.SessionEnd.{SessionEnd}
use Rattle.hips_http.specs.declared.served.SessionEnd.TheVariants as end
use Rattle.hips_http.specs.Replies.{Answer, leave_bytes, refusal_bytes}
use Rattle.hips_http.specs.declared.open_connection.OpenConnection.{OpenConnection}
use Rattle.hips_http.specs.Moment.{Input, Output, Moment, moment, unread_of, SameEnds}
use Rattle.hips_http.specs.SessionRun.{IsCutInput, room_of, most_requests, is_read_fault, is_write_fault, CountsFaults}
use Rattle.hips_http.specs.Progress.{EndsAt, EndsOne, Breaks, ReadsPart, body_end, TakesBody, LeavesNoBody, ReadsCall, Replied, Halts, Serves, Serving, IsServedOne, BreaksOne, StopsOne, LeavesPart, reply_of}
use Rattle.hips_http.proofs.Whole.{appends_nothing}
use Rattle.hips_http.proofs.Truncated.{found_front}

-- ---- what was written

pub appends_trans : (a b c : Option (List ℕ)) (x y : List ℕ) → Appends a b x → Appends b c y → Appends a c (x ++ y)
appends_trans None b c x y h k = tt
appends_trans (Some xs) None c x y h k = absurd h
appends_trans (Some xs) (Some ys) None x y h k = absurd k
appends_trans (Some xs) (Some ys) (Some zs) x y h k = k ∙ ap (λ (b : List ℕ). b ++ y) h ∙ append_assoc xs x y

pub appends_kept : (a b c : Option (List ℕ)) (x : List ℕ) → Appends a b x → c ≡ b → Appends a c x
appends_kept a b c x h same = subst (λ (o : Option (List ℕ)). Appends a o x) (sym same) h

pub appends_same : (a b : Option (List ℕ)) → b ≡ a → Appends a b []
appends_same a b same = appends_kept a a b [] (appends_nothing a) same

take_past : (n : ℕ) (xs bytes : List ℕ) → length xs ≤ n → take n (xs ++ bytes) ≡ xs ++ take (n - length xs) bytes
take_past n [] bytes h = let same : n - 0 ≡ n = omega arith in rw same refl
take_past zero (x ∷ xs) bytes h = absurd (omega arith)
take_past (suc n) (x ∷ xs) bytes h =
    let same : suc n - suc (length xs) ≡ n - length xs = omega arith in
    rw same (ap (λ (b : List ℕ). x ∷ b) (take_past n xs bytes (omega arith)))

pub breaks_of : (a b : Option (List ℕ)) (bytes : List ℕ) → AppendsPrefix a b bytes → Breaks a b bytes
breaks_of None b bytes h = record { part = []; left = bytes; begun_is = refl; appended = tt }
breaks_of (Some xs) None bytes h = absurd h
breaks_of (Some xs) (Some ys) bytes h =
    let n = length ys - length xs in
    record { part = take n bytes; left = drop n bytes; begun_is = sym (take-append-drop n bytes); appended = h.1 ∙ take_past (length ys) xs bytes h.0 }

pub breaks_after : (a b c : Option (List ℕ)) (x begun : List ℕ) → Appends a b x → Breaks b c begun → Breaks a c (x ++ begun)
breaks_after a b c x begun h k = record {
  part = x ++ k.part;
  left = k.left;
  begun_is = ap (λ (b : List ℕ). x ++ b) k.begun_is ∙ sym (append_assoc x k.part k.left);
  appended = appends_trans a b c x k.part h k.appended;
}

-- ---- what was read

pub if_some_map : (P Q : List ℕ → Type 0) (o : Option (List ℕ)) → ((x : List ℕ) → P x → Q x) → IfSome o P → IfSome o Q
if_some_map P Q None f h = tt
if_some_map P Q (Some x) f h = f x h

-- a head and then its body
pub whole_of : (room : ℕ) (o m n : Option (List ℕ)) (asked : Request) (path : Option (List ℕ)) (body : List ℕ) → IfSome o (λ all. IsSomeAnd m (λ rest. IsFound room all asked path rest))
    → IfSome m (λ after. IsSomeAnd n (λ rest. after ≡ body ++ rest)) → length body ≡ asked.length → IfSome o (λ all. IsSomeAnd n (λ more. IsWhole room all asked path body more))
whole_of room None m n asked path body head takes count = tt
whole_of room (Some all) None n asked path body head takes count = absurd head
whole_of room (Some all) (Some after) None asked path body head takes count = absurd takes
whole_of room (Some all) (Some after) (Some more) asked path body head takes count =
    record { after = after; head = head; body_length = count; body_is = takes }

-- what is held and what is left of the unread bytes
pub record Split (all held : List ℕ) (left : Option (List ℕ)) : Type 0 where
  pub rest : List ℕ
  pub left_is : left ≡ Some rest
  pub all_is : all ≡ held ++ rest

pub split_of : (all held : List ℕ) (left : Option (List ℕ)) → prepend_known held left ≡ Some all → Split all held left
split_of all held None is = absurd (cc)
split_of all held (Some rest) is = record { rest = rest; left_is = refl; all_is = (let e : held ++ rest ≡ all = cc in sym e) }

left_some : (P : List ℕ → Type 0) (left : Option (List ℕ)) (rest : List ℕ) → left ≡ Some rest → P rest → IsSomeAnd left P
left_some P left rest is h = rw is h

-- ---- codes of refusals

framing_code : (a b c d : Bool) (code : ℕ) → (if a then Some 400 else (if b then Some 501 else (if c then Some 411 else (if d then Some 413 else None)))) ≡ Some code → is_reply_code code ≡ true
framing_code true b c d code is = let e : 400 ≡ code = cc in subst (λ (n : ℕ). is_reply_code n ≡ true) e refl
framing_code false true c d code is = let e : 501 ≡ code = cc in subst (λ (n : ℕ). is_reply_code n ≡ true) e refl
framing_code false false true d code is = let e : 411 ≡ code = cc in subst (λ (n : ℕ). is_reply_code n ≡ true) e refl
framing_code false false false true code is = let e : 413 ≡ code = cc in subst (λ (n : ℕ). is_reply_code n ≡ true) e refl
framing_code false false false false code is = absurd (cc)

code_is : (n code : ℕ) → is_reply_code n ≡ true → code ≡ n → is_reply_code code ≡ true
code_is n code known is = rw is known

refused_code : (room : ℕ) (all : List ℕ) (code : ℕ) → IsRefusedNext room all code → is_reply_code code ≡ true
refused_code room all code (inl r) = code_is 431 code refl r.2
refused_code room all code (inr (n, h, inl r)) = code_is 505 code refl r.1
refused_code room all code (inr (n, h, inr (inl r))) = code_is 400 code refl r.2
refused_code room all code (inr (n, h, inr (inr r))) = framing_code _ _ _ _ code r.3

-- ---- where no request follows

begun_part : (room : ℕ) (held extra : List ℕ) → extra ≡ [] → (0 < length held → IsCut held) → ((held ≡ []) × (extra ≡ [])) ⊎ IsCutInput room held extra
begun_part room [] extra none cut = inl (refl, none)
begun_part room (b ∷ bs) extra none cut = inr (record { cut = inl (cut (omega arith), none) })

module _ (old new : FrameState) (left left' : Option (List ℕ)) (w w' : Option (List ℕ)) where
  pub head_ends : (stop : FrameStop) (ended : SessionEnd) → StopsHead old new left stop → KeepsUnread old new left left' → EndsAt stop w w' ended
      → IfSome (unread old left) (λ all. EndsOne ended old.room all left' w w')
  head_ends End ended why kept ends =
      rw ends.0 (if_some_map _ _ (unread old left) (λ all is. (is, appends_same w w' ends.1)) why)
  head_ends Cut ended why kept ends =
      rw ends.0 (if_some_map _ _ (unread old left) (λ all is. ([], record { cut = inl (is, refl) }, appends_same w w' ends.1)) why)
  head_ends ReadFault ended why kept ends =
      rw ends.0 (if_some_map _ _ (unread old left) (λ all is.
      let s = split_of all new.held left' is in
      left_some (λ rest. ReadsPart old.room all rest w w') left' s.rest s.left_is (record {
        read = new.held;
        all_is = s.all_is;
        extra = [];
        ends = begun_part old.room new.held [] refl (λ some. record { some = some; short = why.short; none = why.none });
        appended = appends_same w w' ends.1;
      })) kept)
  head_ends (Refuse code) ended why kept ends =
      if_some_map _ _ (unread old left) (λ all is. elim (ends (refused_code old.room all code is)) [
        | inl done ↦ rw done.0 (is, done.1)
        | inr broken ↦ rw broken.0 (refusal_bytes code, inl (record { code = code; refused = is; begun_is = refl }), breaks_of w w' (refusal_bytes code) broken.1)
      ]) why

-- the leave to send a body wasn't written
pub leave_breaks : (room : ℕ) (o m left : Option (List ℕ)) (asked : Request) (path : Option (List ℕ)) (w w' : Option (List ℕ)) → IfSome o (λ all. IsSomeAnd m (λ rest. IsFound room all asked path rest))
    → asked.expects ≡ true → AppendsPrefix w w' continue_bytes → IfSome o (λ all. EndsOne end.WriteFault room all left w w')
leave_breaks room None m left asked path w w' head waits part = tt
leave_breaks room (Some all) None left asked path w w' head waits part = absurd head
leave_breaks room (Some all) (Some after) left asked path w w' head waits part =
    (continue_bytes, inr (record { asked = asked; path = path; after = after; head = head; waits = waits; begun_is = refl }), breaks_of w w' continue_bytes part)

-- the body isn't whole
module _ (room : ℕ) (asked : Request) (path : Option (List ℕ)) (mid new : FrameState) (left left' : Option (List ℕ)) (w w' : Option (List ℕ)) where
  pub body_ends : (o : Option (List ℕ)) (m : Option (List ℕ)) → m ≡ unread mid left → IfSome o (λ all. IsSomeAnd m (λ rest. IsFound room all asked path rest)) → (stop : FrameStop)
      → StopsBody asked.length mid new left stop → KeepsUnread mid new left left' → Appends w w' (leave_bytes asked)
      → IfSome o (λ all. EndsOne (body_end stop) room all left' w w')
  body_ends None m same head stop why kept sent = tt
  body_ends (Some all) None same head stop why kept sent = absurd head
  body_ends (Some all) (Some after) same head Cut why kept sent =
      let short : length after < asked.length = rw (← same) at why in
      (leave_bytes asked, record { cut = inr (record { asked = asked; path = path; after = after; head = head; short = short }, refl) }, sent)
  body_ends (Some all) (Some after) same head ReadFault why kept sent =
      let is : unread new left' ≡ Some after = rw (← same) at kept in
      let s = split_of after new.held left' is in
      let f = found_front room all asked path new.held s.rest (subst (λ (b : List ℕ). IsFound room all asked path b) s.all_is head) in
      left_some (λ rest. ReadsPart room all rest w w') left' s.rest s.left_is (record {
        read = f.front;
        all_is = f.all_is;
        extra = leave_bytes asked;
        ends = inr (record { cut = inr (record { asked = asked; path = path; after = new.held; head = f.holds; short = why }, refl) });
        appended = sent;
      })
  body_ends (Some all) (Some after) same head End why kept sent = absurd why
  body_ends (Some all) (Some after) same head (Refuse code) why kept sent = absurd why

-- an end is a failed writing or another
pub write_failed : (ended : SessionEnd) → (ended ≡ end.WriteFault) ⊎ (¬ (ended ≡ end.WriteFault))
write_failed end.Closed = inr (λ h. cc)
write_failed end.Asked = inr (λ h. cc)
write_failed (end.Refused code) = inr (λ h. cc)
write_failed end.Cut = inr (λ h. cc)
write_failed end.Spent = inr (λ h. cc)
write_failed end.ReadFault = inr (λ h. cc)
write_failed end.WriteFault = inl refl
write_failed end.OutOfMemory = inr (λ h. cc)

-- ---- what the source has left

some_split : (all held : List ℕ) (left : Option (List ℕ)) (front : List ℕ) (after : List ℕ) → all ≡ front ++ after → prepend_known held left ≡ Some after → LeavesPart all left
some_split all held left front after is known =
    let s = split_of after held left known in
    record { gone = front ++ held; rest = s.rest; left_is = s.left_is; all_is = is ∙ ap (λ (b : List ℕ). front ++ b) s.all_is ∙ sym (append_assoc front held s.rest) }

pub kept_part : (old new : FrameState) (l0 l1 : Option (List ℕ)) → KeepsUnread old new l0 l1 → IfSome (unread old l0) (λ all. LeavesPart all l1)
kept_part old new l0 l1 kept = if_some_map _ _ (unread old l0) (λ all is. some_split all new.held l1 [] all refl is) kept

found_rest : (room : ℕ) (all : List ℕ) (asked : Request) (path : Option (List ℕ)) (after : List ℕ) (f : IsFound room all asked path after) → all ≡ take f.head_length all ++ after
found_rest room all asked path after f = sym (take-append-drop f.head_length all) ∙ ap (λ (b : List ℕ). take f.head_length all ++ b) (sym f.rest_is)

part_by_head : (room : ℕ) (o m : Option (List ℕ)) (asked : Request) (path : Option (List ℕ)) (held : List ℕ) (left : Option (List ℕ)) → m ≡ prepend_known held left
    → IfSome o (λ all. IsSomeAnd m (λ rest. IsFound room all asked path rest)) → IfSome o (λ all. LeavesPart all left)
part_by_head room None m asked path held left same head = tt
part_by_head room (Some all) None asked path held left same head = absurd head
part_by_head room (Some all) (Some after) asked path held left same head = some_split all held left (take head.head_length all) after (found_rest room all asked path after head) (sym same)

part_by_body : (room : ℕ) (o m n : Option (List ℕ)) (asked : Request) (path : Option (List ℕ)) (body held : List ℕ) (left : Option (List ℕ)) → n ≡ prepend_known held left
    → IfSome o (λ all. IsSomeAnd m (λ rest. IsFound room all asked path rest)) → IfSome m (λ after. IsSomeAnd n (λ rest. after ≡ body ++ rest)) → IfSome o (λ all. LeavesPart all left)
part_by_body room None m n asked path body held left same head takes = tt
part_by_body room (Some all) None n asked path body held left same head takes = absurd head
part_by_body room (Some all) (Some after) None asked path body held left same head takes = absurd takes
part_by_body room (Some all) (Some after) (Some rest) asked path body held left same head takes =
    some_split all held left (take head.head_length all ++ body) rest
    (found_rest room all asked path after head ∙ ap (λ (b : List ℕ). take head.head_length all ++ b) takes ∙ sym (append_assoc (take head.head_length all) body rest)) (sym same)

part_by_kept : (room : ℕ) (o m : Option (List ℕ)) (asked : Request) (path : Option (List ℕ)) (held : List ℕ) (left : Option (List ℕ))
    → IfSome o (λ all. IsSomeAnd m (λ rest. IsFound room all asked path rest)) → IfSome m (λ after. prepend_known held left ≡ Some after) → IfSome o (λ all. LeavesPart all left)
part_by_kept room None m asked path held left head kept = tt
part_by_kept room (Some all) None asked path held left head kept = absurd head
part_by_kept room (Some all) (Some after) asked path held left head kept = some_split all held left (take head.head_length all) after (found_rest room all asked path after head) kept

pub head_part : (top : ℕ) (old new : Input) (asked : Request) (wanted : Call) → ReadsCall top old new asked wanted → IfSome (unread_of old) (λ all. LeavesPart all new.left)
head_part top old new asked wanted read = part_by_head old.frame.room (unread_of old) (unread_of new) asked new.frame.path new.frame.held new.left refl read.head.next

-- ---- the counts of faults

-- nothing failed before
pub faults_from : (ended : SessionEnd) (first old new first' old' new' : ℕ) → old ≡ first → old' ≡ first' → CountsFaults ended old new old' new' → CountsFaults ended first new first' new'
faults_from ended first old new first' old' new' source sink f = record {
  read = subst (λ (n : ℕ). CountsFault (is_read_fault ended) n new) source f.read;
  write = subst (λ (n : ℕ). CountsFault (is_write_fault ended) n new') sink f.write;
}

-- no head or no body was read, and nothing else failed
pub stop_counts : (stop : FrameStop) (source source' sink : ℕ) → CountsFault (read_failed {T = Unit {0}} (Err stop)) source source'
    → CountsFaults (body_end stop) source source' sink sink × (body_end stop ≢ end.OutOfMemory)
stop_counts End source source' sink counts = (record { read = counts; write = refl }, λ is. cc)
stop_counts Cut source source' sink counts = (record { read = counts; write = refl }, λ is. cc)
stop_counts ReadFault source source' sink counts = (record { read = counts; write = refl }, λ is. cc)
stop_counts (Refuse code) source source' sink counts = (record { read = counts; write = refl }, λ is. cc)

-- ---- the parts together: `old` is the moment before, `input` and `output` are those after the head and the leave, and `new` is
-- the moment after the reply

module _ (count top : ℕ) (old : Moment) (input : Input) (output : Output) (asked : Request) (wanted : Call) (room_is : old.input.frame.room ≡ room_of old.board.conf)
    (read : ReadsCall top old.input input asked wanted) where
  -- the leave wasn't written
  pub leave_stops : asked.expects ≡ true → AppendsPrefix old.output.held output.held continue_bytes
      → StopsOne count old (moment input output old.board old.steps old.memory_faults) end.WriteFault
  leave_stops waits part = record {
    how = inr (
      record { board = refl; steps_are = refl; wants_are = refl },
      subst (λ (n : ℕ). IfSome (unread_of old.input) (λ all. EndsOne end.WriteFault n all input.left old.output.held output.held)) room_is
          (leave_breaks old.input.frame.room (unread_of old.input) (unread_of input) input.left asked input.frame.path old.output.held output.held read.head.next waits part),
    );
  }

  module _ (new : Moment) (leave : Appends old.output.held output.held (leave_bytes asked)) where
    module _ (top_is : top ≡ old.board.conf.shape.top) (close : Bool) (close_is : close ≡ (asked.close || (count + 1 == most_requests)))
        (answer : Answer) (r : Replied asked wanted (moment input output old.board old.steps old.memory_faults) new answer) where
      serving_of : Serving old new (record { asked = asked; path = input.frame.path; body = r.body }) answer
      serving_of = record {
        kind = read.kind;
        of_kind = subst (λ (t : ℕ). IsOfKind t input.frame.path read.kind) (top_is ∙ ap (λ (c : Description). c.shape.top) (sym r.serves.conf)) read.of_kind;
        whole = subst (λ (n : ℕ). IfSome (unread_of old.input) (λ all. IsSomeAnd (unread_of new.input) (λ more. IsWhole n all asked input.frame.path r.body more))) (room_is ∙ ap room_of (sym r.serves.conf))
            (whole_of old.input.frame.room (unread_of old.input) (unread_of input) (unread_of new.input) asked input.frame.path r.body read.head.next r.takes.bytes r.takes.count_is);
        serves = subst (λ (w : Call). Serves (record { asked = asked; path = input.frame.path; body = r.body }) w old.board new.board old.steps new.steps answer) read.call_is r.serves;
      }

      pub served_one : Appends output.held new.output.held (reply_of close asked answer) → IsServedOne count old new asked.close
      served_one sent = record {
        request = record { asked = asked; path = input.frame.path; body = r.body };
        answer = answer;
        serving = serving_of;
        sent = subst (λ (b : Bool). Appends old.output.held new.output.held (leave_bytes asked ++ reply_of b asked answer)) close_is
            (appends_trans old.output.held output.held new.output.held (leave_bytes asked) (reply_of close asked answer) leave sent);
        memory_faults_is = r.memory_faults_is;
        closed_is = refl;
      }

      pub breaks_one : AppendsPrefix output.held new.output.held (reply_of close asked answer) → BreaksOne count old new
      breaks_one part = record {
        request = record { asked = asked; path = input.frame.path; body = r.body };
        answer = answer;
        serving = serving_of;
        broken = subst (λ (b : Bool). Breaks old.output.held new.output.held (leave_bytes asked ++ reply_of b asked answer)) close_is
            (breaks_after old.output.held output.held new.output.held (leave_bytes asked) (reply_of close asked answer) leave (breaks_of output.held new.output.held (reply_of close asked answer) part));
        memory_faults_is = r.memory_faults_is;
      }

      -- what the source has left
      pub replied_part : IfSome (unread_of old.input) (λ all. LeavesPart all new.input.left)
      replied_part =
          part_by_body old.input.frame.room (unread_of old.input) (unread_of input) (unread_of new.input) asked input.frame.path r.body new.input.frame.held new.input.left refl read.head.next r.takes.bytes

    -- the body isn't whole
    module _ (ended : SessionEnd) (h : Halts asked (moment input output old.board old.steps old.memory_faults) new ended) where
      pub halts_one : StopsOne count old new ended
      halts_one =
          let ends : IfSome (unread_of old.input) (λ all. EndsOne (body_end h.stop) old.input.frame.room all new.input.left old.output.held new.output.held) =
          body_ends old.input.frame.room asked input.frame.path input.frame new.input.frame input.left new.input.left old.output.held new.output.held
          (unread_of old.input) (unread_of input) refl read.head.next h.stop h.leaves.why h.leaves.kept (appends_kept old.output.held output.held new.output.held (leave_bytes asked) leave h.written_is) in
          let room : IfSome (unread_of old.input) (λ all. EndsOne (body_end h.stop) (room_of old.board.conf) all new.input.left old.output.held new.output.held)
          = subst (λ (n : ℕ). IfSome (unread_of old.input) (λ all. EndsOne (body_end h.stop) n all new.input.left old.output.held new.output.held)) room_is ends in
          record {
            how = inr (
              record { board = h.untouched.board; steps_are = h.untouched.steps_are; wants_are = h.untouched.wants_are },
              subst (λ (e : SessionEnd). IfSome (unread_of old.input) (λ all. EndsOne e (room_of old.board.conf) all new.input.left old.output.held new.output.held)) (sym h.end_is) room,
            );
          }

      pub halted_part : IfSome (unread_of old.input) (λ all. LeavesPart all new.input.left)
      halted_part = part_by_kept old.input.frame.room (unread_of old.input) (unread_of input) asked input.frame.path new.input.frame.held new.input.left read.head.next h.leaves.kept

-- no head was read
pub head_stops : (count : ℕ) (old : Moment) (input : Input) (output : Output) (stop : FrameStop) (ended : SessionEnd)
    → old.input.frame.room ≡ room_of old.board.conf → StopsHead old.input.frame input.frame old.input.left stop
    → KeepsUnread old.input.frame input.frame old.input.left input.left → EndsAt stop old.output.held output.held ended
    → StopsOne count old (moment input output old.board old.steps old.memory_faults) ended
head_stops count old input output stop ended room_is why kept ends = record {
  how = inr (
    record { board = refl; steps_are = refl; wants_are = refl },
    subst (λ (n : ℕ). IfSome (unread_of old.input) (λ all. EndsOne ended n all input.left old.output.held output.held)) room_is
        (head_ends old.input.frame input.frame old.input.left input.left old.output.held output.held stop ended why kept ends),
  );
}

-- where a frame that was asked for a body of n bytes is: the body was taken, or it stopped
at_body : (n : ℕ) (old new : Input) (result : Result (List ℕ) FrameStop) → old.frame.turn ≡ AtBody n → LeavesBody old.frame new.frame old.left new.left result
    → LeavesBodyOf n old.frame new.frame old.left new.left result
at_body n old new result at leaves = subst (λ turn. LeavesBodyAt turn old.frame new.frame old.left new.left result) at leaves.turn

pub takes_body : (n : ℕ) (old new : Input) (body : List ℕ) → old.frame.turn ≡ AtBody n → LeavesBody old.frame new.frame old.left new.left (Ok body) → length body ≡ n → TakesBody n old new body
takes_body n old new body at leaves long =
    let of = at_body n old new (Ok body) at leaves in
    record { bytes = of.read; count_is = long; turn = of.turn }

pub leaves_no_body : (n : ℕ) (old new : Input) (stop : FrameStop) → old.frame.turn ≡ AtBody n → LeavesBody old.frame new.frame old.left new.left (Err stop) → LeavesNoBody n old new stop
leaves_no_body n old new stop at leaves =
    let of = at_body n old new (Err stop) at leaves in
    record { why = of.stop; kept = of.stopped.kept }

-- no body ends a connection by a failed writing
pub body_reads : (stop : FrameStop) → body_end stop ≡ end.WriteFault → ⊥
body_reads End is = cc
body_reads Cut is = cc
body_reads ReadFault is = cc
body_reads (Refuse code) is = cc

-- ---- the ends

pub same_ends : {B S K : Type 0} (a b c : OpenConnection B S K) → SameEnds a b → SameEnds b c → SameEnds a c
same_ends a b c h k = record { frame = k.frame ∙ h.frame; board = k.board ∙ h.board; src = k.src ∙ h.src; sink = k.sink ∙ h.sink; steps = k.steps ∙ h.steps }
