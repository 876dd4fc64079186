-- What is true of the unread bytes, step after step.
use Rattle.std.proofs.Common.{◌≡◌, ◌+◌, ◌-◌, ◌≤◌, ◌++◌, [], ℕ, List, Option, Some, None, Result, Ok, Err, refl, sym, ap, ◌∙◌, subst, arith, length, append_assoc}
use Rattle.std.specs.Prelude.{IfSome, IsSome, IfOk, IfErr, OnOk, OnErr}
use Rattle.std.specs.Io.KnownBytes.{Consumes}
use Rattle.std.proofs.lemmas.List.{drop-append-le}
use Rattle.survey_link.specs.declared.source.Source as source
use Rattle.survey_link.specs.declared.sink.Sink as sink
use Rattle.http_frame.specs.Next.{IsHeadLength}
use Rattle.http_frame.proofs.Nexts.{head_length_of_more, text_of_more}
use Rattle.mirror_frame.specs.Reading.{unread, StopsReply}
use Rattle.mirror_frame.specs.Reply.{pinned_line, IsReply, IsWrongReply, IsCutReply}
use Rattle.mirror_frame.specs.Exchange.{Talk, BreaksOff, in_request, in_reply}
use Rattle.mirror_frame.specs.declared.ask.Ask.{Ask}
use Rattle.mirror_frame.specs.declared.due.Due.{Due}
use Rattle.mirror_frame.specs.declared.reading.ReplyStop.{ReplyStop}
use Rattle.mirror_frame.specs.declared.reading.ReplyStop.TheVariants as stop
use Rattle.hips_mirror.specs.Mirror.{TrueOf, RefusesReply}
use Rattle.hips_mirror.specs.Stages.{of_stop}

-- before these bytes came
pub true_before : (a b : Option (List ℕ)) (came : List ℕ) (P Q : List ℕ → Type 0) → Consumes a b came → ((x : List ℕ) → Q x → P (came ++ x)) → TrueOf b Q → TrueOf a P
true_before None None came P Q taken so q = (came ++ q.0, so q.0 q.1)
true_before None (Some y) came P Q taken so q = (came ++ y, so y q)
true_before (Some x) None came P Q taken so q = absurd taken
true_before (Some x) (Some y) came P Q taken so q = subst P (sym taken) (so y q)

pub true_so : (a : Option (List ℕ)) (P Q : List ℕ → Type 0) → ((x : List ℕ) → P x → Q x) → TrueOf a P → TrueOf a Q
true_so None P Q each p = (p.0, each p.0 p.1)
true_so (Some x) P Q each p = each x p

-- of all bytes
pub true_of_all : (a : Option (List ℕ)) (P : List ℕ → Type 0) → ((x : List ℕ) → P x) → TrueOf a P
true_of_all None P all = ([], all [])
true_of_all (Some x) P all = all x

pub true_unread : (held : List ℕ) (left : Option (List ℕ)) (P : List ℕ → Type 0) → TrueOf left (λ x. P (held ++ x)) → TrueOf (unread held left) P
true_unread held None P p = (held ++ p.0, p.1)
true_unread held (Some x) P p = p

-- a well-formed reply stands first in more bytes, too, and these follow it
pub reply_of_more : (due : Due) (bytes more body rest : List ℕ) → IsReply due bytes body rest → IsReply due (bytes ++ more) body (rest ++ more)
reply_of_more due bytes more body rest r =
    let n = r.head_length in
    let ends : IsHeadLength bytes n = r.begins.ends in
    let fits : n - 4 + 4 ≤ length bytes = ends.ends.fits in
    let least : 4 ≤ n = ends.least in
    record {
      head_length = n;
      prefix = r.prefix;
      begins = record { ends = head_length_of_more bytes more n ends; says = rw (text_of_more bytes more n ends) r.begins.says; fits = r.begins.fits };
      told = r.told;
      rest_is = drop-append-le n bytes more (omega (arith, fits, least)) ∙ ap (λ after. after ++ more) r.rest_is ∙ append_assoc body rest more;
    }

-- why a request has no reply
module _ {S K : Type 0} (told_source : source.Ghosts S) (told_sink : sink.Ghosts K) (ask : Ask) (due : Due) (old new : Talk S K) (n : ℕ) where
  pub wrong_came : BreaksOff told_source told_sink ask due old new stop.Wrong → (bytes : List ℕ) × IsWrongReply due (old.held ++ bytes)
  wrong_came (in_request is src part) = absurd cc
  wrong_came (in_reply asked came body rest sent read why) = (came, subst (λ held. IsWrongReply due (held ++ came)) sent.held why)

  pub cut_came : BreaksOff told_source told_sink ask due old new stop.Cut → (bytes : List ℕ) × IsCutReply due (old.held ++ bytes)
  cut_came (in_request is src part) = absurd cc
  cut_came (in_reply asked came body rest sent read why) = (came, subst (λ held. IsCutReply due (held ++ came)) sent.held why.0)

  pub stopped_of : (left : Option (List ℕ)) (why : ReplyStop) → BreaksOff told_source told_sink ask due old new why → IfSome (unread old.held left) (λ bytes. StopsReply due bytes why)
      → TrueOf left (λ bytes. RefusesReply due n (old.held ++ bytes) (of_stop why n))
  stopped_of None stop.Wrong off told = let came = wrong_came off in (came.0, (refl, came.1))
  stopped_of None stop.Cut off told = cut_came off
  stopped_of None stop.ReadFault off told = ([], tt)
  stopped_of None stop.WriteFault off told = ([], tt)
  stopped_of None stop.OutOfMemory off told = ([], tt)
  stopped_of (Some x) stop.Wrong off told = (refl, told)
  stopped_of (Some x) stop.Cut off told = told
  stopped_of (Some x) stop.ReadFault off told = tt
  stopped_of (Some x) stop.WriteFault off told = tt
  stopped_of (Some x) stop.OutOfMemory off told = tt

-- the body of the reply to the first request tells which state is held
pub pinned_body : (k : ℕ) (body : List ℕ) (prefix : Option ℕ) → Some k ≡ prefix → IsSome prefix × IfSome prefix (λ n. body ≡ pinned_line n) → body ≡ pinned_line k
pinned_body k body prefix is line = subst (λ o. IfSome o (λ n. body ≡ pinned_line n)) (sym is) line.1

-- what holds of a refusal holds of the one that was given
pub of_err : {T E : Type 0} (r : Result T E) (e : E) (P : E → Type 0) → r ≡ Err e → IfErr r P → P e
of_err r e P is holds = subst (λ q. IfErr q P) is holds

pub of_ok : {T E : Type 0} (r : Result T E) (t : T) (P : T → Type 0) → r ≡ Ok t → IfOk r P → P t
of_ok r t P is holds = subst (λ q. IfOk q P) is holds

pub given_ok : {T E : Type 0} (r : Result T E) (X : Type 0) → OnOk r X → IfOk r (λ _. X)
given_ok (Ok t) X x = x
given_ok (Err e) X x = tt

pub err_given : {T E : Type 0} (r : Result T E) (X : Type 0) → X → OnErr r X
err_given (Ok t) X x = tt
err_given (Err e) X x = x
