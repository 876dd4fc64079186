-- A reply that stands first in the bytes that are held and those that came.
use Rattle.std.proofs.Common.{◌≡◌, ℕ, ◌+◌, ◌-◌, ◌<◌, ◌≤◌, inl, inr, List, [], ◌++◌, length, take, drop, Option, Some, None, sym, ap, ◌∙◌, subst, arith, append_assoc, length-append}
use Rattle.std.specs.Prelude.{IfSome, Result, Ok, Err, IfOk, IfErr, OnOk}
use Rattle.std.proofs.lemmas.List.{take-append-le, drop-append-le, append-nil, take_all}
use Rattle.std.specs.Io.KnownBytes.{Consumes}
use Rattle.http_frame.specs.Next.{head_end, most_head, IsHeadLength, HasNoHead, NeedsMore}
use Rattle.http_frame.proofs.Fills.{occurs_in_front}
use Rattle.http_frame.proofs.Nexts.{head_length_of_more, text_of_more}
use Rattle.http_frame.specs.Fill.{StopsFill}
use Rattle.http_frame.specs.declared.stop.FrameStop.{FrameStop}
use Rattle.http_frame.specs.declared.stop.FrameStop.TheVariants as stopped
use Rattle.http_frame.specs.Frame.{IsShort}
use Rattle.http_frame.specs.Readings.{ReadsWhile}
use Rattle.http_frame.proofs.ReadLemmas.{reads_for, reads_gave, reads_then}
use Rattle.mirror_frame.specs.Reply.{BeginsReply, IsReply, IsCutReply, IsWrongReply, FitsPrefix, FitsBody}
use Rattle.mirror_frame.specs.Reading.{StopsBegin, StopsReply, ReadsReply, TellsPinned, unread, of_stopped}
use Rattle.mirror_frame.specs.Peer.{Told}
use Rattle.mirror_frame.specs.declared.due.Due.{Due}
use Rattle.mirror_frame.specs.declared.reading.ReplyStop.{ReplyStop}
use Rattle.mirror_frame.specs.declared.reading.ReplyStop.TheVariants.{Wrong, Cut, ReadFault, WriteFault, OutOfMemory}

-- ---- more bytes behind

head_fits : (bytes : List ℕ) (n : ℕ) → IsHeadLength bytes n → n ≤ length bytes
head_fits bytes n h =
    let fits : n - 4 + 4 ≤ length bytes = h.ends.fits in
    let least : 4 ≤ n = h.least in
    omega (arith, fits, least)

begins_of_more : (due : Due) (bytes more : List ℕ) (n size : ℕ) (prefix : Option ℕ) → BeginsReply due bytes n size prefix → BeginsReply due (bytes ++ more) n size prefix
begins_of_more due bytes more n size prefix b = record {
  ends = head_length_of_more bytes more n b.ends;
  says = rw (text_of_more bytes more n b.ends) b.says;
  fits = b.fits;
}

-- a head that isn't in form isn't either where its text is the same
begins_before : (due : Due) (bytes more : List ℕ) (n size : ℕ) (prefix : Option ℕ) → IsHeadLength bytes n → BeginsReply due (bytes ++ more) n size prefix → BeginsReply due bytes n size prefix
begins_before due bytes more n size prefix h b = record {
  ends = h;
  says = rw (text_of_more bytes more n h) at b.says;
  fits = b.fits;
}

no_head_of_more : (bytes more : List ℕ) → HasNoHead bytes → most_head ≤ length bytes → HasNoHead (bytes ++ more)
no_head_of_more bytes more none long = λ k low high there. none k low high (occurs_in_front bytes more head_end k (omega (arith, long, high)) there)

wrong_of_more : (due : Due) (bytes more : List ℕ) → IsWrongReply due bytes → IsWrongReply due (bytes ++ more)
wrong_of_more due bytes more (inl endless) = inl (no_head_of_more bytes more endless.0 endless.1, omega (arith, endless.1, length-append bytes more))
wrong_of_more due bytes more (inr (inl head)) =
    inr (inl (head.0, head_length_of_more bytes more head.0 head.1, λ size prefix b. head.2 size prefix (begins_before due bytes more head.0 size prefix head.1 b)))
wrong_of_more due bytes more (inr (inr body)) =
    let n = body.head_length in
    let after : drop n (bytes ++ more) ≡ drop n bytes ++ more = drop-append-le n bytes more (head_fits bytes n body.begins.ends) in
    inr (inr (record {
      head_length = n;
      body_length = body.body_length;
      prefix = body.prefix;
      begins = begins_of_more due bytes more n body.body_length body.prefix body.begins;
      whole = omega (arith, body.whole, ap length after, length-append (drop n bytes) more);
      wrong = rw (after, take-append-le body.body_length (drop n bytes) more body.whole) body.wrong;
    }))

-- a reply in form stands first in more bytes, and these follow it
reply_of_more : (due : Due) (bytes more body rest : List ℕ) → IsReply due bytes body rest → IsReply due (bytes ++ more) body (rest ++ more)
reply_of_more due bytes more body rest r = record {
  head_length = r.head_length;
  prefix = r.prefix;
  begins = begins_of_more due bytes more r.head_length (length body) r.prefix r.begins;
  told = r.told;
  rest_is = drop-append-le r.head_length bytes more (head_fits bytes r.head_length r.begins.ends) ∙ ap (λ after. after ++ more) r.rest_is ∙ append_assoc body rest more;
}

-- ---- the bytes that are held, and those that came behind a head

module _ (due : Due) (held came : List ℕ) (n size : ℕ) (prefix : Option ℕ) (begins : BeginsReply due held n size prefix) where
  begins_here : BeginsReply due (held ++ came) n size prefix
  begins_here = begins_of_more due held came n size prefix begins

  behind : drop n (held ++ came) ≡ drop n held ++ came
  behind = drop-append-le n held came (head_fits held n begins.ends)

  pub cut_reply : length (drop n held ++ came) < size → IsCutReply due (held ++ came)
  cut_reply short = inr (record { head_length = n; body_length = size; prefix = prefix; begins = begins_here; short = rw behind short })

  module _ (body rest : List ℕ) (size_is : length body ≡ size) (is : body ++ rest ≡ drop n held ++ came) where
    whole_reply : FitsBody due prefix body → IsReply due (held ++ came) body rest
    whole_reply told = record { head_length = n; prefix = prefix; begins = rw size_is begins_here; told = told; rest_is = behind ∙ sym is }

    front : take size (drop n (held ++ came)) ≡ body
    front =
        ap (take size) (behind ∙ sym is) ∙ take-append-le size body rest (omega (arith, size_is)) ∙ take_all size body (omega (arith, size_is))

    wrong_reply : ¬ FitsBody due prefix body → IsWrongReply due (held ++ came)
    wrong_reply wrong = inr (inr (record {
      head_length = n;
      body_length = size;
      prefix = prefix;
      begins = begins_here;
      whole = omega (arith, ap length (behind ∙ sym is), length-append body rest, size_is);
      wrong = rw front wrong;
    }))

    -- a reply whose body was judged
    pub judged : (left : Option (List ℕ)) (r : Result (Option ℕ) ReplyStop) → IfOk r (λ p. (p ≡ prefix) × FitsBody due prefix body)
        → IfErr r (λ stop. (stop ≡ Wrong) × ¬ FitsBody due prefix body) → ReadsReply due (held ++ came) body rest left r
    judged left (Ok p) told wrong = (
      whole_reply told.1,
      rw told.0 begins.fits,
      λ pinned. rw told.0 (subst (λ d. FitsPrefix d prefix) pinned begins.fits, subst (λ d. FitsBody d prefix body) pinned told.1),
    )
    judged left (Err stop) told wrong = rw wrong.0 (wrong_reply wrong.1)

-- readings while a body is short are readings while the reply is cut
pub cut_while : {S : Type 0} (left : S → Option (List ℕ)) (readings : S → Option ℕ) (due : Due) (held : List ℕ) (n size : ℕ) (prefix : Option ℕ) → BeginsReply due held n size prefix
    → (rest : List ℕ) → rest ≡ drop n held → (count : ℕ) → count ≡ size → (a b : S) (came : List ℕ) → ReadsWhile left readings (IsShort count) rest a b came
    → ReadsWhile left readings (IsCutReply due) held a b came
cut_while left readings due held n size prefix begins rest rest_is count count_is a b came reads =
    reads_for left readings (IsShort count) (IsCutReply due) rest held came
    (λ more short.
    let less : length (rest ++ more) < count = short in
    cut_reply due held more n size prefix begins (subst (λ bytes. length (bytes ++ more) < size) rest_is (omega (arith, less, count_is))))
    a b reads

-- why no head was read is why no reply was
pub stops_begun : (due : Due) (held body rest : List ℕ) (left : Option (List ℕ)) (stop : ReplyStop) → StopsBegin due held left stop → ReadsReply due held body rest left (Err stop)
stops_begun due held body rest left Wrong stops = stops
stops_begun due held body rest left Cut stops = (inl (stops.0.short, stops.0.none), stops.1)
stops_begun due held body rest left ReadFault stops = tt
stops_begun due held body rest left WriteFault stops = stops
stops_begun due held body rest left OutOfMemory stops = tt

-- a head that ends within the bytes leaves nothing to be read for it
pub head_is_enough : (bytes : List ℕ) (n : ℕ) → IsHeadLength bytes n → NeedsMore bytes → ⊥
head_is_enough bytes n h needs =
    let least : 4 ≤ n = h.least in
    let most : n ≤ most_head = h.most in
    needs.none (n - 4) (omega arith) (omega (arith, least, most)) h.ends

-- where nothing is held, more is needed
pub nothing_held : (bytes : List ℕ) → bytes ≡ [] → NeedsMore bytes
nothing_held bytes none = record {
  short = omega (arith, ap length none);
  none = λ k low high there. let fits : k + 4 ≤ length bytes = there.fits in omega (arith, fits, ap length none);
}

-- why no head was read
pub stops_head : (due : Due) (held : List ℕ) (left : Option (List ℕ)) (why : FrameStop) → StopsFill held left why → StopsBegin due held left (of_stopped why)
stops_head due held left (stopped.Refuse code) stops = inl (stops.2, stops.1)
stops_head due held left stopped.End stops = (nothing_held held stops.0, stops.1)
stops_head due held left stopped.Cut stops = (stops.1, stops.2)
stops_head due held left stopped.ReadFault stops = tt

-- what came of a head, and then what came behind it
pub read_both : {S : Type 0} (left : S → Option (List ℕ)) (readings : S → Option ℕ) (due : Due) (held held' : List ℕ) (a b c : S) (n : ℕ) → IsHeadLength held' n
    → (came : List ℕ) × ReadsWhile left readings NeedsMore held a b came × (held' ≡ held ++ came) → (P : List ℕ → Type 0)
    → (came : List ℕ) × ReadsWhile left readings (IsCutReply due) held' b c came × P (held' ++ came)
    → (came : List ℕ) × ReadsWhile left readings (IsCutReply due) held a c came × P (held ++ came)
read_both left readings due held held' a b c n ends first P second =
    let enough : NeedsMore (held ++ first.0) → ⊥ = λ needs. head_is_enough held' n ends (subst NeedsMore (sym first.2) needs) in
    let head : ReadsWhile left readings (IsCutReply due) held a b first.0
    = reads_for left readings NeedsMore (IsCutReply due) held held first.0 (λ more needs. inl (needs.short, needs.none)) a b first.1 in
    let behind : ReadsWhile left readings (IsCutReply due) (held ++ first.0) b c second.0
    = subst (λ bytes. ReadsWhile left readings (IsCutReply due) bytes b c second.0) first.2 second.1 in (
      first.0 ++ second.0,
      reads_then left readings (IsCutReply due) held first.0 second.0 a b c head (reads_gave left readings NeedsMore held first.0 a b first.1 enough) behind,
      subst P (ap (λ bytes. bytes ++ second.0) first.2 ∙ append_assoc held first.0 second.0) second.2,
    )

-- ---- what is said of the bytes that came is said of those that were unread, where these are told

came_of : (held came xs ys : List ℕ) → Consumes (Some xs) (Some ys) came → held ++ xs ≡ (held ++ came) ++ ys
came_of held came xs ys consumed = ap (λ all. held ++ all) consumed ∙ sym (append_assoc held came ys)

pub told_reply : (due : Due) (held came body rest : List ℕ) (prefix : Option ℕ) (left left' : Option (List ℕ)) → Consumes left left' came → IsReply due (held ++ came) body rest
    → Told (unread held left) (unread rest left') (λ bytes more. IsReply due bytes body more)
told_reply due held came body rest prefix None left' consumed reply = tt
told_reply due held came body rest prefix (Some xs) None consumed reply = absurd consumed
told_reply due held came body rest prefix (Some xs) (Some ys) consumed reply =
    rw (came_of held came xs ys consumed) (reply_of_more due (held ++ came) ys body rest reply)

pub told_ok : (due : Due) (held came body rest : List ℕ) (left left' : Option (List ℕ)) (r : Result (Option ℕ) ReplyStop) → Consumes left left' came
    → ReadsReply due (held ++ came) body rest left' r → OnOk r (Told (unread held left) (unread rest left') (λ bytes more. IsReply due bytes body more))
told_ok due held came body rest left left' (Ok prefix) consumed reads = told_reply due held came body rest prefix left left' consumed reads.0
told_ok due held came body rest left left' (Err stop) consumed reads = tt

told_stop : (due : Due) (held came body rest : List ℕ) (left left' : Option (List ℕ)) (stop : ReplyStop) → Consumes left left' came
    → ReadsReply due (held ++ came) body rest left' (Err stop) → IfSome (unread held left) (λ bytes. StopsReply due bytes stop)
told_stop due held came body rest None left' stop consumed reads = tt
told_stop due held came body rest (Some xs) None stop consumed reads = absurd consumed
told_stop due held came body rest (Some xs) (Some ys) Wrong consumed reads = rw (came_of held came xs ys consumed) (wrong_of_more due (held ++ came) ys reads)
told_stop due held came body rest (Some xs) (Some ys) Cut consumed reads =
    rw (came_of held came xs ys consumed ∙ ap (λ more. (held ++ came) ++ more) reads.1 ∙ append-nil (held ++ came)) reads.0
told_stop due held came body rest (Some xs) (Some ys) ReadFault consumed reads = tt
told_stop due held came body rest (Some xs) (Some ys) WriteFault consumed reads = tt
told_stop due held came body rest (Some xs) (Some ys) OutOfMemory consumed reads = tt

pub told_err : (due : Due) (held came body rest : List ℕ) (left left' : Option (List ℕ)) (r : Result (Option ℕ) ReplyStop) → Consumes left left' came
    → ReadsReply due (held ++ came) body rest left' r → IfErr r (λ stop. IfSome (unread held left) (λ bytes. StopsReply due bytes stop))
told_err due held came body rest left left' (Ok prefix) consumed reads = tt
told_err due held came body rest left left' (Err stop) consumed reads = told_stop due held came body rest left left' stop consumed reads

pub told_prefix : (due : Due) (bytes body rest : List ℕ) (left : Option (List ℕ)) (r : Result (Option ℕ) ReplyStop) → ReadsReply due bytes body rest left r
    → IfOk r (λ prefix. FitsPrefix due prefix × TellsPinned due body prefix)
told_prefix due bytes body rest left (Ok prefix) reads = (reads.1, reads.2)
told_prefix due bytes body rest left (Err stop) reads = tt
