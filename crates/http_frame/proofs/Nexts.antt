-- What stands next in some unread bytes, once all the bytes that follow them are known.
use Rattle.std.proofs.Common.{◌≡◌, ℕ, ◌+◌, ◌-◌, ◌<◌, ◌≤◌, ◌⊎◌, inl, inr, List, [], ◌++◌, length, take, drop, Option, Some, None, refl, sym, ap, ◌∙◌, arith, append_assoc, length-append}
use Rattle.std.specs.Prelude.{IfSome, IsSomeAnd}
use Rattle.std.specs.Io.KnownBytes.{prepend_known, Consumes}
use Rattle.std.proofs.lemmas.List.{take-append-le, drop-append-le, append-nil, drop_all}
use Rattle.http_frame.specs.declared.request.Request.{Request}
use Rattle.http_frame.specs.declared.stop.FrameStop.{FrameStop}
use Rattle.http_frame.specs.declared.stop.FrameStop.TheVariants.{End, Cut, ReadFault, Refuse}
use Rattle.http_frame.specs.Refusal.{IsRefused}
use Rattle.http_frame.specs.Next.{head_end, most_head, IsHeadLength, HasNoHead, IsFound, IsTaken, IsRefusedNext, refused, found, IsNextHead}
use Rattle.http_frame.specs.Fill.{Takes, StopsFill}
use Rattle.http_frame.specs.Frame.{FrameState, NextIs, StopsHead}
use Rattle.http_frame.proofs.Fills.{occurs_in_more, occurs_in_front}

-- ---- more bytes behind

-- a head ends within the bytes
head_fits : (bytes : List ℕ) (n : ℕ) → IsHeadLength bytes n → n ≤ length bytes
head_fits bytes n h =
    let fits : n - 4 + 4 ≤ length bytes = h.ends.fits in
    let least : 4 ≤ n = h.least in
    omega (arith, fits, least)

pub head_length_of_more : (bytes more : List ℕ) (n : ℕ) → IsHeadLength bytes n → IsHeadLength (bytes ++ more) n
head_length_of_more bytes more n h = record {
  least = h.least;
  most = h.most;
  ends = occurs_in_more bytes more head_end (n - 4) h.ends;
  first = λ k low high there.
      let fits : n ≤ length bytes = head_fits bytes n h in
      let least : 4 ≤ n = h.least in
      h.first k low high (occurs_in_front bytes more head_end k (omega (arith, fits, least, high)) there);
}

pub text_of_more : (bytes more : List ℕ) (n : ℕ) → IsHeadLength bytes n → take n (bytes ++ more) ≡ take n bytes
text_of_more bytes more n h = take-append-le n bytes more (head_fits bytes n h)

-- a head found in the bytes held is found in those held before and those that came
pub found_with : (room : ℕ) (bytes front came rest : List ℕ) (request : Request) (path : Option (List ℕ)) (n : ℕ) → bytes ≡ front ++ came → IsHeadLength bytes n
    → IsTaken room (take n bytes) request path → rest ≡ drop n bytes → IsFound room (front ++ came) request path rest
found_with room bytes front came rest request path n is h taken rest_is =
    rw (sym is) (record { head_length = n; ends = h; taken = taken; rest_is = rest_is })

pub found_of_more : (room : ℕ) (bytes more : List ℕ) (request : Request) (path : Option (List ℕ)) (n : ℕ) → IsHeadLength bytes n → IsTaken room (take n bytes) request path
    → IsFound room (bytes ++ more) request path (drop n bytes ++ more)
found_of_more room bytes more request path n h taken = record {
  head_length = n;
  ends = head_length_of_more bytes more n h;
  taken = rw (text_of_more bytes more n h) taken;
  rest_is = sym (drop-append-le n bytes more (head_fits bytes n h));
}

pub refused_of_more : (room : ℕ) (bytes more : List ℕ) (code n : ℕ) → IsHeadLength bytes n → IsRefused room (take n bytes) code → IsRefusedNext room (bytes ++ more) code
refused_of_more room bytes more code n h refusal = inr (n, head_length_of_more bytes more n h, rw (text_of_more bytes more n h) refusal)

pub endless_of_more : (room : ℕ) (bytes more : List ℕ) → HasNoHead bytes → most_head ≤ length bytes → IsRefusedNext room (bytes ++ more) 431
endless_of_more room bytes more none long = inl (
  λ k low high there. none k low high (occurs_in_front bytes more head_end k (omega (arith, long, high)) there),
  omega (arith, long, length-append bytes more),
  refl,
)

-- ---- the bytes held and those left in the source

-- the unread bytes are those held now and those left now
module _ (held held' : List ℕ) (left left' : Option (List ℕ)) (takes : Takes held held' left left') where
  pub same_bytes : (xs ys : List ℕ) → left ≡ Some xs → left' ≡ Some ys → held ++ xs ≡ held' ++ ys
  same_bytes xs ys e f =
      let consumed : Consumes (Some xs) (Some ys) takes.more = rw (e, f) at takes.consumed in
      ap (λ bytes. held ++ bytes) consumed ∙ sym (append_assoc held takes.more ys) ∙ ap (λ bytes. bytes ++ ys) (sym takes.grown)

pub reads_head : (room : ℕ) (held held' after : List ℕ) (left left' : Option (List ℕ)) (request : Request) (path : Option (List ℕ)) (n : ℕ)
    → Takes held held' left left' → IsHeadLength held' n → IsTaken room (take n held') request path → after ≡ drop n held'
    → IfSome (prepend_known held left) (λ bytes. IsSomeAnd (prepend_known after left') (λ rest. IsNextHead room bytes (found request path rest)))
reads_head room held held' after None left' request path n takes h taken rest = tt
reads_head room held held' after (Some xs) None request path n takes h taken rest = absurd takes.consumed
reads_head room held held' after (Some xs) (Some ys) request path n takes h taken rest =
    rw (same_bytes held held' (Some xs) (Some ys) takes xs ys refl refl, rest) (found_of_more room held' ys request path n h taken)

pub refuses_head : (room : ℕ) (held held' : List ℕ) (left left' : Option (List ℕ)) (code n : ℕ)
    → Takes held held' left left' → IsHeadLength held' n → IsRefused room (take n held') code → NextIs room (prepend_known held left) (refused code)
refuses_head room held held' None left' code n takes h refusal = tt
refuses_head room held held' (Some xs) None code n takes h refusal = absurd takes.consumed
refuses_head room held held' (Some xs) (Some ys) code n takes h refusal =
    rw (same_bytes held held' (Some xs) (Some ys) takes xs ys refl refl) (refused_of_more room held' ys code n h refusal)

pub keeps_unread : (held held' : List ℕ) (left left' : Option (List ℕ)) → Takes held held' left left' → IfSome (prepend_known held left) (λ bytes. prepend_known held' left' ≡ Some bytes)
keeps_unread held held' None left' takes = tt
keeps_unread held held' (Some xs) None takes = absurd takes.consumed
keeps_unread held held' (Some xs) (Some ys) takes = ap Some (sym (same_bytes held held' (Some xs) (Some ys) takes xs ys refl refl))

-- the unread bytes at the end of the input are those held
at_end : (held held' xs ys : List ℕ) → Takes held held' (Some xs) (Some ys) → ys ≡ [] → held ++ xs ≡ held'
at_end held held' xs ys takes end =
    same_bytes held held' (Some xs) (Some ys) takes xs ys refl refl ∙ ap (λ rest. held' ++ rest) end ∙ append-nil held'

pub stops_head : (old new : FrameState) (left left' : Option (List ℕ)) (stop : FrameStop)
    → Takes old.held new.held left left' → StopsFill new.held left' stop → StopsHead old new left stop
stops_head old new None left' End takes stops = tt
stops_head old new (Some xs) None End takes stops = absurd takes.consumed
stops_head old new (Some xs) (Some ys) End takes stops = at_end old.held new.held xs ys takes stops.1 ∙ stops.0
stops_head old new None left' Cut takes stops = tt
stops_head old new (Some xs) None Cut takes stops = absurd takes.consumed
stops_head old new (Some xs) (Some ys) Cut takes stops =
    rw (at_end old.held new.held xs ys takes stops.2) (record { some = stops.0; short = stops.1.short; none = stops.1.none })
stops_head old new None left' (Refuse code) takes stops = tt
stops_head old new (Some xs) None (Refuse code) takes stops = absurd takes.consumed
stops_head old new (Some xs) (Some ys) (Refuse code) takes stops =
    rw (same_bytes old.held new.held (Some xs) (Some ys) takes xs ys refl refl, stops.0) (endless_of_more old.room new.held ys stops.2 stops.1)
stops_head old new left left' ReadFault takes stops = stops

-- ---- bodies

pub reads_body : (held held' body rest : List ℕ) (left left' : Option (List ℕ)) → Takes held held' left left' → body ++ rest ≡ held'
    → IfSome (prepend_known held left) (λ bytes. IsSomeAnd (prepend_known rest left') (λ more. bytes ≡ body ++ more))
reads_body held held' body rest None left' takes split = tt
reads_body held held' body rest (Some xs) None takes split = absurd takes.consumed
reads_body held held' body rest (Some xs) (Some ys) takes split =
    same_bytes held held' (Some xs) (Some ys) takes xs ys refl refl ∙ ap (λ bytes. bytes ++ ys) (sym split) ∙ append_assoc body rest ys

-- a body that had to be read leaves nothing held
pub nothing_left : (held held' rest : List ℕ) (n : ℕ) → (held' ≡ held) ⊎ (length held' ≡ n) → n ≤ length held' → rest ≡ drop n held' → length held < n → rest ≡ []
nothing_left held held' rest n (inl same) filled is short = absurd (omega (arith, ap length same, filled, short))
nothing_left held held' rest n (inr exact) filled is short = is ∙ drop_all n held' (omega (arith, exact))
