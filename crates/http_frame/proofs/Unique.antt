-- One thing stands next in some unread bytes: a head has one length, a text is one head, and a head is accepted or refused
-- by one code.
use Rattle.std.proofs.Common.{◌≡◌, ℕ, ◌+◌, ◌-◌, ◌<◌, ◌≤◌, ◌⊎◌, inl, inr, List, [], ◌++◌, length, take, drop, Option, Some, None, refl, sym, ap, ◌∙◌, arith, length-append}
use Rattle.std.proofs.lemmas.Bool.{cases_order, true≢false}
use Rattle.std.proofs.lemmas.Option.{none-some}
use Rattle.std.proofs.lemmas.List.{drop_at, take_at}
use Rattle.httparse.specs.Grammar.{RequestHead}
use Rattle.httparse.proofs.GrammarLemmas.{request_unique}
use Rattle.http_frame.specs.declared.request.Request.{Request}
use Rattle.http_frame.specs.Request.{request_of}
use Rattle.http_frame.specs.Target.{path_of}
use Rattle.http_frame.specs.Refusal.{IsOneHead, IsAccepted, IsRefused, refusal_of}
use Rattle.http_frame.specs.Next.{most_head, IsHeadLength, HasNoHead, IsCut, IsFound, IsTaken, IsRefusedNext, IsWhole, IsCutInBody, IsNextHead, NextHead, ended, cut_off, refused, found, IsNext, Next, no_request, cut_request, refused_request, whole_request}

abbrev value_or : ℕ → Option ℕ → ℕ
value_or n None = n
value_or n (Some m) = m

some_injective : {a b : ℕ} → Some a ≡ Some b → a ≡ b
some_injective {a} e = ap (value_or a) e

-- ---- the length of a head

no_shorter : (bytes : List ℕ) (n m : ℕ) → IsHeadLength bytes n → IsHeadLength bytes m → n < m → ⊥
no_shorter bytes n m first second less =
    let least : 4 ≤ n = first.least in
    second.first (n - 4) (omega arith) (omega (arith, least, less)) first.ends

pub one_length : (bytes : List ℕ) (n m : ℕ) → IsHeadLength bytes n → IsHeadLength bytes m → n ≡ m
one_length bytes n m first second = elim (cases_order n m) [
  | inl same ↦ same
  | inr (inl less) ↦ absurd (no_shorter bytes n m first second less)
  | inr (inr more) ↦ absurd (no_shorter bytes m n second first more)
]

pub has_head : (bytes : List ℕ) (n : ℕ) → IsHeadLength bytes n → HasNoHead bytes → ⊥
has_head bytes n head none =
    let least : 4 ≤ n = head.least in
    let most : n ≤ most_head = head.most in
    none (n - 4) (omega arith) (omega (arith, least, most)) head.ends

pub not_empty : (bytes : List ℕ) (n : ℕ) → IsHeadLength bytes n → bytes ≡ [] → ⊥
not_empty bytes n head empty =
    let fits : n - 4 + 4 ≤ length bytes = head.ends.fits in
    absurd (omega (arith, fits, ap length empty))

-- ---- what a text of a head says

pub one_head : (text : List ℕ) (h k : RequestHead) → IsOneHead text h → IsOneHead text k → h ≡ k
one_head text h k first second = (request_unique text h k [] [] first.reads second.reads).0

pub one_code : (room : ℕ) (text : List ℕ) (c d : ℕ) → IsRefused room text c → IsRefused room text d → c ≡ d
one_code room text c d (inl first) (inl second) = first.1 ∙ sym second.1
one_code room text c d (inl first) (inr (inl second)) = absurd (true≢false (sym first.0 ∙ second.0))
one_code room text c d (inl first) (inr (inr second)) = absurd (true≢false (sym first.0 ∙ second.0))
one_code room text c d (inr (inl first)) (inl second) = absurd (true≢false (sym second.0 ∙ first.0))
one_code room text c d (inr (inl first)) (inr (inl second)) = first.2 ∙ sym second.2
one_code room text c d (inr (inl first)) (inr (inr second)) = absurd (first.1 second.1 second.2)
one_code room text c d (inr (inr first)) (inl second) = absurd (true≢false (sym second.0 ∙ first.0))
one_code room text c d (inr (inr first)) (inr (inl second)) = absurd (second.1 first.1 first.2)
one_code room text c d (inr (inr first)) (inr (inr second)) =
    some_injective (sym first.3 ∙ ap (refusal_of room) (one_head text first.1 second.1 first.2 second.2) ∙ second.3)

pub accepted_or_refused : (room : ℕ) (text : List ℕ) (h : RequestHead) (c : ℕ) → IsAccepted room text h → IsRefused room text c → ⊥
accepted_or_refused room text h c accepted (inl refusal) = true≢false (sym refusal.0 ∙ accepted.version)
accepted_or_refused room text h c accepted (inr (inl refusal)) = refusal.1 h accepted.one
accepted_or_refused room text h c accepted (inr (inr refusal)) =
    none-some c (sym accepted.framed ∙ ap (refusal_of room) (one_head text h refusal.1 accepted.one refusal.2) ∙ refusal.3)

-- the first read and the second are of one head, so they ask for the same
pub one_request : (room : ℕ) (text : List ℕ) (request request' : Request) (path path' : Option (List ℕ)) → IsTaken room text request path → IsTaken room text request' path' → (request ≡ request') × (path ≡ path')
one_request room text request request' path path' first second =
    let same : first.read.head ≡ second.read.head = one_head text first.read.head second.read.head first.read.accepted.one second.read.accepted.one in (
      first.read.request_is ∙ ap request_of same ∙ sym second.read.request_is,
      first.path_is ∙ ap path_of (first.read.target_is ∙ ap (λ h. h.target) same ∙ sym second.read.target_is) ∙ sym second.path_is,
    )

-- ---- what stands next

pub one_found : (room : ℕ) (bytes : List ℕ) (request request' : Request) (path path' : Option (List ℕ)) (rest rest' : List ℕ)
    → IsFound room bytes request path rest → IsFound room bytes request' path' rest' → (request ≡ request') × (path ≡ path') × (rest ≡ rest')
one_found room bytes request request' path path' rest rest' first second =
    let lengths : first.head_length ≡ second.head_length = one_length bytes first.head_length second.head_length first.ends second.ends in
    let taken : IsTaken room (take second.head_length bytes) request path = rw lengths at first.taken in
    let same = one_request room (take second.head_length bytes) request request' path path' taken second.taken in
    (same.0, same.1, first.rest_is ∙ ap (λ n. drop n bytes) lengths ∙ sym second.rest_is)

found_or_refused : (room : ℕ) (bytes : List ℕ) (request : Request) (path : Option (List ℕ)) (rest : List ℕ) (code : ℕ)
    → IsFound room bytes request path rest → IsRefusedNext room bytes code → ⊥
found_or_refused room bytes request path rest code first (inl endless) = has_head bytes first.head_length first.ends endless.0
found_or_refused room bytes request path rest code first (inr refusal) =
    let lengths : refusal.0 ≡ first.head_length = one_length bytes refusal.0 first.head_length refusal.1 first.ends in
    let refused : IsRefused room (take first.head_length bytes) code = rw lengths at refusal.2 in
    accepted_or_refused room (take first.head_length bytes) first.taken.read.head code first.taken.read.accepted refused

found_or_cut : (room : ℕ) (bytes : List ℕ) (request : Request) (path : Option (List ℕ)) (rest : List ℕ) → IsFound room bytes request path rest → IsCut bytes → ⊥
found_or_cut room bytes request path rest first cut = has_head bytes first.head_length first.ends cut.none

refused_or_cut : (room : ℕ) (bytes : List ℕ) (code : ℕ) → IsRefusedNext room bytes code → IsCut bytes → ⊥
refused_or_cut room bytes code (inl endless) cut =
    let long : most_head ≤ length bytes = endless.1 in
    let short : length bytes < most_head = cut.short in
    absurd (omega (arith, long, short))
refused_or_cut room bytes code (inr refusal) cut = has_head bytes refusal.0 refusal.1 cut.none

one_refusal : (room : ℕ) (bytes : List ℕ) (c d : ℕ) → IsRefusedNext room bytes c → IsRefusedNext room bytes d → c ≡ d
one_refusal room bytes c d (inl first) (inl second) = first.2 ∙ sym second.2
one_refusal room bytes c d (inl first) (inr second) = absurd (has_head bytes second.0 second.1 first.0)
one_refusal room bytes c d (inr first) (inl second) = absurd (has_head bytes first.0 first.1 second.0)
one_refusal room bytes c d (inr first) (inr second) =
    let lengths : first.0 ≡ second.0 = one_length bytes first.0 second.0 first.1 second.1 in
    let refused : IsRefused room (take second.0 bytes) c = rw lengths at first.2 in
    one_code room (take second.0 bytes) c d refused second.2

whole_or_cut : (room : ℕ) (bytes : List ℕ) (request : Request) (path : Option (List ℕ)) (body rest : List ℕ) → IsWhole room bytes request path body rest → IsCutInBody room bytes → ⊥
whole_or_cut room bytes request path body rest whole cut =
    let same = one_found room bytes request cut.asked path cut.path whole.after cut.after whole.head cut.head in
    let short : length cut.after < cut.asked.length = cut.short in
    let all = ap length whole.body_is in
    absurd (omega (arith, short, all, whole.body_length, ap (λ r. r.length) same.0, ap length same.2, length-append body rest))

one_whole : (room : ℕ) (bytes : List ℕ) (request request' : Request) (path path' : Option (List ℕ)) (body body' rest rest' : List ℕ)
    → IsWhole room bytes request path body rest → IsWhole room bytes request' path' body' rest' → (request ≡ request') × (path ≡ path') × (body ≡ body') × (rest ≡ rest')
one_whole room bytes request request' path path' body body' rest rest' first second =
    let same = one_found room bytes request request' path path' first.after second.after first.head second.head in
    let lengths : length body' ≡ request.length = second.body_length ∙ sym (ap (λ r. r.length) same.0) in
    let after : body ++ rest ≡ body' ++ rest' = sym first.body_is ∙ same.2 ∙ second.body_is in (
      same.0,
      same.1,
      sym (take_at body rest request.length first.body_length) ∙ ap (take request.length) after ∙ take_at body' rest' request.length lengths,
      sym (drop_at body rest request.length first.body_length) ∙ ap (drop request.length) after ∙ drop_at body' rest' request.length lengths,
    )

empty_or_cut : (room : ℕ) (bytes : List ℕ) → bytes ≡ [] → IsCut bytes ⊎ IsCutInBody room bytes → ⊥
empty_or_cut room bytes empty (inl cut) = let some : 0 < length bytes = cut.some in absurd (omega (arith, some, ap length empty))
empty_or_cut room bytes empty (inr cut) = not_empty bytes cut.head.head_length cut.head.ends empty

empty_or_refused : (room : ℕ) (bytes : List ℕ) (code : ℕ) → bytes ≡ [] → IsRefusedNext room bytes code → ⊥
empty_or_refused room bytes code empty (inl endless) = let long : most_head ≤ length bytes = endless.1 in absurd (omega (arith, long, ap length empty))
empty_or_refused room bytes code empty (inr refusal) = not_empty bytes refusal.0 refusal.1 empty

cut_or_refused : (room : ℕ) (bytes : List ℕ) (code : ℕ) → IsCut bytes ⊎ IsCutInBody room bytes → IsRefusedNext room bytes code → ⊥
cut_or_refused room bytes code (inl cut) refusal = refused_or_cut room bytes code refusal cut
cut_or_refused room bytes code (inr cut) refusal = found_or_refused room bytes cut.asked cut.path cut.after code cut.head refusal

cut_or_whole : (room : ℕ) (bytes : List ℕ) (request : Request) (path : Option (List ℕ)) (body rest : List ℕ) → IsCut bytes ⊎ IsCutInBody room bytes → IsWhole room bytes request path body rest → ⊥
cut_or_whole room bytes request path body rest (inl cut) whole = found_or_cut room bytes request path whole.after whole.head cut
cut_or_whole room bytes request path body rest (inr cut) whole = whole_or_cut room bytes request path body rest whole cut

pub one_next : (room : ℕ) (bytes : List ℕ) (next next' : Next) → IsNext room bytes next → IsNext room bytes next' → next ≡ next'
one_next room bytes no_request no_request first second = refl
one_next room bytes no_request cut_request first second = absurd (empty_or_cut room bytes first second)
one_next room bytes no_request (refused_request code) first second = absurd (empty_or_refused room bytes code first second)
one_next room bytes no_request (whole_request asked path body rest) first second = absurd (not_empty bytes second.head.head_length second.head.ends first)
one_next room bytes cut_request no_request first second = absurd (empty_or_cut room bytes second first)
one_next room bytes cut_request cut_request first second = refl
one_next room bytes cut_request (refused_request code) first second = absurd (cut_or_refused room bytes code first second)
one_next room bytes cut_request (whole_request asked path body rest) first second = absurd (cut_or_whole room bytes asked path body rest first second)
one_next room bytes (refused_request code) no_request first second = absurd (empty_or_refused room bytes code second first)
one_next room bytes (refused_request code) cut_request first second = absurd (cut_or_refused room bytes code second first)
one_next room bytes (refused_request code) (refused_request code') first second = ap refused_request (one_refusal room bytes code code' first second)
one_next room bytes (refused_request code) (whole_request asked path body rest) first second = absurd (found_or_refused room bytes asked path second.after code second.head first)
one_next room bytes (whole_request asked path body rest) no_request first second = absurd (not_empty bytes first.head.head_length first.head.ends second)
one_next room bytes (whole_request asked path body rest) cut_request first second = absurd (cut_or_whole room bytes asked path body rest second first)
one_next room bytes (whole_request asked path body rest) (refused_request code) first second = absurd (found_or_refused room bytes asked path first.after code first.head second)
one_next room bytes (whole_request asked path body rest) (whole_request asked' path' body' rest') first second =
    let same = one_whole room bytes asked asked' path path' body body' rest rest' first second in
    rw (same.0, same.1, same.2, same.3) refl

pub one_next_head : (room : ℕ) (bytes : List ℕ) (next next' : NextHead) → IsNextHead room bytes next → IsNextHead room bytes next' → next ≡ next'
one_next_head room bytes ended ended first second = refl
one_next_head room bytes ended cut_off first second = absurd (empty_or_cut room bytes first (inl second))
one_next_head room bytes ended (refused code) first second = absurd (empty_or_refused room bytes code first second)
one_next_head room bytes ended (found asked path rest) first second = absurd (not_empty bytes second.head_length second.ends first)
one_next_head room bytes cut_off ended first second = absurd (empty_or_cut room bytes second (inl first))
one_next_head room bytes cut_off cut_off first second = refl
one_next_head room bytes cut_off (refused code) first second = absurd (refused_or_cut room bytes code second first)
one_next_head room bytes cut_off (found asked path rest) first second = absurd (found_or_cut room bytes asked path rest second first)
one_next_head room bytes (refused code) ended first second = absurd (empty_or_refused room bytes code second first)
one_next_head room bytes (refused code) cut_off first second = absurd (refused_or_cut room bytes code first second)
one_next_head room bytes (refused code) (refused code') first second = ap refused (one_refusal room bytes code code' first second)
one_next_head room bytes (refused code) (found asked path rest) first second = absurd (found_or_refused room bytes asked path rest code second first)
one_next_head room bytes (found asked path rest) ended first second = absurd (not_empty bytes first.head_length first.ends second)
one_next_head room bytes (found asked path rest) cut_off first second = absurd (found_or_cut room bytes asked path rest first second)
one_next_head room bytes (found asked path rest) (refused code) first second = absurd (found_or_refused room bytes asked path rest code first second)
one_next_head room bytes (found asked path rest) (found asked' path' rest') first second =
    let same = one_found room bytes asked asked' path path' rest rest' first second in
    rw (same.0, same.1, same.2) refl
