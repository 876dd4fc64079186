-- Requests of bytes of which the last were not read.
use Rattle.std.proofs.Common.{◌≡◌, ℕ, ◌+◌, ◌-◌, ◌≤◌, List, [], ◌∷◌, ◌++◌, length, take, drop, Option, refl, sym, ap, ◌∙◌, subst, arith, append_assoc, length-append}
use Rattle.std.proofs.lemmas.List.{take-append-drop, take-append-le, drop-append-le, take_all, nil_from_length, length-drop, length-take-le, get_or_append_left}
use Rattle.memchr.specs.Find.{OccursAt}
use Rattle.http_frame.specs.declared.request.Request.{Request}
use Rattle.http_frame.specs.Next.{head_end, IsHeadLength, IsFound, IsWhole, IsTaken}
use Rattle.hips_http.specs.Answers.{Asking}
use Rattle.hips_http.specs.SessionRun.{AreRequests}

take-append-at : (n : ℕ) (xs ys : List ℕ) → length xs ≡ n → take n (xs ++ ys) ≡ xs
take-append-at n xs ys is = take-append-le n xs ys (omega arith) ∙ take_all n xs (omega arith)

drop-append-at : (n : ℕ) (xs ys : List ℕ) → length xs ≡ n → drop n (xs ++ ys) ≡ ys
drop-append-at n xs ys is = drop-append-le n xs ys (omega arith) ∙ ap (λ (b : List ℕ). b ++ ys) (nil_from_length (drop n xs) (omega (arith, length-drop n xs)))

-- a needle in the first bytes
module _ (front back needle : List ℕ) (k : ℕ) where
  occurs_front : k + length needle ≤ length front → OccursAt (front ++ back) needle k → OccursAt front needle k
  occurs_front fits o = record {
    fits = fits;
    reads = λ j h. sym (get_or_append_left front back 0 (k + j) (omega arith)) ∙ o.reads j h;
  }

  occurs_whole : OccursAt front needle k → OccursAt (front ++ back) needle k
  occurs_whole o = record {
    fits = (let f : k + length needle ≤ length front = o.fits in omega (arith, f, length-append front back));
    reads = λ j h. get_or_append_left front back 0 (k + j) (let f : k + length needle ≤ length front = o.fits in omega arith) ∙ o.reads j h;
  }

head_front : (front back : List ℕ) (n : ℕ) → n ≤ length front → IsHeadLength (front ++ back) n → IsHeadLength front n
head_front front back n fits h =
    let least : 4 ≤ n = h.least in
    record {
      least = h.least;
      most = h.most;
      ends = occurs_front front back head_end (n - 4) (omega arith) h.ends;
      first = λ j low high there. h.first j low high (occurs_whole front back head_end j there);
    }

-- the bytes up to the end of a request
pub record Front (all back : List ℕ) (P : List ℕ → Type 0) : Type 0 where
  pub front : List ℕ
  pub all_is : all ≡ front ++ back
  pub holds : P front

pub found_front : (room : ℕ) (all : List ℕ) (asked : Request) (path : Option (List ℕ)) (after back : List ℕ) → IsFound room all asked path (after ++ back)
    → Front all back (λ front. IsFound room front asked path after)
found_front room all asked path after back found =
    let n = found.head_length in
    let front = take n all ++ after in
    let whole : all ≡ front ++ back = sym (take-append-drop n all) ∙ ap (λ (b : List ℕ). take n all ++ b) (sym found.rest_is) ∙ sym (append_assoc (take n all) after back) in
    let end : n - 4 + 4 ≤ length all = found.ends.ends.fits in
    let least : 4 ≤ n = found.ends.least in
    let count : length (take n all) ≡ n = length-take-le n all (omega arith) in
    let fits : n ≤ length front = omega (arith, count, length-append (take n all) after) in
    let same : take n front ≡ take n all = take-append-at n (take n all) after count in
    record {
      front = front;
      all_is = whole;
      holds = record {
        head_length = n;
        ends = head_front front back n fits (subst (λ (b : List ℕ). IsHeadLength b n) whole found.ends);
        taken = subst (λ (b : List ℕ). IsTaken room b asked path) (sym same) found.taken;
        rest_is = sym (drop-append-at n (take n all) after count);
      };
    }

pub whole_front : (room : ℕ) (all : List ℕ) (request : Asking) (more back : List ℕ) → IsWhole room all request.asked request.path request.body (more ++ back)
    → Front all back (λ front. IsWhole room front request.asked request.path request.body more)
whole_front room all request more back whole =
    let after_is : whole.after ≡ (request.body ++ more) ++ back = whole.body_is ∙ sym (append_assoc request.body more back) in
    let f = found_front room all request.asked request.path (request.body ++ more) back (subst (λ (b : List ℕ). IsFound room all request.asked request.path b) after_is whole.head) in
    record {
      front = f.front;
      all_is = f.all_is;
      holds = record { after = request.body ++ more; head = f.holds; body_length = whole.body_length; body_is = refl };
    }

pub requests_front : (room : ℕ) (all : List ℕ) (requests : List Asking) (rest back : List ℕ) → AreRequests room all requests (rest ++ back)
    → Front all back (λ front. AreRequests room front requests rest)
requests_front room all [] rest back is = record { front = rest; all_is = sym is; holds = refl }
requests_front room all (request ∷ requests) rest back is =
    let f = requests_front room is.0 requests rest back is.2 in
    let w = whole_front room all request f.front back (subst (λ (b : List ℕ). IsWhole room all request.asked request.path request.body b) f.all_is is.1) in
    record { front = w.front; all_is = w.all_is; holds = (f.front, w.holds, f.holds) }
