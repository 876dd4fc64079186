-- Something stands next in any unread bytes.
use Rattle.std.proofs.Common.{◌≡◌, ℕ, ◌≤◌, min, inl, inr, List, ◌++◌, length, take, drop, Option, refl, sym, subst, arith}
use Rattle.std.proofs.lemmas.Bool.{cases_order}
use Rattle.std.proofs.lemmas.List.{take-append-drop, length-take, length-take-le, take_all, nil_from_length}
use Rattle.http_frame.specs.declared.request.Request.{Request}
use Rattle.http_frame.specs.Refusal.{IsRefused, IsReadAs}
use Rattle.http_frame.specs.Target.{path_of}
use Rattle.http_frame.specs.Laws.{SomeStands}
use Rattle.http_frame.specs.Next.{most_head, IsHeadLength, HasNoHead, IsFound, IsWhole, IsRefusedNext, no_request, cut_request, refused_request, whole_request}
use Rattle.http_frame.proofs.Nexts.{head_length_of_more, text_of_more, endless_of_more, refused_of_more}

whole_of : (after : List ℕ) (room : ℕ) (unread : List ℕ) (request : Request) (path : Option (List ℕ)) → IsFound room unread request path after → request.length ≤ length after
    → IsWhole room unread request path (take request.length after) (drop request.length after)
whole_of after room unread request path head fits = record {
  after = after;
  head = head;
  body_length = length-take-le request.length after fits;
  body_is = sym (take-append-drop request.length after);
}

pub stands_found : (room : ℕ) (unread after : List ℕ) (request : Request) (path : Option (List ℕ)) → IsFound room unread request path after → SomeStands room unread
stands_found room unread after request path head = elim (cases_order request.length (length after)) [
  | inl same ↦ (whole_request request path (take request.length after) (drop request.length after), whole_of after room unread request path head (omega arith))
  | inr (inl less) ↦ (whole_request request path (take request.length after) (drop request.length after), whole_of after room unread request path head (omega arith))
  | inr (inr more) ↦ (cut_request, inr (record { asked = request; path = path; after = after; head = head; short = more }))
]

-- the first bytes, of which the head is some
module _ (room : ℕ) (unread : List ℕ) (m : ℕ) where
  all_of : take m unread ++ drop m unread ≡ unread
  all_of = take-append-drop m unread

  pub front_found : (request : Request) (target : List ℕ) (n : ℕ) → IsHeadLength (take m unread) n → IsReadAs room (take n (take m unread)) request target → SomeStands room unread
  front_found request target n h read =
      subst (SomeStands room) all_of (stands_found room (take m unread ++ drop m unread) (drop n (take m unread ++ drop m unread)) request (path_of target) (record {
        head_length = n;
        ends = head_length_of_more (take m unread) (drop m unread) n h;
        taken = rw (text_of_more (take m unread) (drop m unread) n h) (record { target = target; read = read; path_is = refl });
        rest_is = refl;
      }))

  pub front_refused : (code n : ℕ) → IsHeadLength (take m unread) n → IsRefused room (take n (take m unread)) code → SomeStands room unread
  front_refused code n h refusal =
      (refused_request code, subst (λ bytes. IsRefusedNext room bytes code) all_of (refused_of_more room (take m unread) (drop m unread) code n h refusal))

  endless : HasNoHead (take m unread) → most_head ≤ length (take m unread) → SomeStands room unread
  endless none long = (refused_request 431, subst (λ bytes. IsRefusedNext room bytes 431) all_of (endless_of_more room (take m unread) (drop m unread) none long))

  pub front_endless : m ≡ min (length unread) most_head → HasNoHead (take m unread) → SomeStands room unread
  front_endless is none = elim (cases_order (length unread) most_head) [
    | inl same ↦ endless none (omega (arith, is, length-take m unread))
    | inr (inr more) ↦ endless none (omega (arith, is, length-take m unread))
    | inr (inl short) ↦ elim (cases_order (length unread) 0) [
      | inl empty ↦ (no_request, nil_from_length unread empty)
      | inr (inl below) ↦ absurd (omega arith)
      | inr (inr some) ↦ (cut_request, inl (record { some = some; short = short; none = subst HasNoHead (take_all m unread (omega (arith, is))) none }))
    ]
  ]
