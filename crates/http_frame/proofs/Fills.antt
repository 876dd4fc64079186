-- What is known of the bytes held after some came behind them, and of a source after it lost them.
use Rattle.std.proofs.Common.{ℕ, ◌+◌, ◌-◌, ◌<◌, ◌≤◌, List, [], ◌++◌, length, Option, Some, None, refl, sym, ap, ◌∙◌, arith, append_assoc, length-append}
use Rattle.std.proofs.lemmas.List.{get_or_append_left, append-nil}
use Rattle.std.specs.Io.KnownBytes.{Consumes}
use Rattle.memchr.specs.Find.{OccursAt, Nowhere}
use Rattle.http_frame.specs.Next.{head_end, most_head, NeedsMore}
use Rattle.http_frame.specs.Fill.{Takes}

-- a source loses no bytes, or some and then others
pub consumes_none : (left : Option (List ℕ)) → Consumes left left []
consumes_none None = tt
consumes_none (Some xs) = refl

pub consumes_both : (a b c : Option (List ℕ)) (xs ys : List ℕ) → Consumes a b xs → Consumes b c ys → Consumes a c (xs ++ ys)
consumes_both None b c xs ys first second = tt
consumes_both (Some all) None c xs ys first second = absurd first
consumes_both (Some all) (Some some) None xs ys first second = absurd second
consumes_both (Some all) (Some some) (Some rest) xs ys first second = first ∙ ap (λ later. xs ++ later) second ∙ sym (append_assoc xs ys rest)

pub takes_none : (held : List ℕ) (left : Option (List ℕ)) → Takes held held left left
takes_none held left = record { more = []; grown = sym (append-nil held); consumed = consumes_none left }

pub takes_both : (a b c : List ℕ) (l m n : Option (List ℕ)) → Takes a b l m → Takes b c m n → Takes a c l n
takes_both a b c l m n first second = record {
  more = first.more ++ second.more;
  grown = second.grown ∙ ap (λ bytes. bytes ++ second.more) first.grown ∙ append_assoc a first.more second.more;
  consumed = consumes_both l m n first.more second.more first.consumed second.consumed;
}

-- an end of a head stands at the same places of the bytes and of more
module _ (front more needle : List ℕ) (k : ℕ) where
  pub occurs_in_more : OccursAt front needle k → OccursAt (front ++ more) needle k
  occurs_in_more o =
      let fits : k + length needle ≤ length front = o.fits in
      record {
        fits = omega (arith, fits, length-append front more);
        reads = λ j h. get_or_append_left front more 0 (k + j) (omega (arith, fits, h)) ∙ o.reads j h;
      }

  pub occurs_in_front : k + length needle ≤ length front → OccursAt (front ++ more) needle k → OccursAt front needle k
  occurs_in_front fits o = record {
    fits = fits;
    reads = λ j h. sym (get_or_append_left front more 0 (k + j) (omega (arith, fits, h))) ∙ o.reads j h;
  }

-- where more bytes were needed, they were needed before some came
pub needs_before : (front more : List ℕ) → NeedsMore (front ++ more) → NeedsMore front
needs_before front more needs = record {
  short = let short : length (front ++ more) < most_head = needs.short in omega (arith, short, length-append front more);
  none = λ k low high there. needs.none k low high (occurs_in_more front more head_end k there);
}

-- bytes that have no head were searched, also when more came behind them
pub searched_before : (front more : List ℕ) → NeedsMore front → Nowhere (OccursAt (front ++ more) head_end) 0 (length front - 3)
searched_before front more needs k low high there =
    let short : length front < most_head = needs.short in
    needs.none k low (omega (arith, short, high)) (occurs_in_front front more head_end k (omega (arith, high)) there)
