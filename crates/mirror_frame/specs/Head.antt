-- Where the parts of a response's head are.
use Rattle.std.specs.Prelude.{ℕ, ◌≤◌, List, [], length}
use Rattle.httparse.specs.declared.spans.HeaderSpan.{HeaderSpan}
use Rattle.httparse.specs.declared.spans.ResponseSpans.{ResponseSpans}
use Rattle.httparse.specs.Grammar.{ResponseHead, ReadsResponse}
use Rattle.httparse.specs.Spans.{IsResponseAt}
use Rattle.http_frame.specs.Refusal.{most_fields}

-- the text is exactly this head, which has at most 64 fields
pub record IsHeadOf (text : List ℕ) (head : ResponseHead) : Type 0 where
  pub reads : ReadsResponse text head []
  pub fields : length head.fields ≤ most_fields

-- the text is exactly one head, and these are the places of its parts
pub record IsParsed (text : List ℕ) (spans : List HeaderSpan) (parts : ResponseSpans) : Type 0 where
  pub head : ResponseHead
  pub one : IsHeadOf text head
  pub at : IsResponseAt text spans parts head
