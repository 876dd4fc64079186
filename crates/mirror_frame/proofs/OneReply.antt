-- One reply stands first in unread bytes.
use Rattle.std.proofs.Common.{◌≡◌, ℕ, inl, inr, List, [], ◌++◌, length, take, drop, Option, Some, None, sym, ap, ◌∙◌, arith, length-append}
use Rattle.std.proofs.lemmas.List.{append_cancel_left, take-append-le, take_all}
use Rattle.httparse.proofs.GrammarLemmas.{response_unique}
use Rattle.http_frame.proofs.Unique.{one_length, has_head}
use Rattle.mirror_frame.specs.Reply.{SaysReply, BeginsReply, IsReply, IsCutReply, IsWrongReply, stated_length, stated_prefix, fields_of}
use Rattle.mirror_frame.specs.Laws.{StandsAlone}
use Rattle.mirror_frame.specs.declared.due.Due.{Due}

abbrev value_or : ℕ → Option ℕ → ℕ
value_or n None = n
value_or n (Some m) = m

one_says : (text : List ℕ) (n m : ℕ) (p q : Option ℕ) → SaysReply text n p → SaysReply text m q → (n ≡ m) × (p ≡ q)
one_says text n m p q a b =
    let same : a.head ≡ b.head = (response_unique text a.head b.head [] [] a.reads b.reads).0 in
    let lengths : Some n ≡ Some m = sym a.length_is ∙ ap (λ h. stated_length (fields_of h)) same ∙ b.length_is in
    (ap (value_or n) lengths, sym a.prefix_is ∙ ap (λ h. stated_prefix (fields_of h)) same ∙ b.prefix_is)

one_begins : (due : Due) (unread : List ℕ) (n m s t : ℕ) (p q : Option ℕ) → BeginsReply due unread n s p → BeginsReply due unread m t q → (n ≡ m) × (s ≡ t) × (p ≡ q)
one_begins due unread n m s t p q a b =
    let same : n ≡ m = one_length unread n m a.ends b.ends in
    let says : SaysReply (take n unread) t q = rw same b.says in
    let said = one_says (take n unread) s t p q a.says says in
    (same, said.0, said.1)

front : (body rest : List ℕ) → take (length body) (body ++ rest) ≡ body
front body rest = take-append-le (length body) body rest (omega arith) ∙ take_all (length body) body (omega arith)

module _ (due : Due) (unread : List ℕ) where
  one_reply : (body other rest more : List ℕ) → IsReply due unread body rest → IsReply due unread other more → (body ≡ other) × (rest ≡ more)
  one_reply body other rest more a b =
      let same = one_begins due unread a.head_length b.head_length (length body) (length other) a.prefix b.prefix a.begins b.begins in
      let all : body ++ rest ≡ other ++ more = sym a.rest_is ∙ ap (λ n. drop n unread) same.0 ∙ b.rest_is in
      let bodies : body ≡ other = sym (front body rest) ∙ ap (take (length body)) all ∙ ap (λ n. take n (other ++ more)) same.1 ∙ front other more in
      (bodies, append_cancel_left body rest more (all ∙ ap (λ xs. xs ++ more) (sym bodies)))

  reply_or_wrong : (body rest : List ℕ) → IsReply due unread body rest → IsWrongReply due unread → ⊥
  reply_or_wrong body rest a (inl endless) = has_head unread a.head_length a.begins.ends endless.0
  reply_or_wrong body rest a (inr (inl head)) =
      let same : head.0 ≡ a.head_length = one_length unread head.0 a.head_length head.1 a.begins.ends in
      head.2 (length body) a.prefix (rw same a.begins)
  reply_or_wrong body rest a (inr (inr wrong)) =
      let same = one_begins due unread wrong.head_length a.head_length wrong.body_length (length body) wrong.prefix a.prefix wrong.begins a.begins in
      let text : take wrong.body_length (drop wrong.head_length unread) ≡ body =
      ap (λ k. take k (drop wrong.head_length unread)) same.1 ∙ ap (λ k. take (length body) (drop k unread)) same.0 ∙ ap (take (length body)) a.rest_is ∙ front body rest in
      wrong.wrong (rw (text, same.2) a.told)

  reply_or_cut : (body rest : List ℕ) → IsReply due unread body rest → IsCutReply due unread → ⊥
  reply_or_cut body rest a (inl short) = has_head unread a.head_length a.begins.ends short.1
  reply_or_cut body rest a (inr cut) =
      let same = one_begins due unread cut.head_length a.head_length cut.body_length (length body) cut.prefix a.prefix cut.begins a.begins in
      let behind : drop cut.head_length unread ≡ body ++ rest = ap (λ n. drop n unread) same.0 ∙ a.rest_is in
      absurd (omega (arith, cut.short, same.1, ap length behind, length-append body rest))

  cut_or_wrong : IsCutReply due unread → IsWrongReply due unread → ⊥
  cut_or_wrong (inl short) (inl endless) = absurd (omega (arith, short.0, endless.1))
  cut_or_wrong (inl short) (inr (inl head)) = has_head unread head.0 head.1 short.1
  cut_or_wrong (inl short) (inr (inr wrong)) = has_head unread wrong.head_length wrong.begins.ends short.1
  cut_or_wrong (inr cut) (inl endless) = has_head unread cut.head_length cut.begins.ends endless.0
  cut_or_wrong (inr cut) (inr (inl head)) =
      let same : head.0 ≡ cut.head_length = one_length unread head.0 cut.head_length head.1 cut.begins.ends in
      head.2 cut.body_length cut.prefix (rw same cut.begins)
  cut_or_wrong (inr cut) (inr (inr wrong)) =
      let same = one_begins due unread wrong.head_length cut.head_length wrong.body_length cut.body_length wrong.prefix cut.prefix wrong.begins cut.begins in
      let behind : length (drop wrong.head_length unread) ≡ length (drop cut.head_length unread) = ap (λ n. length (drop n unread)) same.0 in
      absurd (omega (arith, cut.short, wrong.whole, same.1, behind))

  pub stands_alone : StandsAlone due unread
  stands_alone = record { one = one_reply; not_wrong = reply_or_wrong; not_cut = reply_or_cut; cut_or_wrong = cut_or_wrong }
