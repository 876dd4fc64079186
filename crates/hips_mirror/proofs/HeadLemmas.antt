-- The head of a reply, as it is written: where it ends, and what it says where it is read.
use Rattle.std.proofs.Common.{◌≡◌, inl, inr, ℕ, zero, suc, ◌+◌, ◌-◌, ◌<◌, ◌≤◌, ◌^◌, Bool, true, false, not, List, [], ◌∷◌, ◌++◌, Option, Some, None, length, get_or, map, reverse, flat_map, refl, sym, ap, ◌∙◌, subst, arith, append_assoc, length-append, codes}
use Rattle.std.specs.Fmt.{digits}
use Rattle.std.specs.Prelude.{decimal, slice_index, ◌&&◌, ◌==◌, nat_lt, nat_le, ⊤, if◌then◌else◌, All, IsTrue}
use Rattle.std.specs.Option.{option_and_then}
use Rattle.std.specs.List.{list_all}
use Rattle.std.specs.Char.{is_ascii_digit}
use Rattle.std.specs.Str.Parse.{digits_value}
use Rattle.std.proofs.lemmas.Bool.{and_parts, and_from, cases_lt}
use Rattle.std.proofs.lemmas.Bool.Decides.{nat_tests}
use Rattle.std.proofs.lemmas.List.{append-nil, get_or_append_left, get_or-append-add, take_at, drop_at, length-map}
use Rattle.std.proofs.lemmas.List.Folds.{list_all-append}
use Rattle.std.proofs.lemmas.List.Sums.{AllPass-from_list_all, list_all-from_AllPass}
use Rattle.std.proofs.lemmas.List.Elements.{All-nil, All-cons}
use Rattle.std.proofs.lemmas.Fmt.{decimal_is_IsNumeral, decimal_nonempty, length-decimal-le}
use Rattle.memchr.specs.Find.{OccursAt, Nowhere}
use Rattle.httparse.specs.Grammar.{is_token_byte, is_token, is_value_byte, is_ows, skip_ows, crlf, Field, IsField, print_field, print_section, ResponseHead, print_response, ReadsResponse}
use Rattle.httparse.specs.Spans.{name_and_value}
use Rattle.httparse.proofs.GrammarLemmas.{cons-append}
use Rattle.httparse.proofs.TrimLemmas.{trim_ows_space, skip_ows_no, AllPass-reverse}
use Rattle.decimal_scale.specs.Laws.{PlainIsRead}
use Rattle.decimal_scale.proofs.RoundTrip.{decimal_digits}
use Rattle.http_frame.specs.Fields.{NamedValue}
use Rattle.http_frame.specs.Refusal.{is_digits, most_fields}
use Rattle.http_frame.specs.Next.{IsHeadLength, head_end, most_head}
use Rattle.http_frame.specs.Reply.{reply_head, reply_bytes, status_line, type_line}
use Rattle.http_frame.specs.declared.reply.Allow.TheVariants as allow
use Rattle.http_frame.specs.declared.reply.Kind.{Kind}
use Rattle.http_frame.specs.declared.reply.Kind.TheVariants as kind
use Rattle.http_frame.specs.declared.reply.Number.TheVariants as number
use Rattle.mirror_frame.specs.Reply.{most_body, length_in, prefix_in, stated_length, stated_prefix, SaysReply, BeginsReply, FitsPrefix, FitsBody, IsReply}
use Rattle.mirror_frame.specs.declared.due.Due.{Due}

-- ---- where the head ends

-- the byte isn't CR
abbrev pub no_return : ℕ → Bool
no_return b = not (b == 13)

-- a line without CR, which isn't empty
abbrev pub IsLine : List ℕ → Type 0
IsLine text = (0 < length text) × (list_all no_return text ≡ true)

abbrev pub AreLines : List (List ℕ) → Type 0
AreLines [] = ⊤
AreLines (l ∷ ls) = IsLine l × AreLines ls

-- lines with their ends, and an empty line
abbrev pub lines_text : List (List ℕ) → List ℕ
lines_text [] = 13 ∷ 10 ∷ []
lines_text (l ∷ ls) = l ++ 13 ∷ 10 ∷ lines_text ls

plain_at : (xs : List ℕ) (i : ℕ) → list_all no_return xs ≡ true → i < length xs → get_or xs i 0 ≡ 13 → ⊥
plain_at [] i all h e = absurd (omega arith)
plain_at (x ∷ xs) zero all h e = let here = and_parts (no_return x) (list_all no_return xs) all in absurd (grind (arith, nat_tests, here.0))
plain_at (x ∷ xs) (suc i) all h e = let here = and_parts (no_return x) (list_all no_return xs) all in plain_at xs i here.1 (omega (arith, h)) e

-- the four bytes at the front
here : (rest : List ℕ) (j : ℕ) → j < 4 → slice_index (13 ∷ 10 ∷ 13 ∷ 10 ∷ rest) j ≡ slice_index head_end j
here rest zero h = refl
here rest (suc zero) h = refl
here rest (suc (suc zero)) h = refl
here rest (suc (suc (suc zero))) h = refl
here rest (suc (suc (suc (suc j)))) h = absurd (omega (arith, h))

at_front : (rest : List ℕ) → OccursAt (13 ∷ 10 ∷ 13 ∷ 10 ∷ rest) head_end 0
at_front rest = record {
  fits = omega arith;
  reads = λ j h. let plain : 0 + j ≡ j = omega arith in ap (slice_index (13 ∷ 10 ∷ 13 ∷ 10 ∷ rest)) plain ∙ here rest j h;
}

module _ (front rest : List ℕ) (k : ℕ) where
  occurs_behind : OccursAt (front ++ rest) head_end (length front + k) → OccursAt rest head_end k
  occurs_behind o = record {
    fits = let f : length front + k + 4 ≤ length (front ++ rest) = o.fits in omega (arith, f, length-append front rest);
    reads = λ j h.
        let same : length front + (k + j) ≡ length front + k + j = omega arith in
        sym (get_or-append-add front rest (k + j) 0) ∙ ap (slice_index (front ++ rest)) same ∙ o.reads j h;
  }

  occurs_before : OccursAt rest head_end k → OccursAt (front ++ rest) head_end (length front + k)
  occurs_before o = record {
    fits = let f : k + 4 ≤ length rest = o.fits in omega (arith, f, length-append front rest);
    reads = λ j h.
        let same : length front + k + j ≡ length front + (k + j) = omega arith in
        ap (slice_index (front ++ rest)) same ∙ get_or-append-add front rest (k + j) 0 ∙ o.reads j h;
  }

-- what stands at a place behind a line
byte_behind : (l rest : List ℕ) (k j b : ℕ) → OccursAt (l ++ rest) head_end k → j < 4 → slice_index head_end j ≡ b → (i : ℕ) → k + j ≡ length l + i → slice_index rest i ≡ b
byte_behind l rest k j b o h is i place = sym (get_or-append-add l rest i 0) ∙ ap (slice_index (l ++ rest)) (sym place) ∙ o.reads j h ∙ is

not_in_line : (l rest : List ℕ) → IsLine l → (k : ℕ) → k < length l → OccursAt (l ++ rest) head_end k → ⊥
not_in_line l rest is k h o =
    let place : k + 0 ≡ k = omega arith in
    let some : 0 < 4 = omega arith in
    plain_at l k is.1 h (sym (get_or_append_left l rest 0 k h) ∙ ap (slice_index (l ++ rest)) (sym place) ∙ o.reads 0 some)

-- the next line doesn't begin with CR
first_plain : (l rest : List ℕ) → IsLine l → slice_index (l ++ rest) 0 ≡ 13 → ⊥
first_plain l rest is e = plain_at l 0 is.1 is.0 (sym (get_or_append_left l rest 0 0 is.0) ∙ e)

-- the end of the head stands at the place, and nowhere before it
abbrev Ends : List ℕ → ℕ → Type 0
Ends text p = OccursAt text head_end p × Nowhere (OccursAt text head_end) 0 p

last_line : (l rest : List ℕ) → IsLine l → (p : ℕ) → p ≡ length l → Ends (l ++ 13 ∷ 10 ∷ 13 ∷ 10 ∷ rest) p
last_line l rest is p at =
    let place : length l + 0 ≡ p = omega (arith, at) in (
      subst (OccursAt (l ++ 13 ∷ 10 ∷ 13 ∷ 10 ∷ rest) head_end) place (occurs_before l (13 ∷ 10 ∷ 13 ∷ 10 ∷ rest) 0 (at_front rest)),
      λ k low high. not_in_line l (13 ∷ 10 ∷ 13 ∷ 10 ∷ rest) is k (omega (arith, high, at)),
    )

-- a line more, before one that doesn't begin with CR
line_more : (l text : List ℕ) (q p : ℕ) → IsLine l → (slice_index text 0 ≡ 13 → ⊥) → Ends text q → p ≡ length l + 2 + q → Ends (l ++ 13 ∷ 10 ∷ text) p
line_more l text q p is other ends at =
    let front : List ℕ = l ++ 13 ∷ 10 ∷ [] in
    let joined : front ++ text ≡ l ++ 13 ∷ 10 ∷ text = append_assoc l (13 ∷ 10 ∷ []) text in
    let long : length front ≡ length l + 2 = length-append l (13 ∷ 10 ∷ []) in
    let place : length front + q ≡ p = omega (arith, at, long) in (
      subst (λ t. OccursAt t head_end p) joined (subst (OccursAt (front ++ text) head_end) place (occurs_before front text q ends.0)),
      λ k low high o. elim (cases_lt k (length l)) [
        | inl inside ↦ not_in_line l (13 ∷ 10 ∷ text) is k inside o
        | inr behind ↦ elim (cases_lt k (length l + 2)) [
          | inl near ↦ elim (cases_lt k (length l + 1)) [
            | inl first ↦ let two : 2 < 4 = omega arith in other (byte_behind l (13 ∷ 10 ∷ text) k 2 13 o two refl 2 (omega (arith, behind, first)))
            | inr second ↦
                let zero_in : 0 < 4 = omega arith in
                let e : 10 ≡ 13 = byte_behind l (13 ∷ 10 ∷ text) k 0 13 o zero_in refl 1 (omega (arith, near, second)) in
                absurd (omega (arith, e))
          ]
          | inr far ↦
              let same : k ≡ length front + (k - (length l + 2)) = omega (arith, far, long) in
              ends.1 (k - (length l + 2)) (omega arith) (omega (arith, high, at, far))
              (occurs_behind front text (k - (length l + 2)) (subst (λ t. OccursAt t head_end (length front + (k - (length l + 2)))) (sym joined) (subst (OccursAt (l ++ 13 ∷ 10 ∷ text) head_end) same o)))
        ]
      ],
    )

pub length_lines : (l : List ℕ) (ls : List (List ℕ)) → length (lines_text (l ∷ ls)) ≡ length l + 2 + length (lines_text ls)
length_lines l ls = let whole = length-append l (13 ∷ 10 ∷ lines_text ls) in omega (arith, whole)

least_lines : (ls : List (List ℕ)) → 2 ≤ length (lines_text ls)
least_lines [] = omega arith
least_lines (l ∷ ls) = omega (arith, length_lines l ls)

lines_end : (l : List ℕ) (ls : List (List ℕ)) (rest : List ℕ) → IsLine l → AreLines ls → (p : ℕ) → length (lines_text (l ∷ ls)) ≡ p + 4 → Ends (lines_text (l ∷ ls) ++ rest) p
lines_end l [] rest is are p at =
    let joined : (l ++ 13 ∷ 10 ∷ 13 ∷ 10 ∷ []) ++ rest ≡ l ++ 13 ∷ 10 ∷ 13 ∷ 10 ∷ rest = append_assoc l (13 ∷ 10 ∷ 13 ∷ 10 ∷ []) rest in
    let long = length_lines l [] in
    subst (λ t. Ends t p) (sym joined) (last_line l rest is p (omega (arith, at, long)))
lines_end l (m ∷ ms) rest is are p at =
    let joined : (l ++ 13 ∷ 10 ∷ lines_text (m ∷ ms)) ++ rest ≡ l ++ 13 ∷ 10 ∷ (lines_text (m ∷ ms) ++ rest) = append_assoc l (13 ∷ 10 ∷ lines_text (m ∷ ms)) rest in
    let long = length_lines l (m ∷ ms) in
    let more = length_lines m ms in
    let least = least_lines ms in
    let some : 0 < length m = are.0.0 in
    let begins : (m ++ 13 ∷ 10 ∷ lines_text ms) ++ rest ≡ m ++ (13 ∷ 10 ∷ (lines_text ms ++ rest)) = append_assoc m (13 ∷ 10 ∷ lines_text ms) rest in
    subst (λ t. Ends t p) (sym joined)
    (line_more l (lines_text (m ∷ ms) ++ rest) (p - (length l + 2)) p is
    (λ e. first_plain m (13 ∷ 10 ∷ (lines_text ms ++ rest)) are.0 (ap (λ t. slice_index t 0) (sym begins) ∙ e))
    (lines_end m ms rest are.0 are.1 (p - (length l + 2)) (omega (arith, at, long, more, least, some)))
    (omega (arith, at, long, more, least, some)))

pub head_length : (l : List ℕ) (ls : List (List ℕ)) (rest : List ℕ) → IsLine l → AreLines ls → length (lines_text (l ∷ ls)) ≤ most_head → IsHeadLength (lines_text (l ∷ ls) ++ rest) (length (lines_text (l ∷ ls)))
head_length l ls rest is are short =
    let least = least_lines ls in
    let long = length_lines l ls in
    let some : 0 < length l = is.0 in
    let four : 4 ≤ length (lines_text (l ∷ ls)) = by_line l ls is in
    let ends = lines_end l ls rest is are (length (lines_text (l ∷ ls)) - 4) (omega (arith, four)) in
    record { least = four; most = short; ends = ends.0; first = ends.1 }
  where
    by_line : (l : List ℕ) (ls : List (List ℕ)) → IsLine l → 4 ≤ length (lines_text (l ∷ ls))
    by_line l ls is = let least = least_lines ls in let long = length_lines l ls in omega (arith, least, long)

-- ---- what the head says

pub nil-append : (xs : List ℕ) → [] ++ xs ≡ xs
nil-append xs = refl

-- a field as the grammar has it: the value stands behind a space
abbrev pub field : NamedValue → Field
field p = record { name = p.0; raw = 32 ∷ p.1; end = crlf }

-- its line
abbrev pub field_line : NamedValue → List ℕ
field_line p = p.0 ++ 58 ∷ 32 ∷ p.1

-- a name and a value that may stand in a line, with no blanks around the value
pub record IsPair (p : NamedValue) : Type 0 where
  pub token : is_token p.0 ≡ true
  pub name : list_all no_return p.0 ≡ true
  pub bytes : list_all is_value_byte p.1 ≡ true
  pub value : list_all no_return p.1 ≡ true
  pub front : skip_ows p.1 ≡ p.1
  pub back : skip_ows (reverse p.1) ≡ reverse p.1

abbrev pub ArePairs : List NamedValue → Type 0
ArePairs [] = ⊤
ArePairs (p ∷ ps) = IsPair p × ArePairs ps

some_length : (xs : List ℕ) → nat_lt 0 (length xs) ≡ true → 0 < length xs
some_length xs e = grind (arith, nat_tests)

is_field : (p : NamedValue) → IsPair p → IsField (field p)
is_field p is =
    let parts = and_parts (nat_lt 0 (length p.0)) (list_all is_token_byte p.0) is.token in
    record {
      name = (some_length p.0 parts.0, AllPass-from_list_all is_token_byte p.0 parts.1);
      raw = All-cons (λ b. IsTrue (is_value_byte b)) 32 p.1 refl (AllPass-from_list_all is_value_byte p.1 is.bytes);
    }

pub all_fields : (ps : List NamedValue) → ArePairs ps → All IsField (map field ps)
all_fields [] are = All-nil IsField
all_fields (p ∷ ps) are = All-cons IsField (field p) (map field ps) (is_field p are.0) (all_fields ps are.1)

is_line : (p : NamedValue) → IsPair p → IsLine (field_line p)
is_line p is =
    let whole = length-append p.0 (58 ∷ 32 ∷ p.1) in (
      omega (arith, whole),
      list_all-append no_return p.0 (58 ∷ 32 ∷ p.1) ∙ and_from (list_all no_return p.0) (list_all no_return (58 ∷ 32 ∷ p.1)) is.name is.value,
    )

pub are_lines_of : (ps : List NamedValue) → ArePairs ps → AreLines (map field_line ps)
are_lines_of [] are = tt
are_lines_of (p ∷ ps) are = (is_line p are.0, are_lines_of ps are.1)

regroup : (a b s : List ℕ) → (a ++ 58 ∷ 32 ∷ b) ++ 13 ∷ 10 ∷ (s ++ 13 ∷ 10 ∷ []) ≡ (((a ++ 58 ∷ 32 ∷ b) ++ 13 ∷ 10 ∷ []) ++ s) ++ 13 ∷ 10 ∷ []
regroup a b s = simp (append_assoc, cons-append, nil-append)

pub printed : (ps : List NamedValue) → lines_text (map field_line ps) ≡ print_section (map field ps) crlf
printed [] = refl
printed (p ∷ ps) =
    let later : List ℕ = flat_map print_field (map field ps) in
    ap (λ t. (p.0 ++ 58 ∷ 32 ∷ p.1) ++ 13 ∷ 10 ∷ t) (printed ps) ∙ regroup p.0 p.1 later

abbrev ok_status : List ℕ
ok_status = codes "HTTP/1.1 200 OK"

abbrev head_of : List NamedValue → ResponseHead
head_of ps = record { blank = []; minor = 1; digits = codes "200"; reason = Some (codes "OK"); line_end = crlf; fields = map field ps; last = crlf }

abbrev head_text : List NamedValue → List ℕ
head_text ps = lines_text (ok_status ∷ map field_line ps)

printed_head : (ps : List NamedValue) → head_text ps ≡ print_response (head_of ps) ++ []
unfolding print_response
printed_head ps = ap (λ section. ok_status ++ 13 ∷ 10 ∷ section) (printed ps) ∙ sym (append-nil (ok_status ++ 13 ∷ 10 ∷ print_section (map field ps) crlf))

reads_head : (ps : List NamedValue) → ArePairs ps → ReadsResponse (head_text ps) (head_of ps) []
reads_head ps are = (
  record {
    minor = omega arith;
    digits = (refl, AllPass-from_list_all is_ascii_digit (codes "200") refl);
    reason = AllPass-from_list_all is_value_byte (codes "OK") refl;
    fields = all_fields ps are;
  },
  printed_head ps,
)

pub valued : (ps : List NamedValue) → ArePairs ps → map name_and_value (map field ps) ≡ ps
valued [] are = refl
valued (p ∷ ps) are = λ i. (p.0, trim_ows_space p.1 are.0.front are.0.back i) ∷ valued ps are.1 i

module _ (ps : List NamedValue) (are : ArePairs ps) (few : length ps ≤ most_fields) (prefix : Option ℕ) (prefix_is : stated_prefix ps ≡ prefix) where
  says : (n : ℕ) → stated_length ps ≡ Some n → SaysReply (head_text ps) n prefix
  says n length_is =
      let fields : map name_and_value (map field ps) ≡ ps = valued ps are in
      record {
        head = head_of ps;
        reads = reads_head ps are;
        few = subst (λ m. m ≤ most_fields) (sym (length-map ps field)) few;
        version = refl;
        code = refl;
        length_is = ap stated_length fields ∙ length_is;
        prefix_is = ap stated_prefix fields ∙ prefix_is;
      }

  module _ (due : Due) (short : length (head_text ps) ≤ most_head) (fits : FitsPrefix due prefix) where
    begins : (rest : List ℕ) (n : ℕ) → stated_length ps ≡ Some n → BeginsReply due (head_text ps ++ rest) (length (head_text ps)) n prefix
    begins rest n length_is = record {
      ends = head_length ok_status (map field_line ps) rest (omega arith, refl) (are_lines_of ps are) short;
      says = subst (λ t. SaysReply t n prefix) (sym (take_at (head_text ps) rest (length (head_text ps)) refl)) (says n length_is);
      fits = fits;
    }

    -- a head with these fields, and then the body that they tell the length of, is a reply in form
    replied : (body rest : List ℕ) → stated_length ps ≡ Some (length body) → FitsBody due prefix body → IsReply due (head_text ps ++ (body ++ rest)) body rest
    replied body rest length_is told = record {
      head_length = length (head_text ps);
      prefix = prefix;
      begins = begins (body ++ rest) (length body) length_is;
      told = told;
      rest_is = drop_at (head_text ps) (body ++ rest) (length (head_text ps)) refl;
    }

-- ---- numbers in it

pub each_digit : (test : ℕ → Bool) → ((b : ℕ) → is_ascii_digit b ≡ true → test b ≡ true) → (ds : List ℕ) → list_all is_ascii_digit ds ≡ true → list_all test ds ≡ true
each_digit test passes [] all = refl
each_digit test passes (d ∷ ds) all =
    let parts = and_parts (is_ascii_digit d) (list_all is_ascii_digit ds) all in
    and_from (test d) (list_all test ds) (passes d parts.0) (each_digit test passes ds parts.1)

pub digit_plain : (b : ℕ) → is_ascii_digit b ≡ true → no_return b ≡ true
digit_plain b e = grind (arith, nat_tests)

digit_value_byte : (b : ℕ) → is_ascii_digit b ≡ true → is_value_byte b ≡ true
digit_value_byte b e = grind (arith, nat_tests)

digit_no_blank : (b : ℕ) → is_ascii_digit b ≡ true → false ≡ is_ows b
digit_no_blank b e = grind (arith, nat_tests)

skip_digits : (ds : List ℕ) → list_all is_ascii_digit ds ≡ true → skip_ows ds ≡ ds
skip_digits [] all = refl
skip_digits (d ∷ ds) all = skip_ows_no refl (digit_no_blank d (and_parts (is_ascii_digit d) (list_all is_ascii_digit ds) all).0)

reverse_digits : (ds : List ℕ) → list_all is_ascii_digit ds ≡ true → list_all is_ascii_digit (reverse ds) ≡ true
reverse_digits ds all = list_all-from_AllPass is_ascii_digit (reverse ds) (AllPass-reverse is_ascii_digit ds (AllPass-from_list_all is_ascii_digit ds all))

number_pair : (name : List ℕ) (n : ℕ) → n < 2 ^ 64 → is_token name ≡ true → list_all no_return name ≡ true → IsPair (name, decimal n)
number_pair name n small token plain =
    let all : list_all is_ascii_digit (decimal n) ≡ true = decimal_digits n small in
    record {
      token = token;
      name = plain;
      bytes = each_digit is_value_byte digit_value_byte (decimal n) all;
      value = each_digit no_return digit_plain (decimal n) all;
      front = skip_digits (decimal n) all;
      back = skip_digits (reverse (decimal n)) (reverse_digits (decimal n) all);
    }

all_three : (a b c : Bool) (x : Option ℕ) → a ≡ true → b ≡ true → c ≡ true → (if a && b && c then x else None) ≡ x
all_three a b c x p q r = rw (p, q, r) refl

length_read : (n : ℕ) → n ≤ most_body → length_in (decimal n) ≡ Some n
length_read n low =
    let small : n < 2 ^ 64 = omega (arith, low) in
    let value : digits_value 10 (decimal n) ≡ n = (decimal_is_IsNumeral n small).1 in
    let some : 0 < length (decimal n) = decimal_nonempty n small in
    let short : length (decimal n) ≤ 8 = length-decimal-le 8 n (omega arith) (omega (arith, low)) small in
    let digits : is_digits (decimal n) ≡ true = and_from (nat_lt 0 (length (decimal n))) (list_all is_ascii_digit (decimal n)) (grind (arith, nat_tests)) (decimal_digits n small) in
    let few : nat_le (length (decimal n)) 8 ≡ true = grind (arith, nat_tests) in
    let most : nat_le (digits_value 10 (decimal n)) most_body ≡ true = rw value (grind (arith, nat_tests)) in
    all_three (is_digits (decimal n)) (nat_le (length (decimal n)) 8) (nat_le (digits_value 10 (decimal n)) most_body) (Some (digits_value 10 (decimal n))) digits few most
    ∙ ap Some value

prefix_read : PlainIsRead → (k : ℕ) → k < 2 ^ 32 → prefix_in (decimal k) ≡ Some k
prefix_read plain k low =
    let below : nat_lt k (2 ^ 32) ≡ true = grind (arith, nat_tests) in
    ap (option_and_then (λ m. if nat_lt m (2 ^ 32) then Some m else None)) (plain.written k (omega (arith, low))) ∙ ap (λ b. if b then Some k else None) below

-- ---- the heads that are written

abbrev type_of : Bool → List ℕ
type_of true = codes "text/plain"
type_of false = codes "application/fits"

abbrev kind_of : Bool → Kind
kind_of text = if text then kind.Text else kind.Fits

-- the fields of a reply that is of a state
abbrev state_fields : Bool → ℕ → ℕ → List NamedValue
state_fields text n k = (codes "Content-Type", type_of text) ∷ (codes "Content-Length", decimal n) ∷ (codes "Survey-Prefix", decimal k) ∷ []

-- those of the last reply
abbrev last_fields : ℕ → List NamedValue
last_fields n = (codes "Content-Type", codes "text/plain") ∷ (codes "Content-Length", decimal n) ∷ (codes "Connection", codes "close") ∷ []

type_pair : (text : Bool) → IsPair (codes "Content-Type", type_of text)
unfolding is_token_byte
type_pair true = record { token = refl; name = refl; bytes = refl; value = refl; front = refl; back = refl }
type_pair false = record { token = refl; name = refl; bytes = refl; value = refl; front = refl; back = refl }

close_pair : IsPair (codes "Connection", codes "close")
unfolding is_token_byte
close_pair = record { token = refl; name = refl; bytes = refl; value = refl; front = refl; back = refl }

length_pair : (n : ℕ) → n < 2 ^ 64 → IsPair (codes "Content-Length", decimal n)
unfolding is_token_byte
length_pair n small = number_pair (codes "Content-Length") n small refl refl

prefix_pair : (n : ℕ) → n < 2 ^ 64 → IsPair (codes "Survey-Prefix", decimal n)
unfolding is_token_byte
prefix_pair n small = number_pair (codes "Survey-Prefix") n small refl refl

-- the first line
two_hundred : decimal 200 ≡ codes "200"
unfolding digits
two_hundred = refl

status_is : status_line 200 ≡ ok_status ++ 13 ∷ 10 ∷ []
status_is = ap (λ d. ((codes "HTTP/1.1 " ++ d) ++ codes " " ++ codes "OK") ++ 13 ∷ 10 ∷ []) two_hundred

-- the lines with their ends, one after another
state_group : (s t a n b k : List ℕ) → (((((s ++ []) ++ t) ++ ((a ++ n) ++ 13 ∷ 10 ∷ [])) ++ ((b ++ k) ++ 13 ∷ 10 ∷ [])) ++ []) ++ 13 ∷ 10 ∷ []
    ≡ s ++ (t ++ (a ++ (n ++ 13 ∷ 10 ∷ (b ++ (k ++ 13 ∷ 10 ∷ 13 ∷ 10 ∷ [])))))
state_group s t a n b k = simp (append_assoc, cons-append, nil-append)

last_group : (s t a n c : List ℕ) → (((((s ++ []) ++ t) ++ ((a ++ n) ++ 13 ∷ 10 ∷ [])) ++ []) ++ (c ++ 13 ∷ 10 ∷ [])) ++ 13 ∷ 10 ∷ []
    ≡ s ++ (t ++ (a ++ (n ++ 13 ∷ 10 ∷ (c ++ 13 ∷ 10 ∷ 13 ∷ 10 ∷ []))))
last_group s t a n c = simp (append_assoc, cons-append, nil-append)

type_first : (text : Bool) (rest : List ℕ) → ok_status ++ 13 ∷ 10 ∷ (type_line (kind_of text) ++ rest) ≡ ok_status ++ 13 ∷ 10 ∷ (field_line (codes "Content-Type", type_of text) ++ 13 ∷ 10 ∷ rest)
type_first true rest = refl
type_first false rest = refl

state_head : (text : Bool) (n k : ℕ)
    → reply_head (record { code = 200; allow = allow.Absent; kind = kind_of text; number = number.Prefix k; length = n; close = false }) ≡ head_text (state_fields text n k)
unfolding reply_head
state_head text n k =
    ap (λ s. (((((s ++ []) ++ type_line (kind_of text)) ++ ((codes "Content-Length: " ++ decimal n) ++ 13 ∷ 10 ∷ [])) ++ ((codes "Survey-Prefix: " ++ decimal k) ++ 13 ∷ 10 ∷ [])) ++ []) ++ 13 ∷ 10 ∷ []) status_is
    ∙ state_group (ok_status ++ 13 ∷ 10 ∷ []) (type_line (kind_of text)) (codes "Content-Length: ") (decimal n) (codes "Survey-Prefix: ") (decimal k)
    ∙ type_first text (codes "Content-Length: " ++ (decimal n ++ 13 ∷ 10 ∷ (codes "Survey-Prefix: " ++ (decimal k ++ 13 ∷ 10 ∷ 13 ∷ 10 ∷ []))))

last_head : (n : ℕ) → reply_head (record { code = 200; allow = allow.Absent; kind = kind.Text; number = number.Absent; length = n; close = true }) ≡ head_text (last_fields n)
unfolding reply_head
last_head n =
    ap (λ s. (((((s ++ []) ++ type_line kind.Text) ++ ((codes "Content-Length: " ++ decimal n) ++ 13 ∷ 10 ∷ [])) ++ []) ++ (codes "Connection: close" ++ 13 ∷ 10 ∷ [])) ++ 13 ∷ 10 ∷ []) status_is
    ∙ last_group (ok_status ++ 13 ∷ 10 ∷ []) (type_line kind.Text) (codes "Content-Length: ") (decimal n) (codes "Connection: close")

state_short : (text : Bool) (n k : ℕ) → n < 10 ^ 10 → k < 10 ^ 10 → length (head_text (state_fields text n k)) ≤ most_head
state_short text n k low less =
    let long : length (decimal n) ≤ 10 = length-decimal-le 10 n (omega arith) low (omega (arith, low)) in
    let more : length (decimal k) ≤ 10 = length-decimal-le 10 k (omega arith) less (omega (arith, less)) in
    let type : length (type_of text) ≤ 16 = of_type text in
    let ls : List (List ℕ) = map field_line (state_fields text n k) in
    omega (
      arith,
      long,
      more,
      type,
      length_lines ok_status (field_line (codes "Content-Type", type_of text) ∷ field_line (codes "Content-Length", decimal n) ∷ field_line (codes "Survey-Prefix", decimal k) ∷ []),
      length_lines (field_line (codes "Content-Type", type_of text)) (field_line (codes "Content-Length", decimal n) ∷ field_line (codes "Survey-Prefix", decimal k) ∷ []),
      length_lines (field_line (codes "Content-Length", decimal n)) (field_line (codes "Survey-Prefix", decimal k) ∷ []),
      length_lines (field_line (codes "Survey-Prefix", decimal k)) [],
    )
  where
    of_type : (text : Bool) → length (type_of text) ≤ 16
    of_type true = omega arith
    of_type false = omega arith

last_short : (n : ℕ) → n < 10 ^ 10 → length (head_text (last_fields n)) ≤ most_head
last_short n low =
    let long : length (decimal n) ≤ 10 = length-decimal-le 10 n (omega arith) low (omega (arith, low)) in
    omega (
      arith,
      long,
      length_lines ok_status (field_line (codes "Content-Type", codes "text/plain") ∷ field_line (codes "Content-Length", decimal n) ∷ field_line (codes "Connection", codes "close") ∷ []),
      length_lines (field_line (codes "Content-Type", codes "text/plain")) (field_line (codes "Content-Length", decimal n) ∷ field_line (codes "Connection", codes "close") ∷ []),
      length_lines (field_line (codes "Content-Length", decimal n)) (field_line (codes "Connection", codes "close") ∷ []),
      length_lines (field_line (codes "Connection", codes "close")) [],
    )

-- ---- the replies that are written

-- a reply of a state, with a text or a FITS file
pub state_reply : PlainIsRead → (text : Bool) (k : ℕ) (body rest : List ℕ) (due : Due) → k < 2 ^ 32 → length body ≤ most_body → FitsPrefix due (Some k) → FitsBody due (Some k) body
    → IsReply due (reply_bytes (record { code = 200; allow = allow.Absent; kind = kind_of text; number = number.Prefix k; length = length body; close = false }) body ++ rest) body rest
state_reply plain text k body rest due low most fits told =
    let ps : List NamedValue = state_fields text (length body) k in
    let joined = ap (λ h. (h ++ body) ++ rest) (state_head text (length body) k) ∙ append_assoc (head_text ps) body rest in
    subst (λ t. IsReply due t body rest) (sym joined)
    (replied ps (type_pair text, (length_pair (length body) (omega (arith, most)), (prefix_pair k (omega (arith, low)), tt))) (omega arith) (Some k) (prefix_read plain k low) due
    (state_short text (length body) k (omega (arith, most)) (omega (arith, low))) fits body rest (length_read (length body) most) told)

-- the last reply, whatever it is of
pub last_reply : (body rest : List ℕ) (due : Due) → length body ≤ most_body → FitsPrefix due None → FitsBody due None body
    → IsReply due (reply_bytes (record { code = 200; allow = allow.Absent; kind = kind.Text; number = number.Absent; length = length body; close = true }) body ++ rest) body rest
last_reply body rest due most fits told =
    let ps : List NamedValue = last_fields (length body) in
    let joined = ap (λ h. (h ++ body) ++ rest) (last_head (length body)) ∙ append_assoc (head_text ps) body rest in
    subst (λ t. IsReply due t body rest) (sym joined)
    (replied ps (type_pair true, (length_pair (length body) (omega (arith, most)), (close_pair, tt))) (omega arith) None refl due
    (last_short (length body) (omega (arith, most))) fits body rest (length_read (length body) most) told)
