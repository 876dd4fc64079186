-- A request of a copy is read as what it asks for.
use Rattle.std.proofs.Common.{◌≡◌, ℕ, ◌+◌, ◌-◌, ◌<◌, ◌≤◌, ◌^◌, Bool, true, false, cond, not, List, [], ◌∷◌, ◌++◌, Some, None, length, drop, map, refl, sym, ap, ◌∙◌, subst, arith, append_assoc, length-append, codes}
use Rattle.std.specs.Prelude.{decimal, ◌&&◌, ◌||◌, ◌==◌, nat_lt, IsAscii, ⊤}
use Rattle.std.specs.List.{list_all, position_or_len, before_first}
use Rattle.std.specs.Char.{is_ascii_alphanumeric, is_ascii_digit}
use Rattle.std.proofs.lemmas.Bool.{and_parts, and_from}
use Rattle.std.proofs.lemmas.Bool.Decides.{nat_tests}
use Rattle.std.proofs.lemmas.List.{append-nil, take_at, drop_at, length-map, take_all}
use Rattle.std.proofs.lemmas.List.Folds.{list_all-append}
use Rattle.std.proofs.lemmas.List.Sums.{AllPass-from_list_all}
use Rattle.std.proofs.lemmas.Fmt.{length-decimal-le}
use Rattle.std.proofs.lemmas.Str.{IsUtf8-from_ascii}
use Rattle.std.proofs.lemmas.Str.Ascii.{IsAscii-nil, IsAscii-cons}
use Rattle.httparse.specs.Grammar.{is_token_byte, is_uri_byte, crlf, print_section, RequestHead, print_request, ReadsRequest, IsToken, trim_ows}
use Rattle.httparse.specs.Spans.{name_and_value}
use Rattle.httparse.proofs.GrammarLemmas.{cons-append}
use Rattle.percent_encoding.specs.Percent.{percent_decode}
use Rattle.decimal_scale.proofs.RoundTrip.{decimal_digits}
use Rattle.tile_path.specs.Spelling.{spelling, folder_number}
use Rattle.tile_path.specs.declared.path.Path.{Path}
use Rattle.tile_path.specs.declared.path.Path.TheVariants as path
use Rattle.http_frame.specs.Fields.{NamedValue}
use Rattle.http_frame.specs.Target.{question_mark, local_part, decoded_path, path_of}
use Rattle.http_frame.specs.Request.{asked_of, method_of}
use Rattle.http_frame.specs.Refusal.{first_line, ends_in_other_version, names_other_version, is_version, is_known_version, most_fields, framing_refusal}
use Rattle.http_frame.specs.Next.{most_head, IsTaken, IsWhole}
use Rattle.http_frame.specs.declared.request.Request.{Request}
use Rattle.http_frame.specs.declared.request.Tags.TheVariants as tags
use Rattle.http_frame.specs.declared.request.Method.{Method}
use Rattle.http_frame.specs.declared.request.Method.TheVariants.{Get, Post}
use Rattle.mirror_frame.specs.declared.ask.Ask.{Ask}
use Rattle.mirror_frame.specs.declared.ask.Ask.TheVariants.{Pin, File, Unpin}
use Rattle.mirror_frame.specs.Requests.{request_bytes}
use Rattle.hips_mirror.proofs.HeadLemmas.{no_return, IsLine, lines_text, length_lines, head_length, nil-append, field, field_line, IsPair, ArePairs, all_fields, are_lines_of, printed, valued, each_digit}

-- ---- the bytes of a path

-- a byte of a path: a letter, a digit, `.` or `/`
pub is_path_byte : ℕ → Bool
is_path_byte b = is_ascii_alphanumeric b || b == 46 || b == 47

digit_in_path : (b : ℕ) → is_ascii_digit b ≡ true → is_path_byte b ≡ true
unfolding is_path_byte
digit_in_path b e = grind (arith, nat_tests)

path_plain : (b : ℕ) → is_path_byte b ≡ true → no_return b ≡ true
unfolding is_path_byte
path_plain b e = grind (arith, nat_tests)

path_uri : (b : ℕ) → is_path_byte b ≡ true → is_uri_byte b ≡ true
unfolding is_path_byte
path_uri b e = grind (arith, nat_tests)

path_no_query : (b : ℕ) → is_path_byte b ≡ true → (b == question_mark) ≡ false
unfolding is_path_byte
path_no_query b e = grind (arith, nat_tests)

path_no_escape : (b : ℕ) → is_path_byte b ≡ true → (b == 37) ≡ false
unfolding is_path_byte
path_no_escape b e = grind (arith, nat_tests)

path_ascii : (b : ℕ) → is_path_byte b ≡ true → b < 128
unfolding is_path_byte
path_ascii b e = grind (arith, nat_tests)

-- each byte of a text of such bytes passes
each_path : (test : ℕ → Bool) → ((b : ℕ) → is_path_byte b ≡ true → test b ≡ true) → (text : List ℕ) → list_all is_path_byte text ≡ true → list_all test text ≡ true
each_path test passes [] all = refl
each_path test passes (b ∷ bs) all =
    let parts = and_parts (is_path_byte b) (list_all is_path_byte bs) all in
    and_from (test b) (list_all test bs) (passes b parts.0) (each_path test passes bs parts.1)

-- it stands before no query, and has no escapes
no_query : (text : List ℕ) → list_all is_path_byte text ≡ true → position_or_len (λ b. b == question_mark) text ≡ length text
no_query [] all = refl
no_query (b ∷ bs) all =
    let parts = and_parts (is_path_byte b) (list_all is_path_byte bs) all in
    let later : position_or_len (λ b. b == question_mark) bs ≡ length bs = no_query bs parts.1 in
    let one : position_or_len (λ b. b == question_mark) (b ∷ bs) ≡ 1 + position_or_len (λ b. b == question_mark) bs =
    ap (λ t. cond (not t) (1 + position_or_len (λ b. b == question_mark) bs) 0) (path_no_query b parts.0) in
    omega (arith, later, one)

pub no_escapes : (text : List ℕ) → list_all is_path_byte text ≡ true → percent_decode text ≡ text
unfolding percent_decode
no_escapes [] all = refl
no_escapes (b ∷ []) all = refl
no_escapes (b ∷ c ∷ []) all = refl
no_escapes (b ∷ c ∷ d ∷ rest) all =
    let parts = and_parts (is_path_byte b) (list_all is_path_byte (c ∷ d ∷ rest)) all in
    rw (path_no_escape b parts.0) (ap (λ t. b ∷ t) (no_escapes (c ∷ d ∷ rest) parts.1))

ascii : (text : List ℕ) → list_all is_path_byte text ≡ true → IsAscii text
ascii [] all = IsAscii-nil
ascii (b ∷ bs) all =
    let parts = and_parts (is_path_byte b) (list_all is_path_byte bs) all in
    IsAscii-cons b bs (path_ascii b parts.0) (ascii bs parts.1)

-- ---- how paths are spelled

path_text : (a b : List ℕ) → list_all is_path_byte a ≡ true → list_all is_path_byte b ≡ true → list_all is_path_byte (a ++ b) ≡ true
path_text a b first second = list_all-append is_path_byte a b ∙ and_from (list_all is_path_byte a) (list_all is_path_byte b) first second

number_text : (n : ℕ) → n < 2 ^ 64 → list_all is_path_byte (decimal n) ≡ true
number_text n small = each_digit is_path_byte digit_in_path (decimal n) (decimal_digits n small)

-- a path whose numbers fit 64 bits, as those of a program do
abbrev HasNumbers : Path → Type 0
HasNumbers path.Properties = ⊤
HasNumbers path.Moc = ⊤
HasNumbers path.Allsky = ⊤
HasNumbers (path.Tile cell) = (cell.order < 2 ^ 64) × (cell.npix < 2 ^ 64)

folder_low : (npix : ℕ) → npix < 2 ^ 64 → folder_number npix < 2 ^ 64
folder_low npix low = omega (arith, low)

spelled : (p : Path) → HasNumbers p → list_all is_path_byte (spelling p) ≡ true
unfolding is_path_byte
spelled path.Properties has = refl
spelled path.Moc has = refl
spelled path.Allsky has = refl
spelled (path.Tile cell) has =
    let order = number_text cell.order has.0 in
    let folder = number_text (folder_number cell.npix) (folder_low cell.npix has.1) in
    let npix = number_text cell.npix has.1 in
    let a : List ℕ = codes "Norder" ++ decimal cell.order in
    let b : List ℕ = a ++ codes "/Dir" in
    let c : List ℕ = b ++ decimal (folder_number cell.npix) in
    let d : List ℕ = c ++ codes "/Npix" in
    let e : List ℕ = d ++ decimal cell.npix in
    path_text e (codes ".fits") (path_text d (decimal cell.npix) (path_text c (codes "/Npix") (path_text b (decimal (folder_number cell.npix)) (path_text a (codes "/Dir") (path_text (codes "Norder") (decimal cell.order) refl order) refl) folder) refl) npix) refl

spelled_short : (p : Path) → HasNumbers p → length (spelling p) ≤ 100
spelled_short path.Properties has = omega arith
spelled_short path.Moc has = omega arith
spelled_short path.Allsky has = omega arith
spelled_short (path.Tile cell) has =
    let order : length (decimal cell.order) ≤ 20 = short cell.order has.0 in
    let folder : length (decimal (folder_number cell.npix)) ≤ 20 = short (folder_number cell.npix) (folder_low cell.npix has.1) in
    let npix : length (decimal cell.npix) ≤ 20 = short cell.npix has.1 in
    let a : List ℕ = codes "Norder" ++ decimal cell.order in
    let b : List ℕ = a ++ codes "/Dir" in
    let c : List ℕ = b ++ decimal (folder_number cell.npix) in
    let d : List ℕ = c ++ codes "/Npix" in
    let e : List ℕ = d ++ decimal cell.npix in
    omega (
      arith,
      order,
      folder,
      npix,
      length-append e (codes ".fits"),
      length-append d (decimal cell.npix),
      length-append c (codes "/Npix"),
      length-append b (decimal (folder_number cell.npix)),
      length-append a (codes "/Dir"),
      length-append (codes "Norder") (decimal cell.order),
    )
  where
    short : (n : ℕ) → n < 2 ^ 64 → length (decimal n) ≤ 20
    short n low = length-decimal-le 20 n (omega arith) (omega (arith, low)) low

-- ---- the head of a request

abbrev version : List ℕ
version = codes "HTTP/1.1"

abbrev first_of : List ℕ → List ℕ → List ℕ
first_of method target = (method ++ 32 ∷ target) ++ 32 ∷ version

abbrev head_of : List ℕ → List ℕ → List NamedValue → RequestHead
head_of method target ps = record { blank = []; method = method; target = target; minor = 1; line_end = crlf; fields = map field ps; last = crlf }

abbrev head_text : List ℕ → List ℕ → List NamedValue → List ℕ
head_text method target ps = lines_text (first_of method target ∷ map field_line ps)

regroup : (m t v s : List ℕ) → ((m ++ 32 ∷ t) ++ 32 ∷ v) ++ 13 ∷ 10 ∷ s ≡ ((((([] ++ m) ++ 32 ∷ t) ++ 32 ∷ v) ++ (13 ∷ 10 ∷ [])) ++ s) ++ []
regroup m t v s = simp (append_assoc, cons-append, nil-append, append-nil)

printed_head : (method target : List ℕ) (ps : List NamedValue) → head_text method target ps ≡ print_request (head_of method target ps) ++ []
unfolding print_request
printed_head method target ps = ap (λ section. first_of method target ++ 13 ∷ 10 ∷ section) (printed ps) ∙ regroup method target version (print_section (map field ps) crlf)

-- a first line has no CR and isn't empty; it ends in the version
first_is_line : (method text : List ℕ) → list_all no_return method ≡ true → list_all is_path_byte text ≡ true → IsLine (first_of method (47 ∷ text))
first_is_line method text plain is =
    let front : list_all no_return (method ++ 32 ∷ 47 ∷ text) ≡ true =
    list_all-append no_return method (32 ∷ 47 ∷ text) ∙ and_from (list_all no_return method) (list_all no_return (32 ∷ 47 ∷ text)) plain (each_path no_return path_plain text is) in (
      omega (arith, length-append (method ++ 32 ∷ 47 ∷ text) (32 ∷ version)),
      list_all-append no_return (method ++ 32 ∷ 47 ∷ text) (32 ∷ version) ∙ and_from (list_all no_return (method ++ 32 ∷ 47 ∷ text)) (list_all no_return (32 ∷ version)) front refl,
    )

no_carriage : (b : ℕ) → no_return b ≡ true → (b == 13) ≡ false
no_carriage b e = grind (arith, nat_tests)

line_first : (l rest : List ℕ) → list_all no_return l ≡ true → first_line (l ++ 13 ∷ 10 ∷ rest) ≡ l
line_first [] rest plain = refl
line_first (b ∷ []) rest plain =
    let parts = and_parts (no_return b) true plain in
    rw (no_carriage b parts.0) refl
line_first (b ∷ c ∷ l) rest plain =
    let parts = and_parts (no_return b) (list_all no_return (c ∷ l)) plain in
    rw (no_carriage b parts.0) (ap (λ t. b ∷ t) (line_first (c ∷ l) rest parts.1))

same_version : (method target : List ℕ) → ends_in_other_version (first_of method target) ≡ false
same_version method target =
    let front : List ℕ = method ++ 32 ∷ target in
    let whole : length (first_of method target) ≡ length front + 9 = length-append front (32 ∷ version) in
    let place : length (first_of method target) - 9 ≡ length front = omega (arith, whole) in
    let ended : drop (length (first_of method target) - 9) (first_of method target) ≡ 32 ∷ version =
    ap (λ n. drop n (first_of method target)) place ∙ drop_at front (32 ∷ version) (length front) refl in
    ap (λ t. is_version t && not (is_known_version t)) ended

known_version : (method text : List ℕ) (ps : List NamedValue) → list_all no_return method ≡ true → list_all is_path_byte text ≡ true → names_other_version (head_text method (47 ∷ text) ps) ≡ false
known_version method text ps plain is =
    let line = first_is_line method text plain is in
    ap ends_in_other_version (line_first (first_of method (47 ∷ text)) (lines_text (map field_line ps)) line.1) ∙ same_version method (47 ∷ text)

-- what a target names that is a slash and a path
pub path_is : (text : List ℕ) → list_all is_path_byte text ≡ true → path_of (47 ∷ text) ≡ Some text
path_is text is =
    let later : position_or_len (λ b. b == question_mark) text ≡ length text = no_query text is in
    let whole : before_first (λ b. b == question_mark) (47 ∷ text) ≡ 47 ∷ text = take_all (position_or_len (λ b. b == question_mark) (47 ∷ text)) (47 ∷ text) (omega (arith, later)) in
    ap (λ t. decoded_path (local_part t)) whole ∙ ap Some (no_escapes text is)

-- ---- one request, whole

-- what a head without body, preconditions and expectations asks for
abbrev pub plain_request : Method → Bool → Request
plain_request method close = record { method = method; length = 0; close = close; expects = false; if_match = tags.Absent; if_none_any = false }

no_refusal : (room : ℕ) → nat_lt room 0 ≡ false
no_refusal room = grind (arith, nat_tests)

module _ (method text : List ℕ) (ps : List NamedValue) (of : Method) (close : Bool) (token : IsToken method) (plain : list_all no_return method ≡ true) (is : list_all is_path_byte text ≡ true)
    (are : ArePairs ps) (few : length ps ≤ most_fields) where
  reads_head : ReadsRequest (head_text method (47 ∷ text) ps) (head_of method (47 ∷ text) ps) []
  reads_head = (
    record {
      method = token;
      target = (omega arith, AllPass-from_list_all is_uri_byte (47 ∷ text) (each_path is_uri_byte path_uri text is));
      target_text = IsUtf8-from_ascii (47 ∷ text) (IsAscii-cons 47 text (omega arith) (ascii text is));
      minor = omega arith;
      fields = all_fields ps are;
    },
    printed_head method (47 ∷ text) ps,
  )

  module _ (room : ℕ) (framed : framing_refusal room (method_of method) 1 ps ≡ None) (asks : asked_of (method_of method) 1 ps ≡ plain_request of close) where
    taken : IsTaken room (head_text method (47 ∷ text) ps) (plain_request of close) (Some text)
    taken =
        let fields : map name_and_value (map field ps) ≡ ps = valued ps are in
        record {
          target = 47 ∷ text;
          read = record {
            head = head_of method (47 ∷ text) ps;
            accepted = record {
              version = known_version method text ps plain is;
              one = record { reads = reads_head; fields = subst (λ m. m ≤ most_fields) (sym (length-map ps field)) few };
              framed = ap (framing_refusal room (method_of method) 1) fields ∙ framed;
            };
            request_is = sym (ap (asked_of (method_of method) 1) fields ∙ asks);
            target_is = refl;
          };
          path_is = sym (path_is text is);
        }

    whole : (rest : List ℕ) → length (head_text method (47 ∷ text) ps) ≤ most_head → IsWhole room (head_text method (47 ∷ text) ps ++ rest) (plain_request of close) (Some text) [] rest
    whole rest short =
        let head : List ℕ = head_text method (47 ∷ text) ps in
        record {
          after = rest;
          head = record {
            head_length = length head;
            ends = head_length (first_of method (47 ∷ text)) (map field_line ps) rest (first_is_line method text plain is) (are_lines_of ps are) short;
            taken = subst (λ t. IsTaken room t (plain_request of close) (Some text)) (sym (take_at head rest (length head) refl)) taken;
            rest_is = sym (drop_at head rest (length head) refl);
          };
          body_length = refl;
          body_is = refl;
        }

-- ---- the requests of a copy

abbrev host_pair : NamedValue
host_pair = (codes "Host", codes "mirror")

abbrev close_pair : NamedValue
close_pair = (codes "Connection", codes "close")

abbrev name_of : Ask → List ℕ
name_of Pin = codes "POST"
name_of (File path) = codes "GET"
name_of Unpin = codes "POST"

abbrev pub method_in : Ask → Method
method_in Pin = Post
method_in (File path) = Get
method_in Unpin = Post

abbrev pub asks_close : Ask → Bool
asks_close Pin = false
asks_close (File path) = false
asks_close Unpin = true

-- the path, without its leading `/`
abbrev pub path_in : Ask → List ℕ
path_in Pin = codes "pin"
path_in (File path) = spelling path
path_in Unpin = codes "unpin"

abbrev pairs_of : Ask → List NamedValue
pairs_of Pin = host_pair ∷ []
pairs_of (File path) = host_pair ∷ []
pairs_of Unpin = host_pair ∷ close_pair ∷ []

abbrev pub HasNumbersIn : Ask → Type 0
HasNumbersIn Pin = ⊤
HasNumbersIn (File path) = HasNumbers path
HasNumbersIn Unpin = ⊤

is_host : IsPair host_pair
unfolding is_token_byte
is_host = record { token = refl; name = refl; bytes = refl; value = refl; front = refl; back = refl }

is_close : IsPair close_pair
unfolding is_token_byte
is_close = record { token = refl; name = refl; bytes = refl; value = refl; front = refl; back = refl }

are_pairs : (ask : Ask) → ArePairs (pairs_of ask)
are_pairs Pin = (is_host, tt)
are_pairs (File path) = (is_host, tt)
are_pairs Unpin = (is_host, (is_close, tt))

is_name : (ask : Ask) → IsToken (name_of ask)
unfolding is_token_byte
is_name Pin = (omega arith, AllPass-from_list_all is_token_byte (codes "POST") refl)
is_name (File path) = (omega arith, AllPass-from_list_all is_token_byte (codes "GET") refl)
is_name Unpin = (omega arith, AllPass-from_list_all is_token_byte (codes "POST") refl)

plain_name : (ask : Ask) → list_all no_return (name_of ask) ≡ true
plain_name Pin = refl
plain_name (File path) = refl
plain_name Unpin = refl

is_path : (ask : Ask) → HasNumbersIn ask → list_all is_path_byte (path_in ask) ≡ true
unfolding is_path_byte
is_path Pin has = refl
is_path (File path) has = spelled path has
is_path Unpin has = refl

few_pairs : (ask : Ask) → length (pairs_of ask) ≤ most_fields
few_pairs Pin = omega arith
few_pairs (File path) = omega arith
few_pairs Unpin = omega arith

framed : (room : ℕ) (ask : Ask) → framing_refusal room (method_of (name_of ask)) 1 (pairs_of ask) ≡ None
framed room Pin = rw (no_refusal room) refl
framed room (File path) = rw (no_refusal room) refl
framed room Unpin = rw (no_refusal room) refl

asks_for : (ask : Ask) → asked_of (method_of (name_of ask)) 1 (pairs_of ask) ≡ plain_request (method_in ask) (asks_close ask)
unfolding trim_ows
asks_for Pin = refl
asks_for (File path) = refl
asks_for Unpin = refl

regroup_lines : (l a : List ℕ) → (((l ++ 13 ∷ 10 ∷ []) ++ (a ++ 13 ∷ 10 ∷ [])) ++ []) ++ 13 ∷ 10 ∷ [] ≡ l ++ 13 ∷ 10 ∷ (a ++ 13 ∷ 10 ∷ 13 ∷ 10 ∷ [])
regroup_lines l a = simp (append_assoc, cons-append, nil-append)

written : (ask : Ask) → request_bytes ask ≡ head_text (name_of ask) (47 ∷ path_in ask) (pairs_of ask)
written Pin = refl
written (File path) = regroup_lines (first_of (codes "GET") (47 ∷ spelling path)) (codes "Host: mirror")
written Unpin = refl

short_head : (ask : Ask) → HasNumbersIn ask → length (head_text (name_of ask) (47 ∷ path_in ask) (pairs_of ask)) ≤ most_head
short_head Pin has = omega arith
short_head (File path) has =
    let front : List ℕ = codes "GET" ++ 32 ∷ 47 ∷ spelling path in
    omega (
      arith,
      spelled_short path has,
      length_lines (first_of (codes "GET") (47 ∷ spelling path)) (field_line host_pair ∷ []),
      length_lines (field_line host_pair) [],
      length-append front (32 ∷ version),
      length-append (codes "GET") (32 ∷ 47 ∷ spelling path),
    )
short_head Unpin has = omega arith

pub read_whole : (room : ℕ) (ask : Ask) (rest : List ℕ) → HasNumbersIn ask → IsWhole room (request_bytes ask ++ rest) (plain_request (method_in ask) (asks_close ask)) (Some (path_in ask)) [] rest
read_whole room ask rest has =
    subst (λ t. IsWhole room (t ++ rest) (plain_request (method_in ask) (asks_close ask)) (Some (path_in ask)) [] rest) (sym (written ask))
    (whole (name_of ask) (path_in ask) (pairs_of ask) (method_in ask) (asks_close ask) (is_name ask) (plain_name ask) (is_path ask has) (are_pairs ask) (few_pairs ask) room (framed room ask) (asks_for ask) rest (short_head ask has))
