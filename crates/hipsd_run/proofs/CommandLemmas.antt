-- Lemmas for the proof that the words of a command line are read exactly.
use Rattle.std.proofs.Common.{◌≡◌, ◌≢◌, ℕ, zero, suc, ◌^◌, ◌<◌, ◌≤◌, ◌+◌, ◌*◌, List, [], ◌∷◌, length, get_or, decimal, codes, Result, Ok, Err, Option, Some, None, MatchOption, IfSome, IfNone, refl, sym, ◌∙◌, ap, subst, arith}
use Rattle.std.proofs.Math.ListN.{drop, drop_of_length-le}
use Rattle.std.proofs.Math.Seq.{drop-cons}
use Rattle.std.specs.Prelude.{String, string_bytes}
use Rattle.std.specs.declared.alloc.Global.{Global}
use Rattle.std.specs.Result.{result_ok}
use Rattle.std.specs.Str.Parse.{AllDigits, digits_value, ParsesUnsigned}
use Rattle.std.proofs.lemmas.Str.Parse.{IsNumeralModel, numerals_by_value, tells_digits, parse_plain, digit_at}
use Rattle.std.proofs.lemmas.Fmt.{decimal_digit, decimal_nonempty, first_decimal, digits_decimal, decimal-digits_value, decimal_injective, parse-decimal}
use Rattle.hipsd_run.specs.Command.{texts, Asks, IsCommand, IsCommandFor, doors_of, words_of}
use Rattle.leaf_probe.specs.Probe.{IsProbe}
use Rattle.leaf_probe.specs.declared.asked.Probe.{Probe}
use Rattle.survey_commands.specs.Make.{IsMake}
use Rattle.survey_commands.specs.Serve.{IsServe}
use Rattle.survey_commands.specs.declared.serve.AskedPlaces.{AskedPlaces}
use Rattle.survey_commands.specs.Past.{IsPast}
use Rattle.hipsd_run.specs.declared.command.Command.{Command}
use Rattle.hipsd_run.specs.declared.command.Command.TheVariants.{Probe as ProbeCommand, Session, Export, Verify, Make, Serve, Past, Catalog, Mirror}

own : IsNumeralModel (AllDigits 10) (digits_value 10)
own = numerals_by_value (AllDigits 10) tells_digits

-- how a number in plain decimals starts
pub record StartsPlain (word : List ℕ) : Type 0 where
  pub some : 0 < length word
  pub least : 48 ≤ get_or word 0 0
  pub greatest : get_or word 0 0 ≤ 57
  pub alone : get_or word 0 0 ≡ 48 → length word ≡ 1

decimal-starts_plain : (n : ℕ) → n < 2 ^ 64 → StartsPlain (decimal n)
decimal-starts_plain zero small =
    rw (decimal_digit 0 (omega arith))
    record { some = omega arith; least = omega arith; greatest = omega arith; alone = λ _. refl }
decimal-starts_plain (suc m) small =
    let first : 48 < get_or (decimal (suc m)) 0 0 = first_decimal (suc m) (omega arith) small in
    let some : 0 < length (decimal (suc m)) = decimal_nonempty (suc m) small in
    let digit = digit_at (decimal (suc m)) 0 (digits_decimal own (suc m) small) some in
    record { some = some; least = omega arith; greatest = omega arith; alone = λ e. absurd (omega arith) }

pub starts_plain : (word : List ℕ) (n : ℕ) → n < 2 ^ 64 → word ≡ decimal n → StartsPlain word
starts_plain word n small e = subst StartsPlain (sym e) (decimal-starts_plain n small)

-- what `parse` gives of a word that starts so
pub parsed_plain : {E : Type 0} (word : List ℕ) (r : Result ℕ E) → ParsesUnsigned 64 10 word r
    → 48 ≤ get_or word 0 0 → (get_or word 0 0 ≡ 48 → length word ≡ 1)
    → MatchOption (result_ok r) ((n : ℕ) → n < 2 ^ 64 → word ≢ decimal n) (λ n. word ≡ decimal n)
parsed_plain {E = E} word (Ok n) parses least alone =
    let p = parse_plain own {E = E} 64 word (Ok n) parses (λ e. omega arith) in
    sym (decimal-digits_value own word p.0.0 p.0.1 alone p.0.2) ∙ ap decimal (sym p.1)
parsed_plain {E = E} word (Err e) parses least alone =
    λ n small same. let r : Err e ≡ Ok n = parse-decimal {E = E} 64 n word (Err e) small small same parses in cc

-- ys are the items of xs from index i on
abbrev pub HasItemsAt : {A : Type 0} → List A → ℕ → List A → Type 0
HasItemsAt xs i [] = Unit {0}
HasItemsAt xs i (y ∷ ys) = (y ≡ get_or xs i y) × HasItemsAt xs (suc i) ys

items_on : {A : Type 0} (xs ys : List A) (i : ℕ) → length xs ≡ i + length ys → HasItemsAt xs i ys → drop i xs ≡ ys
items_on xs [] i n h = drop_of_length-le xs (omega arith)
items_on xs (y ∷ ys) i n h =
    drop-cons xs i y (omega arith) ∙ (λ k. sym h.0 k ∷ items_on xs ys (suc i) (omega arith) h.1 k)

-- what a slice pattern of this length reads is the whole list
pub items_from_reads : {A : Type 0} (xs ys : List A) → length xs ≡ length ys → HasItemsAt xs 0 ys → xs ≡ ys
items_from_reads xs ys n h = items_on xs ys 0 (omega arith) h

-- where the order is none of 0 to top, no probe is asked
pub no_order : (top : ℕ) → top ≤ 11 → (name n order npix : List ℕ)
    → ((m : ℕ) → 0 ≤ m → m ≤ top → order ≢ decimal m)
    → (asked : Probe) → ¬ Asks (name ∷ decimal top ∷ n ∷ order ∷ npix ∷ []) (ProbeCommand asked)
no_order top high name n order npix none asked asks =
    let spelled = asks.spelled in
    let probe : IsProbe asked = asks.in_range in
    let e : decimal top ≡ decimal asked.top = cc in
    let same : top ≡ asked.top = decimal_injective top asked.top (omega arith) (omega arith) e in
    none asked.order (omega arith) (omega arith) cc

-- words that begin with `probe` and ask for no probe ask for nothing
pub no_command : (top n order npix : List ℕ)
    → ((asked : Probe) → ¬ Asks (codes "probe" ∷ top ∷ n ∷ order ∷ npix ∷ []) (ProbeCommand asked))
    → ¬ IsCommand (codes "probe" ∷ top ∷ n ∷ order ∷ npix ∷ [])
no_command top n order npix none (ProbeCommand asked, asks) = none asked asks
no_command top n order npix none (Session, asks) = let e = asks.spelled in cc
no_command top n order npix none (Export, asks) = let e = asks.spelled in cc
no_command top n order npix none (Verify, asks) = let e = asks.spelled in cc
no_command top n order npix none (Make number edits, asks) = let e = asks.spelled in cc
no_command top n order npix none (Serve asked, asks) = let e = asks.spelled in cc
no_command top n order npix none (Past cache, asks) = let e = asks.spelled in cc
no_command top n order npix none (Catalog top' per_tile, asks) = let e = asks.spelled in cc
no_command top n order npix none (Mirror, asks) = let e = asks.spelled in cc

-- words that begin with `make` and ask for no made survey ask for nothing
pub no_make : (number edits : List ℕ)
    → ((n m : ℕ) → ¬ Asks (codes "make" ∷ number ∷ edits ∷ []) (Make n m))
    → ¬ IsCommand (codes "make" ∷ number ∷ edits ∷ [])
no_make number edits none (ProbeCommand asked, asks) = let e = asks.spelled in cc
no_make number edits none (Session, asks) = let e = asks.spelled in cc
no_make number edits none (Export, asks) = let e = asks.spelled in cc
no_make number edits none (Verify, asks) = let e = asks.spelled in cc
no_make number edits none (Make n m, asks) = none n m asks
no_make number edits none (Serve asked, asks) = let e = asks.spelled in cc
no_make number edits none (Past cache, asks) = let e = asks.spelled in cc
no_make number edits none (Catalog top' per_tile, asks) = let e = asks.spelled in cc
no_make number edits none (Mirror, asks) = let e = asks.spelled in cc

pub no_make_command : (found : Option Command) (number edits : List ℕ)
    → IfNone found ((n m : ℕ) → ¬ Asks (codes "make" ∷ number ∷ edits ∷ []) (Make n m))
    → IfNone found (¬ IsCommand (codes "make" ∷ number ∷ edits ∷ []))
no_make_command None number edits none = no_make number edits none
no_make_command (Some command) number edits none = tt

-- words that begin with `serve` and ask for no doors ask for nothing
no_serve : (address connections places : List ℕ)
    → ((asked : AskedPlaces) → ¬ Asks (codes "serve" ∷ address ∷ connections ∷ places ∷ []) (Serve asked))
    → ¬ IsCommand (codes "serve" ∷ address ∷ connections ∷ places ∷ [])
no_serve address connections places none (ProbeCommand asked, asks) = let e = asks.spelled in cc
no_serve address connections places none (Session, asks) = let e = asks.spelled in cc
no_serve address connections places none (Export, asks) = let e = asks.spelled in cc
no_serve address connections places none (Verify, asks) = let e = asks.spelled in cc
no_serve address connections places none (Make number edits, asks) = let e = asks.spelled in cc
no_serve address connections places none (Serve asked, asks) = none asked asks
no_serve address connections places none (Past cache, asks) = let e = asks.spelled in cc
no_serve address connections places none (Catalog top' per_tile, asks) = let e = asks.spelled in cc
no_serve address connections places none (Mirror, asks) = let e = asks.spelled in cc

no_serve_command : (found : Option Command) (address connections places : List ℕ)
    → IfNone found ((asked : AskedPlaces) → ¬ Asks (codes "serve" ∷ address ∷ connections ∷ places ∷ []) (Serve asked))
    → IfNone found (¬ IsCommand (codes "serve" ∷ address ∷ connections ∷ places ∷ []))
no_serve_command None address connections places none = no_serve address connections places none
no_serve_command (Some command) address connections places none = tt

-- words that begin with `past` and ask for no cache ask for nothing
no_past : (cache : List ℕ) → ((n : ℕ) → ¬ Asks (codes "past" ∷ cache ∷ []) (Past n)) → ¬ IsCommand (codes "past" ∷ cache ∷ [])
no_past cache none (ProbeCommand asked, asks) = let e = asks.spelled in cc
no_past cache none (Session, asks) = let e = asks.spelled in cc
no_past cache none (Export, asks) = let e = asks.spelled in cc
no_past cache none (Verify, asks) = let e = asks.spelled in cc
no_past cache none (Make number edits, asks) = let e = asks.spelled in cc
no_past cache none (Serve asked, asks) = let e = asks.spelled in cc
no_past cache none (Past n, asks) = none n asks
no_past cache none (Catalog top per_tile, asks) = let e = asks.spelled in cc
no_past cache none (Mirror, asks) = let e = asks.spelled in cc

pub no_past_command : (found : Option Command) (cache : List ℕ)
    → IfNone found ((n : ℕ) → ¬ Asks (codes "past" ∷ cache ∷ []) (Past n)) → IfNone found (¬ IsCommand (codes "past" ∷ cache ∷ []))
no_past_command None cache none = no_past cache none
no_past_command (Some command) cache none = tt

-- words that begin with `catalog` and ask for no tiles ask for nothing
no_catalog : (top per_tile : List ℕ)
    → ((k n : ℕ) → ¬ Asks (codes "catalog" ∷ top ∷ per_tile ∷ []) (Catalog k n)) → ¬ IsCommand (codes "catalog" ∷ top ∷ per_tile ∷ [])
no_catalog top per_tile none (ProbeCommand asked, asks) = let e = asks.spelled in cc
no_catalog top per_tile none (Session, asks) = let e = asks.spelled in cc
no_catalog top per_tile none (Export, asks) = let e = asks.spelled in cc
no_catalog top per_tile none (Verify, asks) = let e = asks.spelled in cc
no_catalog top per_tile none (Make number edits, asks) = let e = asks.spelled in cc
no_catalog top per_tile none (Serve asked, asks) = let e = asks.spelled in cc
no_catalog top per_tile none (Past cache, asks) = let e = asks.spelled in cc
no_catalog top per_tile none (Catalog k n, asks) = none k n asks
no_catalog top per_tile none (Mirror, asks) = let e = asks.spelled in cc

pub no_catalog_command : (found : Option Command) (top per_tile : List ℕ)
    → IfNone found ((k n : ℕ) → ¬ Asks (codes "catalog" ∷ top ∷ per_tile ∷ []) (Catalog k n))
    → IfNone found (¬ IsCommand (codes "catalog" ∷ top ∷ per_tile ∷ []))
no_catalog_command None top per_tile none = no_catalog top per_tile none
no_catalog_command (Some command) top per_tile none = tt

-- words ask for one probe only
pub same_probe : (words : List (List ℕ)) (a b : Probe) → Asks words (ProbeCommand a) → Asks words (ProbeCommand b) → a ≡ b
same_probe words a b asks_a asks_b =
    let e : words_of asks_a.address (ProbeCommand a) ≡ words_of asks_b.address (ProbeCommand b) = sym asks_a.spelled ∙ asks_b.spelled in
    let top : decimal a.top ≡ decimal b.top = cc in
    let n : decimal a.n ≡ decimal b.n = cc in
    let order : decimal a.order ≡ decimal b.order = cc in
    let npix : decimal a.npix ≡ decimal b.npix = cc in
    let range_a : IsProbe a = asks_a.in_range in
    let range_b : IsProbe b = asks_b.in_range in
    let same_top : a.top ≡ b.top = decimal_injective a.top b.top (omega arith) (omega arith) top in
    let same_n : a.n ≡ b.n = decimal_injective a.n b.n (omega arith) (omega arith) n in
    let same_order : a.order ≡ b.order = decimal_injective a.order b.order (omega arith) (omega arith) order in
    let same_npix : a.npix ≡ b.npix = decimal_injective a.npix b.npix (omega arith) (omega arith) npix in
    λ i. record { top = same_top i; n = same_n i; order = same_order i; npix = same_npix i }

-- words ask for one made survey only
pub same_make : (words : List (List ℕ)) (n m n' m' : ℕ) → Asks words (Make n m) → Asks words (Make n' m') → (n ≡ n') × (m ≡ m')
same_make words n m n' m' asks asks' =
    let e : words_of asks.address (Make n m) ≡ words_of asks'.address (Make n' m') = sym asks.spelled ∙ asks'.spelled in
    let number : decimal n ≡ decimal n' = cc in
    let edits : decimal m ≡ decimal m' = cc in
    let range : IsMake n m = asks.in_range in
    let range' : IsMake n' m' = asks'.in_range in
    (decimal_injective n n' (omega arith) (omega arith) number, decimal_injective m m' (omega arith) (omega arith) edits)

-- words ask for one number of connections and of doors only
pub same_serve : (words : List (List ℕ)) (a b : AskedPlaces) → Asks words (Serve a) → Asks words (Serve b) → a ≡ b
same_serve words a b asks_a asks_b =
    let e : words_of asks_a.address (Serve a) ≡ words_of asks_b.address (Serve b) = sym asks_a.spelled ∙ asks_b.spelled in
    let connections : decimal a.connections ≡ decimal b.connections = cc in
    let places : decimal a.places ≡ decimal b.places = cc in
    let range_a : IsServe a.connections a.places = asks_a.in_range in
    let range_b : IsServe b.connections b.places = asks_b.in_range in
    let same_connections : a.connections ≡ b.connections = decimal_injective a.connections b.connections (omega arith) (omega arith) connections in
    let same_places : a.places ≡ b.places = decimal_injective a.places b.places (omega arith) (omega arith) places in
    λ i. record { connections = same_connections i; places = same_places i }

-- words ask for one cache only
pub same_past : (words : List (List ℕ)) (n n' : ℕ) → Asks words (Past n) → Asks words (Past n') → n ≡ n'
same_past words n n' asks asks' =
    let e : words_of asks.address (Past n) ≡ words_of asks'.address (Past n') = sym asks.spelled ∙ asks'.spelled in
    let cache : decimal n ≡ decimal n' = cc in
    let range : IsPast n = asks.in_range in
    let range' : IsPast n' = asks'.in_range in
    decimal_injective n n' (omega arith) (omega arith) cache

-- words ask for the tiles of one catalogue only
pub same_catalog : (words : List (List ℕ)) (k n k' n' : ℕ) → Asks words (Catalog k n) → Asks words (Catalog k' n') → (k ≡ k') × (n ≡ n')
same_catalog words k n k' n' asks asks' =
    let e : words_of asks.address (Catalog k n) ≡ words_of asks'.address (Catalog k' n') = sym asks.spelled ∙ asks'.spelled in
    let top : decimal k ≡ decimal k' = cc in
    let per_tile : decimal n ≡ decimal n' = cc in
    let range = asks.in_range in
    let range' = asks'.in_range in
    (decimal_injective k k' (omega arith) (omega arith) top, decimal_injective n n' (omega arith) (omega arith) per_tile)

-- how many words there are, and the first letter of the first of them
abbrev sign_of : List (List ℕ) → ℕ
sign_of [] = 0
sign_of (word ∷ words) = get_or word 0 0 + 1000 * length words

abbrev sign_for : Command → ℕ
sign_for (ProbeCommand asked) = 4112
sign_for Session = 115
sign_for Export = 101
sign_for Verify = 118
sign_for (Make number edits) = 2109
sign_for (Serve asked) = 3115
sign_for (Past cache) = 1112
sign_for (Catalog top per_tile) = 2099
sign_for Mirror = 1109

sign-words_of : (address : List ℕ) (command : Command) → sign_of (words_of address command) ≡ sign_for command
sign-words_of address (ProbeCommand asked) = refl
sign-words_of address Session = refl
sign-words_of address Export = refl
sign-words_of address Verify = refl
sign-words_of address (Make number edits) = refl
sign-words_of address (Serve asked) = refl
sign-words_of address (Past cache) = refl
sign-words_of address (Catalog top per_tile) = refl
sign-words_of address Mirror = refl

-- commands of the same words have the same sign
same_sign : (words : List (List ℕ)) (a b : Command) → Asks words a → Asks words b → sign_for a ≡ sign_for b
same_sign words a b asks_a asks_b =
    sym (sign-words_of asks_a.address a) ∙ ap sign_of (sym asks_a.spelled ∙ asks_b.spelled) ∙ sign-words_of asks_b.address b

-- and for one command only
pub same_command : (words : List (List ℕ)) (a b : Command) → Asks words a → Asks words b → a ≡ b
same_command words (ProbeCommand a) (ProbeCommand b) asks_a asks_b = ap (λ p. ProbeCommand p) (same_probe words a b asks_a asks_b)
same_command words Session Session asks_a asks_b = refl
same_command words Export Export asks_a asks_b = refl
same_command words Verify Verify asks_a asks_b = refl
same_command words (Make n m) (Make n' m') asks_a asks_b =
    let same = same_make words n m n' m' asks_a asks_b in
    λ i. Make (same.0 i) (same.1 i)
same_command words (Serve a) (Serve b) asks_a asks_b = ap (λ p. Serve p) (same_serve words a b asks_a asks_b)
same_command words (Past n) (Past n') asks_a asks_b = ap (λ p. Past p) (same_past words n n' asks_a asks_b)
same_command words (Catalog k n) (Catalog k' n') asks_a asks_b =
    let same = same_catalog words k n k' n' asks_a asks_b in
    λ i. Catalog (same.0 i) (same.1 i)
same_command words Mirror Mirror asks_a asks_b = refl
same_command words a b asks_a asks_b = let e : sign_for a ≡ sign_for b = same_sign words a b asks_a asks_b in absurd (omega arith)

-- a command that needs more doors than there are: the words ask for no other
pub too_few : (words : List (List ℕ)) (doors : ℕ) (command : Command) → Asks words command → doors < doors_of command → ¬ IsCommandFor doors words
too_few words doors command asks more (other, asks', fits) =
    let same : doors_of other ≡ doors_of command = ap doors_of (same_command words other command asks' asks) in
    omega arith

-- words that ask for nothing ask for nothing, however many doors there are
pub none_for : (words : List (List ℕ)) (doors : ℕ) → ¬ IsCommand words → ¬ IsCommandFor doors words
none_for words doors none (command, asks, fits) = none (command, asks)

-- at one address
serve_command : (found : Option Command) (address connections places : List ℕ)
    → IfSome found (λ command. (any : List ℕ) → Asks (codes "serve" ∷ any ∷ connections ∷ places ∷ []) command)
    → IfSome found (Asks (codes "serve" ∷ address ∷ connections ∷ places ∷ []))
serve_command None address connections places asks = tt
serve_command (Some command) address connections places asks = asks address

none_at : (found : Option Command) (address connections places : List ℕ)
    → IfNone found ((any : List ℕ) (asked : AskedPlaces) → ¬ Asks (codes "serve" ∷ any ∷ connections ∷ places ∷ []) (Serve asked))
    → IfNone found ((asked : AskedPlaces) → ¬ Asks (codes "serve" ∷ address ∷ connections ∷ places ∷ []) (Serve asked))
none_at None address connections places none = none address
none_at (Some command) address connections places none = tt

-- four words, of which the first is `serve`
pub serve_words : (words : List (String Global)) (name address connections places : String Global) (found : Option Command) (third fourth : List ℕ)
    → words ≡ name ∷ address ∷ connections ∷ places ∷ [] → string_bytes name ≡ codes "serve" → third ≡ string_bytes connections → fourth ≡ string_bytes places
    → IfSome found (λ command. (any : List ℕ) → Asks (codes "serve" ∷ any ∷ third ∷ fourth ∷ []) command) → IfSome found (Asks (texts words))
serve_words words name address connections places found third fourth is named is_third is_fourth asks =
    rw (is, named, ← is_third, ← is_fourth) (serve_command found (string_bytes address) third fourth asks)

pub no_serve_words : (words : List (String Global)) (name address connections places : String Global) (found : Option Command) (third fourth : List ℕ)
    → words ≡ name ∷ address ∷ connections ∷ places ∷ [] → string_bytes name ≡ codes "serve" → third ≡ string_bytes connections → fourth ≡ string_bytes places
    → IfNone found ((any : List ℕ) (asked : AskedPlaces) → ¬ Asks (codes "serve" ∷ any ∷ third ∷ fourth ∷ []) (Serve asked)) → IfNone found (¬ IsCommand (texts words))
no_serve_words words name address connections places found third fourth is named is_third is_fourth none =
    rw (is, named, ← is_third, ← is_fourth) (no_serve_command found (string_bytes address) third fourth (none_at found (string_bytes address) third fourth none))
