-- What a peer in order sends is read: each reply, the description, the cover, the leaves and the mosaic.
use Rattle.std.proofs.Common.{◌≡◌, ◌≢◌, ◌⊎◌, inl, inr, ℕ, ◌+◌, ◌-◌, ◌<◌, ◌≤◌, ◌^◌, true, false, not, List, [], ◌∷◌, ◌++◌, Some, Ok, length, map, flat_map, ℤ, refl, sym, ap, ◌∙◌, subst, arith, append_assoc, length-append, codes}
use Rattle.std.specs.Prelude.{decimal, All, is_some, nat_lt, nat_le, slice_index, ◌||◌, ◌==◌}
use Rattle.std.specs.List.{AllByRecursion, list_all}
use Rattle.std.specs.List.Sorted.{IsStrictlySortedBy}
use Rattle.std.specs.Char.{is_ascii_digit}
use Rattle.std.specs.Option.{option_map_or}
use Rattle.std.specs.Ordering.{nat_cmp}
use Rattle.std.specs.declared.cmp.Ordering.TheVariants.{Less}
use Rattle.std.specs.Str.{bytes_eq}
use Rattle.std.specs.Map.{keys_of, values_of}
use Rattle.std.specs.BTreeMap.{is_at}
use Rattle.std.proofs.lemmas.Bool.{and_from, cases_lt}
use Rattle.std.proofs.lemmas.Bool.Decides.{nat_tests}
use Rattle.std.proofs.lemmas.List.{get_or-append-add}
use Rattle.std.proofs.lemmas.List.Elements.{All-head, All-tail}
use Rattle.std.proofs.lemmas.Fmt.{decimal_nonempty, first_decimal, length-decimal-le}
use Rattle.std.proofs.lemmas.Map.Entries.{length-keys_of, lookup_head, lookup_tail}
use Rattle.healpix_nested.specs.Cells.{cell_count}
use Rattle.parent_rule.specs.Depth.{IsNumber}
use Rattle.pyramid_model.specs.Shape.{PyramidShape, LeafMap, leaf_numbers}
use Rattle.pyramid_model.specs.Tile.{pixels}
use Rattle.pyramid_model.specs.TileLaws.{exists_leaf, pixels_leaf}
use Rattle.decimal_scale.specs.Laws.{PlainIsRead}
use Rattle.decimal_scale.proofs.RoundTrip.{decimal_digits}
use Rattle.survey_conf.specs.Description.{Description, IsDescription}
use Rattle.survey_conf.specs.Properties.{line, description_pairs, description_text, properties_text}
use Rattle.survey_conf.specs.Laws.{PropertiesReadAgain}
use Rattle.fits_tile.specs.Laws.{TilesAreReadAgain}
use Rattle.fits_tile.specs.Reading.{reads}
use Rattle.fits_tile.specs.TileFile.{tile_file}
use Rattle.tile_path.specs.Laws.{SpellingsDiffer}
use Rattle.tile_path.specs.Spelling.{IsPath, spelling}
use Rattle.tile_path.specs.declared.path.Path.{Path}
use Rattle.tile_path.specs.declared.path.Path.TheVariants as path
use Rattle.edit_journal.specs.Leaves.{LeafTiles}
use Rattle.generation.specs.Files.{file_of, files}
use Rattle.generation.proofs.FileLemmas.{HasFile, file_there}
use Rattle.survey_core.specs.History.{SurveyState, Begins}
use Rattle.http_frame.specs.declared.reply.Number.TheVariants as number
use Rattle.http_frame.specs.Refusal.{is_digits}
use Rattle.mirror_frame.specs.Reply.{most_body, pinned_line, IsReply}
use Rattle.mirror_frame.specs.Requests.{leaf_ask, mosaic_asks, asks}
use Rattle.mirror_frame.specs.declared.ask.Ask.{Ask}
use Rattle.mirror_frame.specs.declared.ask.Ask.TheVariants.{Pin, File, Unpin}
use Rattle.mirror_frame.specs.declared.due.Due.TheVariants.{Pinned, Survey, Any}
use Rattle.hips_mirror.specs.Mirror.{is_plain, are_lines, IsProperties, IsCoverOf, is_too_large, Described, Covered, AreLeaves, IsMosaicReply, IsCopy}
use Rattle.hips_mirror.specs.Peer.{bytes_of, text_reply, found_reply, reply_to, closes, published, peer_bytes, CanBeCopied}
use Rattle.hips_mirror.specs.Laws.{HasOneOutcome, IsCopyOf}
use Rattle.hips_mirror.proofs.HeadLemmas.{state_reply, last_reply}

-- ---- the properties

digits_plain : (n : ℕ) → n < 2 ^ 64 → is_plain (decimal n) ≡ true
digits_plain n small =
    let some : 0 < length (decimal n) = decimal_nonempty n small in
    let digits : is_digits (decimal n) ≡ true = and_from (nat_lt 0 (length (decimal n))) (list_all is_ascii_digit (decimal n)) (grind (arith, nat_tests)) (decimal_digits n small) in
    and_from (is_digits (decimal n)) (nat_le (length (decimal n)) 1 || not (slice_index (decimal n) 0 == 48)) digits (by (cases_lt 0 n))
  where
    by : (0 < n) ⊎ (n ≤ 0) → (nat_le (length (decimal n)) 1 || not (slice_index (decimal n) 0 == 48)) ≡ true
    by (inl positive) = let first : 48 < slice_index (decimal n) 0 = first_decimal n positive small in grind (arith, nat_tests)
    by (inr none) = let short : length (decimal n) ≤ 1 = length-decimal-le 1 n (omega arith) (omega (arith, none)) small in grind (arith, nat_tests)

-- a line more, before whole lines
lines_more : (text rest : List ℕ) → are_lines rest ≡ true → are_lines (text ++ 10 ∷ rest) ≡ true
lines_more text rest lines =
    let long : length (text ++ 10 ∷ rest) ≡ length text + length (10 ∷ rest) = length-append text (10 ∷ rest) in
    let place : length (text ++ 10 ∷ rest) - 1 ≡ length text + length rest = omega (arith, long) in
    let last : slice_index (text ++ 10 ∷ rest) (length (text ++ 10 ∷ rest) - 1) ≡ 10 =
    ap (slice_index (text ++ 10 ∷ rest)) place ∙ get_or-append-add text (10 ∷ rest) (length rest) 0 ∙ ended rest lines in
    grind (arith, nat_tests)
  where
    ended : (rest : List ℕ) → are_lines rest ≡ true → slice_index (10 ∷ rest) (length rest) ≡ 10
    ended [] lines = refl
    ended (b ∷ bs) lines =
        let place : length (b ∷ bs) - 1 ≡ length bs = omega arith in
        let last : slice_index (b ∷ bs) (length (b ∷ bs) - 1) ≡ 10 = grind (arith, nat_tests) in
        ap (slice_index (b ∷ bs)) (sym place) ∙ last

pairs_lines : (ps : List (List ℕ × List ℕ)) → are_lines (flat_map line ps) ≡ true
pairs_lines [] = refl
pairs_lines (p ∷ ps) =
    ap are_lines (append_assoc (p.0 ++ codes " = " ++ p.1) (10 ∷ []) (flat_map line ps))
    ∙ lines_more (p.0 ++ codes " = " ++ p.1) (flat_map line ps) (pairs_lines ps)

properties_are_read : PropertiesReadAgain → (d : Description) (n : ℕ) → IsDescription d → n < 2 ^ 64 → IsProperties (properties_text d n) d
unfolding properties_text
properties_are_read again d n is small = record {
  text = description_text d;
  digits = decimal n;
  last = record { whole = refl; lines = pairs_lines (description_pairs d); plain = digits_plain n small };
  faultless = again.accepted d is;
  described = sym (again.same d is);
}

-- ---- the leaves of a map

abbrev IsFound : LeafMap → ℕ × List ℤ → Type 0
IsFound all leaf = leaf_numbers all leaf.0 ≡ Some leaf.1

behind_other : (e : ℕ × List ℤ) (es ls : LeafMap) → AllByRecursion (λ key. nat_cmp e.0 key ≡ Less) (keys_of ls) → AllByRecursion (IsFound es) ls → AllByRecursion (IsFound (e ∷ es)) ls
behind_other e es [] above found = tt
behind_other e es (l ∷ ls) above found =
    let other : is_at (nat_cmp l.0) e.0 ≡ false = less e.0 l.0 above.0 in
    (lookup_tail (is_at (nat_cmp l.0)) e es other ∙ found.0, behind_other e es ls above.1 found.1)
  where
    less : (a b : ℕ) → nat_cmp a b ≡ Less → is_at (nat_cmp b) a ≡ false
    less a b h = grind (arith, nat_tests)

all_found : (ls : LeafMap) → IsStrictlySortedBy nat_cmp (keys_of ls) → AllByRecursion (IsFound ls) ls
unfolding IsStrictlySortedBy
all_found [] sorted = tt
all_found (e ∷ es) sorted = (lookup_head (is_at (nat_cmp e.0)) e es (own e.0), behind_other e es es sorted.0 (all_found es sorted.1))
  where
    own : (a : ℕ) → is_at (nat_cmp a) a ≡ true
    own a = grind (arith, nat_tests)

-- ---- the replies of a state

module _ (plain : PlainIsRead) (again : PropertiesReadAgain) (tiles : TilesAreReadAgain) (differ : SpellingsDiffer)
    (conf : Description) (opening : LeafTiles) (state : SurveyState) (can : CanBeCopied conf opening state) where
  abbrev all : LeafMap
  all = published opening state

  abbrev Fits : Ask → Type 0
  Fits ask = length (reply_to conf opening state ask).body ≤ most_body

  -- the bytes of the reply to a request, and to some
  abbrev sent_to : Ask → List ℕ
  sent_to ask = bytes_of (closes ask) (reply_to conf opening state ask)

  abbrev sent : List Ask → List ℕ
  sent list = flat_map sent_to list

  found_at : (p : Path) → IsPath p → HasFile conf.shape all p → reply_to conf opening state (File p) ≡ found_reply state.tip (spelling p) (file_of conf all p)
  unfolding files
  found_at p is has =
      ap (λ o. option_map_or (found_reply state.tip (spelling p)) o (text_reply 404 (number.Prefix state.tip) (codes "not found")))
      (file_there conf.shape all can.description.shape can.leaves.cells conf differ p is has)

  file_replied : (p : Path) (rest : List ℕ) → IsPath p → HasFile conf.shape all p → Fits (File p) → IsReply (Survey state.tip) (sent_to (File p) ++ rest) (file_of conf all p) rest
  file_replied p rest is has fits =
      let same = found_at p is has in
      let most : length (file_of conf all p) ≤ most_body = subst (λ r. length r.body ≤ most_body) same fits in
      subst (λ r. IsReply (Survey state.tip) (bytes_of false r ++ rest) (file_of conf all p) rest) (sym same)
      (state_reply plain (bytes_eq (spelling p) (codes "properties")) state.tip (file_of conf all p) rest (Survey state.tip) can.tip most refl tt)

  pin_replied : (rest : List ℕ) → Fits Pin → IsReply Pinned (sent_to Pin ++ rest) (pinned_line state.tip) rest
  pin_replied rest fits = state_reply plain true state.tip (pinned_line state.tip) rest Pinned can.tip fits refl refl

  unpin_replied : (rest : List ℕ) → Fits Unpin → IsReply Any (sent_to Unpin ++ rest) (codes "released" ++ 10 ∷ []) rest
  unpin_replied rest fits = last_reply (codes "released" ++ 10 ∷ []) rest Any fits tt tt

  -- ---- the leaves

  abbrev leaf_path : ℕ → Path
  leaf_path leaf = path.Tile (record { order = conf.shape.top; npix = leaf })

  leaf_reads : (l : ℕ × List ℤ) → IsFound all l → l.0 < cell_count conf.shape.top → length l.1 ≡ 4 ^ conf.shape.n → All (IsNumber conf.shape.depth.bitpix) l.1
      → reads conf (file_of conf all (leaf_path l.0)) ≡ Ok l.1
  unfolding file_of
  leaf_reads l found cell count numbers =
      let shown : pixels conf.shape all conf.shape.top l.0 ≡ l.1 = pixels_leaf conf.shape all l.0 l.1 can.description.shape.greatest_n found count in
      let top : conf.shape.top ≤ 11 = can.description.shape.greatest_top in
      ap (λ ns. reads conf (tile_file conf conf.shape.top l.0 ns)) shown
      ∙ tiles conf conf.shape.top l.0 l.1 can.description top (record { known_order = omega (arith, top); in_order = cell }) count numbers

  leaf_is_path : (leaf : ℕ) → leaf < cell_count conf.shape.top → IsPath (leaf_path leaf)
  leaf_is_path leaf cell =
      let top : conf.shape.top ≤ 11 = can.description.shape.greatest_top in
      record { cell = record { known_order = omega (arith, top); in_order = cell }; order_at_most_11 = top }

  leaf_is_file : (l : ℕ × List ℤ) → IsFound all l → HasFile conf.shape all (leaf_path l.0)
  leaf_is_file l found =
      let low : conf.shape.low ≤ 3 = can.description.shape.low_order in
      let least : 3 ≤ conf.shape.top = can.description.shape.least_top in
      (omega (arith, low, least), omega arith, exists_leaf conf.shape all l.0 ∙ ap is_some found)

  leaves_replied : (ls : LeafMap) (more : List Ask) (rest : List ℕ) → AllByRecursion (IsFound all) ls → All (λ leaf. leaf < cell_count conf.shape.top) (keys_of ls)
      → All (λ ns. length ns ≡ 4 ^ conf.shape.n) (values_of ls) → All (All (IsNumber conf.shape.depth.bitpix)) (values_of ls) → All Fits (map (leaf_ask conf.shape.top) (keys_of ls) ++ more)
      → AreLeaves state.tip conf (sent (map (leaf_ask conf.shape.top) (keys_of ls) ++ more) ++ rest) ls (sent more ++ rest)
  leaves_replied [] more rest found cells counts numbers fit = refl
  leaves_replied (l ∷ ls) more rest found cells counts numbers fit =
      let later : List Ask = map (leaf_ask conf.shape.top) (keys_of ls) ++ more in
      let cell : l.0 < cell_count conf.shape.top = All-head (λ leaf. leaf < cell_count conf.shape.top) l.0 (keys_of ls) cells in
      let count : length l.1 ≡ 4 ^ conf.shape.n = All-head (λ ns. length ns ≡ 4 ^ conf.shape.n) l.1 (values_of ls) counts in
      let each : All (IsNumber conf.shape.depth.bitpix) l.1 = All-head (All (IsNumber conf.shape.depth.bitpix)) l.1 (values_of ls) numbers in (
        file_of conf all (leaf_path l.0),
        sent later ++ rest,
        subst (λ t. IsReply (Survey state.tip) t (file_of conf all (leaf_path l.0)) (sent later ++ rest)) (sym (append_assoc (sent_to (leaf_ask conf.shape.top l.0)) (sent later) rest))
            (file_replied (leaf_path l.0) (sent later ++ rest) (leaf_is_path l.0 cell) (leaf_is_file l found.0) (All-head Fits (leaf_ask conf.shape.top l.0) later fit)),
        leaf_reads l found.0 cell count each,
        leaves_replied ls more rest found.1 (All-tail (λ leaf. leaf < cell_count conf.shape.top) l.0 (keys_of ls) cells)
            (All-tail (λ ns. length ns ≡ 4 ^ conf.shape.n) l.1 (values_of ls) counts) (All-tail (All (IsNumber conf.shape.depth.bitpix)) l.1 (values_of ls) numbers)
            (All-tail Fits (leaf_ask conf.shape.top l.0) later fit),
      )

  all_replied : (more : List Ask) (rest : List ℕ) → All Fits (map (leaf_ask conf.shape.top) (keys_of all) ++ more)
      → AreLeaves state.tip conf (sent (map (leaf_ask conf.shape.top) (keys_of all) ++ more) ++ rest) all (sent more ++ rest)
  all_replied more rest = leaves_replied all more rest (all_found all can.leaves.ordered) can.leaves.cells can.leaves.lengths can.leaves.numbers

  -- ---- the mosaic, where there is a leaf

  mosaic_replied : (ls : LeafMap) (rest : List ℕ) → all ≡ ls → All Fits (mosaic_asks (keys_of ls) ++ Unpin ∷ [])
      → IsMosaicReply state.tip conf ls (sent (mosaic_asks (keys_of ls) ++ Unpin ∷ []) ++ rest) (sent (Unpin ∷ []) ++ rest)
  mosaic_replied [] rest is fit = refl
  mosaic_replied (l ∷ ls) rest is fit =
      let some : all ≢ [] = λ none. let other : l ∷ ls ≡ [] = sym is ∙ none in cc in
      subst (λ t. IsReply (Survey state.tip) t (file_of conf (l ∷ ls) path.Allsky) (sent (Unpin ∷ []) ++ rest)) (sym (append_assoc (sent_to (File path.Allsky)) (sent (Unpin ∷ [])) rest))
      (subst (λ x. IsReply (Survey state.tip) (sent_to (File path.Allsky) ++ (sent (Unpin ∷ []) ++ rest)) (file_of conf x path.Allsky) (sent (Unpin ∷ []) ++ rest)) is
      (file_replied path.Allsky (sent (Unpin ∷ []) ++ rest) tt some (All-head Fits (File path.Allsky) (Unpin ∷ []) fit)))

  -- ---- all of it

  many : length all < 2 ^ 64
  many = few_enough conf.shape (length all) can.few
    where
      few_enough : (shape : PyramidShape) (n : ℕ) → is_too_large shape n ≡ false → n < 2 ^ 64
      few_enough shape n e = grind (arith, nat_tests)

  properties_is : IsProperties (file_of conf all path.Properties) conf
  unfolding file_of
  properties_is = properties_are_read again conf (length all) can.description many

  cover_is : IsCoverOf conf.shape.top (file_of conf all path.Moc) (keys_of all)
  unfolding file_of
  cover_is = record { file = refl; ascending = can.leaves.ordered; cells = can.leaves.cells }

  abbrev later : List Ask
  later = mosaic_asks (keys_of all) ++ Unpin ∷ []

  abbrev from_leaves : List Ask
  from_leaves = map (leaf_ask conf.shape.top) (keys_of all) ++ later

  -- the requests from that of the cover on
  asks_are : asks conf.shape.top (keys_of all) ≡ Pin ∷ File path.Properties ∷ File path.Moc ∷ from_leaves
  asks_are = ap (λ list. Pin ∷ File path.Properties ∷ File path.Moc ∷ list) (append_assoc (map (leaf_ask conf.shape.top) (keys_of all)) (mosaic_asks (keys_of all)) (Unpin ∷ []))

  fit_all : All Fits (Pin ∷ File path.Properties ∷ File path.Moc ∷ from_leaves)
  fit_all = subst (λ list. All Fits list) asks_are can.bodies

  fit_files : All Fits (File path.Properties ∷ File path.Moc ∷ from_leaves)
  fit_files = All-tail Fits Pin (File path.Properties ∷ File path.Moc ∷ from_leaves) fit_all

  fit_cover : All Fits (File path.Moc ∷ from_leaves)
  fit_cover = All-tail Fits (File path.Properties) (File path.Moc ∷ from_leaves) fit_files

  fit_leaves : All Fits from_leaves
  fit_leaves = All-tail Fits (File path.Moc) from_leaves fit_cover

  fit_later : All Fits later
  fit_later = behind (map (leaf_ask conf.shape.top) (keys_of all)) fit_leaves
    where
      behind : (list : List Ask) → All Fits (list ++ later) → All Fits later
      behind [] fit = fit
      behind (a ∷ list) fit = behind list (All-tail Fits a (list ++ later) fit)

  fit_unpin : Fits Unpin
  fit_unpin = behind (mosaic_asks (keys_of all)) fit_later
    where
      behind : (list : List Ask) → All Fits (list ++ Unpin ∷ []) → Fits Unpin
      behind [] fit = All-head Fits Unpin [] fit
      behind (a ∷ list) fit = behind list (All-tail Fits a (list ++ Unpin ∷ []) fit)

  -- the description and the cover come first, whatever is asked for behind them
  module _ (more : List Ask) (rest : List ℕ) where
    described : Described (sent (Pin ∷ File path.Properties ∷ File path.Moc ∷ more) ++ rest) state.tip (file_of conf all path.Properties) conf (sent (File path.Moc ∷ more) ++ rest)
    described = record {
      behind = sent (File path.Properties ∷ File path.Moc ∷ more) ++ rest;
      pinned = subst (λ t. IsReply Pinned t (pinned_line state.tip) (sent (File path.Properties ∷ File path.Moc ∷ more) ++ rest)) (sym (append_assoc (sent_to Pin) (sent (File path.Properties ∷ File path.Moc ∷ more)) rest))
          (pin_replied (sent (File path.Properties ∷ File path.Moc ∷ more) ++ rest) (All-head Fits Pin (File path.Properties ∷ File path.Moc ∷ from_leaves) fit_all));
      reply = subst (λ t. IsReply (Survey state.tip) t (file_of conf all path.Properties) (sent (File path.Moc ∷ more) ++ rest)) (sym (append_assoc (sent_to (File path.Properties)) (sent (File path.Moc ∷ more)) rest))
          (file_replied path.Properties (sent (File path.Moc ∷ more) ++ rest) tt tt (All-head Fits (File path.Properties) (File path.Moc ∷ from_leaves) fit_files));
      is = properties_is;
    }

    pub covered : Covered (sent (Pin ∷ File path.Properties ∷ File path.Moc ∷ more) ++ rest) state.tip (file_of conf all path.Properties) conf (keys_of all) (sent more ++ rest)
    covered = record {
      behind = sent (File path.Moc ∷ more) ++ rest;
      described = described;
      body = file_of conf all path.Moc;
      reply = subst (λ t. IsReply (Survey state.tip) t (file_of conf all path.Moc) (sent more ++ rest)) (sym (append_assoc (sent_to (File path.Moc)) (sent more) rest))
          (file_replied path.Moc (sent more ++ rest) tt tt (All-head Fits (File path.Moc) from_leaves fit_cover));
      is = cover_is;
      fits = ap (is_too_large conf.shape) (length-keys_of all) ∙ can.few;
    }

  copied : (rest : List ℕ) → IsCopy (sent (Pin ∷ File path.Properties ∷ File path.Moc ∷ from_leaves) ++ rest) conf all
  copied rest = record {
    k = state.tip;
    behind = sent (Unpin ∷ []) ++ rest;
    compared = record {
      behind = sent later ++ rest;
      has = record { behind = sent from_leaves ++ rest; covered = covered from_leaves rest; are = all_replied later rest fit_leaves };
      mosaic = mosaic_replied all rest refl fit_later;
    };
    body = codes "released" ++ 10 ∷ [];
    rest = rest;
    reply = subst (λ t. IsReply Any t (codes "released" ++ 10 ∷ []) rest) (sym (append_assoc (sent_to Unpin) [] rest)) (unpin_replied rest fit_unpin);
  }

  copied_of : (bytes : List ℕ) → Begins (peer_bytes conf opening state) bytes → IsCopy bytes conf all
  unfolding peer_bytes
  copied_of bytes begins = subst (λ t. IsCopy t conf all) (sym (begins.is ∙ ap (λ list. sent list ++ begins.rest) asks_are)) (copied begins.rest)

  pub peer_copied : (bytes : List ℕ) → ((text : List ℕ) → HasOneOutcome text) → Begins (peer_bytes conf opening state) bytes → IsCopyOf bytes conf all
  peer_copied bytes outcome begins =
      let copy = copied_of bytes begins in
      record {
        copy = copy;
        one = λ d other is. (outcome bytes).one d conf other all is copy;
        not_refused = λ refusal why. (outcome bytes).not_refused conf all refusal copy why;
      }
