-- The stages of a copy: which bytes each leads over, and why one stops there.
use Rattle.std.proofs.Common.{◌≡◌, ◌⊎◌, inl, inr, Bool, ℕ, ◌+◌, ◌<◌, ◌≤◌, ◌^◌, true, false, List, [], ◌∷◌, ◌++◌, Option, Some, zero, suc, refl, sym, ap, ◌∙◌, subst, arith, length, map, append_assoc}
use Rattle.std.specs.Prelude.{◌≢◌, ◌||◌, nat_lt, if◌then◌else◌}
use Rattle.std.proofs.lemmas.Bool.Decides.{nat_tests}
use Rattle.std.specs.Map.{keys_of}
use Rattle.std.proofs.lemmas.Map.Entries.{length-keys_of}
use Rattle.survey_link.specs.declared.source.Source as source
use Rattle.survey_link.specs.declared.sink.Sink as sink
use Rattle.pyramid_model.specs.Shape.{PyramidShape, LeafMap}
use Rattle.survey_conf.specs.Description.{Description}
use Rattle.tile_path.specs.declared.path.Path.TheVariants as path
use Rattle.edit_journal.specs.Leaves.{LeafTiles}
use Rattle.generation.specs.Files.{leaf_map, file_of}
use Rattle.generation.specs.Generation.{GenerationContent}
use Rattle.mirror_frame.specs.Requests.{asks, leaf_ask, mosaic_asks}
use Rattle.mirror_frame.specs.Reply.{IsReply, pinned_line}
use Rattle.mirror_frame.specs.declared.ask.Ask.{Ask}
use Rattle.mirror_frame.specs.declared.ask.Ask.TheVariants.{Pin, File, Unpin}
use Rattle.mirror_frame.specs.declared.due.Due.TheVariants.{Pinned, Survey, Any}
use Rattle.mirror_frame.specs.declared.peer.Peer.{Peer}
use Rattle.mirror_frame.specs.Exchange.{IsExchanged}
use Rattle.mirror_frame.specs.Peer.{talk, body_of, unread_at, Goes}
use Rattle.hips_mirror.specs.declared.refusal.MirrorRefusal.{MirrorRefusal}
use Rattle.hips_mirror.specs.declared.refusal.MirrorRefusal.TheVariants.{Differs, OutOfMemory}
use Rattle.hips_mirror.specs.Mirror.{is_too_large, Covered, AreLeaves, HasLeaves, IsMosaicReply, Compared, IsCopy, RefusesReply, RefusesAt, WrongCover, RefusesLeaf, RefusesFiles, WrongMosaic, last_request, TrueOf, TellsNumbers, Refuses, at_cover, at_leaf, at_mosaic, at_unpin}
use Rattle.hips_mirror.specs.Stages.{Counts, TellsProperties, TellsSurvey, TellsCover, TellsCovered, TellsTiles, TellsMosaic, asks_of_mosaic, unpin_request, Reaches, IsRefusedIn, IsRefused, IsOfBody}
use Rattle.hips_mirror.proofs.LeavesLemmas.{map_keys, map_length}
use Rattle.hips_mirror.proofs.CompareLemmas.{properties_are}
use Rattle.hips_mirror.proofs.ToldLemmas.{true_unread}
use Rattle.hips_mirror.proofs.StageLemmas.{reaches_then, reaches_so, stopped_then, stopped_more, refused_here, one_reached, unread_led}

last_is : (tiles : LeafTiles) → unpin_request (length tiles) ≡ last_request (keys_of (leaf_map tiles))
last_is [] = refl
last_is (e ∷ es) =
    let yes : nat_lt 0 (suc (length es)) ≡ true = grind (arith, nat_tests) in
    let long : length (keys_of (leaf_map es)) ≡ length es = length-keys_of (leaf_map es) ∙ map_length es in
    ap (λ b. 3 + suc (length es) + (if b then 1 else 0)) yes ∙ ap (λ n. 3 + suc n + 1) (sym long)

mosaic_by_count : (tiles : LeafTiles) → asks_of_mosaic (length tiles) ≡ mosaic_asks (keys_of tiles)
mosaic_by_count [] = refl
mosaic_by_count (e ∷ es) = refl

mosaic_of_some : (n : ℕ) → 0 < n → asks_of_mosaic n ≡ File path.Allsky ∷ []
mosaic_of_some zero some = absurd (omega (arith, some))
mosaic_of_some (suc n) some = refl

pub some_ask : (ask : Ask) (more : List Ask) → ask ∷ more ≢ []
some_ask ask more none = cc

not_empty : {T : Type 0} (xs ys : List T) (y : T) → xs ++ (y ∷ ys) ≢ []
not_empty [] ys y = λ none. cc
not_empty (x ∷ xs) ys y = λ none. cc

-- ---- which bytes the stages lead over

module _ (k : ℕ) (d : Description) (counted : Option ℕ) where
  pub properties_step : (bytes u w : List ℕ) → IsReply Pinned bytes (pinned_line k) u → TellsProperties k d counted u w → TellsSurvey k d counted bytes w
  properties_step bytes u w pinned tells =
      record { properties = tells.body; described = record { behind = u; pinned = pinned; reply = tells.reply; is = tells.is }; counts = tells.counts }

  pub cover_step : (numbers : List ℕ) → is_too_large d.shape (length numbers) ≡ false → (bytes u w : List ℕ) → TellsSurvey k d counted bytes u → TellsCover k d numbers u w → TellsCovered k d counted numbers bytes w
  cover_step numbers fits bytes u w tells covers = record {
    properties = tells.properties;
    covered = record { behind = u; described = tells.described; body = covers.body; reply = covers.reply; is = covers.is; fits = fits };
    counts = tells.counts;
  }

  pub leaves_step : (tiles : LeafTiles) (numbers : List ℕ) → keys_of tiles ≡ numbers → (bytes u w : List ℕ) → TellsCovered k d counted numbers bytes u → AreLeaves k d u (leaf_map tiles) w
      → TellsTiles k d counted (leaf_map tiles) bytes w
  leaves_step tiles numbers keys bytes u w tells are = record {
    properties = tells.properties;
    has = record { behind = u; covered = subst (λ ns. Covered bytes k tells.properties d ns u) (sym (map_keys tiles ∙ keys)) tells.covered; are = are };
    counts = tells.counts;
  }

  is_mosaic : (tiles : LeafTiles) (body u w : List ℕ) → TellsMosaic k (length tiles) body u w → (0 < length tiles → body ≡ file_of d (leaf_map tiles) path.Allsky) → IsMosaicReply k d (leaf_map tiles) u w
  is_mosaic [] body u w tells same = tells
  is_mosaic (e ∷ es) body u w tells same = subst (λ file. IsReply (Survey k) u file w) (same (omega arith)) tells

  pub mosaic_step : (tiles : LeafTiles) (body : List ℕ) → length tiles < 2 ^ 64 → counted ≡ Some (length tiles) → (0 < length tiles → body ≡ file_of d (leaf_map tiles) path.Allsky)
      → (bytes u w : List ℕ) → TellsTiles k d counted (leaf_map tiles) bytes u → TellsMosaic k (length tiles) body u w → Compared bytes k d (leaf_map tiles) w
  mosaic_step tiles body few same is bytes u w tells mosaic = record {
    behind = u;
    has = subst (λ p. HasLeaves bytes k p d (leaf_map tiles) u) ((properties_are d tiles tells.properties counted few tells.counts).0 same) tells.has;
    mosaic = is_mosaic tiles body u w mosaic is;
  }

  pub last_step : (leaves : LeafMap) (body bytes u w : List ℕ) → Compared bytes k d leaves u → IsReply Any u body w → IsCopy bytes d leaves
  last_step leaves body bytes u w compared last = record { k = k; behind = u; compared = compared; body = body; rest = w; reply = last }

  -- ---- why a copy stops at one of them

  numbers_told : (numbers bytes u : List ℕ) → TellsCovered k d counted numbers bytes u → TellsNumbers bytes d.shape numbers
  numbers_told numbers bytes u tells = record { k = k; properties = tells.properties; d = d; unread = u; covered = tells.covered; shape_is = refl }

  cover_why : (refusal : MirrorRefusal) (bytes u : List ℕ) → TellsSurvey k d counted bytes u → RefusesAt (Survey k) 2 (WrongCover d) u refusal → Refuses bytes refusal
  cover_why refusal bytes u tells why = at_cover k tells.properties u d tells.described why

  leaf_why : (numbers : List ℕ) (refusal : MirrorRefusal) (bytes u : List ℕ) → TellsCovered k d counted numbers bytes u → RefusesLeaf k d numbers u refusal → Refuses bytes refusal
  leaf_why numbers refusal bytes u tells why = at_leaf k tells.properties numbers u d tells.covered why

  mosaic_why : (tiles : LeafTiles) (refusal : MirrorRefusal) → 0 < length tiles → (bytes u : List ℕ) → TellsTiles k d counted (leaf_map tiles) bytes u
      → RefusesReply (Survey k) (3 + length tiles) u refusal → Refuses bytes refusal
  mosaic_why [] refusal some bytes u tells why = absurd (omega (arith, some))
  mosaic_why (e ∷ es) refusal some bytes u tells why =
      at_mosaic k tells.properties u d (leaf_map (e ∷ es)) tells.has
      (inl (subst (λ n. RefusesReply (Survey k) (3 + n) u refusal) (sym (map_length (e ∷ es))) why))

  -- why the files that were built are refused, by the properties and the mosaic that the peer sent
  abbrev pub FilesWrong : LeafTiles → List ℕ → MirrorRefusal → Type 0
  FilesWrong tiles body refusal = (properties : List ℕ) → Counts d properties counted
      → ((refusal ≡ Differs path.Properties) × (properties ≢ file_of d (leaf_map tiles) path.Properties))
      ⊎ (((0 < length tiles) × (refusal ≡ Differs path.Allsky) × (properties ≡ file_of d (leaf_map tiles) path.Properties) × (body ≢ file_of d (leaf_map tiles) path.Allsky))
      ⊎ (refusal ≡ OutOfMemory))

  files_why : (tiles : LeafTiles) (body : List ℕ) (refusal : MirrorRefusal) → FilesWrong tiles body refusal → (bytes u w : List ℕ) → TellsTiles k d counted (leaf_map tiles) bytes u
      → TellsMosaic k (length tiles) body u w → Refuses bytes refusal
  files_why [] body refusal wrong bytes u w tells mosaic = at_mosaic k tells.properties u d [] tells.has (none (wrong tells.properties tells.counts))
    where
      none : ((refusal ≡ Differs path.Properties) × (tells.properties ≢ file_of d [] path.Properties))
          ⊎ (((0 < 0) × (refusal ≡ Differs path.Allsky) × (tells.properties ≡ file_of d [] path.Properties) × (body ≢ file_of d [] path.Allsky)) ⊎ (refusal ≡ OutOfMemory))
          → RefusesFiles k tells.properties d [] u refusal
      none (inl properties) = inl properties
      none (inr (inl other)) = absurd (omega (arith, other.0))
      none (inr (inr memory)) = inr memory
  files_why (e ∷ es) body refusal wrong bytes u w tells mosaic = at_mosaic k tells.properties u d (leaf_map (e ∷ es)) tells.has (some (wrong tells.properties tells.counts))
    where
      leaves : LeafMap
      leaves = leaf_map (e ∷ es)

      some : ((refusal ≡ Differs path.Properties) × (tells.properties ≢ file_of d leaves path.Properties))
          ⊎ (((0 < length (e ∷ es)) × (refusal ≡ Differs path.Allsky) × (tells.properties ≡ file_of d leaves path.Properties) × (body ≢ file_of d leaves path.Allsky)) ⊎ (refusal ≡ OutOfMemory))
          → RefusesAt (Survey k) (3 + length leaves) (WrongMosaic tells.properties d leaves) u refusal
      some (inl properties) = inr (record { body = body; rest = w; reply = mosaic; wrong = inl properties })
      some (inr (inl other)) = inr (record { body = body; rest = w; reply = mosaic; wrong = inr (other.1, other.2, other.3) })
      some (inr (inr memory)) = inl (rw memory tt)

  unpin_why : (tiles : LeafTiles) (refusal : MirrorRefusal) (bytes u : List ℕ) → Compared bytes k d (leaf_map tiles) u → RefusesReply Any (unpin_request (length tiles)) u refusal → Refuses bytes refusal
  unpin_why tiles refusal bytes u compared why = at_unpin k u d (leaf_map tiles) compared (subst (λ n. RefusesReply Any n u refusal) (last_is tiles) why)

-- ---- how many leaves

or_false : (a b : Bool) → a || b ≡ false → a ≡ false
or_false true b is = absurd cc
or_false false b is = refl

pub fits_most : (shape : PyramidShape) (n : ℕ) → is_too_large shape n ≡ false → n ≤ 65000
fits_most shape n fits =
    let no : nat_lt 65000 n ≡ false = or_false (nat_lt 65000 n) _ fits in
    grind (arith, nat_tests)

-- ---- the mosaic

pub mosaic_reached : {S K : Type 0} (told_source : source.Ghosts S) (told_sink : sink.Ghosts K) (k : ℕ) (own : Ask) (leaves : ℕ) (x y : Peer S K) → 0 < leaves → own ≡ File path.Allsky
    → IsExchanged told_source told_sink own (Survey k) (body_of y) (talk x) (talk y) → Goes told_source told_sink false false x y → Reaches told_source told_sink k (asks_of_mosaic leaves) (TellsMosaic k leaves (body_of y)) x y
mosaic_reached told_source told_sink k own zero x y some same exchanged goes = absurd (omega (arith, some))
mosaic_reached told_source told_sink k own (suc leaves) x y some same exchanged goes =
    one_reached told_source told_sink k (File path.Allsky) own (Survey k) x y same refl (TellsMosaic k (suc leaves) (body_of y)) (λ p q reply. reply) exchanged goes

-- ---- why the files that were built are refused

pub built_wrong : (k : ℕ) (d : Description) (counted : Option ℕ) (tiles : LeafTiles) (body : List ℕ) (why : MirrorRefusal) → length tiles < 2 ^ 64
    → ((why ≡ Differs path.Properties) × (counted ≢ Some (length tiles))) ⊎ (why ≡ OutOfMemory) → FilesWrong k d counted tiles body why
built_wrong k d counted tiles body why few (inl other) = λ properties counts.
    inl (other.0, λ same. other.1 ((properties_are d tiles properties counted few counts).1 same))
built_wrong k d counted tiles body why few (inr memory) = λ properties counts. inr (inr memory)

pub mosaic_wrong : (k : ℕ) (d : Description) (counted : Option ℕ) (tiles : LeafTiles) (made : GenerationContent) (body : List ℕ) (why : MirrorRefusal) → length tiles < 2 ^ 64
    → made ≡ record { conf = d; prefix = 0; leaves = tiles } → counted ≡ Some (length tiles)
    → (0 < length made.leaves) × (((why ≡ Differs path.Allsky) × (body ≢ file_of made.conf (leaf_map made.leaves) path.Allsky)) ⊎ (why ≡ OutOfMemory)) → FilesWrong k d counted tiles body why
mosaic_wrong k d counted tiles made body why few is told (some, inl other) = λ properties counts.
    inr (inl (
      subst (λ (g : GenerationContent). 0 < length g.leaves) is some,
      other.0,
      (properties_are d tiles properties counted few counts).0 told,
      subst (λ (g : GenerationContent). body ≢ file_of g.conf (leaf_map g.leaves) path.Allsky) is other.1,
    ))
mosaic_wrong k d counted tiles made body why few is told (some, inr memory) = λ properties counts. inr (inr memory)

pub built_of_body : (why : MirrorRefusal) (P : Type 0) → ((why ≡ Differs path.Properties) × P) ⊎ (why ≡ OutOfMemory) → IsOfBody why
built_of_body why P (inl other) = rw other.0 tt
built_of_body why P (inr memory) = rw memory tt

pub mosaic_of_body : (why : MirrorRefusal) (Q P : Type 0) → Q × (((why ≡ Differs path.Allsky) × P) ⊎ (why ≡ OutOfMemory)) → IsOfBody why
mosaic_of_body why Q P (some, inl other) = rw other.0 tt
mosaic_of_body why Q P (some, inr memory) = rw memory tt

-- the mosaic of the generation that was built is that of its leaves
pub mosaic_is : (d : Description) (tiles : LeafTiles) (made : GenerationContent) (body : List ℕ) → made ≡ record { conf = d; prefix = 0; leaves = tiles }
    → (0 < length made.leaves → body ≡ file_of made.conf (leaf_map made.leaves) path.Allsky) → 0 < length tiles → body ≡ file_of d (leaf_map tiles) path.Allsky
mosaic_is d tiles made body is same = subst (λ (g : GenerationContent). 0 < length g.leaves → body ≡ file_of g.conf (leaf_map g.leaves) path.Allsky) is same

-- ---- the stages, one after another

abbrev first_asks : List Ask
first_asks = Pin ∷ File path.Properties ∷ []

abbrev cover_asks : List Ask
cover_asks = Pin ∷ File path.Properties ∷ File path.Moc ∷ []

module _ {S K : Type 0} (told_source : source.Ghosts S) (told_sink : sink.Ghosts K) (k : ℕ) (x : Peer S K) where
  -- some of these requests have replies, and one at least has none
  abbrev Short : List Ask → (y : Peer S K) → MirrorRefusal → Type 0
  Short all y why = (r : IsRefusedIn told_source told_sink k all (λ bytes. Refuses bytes why) x y why) × (r.stops.rest ≢ [])

  refused_as : (top : ℕ) (leaves : List ℕ) (all : List Ask) → all ≡ asks top leaves → (y : Peer S K) (why : MirrorRefusal) → Short all y why → IsRefused told_source told_sink x y why
  refused_as top leaves all is y why short =
      let same : Short (asks top leaves) y why = subst (λ a. Short a y why) is short in
      record { k = k; top = top; leaves = leaves; stopped = same.0; short = same.1 }

  -- one request more stands behind those that were begun
  short_before : (some : List Ask) (ask : Ask) (more : List Ask) (y : Peer S K) (why : MirrorRefusal) → IsRefusedIn told_source told_sink k some (λ bytes. Refuses bytes why) x y why
      → Short (some ++ (ask ∷ more)) y why
  short_before some ask more y why first = (
    stopped_more told_source told_sink k some (ask ∷ more) (λ bytes. Refuses bytes why) (λ bytes. Refuses bytes why) x y why (λ p r. r) first,
    not_empty first.stops.rest more ask,
  )

  pub stops_at_description : (y : Peer S K) (why : MirrorRefusal) → IsRefusedIn told_source told_sink k first_asks (λ bytes. Refuses bytes why) x y why → IsRefused told_source told_sink x y why
  stops_at_description y why first = refused_as 0 [] (asks 0 []) refl y why (short_before first_asks (File path.Moc) (Unpin ∷ []) y why first)

module _ {S K : Type 0} (told_source : source.Ghosts S) (told_sink : sink.Ghosts K) (k : ℕ) (d : Description) (counted : Option ℕ) (x : Peer S K) where
  pub stops_at_cover : (y z : Peer S K) (why : MirrorRefusal) → Reaches told_source told_sink k first_asks (TellsSurvey k d counted) x y
      → IsRefusedIn told_source told_sink k (File path.Moc ∷ []) (λ bytes. RefusesAt (Survey k) 2 (WrongCover d) bytes why) y z why → IsRefused told_source told_sink x z why
  stops_at_cover y z why before last =
      refused_as told_source told_sink k x 0 [] (asks 0 []) refl z why
      (short_before told_source told_sink k x cover_asks Unpin [] z why
      (stopped_then told_source told_sink k first_asks (File path.Moc ∷ []) (TellsSurvey k d counted) (λ bytes. RefusesAt (Survey k) 2 (WrongCover d) bytes why) (λ bytes. Refuses bytes why) x y z why
      (cover_why k d counted why) before last))

  pub reaches_cover : (numbers : List ℕ) (y z : Peer S K) → is_too_large d.shape (length numbers) ≡ false → Reaches told_source told_sink k first_asks (TellsSurvey k d counted) x y
      → Reaches told_source told_sink k (File path.Moc ∷ []) (TellsCover k d numbers) y z → Reaches told_source told_sink k cover_asks (TellsCovered k d counted numbers) x z
  reaches_cover numbers y z fits before last =
      reaches_then told_source told_sink k first_asks (File path.Moc ∷ []) (TellsSurvey k d counted) (TellsCover k d numbers) (TellsCovered k d counted numbers) x y z (cover_step k d counted numbers fits) before last

  pub told_numbers : (numbers : List ℕ) (y : Peer S K) → Reaches told_source told_sink k cover_asks (TellsCovered k d counted numbers) x y → TrueOf (unread_at told_source x) (λ bytes. TellsNumbers bytes d.shape numbers)
  told_numbers numbers y reached =
      true_unread (talk x).held (told_source.left x.src.now) (λ bytes. TellsNumbers bytes d.shape numbers)
      (unread_led told_source told_sink k cover_asks (TellsCovered k d counted numbers) (λ bytes. TellsNumbers bytes d.shape numbers) x y (numbers_told k d counted numbers) reached)

  module _ (numbers : List ℕ) where
    abbrev leaf_asks : List Ask
    leaf_asks = Pin ∷ File path.Properties ∷ File path.Moc ∷ map (leaf_ask d.shape.top) numbers

    all_asks : leaf_asks ++ (mosaic_asks numbers ++ (Unpin ∷ [])) ≡ asks d.shape.top numbers
    all_asks = ap (λ r. Pin ∷ File path.Properties ∷ File path.Moc ∷ r) (sym (append_assoc (map (leaf_ask d.shape.top) numbers) (mosaic_asks numbers) (Unpin ∷ [])))

    -- a request stands behind those of the leaves
    one_behind : (ns : List ℕ) → (ask : Ask) × (more : List Ask) × (mosaic_asks ns ++ (Unpin ∷ []) ≡ ask ∷ more)
    one_behind [] = (Unpin, [], refl)
    one_behind (n ∷ ns) = (File path.Allsky, Unpin ∷ [], refl)

    pub stops_at_leaves : (y z : Peer S K) (why : MirrorRefusal) → Reaches told_source told_sink k cover_asks (TellsCovered k d counted numbers) x y
        → IsRefusedIn told_source told_sink k (map (leaf_ask d.shape.top) numbers) (λ bytes. RefusesLeaf k d numbers bytes why) y z why → IsRefused told_source told_sink x z why
    stops_at_leaves y z why before last =
        let behind = one_behind numbers in
        refused_as told_source told_sink k x d.shape.top numbers (leaf_asks ++ (behind.0 ∷ behind.1)) (ap (λ r. leaf_asks ++ r) (sym behind.2) ∙ all_asks) z why
        (short_before told_source told_sink k x leaf_asks behind.0 behind.1 z why
        (stopped_then told_source told_sink k cover_asks (map (leaf_ask d.shape.top) numbers) (TellsCovered k d counted numbers) (λ bytes. RefusesLeaf k d numbers bytes why) (λ bytes. Refuses bytes why) x y z why
        (leaf_why k d counted numbers why) before last))

    module _ (tiles : LeafTiles) (keys : keys_of tiles ≡ numbers) where
      pub reaches_leaves : (y z : Peer S K) → Reaches told_source told_sink k cover_asks (TellsCovered k d counted numbers) x y
          → Reaches told_source told_sink k (map (leaf_ask d.shape.top) numbers) (λ bytes rest. AreLeaves k d bytes (leaf_map tiles) rest) y z
          → Reaches told_source told_sink k leaf_asks (TellsTiles k d counted (leaf_map tiles)) x z
      reaches_leaves y z before last =
          reaches_then told_source told_sink k cover_asks (map (leaf_ask d.shape.top) numbers) (TellsCovered k d counted numbers) (λ bytes rest. AreLeaves k d bytes (leaf_map tiles) rest) (TellsTiles k d counted (leaf_map tiles)) x y z
          (leaves_step k d counted tiles numbers keys) before last

      mosaic_same : asks_of_mosaic (length tiles) ≡ mosaic_asks numbers
      mosaic_same = mosaic_by_count tiles ∙ ap mosaic_asks keys

      pub stops_at_mosaic : (y z : Peer S K) (why : MirrorRefusal) → Reaches told_source told_sink k leaf_asks (TellsTiles k d counted (leaf_map tiles)) x y
          → (0 < length tiles) × IsRefusedIn told_source told_sink k (File path.Allsky ∷ []) (λ bytes. RefusesReply (Survey k) (3 + length tiles) bytes why) y z why → IsRefused told_source told_sink x z why
      stops_at_mosaic y z why before last =
          let one : File path.Allsky ∷ [] ≡ mosaic_asks numbers = sym (mosaic_of_some (length tiles) last.0) ∙ mosaic_same in
          refused_as told_source told_sink k x d.shape.top numbers ((leaf_asks ++ (File path.Allsky ∷ [])) ++ (Unpin ∷ []))
          (append_assoc leaf_asks (File path.Allsky ∷ []) (Unpin ∷ []) ∙ ap (λ r. leaf_asks ++ (r ++ (Unpin ∷ []))) one ∙ all_asks) z why
          (short_before told_source told_sink k x (leaf_asks ++ (File path.Allsky ∷ [])) Unpin [] z why
          (stopped_then told_source told_sink k leaf_asks (File path.Allsky ∷ []) (TellsTiles k d counted (leaf_map tiles)) (λ bytes. RefusesReply (Survey k) (3 + length tiles) bytes why) (λ bytes. Refuses bytes why) x y z why
          (mosaic_why k d counted tiles why last.0) before last.1))

      -- what came up to the mosaic, where its reply has this body
      abbrev pub Came : List ℕ → List ℕ → List ℕ → Type 0
      Came body bytes rest = (u : List ℕ) × TellsTiles k d counted (leaf_map tiles) bytes u × TellsMosaic k (length tiles) body u rest

      abbrev files_asks : List Ask
      files_asks = leaf_asks ++ mosaic_asks numbers

      pub reaches_files : (body : List ℕ) (y z : Peer S K) → Reaches told_source told_sink k leaf_asks (TellsTiles k d counted (leaf_map tiles)) x y
          → Reaches told_source told_sink k (asks_of_mosaic (length tiles)) (TellsMosaic k (length tiles) body) y z → Reaches told_source told_sink k files_asks (Came body) x z
      reaches_files body y z before last =
          subst (λ a. Reaches told_source told_sink k (leaf_asks ++ a) (Came body) x z) mosaic_same
          (reaches_then told_source told_sink k leaf_asks (asks_of_mosaic (length tiles)) (TellsTiles k d counted (leaf_map tiles)) (TellsMosaic k (length tiles) body) (Came body) x y z
          (λ p q r tells mosaic. (q, tells, mosaic)) before last)

      whole_asks : files_asks ++ (Unpin ∷ []) ≡ asks d.shape.top numbers
      whole_asks = append_assoc leaf_asks (mosaic_asks numbers) (Unpin ∷ []) ∙ all_asks

      pub stops_at_files : (body : List ℕ) (y : Peer S K) (why : MirrorRefusal) → IsOfBody why → FilesWrong k d counted tiles body why → Reaches told_source told_sink k files_asks (Came body) x y
          → IsRefused told_source told_sink x y why
      stops_at_files body y why of_body wrong before =
          refused_as told_source told_sink k x d.shape.top numbers (files_asks ++ (Unpin ∷ [])) whole_asks y why
          (short_before told_source told_sink k x files_asks Unpin [] y why
          (refused_here told_source told_sink k files_asks (Came body) (λ bytes. Refuses bytes why) x y why of_body (λ p q came. files_why k d counted tiles body why wrong p came.0 q came.1 came.2) before))

      module _ (body : List ℕ) (few : length tiles < 2 ^ 64) (same : counted ≡ Some (length tiles)) (is : 0 < length tiles → body ≡ file_of d (leaf_map tiles) path.Allsky) (y z : Peer S K)
          (before : Reaches told_source told_sink k files_asks (Came body) x y) where
        compared : Reaches told_source told_sink k files_asks (λ bytes rest. Compared bytes k d (leaf_map tiles) rest) x y
        compared =
            reaches_so told_source told_sink k files_asks (Came body) (λ bytes rest. Compared bytes k d (leaf_map tiles) rest) x y
            (λ p r came. mosaic_step k d counted tiles body few same is p came.0 r came.1 came.2) before

        pub stops_at_unpin : (why : MirrorRefusal) → (r : IsRefusedIn told_source told_sink k (Unpin ∷ []) (λ bytes. RefusesReply Any (unpin_request (length tiles)) bytes why) y z why) → r.stops.rest ≢ []
            → IsRefused told_source told_sink x z why
        stops_at_unpin why last short =
            refused_as told_source told_sink k x d.shape.top numbers (files_asks ++ (Unpin ∷ [])) whole_asks z why (
              stopped_then told_source told_sink k files_asks (Unpin ∷ []) (λ bytes rest. Compared bytes k d (leaf_map tiles) rest) (λ bytes. RefusesReply Any (unpin_request (length tiles)) bytes why) (λ bytes. Refuses bytes why) x y z why
                  (unpin_why k d counted tiles why) compared last,
              short,
            )

        pub copied_whole : (reply : List ℕ) → Reaches told_source told_sink k (Unpin ∷ []) (λ bytes rest. IsReply Any bytes reply rest) y z
            → Reaches told_source told_sink k (asks d.shape.top numbers) (λ bytes rest. IsCopy bytes d (leaf_map tiles)) x z
        copied_whole reply last =
            subst (λ a. Reaches told_source told_sink k a (λ bytes rest. IsCopy bytes d (leaf_map tiles)) x z) whole_asks
            (reaches_then told_source told_sink k files_asks (Unpin ∷ []) (λ bytes rest. Compared bytes k d (leaf_map tiles) rest) (λ bytes rest. IsReply Any bytes reply rest) (λ bytes rest. IsCopy bytes d (leaf_map tiles)) x y z
            (λ p q r was last'. last_step k d counted (leaf_map tiles) reply p q r was last') compared last)
