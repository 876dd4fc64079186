-- One leaf more of a copy: its request, its reply and its tile.
use Rattle.std.proofs.Common.{◌≡◌, ℕ, ◌+◌, ◌<◌, false, List, [], ◌∷◌, ◌++◌, refl, sym, ap, ◌∙◌, subst, length, map, take, drop, get_or}
use Rattle.std.specs.Prelude.{slice_get}
use Rattle.std.specs.Map.{keys_of}
use Rattle.std.proofs.lemmas.List.{take_more, map-append, take-append-drop}
use Rattle.survey_link.specs.declared.source.Source as source
use Rattle.survey_link.specs.declared.sink.Sink as sink
use Rattle.survey_conf.specs.Description.{Description}
use Rattle.edit_journal.specs.Leaves.{LeafTiles}
use Rattle.generation.specs.Files.{leaf_map}
use Rattle.mirror_frame.specs.Requests.{leaf_ask}
use Rattle.mirror_frame.specs.Exchange.{IsExchanged}
use Rattle.mirror_frame.specs.Peer.{talk, body_of, Goes}
use Rattle.mirror_frame.specs.declared.ask.Ask.{Ask}
use Rattle.mirror_frame.specs.declared.due.Due.TheVariants.{Survey}
use Rattle.mirror_frame.specs.declared.peer.Peer.{Peer}
use Rattle.hips_mirror.specs.declared.refusal.MirrorRefusal.{MirrorRefusal}
use Rattle.hips_mirror.specs.Mirror.{AreLeaves, WrongLeaf, RefusesAt, RefusesLeaf}
use Rattle.hips_mirror.specs.Stages.{TellsLeaf, PutsLeaf, Reaches, IsRefusedIn}
use Rattle.hips_mirror.proofs.LeavesLemmas.{map_keys, map_length, leaves_more, put_tells, at_place}
use Rattle.hips_mirror.proofs.StageLemmas.{one_reached, reaches_then, stopped_then, stopped_more}

module _ {S K : Type 0} (told_source : source.Ghosts S) (told_sink : sink.Ghosts K) (k : ℕ) (d : Description) (numbers : List ℕ) (tiles : LeafTiles) (i : ℕ) (h : i < length numbers) (x y : Peer S K)
    (reached : Reaches told_source told_sink k (map (leaf_ask d.shape.top) (take i numbers)) (λ bytes rest. AreLeaves k d bytes (leaf_map tiles) rest) x y) where
  abbrev number : ℕ
  number = get_or numbers i 0

  abbrev asked : List ℕ → List Ask
  asked ns = map (leaf_ask d.shape.top) ns

  one_more : asked (take i numbers) ++ (leaf_ask d.shape.top number ∷ []) ≡ asked (take (i + 1) numbers)
  one_more = sym (ap asked (take_more numbers i 0 h) ∙ map-append (leaf_ask d.shape.top) (take i numbers) (number ∷ []))

  pub leaf_reached : (own : Ask) (z : Peer S K) (tiles' : LeafTiles) → own ≡ leaf_ask d.shape.top number
      → IsExchanged told_source told_sink own (Survey k) (body_of z) (talk y) (talk z) → Goes told_source told_sink false false y z → PutsLeaf d number (body_of z) tiles tiles'
      → Reaches told_source told_sink k (asked (take (i + 1) numbers)) (λ bytes rest. AreLeaves k d bytes (leaf_map tiles') rest) x z
  leaf_reached own z tiles' same exchanged goes puts =
      let one = one_reached told_source told_sink k (leaf_ask d.shape.top number) own (Survey k) y z same refl (TellsLeaf k d (leaf_map tiles) (leaf_map tiles')) (put_tells d number (body_of z) tiles tiles' k puts) exchanged goes in
      subst (λ a. Reaches told_source told_sink k a (λ bytes rest. AreLeaves k d bytes (leaf_map tiles') rest) x z) one_more
      (reaches_then told_source told_sink k (asked (take i numbers)) (leaf_ask d.shape.top number ∷ []) (λ bytes rest. AreLeaves k d bytes (leaf_map tiles) rest) (TellsLeaf k d (leaf_map tiles) (leaf_map tiles')) (λ bytes rest. AreLeaves k d bytes (leaf_map tiles') rest) x y z
      (λ p q r are tells. subst (λ ls. AreLeaves k d p ls r) (sym tells.put) (leaves_more k d (leaf_map tiles) tells.leaf p q r tells.body are tells.reply tells.reads)) reached one)

  module _ (keys : keys_of tiles ≡ take i numbers) (count : length tiles ≡ i) where
    long : length (leaf_map tiles) ≡ i
    long = map_length tiles ∙ count

    leaf_why : (why : MirrorRefusal) (bytes mid : List ℕ) → AreLeaves k d bytes (leaf_map tiles) mid → RefusesAt (Survey k) (3 + length tiles) (WrongLeaf d number) mid why → RefusesLeaf k d numbers bytes why
    leaf_why why bytes mid are refused = record {
      leaves = leaf_map tiles;
      behind = mid;
      first = map_keys tiles ∙ keys ∙ ap (λ n. take n numbers) (sym long);
      are = are;
      number = number;
      next = ap (slice_get numbers) long ∙ at_place numbers i h;
      refused = subst (λ n. RefusesAt (Survey k) (3 + n) (WrongLeaf d number) mid why) (sym (map_length tiles)) refused;
    }

    all_of : (asked (take i numbers) ++ (leaf_ask d.shape.top number ∷ [])) ++ asked (drop (i + 1) numbers) ≡ asked numbers
    all_of = ap (λ a. a ++ asked (drop (i + 1) numbers)) one_more ∙ sym (map-append (leaf_ask d.shape.top) (take (i + 1) numbers) (drop (i + 1) numbers)) ∙ ap asked (take-append-drop (i + 1) numbers)

    pub leaf_stops : (z : Peer S K) (why : MirrorRefusal) → IsRefusedIn told_source told_sink k (leaf_ask d.shape.top number ∷ []) (λ bytes. RefusesAt (Survey k) (3 + length tiles) (WrongLeaf d number) bytes why) y z why
        → IsRefusedIn told_source told_sink k (asked numbers) (λ bytes. RefusesLeaf k d numbers bytes why) x z why
    leaf_stops z why last =
        subst (λ a. IsRefusedIn told_source told_sink k a (λ bytes. RefusesLeaf k d numbers bytes why) x z why) all_of
        (stopped_more told_source told_sink k (asked (take i numbers) ++ (leaf_ask d.shape.top number ∷ [])) (asked (drop (i + 1) numbers)) (λ bytes. RefusesLeaf k d numbers bytes why) (λ bytes. RefusesLeaf k d numbers bytes why) x z why (λ p r. r)
        (stopped_then told_source told_sink k (asked (take i numbers)) (leaf_ask d.shape.top number ∷ []) (λ bytes rest. AreLeaves k d bytes (leaf_map tiles) rest) (λ bytes. RefusesAt (Survey k) (3 + length tiles) (WrongLeaf d number) bytes why)
        (λ bytes. RefusesLeaf k d numbers bytes why) x y z why (leaf_why why) reached last))
