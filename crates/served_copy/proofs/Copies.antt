-- What a copy makes of what a session answers.
use Rattle.std.proofs.Common.{◌≡◌, inl, inr, ℕ, ◌+◌, ◌-◌, ◌≤◌, false, List, [], ◌++◌, Option, Some, None, Result, Ok, Err, length, flat_map, sym, ap, ◌∙◌, subst, arith}
use Rattle.std.specs.Prelude.{IfOk, IfErr, IsSome}
use Rattle.std.specs.FinMap.{len}
use Rattle.std.specs.Map.{keys_of}
use Rattle.std.specs.Io.KnownBytes.{Appends}
use Rattle.std.proofs.lemmas.Bool.Decides.{nat_tests}
use Rattle.std.proofs.lemmas.List.{append-nil, append_cancel_left}
use Rattle.pyramid_model.specs.Shape.{PyramidShape, LeafMap}
use Rattle.decimal_scale.specs.Laws.{PlainIsRead, ReadIsNormal}
use Rattle.fits_header.specs.Laws.{MadeCardsAreCards}
use Rattle.survey_conf.specs.Description.{Description}
use Rattle.survey_conf.specs.Laws.{PropertiesReadAgain}
use Rattle.fits_tile.specs.Laws.{TilesAreReadAgain}
use Rattle.coverage_moc.specs.Laws.{LeavesComeBack}
use Rattle.tile_path.specs.Laws.{SpellingsDiffer}
use Rattle.tile_path.specs.declared.path.Path.TheVariants as path
use Rattle.survey_link.specs.Shelf.{ShelfFiles}
use Rattle.shelf_io.specs.Survey.{Replaces}
use Rattle.edit_journal.specs.Leaves.{LeafTiles}
use Rattle.generation.specs.Files.{files, file_of}
use Rattle.survey_core.specs.History.{SurveyState, Begins}
use Rattle.http_frame.specs.Laws.{NextIsOne}
use Rattle.hips_http.specs.declared.served.SessionEnd.{SessionEnd}
use Rattle.hips_http.specs.SessionRun.{input_of, AllFlushed}
use Rattle.hips_http.specs.Laws.{Connection, IsUnbroken, NeverBegins, Completeness}
use Rattle.mirror_frame.specs.Laws.{OneReplyStands}
use Rattle.mirror_frame.specs.Requests.{later_asks, mirror_requests}
use Rattle.hips_mirror.specs.declared.refusal.MirrorRefusal.{MirrorRefusal}
use Rattle.hips_mirror.specs.Mirror.{is_too_large, most_leaves, Covered, IsCopy, Refuses, TrueOf, Talks, Copies}
use Rattle.hips_mirror.specs.Peer.{bytes_of, closes, reply_to, published, peer_bytes, CanBeCopied}
use Rattle.hips_mirror.specs.Laws.{PeersAreCopied, IsCopyOf}
use Rattle.hips_mirror.proofs.OnceLemmas.{described_is, covered_once}
use Rattle.hips_mirror.proofs.PeerLemmas.{covered}
use Rattle.served_copy.specs.Served.{IsCopied, IsMirrored, CopiesServed, CopiesJoined}
use Rattle.served_copy.specs.Laws.{SessionsAnswerCopies, CopiesAreOfSeenStates}
use Rattle.served_copy.proofs.Sessions.{Asks, Replies, replies, peer_is, session_replies}

-- the files that a copy wrote, of the description and the leaves that it read
written_of : (left held held' : Option (List ℕ)) (old new : Option ShelfFiles) (steps steps' count : ℕ) (copies : Copies left held held' old new steps steps' count) (conf : Description) (leaves : LeafMap)
    → copies.talk.conf ≡ conf → copies.talk.leaves ≡ leaves → IsCopied (files conf leaves) old new count
written_of left held held' old new steps steps' count copies conf leaves described same =
    let wanted : files copies.talk.conf copies.talk.leaves ≡ files conf leaves = ap (λ d. files d copies.talk.leaves) described ∙ ap (files conf) same in
    (subst (λ w. Replaces w old new) wanted copies.replaced, copies.counted ∙ ap len wanted)

-- what a copy says of the bytes that were left, where these are known
read_of : (left held held' : Option (List ℕ)) (bytes : List ℕ) → left ≡ Some bytes → (talk : Talks left held held') → IsCopy bytes talk.conf talk.leaves
read_of left held held' bytes known talk = subst (λ o. TrueOf o (λ b. IsCopy b talk.conf talk.leaves)) known talk.read

mirrored : (left held held' : Option (List ℕ)) (old new : Option ShelfFiles) (steps steps' : ℕ) (bytes : List ℕ) → left ≡ Some bytes → (conf : Description) (leaves : LeafMap) → IsCopyOf bytes conf leaves
    → (result : Result ℕ MirrorRefusal) → IfOk result (Copies left held held' old new steps steps') → IfErr result (λ refusal. TrueOf left (λ b. Refuses b refusal)) → IsMirrored (files conf leaves) old new result
mirrored left held held' old new steps steps' bytes known conf leaves is (Ok count) copies refused =
    let same = is.one copies.talk.conf copies.talk.leaves (read_of left held held' bytes known copies.talk) in
    written_of left held held' old new steps steps' count copies conf leaves same.0 same.1
mirrored left held held' old new steps steps' bytes known conf leaves is (Err refusal) copies refused = is.not_refused refusal (subst (λ o. TrueOf o (λ b. Refuses b refusal)) known refused)

-- bytes that begin with nothing more
whole : (bytes text : List ℕ) → bytes ≡ text → Begins text bytes
whole bytes text is = record { rest = []; is = is ∙ sym (append-nil text) }

pub served : SessionsAnswerCopies → PeersAreCopied → (left held held' : Option (List ℕ)) (old new : Option ShelfFiles) (steps steps' : ℕ) (result : Result ℕ MirrorRefusal)
    → IfOk result (Copies left held held' old new steps steps') → IfErr result (λ refusal. TrueOf left (λ b. Refuses b refusal)) → CopiesServed left old new result
served answers peers left held held' old new steps steps' result copies refused = λ conf opening states c leaves asked known.
    elim (answers conf opening states c leaves asked) [
      | inl by ↦ inl (
        by.0,
        by.1,
        λ can same.
            mirrored left held held' old new steps steps' c.exchange.flushed known conf (published opening by.0)
            (peers conf opening by.0 c.exchange.flushed can (whole c.exchange.flushed (peer_bytes conf opening by.0) (by.1.in_order same))) result copies refused,
      )
      | inr none ↦ inr none
    ]

-- ---- a session that was sent what the copy wrote

-- a copy reads something
no_copy : (bytes : List ℕ) (conf : Description) (leaves : LeafMap) → bytes ≡ [] → IsCopy bytes conf leaves → ⊥
no_copy bytes conf leaves none copy =
    let ends = copy.compared.has.covered.described.pinned.begins.ends in
    let least : 4 ≤ copy.compared.has.covered.described.pinned.head_length = ends.least in
    let fits : copy.compared.has.covered.described.pinned.head_length - 4 + 4 ≤ length bytes = ends.ends.fits in
    absurd (omega (arith, least, fits, ap length none))

few_leaves : (shape : PyramidShape) (n : ℕ) → is_too_large shape n ≡ false → n ≤ most_leaves
few_leaves shape n e = grind (arith, nat_tests)

none_flushed : (conf : Description) (opening : LeafTiles) (states : List SurveyState) (c : Connection conf opening states) → NeverBegins c → c.exchange.flushed ≡ []
none_flushed conf opening states c never = subst (λ (e : SessionEnd). AllFlushed e c.exchange) never.ended c.run.flushed ∙ never.written

module _ (one : NextIsOne) (differ : SpellingsDiffer) (complete : Completeness) (peers : PeersAreCopied) (plain : PlainIsRead) (again : PropertiesReadAgain) (tiles : TilesAreReadAgain)
    (stands : OneReplyStands) (normal : ReadIsNormal) (made : MadeCardsAreCards) (back : LeavesComeBack) where
  module _ (conf : Description) (opening : LeafTiles) (states : List SurveyState) (c : Connection conf opening states) (d : Description) (leaves : LeafMap)
      (copy : IsCopy c.exchange.flushed d leaves) (input : input_of c.exchange ≡ mirror_requests d.shape.top (keys_of leaves)) (unbroken : IsUnbroken c.exchange) where
    abbrev bytes : List ℕ
    bytes = c.exchange.flushed

    has : Covered bytes copy.k (file_of d leaves path.Properties) d (keys_of leaves) copy.compared.has.behind
    has = copy.compared.has.covered

    asked : Asks c d.shape.top (keys_of leaves)
    unfolding has
    asked = record {
      low = (described_is normal (file_of d leaves path.Properties) d has.described.is).shape.greatest_top;
      cells = has.is.cells;
      few = few_leaves d.shape (length (keys_of leaves)) has.fits;
      input = input;
      unbroken = unbroken;
    }

    by : Replies c d.shape.top (keys_of leaves)
    by = elim (session_replies one differ complete conf opening states c d.shape.top (keys_of leaves) asked) [
      | inl replied ↦ replied
      | inr never ↦ absurd (no_copy bytes d leaves (none_flushed conf opening states c never) copy)
    ]

    module _ (can : CanBeCopied conf opening by.state) where
      abbrev all : LeafMap
      all = published opening by.state

      later_bytes : List ℕ
      later_bytes = flat_map (λ ask. bytes_of (closes ask) (reply_to conf opening by.state ask)) (later_asks d.shape.top (keys_of leaves)) ++ []

      -- the description and the cover that were read are the state's
      first : Covered bytes by.state.tip (file_of conf all path.Properties) conf (keys_of all) later_bytes
      unfolding later_bytes
      first =
          subst (λ t. Covered t by.state.tip (file_of conf all path.Properties) conf (keys_of all) later_bytes) (append-nil (replies conf opening by.state d.shape.top (keys_of leaves)) ∙ sym by.flushed)
          (covered plain again tiles differ conf opening by.state can (later_asks d.shape.top (keys_of leaves)) [])

      once : (d ≡ conf) × (keys_of leaves ≡ keys_of all)
      once =
          let same = covered_once stands normal made back bytes copy.k by.state.tip (file_of d leaves path.Properties) (file_of conf all path.Properties) d conf (keys_of leaves) (keys_of all)
          copy.compared.has.behind later_bytes has first in
          (same.2, same.3)

      sent_in_order : bytes ≡ peer_bytes conf opening by.state
      sent_in_order = by.flushed ∙ ap (λ (x : Description). replies conf opening by.state x.shape.top (keys_of leaves)) once.0 ∙ peer_is conf opening by.state (keys_of leaves) (sym once.1)

      is_copy : IsCopyOf bytes conf all
      is_copy = peers conf opening by.state bytes can (whole bytes (peer_bytes conf opening by.state) sent_in_order)

  pub of_seen : CopiesAreOfSeenStates
  of_seen = λ conf opening states c d leaves copy input unbroken.
      let replied = by conf opening states c d leaves copy input unbroken in (
        replied.state,
        replied.seen,
        λ can. (is_copy conf opening states c d leaves copy input unbroken can).one d leaves copy,
      )

-- ---- a copy that a session was sent

sent_same : (held held' : Option (List ℕ)) (xs ys : List ℕ) → IsSome held → Appends held held' xs → Appends held held' ys → xs ≡ ys
sent_same None held' xs ys some a b = cc
sent_same (Some hs) None xs ys some a b = absurd a
sent_same (Some hs) (Some ks) xs ys some a b = append_cancel_left hs xs ys (sym a ∙ b)

pub joined : CopiesAreOfSeenStates → (left held held' : Option (List ℕ)) (old new : Option ShelfFiles) (steps steps' : ℕ) (result : Result ℕ MirrorRefusal)
    → IfOk result (Copies left held held' old new steps steps') → IfOk result (CopiesJoined left held held' old new)
joined seen left held held' old new steps steps' (Err refusal) copies = tt
joined seen left held held' old new steps steps' (Ok count) copies = λ conf opening states c join.
    let talk = copies.talk in
    let copy = read_of left held held' c.exchange.flushed join.received talk in
    let input = sent_same held held' (input_of c.exchange) (mirror_requests talk.conf.shape.top (keys_of talk.leaves)) join.visible join.sent talk.sent in
    let of = seen conf opening states c talk.conf talk.leaves copy input join.unbroken in
    (of.0, of.1, λ can. let same = of.2 can in written_of left held held' old new steps steps' count copies conf (published opening of.0) same.0 same.1)
