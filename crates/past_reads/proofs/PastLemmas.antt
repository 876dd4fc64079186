-- What stays of past states where more batches come, and which generation another one is made from.
use Rattle.std.proofs.Common.{◌≡◌, ◌⊎◌, inl, inr, ℕ, ◌≤◌, ◌<◌, Bool, true, false, cond, nat_eq, nat_lt, List, [], ◌∷◌, ◌++◌, filter, fold, length, take, Option, Some, None, refl, sym, ap, ◌∙◌, subst, arith}
use Rattle.std.specs.Prelude.{Contains, IfSome, is_some, option_map, if◌then◌else◌}
use Rattle.std.specs.Borrow.{Bor}
use Rattle.std.specs.List.{list_any, AllByRecursion}
use Rattle.std.specs.Map.{keys_of, lookup}
use Rattle.std.proofs.lemmas.List.{take-append-le}
use Rattle.edit_journal.specs.Edit.{LeafEdit}
use Rattle.edit_journal.specs.Leaves.{LeafTiles, leaves_of}
use Rattle.edit_journal.specs.Batches.{edits_of, ends}
use Rattle.edit_journal.specs.Journal.{JournalContent}
use Rattle.survey_conf.specs.Description.{Description}
use Rattle.generation.specs.Generation.{GenerationContent}
use Rattle.survey_core.specs.History.{Begins}
use Rattle.survey_core.specs.HistoryLaws.{edits_of-append, end_within, end_stays, zero_is_end, begins_itself}
use Rattle.past_reads.specs.Past.{past_leaves, PastContent, past_generation, GoesOnFrom, IsHeld, IsKeptPast, FindsBase, kept_content, journal_of, prefix_by, better_prefix}
use Rattle.past_reads.specs.Costs.{greater, base, held_after}
use Rattle.lru.specs.LruCache.{LruCache, put_entries, IsValid}
use Rattle.past_reads.proofs.HeldLemmas.{all-put, keys-put, any-lookup}
use Rattle.std.proofs.lemmas.Bool.{eqb-true}

-- ---- more batches

-- the first edits of some batches are those of more
pub leaves_stay : (opening : LeafTiles) (batches more : List (List LeafEdit)) (k : ℕ) → Begins batches more → k ≤ length (edits_of batches)
    → past_leaves opening batches k ≡ past_leaves opening more k
leaves_stay opening batches more k begins within =
    ap (leaves_of opening) (sym (ap (λ bs. take k (edits_of bs)) begins.is ∙ ap (take k) (edits_of-append batches begins.rest) ∙ take-append-le k (edits_of batches) (edits_of begins.rest) within))

pub end_stays_end : (batches more : List (List LeafEdit)) (k : ℕ) → Begins batches more → Contains (ends batches) k → Contains (ends more) k
end_stays_end batches more k begins there = subst (λ bs. Contains (ends bs) k) (sym begins.is) (end_stays batches begins.rest k there)

-- a generation that is held stays that of its prefix
pub held_stays : (past : PastContent) (old journal : JournalContent) → old.shape ≡ past.conf.shape → old.opening ≡ past.opening → old.batches ≡ past.batches → GoesOnFrom past journal
    → (k : ℕ) (generation : GenerationContent) → IsHeld past.conf old k generation → IsHeld past.conf journal k generation
held_stays past old journal shape opening batches goes k generation held =
    let begins : Begins old.batches journal.batches = record { rest = goes.batches.rest; is = goes.batches.is ∙ ap (λ bs. bs ++ goes.batches.rest) (sym batches) } in
    let same : old.opening ≡ journal.opening = opening ∙ sym goes.opening in
    record {
      whole = end_stays_end old.batches journal.batches k begins held.whole;
      is = held.is ∙ ap (λ leaves. record { conf = past.conf; prefix = k; leaves = leaves })
          (ap (λ o. past_leaves o old.batches k) same ∙ leaves_stay journal.opening old.batches journal.batches k begins (end_within old.batches k held.whole));
    }

pub all_stay : {X : Type 0} (P Q : ℕ × X → Type 0) → ((pair : ℕ × X) → P pair → Q pair) → (pairs : List (ℕ × X)) → AllByRecursion P pairs → AllByRecursion Q pairs
all_stay P Q step [] all = tt
all_stay P Q step (pair ∷ pairs) all = (step pair all.0, all_stay P Q step pairs all.1)

-- no edit leaves the leaves
pub none_yet : (opening : LeafTiles) (edits : List LeafEdit) → leaves_of opening (take 0 edits) ≡ opening
unfolding leaves_of
none_yet opening edits = refl

-- ---- the generation that another one is made from

-- one pair more was looked at
pub base_more : (k : ℕ) (best : Option ℕ) (j : ℕ) (js : List ℕ) → fold greater best (filter (λ i. nat_lt i k) (j ∷ js)) ≡ fold greater (better_prefix k best j) (filter (λ i. nat_lt i k) js)
base_more k best j js = elim (nat_lt j k) as (λ b. fold greater best (cond b (j ∷ filter (λ i. nat_lt i k) js) (filter (λ i. nat_lt i k) js)) ≡ fold greater (cond b (greater best j) best) (filter (λ i. nat_lt i k) js)) [
  | true ↦ refl
  | false ↦ refl
]

-- the base among the pairs so far, and those that are left
pub record BaseSoFar {X : Type 0} (value : X → GenerationContent) (past : PastContent) (k : ℕ) (best : Option (Bor X)) (left : List (ℕ × X)) : Type 0 where
  pub owed : fold greater (prefix_by value best) (filter (λ i. nat_lt i k) (keys_of left)) ≡ base past.opened k past.held
  pub all : AllByRecursion (λ pair. IsHeld past.conf (journal_of past) pair.0 (value pair.1)) left
  pub held : IfSome best (λ generation. IsHeld past.conf (journal_of past) (value generation.now).prefix (value generation.now))
  pub at_most : IfSome best (λ generation. (value generation.now).prefix ≤ k)

pub so_far_more : {X : Type 0} (value : X → GenerationContent) (past : PastContent) (k : ℕ) (best best' : Option (Bor X)) (pair : ℕ × X) (other : Bor X) (left left' : List (ℕ × X))
    → left ≡ pair ∷ left' → other.now ≡ pair.1 → prefix_by value best' ≡ better_prefix k (prefix_by value best) (value other.now).prefix
    → (best' ≡ best) ⊎ ((best' ≡ Some other) × ((value other.now).prefix < k)) → BaseSoFar value past k best left → BaseSoFar value past k best' left'
so_far_more {X} value past k best best' pair other left left' is now prefix either so =
    let P : ℕ × X → Type 0 = λ pair. IsHeld past.conf (journal_of past) pair.0 (value pair.1) in
    let all : AllByRecursion P (pair ∷ left') = subst (AllByRecursion P) is so.all in
    let key : (value pair.1).prefix ≡ pair.0 = ap (λ (g : GenerationContent). g.prefix) all.0.is in
    let same : (value other.now).prefix ≡ pair.0 = ap (λ x. (value x).prefix) now ∙ key in
    let holds : IsHeld past.conf (journal_of past) (value other.now).prefix (value other.now) =
    subst (λ (n : ℕ). IsHeld past.conf (journal_of past) n (value other.now)) (sym same) (subst (λ x. IsHeld past.conf (journal_of past) pair.0 (value x)) (sym now) all.0) in
    record {
      owed = ap (λ b. fold greater b (filter (λ i. nat_lt i k) (keys_of left'))) (prefix ∙ ap (better_prefix k (prefix_by value best)) same)
          ∙ sym (base_more k (prefix_by value best) pair.0 (keys_of left'))
          ∙ ap (λ l. fold greater (prefix_by value best) (filter (λ i. nat_lt i k) (keys_of l))) (sym is) ∙ so.owed;
      all = all.1;
      held = elim either [
        | inl kept ↦ subst (λ b. IfSome b (λ generation. IsHeld past.conf (journal_of past) (value generation.now).prefix (value generation.now))) (sym kept) so.held
        | inr new ↦ subst (λ b. IfSome b (λ generation. IsHeld past.conf (journal_of past) (value generation.now).prefix (value generation.now))) (sym new.0) holds
      ];
      at_most = elim either [
        | inl kept ↦ subst (λ b. IfSome b (λ generation. (value generation.now).prefix ≤ k)) (sym kept) so.at_most
        | inr new ↦ subst (λ b. IfSome b (λ generation. (value generation.now).prefix ≤ k)) (sym new.0) (omega (arith, new.1))
      ];
    }

pub so_far_all : {X : Type 0} (value : X → GenerationContent) (past : PastContent) (k : ℕ) (best : Option (Bor X)) (left : List (ℕ × X)) → left ≡ [] → BaseSoFar value past k best left → FindsBase value past k best
so_far_all value past k best left none so = record {
  prefix = ap (λ l. fold greater (prefix_by value best) (filter (λ i. nat_lt i k) (keys_of l))) (sym none) ∙ so.owed;
  held = so.held;
  at_most = so.at_most;
}

-- the generation of the opening leaves is that of no edits
opening_held : {X : Type 0} (value : X → GenerationContent) (past : PastContent) (d : Description) (opened : Bool) (journal : JournalContent) (held : List ℕ) (room : ℕ) (x : X)
    → kept_content d opened journal held room ≡ past → value x ≡ record { conf = d; prefix = 0; leaves = journal.opening } → IsHeld past.conf (journal_of past) (value x).prefix (value x)
opening_held value past d opened journal held room x view is =
    let seen : PastContent = kept_content d opened journal held room in
    let whole : Contains (ends journal.batches) 0 = zero_is_end journal.batches in
    let none : value x ≡ past_generation d journal.opening journal.batches 0 =
    is ∙ ap (λ (leaves : LeafTiles). record { conf = d; prefix = 0; leaves = leaves }) (sym (none_yet journal.opening (edits_of journal.batches))) in
    let first : (value x).prefix ≡ 0 = ap (λ (g : GenerationContent). g.prefix) is in
    subst (λ (p : PastContent). IsHeld p.conf (journal_of p) (value x).prefix (value x)) view
    (subst (λ (n : ℕ). IsHeld d (journal_of seen) n (value x)) (sym first) (record { whole = whole; is = none }))

-- ---- one generation more

pub kept_put : {X : Type 0} (value : X → GenerationContent) (past : PastContent) (d : Description) (old journal : JournalContent) (first : Option X) (c : LruCache ℕ X) (k : ℕ) (v : X) (entries : List (ℕ × X)) (cap : ℕ)
    → kept_content d (is_some first) old (keys_of c.entries) c.cap ≡ past → IsKeptPast value d old first c.entries c.cap → GoesOnFrom past journal → Contains (ends journal.batches) k
    → value v ≡ past_generation past.conf journal.opening journal.batches k → entries ≡ put_entries nat_eq c k v → cap ≡ c.cap → IsKeptPast value d journal first entries cap
kept_put value past d old journal first c k v entries cap view kept goes whole is put same =
    let conf : d ≡ past.conf = ap (λ (p : PastContent). p.conf) view in
    let opening : old.opening ≡ past.opening = ap (λ (p : PastContent). p.opening) view in
    let batches : old.batches ≡ past.batches = ap (λ (p : PastContent). p.batches) view in
    let shape : old.shape ≡ past.conf.shape = kept.shape ∙ ap (λ (e : Description). e.shape) conf in
    let before : AllByRecursion (λ pair. IsHeld past.conf old pair.0 (value pair.1)) c.entries = subst (λ (e : Description). AllByRecursion (λ pair. IsHeld e old pair.0 (value pair.1)) c.entries) conf kept.held in
    let after : AllByRecursion (λ pair. IsHeld past.conf journal pair.0 (value pair.1)) (put_entries nat_eq c k v) =
    all-put c k v (λ pair. IsHeld past.conf journal pair.0 (value pair.1)) (record { whole = whole; is = is })
    (all_stay (λ pair. IsHeld past.conf old pair.0 (value pair.1)) (λ pair. IsHeld past.conf journal pair.0 (value pair.1))
    (λ pair. held_stays past old journal shape opening batches goes pair.0 (value pair.1)) c.entries before) in
    record {
      shape = goes.shape ∙ ap (λ (e : Description). e.shape) (sym conf);
      opening = subst (λ (leaves : LeafTiles). IfSome first (λ x. value x ≡ record { conf = d; prefix = 0; leaves = leaves })) (opening ∙ sym goes.opening) kept.opening;
      held = subst (λ (e : Description). AllByRecursion (λ pair. IsHeld e journal pair.0 (value pair.1)) entries) (sym conf)
          (subst (AllByRecursion (λ pair. IsHeld past.conf journal pair.0 (value pair.1))) (sym put) after);
      most = subst (λ (n : ℕ). n ≤ 8) (sym same) kept.most;
    }

pub content_put : {X : Type 0} (past : PastContent) (d : Description) (opened : Bool) (old journal : JournalContent) (c : LruCache ℕ X) (k : ℕ) (v : X) (entries : List (ℕ × X)) (cap : ℕ)
    → kept_content d opened old (keys_of c.entries) c.cap ≡ past → IsValid nat_eq c → GoesOnFrom past journal → entries ≡ put_entries nat_eq c k v → cap ≡ c.cap
    → kept_content d opened journal (keys_of entries) cap ≡ record { conf = past.conf; opening = past.opening; opened = past.opened; batches = journal.batches; room = past.room; held = held_after past.room k past.held }
content_put past d opened old journal c k v entries cap view valid goes put same =
    let conf : d ≡ past.conf = ap (λ (p : PastContent). p.conf) view in
    let first : opened ≡ past.opened = ap (λ (p : PastContent). p.opened) view in
    let held : keys_of c.entries ≡ past.held = ap (λ (p : PastContent). p.held) view in
    let room : c.cap ≡ past.room = ap (λ (p : PastContent). p.room) view in
    let keys : keys_of entries ≡ held_after past.room k past.held =
    ap keys_of put ∙ keys-put c k v valid ∙ ap (λ n. held_after n k (keys_of c.entries)) room ∙ ap (held_after past.room k) held in
    ap (λ (e : Description). kept_content e opened journal (keys_of entries) cap) conf
    ∙ ap (λ b. kept_content past.conf b journal (keys_of entries) cap) first
    ∙ ap (λ l. kept_content past.conf past.opened journal l cap) keys
    ∙ ap (λ n. kept_content past.conf past.opened journal (held_after past.room k past.held) n) (same ∙ room)
    ∙ ap (λ o. record { conf = past.conf; opening = o; opened = past.opened; batches = journal.batches; room = past.room; held = held_after past.room k past.held }) goes.opening

-- ---- what is kept, as it is seen

-- the prefix of the generation of the opening leaves, where it is kept
opening_prefix : {X : Type 0} (value : X → GenerationContent) (d : Description) (journal : JournalContent) (first : Option X) (found : Option (Bor X))
    → IfSome first (λ x. value x ≡ record { conf = d; prefix = 0; leaves = journal.opening }) → option_map (λ b. b.now) found ≡ first
    → prefix_by value found ≡ (if is_some first then Some 0 else None)
opening_prefix value d journal first None kept is = ap (λ o. if is_some o then Some 0 else None) is
opening_prefix value d journal first (Some found) kept is =
    let opening : value found.now ≡ record { conf = d; prefix = 0; leaves = journal.opening } = subst (λ o. IfSome o (λ x. value x ≡ record { conf = d; prefix = 0; leaves = journal.opening })) (sym is) kept in
    ap (λ (g : GenerationContent). Some g.prefix) opening ∙ ap (λ o. if is_some o then Some 0 else None) is

module _ {X : Type 0} (value : X → GenerationContent) (past : PastContent) (d : Description) (old : JournalContent) (first : Option X) (pairs : List (ℕ × X)) (cap k : ℕ)
    (view : kept_content d (is_some first) old (keys_of pairs) cap ≡ past) (kept : IsKeptPast value d old first pairs cap) where
  owed_at_first : (found : Option (Bor X)) (left : List (ℕ × X)) → option_map (λ b. b.now) found ≡ first → left ≡ pairs → fold greater (prefix_by value found) (filter (λ i. nat_lt i k) (keys_of left)) ≡ base past.opened k past.held
  owed_at_first found left opening is =
      ap (λ o. fold greater o (filter (λ i. nat_lt i k) (keys_of left))) (opening_prefix value d old first found kept.opening opening)
      ∙ ap (λ l. base (is_some first) k (keys_of l)) is ∙ ap (λ (p : PastContent). base p.opened k p.held) view

  all_at_first : (left : List (ℕ × X)) → left ≡ pairs → AllByRecursion (λ (pair : ℕ × X). IsHeld past.conf (journal_of past) pair.0 (value pair.1)) left
  all_at_first left is =
      let seen : PastContent = kept_content d (is_some first) old (keys_of pairs) cap in
      let all : AllByRecursion (λ (pair : ℕ × X). IsHeld d (journal_of seen) pair.0 (value pair.1)) pairs =
      all_stay (λ (pair : ℕ × X). IsHeld d old pair.0 (value pair.1)) (λ (pair : ℕ × X). IsHeld d (journal_of seen) pair.0 (value pair.1)) (λ pair held. record { whole = held.whole; is = held.is }) pairs kept.held in
      subst (λ (p : PastContent). AllByRecursion (λ (pair : ℕ × X). IsHeld p.conf (journal_of p) pair.0 (value pair.1)) left) view
      (subst (AllByRecursion (λ (pair : ℕ × X). IsHeld d (journal_of seen) pair.0 (value pair.1))) (sym is) all)

  pub so_far_begin : (found : Option (Bor X)) (left : List (ℕ × X)) → option_map (λ b. b.now) found ≡ first → left ≡ pairs → BaseSoFar value past k found left
  so_far_begin None left opening is = record { owed = owed_at_first None left opening is; all = all_at_first left is; held = tt; at_most = tt }
  so_far_begin (Some found) left opening is =
      let given : value found.now ≡ record { conf = d; prefix = 0; leaves = old.opening } = subst (λ o. IfSome o (λ x. value x ≡ record { conf = d; prefix = 0; leaves = old.opening })) (sym opening) kept.opening in
      let none : (value found.now).prefix ≡ 0 = ap (λ (g : GenerationContent). g.prefix) given in
      record {
        owed = owed_at_first (Some found) left opening is;
        all = all_at_first left is;
        held = opening_held value past d (is_some first) old (keys_of pairs) cap found.now view given;
        at_most = omega (arith, none);
      }

-- a generation that is held has the leaves after its edits, also those of more batches
pub from_held : (past : PastContent) (journal : JournalContent) (generation : GenerationContent) → GoesOnFrom past journal → IsHeld past.conf (journal_of past) generation.prefix generation
    → leaves_of journal.opening (take generation.prefix (edits_of journal.batches)) ≡ generation.leaves
from_held past journal generation goes held =
    let stays = held_stays past (journal_of past) journal refl refl refl goes generation.prefix generation held in
    sym (ap (λ (g : GenerationContent). g.leaves) stays.is)

held_there : {X : Type 0} (P : ℕ × X → Type 0) (k : ℕ) (pairs : List (ℕ × X)) (x : X) → AllByRecursion P pairs → lookup (nat_eq k) pairs ≡ Some x → P (k, x)
held_there P k [] x all found = cc
held_there {X} P k (pair ∷ pairs) x all found =
    (elim (nat_eq k pair.0) as (λ b. nat_eq k pair.0 ≡ b → cond b (Some pair.1) (lookup (nat_eq k) pairs) ≡ Some x → P (k, x)) [
      | true ↦ λ is some.
          let same : pair.1 ≡ x = one pair.1 x some in
          subst (λ (y : X). P (k, y)) same (subst (λ (n : ℕ). P (n, pair.1)) (sym (eqb-true k pair.0 is)) all.0)
      | false ↦ λ is some. held_there P k pairs x all.1 some
    ]) refl found
  where
    one : {Y : Type 0} (x y : Y) → Some x ≡ Some y → x ≡ y
    one x y some = cc

-- the generation that is found at k is that of the first k edits
pub found_held : {X : Type 0} (value : X → GenerationContent) (past : PastContent) (d : Description) (old journal : JournalContent) (first : Option X) (pairs : List (ℕ × X)) (cap k : ℕ) (x : X)
    → kept_content d (is_some first) old (keys_of pairs) cap ≡ past → IsKeptPast value d old first pairs cap → GoesOnFrom past journal → lookup (nat_eq k) pairs ≡ Some x
    → value x ≡ past_generation past.conf journal.opening journal.batches k
found_held {X} value past d old journal first pairs cap k x view kept goes found =
    let conf : d ≡ past.conf = ap (λ (p : PastContent). p.conf) view in
    let opening : old.opening ≡ past.opening = ap (λ (p : PastContent). p.opening) view in
    let batches : old.batches ≡ past.batches = ap (λ (p : PastContent). p.batches) view in
    let shape : old.shape ≡ past.conf.shape = kept.shape ∙ ap (λ (e : Description). e.shape) conf in
    let held : IsHeld d old k (value x) = held_there (λ (pair : ℕ × X). IsHeld d old pair.0 (value pair.1)) k pairs x kept.held found in
    (held_stays past old journal shape opening batches goes k (value x) (subst (λ (e : Description). IsHeld e old k (value x)) conf held)).is

-- one that isn't found isn't held
pub not_held : {X : Type 0} (past : PastContent) (d : Description) (opened : Bool) (old : JournalContent) (pairs : List (ℕ × X)) (cap k : ℕ)
    → kept_content d opened old (keys_of pairs) cap ≡ past → lookup (nat_eq k) pairs ≡ None → list_any (nat_eq k) past.held ≡ false
not_held past d opened old pairs cap k view none =
    ap (λ (p : PastContent). list_any (nat_eq k) p.held) (sym view) ∙ any-lookup k pairs ∙ ap is_some none

-- what is known then is the journal's
pub goes_on : (past next : PastContent) (journal : JournalContent) → GoesOnFrom past journal → next.conf ≡ past.conf → next.opening ≡ past.opening → next.batches ≡ journal.batches → GoesOnFrom next journal
goes_on past next journal goes conf opening batches = record {
  shape = goes.shape ∙ ap (λ (d : Description). d.shape) (sym conf);
  opening = goes.opening ∙ sym opening;
  batches = subst (λ (bs : List (List LeafEdit)). Begins bs journal.batches) (sym batches) (begins_itself journal.batches);
}

-- one that knows a journal's batches
pub goes_new : (next : PastContent) (journal : JournalContent) → journal.shape ≡ next.conf.shape → next.opening ≡ journal.opening → next.batches ≡ journal.batches → GoesOnFrom next journal
goes_new next journal shape opening batches = record {
  shape = shape;
  opening = sym opening;
  batches = subst (λ (bs : List (List LeafEdit)). Begins bs journal.batches) (sym batches) (begins_itself journal.batches);
}
