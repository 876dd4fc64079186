-- What the faults of edits and batches come to.
use Rattle.std.proofs.Common.{◌≡◌, ℕ, zero, suc, ◌+◌, ◌-◌, ◌*◌, ◌^◌, ◌<◌, ◌≤◌, min, Bool, true, false, cond, List, [], ◌∷◌, ◌++◌, map, length, take, get_or, Option, Some, None, option_map, refl, sym, ap, ◌∙◌, subst, arith, append_assoc, append-nil, length-append}
use Rattle.std.specs.Prelude.{find, is_some, nat_lt, nat_le, slice_get, option_and_then, sum_by}
use Rattle.std.specs.Option.{option_or}
use Rattle.std.specs.List.{range_with_len}
use Rattle.std.proofs.lemmas.Bool.Decides.{nat_tests}
use Rattle.std.proofs.lemmas.Option.{slice_get-get_or}
use Rattle.std.proofs.lemmas.List.{take_more, take_all}
use Rattle.std.proofs.lemmas.List.Sums.{sum_by-append, sum_by_push}
use Rattle.edit_journal.specs.declared.fault.EditFault.{EditFault}
use Rattle.edit_journal.specs.declared.fault.EditFault.TheVariants.{Edits, Bytes}
use Rattle.edit_journal.specs.declared.fault.BatchFault.{BatchFault}
use Rattle.edit_journal.specs.Edit.{LeafEdit, leaf_of}
use Rattle.edit_journal.specs.Leaves.{LeafTiles, leaves_of, charge_of, tile_charge, edit_charge}
use Rattle.edit_journal.specs.Faults.{most_edits, most_charge, has_leaf, leaf_fault, limit_fault, edit_fault, item_fault, batch_fault}
use Rattle.edit_journal.proofs.FirstLemmas.{find_at, find_none, none_found, found_passes}

-- ---- the charge

pub charge_of-append : (opening : LeafTiles) (edits more : List LeafEdit) → charge_of opening (edits ++ more) ≡ charge_of opening edits + sum_by edit_charge more
unfolding charge_of
charge_of-append opening edits more =
    let both : sum_by edit_charge (edits ++ more) ≡ sum_by edit_charge edits + sum_by edit_charge more = sum_by-append edit_charge edits more in
    omega arith

pub charge_of_push : (opening : LeafTiles) (edits : List LeafEdit) (edit : LeafEdit) → charge_of opening (edits ++ edit ∷ []) ≡ charge_of opening edits + edit_charge edit
unfolding charge_of
charge_of_push opening edits edit =
    let both : sum_by edit_charge (edits ++ edit ∷ []) ≡ sum_by edit_charge edits + edit_charge edit = sum_by_push edit_charge edits edit in
    omega arith

-- ---- one edit

-- a charge that is counted no further than its type is judged as it is
limit_saturated : (count charge : ℕ) → limit_fault count (min charge (2 ^ 64 - 1)) ≡ limit_fault count charge
limit_saturated count charge =
    let same : nat_lt most_charge (min charge (2 ^ 64 - 1)) ≡ nat_lt most_charge charge = grind (arith, nat_tests) in
    ap (λ b. cond (nat_le most_edits count) (Some Edits) (cond b (Some Bytes) None)) same

-- how an edit is judged by what is kept
pub edit_fault_is : (opening : LeafTiles) (edits : List LeafEdit) (edit : LeafEdit) (there : Bool) (count charge : ℕ) → there ≡ has_leaf (leaf_of edit) (leaves_of opening edits) → count ≡ length edits →
    charge ≡ min (charge_of opening edits + edit_charge edit) (2 ^ 64 - 1) → option_or (leaf_fault there edit) (limit_fault count charge) ≡ edit_fault opening edits edit
unfolding edit_fault
edit_fault_is opening edits edit there count charge is_there is_count is_charge =
    let limits : limit_fault count charge ≡ limit_fault (length edits) (charge_of opening (edits ++ edit ∷ [])) =
    ap (limit_fault count) is_charge ∙ limit_saturated count (charge_of opening edits + edit_charge edit)
    ∙ ap (limit_fault count) (sym (charge_of_push opening edits edit)) ∙ ap (λ n. limit_fault n (charge_of opening (edits ++ edit ∷ []))) is_count in
    ap (λ t. option_or (leaf_fault t edit) (limit_fault count charge)) is_there ∙ ap (option_or (leaf_fault (has_leaf (leaf_of edit) (leaves_of opening edits)) edit)) limits

-- where nothing is wrong with the limits, there is room
pub no_limit : (count charge : ℕ) → limit_fault count charge ≡ None → (count < most_edits) × (charge ≤ most_charge)
no_limit count charge e =
    elim (nat_le most_edits count) as (λ b. nat_le most_edits count ≡ b → cond b (Some Edits) (cond (nat_lt most_charge charge) (Some Bytes) None) ≡ None → (count < most_edits) × (charge ≤ most_charge)) [
      | true ↦ λ t (k : Some Edits ≡ None). cc
      | false ↦ λ t k. elim (nat_lt most_charge charge) as (λ b. nat_lt most_charge charge ≡ b → cond b (Some Bytes) None ≡ None → (count < most_edits) × (charge ≤ most_charge)) [
        | true ↦ λ s (l : Some Bytes ≡ None). cc
        | false ↦ λ s l. (grind (arith, nat_tests), grind (arith, nat_tests))
      ] refl k
    ] refl e

pub neither : {T : Type 0} (a b : Option T) → option_or a b ≡ None → (a ≡ None) × (b ≡ None)
neither None b e = (refl, e)
neither (Some x) b e = cc

pub edit_has_room : (opening : LeafTiles) (edits : List LeafEdit) (edit : LeafEdit) → edit_fault opening edits edit ≡ None → (length edits < most_edits) × (charge_of opening (edits ++ edit ∷ []) ≤ most_charge)
unfolding edit_fault
edit_has_room opening edits edit e =
    no_limit (length edits) (charge_of opening (edits ++ edit ∷ [])) (neither (leaf_fault (has_leaf (leaf_of edit) (leaves_of opening edits)) edit) (limit_fault (length edits) (charge_of opening (edits ++ edit ∷ []))) e).1

-- ---- a batch

pub item_fault_is : (opening : LeafTiles) (edits batch : List LeafEdit) (i : ℕ) (item : LeafEdit) → slice_get batch i ≡ Some item → item_fault opening edits batch i ≡ edit_fault opening (edits ++ take i batch) item
item_fault_is opening edits batch i item e = ap (option_and_then (edit_fault opening (edits ++ take i batch))) e

none_some : (o : Option EditFault) → o ≡ None → is_some o ≡ false
none_some o e = ap is_some e

some_none : (o : Option EditFault) → is_some o ≡ false → o ≡ None
some_none None e = refl
some_none (Some x) e = cc

-- the least place with a fault
pub batch_fault_at : (opening : LeafTiles) (edits batch : List LeafEdit) (i : ℕ) (fault : EditFault) → i < length batch → item_fault opening edits batch i ≡ Some fault →
    ((k : ℕ) → k < i → item_fault opening edits batch k ≡ None) → batch_fault opening edits batch ≡ Some (record { at = i; fault = fault })
unfolding batch_fault
batch_fault_at opening edits batch i fault lt is before =
    let found : find (λ k. is_some (item_fault opening edits batch k)) (range_with_len 0 (length batch)) ≡ Some i =
    find_at (λ k. is_some (item_fault opening edits batch k)) 0 (length batch) i (omega arith) (omega arith) (ap is_some is) (λ j _ l. none_some (item_fault opening edits batch j) (before j l)) in
    ap (option_and_then (λ at. option_map (λ fault. record { at = at; fault = fault }) (item_fault opening edits batch at))) found
    ∙ ap (option_map (λ fault. record { at = i; fault = fault })) is

-- no place has one
pub batch_fault_none : (opening : LeafTiles) (edits batch : List LeafEdit) → ((k : ℕ) → k < length batch → item_fault opening edits batch k ≡ None) → batch_fault opening edits batch ≡ None
unfolding batch_fault
batch_fault_none opening edits batch all =
    let found : find (λ k. is_some (item_fault opening edits batch k)) (range_with_len 0 (length batch)) ≡ None =
    find_none (λ k. is_some (item_fault opening edits batch k)) 0 (length batch) (λ j _ l. none_some (item_fault opening edits batch j) (all j (omega arith))) in
    ap (option_and_then (λ at. option_map (λ fault. record { at = at; fault = fault }) (item_fault opening edits batch at))) found

placed : LeafTiles → List LeafEdit → List LeafEdit → ℕ → Option BatchFault
placed opening edits batch at = option_map (λ fault. record { at = at; fault = fault }) (item_fault opening edits batch at)

some_fault : (opening : LeafTiles) (edits batch : List LeafEdit) (o : Option ℕ) → ((i : ℕ) → o ≡ Some i → is_some (item_fault opening edits batch i) ≡ true) →
    option_and_then (placed opening edits batch) o ≡ None → o ≡ None
unfolding placed
some_fault opening edits batch None is e = refl
some_fault opening edits batch (Some i) is e =
    elim (item_fault opening edits batch i) as (λ o. is_some o ≡ true → option_map {U = BatchFault} (λ fault. record { at = i; fault = fault }) o ≡ None → Some i ≡ None) [
      | None ↦ λ t k. cc
      | Some f ↦ λ t k. cc
    ] (is i refl) e

pub items_accepted : (opening : LeafTiles) (edits batch : List LeafEdit) → batch_fault opening edits batch ≡ None → (k : ℕ) → k < length batch → item_fault opening edits batch k ≡ None
unfolding batch_fault placed
items_accepted opening edits batch e k h =
    let p : ℕ → Bool = λ k. is_some (item_fault opening edits batch k) in
    let none : find p (range_with_len 0 (length batch)) ≡ None = some_fault opening edits batch (find p (range_with_len 0 (length batch))) (λ i found. found_passes p 0 (length batch) i found) e in
    some_none (item_fault opening edits batch k) (none_found p 0 (length batch) none k (omega arith) (omega arith))

-- an accepted batch leaves the limits kept
pub batch_has_room : (opening : LeafTiles) (edits batch : List LeafEdit) (d : LeafEdit) → 0 < length batch → batch_fault opening edits batch ≡ None → (length (edits ++ batch) ≤ most_edits) × (charge_of opening (edits ++ batch) ≤ most_charge)
batch_has_room opening edits batch d some e =
    let last : ℕ = length batch - 1 in
    let item : LeafEdit = get_or batch (length batch - 1) d in
    let none : item_fault opening edits batch (length batch - 1) ≡ None = items_accepted opening edits batch e (length batch - 1) (omega arith) in
    let read : slice_get batch (length batch - 1) ≡ Some (get_or batch (length batch - 1) d) = slice_get-get_or batch (length batch - 1) d (omega arith) in
    let room = edit_has_room opening (edits ++ take (length batch - 1) batch) (get_or batch (length batch - 1) d) (sym (item_fault_is opening edits batch (length batch - 1) (get_or batch (length batch - 1) d) read) ∙ none) in
    let whole : take (length batch - 1) batch ++ get_or batch (length batch - 1) d ∷ [] ≡ batch =
    sym (take_more batch (length batch - 1) d (omega arith)) ∙ take_all (length batch - 1 + 1) batch (omega arith) in
    let all : (edits ++ take (length batch - 1) batch) ++ get_or batch (length batch - 1) d ∷ [] ≡ edits ++ batch =
    append_assoc edits (take (length batch - 1) batch) (get_or batch (length batch - 1) d ∷ []) ∙ ap (λ xs. edits ++ xs) whole in
    let count : length ((edits ++ take (length batch - 1) batch) ++ get_or batch (length batch - 1) d ∷ []) ≡ length (edits ++ take (length batch - 1) batch) + 1 =
    length-append (edits ++ take (length batch - 1) batch) (get_or batch (length batch - 1) d ∷ []) in (
      subst (λ xs. length xs ≤ most_edits) all (omega arith),
      subst (λ xs. charge_of opening xs ≤ most_charge) all room.1,
    )

-- a batch of one edit is accepted as the edit is
pub one_accepted : (opening : LeafTiles) (edits : List LeafEdit) (edit : LeafEdit) → edit_fault opening edits edit ≡ None → batch_fault opening edits (edit ∷ []) ≡ None
one_accepted opening edits edit e = batch_fault_none opening edits (edit ∷ []) (first edits edit e)
  where
    first : (edits : List LeafEdit) (edit : LeafEdit) → edit_fault opening edits edit ≡ None → (k : ℕ) → k < length (edit ∷ []) → item_fault opening edits (edit ∷ []) k ≡ None
    first edits edit e zero h = ap (λ xs. edit_fault opening xs edit) (append-nil edits) ∙ e
    first edits edit e (suc k) h = absurd (omega arith)
