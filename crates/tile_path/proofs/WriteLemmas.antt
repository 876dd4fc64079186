-- What is written piece by piece is written as a whole.
use Rattle.std.proofs.Common.{◌≡◌, ℕ, ◌+◌, ◌-◌, ◌≤◌, List, ◌++◌, length, take, drop, refl, sym, ◌∙◌, ap, subst, arith, append_assoc}
use Rattle.std.proofs.lemmas.List.{take-append-drop, drop-drop, length-append}
use Rattle.std.proofs.lemmas.Slice.{take-put_mid, drop-put_mid}
use borrow.Rule.Slice.PartMut.{put_mid}
use Rattle.tile_path.specs.Numbers.{Writes}

pub written_part : (old bytes new : List ℕ) (start : ℕ) → start + length bytes ≤ length old → new ≡ bytes
    → Writes old (put_mid start (start + length bytes - start) old new) start (start + length bytes) bytes
written_part old bytes new start room e =
    let same : length new ≡ length bytes = ap length e in
    record {
      end_is = refl;
      front = take-put_mid start (start + length bytes - start) old new (start + length bytes) (omega arith) (omega arith) ∙ ap (λ l. take start old ++ l) e;
      rest = drop-put_mid start (start + length bytes - start) old new (start + length bytes) (omega arith) (omega arith) (omega arith);
    }

drop_further : (i j : ℕ) (xs ys : List ℕ) → i ≤ j → drop i xs ≡ drop i ys → drop j xs ≡ drop j ys
drop_further i j xs ys h e =
    let split : i + (j - i) ≡ j = omega arith in
    let both : drop (i + (j - i)) xs ≡ drop (i + (j - i)) ys =
    sym (drop-drop (j - i) i xs) ∙ ap (drop (j - i)) e ∙ drop-drop (j - i) i ys in
    subst (λ k. drop k xs ≡ drop k ys) split both

-- one piece after another
pub writes_more : {a b c : List ℕ} {i j k : ℕ} {xs ys : List ℕ} → Writes a b i j xs → Writes b c j k ys → Writes a c i k (xs ++ ys)
writes_more {a = a} {b = b} {c = c} {i = i} {j = j} {k = k} {xs = xs} {ys = ys} first second = record {
  end_is = omega (arith, first.end_is, second.end_is, length-append xs ys);
  front = second.front ∙ ap (λ l. l ++ ys) first.front ∙ append_assoc (take i a) xs ys;
  rest = second.rest ∙ drop_further j k b a (omega (arith, second.end_is)) first.rest;
}

-- what is written at the front
pub front_of : (old new bytes : List ℕ) (end : ℕ) → Writes old new 0 end bytes → take end new ≡ bytes
front_of old new bytes end writes = writes.front

pub whole_of : (old new bytes : List ℕ) (end : ℕ) → Writes old new 0 end bytes → new ≡ bytes ++ drop end old
whole_of old new bytes end writes =
    sym (take-append-drop end new) ∙ ap (λ l. l ++ drop end new) (front_of old new bytes end writes) ∙ ap (λ l. bytes ++ l) writes.rest
