-- The bytes that are taken of those held and of those that come behind them.
use Rattle.std.proofs.Common.{◌≡◌, ℕ, ◌+◌, ◌≤◌, ◌<◌, ◌⊎◌, inl, inr, List, [], ◌++◌, length, take, Option, sym, ap, subst, ◌∙◌, arith, length-append}
use Rattle.std.proofs.lemmas.List.{length-take-le, take-append-le, append-nil, nil_from_length}
use Rattle.std.proofs.Math.Seq.{take-append-add}
use Rattle.http_frame.specs.Fill.{Takes, EndsShort}
use Rattle.http_frame.specs.Frame.{IsShort}
use Rattle.http_frame.specs.Readings.{ReadsWhile}
use Rattle.http_frame.proofs.ReadingSteps.{reads_full, reads_none}

-- the bytes that were read stand behind those before the part
pub read_at : (bytes buf post : List ℕ) (at count : ℕ) → at ≤ length bytes → count ≤ length buf
    → take (at + count) (take at bytes ++ (buf ++ post)) ≡ take at bytes ++ take count buf
read_at bytes buf post at count within fits =
    let len : length (take at bytes) ≡ at = length-take-le at bytes within in
    let same : at + count ≡ length (take at bytes) + count = omega (arith, len) in
    ap (λ n. take n (take at bytes ++ (buf ++ post))) same ∙ take-append-add (take at bytes) (buf ++ post) count
    ∙ ap (λ more. take at bytes ++ more) (take-append-le count buf post fits)

-- what follows a body stays held: none does, or the body was whole
pub takes_rest : (a b rest all : List ℕ) (left left' : Option (List ℕ)) → a ++ rest ≡ all → (rest ≡ []) ⊎ (length a ≡ length b)
    → Takes a b left left' → Takes all (b ++ rest) left left'
takes_rest a b rest all left left' is (inl none) takes = record {
  more = takes.more;
  grown = ap (λ r. b ++ r) none ∙ append-nil b ∙ takes.grown ∙ ap (λ bytes. bytes ++ takes.more) (sym (append-nil a) ∙ ap (λ r. a ++ r) (sym none) ∙ is);
  consumed = takes.consumed;
}
takes_rest a b rest all left left' is (inr whole) takes =
    let none : takes.more ≡ [] = nil_from_length takes.more (omega (arith, whole, ap length takes.grown, length-append a takes.more)) in
    let same : b ≡ a = takes.grown ∙ ap (λ r. a ++ r) none ∙ append-nil a in
    record {
      more = takes.more;
      grown = ap (λ bytes. bytes ++ rest) same ∙ is ∙ sym (append-nil all) ∙ ap (λ r. all ++ r) (sym none);
      consumed = takes.consumed;
    }

-- a body that is cut has nothing behind it
pub ends_short : (n : ℕ) (a rest all : List ℕ) (left left' : Option (List ℕ)) → a ++ rest ≡ all → (rest ≡ []) ⊎ (length a ≡ n)
    → EndsShort n a left left' → EndsShort n all left left'
ends_short n a rest all left left' is (inl none) cuts =
    let same : a ≡ all = sym (append-nil a) ∙ ap (λ r. a ++ r) (sym none) ∙ is in
    rw (sym same) cuts
ends_short n a rest all left left' is (inr whole) cuts =
    let short : length cuts.all < n = cuts.short in
    absurd (omega (arith, whole, short, ap length cuts.taken.grown, length-append a cuts.taken.more))

-- the bytes that were given are all that were held, or as many as fit
pub given_whole : (xs rest : List ℕ) (k n : ℕ) → length xs ≡ n → (rest ≡ []) ⊎ (k ≡ length xs) → (rest ≡ []) ⊎ (length (take k xs) ≡ n)
given_whole xs rest k n size (inl none) = inl none
given_whole xs rest k n size (inr whole) = inr (length-take-le k xs (omega (arith, whole)) ∙ whole ∙ size)

-- what was read behind the bytes that were given was read behind all that were held
pub reads_behind : {S : Type 0} (left : S → Option (List ℕ)) (readings : S → Option ℕ) (n : ℕ) (front rest all out : List ℕ) (a b : S) (P Q : Type 0)
    → front ++ rest ≡ all → (rest ≡ []) ⊎ (length front ≡ n)
    → (came : List ℕ) × ReadsWhile left readings (IsShort n) front a b came × (P → out ≡ front ++ came) × (Q → IsShort n (front ++ came))
    → (came : List ℕ) × ReadsWhile left readings (IsShort n) all a b came × (P → out ++ rest ≡ all ++ came) × (Q → IsShort n (all ++ came))
reads_behind left readings n front rest all out a b P Q is (inl none) read =
    let same : front ≡ all = sym (append-nil front) ∙ ap (λ r. front ++ r) (sym none) ∙ is in (
      read.0,
      subst (λ held. ReadsWhile left readings (IsShort n) held a b read.0) same read.1,
      λ p. ap (λ r. out ++ r) none ∙ append-nil out ∙ read.2 p ∙ ap (λ bytes. bytes ++ read.0) same,
      λ q. subst (λ bytes. IsShort n (bytes ++ read.0)) same (read.3 q),
    )
reads_behind left readings n front rest all out a b P Q is (inr whole) read =
    let none = reads_full left readings (IsShort n) front read.0 a b read.1 (λ short. omega (arith, short, whole)) in (
      [],
      subst (λ s. ReadsWhile left readings (IsShort n) all a s []) (sym none.0) (reads_none left readings (IsShort n) all a),
      λ p. ap (λ bytes. bytes ++ rest) (read.2 p ∙ ap (λ came. front ++ came) none.1 ∙ append-nil front) ∙ is ∙ sym (append-nil all),
      λ q. let short : length (front ++ read.0) < n = read.3 q in absurd (omega (arith, short, whole, length-append front read.0)),
    )
