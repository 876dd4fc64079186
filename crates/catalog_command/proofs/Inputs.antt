-- What comes of a source, and what is so of its input, line after line.
use Rattle.std.proofs.Common.{◌≡◌, inl, inr, ℕ, ◌+◌, List, [], ◌++◌, Option, Some, None, Result, refl, sym, ap, ◌∙◌, subst, append_assoc}
use Rattle.std.proofs.lemmas.List.{append-nil}
use Rattle.std.specs.Io.KnownBytes.{Consumes, IsAtEnd}
use Rattle.hips_catalog.specs.Catalogue.{Catalogue, no_rows}
use Rattle.catalog_command.specs.declared.refusal.CatalogRefusal.{CatalogRefusal}
use Rattle.catalog_command.specs.Input.{MayFollow, OfInput}
use Rattle.catalog_command.specs.Lines.{after_input, catalogue_of}
use Rattle.catalog_command.specs.Unread.{Receives}
use Rattle.catalog_command.specs.Judging.{TakesLine}

-- ---- what comes

pub consumes_none : (left : Option (List ℕ)) → Consumes left left []
consumes_none None = tt
consumes_none (Some bytes) = refl

pub consumes_both : (a b c : Option (List ℕ)) (xs ys : List ℕ) → Consumes a b xs → Consumes b c ys → Consumes a c (xs ++ ys)
consumes_both None b c xs ys first second = tt
consumes_both (Some all) None c xs ys first second = absurd first
consumes_both (Some all) (Some some) None xs ys first second = absurd second
consumes_both (Some all) (Some some) (Some rest) xs ys first second = first ∙ ap (λ later. xs ++ later) second ∙ sym (append_assoc xs ys rest)

pub receives_none : (held : List ℕ) (left : Option (List ℕ)) → Receives held held left left
receives_none held left = record { came = []; grown = sym (append-nil held); consumed = consumes_none left }

pub receives_more : (a b c : List ℕ) (l m n : Option (List ℕ)) (more : List ℕ) → Receives a b l m → c ≡ b ++ more → Consumes m n more → Receives a c l n
receives_more a b c l m n more first grown consumed = record {
  came = first.came ++ more;
  grown = grown ∙ ap (λ bytes. bytes ++ more) first.grown ∙ append_assoc a first.came more;
  consumed = consumes_both l m n first.came more first.consumed consumed;
}

-- ---- what is so of the input

pub nothing_follows : (left : Option (List ℕ)) (more : List ℕ) → IsAtEnd left → MayFollow left more → more ≡ []
nothing_follows left more at_end (inl none) = none
nothing_follows left more at_end (inr told) = subst IsAtEnd told at_end

module _ (P : List ℕ → Type 0) where
  -- nothing was read
  pub of_any : (left : Option (List ℕ)) → ((input : List ℕ) → P input) → OfInput P left left
  of_any left all = record { came = []; consumed = consumes_none left; is = λ more _. all more }

  pub of_each : (Q : List ℕ → Type 0) (left left' : Option (List ℕ)) → ((input : List ℕ) → Q input → P input) → OfInput Q left left' → OfInput P left left'
  of_each Q left left' each of = record { came = of.came; consumed = of.consumed; is = λ more may. each (of.came ++ more) (of.is more may) }

-- of bytes that were received behind those that are held
pub of_received : (P : List ℕ → Type 0) (held held' : List ℕ) (left left' : Option (List ℕ)) → Receives held held' left left' → ((more : List ℕ) → MayFollow left' more → P (held' ++ more))
    → OfInput (λ input. P (held ++ input)) left left'
of_received P held held' left left' got is = record {
  came = got.came;
  consumed = got.consumed;
  is = λ more may. subst P (ap (λ bytes. bytes ++ more) got.grown ∙ append_assoc held got.came more) (is more may);
}

-- ---- line after line

-- whatever follows, what is to be read in all is what is to be read from this line on
pub record ReadsOn (all : List ℕ → Result Catalogue CatalogRefusal) (c : Catalogue) (n : ℕ) (held : List ℕ) (left left' : Option (List ℕ)) : Type 0 where
  pub came : List ℕ
  pub consumed : Consumes left left' came
  pub same : (more : List ℕ) → all (came ++ more) ≡ after_input c n (held ++ more)

pub begun : (top per_tile : ℕ) (c : Catalogue) (held : List ℕ) (left : Option (List ℕ)) → c ≡ no_rows top per_tile → held ≡ [] → ReadsOn (catalogue_of top per_tile) c 1 held left left
begun top per_tile c held left first none = record {
  came = [];
  consumed = consumes_none left;
  same = λ more. ap (λ d. after_input d 1 more) (sym first) ∙ ap (λ bytes. after_input c 1 (bytes ++ more)) (sym none);
}

module _ (all : List ℕ → Result Catalogue CatalogRefusal) (old : Catalogue) (n : ℕ) (held : List ℕ) (first left : Option (List ℕ)) where
  pub gone_on : (new : Catalogue) (held' : List ℕ) (left' : Option (List ℕ)) → ReadsOn all old n held first left → TakesLine n old new held held' left left' → ReadsOn all new (n + 1) held' first left'
  gone_on new held' left' on taken = record {
    came = on.came ++ taken.came;
    consumed = consumes_both first left left' on.came taken.came on.consumed taken.consumed;
    same = λ more. ap all (append_assoc on.came taken.came more) ∙ on.same (taken.came ++ more) ∙ taken.on more;
  }

  pub ended : (P : Result Catalogue CatalogRefusal → Type 0) (left' : Option (List ℕ)) → ReadsOn all old n held first left → OfInput (λ input. P (after_input old n (held ++ input))) left left'
      → OfInput (λ input. P (all input)) first left'
  ended P left' on of = record {
    came = on.came ++ of.came;
    consumed = consumes_both first left left' on.came of.came on.consumed of.consumed;
    is = λ more may. subst P (sym (ap all (append_assoc on.came of.came more) ∙ on.same (of.came ++ more))) (of.is more may);
  }
