-- What a sink has flushed.
use Rattle.std.proofs.Common.{◌≡◌, inl, inr, ℕ, List, [], ◌∷◌, ◌++◌, Option, Some, None, refl, sym, ◌∙◌, subst}
use Rattle.std.specs.List.{concat}
use Rattle.std.specs.Io.KnownBytes.{Appends}
use Rattle.std.proofs.lemmas.List.{append-nil}
use Rattle.hips_http.specs.SessionRun.{Flushes, FlushesAll}
use Rattle.hips_http.specs.Progress.{HasFlushed}
use Rattle.hips_http.proofs.Steps.{appends_trans}

none_more : (xs bytes : List ℕ) → xs ≡ xs ++ bytes → bytes ≡ []
none_more [] bytes is = sym is
none_more (x ∷ xs) bytes is = none_more xs bytes (cc)

-- a sink that holds nothing new was given nothing
appends_none : (xs bytes : List ℕ) (b : Option (List ℕ)) → b ≡ Some xs → Appends (Some xs) b bytes → bytes ≡ []
appends_none xs bytes b same h = none_more xs bytes (subst (λ (o : Option (List ℕ)). Appends (Some xs) o bytes) same h)

appends_as : (a b c : Option (List ℕ)) (bytes : List ℕ) → Appends a b bytes → c ≡ b → Appends a c bytes
appends_as a b c bytes h same = subst (λ (o : Option (List ℕ)). Appends a o bytes) (sym same) h

-- all that was written was flushed
pub hands_all : (w w2 h0 h2 : Option (List ℕ)) (out : List ℕ) → Appends w w2 out → FlushesAll w w2 h0 h2 → Flushes w h0 h2 out
hands_all w w2 h0 h2 out appended (inl on) = inl (appends_as w w2 h2 out appended on)
hands_all None w2 h0 h2 out appended (inr none) = inl tt
hands_all (Some xs) w2 h0 h2 out appended (inr none) = inr (none.1, appends_none xs out w2 none.0 appended)

-- all of what a request more was answered was flushed too
pub hands_all_on : (outputs : List (List ℕ)) (w w1 w2 h0 h1 h2 : Option (List ℕ)) → HasFlushed outputs w w1 h0 h1 → FlushesAll w1 w2 h1 h2 → FlushesAll w w2 h0 h2
hands_all_on outputs w w1 w2 h0 h1 h2 before (inl on) = inl on
hands_all_on outputs w w1 w2 h0 h1 h2 (inl none) (inr same) = inr (same.0 ∙ none.1, same.1 ∙ none.2)
hands_all_on outputs w w1 w2 h0 h1 h2 (inr on) (inr same) = inl (same.1 ∙ on ∙ sym same.0)

pub has_handed_all : (outputs : List (List ℕ)) (w w1 h0 h1 : Option (List ℕ)) → HasFlushed outputs w w1 h0 h1 → FlushesAll w w1 h0 h1
has_handed_all outputs w w1 h0 h1 (inl none) = inr (none.1, none.2)
has_handed_all outputs w w1 h0 h1 (inr on) = inl on

-- what was flushed when a writing failed: all that was answered before, and perhaps more
pub record HandsBefore (outputs : List (List ℕ)) (w h0 h2 : Option (List ℕ)) : Type 0 where
  pub more : List ℕ
  pub passed : List ℕ
  pub passed_is : passed ≡ concat outputs ++ more
  pub on : Flushes w h0 h2 passed

-- in a writing that failed some more was flushed
pub record HandsMore (w1 h1 h2 : Option (List ℕ)) : Type 0 where
  pub more : List ℕ
  pub on : Flushes w1 h1 h2 more

pub hands_before : (outputs : List (List ℕ)) (w w1 h0 h1 h2 : Option (List ℕ)) → Appends w w1 (concat outputs) → HasFlushed outputs w w1 h0 h1 → (m : HandsMore w1 h1 h2) → HandsBefore outputs w h0 h2
hands_before outputs w w1 h0 h1 h2 written before m = by_more m.more m.on before
  where
    by_more : (more : List ℕ) → Flushes w1 h1 h2 more → HasFlushed outputs w w1 h0 h1 → HandsBefore outputs w h0 h2
    by_more more (inl appended) before = record { more = more; passed = concat outputs ++ more; passed_is = refl; on = inl (appends_trans w w1 h2 (concat outputs) more written appended) }
    by_more more (inr same) (inl none) = record { more = []; passed = []; passed_is = rw none.0 refl; on = inr (same.0 ∙ none.2, refl) }
    by_more more (inr same) (inr on) = record {
      more = [];
      passed = concat outputs;
      passed_is = sym (append-nil (concat outputs));
      on = inl (appends_as w w1 h2 (concat outputs) written (same.0 ∙ on));
    }

-- the leave to send a body was flushed, and then nothing
pub hands_leave : (w w1 h h1 h2 : Option (List ℕ)) (leave : List ℕ) → Appends w w1 leave → FlushesAll w w1 h h1 → h2 ≡ h1 → Flushes w h h2 leave
hands_leave w w1 h h1 h2 leave appended on same = subst (λ (o : Option (List ℕ)). Flushes w h o leave) (sym same) (hands_all w w1 h h1 leave appended on)

pub hands_same : (w w1 w2 h h1 h2 : Option (List ℕ)) → FlushesAll w w1 h h1 → w2 ≡ w1 → h2 ≡ h1 → FlushesAll w w2 h h2
hands_same w w1 w2 h h1 h2 (inl on) kept same = inl (same ∙ on ∙ sym kept)
hands_same w w1 w2 h h1 h2 (inr none) kept same = inr (kept ∙ none.0, same ∙ none.1)
