-- The order of a copy's requests and replies, and what was written in it.
use Rattle.std.proofs.Common.{◌≡◌, ◌≢◌, ◌⊎◌, inl, inr, ℕ, false, List, [], ◌∷◌, ◌++◌, Option, Some, None, Result, Ok, Err, refl, sym, ap, ◌∙◌, subst}
use Rattle.std.specs.Prelude.{IfOk, IfErr, OnOk, OnErr}
use Rattle.std.specs.Map.{keys_of}
use Rattle.std.specs.Io.KnownBytes.{Appends}
use Rattle.survey_link.specs.declared.source.Source as source
use Rattle.survey_link.specs.declared.sink.Sink as sink
use Rattle.generation.specs.Generation.{GenerationContent}
use Rattle.generation.specs.Files.{leaf_map}
use Rattle.tile_path.specs.declared.path.Path.TheVariants as path
use Rattle.mirror_frame.specs.Requests.{asks, later_asks, mirror_requests}
use Rattle.mirror_frame.specs.declared.ask.Ask.TheVariants.{Pin, File}
use Rattle.mirror_frame.specs.Reading.{unread}
use Rattle.mirror_frame.specs.Exchange.{Talk}
use Rattle.mirror_frame.specs.Peer.{talk, Goes}
use Rattle.mirror_frame.specs.declared.peer.Peer.{Peer}
use Rattle.mirror_frame.proofs.Exchanges.{conversed_sent, conversed_flushed}
use Rattle.hips_mirror.specs.declared.refusal.MirrorRefusal.{MirrorRefusal}
use Rattle.hips_mirror.specs.declared.refusal.MirrorRefusal.TheVariants.{OutOfMemory}
use Rattle.hips_mirror.specs.Mirror.{IsCopy, Refuses, TrueOf, StepsFit, is_read_fault, is_write_fault, is_shelf_fault, is_err_and}
use Rattle.hips_mirror.specs.Stages.{Reaches, IsRefused}
use Rattle.hips_mirror.specs.Order.{IsWhole, InOrder}
use Rattle.hips_mirror.proofs.StageLemmas.{unread_led, no_shelf}

no_asks : (top : ℕ) (leaves : List ℕ) → asks top leaves ≢ []
no_asks top leaves none = cc

pub unread_none : (held : List ℕ) (left : Option (List ℕ)) → held ≡ [] → unread held left ≡ left
unread_none held left none = subst (λ h. unread h left ≡ left) (sym none) (same left)
  where
    same : (o : Option (List ℕ)) → unread [] o ≡ o
    same None = refl
    same (Some x) = refl

-- what is true of the unread bytes, where none is held
pub true_from : (held : List ℕ) (left : Option (List ℕ)) (P : List ℕ → Type 0) → held ≡ [] → TrueOf left (λ bytes. P (held ++ bytes)) → TrueOf left P
true_from held left P none p = subst (λ h. TrueOf left (λ bytes. P (h ++ bytes))) none p

pub steps_from : {T E : Type 0} (r : Result T E) (held : List ℕ) (left : Option (List ℕ)) (steps steps' : ℕ) → held ≡ [] → OnErr r ((steps' ≡ steps) ⊎ StepsFit (unread held left) steps steps')
    → OnErr r ((steps' ≡ steps) ⊎ StepsFit left steps steps')
steps_from r held left steps steps' none fits = subst (λ o. OnErr r ((steps' ≡ steps) ⊎ StepsFit o steps steps')) (unread_none held left none) fits

module _ {S K : Type 0} (told_source : source.Ghosts S) (told_sink : sink.Ghosts K) where
  -- there was no memory to begin
  pub nothing_sent : {T : Type 0} (start : Talk S K) (r : Result T MirrorRefusal) → r ≡ Err OutOfMemory → InOrder told_source told_sink start start r
  nothing_sent {T} start r is =
      subst (λ (q : Result T MirrorRefusal). InOrder told_source told_sink start start q) (sym is)
      (inl (record {
        k = 0;
        top = 0;
        leaves = [];
        stops = record { done = []; rest = asks 0 []; are = refl; mid = start; conversed = refl; last = inl (refl, tt) };
        short = no_asks 0 [];
      }))

  -- all was sent, whatever comes then
  pub whole_anyhow : {T : Type 0} (old new : Talk S K) (r : Result T MirrorRefusal) → IsWhole told_source told_sink old new → InOrder told_source told_sink old new r
  whole_anyhow old new (Ok t) whole = whole
  whole_anyhow old new (Err why) whole = inr whole

  -- what a copy does to the ends, and that the shelf isn't what fails
  pub goes_of : (x y : Peer S K) (r : Result GenerationContent MirrorRefusal)
      → IfOk r (λ made. (k : ℕ) × Reaches told_source told_sink k (asks made.conf.shape.top (keys_of made.leaves)) (λ bytes rest. IsCopy bytes made.conf (leaf_map made.leaves)) x y)
      → IfErr r (IsRefused told_source told_sink x y) → Goes told_source told_sink (is_err_and is_read_fault r) (is_err_and is_write_fault r) x y
  goes_of x y (Ok made) copied refused = copied.1.goes
  goes_of x y (Err why) copied refused = refused.stopped.goes

  pub not_of_shelf : {T : Type 0} (x y : Peer S K) (r : Result T MirrorRefusal) → IfErr r (IsRefused told_source told_sink x y) → is_err_and is_shelf_fault r ≡ false
  not_of_shelf x y (Ok made) refused = refl
  not_of_shelf x y (Err why) refused = no_shelf told_source told_sink x y why refused

  module _ (x y : Peer S K) (start : Talk S K) (begins : talk x ≡ start) where
    pub order_of : (r : Result GenerationContent MirrorRefusal)
        → IfOk r (λ made. (k : ℕ) × Reaches told_source told_sink k (asks made.conf.shape.top (keys_of made.leaves)) (λ bytes rest. IsCopy bytes made.conf (leaf_map made.leaves)) x y)
        → IfErr r (IsRefused told_source told_sink x y) → InOrder told_source told_sink start (talk y) r
    order_of r copied refused = subst (λ (t : Talk S K). InOrder told_source told_sink t (talk y) r) begins (by r copied refused)
      where
        by : (q : Result GenerationContent MirrorRefusal)
            → IfOk q (λ made. (k : ℕ) × Reaches told_source told_sink k (asks made.conf.shape.top (keys_of made.leaves)) (λ bytes rest. IsCopy bytes made.conf (leaf_map made.leaves)) x y)
            → IfErr q (IsRefused told_source told_sink x y) → InOrder told_source told_sink (talk x) (talk y) q
        by (Ok made) copied refused = record { k = copied.0; top = made.conf.shape.top; leaves = keys_of made.leaves; conversed = copied.1.conversed }
        by (Err why) copied refused = inl (record { k = refused.k; top = refused.top; leaves = refused.leaves; stops = refused.stopped.stops; short = refused.short })

    pub sent_of : (r : Result GenerationContent MirrorRefusal)
        → IfOk r (λ made. (k : ℕ) × Reaches told_source told_sink k (asks made.conf.shape.top (keys_of made.leaves)) (λ bytes rest. IsCopy bytes made.conf (leaf_map made.leaves)) x y)
        → IfOk r (λ made. Appends (told_sink.held x.sink.now) (told_sink.held y.sink.now) (mirror_requests made.conf.shape.top (keys_of made.leaves)))
    unfolding mirror_requests
    sent_of (Ok made) copied = conversed_sent told_source told_sink copied.0 (asks made.conf.shape.top (keys_of made.leaves)) (talk x) (talk y) copied.1.conversed
    sent_of (Err why) copied = tt

    pub flushed_of : (r : Result GenerationContent MirrorRefusal)
        → IfOk r (λ made. (k : ℕ) × Reaches told_source told_sink k (asks made.conf.shape.top (keys_of made.leaves)) (λ bytes rest. IsCopy bytes made.conf (leaf_map made.leaves)) x y)
        → OnOk r (told_sink.flushed y.sink.now ≡ told_sink.held y.sink.now)
    flushed_of (Ok made) copied = conversed_flushed told_source told_sink copied.0 Pin (File path.Properties ∷ File path.Moc ∷ later_asks made.conf.shape.top (keys_of made.leaves)) (talk x) (talk y) copied.1.conversed
    flushed_of (Err why) copied = tt

    pub copied_of : (r : Result GenerationContent MirrorRefusal)
        → IfOk r (λ made. (k : ℕ) × Reaches told_source told_sink k (asks made.conf.shape.top (keys_of made.leaves)) (λ bytes rest. IsCopy bytes made.conf (leaf_map made.leaves)) x y)
        → start.held ≡ [] → IfOk r (λ made. TrueOf (told_source.left x.src.now) (λ bytes. IsCopy bytes made.conf (leaf_map made.leaves)))
    copied_of (Ok made) copied none =
        true_from (talk x).held (told_source.left x.src.now) (λ bytes. IsCopy bytes made.conf (leaf_map made.leaves)) (ap (λ t. t.held) begins ∙ none)
        (unread_led told_source told_sink copied.0 (asks made.conf.shape.top (keys_of made.leaves)) (λ bytes rest. IsCopy bytes made.conf (leaf_map made.leaves)) (λ bytes. IsCopy bytes made.conf (leaf_map made.leaves)) x y (λ p q copy. copy) copied.1)
    copied_of (Err why) copied none = tt

    pub refused_of : (r : Result GenerationContent MirrorRefusal) → IfErr r (IsRefused told_source told_sink x y) → start.held ≡ []
        → IfErr r (λ why. TrueOf (told_source.left x.src.now) (λ bytes. Refuses bytes why))
    refused_of (Ok made) refused none = tt
    refused_of (Err why) refused none =
        true_from (talk x).held (told_source.left x.src.now) (λ bytes. Refuses bytes why) (ap (λ t. t.held) begins ∙ none) refused.stopped.refused
