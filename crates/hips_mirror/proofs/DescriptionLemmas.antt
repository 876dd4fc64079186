-- The description that a peer tells.
use Rattle.std.proofs.Common.{◌≡◌, ℕ, false, [], ◌∷◌, Result, Ok, Err, refl, sym, subst}
use Rattle.std.specs.Prelude.{IfOk, IfErr}
use Rattle.survey_link.specs.declared.source.Source as source
use Rattle.survey_link.specs.declared.sink.Sink as sink
use Rattle.tile_path.specs.declared.path.Path.TheVariants.{Properties}
use Rattle.mirror_frame.specs.Reply.{IsReply, pinned_line}
use Rattle.mirror_frame.specs.Exchange.{IsExchanged}
use Rattle.mirror_frame.specs.Peer.{talk, body_of, Goes}
use Rattle.mirror_frame.specs.declared.ask.Ask.{Ask}
use Rattle.mirror_frame.specs.declared.ask.Ask.TheVariants.{Pin, File}
use Rattle.mirror_frame.specs.declared.due.Due.TheVariants.{Pinned, Survey}
use Rattle.mirror_frame.specs.declared.peer.Peer.{Peer}
use Rattle.hips_mirror.specs.declared.description.PeerSurvey.{PeerSurvey}
use Rattle.hips_mirror.specs.declared.refusal.MirrorRefusal.{MirrorRefusal}
use Rattle.hips_mirror.specs.Mirror.{IsProperties, WrongProperties, RefusesAt, Refuses, at_properties}
use Rattle.hips_mirror.specs.Stages.{Counts, TellsProperties, TellsSurvey, Reaches, IsRefusedIn}
use Rattle.hips_mirror.proofs.StageLemmas.{one_reached, reaches_then, stopped_then}
use Rattle.hips_mirror.proofs.CopyLemmas.{properties_step}

module _ {S K : Type 0} (told_source : source.Ghosts S) (told_sink : sink.Ghosts K) (k : ℕ) where
  pub properties_reached : (own : Ask) (x y : Peer S K) → own ≡ File Properties
      → IsExchanged told_source told_sink own (Survey k) (body_of y) (talk x) (talk y) → Goes told_source told_sink false false x y → (r : Result PeerSurvey MirrorRefusal) → IfOk r (λ survey. IsProperties (body_of y) survey.conf) → IfOk r (λ survey. Counts survey.conf (body_of y) survey.counted)
      → IfOk r (λ survey. Reaches told_source told_sink k (File Properties ∷ []) (TellsProperties k survey.conf survey.counted) x y)
  properties_reached own x y same exchanged goes (Ok survey) is counts =
      one_reached told_source told_sink k (File Properties) own (Survey k) x y same refl (TellsProperties k survey.conf survey.counted)
      (λ p q reply. record { body = body_of y; reply = reply; is = is; counts = counts }) exchanged goes
  properties_reached own x y same exchanged goes (Err why) is counts = tt

  module _ (x y z : Peer S K) (pinned : Reaches told_source told_sink k (Pin ∷ []) (λ bytes rest. IsReply Pinned bytes (pinned_line k) rest) x y) where
    pub description_reached : (r : Result PeerSurvey MirrorRefusal) → IfOk r (λ survey. survey.pinned ≡ k)
        → IfOk r (λ survey. Reaches told_source told_sink k (File Properties ∷ []) (TellsProperties k survey.conf survey.counted) y z)
        → IfOk r (λ survey. Reaches told_source told_sink survey.pinned (Pin ∷ File Properties ∷ []) (TellsSurvey survey.pinned survey.conf survey.counted) x z)
    description_reached (Ok survey) is last =
        subst (λ n. Reaches told_source told_sink n (Pin ∷ File Properties ∷ []) (TellsSurvey n survey.conf survey.counted) x z) (sym is)
        (reaches_then told_source told_sink k (Pin ∷ []) (File Properties ∷ []) (λ bytes rest. IsReply Pinned bytes (pinned_line k) rest) (TellsProperties k survey.conf survey.counted) (TellsSurvey k survey.conf survey.counted) x y z
        (properties_step k survey.conf survey.counted) pinned last)
    description_reached (Err why) is last = tt

    pub description_refused : (r : Result PeerSurvey MirrorRefusal) → IfErr r (λ why. IsRefusedIn told_source told_sink k (File Properties ∷ []) (λ bytes. RefusesAt (Survey k) 1 WrongProperties bytes why) y z why)
        → IfErr r (λ why. (n : ℕ) × IsRefusedIn told_source told_sink n (Pin ∷ File Properties ∷ []) (λ bytes. Refuses bytes why) x z why)
    description_refused (Ok survey) last = tt
    description_refused (Err why) last = (
      k,
      stopped_then told_source told_sink k (Pin ∷ []) (File Properties ∷ []) (λ bytes rest. IsReply Pinned bytes (pinned_line k) rest) (λ bytes. RefusesAt (Survey k) 1 WrongProperties bytes why) (λ bytes. Refuses bytes why) x y z why
          (λ p q reply wrong. at_properties k q reply wrong) pinned last,
    )
