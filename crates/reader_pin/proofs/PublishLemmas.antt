-- Which generations may be published.
use Rattle.std.proofs.Common.{◌≡◌, ◌<◌, length, take, refl, sym, ap, ◌∙◌, subst, arith}
use Rattle.edit_journal.specs.Leaves.{LeafTiles, leaves_of}
use Rattle.generation.specs.Generation.{GenerationContent}
use Rattle.survey_core.specs.History.{Precedes}
use Rattle.survey_core.specs.HistoryLaws.{all_is_end, leaves_stay}
use Rattle.survey_core.specs.State.{StateContent, state_edits, survey_state}
use Rattle.reader_pin.specs.Build.{whole_generation}
use Rattle.reader_pin.specs.Next.{IsPublishable}

-- that of all edits of a later state's earlier one
pub earlier_publishable : (early last : StateContent) (generation : GenerationContent) → generation ≡ whole_generation early → last.conf ≡ early.conf → last.opening ≡ early.opening →
    Precedes (survey_state early) (survey_state last) → last.tip < generation.prefix → IsPublishable last generation
earlier_publishable early last generation is conf opening precedes rises =
    let whole : IsPublishable last (whole_generation early) = record {
      conf = sym conf;
      rises = subst (λ (g : GenerationContent). last.tip < g.prefix) is rises;
      whole = precedes.ends (length (state_edits early)) (all_is_end early.batches);
      leaves = leaves_stay early.opening (survey_state early) (survey_state last) (length (state_edits early)) precedes (omega arith)
          ∙ ap (λ (o : LeafTiles). leaves_of o (take (length (state_edits early)) (state_edits last))) (sym opening);
    } in
    subst (IsPublishable last) (sym is) whole

-- that of all edits of the state itself
pub whole_publishable : (last : StateContent) (generation : GenerationContent) → generation ≡ whole_generation last → last.tip < length (state_edits last) → IsPublishable last generation
whole_publishable last generation is unpublished =
    let whole : IsPublishable last (whole_generation last) = record { conf = refl; rises = unpublished; whole = all_is_end last.batches; leaves = refl } in
    subst (IsPublishable last) (sym is) whole
