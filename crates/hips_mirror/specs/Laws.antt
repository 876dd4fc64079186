-- Laws of copies, each the whole contract of a function of `laws`.
use Rattle.std.specs.Prelude.{◌≡◌, ◌⊎◌, ℕ, List, ⊤}
use Rattle.pyramid_model.specs.Shape.{LeafMap}
use Rattle.survey_conf.specs.Description.{Description}
use Rattle.edit_journal.specs.Leaves.{LeafTiles}
use Rattle.survey_core.specs.History.{SurveyState, Begins}
use Rattle.hips_mirror.specs.declared.refusal.MirrorRefusal.{MirrorRefusal}
use Rattle.hips_mirror.specs.declared.refusal.MirrorRefusal.TheVariants.{Reply, Properties, Cover, TooLarge, Leaf, Differs, Cut, ReadFault, WriteFault, ShelfFault, OutOfMemory}
use Rattle.hips_mirror.specs.Mirror.{IsCopy, Refuses}
use Rattle.hips_mirror.specs.Peer.{published, peer_bytes, CanBeCopied}

-- faults and running out of memory don't depend on the bytes
abbrev pub IsNoMatterOfBytes : MirrorRefusal → Type 0
IsNoMatterOfBytes (Reply told) = ⊥
IsNoMatterOfBytes Properties = ⊥
IsNoMatterOfBytes Cover = ⊥
IsNoMatterOfBytes (TooLarge count) = ⊥
IsNoMatterOfBytes (Leaf cell fault) = ⊥
IsNoMatterOfBytes (Differs path) = ⊥
IsNoMatterOfBytes Cut = ⊥
IsNoMatterOfBytes ReadFault = ⊤
IsNoMatterOfBytes WriteFault = ⊤
IsNoMatterOfBytes ShelfFault = ⊤
IsNoMatterOfBytes OutOfMemory = ⊤

-- two refusals of the same bytes: they are one, or one of them doesn't depend on the bytes
abbrev pub AreOne : MirrorRefusal → MirrorRefusal → Type 0
AreOne refusal other = (refusal ≡ other) ⊎ IsNoMatterOfBytes refusal ⊎ IsNoMatterOfBytes other

-- bytes are a copy of one description and of one map of leaves, and then they are refused by no stage; or in one way
pub record HasOneOutcome (bytes : List ℕ) : Type 0 where
  pub one : (d other : Description) (leaves more : LeafMap) → IsCopy bytes d leaves → IsCopy bytes other more → (d ≡ other) × (leaves ≡ more)
  pub not_refused : (d : Description) (leaves : LeafMap) (refusal : MirrorRefusal) → IsCopy bytes d leaves → Refuses bytes refusal → IsNoMatterOfBytes refusal
  pub one_refusal : (refusal other : MirrorRefusal) → Refuses bytes refusal → Refuses bytes other → AreOne refusal other

abbrev pub CopiesHaveOneOutcome : Type 0
CopiesHaveOneOutcome = (bytes : List ℕ) → HasOneOutcome bytes

-- the bytes are a copy of this description and these leaves, of no others, and are refused by no stage
pub record IsCopyOf (bytes : List ℕ) (conf : Description) (leaves : LeafMap) : Type 0 where
  pub copy : IsCopy bytes conf leaves
  pub one : (d : Description) (other : LeafMap) → IsCopy bytes d other → (d ≡ conf) × (other ≡ leaves)
  pub not_refused : (refusal : MirrorRefusal) → Refuses bytes refusal → IsNoMatterOfBytes refusal

-- what a peer sends that serves in order is a copy of the state that it holds
abbrev pub PeersAreCopied : Type 0
PeersAreCopied = (conf : Description) (opening : LeafTiles) (state : SurveyState) (bytes : List ℕ) → CanBeCopied conf opening state
    → Begins (peer_bytes conf opening state) bytes → IsCopyOf bytes conf (published opening state)
