use Rattle.std.proofs.Common.{refl, inl, inr}
use Rattle.survey_commands.proofs.refusing.say_why.Goals as goal

pub returns-in-Tile-clause-said : goal.returns-in-Tile-clause-said
returns-in-Tile-clause-said g c = elim c.in-Tile.is [
  | inl w ↦ rw w.2 ((rw w.2 at c.say.ensures.said) _ refl)
  | inr w ↦ rw w.1 ((rw w.1 at c.say.ensures.said) _ refl)
]

pub returns-in-NoConf-clause-said : goal.returns-in-NoConf-clause-said
returns-in-NoConf-clause-said g c = elim c.in-NoConf.is [
  | inl e ↦ rw e ((rw e at c.say-in-NoConf.ensures.said) _ refl)
  | inr w ↦ rw w.1 ((rw w.1 at c.say-in-NoConf.ensures.said) _ refl)
]
