use Rattle.std.proofs.Common.{ℕ, ap, ◌∙◌, sym, Some, None, option_map, Vec, Global}
use Rattle.std.specs.FinMap.{get}
use Rattle.tile_path.specs.declared.path.Path.{Path}
use Rattle.tile_path.specs.declared.path.Path.TheVariants.{Properties, Moc, Allsky}
use Rattle.tile_path.specs.Spelling.{spelling}
use Rattle.coverage_moc.specs.Cover.{MocCover}
use Rattle.coverage_moc.specs.CoverFile.{moc_file}
use Rattle.generation.specs.Files.{files_in}
use Rattle.generation.specs.Generation.{GenerationContent}
use Rattle.generation.proofs.FileLemmas.{properties_kept, moc_kept, mosaic_kept}
use Rattle.generation.proofs.generation.Generation.kept.Goals as goal

pub returns-in-Properties : goal.returns-in-Properties
returns-in-Properties c =
    ap Some c.deref.ensures.value ∙ properties_kept _ _ _ _ _ c.self.invariant c.spellings_differ.ensures
    ∙ ap (λ (g : GenerationContent). get (files_in g) (spelling Properties)) c.self.view_is ∙ ap (λ (p : Path). get (files_in c.args.self.now) (spelling p)) (sym c.in-Properties.is)

pub returns-in-Moc : goal.returns-in-Moc
returns-in-Moc c =
    ap Some (c.file.ensures ∙ ap (λ (v : MocCover). moc_file v.top v.rows) c.deref-in-Moc.ensures) ∙ moc_kept _ _ _ _ _ c.self.invariant c.spellings_differ.ensures
    ∙ ap (λ (g : GenerationContent). get (files_in g) (spelling Moc)) c.self.view_is ∙ ap (λ (p : Path). get (files_in c.args.self.now) (spelling p)) (sym c.in-Moc.is)

pub returns-in-Some : goal.returns-in-Some
returns-in-Some c =
    ap Some c.deref-in-Some.ensures.value ∙ mosaic_kept _ _ _ _ _ c.self.invariant c.spellings_differ.ensures (Some c.in-Some.file.items) (ap (option_map (λ (file : Vec ℕ Global). file.items)) c.in-Some.is)
    ∙ ap (λ (g : GenerationContent). get (files_in g) (spelling Allsky)) c.self.view_is ∙ ap (λ (p : Path). get (files_in c.args.self.now) (spelling p)) (sym c.in-Allsky.is)

pub returns-in-None : goal.returns-in-None
returns-in-None c =
    mosaic_kept _ _ _ _ _ c.self.invariant c.spellings_differ.ensures None (ap (option_map (λ (file : Vec ℕ Global). file.items)) c.in-None.is)
    ∙ ap (λ (g : GenerationContent). get (files_in g) (spelling Allsky)) c.self.view_is ∙ ap (λ (p : Path). get (files_in c.args.self.now) (spelling p)) (sym c.in-Allsky.is)
