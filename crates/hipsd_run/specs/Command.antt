-- What the words of a command line ask for. Numbers are plain decimals, without a sign and without leading zeros.
use Rattle.std.specs.Prelude.{◌≡◌, ℕ, ◌≤◌, Bool, true, false, List, [], ◌∷◌, map, codes, decimal, String, string_bytes, ⊤}
use Rattle.std.specs.declared.alloc.Global.{Global}
use Rattle.leaf_probe.specs.Probe.{IsProbe}
use Rattle.survey_commands.specs.Survey.{export_statuses, verify_statuses}
use Rattle.survey_commands.specs.Session.{session_statuses}
use Rattle.survey_commands.specs.Make.{IsMake, make_statuses}
use Rattle.survey_commands.specs.Serve.{IsServe, serve_statuses}
use Rattle.survey_commands.specs.Past.{IsPast, past_statuses}
use Rattle.survey_commands.specs.Mirror.{mirror_statuses}
use Rattle.catalog_command.specs.Run.{catalog_statuses}
use Rattle.hipsd_run.specs.Probe.{probe_statuses}
use Rattle.hipsd_run.specs.declared.command.Command.{Command}
use Rattle.hipsd_run.specs.declared.command.Command.TheVariants.{Probe as ProbeCommand, Session, Export, Verify, Make, Serve, Past, Catalog, Mirror}

-- the bytes of each word
abbrev pub texts : List (String Global) → List (List ℕ)
texts words = map string_bytes words

-- the second word, and nothing where there is none
abbrev pub second_word : List (List ℕ) → List ℕ
second_word [] = []
second_word (name ∷ []) = []
second_word (name ∷ word ∷ words) = word

-- the words that ask for a command, where this is the address at which connections come in, or that of the peer
abbrev pub words_of : List ℕ → Command → List (List ℕ)
words_of address (ProbeCommand asked) = codes "probe" ∷ decimal asked.top ∷ decimal asked.n ∷ decimal asked.order ∷ decimal asked.npix ∷ []
words_of address Session = codes "session" ∷ []
words_of address Export = codes "export" ∷ []
words_of address Verify = codes "verify" ∷ []
words_of address (Make number edits) = codes "make" ∷ decimal number ∷ decimal edits ∷ []
words_of address (Serve asked) = codes "serve" ∷ address ∷ decimal asked.connections ∷ decimal asked.places ∷ []
words_of address (Past cache) = codes "past" ∷ decimal cache ∷ []
words_of address (Catalog top per_tile) = codes "catalog" ∷ decimal top ∷ decimal per_tile ∷ []
words_of address Mirror = codes "mirror" ∷ address ∷ []

abbrev pub IsInRange : Command → Type 0
IsInRange (ProbeCommand asked) = IsProbe asked
IsInRange Session = ⊤
IsInRange Export = ⊤
IsInRange Verify = ⊤
IsInRange (Make number edits) = IsMake number edits
IsInRange (Serve asked) = IsServe asked.connections asked.places
IsInRange (Past cache) = IsPast cache
IsInRange (Catalog top per_tile) = (top ≤ 11) × (1 ≤ per_tile) × (per_tile ≤ 4096)
IsInRange Mirror = ⊤

-- the words ask for this command; any word may be the address
pub record Asks (words : List (List ℕ)) (command : Command) : Type 0 where
  pub address : List ℕ
  pub spelled : words ≡ words_of address command
  pub in_range : IsInRange command

-- the words are a valid command line
abbrev pub IsCommand : List (List ℕ) → Type 0
IsCommand words = (command : Command) × Asks words command

-- how many doors a command needs
abbrev pub doors_of : Command → ℕ
doors_of (ProbeCommand asked) = 0
doors_of Session = 0
doors_of Export = 0
doors_of Verify = 0
doors_of (Make number edits) = 0
doors_of (Serve asked) = asked.places
doors_of (Past cache) = 0
doors_of (Catalog top per_tile) = 0
doors_of Mirror = 0

-- they are valid if there are so many doors
abbrev pub IsCommandFor : ℕ → List (List ℕ) → Type 0
IsCommandFor doors words = (command : Command) × Asks words command × (doors_of command ≤ doors)

-- ---- what a command looks at

abbrev pub reads_source : Command → Bool
reads_source (ProbeCommand asked) = true
reads_source Session = true
reads_source Export = false
reads_source Verify = false
reads_source (Make number edits) = false
reads_source (Serve asked) = false
reads_source (Past cache) = true
reads_source (Catalog top per_tile) = true
reads_source Mirror = true

abbrev pub opens_shelf : Command → Bool
opens_shelf (ProbeCommand asked) = false
opens_shelf Session = true
opens_shelf Export = true
opens_shelf Verify = true
opens_shelf (Make number edits) = false
opens_shelf (Serve asked) = true
opens_shelf (Past cache) = true
opens_shelf (Catalog top per_tile) = true
opens_shelf Mirror = true

-- only `export`, `catalog` and `mirror` write files
abbrev pub writes_files : Command → Bool
writes_files (ProbeCommand asked) = false
writes_files Session = false
writes_files Export = true
writes_files Verify = false
writes_files (Make number edits) = false
writes_files (Serve asked) = false
writes_files (Past cache) = false
writes_files (Catalog top per_tile) = true
writes_files Mirror = true

-- only `serve` takes connections
abbrev pub opens_doors : Command → Bool
opens_doors (ProbeCommand asked) = false
opens_doors Session = false
opens_doors Export = false
opens_doors Verify = false
opens_doors (Make number edits) = false
opens_doors (Serve asked) = true
opens_doors (Past cache) = false
opens_doors (Catalog top per_tile) = false
opens_doors Mirror = false

-- how a command can end: by these statuses
abbrev pub statuses_of : Command → List ℕ
statuses_of (ProbeCommand asked) = probe_statuses
statuses_of Session = session_statuses
statuses_of Export = export_statuses
statuses_of Verify = verify_statuses
statuses_of (Make number edits) = make_statuses
statuses_of (Serve asked) = serve_statuses
statuses_of (Past cache) = past_statuses
statuses_of (Catalog top per_tile) = catalog_statuses
statuses_of Mirror = mirror_statuses
